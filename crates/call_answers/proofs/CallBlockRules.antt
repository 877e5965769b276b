-- The block that a call has become.
use Rattle.std.proofs.Common.{◌≡◌, refl, sym, ap, ◌∙◌, subst, ℕ, suc, ◌+◌, List, [], ◌∷◌, length, slice_get, sum_by, Option, Some, None, IfSome, arith, false, is_some}
use Rattle.std.proofs.lemmas.Bool.{false≢true}
use Rattle.std.proofs.lemmas.List.Sums.{sum_by-append, sum_by-cons}
use Rattle.away_names.specs.Lookups.{Name}
use Rattle.away_trees.specs.declared.queries.Expr.{Expr}
use Rattle.away_trees.specs.declared.queries.Expr.TheVariants as expr
use Rattle.away_trees.specs.declared.statements.Decl.{Decl}
use Rattle.away_trees.specs.declared.statements.Stmt.{Stmt}
use Rattle.away_trees.specs.declared.statements.Stmt.TheVariants as stmt
use Rattle.plsql_meaning.specs.Outcomes.{Label}
use Rattle.call_meaning.proofs.Agreeing.{some_is}
use Rattle.call_meaning.specs.Alike.{Slots}
use Rattle.call_meaning.specs.Becomes.{Place, becomes, counted, slot_becomes}
use Rattle.call_meaning.specs.Calls.{callee}
use Rattle.call_meaning.specs.Expands.{Back, CallBecomes, ReturnsBy, calls_nobody, calls_part, kept, returns_by, slots_from, strict_tests}
use Rattle.call_meaning.specs.Renamed.{renaming}
use Rattle.moved_slots.specs.Moved.{slots_by}
use Rattle.call_answers.specs.declared.walking.Calls.TheVariants as become
use Rattle.call_answers.specs.declared.walking.Expansion.{Expansion}
use Rattle.call_answers.specs.declared.walking.InSight.{InSight}
use Rattle.call_answers.specs.declared.walking.Left.{Left}
use Rattle.call_answers.specs.declared.walking.Left.TheVariants as left
use Rattle.call_answers.specs.declared.walking.Placed.{Placed}
use Rattle.call_answers.specs.declared.walking.Spot.{Spot}
use Rattle.call_answers.specs.declared.walking.To.{To}
use Rattle.call_answers.specs.declared.walking.To.TheVariants as to
use Rattle.call_answers.specs.declared.walking.Walk.{Walk}
use Rattle.call_answers.specs.Calling.{AssignsTo, CallStands, CalleeStands, EndsCall, EndsWith, GoesOn, IsAt, IsPlaced, IsSet, Places, SetsAndLeaves, ValueStands, called, names, part_called}
use Rattle.call_answers.specs.Walking.{FallsOff, LeafBecomes, StmtBecomes, back, expanded, place, rules_of, rules_with, typed}
use Rattle.call_answers.proofs.CallLists.{arguments_many, tests_count}
use Rattle.call_answers.proofs.Chains.{block_counted, nothing_more}

pub if_some : {A : Type 0} (P Q : A → Type 0) (o : Option A) → ((a : A) → P a → Q a) → IfSome o P → IfSome o Q
if_some P Q None f h = h
if_some P Q (Some a) f h = f a h

-- ---- what is called

pub placed_is : (w : Walk) (by : Expansion) (t : To) (e : Expr) (s : Stmt) (g : Placed) → w.calls ≡ become.Expanded by → IsAt t e s → Places by t e g → IsPlaced w s g
placed_is w by t e s g k a h = record {
  expands = k ∙ ap (λ z. become.Expanded z) (sym h.expansion);
  value = e;
  stands = subst (λ z. IsAt z e s) (sym h.to) a;
  calls_part = subst (λ (z : Expansion). callee (names z.parts.now) e ≡ Some (called g.called)) (sym h.expansion) h.calls_part;
}

-- ---- what goes on

pub assigns_rule : (w : Walk) (m : Slots) (name : Name) (i j : ℕ) (y : Expr) (x : Stmt) → x ≡ stmt.Assign name (Some j) y → slot_becomes (rules_of w) m (Some i) (Some j) → AssignsTo w m i y x
assigns_rule w m name i j y x e h = record { name = name; slot' = Some j; is = e; slots = (h.place, h.null) }

pub sets_and_leaves : (i : ℕ) (label : Name) (y : Expr) (xs : List Stmt) (a b : Stmt) → xs ≡ a ∷ b ∷ [] → IsSet i y a → b ≡ stmt.Exit (Some label) None → SetsAndLeaves i label y xs
sets_and_leaves i label y xs a b e h f = (h.0, e ∙ (λ t. h.1 t ∷ f t ∷ []))

none_of : {A : Type 0} (o : Option A) → is_some o ≡ false → o ≡ None
none_of None e = refl
none_of (Some a) e = absurd (false≢true (sym e))

pub left_by_exit : (i : ℕ) (label : Name) (y : Expr) (x : Stmt) (own : Label) (ds : List Decl) (list xs : List Stmt) (closing : Label) → x ≡ stmt.Block own ds list closing → is_some own ≡ false → ds ≡ [] → xs ≡ list → SetsAndLeaves i label y xs → ReturnsBy i label y x
left_by_exit i label y x own ds list xs closing e bare f same h = record {
  name = h.0;
  closing = closing;
  is = e ∙ (λ t. stmt.Block (none_of own bare t) (f t) ((sym same ∙ h.1) t) closing);
}

tail_counts : (w : Walk) (b : Left) (m : Slots) (t : To) (v : Expr) (x : Stmt) → GoesOn w b m t v x → counted x ≡ 0
tail_counts w b m (to.Slot i) v x h = ap counted h.is
tail_counts w left.Whole m to.Result v x h = ap counted h
tail_counts w (left.Into i l) m to.Result v x h = ap counted h.is ∙ block_counted None [] (stmt.Assign h.name (Some i) v ∷ stmt.Exit (Some l.now) None ∷ []) h.closing

at_counts : (t : To) (e : Expr) (s : Stmt) → IsAt t e s → counted s ≡ 0
at_counts (to.Slot i) e s h = ap counted h.1
at_counts to.Result e s h = ap counted h

-- ---- a value that calls nobody

module _ (w : Walk) (c : InSight) (by : Expansion) where
  value_becomes : (t : To) (e : Expr) (s x : Stmt) → IsAt t e s → ValueStands w by (slots_by c.slots) t e x → (p : Spot) → becomes (rules_with w (become.Expanded by)) s (place c p) x
  value_becomes (to.Slot i) e s x a h p = subst (λ z. becomes (rules_with w (become.Expanded by)) z (place c p) x) (sym a.1) (calls_nobody h.nobody h.value h.same h.goes)
  value_becomes to.Result e s x a h p = subst (λ z. becomes (rules_with w (become.Expanded by)) z (place c p) x) (sym a) (calls_nobody h.nobody h.value h.same h.goes)

  value_is : (t : To) (e : Expr) (s x : Stmt) → w.calls ≡ become.Expanded by → IsAt t e s → ValueStands w by (slots_by c.slots) t e x → LeafBecomes (rules_of w) c s x
  value_is t e s x k a h p = subst (λ z. StmtBecomes (rules_with w z) c p s x p) (sym k) (record {
    it = value_becomes t e s x a h p;
    own = nothing_more p.at (counted s) (at_counts t e s a);
    new = nothing_more p.new (counted x) (tail_counts w by.left (slots_by c.slots) t h.value x h.goes);
  })

pub assign_stands : (w : Walk) (c : InSight) (name : Name) (slot : Option ℕ) (i : ℕ) (by : Expansion) (e : Expr) (x : Stmt) → w.calls ≡ become.Expanded by → slot ≡ Some i → ValueStands w by (slots_by c.slots) (to.Slot i) e x → LeafBecomes (rules_of w) c (stmt.Assign name slot e) x
assign_stands w c name slot i by e x k f h = value_is w c by (to.Slot i) e (stmt.Assign name slot e) x k (name, ap (λ z. stmt.Assign name z e) f) h

pub return_stands : (w : Walk) (c : InSight) (by : Expansion) (e : Expr) (x : Stmt) → w.calls ≡ become.Expanded by → ValueStands w by (slots_by c.slots) to.Result e x → LeafBecomes (rules_of w) c (stmt.Return e) x
return_stands w c by e x k h = value_is w c by to.Result e (stmt.Return e) x k refl h

-- ---- the place of the callee's body

pub alone_rule : (xs : List Stmt) (b end : Stmt) → xs ≡ b ∷ end ∷ [] → FallsOff end → EndsWith [] xs 0
alone_rule xs b end e h = record {
  body = b;
  raised = h.0;
  is = e ∙ ap (λ z. b ∷ z ∷ []) h.1.0;
  raises = h.1.1;
  there = ap (λ z. slice_get z 0) e;
}

pub tested_rule : (test : Stmt) (xs : List Stmt) (a b end : Stmt) → xs ≡ a ∷ b ∷ end ∷ [] → a ≡ test → FallsOff end → EndsWith (test ∷ []) xs 1
tested_rule test xs a b end e f h = record {
  body = b;
  raised = h.0;
  is = e ∙ (λ t. f t ∷ b ∷ h.1.0 t ∷ []);
  raises = h.1.1;
  there = ap (λ z. slice_get z 1) e;
}

-- ---- the whole block

module _ (w : Walk) (c : InSight) (p : Spot) (g : Placed) (decls params : List Decl) (xs inner : List Stmt) (block tail : Stmt) (label : Name) (q : Spot)
    (listed : xs ≡ block ∷ tail ∷ []) (is : block ≡ stmt.Block (Some label) params inner None)
    (ends : EndsCall w (slots_by c.slots) p.new g decls tail) (stands : CalleeStands w (slots_by c.slots) p g label params inner q) where
  abbrev Made : Stmt
  Made = stmt.Block None decls xs None

  abbrev Deep : Back → Place → Stmt → Type 0
  Deep = expanded (typed w) g.expansion g.expansion.depth g.called.part

  call_is : (goes : Expr → Stmt → Type 0) → goes (expr.Slot p.new) tail → CallBecomes renaming (typed w) (part_called g) Deep (place c p) g.called.args.now goes Made
  call_is goes h = record {
    result = ends.result.0.0;
    label = label;
    params = params;
    body = stands.body;
    raised = stands.raised;
    tail = tail;
    is = λ t. stmt.Block None (ends.result.0.1.0 t) ((listed ∙ ap (λ z. z ∷ tail ∷ []) (is ∙ ap (λ z. stmt.Block (Some label) params z None) stands.is)) t) None;
    no_default = ends.result.0.1.1;
    nullable = ends.result.1;
    as_many = stands.as_many;
    arguments = stands.arguments;
    inner = stands.becomes;
    raises = stands.raises;
    goes = h;
  }

  made_becomes : (t : To) (e : Expr) (s : Stmt) → IsAt t e s → callee (names g.expansion.parts.now) e ≡ Some (called g.called) → GoesOn w g.expansion.left (slots_by c.slots) t (kept g.called.conversion (expr.Slot p.new)) tail
      → becomes (rules_with w (become.Expanded g.expansion)) s (place c p) Made
  made_becomes (to.Slot i) e s a k h = subst (λ z. becomes (rules_with w (become.Expanded g.expansion)) z (place c p) Made) (sym a.1)
      (calls_part (called g.called) k (call_is (λ v x. AssignsTo w (slots_by c.slots) i (kept g.called.conversion v) x) h))
  made_becomes to.Result e s a k h = subst (λ z. becomes (rules_with w (become.Expanded g.expansion)) z (place c p) Made) (sym a)
      (calls_part (called g.called) k (call_is (λ v x. returns_by (back g.expansion.left) (kept g.called.conversion v) x) h))

  made_counts : q.new ≡ p.new + counted Made
  made_counts =
      let front = strict_tests (part_called g).function.strict label (slots_from (length (part_called g).function.params) (suc p.new)) in
      let rest = stands.body ∷ stmt.Raise stands.raised ∷ [] in
      let a = block_counted None decls xs None in
      let b = ap length ends.result.0.1.0 in
      let d = ap (sum_by counted) listed ∙ (sum_by-cons counted block (tail ∷ []) ∙ ap (λ k. counted block + k) (sum_by-cons counted tail [])) in
      let e = ap counted is ∙ block_counted (Some label) params inner None in
      let f = ap (sum_by counted) stands.is ∙ sum_by-append counted front rest in
      let k = tests_count (part_called g).function.strict (length (part_called g).function.params) (suc p.new) label in
      let l = sum_by-cons counted stands.body (stmt.Raise stands.raised ∷ []) in
      let r : sum_by counted (stmt.Raise stands.raised ∷ []) ≡ 0 = refl in
      let m = tail_counts w g.expansion.left (slots_by c.slots) g.to (kept g.called.conversion (expr.Slot p.new)) tail ends.goes in
      let n = sym stands.as_many ∙ arguments_many (typed w) (slots_by c.slots) (suc p.new) g.called.args.now params stands.arguments in
      let o = stands.new in
      omega (arith, a, b, d, e, f, k, l, m, n, o, r)

  pub call_rule : CallStands w c p g decls xs q
  call_rule s h = subst (λ z. StmtBecomes (rules_with w z) c p s Made q) (sym h.expands) (record {
    it = made_becomes g.to h.value s h.stands h.calls_part ends.goes;
    own = stands.own ∙ nothing_more p.at (counted s) (at_counts g.to h.value s h.stands);
    new = made_counts;
  })

-- ---- by equations

two_are : {A : Type 0} (xs : List A) (a b : A) → length xs ≡ 2 → slice_get xs 0 ≡ Some a → slice_get xs 1 ≡ Some b → xs ≡ a ∷ b ∷ []
two_are [] a b e f g = absurd (omega (arith, e))
two_are (x ∷ []) a b e f g = absurd (omega (arith, e))
two_are (x ∷ y ∷ []) a b e f g = λ t. some_is x a f t ∷ some_is y b g t ∷ []
two_are (x ∷ y ∷ z ∷ zs) a b e f g = absurd (omega (arith, e))

pub call_by : (w : Walk) (c : InSight) (p : Spot) (g : Placed) (decls params ps : List Decl) (xs inner list : List Stmt) (block tail : Stmt) (label : Name) (own closing : Label) (cs : List (ℕ × ℕ)) (q : Spot)
    → length xs ≡ 2 → slice_get xs 0 ≡ Some block → slice_get xs 1 ≡ Some tail → block ≡ stmt.Block own params inner closing → own ≡ Some label → is_some closing ≡ false → ps ≡ params → list ≡ inner → cs ≡ c.slots
    → EndsCall w (slots_by cs) p.new g decls tail → CalleeStands w (slots_by c.slots) p g label ps list q → CallStands w c p g decls xs q
call_by w c p g decls params ps xs inner list block tail label own closing cs q two first second is named bare same same' seen ends stands =
    call_rule w c p g decls ps xs list block tail label q (two_are xs block tail two first second)
    (is ∙ (λ t. stmt.Block (named t) (sym same t) (sym same' t) (none_of closing bare t)))
    (subst (λ z. EndsCall w (slots_by z) p.new g decls tail) seen ends) stands
