-- Where no block that a run of the goto form reaches fails, no row of the query has a class.
use Rattle.std.proofs.Common.{◌≡◌, ◌⊎◌, inl, inr, ℕ, zero, suc, ◌+◌, ◌<◌, ◌^◌, Bool, true, false, cond, nat_eq, List, [], ◌∷◌, length, Option, Some, None, Ok, Err, refl, sym, ◌∙◌, subst, arith}
use Rattle.std.specs.Prelude.{slice_get}
use Rattle.std.proofs.lemmas.Bool.{eqb-true}
use Rattle.std.proofs.lemmas.Option.{same_Some, slice_get_within}
use Rattle.away_values.specs.declared.values.Value.{Value}
use Rattle.away_values.specs.declared.values.Value.TheVariants as val
use Rattle.away_values.specs.Operators.{is_true}
use Rattle.away_values.specs.Results.{Or}
use Rattle.block_forms.specs.declared.forms.End.{End}
use Rattle.block_forms.specs.declared.forms.End.TheVariants as jump
use Rattle.block_forms.specs.declared.forms.Goto.{Goto}
use Rattle.block_forms.specs.declared.forms.Ssa.{Ssa}
use Rattle.block_forms.specs.Forms.{Assignment, Pairs}
use Rattle.block_forms.specs.Named.{EndRenamed, Named}
use Rattle.call_forms.specs.declared.forms.Anf.{Anf}
use Rattle.call_forms.specs.declared.forms.AnfBlock.{AnfBlock}
use Rattle.call_forms.specs.declared.forms.Call.{Call}
use Rattle.call_forms.specs.declared.forms.CallEnd.{CallEnd}
use Rattle.call_forms.specs.declared.forms.CallEnd.TheVariants.{Go, Pick, Return, Fail}
use Rattle.call_forms.specs.declared.forms.Tail.{Tail}
use Rattle.call_forms.specs.Bodies.{Body, sets, enters, picks, returns, fails, calls, endless, goes_to, end_body, sets_first, block_body, tree, body_of}
use Rattle.call_forms.specs.Called.{Called, EndCalled}
use Rattle.call_forms.specs.Forms.{label_of, place_from}
use Rattle.call_forms.specs.Scopes.{Scope, paired}
use Rattle.call_forms.specs.TailRuns.{AtLabel, label_or}
use Rattle.together.specs.Steppers.{Turn, goes, ends, stops, faults, Where, going, ending, past, stopped, failed, after, stands}
use Rattle.cte_law.proofs.Branches.{scope_at, visit_at}
use Rattle.cte_law.proofs.States.{Ended, at_block, step_of, turn_of}
use Rattle.cte_law.proofs.Visits.{Visited, chosen, gives, goes_on, raises, renewed, stays, walked, with_term}
use Rattle.cte_law.proofs.Visits as visits
use Rattle.cte_law.proofs.Worlds.{World, OverTables, value_in}
use Rattle.batch_law.proofs.Joined.{call_of, call_stands}
use Rattle.inline_law.specs.Fails.{Fails, IsFail, Leads, Reached, at_entry, by_end}

-- ---- lists

element_there : {X : Type 0} (xs : List X) (i : ℕ) → i < length xs → (x : X) × (slice_get xs i ≡ Some x)
element_there [] i lt = absurd (omega (arith, lt))
element_there (x ∷ xs) zero lt = (x, refl)
element_there (x ∷ xs) (suc i) lt = element_there xs i (omega (arith, lt))

-- an element of one list has a partner in another one as long
partner : {X Y : Type 0} (xs : List X) (ys : List Y) → length ys ≡ length xs → (i : ℕ) (y : Y) → slice_get ys i ≡ Some y → (x : X) × (slice_get xs i ≡ Some x)
partner xs ys same i y at = element_there xs i (let low = slice_get_within ys i y at in omega (arith, low, same))

abbrev SomeNumber : Option ℕ → Type 0
SomeNumber None = ⊥
SomeNumber (Some i) = Unit {0}

record FoundFrom (n : ℕ) (xs : List ℕ) (b i : ℕ) : Type 0 where
  place : ℕ
  counted : i ≡ n + place
  there : slice_get xs place ≡ Some b

found_from : (n : ℕ) (xs : List ℕ) (b i : ℕ) → place_from n xs b ≡ Some i → FoundFrom n xs b i
found_from n [] b i e = absurd (subst SomeNumber (sym e) tt)
found_from n (x ∷ xs) b i e = by (nat_eq x b) refl e (found_from (suc n) xs b i)
  where
    by : (t : Bool) → nat_eq x b ≡ t → cond t (Some n) (place_from (suc n) xs b) ≡ Some i
        → (place_from (suc n) xs b ≡ Some i → FoundFrom (suc n) xs b i) → FoundFrom n (x ∷ xs) b i
    by true h e further = record { place = 0; counted = omega (arith, same_Some n i e); there = let same = eqb-true x b h in cc }
    by false h e further = let r = further e in record { place = suc r.place; counted = omega (arith, r.counted); there = r.there }

-- the place that is found has the number
place_found : (xs : List ℕ) (b i : ℕ) → place_from 0 xs b ≡ Some i → slice_get xs i ≡ Some b
place_found xs b i e =
    let found = found_from 0 xs b i e in
    let same : found.place ≡ i = omega (arith, found.counted) in
    subst (λ i. slice_get xs i ≡ Some b) same found.there

nothing_behind : (xs : List ℕ) (b : ℕ) → slice_get xs (length xs) ≡ Some b → ⊥
nothing_behind xs b e = let low = slice_get_within xs (length xs) b e in omega (arith, low)

-- ---- ends, from form to form

abbrev CallLeads : CallEnd → ℕ → Type 0
CallLeads (Go c) t = t ≡ c.target
CallLeads (Pick u x y) t = (t ≡ x.target) ⊎ (t ≡ y.target)
CallLeads (Return u) t = ⊥
CallLeads (Fail c) t = ⊥

abbrev IsCallFail : CallEnd → Type 0
IsCallFail (Go c) = ⊥
IsCallFail (Pick u x y) = ⊥
IsCallFail (Return u) = ⊥
IsCallFail (Fail c) = Unit {0}

called_leads : (z : Ssa) (a : Anf) (b : ℕ) (e : End) (e' : CallEnd) → EndCalled z a b e e' → (t : ℕ) → CallLeads e' t → Leads e t
called_leads z a b (jump.Jump c) (Go x) is t h = h ∙ is.target
called_leads z a b (jump.Branch u c d) (Pick v x y) is t (inl h) = inl (h ∙ is.1.target)
called_leads z a b (jump.Branch u c d) (Pick v x y) is t (inr h) = inr (h ∙ is.2.target)
called_leads z a b (jump.Branch u c d) (Go x) is t h = absurd is
called_leads z a b (jump.Return u) (Go x) is t h = absurd is
called_leads z a b (jump.Fail c) (Go x) is t h = absurd is
called_leads z a b (jump.Jump c) (Pick v x y) is t h = absurd is
called_leads z a b (jump.Return u) (Pick v x y) is t h = absurd is
called_leads z a b (jump.Fail c) (Pick v x y) is t h = absurd is
called_leads z a b e (Return u) is t h = absurd h
called_leads z a b e (Fail c) is t h = absurd h

called_fails : (z : Ssa) (a : Anf) (b : ℕ) (e : End) (e' : CallEnd) → EndCalled z a b e e' → IsCallFail e' → IsFail e
called_fails z a b e (Go x) is h = absurd h
called_fails z a b e (Pick v x y) is h = absurd h
called_fails z a b e (Return u) is h = absurd h
called_fails z a b (jump.Fail c) (Fail d) is h = tt
called_fails z a b (jump.Jump c) (Fail d) is h = absurd is
called_fails z a b (jump.Branch u c c') (Fail d) is h = absurd is
called_fails z a b (jump.Return u) (Fail d) is h = absurd is

renamed_leads : (m : Pairs) (e e' : End) → EndRenamed m e e' → (t : ℕ) → Leads e' t → Leads e t
renamed_leads m (jump.Jump c) (jump.Jump d) is t h = h ∙ sym is
renamed_leads m (jump.Branch u c d) (jump.Branch v c' d') is t (inl h) = inl (h ∙ sym is.1)
renamed_leads m (jump.Branch u c d) (jump.Branch v c' d') is t (inr h) = inr (h ∙ sym is.2)
renamed_leads m e (jump.Return u) is t h = absurd h
renamed_leads m e (jump.Fail c) is t h = absurd h
renamed_leads m (jump.Branch u c d) (jump.Jump c') is t h = absurd is
renamed_leads m (jump.Return u) (jump.Jump c') is t h = absurd is
renamed_leads m (jump.Fail x) (jump.Jump c') is t h = absurd is
renamed_leads m (jump.Jump c) (jump.Branch v c' d') is t h = absurd is
renamed_leads m (jump.Return u) (jump.Branch v c' d') is t h = absurd is
renamed_leads m (jump.Fail x) (jump.Branch v c' d') is t h = absurd is

renamed_fails : (m : Pairs) (e e' : End) → EndRenamed m e e' → IsFail e' → IsFail e
renamed_fails m (jump.Fail c) (jump.Fail d) is h = tt
renamed_fails m e (jump.Jump c) is h = absurd h
renamed_fails m e (jump.Branch u c d) is h = absurd h
renamed_fails m e (jump.Return u) is h = absurd h
renamed_fails m (jump.Jump c) (jump.Fail d) is h = absurd is
renamed_fails m (jump.Branch u c c') (jump.Fail d) is h = absurd is
renamed_fails m (jump.Return u) (jump.Fail d) is h = absurd is

-- ---- bodies

module _ (n p : ℕ) (g : Goto) (z : Ssa) (a : Anf) (r : Tail) (named : Named n p g z) (called : Called g z a) (never : Fails g → ⊥) where
  abbrev IsReached : ℕ → Type 0
  IsReached b = Reached g.blocks g.entry b

  -- the label's block is reached
  abbrev pub IsGoodLabel : ℕ → Type 0
  IsGoodLabel i = (b : ℕ) → slice_get r.labels i ≡ Some b → IsReached b

  -- it doesn't fail, and calls labels that are reached
  abbrev pub IsQuiet : Body → Type 0
  IsQuiet (sets n t x) = IsQuiet x
  IsQuiet (enters params args x) = IsQuiet x
  IsQuiet (picks t x y) = IsQuiet x × IsQuiet y
  IsQuiet (returns t) = Unit {0}
  IsQuiet (fails c) = ⊥
  IsQuiet (calls label places args) = IsGoodLabel label
  IsQuiet endless = Unit {0}

  -- the end of a block that is reached leads to such blocks, and isn't a fail
  record GoodEnd (e : CallEnd) : Type 0 where
    pub leads : (t : ℕ) → CallLeads e t → IsReached t
    pub sound : IsCallFail e → ⊥

  good_end : (b : ℕ) (x : AnfBlock) → IsReached b → slice_get a.blocks b ≡ Some x → GoodEnd x.end
  good_end b x reached there =
      let y = partner z.blocks a.blocks called.as_many_blocks b x there in
      let k = partner g.blocks z.blocks named.as_many_blocks b y.0 y.1 in
      let is_called = (called.blocks b y.0 x y.1 there).end in
      let is_named = (named.blocks b k.0 y.0 k.1 y.1).end in
      record {
        leads = λ t h. by_end k.0 reached k.1 (renamed_leads _ k.0.end y.0.end is_named t (called_leads z a b y.0.end x.end is_called t h));
        sound = λ h.
            never (record {
              number = b;
              block = k.0;
              reached = reached;
              is = k.1;
              fails = renamed_fails _ k.0.end y.0.end is_named (called_fails z a b y.0.end x.end is_called h);
            });
      }

  abbrev AllQuiet : (ℕ → Body) → Type 0
  AllQuiet next = (b : ℕ) → IsReached b → IsQuiet (next b)

  call_quiet : (next : ℕ → Body) → AllQuiet next → (c : Call) → IsReached c.target → (o : Option ℕ) → label_of r c.target ≡ o → IsQuiet (goes_to a r next c o)
  call_quiet next all c reached None e = all c.target reached
  call_quiet next all c reached (Some label) e =
      λ b there. subst IsReached (same_Some c.target b (sym (place_found r.labels c.target label e) ∙ there)) reached

  end_quiet : (next : ℕ → Body) → AllQuiet next → (e : CallEnd) → GoodEnd e → IsQuiet (end_body a r next e)
  end_quiet next all (Go c) h = call_quiet next all c (h.leads c.target refl) (label_of r c.target) refl
  end_quiet next all (Pick t x y) h = (
    call_quiet next all x (h.leads x.target (inl refl)) (label_of r x.target) refl,
    call_quiet next all y (h.leads y.target (inr refl)) (label_of r y.target) refl,
  )
  end_quiet next all (Return t) h = tt
  end_quiet next all (Fail c) h = absurd (h.sound tt)

  first_quiet : (s : Assignment) (x : Body) → IsQuiet x → IsQuiet (sets_first a r s x)
  first_quiet None x h = h
  first_quiet (Some p) x h = h

  block_quiet : (next : ℕ → Body) → AllQuiet next → (b : ℕ) → IsReached b → (o : Option AnfBlock) → slice_get a.blocks b ≡ o → IsQuiet (block_body a r next o)
  block_quiet next all b reached None e = tt
  block_quiet next all b reached (Some x) e = first_quiet x.set (end_body a r next x.end) (end_quiet next all x.end (good_end b x reached e))

  tree_quiet : (k : ℕ) → AllQuiet (tree a r k)
  tree_quiet zero b reached = tt
  tree_quiet (suc k) b reached = block_quiet (tree a r k) (tree_quiet k) b reached (slice_get a.blocks b) refl

  bodies_quiet : (b : ℕ) → IsReached b → IsQuiet (body_of a r b)
  bodies_quiet b = tree_quiet (length a.blocks) b

  entry_good : IsGoodLabel (label_or (length r.labels) (label_of r g.entry))
  entry_good = by (label_of r g.entry) refl
    where
      by : (o : Option ℕ) → label_of r g.entry ≡ o → IsGoodLabel (label_or (length r.labels) o)
      by None e = λ b there. absurd (nothing_behind r.labels b there)
      by (Some i) e = λ b there. subst IsReached (same_Some g.entry b (sym (place_found r.labels g.entry i e) ∙ there)) at_entry

-- ---- visits

module _ (w : World) (n p : ℕ) (z : Ssa) (named : Named n p w.goto z) (called : Called w.goto z w.anf) (never : Fails w.goto → ⊥) where
  abbrev GoodLabel : ℕ → Type 0
  GoodLabel = IsGoodLabel n p w.goto z w.anf w.tail named called never

  abbrev Quiet : Body → Type 0
  Quiet = IsQuiet n p w.goto z w.anf w.tail named called never

  abbrev QuietVisit : Visited → Type 0
  QuietVisit (gives v) = Unit {0}
  QuietVisit (raises c) = ⊥
  QuietVisit (visits.faults c) = Unit {0}
  QuietVisit (goes_on label row) = GoodLabel label
  QuietVisit stays = Unit {0}

  with_quiet : (o : Or Value) (next : Value → Visited) → ((v : Value) → QuietVisit (next v)) → QuietVisit (with_term o next)
  with_quiet (Err c) next h = tt
  with_quiet (Ok v) next h = h v

  chosen_quiet : (b : Bool) (x y : Visited) → QuietVisit x → QuietVisit y → QuietVisit (chosen b x y)
  chosen_quiet true x y h k = h
  chosen_quiet false x y h k = k

  walk_quiet : (x : Body) → Quiet x → (s : Scope Value) → QuietVisit (walked w x s)
  walk_quiet (sets m t x) h s = with_quiet (value_in w t s) (λ v. walked w x (renewed m v s)) (λ v. walk_quiet x h (renewed m v s))
  walk_quiet (enters params args x) h s = walk_quiet x h (paired s val.Null params args)
  walk_quiet (picks t x y) h s =
      with_quiet (value_in w t s) (λ v. chosen (is_true v) (walked w x s) (walked w y s))
      (λ v. chosen_quiet (is_true v) (walked w x s) (walked w y s) (walk_quiet x h.0 s) (walk_quiet y h.1 s))
  walk_quiet (returns t) h s = with_quiet (value_in w t s) gives (λ v. tt)
  walk_quiet (fails c) h s = absurd h
  walk_quiet (calls label places args) h s = h
  walk_quiet endless h s = tt

  abbrev QuietTurn : Turn AtLabel Ended → Type 0
  QuietTurn (goes s) = GoodLabel s.0
  QuietTurn (ends e) = e.1 ≡ val.Null
  QuietTurn stops = Unit {0}
  QuietTurn (faults c) = Unit {0}

  turn_quiet : (x : Visited) → QuietVisit x → QuietTurn (turn_of x)
  turn_quiet (gives v) h = refl
  turn_quiet (raises c) h = absurd h
  turn_quiet (visits.faults c) h = tt
  turn_quiet (goes_on label row) h = h
  turn_quiet stays h = refl

  step_quiet : (s : AtLabel) → GoodLabel s.0 → QuietTurn (step_of w s)
  step_quiet s good = by (slice_get w.tail.labels s.0) refl
    where
      by : (o : Option ℕ) → slice_get w.tail.labels s.0 ≡ o → QuietTurn (at_block w s o)
      by None e = tt
      by (Some b) e =
          turn_quiet (visit_at w s.0 b s.1)
          (walk_quiet (body_of w.anf w.tail b) (bodies_quiet n p w.goto z w.anf w.tail named called never b (good b e)) (scope_at w s.0 b s.1))

  abbrev QuietWhere : Where AtLabel Ended → Type 0
  QuietWhere (going s) = Unit {0}
  QuietWhere (ending e) = e.1 ≡ val.Null
  QuietWhere (past e) = e.1 ≡ val.Null
  QuietWhere stopped = Unit {0}
  QuietWhere (failed c) = Unit {0}

  after_quiet : (i : ℕ) (next : AtLabel → Where AtLabel Ended) → ((s : AtLabel) → GoodLabel s.0 → QuietWhere (next s)) → (t : Turn AtLabel Ended)
      → QuietTurn t → QuietWhere (after i next t)
  after_quiet i next go (goes s) h = go s h
  after_quiet zero next go (ends e) h = h
  after_quiet (suc i) next go (ends e) h = h
  after_quiet i next go stops h = tt
  after_quiet i next go (faults c) h = tt

  stands_quiet : (i : ℕ) (s : AtLabel) → GoodLabel s.0 → QuietWhere (stands (step_of w) i s)
  stands_quiet zero s good = tt
  stands_quiet (suc i) s good = after_quiet i (stands (step_of w) i) (stands_quiet i) (step_of w s) (step_quiet s good)

  -- no call ends with a class
  pub never_raises : (ok : OverTables w) (small : length w.tables < 2 ^ 64) (k : ℕ) (us : List Value) (e : Ended)
      → call_stands w ok small k us ≡ past e → e.1 ≡ val.Null
  never_raises ok small k us e h =
      subst QuietWhere h (stands_quiet k (call_of w ok small us) (entry_good n p w.goto z w.anf w.tail named called never))
