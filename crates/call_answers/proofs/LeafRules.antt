-- What a statement that takes no slots has become.
use Rattle.std.proofs.Common.{◌≡◌, refl, sym, ap, ◌∙◌, subst, ℕ, zero, suc, ◌+◌, Bool, true, false, List, [], ◌∷◌, ◌++◌, length, sum_by, Bor, Option, Some, None, arith}
use Rattle.std.proofs.lemmas.List.Sums.{sum_by-append, sum_by-cons}
use Rattle.away_values.specs.declared.types.Ty.{Ty}
use Rattle.away_names.specs.Lookups.{Name}
use Rattle.away_trees.specs.declared.queries.Expr.{Expr}
use Rattle.away_trees.specs.declared.queries.Select.{Select}
use Rattle.away_trees.specs.declared.statements.Raised.{Raised}
use Rattle.away_trees.specs.declared.statements.Stmt.{Stmt}
use Rattle.away_trees.specs.declared.statements.Stmt.TheVariants as stmt
use Rattle.plsql_meaning.specs.Outcomes.{Label}
use Rattle.call_meaning.specs.Alike.{Names, Slots}
use Rattle.call_meaning.specs.Becomes.{Place, counted, slot_becomes, targets_become}
use Rattle.call_meaning.specs.Calls.{callee}
use Rattle.call_meaning.specs.Expands.{slots_from}
use Rattle.call_meaning.specs.Renamed.{ExprRenamed, SelectRenamed, renaming}
use Rattle.call_meaning.specs.Untails.{TailBecomes, calls_itself, moves_slots, null_ends, returns_value, sets_arguments}
use Rattle.moved_slots.specs.Moved.{slots_by}
use Rattle.call_answers.specs.declared.walking.Calls.TheVariants as become
use Rattle.call_answers.specs.declared.walking.InSight.{InSight}
use Rattle.call_answers.specs.declared.walking.Walk.{Walk}
use Rattle.call_answers.specs.Walking.{IsNextTurn, IsTurn, LeafBecomes, MaybeRenamed, StmtBecomes, labels, null_arm, part, place, rules_of, rules_with, turn_rules, typed}
use Rattle.call_answers.proofs.BecomingRules.{maybe_is}
use Rattle.call_answers.proofs.Chains.{arm_counted, arm_counts, block_counted, if_counted, nothing_more}

module _ (w : Walk) (c : InSight) where
  abbrev Leaf : Stmt → Stmt → Type 0
  Leaf = LeafBecomes (rules_of w) c

  pub exit_rule : (label label' : Label) (when when' : Option Expr) → Names c.looped (labels c).exit label label' → MaybeRenamed (slots_by c.slots) when when' → Leaf (stmt.Exit label when) (stmt.Exit label' when')
  exit_rule label label' when when' h k p = record {
    it = (label', when', (refl, h, maybe_is w c (slots_by c.slots) when when' k));
    own = nothing_more p.at 0 refl;
    new = nothing_more p.new 0 refl;
  }

  pub continue_rule : (label label' : Label) (when when' : Option Expr) → Names c.looped (labels c).continue label label' → MaybeRenamed (slots_by c.slots) when when' → Leaf (stmt.Continue label when) (stmt.Continue label' when')
  continue_rule label label' when when' h k p = record {
    it = (label', when', (refl, h, maybe_is w c (slots_by c.slots) when when' k));
    own = nothing_more p.at 0 refl;
    new = nothing_more p.new 0 refl;
  }

  pub raise_rule : (r r' : Raised) → r ≡ r' → Leaf (stmt.Raise r) (stmt.Raise r')
  raise_rule r r' h p = record {
    it = ap (λ x. stmt.Raise x) (sym h);
    own = nothing_more p.at 0 refl;
    new = nothing_more p.new 0 refl;
  }

  pub into_rule : (strict strict' : Bool) (ts ts' : List (Name × Option ℕ)) (q q' : Select) → strict ≡ strict' → targets_become (rules_of w) (slots_by c.slots) ts ts' → SelectRenamed (slots_by c.slots) q q'
      → Leaf (stmt.Into strict ts q) (stmt.Into strict' ts' q')
  into_rule strict strict' ts ts' q q' e h k p = record {
    it = (ts', q', (ap (λ b. stmt.Into b ts' q') (sym e), h, k));
    own = nothing_more p.at 0 refl;
    new = nothing_more p.new 0 refl;
  }

  pub nothing_rule : Leaf stmt.Nothing stmt.Nothing
  nothing_rule p = record { it = refl; own = nothing_more p.at 0 refl; new = nothing_more p.new 0 refl }

  pub assign_rule : (label name other : Name) (slot slot' : Option ℕ) (i j : ℕ) (e y : Expr) (x : Stmt) (pairs : List (ℕ × ℕ)) → pairs ≡ c.slots → slot ≡ Some i → x ≡ stmt.Assign other slot' y → slot' ≡ Some j
      → callee (w.name.now ∷ []) e ≡ None → slot_becomes (rules_of w) (slots_by pairs) (Some i) (Some j) → ExprRenamed (slots_by pairs) e y → LeafBecomes (turn_rules w label) c (stmt.Assign name slot e) x
  assign_rule label name other slot slot' i j e y x pairs q f g f' n h k p =
      let h' = subst (λ z. slot_becomes (rules_of w) (slots_by z) (Some i) (Some j)) q h in
      subst (λ z. StmtBecomes (turn_rules w label) c p (stmt.Assign name z e) x p) (sym f) (subst (λ z. StmtBecomes (turn_rules w label) c p (stmt.Assign name (Some i) e) z p) (sym (g ∙ ap (λ o. stmt.Assign other o y) f')) (record {
        it = record {
          nobody = n;
          value = y;
          same = subst (λ z. ExprRenamed (slots_by z) e y) q k;
          assigns = record { name = other; slot' = Some j; is = refl; slots = (h'.place, h'.null) };
        };
        own = nothing_more p.at 0 refl;
        new = nothing_more p.new 0 refl;
      }))

  pub return_rule : (label : Name) (e y : Expr) (x : Stmt) (pairs : List (ℕ × ℕ)) → pairs ≡ c.slots → x ≡ stmt.Return y → callee (w.name.now ∷ []) e ≡ None → ExprRenamed (slots_by pairs) e y → LeafBecomes (turn_rules w label) c (stmt.Return e) x
  return_rule label e y x pairs q g n k p = record {
    it = returns_value n y (subst (λ z. ExprRenamed (slots_by z) e y) q k) g;
    own = nothing_more p.at 0 refl;
    new = nothing_more p.new (counted x) (ap counted g);
  }

  -- where self calls are turns
  pub by_turns : (label : Bor Name) (s x : Stmt) → w.calls ≡ become.Turns label → LeafBecomes (turn_rules w label.now) c s x → Leaf s x
  by_turns label s x e h = subst (λ k. LeafBecomes (rules_with w k) c s x) (sym e) h

  -- by an equation
  pub leaf_by : (s s' x : Stmt) → s ≡ s' → Leaf s' x → Leaf s x
  leaf_by s s' x e h p = subst (λ z. StmtBecomes (rules_of w) c p z x p) (sym e) (h p)

-- ---- the block of a self call takes no slots

module _ (ty : List (Ty × Bool)) (m : Slots) where
  sets_count : (i : ℕ) (as_ : List Expr) (xs : List Stmt) → sets_arguments renaming ty m i as_ xs → sum_by counted xs ≡ 0
  sets_count i [] [] h = refl
  sets_count i [] (x ∷ xs) h = absurd h
  sets_count i (a ∷ as_) [] h = absurd h
  sets_count i (a ∷ as_) (x ∷ xs) h = sum_by-cons counted x xs ∙ (λ k. counted (h.0.2.0 k) + sets_count (suc i) as_ xs h.2 k)

  moves_count : (n i j : ℕ) (xs : List Stmt) → moves_slots ty n i j xs → sum_by counted xs ≡ 0
  moves_count zero i j [] h = refl
  moves_count zero i j (x ∷ xs) h = absurd h
  moves_count (suc n) i j [] h = absurd h
  moves_count (suc n) i j (x ∷ xs) h = sum_by-cons counted x xs ∙ (λ k. counted (h.0.1 k) + moves_count n (suc i) (suc j) xs h.2 k)

ends_count : (strict : Bool) (n : ℕ) (l : Label) → sum_by counted (null_ends strict (slots_from n 0) ++ (stmt.Continue l None ∷ [])) ≡ 0
ends_count false n l = refl
ends_count true zero l = refl
ends_count true (suc n) l =
    sum_by-cons counted (stmt.If (null_arm (suc n) ∷ []) None) (stmt.Continue l None ∷ [])
    ∙ ap (λ k. k + 0) (if_counted (null_arm (suc n) ∷ []) None ∙ ap (λ k. k + 0) (sum_by-cons arm_counted (null_arm (suc n)) [] ∙ ap (λ k. k + 0) (arm_counts (null_arm (suc n)))))

module _ (w : Walk) (label : Name) where
  turn_counts : (c : Place) (args : List Expr) (x : Stmt) → TailBecomes renaming (typed w) (part w).function label c args x → counted x ≡ 0
  turn_counts c args x h =
      let n = length w.f.now.params in
      let ends = null_ends w.f.now.strict (slots_from n 0) ++ (stmt.Continue (Some label) None ∷ []) in
      let a = sets_count (typed w) c.slots n args h.qs h.sets in
      let b = moves_count (typed w) c.slots n 0 n h.ps h.moves in
      let d = ends_count w.f.now.strict n (Some label) in
      let e = sum_by-append counted h.qs (h.ps ++ ends) in
      let f = sum_by-append counted h.ps ends in
      let g = ap counted h.is ∙ block_counted None [] (h.qs ++ (h.ps ++ ends)) h.closing in
      omega (arith, a, b, d, e, f, g)

  pub next_turn_rule : (c : InSight) (e : Expr) (args : List Expr) (x : Stmt) (pairs : List (ℕ × ℕ)) → pairs ≡ c.slots → callee (w.name.now ∷ []) e ≡ Some (record { conversion = None; part = 0; args = args })
      → IsNextTurn w label (slots_by pairs) args x → LeafBecomes (turn_rules w label) c (stmt.Return e) x
  next_turn_rule c e args x pairs q n h p =
      let t = h (place c p) (ap (λ z. slots_by z) (sym q)) in
      record {
        it = calls_itself args n t;
        own = nothing_more p.at 0 refl;
        new = nothing_more p.new (counted x) (turn_counts (place c p) args x t);
      }

  pub is_next_turn_rule : (m : Slots) (args : List Expr) (xs : List Stmt) (closing : Label) → length args ≡ length w.f.now.params → IsTurn w label m (length args) args xs → IsNextTurn w label m args (stmt.Block None [] xs closing)
  is_next_turn_rule m args xs closing e h c k =
      let t = subst (λ n. IsTurn w label m n args xs) e h in
      record {
        qs = t.0;
        ps = t.1;
        closing = closing;
        is = ap (λ ys. stmt.Block None [] ys closing) t.2.0;
        as_many = e;
        sets = subst (λ z. sets_arguments renaming (typed w) z (length w.f.now.params) args t.0) (sym k) t.2.1;
        moves = t.2.2;
      }
