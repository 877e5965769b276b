-- Where each call is of a head, a run is over within as many visits as it visits heads, and one more.
use Rattle.std.proofs.Common.{◌≡◌, ℕ, zero, suc, ◌+◌, ◌≤◌, Bool, true, false, List, Option, Some, None, Ok, Err, refl, ap, sym, ◌∙◌, subst, arith}
use Rattle.std.specs.Prelude.{slice_get}
use Rattle.away_trees.specs.declared.queries.Query.{Query}
use Rattle.away_values.specs.declared.values.Value.{Value}
use Rattle.away_values.specs.declared.values.Value.TheVariants as val
use Rattle.away_values.specs.Operators.{is_true}
use Rattle.away_values.specs.Results.{Or}
use Rattle.block_forms.specs.Machines.{Ran, counted, then_goes, go, IsOver}
use Rattle.block_forms.specs.MachineLaws.{stays_from}
use Rattle.call_forms.specs.Bodies.{Body, sets, enters, picks, returns, fails, calls, endless, body_of}
use Rattle.call_forms.specs.Scopes.{Scope, paired}
use Rattle.call_forms.specs.TailRuns.{label_visit, heads_label, entry_label, first_row, tail_runs}
use Rattle.cte_law.proofs.Branches.{scope_at, visit_at}
use Rattle.cte_law.proofs.Visits.{Visited, gives, raises, faults, goes_on, stays, move_of, with_term, chosen, renewed, walked, BodyRaisesClasses}
use Rattle.cte_law.proofs.Worlds.{World, frame_in, value_in}
use Rattle.turn_law.specs.TurnAnswers.{AnswersInTurns, AnswersByHeads}
use Rattle.turn_template.specs.Unfolded.{CallsHeads}
use Rattle.turn_law.proofs.Theorem.{machine, visit_is}

module _ (w : World) (raise : (b : ℕ) → BodyRaisesClasses (body_of w.anf w.tail b)) where
  abbrev pub head_at : ℕ → Bool
  head_at i = heads_label (frame_in w) w.anf w.tail (slice_get w.tail.labels i)

  abbrev AtHead : Visited → Type 0
  AtHead (goes_on i row) = head_at i ≡ true
  AtHead (gives v) = Unit {0}
  AtHead (raises c) = Unit {0}
  AtHead (faults c) = Unit {0}
  AtHead stays = Unit {0}

  head_with : (o : Or Value) (next : Value → Visited) → ((v : Value) → AtHead (next v)) → AtHead (with_term o next)
  head_with (Ok v) next h = h v
  head_with (Err c) next h = tt

  head_chosen : (b : Bool) (x y : Visited) → AtHead x → AtHead y → AtHead (chosen b x y)
  head_chosen true x y h k = h
  head_chosen false x y h k = k

  walks_to_head : (x : Body) → CallsHeads head_at x → (s : Scope Value) → AtHead (walked w x s)
  walks_to_head (sets n t x) h s = head_with (value_in w t s) (λ v. walked w x (renewed n v s)) (λ v. walks_to_head x h (renewed n v s))
  walks_to_head (enters params args x) h s = walks_to_head x h (paired s val.Null params args)
  walks_to_head (picks t x y) h s =
      head_with (value_in w t s) (λ v. chosen (is_true v) (walked w x s) (walked w y s))
      (λ v. head_chosen (is_true v) (walked w x s) (walked w y s) (walks_to_head x h.0 s) (walks_to_head y h.1 s))
  walks_to_head (returns t) h s = head_with (value_in w t s) gives (λ v. tt)
  walks_to_head (fails c) h s = tt
  walks_to_head (calls label places args) h s = h
  walks_to_head endless h s = tt

  module _ (heads : (i b : ℕ) → slice_get w.tail.labels i ≡ Some b → CallsHeads head_at (body_of w.anf w.tail b)) where
    -- a run that is over is over within so many visits, and has so many heads at least
    pub record Soon (run : ℕ → Ran) (m least : ℕ) : Type 0 where
      pub visits : ℕ
      pub fewer : visits ≤ m
      pub over : IsOver (run visits).answer
      pub counts : least + visits ≤ suc (run m).heads

    -- after a visit, with h heads before and c with it
    after_visit : (m : ℕ) → ((i : ℕ) (row : List Value) (h : ℕ) → head_at i ≡ true → IsOver (go (machine w raise) m (i, row) h).answer
        → Soon (λ v. go (machine w raise) v (i, row) h) m (suc h)) → (c : ℕ) (x : Visited) → AtHead x
        → IsOver (then_goes (move_of x) (go (machine w raise) m) c).answer
        → (v : ℕ) × (v ≤ m) × IsOver (then_goes (move_of x) (go (machine w raise) v) c).answer
        × (c + v ≤ (then_goes (move_of x) (go (machine w raise) m) c).heads)
    after_visit m from c (gives u) at over = (0, omega arith, over, omega arith)
    after_visit m from c (raises u) at over = (0, omega arith, over, omega arith)
    after_visit m from c (faults u) at over = (0, omega arith, over, omega arith)
    after_visit m from c (goes_on j next) at over = let soon = from j next c at over in (soon.visits, soon.fewer, soon.over, omega (arith, soon.counts))
    after_visit m from c stays at over = absurd over

    abbrev goes : ℕ → ℕ → List Value → ℕ → Ran
    goes m i row h = go (machine w raise) m (i, row) h

    abbrev label_goes : ℕ → ℕ → List Value → ℕ → Option ℕ → Ran
    label_goes m i row c o = then_goes (label_visit (frame_in w) w.anf w.tail i o row) (go (machine w raise) m) c

    visit_soon : (m : ℕ) → ((i : ℕ) (row : List Value) (h : ℕ) → head_at i ≡ true → IsOver (goes m i row h).answer → Soon (λ v. goes v i row h) m (suc h))
        → (i : ℕ) (row : List Value) (c : ℕ) (o : Option ℕ) → slice_get w.tail.labels i ≡ o → IsOver (label_goes m i row c o).answer
        → (v : ℕ) × (v ≤ m) × IsOver (label_goes v i row c o).answer × (c + v ≤ (label_goes m i row c o).heads)
    visit_soon m from i row c None found over = absurd over
    visit_soon m from i row c (Some b) found over =
        let is = visit_is w raise i b row in
        let x : Visited = visit_at w i b row in
        let soon = after_visit m from c x (walks_to_head (body_of w.anf w.tail b) (heads i b found) (scope_at w i b row))
        (subst (λ y. IsOver (then_goes y (go (machine w raise) m) c).answer) is over) in (
          soon.0,
          soon.1,
          subst (λ y. IsOver (then_goes y (go (machine w raise) soon.0) c).answer) (sym is) soon.2,
          subst (λ y. c + soon.0 ≤ (then_goes y (go (machine w raise) m) c).heads) (sym is) soon.3,
        )

    soon_from : (m : ℕ) → ((i : ℕ) (row : List Value) (h : ℕ) → head_at i ≡ true → IsOver (goes m i row h).answer → Soon (λ v. goes v i row h) m (suc h))
        → (i : ℕ) (row : List Value) (h : ℕ) → IsOver (goes (suc m) i row h).answer → Soon (λ v. goes v i row h) (suc m) (counted (head_at i) h)
    soon_from m from i row h over =
        let soon = visit_soon m from i row (counted (head_at i) h) (slice_get w.tail.labels i) refl over in
        record { visits = suc soon.0; fewer = omega (arith, soon.1); over = soon.2; counts = omega (arith, soon.3) }

    from_head : (m i : ℕ) (row : List Value) (h : ℕ) → head_at i ≡ true → IsOver (goes m i row h).answer → Soon (λ v. goes v i row h) m (suc h)
    from_head zero i row h at over = absurd over
    from_head (suc m) i row h at over =
        subst (λ b. Soon (λ v. goes v i row h) (suc m) (counted b h)) at (soon_from m (from_head m) i row h over)

    none_counted : (b : Bool) (v n : ℕ) → counted b 0 + v ≤ n → v ≤ n
    none_counted true v n p = omega (arith, p)
    none_counted false v n p = omega (arith, p)

    -- the whole run
    run_soon : (i : ℕ) (row : List Value) (m : ℕ) → IsOver (goes m i row 0).answer
        → (v : ℕ) × (v ≤ m) × IsOver (goes v i row 0).answer × (v ≤ suc (goes m i row 0).heads)
    run_soon i row zero over = absurd over
    run_soon i row (suc m) over =
        let soon = soon_from m (from_head m) i row 0 over in
        (soon.visits, soon.fewer, soon.over, none_counted (head_at i) soon.visits (suc (goes (suc m) i row 0).heads) soon.counts)

    pub by_heads : (k : ℕ) (q : Query) (args : List Value) → AnswersInTurns k q w.tables args (tail_runs (frame_in w) w.anf w.tail args)
        → AnswersByHeads k q w.tables args (tail_runs (frame_in w) w.anf w.tail args)
    by_heads k q args law = record {
      ends = λ m i over less.
          let entry = entry_label (frame_in w) w.anf w.tail in
          let first = first_row (frame_in w) w.anf w.tail args in
          let soon = run_soon entry first m over in
          let as_there = stays_from (machine w raise) soon.0 m (entry, first) 0 soon.1 soon.2 in
          law.ends soon.0 i (omega (arith, less, soon.3)) soon.2 ∙ sym (ap (λ (run : Ran). run.answer) as_there);
    }
