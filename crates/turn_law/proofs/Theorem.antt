-- The law of the query of turns.
use Rattle.std.proofs.Common.{◌≡◌, ℕ, zero, suc, ◌+◌, ◌*◌, ◌-◌, ◌<◌, ◌≤◌, ◌^◌, Bool, true, false, if◌then◌else◌, List, [], ◌∷◌, ◌++◌, length, decimal, Option, Some, None, Ok, refl, ap, sym, ◌∙◌, subst, arith}
use Rattle.std.specs.Prelude.{slice_get}
use Rattle.away_trees.specs.declared.queries.Expr.{Expr}
use Rattle.away_trees.specs.declared.queries.Expr.TheViews.{roll-Recursive}
use Rattle.away_trees.specs.declared.queries.Query.{Query}
use Rattle.away_trees.proofs.Equations as eq
use Rattle.away_values.specs.declared.values.Answer.{Answer}
use Rattle.away_values.specs.declared.values.Answer.TheVariants as answer
use Rattle.away_values.specs.declared.values.Class.{Class}
use Rattle.away_values.specs.declared.values.Value.{Value}
use Rattle.away_values.specs.declared.values.Value.TheVariants as val
use Rattle.away_values.specs.Classes.{is_class}
use Rattle.away_values.specs.Results.{Or, and_then, class}
use Rattle.sql_meaning.specs.Context.{Rows, outermost}
use Rattle.sql_meaning.specs.Meaning.{meaning, rows_of_select}
use Rattle.sql_meaning.specs.Selects.{union}
use Rattle.sql_meaning.specs.Template.{last}
use Rattle.sql_meaning.proofs.Returns.{turned as turned_with}
use Rattle.sql_meaning.specs.Working.{Bounded, worked, recursive_table, over_table, rows_with, answered, sql}
use Rattle.block_forms.specs.declared.forms.Term.{Term}
use Rattle.block_forms.specs.Machines.{Machine, Ran, counted, then_goes, go, IsOver}
use Rattle.block_forms.specs.MachineLaws.{stays_from, few_from, heads_from}
use Rattle.call_forms.specs.Bodies.{body_of}
use Rattle.call_forms.specs.TailRuns.{AtLabel, label_visit, heads_label, tail_machine, tail_runs}
use Rattle.cte_law.proofs.Branches.{scope_at, visit_at}
use Rattle.cte_law.proofs.Finish.{AreCalls, one_call_more}
use Rattle.cte_law.proofs.Visits.{Visited, gives, raises, faults, goes_on, stays, move_of, walk_is, BodyRaisesClasses, IsFair, fair}
use Rattle.cte_law.proofs.WorkingRows.{call_row}
use Rattle.cte_law.proofs.Worlds.{World, frame_in, OverTables}
use Rattle.turn_template.specs.TurnTemplate as turn
use Rattle.turn_template.specs.TurnTemplate.{is_single}
use Rattle.turn_law.specs.TurnAnswers.{AnswersInTurns}
use Rattle.turn_law.proofs.Iterations.{Leaves, step_rows, iteration_call, iteration_over, turned_wide, entry_at, first_at, after_entry, after_wide, first_rows}
use Rattle.turn_law.proofs.LastRow.{last_row}
use Rattle.turn_law.proofs.Levels.{one_row, alone}
use Rattle.turn_law.proofs.RowCells.{work}
use Rattle.turn_law.proofs.States.{turn_at, turned_once, turned, Inner, IsWide, Finished, Stands}
use Rattle.turn_law.proofs.Terms.{IsTotal}

-- ---- runs from a state on

-- n times k
abbrev times : ℕ → ℕ → ℕ
times k zero = 0
times k (suc n) = k + times k n

module _ (w : World) (raise : (b : ℕ) → BodyRaisesClasses (body_of w.anf w.tail b)) where
  abbrev pub machine : Machine AtLabel
  machine = tail_machine (frame_in w) w.anf w.tail

  -- so many visits from a state on, with heads before
  abbrev rest : Visited → ℕ → ℕ → Ran
  rest x m h = then_goes (move_of x) (go machine m) h

  -- the answer of a run that is over is that of the run after one visit
  pub record Shifted (x y : Visited) (m m' h : ℕ) : Type 0 where
    pub heads : ℕ
    pub same : (rest x m h).answer ≡ (rest y m' heads).answer

  pub visit_is : (i b : ℕ) (row : List Value) → label_visit (frame_in w) w.anf w.tail i (Some b) row ≡ move_of (visit_at w i b row)
  visit_is i b row = sym (walk_is w (body_of w.anf w.tail b) (scope_at w i b row))

  shift_label : (i : ℕ) (row : List Value) (m h : ℕ) (o : Option ℕ)
      → IsOver (then_goes (label_visit (frame_in w) w.anf w.tail i o row) (go machine m) h).answer
      → (then_goes (label_visit (frame_in w) w.anf w.tail i o row) (go machine m) h).answer ≡ (rest (turn_at w i row o) m h).answer
  shift_label i row m h None over = absurd over
  shift_label i row m h (Some b) over = ap (λ x. (then_goes x (go machine m) h).answer) (visit_is i b row)

  shift : (x : Visited) (m h : ℕ) → IsOver (rest x (suc m) h).answer → Shifted x (turned_once w x) (suc m) m h
  shift (goes_on i row) m h over = record {
    heads = counted (heads_label (frame_in w) w.anf w.tail (slice_get w.tail.labels i)) h;
    same = shift_label i row m (counted (heads_label (frame_in w) w.anf w.tail (slice_get w.tail.labels i)) h) (slice_get w.tail.labels i) over;
  }
  shift (gives v) m h over = record { heads = h; same = refl }
  shift (raises c) m h over = record { heads = h; same = refl }
  shift (faults c) m h over = record { heads = h; same = refl }
  shift stays m h over = record { heads = h; same = refl }

  shifts : (k : ℕ) (x : Visited) (m n h : ℕ) → n ≡ k + m → IsOver (rest x n h).answer → Shifted x (turned w k x) n m h
  shifts zero x m n h p over = record { heads = h; same = ap (λ n. (rest x n h).answer) (omega (arith, p)) }
  shifts (suc k) x m zero h p over = absurd (omega (arith, p))
  shifts (suc k) x m (suc n) h p over =
      let first = shift x n h over in
      let then_ = shifts k (turned_once w x) m n first.heads (omega (arith, p)) (subst IsOver first.same over) in
      record { heads = then_.heads; same = first.same ∙ then_.same }

  -- ---- heads

  pub record Fewer (x y : Visited) (m m' h k : ℕ) : Type 0 where
    pub heads : ℕ
    pub few : heads ≤ k + h
    pub most : (rest x m h).heads ≤ (rest y m' heads).heads

  counts : (b : Bool) (h : ℕ) → counted b h ≤ suc h
  counts true h = omega arith
  counts false h = omega arith

  fewer_label : (i : ℕ) (row : List Value) (m h : ℕ) (o : Option ℕ)
      → (then_goes (label_visit (frame_in w) w.anf w.tail i o row) (go machine m) h).heads ≤ (rest (turn_at w i row o) m h).heads
  fewer_label i row m h None = heads_from machine m (i, row) h
  fewer_label i row m h (Some b) =
      subst (λ x. (then_goes (label_visit (frame_in w) w.anf w.tail i (Some b) row) (go machine m) h).heads ≤ (then_goes x (go machine m) h).heads)
      (visit_is i b row) (omega arith)

  fewer : (x : Visited) (m h : ℕ) → Fewer x (turned_once w x) (suc m) m h 1
  fewer (goes_on i row) m h = record {
    heads = counted (heads_label (frame_in w) w.anf w.tail (slice_get w.tail.labels i)) h;
    few = omega (arith, counts (heads_label (frame_in w) w.anf w.tail (slice_get w.tail.labels i)) h);
    most = fewer_label i row m (counted (heads_label (frame_in w) w.anf w.tail (slice_get w.tail.labels i)) h) (slice_get w.tail.labels i);
  }
  fewer (gives v) m h = record { heads = h; few = omega arith; most = omega arith }
  fewer (raises c) m h = record { heads = h; few = omega arith; most = omega arith }
  fewer (faults c) m h = record { heads = h; few = omega arith; most = omega arith }
  fewer stays m h = record { heads = h; few = omega arith; most = omega arith }

  few_after : (k : ℕ) (x : Visited) (m n h : ℕ) → n ≡ k + m → Fewer x (turned w k x) n m h k
  few_after zero x m n h p =
      let same : n ≡ m = omega (arith, p) in
      record { heads = h; few = omega arith; most = subst (λ z. (rest x n h).heads ≤ (rest x z h).heads) same (omega arith) }
  few_after (suc k) x m zero h p = absurd (omega (arith, p))
  few_after (suc k) x m (suc n) h p =
      let first = fewer x n h in
      let then_ = few_after k (turned_once w x) m n first.heads (omega (arith, p)) in
      record { heads = then_.heads; few = omega (arith, first.few, then_.few); most = omega (arith, first.most, then_.most) }

  -- ---- what is raised is a class

  fair_at : (i : ℕ) (row : List Value) (o : Option ℕ) → IsFair (turn_at w i row o)
  fair_at i row None = tt
  fair_at i row (Some b) = fair w (body_of w.anf w.tail b) (raise b) (scope_at w i b row)

  fair_once : (x : Visited) → IsFair x → IsFair (turned_once w x)
  fair_once (goes_on i row) h = fair_at i row (slice_get w.tail.labels i)
  fair_once (gives v) h = h
  fair_once (raises c) h = h
  fair_once (faults c) h = h
  fair_once stays h = h

  fair_after : (k : ℕ) (x : Visited) → IsFair x → IsFair (turned w k x)
  fair_after zero x h = h
  fair_after (suc k) x h = fair_after k (turned_once w x) (fair_once x h)

  -- ---- the working tables

  module _ (ok : OverTables w) (total : Term → Bool) (totals : (u : Term) → total u ≡ true → IsTotal w u)
      (same : Expr → Expr → Bool) (alike : (x y : Expr) → same x y ≡ true → x ≡ y)
      (heads : List ℕ) (inner : Inner w heads) (args : List Value)
      (small : length w.tables < 2 ^ 64) (k : ℕ) where
    abbrev steps : Rows → Or Rows
    steps rows = step_rows w ok total totals same alike heads inner args small k rows

    abbrev by_table : Bounded Rows → Answer
    by_table o = answered (over_table (union (rows_of_select (last (decimal (length w.tables)) (length w.tail.columns)) ∷ [])) w.tables args o)

    abbrev going : ℕ → Rows → ℕ → List Value → Bounded Rows
    going n done i row = worked steps n done (Ok (call_row [] i row ∷ []))

    abbrev stand : Visited → Or (List Value) → Type 0
    stand x o = Stands w (is_single heads) x o

    -- a finished row ends the recursion
    finished : (n : ℕ) (done : Rows) (o : Or (List Value)) (v c : Value) → Finished (is_single heads) w.tail.columns o v c → AreCalls done
        → by_table (worked steps (suc n) done (one_row o)) ≡ answered (Some (Ok ((v ∷ c ∷ []) ∷ [])))
    finished n done o v c f h =
        let r = work false f.number f.row v c in
        let the_last =
        subst (λ m. rows_of_select (last (decimal (length w.tables)) m) (turned_with w.tables args (done ++ r ∷ [])) ≡ Ok ((v ∷ c ∷ []) ∷ [])) f.long
        (last_row w.tables args small f.number f.row v c done h) in
        ap (λ z. by_table (worked steps (suc n) done (one_row z))) f.is
        ∙ (ap (λ x. by_table (worked steps n (done ++ r ∷ []) x))
        (iteration_over w ok total totals same alike heads inner args small k f.number f.row v c f.long)
        ∙ ap (λ x. answered (Some (and_then x (λ ys. Ok (ys ++ []))))) the_last)

    raised : (c : Class) → is_class c.code ≡ true → answered (Some (Ok ((val.Null ∷ val.Text c.code ∷ []) ∷ []))) ≡ answer.Fault c
    raised c h = ap (λ b. if b then answer.Fault (class c.code) else answer.Shape 1) h

    module _ (i : ℕ) (row : List Value) (long : IsWide w heads (goes_on i row)) (done : Rows) where
      abbrev so_far : Rows
      so_far = done ++ call_row [] i row ∷ []

      -- the next working table
      after : Leaves w ok total totals same alike heads inner args small k (steps (call_row [] i row ∷ [])) (turned w k (goes_on i row))
      after = iteration_call w ok total totals same alike heads inner args small k i row long

      next_is : (n : ℕ) → going (suc n) done i row ≡ worked steps n so_far (one_row after.outcome)
      next_is n = ap (λ x. worked steps n so_far x) after.is

    abbrev IsKept : ℕ → Type 0
    IsKept n =
        (i : ℕ) (row : List Value) → IsWide w heads (goes_on i row) → (h : ℕ) (done : Rows) → AreCalls done
        → IsOver (go machine (times k n) (i, row) h).answer → by_table (going (suc n) done i row) ≡ (go machine (times k n) (i, row) h).answer

    state_kept : (n : ℕ) → IsKept n → (x : Visited) → IsWide w heads x → IsFair x → (o : Or (List Value)) → stand x o → (h : ℕ) (done : Rows) → AreCalls done
        → IsOver (rest x (times k n) h).answer → by_table (worked steps (suc n) done (one_row o)) ≡ (rest x (times k n) h).answer
    state_kept n kept (gives v) wide fair_ o s h done calls over = finished n done o v val.Null s calls
    state_kept n kept (raises c) wide fair_ o s h done calls over = finished n done o val.Null (val.Text c.code) s calls ∙ raised c fair_
    state_kept n kept (faults c) wide fair_ o s h done calls over = ap (λ z. by_table (worked steps (suc n) done (one_row z))) s
    state_kept n kept (goes_on j next) wide fair_ o s h done calls over =
        ap (λ z. by_table (worked steps (suc n) done (one_row z))) s ∙ kept j next wide h done calls over
    state_kept n kept stays wide fair_ o s h done calls over = absurd over

    ended : (n : ℕ) → IsKept n
    ended zero i row long h done calls over = absurd over
    ended (suc n) i row long h done calls over =
        let shifted = shifts k (goes_on i row) (times k n) (k + times k n) h refl over in
        let next = after i row long done in
        ap by_table (next_is i row long done (suc n))
        ∙ (state_kept n (ended n) (turned w k (goes_on i row)) (turned_wide w ok total totals same alike heads inner args small k k (goes_on i row) long)
        (fair_after k (goes_on i row) tt) next.outcome next.stands shifted.heads (done ++ call_row [] i row ∷ [])
        (one_call_more done (call_row [] i row) calls refl) (subst IsOver shifted.same over)
        ∙ sym shifted.same)

    -- ---- no answer before

    abbrev Waits : ℕ → Type 0
    Waits n =
        (i : ℕ) (row : List Value) → IsWide w heads (goes_on i row) → (m h : ℕ) (done : Rows) → h + times k n < (go machine m (i, row) h).heads
        → going n done i row ≡ None

    state_waits : (n : ℕ) → Waits n → (x : Visited) → IsWide w heads x → (o : Or (List Value)) → stand x o → (m h : ℕ) (done : Rows)
        → h + times k n < (rest x m h).heads → worked steps n done (one_row o) ≡ None
    state_waits n waits_ (gives v) wide o s m h done p = absurd (omega (arith, p))
    state_waits n waits_ (raises c) wide o s m h done p = absurd (omega (arith, p))
    state_waits n waits_ (faults c) wide o s m h done p = absurd (omega (arith, p))
    state_waits n waits_ (goes_on j next) wide o s m h done p = ap (λ z. worked steps n done (one_row z)) s ∙ waits_ j next wide m h done p
    state_waits n waits_ stays wide o s m h done p = absurd (omega (arith, p))

    waits : (n : ℕ) → Waits n
    waits zero i row long m h done p = refl
    waits (suc n) i row long m h done p =
        let most = few_from machine m (i, row) h in
        let few = few_after k (goes_on i row) (m - k) m h (omega (arith, p, most)) in
        let next = after i row long done in
        next_is i row long done n
        ∙ state_waits n (waits n) (turned w k (goes_on i row)) (turned_wide w ok total totals same alike heads inner args small k k (goes_on i row) long)
        next.outcome next.stands (m - k) few.heads
        (done ++ call_row [] i row ∷ []) (omega (arith, p, few.few, few.most))

    -- ---- the query

    abbrev pub query : Query
    query = turn.query_of w.table w.types w.result total same w.anf w.tail w.goto.entry (length w.tables) heads k

    abbrev entry_place : ℕ
    entry_place = entry_at w ok total totals same alike heads inner args small k

    abbrev first_there : List Value
    first_there = first_at w ok total totals same alike heads inner args small k

    module _ (there : slice_get w.tail.labels entry_place ≡ Some w.goto.entry) where
      abbrev start_state : Visited
      start_state = after_entry w ok total totals same alike heads inner args small k there

      start_wide : IsWide w heads start_state
      start_wide = after_wide w ok total totals same alike heads inner args small k there

      start_is : Leaves w ok total totals same alike heads inner args small k
          (rows_of_select (turn.first w.table w.types w.result total same w.anf w.tail w.goto.entry) (outermost w.tables args)) start_state
      start_is = first_rows w ok total totals same alike heads inner args small k there

      sql_is : (n : ℕ) → sql query w.tables args n ≡ by_table (worked steps n [] (one_row start_is.outcome))
      sql_is n =
          let first = turn.first w.table w.types w.result total same w.anf w.tail w.goto.entry in
          let second = turn.step w.table w.types w.result total same w.anf w.tail w.goto.entry (decimal (length w.tables)) heads k in
          ap (λ m. answered (rows_with m.recursive m.rows w.tables args n))
          (eq.of_with meaning (roll-Recursive (record { name = []; columns = []; first = first ∷ []; second = second }))
          (last (decimal (length w.tables)) (length w.tail.columns) ∷ []))
          ∙ (ap (λ r. by_table (recursive_table r w.tables args n)) (eq.of_recursive meaning [] [] (first ∷ []) second)
          ∙ (ap (λ x. by_table (worked steps n [] (and_then x (λ ys. Ok (ys ++ []))))) start_is.is
          ∙ ap (λ x. by_table (worked steps n [] x)) (alone (one_row start_is.outcome))))

      times_is : (n : ℕ) → times k n ≡ n * k
      times_is zero = omega arith
      times_is (suc n) = omega (arith, times_is n)

      abbrev at_entry : Visited
      at_entry = goes_on entry_place first_there

      once_is : turned_once w at_entry ≡ start_state
      once_is = ap (turn_at w entry_place first_there) there

      ends_at : (m n : ℕ) → m ≤ suc (n * k) → IsOver (go machine m (entry_place, first_there) 0).answer
          → sql query w.tables args (suc n) ≡ (go machine m (entry_place, first_there) 0).answer
      ends_at m n le over =
          let far : m ≤ suc (times k n) = omega (arith, le, times_is n) in
          let as_there = stays_from machine m (suc (times k n)) (entry_place, first_there) 0 far over in
          let over_there = subst (λ (z : Ran). IsOver z.answer) (sym as_there) over in
          let shifted = shift at_entry (times k n) 0 over_there in
          let as_start = shifted.same ∙ ap (λ x. (rest x (times k n) shifted.heads).answer) once_is in
          sql_is (suc n)
          ∙ (state_kept n (ended n) start_state start_wide (fair_at entry_place first_there (Some w.goto.entry)) start_is.outcome start_is.stands
          shifted.heads [] tt
          (subst IsOver as_start over_there)
          ∙ (sym as_start ∙ ap (λ (z : Ran). z.answer) as_there))

      module _ (no_head : heads_label (frame_in w) w.anf w.tail (slice_get w.tail.labels entry_place) ≡ false) where
        goes_on_at : (m n : ℕ) → n * k < (go machine m (entry_place, first_there) 0).heads → sql query w.tables args n ≡ answer.More
        goes_on_at zero n less = absurd (omega (arith, less))
        goes_on_at (suc m) n less =
            let most = fewer_label entry_place first_there m (counted (heads_label (frame_in w) w.anf w.tail (slice_get w.tail.labels entry_place)) 0)
            (slice_get w.tail.labels entry_place) in
            let most_there =
            subst (λ b. (go machine (suc m) (entry_place, first_there) 0).heads ≤ (rest (turned_once w at_entry) m (counted b 0)).heads) no_head most in
            let most_start = subst (λ x. (go machine (suc m) (entry_place, first_there) 0).heads ≤ (rest x m 0).heads) once_is most_there in
            sql_is n
            ∙ ap by_table (state_waits n (waits n) start_state start_wide start_is.outcome start_is.stands m 0 []
            (omega (arith, less, most_start, times_is n)))

        pub answers : AnswersInTurns k query w.tables args (tail_runs (frame_in w) w.anf w.tail args)
        answers = record { ends = ends_at; goes_on = goes_on_at }
