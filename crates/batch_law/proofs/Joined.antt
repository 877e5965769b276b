-- The working tables of many calls are those of each call alone, joined.
use Rattle.std.proofs.Common.{◌≡◌, ℕ, zero, suc, ◌<◌, ◌^◌, List, [], ◌∷◌, ◌++◌, map, length, decimal, Some, Ok, Err, refl, ap, sym, ◌∙◌, subst}
use Rattle.away_trees.specs.declared.queries.Expr.TheViews.{roll-Recursive}
use Rattle.away_trees.specs.declared.queries.Query.{Query}
use Rattle.away_trees.specs.declared.queries.Select.{Select}
use Rattle.away_trees.specs.Algebra.{select_of, query_of}
use Rattle.away_trees.proofs.Equations as eq
use Rattle.away_values.specs.declared.types.Ty.{Ty}
use Rattle.away_values.specs.declared.values.Value.{Value}
use Rattle.away_values.specs.Results.{Or, and_then, mapped, each_joined}
use Rattle.sql_meaning.specs.Context.{Rows, outermost}
use Rattle.sql_meaning.specs.Expressions.{RecursiveMeaning}
use Rattle.sql_meaning.specs.Meaning.{meaning, rows_of_select}
use Rattle.sql_meaning.specs.Names.{bare}
use Rattle.sql_meaning.specs.Selects.{union}
use Rattle.sql_meaning.specs.Template.{last}
use Rattle.sql_meaning.specs.Working.{next_rows, working}
use Rattle.sql_meaning.proofs.Nameless.{bare_means}
use Rattle.call_forms.specs.Carrying as carrying
use Rattle.call_forms.specs.TailRuns.{AtLabel, entry_label, first_row}
use Rattle.call_forms.specs.Template as template
use Rattle.together.specs.Encoded.{AllGood, LeavesGood, Encodes, by_steps}
use Rattle.together.specs.Steppers.{Row, on, ended, Where, going, ending, past, stopped, failed, stands, leaves, with_carried}
use Rattle.together.specs.Steppers as steppers
use Rattle.together.specs.Tables.{joined, IsFine, own, table_at}
use Rattle.together.specs.Tables as tables
use Rattle.together.proofs.Encoded.{map_append, steps_of}
use Rattle.together.proofs.Steppers.{rows_of, own_is, carries}
use Rattle.together.proofs.Tables.{joined_at}
use Rattle.cte_law.proofs.States.{State, Ended, IsState, left, row_of, step_of}
use Rattle.cte_law.proofs.Turns.{turn, turn_all, first_rows}
use Rattle.cte_law.proofs.Worlds.{World, frame_in, OverTables}
use Rattle.batch_law.specs.Starts.{table_in, working_table, with_values, Start, start_row, AreCarried, AllFine, IsJoined}

-- ---- steps of a recursive part

working_steps : (r : RecursiveMeaning) (T : List Rows) (args : List Value) (rows : Rows) → r.first (outermost T args) ≡ Ok rows → (i : ℕ)
    → working r T args i ≡ by_steps (next_rows r T args) i rows
working_steps r T args rows h zero = h
working_steps r T args rows h (suc i) = ap (λ o. and_then o (next_rows r T args)) (working_steps r T args rows h i)

pub same_table : (q r : Query) → bare q ≡ bare r → (T : List Rows) (args : List Value) (i : ℕ) → working_table q T args i ≡ working_table r T args i
same_table q r same T args i = ap (λ m. table_in m.recursive T args i) (sym (bare_means q) ∙ (ap (query_of meaning) same ∙ bare_means r))

-- ---- good states

module _ (w : World) (carried : List Ty) where
  stays_good : (s : State) → IsState carried s → LeavesGood (IsState carried) (left w s)
  stays_good (ended p) h = tt
  stays_good (on p) h = by (step_of w p.1)
    where
      by : (t : steppers.Turn AtLabel Ended) → LeavesGood (IsState carried) (steppers.left_by (steppers.carry p.0 t))
      by (steppers.goes s) = (h, tt)
      by (steppers.ends a) = (h, tt)
      by steppers.stops = tt
      by (steppers.faults c) = tt

  pub encodes : (ok : OverTables w) (args : List Value) (small : length w.tables < 2 ^ 64)
      → Encodes (left w) (row_of w) (IsState carried) (turn w ok args small carried)
  encodes ok args small = record { turns = λ rs h. turn_all w ok args small carried rs h; stay = λ s h. stays_good s h }

-- ---- the tables of one call and of many

module _ (w : World) (ok : OverTables w) (small : length w.tables < 2 ^ 64) where
  abbrev pub entry_at : ℕ
  entry_at = entry_label (frame_in w) w.anf w.tail

  -- a call with these arguments
  abbrev pub call_of : List Value → AtLabel
  call_of vs = (entry_at, first_row (frame_in w) w.anf w.tail vs)

  abbrev pub one : Query
  one = template.query_of w.table w.types w.result w.anf w.tail w.goto.entry (length w.tables)

  abbrev one_part : RecursiveMeaning
  one_part = record {
    first = union (rows_of_select (template.start w.table w.types w.result w.anf w.tail w.goto.entry) ∷ []);
    second = rows_of_select (carrying.step w.table w.types [] w.result w.anf w.tail (decimal (length w.tables)));
  }

  pub one_means : (query_of meaning one).recursive ≡ Some one_part
  one_means =
      let first = template.start w.table w.types w.result w.anf w.tail w.goto.entry in
      let second = template.step w.table w.types w.result w.anf w.tail w.goto.entry (decimal (length w.tables)) in
      ap (λ m. m.recursive)
      (eq.of_with meaning (roll-Recursive (record { name = []; columns = []; first = first ∷ []; second = second }))
      (last (decimal (length w.tables)) (length w.tail.columns) ∷ []))
      ∙ ap Some (eq.of_recursive meaning [] [] (first ∷ []) second)

  -- where the call stands at the i-th table
  abbrev pub call_stands : ℕ → List Value → Where AtLabel Ended
  call_stands i vs = stands (step_of w) i (call_of vs)

  abbrev pub rows_in : List Value → Where AtLabel Ended → Or Rows
  rows_in xs at_ = mapped (map (row_of w)) (rows_of (with_carried xs at_))

  pub own_rows : (xs : List Value) (i : ℕ) (s : AtLabel) → own (left w) i (on (xs, s)) ≡ rows_of (with_carried xs (stands (step_of w) i s))
  own_rows xs i s = own_is (steppers.carrying (step_of w)) i (xs, s) ∙ ap rows_of (carries (step_of w) i xs s)

  pub one_table : (vs : List Value) (i : ℕ) → working_table one w.tables vs i ≡ rows_in [] (call_stands i vs)
  one_table vs i =
      let states : List State = on ([], call_of vs) ∷ [] in
      ap (λ m. table_in m w.tables vs i) one_means
      ∙ (working_steps one_part w.tables vs (map (row_of w) states) (ap (λ o. and_then o (λ ys. Ok (ys ++ []))) (first_rows w ok vs small)) i
      ∙ (steps_of (left w) (row_of w) (IsState []) (turn w ok vs small []) (encodes w [] ok vs small) i states (refl, tt)
      ∙ ap (mapped (map (row_of w))) (own_rows [] i (call_of vs))))

  values_in : (xs : List Value) (at_ : Where AtLabel Ended) → rows_in xs at_ ≡ mapped (map (with_values xs)) (rows_in [] at_)
  values_in xs (going s) = refl
  values_in xs (ending a) = refl
  values_in xs (past a) = refl
  values_in xs stopped = refl
  values_in xs (failed c) = refl

  fine_in : (xs : List Value) (at_ : Where AtLabel Ended) → IsFine (rows_in [] at_) → IsFine (rows_of (with_carried xs at_))
  fine_in xs (going s) h = tt
  fine_in xs (ending a) h = tt
  fine_in xs (past a) h = tt
  fine_in xs stopped h = tt
  fine_in xs (failed c) h = absurd h

  module _ (carried : List Ty) (first selects : List Select) (args : List Value) where
    abbrev pub many : Query
    many = carrying.with_part (carrying.part_of w.table w.types carried w.result w.anf w.tail first (length w.tables)) selects

    abbrev pub many_part : RecursiveMeaning
    many_part = record {
      first = union (map (λ s. select_of meaning s) first);
      second = rows_of_select (carrying.step w.table w.types carried w.result w.anf w.tail (decimal (length w.tables)));
    }

    pub many_means : (query_of meaning many).recursive ≡ Some many_part
    many_means =
        let second = carrying.step w.table w.types carried w.result w.anf w.tail (decimal (length w.tables)) in
        ap (λ m. m.recursive) (eq.of_with meaning (carrying.part_of w.table w.types carried w.result w.anf w.tail first (length w.tables)) selects)
        ∙ ap Some (eq.of_recursive meaning [] [] first second)

    abbrev pub begun : List Start → List (List Value × AtLabel)
    begun = map (λ s. (s.0, call_of s.1))

    abbrev pub states_of : List Start → List State
    states_of ss = map on (begun ss)

    pub rows_begun : (ss : List Start) → map (start_row (frame_in w) w.anf w.tail) ss ≡ map (row_of w) (states_of ss)
    rows_begun [] = refl
    rows_begun (s ∷ ss) = ap (λ rows. start_row (frame_in w) w.anf w.tail s ∷ rows) (rows_begun ss)

    pub good_begun : (ss : List Start) → AreCarried carried ss → AllGood (IsState carried) (states_of ss)
    good_begun [] h = tt
    good_begun (s ∷ ss) h = (h.0, good_begun ss h.1)

    module _ (ss : List Start) (good : AreCarried carried ss)
        (begins : working_table many w.tables args 0 ≡ Ok (map (start_row (frame_in w) w.anf w.tail) ss)) where
      pub first_begun : many_part.first (outermost w.tables args) ≡ Ok (map (row_of w) (states_of ss))
      first_begun = sym (ap (λ m. table_in m w.tables args 0) many_means) ∙ (begins ∙ ap Ok (rows_begun ss))

      many_table : (i : ℕ) → working_table many w.tables args i ≡ mapped (map (row_of w)) (table_at (left w) i (states_of ss))
      many_table i =
          ap (λ m. table_in m w.tables args i) many_means
          ∙ (working_steps many_part w.tables args (map (row_of w) (states_of ss)) first_begun i
          ∙ steps_of (left w) (row_of w) (IsState carried) (turn w ok args small carried) (encodes w carried ok args small) i (states_of ss)
          (good_begun ss good))

      pub all_fine : (j : ℕ) (ss : List Start) → AllFine one w.tables j ss → tables.AllFine (left w) j (states_of ss)
      all_fine j [] h = tt
      all_fine j (s ∷ ss) h = (
        subst IsFine (sym (own_rows s.0 j (call_of s.1))) (fine_in s.0 (call_stands j s.1) (subst IsFine (one_table s.1 j) h.0)),
        all_fine j ss h.1,
      )

      map_joined : (x y : Or (List State)) → mapped (map (row_of w)) (joined x y) ≡ joined (mapped (map (row_of w)) x) (mapped (map (row_of w)) y)
      map_joined (Err c) y = refl
      map_joined (Ok xs) (Err c) = refl
      map_joined (Ok xs) (Ok ys) = ap Ok (map_append (row_of w) xs ys)

      each_is : (i : ℕ) (ss : List Start) → mapped (map (row_of w)) (each_joined (own (left w) i) (states_of ss))
          ≡ each_joined (λ (s : Start). mapped (map (with_values s.0)) (working_table one w.tables s.1 i)) ss
      each_is i [] = refl
      each_is i (s ∷ ss) =
          map_joined (own (left w) i (on (s.0, call_of s.1))) (each_joined (own (left w) i) (states_of ss))
          ∙ (λ t. joined
          ((ap (mapped (map (row_of w))) (own_rows s.0 i (call_of s.1))
          ∙ (values_in s.0 (call_stands i s.1) ∙ ap (mapped (map (with_values s.0))) (sym (one_table s.1 i)))) t)
          (each_is i ss t))

      pub is_joined : (i : ℕ) → IsJoined many one w.tables args ss i
      is_joined i fine =
          many_table i
          ∙ (ap (mapped (map (row_of w))) (joined_at (left w) (states_of ss) i (λ j p. all_fine j ss (fine j p))) ∙ each_is i ss)
