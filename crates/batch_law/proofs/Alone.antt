-- What the query of one call answers, by where the call stands.
use Rattle.std.proofs.Common.{◌≡◌, ◌⊎◌, inl, inr, ℕ, zero, suc, ◌<◌, ◌^◌, true, List, [], ◌∷◌, ◌++◌, map, length, decimal, Option, Some, None, Ok, Err, refl, ap, sym, ◌∙◌, subst}
use Rattle.std.specs.Prelude.{slice_get}
use Rattle.away_trees.specs.declared.queries.Expr.TheViews.{roll-Recursive}
use Rattle.away_trees.proofs.Equations as eq
use Rattle.away_values.specs.declared.values.Answer.{Answer}
use Rattle.away_values.specs.declared.values.Answer.TheVariants as answer
use Rattle.away_values.specs.declared.values.Class.{Class}
use Rattle.away_values.specs.declared.values.Value.{Value}
use Rattle.away_values.specs.declared.values.Value.TheVariants as val
use Rattle.away_values.specs.Classes.{is_class}
use Rattle.away_values.specs.Results.{Or, and_then}
use Rattle.sql_meaning.specs.Context.{Rows}
use Rattle.sql_meaning.specs.Meaning.{meaning, rows_of_select}
use Rattle.sql_meaning.specs.Selects.{union}
use Rattle.sql_meaning.specs.Template.{last}
use Rattle.sql_meaning.specs.Working.{Bounded, worked, recursive_table, over_table, rows_with, answered, sql}
use Rattle.call_forms.specs.Bodies.{body_of}
use Rattle.call_forms.specs.TailRuns.{AtLabel}
use Rattle.call_forms.specs.Template as template
use Rattle.together.specs.Encoded.{encoded}
use Rattle.together.specs.Steppers.{Turn, goes, ends, stops, faults, on, Where, going, ending, past, stopped, failed, after, stands, carrying, with_carried, run_together}
use Rattle.together.specs.Tables.{IsFine}
use Rattle.together.proofs.Encoded.{table_of}
use Rattle.together.proofs.Steppers.{IsAlone, is_alone, carries}
use Rattle.cte_law.proofs.Branches.{scope_at, visit_at}
use Rattle.cte_law.proofs.States.{State, Ended, IsState, left, row_of, step_of, turn_of, at_block}
use Rattle.cte_law.proofs.Turns.{turn, first_rows}
use Rattle.cte_law.proofs.Visits.{Visited, gives, raises, goes_on, stays, BodyRaisesClasses, IsFair, fair}
use Rattle.cte_law.proofs.Visits as visits
use Rattle.cte_law.proofs.Worlds.{World, OverTables}
use Rattle.batch_law.proofs.Finishing.{last_of}
use Rattle.batch_law.specs.Starts.{working_table}
use Rattle.batch_law.proofs.Joined.{encodes, one, call_of, call_stands, rows_in, one_table}

abbrev pub answer_where : Where AtLabel Ended → Answer
answer_where (going s) = answer.More
answer_where (ending a) = answer.More
answer_where (past a) = answered (Some (Ok ((a.0 ∷ a.1 ∷ []) ∷ [])))
answer_where stopped = answer.Shape 0
answer_where (failed c) = answer.Fault c

-- a call with the values that it carries
abbrev pub carried_step : World → List Value × AtLabel → Turn (List Value × AtLabel) (List Value × Ended)
carried_step w = carrying (step_of w)

module _ (w : World) (ok : OverTables w) (small : length w.tables < 2 ^ 64) (vs : List Value) where
  abbrev by_table : Bounded Rows → Answer
  by_table o = answered (over_table (union (rows_of_select (last (decimal (length w.tables)) (length w.tail.columns)) ∷ [])) w.tables vs o)

  abbrev states : List State
  states = on ([], call_of w ok small vs) ∷ []

  sql_by_table : (k : ℕ) → sql (one w ok small) w.tables vs k ≡ by_table (worked (turn w ok vs small []) k [] (Ok (map (row_of w) states)))
  sql_by_table k =
      let first = template.start w.table w.types w.result w.anf w.tail w.goto.entry in
      let second = template.step w.table w.types w.result w.anf w.tail w.goto.entry (decimal (length w.tables)) in
      ap (λ m. answered (rows_with m.recursive m.rows w.tables vs k))
      (eq.of_with meaning (roll-Recursive (record { name = []; columns = []; first = first ∷ []; second = second }))
      (last (decimal (length w.tables)) (length w.tail.columns) ∷ []))
      ∙ (ap (λ r. by_table (recursive_table r w.tables vs k)) (eq.of_recursive meaning [] [] (first ∷ []) second)
      ∙ ap (λ x. by_table (worked (turn w ok vs small []) k [] (and_then x (λ ys. Ok (ys ++ []))))) (first_rows w ok vs small))

  abbrev alone_at : ℕ → Option (Or (List State))
  alone_at k = run_together (carried_step w) k (([], call_of w ok small vs) ∷ [])

  by_alone : (k : ℕ) (at_ : Where AtLabel Ended) → IsAlone (carried_step w) k ([], call_of w ok small vs) (with_carried [] at_)
      → by_table (encoded (row_of w) (alone_at k)) ≡ answer_where at_
  by_alone k (going s) h = ap (λ o. by_table (encoded (row_of w) o)) h
  by_alone k (ending a) h = ap (λ o. by_table (encoded (row_of w) o)) h
  by_alone k (failed c) h = ap (λ o. by_table (encoded (row_of w) o)) h
  by_alone k (past a) h =
      ap (λ o. by_table (encoded (row_of w) o)) h.is
      ∙ ap (λ x. answered (Some (and_then x (λ ys. Ok (ys ++ []))))) (last_of w vs small h.rows (([], a) ∷ []) h.answers (refl, tt))
  by_alone k stopped h =
      ap (λ o. by_table (encoded (row_of w) o)) h.is
      ∙ ap (λ x. answered (Some (and_then x (λ ys. Ok (ys ++ []))))) (last_of w vs small h.rows [] h.answers tt)

  -- the answer at each bound
  pub sql_is : (k : ℕ) → sql (one w ok small) w.tables vs k ≡ answer_where (call_stands w ok small k vs)
  sql_is k =
      sql_by_table k
      ∙ (ap by_table (table_of (left w) (row_of w) (IsState []) (turn w ok vs small []) (encodes w [] ok vs small) k states (refl, tt))
      ∙ by_alone k (call_stands w ok small k vs)
      (subst (IsAlone (carried_step w) k ([], call_of w ok small vs)) (carries (step_of w) k [] (call_of w ok small vs))
      (is_alone (carried_step w) k ([], call_of w ok small vs))))

  failed_answer : (at_ : Where AtLabel Ended) (c : Class) → rows_in w ok small [] at_ ≡ Err c → answer_where at_ ≡ answer.Fault c
  failed_answer (going s) c e = absurd (subst IsFine e tt)
  failed_answer (ending a) c e = absurd (subst IsFine e tt)
  failed_answer (past a) c e = absurd (subst IsFine e tt)
  failed_answer stopped c e = absurd (subst IsFine e tt)
  failed_answer (failed d) c e = cc

  -- a class of a working table is the answer
  pub table_faults : (k : ℕ) (c : Class) → working_table (one w ok small) w.tables vs k ≡ Err c → sql (one w ok small) w.tables vs k ≡ answer.Fault c
  table_faults k c e = sql_is k ∙ failed_answer (call_stands w ok small k vs) c (sym (one_table w ok small vs k) ∙ e)

-- ---- ends that answers tell

-- a result alone, or a class alone
abbrev pub IsAnswerRow : Ended → Type 0
IsAnswerRow a = (a.1 ≡ val.Null) ⊎ ((c : Class) × (a ≡ (val.Null, val.Text c.code)) × (is_class c.code ≡ true))

abbrev pub HasTurnRow : Turn AtLabel Ended → Type 0
HasTurnRow (ends a) = IsAnswerRow a
HasTurnRow t = Unit {0}

abbrev pub HasRow : Where AtLabel Ended → Type 0
HasRow (ending a) = IsAnswerRow a
HasRow (past a) = IsAnswerRow a
HasRow at_ = Unit {0}

module _ (w : World) (raise : (b : ℕ) → BodyRaisesClasses (body_of w.anf w.tail b)) where
  visit_tells : (x : Visited) → IsFair x → HasTurnRow (turn_of x)
  visit_tells (gives v) h = inl refl
  visit_tells (raises c) h = inr (c, refl, h)
  visit_tells (visits.faults c) h = tt
  visit_tells (goes_on i row) h = tt
  visit_tells stays h = inl refl

  step_tells : (s : AtLabel) → HasTurnRow (step_of w s)
  step_tells s = by (slice_get w.tail.labels s.0)
    where
      by : (o : Option ℕ) → HasTurnRow (at_block w s o)
      by None = tt
      by (Some b) = visit_tells (visit_at w s.0 b s.1) (fair w (body_of w.anf w.tail b) (raise b) (scope_at w s.0 b s.1))

  after_tells : (i : ℕ) (next : AtLabel → Where AtLabel Ended) → ((s : AtLabel) → HasRow (next s)) → (t : Turn AtLabel Ended) → HasTurnRow t
      → HasRow (after i next t)
  after_tells i next h (goes s) k = h s
  after_tells zero next h (ends a) k = k
  after_tells (suc i) next h (ends a) k = k
  after_tells i next h stops k = tt
  after_tells i next h (faults c) k = tt

  pub all_tell : (i : ℕ) (s : AtLabel) → HasRow (stands (step_of w) i s)
  all_tell zero s = tt
  all_tell (suc i) s = after_tells i (stands (step_of w) i) (all_tell i) (step_of w s) (step_tells s)
