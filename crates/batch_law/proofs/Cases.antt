-- One of three is the case at each bound.
use Rattle.std.proofs.Common.{◌≡◌, inl, inr, ℕ, ◌<◌, ◌^◌, List, [], ◌∷◌, length, Ok, Err, refl, sym, ◌∙◌, subst}
use Rattle.away_trees.specs.declared.queries.Query.{Query}
use Rattle.away_values.specs.declared.values.Answer.TheVariants as answer
use Rattle.away_values.specs.declared.values.Class.{Class}
use Rattle.away_values.specs.declared.values.Value.{Value}
use Rattle.away_values.specs.Results.{Or}
use Rattle.call_forms.specs.Bodies.{body_of}
use Rattle.call_forms.specs.TailRuns.{AtLabel}
use Rattle.together.specs.Steppers.{on, Where, going, ending, past, stopped, failed, with_carried}
use Rattle.together.specs.Tables.{IsFine, IsFilled, own}
use Rattle.together.specs.Tables as t
use Rattle.together.proofs.Steppers.{rows_of}
use Rattle.together.proofs.Tables.{case, over_is_fine}
use Rattle.cte_law.proofs.States.{State, Ended, left}
use Rattle.cte_law.proofs.Visits.{BodyRaisesClasses}
use Rattle.cte_law.proofs.Worlds.{World, OverTables}
use Rattle.batch_law.specs.Batches.{FaultsFirst, SomeIsMore, NoneIsMore, Case}
use Rattle.batch_law.specs.Batches as batch
use Rattle.batch_law.specs.Starts.{working_table, Start, AllFine}
use Rattle.batch_law.proofs.Alone.{answer_where, sql_is, HasRow, all_tell}
use Rattle.batch_law.proofs.Batches.{IsMore, not_more}
use Rattle.batch_law.proofs.Joined.{one, call_of, call_stands, states_of, one_table, rows_in, own_rows}

module _ (w : World) (ok : OverTables w) (small : length w.tables < 2 ^ 64) (raise : (b : ℕ) → BodyRaisesClasses (body_of w.anf w.tail b)) where
  abbrev at_ : ℕ → List Value → Where AtLabel Ended
  at_ i vs = call_stands w ok small i vs

  abbrev one_query : Query
  one_query = one w ok small

  abbrev states : List Start → List State
  states ss = states_of w ok small [] [] [] [] ss

  abbrev own_of : ℕ → Start → Or (List State)
  own_of j s = own (left w) j (on (s.0, call_of w ok small s.1))

  own_is : (j : ℕ) (s : Start) → own_of j s ≡ rows_of (with_carried s.0 (at_ j s.1))
  own_is j s = own_rows w ok small s.0 j (call_of w ok small s.1)

  fine_back : (xs : List Value) (p : Where AtLabel Ended) → IsFine (rows_of (with_carried xs p)) → IsFine (rows_in w ok small [] p)
  fine_back xs (going s) h = tt
  fine_back xs (ending a) h = tt
  fine_back xs (past a) h = tt
  fine_back xs stopped h = tt
  fine_back xs (failed c) h = absurd h

  one_fine : (j : ℕ) (s : Start) → IsFine (own_of j s) → IsFine (working_table one_query w.tables s.1 j)
  one_fine j s h = subst IsFine (sym (one_table w ok small s.1 j)) (fine_back s.0 (at_ j s.1) (subst IsFine (own_is j s) h))

  all_fine : (j : ℕ) (ss : List Start) → t.AllFine (left w) j (states ss) → AllFine one_query w.tables j ss
  all_fine j [] h = tt
  all_fine j (s ∷ ss) h = (one_fine j s h.0, all_fine j ss h.1)

  fault_back : (xs : List Value) (p : Where AtLabel Ended) (c : Class) → rows_of (with_carried xs p) ≡ Err c → rows_in w ok small [] p ≡ Err c
  fault_back xs (going s) c e = absurd (subst IsFine e tt)
  fault_back xs (ending a) c e = absurd (subst IsFine e tt)
  fault_back xs (past a) c e = absurd (subst IsFine e tt)
  fault_back xs stopped c e = absurd (subst IsFine e tt)
  fault_back xs (failed d) c e = cc

  first_faults : (j : ℕ) (c : Class) (ss : List Start) → t.FaultsFirst (left w) j c (states ss) → FaultsFirst one_query w.tables j c ss
  first_faults j c [] h = absurd h
  first_faults j c (s ∷ ss) (inl e) = inl (one_table w ok small s.1 j ∙ fault_back s.0 (at_ j s.1) c (sym (own_is j s) ∙ e))
  first_faults j c (s ∷ ss) (inr h) = inr (one_fine j s h.0, first_faults j c ss h.1)

  more_back : (xs : List Value) (p : Where AtLabel Ended) → IsFilled (rows_of (with_carried xs p)) → answer_where p ≡ answer.More
  more_back xs (going s) h = refl
  more_back xs (ending a) h = refl
  more_back xs (past a) h = absurd h
  more_back xs stopped h = absurd h
  more_back xs (failed c) h = absurd h

  some_more : (k : ℕ) (ss : List Start) → t.SomeGoesOn (left w) k (states ss) → SomeIsMore one_query w.tables k ss
  some_more k [] h = absurd h
  some_more k (s ∷ ss) (inl h) = inl (sql_is w ok small s.1 k ∙ more_back s.0 (at_ k s.1) (subst IsFilled (own_is k s) h))
  some_more k (s ∷ ss) (inr h) = inr (some_more k ss h)

  over_back : (xs : List Value) (p : Where AtLabel Ended) → HasRow p → rows_of (with_carried xs p) ≡ Ok [] → IsMore (answer_where p) → ⊥
  over_back xs (going s) h e m = subst IsFilled e tt
  over_back xs (ending a) h e m = subst IsFilled e tt
  over_back xs (past a) h e m = not_more a h m
  over_back xs stopped h e m = m
  over_back xs (failed c) h e m = m

  none_more : (k : ℕ) (ss : List Start) → t.AllOver (left w) k (states ss) → NoneIsMore one_query w.tables k ss
  none_more k [] h = tt
  none_more k (s ∷ ss) h = (
    (λ e.
        over_back s.0 (at_ k s.1) (all_tell w raise k (call_of w ok small s.1)) (sym (own_is k s) ∙ h.0)
        (subst IsMore (sym e ∙ sql_is w ok small s.1 k) tt)),
    none_more k ss h.1,
  )

  by_case : (k : ℕ) (ss : List Start) → t.Case (left w) k (states ss) → Case one_query w.tables k ss
  by_case k ss (t.fault j c p fine first) = batch.fault j c p (λ i q. all_fine i ss (fine i q)) (first_faults j c ss first)
  by_case k ss (t.going fine some) = batch.going (all_fine k ss fine) (some_more k ss some)
  by_case k ss (t.over all) = batch.over (all_fine k ss (over_is_fine (left w) k (states ss) all)) (none_more k ss all)

  pub one_case : (k : ℕ) (ss : List Start) → Case one_query w.tables k ss
  one_case k ss = by_case k ss (case (left w) k (states ss))
