-- The recursive table of many calls at a bound, and the ends of the calls in it.
use Rattle.std.proofs.Common.{◌≡◌, ◌⊎◌, inl, inr, ℕ, zero, suc, ◌<◌, ◌≤◌, ◌^◌, List, [], ◌∷◌, ◌++◌, map, length, Some, None, Ok, Err, refl, ap, sym, ◌∙◌, subst}
use Rattle.away_trees.specs.declared.queries.Query.{Query}
use Rattle.away_trees.specs.declared.queries.Select.{Select}
use Rattle.away_values.specs.declared.types.Ty.{Ty}
use Rattle.away_values.specs.declared.values.Answer.TheVariants as answer
use Rattle.away_values.specs.declared.values.Class.{Class}
use Rattle.away_values.specs.declared.values.Value.{Value}
use Rattle.sql_meaning.specs.Context.{Rows, outermost}
use Rattle.sql_meaning.specs.Working.{Bounded, worked, recursive_table}
use Rattle.call_forms.specs.Bodies.{body_of}
use Rattle.call_forms.specs.TailRuns.{AtLabel}
use Rattle.together.specs.Encoded.{encoded}
use Rattle.together.specs.Steppers.{Turn, goes, ends, stops, faults, on, Where, going, ending, past, stopped, failed, stands, with_carried, with_end, answers, IsSound, IsPast, ArePast, ends_in, ends_before}
use Rattle.together.specs.Tables.{IsFine, IsFilled, own, together}
use Rattle.together.specs.Tables as t
use Rattle.together.proofs.Encoded.{table_of}
use Rattle.together.proofs.Steppers.{rows_of, carries, onward, from_turn, stands_next, steps_together}
use Rattle.together.proofs.Tables.{is_together}
use Rattle.cte_law.proofs.States.{State, Ended, IsState, left, row_of, step_of}
use Rattle.cte_law.proofs.Turns.{turn}
use Rattle.cte_law.proofs.Visits.{BodyRaisesClasses}
use Rattle.cte_law.proofs.Worlds.{World, OverTables}
use Rattle.batch_law.specs.Batches.{FaultsFirst, SomeIsMore, NoneIsMore}
use Rattle.batch_law.specs.Starts.{working_table, Start, AreCarried, AllFine}
use Rattle.batch_law.proofs.Alone.{answer_where, carried_step, sql_is, HasRow, all_tell}
use Rattle.batch_law.proofs.Batches.{IsMore, not_more}
use Rattle.inline_law.specs.Answers.{Every, SomeOf}
use Rattle.batch_law.proofs.Joined.{encodes, one, many_part, call_of, call_stands, begun, states_of, good_begun, one_table, rows_in, own_rows}

module _ (w : World) (ok : OverTables w) (small : length w.tables < 2 ^ 64) (raise : (b : ℕ) → BodyRaisesClasses (body_of w.anf w.tail b)) where
  abbrev at_ : ℕ → List Value → Where AtLabel Ended
  at_ i vs = call_stands w ok small i vs

  abbrev one_query : Query
  one_query = one w ok small

  -- ---- as in a batch: what working tables of one call say of where it stands

  fault_in : (xs : List Value) (p : Where AtLabel Ended) (c : Class) → rows_in w ok small [] p ≡ Err c → rows_of (with_carried xs p) ≡ Err c
  fault_in xs (going s) c e = absurd (subst IsFine e tt)
  fault_in xs (ending a) c e = absurd (subst IsFine e tt)
  fault_in xs (past a) c e = absurd (subst IsFine e tt)
  fault_in xs stopped c e = absurd (subst IsFine e tt)
  fault_in xs (failed d) c e = cc

  sound_in : (p : Where AtLabel Ended) → IsFine (rows_in w ok small [] p) → IsSound p
  sound_in (going s) h = tt
  sound_in (ending a) h = tt
  sound_in (past a) h = tt
  sound_in stopped h = tt
  sound_in (failed c) h = absurd h

  pub fine_sound : (i : ℕ) (vs : List Value) → IsFine (working_table one_query w.tables vs i) → IsSound (at_ i vs)
  fine_sound i vs h = sound_in (at_ i vs) (subst IsFine (one_table w ok small vs i) h)

  fine_in : (xs : List Value) (p : Where AtLabel Ended) → IsSound p → IsFine (rows_of (with_carried xs p))
  fine_in xs (going s) h = tt
  fine_in xs (ending a) h = tt
  fine_in xs (past a) h = tt
  fine_in xs stopped h = tt
  fine_in xs (failed c) h = absurd h

  own_fine : (j : ℕ) (s : Start) → IsFine (working_table one_query w.tables s.1 j) → IsFine (own (left w) j (on (s.0, call_of w ok small s.1)))
  own_fine j s h =
      subst IsFine (sym (own_rows w ok small s.0 j (call_of w ok small s.1))) (fine_in s.0 (at_ j s.1) (fine_sound j s.1 h))

  module _ (carried : List Ty) (first selects : List Select) (args : List Value) where
    abbrev states : List Start → List State
    states ss = states_of w ok small carried first selects args ss

    first_faults : (j : ℕ) (c : Class) (ss : List Start) → FaultsFirst one_query w.tables j c ss → t.FaultsFirst (left w) j c (states ss)
    first_faults j c [] h = absurd h
    first_faults j c (s ∷ ss) (inl e) =
        inl
        (own_rows w ok small s.0 j (call_of w ok small s.1) ∙ fault_in s.0 (at_ j s.1) c (sym (one_table w ok small s.1 j) ∙ e))
    first_faults j c (s ∷ ss) (inr h) = inr (own_fine j s h.0, first_faults j c ss h.1)

    fine_states : (j : ℕ) (ss : List Start) → AllFine one_query w.tables j ss → t.AllFine (left w) j (states ss)
    fine_states j [] h = tt
    fine_states j (s ∷ ss) h = (own_fine j s h.0, fine_states j ss h.1)

    goes_in : (xs : List Value) (p : Where AtLabel Ended) → HasRow p → IsMore (answer_where p) → IsFilled (rows_of (with_carried xs p))
    goes_in xs (going s) h m = tt
    goes_in xs (ending a) h m = tt
    goes_in xs (past a) h m = absurd (not_more a h m)
    goes_in xs stopped h m = absurd m
    goes_in xs (failed c) h m = absurd m

    some_goes : (k : ℕ) (ss : List Start) → SomeIsMore one_query w.tables k ss → t.SomeGoesOn (left w) k (states ss)
    some_goes k [] h = absurd h
    some_goes k (s ∷ ss) (inl e) =
        inl
        (subst IsFilled (sym (own_rows w ok small s.0 k (call_of w ok small s.1)))
        (goes_in s.0 (at_ k s.1) (all_tell w raise k (call_of w ok small s.1)) (subst IsMore (sym e ∙ sql_is w ok small s.1 k) tt)))
    some_goes k (s ∷ ss) (inr h) = inr (some_goes k ss h)

    abbrev pub starts_of : List Start → List (List Value × AtLabel)
    starts_of ss = begun w ok small carried first selects args ss

    past_in : (xs : List Value) (p : Where AtLabel Ended) → IsSound p → (answer_where p ≡ answer.More → ⊥) → IsPast (with_carried xs p)
    past_in xs (going s) h m = absurd (m refl)
    past_in xs (ending a) h m = absurd (m refl)
    past_in xs (past a) h m = tt
    past_in xs stopped h m = tt
    past_in xs (failed c) h m = absurd h

    all_past : (k : ℕ) (ss : List Start) → AllFine one_query w.tables k ss → NoneIsMore one_query w.tables k ss → ArePast (carried_step w) k (starts_of ss)
    all_past k [] h m = tt
    all_past k (s ∷ ss) h m = (
      subst IsPast (sym (carries (step_of w) k s.0 (call_of w ok small s.1)))
          (past_in s.0 (at_ k s.1) (fine_sound k s.1 h.0) (λ e. m.0 (sql_is w ok small s.1 k ∙ e))),
      all_past k ss h.1 m.1,
    )

    -- ---- the table at a bound

    -- the rows of ends in their order, among rows of calls
    pub record TableOfEnds (k : ℕ) (ss : List Start) (found : Bounded Rows) : Type 0 where
      pub states : List State
      pub is : found ≡ Some (Ok (map (row_of w) states))
      pub ends : answers states ≡ ends_before (carried_step w) k (starts_of ss)

    -- The least j by which some call has met a fault of the engine gives the class; where none has and some call goes on, there is no table; where all have
    -- ended, the table has their ends.
    pub record CarriedTable (k : ℕ) (ss : List Start) (found : Bounded Rows) : Type 0 where
      pub faults : (j : ℕ) (c : Class) → j ≤ k → ((i : ℕ) → i < j → AllFine one_query w.tables i ss) → FaultsFirst one_query w.tables j c ss
          → found ≡ Some (Err c)
      pub goes_on : AllFine one_query w.tables k ss → SomeIsMore one_query w.tables k ss → found ≡ None
      pub over : AllFine one_query w.tables k ss → NoneIsMore one_query w.tables k ss → TableOfEnds k ss found

    module _ (ss : List Start) (good : AreCarried carried ss)
        (begins : (many_part w ok small carried first selects args).first (outermost w.tables args) ≡ Ok (map (row_of w) (states ss))) where
      abbrev pub table_at_bound : ℕ → Bounded Rows
      table_at_bound k = recursive_table (many_part w ok small carried first selects args) w.tables args k

      table_is : (k : ℕ) → table_at_bound k ≡ encoded (row_of w) (together (left w) k (states ss))
      table_is k =
          ap (λ x. worked (turn w ok args small carried) k [] x) begins
          ∙ table_of (left w) (row_of w) (IsState carried) (turn w ok args small carried) (encodes w carried ok args small) k (states ss)
          (good_begun w ok small carried first selects args ss good)

      pub carried_table : (k : ℕ) → CarriedTable k ss (table_at_bound k)
      carried_table k =
          let whole = is_together (left w) k (states ss) in
          record {
            faults = λ j c p fine faulty.
                table_is k ∙ ap (encoded (row_of w)) (whole.faults j c p (λ i q. fine_states i ss (fine i q)) (first_faults j c ss faulty));
            goes_on = λ fine some. table_is k ∙ ap (encoded (row_of w)) (whole.goes_on (fine_states k ss fine) (some_goes k ss some));
            over = λ fine none_more.
                let found = (steps_together (carried_step w) k (starts_of ss)).ends (all_past k ss fine none_more) in
                record { states = found.rows; is = table_is k ∙ ap (encoded (row_of w)) found.is; ends = found.answers };
          }

-- ---- the ends

-- each end of a list has the property
abbrev pub AllEnds : (List Value × Ended → Type 0) → List (List Value × Ended) → Type 0
AllEnds P = Every P

all_append : (P : List Value × Ended → Type 0) (xs ys : List (List Value × Ended)) → AllEnds P xs → AllEnds P ys → AllEnds P (xs ++ ys)
all_append P [] ys h k = k
all_append P (x ∷ xs) ys h k = (h.0, all_append P xs ys h.1 k)

some_left : (P : List Value × Ended → Type 0) (xs ys : List (List Value × Ended)) → SomeOf P xs → SomeOf P (xs ++ ys)
some_left P [] ys h = absurd h
some_left P (x ∷ xs) ys (inl h) = inl h
some_left P (x ∷ xs) ys (inr h) = inr (some_left P xs ys h)

some_right : (P : List Value × Ended → Type 0) (xs ys : List (List Value × Ended)) → SomeOf P ys → SomeOf P (xs ++ ys)
some_right P [] ys h = h
some_right P (x ∷ xs) ys h = inr (some_right P xs ys h)

module _ (w : World) where
  abbrev CarriedCall : Type 0
  CarriedCall = List Value × AtLabel

  abbrev CarriedEnd : Type 0
  CarriedEnd = List Value × Ended

  abbrev Stand : Type 0
  Stand = Where CarriedCall CarriedEnd

  abbrev where_at : ℕ → CarriedCall → Stand
  where_at k s = stands (carried_step w) k s

  abbrev next_stand : Stand → Stand
  next_stand = onward (carried_step w)

  -- an end at which the start stands by the k-th table has the property
  abbrev pub EndsBy : ℕ → (CarriedEnd → Type 0) → CarriedCall → Type 0
  EndsBy k P s = (a : CarriedEnd) → where_at k s ≡ past a → P a

  -- the start is past such an end by the k-th table
  abbrev pub PastBy : ℕ → (CarriedEnd → Type 0) → CarriedCall → Type 0
  PastBy k P s = (a : CarriedEnd) × (where_at k s ≡ past a) × P a

  abbrev EndsAt : ℕ → (CarriedEnd → Type 0) → CarriedCall → Type 0
  EndsAt k P s = (a : CarriedEnd) × (where_at k s ≡ ending a) × P a

  abbrev EveryCall : (CarriedCall → Type 0) → List CarriedCall → Type 0
  EveryCall = Every

  module _ (P : CarriedEnd → Type 0) where
    in_front : (p : Stand) (rest : List CarriedEnd) → ((a : CarriedEnd) → p ≡ ending a → P a) → AllEnds P rest → AllEnds P (with_end p rest)
    in_front (going s) rest h k = k
    in_front (ending a) rest h k = (h a refl, k)
    in_front (past a) rest h k = k
    in_front stopped rest h k = k
    in_front (failed c) rest h k = k

    all_in : (k : ℕ) (ss : List CarriedCall) → EveryCall (EndsBy (suc k) P) ss → AllEnds P (ends_in (carried_step w) k ss)
    all_in k [] h = tt
    all_in k (s ∷ ss) h =
        in_front (where_at k s) (ends_in (carried_step w) k ss) (λ a e. h.0 a (stands_next (carried_step w) k s ∙ ap next_stand e)) (all_in k ss h.1)

    sooner : (k : ℕ) (ss : List CarriedCall) → EveryCall (EndsBy (suc k) P) ss → EveryCall (EndsBy k P) ss
    sooner k [] h = tt
    sooner k (s ∷ ss) h = ((λ a e. h.0 a (stands_next (carried_step w) k s ∙ ap next_stand e)), sooner k ss h.1)

    -- all ends are those of starts
    pub all_ends : (k : ℕ) (ss : List CarriedCall) → EveryCall (EndsBy k P) ss → AllEnds P (ends_before (carried_step w) k ss)
    all_ends zero ss h = tt
    all_ends (suc k) ss h =
        all_append P (ends_before (carried_step w) k ss) (ends_in (carried_step w) k ss) (all_ends k ss (sooner k ss h)) (all_in k ss h)

    behind_end : (p : Stand) (rest : List CarriedEnd) → SomeOf P rest → SomeOf P (with_end p rest)
    behind_end (going s) rest h = h
    behind_end (ending a) rest h = inr h
    behind_end (past a) rest h = h
    behind_end stopped rest h = h
    behind_end (failed c) rest h = h

    some_in : (k : ℕ) (ss : List CarriedCall) → SomeOf (EndsAt k P) ss → SomeOf P (ends_in (carried_step w) k ss)
    some_in k [] h = absurd h
    some_in k (s ∷ ss) (inl h) = subst (λ p. SomeOf P (with_end p (ends_in (carried_step w) k ss))) (sym h.1) (inl h.2)
    some_in k (s ∷ ss) (inr h) = behind_end (where_at k s) (ends_in (carried_step w) k ss) (some_in k ss h)

    abbrev IsPastEnd : Stand → Type 0
    IsPastEnd (past a) = Unit {0}
    IsPastEnd p = ⊥

    abbrev end_or : CarriedEnd → Stand → CarriedEnd
    end_or d (past a) = a
    end_or d p = d

    turned_past : (t : Turn CarriedCall CarriedEnd) → IsPastEnd (from_turn (carried_step w) t) → ⊥
    turned_past (goes s) h = h
    turned_past (ends a) h = h
    turned_past stops h = h
    turned_past (faults c) h = h

    -- what is past its end was so before, or at its end
    came : (p : Stand) (a : CarriedEnd) → next_stand p ≡ past a → (p ≡ past a) ⊎ (p ≡ ending a)
    came (going s) a e = absurd (turned_past (carried_step w s) (subst IsPastEnd (sym e) tt))
    came (ending b) a e = inr (ap (λ p. ending (end_or a p)) e)
    came (past b) a e = inl e
    came stopped a e = absurd (subst IsPastEnd (sym e) tt)
    came (failed c) a e = absurd (subst IsPastEnd (sym e) tt)

    either_of : (k : ℕ) (s : CarriedCall) (ss : List CarriedCall) → PastBy (suc k) P s → SomeOf (PastBy k P) (s ∷ ss) ⊎ SomeOf (EndsAt k P) (s ∷ ss)
    either_of k s ss h = by (came (where_at k s) h.0 (sym (stands_next (carried_step w) k s) ∙ h.1))
      where
        by : (where_at k s ≡ past h.0) ⊎ (where_at k s ≡ ending h.0) → SomeOf (PastBy k P) (s ∷ ss) ⊎ SomeOf (EndsAt k P) (s ∷ ss)
        by (inl e) = inl (inl (h.0, e, h.2))
        by (inr e) = inr (inl (h.0, e, h.2))

    later_of : (k : ℕ) (s : CarriedCall) (ss : List CarriedCall) → SomeOf (PastBy k P) ss ⊎ SomeOf (EndsAt k P) ss
        → SomeOf (PastBy k P) (s ∷ ss) ⊎ SomeOf (EndsAt k P) (s ∷ ss)
    later_of k s ss (inl e) = inl (inr e)
    later_of k s ss (inr e) = inr (inr e)

    either : (k : ℕ) (ss : List CarriedCall) → SomeOf (PastBy (suc k) P) ss → SomeOf (PastBy k P) ss ⊎ SomeOf (EndsAt k P) ss
    either k [] h = absurd h
    either k (s ∷ ss) (inl h) = either_of k s ss h
    either k (s ∷ ss) (inr h) = later_of k s ss (either k ss h)

    none_yet : (ss : List CarriedCall) → SomeOf (PastBy zero P) ss → ⊥
    none_yet [] h = h
    none_yet (s ∷ ss) (inl h) = subst IsPastEnd (sym h.1) tt
    none_yet (s ∷ ss) (inr h) = none_yet ss h

    past_or_at : (k : ℕ) (ss : List CarriedCall) → (SomeOf (PastBy k P) ss → SomeOf P (ends_before (carried_step w) k ss))
        → SomeOf (PastBy k P) ss ⊎ SomeOf (EndsAt k P) ss
        → SomeOf P (ends_before (carried_step w) (suc k) ss)
    past_or_at k ss go (inl e) = some_left P (ends_before (carried_step w) k ss) (ends_in (carried_step w) k ss) (go e)
    past_or_at k ss go (inr e) = some_right P (ends_before (carried_step w) k ss) (ends_in (carried_step w) k ss) (some_in k ss e)

    -- the end of each start that is past it is there
    pub some_end : (k : ℕ) (ss : List CarriedCall) → SomeOf (PastBy k P) ss → SomeOf P (ends_before (carried_step w) k ss)
    some_end zero ss h = absurd (none_yet ss h)
    some_end (suc k) ss h = past_or_at k ss (λ e. some_end k ss e) (either k ss h)
