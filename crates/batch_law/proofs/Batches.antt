-- What a query over many calls answers, by what each call's query answers alone.
use Rattle.std.proofs.Common.{◌≡◌, inl, inr, ℕ, zero, suc, ◌<◌, ◌^◌, Bool, true, false, if◌then◌else◌, List, [], ◌∷◌, ◌++◌, map, length, decimal, Some, None, Ok, Err, refl, ap, sym, ◌∙◌, subst, append-nil, arith}
use Rattle.std.specs.Prelude.{zip}
use Rattle.away_trees.specs.declared.queries.Expr.TheViews.{roll-Key}
use Rattle.away_trees.specs.declared.queries.Query.{Query}
use Rattle.away_trees.specs.declared.queries.Select.{Select}
use Rattle.away_trees.specs.Algebra.{expr_of}
use Rattle.away_trees.proofs.Equations as eq
use Rattle.away_values.specs.declared.types.Ty.{Ty}
use Rattle.away_values.specs.declared.values.Answer.{Answer}
use Rattle.away_values.specs.declared.values.Answer.TheVariants as answer
use Rattle.away_values.specs.declared.values.Class.{Class}
use Rattle.away_values.specs.declared.values.Value.{Value}
use Rattle.away_values.specs.declared.values.Value.TheVariants as val
use Rattle.away_values.specs.Classes.{is_class}
use Rattle.away_values.specs.Results.{Or, and_then, mapped, each, class}
use Rattle.sql_meaning.specs.Context.{Rows, Frame, Context, at, inside}
use Rattle.sql_meaning.specs.Expressions.{KeyMeaning, values, any_aggregates}
use Rattle.sql_meaning.specs.Meaning.{meaning, rows_of_select}
use Rattle.sql_meaning.specs.Selects.{select_meaning, kept, listed, ordered, cut, sorted, comes_before, union}
use Rattle.sql_meaning.specs.Trees.{col, item, table}
use Rattle.sql_meaning.specs.Working.{Bounded, worked, recursive_table, over_table, rows_with, answered, rows, sql}
use Rattle.sql_meaning.proofs.Returns.{turned}
use Rattle.sql_meaning.proofs.RowPlaces.{at_value, after_value}
use Rattle.sql_meaning.proofs.SelectRows.{Are, is_col, none, more}
use Rattle.call_forms.specs.Bodies.{body_of}
use Rattle.call_forms.specs.Carrying as carrying
use Rattle.call_forms.specs.TailRuns.{AtLabel}
use Rattle.together.specs.Encoded.{AllGood, encoded}
use Rattle.together.specs.Steppers.{Turn, on, Where, going, ending, past, stopped, failed, stands, with_carried, with_end, answers, IsSound, IsPast, ArePast, ends_in, ends_before, run_together, StepsTogether}
use Rattle.together.specs.Steppers as steppers
use Rattle.together.specs.Tables.{IsFine, IsFilled, own, together, IsTogether}
use Rattle.together.specs.Tables as t
use Rattle.together.proofs.Encoded.{map_append, table_of}
use Rattle.together.proofs.Steppers.{rows_of, carries, onward, from_turn, stands_next, steps_together}
use Rattle.together.proofs.Tables.{all_fine_earlier, is_together}
use Rattle.cte_law.proofs.States.{State, Ended, IsState, left, row_of, step_of}
use Rattle.cte_law.proofs.Turns.{turn}
use Rattle.cte_law.proofs.Visits.{BodyRaisesClasses}
use Rattle.cte_law.proofs.Works.{all, froms}
use Rattle.cte_law.proofs.Worlds.{World, frame_in, OverTables}
use Rattle.batch_law.specs.Batches.{batch_list, final, by_first, FaultsFirst, SomeIsMore, NoneIsMore, answer_row, ended_in, ended_before, IsBatch}
use Rattle.batch_law.specs.Starts.{working_table, Start, start_row, AreCarried, AllFine}
use Rattle.batch_law.proofs.Alone.{answer_where, carried_step, sql_is, IsAnswerRow, HasRow, all_tell}
use Rattle.batch_law.proofs.Finishing.{End, frame_of_end, not_going, ends_kept, ends_listed, from_table}
use Rattle.batch_law.proofs.Joined.{encodes, one, many, call_of, call_stands, begun, states_of, good_begun, first_begun, one_table, rows_in, own_rows}

-- ---- the select in order

-- one value is carried
abbrev IsSingle : End → Type 0
IsSingle a = length a.0 ≡ 1

abbrev pub batch_row : End → List Value
batch_row a = at a.0 0 ∷ a.1.0 ∷ a.1.1 ∷ []

module _ (w : World) where
  abbrev n : ℕ
  n = length w.tail.columns

  batch_single : (cx : Context) → any_aggregates (all (batch_list n)) ≡ false
  batch_single cx =
      (more cx (col 0 0 2) _ _ _ (is_col cx 0 0 2)
      (more cx (col 0 0 (suc (suc (suc n)))) _ _ _ (is_col cx 0 0 (suc (suc (suc n))))
      (more cx (col 0 0 (suc (suc (suc (suc n))))) _ _ _ (is_col cx 0 0 (suc (suc (suc (suc n))))) (none cx)))).single

  batch_are : (cx : Context) (a : End) → IsSingle a → Are (inside (frame_of_end w a) cx) (batch_list n) (batch_row a)
  batch_are cx ([], e) h = absurd (omega (arith, h))
  batch_are cx (x ∷ y ∷ xs, e) h = absurd (omega (arith, h))
  batch_are cx (x ∷ [], e) h =
      let there : Context = inside (frame_of_end w (x ∷ [], e)) cx in
      subst (λ vs. Are there (batch_list n) vs) (λ i. x ∷ at_value w.tail.columns e.0 e.1 i ∷ after_value w.tail.columns e.0 e.1 i ∷ [])
      (more there (col 0 0 2) _ _ _ (is_col there 0 0 2)
      (more there (col 0 0 (suc (suc (suc n)))) _ _ _ (is_col there 0 0 (suc (suc (suc n))))
      (more there (col 0 0 (suc (suc (suc (suc n))))) _ _ _ (is_col there 0 0 (suc (suc (suc (suc n))))) (none there))))

  abbrev a_key : KeyMeaning
  a_key = record { descending = false; value = (expr_of meaning (col 0 0 2)).value }

  abbrev with_key : Context → Frame × List Value → Or (List Value × List Value)
  with_key cx x = mapped (λ keys. (keys, x.1)) (each (λ (s : KeyMeaning). s.value (inside x.0 cx)) (a_key ∷ []))

  one_keyed : (cx : Context) (a : End) → IsSingle a → with_key cx (frame_of_end w a, batch_row a) ≡ Ok (at (batch_row a) 0 ∷ [], batch_row a)
  one_keyed cx ([], e) h = absurd (omega (arith, h))
  one_keyed cx (x ∷ y ∷ xs, e) h = absurd (omega (arith, h))
  one_keyed cx (x ∷ [], e) h = refl

  all_keyed : (cx : Context) (ends : List End) → AllGood IsSingle ends
      → each (with_key cx) (zip (map (frame_of_end w) ends) (map batch_row ends)) ≡ Ok (map (λ (row : List Value). (at row 0 ∷ [], row)) (map batch_row ends))
  all_keyed cx [] h = refl
  all_keyed cx (a ∷ ends) h = (λ i. and_then (one_keyed cx a h.0 i) (λ y. mapped (λ ys. y ∷ ys) (all_keyed cx ends h.1 i)))

  module _ (args : List Value) (small : length w.tables < 2 ^ 64) (ss : List State) (ends : List End) (same : answers ss ≡ ends) (good : AllGood IsSingle ends) where
    abbrev here : Context
    here = turned w.tables args (map (row_of w) ss)

    abbrev keys : List KeyMeaning
    keys = a_key ∷ []

    abbrev behind_where : List Frame → Or Rows
    behind_where frames = and_then (listed here (all (batch_list n)) keys frames) (cut here None)

    final_is : rows_of_select (final (decimal (length w.tables)) n)
        ≡ select_meaning (record { list = all (batch_list n); from = froms (table (length w.tables) ∷ []); filter = Some (expr_of meaning not_going); order = keys; limit = None })
    final_is =
        eq.of_select meaning (map item (batch_list n)) (table (length w.tables) ∷ []) (Some not_going) (roll-Key (record { expr = col 0 0 2; descending = false }) ∷ []) None

    listed_is : listed here (all (batch_list n)) keys (map (frame_of_end w) ends) ≡ Ok (by_first (map batch_row ends))
    listed_is =
        ap (λ (b : Bool). if b then mapped (λ row. row ∷ []) (values (record here { frames = [] ∷ here.frames; group = map (frame_of_end w) ends }) (all (batch_list n)))
        else and_then (each (λ frame. values (inside frame here) (all (batch_list n))) (map (frame_of_end w) ends)) (ordered here keys (map (frame_of_end w) ends)))
        (batch_single here)
        ∙ (ap (λ o. and_then o (ordered here keys (map (frame_of_end w) ends))) (ends_listed w here (batch_list n) batch_row IsSingle (λ a h. batch_are here a h) ends good)
        ∙ ap (mapped (λ keyed. map (λ x. x.1) (sorted (comes_before keys) keyed))) (all_keyed here ends good))

    pub final_of : rows_of_select (final (decimal (length w.tables)) n) here ≡ Ok (by_first (map batch_row ends))
    final_of =
        ap (λ m. m here) final_is
        ∙ (ap (λ o. and_then o (λ frames. and_then (kept here (Some (expr_of meaning not_going)) frames) behind_where)) (from_table w args small ss)
        ∙ (ap (λ o. and_then o behind_where) (ends_kept w here ss ∙ ap (λ as_. Ok (map (frame_of_end w) as_)) same)
        ∙ ap (λ o. and_then o (cut here None)) listed_is))

-- ---- answers, and where calls stand

abbrev pub IsMore : Answer → Type 0
IsMore (answer.Value v) = ⊥
IsMore (answer.Fault c) = ⊥
IsMore answer.More = Unit {0}
IsMore (answer.Shape n) = ⊥

abbrev answer_of_end : Ended → Answer
answer_of_end a = answered (Some (Ok ((a.0 ∷ a.1 ∷ []) ∷ [])))

raised : (c : Class) → is_class c.code ≡ true → answer_of_end (val.Null, val.Text c.code) ≡ answer.Fault c
raised c h = ap (λ b. if b then answer.Fault (class c.code) else answer.Shape 1) h

-- the row of an end is that of its answer
end_answer_row : (x : Value) (a : Ended) → IsAnswerRow a → answer_row x answer.More (answer_of_end a) ≡ (x ∷ a.0 ∷ a.1 ∷ []) ∷ []
end_answer_row x a (inl e) = ap (λ c. answer_row x answer.More (answer_of_end (a.0, c))) e ∙ ap (λ c. (x ∷ a.0 ∷ c ∷ []) ∷ []) (sym e)
end_answer_row x a (inr h) =
    ap (λ (e : Ended). answer_row x answer.More (answer_of_end e)) h.1
    ∙ (ap (answer_row x answer.More) (raised h.0 h.2) ∙ ap (λ (e : Ended). (x ∷ e.0 ∷ e.1 ∷ []) ∷ []) (sym h.1))

pub not_more : (a : Ended) → IsAnswerRow a → IsMore (answer_of_end a) → ⊥
not_more a (inl e) m = subst (λ c. IsMore (answer_of_end (a.0, c))) e m
not_more a (inr h) m = subst IsMore (ap answer_of_end h.1 ∙ raised h.0 h.2) m

-- a call that had an answer before has no row again
answer_row_before : (x : Value) (a : Ended) → IsAnswerRow a → (now : Answer) → answer_row x (answer_of_end a) now ≡ []
answer_row_before x a (inl e) now = ap (λ c. answer_row x (answer_of_end (a.0, c)) now) e
answer_row_before x a (inr h) now = ap (λ o. answer_row x o now) (ap answer_of_end h.1 ∙ raised h.0 h.2)

module _ (w : World) (ok : OverTables w) (small : length w.tables < 2 ^ 64) (raise : (b : ℕ) → BodyRaisesClasses (body_of w.anf w.tail b)) where
  abbrev at_ : ℕ → List Value → Where AtLabel Ended
  at_ i vs = call_stands w ok small i vs

  tells : (i : ℕ) (vs : List Value) → HasRow (at_ i vs)
  tells i vs = all_tell w raise i (call_of w ok small vs)

  abbrev one_query : Query
  one_query = one w ok small

  -- ---- a fault of the engine

  fault_in : (xs : List Value) (p : Where AtLabel Ended) (c : Class) → rows_in w ok small [] p ≡ Err c → rows_of (with_carried xs p) ≡ Err c
  fault_in xs (going s) c e = absurd (subst IsFine e tt)
  fault_in xs (ending a) c e = absurd (subst IsFine e tt)
  fault_in xs (past a) c e = absurd (subst IsFine e tt)
  fault_in xs stopped c e = absurd (subst IsFine e tt)
  fault_in xs (failed d) c e = cc

  sound_in : (p : Where AtLabel Ended) → IsFine (rows_in w ok small [] p) → IsSound p
  sound_in (going s) h = tt
  sound_in (ending a) h = tt
  sound_in (past a) h = tt
  sound_in stopped h = tt
  sound_in (failed c) h = absurd h

  fine_sound : (i : ℕ) (vs : List Value) → IsFine (working_table one_query w.tables vs i) → IsSound (at_ i vs)
  fine_sound i vs h = sound_in (at_ i vs) (subst IsFine (one_table w ok small vs i) h)

  fine_in : (xs : List Value) (p : Where AtLabel Ended) → IsSound p → IsFine (rows_of (with_carried xs p))
  fine_in xs (going s) h = tt
  fine_in xs (ending a) h = tt
  fine_in xs (past a) h = tt
  fine_in xs stopped h = tt
  fine_in xs (failed c) h = absurd h

  own_fine : (j : ℕ) (s : Start) → IsFine (working_table one_query w.tables s.1 j) → IsFine (own (left w) j (on (s.0, call_of w ok small s.1)))
  own_fine j s h =
      subst IsFine (sym (own_rows w ok small s.0 j (call_of w ok small s.1))) (fine_in s.0 (at_ j s.1) (fine_sound j s.1 h))

  module _ (carried : List Ty) (first selects : List Select) (args : List Value) where
    abbrev states : List Start → List State
    states ss = states_of w ok small carried first selects args ss

    first_faults : (j : ℕ) (c : Class) (ss : List Start) → FaultsFirst one_query w.tables j c ss → t.FaultsFirst (left w) j c (states ss)
    first_faults j c [] h = absurd h
    first_faults j c (s ∷ ss) (inl e) =
        inl
        (own_rows w ok small s.0 j (call_of w ok small s.1) ∙ fault_in s.0 (at_ j s.1) c (sym (one_table w ok small s.1 j) ∙ e))
    first_faults j c (s ∷ ss) (inr h) = inr (own_fine j s h.0, first_faults j c ss h.1)

    fine_states : (j : ℕ) (ss : List Start) → AllFine one_query w.tables j ss → t.AllFine (left w) j (states ss)
    fine_states j [] h = tt
    fine_states j (s ∷ ss) h = (own_fine j s h.0, fine_states j ss h.1)

    -- ---- no answer yet

    goes_in : (xs : List Value) (p : Where AtLabel Ended) → HasRow p → IsMore (answer_where p) → IsFilled (rows_of (with_carried xs p))
    goes_in xs (going s) h m = tt
    goes_in xs (ending a) h m = tt
    goes_in xs (past a) h m = absurd (not_more a h m)
    goes_in xs stopped h m = absurd m
    goes_in xs (failed c) h m = absurd m

    more_at : (k : ℕ) (vs : List Value) → sql one_query w.tables vs k ≡ answer.More → IsMore (answer_where (at_ k vs))
    more_at k vs e = subst IsMore (sym e ∙ sql_is w ok small vs k) tt

    some_goes : (k : ℕ) (ss : List Start) → SomeIsMore one_query w.tables k ss → t.SomeGoesOn (left w) k (states ss)
    some_goes k [] h = absurd h
    some_goes k (s ∷ ss) (inl e) =
        inl
        (subst IsFilled (sym (own_rows w ok small s.0 k (call_of w ok small s.1))) (goes_in s.0 (at_ k s.1) (tells k s.1) (more_at k s.1 e)))
    some_goes k (s ∷ ss) (inr h) = inr (some_goes k ss h)

    -- ---- all answers

    abbrev starts_of : List Start → List (List Value × AtLabel)
    starts_of ss = begun w ok small carried first selects args ss

    past_in : (xs : List Value) (p : Where AtLabel Ended) → IsSound p → (answer_where p ≡ answer.More → ⊥) → IsPast (with_carried xs p)
    past_in xs (going s) h m = absurd (m refl)
    past_in xs (ending a) h m = absurd (m refl)
    past_in xs (past a) h m = tt
    past_in xs stopped h m = tt
    past_in xs (failed c) h m = absurd h

    all_past : (k : ℕ) (ss : List Start) → AllFine one_query w.tables k ss → NoneIsMore one_query w.tables k ss → ArePast (carried_step w) k (starts_of ss)
    all_past k [] h m = tt
    all_past k (s ∷ ss) h m = (
      subst IsPast (sym (carries (step_of w) k s.0 (call_of w ok small s.1)))
          (past_in s.0 (at_ k s.1) (fine_sound k s.1 h.0) (λ e. m.0 (sql_is w ok small s.1 k ∙ e))),
      all_past k ss h.1 m.1,
    )

    answer_row_from : (x : Value) (turn : Turn AtLabel Ended) → IsSound (from_turn (step_of w) turn) → answer_row x answer.More (answer_where (from_turn (step_of w) turn)) ≡ []
    answer_row_from x (steppers.goes s) h = refl
    answer_row_from x (steppers.ends a) h = refl
    answer_row_from x steppers.stops h = refl
    answer_row_from x (steppers.faults c) h = absurd h

    answer_row_at_end : (xs : List Value) (p : Where AtLabel Ended) → HasRow p → IsSound (onward (step_of w) p) → (rest : List End)
        → map batch_row (with_end (with_carried xs p) rest) ≡ answer_row (at xs 0) (answer_where p) (answer_where (onward (step_of w) p)) ++ map batch_row rest
    answer_row_at_end xs (going s) h sound rest = ap (λ (first : Rows). first ++ map batch_row rest) (sym (answer_row_from (at xs 0) (step_of w s) sound))
    answer_row_at_end xs (ending a) h sound rest = ap (λ (first : Rows). first ++ map batch_row rest) (sym (end_answer_row (at xs 0) a h))
    answer_row_at_end xs (past a) h sound rest = ap (λ (first : Rows). first ++ map batch_row rest) (sym (answer_row_before (at xs 0) a h (answer_of_end a)))
    answer_row_at_end xs stopped h sound rest = refl
    answer_row_at_end xs (failed c) h sound rest = absurd sound

    sound_of : (xs : List Value) (p : Where AtLabel Ended) → IsFine (rows_of (with_carried xs p)) → IsSound p
    sound_of xs (going s) h = tt
    sound_of xs (ending a) h = tt
    sound_of xs (past a) h = tt
    sound_of xs stopped h = tt
    sound_of xs (failed c) h = absurd h

    in_table : (i : ℕ) (ss : List Start) → t.AllFine (left w) (suc i) (states ss)
        → map batch_row (ends_in (carried_step w) i (starts_of ss)) ≡ ended_in one_query w.tables i ss
    in_table i [] h = refl
    in_table i (s ∷ ss) h =
        let call : AtLabel = call_of w ok small s.1 in
        let next = stands_next (step_of w) i call in
        let sound : IsSound (at_ (suc i) s.1) = sound_of s.0 (at_ (suc i) s.1) (subst IsFine (own_rows w ok small s.0 (suc i) call) h.0) in
        ap (λ p. map batch_row (with_end p (ends_in (carried_step w) i (starts_of ss)))) (carries (step_of w) i s.0 call)
        ∙ (answer_row_at_end s.0 (at_ i s.1) (tells i s.1) (subst IsSound next sound) (ends_in (carried_step w) i (starts_of ss))
        ∙ (λ t. answer_row (at s.0 0) (sym (sql_is w ok small s.1 i) t) ((ap answer_where (sym next) ∙ sym (sql_is w ok small s.1 (suc i))) t) ++ in_table i ss h.1 t))

    in_tables : (k : ℕ) (ss : List Start) → t.AllFine (left w) k (states ss)
        → map batch_row (ends_before (carried_step w) k (starts_of ss)) ≡ ended_before one_query w.tables k ss
    in_tables zero ss h = refl
    in_tables (suc k) ss h =
        map_append batch_row (ends_before (carried_step w) k (starts_of ss)) (ends_in (carried_step w) k (starts_of ss))
        ∙ (λ t. in_tables k ss (all_fine_earlier (left w) k (suc k) (omega arith) (states ss) h) t ++ in_table k ss h t)

    -- ---- each end carries one value

    single_more : (xs : List Value) (p : Where AtLabel Ended) → length xs ≡ 1 → (rest : List End) → AllGood IsSingle rest
        → AllGood IsSingle (with_end (with_carried xs p) rest)
    single_more xs (going s) h rest k = k
    single_more xs (ending a) h rest k = (h, k)
    single_more xs (past a) h rest k = k
    single_more xs stopped h rest k = k
    single_more xs (failed c) h rest k = k

    abbrev AreSingle : List Start → Type 0
    AreSingle [] = Unit {0}
    AreSingle (s ∷ ss) = (length s.0 ≡ 1) × AreSingle ss

    single_in : (i : ℕ) (ss : List Start) → AreSingle ss → AllGood IsSingle (ends_in (carried_step w) i (starts_of ss))
    single_in i [] h = tt
    single_in i (s ∷ ss) h =
        subst (λ p. AllGood IsSingle (with_end p (ends_in (carried_step w) i (starts_of ss)))) (sym (carries (step_of w) i s.0 (call_of w ok small s.1)))
        (single_more s.0 (at_ i s.1) h.0 (ends_in (carried_step w) i (starts_of ss)) (single_in i ss h.1))

    good_append : (xs ys : List End) → AllGood IsSingle xs → AllGood IsSingle ys → AllGood IsSingle (xs ++ ys)
    good_append [] ys h k = k
    good_append (x ∷ xs) ys h k = (h.0, good_append xs ys h.1 k)

    single_before : (k : ℕ) (ss : List Start) → AreSingle ss → AllGood IsSingle (ends_before (carried_step w) k (starts_of ss))
    single_before zero ss h = tt
    single_before (suc k) ss h =
        good_append (ends_before (carried_step w) k (starts_of ss)) (ends_in (carried_step w) k (starts_of ss)) (single_before k ss h) (single_in k ss h)

  -- ---- the whole

  module _ (ty : Ty) (first : List Select) (args : List Value) where
    abbrev sorting : List Select
    sorting = final (decimal (length w.tables)) (length w.tail.columns) ∷ []

    abbrev batch : Query
    batch = many w ok small (ty ∷ []) first sorting args

    abbrev by_final : Bounded Rows → Bounded Rows
    by_final o = over_table (union (rows_of_select (final (decimal (length w.tables)) (length w.tail.columns)) ∷ [])) w.tables args o

    abbrev all_states : List Start → List State
    all_states ss = states (ty ∷ []) first sorting args ss

    single_starts : (ss : List Start) → AreCarried (ty ∷ []) ss → AreSingle (ty ∷ []) first sorting args ss
    single_starts [] h = tt
    single_starts (s ∷ ss) h = (h.0, single_starts ss h.1)

    module _ (ss : List Start) (good : AreCarried (ty ∷ []) ss)
        (begins : working_table batch w.tables args 0 ≡ Ok (map (start_row (frame_in w) w.anf w.tail) ss)) where
      rows_are : (k : ℕ) → rows batch w.tables args k ≡ by_final (encoded (row_of w) (together (left w) k (all_states ss)))
      rows_are k =
          let second = carrying.step w.table w.types (ty ∷ []) w.result w.anf w.tail (decimal (length w.tables)) in
          ap (λ m. rows_with m.recursive m.rows w.tables args k)
          (eq.of_with meaning (carrying.part_of w.table w.types (ty ∷ []) w.result w.anf w.tail first (length w.tables)) sorting)
          ∙ (ap (λ r. by_final (recursive_table r w.tables args k)) (eq.of_recursive meaning [] [] first second)
          ∙ (ap (λ x. by_final (worked (turn w ok args small (ty ∷ [])) k [] x)) (first_begun w ok small (ty ∷ []) first sorting args ss good begins)
          ∙ ap by_final
          (table_of (left w) (row_of w) (IsState (ty ∷ [])) (turn w ok args small (ty ∷ [])) (encodes w (ty ∷ []) ok args small) k (all_states ss)
          (good_begun w ok small (ty ∷ []) first sorting args ss good))))

      pub is_batch : (k : ℕ) → IsBatch batch one_query w.tables args ss k
      is_batch k =
          let whole = is_together (left w) k (all_states ss) in
          record {
            faults = λ j c p fine faulty.
                rows_are k
                ∙ ap (λ o. by_final (encoded (row_of w) o))
                (whole.faults j c p (λ i q. fine_states (ty ∷ []) first sorting args i ss (fine i q)) (first_faults (ty ∷ []) first sorting args j c ss faulty));
            goes_on = λ fine some.
                rows_are k
                ∙ ap (λ o. by_final (encoded (row_of w) o))
                (whole.goes_on (fine_states (ty ∷ []) first sorting args k ss fine) (some_goes (ty ∷ []) first sorting args k ss some));
            ends = λ fine none_more.
                let found = (steps_together (carried_step w) k (starts_of (ty ∷ []) first sorting args ss)).ends (all_past (ty ∷ []) first sorting args k ss fine none_more) in
                let singles = single_before (ty ∷ []) first sorting args k ss (single_starts ss good) in
                rows_are k
                ∙ (ap (λ o. by_final (encoded (row_of w) o)) found.is
                ∙ (ap (λ x. Some (and_then x (λ ys. Ok (ys ++ []))))
                (final_of w args small found.rows (ends_before (carried_step w) k (starts_of (ty ∷ []) first sorting args ss)) found.answers singles)
                ∙ (ap (λ (ys : Rows). Some (Ok ys)) (append-nil (by_first (map batch_row (ends_before (carried_step w) k (starts_of (ty ∷ []) first sorting args ss)))))
                ∙ ap (λ (ys : Rows). Some (Ok (by_first ys))) (in_tables (ty ∷ []) first sorting args k ss (fine_states (ty ∷ []) first sorting args k ss fine)))));
          }
