-- Where each call has ended with a value, the written query has the rows of the select with these values.
use Rattle.std.proofs.Common.{◌≡◌, inl, inr, refl, ap, sym, ◌∙◌, subst, ℕ, zero, suc, ◌<◌, ◌^◌, true, pos, List, [], ◌∷◌, map, filter, length, get_or, decimal, Some, option_map, Ok, Err, arith}
use Rattle.std.specs.List.{list_all}
use Rattle.away_trees.specs.Algebra.{select_of}
use Rattle.away_trees.specs.declared.queries.Expr.{Expr}
use Rattle.away_trees.specs.declared.queries.Expr.TheViews.{out-Item, out-Select}
use Rattle.away_trees.specs.declared.queries.FromItem.{FromItem}
use Rattle.away_trees.specs.declared.queries.Item.{Item}
use Rattle.away_trees.specs.declared.queries.Query.{Query}
use Rattle.away_trees.specs.declared.queries.Select.{Select}
use Rattle.away_trees.proofs.Equations as eq
use Rattle.away_values.specs.declared.types.Ty.{Ty}
use Rattle.away_values.specs.declared.values.Answer.{Answer}
use Rattle.away_values.specs.declared.values.Answer.TheVariants as answer
use Rattle.away_values.specs.declared.values.Class.{Class}
use Rattle.away_values.specs.declared.values.Value.{Value}
use Rattle.away_values.specs.declared.values.Value.TheVariants as val
use Rattle.away_values.specs.Results.{Or, mapped}
use Rattle.sql_meaning.specs.Context.{Rows, Frame, Context, at, inside, outermost}
use Rattle.sql_meaning.specs.Meaning.{meaning, rows_of_select}
use Rattle.sql_meaning.specs.Reads.{reading}
use Rattle.sql_meaning.specs.Selects.{union}
use Rattle.type_soundness.specs.Surroundings.{IsRow}
use Rattle.sql_meaning.specs.Working.{Bounded, next_rows, over_table, recursive_table, rows, rows_with, with_table, worked}
use Rattle.call_forms.specs.Bodies.{body_of}
use Rattle.call_forms.specs.Carrying as carrying
use Rattle.call_forms.specs.TailRuns.{AtLabel}
use Rattle.together.specs.Steppers.{Where, going, ending, past, stopped, failed, stands, with_carried}
use Rattle.together.proofs.Steppers.{carries}
use Rattle.cte_law.proofs.Sequences.{alone}
use Rattle.cte_law.proofs.States.{Ended, row_of, step_of}
use Rattle.cte_law.proofs.Visits.{BodyRaisesClasses}
use Rattle.cte_law.proofs.Worlds.{World, OverTables}
use Rattle.batch_law.specs.Starts.{Start, AreCarried}
use Rattle.batch_law.proofs.Alone.{carried_step}
use Rattle.batch_law.proofs.Joined.{many, many_part, call_of, call_stands, rows_begun, states_of}
use Rattle.inline_law.specs.Answers.{Every, FitParameters, IsOver, SomeOf, within}
use Rattle.inline_law.specs.Filled.{CallingSelect, arguments_at, beside, every, filled, filled_at, kept_rows, rest_of, value_at, value_in, with_calls}
use Rattle.inline_law.specs.Written.{carried_types, filled_select, result_place, starts_of_calls, table_as}
use Rattle.inline_law.proofs.CallEnds.{first_is, own_row, result_is, row_is_own, row_of_end}
use Rattle.inline_law.proofs.CallFilter.{IsTable, first_result, is_row_of, table_is}
use Rattle.inline_law.proofs.CarriedTable.{CarriedTable, EndsBy, PastBy, TableOfEnds, all_ends, carried_table, some_end, starts_of}
use Rattle.inline_law.proofs.FilledSelect as chosen
use Rattle.inline_law.proofs.FirstTerm.{AreSingle, first_fails, first_starts, row_of_start, starts_at}
use Rattle.inline_law.proofs.Starts.{as_many, every_map, number, number_is, some_map, starts_given, starts_have, starts_in, turned, typed_values}

every_mapped : {A B : Type 0} (P : B → Type 0) (f : A → B) (xs : List A) → Every (λ (x : A). P (f x)) xs → Every P (map f xs)
every_mapped P f [] h = tt
every_mapped P f (x ∷ xs) h = (h.0, every_mapped P f xs h.1)

some_mapped : {A B : Type 0} (P : B → Type 0) (f : A → B) (xs : List A) → SomeOf (λ (x : A). P (f x)) xs → SomeOf P (map f xs)
some_mapped P f [] h = h
some_mapped P f (x ∷ xs) (inl h) = inl h
some_mapped P f (x ∷ xs) (inr h) = inr (some_mapped P f xs h)

every_all : {A I : Type 0} (P : I → A → Type 0) (xs : List A) → ((i : I) → Every (P i) xs) → Every (λ (x : A). (i : I) → P i x) xs
every_all P [] h = tt
every_all P (x ∷ xs) h = ((λ i. (h i).0), every_all P xs (λ i. (h i).1))

-- ---- ends

abbrev IsPast : {S A : Type 0} → Where S A → Type 0
IsPast (past a) = Unit {0}
IsPast p = ⊥

abbrev end_or : {S A : Type 0} → A → Where S A → A
end_or d (past a) = a
end_or d p = d

same_end : {S A : Type 0} (p : Where S A) (a b : A) → p ≡ past a → p ≡ past b → a ≡ b
same_end p a b h k = ap (end_or a) (sym h ∙ k)

carried_past : (x : List Value) (p : Where AtLabel Ended) (a : List Value × Ended) → with_carried x p ≡ past a → (e : Ended) × (p ≡ past e) × (a ≡ (x, e))
carried_past x (going s) a h = absurd (subst IsPast (sym h) tt)
carried_past x (ending e) a h = absurd (subst IsPast (sym h) tt)
carried_past x (past e) a h = (e, refl, ap (end_or a) (sym h))
carried_past x stopped a h = absurd (subst IsPast (sym h) tt)
carried_past x (failed c) a h = absurd (subst IsPast (sym h) tt)

module _ (w : World) (ok : OverTables w) (small : length w.tables < 2 ^ 64) (raise : (b : ℕ) → BodyRaisesClasses (body_of w.anf w.tail b))
    (name : List ℕ) (names : List (List ℕ)) (params : List Ty) (q : CallingSelect) (args : List Value) where
  abbrev carried : List Ty
  carried = carried_types params

  abbrev first : List Select
  first = starts_of_calls params w.result w.anf w.tail w.goto.entry q.select 1 q.calls

  abbrev columns : ℕ
  columns = length w.tail.columns

  abbrev table : FromItem
  table = table_as name names (decimal (length w.tables))

  table_rows : IsTable table (length w.tables)
  table_rows = table_is name names (length w.tables) small

  abbrev last : Select
  last = filled_select table columns q

  abbrev pub made : Query
  made = many w ok small carried first (last ∷ []) args

  abbrev before : Context
  before = outermost w.tables args

  abbrev first_table : Or Rows
  first_table = (many_part w ok small carried first (last ∷ []) args).first before

  abbrev pub by_last : Bounded Rows → Bounded Rows
  by_last o = over_table (union (rows_of_select last ∷ [])) w.tables args o

  abbrev pub table_at : ℕ → Bounded Rows
  table_at k = recursive_table (many_part w ok small carried first (last ∷ []) args) w.tables args k

  pub rows_are : (k : ℕ) → rows made w.tables args k ≡ by_last (table_at k)
  rows_are k =
      ap (λ m. rows_with m.recursive m.rows w.tables args k)
      (eq.of_with meaning (carrying.part_of w.table w.types carried w.result w.anf w.tail first (length w.tables)) (last ∷ []))
      ∙ ap (λ r. by_last (recursive_table r w.tables args k))
      (eq.of_recursive meaning [] [] first (carrying.step w.table w.types carried w.result w.anf w.tail (decimal (length w.tables))))

  -- a class of the first table is that of the whole
  first_class : (c : Class) → first_table ≡ Err c → (k : ℕ) → rows made w.tables args k ≡ Some (Err c)
  first_class c h k =
      rows_are k ∙ ap (λ x. by_last (worked (next_rows (many_part w ok small carried first (last ∷ []) args) w.tables args) k [] x)) h

  pub kept_fails : (c : Class) → kept_rows q.select before ≡ Err c → (es : List Expr) (more : List (List Expr)) → q.calls ≡ es ∷ more → AreSingle es → (k : ℕ)
      → rows made w.tables args k ≡ Some (Err c)
  kept_fails c h es more is single k =
      first_class c
      (ap (λ calls. union (map (λ s. select_of meaning s) (starts_of_calls params w.result w.anf w.tail w.goto.entry q.select 1 calls)) before) is
      ∙ first_fails w params before q.select c h 1 es more single) k

  module _ (frames : List Frame) (kept : kept_rows q.select before ≡ Ok frames)
      (typed : Every (λ (frame : Frame). Every (FitParameters (inside frame before) params) q.calls) frames)
      (single : Every AreSingle q.calls) where
    abbrev pub all_starts : Or (List Start)
    all_starts = starts_at w params before frames 1 q.calls

    first_is_starts : first_table ≡ mapped (map (row_of_start w params)) all_starts
    first_is_starts =
        first_starts w params before q.select frames kept 1 q.calls single
        (turned (λ (frame : Frame) (es : List Expr). FitParameters (inside frame before) params es) frames q.calls typed)

    pub arguments_fail : (c : Class) → all_starts ≡ Err c → (k : ℕ) → rows made w.tables args k ≡ Some (Err c)
    arguments_fail c h k = first_class c (first_is_starts ∙ ap (mapped (map (row_of_start w params))) h) k

    -- a number and typed arguments
    abbrev pub IsStart : Start → Type 0
    IsStart s = (m : ℕ) × (s.0 ≡ val.Int (pos m) ∷ s.1) × IsRow params s.1

    module _ (ss : List Start) (given : all_starts ≡ Ok ss) where
      pub are_starts : Every IsStart ss
      are_starts =
          starts_have w params before IsStart frames 1 q.calls ss given
          (turned (λ (frame : Frame) (es : List Expr). (m : ℕ) (us : List Value) → arguments_at (inside frame before) es ≡ Ok us → IsStart (val.Int (pos m) ∷ us, us)) frames q.calls
          (every_map (λ (frame : Frame). Every (FitParameters (inside frame before) params) q.calls)
          (λ (frame : Frame). Every (λ (es : List Expr). (m : ℕ) (us : List Value) → arguments_at (inside frame before) es ≡ Ok us → IsStart (val.Int (pos m) ∷ us, us)) q.calls) frames
          (λ frame h.
          every_map (FitParameters (inside frame before) params)
          (λ (es : List Expr). (m : ℕ) (us : List Value) → arguments_at (inside frame before) es ≡ Ok us → IsStart (val.Int (pos m) ∷ us, us)) q.calls
          (λ es fit m us e. (m, refl, typed_values (inside frame before) params es us fit e)) h)
          typed))

      typed_length : (ts : List Ty) (us : List Value) → IsRow ts us → length us ≡ length ts
      typed_length [] [] h = refl
      typed_length (t ∷ ts) (u ∷ us) h = ap suc (typed_length ts us h.1)
      typed_length [] (u ∷ us) h = absurd h
      typed_length (t ∷ ts) [] h = absurd h

      carried_starts : (ss : List Start) → Every IsStart ss → AreCarried carried ss
      carried_starts [] h = tt
      carried_starts (s ∷ ss) h = (ap length h.0.1 ∙ ap suc (typed_length params s.1 h.0.2), carried_starts ss h.1)

      begins : first_table ≡ Ok (map (row_of w) (states_of w ok small carried first (last ∷ []) args ss))
      begins =
          first_is_starts
          ∙ (ap (mapped (map (row_of_start w params))) given ∙ ap Ok (rows_begun w ok small carried first (last ∷ []) args ss))

      -- the recursive table at each bound
      pub the_table : (k : ℕ) → CarriedTable w ok small raise carried first (last ∷ []) args k ss (table_at k)
      the_table k = carried_table w ok small raise carried first (last ∷ []) args ss (carried_starts ss are_starts) begins k

      -- ---- each call has ended with a value

      module _ (k : ℕ) (answers_of : List Value → Answer) where
        -- the call has ended, and this is the answer
        abbrev pub EndsIn : List Value → Value → Type 0
        EndsIn us v = (call_stands w ok small k us ≡ past (v, val.Null)) × (answers_of us ≡ answer.Value v)

        abbrev pub HasEnded : List Value → Type 0
        HasEnded us = (v : Value) × EndsIn us v

        abbrev At : Frame → List Expr → Or (List Value)
        At frame es = arguments_at (inside frame before) es

        -- the values of calls at a row
        record CallsHave (frame : Frame) (calls : List (List Expr)) : Type 0 where
          pub found : List Value
          pub is : every (λ es. value_at answers_of (At frame es)) calls ≡ Some found
          pub each : (i : ℕ) → i < length calls → (us : List Value) × (At frame (get_or calls i []) ≡ Ok us) × EndsIn us (at found i)

        with_value : (frame : Frame) (es : List Expr) (us : List Value) (v : Value) → At frame es ≡ Ok us → answers_of us ≡ answer.Value v
            → value_at answers_of (At frame es) ≡ Some v
        with_value frame es us v h k = ap (value_at answers_of) h ∙ ap value_in k

        calls_have : (frame : Frame) (calls : List (List Expr))
            → Every (λ (es : List Expr). (us : List Value) × (At frame es ≡ Ok us) × HasEnded us) calls → CallsHave frame calls
        calls_have frame [] h = record { found = []; is = refl; each = λ i low. absurd (omega (arith, low)) }
        calls_have frame (es ∷ calls) h =
            let rest = calls_have frame calls h.1 in
            let v : Value = h.0.2.0 in
            record {
              found = v ∷ rest.found;
              is = (λ t. beside (with_value frame es h.0.0 v h.0.1 h.0.2.1.1 t) (rest.is t));
              each = λ i low. at_each frame es calls h.0 rest i low;
            }
          where
            at_each : (frame : Frame) (es : List Expr) (calls : List (List Expr)) (one : (us : List Value) × (At frame es ≡ Ok us) × HasEnded us) (rest : CallsHave frame calls)
                → (i : ℕ) → i < length (es ∷ calls)
                → (us : List Value) × (At frame (get_or (es ∷ calls) i []) ≡ Ok us) × EndsIn us (at (one.2.0 ∷ rest.found) i)
            at_each frame es calls one rest zero low = (one.0, one.1, one.2.1)
            at_each frame es calls one rest (suc i) low = rest.each i (omega (arith, low))

        abbrev Index : Type 0
        Index = (i : ℕ) × (i < length q.calls)

        -- the start of call i at its arguments is there
        abbrev IsThere : Index → Frame → Type 0
        IsThere i frame = (us : List Value) → At frame (get_or q.calls i.0 []) ≡ Ok us → SomeOf (λ (s : Start). s ≡ (val.Int (pos (number 1 i.0)) ∷ us, us)) ss

        all_there : Every (λ (frame : Frame). (i : Index) → IsThere i frame) frames
        all_there = every_all IsThere frames (λ i. starts_in w params before frames 1 q.calls ss given i.0 i.1)

        module _ (ended_table : TableOfEnds w ok small raise carried first (last ∷ []) args k ss (table_at k)) where
          abbrev found_rows : Rows
          found_rows = map (row_of w) ended_table.states

          abbrev call_at : Start → List Value × AtLabel
          call_at s = (s.0, call_of w ok small s.1)

          stands_is : (s : Start) → stands (carried_step w) k (call_at s) ≡ with_carried s.0 (call_stands w ok small k s.1)
          stands_is s = carries (step_of w) k s.0 (call_of w ok small s.1)

          module _ (i : ℕ) (us : List Value) (v : Value) (us_typed : IsRow params us) (us_end : EndsIn us v) where
            abbrev place : ℕ
            place = result_place (length us) columns

            abbrev Kept : List Value × Ended → Type 0
            Kept a = is_row_of (suc i) us (row_of_end w a) ≡ true

            abbrev HasResult : List Value × Ended → Type 0
            HasResult a = Kept a → at (row_of_end w a) place ≡ v

            own_result : (s : Start) → IsStart s → (e : Ended) → call_stands w ok small k s.1 ≡ past e → HasResult (s.0, e)
            own_result s is e stood keeps =
                let started : (s.0, e) ≡ (val.Int (pos is.0) ∷ s.1, e) = ap (λ (x : List Value). (x, e)) is.1 in
                let own = row_is_own w params is.0 (suc i) s.1 us e is.2 us_typed (subst Kept started keeps) in
                let end_is : e ≡ (v, val.Null) = same_end (call_stands w ok small k us) e (v, val.Null) (subst (λ x. call_stands w ok small k x ≡ past e) own.1 stood) us_end.0 in
                ap (λ (a : List Value × Ended). at (row_of_end w a) place) started
                ∙ (ap (λ (x : List Value). at (row_of_end w (val.Int (pos is.0) ∷ s.1, e)) (result_place (length x) columns)) (sym own.1)
                ∙ (result_is w is.0 s.1 e ∙ ap (λ (x : Ended). x.0) end_is))

            ends_have : (s : Start) → IsStart s → EndsBy w k HasResult (call_at s)
            ends_have s is a stood =
                let e = carried_past s.0 (call_stands w ok small k s.1) a (sym (stands_is s) ∙ stood) in
                subst HasResult (sym e.2) (own_result s is e.0 e.1)

            is_past : (s : Start) → s ≡ (val.Int (pos (suc i)) ∷ us, us) → PastBy w k Kept (call_at s)
            is_past s e =
                subst (λ (x : Start). PastBy w k Kept (call_at x)) (sym e) (
                  (val.Int (pos (suc i)) ∷ us, (v, val.Null)),
                  stands_is (val.Int (pos (suc i)) ∷ us, us) ∙ ap (with_carried (val.Int (pos (suc i)) ∷ us)) us_end.0,
                  own_row w (suc i) us (v, val.Null),
                )

            result_found : SomeOf (λ (s : Start). s ≡ (val.Int (pos (suc i)) ∷ us, us)) ss → first_result place (filter (is_row_of (suc i) us) found_rows) ≡ v
            result_found there =
                first_is w (suc i) place us v ended_table.states
                (subst (Every HasResult) (sym ended_table.ends)
                (all_ends w HasResult k (starts_of w ok small raise carried first (last ∷ []) args ss)
                (every_mapped (EndsBy w k HasResult) call_at ss (every_map IsStart (λ (s : Start). EndsBy w k HasResult (call_at s)) ss ends_have are_starts))))
                (subst (SomeOf Kept) (sym ended_table.ends)
                (some_end w Kept k (starts_of w ok small raise carried first (last ∷ []) args ss)
                (some_mapped (PastBy w k Kept) call_at ss (some_map (λ (s : Start). s ≡ (val.Int (pos (suc i)) ∷ us, us)) (λ (s : Start). PastBy w k Kept (call_at s)) ss is_past there))))

          every_at : {A : Type 0} (P : A → Type 0) (xs : List A) (d : A) → Every P xs → (i : ℕ) → i < length xs → P (get_or xs i d)
          every_at P [] d h i low = absurd (omega (arith, low))
          every_at P (x ∷ xs) d h zero low = h.0
          every_at P (x ∷ xs) d h (suc i) low = every_at P xs d h.1 i (omega (arith, low))

          abbrev FitAt : Frame → Type 0
          FitAt frame = Every (FitParameters (inside frame before) params) q.calls

          abbrev EndedAt : Frame → Type 0
          EndedAt frame = Every (λ (es : List Expr). (us : List Value) × (At frame es ≡ Ok us) × HasEnded us) q.calls

          abbrev ThereAt : Frame → Type 0
          ThereAt frame = (i : Index) → IsThere i frame

          abbrev AllShown : Frame × List Value → Type 0
          AllShown = chosen.AllShown w.tables table table_rows found_rows args columns q

          shown_at : (frame : Frame) (fit : FitAt frame) (h : EndedAt frame) → ThereAt frame → AllShown (frame, (calls_have frame q.calls h).found)
          shown_at frame fit h there i low =
              let r = (calls_have frame q.calls h).each i low in
              let es : List Expr = get_or q.calls i [] in
              let us : List Value = r.0 in
              let us_typed = typed_values (inside frame before) params es us (every_at (FitParameters (inside frame before) params) q.calls [] fit i low) r.1 in
              let counted : number 1 i ≡ suc i = (let e = number_is 1 i in omega (arith, e)) in
              record {
                found = us;
                are = r.1;
                as_many = as_many (inside frame before) es us r.1;
                first = result_found i us (at (calls_have frame q.calls h).found i) us_typed r.2
                    (subst (λ n. SomeOf (λ (s : Start). s ≡ (val.Int (pos n) ∷ us, us)) ss) counted (there (i, low) us r.1));
              }

          record PairsHave (fs : List Frame) : Type 0 where
            pub pairs : List (Frame × List Value)
            pub frames_are : map (λ (p : Frame × List Value). p.0) pairs ≡ fs
            pub is : every (with_calls q answers_of before) fs ≡ Some pairs
            pub shown : Every AllShown pairs

          with_calls_is : (frame : Frame) (h : EndedAt frame) → with_calls q answers_of before frame ≡ Some (frame, (calls_have frame q.calls h).found)
          with_calls_is frame h = ap (option_map (λ (vs : List Value). (frame, vs))) (calls_have frame q.calls h).is

          pairs_have : (fs : List Frame) → Every FitAt fs → Every EndedAt fs → Every ThereAt fs → PairsHave fs
          pairs_have [] fit h there = record { pairs = []; frames_are = refl; is = refl; shown = tt }
          pairs_have (frame ∷ fs) fit h there =
              let rest = pairs_have fs fit.1 h.1 there.1 in
              record {
                pairs = (frame, (calls_have frame q.calls h.0).found) ∷ rest.pairs;
                frames_are = ap (λ more. frame ∷ more) rest.frames_are;
                is = (λ t. beside (with_calls_is frame h.0 t) (rest.is t));
                shown = (shown_at frame fit.0 h.0 there.0, rest.shown);
              }

          -- the rows of the written query are those of the select with these values
          pub over_rows : Every (λ (s : Start). HasEnded s.1) ss → list_all (within (length q.calls) (length w.tables)) (select_of reading q.select 0) ≡ true
              → Every (λ (es : List Expr). Every (IsOver 0 (length w.tables)) es) q.calls
              → Every (λ (i : Item). IsOver (length q.calls) (length w.tables) (out-Item i).expr) (out-Select q.select).list
              → (found : Or Rows) × (filled q answers_of before ≡ Some found) × (rows made w.tables args k ≡ Some found)
          over_rows have_ended whole over_calls over_list =
              let given_at = turned (λ (es : List Expr) (frame : Frame). (us : List Value) × (At frame es ≡ Ok us) × HasEnded us) q.calls frames
              (starts_given w params before HasEnded frames 1 q.calls ss given have_ended) in
              let all = pairs_have frames typed given_at all_there in (
                rest_of q.select before all.pairs,
                ap (filled_at q answers_of before) kept ∙ ap (option_map (rest_of q.select before)) all.is,
                rows_are k
                    ∙ (ap by_last ended_table.is
                    ∙ ap Some
                    (alone (rows_of_select last (outermost (with_table w.tables found_rows) args))
                    ∙ chosen.filled_rows w.tables table table_rows found_rows args columns q whole over_calls over_list all.pairs (kept ∙ ap Ok (sym all.frames_are)) all.shown)),
              )
