-- What the written query answers, where no call has a class in its row.
use Rattle.std.proofs.Common.{◌≡◌, ◌≢◌, ◌⊎◌, inl, inr, refl, ap, sym, ◌∙◌, subst, ℕ, ◌+◌, ◌*◌, ◌<◌, ◌≤◌, ◌^◌, true, pos, List, [], ◌∷◌, length, Some, None, Ok, Err}
use Rattle.std.specs.List.{list_all}
use Rattle.away_trees.specs.Algebra.{select_of}
use Rattle.away_trees.specs.declared.queries.Expr.{Expr}
use Rattle.away_trees.specs.declared.queries.Expr.TheViews.{out-Item, out-Select}
use Rattle.away_trees.specs.declared.queries.Item.{Item}
use Rattle.away_trees.specs.declared.queries.Query.{Query}
use Rattle.away_values.specs.declared.types.Ty.{Ty}
use Rattle.away_values.specs.declared.values.Answer.{Answer}
use Rattle.away_values.specs.declared.values.Answer.TheVariants as answer
use Rattle.away_values.specs.declared.values.Class.{Class}
use Rattle.away_values.specs.declared.values.Value.{Value}
use Rattle.away_values.specs.declared.values.Value.TheVariants as val
use Rattle.away_values.specs.Results.{Or}
use Rattle.sql_meaning.specs.Context.{Rows, Frame, Context, inside, outermost}
use Rattle.sql_meaning.specs.Equivalent.{FunctionAnswer, IsEquivalent}
use Rattle.sql_meaning.specs.Reads.{reading}
use Rattle.type_soundness.specs.Surroundings.{IsRow}
use Rattle.sql_meaning.specs.Working.{Bounded, answered, rows, sql}
use Rattle.sql_meaning.proofs.Bounds.{answer_stays}
use Rattle.call_forms.specs.Bodies.{body_of}
use Rattle.call_forms.specs.TailRuns.{AtLabel}
use Rattle.together.specs.Steppers.{Where, going, ending, past, stopped, failed, IsSound}
use Rattle.together.specs.Tables.{IsFine}
use Rattle.cte_law.proofs.States.{Ended}
use Rattle.cte_law.proofs.Visits.{BodyRaisesClasses}
use Rattle.cte_law.proofs.Worlds.{World, OverTables}
use Rattle.batch_law.specs.Batches.{Case, FaultsFirst, NoneIsMore, SomeIsMore}
use Rattle.batch_law.specs.Batches as batch
use Rattle.batch_law.specs.Starts.{AllFine, Start, working_table}
use Rattle.batch_law.proofs.Alone.{answer_where, sql_is, table_faults}
use Rattle.batch_law.proofs.Cases.{one_case}
use Rattle.batch_law.proofs.Joined.{call_stands, one}
use Rattle.inline_law.specs.Answers.{AnswersFilled, Every, FaultsBefore, FitParameters, HasCalls, IsOver, SomeArguments, SomeCall, SomeOf, within}
use Rattle.inline_law.specs.Filled.{CallingSelect, arguments_at, calls_at, every, filled, filled_at, kept_rows, rest_of, value_at, with_calls}
use Rattle.inline_law.proofs.CarriedTable.{fine_sound}
use Rattle.inline_law.proofs.FirstTerm.{AreSingle}
use Rattle.inline_law.proofs.Over as over
use Rattle.inline_law.proofs.Parted.{HaveAt, every_parts, fault_no_more, fine_each, for_arguments, from_map, members, none_each, none_faulty, none_some, same_some, some_more, some_one, value_no_fault, value_no_more, value_parts}
use Rattle.inline_law.proofs.Starts.{both_every, every_map, every_of, every_some, same_err, same_ok, some_map, some_no, starts_class, starts_given, starts_have, turned}

module _ (w : World) (ok : OverTables w) (small : length w.tables < 2 ^ 64) (raise : (b : ℕ) → BodyRaisesClasses (body_of w.anf w.tail b)) (name : List ℕ) (names : List (List ℕ)) (params : List Ty) (q : CallingSelect) (args : List Value)
    (FitTables : List Rows → Type 0) (weight : ℕ) (function : FunctionAnswer) (same : IsEquivalent FitTables (IsRow params) weight function (one w ok small)) (fit : FitTables w.tables)
    (no_shape : (vs : List Value) (n k : ℕ) → function w.tables vs n ≢ answer.Shape k)
    (silent : (k : ℕ) (us : List Value) (a : Ended) → call_stands w ok small k us ≡ past a → a.1 ≡ val.Null) where
  abbrev one_query : Query
  one_query = one w ok small

  abbrev T : List Rows
  T = w.tables

  abbrev before : Context
  before = outermost w.tables args

  abbrev fn : List Value → ℕ → Answer
  fn us n = function w.tables us n

  abbrev bound : ℕ → ℕ
  bound n = (n + 1) * weight + 1

  abbrev made : Query
  made = over.made w ok small raise name names params q args

  -- ---- one call

  fault_answers : (j k : ℕ) (us : List Value) (c : Class) → j ≤ k → working_table one_query T us j ≡ Err c → sql one_query T us k ≡ answer.Fault c
  fault_answers j k us c le e =
      let at_j = table_faults w ok small us j c e in
      answer_stays one_query T us j k le (fault_no_more (sql one_query T us j) c at_j) ∙ at_j

  -- a call that has ended without a fault has a value
  abbrev EndedWith : ℕ → List Value → Value → Type 0
  EndedWith k us v = (call_stands w ok small k us ≡ past (v, val.Null)) × (sql one_query T us k ≡ answer.Value v)

  has_ended : (k : ℕ) (us : List Value) → IsRow params us → IsFine (working_table one_query T us k) → sql one_query T us k ≢ answer.More
      → (v : Value) × EndedWith k us v
  has_ended k us t fine some = by (call_stands w ok small k us) refl
    where
      by : (p : Where AtLabel Ended) → call_stands w ok small k us ≡ p → (v : Value) × EndedWith k us v
      by (going s) e = absurd (some (sql_is w ok small us k ∙ ap answer_where e))
      by (ending a) e = absurd (some (sql_is w ok small us k ∙ ap answer_where e))
      by (past a) e =
          let null : a.1 ≡ val.Null = silent k us a e in (
            a.0,
            (
              e ∙ ap (λ c. past (a.0, c)) null,
              sql_is w ok small us k ∙ (ap answer_where e ∙ ap (λ c. answered (Some (Ok ((a.0 ∷ c ∷ []) ∷ [])))) null),
            ),
          )
      by stopped e =
          let shape = sql_is w ok small us k ∙ ap answer_where e in
          absurd (no_shape us k 0 (same.only T us k fit t some ∙ shape))
      by (failed c) e = absurd (subst IsSound e (fine_sound w ok small raise k us fine))

  -- ---- all calls

  some_fault : (j k : ℕ) (c : Class) → j ≤ k → (ss : List Start) → FaultsFirst one_query T j c ss
      → SomeOf (λ (s : Start). sql one_query T s.1 k ≡ answer.Fault c) ss
  some_fault j k c le [] h = absurd h
  some_fault j k c le (s ∷ ss) (inl e) = inl (fault_answers j k s.1 c le e)
  some_fault j k c le (s ∷ ss) (inr h) = inr (some_fault j k c le ss h.1)

  abbrev At : Frame → List Expr → Or (List Value)
  At frame es = arguments_at (inside frame before) es

  module _ (whole : list_all (within (length q.calls) (length w.tables)) (select_of reading q.select 0) ≡ true)
      (over_calls : Every (λ (es : List Expr). Every (IsOver 0 (length w.tables)) es) q.calls)
      (over_list : Every (λ (i : Item). IsOver (length q.calls) (length w.tables) (out-Item i).expr) (out-Select q.select).list)
      (some_calls : (es : List Expr) × (more : List (List Expr)) × (q.calls ≡ es ∷ more))
      (typed_at : (frames : List Frame) → kept_rows q.select before ≡ Ok frames → Every (λ (frame : Frame). Every (FitParameters (inside frame before) params) q.calls) frames) where
    single : Every AreSingle q.calls
    single =
        every_map (λ (es : List Expr). Every (IsOver 0 (length w.tables)) es) AreSingle q.calls (λ es h. every_map (IsOver 0 (length w.tables)) (λ e. _) es (λ e k. k.single) h) over_calls

    first_single : AreSingle some_calls.0
    first_single = (subst (Every AreSingle) some_calls.2 single).0

    kept_class : (c : Class) → kept_rows q.select before ≡ Err c → (k : ℕ) → rows made T args k ≡ Some (Err c)
    kept_class c h k = over.kept_fails w ok small raise name names params q args c h some_calls.0 some_calls.1 some_calls.2 first_single k

    module _ (frames : List Frame) (kept : kept_rows q.select before ≡ Ok frames) where
      abbrev typed : Every (λ (frame : Frame). Every (FitParameters (inside frame before) params) q.calls) frames
      typed = typed_at frames kept

      abbrev all_starts : Or (List Start)
      all_starts = over.all_starts w ok small raise name names params q args frames kept typed single

      -- a class of the starts is that of an argument
      arguments_class : (c : Class) → all_starts ≡ Err c → SomeArguments q before frames (Err c)
      arguments_class c h = starts_class w params before frames 1 q.calls c h

      module _ (ss : List Start) (given : all_starts ≡ Ok ss) where
        abbrev IsStart : Start → Type 0
        IsStart s = (m : ℕ) × (s.0 ≡ val.Int (pos m) ∷ s.1) × IsRow params s.1

        are_typed : Every IsStart ss
        are_typed = over.are_starts w ok small raise name names params q args frames kept typed single ss given

        -- what starts have, each call at each row has
        for_calls : (P : List Value → Type 0) → Every (λ (s : Start). P s.1) ss → (us : List Value) → SomeArguments q before frames (Ok us) → P us
        for_calls P h us some =
            for_arguments q before P frames
            (turned (λ (es : List Expr) (frame : Frame). (vs : List Value) × (At frame es ≡ Ok vs) × P vs) q.calls frames (starts_given w params before P frames 1 q.calls ss given h)) us some

        -- each start is a call at a row
        are_called : Every (λ (s : Start). SomeArguments q before frames (Ok s.1)) ss
        are_called =
            starts_have w params before (λ (s : Start). SomeArguments q before frames (Ok s.1)) frames 1 q.calls ss given
            (every_map (λ (es : List Expr). SomeOf (λ (other : List Expr). other ≡ es) q.calls)
            (λ (es : List Expr). Every (λ (frame : Frame). (m : ℕ) (us : List Value) → At frame es ≡ Ok us → SomeArguments q before frames (Ok us)) frames) q.calls
            (λ es among.
            every_map (λ (frame : Frame). SomeOf (λ (other : Frame). other ≡ frame) frames)
            (λ (frame : Frame). (m : ℕ) (us : List Value) → At frame es ≡ Ok us → SomeArguments q before frames (Ok us)) frames
            (λ frame near m us e.
            some_map (λ (other : Frame). other ≡ frame) (λ (other : Frame). SomeOf (λ (fs : List Expr). At other fs ≡ Ok us) q.calls) frames
            (λ other is.
            some_map (λ (fs : List Expr). fs ≡ es) (λ (fs : List Expr). At other fs ≡ Ok us) q.calls (λ fs alike. (λ t. At (is t) (alike t)) ∙ e) among) near)
            (members frames))
            (members q.calls))

        -- a property of some start is that of some call
        some_call : (P : List Value → Type 0) → SomeOf (λ (s : Start). P s.1) ss → SomeCall q before P
        some_call P h =
            let found = some_one (λ (s : Start). SomeArguments q before frames (Ok s.1) × P s.1) ss
            (every_some (λ (s : Start). SomeArguments q before frames (Ok s.1)) (λ (s : Start). P s.1) (λ (s : Start). SomeArguments q before frames (Ok s.1) × P s.1) ss (λ s x y. (x, y)) are_called h) in
            (frames, kept, found.0.1, found.1.0, found.1.1)

        -- a fault of the engine is the class of the whole
        faulty_rows : (k j : ℕ) (c : Class) → j ≤ k → ((i : ℕ) → i < j → AllFine one_query T i ss) → FaultsFirst one_query T j c ss
            → rows made T args k ≡ Some (Err c)
        faulty_rows k j c le fine first =
            over.rows_are w ok small raise name names params q args k ∙ ap (over.by_last w ok small raise name names params q args) ((over.the_table w ok small raise name names params q args frames kept typed single ss given k).faults j c le fine first)

        going_rows : (k : ℕ) → AllFine one_query T k ss → SomeIsMore one_query T k ss → rows made T args k ≡ None
        going_rows k fine some =
            over.rows_are w ok small raise name names params q args k ∙ ap (over.by_last w ok small raise name names params q args) ((over.the_table w ok small raise name names params q args frames kept typed single ss given k).goes_on fine some)

        typed_values : Every (λ (s : Start). IsRow params s.1) ss
        typed_values = every_map IsStart (λ (s : Start). IsRow params s.1) ss (λ s h. h.2) are_typed

        fault_called : (k : ℕ) (c : Class) → SomeOf (λ (s : Start). sql one_query T s.1 k ≡ answer.Fault c) ss
            → SomeCall q before (λ us. fn us k ≡ answer.Fault c)
        fault_called k c h =
            some_call (λ us. fn us k ≡ answer.Fault c)
            (every_some (λ (s : Start). IsRow params s.1) (λ (s : Start). sql one_query T s.1 k ≡ answer.Fault c) (λ (s : Start). fn s.1 k ≡ answer.Fault c) ss
            (λ s t e. same.only T s.1 k fit t (fault_no_more (sql one_query T s.1 k) c e) ∙ e) typed_values h)

        -- where all have ended, the rows are those of the select with their values
        ended_rows : (k : ℕ) (answers_of : List Value → Answer) → AllFine one_query T k ss → NoneIsMore one_query T k ss
            → ((us : List Value) (v : Value) → IsRow params us → sql one_query T us k ≡ answer.Value v → SomeArguments q before frames (Ok us) → answers_of us ≡ answer.Value v)
            → (found : Or Rows) × (filled q answers_of before ≡ Some found) × (rows made T args k ≡ Some found)
        ended_rows k answers_of fine none go =
            over.over_rows w ok small raise name names params q args frames kept typed single ss given k answers_of
            ((over.the_table w ok small raise name names params q args frames kept typed single ss given k).over fine none)
            (each_ends ss typed_values (fine_each one_query T k ss fine) (none_each one_query T k ss none) are_called)
            whole over_calls over_list
          where
            each_ends : (ss : List Start) → Every (λ (s : Start). IsRow params s.1) ss → Every (λ (s : Start). IsFine (working_table one_query T s.1 k)) ss
                → Every (λ (s : Start). sql one_query T s.1 k ≢ answer.More) ss → Every (λ (s : Start). SomeArguments q before frames (Ok s.1)) ss
                → Every (λ (s : Start). (v : Value) × ((call_stands w ok small k s.1 ≡ past (v, val.Null)) × (answers_of s.1 ≡ answer.Value v))) ss
            each_ends [] t f n c = tt
            each_ends (s ∷ ss) t f n c =
                let e = has_ended k s.1 t.0 f.0 n.0 in
                ((e.0, (e.1.0, go s.1 e.0 t.0 e.1.1 c.0)), each_ends ss t.1 f.1 n.1 c.1)

    -- ---- FROM, WHERE and arguments

    pub faults_point : (c : Class) → FaultsBefore q before c → (k : ℕ) → (d : Class) × (rows made T args k ≡ Some (Err d))
    faults_point c (inl h) k = (c, kept_class c h k)
    faults_point c (inr h) k = by (all_starts h.0 h.1) refl
      where
        by : (o : Or (List Start)) → all_starts h.0 h.1 ≡ o → (d : Class) × (rows made T args k ≡ Some (Err d))
        by (Err d) e = (d, over.arguments_fail w ok small raise name names params q args h.0 h.1 (typed_at h.0 h.1) single d e k)
        by (Ok ss) e =
            absurd
            (none_faulty q before h.0 c
            (turned (λ (es : List Expr) (frame : Frame). (us : List Value) × (At frame es ≡ Ok us)) q.calls h.0
            (every_map (λ (es : List Expr). Every (λ (frame : Frame). (us : List Value) × (At frame es ≡ Ok us) × Unit {0}) h.0) (λ (es : List Expr). Every (λ (frame : Frame). (us : List Value) × (At frame es ≡ Ok us)) h.0) q.calls
            (λ es x. every_map (λ (frame : Frame). (us : List Value) × (At frame es ≡ Ok us) × Unit {0}) (λ (frame : Frame). (us : List Value) × (At frame es ≡ Ok us)) h.0 (λ frame y. (y.0, y.1)) x)
            (starts_given w params before (λ us. Unit {0}) h.0 1 q.calls ss e (every_of (λ (s : Start). Unit {0}) ss (λ s. tt)))))
            h.2)

    -- arguments that have values make starts
    have_starts : (frames : List Frame) (kept : kept_rows q.select before ≡ Ok frames) → HaveAt q before frames → (ss : List Start) × (all_starts frames kept ≡ Ok ss)
    have_starts frames kept have = by (all_starts frames kept) refl
      where
        by : (o : Or (List Start)) → all_starts frames kept ≡ o → (ss : List Start) × (all_starts frames kept ≡ Ok ss)
        by (Ok ss) e = (ss, e)
        by (Err c) e = absurd (none_faulty q before frames c have (arguments_class frames kept c e))

    -- ---- some call needs more turns

    same_frames : (frames others : List Frame) → kept_rows q.select before ≡ Ok frames → kept_rows q.select before ≡ Ok others → frames ≡ others
    same_frames frames others h k = same_ok (kept_rows q.select before) frames others h k

    -- a call at the rows that are kept
    called_at : (frames : List Frame) → kept_rows q.select before ≡ Ok frames → (P : List Value → Type 0) → SomeCall q before P
        → (us : List Value) × SomeArguments q before frames (Ok us) × P us
    called_at frames kept P h = (h.2, subst (λ fs. SomeArguments q before fs (Ok h.2)) (same_frames h.0 frames h.1 kept) h.3, h.4)

    pub more_point : (n : ℕ) → HasCalls q before → ((m : ℕ) (c : Class) → SomeCall q before (λ us. fn us m ≡ answer.Fault c) → ⊥)
        → SomeCall q before (λ us. fn us n ≡ answer.More) → rows made T args n ≡ None
    more_point n has never some = by (one_case w ok small raise n ss)
      where
        started : (ss : List Start) × (all_starts has.frames has.kept ≡ Ok ss)
        started = have_starts has.frames has.kept has.have

        ss : List Start
        ss = started.0

        by : Case one_query T n ss → rows made T args n ≡ None
        by (batch.going fine more) = going_rows has.frames has.kept ss started.1 n fine more
        by (batch.fault j c le fine first) = absurd (never n c (fault_called has.frames has.kept ss started.1 n c (some_fault j n c le ss first)))
        by (batch.over fine none) =
            let call = called_at has.frames has.kept (λ us. fn us n ≡ answer.More) some in
            let known = for_calls has.frames has.kept ss started.1 (λ us. IsRow params us × (sql one_query T us n ≢ answer.More))
            (both_every (λ (s : Start). IsRow params s.1) (λ (s : Start). sql one_query T s.1 n ≢ answer.More) ss (typed_values has.frames has.kept ss started.1) (none_each one_query T n ss none))
            call.0 call.1 in
            absurd (known.1 (same.goes_on T call.0 n fit known.0 call.2))

    -- ---- some call faults

    not_fine : (n : ℕ) (c : Class) (frames : List Frame) (kept : kept_rows q.select before ≡ Ok frames) (ss : List Start) (given : all_starts frames kept ≡ Ok ss)
        → SomeCall q before (λ us. fn us n ≡ answer.Fault c) → AllFine one_query T (bound n) ss → ⊥
    not_fine n c frames kept ss given some fine =
        let k : ℕ = bound n in
        let call = called_at frames kept (λ us. fn us n ≡ answer.Fault c) some in
        let us : List Value = call.0 in
        let known = for_calls frames kept ss given (λ us. IsRow params us × IsFine (working_table one_query T us k))
        (both_every (λ (s : Start). IsRow params s.1) (λ (s : Start). IsFine (working_table one_query T s.1 k)) ss (typed_values frames kept ss given) (fine_each one_query T k ss fine)) us call.1 in
        let faulty : sql one_query T us k ≡ answer.Fault c = same.ends T us n fit known.0 (fault_no_more (fn us n) c call.2) ∙ call.2 in
        let ended = has_ended k us known.0 known.1 (fault_no_more (sql one_query T us k) c faulty) in
        value_no_fault (sql one_query T us k) ended.0 c ended.1.1 faulty

    pub calls_point : (n : ℕ) (c : Class) → HasCalls q before → SomeCall q before (λ us. fn us n ≡ answer.Fault c)
        → (d : Class) × (rows made T args (bound n) ≡ Some (Err d))
    calls_point n c has some = by (one_case w ok small raise (bound n) ss)
      where
        started : (ss : List Start) × (all_starts has.frames has.kept ≡ Ok ss)
        started = have_starts has.frames has.kept has.have

        ss : List Start
        ss = started.0

        by : Case one_query T (bound n) ss → (d : Class) × (rows made T args (bound n) ≡ Some (Err d))
        by (batch.fault j d le fine first) = (d, faulty_rows has.frames has.kept ss started.1 (bound n) j d le fine first)
        by (batch.going fine more) = absurd (not_fine n c has.frames has.kept ss started.1 some fine)
        by (batch.over fine none) = absurd (not_fine n c has.frames has.kept ss started.1 some fine)

    -- ---- a class of the whole

    abbrev Found : Class → ℕ → Type 0
    Found c k =
        FaultsBefore q before c
        ⊎ (SomeCall q before (λ us. fn us k ≡ answer.Fault c)
        ⊎ (filled q (λ us. fn us k) before ≡ Some (Err c)))

    same_class : (o : Bounded Rows) (d c : Class) → o ≡ Some (Err d) → o ≡ Some (Err c) → d ≡ c
    same_class o d c h k = same_err (Err d) d c refl (same_some o (Err d) (Err c) h k)

    class_by_calls : (k : ℕ) (c : Class) → rows made T args k ≡ Some (Err c)
        → (frames : List Frame) (kept : kept_rows q.select before ≡ Ok frames) (ss : List Start) (given : all_starts frames kept ≡ Ok ss)
        → Case one_query T k ss → Found c k
    class_by_calls k c is frames kept ss given (batch.fault j d le fine first) =
        let alike : d ≡ c = same_class (rows made T args k) d c (faulty_rows frames kept ss given k j d le fine first) is in
        inr (inl (subst (λ x. SomeCall q before (λ us. fn us k ≡ answer.Fault x)) alike (fault_called frames kept ss given k d (some_fault j k d le ss first))))
    class_by_calls k c is frames kept ss given (batch.going fine more) =
        absurd (none_some (rows made T args k) (Err c) (going_rows frames kept ss given k fine more) is)
    class_by_calls k c is frames kept ss given (batch.over fine none) =
        let found = ended_rows frames kept ss given k (λ us. fn us k) fine none
        (λ us v t e called. same.only T us k fit t (value_no_more (sql one_query T us k) v e) ∙ e) in
        inr (inr (found.1 ∙ ap Some (same_some (rows made T args k) found.0 (Err c) found.2 is)))

    class_by_starts : (k : ℕ) (c : Class) → rows made T args k ≡ Some (Err c)
        → (frames : List Frame) (kept : kept_rows q.select before ≡ Ok frames) (o : Or (List Start))
        → all_starts frames kept ≡ o → Found c k
    class_by_starts k c is frames kept (Err d) e =
        let alike : d ≡ c = same_class (rows made T args k) d c (over.arguments_fail w ok small raise name names params q args frames kept (typed_at frames kept) single d e k) is in
        inl (inr (frames, kept, subst (λ x. SomeArguments q before frames (Err x)) alike (arguments_class frames kept d e)))
    class_by_starts k c is frames kept (Ok ss) e = class_by_calls k c is frames kept ss e (one_case w ok small raise k ss)

    class_by_rows : (k : ℕ) (c : Class) → rows made T args k ≡ Some (Err c) → (o : Or (List Frame)) → kept_rows q.select before ≡ o → Found c k
    class_by_rows k c is (Err d) e = inl (inl (e ∙ ap (λ x. Err x) (same_class (rows made T args k) d c (kept_class d e k) is)))
    class_by_rows k c is (Ok frames) e = class_by_starts k c is frames e (all_starts frames e) refl

    pub class_point : (k : ℕ) (c : Class) → rows made T args k ≡ Some (Err c) → Found c k
    class_point k c is = class_by_rows k c is (kept_rows q.select before) refl

    -- ---- each call has a value

    abbrev HasValue : ℕ → List Value → Type 0
    HasValue n us = (v : Value) × (fn us n ≡ answer.Value v)

    abbrev ValuedAt : ℕ → Frame → Type 0
    ValuedAt n frame = Every (λ (es : List Expr). (us : List Value) × (At frame es ≡ Ok us) × HasValue n us) q.calls

    valued_calls : (n : ℕ) (frame : Frame) (p : Frame × List Value) → with_calls q (λ us. fn us n) before frame ≡ Some p → ValuedAt n frame
    valued_calls n frame p h =
        let called = from_map (λ (vs : List Value). (frame, vs)) (calls_at q (λ us. fn us n) before frame) p h in
        every_map (λ (es : List Expr). (v : Value) × (value_at (λ us. fn us n) (At frame es) ≡ Some v)) (λ (es : List Expr). (us : List Value) × (At frame es ≡ Ok us) × HasValue n us) q.calls
        (λ es x. (let parts = value_parts (λ us. fn us n) (At frame es) x.0 x.1 in (parts.0, parts.1, (x.0, parts.2))))
        (every_parts (λ (es : List Expr). value_at (λ us. fn us n) (At frame es)) q.calls called.0 called.1)

    values_at : (n : ℕ) (found : Or Rows) → filled q (λ us. fn us n) before ≡ Some found
        → (frames : List Frame) (kept : kept_rows q.select before ≡ Ok frames) → Every (ValuedAt n) frames
    values_at n found is frames kept =
        let some = from_map (rest_of q.select before) (every (with_calls q (λ us. fn us n) before) frames) found (sym (ap (filled_at q (λ us. fn us n) before) kept) ∙ is) in
        every_map (λ (frame : Frame). (p : Frame × List Value) × (with_calls q (λ us. fn us n) before frame ≡ Some p)) (ValuedAt n) frames (λ frame x. valued_calls n frame x.0 x.1)
        (every_parts (with_calls q (λ us. fn us n) before) frames some.0 some.1)

    abbrev at_bound : ℕ → List Value → Answer
    at_bound n us = sql one_query T us (bound n)

    values_by_calls : (n : ℕ) (found : Or Rows) → filled q (λ us. fn us n) before ≡ Some found
        → (frames : List Frame) (kept : kept_rows q.select before ≡ Ok frames) (ss : List Start) (given : all_starts frames kept ≡ Ok ss)
        → Every (λ (s : Start). IsRow params s.1 × HasValue n s.1) ss → ((us : List Value) → SomeArguments q before frames (Ok us) → HasValue n us)
        → Case one_query T (bound n) ss → rows made T args (bound n) ≡ Some found
    values_by_calls n found is frames kept ss given all each (batch.fault j c le fine first) =
        absurd
        (some_no (λ (s : Start). ⊥) ss (λ s x. x)
        (every_some (λ (s : Start). IsRow params s.1 × HasValue n s.1) (λ (s : Start). at_bound n s.1 ≡ answer.Fault c) (λ (s : Start). ⊥) ss
        (λ s x e. value_no_fault (at_bound n s.1) x.1.0 c (same.ends T s.1 n fit x.0 (value_no_more (fn s.1 n) x.1.0 x.1.1) ∙ x.1.1) e) all (some_fault j (bound n) c le ss first)))
    values_by_calls n found is frames kept ss given all each (batch.going fine more) =
        absurd
        (some_no (λ (s : Start). ⊥) ss (λ s x. x)
        (every_some (λ (s : Start). IsRow params s.1 × HasValue n s.1) (λ (s : Start). at_bound n s.1 ≡ answer.More) (λ (s : Start). ⊥) ss
        (λ s x e. value_no_more (at_bound n s.1) x.1.0 (same.ends T s.1 n fit x.0 (value_no_more (fn s.1 n) x.1.0 x.1.1) ∙ x.1.1) e) all (some_more one_query T (bound n) ss more)))
    values_by_calls n found is frames kept ss given all each (batch.over fine none) =
        let ended = ended_rows frames kept ss given (bound n) (λ us. fn us n) fine none
        (λ us v t e called. (let x = each us called in sym (same.ends T us n fit t (value_no_more (fn us n) x.0 x.1)) ∙ e)) in
        ended.2 ∙ ap Some (same_some (filled q (λ us. fn us n) before) ended.0 found ended.1 is)

    values_by_rows : (n : ℕ) (found : Or Rows) → filled q (λ us. fn us n) before ≡ Some found → (o : Or (List Frame)) → kept_rows q.select before ≡ o
        → rows made T args (bound n) ≡ Some found
    values_by_rows n found is (Err c) e = absurd (none_some (filled q (λ us. fn us n) before) found (ap (filled_at q (λ us. fn us n) before) e) is)
    values_by_rows n found is (Ok frames) kept =
        let valued = values_at n found is frames kept in
        let started = have_starts frames kept
        (every_map (ValuedAt n) (λ (frame : Frame). Every (λ (es : List Expr). (us : List Value) × (At frame es ≡ Ok us)) q.calls) frames
        (λ frame x. every_map (λ (es : List Expr). (us : List Value) × (At frame es ≡ Ok us) × HasValue n us) (λ (es : List Expr). (us : List Value) × (At frame es ≡ Ok us)) q.calls (λ es y. (y.0, y.1)) x)
        valued) in
        let each : (us : List Value) → SomeArguments q before frames (Ok us) → HasValue n us = λ us some. for_arguments q before (HasValue n) frames valued us some in
        values_by_calls n found is frames kept started.0 started.1
        (both_every (λ (s : Start). IsRow params s.1) (λ (s : Start). HasValue n s.1) started.0 (typed_values frames kept started.0 started.1)
        (every_map (λ (s : Start). SomeArguments q before frames (Ok s.1)) (λ (s : Start). HasValue n s.1) started.0 (λ s x. each s.1 x) (are_called frames kept started.0 started.1)))
        each (one_case w ok small raise (bound n) started.0)

    pub values_point : (n : ℕ) (found : Or Rows) → filled q (λ us. fn us n) before ≡ Some found → rows made T args (bound n) ≡ Some found
    values_point n found is = values_by_rows n found is (kept_rows q.select before) refl

    -- ---- the whole

    pub answers_filled : AnswersFilled q made weight T args (λ us n. fn us n)
    answers_filled = record { values = values_point; more = more_point; class = class_point; faults = faults_point; calls = calls_point }
