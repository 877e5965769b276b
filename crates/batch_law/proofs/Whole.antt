-- The law of a query over the rows of a table, for forms that belong together.
use Rattle.std.proofs.Common.{◌≡◌, inl, inr, ℕ, zero, suc, ◌<◌, ◌^◌, List, [], ◌∷◌, ◌++◌, map, length, decimal, Some, Ok, Err, refl, ap, sym, ◌∙◌, subst, append-nil, arith}
use Rattle.std.specs.Prelude.{slice_index_or}
use Rattle.away_trees.specs.declared.queries.Query.{Query}
use Rattle.away_trees.specs.declared.queries.Select.{Select}
use Rattle.away_trees.specs.declared.schemas.Schema.{Schema}
use Rattle.away_trees.specs.declared.statements.Function.{Function}
use Rattle.away_types.specs.declared.slots.Slot.{Slot}
use Rattle.away_types.specs.CheckedFunctions.{IsChecked}
use Rattle.away_values.specs.declared.types.Ty.TheVariants as ty
use Rattle.away_values.specs.declared.values.Answer.TheVariants as answer
use Rattle.away_values.specs.declared.values.Class.{Class}
use Rattle.away_values.specs.declared.values.Value.{Value}
use Rattle.away_values.specs.Results.{and_then}
use Rattle.sql_meaning.specs.Context.{Rows, at}
use Rattle.sql_meaning.specs.Names.{bare}
use Rattle.sql_meaning.specs.Working.{sql}
use Rattle.sql_meaning.proofs.Nameless.{same_rows, same_sql}
use Rattle.block_forms.specs.declared.forms.Goto.{Goto}
use Rattle.block_forms.specs.declared.forms.Ssa.{Ssa}
use Rattle.block_forms.specs.Expressions.{expressions}
use Rattle.block_forms.specs.Lowered.{Lowered}
use Rattle.block_forms.specs.Named.{Named}
use Rattle.block_forms.specs.Places.{Each}
use Rattle.call_forms.specs.declared.forms.Anf.{Anf}
use Rattle.call_forms.specs.declared.forms.Tail.{Tail}
use Rattle.call_forms.specs.Called.{Called}
use Rattle.call_forms.specs.Templated.{Templated}
use Rattle.function_facts.specs.OverTables.{IsOverTables}
use Rattle.function_facts.proofs.Sources.{over_their_tables}
use Rattle.cte_law.proofs.Composed.{raises}
use Rattle.cte_law.proofs.Raised.{bodies_raise_classes}
use Rattle.cte_law.proofs.Theorem.{over_tables}
use Rattle.cte_law.proofs.Worlds.{World, frame_in, OverTables}
use Rattle.together.specs.Tables.{IsFine}
use Rattle.batch_law.specs.Batches.{Case, fault, going, over, by_first, FaultsFirst, SomeIsMore, NoneIsMore, answer_row, ended_in, ended_before, IsBatch, start_of, first_of, final, Batched, AnswersOfEach}
use Rattle.batch_law.specs.Starts.{table_in, working_table, Start, start_row, AreCarried, AllFine}
use Rattle.batch_law.proofs.Alone.{sql_is, table_faults}
use Rattle.batch_law.proofs.Batches.{is_batch}
use Rattle.batch_law.proofs.Counts.{each_answer, in_order_counts}
use Rattle.batch_law.proofs.Cases.{one_case}
use Rattle.batch_law.proofs.Composed.{world_of}
use Rattle.batch_law.proofs.FirstTerm.{first_is}
use Rattle.batch_law.proofs.Joined.{same_table, one, many, many_means}

-- ---- queries that differ in names

module _ (o m : Query) (same : bare o ≡ bare m) (T : List Rows) where
  fine_made : (i : ℕ) (ss : List Start) → AllFine o T i ss → AllFine m T i ss
  fine_made i [] h = tt
  fine_made i (s ∷ ss) h = (subst IsFine (same_table o m same T s.1 i) h.0, fine_made i ss h.1)

  faults_made : (j : ℕ) (c : Class) (ss : List Start) → FaultsFirst o T j c ss → FaultsFirst m T j c ss
  faults_made j c [] h = absurd h
  faults_made j c (s ∷ ss) (inl e) = inl (sym (same_table o m same T s.1 j) ∙ e)
  faults_made j c (s ∷ ss) (inr h) = inr (subst IsFine (same_table o m same T s.1 j) h.0, faults_made j c ss h.1)

  more_made : (k : ℕ) (ss : List Start) → SomeIsMore o T k ss → SomeIsMore m T k ss
  more_made k [] h = absurd h
  more_made k (s ∷ ss) (inl e) = inl (sym (same_sql o m same T s.1 k) ∙ e)
  more_made k (s ∷ ss) (inr h) = inr (more_made k ss h)

  none_made : (k : ℕ) (ss : List Start) → NoneIsMore o T k ss → NoneIsMore m T k ss
  none_made k [] h = tt
  none_made k (s ∷ ss) h = ((λ e. h.0 (same_sql o m same T s.1 k ∙ e)), none_made k ss h.1)

  ended_made : (i : ℕ) (ss : List Start) → ended_in m T i ss ≡ ended_in o T i ss
  ended_made i [] = refl
  ended_made i (s ∷ ss) =
      (λ t. answer_row (at s.0 0) (sym (same_sql o m same T s.1 i) t) (sym (same_sql o m same T s.1 (suc i)) t) ++ ended_made i ss t)

  all_made : (k : ℕ) (ss : List Start) → ended_before m T k ss ≡ ended_before o T k ss
  all_made zero ss = refl
  all_made (suc k) ss = (λ t. all_made k ss t ++ ended_made k ss t)

  moved : (q p : Query) → bare q ≡ bare p → (args : List Value) (ss : List Start) (k : ℕ) → IsBatch p m T args ss k → IsBatch q o T args ss k
  moved q p alike args ss k h =
      let rows_are = same_rows q p alike T args k in
      record {
        faults = λ j c p fine first. rows_are ∙ h.faults j c p (λ i r. fine_made i ss (fine i r)) (faults_made j c ss first);
        goes_on = λ fine some. rows_are ∙ h.goes_on (fine_made k ss fine) (more_made k ss some);
        ends = λ fine none.
            rows_are ∙ (h.ends (fine_made k ss fine) (none_made k ss none) ∙ ap (λ (all : Rows). Some (Ok (by_first all))) (all_made k ss));
      }

module _ (o m : Query) (same : bare o ≡ bare m) (T : List Rows) where
  case_made : (k : ℕ) (ss : List Start) → Case o T k ss → Case m T k ss
  case_made k ss (fault j c p fine first) = fault j c p (λ i q. fine_made o m same T i ss (fine i q)) (faults_made o m same T j c ss first)
  case_made k ss (going fine some) = going (fine_made o m same T k ss fine) (more_made o m same T k ss some)
  case_made k ss (over fine none) = over (fine_made o m same T k ss fine) (none_made o m same T k ss none)

-- ---- the whole

carried_starts : (all : Rows) → AreCarried (ty.Bigint ∷ []) (map start_of all)
carried_starts [] = tt
carried_starts ([] ∷ all) = (refl, carried_starts all)
carried_starts ((x ∷ vs) ∷ all) = (refl, carried_starts all)

made_starts : (w : World) (all : Rows) → map (λ row. start_row (frame_in w) w.anf w.tail (start_of row)) all ≡ map (start_row (frame_in w) w.anf w.tail) (map start_of all)
made_starts w [] = refl
made_starts w (row ∷ all) = ap (λ more. start_row (frame_in w) w.anf w.tail (start_of row) ∷ more) (made_starts w all)

module _ (s : Schema) (written f : Function) (slots : List Slot) (g : Goto) (z : Ssa) (a : Anf) (r : Tail) (o q : Query) (place : ℕ)
    (checked : IsChecked s written f slots) (lowered : Lowered f slots g) (named : Named (length slots) (length f.params) g z) (called : Called g z a)
    (templated : Templated f slots (length s.tables) g z a r o) (batched : Batched f slots (length s.tables) g z a r place q) (tables : List Rows)
    (args : List Value) (as_many : length tables ≡ length s.tables) (small : length tables < 2 ^ 64) (there : place < length tables) where
  abbrev w : World
  w = world_of f slots g z a r tables

  over_w : OverTables w
  over_w =
      let few : length s.tables < 2 ^ 64 = subst (λ n. n < 2 ^ 64) as_many small in
      over_tables (length tables) (expressions f)
      (subst (λ n. Each (IsOverTables n) (expressions f)) (sym as_many) (over_their_tables s written f slots checked few))

  abbrev first : List Select
  first = first_of f.result a r g.entry (decimal place) ∷ []

  abbrev sorting : List Select
  sorting = final (decimal (length tables)) (length r.columns) ∷ []

  abbrev made : Query
  made = many w over_w small (ty.Bigint ∷ []) first sorting args

  is_one : bare o ≡ bare (one w over_w small)
  is_one = (subst (λ n. Templated f slots n g z a r o) (sym as_many) templated).query

  is_made : bare q ≡ bare made
  is_made = (subst (λ n. Batched f slots n g z a r place q) (sym as_many) batched).query

  abbrev starts : List Start
  starts = map start_of (slice_index_or tables place [])

  begins : working_table made tables args 0 ≡ Ok (map (start_row (frame_in w) a r) starts)
  begins =
      ap (λ m. table_in m tables args 0) (many_means w over_w small (ty.Bigint ∷ []) first sorting args)
      ∙ (ap (λ o. and_then o (λ ys. Ok (ys ++ []))) (first_is w small place (omega (arith, there, small)) args)
      ∙ (ap Ok (append-nil (map (λ row. start_row (frame_in w) a r (start_of row)) (slice_index_or tables place [])))
      ∙ ap Ok (made_starts w (slice_index_or tables place []))))

  pub batch_answers : (k : ℕ) → IsBatch q o tables args starts k
  batch_answers k =
      moved o (one w over_w small) is_one tables q made is_made args starts k
      (is_batch w over_w small (λ b. bodies_raise_classes a r (raises f slots g z a (length slots) (length f.params) lowered named called) b) ty.Bigint first
      args starts (carried_starts (slice_index_or tables place [])) begins k)

module _ (s : Schema) (written f : Function) (slots : List Slot) (g : Goto) (z : Ssa) (a : Anf) (r : Tail) (o : Query)
    (checked : IsChecked s written f slots) (templated : Templated f slots (length s.tables) g z a r o) (tables : List Rows)
    (as_many : length tables ≡ length s.tables) (small : length tables < 2 ^ 64) where
  abbrev of_world : World
  of_world = world_of f slots g z a r tables

  over_it : OverTables of_world
  over_it =
      let few : length s.tables < 2 ^ 64 = subst (λ n. n < 2 ^ 64) as_many small in
      over_tables (length tables) (expressions f)
      (subst (λ n. Each (IsOverTables n) (expressions f)) (sym as_many) (over_their_tables s written f slots checked few))

  no_answer : (vs : List Value) → sql o tables vs 0 ≡ answer.More
  no_answer vs =
      same_sql o (one of_world over_it small) (subst (λ n. Templated f slots n g z a r o) (sym as_many) templated).query tables vs 0
      ∙ sql_is of_world over_it small vs 0

  pub call_faults : (vs : List Value) (j : ℕ) (c : Class) → working_table o tables vs j ≡ Err c → sql o tables vs j ≡ answer.Fault c
  call_faults vs j c e =
      let is_one = (subst (λ n. Templated f slots n g z a r o) (sym as_many) templated).query in
      same_sql o (one of_world over_it small) is_one tables vs j
      ∙ table_faults of_world over_it small vs j c (sym (same_table o (one of_world over_it small) is_one tables vs j) ∙ e)

  pub answers_of_calls : (starts : List Start) (k : ℕ) → AnswersOfEach o tables k starts
  answers_of_calls starts k test = in_order_counts test (ended_before o tables k starts) ∙ each_answer o tables no_answer test k starts

  module _ (lowered : Lowered f slots g) (named : Named (length slots) (length f.params) g z) (called : Called g z a) where
    pub one_of_three : (starts : List Start) (k : ℕ) → Case o tables k starts
    one_of_three starts k =
        let is_one = (subst (λ n. Templated f slots n g z a r o) (sym as_many) templated).query in
        case_made (one of_world over_it small) o (sym is_one) tables k starts
        (one_case of_world over_it small
        (λ b. bodies_raise_classes a r (raises f slots g z a (length slots) (length f.params) lowered named called) b) k starts)
