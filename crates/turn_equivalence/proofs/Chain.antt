-- The laws of the forms together, where the query runs k turns in an iteration.
use Rattle.std.proofs.Common.{◌≡◌, ◌≢◌, ℕ, zero, suc, ◌+◌, ◌*◌, ◌<◌, ◌≤◌, ◌^◌, true, List, [], ◌∷◌, length, map, get_or, Option, Some, None, refl, ap, sym, ◌∙◌, subst, arith, false}
use Rattle.std.specs.Prelude.{slice_get}
use Rattle.std.specs.List.{AllZip, list_all}
use Rattle.std.proofs.lemmas.List.{length-map}
use Rattle.away_trees.specs.declared.queries.Expr.TheVariants as expr
use Rattle.away_trees.specs.declared.queries.Query.{Query}
use Rattle.away_trees.specs.declared.schemas.Schema.{Schema}
use Rattle.away_trees.specs.declared.statements.Function.{Function}
use Rattle.away_trees.specs.Count.{weight}
use Rattle.away_trees.specs.Fits.{FitsTable, FitsSchema}
use Rattle.away_types.specs.declared.slots.Slot.{Slot}
use Rattle.away_types.specs.CheckedFunctions.{IsChecked}
use Rattle.away_types.specs.TypedSlots.{typed_slots}
use Rattle.away_values.specs.declared.types.Ty.{Ty}
use Rattle.away_values.specs.declared.values.Answer.{Answer}
use Rattle.away_values.specs.declared.values.Answer.TheVariants as answer
use Rattle.away_values.specs.declared.values.Value.{Value}
use Rattle.away_values.specs.Values.{HasType}
use Rattle.plsql_meaning.specs.Equivalent.{answers, types_of}
use Rattle.sql_meaning.specs.Context.{Rows}
use Rattle.sql_meaning.specs.Names.{bare}
use Rattle.sql_meaning.specs.Reads.{allows}
use Rattle.sql_meaning.specs.Typed.{AreTyped}
use Rattle.sql_meaning.specs.Working.{sql}
use Rattle.sql_meaning.proofs.Bounds.{answer_stays}
use Rattle.sql_meaning.proofs.Nameless.{same_sql}
use Rattle.block_forms.specs.declared.forms.Goto.{Goto}
use Rattle.block_forms.specs.declared.forms.Ssa.{Ssa}
use Rattle.block_forms.specs.declared.forms.Term.{Term}
use Rattle.block_forms.specs.Expressions.{Sources, expressions}
use Rattle.block_forms.specs.Frames.{frame_of}
use Rattle.block_forms.specs.Joined.{bounds_join}
use Rattle.block_forms.specs.Machines.{Ran, IsOver, Bounds}
use Rattle.block_forms.specs.Places.{Each}
use Rattle.block_forms.specs.Runs.{Frame, ssa_runs}
use Rattle.call_forms.specs.declared.forms.Anf.{Anf}
use Rattle.call_forms.specs.declared.forms.Tail.{Tail}
use Rattle.call_forms.specs.NormalRuns.{anf_runs}
use Rattle.call_forms.specs.Bodies.{Body, sets, enters, picks, returns, fails, calls, endless, body_of}
use Rattle.call_forms.specs.TailRuns.{heads_label, entry_label, label_or, tail_runs}
use Rattle.call_forms.specs.Templated as one_turn
use Rattle.call_forms.specs.Forms.{label_of}
use Rattle.call_law.proofs.CalledRuns.{in_lockstep}
use Rattle.call_law.proofs.Labels.{place_found, placed}
use Rattle.function_facts.specs.OverTables.{IsOverTables}
use Rattle.function_facts.proofs.Sources.{over_their_tables}
use Rattle.goto_law.specs.Law.{Meets, Keeps}
use Rattle.cte_law.proofs.Composed.{raises}
use Rattle.cte_law.proofs.Raised.{bodies_raise_classes}
use Rattle.cte_law.proofs.Worlds.{World, held_in, OverTables}
use Rattle.ssa_check.specs.Naming.{NamedRunsInLockstep}
use Rattle.turn_equivalence.specs.InTurns.{Choices, FormsInTurns, EquivalentInTurns, head_block, is_head_label}
use Rattle.turn_template.specs.Totals.{total_term}
use Rattle.turn_law.specs.TurnAnswers.{AnswersInTurns, AnswersByHeads}
use Rattle.turn_template.specs.TurnTemplate.{query_of}
use Rattle.turn_law.proofs.Terms.{IsTotal}
use Rattle.turn_template.specs.Unfolded.{CallsHeads}
use Rattle.turn_law.proofs.Soon.{by_heads}
use Rattle.turn_law.proofs.Theorem as turn
use Rattle.turn_template.proofs.Totals.{total_steady}
use Rattle.turn_equivalence.proofs.UnfoldedRuns.{unfolded_bounds}

-- ---- totals

pub totals_of : (w : World) → OverTables w → (u : Term) → total_term w.table u ≡ true → IsTotal w u
totals_of w ok u h =
    let is = total_steady (get_or w.table u.expr expr.Null) h in
    record {
      worth = λ s. is.worth (held_in w u s);
      gives = λ s l g. is.gives (record { env = held_in w u s; args = []; frames = l; tables = w.tables; group = g });
      reads = λ d. ap (list_all (allows (λ i. true) 0 (length w.tables))) (is.same d) ∙ (ok u.expr).reads_own;
    }

over_tables : (tables : ℕ) (table : Sources) → Each (IsOverTables tables) table → (k : ℕ) → IsOverTables tables (get_or table k expr.Null)
over_tables tables [] each k = record { reads_own = refl; single = refl }
over_tables tables (e ∷ es) each zero = each 0 e refl
over_tables tables (e ∷ es) each (suc k) = over_tables tables es (λ i x at. each (suc i) x at) k

-- ---- the query and the SSA form

pub answers_below : (k : ℕ) (q : Query) (tables : List Rows) (args : List Value) (xs ys : ℕ → Ran) → Bounds xs ys → AnswersInTurns k q tables args ys
    → AnswersInTurns k q tables args xs
answers_below k q tables args xs ys bounds law = record {
  ends = λ m n le over.
      let same = bounds.answer m (xs m).answer over refl in
      law.ends m n le (subst IsOver (sym same) over) ∙ same;
  goes_on = λ m n less. law.goes_on m n (omega (arith, less, bounds.heads m));
}

module _ (s : Schema) (written f : Function) (slots : List Slot) (g : Goto) (z : Ssa) (a : Anf) (r : Tail) (c : Choices) (q : Query)
    (checked : IsChecked s written f slots) (forms : FormsInTurns s f slots g z a r c q) where
  -- the entry is a label, and no head
  entry_there : (tables : List Rows) → slice_get r.labels (entry_label (frame_of f (length slots) g tables) a r) ≡ Some g.entry
  entry_there tables = by (label_of r g.entry) refl
    where
      by : (o : Option ℕ) → label_of r g.entry ≡ o → slice_get r.labels (label_or (length r.labels) o) ≡ Some g.entry
      by None missed = absurd (placed 0 r.labels g.entry forms.unfolded.entry.place forms.unfolded.entry.there missed)
      by (Some i) found = place_found r.labels g.entry i found

  entry_calm : (tables : List Rows)
      → heads_label (frame_of f (length slots) g tables) a r (slice_get r.labels (entry_label (frame_of f (length slots) g tables) a r)) ≡ false
  entry_calm tables = ap (heads_label (frame_of f (length slots) g tables) a r) (entry_there tables) ∙ forms.entry_no_head

  pub tail_answers : (tables : List Rows) (args : List Value) → length tables ≡ length s.tables → length tables < 2 ^ 64
      → AnswersInTurns c.turns q tables args (tail_runs (frame_of f (length slots) g tables) a r args)
  tail_answers tables args many small =
      let few : length s.tables < 2 ^ 64 = subst (λ n. n < 2 ^ 64) many small in
      let terms : Each (IsOverTables (length tables)) (expressions f) =
      subst (λ n. Each (IsOverTables n) (expressions f)) (sym many) (over_their_tables s written f slots checked few) in
      let w : World = record {
        tables = tables;
        table = expressions f;
        types = one_turn.types_of slots z;
        result = f.result;
        slots = length slots;
        params = length f.params;
        goto = g;
        anf = a;
        tail = r;
      } in
      let ok : OverTables w = over_tables (length tables) (expressions f) terms in
      let made = turn.answers w (λ b. bodies_raise_classes a r (raises f slots g z a (length slots) (length f.params) forms.lowered forms.named forms.called) b) ok
      c.total (λ u h. totals_of w ok u (forms.totals u h)) c.same forms.alike c.heads forms.inner args small c.turns (entry_there tables) (entry_calm tables) in
      let as_is = λ (i : ℕ). same_sql q
      (query_of (expressions f) (one_turn.types_of slots z) f.result c.total c.same a r g.entry (length tables) c.heads c.turns)
      (subst (λ n. bare q
      ≡ bare (query_of (expressions f) (one_turn.types_of slots z) f.result c.total c.same a r g.entry n c.heads c.turns)) (sym many) forms.query)
      tables args i in
      record { ends = λ m n le over. as_is (suc n) ∙ made.ends m n le over; goes_on = λ m n less. as_is n ∙ made.goes_on m n less }

  heads_as : (tables : List Rows) (l : Option ℕ) → head_block g l ≡ heads_label (frame_of f (length slots) g tables) a r l
  heads_as tables None = refl
  heads_as tables (Some b) = refl

  calls_as : (tables : List Rows) (x : Body) → CallsHeads (is_head_label g r) x
      → CallsHeads (λ i. heads_label (frame_of f (length slots) g tables) a r (slice_get r.labels i)) x
  calls_as tables (sets n t x) h = calls_as tables x h
  calls_as tables (enters params args x) h = calls_as tables x h
  calls_as tables (picks t x y) h = (calls_as tables x h.0, calls_as tables y h.1)
  calls_as tables (returns t) h = tt
  calls_as tables (fails c) h = tt
  calls_as tables (calls label places args) h = sym (heads_as tables (slice_get r.labels label)) ∙ h
  calls_as tables endless h = tt

  pub head_answers : ((i b : ℕ) → slice_get r.labels i ≡ Some b → CallsHeads (is_head_label g r) (body_of a r b)) → (tables : List Rows) (args : List Value)
      → length tables ≡ length s.tables → length tables < 2 ^ 64 → AnswersByHeads c.turns q tables args (tail_runs (frame_of f (length slots) g tables) a r args)
  head_answers heads tables args many small =
      let w : World = record {
        tables = tables;
        table = expressions f;
        types = one_turn.types_of slots z;
        result = f.result;
        slots = length slots;
        params = length f.params;
        goto = g;
        anf = a;
        tail = r;
      } in
      by_heads w (λ b. bodies_raise_classes a r (raises f slots g z a (length slots) (length f.params) forms.lowered forms.named forms.called) b)
      (λ i b e. calls_as tables (body_of a r b) (heads i b e)) c.turns q args (tail_answers tables args many small)

  pub ssa_answers : (tables : List Rows) (args : List Value) → length tables ≡ length s.tables → length tables < 2 ^ 64
      → AnswersInTurns c.turns q tables args (ssa_runs (frame_of f (length slots) g tables) z args)
  ssa_answers tables args many small =
      let frame : Frame = frame_of f (length slots) g tables in
      let normal : Bounds (ssa_runs frame z args) (anf_runs frame a args) = record {
        answer = λ k x over e. sym (ap (λ (run : Ran). run.answer) (in_lockstep frame z a forms.called args k)) ∙ e;
        heads = λ k. omega (arith, ap (λ (run : Ran). run.heads) (in_lockstep frame z a forms.called args k));
      } in
      answers_below c.turns q tables args (ssa_runs frame z args) (tail_runs frame a r args)
      (bounds_join normal (unfolded_bounds frame slots z a r forms.unfolded forms.columned args)) (tail_answers tables args many small)

-- ---- the function

zip_long : {X Y : Type 0} (R : X → Y → Type 0) (xs : List X) (ys : List Y) → AllZip R xs ys → length ys ≡ length xs
zip_long R [] [] h = refl
zip_long R (x ∷ xs) (y ∷ ys) h = ap suc (zip_long R xs ys h.1)
zip_long R [] (y ∷ ys) h = absurd h
zip_long R (x ∷ xs) [] h = absurd h

-- the answers within turns, and the runs of a form that has them
module _ (w k : ℕ) (positive : 0 < k) (f : ℕ → Answer) (runs : ℕ → Ran) (meets : (n : ℕ) → Meets (f n) (runs (suc n * w)) n) (q : Query)
    (tables : List Rows) (args : List Value) (law : AnswersInTurns k q tables args runs) where
  over_of : (a : Answer) → a ≢ answer.More → (r : Answer) → r ≡ a → IsOver r
  over_of (answer.Value v) more r e = subst IsOver (sym e) tt
  over_of (answer.Fault c) more r e = subst IsOver (sym e) tt
  over_of answer.More more r e = absurd (more refl)
  over_of (answer.Shape k) more r e = subst IsOver (sym e) tt

  same_of : (n : ℕ) (a : Answer) → a ≢ answer.More → Meets a (runs (suc n * w)) n → (runs (suc n * w)).answer ≡ a
  same_of n (answer.Value v) more m = m
  same_of n (answer.Fault c) more m = m
  same_of n answer.More more m = absurd (more refl)
  same_of n (answer.Shape k) more m = m

  no_less : {x y : ℕ} → x ≤ y → x ≤ suc y
  no_less {x} {y} h = omega (arith, h)

  ends : (n i : ℕ) → f n ≢ answer.More → (n + 1) * w ≤ i * k → sql q tables args (suc i) ≡ f n
  ends n i more le =
      let same = same_of n (f n) more (meets n) in
      let e : (n + 1) * w ≡ suc n * w = omega arith in
      law.ends (suc n * w) i (no_less (subst (λ x. x ≤ i * k) e le)) (over_of (f n) more (runs (suc n * w)).answer same) ∙ same

  goes_on : (n i : ℕ) → f n ≡ answer.More → i * k ≤ n → sql q tables args i ≡ answer.More
  goes_on n i more le =
      let meet : suc n ≤ (runs (suc n * w)).heads = subst (λ a. Meets a (runs (suc n * w)) n) more (meets n) in
      law.goes_on (suc n * w) i (omega (arith, meet, le))

  -- enough iterations
  enough : (x : ℕ) → x ≤ x * k
  enough x = by k positive
    where
      by : (k : ℕ) → 0 < k → x ≤ x * k
      by zero p = absurd (omega (arith, p))
      by (suc j) p =
          let e : x * suc j ≡ x + x * j = omega arith in
          subst (λ n. x ≤ n) (sym e) (omega arith)

  only : (i : ℕ) → sql q tables args i ≢ answer.More → f (i * k) ≡ sql q tables args i
  only i more =
      let n : ℕ = i * k in
      let far : ℕ = i + (n + 1) * w in
      sym (ends n far (λ p. more (goes_on n i p (omega arith))) (omega (arith, enough far)))
      ∙ answer_stays q tables args i (suc far) (omega arith) more

pub equivalent : (s : Schema) (written f : Function) (slots : List Slot) (g : Goto) (z : Ssa) (a : Anf) (r : Tail) (c : Choices) (q : Query) → IsChecked s written f slots
    → length s.tables < 2 ^ 64 → 0 < c.turns → FormsInTurns s f slots g z a r c q → Keeps f slots g → NamedRunsInLockstep → EquivalentInTurns s f slots c.turns q
equivalent s written f slots g z a r c q checked small positive forms keeps lockstep = record {
  ends = λ tables args n i fit typed more le. ends (weight f) c.turns positive (own tables args) (runs tables args) (meets tables args typed) q tables args (at tables args fit) n i more le;
  goes_on = λ tables args n i fit typed more le. goes_on (weight f) c.turns positive (own tables args) (runs tables args) (meets tables args typed) q tables args (at tables args fit) n i more le;
  only = λ tables args i fit typed more. only (weight f) c.turns positive (own tables args) (runs tables args) (meets tables args typed) q tables args (at tables args fit) i more;
}
  where
    own : (tables : List Rows) (args : List Value) → ℕ → Answer
    own = answers f (typed_slots slots)

    runs : (tables : List Rows) (args : List Value) → ℕ → Ran
    runs tables args = ssa_runs (frame_of f (length slots) g tables) z args

    at : (tables : List Rows) (args : List Value) → FitsSchema s tables → AnswersInTurns c.turns q tables args (runs tables args)
    at tables args fit =
        let many : length tables ≡ length s.tables = zip_long FitsTable s.tables tables fit in
        ssa_answers s written f slots g z a r c q checked forms tables args many (subst (λ n. n < 2 ^ 64) (sym many) small)

    as_many : (args : List Value) → AreTyped (types_of f) args → length args ≡ length f.params
    as_many args typed = zip_long (λ t v. HasType v t) (types_of f) args typed ∙ length-map f.params (λ (p : List ℕ × Ty). p.1)

    meets : (tables : List Rows) (args : List Value) → AreTyped (types_of f) args → (n : ℕ)
        → Meets (own tables args n) (runs tables args (suc n * weight f)) n
    meets tables args typed n =
        let long = as_many args typed in
        subst (λ (run : Ran). Meets (own tables args n) run n)
        (lockstep (frame_of f (length slots) g tables) z forms.named args long (suc n * weight f))
        (keeps.answers tables args long n)
