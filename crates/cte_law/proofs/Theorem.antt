-- The law of the query of a tail form.
use Rattle.std.proofs.Common.{◌≡◌, ℕ, zero, suc, ◌+◌, ◌<◌, ◌≤◌, ◌^◌, Bool, true, false, if◌then◌else◌, List, [], ◌∷◌, ◌++◌, length, decimal, get_or, Option, Some, None, Ok, refl, ap, sym, ◌∙◌, subst, arith}
use Rattle.std.specs.Prelude.{slice_get}
use Rattle.away_trees.specs.declared.queries.Expr.TheVariants as expr
use Rattle.away_trees.specs.declared.queries.Expr.TheViews.{roll-Recursive}
use Rattle.away_trees.specs.declared.queries.Query.{Query}
use Rattle.away_trees.specs.declared.statements.Function.{Function}
use Rattle.away_trees.proofs.Equations as eq
use Rattle.away_types.specs.declared.slots.Slot.{Slot}
use Rattle.away_values.specs.declared.values.Answer.{Answer}
use Rattle.away_values.specs.declared.values.Answer.TheVariants as answer
use Rattle.away_values.specs.declared.values.Class.{Class}
use Rattle.away_values.specs.declared.values.Value.{Value}
use Rattle.away_values.specs.declared.values.Value.TheVariants as val
use Rattle.away_values.specs.Classes.{is_class}
use Rattle.away_values.specs.Results.{Or, and_then, class}
use Rattle.sql_meaning.specs.Context.{Rows}
use Rattle.sql_meaning.specs.Meaning.{meaning, rows_of_select}
use Rattle.sql_meaning.specs.Selects.{union}
use Rattle.sql_meaning.specs.Template.{last}
use Rattle.sql_meaning.specs.Working.{Bounded, worked, recursive_table, over_table, rows_with, answered, sql}
use Rattle.sql_meaning.proofs.Nameless.{same_sql}
use Rattle.block_forms.specs.declared.forms.Goto.{Goto}
use Rattle.block_forms.specs.declared.forms.Ssa.{Ssa}
use Rattle.block_forms.specs.Expressions.{Sources, expressions}
use Rattle.block_forms.specs.Frames.{frame_of}
use Rattle.block_forms.specs.Machines.{Machine, counted, then_goes, go, IsOver}
use Rattle.block_forms.specs.Places.{Each}
use Rattle.call_forms.specs.declared.forms.Anf.{Anf}
use Rattle.call_forms.specs.declared.forms.Tail.{Tail}
use Rattle.call_forms.specs.Bodies.{body_of}
use Rattle.call_forms.specs.TailRuns.{AtLabel, label_visit, heads_label, tail_machine, entry_label, first_row, tail_runs}
use Rattle.call_forms.specs.Template.{start, step, query_of}
use Rattle.call_forms.specs.Templated.{types_of, Templated}
use Rattle.function_facts.specs.OverTables.{IsOverTables}
use Rattle.cte_law.specs.QueryAnswers.{AnswersAs}
use Rattle.cte_law.proofs.Branches.{scope_at, visit_at}
use Rattle.cte_law.proofs.Finish.{AreCalls, one_call_more, last_rows}
use Rattle.cte_law.proofs.Raised.{RaisesClasses, bodies_raise_classes}
use Rattle.cte_law.proofs.Turns.{turn, turn_call, turn_over, first_rows}
use Rattle.cte_law.proofs.Visits.{Visited, gives, raises, faults, goes_on, stays, move_of, walk_is, rows_of_visit, BodyRaisesClasses, IsFair, fair}
use Rattle.cte_law.proofs.WorkingRows.{call_row, end_row}
use Rattle.cte_law.proofs.Worlds.{World, frame_in, OverTables}

-- ---- the run and the working tables

module _ (w : World) (ok : OverTables w) (raise : (b : ℕ) → BodyRaisesClasses (body_of w.anf w.tail b)) (args : List Value)
    (small : length w.tables < 2 ^ 64) where
  abbrev step_rows : Rows → Or Rows
  step_rows = turn w ok args small []

  abbrev machine : Machine AtLabel
  machine = tail_machine (frame_in w) w.anf w.tail

  abbrev by_table : Bounded Rows → Answer
  by_table o = answered (over_table (union (rows_of_select (last (decimal (length w.tables)) (length w.tail.columns)) ∷ [])) w.tables args o)

  abbrev going : ℕ → Rows → ℕ → List Value → Bounded Rows
  going k done i row = worked step_rows k done (Ok (call_row [] i row ∷ []))

  -- a finished row ends the recursion
  finished : (k : ℕ) (done : Rows) (v c : Value) → AreCalls done
      → by_table (worked step_rows (suc k) done (Ok (end_row [] w.tail.columns v c ∷ []))) ≡ answered (Some (Ok ((v ∷ c ∷ []) ∷ [])))
  finished k done v c h =
      ap (λ x. by_table (worked step_rows k (done ++ end_row [] w.tail.columns v c ∷ []) x)) (turn_over w ok args small v c)
      ∙ ap (λ x. answered (Some (and_then x (λ ys. Ok (ys ++ []))))) (last_rows w.tail.columns w.tables args small done v c h)

  raised : (c : Class) → is_class c.code ≡ true → answered (Some (Ok ((val.Null ∷ val.Text c.code ∷ []) ∷ []))) ≡ answer.Fault c
  raised c h = ap (λ b. if b then answer.Fault (class c.code) else answer.Shape 1) h

  -- what the run of k visits answers, from any label and behind any finished calls
  abbrev IsKept : ℕ → Type 0
  IsKept k =
      (i : ℕ) (row : List Value) (h : ℕ) (done : Rows) → AreCalls done → IsOver (go machine k (i, row) h).answer
      → by_table (going (suc k) done i row) ≡ (go machine k (i, row) h).answer

  module _ (k : ℕ) (kept : IsKept k) (i : ℕ) (row : List Value) (done : Rows) (are_calls : AreCalls done) where
    abbrev so_far : Rows
    so_far = done ++ call_row [] i row ∷ []

    calls_so_far : AreCalls so_far
    calls_so_far = one_call_more done (call_row [] i row) are_calls refl

    visit_kept : (h : ℕ) (x : Visited) → IsFair x → IsOver (then_goes (move_of x) (go machine k) h).answer
        → by_table (worked step_rows (suc k) so_far (rows_of_visit w [] x)) ≡ (then_goes (move_of x) (go machine k) h).answer
    visit_kept h (gives v) fair_ over = finished k so_far v val.Null calls_so_far
    visit_kept h (raises c) fair_ over = finished k so_far val.Null (val.Text c.code) calls_so_far ∙ raised c fair_
    visit_kept h (faults c) fair_ over = refl
    visit_kept h (goes_on j next) fair_ over = kept j next h so_far calls_so_far over
    visit_kept h stays fair_ over = absurd over

    label_kept : (h : ℕ) (o : Option ℕ) → slice_get w.tail.labels i ≡ o
        → IsOver (then_goes (label_visit (frame_in w) w.anf w.tail i o row) (go machine k) h).answer
        → by_table (worked step_rows (suc k) so_far (step_rows (call_row [] i row ∷ [])))
        ≡ (then_goes (label_visit (frame_in w) w.anf w.tail i o row) (go machine k) h).answer
    label_kept h None found over = absurd over
    label_kept h (Some b) found over =
        let is = walk_is w (body_of w.anf w.tail b) (scope_at w i b row) in
        ap (λ x. by_table (worked step_rows (suc k) so_far x)) (turn_call w ok args small i row b found)
        ∙ subst (λ m. IsOver (then_goes m (go machine k) h).answer
        → by_table (worked step_rows (suc k) so_far (rows_of_visit w [] (visit_at w i b row))) ≡ (then_goes m (go machine k) h).answer)
        is
        (visit_kept h (visit_at w i b row) (fair w (body_of w.anf w.tail b) (raise b) (scope_at w i b row))) over

  ended : (k : ℕ) → IsKept k
  ended zero i row h done are_calls over = absurd over
  ended (suc k) i row h done are_calls over =
      label_kept k (ended k) i row done are_calls (counted (heads_label (frame_in w) w.anf w.tail (slice_get w.tail.labels i)) h)
      (slice_get w.tail.labels i) refl over

  -- each head that was visited is an iteration
  abbrev Waits : ℕ → Type 0
  Waits k = (y i : ℕ) (row : List Value) (h : ℕ) (done : Rows) → h + y < (go machine k (i, row) h).heads → going y done i row ≡ None

  counts : (b : Bool) (h : ℕ) → counted b h ≤ suc h
  counts true h = omega arith
  counts false h = omega arith

  module _ (k : ℕ) (waits_ : Waits k) (y i : ℕ) (row : List Value) (h : ℕ) (done : Rows) where
    visit_waits : (h' : ℕ) → h' ≤ suc h → (x : Visited) → h + suc y < (then_goes (move_of x) (go machine k) h').heads
        → worked step_rows y (done ++ call_row [] i row ∷ []) (rows_of_visit w [] x) ≡ None
    visit_waits h' q (gives v) p = absurd (omega (arith, p, q))
    visit_waits h' q (raises c) p = absurd (omega (arith, p, q))
    visit_waits h' q (faults c) p = absurd (omega (arith, p, q))
    visit_waits h' q (goes_on j next) p = waits_ y j next h' (done ++ call_row [] i row ∷ []) (omega (arith, p, q))
    visit_waits h' q stays p = absurd (omega (arith, p, q))

    label_waits : (h' : ℕ) → h' ≤ suc h → (o : Option ℕ) → slice_get w.tail.labels i ≡ o
        → h + suc y < (then_goes (label_visit (frame_in w) w.anf w.tail i o row) (go machine k) h').heads
        → worked step_rows y (done ++ call_row [] i row ∷ []) (step_rows (call_row [] i row ∷ [])) ≡ None
    label_waits h' q None found p = absurd (omega (arith, p, q))
    label_waits h' q (Some b) found p =
        let is = walk_is w (body_of w.anf w.tail b) (scope_at w i b row) in
        ap (λ x. worked step_rows y (done ++ call_row [] i row ∷ []) x) (turn_call w ok args small i row b found)
        ∙ visit_waits h' q (visit_at w i b row) (subst (λ m. h + suc y < (then_goes m (go machine k) h').heads) (sym is) p)

  waits : (k : ℕ) → Waits k
  waits k zero i row h done p = refl
  waits zero (suc y) i row h done p = absurd (omega (arith, p))
  waits (suc k) (suc y) i row h done p =
      let head : Bool = heads_label (frame_in w) w.anf w.tail (slice_get w.tail.labels i) in
      label_waits k (waits k) y i row h done (counted head h) (counts head h) (slice_get w.tail.labels i) refl p

  -- ---- the query

  abbrev query : Query
  query = query_of w.table w.types w.result w.anf w.tail w.goto.entry (length w.tables)

  abbrev first_at : List Value
  first_at = first_row (frame_in w) w.anf w.tail args

  abbrev entry_at : ℕ
  entry_at = entry_label (frame_in w) w.anf w.tail

  sql_is : (k : ℕ) → sql query w.tables args k ≡ by_table (going k [] entry_at first_at)
  sql_is k =
      let first = start w.table w.types w.result w.anf w.tail w.goto.entry in
      let second = step w.table w.types w.result w.anf w.tail w.goto.entry (decimal (length w.tables)) in
      ap (λ m. answered (rows_with m.recursive m.rows w.tables args k))
      (eq.of_with meaning (roll-Recursive (record { name = []; columns = []; first = first ∷ []; second = second }))
      (last (decimal (length w.tables)) (length w.tail.columns) ∷ []))
      ∙ (ap (λ r. by_table (recursive_table r w.tables args k)) (eq.of_recursive meaning [] [] (first ∷ []) second)
      ∙ ap (λ x. by_table (worked step_rows k [] (and_then x (λ ys. Ok (ys ++ []))))) (first_rows w ok args small))

  pub answers : AnswersAs query w.tables args (tail_runs (frame_in w) w.anf w.tail args)
  answers = record {
    ends = λ k over. sql_is (suc k) ∙ ended k entry_at first_at 0 [] tt over;
    goes_on = λ k h heads. sql_is h ∙ ap by_table (waits k h entry_at first_at 0 [] (omega (arith, heads)));
  }

-- ---- over a function's expressions

pub over_tables : (tables : ℕ) (table : Sources) → Each (IsOverTables tables) table → (k : ℕ) → IsOverTables tables (get_or table k expr.Null)
over_tables tables [] each k = record { reads_own = refl; single = refl }
over_tables tables (e ∷ es) each zero = each 0 e refl
over_tables tables (e ∷ es) each (suc k) = over_tables tables es (λ i x at. each (suc i) x at) k

pub query_law : (f : Function) (slots : List Slot) (g : Goto) (z : Ssa) (a : Anf) (r : Tail) (q : Query) (tables : List Rows) (args : List Value)
    → length tables < 2 ^ 64 → Each (IsOverTables (length tables)) (expressions f) → RaisesClasses a → Templated f slots (length tables) g z a r q
    → AnswersAs q tables args (tail_runs (frame_of f (length slots) g tables) a r args)
query_law f slots g z a r q tables args small terms classes templated =
    let w : World = record {
      tables = tables;
      table = expressions f;
      types = types_of slots z;
      result = f.result;
      slots = length slots;
      params = length f.params;
      goto = g;
      anf = a;
      tail = r;
    } in
    let made = answers w (over_tables (length tables) (expressions f) terms) (λ b. bodies_raise_classes a r classes b) args small in
    let as_is = λ (k : ℕ). same_sql q (query_of (expressions f) (types_of slots z) f.result a r g.entry (length tables)) templated.query tables args k in
    record { ends = λ k over. as_is (suc k) ∙ made.ends k over; goes_on = λ k h heads. as_is h ∙ made.goes_on k h heads }
