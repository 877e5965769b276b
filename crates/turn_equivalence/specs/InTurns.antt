-- The relations between a checked function, four forms and a query with k turns in an iteration,
-- and what they promise.
use Rattle.std.specs.Prelude.{
  ◌≡◌,
  ◌≢◌,
  ℕ,
  suc,
  ◌+◌,
  ◌*◌,
  ◌^◌,
  ◌<◌,
  ◌≤◌,
  Bool,
  true,
  false,
  List,
  length,
  slice_get,
  Option,
  Some,
  None,
}
use Rattle.away_trees.specs.declared.queries.Expr.{Expr}
use Rattle.away_trees.specs.declared.queries.Query.{Query}
use Rattle.away_trees.specs.declared.schemas.Schema.{Schema}
use Rattle.away_trees.specs.declared.statements.Function.{Function}
use Rattle.away_trees.specs.Count.{weight}
use Rattle.away_trees.specs.Fits.{FitsSchema}
use Rattle.away_types.specs.declared.slots.Slot.{Slot}
use Rattle.away_types.specs.CheckedFunctions.{IsChecked}
use Rattle.away_types.specs.TypedSlots.{typed_slots}
use Rattle.away_values.specs.declared.values.Answer.TheVariants as answer
use Rattle.away_values.specs.declared.values.Value.{Value}
use Rattle.plsql_meaning.specs.Equivalent.{answers, types_of}
use Rattle.sql_meaning.specs.Context.{Rows}
use Rattle.sql_meaning.specs.Equivalent.{FunctionAnswer}
use Rattle.sql_meaning.specs.Names.{bare}
use Rattle.sql_meaning.specs.Typed.{AreTyped}
use Rattle.sql_meaning.specs.Working.{sql}
use Rattle.block_forms.specs.declared.forms.Goto.{Goto}
use Rattle.block_forms.specs.declared.forms.Ssa.{Ssa}
use Rattle.block_forms.specs.declared.forms.Term.{Term}
use Rattle.block_forms.specs.Expressions.{expressions}
use Rattle.block_forms.specs.Frames.{frame_of}
use Rattle.block_forms.specs.Lowered.{Lowered}
use Rattle.block_forms.specs.Named.{Named}
use Rattle.block_forms.specs.Runs.{is_head}
use Rattle.call_forms.specs.declared.forms.Anf.{Anf}
use Rattle.call_forms.specs.declared.forms.Tail.{Tail}
use Rattle.call_forms.specs.Bodies.{body_of}
use Rattle.call_forms.specs.Called.{Called}
use Rattle.call_forms.specs.Columned.{Columned}
use Rattle.call_forms.specs.TailRuns.{tail_runs}
use Rattle.call_forms.specs.Templated as one_turn
use Rattle.turn_law.specs.TurnAnswers.{AnswersByHeads}
use Rattle.turn_template.specs.Totals.{total_term}
use Rattle.turn_template.specs.TurnTemplate.{query_of}
use Rattle.turn_template.specs.Unfolded.{Unfolded, CallsHeads, CallsAmong}

-- What a builder is free to choose: which labels are called (the first ones of the tail form),
-- which of the terms that can't fault are written where they are read, which cells are one where
-- they are the same, and how many turns an iteration has.
pub record Choices : Type 0 where
  pub heads : List ℕ
  pub total : Term → Bool
  pub same : Expr → Expr → Bool
  pub turns : ℕ

-- The forms stand between the function and the query. Each label's body is a finite tree, in which
-- each call is of a label that is called; so it is that of the entry, which the first term has, or
-- of one of `heads`. The entry is no head. The query is that of these choices, with names of
-- aliases and columns aside.
pub record FormsInTurns (s : Schema) (f : Function) (slots : List Slot) (g : Goto) (z : Ssa) (a : Anf) (r : Tail) (c : Choices) (q : Query) : Type 0 where
  pub alike : (x y : Expr) → c.same x y ≡ true → x ≡ y
  pub totals : (t : Term) → c.total t ≡ true → total_term (expressions f) t ≡ true
  pub lowered : Lowered f slots g
  pub named : Named (length slots) (length f.params) g z
  pub called : Called g z a
  pub unfolded : Unfolded g a r
  pub columned : Columned slots z a r
  pub inner : (i b : ℕ) → slice_get r.labels i ≡ Some b → CallsAmong c.heads r.labels (body_of a r b)
  pub entry_no_head : is_head (slice_get g.blocks g.entry) ≡ false
  pub query : bare q
      ≡ bare (query_of (expressions f) (one_turn.types_of slots z) f.result c.total c.same a r g.entry (length s.tables) c.heads c.turns)

-- Over all tables and arguments that fit: an answer that the function has within n turns is the
-- query's at i + 1 iterations, where i times k is at least `(n + 1) * weight`; where the function
-- needs more than n turns, the query has no answer at i iterations if i times k is at most n; and
-- an answer that the query has at i iterations is the function's within i times k turns.
pub record IsEquivalentInTurns (FitTables : List Rows → Type 0) (FitArgs : List Value → Type 0) (weight k : ℕ) (f : FunctionAnswer) (q : Query) : Type 0 where
  pub ends : (T : List Rows) (args : List Value) (n i : ℕ) → FitTables T → FitArgs args → f T args n ≢ answer.More → (n + 1) * weight ≤ i * k
      → sql q T args (suc i) ≡ f T args n
  pub goes_on : (T : List Rows) (args : List Value) (n i : ℕ) → FitTables T → FitArgs args → f T args n ≡ answer.More → i * k ≤ n
      → sql q T args i ≡ answer.More
  pub only : (T : List Rows) (args : List Value) (i : ℕ) → FitTables T → FitArgs args → sql q T args i ≢ answer.More
      → f T args (i * k) ≡ sql q T args i

abbrev pub EquivalentInTurns : Schema → Function → List Slot → ℕ → Query → Type 0
EquivalentInTurns s f slots k q =
    IsEquivalentInTurns (FitsSchema s) (AreTyped (types_of f)) (weight f) k (answers f (typed_slots slots)) q

abbrev pub head_block : Goto → Option ℕ → Bool
head_block g None = false
head_block g (Some b) = is_head (slice_get g.blocks b)

-- whether a label's own block is a head
abbrev pub is_head_label : Goto → Tail → ℕ → Bool
is_head_label g r label = head_block g (slice_get r.labels label)

-- Where each call is of a head, the query answers by the heads that the run of the tail form
-- visits: over all tables and at all arguments.
abbrev pub ByHeads : Type 0
ByHeads =
    (s : Schema) (written f : Function) (slots : List Slot) (g : Goto) (z : Ssa) (a : Anf)
    (r : Tail) (c : Choices) (q : Query) → IsChecked s written f slots
    → FormsInTurns s f slots g z a r c q
    → ((i b : ℕ) → slice_get r.labels i ≡ Some b → CallsHeads (is_head_label g r) (body_of a r b))
    → (tables : List Rows) (args : List Value) → length tables ≡ length s.tables
    → length tables < 2 ^ 64
    → AnswersByHeads c.turns q tables args (tail_runs (frame_of f (length slots) g tables) a r args)
