-- What the query of turns is, with names of aliases and columns aside, and that forms stand between
-- it and the function.
use Rattle.std.specs.Prelude.{◌≡◌, ℕ, ◌<◌, ◌≤◌, List, length, take}
use Rattle.away_trees.specs.declared.queries.Expr.{Expr}
use Rattle.away_trees.specs.declared.queries.Query.{Query}
use Rattle.away_trees.specs.declared.schemas.Schema.{Schema}
use Rattle.away_trees.specs.declared.statements.Function.{Function}
use Rattle.away_types.specs.declared.slots.Slot.{Slot}
use Rattle.sql_meaning.specs.Names.{bare}
use Rattle.block_forms.specs.declared.forms.Goto.{Goto}
use Rattle.block_forms.specs.declared.forms.Ssa.{Ssa}
use Rattle.block_forms.specs.Expressions.{expressions}
use Rattle.block_forms.specs.Lowered.{Lowered}
use Rattle.block_forms.specs.Named.{Named}
use Rattle.call_forms.specs.declared.forms.Anf.{Anf}
use Rattle.call_forms.specs.declared.forms.Tail.{Tail}
use Rattle.call_forms.specs.Called.{Called}
use Rattle.call_forms.specs.Templated.{types_of}
use Rattle.turn_template.specs.TurnTemplate.{Plan, plans, query_of, told_by}
use Rattle.turn_bodies.specs.declared.unfolding.Unfolded.{Unfolded}
use Rattle.turn_bodies.specs.Unfolding.{IsUnfolded}
use Rattle.turn_equivalence.specs.InTurns.{Choices, FormsInTurns}
use Rattle.turn_query.specs.Fitting.{FittingTurns}
use Rattle.turn_query.specs.TurnTree.{width_of}
use Rattle.turn_terms.specs.Choosing.{chosen_total}
use Rattle.turn_terms.specs.Sameness.{same}

-- the query with k turns in an iteration, of which the first labels are called, as the template has
-- it where the terms that are chosen are written where they are read
abbrev pub template_of : Function → List Slot → Ssa → Anf → Tail → ℕ → ℕ → List ℕ → ℕ → Query
template_of f slots z a r entry tables heads k =
    query_of (expressions f) (types_of slots z) f.result (chosen_total (expressions f)) same a r
    entry tables heads k

-- the labels that are called
abbrev pub called_labels : Unfolded → List ℕ
called_labels x = take x.heads x.tail.labels

-- the steps of one turn by these labels
abbrev pub turn_steps : Function → List Slot → Ssa → Anf → Tail → ℕ → List ℕ → List Expr
turn_steps f slots z a r entry heads =
    let p : Plan = plans (expressions f) (types_of slots z) f.result (chosen_total (expressions f))
    (told_by same heads) a r entry (width_of (length r.columns)) 0 heads in
    p.steps

-- The query is that of unfolded labels, over so many tables, with as many turns in an iteration as
-- fit, at most as many as are asked for.
pub record IsTurnsQuery (f : Function) (slots : List Slot) (g : Goto) (z : Ssa) (a : Anf) (x : Unfolded) (tables asked : ℕ) (q : Query) : Type 0 where
  pub turns : ℕ
  pub fitting : FittingTurns (length (turn_steps f slots z a x.tail g.entry (called_labels x))) asked
      turns
  pub query : bare q
      ≡ bare (template_of f slots z a x.tail g.entry tables (called_labels x) turns)

-- Four forms stand between the function and the query, with choices of which the turns are at most
-- as many as are asked for.
pub record StandsInTurns (s : Schema) (f : Function) (slots : List Slot) (g : Goto) (z : Ssa) (a : Anf) (r : Tail) (asked : ℕ) (q : Query) : Type 0 where
  pub choices : Choices
  pub some : 0 < choices.turns
  pub few : choices.turns ≤ asked
  pub forms : FormsInTurns s f slots g z a r choices q

-- The query of unfolded labels stands so behind forms in their relations.
abbrev pub QueriesStandInTurns : Type 0
QueriesStandInTurns =
    (s : Schema) (f : Function) (slots : List Slot) (g : Goto) (z : Ssa) (a : Anf) (x : Unfolded)
    (asked : ℕ) (q : Query) → Lowered f slots g → Named (length slots) (length f.params) g z
    → Called g z a → IsUnfolded slots g z a x
    → IsTurnsQuery f slots g z a x (length s.tables) asked q
    → StandsInTurns s f slots g z a x.tail asked q
