-- The parts of the query of turns, where what is chosen is what a writer has at hand: which terms
-- are written where they are read (those that can't fault and are short), and which cells are one
-- (those that are the same).
use Rattle.std.specs.Prelude.{ℕ, Bool, if◌then◌else◌, pos, List, map, Option, Some, None}
use Rattle.away_trees.specs.declared.queries.Expr.{Expr}
use Rattle.away_values.specs.declared.types.Ty.{Ty}
use Rattle.away_values.specs.declared.values.Class.{Class}
use Rattle.block_forms.specs.declared.forms.Term.{Term}
use Rattle.call_forms.specs.Bodies.{Body}
use Rattle.call_forms.specs.Scopes.{Scope}
use Rattle.sql_meaning.specs.Template.{count_from}
use Rattle.sql_meaning.specs.Trees.{col, number, null_of}
use Rattle.turn_template.specs.TurnTemplate as turn
use Rattle.turn_template.specs.TurnTemplate.{Ref, Plan, Settled, Style}
use Rattle.turn_terms.specs.Choosing.{chosen_total}
use Rattle.turn_terms.specs.Sameness.{same}
use Rattle.turn_terms.specs.Writing.{types_in}
use Rattle.turn_terms.specs.declared.writer.Writer.{Writer}

-- the cell of the name that is passed, and NULL of the type where there is none
abbrev pub cell_of : Scope Ref → Ty → Option ℕ → Expr
cell_of refs t None = null_of t
cell_of refs t (Some n) = refs n 0

-- the columns of a row as they are, where so many hold values
abbrev pub kept : ℕ → List Expr
kept many = map (col 0 0) (count_from 2 many)

-- how cells are written
abbrev pub style : Writer → Style
style w = record { same = same; alone = w.alone }

module _ (w : Writer) where
  abbrev pub total : Term → Bool
  total = chosen_total w.table.now

  abbrev pub width : ℕ
  width = turn.width w.table.now (types_in w) w.columns.now w.result total (style w)

  abbrev pub kept_columns : List Expr
  kept_columns = turn.kept_columns w.table.now (types_in w) w.columns.now w.result total (style w)

  abbrev pub kept_result : Expr
  kept_result = turn.kept_result w.table.now (types_in w) w.columns.now w.result total (style w)

  abbrev pub kept_class : Expr
  kept_class = turn.kept_class w.table.now (types_in w) w.columns.now w.result total (style w)

  -- the cell of a label's number, which is 0 where there is none
  abbrev pub numbered_cell : ℕ → Expr
  numbered_cell label = if w.alone then col 0 0 1 else number (pos label)

  abbrev pub text_of : Class → Expr
  text_of = turn.text_of w.table.now (types_in w) w.columns.now w.result total (style w)

  abbrev pub end_cells : Expr → Expr → List Expr
  end_cells = turn.end_cells w.table.now (types_in w) w.columns.now w.result total (style w)

  abbrev pub row_cells : ℕ → Scope Ref → List ℕ → List ℕ → List Ty → List Expr
  row_cells = turn.row_cells w.table.now (types_in w) w.columns.now w.result total (style w)

  abbrev pub call_cells : ℕ → List Expr → List Expr
  call_cells = turn.call_cells w.table.now (types_in w) w.columns.now w.result total (style w)

  abbrev pub in_order : List ℕ → List ℕ → ℕ → List ℕ → List ℕ → List Ty → Bool
  in_order = turn.in_order w.table.now (types_in w) w.columns.now w.result total (style w)

  abbrev pub name_of : Term → Option ℕ
  name_of = turn.name_of w.table.now (types_in w) w.columns.now w.result total (style w)

  abbrev pub may_wait : List ℕ → Body → Bool
  may_wait = turn.may_wait w.table.now (types_in w) w.columns.now w.result total (style w)

  abbrev pub waiting : Scope Ref → Body → List Expr
  waiting = turn.waiting w.table.now (types_in w) w.columns.now w.result total (style w)

  abbrev pub settled : ℕ → Expr → Scope Ref → Ty → Term → Settled
  settled = turn.settled w.table.now (types_in w) w.columns.now w.result total (style w)

  abbrev pub plan : ℕ → Expr → Scope Ref → Body → Plan
  plan = turn.plan w.table.now (types_in w) w.columns.now w.result total (style w)

  abbrev pub at_label : ℕ → Expr
  at_label = turn.at_label w.table.now (types_in w) w.columns.now w.result total (style w)
