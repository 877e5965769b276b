-- What the reader of bodies takes, and what it makes of it.
use Rattle.std.specs.Prelude.{ℕ, Bool, true, false, List, Result, Ok, Err}
use Rattle.away_grammar.specs.declared.grammar.Mark.{Mark}
use Rattle.away_grammar.specs.declared.grammar.Mark.TheVariants as m
use Rattle.away_trees.specs.declared.queries.Expr.{Expr}
use Rattle.away_trees.specs.declared.statements.Arm.{Arm}
use Rattle.away_trees.specs.declared.statements.Raised.{Raised}
use Rattle.away_trees.specs.declared.statements.Raised.TheVariants as r
use Rattle.away_trees.specs.declared.statements.Stmt.{Stmt}
use Rattle.away_grammar.specs.Terminals.{Terminal, mark}
use Rattle.away_grammar.specs.FunctionGrammar.{statement}
use Rattle.sql_text.specs.Plans.{done, expect, Gives}
use Rattle.sql_text.specs.declared.refusal.Refusal.{Refusal}
use Rattle.plsql_parse.specs.Sorts.{AnyTree, part, PartPlan}
use Rattle.plsql_parse.specs.Plans.{any_plan}

-- ---- what stands next

abbrev pub is_loop : Terminal → Bool
is_loop (mark m.Loop) = true
is_loop _ = false

abbrev pub is_end : Terminal → Bool
is_end (mark m.End) = true
is_end _ = false

-- ---- the end of a statement

-- END, the mark that the statement began with, and `;`
abbrev pub end_plan : Mark → Stmt → PartPlan statement
end_plan terminal x = expect m.End (expect terminal (expect m.Semicolon (done x)))

-- the statement, or why its end wasn't there
abbrev pub ended_as : Stmt → Result (Unit {0}) Refusal → Result Stmt Refusal
ended_as x (Ok u) = Ok x
ended_as x (Err e) = Err e

-- The end of a statement was taken, whichever statement it is.
abbrev pub EndTaken : Mark → List Terminal → Result (Unit {0}) Refusal → List Terminal → Type 0
EndTaken terminal old result new = (x : Stmt) → Gives AnyTree any_plan (part statement) (end_plan terminal x) old (ended_as x result) new

-- ---- trees

abbrev pub arm_with : Expr → List Stmt → Arm
arm_with x ss = record { test = x; body = ss }

-- what is raised, by whether `sqlstate` was written
abbrev pub raised_as : Bool → List ℕ → Raised
raised_as true = r.State
raised_as false = r.Message
