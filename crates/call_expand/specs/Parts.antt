-- A function that calls others as the meaning of calls has it: checked, but that its calls stand.
-- Each argument is converted to the type of its parameter, and the value of a call to the type of
-- its place, as at any assignment.
use Rattle.std.specs.Prelude.{
  List,
  [],
  ◌∷◌,
  map,
  Option,
  Some,
  None,
  is_some,
  if◌then◌else◌,
}
use Rattle.away_values.specs.declared.types.Ty.{Ty}
use Rattle.away_trees.specs.declared.queries.Expr.{Expr}
use Rattle.away_trees.specs.declared.queries.Expr.TheVariants as expr
use Rattle.away_trees.specs.declared.schemas.Schema.{Schema}
use Rattle.away_trees.specs.declared.statements.Arm.{Arm}
use Rattle.away_trees.specs.declared.statements.Function.{Function}
use Rattle.away_trees.specs.declared.statements.Stmt.{Stmt}
use Rattle.away_trees.specs.declared.statements.Stmt.TheVariants as stmt
use Rattle.away_trees.specs.declared.statements.Stmt.TheOpen.{Stmt-F}
use Rattle.away_trees.specs.declared.statements.Stmt.TheOpen as st
use Rattle.away_trees.specs.StatementAlgebra.{StatementAlgebra, branch_of, stmt_of}
use Rattle.away_trees.specs.StatementEquations.{statement_algebra}
use Rattle.away_names.specs.Functions.{function}
use Rattle.away_names.specs.Lookups.{Name}
use Rattle.away_typing.specs.declared.kind.Kind.TheVariants.{Of}
use Rattle.away_typing.specs.Typing.{Places}
use Rattle.elaboration.specs.Elaborating.{MadeExpr}
use Rattle.elaboration.specs.Converting as c
use Rattle.elaboration.specs.Converting.{
  Around,
  By,
  converted_to,
  for_slot,
  marked,
  slot_type,
  with_cast,
}
use Rattle.away_types.specs.FunctionChecks.{around_in, body_of, slots_of}
use Rattle.away_types.specs.TypedSlots.{typed_slots}
use Rattle.call_meaning.specs.Calls.{Called, Part}
use Rattle.call_expand.specs.Expanding.{function_at, names_of, call_place}
use Rattle.call_expand.specs.Untailing.{self_names}

-- an argument that no parameter takes is converted to no type
abbrev pub arguments_converted : Places → List (Name × Ty) → List Expr → List Expr
arguments_converted p params [] = []
arguments_converted p [] (a ∷ as_) = marked p a ∷ arguments_converted p [] as_
arguments_converted p (x ∷ xs) (a ∷ as_) =
    converted_to x.1 p a ∷ arguments_converted p xs as_

-- a call as a value of its function's result type
abbrev pub call_made : Function → Places → List Expr → MadeExpr
call_made g p args = record {
  kind = Of g.result;
  it = expr.Call g.name (arguments_converted p g.params args);
}

abbrev pub for_type : Option Ty → MadeExpr → Expr
for_type None m = m.it
for_type (Some t) m = with_cast t m

-- by the names of the functions that may be called, and these
module _ (names : List Name) (fs : List Function) where
  abbrev pub place_for : Option Called → Option Ty → Places → Expr → Expr
  place_for None t p e = for_slot t p e
  place_for (Some g) t p e = for_type t (call_made (function_at fs g.part) p g.args)

  abbrev pub placed_for : Option Ty → Places → Expr → Expr
  placed_for t p e = place_for (call_place names e) t p e

  abbrev pub statement : Stmt-F (By Stmt) (By Arm) → By Stmt
  statement (st.Assign name slot e) a =
      stmt.Assign name slot (placed_for (slot_type a slot) a.places e)
  statement (st.Return e) a = stmt.Return (placed_for (Some a.result) a.places e)
  statement s a = c.statement s a

  abbrev pub calling : StatementAlgebra
  calling = statement_algebra (record { stmt = statement; arm = c.arm })

  unfoldable pub converted_with_calls : Around → Stmt → Stmt
  converted_with_calls a s = stmt_of calling s a

  unfoldable pub arm_with_calls : Around → Arm → Arm
  arm_with_calls a x = branch_of calling x a

  abbrev pub function_with_calls : Schema → Function → Function
  function_with_calls s f = record f {
    body = converted_with_calls (around_in s (slots_of s f) f.result) (body_of s f).it;
  }

-- a function of a program
abbrev pub part_of : Schema → List Function → Function → Part
part_of s fs f = record {
  name = f.name;
  function = function_with_calls (names_of fs) fs s f;
  slots = typed_slots (slots_of s f);
}

abbrev pub parts_of : Schema → List Function → List Part
parts_of s fs = map (part_of s fs) fs

-- The name by which a function calls itself. One that has the name of an operator's function has
-- none, which no call has.
abbrev pub own_name : Function → Name
own_name f = if is_some (function f.name) then [] else f.name

-- a function that calls itself
abbrev pub self_part : Schema → Function → Part
self_part s f = record {
  name = own_name f;
  function = function_with_calls (self_names f) (f ∷ []) s f;
  slots = typed_slots (slots_of s f);
}
