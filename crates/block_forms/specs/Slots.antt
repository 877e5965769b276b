-- The slots of a function, by its text: its parameters, then declarations and FOR variables in the
-- order of the text, behind them the counter, the last value and the step of each FOR, and behind
-- these one for each target of a SELECT INTO.
use Rattle.std.specs.Prelude.{
  ℕ,
  ◌*◌,
  false,
  List,
  [],
  ◌∷◌,
  ◌++◌,
  map,
  replicate,
  Option,
  Some,
  None,
}
use Rattle.away_values.specs.declared.types.Ty.{Ty}
use Rattle.away_values.specs.declared.types.Ty.TheVariants as ty
use Rattle.away_trees.specs.declared.statements.Arm.{Arm}
use Rattle.away_trees.specs.declared.statements.Decl.{Decl}
use Rattle.away_trees.specs.declared.statements.Function.{Function}
use Rattle.away_trees.specs.declared.statements.LoopKind.{LoopKind}
use Rattle.away_trees.specs.declared.statements.LoopKind.TheVariants as kind
use Rattle.away_trees.specs.declared.statements.Stmt.{Stmt}
use Rattle.away_trees.specs.declared.statements.Stmt.TheOpen.{Stmt-F, Arm-F}
use Rattle.away_trees.specs.declared.statements.Stmt.TheOpen as st
use Rattle.away_trees.specs.StatementAlgebra.{StatementAlgebra, stmt_of, branch_of}
use Rattle.away_types.specs.declared.slots.Slot.{Slot}
use Rattle.select_into.specs.Entries.{Target, type_of}
use Rattle.block_forms.specs.Intos.{into_targets}
use Rattle.block_forms.specs.Laid.{laid}

abbrev pub slot : Ty → Slot
slot t = record { ty = t; not_null = false }

abbrev pub slot_of : Decl → Slot
slot_of d = record { ty = d.ty; not_null = d.not_null }

abbrev pub declared_slots : List Decl → List Slot
declared_slots decls = map slot_of decls

abbrev pub joined : List (List Slot) → List Slot
joined [] = []
joined (x ∷ xs) = x ++ joined xs

abbrev pub of_else : Option (List (List Slot)) → List Slot
of_else None = []
of_else (Some body) = joined body

abbrev pub of_kind : LoopKind → List Slot
of_kind kind.Plain = []
of_kind (kind.While _) = []
of_kind (kind.Count _ _ _ _ _) = slot ty.Integer ∷ []

abbrev of_statement : Stmt-F (List Slot) (List Slot) → List Slot
of_statement (st.Block _ decls body _) = declared_slots decls ++ joined body
of_statement (st.Assign _ _ _) = []
of_statement (st.If arms other) = joined arms ++ of_else other
of_statement (st.Cases arms other) = joined arms ++ of_else other
of_statement (st.Loop _ k body _) = of_kind k ++ joined body
of_statement (st.Exit _ _) = []
of_statement (st.Continue _ _) = []
of_statement (st.Return _) = []
of_statement (st.Raise _) = []
of_statement (st.Into _ _ _) = []
of_statement st.Nothing = []

abbrev pub declaring : StatementAlgebra
declaring = record { AStmt = List Slot; AnArm = List Slot; stmt = of_statement; arm = λ a. joined a.body }

-- the declarations and FOR variables of a statement
unfoldable pub variables : Stmt → List Slot
variables s = stmt_of declaring s

unfoldable pub variables_of_arm : Arm → List Slot
variables_of_arm a = branch_of declaring a

abbrev pub param_slots : List (List ℕ × Ty) → List Slot
param_slots params = map (λ (p : List ℕ × Ty). slot p.1) params

-- those that the text names: parameters, declarations and FOR variables
abbrev pub shown_slots : Function → List Slot
shown_slots f = param_slots f.params ++ variables f.body

abbrev pub types_of : List Slot → List Ty
types_of slots = map (λ (s : Slot). s.ty) slots

abbrev pub shown_types : Function → List Ty
shown_types f = types_of (shown_slots f)

-- a target's hidden slot has the target's type
abbrev pub hidden_slot : List Ty → Target → Slot
hidden_slot types t = slot (type_of types t.1)

abbrev pub own_slots : Function → List Slot
own_slots f =
    shown_slots f
    ++ (replicate (3 * (laid f.body).size.fors) (slot ty.Integer)
    ++ map (hidden_slot (shown_types f)) (into_targets f.body))
