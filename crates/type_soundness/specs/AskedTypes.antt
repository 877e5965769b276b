-- The expressions of a function whose names are resolved, each with the type that is asked of it
-- where it stands.
use Rattle.std.specs.Prelude.{
  ◌≡◌,
  ℕ,
  ◌+◌,
  Bool,
  List,
  [],
  ◌∷◌,
  ◌++◌,
  map,
  slice_get,
  Option,
  Some,
  None,
  Ok,
}
use Rattle.std.specs.List.{flat_map}
use Rattle.away_values.specs.declared.types.Ty.{Ty}
use Rattle.away_values.specs.declared.types.Ty.TheVariants.{Boolean, Integer}
use Rattle.away_values.specs.declared.values.Value.{Value}
use Rattle.away_trees.specs.declared.queries.Expr.{Expr}
use Rattle.away_trees.specs.declared.queries.Select.{Select}
use Rattle.away_trees.specs.declared.schemas.Schema.{Schema}
use Rattle.away_trees.specs.declared.statements.Decl.{Decl}
use Rattle.away_trees.specs.declared.statements.Function.{Function}
use Rattle.away_trees.specs.declared.statements.LoopKind.{LoopKind}
use Rattle.away_trees.specs.declared.statements.LoopKind.TheVariants as kind
use Rattle.away_trees.specs.declared.statements.Stmt.TheOpen.{Stmt-F}
use Rattle.away_trees.specs.declared.statements.Stmt.TheOpen as st
use Rattle.away_trees.specs.StatementAlgebra.{StatementAlgebra, stmt_of}
use Rattle.away_trees.specs.StatementEquations.{statement_algebra}
use Rattle.sql_meaning.specs.Context.{Context}
use Rattle.sql_meaning.specs.Meaning.{value}
use Rattle.away_types.specs.declared.slots.Slot.{Slot}
use Rattle.away_types.specs.CheckedFunctions.{IsChecked}
use Rattle.away_types.specs.FunctionChecks.{asked_in, slot_types}
use Rattle.select_into.specs.Entries.{
  Target,
  check_entries,
  target_types,
  pick_entry,
  unmarked,
}
use Rattle.type_soundness.specs.Sorts.{IsOf, Every}
use Rattle.type_soundness.specs.Surroundings.{Fit}

-- an expression with the type that is asked of it; None where a slot that isn't there is assigned
abbrev pub Asked : Type 0
Asked = List (Option Ty × Expr)

-- by the types of the slots and of the result
abbrev pub Asks : Type 0
Asks = List Ty → Ty → Asked

abbrev pub one : Ty → Expr → Asked
one t e = (Some t, e) ∷ []

abbrev pub maybe : Ty → Option Expr → Asked
maybe t None = []
maybe t (Some e) = one t e

abbrev pub all : List Asks → Asks
all fs slots result = flat_map (λ f. f slots result) fs

abbrev pub other : Option (List Asks) → Asks
other None slots result = []
other (Some fs) slots result = all fs slots result

abbrev pub defaults : List Decl → Asked
defaults = flat_map (λ (d : Decl). maybe d.ty d.default)

abbrev pub slot_type : List Ty → Option ℕ → Option Ty
slot_type slots None = None
slot_type slots (Some i) = slice_get slots i

abbrev pub head : LoopKind → Asked
head kind.Plain = []
head (kind.While e) = one Boolean e
head (kind.Count var reverse first last step) =
    one Integer first ++ (one Integer last ++ maybe Integer step)

-- from a place on, the picks for targets, each by its place
abbrev pub picks : List Ty → (ℕ → Expr) → List Target → ℕ → Asked
picks slots pick [] place = []
picks slots pick (t ∷ ts) place =
    (slot_type slots t.1, pick place) ∷ picks slots pick ts (place + 1)

abbrev pub into : List Ty → Bool → List Target → Select → Asked
into slots strict targets q =
    map (λ e. (Some Boolean, e)) (check_entries strict (unmarked q))
    ++ picks slots (pick_entry (target_types slots targets) q) targets 0

-- The default of a declaration and what is assigned have the variable's type, conditions are
-- boolean, the bounds and the step of a FOR integer, and what is returned has the type of the
-- result. The tests of SELECT INTO are boolean, and its picks have their targets' types.
abbrev pub statement : Stmt-F Asks Asks → Asks
statement (st.Block label decls body closing) slots result = defaults decls ++ all body slots result
statement (st.Assign name slot e) slots result = (slot_type slots slot, e) ∷ []
statement (st.If arms o) slots result = all arms slots result ++ other o slots result
statement (st.Cases arms o) slots result = all arms slots result ++ other o slots result
statement (st.Loop label k body closing) slots result = head k ++ all body slots result
statement (st.Exit label when) slots result = maybe Boolean when
statement (st.Continue label when) slots result = maybe Boolean when
statement (st.Return e) slots result = one result e
statement (st.Raise raised) slots result = []
statement (st.Into strict targets query) slots result = into slots strict targets query
statement st.Nothing slots result = []

abbrev pub asking : StatementAlgebra
asking = statement_algebra (record { stmt = statement; arm = λ a slots result. one Boolean a.test ++ all a.body slots result })

abbrev pub asked_of : Function → List Slot → Asked
asked_of f slots = stmt_of asking f.body (slot_types slots) f.result

-- ---- what they give

-- the value has the type, over variables of the slots' types and tables that fit the schema's
abbrev pub GivesItsType : Schema → List Slot → Ty → Option Ty × Expr → Type 0
GivesItsType s slots result (None, e) = ⊥
GivesItsType s slots result (Some t, e) =
    (cx : Context) (v : Value) → Fit (asked_in s slots result).places cx → cx.args ≡ [] → value e cx ≡ Ok v → IsOf t v

-- Each expression of a checked function gives a value of the type that is asked of it, where it
-- gives one.
abbrev pub CheckedFunctionsAreTyped : Type 0
CheckedFunctionsAreTyped =
    (s : Schema) (written checked : Function) (slots : List Slot) → IsChecked s written checked slots
    → Every (GivesItsType s slots checked.result) (asked_of checked slots)
