-- What the kind of an expression says of its value, and the types of a query of the rows that it
-- gives.
use Rattle.std.specs.Prelude.{◌≡◌, List, Some, Ok}
use Rattle.away_values.specs.declared.types.Ty.{Ty}
use Rattle.away_values.specs.declared.types.Ty.TheVariants.{Bigint}
use Rattle.away_values.specs.declared.values.Value.{Value}
use Rattle.away_values.specs.declared.values.Value.TheVariants as val
use Rattle.away_values.specs.Values.{HasType, IsValue}
use Rattle.away_trees.specs.declared.queries.Expr.{Expr}
use Rattle.away_trees.specs.declared.queries.Query.{Query}
use Rattle.away_typing.specs.declared.kind.Kind.{Kind}
use Rattle.away_typing.specs.declared.kind.Kind.TheVariants.{Null, Of, Sum, Wrong}
use Rattle.away_typing.specs.Trees.{kind_of, shape_of_query}
use Rattle.away_typing.specs.Typing.{Places}
use Rattle.sql_meaning.specs.Context.{Rows, Context}
use Rattle.sql_meaning.specs.Meaning.{value, rows_of_query}
use Rattle.type_soundness.specs.Sorts.{IsOf}
use Rattle.type_soundness.specs.Arguments.{Supplied, params_in, params_in_query}
use Rattle.type_soundness.specs.Surroundings.{AreRows, Fit}

-- the literal NULL is NULL, a sum is a whole number, and of what has no type nothing is said
abbrev pub Holds : Kind → Value → Type 0
Holds Null v = v ≡ val.Null
Holds (Of t) v = IsOf t v
Holds Sum v = IsOf Bigint v
Holds Wrong v = Unit {0}

-- An expression of a type has, where it stands, a value of that type's sort, NULL or a fault.
abbrev pub ValuesHaveTheirTypes : Type 0
ValuesHaveTheirTypes =
    (e : Expr) (p : Places) (cx : Context) (t : Ty) (v : Value) → Fit p cx → Supplied cx.args (params_in e)
    → kind_of e p ≡ Of t → value e cx ≡ Ok v → IsOf t v

-- What is of a type's sort and a value, as all is that code holds, is a value of the type.
abbrev pub ValuesAreOfTheirTypes : Type 0
ValuesAreOfTheirTypes = (t : Ty) (v : Value) → IsOf t v → IsValue v → HasType v t

-- A query's rows have the types of its columns.
abbrev pub RowsHaveTheirTypes : Type 0
RowsHaveTheirTypes =
    (q : Query) (p : Places) (cx : Context) (ts : List Ty) (rows : Rows) → Fit p cx → Supplied cx.args (params_in_query q)
    → shape_of_query q p ≡ Some ts → rows_of_query q cx ≡ Ok rows → AreRows ts rows
