-- A select with calls whose arguments are of the types of the function's parameters.
use Rattle.std.specs.Prelude.{◌≡◌, ◌⊎◌, ℕ, List, [], ◌∷◌, map, Some}
use Rattle.away_trees.specs.Algebra.{from_of}
use Rattle.away_trees.specs.declared.queries.Expr.{Expr}
use Rattle.away_trees.specs.declared.queries.Expr.TheViews.{out-Select}
use Rattle.away_trees.specs.declared.schemas.Schema.{Schema}
use Rattle.away_trees.specs.declared.statements.Function.{Function}
use Rattle.away_typing.specs.Trees.{kind_of}
use Rattle.away_typing.specs.Typing.{Places, framed, inside, typing}
use Rattle.away_typing.specs.Typing as types
use Rattle.away_typing.specs.Wholes.{column_types, over_tables}
use Rattle.away_typing.specs.declared.kind.Kind.{Kind}
use Rattle.away_typing.specs.declared.kind.Kind.TheVariants.{Null, Of}
use Rattle.away_values.specs.declared.types.Ty.{Ty}
use Rattle.away_values.specs.declared.types.Ty.TheVariants as ty
use Rattle.away_values.specs.declared.values.Value.{Value}
use Rattle.plsql_meaning.specs.Equivalent.{types_of}
use Rattle.type_soundness.specs.Arguments.{Supplied, all, params_in, standing}
use Rattle.inline_law.specs.Answers.{Every}
use Rattle.inline_law.specs.Filled.{CallingSelect}

-- An argument of this kind may stand for a parameter of this type: the literal NULL, the type
-- itself, or an integer where a bigint is asked for.
abbrev pub IsArgument : Ty → Kind → Type 0
IsArgument t Null = Unit {0}
IsArgument t (Of u) = (u ≡ t) ⊎ ((u ≡ ty.Integer) × (t ≡ ty.Bigint))
IsArgument t k = ⊥

-- one argument for each type
abbrev pub AreArguments : Places → List Ty → List Expr → Type 0
AreArguments p [] [] = Unit {0}
AreArguments p (t ∷ ts) (e ∷ es) = IsArgument t (kind_of e p) × AreArguments p ts es
AreArguments p ts es = ⊥

-- FROM has columns of these types, where the arguments of each call are of the parameters' types.
-- What fits the query's parameters fits those that stand in FROM and in the arguments.
pub record IsTypedCalling (s : Schema) (f : Function) (params : List (ℕ × Ty))
    (q : CallingSelect) : Type 0 where
  pub columns : types.Frame
  pub framed : framed (over_tables (column_types s))
      (map (λ x. from_of typing x) (out-Select q.select).from) [] ≡ Some columns
  pub kinds : Every (AreArguments (inside columns (over_tables (column_types s))) (types_of f))
      q.calls
  pub of_from : (args : List Value) → Supplied args params
      → Supplied args (all (map (λ x. from_of standing x) (out-Select q.select).from))
  pub of_arguments : (args : List Value) → Supplied args params
      → Every (Every (λ (e : Expr). Supplied args (params_in e))) q.calls
