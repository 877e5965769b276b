use Rattle.std.proofs.Common.{◌≡◌, subst, Ok}
use Rattle.away_trees.specs.declared.queries.Expr.{Expr}
use Rattle.away_values.specs.declared.types.Ty.{Ty}
use Rattle.away_values.specs.declared.values.Value.{Value}
use Rattle.away_typing.specs.declared.kind.Kind.TheVariants.{Of}
use Rattle.away_typing.specs.Trees.{kind_of}
use Rattle.away_typing.specs.Typing.{Places}
use Rattle.sql_meaning.specs.Context.{Context}
use Rattle.sql_meaning.specs.Meaning.{value}
use Rattle.type_soundness.specs.Arguments.{Supplied, params_in}
use Rattle.type_soundness.specs.Sorts.{IsOf}
use Rattle.type_soundness.specs.Surroundings.{Fit}
use Rattle.type_soundness.specs.TypedValues.{Holds}
use Rattle.type_soundness.proofs.Trees.{expr_holds}
use Rattle.type_soundness.proofs.values.a_value_has_its_type.Goals as goal

typed : (e : Expr) (p : Places) (cx : Context) (t : Ty) (v : Value) → Fit p cx → Supplied cx.args (params_in e) → kind_of e p ≡ Of t → value e cx ≡ Ok v → IsOf t v
unfolding kind_of
typed e p cx t v f s k h = subst (λ x. Holds x v) k (expr_holds e p cx f s v h)

pub returns : goal.returns
returns c = typed
