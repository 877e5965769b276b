use Rattle.std.proofs.Common.{◌≡◌, List, Some, Ok}
use Rattle.away_trees.specs.declared.queries.Query.{Query}
use Rattle.away_values.specs.declared.types.Ty.{Ty}
use Rattle.away_typing.specs.Trees.{shape_of_query}
use Rattle.away_typing.specs.Typing.{Places}
use Rattle.sql_meaning.specs.Context.{Context, Rows}
use Rattle.sql_meaning.specs.Meaning.{rows_of_query}
use Rattle.type_soundness.specs.Arguments.{Supplied, params_in_query}
use Rattle.type_soundness.specs.Surroundings.{AreRows, Fit}
use Rattle.type_soundness.proofs.Trees.{query_holds}
use Rattle.type_soundness.proofs.values.rows_have_their_types.Goals as goal

typed : (q : Query) (p : Places) (cx : Context) (ts : List Ty) (rows : Rows) → Fit p cx → Supplied cx.args (params_in_query q) → shape_of_query q p ≡ Some ts → rows_of_query q cx ≡ Ok rows → AreRows ts rows
unfolding shape_of_query
typed q p cx ts rows f s k h = query_holds q p cx f s ts k rows h

pub returns : goal.returns
returns c = typed
