use Rattle.std.proofs.Common.{◌≡◌, ap, ℕ, ◌≤◌, true, List, [], ◌++◌}
use Rattle.away_trees.specs.declared.queries.Col.{Col}
use Rattle.away_trees.specs.declared.queries.Expr.{Expr}
use Rattle.away_typing.specs.declared.kind.Kind.TheVariants.{Of}
use Rattle.away_typing.specs.declared.params.Params.{Params}
use Rattle.away_typing.specs.Kinds.{fits}
use Rattle.away_typing.specs.ParameterLists.{with_expr}
use Rattle.away_typing.specs.Trees.{kind_of, uses_of}
use Rattle.away_typing.specs.Typing.{Frame}
use Rattle.away_values.specs.declared.types.Ty.{Ty}
use Rattle.sql_meaning.specs.Placed.{placed_at}
use Rattle.sql_meaning.specs.Reads.{slots_of}
use Rattle.cte_types.specs.TreeLaws.{HaveTypesOfSlots}
use Rattle.cte_types.specs.Linked.{IsLinked}
use Rattle.cte_types.proofs.PlacedKinds.{kind_at_place, uses_at_place, params_at_place}
use Rattle.cte_types.proofs.SlotsRead.{has_place}
use Rattle.cte_types.proofs.trees.placing_keeps_types.Goals as goal

kinds : (e : Expr) (t : Ty) (ref : ℕ → Col) (slots : List Ty) (frames : List Frame) (tables more : List (List Ty)) → IsLinked e
    → HaveTypesOfSlots frames ref slots e
    → fits t (kind_of e (record { slots = slots; frames = []; tables = tables })) ≡ true
    → kind_of (placed_at t ref e) (record { slots = []; frames = frames; tables = tables ++ more }) ≡ Of t
unfolding kind_of
kinds e t ref slots frames tables more linked types f =
    kind_at_place e ref slots frames tables more t (λ i w. let at = has_place (slots_of e) i w in types.each at.place i at.there) linked f

uses : (e : Expr) (t : Ty) (ref : ℕ → Col) → ((i : ℕ) → 1 ≤ (ref i).level) → uses_of (placed_at t ref e) ≡ uses_of e
unfolding uses_of
uses e t ref outer = uses_at_place e ref t outer

parameters : (e : Expr) (t : Ty) (ref : ℕ → Col) (p : Params) → with_expr p (placed_at t ref e) ≡ with_expr p e
unfolding with_expr
parameters e t ref p = ap (λ f. f p) (params_at_place e ref t)

pub returns : goal.returns
returns c = record { kinds = kinds; uses = uses; parameters = parameters }
