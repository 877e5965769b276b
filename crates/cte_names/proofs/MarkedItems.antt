-- A select of SELECT INTO whose items are marked has the picks of the select without these marks.
use Rattle.std.proofs.Common.{◌≡◌, refl, ap, ◌∙◌, ℕ, List, [], ◌∷◌, drop, Option, Some, None}
use Rattle.away_values.specs.declared.types.Ty.{Ty}
use Rattle.away_trees.specs.declared.queries.Expr.{Expr}
use Rattle.away_trees.specs.declared.queries.Expr.TheOpen.{Select-F}
use Rattle.away_trees.specs.declared.queries.Expr.TheViews.{out-Item, out-Select, roll-Item, roll-Select, out-roll-Item, out-roll-Select}
use Rattle.away_trees.specs.declared.queries.FromItem.{FromItem}
use Rattle.away_trees.specs.declared.queries.Item.{Item}
use Rattle.away_trees.specs.declared.queries.Key.{Key}
use Rattle.away_trees.specs.declared.queries.Query.{Query}
use Rattle.away_trees.specs.declared.queries.Recursive.{Recursive}
use Rattle.away_trees.specs.declared.queries.Select.{Select}
use Rattle.away_trees.specs.declared.queries.Source.{Source}
use Rattle.away_typing.specs.declared.kind.Kind.{Kind}
use Rattle.elaboration.specs.Converting.{Around, Target, first_mark, into_converted, items_marked, select_marked, with_alias, with_list}
use Rattle.elaboration.specs.Elaborating.{elaborated_select}
use Rattle.select_into.specs.Wrapped.{typed, item_as, items_as, picked}

abbrev Fields : Type 0
Fields = Select-F Expr Source FromItem Item Key Query Recursive Select

item_unmarked : (o : Option Ty) (alias : Option (List ℕ)) (i : Item) → item_as o (with_alias alias i) ≡ item_as o i
item_unmarked o alias i = ap (λ x. roll-Item (record { expr = typed o x.expr; alias = None })) (out-roll-Item (record { expr = (out-Item i).expr; alias = alias }))

items_unmarked : (types : List Ty) (a : Around) (ts : List Target) (ks : List Kind) (is : List Item) → items_as types (items_marked a ts ks is) ≡ items_as types is
items_unmarked types a ts ks [] = refl
items_unmarked [] a ts ks (i ∷ is) = λ j. item_unmarked None (first_mark a ts ks) i j ∷ items_unmarked [] a (drop 1 ts) (drop 1 ks) is j
items_unmarked (t ∷ types) a ts ks (i ∷ is) = λ j. item_unmarked (Some t) (first_mark a ts ks) i j ∷ items_unmarked types a (drop 1 ts) (drop 1 ks) is j

-- with another list, whose picks are the same
list_unmarked : (types : List Ty) (list : List Item) (q : Select) → items_as types list ≡ items_as types (out-Select q).list → picked types (with_list list q) ≡ picked types q
list_unmarked types list q e =
    ap (λ (f : Fields). roll-Select (record f { list = items_as types f.list })) (out-roll-Select (record (out-Select q) { list = list }))
    ∙ ap (λ xs. roll-Select (record (out-Select q) { list = xs })) e

select_unmarked : (types : List Ty) (a : Around) (ts : List Target) (o : Option (List Kind)) (q : Select) → picked types (select_marked a ts (record { kinds = o; it = q })) ≡ picked types q
select_unmarked types a ts None q = refl
select_unmarked types a ts (Some ks) q = list_unmarked types (items_marked a ts ks (out-Select q).list) q (items_unmarked types a ts ks (out-Select q).list)

pub picked_unmarked : (types : List Ty) (a : Around) (ts : List Target) (q : Select) → picked types (into_converted a ts q) ≡ picked types (elaborated_select a.places q).it
unfolding into_converted
picked_unmarked types a ts q = select_unmarked types a ts (elaborated_select a.places q).kinds (elaborated_select a.places q).it
