-- The select of a SELECT INTO without the marks of its items is that of the select before its items were marked; and its literal NULLs have the types that
-- those of the select have.
use Rattle.std.proofs.Common.{◌≡◌, refl, ap, ◌∙◌, ℕ, List, [], ◌∷◌, drop, Option, Some, None}
use Rattle.away_values.specs.declared.types.Ty.{Ty}
use Rattle.away_trees.specs.declared.queries.Expr.{Expr}
use Rattle.away_trees.specs.declared.queries.Source.{Source}
use Rattle.away_trees.specs.declared.queries.FromItem.{FromItem}
use Rattle.away_trees.specs.declared.queries.Item.{Item}
use Rattle.away_trees.specs.declared.queries.Key.{Key}
use Rattle.away_trees.specs.declared.queries.Select.{Select}
use Rattle.away_trees.specs.declared.queries.Recursive.{Recursive}
use Rattle.away_trees.specs.declared.queries.Query.{Query}
use Rattle.away_trees.specs.declared.queries.Expr.TheOpen.{Item-F, Select-F}
use Rattle.away_trees.specs.declared.queries.Expr.TheViews.{out-Item, out-Select, roll-Item, roll-Select, out-roll-Item, out-roll-Select}
use Rattle.away_typing.specs.declared.kind.Kind.{Kind}
use Rattle.elaboration.specs.Elaborating.{MadeSelect, elaborated_select}
use Rattle.elaboration.specs.Converting.{Around, Target, first_mark, into_converted, items_marked, select_marked}
use Rattle.select_into.specs.Entries.{unmarked}
use Rattle.select_into.specs.Wrapped.{item_as, items_as, picked, typed}

abbrev Fields : Type 0
Fields = Select-F Expr Source FromItem Item Key Query Recursive Select

abbrev ItemFields : Type 0
ItemFields = Item-F Expr Source FromItem Item Key Query Recursive Select

-- ---- items

-- an alias shows no more
bare : (t : Option Ty) (x : Expr) (alias : Option (List ℕ)) → item_as t (roll-Item (record { expr = x; alias = alias })) ≡ roll-Item (record { expr = typed t x; alias = None })
bare t x alias = ap (λ (f : ItemFields). roll-Item (record { expr = typed t f.expr; alias = None })) (out-roll-Item (record { expr = x; alias = alias }))

items_unmarked : (a : Around) (ts : List Target) (ks : List Kind) (is : List Item) → items_as [] (items_marked a ts ks is) ≡ items_as [] is
items_unmarked a ts ks [] = refl
items_unmarked a ts ks (i ∷ is) =
    λ j. bare None (out-Item i).expr (first_mark a ts ks) j ∷ items_unmarked a (drop 1 ts) (drop 1 ks) is j

items_again : (types : List Ty) (is : List Item) → items_as types (items_as [] is) ≡ items_as types is
items_again types [] = refl
items_again [] (i ∷ is) = λ j. bare None (out-Item i).expr None j ∷ items_again [] is j
items_again (t ∷ types) (i ∷ is) = λ j. bare (Some t) (out-Item i).expr None j ∷ items_again types is j

-- ---- selects

relisted : (types : List Ty) (q : Select) (list : List Item)
    → picked types (roll-Select (record (out-Select q) { list = list })) ≡ roll-Select (record (out-Select q) { list = items_as types list })
relisted types q list = ap (λ (f : Fields). roll-Select (record f { list = items_as types f.list })) (out-roll-Select (record (out-Select q) { list = list }))

pub picked_again : (types : List Ty) (q : Select) → picked types (unmarked q) ≡ picked types q
picked_again types q =
    relisted types q (items_as [] (out-Select q).list) ∙ ap (λ list. roll-Select (record (out-Select q) { list = list })) (items_again types (out-Select q).list)

made_unmarked : (a : Around) (ts : List Target) (o : Option (List Kind)) (q : Select) → unmarked (select_marked a ts (record { kinds = o; it = q })) ≡ unmarked q
made_unmarked a ts None q = refl
made_unmarked a ts (Some ks) q =
    relisted [] q (items_marked a ts ks (out-Select q).list) ∙ ap (λ list. roll-Select (record (out-Select q) { list = list })) (items_unmarked a ts ks (out-Select q).list)

pub into_unmarked : (a : Around) (ts : List Target) (q : Select) → unmarked (into_converted a ts q) ≡ unmarked (elaborated_select a.places q).it
unfolding into_converted
into_unmarked a ts q = let m : MadeSelect = elaborated_select a.places q in made_unmarked a ts m.kinds m.it
