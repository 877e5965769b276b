-- What lists of trees use, for the contracts of loops.
use Rattle.std.specs.Prelude.{ℕ, Bool, false, List, fold, Option, Some, None}
use Rattle.std.specs.List.{list_any}
use Rattle.away_values.specs.declared.operators.ChainOp.{ChainOp}
use Rattle.away_trees.specs.declared.queries.Expr.{Expr}
use Rattle.away_trees.specs.declared.queries.FromItem.{FromItem}
use Rattle.away_trees.specs.declared.queries.Item.{Item}
use Rattle.away_trees.specs.declared.queries.Key.{Key}
use Rattle.away_trees.specs.declared.queries.Select.{Select}
use Rattle.away_trees.specs.declared.queries.Source.{Source}
use Rattle.away_trees.specs.declared.queries.Query.{Query}
use Rattle.away_trees.specs.declared.queries.Recursive.{Recursive}
use Rattle.away_trees.specs.declared.queries.Expr.TheOpen.{Select-F}
use Rattle.away_trees.specs.declared.queries.Expr.TheViews.{
  out-Item,
  out-Key,
  out-FromItem,
  out-Recursive,
}
use Rattle.away_typing.specs.declared.uses.Uses.{Uses}
use Rattle.away_typing.specs.Aggregates.{unused, either, or_, apart, select_uses, is_some_of}
use Rattle.away_typing.specs.Trees.{
  uses_of,
  uses_of_source,
  uses_of_select,
  names_at,
  source_names_at,
  select_names_at,
}

-- ---- names

abbrev pub any_at : ℕ → List Expr → Bool
any_at level = list_any (λ e. names_at level e)

abbrev pub any_link_at : ℕ → List (ChainOp × Expr) → Bool
any_link_at level = list_any (λ l. names_at level l.1)

abbrev pub any_arm_at : ℕ → List (Expr × Expr) → Bool
any_arm_at level = list_any (λ a. or_ (names_at level a.0) (names_at level a.1))

abbrev pub maybe_at : ℕ → Option Expr → Bool
maybe_at level None = false
maybe_at level (Some e) = names_at level e

abbrev pub any_item_at : ℕ → List Item → Bool
any_item_at level = list_any (λ i. names_at level (out-Item i).expr)

abbrev pub any_key_at : ℕ → List Key → Bool
any_key_at level = list_any (λ k. names_at level (out-Key k).expr)

abbrev pub any_from_at : ℕ → List FromItem → Bool
any_from_at level = list_any (λ f. source_names_at level (out-FromItem f).source)

abbrev pub any_select_at : ℕ → List Select → Bool
any_select_at level = list_any (λ x. select_names_at level x)

-- ---- uses

abbrev pub all_used : List Expr → Uses
all_used = fold (λ u e. either u (uses_of e)) unused

abbrev pub links_used_after : Uses → List (ChainOp × Expr) → Uses
links_used_after = fold (λ u l. either u (uses_of l.1))

abbrev pub links_used : List (ChainOp × Expr) → Uses
links_used = links_used_after unused

abbrev pub arms_used_after : Uses → List (Expr × Expr) → Uses
arms_used_after = fold (λ u a. either u (either (uses_of a.0) (uses_of a.1)))

abbrev pub arms_used : List (Expr × Expr) → Uses
arms_used = arms_used_after unused

abbrev pub maybe_used : Option Expr → Uses
maybe_used None = unused
maybe_used (Some e) = uses_of e

abbrev pub items_used : List Item → Uses
items_used = fold (λ u i. either u (uses_of (out-Item i).expr)) unused

abbrev pub keys_used : List Key → Uses
keys_used = fold (λ u k. either u (uses_of (out-Key k).expr)) unused

abbrev pub from_used : List FromItem → Uses
from_used = fold (λ u f. either u (uses_of_source (out-FromItem f).source)) unused

abbrev pub selects_used : List Select → Uses
selects_used = fold (λ u x. either u (uses_of_select x)) unused

abbrev pub uses_over : Select-F Expr Source FromItem Item Key Query Recursive Select → Uses
uses_over x = select_uses (items_used x.list) (from_used x.from) (maybe_used x.filter) (keys_used x.order)
    (maybe_used x.limit) (is_some_of x.order) (maybe_at 0 x.limit)

-- ---- the terms of a recursive table

abbrev pub with_names_at : ℕ → Option Recursive → Bool
with_names_at level None = false
with_names_at level (Some r) = or_ (any_select_at level (out-Recursive r).first) (select_names_at level (out-Recursive r).second)

abbrev pub with_used : Option Recursive → Uses
with_used None = unused
with_used (Some r) = apart (either (selects_used (out-Recursive r).first) (uses_of_select (out-Recursive r).second))
