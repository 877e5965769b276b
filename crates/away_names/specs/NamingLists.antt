-- Names in lists of trees, for the contracts of loops.
use Rattle.std.specs.Prelude.{List, map, fold, Option}
use Rattle.away_values.specs.declared.operators.ChainOp.{ChainOp}
use Rattle.away_trees.specs.declared.queries.Expr.{Expr}
use Rattle.away_trees.specs.declared.queries.FromItem.{FromItem}
use Rattle.away_trees.specs.declared.queries.Item.{Item}
use Rattle.away_trees.specs.declared.queries.Key.{Key}
use Rattle.away_trees.specs.declared.queries.Select.{Select}
use Rattle.away_trees.specs.declared.queries.Expr.TheOpen.{Select-F}
use Rattle.away_trees.specs.declared.queries.Expr.TheViews.{out-Item}
use Rattle.away_trees.specs.declared.queries.Source.{Source}
use Rattle.away_trees.specs.declared.queries.Query.{Query}
use Rattle.away_trees.specs.declared.queries.Recursive.{Recursive}
use Rattle.away_names.specs.declared.note.Noted.{Noted}
use Rattle.away_names.specs.declared.note.Shown.{Shown}
use Rattle.away_names.specs.declared.note.Framed.{Framed}
use Rattle.away_names.specs.Notes.{mapped, paired, each, held}
use Rattle.away_names.specs.Lookups.{Name, Scope}
use Rattle.away_names.specs.Naming.{
  with_item,
  no_item,
  with_select,
  no_select,
  with_part,
  no_part,
  select_of,
}
use Rattle.away_names.specs.Trees.{named_expr, named_item, named_key, named_part, named_select}

abbrev pub named_in : Scope → Expr → Noted Expr
named_in s e = named_expr e s

abbrev pub named_link : Scope → ChainOp × Expr → Noted (ChainOp × Expr)
named_link s l = mapped (λ e. (l.0, e)) (named_expr l.1 s)

abbrev pub named_arm : Scope → Expr × Expr → Noted (Expr × Expr)
named_arm s a = paired (λ x y. (x, y)) (named_expr a.0 s) (named_expr a.1 s)

abbrev pub named_key_in : List (Option Name) → Scope → Key → Noted Key
named_key_in aliases s k = named_key k aliases s

abbrev pub named_items : Scope → List Item → Noted (Shown (List Item))
named_items s = fold (λ a i. with_item a (named_item i s)) no_item

abbrev pub named_selects : Scope → List Select → Noted (Shown (List Select))
named_selects s = fold (λ a x. with_select a (named_select x s)) no_select

abbrev pub named_from : Scope → List FromItem → Noted Framed
named_from s = fold (λ a f. with_part a (named_part f s a.it.seen)) no_part

-- what stands over the items of FROM, in a scope that has these
abbrev pub named_over : Select-F Expr Source FromItem Item Key Query Recursive Select → Scope → List FromItem → Noted (Shown Select)
named_over x s from =
    select_of from (named_items s x.list) (held (named_in s) x.filter) (each (named_key_in (map (λ i. (out-Item i).alias) x.list) s) x.order)
    (held (named_in s) x.limit)
