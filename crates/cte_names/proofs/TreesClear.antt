-- In the query of a checked function names are unambiguous.
use Rattle.std.proofs.Common.{ap, sym, subst, ◌∙◌, ◌≤◌, List, map, length, get_or}
use Rattle.away_trees.specs.declared.queries.Expr.{Expr}
use Rattle.away_trees.specs.declared.queries.Expr.TheVariants as expr
use Rattle.away_trees.specs.declared.schemas.Schema.{Schema}
use Rattle.away_trees.specs.declared.statements.Function.{Function}
use Rattle.away_trees.specs.Count.{nodes}
use Rattle.away_trees.specs.Limits.{most_nodes}
use Rattle.away_types.specs.CheckedFunctions.{IsChecked}
use Rattle.away_types.specs.declared.slots.Slot.{Slot}
use Rattle.block_forms.specs.Expressions.{expressions}
use Rattle.block_forms.specs.Places.{Each}
use Rattle.elaboration.specs.Erasing.{erased}
use Rattle.sql_meaning.specs.Placed.{placed_at}
use Rattle.sql_meaning.specs.Reads.{slots_of}
use Rattle.qualified_names.specs.Unambiguous.{IsClear, IsClearFile, value}
use Rattle.cte_names.specs.Own.{IsOwn}
use Rattle.cte_template.specs.Making.{Making, making_of}
use Rattle.cte_parts.specs.Names.{row_names}
use Rattle.cte_names.proofs.Entries.{placed_are_clear}
use Rattle.cte_names.proofs.PlainParts.{entry_plain, placed_at_plain, slots_same}
use Rattle.cte_names.proofs.PlainTree.{numbers_plain, tree_plain, trees_plain, without_marks}
use Rattle.cte_names.specs.TreeLaws.{TreeIsClear}
use Rattle.cte_names.proofs.BodiesClear.{TableClears}
use Rattle.cte_names.proofs.BranchesClear.{rows_clear, start_clear}
use Rattle.cte_names.proofs.FilesClear.{beside_working, sees_beside, tree_clear}

-- each expression of the function, without the marks of its operations
pub table_clears : (schema : Schema) (written f : Function) (slots : List Slot) → IsChecked schema written f slots → nodes f ≤ most_nodes → TableClears schema (map erased (expressions f))
table_clears schema written f slots checked few i t s ref sees own =
    let e : Expr = get_or (expressions f) i expr.Null in
    let same = entry_plain (expressions f) i in
    subst (λ x. IsClear value s (placed_at t ref x)) (sym same)
    (subst (λ x. IsClear value s x) (sym (placed_at_plain t ref e))
    (placed_are_clear schema written f slots checked few i t s ref sees (subst (Each (λ k. IsOwn s.levels (ref k))) (ap slots_of same ∙ slots_same e) own)))

pub trees_clear : TreeIsClear
trees_clear schema written f slots g z a r q checked few columned templated fits =
    let m : Making = making_of f slots z a r in
    let n : Making = without_marks m in
    let clears : TableClears schema n.table = table_clears schema written f slots checked few in
    let tables = beside_working schema (row_names (length r.columns)) in
    let sees = sees_beside schema (row_names (length r.columns)) in
    subst (λ q. IsClearFile schema q) (sym (tree_plain m g.entry (length schema.tables)))
    (tree_clear schema n fits.columns g.entry (start_clear schema n clears fits.columns tables sees g.entry)
    (rows_clear schema n clears fits.columns tables sees slots z.names columned.as_many columned.each (trees_plain m templated.trees) (numbers_plain m fits)))
