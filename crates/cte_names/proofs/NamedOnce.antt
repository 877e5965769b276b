-- How often the terms of a checked function's query name the recursive table.
use Rattle.std.proofs.Common.{◌≡◌, refl, ap, sym, ◌∙◌, ℕ, ◌<◌, ◌^◌, List, [], ◌∷◌, map, length, Option, Some, None}
use Rattle.away_trees.specs.declared.queries.FromItem.{FromItem}
use Rattle.away_trees.specs.declared.queries.Query.{Query}
use Rattle.away_trees.specs.declared.schemas.Schema.{Schema}
use Rattle.away_names.specs.declared.note.File.{File}
use Rattle.away_names.specs.declared.note.Framed.{Framed}
use Rattle.away_names.specs.declared.note.Noted.{Noted}
use Rattle.away_names.specs.declared.note.Part.{Part}
use Rattle.away_names.specs.declared.note.Shown.{Shown}
use Rattle.away_names.specs.Files.{file}
use Rattle.away_names.specs.declared.note.Times.TheVariants.{Never, Once}
use Rattle.away_names.specs.declared.scope.Listed.{Listed}
use Rattle.away_names.specs.Lookups.{Name, Scope, inside}
use Rattle.away_names.specs.NamingLists.{named_from, named_selects}
use Rattle.away_names.specs.Notes.{clean, joined, summed}
use Rattle.away_names.specs.Trees.{named_part, named_select}
use Rattle.cte_template.specs.Making.{Making, making_of}
use Rattle.cte_template.specs.Tree.{start, label_rows, step, last, tree}
use Rattle.cte_template.specs.Walks.{all_columns}
use Rattle.elaboration_law.proofs.Dotted.{same_shown}
use Rattle.qualified_names.specs.Trees.{qualified, qualified_part, qualified_from, qualified_select, qualified_selects}
use Rattle.qualified_names.specs.Unambiguous.{IsClear, from_item, select}
use Rattle.qualified_names.proofs.BackQueries.{BackPart, BackFrom, from_is}
use Rattle.qualified_names.proofs.ClearBack.{back}
use Rattle.sql_meaning.specs.Trees.{col, item}
use Rattle.cte_parts.specs.Names.{table_name, row_names}
use Rattle.cte_parts.specs.Trees.{working}
use Rattle.cte_names.specs.TreeLaws.{TableIsNamedOnce, NamesTableOnce}
use Rattle.cte_names.proofs.BodiesClear.{TableClears}
use Rattle.cte_names.proofs.BranchesClear.{under, row_of, rows_clear, start_clear}
use Rattle.cte_names.proofs.FilesClear.{Fields, beside_working, working_clear, step_from, step_list, step_filter}
use Rattle.cte_names.proofs.ItemsSeen.{working_seen}
use Rattle.cte_names.proofs.PlainTree.{numbers_plain, tree_plain, trees_plain, without_marks}
use Rattle.cte_names.proofs.SilentQueries.{SilentPart, SilentOver, select_refers, selects_silent}
use Rattle.cte_names.proofs.SilentTrees.{none_named, widened}
use Rattle.cte_names.proofs.TableNamed.{plain_tables, sees_plain, extends_plain, working_refers, terms_of_file}
use Rattle.cte_names.proofs.TreesClear.{table_clears}

module _ (schema : Schema) (m : Making) (narrow : length m.tail.columns < 2 ^ 64) where
  abbrev width : ℕ
  width = length m.tail.columns

  abbrev tables : ℕ
  tables = length schema.tables

  abbrev plain : Scope
  plain = under schema (plain_tables schema)

  abbrev many : Name → Option Listed
  many = beside_working schema (row_names width)

  abbrev outside : Scope
  outside = under schema many

  abbrev from : List FromItem
  from = working tables width ∷ label_rows m ∷ []

  module _ (rows : IsClear (from_item (row_of width ∷ [])) plain (label_rows m)) where
    -- what is clear over the schema's tables alone is clear beside the recursive one, and doesn't name it
    rows_beside : IsClear (from_item (row_of width ∷ [])) outside (label_rows m)
    rows_beside = widened many (extends_plain schema (row_names width)) rows

    rows_silent : SilentPart outside (row_of width ∷ []) (label_rows m)
    rows_silent = none_named many (extends_plain schema (row_names width)) refl rows

    from_back : BackFrom outside [] from
    from_back = back refl (step_from schema m narrow rows_beside)

    working_back : BackPart outside [] (working tables width)
    working_back = back refl (working_clear schema m narrow [])

    over : SilentOver (inside (qualified_from [] from).seen outside) (map item (all_columns m 1)) (Some (col 0 0 0)) None []
    over = record {
      list_is = none_named many (extends_plain schema (row_names width)) refl (step_list schema m narrow (plain_tables schema));
      filter_is = none_named many (extends_plain schema (row_names width)) refl (step_filter schema m narrow (plain_tables schema));
      order_is = tt;
      limit_is = tt;
    }

    -- the working table and the rows of the labels
    from_refers : (named_from outside (qualified_from [] from).items).note.refers ≡ Once
    unfolding clean joined summed
    from_refers =
        let p : Part = qualified_part (working tables width) [] [] in
        let q : Noted Part = named_part p.item outside [] in
        let seen : q.it.seen ≡ row_of width = working_back.seen ∙ working_seen tables width [] [] in
        let here : p.seen ≡ row_of width = working_seen tables width [] [] in
        ap (λ (a : Framed). (named_from outside a.items).note.refers) (from_is [] from)
        ∙ (λ i. summed (working_refers schema width [] i)
        ((ap (λ o. (named_part (qualified_part (label_rows m) [] (p.seen ∷ [])).item outside (o ∷ [])).note.refers) seen
        ∙ (ap (λ o. (named_part (qualified_part (label_rows m) [] (o ∷ [])).item outside (row_of width ∷ [])).note.refers) here ∙ rows_silent)) i))

    second_once : (named_select (qualified_select (step m tables) []).it outside).note.refers ≡ Once
    second_once = select_refers outside (map item (all_columns m 1)) from (Some (col 0 0 0)) None [] from_back over ∙ from_refers

  first_never : (entry : ℕ) → IsClear select plain (start m entry) → (named_selects outside (qualified_selects [] (start m entry ∷ [])).it).note.refers ≡ Never
  first_never entry first = selects_silent outside (start m entry ∷ []) (none_named many (extends_plain schema (row_names width)) refl first, tt)

  named_once : (entry : ℕ) → IsClear select plain (start m entry) → IsClear (from_item (row_of width ∷ [])) plain (label_rows m)
      → NamesTableOnce schema (tree m entry tables)
  named_once entry first rows =
      let o : Fields = record { name = table_name; columns = row_names width; first = start m entry ∷ []; second = step m tables } in
      record {
        first = terms_of_file schema (λ (f : File). f.first.refers) o (last m tables ∷ []) ∙ first_never entry first;
        second = terms_of_file schema (λ (f : File). f.second.refers) o (last m tables ∷ []) ∙ second_once rows;
      }

-- with names again a query has no marks
without : (schema : Schema) (q p : Query) → qualified p ≡ qualified q → NamesTableOnce schema p → NamesTableOnce schema q
without schema q p same h = record {
  first = ap (λ x. (file schema x).first.refers) (sym same) ∙ h.first;
  second = ap (λ x. (file schema x).second.refers) (sym same) ∙ h.second;
}

pub table_named_once : TableIsNamedOnce
table_named_once schema written f slots g z a r q checked few columned templated fits =
    let m : Making = making_of f slots z a r in
    let n : Making = without_marks m in
    let clears : TableClears schema n.table = table_clears schema written f slots checked few in
    let x : Query = tree m g.entry (length schema.tables) in
    let p : Query = tree n g.entry (length schema.tables) in
    without schema x p (ap (λ q. qualified q) (sym (tree_plain m g.entry (length schema.tables))) ∙ ap (λ (y : Shown Query). y.it) (ap (λ y. y []) (same_shown x)))
    (named_once schema n fits.columns g.entry (start_clear schema n clears fits.columns (plain_tables schema) (sees_plain schema) g.entry)
    (rows_clear schema n clears fits.columns (plain_tables schema) (sees_plain schema) slots z.names columned.as_many columned.each (trees_plain m templated.trees) (numbers_plain m fits)))
