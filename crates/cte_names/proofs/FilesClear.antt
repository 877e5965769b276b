-- The whole query is clear.
use Rattle.std.proofs.Common.{◌≡◌, refl, ap, sym, ◌∙◌, subst, ℕ, zero, suc, ◌+◌, ◌<◌, ◌≤◌, ◌^◌, Bool, true, false, if◌then◌else◌}
use Rattle.std.proofs.Common.{List, [], ◌∷◌, ◌++◌, map, length, decimal, Option, Some, None, option_map, arith}
use Rattle.std.specs.Prelude.{bytes_eq}
use Rattle.std.proofs.lemmas.Option.{slice_get-map}
use Rattle.std.proofs.lemmas.Slice.Eq.{bytes_eq-Decides}
use Rattle.away_trees.specs.declared.queries.Expr.{Expr}
use Rattle.away_trees.specs.declared.queries.Expr.TheVariants as expr
use Rattle.away_trees.specs.declared.queries.Source.{Source}
use Rattle.away_trees.specs.declared.queries.FromItem.{FromItem}
use Rattle.away_trees.specs.declared.queries.Item.{Item}
use Rattle.away_trees.specs.declared.queries.Key.{Key}
use Rattle.away_trees.specs.declared.queries.Select.{Select}
use Rattle.away_trees.specs.declared.queries.Recursive.{Recursive}
use Rattle.away_trees.specs.declared.queries.Query.{Query}
use Rattle.away_trees.specs.declared.queries.Expr.TheOpen.{Recursive-F, Query-F}
use Rattle.away_trees.specs.declared.queries.Expr.TheViews.{roll-Query, out-roll-Recursive, out-roll-Query}
use Rattle.away_trees.specs.declared.schemas.Schema.{Schema}
use Rattle.away_names.specs.declared.scope.Listed.{Listed}
use Rattle.away_names.specs.declared.scope.Seen.{Seen}
use Rattle.away_names.specs.Lookups.{Name, Level, Scope, inside, table_before, has_double, is_kept}
use Rattle.away_names.specs.Tables.{table_of}
use Rattle.cte_template.specs.Making.{Making}
use Rattle.cte_template.specs.Tree.{start, branches, label_rows, step, last, working_table, tree}
use Rattle.cte_template.specs.Walks.{all_columns}
use Rattle.qualified_names.specs.Unambiguous as c
use Rattle.qualified_names.specs.Unambiguous.{IsClear, value, items, from_item, from_items, maybe, select, selects, AreClear, IsClearFile}
use Rattle.qualified_names.specs.Trees.{qualified_part, qualified_from}
use Rattle.sql_meaning.specs.Template.{count_from}
use Rattle.sql_meaning.specs.Trees.{col, item}
use Rattle.cte_parts.specs.Names.{table_name, step_name, go_name, label_name, result_name, fault_name, value_names, row_names, alias_name}
use Rattle.cte_parts.specs.Trees.{working}
use Rattle.cte_names.specs.Own.{SeesTables}
use Rattle.cte_names.proofs.BranchesClear.{under, row_of, row_own}
use Rattle.cte_names.proofs.Differences.{AllApart, no_double, own_place}
use Rattle.cte_names.proofs.ItemsSeen.{seen_as, lateral_seen, working_seen}
use Rattle.cte_names.proofs.OwnColumns.{Older, Own, column_clear, own_beside, own_last}
use Rattle.cte_names.proofs.OwnNames.{letter_apart, table_kept, step_kept, row_apart, column_there}
use Rattle.cte_names.proofs.SmallParts.{Clears, list_clear}

abbrev QueryFields : Type 0
QueryFields = Query-F Expr Source FromItem Item Key Query Recursive Select

abbrev pub Fields : Type 0
Fields = Recursive-F Expr Source FromItem Item Key Query Recursive Select

-- what the names of tables stand for beside the recursive one
abbrev pub beside_working : Schema → List Name → Name → Option Listed
beside_working schema columns =
    table_before (Some (record { name = table_name; table = record { written = decimal (length schema.tables) ∷ columns; recursive = true } }))
    (table_of schema)

-- the kept name hides no table of the function's
pub sees_beside : (schema : Schema) (columns : List Name) → SeesTables schema (under schema (beside_working schema columns))
sees_beside schema columns = record { tables = λ n free. by n free (bytes_eq n table_name) refl }
  where
    by : (n : Name) → is_kept n ≡ false → (b : Bool) → bytes_eq n table_name ≡ b → beside_working schema columns n ≡ table_of schema n
    by n free true e =
        let same : n ≡ table_name = (bytes_eq-Decides n table_name).0 e in
        let kept : is_kept n ≡ true = ap is_kept same ∙ table_kept in
        absurd (cc)
    by n free false e =
        ap (λ b. if b then Some (record { written = decimal (length schema.tables) ∷ columns; recursive = true }) else table_of schema n) e

module _ (schema : Schema) (m : Making) (narrow : length m.tail.columns < 2 ^ 64) where
  abbrev width : ℕ
  width = length m.tail.columns

  abbrev tables : ℕ
  tables = length schema.tables

  abbrev outside : Scope
  outside = under schema (beside_working schema (row_names width))

  step_older : (k : ℕ) → Older k step_name
  step_older k j le fits = letter_apart step_name (alias_name j) refl

  -- ---- items

  pub working_clear : (level : Level) → IsClear (from_item level) outside (working tables width)
  working_clear level = c.table table_name table_name (decimal tables ∷ row_names width) true refl

  abbrev pub rows_seen : Seen
  rows_seen = seen_as step_name (row_names width)

  abbrev pub both : Level
  both = row_of width ∷ rows_seen ∷ []

  -- a column of the labels' rows
  pub rows_own : (i : ℕ) → i < suc (suc (suc (suc width))) → Own 1 (both ∷ []) (record { level = 0; item = 1; column = i })
  rows_own i lt =
      let there = column_there width i lt in
      own_last 1 (row_of width ∷ []) [] rows_seen there.name i step_kept there.kept (step_older 1) (letter_apart step_name table_name refl, tt)
      (slice_get-map (λ n. Some n) (row_names width) i ∙ ap (λ o. option_map (λ n. Some n) o) there.there)
      (own_place (row_names width) i there.name (row_apart width narrow) there.there)

  abbrev rest : List Name
  rest = label_name ∷ value_names width ++ (result_name ∷ fault_name ∷ [])

  pub seen_both : (qualified_from [] (working tables width ∷ label_rows m ∷ [])).seen ≡ both
  seen_both =
      let first : Seen = (qualified_part (working tables width) [] []).seen in
      λ i. working_seen tables width [] [] i
      ∷ (lateral_seen step_name go_name rest (roll-Query (record { recursive = None; selects = branches m 0 m.tail.labels })) [] (first ∷ []) i ∷ [])

  -- ---- the step

  -- what stands over its items is clear whatever tables may be named
  module _ (any : Name → Option Listed) where
    abbrev above : Scope
    above = inside both (under schema any)

    columns_from : (i n : ℕ) → i + n ≤ suc (suc (suc (suc width))) → Clears above (map (col 0 1) (count_from i n))
    columns_from i zero le = tt
    columns_from i (suc n) le =
        (column_clear 1 above (record { level = 0; item = 1; column = i }) (rows_own i (omega (arith, le))), columns_from (suc i) n (omega (arith, le)))

    go_clear : IsClear value above (col 0 0 0)
    unfolding row_own own_last
    go_clear =
        column_clear 1 above (record { level = 0; item = 0; column = 0 })
        (own_beside 1 (row_of width ∷ []) [] rows_seen (record { level = 0; item = 0; column = 0 }) (row_own 1 width 0 narrow (omega arith))
        (letter_apart table_name step_name refl))

    behind_both : (P : Scope → Type 0) → P above → P (inside (qualified_from [] (working tables width ∷ label_rows m ∷ [])).seen (under schema any))
    behind_both P h = subst (λ l. P (inside l (under schema any))) (sym seen_both) h

    pub step_list : IsClear items (inside (qualified_from [] (working tables width ∷ label_rows m ∷ [])).seen (under schema any)) (map item (all_columns m 1))
    step_list =
        behind_both (λ s. IsClear items s (map item (all_columns m 1)))
        (list_clear above (all_columns m 1) (columns_from 0 (suc (suc (suc (suc width)))) (omega arith)))

    pub step_filter : IsClear maybe (inside (qualified_from [] (working tables width ∷ label_rows m ∷ [])).seen (under schema any)) (Some (col 0 0 0))
    step_filter = behind_both (λ s. IsClear maybe s (Some (col 0 0 0))) (c.something go_clear)

  pub step_from : IsClear (from_item (row_of width ∷ [])) outside (label_rows m) → IsClear (from_items []) outside (working tables width ∷ label_rows m ∷ [])
  step_from rows =
      c.one_from (working_clear [])
      (subst (λ o. IsClear (from_items (o ∷ [])) outside (label_rows m ∷ [])) (sym (working_seen tables width [] [])) (c.one_from rows c.no_from))

  step_clear : IsClear (from_item (row_of width ∷ [])) outside (label_rows m) → IsClear select outside (step m tables)
  step_clear rows =
      let differ : AllApart (table_name ∷ step_name ∷ []) = ((letter_apart table_name step_name refl, tt), (tt, tt)) in
      let any : Name → Option Listed = beside_working schema (row_names width) in
      c.whole (no_double (table_name ∷ step_name ∷ []) differ) (step_from rows) (step_list any) (step_filter any) c.no_key c.nothing

  -- ---- the finished row

  abbrev alone : Level
  alone = row_of width ∷ []

  row_clear : (i : ℕ) → i < suc (suc (suc (suc width))) → IsClear value (inside alone outside) (col 0 0 i)
  row_clear i lt = column_clear 1 (inside alone outside) (record { level = 0; item = 0; column = i }) (row_own 1 width i narrow lt)

  behind_one : (P : Scope → Type 0) → P (inside alone outside) → P (inside (qualified_from [] (working tables width ∷ [])).seen outside)
  behind_one P h = subst (λ o. P (inside (o ∷ []) outside)) (sym (working_seen tables width [] [])) h

  last_clear : IsClear select outside (last m tables)
  last_clear =
      let list : List Expr = col 0 0 (suc (suc width)) ∷ col 0 0 (suc (suc (suc width))) ∷ [] in
      c.whole (no_double (table_name ∷ []) (tt, tt)) (c.one_from (working_clear []) c.no_from)
      (behind_one (λ s. IsClear items s (map item list))
      (list_clear (inside alone outside) list (row_clear (suc (suc width)) (omega arith), (row_clear (suc (suc (suc width))) (omega arith), tt))))
      (behind_one (λ s. IsClear maybe s (Some (expr.Not (col 0 0 0)))) (c.something (c.not (row_clear 0 (omega arith))))) c.no_key c.nothing

  -- ---- the whole

  -- the terms of a recursive table and what stands behind it, by the table's fields
  abbrev ClearBehind : Fields → List Select → Type 0
  ClearBehind o xs =
      let s : Scope = under schema (table_before
      (Some (record { name = o.name; table = record { written = decimal (length schema.tables) ∷ o.columns; recursive = true } })) (table_of schema)) in
      (has_double o.columns ≡ false) × IsClear selects s o.first × IsClear select s o.second × IsClear selects s xs

  pub tree_clear : (entry : ℕ) → IsClear select outside (start m entry) → IsClear (from_item (row_of width ∷ [])) outside (label_rows m)
      → IsClearFile schema (tree m entry tables)
  tree_clear entry first rows =
      let o : Fields = record { name = table_name; columns = row_names width; first = start m entry ∷ []; second = step m tables } in
      let x : QueryFields = record { recursive = Some (working_table m entry tables); selects = last m tables ∷ [] } in
      let behind : ClearBehind o (last m tables ∷ []) =
      (no_double (row_names width) (row_apart width narrow), c.one_select first c.no_select, step_clear rows, c.one_select last_clear c.no_select) in
      subst (λ (x : QueryFields). AreClear schema x.recursive x.selects) (sym (out-roll-Query x))
      (subst (λ (o : Fields). ClearBehind o (last m tables ∷ [])) (sym (out-roll-Recursive o)) behind)
