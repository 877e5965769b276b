-- The whole query can be derived.
use Rattle.std.proofs.Common.{◌≡◌, refl, ap, sym, ◌∙◌, subst, ℕ, suc, ◌<◌, ◌^◌, true, pos, List, [], ◌∷◌, ◌++◌, length, Some, None, option_map, arith}
use Rattle.std.specs.Prelude.{slice_get}
use Rattle.away_grammar.specs.Grammar.{from_item, recursive, file}
use Rattle.away_trees.specs.declared.queries.Expr.{Expr}
use Rattle.away_trees.specs.declared.queries.Expr.TheVariants as expr
use Rattle.away_trees.specs.declared.queries.Source.{Source}
use Rattle.away_trees.specs.declared.queries.FromItem.{FromItem}
use Rattle.away_trees.specs.declared.queries.Item.{Item}
use Rattle.away_trees.specs.declared.queries.Key.{Key}
use Rattle.away_trees.specs.declared.queries.Query.{Query}
use Rattle.away_trees.specs.declared.queries.Recursive.{Recursive}
use Rattle.away_trees.specs.declared.queries.Select.{Select}
use Rattle.away_trees.specs.declared.queries.Expr.TheOpen.{Recursive-F, Query-F}
use Rattle.away_trees.specs.declared.queries.Expr.TheViews.{roll-Query, roll-Recursive, out-roll-Recursive, out-roll-Query}
use Rattle.away_trees.specs.declared.schemas.Schema.{Schema}
use Rattle.away_values.specs.declared.types.Ty.{Ty}
use Rattle.away_values.specs.declared.types.Ty.TheVariants as ty
use Rattle.away_names.specs.declared.note.Shown.{Shown}
use Rattle.away_names.specs.Lookups.{Level}
use Rattle.call_forms.specs.Called.{Among}
use Rattle.call_forms.specs.Forms.{params_of}
use Rattle.call_forms.specs.Template.{entry_place}
use Rattle.cte_template.specs.Making.{Making}
use Rattle.cte_template.specs.Places.{beside}
use Rattle.cte_template.specs.Tree.{start, label_rows, step, last, working_table, tree}
use Rattle.cte_template.specs.Walks.{keys_of, argument, arguments_at, all_columns}
use Rattle.qualified_names.specs.Qualifying as dot
use Rattle.qualified_names.specs.Trees.{qualified, qualified_part, qualified_recursive, qualified_select, qualified_selects}
use Rattle.qualified_names.proofs.QualifyingRules as d
use Rattle.qualified_names.proofs.Gives.{Every}
use Rattle.sql_meaning.specs.Trees.{col, truth, number, null_of}
use Rattle.cte_parts.specs.Names.{table_name, step_name, go_name, label_name, result_name, fault_name, value_names, row_names}
use Rattle.cte_parts.specs.Trees.{working}
use Rattle.cte_names.proofs.BranchesClear.{row_of, row_own}
use Rattle.cte_names.proofs.Differences.{every_both}
use Rattle.cte_names.proofs.FilesClear as clear
use Rattle.cte_names.proofs.ItemsSeen.{working_seen}
use Rattle.cte_names.proofs.OwnColumns.{Own, own_beside, own_last}
use Rattle.cte_names.proofs.OwnNames.{letter_apart}
use Rattle.cte_names.proofs.PassedNames.{beside_holds}
use Rattle.cte_prints.specs.Derivable.{Derivable}
use Rattle.cte_prints.specs.InSight.{SightIsWritable}
use Rattle.cte_prints.proofs.BranchesDerivable.{row_in_sight}
use Rattle.cte_prints.proofs.QualifiedParts.{DerivableAt, SelectDerivable, select_over, working_derives}
use Rattle.cte_prints.proofs.OwnDerivable.{seen_writable, column_alone, column_derives, columns_derive}
use Rattle.cte_prints.proofs.Deriving.{recursive_derivable, file_derivable}
use Rattle.cte_prints.proofs.SmallDerivable.{truth_derives, number_derives, null_derives, negated_derives, parameter_derives}
use Rattle.cte_prints.proofs.OwnWritableNames.{table_derivable, step_derivable, row_derivable}

abbrev QueryFields : Type 0
QueryFields = Query-F Expr Source FromItem Item Key Query Recursive Select

abbrev Fields : Type 0
Fields = Recursive-F Expr Source FromItem Item Key Query Recursive Select

module _ (schema : Schema) (m : Making) (narrow : length m.tail.columns < 2 ^ 64) (n : ℕ) where
  abbrev width : ℕ
  width = length m.tail.columns

  abbrev tables : ℕ
  tables = length schema.tables

  -- ---- the first row

  module _ (entry : ℕ) (few : (p : ℕ) → Among (params_of (slice_get m.anf.blocks entry)) p → p < 64) where
    argument_derives : (t : Ty) (keys : List ℕ) (i : ℕ) → DerivableAt (suc n) ([] ∷ [])
        (argument m t (beside keys (params_of (slice_get m.anf.blocks entry)) i))
    argument_derives t keys i =
        beside_holds (λ o. DerivableAt (suc n) ([] ∷ []) (argument m t o)) keys (params_of (slice_get m.anf.blocks entry)) i (null_derives n ([] ∷ []) t)
        (λ p among. parameter_derives n ([] ∷ []) (suc p) (m.types p) (omega arith) (omega (arith, few p among)))

    arguments_derive : (i : ℕ) (keys : List ℕ) (ts : List Ty) → Every (DerivableAt (suc n) ([] ∷ []))
        (arguments_at m i keys (params_of (slice_get m.anf.blocks entry)) ts)
    arguments_derive i keys [] = tt
    arguments_derive i keys (t ∷ ts) = (argument_derives t keys i, arguments_derive (suc i) keys ts)

    pub start_derives : suc (entry_place m.table m.types m.result m.anf m.tail entry) < 2 ^ 63 → SelectDerivable (suc n) [] (start m entry)
    start_derives low =
        let place : ℕ = entry_place m.table m.types m.result m.anf m.tail entry in
        let arguments : List Expr = arguments_at m 0 (keys_of m place) (params_of (slice_get m.anf.blocks entry)) m.tail.columns in
        let ends : List Expr = null_of m.result ∷ null_of ty.Text ∷ [] in
        select_over (suc n) [] (truth true ∷ number (pos (suc place)) ∷ arguments ++ ends) [] None tt tt (
          truth_derives n ([] ∷ []) true,
          (
            number_derives n ([] ∷ []) (suc place) low,
            every_both (DerivableAt (suc n) ([] ∷ [])) arguments ends
                (arguments_derive 0 (keys_of m place) m.tail.columns)
                (null_derives n ([] ∷ []) m.result, (null_derives n ([] ∷ []) ty.Text, tt)),
          ),
        ) tt

  -- ---- the step

  abbrev both : Level
  both = clear.both schema m narrow

  both_derivable : SightIsWritable (both ∷ [])
  both_derivable = ((row_in_sight width narrow, (seen_writable step_name (row_names width) step_derivable (row_derivable width narrow), tt)), tt)

  go_own : Own 1 (both ∷ []) (record { level = 0; item = 0; column = 0 })
  unfolding row_own own_last
  go_own = own_beside 1 (row_of width ∷ []) [] (clear.rows_seen schema m narrow) (record { level = 0; item = 0; column = 0 })
      (row_own 1 width 0 narrow (omega arith)) (letter_apart table_name step_name refl)

  step_derives : Derivable (suc n) from_item (qualified_part (label_rows m) [] (row_of width ∷ [])).item → SelectDerivable (suc n) [] (step m tables)
  step_derives rows =
      let fs : List FromItem = working tables width ∷ label_rows m ∷ [] in
      let all : List Expr = all_columns m 1 in
      let first : Level = (qualified_part (working tables width) [] []).seen ∷ [] in
      select_over (suc n) [] all fs (Some (col 0 0 0)) tt (
        working_derives (suc n) tables width [] [],
        (subst (λ o. Derivable (suc n) from_item (qualified_part (label_rows m) [] (o ∷ [])).item) (sym (working_seen tables width [] [])) rows, tt),
      )
      (subst (λ l. Every (DerivableAt (suc n) (l ∷ [])) all) (sym (clear.seen_both schema m narrow))
      (columns_derive width (suc n) 1 1 (both ∷ []) both_derivable (clear.rows_own schema m narrow) 0 (suc (suc (suc (suc width)))) (omega arith)))
      (subst (λ l. DerivableAt (suc n) (l ∷ []) (col 0 0 0)) (sym (clear.seen_both schema m narrow))
      (column_derives 1 (both ∷ []) (record { level = 0; item = 0; column = 0 }) go_own both_derivable (suc n)))

  -- ---- the finished row

  abbrev alone : Level
  alone = row_of width ∷ []

  alone_derivable : SightIsWritable (alone ∷ [])
  alone_derivable = ((row_in_sight width narrow, tt), tt)

  row_derives : (i : ℕ) → i < suc (suc (suc (suc width))) → DerivableAt (suc (suc n)) (alone ∷ []) (col 0 0 i)
  row_derives i lt = column_derives 1 (alone ∷ []) (record { level = 0; item = 0; column = i }) (row_own 1 width i narrow lt) alone_derivable (suc (suc n))

  last_derives : SelectDerivable (suc (suc n)) [] (last m tables)
  last_derives =
      let list : List Expr = col 0 0 (suc (suc width)) ∷ col 0 0 (suc (suc (suc width))) ∷ [] in
      let seen = working_seen tables width [] [] in
      select_over (suc (suc n)) [] list (working tables width ∷ []) (Some (expr.Not (col 0 0 0))) tt (working_derives (suc (suc n)) tables width [] [], tt)
      (subst (λ o. Every (DerivableAt (suc (suc n)) ((o ∷ []) ∷ [])) list) (sym seen)
      (row_derives (suc (suc width)) (omega arith), (row_derives (suc (suc (suc width))) (omega arith), tt)))
      (subst (λ o. DerivableAt (suc (suc n)) ((o ∷ []) ∷ []) (expr.Not (col 0 0 0))) (sym seen)
      (negated_derives (suc (suc n)) (alone ∷ []) (col 0 0 0) (column_alone 1 (alone ∷ []) (record { level = 0; item = 0; column = 0 })
      (row_own 1 width 0 narrow (omega arith)) alone_derivable (suc (suc n)))))

  -- ---- the whole

  table_is : (entry : ℕ) → qualified_recursive (working_table m entry tables) []
      ≡ roll-Recursive (record {
        name = table_name;
        columns = row_names width;
        first = (qualified_select (start m entry) []).it ∷ [];
        second =
            (qualified_select (step m tables) []).it;
      })
  table_is entry =
      let o : Fields = record { name = table_name; columns = row_names width; first = start m entry ∷ []; second = step m tables } in
      d.recursive_rule (roll-Recursive o) []
      ∙ ap (λ (o : Fields). roll-Recursive (record {
        name = o.name;
        columns = o.columns;
        first = (qualified_selects [] o.first).it;
        second =
            (qualified_select o.second []).it;
      })) (out-roll-Recursive o)

  file_is : (entry : ℕ) → qualified (tree m entry tables)
      ≡ roll-Query (record { recursive = Some (qualified_recursive (working_table m entry tables) []); selects = (qualified_select (last m tables) []).it ∷ [] })
  file_is entry =
      let x : QueryFields = record { recursive = Some (working_table m entry tables); selects = last m tables ∷ [] } in
      ap (λ (z : Shown Query). z.it)
      (d.query_rule (roll-Query x) [] ∙ ap (λ (x : QueryFields). dot.query_of (option_map (λ r. qualified_recursive r []) x.recursive)
      (qualified_selects [] x.selects)) (out-roll-Query x))

  pub tree_derives : (entry : ℕ) → SelectDerivable (suc n) [] (start m entry) → Derivable (suc n) from_item (qualified_part (label_rows m) [] (row_of width ∷ [])).item
      → Derivable (suc (suc n)) file (qualified (tree m entry tables))
  tree_derives entry first rows =
      subst (Derivable (suc (suc n)) file) (sym (file_is entry))
      (file_derivable (suc (suc n)) (qualified_recursive (working_table m entry tables) []) (qualified_select (last m tables) []).it
      (subst (Derivable (suc (suc n)) recursive) (sym (table_is entry))
      (recursive_derivable (suc n) table_name go_name (label_name ∷ value_names width ++ (result_name ∷ fault_name ∷ [])) (qualified_select (start m entry) []).it
      (qualified_select (step m tables) []).it
      table_derivable (row_derivable width narrow) first.derives (step_derives rows).derives))
      last_derives.derives)
