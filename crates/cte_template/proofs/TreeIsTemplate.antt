-- The tree with its names is the template's tree, but for names.
use Rattle.std.proofs.Common.{◌≡◌, refl, ap, sym, ◌∙◌, ℕ, suc, true, pos, List, [], ◌∷◌, ◌++◌, map, get_or, Some, None, decimal}
use Rattle.std.specs.Prelude.{slice_get}
use Rattle.away_trees.specs.declared.queries.Expr.TheVariants as expr
use Rattle.away_values.specs.declared.types.Ty.TheVariants as ty
use Rattle.call_forms.specs.Forms.{params_of}
use Rattle.call_forms.specs.Template as template
use Rattle.sql_meaning.specs.Names.{bare}
use Rattle.sql_meaning.specs.Template.{last}
use Rattle.sql_meaning.specs.Trees.{col, item, select, table_by, truth, number, null_of}
use Rattle.cte_template.specs.Making.{Making}
use Rattle.cte_parts.specs.Names.{table_name, row_names}
use Rattle.cte_template.specs.Tree as t
use Rattle.cte_parts.specs.Trees.{working}
use Rattle.cte_template.proofs.CarriedTemplate.{bare_of, step_same, whole}
use Rattle.cte_template.proofs.Nameless.{select_bare, same_select}
use Rattle.cte_template.proofs.PlacesSeen.{arguments_are}

module _ (m : Making) (entry tables : ℕ) where
  start_same : t.start m entry ≡ template.start m.table m.types m.result m.anf m.tail entry
  start_same =
      let place = template.entry_place m.table m.types m.result m.anf m.tail entry in
      ap (λ arguments. select (truth true ∷ number (pos (suc place)) ∷ arguments ++ (null_of m.result ∷ null_of ty.Text ∷ [])) [] None)
      (arguments_are m 0 (get_or m.tail.places place []) (params_of (slice_get m.anf.blocks entry)) m.tail.columns)

  last_same : select_bare (t.last m tables) ≡ select_bare (last (decimal tables) (t.width m))
  last_same = same_select (map item (col 0 0 (suc (suc (t.width m))) ∷ col 0 0 (suc (suc (suc (t.width m)))) ∷ [])) (working tables (t.width m) ∷ []) (table_by (decimal tables) ∷ []) (Some (expr.Not (col 0 0 0))) refl

  pub tree_is_template : bare (t.tree m entry tables) ≡ bare (template.query_of m.table m.types m.result m.anf m.tail entry tables)
  tree_is_template =
      whole table_name (row_names (t.width m)) (t.start m entry ∷ []) (t.step m tables) (t.last m tables ∷ [])
      ∙ ((λ i. bare_of (select_bare (start_same i) ∷ []) (step_same m [] tables i) (last_same i ∷ []))
      ∙ sym (whole [] [] (template.start m.table m.types m.result m.anf m.tail entry ∷ []) (template.step m.table m.types m.result m.anf m.tail entry (decimal tables)) (last (decimal tables) (t.width m) ∷ [])))
