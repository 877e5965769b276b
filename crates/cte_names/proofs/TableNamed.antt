-- The query of a checked function names its recursive table never in its first term, and once in its second.
use Rattle.std.proofs.Common.{◌≡◌, refl, ap, sym, ◌∙◌, ℕ, ◌+◌, Bool, true, false, if◌then◌else◌, List, [], ◌∷◌, length, decimal, Option, Some, None, option_map}
use Rattle.std.specs.Prelude.{bytes_eq}
use Rattle.std.proofs.lemmas.Option.{same_Some}
use Rattle.away_trees.specs.declared.queries.Expr.{Expr}
use Rattle.away_trees.specs.declared.queries.Source.{Source}
use Rattle.away_trees.specs.declared.queries.Source.TheVariants as source
use Rattle.away_trees.specs.declared.queries.FromItem.{FromItem}
use Rattle.away_trees.specs.declared.queries.Item.{Item}
use Rattle.away_trees.specs.declared.queries.Key.{Key}
use Rattle.away_trees.specs.declared.queries.Select.{Select}
use Rattle.away_trees.specs.declared.queries.Recursive.{Recursive}
use Rattle.away_trees.specs.declared.queries.Query.{Query}
use Rattle.away_trees.specs.declared.queries.Expr.TheOpen.{Recursive-F, Query-F}
use Rattle.away_trees.specs.declared.queries.Expr.TheViews.{out-Recursive, out-Query, roll-FromItem, roll-Recursive}
use Rattle.away_trees.specs.declared.queries.Expr.TheViews.{roll-Query, out-roll-Recursive, out-roll-Query}
use Rattle.away_trees.specs.declared.schemas.Schema.{Schema}
use Rattle.away_trees.specs.declared.schemas.TableSchema.{TableSchema}
use Rattle.away_names.specs.declared.rule.Rule.TheVariants as rule
use Rattle.away_names.specs.declared.note.File.{File}
use Rattle.away_names.specs.declared.note.Noted.{Noted}
use Rattle.away_names.specs.declared.note.Origin.{Origin}
use Rattle.away_names.specs.declared.note.Part.{Part}
use Rattle.away_names.specs.declared.note.Shown.{Shown}
use Rattle.away_names.specs.declared.note.Times.{Times}
use Rattle.away_names.specs.declared.note.Times.TheVariants.{Once}
use Rattle.away_names.specs.declared.scope.Listed.{Listed}
use Rattle.away_names.specs.Files.{file_of, file}
use Rattle.away_names.specs.Lookups.{Name, Level, Scope, table_before, has_double, is_kept}
use Rattle.away_names.specs.Naming as n
use Rattle.away_names.specs.NamingLists.{named_selects}
use Rattle.away_names.specs.Notes.{joined, summed, breaks, mapped, also}
use Rattle.away_names.specs.Tables.{listed, found_from, table_of}
use Rattle.away_names.specs.Trees.{named_part, named_select}
use Rattle.away_names.proofs.NamingRules as r
use Rattle.qualified_names.specs.Trees.{qualified, qualified_part, qualified_recursive, qualified_select, qualified_selects}
use Rattle.qualified_names.proofs.QualifyingRules as d
use Rattle.cte_parts.specs.Names.{table_name, row_names}
use Rattle.cte_parts.specs.Trees.{working}
use Rattle.cte_names.specs.Own.{SeesTables}
use Rattle.cte_names.proofs.BranchesClear.{under}
use Rattle.cte_names.proofs.FilesClear.{beside_working, sees_beside}
use Rattle.cte_names.proofs.Silence.{part_silent, written_silent}
use Rattle.cte_names.proofs.SilentTrees.{Extends}

-- ---- tables of the schema alone

-- a kept name stands for none of them
abbrev pub plain_tables : Schema → Name → Option Listed
plain_tables schema n = if is_kept n then None else table_of schema n

pub sees_plain : (schema : Schema) → SeesTables schema (under schema (plain_tables schema))
sees_plain schema = record { tables = λ n free. ap (λ b. if b then None else table_of schema n) free }

none_recursive : (n : Name) (place : ℕ) (before : Option Listed) (ts : List TableSchema) (x : Listed) → ((y : Listed) → before ≡ Some y → y.recursive ≡ false)
    → found_from n place before ts ≡ Some x → x.recursive ≡ false
none_recursive n place before [] x h e = h x e
none_recursive n place before (t ∷ ts) x h e =
    none_recursive n (place + 1) (if bytes_eq t.name n then Some (listed place t) else before) ts x (by (bytes_eq t.name n)) e
  where
    by : (b : Bool) (y : Listed) → (if b then Some (listed place t) else before) ≡ Some y → y.recursive ≡ false
    by true y e = ap (λ (y : Listed). y.recursive) (sym (same_Some (listed place t) y e))
    by false y e = h y e

found_plain : (schema : Schema) (n : Name) (x : Listed) → table_of schema n ≡ Some x → x.recursive ≡ false
unfolding table_of
found_plain schema n x e = none_recursive n 0 None schema.tables x (λ y none. absurd (cc)) e

pub extends_plain : (schema : Schema) (columns : List Name) → Extends (plain_tables schema) (beside_working schema columns)
extends_plain schema columns = record {
  same = λ n x e. (by_free n x (is_kept n) refl e).0;
  plain = λ n x e. (by_free n x (is_kept n) refl e).1;
}
  where
    by_free : (n : Name) (x : Listed) (b : Bool) → is_kept n ≡ b → (if is_kept n then None else table_of schema n) ≡ Some x
        → (beside_working schema columns n ≡ Some x) × (x.recursive ≡ false)
    by_free n x true kept e = let none : None ≡ Some x = sym (ap (λ b. if b then None else table_of schema n) kept) ∙ e in absurd (cc)
    by_free n x false free e =
        let found : table_of schema n ≡ Some x = sym (ap (λ b. if b then None else table_of schema n) free) ∙ e in
        ((sees_beside schema columns).tables n free ∙ found, found_plain schema n x found)

-- ---- the working table's item

module _ (schema : Schema) (w : ℕ) where
  abbrev tables : ℕ
  tables = length schema.tables

  abbrev outside : Scope
  outside = under schema (beside_working schema (row_names w))

  pub working_refers : (level : Level) → (named_part (qualified_part (working tables w) [] level).item outside level).note.refers ≡ Once
  unfolding n.of_table n.once_where joined summed
  working_refers level =
      let columns : List Name = decimal tables ∷ row_names w in
      let bare : FromItem = roll-FromItem (record { source = source.Table table_name; alias = table_name; columns = [] }) in
      let note = n.part_note outside table_name [] in
      ap (λ (p : Part). (named_part p.item outside level).note.refers)
      (d.part_rule (working tables w) [] level ∙ ap (n.shaped table_name) (d.table_is table_name columns [] level))
      ∙ (ap (λ (z : Noted Part). z.note.refers)
      (r.part_rule bare outside level ∙ ap (λ (o : Noted Origin). also note (mapped (n.shaped table_name) o)) (r.table_is table_name [] outside level))
      ∙ (λ i. summed (part_silent outside table_name [] i) (summed (written_silent outside table_name i) Once)))

-- ---- the terms of a whole query

abbrev Fields : Type 0
Fields = Recursive-F Expr Source FromItem Item Key Query Recursive Select

abbrev QueryFields : Type 0
QueryFields = Query-F Expr Source FromItem Item Key Query Recursive Select

module _ (schema : Schema) (part : File → Times) where
  abbrev sees : Fields → Scope
  sees o =
      under schema (table_before (Some (record { name = o.name; table = record { written = decimal (length schema.tables) ∷ o.columns; recursive = true } }))
      (table_of schema))

  -- a query behind the terms of a recursive table, by their parts
  abbrev filed : List Select → Fields → File
  filed ys o =
      let first = named_selects (sees o) o.first in
      let second = named_select o.second (sees o) in
      let selects = named_selects (sees o) ys in
      record {
        query =
            roll-Query (record {
              recursive = Some (roll-Recursive (record { name = o.name; columns = o.columns; first = first.it.it; second = second.it.it }));
              selects = selects.it.it;
            });
        first = first.note;
        second = second.note;
        note = joined (joined (breaks rule.Duplicates (has_double o.columns)) (joined first.note second.note)) selects.note;
      }

  abbrev with_names : Fields → Fields
  with_names o = record { name = o.name; columns = o.columns; first = (qualified_selects [] o.first).it; second = (qualified_select o.second []).it }

  abbrev query_with_names : QueryFields → QueryFields
  query_with_names x = record { recursive = option_map (λ r. qualified_recursive r []) x.recursive; selects = (qualified_selects [] x.selects).it }

  pub terms_of_file : (o : Fields) (xs : List Select)
      → part (file schema (qualified (roll-Query (record { recursive = Some (roll-Recursive o); selects = xs }))))
      ≡ part (filed (qualified_selects [] xs).it (with_names o))
  unfolding file
  terms_of_file o xs =
      let x : QueryFields = record { recursive = Some (roll-Recursive o); selects = xs } in
      let ys : List Select = (qualified_selects [] xs).it in
      ap (λ (y : Shown Query). part (file_of schema (out-Query y.it).recursive (out-Query y.it).selects)) (d.query_rule (roll-Query x) [])
      ∙ (ap (λ (y : QueryFields). part (file_of schema y.recursive y.selects)) (out-roll-Query (query_with_names (out-Query (roll-Query x))))
      ∙ (ap (λ (y : QueryFields). part (file_of schema (query_with_names y).recursive (query_with_names y).selects)) (out-roll-Query x)
      ∙ (ap (λ r. part (filed ys (out-Recursive r))) (d.recursive_rule (roll-Recursive o) [])
      ∙ (ap (λ (v : Fields). part (filed ys v)) (out-roll-Recursive (with_names (out-Recursive (roll-Recursive o))))
      ∙ ap (λ (v : Fields). part (filed ys (with_names v))) (out-roll-Recursive o)))))
