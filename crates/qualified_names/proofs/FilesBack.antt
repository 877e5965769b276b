-- Whole queries in which names are unambiguous are read back as they were.
use Rattle.std.proofs.Common.{◌≡◌, refl, ap, ◌∙◌, true, List, [], ◌∷◌, length, Option, Some, None, option_map}
use Rattle.std.specs.Prelude.{decimal}
use Rattle.away_trees.specs.declared.queries.Expr.{Expr}
use Rattle.away_trees.specs.declared.queries.Source.{Source}
use Rattle.away_trees.specs.declared.queries.FromItem.{FromItem}
use Rattle.away_trees.specs.declared.queries.Item.{Item}
use Rattle.away_trees.specs.declared.queries.Key.{Key}
use Rattle.away_trees.specs.declared.queries.Select.{Select}
use Rattle.away_trees.specs.declared.queries.Recursive.{Recursive}
use Rattle.away_trees.specs.declared.queries.Query.{Query}
use Rattle.away_trees.specs.declared.queries.Expr.TheOpen.{Recursive-F, Query-F}
use Rattle.away_trees.specs.declared.queries.Expr.TheViews.{out-Recursive, out-Query, roll-Recursive, roll-Query, out-roll-Recursive, out-roll-Query, roll-out-Recursive, roll-out-Query}
use Rattle.away_trees.specs.declared.schemas.Schema.{Schema}
use Rattle.away_names.specs.declared.rule.Rule.TheVariants as rule
use Rattle.away_names.specs.declared.note.File.{File}
use Rattle.away_names.specs.declared.note.Shown.{Shown}
use Rattle.away_names.specs.Files.{with_working, file_of, file}
use Rattle.away_names.specs.Lookups.{Scope, table_before, has_double}
use Rattle.away_names.specs.NamingLists.{named_selects}
use Rattle.away_names.specs.Notes.{joined, breaks}
use Rattle.away_names.specs.Tables.{table_of, outermost}
use Rattle.away_names.specs.Trees.{named_select}
use Rattle.qualified_names.specs.Trees.{qualified, qualified_recursive, qualified_select, qualified_selects}
use Rattle.qualified_names.specs.Unambiguous.{AreClear, IsClearFile}
use Rattle.qualified_names.proofs.QualifyingRules as d
use Rattle.qualified_names.proofs.Gives.{IsQuiet, both_quiet, unbroken}
use Rattle.qualified_names.proofs.BackSelects.{selects_back}
use Rattle.qualified_names.proofs.ClearBack.{back}

abbrev Fields : Type 0
Fields = Recursive-F Expr Source FromItem Item Key Query Recursive Select

abbrev QueryFields : Type 0
QueryFields = Query-F Expr Source FromItem Item Key Query Recursive Select

abbrev sees : Schema → Fields → Scope
sees schema o = record (outermost schema) { table = table_before (Some (record { name = o.name; table = record { written = decimal (length schema.tables) ∷ o.columns; recursive = true } })) (table_of schema) }

-- a query behind the terms of a recursive table, by their parts
abbrev filed : Schema → List Select → Fields → File
filed schema xs o =
    let s : Scope = sees schema o in
    let first = named_selects s o.first in
    let second = named_select o.second s in
    let selects = named_selects s xs in
    record {
      query = roll-Query (record { recursive = Some (roll-Recursive (record { name = o.name; columns = o.columns; first = first.it.it; second = second.it.it })); selects = selects.it.it });
      first = first.note;
      second = second.note;
      note = joined (joined (breaks rule.Duplicates (has_double o.columns)) (joined first.note second.note)) selects.note;
    }

pub record ReadsFile (schema : Schema) (f : File) (q : Query) : Type 0 where
  pub query : f.query ≡ q
  pub quiet : IsQuiet f.note

terms_back : (schema : Schema) (r : Option Recursive) (xs : List Select) → AreClear schema r xs
    → ReadsFile schema (file_of schema (option_map (λ r. qualified_recursive r []) r) (qualified_selects [] xs).it) (roll-Query (record { recursive = r; selects = xs }))
terms_back schema None xs k =
    let is = selects_back (outermost schema) xs (back refl k) in
    record { query = ap (λ xs. roll-Query (record { recursive = None; selects = xs })) is.it; quiet = is.quiet }
terms_back schema (Some r) xs k =
    let s : Scope = with_working schema r in
    let o : Fields = out-Recursive r in
    let ys : List Select = (qualified_selects [] xs).it in
    let w : Fields = record { name = o.name; columns = o.columns; first = (qualified_selects [] o.first).it; second = (qualified_select o.second []).it } in
    let first = selects_back s o.first (back refl k.1) in
    let second = back refl k.2 in
    let selects = selects_back s xs (back refl k.3) in
    let found : file_of schema (Some (qualified_recursive r [])) ys ≡ filed schema ys w = ap (λ r. filed schema ys (out-Recursive r)) (d.recursive_rule r []) ∙ ap (filed schema ys) (out-roll-Recursive w) in
    record {
      query = ap (λ (f : File). f.query) found
          ∙ ((λ i. roll-Query (record { recursive = Some (roll-Recursive (record { name = o.name; columns = o.columns; first = first.it i; second = second.it i })); selects = selects.it i }))
          ∙ ap (λ r. roll-Query (record { recursive = Some r; selects = xs })) (roll-out-Recursive r));
      quiet = ap (λ (f : File). f.note.least) found
          ∙ both_quiet _ _ (both_quiet _ _ (ap (λ b. (breaks rule.Duplicates b).least) k.0 ∙ unbroken rule.Duplicates) (both_quiet _ _ first.quiet second.quiet)) selects.quiet;
    }

pub file_back : (schema : Schema) (q : Query) → IsClearFile schema q → ReadsFile schema (file schema (qualified q)) q
unfolding file
file_back schema q k =
    let x : QueryFields = out-Query q in
    let w : QueryFields = record { recursive = option_map (λ r. qualified_recursive r []) x.recursive; selects = (qualified_selects [] x.selects).it } in
    let is : file schema (qualified q) ≡ file_of schema w.recursive w.selects =
    ap (λ (y : Shown Query). file_of schema (out-Query y.it).recursive (out-Query y.it).selects) (d.query_rule q []) ∙ ap (λ (y : QueryFields). file_of schema y.recursive y.selects) (out-roll-Query w) in
    let read = terms_back schema x.recursive x.selects k in
    record { query = ap (λ (f : File). f.query) is ∙ (read.query ∙ roll-out-Query q); quiet = ap (λ (f : File). f.note.least) is ∙ read.quiet }
