-- A whole query whose parts have types comes back from the query without marks.
use Rattle.std.proofs.Common.{◌≡◌, refl, ap, sym, ◌∙◌, true, List, [], ◌∷◌, map, Option, Some, None, option_map}
use Rattle.away_trees.specs.declared.schemas.Schema.{Schema}
use Rattle.away_trees.specs.declared.queries.Expr.{Expr}
use Rattle.away_trees.specs.declared.queries.Source.{Source}
use Rattle.away_trees.specs.declared.queries.FromItem.{FromItem}
use Rattle.away_trees.specs.declared.queries.Item.{Item}
use Rattle.away_trees.specs.declared.queries.Key.{Key}
use Rattle.away_trees.specs.declared.queries.Expr.TheOpen.{Query-F}
use Rattle.away_trees.specs.declared.queries.Select.{Select}
use Rattle.away_trees.specs.declared.queries.Recursive.{Recursive}
use Rattle.away_trees.specs.declared.queries.Query.{Query}
use Rattle.away_trees.specs.declared.queries.Expr.TheViews.{out-Query, out-Recursive, roll-Query, roll-Recursive, out-roll-Query, out-roll-Recursive, roll-out-Query, roll-out-Recursive}
use Rattle.away_trees.specs.Algebra.{select_of, recursive_of}
use Rattle.away_trees.proofs.Equations as eq
use Rattle.away_names.specs.declared.note.Times.{Times}
use Rattle.away_typing.specs.Typing.{Places}
use Rattle.away_typing.specs.Wholes.{over_tables, column_types}
use Rattle.elaboration.specs.Elaborating.{MadeSelect, elaborating, elaborated_select, select_trees}
use Rattle.elaboration.specs.Erasing.{erasing, erased_query, erased_select}
use Rattle.elaboration.specs.ElaboratingLists.{selects_in}
use Rattle.elaboration.specs.Whole.{Fields, with_fields, first_places, joined, tables_behind, marked_by, marked_whole, typed_at, all_typed, typed_by}
use Rattle.elaboration_law.specs.Laws.{WholeMarked}
use Rattle.elaboration_law.proofs.Marked.{typed_select_is_marked}
use Rattle.elaboration_law.proofs.Plain.{same_select}
use Rattle.elaboration_law.proofs.Rights.{and_left, and_right}
use Rattle.elaboration_law.proofs.Unmarked.{elaborating_blind}

-- the marks that a select is to have don't depend on those that it has
select_plain : (p : Places) (s : Select) → elaborated_select p (select_of erasing s) ≡ elaborated_select p s
unfolding elaborated_select erased_select
select_plain p s = ap (λ m. m p) (same_select elaborating elaborating_blind s)

selects_plain : (p : Places) (ss : List Select) → selects_in p (map (λ s. select_of erasing s) ss) ≡ selects_in p ss
selects_plain p [] = refl
selects_plain p (s ∷ ss) = λ i. select_plain p s i ∷ selects_plain p ss i

select_stays : (p : Places) (s : Select) → typed_at p s ≡ true → (elaborated_select p s).it ≡ s
select_stays p s h = ap (λ (m : MadeSelect). m.it) (typed_select_is_marked s p h)

selects_stay : (p : Places) (ss : List Select) → all_typed p ss ≡ true → select_trees (selects_in p ss) ≡ ss
selects_stay p [] h = refl
selects_stay p (s ∷ ss) h = λ i. select_stays p s (and_left (typed_at p s) _ h) i ∷ selects_stay p ss (and_right (typed_at p s) _ h) i

abbrev QueryFields : Type 0
QueryFields = Query-F Expr Source FromItem Item Key Query Recursive Select

-- where all that stands behind the first term does
abbrev places_behind : Schema → Times → Fields → List MadeSelect → Places
places_behind s first r ms = over_tables (tables_behind s first r (joined ms))

module _ (schema : Schema) (first : Times) where
  -- the parts of a recursive part without marks
  abbrev plain_fields : Fields → Fields
  plain_fields f = record { name = f.name; columns = f.columns; first = map (λ s. select_of erasing s) f.first; second = select_of erasing f.second }

  recursive_is : (r : Recursive) → recursive_of erasing r ≡ roll-Recursive (plain_fields (out-Recursive r))
  recursive_is r = ap (recursive_of erasing) (sym (roll-out-Recursive r)) ∙ eq.of_recursive erasing (out-Recursive r).name (out-Recursive r).columns (out-Recursive r).first (out-Recursive r).second

  fields_are : (o : Option Recursive) → option_map (λ r. out-Recursive r) (option_map (λ r. recursive_of erasing r) o) ≡ option_map plain_fields (option_map (λ r. out-Recursive r) o)
  fields_are None = refl
  fields_are (Some r) = ap (λ r. Some (out-Recursive r)) (recursive_is r) ∙ ap (λ (f : Fields). Some f) (out-roll-Recursive (plain_fields (out-Recursive r)))

  plain_by : (o : Option Fields) (ss : List Select) → marked_by schema first (option_map plain_fields o) (map (λ s. select_of erasing s) ss) ≡ marked_by schema first o ss
  plain_by None ss = ap (λ ms. roll-Query (record { recursive = None; selects = select_trees ms })) (selects_plain (over_tables (column_types schema)) ss)
  plain_by (Some f) ss =
      let ms = selects_in (first_places schema f) f.first in
      let p = places_behind schema first f ms in
      ap (λ ms. roll-Query (record {
        recursive = Some (roll-Recursive (record { name = f.name; columns = f.columns; first = select_trees ms; second = (elaborated_select (places_behind schema first f ms) (select_of erasing f.second)).it }));
        selects = select_trees (selects_in (places_behind schema first f ms) (map (λ s. select_of erasing s) ss));
      })) (selects_plain (first_places schema f) f.first)
      ∙ (λ i. roll-Query (record {
        recursive = Some (roll-Recursive (record { name = f.name; columns = f.columns; first = select_trees ms; second = (select_plain p f.second i).it }));
        selects = select_trees (selects_plain p ss i);
      }))

  stays_by : (o : Option Fields) (ss : List Select) → typed_by schema first o ss ≡ true → marked_by schema first o ss ≡ roll-Query (record { recursive = option_map (λ (f : Fields). roll-Recursive f) o; selects = ss })
  stays_by None ss h = ap (λ ss. roll-Query (record { recursive = None; selects = ss })) (selects_stay (over_tables (column_types schema)) ss h)
  stays_by (Some f) ss h =
      let ms = selects_in (first_places schema f) f.first in
      let p = places_behind schema first f ms in
      let one = and_left (all_typed (first_places schema f) f.first) _ h in
      let rest = and_right (all_typed (first_places schema f) f.first) _ h in
      λ i. roll-Query (record {
        recursive = Some (roll-Recursive (record { name = f.name; columns = f.columns; first = selects_stay (first_places schema f) f.first one i; second = select_stays p f.second (and_left (typed_at p f.second) _ rest) i }));
        selects = selects_stay p ss (and_right (typed_at p f.second) _ rest) i;
      })

  rolled : (o : Option Recursive) → option_map (λ (f : Fields). roll-Recursive f) (option_map (λ r. out-Recursive r) o) ≡ o
  rolled None = refl
  rolled (Some r) = ap Some (roll-out-Recursive r)

pub whole_marked : WholeMarked
unfolding marked_whole erased_query
whole_marked s first q h =
    let fields = out-roll-Query (record { recursive = option_map (λ r. recursive_of erasing r) (out-Query q).recursive; selects = map (λ s. select_of erasing s) (out-Query q).selects }) in
    ap (λ q. marked_by s first (with_fields q) (out-Query q).selects) (eq.query_is erasing q)
    ∙ ap (λ (x : QueryFields). marked_by s first (option_map (λ r. out-Recursive r) x.recursive) x.selects) fields
    ∙ ap (λ o. marked_by s first o (map (λ s. select_of erasing s) (out-Query q).selects)) (fields_are s first (out-Query q).recursive)
    ∙ plain_by s first (with_fields q) (out-Query q).selects
    ∙ stays_by s first (with_fields q) (out-Query q).selects h
    ∙ ap (λ o. roll-Query (record { recursive = o; selects = (out-Query q).selects })) (rolled s first (out-Query q).recursive)
    ∙ roll-out-Query q
