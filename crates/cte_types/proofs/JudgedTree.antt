-- The query of a function breaks no rule of types, aggregates, recursion and parameters.
use Rattle.std.proofs.Common.{◌≡◌, refl, ap, ◌∙◌, ℕ, ◌<◌, ◌^◌, Bool, true, false, not, ◌&&◌, if◌then◌else◌, List, [], ◌∷◌, map, length, Option, Some, None, option_map, is_some, arith}
use Rattle.std.specs.Prelude.{slice_get, ◌==◌}
use Rattle.std.specs.List.{list_any}
use Rattle.std.proofs.lemmas.Bool.{eq-eqb}
use Rattle.away_trees.specs.declared.schemas.Schema.{Schema}
use Rattle.away_trees.specs.declared.queries.Expr.{Expr}
use Rattle.away_trees.specs.declared.queries.Source.{Source}
use Rattle.away_trees.specs.declared.queries.FromItem.{FromItem}
use Rattle.away_trees.specs.declared.queries.Item.{Item}
use Rattle.away_trees.specs.declared.queries.Key.{Key}
use Rattle.away_trees.specs.declared.queries.Recursive.{Recursive}
use Rattle.away_trees.specs.declared.queries.Select.{Select}
use Rattle.away_trees.specs.declared.queries.Query.{Query}
use Rattle.away_trees.specs.declared.queries.Expr.TheOpen.{Select-F, Recursive-F, Query-F}
use Rattle.away_trees.specs.declared.queries.Expr.TheViews.{out-Query, out-Recursive, out-FromItem, out-roll-Query, out-roll-Recursive, out-roll-Select}
use Rattle.away_trees.specs.Algebra.{select_of, query_of}
use Rattle.away_trees.proofs.Equations as eq
use Rattle.away_names.specs.declared.rule.Rule.{Rule}
use Rattle.away_names.specs.declared.rule.Rule.TheVariants as rule
use Rattle.away_names.specs.Rules.{lesser}
use Rattle.away_names.specs.declared.note.Note.{Note}
use Rattle.away_names.specs.declared.note.Times.TheVariants.{Never, Once}
use Rattle.away_names.specs.Lookups.{Name}
use Rattle.away_names.specs.Notes.{joined, breaks}
use Rattle.away_typing.specs.declared.kind.Kind.{Kind}
use Rattle.away_typing.specs.declared.kind.Kind.TheVariants.{Of}
use Rattle.away_typing.specs.declared.params.Params.{Params}
use Rattle.away_typing.specs.declared.wholes.Recursion.{Recursion}
use Rattle.away_typing.specs.Aggregates.{using_, Term, is_some_of}
use Rattle.away_typing.specs.Kinds.{same, fits}
use Rattle.away_typing.specs.Parameters.{finding, no_params}
use Rattle.away_typing.specs.ParameterLists.{params_of, with_query}
use Rattle.away_typing.specs.Trees.{uses_of_query, uses_of_select, kinds_of_select}
use Rattle.away_typing.specs.Typing.{Places, Shape, typing, shape_of, further, or_none, types_of}
use Rattle.away_typing.specs.TypingLists.{union_in}
use Rattle.away_typing.specs.Wholes.{with_table, over_tables, padded, types_or_none, first_shape, is_never, is_once, recursive_types, in_own_from, is_table, is_plain, all_fit, fits_shape, recursion_by, recursion, is_answer, answer_note, uses_note, final_shape, column_types}
use Rattle.away_values.specs.declared.types.Ty.{Ty}
use Rattle.away_values.specs.declared.types.Ty.TheVariants as ty
use Rattle.call_forms.specs.Called.{Among}
use Rattle.sql_meaning.specs.Trees.{col, item}
use Rattle.cte_template.specs.Making.{Making}
use Rattle.cte_template.specs.Tree as t
use Rattle.cte_template.specs.Walks.{all_columns}
use Rattle.cte_parts.specs.Names.{table_name, row_names}
use Rattle.cte_parts.specs.Trees.{working}
use Rattle.elaboration.specs.Elaborating.{MadeSelect, union_made}
use Rattle.elaboration.specs.Whole.{all_typed, first_made, tables_behind, typed_at, typed_by, typed_whole}
use Rattle.elaboration_law.proofs.Marked.{typed_select_is_marked}
use Rattle.cte_types.proofs.BodyTypes.{FillsCells}
use Rattle.type_soundness.specs.Sorts.{Every}
use Rattle.cte_types.proofs.Fine.{Calm, calm_is, either_calm, all_calm, apart_calm, type_fits, type_back}
use Rattle.cte_types.proofs.Rows.{Good, kinds_of}
use Rattle.cte_types.proofs.StartTypes.{AreOfNames, start_kinds, start_calm, start_adds}
use Rattle.cte_types.proofs.TreeTypes.{IsLabel, step_good, last_good}
use Rattle.cte_types.proofs.WalkTypes.{IsSound, row_types, row_names_size}
use Rattle.cte_template.specs.Walks.{keys_of}
use Rattle.call_forms.specs.Template.{entry_place}
use Rattle.call_forms.specs.Forms.{params_of as params_of_block}

-- ---- notes that are clean

pub joined_least : (a b : Note) → a.least ≡ None → b.least ≡ None → (joined a b).least ≡ None
unfolding joined lesser
joined_least a b h k = λ i. lesser (h i) (k i)

pub breaks_least : (k : Rule) (t : Bool) → t ≡ false → (breaks k t).least ≡ None
unfolding breaks
breaks_least k t h = ap (λ t. if t then Some k else None) h

not_true : (t : Bool) → t ≡ true → not t ≡ false
not_true t h = ap not h

both_true : (a b : Bool) → a ≡ true → b ≡ true → (a && b) ≡ true
both_true a b h k = λ i. h i && k i

-- ---- columns

padded_is : (names : List Name) (ts : List Ty) → length names ≡ length ts → padded names ts ≡ ts
padded_is [] [] h = refl
padded_is [] (t ∷ ts) h = absurd (omega (arith, h))
padded_is (n ∷ names) [] h = absurd (omega (arith, h))
padded_is (n ∷ names) (t ∷ ts) h = ap (λ ts. t ∷ ts) (padded_is names ts (omega (arith, h)))

all_fitting : (ts : List Ty) → all_fit ts (kinds_of ts) ≡ true
all_fitting [] = refl
all_fitting (t ∷ ts) = both_true (fits t (Of t)) (all_fit ts (kinds_of ts)) (type_fits t) (all_fitting ts)

-- one select alone
one_union : (p : Places) (s : Select) (ks : Option (List Kind)) → kinds_of_select s p ≡ ks → union_in p (s ∷ []) ≡ ks
unfolding further or_none
one_union p s ks h = h

shape_back : (ts : List Ty) → shape_of (Some (kinds_of ts)) ≡ Some ts
shape_back ts = ap (λ ts. Some ts) (back ts)
  where
    back : (ts : List Ty) → types_of (kinds_of ts) ≡ ts
    back [] = refl
    back (t ∷ ts) = λ i. type_back t i ∷ back ts i

module _ (schema : Schema) (m : Making) (sound : IsSound m) (small : length (column_types schema) < 2 ^ 64)
    (labels : (j b : ℕ) → slice_get m.tail.labels j ≡ Some b → IsLabel m (column_types schema) sound j b)
    (entry : ℕ) (entered : Among m.tail.labels entry)
    (fills : FillsCells (column_types schema) m.table m.types m.result m.tail.columns (keys_of m (entry_place m.table m.types m.result m.anf m.tail entry))
    (params_of_block (slice_get m.anf.blocks entry))) where
  abbrev tables : List (List Ty)
  tables = column_types schema

  abbrev Rows : List Ty
  Rows = row_types m.tail.columns m.result

  abbrev names : List Name
  names = row_names (t.width m)

  abbrev first : Select
  first = t.start m entry

  abbrev second : Select
  second = t.step m (length tables)

  abbrev final : Select
  final = t.last m (length tables)

  second_good : Good (over_tables (with_table schema Rows)) Rows second
  second_good = step_good m tables sound labels entry entered small

  final_good : Good (over_tables (with_table schema Rows)) (m.result ∷ ty.Text ∷ []) final
  final_good = last_good m tables sound labels entry entered small

  names_are : length names ≡ length Rows
  names_are = row_names_size m.tail.columns m.result

  -- ---- the recursive table

  abbrev Fields : Type 0
  Fields = Recursive-F Expr Source FromItem Item Key Query Recursive Select

  abbrev fields : Fields
  fields = record { name = table_name; columns = names; first = first ∷ []; second = second }

  abbrev shape_by : Fields → Shape
  shape_by x = shape_of (union_in (over_tables (with_table schema (padded x.columns []))) x.first)

  abbrev tables_by : Fields → Shape → List (List Ty)
  tables_by x shape = with_table schema (recursive_types Never x.columns shape)

  abbrev kinds_by : Fields → Shape → Option (List Kind)
  kinds_by x shape = kinds_of_select x.second (over_tables (tables_by x shape))

  abbrev is_recursion_by : Fields → Shape → Option (List Kind) → Bool
  is_recursion_by x shape kinds =
      is_never Never
      && (is_once Once
      && (in_own_from x.name x.second && (is_plain x.second && (length x.columns == length (types_or_none shape) && fits_shape (types_or_none shape) kinds))))

  abbrev note_by : Fields → Shape → Option (List Kind) → Note
  note_by x shape kinds = joined (breaks rule.Types (not (is_some shape && is_some kinds))) (breaks rule.Recursion (not (is_recursion_by x shape kinds)))

  shape_is : shape_by fields ≡ Some Rows
  unfolding kinds_of_select
  shape_is =
      ap shape_of (one_union (over_tables (with_table schema (padded names []))) first (Some (kinds_of Rows))
      (start_kinds m tables sound entry fills (over_tables (with_table schema (padded names [])))))
      ∙ shape_back Rows

  tables_are : tables_by fields (Some Rows) ≡ with_table schema Rows
  unfolding recursive_types is_never types_or_none
  tables_are = ap (with_table schema) (padded_is names Rows names_are)

  kinds_are : kinds_by fields (Some Rows) ≡ Some (kinds_of Rows)
  unfolding kinds_of_select
  kinds_are = ap (λ ts. select_of typing second (over_tables ts)) tables_are ∙ second_good.kinds

  own_from : in_own_from table_name second ≡ true
  unfolding is_table
  own_from =
      ap (λ (x : Select-F Expr Source FromItem Item Key Query Recursive Select). list_any (λ f. is_table table_name (out-FromItem f).source) x.from)
      (out-roll-Select (record {
        list = map item (all_columns m 1);
        from = working (length tables) (t.width m) ∷ t.label_rows m ∷ [];
        filter = Some
            (col 0 0 0);
        order = [];
        limit = None;
      }))

  plain : is_plain second ≡ true
  unfolding uses_of_select
  plain =
      both_true _ _ (ap not second_good.calm.aggregate)
      (ap (λ (x : Select-F Expr Source FromItem Item Key Query Recursive Select). not (is_some_of x.order) && not (is_some x.limit))
      (out-roll-Select (record {
        list = map item (all_columns m 1);
        from = working (length tables) (t.width m) ∷ t.label_rows m ∷ [];
        filter = Some
            (col 0 0 0);
        order = [];
        limit = None;
      })))

  recursive_is : is_recursion_by fields (Some Rows) (Some (kinds_of Rows)) ≡ true
  unfolding is_never is_once types_or_none fits_shape
  recursive_is =
      both_true _ _ own_from (both_true _ _ plain (both_true _ _ (eq-eqb (length names) (length Rows) names_are) (all_fitting Rows)))

  note_clean : (note_by fields (Some Rows) (Some (kinds_of Rows))).least ≡ None
  note_clean =
      joined_least _ _ (breaks_least rule.Types (not (is_some (Some Rows) && is_some (Some (kinds_of Rows)))) refl)
      (breaks_least rule.Recursion (not (is_recursion_by fields (Some Rows) (Some (kinds_of Rows)))) (not_true _ recursive_is))

  abbrev table : Recursive
  table = t.working_table m entry (length tables)

  recursion_note : (recursion_by schema Never Once table (first_shape schema table)).note.least ≡ None
  recursion_note =
      ap (λ (x : Fields). (note_by x (shape_by x) (kinds_by x (shape_by x))).least) (out-roll-Recursive fields)
      ∙ (ap (λ (s : Shape). (note_by fields s (kinds_by fields s)).least) shape_is
      ∙ (ap (λ ks. (note_by fields (Some Rows) ks).least) kinds_are ∙ note_clean))

  recursion_tables : (recursion_by schema Never Once table (first_shape schema table)).tables ≡ with_table schema Rows
  recursion_tables = ap (λ (x : Fields). tables_by x (shape_by x)) (out-roll-Recursive fields) ∙ (ap (tables_by fields) shape_is ∙ tables_are)

  -- ---- the whole

  abbrev tree : Query
  tree = t.tree m entry (length tables)

  abbrev Wholes : Type 0
  Wholes = Query-F Expr Source FromItem Item Key Query Recursive Select

  abbrev whole : Wholes
  whole = record { recursive = Some table; selects = final ∷ [] }

  abbrev found : Wholes → Recursion
  found x = recursion schema Never Once x.recursive

  uses_calm : Calm (query_of using_ tree).uses
  uses_calm =
      let starts : Every Calm ((select_of using_ first).uses ∷ []) = (start_calm m tables sound entry fills (over_tables tables), tt) in
      let ends : Every Calm ((select_of using_ final).uses ∷ []) = (final_good.calm, tt) in
      calm_is _ _ (ap (λ (t : Term). t.uses) (eq.of_with using_ table (final ∷ [])))
      (apart_calm _ (either_calm _ _
      (calm_is _ _ (ap (λ (t : Term). t.uses) (eq.of_recursive using_ table_name names (first ∷ []) second))
      (apart_calm _ (either_calm _ _ (all_calm ((select_of using_ first).uses ∷ []) starts) second_good.calm)))
      (all_calm ((select_of using_ final).uses ∷ []) ends)))

  no_names : AreOfNames m.types no_params
  unfolding no_params
  no_names = record { no_clash = refl; list = tt }

  params_are : params_of tree ≡ select_of finding first no_params
  unfolding with_query
  params_are =
      ap (λ f. f no_params) (eq.of_with finding table (final ∷ []))
      ∙ (final_good.quiet _ ∙ (ap (λ f. f no_params) (eq.of_recursive finding table_name names (first ∷ []) second) ∙ second_good.quiet _))

  no_clash : (params_of tree).clash ≡ false
  no_clash = ap (λ (p : Params). p.clash) params_are ∙ (start_adds m tables sound entry no_params no_names).no_clash

  shape_final : final_shape tree (recursion schema Never Once (out-Query tree).recursive) ≡ Some (m.result ∷ ty.Text ∷ [])
  unfolding kinds_of_select
  shape_final =
      ap (λ (x : Wholes). shape_of (union_in (over_tables (found x).tables) x.selects)) (out-roll-Query whole)
      ∙ (ap (λ ts. shape_of (union_in (over_tables ts) (final ∷ []))) recursion_tables
      ∙ (ap shape_of (one_union (over_tables (with_table schema Rows)) final (Some (kinds_of (m.result ∷ ty.Text ∷ []))) final_good.kinds)
      ∙ shape_back (m.result ∷ ty.Text ∷ [])))

  answer_clean : (shape : Shape) → shape ≡ Some (m.result ∷ ty.Text ∷ []) → (answer_note shape).least ≡ None
  unfolding is_answer same
  answer_clean shape h =
      joined_least _ _ (breaks_least rule.Types (not (is_some shape)) (ap (λ s. not (is_some s)) h))
      (breaks_least rule.Answer (not (is_answer shape)) (ap (λ s. not (is_answer s)) h))

  uses_clean : (uses_note tree).least ≡ None
  unfolding uses_of_query
  uses_clean = joined_least _ _ (breaks_least rule.Types _ uses_calm.limited) (breaks_least rule.Aggregates _ uses_calm.misused)

  -- behind a clean note of its names
  pub judged_clean : (note : Note) → note.least ≡ None
      → (joined (joined note (uses_note tree))
      (joined (breaks rule.Types (params_of tree).clash) (joined (recursion schema Never Once (out-Query tree).recursive).note
      (answer_note (final_shape tree (recursion schema Never Once (out-Query tree).recursive)))))).least ≡ None
  judged_clean note h =
      joined_least _ _ (joined_least note (uses_note tree) h uses_clean)
      (joined_least _ _ (breaks_least rule.Types (params_of tree).clash no_clash)
      (joined_least _ _ (ap (λ (x : Wholes). (found x).note.least) (out-roll-Query whole) ∙ recursion_note) (answer_clean _ shape_final)))

  -- ---- each select has types

  abbrev first_places : Places
  first_places = over_tables (with_table schema (padded names []))

  first_typed : select_of typing first first_places ≡ Some (kinds_of Rows)
  first_typed = start_kinds m tables sound entry fills first_places

  made_kinds : (first_made schema fields).kinds ≡ Some (kinds_of Rows)
  unfolding further or_none
  made_kinds = ap (λ (x : MadeSelect). union_made (x ∷ [])) (typed_select_is_marked first first_places (ap is_some first_typed)) ∙ first_typed

  tables_behind_are : tables_behind schema Never fields (first_made schema fields) ≡ with_table schema Rows
  tables_behind_are = ap (λ ks. tables_by fields (shape_of ks)) made_kinds ∙ (ap (tables_by fields) (shape_back Rows) ∙ tables_are)

  parts_typed : typed_by schema Never (Some fields) (final ∷ []) ≡ true
  parts_typed =
      ap (λ ts. all_typed first_places (first ∷ []) && (typed_at (over_tables ts) second && all_typed (over_tables ts) (final ∷ []))) tables_behind_are
      ∙ both_true _ _ (both_true (typed_at first_places first) true (ap is_some first_typed) refl)
      (both_true _ _ (ap is_some second_good.kinds) (both_true (typed_at (over_tables (with_table schema Rows)) final) true (ap is_some final_good.kinds) refl))

  pub tree_typed : typed_whole schema Never tree ≡ true
  tree_typed =
      ap (λ (x : Wholes). typed_by schema Never (option_map (λ (r : Recursive). out-Recursive r) x.recursive) x.selects) (out-roll-Query whole)
      ∙ (ap (λ (x : Fields). typed_by schema Never (Some x) (final ∷ [])) (out-roll-Recursive fields) ∙ parts_typed)
