-- A query of one select, as its check for all rows finds it, and the select with slots in the places of its calls.
use Rattle.std.proofs.Common.{◌≡◌, ap, ◌∙◌, [], ◌∷◌, None, option_map}
use Rattle.away_trees.specs.declared.queries.Expr.TheViews.{out-Query, out-Recursive, out-Select, roll-Query, out-roll-Query}
use Rattle.away_trees.specs.declared.queries.Expr.{Expr}
use Rattle.away_trees.specs.declared.queries.Expr.TheOpen.{Query-F}
use Rattle.away_trees.specs.declared.queries.FromItem.{FromItem}
use Rattle.away_trees.specs.declared.queries.Item.{Item}
use Rattle.away_trees.specs.declared.queries.Key.{Key}
use Rattle.away_trees.specs.declared.queries.Recursive.{Recursive}
use Rattle.away_trees.specs.declared.queries.Source.{Source}
use Rattle.away_trees.specs.declared.queries.Query.{Query}
use Rattle.away_trees.specs.declared.queries.Select.{Select}
use Rattle.away_trees.specs.declared.schemas.Schema.{Schema}
use Rattle.away_trees.specs.declared.statements.Function.{Function}
use Rattle.away_trees.specs.Algebra.{select_of}
use Rattle.away_names.specs.declared.rule.Rule.TheVariants as rule
use Rattle.away_names.specs.declared.note.File.{File}
use Rattle.away_names.specs.declared.note.Noted.{Noted}
use Rattle.away_names.specs.declared.note.Shown.{Shown}
use Rattle.away_names.specs.declared.note.Times.{Times}
use Rattle.away_names.specs.Files.{file, file_alone, file_of}
use Rattle.away_names.specs.Notes.{clean, joined, breaks}
use Rattle.away_names.specs.Tables.{outermost}
use Rattle.away_names.specs.Naming.{naming}
use Rattle.away_names.specs.Trees.{named_select}
use Rattle.away_typing.specs.declared.row_queries.RowsVerdict.{RowsVerdict}
use Rattle.away_typing.specs.ParameterLists.{params_of}
use Rattle.away_typing.specs.RowQueries.{judged_rows, shape_note}
use Rattle.away_typing.specs.Trees.{kinds_of_select}
use Rattle.away_typing.specs.Typing.{Places, Shape, shape_of, typing, further, or_none}
use Rattle.away_typing.specs.TypingLists.{union_in}
use Rattle.away_typing.specs.Wholes.{column_types, over_tables, recursion, types_or_none, uses_note}
use Rattle.away_types.specs.CheckedQueries.{resolved_file}
use Rattle.away_types.specs.CheckedRows.{rows_judged}
use Rattle.elaboration.specs.Elaborating.{elaborated_select, elaborating, select_trees}
use Rattle.elaboration.specs.ElaboratingLists.{selects_in}
use Rattle.elaboration.specs.Whole.{marked_by, marked_whole}
use Rattle.inline_law.specs.Filled.{CallingSelect}
use Rattle.inline_calls.specs.Forms.{with_list}
use Rattle.inline_calls.specs.Resolving.{all_items, apart, apart_first, resolved, resolved_selects, slot_places}

abbrev QueryFields : Type 0
QueryFields = Query-F Expr Source FromItem Item Key Query Recursive Select

abbrev pub single : Select → Query
single x = roll-Query (record { recursive = None; selects = x ∷ [] })

module _ (s : Schema) (x : Select) where
  abbrev pub named : Noted (Shown Select)
  named = select_of naming x (outermost s)

  pub file_single : file s (single x) ≡ file_alone (outermost s) (x ∷ [])
  unfolding file
  file_single = ap (λ (q : QueryFields). file_of s q.recursive q.selects) (out-roll-Query _)

  abbrev pub places : Places
  places = over_tables (column_types s)

  -- the select, resolved and marked
  abbrev pub marked : Select
  marked = (select_of elaborating named.it.it places).it

  marked_single : (t : Times) → marked_whole s t (single named.it.it) ≡ single marked
  unfolding marked_whole elaborated_select
  marked_single t = ap (λ (q : QueryFields). marked_by s t (option_map (λ r. out-Recursive r) q.recursive) q.selects) (out-roll-Query _)

  abbrev shape : Shape
  shape = shape_of (select_of typing marked places)

  abbrev pub verdict : RowsVerdict
  verdict = record {
    note = joined (joined (joined clean named.note) (uses_note (single marked)))
        (joined (breaks rule.Types (params_of (single marked)).clash) (joined clean (shape_note shape)));
    params = (params_of (single marked)).list;
    columns = types_or_none shape;
  }

  named_is : resolved_file s (single x) ≡ record { query = marked_whole s clean.refers (single named.it.it); first = clean; second = clean; note = joined clean named.note }
  unfolding named_select
  named_is = ap (λ (f : File). record f { query = marked_whole s f.first.refers f.query }) file_single

  marked_is : resolved_file s (single x) ≡ record { query = single marked; first = clean; second = clean; note = joined clean named.note }
  marked_is = named_is ∙ ap (λ (q : Query). record { query = q; first = clean; second = clean; note = joined clean named.note }) (marked_single clean.refers)

  judged_alone : judged_rows s (record { query = single marked; first = clean; second = clean; note = joined clean named.note }) ≡ verdict
  unfolding judged_rows further or_none kinds_of_select
  judged_alone = ap
      (λ (q : QueryFields).
      let r = recursion s clean.refers clean.refers q.recursive in
      let shape = shape_of (union_in (over_tables r.tables) q.selects) in
      record {
        note = joined (joined (joined clean named.note) (uses_note (single marked))) (joined (breaks rule.Types (params_of (single marked)).clash) (joined r.note (shape_note shape)));
        params = (params_of (single marked)).list;
        columns = types_or_none shape;
      })
      (out-roll-Query _)

  pub judged_single : rows_judged s (single x) ≡ verdict
  judged_single = ap (judged_rows s) marked_is ∙ judged_alone

-- ---- with slots

module _ (s : Schema) (f : Function) (c : CallingSelect) where
  abbrev pub holed : Select
  holed = with_list c.select (all_items (out-Select c.select).list c.calls)

  abbrev pub resolved_select : Select
  resolved_select = (select_of elaborating (named s holed).it.it (slot_places s f c.calls)).it

  selects_are : resolved_selects s f c ≡ resolved_select ∷ []
  unfolding elaborated_select named_select
  selects_are =
      ap (λ (f' : File). select_trees (selects_in (slot_places s f c.calls) (out-Query f'.query).selects)) (file_single s holed)
      ∙ ap (λ (q : QueryFields). select_trees (selects_in (slot_places s f c.calls) q.selects)) (out-roll-Query _)

  pub resolved_is : resolved s f c ≡ apart c resolved_select
  resolved_is = ap (apart_first c) selects_are
