-- The query of typed forms breaks no rule.
use Rattle.std.proofs.Common.{◌≡◌, refl, ap, sym, ◌∙◌, subst, ℕ, zero, suc, ◌<◌, ◌^◌, true, List, [], ◌∷◌, map, length, get_or, Option, Some, None}
use Rattle.std.specs.Prelude.{slice_get}
use Rattle.std.proofs.lemmas.Option.{get_or_from_slice_get}
use Rattle.away_names.specs.declared.rule.Rule.TheVariants as rule
use Rattle.away_names.specs.declared.note.File.{File}
use Rattle.away_names.specs.declared.note.Note.{Note}
use Rattle.away_names.specs.declared.note.Times.{Times}
use Rattle.away_names.specs.declared.note.Times.TheVariants.{Never, Once}
use Rattle.away_names.specs.Notes.{joined, breaks}
use Rattle.away_trees.specs.declared.queries.Expr.{Expr}
use Rattle.away_trees.specs.declared.queries.Expr.TheVariants as expr
use Rattle.away_trees.specs.declared.queries.Expr.TheViews.{out-Query}
use Rattle.away_trees.specs.declared.queries.Query.{Query}
use Rattle.away_trees.specs.declared.schemas.Schema.{Schema}
use Rattle.away_trees.specs.declared.schemas.TableSchema.{TableSchema}
use Rattle.away_trees.specs.declared.statements.Function.{Function}
use Rattle.away_types.specs.declared.slots.Slot.{Slot}
use Rattle.away_types.specs.Refusals.{IsUnbroken}
use Rattle.away_typing.specs.ParameterLists.{params_of as params_in, with_expr}
use Rattle.away_typing.specs.Wholes.{types_in, column_types, recursion, uses_note, answer_note, final_shape, judged}
use Rattle.away_values.specs.declared.types.Ty.{Ty}
use Rattle.block_forms.specs.declared.forms.Goto.{Goto}
use Rattle.block_forms.specs.declared.forms.Ssa.{Ssa}
use Rattle.block_forms.specs.Expressions.{expressions}
use Rattle.block_forms.specs.Places.{Each}
use Rattle.call_forms.specs.declared.forms.Anf.{Anf}
use Rattle.call_forms.specs.declared.forms.Tail.{Tail}
use Rattle.call_forms.specs.Bodies.{body_of}
use Rattle.call_forms.specs.Called.{Among}
use Rattle.call_forms.specs.Columned.{Columned}
use Rattle.call_forms.specs.Forms.{label_of, params_of}
use Rattle.call_forms.specs.Template.{entry_place}
use Rattle.call_forms.specs.TailRuns.{label_or}
use Rattle.call_forms.specs.Templated.{HasTree, types_of}
use Rattle.call_law.proofs.Labels.{place_found, placed}
use Rattle.cte_template.specs.Making.{Making, making_of}
use Rattle.cte_template.specs.Tree.{tree}
use Rattle.cte_template.specs.Walks.{keys_of}
use Rattle.elaboration.specs.Whole.{typed_whole}
use Rattle.cte_types.specs.Typed.{BlockHasTypes, BlockKeepsTypes}
use Rattle.cte_types.specs.TreeLaws.{HasNoParameter}
use Rattle.cte_types.specs.Linked.{IsLinked}
use Rattle.cte_types.proofs.BodyTypes.{FillsCells, LabelFits, at_label_fits, own_cells, body_typed}
use Rattle.cte_types.proofs.JudgedTree.{judged_clean, tree_typed}
use Rattle.cte_types.proofs.TreeTypes.{IsLabel}
use Rattle.cte_types.proofs.Values.{IsEntry}
use Rattle.cte_types.proofs.WalkTypes.{IsSound}

-- what the forms of a function have
pub record AreTyped (schema : Schema) (f : Function) (slots : List Slot) (g : Goto) (z : Ssa) (a : Anf) (r : Tail) : Type 0 where
  pub few : length schema.tables < 2 ^ 64
  pub linked : Each IsLinked (expressions f)
  pub parameters : Each HasNoParameter (expressions f)
  pub columned : Columned slots z a r
  pub entry : Among r.labels g.entry
  pub trees : Each (λ b. HasTree (expressions f) (params_of (slice_get a.blocks b)) (body_of a r b)) r.labels
  pub terms : Each (BlockHasTypes (column_types schema) (expressions f) (types_of slots z) f.result) a.blocks
  pub calls : Each (BlockKeepsTypes (types_of slots z) a) a.blocks

-- ---- what the parts are asked for

missed : (xs : List Expr) (i : ℕ) → slice_get xs i ≡ None → get_or xs i expr.Null ≡ expr.Null
missed [] i h = refl
missed (x ∷ xs) zero h = absurd (cc)
missed (x ∷ xs) (suc i) h = missed xs i h

entry_of : (e : Expr) → IsLinked e → HasNoParameter e → IsEntry e
unfolding with_expr
entry_of e l n = record { linked = l; quiet = n }

null_entry : IsEntry expr.Null
null_entry = record { linked = tt; quiet = λ p. refl }

entries_of : (xs : List Expr) → Each IsLinked xs → Each HasNoParameter xs → (i : ℕ) → IsEntry (get_or xs i expr.Null)
entries_of xs l n i = by (slice_get xs i) refl
  where
    by : (o : Option Expr) → slice_get xs i ≡ o → IsEntry (get_or xs i expr.Null)
    by None h = subst IsEntry (sym (missed xs i h)) null_entry
    by (Some e) h = subst IsEntry (sym (get_or_from_slice_get xs i e expr.Null h)) (entry_of e (l i e h) (n i e h))

as_many : (f : TableSchema → List Ty) (ts : List TableSchema) → length ts ≡ length (map f ts)
as_many f [] = refl
as_many f (t ∷ ts) = ap suc (as_many f ts)

module _ (schema : Schema) (f : Function) (slots : List Slot) (g : Goto) (z : Ssa) (a : Anf) (r : Tail) (h : AreTyped schema f slots g z a r) where
  abbrev m : Making
  m = making_of f slots z a r

  sound : IsSound m
  sound = record { entries = entries_of (expressions f) h.linked h.parameters }

  fits : (l b : ℕ) → slice_get r.labels l ≡ Some b → LabelFits slots z a r (column_types schema) (expressions f) f.result h.columned h.terms h.calls
      (params_of (slice_get a.blocks b)) (get_or r.places l [])
  fits = at_label_fits slots z a r (column_types schema) (expressions f) f.result h.columned h.terms h.calls

  labels : (j b : ℕ) → slice_get r.labels j ≡ Some b → IsLabel m (column_types schema) sound j b
  labels j b e =
      let fit = fits j b e in
      record {
        size = fit.as_many;
        places = fit.have_types;
        tree = h.trees j b e;
        typed = body_typed slots z a r (column_types schema) (expressions f) f.result h.columned h.terms h.calls b;
      }

  fills : FillsCells (column_types schema) m.table m.types m.result r.columns (keys_of m (entry_place m.table m.types m.result a r g.entry))
      (params_of (slice_get a.blocks g.entry))
  fills = by (label_of r g.entry) refl
    where
      by : (o : Option ℕ) → label_of r g.entry ≡ o
          → FillsCells (column_types schema) m.table m.types m.result r.columns (keys_of m (label_or (length r.labels) o))
          (params_of (slice_get a.blocks g.entry))
      by (Some l) e =
          own_cells slots z a r (column_types schema) (expressions f) f.result h.columned h.terms h.calls (params_of (slice_get a.blocks g.entry))
          (get_or r.places l [])
          (fits l g.entry (place_found r.labels g.entry l e))
      by None e = absurd (placed 0 r.labels g.entry h.entry.place h.entry.there e)

  size : length schema.tables ≡ length (column_types schema)
  size = as_many types_in schema.tables

  abbrev note_of : Note → Query → Times → Times → Note
  note_of note q first second =
      joined (joined note (uses_note q))
      (joined (breaks rule.Types (params_in q).clash) (joined (recursion schema first second (out-Query q).recursive).note
      (answer_note (final_shape q (recursion schema first second (out-Query q).recursive)))))

  pub clean : (names : File) → names.query ≡ tree m g.entry (length schema.tables) → IsUnbroken names.note → names.first.refers ≡ Never
      → names.second.refers ≡ Once → IsUnbroken (judged schema names).note
  unfolding judged
  clean names same unbroken first second =
      let small : length (column_types schema) < 2 ^ 64 = subst (λ n. n < 2 ^ 64) size h.few in
      (λ i. (note_of names.note (same i) (first i) (second i)).least)
      ∙ (ap (λ n. (note_of names.note (tree m g.entry n) Never Once).least) size
      ∙ judged_clean schema m sound small labels g.entry h.entry fills names.note unbroken)

  pub typed : typed_whole schema Never (tree m g.entry (length schema.tables)) ≡ true
  typed =
      let small : length (column_types schema) < 2 ^ 64 = subst (λ n. n < 2 ^ 64) size h.few in
      ap (λ n. typed_whole schema Never (tree m g.entry n)) size ∙ tree_typed schema m sound small labels g.entry h.entry fills
