-- Where the check accepts the calls of a query, each value of an argument at a row that is kept is of its parameter's sort.
use Rattle.std.proofs.Common.{◌≡◌, refl, sym, ap, subst, ◌∙◌, Bool, true, false, not, ◌&&◌, List, [], ◌∷◌, ◌++◌, suc, map, length, drop, take, Option, Some, None, Ok, option_map}
use Rattle.std.specs.Prelude.{codes, is_some, flat_map}
use Rattle.std.specs.List.{list_all}
use Rattle.away_values.specs.declared.types.Ty.{Ty}
use Rattle.away_values.specs.declared.values.Value.{Value}
use Rattle.away_values.specs.Results.{Or, and_then}
use Rattle.away_trees.specs.Algebra.{expr_of, from_of, item_of, select_of}
use Rattle.away_trees.specs.Fits.{FitsSchema}
use Rattle.away_trees.specs.declared.queries.Expr.{Expr}
use Rattle.away_trees.specs.declared.queries.Expr.TheVariants as expr
use Rattle.away_trees.specs.declared.queries.Expr.TheViews.{out-Select, out-roll-Select}
use Rattle.away_trees.specs.declared.queries.FromItem.{FromItem}
use Rattle.away_trees.specs.declared.queries.Item.{Item}
use Rattle.away_trees.specs.declared.queries.Select.{Select}
use Rattle.away_trees.specs.declared.schemas.Schema.{Schema}
use Rattle.away_trees.specs.declared.statements.Function.{Function}
use Rattle.away_trees.proofs.Equations as eq
use Rattle.away_names.specs.declared.rule.Rule.TheVariants as rule
use Rattle.away_names.specs.Lookups.{Scope}
use Rattle.away_names.specs.Notes.{breaks}
use Rattle.away_names.specs.Tables.{outermost}
use Rattle.away_names.specs.Trees.{named_select}
use Rattle.away_typing.specs.declared.kind.Kind.{Kind}
use Rattle.away_typing.specs.Kinds.{is_right, type_of}
use Rattle.away_typing.specs.ParameterLists.{params_of, with_query}
use Rattle.away_typing.specs.Parameters.{no_params}
use Rattle.away_typing.specs.Typing as typing
use Rattle.away_typing.specs.Typing.{Places, shape_of}
use Rattle.away_typing.specs.Wholes.{column_types, types_or_none}
use Rattle.away_types.specs.Refusals.{IsUnbroken}
use Rattle.away_types.specs.CheckedRows.{rows_judged}
use Rattle.elaboration.specs.Elaborating.{elaborating}
use Rattle.plsql_meaning.specs.Equivalent.{types_of}
use Rattle.sql_meaning.specs.Context.{Rows, Frame, Context, inside, outermost as outside}
use Rattle.sql_meaning.specs.Meaning.{meaning, value}
use Rattle.sql_meaning.specs.Selects as meant
use Rattle.sql_meaning.specs.Trees.{item, null_of}
use Rattle.type_soundness.specs.Arguments.{Params, Supplied, standing, all}
use Rattle.type_soundness.specs.Sorts.{IsOf, Every}
use Rattle.type_soundness.specs.Surroundings.{IsFrame, Fit}
use Rattle.type_soundness.proofs.CleanNotes.{Clean, clean_parts, test_fails}
use Rattle.type_soundness.proofs.Found.{query_supplied}
use Rattle.type_soundness.proofs.Tables.{fit_plain}
use Rattle.type_soundness.proofs.Trees.{left, right}
use Rattle.inline_law.specs.Filled.{CallingSelect, kept_rows}
use Rattle.inline_law.specs.Answers as law
use Rattle.inline_law.specs.Answers.{FitParameters}
use Rattle.inline_law.specs.Moved.{item_filled}
use Rattle.inline_calls.specs.Forms.{with_list}
use Rattle.inline_calls.specs.Judged.{are_as_many, are_types, asked_items, calls_note, fits, has_many, have_types, judged_list, judged_query, note_by}
use Rattle.inline_calls.specs.Resolving.{all_items, expr_of_item, resolved, slot_places, split}
use Rattle.inline_facts.proofs.SlotsAside.{select_aside}
use Rattle.inline_facts.proofs.Typed.{Parts, parts_of, frames_typed, value_holds, beside_typed}
use Rattle.inline_facts.proofs.Resolved.{Resolved, resolved_of, resolved_expr, made_call}
use Rattle.inline_facts.proofs.Judged.{named, places, marked, verdict, judged_single, single, resolved_select, resolved_is}
use Rattle.inline_facts.proofs.Asked.{AreAsked, Found, IsAsked, all_calls, kind_at, kinds_fused, own_behind, params_at, params_fused, rights_behind, split_is, supplied_behind, type_at, types_behind, types_fused}

not_false : (b : Bool) → not b ≡ false → b ≡ true
not_false true h = refl
not_false false h = cc

both_true : (a b : Bool) → (a && b) ≡ true → (a ≡ true) × (b ≡ true)
both_true true b h = (refl, h)
both_true false b h = cc

same_length : {A B : Type 0} (g : A → B) (xs : List A) → length (map g xs) ≡ length xs
same_length g [] = refl
same_length g (x ∷ xs) = ap suc (same_length g xs)

pub some_shape : (o : Option (List Kind)) → is_some (shape_of o) ≡ true → (ks : List Kind) × (o ≡ Some ks)
some_shape None h = cc
some_shape (Some ks) h = (ks, refl)

module _ (s : Schema) (f : Function) (c : CallingSelect) where
  abbrev y : Select
  y = c.select

  abbrev o : Scope
  o = outermost s

  -- where slots have types, and where none has
  abbrev p : Places
  p = slot_places s f c.calls

  abbrev bare : Places
  bare = places s (with_list y (judged_list f c))

  abbrev judged : Select
  judged = with_list y (judged_list f c)

  -- the judged select over slots with types
  abbrev whole : Select
  whole = (select_of elaborating (named s judged).it.it p).it

  pub record Accepted : Type 0 where
    pub as_many : are_as_many f c ≡ true
    pub columns : have_types f c (verdict s judged).columns ≡ true
    pub names : Clean (named s judged).note
    pub params : (params_of (single (marked s judged))).clash ≡ false
    pub shape : is_some (shape_of (select_of typing.typing (marked s judged) bare)) ≡ true

  pub accepted : IsUnbroken (calls_note s f c) → Accepted
  accepted u =
      let v = verdict s judged in
      let clean_note : Clean (note_by f c v) = subst (λ v. Clean (note_by f c v)) (judged_single s judged) u in
      let both = clean_parts v.note (breaks rule.Types (not (fits f c v.columns))) clean_note in
      let fit = both_true (are_as_many f c) (have_types f c v.columns) (not_false (fits f c v.columns) (test_fails rule.Types (not (fits f c v.columns)) both.1)) in
      let parts = clean_parts _ _ both.0 in
      let names = clean_parts _ _ (clean_parts _ _ parts.0).0 in
      let rest = clean_parts _ _ parts.1 in
      record {
        as_many = fit.0;
        columns = fit.1;
        names = names.1;
        params = test_fails rule.Types _ rest.0;
        shape = not_false _ (test_fails rule.Types _ (clean_parts _ _ rest.1).1);
      }

  module _ (a : Accepted) where
    -- the marks are those over slots
    marked_same : marked s judged ≡ whole
    unfolding named_select
    marked_same = ap (λ m. m.it) (select_aside judged o refl a.names [] p.slots [] (column_types s))

    abbrev found : (ks : List Kind) × (select_of typing.typing (marked s judged) bare ≡ Some ks)
    found = some_shape (select_of typing.typing (marked s judged) bare) a.shape

    abbrev ks : List Kind
    ks = found.0

    pub parts : Parts whole bare ks
    parts = parts_of whole bare ks (ap (λ x. select_of typing.typing x bare) (sym marked_same) ∙ found.1)

    abbrev pub here : Places
    here = typing.inside parts.types bare

    made : Resolved o y p (judged_list f c) whole
    made = resolved_of o y p (judged_list f c)

    abbrev items : List Item
    items = asked_items (types_of f) c.calls

    kinds_are : (args : List Value) → ks ≡ map (kind_at o y p here args) (judged_list f c)
    kinds_are args = parts.kinds_are ∙ (ap (λ l. typing.kinds here (map (λ i. item_of typing.typing i) l)) made.list_is ∙ kinds_fused o y p here args (judged_list f c))

    module _ (args : List Value) (given : Supplied args (verdict s judged).params) where
      select_given : Supplied args (select_of standing whole)
      unfolding with_query
      select_given =
          subst (λ x. Supplied args (select_of standing x)) marked_same
          (left args (select_of standing (marked s judged)) []
          (subst (Supplied args) (eq.of_query standing (marked s judged ∷ [])) (query_supplied args (single (marked s judged)) no_params (a.params, given))))

      abbrev list_params : Params
      list_params = all (map (λ i. item_of standing i) (out-Select whole).list)

      abbrev from_params : Params
      from_params = all (map (λ f. from_of standing f) (out-Select whole).from)

      all_given : Supplied args list_params × Supplied args from_params
      all_given =
          let h = subst (Supplied args) (eq.select_is standing whole) select_given in
          (left args list_params _ h, left args from_params _ (right args list_params _ h))

      list_given : Supplied args (all (map (params_at o y p here args) (judged_list f c)))
      list_given = subst (λ l. Supplied args (all l)) (ap (map (λ i. item_of standing i)) made.list_is ∙ params_fused o y p here args (judged_list f c)) all_given.0

      rights : list_all is_right (map (kind_at o y p here args) (judged_list f c)) ≡ true
      rights = subst (λ ks. list_all is_right ks ≡ true) (kinds_are args) parts.all_right

      columns_are : (verdict s judged).columns ≡ map (type_at o y p here args) (judged_list f c)
      unfolding types_or_none
      columns_are =
          ap (λ o. types_or_none (shape_of o)) found.1
          ∙ (ap typing.types_of (kinds_are args) ∙ types_fused o y p here args (judged_list f c))

      behind : Found o y p here args items (flat_map (λ (es : List Expr). types_of f) c.calls)
      behind = record {
        all_right = rights_behind o y p here args (λ i. item_filled (λ d i. null_of f.result) i) (out-Select y).list items rights;
        typed =
            subst (λ ts. are_types ts (flat_map (λ (es : List Expr). types_of f) c.calls) ≡ true)
            (ap (drop (length (out-Select y).list)) columns_are ∙ types_behind o y p here args (λ i. item_filled (λ d i. null_of f.result) i) (out-Select y).list items)
            a.columns;
        supplied = supplied_behind o y p here args (λ i. item_filled (λ d i. null_of f.result) i) (out-Select y).list items list_given;
      }

      pub asked_are : Every (AreAsked o y p here args (types_of f)) c.calls
      asked_are =
          all_calls o y p here args (types_of f) c.calls
          (subst (λ n. list_all (has_many n) c.calls ≡ true) (sym (same_length (λ q. q.1) f.params)) a.as_many) behind

  -- ---- the arguments, resolved

  abbrev pub resolved_made : Resolved o y p (all_items (out-Select y).list c.calls) (resolved_select s f c)
  resolved_made = resolved_of o y p (all_items (out-Select y).list c.calls)

  pub calls_are : (resolved s f c).calls ≡ map (map (resolved_expr o y p)) c.calls
  calls_are =
      ap (λ (r : CallingSelect). r.calls) (resolved_is s f c)
      ∙ (ap (λ l. split c.calls (map expr_of_item (drop (length (out-Select y).list) l))) resolved_made.list_is
      ∙ (ap (λ l. split c.calls (map expr_of_item l)) (own_behind o y p (out-Select y).list (flat_map (map item) c.calls))
      ∙ split_is o y p c.calls))

  abbrev rows_by : List FromItem → Option Expr → Context → Or (List Frame)
  rows_by from filter cx = and_then (meant.product cx (map (λ f. from_of meaning f) from) ([] ∷ [])) (meant.kept cx (option_map (λ e. expr_of meaning e) filter))

  abbrev pub own_list : List Item
  own_list = take (length (out-Select y).list) (out-Select (resolved_select s f c)).list

  pub select_is : (resolved s f c).select ≡ with_list (resolved_select s f c) own_list
  select_is = ap (λ (r : CallingSelect). r.select) (resolved_is s f c)

  -- FROM and WHERE are those of the judged select
  kept_same : (cx : Context) → kept_rows (resolved s f c).select cx ≡ kept_rows whole cx
  kept_same cx =
      let made = resolved_of o y p (judged_list f c) in
      let from_is = ap (λ f. f.from) (out-roll-Select _) ∙ (resolved_made.from_is ∙ sym made.from_is) in
      let filter_is = ap (λ f. f.filter) (out-roll-Select _) ∙ (resolved_made.filter_is ∙ sym made.filter_is) in
      ap (λ x. kept_rows x cx) select_is ∙ (λ i. rows_by (from_is i) (filter_is i) cx)

  module _ (a : Accepted) (tables : List Rows) (args : List Value) (fitting : FitsSchema s tables) (given : Supplied args (verdict s judged).params) where
    abbrev cx : Context
    cx = outside tables args

    abbrev types : typing.Frame
    types = (parts a).types

    abbrev there : Places
    there = typing.inside types bare

    fit : Fit bare cx
    fit = fit_plain s tables args fitting

    module _ (frame : Frame) (seen : IsFrame types frame) where
      one_fits : (t : Ty) (e : Expr) → IsAsked o y p there args t e → (v : Value) → value (resolved_expr o y p e) (inside frame cx) ≡ Ok v → IsOf t v
      one_fits t e h v g =
          let x = resolved_expr o y p e in
          let other = resolved_expr o y p (null_of t) in
          let call_is = made_call o y p (codes "coalesce") e (null_of t) in
          let call = expr.Call (codes "coalesce") (x ∷ other ∷ []) in
          let supplied : Supplied args (expr_of standing x) =
          left args (expr_of standing x) (expr_of standing other ++ [])
          (subst (Supplied args) (eq.of_call standing (codes "coalesce") (x ∷ other ∷ [])) (subst (λ z. Supplied args (expr_of standing z)) call_is h.given)) in
          beside_typed x other there t (subst (λ z. is_right (expr_of typing.typing z there) ≡ true) call_is h.right_kind) (subst (λ z. type_of (expr_of typing.typing z there) ≡ t) call_is h.of_type) v
          (value_holds x bare cx types frame fit seen supplied v g)

      call_fits : (ts : List Ty) (es : List Expr) → AreAsked o y p there args ts es → FitParameters (inside frame cx) ts (map (resolved_expr o y p) es)
      call_fits [] [] h = tt
      call_fits (t ∷ ts) (e ∷ es) h = (one_fits t e h.0, call_fits ts es h.1)
      call_fits [] (e ∷ es) h = absurd h
      call_fits (t ∷ ts) [] h = absurd h

      calls_fit : (calls : List (List Expr)) → Every (AreAsked o y p there args (types_of f)) calls → law.Every (FitParameters (inside frame cx) (types_of f)) (map (map (resolved_expr o y p)) calls)
      calls_fit [] h = tt
      calls_fit (es ∷ calls) h = (call_fits (types_of f) es h.0, calls_fit calls h.1)

    abbrev FitsAt : List (List Expr) → Frame → Type 0
    FitsAt calls frame = law.Every (FitParameters (inside frame cx) (types_of f)) calls

    all_fit : (frames : List Frame) → Every (IsFrame types) frames → law.Every (FitsAt (resolved s f c).calls) frames
    all_fit [] h = tt
    all_fit (frame ∷ frames) h = (subst (λ calls. FitsAt calls frame) (sym calls_are) (calls_fit frame h.0 c.calls (asked_are a args given)), all_fit frames h.1)

    pub arguments_fit : (frames : List Frame) → kept_rows (resolved s f c).select cx ≡ Ok frames → law.Every (FitsAt (resolved s f c).calls) frames
    arguments_fit frames e = all_fit frames (frames_typed whole bare cx types fit (all_given a args given).1 (parts a).framed_is frames (sym (kept_same cx) ∙ e))

-- the judged query's parameters and types are as the law asks
pub typed : (s : Schema) (f : Function) (c : CallingSelect) → IsUnbroken (calls_note s f c)
    → (tables : List Rows) (args : List Value) → FitsSchema s tables → Supplied args (rows_judged s (judged_query f c)).params
    → (frames : List Frame) → kept_rows (resolved s f c).select (outside tables args) ≡ Ok frames
    → law.Every (λ (frame : Frame). law.Every (FitParameters (inside frame (outside tables args)) (types_of f)) (resolved s f c).calls) frames
typed s f c u tables args fitting given frames e =
    arguments_fit s f c (accepted s f c u) tables args fitting (subst (λ v. Supplied args v.params) (judged_single s (with_list c.select (judged_list f c))) given) frames e
