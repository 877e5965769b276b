-- The branches of labels are clear, and so are the rows of the labels, beside the working table.
use Rattle.std.proofs.Common.{◌≡◌, refl, ap, sym, ◌∙◌, subst, ℕ, suc, ◌+◌, ◌<◌, ◌≤◌, ◌^◌, true, pos}
use Rattle.std.proofs.Common.{List, [], ◌∷◌, ◌++◌, length, Option, Some, None, option_map, arith}
use Rattle.std.specs.Prelude.{slice_get}
use Rattle.std.proofs.lemmas.Option.{slice_get_within, slice_get-map}
use Rattle.away_trees.specs.declared.queries.Expr.{Expr}
use Rattle.away_trees.specs.declared.schemas.Schema.{Schema}
use Rattle.away_types.specs.declared.slots.Slot.{Slot}
use Rattle.away_values.specs.declared.operators.CmpOp.TheVariants as cmp
use Rattle.away_values.specs.declared.types.Ty.{Ty}
use Rattle.away_values.specs.declared.types.Ty.TheVariants as ty
use Rattle.away_names.specs.declared.scope.Listed.{Listed}
use Rattle.away_names.specs.declared.scope.Seen.{Seen}
use Rattle.away_names.specs.Lookups.{Name, Scope, inside}
use Rattle.away_names.specs.Tables.{outermost}
use Rattle.block_forms.specs.Places.{Each, EachPair}
use Rattle.call_forms.specs.Bodies.{body_of}
use Rattle.call_forms.specs.Called.{Among}
use Rattle.call_forms.specs.Columned.{HasType, PlacesAt, type_of_name}
use Rattle.call_forms.specs.declared.forms.AnfBlock.{AnfBlock}
use Rattle.call_forms.specs.Forms.{params_of}
use Rattle.call_forms.specs.Scopes as scopes
use Rattle.call_forms.specs.Scopes.{paired}
use Rattle.call_forms.specs.Template.{entry_place}
use Rattle.call_forms.specs.Templated.{HasTree}
use Rattle.call_law.proofs.Labels.{element_there}
use Rattle.cte_template.specs.Making.{Making}
use Rattle.cte_template.specs.Numbers.{walk_of, NumbersFit}
use Rattle.cte_template.specs.Places.{nowhere, row_place, seen, beside}
use Rattle.cte_template.specs.Tree.{at_label, branch, branches, start, label_rows}
use Rattle.cte_template.specs.Walks.{keys_of, argument, arguments_at}
use Rattle.cte_template.specs.declared.places.ItemColumn.{ItemColumn}
use Rattle.cte_template.proofs.PlaceRules.{found_or}
use Rattle.cte_template.proofs.PlacesSeen.{row_shallow}
use Rattle.qualified_names.specs.Unambiguous as c
use Rattle.qualified_names.specs.Unambiguous.{IsClear, value, from_item, select, selects}
use Rattle.sql_meaning.specs.Trees.{truth, number, null_of, one}
use Rattle.sql_meaning.specs.Trees as tree
use Rattle.cte_parts.specs.Names.{table_name, step_name, only_name, row_names, alias_name}
use Rattle.cte_parts.specs.Trees.{gate_as}
use Rattle.cte_names.specs.Own.{SeesTables}
use Rattle.cte_names.proofs.BodiesClear.{TableClears, sees_inside, body_clear}
use Rattle.cte_names.proofs.Differences.{every_both, no_double, own_place}
use Rattle.cte_names.proofs.ItemsSeen.{seen_as}
use Rattle.cte_names.proofs.OwnColumns.{Older, Own, column_clear, own_deeper, own_last}
use Rattle.cte_names.proofs.OwnNames.{letter_apart, table_kept, only_apart, row_apart, column_there}
use Rattle.cte_names.proofs.PassedNames.{paired_holds}
use Rattle.cte_names.proofs.Sighted.{Sighted, added}
use Rattle.cte_names.proofs.SmallParts.{Clears, truth_clear, number_clear, null_clear, alone_clear, gate_clear}

-- a whole query's place, where these tables may be named
abbrev pub under : Schema → (Name → Option Listed) → Scope
under schema tables = record (outermost schema) { table = tables }

-- ---- the working table as names see it

abbrev pub row_of : ℕ → Seen
row_of w = seen_as table_name (row_names w)

pub table_older : (k : ℕ) → Older k table_name
table_older k j le fits = letter_apart table_name (alias_name j) refl

unfoldable pub row_own : (k w i : ℕ) → w < 2 ^ 64 → i < suc (suc (suc (suc w))) → Own k ((row_of w ∷ []) ∷ []) (record { level = 0; item = 0; column = i })
row_own k w i narrow lt =
    let there = column_there w i lt in
    own_last k [] [] (row_of w) there.name i table_kept there.kept (table_older k) tt
    (slice_get-map (λ n. Some n) (row_names w) i ∙ ap (λ o. option_map (λ n. Some n) o) there.there)
    (own_place (row_names w) i there.name (row_apart w narrow) there.there)

-- ---- the places of a label's parameters

pub record KeysFit (w : ℕ) (params keys : List ℕ) : Type 0 where
  pub as_many : length keys ≡ length params
  pub within : (n : ℕ) → Among keys n → n < w

typed_within : (columns : List Ty) (i : ℕ) (t : Option Ty) → HasType t (slice_get columns i) → i < length columns
typed_within columns i None h = absurd h
typed_within columns i (Some t) h = slice_get_within columns i t h

pub keys_fit : (slots : List Slot) (names : List ℕ) (columns : List Ty) (x : Option AnfBlock) (keys : List ℕ) → PlacesAt slots names columns x keys
    → KeysFit (length columns) (params_of x) keys
keys_fit slots names columns None keys h = absurd h
keys_fit slots names columns (Some x) keys h = record {
  as_many = h.as_many;
  within = λ n among.
      let lt : among.place < length keys = slice_get_within keys among.place n among.there in
      let param = element_there x.params among.place (subst (λ l. among.place < l) h.as_many lt) in
      typed_within columns n (type_of_name slots names param.0) (h.typed among.place param.0 n param.1 among.there);
}

module _ (schema : Schema) (m : Making) (clears : TableClears schema m.table) (narrow : length m.tail.columns < 2 ^ 64) (tables : Name → Option Listed)
    (sees : SeesTables schema (under schema tables)) where
  abbrev width : ℕ
  width = length m.tail.columns

  abbrev outside : Scope
  outside = under schema tables

  -- a label's branch sees the working table
  abbrev here : Scope
  here = inside (row_of width ∷ []) outside

  -- ---- a branch

  module _ (params keys : List ℕ) (fit : KeysFit width params keys) where
    abbrev pub places : scopes.Scope ItemColumn
    places = paired row_place nowhere params keys

    key_own : (n : ℕ) → Among keys n → Own 1 ([] ∷ (row_of width ∷ []) ∷ []) (seen 1 (row_place n))
    key_own n among =
        let lt : n < width = fit.within n among in
        own_deeper 1 ((row_of width ∷ []) ∷ []) (record { level = 0; item = 0; column = suc (suc n) })
        (row_own 1 width (suc (suc n)) narrow (omega (arith, lt)))

    pub nothing_yet : Sighted 1 1 here [] params places
    nothing_yet = record {
      level = [];
      seen_is = refl;
      as_many = refl;
      aliases_are = refl;
      apart = tt;
      older = tt;
      clear = λ gs clear. clear;
      own = λ n among. paired_holds (λ p. Own 1 ([] ∷ (row_of width ∷ []) ∷ []) (seen 1 p)) row_place nowhere params keys n fit.as_many key_own among;
      shallow = row_shallow params keys;
    }

    label_clear : (n : ℕ) → IsClear value (inside [] (inside [] here)) (at_label m n)
    label_clear n =
        c.compare cmp.Eq
        (column_clear 1 (inside [] (inside [] here)) (record { level = 2; item = 0; column = 1 })
        (own_deeper 1 _ (record { level = 1; item = 0; column = 1 })
        (own_deeper 1 ((row_of width ∷ []) ∷ []) (record { level = 0; item = 0; column = 1 }) (row_own 1 width 1 narrow (omega arith)))))
        (number_clear (inside [] (inside [] here)) (pos n))

    pub behind_gate : (n : ℕ) → Sighted 2 1 here (gate_as 1 (at_label m n) ∷ []) params places
    unfolding nothing_yet
    behind_gate n =
        added 1 1 here [] params places (omega arith) nothing_yet only_name [] (one (tree.select (truth true ∷ []) [] (Some (at_label m n)))) only_apart
        (gate_clear (inside [] here) (at_label m n) (label_clear n))

  branch_clear : (i b : ℕ) → KeysFit width (params_of (slice_get m.anf.blocks b)) (keys_of m i)
      → HasTree m.table (params_of (slice_get m.anf.blocks b)) (body_of m.anf m.tail b)
      → (walk_of m i b).next ≤ 2 ^ 64 → IsClear select here (branch m i b)
  branch_clear i b fit has low =
      let params : List ℕ = params_of (slice_get m.anf.blocks b) in
      body_clear schema m clears narrow (body_of m.anf m.tail b) 2 1 here (gate_as 1 (at_label m (suc i)) ∷ []) params
      (paired row_place nowhere params (keys_of m i))
      (sees_inside schema outside (row_of width ∷ []) sees) has low (behind_gate params (keys_of m i) fit (suc i))

  -- ---- all branches

  from_there : (i : ℕ) (bs : List ℕ) → ((j b : ℕ) → slice_get bs j ≡ Some b → IsClear select here (branch m (i + j) b)) → IsClear selects here (branches m i bs)
  from_there i [] h = c.no_select
  from_there i (b ∷ bs) h =
      let first : i + 0 ≡ i = omega arith in
      c.one_select (subst (λ j. IsClear select here (branch m j b)) first (h 0 b refl))
      (from_there (suc i) bs
      (λ j x there. let next : i + suc j ≡ suc i + j = omega arith in subst (λ j. IsClear select here (branch m j x)) next (h (suc j) x there)))

  module _ (slots : List Slot) (names : List ℕ) (as_many : length m.tail.places ≡ length m.tail.labels)
      (placed : EachPair (λ i b places. PlacesAt slots names m.tail.columns (slice_get m.anf.blocks b) places) m.tail.labels m.tail.places)
      (trees : Each (λ b. HasTree m.table (params_of (slice_get m.anf.blocks b)) (body_of m.anf m.tail b)) m.tail.labels) (fits : NumbersFit m) where
    each_branch : (i b : ℕ) → slice_get m.tail.labels i ≡ Some b → IsClear select here (branch m i b)
    each_branch i b there =
        let lt : i < length m.tail.labels = slice_get_within m.tail.labels i b there in
        let keys = element_there m.tail.places i (subst (λ l. i < l) (sym as_many) lt) in
        let fit : KeysFit width (params_of (slice_get m.anf.blocks b)) keys.0 =
        keys_fit slots names m.tail.columns (slice_get m.anf.blocks b) keys.0 (placed i b keys.0 there keys.1) in
        branch_clear i b (subst (KeysFit width (params_of (slice_get m.anf.blocks b))) (sym (found_or m.tail.places i keys.0 keys.1)) fit) (trees i b there)
        (fits.aliases i b there)

    pub rows_clear : IsClear (from_item (row_of width ∷ [])) outside (label_rows m)
    rows_clear =
        c.subquery step_name (row_names width) true (no_double (row_names width) (row_apart width narrow))
        (c.union (from_there 0 m.tail.labels
        (λ j b there. let same : j ≡ 0 + j = omega arith in subst (λ j. IsClear select here (branch m j b)) same (each_branch j b there))))

  -- ---- the first row

  argument_clear : (s : Scope) (t : Ty) (o : Option ℕ) → IsClear value s (argument m t o)
  argument_clear s t None = null_clear s t
  argument_clear s t (Some n) = c.param (suc n) (m.types n)

  arguments_clear : (s : Scope) (i : ℕ) (keys params : List ℕ) (ts : List Ty) → Clears s (arguments_at m i keys params ts)
  arguments_clear s i keys params [] = tt
  arguments_clear s i keys params (t ∷ ts) = (argument_clear s t (beside keys params i), arguments_clear s (suc i) keys params ts)

  pub start_clear : (entry : ℕ) → IsClear select outside (start m entry)
  start_clear entry =
      let place : ℕ = entry_place m.table m.types m.result m.anf m.tail entry in
      let arguments : List Expr = arguments_at m 0 (keys_of m place) (params_of (slice_get m.anf.blocks entry)) m.tail.columns in
      let first : Scope = inside [] outside in
      alone_clear outside (truth true ∷ number (pos (suc place)) ∷ arguments ++ (null_of m.result ∷ null_of ty.Text ∷ [])) (
        truth_clear first true,
        (
          number_clear first (pos (suc place)),
          every_both (λ e. IsClear value first e) arguments (null_of m.result ∷ null_of ty.Text ∷ [])
              (arguments_clear first 0 (keys_of m place) (params_of (slice_get m.anf.blocks entry)) m.tail.columns)
              (null_clear first m.result, (null_clear first ty.Text, tt)),
        ),
      )
