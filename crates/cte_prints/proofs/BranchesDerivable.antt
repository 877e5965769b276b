-- The branches of labels can be derived, and so can the rows of the labels, beside the working table.
use Rattle.std.proofs.Common.{◌≡◌, refl, sym, subst, ℕ, suc, ◌+◌, ◌<◌, ◌≤◌, ◌^◌, List, [], ◌∷◌, ◌++◌, length, Option, Some, None, arith}
use Rattle.std.specs.Prelude.{slice_get}
use Rattle.std.proofs.lemmas.Option.{slice_get_within}
use Rattle.away_grammar.specs.Grammar.{from_item}
use Rattle.away_trees.specs.declared.queries.Expr.TheViews.{roll-Query}
use Rattle.away_trees.specs.declared.schemas.Schema.{Schema}
use Rattle.away_types.specs.declared.slots.Slot.{Slot}
use Rattle.away_names.specs.declared.scope.Listed.{Listed}
use Rattle.away_names.specs.Lookups.{Name, Level, Scope, inside}
use Rattle.block_forms.specs.Places.{Each, EachPair}
use Rattle.call_forms.specs.Bodies.{body_of}
use Rattle.call_forms.specs.Columned.{PlacesAt}
use Rattle.call_forms.specs.Forms.{params_of}
use Rattle.call_forms.specs.Scopes.{paired}
use Rattle.call_forms.specs.Templated.{HasTree}
use Rattle.call_law.proofs.Labels.{element_there}
use Rattle.cte_template.specs.Making.{Making}
use Rattle.cte_template.specs.Numbers.{walk_of, NumbersFit}
use Rattle.cte_template.specs.Places.{nowhere, row_place}
use Rattle.cte_template.specs.Tree.{at_label, branch, branches, label_rows}
use Rattle.cte_template.specs.Walks.{keys_of}
use Rattle.cte_template.proofs.PlaceRules.{found_or}
use Rattle.qualified_names.specs.Trees.{qualified_part}
use Rattle.qualified_names.proofs.Gives.{Every}
use Rattle.sql_meaning.specs.Trees.{col}
use Rattle.cte_parts.specs.Names.{table_name, step_name, go_name, label_name, result_name, fault_name, value_names, row_names}
use Rattle.cte_parts.specs.Trees.{gate_as, lateral_as}
use Rattle.cte_names.specs.Own.{SeesTables}
use Rattle.cte_names.proofs.BodiesClear.{TableClears, sees_inside}
use Rattle.cte_names.proofs.BranchesClear as clear
use Rattle.cte_names.proofs.BranchesClear.{KeysFit, keys_fit, under, row_of, row_own}
use Rattle.cte_names.proofs.OwnColumns.{Own, own_deeper}
use Rattle.cte_prints.specs.Derivable.{Derivable}
use Rattle.cte_prints.specs.InSight.{ItemIsWritable, SightIsWritable}
use Rattle.cte_prints.specs.DerivableParts.{TableIsDerivable, BodyFits, further_in}
use Rattle.cte_prints.proofs.BodiesDerivable.{body_derives}
use Rattle.cte_prints.proofs.QualifiedParts.{DerivableAt, SelectDerivable, union_derives, lateral_derives}
use Rattle.cte_prints.proofs.OwnDerivable.{seen_writable, column_alone, gated}
use Rattle.cte_prints.proofs.SmallDerivable.{is_number_derives}
use Rattle.cte_prints.proofs.OwnWritableNames.{table_derivable, step_derivable, row_derivable}

pub row_in_sight : (w : ℕ) → w < 2 ^ 64 → ItemIsWritable (row_of w)
row_in_sight w narrow = seen_writable table_name (row_names w) table_derivable (row_derivable w narrow)

module _ (schema : Schema) (m : Making) (clears : TableClears schema m.table) (narrow : length m.tail.columns < 2 ^ 64)
    (d tests : ℕ) (derives : (e : ℕ) → d ≤ e → TableIsDerivable (suc e) schema m.table) (tables : Name → Option Listed) (sees : SeesTables schema (under schema tables))
    (few : length m.tail.labels < 2 ^ 63) where
  abbrev width : ℕ
  width = length m.tail.columns

  abbrev outside : Scope
  outside = under schema tables

  -- a label's branch sees the working table
  abbrev here : Scope
  here = inside (row_of width ∷ []) outside

  here_derivable : SightIsWritable here.levels
  here_derivable = ((row_in_sight width narrow, tt), tt)

  abbrev depth : ℕ
  depth = suc (suc (further_in d tests))

  -- ---- a branch

  label_derives : (n i : ℕ) → i < 2 ^ 63 → DerivableAt (suc n) ([] ∷ [] ∷ here.levels) (at_label m i)
  label_derives n i low =
      let ls : List Level = [] ∷ [] ∷ here.levels in
      let own : Own 1 ls (record { level = 2; item = 0; column = 1 }) =
      own_deeper 1 ([] ∷ here.levels) (record { level = 1; item = 0; column = 1 })
      (own_deeper 1 here.levels (record { level = 0; item = 0; column = 1 }) (row_own 1 width 1 narrow (omega arith))) in
      is_number_derives n ls (col 2 0 1) i low (column_alone 1 ls (record { level = 2; item = 0; column = 1 }) own (tt, (tt, here_derivable)) (suc n))

  branch_derives : (i b : ℕ) → suc i < 2 ^ 63 → KeysFit width (params_of (slice_get m.anf.blocks b)) (keys_of m i)
      → HasTree m.table (params_of (slice_get m.anf.blocks b)) (body_of m.anf m.tail b) → BodyFits (body_of m.anf m.tail b) tests →
      (walk_of m i b).next ≤ 2 ^ 64
      → SelectDerivable depth here.levels (branch m i b)
  branch_derives i b small fit has fits low =
      let params : List ℕ = params_of (slice_get m.anf.blocks b) in
      body_derives schema m clears narrow d derives (body_of m.anf m.tail b) 2 1 here (gate_as 1 (at_label m (suc i)) ∷ []) params
      (paired row_place nowhere params (keys_of m i))
      (sees_inside schema outside (row_of width ∷ []) sees) has low
      (clear.behind_gate schema m clears narrow tables sees params (keys_of m i) fit (suc i)) here_derivable tests fits
      (gated (further_in d tests) 1 here.levels (at_label m (suc i)) (omega arith) (label_derives (further_in d tests) (suc i) small))

  -- ---- all branches

  from_there : (i : ℕ) (bs : List ℕ) → ((j b : ℕ) → slice_get bs j ≡ Some b → SelectDerivable depth here.levels (branch m (i + j) b)) → Every
      (SelectDerivable depth here.levels) (branches m i bs)
  from_there i [] h = tt
  from_there i (b ∷ bs) h =
      let first : i + 0 ≡ i = omega arith in (
        subst (λ j. SelectDerivable depth here.levels (branch m j b)) first (h 0 b refl),
        from_there (suc i) bs (λ j x there. let next : i + suc j ≡ suc i + j = omega arith in subst (λ j. SelectDerivable depth here.levels (branch m j x)) next
            (h (suc j) x there)),
      )

  -- the rows of labels, of which there is one
  rows_of : (bs : List ℕ) → 0 < length bs → Every (SelectDerivable depth here.levels) (branches m 0 bs)
      → Derivable (suc depth) from_item (qualified_part (lateral_as step_name (row_names width)
      (roll-Query (record { recursive = None; selects = branches m 0 bs }))) [] (row_of width ∷ [])).item
  rows_of [] some h = absurd (omega (arith, some))
  rows_of (b ∷ bs) some h =
      lateral_derives depth step_name go_name (label_name ∷ value_names width ++ (result_name ∷ fault_name ∷ []))
      (roll-Query (record { recursive = None; selects = branches m 0 (b ∷ bs) }))
      [] (row_of width ∷ []) step_derivable (row_derivable width narrow) (union_derives depth here.levels (branch m 0 b) (branches m 1 bs) h)

  module _ (slots : List Slot) (names : List ℕ) (as_many : length m.tail.places ≡ length m.tail.labels)
      (placed : EachPair (λ i b places. PlacesAt slots names m.tail.columns (slice_get m.anf.blocks b) places) m.tail.labels m.tail.places)
      (trees : Each (λ b. HasTree m.table (params_of (slice_get m.anf.blocks b)) (body_of m.anf m.tail b)) m.tail.labels)
      (bodies : Each (λ b. BodyFits (body_of m.anf m.tail b) tests) m.tail.labels) (fits : NumbersFit m) (some : 0 < length m.tail.labels) where
    each_branch : (i b : ℕ) → slice_get m.tail.labels i ≡ Some b → SelectDerivable depth here.levels (branch m i b)
    each_branch i b there =
        let lt : i < length m.tail.labels = slice_get_within m.tail.labels i b there in
        let keys = element_there m.tail.places i (subst (λ l. i < l) (sym as_many) lt) in
        let fit : KeysFit width (params_of (slice_get m.anf.blocks b)) keys.0 =
        keys_fit slots names m.tail.columns (slice_get m.anf.blocks b) keys.0 (placed i b keys.0 there keys.1) in
        branch_derives i b (omega (arith, lt, few)) (subst (KeysFit width (params_of (slice_get m.anf.blocks b)))
        (sym (found_or m.tail.places i keys.0 keys.1)) fit) (trees i b there) (bodies i b there)
        (fits.aliases i b there)

    pub rows_derive : Derivable (suc depth) from_item (qualified_part (label_rows m) [] (row_of width ∷ [])).item
    rows_derive = rows_of m.tail.labels some (from_there 0 m.tail.labels
        (λ j b there. let same : j ≡ 0 + j = omega arith in subst (λ j. SelectDerivable depth here.levels (branch m j b)) same (each_branch j b there)))
