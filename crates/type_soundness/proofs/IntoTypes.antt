-- The tests of a SELECT INTO are boolean, and each pick has its target's type.
use Rattle.std.proofs.Common.{◌≡◌, refl, sym, ap, ◌∙◌, subst, ℕ, zero, suc, ◌+◌, Bool, true, false, not, ◌||◌, List, [], ◌∷◌, map, slice_get, Option, Some, None, Ok, arith}
use Rattle.std.proofs.lemmas.Bool.{false≢true}
use Rattle.std.specs.Prelude.{if◌then◌else◌}
use Rattle.away_values.specs.declared.types.Ty.{Ty}
use Rattle.away_values.specs.declared.types.Ty.TheVariants as ty
use Rattle.away_values.specs.declared.types.Ty.TheVariants.{Boolean}
use Rattle.away_values.specs.declared.operators.CmpOp.{CmpOp}
use Rattle.away_values.specs.declared.operators.CmpOp.TheVariants as cmp
use Rattle.away_values.specs.declared.values.Value.{Value}
use Rattle.away_values.specs.declared.values.Value.TheVariants as val
use Rattle.away_values.specs.Results.{and_then}
use Rattle.away_trees.specs.declared.queries.Expr.{Expr}
use Rattle.away_trees.specs.declared.queries.Expr.TheVariants as expr
use Rattle.away_trees.specs.declared.queries.Expr.TheViews.{out-Select, out-roll-Select}
use Rattle.away_trees.specs.declared.queries.Select.{Select}
use Rattle.away_trees.specs.declared.schemas.Schema.{Schema}
use Rattle.away_trees.specs.Algebra.{expr_of, select_of}
use Rattle.away_trees.proofs.Equations as eq
use Rattle.away_names.specs.declared.rule.Rule.TheVariants as rule
use Rattle.away_names.specs.Notes.{breaks}
use Rattle.away_typing.specs.declared.kind.Kind.{Kind}
use Rattle.away_typing.specs.declared.kind.Kind.TheVariants.{Null, Of, Sum, Wrong}
use Rattle.away_typing.specs.Kinds.{fits, meet, only_if, is_right, same}
use Rattle.away_typing.specs.Typing.{cast_kind, castable}
use Rattle.away_typing.specs.Trees.{kinds_of_select, uses_of_select}
use Rattle.elaboration.specs.Converting.{Around, assignable, converts, into_converted, items_marked, select_marked, slot_type, with_list}
use Rattle.elaboration.specs.Elaborating.{elaborated_select}
use Rattle.elaboration_law.specs.Laws.{Found}
use Rattle.sql_meaning.specs.Context.{Rows, Context, at, inside}
use Rattle.sql_meaning.specs.Meaning.{meaning, rows_of_select, value}
use Rattle.plsql_meaning.specs.Conversions.{converted_value}
use Rattle.away_types.specs.declared.slots.Slot.{Slot}
use Rattle.away_types.specs.FunctionChecks.{around_in, asked_in, slot_types}
use Rattle.away_types.specs.StatementTypes.{Asked, takes, all_taken, takes_list, asked_of_targets, slot_of}
use Rattle.select_into.specs.Entries.{Target, cast_at, check_entries, pick_entry, target_types, unmarked}
use Rattle.select_into.specs.Laws.{KeepsRows, first_row}
use Rattle.select_into.specs.Wrapped.{pick_as, picked}
use Rattle.type_soundness.specs.Arguments.{Supplied, standing}
use Rattle.type_soundness.specs.AskedTypes as here
use Rattle.type_soundness.specs.AskedTypes.{GivesItsType}
use Rattle.type_soundness.specs.Sorts.{Every}
use Rattle.type_soundness.specs.Surroundings.{Fit}
use Rattle.type_soundness.specs.TypedValues.{Holds}
use Rattle.type_soundness.proofs.CleanNotes.{Clean, clean_parts, test_fails}
use Rattle.type_soundness.proofs.Deeper.{deeper, select_deeper}
use Rattle.type_soundness.proofs.ItemMarks.{marks_keep_types, kinds_count, cast_is}
use Rattle.type_soundness.proofs.KindRules.{fits_typed, holds_at, holds_null}
use Rattle.type_soundness.proofs.Lists.{every_append, zip_at}
use Rattle.type_soundness.proofs.NoArguments.{none_supplied}
use Rattle.type_soundness.proofs.Nodes.{compare_at}
use Rattle.type_soundness.proofs.Operators.{cast_typed}
use Rattle.select_into.proofs.Values.{cast_pick_is}
use Rattle.type_soundness.proofs.Places.{fit_inside}
use Rattle.type_soundness.proofs.Recursions.{both_true, not_false}
use Rattle.type_soundness.proofs.Results.{Then, then_of, ok_is}
use Rattle.type_soundness.proofs.Selects.{IsColumn, IsListed}
use Rattle.type_soundness.proofs.Trees.{select_holds}

-- ---- rows of kinds

none_at : (j : ℕ) → at [] j ≡ val.Null
none_at zero = refl
none_at (suc j) = refl

pub neither : (a b : Bool) → (a || b) ≡ false → (a ≡ false) × (b ≡ false)
neither true b h = cc
neither false b h = (refl, h)

-- ---- what may stand for a target

-- a cast gives the type that a place asks for
cast_assignable : (t : Ty) (k : Kind) → assignable t k ≡ true → cast_kind t k ≡ Of t
unfolding assignable fits converts cast_kind castable only_if same
cast_assignable t Null h = refl
cast_assignable ty.Bigint (Of ty.Bigint) h = refl
cast_assignable ty.Bigint (Of ty.Integer) h = refl
cast_assignable ty.Bigint (Of ty.Boolean) h = absurd (false≢true h)
cast_assignable ty.Bigint (Of ty.Text) h = absurd (false≢true h)
cast_assignable ty.Integer (Of ty.Integer) h = refl
cast_assignable ty.Integer (Of ty.Bigint) h = refl
cast_assignable ty.Integer (Of ty.Boolean) h = absurd (false≢true h)
cast_assignable ty.Integer (Of ty.Text) h = absurd (false≢true h)
cast_assignable ty.Boolean (Of ty.Boolean) h = refl
cast_assignable ty.Boolean (Of ty.Bigint) h = absurd (false≢true h)
cast_assignable ty.Boolean (Of ty.Integer) h = absurd (false≢true h)
cast_assignable ty.Boolean (Of ty.Text) h = absurd (false≢true h)
cast_assignable ty.Text (Of u) h = refl
cast_assignable ty.Bigint Sum h = absurd (false≢true h)
cast_assignable ty.Integer Sum h = absurd (false≢true h)
cast_assignable ty.Boolean Sum h = absurd (false≢true h)
cast_assignable ty.Text Sum h = absurd (false≢true h)
cast_assignable ty.Bigint Wrong h = absurd (false≢true h)
cast_assignable ty.Integer Wrong h = absurd (false≢true h)
cast_assignable ty.Boolean Wrong h = absurd (false≢true h)
cast_assignable ty.Text Wrong h = absurd (false≢true h)

left_if : (a b : Bool) → (a || b) ≡ true → b ≡ false → a ≡ true
left_if true b h k = refl
left_if false b h k = absurd (false≢true (sym k ∙ h))

fits_alone : (t : Ty) (k : Kind) → converts t k ≡ false → assignable t k ≡ true → fits t k ≡ true
unfolding assignable
fits_alone t k c h = left_if (fits t k) (converts t k) h c

module _ (s : Schema) (slots : List Slot) (result : Ty) where
  abbrev a : Asked
  a = asked_in s slots result

  abbrev Gives : Option Ty × Expr → Type 0
  Gives = GivesItsType s slots result

  abbrev AllGive : here.Asked → Type 0
  AllGive = Every Gives

  -- by which the statements are converted
  abbrev w : Around
  w = around_in s slots result

  -- ---- tests

  compared_typed : (op : CmpOp) (x y : Expr) → Gives (Some Boolean, expr.Compare op x y)
  unfolding only_if is_right meet
  compared_typed op x y cx v fit none e =
      compare_at a.places cx op (λ p. Null) (λ p. Null) (expr_of meaning x) (expr_of meaning y) v (sym (ap (λ m. m.value cx) (eq.of_compare meaning op x y)) ∙ e)

  tests_typed : (strict : Bool) (q : Select) → AllGive (map (λ e. (Some Boolean, e)) (check_entries strict q))
  tests_typed true q = (compared_typed cmp.Eq _ _, (compared_typed cmp.Gt _ _, tt))
  tests_typed false q = tt

  -- ---- picks

  module _ (kinds_asked : List Ty) (q : Select) (all : List Kind) (kinds : kinds_of_select q a.places ≡ Some all) where
    -- its rows, one select further in
    listed : (cx : Context) → Fit a.places cx → cx.args ≡ [] → (rows : Rows) → rows_of_select q (inside [] cx) ≡ Ok rows → Every (IsListed all) rows
    unfolding kinds_of_select
    listed cx fit none rows e =
        select_holds q (deeper a.places) (inside [] cx) (fit_inside a.places cx [] [] fit tt)
        (subst (λ args. Supplied args (select_of standing q)) (sym none) (none_supplied (select_of standing q))) all (select_deeper q a.places ∙ kinds) rows e

    -- the value that a select gives at a place, as it is or under a cast to the type
    module _ (Q : Select) (same : (cx : Context) → rows_of_select Q cx ≡ rows_of_select q cx) (j : ℕ) (k : Kind) (at_place : slice_get all j ≡ Some k) where
      first_holds : (rows : Rows) → Every (IsListed all) rows → Holds k (at (first_row rows) j)
      first_holds [] h = holds_at k (at [] j) val.Null (none_at j) (holds_null k)
      first_holds (row ∷ rows) h = (zip_at IsColumn all row val.Null h.0 j k at_place).holds

      -- the first row's value, and what the pick makes of it
      row_of : (c : Option Ty) (cx : Context) (v : Value) → value (pick_as c Q j) cx ≡ Ok v → Then (rows_of_select q (inside [] cx)) (λ rows. converted_value c (at (first_row rows) j)) v
      row_of c cx v e =
          then_of (rows_of_select q (inside [] cx)) (λ rows. converted_value c (at (first_row rows) j)) v
          (sym (cast_pick_is c Q j cx ∙ ap (λ o. and_then o (λ rows. converted_value c (at (first_row rows) j))) (same (inside [] cx))) ∙ e)

      pick_typed : (t : Ty) → fits t k ≡ true → Gives (Some t, pick_as None Q j)
      pick_typed t f cx v fit none e =
          let m = row_of None cx v e in
          fits_typed t k v f (holds_at k v (at (first_row m.x) j) (ok_is (at (first_row m.x) j) v m.second) (first_holds m.x (listed cx fit none m.x m.first)))

      pick_cast : (t : Ty) → assignable t k ≡ true → Gives (Some t, pick_as (Some t) Q j)
      pick_cast t f cx v fit none e =
          let m = row_of (Some t) cx v e in
          subst (λ k. Holds k v) (cast_assignable t k f) (cast_typed t k (at (first_row m.x) j) v (first_holds m.x (listed cx fit none m.x m.first)) m.second)

      pick_at : (t : Ty) (b : Bool) → converts t k ≡ b → assignable t k ≡ true → Gives (Some t, pick_as (if b then Some t else None) Q j)
      pick_at t true c f = pick_cast t f
      pick_at t false c f = pick_typed t (fits_alone t k c f)

    slot_same : (slot : Option ℕ) → here.slot_type (slot_types slots) slot ≡ slot_of a slot
    slot_same None = refl
    slot_same (Some i) = refl

    around_same : (slot : Option ℕ) → slot_type w slot ≡ slot_of a slot
    around_same None = refl
    around_same (Some i) = refl

    -- each pick has a cast where its item is converted to its target's type, and none elsewhere
    abbrev CastsAt : List Target → List Kind → ℕ → Type 0
    CastsAt us ks j = (m : ℕ) (t : Target) (k : Kind) (ty : Ty) → slice_get us m ≡ Some t → slice_get ks m ≡ Some k → slot_type w t.1 ≡ Some ty
        → cast_at kinds_asked (out-Select q).list (m + j) ≡ (if converts ty k then Some ty else None)

    module _ (rows_same : (cx : Context) → rows_of_select (picked kinds_asked q) cx ≡ rows_of_select q cx) where
      entry_typed : (o : Option Ty) (j : ℕ) (k : Kind) → slice_get all j ≡ Some k → takes o k ≡ true
          → ((ty : Ty) → o ≡ Some ty → cast_at kinds_asked (out-Select q).list j ≡ (if converts ty k then Some ty else None)) → Gives (o, pick_entry kinds_asked q j)
      unfolding takes
      entry_typed None j k g f c = cc
      entry_typed (Some t) j k g f c =
          subst (λ o. Gives (Some t, pick_as o (picked kinds_asked q) j)) (sym (c t refl)) (pick_at (picked kinds_asked q) rows_same j k g t (converts t k) refl f)

      picks_typed : (us : List Target) (ks : List Kind) (j : ℕ) → all_taken a us ks ≡ true → ((m : ℕ) → slice_get ks m ≡ slice_get all (m + j)) → CastsAt us ks j
          → AllGive (here.picks (slot_types slots) (pick_entry kinds_asked q) us j)
      picks_typed [] [] j h at_place casts = tt
      picks_typed (t ∷ us) (k ∷ ks) j h at_place casts =
          let both = both_true (takes (slot_of a t.1) k) (all_taken a us ks) h in
          let next : (m : ℕ) → slice_get ks m ≡ slice_get all (m + (j + 1)) = λ m. let e : suc m + j ≡ m + (j + 1) = omega arith in at_place (suc m) ∙ ap (slice_get all) e in
          let here_is : slice_get all j ≡ Some k = let e : j ≡ 0 + j = omega arith in ap (slice_get all) e ∙ sym (at_place 0) in
          let cast : (ty : Ty) → slot_of a t.1 ≡ Some ty → cast_at kinds_asked (out-Select q).list j ≡ (if converts ty k then Some ty else None) =
          λ ty s. let e : j ≡ 0 + j = omega arith in ap (cast_at kinds_asked (out-Select q).list) e ∙ casts 0 t k ty refl refl (around_same t.1 ∙ s) in
          let more : CastsAt us ks (j + 1) = λ m u l ty at_t at_k s. let e : m + (j + 1) ≡ suc m + j = omega arith in ap (cast_at kinds_asked (out-Select q).list) e ∙ casts (suc m) u l ty at_t at_k s in (
            subst (λ o. Gives (o, pick_entry kinds_asked q j)) (sym (slot_same t.1)) (entry_typed (slot_of a t.1) j k here_is both.0 cast),
            picks_typed us ks (j + 1) both.1 next more,
          )
      picks_typed [] (k ∷ ks) j h at_place casts = tt
      picks_typed (t ∷ us) [] j h at_place casts = cc

  -- ---- the whole

  abbrev asked_kinds : List Target → List Ty
  asked_kinds ts = target_types (slot_types slots) ts

  abbrev IntoGives : Bool → List Target → Select → Type 0
  IntoGives strict ts q = Clean (asked_of_targets a ts q) → AllGive (here.into (slot_types slots) strict ts q)

  -- the select of a converted SELECT INTO, by the kinds of the one that it was
  module _ (keeps : KeepsRows) (strict : Bool) (ts : List Target) where
    picks_of : (q : Select) (all : List Kind) (e : kinds_of_select q a.places ≡ Some all) (us : List Target) → takes_list a us (kinds_of_select q a.places) ≡ true → CastsAt (asked_kinds ts) q all e us all 0
        → AllGive (here.picks (slot_types slots) (pick_entry (asked_kinds ts) q) us 0)
    unfolding takes_list
    picks_of q all e [] h casts = tt
    picks_of q all e (u ∷ us) h casts =
        picks_typed (asked_kinds ts) q all e (λ cx. (keeps (asked_kinds ts) q).0 cx) (u ∷ us) all 0
        (subst (λ o. takes_list a (u ∷ us) o ≡ true) e h) (λ m. let z : m ≡ m + 0 = omega arith in ap (slice_get all) z) casts

    none_of : (q : Select) → kinds_of_select q a.places ≡ None → (us : List Target) → takes_list a us (kinds_of_select q a.places) ≡ true → AllGive (here.picks (slot_types slots) (pick_entry (asked_kinds ts) q) us 0)
    unfolding takes_list
    none_of q e [] h = tt
    none_of q e (u ∷ us) h = let no : takes_list a (u ∷ us) None ≡ true = subst (λ o. takes_list a (u ∷ us) o ≡ true) e h in absurd (false≢true no)

    taken : (q : Select) → Clean (asked_of_targets a ts q) → takes_list a ts (kinds_of_select q a.places) ≡ true
    unfolding asked_of_targets
    taken q c =
        not_false (takes_list a ts (kinds_of_select q a.places))
        (neither (not (takes_list a ts (kinds_of_select q a.places))) (uses_of_select q).limited
        (test_fails rule.Types (not (takes_list a ts (kinds_of_select q a.places)) || (uses_of_select q).limited)
        (clean_parts (breaks rule.Types (not (takes_list a ts (kinds_of_select q a.places)) || (uses_of_select q).limited)) (breaks rule.Aggregates (uses_of_select q).misused) c).0)).0

    given : (q : Select) → AllGive (here.picks (slot_types slots) (pick_entry (asked_kinds ts) q) ts 0) → AllGive (here.into (slot_types slots) strict ts q)
    given q h = every_append Gives (map (λ e. (Some Boolean, e)) (check_entries strict (unmarked q))) (here.picks (slot_types slots) (pick_entry (asked_kinds ts) q) ts 0) (tests_typed strict (unmarked q)) h

    by_kinds : (o : Option (List Kind)) (x : Select) → kinds_of_select x a.places ≡ o → IntoGives strict ts (select_marked w ts (record { kinds = o; it = x }))
    unfolding kinds_of_select
    by_kinds None x e c = given x (none_of x e ts (taken x c))
    by_kinds (Some ks) x e c =
        let q = with_list (items_marked w ts ks (out-Select x).list) x in
        let is : kinds_of_select q a.places ≡ Some ks = ap (λ l. l a.places) (marks_keep_types w ts ks x) ∙ e in
        given q (picks_of q ks is ts (taken q c)
        (λ m t k ty at_t at_k s.
        let z : m + 0 ≡ m = omega arith in
        ap (cast_at (asked_kinds ts) (out-Select q).list) z ∙ ap (λ x. cast_at (asked_kinds ts) x.list m) (out-roll-Select _)
        ∙ cast_is w ty ts ks (out-Select x).list (kinds_count x a.places ks e) m t k at_t at_k s))

  pub into_typed : KeepsRows → Found → (strict : Bool) (ts : List Target) (query : Select) → IntoGives strict ts (into_converted w ts query)
  unfolding into_converted elaborated_select kinds_of_select
  into_typed keeps found strict ts query =
      let m = elaborated_select a.places query in
      by_kinds keeps strict ts m.kinds m.it (found.select a.places query)
