-- The casts of the picks of a SELECT INTO convert the first row as the marks of its items do.
use Rattle.std.proofs.Common.{◌≡◌, refl, sym, ap, ◌∙◌, ℕ, suc, ◌+◌, ◌<◌, Bool, true, false, if◌then◌else◌, List, [], ◌∷◌, length, map, Option, Some, None, Ok, Err, arith}
use Rattle.std.specs.Prelude.{drop, slice_get, get_or, is_some}
use Rattle.away_values.specs.declared.types.Ty.{Ty}
use Rattle.away_values.specs.declared.types.Ty.TheVariants as ty
use Rattle.away_values.specs.declared.values.Value.{Value}
use Rattle.away_values.specs.Results.{Or, and_then, mapped}
use Rattle.away_trees.specs.declared.queries.Expr.TheViews.{out-Item}
use Rattle.away_trees.specs.declared.queries.Item.{Item}
use Rattle.sql_meaning.specs.Context.{Rows}
use Rattle.sql_meaning.specs.Template.{count_from}
use Rattle.plsql_meaning.specs.Conversions.{conversion_by, conversions, converted_value, converted_row, head_or_null, rest_of}
use Rattle.plsql_meaning.specs.Outcomes.{Env}
use Rattle.plsql_meaning.specs.Statements as statements
use Rattle.plsql_meaning.specs.Statements.{into_as, put_converted}
use Rattle.select_into.specs.Entries.{Target, type_of, target_types, is_converted, cast_at}
use Rattle.block_forms.specs.Targets.{one_target, named_targets}
use Rattle.goto_law.proofs.Fits.{AllBelow, below_left, below_right}

-- the casts of the picks for targets, by the types of the slots that the text names
abbrev pub picked_casts : List Ty → List Target → List Item → List (Option Ty)
picked_casts types ts items = map (λ m. cast_at (target_types types ts) items m) (count_from 0 (length ts))

-- slots below a number have these types on both sides
abbrev pub SameTypes : ℕ → List Ty → List Ty → Type 0
SameTypes below types shown = (slot : ℕ) → slot < below → slice_get types slot ≡ Some (get_or shown slot ty.Bigint)

module _ (below : ℕ) (types shown : List Ty) (same : SameTypes below types shown) where
  -- a target without a slot has a cast to bigint, which leaves the value
  left_alone : (marked : Bool) (v : Value) → converted_value (if marked then Some ty.Bigint else None) v ≡ converted_value (if marked then None else None) v
  left_alone true v = refl
  left_alone false v = refl

  value_same : (slot : Option ℕ) → AllBelow below (one_target slot) → (item : Option Item) (v : Value)
      → converted_value (if is_converted item then Some (type_of shown slot) else None) v ≡ converted_value (conversion_by types slot item) v
  value_same slot lt None v = refl
  value_same None lt (Some i) v = left_alone (is_some (out-Item i).alias) v
  value_same (Some slot) lt (Some i) v = ap (λ o. converted_value (if is_some (out-Item i).alias then o else None) v) (sym (same slot lt.0))

  behind_first : (items : List Item) (x : ℕ) → slice_get (drop 1 items) x ≡ slice_get items (suc x)
  behind_first [] x = refl
  behind_first (i ∷ items) x = refl

  -- from a place of the list on
  module _ (all : List Ty) (list : List Item) where
    abbrev casts_from : ℕ → ℕ → List (Option Ty)
    casts_from m many = map (λ m. cast_at all list m) (count_from m many)

    rest_same : (ts : List Target) (items : List Item) (m : ℕ) → AllBelow below (named_targets ts)
        → ((x : ℕ) → slice_get all (m + x) ≡ slice_get (target_types shown ts) x) → ((x : ℕ) → slice_get list (m + x) ≡ slice_get items x)
        → (vs : List Value) → converted_row (casts_from m (length ts)) vs ≡ converted_row (conversions types ts items) vs
    rest_same [] items m lt typed listed vs = refl
    rest_same (t ∷ ts) items m lt typed listed vs =
        let here : m ≡ m + 0 = omega arith in
        let cast_is : cast_at all list m ≡ (if is_converted (slice_get items 0) then Some (type_of shown t.1) else None)
        = ap (λ o. if is_converted o then slice_get all m else None) (ap (slice_get list) here ∙ listed 0)
        ∙ ap (λ o. if is_converted (slice_get items 0) then o else None) (ap (slice_get all) here ∙ typed 0) in
        ap (λ c. and_then (converted_value c (head_or_null vs)) (λ v. mapped (λ ws. v ∷ ws) (converted_row (casts_from (suc m) (length ts)) (rest_of vs)))) cast_is
        ∙ ap (λ o. and_then o (λ v. mapped (λ ws. v ∷ ws) (converted_row (casts_from (suc m) (length ts)) (rest_of vs))))
        (value_same t.1 (below_left below (one_target t.1) (named_targets ts) lt) (slice_get items 0) (head_or_null vs))
        ∙ ap (λ row. and_then (converted_value (conversion_by types t.1 (slice_get items 0)) (head_or_null vs)) (λ v. mapped (λ ws. v ∷ ws) row))
        (rest_same ts (drop 1 items) (suc m) (below_right below (one_target t.1) (named_targets ts) lt)
        (λ x. let next : suc m + x ≡ m + suc x = omega arith in ap (slice_get all) next ∙ typed (suc x))
        (λ x. let next : suc m + x ≡ m + suc x = omega arith in ap (slice_get list) next ∙ listed (suc x) ∙ sym (behind_first items x)) (rest_of vs))

  pub row_same : (ts : List Target) (items : List Item) → AllBelow below (named_targets ts) → (vs : List Value)
      → converted_row (picked_casts shown ts items) vs ≡ converted_row (conversions types ts items) vs
  row_same ts items lt vs =
      rest_same (target_types shown ts) items ts items 0 lt
      (λ x. let e : 0 + x ≡ x = omega arith in ap (slice_get (target_types shown ts)) e)
      (λ x. let e : 0 + x ≡ x = omega arith in ap (slice_get items) e) vs

-- where two lists of conversions do the same to each row, SELECT INTO does the same by them
pub into_same : (set : statements.Setting) (strict : Bool) (cs ds : List (Option Ty)) (ts : List Target)
    → ((vs : List Value) → converted_row cs vs ≡ converted_row ds vs) → (o : Or Rows) (env : Env) (n : ℕ)
    → into_as set strict cs ts o env n ≡ into_as set strict ds ts o env n
into_same set strict cs ds ts same (Err c) env n = refl
into_same set true cs ds ts same (Ok []) env n = refl
into_same set false cs ds ts same (Ok []) env n = ap (λ row. put_converted set ts row env n) (same [])
into_same set true cs ds ts same (Ok (r ∷ [])) env n = ap (λ row. put_converted set ts row env n) (same r)
into_same set true cs ds ts same (Ok (r ∷ q ∷ rs)) env n = refl
into_same set false cs ds ts same (Ok (r ∷ rs)) env n = ap (λ row. put_converted set ts row env n) (same r)
