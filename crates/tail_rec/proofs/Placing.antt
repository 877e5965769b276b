-- The places of a label's parameters are distinct columns of their types.
use Rattle.std.proofs.Common.{◌≡◌, ◌≢◌, ℕ, zero, suc, ◌+◌, ◌<◌, ◌≤◌, true, cond, List, [], ◌∷◌, length, Option, Some, None, refl, sym, ap, ◌∙◌, subst, arith}
use Rattle.std.specs.Prelude.{slice_get}
use Rattle.std.proofs.lemmas.Option.{same_Some, none-some}
use Rattle.away_typing.specs.Kinds.{same}
use Rattle.away_values.specs.declared.types.Ty.{Ty}
use Rattle.away_values.specs.declared.types.Ty.TheVariants as ty
use Rattle.block_forms.specs.Places.{Each, Distinct}
use Rattle.call_forms.specs.Called.{itself}
use Rattle.call_forms.specs.Tight.{is_type}
use Rattle.call_forms.proofs.Elements.{none_distinct, one_more_distinct}
use Rattle.tail_rec.specs.declared.columns.PerType.{PerType}
use Rattle.tail_rec.specs.Columns.{of_type, count_of, columns_of, starts_of, after_one, place_for, after_place, placed}
use Rattle.tail_rec.proofs.Widths.{count-cons, column_type}

after_is : (n : PerType) (u t : Ty) → of_type (after_one n u) t ≡ cond (same t u) 1 0 + of_type n t
unfolding same
after_is n ty.Bigint ty.Bigint = omega arith
after_is n ty.Bigint ty.Boolean = omega arith
after_is n ty.Bigint ty.Text = omega arith
after_is n ty.Bigint ty.Integer = omega arith
after_is n ty.Boolean ty.Bigint = omega arith
after_is n ty.Boolean ty.Boolean = omega arith
after_is n ty.Boolean ty.Text = omega arith
after_is n ty.Boolean ty.Integer = omega arith
after_is n ty.Text ty.Bigint = omega arith
after_is n ty.Text ty.Boolean = omega arith
after_is n ty.Text ty.Text = omega arith
after_is n ty.Text ty.Integer = omega arith
after_is n ty.Integer ty.Bigint = omega arith
after_is n ty.Integer ty.Boolean = omega arith
after_is n ty.Integer ty.Text = omega arith
after_is n ty.Integer ty.Integer = omega arith

same_self : (t : Ty) → same t t ≡ true
unfolding same
same_self ty.Bigint = refl
same_self ty.Boolean = refl
same_self ty.Text = refl
same_self ty.Integer = refl

module _ (types : ℕ → Option Ty) where
  after_free : (free : PerType) (o : Option Ty) (t : Ty) → of_type (after_place free o) t ≡ cond (is_type t o) 1 0 + of_type free t
  after_free free None t = omega arith
  after_free free (Some u) t = after_is free u t

  pub placed_long : (free : PerType) (ps : List ℕ) → length (placed types free ps) ≡ length ps
  placed_long free [] = refl
  placed_long free (p ∷ ps) = ap suc (placed_long (after_place free (types p)) ps)

  record InRange (free : PerType) (ps : List ℕ) (t : Ty) (c : ℕ) : Type 0 where
    from : of_type free t ≤ c
    before : c < of_type free t + count_of types t ps

  here : (free : PerType) (p : ℕ) (ps : List ℕ) (t : Ty) → types p ≡ Some t → InRange free (p ∷ ps) t (place_for free (types p))
  here free p ps t e =
      let place : place_for free (types p) ≡ of_type free t = ap (place_for free) e in
      let yes : is_type t (types p) ≡ true = ap (is_type t) e ∙ same_self t in
      let one_more : count_of types t (p ∷ ps) ≡ 1 + count_of types t ps =
      count-cons (λ p. is_type t (types p)) p ps ∙ ap (λ b. cond b 1 0 + count_of types t ps) yes in
      record { from = omega (arith, place); before = omega (arith, place, one_more) }

  -- each place is one of the columns of its parameter's type from the free one on
  in_range : (free : PerType) (ps : List ℕ) (i p c : ℕ) (t : Ty) → slice_get ps i ≡ Some p → slice_get (placed types free ps) i ≡ Some c → types p ≡ Some t
      → InRange free ps t c
  in_range free [] i p c t at place e = absurd (none-some p at)
  in_range free (q ∷ ps) zero p c t at place e =
      subst (InRange free (q ∷ ps) t) (same_Some (place_for free (types q)) c place)
      (here free q ps t (ap types (same_Some q p at) ∙ e))
  in_range free (q ∷ ps) (suc i) p c t at place e =
      let r = in_range (after_place free (types q)) ps i p c t at place e in
      let less = r.from in
      let more = r.before in
      let free_is = after_free free (types q) t in
      let count_is : count_of types t (q ∷ ps) ≡ cond (is_type t (types q)) 1 0 + count_of types t ps = count-cons (λ p. is_type t (types p)) q ps in
      record { from = omega (arith, less, free_is); before = omega (arith, more, free_is, count_is) }

  -- all names have types, and there are columns enough
  pub record HasColumns (n free : PerType) (ps : List ℕ) : Type 0 where
    from : (t : Ty) → of_type (starts_of n) t ≤ of_type free t
    enough : (t : Ty) → of_type free t + count_of types t ps ≤ of_type (starts_of n) t + of_type n t

  fits_rest : (n free : PerType) (p : ℕ) (ps : List ℕ) → HasColumns n free (p ∷ ps) → HasColumns n (after_place free (types p)) ps
  fits_rest n free p ps f = record {
    from = λ t. let e = after_free free (types p) t in let le = f.from t in omega (arith, e, le);
    enough = λ t.
        let e = after_free free (types p) t in
        let le = f.enough t in
        let count_is : count_of types t (p ∷ ps) ≡ cond (is_type t (types p)) 1 0 + count_of types t ps = count-cons (λ p. is_type t (types p)) p ps in
        omega (arith, e, le, count_is);
  }

  range_type : (n free : PerType) (ps : List ℕ) (t : Ty) (c : ℕ) → HasColumns n free ps → InRange free ps t c → slice_get (columns_of n) c ≡ Some t
  range_type n free ps t c f r =
      let low = f.from t in
      let high = f.enough t in
      let less = r.from in
      let more = r.before in
      column_type n t c (omega (arith, low, less)) (omega (arith, high, more))

  abbrev Typed : List ℕ → Type 0
  Typed ps = (i p : ℕ) → slice_get ps i ≡ Some p → (t : Ty) × (types p ≡ Some t)

  pub places_typed : (n free : PerType) (ps : List ℕ) → HasColumns n free ps → (i p c : ℕ) → slice_get ps i ≡ Some p → slice_get (placed types free ps) i ≡ Some c
      → (t : Ty) → types p ≡ Some t → slice_get (columns_of n) c ≡ Some t
  places_typed n free ps f i p c at place t e = range_type n free ps t c f (in_range free ps i p c t at place e)

  -- the first place is none of the others
  first_apart : (n free : PerType) (p : ℕ) (ps : List ℕ) → HasColumns n free (p ∷ ps) → Typed (p ∷ ps)
      → Each (λ c. c ≢ place_for free (types p)) (placed types (after_place free (types p)) ps)
  first_apart n free p ps f typed i c place same_place =
      let lt = subst (λ k. i < k) (placed_long (after_place free (types p)) ps) (within_list (placed types (after_place free (types p)) ps) i c place) in
      let q = there ps i lt in
      let t = typed (suc i) q.0 q.1 in
      let u = typed 0 p refl in
      let r = in_range (after_place free (types p)) ps i q.0 c t.0 q.1 place t.1 in
      let of_c = range_type n (after_place free (types p)) ps t.0 c (fits_rest n free p ps f) r in
      let of_first = range_type n free (p ∷ ps) u.0 (place_for free (types p)) f (here free p ps u.0 u.1) in
      let types_same : u.0 ≡ t.0 = same_Some u.0 t.0 (sym of_first ∙ (ap (slice_get (columns_of n)) (sym same_place) ∙ of_c)) in
      let p_type : types p ≡ Some t.0 = u.1 ∙ ap Some types_same in
      let first : place_for free (types p) ≡ of_type free t.0 = ap (place_for free) p_type in
      let yes : is_type t.0 (types p) ≡ true = ap (is_type t.0) p_type ∙ same_self t.0 in
      let free_is : of_type (after_place free (types p)) t.0 ≡ 1 + of_type free t.0 =
      after_free free (types p) t.0 ∙ ap (λ b. cond b 1 0 + of_type free t.0) yes in
      let less = r.from in
      omega (arith, less, free_is, first, same_place)
    where
      within_list : (xs : List ℕ) (i x : ℕ) → slice_get xs i ≡ Some x → i < length xs
      within_list [] i x e = absurd (none-some x e)
      within_list (y ∷ ys) zero x e = omega arith
      within_list (y ∷ ys) (suc i) x e = let lt = within_list ys i x e in omega (arith, lt)

      there : (xs : List ℕ) (i : ℕ) → i < length xs → (x : ℕ) × (slice_get xs i ≡ Some x)
      there [] i lt = absurd (let no : ⊥ = omega (arith, lt) in no)
      there (x ∷ xs) zero lt = (x, refl)
      there (x ∷ xs) (suc i) lt = there xs i (omega (arith, lt))

  pub places_differ : (n free : PerType) (ps : List ℕ) → HasColumns n free ps → Typed ps → Distinct itself (placed types free ps)
  places_differ n free [] f typed = none_distinct
  places_differ n free (p ∷ ps) f typed =
      one_more_distinct (place_for free (types p)) (placed types (after_place free (types p)) ps) (first_apart n free p ps f typed)
      (places_differ n (after_place free (types p)) ps (fits_rest n free p ps f) (λ i q e. typed (suc i) q e))

  -- from the first columns on
  pub fits_starts : (n : PerType) (ps : List ℕ) → ((t : Ty) → count_of types t ps ≤ of_type n t) → HasColumns n (starts_of n) ps
  fits_starts n ps few = record { from = λ t. omega arith; enough = λ t. let le = few t in omega (arith, le) }
