-- The types of columns are kept by FROM, by a select and by UNION ALL.
use Rattle.std.proofs.Common.{◌≡◌, refl, ap, sym, ◌∙◌, subst, Bool, true, false, ◌&&◌, List, [], ◌∷◌, ◌++◌, fold, Option, Some, None}
use Rattle.std.specs.Prelude.{option_and_then, if◌then◌else◌}
use Rattle.std.specs.List.{list_all}
use Rattle.away_values.specs.declared.types.Ty.{Ty}
use Rattle.away_values.specs.declared.types.Ty.TheVariants as ty
use Rattle.away_typing.specs.declared.kind.Kind.{Kind}
use Rattle.away_typing.specs.declared.kind.Kind.TheVariants.{Null, Of, Sum, Wrong}
use Rattle.away_typing.specs.Kinds.{is_right}
use Rattle.away_typing.specs.Typing as typing
use Rattle.away_typing.specs.Typing.{Places, Frame, Shape, framed, maybe_fits, maybe_number, select_kinds, both, further, or_none, union, shape_of}
use Rattle.sql_meaning.proofs.Lists.{Zipped, ZippedOption}
use Rattle.sql_meaning.proofs.Uses.{and_first, and_second, both_true}
use Rattle.cte_types.proofs.KeptKinds.{Keeps, KeepsSome, fits_kept, number_kept, some_under, some_then}

-- ---- FROM

module _ (p q : Places) where
  abbrev pub PartKept : typing.Part → typing.Part → Type 0
  PartKept x y = (frame : Frame) → KeepsSome (x p frame) (y q frame)

  pub framed_kept : (xs ys : List typing.Part) → Zipped PartKept xs ys → (frame : Frame) → KeepsSome (framed p xs frame) (framed q ys frame)
  framed_kept [] [] h frame = refl
  framed_kept (x ∷ xs) (y ∷ ys) h frame = by (λ frame. framed_kept xs ys h.1 frame) (x p frame) (y q frame) (h.0 frame)
    where
      by : ((frame : Frame) → KeepsSome (framed p xs frame) (framed q ys frame)) → (a b : Shape) → KeepsSome a b
          → KeepsSome (option_and_then (λ ts. framed p xs (frame ++ ts ∷ [])) a) (option_and_then (λ ts. framed q ys (frame ++ ts ∷ [])) b)
      by rest None b k = tt
      by rest (Some ts) b k =
          subst (λ o. KeepsSome (framed p xs (frame ++ ts ∷ [])) (option_and_then (λ ts. framed q ys (frame ++ ts ∷ [])) o)) (sym k) (rest (frame ++ ts ∷ []))
  framed_kept _ _ h frame = absurd h

-- ---- a select

right_same : (a b : Kind) → Keeps a b → is_right a ≡ true → b ≡ a
unfolding is_right
right_same Null b h r = h
right_same (Of t) b h r = h
right_same Sum b h r = h
right_same Wrong b h r = cc

rights_same : (xs ys : List Kind) → Zipped Keeps xs ys → list_all is_right xs ≡ true → ys ≡ xs
rights_same [] [] h r = refl
rights_same (x ∷ xs) (y ∷ ys) h r =
    λ i. right_same x y h.0 (and_first (is_right x) (list_all is_right xs) r) i ∷ rights_same xs ys h.1 (and_second (is_right x) (list_all is_right xs) r) i
rights_same _ _ h r = absurd h

maybe_fits_kept : (t : Ty) (a b : Option Kind) → ZippedOption Keeps a b → maybe_fits t a ≡ true → maybe_fits t b ≡ true
unfolding maybe_fits
maybe_fits_kept t None None h r = refl
maybe_fits_kept t (Some a) (Some b) h r = fits_kept t a b h r
maybe_fits_kept t _ _ h r = absurd h

maybe_number_kept : (a b : Option Kind) → ZippedOption Keeps a b → maybe_number a ≡ true → maybe_number b ≡ true
unfolding maybe_number
maybe_number_kept None None h r = refl
maybe_number_kept (Some a) (Some b) h r = number_kept a b h r
maybe_number_kept _ _ h r = absurd h

abbrev chosen : Option Kind → List Kind → List Kind → Option Kind → Bool
chosen filter list order limit = maybe_fits ty.Boolean filter && (list_all is_right list && (list_all is_right order && maybe_number limit))

pub select_kinds_kept : (l k : List Kind) (w v : Option Kind) (o n : List Kind) (m j : Option Kind)
    → Zipped Keeps l k → ZippedOption Keeps w v → Zipped Keeps o n → ZippedOption Keeps m j → KeepsSome (select_kinds l w o m) (select_kinds k v n j)
unfolding select_kinds
select_kinds_kept l k w v o n m j lr wr or mr = by (chosen w l o m) refl
  where
    by : (t : Bool) → chosen w l o m ≡ t → KeepsSome (if t then Some l else None) (if chosen v k n j then Some k else None)
    by false e = tt
    by true e =
        let more = and_second (maybe_fits ty.Boolean w) _ e in
        let most = and_second (list_all is_right l) _ more in
        let list = rights_same l k lr (and_first (list_all is_right l) _ more) in
        let order = rights_same o n or (and_first (list_all is_right o) _ most) in
        let all : chosen v k n j ≡ true
        = both_true (maybe_fits ty.Boolean v) _ (maybe_fits_kept ty.Boolean w v wr (and_first (maybe_fits ty.Boolean w) _ e))
        (both_true (list_all is_right k) _ (ap (list_all is_right) list ∙ and_first (list_all is_right l) _ more)
        (both_true (list_all is_right n) _ (ap (list_all is_right) order ∙ and_first (list_all is_right o) _ most)
        (maybe_number_kept m j mr (and_second (list_all is_right o) _ most))))
        in
        ap (λ t. if t then Some k else None) all ∙ ap (λ ks. Some ks) list

-- ---- UNION ALL

both_kept : (a b c d : Option (List Kind)) → KeepsSome a c → KeepsSome b d → KeepsSome (both a b) (both c d)
unfolding both
both_kept a b c d h k =
    some_then (both a b) (both c b) (both c d) (some_under (λ x. both x b) refl a c h) (some_under (λ y. both c y) (none c) b d k)
  where
    none : (c : Option (List Kind)) → both c None ≡ None
    none None = refl
    none (Some c) = refl

abbrev KeepsUnited : Option (Option (List Kind)) → Option (Option (List Kind)) → Type 0
KeepsUnited None None = Unit {0}
KeepsUnited (Some a) (Some b) = KeepsSome a b
KeepsUnited _ _ = ⊥

further_kept : (a b : Option (Option (List Kind))) (x y : Option (List Kind)) → KeepsUnited a b → KeepsSome x y → KeepsUnited (further a x) (further b y)
unfolding further
further_kept None None x y h k = k
further_kept (Some a) (Some b) x y h k = both_kept a x b y h k
further_kept _ _ x y h k = absurd h

or_none_kept : (a b : Option (Option (List Kind))) → KeepsUnited a b → KeepsSome (or_none a) (or_none b)
unfolding or_none
or_none_kept None None h = tt
or_none_kept (Some a) (Some b) h = h
or_none_kept _ _ h = absurd h

module _ (p q : Places) where
  abbrev pub ListingKept : typing.Listing → typing.Listing → Type 0
  ListingKept x y = KeepsSome (x p) (y q)

  united_kept : (xs ys : List typing.Listing) → Zipped ListingKept xs ys → (a b : Option (Option (List Kind))) → KeepsUnited a b
      → KeepsUnited (fold (λ ks s. further ks (s p)) a xs) (fold (λ ks s. further ks (s q)) b ys)
  united_kept [] [] h a b k = k
  united_kept (x ∷ xs) (y ∷ ys) h a b k = united_kept xs ys h.1 (further a (x p)) (further b (y q)) (further_kept a b (x p) (y q) k h.0)
  united_kept _ _ h a b k = absurd h

  pub union_kept : (xs ys : List typing.Listing) → Zipped ListingKept xs ys → KeepsSome (shape_of (union xs p)) (shape_of (union ys q))
  union_kept xs ys h = some_under shape_of refl (union xs p) (union ys q) (or_none_kept _ _ (united_kept xs ys h None None tt))
