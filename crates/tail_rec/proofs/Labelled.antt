-- The labels among what is reached, and lists of labels by place.
use Rattle.std.proofs.Common.{◌≡◌, ◌≢◌, ℕ, zero, suc, Bool, true, false, not, cond, List, [], ◌∷◌, Some, None, refl, sym, ap, ◌∙◌, inl, inr, arith}
use Rattle.std.specs.Prelude.{slice_get, nat_eq}
use Rattle.std.proofs.lemmas.Bool.{eqb-true, eqb-false}
use Rattle.std.proofs.lemmas.Option.{same_Some}
use Rattle.block_forms.specs.Places.{In, Distinct}
use Rattle.call_forms.specs.Called.{itself, Among}
use Rattle.call_forms.specs.Forms.{place_from}
use Rattle.call_forms.specs.Tight.{without}
use Rattle.tail_rec.specs.declared.walk.Reached.{Reached}
use Rattle.tail_rec.specs.Walk.{labels_among}
use Rattle.tail_rec.proofs.Lists.{in_place, place_in, KeysDiffer, same_place}
use Rattle.tail_rec.proofs.Steps.{block_of}

-- ---- lists of numbers

pub among_in : (xs : List ℕ) (n : ℕ) → Among xs n → In xs n
among_in xs n a = in_place xs a.place n a.there

pub in_among : (xs : List ℕ) (n : ℕ) → In xs n → Among xs n
in_among xs n i = let p = place_in xs n i in record { place = p.0; there = p.1 }

pub distinct_from : (xs : List ℕ) → KeysDiffer itself xs → Distinct itself xs
distinct_from xs d i x e = record { others = λ j y at lt same. let place = same_place itself xs j i y x d at e same in omega (arith, place, lt) }

-- a number of the list has a place
pub placed : (n : ℕ) (xs : List ℕ) (b i : ℕ) → slice_get xs i ≡ Some b → place_from n xs b ≡ None → ⊥
placed n [] b i e none = absurd (cc)
placed n (x ∷ xs) b i e none = by (nat_eq x b) refl none i e (placed (suc n) xs b)
  where
    by : (t : Bool) → nat_eq x b ≡ t → cond t (Some n) (place_from (suc n) xs b) ≡ None → (i : ℕ) → slice_get (x ∷ xs) i ≡ Some b
        → ((i : ℕ) → slice_get xs i ≡ Some b → place_from (suc n) xs b ≡ None → ⊥) → ⊥
    by true h none i e further = cc
    by false h none zero e further = eqb-false x b h (same_Some x b e)
    by false h none (suc i) e further = further i e none

-- ---- all labels but one

pub in_without : (b : ℕ) (xs : List ℕ) (c : ℕ) → In xs c → c ≢ b → In (without b xs) c
in_without b [] c i differ = absurd i
in_without b (x ∷ xs) c i differ = by (nat_eq x b) refl i (λ j. in_without b xs c j differ)
  where
    by : (t : Bool) → nat_eq x b ≡ t → In (x ∷ xs) c → (In xs c → In (without b xs) c) → In (cond (not t) (x ∷ without b xs) (without b xs)) c
    by true h (inl q) further = absurd (differ (sym q ∙ eqb-true x b h))
    by true h (inr j) further = further j
    by false h (inl q) further = inl q
    by false h (inr j) further = inr (further j)

pub from_without : (b : ℕ) (xs : List ℕ) (c : ℕ) → In (without b xs) c → In xs c × (c ≢ b)
from_without b [] c i = absurd i
from_without b (x ∷ xs) c i = by (nat_eq x b) refl i (from_without b xs c)
  where
    by : (t : Bool) → nat_eq x b ≡ t → In (cond (not t) (x ∷ without b xs) (without b xs)) c → (In (without b xs) c → In xs c × (c ≢ b))
        → In (x ∷ xs) c × (c ≢ b)
    by true h j further = let r = further j in (inr r.0, r.1)
    by false h (inl q) further = (inl q, λ same. eqb-false x b h (q ∙ same))
    by false h (inr j) further = let r = further j in (inr r.0, r.1)

-- ---- labels among what is reached

pub record LabelAt (rs : List Reached) (b : ℕ) : Type 0 where
  pub entry : Reached
  pub there : In rs entry
  pub label : entry.is_label ≡ true
  pub same : entry.block ≡ b

pub label_from : (rs : List Reached) (b : ℕ) → In (labels_among rs) b → LabelAt rs b
label_from [] b i = absurd i
label_from (r ∷ rs) b i = by r.is_label refl i (label_from rs b)
  where
    by : (t : Bool) → r.is_label ≡ t → In (cond t (r.block ∷ labels_among rs) (labels_among rs)) b → (In (labels_among rs) b → LabelAt rs b)
        → LabelAt (r ∷ rs) b
    by true h (inl q) further = record { entry = r; there = inl refl; label = h; same = q }
    by true h (inr j) further = let f = further j in record { entry = f.entry; there = inr f.there; label = f.label; same = f.same }
    by false h j further = let f = further j in record { entry = f.entry; there = inr f.there; label = f.label; same = f.same }

pub label_in : (rs : List Reached) (r : Reached) → In rs r → r.is_label ≡ true → In (labels_among rs) r.block
label_in [] r i e = absurd i
label_in (x ∷ rs) r i e = by x.is_label refl i (λ j. label_in rs r j e)
  where
    no : {b : Bool} → b ≡ false → b ≡ true → ⊥
    no p q = cc

    by : (t : Bool) → x.is_label ≡ t → In (x ∷ rs) r → (In rs r → In (labels_among rs) r.block)
        → In (cond t (x.block ∷ labels_among rs) (labels_among rs)) r.block
    by true h (inl q) further = inl (ap (λ (x : Reached). x.block) q)
    by true h (inr j) further = inr (further j)
    by false h (inl q) further = absurd (no h (ap (λ (x : Reached). x.is_label) q ∙ e))
    by false h (inr j) further = further j

pub labels_differ : (rs : List Reached) → KeysDiffer block_of rs → KeysDiffer itself (labels_among rs)
labels_differ [] d = tt
labels_differ (r ∷ rs) d = by r.is_label (labels_differ rs d.1)
  where
    by : (t : Bool) → KeysDiffer itself (labels_among rs) → KeysDiffer itself (cond t (r.block ∷ labels_among rs) (labels_among rs))
    by true rest = ((λ b i q. let f = label_from rs b i in d.0 f.entry f.there (q ∙ sym f.same)), rest)
    by false rest = rest
