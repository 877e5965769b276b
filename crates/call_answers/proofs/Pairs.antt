-- Labels and slots by lists of pairs, of which the last counts.
use Rattle.std.proofs.Common.{◌≡◌, refl, sym, ap, ◌∙◌, subst, ℕ, zero, suc, ◌≤◌, Bool, true, false, ◌==◌, if◌then◌else◌, List, [], ◌∷◌, ◌++◌, drop, slice_get, length, bytes_eq, Option, Some, None, arith}
use Rattle.away_names.specs.Lookups.{Name}
use Rattle.call_meaning.proofs.Agreeing.{none_is_not_some, some_is}
use Rattle.call_meaning.specs.Alike.{entered, put_at}
use Rattle.moved_slots.specs.Moved.{looked_up, slots_by}
use Rattle.call_answers.specs.Walking.{label_looked_up, labels_by}

-- no pair's second is a label
abbrev pub NoneIs : Name → List (Name × Name) → Type 0
NoneIs own [] = Unit {0}
NoneIs own (p ∷ ps) = (bytes_eq p.1 own ≡ false) × NoneIs own ps

pub none_step : (own : Name) (ps : List (Name × Name)) (i : ℕ) (p : Name × Name) → slice_get ps i ≡ Some p → bytes_eq p.1 own ≡ false → NoneIs own (drop (suc i) ps) → NoneIs own (drop i ps)
none_step own [] i p e h rest = absurd (none_is_not_some p e)
none_step own (x ∷ ps) zero p e h rest = (subst (λ (z : Name × Name). bytes_eq z.1 own ≡ false) (sym (some_is x p e)) h, rest)
none_step own (x ∷ ps) (suc i) p e h rest = none_step own ps i p e h rest

none_found : (own : Name) (ps : List (Name × Name)) (l k : Name) (found : Option Name) → NoneIs own ps → ((z : Name) → found ≡ Some z → bytes_eq z own ≡ false) → label_looked_up ps l found ≡ Some k → bytes_eq k own ≡ false
none_found own [] l k found h f e = f k e
none_found own (p ∷ ps) l k found h f e = none_found own ps l k (if bytes_eq l p.0 then Some p.1 else found) h.1 (go (bytes_eq l p.0)) e
  where
    go : (b : Bool) → (z : Name) → (if b then Some p.1 else found) ≡ Some z → bytes_eq z own ≡ false
    go true z q = subst (λ y. bytes_eq y own ≡ false) (some_is p.1 z q) h.0
    go false z q = f z q

is_new_by : (own : Name) (ps : List (Name × Name)) → NoneIs own ps → (l k : Name) → labels_by ps l ≡ Some k → bytes_eq k own ≡ false
is_new_by own ps h l k e = none_found own ps l k None h (λ z q. absurd (none_is_not_some z q)) e

none_end : (own : Name) (ps : List (Name × Name)) (i : ℕ) → length ps ≤ i → NoneIs own (drop i ps)
none_end own [] zero le = tt
none_end own [] (suc i) le = tt
none_end own (x ∷ ps) zero le = absurd (omega (arith, le))
none_end own (x ∷ ps) (suc i) le = none_end own ps i (omega (arith, le))

pub is_new_at : (own : Name) (ps : List (Name × Name)) (i : ℕ) → length ps ≤ i → (NoneIs own (drop i ps) → NoneIs own ps) → (l k : Name) → labels_by ps l ≡ Some k → bytes_eq k own ≡ false
is_new_at own ps i le h = is_new_by own ps (h (none_end own ps i le))

-- ---- a pair more

label_more : (ps : List (Name × Name)) (p : Name × Name) (l : Name) (found : Option Name) → label_looked_up (ps ++ p ∷ []) l found ≡ (if bytes_eq l p.0 then Some p.1 else label_looked_up ps l found)
label_more [] p l found = refl
label_more (x ∷ ps) p l found = label_more ps p l (if bytes_eq l x.0 then Some x.1 else found)

pub entered_more : (all made ps : List (Name × Name)) (o' o n' n : Name) → made ≡ ps → o' ≡ o → n' ≡ n → all ≡ made ++ (o', n') ∷ [] → labels_by all ≡ entered (Some o) (Some n) (labels_by ps)
entered_more all made ps o' o n' n e f g h = ap (λ x. labels_by x) (h ∙ (λ i. e i ++ (f i, g i) ∷ [])) ∙ (λ i l. label_more ps (o, n) l None i)

pub entered_none : (all ps : List (Name × Name)) (n : Option Name) → all ≡ ps → labels_by all ≡ entered None n (labels_by ps)
entered_none all ps n e = ap (λ x. labels_by x) e

pub entered_one : (all ps : List (Name × Name)) (o : Name) → all ≡ ps → labels_by all ≡ entered (Some o) None (labels_by ps)
entered_one all ps o e = ap (λ x. labels_by x) e

slot_more : (ps : List (ℕ × ℕ)) (p : ℕ × ℕ) (k : ℕ) (found : Option ℕ) → looked_up (ps ++ p ∷ []) k found ≡ (if k == p.0 then Some p.1 else looked_up ps k found)
slot_more [] p k found = refl
slot_more (x ∷ ps) p k found = slot_more ps p k (if k == x.0 then Some x.1 else found)

pub put_more : (all ps : List (ℕ × ℕ)) (i j : ℕ) → all ≡ ps ++ (i, j) ∷ [] → slots_by all ≡ put_at i j (slots_by ps)
put_more all ps i j e = ap (λ x. slots_by x) e ∙ (λ a k. slot_more ps (i, j) k None a)
