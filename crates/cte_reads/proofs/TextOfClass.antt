-- A text's characters beside a class's code.
use Rattle.std.proofs.Common.{◌≡◌, ℕ, zero, suc, ◌+◌, ◌-◌, ◌<◌, ◌≤◌, List, [], ◌∷◌, ◌++◌, length, get_or, drop, refl, sym, ap, ◌∙◌, arith}
use Rattle.std.proofs.lemmas.List.{drop_more, append_cancel_left, append_assoc, length-drop}

head_same : (c d : ℕ) (xs ys : List ℕ) → c ∷ xs ≡ d ∷ ys → c ≡ d
head_same c d xs ys e = cc

no_head : (c : ℕ) (xs : List ℕ) → c ∷ xs ≡ [] → ⊥
no_head c xs e = absurd (cc)

over : (xs : List ℕ) (n : ℕ) → length xs ≤ n → drop n xs ≡ []
over [] zero le = refl
over [] (suc n) le = refl
over (x ∷ xs) zero le = absurd (omega arith)
over (x ∷ xs) (suc n) le = over xs n (omega arith)

pub one_more : (code front : List ℕ) (n c : ℕ) → code ≡ front ++ drop n code → n < length code → c ≡ get_or code n 0 → code ≡ (front ++ (c ∷ [])) ++ drop (n + 1) code
one_more code front n c e lt is =
    e ∙ (ap (λ z. front ++ z) (drop_more code n 0 lt ∙ ap (λ z. z ∷ drop (n + 1) code) (sym is)) ∙ sym (append_assoc front (c ∷ []) (drop (n + 1) code)))

pub other : (text code front more : List ℕ) (n c : ℕ) → text ≡ front ++ (c ∷ more) → code ≡ front ++ drop n code → n < length code → (c ≡ get_or code n 0 → ⊥) → text ≡ code → ⊥
other text code front more n c t e lt differs same =
    differs (head_same c (get_or code n 0) more (drop (n + 1) code) (append_cancel_left front (c ∷ more) (drop n code) (sym t ∙ (same ∙ e)) ∙ drop_more code n 0 lt))

pub longer : (text code front more : List ℕ) (n c : ℕ) → text ≡ front ++ (c ∷ more) → code ≡ front ++ drop n code → length code ≤ n → text ≡ code → ⊥
longer text code front more n c t e le same = no_head c more (append_cancel_left front (c ∷ more) (drop n code) (sym t ∙ (same ∙ e)) ∙ over code n le)

pub whole : (text code front : List ℕ) (n : ℕ) → text ≡ front ++ [] → code ≡ front ++ drop n code → length code ≤ n → text ≡ code
whole text code front n t e le = t ∙ (ap (λ z. front ++ z) (sym (over code n le)) ∙ sym e)

pub shorter : (text code front : List ℕ) (n : ℕ) → text ≡ front ++ [] → code ≡ front ++ drop n code → text ≡ code → length code ≤ n
shorter text code front n t e same =
    let none : [] ≡ drop n code = append_cancel_left front [] (drop n code) (sym t ∙ (same ∙ e)) in
    let q : length code - n ≡ 0 = sym (length-drop n code) ∙ ap length (sym none) in
    omega arith

pub none_left : (xs : List ℕ) → length xs ≡ 0 → xs ≡ []
none_left [] e = refl
none_left (x ∷ xs) e = absurd (omega arith)
