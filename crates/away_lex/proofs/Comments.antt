-- The comments that the code finds are those of the definition.
use Rattle.std.proofs.Common.{◌≡◌, ℕ, zero, suc, ◌+◌, ◌-◌, ◌≤◌, true, false, ◌&&◌, eqb, List, [], ◌∷◌, ◌++◌, length, take, Option, Some, refl, sym, ap, ◌∙◌, subst, arith, length-append, append_assoc, inl, inr}
use Rattle.std.proofs.lemmas.Bool.{cases_Bool, eqb-true}
use Rattle.away_grammar.specs.Tokens.{is_comment_opening, is_comment_closing, ClosesComment, closes, other, nests}
use Rattle.away_lex.specs.Pieces.{comment_len, plus}
use Rattle.away_lex.proofs.Steps.{plus_plus, comment_on, comment_down, comment_up, comment_end}
use Rattle.away_lex.proofs.Apart.{plus_some}
use Rattle.away_lex.proofs.Runs.{and_left, and_right}

-- ---- a comment of the definition is found

-- what is found behind a comment, in so many others
abbrev behind : ℕ → List ℕ → Option ℕ
behind zero r = Some 0
behind (suc d) r = comment_len d r

abbrev Found : List ℕ → Type 0
Found s = (d : ℕ) (r : List ℕ) → comment_len d (s ++ r) ≡ plus (length s) (behind d r)

other_found : (d b c : ℕ) (z r : List ℕ) → is_comment_closing b c ≡ false → is_comment_opening b c ≡ false → comment_len d ((c ∷ z) ++ r) ≡ plus (length (c ∷ z)) (behind d r)
    → comment_len d ((b ∷ c ∷ z) ++ r) ≡ plus (length (b ∷ c ∷ z)) (behind d r)
other_found d b c z r g h ih = comment_on d b (c ∷ (z ++ r)) g h ∙ ap (plus 1) ih ∙ plus_plus 1 (length (c ∷ z)) (behind d r) ∙ ap (λ n. plus n (behind d r)) (omega arith)

nested_found : (d : ℕ) (inner z r : List ℕ) → Found inner → Found z → comment_len d ((47 ∷ 42 ∷ (inner ++ z)) ++ r) ≡ plus (length (47 ∷ 42 ∷ (inner ++ z))) (behind d r)
nested_found d inner z r f g =
    let join : (inner ++ z) ++ r ≡ inner ++ (z ++ r) = append_assoc inner z r in
    let next : d + 1 ≡ suc d = omega arith in
    let size : 2 + (length inner + length z) ≡ length (47 ∷ 42 ∷ (inner ++ z)) = omega (arith, length-append inner z) in
    comment_down d 47 (42 ∷ ((inner ++ z) ++ r)) refl refl
    ∙ ap (plus 2) ((λ i. comment_len (next i) (join i)) ∙ f (suc d) (z ++ r) ∙ ap (plus (length inner)) (g d r) ∙ plus_plus (length inner) (length z) (behind d r))
    ∙ plus_plus 2 (length inner + length z) (behind d r) ∙ ap (λ n. plus n (behind d r)) size

found : {s : List ℕ} → ClosesComment s → Found s
found closes zero r = refl
found closes (suc d) r = refl
found (other {b = b} {c = c} {z = z} g h more) d r = other_found d b c z r g h (found more d r)
found (nests {inner = inner} {z = z} a more) d r = nested_found d inner z r (found a) (found more)

pub comment_found : (s r : List ℕ) → ClosesComment s → comment_len 0 (s ++ r) ≡ Some (length s)
comment_found s r c = found c 0 r ∙ ap Some (omega arith)

-- ---- what is found is a comment of the definition

-- what closes so many comments, and then one more
abbrev pub Closes : ℕ → List ℕ → Type 0
Closes zero s = ClosesComment s
Closes (suc d) s = (a : List ℕ) × ((b : List ℕ) × (s ≡ a ++ b) × ClosesComment a × Closes d b)

closes_some : {s : List ℕ} → ClosesComment s → 2 ≤ length s
closes_some closes = omega arith
closes_some (other g h more) = omega arith
closes_some (nests a more) = omega arith

all_some : (d : ℕ) (s : List ℕ) → Closes d s → 2 ≤ length s
all_some zero s c = closes_some c
all_some (suc d) s c = omega (arith, ap length c.1.1, length-append c.0 c.1.0, closes_some c.1.2)

add_other_to : (d b c : ℕ) (s a rest : List ℕ) → is_comment_closing b c ≡ false → is_comment_opening b c ≡ false → c ∷ s ≡ a ++ rest → ClosesComment a → Closes d rest → Closes (suc d) (b ∷ c ∷ s)
add_other_to d b c s [] rest g h e a more = absurd (omega (arith, closes_some a))
add_other_to d b c s (x ∷ a) rest g h e first more =
    let same : c ≡ x = cc in
    (b ∷ x ∷ a, (rest, ap (λ l. b ∷ l) e, other (subst (λ y. is_comment_closing b y ≡ false) same g) (subst (λ y. is_comment_opening b y ≡ false) same h) first, more))

add_other : (d b c : ℕ) (s : List ℕ) → is_comment_closing b c ≡ false → is_comment_opening b c ≡ false → Closes d (c ∷ s) → Closes d (b ∷ c ∷ s)
add_other zero b c s g h more = other g h more
add_other (suc d) b c s g h more = add_other_to d b c s more.0 more.1.0 g h more.1.1 more.1.2 more.1.3

add_opening : (d : ℕ) (s : List ℕ) → Closes (suc d) s → Closes d (47 ∷ 42 ∷ s)
add_opening zero s c = subst (λ l. ClosesComment (47 ∷ 42 ∷ l)) (sym c.1.1) (nests c.1.2 c.1.3)
add_opening (suc d) s c =
    let rest = c.1.3 in
    let e : s ≡ (c.0 ++ rest.0) ++ rest.1.0 = c.1.1 ∙ ap (λ l. c.0 ++ l) rest.1.1 ∙ sym (append_assoc c.0 rest.0 rest.1.0) in
    (47 ∷ 42 ∷ (c.0 ++ rest.0), (rest.1.0, ap (λ l. 47 ∷ 42 ∷ l) e, nests c.1.2 rest.1.2, rest.1.3))

add_closing : (d : ℕ) (s : List ℕ) → Closes d s → Closes (suc d) (42 ∷ 47 ∷ s)
add_closing d s c = (42 ∷ 47 ∷ [], (s, refl, closes, c))

abbrev IsClosed : ℕ → List ℕ → ℕ → Type 0
IsClosed d z n = (n ≤ length z) × Closes d (take n z)

two_are : (b c x y : ℕ) → (eqb b x && eqb c y) ≡ true → (b ≡ x) × (c ≡ y)
two_are b c x y h = (eqb-true b x (and_left (eqb b x) (eqb c y) h), eqb-true c y (and_right (eqb b x) (eqb c y) h))

-- the bytes of two, and what is closed behind them
behind_two : (d e b c x y : ℕ) (z : List ℕ) (n : ℕ) → (b ≡ x) × (c ≡ y) → ((s : List ℕ) → Closes e s → Closes d (x ∷ y ∷ s)) → IsClosed e z n → IsClosed d (b ∷ c ∷ z) (2 + n)
behind_two d e b c x y z n is add more =
    let k : 2 + n ≡ suc (suc n) = omega arith in
    subst (λ m. IsClosed d (b ∷ c ∷ z) m) (sym k) (omega (arith, more.0), subst (Closes d) (λ i. sym is.0 i ∷ sym is.1 i ∷ take n z) (add (take n z) more.1))

behind_one : (d b c : ℕ) (z : List ℕ) (n : ℕ) → is_comment_closing b c ≡ false → is_comment_opening b c ≡ false → IsClosed d (c ∷ z) n → IsClosed d (b ∷ c ∷ z) (1 + n)
behind_one d b c z zero g h more = absurd (omega (arith, all_some d [] more.1))
behind_one d b c z (suc n) g h more =
    let k : 1 + suc n ≡ suc (suc n) = omega arith in
    subst (λ m. IsClosed d (b ∷ c ∷ z) m) (sym k) (omega (arith, more.0), add_other d b c (take n z) g h more.1)

closing_of : (d : ℕ) (b c : ℕ) (z : List ℕ) (n : ℕ) → is_comment_closing b c ≡ true → comment_len d (b ∷ c ∷ z) ≡ Some n
    → ((e k : ℕ) → comment_len e z ≡ Some k → IsClosed e z k) → IsClosed d (b ∷ c ∷ z) n
closing_of zero b c z n h e ih =
    let is = two_are b c 42 47 h in
    let size : n ≡ 2 = (let f = comment_end b (c ∷ z) h in cc) in
    subst (IsClosed 0 (b ∷ c ∷ z)) (sym size) (omega arith, subst ClosesComment (λ i. sym is.0 i ∷ sym is.1 i ∷ []) closes)
closing_of (suc d) b c z n h e ih =
    let is = two_are b c 42 47 h in
    let same : suc d - 1 ≡ d = omega arith in
    let p = plus_some 2 n (comment_len d z) (ap (λ k. plus 2 (comment_len k z)) (sym same) ∙ sym (comment_up (suc d) b (c ∷ z) h (omega arith)) ∙ e) in
    subst (IsClosed (suc d) (b ∷ c ∷ z)) (sym p.2) (behind_two (suc d) d b c 42 47 z p.0 is (add_closing d) (ih d p.0 p.1))

pub all_closed : (d : ℕ) (z : List ℕ) (n : ℕ) → comment_len d z ≡ Some n → IsClosed d z n
all_closed d [] n e = absurd (cc)
all_closed d (b ∷ []) n e = absurd (cc)
all_closed d (b ∷ c ∷ z) n e = elim (cases_Bool (is_comment_closing b c)) [
  | inl y ↦ closing_of d b c z n y e (λ k m h. all_closed k z m h)
  | inr g ↦ elim (cases_Bool (is_comment_opening b c)) [
    | inl y ↦ (let is = two_are b c 47 42 y in
        let same : d + 1 ≡ suc d = omega arith in
        let p = plus_some 2 n (comment_len (suc d) z) (ap (λ k. plus 2 (comment_len k z)) (sym same) ∙ sym (comment_down d b (c ∷ z) g y) ∙ e) in
        subst (IsClosed d (b ∷ c ∷ z)) (sym p.2) (behind_two d (suc d) b c 47 42 z p.0 is (add_opening d) (all_closed (suc d) z p.0 p.1)))
    | inr h ↦ (let p = plus_some 1 n (comment_len d (c ∷ z)) (sym (comment_on d b (c ∷ z) g h) ∙ e) in
        subst (IsClosed d (b ∷ c ∷ z)) (sym p.2) (behind_one d b c z p.0 g h (all_closed d (c ∷ z) p.0 p.1)))
  ]
]
