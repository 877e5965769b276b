-- A block with one call to it has one caller.
use Rattle.std.proofs.Common.{◌≡◌, ℕ, zero, suc, ◌+◌, ◌<◌, ◌≤◌, Bool, true, false, List, [], ◌∷◌, Option, Some, None, refl, ap, sym, subst, inl, inr, arith}
use Rattle.std.specs.Prelude.{slice_get, nat_eq}
use Rattle.std.proofs.lemmas.Bool.{eq-eqb, eqb-true}
use Rattle.block_forms.specs.Lowered.{one_of}
use Rattle.call_forms.specs.declared.forms.CallEnd.{CallEnd}
use Rattle.call_forms.specs.declared.forms.AnfBlock.{AnfBlock}
use Rattle.call_forms.specs.declared.forms.CallEnd.TheVariants.{Go, Pick, Return, Fail}
use Rattle.call_forms.specs.Merged.{end_calls, calls_to, AtCalls}
use Rattle.call_forms.specs.Tight.{DepthAfter}

-- how many calls of a block go to b
abbrev pub calls_of : Option AnfBlock → ℕ → ℕ
calls_of None b = 0
calls_of (Some x) b = end_calls b x.end

pub some_call : (xs : List AnfBlock) (b i : ℕ) → calls_of (slice_get xs i) b ≤ calls_to b xs
some_call [] b i = omega arith
some_call (x ∷ xs) b zero = first (end_calls b x.end) (calls_to b xs)
  where
    first : (m n : ℕ) → m ≤ m + n
    first m n = omega arith
some_call (x ∷ xs) b (suc i) = later (calls_of (slice_get xs i) b) (end_calls b x.end) (calls_to b xs) (some_call xs b i)
  where
    later : (c m n : ℕ) → c ≤ n → c ≤ m + n
    later c m n q = omega (arith, q)

two_calls : (m n c : ℕ) → 0 < m → 0 < c → c ≤ n → m + n ≤ 1 → ⊥
two_calls m n c a b d e = omega (arith, a, b, d, e)

pub one_caller : (xs : List AnfBlock) (b i j : ℕ) → 0 < calls_of (slice_get xs i) b → 0 < calls_of (slice_get xs j) b → calls_to b xs ≤ 1 → i ≡ j
one_caller [] b i j h k few = absurd (let no : ⊥ = omega (arith, h) in no)
one_caller (x ∷ xs) b zero zero h k few = refl
one_caller (x ∷ xs) b zero (suc j) h k few =
    absurd (two_calls (end_calls b x.end) (calls_to b xs) (calls_of (slice_get xs j) b) h k (some_call xs b j) few)
one_caller (x ∷ xs) b (suc i) zero h k few =
    absurd (two_calls (end_calls b x.end) (calls_to b xs) (calls_of (slice_get xs i) b) k h (some_call xs b i) few)
one_caller (x ∷ xs) b (suc i) (suc j) h k few = ap suc (one_caller xs b i j h k (fewer (end_calls b x.end) (calls_to b xs) few))
  where
    fewer : (m n : ℕ) → m + n ≤ 1 → n ≤ 1
    fewer m n p = omega (arith, p)

called_is : (P : ℕ → Type 0) (c b : ℕ) → P c → 0 < one_of (nat_eq c b) → P b
called_is P c b here there = by (nat_eq c b) refl there
  where
    by : (t : Bool) → nat_eq c b ≡ t → 0 < one_of t → P b
    by true h there = subst P (eqb-true c b h) here
    by false h there = absurd (let no : ⊥ = omega (arith, there) in no)

-- ---- an end that gives a block a depth calls it

counted : (c b : ℕ) → c ≡ b → 1 ≤ one_of (nat_eq c b)
counted c b e = subst (λ t. 1 ≤ one_of t) (sym (eq-eqb c b e)) (let le : 1 ≤ 1 = omega arith in le)

add_first : (m n : ℕ) → 1 ≤ m → 0 < m + n
add_first m n p = omega (arith, p)

add_second : (m n : ℕ) → 1 ≤ n → 0 < m + n
add_second m n p = omega (arith, p)

pub depth_calls : (e : CallEnd) (b above d : ℕ) → DepthAfter e b above d → 0 < end_calls b e
depth_calls (Go c) b above d h = let one = counted c.target b h.0 in omega (arith, one)
depth_calls (Pick t x y) b above d h = elim h.0 [
  | inl q ↦ add_first (one_of (nat_eq x.target b)) (one_of (nat_eq y.target b)) (counted x.target b q)
  | inr q ↦ add_second (one_of (nat_eq x.target b)) (one_of (nat_eq y.target b)) (counted y.target b q)
]
depth_calls (Return t) b above d h = absurd h
depth_calls (Fail c) b above d h = absurd h

-- what holds of each block that an end calls holds of one to which it gives a depth
pub depth_target : (P : ℕ → Type 0) (e : CallEnd) (b above d : ℕ) → AtCalls P e → DepthAfter e b above d → P b
depth_target P (Go c) b above d all h = subst P h.0 all
depth_target P (Pick t x y) b above d all h = elim h.0 [ inl q ↦ subst P q all.0 | inr q ↦ subst P q all.1 ]
depth_target P (Return t) b above d all h = absurd h
depth_target P (Fail c) b above d all h = absurd h

both : (m n : ℕ) → 1 ≤ m → 1 ≤ n → 2 ≤ m + n
both m n p q = omega (arith, p, q)

-- a test with both arms to one block has two calls to it
pub both_arms : (b c d : ℕ) → c ≡ b → d ≡ b → 2 ≤ one_of (nat_eq c b) + one_of (nat_eq d b)
both_arms b c d p q = both (one_of (nat_eq c b)) (one_of (nat_eq d b)) (counted c b p) (counted d b q)

-- a block with a call is one for which holds what holds at each call
pub called_target : (P : ℕ → Type 0) (b : ℕ) (e : CallEnd) → AtCalls P e → 0 < end_calls b e → P b
called_target P b (Go c) all there = called_is P c.target b all there
called_target P b (Pick t x y) all there = by (nat_eq x.target b) refl there
  where
    second : (n : ℕ) → 0 < 0 + n → 0 < n
    second n lt = omega (arith, lt)

    by : (q : Bool) → nat_eq x.target b ≡ q → 0 < one_of q + one_of (nat_eq y.target b) → P b
    by true h there = subst P (eqb-true x.target b h) all.0
    by false h there = called_is P y.target b all.1 (second (one_of (nat_eq y.target b)) there)
called_target P b (Return t) all there = absurd (let no : ⊥ = omega (arith, there) in no)
called_target P b (Fail c) all there = absurd (let no : ⊥ = omega (arith, there) in no)
