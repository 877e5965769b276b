-- Where each block has a part, there are as many parts as blocks.
use Rattle.std.proofs.Common.{◌≡◌, refl, ℕ, zero, suc, ◌+◌, ◌<◌, ◌≤◌, Bool, true, false, nat_eq, List, [], ◌∷◌, ◌++◌, arith}
use Rattle.std.proofs.lemmas.Bool.{eqb-true}
use Rattle.block_forms.specs.Lowered.{one_of, owners, sharers}
use Rattle.block_forms.specs.Patterns.{Part, own, shared, same, never}

-- how many parts have a block
abbrev pub filled : List Part → ℕ
filled [] = 0
filled (own b x ∷ ps) = 1 + filled ps
filled (shared b x ∷ ps) = 1 + filled ps
filled (same a b ∷ ps) = filled ps
filled (never ∷ ps) = filled ps

pub filled_append : (ps qs : List Part) → filled (ps ++ qs) ≡ filled ps + filled qs
filled_append [] qs = omega arith
filled_append (own b x ∷ ps) qs = omega (arith, filled_append ps qs)
filled_append (shared b x ∷ ps) qs = omega (arith, filled_append ps qs)
filled_append (same a b ∷ ps) qs = omega (arith, filled_append ps qs)
filled_append (never ∷ ps) qs = omega (arith, filled_append ps qs)

-- how many of the first blocks are the block c
abbrev times : ℕ → ℕ → ℕ
times zero c = 0
times (suc n) c = one_of (nat_eq c n) + times n c

beyond : (n c : ℕ) → n ≤ c → times n c ≡ 0
beyond zero c l = refl
beyond (suc n) c l = by (nat_eq c n) refl (beyond n c (omega (arith, l)))
  where
    by : (t : Bool) → nat_eq c n ≡ t → times n c ≡ 0 → one_of t + times n c ≡ 0
    by true e none = let is : c ≡ n = eqb-true c n e in omega (arith, is, l)
    by false e none = omega (arith, none)

once : (n c : ℕ) → times n c ≤ 1
once zero c = omega arith
once (suc n) c = by (nat_eq c n) refl (once n c)
  where
    by : (t : Bool) → nat_eq c n ≡ t → times n c ≤ 1 → one_of t + times n c ≤ 1
    by true e before = let is : c ≡ n = eqb-true c n e in omega (arith, beyond n c (omega (arith, is)))
    by false e before = omega (arith, before)

-- how many parts the first blocks have together
abbrev taken : ℕ → List Part → ℕ
taken zero ps = 0
taken (suc n) ps = owners n ps + sharers n ps + taken n ps

none_taken : (n : ℕ) → taken n [] ≡ 0
none_taken zero = refl
none_taken (suc n) = omega (arith, none_taken n)

own_taken : (n b : ℕ) (x : _) (ps : List Part) → taken n (own b x ∷ ps) ≡ times n b + taken n ps
own_taken zero b x ps = refl
own_taken (suc n) b x ps = omega (arith, own_taken n b x ps)

shared_taken : (n b : ℕ) (x : _) (ps : List Part) → taken n (shared b x ∷ ps) ≡ times n b + taken n ps
shared_taken zero b x ps = refl
shared_taken (suc n) b x ps = omega (arith, shared_taken n b x ps)

same_taken : (n a b : ℕ) (ps : List Part) → taken n (same a b ∷ ps) ≡ taken n ps
same_taken zero a b ps = refl
same_taken (suc n) a b ps = omega (arith, same_taken n a b ps)

never_taken : (n : ℕ) (ps : List Part) → taken n (never ∷ ps) ≡ taken n ps
never_taken zero ps = refl
never_taken (suc n) ps = omega (arith, never_taken n ps)

few_taken : (n : ℕ) (ps : List Part) → taken n ps ≤ filled ps
few_taken n [] = omega (arith, none_taken n)
few_taken n (own b x ∷ ps) = omega (arith, own_taken n b x ps, once n b, few_taken n ps)
few_taken n (shared b x ∷ ps) = omega (arith, shared_taken n b x ps, once n b, few_taken n ps)
few_taken n (same a b ∷ ps) = omega (arith, same_taken n a b ps, few_taken n ps)
few_taken n (never ∷ ps) = omega (arith, never_taken n ps, few_taken n ps)

all_taken : (n : ℕ) (ps : List Part) → ((b : ℕ) → b < n → 1 ≤ owners b ps + sharers b ps) → n ≤ taken n ps
all_taken zero ps h = omega arith
all_taken (suc n) ps h = omega (arith, h n (omega arith), all_taken n ps (λ b l. h b (omega (arith, l))))

pub as_many : (n : ℕ) (ps : List Part) → ((b : ℕ) → b < n → 1 ≤ owners b ps + sharers b ps) → n ≤ filled ps
as_many n ps h = omega (arith, all_taken n ps h, few_taken n ps)
