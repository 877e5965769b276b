-- Blocks by place, and blocks by their parts.
use Rattle.std.proofs.Common.{◌≡◌, ℕ, zero, suc, ◌+◌, List, [], ◌∷◌, ◌++◌, map, length, slice_get, Option, Some, refl, sym, ap, ◌∙◌, subst, arith}
use Rattle.ssa_build.specs.Forms.{End, Phi, SsaBlock, Term}
use Rattle.block_graph.proofs.Lists.{none_some, some_same}

pub map_plain : {X : Type 0} (xs : List X) → map (λ x. x) xs ≡ xs
map_plain [] = refl
map_plain (x ∷ xs) = ap (λ l. x ∷ l) (map_plain xs)

abbrev pub ssa_block : List (ℕ × ℕ) → List Phi → Option (ℕ × Term) → End → SsaBlock
ssa_block m p s e = record { map = m; phis = p; set = s; end = e }

pub same_block : {m m' : List (ℕ × ℕ)} {p p' : List Phi} {s s' : Option (ℕ × Term)} {e e' : End} → m ≡ m' → p ≡ p' → s ≡ s' → e ≡ e' → ssa_block m p s e ≡ ssa_block m' p' s' e'
same_block {m} {m'} {p} {p'} {s} {s'} {e} {e'} a b c d = ap (λ v. ssa_block v p s e) a ∙ ap (λ v. ssa_block m' v s e) b ∙ ap (λ v. ssa_block m' p' v e) c ∙ ap (λ v. ssa_block m' p' s' v) d

pub each_more : {Y : Type 0} (P : ℕ → Y → Type 0) (ys : List Y) (y : Y) (n : ℕ) → length ys ≡ n → ((b : ℕ) (w : Y) → slice_get ys b ≡ Some w → P b w) → P n y → (b : ℕ) (w : Y) → slice_get (ys ++ y ∷ []) b ≡ Some w → P b w
each_more P [] y zero e h last zero w at = subst (P zero) (some_same at) last
each_more P [] y zero e h last (suc b) w at = absurd (none_some at)
each_more P [] y (suc n) e h last b w at = absurd (let f : ⊥ = omega (arith, e) in f)
each_more P (z ∷ zs) y zero e h last b w at = absurd (let f : ⊥ = omega (arith, e) in f)
each_more P (z ∷ zs) y (suc n) e h last zero w at = h zero w at
each_more P (z ∷ zs) y (suc n) e h last (suc b) w at = each_more (λ b. P (suc b)) zs y n (omega (arith, e)) (λ b w at. h (suc b) w at) last b w at

pub length_more : {Y : Type 0} (ys : List Y) (y : Y) → length (ys ++ y ∷ []) ≡ length ys + 1
length_more [] y = let e : 1 ≡ 0 + 1 = omega arith in e
length_more (z ∷ zs) y = ap suc (length_more zs y) ∙ (let e : suc (length zs + 1) ≡ suc (length zs) + 1 = omega arith in e)

-- two lists that agree by place
pub same_list : {X : Type 0} (xs ys : List X) → length xs ≡ length ys → ((b : ℕ) (x : X) → slice_get xs b ≡ Some x → slice_get ys b ≡ Some x) → xs ≡ ys
same_list [] [] e h = refl
same_list [] (y ∷ ys) e h = absurd (let f : ⊥ = omega (arith, e) in f)
same_list (x ∷ xs) [] e h = absurd (let f : ⊥ = omega (arith, e) in f)
same_list (x ∷ xs) (y ∷ ys) e h = ap (λ v. v ∷ xs) (some_same (sym (h zero x refl))) ∙ ap (λ l. y ∷ l) (same_list xs ys (omega (arith, e)) (λ b w at. h (suc b) w at))
