-- How many places set a name, block by block.
use Rattle.std.proofs.Common.{◌≡◌, ℕ, zero, suc, ◌+◌, ◌<◌, ◌≤◌, List, [], ◌∷◌, length, get_or, drop, refl, sym, ap, ◌∙◌, arith}
use Rattle.block_forms.specs.declared.forms.SsaBlock.{SsaBlock}
use Rattle.block_forms.specs.Named.{phis_with_name, assigns_to, places_that_set}

pub places_here : (ys : List SsaBlock) (i n : ℕ) (y : SsaBlock) → i < length ys → y ≡ get_or ys i y
    → places_that_set (drop i ys) n ≡ (phis_with_name y.phis n + assigns_to y.set n) + places_that_set (drop (i + 1) ys) n
places_here [] i n y lt e = absurd (omega arith)
places_here (x ∷ xs) zero n y lt e = ap (λ (x : SsaBlock). (phis_with_name x.phis n + assigns_to x.set n) + places_that_set xs n) (sym e)
places_here (x ∷ xs) (suc i) n y lt e =
    places_here xs i n y (omega arith) e
    ∙ ap (λ j. (phis_with_name y.phis n + assigns_to y.set n) + places_that_set (drop j (x ∷ xs)) n) (let q : suc (i + 1) ≡ suc i + 1 = omega arith in q)

pub places_past : (ys : List SsaBlock) (i n : ℕ) → length ys ≤ i → places_that_set (drop i ys) n ≡ 0
places_past [] zero n le = refl
places_past [] (suc i) n le = refl
places_past (x ∷ xs) zero n le = absurd (omega arith)
places_past (x ∷ xs) (suc i) n le = places_past xs i n (omega arith)
