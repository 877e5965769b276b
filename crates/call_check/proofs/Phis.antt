-- The first φ with a name.
use Rattle.std.proofs.Common.{◌≡◌, ◌≢◌, ℕ, zero, suc, ◌+◌, ◌<◌, List, [], ◌∷◌, length, get_or, drop, Some, refl, sym, ap, ◌∙◌, arith}
use Rattle.std.proofs.lemmas.Bool.{eq-eqb, ne_eqb}
use Rattle.block_forms.specs.declared.forms.Phi.{Phi}
use Rattle.block_forms.specs.Forms.{phi_named}

pub phi_here : (fs : List Phi) (i n : ℕ) (f : Phi) → i < length fs → f ≡ get_or fs i f → f.name ≡ n → phi_named ((drop i fs)) n ≡ Some f
phi_here [] i n f lt e h = absurd (omega arith)
phi_here (p ∷ ps) zero n f lt e h =
    let same : p.name ≡ n = ap (λ (q : Phi). q.name) (sym e) ∙ h in
    rw (eq-eqb p.name n same) (ap (λ q. Some q) (sym e))
phi_here (p ∷ ps) (suc i) n f lt e h = phi_here ps i n f (omega arith) e h

pub phi_after : (fs : List Phi) (i n : ℕ) (f : Phi) → i < length fs → f ≡ get_or fs i f → f.name ≢ n
    → phi_named ((drop i fs)) n ≡ phi_named ((drop (i + 1) fs)) n
phi_after [] i n f lt e h = absurd (omega arith)
phi_after (p ∷ ps) zero n f lt e h = rw (ne_eqb p.name n (λ q. h (ap (λ (q : Phi). q.name) e ∙ q))) refl
phi_after (p ∷ ps) (suc i) n f lt e h =
    phi_after ps i n f (omega arith) e h ∙ ap (λ j. phi_named ((drop j (p ∷ ps))) n) (let q : suc (i + 1) ≡ suc i + 1 = omega arith in q)
