-- A row that is written and read by the places of a label.
use Rattle.std.proofs.Common.{◌≡◌, ℕ, zero, suc, ◌+◌, ◌<◌, Bool, true, false, if◌then◌else◌, nat_eq, List, [], ◌∷◌, length, get_or, refl, ap, ◌∙◌, arith}
use Rattle.std.proofs.lemmas.Bool.{eq-eqb, ne_eqb}
use Rattle.away_values.specs.declared.types.Ty.{Ty}
use Rattle.away_values.specs.declared.values.Value.{Value}
use Rattle.away_values.specs.declared.values.Value.TheVariants as val
use Rattle.call_forms.specs.Scopes.{Scope, paired}
use Rattle.call_forms.specs.TailRuns.{row_from}
use Rattle.call_law.proofs.Numbers.{Differ, Misses, Below}

at_row_from : (s : Scope Value) (places args : List ℕ) (i : ℕ) (columns : List Ty) (c : ℕ) → c < length columns
    → get_or (row_from i s places args columns) c val.Null ≡ paired s val.Null places args (i + c)
at_row_from s places args i [] c lt = absurd (omega (arith, lt))
at_row_from s places args i (t ∷ ts) zero lt = ap (paired s val.Null places args) (let e : i ≡ i + 0 = omega arith in e)
at_row_from s places args i (t ∷ ts) (suc c) lt =
    at_row_from s places args (suc i) ts c (omega (arith, lt)) ∙ ap (paired s val.Null places args) (let e : suc i + c ≡ i + suc c = omega arith in e)

-- what is read at the places is what was passed
abbrev AreRead : Scope Value → Scope Value → List ℕ → List ℕ → Type 0
AreRead g s [] args = Unit {0}
AreRead g s (c ∷ cs) [] = (g c ≡ val.Null) × AreRead g s cs []
AreRead g s (c ∷ cs) (n ∷ ns) = (g c ≡ s n) × AreRead g s cs ns

pair_read : (g s : Scope Value) (params places args : List ℕ) → length places ≡ length params → AreRead g s places args → (p : ℕ)
    → paired g val.Null params places p ≡ paired s val.Null params args p
pair_read g s [] places args same h p = refl
pair_read g s (x ∷ params) [] args same h p = absurd (omega (arith, same))
pair_read g s (x ∷ params) (c ∷ cs) [] same h p =
    (λ i. if nat_eq x p then h.0 i else (pair_read g s params cs [] (omega (arith, same)) h.1 p ∙ nothing params) i) ∙ if_same (nat_eq x p)
  where
    nothing : (params : List ℕ) → paired s val.Null params [] p ≡ val.Null
    nothing [] = refl
    nothing (x ∷ params) = refl

    if_same : (b : Bool) → (if b then val.Null else val.Null) ≡ val.Null
    if_same true = refl
    if_same false = refl
pair_read g s (x ∷ params) (c ∷ cs) (n ∷ ns) same h p =
    λ i. if nat_eq x p then h.0 i else pair_read g s params cs ns (omega (arith, same)) h.1 p i

-- a key in front that is none of the others changes nothing for them
other_key : (s : Scope Value) (x n : ℕ) (ks ns cs args : List ℕ) → Misses x cs → AreRead (paired s val.Null ks ns) s cs args
    → AreRead (paired s val.Null (x ∷ ks) (n ∷ ns)) s cs args
other_key s x n ks ns [] args h r = tt
other_key s x n ks ns (c ∷ cs) [] h r =
    (ap (λ b. if b then s n else paired s val.Null ks ns c) (ne_eqb x c h.0) ∙ r.0, other_key s x n ks ns cs [] h.1 r.1)
other_key s x n ks ns (c ∷ cs) (a ∷ args) h r =
    (ap (λ b. if b then s n else paired s val.Null ks ns c) (ne_eqb x c h.0) ∙ r.0, other_key s x n ks ns cs args h.1 r.1)

no_args : (s : Scope Value) (ks cs : List ℕ) → AreRead (paired s val.Null ks []) s cs []
no_args s ks [] = tt
no_args s [] (c ∷ cs) = (refl, no_args s [] cs)
no_args s (k ∷ ks) (c ∷ cs) = (refl, no_args s (k ∷ ks) cs)

own_keys : (s : Scope Value) (ks ns : List ℕ) → Differ ks → AreRead (paired s val.Null ks ns) s ks ns
own_keys s [] ns h = tt
own_keys s (k ∷ ks) [] h = no_args s (k ∷ ks) (k ∷ ks)
own_keys s (k ∷ ks) (n ∷ ns) h =
    (ap (λ b. if b then s n else paired s val.Null ks ns k) (eq-eqb k k refl), other_key s k n ks ns ks ns h.0 (own_keys s ks ns h.1))

in_row : (s : Scope Value) (ks ns : List ℕ) (columns : List Ty) (cs args : List ℕ) → Below (length columns) cs
    → AreRead (paired s val.Null ks ns) s cs args → AreRead (λ c. get_or (row_from 0 s ks ns columns) c val.Null) s cs args
in_row s ks ns columns [] args h r = tt
in_row s ks ns columns (c ∷ cs) [] h r = (
  at_row_from s ks ns 0 columns c h.0 ∙ (ap (paired s val.Null ks ns) (let e : 0 + c ≡ c = omega arith in e) ∙ r.0),
  in_row s ks ns columns cs [] h.1 r.1,
)
in_row s ks ns columns (c ∷ cs) (a ∷ args) h r = (
  at_row_from s ks ns 0 columns c h.0 ∙ (ap (paired s val.Null ks ns) (let e : 0 + c ≡ c = omega arith in e) ∙ r.0),
  in_row s ks ns columns cs args h.1 r.1,
)

-- a parameter's value comes back from its place
pub recoded : (s : Scope Value) (columns : List Ty) (params places args : List ℕ) → Differ places → Below (length columns) places
    → length places ≡ length params → (p : ℕ)
    → paired (λ c. get_or (row_from 0 s places args columns) c val.Null) val.Null params places p ≡ paired s val.Null params args p
recoded s columns params places args differ below same p =
    pair_read (λ c. get_or (row_from 0 s places args columns) c val.Null) s params places args same
    (in_row s places args columns places args below (own_keys s places args differ)) p
