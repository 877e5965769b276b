-- A name that is set at most once by count has one definition at most.
use Rattle.std.proofs.Common.{◌≡◌, ℕ, zero, suc, ◌+◌, ◌≤◌, Bool, true, cond, List, [], ◌∷◌, slice_get, Option, Some, None, nat_eq, option_map, refl, ap, ◌∙◌, arith}
use Rattle.std.proofs.lemmas.Bool.{eq-eqb}
use Rattle.std.proofs.lemmas.List.Sums.{sum_by-cons}
use Rattle.std.specs.List.{count_by}
use Rattle.block_forms.specs.declared.forms.Term.{Term}
use Rattle.block_forms.specs.declared.forms.Phi.{Phi}
use Rattle.block_forms.specs.declared.forms.SsaBlock.{SsaBlock}
use Rattle.block_forms.specs.Forms.{Assignment}
use Rattle.block_forms.specs.Lowered.{one_of}
use Rattle.block_forms.specs.Named.{assigns_to, phis_with_name, places_that_set}
use Rattle.ssa_check.specs.Definitions.{Part, phi, assignment, Definition, definition, set_by, Sets}

pub count_by-cons : {X : Type 0} (p : X → Bool) (x : X) (xs : List X) → count_by p (x ∷ xs) ≡ cond (p x) 1 0 + count_by p xs
count_by-cons p x xs = sum_by-cons (λ x. cond (p x) 1 0) x xs

pub count_by-yes : {X : Type 0} (p : X → Bool) (x : X) (xs : List X) → p x ≡ true → count_by p (x ∷ xs) ≡ 1 + count_by p xs
count_by-yes p x xs passes = count_by-cons p x xs ∙ ap (λ b. cond b 1 0 + count_by p xs) passes

pub count_by-less : {X : Type 0} (p : X → Bool) (x : X) (xs : List X) → count_by p xs ≤ count_by p (x ∷ xs)
count_by-less p x xs = omega (arith, count_by-cons p x xs)

-- an element that passes counts
pub counts : {X : Type 0} (p : X → Bool) (xs : List X) (i : ℕ) (x : X) → slice_get xs i ≡ Some x → p x ≡ true → 1 ≤ count_by p xs
counts p [] i x e passes = absurd (cc)
counts p (y ∷ ys) zero x e passes =
    let same : y ≡ x = cc in
    omega (arith, count_by-yes p y ys (ap p same ∙ passes))
counts p (y ∷ ys) (suc i) x e passes = omega (arith, counts p ys i x e passes, count_by-less p y ys)

-- where at most one passes, it has one place
pub one_place : {X : Type 0} (p : X → Bool) (xs : List X) (i j : ℕ) (x y : X) → count_by p xs ≤ 1 → slice_get xs i ≡ Some x
    → slice_get xs j ≡ Some y → p x ≡ true → p y ≡ true → i ≡ j
one_place p [] i j x y few e f passes passes' = absurd (cc)
one_place p (a ∷ rest) zero zero x y few e f passes passes' = refl
one_place p (a ∷ rest) zero (suc j) x y few e f passes passes' =
    let same : a ≡ x = cc in
    absurd (omega (arith, few, count_by-yes p a rest (ap p same ∙ passes), counts p rest j y f passes'))
one_place p (a ∷ rest) (suc i) zero x y few e f passes passes' =
    let same : a ≡ y = cc in
    absurd (omega (arith, few, count_by-yes p a rest (ap p same ∙ passes'), counts p rest i x e passes))
one_place p (a ∷ rest) (suc i) (suc j) x y few e f passes passes' =
    ap suc (one_place p rest i j x y (omega (arith, few, count_by-less p a rest)) e f passes passes')

-- ---- in a block

phi_name : (o : Option Phi) (n : ℕ) → option_map (λ (f : Phi). f.name) o ≡ Some n → (f : Phi) × (o ≡ Some f) × (nat_eq f.name n ≡ true)
phi_name None n e = absurd (cc)
phi_name (Some f) n e = let name : f.name ≡ n = cc in (f, refl, eq-eqb f.name n name)

phi_counts : (y : SsaBlock) (i n : ℕ) → set_by (Some y) (phi i) ≡ Some n → 1 ≤ phis_with_name y.phis n
phi_counts y i n e = let f = phi_name (slice_get y.phis i) n e in counts (λ (f : Phi). nat_eq f.name n) y.phis i f.0 f.1 f.2

assignment_counts : (s : Assignment) (n : ℕ) → option_map (λ (a : ℕ × Term). a.0) s ≡ Some n → assigns_to s n ≡ 1
assignment_counts None n e = absurd (cc)
assignment_counts (Some a) n e = let name : a.0 ≡ n = cc in ap one_of (eq-eqb a.0 n name)

abbrev sets_in_block : SsaBlock → ℕ → ℕ
sets_in_block y n = phis_with_name y.phis n + assigns_to y.set n

part_counts : (y : SsaBlock) (p : Part) (n : ℕ) → set_by (Some y) p ≡ Some n → 1 ≤ sets_in_block y n
part_counts y (phi i) n e = omega (arith, phi_counts y i n e)
part_counts y assignment n e = omega (arith, assignment_counts y.set n e)

one_part : (y : SsaBlock) (p q : Part) (n : ℕ) → sets_in_block y n ≤ 1 → set_by (Some y) p ≡ Some n → set_by (Some y) q ≡ Some n → p ≡ q
one_part y (phi i) (phi j) n few e f =
    let x = phi_name (slice_get y.phis i) n e in
    let x' = phi_name (slice_get y.phis j) n f in
    let few' : phis_with_name y.phis n ≤ 1 = omega (arith, few) in
    ap phi (one_place (λ (f : Phi). nat_eq f.name n) y.phis i j x.0 x'.0 few' x.1 x'.1 x.2 x'.2)
one_part y (phi i) assignment n few e f = absurd (omega (arith, few, phi_counts y i n e, assignment_counts y.set n f))
one_part y assignment (phi j) n few e f = absurd (omega (arith, few, phi_counts y j n f, assignment_counts y.set n e))
one_part y assignment assignment n few e f = refl

-- ---- in a form

pub definition_counts : (ys : List SsaBlock) (b : ℕ) (p : Part) (n : ℕ) → Sets ys (definition b p) n → 1 ≤ places_that_set ys n
definition_counts [] b p n e = absurd (cc)
definition_counts (y ∷ ys) zero p n e = omega (arith, part_counts y p n e)
definition_counts (y ∷ ys) (suc b) p n e = omega (arith, definition_counts ys b p n e)

pub one_definition : (ys : List SsaBlock) (b c : ℕ) (p q : Part) (n : ℕ) → places_that_set ys n ≤ 1 → Sets ys (definition b p) n
    → Sets ys (definition c q) n → definition b p ≡ definition c q
one_definition [] b c p q n few e f = absurd (cc)
one_definition (y ∷ ys) zero zero p q n few e f = ap (definition 0) (one_part y p q n (omega (arith, few)) e f)
one_definition (y ∷ ys) zero (suc c) p q n few e f = absurd (omega (arith, few, part_counts y p n e, definition_counts ys c q n f))
one_definition (y ∷ ys) (suc b) zero p q n few e f = absurd (omega (arith, few, part_counts y q n f, definition_counts ys b p n e))
one_definition (y ∷ ys) (suc b) (suc c) p q n few e f =
    ap (λ (d : Definition). definition (suc d.block) d.part) (one_definition ys b c p q n (omega (arith, few)) e f)
