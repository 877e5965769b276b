-- Cells that a condition chooses from two lists.
use Rattle.std.proofs.Common.{◌≡◌, refl, ap, ◌∙◌, ℕ, zero, suc, Bool, true, false, ◌||◌, if◌then◌else◌, List, [], ◌∷◌, length, Ok, arith}
use Rattle.away_trees.specs.declared.queries.Expr.{Expr}
use Rattle.away_values.specs.declared.values.Value.{Value}
use Rattle.away_values.specs.Operators.{is_true}
use Rattle.away_values.specs.Results.{and_then, mapped}
use Rattle.sql_meaning.specs.Context.{Context}
use Rattle.sql_meaning.specs.Expressions.{values, any_aggregates}
use Rattle.sql_meaning.specs.Meaning.{value, has_aggregate}
use Rattle.turn_template.specs.TurnTemplate.{choices, one_cell}
use Rattle.turn_law.proofs.Levels.{all, or_first, or_second}
use Rattle.turn_law.proofs.Settled.{either_is, either_single}

cell_true : (cx : Context) (c : Expr) (u : Value) → value c cx ≡ Ok u → is_true u ≡ true → (b : Bool) (e f : Expr) → (b ≡ true → e ≡ f)
    → value (one_cell b c e f) cx ≡ value e cx
cell_true cx c u h on true e f s = refl
cell_true cx c u h on false e f s = either_is c e f cx u h ∙ ap (λ b. if b then value e cx else value f cx) on

cell_false : (cx : Context) (c : Expr) (u : Value) → value c cx ≡ Ok u → is_true u ≡ false → (b : Bool) (e f : Expr) → (b ≡ true → e ≡ f)
    → value (one_cell b c e f) cx ≡ value f cx
cell_false cx c u h on true e f s = ap (λ x. value x cx) (s refl)
cell_false cx c u h on false e f s = either_is c e f cx u h ∙ ap (λ b. if b then value e cx else value f cx) on

cell_single : (c : Expr) → has_aggregate c ≡ false → (b : Bool) (e f : Expr) → has_aggregate e ≡ false → has_aggregate f ≡ false
    → has_aggregate (one_cell b c e f) ≡ false
cell_single c h true e f k l = k
cell_single c h false e f k l = either_single c e f h k l

module _ (same : Expr → Expr → Bool) (alike : (x y : Expr) → same x y ≡ true → x ≡ y) where
  pub choices_true : (cx : Context) (c : Expr) (u : Value) → value c cx ≡ Ok u → is_true u ≡ true → (es fs : List Expr) → length es ≡ length fs
      → values cx (all (choices same c es fs)) ≡ values cx (all es)
  choices_true cx c u h on [] fs long = refl
  choices_true cx c u h on (e ∷ es) [] long = absurd (omega (arith, long))
  choices_true cx c u h on (e ∷ es) (f ∷ fs) long =
      (λ i. and_then (cell_true cx c u h on (same e f) e f (alike e f) i)
      (λ y. mapped (λ ys. y ∷ ys) (choices_true cx c u h on es fs (omega (arith, long)) i)))

  pub choices_false : (cx : Context) (c : Expr) (u : Value) → value c cx ≡ Ok u → is_true u ≡ false → (es fs : List Expr) → length es ≡ length fs
      → values cx (all (choices same c es fs)) ≡ values cx (all fs)
  choices_false cx c u h on [] [] long = refl
  choices_false cx c u h on [] (f ∷ fs) long = absurd (omega (arith, long))
  choices_false cx c u h on (e ∷ es) [] long = refl
  choices_false cx c u h on (e ∷ es) (f ∷ fs) long =
      (λ i. and_then (cell_false cx c u h on (same e f) e f (alike e f) i)
      (λ y. mapped (λ ys. y ∷ ys) (choices_false cx c u h on es fs (omega (arith, long)) i)))

  pub choices_long : (c : Expr) (n : ℕ) (es fs : List Expr) → length es ≡ n → length fs ≡ n → length (choices same c es fs) ≡ n
  choices_long c n [] fs h k = h
  choices_long c n (e ∷ es) [] h k = absurd (omega (arith, h, k))
  choices_long c zero (e ∷ es) (f ∷ fs) h k = absurd (omega (arith, h))
  choices_long c (suc n) (e ∷ es) (f ∷ fs) h k = ap suc (choices_long c n es fs (omega (arith, h)) (omega (arith, k)))

  pub choices_single : (c : Expr) (es fs : List Expr) → has_aggregate c ≡ false → any_aggregates (all es) ≡ false → any_aggregates (all fs) ≡ false
      → any_aggregates (all (choices same c es fs)) ≡ false
  choices_single c [] fs h k l = refl
  choices_single c (e ∷ es) [] h k l = refl
  choices_single c (e ∷ es) (f ∷ fs) h k l =
      let first = cell_single c h (same e f) e f (or_first (has_aggregate e) (any_aggregates (all es)) k) (or_first (has_aggregate f) (any_aggregates (all fs)) l) in
      let rest = choices_single c es fs h (or_second (has_aggregate e) (any_aggregates (all es)) k) (or_second (has_aggregate f) (any_aggregates (all fs)) l) in
      λ i. first i || rest i
