-- Scopes whose members correspond, and the variables that an expression's slots hold.
use Rattle.std.proofs.Common.{◌≡◌, ℕ, zero, suc, Bool, true, false, cond, if◌then◌else◌, nat_eq, List, [], ◌∷◌, map, refl, ap, sym, ◌∙◌, arith}
use Rattle.std.proofs.lemmas.Bool.{eqb-true, eqb-false, eq-eqb, ne_eqb}
use Rattle.away_trees.specs.declared.queries.Col.{Col}
use Rattle.away_values.specs.declared.values.Value.{Value}
use Rattle.away_values.specs.declared.values.Value.TheVariants as val
use Rattle.sql_meaning.specs.Context.{at}
use Rattle.block_forms.specs.Expressions.{put_at, holding}
use Rattle.call_forms.specs.Scopes.{Scope, paired}
use Rattle.call_forms.specs.Template.{refers}

module _ {A B : Type 0} (R : A → B → Type 0) where
  either_way : (b : Bool) (x x' : A) (y y' : B) → R x y → R x' y' → R (cond b x x') (cond b y y')
  either_way true x x' y y' h k = h
  either_way false x x' y y' h k = k

  pub paired_relates : (f : ℕ → A) (g : ℕ → B) (d : A) (e : B) → ((n : ℕ) → R (f n) (g n)) → R d e → (ks ns : List ℕ) (i : ℕ)
      → R (paired f d ks ns i) (paired g e ks ns i)
  paired_relates f g d e h k [] ns i = k
  paired_relates f g d e h k (x ∷ ks) [] i = k
  paired_relates f g d e h k (x ∷ ks) (n ∷ ns) i =
      either_way (nat_eq x i) (f n) (paired f d ks ns i) (g n) (paired g e ks ns i) (h n) (paired_relates f g d e h k ks ns i)

-- a name that stands for something else from now on
pub refers_relates : (R : Col → Value → Type 0) (f : ℕ → Col) (g : ℕ → Value) (n : ℕ) (x : Col) (y : Value) → ((i : ℕ) → R (f i) (g i)) → R x y
    → (i : ℕ) → R (refers n x f i) (if nat_eq i n then y else g i)
refers_relates R f g n x y h k i = either_way R (nat_eq i n) x (f i) y (g i) k (h i)

-- ---- the variables of an entry

same_next : (k i : ℕ) → nat_eq (suc k) (suc i) ≡ nat_eq k i
same_next k i = by (nat_eq k i) refl
  where
    by : (b : Bool) → nat_eq k i ≡ b → nat_eq (suc k) (suc i) ≡ b
    by true h = eq-eqb (suc k) (suc i) (ap suc (eqb-true k i h))
    by false h = ne_eqb (suc k) (suc i) (λ p. eqb-false k i h (omega (arith, p)))

zero_next : (i : ℕ) → nat_eq zero (suc i) ≡ false
zero_next i = ne_eqb zero (suc i) (λ p. omega (arith, p))

next_zero : (i : ℕ) → nat_eq (suc i) zero ≡ false
next_zero i = ne_eqb (suc i) zero (λ p. omega (arith, p))

at_put : (k : ℕ) (v : Value) (xs : List Value) (i : ℕ) → at (put_at k v xs) i ≡ (if nat_eq k i then v else at xs i)
at_put zero v [] zero = refl
at_put zero v [] (suc i) = ap (λ b. if b then v else at [] (suc i)) (sym (zero_next i))
at_put zero v (x ∷ xs) zero = refl
at_put zero v (x ∷ xs) (suc i) = ap (λ b. if b then v else at (x ∷ xs) (suc i)) (sym (zero_next i))
at_put (suc k) v [] zero = ap (λ b. if b then v else at [] zero) (sym (next_zero k))
at_put (suc k) v [] (suc i) = at_put k v [] i ∙ ap (λ b. if b then v else at [] i) (sym (same_next k i))
at_put (suc k) v (x ∷ xs) zero = ap (λ b. if b then v else x) (sym (next_zero k))
at_put (suc k) v (x ∷ xs) (suc i) = at_put k v xs i ∙ ap (λ b. if b then v else at xs i) (sym (same_next k i))

pub at_held : (s : Scope Value) (ss ns : List ℕ) (i : ℕ) → at (holding ss (map (λ n. s n) ns)) i ≡ paired s val.Null ss ns i
at_held s [] ns i = refl
at_held s (x ∷ ss) [] i = refl
at_held s (x ∷ ss) (n ∷ ns) i =
    at_put x (s n) (holding ss (map (λ n. s n) ns)) i ∙ ap (λ y. if nat_eq x i then s n else y) (at_held s ss ns i)
