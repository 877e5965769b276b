-- When the test of two blocks says that they are one.
use Rattle.std.proofs.Common.{◌≡◌, ℕ, Bool, true, false, ◌&&◌, Option, Some, None, ◌↔◌, IsTrue, refl, sym, ap, nat_eq, bytes_eq}
use Rattle.std.proofs.lemmas.Bool.{eqb-true, eq-eqb}
use Rattle.std.proofs.lemmas.Slice.Eq.{bytes_eq-Decides}
use Rattle.away_values.specs.declared.values.Class.{Class}
use Rattle.block_forms.specs.declared.forms.Term.{Term}
use Rattle.block_forms.specs.declared.forms.End.{End}
use Rattle.block_forms.specs.declared.forms.Block.{Block}
use Rattle.block_forms.specs.declared.forms.End.TheVariants.{Jump, Branch, Return, Fail}
use Rattle.block_forms.specs.Forms.{Assignment}
use Rattle.goto_check.specs.Asking.{is_term, is_flag, is_set, is_end, is_block, is_found}

abbrev AnswerRuns : Bool → Type 0 → Type 0
AnswerRuns b P = (b ≡ true → P) × (P → b ≡ true)

first_true : (a b : Bool) → (a && b) ≡ true → a ≡ true
first_true true b h = refl
first_true false b h = h

second_true : (a b : Bool) → (a && b) ≡ true → b ≡ true
second_true true b h = h
second_true false b h = absurd (cc)

both_true : (a b : Bool) → a ≡ true → b ≡ true → (a && b) ≡ true
both_true a b h k = λ i. h i && k i

same_number : (a b : ℕ) → AnswerRuns (nat_eq a b) (a ≡ b)
same_number a b = (eqb-true a b, eq-eqb a b)

same_flag : (a b : Bool) → AnswerRuns (is_flag a b) (a ≡ b)
same_flag true b = (λ h. sym h, λ h. sym h)
same_flag false true = (λ h. absurd (cc), λ h. absurd (cc))
same_flag false false = (λ h. refl, λ h. refl)

same_term : (t u : Term) → AnswerRuns (is_term t u) (t ≡ u)
same_term t u = (
  λ h i. record { expr = eqb-true t.expr u.expr (first_true _ _ h) i; names = (bytes_eq-Decides t.names u.names).0 (second_true _ _ h) i },
  λ e. both_true _ _ (eq-eqb t.expr u.expr (ap (λ x. x.expr) e)) ((bytes_eq-Decides t.names u.names).1 (ap (λ x. x.names) e)),
)

same_class : (c d : Class) → AnswerRuns (bytes_eq c.code d.code) (c ≡ d)
same_class c d = (λ h i. record { code = (bytes_eq-Decides c.code d.code).0 h i }, λ e. (bytes_eq-Decides c.code d.code).1 (ap (λ x. x.code) e))

same_set : (a b : Assignment) → AnswerRuns (is_set a b) (a ≡ b)
same_set None None = (λ h. refl, λ h. refl)
same_set None (Some b) = (λ h. absurd (cc), λ h. absurd (cc))
same_set (Some a) None = (λ h. absurd (cc), λ h. absurd (cc))
same_set (Some a) (Some b) = (
  λ h i. Some (eqb-true a.0 b.0 (first_true _ _ h) i, (same_term a.1 b.1).0 (second_true _ _ h) i),
  λ e. let p : a ≡ b = cc in both_true _ _ (eq-eqb a.0 b.0 (ap (λ x. x.0) p)) ((same_term a.1 b.1).1 (ap (λ x. x.1) p)),
)

same_end : (x y : End) → AnswerRuns (is_end x y) (x ≡ y)
same_end (Jump a) (Jump b) = (λ h i. Jump (eqb-true a b h i), λ e. let p : a ≡ b = cc in eq-eqb a b p)
same_end (Jump a) (Branch t y n) = (λ h. absurd (cc), λ h. absurd (cc))
same_end (Jump a) (Return t) = (λ h. absurd (cc), λ h. absurd (cc))
same_end (Jump a) (Fail c) = (λ h. absurd (cc), λ h. absurd (cc))
same_end (Branch t y n) (Jump a) = (λ h. absurd (cc), λ h. absurd (cc))
same_end (Branch t y n) (Branch u v m) = (
  λ h i. Branch ((same_term t u).0 (first_true _ _ h) i) (eqb-true y v (first_true _ _ (second_true (is_term t u) _ h)) i) (eqb-true n m (second_true (nat_eq y v) _ (second_true (is_term t u) _ h)) i),
  λ e. let p : t ≡ u = cc in let q : y ≡ v = cc in let r : n ≡ m = cc in both_true _ _ ((same_term t u).1 p) (both_true _ _ (eq-eqb y v q) (eq-eqb n m r)),
)
same_end (Branch t y n) (Return u) = (λ h. absurd (cc), λ h. absurd (cc))
same_end (Branch t y n) (Fail c) = (λ h. absurd (cc), λ h. absurd (cc))
same_end (Return t) (Jump a) = (λ h. absurd (cc), λ h. absurd (cc))
same_end (Return t) (Branch u y n) = (λ h. absurd (cc), λ h. absurd (cc))
same_end (Return t) (Return u) = (λ h i. Return ((same_term t u).0 h i), λ e. let p : t ≡ u = cc in (same_term t u).1 p)
same_end (Return t) (Fail c) = (λ h. absurd (cc), λ h. absurd (cc))
same_end (Fail c) (Jump a) = (λ h. absurd (cc), λ h. absurd (cc))
same_end (Fail c) (Branch u y n) = (λ h. absurd (cc), λ h. absurd (cc))
same_end (Fail c) (Return u) = (λ h. absurd (cc), λ h. absurd (cc))
same_end (Fail c) (Fail d) = (λ h i. Fail ((same_class c d).0 h i), λ e. let p : c ≡ d = cc in (same_class c d).1 p)

pub same_block : (x y : Block) → AnswerRuns (is_block x y) (x ≡ y)
same_block x y = (
  λ h i. record {
    head = (same_flag x.head y.head).0 (first_true _ _ h) i;
    set = (same_set x.set y.set).0 (first_true _ _ (second_true (is_flag x.head y.head) _ h)) i;
    end = (same_end x.end y.end).0 (second_true (is_set x.set y.set) _ (second_true (is_flag x.head y.head) _ h)) i;
  },
  λ e. both_true _ _ ((same_flag x.head y.head).1 (ap (λ b. b.head) e)) (both_true _ _ ((same_set x.set y.set).1 (ap (λ b. b.set) e)) ((same_end x.end y.end).1 (ap (λ b. b.end) e))),
)

pub same_found : (o : Option Block) (y : Block) → AnswerRuns (is_found o y) (o ≡ Some y)
same_found None y = (λ h. absurd (cc), λ e. absurd (cc))
same_found (Some x) y = (λ h i. Some ((same_block x y).0 h i), λ e. let p : x ≡ y = cc in (same_block x y).1 p)

from_true : (b : Bool) → IsTrue b → b ≡ true
from_true true t = refl
from_true false t = absurd (cc)

-- two tests of one thing
pub same_test : {P : Type 0} (r b : Bool) → IsTrue r ↔ P → AnswerRuns b P → r ≡ b
same_test true b p t = sym (t.1 (p.0 (let t : IsTrue true = search in t)))
same_test false true p t = absurd (let f : IsTrue false = p.1 (t.0 refl) in cc)
same_test false false p t = refl

pub found_some : (x y : Block) (r : Bool) → IsTrue r ↔ (x ≡ y) → r ≡ is_block x y
found_some x y r p = same_test r (is_block x y) p (same_block x y)

pub ruleset found_rules = (found_some)
