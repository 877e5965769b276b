-- What is sure, and what it weighs, by the parts.
use Rattle.std.proofs.Common.{◌≡◌, sym, ap, ◌∙◌, ℕ, suc, ◌+◌, ◌-◌, Bool, true, false, ◌&&◌, List, map, Option, option_map, arith}
use Rattle.std.specs.List.{list_all}
use Rattle.away_values.specs.declared.operators.ChainOp.{ChainOp}
use Rattle.away_values.specs.declared.operators.CmpOp.{CmpOp}
use Rattle.away_values.specs.declared.operators.IsTest.{IsTest}
use Rattle.away_values.specs.declared.types.Ty.{Ty}
use Rattle.away_trees.specs.declared.queries.Expr.{Expr}
use Rattle.away_trees.specs.declared.queries.Expr.TheVariants as v
use Rattle.away_trees.specs.Algebra.{expr_of}
use Rattle.away_trees.proofs.Equations as eq
use Rattle.away_trees.proofs.Equations.{link_of, arm_of}
use Rattle.turn_template.specs.Totals.{Sure, link_sure, cast_sure, other_sure, sureness}
use Rattle.turn_terms.specs.Choosing.{sizes, size, sum_of, other_size}

-- ---- both of two tests

pub two_yes : (whole first second r s : Bool) → whole ≡ (first && second) → r ≡ first → r ≡ true → s ≡ second → s ≡ whole
two_yes whole first second r s h p q t = t ∙ sym (h ∙ ap (λ f. f && second) (sym p ∙ q))

pub two_no : (whole first second r : Bool) → whole ≡ (first && second) → r ≡ first → r ≡ false → r ≡ whole
two_no whole first second r h p q = q ∙ sym (h ∙ ap (λ f. f && second) (sym p ∙ q))

-- ---- which are sure

abbrev pub always : Expr → Bool
always e = (expr_of sureness e).always

abbrev pub sure_link : ChainOp × Expr → ChainOp × Sure
sure_link l = (l.0, expr_of sureness l.1)

abbrev pub passes_link : ChainOp × Sure → Bool
passes_link l = link_sure l.0 l.1

abbrev pub sure_arm : Expr × Expr → Sure × Sure
sure_arm a = (expr_of sureness a.0, expr_of sureness a.1)

abbrev pub passes_arm : Sure × Sure → Bool
passes_arm a = a.0.always && a.1.always

abbrev pub all_links : List (ChainOp × Expr) → Bool
all_links xs = list_all passes_link (map sure_link xs)

abbrev pub all_exprs : List Expr → Bool
all_exprs xs = list_all (λ (x : Sure). x.always) (map (λ x. expr_of sureness x) xs)

abbrev pub all_arms : List (Expr × Expr) → Bool
all_arms xs = list_all passes_arm (map sure_arm xs)

abbrev pub maybe_sure : Option Expr → Bool
maybe_sure x = other_sure (option_map (λ x. expr_of sureness x) x)

pub not_sure : (e x : Expr) → e ≡ v.Not x → always e ≡ always x
not_sure e x p = ap always p ∙ ap (λ (s : Sure). s.always) (eq.of_not sureness x)

pub is_sure : (e x : Expr) (t : IsTest) (n : Bool) → e ≡ v.Is x t n → always e ≡ always x
is_sure e x t n p = ap always p ∙ ap (λ (s : Sure). s.always) (eq.of_is sureness x t n)

pub cast_is : (e x : Expr) (t : Ty) → e ≡ v.Cast x t → always e ≡ (always x && cast_sure t)
cast_is e x t p = ap always p ∙ ap (λ (s : Sure). s.always) (eq.of_cast sureness x t)

pub chain_is : (e x : Expr) (xs : List (ChainOp × Expr)) → e ≡ v.Chain x xs → always e ≡ (always x && all_links xs)
chain_is e x xs p = ap always p ∙ ap (λ (s : Sure). s.always) (eq.of_chain sureness x xs)

pub compare_is : (e x y : Expr) (o : CmpOp) → e ≡ v.Compare o x y → always e ≡ (always x && always y)
compare_is e x y o p = ap always p ∙ ap (λ (s : Sure). s.always) (eq.of_compare sureness o x y)

pub between_is : (e x y z : Expr) (n : Bool) → e ≡ v.Between n x y z → always e ≡ (always x && (always y && always z))
between_is e x y z n p = ap always p ∙ ap (λ (s : Sure). s.always) (eq.of_between sureness n x y z)

pub one_of_is : (e x : Expr) (n : Bool) (xs : List Expr) → e ≡ v.OneOf n x xs → always e ≡ (always x && all_exprs xs)
one_of_is e x n xs p = ap always p ∙ ap (λ (s : Sure). s.always) (eq.of_oneof sureness n x xs)

pub cases_is : (e : Expr) (xs : List (Expr × Expr)) (x : Option Expr) → e ≡ v.Cases xs x → always e ≡ (all_arms xs && maybe_sure x)
cases_is e xs x p = ap always p ∙ ap (λ (s : Sure). s.always) (eq.of_cases sureness xs x)

-- the second of three, where the first is sure
pub later : (whole first second third r : Bool) → whole ≡ (first && (second && third)) → r ≡ first → r ≡ true → whole ≡ (second && third)
later whole first second third r h p q = h ∙ ap (λ f. f && (second && third)) (sym p ∙ q)

-- ---- what they weigh

abbrev pub sized_link : ChainOp × Expr → ChainOp × ℕ
sized_link l = (l.0, size l.1)

abbrev pub link_weight : ChainOp × ℕ → ℕ
link_weight l = l.1

abbrev pub sized_arm : Expr × Expr → ℕ × ℕ
sized_arm a = (size a.0, size a.1)

abbrev pub arm_weight : ℕ × ℕ → ℕ
arm_weight a = a.0 + a.1

abbrev pub links_size : List (ChainOp × Expr) → ℕ
links_size xs = sum_of link_weight (map sized_link xs)

abbrev pub exprs_size : List Expr → ℕ
exprs_size xs = sum_of (λ (n : ℕ). n) (map (λ x. size x) xs)

abbrev pub arms_size : List (Expr × Expr) → ℕ
arms_size xs = sum_of arm_weight (map sized_arm xs)

abbrev pub maybe_size : Option Expr → ℕ
maybe_size x = other_size (option_map (λ x. size x) x)

pub not_size : (e x : Expr) → e ≡ v.Not x → size e ≡ suc (size x)
not_size e x p = ap size p ∙ eq.of_not sizes x

pub is_size : (e x : Expr) (t : IsTest) (n : Bool) → e ≡ v.Is x t n → size e ≡ suc (size x)
is_size e x t n p = ap size p ∙ eq.of_is sizes x t n

pub cast_size : (e x : Expr) (t : Ty) → e ≡ v.Cast x t → size e ≡ suc (size x)
cast_size e x t p = ap size p ∙ eq.of_cast sizes x t

pub chain_size : (e x : Expr) (xs : List (ChainOp × Expr)) → e ≡ v.Chain x xs → size e ≡ suc (size x + links_size xs)
chain_size e x xs p = ap size p ∙ eq.of_chain sizes x xs

pub compare_size : (e x y : Expr) (o : CmpOp) → e ≡ v.Compare o x y → size e ≡ suc (size x + size y)
compare_size e x y o p = ap size p ∙ eq.of_compare sizes o x y

pub between_size : (e x y z : Expr) (n : Bool) → e ≡ v.Between n x y z → size e ≡ suc (size x + (size y + size z))
between_size e x y z n p = ap size p ∙ eq.of_between sizes n x y z

pub one_of_size : (e x : Expr) (n : Bool) (xs : List Expr) → e ≡ v.OneOf n x xs → size e ≡ suc (size x + exprs_size xs)
one_of_size e x n xs p = ap size p ∙ eq.of_oneof sizes n x xs

pub cases_size : (e : Expr) (xs : List (Expr × Expr)) (x : Option Expr) → e ≡ v.Cases xs x → size e ≡ suc (arms_size xs + maybe_size x)
cases_size e xs x p = ap size p ∙ eq.of_cases sizes xs x

-- what is left of a room behind one part, two and three
pub one_behind : (room whole a b r : ℕ) → whole ≡ suc a → b ≡ a → r ≡ (room - 1) - b → r ≡ room - whole
one_behind room whole a b r h p q = omega (arith, h, p, q)

pub two_behind : (room whole a b x y r s : ℕ) → whole ≡ suc (a + b) → x ≡ a → y ≡ b → r ≡ (room - 1) - x → s ≡ r - y → s ≡ room - whole
two_behind room whole a b x y r s h p q k l = omega (arith, h, p, q, k, l)

pub three_behind : (room whole a b d x y z r s t : ℕ) → whole ≡ suc (a + (b + d)) → x ≡ a → y ≡ b → z ≡ d → r ≡ (room - 1) - x → s ≡ r - y → t ≡ s - z
    → t ≡ room - whole
three_behind room whole a b d x y z r s t h p q u k l m = omega (arith, h, p, q, u, k, l, m)
