-- Whether two expressions are the same, by their parts.
use Rattle.std.proofs.Common.{◌≡◌, sym, ap, ◌∙◌, ℕ, ◌<◌, Bool, true, false, ◌&&◌, nat_eq, List, map, length, get_or, Option, option_map}
use Rattle.std.specs.Prelude.{chars}
use Rattle.std.specs.Str.{IsUtf8, bytes_eq}
use Rattle.std.proofs.lemmas.Bool.Decides.{Decides-at, same_from_decides}
use Rattle.std.proofs.lemmas.Slice.Eq.{bytes_eq-Decides}
use Rattle.std.proofs.lemmas.Str.{encodes-chars}
use Rattle.std.proofs.Math.Utf8.{encodes}
use Rattle.away_values.specs.declared.operators.ChainOp.{ChainOp}
use Rattle.away_values.specs.declared.operators.CmpOp.{CmpOp}
use Rattle.away_values.specs.declared.operators.IsTest.{IsTest}
use Rattle.away_values.specs.declared.types.Ty.{Ty}
use Rattle.away_trees.specs.declared.queries.Expr.{Expr}
use Rattle.away_trees.specs.declared.queries.Expr.TheOpen as ex
use Rattle.away_trees.specs.declared.queries.Expr.TheVariants as v
use Rattle.away_trees.specs.declared.queries.Expr.TheViews.{out-Expr}
use Rattle.away_trees.specs.Algebra.{expr_of}
use Rattle.away_trees.proofs.Equations as eq
use Rattle.away_trees.proofs.Equations.{link_of, arm_of}
use Rattle.turn_terms.specs.Sameness.{chain_number, cmp_number, each_passes, link_passes, arm_passes, other_passes, node_test, testing, same}
use Rattle.turn_terms.proofs.EachPasses.{from, stops}
use Rattle.turn_terms.proofs.Nodes.{see_chain, see_compare, see_cases}

-- ---- texts

-- the characters of two texts are the same where their bytes are
pub texts_same : (bs cs s t : List ℕ) (r : Bool) → IsUtf8 bs → IsUtf8 cs → chars bs ≡ s → chars cs ≡ t → r ≡ bytes_eq bs cs → r ≡ bytes_eq s t
texts_same bs cs s t r u w p q e =
    same_from_decides r (bytes_eq s t) (Decides-at r (bytes_eq bs cs) e (bytes_eq-Decides bs cs)) (
      (λ h. sym (encodes-chars bs u) ∙ (ap encodes (p ∙ ((bytes_eq-Decides s t).0 h ∙ sym q)) ∙ encodes-chars cs w)),
      (λ h. (bytes_eq-Decides s t).1 (sym p ∙ (ap chars h ∙ q))),
    )

-- ---- both of two tests

yes : (whole first second : Bool) → whole ≡ (first && second) → first ≡ true → second ≡ whole
yes whole first second h p = sym (h ∙ ap (λ f. f && second) p)

no : (whole first second : Bool) → whole ≡ (first && second) → first ≡ false → false ≡ whole
no whole first second h p = sym (h ∙ ap (λ f. f && second) p)

-- ---- one part

pub not_rule : (a e x g : Expr) → a ≡ v.Not x → g ≡ x → node_test (ex.Not (expr_of testing g)) (out-Expr e) ≡ same a e
not_rule a e x g p q =
    ap (λ g. node_test (ex.Not (expr_of testing g)) (out-Expr e)) q ∙ (sym (ap (λ t. t e) (eq.of_not testing x)) ∙ sym (ap (λ a. same a e) p))

pub is_rule : (a e x g : Expr) (t : IsTest) (n : Bool) → a ≡ v.Is x t n → g ≡ x → node_test (ex.Is (expr_of testing g) t n) (out-Expr e) ≡ same a e
is_rule a e x g t n p q =
    ap (λ g. node_test (ex.Is (expr_of testing g) t n) (out-Expr e)) q ∙ (sym (ap (λ t. t e) (eq.of_is testing x t n)) ∙ sym (ap (λ a. same a e) p))

pub cast_rule : (a e x g : Expr) (t : Ty) → a ≡ v.Cast x t → g ≡ x → node_test (ex.Cast (expr_of testing g) t) (out-Expr e) ≡ same a e
cast_rule a e x g t p q =
    ap (λ g. node_test (ex.Cast (expr_of testing g) t) (out-Expr e)) q ∙ (sym (ap (λ t. t e) (eq.of_cast testing x t)) ∙ sym (ap (λ a. same a e) p))

-- ---- chains

abbrev links_same : List (ChainOp × Expr) → List (ChainOp × Expr) → Bool
links_same xs ys = each_passes link_passes (map (λ l. (l.0, expr_of testing l.1)) xs) ys

chain_is : (a e x y : Expr) (xs ys : List (ChainOp × Expr)) → a ≡ v.Chain x xs → e ≡ v.Chain y ys → same a e ≡ (same x y && links_same xs ys)
chain_is a e x y xs ys p q =
    (λ i. same (p i) (q i))
    ∙ (ap (λ t. t (v.Chain y ys)) (eq.of_chain testing x xs) ∙ ap (λ m. node_test (ex.Chain (expr_of testing x) (map (λ l. link_of testing l) xs)) m)
    (see_chain y ys))

module _ (a e x y g h : Expr) (xs ys ms ns : List (ChainOp × Expr)) (r : Bool) (p : a ≡ v.Chain x xs) (q : e ≡ v.Chain y ys) (first : g ≡ x) (second : h ≡ y)
    (is : r ≡ same g h) where
  seen_chain : r ≡ same x y
  seen_chain = is ∙ (λ i. same (first i) (second i))

  pub chain_yes : (s : Bool) → r ≡ true → ms ≡ xs → ns ≡ ys → s ≡ links_same ms ns → s ≡ same a e
  chain_yes s t k l m = m ∙ ((λ i. links_same (k i) (l i)) ∙ yes (same a e) (same x y) (links_same xs ys) (chain_is a e x y xs ys p q) (sym seen_chain ∙ t))

  pub chain_no : r ≡ false → r ≡ same a e
  chain_no t = t ∙ no (same a e) (same x y) (links_same xs ys) (chain_is a e x y xs ys p q) (sym seen_chain ∙ t)

-- ---- comparisons

compare_is : (a e x y u w : Expr) (o c : CmpOp) → a ≡ v.Compare o x y → e ≡ v.Compare c u w
    → same a e ≡ (nat_eq (cmp_number o) (cmp_number c) && (same x u && same y w))
compare_is a e x y u w o c p q =
    (λ i. same (p i) (q i))
    ∙ (ap (λ t. t (v.Compare c u w)) (eq.of_compare testing o x y) ∙ ap (λ m. node_test (ex.Compare o (expr_of testing x) (expr_of testing y)) m)
    (see_compare c u w))

module _ (a e x y u w g h : Expr) (o c : CmpOp) (k r : Bool) (p : a ≡ v.Compare o x y) (q : e ≡ v.Compare c u w)
    (ops : k ≡ nat_eq (cmp_number o) (cmp_number c))
    (alike : k ≡ true) (first : g ≡ x) (second : h ≡ u) (is : r ≡ same g h) where
  operands : same a e ≡ (same x u && same y w)
  operands = sym (yes (same a e) (nat_eq (cmp_number o) (cmp_number c)) (same x u && same y w) (compare_is a e x y u w o c p q) (sym ops ∙ alike))

  seen_compare : r ≡ same x u
  seen_compare = is ∙ (λ i. same (first i) (second i))

  pub compare_yes : (s : Bool) (m n : Expr) → r ≡ true → m ≡ y → n ≡ w → s ≡ same m n → s ≡ same a e
  compare_yes s m n t i j l = l ∙ ((λ k. same (i k) (j k)) ∙ yes (same a e) (same x u) (same y w) operands (sym seen_compare ∙ t))

  pub compare_no : r ≡ false → r ≡ same a e
  compare_no t = t ∙ no (same a e) (same x u) (same y w) operands (sym seen_compare ∙ t)

-- ---- CASE

abbrev arms_same : List (Expr × Expr) → List (Expr × Expr) → Bool
arms_same xs ys = each_passes arm_passes (map (λ x. (expr_of testing x.0, expr_of testing x.1)) xs) ys

abbrev others_same : Option Expr → Option Expr → Bool
others_same x y = other_passes (option_map (λ x. expr_of testing x) x) y

cases_is : (a e : Expr) (xs ys : List (Expr × Expr)) (x y : Option Expr) → a ≡ v.Cases xs x → e ≡ v.Cases ys y
    → same a e ≡ (arms_same xs ys && others_same x y)
cases_is a e xs ys x y p q =
    (λ i. same (p i) (q i))
    ∙ (ap (λ t. t (v.Cases ys y)) (eq.of_cases testing xs x)
    ∙ ap (λ m. node_test (ex.Cases (map (λ l. arm_of testing l) xs) (option_map (λ e. expr_of testing e) x)) m) (see_cases ys y))

module _ (a e : Expr) (xs ys ms ns : List (Expr × Expr)) (x y : Option Expr) (r : Bool) (p : a ≡ v.Cases xs x) (q : e ≡ v.Cases ys y)
    (first : ms ≡ xs) (second : ns ≡ ys)
    (is : r ≡ arms_same ms ns) where
  seen_cases : r ≡ arms_same xs ys
  seen_cases = is ∙ (λ i. arms_same (first i) (second i))

  pub cases_yes : (s : Bool) → r ≡ true → s ≡ others_same x y → s ≡ same a e
  cases_yes s t l = l ∙ yes (same a e) (arms_same xs ys) (others_same x y) (cases_is a e xs ys x y p q) (sym seen_cases ∙ t)

  pub cases_no : r ≡ false → r ≡ same a e
  cases_no t = t ∙ no (same a e) (arms_same xs ys) (others_same x y) (cases_is a e xs ys x y p q) (sym seen_cases ∙ t)

-- ---- lists, at a place

abbrev tested_link : ChainOp × Expr → ChainOp × (Expr → Bool)
tested_link l = (l.0, expr_of testing l.1)

pub link_differs : (xs ys : List (ChainOp × Expr)) (i : ℕ) (x y : ChainOp × Expr) (k whole : Bool) → i < length xs → length xs ≡ length ys
    → k ≡ nat_eq (chain_number (get_or xs i x).0) (chain_number (get_or ys i y).0) → from link_passes tested_link xs ys i ≡ whole → k ≡ false → false ≡ whole
link_differs xs ys i x y k whole lt many is kept h =
    stops link_passes tested_link xs ys i x y whole lt many (ap (λ t. t && same (get_or xs i x).1 (get_or ys i y).1) (sym is ∙ h)) kept

abbrev tested_arm : Expr × Expr → (Expr → Bool) × (Expr → Bool)
tested_arm a = (expr_of testing a.0, expr_of testing a.1)

pub arm_differs : (xs ys : List (Expr × Expr)) (i : ℕ) (x y : Expr × Expr) (k whole : Bool) → i < length xs → length xs ≡ length ys
    → k ≡ same (get_or xs i x).0 (get_or ys i y).0 → from arm_passes tested_arm xs ys i ≡ whole → k ≡ false → false ≡ whole
arm_differs xs ys i x y k whole lt many is kept h =
    stops arm_passes tested_arm xs ys i x y whole lt many (ap (λ t. t && same (get_or xs i x).1 (get_or ys i y).1) (sym is ∙ h)) kept
