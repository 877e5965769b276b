-- What is found to be the same is the same tree.
use Rattle.std.proofs.Common.{◌≡◌, refl, sym, ap, ◌∙◌, ℕ, ℤ, Bool, true, false, ◌&&◌, nat_eq, get_or, List, [], ◌∷◌, Option, Some, None}
use Rattle.std.proofs.lemmas.Bool.Decides.{Decides-eqb, Decides-int_eq}
use Rattle.std.proofs.lemmas.Slice.Eq.{bytes_eq-Decides}
use Rattle.away_values.specs.declared.operators.ChainOp.{ChainOp}
use Rattle.away_values.specs.declared.operators.ChainOp.TheVariants as chain
use Rattle.away_values.specs.declared.operators.CmpOp.{CmpOp}
use Rattle.away_values.specs.declared.operators.CmpOp.TheVariants as cmp
use Rattle.away_values.specs.declared.operators.IntOp.TheVariants as int
use Rattle.away_values.specs.declared.operators.IsTest.{IsTest}
use Rattle.away_values.specs.declared.operators.IsTest.TheVariants as test
use Rattle.away_values.specs.declared.types.Ty.{Ty}
use Rattle.away_values.specs.declared.types.Ty.TheVariants as ty
use Rattle.away_trees.specs.declared.queries.Col.{Col}
use Rattle.away_trees.specs.declared.queries.Expr.{Expr}
use Rattle.away_trees.specs.declared.queries.Expr.TheBlock as b
use Rattle.away_trees.specs.declared.queries.Expr.TheOpen as ex
use Rattle.away_trees.specs.declared.queries.Expr.TheVariants as v
use Rattle.away_trees.specs.declared.queries.Expr.TheViews.{out-Expr, roll-Expr, roll-out-Expr}
use Rattle.away_trees.specs.Algebra.{head_or, expr_of, exprs_of, links_of, arms_of, other_of}
use Rattle.turn_terms.specs.Sameness.{chain_number, cmp_number, test_number, type_number, same_truth, Test, Node, is_column, each_passes, link_passes, arm_passes, other_passes, node_test, testing, same}
use Rattle.turn_terms.proofs.Nodes.{see_int, see_str, see_bool, see_null, see_column, see_not, see_is, see_chain, see_compare, see_cast, see_cases}

-- ---- both of two tests

both_first : (x y : Bool) → x && y ≡ true → x ≡ true
both_first true y h = refl
both_first false y h = h

both_second : (x y : Bool) → x && y ≡ true → y ≡ true
both_second true y h = h
both_second false y h = absurd cc

numbers_same : (m n : ℕ) → nat_eq m n ≡ true → m ≡ n
numbers_same m n h = (Decides-eqb m n).0 h

-- ---- operators and types are what their numbers say

abbrev chain_at : ℕ → ChainOp
chain_at n =
    get_or
    (chain.Or ∷ chain.And ∷ chain.Concat ∷ chain.Int int.Add ∷ chain.Int int.Sub ∷ chain.Int int.Mul ∷ chain.Int int.Div ∷ chain.Int int.Rem
    ∷ chain.Small int.Add ∷ chain.Small int.Sub ∷ chain.Small int.Mul ∷ chain.Small int.Div ∷ chain.Small int.Rem ∷ []) n chain.Or

chain_at_number : (op : ChainOp) → chain_at (chain_number op) ≡ op
chain_at_number chain.Or = refl
chain_at_number chain.And = refl
chain_at_number chain.Concat = refl
chain_at_number (chain.Int int.Add) = refl
chain_at_number (chain.Int int.Sub) = refl
chain_at_number (chain.Int int.Mul) = refl
chain_at_number (chain.Int int.Div) = refl
chain_at_number (chain.Int int.Rem) = refl
chain_at_number (chain.Small int.Add) = refl
chain_at_number (chain.Small int.Sub) = refl
chain_at_number (chain.Small int.Mul) = refl
chain_at_number (chain.Small int.Div) = refl
chain_at_number (chain.Small int.Rem) = refl

abbrev cmp_at : ℕ → CmpOp
cmp_at n = get_or (cmp.Eq ∷ cmp.Ne ∷ cmp.Lt ∷ cmp.Le ∷ cmp.Gt ∷ cmp.Ge ∷ []) n cmp.Eq

cmp_at_number : (op : CmpOp) → cmp_at (cmp_number op) ≡ op
cmp_at_number cmp.Eq = refl
cmp_at_number cmp.Ne = refl
cmp_at_number cmp.Lt = refl
cmp_at_number cmp.Le = refl
cmp_at_number cmp.Gt = refl
cmp_at_number cmp.Ge = refl

abbrev test_at : ℕ → IsTest
test_at n = get_or (test.Null ∷ test.True ∷ test.False ∷ []) n test.Null

test_at_number : (t : IsTest) → test_at (test_number t) ≡ t
test_at_number test.Null = refl
test_at_number test.True = refl
test_at_number test.False = refl

abbrev type_at : ℕ → Ty
type_at n = get_or (ty.Bigint ∷ ty.Boolean ∷ ty.Text ∷ ty.Integer ∷ []) n ty.Bigint

type_at_number : (t : Ty) → type_at (type_number t) ≡ t
type_at_number ty.Bigint = refl
type_at_number ty.Boolean = refl
type_at_number ty.Text = refl
type_at_number ty.Integer = refl

-- what has a number that tells it is the other with this number
told : {A : Type 0} (number : A → ℕ) (at : ℕ → A) → ((x : A) → at (number x) ≡ x) → (x y : A) → nat_eq (number x) (number y) ≡ true → x ≡ y
told number at is x y h = sym (is x) ∙ (ap at (numbers_same (number x) (number y) h) ∙ is y)

truths_same : (x y : Bool) → same_truth x y ≡ true → x ≡ y
truths_same true true h = refl
truths_same true false h = absurd cc
truths_same false true h = absurd cc
truths_same false false h = refl

columns_same : (c d : Col) → is_column c d ≡ true → c ≡ d
columns_same c d h =
    let level = numbers_same c.level d.level (both_first _ _ h) in
    let rest = both_second _ _ h in
    let item = numbers_same c.item d.item (both_first _ _ rest) in
    let column = numbers_same c.column d.column (both_second _ _ rest) in
    λ i. record { level = level i; item = item i; column = column i }

-- ---- nodes that pass

-- what a test lets through is this tree
abbrev Only : Test → Expr → Type 0
Only t x = (y : Expr) → t y ≡ true → x ≡ y

int_node : (n : ℤ) (m : Node) → node_test (ex.Int n) m ≡ true → m ≡ ex.Int n
int_node n (ex.Int k) h = ap ex.Int (sym ((Decides-int_eq n k).0 h))
int_node n _ h = absurd cc

str_node : (t : List ℕ) (m : Node) → node_test (ex.Str t) m ≡ true → m ≡ ex.Str t
str_node t (ex.Str s) h = ap ex.Str (sym ((bytes_eq-Decides t s).0 h))
str_node t _ h = absurd cc

bool_node : (x : Bool) (m : Node) → node_test (ex.Bool x) m ≡ true → m ≡ ex.Bool x
bool_node x (ex.Bool y) h = ap ex.Bool (sym (truths_same x y h))
bool_node x _ h = absurd cc

null_node : (m : Node) → node_test ex.Null m ≡ true → m ≡ ex.Null
null_node ex.Null h = refl
null_node _ h = absurd cc

column_node : (c : Col) (m : Node) → node_test (ex.Column c) m ≡ true → m ≡ ex.Column c
column_node c (ex.Column d) h = ap ex.Column (sym (columns_same c d h))
column_node c _ h = absurd cc

not_node : (t : Test) (x : Expr) → Only t x → (m : Node) → node_test (ex.Not t) m ≡ true → m ≡ ex.Not x
not_node t x only (ex.Not y) h = ap ex.Not (sym (only y h))
not_node t x only _ h = absurd cc

is_node : (t : Test) (x : Expr) (a : IsTest) (n : Bool) → Only t x → (m : Node) → node_test (ex.Is t a n) m ≡ true → m ≡ ex.Is x a n
is_node t x a n only (ex.Is y c k) h =
    let test = told test_number test_at test_at_number a c (both_first _ _ h) in
    let rest = both_second (nat_eq (test_number a) (test_number c)) _ h in
    let negative = truths_same n k (both_first _ _ rest) in
    let part = only y (both_second (same_truth n k) _ rest) in
    λ i. ex.Is (sym part i) (sym test i) (sym negative i)
is_node t x a n only _ h = absurd cc

cast_node : (t : Test) (x : Expr) (a : Ty) → Only t x → (m : Node) → node_test (ex.Cast t a) m ≡ true → m ≡ ex.Cast x a
cast_node t x a only (ex.Cast y c) h =
    let type = told type_number type_at type_at_number a c (both_first _ _ h) in
    let part = only y (both_second (nat_eq (type_number a) (type_number c)) _ h) in
    λ i. ex.Cast (sym part i) (sym type i)
cast_node t x a only _ h = absurd cc

compare_node : (s t : Test) (x y : Expr) (a : CmpOp) → Only s x → Only t y → (m : Node) → node_test (ex.Compare a s t) m ≡ true → m ≡ ex.Compare a x y
compare_node s t x y a first second (ex.Compare c u w) h =
    let op = told cmp_number cmp_at cmp_at_number a c (both_first _ _ h) in
    let rest = both_second (nat_eq (cmp_number a) (cmp_number c)) _ h in
    let left = first u (both_first _ _ rest) in
    let right = second w (both_second (s u) _ rest) in
    λ i. ex.Compare (sym op i) (sym left i) (sym right i)
compare_node s t x y a first second _ h = absurd cc

chain_node : (t : Test) (ts : List (ChainOp × Test)) (x : Expr) (xs : List (ChainOp × Expr)) → Only t x
    → ((ys : List (ChainOp × Expr)) → each_passes link_passes ts ys ≡ true → xs ≡ ys) → (m : Node) → node_test (ex.Chain t ts) m ≡ true → m ≡ ex.Chain x xs
chain_node t ts x xs first rest (ex.Chain y ys) h =
    let part = first y (both_first _ _ h) in
    let links = rest ys (both_second (t y) _ h) in
    λ i. ex.Chain (sym part i) (sym links i)
chain_node t ts x xs first rest _ h = absurd cc

cases_node : (ts : List (Test × Test)) (t : Option Test) (xs : List (Expr × Expr)) (x : Option Expr)
    → ((ys : List (Expr × Expr)) → each_passes arm_passes ts ys ≡ true → xs ≡ ys) → ((y : Option Expr) → other_passes t y ≡ true → x ≡ y)
    → (m : Node) → node_test (ex.Cases ts t) m ≡ true → m ≡ ex.Cases xs x
cases_node ts t xs x first rest (ex.Cases ys y) h =
    let arms = first ys (both_first _ _ h) in
    let other = rest y (both_second (each_passes arm_passes ts ys) _ h) in
    λ i. ex.Cases (sym arms i) (sym other i)
cases_node ts t xs x first rest _ h = absurd cc

-- two trees with one node
shown : (x y : Expr) (n : Node) → out-Expr x ≡ n → out-Expr y ≡ n → x ≡ y
shown x y n e f = sym (roll-out-Expr x) ∙ (ap roll-Expr (e ∙ sym f) ∙ roll-out-Expr y)

-- ---- parts, as the tree holds them

abbrev Shape : Type 0
Shape = (mathlib.Core.Former.this {0}).Shape

abbrev one : Shape → mathlib.Core.Former.Count
one p = mathlib.Core.Former.arity (mathlib.Core.Former.this {0}) p

abbrev Shapes : Type 0
Shapes = (mathlib.Core.Former.list (mathlib.Core.Former.this {0})).Shape

abbrev many : Shapes → mathlib.Core.Former.Count
many s = mathlib.Core.Former.arity (mathlib.Core.Former.list (mathlib.Core.Former.this {0})) s

abbrev the_expr : (p : Shape) → b.Row_of-Expr (one p) → Expr
the_expr p (b.more_of-Expr e rest) = e

abbrev list_of_links : {m : mathlib.Core.Former.Count} → b.Row_of-Expr-Chain-1-2 m → List (ChainOp × Expr)
list_of_links b.end_of-Expr-Chain-1-2 = []
list_of_links (b.more_of-Expr-Chain-1-2 op e rest) = (op, e) ∷ list_of_links rest

record Links : Type 0 where
  shape : Shapes
  row : b.Row_of-Expr-Chain-1-2 (many shape)

abbrev held_links : List (ChainOp × Expr) → Links
held_links xs = record { shape = b.shape-the_row-Expr-Chain-1-2-1 xs; row = b.hidden-the_row-Expr-Chain-1-2-1 xs }

links_held : (s : Shapes) (es : b.Row_of-Expr-Chain-1-2 (many s)) → held_links (list_of_links es) ≡ record { shape = s; row = es }
unfolding b.hidden-the_row-Expr-Chain-1-2-1 denote.Hole.Carrier.hidden
links_held [] b.end_of-Expr-Chain-1-2 = refl
links_held (u ∷ s) (b.more_of-Expr-Chain-1-2 op e rest) =
    ap (λ (r : Links). record { shape = record {} ∷ r.shape; row = b.more_of-Expr-Chain-1-2 op e r.row }) (links_held s rest)

abbrev list_of_arms : {m : mathlib.Core.Former.Count} → b.Row_of-Expr-Cases-0-2 m → List (Expr × Expr)
list_of_arms b.end_of-Expr-Cases-0-2 = []
list_of_arms (b.more_of-Expr-Cases-0-2 x y rest) = (x, y) ∷ list_of_arms rest

record Arms : Type 0 where
  shape : Shapes
  row : b.Row_of-Expr-Cases-0-2 (many shape)

abbrev held_arms : List (Expr × Expr) → Arms
held_arms xs = record { shape = b.shape-the_row-Expr-Cases-0-2-3 xs; row = b.hidden-the_row-Expr-Cases-0-2-3 xs }

arms_held : (s : Shapes) (es : b.Row_of-Expr-Cases-0-2 (many s)) → held_arms (list_of_arms es) ≡ record { shape = s; row = es }
unfolding b.hidden-the_row-Expr-Cases-0-2-3 denote.Hole.Carrier.hidden
arms_held [] b.end_of-Expr-Cases-0-2 = refl
arms_held (u ∷ s) (b.more_of-Expr-Cases-0-2 x y rest) =
    ap (λ (r : Arms). record { shape = record {} ∷ r.shape; row = b.more_of-Expr-Cases-0-2 x y r.row }) (arms_held s rest)

abbrev the_other : b.Held-Expr-Cases-1 → Option Expr
the_other b.Expr-Cases-1-None' = None
the_other (b.Expr-Cases-1-Some' p es) = Some (the_expr p es)

-- ---- an expression by its parts

put_not : (p : Shape) (es : b.Row_of-Expr (one p)) → v.Not (the_expr p es) ≡ b.Not' p es
unfolding b.hidden-the_row-Expr-0 denote.Hole.Carrier.hidden
put_not p (b.more_of-Expr e b.end_of-Expr) = refl

put_is : (p : Shape) (es : b.Row_of-Expr (one p)) (t : _) (n : Bool) → v.Is (the_expr p es) t n ≡ b.Is' p es t n
unfolding b.hidden-the_row-Expr-0 denote.Hole.Carrier.hidden
put_is p (b.more_of-Expr e b.end_of-Expr) t n = refl

put_chain : (p : Shape) (es : b.Row_of-Expr (one p)) (s : Shapes) (ls : b.Row_of-Expr-Chain-1-2 (many s))
    → v.Chain (the_expr p es) (list_of_links ls) ≡ b.Chain' p es s ls
unfolding b.hidden-the_row-Expr-0 denote.Hole.Carrier.hidden
put_chain p (b.more_of-Expr e b.end_of-Expr) s ls = ap (λ (r : Links). b.Chain' p (b.more_of-Expr e b.end_of-Expr) r.shape r.row) (links_held s ls)

put_compare : (op : _) (p : Shape) (x : b.Row_of-Expr (one p)) (q : Shape) (y : b.Row_of-Expr (one q))
    → v.Compare op (the_expr p x) (the_expr q y) ≡ b.Compare' op p x q y
unfolding b.hidden-the_row-Expr-0 denote.Hole.Carrier.hidden
put_compare op p (b.more_of-Expr x b.end_of-Expr) q (b.more_of-Expr y b.end_of-Expr) = refl

put_cast : (p : Shape) (es : b.Row_of-Expr (one p)) (t : _) → v.Cast (the_expr p es) t ≡ b.Cast' p es t
unfolding b.hidden-the_row-Expr-0 denote.Hole.Carrier.hidden
put_cast p (b.more_of-Expr e b.end_of-Expr) t = refl

put_cases : (s : Shapes) (arms : b.Row_of-Expr-Cases-0-2 (many s)) (o : b.Held-Expr-Cases-1) → v.Cases (list_of_arms arms) (the_other o) ≡ b.Cases' s arms o
unfolding b.hidden-the_row-Expr-0 denote.Hole.Carrier.hidden
put_cases s arms b.Expr-Cases-1-None' = ap (λ (r : Arms). b.Cases' r.shape r.row b.Expr-Cases-1-None') (arms_held s arms)
put_cases s arms (b.Expr-Cases-1-Some' p (b.more_of-Expr e b.end_of-Expr)) =
    ap (λ (r : Arms). b.Cases' r.shape r.row (b.Expr-Cases-1-Some' p (b.more_of-Expr e b.end_of-Expr))) (arms_held s arms)

-- ---- all trees

mutual
  alike : (x y : Expr) → same x y ≡ true → x ≡ y
  alike (b.Int n) y h = shown (v.Int n) y _ (see_int n) (int_node n (out-Expr y) h)
  alike (b.Str t) y h = shown (v.Str t) y _ (see_str t) (str_node t (out-Expr y) h)
  alike (b.Bool n) y h = shown (v.Bool n) y _ (see_bool n) (bool_node n (out-Expr y) h)
  alike b.Null y h = shown v.Null y _ see_null (null_node (out-Expr y) h)
  alike (b.Named name) y h = absurd cc
  alike (b.Dotted alias name) y h = absurd cc
  alike (b.Slot i) y h = absurd cc
  alike (b.Column c) y h = shown (v.Column c) y _ (see_column c) (column_node c (out-Expr y) h)
  alike (b.Param i t) y h = absurd cc
  alike (b.Neg' p e) y h = absurd cc
  alike (b.NegSmall' p e) y h = absurd cc
  alike (b.Not' p e) y h = sym (put_not p e) ∙ shown (v.Not (the_expr p e)) y _ (see_not (the_expr p e)) (not_node _ _ (one_alike p e) (out-Expr y) h)
  alike (b.Is' p e t n) y h =
      sym (put_is p e t n) ∙ shown (v.Is (the_expr p e) t n) y _ (see_is (the_expr p e) t n) (is_node _ _ t n (one_alike p e) (out-Expr y) h)
  alike (b.Chain' p e s links) y h =
      sym (put_chain p e s links) ∙ shown (v.Chain (the_expr p e) (list_of_links links)) y _ (see_chain (the_expr p e) (list_of_links links))
      (chain_node _ _ _ _ (one_alike p e) (links_alike links) (out-Expr y) h)
  alike (b.Compare' op p x q z) y h =
      sym (put_compare op p x q z) ∙ shown (v.Compare op (the_expr p x) (the_expr q z)) y _ (see_compare op (the_expr p x) (the_expr q z))
      (compare_node _ _ _ _ op (one_alike p x) (one_alike q z) (out-Expr y) h)
  alike (b.Between' negative p x q z s w) y h = absurd cc
  alike (b.OneOf' negative p e s choices) y h = absurd cc
  alike (b.Cast' p e t) y h =
      sym (put_cast p e t) ∙ shown (v.Cast (the_expr p e) t) y _ (see_cast (the_expr p e) t) (cast_node _ _ t (one_alike p e) (out-Expr y) h)
  alike (b.Cases' s arms other) y h =
      sym (put_cases s arms other) ∙ shown (v.Cases (list_of_arms arms) (the_other other)) y _ (see_cases (list_of_arms arms) (the_other other))
      (cases_node _ _ _ _ (arms_alike arms) (other_alike other) (out-Expr y) h)
  alike (b.Call' name s es) y h = absurd cc
  alike b.CountRows y h = absurd cc
  alike (b.Scalar' p q) y h = absurd cc
  alike (b.Exists' p q) y h = absurd cc

  one_alike : (p : Shape) (es : b.Row_of-Expr (one p)) → Only (head_or (λ e. false) (exprs_of testing es)) (the_expr p es)
  one_alike p (b.more_of-Expr e rest) = alike e

  links_alike : {m : mathlib.Core.Former.Count} (ls : b.Row_of-Expr-Chain-1-2 m) (ys : List (ChainOp × Expr))
      → each_passes link_passes (links_of testing ls) ys ≡ true → list_of_links ls ≡ ys
  links_alike b.end_of-Expr-Chain-1-2 [] h = refl
  links_alike b.end_of-Expr-Chain-1-2 (y ∷ ys) h = absurd cc
  links_alike (b.more_of-Expr-Chain-1-2 op e rest) [] h = absurd cc
  links_alike (b.more_of-Expr-Chain-1-2 op e rest) ((c, y) ∷ ys) h =
      let here = both_first (nat_eq (chain_number op) (chain_number c) && expr_of testing e y) _ h in
      let same_op = told chain_number chain_at chain_at_number op c (both_first _ _ here) in
      let part = alike e y (both_second (nat_eq (chain_number op) (chain_number c)) _ here) in
      let more = links_alike rest ys (both_second (nat_eq (chain_number op) (chain_number c) && expr_of testing e y) _ h) in
      λ i. (same_op i, part i) ∷ more i

  arms_alike : {m : mathlib.Core.Former.Count} (as_ : b.Row_of-Expr-Cases-0-2 m) (ys : List (Expr × Expr))
      → each_passes arm_passes (arms_of testing as_) ys ≡ true → list_of_arms as_ ≡ ys
  arms_alike b.end_of-Expr-Cases-0-2 [] h = refl
  arms_alike b.end_of-Expr-Cases-0-2 (y ∷ ys) h = absurd cc
  arms_alike (b.more_of-Expr-Cases-0-2 x z rest) [] h = absurd cc
  arms_alike (b.more_of-Expr-Cases-0-2 x z rest) ((u, w) ∷ ys) h =
      let here = both_first (expr_of testing x u && expr_of testing z w) _ h in
      let first = alike x u (both_first _ _ here) in
      let second = alike z w (both_second (expr_of testing x u) _ here) in
      let more = arms_alike rest ys (both_second (expr_of testing x u && expr_of testing z w) _ h) in
      λ i. (first i, second i) ∷ more i

  other_alike : (o : b.Held-Expr-Cases-1) (y : Option Expr) → other_passes (other_of testing o) y ≡ true → the_other o ≡ y
  other_alike b.Expr-Cases-1-None' None h = refl
  other_alike b.Expr-Cases-1-None' (Some y) h = absurd cc
  other_alike (b.Expr-Cases-1-Some' p es) None h = absurd cc
  other_alike (b.Expr-Cases-1-Some' p es) (Some y) h = ap Some (one_alike p es y h)

-- What is found to be the same is.
pub same_is : (x y : Expr) → same x y ≡ true → x ≡ y
same_is = alike
