-- The calls of a function in an expression that stand outside its subqueries and outside the
-- arguments of other such calls, in the order of the text; and the expression with a slot in the
-- place of each. Call k is slot k, counted from 0.
use Rattle.std.specs.Prelude.{
  ℕ,
  Bool,
  if◌then◌else◌,
  List,
  [],
  ◌∷◌,
  ◌++◌,
  length,
  Option,
  Some,
  None,
  bytes_eq,
}
use Rattle.away_values.specs.declared.operators.ChainOp.{ChainOp}
use Rattle.away_trees.specs.Algebra.{head_or}
use Rattle.away_trees.specs.declared.queries.Expr.{Expr}
use Rattle.away_trees.specs.declared.queries.Expr.TheBlock as b
use Rattle.away_trees.specs.declared.queries.Expr.TheVariants as expr
use Rattle.away_trees.specs.declared.queries.Item.{Item}
use Rattle.away_trees.specs.declared.queries.Expr.TheViews.{roll-Item, out-Item}
use Rattle.away_names.specs.Lookups.{Name}
use Rattle.moved_names.specs.Words.{exprs_in}

-- the arguments of each call
abbrev pub Calls : Type 0
Calls = List (List Expr)

-- a tree with slots in the places of its calls, and the calls so far
pub record Parted (A : Type 0) : Type 0 where
  pub it : A
  pub calls : Calls

abbrev pub whole : {A : Type 0} → A → Calls → Parted A
whole x cs = record { it = x; calls = cs }

abbrev pub over : {A B : Type 0} → (A → B) → Parted A → Parted B
over f x = record { it = f x.it; calls = x.calls }

-- one part and then the other
abbrev pub then_with : {A B C : Type 0} → (A → B → C) → Parted A → (Calls → Parted B) → Parted C
then_with f x y = over (f x.it) (y x.calls)

-- the next call
abbrev pub next_call : List Expr → Calls → Parted Expr
next_call args cs = record { it = expr.Slot (length cs); calls = cs ++ args ∷ [] }

abbrev pub called : Bool → List Expr → Parted Expr → Calls → Parted Expr
called is args other cs = if is then next_call args cs else other

abbrev mutual
  pub part : Name → Expr → Calls → Parted Expr
  part f (b.Int n) cs = whole (expr.Int n) cs
  part f (b.Str t) cs = whole (expr.Str t) cs
  part f (b.Bool v) cs = whole (expr.Bool v) cs
  part f b.Null cs = whole expr.Null cs
  part f (b.Named name) cs = whole (expr.Named name) cs
  part f (b.Dotted alias name) cs = whole (expr.Dotted alias name) cs
  part f (b.Slot i) cs = whole (expr.Slot i) cs
  part f (b.Column c) cs = whole (expr.Column c) cs
  part f (b.Param i t) cs = whole (expr.Param i t) cs
  part f (b.Neg' p e) cs = over (λ x. expr.Neg x) (part_first f e cs)
  part f (b.NegSmall' p e) cs = over (λ x. expr.NegSmall x) (part_first f e cs)
  part f (b.Not' p e) cs = over (λ x. expr.Not x) (part_first f e cs)
  part f (b.Is' p e test negative) cs = over (λ x. expr.Is x test negative) (part_first f e cs)
  part f (b.Chain' p e s links) cs =
      then_with (λ x ls. expr.Chain x ls) (part_first f e cs) (λ ds. part_links f links ds)
  part f (b.Compare' op p x q y) cs =
      then_with (λ x y. expr.Compare op x y) (part_first f x cs) (λ ds. part_first f y ds)
  part f (b.Between' negative p x q y r z) cs =
      then_with (λ (x : Expr) (yz : Expr × Expr). expr.Between negative x yz.0 yz.1)
      (part_first f x cs)
      (λ ds. then_with (λ y z. (y, z)) (part_first f y ds) (λ es. part_first f z es))
  part f (b.OneOf' negative p e s choices) cs =
      then_with (λ x xs. expr.OneOf negative x xs) (part_first f e cs)
      (λ ds. part_all f choices ds)
  part f (b.Cast' p e t) cs = over (λ x. expr.Cast x t) (part_first f e cs)
  part f (b.Cases' s arms other) cs =
      then_with (λ xs y. expr.Cases xs y) (part_arms f arms cs) (λ ds. part_other f other ds)
  part f (b.Call' name s es) cs =
      called (bytes_eq name f) (exprs_in es)
      (over (λ xs. expr.Call name xs) (part_all f es cs)) cs
  part f b.CountRows cs = whole expr.CountRows cs
  part f (b.Scalar' p q) cs = whole (b.Scalar' p q) cs
  part f (b.Exists' p q) cs = whole (b.Exists' p q) cs

  pub part_first : {m : _} → Name → b.Row_of-Expr m → Calls → Parted Expr
  part_first f b.end_of-Expr cs = whole expr.Null cs
  part_first f (b.more_of-Expr e rest) cs = part f e cs

  pub part_all : {m : _} → Name → b.Row_of-Expr m → Calls → Parted (List Expr)
  part_all f b.end_of-Expr cs = whole [] cs
  part_all f (b.more_of-Expr e rest) cs =
      then_with (λ x xs. x ∷ xs) (part f e cs) (λ ds. part_all f rest ds)

  pub part_links : {m : _} → Name → b.Row_of-Expr-Chain-1-2 m → Calls
      → Parted (List (ChainOp × Expr))
  part_links f b.end_of-Expr-Chain-1-2 cs = whole [] cs
  part_links f (b.more_of-Expr-Chain-1-2 op e rest) cs =
      then_with (λ (x : Expr) (xs : List (ChainOp × Expr)). (op, x) ∷ xs) (part f e cs)
      (λ ds. part_links f rest ds)

  pub part_arms : {m : _} → Name → b.Row_of-Expr-Cases-0-2 m → Calls
      → Parted (List (Expr × Expr))
  part_arms f b.end_of-Expr-Cases-0-2 cs = whole [] cs
  part_arms f (b.more_of-Expr-Cases-0-2 x y rest) cs =
      then_with (λ (a : Expr × Expr) (xs : List (Expr × Expr)). a ∷ xs)
      (then_with (λ x y. (x, y)) (part f x cs) (λ ds. part f y ds))
      (λ ds. part_arms f rest ds)

  pub part_other : Name → b.Held-Expr-Cases-1 → Calls → Parted (Option Expr)
  part_other f b.Expr-Cases-1-None' cs = whole None cs
  part_other f (b.Expr-Cases-1-Some' p e) cs = over (λ x. Some x) (part_first f e cs)

-- ---- by the trees

unfoldable pub parted : Name → Expr → Calls → Parted Expr
parted f e cs = part f e cs

abbrev pub parted_all : Name → List Expr → Calls → Parted (List Expr)
parted_all f [] cs = whole [] cs
parted_all f (e ∷ es) cs =
    then_with (λ x xs. x ∷ xs) (parted f e cs) (λ ds. parted_all f es ds)

abbrev pub parted_links : Name → List (ChainOp × Expr) → Calls → Parted (List (ChainOp × Expr))
parted_links f [] cs = whole [] cs
parted_links f (l ∷ ls) cs =
    then_with (λ (x : Expr) (xs : List (ChainOp × Expr)). (l.0, x) ∷ xs) (parted f l.1 cs)
    (λ ds. parted_links f ls ds)

abbrev pub parted_arm : Name → Expr × Expr → Calls → Parted (Expr × Expr)
parted_arm f a cs = then_with (λ x y. (x, y)) (parted f a.0 cs) (λ ds. parted f a.1 ds)

abbrev pub parted_arms : Name → List (Expr × Expr) → Calls → Parted (List (Expr × Expr))
parted_arms f [] cs = whole [] cs
parted_arms f (a ∷ as_) cs =
    then_with (λ (x : Expr × Expr) (xs : List (Expr × Expr)). x ∷ xs) (parted_arm f a cs)
    (λ ds. parted_arms f as_ ds)

abbrev pub parted_maybe : Name → Option Expr → Calls → Parted (Option Expr)
parted_maybe f None cs = whole None cs
parted_maybe f (Some e) cs = over (λ x. Some x) (parted f e cs)

-- ---- lists of a select

abbrev pub parted_item : Name → Item → Calls → Parted Item
parted_item f i cs =
    over (λ e. roll-Item (record { expr = e; alias = (out-Item i).alias }))
    (parted f (out-Item i).expr cs)

abbrev pub parted_items : Name → List Item → Calls → Parted (List Item)
parted_items f [] cs = whole [] cs
parted_items f (i ∷ is_) cs =
    then_with (λ (x : Item) (xs : List Item). x ∷ xs) (parted_item f i cs)
    (λ ds. parted_items f is_ ds)
