-- What is like an expression, by the node that the expression is.
use Rattle.std.proofs.Common.{◌≡◌, ℕ, ℤ, Bool, List, Option, Some, None, refl, sym, subst}
use Rattle.away_values.specs.declared.types.Ty.{Ty}
use Rattle.away_values.specs.declared.types.Ty.TheVariants as ty
use Rattle.away_values.specs.Operators.{literal_type}
use Rattle.away_values.specs.declared.operators.ChainOp.{ChainOp}
use Rattle.away_values.specs.declared.operators.CmpOp.{CmpOp}
use Rattle.away_values.specs.declared.operators.IsTest.{IsTest}
use Rattle.away_trees.specs.declared.queries.Expr.{Expr}
use Rattle.away_trees.specs.declared.queries.Expr.TheVariants as e
use Rattle.away_trees.specs.declared.queries.Source.{Source}
use Rattle.away_trees.specs.declared.queries.FromItem.{FromItem}
use Rattle.away_trees.specs.declared.queries.Item.{Item}
use Rattle.away_trees.specs.declared.queries.Key.{Key}
use Rattle.away_trees.specs.declared.queries.Select.{Select}
use Rattle.away_trees.specs.declared.queries.Recursive.{Recursive}
use Rattle.away_trees.specs.declared.queries.Query.{Query}
use Rattle.away_trees.specs.declared.queries.Expr.TheOpen.{Expr-F}
use Rattle.away_trees.specs.declared.queries.Expr.TheOpen as ex
use Rattle.away_trees.specs.declared.queries.Expr.TheViews.{out-Expr, roll-Expr, out-roll-Expr}
use Rattle.away_grammar.specs.Terminals.{name}
use Rattle.sql_printer.specs.Writable.{Writable}
use Rattle.cte_prints.specs.Like.{IsLike, value, values, links, arms, maybe, query}
use Rattle.cte_prints.specs.Like as k

-- a node with its parts
abbrev pub Node : Type 0
Node = Expr-F Expr Source FromItem Item Key Query Recursive Select

-- ---- what the nodes are

pub see_int : (n : ℤ) → out-Expr (e.Int n) ≡ ex.Int n
unfolding roll-Expr denote.Hole.Carrier.roll
see_int n = out-roll-Expr (ex.Int n)

pub see_str : (t : List ℕ) → out-Expr (e.Str t) ≡ ex.Str t
unfolding roll-Expr denote.Hole.Carrier.roll
see_str t = out-roll-Expr (ex.Str t)

pub see_bool : (v : Bool) → out-Expr (e.Bool v) ≡ ex.Bool v
unfolding roll-Expr denote.Hole.Carrier.roll
see_bool v = out-roll-Expr (ex.Bool v)

pub see_null : out-Expr e.Null ≡ ex.Null
unfolding roll-Expr denote.Hole.Carrier.roll
see_null = out-roll-Expr ex.Null

pub see_named : (n : List ℕ) → out-Expr (e.Named n) ≡ ex.Named n
unfolding roll-Expr denote.Hole.Carrier.roll
see_named n = out-roll-Expr (ex.Named n)

pub see_qualified : (b n : List ℕ) → out-Expr (e.Dotted b n) ≡ ex.Dotted b n
unfolding roll-Expr denote.Hole.Carrier.roll
see_qualified b n = out-roll-Expr (ex.Dotted b n)

pub see_param : (i : ℕ) (t : Ty) → out-Expr (e.Param i t) ≡ ex.Param i t
unfolding roll-Expr denote.Hole.Carrier.roll
see_param i t = out-roll-Expr (ex.Param i t)

pub see_neg : (x : Expr) → out-Expr (e.Neg x) ≡ ex.Neg x
unfolding roll-Expr denote.Hole.Carrier.roll
see_neg x = out-roll-Expr (ex.Neg x)

pub see_not : (x : Expr) → out-Expr (e.Not x) ≡ ex.Not x
unfolding roll-Expr denote.Hole.Carrier.roll
see_not x = out-roll-Expr (ex.Not x)

pub see_is : (x : Expr) (t : IsTest) (v : Bool) → out-Expr (e.Is x t v) ≡ ex.Is x t v
unfolding roll-Expr denote.Hole.Carrier.roll
see_is x t v = out-roll-Expr (ex.Is x t v)

pub see_chain : (x : Expr) (xs : List (ChainOp × Expr)) → out-Expr (e.Chain x xs) ≡ ex.Chain x xs
unfolding roll-Expr denote.Hole.Carrier.roll
see_chain x xs = out-roll-Expr (ex.Chain x xs)

pub see_compare : (o : CmpOp) (x y : Expr) → out-Expr (e.Compare o x y) ≡ ex.Compare o x y
unfolding roll-Expr denote.Hole.Carrier.roll
see_compare o x y = out-roll-Expr (ex.Compare o x y)

pub see_between : (v : Bool) (x y z : Expr) → out-Expr (e.Between v x y z) ≡ ex.Between v x y z
unfolding roll-Expr denote.Hole.Carrier.roll
see_between v x y z = out-roll-Expr (ex.Between v x y z)

pub see_one_of : (v : Bool) (x : Expr) (xs : List Expr) → out-Expr (e.OneOf v x xs) ≡ ex.OneOf v x xs
unfolding roll-Expr denote.Hole.Carrier.roll
see_one_of v x xs = out-roll-Expr (ex.OneOf v x xs)

pub see_cast : (x : Expr) (t : Ty) → out-Expr (e.Cast x t) ≡ ex.Cast x t
unfolding roll-Expr denote.Hole.Carrier.roll
see_cast x t = out-roll-Expr (ex.Cast x t)

pub see_cases : (xs : List (Expr × Expr)) (x : Option Expr) → out-Expr (e.Cases xs x) ≡ ex.Cases xs x
unfolding roll-Expr denote.Hole.Carrier.roll
see_cases xs None = out-roll-Expr (ex.Cases xs None)
see_cases xs (Some x) = out-roll-Expr (ex.Cases xs (Some x))

pub see_call : (n : List ℕ) (xs : List Expr) → out-Expr (e.Call n xs) ≡ ex.Call n xs
unfolding roll-Expr denote.Hole.Carrier.roll
see_call n xs = out-roll-Expr (ex.Call n xs)

pub see_count_rows : out-Expr e.CountRows ≡ ex.CountRows
unfolding roll-Expr denote.Hole.Carrier.roll
see_count_rows = out-roll-Expr ex.CountRows

pub see_scalar : (q : Query) → out-Expr (e.Scalar q) ≡ ex.Scalar q
unfolding roll-Expr denote.Hole.Carrier.roll
see_scalar q = out-roll-Expr (ex.Scalar q)

pub see_exists : (q : Query) → out-Expr (e.Exists q) ≡ ex.Exists q
unfolding roll-Expr denote.Hole.Carrier.roll
see_exists q = out-roll-Expr (ex.Exists q)

-- ---- what is like them

-- the literal NULL, with a cast or without
pub data LikeNull : Expr → Type 0 where
  alone : LikeNull e.Null
  cast_to : (t : Ty) → LikeNull (e.Cast e.Null t)

pub data LikeName : Expr → Type 0 where
  column : (a c : List ℕ) → Writable (name a) → Writable (name c) → LikeName (e.Dotted a c)

-- a node with one part
pub data LikeOne (f : Expr → Expr) (x : Expr) : Expr → Type 0 where
  one : {u : Expr} → IsLike value x u → LikeOne f x (f u)

pub data LikeTwo (f : Expr → Expr → Expr) (x y : Expr) : Expr → Type 0 where
  two : {u v : Expr} → IsLike value x u → IsLike value y v → LikeTwo f x y (f u v)

pub data LikeThree (f : Expr → Expr → Expr → Expr) (x y z : Expr) : Expr → Type 0 where
  three : {u v w : Expr} → IsLike value x u → IsLike value y v → IsLike value z w → LikeThree f x y z (f u v w)

pub data LikeChain (x : Expr) (xs : List (ChainOp × Expr)) : Expr → Type 0 where
  chain : {u : Expr} {us : List (ChainOp × Expr)} → IsLike value x u → IsLike links xs us → LikeChain x xs (e.Chain u us)

pub data LikeChoice (n : Bool) (x : Expr) (xs : List Expr) : Expr → Type 0 where
  choice : {u : Expr} {us : List Expr} → IsLike value x u → IsLike values xs us → LikeChoice n x xs (e.OneOf n u us)

pub data LikeCases (xs : List (Expr × Expr)) (x : Option Expr) : Expr → Type 0 where
  cases : {us : List (Expr × Expr)} {u : Option Expr} → IsLike arms xs us → IsLike maybe x u → LikeCases xs x (e.Cases us u)

pub data LikeCall (n : List ℕ) (xs : List Expr) : Expr → Type 0 where
  call : {us : List Expr} → IsLike values xs us → LikeCall n xs (e.Call n us)

pub data LikeWhole (f : Query → Expr) (q : Query) : Expr → Type 0 where
  whole : {p : Query} → IsLike query q p → LikeWhole f q (f p)

abbrev pub Shape : Node → Expr → Type 0
Shape (ex.Int n) u = u ≡ e.Cast (e.Int n) (literal_type n)
Shape (ex.Str t) u = u ≡ e.Cast (e.Str t) ty.Text
Shape (ex.Bool v) u = u ≡ e.Cast (e.Bool v) ty.Boolean
Shape ex.Null u = LikeNull u
Shape (ex.Named n) u = LikeName u
Shape (ex.Dotted b n) u = LikeName u
Shape (ex.Slot i) u = ⊥
Shape (ex.Column c) u = ⊥
Shape (ex.Param i t) u = ⊥
Shape (ex.Neg x) u = LikeOne (λ x. e.Neg x) x u
Shape (ex.NegSmall x) u = ⊥
Shape (ex.Not x) u = LikeOne (λ x. e.Not x) x u
Shape (ex.Is x t v) u = LikeOne (λ x. e.Is x t v) x u
Shape (ex.Chain x xs) u = LikeChain x xs u
Shape (ex.Compare o x y) u = LikeTwo (λ x y. e.Compare o x y) x y u
Shape (ex.Between v x y z) u = LikeThree (λ x y z. e.Between v x y z) x y z u
Shape (ex.OneOf v x xs) u = LikeChoice v x xs u
Shape (ex.Cast x t) u = LikeOne (λ x. e.Cast x t) x u
Shape (ex.Cases xs x) u = LikeCases xs x u
Shape (ex.Call n xs) u = LikeCall n xs u
Shape ex.CountRows u = u ≡ e.CountRows
Shape (ex.Scalar q) u = LikeWhole (λ q. e.Scalar q) q u
Shape (ex.Exists q) u = LikeWhole (λ q. e.Exists q) q u

so : (x u : Expr) {n : Node} → out-Expr x ≡ n → Shape n u → Shape (out-Expr x) u
so x u h s = subst (λ n. Shape n u) (sym h) s

shaped : {x u : Expr} → IsLike value x u → Shape (out-Expr x) u
shaped (k.int n) = so _ _ (see_int n) refl
shaped (k.str t) = so _ _ (see_str t) refl
shaped (k.bool v) = so _ _ (see_bool v) refl
shaped k.null = so _ _ see_null alone
shaped (k.null_as t) = so _ _ see_null (cast_to t)
shaped (k.named n a c h j) = so _ _ (see_named n) (column a c h j)
shaped (k.qualified b n a c h j) = so _ _ (see_qualified b n) (column a c h j)
shaped (k.neg {x = x} h) = so _ _ (see_neg x) (one h)
shaped (k.not {x = x} h) = so _ _ (see_not x) (one h)
shaped (k.is {x = x} t v h) = so _ _ (see_is x t v) (one h)
shaped (k.chain {x = x} {xs = xs} h j) = so _ _ (see_chain x xs) (chain h j)
shaped (k.compare {x = x} {y = y} o h j) = so _ _ (see_compare o x y) (two h j)
shaped (k.between {x = x} {y = y} {z = z} v h j l) = so _ _ (see_between v x y z) (three h j l)
shaped (k.one_of {x = x} {xs = xs} v h j) = so _ _ (see_one_of v x xs) (choice h j)
shaped (k.cast {x = x} t h) = so _ _ (see_cast x t) (one h)
shaped (k.cases {xs = xs} {x = x} h j) = so _ _ (see_cases xs x) (cases h j)
shaped (k.call {xs = xs} n h) = so _ _ (see_call n xs) (call h)
shaped k.count_rows = so _ _ see_count_rows refl
shaped (k.scalar {q = q} h) = so _ _ (see_scalar q) (whole h)
shaped (k.exists {q = q} h) = so _ _ (see_exists q) (whole h)

-- What is like an expression has the shape of its node.
pub shape : (x u : Expr) (n : Node) → out-Expr x ≡ n → IsLike value x u → Shape n u
shape x u n h j = subst (λ n. Shape n u) h (shaped j)
