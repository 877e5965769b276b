-- Where aggregates stand, for each kind of node and along each list.
use Rattle.std.proofs.Common.{◌≡◌, refl, ap, ℕ, ℤ, Bool, true, false, ◌||◌, List, [], ◌∷◌, Some, None}
use Rattle.away_values.specs.declared.types.Ty.{Ty}
use Rattle.away_values.specs.declared.operators.ChainOp.{ChainOp}
use Rattle.away_values.specs.declared.operators.CmpOp.{CmpOp}
use Rattle.away_values.specs.declared.operators.IsTest.{IsTest}
use Rattle.away_trees.specs.declared.queries.Col.{Col}
use Rattle.away_trees.specs.declared.queries.Query.{Query}
use Rattle.away_trees.specs.declared.queries.Item.{Item}
use Rattle.away_trees.specs.declared.queries.Expr.{Expr}
use Rattle.away_trees.specs.declared.queries.Expr.TheVariants as expr
use Rattle.away_trees.specs.declared.queries.Expr.TheViews.{out-Item}
use Rattle.away_trees.proofs.Equations as eq
use Rattle.sql_meaning.specs.Functions.{function, is_aggregate}
use Rattle.sql_meaning.specs.Meaning.{meaning}
use Rattle.sql_meaning.proofs.Nodes as nodes
use Rattle.sql_meaning.specs.Aggregates.{aggregated, any_expr, any_link, any_arm, any_item, other_aggregated}
use Rattle.sql_meaning.proofs.WalkRules.{next_item, none_left}

pub in_int : (n : ℤ) → aggregated (expr.Int n) ≡ false
unfolding aggregated
in_int n = refl

pub in_str : (t : List ℕ) → aggregated (expr.Str t) ≡ false
unfolding aggregated
in_str t = refl

pub in_bool : (b : Bool) → aggregated (expr.Bool b) ≡ false
unfolding aggregated
in_bool b = refl

pub in_null : aggregated expr.Null ≡ false
unfolding aggregated
in_null = refl

pub in_named : (t : List ℕ) → aggregated (expr.Named t) ≡ false
unfolding aggregated
in_named t = refl

pub in_qualified : (t u : List ℕ) → aggregated (expr.Dotted t u) ≡ false
unfolding aggregated
in_qualified t u = refl

pub in_slot : (i : ℕ) → aggregated (expr.Slot i) ≡ false
unfolding aggregated
in_slot i = refl

pub in_column : (c : Col) → aggregated (expr.Column c) ≡ false
unfolding aggregated
in_column c = refl

pub in_param : (i : ℕ) (t : Ty) → aggregated (expr.Param i t) ≡ false
unfolding aggregated
in_param i t = refl

pub in_neg : (e : Expr) → aggregated (expr.Neg e) ≡ aggregated e
unfolding aggregated
in_neg e = ap (λ m. m.aggregates) (eq.of_neg meaning e)

pub in_neg_small : (e : Expr) → aggregated (expr.NegSmall e) ≡ aggregated e
unfolding aggregated
in_neg_small e = ap (λ m. m.aggregates) (eq.of_negsmall meaning e)

pub in_not : (e : Expr) → aggregated (expr.Not e) ≡ aggregated e
unfolding aggregated
in_not e = ap (λ m. m.aggregates) (eq.of_not meaning e)

pub in_is : (e : Expr) (t : IsTest) (n : Bool) → aggregated (expr.Is e t n) ≡ aggregated e
unfolding aggregated
in_is e t n = ap (λ m. m.aggregates) (eq.of_is meaning e t n)

pub in_chain : (e : Expr) (ls : List (ChainOp × Expr)) → aggregated (expr.Chain e ls) ≡ (aggregated e || any_link ls)
unfolding aggregated any_link
in_chain e ls = nodes.aggregate_chain e ls

pub in_compare : (op : CmpOp) (x y : Expr) → aggregated (expr.Compare op x y) ≡ (aggregated x || aggregated y)
unfolding aggregated
in_compare op x y = ap (λ m. m.aggregates) (eq.of_compare meaning op x y)

pub in_between : (n : Bool) (x y z : Expr) → aggregated (expr.Between n x y z) ≡ (aggregated x || (aggregated y || aggregated z))
unfolding aggregated
in_between n x y z = ap (λ m. m.aggregates) (eq.of_between meaning n x y z)

pub in_one_of : (n : Bool) (e : Expr) (cs : List Expr) → aggregated (expr.OneOf n e cs) ≡ (aggregated e || any_expr cs)
unfolding aggregated any_expr
in_one_of n e cs = nodes.aggregate_one_of n e cs

pub in_cast : (e : Expr) (t : Ty) → aggregated (expr.Cast e t) ≡ aggregated e
unfolding aggregated
in_cast e t = ap (λ m. m.aggregates) (eq.of_cast meaning e t)

pub in_cases : (arms : List (Expr × Expr)) (e : Expr) → aggregated (expr.Cases arms (Some e)) ≡ (any_arm arms || other_aggregated (Some e))
unfolding aggregated any_arm other_aggregated
in_cases arms e = nodes.aggregate_cases arms e

pub in_cases_alone : (arms : List (Expr × Expr)) → aggregated (expr.Cases arms None) ≡ (any_arm arms || other_aggregated None)
unfolding aggregated any_arm other_aggregated
in_cases_alone arms = nodes.aggregate_cases_alone arms

pub in_call : (name : List ℕ) (es : List Expr) → aggregated (expr.Call name es) ≡ (is_aggregate (function name) || any_expr es)
unfolding aggregated any_expr
in_call name es = nodes.aggregate_call name es

pub in_count_rows : aggregated expr.CountRows ≡ true
unfolding aggregated
in_count_rows = refl

pub in_scalar : (q : Query) → aggregated (expr.Scalar q) ≡ false
unfolding aggregated
in_scalar q = ap (λ m. m.aggregates) (eq.of_scalar meaning q)

pub in_exists : (q : Query) → aggregated (expr.Exists q) ≡ false
unfolding aggregated
in_exists q = ap (λ m. m.aggregates) (eq.of_exists meaning q)

pub any_expr_none : any_expr [] ≡ false
unfolding any_expr
any_expr_none = refl

pub any_expr_more : (x : Expr) (xs : List Expr) → any_expr (x ∷ xs) ≡ (aggregated x || any_expr xs)
unfolding any_expr aggregated
any_expr_more x xs = refl

pub any_link_none : any_link [] ≡ false
unfolding any_link
any_link_none = refl

pub any_link_more : (x : ChainOp × Expr) (xs : List (ChainOp × Expr)) → any_link (x ∷ xs) ≡ (aggregated x.1 || any_link xs)
unfolding any_link aggregated
any_link_more x xs = refl

pub any_arm_none : any_arm [] ≡ false
unfolding any_arm
any_arm_none = refl

pub any_arm_more : (x : Expr × Expr) (xs : List (Expr × Expr)) → any_arm (x ∷ xs) ≡ ((aggregated x.0 || aggregated x.1) || any_arm xs)
unfolding any_arm aggregated
any_arm_more x xs = refl

pub any_item_none : any_item [] ≡ false
unfolding any_item
any_item_none = refl

pub any_item_more : (x : Item) (xs : List Item) → any_item (x ∷ xs) ≡ (aggregated (out-Item x).expr || any_item xs)
unfolding any_item aggregated
any_item_more x xs = refl

pub other_none : other_aggregated None ≡ false
unfolding other_aggregated
other_none = refl

pub other_some : (e : Expr) → other_aggregated (Some e) ≡ aggregated e
unfolding other_aggregated aggregated
other_some e = refl

pub ruleset aggregate_rules = (in_int, in_str, in_bool, in_null, in_named, in_qualified, in_slot, in_column, in_param, in_neg, in_neg_small, in_not, in_is, in_chain, in_compare, in_between, in_one_of, in_cast, in_cases, in_cases_alone, in_call, in_count_rows, in_scalar, in_exists)

pub ruleset any_rules = (next_item, none_left, any_expr_none, any_expr_more, any_link_none, any_link_more, any_arm_none, any_arm_more, any_item_none, any_item_more, other_none, other_some)
