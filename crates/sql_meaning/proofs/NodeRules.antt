-- The value of each kind of node by the values of its parts, in the words by which evaluation is proved.
use Rattle.std.proofs.Common.{◌≡◌, refl, ◌∙◌, ap, ℕ, ℤ, Bool, true, false, if◌then◌else◌, List, [], ◌∷◌, length, map, Option, Some, None, Ok, Err, pos}
use Rattle.away_values.specs.declared.types.Ty.{Ty}
use Rattle.away_values.specs.declared.values.Value.{Value}
use Rattle.away_values.specs.declared.values.Value.TheVariants as val
use Rattle.away_values.specs.declared.operators.ChainOp.{ChainOp}
use Rattle.away_values.specs.declared.operators.CmpOp.{CmpOp}
use Rattle.away_values.specs.declared.operators.IsTest.{IsTest}
use Rattle.away_trees.specs.declared.queries.Col.{Col}
use Rattle.away_trees.specs.declared.queries.Query.{Query}
use Rattle.away_trees.specs.declared.queries.Expr.{Expr}
use Rattle.away_trees.specs.declared.queries.Expr.TheVariants as expr
use Rattle.away_values.specs.Results.{Or, and_then, mapped}
use Rattle.away_values.specs.Operators.{cast, compare, is_true, negated, negation, negation_if, passes, small}
use Rattle.away_trees.proofs.Equations as eq
use Rattle.sql_meaning.specs.Context.{Context, argument, at, column}
use Rattle.sql_meaning.specs.Equations.{known}
use Rattle.sql_meaning.specs.Functions.{aggregate, function, is_aggregate, scalar, Coalesce}
use Rattle.sql_meaning.specs.Gives.{value_of, query_rows, each_of, joined_of, chain_of, among_of, known_of, arms_of, other_of, found_or, arguments_at}
use Rattle.sql_meaning.specs.Meaning.{meaning, value}
use Rattle.sql_meaning.specs.Parts.{between, chosen, has_row, only}
use Rattle.sql_meaning.proofs.GivesRules.{gives_rules}
use Rattle.sql_meaning.proofs.Nodes as nodes

pub of_int : (cx : Context) (n : ℤ) → value_of cx (expr.Int n) ≡ Ok (val.Int n)
unfolding value_of
of_int cx n = refl

pub of_str : (cx : Context) (t : List ℕ) → value_of cx (expr.Str t) ≡ Ok (val.Text t)
unfolding value_of
of_str cx t = refl

pub of_bool : (cx : Context) (b : Bool) → value_of cx (expr.Bool b) ≡ Ok (val.Bool b)
unfolding value_of
of_bool cx b = refl

pub of_null : (cx : Context) → value_of cx expr.Null ≡ Ok val.Null
unfolding value_of
of_null cx = refl

pub of_named : (cx : Context) (t : List ℕ) → value_of cx (expr.Named t) ≡ Ok val.Null
unfolding value_of
of_named cx t = refl

pub of_qualified : (cx : Context) (t u : List ℕ) → value_of cx (expr.Dotted t u) ≡ Ok val.Null
unfolding value_of
of_qualified cx t u = refl

pub of_slot : (cx : Context) (i : ℕ) → value_of cx (expr.Slot i) ≡ Ok (at cx.env i)
unfolding value_of
of_slot cx i = refl

pub of_column : (cx : Context) (c : Col) → value_of cx (expr.Column c) ≡ Ok (column cx.frames c)
unfolding value_of
of_column cx c = refl

pub of_param : (cx : Context) (i : ℕ) (t : Ty) → value_of cx (expr.Param i t) ≡ Ok (argument cx.args i)
unfolding value_of
of_param cx i t = refl

pub of_neg : (cx : Context) (e : Expr) → value_of cx (expr.Neg e) ≡ and_then (value_of cx e) negated
unfolding value_of
of_neg cx e = ap (λ m. m.value cx) (eq.of_neg meaning e)

pub of_neg_small : (cx : Context) (e : Expr) → value_of cx (expr.NegSmall e) ≡ and_then (value_of cx e) (λ v. and_then (negated v) small)
unfolding value_of
of_neg_small cx e = ap (λ m. m.value cx) (eq.of_negsmall meaning e)

pub of_not : (cx : Context) (e : Expr) → value_of cx (expr.Not e) ≡ mapped negation (value_of cx e)
unfolding value_of
of_not cx e = ap (λ m. m.value cx) (eq.of_not meaning e)

pub of_is : (cx : Context) (e : Expr) (test : IsTest) (negative : Bool) → value_of cx (expr.Is e test negative) ≡ mapped (λ v. negation_if negative (val.Bool (passes test v))) (value_of cx e)
unfolding value_of
of_is cx e test negative = ap (λ m. m.value cx) (eq.of_is meaning e test negative)

pub of_chain : (cx : Context) (e : Expr) (links : List (ChainOp × Expr)) → value_of cx (expr.Chain e links) ≡ and_then (value_of cx e) (chain_of cx links)
unfolding value_of chain_of
of_chain cx e links = nodes.value_chain e links cx

pub of_compare : (cx : Context) (op : CmpOp) (x y : Expr) → value_of cx (expr.Compare op x y) ≡ and_then (value_of cx x) (λ v. mapped (compare op v) (value_of cx y))
unfolding value_of
of_compare cx op x y = ap (λ m. m.value cx) (eq.of_compare meaning op x y)

pub of_between : (cx : Context) (negative : Bool) (e low high : Expr) → value_of cx (expr.Between negative e low high) ≡ mapped (negation_if negative) (and_then (value_of cx e) (λ v. and_then (value_of cx low) (λ l. between v l (value_of cx high))))
unfolding value_of
of_between cx negative e low high = ap (λ m. m.value cx) (eq.of_between meaning negative e low high)

pub of_one_of : (cx : Context) (negative : Bool) (e : Expr) (choices : List Expr) → value_of cx (expr.OneOf negative e choices) ≡ mapped (negation_if negative) (and_then (value_of cx e) (λ v. among_of cx v choices (val.Bool false)))
unfolding value_of among_of
of_one_of cx negative e choices = nodes.value_one_of negative e choices cx

pub of_cast : (cx : Context) (e : Expr) (t : Ty) → value_of cx (expr.Cast e t) ≡ and_then (value_of cx e) (cast t)
unfolding value_of
of_cast cx e t = ap (λ m. m.value cx) (eq.of_cast meaning e t)

chosen_arm : (test e other rest : Or Value) (found : Or (Option Value)) → rest ≡ and_then found (found_or other) →
    and_then test (λ b. if is_true b then e else rest) ≡ and_then (and_then test (λ b. if is_true b then mapped (λ v. Some v) e else found)) (found_or other)
chosen_arm (Err c) e other rest found h = refl
chosen_arm (Ok (val.Bool true)) (Ok v) other rest found h = refl
chosen_arm (Ok (val.Bool true)) (Err c) other rest found h = refl
chosen_arm (Ok (val.Bool false)) e other rest found h = h
chosen_arm (Ok val.Null) e other rest found h = h
chosen_arm (Ok (val.Int n)) e other rest found h = h
chosen_arm (Ok (val.Text t)) e other rest found h = h

chosen_is : (cx : Context) (other : Or Value) (arms : List (Expr × Expr)) → chosen other (map (λ a. (value a.0 cx, value a.1 cx)) arms) ≡ and_then (arms_of cx arms) (found_or other)
unfolding arms_of
chosen_is cx other [] = refl
chosen_is cx other (arm ∷ arms) = chosen_arm (value arm.0 cx) (value arm.1 cx) other _ (arms_of cx arms) (chosen_is cx other arms)

pub of_cases : (cx : Context) (arms : List (Expr × Expr)) (other : Option Expr) → value_of cx (expr.Cases arms other) ≡ and_then (arms_of cx arms) (found_or (other_of cx other))
unfolding value_of other_of
of_cases cx arms None = nodes.value_cases_alone arms cx ∙ chosen_is cx (Ok val.Null) arms
of_cases cx arms (Some e) = nodes.value_cases arms e cx ∙ chosen_is cx (value e cx) arms

pub of_coalesce : (cx : Context) (name : List ℕ) (es : List Expr) → function name ≡ Coalesce → value_of cx (expr.Call name es) ≡ known_of cx es
unfolding value_of known_of
of_coalesce cx name es h = nodes.value_coalesce name es cx h

pub of_aggregate : (cx : Context) (name : List ℕ) (es : List Expr) → is_aggregate (function name) ≡ true → value_of cx (expr.Call name es) ≡ and_then (joined_of (arguments_at cx es) cx.group) (λ vs. aggregate (function name) (known vs))
unfolding value_of joined_of arguments_at each_of
of_aggregate cx name es h = nodes.value_aggregate name es cx h

pub of_other : (cx : Context) (name : List ℕ) (es : List Expr) → (function name ≡ Coalesce → ⊥) → is_aggregate (function name) ≡ false → value_of cx (expr.Call name es) ≡ and_then (each_of (value_of cx) es) (scalar (function name))
unfolding value_of each_of
of_other cx name es c h = nodes.value_other name es cx c h

pub of_count_rows : (cx : Context) → value_of cx expr.CountRows ≡ Ok (val.Int (pos (length cx.group)))
unfolding value_of
of_count_rows cx = refl

pub of_scalar : (cx : Context) (q : Query) → value_of cx (expr.Scalar q) ≡ and_then (query_rows cx q) only
unfolding value_of query_rows
of_scalar cx q = ap (λ m. m.value cx) (eq.of_scalar meaning q)

pub of_exists : (cx : Context) (q : Query) → value_of cx (expr.Exists q) ≡ mapped (λ rows. val.Bool (has_row rows)) (query_rows cx q)
unfolding value_of query_rows
of_exists cx q = ap (λ m. m.value cx) (eq.of_exists meaning q)

pub ruleset node_rules = (of_int, of_str, of_bool, of_null, of_named, of_qualified, of_slot, of_column, of_param, of_neg, of_neg_small, of_not, of_is, of_chain, of_compare, of_between, of_one_of, of_cast, of_cases, of_coalesce, of_aggregate, of_other, of_count_rows, of_scalar, of_exists)

pub other_none : (cx : Context) → other_of cx None ≡ Ok val.Null
unfolding other_of
other_none cx = refl

pub other_some : (cx : Context) (e : Expr) → other_of cx (Some e) ≡ value_of cx e
unfolding other_of value_of
other_some cx e = refl

pub ruleset value_rules = (gives_rules, node_rules, other_none, other_some)
