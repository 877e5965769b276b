-- The small parts of a query without the marks of their operations.
use Rattle.std.proofs.Common.{◌≡◌, refl, ap, sym, ◌∙◌, ℕ, ℤ, Bool, true, false, List, [], ◌∷◌, map, filter_map, get_or, zero, suc, pos, Option, Some, None, option_map}
use Rattle.std.specs.Prelude.{if◌then◌else◌}
use Rattle.away_values.specs.declared.operators.CmpOp.TheVariants as cmp
use Rattle.away_values.specs.declared.operators.IsTest.TheVariants as test
use Rattle.away_values.specs.declared.types.Ty.{Ty}
use Rattle.away_values.specs.declared.types.Ty.TheVariants as ty
use Rattle.away_values.specs.declared.values.Class.{Class}
use Rattle.away_trees.specs.declared.queries.Col.{Col}
use Rattle.away_trees.specs.declared.queries.Expr.{Expr}
use Rattle.away_trees.specs.declared.queries.Expr.TheBlock as b
use Rattle.away_trees.specs.declared.queries.Expr.TheOpen.{Expr-F}
use Rattle.away_trees.specs.declared.queries.Expr.TheOpen as ex
use Rattle.away_trees.specs.declared.queries.Expr.TheVariants as expr
use Rattle.away_trees.specs.declared.queries.Expr.TheViews.{roll-FromItem, roll-Query, roll-Select}
use Rattle.away_trees.specs.declared.queries.FromItem.{FromItem}
use Rattle.away_trees.specs.declared.queries.Query.{Query}
use Rattle.away_trees.specs.declared.queries.Select.{Select}
use Rattle.away_trees.specs.Algebra.{Algebra, expr_of, from_of, item_of, query_of, select_of}
use Rattle.away_trees.proofs.Equations as eq
use Rattle.elaboration.specs.Erasing.{erasing, erased}
use Rattle.elaboration_law.specs.Blind.{IsBlind}
use Rattle.elaboration_law.proofs.Plain.{same_expr}
use Rattle.elaboration_law.proofs.Unmarked.{reading_blind}
use Rattle.sql_meaning.specs.Placed.{column_of, placed, placed_at}
use Rattle.sql_meaning.specs.Reads.{Reads, reading, first_occurrences, slot_of, slots_of}
use Rattle.sql_meaning.specs.Trees.{col, null_of, truth, number, item, one}
use Rattle.sql_meaning.specs.Trees as tree
use Rattle.type_soundness.specs.Sorts.{Every}
use Rattle.call_forms.specs.Carrying.{text_of, is_label}
use Rattle.cte_parts.specs.Names.{alias_name, names_carrying, only_name}
use Rattle.cte_parts.specs.Trees.{is_not_true, lateral_as, only_as, gate_as, let_as, either_carrying}
use Rattle.cte_names.proofs.ErasedPlaced.{erased_placed}
use Rattle.cte_names.proofs.PlainPlaced.{plain_placed}

-- ---- an expression without its marks

pub slots_same : (e : Expr) → slots_of (erased e) ≡ slots_of e
slots_same e = ap (λ (r : Reads). first_occurrences (filter_map slot_of (r 0))) (same_expr reading reading_blind e)

-- whether it is the literal NULL
abbrev is_null : Expr-F Bool (Unit {0}) (Unit {0}) (Unit {0}) (Unit {0}) (Unit {0}) (Unit {0}) (Unit {0}) → Bool
is_null ex.Null = true
is_null e = false

abbrev nulls : Algebra
nulls = record {
  AnExpr = Bool;
  ASource = Unit {0};
  AFrom = Unit {0};
  AnItem = Unit {0};
  AKey = Unit {0};
  AQuery = Unit {0};
  ARecursive = Unit {0};
  ASelect = Unit {0};
  no_expr = false;
  no_query = tt;
  expr = is_null;
  source = λ x. tt;
  from = λ x. tt;
  item = λ x. tt;
  key = λ x. tt;
  query = λ x. tt;
  recursive = λ x. tt;
  select = λ x. tt;
}

nulls_blind : IsBlind nulls
nulls_blind = record { neg = λ x. refl; chain = λ x links. refl }

module _ (t : Ty) (ref : ℕ → Col) where
  abbrev null_or : Bool → Expr → Expr
  null_or null e = if null then expr.Cast expr.Null t else e

  null_or_placed : (e : Expr) → placed_at t ref e ≡ null_or (expr_of nulls e) (placed ref e)
  null_or_placed b.Null = refl
  null_or_placed e = refl

  erased_either : (null : Bool) (e : Expr) → null_or null (erased e) ≡ erased (null_or null e)
  unfolding erased
  erased_either true e = sym (eq.of_cast erasing expr.Null t)
  erased_either false e = refl

  placed_plain : (e : Expr) → placed ref (erased e) ≡ erased (placed ref e)
  placed_plain e = ap (λ (f : ℕ → Expr). f 0) (plain_placed (column_of ref) e) ∙ sym (erased_placed (column_of ref) (λ d i. refl) 0 e)

  pub placed_at_plain : (e : Expr) → placed_at t ref (erased e) ≡ erased (placed_at t ref e)
  placed_at_plain e =
      null_or_placed (erased e)
      ∙ ((λ i. null_or (same_expr nulls nulls_blind e i) (placed_plain e i))
      ∙ (erased_either (expr_of nulls e) (placed ref e) ∙ ap erased (sym (null_or_placed e))))

-- at its place in a table
pub entry_plain : (table : List Expr) (i : ℕ) → get_or (map erased table) i expr.Null ≡ erased (get_or table i expr.Null)
unfolding erased
entry_plain [] i = refl
entry_plain (e ∷ table) zero = refl
entry_plain (e ∷ table) (suc i) = entry_plain table i

-- ---- expressions without marks

abbrev pub IsPlain : Expr → Type 0
IsPlain e = expr_of erasing e ≡ e

pub truth_plain : (v : Bool) → IsPlain (truth v)
truth_plain v = eq.of_cast erasing (expr.Bool v) ty.Boolean

pub number_plain : (n : ℤ) → IsPlain (number n)
number_plain n = eq.of_cast erasing (expr.Int n) ty.Bigint

pub null_plain : (t : Ty) → IsPlain (null_of t)
null_plain t = eq.of_cast erasing expr.Null t

pub text_plain : (c : Class) → IsPlain (text_of c)
text_plain c = eq.of_cast erasing (expr.Str c.code) ty.Text

pub not_true_plain : (e : Expr) → IsPlain e → IsPlain (is_not_true e)
not_true_plain e h = eq.of_is erasing e test.True true ∙ ap (λ e. is_not_true e) h

pub label_plain : (n : ℕ) → IsPlain (is_label n)
label_plain n = eq.of_compare erasing cmp.Eq (col 2 0 1) (number (pos n)) ∙ ap (λ e. expr.Compare cmp.Eq (col 2 0 1) e) (number_plain (pos n))

pub nulls_plain : (ts : List Ty) → Every IsPlain (map null_of ts)
nulls_plain [] = tt
nulls_plain (t ∷ ts) = (null_plain t, nulls_plain ts)

pub columns_plain : (item : ℕ) (is : List ℕ) → Every IsPlain (map (col 0 item) is)
columns_plain item [] = tt
columns_plain item (i ∷ is) = (refl, columns_plain item is)

-- ---- lists and selects

pub list_plain : (es : List Expr) → Every IsPlain es → map (λ i. item_of erasing i) (map item es) ≡ map item es
list_plain [] h = refl
list_plain (e ∷ es) h = λ i. item (h.0 i) ∷ list_plain es h.1 i

pub select_plain : (es : List Expr) (fs gs : List FromItem) (o : Option Expr) → Every IsPlain es → map (λ f. from_of erasing f) fs ≡ gs → option_map (λ e. expr_of erasing e) o ≡ o
    → select_of erasing (tree.select es fs o) ≡ tree.select es gs o
select_plain es fs gs o h k l =
    eq.of_select erasing (map item es) fs o [] None ∙ (λ i. roll-Select (record { list = list_plain es h i; from = k i; filter = l i; order = []; limit = None }))

pub one_plain : (s : Select) → query_of erasing (one s) ≡ one (select_of erasing s)
one_plain s = eq.of_query erasing (s ∷ [])

-- ---- items of FROM

pub lateral_plain : (alias : List ℕ) (names : List (List ℕ)) (q : Query) → from_of erasing (lateral_as alias names q) ≡ lateral_as alias names (query_of erasing q)
lateral_plain alias names q = ap (λ s. roll-FromItem (record { source = s; alias = alias; columns = names })) (eq.of_sub erasing q true)

only_plain : (k : ℕ) (s : Select) → from_of erasing (only_as k s) ≡ only_as k (select_of erasing s)
only_plain k s = lateral_plain (alias_name k) (only_name ∷ []) (one s) ∙ ap (λ q. lateral_as (alias_name k) (only_name ∷ []) q) (one_plain s)

pub gate_plain : (k : ℕ) (e : Expr) → IsPlain e → from_of erasing (gate_as k e) ≡ gate_as k e
gate_plain k e h =
    only_plain k (tree.select (truth true ∷ []) [] (Some e))
    ∙ ap (λ s. only_as k s) (select_plain (truth true ∷ []) [] [] (Some e) (truth_plain true, tt) refl (ap (λ e. Some e) h))

pub let_plain : (k : ℕ) (e f : Expr) → expr_of erasing e ≡ f → from_of erasing (let_as k e) ≡ let_as k f
let_plain k e f h =
    only_plain k (tree.select (e ∷ []) [] None)
    ∙ ap (λ s. only_as k s) (eq.of_select erasing (item e ∷ []) [] None [] None ∙ (λ i. tree.select (h i ∷ []) [] None))

pub either_plain : (k carried width : ℕ) (x y : Select) → from_of erasing (either_carrying k carried width x y) ≡ either_carrying k carried width (select_of erasing x) (select_of erasing y)
either_plain k carried width x y =
    let names : List (List ℕ) = names_carrying carried width in
    lateral_plain (alias_name k) names (roll-Query (record { recursive = None; selects = x ∷ y ∷ [] })) ∙ ap (λ q. lateral_as (alias_name k) names q) (eq.of_query erasing (x ∷ y ∷ []))
