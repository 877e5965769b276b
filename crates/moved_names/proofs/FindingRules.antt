-- Whether a tree has what is looked for, by its parts.
use Rattle.std.proofs.Common.{◌≡◌, refl, ap, sym, ◌∙◌, ℕ, ℤ, Bool, false, ◌||◌, List, [], ◌∷◌, map, Option, Some, None, option_map}
use Rattle.std.specs.List.{list_any}
use Rattle.away_values.specs.declared.types.Ty.{Ty}
use Rattle.away_trees.specs.declared.queries.Col.{Col}
use Rattle.away_values.specs.declared.operators.ChainOp.{ChainOp}
use Rattle.away_values.specs.declared.operators.CmpOp.{CmpOp}
use Rattle.away_values.specs.declared.operators.IsTest.{IsTest}
use Rattle.away_trees.specs.declared.queries.Expr.{Expr}
use Rattle.away_trees.specs.declared.queries.Expr.TheVariants as expr
use Rattle.away_trees.specs.declared.queries.Source.TheVariants as source
use Rattle.away_trees.specs.declared.queries.FromItem.{FromItem}
use Rattle.away_trees.specs.declared.queries.Item.{Item}
use Rattle.away_trees.specs.declared.queries.Key.{Key}
use Rattle.away_trees.specs.declared.queries.Select.{Select}
use Rattle.away_trees.specs.declared.queries.Recursive.{Recursive}
use Rattle.away_trees.specs.declared.queries.Query.{Query}
use Rattle.away_trees.specs.declared.queries.Expr.TheViews.{out-Item, out-FromItem, out-Key, out-Select, out-Recursive, out-Query}
use Rattle.away_trees.specs.declared.queries.Expr.TheViews as view
use Rattle.away_trees.specs.Algebra.{expr_of, recursive_of, select_of, item_of, key_of, from_of}
use Rattle.away_trees.proofs.Equations as e
use Rattle.away_names.specs.Lookups.{Name}
use Rattle.moved_names.specs.Finding.{Sought, maybe, holds, link, arm, finding, in_expr, in_source, in_part, in_item, in_key, in_select, in_recursive, in_query, in_link, in_arm}

-- ---- lists

pub any_map : {A B : Type 0} (f : A → B) (g : B → Bool) (xs : List A) → list_any g (map f xs) ≡ list_any (λ x. g (f x)) xs
any_map f g [] = refl
any_map f g (x ∷ xs) = ap (λ b. g (f x) || b) (any_map f g xs)

pub maybe_map : {A : Type 0} (f : A → Bool) (o : Option A) → maybe (option_map f o) ≡ holds f o
maybe_map f None = refl
maybe_map f (Some x) = refl

-- ---- expressions

pub int_is : (s : Sought) (x : ℤ) → in_expr s (expr.Int x) ≡ false
unfolding in_expr
int_is s x = refl

pub str_is : (s : Sought) (x : List ℕ) → in_expr s (expr.Str x) ≡ false
unfolding in_expr
str_is s x = refl

pub bool_is : (s : Sought) (x : Bool) → in_expr s (expr.Bool x) ≡ false
unfolding in_expr
bool_is s x = refl

pub null_is : (s : Sought) → in_expr s expr.Null ≡ false
unfolding in_expr
null_is s = refl

pub named_is : (s : Sought) (x : Name) → in_expr s (expr.Named x) ≡ s.word x
unfolding in_expr
named_is s x = refl

pub qualified_is : (s : Sought) (a x : Name) → in_expr s (expr.Dotted a x) ≡ (s.word a || s.word x)
unfolding in_expr
qualified_is s a x = refl

pub slot_is : (s : Sought) (i : ℕ) → in_expr s (expr.Slot i) ≡ false
unfolding in_expr
slot_is s i = refl

pub column_is : (s : Sought) (c : Col) → in_expr s (expr.Column c) ≡ false
unfolding in_expr
column_is s c = refl

pub param_is : (s : Sought) (i : ℕ) (t : Ty) → in_expr s (expr.Param i t) ≡ false
unfolding in_expr
param_is s i t = refl

pub neg_is : (s : Sought) (x : Expr) → in_expr s (expr.Neg x) ≡ in_expr s x
unfolding in_expr
neg_is s x = e.of_neg (finding s) x

pub negsmall_is : (s : Sought) (x : Expr) → in_expr s (expr.NegSmall x) ≡ in_expr s x
unfolding in_expr
negsmall_is s x = e.of_negsmall (finding s) x

pub not_is : (s : Sought) (x : Expr) → in_expr s (expr.Not x) ≡ in_expr s x
unfolding in_expr
not_is s x = e.of_not (finding s) x

pub is_is : (s : Sought) (x : Expr) (t : IsTest) (v : Bool) → in_expr s (expr.Is x t v) ≡ in_expr s x
unfolding in_expr
is_is s x t v = e.of_is (finding s) x t v

pub cast_is : (s : Sought) (x : Expr) (t : Ty) → in_expr s (expr.Cast x t) ≡ in_expr s x
unfolding in_expr
cast_is s x t = e.of_cast (finding s) x t

pub chain_is : (s : Sought) (x : Expr) (ls : List (ChainOp × Expr)) → in_expr s (expr.Chain x ls) ≡ (in_expr s x || list_any (in_link s) ls)
unfolding in_expr
chain_is s x ls = e.of_chain (finding s) x ls ∙ ap (λ b. in_expr s x || b) (any_map _ link ls)

pub compare_is : (s : Sought) (op : CmpOp) (x y : Expr) → in_expr s (expr.Compare op x y) ≡ (in_expr s x || in_expr s y)
unfolding in_expr
compare_is s op x y = e.of_compare (finding s) op x y

pub between_is : (s : Sought) (v : Bool) (x y z : Expr) → in_expr s (expr.Between v x y z) ≡ (in_expr s x || (in_expr s y || in_expr s z))
unfolding in_expr
between_is s v x y z = e.of_between (finding s) v x y z

pub oneof_is : (s : Sought) (v : Bool) (x : Expr) (es : List Expr) → in_expr s (expr.OneOf v x es) ≡ (in_expr s x || list_any (in_expr s) es)
unfolding in_expr
oneof_is s v x es = e.of_oneof (finding s) v x es ∙ ap (λ b. in_expr s x || b) (any_map _ (λ b. b) es)

pub cases_is : (s : Sought) (as_ : List (Expr × Expr)) (o : Option Expr) → in_expr s (expr.Cases as_ o) ≡ (list_any (in_arm s) as_ || holds (in_expr s) o)
unfolding in_expr
cases_is s as_ o = e.of_cases (finding s) as_ o ∙ (λ i. any_map (λ (x : Expr × Expr). (expr_of (finding s) x.0, expr_of (finding s) x.1)) arm as_ i || maybe_map (in_expr s) o i)

pub call_is : (s : Sought) (x : Name) (es : List Expr) → in_expr s (expr.Call x es) ≡ (s.called x || list_any (in_expr s) es)
unfolding in_expr
call_is s x es = e.of_call (finding s) x es ∙ ap (λ b. s.called x || b) (any_map _ (λ b. b) es)

pub countrows_is : (s : Sought) → in_expr s expr.CountRows ≡ false
unfolding in_expr
countrows_is s = refl

pub scalar_is : (s : Sought) (q : Query) → in_expr s (expr.Scalar q) ≡ in_query s q
unfolding in_expr in_query
scalar_is s q = e.of_scalar (finding s) q

pub exists_is : (s : Sought) (q : Query) → in_expr s (expr.Exists q) ≡ in_query s q
unfolding in_expr in_query
exists_is s q = e.of_exists (finding s) q

pub ruleset finding_rules = (int_is, str_is, bool_is, null_is, named_is, qualified_is, slot_is, column_is, param_is, neg_is, negsmall_is, not_is, is_is, cast_is, chain_is, compare_is, between_is, oneof_is, cases_is, call_is, countrows_is, scalar_is, exists_is)

-- ---- FROM

pub table_is : (s : Sought) (x : Name) → in_source s (source.Table x) ≡ s.word x
unfolding in_source
table_is s x = refl

pub sub_is : (s : Sought) (q : Query) (lateral : Bool) → in_source s (source.Sub q lateral) ≡ in_query s q
unfolding in_source in_query
sub_is s q lateral = e.of_sub (finding s) q lateral

pub ruleset source_rules = (table_is, sub_is)

pub part_rule : (s : Sought) (f : FromItem) → in_part s f ≡ (in_source s (out-FromItem f).source || (s.word (out-FromItem f).alias || list_any s.word (out-FromItem f).columns))
unfolding in_part in_source
part_rule s f = refl

-- ---- selects and queries

pub item_rule : (s : Sought) (i : Item) → in_item s i ≡ (in_expr s (out-Item i).expr || holds s.word (out-Item i).alias)
unfolding in_item in_expr
item_rule s i = refl

pub key_rule : (s : Sought) (k : Key) → in_key s k ≡ in_expr s (out-Key k).expr
unfolding in_key in_expr
key_rule s k = refl

pub select_rule : (s : Sought) (x : Select) → in_select s x ≡ (list_any (in_item s) (out-Select x).list || (list_any (in_part s) (out-Select x).from || (holds (in_expr s) (out-Select x).filter || (list_any (in_key s) (out-Select x).order || holds (in_expr s) (out-Select x).limit))))
unfolding in_select in_item in_part in_key in_expr
select_rule s x = e.select_is (finding s) x ∙ (λ i. any_map (λ y. item_of (finding s) y) (λ b. b) (out-Select x).list i || (any_map (λ y. from_of (finding s) y) (λ b. b) (out-Select x).from i || (maybe_map (in_expr s) (out-Select x).filter i || (any_map (λ y. key_of (finding s) y) (λ b. b) (out-Select x).order i || maybe_map (in_expr s) (out-Select x).limit i))))

pub query_rule : (s : Sought) (q : Query) → in_query s q ≡ (holds (in_recursive s) (out-Query q).recursive || list_any (in_select s) (out-Query q).selects)
unfolding in_query in_recursive in_select
query_rule s q = e.query_is (finding s) q ∙ (λ i. maybe_map (in_recursive s) (out-Query q).recursive i || any_map (λ y. select_of (finding s) y) (λ b. b) (out-Query q).selects i)

pub recursive_rule : (s : Sought) (r : Recursive) → in_recursive s r ≡ (s.word (out-Recursive r).name || (list_any s.word (out-Recursive r).columns || (list_any (in_select s) (out-Recursive r).first || in_select s (out-Recursive r).second)))
unfolding in_recursive in_select
recursive_rule s r = ap (λ x. recursive_of (finding s) x) (sym (view.roll-out-Recursive r)) ∙ (e.of_recursive (finding s) (out-Recursive r).name (out-Recursive r).columns (out-Recursive r).first (out-Recursive r).second ∙ ap (λ b. s.word (out-Recursive r).name || (list_any s.word (out-Recursive r).columns || (b || in_select s (out-Recursive r).second))) (any_map (λ y. select_of (finding s) y) (λ b. b) (out-Recursive r).first))
