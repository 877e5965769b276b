-- An aggregate stands in an expression with its names resolved where one stands in it as it is written.
use Rattle.std.proofs.Common.{◌≡◌, refl, ap, ◌∙◌, Bool, false, ◌||◌, List, [], ◌∷◌, ◌++◌, map, fold, Option, Some, None, option_map}
use Rattle.std.specs.List.{list_any}
use Rattle.away_values.specs.declared.operators.ChainOp.{ChainOp}
use Rattle.away_trees.specs.Algebra.{expr_of}
use Rattle.away_trees.specs.declared.queries.Expr.{Expr}
use Rattle.away_trees.proofs.Equations as eq
use Rattle.away_names.specs.declared.note.Noted.{Noted}
use Rattle.away_names.specs.declared.scope.Hit.{Hit}
use Rattle.away_names.specs.declared.scope.Variable.{Variable}
use Rattle.away_names.specs.Notes.{pure, added, each, held}
use Rattle.away_names.specs.Lookups.{Name, Scope, column_named, column_qualified, variable_named}
use Rattle.away_names.specs.Naming as n
use Rattle.away_names.specs.Naming.{naming}
use Rattle.sql_meaning.specs.Expressions.{ExprMeaning, any_aggregates, other_aggregates}
use Rattle.sql_meaning.specs.Functions.{function, is_aggregate}
use Rattle.sql_meaning.specs.Meaning.{meaning}
use Rattle.sql_meaning.proofs.Related.{Alike, AlikeOption, AlikeLink, AlikeArm, Relation, IsKept, expr_related}

abbrev pub aggregates : Expr → Bool
aggregates e = (expr_of meaning e).aggregates

abbrev Keeps : n.Term → ExprMeaning → Type 0
Keeps t m = (s : Scope) → aggregates (t.judge s).it ≡ m.aggregates

abbrev relation : Relation naming meaning meaning
relation = record {
  Exprs = λ t m k. Keeps t m;
  Sources = λ x y z. Unit {0};
  Froms = λ x y z. Unit {0};
  Items = λ x y z. Unit {0};
  Keys = λ x y z. Unit {0};
  Queries = λ x y z. Unit {0};
  Recursives = λ x y z. Unit {0};
  Selects = λ x y z. Unit {0};
}

-- ---- lists of parts

list_appended : {A : Type 0} (xs : List A) (x : A) (ys : List A) → (xs ++ x ∷ []) ++ ys ≡ xs ++ x ∷ ys
list_appended [] x ys = refl
list_appended (z ∷ zs) x ys = ap (λ l. z ∷ l) (list_appended zs x ys)

nothing_behind : {A : Type 0} (xs : List A) → xs ≡ xs ++ []
nothing_behind [] = refl
nothing_behind (x ∷ xs) = ap (λ l. x ∷ l) (nothing_behind xs)

each_from : {A B : Type 0} (f : A → Noted B) (xs : List A) (acc : Noted (List B)) → (fold (λ a x. added a (f x)) acc xs).it ≡ acc.it ++ map (λ x. (f x).it) xs
each_from f [] acc = nothing_behind acc.it
each_from f (x ∷ xs) acc = each_from f xs (added acc (f x)) ∙ list_appended acc.it (f x).it (map (λ x. (f x).it) xs)

pub each_is : {A B : Type 0} (f : A → Noted B) (xs : List A) → (each f xs).it ≡ map (λ x. (f x).it) xs
each_is f xs = each_from f xs (pure [])

module _ (s : Scope) where
  exprs_keep : (xs : List n.Term) (ys zs : List ExprMeaning) → Alike (λ t m k. Keeps t m) xs ys zs → any_aggregates (map (λ e. expr_of meaning e) (map (λ (t : n.Term). (t.judge s).it) xs)) ≡ any_aggregates ys
  exprs_keep [] [] [] h = refl
  exprs_keep (x ∷ xs) (y ∷ ys) (z ∷ zs) h = λ i. h.0 s i || exprs_keep xs ys zs h.1 i
  exprs_keep _ _ _ h = absurd h

  all_keep : (xs : List n.Term) (ys zs : List ExprMeaning) → Alike (λ t m k. Keeps t m) xs ys zs → any_aggregates (map (λ e. expr_of meaning e) (each (λ (t : n.Term). t.judge s) xs).it) ≡ any_aggregates ys
  all_keep xs ys zs h = ap (λ es. any_aggregates (map (λ e. expr_of meaning e) es)) (each_is (λ (t : n.Term). t.judge s) xs) ∙ exprs_keep xs ys zs h

  links_keep : (xs : List (ChainOp × n.Term)) (ys zs : List (ChainOp × ExprMeaning)) → Alike (AlikeLink (λ t m k. Keeps t m)) xs ys zs
      → list_any (λ (l : ChainOp × ExprMeaning). l.1.aggregates) (map (λ l. eq.link_of meaning l) (map (λ (l : ChainOp × n.Term). (n.linked s l).it) xs)) ≡ list_any (λ (l : ChainOp × ExprMeaning). l.1.aggregates) ys
  links_keep [] [] [] h = refl
  links_keep (x ∷ xs) (y ∷ ys) (z ∷ zs) h = λ i. h.0.2 s i || links_keep xs ys zs h.1 i
  links_keep _ _ _ h = absurd h

  all_links : (xs : List (ChainOp × n.Term)) (ys zs : List (ChainOp × ExprMeaning)) → Alike (AlikeLink (λ t m k. Keeps t m)) xs ys zs
      → list_any (λ (l : ChainOp × ExprMeaning). l.1.aggregates) (map (λ l. eq.link_of meaning l) (each (n.linked s) xs).it) ≡ list_any (λ (l : ChainOp × ExprMeaning). l.1.aggregates) ys
  all_links xs ys zs h = ap (λ ls. list_any (λ (l : ChainOp × ExprMeaning). l.1.aggregates) (map (λ l. eq.link_of meaning l) ls)) (each_is (n.linked s) xs) ∙ links_keep xs ys zs h

  arms_keep : (xs : List (n.Term × n.Term)) (ys zs : List (ExprMeaning × ExprMeaning)) → Alike (AlikeArm (λ t m k. Keeps t m)) xs ys zs
      → list_any (λ (a : ExprMeaning × ExprMeaning). a.0.aggregates || a.1.aggregates) (map (λ a. eq.arm_of meaning a) (map (λ (a : n.Term × n.Term). (n.armed s a).it) xs)) ≡ list_any (λ (a : ExprMeaning × ExprMeaning). a.0.aggregates || a.1.aggregates) ys
  arms_keep [] [] [] h = refl
  arms_keep (x ∷ xs) (y ∷ ys) (z ∷ zs) h = λ i. (h.0.0 s i || h.0.1 s i) || arms_keep xs ys zs h.1 i
  arms_keep _ _ _ h = absurd h

  all_arms : (xs : List (n.Term × n.Term)) (ys zs : List (ExprMeaning × ExprMeaning)) → Alike (AlikeArm (λ t m k. Keeps t m)) xs ys zs
      → list_any (λ (a : ExprMeaning × ExprMeaning). a.0.aggregates || a.1.aggregates) (map (λ a. eq.arm_of meaning a) (each (n.armed s) xs).it) ≡ list_any (λ (a : ExprMeaning × ExprMeaning). a.0.aggregates || a.1.aggregates) ys
  all_arms xs ys zs h = ap (λ as_. list_any (λ (a : ExprMeaning × ExprMeaning). a.0.aggregates || a.1.aggregates) (map (λ a. eq.arm_of meaning a) as_)) (each_is (n.armed s) xs) ∙ arms_keep xs ys zs h

  maybe_keeps : (x : Option n.Term) (y z : Option ExprMeaning) → AlikeOption (λ t m k. Keeps t m) x y z → other_aggregates (option_map (λ e. expr_of meaning e) (held (λ (t : n.Term). t.judge s) x).it) ≡ other_aggregates y
  maybe_keeps None None None h = refl
  maybe_keeps (Some x) (Some y) (Some z) h = h s
  maybe_keeps _ _ _ h = absurd h

-- ---- names

slot_or_none : (x : Name) (o : Option Variable) → aggregates (n.slot_or x o).it ≡ false
unfolding n.slot_or
slot_or_none x None = refl
slot_or_none x (Some v) = refl

named_by_none : (x : Name) (hit : Option Hit) (o : Option Variable) → aggregates (n.named_by x hit o).it ≡ false
unfolding n.named_by
named_by_none x (Some hit) o = refl
named_by_none x None o = slot_or_none x o

name_none : (x : Name) (s : Scope) → aggregates (n.named x s).it ≡ false
unfolding n.named
name_none x s = named_by_none x (column_named x s.levels) (variable_named x s.variables)

qualified_by_none : (a x : Name) (hit : Option Hit) → aggregates (n.qualified_by a x hit).it ≡ false
unfolding n.qualified_by
qualified_by_none a x (Some hit) = refl
qualified_by_none a x None = refl

qualified_none : (a x : Name) (s : Scope) → aggregates (n.qualified a x s).it ≡ false
unfolding n.qualified
qualified_none a x s = qualified_by_none a x (column_qualified a x s.levels)

unwritten_same : (e : Expr) → aggregates (n.unwritten e).it ≡ aggregates e
unfolding n.unwritten
unwritten_same e = refl

-- ---- all steps

abbrev of : {x y : ExprMeaning} → x ≡ y → x.aggregates ≡ y.aggregates
of e = ap (λ (m : ExprMeaning). m.aggregates) e

steps : IsKept naming meaning meaning relation
steps = record {
  no_expr = λ s. refl;
  no_query = tt;
  int = λ i s. refl;
  str = λ t s. refl;
  bool = λ v s. refl;
  null = λ s. refl;
  named = λ t s. name_none t s;
  qualified = λ t u s. qualified_none t u s;
  slot = λ i s. unwritten_same _;
  column = λ c s. unwritten_same _;
  param = λ i t s. refl;
  neg = λ x y z k s. of (eq.of_neg meaning (x.judge s).it) ∙ k s;
  neg_small = λ x y z k s. of (eq.of_negsmall meaning (x.judge s).it) ∙ k s;
  not = λ x y z k s. of (eq.of_not meaning (x.judge s).it) ∙ k s;
  is = λ x y z t v k s. of (eq.of_is meaning (x.judge s).it t v) ∙ k s;
  chain = λ x y z xs ys zs k r s. of (eq.of_chain meaning (x.judge s).it (each (n.linked s) xs).it) ∙ (λ i. k s i || all_links s xs ys zs r i);
  compare = λ op x₁ x₂ y₁ y₂ z₁ z₂ k₁ k₂ s. of (eq.of_compare meaning op (x₁.judge s).it (x₂.judge s).it) ∙ (λ i. k₁ s i || k₂ s i);
  between = λ v x₁ x₂ x₃ y₁ y₂ y₃ z₁ z₂ z₃ k₁ k₂ k₃ s. of (eq.of_between meaning v (x₁.judge s).it (x₂.judge s).it (x₃.judge s).it) ∙ (λ i. k₁ s i || (k₂ s i || k₃ s i));
  one_of = λ v x y z xs ys zs k r s. of (eq.of_oneof meaning v (x.judge s).it (each (λ (t : n.Term). t.judge s) xs).it) ∙ (λ i. k s i || all_keep s xs ys zs r i);
  cast = λ x y z t k s. of (eq.of_cast meaning (x.judge s).it t) ∙ k s;
  cases = λ xs ys zs x y z r k s. of (eq.of_cases meaning (each (n.armed s) xs).it (held (λ (t : n.Term). t.judge s) x).it) ∙ (λ i. all_arms s xs ys zs r i || maybe_keeps s x y z k i);
  call = λ name xs ys zs r s. of (eq.of_call meaning name (each (λ (t : n.Term). t.judge s) xs).it) ∙ (λ i. is_aggregate (function name) || all_keep s xs ys zs r i);
  count_rows = λ s. refl;
  scalar = λ x y z h s. of (eq.of_scalar meaning (x s).it.it);
  exists = λ x y z h s. of (eq.of_exists meaning (x s).it.it);
  table = λ name. tt;
  sub = λ x y z lateral h. tt;
  from = λ x y z alias columns h. tt;
  item = λ x y z alias h. tt;
  key = λ x y z descending h. tt;
  select = λ l₁ l₂ l₃ f₁ f₂ f₃ w₁ w₂ w₃ o₁ o₂ o₃ m₁ m₂ m₃ a b c d e. tt;
  recursive = λ name columns xs ys zs x y z h k. tt;
  query = λ x y z xs ys zs h k. tt;
}

pub named_aggregates : (e : Expr) (s : Scope) → aggregates ((expr_of naming e).judge s).it ≡ aggregates e
named_aggregates e = expr_related naming meaning meaning relation steps e
