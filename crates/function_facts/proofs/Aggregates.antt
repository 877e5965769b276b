-- An aggregate stands in an expression where the typing finds one.
use Rattle.std.proofs.Common.{◌≡◌, ℕ, Bool, true, false, ◌||◌, if◌then◌else◌, List, [], ◌∷◌, map, fold, Option, Some, None, refl, ap, sym, ◌∙◌}
use Rattle.std.specs.List.{list_any}
use Rattle.away_values.specs.declared.operators.ChainOp.{ChainOp}
use Rattle.away_trees.specs.declared.queries.Expr.{Expr}
use Rattle.away_names.specs.declared.function.Known.{Known}
use Rattle.away_names.specs.declared.function.Known.TheVariants as known
use Rattle.away_names.specs.Functions as names
use Rattle.away_typing.specs.declared.uses.Uses.{Uses}
use Rattle.away_typing.specs.Aggregates as typing
use Rattle.away_typing.specs.Aggregates.{using_, Term, either, unused, called, aggregated, of_query, of_slot, of_column, is_known_aggregate, all_of, maybe}
use Rattle.away_typing.specs.Trees.{uses_of}
use Rattle.sql_meaning.specs.Expressions.{ExprMeaning, any_aggregates, other_aggregates}
use Rattle.sql_meaning.specs.Functions as meant
use Rattle.sql_meaning.specs.Meaning.{meaning, has_aggregate}
use Rattle.sql_meaning.proofs.Related.{Alike, AlikeOption, AlikeLink, AlikeArm, Relation, IsKept, expr_related}
use Rattle.type_soundness.proofs.Functions.{stands_for, function_is}

-- the meaning has an aggregate where the typing has one
abbrev Agrees : Term → ExprMeaning → Type 0
Agrees t m = m.aggregates ≡ t.uses.aggregate

abbrev relation : Relation using_ meaning meaning
relation = record {
  Exprs = λ t m k. Agrees t m;
  Sources = λ x y z. Unit {0};
  Froms = λ x y z. Unit {0};
  Items = λ x y z. Unit {0};
  Keys = λ x y z. Unit {0};
  Queries = λ x y z. Unit {0};
  Recursives = λ x y z. Unit {0};
  Selects = λ x y z. Unit {0};
}

-- ---- parts together

either_is : (u v : Uses) → (either u v).aggregate ≡ (u.aggregate || v.aggregate)
unfolding either
either_is u v = refl

unused_is : unused.aggregate ≡ false
unfolding unused
unused_is = refl

or_assoc : (a b c : Bool) → ((a || b) || c) ≡ (a || (b || c))
or_assoc true b c = refl
or_assoc false b c = refl

or_false : (a : Bool) → (a || false) ≡ a
or_false true = refl
or_false false = refl

abbrev any_of : List Uses → Bool
any_of us = list_any (λ (u : Uses). u.aggregate) us

fold_is : (us : List Uses) (a : Uses) → (fold either a us).aggregate ≡ (a.aggregate || any_of us)
fold_is [] a = sym (or_false a.aggregate)
fold_is (u ∷ us) a = fold_is us (either a u) ∙ (ap (λ b. b || any_of us) (either_is a u) ∙ or_assoc a.aggregate u.aggregate (any_of us))

all_is : (us : List Uses) → (all_of us).aggregate ≡ any_of us
all_is us = fold_is us unused ∙ ap (λ b. b || any_of us) unused_is

-- ---- lists

exprs_agree : (ts : List Term) (ms ks : List ExprMeaning) → Alike (λ t m k. Agrees t m) ts ms ks → any_aggregates ms ≡ any_of (map (λ (t : Term). t.uses) ts)
exprs_agree [] [] [] h = refl
exprs_agree (t ∷ ts) (m ∷ ms) (k ∷ ks) h = λ i. h.0 i || exprs_agree ts ms ks h.1 i
exprs_agree _ _ _ h = absurd h

-- the uses of terms that are made of others
arms_agree : (ts : List (Term × Term)) (ms ks : List (ExprMeaning × ExprMeaning)) → Alike (AlikeArm (λ t m k. Agrees t m)) ts ms ks
    → list_any (λ (a : ExprMeaning × ExprMeaning). a.0.aggregates || a.1.aggregates) ms
    ≡ any_of (map (λ (t : Term). t.uses) (map (λ (a : Term × Term). typing.with_ a.0 a.1) ts))
arms_agree [] [] [] h = refl
arms_agree (t ∷ ts) (m ∷ ms) (k ∷ ks) h =
    λ i. ((λ j. h.0.0 j || h.0.1 j) ∙ sym (either_is t.0.uses t.1.uses)) i || arms_agree ts ms ks h.1 i
arms_agree _ _ _ h = absurd h

links_agree : (ts : List (ChainOp × Term)) (ms ks : List (ChainOp × ExprMeaning)) → Alike (AlikeLink (λ t m k. Agrees t m)) ts ms ks
    → list_any (λ (l : ChainOp × ExprMeaning). l.1.aggregates) ms ≡ any_of (map (λ (t : Term). t.uses) (map (λ (l : ChainOp × Term). l.1) ts))
links_agree [] [] [] h = refl
links_agree (t ∷ ts) (m ∷ ms) (k ∷ ks) h = λ i. h.0.2 i || links_agree ts ms ks h.1 i
links_agree _ _ _ h = absurd h

other_agrees : (t : Option Term) (m k : Option ExprMeaning) → AlikeOption (λ t m k. Agrees t m) t m k → other_aggregates m ≡ (maybe t).uses.aggregate
other_agrees None None None h = sym unused_is
other_agrees (Some t) (Some m) (Some k) h = h
other_agrees _ _ _ h = absurd h

-- ---- calls

known_is : (o : Option Known) → meant.is_aggregate (stands_for o) ≡ is_known_aggregate o
unfolding is_known_aggregate names.is_aggregate
known_is None = refl
known_is (Some known.Length) = refl
known_is (Some known.Substr) = refl
known_is (Some known.Coalesce) = refl
known_is (Some known.Greatest) = refl
known_is (Some known.Least) = refl
known_is (Some known.Count) = refl
known_is (Some known.Min) = refl
known_is (Some known.Max) = refl
known_is (Some known.Sum) = refl
known_is (Some known.BoolAnd) = refl
known_is (Some known.BoolOr) = refl

is_aggregate_is : (name : List ℕ) → meant.is_aggregate (meant.function name) ≡ is_known_aggregate (names.function name)
is_aggregate_is name = ap meant.is_aggregate (function_is name) ∙ known_is (names.function name)

called_is : (name : List ℕ) (u : Uses) → (called name u).aggregate ≡ (is_known_aggregate (names.function name) || u.aggregate)
unfolding called aggregated
called_is name u = by (is_known_aggregate (names.function name))
  where
    by : (b : Bool) → (if b then aggregated u else u).aggregate ≡ (b || u.aggregate)
    by true = refl
    by false = refl

slot_is : of_slot.aggregate ≡ false
unfolding of_slot unused
slot_is = refl

column_is : (level : ℕ) → (of_column level).aggregate ≡ false
unfolding of_column unused
column_is level = refl

query_is : (u : Uses) (b : Bool) → (of_query u b).aggregate ≡ false
unfolding of_query unused
query_is u b = refl

count_is : (aggregated unused).aggregate ≡ true
unfolding aggregated
count_is = refl

two : (t u : Term) (a b : Bool) → a ≡ t.uses.aggregate → b ≡ u.uses.aggregate → (a || b) ≡ (typing.with_ t u).uses.aggregate
two t u a b h k = (λ i. h i || k i) ∙ sym (either_is t.uses u.uses)

many : (ts : List Term) (b : Bool) → b ≡ any_of (map (λ (t : Term). t.uses) ts) → b ≡ (typing.all ts).uses.aggregate
many ts b h = h ∙ sym (all_is (map (λ (t : Term). t.uses) ts))

-- ---- all steps

steps : IsKept using_ meaning meaning relation
steps = record {
  no_expr = sym unused_is;
  no_query = tt;
  int = λ n. sym unused_is;
  str = λ t. sym unused_is;
  bool = λ b. sym unused_is;
  null = sym unused_is;
  named = λ t. sym unused_is;
  qualified = λ t u. sym unused_is;
  slot = λ i. sym slot_is;
  column = λ c. sym (column_is c.level);
  param = λ i t. sym unused_is;
  neg = λ x y z h. h;
  neg_small = λ x y z h. h;
  not = λ x y z h. h;
  is = λ x y z t v h. h;
  chain = λ x y z xs ys zs h k.
      two x (typing.all (map (λ (l : ChainOp × Term). l.1) xs)) y.aggregates (list_any (λ (l : ChainOp × ExprMeaning). l.1.aggregates) ys) h
      (many (map (λ (l : ChainOp × Term). l.1) xs) _ (links_agree xs ys zs k));
  compare = λ op x₁ x₂ y₁ y₂ z₁ z₂ h k. two x₁ x₂ y₁.aggregates y₂.aggregates h k;
  between = λ v x₁ x₂ x₃ y₁ y₂ y₃ z₁ z₂ z₃ h k l.
      two x₁ (typing.with_ x₂ x₃) y₁.aggregates (y₂.aggregates || y₃.aggregates) h (two x₂ x₃ y₂.aggregates y₃.aggregates k l);
  one_of = λ v x y z xs ys zs h k. two x (typing.all xs) y.aggregates (any_aggregates ys) h (many xs _ (exprs_agree xs ys zs k));
  cast = λ x y z t h. h;
  cases = λ xs ys zs x y z h k.
      two (typing.all (map (λ (a : Term × Term). typing.with_ a.0 a.1) xs)) (maybe x)
      (list_any (λ (a : ExprMeaning × ExprMeaning). a.0.aggregates || a.1.aggregates) ys) (other_aggregates y)
      (many (map (λ (a : Term × Term). typing.with_ a.0 a.1) xs) _ (arms_agree xs ys zs h)) (other_agrees x y z k);
  call = λ name xs ys zs h.
      (λ i. is_aggregate_is name i || (exprs_agree xs ys zs h ∙ sym (all_is (map (λ (t : Term). t.uses) xs))) i)
      ∙ sym (called_is name (all_of (map (λ (t : Term). t.uses) xs)));
  count_rows = sym count_is;
  scalar = λ x y z h. sym (query_is x.uses (x.names 1));
  exists = λ x y z h. sym (query_is x.uses (x.names 1));
  table = λ name. tt;
  sub = λ x y z lateral h. tt;
  from = λ x y z alias columns h. tt;
  item = λ x y z alias h. tt;
  key = λ x y z descending h. tt;
  select = λ l₁ l₂ l₃ f₁ f₂ f₃ w₁ w₂ w₃ o₁ o₂ o₃ m₁ m₂ m₃ a b c d e. tt;
  recursive = λ name columns xs ys zs x y z h k. tt;
  query = λ x y z xs ys zs h k. tt;
}

pub aggregates_are : (e : Expr) → has_aggregate e ≡ (uses_of e).aggregate
unfolding uses_of
aggregates_are e = expr_related using_ meaning meaning relation steps e
