-- Of what an expression reads but the columns from outside, nothing depends on the selects around it.
use Rattle.std.proofs.Common.{ℕ, suc, Bool, true, false, List, [], ◌∷◌, ◌++◌, Option, Some, None}
use Rattle.std.specs.Prelude.{if◌then◌else◌, flat_map, nat_lt}
use Rattle.away_values.specs.declared.operators.ChainOp.{ChainOp}
use Rattle.away_trees.specs.declared.queries.Col.{Col}
use Rattle.away_trees.specs.declared.queries.Expr.{Expr}
use Rattle.away_trees.specs.Algebra.{expr_of}
use Rattle.sql_meaning.specs.Reads.{Read, Outer, Reads, reading, of_option}
use Rattle.sql_meaning.proofs.Related.{Alike, AlikeOption, AlikeLink, AlikeArm, Relation, IsKept, expr_related}
use Rattle.type_soundness.specs.Sorts.{Every}
use Rattle.type_soundness.proofs.Lists.{every_append, every_left, every_right}

module _ (P : Read → Type 0) (outer : (c : Col) → P (Outer c)) where
  abbrev Moves : Reads → Type 0
  Moves r = (d e : ℕ) → Every P (r d) → Every P (r e)

  abbrev relation : Relation reading reading reading
  relation = record {
    Exprs = λ x y z. Moves x;
    Sources = λ x y z. (columns : List (List ℕ)) → Moves (x columns);
    Froms = λ x y z. Moves x;
    Items = λ x y z. Moves x;
    Keys = λ x y z. Moves x;
    Queries = λ x y z. Moves x;
    Recursives = λ x y z. Unit {0};
    Selects = λ x y z. Moves x;
  }

  two : (a b : Reads) → Moves a → Moves b → Moves (λ d. a d ++ b d)
  two a b h k d e g = every_append P (a e) (b e) (h d e (every_left P (a d) (b d) g)) (k d e (every_right P (a d) (b d) g))

  flat : {X Y Z : Type 0} (R : X → Y → Z → Type 0) (run : X → Reads) → ((x : X) (y : Y) (z : Z) → R x y z → Moves (run x)) → (xs : List X) (ys : List Y) (zs : List Z) → Alike R xs ys zs → Moves (λ d. flat_map (λ x. run x d) xs)
  flat R run go [] [] [] r d e g = tt
  flat R run go (x ∷ xs) (y ∷ ys) (z ∷ zs) r d e g = two (run x) (λ d. flat_map (λ x. run x d) xs) (go x y z r.0) (flat R run go xs ys zs r.1) d e g
  flat R run go _ _ _ r d e g = absurd r

  all : (xs ys zs : List Reads) → Alike (λ x y z. Moves x) xs ys zs → Moves (λ d. flat_map (λ r. r d) xs)
  all xs ys zs r = flat (λ x y z. Moves x) (λ r. r) (λ x y z h. h) xs ys zs r

  maybe : (x y z : Option Reads) → AlikeOption (λ x y z. Moves x) x y z → Moves (λ d. of_option d x)
  maybe None None None r d e g = tt
  maybe (Some x) (Some y) (Some z) r d e g = r d e g
  maybe _ _ _ r d e g = absurd r

  further_in : (a : Reads) → Moves a → Moves (λ d. a (suc d))
  further_in a h d e g = h (suc d) (suc e) g

  either : (t : Bool) (c : Col) → Every P (if t then [] else Outer c ∷ [])
  either true c = tt
  either false c = (outer c, tt)

  steps : IsKept reading reading reading relation
  steps = record {
    no_expr = λ d e g. tt;
    no_query = λ d e g. tt;
    int = λ n d e g. tt;
    str = λ t d e g. tt;
    bool = λ v d e g. tt;
    null = λ d e g. tt;
    named = λ t d e g. tt;
    qualified = λ t u d e g. tt;
    slot = λ i d e g. g;
    column = λ c d e g. either (nat_lt c.level e) _;
    param = λ i t d e g. g;
    neg = λ x y z h. h;
    neg_small = λ x y z h. h;
    not = λ x y z h. h;
    is = λ x y z t v h. h;
    chain = λ x y z xs ys zs h r. two x (λ d. flat_map (λ (l : ChainOp × Reads). l.1 d) xs) h (flat (AlikeLink (λ x y z. Moves x)) (λ (l : ChainOp × Reads). l.1) (λ x y z r. r.2) xs ys zs r);
    compare = λ op x₁ x₂ y₁ y₂ z₁ z₂ h k. two x₁ x₂ h k;
    between = λ v x₁ x₂ x₃ y₁ y₂ y₃ z₁ z₂ z₃ h k m. two x₁ (λ d. x₂ d ++ x₃ d) h (two x₂ x₃ k m);
    one_of = λ v x y z xs ys zs h r. two x (λ d. flat_map (λ r. r d) xs) h (all xs ys zs r);
    cast = λ x y z t h. h;
    cases = λ xs ys zs x y z r h. two (λ d. flat_map (λ (a : Reads × Reads). a.0 d ++ a.1 d) xs) (λ d. of_option d x)
        (flat (AlikeArm (λ x y z. Moves x)) (λ (a : Reads × Reads) (d : ℕ). a.0 d ++ a.1 d) (λ x y z r. two x.0 x.1 r.0 r.1) xs ys zs r) (maybe x y z h);
    call = λ name xs ys zs r. all xs ys zs r;
    count_rows = λ d e g. tt;
    scalar = λ x y z h. h;
    exists = λ x y z h. h;
    table = λ name columns d e g. g;
    sub = λ x y z lateral h columns. h;
    from = λ x y z alias columns h. h columns;
    item = λ x y z alias h. h;
    key = λ x y z descending h. h;
    select = λ l₁ l₂ l₃ f₁ f₂ f₃ w₁ w₂ w₃ o₁ o₂ o₃ m₁ m₂ m₃ lr fr wr kr mr. further_in (λ d. flat_map (λ r. r d) l₁ ++ (flat_map (λ r. r d) f₁ ++ (of_option d w₁ ++ (flat_map (λ r. r d) o₁ ++ of_option d m₁))))
        (two (λ d. flat_map (λ r. r d) l₁) _ (all l₁ l₂ l₃ lr)
        (two (λ d. flat_map (λ r. r d) f₁) _ (all f₁ f₂ f₃ fr)
        (two (λ d. of_option d w₁) _ (maybe w₁ w₂ w₃ wr)
        (two (λ d. flat_map (λ r. r d) o₁) (λ d. of_option d m₁) (all o₁ o₂ o₃ kr) (maybe m₁ m₂ m₃ mr)))));
    recursive = λ name columns xs ys zs x y z r h. tt;
    query = λ x y z xs ys zs h r. all xs ys zs r;
  }

  pub any_depth : (e : Expr) (d f : ℕ) → Every P (expr_of reading e d) → Every P (expr_of reading e f)
  any_depth e = expr_related reading reading reading relation steps e
