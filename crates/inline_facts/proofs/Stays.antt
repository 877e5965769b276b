-- A tree in which no slot stands is the same whatever stands for slots.
use Rattle.std.proofs.Common.{◌≡◌, refl, sym, ap, ◌∙◌, ℕ, suc, Bool, true, false, ◌||◌, List, [], ◌∷◌, map, Option, Some, None, option_map}
use Rattle.std.specs.List.{list_any}
use Rattle.away_values.specs.declared.operators.ChainOp.{ChainOp}
use Rattle.away_trees.specs.Algebra.{expr_of}
use Rattle.away_trees.specs.declared.queries.Expr.{Expr}
use Rattle.away_trees.specs.declared.queries.Expr.TheVariants as expr
use Rattle.away_trees.specs.declared.queries.Expr.TheViews.{roll-FromItem, roll-Item, roll-Key, roll-Query, roll-Recursive, roll-Select}
use Rattle.away_trees.specs.declared.queries.Source.TheVariants as source
use Rattle.elaboration_law.specs.Rebuilding.{rebuilding}
use Rattle.elaboration_law.proofs.Rebuilt.{expr_same}
use Rattle.sql_meaning.proofs.Related.{Alike, AlikeOption, AlikeLink, AlikeArm, Relation, IsKept, expr_related}
use Rattle.inline_law.specs.Moved.{moving, same_column}
use Rattle.inline_facts.specs.Slots.{any, maybe, slotting}

pub left : (a c : Bool) → (a || c) ≡ false → a ≡ false
left true c h = cc
left false c h = refl

pub right : (a c : Bool) → (a || c) ≡ false → c ≡ false
right true c h = cc
right false c h = h

module _ (leaf : ℕ → ℕ → Expr) where
  -- without a slot it stays
  abbrev Stays : {A : Type 0} → (ℕ → A) → A → Bool → Type 0
  Stays y z b = b ≡ false → (d : ℕ) → y d ≡ z

  abbrev relation : Relation (moving leaf same_column) rebuilding slotting
  relation = record {
    Exprs = λ y z b. Stays y z b;
    Sources = λ y z b. Stays y z b;
    Froms = λ y z b. Stays y z b;
    Items = λ y z b. Stays y z b;
    Keys = λ y z b. Stays y z b;
    Queries = λ y z b. Stays y z b;
    Recursives = λ y z b. Stays y z b;
    Selects = λ y z b. Stays y z b;
  }

  all : {A : Type 0} (xs : List (ℕ → A)) (ys : List A) (zs : List Bool) → Alike (λ x y z. Stays x y z) xs ys zs → any zs ≡ false → (d : ℕ) → map (λ x. x d) xs ≡ ys
  all [] [] [] r h d = refl
  all (x ∷ xs) (y ∷ ys) (z ∷ zs) r h d = λ i. r.0 (left z (any zs) h) d i ∷ all xs ys zs r.1 (right z (any zs) h) d i
  all _ _ _ r h d = absurd r

  links : (xs : List (ChainOp × (ℕ → Expr))) (ys : List (ChainOp × Expr)) (zs : List (ChainOp × Bool)) → Alike (AlikeLink (λ x y z. Stays x y z)) xs ys zs → list_any (λ (l : ChainOp × Bool). l.1) zs ≡ false → (d : ℕ)
      → map {B = ChainOp × Expr} (λ (l : ChainOp × (ℕ → Expr)). (l.0, l.1 d)) xs ≡ ys
  links [] [] [] r h d = refl
  links (x ∷ xs) (y ∷ ys) (z ∷ zs) r h d = λ i. (sym_of r.0.0 i, r.0.2 (left z.1 (list_any (λ (l : ChainOp × Bool). l.1) zs) h) d i) ∷ links xs ys zs r.1 (right z.1 (list_any (λ (l : ChainOp × Bool). l.1) zs) h) d i
    where
      sym_of : {a b : ChainOp} → b ≡ a → a ≡ b
      sym_of e = sym e
  links _ _ _ r h d = absurd r

  arms : (xs : List ((ℕ → Expr) × (ℕ → Expr))) (ys : List (Expr × Expr)) (zs : List (Bool × Bool)) → Alike (AlikeArm (λ x y z. Stays x y z)) xs ys zs → list_any (λ (a : Bool × Bool). a.0 || a.1) zs ≡ false → (d : ℕ)
      → map {B = Expr × Expr} (λ (a : (ℕ → Expr) × (ℕ → Expr)). (a.0 d, a.1 d)) xs ≡ ys
  arms [] [] [] r h d = refl
  arms (x ∷ xs) (y ∷ ys) (z ∷ zs) r h d =
      let rest = list_any (λ (a : Bool × Bool). a.0 || a.1) zs in
      let own = left (z.0 || z.1) rest h in
      (λ i. (r.0.0 (left z.0 z.1 own) d i, r.0.1 (right z.0 z.1 own) d i) ∷ arms xs ys zs r.1 (right (z.0 || z.1) rest h) d i)
  arms _ _ _ r h d = absurd r

  option : {A : Type 0} (x : Option (ℕ → A)) (y : Option A) (z : Option Bool) → AlikeOption (λ x y z. Stays x y z) x y z → maybe z ≡ false → (d : ℕ) → option_map (λ x. x d) x ≡ y
  option None None None r h d = refl
  option (Some x) (Some y) (Some z) r h d = ap Some (r h d)
  option _ _ _ r h d = absurd r

  true_is : {A : Type 0} → true ≡ false → A
  true_is h = absurd (no h)
    where
      no : true ≡ false → ⊥
      no e = cc

  steps : IsKept (moving leaf same_column) rebuilding slotting relation
  steps = record {
    no_expr = λ h d. refl;
    no_query = λ h d. refl;
    int = λ n h d. refl;
    str = λ t h d. refl;
    bool = λ v h d. refl;
    null = λ h d. refl;
    named = λ t h d. refl;
    qualified = λ t u h d. refl;
    slot = λ i h d. true_is h;
    column = λ c h d. refl;
    param = λ i t h d. refl;
    neg = λ x y z k h d. ap (λ e. expr.Neg e) (k h d);
    neg_small = λ x y z k h d. ap (λ e. expr.NegSmall e) (k h d);
    not = λ x y z k h d. ap (λ e. expr.Not e) (k h d);
    is = λ x y z t v k h d. ap (λ e. expr.Is e t v) (k h d);
    chain = λ x y z xs ys zs k r h d i. expr.Chain (k (left z _ h) d i) (links xs ys zs r (right z _ h) d i);
    compare = λ op x₁ x₂ y₁ y₂ z₁ z₂ k m h d i. expr.Compare op (k (left z₁ z₂ h) d i) (m (right z₁ z₂ h) d i);
    between = λ v x₁ x₂ x₃ y₁ y₂ y₃ z₁ z₂ z₃ k m n h d i.
        expr.Between v (k (left z₁ (z₂ || z₃) h) d i) (m (left z₂ z₃ (right z₁ (z₂ || z₃) h)) d i) (n (right z₂ z₃ (right z₁ (z₂ || z₃) h)) d i);
    one_of = λ v x y z xs ys zs k r h d i. expr.OneOf v (k (left z (any zs) h) d i) (all xs ys zs r (right z (any zs) h) d i);
    cast = λ x y z t k h d. ap (λ e. expr.Cast e t) (k h d);
    cases = λ xs ys zs x y z r k h d i. expr.Cases (arms xs ys zs r (left _ (maybe z) h) d i) (option x y z k (right (list_any (λ (a : Bool × Bool). a.0 || a.1) zs) (maybe z) h) d i);
    call = λ name xs ys zs r h d. ap (λ es. expr.Call name es) (all xs ys zs r h d);
    count_rows = λ h d. refl;
    scalar = λ x y z k h d. ap (λ q. expr.Scalar q) (k h d);
    exists = λ x y z k h d. ap (λ q. expr.Exists q) (k h d);
    table = λ name h d. refl;
    sub = λ x y z lateral k h d. ap (λ q. source.Sub q lateral) (k h d);
    from = λ x y z alias columns k h d. ap (λ s. roll-FromItem (record { source = s; alias = alias; columns = columns })) (k h d);
    item = λ x y z alias k h d. ap (λ e. roll-Item (record { expr = e; alias = alias })) (k h d);
    key = λ x y z descending k h d. ap (λ e. roll-Key (record { expr = e; descending = descending })) (k h d);
    select = λ l₁ l₂ l₃ f₁ f₂ f₃ w₁ w₂ w₃ o₁ o₂ o₃ m₁ m₂ m₃ lr fr wr kr mr h d.
        let a = right (any l₃) _ h in
        let b = right (any f₃) _ a in
        let c = right (maybe w₃) _ b in
        (λ i. roll-Select (record {
          list = all l₁ l₂ l₃ lr (left (any l₃) _ h) (suc d) i;
          from = all f₁ f₂ f₃ fr (left (any f₃) _ a) (suc d) i;
          filter = option w₁ w₂ w₃ wr (left (maybe w₃) _ b) (suc d) i;
          order = all o₁ o₂ o₃ kr (left (any o₃) (maybe m₃) c) (suc d) i;
          limit = option m₁ m₂ m₃ mr (right (any o₃) (maybe m₃) c) (suc d) i;
        }));
    recursive = λ name columns xs ys zs x y z r k h d i. roll-Recursive (record { name = name; columns = columns; first = all xs ys zs r (left (any zs) z h) d i; second = k (right (any zs) z h) d i });
    query = λ x y z xs ys zs k r h d i. roll-Query (record { recursive = option x y z k (left (maybe z) (any zs) h) d i; selects = all xs ys zs r (right (maybe z) (any zs) h) d i });
  }

  pub stays : (e : Expr) → expr_of slotting e ≡ false → (d : ℕ) → expr_of (moving leaf same_column) e d ≡ e
  stays e h d = expr_related (moving leaf same_column) rebuilding slotting relation steps e h d ∙ expr_same e
