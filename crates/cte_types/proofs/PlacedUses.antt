-- A placed expression uses aggregates, subqueries and columns as the expression does, where its slots are columns further out.
use Rattle.std.proofs.Common.{◌≡◌, refl, ap, sym, subst, ℕ, zero, suc, ◌+◌, ◌≤◌, Bool, true, false, ◌||◌, List, [], ◌∷◌, map, Option, Some, None, option_map, arith}
use Rattle.std.specs.Prelude.{◌==◌, nat_lt}
use Rattle.std.specs.List.{list_any}
use Rattle.std.proofs.lemmas.Bool.{eqb-true, ltb-false}
use Rattle.away_values.specs.declared.types.Ty.TheVariants as ty
use Rattle.away_values.specs.Operators.{literal_type}
use Rattle.away_values.specs.declared.operators.ChainOp.{ChainOp}
use Rattle.away_trees.specs.declared.queries.Col.{Col}
use Rattle.away_trees.specs.declared.queries.Expr.{Expr}
use Rattle.away_trees.specs.declared.queries.Expr.TheVariants as expr
use Rattle.away_trees.specs.declared.queries.Expr.TheOpen as ex
use Rattle.away_trees.specs.declared.queries.Source.{Source}
use Rattle.away_trees.specs.declared.queries.FromItem.{FromItem}
use Rattle.away_trees.specs.declared.queries.Item.{Item}
use Rattle.away_trees.specs.declared.queries.Key.{Key}
use Rattle.away_trees.specs.declared.queries.Recursive.{Recursive}
use Rattle.away_trees.specs.declared.queries.Select.{Select}
use Rattle.away_trees.specs.declared.queries.Query.{Query}
use Rattle.away_trees.specs.Algebra.{expr_of, item_of, key_of, source_of, from_of, select_of, recursive_of, query_of}
use Rattle.away_trees.proofs.Equations as eq
use Rattle.away_typing.specs.Aggregates.{using_, Term, bare, unused, either, or_, with_, all, all_of, maybe, of_slot, of_column, term, called, of_query, apart, is_some_of, limit_of, select_uses}
use Rattle.away_typing.specs.Aggregates as uses
use Rattle.sql_meaning.specs.Placed.{Deep, replacing, column_of, with_cast, placed}
use Rattle.sql_meaning.proofs.Lists.{Zipped, ZippedOption}
use Rattle.sql_meaning.proofs.Related.{Alike, AlikeOption, AlikeLink, AlikeArm, Relation, IsKept, expr_related}
use Rattle.sql_meaning.proofs.Uses.{under, under_option}

-- the same uses, and the same columns of the selects up to so many levels outward
pub record SameTo (d : ℕ) (x y : Term) : Type 0 where
  pub uses : y.uses ≡ x.uses
  pub names : (l : ℕ) → l ≤ d → y.names l ≡ x.names l

itself : (d : ℕ) (x : Term) → SameTo d x x
itself d x = record { uses = refl; names = λ l h. refl }

-- ---- parts together

with_same : (d : ℕ) (a b x y : Term) → SameTo d a x → SameTo d b y → SameTo d (with_ a b) (with_ x y)
with_same d a b x y h k = record { uses = λ i. either (h.uses i) (k.uses i); names = λ l le i. or_ (h.names l le i) (k.names l le i) }

uses_same : (d : ℕ) (xs ys : List Term) → Zipped (SameTo d) xs ys → map (λ (t : Term). t.uses) ys ≡ map (λ (t : Term). t.uses) xs
uses_same d [] [] h = refl
uses_same d (x ∷ xs) (y ∷ ys) h = λ i. h.0.uses i ∷ uses_same d xs ys h.1 i
uses_same d _ _ h = absurd h

names_same : (d l : ℕ) → l ≤ d → (xs ys : List Term) → Zipped (SameTo d) xs ys → list_any (λ (t : Term). t.names l) ys ≡ list_any (λ (t : Term). t.names l) xs
names_same d l le [] [] h = refl
names_same d l le (x ∷ xs) (y ∷ ys) h = λ i. h.0.names l le i || names_same d l le xs ys h.1 i
names_same d l le _ _ h = absurd h

all_same : (d : ℕ) (xs ys : List Term) → Zipped (SameTo d) xs ys → SameTo d (all xs) (all ys)
all_same d xs ys h = record { uses = ap all_of (uses_same d xs ys h); names = λ l le. names_same d l le xs ys h }

maybe_same : (d : ℕ) (x y : Option Term) → ZippedOption (SameTo d) x y → SameTo d (maybe x) (maybe y)
maybe_same d None None h = itself d (bare unused)
maybe_same d (Some x) (Some y) h = h
maybe_same d _ _ h = absurd h

called_same : (d : ℕ) (name : List ℕ) (xs ys : List Term) → Zipped (SameTo d) xs ys → SameTo d (term (ex.Call name xs)) (term (ex.Call name ys))
called_same d name xs ys h = record { uses = ap (λ us. called name (all_of us)) (uses_same d xs ys h); names = λ l le. names_same d l le xs ys h }

links_same : (d : ℕ) (xs ys : List (ChainOp × Term)) → Zipped (λ (x y : ChainOp × Term). SameTo d x.1 y.1) xs ys
    → Zipped (SameTo d) (map (λ (l : ChainOp × Term). l.1) xs) (map (λ (l : ChainOp × Term). l.1) ys)
links_same d [] [] h = tt
links_same d (x ∷ xs) (y ∷ ys) h = (h.0, links_same d xs ys h.1)
links_same d _ _ h = absurd h

arms_same : (d : ℕ) (xs ys : List (Term × Term)) → Zipped (λ (x y : Term × Term). SameTo d x.0 y.0 × SameTo d x.1 y.1) xs ys
    → Zipped (SameTo d) (map (λ (a : Term × Term). with_ a.0 a.1) xs) (map (λ (a : Term × Term). with_ a.0 a.1) ys)
arms_same d [] [] h = tt
arms_same d (x ∷ xs) (y ∷ ys) h = (with_same d x.0 x.1 y.0 y.1 h.0.0 h.0.1, arms_same d xs ys h.1)
arms_same d _ _ h = absurd h

keys_there : (d : ℕ) (xs ys : List Term) → Zipped (SameTo d) xs ys → is_some_of ys ≡ is_some_of xs
keys_there d [] [] h = refl
keys_there d (x ∷ xs) (y ∷ ys) h = refl
keys_there d _ _ h = absurd h

-- a subquery in an expression or in FROM
query_same : (d : ℕ) (x y : Term) → SameTo (suc d) x y → SameTo d (term (ex.Scalar x)) (term (ex.Scalar y))
query_same d x y h = record { uses = λ i. of_query (h.uses i) (h.names 1 (omega arith) i); names = λ l le. h.names (suc l) (omega (arith, le)) }

sub_same : (d : ℕ) (v : Bool) (x y : Term) → SameTo (suc d) x y → SameTo d (uses.origin (ex.Sub x v)) (uses.origin (ex.Sub y v))
sub_same d v x y h = record { uses = ap apart h.uses; names = λ l le. h.names (suc l) (omega (arith, le)) }

-- a select by its parts
listing_same : (d : ℕ) (l k f g : List Term) (w v : Option Term) (o n : List Term) (m j : Option Term)
    → Zipped (SameTo d) l k → Zipped (SameTo d) f g → ZippedOption (SameTo d) w v → Zipped (SameTo d) o n → ZippedOption (SameTo d) m j
    → SameTo d (uses.listing (record { list = l; from = f; filter = w; order = o; limit = m }))
    (uses.listing (record { list = k; from = g; filter = v; order = n; limit = j }))
listing_same d l k f g w v o n m j lr fr wr or mr =
    let a = all_same d l k lr in
    let b = all_same d f g fr in
    let c = maybe_same d w v wr in
    let e = all_same d o n or in
    let h = maybe_same d m j mr in
    record {
      uses = λ i. select_uses (a.uses i) (b.uses i) (c.uses i) (e.uses i) (h.uses i) (keys_there d o n or i) (h.names 0 (omega arith) i);
      names = λ x le i. or_ (a.names x le i) (or_ (b.names x le i) (or_ (c.names x le i) (or_ (e.names x le i) (h.names x le i))));
    }

whole_same : (d : ℕ) (r s : Option Term) (xs ys : List Term) → ZippedOption (SameTo d) r s → Zipped (SameTo d) xs ys
    → SameTo d (uses.whole (record { recursive = r; selects = xs })) (uses.whole (record { recursive = s; selects = ys }))
whole_same d r s xs ys h k =
    let a = maybe_same d r s h in
    let b = all_same d xs ys k in
    record { uses = λ i. apart (either (a.uses i) (b.uses i)); names = λ l le i. or_ (a.names l le i) (b.names l le i) }

terms_same : (d : ℕ) (name : List ℕ) (columns : List (List ℕ)) (xs ys : List Term) (x y : Term) → Zipped (SameTo d) xs ys → SameTo d x y
    → SameTo d (uses.terms (record { name = name; columns = columns; first = xs; second = x }))
    (uses.terms (record { name = name; columns = columns; first = ys; second = y }))
terms_same d name columns xs ys x y h k =
    let a = all_same d xs ys h in
    record { uses = λ i. apart (either (a.uses i) (k.uses i)); names = λ l le i. or_ (a.names l le i) (k.names l le i) }

-- ---- a slot, and a column outside the expression

not_level : (k l : ℕ) → l ≤ k → (suc k == l) ≡ false
not_level k l le = by (suc k == l) refl
  where
    by : (b : Bool) → (suc k == l) ≡ b → b ≡ false
    by true e = let same : suc k ≡ l = eqb-true (suc k) l e in absurd (omega (arith, same, le))
    by false e = refl

not_here : (k : ℕ) → (suc k == 0) ≡ false
not_here k = not_level k 0 (omega arith)

further_out : (k : ℕ) → nat_lt 0 (suc k) ≡ true
further_out k = by (nat_lt 0 (suc k)) refl
  where
    by : (b : Bool) → nat_lt 0 (suc k) ≡ b → b ≡ true
    by true e = refl
    by false e = let le : suc k ≤ 0 = ltb-false 0 (suc k) e in absurd (omega (arith, le))

outer_uses : (k : ℕ) → of_column (suc k) ≡ of_slot
unfolding of_column of_slot unused
outer_uses k = λ i. record unused { own = not_here k i; foreign = further_out k i; free = not_here k i }

slot_same : (d k level : ℕ) (item column : ℕ) → level ≡ suc k → d ≤ k → SameTo d (bare of_slot)
    (term (ex.Column (record { level = level; item = item; column = column })))
slot_same d k level item column e le =
    subst (λ (n : ℕ). SameTo d (bare of_slot) (term (ex.Column (record { level = n; item = item; column = column })))) (sym e)
    (record { uses = outer_uses k; names = λ l h. not_level k l (omega (arith, h, le)) })

no_query_same : (d : ℕ) → SameTo d using_.no_query (uses.whole (record { recursive = None; selects = [] }))
unfolding apart unused either or_
no_query_same d = record { uses = refl; names = λ l h. refl }

-- ---- all nodes

module _ (ref : ℕ → Col) (outer : (i : ℕ) → 1 ≤ (ref i).level) where
  abbrev E : Expr → Term
  E e = expr_of using_ e

  abbrev Exprs : Term → Term → Deep Expr → Type 0
  Exprs x u z = (d : ℕ) → SameTo d x (E (z d))

  abbrev Sources : Term → Term → Deep Source → Type 0
  Sources x u z = (d : ℕ) → SameTo d x (source_of using_ (z d))

  abbrev Froms : Term → Term → Deep FromItem → Type 0
  Froms x u z = (d : ℕ) → SameTo d x (from_of using_ (z d))

  abbrev Items : Term → Term → Deep Item → Type 0
  Items x u z = (d : ℕ) → SameTo d x (item_of using_ (z d))

  abbrev Keys : Term → Term → Deep Key → Type 0
  Keys x u z = (d : ℕ) → SameTo d x (key_of using_ (z d))

  -- its parts stand one select further in
  abbrev Selects : Term → Term → Deep Select → Type 0
  Selects x u z = (d : ℕ) → SameTo (suc d) x (select_of using_ (z d))

  abbrev Recursives : Term → Term → Deep Recursive → Type 0
  Recursives x u z = (d : ℕ) → SameTo (suc d) x (recursive_of using_ (z d))

  abbrev Queries : Term → Term → Deep Query → Type 0
  Queries x u z = (d : ℕ) → SameTo (suc d) x (query_of using_ (z d))

  abbrev relation : Relation using_ using_ (replacing (column_of ref) with_cast)
  relation = record {
    Exprs = Exprs;
    Sources = Sources;
    Froms = Froms;
    Items = Items;
    Keys = Keys;
    Queries = Queries;
    Recursives = Recursives;
    Selects = Selects;
  }

  -- a node, by the equation of what it uses
  node : (d : ℕ) (x f g : Term) → f ≡ g → SameTo d x g → SameTo d x f
  node d x f g e h = subst (SameTo d x) (sym e) h

  zip_of : {X U Z Y : Type 0} (R : X → U → Z → Type 0) (S : X → Y → Type 0) (at : Z → Y) → ((x : X) (u : U) (z : Z) → R x u z → S x (at z))
      → (xs : List X) (us : List U) (zs : List Z)
      → Alike R xs us zs → Zipped (λ x z. S x (at z)) xs zs
  zip_of R S at go [] [] [] r = tt
  zip_of R S at go (x ∷ xs) (u ∷ us) (z ∷ zs) r = (go x u z r.0, zip_of R S at go xs us zs r.1)
  zip_of R S at go _ _ _ r = absurd r

  opt_of : {X U Z Y : Type 0} (R : X → U → Z → Type 0) (S : X → Y → Type 0) (at : Z → Y) → ((x : X) (u : U) (z : Z) → R x u z → S x (at z))
      → (x : Option X) (u : Option U) (z : Option Z)
      → AlikeOption R x u z → ZippedOption (λ x z. S x (at z)) x z
  opt_of R S at go None None None r = tt
  opt_of R S at go (Some x) (Some u) (Some z) r = go x u z r
  opt_of R S at go _ _ _ r = absurd r

  -- related lists, where each tree is taken inside so many selects
  lists : {X Z A : Type 0} (R : X → X → Deep Z → Type 0) (e : ℕ) (S : X → A → Type 0) (k : Z → A) → ((x u : X) (z : Deep Z) → R x u z → S x (k (z e)))
      → (xs us : List X) (zs : List (Deep Z)) → Alike R xs us zs → Zipped S xs (map k (map (λ (z : Deep Z). z e) zs))
  lists {X} {Z} {A} R e S k go xs us zs r = under S (λ (z : Deep Z). z e) k xs zs (zip_of R S (λ (z : Deep Z). k (z e)) go xs us zs r)

  options : {X Z A : Type 0} (R : X → X → Deep Z → Type 0) (e : ℕ) (S : X → A → Type 0) (k : Z → A) → ((x u : X) (z : Deep Z) → R x u z → S x (k (z e)))
      → (x u : Option X) (z : Option (Deep Z)) → AlikeOption R x u z → ZippedOption S x (option_map k (option_map (λ (z : Deep Z). z e) z))
  options {X} {Z} {A} R e S k go x u z r = under_option S (λ (z : Deep Z). z e) k x z (opt_of R S (λ (z : Deep Z). k (z e)) go x u z r)

  abbrev link_at : ℕ → ChainOp × Deep Expr → ChainOp × Expr
  link_at d l = (l.0, l.1 d)

  abbrev arm_at : ℕ → Deep Expr × Deep Expr → Expr × Expr
  arm_at d a = (a.0 d, a.1 d)

  module _ (d : ℕ) where
    exprs : (xs us : List Term) (zs : List (Deep Expr)) → Alike Exprs xs us zs → Zipped (SameTo d) xs (map (λ e. E e) (map (λ z. z d) zs))
    exprs = lists Exprs d (SameTo d) (λ e. E e) (λ x u z r. r d)

    option : (x u : Option Term) (z : Option (Deep Expr)) → AlikeOption Exprs x u z → ZippedOption (SameTo d) x
        (option_map (λ e. E e) (option_map (λ z. z d) z))
    option = options Exprs d (SameTo d) (λ e. E e) (λ x u z r. r d)

    links : (xs us : List (ChainOp × Term)) (zs : List (ChainOp × Deep Expr)) → Alike (AlikeLink Exprs) xs us zs
        → Zipped (λ (x y : ChainOp × Term). SameTo d x.1 y.1) xs (map (λ l. eq.link_of using_ l) (map (λ l. link_at d l) zs))
    links xs us zs r =
        under (λ (x y : ChainOp × Term). SameTo d x.1 y.1) (λ l. link_at d l) (λ l. eq.link_of using_ l) xs zs
        (zip_of (AlikeLink Exprs) (λ (x y : ChainOp × Term). SameTo d x.1 y.1) (λ l. eq.link_of using_ (link_at d l)) (λ x u z r. r.2 d) xs us zs r)

    arms : (xs us : List (Term × Term)) (zs : List (Deep Expr × Deep Expr)) → Alike (AlikeArm Exprs) xs us zs
        → Zipped (λ (x y : Term × Term). SameTo d x.0 y.0 × SameTo d x.1 y.1) xs (map (λ a. eq.arm_of using_ a) (map (λ a. arm_at d a) zs))
    arms xs us zs r =
        under (λ (x y : Term × Term). SameTo d x.0 y.0 × SameTo d x.1 y.1) (λ a. arm_at d a) (λ a. eq.arm_of using_ a) xs zs
        (zip_of (AlikeArm Exprs) (λ (x y : Term × Term). SameTo d x.0 y.0 × SameTo d x.1 y.1) (λ a. eq.arm_of using_ (arm_at d a)) (λ x u z r. (r.0 d, r.1 d))
        xs us zs r)

  -- ---- all steps

  steps : IsKept using_ using_ (replacing (column_of ref) with_cast) relation
  steps = record {
    no_expr = λ d. itself d (bare unused);
    no_query = λ d. node (suc d) using_.no_query _ _ (eq.of_query using_ []) (no_query_same (suc d));
    int = λ n d. node d (bare unused) _ _ (eq.of_cast using_ (expr.Int n) (literal_type n)) (itself d (bare unused));
    str = λ t d. node d (bare unused) _ _ (eq.of_cast using_ (expr.Str t) ty.Text) (itself d (bare unused));
    bool = λ v d. node d (bare unused) _ _ (eq.of_cast using_ (expr.Bool v) ty.Boolean) (itself d (bare unused));
    null = λ d. itself d (bare unused);
    named = λ n d. itself d (bare unused);
    qualified = λ a n d. itself d (bare unused);
    slot = λ i d.
        let there : 1 ≤ (ref i).level = outer i in
        slot_same d (less (ref i).level + d) ((ref i).level + d) (ref i).item (ref i).column (more d (ref i).level there) (omega arith);
    column = λ c d. itself d (term (ex.Column c));
    param = λ i t d. itself d (bare unused);
    neg = λ x u z k d. node d x _ _ (eq.of_neg using_ (z d)) (k d);
    neg_small = λ x u z k d. node d x _ _ (eq.of_negsmall using_ (z d)) (k d);
    not = λ x u z k d. node d x _ _ (eq.of_not using_ (z d)) (k d);
    is = λ x u z t v k d. node d x _ _ (eq.of_is using_ (z d) t v) (k d);
    chain = λ x u z xs us zs k r d.
        node d (term (ex.Chain x xs)) _ _ (eq.of_chain using_ (z d) (map (λ l. link_at d l) zs))
        (with_same d x (all (map (λ (l : ChainOp × Term). l.1) xs)) (E (z d)) _ (k d) (all_same d _ _ (links_same d xs _ (links d xs us zs r))));
    compare = λ op x₁ x₂ u₁ u₂ z₁ z₂ k₁ k₂ d.
        node d (term (ex.Compare op x₁ x₂)) _ _ (eq.of_compare using_ op (z₁ d) (z₂ d)) (with_same d x₁ x₂ (E (z₁ d)) (E (z₂ d)) (k₁ d) (k₂ d));
    between = λ v x₁ x₂ x₃ u₁ u₂ u₃ z₁ z₂ z₃ k₁ k₂ k₃ d.
        node d (term (ex.Between v x₁ x₂ x₃)) _ _ (eq.of_between using_ v (z₁ d) (z₂ d) (z₃ d))
        (with_same d x₁ (with_ x₂ x₃) (E (z₁ d)) (with_ (E (z₂ d)) (E (z₃ d))) (k₁ d) (with_same d x₂ x₃ (E (z₂ d)) (E (z₃ d)) (k₂ d) (k₃ d)));
    one_of = λ v x u z xs us zs k r d.
        node d (term (ex.OneOf v x xs)) _ _ (eq.of_oneof using_ v (z d) (map (λ z. z d) zs))
        (with_same d x (all xs) (E (z d)) _ (k d) (all_same d xs _ (exprs d xs us zs r)));
    cast = λ x u z t k d. node d x _ _ (eq.of_cast using_ (z d) t) (k d);
    cases = λ xs us zs x u z r k d.
        node d (term (ex.Cases xs x)) _ _ (eq.of_cases using_ (map (λ a. arm_at d a) zs) (option_map (λ z. z d) z))
        (with_same d (all (map (λ (a : Term × Term). with_ a.0 a.1) xs)) (maybe x) _ _ (all_same d _ _ (arms_same d xs _ (arms d xs us zs r)))
        (maybe_same d x _ (option d x u z k)));
    call = λ name xs us zs r d.
        node d (term (ex.Call name xs)) _ _ (eq.of_call using_ name (map (λ z. z d) zs)) (called_same d name xs _ (exprs d xs us zs r));
    count_rows = λ d. itself d (term ex.CountRows);
    scalar = λ x u z k d. node d (term (ex.Scalar x)) _ _ (eq.of_scalar using_ (z d)) (query_same d x (query_of using_ (z d)) (k d));
    exists = λ x u z k d. node d (term (ex.Exists x)) _ _ (eq.of_exists using_ (z d)) (query_same d x (query_of using_ (z d)) (k d));
    table = λ name d. itself d (bare unused);
    sub = λ x u z v k d. node d (uses.origin (ex.Sub x v)) _ _ (eq.of_sub using_ (z d) v) (sub_same d v x (query_of using_ (z d)) (k d));
    from = λ x u z alias columns k. k;
    item = λ x u z alias k. k;
    key = λ x u z descending k. k;
    select = λ l₁ l₂ l₃ f₁ f₂ f₃ w₁ w₂ w₃ o₁ o₂ o₃ m₁ m₂ m₃ lr fr wr kr mr d.
        node (suc d) _ _ _ (eq.of_select using_ (map (λ z. z (suc d)) l₃) (map (λ z. z (suc d)) f₃) (option_map (λ z. z (suc d)) w₃) (map (λ z. z (suc d)) o₃)
        (option_map (λ z. z (suc d)) m₃))
        (listing_same (suc d) l₁ _ f₁ _ w₁ _ o₁ _ m₁ _
        (lists Items (suc d) (SameTo (suc d)) (λ i. item_of using_ i) (λ x u z r. r (suc d)) l₁ l₂ l₃ lr)
        (lists Froms (suc d) (SameTo (suc d)) (λ f. from_of using_ f) (λ x u z r. r (suc d)) f₁ f₂ f₃ fr) (option (suc d) w₁ w₂ w₃ wr)
        (lists Keys (suc d) (SameTo (suc d)) (λ k. key_of using_ k) (λ x u z r. r (suc d)) o₁ o₂ o₃ kr) (option (suc d) m₁ m₂ m₃ mr));
    recursive = λ name columns xs us zs x u z r k d.
        node (suc d) _ _ _ (eq.of_recursive using_ name columns (map (λ z. z d) zs) (z d))
        (terms_same (suc d) name columns xs _ x _ (lists Selects d (SameTo (suc d)) (λ s. select_of using_ s) (λ x u z r. r d) xs us zs r) (k d));
    query = λ x u z xs us zs k r d.
        node (suc d) _ _ _ (eq.query_roll using_ (option_map (λ z. z d) z) (map (λ z. z d) zs))
        (whole_same (suc d) x _ xs _ (options Recursives d (SameTo (suc d)) (λ s. recursive_of using_ s) (λ x u z r. r d) x u z k)
        (lists Selects d (SameTo (suc d)) (λ s. select_of using_ s) (λ x u z r. r d) xs us zs r));
  }
    where
      less : ℕ → ℕ
      less zero = zero
      less (suc k) = k

      more : (d level : ℕ) → 1 ≤ level → level + d ≡ suc (less level + d)
      more d zero h = absurd (omega (arith, h))
      more d (suc k) h = omega arith

  pub placed_uses : (e : Expr) → (E (placed ref e)).uses ≡ (E e).uses
  placed_uses e = (expr_related using_ using_ (replacing (column_of ref) with_cast) relation steps e 0).uses
