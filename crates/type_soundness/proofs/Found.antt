-- Where a query's parameters have one type each, the arguments that fit them fit each parameter where it stands.
use Rattle.std.proofs.Common.{◌≡◌, refl, sym, subst, ℕ, Bool, true, false, not, ◌||◌, List, [], ◌∷◌, ◌++◌, fold, Option, Some, None}
use Rattle.std.specs.Prelude.{nat_lt, ◌==◌, if◌then◌else◌}
use Rattle.std.specs.List.{flat_map}
use Rattle.std.proofs.lemmas.Bool.{eqb-true}
use Rattle.away_values.specs.declared.types.Ty.{Ty}
use Rattle.away_values.specs.declared.values.Value.{Value}
use Rattle.away_values.specs.declared.operators.ChainOp.{ChainOp}
use Rattle.away_trees.specs.declared.queries.Query.{Query}
use Rattle.away_trees.specs.Algebra.{query_of}
use Rattle.away_typing.specs.declared.params.Params.{Params}
use Rattle.away_typing.specs.Kinds.{same}
use Rattle.away_typing.specs.Parameters as found
use Rattle.away_typing.specs.Parameters.{Found, finding, inserted, clashes, taken}
use Rattle.sql_meaning.specs.Context.{argument}
use Rattle.sql_meaning.proofs.Related.{Alike, AlikeOption, AlikeLink, AlikeArm, Relation, IsKept, query_related}
use Rattle.type_soundness.specs.Arguments as here
use Rattle.type_soundness.specs.Arguments.{Supplied, standing}
use Rattle.type_soundness.specs.Sorts.{IsOf, Every}
use Rattle.type_soundness.proofs.KindRules.{same_is}
use Rattle.type_soundness.proofs.Lists.{every_append}

module _ (args : List Value) where
  abbrev One : ℕ × Ty → Type 0
  One x = IsOf x.1 (argument args x.0)

  -- one type each, and arguments of these types
  abbrev pub Kept : Params → Type 0
  Kept q = (q.clash ≡ false) × Supplied args q.list

  same_number : (x y : ℕ × Ty) → (x.0 == y.0) ≡ true → not (same x.1 y.1) ≡ false → One y → One x
  same_number x y e s h = by (same x.1 y.1) refl s
    where
      by : (t : Bool) → same x.1 y.1 ≡ t → not t ≡ false → One x
      by true k s = subst (λ i. IsOf x.1 (argument args i)) (sym (eqb-true x.0 y.0 e)) (subst (λ t. IsOf t (argument args y.0)) (sym (same_is x.1 y.1 k)) h)
      by false k s = cc

  inserted_step : (x y : ℕ × Ty) (ys rest : List (ℕ × Ty)) (b c : Bool) → (x.0 == y.0) ≡ c → ((if c then not (same x.1 y.1) else clashes x ys) ≡ false) → (Every One rest → clashes x ys ≡ false → One x × Every One ys) → Every One (if b then x ∷ y ∷ ys else (if c then y ∷ ys else y ∷ rest)) → One x × Every One (y ∷ ys)
  inserted_step x y ys rest true c e k more h = (h.0, h.1)
  inserted_step x y ys rest false true e k more h = (same_number x y e k h.0, h)
  inserted_step x y ys rest false false e k more h = let both = more h.1 k in (both.0, (h.0, both.1))

  inserted_parts : (x : ℕ × Ty) (ys : List (ℕ × Ty)) → Every One (inserted x ys) → clashes x ys ≡ false → One x × Every One ys
  inserted_parts x [] h k = (h.0, tt)
  inserted_parts x (y ∷ ys) h k = inserted_step x y ys (inserted x ys) (nat_lt x.0 y.0) (x.0 == y.0) refl k (λ h k. inserted_parts x ys h k) h

  neither : (a b : Bool) → (a || b) ≡ false → (a ≡ false) × (b ≡ false)
  neither true b h = cc
  neither false b h = (refl, h)

  taken_parts : (q : Params) (x : ℕ × Ty) → Kept (taken q x) → Kept q × One x
  unfolding taken
  taken_parts q x h =
      let both = neither q.clash (clashes x q.list) h.0 in
      let parts = inserted_parts x q.list h.1 both.1 in
      ((both.0, parts.1), parts.0)

  -- ---- all nodes

  abbrev Parts : Found → here.Params → Type 0
  Parts f us = (q : Params) → Kept (f q) → Kept q × Supplied args us

  abbrev relation : Relation finding standing standing
  relation = record {
    Exprs = λ f u z. Parts f u;
    Sources = λ f u z. Parts f u;
    Froms = λ f u z. Parts f u;
    Items = λ f u z. Parts f u;
    Keys = λ f u z. Parts f u;
    Queries = λ f u z. Parts f u;
    Recursives = λ f u z. Parts f u;
    Selects = λ f u z. Parts f u;
  }

  folded : {X U Z : Type 0} (R : X → U → Z → Type 0) (run : X → Found) (part : U → here.Params) → ((x : X) (u : U) (z : Z) → R x u z → Parts (run x) (part u)) → (xs : List X) (us : List U) (zs : List Z) → Alike R xs us zs → (q : Params) → Kept (fold (λ q x. run x q) q xs) → Kept q × Supplied args (flat_map part us)
  folded R run part go [] [] [] r q h = (h, tt)
  folded R run part go (x ∷ xs) (u ∷ us) (z ∷ zs) r q h =
      let rest = folded R run part go xs us zs r.1 (run x q) h in
      let first = go x u z r.0 q rest.0 in
      (first.0, every_append One (part u) (flat_map part us) first.1 rest.1)
  folded R run part go _ _ _ r q h = absurd r

  each_of : (xs : List Found) (us zs : List here.Params) → Alike (λ f u z. Parts f u) xs us zs → (q : Params) → Kept (found.each xs q) → Kept q × Supplied args (here.all us)
  each_of xs us zs r q h = folded (λ f u z. Parts f u) (λ f. f) (λ u. u) (λ f u z g. g) xs us zs r q h

  maybe_of : (x : Option Found) (u z : Option here.Params) → AlikeOption (λ f u z. Parts f u) x u z → (q : Params) → Kept (found.maybe x q) → Kept q × Supplied args (here.maybe u)
  maybe_of None None None r q h = (h, tt)
  maybe_of (Some x) (Some u) (Some z) r q h = r q h
  maybe_of _ _ _ r q h = absurd r

  two : (f g : Found) (us vs : here.Params) → Parts f us → Parts g vs → Parts (λ q. g (f q)) (us ++ vs)
  two f g us vs h k q c =
      let second = k (f q) c in
      let first = h q second.0 in
      (first.0, every_append One us vs first.1 second.1)

  steps : IsKept finding standing standing relation
  steps = record {
    no_expr = λ q h. (h, tt);
    no_query = λ q h. (h, tt);
    int = λ n q h. (h, tt);
    str = λ t q h. (h, tt);
    bool = λ b q h. (h, tt);
    null = λ q h. (h, tt);
    named = λ t q h. (h, tt);
    qualified = λ t u q h. (h, tt);
    slot = λ i q h. (h, tt);
    column = λ c q h. (h, tt);
    param = λ i t q h. let both = taken_parts q (i, t) h in (both.0, (both.1, tt));
    neg = λ x u z k. k;
    neg_small = λ x u z k. k;
    not = λ x u z k. k;
    is = λ x u z test negative k. k;
    chain = λ x u z xs us zs k r. two x (λ q. fold (λ q l. l.1 q) q xs) u (here.of_links us) k (λ q h. folded (AlikeLink (λ f u z. Parts f u)) (λ (l : ChainOp × Found). l.1) (λ (l : ChainOp × here.Params). l.1) (λ x u z g. g.2) xs us zs r q h);
    compare = λ op x₁ x₂ u₁ u₂ z₁ z₂ k₁ k₂. two x₁ x₂ u₁ u₂ k₁ k₂;
    between = λ v x₁ x₂ x₃ u₁ u₂ u₃ z₁ z₂ z₃ k₁ k₂ k₃. two x₁ (λ q. x₃ (x₂ q)) u₁ (u₂ ++ u₃) k₁ (two x₂ x₃ u₂ u₃ k₂ k₃);
    one_of = λ v x u z xs us zs k r. two x (found.each xs) u (here.all us) k (each_of xs us zs r);
    cast = λ x u z t k. k;
    cases = λ xs us zs x u z r k.
        two (λ q. fold (λ q a. a.1 (a.0 q)) q xs) (found.maybe x) (here.of_arms us) (here.maybe u)
        (λ q h. folded (AlikeArm (λ f u z. Parts f u)) (λ (a : Found × Found) (q : Params). a.1 (a.0 q)) (λ (a : here.Params × here.Params). a.0 ++ a.1) (λ x u z g. two x.0 x.1 u.0 u.1 g.0 g.1) xs us zs r q h) (maybe_of x u z k);
    call = λ name xs us zs r. each_of xs us zs r;
    count_rows = λ q h. (h, tt);
    scalar = λ x u z k. k;
    exists = λ x u z k. k;
    table = λ name q h. (h, tt);
    sub = λ x u z lateral k. k;
    from = λ x u z alias columns k. k;
    item = λ x u z alias k. k;
    key = λ x u z descending k. k;
    select = λ l₁ l₂ l₃ f₁ f₂ f₃ w₁ w₂ w₃ o₁ o₂ o₃ m₁ m₂ m₃ lr fr wr kr mr.
        two (found.each l₁) (λ q. found.maybe m₁ (found.each o₁ (found.maybe w₁ (found.each f₁ q)))) (here.all l₂) (here.all f₂ ++ (here.maybe w₂ ++ (here.all o₂ ++ here.maybe m₂))) (each_of l₁ l₂ l₃ lr)
        (two (found.each f₁) (λ q. found.maybe m₁ (found.each o₁ (found.maybe w₁ q))) (here.all f₂) (here.maybe w₂ ++ (here.all o₂ ++ here.maybe m₂)) (each_of f₁ f₂ f₃ fr)
        (two (found.maybe w₁) (λ q. found.maybe m₁ (found.each o₁ q)) (here.maybe w₂) (here.all o₂ ++ here.maybe m₂) (maybe_of w₁ w₂ w₃ wr)
        (two (found.each o₁) (found.maybe m₁) (here.all o₂) (here.maybe m₂) (each_of o₁ o₂ o₃ kr) (maybe_of m₁ m₂ m₃ mr))));
    recursive = λ name columns xs us zs x u z r k. two (found.each xs) x (here.all us) u (each_of xs us zs r) k;
    query = λ x u z xs us zs h r. two (found.maybe x) (found.each xs) (here.maybe u) (here.all us) (maybe_of x u z h) (each_of xs us zs r);
  }

  pub query_supplied : (q : Query) (p : Params) → Kept (query_of finding q p) → Supplied args (query_of standing q)
  query_supplied q p h = (query_related finding standing standing relation steps q p h).1
