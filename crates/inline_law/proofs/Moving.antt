-- An expression with others in place of its slots and columns has in one context the value that the expression has in another.
use Rattle.std.proofs.Common.{◌≡◌, refl, ap, sym, ◌∙◌, subst, ℕ, suc, Bool, true, List, [], ◌++◌, map, slice_index_or, Option, option_map, Ok}
use Rattle.std.specs.List.{list_all, flat_map}
use Rattle.away_values.specs.declared.types.Ty.{Ty}
use Rattle.away_values.specs.declared.operators.ChainOp.{ChainOp}
use Rattle.away_values.specs.declared.operators.CmpOp.{CmpOp}
use Rattle.away_values.specs.declared.operators.IsTest.{IsTest}
use Rattle.away_trees.specs.declared.queries.Expr.{Expr}
use Rattle.away_trees.specs.declared.queries.Expr.TheVariants as expr
use Rattle.away_trees.specs.declared.queries.Expr.TheOpen as ex
use Rattle.away_trees.specs.declared.queries.Source.{Source}
use Rattle.away_trees.specs.declared.queries.Source.TheVariants as source
use Rattle.away_trees.specs.declared.queries.FromItem.{FromItem}
use Rattle.away_trees.specs.declared.queries.Item.{Item}
use Rattle.away_trees.specs.declared.queries.Key.{Key}
use Rattle.away_trees.specs.declared.queries.Select.{Select}
use Rattle.away_trees.specs.declared.queries.Recursive.{Recursive}
use Rattle.away_trees.specs.declared.queries.Query.{Query}
use Rattle.away_values.specs.Results.{Or}
use Rattle.away_trees.specs.Algebra.{expr_of, item_of, key_of, source_of, from_of, select_of, query_of}
use Rattle.away_trees.proofs.Equations as eq
use Rattle.sql_meaning.specs.Context.{Context, argument}
use Rattle.sql_meaning.specs.Expressions.{ExprMeaning, SourceMeaning, FromMeaning, SelectMeaning, KeyMeaning, RecursiveMeaning, QueryMeaning, expr_meaning}
use Rattle.sql_meaning.specs.Meaning.{meaning}
use Rattle.sql_meaning.specs.Placed.{Deep, select_in_place, query_in_place}
use Rattle.inline_law.specs.Moved.{as_it_is, moving}
use Rattle.away_trees.specs.declared.queries.Col.{Col}
use Rattle.sql_meaning.specs.Reads.{Read, Slot, Table, Reads, SourceReads, reading, of_list, of_option, select_reads}
use Rattle.sql_meaning.specs.Selects.{place_of, source_meaning, select_meaning, query_meaning}
use Rattle.sql_meaning.proofs.Related.{Alike, AlikeOption, AlikeLink, AlikeArm, Relation, IsKept, expr_related}
use Rattle.sql_meaning.proofs.Lists.{Zipped, ZippedOption}
use Rattle.sql_meaning.proofs.Uses.{and_first, left, right, zipped, zipped_option, under, under_option}
use Rattle.sql_meaning.proofs.Same as same

module _ (one two : same.Surroundings) (ok : Read → Bool) (leaf : ℕ → ℕ → Expr) (place : ℕ → Col → Expr) where
  abbrev Gives : {A : Type 0} → ℕ → (Context → Or A) → (Context → Or A) → Type 0
  Gives {A} = same.Gives one two {A = A}

  abbrev Same : ℕ → ExprMeaning → ExprMeaning → Type 0
  Same = same.Same one two

  -- ---- the relation of a tree's meaning, of what it reads, and of the tree that it becomes

  abbrev Exprs : ExprMeaning → Reads → Deep Expr → Type 0
  Exprs x u z = (d : ℕ) → list_all ok (u d) ≡ true → Same d x (expr_of meaning (z d))

  abbrev Items : ExprMeaning → Reads → Deep Item → Type 0
  Items x u z = (d : ℕ) → list_all ok (u d) ≡ true → Same d x (item_of meaning (z d))

  abbrev Keys : KeyMeaning → Reads → Deep Key → Type 0
  Keys x u z = (d : ℕ) → list_all ok (u d) ≡ true → same.SameKey one two d x (key_of meaning (z d))

  abbrev Sources : SourceMeaning → SourceReads → Deep Source → Type 0
  Sources x u z =
      (d : ℕ) (columns : List (List ℕ)) → list_all ok (u columns (suc d)) ≡ true → same.SameFrom one two d (x columns) (source_of meaning (z (suc d)) columns)

  abbrev Froms : FromMeaning → Reads → Deep FromItem → Type 0
  Froms x u z = (d : ℕ) → list_all ok (u (suc d)) ≡ true → same.SameFrom one two d x (from_of meaning (z (suc d)))

  abbrev Selects : SelectMeaning → Reads → Deep Select → Type 0
  Selects x u z = (d : ℕ) → list_all ok (u d) ≡ true → Gives d x (select_of meaning (z d))

  abbrev Queries : QueryMeaning → Reads → Deep Query → Type 0
  Queries x u z = (d : ℕ) → list_all ok (u d) ≡ true → Gives d x.rows (query_of meaning (z d)).rows

  abbrev relation : Relation meaning reading (moving leaf place)
  relation =
      record {
        Exprs = Exprs;
        Sources = Sources;
        Froms = Froms;
        Items = Items;
        Keys = Keys;
        Queries = Queries;
        Recursives = λ x u z. Unit {0};
        Selects = Selects;
      }

  -- ---- the steps

  -- a node, by the equation of its meaning
  node : (d : ℕ) (x y z : ExprMeaning) → z ≡ y → Same d x y → Same d x z
  node d x y z p s = subst (Same d x) (sym p) s

  abbrev the : Expr → ExprMeaning
  the e = expr_of meaning e

  neg : (x : ExprMeaning) (u : Reads) (z : Deep Expr) → Exprs x u z → Exprs (expr_meaning (ex.Neg x)) u (λ d. expr.Neg (z d))
  neg x u z k d h =
      node d (expr_meaning (ex.Neg x)) (expr_meaning (ex.Neg (the (z d)))) _ (eq.of_neg meaning (z d)) (same.neg_same one two d x (the (z d)) (k d h))

  neg_small : (x : ExprMeaning) (u : Reads) (z : Deep Expr) → Exprs x u z → Exprs (expr_meaning (ex.NegSmall x)) u (λ d. expr.NegSmall (z d))
  neg_small x u z k d h =
      node d (expr_meaning (ex.NegSmall x)) (expr_meaning (ex.NegSmall (the (z d)))) _ (eq.of_negsmall meaning (z d)) (same.neg_small_same one two d x (the (z d)) (k d h))

  negation : (x : ExprMeaning) (u : Reads) (z : Deep Expr) → Exprs x u z → Exprs (expr_meaning (ex.Not x)) u (λ d. expr.Not (z d))
  negation x u z k d h =
      node d (expr_meaning (ex.Not x)) (expr_meaning (ex.Not (the (z d)))) _ (eq.of_not meaning (z d)) (same.not_same one two d x (the (z d)) (k d h))

  is : (x : ExprMeaning) (u : Reads) (z : Deep Expr) (test : IsTest) (negative : Bool) → Exprs x u z
      → Exprs (expr_meaning (ex.Is x test negative)) u (λ d. expr.Is (z d) test negative)
  is x u z test negative k d h =
      node d (expr_meaning (ex.Is x test negative)) (expr_meaning (ex.Is (the (z d)) test negative)) _ (eq.of_is meaning (z d) test negative) (same.is_same one two d x (the (z d)) test negative (k d h))

  abbrev link_at : ℕ → ChainOp × Deep Expr → ChainOp × Expr
  link_at d l = (l.0, l.1 d)

  links : (d : ℕ) (xs : List (ChainOp × ExprMeaning)) (us : List (ChainOp × Reads)) (zs : List (ChainOp × Deep Expr))
      → Alike (AlikeLink Exprs) xs us zs → list_all ok (flat_map (λ (l : ChainOp × Reads). l.1 d) us) ≡ true
      → Zipped (same.SameLink one two d) xs (map (λ l. eq.link_of meaning l) (map (λ l. link_at d l) zs))
  links d xs us zs r h =
      under (same.SameLink one two d) (λ l. link_at d l) (λ l. eq.link_of meaning l) xs zs (zipped ok (AlikeLink Exprs) (λ x z. same.SameLink one two d x (eq.link_of meaning (link_at d z))) (λ (l : ChainOp × Reads). l.1 d) (λ x u z r h. (r.1, r.2 d h)) xs us zs r h)

  chain : (x : ExprMeaning) (u : Reads) (z : Deep Expr) (xs : List (ChainOp × ExprMeaning)) (us : List (ChainOp × Reads)) (zs : List (ChainOp × Deep Expr))
      → Exprs x u z → Alike (AlikeLink Exprs) xs us zs
      → Exprs (expr_meaning (ex.Chain x xs)) (λ d. u d ++ flat_map (λ (l : ChainOp × Reads). l.1 d) us) (λ d. expr.Chain (z d) (map (λ l. (l.0, l.1 d)) zs))
  chain x u z xs us zs k r d h =
      node d (expr_meaning (ex.Chain x xs)) _ _ (eq.of_chain meaning (z d) (map (λ l. link_at d l) zs)) (same.chain_same one two d x (the (z d)) xs (map (λ l. eq.link_of meaning l) (map (λ l. link_at d l) zs)) (k d (left ok (u d) _ h)) (links d xs us zs r (right ok (u d) _ h)))

  compare : (op : CmpOp) (x₁ x₂ : ExprMeaning) (u₁ u₂ : Reads) (z₁ z₂ : Deep Expr) → Exprs x₁ u₁ z₁ → Exprs x₂ u₂ z₂
      → Exprs (expr_meaning (ex.Compare op x₁ x₂)) (λ d. u₁ d ++ u₂ d) (λ d. expr.Compare op (z₁ d) (z₂ d))
  compare op x₁ x₂ u₁ u₂ z₁ z₂ k₁ k₂ d h =
      node d (expr_meaning (ex.Compare op x₁ x₂)) _ _ (eq.of_compare meaning op (z₁ d) (z₂ d)) (same.compare_same one two d op x₁ x₂ (the (z₁ d)) (the (z₂ d)) (k₁ d (left ok (u₁ d) (u₂ d) h)) (k₂ d (right ok (u₁ d) (u₂ d) h)))

  between : (negative : Bool) (x₁ x₂ x₃ : ExprMeaning) (u₁ u₂ u₃ : Reads) (z₁ z₂ z₃ : Deep Expr) → Exprs x₁ u₁ z₁ → Exprs x₂ u₂ z₂ → Exprs x₃ u₃ z₃
      → Exprs (expr_meaning (ex.Between negative x₁ x₂ x₃)) (λ d. u₁ d ++ (u₂ d ++ u₃ d)) (λ d. expr.Between negative (z₁ d) (z₂ d) (z₃ d))
  between negative x₁ x₂ x₃ u₁ u₂ u₃ z₁ z₂ z₃ k₁ k₂ k₃ d h =
      let rest = right ok (u₁ d) (u₂ d ++ u₃ d) h in
      node d (expr_meaning (ex.Between negative x₁ x₂ x₃)) _ _ (eq.of_between meaning negative (z₁ d) (z₂ d) (z₃ d)) (same.between_same one two d negative x₁ x₂ x₃ (the (z₁ d)) (the (z₂ d)) (the (z₃ d)) (k₁ d (left ok (u₁ d) (u₂ d ++ u₃ d) h)) (k₂ d (left ok (u₂ d) (u₃ d) rest)) (k₃ d (right ok (u₂ d) (u₃ d) rest)))

  exprs : (d : ℕ) (xs : List ExprMeaning) (us : List Reads) (zs : List (Deep Expr)) → Alike Exprs xs us zs → list_all ok (of_list d us) ≡ true
      → Zipped (Same d) xs (map (λ e. expr_of meaning e) (map (λ z. z d) zs))
  exprs d xs us zs r h =
      under (Same d) (λ z. z d) (λ e. expr_of meaning e) xs zs (zipped ok Exprs (λ x z. Same d x (the (z d))) (λ u. u d) (λ x u z r h. r d h) xs us zs r h)

  option : (d : ℕ) (x : Option ExprMeaning) (u : Option Reads) (z : Option (Deep Expr)) → AlikeOption Exprs x u z → list_all ok (of_option d u) ≡ true
      → ZippedOption (Same d) x (option_map (λ e. expr_of meaning e) (option_map (λ z. z d) z))
  option d x u z r h =
      under_option (Same d) (λ z. z d) (λ e. expr_of meaning e) x z (zipped_option ok Exprs (λ x z. Same d x (the (z d))) d (λ x u z r h. r d h) x u z r h)

  one_of : (negative : Bool) (x : ExprMeaning) (u : Reads) (z : Deep Expr) (xs : List ExprMeaning) (us : List Reads) (zs : List (Deep Expr))
      → Exprs x u z → Alike Exprs xs us zs
      → Exprs (expr_meaning (ex.OneOf negative x xs)) (λ d. u d ++ of_list d us) (λ d. expr.OneOf negative (z d) (map (λ z. z d) zs))
  one_of negative x u z xs us zs k r d h =
      node d (expr_meaning (ex.OneOf negative x xs)) _ _ (eq.of_oneof meaning negative (z d) (map (λ z. z d) zs)) (same.one_of_same one two d negative x (the (z d)) xs (map (λ e. expr_of meaning e) (map (λ z. z d) zs)) (k d (left ok (u d) (of_list d us) h)) (exprs d xs us zs r (right ok (u d) (of_list d us) h)))

  to_type : (x : ExprMeaning) (u : Reads) (z : Deep Expr) (t : Ty) → Exprs x u z → Exprs (expr_meaning (ex.Cast x t)) u (λ d. expr.Cast (z d) t)
  to_type x u z t k d h = node d (expr_meaning (ex.Cast x t)) _ _ (eq.of_cast meaning (z d) t) (same.cast_same one two d x (the (z d)) t (k d h))

  abbrev arm_at : ℕ → Deep Expr × Deep Expr → Expr × Expr
  arm_at d a = (a.0 d, a.1 d)

  abbrev arm_reads : ℕ → Reads × Reads → List Read
  arm_reads d a = a.0 d ++ a.1 d

  arms : (d : ℕ) (xs : List (ExprMeaning × ExprMeaning)) (us : List (Reads × Reads)) (zs : List (Deep Expr × Deep Expr))
      → Alike (AlikeArm Exprs) xs us zs → list_all ok (flat_map (λ a. arm_reads d a) us) ≡ true
      → Zipped (same.SameArm one two d) xs (map (λ a. eq.arm_of meaning a) (map (λ a. arm_at d a) zs))
  arms d xs us zs r h =
      under (same.SameArm one two d) (λ a. arm_at d a) (λ a. eq.arm_of meaning a) xs zs (zipped ok (AlikeArm Exprs) (λ x z. same.SameArm one two d x (eq.arm_of meaning (arm_at d z))) (λ a. arm_reads d a) (λ x u z r h. (r.0 d (left ok (u.0 d) (u.1 d) h), r.1 d (right ok (u.0 d) (u.1 d) h))) xs us zs r h)

  cases : (xs : List (ExprMeaning × ExprMeaning)) (us : List (Reads × Reads)) (zs : List (Deep Expr × Deep Expr)) (x : Option ExprMeaning) (u : Option Reads) (z : Option (Deep Expr))
      → Alike (AlikeArm Exprs) xs us zs → AlikeOption Exprs x u z
      → Exprs (expr_meaning (ex.Cases xs x)) (λ d. flat_map (λ a. arm_reads d a) us ++ of_option d u) (λ d. expr.Cases (map (λ a. (a.0 d, a.1 d)) zs) (option_map (λ e. e d) z))
  cases xs us zs x u z r k d h =
      node d (expr_meaning (ex.Cases xs x)) _ _ (eq.of_cases meaning (map (λ a. arm_at d a) zs) (option_map (λ z. z d) z)) (same.cases_same one two d xs (map (λ a. eq.arm_of meaning a) (map (λ a. arm_at d a) zs)) x (option_map (λ e. expr_of meaning e) (option_map (λ z. z d) z)) (arms d xs us zs r (left ok (flat_map (λ a. arm_reads d a) us) (of_option d u) h)) (option d x u z k (right ok (flat_map (λ a. arm_reads d a) us) (of_option d u) h)))

  call : (name : List ℕ) (xs : List ExprMeaning) (us : List Reads) (zs : List (Deep Expr)) → Alike Exprs xs us zs
      → Exprs (expr_meaning (ex.Call name xs)) (λ d. of_list d us) (λ d. expr.Call name (map (λ e. e d) zs))
  call name xs us zs r d h =
      node d (expr_meaning (ex.Call name xs)) _ _ (eq.of_call meaning name (map (λ z. z d) zs)) (same.call_same one two d name xs (map (λ e. expr_of meaning e) (map (λ z. z d) zs)) (exprs d xs us zs r h))

  scalar : (x : QueryMeaning) (u : Reads) (z : Deep Query) → Queries x u z → Exprs (expr_meaning (ex.Scalar x)) u (λ d. expr.Scalar (z d))
  scalar x u z k d h = node d (expr_meaning (ex.Scalar x)) _ _ (eq.of_scalar meaning (z d)) (same.scalar_same one two d x (query_of meaning (z d)) (k d h))

  exists : (x : QueryMeaning) (u : Reads) (z : Deep Query) → Queries x u z → Exprs (expr_meaning (ex.Exists x)) u (λ d. expr.Exists (z d))
  exists x u z k d h = node d (expr_meaning (ex.Exists x)) _ _ (eq.of_exists meaning (z d)) (same.exists_same one two d x (query_of meaning (z d)) (k d h))

  -- ---- the steps of FROM, of selects and of queries

  sub : (x : QueryMeaning) (u : Reads) (z : Deep Query) (lateral : Bool) → Queries x u z
      → Sources (source_meaning (ex.Sub x lateral)) (λ columns. u) (λ d. source.Sub (z d) lateral)
  sub x u z lateral k d columns h frame l g r =
      ap (λ s. s columns (same.there one two l g) frame) (eq.of_sub meaning (z (suc d)) lateral) ∙ same.sub_same one two d x (query_of meaning (z (suc d))) lateral (k (suc d) h) frame l g r

  items : (d : ℕ) (xs : List ExprMeaning) (us : List Reads) (zs : List (Deep Item)) → Alike Items xs us zs → list_all ok (of_list d us) ≡ true
      → Zipped (Same d) xs (map (λ i. item_of meaning i) (map (λ z. z d) zs))
  items d xs us zs r h =
      under (Same d) (λ z. z d) (λ i. item_of meaning i) xs zs (zipped ok Items (λ x z. Same d x (item_of meaning (z d))) (λ u. u d) (λ x u z r h. r d h) xs us zs r h)

  keys : (d : ℕ) (xs : List KeyMeaning) (us : List Reads) (zs : List (Deep Key)) → Alike Keys xs us zs → list_all ok (of_list d us) ≡ true
      → Zipped (same.SameKey one two d) xs (map (λ k. key_of meaning k) (map (λ z. z d) zs))
  keys d xs us zs r h =
      under (same.SameKey one two d) (λ z. z d) (λ k. key_of meaning k) xs zs (zipped ok Keys (λ x z. same.SameKey one two d x (key_of meaning (z d))) (λ u. u d) (λ x u z r h. r d h) xs us zs r h)

  froms : (d : ℕ) (xs : List FromMeaning) (us : List Reads) (zs : List (Deep FromItem)) → Alike Froms xs us zs
      → list_all ok (of_list (suc d) us) ≡ true → Zipped (same.SameFrom one two d) xs (map (λ f. from_of meaning f) (map (λ z. z (suc d)) zs))
  froms d xs us zs r h =
      under (same.SameFrom one two d) (λ z. z (suc d)) (λ f. from_of meaning f) xs zs (zipped ok Froms (λ x z. same.SameFrom one two d x (from_of meaning (z (suc d)))) (λ u. u (suc d)) (λ x u z r h. r d h) xs us zs r h)

  select : (l₁ : List ExprMeaning) (l₂ : List Reads) (l₃ : List (Deep Item)) (f₁ : List FromMeaning) (f₂ : List Reads) (f₃ : List (Deep FromItem)) (w₁ : Option ExprMeaning) (w₂ : Option Reads) (w₃ : Option (Deep Expr)) (o₁ : List KeyMeaning) (o₂ : List Reads) (o₃ : List (Deep Key)) (m₁ : Option ExprMeaning) (m₂ : Option Reads) (m₃ : Option (Deep Expr))
      → Alike Items l₁ l₂ l₃ → Alike Froms f₁ f₂ f₃ → AlikeOption Exprs w₁ w₂ w₃ → Alike Keys o₁ o₂ o₃ → AlikeOption Exprs m₁ m₂ m₃ →
      Selects (select_meaning (record { list = l₁; from = f₁; filter = w₁; order = o₁; limit = m₁ })) (select_reads (record { list = l₂; from = f₂; filter = w₂; order = o₂; limit = m₂ })) (select_in_place leaf as_it_is (record { list = l₃; from = f₃; filter = w₃; order = o₃; limit = m₃ }))
  select l₁ l₂ l₃ f₁ f₂ f₃ w₁ w₂ w₃ o₁ o₂ o₃ m₁ m₂ m₃ lr fr wr kr mr d h l g r =
      let e = suc d in
      let h₁ = right ok (of_list e l₂) _ h in
      let h₂ = right ok (of_list e f₂) _ h₁ in
      let h₃ = right ok (of_option e w₂) _ h₂ in
      ap (λ s. s (same.there one two l g)) (eq.of_select meaning (map (λ z. z e) l₃) (map (λ z. z e) f₃) (option_map (λ z. z e) w₃) (map (λ z. z e) o₃) (option_map (λ z. z e) m₃))
      ∙ same.select_same one two d l₁ _ f₁ _ w₁ _ o₁ _ m₁ _ (items e l₁ l₂ l₃ lr (left ok (of_list e l₂) _ h)) (froms d f₁ f₂ f₃ fr (left ok (of_list e f₂) _ h₁)) (option e w₁ w₂ w₃ wr (left ok (of_option e w₂) _ h₂)) (keys e o₁ o₂ o₃ kr (left ok (of_list e o₂) _ h₃)) (option e m₁ m₂ m₃ mr (right ok (of_list e o₂) _ h₃)) l g r

  selects : (d : ℕ) (xs : List SelectMeaning) (us : List Reads) (zs : List (Deep Select)) → Alike Selects xs us zs → list_all ok (of_list d us) ≡ true
      → Zipped (Gives d) xs (map (λ s. select_of meaning s) (map (λ z. z d) zs))
  selects d xs us zs r h =
      under (Gives d) (λ z. z d) (λ s. select_of meaning s) xs zs (zipped ok Selects (λ x z. Gives d x (select_of meaning (z d))) (λ u. u d) (λ x u z r h. r d h) xs us zs r h)

  query : (x : Option RecursiveMeaning) (z : Option (Deep Recursive)) (xs : List SelectMeaning) (us : List Reads) (zs : List (Deep Select))
      → Alike Selects xs us zs →
      Queries (query_meaning (record { recursive = x; selects = xs })) (λ d. of_list d us) (query_in_place leaf as_it_is (record { recursive = z; selects = zs }))
  query x z xs us zs r d h l g ready =
      ap (λ w. w.rows (same.there one two l g)) (eq.query_roll meaning (option_map (λ z. z d) z) (map (λ z. z d) zs))
      ∙ same.union_same one two d xs (map (λ s. select_of meaning s) (map (λ z. z d) zs)) (selects d xs us zs r h) l g ready

  -- ---- all of them

  module _ (leaves : (d i : ℕ) → ok (Slot i) ≡ true → Same d (expr_meaning (ex.Slot i)) (the (leaf d i)))
      (columns : (d : ℕ) (c : Col) → Same d (expr_meaning (ex.Column c)) (the (place d c)))
      (given : (i : ℕ) → argument two.args i ≡ argument one.args i)
      (stands : (k : ℕ) → ok (Table k) ≡ true → slice_index_or two.tables k [] ≡ slice_index_or one.tables k []) where
    steps : IsKept meaning reading (moving leaf place) relation
    steps =
        record {
          no_expr = λ d h. (refl, λ l g r. refl);
          no_query = λ d h l g r. ap (λ w. w.rows (same.there one two l g)) (eq.of_query meaning []);
          int = λ n d h. (refl, λ l g r. refl);
          str = λ t d h. (refl, λ l g r. refl);
          bool = λ v d h. (refl, λ l g r. refl);
          null = λ d h. (refl, λ l g r. refl);
          named = λ t d h. (refl, λ l g r. refl);
          qualified = λ t s d h. (refl, λ l g r. refl);
          slot = λ i d h. leaves d i (and_first (ok (Slot i)) true h);
          column = λ c d h. columns d c;
          param = λ i t d h. (refl, λ l g r. ap Ok (given i));
          neg = neg;
          neg_small = neg_small;
          not = negation;
          is = is;
          chain = chain;
          compare = compare;
          between = between;
          one_of = one_of;
          cast = to_type;
          cases = cases;
          call = call;
          count_rows = λ d h. (refl, λ l g r. refl);
          scalar = scalar;
          exists = exists;
          table = λ name d columns h frame l g r. ap Ok (stands (place_of columns) (and_first (ok (Table (place_of columns))) true h));
          sub = sub;
          from = λ x u z alias columns k d h. k d columns h;
          item = λ x u z alias k. k;
          key = λ x u z descending k d h. (refl, (k d h).1);
          select = select;
          recursive = λ name columns xs ys zs x y z h k. tt;
          query = λ x u z xs us zs h r. query x z xs us zs r;
        }

    pub moved_same : (d : ℕ) (e : Expr) → list_all ok (expr_of reading e d) ≡ true
        → Same d (expr_of meaning e) (expr_of meaning (expr_of (moving leaf place) e d))
    moved_same d e h = expr_related meaning reading (moving leaf place) relation steps e d h
