-- A placed expression has the kind of the expression, where each slot that it reads has the kind of its column.
use Rattle.std.proofs.Common.{◌≡◌, refl, sym, subst, ℕ, zero, suc, ◌+◌, Bool, true, ◌&&◌, List, [], ◌∷◌, ◌++◌, map, fold, Option, Some, None, option_map, slice_index_or, arith}
use Rattle.std.specs.Prelude.{option_and_then, slice_get, is_some, if◌then◌else◌}
use Rattle.std.specs.List.{list_all, flat_map}
use Rattle.std.specs.Str.Parse.{digits_value}
use Rattle.away_values.specs.declared.types.Ty.TheVariants as ty
use Rattle.away_values.specs.Operators.{literal_type}
use Rattle.away_values.specs.declared.operators.ChainOp.{ChainOp}
use Rattle.away_trees.specs.declared.queries.Col.{Col}
use Rattle.away_trees.specs.declared.queries.Expr.{Expr}
use Rattle.away_trees.specs.declared.queries.Expr.TheVariants as expr
use Rattle.away_trees.specs.declared.queries.Expr.TheOpen as ex
use Rattle.away_trees.specs.declared.queries.Source.{Source}
use Rattle.away_trees.specs.declared.queries.Source.TheVariants as source
use Rattle.away_trees.specs.declared.queries.FromItem.{FromItem}
use Rattle.away_trees.specs.declared.queries.Item.{Item}
use Rattle.away_trees.specs.declared.queries.Key.{Key}
use Rattle.away_trees.specs.declared.queries.Recursive.{Recursive}
use Rattle.away_trees.specs.declared.queries.Select.{Select}
use Rattle.away_trees.specs.declared.queries.Query.{Query}
use Rattle.away_trees.specs.Algebra.{expr_of, item_of, key_of, source_of, from_of, select_of, recursive_of, query_of}
use Rattle.away_trees.proofs.Equations as eq
use Rattle.away_names.specs.Functions.{function}
use Rattle.away_typing.specs.declared.kind.Kind.{Kind}
use Rattle.away_typing.specs.declared.kind.Kind.TheVariants.{Of}
use Rattle.away_typing.specs.Kinds.{fits, meet, common}
use Rattle.away_typing.specs.Typing as typing
use Rattle.away_typing.specs.Typing.{Places, Frame, Shape, inside, before, column, kind_at, table_shape, listed, pair, kind, kinds, chained, tested, chosen, other_kind, kind_or_null, framed, select_kinds, listing, cast_kind, castable}
use Rattle.sql_meaning.specs.Placed.{Deep, replacing, column_of, further, with_cast, placed, select_in_place}
use Rattle.sql_meaning.specs.Reads.{Read, Reads, SourceReads, reading, reads, of_list, of_option}
use Rattle.sql_meaning.proofs.Lists.{Zipped, ZippedOption}
use Rattle.sql_meaning.proofs.Related.{Alike, AlikeOption, AlikeLink, AlikeArm, Relation, IsKept, expr_related}
use Rattle.sql_meaning.proofs.Uses.{and_first, and_second, both_true, left, right, zipped, zipped_option, under, under_option}
use Rattle.cte_types.proofs.KeptKinds.{Keeps, KeepsSome, kept_itself, literal_kept, asked_kept, minus_kept, small_minus_kept, right_kept, only_if_kept, fits_kept, meet_kept, common_kept, pair_kept, is_kept, cast_kept, settled_kept, called_kept, scalar_kept, exists_kept, some_under}
use Rattle.cte_types.proofs.SlotsRead.{reads_slots}
use Rattle.cte_types.proofs.KeptSelects.{PartKept, ListingKept, framed_kept, select_kinds_kept, union_kept}

-- ---- lists of parts

kinds_zipped : (p q : Places) (xs ys : List typing.Term) → Zipped (λ x y. Keeps (x p) (y q)) xs ys → Zipped Keeps (kinds p xs) (kinds q ys)
kinds_zipped p q [] [] h = tt
kinds_zipped p q (x ∷ xs) (y ∷ ys) h = (h.0, kinds_zipped p q xs ys h.1)
kinds_zipped p q _ _ h = absurd h

option_zipped : (p q : Places) (x y : Option typing.Term) → ZippedOption (λ x y. Keeps (x p) (y q)) x y
    → ZippedOption Keeps (option_map (λ t. t p) x) (option_map (λ t. t q) y)
option_zipped p q None None h = tt
option_zipped p q (Some x) (Some y) h = h
option_zipped p q _ _ h = absurd h

or_null_kept : (x y : Option Kind) → ZippedOption Keeps x y → Keeps (kind_or_null x) (kind_or_null y)
or_null_kept None None h = refl
or_null_kept (Some x) (Some y) h = h
or_null_kept _ _ h = absurd h

abbrev LinkKept : Places → Places → ChainOp × typing.Term → ChainOp × typing.Term → Type 0
LinkKept p q x y = (y.0 ≡ x.0) × Keeps (x.1 p) (y.1 q)

chained_kept : (p q : Places) (xs ys : List (ChainOp × typing.Term)) → Zipped (LinkKept p q) xs ys → (a b : Kind) → Keeps a b
    → Keeps (chained p xs a) (chained q ys b)
chained_kept p q [] [] h a b k = k
chained_kept p q (x ∷ xs) (y ∷ ys) h a b k =
    chained_kept p q xs ys h.1 (pair x.0 a (x.1 p)) (pair y.0 b (y.1 q))
    (subst (λ op. Keeps (pair x.0 a (x.1 p)) (pair op b (y.1 q))) (sym h.0.0) (pair_kept x.0 a (x.1 p) b (y.1 q) k h.0.1))
chained_kept p q _ _ h a b k = absurd h

abbrev ArmKept : Places → Places → typing.Term × typing.Term → typing.Term × typing.Term → Type 0
ArmKept p q x y = Keeps (x.0 p) (y.0 q) × Keeps (x.1 p) (y.1 q)

abbrev tested_from : Places → Bool → List (typing.Term × typing.Term) → Bool
tested_from p b arms = fold (λ all arm. all && fits ty.Boolean (arm.0 p)) b arms

tested_kept : (p q : Places) (xs ys : List (typing.Term × typing.Term)) → Zipped (ArmKept p q) xs ys → (a b : Bool) → (a ≡ true → b ≡ true)
    → tested_from p a xs ≡ true → tested_from q b ys ≡ true
tested_kept p q [] [] h a b k t = k t
tested_kept p q (x ∷ xs) (y ∷ ys) h a b k t =
    tested_kept p q xs ys h.1 (a && fits ty.Boolean (x.0 p)) (b && fits ty.Boolean (y.0 q))
    (λ c. both_true b (fits ty.Boolean (y.0 q)) (k (and_first a (fits ty.Boolean (x.0 p)) c))
    (fits_kept ty.Boolean (x.0 p) (y.0 q) h.0.0 (and_second a (fits ty.Boolean (x.0 p)) c))) t
tested_kept p q _ _ h a b k t = absurd h

chosen_zipped : (p q : Places) (xs ys : List (typing.Term × typing.Term)) → Zipped (ArmKept p q) xs ys
    → Zipped Keeps (map (λ (arm : typing.Term × typing.Term). arm.1 p) xs) (map (λ (arm : typing.Term × typing.Term). arm.1 q) ys)
chosen_zipped p q [] [] h = tt
chosen_zipped p q (x ∷ xs) (y ∷ ys) h = (h.0.1, chosen_zipped p q xs ys h.1)
chosen_zipped p q _ _ h = absurd h

-- ---- where an expression stands, and where it is placed

module _ (ref : ℕ → Col) (wanted : ℕ → Bool) where
  -- Inside so many selects of the expression's own. What is seen there has the same type in the query, and a slot the type of its column.
  pub record Placement (d : ℕ) (p q : Places) : Type 0 where
    pub columns : (c : Col) → Keeps (column p.frames c) (column q.frames c)
    pub slots : (i : ℕ) → wanted i ≡ true → Keeps (kind_at (slice_get p.slots i)) (column q.frames (further d (ref i)))
    pub stands : (k : ℕ) → KeepsSome (slice_get p.tables k) (slice_get q.tables k)

  abbrev ok : Read → Bool
  ok = reads_slots wanted

  columns_inside : (d : ℕ) (p q : Places) → Placement d p q → (frame : Frame) (c : Col) (level : ℕ)
      → Keeps (column (frame ∷ p.frames) (record c { level = level })) (column (frame ∷ q.frames) (record c { level = level }))
  unfolding column
  columns_inside d p q h frame c zero = kept_itself _
  columns_inside d p q h frame c (suc level) = h.columns (record c { level = level })

  placed_inside : (d : ℕ) (p q : Places) → Placement d p q → (frame : Frame) → Placement (suc d) (inside frame p) (inside frame q)
  unfolding column
  placed_inside d p q h frame = record {
    columns = λ c. columns_inside d p q h frame c c.level;
    slots = λ i w.
        let deeper : suc ((ref i).level + d) ≡ (ref i).level + suc d = omega arith in
        subst (λ l. Keeps (kind_at (slice_get p.slots i)) (column (frame ∷ q.frames) (record (ref i) { level = l }))) deeper (h.slots i w);
    stands = h.stands;
  }

  -- ---- the relation

  abbrev E : Expr → typing.Term
  E e = expr_of typing.typing e

  abbrev Exprs : typing.Term → Reads → Deep Expr → Type 0
  Exprs x u z = (d : ℕ) (p q : Places) → Placement d p q → list_all ok (u d) ≡ true → Keeps (x p) (E (z d) q)

  abbrev Sources : typing.Origin → SourceReads → Deep Source → Type 0
  Sources x u z = (columns : List (List ℕ)) (d : ℕ) (p q : Places) → Placement d p q → list_all ok (u columns (suc d)) ≡ true → (frame : Frame)
      → KeepsSome (x columns p frame) (source_of typing.typing (z (suc d)) columns q frame)

  abbrev Froms : typing.Part → Reads → Deep FromItem → Type 0
  Froms x u z = (d : ℕ) (p q : Places) → Placement d p q → list_all ok (u (suc d)) ≡ true → (frame : Frame)
      → KeepsSome (x p frame) (from_of typing.typing (z (suc d)) q frame)

  abbrev Items : typing.Term → Reads → Deep Item → Type 0
  Items x u z = (d : ℕ) (p q : Places) → Placement d p q → list_all ok (u d) ≡ true → Keeps (x p) (item_of typing.typing (z d) q)

  abbrev Keys : typing.Term → Reads → Deep Key → Type 0
  Keys x u z = (d : ℕ) (p q : Places) → Placement d p q → list_all ok (u d) ≡ true → Keeps (x p) (key_of typing.typing (z d) q)

  abbrev Queries : typing.Whole → Reads → Deep Query → Type 0
  Queries x u z = (d : ℕ) (p q : Places) → Placement d p q → list_all ok (u d) ≡ true → KeepsSome (x p) (query_of typing.typing (z d) q)

  abbrev Selects : typing.Listing → Reads → Deep Select → Type 0
  Selects x u z = (d : ℕ) (p q : Places) → Placement d p q → list_all ok (u d) ≡ true → KeepsSome (x p) (select_of typing.typing (z d) q)

  abbrev relation : Relation typing.typing reading (replacing (column_of ref) with_cast)
  relation = record {
    Exprs = Exprs;
    Sources = Sources;
    Froms = Froms;
    Items = Items;
    Keys = Keys;
    Queries = Queries;
    Recursives = λ x u z. Unit {0};
    Selects = Selects;
  }

  -- ---- parts of a node

  -- a node, by the equation of its kind
  node : (k : Kind) (q : Places) (f g : typing.Term) → f ≡ g → Keeps k (g q) → Keeps k (f q)
  node k q f g e h = subst (λ (f : typing.Term). Keeps k (f q)) (sym e) h

  abbrev link_at : ℕ → ChainOp × Deep Expr → ChainOp × Expr
  link_at d l = (l.0, l.1 d)

  abbrev arm_at : ℕ → Deep Expr × Deep Expr → Expr × Expr
  arm_at d a = (a.0 d, a.1 d)

  module _ (d : ℕ) (p q : Places) (h : Placement d p q) where
    exprs : (xs : List typing.Term) (us : List Reads) (zs : List (Deep Expr)) → Alike Exprs xs us zs → list_all ok (of_list d us) ≡ true
        → Zipped (λ x y. Keeps (x p) (y q)) xs (map (λ e. E e) (map (λ z. z d) zs))
    exprs xs us zs r t =
        under (λ x (y : typing.Term). Keeps (x p) (y q)) (λ (z : Deep Expr). z d) (λ e. E e) xs zs
        (zipped ok Exprs (λ x z. Keeps (x p) (E (z d) q)) (λ u. u d) (λ x u z r t. r d p q h t) xs us zs r t)

    option : (x : Option typing.Term) (u : Option Reads) (z : Option (Deep Expr)) → AlikeOption Exprs x u z → list_all ok (of_option d u) ≡ true
        → ZippedOption (λ x y. Keeps (x p) (y q)) x (option_map (λ e. E e) (option_map (λ z. z d) z))
    option x u z r t =
        under_option (λ x (y : typing.Term). Keeps (x p) (y q)) (λ (z : Deep Expr). z d) (λ e. E e) x z
        (zipped_option ok Exprs (λ x z. Keeps (x p) (E (z d) q)) d (λ x u z r t. r d p q h t) x u z r t)

    links : (xs : List (ChainOp × typing.Term)) (us : List (ChainOp × Reads)) (zs : List (ChainOp × Deep Expr)) → Alike (AlikeLink Exprs) xs us zs
        → list_all ok (flat_map (λ (l : ChainOp × Reads). l.1 d) us) ≡ true → Zipped (LinkKept p q) xs
        (map (λ l. eq.link_of typing.typing l) (map (λ l. link_at d l) zs))
    links xs us zs r t =
        under (LinkKept p q) (λ l. link_at d l) (λ l. eq.link_of typing.typing l) xs zs
        (zipped ok (AlikeLink Exprs) (λ x z. LinkKept p q x (eq.link_of typing.typing (link_at d z))) (λ (l : ChainOp × Reads). l.1 d)
        (λ x u z r t. (r.1, r.2 d p q h t)) xs us zs r t)

    arms : (xs : List (typing.Term × typing.Term)) (us : List (Reads × Reads)) (zs : List (Deep Expr × Deep Expr)) → Alike (AlikeArm Exprs) xs us zs
        → list_all ok (flat_map (λ (a : Reads × Reads). a.0 d ++ a.1 d) us) ≡ true → Zipped (ArmKept p q) xs
        (map (λ a. eq.arm_of typing.typing a) (map (λ a. arm_at d a) zs))
    arms xs us zs r t =
        under (ArmKept p q) (λ a. arm_at d a) (λ a. eq.arm_of typing.typing a) xs zs
        (zipped ok (AlikeArm Exprs) (λ x z. ArmKept p q x (eq.arm_of typing.typing (arm_at d z))) (λ (a : Reads × Reads). a.0 d ++ a.1 d)
        (λ x u z r t. (r.0 d p q h (left ok (u.0 d) (u.1 d) t), r.1 d p q h (right ok (u.0 d) (u.1 d) t))) xs us zs r t)

    items : (xs : List typing.Term) (us : List Reads) (zs : List (Deep Item)) → Alike Items xs us zs → list_all ok (of_list d us) ≡ true
        → Zipped (λ x y. Keeps (x p) (y q)) xs (map (λ i. item_of typing.typing i) (map (λ z. z d) zs))
    items xs us zs r t =
        under (λ x (y : typing.Term). Keeps (x p) (y q)) (λ (z : Deep Item). z d) (λ i. item_of typing.typing i) xs zs
        (zipped ok Items (λ x z. Keeps (x p) (item_of typing.typing (z d) q)) (λ u. u d) (λ x u z r t. r d p q h t) xs us zs r t)

    keys : (xs : List typing.Term) (us : List Reads) (zs : List (Deep Key)) → Alike Keys xs us zs → list_all ok (of_list d us) ≡ true
        → Zipped (λ x y. Keeps (x p) (y q)) xs (map (λ k. key_of typing.typing k) (map (λ z. z d) zs))
    keys xs us zs r t =
        under (λ x (y : typing.Term). Keeps (x p) (y q)) (λ (z : Deep Key). z d) (λ k. key_of typing.typing k) xs zs
        (zipped ok Keys (λ x z. Keeps (x p) (key_of typing.typing (z d) q)) (λ u. u d) (λ x u z r t. r d p q h t) xs us zs r t)

    froms : (xs : List typing.Part) (us : List Reads) (zs : List (Deep FromItem)) → Alike Froms xs us zs → list_all ok (of_list (suc d) us) ≡ true
        → Zipped (PartKept p q) xs (map (λ f. from_of typing.typing f) (map (λ z. z (suc d)) zs))
    froms xs us zs r t =
        under (PartKept p q) (λ (z : Deep FromItem). z (suc d)) (λ f. from_of typing.typing f) xs zs
        (zipped ok Froms (λ x z. PartKept p q x (from_of typing.typing (z (suc d)))) (λ u. u (suc d)) (λ x u z r t. r d p q h t) xs us zs r t)

    selects : (xs : List typing.Listing) (us : List Reads) (zs : List (Deep Select)) → Alike Selects xs us zs → list_all ok (of_list d us) ≡ true
        → Zipped (ListingKept p q) xs (map (λ s. select_of typing.typing s) (map (λ z. z d) zs))
    selects xs us zs r t =
        under (ListingKept p q) (λ (z : Deep Select). z d) (λ s. select_of typing.typing s) xs zs
        (zipped ok Selects (λ x z. ListingKept p q x (select_of typing.typing (z d))) (λ u. u d) (λ x u z r t. r d p q h t) xs us zs r t)

  -- ---- nodes

  chain : (x : typing.Term) (u : Reads) (z : Deep Expr) (xs : List (ChainOp × typing.Term)) (us : List (ChainOp × Reads)) (zs : List (ChainOp × Deep Expr))
      → Exprs x u z
      → Alike (AlikeLink Exprs) xs us zs → Exprs (λ p. chained p xs (x p)) (λ d. u d ++ flat_map (λ (l : ChainOp × Reads). l.1 d) us)
      (λ d. expr.Chain (z d) (map (λ l. (l.0, l.1 d)) zs))
  chain x u z xs us zs k r d p q h t =
      node (chained p xs (x p)) q _ _ (eq.of_chain typing.typing (z d) (map (λ l. link_at d l) zs))
      (chained_kept p q xs _ (links d p q h xs us zs r (right ok (u d) _ t)) (x p) (E (z d) q) (k d p q h (left ok (u d) _ t)))

  one_of : (v : Bool) (x : typing.Term) (u : Reads) (z : Deep Expr) (xs : List typing.Term) (us : List Reads) (zs : List (Deep Expr)) → Exprs x u z
      → Alike Exprs xs us zs
      → Exprs (kind (ex.OneOf v x xs)) (λ d. u d ++ of_list d us) (λ d. expr.OneOf v (z d) (map (λ z. z d) zs))
  one_of v x u z xs us zs k r d p q h t =
      node (kind (ex.OneOf v x xs) p) q _ _ (eq.of_oneof typing.typing v (z d) (map (λ z. z d) zs))
      (right_kept (Of ty.Boolean) _ _ (meet_kept (x p) (common (kinds p xs)) (E (z d) q) _ (k d p q h (left ok (u d) (of_list d us) t))
      (common_kept (kinds p xs) _ (kinds_zipped p q xs _ (exprs d p q h xs us zs r (right ok (u d) (of_list d us) t))))))

  between : (v : Bool) (x₁ x₂ x₃ : typing.Term) (u₁ u₂ u₃ : Reads) (z₁ z₂ z₃ : Deep Expr) → Exprs x₁ u₁ z₁ → Exprs x₂ u₂ z₂ → Exprs x₃ u₃ z₃
      → Exprs (kind (ex.Between v x₁ x₂ x₃)) (λ d. u₁ d ++ (u₂ d ++ u₃ d)) (λ d. expr.Between v (z₁ d) (z₂ d) (z₃ d))
  between v x₁ x₂ x₃ u₁ u₂ u₃ z₁ z₂ z₃ k₁ k₂ k₃ d p q h t =
      let rest = right ok (u₁ d) (u₂ d ++ u₃ d) t in
      node (kind (ex.Between v x₁ x₂ x₃) p) q _ _ (eq.of_between typing.typing v (z₁ d) (z₂ d) (z₃ d))
      (right_kept (Of ty.Boolean) _ _ (meet_kept (meet (x₁ p) (x₂ p)) (x₃ p) (meet (E (z₁ d) q) (E (z₂ d) q)) (E (z₃ d) q)
      (meet_kept (x₁ p) (x₂ p) (E (z₁ d) q) (E (z₂ d) q) (k₁ d p q h (left ok (u₁ d) (u₂ d ++ u₃ d) t)) (k₂ d p q h (left ok (u₂ d) (u₃ d) rest)))
      (k₃ d p q h (right ok (u₂ d) (u₃ d) rest))))

  cases : (xs : List (typing.Term × typing.Term)) (us : List (Reads × Reads)) (zs : List (Deep Expr × Deep Expr)) (x : Option typing.Term) (u : Option Reads)
      (z : Option (Deep Expr))
      → Alike (AlikeArm Exprs) xs us zs → AlikeOption Exprs x u z
      → Exprs (kind (ex.Cases xs x)) (λ d. flat_map (λ (a : Reads × Reads). a.0 d ++ a.1 d) us ++ of_option d u)
      (λ d. expr.Cases (map (λ a. (a.0 d, a.1 d)) zs) (option_map (λ e. e d) z))
  cases xs us zs x u z r k d p q h t =
      let all = arms d p q h xs us zs r (left ok (flat_map (λ (a : Reads × Reads). a.0 d ++ a.1 d) us) (of_option d u) t) in
      node (kind (ex.Cases xs x) p) q _ _ (eq.of_cases typing.typing (map (λ a. arm_at d a) zs) (option_map (λ z. z d) z))
      (only_if_kept (tested p xs) _ _ _ (tested_kept p q xs _ all true true (λ t. t))
      (settled_kept _ _ (meet_kept (chosen p xs) (other_kind p x) _ _ (common_kept _ _ (chosen_zipped p q xs _ all))
      (or_null_kept _ _ (option_zipped p q x _ (option d p q h x u z k (right ok (flat_map (λ (a : Reads × Reads). a.0 d ++ a.1 d) us) (of_option d u) t)))))))

  listed_none : (columns : List (List ℕ)) → listed columns None ≡ None
  unfolding listed
  listed_none [] = refl
  listed_none (c ∷ cs) = refl

  sub : (x : typing.Whole) (u : Reads) (z : Deep Query) (lateral : Bool) → Queries x u z
      → Sources (λ columns p frame. listed columns (x (inside (before lateral frame) p))) (λ columns. u) (λ d. source.Sub (z d) lateral)
  sub x u z lateral k columns d p q h t frame =
      let inner = inside (before lateral frame) in
      subst (λ (f : typing.Origin). KeepsSome (listed columns (x (inner p))) (f columns q frame)) (sym (eq.of_sub typing.typing (z (suc d)) lateral))
      (some_under (listed columns) (listed_none columns) (x (inner p)) (query_of typing.typing (z (suc d)) (inner q))
      (k (suc d) (inner p) (inner q) (placed_inside d p q h (before lateral frame)) t))

  select : (l₁ : List typing.Term) (l₂ : List Reads) (l₃ : List (Deep Item)) (f₁ : List typing.Part) (f₂ : List Reads) (f₃ : List (Deep FromItem))
      (w₁ : Option typing.Term)
      (w₂ : Option Reads) (w₃ : Option (Deep Expr)) (o₁ : List typing.Term) (o₂ : List Reads) (o₃ : List (Deep Key)) (m₁ : Option typing.Term)
      (m₂ : Option Reads) (m₃ : Option (Deep Expr))
      → Alike Items l₁ l₂ l₃ → Alike Froms f₁ f₂ f₃ → AlikeOption Exprs w₁ w₂ w₃ → Alike Keys o₁ o₂ o₃ → AlikeOption Exprs m₁ m₂ m₃
      → Selects (listing (record { list = l₁; from = f₁; filter = w₁; order = o₁; limit = m₁ }))
      (λ d. of_list (suc d) l₂ ++ (of_list (suc d) f₂ ++ (of_option (suc d) w₂ ++ (of_list (suc d) o₂ ++ of_option (suc d) m₂))))
      (select_in_place (column_of ref) with_cast (record { list = l₃; from = f₃; filter = w₃; order = o₃; limit = m₃ }))
  select l₁ l₂ l₃ f₁ f₂ f₃ w₁ w₂ w₃ o₁ o₂ o₃ m₁ m₂ m₃ lr fr wr kr mr d p q h t =
      subst (λ (s : typing.Listing). KeepsSome (listing (record { list = l₁; from = f₁; filter = w₁; order = o₁; limit = m₁ }) p) (s q))
      (sym (eq.of_select typing.typing (map (λ z. z e) l₃) (map (λ z. z e) f₃) (option_map (λ z. z e) w₃) (map (λ z. z e) o₃) (option_map (λ z. z e) m₃)))
      (by (framed p f₁ []) (framed q F []) (framed_kept p q f₁ F (froms d p q h f₁ f₂ f₃ fr (left ok (of_list e f₂) _ t₁)) []))
    where
      e : ℕ
      e = suc d

      F : List typing.Part
      F = map (λ f. from_of typing.typing f) (map (λ z. z e) f₃)

      t₁ : list_all ok (of_list e f₂ ++ (of_option e w₂ ++ (of_list e o₂ ++ of_option e m₂))) ≡ true
      t₁ = right ok (of_list e l₂) _ t

      t₂ : list_all ok (of_option e w₂ ++ (of_list e o₂ ++ of_option e m₂)) ≡ true
      t₂ = right ok (of_list e f₂) _ t₁

      t₃ : list_all ok (of_list e o₂ ++ of_option e m₂) ≡ true
      t₃ = right ok (of_option e w₂) _ t₂

      by : (a b : Option Frame) → KeepsSome a b
          → KeepsSome
          (option_and_then (λ frame. select_kinds (kinds (inside frame p) l₁) (option_map (λ t. t (inside frame p)) w₁) (kinds (inside frame p) o₁)
          (option_map (λ t. t (inside frame p)) m₁)) a)
          (option_and_then (λ frame. select_kinds (kinds (inside frame q) (map (λ i. item_of typing.typing i) (map (λ z. z e) l₃)))
          (option_map (λ t. t (inside frame q)) (option_map (λ x. E x) (option_map (λ z. z e) w₃)))
          (kinds (inside frame q) (map (λ k. key_of typing.typing k) (map (λ z. z e) o₃)))
          (option_map (λ t. t (inside frame q)) (option_map (λ x. E x) (option_map (λ z. z e) m₃)))) b)
      by None b g = tt
      by (Some frame) b g =
          let here = placed_inside d p q h frame in
          let P = inside frame p in
          let Q = inside frame q in
          let list = map (λ i. item_of typing.typing i) (map (λ (z : Deep Item). z e) l₃) in
          let filter = option_map (λ x. E x) (option_map (λ (z : Deep Expr). z e) w₃) in
          let order = map (λ k. key_of typing.typing k) (map (λ (z : Deep Key). z e) o₃) in
          let limit = option_map (λ x. E x) (option_map (λ (z : Deep Expr). z e) m₃) in
          subst (λ o. KeepsSome (select_kinds (kinds P l₁) (option_map (λ t. t P) w₁) (kinds P o₁) (option_map (λ t. t P) m₁))
          (option_and_then (λ frame. select_kinds (kinds (inside frame q) list) (option_map (λ t. t (inside frame q)) filter) (kinds (inside frame q) order)
          (option_map (λ t. t (inside frame q)) limit)) o)) (sym g)
          (select_kinds_kept (kinds P l₁) (kinds Q list) (option_map (λ t. t P) w₁) (option_map (λ t. t Q) filter) (kinds P o₁) (kinds Q order)
          (option_map (λ t. t P) m₁) (option_map (λ t. t Q) limit)
          (kinds_zipped P Q l₁ list (items e P Q here l₁ l₂ l₃ lr (left ok (of_list e l₂) _ t)))
          (option_zipped P Q w₁ filter (option e P Q here w₁ w₂ w₃ wr (left ok (of_option e w₂) _ t₂)))
          (kinds_zipped P Q o₁ order (keys e P Q here o₁ o₂ o₃ kr (left ok (of_list e o₂) _ t₃)))
          (option_zipped P Q m₁ limit (option e P Q here m₁ m₂ m₃ mr (right ok (of_list e o₂) _ t₃))))

  -- ---- a query, which has no shape where it has a recursive part

  unless_recursive : {A : Type 0} (d : ℕ) (x : Option typing.Terms) (u : Option A) (z : Option (Deep Recursive)) → AlikeOption (λ x u z. Unit {0}) x u z → (a b : Shape) → KeepsSome a b
      → KeepsSome (if is_some x then None else a) (if is_some (option_map (λ r. recursive_of typing.typing r) (option_map (λ z. z d) z)) then None else b)
  unless_recursive d None None None k a b h = h
  unless_recursive d (Some x) (Some u) (Some z) k a b h = tt
  unless_recursive d _ _ _ k a b h = absurd k

  -- ---- all steps

  steps : IsKept typing.typing reading (replacing (column_of ref) with_cast) relation
  unfolding cast_kind table_shape
  steps = record {
    no_expr = λ d p q h t. tt;
    no_query = λ d p q h t. tt;
    int = λ n d p q h t. node (Of (literal_type n)) q _ _ (eq.of_cast typing.typing (expr.Int n) (literal_type n)) (literal_kept (literal_type n));
    str = λ s d p q h t. node (Of ty.Text) q _ _ (eq.of_cast typing.typing (expr.Str s) ty.Text) (literal_kept ty.Text);
    bool = λ v d p q h t. node (Of ty.Boolean) q _ _ (eq.of_cast typing.typing (expr.Bool v) ty.Boolean) (literal_kept ty.Boolean);
    null = λ d p q h t. refl;
    named = λ n d p q h t. tt;
    qualified = λ a n d p q h t. tt;
    slot = λ i d p q h t. h.slots i (and_first (wanted i) true t);
    column = λ c d p q h t. h.columns c;
    param = λ i ty d p q h t. refl;
    neg = λ x u z k d p q h t. node _ q _ _ (eq.of_neg typing.typing (z d)) (minus_kept (x p) (E (z d) q) (k d p q h t));
    neg_small = λ x u z k d p q h t. node _ q _ _ (eq.of_negsmall typing.typing (z d)) (small_minus_kept (x p) (E (z d) q) (k d p q h t));
    not = λ x u z k d p q h t. node _ q _ _ (eq.of_not typing.typing (z d)) (asked_kept ty.Boolean (Of ty.Boolean) (x p) (E (z d) q) (k d p q h t));
    is = λ x u z test v k d p q h t. node _ q _ _ (eq.of_is typing.typing (z d) test v) (is_kept test (x p) (E (z d) q) (k d p q h t));
    chain = chain;
    compare = λ op x₁ x₂ u₁ u₂ z₁ z₂ k₁ k₂ d p q h t.
        node _ q _ _ (eq.of_compare typing.typing op (z₁ d) (z₂ d))
        (right_kept (Of ty.Boolean) _ _ (meet_kept (x₁ p) (x₂ p) (E (z₁ d) q) (E (z₂ d) q) (k₁ d p q h (left ok (u₁ d) (u₂ d) t))
        (k₂ d p q h (right ok (u₁ d) (u₂ d) t))));
    between = between;
    one_of = one_of;
    cast = λ x u z ty k d p q h t. node _ q _ _ (eq.of_cast typing.typing (z d) ty) (cast_kept ty (x p) (E (z d) q) (k d p q h t));
    cases = cases;
    call = λ name xs us zs r d p q h t.
        node _ q _ _ (eq.of_call typing.typing name (map (λ z. z d) zs)) (called_kept (function name) (kinds p xs) _
        (kinds_zipped p q xs _ (exprs d p q h xs us zs r t)));
    count_rows = λ d p q h t. refl;
    scalar = λ x u z k d p q h t. node _ q _ _ (eq.of_scalar typing.typing (z d)) (scalar_kept (x p) (query_of typing.typing (z d) q) (k d p q h t));
    exists = λ x u z k d p q h t. node _ q _ _ (eq.of_exists typing.typing (z d)) (exists_kept (x p) (query_of typing.typing (z d) q) (k d p q h t));
    table = λ name columns d p q h t frame. h.stands (digits_value 10 (slice_index_or columns 0 []));
    sub = sub;
    from = λ x u z alias columns k d p q h t frame. k columns d p q h t frame;
    item = λ x u z alias k. k;
    key = λ x u z descending k. k;
    select = select;
    recursive = λ name columns xs us zs x u z r k. tt;
    query = λ x u z xs us zs k r d p q h t.
        subst (λ (w : typing.Whole). KeepsSome (if is_some x then None else typing.shape_of (typing.union xs p)) (w q))
        (sym (eq.query_roll typing.typing (option_map (λ z. z d) z) (map (λ z. z d) zs)))
        (unless_recursive d x u z k _ _ (union_kept p q xs _ (selects d p q h xs us zs r t)));
  }

  pub placed_kept : (e : Expr) (p q : Places) → Placement 0 p q → list_all ok (reads e) ≡ true → Keeps (E e p) (E (placed ref e) q)
  placed_kept e p q h t = expr_related typing.typing reading (replacing (column_of ref) with_cast) relation steps e 0 p q h t
