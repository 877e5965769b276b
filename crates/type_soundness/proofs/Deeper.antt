-- One select further in, whose FROM has no column, each part of a tree has the types that it has where it stands.
use Rattle.std.proofs.Common.{◌≡◌, refl, sym, ℕ, zero, suc, Bool, true, not, ◌&&◌, List, [], ◌∷◌, ◌++◌, fold, map, Option, Some, None, option_map}
use Rattle.std.specs.Prelude.{if◌then◌else◌, is_some, option_and_then}
use Rattle.away_values.specs.declared.types.Ty.TheVariants as ty
use Rattle.away_values.specs.declared.operators.ChainOp.{ChainOp}
use Rattle.away_trees.specs.declared.queries.Select.{Select}
use Rattle.away_trees.specs.Algebra.{select_of}
use Rattle.away_names.specs.Functions.{function}
use Rattle.away_typing.specs.declared.kind.Kind.{Kind}
use Rattle.away_typing.specs.declared.kind.Kind.TheVariants.{Of}
use Rattle.away_typing.specs.Kinds.{fits, meet, common, only_if, is_right, is_number, is_integer, settled}
use Rattle.away_typing.specs.Typing as typing
use Rattle.away_typing.specs.Typing.{Places, Frame}
use Rattle.sql_meaning.proofs.Related.{Alike, AlikeOption, AlikeLink, AlikeArm, Relation, IsKept, select_related}

-- behind the selects around, a further one without columns
abbrev pub deeper : Places → Places
deeper p = record p { frames = p.frames ++ [] ∷ [] }

-- ---- the relation; the third tree is the second again

abbrev Terms : typing.Term → typing.Term → typing.Term → Type 0
Terms x y z = (p : Places) → x (deeper p) ≡ y p

abbrev Parts : typing.Part → typing.Part → typing.Part → Type 0
Parts x y z = (p : Places) (frame : Frame) → x (deeper p) frame ≡ y p frame

abbrev Origins : typing.Origin → typing.Origin → typing.Origin → Type 0
Origins x y z = (columns : List (List ℕ)) → Parts (x columns) (y columns) (z columns)

abbrev Wholes : typing.Whole → typing.Whole → typing.Whole → Type 0
Wholes x y z = (p : Places) → x (deeper p) ≡ y p

abbrev Listings : typing.Listing → typing.Listing → typing.Listing → Type 0
Listings x y z = (p : Places) → x (deeper p) ≡ y p

abbrev Withs : typing.Terms → typing.Terms → typing.Terms → Type 0
Withs x y z = Unit {0}

abbrev relation : Relation typing.typing typing.typing typing.typing
relation = record {
  Exprs = Terms;
  Sources = Origins;
  Froms = Parts;
  Items = Terms;
  Keys = Terms;
  Queries = Wholes;
  Recursives = Withs;
  Selects = Listings;
}

-- ---- columns

column_same : (frames : List Frame) (level item place : ℕ) → typing.column (frames ++ [] ∷ []) (record { level = level; item = item; column = place }) ≡ typing.column frames (record { level = level; item = item; column = place })
unfolding typing.column typing.kind_at
column_same [] zero item place = refl
column_same [] (suc level) item place = refl
column_same (frame ∷ frames) zero item place = refl
column_same (frame ∷ frames) (suc level) item place = column_same frames level item place

-- ---- lists of parts

module _ (p : Places) where
  kinds_same : (xs ys zs : List typing.Term) → Alike Terms xs ys zs → typing.kinds (deeper p) xs ≡ typing.kinds p ys
  kinds_same [] [] [] r = refl
  kinds_same (x ∷ xs) (y ∷ ys) (z ∷ zs) r = λ i. r.0 p i ∷ kinds_same xs ys zs r.1 i
  kinds_same _ _ _ r = absurd r

  option_same : (x y z : Option typing.Term) → AlikeOption Terms x y z → option_map (λ t. t (deeper p)) x ≡ option_map (λ t. t p) y
  option_same None None None r = refl
  option_same (Some x) (Some y) (Some z) r = λ i. Some (r p i)
  option_same _ _ _ r = absurd r

  other_same : (x y z : Option typing.Term) → AlikeOption Terms x y z → typing.other_kind (deeper p) x ≡ typing.other_kind p y
  other_same x y z r = λ i. typing.kind_or_null (option_same x y z r i)

  chained_same : (xs ys zs : List (ChainOp × typing.Term)) → Alike (AlikeLink Terms) xs ys zs → (a b : Kind) → a ≡ b → typing.chained (deeper p) xs a ≡ typing.chained p ys b
  chained_same [] [] [] r a b h = h
  chained_same (x ∷ xs) (y ∷ ys) (z ∷ zs) r a b h =
      chained_same xs ys zs r.1 (typing.pair x.0 a (x.1 (deeper p))) (typing.pair y.0 b (y.1 p)) (λ i. typing.pair (sym r.0.0 i) (h i) (r.0.2 p i))
  chained_same _ _ _ r a b h = absurd r

  abbrev tested_from : Places → Bool → List (typing.Term × typing.Term) → Bool
  tested_from p b arms = fold (λ all arm. all && fits ty.Boolean (arm.0 p)) b arms

  tested_same : (xs ys zs : List (typing.Term × typing.Term)) → Alike (AlikeArm Terms) xs ys zs → (a b : Bool) → a ≡ b → tested_from (deeper p) a xs ≡ tested_from p b ys
  tested_same [] [] [] r a b h = h
  tested_same (x ∷ xs) (y ∷ ys) (z ∷ zs) r a b h =
      tested_same xs ys zs r.1 (a && fits ty.Boolean (x.0 (deeper p))) (b && fits ty.Boolean (y.0 p)) (λ i. h i && fits ty.Boolean (r.0.0 p i))
  tested_same _ _ _ r a b h = absurd r

  abbrev answers : Places → List (typing.Term × typing.Term) → List Kind
  answers p arms = map (λ (arm : typing.Term × typing.Term). arm.1 p) arms

  answers_same : (xs ys zs : List (typing.Term × typing.Term)) → Alike (AlikeArm Terms) xs ys zs → answers (deeper p) xs ≡ answers p ys
  answers_same [] [] [] r = refl
  answers_same (x ∷ xs) (y ∷ ys) (z ∷ zs) r = λ i. r.0.1 p i ∷ answers_same xs ys zs r.1 i
  answers_same _ _ _ r = absurd r

  -- each item sees the ones before it
  framed_same : (xs ys zs : List typing.Part) → Alike Parts xs ys zs → (frame : Frame) → typing.framed (deeper p) xs frame ≡ typing.framed p ys frame
  framed_same [] [] [] r frame = refl
  framed_same (x ∷ xs) (y ∷ ys) (z ∷ zs) r frame = λ i. option_and_then (λ ts. framed_same xs ys zs r.1 (frame ++ ts ∷ []) i) (r.0 p frame i)
  framed_same _ _ _ r frame = absurd r

  united_same : (xs ys zs : List typing.Listing) → Alike Listings xs ys zs → (a b : Option (Option (List Kind))) → a ≡ b
      → fold (λ ks s. typing.further ks (s (deeper p))) a xs ≡ fold (λ ks s. typing.further ks (s p)) b ys
  united_same [] [] [] r a b h = h
  united_same (x ∷ xs) (y ∷ ys) (z ∷ zs) r a b h = united_same xs ys zs r.1 (typing.further a (x (deeper p))) (typing.further b (y p)) (λ i. typing.further (h i) (r.0 p i))
  united_same _ _ _ r a b h = absurd r

-- a query with a recursive part has no columns
shape_same : (x y z : Option typing.Terms) → AlikeOption Withs x y z → (a b : typing.Shape) → a ≡ b
    → (if is_some x then None else a) ≡ (if is_some y then None else b)
shape_same None None None r a b h = h
shape_same (Some x) (Some y) (Some z) r a b h = refl
shape_same _ _ _ r a b h = absurd r

-- ---- all steps

steps : IsKept typing.typing typing.typing typing.typing relation
steps = record {
  no_expr = λ p. refl;
  no_query = λ p. refl;
  int = λ n p. refl;
  str = λ t p. refl;
  bool = λ b p. refl;
  null = λ p. refl;
  named = λ t p. refl;
  qualified = λ t u p. refl;
  slot = λ i p. refl;
  column = λ c p. column_same p.frames c.level c.item c.column;
  param = λ i t p. refl;
  neg = λ x y z k p. λ i. only_if (is_number (k p i) && not (is_integer (k p i))) (Of ty.Bigint);
  neg_small = λ x y z k p. λ i. only_if (is_integer (k p i)) (Of ty.Integer);
  not = λ x y z k p. λ i. only_if (fits ty.Boolean (k p i)) (Of ty.Boolean);
  is = λ x y z test negative k p. λ i. only_if (typing.passed test (k p i)) (Of ty.Boolean);
  chain = λ x y z xs ys zs k r p. chained_same p xs ys zs r (x (deeper p)) (y p) (k p);
  compare = λ op x₁ x₂ y₁ y₂ z₁ z₂ k₁ k₂ p. λ i. only_if (is_right (meet (k₁ p i) (k₂ p i))) (Of ty.Boolean);
  between = λ v x₁ x₂ x₃ y₁ y₂ y₃ z₁ z₂ z₃ k₁ k₂ k₃ p. λ i. only_if (is_right (meet (meet (k₁ p i) (k₂ p i)) (k₃ p i))) (Of ty.Boolean);
  one_of = λ v x y z xs ys zs k r p. λ i. only_if (is_right (meet (k p i) (common (kinds_same p xs ys zs r i)))) (Of ty.Boolean);
  cast = λ x y z t k p. λ i. typing.cast_kind t (k p i);
  cases = λ xs ys zs x y z r k p. λ i. only_if (tested_same p xs ys zs r true true refl i) (settled (meet (common (answers_same p xs ys zs r i)) (other_same p x y z k i)));
  call = λ name xs ys zs r p. λ i. typing.called (function name) (kinds_same p xs ys zs r i);
  count_rows = λ p. refl;
  scalar = λ x y z k p. λ i. typing.scalar_kind (k p i);
  exists = λ x y z k p. λ i. typing.exists_kind (k p i);
  table = λ name columns p frame. refl;
  sub = λ x y z lateral k columns p frame. λ i. typing.listed columns (k (typing.inside (typing.before lateral frame) p) i);
  from = λ x y z alias columns k. k columns;
  item = λ x y z alias k. k;
  key = λ x y z descending k. k;
  select = λ l₁ l₂ l₃ f₁ f₂ f₃ w₁ w₂ w₃ o₁ o₂ o₃ m₁ m₂ m₃ lr fr wr kr mr p. λ i.
      option_and_then
      (λ frame. typing.select_kinds (kinds_same (typing.inside frame p) l₁ l₂ l₃ lr i) (option_same (typing.inside frame p) w₁ w₂ w₃ wr i)
      (kinds_same (typing.inside frame p) o₁ o₂ o₃ kr i) (option_same (typing.inside frame p) m₁ m₂ m₃ mr i))
      (framed_same p f₁ f₂ f₃ fr [] i);
  recursive = λ name columns xs ys zs x y z r k. tt;
  query = λ x y z xs ys zs h r p.
      shape_same x y z h (typing.shape_of (typing.union xs (deeper p))) (typing.shape_of (typing.union ys p))
      (λ i. typing.shape_of (typing.or_none (united_same p xs ys zs r None None refl i)));
}

pub select_deeper : (s : Select) (p : Places) → select_of typing.typing s (deeper p) ≡ select_of typing.typing s p
select_deeper s p = select_related typing.typing typing.typing typing.typing relation steps s p
