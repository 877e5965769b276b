-- In the select of a converted SELECT INTO, the items that stand for a number of the other type are marked, and nothing else is.
use Rattle.std.proofs.Common.{◌≡◌, refl, sym, ap, ◌∙◌, ℕ, zero, suc, Bool, true, false, List, [], ◌∷◌, map, length, get_or, slice_get, Option, Some, None, option_map, arith}
use Rattle.std.specs.Prelude.{if◌then◌else◌, is_some, drop}
use Rattle.away_values.specs.declared.types.Ty.{Ty}
use Rattle.away_values.specs.declared.types.Ty.TheVariants.{Bigint}
use Rattle.away_trees.specs.declared.queries.Expr.TheViews.{out-Item, out-Select, out-roll-Item}
use Rattle.away_trees.specs.declared.queries.Item.{Item}
use Rattle.away_trees.specs.declared.queries.Select.{Select}
use Rattle.away_trees.specs.Algebra.{item_of, from_of, expr_of, key_of, select_of}
use Rattle.away_trees.proofs.Equations as eq
use Rattle.away_typing.specs.declared.kind.Kind.{Kind}
use Rattle.away_typing.specs.Typing as typing
use Rattle.away_typing.specs.Typing.{Places}
use Rattle.elaboration.specs.Converting.{Around, converts, first_mark, items_marked, mark_by, slot_type, with_alias, with_list}
use Rattle.select_into.specs.Entries.{Target, cast_at, is_converted, target_types, type_of}
use Rattle.type_soundness.proofs.Selects.{some_of, some_is}
use Rattle.type_soundness.proofs.Trees.{kinds_of}

-- ---- marks change no type

item_same : (alias : Option (List ℕ)) (i : Item) → item_of typing.typing (with_alias alias i) ≡ item_of typing.typing i
item_same alias i = refl

module _ (w : Around) where
  items_same : (ts : List Target) (ks : List Kind) (is : List Item) → map (λ i. item_of typing.typing i) (items_marked w ts ks is) ≡ map (λ i. item_of typing.typing i) is
  items_same ts ks [] = refl
  items_same ts ks (i ∷ is) = λ k. item_same (first_mark w ts ks) i k ∷ items_same (drop 1 ts) (drop 1 ks) is k

  pub marks_keep_types : (ts : List Target) (ks : List Kind) (s : Select) → select_of typing.typing (with_list (items_marked w ts ks (out-Select s).list) s) ≡ select_of typing.typing s
  marks_keep_types ts ks s =
      let o = out-Select s in
      eq.of_select typing.typing (items_marked w ts ks o.list) o.from o.filter o.order o.limit
      ∙ ap (λ (l : List typing.Term). typing.listing (record { list = l; from = map (λ f. from_of typing.typing f) o.from; filter = option_map (λ e. expr_of typing.typing e) o.filter; order = map (λ k. key_of typing.typing k) o.order; limit = option_map (λ e. expr_of typing.typing e) o.limit })) (items_same ts ks o.list)
      ∙ sym (eq.select_is typing.typing s)

-- ---- as many kinds as items

length_map : {A B : Type 0} (f : A → B) (xs : List A) → length (map f xs) ≡ length xs
length_map f [] = refl
length_map f (x ∷ xs) = ap suc (length_map f xs)

listing_count : (list : List typing.Term) (from : List typing.Part) (filter : Option typing.Term) (order : List typing.Term) (limit : Option typing.Term) (p : Places) (ks : List Kind)
    → typing.listing (record { list = list; from = from; filter = filter; order = order; limit = limit }) p ≡ Some ks → length ks ≡ length list
listing_count list from filter order limit p ks e =
    let a = some_of (λ types. typing.select_kinds (typing.kinds (typing.inside types p) list) (option_map (λ t. t (typing.inside types p)) filter) (typing.kinds (typing.inside types p) order) (option_map (λ t. t (typing.inside types p)) limit)) (typing.framed p from []) ks e in
    let c = kinds_of (typing.kinds (typing.inside a.x p) list) _ _ _ ks a.second in
    ap (λ xs. length xs) c.same ∙ length_map (λ t. t (typing.inside a.x p)) list

pub kinds_count : (s : Select) (p : Places) (ks : List Kind) → select_of typing.typing s p ≡ Some ks → length ks ≡ length (out-Select s).list
kinds_count s p ks e =
    let o = out-Select s in
    listing_count (map (λ i. item_of typing.typing i) o.list) (map (λ f. from_of typing.typing f) o.from) (option_map (λ e. expr_of typing.typing e) o.filter) (map (λ k. key_of typing.typing k) o.order) (option_map (λ e. expr_of typing.typing e) o.limit) p ks
    (sym (ap (λ l. l p) (eq.select_is typing.typing s)) ∙ e)
    ∙ length_map (λ i. item_of typing.typing i) o.list

-- ---- an item is marked where it is converted

module _ (w : Around) (ty : Ty) where
  marked_by : (o : Option Ty) (n : List ℕ) (k : Kind) → o ≡ Some ty → is_some (mark_by o n k) ≡ converts ty k
  marked_by None n k e = cc
  marked_by (Some t) n k e = tested (converts t k) ∙ ap (λ t. converts t k) (sym (some_is t ty e))
    where
      tested : (b : Bool) → is_some (if b then Some n else None) ≡ b
      tested true = refl
      tested false = refl

  alias_is : (alias : Option (List ℕ)) (i : Item) → is_converted (Some (with_alias alias i)) ≡ is_some alias
  alias_is alias i = ap (λ (x : _). is_some x.alias) (out-roll-Item (record { expr = (out-Item i).expr; alias = alias }))

  pub mark_at : (ts : List Target) (ks : List Kind) (is : List Item) → length ks ≡ length is
      → (m : ℕ) (t : Target) (k : Kind) → slice_get ts m ≡ Some t → slice_get ks m ≡ Some k → slot_type w t.1 ≡ Some ty
      → is_converted (slice_get (items_marked w ts ks is) m) ≡ converts ty k
  unfolding first_mark
  mark_at [] ks is c m t k at_t at_k s = cc
  mark_at (u ∷ ts) [] is c m t k at_t at_k s = cc
  mark_at (u ∷ ts) (j ∷ ks) [] c m t k at_t at_k s = absurd (omega (arith, c))
  mark_at (u ∷ ts) (j ∷ ks) (i ∷ is) c zero t k at_t at_k s =
      alias_is (mark_by (slot_type w u.1) u.0 j) i ∙ marked_by (slot_type w u.1) u.0 j (ap (λ (x : Target). slot_type w x.1) (sym (some_is u t at_t)) ∙ s) ∙ ap (converts ty) (sym (some_is j k at_k))
  mark_at (u ∷ ts) (j ∷ ks) (i ∷ is) c (suc m) t k at_t at_k s = mark_at ts ks is (omega (arith, c)) m t k at_t at_k s

-- ---- the cast of a pick

get_is : (xs : List Ty) (m : ℕ) (x d : Ty) → slice_get xs m ≡ Some x → get_or xs m d ≡ x
get_is [] m x d e = cc
get_is (y ∷ xs) zero x d e = sym (some_is y x e)
get_is (y ∷ xs) (suc m) x d e = get_is xs m x d e

module _ (w : Around) (ty : Ty) where
  type_is : (slot : Option ℕ) → slot_type w slot ≡ Some ty → type_of w.places.slots slot ≡ ty
  type_is None s = cc
  type_is (Some i) s = get_is w.places.slots i ty Bigint s

  types_at : (ts : List Target) (m : ℕ) (t : Target) → slice_get ts m ≡ Some t → slot_type w t.1 ≡ Some ty → slice_get (target_types w.places.slots ts) m ≡ Some ty
  types_at [] m t e s = cc
  types_at (u ∷ ts) zero t e s = ap Some (type_is u.1 (ap (λ (x : Target). slot_type w x.1) (sym (some_is u t e)) ∙ s))
  types_at (u ∷ ts) (suc m) t e s = types_at ts m t e s

  pub cast_is : (ts : List Target) (ks : List Kind) (is : List Item) → length ks ≡ length is
      → (m : ℕ) (t : Target) (k : Kind) → slice_get ts m ≡ Some t → slice_get ks m ≡ Some k → slot_type w t.1 ≡ Some ty
      → cast_at (target_types w.places.slots ts) (items_marked w ts ks is) m ≡ (if converts ty k then Some ty else None)
  cast_is ts ks is c m t k at_t at_k s = λ i. if mark_at w ty ts ks is c m t k at_t at_k s i then types_at ts m t at_t s i else None
