-- A select whose literal NULLs have types, and whose items have no aliases, reads what it read, and is clear where it was.
use Rattle.std.proofs.Common.{◌≡◌, refl, ap, sym, subst, ◌∙◌, ℕ, suc, List, [], ◌∷◌, map, drop, length, Option, Some, None, option_map}
use Rattle.away_values.specs.declared.types.Ty.{Ty}
use Rattle.away_trees.specs.declared.queries.Expr.{Expr}
use Rattle.away_trees.specs.declared.queries.Expr.TheBlock as b
use Rattle.away_trees.specs.declared.queries.Expr.TheVariants as expr
use Rattle.away_trees.specs.declared.queries.Expr.TheViews.{out-Item, out-Select, roll-Item, roll-Select, out-roll-Item, out-roll-Select}
use Rattle.away_trees.specs.declared.queries.Expr.TheOpen.{Item-F, Select-F}
use Rattle.away_trees.specs.declared.queries.FromItem.{FromItem}
use Rattle.away_trees.specs.declared.queries.Item.{Item}
use Rattle.away_trees.specs.declared.queries.Key.{Key}
use Rattle.away_trees.specs.declared.queries.Query.{Query}
use Rattle.away_trees.specs.declared.queries.Recursive.{Recursive}
use Rattle.away_trees.specs.declared.queries.Select.{Select}
use Rattle.away_trees.specs.declared.queries.Source.{Source}
use Rattle.away_trees.specs.Algebra.{Algebra, expr_of, from_of, item_of, key_of, select_of}
use Rattle.away_trees.proofs.Equations as eq
use Rattle.away_names.specs.Lookups.{Level, Scope, inside}
use Rattle.sql_meaning.specs.Reads.{reading}
use Rattle.select_into.specs.Wrapped.{null_as, typed, item_as, items_as, picked}
use Rattle.qualified_names.specs.Unambiguous.{value, items, select, IsClear}
use Rattle.qualified_names.specs.Unambiguous as c
use Rattle.cte_names.proofs.Standing.{placing}

abbrev Fields : Type 0
Fields = Select-F Expr Source FromItem Item Key Query Recursive Select

-- ---- what it reads

null_reads : (t : Ty) (e : Expr) → expr_of reading (null_as t e) ≡ expr_of reading e
null_reads t b.Null = eq.of_cast reading expr.Null t
null_reads t e = refl

typed_reads : (o : Option Ty) (e : Expr) → expr_of reading (typed o e) ≡ expr_of reading e
typed_reads None e = refl
typed_reads (Some t) e = null_reads t e

item_reads : (o : Option Ty) (i : Item) → item_of reading (item_as o i) ≡ item_of reading i
item_reads o i = ap (λ x. expr_of reading x.expr) (out-roll-Item (record { expr = typed o (out-Item i).expr; alias = None })) ∙ typed_reads o (out-Item i).expr

items_read : (types : List Ty) (is : List Item) → map (λ i. item_of reading i) (items_as types is) ≡ map (λ i. item_of reading i) is
items_read types [] = refl
items_read [] (i ∷ is) = λ j. item_reads None i j ∷ items_read [] is j
items_read (t ∷ types) (i ∷ is) = λ j. item_reads (Some t) i j ∷ items_read types is j

pub picked_reads : (types : List Ty) (q : Select) → select_of reading (picked types q) ≡ select_of reading q
picked_reads types q =
    eq.of_select reading (items_as types (out-Select q).list) (out-Select q).from (out-Select q).filter (out-Select q).order (out-Select q).limit
    ∙ (ap
    (λ xs. reading.select (record {
      list = xs;
      from = map (λ x. from_of reading x) (out-Select q).from;
      filter = option_map (λ e. expr_of reading e) (out-Select q).filter;
      order = map (λ x. key_of reading x) (out-Select q).order;
      limit = option_map (λ e. expr_of reading e) (out-Select q).limit;
    }))
    (items_read types (out-Select q).list) ∙ sym (eq.select_is reading q))

-- ---- how many items it has

items_length : (types : List Ty) (is : List Item) → length (items_as types is) ≡ length is
items_length types [] = refl
items_length [] (i ∷ is) = ap (λ n. suc n) (items_length [] is)
items_length (t ∷ types) (i ∷ is) = ap (λ n. suc n) (items_length types is)

pub picked_length : (types : List Ty) (q : Select) → length (out-Select (picked types q)).list ≡ length (out-Select q).list
picked_length types q =
    ap (λ f. length f.list) (out-roll-Select (record (out-Select q) { list = items_as types (out-Select q).list })) ∙ items_length types (out-Select q).list

-- ---- where it is clear

abbrev ItemFields : Type 0
ItemFields = Item-F Expr Source FromItem Item Key Query Recursive Select

heads_same : (x y : Item) (xs ys : List Item) → x ∷ xs ≡ y ∷ ys → x ≡ y
heads_same x y xs ys e = cc

exprs_same : (f g : ItemFields) → roll-Item f ≡ roll-Item g → f.expr ≡ g.expr
exprs_same f g e = ap (λ h. h.expr) (sym (out-roll-Item f) ∙ (ap out-Item e ∙ out-roll-Item g))

-- the first of a list, and the rest of it
first_clear : {s : Scope} {ys : List Item} → IsClear items s ys → (f : ItemFields) (xs : List Item) → ys ≡ roll-Item f ∷ xs → IsClear value s f.expr
first_clear c.no_item f xs e = absurd cc
first_clear {s = s} (c.one_item {x = x} alias h r) f xs e = subst (IsClear value s) (exprs_same (record { expr = x; alias = alias }) f (heads_same _ (roll-Item f) _ xs e)) h

rest_clear : {s : Scope} {ys : List Item} → IsClear items s ys → (x : Item) (xs : List Item) → ys ≡ x ∷ xs → IsClear items s xs
rest_clear c.no_item x xs e = absurd cc
rest_clear {s = s} (c.one_item alias h r) x xs e = subst (IsClear items s) (ap (drop 1) e) r

module _ (leaf : ℕ → ℕ → Expr) (s : Scope) (d : ℕ) where
  abbrev P : Algebra
  P = placing leaf

  abbrev at : List Item → List Item
  at is = map (λ x. x d) (map (λ i. item_of P i) is)

  -- a literal NULL with a type is clear, and what is none stays
  null_clear : (t : Ty) (e : Expr) → IsClear value s (expr_of P e d) → IsClear value s (expr_of P (null_as t e) d)
  null_clear t b.Null h = subst (λ (f : ℕ → Expr). IsClear value s (f d)) (sym (eq.of_cast P expr.Null t)) (c.cast t c.null)
  null_clear t e h = h

  typed_clear : (o : Option Ty) (e : Expr) → IsClear value s (expr_of P e d) → IsClear value s (expr_of P (typed o e) d)
  typed_clear None e h = h
  typed_clear (Some t) e h = null_clear t e h

  one_more : (o : Option Ty) (i : Item) (is rest : List Item) → IsClear items s (at (i ∷ is)) → IsClear items s rest → IsClear items s (item_of P (item_as o i) d ∷ rest)
  one_more o i is rest h k =
      let e : Expr = (out-Item i).expr in
      subst (λ x. IsClear items s (x ∷ rest)) (sym (ap (λ x. roll-Item (record { expr = expr_of P x.expr d; alias = x.alias })) (out-roll-Item (record { expr = typed o e; alias = None }))))
      (c.one_item None (typed_clear o e (first_clear h (record { expr = expr_of P e d; alias = (out-Item i).alias }) (at is) refl)) k)

  items_stay : (types : List Ty) (is : List Item) → IsClear items s (at is) → IsClear items s (at (items_as types is))
  items_stay types [] h = h
  items_stay [] (i ∷ is) h = one_more None i is (at (items_as [] is)) h (items_stay [] is (rest_clear h (item_of P i d) (at is) refl))
  items_stay (t ∷ types) (i ∷ is) h = one_more (Some t) i is (at (items_as types is)) h (items_stay types is (rest_clear h (item_of P i d) (at is) refl))

-- a select with another list, which is clear wherever its list is
other_list : {s : Scope} {x : Select} → IsClear select s x → (f : Fields) (list : List Item) → x ≡ roll-Select f
    → ((level : Level) → IsClear items (inside level s) f.list → IsClear items (inside level s) list) → IsClear select s (roll-Select (record f { list = list }))
other_list {s = s} (c.whole {list = l} {from = from} {filter = w} {limit = m} {order = o} differ fc lc wc oc mc) f list e go =
    let own : Fields = record { list = l; from = from; filter = w; order = o; limit = m } in
    let same : own ≡ f = sym (out-roll-Select own) ∙ (ap out-Select e ∙ out-roll-Select f) in
    subst (λ (f : Fields). ((level : Level) → IsClear items (inside level s) f.list → IsClear items (inside level s) list) → IsClear select s (roll-Select (record f { list = list }))) same
    (λ go. c.whole differ fc (go _ lc) wc oc mc) go

pub picked_clear : (leaf : ℕ → ℕ → Expr) (s : Scope) (d : ℕ) (types : List Ty) (q : Select) → IsClear select s (select_of (placing leaf) q d) → IsClear select s (select_of (placing leaf) (picked types q) d)
picked_clear leaf s d types q h =
    let P : Algebra = placing leaf in
    let own : Fields = record {
      list = at leaf s (suc d) (out-Select q).list;
      from = map (λ x. x (suc d)) (map (λ x. from_of (placing leaf) x) (out-Select q).from);
      filter = option_map (λ x. x (suc d)) (option_map (λ e. expr_of (placing leaf) e) (out-Select q).filter);
      order = map (λ x. x (suc d)) (map (λ x. key_of (placing leaf) x) (out-Select q).order);
      limit = option_map (λ x. x (suc d)) (option_map (λ e. expr_of (placing leaf) e) (out-Select q).limit);
    } in
    subst (λ (f : ℕ → Select). IsClear select s (f d)) (sym (eq.of_select (placing leaf) (items_as types (out-Select q).list) (out-Select q).from (out-Select q).filter (out-Select q).order (out-Select q).limit))
    (other_list h own (at leaf s (suc d) (items_as types (out-Select q).list)) (ap (λ f. f d) (eq.select_is (placing leaf) q)) (λ level k. items_stay leaf (inside level s) (suc d) types (out-Select q).list k))
