-- What is like a query with the only select is like it where the select's literal NULLs have types and its items no aliases.
use Rattle.std.proofs.Common.{◌≡◌, ◌⊎◌, inl, inr, refl, ap, sym, subst, ◌∙◌, ℕ, suc, List, [], ◌∷◌, map, Option, Some, None, option_map}
use Rattle.away_values.specs.declared.types.Ty.{Ty}
use Rattle.away_trees.specs.declared.queries.Expr.{Expr}
use Rattle.away_trees.specs.declared.queries.Expr.TheBlock as b
use Rattle.away_trees.specs.declared.queries.Expr.TheOpen as ex
use Rattle.away_trees.specs.declared.queries.Expr.TheVariants as e
use Rattle.away_trees.specs.declared.queries.Expr.TheViews.{out-Expr, out-Item, out-Query, out-Select, roll-Item, roll-Select, roll-out-Item}
use Rattle.away_trees.specs.declared.queries.Expr.TheViews.{out-roll-Item, out-roll-Query, out-roll-Select}
use Rattle.away_trees.specs.declared.queries.Item.{Item}
use Rattle.away_trees.specs.declared.queries.Query.{Query}
use Rattle.away_trees.specs.declared.queries.Select.{Select}
use Rattle.away_trees.specs.Algebra.{Algebra, expr_of, from_of, item_of, key_of, select_of}
use Rattle.away_trees.proofs.Equations as eq
use Rattle.away_names.specs.declared.note.Column.{Column}
use Rattle.away_names.specs.Lookups.{Level}
use Rattle.sql_meaning.specs.Trees.{one}
use Rattle.select_into.specs.Wrapped.{null_as, item_as, items_as, picked}
use Rattle.qualified_names.specs.Trees.{qualified_expr, qualified_item, qualified_items, qualified_from, qualified_keys, qualified_in, qualified_select, qualified_shown}
use Rattle.qualified_names.proofs.QualifyingRules as d
use Rattle.cte_names.proofs.Standing.{placing}
use Rattle.cte_prints.specs.Like.{IsLike, value, item, items, select, selects, query}
use Rattle.cte_prints.specs.Like as k
use Rattle.cte_prints.proofs.QualifiedParts.{Fields, qualified_fields, query_is}
use Rattle.cte_prints.proofs.QueryShapes.{ItemFields}
use Rattle.cte_prints.proofs.Shapes as see
use Rattle.cte_prints.proofs.Shapes.{Node}

-- ---- the literal NULL

abbrev IsNull : Node → Type 0
IsNull ex.Null = Unit {0}
IsNull _ = ⊥

is_null : {u : Expr} {n : Node} → out-Expr u ≡ n → u ≡ e.Null → IsNull n
is_null h z = subst IsNull (sym see.see_null ∙ (ap out-Expr (sym z) ∙ h)) tt

null_like : {w u : Expr} (t : Ty) → IsLike value w u → u ≡ e.Null → IsLike value w (e.Cast e.Null t)
null_like t k.null z = k.null_as t
null_like t (k.null_as s) z = absurd (is_null (see.see_cast e.Null s) z)
null_like t (k.int n) z = absurd (is_null (see.see_cast (e.Int n) _) z)
null_like t (k.str x) z = absurd (is_null (see.see_cast (e.Str x) _) z)
null_like t (k.bool v) z = absurd (is_null (see.see_cast (e.Bool v) _) z)
null_like t (k.named n a c i j) z = absurd (is_null (see.see_qualified a c) z)
null_like t (k.qualified x n a c i j) z = absurd (is_null (see.see_qualified a c) z)
null_like t (k.neg {u = u} i) z = absurd (is_null (see.see_neg u) z)
null_like t (k.not {u = u} i) z = absurd (is_null (see.see_not u) z)
null_like t (k.is {u = u} s v i) z = absurd (is_null (see.see_is u s v) z)
null_like t (k.chain {u = u} {us = us} i j) z = absurd (is_null (see.see_chain u us) z)
null_like t (k.compare {u = u} {v = v} o i j) z = absurd (is_null (see.see_compare o u v) z)
null_like t (k.between {u = u} {v = v} {w = w} n i j l) z = absurd (is_null (see.see_between n u v w) z)
null_like t (k.one_of {u = u} {us = us} n i j) z = absurd (is_null (see.see_one_of n u us) z)
null_like t (k.cast {u = u} s i) z = absurd (is_null (see.see_cast u s) z)
null_like t (k.cases {us = us} {u = u} i j) z = absurd (is_null (see.see_cases us u) z)
null_like t (k.call {us = us} n i) z = absurd (is_null (see.see_call n us) z)
null_like t k.count_rows z = absurd (is_null see.see_count_rows z)
null_like t (k.scalar {p = p} i) z = absurd (is_null (see.see_scalar p) z)
null_like t (k.exists {p = p} i) z = absurd (is_null (see.see_exists p) z)

-- ---- items

abbrev entry : Expr → Option (List ℕ) → Item
entry x alias = roll-Item (record { expr = x; alias = alias })

-- an item that is like one without its alias, and with what is like its expression
item_like : {w u : Item} → IsLike item w u → (x y : Expr) (alias : Option (List ℕ)) → u ≡ entry x alias → ((v : Expr) → IsLike value v x → IsLike value v y)
    → IsLike item w (entry y None)
item_like (k.an_item {x = v} {u = u} own i) x y alias z go =
    let same : record { expr = u; alias = own } ≡ record { expr = x; alias = alias } =
    sym (out-roll-Item (record { expr = u; alias = own })) ∙ (ap out-Item z ∙ out-roll-Item (record { expr = x; alias = alias })) in
    k.a_bare_item own (go v (subst (IsLike value v) (ap (λ (f : ItemFields). f.expr) same) i))
item_like (k.a_bare_item {x = v} {u = u} own i) x y alias z go =
    let same : record { expr = u; alias = None } ≡ record { expr = x; alias = alias } =
    sym (out-roll-Item (record { expr = u; alias = None })) ∙ (ap out-Item z ∙ out-roll-Item (record { expr = x; alias = alias })) in
    k.a_bare_item own (go v (subst (IsLike value v) (ap (λ (f : ItemFields). f.expr) same) i))

abbrev with_null : Ty → Item
with_null t = entry (e.Cast e.Null t) None

-- its expression stays, or was a literal NULL
stays_or : (t : Ty) (i : Item) (x : Expr) → (out-Item i).expr ≡ x
    → (item_as (Some t) i ≡ entry (out-Item i).expr None) ⊎ (((out-Item i).expr ≡ e.Null) × (item_as (Some t) i ≡ with_null t))
stays_or t i b.Null is = inr (is, ap (λ x. entry (null_as t x) None) is)
stays_or t i x is = inl (ap (λ x. entry (null_as t x) None) is ∙ ap (λ x. entry x None) (sym is))

heads_same : (x y : Item) (xs ys : List Item) → x ∷ xs ≡ y ∷ ys → x ≡ y
heads_same x y xs ys z = cc

tails_same : (x y : Item) (xs ys : List Item) → x ∷ xs ≡ y ∷ ys → xs ≡ ys
tails_same x y xs ys z = cc

-- the list again, with another first item and other ones behind it
items_like : {ws us : List Item} → IsLike items ws us → (x y : Item) (xs ys : List Item) → us ≡ x ∷ xs → ((w : Item) → IsLike item w x → IsLike item w y)
    → ((vs : List Item) → IsLike items vs xs → IsLike items vs ys) → IsLike items ws (y ∷ ys)
items_like k.no_item x y xs ys z f g = absurd cc
items_like (k.one_item {x = w} {u = u} {xs = ws} {us = us} h i) x y xs ys z f g =
    k.one_item (f w (subst (IsLike item w) (heads_same u x us xs z) h)) (g ws (subst (IsLike items ws) (tails_same u x us xs z) i))

module _ (leaf : ℕ → ℕ → Expr) (level : List Level) (depth : ℕ) where
  abbrev P : Algebra
  P = placing leaf

  -- an item as a query has it
  abbrev shown : Item → Item
  shown i = (qualified_item (item_of P i depth) level).it

  abbrev all_shown : List Item → List Item
  all_shown is = (qualified_items level (map (λ x. x depth) (map (λ i. item_of P i) is))).it

  shown_is : (x : Expr) (alias : Option (List ℕ)) → shown (entry x alias) ≡ entry (qualified_expr (expr_of P x depth) level) alias
  shown_is x alias =
      ap (λ f. (qualified_item (P.item (record { expr = expr_of P f.expr; alias = f.alias }) depth) level).it) (out-roll-Item (record { expr = x; alias = alias }))
      ∙ ap (λ (c : Column). c.it) (d.item_rule (entry (expr_of P x depth) alias) level)

  abbrev value_of : Item → Expr
  value_of i = qualified_expr (expr_of P (out-Item i).expr depth) level

  own_shown : (i : Item) → shown i ≡ entry (value_of i) (out-Item i).alias
  own_shown i = ap shown (sym (roll-out-Item i)) ∙ shown_is (out-Item i).expr (out-Item i).alias

  null_value : (i : Item) → (out-Item i).expr ≡ e.Null → value_of i ≡ e.Null
  null_value i h = ap (λ x. qualified_expr (expr_of P x depth) level) h ∙ d.null_is level

  cast_shown : (t : Ty) → shown (with_null t) ≡ with_null t
  cast_shown t =
      shown_is (e.Cast e.Null t) None
      ∙ ap (λ x. entry x None) (ap (λ f. qualified_expr (f depth) level) (eq.of_cast P e.Null t) ∙ (d.cast_is e.Null t level ∙ ap (λ x. e.Cast x t) (d.null_is level)))

  typed_like : (t : Ty) (i : Item) {w : Item} → IsLike item w (shown i) → IsLike item w (shown (item_as (Some t) i))
  typed_like t i {w = w} l = by (stays_or t i (out-Item i).expr refl)
    where
      by : (item_as (Some t) i ≡ entry (out-Item i).expr None) ⊎ (((out-Item i).expr ≡ e.Null) × (item_as (Some t) i ≡ with_null t))
          → IsLike item w (shown (item_as (Some t) i))
      by (inl z) =
          subst (IsLike item w) (sym (ap shown z ∙ shown_is (out-Item i).expr None))
          (item_like l (value_of i) (value_of i) (out-Item i).alias (own_shown i) (λ v j. j))
      by (inr z) =
          subst (IsLike item w) (sym (ap shown z.1 ∙ cast_shown t))
          (item_like l (value_of i) (e.Cast e.Null t) (out-Item i).alias (own_shown i) (λ v j. null_like t j (null_value i z.0)))

  untyped_like : (i : Item) {w : Item} → IsLike item w (shown i) → IsLike item w (shown (item_as None i))
  untyped_like i {w = w} l =
      subst (IsLike item w) (sym (shown_is (out-Item i).expr None)) (item_like l (value_of i) (value_of i) (out-Item i).alias (own_shown i) (λ v j. j))

  list_like : (types : List Ty) (is ws : List Item) → IsLike items ws (all_shown is) → IsLike items ws (all_shown (items_as types is))
  list_like types [] ws l = l
  list_like [] (i ∷ is) ws l =
      items_like l (shown i) (shown (item_as None i)) (all_shown is) (all_shown (items_as [] is)) refl (λ w j. untyped_like i j) (λ vs j. list_like [] is vs j)
  list_like (t ∷ types) (i ∷ is) ws l =
      items_like l (shown i) (shown (item_as (Some t) i)) (all_shown is) (all_shown (items_as types is)) refl (λ w j. typed_like t i j)
      (λ vs j. list_like types is vs j)

-- ---- selects and queries

select_like : {w u : Select} → IsLike select w u → (f : Fields) (list : List Item) → u ≡ roll-Select f → ((ws : List Item) → IsLike items ws f.list → IsLike items ws list)
    → IsLike select w (roll-Select (record f { list = list }))
select_like (k.whole {list = ws} {lists = us} {from = from} {froms = froms} {filter = filter} {filters = filters} {limit = limit} {limits = limits} {order = order} {orders = orders} h i j l n) f list z go =
    let own : Fields = record { list = us; from = froms; filter = filters; order = orders; limit = limits } in
    let same : own ≡ f = sym (out-roll-Select own) ∙ (ap out-Select z ∙ out-roll-Select f) in
    subst (λ (f : Fields). ((vs : List Item) → IsLike items vs f.list → IsLike items vs list)
    → IsLike select (roll-Select (record { list = ws; from = from; filter = filter; order = order; limit = limit })) (roll-Select (record f { list = list }))) same
    (λ go. k.whole (go ws h) i j l n) go

firsts_same : (x y : Select) (xs ys : List Select) → x ∷ xs ≡ y ∷ ys → x ≡ y
firsts_same x y xs ys z = cc

rests_same : (x y : Select) (xs ys : List Select) → x ∷ xs ≡ y ∷ ys → xs ≡ ys
rests_same x y xs ys z = cc

selects_like : {ws us : List Select} → IsLike selects ws us → (x y : Select) → us ≡ x ∷ [] → ((w : Select) → IsLike select w x → IsLike select w y) → IsLike selects ws (y ∷ [])
selects_like k.no_select x y z go = absurd cc
selects_like (k.one_select {x = w} {u = u} {xs = ws} {us = us} h i) x y z go =
    k.one_select (go w (subst (IsLike select w) (firsts_same u x us [] z) h)) (subst (IsLike selects ws) (rests_same u x us [] z) i)

query_like : {w u : Query} → IsLike query w u → (x y : Select) → u ≡ one x → ((w : Select) → IsLike select w x → IsLike select w y) → IsLike query w (one y)
query_like (k.union {us = us} h) x y z go =
    k.union
    (selects_like h x y
    (ap (λ f. f.selects) (sym (out-roll-Query (record { recursive = None; selects = us })))
    ∙ (ap (λ q. (out-Query q).selects) z ∙ ap (λ f. f.selects) (out-roll-Query (record { recursive = None; selects = x ∷ [] }))))
    go)

module _ (leaf : ℕ → ℕ → Expr) (level : List Level) (depth : ℕ) (types : List Ty) (q : Select) where
  abbrev own : Algebra
  own = placing leaf

  abbrev at : {A : Type 0} → List (ℕ → A) → List A
  at xs = map (λ x. x (suc depth)) xs

  -- the select as a query has it, with this list
  abbrev fields : List Item → Fields
  fields list = record {
    list = at (map (λ i. item_of own i) list);
    from = at (map (λ x. from_of own x) (out-Select q).from);
    filter = option_map (λ x. x (suc depth)) (option_map (λ x. expr_of own x) (out-Select q).filter);
    order = at (map (λ x. key_of own x) (out-Select q).order);
    limit = option_map (λ x. x (suc depth)) (option_map (λ x. expr_of own x) (out-Select q).limit);
  }

  abbrev within : List Level
  within = (qualified_from level (fields []).from).seen ∷ level

  abbrev named : List Item → Fields
  named list = record {
    list = all_shown leaf within (suc depth) list;
    from = (qualified_from level (fields []).from).items;
    filter = option_map (qualified_in within) (fields []).filter;
    order = qualified_keys within (fields []).order;
    limit = option_map (qualified_in within) (fields []).limit;
  }

  abbrev placed : Select → Select
  placed x = (qualified_select (select_of own x depth) level).it

  own_placed : placed q ≡ roll-Select (named (out-Select q).list)
  own_placed = ap (λ f. (qualified_select (f depth) level).it) (eq.select_is own q) ∙ ap (λ s. s.it) (qualified_fields (fields (out-Select q).list) level)

  picked_placed : placed (picked types q) ≡ roll-Select (named (items_as types (out-Select q).list))
  picked_placed =
      ap (λ f. (qualified_select (f depth) level).it)
      (eq.of_select own (items_as types (out-Select q).list) (out-Select q).from (out-Select q).filter (out-Select q).order (out-Select q).limit)
      ∙ ap (λ s. s.it) (qualified_fields (fields (items_as types (out-Select q).list)) level)

  pub picked_like : {w : Query} → IsLike query w (qualified_shown (one (select_of own q depth)) level).it
      → IsLike query w (qualified_shown (one (select_of own (picked types q) depth)) level).it
  picked_like {w = w} h =
      subst (IsLike query w) (sym (query_is (select_of own (picked types q) depth ∷ []) level))
      (query_like h (placed q) (placed (picked types q)) (query_is (select_of own q depth ∷ []) level)
      (λ x l. subst (IsLike select x) (sym picked_placed)
      (select_like l (named (out-Select q).list) (all_shown leaf within (suc depth) (items_as types (out-Select q).list)) own_placed
      (λ ws l. list_like leaf within (suc depth) types (out-Select q).list ws l))))
