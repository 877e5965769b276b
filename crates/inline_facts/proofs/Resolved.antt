-- The parts of a select with its names resolved and its operations marked, by its list.
use Rattle.std.proofs.Common.{◌≡◌, refl, sym, ap, ◌∙◌, List, [], ◌∷◌, ◌++◌, map, fold, Option, option_map}
use Rattle.away_trees.specs.Algebra.{expr_of, from_of, item_of, key_of, select_of}
use Rattle.away_trees.specs.declared.queries.Expr.{Expr}
use Rattle.away_trees.specs.declared.queries.Expr.TheVariants as expr
use Rattle.away_trees.specs.declared.queries.Expr.TheViews.{out-Item, out-Select, out-roll-Select}
use Rattle.away_trees.specs.declared.queries.Item.{Item}
use Rattle.away_trees.specs.declared.queries.Key.{Key}
use Rattle.away_trees.specs.declared.queries.Select.{Select}
use Rattle.away_trees.proofs.Equations as eq
use Rattle.away_names.specs.declared.note.Noted.{Noted}
use Rattle.away_names.specs.declared.note.Shown.{Shown}
use Rattle.away_names.specs.declared.note.Framed.{Framed}
use Rattle.away_names.specs.Notes.{added, each, held, pure}
use Rattle.away_names.specs.Lookups.{Name, Scope, inside}
use Rattle.away_names.specs.Naming as n
use Rattle.away_names.specs.Naming.{naming}
use Rattle.away_typing.specs.Typing as t
use Rattle.away_typing.specs.Typing.{Places}
use Rattle.elaboration.specs.Elaborating.{MadeFrom, MadeItem, elaborating, frame_made, frame_or_none, from_trees, item_trees, key_trees, option_tree, parts_made}
use Rattle.elaboration.specs.Elaborating as el
use Rattle.inline_calls.specs.Forms.{with_list}
use Rattle.sql_meaning.specs.Trees.{item}

list_appended : {A : Type 0} (xs : List A) (x : A) (ys : List A) → (xs ++ x ∷ []) ++ ys ≡ xs ++ x ∷ ys
list_appended [] x ys = refl
list_appended (z ∷ zs) x ys = ap (λ l. z ∷ l) (list_appended zs x ys)

nothing_behind : {A : Type 0} (xs : List A) → xs ≡ xs ++ []
nothing_behind [] = refl
nothing_behind (x ∷ xs) = ap (λ l. x ∷ l) (nothing_behind xs)

module _ (o : Scope) (y : Select) (p : Places) where
  abbrev pub from : Noted Framed
  from = n.framed o (map (λ f. from_of naming f) (out-Select y).from)

  abbrev pub inner : Scope
  inner = inside from.it.seen o

  abbrev pub parts : List MadeFrom
  parts = parts_made p (map (λ f. from_of elaborating f) from.it.items) []

  abbrev pub here : Places
  here = t.inside (frame_or_none (frame_made parts [])) p

  abbrev pub filter : Noted (Option Expr)
  filter = held (λ t. t.judge inner) (option_map (λ e. expr_of naming e) (out-Select y).filter)

  abbrev pub limit : Noted (Option Expr)
  limit = held (λ t. t.judge inner) (option_map (λ e. expr_of naming e) (out-Select y).limit)

  abbrev pub order : List Item → Noted (List Key)
  order list = each (λ k. k (map (λ (i : n.Entry). i.alias) (map (λ i. item_of naming i) list)) inner) (map (λ k. key_of naming k) (out-Select y).order)

  abbrev pub named_at : Item → Item
  named_at i = ((item_of naming i).judge inner).it.it

  -- an item of the list
  abbrev pub made_at : Item → Item
  made_at i = (item_of elaborating (named_at i) here).it

  abbrev pub resolved_expr : Expr → Expr
  resolved_expr e = (expr_of elaborating ((expr_of naming e).judge inner).it here).it

  abbrev whole : List Item → Select
  whole list = (select_of elaborating (select_of naming (with_list y list) o).it.it p).it

  abbrev made_filter : Option Expr
  made_filter = option_tree (option_map (λ (m : el.Making). m here) (option_map (λ e. expr_of elaborating e) filter.it))

  abbrev made_order : List Item → List Key
  made_order list = key_trees (map (λ (m : el.Sorting). m here) (map (λ k. key_of elaborating k) (order list).it))

  abbrev made_limit : Option Expr
  made_limit = option_tree (option_map (λ (m : el.Making). m here) (option_map (λ e. expr_of elaborating e) limit.it))

  pub record Resolved (list : List Item) (x : Select) : Type 0 where
    pub list_is : (out-Select x).list ≡ map made_at list
    pub from_is : (out-Select x).from ≡ from_trees parts
    pub filter_is : (out-Select x).filter ≡ made_filter
    pub order_is : (out-Select x).order ≡ made_order list
    pub limit_is : (out-Select x).limit ≡ made_limit

  named_list : (is : List n.Entry) (acc : Noted (Shown (List Item))) → (fold (λ a i. n.with_item a (i.judge inner)) acc is).it.it ≡ acc.it.it ++ map (λ (i : n.Entry). (i.judge inner).it.it) is
  named_list [] acc = nothing_behind acc.it.it
  named_list (i ∷ is) acc = named_list is (n.with_item acc (i.judge inner)) ∙ list_appended acc.it.it (i.judge inner).it.it (map (λ (i : n.Entry). (i.judge inner).it.it) is)

  names_are : (is : List Item) → map (λ (i : n.Entry). (i.judge inner).it.it) (map (λ i. item_of naming i) is) ≡ map named_at is
  names_are [] = refl
  names_are (i ∷ is) = ap (λ l. named_at i ∷ l) (names_are is)

  trees_are : (is : List Item) → item_trees (map (λ (m : el.Itemizing). m here) (map (λ i. item_of elaborating i) (map named_at is))) ≡ map made_at is
  trees_are [] = refl
  trees_are (i ∷ is) = ap (λ l. made_at i ∷ l) (trees_are is)

  pub resolved_of : (list : List Item) → Resolved list (whole list)
  resolved_of list =
      let named = (n.items inner (map (λ i. item_of naming i) list)).it.it in
      let named_is : named ≡ map named_at list = named_list (map (λ i. item_of naming i) list) n.no_item ∙ names_are list in
      let fields : el.Parts = record {
        list = map (λ i. item_of elaborating i) named;
        from = map (λ f. from_of elaborating f) from.it.items;
        filter = option_map (λ e. expr_of elaborating e) filter.it;
        order = map (λ k. key_of elaborating k) (order list).it;
        limit = option_map (λ e. expr_of elaborating e) limit.it;
      } in
      let whole_is : whole list ≡ (el.selecting fields p).it =
      ap (λ (l : n.Listing). (select_of elaborating (l o).it.it p).it) (eq.of_select naming list (out-Select y).from (out-Select y).filter (out-Select y).order (out-Select y).limit)
      ∙ ap (λ (m : el.Selecting). (m p).it) (eq.of_select elaborating named from.it.items filter.it (order list).it limit.it) in
      let fields_are = ap out-Select whole_is ∙ out-roll-Select _ in
      record {
        list_is = ap (λ f. f.list) fields_are ∙ (ap (λ l. item_trees (map (λ (m : el.Itemizing). m here) (map (λ i. item_of elaborating i) l))) named_is ∙ trees_are list);
        from_is = ap (λ f. f.from) fields_are;
        filter_is = ap (λ f. f.filter) fields_are;
        order_is = ap (λ f. f.order) fields_are;
        limit_is = ap (λ f. f.limit) fields_are;
      }

  pub made_item : (e : Expr) → (out-Item (made_at (item e))).expr ≡ resolved_expr e
  made_item e = refl

  pub made_call : (name : Name) (a b : Expr) → resolved_expr (expr.Call name (a ∷ b ∷ [])) ≡ expr.Call name (resolved_expr a ∷ resolved_expr b ∷ [])
  made_call name a b =
      ap (λ (t : n.Term). (expr_of elaborating (t.judge inner).it here).it) (eq.of_call naming name (a ∷ b ∷ []))
      ∙ ap (λ (m : el.Making). (m here).it) (eq.of_call elaborating name (((expr_of naming a).judge inner).it ∷ ((expr_of naming b).judge inner).it ∷ []))

  -- ---- keys, whatever the list's aliases are

  keys_from : (xs : List n.Sort) (aliases : List (Option Name)) (acc : Noted (List Key)) → (fold (λ a x. added a (x aliases inner)) acc xs).it ≡ acc.it ++ map (λ (x : n.Sort). (x aliases inner).it) xs
  keys_from [] aliases acc = nothing_behind acc.it
  keys_from (x ∷ xs) aliases acc = keys_from xs aliases (added acc (x aliases inner)) ∙ list_appended acc.it (x aliases inner).it (map (λ (x : n.Sort). (x aliases inner).it) xs)

  keys_same : (ks : List Key) (a b : List (Option Name)) → map (λ (x : n.Sort). (x a inner).it) (map (λ k. key_of naming k) ks) ≡ map (λ (x : n.Sort). (x b inner).it) (map (λ k. key_of naming k) ks)
  keys_same [] a b = refl
  keys_same (k ∷ ks) a b = ap (λ l. (key_of naming k b inner).it ∷ l) (keys_same ks a b)

  pub order_same : (list more : List Item) → made_order list ≡ made_order more
  order_same list more =
      let ks = map (λ k. key_of naming k) (out-Select y).order in
      let a = map (λ (i : n.Entry). i.alias) (map (λ i. item_of naming i) list) in
      let b = map (λ (i : n.Entry). i.alias) (map (λ i. item_of naming i) more) in
      ap (λ ks. key_trees (map (λ (m : el.Sorting). m here) (map (λ k. key_of elaborating k) ks)))
      (keys_from ks a (pure []) ∙ (keys_same (out-Select y).order a b ∙ sym (keys_from ks b (pure []))))
