-- The events of each node, by those of its parts as the code puts them.
use Rattle.std.proofs.Common.{◌≡◌, ℕ, Bool, List, [], ◌∷◌, map, Option, Some, None, option_map, refl, sym, ap, ◌∙◌}
use Rattle.away_values.specs.declared.operators.ChainOp.{ChainOp}
use Rattle.away_trees.specs.declared.queries.Expr.{Expr}
use Rattle.away_trees.specs.declared.queries.Expr.TheVariants as expr
use Rattle.away_trees.specs.declared.queries.Expr.TheViews.{roll-Select, roll-Recursive, roll-Query, out-Select, out-Recursive, out-Query, roll-out-Select, roll-out-Recursive, roll-out-Query}
use Rattle.away_trees.specs.declared.queries.Item.{Item}
use Rattle.away_trees.specs.declared.queries.FromItem.{FromItem}
use Rattle.away_trees.specs.declared.queries.Key.{Key}
use Rattle.away_trees.specs.declared.queries.Source.{Source}
use Rattle.away_trees.specs.declared.queries.Source.TheVariants as source
use Rattle.away_trees.specs.declared.queries.Select.{Select}
use Rattle.away_trees.specs.declared.queries.Recursive.{Recursive}
use Rattle.away_trees.specs.declared.queries.Query.{Query}
use Rattle.away_trees.specs.Algebra.{expr_of, item_of, from_of, key_of, source_of, select_of, recursive_of, query_of}
use Rattle.away_trees.proofs.Equations as eq
use Rattle.tree_events.specs.declared.events.Kind.{Kind}
use Rattle.tree_events.specs.declared.events.Kind.TheVariants as kind
use Rattle.tree_events.specs.declared.events.Manner.{Manner}
use Rattle.tree_events.specs.declared.events.Manner.TheVariants.{Whole, Reading}
use Rattle.tree_events.specs.declared.events.TreeEvent.TheVariants as event
use Rattle.tree_events.specs.Events.{Events, Put, node, row, option, itself, link_node, arm_node, else_node, list_and_from, kept_with, shaping, link_put, arm_put, with_put}

-- ---- rows of parts

pub row_map : {X Y : Type 0} (f : Y → Put) (g : X → Y) (xs : List X) (rest : Events) → row f (map g xs) rest ≡ row (λ x. f (g x)) xs rest
row_map f g [] rest = refl
row_map f g (x ∷ xs) rest = ap (f (g x)) (row_map f g xs rest)

pub option_put : {X Y : Type 0} (f : Y → Put) (g : X → Y) (x : Option X) (rest : Events) → option f (option_map g x) rest ≡ option (λ x. f (g x)) x rest
option_put f g None rest = refl
option_put f g (Some x) rest = refl

module _ (m : Manner) where
  abbrev pub E : Expr → Put
  E e = expr_of (shaping m) e

  -- ---- nodes of one, two and three expressions

  pub one_is : (k : Kind) (e x y : Expr) → E e ≡ node k (E x) → y ≡ x → (rest : Events) → node k (E y) rest ≡ E e rest
  one_is k e x y is got rest = ap (λ y. node k (E y) rest) got ∙ ap (λ f. f rest) (sym is)

  pub two_is : (k : Kind) (e x y x' y' : Expr) → E e ≡ node k (λ rest. E x (E y rest)) → x' ≡ x → y' ≡ y → (rest : Events)
      → event.Open k ∷ E x' (E y' (event.Close ∷ rest)) ≡ E e rest
  two_is k e x y x' y' is got got' rest =
      ap (λ x. event.Open k ∷ E x (E y' (event.Close ∷ rest))) got ∙ (ap (λ y. event.Open k ∷ E x (E y (event.Close ∷ rest))) got' ∙ ap (λ f. f rest) (sym is))

  pub three_is : (k : Kind) (e x y z x' y' z' : Expr) → E e ≡ node k (λ rest. E x (E y (E z rest))) → x' ≡ x → y' ≡ y → z' ≡ z → (rest : Events)
      → event.Open k ∷ E x' (E y' (E z' (event.Close ∷ rest))) ≡ E e rest
  three_is k e x y z x' y' z' is got got' got'' rest =
      ap (λ x. event.Open k ∷ E x (E y' (E z' (event.Close ∷ rest)))) got
      ∙ (ap (λ y. event.Open k ∷ E x (E y (E z' (event.Close ∷ rest)))) got'
      ∙ (ap (λ z. event.Open k ∷ E x (E y (E z (event.Close ∷ rest)))) got'' ∙ ap (λ f. f rest) (sym is)))

  -- ---- nodes with lists

  pub chain_is : (e x x' : Expr) (links links' : List (ChainOp × Expr)) → e ≡ expr.Chain x links → x' ≡ x → links' ≡ links → (rest : Events)
      → event.Open kind.Chain ∷ E x' (row (link_put m) links' (event.Close ∷ rest)) ≡ E e rest
  chain_is e x x' links links' is got got' rest =
      ap (λ x. event.Open kind.Chain ∷ E x (row (link_put m) links' (event.Close ∷ rest))) got
      ∙ (ap (λ l. event.Open kind.Chain ∷ E x (row (link_put m) l (event.Close ∷ rest))) got'
      ∙ (ap (λ r. event.Open kind.Chain ∷ E x r) (sym (row_map link_node (λ l. eq.link_of (shaping m) l) links (event.Close ∷ rest)))
      ∙ sym (ap (λ e. E e rest) is ∙ ap (λ f. f rest) (eq.of_chain (shaping m) x links))))

  pub one_of_is : (v : Bool) (e x x' : Expr) (list list' : List Expr) → e ≡ expr.OneOf v x list → x' ≡ x → list' ≡ list → (rest : Events)
      → event.Open (kind.OneOf v) ∷ E x' (row (λ x. E x) list' (event.Close ∷ rest)) ≡ E e rest
  one_of_is v e x x' list list' is got got' rest =
      ap (λ x. event.Open (kind.OneOf v) ∷ E x (row (λ x. E x) list' (event.Close ∷ rest))) got
      ∙ (ap (λ l. event.Open (kind.OneOf v) ∷ E x (row (λ x. E x) l (event.Close ∷ rest))) got'
      ∙ (ap (λ r. event.Open (kind.OneOf v) ∷ E x r) (sym (row_map itself (λ x. E x) list (event.Close ∷ rest)))
      ∙ sym (ap (λ e. E e rest) is ∙ ap (λ f. f rest) (eq.of_oneof (shaping m) v x list))))

  pub call_is : (e : Expr) (name : List ℕ) (list list' : List Expr) → e ≡ expr.Call name list → list' ≡ list → (rest : Events)
      → event.Open kind.Call ∷ event.Name name ∷ row (λ x. E x) list' (event.Close ∷ rest) ≡ E e rest
  call_is e name list list' is got rest =
      ap (λ l. event.Open kind.Call ∷ event.Name name ∷ row (λ x. E x) l (event.Close ∷ rest)) got
      ∙ (ap (λ r. event.Open kind.Call ∷ event.Name name ∷ r) (sym (row_map itself (λ x. E x) list (event.Close ∷ rest)))
      ∙ sym (ap (λ e. E e rest) is ∙ ap (λ f. f rest) (eq.of_call (shaping m) name list)))

  pub cases_is : (e : Expr) (arms arms' : List (Expr × Expr)) (other : Option Expr) → e ≡ expr.Cases arms other → arms' ≡ arms → (rest : Events)
      → event.Open kind.Cases ∷ row (arm_put m) arms' (option (λ x. node kind.Else (E x)) other (event.Close ∷ rest)) ≡ E e rest
  cases_is e arms arms' other is got rest =
      let tail = option (λ x. node kind.Else (E x)) other (event.Close ∷ rest) in
      ap (λ l. event.Open kind.Cases ∷ row (arm_put m) l tail) got
      ∙ (ap (λ r. event.Open kind.Cases ∷ r) (sym (row_map arm_node (λ a. eq.arm_of (shaping m) a) arms tail))
      ∙ (ap (λ r. event.Open kind.Cases ∷ row arm_node (map (λ a. eq.arm_of (shaping m) a) arms) r) (sym (option_put else_node (λ x. E x) other (event.Close ∷ rest)))
      ∙ sym (ap (λ e. E e rest) is ∙ ap (λ f. f rest) (eq.of_cases (shaping m) arms other))))

  -- ---- nodes of a query

  pub scalar_is : (e : Expr) (q q' : Query) → e ≡ expr.Scalar q → q' ≡ q → (rest : Events) → node kind.Scalar (query_of (shaping m) q') rest ≡ E e rest
  scalar_is e q q' is got rest =
      ap (λ q. node kind.Scalar (query_of (shaping m) q) rest) got ∙ sym (ap (λ e. E e rest) is ∙ ap (λ f. f rest) (eq.of_scalar (shaping m) q))

  pub exists_is : (e : Expr) (q q' : Query) → e ≡ expr.Exists q → q' ≡ q → (rest : Events) → node kind.Exists (query_of (shaping m) q') rest ≡ E e rest
  exists_is e q q' is got rest =
      ap (λ q. node kind.Exists (query_of (shaping m) q) rest) got ∙ sym (ap (λ e. E e rest) is ∙ ap (λ f. f rest) (eq.of_exists (shaping m) q))

  pub sub_is : (s : Source) (columns : List (List ℕ)) (q q' : Query) (v : Bool) → s ≡ source.Sub q v → q' ≡ q → (rest : Events)
      → node (kind.Sub v) (query_of (shaping m) q') rest ≡ source_of (shaping m) s columns rest
  sub_is s columns q q' v is got rest =
      ap (λ q. node (kind.Sub v) (query_of (shaping m) q) rest) got
      ∙ sym (ap (λ s. source_of (shaping m) s columns rest) is ∙ ap (λ f. f columns rest) (eq.of_sub (shaping m) q v))

  -- ---- selects, and whole queries

  abbrev pub L : List Item → Put
  L list = node kind.List (row (λ x. item_of (shaping m) x) list)

  abbrev pub F : List FromItem → Put
  F from = node kind.From (row (λ x. from_of (shaping m) x) from)

  abbrev pub O : Kind → Option Expr → Put
  O k e = node k (option (λ x. E x) e)

  abbrev pub K : List Key → Put
  K keys = node kind.Order (row (λ x. key_of (shaping m) x) keys)

  abbrev pub behind : Option Expr → List Key → Option Expr → Put
  behind filter order limit rest = O kind.Filter filter (K order (O kind.Limit limit (event.Leave ∷ rest)))

  list_put : (list : List Item) (rest : Events) → node kind.List (row itself (map (λ x. item_of (shaping m) x) list)) rest ≡ L list rest
  list_put list rest = ap (λ r. event.Open kind.List ∷ r) (row_map itself (λ x. item_of (shaping m) x) list (event.Close ∷ rest))

  from_put : (from : List FromItem) (rest : Events) → node kind.From (row itself (map (λ x. from_of (shaping m) x) from)) rest ≡ F from rest
  from_put from rest = ap (λ r. event.Open kind.From ∷ r) (row_map itself (λ x. from_of (shaping m) x) from (event.Close ∷ rest))

  behind_put : (filter : Option Expr) (order : List Key) (limit : Option Expr) (rest : Events)
      → node kind.Filter (option itself (option_map (λ e. E e) filter)) (node kind.Order (row itself (map (λ x. key_of (shaping m) x) order)) (node kind.Limit (option itself (option_map (λ e. E e) limit)) (event.Leave ∷ rest)))
      ≡ behind filter order limit rest
  behind_put filter order limit rest =
      let last = option_put itself (λ e. E e) limit (event.Close ∷ event.Leave ∷ rest) in
      let keys = row_map itself (λ x. key_of (shaping m) x) order (event.Close ∷ O kind.Limit limit (event.Leave ∷ rest)) in
      let first = option_put itself (λ e. E e) filter (event.Close ∷ K order (O kind.Limit limit (event.Leave ∷ rest))) in
      ap (λ z. node kind.Filter (option itself (option_map (λ e. E e) filter)) (node kind.Order (row itself (map (λ x. key_of (shaping m) x) order)) (event.Open kind.Limit ∷ z))) last
      ∙ (ap (λ z. node kind.Filter (option itself (option_map (λ e. E e) filter)) (event.Open kind.Order ∷ z)) keys ∙ ap (λ z. event.Open kind.Filter ∷ z) first)

pub whole_order : (m : Manner) (list : List Item) (from : List FromItem) (list' : List Item) (from' : List FromItem) → m ≡ Whole → list' ≡ list → from' ≡ from → (rest : Events)
    → F m from' (L m list' rest) ≡ list_and_from m (L m list) (F m from) rest
whole_order Whole list from list' from' is e f rest = λ i. F Whole (f i) (L Whole (e i) rest)
whole_order Reading list from list' from' is e f rest = absurd (cc)

pub reading_order : (m : Manner) (list : List Item) (from : List FromItem) (list' : List Item) (from' : List FromItem) → m ≡ Reading → list' ≡ list → from' ≡ from → (rest : Events)
    → L m list' (F m from' rest) ≡ list_and_from m (L m list) (F m from) rest
reading_order Whole list from list' from' is e f rest = absurd (cc)
reading_order Reading list from list' from' is e f rest = λ i. L Reading (e i) (F Reading (f i) rest)

both_put : (m n : Manner) (list : List Item) (from : List FromItem) (rest : Events)
    → list_and_from n (node kind.List (row itself (map (λ x. item_of (shaping m) x) list))) (node kind.From (row itself (map (λ x. from_of (shaping m) x) from))) rest
    ≡ list_and_from n (L m list) (F m from) rest
both_put m Whole list from rest =
    from_put m from (node kind.List (row itself (map (λ x. item_of (shaping m) x) list)) rest) ∙ ap (λ z. F m from z) (list_put m list rest)
both_put m Reading list from rest =
    list_put m list (node kind.From (row itself (map (λ x. from_of (shaping m) x) from)) rest) ∙ ap (λ z. L m list z) (from_put m from rest)

pub rolled_select : (m : Manner) (list : List Item) (from : List FromItem) (filter : Option Expr) (order : List Key) (limit : Option Expr) (rest : Events)
    → event.Enter ∷ list_and_from m (L m list) (F m from) (behind m filter order limit rest)
    ≡ select_of (shaping m) (roll-Select (record { list = list; from = from; filter = filter; order = order; limit = limit })) rest
rolled_select m list from filter order limit rest =
    sym
    (ap (λ p. p rest) (eq.of_select (shaping m) list from filter order limit)
    ∙ ((λ i. event.Enter ∷ list_and_from m (node kind.List (row itself (map (λ x. item_of (shaping m) x) list))) (node kind.From (row itself (map (λ x. from_of (shaping m) x) from))) (behind_put m filter order limit rest i))
    ∙ ap (λ z. event.Enter ∷ z) (both_put m m list from (behind m filter order limit rest))))

pub select_is : (m : Manner) (s : Select) (order : List Key) → order ≡ (out-Select s).order → (rest : Events)
    → event.Enter ∷ list_and_from m (L m (out-Select s).list) (F m (out-Select s).from) (behind m (out-Select s).filter order (out-Select s).limit rest)
    ≡ select_of (shaping m) s rest
select_is m s order g rest =
    let v = out-Select s in
    (λ i. event.Enter ∷ list_and_from m (L m v.list) (F m v.from) (behind m v.filter (g i) v.limit rest))
    ∙ (rolled_select m v.list v.from v.filter v.order v.limit rest ∙ ap (λ s. select_of (shaping m) s rest) (roll-out-Select s))

pub rolled_recursive : (m : Manner) (name : List ℕ) (columns : List (List ℕ)) (first : List Select) (second : Select) (rest : Events)
    → event.Open kind.Recursive ∷ event.Open kind.First ∷ row (λ s. select_of (shaping m) s) first (event.Close ∷ select_of (shaping m) second (event.Close ∷ rest))
    ≡ recursive_of (shaping m) (roll-Recursive (record { name = name; columns = columns; first = first; second = second })) rest
rolled_recursive m name columns first second rest =
    let behind = event.Close ∷ select_of (shaping m) second (event.Close ∷ rest) in
    ap (λ z. event.Open kind.Recursive ∷ event.Open kind.First ∷ z) (sym (row_map itself (λ s. select_of (shaping m) s) first behind))
    ∙ sym (ap (λ f. f rest) (eq.of_recursive (shaping m) name columns first second))

pub recursive_is : (m : Manner) (r : Recursive) (first : List Select) → first ≡ (out-Recursive r).first → (rest : Events)
    → event.Open kind.Recursive ∷ event.Open kind.First ∷ row (λ s. select_of (shaping m) s) first (event.Close ∷ select_of (shaping m) (out-Recursive r).second (event.Close ∷ rest))
    ≡ recursive_of (shaping m) r rest
recursive_is m r first e rest =
    let v = out-Recursive r in
    let behind = event.Close ∷ select_of (shaping m) v.second (event.Close ∷ rest) in
    ap (λ l. event.Open kind.Recursive ∷ event.Open kind.First ∷ row (λ s. select_of (shaping m) s) l behind) e
    ∙ (ap (λ z. event.Open kind.Recursive ∷ event.Open kind.First ∷ z) (sym (row_map itself (λ s. select_of (shaping m) s) v.first behind))
    ∙ sym (ap (λ r. recursive_of (shaping m) r rest) (sym (roll-out-Recursive r)) ∙ ap (λ f. f rest) (eq.of_recursive (shaping m) v.name v.columns v.first v.second)))

with_is : (m : Manner) (r : Option Recursive) (rest : Events) → kept_with m (option_map (λ r. recursive_of (shaping m) r) r) rest ≡ with_put m r rest
with_is m None rest = refl
with_is Whole (Some r) rest = refl
with_is Reading (Some r) rest = refl

pub query_is : (m : Manner) (q : Query) (selects : List Select) → selects ≡ (out-Query q).selects → (rest : Events)
    → event.Open kind.Query ∷ event.Open kind.With ∷ with_put m (out-Query q).recursive (event.Close ∷ row (λ s. select_of (shaping m) s) selects (event.Close ∷ rest))
    ≡ query_of (shaping m) q rest
query_is m q selects e rest =
    let v = out-Query q in
    ap (λ l. event.Open kind.Query ∷ event.Open kind.With ∷ with_put m v.recursive (event.Close ∷ row (λ s. select_of (shaping m) s) l (event.Close ∷ rest))) e
    ∙ (ap (λ z. event.Open kind.Query ∷ event.Open kind.With ∷ with_put m v.recursive (event.Close ∷ z)) (sym (row_map itself (λ s. select_of (shaping m) s) v.selects (event.Close ∷ rest)))
    ∙ (ap (λ z. event.Open kind.Query ∷ event.Open kind.With ∷ z) (sym (with_is m v.recursive (event.Close ∷ row itself (map (λ s. select_of (shaping m) s) v.selects) (event.Close ∷ rest))))
    ∙ sym (ap (λ q. query_of (shaping m) q rest) (sym (roll-out-Query q)) ∙ ap (λ f. f rest) (eq.query_roll (shaping m) v.recursive v.selects))))

-- ---- a query of its parts

abbrev pub with_puts : Option Recursive → Put
with_puts = with_put Whole

pub rolled_query : (r : Option Recursive) (selects : List Select) (rest : Events)
    → event.Open kind.Query ∷ event.Open kind.With ∷ with_puts r (event.Close ∷ row (λ s. select_of (shaping Whole) s) selects (event.Close ∷ rest))
    ≡ query_of (shaping Whole) (roll-Query (record { recursive = r; selects = selects })) rest
rolled_query r selects rest =
    ap (λ z. event.Open kind.Query ∷ event.Open kind.With ∷ with_puts r (event.Close ∷ z)) (sym (row_map itself (λ s. select_of (shaping Whole) s) selects (event.Close ∷ rest)))
    ∙ (ap (λ z. event.Open kind.Query ∷ event.Open kind.With ∷ z) (sym (with_is Whole r (event.Close ∷ row itself (map (λ s. select_of (shaping Whole) s) selects) (event.Close ∷ rest))))
    ∙ sym (ap (λ f. f rest) (eq.query_roll (shaping Whole) r selects)))
