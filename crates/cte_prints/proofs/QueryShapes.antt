-- What is like an item, a key, an item of FROM, a select and a query, by their parts.
use Rattle.std.proofs.Common.{◌≡◌, ℕ, Bool, List, [], Option, None, refl, sym, ap, subst, ◌∙◌, ◌&&◌}
use Rattle.std.specs.List.{list_all}
use Rattle.away_trees.specs.declared.queries.Expr.{Expr}
use Rattle.away_trees.specs.declared.queries.Source.{Source}
use Rattle.away_trees.specs.declared.queries.Source.TheVariants as source
use Rattle.away_trees.specs.declared.queries.FromItem.{FromItem}
use Rattle.away_trees.specs.declared.queries.Item.{Item}
use Rattle.away_trees.specs.declared.queries.Key.{Key}
use Rattle.away_trees.specs.declared.queries.Select.{Select}
use Rattle.away_trees.specs.declared.queries.Recursive.{Recursive}
use Rattle.away_trees.specs.declared.queries.Query.{Query}
use Rattle.away_trees.specs.declared.queries.Expr.TheOpen.{Source-F, FromItem-F, Item-F, Key-F, Select-F, Query-F}
use Rattle.away_trees.specs.declared.queries.Expr.TheOpen as ex
use Rattle.away_trees.specs.declared.queries.Expr.TheViews.{out-Item, out-FromItem, out-Key, out-Select, out-Query, out-Source, roll-Item, roll-FromItem}
use Rattle.away_trees.specs.declared.queries.Expr.TheViews.{roll-Key, roll-Select, roll-Query, roll-Source}
use Rattle.away_trees.specs.declared.queries.Expr.TheViews.{out-roll-Item, out-roll-FromItem, out-roll-Key, out-roll-Select, out-roll-Query, out-roll-Source}
use Rattle.away_grammar.specs.Grammar.{is_empty, is_none, is_plain, may_join}
use Rattle.cte_prints.specs.Like.{IsLike, value, maybe, item, items, key, keys, from_item, from_items, select, selects, query}
use Rattle.cte_prints.specs.Like as k

abbrev pub ItemFields : Type 0
ItemFields = Item-F Expr Source FromItem Item Key Query Recursive Select

abbrev pub KeyFields : Type 0
KeyFields = Key-F Expr Source FromItem Item Key Query Recursive Select

abbrev pub SourceNode : Type 0
SourceNode = Source-F Expr Source FromItem Item Key Query Recursive Select

abbrev pub FromFields : Type 0
FromFields = FromItem-F Expr Source FromItem Item Key Query Recursive Select

abbrev pub SelectFields : Type 0
SelectFields = Select-F Expr Source FromItem Item Key Query Recursive Select

abbrev pub QueryFields : Type 0
QueryFields = Query-F Expr Source FromItem Item Key Query Recursive Select

-- ---- items and keys

pub data LikeItem (f : ItemFields) : Item → Type 0 where
  an_item : {u : Expr} → IsLike value f.expr u → LikeItem f (roll-Item (record { expr = u; alias = f.alias }))
  a_bare_item : {u : Expr} → IsLike value f.expr u → LikeItem f (roll-Item (record { expr = u; alias = None }))

item_shaped : {x u : Item} → IsLike item x u → LikeItem (out-Item x) u
item_shaped (k.an_item {x = x} {u = u} alias h) =
    subst (λ f. LikeItem f (roll-Item (record { expr = u; alias = alias }))) (sym (out-roll-Item (record { expr = x; alias = alias }))) (an_item h)
item_shaped (k.a_bare_item {x = x} {u = u} alias h) =
    subst (λ f. LikeItem f (roll-Item (record { expr = u; alias = None }))) (sym (out-roll-Item (record { expr = x; alias = alias }))) (a_bare_item h)

pub item_shape : (f : ItemFields) {u : Item} → IsLike item (roll-Item f) u → LikeItem f u
item_shape f {u = u} h = subst (λ f. LikeItem f u) (out-roll-Item f) (item_shaped h)

pub data LikeKey (f : KeyFields) : Key → Type 0 where
  a_key : {u : Expr} → IsLike value f.expr u → LikeKey f (roll-Key (record { expr = u; descending = f.descending }))

key_shaped : {x u : Key} → IsLike key x u → LikeKey (out-Key x) u
key_shaped (k.a_key {x = x} {u = u} descending h) =
    subst (λ f. LikeKey f (roll-Key (record { expr = u; descending = descending }))) (sym (out-roll-Key (record { expr = x; descending = descending })))
    (a_key h)

pub key_shape : (f : KeyFields) {u : Key} → IsLike key (roll-Key f) u → LikeKey f u
key_shape f {u = u} h = subst (λ f. LikeKey f u) (out-roll-Key f) (key_shaped h)

-- ---- FROM

pub data LikeTable (n alias : List ℕ) : FromItem → Type 0 where
  table : LikeTable n alias (roll-FromItem (record { source = source.Table n; alias = alias; columns = [] }))

pub data LikeSub (q : Query) (lateral : Bool) (alias : List ℕ) (columns : List (List ℕ)) : FromItem → Type 0 where
  subquery : {p : Query} → IsLike query q p
      → LikeSub q lateral alias columns (roll-FromItem (record { source = source.Sub p lateral; alias = alias; columns = columns }))

abbrev LikeSource : SourceNode → List ℕ → List (List ℕ) → FromItem → Type 0
LikeSource (ex.Table n) alias columns u = LikeTable n alias u
LikeSource (ex.Sub q lateral) alias columns u = LikeSub q lateral alias columns u

abbrev LikeFrom : FromFields → FromItem → Type 0
LikeFrom f u = LikeSource (out-Source f.source) f.alias f.columns u

see_table : (n : List ℕ) → out-Source (source.Table n) ≡ ex.Table n
unfolding roll-Source denote.Hole.Carrier.roll
see_table n = out-roll-Source (ex.Table n)

see_sub : (q : Query) (lateral : Bool) → out-Source (source.Sub q lateral) ≡ ex.Sub q lateral
unfolding roll-Source denote.Hole.Carrier.roll
see_sub q lateral = out-roll-Source (ex.Sub q lateral)

from_so : (u : FromItem) (f : FromFields) (s : SourceNode) → out-Source f.source ≡ s → LikeSource s f.alias f.columns u
    → LikeFrom (out-FromItem (roll-FromItem f)) u
from_so u f s h j = subst (λ f. LikeFrom f u) (sym (out-roll-FromItem f)) (subst (λ s. LikeSource s f.alias f.columns u) (sym h) j)

from_shaped : {x u : FromItem} → IsLike from_item x u → LikeFrom (out-FromItem x) u
from_shaped (k.table n alias) = from_so _ (record { source = source.Table n; alias = alias; columns = [] }) (ex.Table n) (see_table n) table
from_shaped (k.subquery {q = q} alias columns lateral h) =
    from_so _ (record { source = source.Sub q lateral; alias = alias; columns = columns }) (ex.Sub q lateral) (see_sub q lateral) (subquery h)

from_shape : (f : FromFields) (s : SourceNode) {u : FromItem} → out-Source f.source ≡ s → IsLike from_item (roll-FromItem f) u
    → LikeSource s f.alias f.columns u
from_shape f s {u = u} h j = subst (λ s. LikeSource s f.alias f.columns u) h (subst (λ f. LikeFrom f u) (out-roll-FromItem f) (from_shaped j))

pub table_shape : (n alias : List ℕ) {u : FromItem} → IsLike from_item (roll-FromItem (record { source = source.Table n; alias = alias; columns = [] })) u
    → LikeTable n alias u
table_shape n alias h = from_shape (record { source = source.Table n; alias = alias; columns = [] }) (ex.Table n) (see_table n) h

pub sub_shape : (q : Query) (lateral : Bool) (alias : List ℕ) (columns : List (List ℕ)) {u : FromItem}
    → IsLike from_item (roll-FromItem (record { source = source.Sub q lateral; alias = alias; columns = columns })) u → LikeSub q lateral alias columns u
sub_shape q lateral alias columns h =
    from_shape (record { source = source.Sub q lateral; alias = alias; columns = columns }) (ex.Sub q lateral) (see_sub q lateral) h

-- ---- selects

pub data LikeSelect (f : SelectFields) : Select → Type 0 where
  whole : {lists : List Item} {froms : List FromItem} {filters limits : Option Expr} {orders : List Key}
      → IsLike items f.list lists → IsLike from_items f.from froms → IsLike maybe f.filter filters → IsLike keys f.order orders → IsLike maybe f.limit limits
      → LikeSelect f (roll-Select (record { list = lists; from = froms; filter = filters; order = orders; limit = limits }))

select_shaped : {x u : Select} → IsLike select x u → LikeSelect (out-Select x) u
select_shaped {u = s} (k.whole {list = list} {from = from} {filter = filter} {limit = limit} {order = order} h i j l n) =
    subst (λ f. LikeSelect f s) (sym (out-roll-Select (record { list = list; from = from; filter = filter; order = order; limit = limit }))) (whole h i j l n)

pub select_shape : (f : SelectFields) {u : Select} → IsLike select (roll-Select f) u → LikeSelect f u
select_shape f {u = u} h = subst (λ f. LikeSelect f u) (out-roll-Select f) (select_shaped h)

-- ---- queries

pub data LikeQuery (f : QueryFields) : Query → Type 0 where
  union : {us : List Select} → f.recursive ≡ None → IsLike selects f.selects us → LikeQuery f (roll-Query (record { recursive = None; selects = us }))

query_shaped : {x u : Query} → IsLike query x u → LikeQuery (out-Query x) u
query_shaped {u = q} (k.union {xs = xs} h) = subst (λ f. LikeQuery f q) (sym (out-roll-Query (record { recursive = None; selects = xs }))) (union refl h)

pub query_shape : (f : QueryFields) {u : Query} → IsLike query (roll-Query f) u → LikeQuery f u
query_shape f {u = u} h = subst (λ f. LikeQuery f u) (out-roll-Query f) (query_shaped h)

-- ---- what may be joined

empty_so : {xs us : List Key} → IsLike keys xs us → is_empty us ≡ is_empty xs
empty_so k.no_key = refl
empty_so (k.one_key h j) = refl

none_so : {x u : Option Expr} → IsLike maybe x u → is_none u ≡ is_none x
none_so k.nothing = refl
none_so (k.something h) = refl

plain_by : (f g : SelectFields) → is_empty g.order ≡ is_empty f.order → is_none g.limit ≡ is_none f.limit → is_plain (roll-Select g) ≡ is_plain (roll-Select f)
plain_by f g h j =
    ap (λ (s : SelectFields). is_empty s.order && is_none s.limit) (out-roll-Select g)
    ∙ ((λ i. h i && j i) ∙ sym (ap (λ (s : SelectFields). is_empty s.order && is_none s.limit) (out-roll-Select f)))

plain_so : {x u : Select} → IsLike select x u → is_plain u ≡ is_plain x
plain_so (k.whole h i j l n) = plain_by _ _ (empty_so l) (none_so n)

all_plain_so : {xs us : List Select} → IsLike selects xs us → list_all is_plain us ≡ list_all is_plain xs
all_plain_so k.no_select = refl
all_plain_so (k.one_select h j) = λ i. plain_so h i && all_plain_so j i

pub may_join_so : {xs us : List Select} → IsLike selects xs us → may_join us ≡ may_join xs
may_join_so k.no_select = refl
may_join_so (k.one_select h k.no_select) = refl
may_join_so (k.one_select h (k.one_select j l)) = all_plain_so (k.one_select h (k.one_select j l))
