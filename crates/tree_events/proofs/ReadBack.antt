-- The events of a query determine the query without its names: they are read back, node by node.
use Rattle.std.proofs.Common.{◌≡◌, refl, ap, sym, ◌∙◌, ℕ, Bool, false, List, [], ◌∷◌, ◌++◌, map, take, Option, Some, None, append_assoc, append-nil}
use Rattle.away_values.specs.declared.operators.ChainOp.{ChainOp}
use Rattle.away_trees.specs.declared.queries.Expr.{Expr}
use Rattle.away_trees.specs.declared.queries.Expr.TheVariants as expr
use Rattle.away_trees.specs.declared.queries.Expr.TheOpen as ex
use Rattle.away_trees.specs.declared.queries.Expr.TheViews.{roll-Item, roll-FromItem, roll-Key, roll-Select, roll-Recursive, roll-Query}
use Rattle.away_trees.specs.declared.queries.Source.{Source}
use Rattle.away_trees.specs.declared.queries.Source.TheVariants as source
use Rattle.away_trees.specs.declared.queries.FromItem.{FromItem}
use Rattle.away_trees.specs.declared.queries.Item.{Item}
use Rattle.away_trees.specs.declared.queries.Key.{Key}
use Rattle.away_trees.specs.declared.queries.Select.{Select}
use Rattle.away_trees.specs.declared.queries.Recursive.{Recursive}
use Rattle.away_trees.specs.declared.queries.Query.{Query}
use Rattle.sql_meaning.specs.Names.{nameless, bare_columns, bare}
use Rattle.sql_meaning.proofs.Related.{Alike, AlikeOption, AlikeLink, AlikeArm, Relation, IsKept, query_related}
use Rattle.tree_events.specs.declared.events.Kind.{Kind}
use Rattle.tree_events.specs.declared.events.Kind.TheVariants as kind
use Rattle.tree_events.specs.declared.events.Manner.TheVariants.{Whole}
use Rattle.tree_events.specs.declared.events.TreeEvent.TheVariants as event
use Rattle.tree_events.specs.Events.{Events, Put, SourcePut, node, row, option, itself, link_node, arm_node, else_node, kept_with, shaping, events_of_query}

-- ---- what was read

data Part : Type 0 where
  an_expr : Expr → Part
  a_query : Query → Part
  a_select : Select → Part
  a_from : FromItem → Part
  a_key : Key → Part
  a_link : ChainOp × Expr → Part
  an_arm : Expr × Expr → Part
  an_else : Expr → Part
  a_list : List Item → Part
  froms : List FromItem → Part
  perhaps : Option Expr → Part
  an_order : List Key → Part
  a_recursive : Recursive → Part
  firsts : List Select → Part
  a_with : Option Recursive → Part
  a_text : List ℕ → Part

abbrev the_expr : Part → Expr
the_expr (an_expr e) = e
the_expr _ = expr.Null

abbrev no_query : Query
no_query = roll-Query (record { recursive = None; selects = [] })

abbrev the_query : Part → Query
the_query (a_query q) = q
the_query _ = no_query

abbrev no_select : Select
no_select = roll-Select (record { list = []; from = []; filter = None; order = []; limit = None })

abbrev the_select : Part → Select
the_select (a_select s) = s
the_select _ = no_select

abbrev the_from : Part → FromItem
the_from (a_from f) = f
the_from _ = roll-FromItem (record { source = source.Table []; alias = []; columns = [] })

abbrev the_key : Part → Key
the_key (a_key k) = k
the_key _ = roll-Key (record { expr = expr.Null; descending = false })

abbrev the_text : Part → List ℕ
the_text (a_text t) = t
the_text _ = []

abbrev links_in : List Part → List (ChainOp × Expr)
links_in [] = []
links_in (a_link l ∷ ps) = l ∷ links_in ps
links_in (_ ∷ ps) = links_in ps

abbrev arms_in : List Part → List (Expr × Expr)
arms_in [] = []
arms_in (an_arm a ∷ ps) = a ∷ arms_in ps
arms_in (_ ∷ ps) = arms_in ps

abbrev else_in : List Part → Option Expr
else_in [] = None
else_in (an_else e ∷ ps) = Some e
else_in (_ ∷ ps) = else_in ps

abbrev as_item : Expr → Item
as_item e = roll-Item (record { expr = e; alias = None })

abbrev one : (Part → Part) → List Part → Part
one f [] = an_expr expr.Null
one f (p ∷ ps) = f p

abbrev two : (Part → Part → Part) → List Part → Part
two f [] = an_expr expr.Null
two f (p ∷ ps) = one (f p) ps

abbrev three : (Part → Part → Part → Part) → List Part → Part
three f [] = an_expr expr.Null
three f (p ∷ ps) = two (f p) ps

-- a part, and all behind it
abbrev with_rest : (Part → List Part → Part) → List Part → Part
with_rest f [] = an_expr expr.Null
with_rest f (p ∷ ps) = f p ps

abbrev optional : List Part → Option Expr
optional [] = None
optional (p ∷ ps) = Some (the_expr p)

abbrev recursive_in : List Part → Option Recursive
recursive_in (a_recursive r ∷ ps) = Some r
recursive_in _ = None

abbrev the_perhaps : Part → Option Expr
the_perhaps (perhaps e) = e
the_perhaps _ = None

abbrev the_list : Part → List Item
the_list (a_list l) = l
the_list _ = []

abbrev the_froms : Part → List FromItem
the_froms (froms l) = l
the_froms _ = []

abbrev the_order : Part → List Key
the_order (an_order l) = l
the_order _ = []

abbrev the_firsts : Part → List Select
the_firsts (firsts l) = l
the_firsts _ = []

abbrev the_with : Part → Option Recursive
the_with (a_with r) = r
the_with _ = None

-- a node of a kind, by its parts
abbrev make : Kind → List Part → Part
make (kind.Int n) ps = an_expr (expr.Int n)
make kind.Str ps = one (λ t. an_expr (expr.Str (the_text t))) ps
make (kind.Bool v) ps = an_expr (expr.Bool v)
make kind.Null ps = an_expr expr.Null
make kind.Named ps = one (λ n. an_expr (expr.Named (the_text n))) ps
make kind.Dotted ps = two (λ a n. an_expr (expr.Dotted (the_text a) (the_text n))) ps
make (kind.Slot i) ps = an_expr (expr.Slot i)
make (kind.Column c) ps = an_expr (expr.Column c)
make (kind.Param i t) ps = an_expr (expr.Param i t)
make kind.Neg ps = one (λ e. an_expr (expr.Neg (the_expr e))) ps
make kind.NegSmall ps = one (λ e. an_expr (expr.NegSmall (the_expr e))) ps
make kind.Not ps = one (λ e. an_expr (expr.Not (the_expr e))) ps
make (kind.Is test v) ps = one (λ e. an_expr (expr.Is (the_expr e) test v)) ps
make kind.Chain ps = with_rest (λ e ls. an_expr (expr.Chain (the_expr e) (links_in ls))) ps
make (kind.Link op) ps = one (λ e. a_link (op, the_expr e)) ps
make (kind.Compare op) ps = two (λ x y. an_expr (expr.Compare op (the_expr x) (the_expr y))) ps
make (kind.Between v) ps = three (λ x y z. an_expr (expr.Between v (the_expr x) (the_expr y) (the_expr z))) ps
make (kind.OneOf v) ps = with_rest (λ e es. an_expr (expr.OneOf v (the_expr e) (map the_expr es))) ps
make (kind.Cast t) ps = one (λ e. an_expr (expr.Cast (the_expr e) t)) ps
make kind.Cases ps = an_expr (expr.Cases (arms_in ps) (else_in ps))
make kind.Arm ps = two (λ x y. an_arm (the_expr x, the_expr y)) ps
make kind.Else ps = one (λ e. an_else (the_expr e)) ps
make kind.Call ps = with_rest (λ n es. an_expr (expr.Call (the_text n) (map the_expr es))) ps
make kind.CountRows ps = an_expr expr.CountRows
make kind.Scalar ps = one (λ q. an_expr (expr.Scalar (the_query q))) ps
make kind.Exists ps = one (λ q. an_expr (expr.Exists (the_query q))) ps
make kind.Table ps = a_from (roll-FromItem (record { source = source.Table []; alias = []; columns = map the_text ps }))
make (kind.Sub v) ps = one (λ q. a_from (roll-FromItem (record { source = source.Sub (the_query q) v; alias = []; columns = [] }))) ps
make (kind.Key v) ps = one (λ e. a_key (roll-Key (record { expr = the_expr e; descending = v }))) ps
make kind.List ps = a_list (map (λ p. as_item (the_expr p)) ps)
make kind.From ps = froms (map the_from ps)
make kind.Filter ps = perhaps (optional ps)
make kind.Order ps = an_order (map the_key ps)
make kind.Limit ps = perhaps (optional ps)
make kind.Recursive ps = two (λ f s. a_recursive (roll-Recursive (record { name = []; columns = []; first = the_firsts f; second = the_select s }))) ps
make kind.First ps = firsts (map the_select ps)
make kind.With ps = a_with (recursive_in ps)
make kind.Query ps = with_rest (λ w ss. a_query (roll-Query (record { recursive = the_with w; selects = map the_select ss }))) ps

abbrev made_select : Part → Part → Part → Part → Part → Part
made_select f l w o m = a_select (roll-Select (record { list = the_list l; from = the_froms f; filter = the_perhaps w; order = the_order o; limit = the_perhaps m }))

abbrev make_select : List Part → Part
make_select ps = with_rest (λ f ps. with_rest (λ l ps. three (made_select f l) ps) ps) ps

-- an open node
data Frame : Type 0 where
  at : Kind → List Part → Frame
  within : List Part → Frame

abbrev add : Frame → Part → Frame
add (at k ps) p = at k (ps ++ p ∷ [])
add (within ps) p = within (ps ++ p ∷ [])

abbrev made : Frame → Part
made (at k ps) = make k ps
made (within ps) = make_select ps

-- the innermost open node, with those around it
abbrev read : Events → Frame → List Frame → Frame
read [] f st = f
read (event.Open k ∷ ss) f st = read ss (at k []) (f ∷ st)
read (event.Enter ∷ ss) f st = read ss (within []) (f ∷ st)
read (event.Text t ∷ ss) f st = read ss (add f (a_text t)) st
read (event.Name t ∷ ss) f st = read ss (add f (a_text t)) st
read (event.Close ∷ ss) f [] = f
read (event.Close ∷ ss) f (g ∷ st) = read ss (add g (made f)) st
read (event.Leave ∷ ss) f [] = f
read (event.Leave ∷ ss) f (g ∷ st) = read ss (add g (made f)) st

-- ---- the events of a part are read as that part

abbrev Reads : Put → Part → Type 0
Reads x p = (rest : Events) (f : Frame) (st : List Frame) → read (x rest) f st ≡ read rest (add f p) st

abbrev adds : Frame → List Part → Frame
adds f [] = f
adds f (p ∷ ps) = adds (add f p) ps

adds_at : (k : Kind) (xs ps : List Part) → adds (at k xs) ps ≡ at k (xs ++ ps)
adds_at k xs [] = ap (at k) (sym (append-nil xs))
adds_at k xs (p ∷ ps) = adds_at k (xs ++ p ∷ []) ps ∙ ap (at k) (append_assoc xs (p ∷ []) ps)

-- a row of parts
module _ {X Z W : Type 0} (R : X → Z → W → Type 0) (f : X → Put) (part : Z → Part) (reads : (x : X) (z : Z) (w : W) → R x z w → Reads (f x) (part z)) where
  row_read : (xs : List X) (zs : List Z) (ws : List W) → Alike R xs zs ws → (rest : Events) (g : Frame) (st : List Frame)
      → read (row f xs rest) g st ≡ read rest (adds g (map part zs)) st
  row_read [] [] [] r rest g st = refl
  row_read (x ∷ xs) (z ∷ zs) (w ∷ ws) r rest g st =
      reads x z w r.0 (row f xs rest) g st ∙ row_read xs zs ws r.1 rest (add g (part z)) st
  row_read _ _ _ r rest g st = absurd r

-- a node of a row of parts alone
node_read : (k : Kind) (parts : Put) (ps : List Part) (p : Part) → ((rest : Events) (g : Frame) (st : List Frame) → read (parts rest) g st ≡ read rest (adds g ps) st)
    → make k ps ≡ p → Reads (node k parts) p
node_read k parts ps p reads makes rest f st =
    reads (event.Close ∷ rest) (at k []) (f ∷ st)
    ∙ (ap (λ g. read rest (add f (made g)) st) (adds_at k [] ps) ∙ ap (λ p. read rest (add f p) st) makes)

-- ---- lists of parts are theirs again

each_is : {Z : Type 0} (part : Z → Part) (the : Part → Z) → ((z : Z) → the (part z) ≡ z) → (zs : List Z) → map the (map part zs) ≡ zs
each_is part the is [] = refl
each_is part the is (z ∷ zs) = λ i. is z i ∷ each_is part the is zs i

links_are : (ls : List (ChainOp × Expr)) → links_in (map a_link ls) ≡ ls
links_are [] = refl
links_are (l ∷ ls) = ap (λ ls. l ∷ ls) (links_are ls)

abbrev else_parts : Option Expr → List Part
else_parts None = []
else_parts (Some e) = an_else e ∷ []

arms_are : (arms : List (Expr × Expr)) (o : Option Expr) → arms_in (map an_arm arms ++ else_parts o) ≡ arms
arms_are [] None = refl
arms_are [] (Some e) = refl
arms_are (a ∷ arms) o = ap (λ arms. a ∷ arms) (arms_are arms o)

else_is : (arms : List (Expr × Expr)) (o : Option Expr) → else_in (map an_arm arms ++ else_parts o) ≡ o
else_is [] None = refl
else_is [] (Some e) = refl
else_is (a ∷ arms) o = else_is arms o

adds_more : (f : Frame) (ps qs : List Part) → adds (adds f ps) qs ≡ adds f (ps ++ qs)
adds_more f [] qs = refl
adds_more f (p ∷ ps) qs = adds_more (add f p) ps qs

-- ---- the relation of events and of the tree without names; the third algebra doesn't matter

abbrev Exprs : Put → Expr → Expr → Type 0
Exprs x z w = Reads x (an_expr z)

abbrev Sources : SourcePut → Source → Source → Type 0
Sources x z w = (columns : List (List ℕ)) → Reads (x columns) (a_from (roll-FromItem (record { source = z; alias = []; columns = bare_columns z columns })))

abbrev Froms : Put → FromItem → FromItem → Type 0
Froms x z w = Reads x (a_from z)

record Items (x : Put) (z w : Item) : Type 0 where
  of : Expr
  is : z ≡ as_item of
  reads : Reads x (an_expr of)

abbrev Keys : Put → Key → Key → Type 0
Keys x z w = Reads x (a_key z)

abbrev Queries : Put → Query → Query → Type 0
Queries x z w = Reads x (a_query z)

abbrev Recursives : Put → Recursive → Recursive → Type 0
Recursives x z w = Reads x (a_recursive z)

abbrev Selects : Put → Select → Select → Type 0
Selects x z w = Reads x (a_select z)

abbrev relation : Relation (shaping Whole) nameless nameless
relation =
    record {
      Exprs = Exprs;
      Sources = Sources;
      Froms = Froms;
      Items = Items;
      Keys = Keys;
      Queries = Queries;
      Recursives = Recursives;
      Selects = Selects;
    }

-- ---- nodes with lists

exprs_read : (xs : List Put) (zs ws : List Expr) → Alike Exprs xs zs ws → (rest : Events) (g : Frame) (st : List Frame)
    → read (row itself xs rest) g st ≡ read rest (adds g (map an_expr zs)) st
exprs_read = row_read Exprs itself an_expr (λ x z w r. r)

link_reads : (x : ChainOp × Put) (z w : ChainOp × Expr) → AlikeLink Exprs x z w → Reads (link_node x) (a_link z)
link_reads x z w r rest f st =
    r.2 (event.Close ∷ rest) (at (kind.Link x.0) []) (f ∷ st) ∙ ap (λ op. read rest (add f (a_link (op, z.1))) st) (sym r.0)

links_read : (xs : List (ChainOp × Put)) (zs ws : List (ChainOp × Expr)) → Alike (AlikeLink Exprs) xs zs ws → (rest : Events) (g : Frame) (st : List Frame)
    → read (row link_node xs rest) g st ≡ read rest (adds g (map a_link zs)) st
links_read = row_read (AlikeLink Exprs) link_node a_link link_reads

arm_reads : (x : Put × Put) (z w : Expr × Expr) → AlikeArm Exprs x z w → Reads (arm_node x) (an_arm z)
arm_reads x z w r rest f st =
    r.0 (x.1 (event.Close ∷ rest)) (at kind.Arm []) (f ∷ st) ∙ r.1 (event.Close ∷ rest) (at kind.Arm (an_expr z.0 ∷ [])) (f ∷ st)

arms_read : (xs : List (Put × Put)) (zs ws : List (Expr × Expr)) → Alike (AlikeArm Exprs) xs zs ws → (rest : Events) (g : Frame) (st : List Frame)
    → read (row arm_node xs rest) g st ≡ read rest (adds g (map an_arm zs)) st
arms_read = row_read (AlikeArm Exprs) arm_node an_arm arm_reads

else_read : (x : Option Put) (z w : Option Expr) → AlikeOption Exprs x z w → (rest : Events) (g : Frame) (st : List Frame)
    → read (option else_node x rest) g st ≡ read rest (adds g (else_parts z)) st
else_read None None None r rest g st = refl
else_read (Some x) (Some z) (Some w) r rest g st = r (event.Close ∷ rest) (at kind.Else []) (g ∷ st)
else_read _ _ _ r rest g st = absurd r

chain : (x : Put) (z w : Expr) (xs : List (ChainOp × Put)) (zs ws : List (ChainOp × Expr)) → Exprs x z w → Alike (AlikeLink Exprs) xs zs ws
    → Reads (node kind.Chain (λ rest. x (row link_node xs rest))) (an_expr (expr.Chain z zs))
chain x z w xs zs ws k r =
    node_read kind.Chain (λ rest. x (row link_node xs rest)) (an_expr z ∷ map a_link zs) (an_expr (expr.Chain z zs))
    (λ rest g st. k (row link_node xs rest) g st ∙ links_read xs zs ws r rest (add g (an_expr z)) st)
    (ap (λ ls. an_expr (expr.Chain z ls)) (links_are zs))

one_of : (v : Bool) (x : Put) (z w : Expr) (xs : List Put) (zs ws : List Expr) → Exprs x z w → Alike Exprs xs zs ws
    → Reads (node (kind.OneOf v) (λ rest. x (row itself xs rest))) (an_expr (expr.OneOf v z zs))
one_of v x z w xs zs ws k r =
    node_read (kind.OneOf v) (λ rest. x (row itself xs rest)) (an_expr z ∷ map an_expr zs) (an_expr (expr.OneOf v z zs))
    (λ rest g st. k (row itself xs rest) g st ∙ exprs_read xs zs ws r rest (add g (an_expr z)) st)
    (ap (λ es. an_expr (expr.OneOf v z es)) (each_is an_expr the_expr (λ z. refl) zs))

call : (name : List ℕ) (xs : List Put) (zs ws : List Expr) → Alike Exprs xs zs ws
    → Reads (node kind.Call (λ rest. event.Name name ∷ row itself xs rest)) (an_expr (expr.Call name zs))
call name xs zs ws r =
    node_read kind.Call (λ rest. event.Name name ∷ row itself xs rest) (a_text name ∷ map an_expr zs) (an_expr (expr.Call name zs))
    (λ rest g st. exprs_read xs zs ws r rest (add g (a_text name)) st)
    (ap (λ es. an_expr (expr.Call name es)) (each_is an_expr the_expr (λ z. refl) zs))

cases : (xs : List (Put × Put)) (zs ws : List (Expr × Expr)) (x : Option Put) (z w : Option Expr) → Alike (AlikeArm Exprs) xs zs ws → AlikeOption Exprs x z w
    → Reads (node kind.Cases (λ rest. row arm_node xs (option else_node x rest))) (an_expr (expr.Cases zs z))
cases xs zs ws x z w r k =
    node_read kind.Cases (λ rest. row arm_node xs (option else_node x rest)) (map an_arm zs ++ else_parts z) (an_expr (expr.Cases zs z))
    (λ rest g st. arms_read xs zs ws r (option else_node x rest) g st
    ∙ (else_read x z w k rest (adds g (map an_arm zs)) st ∙ ap (λ f. read rest f st) (adds_more g (map an_arm zs) (else_parts z))))
    (λ i. an_expr (expr.Cases (arms_are zs z i) (else_is zs z i)))

-- ---- the parts of a select and of a query

option_read : (x : Option Put) (z w : Option Expr) → AlikeOption Exprs x z w → (k : Kind) → ((ps : List Part) → make k ps ≡ perhaps (optional ps))
    → Reads (node k (option itself x)) (perhaps z)
option_read None None None r k makes rest f st = ap (λ p. read rest (add f p) st) (makes [])
option_read (Some x) (Some z) (Some w) r k makes rest f st =
    r (event.Close ∷ rest) (at k []) (f ∷ st) ∙ ap (λ p. read rest (add f p) st) (makes (an_expr z ∷ []))
option_read _ _ _ r k makes rest f st = absurd r

abbrev items_of : (xs : List Put) (zs ws : List Item) → Alike Items xs zs ws → List Expr
items_of [] [] [] r = []
items_of (x ∷ xs) (z ∷ zs) (w ∷ ws) r = r.0.of ∷ items_of xs zs ws r.1
items_of _ _ _ r = []

items_read : (xs : List Put) (zs ws : List Item) (r : Alike Items xs zs ws) (rest : Events) (g : Frame) (st : List Frame)
    → read (row itself xs rest) g st ≡ read rest (adds g (map an_expr (items_of xs zs ws r))) st
items_read [] [] [] r rest g st = refl
items_read (x ∷ xs) (z ∷ zs) (w ∷ ws) r rest g st =
    r.0.reads (row itself xs rest) g st ∙ items_read xs zs ws r.1 rest (add g (an_expr r.0.of)) st
items_read _ _ _ r rest g st = absurd r

items_are : (xs : List Put) (zs ws : List Item) (r : Alike Items xs zs ws) → map (λ p. as_item (the_expr p)) (map an_expr (items_of xs zs ws r)) ≡ zs
items_are [] [] [] r = refl
items_are (x ∷ xs) (z ∷ zs) (w ∷ ws) r = λ i. sym r.0.is i ∷ items_are xs zs ws r.1 i
items_are _ _ _ r = absurd r

list_read : (xs : List Put) (zs ws : List Item) → Alike Items xs zs ws → Reads (node kind.List (row itself xs)) (a_list zs)
list_read xs zs ws r =
    node_read kind.List (row itself xs) (map an_expr (items_of xs zs ws r)) (a_list zs) (items_read xs zs ws r) (ap a_list (items_are xs zs ws r))

froms_read : (xs : List Put) (zs ws : List FromItem) → Alike Froms xs zs ws → Reads (node kind.From (row itself xs)) (froms zs)
froms_read xs zs ws r =
    node_read kind.From (row itself xs) (map a_from zs) (froms zs) (row_read Froms itself a_from (λ x z w r. r) xs zs ws r)
    (ap froms (each_is a_from the_from (λ z. refl) zs))

order_read : (xs : List Put) (zs ws : List Key) → Alike Keys xs zs ws → Reads (node kind.Order (row itself xs)) (an_order zs)
order_read xs zs ws r =
    node_read kind.Order (row itself xs) (map a_key zs) (an_order zs) (row_read Keys itself a_key (λ x z w r. r) xs zs ws r)
    (ap an_order (each_is a_key the_key (λ z. refl) zs))

firsts_read : (xs : List Put) (zs ws : List Select) → Alike Selects xs zs ws → Reads (node kind.First (row itself xs)) (firsts zs)
firsts_read xs zs ws r =
    node_read kind.First (row itself xs) (map a_select zs) (firsts zs) (row_read Selects itself a_select (λ x z w r. r) xs zs ws r)
    (ap firsts (each_is a_select the_select (λ z. refl) zs))

with_read : (x : Option Put) (z w : Option Recursive) → AlikeOption Recursives x z w → Reads (node kind.With (kept_with Whole x)) (a_with z)
with_read None None None r rest f st = refl
with_read (Some x) (Some z) (Some w) r rest f st = r (event.Close ∷ rest) (at kind.With []) (f ∷ st)
with_read _ _ _ r rest f st = absurd r

table : (columns : List (List ℕ)) (rest : Events) (f : Frame) (st : List Frame)
    → read ((shaping Whole).source (ex.Table []) columns rest) f st
    ≡ read rest (add f (a_from (roll-FromItem (record { source = source.Table []; alias = []; columns = take 1 columns })))) st
table [] rest f st = refl
table (c ∷ cs) rest f st = refl

-- ---- all steps

steps : IsKept (shaping Whole) nameless nameless relation
steps =
    record {
      no_expr = λ rest f st. refl;
      no_query = λ rest f st. refl;
      int = λ n rest f st. refl;
      str = λ t rest f st. refl;
      bool = λ v rest f st. refl;
      null = λ rest f st. refl;
      named = λ t rest f st. refl;
      qualified = λ t s rest f st. refl;
      slot = λ i rest f st. refl;
      column = λ c rest f st. refl;
      param = λ i t rest f st. refl;
      neg = λ x z w k rest f st. k (event.Close ∷ rest) (at kind.Neg []) (f ∷ st);
      neg_small = λ x z w k rest f st. k (event.Close ∷ rest) (at kind.NegSmall []) (f ∷ st);
      not = λ x z w k rest f st. k (event.Close ∷ rest) (at kind.Not []) (f ∷ st);
      is = λ x z w test v k rest f st. k (event.Close ∷ rest) (at (kind.Is test v) []) (f ∷ st);
      chain = λ x z w xs zs ws k r. chain x z w xs zs ws k r;
      compare = λ op x₁ x₂ z₁ z₂ w₁ w₂ k₁ k₂ rest f st.
          k₁ (x₂ (event.Close ∷ rest)) (at (kind.Compare op) []) (f ∷ st) ∙ k₂ (event.Close ∷ rest) (at (kind.Compare op) (an_expr z₁ ∷ [])) (f ∷ st);
      between = λ v x₁ x₂ x₃ z₁ z₂ z₃ w₁ w₂ w₃ k₁ k₂ k₃ rest f st.
          k₁ (x₂ (x₃ (event.Close ∷ rest))) (at (kind.Between v) []) (f ∷ st)
          ∙ (k₂ (x₃ (event.Close ∷ rest)) (at (kind.Between v) (an_expr z₁ ∷ [])) (f ∷ st)
          ∙ k₃ (event.Close ∷ rest) (at (kind.Between v) (an_expr z₁ ∷ an_expr z₂ ∷ [])) (f ∷ st));
      one_of = λ v x z w xs zs ws k r. one_of v x z w xs zs ws k r;
      cast = λ x z w t k rest f st. k (event.Close ∷ rest) (at (kind.Cast t) []) (f ∷ st);
      cases = λ xs zs ws x z w r k. cases xs zs ws x z w r k;
      call = λ name xs zs ws r. call name xs zs ws r;
      count_rows = λ rest f st. refl;
      scalar = λ x z w k rest f st. k (event.Close ∷ rest) (at kind.Scalar []) (f ∷ st);
      exists = λ x z w k rest f st. k (event.Close ∷ rest) (at kind.Exists []) (f ∷ st);
      table = λ name columns rest f st. table columns rest f st;
      sub = λ x z w lateral k columns rest f st. k (event.Close ∷ rest) (at (kind.Sub lateral) []) (f ∷ st);
      from = λ x z w alias columns k. k columns;
      item = λ x z w alias k. record { of = z; is = refl; reads = k };
      key = λ x z w descending k rest f st. k (event.Close ∷ rest) (at (kind.Key descending) []) (f ∷ st);
      select = λ l₁ l₂ l₃ f₁ f₂ f₃ w₁ w₂ w₃ o₁ o₂ o₃ m₁ m₂ m₃ lr fr wr kr mr rest f st.
          let limit = node kind.Limit (option itself m₁) (event.Leave ∷ rest) in
          let order = node kind.Order (row itself o₁) limit in
          let filter = node kind.Filter (option itself w₁) order in
          let list = node kind.List (row itself l₁) filter in
          froms_read f₁ f₂ f₃ fr list (within []) (f ∷ st)
          ∙ (list_read l₁ l₂ l₃ lr filter (within (froms f₂ ∷ [])) (f ∷ st)
          ∙ (option_read w₁ w₂ w₃ wr kind.Filter (λ ps. refl) order (within (froms f₂ ∷ a_list l₂ ∷ [])) (f ∷ st)
          ∙ (order_read o₁ o₂ o₃ kr limit (within (froms f₂ ∷ a_list l₂ ∷ perhaps w₂ ∷ [])) (f ∷ st)
          ∙ option_read m₁ m₂ m₃ mr kind.Limit (λ ps. refl) (event.Leave ∷ rest) (within (froms f₂ ∷ a_list l₂ ∷ perhaps w₂ ∷ an_order o₂ ∷ [])) (f ∷ st))));
      recursive = λ name columns xs zs ws x z w r k rest f st.
          firsts_read xs zs ws r (x (event.Close ∷ rest)) (at kind.Recursive []) (f ∷ st)
          ∙ k (event.Close ∷ rest) (at kind.Recursive (firsts zs ∷ [])) (f ∷ st);
      query = λ x z w xs zs ws k r.
          node_read kind.Query (λ rest. node kind.With (kept_with Whole x) (row itself xs rest)) (a_with z ∷ map a_select zs) (a_query (roll-Query (record { recursive = z; selects = zs })))
          (λ rest g st. with_read x z w k (row itself xs rest) g st ∙ row_read Selects itself a_select (λ x z w r. r) xs zs ws r rest (add g (a_with z)) st)
          (ap (λ ss. a_query (roll-Query (record { recursive = z; selects = ss }))) (each_is a_select the_select (λ z. refl) zs));
    }

-- ---- the whole

abbrev parts_of : Frame → List Part
parts_of (at k ps) = ps
parts_of (within ps) = ps

abbrev first_query : List Part → Query
first_query [] = no_query
first_query (p ∷ ps) = the_query p

abbrev query_read : Events → Query
query_read ss = first_query (parts_of (read ss (within []) []))

read_back : (q : Query) → query_read (events_of_query q) ≡ bare q
read_back q = ap (λ f. first_query (parts_of f)) (query_related (shaping Whole) nameless nameless relation steps q [] (within []) [])

pub events_determine : (q r : Query) → events_of_query q ≡ events_of_query r → bare q ≡ bare r
events_determine q r e = sym (read_back q) ∙ (ap query_read e ∙ read_back r)
