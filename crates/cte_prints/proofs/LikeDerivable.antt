-- What is like a tree that was read from writable terminals can be derived.
use Rattle.std.proofs.Common.{◌≡◌, ℕ, suc, ◌+◌, ◌*◌, ◌≤◌, pos, negsuc, ◌^◌, ◌-◌, Bool, true, false, List, [], ◌∷◌, Option, Some, None, sym, subst, arith, ◌∙◌}
use Rattle.away_grammar.specs.declared.grammar.Mark.TheVariants as m
use Rattle.away_grammar.specs.declared.grammar.Level.{Level}
use Rattle.away_grammar.specs.declared.grammar.Level.TheVariants as l
use Rattle.away_trees.specs.declared.queries.Expr.{Expr}
use Rattle.away_trees.specs.declared.queries.Expr.TheVariants as e
use Rattle.away_trees.specs.declared.queries.Expr.TheOpen as ex
use Rattle.away_trees.specs.declared.queries.Query.{Query}
use Rattle.away_trees.specs.declared.queries.Item.{Item}
use Rattle.away_trees.specs.declared.queries.Key.{Key}
use Rattle.away_trees.specs.declared.queries.FromItem.{FromItem}
use Rattle.away_trees.specs.declared.queries.Select.{Select}
use Rattle.away_grammar.specs.Terminals.{Terminal, mark, name}
use Rattle.away_grammar.specs.Grammar.{Sort, Tree, at, item, items, from_item, from_clause, where_clause, key, order_clause, limit_clause, select, selects}
use Rattle.away_grammar.specs.Grammar.{query, names, operands, IsChain, perhaps, schema_qualified, may_join}
use Rattle.sql_printer.specs.Writable.{Writable, AllWritable}
use Rattle.sql_printer.proofs.PrintWritable.{prints_clear}
use Rattle.cte_prints.specs.ReadsIn.{ReadsIn}
use Rattle.cte_prints.specs.ReadsIn as r
use Rattle.cte_prints.specs.Derivable.{Derivable}
use Rattle.cte_prints.specs.Like.{IsLike, value}
use Rattle.cte_prints.specs.Like as k
use Rattle.cte_prints.specs.TreeLaws.{Like, bound}
use Rattle.cte_prints.proofs.ReadingDepth.{read_so}
use Rattle.cte_prints.proofs.Shapes as see
use Rattle.cte_prints.proofs.Shapes.{shape}
use Rattle.cte_prints.proofs.QueryShapes as parts
use Rattle.cte_prints.proofs.DeriveNodes as derive
use Rattle.cte_prints.proofs.DeriveNodes.{deepened}
use Rattle.cte_prints.proofs.DeriveLevels.{at_or}
use Rattle.cte_prints.proofs.DeriveQueries as derive_query
use Rattle.cte_prints.proofs.NodesAlike as node

-- what is left is writable
left : {d : ℕ} {n : Sort} {ts : List Terminal} {t : Tree n} {rest : List Terminal} → ReadsIn true d n ts t rest → AllWritable ts → AllWritable rest
left a h = (prints_clear (read_so a) h).1

behind_perhaps : (w : Bool) (s : Terminal) (ts : List Terminal) → AllWritable (perhaps w s ts) → AllWritable ts
behind_perhaps true s ts h = h.1
behind_perhaps false s ts h = h

behind_public : (w : Bool) (ts : List Terminal) → AllWritable (schema_qualified w ts) → AllWritable ts
behind_public true ts h = h.1.1
behind_public false ts h = h

-- ---- bounds

bound_at : (level : Level) (d : ℕ) → bound (at level) d ≤ 3 * d + 3
bound_at l.Primary d = omega arith
bound_at _ d = omega arith

wide : (d : ℕ) (level : Level) {x : Expr} → Derivable (bound (at level) d) (at level) x → Derivable (3 * d + 3) (at level) x
wide d level c = deepened (bound (at level) d) (3 * d + 3) (bound_at level d) c

chain_wide : (d : ℕ) (level : Level) {x : Expr} → IsChain level → Derivable (3 * d + 3) (at level) x → Derivable (bound (at level) d) (at level) x
chain_wide d l.Or p c = c
chain_wide d l.And p c = c
chain_wide d l.Concat p c = c
chain_wide d l.Sum p c = c
chain_wide d l.Product p c = c
chain_wide d _ p c = absurd p

-- what is one bracket deeper
inside : (d : ℕ) {x : Expr} → Derivable (suc (3 * d + 3)) (at l.Primary) x → Derivable (3 * suc d + 1) (at l.Primary) x
inside d c = deepened (suc (3 * d + 3)) (3 * suc d + 1) (omega arith) c

-- ---- names

names_writable : {d : ℕ} {ts : List Terminal} {ns : List (List ℕ)} {rest : List Terminal} → ReadsIn true d names ts ns rest → AllWritable ts → (more : ℕ) → Derivable more names ns
names_writable r.last_name h more = derive_query.derive_last_name h.0
names_writable (r.another_name a) h more = derive_query.derive_another_name h.0 (names_writable a h.1.1 more)

-- ---- items, keys, FROM, selects and queries

item_derivable : {d : ℕ} {x : Expr} {u : Item} → parts.LikeItem (record { expr = x; alias = None }) u → ((v : Expr) → IsLike value x v → Derivable d (at l.Or) v)
    → Derivable d item u
item_derivable (parts.an_item {u = v} h) c = derive_query.derive_item (c v h)
item_derivable (parts.a_bare_item {u = v} h) c = derive_query.derive_item (c v h)

item_as_derivable : {d : ℕ} {x : Expr} {n : List ℕ} {u : Item} → Writable (name n) → parts.LikeItem (record { expr = x; alias = Some n }) u
    → ((v : Expr) → IsLike value x v → Derivable d (at l.Or) v) → Derivable d item u
item_as_derivable g (parts.an_item {u = v} h) c = derive_query.derive_item_as g (c v h)
item_as_derivable g (parts.a_bare_item {u = v} h) c = derive_query.derive_item (c v h)

key_derivable : {d : ℕ} {x : Expr} {u : Key} → parts.LikeKey (record { expr = x; descending = false }) u → ((v : Expr) → IsLike value x v → Derivable d (at l.Or) v)
    → Derivable d key u
key_derivable (parts.a_key {u = v} h) c = derive_query.derive_key (node.never_number h) (c v h)

descending_derivable : {d : ℕ} {x : Expr} {u : Key} → parts.LikeKey (record { expr = x; descending = true }) u
    → ((v : Expr) → IsLike value x v → Derivable d (at l.Or) v) → Derivable d key u
descending_derivable (parts.a_key {u = v} h) c = derive_query.derive_descending (node.never_number h) (c v h)

table_derivable : {d : ℕ} {n : List ℕ} {u : FromItem} → Writable (name n) → parts.LikeTable n n u → Derivable d from_item u
table_derivable g parts.table = derive_query.derive_table g

table_as_derivable : {d : ℕ} {n a : List ℕ} {u : FromItem} → Writable (name n) → Writable (name a) → parts.LikeTable n a u → Derivable d from_item u
table_as_derivable g i parts.table = derive_query.derive_table_as g i

sub_derivable : {d : ℕ} {q : Query} {v : Bool} {a : List ℕ} {u : FromItem} → Writable (name a) → parts.LikeSub q v a [] u
    → ((p : Query) → IsLike k.query q p → Derivable d query p)
    → Derivable (suc d) from_item u
sub_derivable {v = v} g (parts.subquery {p = p} h) c = derive_query.derive_sub v g (c p h)

sub_columns_derivable : {d : ℕ} {q : Query} {v : Bool} {a : List ℕ} {ns : List (List ℕ)} {u : FromItem} → Writable (name a) → parts.LikeSub q v a ns u
    → ((p : Query) → IsLike k.query q p → Derivable d query p) → Derivable d names ns → Derivable (suc d) from_item u
sub_columns_derivable {v = v} g (parts.subquery {p = p} h) c b = derive_query.derive_sub_columns v g (c p h) b

select_derivable : {d : ℕ} {f : parts.SelectFields} {u : Select} → parts.LikeSelect f u → ((v : List Item) → IsLike k.items f.list v → Derivable d items v)
    → ((v : List FromItem) → IsLike k.from_items f.from v → Derivable d from_clause v) → ((v : Option Expr) → IsLike k.maybe f.filter v → Derivable d where_clause v)
    → ((v : List Key) → IsLike k.keys f.order v → Derivable d order_clause v) → ((v : Option Expr) → IsLike k.maybe f.limit v → Derivable d limit_clause v)
    → Derivable d select u
select_derivable (parts.whole g h i j n) a b c x y = derive_query.derive_select (a _ g) (b _ h) (c _ i) (x _ j) (y _ n)

query_derivable : {d : ℕ} {ss : List Select} {u : Query} → may_join ss ≡ true → parts.LikeQuery (record { recursive = None; selects = ss }) u
    → ((v : List Select) → IsLike k.selects ss v → Derivable d selects v) → Derivable d query u
query_derivable g (parts.union {us = us} e h) c = derive_query.derive_query (parts.may_join_so h ∙ g) (c us h)

no_with : {f : parts.QueryFields} {u : Query} → parts.LikeQuery f u → f.recursive ≡ None
no_with (parts.union e h) = e

-- ---- all productions

pub like_derivable : {d : ℕ} {n : Sort} {ts : List Terminal} {t : Tree n} {rest : List Terminal} → ReadsIn true d n ts t rest → AllWritable ts → (u : Tree n) → Like n t u
    → Derivable (bound n d) n u
like_derivable (r.chain {d = d} {level = v} {more = []} p a b) h u j = chain_wide d v p (derive.derive_one p (wide d (operands v) (like_derivable a h u j)))
like_derivable (r.chain {d = d} {level = v} {first = f} {more = y ∷ ys} p a b) h u j =
    chain_wide d v p
    (node.chain_derivable (shape _ u (ex.Chain f (y ∷ ys)) (see.see_chain f (y ∷ ys)) j) p (λ w i. wide d (operands v) (like_derivable a h w i))
    (λ w i. like_derivable b (left a h) w i))
like_derivable r.no_link h _ k.no_link = derive.derive_no_link
like_derivable (r.link {d = d} {level = v} terminal g a b) h _ (k.one_link o i j) =
    derive.derive_link terminal g (wide d (operands v) (like_derivable a h.1 _ i)) (like_derivable b (left a h.1) _ j)
like_derivable (r.affirmed a) h u j = derive.derive_affirmed (like_derivable a h u j)
like_derivable (r.negated {x = x} a) h u j = node.not_derivable (shape _ u (ex.Not x) (see.see_not x) j) (λ w i. like_derivable a h.1 w i)
like_derivable (r.untested a) h u j = derive.derive_untested (like_derivable a h u j)
like_derivable (r.tested {x = x} {n = n} {test = test} terminal g a) h u j =
    node.is_derivable n terminal g (shape _ u (ex.Is x test n) (see.see_is x test n) j) (λ w i. like_derivable a h w i)
like_derivable (r.uncompared a) h u j = derive.derive_uncompared (like_derivable a h u j)
like_derivable (r.compared {x = x} {y = y} {o = o} terminal g a b) h u j =
    node.compare_derivable terminal g (shape _ u (ex.Compare o x y) (see.see_compare o x y) j) (λ w i. like_derivable a h w i) (λ w i. like_derivable b (left a h).1 w i)
like_derivable (r.unranged a) h u j = derive.derive_unranged (like_derivable a h u j)
like_derivable (r.between {x = x} {low = low} {high = high} {n = n} a b c) h u j =
    let second = (behind_perhaps n (mark m.Not) _ (left a h)).1 in
    node.between_derivable n (shape _ u (ex.Between n x low high) (see.see_between n x low high) j) (λ w i. like_derivable a h w i) (λ w i. like_derivable b second w i)
    (λ w i. like_derivable c (left b second).1 w i)
like_derivable (r.one_of {d = d} {x = x} {xs = xs} {n = n} a b) h u j =
    let second = (behind_perhaps n (mark m.Not) _ (left a h)).1.1 in
    deepened (suc (3 * d + 5)) (3 * suc d + 3) (omega arith)
    (node.one_of_derivable n (shape _ u (ex.OneOf n x xs) (see.see_one_of n x xs) j)
    (λ w i. deepened (3 * suc d + 3) (suc (3 * d + 5)) (omega arith) (like_derivable a h w i))
    (λ w i. deepened (3 * d + 3) (3 * d + 5) (omega arith) (like_derivable b second w i)))
like_derivable (r.unsigned a) h u j = derive.derive_unsigned (like_derivable a h u j)
like_derivable (r.signed {x = x} a) h u j = node.neg_derivable (shape _ u (ex.Neg x) (see.see_neg x) j) (λ w i. like_derivable a h.1 w i)
like_derivable (r.least {d = d}) h u j =
    deepened (suc 0) (3 * d + 3) (omega arith) (derive.derive_unsigned (derive.derive_uncast (node.int_derivable (negsuc (2 ^ 63 - 1)) l.Sign derive.derive_least j)))
like_derivable (r.uncast {d = d} a) h u j = derive.derive_uncast (deepened (3 * d + 1) (3 * d + 3) (omega arith) (like_derivable a h u j))
like_derivable (r.cast_once {d = d} {x = x} {ty = ty} t g a) h u j =
    deepened (suc (3 * d + 1)) (3 * d + 3) (omega arith)
    (derive.derive_uncast (node.cast_derivable ty (shape _ u (ex.Cast x ty) (see.see_cast x ty) j) (λ w i. at_or l.Primary (like_derivable a h w i))))
like_derivable (r.cast_twice {d = d} {x = x} {first = first} {second = second} t s g f a) h u j =
    deepened (suc (suc (3 * d + 1))) (3 * d + 3) (omega arith)
    (derive.derive_uncast
    (node.casts_derivable first second
    (shape _ u (ex.Cast (e.Cast x first) second) (see.see_cast (e.Cast x first) second) j) (λ w i. at_or l.Primary (like_derivable a h w i))))
like_derivable (r.number {d = d} {n = n} g) h u j = deepened (suc 0) (3 * d + 1) (omega arith) (node.int_derivable (pos n) l.Primary (derive.derive_number g) j)
like_derivable (r.text {d = d} {t = t}) h u j = deepened (suc 0) (3 * d + 1) (omega arith) (node.str_derivable t h.0 j)
like_derivable (r.literal {d = d} {x = x} terminal g) h u j = deepened (suc 0) (3 * d + 1) (omega arith) (node.literal_derivable terminal x u g j)
like_derivable (r.named {n = n}) h u j = node.name_writable (shape _ u (ex.Named n) (see.see_named n) j)
like_derivable (r.qualified {n = n} {c = c}) h u j = node.name_writable (shape _ u (ex.Dotted n c) (see.see_qualified n c) j)
like_derivable (r.typed_parameter {i = i} {ty = ty} t g) h u j = absurd (shape _ u (ex.Param i ty) (see.see_param i ty) j)
like_derivable (r.short_parameter {i = i} {ty = ty} t g) h u j = absurd (shape _ u (ex.Param i ty) (see.see_param i ty) j)
like_derivable (r.parentheses {d = d} a) h u j = inside d (derive.derive_parentheses (like_derivable a h.1 u j))
like_derivable (r.scalar {d = d} {q = q} a) h u j = inside d (node.scalar_derivable (shape _ u (ex.Scalar q) (see.see_scalar q) j) (λ p i. like_derivable a h.1 p i))
like_derivable (r.cast {d = d} {x = x} {ty = ty} t g a) h u j =
    inside d (node.cast_derivable ty (shape _ u (ex.Cast x ty) (see.see_cast x ty) j) (λ w i. like_derivable a h.1.1 w i))
like_derivable (r.exists {d = d} {q = q} a) h u j = inside d (node.exists_derivable (shape _ u (ex.Exists q) (see.see_exists q) j) (λ p i. like_derivable a h.1.1 p i))
like_derivable (r.cases {d = d} {a = c} {more = more} a) h u j =
    inside d (node.cases_derivable (shape _ u (ex.Cases (c ∷ more) None) (see.see_cases (c ∷ more) None) j) (λ w i. like_derivable a h.1 w i))
like_derivable (r.cases_else {d = d} {a = c} {more = more} {x = x} a b) h u j =
    inside d (node.cases_else_derivable (shape _ u (ex.Cases (c ∷ more) (Some x)) (see.see_cases (c ∷ more) (Some x)) j) (λ w i. like_derivable a h.1 w i)
    (λ w i. like_derivable b (left a h.1).1 w i))
like_derivable (r.call_word {d = d} {n = n} {xs = xs} terminal g a) h u j =
    inside d (node.call_word_derivable terminal g (shape _ u (ex.Call n xs) (see.see_call n xs) j) (λ w i. like_derivable a h.1.1 w i))
like_derivable (r.count_rows {d = d}) h u j =
    subst (λ u. Derivable (3 * suc d + 1) (at l.Primary) u) (sym (shape _ u ex.CountRows see.see_count_rows j))
    (deepened (suc 0) (3 * suc d + 1) (omega arith) derive.derive_count_rows)
like_derivable (r.call_empty {d = d} {n = n}) h u j =
    deepened (suc 0) (3 * suc d + 1) (omega arith) (node.call_empty_derivable h.0 (shape _ u (ex.Call n []) (see.see_call n []) j))
like_derivable (r.call {d = d} {n = n} {xs = xs} a) h u j =
    inside d (node.call_derivable h.0 (shape _ u (ex.Call n xs) (see.see_call n xs) j) (λ w i. like_derivable a h.1.1 w i))
like_derivable (r.last a) h _ (k.one_value i k.no_value) = derive.derive_last (like_derivable a h _ i)
like_derivable (r.another a b) h _ (k.one_value i j) = derive.derive_another (like_derivable a h _ i) (like_derivable b (left a h).1 _ j)
like_derivable r.no_arm h _ k.no_arm = derive.derive_no_arm
like_derivable (r.arm a b c) h _ (k.one_arm i j n) =
    let second = (left a h.1).1 in
    derive.derive_arm (like_derivable a h.1 _ i) (like_derivable b second _ j) (like_derivable c (left b second) _ n)
like_derivable (r.item_alone {x = x} a) h u j = item_derivable (parts.item_shape (record { expr = x; alias = None }) j) (λ w i. like_derivable a h w i)
like_derivable (r.item_as {x = x} {n = n} a) h u j =
    item_as_derivable (left a h).1.0 (parts.item_shape (record { expr = x; alias = Some n }) j) (λ w i. like_derivable a h w i)
like_derivable (r.last_item a) h _ (k.one_item i k.no_item) = derive_query.derive_last_item (like_derivable a h _ i)
like_derivable (r.another_item a b) h _ (k.one_item i j) = derive_query.derive_another_item (like_derivable a h _ i) (like_derivable b (left a h).1 _ j)
like_derivable (r.table_alone {n = n} w) h u j = table_derivable (behind_public w _ h).0 (parts.table_shape n n j)
like_derivable (r.table_as {n = n} {a = a} w v) h u j =
    let s = behind_public w _ h in
    table_as_derivable s.0 (behind_perhaps v (mark m.As) _ s.1).0 (parts.table_shape n a j)
like_derivable (r.sub_alone {d = d} {q = q} {a = a} {v = v} w b) h u j =
    let s = (behind_perhaps v (mark m.Lateral) _ h).1 in
    deepened (suc (3 * d + 3)) (3 * suc d + 3) (omega arith)
    (sub_derivable (behind_perhaps w (mark m.As) _ (left b s).1).0 (parts.sub_shape q v a [] j) (λ p i. like_derivable b s p i))
like_derivable (r.sub_columns {d = d} {q = q} {a = a} {ns = ns} {v = v} w b c) h u j =
    let s = (behind_perhaps v (mark m.Lateral) _ h).1 in
    let z = behind_perhaps w (mark m.As) _ (left b s).1 in
    deepened (suc (3 * d + 3)) (3 * suc d + 3) (omega arith)
    (sub_columns_derivable z.0 (parts.sub_shape q v a ns j) (λ p i. like_derivable b s p i) (names_writable c z.1.1 (3 * d + 3)))
like_derivable (r.last_from a) h _ (k.one_from i k.no_from) = derive_query.derive_last_from (like_derivable a h _ i)
like_derivable (r.another_from a b) h _ (k.one_from i j) = derive_query.derive_another_from (like_derivable a h _ i) (like_derivable b (left a h).1 _ j)
like_derivable (r.last_name {d = d}) h u j = subst (λ u. Derivable (3 * d + 3) names u) j (derive_query.derive_last_name h.0)
like_derivable (r.another_name {d = d} a) h u j = subst (λ u. Derivable (3 * d + 3) names u) j (derive_query.derive_another_name h.0 (names_writable a h.1.1 (3 * d + 3)))
like_derivable (r.key_alone {x = x} g a) h u j = key_derivable (parts.key_shape (record { expr = x; descending = false }) j) (λ w i. like_derivable a h w i)
like_derivable (r.ascending {x = x} g a) h u j = key_derivable (parts.key_shape (record { expr = x; descending = false }) j) (λ w i. like_derivable a h w i)
like_derivable (r.descending {x = x} g a) h u j = descending_derivable (parts.key_shape (record { expr = x; descending = true }) j) (λ w i. like_derivable a h w i)
like_derivable (r.last_key a) h _ (k.one_key i k.no_key) = derive_query.derive_last_key (like_derivable a h _ i)
like_derivable (r.another_key a b) h _ (k.one_key i j) = derive_query.derive_another_key (like_derivable a h _ i) (like_derivable b (left a h).1 _ j)
like_derivable r.no_from h _ k.no_from = derive_query.derive_no_from
like_derivable (r.from a) h u j = derive_query.derive_from (like_derivable a h.1 u j)
like_derivable r.no_where h _ k.nothing = derive_query.derive_no_where
like_derivable (r.where_of a) h _ (k.something i) = derive_query.derive_where (like_derivable a h.1 _ i)
like_derivable r.no_order h _ k.no_key = derive_query.derive_no_order
like_derivable (r.order_by a) h u j = derive_query.derive_order (like_derivable a h.1.1 u j)
like_derivable r.no_limit h _ k.nothing = derive_query.derive_no_limit
like_derivable (r.limit_of a) h _ (k.something i) = derive_query.derive_limit (like_derivable a h.1 _ i)
like_derivable (r.select_of {xs = xs} {fs = fs} {w = w} {ks = ks} {n = n} a b c x y) h u j =
    let p = left a h.1 in
    let q = left b p in
    let s = left c q in
    select_derivable (parts.select_shape (record { list = xs; from = fs; filter = w; order = ks; limit = n }) j) (λ v i. like_derivable a h.1 v i)
    (λ v i. like_derivable b p v i)
    (λ v i. like_derivable c q v i) (λ v i. like_derivable x s v i) (λ v i. like_derivable y (left x s) v i)
like_derivable (r.last_select a) h _ (k.one_select i k.no_select) = derive_query.derive_last_select (like_derivable a h _ i)
like_derivable (r.another_select a b) h _ (k.one_select i j) = derive_query.derive_another_select (like_derivable a h _ i) (like_derivable b (left a h).1.1 _ j)
like_derivable (r.query_of {ss = ss} g a) h u j = query_derivable g (parts.query_shape (record { recursive = None; selects = ss }) j) (λ v i. like_derivable a h v i)
like_derivable (r.recursive_of xs second a b) h u j = absurd j
like_derivable (r.plain_file w a) h u j = derive_query.derive_file (like_derivable a h u j)
like_derivable (r.with_file {r = c} {ss = ss} w g a b) h u j = absurd (cc (no_with (parts.query_shape (record { recursive = Some c; selects = ss }) j)))
