-- What each production of queries derives prints no deeper than it derives it, where its parts do.
use Rattle.std.proofs.Common.{ℕ, suc, Bool, true, false, if◌then◌else◌, List, [], ◌∷◌, ◌++◌, map, Option, Some, None, refl, sym, subst, append_assoc}
use Rattle.std.proofs.Common.{bytes_eq, option_map}
use Rattle.away_grammar.specs.declared.grammar.Mark.TheVariants as m
use Rattle.away_grammar.specs.declared.grammar.Level.TheVariants as l
use Rattle.away_trees.specs.declared.queries.Expr.{Expr}
use Rattle.away_trees.specs.declared.queries.Source.TheVariants as source
use Rattle.away_trees.specs.declared.queries.Item.{Item}
use Rattle.away_trees.specs.declared.queries.FromItem.{FromItem}
use Rattle.away_trees.specs.declared.queries.Key.{Key}
use Rattle.away_trees.specs.declared.queries.Select.{Select}
use Rattle.away_trees.specs.declared.queries.Recursive.{Recursive}
use Rattle.away_trees.specs.declared.queries.Query.{Query}
use Rattle.away_trees.specs.declared.queries.Expr.TheViews.{roll-Item, roll-FromItem, roll-Key, roll-Select, roll-Recursive, roll-Query}
use Rattle.away_trees.specs.Algebra.{item_of, from_of, key_of, select_of, recursive_of}
use Rattle.away_trees.proofs.Equations as eq
use Rattle.away_grammar.specs.Terminals.{Terminal, mark, name}
use Rattle.away_grammar.specs.Printing.{printed, printing, print_from, with_commas, names_terminals, from_terminals, where_terminals, order_terminals, limit_terminals}
use Rattle.away_grammar.specs.Printing.{selects_terminals, query_terminals}
use Rattle.sql_printer.proofs.PrintQueries.{map_last}
use Rattle.cte_prints.proofs.Balanced.{Nested, nothing, a_mark, a_name, both, closed, Fine, at_place}
use Rattle.cte_prints.proofs.NestedExpressions.{perhaps_mark}

abbrev pub NestedItems : ℕ → List Item → Type 0
NestedItems d xs = Nested d (with_commas (map (λ x. item_of printing x) xs))

abbrev pub NestedFroms : ℕ → List FromItem → Type 0
NestedFroms d xs = Nested d (with_commas (map (λ x. from_of printing x) xs))

abbrev pub NestedFrom : ℕ → List FromItem → Type 0
NestedFrom d xs = Nested d (from_terminals (map (λ x. from_of printing x) xs))

abbrev pub NestedWhere : ℕ → Option Expr → Type 0
NestedWhere d w = Nested d (where_terminals (option_map (λ x. printed x) w))

abbrev pub NestedKeys : ℕ → List Key → Type 0
NestedKeys d xs = Nested d (with_commas (map (λ x. key_of printing x) xs))

abbrev pub NestedOrder : ℕ → List Key → Type 0
NestedOrder d xs = Nested d (order_terminals (map (λ x. key_of printing x) xs))

abbrev pub NestedLimit : ℕ → Option Expr → Type 0
NestedLimit d n = Nested d (limit_terminals (option_map (λ x. printed x) n))

abbrev pub NestedSelects : ℕ → List Select → Type 0
NestedSelects d ss = Nested d (selects_terminals (map (λ s. select_of printing s) ss))

-- ---- items

pub item_alone_nested : {d : ℕ} (x : Expr) → Fine d l.Or x → Nested d (item_of printing (roll-Item (record { expr = x; alias = None })))
item_alone_nested x f = both (at_place l.Or x f) nothing

pub item_as_nested : {d : ℕ} (x : Expr) (n : List ℕ) → Fine d l.Or x → Nested d (item_of printing (roll-Item (record { expr = x; alias = Some n })))
item_as_nested x n f = both (at_place l.Or x f) (a_mark m.As refl (a_name n nothing))

-- lists with commas
pub commas_nested : {d : ℕ} (x : List Terminal) (xs : List (List Terminal)) → Nested d x → Nested d (with_commas xs) → Nested d (with_commas (x ∷ xs))
commas_nested x [] h r = h
commas_nested x (y ∷ ys) h r = both h (a_mark m.Comma refl r)

-- ---- FROM

pub last_name_nested : {d : ℕ} (n : List ℕ) → Nested d (names_terminals (n ∷ []))
last_name_nested n = a_name n nothing

pub another_name_nested : {d : ℕ} (n : List ℕ) (ns : List (List ℕ)) → Nested d (names_terminals ns) → Nested d (names_terminals (n ∷ ns))
another_name_nested n [] r = a_name n nothing
another_name_nested n (k ∷ ns) r = a_name n (a_mark m.Comma refl r)

alias_by : {d : ℕ} (b : Bool) (a : List ℕ) → Nested d (if b then [] else mark m.As ∷ name a ∷ [])
alias_by true a = nothing
alias_by false a = a_mark m.As refl (a_name a nothing)

pub table_nested : {d : ℕ} (n a : List ℕ) → Nested d (from_of printing (roll-FromItem (record { source = source.Table n; alias = a; columns = [] })))
table_nested n a = a_name n (both (alias_by (bytes_eq n a) a) nothing)

pub sub_nested : {d : ℕ} (q : Query) (v : Bool) (a : List ℕ) → Nested d (query_terminals q)
    → Nested (suc d) (from_of printing (roll-FromItem (record { source = source.Sub q v; alias = a; columns = [] })))
sub_nested {d = d} q v a h =
    subst (λ o. Nested (suc d) (print_from (record { source = o; alias = a; columns = [] }))) (sym (eq.of_sub printing q v))
    (both (perhaps_mark v m.Lateral refl (closed h)) (a_mark m.As refl (a_name a nothing)))

pub sub_columns_nested : {d : ℕ} (q : Query) (v : Bool) (a : List ℕ) (ns : List (List ℕ)) → Nested d (query_terminals q) → Nested d (names_terminals ns)
    → Nested (suc d) (from_of printing (roll-FromItem (record { source = source.Sub q v; alias = a; columns = ns })))
sub_columns_nested q v a [] h r = sub_nested q v a h
sub_columns_nested {d = d} q v a (n ∷ ns) h r =
    subst (λ o. Nested (suc d) (print_from (record { source = o; alias = a; columns = n ∷ ns }))) (sym (eq.of_sub printing q v))
    (both (perhaps_mark v m.Lateral refl (closed h)) (a_mark m.As refl (a_name a (closed r))))

pub from_nested : {d : ℕ} (xs : List FromItem) → NestedFroms d xs → NestedFrom d xs
from_nested [] r = nothing
from_nested (x ∷ xs) r = a_mark m.From refl r

-- ---- the other parts of a select

pub where_nested : {d : ℕ} (x : Expr) → Fine d l.Or x → NestedWhere d (Some x)
where_nested x f = a_mark m.Where refl (at_place l.Or x f)

pub key_nested : {d : ℕ} (x : Expr) → Fine d l.Or x → Nested d (key_of printing (roll-Key (record { expr = x; descending = false })))
key_nested x f = both (at_place l.Or x f) nothing

pub descending_nested : {d : ℕ} (x : Expr) → Fine d l.Or x → Nested d (key_of printing (roll-Key (record { expr = x; descending = true })))
descending_nested x f = both (at_place l.Or x f) (a_mark m.Desc refl nothing)

pub order_nested : {d : ℕ} (xs : List Key) → NestedKeys d xs → NestedOrder d xs
order_nested [] r = nothing
order_nested (x ∷ xs) r = a_mark m.Order refl (a_mark m.By refl r)

pub limit_nested : {d : ℕ} (x : Expr) → Fine d l.Or x → NestedLimit d (Some x)
limit_nested x f = a_mark m.Limit refl (at_place l.Or x f)

pub select_nested : {d : ℕ} (xs : List Item) (fs : List FromItem) (w : Option Expr) (ks : List Key) (n : Option Expr)
    → NestedItems d xs → NestedFrom d fs → NestedWhere d w → NestedOrder d ks → NestedLimit d n
    → Nested d (select_of printing (roll-Select (record { list = xs; from = fs; filter = w; order = ks; limit = n })))
select_nested {d = d} xs fs w ks n a b c o h =
    subst (Nested d) (sym (eq.of_select printing xs fs w ks n)) (a_mark m.Select refl (both a (both b (both c (both o h)))))

-- ---- queries

pub another_select_nested : {d : ℕ} (s : Select) (ss : List Select) → Nested d (select_of printing s) → NestedSelects d ss → NestedSelects d (s ∷ ss)
another_select_nested s [] h r = h
another_select_nested s (t ∷ ss) h r = both h (a_mark m.Union refl (a_mark m.All refl r))

pub query_nested : {d : ℕ} (ss : List Select) → NestedSelects d ss → Nested d (query_terminals (roll-Query (record { recursive = None; selects = ss })))
query_nested {d = d} ss r = subst (Nested d) (sym (eq.of_query printing ss)) r

-- the head of WITH RECURSIVE, and its selects
recursive_by : {d : ℕ} (n : List ℕ) (columns all : List Terminal) → Nested d columns → Nested d all
    → Nested (suc d) (mark m.With ∷ mark m.Recursive ∷ name n ∷ mark m.Open ∷ (columns ++ mark m.Close ∷ mark m.As ∷ mark m.Open ∷ (all ++ mark m.Close ∷ [])))
recursive_by {d = d} n columns all h k =
    let behind : List Terminal = mark m.As ∷ mark m.Open ∷ (all ++ mark m.Close ∷ []) in
    let whole : Nested (suc d) ((mark m.Open ∷ (columns ++ mark m.Close ∷ [])) ++ behind) = both (closed h) (a_mark m.As refl (closed k)) in
    let joined = subst (λ ts. Nested (suc d) (mark m.Open ∷ ts)) (append_assoc columns (mark m.Close ∷ []) behind) whole in
    a_mark m.With refl (a_mark m.Recursive refl (a_name n joined))

pub recursive_nested : {d : ℕ} (n : List ℕ) (ns : List (List ℕ)) (s : Select) (ss : List Select) (second : Select)
    → Nested d (names_terminals ns) → NestedSelects d (s ∷ (ss ++ second ∷ []))
    → Nested (suc d) (recursive_of printing (roll-Recursive (record { name = n; columns = ns; first = s ∷ ss; second = second })))
recursive_nested n ns s ss second h k =
    rw (eq.of_recursive printing n ns (s ∷ ss) second)
    (rw (sym (map_last ss second)) (recursive_by n (names_terminals ns) (selects_terminals (map (λ s. select_of printing s) (s ∷ (ss ++ second ∷ [])))) h k))

pub with_nested : {d : ℕ} (r : Recursive) (ss : List Select) → Nested d (recursive_of printing r) → NestedSelects d ss
    → Nested d (query_terminals (roll-Query (record { recursive = Some r; selects = ss })))
with_nested {d = d} r ss h k = subst (Nested d) (sym (eq.of_with printing r ss)) (both h k)
