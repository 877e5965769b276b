-- What the productions of queries read prints clearly, where their parts do.
use Rattle.std.proofs.Common.{ℕ, Bool, true, false, if◌then◌else◌, List, [], ◌∷◌, ◌++◌, map, Option, Some, None, refl, sym, subst, bytes_eq, option_map}
use Rattle.away_grammar.specs.declared.grammar.Mark.TheVariants as m
use Rattle.away_grammar.specs.declared.grammar.Level.TheVariants as l
use Rattle.away_trees.specs.declared.queries.Expr.{Expr}
use Rattle.away_trees.specs.declared.queries.Source.TheVariants as source
use Rattle.away_trees.specs.declared.queries.Item.{Item}
use Rattle.away_trees.specs.declared.queries.FromItem.{FromItem}
use Rattle.away_trees.specs.declared.queries.Key.{Key}
use Rattle.away_trees.specs.declared.queries.Select.{Select}
use Rattle.away_trees.specs.declared.queries.Recursive.{Recursive}
use Rattle.away_trees.specs.declared.queries.Query.{Query}
use Rattle.away_trees.specs.declared.queries.Expr.TheViews.{roll-Item, roll-FromItem, roll-Key, roll-Select, roll-Recursive, roll-Query}
use Rattle.away_trees.specs.Algebra.{item_of, from_of, key_of, select_of, recursive_of}
use Rattle.away_grammar.specs.Terminals.{Terminal, mark, name}
use Rattle.away_grammar.specs.Grammar.{perhaps}
use Rattle.away_grammar.specs.Printing.{printed, printing, print_from, with_commas, names_terminals, from_terminals, where_terminals, order_terminals, limit_terminals, selects_terminals, query_terminals}
use Rattle.away_trees.proofs.Equations as eq
use Rattle.sql_printer.specs.Writable.{Writable}
use Rattle.sql_printer.proofs.PrintQueries.{map_last}
use Rattle.sql_printer.proofs.PrintClear.{Clear, nothing, a_mark, a_name, both, Fine, at_place}

abbrev pub ClearItems : List Item → Type 0
ClearItems xs = Clear (with_commas (map (λ x. item_of printing x) xs))

abbrev pub ClearFroms : List FromItem → Type 0
ClearFroms xs = Clear (with_commas (map (λ x. from_of printing x) xs))

abbrev pub ClearFrom : List FromItem → Type 0
ClearFrom xs = Clear (from_terminals (map (λ x. from_of printing x) xs))

abbrev pub ClearWhere : Option Expr → Type 0
ClearWhere w = Clear (where_terminals (option_map (λ x. printed x) w))

abbrev pub ClearKeys : List Key → Type 0
ClearKeys xs = Clear (with_commas (map (λ x. key_of printing x) xs))

abbrev pub ClearOrder : List Key → Type 0
ClearOrder xs = Clear (order_terminals (map (λ x. key_of printing x) xs))

abbrev pub ClearLimit : Option Expr → Type 0
ClearLimit n = Clear (limit_terminals (option_map (λ x. printed x) n))

abbrev pub ClearSelects : List Select → Type 0
ClearSelects ss = Clear (selects_terminals (map (λ s. select_of printing s) ss))

-- ---- items

pub item_alone_clear : (x : Expr) → Fine x → Clear (item_of printing (roll-Item (record { expr = x; alias = None })))
item_alone_clear x d = both (at_place l.Or x d) nothing

pub item_as_clear : (x : Expr) (n : List ℕ) → Writable (name n) → Fine x → Clear (item_of printing (roll-Item (record { expr = x; alias = Some n })))
item_as_clear x n h d = both (at_place l.Or x d) (a_mark m.As refl (a_name n h nothing))

-- lists with commas
pub commas_clear : (x : List Terminal) (xs : List (List Terminal)) → Clear x → Clear (with_commas xs) → Clear (with_commas (x ∷ xs))
commas_clear x [] d r = d
commas_clear x (y ∷ ys) d r = both d (a_mark m.Comma refl r)

-- ---- FROM

pub last_name_clear : (n : List ℕ) → Writable (name n) → Clear (names_terminals (n ∷ []))
last_name_clear n h = a_name n h nothing

pub another_name_clear : (n : List ℕ) (ns : List (List ℕ)) → Writable (name n) → Clear (names_terminals ns) → Clear (names_terminals (n ∷ ns))
another_name_clear n [] h r = a_name n h nothing
another_name_clear n (k ∷ ns) h r = a_name n h (a_mark m.Comma refl r)

alias_by : (b : Bool) (a : List ℕ) → Writable (name a) → Clear (if b then [] else mark m.As ∷ name a ∷ [])
alias_by true a h = nothing
alias_by false a h = a_mark m.As refl (a_name a h nothing)

pub table_clear : (n a : List ℕ) → Writable (name n) → Writable (name a) → Clear (from_of printing (roll-FromItem (record { source = source.Table n; alias = a; columns = [] })))
table_clear n a h k = a_name n h (both (alias_by (bytes_eq n a) a k) nothing)

lateral_clear : (v : Bool) {ts : List Terminal} → Clear ts → Clear (perhaps v (mark m.Lateral) ts)
lateral_clear true d = a_mark m.Lateral refl d
lateral_clear false d = d

-- in parentheses
closed : {ts : List Terminal} → Clear ts → Clear (mark m.Open ∷ (ts ++ mark m.Close ∷ []))
closed d = a_mark m.Open refl (both d (a_mark m.Close refl nothing))

pub sub_clear : (q : Query) (v : Bool) (a : List ℕ) → Clear (query_terminals q) → Writable (name a) → Clear (from_of printing (roll-FromItem (record { source = source.Sub q v; alias = a; columns = [] })))
sub_clear q v a d h =
    subst (λ o. Clear (print_from (record { source = o; alias = a; columns = [] }))) (sym (eq.of_sub printing q v))
    (both (lateral_clear v (closed d)) (a_mark m.As refl (a_name a h nothing)))

pub sub_columns_clear : (q : Query) (v : Bool) (a : List ℕ) (ns : List (List ℕ)) → Clear (query_terminals q) → Writable (name a) → Clear (names_terminals ns)
    → Clear (from_of printing (roll-FromItem (record { source = source.Sub q v; alias = a; columns = ns })))
sub_columns_clear q v a [] d h r = sub_clear q v a d h
sub_columns_clear q v a (n ∷ ns) d h r =
    subst (λ o. Clear (print_from (record { source = o; alias = a; columns = n ∷ ns }))) (sym (eq.of_sub printing q v))
    (both (lateral_clear v (closed d)) (a_mark m.As refl (a_name a h (closed r))))

pub from_clear : (xs : List FromItem) → ClearFroms xs → ClearFrom xs
from_clear [] r = nothing
from_clear (x ∷ xs) r = a_mark m.From refl r

-- ---- the other parts of a select

pub where_clear : (x : Expr) → Fine x → ClearWhere (Some x)
where_clear x d = a_mark m.Where refl (at_place l.Or x d)

pub key_clear : (x : Expr) → Fine x → Clear (key_of printing (roll-Key (record { expr = x; descending = false })))
key_clear x d = both (at_place l.Or x d) nothing

pub descending_clear : (x : Expr) → Fine x → Clear (key_of printing (roll-Key (record { expr = x; descending = true })))
descending_clear x d = both (at_place l.Or x d) (a_mark m.Desc refl nothing)

pub order_clear : (xs : List Key) → ClearKeys xs → ClearOrder xs
order_clear [] r = nothing
order_clear (x ∷ xs) r = a_mark m.Order refl (a_mark m.By refl r)

pub limit_clear : (x : Expr) → Fine x → ClearLimit (Some x)
limit_clear x d = a_mark m.Limit refl (at_place l.Or x d)

pub select_clear : (xs : List Item) (fs : List FromItem) (w : Option Expr) (ks : List Key) (n : Option Expr) → ClearItems xs → ClearFrom fs → ClearWhere w → ClearOrder ks → ClearLimit n
    → Clear (select_of printing (roll-Select (record { list = xs; from = fs; filter = w; order = ks; limit = n })))
select_clear xs fs w ks n a b c d e = subst Clear (sym (eq.of_select printing xs fs w ks n)) (a_mark m.Select refl (both a (both b (both c (both d e)))))

-- ---- queries

pub another_select_clear : (s : Select) (ss : List Select) → Clear (select_of printing s) → ClearSelects ss → ClearSelects (s ∷ ss)
another_select_clear s [] d r = d
another_select_clear s (t ∷ ss) d r = both d (a_mark m.Union refl (a_mark m.All refl r))

pub query_clear : (ss : List Select) → ClearSelects ss → Clear (query_terminals (roll-Query (record { recursive = None; selects = ss })))
query_clear ss r = subst Clear (sym (eq.of_query printing ss)) r

recursive_by : (n : List ℕ) (columns all : List Terminal) → Writable (name n) → Clear columns → Clear all
    → Clear (mark m.With ∷ mark m.Recursive ∷ name n ∷ mark m.Open ∷ (columns ++ mark m.Close ∷ mark m.As ∷ mark m.Open ∷ (all ++ mark m.Close ∷ [])))
recursive_by n columns all h c d =
    a_mark m.With refl (a_mark m.Recursive refl (a_name n h (a_mark m.Open refl (both c (a_mark m.Close refl (a_mark m.As refl (closed d)))))))

pub recursive_clear : (n : List ℕ) (ns : List (List ℕ)) (s : Select) (ss : List Select) (second : Select) → Writable (name n) → Clear (names_terminals ns) → ClearSelects (s ∷ (ss ++ second ∷ []))
    → Clear (recursive_of printing (roll-Recursive (record { name = n; columns = ns; first = s ∷ ss; second = second })))
recursive_clear n ns s ss second h c d =
    rw (eq.of_recursive printing n ns (s ∷ ss) second)
    (rw (sym (map_last ss second)) (recursive_by n (names_terminals ns) (selects_terminals (map (λ s. select_of printing s) (s ∷ (ss ++ second ∷ [])))) h c d))

pub with_clear : (r : Recursive) (ss : List Select) → Clear (recursive_of printing r) → ClearSelects ss → Clear (query_terminals (roll-Query (record { recursive = Some r; selects = ss })))
with_clear r ss d c = subst Clear (sym (eq.of_with printing r ss)) (both d c)
