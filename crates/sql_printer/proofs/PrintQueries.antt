-- What each production of queries reads prints as terminals that read back, where its parts do.
use Rattle.std.proofs.Common.{◌≡◌, ℕ, Bool, true, false, List, [], ◌∷◌, ◌++◌, map, Option, Some, None, refl, sym, ap, subst, append_assoc, bytes_eq, if◌then◌else◌, option_map}
use Rattle.std.proofs.lemmas.Slice.Eq.{bytes_eq-Decides}
use Rattle.away_grammar.specs.declared.grammar.Mark.TheVariants as m
use Rattle.away_grammar.specs.declared.grammar.Level.TheVariants as l
use Rattle.away_trees.specs.declared.queries.Expr.{Expr}
use Rattle.away_trees.specs.declared.queries.Source.TheVariants as source
use Rattle.away_trees.specs.declared.queries.Item.{Item}
use Rattle.away_trees.specs.declared.queries.FromItem.{FromItem}
use Rattle.away_trees.specs.declared.queries.Key.{Key}
use Rattle.away_trees.specs.declared.queries.Select.{Select}
use Rattle.away_trees.specs.declared.queries.Recursive.{Recursive}
use Rattle.away_trees.specs.declared.queries.Query.{Query}
use Rattle.away_trees.specs.declared.queries.Expr.TheViews.{roll-Item, roll-FromItem, roll-Key, roll-Select, roll-Recursive, roll-Query}
use Rattle.away_trees.specs.Algebra.{item_of, from_of, key_of, select_of, recursive_of}
use Rattle.away_grammar.specs.Terminals.{Terminal, mark, name}
use Rattle.away_grammar.specs.Grammar.{item, items, from_item, from_items, from_clause, where_clause, key, keys, order_clause, limit_clause, select, selects, names, recursive, file, is_number, may_join, Reads, item_alone, item_as, last_item, another_item, table_alone, table_as, sub_alone, sub_columns, last_from, another_from, last_name, another_name, key_alone, descending, last_key, another_key, no_from, from, no_where, where_of, no_order, order_by, no_limit, limit_of, select_of as a_select, last_select, another_select, query_of, recursive_of as a_recursive, plain_file, with_file}
use Rattle.away_grammar.specs.Printing.{printed, printing, print_from, with_commas, names_terminals, from_terminals, where_terminals, order_terminals, limit_terminals, selects_terminals, query_terminals}
use Rattle.away_trees.proofs.Equations as eq
use Rattle.sql_printer.proofs.PrintLevels.{Back, place}
use Rattle.sql_printer.proofs.PrintExpressions.{NonEmpty, QueryBack, perhaps_behind}

-- ---- what the sorts read

abbrev pub ItemBack : Item → Type 0
ItemBack x = (after : List Terminal) → Reads item (item_of printing x ++ after) x after

abbrev pub ItemsBack : List Item → Type 0
ItemsBack xs = NonEmpty xs × ((after : List Terminal) → Reads items (with_commas (map (λ x. item_of printing x) xs) ++ after) xs after)

abbrev pub FromBack : FromItem → Type 0
FromBack x = (after : List Terminal) → Reads from_item (from_of printing x ++ after) x after

abbrev pub FromsBack : List FromItem → Type 0
FromsBack xs = NonEmpty xs × ((after : List Terminal) → Reads from_items (with_commas (map (λ x. from_of printing x) xs) ++ after) xs after)

abbrev pub FromClauseBack : List FromItem → Type 0
FromClauseBack xs = (after : List Terminal) → Reads from_clause (from_terminals (map (λ x. from_of printing x) xs) ++ after) xs after

abbrev pub WhereBack : Option Expr → Type 0
WhereBack w = (after : List Terminal) → Reads where_clause (where_terminals (option_map (λ x. printed x) w) ++ after) w after

abbrev pub KeyBack : Key → Type 0
KeyBack x = (after : List Terminal) → Reads key (key_of printing x ++ after) x after

abbrev pub KeysBack : List Key → Type 0
KeysBack xs = NonEmpty xs × ((after : List Terminal) → Reads keys (with_commas (map (λ x. key_of printing x) xs) ++ after) xs after)

abbrev pub OrderBack : List Key → Type 0
OrderBack xs = (after : List Terminal) → Reads order_clause (order_terminals (map (λ x. key_of printing x) xs) ++ after) xs after

abbrev pub LimitBack : Option Expr → Type 0
LimitBack n = (after : List Terminal) → Reads limit_clause (limit_terminals (option_map (λ x. printed x) n) ++ after) n after

abbrev pub SelectBack : Select → Type 0
SelectBack s = (after : List Terminal) → Reads select (select_of printing s ++ after) s after

abbrev pub SelectsBack : List Select → Type 0
SelectsBack ss = NonEmpty ss × ((after : List Terminal) → Reads selects (selects_terminals (map (λ s. select_of printing s) ss) ++ after) ss after)

abbrev pub NamesBack : List (List ℕ) → Type 0
NamesBack ns = NonEmpty ns × ((after : List Terminal) → Reads names (names_terminals ns ++ after) ns after)

abbrev pub RecursiveBack : Recursive → Type 0
RecursiveBack r = (after : List Terminal) → Reads recursive (recursive_of printing r ++ after) r after

abbrev pub FileBack : Query → Type 0
FileBack q = (after : List Terminal) → Reads file (query_terminals q ++ after) q after

-- ---- items

-- a list with more behind it, before what follows
behind_two : (x between more after : List Terminal) → (x ++ (between ++ more)) ++ after ≡ x ++ (between ++ (more ++ after))
behind_two x between more after = simp append_assoc refl

pub item_alone_back : (x : Expr) → Back x → ItemBack (roll-Item (record { expr = x; alias = None }))
item_alone_back x b after = simp append_assoc (item_alone (place l.Or x after b))

pub item_as_back : (x : Expr) (n : List ℕ) → Back x → ItemBack (roll-Item (record { expr = x; alias = Some n }))
item_as_back x n b after = simp append_assoc (item_as (place l.Or x (mark m.As ∷ name n ∷ after) b))

pub last_item_back : (x : Item) → ItemBack x → ItemsBack (x ∷ [])
last_item_back x b = (tt, λ after. last_item (b after))

pub another_item_back : (x : Item) (xs : List Item) → ItemBack x → ItemsBack xs → ItemsBack (x ∷ xs)
another_item_back x [] b r = absurd r.0
another_item_back x (y ∷ ys) b r = (
  tt,
  λ after.
      let more = with_commas (map (λ x. item_of printing x) (y ∷ ys)) in
      subst (λ ts. Reads items ts (x ∷ y ∷ ys) after) (sym (behind_two (item_of printing x) (mark m.Comma ∷ []) more after)) (another_item (b (mark m.Comma ∷ (more ++ after))) (r.1 after)),
)

-- ---- FROM

pub last_name_back : (n : List ℕ) → NamesBack (n ∷ [])
last_name_back n = (tt, λ after. last_name)

pub another_name_back : (n : List ℕ) (ns : List (List ℕ)) → NamesBack ns → NamesBack (n ∷ ns)
another_name_back n [] r = absurd r.0
another_name_back n (k ∷ ns) r = (tt, λ after. another_name (r.1 after))

-- A table's alias is written where it differs from its name.
table_reads : (b : Bool) (n a : List ℕ) (after : List Terminal) → bytes_eq n a ≡ b
    → Reads from_item (name n ∷ (((if b then [] else mark m.As ∷ name a ∷ []) ++ []) ++ after)) (roll-FromItem (record { source = source.Table n; alias = a; columns = [] })) after
table_reads true n a after h = subst (λ z. Reads from_item (name n ∷ after) (roll-FromItem (record { source = source.Table n; alias = z; columns = [] })) after) ((bytes_eq-Decides n a).0 h) (table_alone false)
table_reads false n a after h = table_as false true

pub table_back : (n a : List ℕ) → FromBack (roll-FromItem (record { source = source.Table n; alias = a; columns = [] }))
table_back n a after = table_reads (bytes_eq n a) n a after refl

pub sub_back : (q : Query) (v : Bool) (a : List ℕ) → QueryBack q → FromBack (roll-FromItem (record { source = source.Sub q v; alias = a; columns = [] }))
sub_back q v a b after =
    subst (λ o. Reads from_item (print_from (record { source = o; alias = a; columns = [] }) ++ after) (roll-FromItem (record { source = source.Sub q v; alias = a; columns = [] })) after) (sym (eq.of_sub printing q v))
    (simp (append_assoc, perhaps_behind) (sub_alone {v = v} true (b (mark m.Close ∷ mark m.As ∷ name a ∷ after))))

pub sub_columns_back : (q : Query) (v : Bool) (a : List ℕ) (ns : List (List ℕ)) → QueryBack q → NamesBack ns → FromBack (roll-FromItem (record { source = source.Sub q v; alias = a; columns = ns }))
sub_columns_back q v a [] b r after = absurd r.0
sub_columns_back q v a (n ∷ ns) b r after =
    let columns = names_terminals (n ∷ ns) ++ mark m.Close ∷ after in
    subst (λ o. Reads from_item (print_from (record { source = o; alias = a; columns = n ∷ ns }) ++ after) (roll-FromItem (record { source = source.Sub q v; alias = a; columns = n ∷ ns })) after) (sym (eq.of_sub printing q v))
    (simp (append_assoc, perhaps_behind) (sub_columns {v = v} true (b (mark m.Close ∷ mark m.As ∷ name a ∷ mark m.Open ∷ columns)) (r.1 (mark m.Close ∷ after))))

pub last_from_back : (x : FromItem) → FromBack x → FromsBack (x ∷ [])
last_from_back x b = (tt, λ after. last_from (b after))

pub another_from_back : (x : FromItem) (xs : List FromItem) → FromBack x → FromsBack xs → FromsBack (x ∷ xs)
another_from_back x [] b r = absurd r.0
another_from_back x (y ∷ ys) b r = (
  tt,
  λ after.
      let more = with_commas (map (λ x. from_of printing x) (y ∷ ys)) in
      subst (λ ts. Reads from_items ts (x ∷ y ∷ ys) after) (sym (behind_two (from_of printing x) (mark m.Comma ∷ []) more after)) (another_from (b (mark m.Comma ∷ (more ++ after))) (r.1 after)),
)

pub no_from_back : FromClauseBack []
no_from_back after = no_from

pub from_clause_back : (xs : List FromItem) → FromsBack xs → FromClauseBack xs
from_clause_back [] r = absurd r.0
from_clause_back (x ∷ xs) r = λ after. from (r.1 after)

-- ---- the other parts of a select

pub no_where_back : WhereBack None
no_where_back after = no_where

pub where_back : (x : Expr) → Back x → WhereBack (Some x)
where_back x b after = where_of (place l.Or x after b)

pub key_alone_back : (x : Expr) → is_number x ≡ false → Back x → KeyBack (roll-Key (record { expr = x; descending = false }))
key_alone_back x h b after = simp append_assoc (key_alone h (place l.Or x after b))

pub descending_back : (x : Expr) → is_number x ≡ false → Back x → KeyBack (roll-Key (record { expr = x; descending = true }))
descending_back x h b after = simp append_assoc (descending h (place l.Or x (mark m.Desc ∷ after) b))

pub last_key_back : (x : Key) → KeyBack x → KeysBack (x ∷ [])
last_key_back x b = (tt, λ after. last_key (b after))

pub another_key_back : (x : Key) (xs : List Key) → KeyBack x → KeysBack xs → KeysBack (x ∷ xs)
another_key_back x [] b r = absurd r.0
another_key_back x (y ∷ ys) b r = (
  tt,
  λ after.
      let more = with_commas (map (λ x. key_of printing x) (y ∷ ys)) in
      subst (λ ts. Reads keys ts (x ∷ y ∷ ys) after) (sym (behind_two (key_of printing x) (mark m.Comma ∷ []) more after)) (another_key (b (mark m.Comma ∷ (more ++ after))) (r.1 after)),
)

pub no_order_back : OrderBack []
no_order_back after = no_order

pub order_back : (xs : List Key) → KeysBack xs → OrderBack xs
order_back [] r = absurd r.0
order_back (x ∷ xs) r = λ after. order_by (r.1 after)

pub no_limit_back : LimitBack None
no_limit_back after = no_limit

pub limit_back : (x : Expr) → Back x → LimitBack (Some x)
limit_back x b after = limit_of (place l.Or x after b)

pub select_back : (xs : List Item) (fs : List FromItem) (w : Option Expr) (ks : List Key) (n : Option Expr) → ItemsBack xs → FromClauseBack fs → WhereBack w → OrderBack ks → LimitBack n
    → SelectBack (roll-Select (record { list = xs; from = fs; filter = w; order = ks; limit = n }))
select_back xs fs w ks n a b c d e after =
    let fourth = limit_terminals (option_map (λ x. printed x) n) ++ after in
    let third = order_terminals (map (λ x. key_of printing x) ks) ++ fourth in
    let second = where_terminals (option_map (λ x. printed x) w) ++ third in
    let first = from_terminals (map (λ x. from_of printing x) fs) ++ second in
    rw (eq.of_select printing xs fs w ks n) (simp append_assoc (a_select (a.1 first) (b second) (c third) (d fourth) (e after)))

-- ---- queries

pub last_select_back : (s : Select) → SelectBack s → SelectsBack (s ∷ [])
last_select_back s b = (tt, λ after. last_select (b after))

pub another_select_back : (s : Select) (ss : List Select) → SelectBack s → SelectsBack ss → SelectsBack (s ∷ ss)
another_select_back s [] b r = absurd r.0
another_select_back s (t ∷ ss) b r =
    (tt, λ after. simp append_assoc (another_select (b (mark m.Union ∷ mark m.All ∷ (selects_terminals (map (λ s. select_of printing s) (t ∷ ss)) ++ after))) (r.1 after)))

pub query_back : (ss : List Select) → may_join ss ≡ true → SelectsBack ss → QueryBack (roll-Query (record { recursive = None; selects = ss }))
query_back ss h r after = rw (eq.of_query printing ss) (query_of h (r.1 after))

-- the selects of WITH RECURSIVE
pub map_last : (ss : List Select) (t : Select) → map (λ s. select_of printing s) (ss ++ t ∷ []) ≡ map (λ s. select_of printing s) ss ++ select_of printing t ∷ []
map_last [] t = refl
map_last (s ∷ ss) t = ap (λ xs. select_of printing s ∷ xs) (map_last ss t)

recursive_reads : (n : List ℕ) (ns : List (List ℕ)) (s : Select) (ss : List Select) (second : Select) (columns all after : List Terminal)
    → Reads names (columns ++ mark m.Close ∷ mark m.As ∷ mark m.Open ∷ (all ++ mark m.Close ∷ after)) ns (mark m.Close ∷ mark m.As ∷ mark m.Open ∷ (all ++ mark m.Close ∷ after))
    → Reads selects (all ++ mark m.Close ∷ after) (s ∷ (ss ++ second ∷ [])) (mark m.Close ∷ after)
    → Reads recursive ((mark m.With ∷ mark m.Recursive ∷ name n ∷ mark m.Open ∷ (columns ++ mark m.Close ∷ mark m.As ∷ mark m.Open ∷ (all ++ mark m.Close ∷ []))) ++ after)
    (roll-Recursive (record { name = n; columns = ns; first = s ∷ ss; second = second })) after
recursive_reads n ns s ss second columns all after a b = simp append_assoc (a_recursive ss second a b)

pub recursive_back : (n : List ℕ) (ns : List (List ℕ)) (s : Select) (ss : List Select) (second : Select) → NamesBack ns → SelectsBack (s ∷ (ss ++ second ∷ []))
    → RecursiveBack (roll-Recursive (record { name = n; columns = ns; first = s ∷ ss; second = second }))
recursive_back n ns s ss second a b after =
    let all = selects_terminals (map (λ s. select_of printing s) (s ∷ (ss ++ second ∷ []))) in
    rw (eq.of_recursive printing n ns (s ∷ ss) second)
    (rw (sym (map_last ss second))
    (recursive_reads n ns s ss second (names_terminals ns) all after (a.1 (mark m.Close ∷ mark m.As ∷ mark m.Open ∷ (all ++ mark m.Close ∷ after))) (b.1 (mark m.Close ∷ after))))

pub plain_file_back : (q : Query) → QueryBack q → FileBack q
plain_file_back q b after = plain_file false (b after)

pub with_file_back : (r : Recursive) (ss : List Select) → may_join ss ≡ true → RecursiveBack r → SelectsBack ss → FileBack (roll-Query (record { recursive = Some r; selects = ss }))
with_file_back r ss h b d after =
    rw (eq.of_with printing r ss) (simp append_assoc (with_file false h (b (selects_terminals (map (λ s. select_of printing s) ss) ++ after)) (d.1 after)))
