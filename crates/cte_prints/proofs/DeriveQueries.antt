-- Each production of selects and queries derives a node, where its parts can be derived.
use Rattle.std.proofs.Common.{◌≡◌, ℕ, suc, Bool, true, false, List, [], ◌∷◌, ◌++◌, Option, Some, None}
use Rattle.away_grammar.specs.declared.grammar.Mark.TheVariants as m
use Rattle.away_grammar.specs.declared.grammar.Level.TheVariants as l
use Rattle.away_trees.specs.declared.queries.Expr.{Expr}
use Rattle.away_trees.specs.declared.queries.Source.TheVariants as source
use Rattle.away_trees.specs.declared.queries.Item.{Item}
use Rattle.away_trees.specs.declared.queries.FromItem.{FromItem}
use Rattle.away_trees.specs.declared.queries.Key.{Key}
use Rattle.away_trees.specs.declared.queries.Select.{Select}
use Rattle.away_trees.specs.declared.queries.Recursive.{Recursive}
use Rattle.away_trees.specs.declared.queries.Query.{Query}
use Rattle.away_trees.specs.declared.queries.Expr.TheViews.{roll-Item, roll-FromItem, roll-Key, roll-Select, roll-Recursive, roll-Query}
use Rattle.away_grammar.specs.Terminals.{mark, name}
use Rattle.away_grammar.specs.Grammar.{at, item, items, from_item, from_items, from_clause, where_clause, key, keys, order_clause, limit_clause, select}
use Rattle.away_grammar.specs.Grammar.{selects, query, names, recursive, file, perhaps, is_number, may_join}
use Rattle.sql_printer.specs.Writable.{Writable}
use Rattle.cte_prints.specs.ReadsIn as s
use Rattle.cte_prints.specs.Derivable.{Derivable}
use Rattle.cte_prints.proofs.DeriveNodes.{perhaps_writable}

-- ---- items

pub derive_item : {d : ℕ} {x : Expr} → Derivable d (at l.Or) x → Derivable d item (roll-Item (record { expr = x; alias = None }))
derive_item c rest = let r = c rest in record { terminals = r.terminals; writable = r.writable; derives = s.item_alone r.derives }

pub derive_item_as : {d : ℕ} {x : Expr} {n : List ℕ} → Writable (name n) → Derivable d (at l.Or) x → Derivable d item (roll-Item (record { expr = x; alias = Some n }))
derive_item_as {n = n} k c rest =
    let r = c (mark m.As ∷ name n ∷ rest) in
    record { terminals = r.terminals; writable = λ h. r.writable (tt, (k, h)); derives = s.item_as r.derives }

pub derive_last_item : {d : ℕ} {x : Item} → Derivable d item x → Derivable d items (x ∷ [])
derive_last_item c rest = let r = c rest in record { terminals = r.terminals; writable = r.writable; derives = s.last_item r.derives }

pub derive_another_item : {d : ℕ} {x : Item} {xs : List Item} → Derivable d item x → Derivable d items xs → Derivable d items (x ∷ xs)
derive_another_item c b rest =
    let q = b rest in
    let r = c (mark m.Comma ∷ q.terminals) in
    record { terminals = r.terminals; writable = λ h. r.writable (tt, q.writable h); derives = s.another_item r.derives q.derives }

-- ---- names

pub derive_last_name : {d : ℕ} {n : List ℕ} → Writable (name n) → Derivable d names (n ∷ [])
derive_last_name {n = n} k rest = record { terminals = name n ∷ rest; writable = λ h. (k, h); derives = s.last_name }

pub derive_another_name : {d : ℕ} {n : List ℕ} {ns : List (List ℕ)} → Writable (name n) → Derivable d names ns → Derivable d names (n ∷ ns)
derive_another_name {n = n} k c rest =
    let r = c rest in
    record { terminals = name n ∷ mark m.Comma ∷ r.terminals; writable = λ h. (k, (tt, r.writable h)); derives = s.another_name r.derives }

-- ---- FROM

pub derive_table : {d : ℕ} {n : List ℕ} → Writable (name n) → Derivable d from_item (roll-FromItem (record { source = source.Table n; alias = n; columns = [] }))
derive_table {n = n} k rest = record { terminals = name n ∷ rest; writable = λ h. (k, h); derives = s.table_alone false }

pub derive_table_as : {d : ℕ} {n a : List ℕ} → Writable (name n) → Writable (name a)
    → Derivable d from_item (roll-FromItem (record { source = source.Table n; alias = a; columns = [] }))
derive_table_as {n = n} {a = a} k j rest = record { terminals = name n ∷ mark m.As ∷ name a ∷ rest; writable = λ h. (k, (tt, (j, h))); derives = s.table_as false true }

pub derive_sub : {d : ℕ} {q : Query} {a : List ℕ} (v : Bool) → Writable (name a) → Derivable d query q
    → Derivable (suc d) from_item (roll-FromItem (record { source = source.Sub q v; alias = a; columns = [] }))
derive_sub {a = a} v k c rest =
    let r = c (mark m.Close ∷ mark m.As ∷ name a ∷ rest) in
    record {
      terminals = perhaps v (mark m.Lateral) (mark m.Open ∷ r.terminals);
      writable = λ h. perhaps_writable v (mark m.Lateral) (mark m.Open ∷ r.terminals) tt (tt, r.writable (tt, (tt, (k, h))));
      derives = s.sub_alone true r.derives;
    }

pub derive_sub_columns : {d : ℕ} {q : Query} {a : List ℕ} {ns : List (List ℕ)} (v : Bool) → Writable (name a) → Derivable d query q → Derivable d names ns
    → Derivable (suc d) from_item (roll-FromItem (record { source = source.Sub q v; alias = a; columns = ns }))
derive_sub_columns {a = a} v k c b rest =
    let z = b (mark m.Close ∷ rest) in
    let r = c (mark m.Close ∷ mark m.As ∷ name a ∷ mark m.Open ∷ z.terminals) in
    record {
      terminals = perhaps v (mark m.Lateral) (mark m.Open ∷ r.terminals);
      writable = λ h. perhaps_writable v (mark m.Lateral) (mark m.Open ∷ r.terminals) tt (tt, r.writable (tt, (tt, (k, (tt, z.writable (tt, h))))));
      derives = s.sub_columns true r.derives z.derives;
    }

pub derive_last_from : {d : ℕ} {x : FromItem} → Derivable d from_item x → Derivable d from_items (x ∷ [])
derive_last_from c rest = let r = c rest in record { terminals = r.terminals; writable = r.writable; derives = s.last_from r.derives }

pub derive_another_from : {d : ℕ} {x : FromItem} {xs : List FromItem} → Derivable d from_item x → Derivable d from_items xs → Derivable d from_items (x ∷ xs)
derive_another_from c b rest =
    let q = b rest in
    let r = c (mark m.Comma ∷ q.terminals) in
    record { terminals = r.terminals; writable = λ h. r.writable (tt, q.writable h); derives = s.another_from r.derives q.derives }

-- ---- keys

pub derive_key : {d : ℕ} {x : Expr} → is_number x ≡ false → Derivable d (at l.Or) x → Derivable d key (roll-Key (record { expr = x; descending = false }))
derive_key k c rest = let r = c rest in record { terminals = r.terminals; writable = r.writable; derives = s.key_alone k r.derives }

pub derive_descending : {d : ℕ} {x : Expr} → is_number x ≡ false → Derivable d (at l.Or) x → Derivable d key (roll-Key (record { expr = x; descending = true }))
derive_descending k c rest =
    let r = c (mark m.Desc ∷ rest) in
    record { terminals = r.terminals; writable = λ h. r.writable (tt, h); derives = s.descending k r.derives }

pub derive_last_key : {d : ℕ} {x : Key} → Derivable d key x → Derivable d keys (x ∷ [])
derive_last_key c rest = let r = c rest in record { terminals = r.terminals; writable = r.writable; derives = s.last_key r.derives }

pub derive_another_key : {d : ℕ} {x : Key} {xs : List Key} → Derivable d key x → Derivable d keys xs → Derivable d keys (x ∷ xs)
derive_another_key c b rest =
    let q = b rest in
    let r = c (mark m.Comma ∷ q.terminals) in
    record { terminals = r.terminals; writable = λ h. r.writable (tt, q.writable h); derives = s.another_key r.derives q.derives }

-- ---- clauses

pub derive_no_from : {d : ℕ} → Derivable d from_clause []
derive_no_from rest = record { terminals = rest; writable = λ h. h; derives = s.no_from }

pub derive_from : {d : ℕ} {xs : List FromItem} → Derivable d from_items xs → Derivable d from_clause xs
derive_from c rest = let r = c rest in record { terminals = mark m.From ∷ r.terminals; writable = λ h. (tt, r.writable h); derives = s.from r.derives }

pub derive_no_where : {d : ℕ} → Derivable d where_clause None
derive_no_where rest = record { terminals = rest; writable = λ h. h; derives = s.no_where }

pub derive_where : {d : ℕ} {x : Expr} → Derivable d (at l.Or) x → Derivable d where_clause (Some x)
derive_where c rest = let r = c rest in record { terminals = mark m.Where ∷ r.terminals; writable = λ h. (tt, r.writable h); derives = s.where_of r.derives }

pub derive_no_order : {d : ℕ} → Derivable d order_clause []
derive_no_order rest = record { terminals = rest; writable = λ h. h; derives = s.no_order }

pub derive_order : {d : ℕ} {xs : List Key} → Derivable d keys xs → Derivable d order_clause xs
derive_order c rest = let r = c rest in record { terminals = mark m.Order ∷ mark m.By ∷ r.terminals; writable = λ h. (tt, (tt, r.writable h)); derives = s.order_by r.derives }

pub derive_no_limit : {d : ℕ} → Derivable d limit_clause None
derive_no_limit rest = record { terminals = rest; writable = λ h. h; derives = s.no_limit }

pub derive_limit : {d : ℕ} {x : Expr} → Derivable d (at l.Or) x → Derivable d limit_clause (Some x)
derive_limit c rest = let r = c rest in record { terminals = mark m.Limit ∷ r.terminals; writable = λ h. (tt, r.writable h); derives = s.limit_of r.derives }

-- ---- selects and queries

pub derive_select : {d : ℕ} {xs : List Item} {fs : List FromItem} {w : Option Expr} {ks : List Key} {n : Option Expr} → Derivable d items xs → Derivable d from_clause fs
    → Derivable d where_clause w → Derivable d order_clause ks → Derivable d limit_clause n
    → Derivable d select (roll-Select (record { list = xs; from = fs; filter = w; order = ks; limit = n }))
derive_select i f w o n rest =
    let a = n rest in
    let b = o a.terminals in
    let c = w b.terminals in
    let e = f c.terminals in
    let r = i e.terminals in
    record {
      terminals = mark m.Select ∷ r.terminals;
      writable = λ h. (tt, r.writable (e.writable (c.writable (b.writable (a.writable h)))));
      derives = s.select_of r.derives e.derives c.derives b.derives a.derives;
    }

pub derive_last_select : {d : ℕ} {x : Select} → Derivable d select x → Derivable d selects (x ∷ [])
derive_last_select c rest = let r = c rest in record { terminals = r.terminals; writable = r.writable; derives = s.last_select r.derives }

pub derive_another_select : {d : ℕ} {x : Select} {xs : List Select} → Derivable d select x → Derivable d selects xs → Derivable d selects (x ∷ xs)
derive_another_select c b rest =
    let q = b rest in
    let r = c (mark m.Union ∷ mark m.All ∷ q.terminals) in
    record { terminals = r.terminals; writable = λ h. r.writable (tt, (tt, q.writable h)); derives = s.another_select r.derives q.derives }

pub derive_query : {d : ℕ} {xs : List Select} → may_join xs ≡ true → Derivable d selects xs → Derivable d query (roll-Query (record { recursive = None; selects = xs }))
derive_query k c rest = let r = c rest in record { terminals = r.terminals; writable = r.writable; derives = s.query_of k r.derives }

-- WITH RECURSIVE
pub derive_recursive : {d : ℕ} {n : List ℕ} {ns : List (List ℕ)} {x : Select} (xs : List Select) (second : Select) → Writable (name n) → Derivable d names ns
    → Derivable d selects (x ∷ (xs ++ second ∷ []))
    → Derivable (suc d) recursive (roll-Recursive (record { name = n; columns = ns; first = x ∷ xs; second = second }))
derive_recursive {n = n} xs second k b c rest =
    let r = c (mark m.Close ∷ rest) in
    let z = b (mark m.Close ∷ mark m.As ∷ mark m.Open ∷ r.terminals) in
    record {
      terminals = mark m.With ∷ mark m.Recursive ∷ name n ∷ mark m.Open ∷ z.terminals;
      writable = λ h. (tt, (tt, (k, (tt, z.writable (tt, (tt, (tt, r.writable (tt, h))))))));
      derives = s.recursive_of xs second z.derives r.derives;
    }

pub derive_file : {d : ℕ} {q : Query} → Derivable d query q → Derivable d file q
derive_file c rest = let r = c rest in record { terminals = r.terminals; writable = r.writable; derives = s.plain_file false r.derives }

pub derive_with : {d : ℕ} {r : Recursive} {xs : List Select} → may_join xs ≡ true → Derivable d recursive r → Derivable d selects xs
    → Derivable d file (roll-Query (record { recursive = Some r; selects = xs }))
derive_with k c b rest =
    let q = b rest in
    let r = c q.terminals in
    record { terminals = r.terminals; writable = λ h. r.writable (q.writable h); derives = s.with_file false k r.derives q.derives }
