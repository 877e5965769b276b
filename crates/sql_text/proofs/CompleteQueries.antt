-- Selects, queries, files and schemas: what the grammar reads, the plans give, step by step.
use Rattle.std.proofs.Common.{◌≡◌, ℕ, Bool, true, false, List, [], ◌∷◌, ◌++◌, Option, Some, None, refl, sym, ap, subst, lit≤, lit<}
use Rattle.away_grammar.specs.declared.grammar.Mark.TheVariants as m
use Rattle.away_grammar.specs.declared.grammar.Level.TheVariants as l
use Rattle.away_values.specs.declared.types.Ty.{Ty}
use Rattle.away_trees.specs.declared.queries.Expr.{Expr}
use Rattle.away_trees.specs.declared.queries.Item.{Item}
use Rattle.away_trees.specs.declared.queries.FromItem.{FromItem}
use Rattle.away_trees.specs.declared.queries.Key.{Key}
use Rattle.away_trees.specs.declared.queries.Select.{Select}
use Rattle.away_trees.specs.declared.queries.Recursive.{Recursive}
use Rattle.away_trees.specs.declared.queries.Query.{Query}
use Rattle.away_trees.specs.declared.schemas.ColumnSchema.{ColumnSchema}
use Rattle.away_trees.specs.declared.schemas.TableSchema.{TableSchema}
use Rattle.away_grammar.specs.Terminals.{Terminal, mark, name}
use Rattle.away_grammar.specs.Grammar.{at, items, from_items, from_clause, where_clause, keys, order_clause, limit_clause, select, selects, query, names, recursive, file, column, columns, tables, Tree, StopsAt, may_join, perhaps, schema_qualified, not_null, type_named}
use Rattle.sql_text.specs.Plans.{Plan, done, eat, expect, Begins, Runs, ends, eats, leaves, sees, misses, reads}
use Rattle.sql_text.specs.TerminalKinds.{name_in, type_in, is_with}
use Rattle.sql_text.specs.Descent.{plan, select_with, query_with, recursive_with, parted, put_first, file_with}
use Rattle.sql_text.proofs.CompleteStops.{Following, looser, no_mark}
use Rattle.sql_text.proofs.CompleteSteps.{Given, wants, decides, chosen, other_mark}
use Rattle.sql_text.proofs.CompleteFrom.{qualified_run}

-- ---- clauses

pub given_no_from : {ts : List Terminal} → Given from_clause ts [] ts
given_no_from {ts = ts} stops = leaves (no_mark 9 ts m.From (lit≤ tt) stops) ends

pub given_from : {ts rest : List Terminal} {xs : List FromItem} → Given from_items ts xs rest → Given from_clause (mark m.From ∷ ts) xs rest
given_from {rest = rest} c stops = eats (reads (c (looser 9 10 rest (lit≤ tt) stops)) ends)

pub given_no_where : {ts : List Terminal} → Given where_clause ts None ts
given_no_where {ts = ts} stops = leaves (no_mark 8 ts m.Where (lit≤ tt) stops) ends

pub given_where_of : {ts rest : List Terminal} {x : Expr} → Given (at l.Or) ts x rest → Given where_clause (mark m.Where ∷ ts) (Some x) rest
given_where_of {rest = rest} c stops = eats (reads (c (looser 8 21 rest (lit≤ tt) stops)) ends)

pub given_no_order : {ts : List Terminal} → Given order_clause ts [] ts
given_no_order {ts = ts} stops = leaves (no_mark 7 ts m.Order (lit≤ tt) stops) ends

pub given_order_by : {ts rest : List Terminal} {xs : List Key} → Given keys ts xs rest → Given order_clause (mark m.Order ∷ mark m.By ∷ ts) xs rest
given_order_by {rest = rest} c stops = eats (eats (reads (c (looser 7 10 rest (lit≤ tt) stops)) ends))

pub given_no_limit : {ts : List Terminal} → Given limit_clause ts None ts
given_no_limit {ts = ts} stops = leaves (no_mark 6 ts m.Limit (lit≤ tt) stops) ends

pub given_limit_of : {ts rest : List Terminal} {x : Expr} → Given (at l.Or) ts x rest → Given limit_clause (mark m.Limit ∷ ts) (Some x) rest
given_limit_of {rest = rest} c stops = eats (reads (c (looser 6 21 rest (lit≤ tt) stops)) ends)

-- ---- selects and queries

pub given_select_of : {ts a b c d rest : List Terminal} {xs : List Item} {fs : List FromItem} {w : Option Expr} {ks : List Key} {n : Option Expr}
    → Following from_clause a b → Following where_clause b c → Following order_clause c d → Following limit_clause d rest
    → Given items ts xs a → Given from_clause a fs b → Given where_clause b w c → Given order_clause c ks d → Given limit_clause d n rest
    → Given select (mark m.Select ∷ ts) (select_with xs fs w ks n) rest
given_select_of {a = a} {b = b} {c = c} {d = d} behind_items behind_from behind_where behind_order p q r s t stops =
    let at_d : StopsAt 7 d = behind_order stops in
    let at_c : StopsAt 8 c = behind_where at_d in
    let at_b : StopsAt 9 b = behind_from at_c in
    let at_a : StopsAt 10 a = behind_items at_b in
    eats (reads (p at_a) (reads (q at_b) (reads (r at_c) (reads (s at_d) (reads (t stops) ends)))))

pub given_last_select : {ts rest : List Terminal} {s : Select} → Given select ts s rest → Given selects ts (s ∷ []) rest
given_last_select {rest = rest} c stops = reads (c (looser 5 6 rest (lit≤ tt) stops)) (leaves (no_mark 5 rest m.Union (lit≤ tt) stops) ends)

pub given_another_select : {ts middle rest : List Terminal} {s : Select} {ss : List Select}
    → Given select ts s (mark m.Union ∷ mark m.All ∷ middle) → Given selects middle ss rest → Given selects ts (s ∷ ss) rest
given_another_select c d stops = reads (c (lit< tt)) (eats (eats (reads (d stops) ends)))

pub given_query_of : {ts rest : List Terminal} {ss : List Select} → may_join ss ≡ true → Given selects ts ss rest → Given query ts (query_with None ss) rest
given_query_of h c stops = reads (c stops) (chosen _ h ends)

pub parted_is : (s : Select) (ss : List Select) (second : Select) → parted (s ∷ (ss ++ second ∷ [])) ≡ Some (s ∷ ss, second)
parted_is s [] second = refl
parted_is s (t ∷ ss) second = ap (λ o. put_first s o t) (parted_is t ss second)

pub given_recursive_of : {ts after rest : List Terminal} {n : List ℕ} {ns : List (List ℕ)} {s : Select} (ss : List Select) (second : Select)
    → Given names ts ns (mark m.Close ∷ mark m.As ∷ mark m.Open ∷ after) → Given selects after (s ∷ (ss ++ second ∷ [])) (mark m.Close ∷ rest)
    → Given recursive (mark m.With ∷ mark m.Recursive ∷ name n ∷ mark m.Open ∷ ts) (recursive_with n ns (s ∷ ss, second)) rest
given_recursive_of {s = s} ss second c d stops =
    eats (eats (wants name_in _ refl (eats (reads (c (lit< tt)) (eats (eats (eats (reads (d (lit< tt)) (eats (decides _ _ (parted_is s ss second) ends))))))))))

-- ---- files

file_run : {q : Query} {rest : List Terminal} (w : Bool) → StopsAt 4 rest → Runs Tree plan file (file_with q) (perhaps w (mark m.Semicolon) rest) (Some (q, rest))
file_run true stops = eats ends
file_run {rest = rest} false stops = leaves (no_mark 4 rest m.Semicolon (lit≤ tt) stops) ends

file_stops : (rest : List Terminal) (w : Bool) → StopsAt 4 rest → StopsAt 5 (perhaps w (mark m.Semicolon) rest)
file_stops rest true stops = lit< tt
file_stops rest false stops = looser 4 5 rest (lit≤ tt) stops

pub given_plain_file : {ts rest : List Terminal} {q : Query} (w : Bool) → Begins ts m.Select → Given query ts q (perhaps w (mark m.Semicolon) rest) → Given file ts q rest
given_plain_file {rest = rest} w b c stops = misses (ap is_with b.1) (reads (c (file_stops rest w stops)) (file_run w stops))

select_stops : (ts : List Terminal) → Begins ts m.Select → StopsAt 5 ts
select_stops ts b = subst (λ ts. StopsAt 5 ts) (sym b.1) (lit< tt)

pub given_with_file : {ts middle rest : List Terminal} {r : Recursive} {ss : List Select} (w : Bool) → may_join ss ≡ true → Begins ts m.With → Begins middle m.Select
    → Given recursive ts r middle → Given selects middle ss (perhaps w (mark m.Semicolon) rest) → Given file ts (query_with (Some r) ss) rest
given_with_file {middle = middle} {rest = rest} w h b a c d stops =
    sees (ap is_with b.1) (reads (c (select_stops middle a)) (reads (d (file_stops rest w stops)) (chosen _ h (file_run w stops))))

-- ---- schemas

-- behind the type of a column
abbrev null_plan : List ℕ → Ty → Plan Tree column
null_plan n ty = eat m.Not (expect m.Null (done (record { name = n; ty = ty; not_null = true }))) (done (record { name = n; ty = ty; not_null = false }))

column_run : {n : List ℕ} {ty : Ty} {rest : List Terminal} (v : Bool) → StopsAt 15 rest
    → Runs Tree plan column (null_plan n ty) (not_null v rest) (Some (record { name = n; ty = ty; not_null = v }, rest))
column_run true stops = eats (eats ends)
column_run {rest = rest} false stops = leaves (no_mark 15 rest m.Not (lit≤ tt) stops) ends

pub given_column_of : {rest : List Terminal} {n : List ℕ} {ty : Ty} (v : Bool) (t : List ℕ) → type_named t ≡ Some ty
    → Given column (name n ∷ name t ∷ not_null v rest) (record { name = n; ty = ty; not_null = v }) rest
given_column_of v t h stops = wants name_in _ refl (wants type_in _ h (column_run v stops))

pub given_last_column : {ts rest : List Terminal} {c : ColumnSchema} → Given column ts c rest → Given columns ts (c ∷ []) rest
given_last_column {rest = rest} c stops = reads (c (looser 10 15 rest (lit≤ tt) stops)) (leaves (no_mark 10 rest m.Comma (lit≤ tt) stops) ends)

pub given_another_column : {ts middle rest : List Terminal} {c : ColumnSchema} {cs : List ColumnSchema} → Given column ts c (mark m.Comma ∷ middle) → Given columns middle cs rest → Given columns ts (c ∷ cs) rest
given_another_column c d stops = reads (c (lit< tt)) (eats (reads (d stops) ends))

pub given_no_table : {ts : List Terminal} → Given tables ts [] ts
given_no_table {ts = ts} stops = leaves (no_mark 3 ts m.Create (lit≤ tt) stops) ends

pub given_table : {ts middle rest : List Terminal} {n : List ℕ} {cs : List ColumnSchema} {more : List TableSchema} (q : Bool)
    → Given columns ts cs (mark m.Close ∷ mark m.Semicolon ∷ middle) → Given tables middle more rest
    → Given tables (mark m.Create ∷ mark m.Table ∷ schema_qualified q (name n ∷ mark m.Open ∷ ts)) (record { name = n; columns = cs } ∷ more) rest
given_table {n = n} q c d stops =
    eats (eats (qualified_run q _ n (other_mark (λ same. absurd (cc same))) (eats (reads (c (lit< tt)) (eats (eats (reads (d stops) ends)))))))
