-- What is read from writable terminals prints clearly: as writable terminals, where behind a dot stands a name.
use Rattle.std.proofs.Common.{Bool, true, false, List, [], ◌∷◌, map}
use Rattle.away_grammar.specs.declared.grammar.Mark.TheVariants as m
use Rattle.away_trees.specs.declared.queries.Expr.TheVariants as e
use Rattle.away_trees.specs.Algebra.{item_of, from_of, key_of, select_of, recursive_of}
use Rattle.away_grammar.specs.Terminals.{Terminal, mark}
use Rattle.away_grammar.specs.Grammar.{Sort, at, links, list, arms, item, items, from_item, from_items, from_clause, where_clause, key, keys, order_clause, limit_clause, select, selects, query, names, recursive, file, column, columns, tables, Tree, perhaps, schema_qualified, not_null, Reads, chain, no_link, link, affirmed, negated, untested, tested, uncompared, compared, unranged, between, one_of, unsigned, signed, least, uncast, cast_once, cast_twice, number, text, literal, named, qualified, typed_parameter, short_parameter, parentheses, scalar, cast, exists, cases, cases_else, call_word, count_rows, call_empty, call, last, another, no_arm, arm, item_alone, item_as, last_item, another_item, table_alone, table_as, sub_alone, sub_columns, last_from, another_from, last_name, another_name, key_alone, ascending, descending, last_key, another_key, no_from, from, no_where, where_of, no_order, order_by, no_limit, limit_of, select_of as a_select, last_select, another_select, query_of, recursive_of as a_recursive, plain_file, with_file, column_of, last_column, another_column, no_table, table}
use Rattle.away_grammar.specs.Printing.{printing, names_terminals, query_terminals}
use Rattle.sql_printer.specs.Writable.{AllWritable}
use Rattle.sql_printer.proofs.PrintClear as x
use Rattle.sql_printer.proofs.PrintClear.{Clear, nothing}
use Rattle.sql_printer.proofs.PrintClearQueries as q

-- Schemas have no printed text.
abbrev pub PrintsClear : (n : Sort) → Tree n → Type 0
PrintsClear (at level) t = x.Fine t
PrintsClear (links level) t = x.ClearLinks t
PrintsClear list t = x.ClearList t
PrintsClear arms t = x.ClearArms t
PrintsClear item t = Clear (item_of printing t)
PrintsClear items t = q.ClearItems t
PrintsClear from_item t = Clear (from_of printing t)
PrintsClear from_items t = q.ClearFroms t
PrintsClear from_clause t = q.ClearFrom t
PrintsClear where_clause t = q.ClearWhere t
PrintsClear key t = Clear (key_of printing t)
PrintsClear keys t = q.ClearKeys t
PrintsClear order_clause t = q.ClearOrder t
PrintsClear limit_clause t = q.ClearLimit t
PrintsClear select t = Clear (select_of printing t)
PrintsClear selects t = q.ClearSelects t
PrintsClear query t = Clear (query_terminals t)
PrintsClear names t = Clear (names_terminals t)
PrintsClear recursive t = Clear (recursive_of printing t)
PrintsClear file t = Clear (query_terminals t)
PrintsClear column t = Unit {0}
PrintsClear columns t = Unit {0}
PrintsClear tables t = Unit {0}

behind_perhaps : (w : Bool) (s : Terminal) (ts : List Terminal) → AllWritable (perhaps w s ts) → AllWritable ts
behind_perhaps true s ts h = h.1
behind_perhaps false s ts h = h

behind_public : (w : Bool) (ts : List Terminal) → AllWritable (schema_qualified w ts) → AllWritable ts
behind_public true ts h = h.1.1
behind_public false ts h = h

behind_not_null : (w : Bool) (ts : List Terminal) → AllWritable (not_null w ts) → AllWritable ts
behind_not_null true ts h = h.1.1
behind_not_null false ts h = h

-- and what is left is writable
pub prints_clear : {n : Sort} {ts : List Terminal} {t : Tree n} {rest : List Terminal} → Reads n ts t rest → AllWritable ts → PrintsClear n t × AllWritable rest
prints_clear (chain {first = f} {more = []} p d c) h = let r = prints_clear d h in (r.0, (prints_clear c r.1).1)
prints_clear (chain {first = f} {more = y ∷ ys} p d c) h =
    let r = prints_clear d h in
    let s = prints_clear c r.1 in
    (x.chain_clear f y ys r.0 s.0, s.1)
prints_clear no_link h = (λ level. nothing, h)
prints_clear (link {o = o} {x = y} {more = more} terminal k d c) h =
    let r = prints_clear d h.1 in
    let s = prints_clear c r.1 in
    (x.link_clear o y more r.0 s.0, s.1)
prints_clear (affirmed d) h = prints_clear d h
prints_clear (negated {x = y} d) h = let r = prints_clear d h.1 in (x.not_clear y r.0, r.1)
prints_clear (untested d) h = prints_clear d h
prints_clear (tested {x = y} {n = n} {test = test} terminal k d) h = let r = prints_clear d h in (x.is_clear y test n r.0, (behind_perhaps n (mark m.Not) _ r.1.1).1)
prints_clear (uncompared d) h = prints_clear d h
prints_clear (compared {x = y} {y = z} {o = o} terminal k d c) h =
    let r = prints_clear d h in
    let s = prints_clear c r.1.1 in
    (x.compare_clear o y z r.0 s.0, s.1)
prints_clear (unranged d) h = prints_clear d h
prints_clear (between {x = y} {low = low} {high = high} {n = n} d b c) h =
    let r = prints_clear d h in
    let s = prints_clear b (behind_perhaps n (mark m.Not) _ r.1).1 in
    let u = prints_clear c s.1.1 in
    (x.between_clear n y low high r.0 s.0 u.0, u.1)
prints_clear (one_of {x = y} {xs = xs} {n = n} d b) h =
    let r = prints_clear d h in
    let s = prints_clear b (behind_perhaps n (mark m.Not) _ r.1).1.1 in
    (x.one_of_clear n y xs r.0 s.0, s.1.1)
prints_clear (unsigned d) h = prints_clear d h
prints_clear (signed {x = y} d) h = let r = prints_clear d h.1 in (x.neg_clear y r.0, r.1)
prints_clear least h = (x.least_clear, h.1.1)
prints_clear (uncast d) h = prints_clear d h
prints_clear (cast_once {x = y} {ty = ty} t k d) h = let r = prints_clear d h in (x.cast_clear y ty r.0, r.1.1.1)
prints_clear (cast_twice {x = y} {first = first} {second = second} t u k j d) h =
    let r = prints_clear d h in
    (x.cast_clear (e.Cast y first) second (x.cast_clear y first r.0), r.1.1.1.1.1)
prints_clear (number {n = n} k) h = (x.number_clear n k, h.1)
prints_clear (text {t = t}) h = (x.text_clear t h.0, h.1)
prints_clear (literal {x = y} terminal k) h = (x.literal_clear terminal y k, h.1)
prints_clear (named {n = n}) h = (x.named_clear n h.0, h.1)
prints_clear (qualified {n = n} {c = c}) h = (x.qualified_clear n c h.0 h.1.1.0, h.1.1.1)
prints_clear (typed_parameter {i = i} {ty = ty} t k) h = (x.parameter_clear i ty h.1.1.0, h.1.1.1.1.1.1)
prints_clear (short_parameter {i = i} {ty = ty} t k) h = (x.parameter_clear i ty h.0, h.1.1.1)
prints_clear (parentheses d) h = let r = prints_clear d h.1 in (r.0, r.1.1)
prints_clear (scalar {q = s} d) h = let r = prints_clear d h.1 in (x.scalar_clear s r.0, r.1.1)
prints_clear (cast {x = y} {ty = ty} t k d) h = let r = prints_clear d h.1.1 in (x.cast_clear y ty r.0, r.1.1.1.1)
prints_clear (exists {q = s} d) h = let r = prints_clear d h.1.1 in (x.exists_clear s r.0, r.1.1)
prints_clear (cases {a = a} {more = more} d) h = let r = prints_clear d h.1 in (x.cases_clear (a ∷ more) r.0, r.1.1)
prints_clear (cases_else {a = a} {more = more} {x = y} d b) h =
    let r = prints_clear d h.1 in
    let s = prints_clear b r.1.1 in
    (x.cases_else_clear (a ∷ more) y r.0 s.0, s.1.1)
prints_clear (call_word {n = n} {xs = xs} terminal k d) h = let r = prints_clear d h.1.1 in (x.call_clear n xs (x.word_clear terminal n k) r.0, r.1.1)
prints_clear count_rows h = (x.count_clear, h.1.1.1.1)
prints_clear (call_empty {n = n}) h = (x.call_empty_clear n h.0, h.1.1.1)
prints_clear (call {n = n} {xs = xs} d) h = let r = prints_clear d h.1.1 in (x.call_clear n xs (x.function_clear n h.0) r.0, r.1.1)
prints_clear (last {x = y} d) h = let r = prints_clear d h in (x.last_clear y r.0, r.1)
prints_clear (another {x = y} {xs = xs} d b) h =
    let r = prints_clear d h in
    let s = prints_clear b r.1.1 in
    (x.another_clear y xs r.0 s.0, s.1)
prints_clear no_arm h = (nothing, h)
prints_clear (arm {test = test} {value = value} {more = more} d b c) h =
    let r = prints_clear d h.1 in
    let s = prints_clear b r.1.1 in
    let u = prints_clear c s.1 in
    (x.arm_clear test value more r.0 s.0 u.0, u.1)
prints_clear (item_alone {x = y} d) h = let r = prints_clear d h in (q.item_alone_clear y r.0, r.1)
prints_clear (item_as {x = y} {n = n} d) h = let r = prints_clear d h in (q.item_as_clear y n r.1.1.0 r.0, r.1.1.1)
prints_clear (last_item {x = y} d) h = prints_clear d h
prints_clear (another_item {x = y} {xs = xs} d b) h =
    let r = prints_clear d h in
    let s = prints_clear b r.1.1 in
    (q.commas_clear (item_of printing y) (map (λ x. item_of printing x) xs) r.0 s.0, s.1)
prints_clear (table_alone {n = n} w) h = let k = behind_public w _ h in (q.table_clear n n k.0 k.0, k.1)
prints_clear (table_as {n = n} {a = a} w v) h =
    let k = behind_public w _ h in
    let j = behind_perhaps v (mark m.As) _ k.1 in
    (q.table_clear n a k.0 j.0, j.1)
prints_clear (sub_alone {q = s} {a = a} {v = v} w d) h =
    let r = prints_clear d (behind_perhaps v (mark m.Lateral) _ h).1 in
    let j = behind_perhaps w (mark m.As) _ r.1.1 in
    (q.sub_clear s v a r.0 j.0, j.1)
prints_clear (sub_columns {q = s} {a = a} {ns = ns} {v = v} w d b) h =
    let r = prints_clear d (behind_perhaps v (mark m.Lateral) _ h).1 in
    let j = behind_perhaps w (mark m.As) _ r.1.1 in
    let u = prints_clear b j.1.1 in
    (q.sub_columns_clear s v a ns r.0 j.0 u.0, u.1.1)
prints_clear (last_from {x = y} d) h = prints_clear d h
prints_clear (another_from {x = y} {xs = xs} d b) h =
    let r = prints_clear d h in
    let s = prints_clear b r.1.1 in
    (q.commas_clear (from_of printing y) (map (λ x. from_of printing x) xs) r.0 s.0, s.1)
prints_clear (last_name {n = n}) h = (q.last_name_clear n h.0, h.1)
prints_clear (another_name {n = n} {ns = ns} d) h = let r = prints_clear d h.1.1 in (q.another_name_clear n ns h.0 r.0, r.1)
prints_clear (key_alone {x = y} k d) h = let r = prints_clear d h in (q.key_clear y r.0, r.1)
prints_clear (ascending {x = y} k d) h = let r = prints_clear d h in (q.key_clear y r.0, r.1.1)
prints_clear (descending {x = y} k d) h = let r = prints_clear d h in (q.descending_clear y r.0, r.1.1)
prints_clear (last_key {x = y} d) h = prints_clear d h
prints_clear (another_key {x = y} {xs = xs} d b) h =
    let r = prints_clear d h in
    let s = prints_clear b r.1.1 in
    (q.commas_clear (key_of printing y) (map (λ x. key_of printing x) xs) r.0 s.0, s.1)
prints_clear no_from h = (nothing, h)
prints_clear (from {xs = xs} d) h = let r = prints_clear d h.1 in (q.from_clear xs r.0, r.1)
prints_clear no_where h = (nothing, h)
prints_clear (where_of {x = y} d) h = let r = prints_clear d h.1 in (q.where_clear y r.0, r.1)
prints_clear no_order h = (nothing, h)
prints_clear (order_by {xs = xs} d) h = let r = prints_clear d h.1.1 in (q.order_clear xs r.0, r.1)
prints_clear no_limit h = (nothing, h)
prints_clear (limit_of {x = y} d) h = let r = prints_clear d h.1 in (q.limit_clear y r.0, r.1)
prints_clear (a_select {xs = xs} {fs = fs} {w = w} {ks = ks} {n = n} d a b c f) h =
    let r = prints_clear d h.1 in
    let s = prints_clear a r.1 in
    let u = prints_clear b s.1 in
    let v = prints_clear c u.1 in
    let z = prints_clear f v.1 in
    (q.select_clear xs fs w ks n r.0 s.0 u.0 v.0 z.0, z.1)
prints_clear (last_select {s = s} d) h = prints_clear d h
prints_clear (another_select {s = s} {ss = ss} d b) h =
    let r = prints_clear d h in
    let u = prints_clear b r.1.1.1 in
    (q.another_select_clear s ss r.0 u.0, u.1)
prints_clear (query_of {ss = ss} k d) h = let r = prints_clear d h in (q.query_clear ss r.0, r.1)
prints_clear (a_recursive {n = n} {ns = ns} {s = s} ss second d b) h =
    let r = prints_clear d h.1.1.1.1 in
    let u = prints_clear b r.1.1.1.1 in
    (q.recursive_clear n ns s ss second h.1.1.0 r.0 u.0, u.1.1)
prints_clear (plain_file {q = s} w d) h = let r = prints_clear d h in (r.0, behind_perhaps w (mark m.Semicolon) _ r.1)
prints_clear (with_file {r = t} {ss = ss} w k d b) h =
    let r = prints_clear d h in
    let u = prints_clear b r.1 in
    (q.with_clear t ss r.0 u.0, behind_perhaps w (mark m.Semicolon) _ u.1)
prints_clear (column_of {v = v} t k) h = (tt, behind_not_null v _ h.1.1)
prints_clear (last_column d) h = prints_clear d h
prints_clear (another_column d b) h = let r = prints_clear d h in prints_clear b r.1.1
prints_clear no_table h = (tt, h)
prints_clear (table w d b) h =
    let r = prints_clear d (behind_public w _ h.1.1).1.1 in
    prints_clear b r.1.1.1
