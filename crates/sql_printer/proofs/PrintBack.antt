-- What is read prints as terminals that read back.
use Rattle.std.proofs.Common.{List}
use Rattle.away_trees.specs.declared.queries.Expr.TheVariants as e
use Rattle.away_grammar.specs.Terminals.{Terminal}
use Rattle.away_grammar.specs.Grammar.{Sort, at, links, list, arms, item, items, from_item, from_items, from_clause, where_clause, key, keys, order_clause, limit_clause, select, selects, query, names, recursive, file, column, columns, tables, Tree, Reads, chain, no_link, link, affirmed, negated, untested, tested, uncompared, compared, unranged, between, one_of, unsigned, signed, least, uncast, cast_once, cast_twice, number, text, literal, named, qualified, typed_parameter, short_parameter, parentheses, scalar, cast, exists, cases, cases_else, call_word, count_rows, call_empty, call, last, another, no_arm, arm, item_alone, item_as, last_item, another_item, table_alone, table_as, sub_alone, sub_columns, last_from, another_from, last_name, another_name, key_alone, ascending, descending, last_key, another_key, no_from, from, no_where, where_of, no_order, order_by, no_limit, limit_of, select_of, last_select, another_select, query_of, recursive_of, plain_file, with_file, column_of, last_column, another_column, no_table, table}
use Rattle.sql_printer.proofs.PrintLevels.{Back}
use Rattle.sql_printer.proofs.PrintExpressions as x
use Rattle.sql_printer.proofs.PrintQueries as q

-- Schemas have no printed text.
abbrev pub PrintsBack : (n : Sort) → Tree n → Type 0
PrintsBack (at level) t = Back t
PrintsBack (links level) t = x.LinksBack level t
PrintsBack list t = x.ListBack t
PrintsBack arms t = x.ArmsBack t
PrintsBack item t = q.ItemBack t
PrintsBack items t = q.ItemsBack t
PrintsBack from_item t = q.FromBack t
PrintsBack from_items t = q.FromsBack t
PrintsBack from_clause t = q.FromClauseBack t
PrintsBack where_clause t = q.WhereBack t
PrintsBack key t = q.KeyBack t
PrintsBack keys t = q.KeysBack t
PrintsBack order_clause t = q.OrderBack t
PrintsBack limit_clause t = q.LimitBack t
PrintsBack select t = q.SelectBack t
PrintsBack selects t = q.SelectsBack t
PrintsBack query t = x.QueryBack t
PrintsBack names t = q.NamesBack t
PrintsBack recursive t = q.RecursiveBack t
PrintsBack file t = q.FileBack t
PrintsBack column t = Unit {0}
PrintsBack columns t = Unit {0}
PrintsBack tables t = Unit {0}

pub prints_back : {n : Sort} {ts : List Terminal} {t : Tree n} {rest : List Terminal} → Reads n ts t rest → PrintsBack n t
prints_back (chain p d no_link) = prints_back d
prints_back (chain {level = level} {first = first} p d (link {o = o} {x = y} {more = more} terminal h b c)) =
    x.chain_back level terminal o first y more p h (prints_back d) (x.link_back level terminal o y more h (prints_back b) (prints_back c))
prints_back no_link = λ after. no_link
prints_back (link {level = level} {o = o} {x = y} {more = more} terminal h d c) = x.link_back level terminal o y more h (prints_back d) (prints_back c)
prints_back (affirmed d) = prints_back d
prints_back (negated {x = y} d) = x.not_back y (prints_back d)
prints_back (untested d) = prints_back d
prints_back (tested {x = y} {n = n} {test = test} terminal h d) = x.is_back y test n (prints_back d)
prints_back (uncompared d) = prints_back d
prints_back (compared {x = y} {y = z} {o = o} terminal h d c) = x.compare_back o y z (prints_back d) (prints_back c)
prints_back (unranged d) = prints_back d
prints_back (between {x = y} {low = low} {high = high} {n = n} d b c) = x.between_back n y low high (prints_back d) (prints_back b) (prints_back c)
prints_back (one_of {x = y} {xs = xs} {n = n} d b) = x.one_of_back n y xs (prints_back d) (prints_back b)
prints_back (unsigned d) = prints_back d
prints_back (signed {x = y} d) = x.neg_back y (prints_back d)
prints_back least = x.least_back
prints_back (uncast d) = prints_back d
prints_back (cast_once {x = y} {ty = ty} t h d) = x.cast_back y t ty h (prints_back d)
prints_back (cast_twice {x = y} {first = first} {second = second} t u h k d) = x.cast_back (e.Cast y first) u second k (x.cast_back y t first h (prints_back d))
prints_back (number {n = n} h) = x.number_back n h
prints_back (text {t = t}) = x.text_back t
prints_back (literal {x = y} terminal h) = x.literal_back terminal y h
prints_back (named {n = n}) = x.named_back n
prints_back (qualified {n = n} {c = c}) = x.qualified_back n c
prints_back (typed_parameter {i = i} {ty = ty} t h) = x.parameter_back i t ty h
prints_back (short_parameter {i = i} {ty = ty} t h) = x.parameter_back i t ty h
prints_back (parentheses d) = prints_back d
prints_back (scalar {q = s} d) = x.scalar_back s (prints_back d)
prints_back (cast {x = y} {ty = ty} t h d) = x.cast_back y t ty h (prints_back d)
prints_back (exists {q = s} d) = x.exists_back s (prints_back d)
prints_back (cases {a = a} {more = more} d) = x.cases_back a more (prints_back d)
prints_back (cases_else {a = a} {more = more} {x = y} d b) = x.cases_else_back a more y (prints_back d) (prints_back b)
prints_back (call_word {n = n} {xs = xs} terminal h d) = x.call_back n xs (prints_back d)
prints_back count_rows = x.count_back
prints_back (call_empty {n = n}) = x.call_empty_back n
prints_back (call {n = n} {xs = xs} d) = x.call_back n xs (prints_back d)
prints_back (last {x = y} d) = x.last_back y (prints_back d)
prints_back (another {x = y} {xs = xs} d b) = x.another_back y xs (prints_back d) (prints_back b)
prints_back no_arm = λ after. no_arm
prints_back (arm {test = test} {value = value} {more = more} d b c) = x.arm_back test value more (prints_back d) (prints_back b) (prints_back c)
prints_back (item_alone {x = y} d) = q.item_alone_back y (prints_back d)
prints_back (item_as {x = y} {n = n} d) = q.item_as_back y n (prints_back d)
prints_back (last_item {x = y} d) = q.last_item_back y (prints_back d)
prints_back (another_item {x = y} {xs = xs} d b) = q.another_item_back y xs (prints_back d) (prints_back b)
prints_back (table_alone {n = n} w) = q.table_back n n
prints_back (table_as {n = n} {a = a} w v) = q.table_back n a
prints_back (sub_alone {q = s} {a = a} {v = v} w d) = q.sub_back s v a (prints_back d)
prints_back (sub_columns {q = s} {a = a} {ns = ns} {v = v} w d b) = q.sub_columns_back s v a ns (prints_back d) (prints_back b)
prints_back (last_from {x = y} d) = q.last_from_back y (prints_back d)
prints_back (another_from {x = y} {xs = xs} d b) = q.another_from_back y xs (prints_back d) (prints_back b)
prints_back (last_name {n = n}) = q.last_name_back n
prints_back (another_name {n = n} {ns = ns} d) = q.another_name_back n ns (prints_back d)
prints_back (key_alone {x = y} h d) = q.key_alone_back y h (prints_back d)
prints_back (ascending {x = y} h d) = q.key_alone_back y h (prints_back d)
prints_back (descending {x = y} h d) = q.descending_back y h (prints_back d)
prints_back (last_key {x = y} d) = q.last_key_back y (prints_back d)
prints_back (another_key {x = y} {xs = xs} d b) = q.another_key_back y xs (prints_back d) (prints_back b)
prints_back no_from = q.no_from_back
prints_back (from {xs = xs} d) = q.from_clause_back xs (prints_back d)
prints_back no_where = q.no_where_back
prints_back (where_of {x = y} d) = q.where_back y (prints_back d)
prints_back no_order = q.no_order_back
prints_back (order_by {xs = xs} d) = q.order_back xs (prints_back d)
prints_back no_limit = q.no_limit_back
prints_back (limit_of {x = y} d) = q.limit_back y (prints_back d)
prints_back (select_of {xs = xs} {fs = fs} {w = w} {ks = ks} {n = n} d a b c f) = q.select_back xs fs w ks n (prints_back d) (prints_back a) (prints_back b) (prints_back c) (prints_back f)
prints_back (last_select {s = s} d) = q.last_select_back s (prints_back d)
prints_back (another_select {s = s} {ss = ss} d b) = q.another_select_back s ss (prints_back d) (prints_back b)
prints_back (query_of {ss = ss} h d) = q.query_back ss h (prints_back d)
prints_back (recursive_of {n = n} {ns = ns} {s = s} ss second d b) = q.recursive_back n ns s ss second (prints_back d) (prints_back b)
prints_back (plain_file {q = s} w d) = q.plain_file_back s (prints_back d)
prints_back (with_file {r = r} {ss = ss} w h d b) = q.with_file_back r ss h (prints_back d) (prints_back b)
prints_back (column_of t h) = tt
prints_back (last_column d) = tt
prints_back (another_column d b) = tt
prints_back no_table = tt
prints_back (table w d b) = tt
