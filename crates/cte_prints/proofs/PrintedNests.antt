-- What is derived with a depth prints as terminals that nest no deeper.
use Rattle.std.proofs.Common.{ℕ, List, ◌∷◌, map, arith}
use Rattle.away_grammar.specs.declared.grammar.Level.{Level}
use Rattle.away_grammar.specs.declared.grammar.Level.TheVariants as l
use Rattle.away_trees.specs.Algebra.{item_of, from_of, key_of, select_of, recursive_of}
use Rattle.away_grammar.specs.Grammar.{Sort, at, links, list, arms, item, items, from_item, from_items, from_clause, where_clause, key, keys, order_clause}
use Rattle.away_grammar.specs.Grammar.{limit_clause, select, selects, query, names, recursive, file, column, columns, tables, Tree, operands, IsChain}
use Rattle.away_grammar.specs.Printing.{printing, names_terminals, query_terminals}
use Rattle.away_grammar.specs.Terminals.{Terminal}
use Rattle.cte_prints.specs.DerivesIn.{DerivesIn}
use Rattle.cte_prints.specs.ReadsIn as s
use Rattle.cte_prints.proofs.Balanced.{Nested, nothing, Fine, looser, in_parentheses}
use Rattle.cte_prints.proofs.NestedExpressions as x
use Rattle.cte_prints.proofs.NestedQueries as q

-- Schemas have no printed text.
abbrev pub PrintsNested : ℕ → (n : Sort) → Tree n → Type 0
PrintsNested d (at level) t = Fine d level t
PrintsNested d (links level) t = x.NestedLinks d level t
PrintsNested d list t = x.NestedList d t
PrintsNested d arms t = x.NestedArms d t
PrintsNested d item t = Nested d (item_of printing t)
PrintsNested d items t = q.NestedItems d t
PrintsNested d from_item t = Nested d (from_of printing t)
PrintsNested d from_items t = q.NestedFroms d t
PrintsNested d from_clause t = q.NestedFrom d t
PrintsNested d where_clause t = q.NestedWhere d t
PrintsNested d key t = Nested d (key_of printing t)
PrintsNested d keys t = q.NestedKeys d t
PrintsNested d order_clause t = q.NestedOrder d t
PrintsNested d limit_clause t = q.NestedLimit d t
PrintsNested d select t = Nested d (select_of printing t)
PrintsNested d selects t = q.NestedSelects d t
PrintsNested d query t = Nested d (query_terminals t)
PrintsNested d names t = Nested d (names_terminals t)
PrintsNested d recursive t = Nested d (recursive_of printing t)
PrintsNested d file t = Nested d (query_terminals t)
PrintsNested d column t = Unit {0}
PrintsNested d columns t = Unit {0}
PrintsNested d tables t = Unit {0}

looser_chain : {d : ℕ} (level : Level) (t : Tree (at level)) → IsChain level → Fine d (operands level) t → Fine d level t
looser_chain l.Or t p f = looser l.Or l.And t (omega arith) f
looser_chain l.And t p f = looser l.And l.Not t (omega arith) f
looser_chain l.Concat t p f = looser l.Concat l.Sum t (omega arith) f
looser_chain l.Sum t p f = looser l.Sum l.Product t (omega arith) f
looser_chain l.Product t p f = looser l.Product l.Sign t (omega arith) f
looser_chain _ t p f = absurd p

pub prints_nested : {d : ℕ} {n : Sort} {ts : List Terminal} {t : Tree n} {rest : List Terminal} → DerivesIn d n ts t rest → PrintsNested d n t
prints_nested (s.chain {level = level} {first = first} p a s.no_link) = looser_chain level first p (prints_nested a)
prints_nested (s.chain {level = level} {first = first} p a (s.link {o = o} {x = y} {more = more} terminal h b c)) =
    x.chain_nested level terminal o first y more h (prints_nested a) (x.link_nested level o y more (prints_nested b) (prints_nested c))
prints_nested s.no_link = nothing
prints_nested (s.link {level = level} {o = o} {x = y} {more = more} terminal h a b) = x.link_nested level o y more (prints_nested a) (prints_nested b)
prints_nested (s.affirmed {x = y} a) = looser l.Not l.Is y (omega arith) (prints_nested a)
prints_nested (s.negated {x = y} a) = x.not_nested y (prints_nested a)
prints_nested (s.untested {x = y} a) = looser l.Is l.Compare y (omega arith) (prints_nested a)
prints_nested (s.tested {x = y} {n = n} {test = test} terminal h a) = x.is_nested y test n (prints_nested a)
prints_nested (s.uncompared {x = y} a) = looser l.Compare l.Range y (omega arith) (prints_nested a)
prints_nested (s.compared {x = y} {y = z} {o = o} terminal h a b) = x.compare_nested o y z (prints_nested a) (prints_nested b)
prints_nested (s.unranged {x = y} a) = looser l.Range l.Concat y (omega arith) (prints_nested a)
prints_nested (s.between {x = y} {low = low} {high = high} {n = n} a b c) = x.between_nested n y low high (prints_nested a) (prints_nested b) (prints_nested c)
prints_nested (s.one_of {x = y} {xs = xs} {n = n} a b) = x.one_of_nested n y xs (prints_nested a) (prints_nested b)
prints_nested (s.unsigned {x = y} a) = looser l.Sign l.Cast y (omega arith) (prints_nested a)
prints_nested (s.signed {x = y} a) = x.neg_nested y (prints_nested a)
prints_nested s.least = x.least_nested
prints_nested (s.uncast {x = y} a) = looser l.Cast l.Primary y (omega arith) (prints_nested a)
prints_nested (s.number {n = n} h) = x.number_nested n
prints_nested (s.text {t = t}) = x.text_nested t
prints_nested (s.literal {x = y} terminal h) = x.literal_nested terminal y h
prints_nested (s.named {n = n}) = x.named_nested n
prints_nested (s.qualified {n = n} {c = c}) = x.qualified_nested n c
prints_nested (s.typed_parameter {i = i} {ty = ty} t h) = x.parameter_nested i ty
prints_nested (s.parentheses {x = y} a) = in_parentheses y (prints_nested a)
prints_nested (s.scalar {q = t} a) = x.scalar_nested t (prints_nested a)
prints_nested (s.cast {x = y} {ty = ty} t h a) = x.cast_nested y ty (prints_nested a)
prints_nested (s.exists {q = t} a) = x.exists_nested t (prints_nested a)
prints_nested (s.cases {a = f} {more = more} a) = x.cases_nested (f ∷ more) (prints_nested a)
prints_nested (s.cases_else {a = f} {more = more} {x = y} a b) = x.cases_else_nested (f ∷ more) y (prints_nested a) (prints_nested b)
prints_nested (s.call_word {n = n} {xs = xs} terminal h a) = x.call_nested n xs (prints_nested a)
prints_nested s.count_rows = x.count_nested
prints_nested (s.call_empty {n = n}) = x.call_empty_nested n
prints_nested (s.call {n = n} {xs = xs} a) = x.call_nested n xs (prints_nested a)
prints_nested (s.last {x = y} a) = x.last_nested y (prints_nested a)
prints_nested (s.another {x = y} {xs = xs} a b) = x.another_nested y xs (prints_nested a) (prints_nested b)
prints_nested s.no_arm = nothing
prints_nested (s.arm {test = test} {value = value} {more = more} a b c) = x.arm_nested test value more (prints_nested a) (prints_nested b) (prints_nested c)
prints_nested (s.item_alone {x = y} a) = q.item_alone_nested y (prints_nested a)
prints_nested (s.item_as {x = y} {n = n} a) = q.item_as_nested y n (prints_nested a)
prints_nested (s.last_item a) = prints_nested a
prints_nested (s.another_item {x = y} {xs = xs} a b) =
    q.commas_nested (item_of printing y) (map (λ x. item_of printing x) xs) (prints_nested a) (prints_nested b)
prints_nested (s.table_alone {n = n} w) = q.table_nested n n
prints_nested (s.table_as {n = n} {a = a} w v) = q.table_nested n a
prints_nested (s.sub_alone {q = t} {a = a} {v = v} w b) = q.sub_nested t v a (prints_nested b)
prints_nested (s.sub_columns {q = t} {a = a} {ns = ns} {v = v} w b c) = q.sub_columns_nested t v a ns (prints_nested b) (prints_nested c)
prints_nested (s.last_from a) = prints_nested a
prints_nested (s.another_from {x = y} {xs = xs} a b) =
    q.commas_nested (from_of printing y) (map (λ x. from_of printing x) xs) (prints_nested a) (prints_nested b)
prints_nested (s.last_name {n = n}) = q.last_name_nested n
prints_nested (s.another_name {n = n} {ns = ns} a) = q.another_name_nested n ns (prints_nested a)
prints_nested (s.key_alone {x = y} h a) = q.key_nested y (prints_nested a)
prints_nested (s.ascending {x = y} h a) = q.key_nested y (prints_nested a)
prints_nested (s.descending {x = y} h a) = q.descending_nested y (prints_nested a)
prints_nested (s.last_key a) = prints_nested a
prints_nested (s.another_key {x = y} {xs = xs} a b) =
    q.commas_nested (key_of printing y) (map (λ x. key_of printing x) xs) (prints_nested a) (prints_nested b)
prints_nested s.no_from = nothing
prints_nested (s.from {xs = xs} a) = q.from_nested xs (prints_nested a)
prints_nested s.no_where = nothing
prints_nested (s.where_of {x = y} a) = q.where_nested y (prints_nested a)
prints_nested s.no_order = nothing
prints_nested (s.order_by {xs = xs} a) = q.order_nested xs (prints_nested a)
prints_nested s.no_limit = nothing
prints_nested (s.limit_of {x = y} a) = q.limit_nested y (prints_nested a)
prints_nested (s.select_of {xs = xs} {fs = fs} {w = w} {ks = ks} {n = n} a b c f g) =
    q.select_nested xs fs w ks n (prints_nested a) (prints_nested b) (prints_nested c) (prints_nested f) (prints_nested g)
prints_nested (s.last_select a) = prints_nested a
prints_nested (s.another_select {s = t} {ss = ss} a b) = q.another_select_nested t ss (prints_nested a) (prints_nested b)
prints_nested (s.query_of {ss = ss} h a) = q.query_nested ss (prints_nested a)
prints_nested (s.recursive_of {n = n} {ns = ns} {s = t} ss second a b) = q.recursive_nested n ns t ss second (prints_nested a) (prints_nested b)
prints_nested (s.plain_file w a) = prints_nested a
prints_nested (s.with_file {r = r} {ss = ss} w h a b) = q.with_nested r ss (prints_nested a) (prints_nested b)
