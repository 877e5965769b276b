-- What is read with room for so many brackets is read with no more brackets one inside another.
use Rattle.std.proofs.Common.{◌≡◌, ℕ, zero, suc, Bool, true, false, List, ◌∷◌, refl, ◌∙◌}
use Rattle.away_grammar.specs.declared.grammar.Mark.TheVariants as m
use Rattle.away_grammar.specs.Terminals.{Terminal, mark, name}
use Rattle.away_grammar.specs.Grammar as g
use Rattle.away_grammar.specs.Grammar.{Sort, Tree, Reads, at, links, list, arms, item, items, from_item, from_items, from_clause, where_clause, key, keys}
use Rattle.away_grammar.specs.Grammar.{order_clause, limit_clause, select, selects, query, names, recursive, file, column, columns, tables, operands}
use Rattle.away_grammar.specs.FunctionGrammar.{loop_opens}
use Rattle.cte_prints.specs.ReadsIn as s
use Rattle.cte_prints.specs.ReadsIn.{ReadsIn}
use Rattle.cte_prints.proofs.RoomLeft.{Room}
use Rattle.cte_prints.proofs.Passing.{plain_passes, perhaps_passes, fresh_passes, schema_qualified_passes, operator_plain, comparison_plain}
use Rattle.cte_prints.proofs.Passing.{test_plain, literal_plain, called_plain}

-- As much room is left behind the terminals as before them, no LOOP stood in them, and they nest no deeper than the room. `b` and `behind` say whether END
-- stands directly before the first terminals, and before those that are left.
pub record Walk (n : Sort) (r : ℕ) (b : Bool) (ts : List Terminal) (t : Tree n) (rest : List Terminal) : Type 0 where
  pub behind : Bool
  pub room : Room rest r behind
  pub same : loop_opens ts b ≡ loop_opens rest behind
  pub reads : ReadsIn true r n ts t rest

-- what stands in no expression isn't walked
abbrev pub Walked : (n : Sort) → ℕ → Bool → List Terminal → Tree n → List Terminal → Type 0
Walked recursive r b ts t rest = Unit {0}
Walked file r b ts t rest = Unit {0}
Walked column r b ts t rest = Unit {0}
Walked columns r b ts t rest = Unit {0}
Walked tables r b ts t rest = Unit {0}
Walked (at level) r b ts t rest = Walk (at level) r b ts t rest
Walked (links level) r b ts t rest = Walk (links level) r b ts t rest
Walked n r b ts t rest = Walk n r b ts t rest

-- Only what may be left out stands directly behind an END.
abbrev pub start : Sort → Bool → Bool
start (links level) b = b
start arms b = b
start from_clause b = b
start where_clause b = b
start order_clause b = b
start limit_clause b = b
start _ b = false

pub walk : {n : Sort} {ts : List Terminal} {t : Tree n} {rest : List Terminal} → Reads n ts t rest → (r : ℕ) (b : Bool) → Room ts r (start n b)
    → Walked n r (start n b) ts t rest
walk (g.chain is d c) r b h =
    let x = walk d r false h in
    let y = walk c r x.behind x.room in
    record { behind = y.behind; room = y.room; same = x.same ∙ y.same; reads = s.chain is x.reads y.reads }
walk g.no_link r b h = record { behind = b; room = h; same = refl; reads = s.no_link }
walk (g.link {level = level} {ts = ts} {o = o} terminal k d c) r b h =
    let p = plain_passes terminal (operator_plain level terminal o k) ts b in
    let x = walk d r false (p.room r h) in
    let y = walk c r x.behind x.room in
    record { behind = y.behind; room = y.room; same = p.same ∙ x.same ∙ y.same; reads = s.link terminal k x.reads y.reads }
walk (g.affirmed d) r b h = let x = walk d r false h in record { behind = x.behind; room = x.room; same = x.same; reads = s.affirmed x.reads }
walk (g.negated d) r b h = let x = walk d r false h in record { behind = x.behind; room = x.room; same = x.same; reads = s.negated x.reads }
walk (g.untested d) r b h = let x = walk d r false h in record { behind = x.behind; room = x.room; same = x.same; reads = s.untested x.reads }
walk (g.tested {rest = rest} {n = n} {test = test} terminal k d) r b h =
    let x = walk d r false h in
    let p = fresh_passes n m.Not refl (mark terminal ∷ rest) in
    let q = plain_passes terminal (test_plain terminal test k) rest false in
    record { behind = false; room = q.room r (p.room r x.room); same = x.same ∙ p.same ∙ q.same; reads = s.tested terminal k x.reads }
walk (g.uncompared d) r b h = let x = walk d r false h in record { behind = x.behind; room = x.room; same = x.same; reads = s.uncompared x.reads }
walk (g.compared {after = after} {o = o} terminal k d c) r b h =
    let x = walk d r false h in
    let p = plain_passes terminal (comparison_plain terminal o k) after x.behind in
    let y = walk c r false (p.room r x.room) in
    record { behind = y.behind; room = y.room; same = x.same ∙ p.same ∙ y.same; reads = s.compared terminal k x.reads y.reads }
walk (g.unranged d) r b h = let x = walk d r false h in record { behind = x.behind; room = x.room; same = x.same; reads = s.unranged x.reads }
walk (g.between {after = after} {n = n} d c e) r b h =
    let x = walk d r false h in
    let p = perhaps_passes n m.Not refl (mark m.Between ∷ after) x.behind in
    let y = walk c r false (p.room r x.room) in
    let z = walk e r false y.room in
    record { behind = z.behind; room = z.room; same = x.same ∙ p.same ∙ y.same ∙ z.same; reads = s.between x.reads y.reads z.reads }
walk (g.one_of {after = after} {n = n} d c) zero b h =
    let x = walk d zero false h in
    let p = perhaps_passes n m.Not refl (mark m.In ∷ mark m.Open ∷ after) x.behind in
    absurd (p.room zero x.room)
walk (g.one_of {after = after} {n = n} d c) (suc r) b h =
    let x = walk d (suc r) false h in
    let p = perhaps_passes n m.Not refl (mark m.In ∷ mark m.Open ∷ after) x.behind in
    let y = walk c r false (p.room (suc r) x.room) in
    record { behind = false; room = y.room; same = x.same ∙ p.same ∙ y.same; reads = s.one_of x.reads y.reads }
walk (g.unsigned d) r b h = let x = walk d r false h in record { behind = x.behind; room = x.room; same = x.same; reads = s.unsigned x.reads }
walk (g.signed d) r b h = let x = walk d r false h in record { behind = x.behind; room = x.room; same = x.same; reads = s.signed x.reads }
walk g.least r b h = record { behind = false; room = h; same = refl; reads = s.least }
walk (g.uncast d) r b h = let x = walk d r false h in record { behind = x.behind; room = x.room; same = x.same; reads = s.uncast x.reads }
walk (g.cast_once t is d) r b h = let x = walk d r false h in record { behind = false; room = x.room; same = x.same; reads = s.cast_once t is x.reads }
walk (g.cast_twice t u is also d) r b h =
    let x = walk d r false h in
    record { behind = false; room = x.room; same = x.same; reads = s.cast_twice t u is also x.reads }
walk (g.number lt) r b h = record { behind = false; room = h; same = refl; reads = s.number lt }
walk g.text r b h = record { behind = false; room = h; same = refl; reads = s.text }
walk (g.literal {rest = rest} {x = x} terminal k) r b h =
    let p = plain_passes terminal (literal_plain terminal x k) rest false in
    record { behind = false; room = p.room r h; same = p.same; reads = s.literal terminal k }
walk g.named r b h = record { behind = false; room = h; same = refl; reads = s.named }
walk g.qualified r b h = record { behind = false; room = h; same = refl; reads = s.qualified }
walk (g.typed_parameter t is) zero b h = absurd h
walk (g.typed_parameter t is) (suc r) b h = record { behind = false; room = h; same = refl; reads = s.typed_parameter t is }
walk (g.short_parameter t is) r b h = record { behind = false; room = h; same = refl; reads = s.short_parameter t is }
walk (g.parentheses d) zero b h = absurd h
walk (g.parentheses d) (suc r) b h = let x = walk d r false h in record { behind = false; room = x.room; same = x.same; reads = s.parentheses x.reads }
walk (g.scalar d) zero b h = absurd h
walk (g.scalar d) (suc r) b h = let x = walk d r false h in record { behind = false; room = x.room; same = x.same; reads = s.scalar x.reads }
walk (g.cast t is d) zero b h = absurd h
walk (g.cast t is d) (suc r) b h = let x = walk d r false h in record { behind = false; room = x.room; same = x.same; reads = s.cast t is x.reads }
walk (g.exists d) zero b h = absurd h
walk (g.exists d) (suc r) b h = let x = walk d r false h in record { behind = false; room = x.room; same = x.same; reads = s.exists x.reads }
walk (g.cases d) zero b h = absurd h
walk (g.cases d) (suc r) b h = let x = walk d r false h in record { behind = true; room = x.room; same = x.same; reads = s.cases x.reads }
walk (g.cases_else d c) zero b h = absurd h
walk (g.cases_else d c) (suc r) b h =
    let x = walk d r false h in
    let y = walk c r false x.room in
    record { behind = true; room = y.room; same = x.same ∙ y.same; reads = s.cases_else x.reads y.reads }
walk (g.call_word {ts = ts} {n = n} terminal k d) zero b h = let p = plain_passes terminal (called_plain terminal n k) (mark m.Open ∷ ts) false in absurd (p.room zero h)
walk (g.call_word {ts = ts} {n = n} terminal k d) (suc r) b h =
    let p = plain_passes terminal (called_plain terminal n k) (mark m.Open ∷ ts) false in
    let x = walk d r false (p.room (suc r) h) in
    record { behind = false; room = x.room; same = p.same ∙ x.same; reads = s.call_word terminal k x.reads }
walk g.count_rows zero b h = absurd h
walk g.count_rows (suc r) b h = record { behind = false; room = h; same = refl; reads = s.count_rows }
walk g.call_empty zero b h = absurd h
walk g.call_empty (suc r) b h = record { behind = false; room = h; same = refl; reads = s.call_empty }
walk (g.call d) zero b h = absurd h
walk (g.call d) (suc r) b h = let x = walk d r false h in record { behind = false; room = x.room; same = x.same; reads = s.call x.reads }
walk (g.last d) r b h = let x = walk d r false h in record { behind = x.behind; room = x.room; same = x.same; reads = s.last x.reads }
walk (g.another d c) r b h =
    let x = walk d r false h in
    let y = walk c r false x.room in
    record { behind = y.behind; room = y.room; same = x.same ∙ y.same; reads = s.another x.reads y.reads }
walk g.no_arm r b h = record { behind = b; room = h; same = refl; reads = s.no_arm }
walk (g.arm d c e) r b h =
    let x = walk d r false h in
    let y = walk c r false x.room in
    let z = walk e r y.behind y.room in
    record { behind = z.behind; room = z.room; same = x.same ∙ y.same ∙ z.same; reads = s.arm x.reads y.reads z.reads }
walk (g.item_alone d) r b h = let x = walk d r false h in record { behind = x.behind; room = x.room; same = x.same; reads = s.item_alone x.reads }
walk (g.item_as d) r b h = let x = walk d r false h in record { behind = false; room = x.room; same = x.same; reads = s.item_as x.reads }
walk (g.last_item d) r b h = let x = walk d r false h in record { behind = x.behind; room = x.room; same = x.same; reads = s.last_item x.reads }
walk (g.another_item d c) r b h =
    let x = walk d r false h in
    let y = walk c r false x.room in
    record { behind = y.behind; room = y.room; same = x.same ∙ y.same; reads = s.another_item x.reads y.reads }
walk (g.table_alone {rest = rest} {n = n} q) r b h =
    let p = schema_qualified_passes q (name n ∷ rest) in
    record { behind = false; room = p.room r h; same = p.same; reads = s.table_alone q }
walk (g.table_as {rest = rest} {n = n} {a = a} q w) r b h =
    let p = schema_qualified_passes q (name n ∷ g.perhaps w (mark m.As) (name a ∷ rest)) in
    let k = fresh_passes w m.As refl (name a ∷ rest) in
    record { behind = false; room = k.room r (p.room r h); same = p.same ∙ k.same; reads = s.table_as q w }
walk (g.sub_alone {ts = ts} {v = v} w d) zero b h = let p = fresh_passes v m.Lateral refl (mark m.Open ∷ ts) in absurd (p.room zero h)
walk (g.sub_alone {ts = ts} {rest = rest} {a = a} {v = v} w d) (suc r) b h =
    let p = fresh_passes v m.Lateral refl (mark m.Open ∷ ts) in
    let x = walk d r false (p.room (suc r) h) in
    let k = fresh_passes w m.As refl (name a ∷ rest) in
    record { behind = false; room = k.room (suc r) x.room; same = p.same ∙ x.same ∙ k.same; reads = s.sub_alone w x.reads }
walk (g.sub_columns {ts = ts} {v = v} w d c) zero b h = let p = fresh_passes v m.Lateral refl (mark m.Open ∷ ts) in absurd (p.room zero h)
walk (g.sub_columns {ts = ts} {after = after} {a = a} {v = v} w d c) (suc r) b h =
    let p = fresh_passes v m.Lateral refl (mark m.Open ∷ ts) in
    let x = walk d r false (p.room (suc r) h) in
    let k = fresh_passes w m.As refl (name a ∷ mark m.Open ∷ after) in
    let y = walk c r false (k.room (suc r) x.room) in
    record { behind = false; room = y.room; same = p.same ∙ x.same ∙ k.same ∙ y.same; reads = s.sub_columns w x.reads y.reads }
walk (g.last_from d) r b h = let x = walk d r false h in record { behind = x.behind; room = x.room; same = x.same; reads = s.last_from x.reads }
walk (g.another_from d c) r b h =
    let x = walk d r false h in
    let y = walk c r false x.room in
    record { behind = y.behind; room = y.room; same = x.same ∙ y.same; reads = s.another_from x.reads y.reads }
walk g.last_name r b h = record { behind = false; room = h; same = refl; reads = s.last_name }
walk (g.another_name d) r b h = let x = walk d r false h in record { behind = x.behind; room = x.room; same = x.same; reads = s.another_name x.reads }
walk (g.key_alone is d) r b h = let x = walk d r false h in record { behind = x.behind; room = x.room; same = x.same; reads = s.key_alone is x.reads }
walk (g.ascending is d) r b h = let x = walk d r false h in record { behind = false; room = x.room; same = x.same; reads = s.ascending is x.reads }
walk (g.descending is d) r b h = let x = walk d r false h in record { behind = false; room = x.room; same = x.same; reads = s.descending is x.reads }
walk (g.last_key d) r b h = let x = walk d r false h in record { behind = x.behind; room = x.room; same = x.same; reads = s.last_key x.reads }
walk (g.another_key d c) r b h =
    let x = walk d r false h in
    let y = walk c r false x.room in
    record { behind = y.behind; room = y.room; same = x.same ∙ y.same; reads = s.another_key x.reads y.reads }
walk g.no_from r b h = record { behind = b; room = h; same = refl; reads = s.no_from }
walk (g.from d) r b h = let x = walk d r false h in record { behind = x.behind; room = x.room; same = x.same; reads = s.from x.reads }
walk g.no_where r b h = record { behind = b; room = h; same = refl; reads = s.no_where }
walk (g.where_of d) r b h = let x = walk d r false h in record { behind = x.behind; room = x.room; same = x.same; reads = s.where_of x.reads }
walk g.no_order r b h = record { behind = b; room = h; same = refl; reads = s.no_order }
walk (g.order_by d) r b h = let x = walk d r false h in record { behind = x.behind; room = x.room; same = x.same; reads = s.order_by x.reads }
walk g.no_limit r b h = record { behind = b; room = h; same = refl; reads = s.no_limit }
walk (g.limit_of d) r b h = let x = walk d r false h in record { behind = x.behind; room = x.room; same = x.same; reads = s.limit_of x.reads }
walk (g.select_of d c e f i) r b h =
    let x = walk d r false h in
    let y = walk c r x.behind x.room in
    let z = walk e r y.behind y.room in
    let u = walk f r z.behind z.room in
    let v = walk i r u.behind u.room in
    record { behind = v.behind; room = v.room; same = x.same ∙ y.same ∙ z.same ∙ u.same ∙ v.same; reads = s.select_of x.reads y.reads z.reads u.reads v.reads }
walk (g.last_select d) r b h = let x = walk d r false h in record { behind = x.behind; room = x.room; same = x.same; reads = s.last_select x.reads }
walk (g.another_select d c) r b h =
    let x = walk d r false h in
    let y = walk c r false x.room in
    record { behind = y.behind; room = y.room; same = x.same ∙ y.same; reads = s.another_select x.reads y.reads }
walk (g.query_of is d) r b h = let x = walk d r false h in record { behind = x.behind; room = x.room; same = x.same; reads = s.query_of is x.reads }
walk (g.recursive_of ss second d c) r b h = tt
walk (g.plain_file w d) r b h = tt
walk (g.with_file w is d c) r b h = tt
walk (g.column_of t is) r b h = tt
walk (g.last_column d) r b h = tt
walk (g.another_column d c) r b h = tt
walk g.no_table r b h = tt
walk (g.table q d c) r b h = tt
