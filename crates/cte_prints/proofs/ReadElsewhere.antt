-- What is read from writable terminals is read before whatever follows, from writable terminals again and with the same nesting.
use Rattle.std.proofs.Common.{ℕ, Bool, true, false, List, ◌∷◌}
use Rattle.away_grammar.specs.declared.grammar.Mark.TheVariants as m
use Rattle.away_grammar.specs.Terminals.{Terminal, mark, name}
use Rattle.away_grammar.specs.Grammar.{Sort, Tree, perhaps, schema_qualified}
use Rattle.sql_printer.specs.Writable.{Writable, AllWritable}
use Rattle.sql_printer.proofs.PrintWritable.{prints_clear}
use Rattle.cte_prints.specs.ReadsIn.{ReadsIn}
use Rattle.cte_prints.specs.ReadsIn as r
use Rattle.cte_prints.proofs.ReadingDepth.{read_so}

-- terminals that read as the tree before what follows, and are writable where that is
pub record Elsewhere (d : ℕ) (n : Sort) (t : Tree n) (rest : List Terminal) : Type 0 where
  pub terminals : List Terminal
  pub writable : AllWritable rest → AllWritable terminals
  pub reads : ReadsIn true d n terminals t rest

-- what is left is writable
left : {d : ℕ} {n : Sort} {ts : List Terminal} {t : Tree n} {rest : List Terminal} → ReadsIn true d n ts t rest → AllWritable ts → AllWritable rest
left a h = (prints_clear (read_so a) h).1

behind_perhaps : (w : Bool) (s : Terminal) (ts : List Terminal) → AllWritable (perhaps w s ts) → AllWritable ts
behind_perhaps true s ts h = h.1
behind_perhaps false s ts h = h

before_perhaps : (w : Bool) (s : Terminal) (ts : List Terminal) → Writable s → AllWritable ts → AllWritable (perhaps w s ts)
before_perhaps true s ts k h = (k, h)
before_perhaps false s ts k h = h

behind_public : (w : Bool) (ts : List Terminal) → AllWritable (schema_qualified w ts) → AllWritable ts
behind_public true ts h = h.1.1
behind_public false ts h = h

-- `public` and a dot are writable wherever they were
before_public : (w : Bool) (ts us : List Terminal) → AllWritable (schema_qualified w ts) → AllWritable us → AllWritable (schema_qualified w us)
before_public true ts us h k = (h.0, (tt, k))
before_public false ts us h k = k

-- ---- one part, and two one behind the other

alike : {d e : ℕ} {n o : Sort} {t : Tree n} {u : Tree o} {next rest : List Terminal} → Elsewhere d n t next → (AllWritable rest → AllWritable next)
    → ((ts : List Terminal) → ReadsIn true d n ts t next → ReadsIn true e o ts u rest) → Elsewhere e o u rest
alike p w f = record { terminals = p.terminals; writable = λ k. p.writable (w k); reads = f p.terminals p.reads }

behind : {d e : ℕ} {n o : Sort} {t : Tree n} {u : Tree o} {next rest : List Terminal} (s : Terminal) → Writable s → Elsewhere d n t next → (AllWritable rest → AllWritable next)
    → ((ts : List Terminal) → ReadsIn true d n ts t next → ReadsIn true e o (s ∷ ts) u rest) → Elsewhere e o u rest
behind s g p w f = record { terminals = s ∷ p.terminals; writable = λ k. (g, p.writable (w k)); reads = f p.terminals p.reads }

behind_two : {d e : ℕ} {n o : Sort} {t : Tree n} {u : Tree o} {next rest : List Terminal} (s z : Terminal) → Writable s → Writable z → Elsewhere d n t next
    → (AllWritable rest → AllWritable next)
    → ((ts : List Terminal) → ReadsIn true d n ts t next → ReadsIn true e o (s ∷ z ∷ ts) u rest) → Elsewhere e o u rest
behind_two s z g i p w f = record { terminals = s ∷ z ∷ p.terminals; writable = λ k. (g, (i, p.writable (w k))); reads = f p.terminals p.reads }

-- ---- all productions

pub elsewhere : {d : ℕ} {n : Sort} {ts : List Terminal} {t : Tree n} {rest : List Terminal} → ReadsIn true d n ts t rest → AllWritable ts → (new : List Terminal)
    → Elsewhere d n t new
elsewhere (r.chain p a b) h new =
    let y = elsewhere b (left a h) new in
    alike (elsewhere a h y.terminals) y.writable (λ ts c. r.chain p c y.reads)
elsewhere r.no_link h new = record { terminals = new; writable = λ w. w; reads = r.no_link }
elsewhere (r.link terminal g a b) h new =
    let y = elsewhere b (left a h.1) new in
    behind (mark terminal) tt (elsewhere a h.1 y.terminals) y.writable (λ ts c. r.link terminal g c y.reads)
elsewhere (r.affirmed a) h new = alike (elsewhere a h new) (λ w. w) (λ ts c. r.affirmed c)
elsewhere (r.negated a) h new = behind (mark m.Not) tt (elsewhere a h.1 new) (λ w. w) (λ ts c. r.negated c)
elsewhere (r.untested a) h new = alike (elsewhere a h new) (λ w. w) (λ ts c. r.untested c)
elsewhere (r.tested {n = n} terminal g a) h new =
    alike (elsewhere a h (mark m.Is ∷ perhaps n (mark m.Not) (mark terminal ∷ new))) (λ w. (tt, before_perhaps n (mark m.Not) (mark terminal ∷ new) tt (tt, w)))
    (λ ts c. r.tested terminal g c)
elsewhere (r.uncompared a) h new = alike (elsewhere a h new) (λ w. w) (λ ts c. r.uncompared c)
elsewhere (r.compared terminal g a b) h new =
    let y = elsewhere b (left a h).1 new in
    alike (elsewhere a h (mark terminal ∷ y.terminals)) (λ w. (tt, y.writable w)) (λ ts c. r.compared terminal g c y.reads)
elsewhere (r.unranged a) h new = alike (elsewhere a h new) (λ w. w) (λ ts c. r.unranged c)
elsewhere (r.between {n = n} a b c) h new =
    let second = (behind_perhaps n (mark m.Not) _ (left a h)).1 in
    let z = elsewhere c (left b second).1 new in
    let y = elsewhere b second (mark m.And ∷ z.terminals) in
    alike (elsewhere a h (perhaps n (mark m.Not) (mark m.Between ∷ y.terminals)))
    (λ w. before_perhaps n (mark m.Not) (mark m.Between ∷ y.terminals) tt (tt, y.writable (tt, z.writable w)))
    (λ ts d. r.between d y.reads z.reads)
elsewhere (r.one_of {n = n} a b) h new =
    let y = elsewhere b (behind_perhaps n (mark m.Not) _ (left a h)).1.1 (mark m.Close ∷ new) in
    alike (elsewhere a h (perhaps n (mark m.Not) (mark m.In ∷ mark m.Open ∷ y.terminals)))
    (λ w. before_perhaps n (mark m.Not) (mark m.In ∷ mark m.Open ∷ y.terminals) tt (tt, (tt, y.writable (tt, w))))
    (λ ts c. r.one_of c y.reads)
elsewhere (r.unsigned a) h new = alike (elsewhere a h new) (λ w. w) (λ ts c. r.unsigned c)
elsewhere (r.signed a) h new = behind (mark m.Minus) tt (elsewhere a h.1 new) (λ w. w) (λ ts c. r.signed c)
elsewhere r.least h new = record { terminals = _; writable = λ w. (tt, (h.1.0, w)); reads = r.least }
elsewhere (r.uncast a) h new = alike (elsewhere a h new) (λ w. w) (λ ts c. r.uncast c)
elsewhere (r.cast_once t g a) h new =
    alike (elsewhere a h (mark m.Colons ∷ name t ∷ new)) (λ w. (tt, ((left a h).1.0, w))) (λ ts c. r.cast_once t g c)
elsewhere (r.cast_twice t u g i a) h new =
    let k = left a h in
    alike (elsewhere a h (mark m.Colons ∷ name t ∷ mark m.Colons ∷ name u ∷ new)) (λ w. (tt, (k.1.0, (tt, (k.1.1.1.0, w))))) (λ ts c. r.cast_twice t u g i c)
elsewhere (r.number g) h new = record { terminals = _; writable = λ w. (h.0, w); reads = r.number g }
elsewhere r.text h new = record { terminals = _; writable = λ w. (h.0, w); reads = r.text }
elsewhere (r.literal terminal g) h new = record { terminals = _; writable = λ w. (tt, w); reads = r.literal terminal g }
elsewhere r.named h new = record { terminals = _; writable = λ w. (h.0, w); reads = r.named }
elsewhere r.qualified h new = record { terminals = _; writable = λ w. (h.0, (tt, (h.1.1.0, w))); reads = r.qualified }
elsewhere (r.typed_parameter t g) h new =
    record { terminals = _; writable = λ w. (tt, (tt, (h.1.1.0, (tt, (h.1.1.1.1.0, (tt, w)))))); reads = r.typed_parameter t g }
elsewhere (r.short_parameter t g) h new = record { terminals = _; writable = λ w. (h.0, (tt, (h.1.1.0, w))); reads = r.short_parameter t g }
elsewhere (r.parentheses a) h new = behind (mark m.Open) tt (elsewhere a h.1 (mark m.Close ∷ new)) (λ w. (tt, w)) (λ ts c. r.parentheses c)
elsewhere (r.scalar a) h new = behind (mark m.Open) tt (elsewhere a h.1 (mark m.Close ∷ new)) (λ w. (tt, w)) (λ ts c. r.scalar c)
elsewhere (r.cast t g a) h new =
    behind_two (mark m.Cast) (mark m.Open) tt tt (elsewhere a h.1.1 (mark m.As ∷ name t ∷ mark m.Close ∷ new)) (λ w. (tt, ((left a h.1.1).1.0, (tt, w))))
    (λ ts c. r.cast t g c)
elsewhere (r.exists a) h new = behind_two (mark m.Exists) (mark m.Open) tt tt (elsewhere a h.1.1 (mark m.Close ∷ new)) (λ w. (tt, w)) (λ ts c. r.exists c)
elsewhere (r.cases a) h new = behind (mark m.Case) tt (elsewhere a h.1 (mark m.End ∷ new)) (λ w. (tt, w)) (λ ts c. r.cases c)
elsewhere (r.cases_else a b) h new =
    let y = elsewhere b (left a h.1).1 (mark m.End ∷ new) in
    behind (mark m.Case) tt (elsewhere a h.1 (mark m.Else ∷ y.terminals)) (λ w. (tt, y.writable (tt, w))) (λ ts c. r.cases_else c y.reads)
elsewhere (r.call_word terminal g a) h new =
    behind_two (mark terminal) (mark m.Open) tt tt (elsewhere a h.1.1 (mark m.Close ∷ new)) (λ w. (tt, w)) (λ ts c. r.call_word terminal g c)
elsewhere r.count_rows h new = record { terminals = _; writable = λ w. (h.0, (tt, (tt, (tt, w)))); reads = r.count_rows }
elsewhere r.call_empty h new = record { terminals = _; writable = λ w. (h.0, (tt, (tt, w))); reads = r.call_empty }
elsewhere (r.call {n = n} a) h new = behind_two (name n) (mark m.Open) h.0 tt (elsewhere a h.1.1 (mark m.Close ∷ new)) (λ w. (tt, w)) (λ ts c. r.call c)
elsewhere (r.last a) h new = alike (elsewhere a h new) (λ w. w) (λ ts c. r.last c)
elsewhere (r.another a b) h new =
    let y = elsewhere b (left a h).1 new in
    alike (elsewhere a h (mark m.Comma ∷ y.terminals)) (λ w. (tt, y.writable w)) (λ ts c. r.another c y.reads)
elsewhere r.no_arm h new = record { terminals = new; writable = λ w. w; reads = r.no_arm }
elsewhere (r.arm a b c) h new =
    let second = (left a h.1).1 in
    let z = elsewhere c (left b second) new in
    let y = elsewhere b second z.terminals in
    behind (mark m.When) tt (elsewhere a h.1 (mark m.Then ∷ y.terminals)) (λ w. (tt, y.writable (z.writable w))) (λ ts d. r.arm d y.reads z.reads)
elsewhere (r.item_alone a) h new = alike (elsewhere a h new) (λ w. w) (λ ts c. r.item_alone c)
elsewhere (r.item_as {n = n} a) h new = alike (elsewhere a h (mark m.As ∷ name n ∷ new)) (λ w. (tt, ((left a h).1.0, w))) (λ ts c. r.item_as c)
elsewhere (r.last_item a) h new = alike (elsewhere a h new) (λ w. w) (λ ts c. r.last_item c)
elsewhere (r.another_item a b) h new =
    let y = elsewhere b (left a h).1 new in
    alike (elsewhere a h (mark m.Comma ∷ y.terminals)) (λ w. (tt, y.writable w)) (λ ts c. r.another_item c y.reads)
elsewhere (r.table_alone {n = n} q) h new =
    record { terminals = _; writable = λ w. before_public q _ (name n ∷ new) h ((behind_public q _ h).0, w); reads = r.table_alone q }
elsewhere (r.table_as {n = n} {a = a} q v) h new =
    let k = behind_public q _ h in
    let i = behind_perhaps v (mark m.As) _ k.1 in
    record {
      terminals = _;
      writable = λ w. before_public q _ (name n ∷ perhaps v (mark m.As) (name a ∷ new)) h (k.0, before_perhaps v (mark m.As) (name a ∷ new) tt (i.0, w));
      reads = r.table_as q v;
    }
elsewhere (r.sub_alone {a = a} {v = v} w b) h new =
    let s = (behind_perhaps v (mark m.Lateral) _ h).1 in
    let i = behind_perhaps w (mark m.As) _ (left b s).1 in
    let y = elsewhere b s (mark m.Close ∷ perhaps w (mark m.As) (name a ∷ new)) in
    record {
      terminals = perhaps v (mark m.Lateral) (mark m.Open ∷ y.terminals);
      writable = λ k. before_perhaps v (mark m.Lateral) (mark m.Open ∷ y.terminals) tt (tt, y.writable (tt, before_perhaps w (mark m.As) (name a ∷ new) tt (i.0, k)));
      reads = r.sub_alone w y.reads;
    }
elsewhere (r.sub_columns {a = a} {v = v} w b c) h new =
    let s = (behind_perhaps v (mark m.Lateral) _ h).1 in
    let i = behind_perhaps w (mark m.As) _ (left b s).1 in
    let z = elsewhere c i.1.1 (mark m.Close ∷ new) in
    let y = elsewhere b s (mark m.Close ∷ perhaps w (mark m.As) (name a ∷ mark m.Open ∷ z.terminals)) in
    record {
      terminals = perhaps v (mark m.Lateral) (mark m.Open ∷ y.terminals);
      writable = λ k.
          before_perhaps v (mark m.Lateral) (mark m.Open ∷ y.terminals) tt
          (tt, y.writable (tt, before_perhaps w (mark m.As) (name a ∷ mark m.Open ∷ z.terminals) tt (i.0, (tt, z.writable (tt, k)))));
      reads = r.sub_columns w y.reads z.reads;
    }
elsewhere (r.last_from a) h new = alike (elsewhere a h new) (λ w. w) (λ ts c. r.last_from c)
elsewhere (r.another_from a b) h new =
    let y = elsewhere b (left a h).1 new in
    alike (elsewhere a h (mark m.Comma ∷ y.terminals)) (λ w. (tt, y.writable w)) (λ ts c. r.another_from c y.reads)
elsewhere r.last_name h new = record { terminals = _; writable = λ w. (h.0, w); reads = r.last_name }
elsewhere (r.another_name {n = n} a) h new = behind_two (name n) (mark m.Comma) h.0 tt (elsewhere a h.1.1 new) (λ w. w) (λ ts c. r.another_name c)
elsewhere (r.key_alone g a) h new = alike (elsewhere a h new) (λ w. w) (λ ts c. r.key_alone g c)
elsewhere (r.ascending g a) h new = alike (elsewhere a h (mark m.Asc ∷ new)) (λ w. (tt, w)) (λ ts c. r.ascending g c)
elsewhere (r.descending g a) h new = alike (elsewhere a h (mark m.Desc ∷ new)) (λ w. (tt, w)) (λ ts c. r.descending g c)
elsewhere (r.last_key a) h new = alike (elsewhere a h new) (λ w. w) (λ ts c. r.last_key c)
elsewhere (r.another_key a b) h new =
    let y = elsewhere b (left a h).1 new in
    alike (elsewhere a h (mark m.Comma ∷ y.terminals)) (λ w. (tt, y.writable w)) (λ ts c. r.another_key c y.reads)
elsewhere r.no_from h new = record { terminals = new; writable = λ w. w; reads = r.no_from }
elsewhere (r.from a) h new = behind (mark m.From) tt (elsewhere a h.1 new) (λ w. w) (λ ts c. r.from c)
elsewhere r.no_where h new = record { terminals = new; writable = λ w. w; reads = r.no_where }
elsewhere (r.where_of a) h new = behind (mark m.Where) tt (elsewhere a h.1 new) (λ w. w) (λ ts c. r.where_of c)
elsewhere r.no_order h new = record { terminals = new; writable = λ w. w; reads = r.no_order }
elsewhere (r.order_by a) h new = behind_two (mark m.Order) (mark m.By) tt tt (elsewhere a h.1.1 new) (λ w. w) (λ ts c. r.order_by c)
elsewhere r.no_limit h new = record { terminals = new; writable = λ w. w; reads = r.no_limit }
elsewhere (r.limit_of a) h new = behind (mark m.Limit) tt (elsewhere a h.1 new) (λ w. w) (λ ts c. r.limit_of c)
elsewhere (r.select_of a b c x y) h new =
    let p = left a h.1 in
    let q = left b p in
    let s = left c q in
    let limit = elsewhere y (left x s) new in
    let order = elsewhere x s limit.terminals in
    let filter = elsewhere c q order.terminals in
    let sources = elsewhere b p filter.terminals in
    behind (mark m.Select) tt (elsewhere a h.1 sources.terminals) (λ w. sources.writable (filter.writable (order.writable (limit.writable w))))
    (λ ts d. r.select_of d sources.reads filter.reads order.reads limit.reads)
elsewhere (r.last_select a) h new = alike (elsewhere a h new) (λ w. w) (λ ts c. r.last_select c)
elsewhere (r.another_select a b) h new =
    let y = elsewhere b (left a h).1.1 new in
    alike (elsewhere a h (mark m.Union ∷ mark m.All ∷ y.terminals)) (λ w. (tt, (tt, y.writable w))) (λ ts c. r.another_select c y.reads)
elsewhere (r.query_of g a) h new = alike (elsewhere a h new) (λ w. w) (λ ts c. r.query_of g c)
elsewhere (r.recursive_of {n = n} ss second a b) h new =
    let k = (h.1.1.1).1 in
    let y = elsewhere b (left a k).1.1.1 (mark m.Close ∷ new) in
    let x = elsewhere a k (mark m.Close ∷ mark m.As ∷ mark m.Open ∷ y.terminals) in
    record {
      terminals = mark m.With ∷ mark m.Recursive ∷ name n ∷ mark m.Open ∷ x.terminals;
      writable = λ w. (tt, (tt, (h.1.1.0, (tt, x.writable (tt, (tt, (tt, y.writable (tt, w))))))));
      reads = r.recursive_of ss second x.reads y.reads;
    }
elsewhere (r.plain_file v a) h new =
    alike (elsewhere a h (perhaps v (mark m.Semicolon) new)) (λ w. before_perhaps v (mark m.Semicolon) new tt w) (λ ts c. r.plain_file v c)
elsewhere (r.with_file v g a b) h new =
    let y = elsewhere b (left a h) (perhaps v (mark m.Semicolon) new) in
    alike (elsewhere a h y.terminals) (λ w. y.writable (before_perhaps v (mark m.Semicolon) new tt w)) (λ ts c. r.with_file v g c y.reads)
