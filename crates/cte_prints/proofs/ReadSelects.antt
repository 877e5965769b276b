-- What is read in pieces, a list and the clauses of a select, is read as one select in brackets.
use Rattle.std.proofs.Common.{ℕ, suc, true, List, [], ◌∷◌, Option, refl}
use Rattle.away_grammar.specs.declared.grammar.Mark.TheVariants as m
use Rattle.away_grammar.specs.declared.grammar.Level.TheVariants as l
use Rattle.away_trees.specs.declared.queries.Expr.{Expr}
use Rattle.away_trees.specs.declared.queries.Expr.TheViews.{roll-Select}
use Rattle.away_trees.specs.declared.queries.FromItem.{FromItem}
use Rattle.away_trees.specs.declared.queries.Item.{Item}
use Rattle.away_trees.specs.declared.queries.Key.{Key}
use Rattle.away_grammar.specs.Terminals.{Terminal, mark}
use Rattle.away_grammar.specs.Grammar.{at, items, from_clause, where_clause, order_clause, limit_clause}
use Rattle.plsql_meaning.specs.Sight.{query_of}
use Rattle.sql_printer.specs.Writable.{AllWritable}
use Rattle.cte_prints.specs.Derivation.{IsReadWithin}
use Rattle.cte_prints.specs.ReadsIn as r
use Rattle.cte_prints.specs.ReadsIn.{ReadsIn}
use Rattle.cte_prints.proofs.ReadElsewhere.{elsewhere}

anywhere : {d : ℕ} {ts rest : List Terminal} {x : Expr} → ReadsIn true d (at l.Primary) ts x rest → ReadsIn true d (at l.Or) ts x rest
anywhere h =
    r.chain tt
    (r.chain tt
    (r.affirmed
    (r.untested (r.uncompared (r.unranged (r.chain tt (r.chain tt (r.chain tt (r.unsigned (r.uncast h)) r.no_link) r.no_link) r.no_link)))))
    r.no_link)
    r.no_link

module _ {d : ℕ} {list : List Item} {from : List FromItem} {filter : Option Expr} {order : List Key} {limit : Option Expr} where
  -- Each piece may stand anywhere.
  pub select_read : {ls fs ws os ns la fa wa oa na : List Terminal} → ReadsIn true d items ls list la → AllWritable ls
      → ReadsIn true d from_clause fs from fa → AllWritable fs → ReadsIn true d where_clause ws filter wa → AllWritable ws
      → ReadsIn true d order_clause os order oa → AllWritable os → ReadsIn true d limit_clause ns limit na → AllWritable ns
      → IsReadWithin (suc d) (query_of (roll-Select (record { list = list; from = from; filter = filter; order = order; limit = limit })))
  select_read a h b i c j e k f n =
      let fifth = elsewhere f n (mark m.Close ∷ []) in
      let fourth = elsewhere e k fifth.terminals in
      let third = elsewhere c j fourth.terminals in
      let second = elsewhere b i third.terminals in
      let first = elsewhere a h second.terminals in
      record {
        terminals = mark m.Open ∷ mark m.Select ∷ first.terminals;
        rest = [];
        writable = (tt, (tt, first.writable (second.writable (third.writable (fourth.writable (fifth.writable (tt, tt)))))));
        reads = anywhere (r.scalar (r.query_of refl (r.last_select (r.select_of first.reads second.reads third.reads fourth.reads fifth.reads))));
      }
