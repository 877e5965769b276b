use Rattle.std.proofs.Common.{◌≡◌, ◌+◌, ◌+ℤ◌, ◌∙◌, sym, ap, ◌<◌, length, drop, get_or, arith}
use Rattle.std.proofs.lemmas.Int.{ints}
use Rattle.away_values.specs.declared.values.Value.{Value}
use Rattle.sql_meaning.specs.KeyOrder.{number}
use Rattle.sql_meaning.proofs.WalkRules.{next_item}
use Rattle.lateral_rows.specs.Aggregates.{whole_sum}
use Rattle.lateral_rows.proofs.SumRules.{whole_more}
use Rattle.lateral_rows.proofs.sums.total.Goals as goal

pub loop-v-preserved : goal.loop-v-preserved
loop-v-preserved c =
    let vs = c.args.column.now in
    let i = c.loop-v.v-index in
    let item : Value = get_or vs i c.v-item.result in
    let within : i < length vs = omega arith in
    let next : whole_sum (drop i vs) ≡ number item +ℤ whole_sum (drop (i + 1) vs) = ap whole_sum (sym (next_item vs i c.v-item.result within)) ∙ whole_more item (drop (i + 1) vs) in
    let same : c.number.result ≡ number item = c.number.ensures ∙ ap number c.v-item.is in
    record { low = omega (arith, ints); high = omega (arith, ints); so_far = omega (arith, ints, next, same, c.loop-v.invariant.so_far) }
