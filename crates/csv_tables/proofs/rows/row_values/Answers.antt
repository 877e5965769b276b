use Rattle.std.proofs.Common.{arith, rules, sym}
use Rattle.csv.specs.Records.{fields_of}
use Rattle.csv.proofs.RecordFacts.{field-there}
use Rattle.csv_tables.proofs.RowSteps.{other_count, values_begin, values_end, values_more, values_refused}
use Rattle.csv_tables.proofs.rows.row_values.Goals as goal

pub returns-then-len-columns-clause-refused : goal.returns-then-len-columns-clause-refused
returns-then-len-columns-clause-refused c = search (rules, other_count)

pub loop-i-init : goal.loop-i-init
loop-i-init c = search (rules, values_begin)

pub returns-in_default-clause-refused : goal.returns-in_default-clause-refused
returns-in_default-clause-refused c = absurd (field-there (fields_of c.args.fields.now) c.loop-i.i (omega (arith, c.loop-i.invariant.long)) (sym c.in_default.ensures.value))

pub returns-in_err-cell-clause-refused : goal.returns-in_err-cell-clause-refused
returns-in_err-cell-clause-refused c =
    let refused = values_refused c.args.row c.args.columns.now (fields_of c.args.fields.now) c.loop-i.i c.loop-i.values c.index-columns-i.result c.in-Some.field.now c.in_err-cell.field-0.0
    (omega arith) c.index-columns-i.is c.in-Some.ensures.value c.loop-i.invariant c.in_err-cell.ensures.refused in
    search rules

pub loop-i-preserved : goal.loop-i-preserved
loop-i-preserved c =
    values_more c.args.row c.args.columns.now (fields_of c.args.fields.now) c.loop-i.i c.loop-i.values _ c.index-columns-i.result c.in-Some.field.now c.in_ok-cell.field-0
    (omega arith) c.index-columns-i.is c.in-Some.ensures.value c.loop-i.invariant c.in_ok-cell.ensures.value c.in_ok-push.ensures.ok

pub returns-clause-values : goal.returns-clause-values
returns-clause-values c = values_end c.args.row c.args.columns.now (fields_of c.args.fields.now) c.loop-i.i c.loop-i.values (omega arith) c.loop-i.invariant
