use Rattle.std.proofs.Common.{arith, rules, sym}
use Rattle.csv.specs.Records.{fields_of}
use Rattle.csv.proofs.RecordFacts.{field-there}
use Rattle.csv_tables.specs.Files.{is_header}
use Rattle.csv_tables.proofs.RowSteps.{header_fails, header_more, other_header}
use Rattle.csv_tables.proofs.rows.is_header.Goals as goal

pub returns-then-columns-len : goal.returns-then-columns-len
returns-then-columns-len c = search (rules, other_header)

pub returns-in_default : goal.returns-in_default
returns-in_default c = absurd (field-there (fields_of c.args.fields.now) c.loop-i.i (omega (arith, c.loop-i.invariant.0)) (sym c.in_default.ensures.value))

pub returns-then-not-is_name_of : goal.returns-then-not-is_name_of
returns-then-not-is_name_of c =
    header_fails (is_header c.args.columns.now (fields_of c.args.fields.now)) c.args.columns.now (fields_of c.args.fields.now) c.loop-i.i c.index-columns-i.result c.in-Some.field.now
    (omega arith) c.index-columns-i.is c.in-Some.ensures.value c.loop-i.invariant.1 (search rules)

pub loop-i-preserved : goal.loop-i-preserved
loop-i-preserved c = (
  c.loop-i.invariant.0,
  header_more (is_header c.args.columns.now (fields_of c.args.fields.now)) c.args.columns.now (fields_of c.args.fields.now) c.loop-i.i c.index-columns-i.result c.in-Some.field.now
      (omega arith) c.index-columns-i.is c.in-Some.ensures.value c.loop-i.invariant.1 (search rules),
)
