use Rattle.std.proofs.Common.{sym}
use Rattle.csv_tables.proofs.BigintParses.{no_bigint}
use Rattle.csv_tables.proofs.numbers.bigint.Goals as goal

pub returns-in-Err : goal.returns-in-Err
returns-in-Err c = sym (no_bigint c.args.field.now c.in-Err.ensures.cases.0)
