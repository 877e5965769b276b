use Rattle.std.proofs.Common.{ap, rules, sym}
use Rattle.std.specs.Prelude.{option_map}
use Rattle.away_values.specs.declared.values.Value.TheVariants as val
use Rattle.csv_tables.proofs.TextParses.{no_text, worded}
use Rattle.csv_tables.proofs.cells.text_value.Goals as goal

pub returns-in_default : goal.returns-in_default
returns-in_default c = sym (ap (option_map val.Text) (no_text c.args.field.now (λ p. c.in_default.ensures.cases.0 p.0)))

pub returns : goal.returns
returns c =
    let read = worded c.args.field.now c.in-Ok.text.now c.in_ok-word.field-0 c.in-Ok.ensures.cases.0 c.in-Ok.ensures.cases.1 c.in_ok-word.ensures in
    rw (← read) (search rules)
