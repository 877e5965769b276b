use Rattle.std.proofs.Common.{length, ◌<◌, ◌^◌, sym, subst}
use Rattle.tail_rec.proofs.Widths.{few_columns}
use Rattle.tail_rec.proofs.tail.columned.Goals as goal

pub returns-clause-few_columns : goal.returns-clause-few_columns
returns-clause-few_columns c =
    subst (λ l. length l < 2 ^ 30) (sym c.in_ok-columns.ensures) (few_columns c.widths_of-widths.result c.widths_of-widths.ensures.few)
