use Rattle.std.proofs.Common.{refl, subst, sym}
use Rattle.tail_calls.specs.Untailed.{RefusesText}
use Rattle.tail_calls.proofs.written.fits.Goals as goal

pub returns-then-text-gt-MOST_BYTES-clause-err : goal.returns-then-text-gt-MOST_BYTES-clause-err
returns-then-text-gt-MOST_BYTES-clause-err c = subst (RefusesText c.args.text.now) (sym c.limit.ensures) ((c.args.f.now, c.requires), refl, c.if-text-gt-MOST_BYTES.true)
