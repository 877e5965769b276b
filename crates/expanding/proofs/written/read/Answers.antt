use Rattle.expanding.proofs.written.read.Goals as goal

pub returns-in-Err-clause-err : goal.returns-in-Err-clause-err
returns-in-Err-clause-err c = c.too_long.ensures c.args.text.now c.in-Err.ensures.err
