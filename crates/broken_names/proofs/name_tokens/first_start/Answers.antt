use Rattle.broken_names.proofs.NamesTaken.{starts}
use Rattle.broken_names.proofs.name_tokens.first_start.Goals as goal

pub returns-then-stands_at : goal.returns-then-stands_at
returns-then-stands_at c =
    starts c.args.list.now c.args.terminals.now c.args.from c.loop-number.number c.args.it.now _ c.loop-number-test.true
    c.requires.same c.if-stands_at.ensures c.if-from-token.true
