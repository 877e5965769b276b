use Rattle.std.proofs.Common.{◌∙◌, sym, ap, eqb, length, take, drop}
use Rattle.std.proofs.lemmas.List.{take_rest}
use lib.Pointwise.{pointwise}
use Rattle.away_lex.proofs.Steps.{begins_is}
use Rattle.away_lex.proofs.pieces.begins_with.Goals as goal

pub returns-clause-value : goal.returns-clause-value
returns-clause-value c =
    let m = c.args.mark.now in
    c.starts_with.ensures.value ∙ ap (λ l. pointwise eqb m (take (length m) l)) (take_rest c.args.z.now c.args.at) ∙ sym (begins_is m (drop c.args.at c.args.z.now))
