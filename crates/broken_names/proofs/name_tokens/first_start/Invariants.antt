use Rattle.broken_names.proofs.name_tokens.first_start.Given as goal

abbrev pub invariant-loop-number : goal.invariant-loop-number
invariant-loop-number l = Unit {0}
