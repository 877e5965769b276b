use Rattle.std.proofs.Common.{◌≡◌, drop, map}
use Rattle.refusal_reasons.specs.Entries.{entry}
use Rattle.refusal_reasons.specs.Instead.{advice_by}
use Rattle.refusal_reasons.proofs.instead.advice_by.Given as goal

abbrev pub invariant-loop-outside : goal.invariant-loop-outside
invariant-loop-outside l = advice_by (map entry (drop l.outside-index l.entries)) l.word ≡ advice_by (map entry l.entries) l.word
