use Rattle.std.proofs.Common.{◌≡◌, drop}
use Rattle.goto_lower.specs.Drafts.{taken}
use Rattle.goto_lower.proofs.targets.push_picks.Given as goal

abbrev pub invariant-loop : goal.invariant-loop
invariant-loop l =
    taken l.setting.numbers (drop l.counter l.into.targets.now) l.into.query.now l.draft ≡ taken l.setting.numbers l.into.targets.now l.into.query.now l.fn.draft
