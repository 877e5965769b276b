use Rattle.std.proofs.Common.{◌≡◌, drop}
use Rattle.goto_lower.proofs.IntoWalk.{all_put}
use Rattle.goto_lower.proofs.targets.push_puts.Given as goal

abbrev pub invariant-loop-i : goal.invariant-loop-i
invariant-loop-i l =
    all_put l.setting.numbers l.setting.slots.now (drop l.i l.targets) l.hidden l.next l.draft
    ≡ all_put l.setting.numbers l.setting.slots.now l.targets l.first l.next l.fn.draft
