use Rattle.std.proofs.Common.{◌≡◌, drop}
use Rattle.goto_lower.specs.Drafts.{all_declared}
use Rattle.goto_lower.proofs.assignments.push_decls.Given as goal

abbrev pub invariant-loop-i : goal.invariant-loop-i
invariant-loop-i l = all_declared l.numbers (drop l.i l.decls) l.next l.draft ≡ all_declared l.numbers l.decls l.next l.fn.draft
