use Rattle.std.proofs.Common.{◌≡◌, drop}
use Rattle.goto_lower.specs.Drafts.{begun_params}
use Rattle.goto_lower.proofs.function.push_params.Given as goal

abbrev pub invariant-loop-i : goal.invariant-loop-i
invariant-loop-i l =
    begun_params l.numbers l.f.strict l.f.result (drop l.i l.f.params) l.body l.draft ≡ begun_params l.numbers l.f.strict l.f.result l.f.params l.body l.fn.draft
