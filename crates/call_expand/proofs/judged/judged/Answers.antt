use Rattle.std.proofs.Common.{◌∙◌}
use Rattle.call_expand.specs.Judges.{everywhere, functions, names}
use Rattle.call_expand.proofs.JudgedCounts.{keeping}
use Rattle.call_expand.proofs.judged.judged.Goals as goal

pub returns-clause-limits : goal.returns-clause-limits
returns-clause-limits c =
    keeping (everywhere c.args.c) (names c.args.c) (functions c.args.c) c.args.f.now _
    (λ i. record {
      name = c.in_ok-copy.ensures i;
      strict = c.args.f.now.strict;
      params = (c.in_ok-copy_params.ensures ∙ c.as_slice.ensures) i;
      result = c.args.f.now.result;
      body = c.in_ok-judged_stmt.ensures i;
    })
