use Rattle.std.proofs.Common.{sym, ◌∙◌}
use Rattle.cte_reads.proofs.SameKind.{same_kinds}
use Rattle.written_queries.proofs.same.same_kind.Goals as goal

pub returns : goal.returns
returns c =
    let told = same_kinds c.args.left c.args.right in
    (λ y. told.0 (sym c.eq.ensures ∙ y), λ e. c.eq.ensures ∙ told.1 e)
