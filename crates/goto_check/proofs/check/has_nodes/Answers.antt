use Rattle.std.proofs.Common.{◌<◌, ◌^◌, sym, ◌∙◌, arith}
use Rattle.goto_check.proofs.NodeCounts.{nodes_are}
use Rattle.goto_check.proofs.Deciding.{are_same}
use Rattle.goto_check.proofs.check.has_nodes.Goals as goal

pub returns-in-None : goal.returns-in-None
returns-in-None c =
    let n = nodes_are c.args.f.now in
    let large = c.in-None.ensures.none in
    let fits : c.args.many < 2 ^ 64 = c.ranges.many.fits in
    (λ t. absurd (cc), λ e. absurd (omega (arith, n, large, fits, e)))

pub returns-in-Some : goal.returns-in-Some
returns-in-Some c =
    let same = are_same c.in-Some.nodes c.args.many in
    let n = c.in-Some.ensures.some ∙ nodes_are c.args.f.now in
    (λ t. sym (same.0 t) ∙ n, λ e. same.1 (n ∙ sym e))
