use Rattle.std.proofs.Common.{IfOk, ◌≡◌, ap, length, string_bytes, subst}
use Rattle.away_top.specs.ExplainCourse.{count_lines}
use Rattle.away_top.specs.Explaining.{own}
use Rattle.away_top.proofs.Counting.{same_counts}
use Rattle.away_top.proofs.explain.own_lines.Goals as goal

pub returns : goal.returns
returns c =
    let compiled = c.args.compiled.now in
    subst (λ l. IfOk c.count_lines_of.result (λ output. output.items ≡ count_lines l))
    (same_counts (own c.args.head) compiled.cert (length (string_bytes compiled.text)) c.len.result c.len-2.result (length c.as_str.result.now) c.len.ensures c.len-2.ensures (ap length c.as_str.ensures.value))
    c.count_lines_of.ensures
