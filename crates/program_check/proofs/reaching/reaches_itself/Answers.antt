use Rattle.std.proofs.Common.{◌≡◌, ◌++◌, length, take, drop, sym, ap, ◌∙◌, rules}
use Rattle.std.proofs.Math.Seq.{take-append_seam}
use Rattle.call_expand.proofs.JudgingRules.{function_is}
use Rattle.program_check.specs.Reaching.{marked}
use Rattle.program_check.proofs.Marking.{recursion_told}
use Rattle.program_check.proofs.reaching.reaches_itself.Goals as goal

pub returns : goal.returns
returns c =
    let fs = c.args.fs.now in
    let f = c.index-fs-k.result in
    let new = c.spread.new.marks in
    let rest = drop (length new) c.in_ok-marks.marks.items in
    let long : c.in_ok-marks.marks.len ≡ length new = sym (c.spread.ensures.as_many ∙ c.deref_mut.ensures.len) in
    let same : take c.in_ok-marks.marks.len (new ++ rest) ≡ new = ap (λ n. take n (new ++ rest)) long ∙ take-append_seam new rest in
    recursion_told fs c.args.k f _ new c.args.table.now c.is_marked.result (function_is fs c.args.k f c.requires.inside c.index-fs-k.is) (search rules) c.requires.table c.spread.ensures
    (c.is_marked.ensures ∙ ap (λ ms. marked ms c.args.k) (c.deref.ensures.value ∙ same))
