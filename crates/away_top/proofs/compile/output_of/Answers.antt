use Rattle.std.proofs.Common.{IfOk, string_bytes, subst, sym}
use Rattle.call_forms.specs.Writable.{HasSpelling}
use Rattle.away_top.specs.CompileCourse.{IsOutput}
use Rattle.away_top.proofs.compile.output_of.Goals as goal

pub returns-in-Certificate : goal.returns-in-Certificate
returns-in-Certificate c =
    subst (λ wanted. IfOk c.certified.result (λ output. HasSpelling c.args.compiled.cert → IsOutput wanted c.args.compiled.cert (string_bytes c.args.compiled.text) output.items)) (sym c.in-Certificate.is)
    c.certified.ensures
