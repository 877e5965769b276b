use Rattle.std.proofs.Common.{rules, ◌<◌, ◌^◌, length}
use Rattle.equivalence.specs.Accepted.{AcceptedForms}
use Rattle.stage_check.proofs.check.check_all.Goals as goal

pub returns-clause-equivalent : goal.returns-clause-equivalent
returns-clause-equivalent c same written is =
    let s = c.args.s.now.schema in
    let f = c.args.f.now.function in
    let slots = c.args.f.now.slots in
    let forms = c.args.forms.now in
    let q = c.args.q.now.query in
    let all : AcceptedForms s f slots forms q = search rules in
    let few : length s.tables < 2 ^ 64 = search rules in
    c.accepted_forms_are_equivalent.ensures s written forms q is few all
