use Rattle.std.proofs.Common.{◌<◌, ◌^◌, length, rules, subst}
use Rattle.compiling.specs.WrittenQuery.{IsWritten}
use Rattle.compiling.proofs.WrittenQueries.{accepted, compiled}
use Rattle.compiling.proofs.compiler.compile.Goals as goal

pub returns-clause-compiled : goal.returns-clause-compiled
returns-clause-compiled c =
    let s = c.args.s.now.schema in
    let f = c.args.f.now.function in
    let slots = c.args.f.now.slots in
    let few : length s.tables < 2 ^ 64 = search rules in
    let spoken = c.in_ok-query.field-0 in
    compiled s f slots c.in_ok-forms.field-0 c.in_ok-forms.ensures c.trees_read_again.ensures c.requires.texts few spoken
    (subst (λ q. IsWritten q spoken) c.get.ensures c.in_ok-query.ensures)

pub returns-clause-equivalent : goal.returns-clause-equivalent
returns-clause-equivalent c written is =
    let s = c.args.s.now.schema in
    let f = c.args.f.now.function in
    let slots = c.args.f.now.slots in
    let few : length s.tables < 2 ^ 64 = search rules in
    let spoken = c.in_ok-query.field-0 in
    let translated = c.in_ok-forms.field-0 in
    c.accepted_forms_are_equivalent.ensures s written translated.forms _ is few
    (accepted s f slots translated c.in_ok-forms.ensures c.trees_read_again.ensures c.requires.texts few spoken (subst (λ q. IsWritten q spoken) c.get.ensures c.in_ok-query.ensures))
