use Rattle.std.proofs.Common.{◌≡◌, ◌==◌, map, string_bytes, arith}
use Rattle.std.proofs.lemmas.Grind.{common_steps}
use Rattle.std.proofs.lemmas.List.Splits.{join_with_byte-slice_split}
use Rattle.std.specs.List.{slice_split}
use Rattle.worked_runs.specs.Lines.{separator}
use Rattle.worked_runs.proofs.words.words_of.Goals as goal

pub returns-clause-joined : goal.returns-clause-joined
returns-clause-joined c =
    let parts : map string_bytes c.loop-part.words.items
    ≡ slice_split (λ byte. byte == separator c.args.line.now) c.args.line.now = grind (arith, common_steps) in
    rw parts (join_with_byte-slice_split (separator c.args.line.now) c.args.line.now)
