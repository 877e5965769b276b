use Rattle.std.proofs.Common.{string_bytes}
use Rattle.demonstration.proofs.Telling.{told_is}
use Rattle.demonstration.proofs.compiled.compiled_query.Goals as goal

pub returns : goal.returns
returns c =
    let made = c.in_ok-compiled.compiled in
    told_is c.args.schema.now.schema c.args.function.now.function c.args.function.now.slots made.query (string_bytes made.text) c.with_length.result
    (record { forms = made.cert; compiled = c.in_ok-compiled.ensures.compiled; equivalent = c.in_ok-compiled.ensures.equivalent }) c.with_length.ensures
