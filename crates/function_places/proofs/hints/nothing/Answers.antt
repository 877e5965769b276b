use Rattle.std.proofs.Common.{string_bytes}
use Rattle.function_places.proofs.HintSteps.{no_hint}
use Rattle.function_places.proofs.hints.nothing.Goals as goal

pub returns : goal.returns
returns c = no_hint c.args.ended (string_bytes c.new.result) c.new.ensures.bytes
