use Rattle.function_facts.proofs.Facts.{own}
use Rattle.function_facts.proofs.slots.checked_functions_own_their_slots.Goals as goal

pub returns : goal.returns
returns c = own c.args.f.now.function c.args.f.now.slots c.args.f.now.checked
