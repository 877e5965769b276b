use Rattle.std.proofs.Math.Logic.{∥∥₁_elim}
use native.Mathlib.Bridge.{le_prop}
use Rattle.goto_law.proofs.FirstSlots.{parameters_first}
use Rattle.goto_law.proofs.lowered_forms.parameters_have_slots.Goals as goal

pub returns : goal.returns
returns c = ∥∥₁_elim c.args.f.now.checked le_prop (parameters_first c.args.f.now.function c.args.f.now.slots)
