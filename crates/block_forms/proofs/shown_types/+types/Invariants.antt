use Rattle.std.proofs.Common.{◌≡◌, ◌++◌, take, flat_map}
use Rattle.block_forms.specs.Slots.{variables, variables_of_arm, types_of}
use Rattle.block_forms.proofs.shown_types.+types.Given as goal

abbrev pub invariant-push_statements-loop-i : goal.invariant-push_statements-loop-i
invariant-push_statements-loop-i l = l.list ≡ l.fn.list ++ types_of (flat_map variables (take l.i l.body))

abbrev pub invariant-push_arms-loop-i : goal.invariant-push_arms-loop-i
invariant-push_arms-loop-i l = l.list ≡ l.fn.list ++ types_of (flat_map variables_of_arm (take l.i l.arms))
