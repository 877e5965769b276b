use Rattle.std.proofs.Common.{map}
use Rattle.function_places.specs.LimitPlaces.{in_order, kinds_of, kinds_of_arm}
use Rattle.function_places.proofs.AddedKinds.{Leads, left_at}
use Rattle.function_places.proofs.node_kinds.+kinds.Given as goal

abbrev pub invariant-add_statements-loop-statement : goal.invariant-add_statements-loop-statement
invariant-add_statements-loop-statement l = Leads (in_order (map (λ s. kinds_of s) l.statements)) l.initial.list (left_at (λ s. kinds_of s) l.statement-index l.statements) l.list

abbrev pub invariant-add_arms-loop-arm : goal.invariant-add_arms-loop-arm
invariant-add_arms-loop-arm l = Leads (in_order (map (λ a. kinds_of_arm a) l.arms)) l.initial.list (left_at (λ a. kinds_of_arm a) l.arm-index l.arms) l.list
