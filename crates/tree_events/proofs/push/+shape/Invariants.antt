use Rattle.away_trees.specs.Algebra.{expr_of, item_of, from_of, key_of, select_of}
use Rattle.tree_events.specs.Events.{shaping, link_put, arm_put}
use Rattle.tree_events.proofs.Putting.{RowLeads}
use Rattle.tree_events.proofs.push.+shape.Given as goal

abbrev pub invariant-push_arms-loop-arm : goal.invariant-push_arms-loop-arm
invariant-push_arms-loop-arm l = RowLeads (arm_put l.manner) l.arms l.initial.events l.arm-index l.events

abbrev pub invariant-push_exprs-loop-e : goal.invariant-push_exprs-loop-e
invariant-push_exprs-loop-e l = RowLeads (λ x. expr_of (shaping l.manner) x) l.list l.initial.events l.e-index l.events

abbrev pub invariant-push_from-loop-item : goal.invariant-push_from-loop-item
invariant-push_from-loop-item l = RowLeads (λ x. from_of (shaping l.manner) x) l.list l.initial.events l.item-index l.events

abbrev pub invariant-push_links-loop-link : goal.invariant-push_links-loop-link
invariant-push_links-loop-link l = RowLeads (link_put l.manner) l.links l.initial.events l.link-index l.events

abbrev pub invariant-push_list-loop-item : goal.invariant-push_list-loop-item
invariant-push_list-loop-item l = RowLeads (λ x. item_of (shaping l.manner) x) l.list l.initial.events l.item-index l.events

abbrev pub invariant-push_order-loop-key : goal.invariant-push_order-loop-key
invariant-push_order-loop-key l = RowLeads (λ x. key_of (shaping l.manner) x) l.keys l.initial.events l.key-index l.events

abbrev pub invariant-push_selects-loop-select : goal.invariant-push_selects-loop-select
invariant-push_selects-loop-select l = RowLeads (λ x. select_of (shaping l.manner) x) l.selects l.initial.events l.select-index l.events
