use Rattle.std.proofs.Common.{◌≡◌, drop, false, [], ◌∷◌}
use Rattle.away_values.specs.declared.values.Value.TheVariants as val
use Rattle.sql_meaning.specs.Gives.{value_of, after, each_of, joined_of, chain_of, among_of, known_of, arms_of, arguments_at}
use Rattle.sql_meaning.specs.Selected.{select_rows, extended_of, beside_of, product_of, value_at, keep_of, item_value, row_at, key_value, keys_at}
use Rattle.sql_eval.proofs.+evaluator.Given as goal

abbrev pub invariant-eval::eval_chain-loop-link : goal.invariant-eval::eval_chain-loop-link
invariant-eval::eval_chain-loop-link l = chain_of l.scope l.links l.fn.first ≡ chain_of l.scope (drop l.link-index l.links) l.v

abbrev pub invariant-eval::eval_among-loop-choice : goal.invariant-eval::eval_among-loop-choice
invariant-eval::eval_among-loop-choice l = among_of l.scope l.v l.choices (val.Bool false) ≡ among_of l.scope l.v (drop l.choice-index l.choices) l.so_far

abbrev pub invariant-eval::eval_arms-loop-arm : goal.invariant-eval::eval_arms-loop-arm
invariant-eval::eval_arms-loop-arm l = arms_of l.scope l.arms ≡ arms_of l.scope (drop l.arm-index l.arms)

abbrev pub invariant-eval::eval_first_known-loop-e : goal.invariant-eval::eval_first_known-loop-e
invariant-eval::eval_first_known-loop-e l = known_of l.scope l.list ≡ known_of l.scope (drop l.e-index l.list)

abbrev pub invariant-eval::eval_all-loop-e : goal.invariant-eval::eval_all-loop-e
invariant-eval::eval_all-loop-e l = each_of (value_of l.scope) l.list ≡ after l.all (each_of (value_of l.scope) (drop l.e-index l.list))

abbrev pub invariant-eval::eval_group-loop-frame : goal.invariant-eval::eval_group-loop-frame
invariant-eval::eval_group-loop-frame l = joined_of (arguments_at l.scope l.list) l.group ≡ after l.all (joined_of (arguments_at l.scope l.list) (drop l.frame-index l.group))

abbrev pub invariant-selects::extended-loop-frame : goal.invariant-selects::extended-loop-frame
invariant-selects::extended-loop-frame l = extended_of l.outside l.item l.frames ≡ after l.all (joined_of (beside_of l.outside l.item) (drop l.frame-index l.frames))

abbrev pub invariant-selects::product-loop-item : goal.invariant-selects::product-loop-item
invariant-selects::product-loop-item l = product_of l.outside l.from ([] ∷ []) ≡ product_of l.outside (drop l.item-index l.from) l.frames

abbrev pub invariant-selects::kept_of-loop-frame : goal.invariant-selects::kept_of-loop-frame
invariant-selects::kept_of-loop-frame l = keep_of (value_at l.outside l.test) l.frames ≡ after l.all (keep_of (value_at l.outside l.test) (drop l.frame-index l.frames))

abbrev pub invariant-selects::item_row-loop-item : goal.invariant-selects::item_row-loop-item
invariant-selects::item_row-loop-item l = each_of (item_value l.scope) l.list ≡ after l.all (each_of (item_value l.scope) (drop l.item-index l.list))

abbrev pub invariant-selects::list_rows-loop-frame : goal.invariant-selects::list_rows-loop-frame
invariant-selects::list_rows-loop-frame l = each_of (row_at l.outside l.list) l.frames ≡ after l.all (each_of (row_at l.outside l.list) (drop l.frame-index l.frames))

abbrev pub invariant-selects::key_row-loop-key : goal.invariant-selects::key_row-loop-key
invariant-selects::key_row-loop-key l = each_of (key_value l.scope) l.keys ≡ after l.all (each_of (key_value l.scope) (drop l.key-index l.keys))

abbrev pub invariant-selects::key_rows-loop-frame : goal.invariant-selects::key_rows-loop-frame
invariant-selects::key_rows-loop-frame l = each_of (keys_at l.outside l.keys) l.frames ≡ after l.all (each_of (keys_at l.outside l.keys) (drop l.frame-index l.frames))

abbrev pub invariant-selects::union-loop-s : goal.invariant-selects::union-loop-s
invariant-selects::union-loop-s l = joined_of (select_rows l.scope) l.selects ≡ after l.all (joined_of (select_rows l.scope) (drop l.s-index l.selects))
