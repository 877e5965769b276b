use Rattle.std.proofs.Common.{◌≡◌, ℕ, drop}
use Rattle.away_trees.specs.Algebra.{query_of}
use Rattle.sql_meaning.specs.Reads.{reading}
use Rattle.goto_check.specs.Passing.{passed, exprs_read, links_read, arms_read, items_read, froms_read, keys_read, selects_read}
use Rattle.goto_check.proofs.reads.+passing.Given as goal

abbrev pub invariant-pass_exprs-loop-e : goal.invariant-pass_exprs-loop-e
invariant-pass_exprs-loop-e l = (d : ℕ) → passed l.names l.k (exprs_read d (drop l.e-index l.list)) ≡ passed l.names l.fn.k (exprs_read d l.list)

abbrev pub invariant-pass_links-loop-link : goal.invariant-pass_links-loop-link
invariant-pass_links-loop-link l = (d : ℕ) → passed l.names l.k (links_read d (drop l.link-index l.links)) ≡ passed l.names l.fn.k (links_read d l.links)

abbrev pub invariant-pass_arms-loop-arm : goal.invariant-pass_arms-loop-arm
invariant-pass_arms-loop-arm l = (d : ℕ) → passed l.names l.k (arms_read d (drop l.arm-index l.arms)) ≡ passed l.names l.fn.k (arms_read d l.arms)

abbrev pub invariant-pass_items-loop-item : goal.invariant-pass_items-loop-item
invariant-pass_items-loop-item l = (d : ℕ) → passed l.names l.k (items_read d (drop l.item-index l.list)) ≡ passed l.names l.fn.k (items_read d l.list)

abbrev pub invariant-pass_froms-loop-item : goal.invariant-pass_froms-loop-item
invariant-pass_froms-loop-item l = (d : ℕ) → passed l.names l.k (froms_read d (drop l.item-index l.list)) ≡ passed l.names l.fn.k (froms_read d l.list)

abbrev pub invariant-pass_keys-loop-key : goal.invariant-pass_keys-loop-key
invariant-pass_keys-loop-key l = (d : ℕ) → passed l.names l.k (keys_read d (drop l.key-index l.list)) ≡ passed l.names l.fn.k (keys_read d l.list)

abbrev pub invariant-pass_query-loop-select : goal.invariant-pass_query-loop-select
invariant-pass_query-loop-select l = (d : ℕ) → passed l.names l.k (selects_read d (drop l.select-index l.select-items)) ≡ passed l.names l.fn.k (query_of reading l.q d)
