use Rattle.std.proofs.Common.{◌≡◌, take}
use Rattle.away_core.proofs.copy_queries.+copy_query.Given as goal

abbrev pub invariant-copy_exprs-loop-i : goal.invariant-copy_exprs-loop-i
invariant-copy_exprs-loop-i l = l.all ≡ take l.i l.list

abbrev pub invariant-copy_chain-loop-i : goal.invariant-copy_chain-loop-i
invariant-copy_chain-loop-i l = l.all ≡ take l.i l.list

abbrev pub invariant-copy_cases-loop-i : goal.invariant-copy_cases-loop-i
invariant-copy_cases-loop-i l = l.all ≡ take l.i l.list

abbrev pub invariant-copy_items-loop-i : goal.invariant-copy_items-loop-i
invariant-copy_items-loop-i l = l.all ≡ take l.i l.list

abbrev pub invariant-copy_from-loop-i : goal.invariant-copy_from-loop-i
invariant-copy_from-loop-i l = l.all ≡ take l.i l.list

abbrev pub invariant-copy_keys-loop-i : goal.invariant-copy_keys-loop-i
invariant-copy_keys-loop-i l = l.all ≡ take l.i l.list

abbrev pub invariant-copy_selects-loop-i : goal.invariant-copy_selects-loop-i
invariant-copy_selects-loop-i l = l.all ≡ take l.i l.list
