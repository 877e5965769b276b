use Rattle.std.proofs.Common.{◌≡◌, drop}
use Rattle.std.specs.List.{list_any}
use Rattle.moved_names.specs.Finding.{in_arm, in_expr, in_item, in_key, in_link, in_part, in_select}
use Rattle.moved_names.specs.Seeking.{sought}
use Rattle.moved_names.proofs.+finding.Given as goal

abbrev pub invariant-finding::in_exprs-loop-e : goal.invariant-finding::in_exprs-loop-e
invariant-finding::in_exprs-loop-e l = list_any (in_expr (sought l.s)) l.list ≡ list_any (in_expr (sought l.s)) (drop l.e-index l.list)

abbrev pub invariant-finding::in_links-loop-link : goal.invariant-finding::in_links-loop-link
invariant-finding::in_links-loop-link l = list_any (in_link (sought l.s)) l.list ≡ list_any (in_link (sought l.s)) (drop l.link-index l.list)

abbrev pub invariant-finding::in_arms-loop-arm : goal.invariant-finding::in_arms-loop-arm
invariant-finding::in_arms-loop-arm l = list_any (in_arm (sought l.s)) l.list ≡ list_any (in_arm (sought l.s)) (drop l.arm-index l.list)

abbrev pub invariant-finding_queries::in_items-loop-i : goal.invariant-finding_queries::in_items-loop-i
invariant-finding_queries::in_items-loop-i l = list_any (in_item (sought l.s)) l.list ≡ list_any (in_item (sought l.s)) (drop l.i-index l.list)

abbrev pub invariant-finding_queries::in_keys-loop-k : goal.invariant-finding_queries::in_keys-loop-k
invariant-finding_queries::in_keys-loop-k l = list_any (in_key (sought l.s)) l.list ≡ list_any (in_key (sought l.s)) (drop l.k-index l.list)

abbrev pub invariant-finding_queries::in_from-loop-f : goal.invariant-finding_queries::in_from-loop-f
invariant-finding_queries::in_from-loop-f l = list_any (in_part (sought l.s)) l.list ≡ list_any (in_part (sought l.s)) (drop l.f-index l.list)

abbrev pub invariant-finding_queries::in_selects-loop-x : goal.invariant-finding_queries::in_selects-loop-x
invariant-finding_queries::in_selects-loop-x l = list_any (in_select (sought l.s)) l.list ≡ list_any (in_select (sought l.s)) (drop l.x-index l.list)
