use Rattle.std.proofs.Common.{◌≡◌}
use Rattle.away_trees.specs.Algebra.{expr_of}
use Rattle.turn_template.specs.Totals.{Sure, sureness}
use Rattle.turn_terms.proofs.SureLists.{all_from}
use Rattle.turn_terms.proofs.SureRules.{all_arms, all_exprs, all_links, passes_arm, passes_link, sure_arm, sure_link}
use Rattle.turn_terms.proofs.sureness.+sure.Given as goal

abbrev pub invariant-links_sure-loop-i : goal.invariant-links_sure-loop-i
invariant-links_sure-loop-i l = all_from passes_link sure_link l.links l.i ≡ all_links l.links

abbrev pub invariant-list_sure-loop-i : goal.invariant-list_sure-loop-i
invariant-list_sure-loop-i l = all_from (λ (x : Sure). x.always) (λ x. expr_of sureness x) l.list l.i ≡ all_exprs l.list

abbrev pub invariant-arms_sure-loop-i : goal.invariant-arms_sure-loop-i
invariant-arms_sure-loop-i l = all_from passes_arm sure_arm l.arms l.i ≡ all_arms l.arms
