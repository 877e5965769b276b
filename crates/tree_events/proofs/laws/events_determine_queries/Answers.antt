use Rattle.std.proofs.Common.{[], ap, sym, ◌∙◌}
use Rattle.away_trees.specs.Algebra.{query_of}
use Rattle.tree_events.specs.declared.events.Manner.TheVariants.{Whole}
use Rattle.tree_events.specs.Events.{shaping}
use Rattle.tree_events.proofs.ReadBack.{events_determine}
use Rattle.tree_events.proofs.WithoutNames.{bare_query_events}
use Rattle.tree_events.proofs.laws.events_determine_queries.Goals as goal

pub returns : goal.returns
returns c q r = (
  λ e. events_determine q r e,
  λ e. ap (λ p. p []) (sym (bare_query_events Whole q)) ∙ (ap (λ q. query_of (shaping Whole) q []) e ∙ ap (λ p. p []) (bare_query_events Whole r)),
)
