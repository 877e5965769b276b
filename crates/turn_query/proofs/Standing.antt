-- Behind forms in their relations the query of unfolded labels is one that runs several turns in an iteration.
use Rattle.std.proofs.Common.{◌≡◌, true, List, subst}
use Rattle.away_trees.specs.declared.queries.Expr.{Expr}
use Rattle.block_forms.specs.declared.forms.Term.{Term}
use Rattle.block_forms.specs.Expressions.{expressions}
use Rattle.call_forms.specs.Bodies.{body_of}
use Rattle.turn_template.specs.Totals.{total_term}
use Rattle.turn_template.specs.Unfolded.{CallsAmong}
use Rattle.turn_terms.specs.Choosing.{chosen_total}
use Rattle.turn_terms.specs.Sameness.{same}
use Rattle.turn_query.specs.TurnsQuery.{QueriesStandInTurns, called_labels}

pub stands : ((x y : Expr) → same x y ≡ true → x ≡ y) → ((table : List Expr) (t : Term) → chosen_total table t ≡ true → total_term table t ≡ true)
    → QueriesStandInTurns
stands alike totals = λ s f slots g z a x asked q lowered named called unfolded is. record {
  choices = record { heads = called_labels x; total = chosen_total (expressions f); same = same; turns = is.turns };
  some = is.fitting.some;
  few = is.fitting.few;
  forms = record {
    alike = alike;
    totals = totals (expressions f);
    lowered = lowered;
    named = named;
    called = called;
    unfolded = unfolded.unfolded;
    columned = unfolded.columned;
    inner = λ i b e. subst (λ heads. CallsAmong heads x.tail.labels (body_of a x.tail b)) unfolded.first_labels (unfolded.inner i b e);
    entry_no_head = unfolded.entry_no_head;
    query = is.query;
  };
}
