use Rattle.std.proofs.Common.{ℕ, List}
use Rattle.away_trees.specs.declared.schemas.Schema.{Schema}
use Rattle.away_trees.specs.declared.statements.Function.{Function}
use Rattle.away_types.specs.declared.slots.Slot.{Slot}
use Rattle.away_types.specs.CheckedFunctions.{IsChecked}
use Rattle.away_typing.specs.ParameterLists.{with_expr}
use Rattle.block_forms.specs.declared.forms.Goto.{Goto}
use Rattle.block_forms.specs.declared.forms.Ssa.{Ssa}
use Rattle.block_forms.specs.Expressions.{expressions}
use Rattle.block_forms.specs.Lowered.{Lowered}
use Rattle.block_forms.specs.Named.{Named}
use Rattle.call_forms.specs.declared.forms.Anf.{Anf}
use Rattle.call_forms.specs.declared.forms.Tail.{Tail}
use Rattle.call_forms.specs.Called.{Called}
use Rattle.call_forms.specs.Columned.{Columned}
use Rattle.call_forms.specs.Merged.{Merged}
use Rattle.call_law.proofs.FormTerms.{terms_fit}
use Rattle.call_law.proofs.HasTrees.{labels_have_trees}
use Rattle.cte_types.proofs.CallTypes.{calls_keep}
use Rattle.cte_types.proofs.CheckedFacts.{facts}
use Rattle.cte_types.proofs.FormTypes.{terms_typed}
use Rattle.cte_types.specs.Whole.{IsTypable}
use Rattle.cte_types.proofs.FormsJudged.{AreTyped, clean, typed}
use Rattle.cte_types.proofs.CheckedParameters.{checked_quiet}
use Rattle.cte_types.proofs.trees.queries_break_no_rule_of_types.Goals as goal

are_typed : (schema : Schema) (written f : Function) (slots : List Slot) (g : Goto) (z : Ssa) (a : Anf) (r : Tail) (count params : ℕ)
    → IsChecked schema written f slots
    → Lowered f slots g → Named count params g z → Called g z a → Merged g a r → Columned slots z a r → IsTypable schema f
    → AreTyped schema f slots g z a r
unfolding with_expr
are_typed schema written f slots g z a r count params checked low named called merged columned h = record {
  few = h.few;
  linked = h.linked;
  parameters = checked_quiet schema written f slots checked;
  columned = columned;
  entry = merged.entry;
  trees = labels_have_trees slots g z a r (expressions f) called columned (terms_fit f slots g low count params z named a called) merged;
  terms = terms_typed schema f slots (facts schema written f slots checked) h.items g low count params z named a called;
  calls = calls_keep slots g z a count params named called;
}

pub returns-clause-typed : goal.returns-clause-typed
returns-clause-typed c = λ schema written f slots g z a r count params checked low named called merged columned h.
    typed schema f slots g z a r (are_typed schema written f slots g z a r count params checked low named called merged columned h)

pub returns-clause-unbroken : goal.returns-clause-unbroken
returns-clause-unbroken c = λ schema written f slots g z a r count params checked low named called merged columned h names same unbroken first second.
    clean schema f slots g z a r (are_typed schema written f slots g z a r count params checked low named called merged columned h) names same unbroken first second
