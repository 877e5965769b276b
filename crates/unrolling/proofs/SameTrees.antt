-- What is the same tree stands behind the same forms.
use Rattle.std.proofs.Common.{◌≡◌, ◌∙◌}
use Rattle.std.specs.Prelude.{List}
use Rattle.away_trees.specs.declared.queries.Query.{Query}
use Rattle.away_trees.specs.declared.schemas.Schema.{Schema}
use Rattle.away_trees.specs.declared.statements.Function.{Function}
use Rattle.away_types.specs.declared.slots.Slot.{Slot}
use Rattle.block_forms.specs.declared.forms.Goto.{Goto}
use Rattle.block_forms.specs.declared.forms.Ssa.{Ssa}
use Rattle.call_forms.specs.declared.forms.Anf.{Anf}
use Rattle.call_forms.specs.declared.forms.Tail.{Tail}
use Rattle.sql_meaning.specs.Names.{bare}
use Rattle.turn_equivalence.specs.InTurns.{Choices, FormsInTurns}

pub same_forms : (s : Schema) (f : Function) (slots : List Slot) (g : Goto) (z : Ssa) (a : Anf) (r : Tail) (c : Choices) (p q : Query)
    → bare p ≡ bare q → FormsInTurns s f slots g z a r c q → FormsInTurns s f slots g z a r c p
same_forms s f slots g z a r c p q same x = record {
  alike = x.alike;
  totals = x.totals;
  lowered = x.lowered;
  named = x.named;
  called = x.called;
  unfolded = x.unfolded;
  columned = x.columned;
  inner = x.inner;
  entry_no_head = x.entry_no_head;
  query = same ∙ x.query;
}
