use Rattle.std.proofs.Common.{ap, ◌∙◌}
use Rattle.std.proofs.lemmas.List.Elements.{All-get_or}
use Rattle.sql_text.specs.Plans.{first}
use Rattle.sql_text.specs.CodeTerminals.{HasSpelling}
use Rattle.sql_text.proofs.Places.{first_meaning}
use Rattle.sql_text.proofs.cursor.Cursor.peek.Goals as goal

pub returns-then-self-clause-value : goal.returns-then-self-clause-value
returns-then-self-clause-value c = first_meaning c.self.inside.terminals.now c.self.inside.at _ c.if-self.true ∙ ap first c.self.view_is

pub returns-then-self-clause-spelled : goal.returns-then-self-clause-spelled
returns-then-self-clause-spelled c = All-get_or HasSpelling c.self.inside.terminals.now c.self.inside.at _ c.if-self.true c.self.invariant.1
