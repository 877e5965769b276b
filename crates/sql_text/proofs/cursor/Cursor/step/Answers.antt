use Rattle.std.proofs.Common.{◌∙◌, ap}
use Rattle.sql_text.specs.Plans.{tail}
use Rattle.sql_text.proofs.Places.{meanings_on}
use Rattle.sql_text.proofs.cursor.Cursor.step.Goals as goal

pub returns-then-self : goal.returns-then-self
returns-then-self c = meanings_on c.self.inside.terminals.now c.self.inside.at c.if-self.true ∙ ap tail c.self.view_is
