-- The forms of a function, and the tree of its query.
use Rattle.std.specs.Prelude.{◌≡◌, List, length}
use Rattle.away_trees.specs.declared.schemas.Schema.{Schema}
use Rattle.away_trees.specs.declared.statements.Function.{Function}
use Rattle.away_types.specs.declared.slots.Slot.{Slot}
use Rattle.call_forms.specs.Tight.{Tight}
use Rattle.call_forms.specs.Useful.{Neat}
use Rattle.compiling.specs.declared.forms.Translated.{Translated}
use Rattle.cte_template.specs.Making.{making_of}
use Rattle.cte_template.specs.Numbers.{NumbersFit}
use Rattle.cte_template.specs.Tree.{tree}
use Rattle.equivalence.specs.Accepted.{AcceptedForms}

-- The forms stand between the function and the tree, over the tables of the schema. No φ joins one
-- name alone, every parameter is useful, and the tail form has no more columns and labels than it
-- needs. The tree is that of the template with its names, whose numbers fit a word.
pub record IsTranslated (s : Schema) (f : Function) (slots : List Slot) (x : Translated) : Type 0 where
  pub accepted : AcceptedForms s f slots x.forms x.tree
  pub neat : Neat x.forms.ssa x.forms.anf
  pub tight : Tight slots x.forms.goto x.forms.ssa x.forms.anf x.forms.tail
  pub tree_is : x.tree ≡ tree (making_of f slots x.forms.ssa x.forms.anf x.forms.tail) x.forms.goto.entry (length s.tables)
  pub fits : NumbersFit (making_of f slots x.forms.ssa x.forms.anf x.forms.tail)
