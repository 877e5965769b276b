-- The relation between a tail form and a query in whose recursive table each row carries further
-- values.
use Rattle.std.specs.Prelude.{◌≡◌, ℕ, List, slice_get}
use Rattle.away_trees.specs.declared.queries.Query.{Query}
use Rattle.away_trees.specs.declared.queries.Select.{Select}
use Rattle.away_trees.specs.declared.statements.Function.{Function}
use Rattle.away_types.specs.declared.slots.Slot.{Slot}
use Rattle.away_values.specs.declared.types.Ty.{Ty}
use Rattle.sql_meaning.specs.Names.{bare}
use Rattle.block_forms.specs.declared.forms.Goto.{Goto}
use Rattle.block_forms.specs.declared.forms.Ssa.{Ssa}
use Rattle.block_forms.specs.Expressions.{expressions}
use Rattle.block_forms.specs.Places.{Each}
use Rattle.call_forms.specs.Bodies.{body_of}
use Rattle.call_forms.specs.Called.{Among}
use Rattle.call_forms.specs.Carrying.{part_of, with_part}
use Rattle.call_forms.specs.Forms.{Anf, Tail, params_of}
use Rattle.call_forms.specs.Templated.{HasTree, types_of}

-- The recursive part of the query has this first term, and the second term of the tail form over so
-- many tables, with columns of the carried types. The query has these selects. Names of aliases and
-- columns are aside. The entry is a label, and each label has a tree.
pub record Carried
    (f : Function)
    (slots : List Slot)
    (tables : ℕ)
    (goto : Goto)
    (ssa : Ssa)
    (anf : Anf)
    (tail : Tail)
    (carried : List Ty)
    (first selects : List Select)
    (q : Query) : Type 0 where
  pub entry : Among tail.labels goto.entry
  pub trees : Each (λ b.
      HasTree (expressions f) (params_of (slice_get anf.blocks b)) (body_of anf tail b)) tail.labels
  pub query : bare q
      ≡ bare (with_part (part_of (expressions f) (types_of slots ssa) carried f.result anf tail
      first tables) selects)
