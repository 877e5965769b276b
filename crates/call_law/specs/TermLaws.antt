-- What holds of the forms that a query is made of.
use Rattle.std.specs.Prelude.{ℕ, List, slice_get}
use Rattle.away_trees.specs.declared.queries.Expr.{Expr}
use Rattle.away_trees.specs.declared.statements.Function.{Function}
use Rattle.away_types.specs.declared.slots.Slot.{Slot}
use Rattle.block_forms.specs.declared.forms.Goto.{Goto}
use Rattle.block_forms.specs.declared.forms.Ssa.{Ssa}
use Rattle.block_forms.specs.Expressions.{expressions}
use Rattle.block_forms.specs.Lowered.{Lowered}
use Rattle.block_forms.specs.Named.{Named}
use Rattle.block_forms.specs.Places.{Each}
use Rattle.call_forms.specs.declared.forms.Anf.{Anf}
use Rattle.call_forms.specs.declared.forms.Tail.{Tail}
use Rattle.call_forms.specs.Bodies.{body_of}
use Rattle.call_forms.specs.Called.{Called}
use Rattle.call_forms.specs.Columned.{Columned}
use Rattle.call_forms.specs.Forms.{params_of}
use Rattle.call_forms.specs.Merged.{Merged}
use Rattle.call_forms.specs.Templated.{HasTree}
use Rattle.call_law.specs.Terms.{BlockOneForEach, FailsByClass}

-- each term of a function's normal form has one name for each slot of its expression
abbrev pub TermsFit : Type 0
TermsFit =
    (f : Function) (slots : List Slot) (g : Goto) (z : Ssa) (a : Anf) (count params : ℕ) → Lowered f slots g → Named count params g z → Called g z a
    → Each (BlockOneForEach (expressions f)) a.blocks

-- each fail of a function's normal form has a class
abbrev pub FailsFit : Type 0
FailsFit =
    (f : Function) (slots : List Slot) (g : Goto) (z : Ssa) (a : Anf) (count params : ℕ) → Lowered f slots g → Named count params g z → Called g z a
    → Each FailsByClass a.blocks

-- where terms fit, each label has a finite tree, in which every name has a reference
abbrev pub LabelsHaveTrees : Type 0
LabelsHaveTrees =
    (slots : List Slot) (g : Goto) (z : Ssa) (a : Anf) (r : Tail) (table : List Expr) → Called g z a → Merged g a r → Columned slots z a r
    → Each (BlockOneForEach table) a.blocks → Each (λ b. HasTree table (params_of (slice_get a.blocks b)) (body_of a r b)) r.labels
