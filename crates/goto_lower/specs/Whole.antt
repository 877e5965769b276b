-- The goto form that is built for a function: its entry, the block behind the body, the tests of
-- STRICT, and the body.
use Rattle.std.specs.Prelude.{ℕ, ◌+◌, Bool, true, false, List, [], ◌∷◌, ◌++◌}
use Rattle.away_values.specs.declared.types.Ty.{Ty}
use Rattle.away_trees.specs.declared.statements.Function.{Function}
use Rattle.away_types.specs.declared.slots.Slot.{Slot}
use Rattle.plsql_meaning.specs.Outcomes.{no_return}
use Rattle.block_forms.specs.declared.forms.Block.{Block}
use Rattle.block_forms.specs.declared.forms.Goto.{Goto}
use Rattle.block_forms.specs.Lowered.{numbers_of, body_place}
use Rattle.block_forms.specs.Patterns.{is_null, null_of, branches, jumps, returns, fails}
use Rattle.goto_lower.specs.Building.{Built, built_of}

abbrev pub Params : Type 0
Params = List (List ℕ × Ty)

abbrev pub param_many : Bool → Params → ℕ
param_many strict [] = 0
param_many false (p ∷ ps) = param_many false ps
param_many true (p ∷ ps) = 2 + param_many true ps

-- the first block from a parameter on, the body's being given
abbrev pub param_first : Bool → Params → ℕ → ℕ → ℕ
param_first strict [] start body = body
param_first false (p ∷ ps) start body = param_first false ps start body
param_first true (p ∷ ps) start body = start

abbrev pub param_firsts : Bool → Params → ℕ → ℕ → List ℕ
param_firsts strict [] start body = []
param_firsts false (p ∷ ps) start body = param_first false ps start body ∷ param_firsts false ps start body
param_firsts true (p ∷ ps) start body = start ∷ param_firsts true ps (start + 2) body

abbrev pub param_blocks : ℕ → Bool → Ty → ℕ → Params → ℕ → ℕ → List Block
param_blocks S strict result k [] start body = []
param_blocks S false result k (p ∷ ps) start body = param_blocks S false result (k + 1) ps start body
param_blocks S true result k (p ∷ ps) start body =
    branches false (is_null S p.1 k) (start + 1) (param_first true ps (start + 2) body)
    ∷ returns (null_of S result)
    ∷ param_blocks S true result (k + 1) ps (start + 2) body

-- the end of the function is block 1
abbrev pub finish : ℕ
finish = 1

abbrev pub body_of : Function → List Slot → Built
body_of f slots = built_of (numbers_of f) slots finish f.body

abbrev pub body_start : Function → ℕ
body_start f = 2 + param_many f.strict f.params

abbrev pub body_first : Function → List Slot → ℕ
body_first f slots = (body_of f slots).first (body_start f) finish

abbrev pub built : Function → List Slot → Goto
built f slots = record {
  entry = 0;
  finish = finish;
  nodes = param_firsts f.strict f.params 2 (body_first f slots) ++ (body_of f slots).firsts (body_start f) finish;
  blocks =
      jumps false (param_first f.strict f.params 2 (body_first f slots))
      ∷ fails no_return
      ∷ (param_blocks (numbers_of f).fixed f.strict f.result 0 f.params 2 (body_first f slots)
      ++ (body_of f slots).blocks (body_place f) [] finish (body_start f));
}
