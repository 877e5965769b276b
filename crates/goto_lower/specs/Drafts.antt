-- What the parts of a function add to a form that is built.
use Rattle.std.specs.Prelude.{
  ℕ,
  Bool,
  true,
  List,
  [],
  ◌∷◌,
  ◌++◌,
  length,
  map,
  Option,
  Some,
  None,
  ◌+◌,
}
use Rattle.away_values.specs.declared.types.Ty.{Ty}
use Rattle.away_trees.specs.declared.queries.Expr.{Expr}
use Rattle.away_trees.specs.declared.queries.Select.{Select}
use Rattle.away_trees.specs.declared.statements.Arm.{Arm}
use Rattle.away_trees.specs.declared.statements.Decl.{Decl}
use Rattle.away_trees.specs.declared.statements.Stmt.{Stmt}
use Rattle.away_types.specs.declared.slots.Slot.{Slot}
use Rattle.plsql_meaning.specs.Outcomes.{Label}
use Rattle.block_forms.specs.declared.places.Position.{Position}
use Rattle.block_forms.specs.declared.places.Numbers.{Numbers}
use Rattle.block_forms.specs.Around.{Around}
use Rattle.block_forms.specs.declared.forms.Block.{Block}
use Rattle.block_forms.specs.Laid.{place, after, a_node, with_expr, decl_size, decls_size}
use Rattle.goto_lower.specs.declared.draft.Draft.{Draft}
use Rattle.goto_lower.specs.declared.setting.Setting.{Setting}
use Rattle.goto_lower.specs.Building.{
  Built,
  BuiltArm,
  row_size,
  row_blocks,
  row_firsts,
  built_of,
  built_arm,
  arms_size,
  arms_blocks,
  arms_firsts,
  slot_blocks,
  decl_blocks,
  decls_many,
  decls_firsts,
  decls_blocks,
  for_blocks,
  count_size,
  first_from,
  arms_first,
}
use Rattle.block_forms.specs.Patterns.{source_term, jumps, branches}
use Rattle.select_into.specs.Entries.{Target}
use Rattle.goto_lower.specs.IntoBlocks.{pick_firsts, pick_blocks}
use Rattle.goto_lower.specs.Whole.{finish, Params, param_firsts, param_blocks}

abbrev pub statement_in : Setting → Stmt → Built
statement_in s x = built_of s.numbers s.slots.now finish x

abbrev pub row_in : Setting → List Stmt → List Built
row_in s xs = map (λ x. built_of s.numbers s.slots.now finish x) xs

abbrev pub arm_in : Setting → Arm → BuiltArm
arm_in s x = built_arm s.numbers s.slots.now finish x

abbrev pub arms_in : Setting → List Arm → List BuiltArm
arms_in s xs = map (λ x. built_arm s.numbers s.slots.now finish x) xs

-- blocks are pushed
unfoldable pub extended : List Block → Draft → Draft
extended xs d = record { nodes = d.nodes; blocks = d.blocks ++ xs; place = d.place }

abbrev pub pushed : Block → Draft → Draft
pushed x d = extended (x ∷ []) d

-- a node begins
unfoldable pub begun : Position → ℕ → Draft → Draft
begun size first d = record { nodes = d.nodes ++ first ∷ []; blocks = d.blocks; place = after d.place size }

-- a statement, statements and arms, by what stands around them and by the block that follows
unfoldable pub emitted : Built → Around → ℕ → Draft → Draft
emitted x around next d = record {
  nodes = d.nodes ++ x.firsts (length d.blocks) next;
  blocks = d.blocks ++ x.blocks d.place around next (length d.blocks);
  place = after d.place x.size;
}

unfoldable pub emitted_row : List Built → Around → ℕ → Draft → Draft
emitted_row xs around next d = record {
  nodes = d.nodes ++ row_firsts xs (length d.blocks) next;
  blocks = d.blocks ++ row_blocks xs d.place around next (length d.blocks);
  place = after d.place (row_size xs);
}

unfoldable pub emitted_arms : List BuiltArm → Around → ℕ → ℕ → Draft → Draft
emitted_arms xs around next lack d = record {
  nodes = d.nodes ++ arms_firsts xs next (length d.blocks);
  blocks = d.blocks ++ arms_blocks xs d.place around next lack (length d.blocks);
  place = after d.place (arms_size xs);
}

-- an assignment
abbrev pub set_by : Numbers → Option Slot → ℕ → Expr → ℕ → Draft → Draft
set_by n s slot e next d = extended (slot_blocks n s slot (source_term d.place.expr e) next (length d.blocks)) (begun with_expr (length d.blocks) d)

-- declarations
abbrev pub declared : Numbers → Decl → ℕ → Draft → Draft
declared n x next d = extended (decl_blocks n x d.place next (length d.blocks)) (begun (decl_size x) (length d.blocks) d)

unfoldable pub all_declared : Numbers → List Decl → ℕ → Draft → Draft
all_declared n xs next d = record {
  nodes = d.nodes ++ decls_firsts xs (length d.blocks);
  blocks = d.blocks ++ decls_blocks n xs d.place next (length d.blocks);
  place = after d.place (decls_size xs);
}

-- the picks of a SELECT INTO, each with its node
unfoldable pub taken : Numbers → List Target → Select → Draft → Draft
taken n ts q d = record {
  nodes = d.nodes ++ pick_firsts ts (length d.blocks);
  blocks =
      d.blocks ++ pick_blocks ts d.place.expr (n.targets + d.place.targets) q (length d.blocks);
  place = after d.place (place (length ts) (length ts) 0 0 (length ts));
}

-- the blocks of a FOR, but its body's
abbrev pub count_begun : Numbers → Bool → Expr → Expr → Option Expr → ℕ → ℕ → Draft → Draft
count_begun n reverse e1 e2 by body next d =
    extended (for_blocks n reverse e1 e2 by d.place body next (length d.blocks)) (begun (count_size by) (length d.blocks) d)

-- the head of a LOOP or a WHILE, whose body has so many blocks
abbrev pub headed : Option Expr → ℕ → ℕ → Draft → Draft
headed None inside next d = pushed (jumps true (first_from inside (length d.blocks + 1) (length d.blocks))) (begun a_node (length d.blocks) d)
headed (Some e) inside next d =
    pushed (branches true (source_term d.place.expr e) (first_from inside (length d.blocks + 1)
    (length d.blocks)) next) (begun with_expr (length d.blocks) d)

-- the body of a loop
abbrev pub inside : List Built → Label → Around → ℕ → ℕ → Draft → Draft
inside xs label around next again d = emitted_row xs (record { label = label; exit = next; again = Some again } ∷ around) again d

-- the node of a block and its declarations, the statements having so many blocks
abbrev pub started : Numbers → List Decl → ℕ → ℕ → Draft → Draft
started n xs inside next d =
    all_declared n xs (first_from inside (length d.blocks + decls_many xs) next)
    (begun a_node (first_from (decls_many xs) (length d.blocks) (first_from inside (length d.blocks + decls_many xs) next)) d)

-- the node of an IF or a CASE and its arms
abbrev pub tested : List BuiltArm → Around → ℕ → ℕ → Draft → Draft
tested xs around next lack d = emitted_arms xs around next lack (begun a_node (arms_first xs (length d.blocks) lack) d)

-- parameters
unfoldable pub begun_params : Numbers → Bool → Ty → Params → ℕ → Draft → Draft
begun_params n strict result ps body d = record {
  nodes = d.nodes ++ param_firsts strict ps (length d.blocks) body;
  blocks = d.blocks ++ param_blocks n.fixed strict result d.place.slot ps (length d.blocks) body;
  place = after d.place (place (length ps) 0 (length ps) 0 0);
}
