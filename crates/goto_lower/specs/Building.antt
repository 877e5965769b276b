-- A goto form of each statement: its blocks from a number on, every target computed from counts of
-- blocks. Each fault has a block of its own.
use Rattle.std.specs.Prelude.{
  ℕ,
  zero,
  suc,
  ◌+◌,
  ◌*◌,
  Bool,
  true,
  false,
  List,
  [],
  ◌∷◌,
  ◌++◌,
  map,
  slice_get,
  Option,
  Some,
  None,
}
use Rattle.away_values.specs.declared.types.Ty.{Ty}
use Rattle.away_values.specs.declared.types.Ty.TheVariants as ty
use Rattle.away_values.specs.declared.values.Class.{Class}
use Rattle.away_trees.specs.declared.queries.Expr.{Expr}
use Rattle.away_trees.specs.declared.queries.Select.{Select}
use Rattle.away_trees.specs.declared.statements.Arm.{Arm}
use Rattle.away_trees.specs.declared.statements.Decl.{Decl}
use Rattle.away_trees.specs.declared.statements.LoopKind.{LoopKind}
use Rattle.away_trees.specs.declared.statements.LoopKind.TheVariants as kind
use Rattle.away_trees.specs.declared.statements.Stmt.{Stmt}
use Rattle.away_trees.specs.declared.statements.Stmt.TheOpen.{Stmt-F, Arm-F}
use Rattle.away_trees.specs.declared.statements.Stmt.TheOpen as st
use Rattle.away_trees.specs.StatementAlgebra.{StatementAlgebra, stmt_of, branch_of}
use Rattle.away_types.specs.declared.slots.Slot.{Slot}
use Rattle.plsql_meaning.specs.Outcomes.{Label, invalid_parameter, case_not_found}
use Rattle.plsql_meaning.specs.Statements.{class_of}
use Rattle.block_forms.specs.declared.places.Position.{Position}
use Rattle.block_forms.specs.declared.places.Numbers.{Numbers}
use Rattle.block_forms.specs.Around.{Around, exit_to, again_to}
use Rattle.block_forms.specs.declared.forms.Term.{Term}
use Rattle.block_forms.specs.declared.forms.Block.{Block}
use Rattle.block_forms.specs.Laid.{
  place,
  after,
  nothing,
  a_node,
  with_expr,
  one_if,
  decl_size,
  decls_size,
  into_size,
}
use Rattle.block_forms.specs.Patterns.{
  source_term,
  null_of,
  not_positive,
  one,
  copy,
  in_range,
  leaves_range,
  moved,
  sets,
  branches,
  jumps,
  returns,
  fails,
}
use Rattle.block_forms.specs.Slots.{slot, slot_of}
use Rattle.select_into.specs.Entries.{Target}
pub use Rattle.goto_lower.specs.SlotBlocks.{set_many, slot_many, set_blocks, slot_blocks}
use Rattle.goto_lower.specs.IntoBlocks.{
  check_many,
  into_many,
  into_first,
  into_blocks,
  pick_firsts,
}

-- How much there is; so many blocks; the first block, from the number at which they begin and the
-- block that follows; the blocks, from their place, what stands around them and these two; the
-- first block of each node; the variables.
pub record Built : Type 0 where
  pub size : Position
  pub many : ℕ
  pub first : ℕ → ℕ → ℕ
  pub blocks : Position → Around → ℕ → ℕ → List Block
  pub firsts : ℕ → ℕ → List ℕ
  pub vars : List Slot

pub record BuiltArm : Type 0 where
  pub test : Expr
  pub body : List Built

-- ---- rows

abbrev pub row_size : List Built → Position
row_size [] = nothing
row_size (x ∷ xs) = after x.size (row_size xs)

abbrev pub row_many : List Built → ℕ
row_many [] = 0
row_many (x ∷ xs) = x.many + row_many xs

abbrev pub row_first : List Built → ℕ → ℕ → ℕ
row_first [] start next = next
row_first (x ∷ xs) start next = x.first start (row_first xs (start + x.many) next)

abbrev pub row_blocks : List Built → Position → Around → ℕ → ℕ → List Block
row_blocks [] p around next start = []
row_blocks (x ∷ xs) p around next start =
    x.blocks p around (row_first xs (start + x.many) next) start ++ row_blocks xs (after p x.size) around next (start + x.many)

abbrev pub row_firsts : List Built → ℕ → ℕ → List ℕ
row_firsts [] start next = []
row_firsts (x ∷ xs) start next = x.firsts start (row_first xs (start + x.many) next) ++ row_firsts xs (start + x.many) next

abbrev pub row_vars : List Built → List Slot
row_vars [] = []
row_vars (x ∷ xs) = x.vars ++ row_vars xs

-- where a part begins that has so many blocks: at its first one, or where it has none at what
-- follows
abbrev pub first_from : ℕ → ℕ → ℕ → ℕ
first_from zero start next = next
first_from (suc _) start next = start

-- ---- what has one block and no variable

abbrev pub simple : Position → (Position → Around → ℕ → Block) → Built
simple size make = record {
  size = size;
  many = 1;
  first = λ start next. start;
  blocks = λ p around next start. make p around next ∷ [];
  firsts = λ start next. start ∷ [];
  vars = [];
}

abbrev pub leave_block : Option Expr → ℕ → ℕ → ℕ → Block
leave_block None k to next = jumps false to
leave_block (Some e) k to next = branches false (source_term k e) to next

-- ---- setting a slot

module _ (n : Numbers) where
  abbrev pub assigned : Option Slot → ℕ → Expr → Built
  assigned s slot e = record {
    size = with_expr;
    many = slot_many s;
    first = λ start next. start;
    blocks = λ p around next start. slot_blocks n s slot (source_term p.expr e) next start;
    firsts = λ start next. start ∷ [];
    vars = [];
  }

-- ---- SELECT INTO

module _ (n : Numbers) (slots : List Slot) where
  abbrev pub into_built : Bool → List Target → Select → Built
  into_built strict ts q = record {
    size = into_size strict ts;
    many = into_many slots strict ts;
    first = λ start next. into_first strict ts start next;
    blocks = λ p around next start. into_blocks n slots strict ts q p next start;
    firsts = λ start next.
        into_first strict ts start next ∷ pick_firsts ts (start + check_many strict);
    vars = [];
  }

-- ---- declarations

abbrev pub decls_many : List Decl → ℕ
decls_many [] = 0
decls_many (d ∷ ds) = set_many d.not_null + decls_many ds

abbrev pub decls_first : List Decl → ℕ → ℕ → ℕ
decls_first [] start next = next
decls_first (d ∷ ds) start next = start

abbrev pub decls_firsts : List Decl → ℕ → List ℕ
decls_firsts [] start = []
decls_firsts (d ∷ ds) start = start ∷ decls_firsts ds (start + set_many d.not_null)

module _ (n : Numbers) where
  abbrev pub default_of : Option Expr → Ty → ℕ → Term
  default_of None t k = null_of n.fixed t
  default_of (Some e) t k = source_term k e

  abbrev pub decl_blocks : Decl → Position → ℕ → ℕ → List Block
  decl_blocks d p next start = set_blocks n d.not_null d.ty p.slot (default_of d.default d.ty p.expr) next start

  abbrev pub decls_blocks : List Decl → Position → ℕ → ℕ → List Block
  decls_blocks [] p next start = []
  decls_blocks (d ∷ ds) p next start =
      decl_blocks d p (decls_first ds (start + set_many d.not_null) next) start
      ++ decls_blocks ds (after p (decl_size d)) next (start + set_many d.not_null)

  abbrev pub grouped : Label → List Decl → List Built → Built
  grouped label decls body = record {
    size = after (after a_node (decls_size decls)) (row_size body);
    many = decls_many decls + row_many body;
    first = λ start next. decls_first decls start (row_first body (start + decls_many decls) next);
    blocks = λ p around next start.
        decls_blocks decls (after p a_node) (row_first body (start + decls_many decls) next) start
        ++ row_blocks body (after p (after a_node (decls_size decls))) (record { label = label; exit = next; again = None }
        ∷ around) next (start + decls_many decls);
    firsts = λ start next.
        decls_first decls start (row_first body (start + decls_many decls) next)
        ∷ (decls_firsts decls start ++ row_firsts body (start + decls_many decls) next);
    vars = map slot_of decls ++ row_vars body;
  }

-- ---- arms: each begins with its branch

abbrev pub arm_size : BuiltArm → Position
arm_size a = after with_expr (row_size a.body)

abbrev pub arms_size : List BuiltArm → Position
arms_size [] = nothing
arms_size (a ∷ rest) = after (arm_size a) (arms_size rest)

abbrev pub arm_many : BuiltArm → ℕ
arm_many a = 1 + row_many a.body

abbrev pub arms_many : List BuiltArm → ℕ
arms_many [] = 0
arms_many (a ∷ rest) = arm_many a + arms_many rest

-- the first arm, or what follows the last one
abbrev pub arms_first : List BuiltArm → ℕ → ℕ → ℕ
arms_first [] start lack = lack
arms_first (a ∷ rest) start lack = start

abbrev pub arms_blocks : List BuiltArm → Position → Around → ℕ → ℕ → ℕ → List Block
arms_blocks [] p around next lack start = []
arms_blocks (a ∷ rest) p around next lack start =
    branches false (source_term p.expr a.test) (row_first a.body (start + 1) next) (arms_first rest (start + (1 + row_many a.body)) lack)
    ∷ (row_blocks a.body (after p with_expr) around next (start + 1)
    ++ arms_blocks rest (after p (arm_size a)) around next lack (start + (1 + row_many a.body)))

abbrev pub arms_firsts : List BuiltArm → ℕ → ℕ → List ℕ
arms_firsts [] next start = []
arms_firsts (a ∷ rest) next start = start ∷ (row_firsts a.body (start + 1) next ++ arms_firsts rest next (start + (1 + row_many a.body)))

abbrev pub arms_vars : List BuiltArm → List Slot
arms_vars [] = []
arms_vars (a ∷ rest) = row_vars a.body ++ arms_vars rest

-- a branch, and its fault where no arm is taken; without a fault it goes on
abbrev pub branched : List BuiltArm → Option (List Built) → Option Class → Built
branched arms None None = record {
  size = after (after a_node (arms_size arms)) nothing;
  many = arms_many arms;
  first = λ start next. arms_first arms start next;
  blocks = λ p around next start. arms_blocks arms (after p a_node) around next next start;
  firsts = λ start next. arms_first arms start next ∷ arms_firsts arms next start;
  vars = arms_vars arms ++ [];
}
branched arms None (Some c) = record {
  size = after (after a_node (arms_size arms)) nothing;
  many = arms_many arms + 1;
  first = λ start next. arms_first arms start (start + arms_many arms);
  blocks = λ p around next start. arms_blocks arms (after p a_node) around next (start + arms_many arms) start ++ fails c ∷ [];
  firsts = λ start next. arms_first arms start (start + arms_many arms) ∷ arms_firsts arms next start;
  vars = arms_vars arms ++ [];
}
branched arms (Some other) without = record {
  size = after (after a_node (arms_size arms)) (after a_node (row_size other));
  many = arms_many arms + row_many other;
  first = λ start next. arms_first arms start (row_first other (start + arms_many arms) next);
  blocks = λ p around next start.
      arms_blocks arms (after p a_node) around next (row_first other (start + arms_many arms) next) start
      ++ row_blocks other (after (after p (after a_node (arms_size arms))) a_node) around next (start + arms_many arms);
  firsts = λ start next.
      arms_first arms start (row_first other (start + arms_many arms) next)
      ∷ (arms_firsts arms next start ++ (row_first other (start + arms_many arms) next ∷ row_firsts other (start + arms_many arms) next));
  vars = arms_vars arms ++ row_vars other;
}

-- ---- LOOP and WHILE

abbrev pub looped : Label → Position → (Position → ℕ → ℕ → Block) → List Built → Built
looped label size head body = record {
  size = after size (row_size body);
  many = 1 + row_many body;
  first = λ start next. start;
  blocks = λ p around next start.
      head p (row_first body (start + 1) start) next
      ∷ row_blocks body (after p size) (record { label = label; exit = next; again = Some start } ∷ around) start (start + 1);
  firsts = λ start next. start ∷ row_firsts body (start + 1) start;
  vars = [] ++ row_vars body;
}

-- ---- FOR

abbrev pub step_many : Option Expr → ℕ
step_many None = 1
step_many (Some e) = 5

abbrev pub head_at : Option Expr → ℕ → ℕ
head_at by start = start + 3 + 3 + step_many by

abbrev pub count_size : Option Expr → Position
count_size by = place 1 (2 + one_if by) 1 1 0

module _ (n : Numbers) where
  -- a bound is set and is not NULL; the next block follows
  abbrev pub bound_blocks : ℕ → Term → ℕ → List Block
  bound_blocks slot e start = set_blocks n true ty.Integer slot e (start + 3) start

  abbrev pub step_blocks : Option Expr → ℕ → ℕ → ℕ → ℕ → List Block
  step_blocks None k slot head start = sets slot (one n.fixed) head ∷ []
  step_blocks (Some e) k slot head start =
      bound_blocks slot (source_term k e) start
      ++ (branches false (not_positive n.fixed slot) (start + 3 + 1) head ∷ fails invalid_parameter ∷ [])

  abbrev pub cur_at : Position → ℕ
  cur_at p = n.counters + 3 * p.fors

  -- the head, the start of a turn, the test after a turn and the next counter
  abbrev pub turn_blocks : Bool → Position → ℕ → ℕ → ℕ → List Block
  turn_blocks reverse p body next head =
      branches true (in_range n.fixed reverse (cur_at p) (cur_at p + 1)) (head + 1) next
      ∷ sets p.slot (copy n.fixed (cur_at p)) body
      ∷ branches false (leaves_range n.fixed reverse (cur_at p + 2) (cur_at p)) next (head + 1 + 1 + 1)
      ∷ sets (cur_at p) (moved n.fixed reverse (cur_at p) (cur_at p + 2)) head
      ∷ []

  abbrev pub for_blocks : Bool → Expr → Expr → Option Expr → Position → ℕ → ℕ → ℕ → List Block
  for_blocks reverse e1 e2 by p body next start =
      bound_blocks (cur_at p) (source_term p.expr e1) start
      ++ (bound_blocks (cur_at p + 1) (source_term (p.expr + 1) e2) (start + 3)
      ++ (step_blocks by (p.expr + 2) (cur_at p + 2) (head_at by start) (start + 3 + 3)
      ++ turn_blocks reverse p body next (head_at by start)))

  abbrev pub counted : Label → Bool → Expr → Expr → Option Expr → List Built → Built
  counted label reverse e1 e2 by body = record {
    size = after (count_size by) (row_size body);
    many = 3 + 3 + step_many by + 4 + row_many body;
    first = λ start next. start;
    blocks = λ p around next start.
        for_blocks reverse e1 e2 by p (row_first body (head_at by start + 4) (head_at by start + 1 + 1)) next start
        ++ row_blocks body (after p (count_size by)) (record { label = label; exit = next; again = Some (head_at by start + 1 + 1) }
        ∷ around) (head_at by start + 1 + 1) (head_at by start + 4);
    firsts = λ start next. start ∷ row_firsts body (head_at by start + 4) (head_at by start + 1 + 1);
    vars = slot ty.Integer ∷ [] ++ row_vars body;
  }

-- ---- all statements

abbrev pub loop_built : Numbers → Label → LoopKind → List Built → Built
loop_built n label kind.Plain body = looped label a_node (λ p first next. jumps true first) body
loop_built n label (kind.While e) body = looped label with_expr (λ p first next. branches true (source_term p.expr e) first next) body
loop_built n label (kind.Count _ reverse e1 e2 by) body = counted n label reverse e1 e2 by body

module _ (n : Numbers) (slots : List Slot) (finish : ℕ) where
  abbrev pub built_step : Stmt-F Built BuiltArm → Built
  built_step (st.Block label decls body _) = grouped n label decls body
  built_step (st.Assign _ None e) = simple with_expr (λ p around next. jumps false next)
  built_step (st.Assign _ (Some slot) e) = assigned n (slice_get slots slot) slot e
  built_step (st.If arms other) = branched arms other None
  built_step (st.Cases arms other) = branched arms other (Some case_not_found)
  built_step (st.Loop label k body _) = loop_built n label k body
  built_step (st.Exit label when) = simple (place 1 (one_if when) 0 0 0) (λ p around next. leave_block when p.expr (exit_to finish around label) next)
  built_step (st.Continue label when) = simple (place 1 (one_if when) 0 0 0)
      (λ p around next. leave_block when p.expr (again_to finish around label) next)
  built_step (st.Return e) = simple with_expr (λ p around next. returns (source_term p.expr e))
  built_step (st.Raise r) = simple a_node (λ p around next. fails (class_of r))
  built_step (st.Into strict targets query) = into_built n slots strict targets query
  built_step st.Nothing = simple a_node (λ p around next. jumps false next)

  abbrev pub building : StatementAlgebra
  building = record { AStmt = Built; AnArm = BuiltArm; stmt = built_step; arm = λ a. record { test = a.test; body = a.body } }

  unfoldable pub built_of : Stmt → Built
  built_of x = stmt_of building x

  unfoldable pub built_arm : Arm → BuiltArm
  built_arm x = branch_of building x
