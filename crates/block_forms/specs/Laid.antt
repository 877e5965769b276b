-- What each statement asks of a goto form, by one recursion over statements.
use Rattle.std.specs.Prelude.{
  ℕ,
  zero,
  suc,
  ◌+◌,
  Bool,
  true,
  false,
  List,
  [],
  ◌∷◌,
  ◌++◌,
  length,
  slice_get,
  Option,
  Some,
  None,
  map,
  option_map,
}
use Rattle.away_values.specs.declared.types.Ty.{Ty}
use Rattle.away_trees.specs.declared.queries.Expr.{Expr}
use Rattle.away_trees.specs.declared.statements.Arm.{Arm}
use Rattle.away_trees.specs.declared.statements.Decl.{Decl}
use Rattle.away_trees.specs.declared.statements.LoopKind.{LoopKind}
use Rattle.away_trees.specs.declared.statements.LoopKind.TheVariants as kind
use Rattle.away_trees.specs.declared.statements.Stmt.{Stmt}
use Rattle.away_trees.specs.declared.statements.Stmt.TheOpen.{Stmt-F, Arm-F}
use Rattle.away_trees.specs.declared.statements.Stmt.TheOpen as st
use Rattle.away_trees.specs.StatementAlgebra.{StatementAlgebra, stmt_of, branch_of}
use Rattle.away_types.specs.declared.slots.Slot.{Slot}
use Rattle.plsql_meaning.specs.Outcomes.{Label, case_not_found}
use Rattle.plsql_meaning.specs.Statements.{class_of}
use Rattle.select_into.specs.Entries.{Target, checks}
use Rattle.block_forms.specs.declared.places.Position.{Position}
use Rattle.block_forms.specs.declared.places.Numbers.{Numbers}
use Rattle.block_forms.specs.Around.{Around, exit_to, again_to}
use Rattle.block_forms.specs.Forms.{Class, Term, Goto}
use Rattle.block_forms.specs.Patterns.{
  Part,
  own,
  shared,
  same,
  source_term,
  null_of,
  branches,
  jumps,
  returns,
  fails,
  node,
  no_of,
  slot_parts,
  leave_parts,
  exit_parts,
  for_parts,
  for_test,
  into_parts,
}

-- ---- how much a statement has

abbrev pub place : ℕ → ℕ → ℕ → ℕ → ℕ → Position
place node expr slot fors targets =
    record { node = node; expr = expr; slot = slot; fors = fors; targets = targets }

abbrev pub after : Position → Position → Position
after p q =
    place (p.node + q.node) (p.expr + q.expr) (p.slot + q.slot) (p.fors + q.fors)
    (p.targets + q.targets)

abbrev pub nothing : Position
nothing = place 0 0 0 0 0

-- a node by itself
abbrev pub a_node : Position
a_node = place 1 0 0 0 0

-- a node with one expression
abbrev pub with_expr : Position
with_expr = place 1 1 0 0 0

abbrev pub one_if : {X : Type 0} → Option X → ℕ
one_if None = 0
one_if (Some _) = 1

-- a declaration is a node and a variable
abbrev pub decl_size : Decl → Position
decl_size d = place 1 (one_if d.default) 1 0 0

abbrev pub decls_size : List Decl → Position
decls_size [] = nothing
decls_size (d ∷ ds) = after (decl_size d) (decls_size ds)

-- of a loop without its body
abbrev pub kind_size : LoopKind → Position
kind_size kind.Plain = a_node
kind_size (kind.While _) = with_expr
kind_size (kind.Count _ _ _ _ by) = place 1 (2 + one_if by) 1 1 0

-- a target is a node, and has a pick
abbrev pub into_size : Bool → List Target → Position
into_size strict targets =
    place (1 + length targets) (checks strict + length targets) 0 0 (length targets)

-- ---- what it asks

-- the form, the function's slots, and where the numbers of the fixed list and of hidden slots begin
pub record Setting : Type 0 where
  pub goto : Goto
  pub slots : List Slot
  pub numbers : Numbers

-- how much a statement has, and its parts by its place, what stands around it and the block that
-- follows
pub record Laid : Type 0 where
  pub size : Position
  pub parts : Setting → Position → Around → ℕ → List Part

pub record LaidArm : Type 0 where
  pub test : Expr
  pub size : Position
  pub body : List Laid

abbrev pub row_size : List Laid → Position
row_size [] = nothing
row_size (x ∷ xs) = after x.size (row_size xs)

abbrev pub arms_size : List LaidArm → Position
arms_size [] = nothing
arms_size (a ∷ rest) = after a.size (arms_size rest)

-- an ELSE is a node
abbrev pub else_size : Option (List Laid) → Position
else_size None = nothing
else_size (Some body) = after a_node (row_size body)

abbrev pub setting_of : Goto → List Slot → Numbers → Setting
setting_of g slots n = record { goto = g; slots = slots; numbers = n }

module _ (s : Setting) where
  -- the first block of so many nodes from node i on, or what follows where there is none
  abbrev pub first_block : ℕ → ℕ → ℕ → ℕ
  first_block zero i next = next
  first_block (suc _) i next = node s.goto i

  abbrev pub row_parts : List Laid → Position → Around → ℕ → List Part
  row_parts [] p around next = []
  row_parts (x ∷ xs) p around next = x.parts s p around
      (first_block (length xs) (p.node + x.size.node) next)
      ++ row_parts xs (after p x.size) around next

  abbrev pub default_term : Option Expr → Ty → ℕ → Term
  default_term None t k = null_of s.numbers.fixed t
  default_term (Some e) t k = source_term k e

  abbrev pub decl_parts : Decl → Position → ℕ → List Part
  decl_parts d p next = slot_parts s.goto s.numbers (slice_get s.slots p.slot) (node s.goto p.node) p.slot (default_term d.default d.ty p.expr) next

  abbrev pub decls_parts : List Decl → Position → ℕ → List Part
  decls_parts [] p next = []
  decls_parts (d ∷ ds) p next = decl_parts d p (first_block (length ds) (p.node + 1) next) ++ decls_parts ds (after p (decl_size d)) next

  -- before names are resolved an assignment has no slot, and does nothing
  abbrev pub assign_parts : Option ℕ → Expr → Position → ℕ → List Part
  assign_parts None e p next = own (node s.goto p.node) (jumps false next) ∷ []
  assign_parts (Some slot) e p next = slot_parts s.goto s.numbers (slice_get s.slots slot) (node s.goto p.node) slot (source_term p.expr e) next

  -- the arms from a block on; each leads to the next one
  abbrev pub arms_parts : List LaidArm → Position → Around → ℕ → ℕ → List Part
  arms_parts [] p around next b = []
  arms_parts (a ∷ rest) p around next b =
      same b (node s.goto p.node)
      ∷ own b (branches false (source_term p.expr a.test) (first_block (length a.body) (p.node + 1) next) (no_of s.goto b))
      ∷ (row_parts a.body (after p with_expr) around next ++ arms_parts rest (after p a.size) around next (no_of s.goto b))

  -- where the last arm leads, the first one beginning at a block
  abbrev pub lack : {X : Type 0} → List X → ℕ → ℕ
  lack [] b = b
  lack (_ ∷ rest) b = lack rest (no_of s.goto b)

  abbrev pub lack_parts : Option Class → ℕ → ℕ → List Part
  lack_parts None b next = same b next ∷ []
  lack_parts (Some c) b next = shared b (fails c) ∷ []

  abbrev pub else_parts : Option (List Laid) → Option Class → Position → Around → ℕ → ℕ → List Part
  else_parts None without p around next b = lack_parts without b next
  else_parts (Some body) without p around next b =
      same b (node s.goto p.node)
      ∷ same b (first_block (length body) (p.node + 1) next)
      ∷ row_parts body (after p a_node) around next

  -- IF, and CASE with the class where no arm is taken
  abbrev pub branch_parts : List LaidArm → Option (List Laid) → Option Class → Position → Around → ℕ → List Part
  branch_parts arms other without p around next =
      arms_parts arms (after p a_node) around next (node s.goto p.node)
      ++ else_parts other without (after p (after a_node (arms_size arms))) around next (lack arms (node s.goto p.node))

  -- where the statements of a block begin
  abbrev pub inside_of : List Decl → Position → Position
  inside_of decls p = after p (after a_node (decls_size decls))

  abbrev pub block_parts : Label → List Decl → List Laid → Position → Around → ℕ → List Part
  block_parts label decls body p around next =
      same (node s.goto p.node) (first_block (length decls) (p.node + 1) (first_block (length body) (inside_of decls p).node next))
      ∷ (decls_parts decls (after p a_node) (first_block (length body) (inside_of decls p).node next)
      ++ row_parts body (inside_of decls p) (record { label = label; exit = next; again = None } ∷ around) next)

  -- the block to which the body of a loop leads
  abbrev pub again_of : LoopKind → Position → ℕ
  again_of kind.Plain p = node s.goto p.node
  again_of (kind.While _) p = node s.goto p.node
  again_of (kind.Count _ reverse _ _ _) p = for_test s.goto s.numbers reverse p.fors

  abbrev pub kind_parts : LoopKind → Position → ℕ → ℕ → List Part
  kind_parts kind.Plain p body next = own (node s.goto p.node) (jumps true body) ∷ []
  kind_parts (kind.While e) p body next = own (node s.goto p.node) (branches true (source_term p.expr e) body next) ∷ []
  kind_parts (kind.Count _ reverse first last by) p body next = for_parts s.goto s.numbers reverse first last by p body next

  abbrev pub loop_parts : Label → LoopKind → List Laid → Position → Around → ℕ → List Part
  loop_parts label k body p around next =
      kind_parts k p (first_block (length body) (p.node + 1) (again_of k p)) next
      ++ row_parts body (after p (kind_size k)) (record { label = label; exit = next; again = Some (again_of k p) } ∷ around) (again_of k p)

abbrev of_statement : Stmt-F Laid LaidArm → Laid
of_statement (st.Block label decls body _) = record {
  size = after (after a_node (decls_size decls)) (row_size body);
  parts = λ s. block_parts s label decls body;
}
of_statement (st.Assign _ slot e) = record { size = with_expr; parts = λ s p around next. assign_parts s slot e p next }
of_statement (st.If arms other) = record {
  size = after (after a_node (arms_size arms)) (else_size other);
  parts = λ s. branch_parts s arms other None;
}
of_statement (st.Cases arms other) = record {
  size = after (after a_node (arms_size arms)) (else_size other);
  parts = λ s. branch_parts s arms other (Some case_not_found);
}
of_statement (st.Loop label k body _) = record {
  size = after (kind_size k) (row_size body);
  parts = λ s. loop_parts s label k body;
}
of_statement (st.Exit label when) = record {
  size = place 1 (one_if when) 0 0 0;
  parts = λ s p around next. exit_parts s.goto s.numbers when p.expr (node s.goto p.node) (exit_to s.goto.finish around label) next;
}
of_statement (st.Continue label when) = record {
  size = place 1 (one_if when) 0 0 0;
  parts = λ s p around next. leave_parts s.goto s.numbers when p.expr (node s.goto p.node) (again_to s.goto.finish around label) next;
}
of_statement (st.Return e) = record {
  size = with_expr;
  parts = λ s p around next. own (node s.goto p.node) (returns (source_term p.expr e)) ∷ [];
}
of_statement (st.Raise r) = record {
  size = a_node;
  parts = λ s p around next. shared (node s.goto p.node) (fails (class_of r)) ∷ [];
}
of_statement (st.Into strict targets query) = record {
  size = into_size strict targets;
  parts = λ s p around next. into_parts s.goto s.numbers s.slots strict targets query p next;
}
of_statement st.Nothing = record {
  size = a_node;
  parts = λ s p around next. own (node s.goto p.node) (jumps false next) ∷ [];
}

abbrev of_arm : Arm-F Laid LaidArm → LaidArm
of_arm a = record { test = a.test; size = after with_expr (row_size a.body); body = a.body }

abbrev pub laying : StatementAlgebra
laying = record { AStmt = Laid; AnArm = LaidArm; stmt = of_statement; arm = of_arm }

unfoldable pub laid : Stmt → Laid
laid x = stmt_of laying x

unfoldable pub laid_arm : Arm → LaidArm
laid_arm x = branch_of laying x

abbrev pub laid_row : List Stmt → List Laid
laid_row xs = map laid xs

abbrev pub laid_arms : List Arm → List LaidArm
laid_arms xs = map laid_arm xs

abbrev pub laid_else : Option (List Stmt) → Option (List Laid)
laid_else other = option_map (λ body. laid_row body) other
