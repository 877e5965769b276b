-- A statement has at most fifteen parts with a block for each of its nodes, and a function sixteen for each node and two more.
use Rattle.std.proofs.Common.{ℕ, ◌+◌, ◌*◌, ◌≤◌, Bool, true, false, List, [], ◌∷◌, ◌++◌, length, Option, Some, None, arith}
use Rattle.std.specs.Prelude.{slice_get, sum}
use Rattle.away_values.specs.declared.types.Ty.{Ty}
use Rattle.away_trees.specs.declared.queries.Expr.{Expr}
use Rattle.away_trees.specs.declared.queries.Select.{Select}
use Rattle.away_trees.specs.declared.statements.Decl.{Decl}
use Rattle.away_trees.specs.declared.statements.Function.{Function}
use Rattle.away_trees.specs.declared.statements.LoopKind.{LoopKind}
use Rattle.away_trees.specs.declared.statements.LoopKind.TheVariants as kind
use Rattle.away_trees.specs.declared.statements.Stmt.{Stmt}
use Rattle.away_trees.specs.declared.statements.Stmt.TheBlock as b
use Rattle.away_trees.specs.Count.{counting, nodes, nodes_of, weight}
use Rattle.away_trees.specs.StatementAlgebra.{stmt_of, stmts_of, branches_of}
use Rattle.away_types.specs.declared.slots.Slot.{Slot}
use Rattle.plsql_meaning.specs.Outcomes.{case_not_found}
use Rattle.select_into.specs.Entries.{Target, checks}
use Rattle.block_forms.specs.declared.forms.Goto.{Goto}
use Rattle.block_forms.specs.declared.forms.Term.{Term}
use Rattle.block_forms.specs.declared.places.Numbers.{Numbers}
use Rattle.block_forms.specs.declared.places.Position.{Position}
use Rattle.block_forms.specs.Around.{Around, exit_to, again_to}
use Rattle.block_forms.specs.Laid.{Setting, laying, laid, after, a_node, with_expr, decl_size, kind_size, row_size, arms_size, first_block, row_parts, decl_parts, decls_parts, default_term, arms_parts, lack, else_parts, kind_parts, again_of, inside_of}
use Rattle.block_forms.specs.Lowered.{Lowered, setting, all_parts, param_parts, params_parts, body_place}
use Rattle.block_forms.specs.Patterns.{node, no_of, copy, set_parts, slot_parts, leave_parts, exit_parts, source_term, onward, check_parts, pick_parts, put_part, after_put, put_parts, puts_of, into_parts}
use Rattle.goto_law.proofs.Filled.{filled, filled_append, as_many}
use Rattle.block_forms.proofs.Exits.{exit_either}
use Rattle.goto_law.proofs.Sums.{sum_cons}

module _ (g : Goto) (n : Numbers) where
  few_set : (not_null : Bool) (t : Ty) (b slot : ℕ) (e : Term) (next : ℕ) → filled (set_parts g n not_null t b slot e next) ≤ 3
  few_set false t b slot e next = omega arith
  few_set true t b slot e next = omega arith

  few_slot : (o : Option Slot) (b slot : ℕ) (e : Term) (next : ℕ) → filled (slot_parts g n o b slot e next) ≤ 3
  few_slot None b slot e next = omega arith
  few_slot (Some s) b slot e next = few_set s.not_null s.ty b slot e next

  few_leave : (when : Option Expr) (k b to next : ℕ) → filled (leave_parts g n when k b to next) ≤ 1
  few_leave None k b to next = omega arith
  few_leave (Some e) k b to next = omega arith

  few_exit : (when : Option Expr) (k b to next : ℕ) → filled (exit_parts g n when k b to next) ≤ 1
  few_exit when k b to next = exit_either g n when k b to next (λ ps. filled ps ≤ 1) (omega arith) (few_leave when k b to next)

  -- ---- SELECT INTO: four blocks for its tests, one for each pick, and three at most to set a target

  few_checks : (strict : Bool) (b k : ℕ) (q : Select) (first : ℕ) → filled (check_parts g n strict b k q first) ≤ 4
  few_checks false b k q first = omega arith
  few_checks true b k q first = omega arith

  few_picks : (ts : List Target) (i k hidden : ℕ) (q : Select) (puts : ℕ) → filled (pick_parts g n ts i k hidden q puts) ≤ length ts
  few_picks [] i k hidden q puts = omega arith
  few_picks (t ∷ ts) i k hidden q puts = omega (arith, few_picks ts (i + 1) (k + 1) (hidden + 1) q puts)

  few_put : (slots : List Slot) (o : Option ℕ) (b hidden next : ℕ) → filled (put_part g n slots o b hidden next) ≤ 3
  few_put slots None b hidden next = omega arith
  few_put slots (Some slot) b hidden next = few_slot (slice_get slots slot) b slot (copy n.fixed hidden) next

  few_puts : (slots : List Slot) (ts : List Target) (b hidden next : ℕ) → filled (put_parts g n slots ts b hidden next) ≤ 3 * length ts
  few_puts slots [] b hidden next = omega arith
  few_puts slots (t ∷ ts) b hidden next =
      let after_it = after_put g n slots t.1 b in
      let to = onward ts after_it next in
      omega (arith, filled_append (put_part g n slots t.1 b hidden to) (put_parts g n slots ts after_it (hidden + 1) next), few_put slots t.1 b hidden to, few_puts slots ts after_it (hidden + 1) next)

  few_into : (slots : List Slot) (strict : Bool) (ts : List Target) (q : Select) (p : Position) (next : ℕ)
      → filled (into_parts g n slots strict ts q p next) ≤ 15 * (1 + length ts)
  few_into slots strict ts q p next =
      let first = onward ts (node g (p.node + 1)) next in
      let hidden = n.targets + p.targets in
      let put = puts_of g n ts p.node in
      let tests = check_parts g n strict (node g p.node) p.expr q first in
      let picks = pick_parts g n ts (p.node + 1) (p.expr + checks strict) hidden q put in
      let puts = put_parts g n slots ts put hidden next in
      omega (arith, filled_append tests (picks ++ puts), filled_append picks puts, few_checks strict (node g p.node) p.expr q first, few_picks ts (p.node + 1) (p.expr + checks strict) hidden q put, few_puts slots ts put hidden next)

module _ (s : Setting) where
  few_decls : (ds : List Decl) (p : Position) (next : ℕ) → filled (decls_parts s ds p next) ≤ 3 * length ds
  few_decls [] p next = omega arith
  few_decls (d ∷ ds) p next =
      let here = first_block s (length ds) (p.node + 1) next in
      omega (arith, filled_append (decl_parts s d p here) (decls_parts s ds (after p (decl_size d)) next), few_slot s.goto s.numbers (slice_get s.slots p.slot) (node s.goto p.node) p.slot (default_term s d.default d.ty p.expr) here, few_decls ds (after p (decl_size d)) next)

  few_kind : (k : LoopKind) (p : Position) (body next : ℕ) → filled (kind_parts s k p body next) ≤ 15
  few_kind kind.Plain p body next = omega arith
  few_kind (kind.While e) p body next = omega arith
  few_kind (kind.Count var reverse first last None) p body next = omega arith
  few_kind (kind.Count var reverse first last (Some e)) p body next = omega arith

  mutual
    few : (x : Stmt) (p : Position) (around : Around) (next : ℕ) → filled ((stmt_of laying x).parts s p around next) ≤ 15 * stmt_of counting x
    few (b.Block' label decls m body closing) p around next =
        let xs = stmts_of laying body in
        let inside = inside_of s decls p in
        let start = first_block s (length xs) inside.node next in
        let outer = record { label = label; exit = next; again = None } ∷ around in
        omega (arith, filled_append (decls_parts s decls (after p a_node) start) (row_parts s xs inside outer next), few_decls decls (after p a_node) start, few_row body inside outer next)
    few (b.Assign name None e) p around next = omega arith
    few (b.Assign name (Some slot) e) p around next =
        omega (arith, few_slot s.goto s.numbers (slice_get s.slots slot) (node s.goto p.node) slot (source_term p.expr e) next)
    few (b.If' m arms b.None') p around next =
        let xs = branches_of laying arms in
        let first = node s.goto p.node in
        omega (arith, filled_append (arms_parts s xs (after p a_node) around next first) (else_parts s None None (after p (after a_node (arms_size xs))) around next (lack s xs first)), few_arms arms (after p a_node) around next first)
    few (b.If' m arms (b.Some' k body)) p around next =
        let xs = branches_of laying arms in
        let ys = stmts_of laying body in
        let first = node s.goto p.node in
        let then_ = after p (after a_node (arms_size xs)) in
        omega (arith, filled_append (arms_parts s xs (after p a_node) around next first) (else_parts s (Some ys) None then_ around next (lack s xs first)), few_arms arms (after p a_node) around next first, few_row body (after then_ a_node) around next)
    few (b.Cases' m arms b.None') p around next =
        let xs = branches_of laying arms in
        let first = node s.goto p.node in
        omega (arith, filled_append (arms_parts s xs (after p a_node) around next first) (else_parts s None (Some case_not_found) (after p (after a_node (arms_size xs))) around next (lack s xs first)), few_arms arms (after p a_node) around next first)
    few (b.Cases' m arms (b.Some' k body)) p around next =
        let xs = branches_of laying arms in
        let ys = stmts_of laying body in
        let first = node s.goto p.node in
        let then_ = after p (after a_node (arms_size xs)) in
        omega (arith, filled_append (arms_parts s xs (after p a_node) around next first) (else_parts s (Some ys) (Some case_not_found) then_ around next (lack s xs first)), few_arms arms (after p a_node) around next first, few_row body (after then_ a_node) around next)
    few (b.Loop' label k m body closing) p around next =
        let xs = stmts_of laying body in
        let again = again_of s k p in
        let start = first_block s (length xs) (p.node + 1) again in
        let inner = after p (kind_size k) in
        let outer = record { label = label; exit = next; again = Some again } ∷ around in
        omega (arith, filled_append (kind_parts s k p start next) (row_parts s xs inner outer again), few_kind k p start next, few_row body inner outer again)
    few (b.Exit label when) p around next = omega (arith, few_exit s.goto s.numbers when p.expr (node s.goto p.node) (exit_to s.goto.finish around label) next)
    few (b.Continue label when) p around next = omega (arith, few_leave s.goto s.numbers when p.expr (node s.goto p.node) (again_to s.goto.finish around label) next)
    few (b.Return e) p around next = omega arith
    few (b.Raise r) p around next = omega arith
    few (b.Into strict targets query) p around next = few_into s.goto s.numbers s.slots strict targets query p next
    few b.Nothing p around next = omega arith

    few_row : {m : _} → (r : b.Row_of-Stmt m) → (p : Position) (around : Around) (next : ℕ) → filled (row_parts s (stmts_of laying r) p around next) ≤ 15 * sum (stmts_of counting r)
    few_row b.end_of-Stmt p around next = omega arith
    few_row (b.more_of-Stmt x rest) p around next =
        let y = stmt_of laying x in
        let ys = stmts_of laying rest in
        let middle = first_block s (length ys) (p.node + y.size.node) next in
        omega (arith, filled_append (y.parts s p around middle) (row_parts s ys (after p y.size) around next), few x p around middle, few_row rest (after p y.size) around next, sum_cons (stmt_of counting x) (stmts_of counting rest))

    few_arms : {m : _} → (r : b.Row_of-Arm m) → (p : Position) (around : Around) (next b : ℕ) → filled (arms_parts s (branches_of laying r) p around next b) ≤ 15 * sum (branches_of counting r)
    few_arms b.end_of-Arm p around next b = omega arith
    few_arms (b.more_of-Arm test m body rest) p around next b =
        let ys = stmts_of laying body in
        let zs = branches_of laying rest in
        let inside = after p with_expr in
        let behind = after p (after with_expr (row_size ys)) in
        omega (arith, filled_append (row_parts s ys inside around next) (arms_parts s zs behind around next (no_of s.goto b)), few_row body inside around next, few_arms rest behind around next (no_of s.goto b), sum_cons (1 + sum (stmts_of counting body)) (branches_of counting rest))

  few_param : (strict : Bool) (result : Ty) (k : ℕ) (t : Ty) → filled (param_parts s strict result k t) ≤ 2
  few_param false result k t = omega arith
  few_param true result k t = omega arith

  few_params : (strict : Bool) (result : Ty) (k : ℕ) (ps : List (List ℕ × Ty)) → filled (params_parts s strict result k ps) ≤ 2 * length ps
  few_params strict result k [] = omega arith
  few_params strict result k (p ∷ ps) =
      omega (arith, filled_append (param_parts s strict result k p.1) (params_parts s strict result (k + 1) ps), few_param strict result k p.1, few_params strict result (k + 1) ps)

-- ---- the whole

body_few : (s : Setting) (f : Function) → filled ((laid f.body).parts s (body_place f) [] s.goto.finish) ≤ 15 * nodes_of f.body
unfolding laid nodes_of
body_few s f = few s f.body (body_place f) [] s.goto.finish

few_parts : (f : Function) (slots : List Slot) (g : Goto) → filled (all_parts f slots g) ≤ weight f
unfolding weight nodes
few_parts f slots g =
    let s = setting f slots g in
    omega (arith, filled_append (params_parts s f.strict f.result 0 f.params) ((laid f.body).parts s (body_place f) [] g.finish), few_params s f.strict f.result 0 f.params, body_few s f)

pub few_blocks : (f : Function) (slots : List Slot) (g : Goto) → Lowered f slots g → length g.blocks ≤ weight f
few_blocks f slots g h = omega (arith, as_many (length g.blocks) (all_parts f slots g) h.each_once.covered, few_parts f slots g)
