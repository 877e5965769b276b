-- A checked function has as many nodes as the written one, and so keeps their limit.
use Rattle.std.proofs.Common.{◌≡◌, refl, ap, ℕ, ◌+◌, ◌≤◌, true, false, List, [], ◌∷◌, map, fold, length, Option, Some, None, arith, length-append}
use Rattle.std.specs.Prelude.{sum}
use Rattle.away_trees.specs.declared.queries.Expr.{Expr}
use Rattle.away_trees.specs.declared.schemas.Schema.{Schema}
use Rattle.away_trees.specs.declared.statements.Arm.{Arm}
use Rattle.away_trees.specs.declared.statements.Decl.{Decl}
use Rattle.away_trees.specs.declared.statements.Function.{Function}
use Rattle.away_trees.specs.declared.statements.Stmt.{Stmt}
use Rattle.away_trees.specs.declared.statements.Stmt.TheBlock as b
use Rattle.away_trees.specs.Count.{counting, nodes, nodes_of}
use Rattle.away_trees.specs.Limits.{most_nodes}
use Rattle.away_trees.specs.StatementAlgebra.{stmt_of, stmts_of, branches_of, branch_of}
use Rattle.away_trees.proofs.StatementEquations as eq
use Rattle.away_names.specs.declared.note.Noted.{Noted}
use Rattle.away_names.specs.declared.scope.Variable.{Variable}
use Rattle.away_names.specs.Lookups.{Name, Scope, variable_named}
use Rattle.away_names.specs.Notes.{pure, added}
use Rattle.away_names.specs.Trees.{named_expr}
use Rattle.select_into.specs.Entries.{Target}
use Rattle.away_types.specs.declared.resolved.Declared.{Declared}
use Rattle.away_types.specs.declared.resolved.Resolved.{Resolved}
use Rattle.away_types.specs.declared.slots.Slot.{Slot}
use Rattle.away_types.specs.declared.slots.Slots.{Slots}
use Rattle.away_types.specs.CheckedFunctions.{IsCheckedOfSome}
use Rattle.away_types.specs.FunctionChecks.{start, entry, around_in, body_of, resolved_function, slots_of}
use Rattle.away_types.specs.ResolvedBodies.{resolved_stmt}
use Rattle.away_types.specs.Statements as n
use Rattle.away_types.specs.Statements.{Spot, By, resolving, with_declared, with_resolved, none_resolved, none_declared, each_resolved, declared_all, assigned, headed, within}
use Rattle.elaboration_law.proofs.StatementsKept.{nodes_kept}
use Rattle.goto_law.proofs.Sums.{sum_cons, sum_push}

abbrev of_stmt : Stmt → ℕ
of_stmt x = stmt_of counting x

abbrev of_arm : Arm → ℕ
of_arm x = branch_of counting x

-- ---- pieces

declared_many : (scope : Scope) (ds : List Decl) (a : Declared) → length (fold (with_declared scope) a ds).it ≡ length a.it + length ds
declared_many scope [] a = omega arith
declared_many scope (d ∷ ds) a =
    omega (arith, declared_many scope ds (with_declared scope a d), length-append a.it ((n.declared d (n.seeing a.variables scope)).it ∷ []))

targets_many : (scope : Scope) (ts : List Target) (a : Noted (List Target))
    → length (fold (λ a (t : Target). added a (n.target scope t.0)) a ts).it ≡ length a.it + length ts
targets_many scope [] a = omega arith
targets_many scope (t ∷ ts) a =
    omega (arith, targets_many scope ts (added a (n.target scope t.0)), length-append a.it ((n.target scope t.0).it ∷ []))

assigned_one : (name : Name) (v : Option Variable) (e : Noted Expr) → of_stmt (assigned name v e).it ≡ 1
unfolding assigned
assigned_one name None e = refl
assigned_one name (Some v) e = refl

mutual
  kept : (x : Stmt) (spot : Spot) (slots : Slots) → of_stmt (stmt_of resolving x spot slots).it ≡ of_stmt x
  kept (b.Block' label decls m body closing) spot slots =
      let ds = declared_all decls spot.scope slots in
      let inner = within label false ds.variables spot in
      let xs = each_resolved (stmts_of resolving body) inner ds.slots in
      omega (arith, eq.of_block counting label ds.it xs.it closing, declared_many spot.scope decls (none_declared spot.scope slots), row_kept body inner (none_resolved ds.slots))
  kept (b.Assign name slot e) spot slots = assigned_one name (variable_named name spot.scope.variables) (named_expr e spot.scope)
  kept (b.If' m arms b.None') spot slots =
      let xs = each_resolved (branches_of resolving arms) spot slots in
      omega (arith, eq.of_if counting xs.it None, arms_kept arms spot (none_resolved slots))
  kept (b.If' m arms (b.Some' k body)) spot slots =
      let xs = each_resolved (branches_of resolving arms) spot slots in
      let ys = each_resolved (stmts_of resolving body) spot xs.slots in
      omega (arith, eq.of_if counting xs.it (Some ys.it), arms_kept arms spot (none_resolved slots), row_kept body spot (none_resolved xs.slots))
  kept (b.Cases' m arms b.None') spot slots =
      let xs = each_resolved (branches_of resolving arms) spot slots in
      omega (arith, eq.of_cases counting xs.it None, arms_kept arms spot (none_resolved slots))
  kept (b.Cases' m arms (b.Some' k body)) spot slots =
      let xs = each_resolved (branches_of resolving arms) spot slots in
      let ys = each_resolved (stmts_of resolving body) spot xs.slots in
      omega (arith, eq.of_cases counting xs.it (Some ys.it), arms_kept arms spot (none_resolved slots), row_kept body spot (none_resolved xs.slots))
  kept (b.Loop' label k m body closing) spot slots =
      let head = headed k spot.scope slots in
      let inner = within label true head.variables spot in
      let xs = each_resolved (stmts_of resolving body) inner head.slots in
      omega (arith, eq.of_loop counting label head.it xs.it closing, row_kept body inner (none_resolved head.slots))
  kept (b.Exit label when) spot slots = refl
  kept (b.Continue label when) spot slots = refl
  kept (b.Return e) spot slots = refl
  kept (b.Raise r) spot slots = refl
  kept (b.Into strict targets query) spot slots = omega (arith, targets_many spot.scope targets (pure []))
  kept b.Nothing spot slots = refl

  row_kept : {m : _} → (r : b.Row_of-Stmt m) → (spot : Spot) (a : Resolved (List Stmt)) → sum (map of_stmt (fold (λ a f. with_resolved a (f spot a.slots)) a (stmts_of resolving r)).it) ≡ sum (map of_stmt a.it) + sum (stmts_of counting r)
  row_kept b.end_of-Stmt spot a = omega arith
  row_kept (b.more_of-Stmt x rest) spot a =
      let y = stmt_of resolving x spot a.slots in
      omega (arith, row_kept rest spot (with_resolved a y), sum_push of_stmt a.it y.it, kept x spot a.slots, sum_cons (of_stmt x) (stmts_of counting rest))

  arms_kept : {m : _} → (r : b.Row_of-Arm m) → (spot : Spot) (a : Resolved (List Arm)) → sum (map of_arm (fold (λ a f. with_resolved a (f spot a.slots)) a (branches_of resolving r)).it) ≡ sum (map of_arm a.it) + sum (branches_of counting r)
  arms_kept b.end_of-Arm spot a = omega arith
  arms_kept (b.more_of-Arm test m body rest) spot a =
      let y = n.arm (record { test = test; body = stmts_of resolving body }) spot a.slots in
      omega (arith, arms_kept rest spot (with_resolved a y), sum_push of_arm a.it y.it, row_kept body spot (none_resolved a.slots), sum_cons (1 + sum (stmts_of counting body)) (branches_of counting rest))

-- ---- the whole

body_kept : (s : Schema) (f : Function) → nodes_of (body_of s f).it ≡ nodes_of f.body
unfolding nodes_of resolved_stmt
body_kept s f = kept f.body (entry s f.params) (start f.params).slots

function_kept : (s : Schema) (f : Function) → nodes (resolved_function s f) ≡ nodes f
unfolding nodes
function_kept s f = omega (arith, nodes_kept (around_in s (slots_of s f) f.result) (body_of s f).it, body_kept s f)

pub few_nodes : (f : Function) (slots : List Slot) → IsCheckedOfSome f slots → nodes f ≤ most_nodes
few_nodes f slots h = omega (arith, ap nodes h.checked_is.function, function_kept h.schema h.written, h.limits.few_nodes)
