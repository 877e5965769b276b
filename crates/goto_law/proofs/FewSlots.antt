-- A function has at most four slots for each of its nodes.
use Rattle.std.proofs.Common.{ℕ, ◌+◌, ◌*◌, ◌≤◌, List, [], ◌∷◌, length, arith}
use Rattle.std.specs.Prelude.{sum}
use Rattle.away_trees.specs.declared.statements.Decl.{Decl}
use Rattle.away_trees.specs.declared.statements.Function.{Function}
use Rattle.away_trees.specs.declared.statements.LoopKind.{LoopKind}
use Rattle.away_trees.specs.declared.statements.LoopKind.TheVariants as kind
use Rattle.away_trees.specs.declared.statements.Stmt.{Stmt}
use Rattle.away_trees.specs.declared.statements.Stmt.TheBlock as b
use Rattle.away_trees.specs.Count.{counting, nodes, nodes_of}
use Rattle.away_trees.specs.StatementAlgebra.{stmt_of, stmts_of, branches_of}
use Rattle.away_types.specs.declared.slots.Slot.{Slot}
use Rattle.block_forms.specs.declared.places.Position.{Position}
use Rattle.block_forms.specs.Laid.{laying, laid, decls_size, kind_size, row_size, arms_size}
use Rattle.block_forms.specs.OwnSlots.{OwnSlots}
use Rattle.block_forms.proofs.SlotCounts.{own_slots_counted}
use Rattle.goto_law.proofs.Sums.{sum_cons}

-- variables, three hidden slots for each FOR, and one for each target of an INTO
abbrev slots_in : Position → ℕ
slots_in p = p.slot + 3 * p.fors + p.targets

few_decls : (ds : List Decl) → slots_in (decls_size ds) ≤ 4 * length ds
few_decls [] = omega arith
few_decls (d ∷ ds) = omega (arith, few_decls ds)

few_kind : (k : LoopKind) → slots_in (kind_size k) ≤ 4
few_kind kind.Plain = omega arith
few_kind (kind.While e) = omega arith
few_kind (kind.Count var reverse first last by) = omega arith

mutual
  few : (x : Stmt) → slots_in (stmt_of laying x).size ≤ 4 * stmt_of counting x
  few (b.Block' label decls m body closing) = omega (arith, few_decls decls, few_row body)
  few (b.Assign name slot e) = omega arith
  few (b.If' m arms b.None') = omega (arith, few_arms arms)
  few (b.If' m arms (b.Some' k body)) = omega (arith, few_arms arms, few_row body)
  few (b.Cases' m arms b.None') = omega (arith, few_arms arms)
  few (b.Cases' m arms (b.Some' k body)) = omega (arith, few_arms arms, few_row body)
  few (b.Loop' label k m body closing) = omega (arith, few_kind k, few_row body)
  few (b.Exit label when) = omega arith
  few (b.Continue label when) = omega arith
  few (b.Return e) = omega arith
  few (b.Raise r) = omega arith
  few (b.Into strict targets query) = omega arith
  few b.Nothing = omega arith

  few_row : {m : _} → (r : b.Row_of-Stmt m) → slots_in (row_size (stmts_of laying r)) ≤ 4 * sum (stmts_of counting r)
  few_row b.end_of-Stmt = omega arith
  few_row (b.more_of-Stmt x rest) = omega (arith, few x, few_row rest, sum_cons (stmt_of counting x) (stmts_of counting rest))

  few_arms : {m : _} → (r : b.Row_of-Arm m) → slots_in (arms_size (branches_of laying r)) ≤ 4 * sum (branches_of counting r)
  few_arms b.end_of-Arm = omega arith
  few_arms (b.more_of-Arm test m body rest) = omega (arith, few_row body, few_arms rest, sum_cons (1 + sum (stmts_of counting body)) (branches_of counting rest))

body_few : (x : Stmt) → slots_in (laid x).size ≤ 4 * nodes_of x
unfolding laid nodes_of
body_few x = few x

pub few_slots : (f : Function) (slots : List Slot) → OwnSlots f slots → length slots ≤ 4 * nodes f
unfolding nodes
few_slots f slots h = omega (arith, own_slots_counted f slots h.slots_are, body_few f.body)
