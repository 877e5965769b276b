-- The passes over statements, by name, and over lists of them, for the contracts of loops.
use Rattle.std.specs.Prelude.{List, fold, Option, Some, None}
use Rattle.away_trees.specs.declared.statements.Arm.{Arm}
use Rattle.away_trees.specs.declared.statements.Stmt.{Stmt}
use Rattle.away_trees.specs.StatementAlgebra.{stmt_of, branch_of}
use Rattle.away_types.specs.declared.resolved.Resolved.{Resolved}
use Rattle.away_types.specs.declared.slots.Slots.{Slots}
use Rattle.away_types.specs.declared.around.Spot.{Spot as Here}
use Rattle.away_names.specs.Places.{scope}
use Rattle.away_names.specs.Notes.{clean}
use Rattle.away_types.specs.Findings.{own, nothing, followed}
use Rattle.away_types.specs.Statements.{Spot, resolving, with_resolved, none_resolved}

abbrev pub spot : Here → Spot
spot s = record { scope = scope s.scope; around = s.around.now }

unfoldable pub resolved_stmt : Spot → Slots → Stmt → Resolved Stmt
resolved_stmt spot slots x = stmt_of resolving x spot slots

unfoldable pub resolved_arm : Spot → Slots → Arm → Resolved Arm
resolved_arm spot slots x = branch_of resolving x spot slots

abbrev pub resolved_body : Spot → Slots → List Stmt → Resolved (List Stmt)
resolved_body spot slots = fold (λ a x. with_resolved a (resolved_stmt spot a.slots x)) (none_resolved slots)

abbrev pub resolved_arms : Spot → Slots → List Arm → Resolved (List Arm)
resolved_arms spot slots = fold (λ a x. with_resolved a (resolved_arm spot a.slots x)) (none_resolved slots)

abbrev pub resolved_other : Spot → Slots → Option (List Stmt) → Resolved (Option (List Stmt))
resolved_other spot slots None = record { it = None; note = nothing; slots = slots }
resolved_other spot slots (Some body) = let x = resolved_body spot slots body
    in record { it = Some x.it; note = followed (own 1 clean) x.note; slots = x.slots }
