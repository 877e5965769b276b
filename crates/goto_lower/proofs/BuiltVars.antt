-- The variables that are built for a statement are those that it declares.
use Rattle.std.proofs.Common.{◌≡◌, ℕ, List, [], ◌∷◌, ◌++◌, map, Option, Some, None, refl, ap}
use Rattle.away_trees.specs.declared.statements.LoopKind.TheVariants as kind
use Rattle.away_trees.specs.declared.statements.Stmt.{Stmt}
use Rattle.away_trees.specs.declared.statements.Stmt.TheBlock as b
use Rattle.away_trees.specs.StatementAlgebra.{stmt_of, stmts_of, branches_of}
use Rattle.away_types.specs.declared.slots.Slot.{Slot}
use Rattle.away_values.specs.declared.types.Ty.TheVariants as ty
use Rattle.block_forms.specs.declared.places.Numbers.{Numbers}
use Rattle.block_forms.specs.Slots.{declaring, joined, slot, slot_of}
use Rattle.goto_lower.specs.Building.{building, row_vars, arms_vars}

module _ (n : Numbers) (slots : List Slot) (finish : ℕ) where
  mutual
    pub vars_same : (x : Stmt) → (stmt_of (building n slots finish) x).vars ≡ stmt_of declaring x
    vars_same (b.Block' label decls m body closing) = ap (λ xs. map slot_of decls ++ xs) (row_same body)
    vars_same (b.Assign name None e) = refl
    vars_same (b.Assign name (Some slot) e) = refl
    vars_same (b.If' m arms b.None') = ap (λ xs. xs ++ []) (arms_same arms)
    vars_same (b.If' m arms (b.Some' k body)) = λ i. arms_same arms i ++ row_same body i
    vars_same (b.Cases' m arms b.None') = ap (λ xs. xs ++ []) (arms_same arms)
    vars_same (b.Cases' m arms (b.Some' k body)) = λ i. arms_same arms i ++ row_same body i
    vars_same (b.Loop' label kind.Plain m body closing) = row_same body
    vars_same (b.Loop' label (kind.While e) m body closing) = row_same body
    vars_same (b.Loop' label (kind.Count var reverse e1 e2 by) m body closing) = ap (λ xs. slot ty.Integer ∷ xs) (row_same body)
    vars_same (b.Exit label when) = refl
    vars_same (b.Continue label when) = refl
    vars_same (b.Return e) = refl
    vars_same (b.Raise r) = refl
    vars_same (b.Into strict targets query) = refl
    vars_same b.Nothing = refl

    row_same : {m : _} → (r : b.Row_of-Stmt m) → row_vars (stmts_of (building n slots finish) r) ≡ joined (stmts_of declaring r)
    row_same b.end_of-Stmt = refl
    row_same (b.more_of-Stmt x rest) = λ i. vars_same x i ++ row_same rest i

    arms_same : {m : _} → (r : b.Row_of-Arm m) → arms_vars (branches_of (building n slots finish) r) ≡ joined (branches_of declaring r)
    arms_same b.end_of-Arm = refl
    arms_same (b.more_of-Arm test m body rest) = λ i. row_same body i ++ arms_same rest i
