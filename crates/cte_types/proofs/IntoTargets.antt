-- The targets of each SELECT INTO are among the slots that a statement sets.
use Rattle.std.proofs.Common.{ℕ, ◌<◌, List, [], ◌∷◌, ◌++◌, Option, Some, None}
use Rattle.away_trees.specs.declared.statements.Stmt.{Stmt}
use Rattle.away_trees.specs.declared.statements.Stmt.TheBlock as b
use Rattle.away_trees.specs.StatementAlgebra.{stmt_of, stmts_of, branches_of, else_of}
use Rattle.select_into.specs.Entries.{Target}
use Rattle.block_forms.specs.Intos.{Into, selecting, row_intos, else_intos}
use Rattle.block_forms.specs.Targets.{targeting, one_target, row_targets, else_targets, named_targets}
use Rattle.type_soundness.specs.Sorts.{Every}
use Rattle.type_soundness.proofs.Lists.{every_append, every_left, every_right}

module _ (n : ℕ) where
  abbrev pub SlotBelow : Option ℕ → Type 0
  SlotBelow None = Unit {0}
  SlotBelow (Some x) = x < n

  abbrev pub IntoBelow : Into → Type 0
  IntoBelow i = Every (λ (t : Target). SlotBelow t.1) i.targets

  abbrev Below : List ℕ → Type 0
  Below = Every (λ x. x < n)

  slot_below : (o : Option ℕ) (rest : List ℕ) → Below (one_target o ++ rest) → SlotBelow o × Below rest
  slot_below None rest h = (tt, h)
  slot_below (Some x) rest h = (h.0, h.1)

  named_below : (ts : List Target) → Below (named_targets ts) → Every (λ (t : Target). SlotBelow t.1) ts
  named_below [] h = tt
  named_below (t ∷ ts) h = let both = slot_below t.1 (named_targets ts) h in (both.0, named_below ts both.1)

  in_order : (xs ys : List ℕ) (is js : List Into) → (Below xs → Every IntoBelow is) → (Below ys → Every IntoBelow js) → Below (xs ++ ys) → Every IntoBelow (is ++ js)
  in_order xs ys is js f g h = every_append IntoBelow is js (f (every_left (λ x. x < n) xs ys h)) (g (every_right (λ x. x < n) xs ys h))

  mutual
    pub stmt_below : (x : Stmt) → Below (stmt_of targeting x) → Every IntoBelow (stmt_of selecting x)
    stmt_below (b.Block' label decls m body closing) h = row_below body h
    stmt_below (b.Assign name slot e) h = tt
    stmt_below (b.If' m arms other) h =
        in_order (row_targets (branches_of targeting arms)) (else_targets (else_of targeting other)) (row_intos (branches_of selecting arms))
        (else_intos (else_of selecting other)) (λ h. arms_below arms h) (λ h. else_below other h) h
    stmt_below (b.Cases' m arms other) h =
        in_order (row_targets (branches_of targeting arms)) (else_targets (else_of targeting other)) (row_intos (branches_of selecting arms))
        (else_intos (else_of selecting other)) (λ h. arms_below arms h) (λ h. else_below other h) h
    stmt_below (b.Loop' label kind m body closing) h = row_below body h
    stmt_below (b.Exit label when) h = tt
    stmt_below (b.Continue label when) h = tt
    stmt_below (b.Return e) h = tt
    stmt_below (b.Raise raised) h = tt
    stmt_below (b.Into strict targets query) h = (named_below targets h, tt)
    stmt_below b.Nothing h = tt

    row_below : {m : _} (r : b.Row_of-Stmt m) → Below (row_targets (stmts_of targeting r)) → Every IntoBelow (row_intos (stmts_of selecting r))
    row_below b.end_of-Stmt h = tt
    row_below (b.more_of-Stmt x rest) h =
        in_order (stmt_of targeting x) (row_targets (stmts_of targeting rest)) (stmt_of selecting x) (row_intos (stmts_of selecting rest)) (λ h. stmt_below x h)
        (λ h. row_below rest h) h

    arms_below : {m : _} (r : b.Row_of-Arm m) → Below (row_targets (branches_of targeting r)) → Every IntoBelow (row_intos (branches_of selecting r))
    arms_below b.end_of-Arm h = tt
    arms_below (b.more_of-Arm test m body rest) h =
        in_order (row_targets (stmts_of targeting body)) (row_targets (branches_of targeting rest)) (row_intos (stmts_of selecting body))
        (row_intos (branches_of selecting rest)) (λ h. row_below body h) (λ h. arms_below rest h) h

    else_below : (r : b.Held-Stmt-If-1) → Below (else_targets (else_of targeting r)) → Every IntoBelow (else_intos (else_of selecting r))
    else_below b.None' h = tt
    else_below (b.Some' m body) h = row_below body h
