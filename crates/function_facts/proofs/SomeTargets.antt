-- In a function that breaks no rule of types each SELECT INTO has a target.
use Rattle.std.proofs.Common.{◌<◌, List, [], ◌∷◌, ◌++◌, fold, length, arith}
use Rattle.away_values.specs.declared.types.Ty.TheVariants.{Boolean}
use Rattle.away_trees.specs.declared.queries.Select.{Select}
use Rattle.away_trees.specs.declared.statements.Stmt.{Stmt}
use Rattle.away_trees.specs.declared.statements.Stmt.TheBlock as b
use Rattle.away_trees.specs.StatementAlgebra.{stmt_of, stmts_of, branches_of, else_of}
use Rattle.away_names.specs.declared.rule.Rule.TheVariants as rule
use Rattle.away_names.specs.Notes.{clean, breaks}
use Rattle.away_types.specs.declared.finding.Report.{Report}
use Rattle.away_types.specs.Findings.{own, nothing, followed, branched}
use Rattle.away_types.specs.StatementTypes as checks
use Rattle.away_types.specs.StatementTypes.{Asked, asked, head_asked, asked_stmt, asked_of_targets, takes_list}
use Rattle.select_into.specs.Entries.{Target}
use Rattle.block_forms.specs.Intos.{Into, selecting, row_intos, else_intos}
use Rattle.type_soundness.specs.Sorts.{Every}
use Rattle.away_types.proofs.ClearReports.{Clear, clear_own, clear_parts, clear_within, clear_branches}
use Rattle.type_soundness.proofs.CleanNotes.{Clean, clean_parts, not_broken}
use Rattle.type_soundness.proofs.Lists.{every_append}

abbrev pub HasTarget : Into → Type 0
HasTarget i = 0 < length i.targets

abbrev AllHave : List Into → Type 0
AllHave = Every HasTarget

module _ (a : Asked) where
  targets_some : (ts : List Target) (q : Select) → Clean (asked_of_targets a ts q) → 0 < length ts
  unfolding asked_of_targets takes_list
  targets_some [] q c = absurd (not_broken rule.Types (clean_parts (breaks rule.Types _) _ c).0)
  targets_some (t ∷ ts) q c = omega arith

  both_some : (m n : Report) (xs ys : List Into) → (Clear m → AllHave xs) → (Clear n → AllHave ys) → Clear (branched m n) → AllHave (xs ++ ys)
  both_some m n xs ys h k c = let both = clear_branches m n c in every_append HasTarget xs ys (h both.0) (k both.1)

  mutual
    stmt_some : (x : Stmt) → Clear (stmt_of checks.asking x a) → AllHave (stmt_of selecting x)
    stmt_some (b.Block' label decls n body closing) c =
        (stmts_some body nothing (clear_within _ (checks.defaults decls a) (checks.all_by (stmts_of checks.asking body) a) c).1).1
    stmt_some (b.Assign name slot e) c = tt
    stmt_some (b.If' n arms o) c =
        both_some (checks.all_by (branches_of checks.asking arms) a) (checks.maybe_by (else_of checks.asking o) a) (row_intos (branches_of selecting arms))
        (else_intos (else_of selecting o)) (λ c. (branches_some arms nothing c).1) (λ c. else_some o c) c
    stmt_some (b.Cases' n arms o) c =
        both_some (checks.all_by (branches_of checks.asking arms) a) (checks.maybe_by (else_of checks.asking o) a) (row_intos (branches_of selecting arms))
        (else_intos (else_of selecting o)) (λ c. (branches_some arms nothing c).1) (λ c. else_some o c) c
    stmt_some (b.Loop' label k n body closing) c =
        (stmts_some body nothing (clear_within 1 (head_asked k a) (checks.all_by (stmts_of checks.asking body) a) c).1).1
    stmt_some (b.Exit label when) c = tt
    stmt_some (b.Continue label when) c = tt
    stmt_some (b.Return e) c = tt
    stmt_some (b.Raise raised) c = tt
    stmt_some (b.Into strict targets query) c = (targets_some targets query (clear_own _ _ c), tt)
    stmt_some b.Nothing c = tt

    stmts_some : {m : _} (body : b.Row_of-Stmt m) (acc : Report) → Clear (fold (λ r (f : checks.By). followed r (f a)) acc (stmts_of checks.asking body))
        → Clear acc × AllHave (row_intos (stmts_of selecting body))
    stmts_some b.end_of-Stmt acc c = (c, tt)
    stmts_some (b.more_of-Stmt x rest) acc c =
        let more = stmts_some rest (followed acc (stmt_of checks.asking x a)) c in
        let both = clear_parts acc (stmt_of checks.asking x a) more.0 in
        (both.0, every_append HasTarget (stmt_of selecting x) (row_intos (stmts_of selecting rest)) (stmt_some x both.1) more.1)

    branches_some : {m : _} (arms : b.Row_of-Arm m) (acc : Report)
        → Clear (fold (λ r (f : checks.By). followed r (f a)) acc (branches_of checks.asking arms))
        → Clear acc × AllHave (row_intos (branches_of selecting arms))
    branches_some b.end_of-Arm acc c = (c, tt)
    branches_some (b.more_of-Arm test n body rest) acc c =
        let note = followed (own 1 (asked a Boolean test)) (checks.all_by (stmts_of checks.asking body) a) in
        let more = branches_some rest (followed acc note) c in
        let both = clear_parts acc note more.0 in
        let arm = clear_within 1 (asked a Boolean test) (checks.all_by (stmts_of checks.asking body) a) both.1 in (
          both.0,
          every_append HasTarget (row_intos (stmts_of selecting body)) (row_intos (branches_of selecting rest)) (stmts_some body nothing arm.1).1 more.1,
        )

    else_some : (o : b.Held-Stmt-If-1) → Clear (checks.maybe_by (else_of checks.asking o) a) → AllHave (else_intos (else_of selecting o))
    else_some b.None' c = tt
    else_some (b.Some' n body) c = (stmts_some body nothing (clear_within 1 clean (checks.all_by (stmts_of checks.asking body) a) c).1).1

pub asked_some : (a : Asked) (x : Stmt) → Clear (asked_stmt a x) → Every HasTarget (stmt_of selecting x)
unfolding asked_stmt
asked_some a x c = stmt_some a x c
