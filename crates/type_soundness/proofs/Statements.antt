-- Each expression of a checked function gives a value of the type that is asked of it.
use Rattle.std.proofs.Common.{◌≡◌, sym, subst, ℕ, not, ◌||◌, List, [], ◌∷◌, ◌++◌, fold, map, Option, Some, None, option_map}
use Rattle.std.specs.Prelude.{slice_get}
use Rattle.away_values.specs.declared.types.Ty.{Ty}
use Rattle.away_values.specs.declared.types.Ty.TheVariants.{Boolean, Integer}
use Rattle.away_trees.specs.declared.queries.Expr.{Expr}
use Rattle.away_trees.specs.declared.schemas.Schema.{Schema}
use Rattle.away_trees.specs.declared.statements.Arm.{Arm}
use Rattle.away_trees.specs.declared.statements.Decl.{Decl}
use Rattle.away_trees.specs.declared.statements.Function.{Function}
use Rattle.away_trees.specs.declared.statements.LoopKind.{LoopKind}
use Rattle.away_trees.specs.declared.statements.LoopKind.TheVariants as kind
use Rattle.away_trees.specs.declared.statements.Stmt.{Stmt}
use Rattle.away_trees.specs.declared.statements.Stmt.TheBlock as b
use Rattle.away_trees.specs.StatementAlgebra.{stmt_of, stmts_of, branch_of, branches_of, else_of}
use Rattle.away_trees.proofs.StatementEquations as eq
use Rattle.away_names.specs.declared.rule.Rule.TheVariants as rule
use Rattle.away_names.specs.declared.note.Note.{Note}
use Rattle.away_names.specs.Notes.{clean, joined, breaks}
use Rattle.away_typing.specs.Aggregates.{outside}
use Rattle.away_typing.specs.Kinds.{fits}
use Rattle.away_typing.specs.Trees.{kind_of, uses_of}
use Rattle.elaboration.specs.Converting.{Around, all_by, converted, converted_to, converting, decls_converted, for_slot, kind_converted, marked, maybe_marked, slot_type}
use Rattle.elaboration_law.specs.Laws.{Found}
use Rattle.away_types.specs.declared.finding.Report.{Report}
use Rattle.away_types.specs.Findings.{own, nothing, followed, branched}
use Rattle.away_types.specs.declared.slots.Slot.{Slot}
use Rattle.away_types.specs.CheckedFunctions.{IsChecked}
use Rattle.away_types.specs.FunctionChecks.{around_in, asked_in, converted_body, slot_types, function_note, head_note, types_note, body_of, slots_of}
use Rattle.away_types.specs.StatementTypes as checks
use Rattle.away_types.specs.StatementTypes.{Asked, asked, maybe_asked, asked_of_slot, head_asked, asked_stmt}
use Rattle.select_into.specs.Laws.{KeepsRows}
use Rattle.type_soundness.specs.Arguments.{Supplied, params_in}
use Rattle.type_soundness.specs.Sorts.{Every}
use Rattle.away_types.proofs.ClearReports.{Clear, clear_own, clear_parts, clear_within, clear_branches, clear_bodies}
use Rattle.type_soundness.proofs.CleanNotes.{Clean, clean_parts, not_broken, test_fails}
use Rattle.type_soundness.proofs.IntoTypes.{neither, into_typed}
use Rattle.type_soundness.proofs.KindRules.{fits_typed}
use Rattle.type_soundness.proofs.Lists.{every_append}
use Rattle.type_soundness.proofs.NoArguments.{none_supplied}
use Rattle.type_soundness.proofs.Trees.{expr_holds}
use Rattle.type_soundness.specs.AskedTypes as here
use Rattle.type_soundness.specs.AskedTypes.{GivesItsType, Asks}
use Rattle.type_soundness.proofs.Recursions.{not_false}

module _ (keeps : KeepsRows) (found : Found) (s : Schema) (slots : List Slot) (result : Ty) where
  abbrev a : Asked
  a = asked_in s slots result

  -- by which the statements are converted
  abbrev w : Around
  w = around_in s slots result

  abbrev Gives : Option Ty × Expr → Type 0
  Gives = GivesItsType s slots result

  abbrev AllGive : here.Asked → Type 0
  AllGive = Every Gives

  abbrev values : Asks → here.Asked
  values f = f (slot_types slots) result

  one_typed : (t : Ty) (e : Expr) → Clean (asked a t e) → Gives (Some t, e)
  unfolding asked kind_of
  one_typed t e c =
      let both = clean_parts (breaks rule.Types (not (fits t (kind_of e a.places)) || (uses_of e).limited)) (breaks rule.Aggregates (outside (uses_of e)).misused) c in
      let fails = neither (not (fits t (kind_of e a.places))) (uses_of e).limited (test_fails rule.Types (not (fits t (kind_of e a.places)) || (uses_of e).limited) both.0) in
      λ cx v fit none d. fits_typed t (kind_of e a.places) v (not_false (fits t (kind_of e a.places)) fails.0)
      (expr_holds e a.places cx fit (subst (λ args. Supplied args (params_in e)) (sym none) (none_supplied (params_in e))) v d)

  maybe_typed : (t : Ty) (o : Option Expr) → Clean (maybe_asked a t o) → AllGive (here.maybe t o)
  maybe_typed t None c = tt
  maybe_typed t (Some e) c = (one_typed t e c, tt)

  slot_typed : (o : Option Ty) (e : Expr) → Clean (asked_of_slot a o e) → Gives (o, e)
  unfolding asked_of_slot
  slot_typed None e c = not_broken rule.Types c
  slot_typed (Some t) e c = one_typed t e c

  assigned_typed : (slot : Option ℕ) (e : Expr) → Clean (asked_of_slot a (checks.slot_of a slot) e) → AllGive ((here.slot_type (slot_types slots) slot, e) ∷ [])
  assigned_typed None e c = (slot_typed None e c, tt)
  assigned_typed (Some i) e c = (slot_typed (slice_get (slot_types slots) i) e c, tt)

  head_typed : (k : LoopKind) → Clean (head_asked k a) → AllGive (here.head k)
  head_typed kind.Plain c = tt
  head_typed (kind.While e) c = (one_typed Boolean e c, tt)
  head_typed (kind.Count var reverse first last step) c =
      let both = clean_parts (asked a Integer first) (joined (asked a Integer last) (maybe_asked a Integer step)) c in
      let more = clean_parts (asked a Integer last) (maybe_asked a Integer step) both.1 in
      (one_typed Integer first both.0, (one_typed Integer last more.0, maybe_typed Integer step more.1))

  defaults_typed : (ds : List Decl) (acc : Note) → Clean (fold (λ n (d : Decl). joined n (maybe_asked a d.ty d.default)) acc ds) → Clean acc × AllGive (here.defaults ds)
  defaults_typed [] acc c = (c, tt)
  defaults_typed (d ∷ ds) acc c =
      let rest = defaults_typed ds (joined acc (maybe_asked a d.ty d.default)) c in
      let both = clean_parts acc (maybe_asked a d.ty d.default) rest.0 in
      (both.0, every_append Gives (here.maybe d.ty d.default) (here.defaults ds) (maybe_typed d.ty d.default both.1) rest.1)

  within_typed : (j : ℕ) (m : Note) (n : Report) (xs ys : here.Asked) → (Clean m → AllGive xs) → (Clear n → AllGive ys) → Clear (followed (own j m) n) → AllGive (xs ++ ys)
  within_typed j m n xs ys h k c = let both = clear_within j m n c in every_append Gives xs ys (h both.0) (k both.1)

  both_typed : (m n : Report) (xs ys : here.Asked) → (Clear m → AllGive xs) → (Clear n → AllGive ys) → Clear (branched m n) → AllGive (xs ++ ys)
  both_typed m n xs ys h k c = let both = clear_branches m n c in every_append Gives xs ys (h both.0) (k both.1)

  -- what holds of a statement made of parts, by what its parts give
  of_parts : (f g : checks.By) (h k : Asks) → f ≡ g → h ≡ k → (Clear (g a) → AllGive (values k)) → Clear (f a) → AllGive (values h)
  of_parts f g h k e d go c = subst (λ x. AllGive (values x)) (sym d) (go (subst (λ x. Clear (x a)) e c))

  -- the checks, and the expressions that are asked, of statements and of arms
  abbrev checks_of : List Stmt → List checks.By
  checks_of = map (λ x. stmt_of checks.asking x)

  abbrev asks_of : List Stmt → List Asks
  asks_of = map (λ x. stmt_of here.asking x)

  abbrev arm_checks : List Arm → List checks.By
  arm_checks = map (λ x. branch_of checks.asking x)

  abbrev arm_asks : List Arm → List Asks
  arm_asks = map (λ x. branch_of here.asking x)

  -- the statements as they are converted
  abbrev made : {m : _} → b.Row_of-Stmt m → List Stmt
  made body = all_by w (stmts_of converting body)

  abbrev arms_made : {m : _} → b.Row_of-Arm m → List Arm
  arms_made arms = all_by w (branches_of converting arms)

  abbrev other_made : b.Held-Stmt-If-1 → Option (List Stmt)
  other_made o = option_map (all_by w) (else_of converting o)

  mutual
    stmt_typed : (x : Stmt) → Clear (stmt_of checks.asking (stmt_of converting x w) a) → AllGive (values (stmt_of here.asking (stmt_of converting x w)))
    stmt_typed (b.Block' label decls n body closing) =
        let ds = decls_converted w decls in
        of_parts _ _ _ _ (eq.of_block checks.asking label ds (made body) closing) (eq.of_block here.asking label ds (made body) closing)
        (λ c. within_typed _ (checks.defaults ds a) (checks.all_by (checks_of (made body)) a) (here.defaults ds) (values (here.all (asks_of (made body))))
        (λ c. (defaults_typed ds clean c).1) (λ c. (stmts_typed body nothing c).1) c)
    stmt_typed (b.Assign name slot e) = λ c. assigned_typed slot (for_slot (slot_type w slot) w.places e) (clear_own 1 _ c)
    stmt_typed (b.If' n arms o) =
        of_parts _ _ _ _ (eq.of_if checks.asking (arms_made arms) (other_made o)) (eq.of_if here.asking (arms_made arms) (other_made o))
        (λ c. both_typed (checks.all_by (arm_checks (arms_made arms)) a) (checks.maybe_by (option_map checks_of (other_made o)) a)
        (values (here.all (arm_asks (arms_made arms)))) (values (here.other (option_map asks_of (other_made o))))
        (λ c. (branches_typed arms nothing c).1) (λ c. else_typed o c) c)
    stmt_typed (b.Cases' n arms o) =
        of_parts _ _ _ _ (eq.of_cases checks.asking (arms_made arms) (other_made o)) (eq.of_cases here.asking (arms_made arms) (other_made o))
        (λ c. both_typed (checks.all_by (arm_checks (arms_made arms)) a) (checks.maybe_by (option_map checks_of (other_made o)) a)
        (values (here.all (arm_asks (arms_made arms)))) (values (here.other (option_map asks_of (other_made o))))
        (λ c. (branches_typed arms nothing c).1) (λ c. else_typed o c) c)
    stmt_typed (b.Loop' label k n body closing) =
        let head = kind_converted w k in
        of_parts _ _ _ _ (eq.of_loop checks.asking label head (made body) closing) (eq.of_loop here.asking label head (made body) closing)
        (λ c. within_typed 1 (head_asked head a) (checks.all_by (checks_of (made body)) a) (here.head head) (values (here.all (asks_of (made body))))
        (λ c. head_typed head c) (λ c. (stmts_typed body nothing c).1) c)
    stmt_typed (b.Exit label when) = λ c. maybe_typed Boolean (maybe_marked w.places when) (clear_own 1 _ c)
    stmt_typed (b.Continue label when) = λ c. maybe_typed Boolean (maybe_marked w.places when) (clear_own 1 _ c)
    stmt_typed (b.Return e) = λ c. (one_typed result (converted_to w.result w.places e) (clear_own 1 _ c), tt)
    stmt_typed (b.Raise raised) = λ c. tt
    stmt_typed (b.Into strict targets query) = λ c. into_typed s slots result keeps found strict targets query (clear_own _ _ c)
    stmt_typed b.Nothing = λ c. tt

    stmts_typed : {m : _} (body : b.Row_of-Stmt m) (acc : Report) → Clear (fold (λ r (f : checks.By). followed r (f a)) acc (checks_of (made body))) → Clear acc × AllGive (values (here.all (asks_of (made body))))
    stmts_typed b.end_of-Stmt acc c = (c, tt)
    stmts_typed (b.more_of-Stmt x rest) acc c =
        let y = stmt_of converting x w in
        let more = stmts_typed rest (followed acc (stmt_of checks.asking y a)) c in
        let both = clear_parts acc (stmt_of checks.asking y a) more.0 in
        (both.0, every_append Gives (values (stmt_of here.asking y)) (values (here.all (asks_of (made rest)))) (stmt_typed x both.1) more.1)

    branches_typed : {m : _} (arms : b.Row_of-Arm m) (acc : Report) → Clear (fold (λ r (f : checks.By). followed r (f a)) acc (arm_checks (arms_made arms))) → Clear acc × AllGive (values (here.all (arm_asks (arms_made arms))))
    branches_typed b.end_of-Arm acc c = (c, tt)
    branches_typed (b.more_of-Arm test n body rest) acc c =
        let t = marked w.places test in
        let note = followed (own 1 (asked a Boolean t)) (checks.all_by (checks_of (made body)) a) in
        let more = branches_typed rest (followed acc note) c in
        let both = clear_parts acc note more.0 in
        let arm = clear_within 1 (asked a Boolean t) (checks.all_by (checks_of (made body)) a) both.1 in (
          both.0,
          every_append Gives (here.one Boolean t ++ values (here.all (asks_of (made body)))) (values (here.all (arm_asks (arms_made rest))))
              (one_typed Boolean t arm.0, (stmts_typed body nothing arm.1).1) more.1,
        )

    else_typed : (o : b.Held-Stmt-If-1) → Clear (checks.maybe_by (option_map checks_of (other_made o)) a) → AllGive (values (here.other (option_map asks_of (other_made o))))
    else_typed b.None' c = tt
    else_typed (b.Some' n body) c = (stmts_typed body nothing (clear_within 1 clean (checks.all_by (checks_of (made body)) a) c).1).1

of_function : KeepsRows → Found → (s : Schema) (f : Function) → Clear (function_note s f) → Every (GivesItsType s (slots_of s f) f.result) (stmt_of here.asking (converted_body s f) (slot_types (slots_of s f)) f.result)
unfolding asked_stmt converted
of_function keeps found s f c = stmt_typed keeps found s (slots_of s f) f.result (body_of s f).it (clear_bodies _ (head_note f) (body_of s f).note (types_note s f) c).1

pub typed : KeepsRows → Found → (s : Schema) (written checked : Function) (slots : List Slot) → IsChecked s written checked slots → Every (GivesItsType s slots checked.result) (here.asked_of checked slots)
typed keeps found s written checked slots h =
    subst (λ f. Every (GivesItsType s slots f.result) (here.asked_of f slots)) (sym h.function)
    (subst (λ xs. Every (GivesItsType s xs written.result) (stmt_of here.asking (converted_body s written) (slot_types xs) written.result)) (sym h.slots_are)
    (of_function keeps found s written h.unbroken))
