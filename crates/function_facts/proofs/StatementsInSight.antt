-- In a function whose names are resolved and break no rule, each expression reads slots in sight alone.
use Rattle.std.proofs.Common.{◌≡◌, refl, sym, ap, subst, ◌∙◌, ℕ, ◌+◌, Bool, true, false, List, [], ◌∷◌, ◌++◌, map, fold, length, Option, Some, None, option_map}
use Rattle.away_values.specs.declared.types.Ty.TheVariants.{Integer}
use Rattle.away_trees.specs.declared.queries.Expr.{Expr}
use Rattle.away_trees.specs.declared.queries.Select.{Select}
use Rattle.away_trees.specs.declared.statements.Arm.{Arm}
use Rattle.away_trees.specs.declared.statements.Decl.{Decl}
use Rattle.away_trees.specs.declared.statements.LoopKind.{LoopKind}
use Rattle.away_trees.specs.declared.statements.LoopKind.TheVariants as kind
use Rattle.away_trees.specs.declared.statements.Stmt.{Stmt}
use Rattle.away_trees.specs.declared.statements.Stmt.TheVariants as stmt
use Rattle.away_trees.specs.declared.statements.Stmt.TheOpen as st
use Rattle.away_trees.specs.declared.statements.Stmt.TheBlock as b
use Rattle.away_trees.specs.StatementAlgebra.{stmt_of, stmts_of, branches_of, else_of, branch_of}
use Rattle.away_trees.proofs.StatementEquations as eq
use Rattle.away_names.specs.declared.rule.Rule.TheVariants as rule
use Rattle.away_names.specs.declared.scope.Variable.{Variable}
use Rattle.away_names.specs.Lookups.{Name, Scope, variable_named}
use Rattle.away_names.specs.Notes.{breaks, held, clean}
use Rattle.away_names.specs.Trees.{named_expr}
use Rattle.away_types.specs.declared.resolved.Resolved.{Resolved}
use Rattle.away_types.specs.declared.slots.Slots.{Slots}
use Rattle.away_types.specs.Statements as n
use Rattle.away_types.specs.Statements.{Spot, By, resolving, with_variable, with_slot, with_hidden, with_targets, assigned}
use Rattle.type_soundness.specs.Sorts.{Every}
use Rattle.away_types.proofs.ClearReports.{Clear, clear_own, clear_parts, clear_within, clear_branches}
use Rattle.type_soundness.proofs.CleanNotes.{Clean, clean_parts}
use Rattle.type_soundness.proofs.Lists.{every_append}
use Rattle.function_facts.specs.Sight as sight
use Rattle.function_facts.specs.Sight.{Sighted, Walked, Walk, walking, sighted}
use Rattle.function_facts.specs.InSight.{ReadsInSight}
use Rattle.function_facts.proofs.Names.{slots_of}
use Rattle.function_facts.proofs.Walks.{Good, good_none, good_behind, expr_read, into_read, maybe_read, maybe_next, declared_good, map_push, fold_push, shown_push, slots_push}

-- ---- pieces one behind the other

abbrev seen_at : Spot → List ℕ
seen_at spot = slots_of spot.scope.variables

abbrev GoodBy : {A : Type 0} → (A → Walk) → By A → Type 0
GoodBy w f = (spot : Spot) (slots : Slots) → Clear (f spot slots).note → Good (w (f spot slots).it (length slots.shown) (seen_at spot)) (f spot slots).slots

good_at : (w : Walk) (next other : ℕ) (seen : List ℕ) (slots : Slots) → next ≡ other → Good (w other seen) slots → Good (w next seen) slots
good_at w next other seen slots e g = subst (λ k. Good (w k seen) slots) (sym e) g

module _ {A : Type 0} (w : A → Walk) (spot : Spot) (next : ℕ) where
  one_more : (acc : Resolved (List A)) (x : Resolved A) → Good (sight.all_walks (map w acc.it) next (seen_at spot)) acc.slots → Good (w x.it (length acc.slots.shown) (seen_at spot)) x.slots → Good (sight.all_walks (map w (acc.it ++ x.it ∷ [])) next (seen_at spot)) x.slots
  one_more acc x g h =
      let before = sight.all_walks (map w acc.it) next (seen_at spot) in
      subst (λ v. Good v x.slots)
      (sym (ap (λ ws. sight.all_walks ws next (seen_at spot)) (map_push w acc.it x.it) ∙ fold_push (λ a w. sight.behind a (w a.next (seen_at spot))) (sight.no_expr next (seen_at spot)) (map w acc.it) (w x.it)))
      (good_behind before (w x.it before.next (seen_at spot)) x.slots g.exprs (good_at (w x.it) before.next (length acc.slots.shown) (seen_at spot) x.slots g.next h))

  list_good : (fs : List (By A)) → Every (GoodBy w) fs → (acc : Resolved (List A)) → (Clear acc.note → Good (sight.all_walks (map w acc.it) next (seen_at spot)) acc.slots) → Clear (fold (λ a f. n.with_resolved a (f spot a.slots)) acc fs).note → Good (sight.all_walks (map w (fold (λ a f. n.with_resolved a (f spot a.slots)) acc fs).it) next (seen_at spot)) (fold (λ a f. n.with_resolved a (f spot a.slots)) acc fs).slots
  list_good [] h acc g c = g c
  list_good (f ∷ fs) h acc g c =
      list_good fs h.1 (n.with_resolved acc (f spot acc.slots))
      (λ c. let both = clear_parts acc.note (f spot acc.slots).note c in one_more acc (f spot acc.slots) (g both.0) (h.0 spot acc.slots both.1)) c

each_good : {A : Type 0} (w : A → Walk) (fs : List (By A)) → Every (GoodBy w) fs → (spot : Spot) (slots : Slots) → Clear (n.each_resolved fs spot slots).note → Good (sight.all_walks (map w (n.each_resolved fs spot slots).it) (length slots.shown) (seen_at spot)) (n.each_resolved fs spot slots).slots
each_good w fs h spot slots c = list_good w spot (length slots.shown) fs h (n.none_resolved slots) (λ c. good_none (length slots.shown) (seen_at spot) slots refl) c

-- two, the first of which leaves off where the second begins
both_good : (v w : Walk) (next : ℕ) (seen : List ℕ) (between slots : Slots) → Good (v next seen) between → Good (w (length between.shown) seen) slots → Good (sight.and_walk v w next seen) slots
both_good v w next seen between slots g h = good_behind (v next seen) (w (v next seen).next seen) slots g.exprs (good_at w (v next seen).next (length between.shown) seen slots g.next h)

-- ---- statements, by their parts

abbrev of_stmt : Stmt → Walk
of_stmt x = stmt_of walking x

abbrev of_arm : Arm → Walk
of_arm x = branch_of walking x

by_walk : (v w : Walk) (next : ℕ) (seen : List ℕ) (slots : Slots) → v ≡ w → Good (w next seen) slots → Good (v next seen) slots
by_walk v w next seen slots e g = subst (λ x. Good (x next seen) slots) (sym e) g

block_good : (label : Option Name) (decls : List Decl) (fs : List (By Stmt)) (closing : Option Name) → Every (GoodBy of_stmt) fs → GoodBy of_stmt (n.statement (st.Block label decls fs closing))
block_good label decls fs closing h spot slots c =
    let ds = n.declared_all decls spot.scope slots in
    let inner = n.within label false ds.variables spot in
    let xs = n.each_resolved fs inner ds.slots in
    let whole = clear_within _ _ xs.note c in
    let own = clean_parts _ ds.note whole.0 in
    let declared = declared_good spot.scope decls slots own.1 in
    let walked = sight.declared ds.it (length slots.shown) (seen_at spot) in
    let body = each_good of_stmt fs h inner ds.slots whole.1 in
    by_walk (of_stmt (stmt.Block label ds.it xs.it closing)) (sight.statement (st.Block label ds.it (map of_stmt xs.it) closing)) (length slots.shown) (seen_at spot) xs.slots (eq.of_block walking label ds.it xs.it closing)
    (good_behind walked.walked (sight.all_walks (map of_stmt xs.it) walked.walked.next walked.sight) xs.slots declared.walked.exprs
    (subst (λ seen. Good (sight.all_walks (map of_stmt xs.it) walked.walked.next seen) xs.slots) (sym declared.sight)
    (good_at (sight.all_walks (map of_stmt xs.it)) walked.walked.next (length ds.slots.shown) (slots_of ds.variables) xs.slots declared.walked.next body)))

other_good : (o : Option (List (By Stmt))) → ((fs : List (By Stmt)) → o ≡ Some fs → Every (GoodBy of_stmt) fs) → (spot : Spot) (slots : Slots) → Clear (n.maybe_resolved (n.other_by o) spot slots).note → Good (sight.maybe_walk (option_map (λ body. map of_stmt body) (n.maybe_resolved (n.other_by o) spot slots).it) (length slots.shown) (seen_at spot)) (n.maybe_resolved (n.other_by o) spot slots).slots
other_good None h spot slots c = good_none (length slots.shown) (seen_at spot) slots refl
other_good (Some fs) h spot slots c = each_good of_stmt fs (h fs refl) spot slots (clear_within 1 clean (n.each_resolved fs spot slots).note c).1

branched_good : (form : List Arm → Option (List Stmt) → Stmt) → ((arms : List Arm) (o : Option (List Stmt)) → of_stmt (form arms o) ≡ sight.and_walk (sight.all_walks (map of_arm arms)) (sight.maybe_walk (option_map (λ body. map of_stmt body) o))) →
    (arms : List (By Arm)) (o : Option (List (By Stmt))) → Every (GoodBy of_arm) arms → ((fs : List (By Stmt)) → o ≡ Some fs → Every (GoodBy of_stmt) fs) → GoodBy of_stmt (n.branching form arms o)
branched_good form is arms o h k spot slots c =
    let xs = n.each_resolved arms spot slots in
    let y = n.maybe_resolved (n.other_by o) spot xs.slots in
    let both = clear_branches xs.note y.note c in
    by_walk (of_stmt (form xs.it y.it)) (sight.and_walk (sight.all_walks (map of_arm xs.it)) (sight.maybe_walk (option_map (λ body. map of_stmt body) y.it))) (length slots.shown) (seen_at spot) y.slots (is xs.it y.it)
    (both_good (sight.all_walks (map of_arm xs.it)) (sight.maybe_walk (option_map (λ body. map of_stmt body) y.it)) (length slots.shown) (seen_at spot) xs.slots y.slots
    (each_good of_arm arms h spot slots both.0) (other_good o k spot xs.slots both.1))

arm_good : (test : Expr) (fs : List (By Stmt)) → Every (GoodBy of_stmt) fs → GoodBy of_arm (n.arm (record { test = test; body = fs }))
arm_good test fs h spot slots c =
    let xs = n.each_resolved fs spot slots in
    let both = clear_within 1 (named_expr test spot.scope).note xs.note c in
    both_good (sight.one_expr (named_expr test spot.scope).it) (sight.all_walks (map of_stmt xs.it)) (length slots.shown) (seen_at spot) slots xs.slots
    (record { exprs = expr_read test spot.scope (length slots.shown) both.0; next = refl }) (each_good of_stmt fs h spot slots both.1)

-- a loop's body, behind its head
loop_good : (k : LoopKind) (scope : Scope) (slots after : Slots) (ws : List Walk) → Clean (n.headed k scope slots).note → Good (sight.all_walks ws (length (n.headed k scope slots).slots.shown) (slots_of (n.headed k scope slots).variables)) after → Good (sight.of_loop (n.headed k scope slots).it ws (length slots.shown) (slots_of scope.variables)) after
unfolding with_hidden
loop_good kind.Plain scope slots after ws c g = g
loop_good (kind.While e) scope slots after ws c g =
    both_good (sight.one_expr (named_expr e scope).it) (sight.all_walks ws) (length slots.shown) (slots_of scope.variables) slots after (record { exprs = expr_read e scope (length slots.shown) c; next = refl }) g
loop_good (kind.Count var reverse first last step) scope slots after ws c g =
    let next = length slots.shown in
    let seen = slots_of scope.variables in
    let a = named_expr first scope in
    let z = named_expr last scope in
    let by = held (λ e. named_expr e scope) step in
    let names = clean_parts _ _ c in
    let bounds = clean_parts _ _ names.1 in
    let ends = clean_parts _ _ bounds.1 in
    good_behind (sight.and_walk (sight.one_expr a.it) (sight.and_walk (sight.one_expr z.it) (sight.maybe_expr by.it)) next seen) (sight.all_walks ws (next + 1) (seen ++ next ∷ [])) after
    (every_append ReadsInSight (sight.one_expr a.it next seen).exprs ((sight.one_expr z.it next seen).exprs ++ (sight.maybe_expr by.it next seen).exprs) (expr_read first scope next bounds.0)
    (every_append ReadsInSight (sight.one_expr z.it next seen).exprs (sight.maybe_expr by.it next seen).exprs (expr_read last scope next ends.0) (maybe_read step scope next ends.1)))
    (subst (λ s. Good (sight.all_walks ws (next + 1) s) after) (slots_push var false slots scope.variables)
    (subst (λ k. Good (sight.all_walks ws k (slots_of (with_variable var false slots scope.variables))) after) (shown_push Integer false slots) g))

looped_good : (label : Option Name) (k : LoopKind) (fs : List (By Stmt)) (closing : Option Name) → Every (GoodBy of_stmt) fs → GoodBy of_stmt (n.statement (st.Loop label k fs closing))
looped_good label k fs closing h spot slots c =
    let head = n.headed k spot.scope slots in
    let inner = n.within label true head.variables spot in
    let xs = n.each_resolved fs inner head.slots in
    let whole = clear_within _ _ xs.note c in
    let own = clean_parts _ head.note whole.0 in
    by_walk (of_stmt (stmt.Loop label head.it xs.it closing)) (sight.of_loop head.it (map of_stmt xs.it)) (length slots.shown) (seen_at spot) xs.slots (eq.of_loop walking label head.it xs.it closing)
    (loop_good k spot.scope slots xs.slots (map of_stmt xs.it) own.1 (each_good of_stmt fs h inner head.slots whole.1))

-- an expression alone
single_good : (e : Expr) (scope : Scope) (slots : Slots) → Clean (named_expr e scope).note → Good (sight.one_expr (named_expr e scope).it (length slots.shown) (slots_of scope.variables)) slots
single_good e scope slots c = record { exprs = expr_read e scope (length slots.shown) c; next = refl }

maybe_good : (o : Option Expr) (scope : Scope) (slots : Slots) → Clean (held (λ e. named_expr e scope) o).note → Good (sight.maybe_expr (held (λ e. named_expr e scope) o).it (length slots.shown) (slots_of scope.variables)) slots
maybe_good o scope slots c = record { exprs = maybe_read o scope (length slots.shown) c; next = maybe_next (held (λ e. named_expr e scope) o).it (length slots.shown) (slots_of scope.variables) }

assign_good : (name : Name) (e : Expr) (spot : Spot) (slots : Slots) (v : Option Variable) → Clean (assigned name v (named_expr e spot.scope)).note → Good (of_stmt (assigned name v (named_expr e spot.scope)).it (length slots.shown) (seen_at spot)) slots
unfolding assigned
assign_good name e spot slots None c = single_good e spot.scope slots (clean_parts (breaks rule.Names true) (named_expr e spot.scope).note c).1
assign_good name e spot slots (Some v) c = single_good e spot.scope slots (clean_parts (breaks rule.Constants v.constant) (named_expr e spot.scope).note c).1

into_good : (strict : Bool) (targets : List (Name × Option ℕ)) (query : Select) → GoodBy of_stmt (n.statement (st.Into strict targets query))
unfolding with_targets
into_good strict targets query spot slots c =
    let notes = clean_parts _ _ (clean_parts _ _ (clear_own _ _ c)).1 in
    record { exprs = into_read query spot.scope (length slots.shown) notes.1; next = refl }

-- ---- all statements

some_same : {A : Type 0} (x y : A) → Some x ≡ Some y → x ≡ y
some_same x y e = cc

mutual
  pub stmt_good : (x : Stmt) → GoodBy of_stmt (stmt_of resolving x)
  stmt_good (b.Block' label decls m body closing) = block_good label decls (stmts_of resolving body) closing (stmts_good body)
  stmt_good (b.Assign name slot e) = λ spot slots c. assign_good name e spot slots (variable_named name spot.scope.variables) (clean_parts _ _ (clear_own 1 _ c)).1
  stmt_good (b.If' m arms o) = branched_good (λ arms o. stmt.If arms o) (λ arms o. eq.of_if walking arms o) (branches_of resolving arms) (else_of resolving o) (branches_good arms) (else_good o)
  stmt_good (b.Cases' m arms o) = branched_good (λ arms o. stmt.Cases arms o) (λ arms o. eq.of_cases walking arms o) (branches_of resolving arms) (else_of resolving o) (branches_good arms) (else_good o)
  stmt_good (b.Loop' label k m body closing) = looped_good label k (stmts_of resolving body) closing (stmts_good body)
  stmt_good (b.Exit label when) = λ spot slots c. maybe_good when spot.scope slots (clean_parts _ _ (clean_parts _ _ (clear_own 1 _ c)).1).1
  stmt_good (b.Continue label when) = λ spot slots c. maybe_good when spot.scope slots (clean_parts _ _ (clean_parts _ _ (clear_own 1 _ c)).1).1
  stmt_good (b.Return e) = λ spot slots c. single_good e spot.scope slots (clear_own 1 _ c)
  stmt_good (b.Raise raised) = λ spot slots c. good_none (length slots.shown) (seen_at spot) slots refl
  stmt_good (b.Into strict targets query) = into_good strict targets query
  stmt_good b.Nothing = λ spot slots c. good_none (length slots.shown) (seen_at spot) slots refl

  stmts_good : {m : _} (body : b.Row_of-Stmt m) → Every (GoodBy of_stmt) (stmts_of resolving body)
  stmts_good b.end_of-Stmt = tt
  stmts_good (b.more_of-Stmt x rest) = (stmt_good x, stmts_good rest)

  branches_good : {m : _} (arms : b.Row_of-Arm m) → Every (GoodBy of_arm) (branches_of resolving arms)
  branches_good b.end_of-Arm = tt
  branches_good (b.more_of-Arm test m body rest) = (arm_good test (stmts_of resolving body) (stmts_good body), branches_good rest)

  else_good : (o : b.Held-Stmt-If-1) (fs : List (By Stmt)) → else_of resolving o ≡ Some fs → Every (GoodBy of_stmt) fs
  else_good b.None' fs e = cc
  else_good (b.Some' m body) fs e = subst (Every (GoodBy of_stmt)) (some_same (stmts_of resolving body) fs e) (stmts_good body)
