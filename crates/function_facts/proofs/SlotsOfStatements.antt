-- In a function whose names are resolved and break no rule, each statement takes the slots of its variables and FORs.
use Rattle.std.proofs.Common.{◌≡◌, refl, sym, ap, subst, ◌∙◌, arith, append-nil, Bool, true, false, List, [], ◌∷◌, ◌++◌, map, fold, length, Option, Some, None}
use Rattle.away_values.specs.declared.types.Ty.TheVariants as ty
use Rattle.away_trees.specs.declared.queries.Expr.{Expr}
use Rattle.away_trees.specs.declared.queries.Select.{Select}
use Rattle.away_trees.specs.declared.statements.Arm.{Arm}
use Rattle.away_trees.specs.declared.statements.Decl.{Decl}
use Rattle.away_trees.specs.declared.statements.LoopKind.{LoopKind}
use Rattle.away_trees.specs.declared.statements.LoopKind.TheVariants as kind
use Rattle.away_trees.specs.declared.statements.Stmt.{Stmt}
use Rattle.away_trees.specs.declared.statements.Stmt.TheVariants as stmt
use Rattle.away_trees.specs.declared.statements.Stmt.TheOpen as st
use Rattle.away_trees.specs.declared.statements.Stmt.TheBlock as b
use Rattle.away_trees.specs.StatementAlgebra.{stmt_of, stmts_of, branches_of, else_of}
use Rattle.away_names.specs.declared.rule.Rule.TheVariants as rule
use Rattle.away_names.specs.declared.scope.Variable.{Variable}
use Rattle.away_names.specs.Lookups.{Name, Scope, variable_named}
use Rattle.away_names.specs.Notes.{breaks, held, clean}
use Rattle.away_names.specs.Trees.{named_expr}
use Rattle.away_types.specs.declared.resolved.Resolved.{Resolved}
use Rattle.away_types.specs.declared.slots.Slots.{Slots}
use Rattle.away_types.specs.Statements as n
use Rattle.away_types.specs.Statements.{Spot, By, resolving, with_slot, with_hidden, with_targets, assigned}
use Rattle.select_into.specs.Entries.{Target}
use Rattle.block_forms.specs.Expressions.{if_there}
use Rattle.block_forms.specs.Slots.{types_of, hidden_slot}
use Rattle.type_soundness.specs.Sorts.{Every}
use Rattle.away_types.proofs.ClearReports.{Clear, clear_own, clear_parts, clear_within, clear_branches}
use Rattle.type_soundness.proofs.CleanNotes.{Clean, clean_parts}
use Rattle.function_facts.proofs.Walks.{shown_push}
use Rattle.function_facts.proofs.SlotLookups.{VariablesBelow, variable_below}
use Rattle.function_facts.proofs.Found.{Found, still, behind, all, found, found_arm, found_decl, found_kind, found_else, found_block, found_loop, found_if, found_cases, found_branch}
use Rattle.function_facts.proofs.Taken.{SourceBelow, Placed, placed_more, Takes, grows, none_hidden, none_picked, takes_none, takes_behind, takes_push, expr_taken, into_taken, maybe_taken, variable_taken, declared_taken, every_more, source_more}
use Rattle.function_facts.proofs.TargetSlots.{targets_below, sets_below, picked_are}

-- ---- pieces one behind the other

abbrev TakesBy : {A : Type 0} → (A → Found) → By A → Type 0
TakesBy f g = (spot : Spot) (slots : Slots) → Placed (length slots.shown) spot.scope → Clear (g spot slots).note → Takes (f (g spot slots).it) slots (g spot slots).slots

module _ {A : Type 0} (f : A → Found) (spot : Spot) (before : Slots) (p : Placed (length before.shown) spot.scope) where
  list_takes : (gs : List (By A)) → Every (TakesBy f) gs → (acc : Resolved (List A)) → (Clear acc.note → Takes (all (map f acc.it)) before acc.slots) → Clear (fold (λ a g. n.with_resolved a (g spot a.slots)) acc gs).note → Takes (all (map f (fold (λ a g. n.with_resolved a (g spot a.slots)) acc gs).it)) before (fold (λ a g. n.with_resolved a (g spot a.slots)) acc gs).slots
  list_takes [] h acc t c = t c
  list_takes (g ∷ gs) h acc t c =
      list_takes gs h.1 (n.with_resolved acc (g spot acc.slots))
      (λ c. let both = clear_parts acc.note (g spot acc.slots).note c in
      let so_far = t both.0 in
      let here = placed_more (length before.shown) (length acc.slots.shown) (grows (all (map f acc.it)) before acc.slots so_far) spot.scope p in
      takes_push f acc.it (g spot acc.slots).it before acc.slots (g spot acc.slots).slots so_far (h.0 spot acc.slots here both.1)) c

each_takes : {A : Type 0} (f : A → Found) (gs : List (By A)) → Every (TakesBy f) gs → (spot : Spot) (slots : Slots) → Placed (length slots.shown) spot.scope → Clear (n.each_resolved gs spot slots).note → Takes (all (map f (n.each_resolved gs spot slots).it)) slots (n.each_resolved gs spot slots).slots
each_takes f gs h spot slots p c = list_takes f spot slots p gs h (n.none_resolved slots) (λ c. takes_none [] [] slots tt tt) c

-- ---- statements, by their parts

by_parts : (f g : Found) (before after : Slots) → f ≡ g → Takes g before after → Takes f before after
by_parts f g before after e t = subst (λ x. Takes x before after) (sym e) t

block_takes : (label : Option Name) (decls : List Decl) (gs : List (By Stmt)) (closing : Option Name) → Every (TakesBy found) gs → TakesBy found (n.statement (st.Block label decls gs closing))
block_takes label decls gs closing h spot slots p c =
    let ds = n.declared_all decls spot.scope slots in
    let inner = n.within label false ds.variables spot in
    let xs = n.each_resolved gs inner ds.slots in
    let whole = clear_within _ _ xs.note c in
    let own = clean_parts _ ds.note whole.0 in
    let declared = declared_taken spot.scope decls slots p own.1 in
    by_parts (found (stmt.Block label ds.it xs.it closing)) (behind (all (map found_decl ds.it)) (all (map found xs.it))) slots xs.slots (found_block label ds.it xs.it closing)
    (takes_behind (all (map found_decl ds.it)) (all (map found xs.it)) slots ds.slots xs.slots declared.takes
    (each_takes found gs h inner ds.slots ((p.0.0, declared.in_sight), p.1) whole.1))

other_takes : (o : Option (List (By Stmt))) → ((gs : List (By Stmt)) → o ≡ Some gs → Every (TakesBy found) gs) → (spot : Spot) (slots : Slots) → Placed (length slots.shown) spot.scope → Clear (n.maybe_resolved (n.other_by o) spot slots).note → Takes (found_else (n.maybe_resolved (n.other_by o) spot slots).it) slots (n.maybe_resolved (n.other_by o) spot slots).slots
other_takes None h spot slots p c = takes_none [] [] slots tt tt
other_takes (Some gs) h spot slots p c = each_takes found gs (h gs refl) spot slots p (clear_within 1 clean (n.each_resolved gs spot slots).note c).1

branched_takes : (form : List Arm → Option (List Stmt) → Stmt) → ((arms : List Arm) (o : Option (List Stmt)) → found (form arms o) ≡ behind (all (map found_arm arms)) (found_else o)) →
    (arms : List (By Arm)) (o : Option (List (By Stmt))) → Every (TakesBy found_arm) arms → ((gs : List (By Stmt)) → o ≡ Some gs → Every (TakesBy found) gs) → TakesBy found (n.branching form arms o)
branched_takes form is arms o h k spot slots p c =
    let xs = n.each_resolved arms spot slots in
    let y = n.maybe_resolved (n.other_by o) spot xs.slots in
    let both = clear_branches xs.note y.note c in
    let first = each_takes found_arm arms h spot slots p both.0 in
    let here = placed_more (length slots.shown) (length xs.slots.shown) (grows (all (map found_arm xs.it)) slots xs.slots first) spot.scope p in
    by_parts (found (form xs.it y.it)) (behind (all (map found_arm xs.it)) (found_else y.it)) slots y.slots (is xs.it y.it)
    (takes_behind (all (map found_arm xs.it)) (found_else y.it) slots xs.slots y.slots first (other_takes o k spot xs.slots here both.1))

arm_takes : (test : Expr) (gs : List (By Stmt)) → Every (TakesBy found) gs → TakesBy found_arm (n.arm (record { test = test; body = gs }))
arm_takes test gs h spot slots p c =
    let xs = n.each_resolved gs spot slots in
    let x = named_expr test spot.scope in
    let both = clear_within 1 x.note xs.note c in
    by_parts (found_arm (record { test = x.it; body = xs.it })) (behind (still [] (x.it ∷ [])) (all (map found xs.it))) slots xs.slots (found_branch x.it xs.it)
    (takes_behind (still [] (x.it ∷ [])) (all (map found xs.it)) slots slots xs.slots
    (takes_none [] (x.it ∷ []) slots tt (expr_taken (length slots.shown) test spot.scope p both.0, tt)) (each_takes found gs h spot slots p both.1))

-- ---- loops

head_takes : (k : LoopKind) (scope : Scope) (slots : Slots) → Placed (length slots.shown) scope → Clean (n.headed k scope slots).note → Takes (found_kind (n.headed k scope slots).it) slots (n.headed k scope slots).slots
unfolding with_hidden with_slot
head_takes kind.Plain scope slots p c = takes_none [] [] slots tt tt
head_takes (kind.While e) scope slots p c = takes_none [] ((named_expr e scope).it ∷ []) slots tt (expr_taken (length slots.shown) e scope p c, tt)
head_takes (kind.Count var reverse first last step) scope slots p c =
    let names = clean_parts _ _ c in
    let bounds = clean_parts _ _ names.1 in
    let ends = clean_parts _ _ bounds.1 in
    let now = length slots.shown in
    let then_ = length (with_slot ty.Integer false slots).shown in
    let l = shown_push ty.Integer false slots in
    record {
      shown = refl;
      hidden = refl;
      picked = λ later. none_picked slots.picked;
      many = refl;
      intos = tt;
      targets = tt;
      sources = every_more (SourceBelow now) (SourceBelow then_) (source_more now then_ (omega (arith, l))) ((named_expr first scope).it ∷ (named_expr last scope).it ∷ if_there (held (λ e. named_expr e scope) step).it)
          (expr_taken now first scope p bounds.0, (expr_taken now last scope p ends.0, maybe_taken now step scope p ends.1));
    }

head_in_sight : (k : LoopKind) (scope : Scope) (slots : Slots) → VariablesBelow (length slots.shown) scope.variables → VariablesBelow (length (n.headed k scope slots).slots.shown) (n.headed k scope slots).variables
unfolding with_hidden
head_in_sight kind.Plain scope slots h = h
head_in_sight (kind.While e) scope slots h = h
head_in_sight (kind.Count var reverse first last step) scope slots h = variable_taken var false ty.Integer false slots scope.variables h

loop_takes : (label : Option Name) (k : LoopKind) (gs : List (By Stmt)) (closing : Option Name) → Every (TakesBy found) gs → TakesBy found (n.statement (st.Loop label k gs closing))
loop_takes label k gs closing h spot slots p c =
    let head = n.headed k spot.scope slots in
    let inner = n.within label true head.variables spot in
    let xs = n.each_resolved gs inner head.slots in
    let whole = clear_within _ _ xs.note c in
    let own = clean_parts _ head.note whole.0 in
    by_parts (found (stmt.Loop label head.it xs.it closing)) (behind (found_kind head.it) (all (map found xs.it))) slots xs.slots (found_loop label head.it xs.it closing)
    (takes_behind (found_kind head.it) (all (map found xs.it)) slots head.slots xs.slots (head_takes k spot.scope slots p own.1)
    (each_takes found gs h inner head.slots ((p.0.0, head_in_sight k spot.scope slots p.0.1), p.1) whole.1))

-- ---- expressions alone

single_takes : (e : Expr) (scope : Scope) (slots : Slots) → Placed (length slots.shown) scope → Clean (named_expr e scope).note → Takes (still [] ((named_expr e scope).it ∷ [])) slots slots
single_takes e scope slots p c = takes_none [] ((named_expr e scope).it ∷ []) slots tt (expr_taken (length slots.shown) e scope p c, tt)

maybe_takes : (o : Option Expr) (scope : Scope) (slots : Slots) → Placed (length slots.shown) scope → Clean (held (λ e. named_expr e scope) o).note → Takes (still [] (if_there (held (λ e. named_expr e scope) o).it)) slots slots
maybe_takes o scope slots p c = takes_none [] (if_there (held (λ e. named_expr e scope) o).it) slots tt (maybe_taken (length slots.shown) o scope p c)

assign_takes : (name : Name) (e : Expr) (spot : Spot) (slots : Slots) → Placed (length slots.shown) spot.scope → (v : Option Variable) → variable_named name spot.scope.variables ≡ v → Clean (assigned name v (named_expr e spot.scope)).note → Takes (found (assigned name v (named_expr e spot.scope)).it) slots slots
unfolding assigned
assign_takes name e spot slots p None is c = single_takes e spot.scope slots p (clean_parts (breaks rule.Names true) (named_expr e spot.scope).note c).1
assign_takes name e spot slots p (Some v) is c =
    takes_none (v.slot ∷ []) ((named_expr e spot.scope).it ∷ []) slots (variable_below (length slots.shown) name spot.scope.variables v p.0.1 is, tt)
    (expr_taken (length slots.shown) e spot.scope p (clean_parts (breaks rule.Constants v.constant) (named_expr e spot.scope).note c).1, tt)

into_takes : (strict : Bool) (targets : List Target) (query : Select) → TakesBy found (n.statement (st.Into strict targets query))
unfolding with_targets
into_takes strict targets query spot slots p c =
    let notes = clean_parts _ _ (clean_parts _ _ (clear_own _ _ c)).1 in
    let now = length slots.shown in
    let ts = (n.targeted spot.scope targets).it in
    let placed = targets_below now spot.scope p.0.1 targets notes.0 in
    let reads = into_taken now query spot.scope p notes.1 in
    record {
      shown = sym (append-nil slots.shown);
      hidden = none_hidden slots.hidden;
      picked = λ later. ap (λ xs. slots.picked ++ xs) (picked_are slots.shown later ts placed
          ∙ ap (map (hidden_slot (types_of (slots.shown ++ later)))) (sym (append-nil ts)));
      many = refl;
      intos = (reads, tt);
      targets = sets_below now ts placed;
      sources = (reads, tt);
    }

-- ---- all statements

some_same : {A : Type 0} (x y : A) → Some x ≡ Some y → x ≡ y
some_same x y e = cc

mutual
  pub stmt_takes : (x : Stmt) → TakesBy found (stmt_of resolving x)
  stmt_takes (b.Block' label decls m body closing) = block_takes label decls (stmts_of resolving body) closing (stmts_take body)
  stmt_takes (b.Assign name slot e) = λ spot slots p c. assign_takes name e spot slots p (variable_named name spot.scope.variables) refl (clean_parts _ _ (clear_own 1 _ c)).1
  stmt_takes (b.If' m arms o) = branched_takes (λ arms o. stmt.If arms o) (λ arms o. found_if arms o) (branches_of resolving arms) (else_of resolving o) (branches_take arms) (else_takes o)
  stmt_takes (b.Cases' m arms o) = branched_takes (λ arms o. stmt.Cases arms o) (λ arms o. found_cases arms o) (branches_of resolving arms) (else_of resolving o) (branches_take arms) (else_takes o)
  stmt_takes (b.Loop' label k m body closing) = loop_takes label k (stmts_of resolving body) closing (stmts_take body)
  stmt_takes (b.Exit label when) = λ spot slots p c. maybe_takes when spot.scope slots p (clean_parts _ _ (clean_parts _ _ (clear_own 1 _ c)).1).1
  stmt_takes (b.Continue label when) = λ spot slots p c. maybe_takes when spot.scope slots p (clean_parts _ _ (clean_parts _ _ (clear_own 1 _ c)).1).1
  stmt_takes (b.Return e) = λ spot slots p c. single_takes e spot.scope slots p (clear_own 1 _ c)
  stmt_takes (b.Raise raised) = λ spot slots p c. takes_none [] [] slots tt tt
  stmt_takes (b.Into strict targets query) = into_takes strict targets query
  stmt_takes b.Nothing = λ spot slots p c. takes_none [] [] slots tt tt

  stmts_take : {m : _} (body : b.Row_of-Stmt m) → Every (TakesBy found) (stmts_of resolving body)
  stmts_take b.end_of-Stmt = tt
  stmts_take (b.more_of-Stmt x rest) = (stmt_takes x, stmts_take rest)

  branches_take : {m : _} (arms : b.Row_of-Arm m) → Every (TakesBy found_arm) (branches_of resolving arms)
  branches_take b.end_of-Arm = tt
  branches_take (b.more_of-Arm test m body rest) = (arm_takes test (stmts_of resolving body) (stmts_take body), branches_take rest)

  else_takes : (o : b.Held-Stmt-If-1) (gs : List (By Stmt)) → else_of resolving o ≡ Some gs → Every (TakesBy found) gs
  else_takes b.None' gs e = cc
  else_takes (b.Some' m body) gs e = subst (Every (TakesBy found)) (some_same (stmts_of resolving body) gs e) (stmts_take body)
