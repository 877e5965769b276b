-- In a function whose names are resolved and break no rule, each expression reads tables that are seen in the function alone.
use Rattle.std.proofs.Common.{◌≡◌, ℕ, Bool, true, false, List, [], ◌∷◌, ◌++◌, map, fold, Option, Some, None, option_map, refl, sym, subst}
use Rattle.away_trees.specs.declared.queries.Expr.{Expr}
use Rattle.away_trees.specs.declared.queries.Select.{Select}
use Rattle.away_trees.specs.declared.statements.Arm.{Arm}
use Rattle.away_trees.specs.declared.statements.Decl.{Decl}
use Rattle.away_trees.specs.declared.statements.LoopKind.{LoopKind}
use Rattle.away_trees.specs.declared.statements.LoopKind.TheVariants as kind
use Rattle.away_trees.specs.declared.statements.Stmt.{Stmt}
use Rattle.away_trees.specs.declared.statements.Stmt.TheVariants as stmt
use Rattle.away_trees.specs.declared.statements.Stmt.TheOpen as st
use Rattle.away_trees.specs.declared.statements.Stmt.TheBlock as b
use Rattle.away_trees.specs.StatementAlgebra.{stmt_of, stmts_of, branches_of, else_of, branch_of}
use Rattle.away_trees.proofs.StatementEquations as eq
use Rattle.away_names.specs.declared.rule.Rule.TheVariants as rule
use Rattle.away_names.specs.declared.scope.Variable.{Variable}
use Rattle.away_names.specs.Lookups.{Name, Scope, variable_named}
use Rattle.away_names.specs.Notes.{breaks, held, clean}
use Rattle.away_names.specs.Trees.{named_expr}
use Rattle.away_types.specs.declared.resolved.Declared.{Declared}
use Rattle.away_types.specs.declared.resolved.Resolved.{Resolved}
use Rattle.away_types.specs.declared.slots.Slots.{Slots}
use Rattle.away_types.specs.Statements as n
use Rattle.away_types.specs.Statements.{Spot, By, resolving, assigned}
use Rattle.sql_meaning.specs.Reads.{reads}
use Rattle.block_forms.specs.Expressions.{Sources, in_turn, if_there, default_of, defaults, of_kind, of_else}
use Rattle.type_soundness.specs.Sorts.{Every}
use Rattle.away_types.proofs.ClearReports.{Clear, clear_own, clear_parts, clear_within, clear_branches}
use Rattle.type_soundness.proofs.CleanNotes.{Clean, clean_parts}
use Rattle.type_soundness.proofs.Lists.{every_append}
use Rattle.function_facts.proofs.TableLookups.{IsBelow, Within}
use Rattle.function_facts.proofs.TablesOfTrees.{expr_below, into_below}
use Rattle.function_facts.proofs.Found.{whole}

module _ (tables : ℕ) where
  abbrev pub SourceBelow : Expr → Type 0
  SourceBelow e = Every (IsBelow tables) (reads e)

  abbrev pub AllBelow : List Expr → Type 0
  AllBelow = Every SourceBelow

  -- a place in a function under no select
  abbrev pub Placed : Scope → Type 0
  Placed s = Within tables s × (s.levels ≡ [])

  -- ---- pieces one behind the other

  abbrev FineBy : {A : Type 0} → (A → Sources) → By A → Type 0
  FineBy f g = (spot : Spot) (slots : Slots) → Placed spot.scope → Clear (g spot slots).note → AllBelow (f (g spot slots).it)

  in_turn_fine : {A : Type 0} (f : A → Sources) (xs : List A) → Every (λ x. AllBelow (f x)) xs → AllBelow (in_turn (map f xs))
  in_turn_fine f [] h = tt
  in_turn_fine f (x ∷ xs) h = every_append SourceBelow (f x) (in_turn (map f xs)) h.0 (in_turn_fine f xs h.1)

  list_fine : {A : Type 0} (f : A → Sources) (gs : List (By A)) → Every (FineBy f) gs → (spot : Spot) → Placed spot.scope → (acc : Resolved (List A))
      → (Clear acc.note → Every (λ x. AllBelow (f x)) acc.it) → Clear (fold (λ a g. n.with_resolved a (g spot a.slots)) acc gs).note
      → Every (λ x. AllBelow (f x)) (fold (λ a g. n.with_resolved a (g spot a.slots)) acc gs).it
  list_fine f [] h spot p acc t c = t c
  list_fine f (g ∷ gs) h spot p acc t c =
      list_fine f gs h.1 spot p (n.with_resolved acc (g spot acc.slots))
      (λ c. let both = clear_parts acc.note (g spot acc.slots).note c in
      every_append (λ x. AllBelow (f x)) acc.it ((g spot acc.slots).it ∷ []) (t both.0) (h.0 spot acc.slots p both.1, tt)) c

  each_fine : {A : Type 0} (f : A → Sources) (gs : List (By A)) → Every (FineBy f) gs → (spot : Spot) (slots : Slots) → Placed spot.scope
      → Clear (n.each_resolved gs spot slots).note → AllBelow (in_turn (map f (n.each_resolved gs spot slots).it))
  each_fine f gs h spot slots p c =
      in_turn_fine f (n.each_resolved gs spot slots).it (list_fine f gs h spot p (n.none_resolved slots) (λ c. tt) c)

  -- ---- expressions

  expr_fine : (e : Expr) (scope : Scope) → Placed scope → Clean (named_expr e scope).note → SourceBelow (named_expr e scope).it
  expr_fine e scope p c = expr_below tables e scope p.0 p.1 c

  single_fine : (e : Expr) (scope : Scope) → Placed scope → Clean (named_expr e scope).note → AllBelow ((named_expr e scope).it ∷ [])
  single_fine e scope p c = (expr_fine e scope p c, tt)

  maybe_fine : (o : Option Expr) (scope : Scope) → Placed scope → Clean (held (λ e. named_expr e scope) o).note
      → AllBelow (if_there (held (λ e. named_expr e scope) o).it)
  maybe_fine None scope p c = tt
  maybe_fine (Some e) scope p c = single_fine e scope p c

  -- ---- declarations

  decls_fine : (scope : Scope) → Placed scope → (ds : List Decl) (acc : Declared) → (Clean acc.note → Every (λ d. AllBelow (default_of d)) acc.it)
      → Clean (fold (n.with_declared scope) acc ds).note → Every (λ d. AllBelow (default_of d)) (fold (n.with_declared scope) acc ds).it
  decls_fine scope p [] acc t c = t c
  decls_fine scope p (d ∷ ds) acc t c =
      let seen = n.seeing acc.variables scope in
      let x = n.declared d seen in
      decls_fine scope p ds (n.with_declared scope acc d)
      (λ c. let both = clean_parts acc.note x.note c in
      let rest = clean_parts _ _ (clean_parts _ _ both.1).1 in
      every_append (λ d. AllBelow (default_of d)) acc.it (x.it ∷ []) (t both.0) (maybe_fine d.default seen p rest.1, tt)) c

  defaults_fine : (ds : List Decl) → Every (λ d. AllBelow (default_of d)) ds → AllBelow (defaults ds)
  defaults_fine [] h = tt
  defaults_fine (d ∷ ds) h = every_append SourceBelow (if_there d.default) (defaults ds) h.0 (defaults_fine ds h.1)

  declared_fine : (scope : Scope) → Placed scope → (ds : List Decl) (slots : Slots) → Clean (n.declared_all ds scope slots).note
      → AllBelow (defaults (n.declared_all ds scope slots).it)
  declared_fine scope p ds slots c =
      defaults_fine (n.declared_all ds scope slots).it (decls_fine scope p ds (n.none_declared scope slots) (λ c. tt) c)

  -- ---- statements, by their parts

  abbrev of_stmt : Stmt → Sources
  of_stmt x = stmt_of whole x

  abbrev of_arm : Arm → Sources
  of_arm x = branch_of whole x

  by_parts : (xs ys : Sources) → xs ≡ ys → AllBelow ys → AllBelow xs
  by_parts xs ys e h = subst AllBelow (sym e) h

  block_fine : (label : Option Name) (decls : List Decl) (gs : List (By Stmt)) (closing : Option Name) → Every (FineBy of_stmt) gs
      → FineBy of_stmt (n.statement (st.Block label decls gs closing))
  block_fine label decls gs closing h spot slots p c =
      let ds = n.declared_all decls spot.scope slots in
      let inner = n.within label false ds.variables spot in
      let xs = n.each_resolved gs inner ds.slots in
      let notes = clear_within _ _ xs.note c in
      let own = clean_parts _ ds.note notes.0 in
      by_parts (of_stmt (stmt.Block label ds.it xs.it closing)) (defaults ds.it ++ in_turn (map of_stmt xs.it))
      (eq.of_block whole label ds.it xs.it closing)
      (every_append SourceBelow (defaults ds.it) (in_turn (map of_stmt xs.it)) (declared_fine spot.scope p decls slots own.1)
      (each_fine of_stmt gs h inner ds.slots p notes.1))

  abbrev else_sources : Option (List Stmt) → Sources
  else_sources o = of_else (option_map (λ body. map of_stmt body) o)

  other_fine : (o : Option (List (By Stmt))) → ((gs : List (By Stmt)) → o ≡ Some gs → Every (FineBy of_stmt) gs) → (spot : Spot) (slots : Slots)
      → Placed spot.scope → Clear (n.maybe_resolved (n.other_by o) spot slots).note → AllBelow (else_sources (n.maybe_resolved (n.other_by o) spot slots).it)
  other_fine None h spot slots p c = tt
  other_fine (Some gs) h spot slots p c = each_fine of_stmt gs (h gs refl) spot slots p (clear_within 1 clean (n.each_resolved gs spot slots).note c).1

  branched_fine : (form : List Arm → Option (List Stmt) → Stmt)
      → ((arms : List Arm) (o : Option (List Stmt)) → of_stmt (form arms o) ≡ in_turn (map of_arm arms) ++ else_sources o)
      → (arms : List (By Arm)) (o : Option (List (By Stmt))) → Every (FineBy of_arm) arms
      → ((gs : List (By Stmt)) → o ≡ Some gs → Every (FineBy of_stmt) gs) → FineBy of_stmt (n.branching form arms o)
  branched_fine form is arms o h k spot slots p c =
      let xs = n.each_resolved arms spot slots in
      let y = n.maybe_resolved (n.other_by o) spot xs.slots in
      let both = clear_branches xs.note y.note c in
      by_parts (of_stmt (form xs.it y.it)) (in_turn (map of_arm xs.it) ++ else_sources y.it) (is xs.it y.it)
      (every_append SourceBelow (in_turn (map of_arm xs.it)) (else_sources y.it) (each_fine of_arm arms h spot slots p both.0)
      (other_fine o k spot xs.slots p both.1))

  arm_fine : (test : Expr) (gs : List (By Stmt)) → Every (FineBy of_stmt) gs → FineBy of_arm (n.arm (record { test = test; body = gs }))
  arm_fine test gs h spot slots p c =
      let xs = n.each_resolved gs spot slots in
      let x = named_expr test spot.scope in
      let both = clear_within 1 x.note xs.note c in
      by_parts (of_arm (record { test = x.it; body = xs.it })) (x.it ∷ in_turn (map of_stmt xs.it)) refl
      (expr_fine test spot.scope p both.0, each_fine of_stmt gs h spot slots p both.1)

  head_fine : (k : LoopKind) (scope : Scope) (slots : Slots) → Placed scope → Clean (n.headed k scope slots).note → AllBelow (of_kind (n.headed k scope slots).it)
  head_fine kind.Plain scope slots p c = tt
  head_fine (kind.While e) scope slots p c = single_fine e scope p c
  head_fine (kind.Count var reverse first last step) scope slots p c =
      let bounds = clean_parts _ _ (clean_parts _ _ c).1 in
      let ends = clean_parts _ _ bounds.1 in
      (expr_fine first scope p bounds.0, (expr_fine last scope p ends.0, maybe_fine step scope p ends.1))

  loop_fine : (label : Option Name) (k : LoopKind) (gs : List (By Stmt)) (closing : Option Name) → Every (FineBy of_stmt) gs
      → FineBy of_stmt (n.statement (st.Loop label k gs closing))
  loop_fine label k gs closing h spot slots p c =
      let head = n.headed k spot.scope slots in
      let inner = n.within label true head.variables spot in
      let xs = n.each_resolved gs inner head.slots in
      let notes = clear_within _ _ xs.note c in
      let own = clean_parts _ head.note notes.0 in
      by_parts (of_stmt (stmt.Loop label head.it xs.it closing)) (of_kind head.it ++ in_turn (map of_stmt xs.it))
      (eq.of_loop whole label head.it xs.it closing)
      (every_append SourceBelow (of_kind head.it) (in_turn (map of_stmt xs.it)) (head_fine k spot.scope slots p own.1)
      (each_fine of_stmt gs h inner head.slots p notes.1))

  assign_fine : (name : Name) (e : Expr) (spot : Spot) → Placed spot.scope → (v : Option Variable)
      → Clean (assigned name v (named_expr e spot.scope)).note → AllBelow (of_stmt (assigned name v (named_expr e spot.scope)).it)
  unfolding assigned
  assign_fine name e spot p None c = single_fine e spot.scope p (clean_parts (breaks rule.Names true) (named_expr e spot.scope).note c).1
  assign_fine name e spot p (Some v) c = single_fine e spot.scope p (clean_parts (breaks rule.Constants v.constant) (named_expr e spot.scope).note c).1

  into_fine : (strict : Bool) (targets : List (Name × Option ℕ)) (query : Select) → FineBy of_stmt (n.statement (st.Into strict targets query))
  into_fine strict targets query spot slots p c =
      (into_below tables query spot.scope p.0 p.1 (clean_parts _ _ (clean_parts _ _ (clear_own _ _ c)).1).1, tt)

  -- ---- all statements

  some_same : {A : Type 0} (x y : A) → Some x ≡ Some y → x ≡ y
  some_same x y e = cc

  mutual
    pub stmt_fine : (x : Stmt) → FineBy of_stmt (stmt_of resolving x)
    stmt_fine (b.Block' label decls m body closing) = block_fine label decls (stmts_of resolving body) closing (stmts_fine body)
    stmt_fine (b.Assign name slot e) = λ spot slots p c. assign_fine name e spot p (variable_named name spot.scope.variables) (clean_parts _ _ (clear_own 1 _ c)).1
    stmt_fine (b.If' m arms o) =
        branched_fine (λ arms o. stmt.If arms o) (λ arms o. eq.of_if whole arms o) (branches_of resolving arms) (else_of resolving o)
        (branches_fine arms) (else_fine o)
    stmt_fine (b.Cases' m arms o) =
        branched_fine (λ arms o. stmt.Cases arms o) (λ arms o. eq.of_cases whole arms o) (branches_of resolving arms) (else_of resolving o)
        (branches_fine arms) (else_fine o)
    stmt_fine (b.Loop' label k m body closing) = loop_fine label k (stmts_of resolving body) closing (stmts_fine body)
    stmt_fine (b.Exit label when) = λ spot slots p c. maybe_fine when spot.scope p (clean_parts _ _ (clean_parts _ _ (clear_own 1 _ c)).1).1
    stmt_fine (b.Continue label when) = λ spot slots p c. maybe_fine when spot.scope p (clean_parts _ _ (clean_parts _ _ (clear_own 1 _ c)).1).1
    stmt_fine (b.Return e) = λ spot slots p c. single_fine e spot.scope p (clear_own 1 _ c)
    stmt_fine (b.Raise raised) = λ spot slots p c. tt
    stmt_fine (b.Into strict targets query) = into_fine strict targets query
    stmt_fine b.Nothing = λ spot slots p c. tt

    stmts_fine : {m : _} (body : b.Row_of-Stmt m) → Every (FineBy of_stmt) (stmts_of resolving body)
    stmts_fine b.end_of-Stmt = tt
    stmts_fine (b.more_of-Stmt x rest) = (stmt_fine x, stmts_fine rest)

    branches_fine : {m : _} (arms : b.Row_of-Arm m) → Every (FineBy of_arm) (branches_of resolving arms)
    branches_fine b.end_of-Arm = tt
    branches_fine (b.more_of-Arm test m body rest) = (arm_fine test (stmts_of resolving body) (stmts_fine body), branches_fine rest)

    else_fine : (o : b.Held-Stmt-If-1) (gs : List (By Stmt)) → else_of resolving o ≡ Some gs → Every (FineBy of_stmt) gs
    else_fine b.None' gs e = cc
    else_fine (b.Some' m body) gs e = subst (Every (FineBy of_stmt)) (some_same (stmts_of resolving body) gs e) (stmts_fine body)
