-- Each source expression of a function whose names are resolved stands for a written one: its names are resolved where the schema's tables are in sight alone, and break
-- no rule. What holds of all written source expressions holds of that one.
use Rattle.std.proofs.Common.{length, ◌≡◌, refl, ap, sym, subst, ◌∙◌, true, false, List, [], ◌∷◌, ◌++◌, map, fold, Option, Some, None, option_map}
use Rattle.away_trees.specs.declared.queries.Expr.{Expr}
use Rattle.away_trees.specs.declared.queries.Expr.TheOpen as ex
use Rattle.away_trees.specs.declared.queries.Expr.TheViews.{roll-Query}
use Rattle.away_trees.specs.declared.queries.Select.{Select}
use Rattle.away_trees.specs.declared.schemas.Schema.{Schema}
use Rattle.away_trees.specs.declared.statements.Arm.{Arm}
use Rattle.away_trees.specs.declared.statements.Decl.{Decl}
use Rattle.away_trees.specs.declared.statements.Function.{Function}
use Rattle.away_trees.specs.declared.statements.LoopKind.{LoopKind}
use Rattle.away_trees.specs.declared.statements.LoopKind.TheVariants as kind
use Rattle.away_trees.specs.declared.statements.Stmt.{Stmt}
use Rattle.away_trees.specs.declared.statements.Stmt.TheVariants as stmt
use Rattle.away_trees.specs.declared.statements.Stmt.TheOpen as st
use Rattle.away_trees.specs.declared.statements.Stmt.TheBlock as b
use Rattle.away_trees.specs.Algebra.{expr_of, select_of}
use Rattle.away_trees.specs.StatementAlgebra.{stmt_of, branch_of, stmts_of, branches_of, else_of}
use Rattle.away_trees.proofs.Equations as tree
use Rattle.away_trees.proofs.StatementEquations as eq
use Rattle.away_names.specs.declared.rule.Rule.TheVariants as rule
use Rattle.away_names.specs.declared.scope.Variable.{Variable}
use Rattle.away_names.specs.Lookups.{Name, Scope, variable_named}
use Rattle.away_names.specs.Naming.{naming, term, whole}
use Rattle.away_names.specs.Notes.{breaks, clean, held, joined}
use Rattle.away_names.specs.Rules.{lesser}
use Rattle.away_names.specs.Trees.{named_expr, named_select}
use Rattle.away_types.specs.declared.resolved.Declared.{Declared}
use Rattle.away_types.specs.declared.resolved.Resolved.{Resolved}
use Rattle.away_types.specs.declared.slots.Slot.{Slot}
use Rattle.away_types.specs.declared.slots.Slots.{Slots}
use Rattle.away_types.specs.CheckedFunctions.{IsChecked}
use Rattle.away_types.specs.FunctionChecks.{entry, start, body_of, function_note, head_note, types_note}
use Rattle.away_types.specs.ResolvedBodies.{resolved_stmt}
use Rattle.away_types.specs.Statements as n
use Rattle.away_types.specs.Statements.{Spot, By, resolving, assigned}
use Rattle.plsql_meaning.specs.Sight.{query_of}
use Rattle.block_forms.specs.Expressions.{Sources, sources, whole_select, in_turn, if_there, defaults, of_kind, of_else}
use Rattle.type_soundness.specs.Sorts.{Every}
use Rattle.away_types.proofs.ClearReports.{Clear, clear_own, clear_parts, clear_within, clear_branches, clear_bodies}
use Rattle.type_soundness.proofs.CleanNotes.{Clean, clean_parts}
use Rattle.type_soundness.proofs.Lists.{every_append, every_left, every_right}
use Rattle.cte_names.proofs.Sources.{Plain, texts}

-- what stands for a written expression of which this holds
pub record StandsFor (P : Expr → Type 0) (schema : Schema) (e : Expr) : Type 0 where
  pub written : Expr
  pub holds : P written
  pub scope : Scope
  pub plain : Plain schema scope
  pub clean : Clean (named_expr written scope).note
  pub resolved : (named_expr written scope).it ≡ e

module _ (P : Expr → Type 0) (schema : Schema) where
  abbrev All : Sources → Type 0
  All = Every (StandsFor P schema)

  -- ---- expressions

  one_resolved : (e : Expr) (scope : Scope) → P e → Plain schema scope → Clean (named_expr e scope).note → All ((named_expr e scope).it ∷ [])
  one_resolved e scope q p c = (record { written = e; holds = q; scope = scope; plain = p; clean = c; resolved = refl }, tt)

  maybe_resolved : (o : Option Expr) (scope : Scope) → Every P (if_there o) → Plain schema scope → Clean (held (λ e. named_expr e scope) o).note
      → All (if_there (held (λ e. named_expr e scope) o).it)
  maybe_resolved None scope q p c = tt
  maybe_resolved (Some e) scope q p c = one_resolved e scope q.0 p c

  -- ---- pieces one behind the other

  in_turn_resolved : {A : Type 0} (f : A → Sources) (xs : List A) → Every (λ x. All (f x)) xs → All (in_turn (map f xs))
  in_turn_resolved f [] h = tt
  in_turn_resolved f (x ∷ xs) h = every_append (StandsFor P schema) (f x) (in_turn (map f xs)) h.0 (in_turn_resolved f xs h.1)

  abbrev ResolvesBy : {A : Type 0} → (A → Sources) → By A → Type 0
  ResolvesBy f g = (spot : Spot) (slots : Slots) → Plain schema spot.scope → Clear (g spot slots).note → All (f (g spot slots).it)

  module _ {A : Type 0} (f : A → Sources) (spot : Spot) (p : Plain schema spot.scope) where
    list_resolved : (gs : List (By A)) → Every (ResolvesBy f) gs → (acc : Resolved (List A)) → (Clear acc.note → Every (λ x. All (f x)) acc.it)
        → Clear (fold (λ a g. n.with_resolved a (g spot a.slots)) acc gs).note → Every (λ x. All (f x))
        (fold (λ a g. n.with_resolved a (g spot a.slots)) acc gs).it
    list_resolved [] h acc t c = t c
    list_resolved (g ∷ gs) h acc t c =
        list_resolved gs h.1 (n.with_resolved acc (g spot acc.slots))
        (λ c. let both = clear_parts acc.note (g spot acc.slots).note c in every_append (λ x. All (f x)) acc.it ((g spot acc.slots).it ∷ []) (t both.0)
        (h.0 spot acc.slots p both.1, tt)) c

  each_resolved : {A : Type 0} (f : A → Sources) (gs : List (By A)) → Every (ResolvesBy f) gs → (spot : Spot) (slots : Slots) → Plain schema spot.scope
      → Clear (n.each_resolved gs spot slots).note
      → All (in_turn (map f (n.each_resolved gs spot slots).it))
  each_resolved f gs h spot slots p c =
      in_turn_resolved f (n.each_resolved gs spot slots).it (list_resolved f spot p gs h (n.none_resolved slots) (λ c. tt) c)

  -- ---- declarations

  seen_plain : (scope : Scope) (vs : List Variable) → Plain schema scope → Plain schema (n.seeing vs scope)
  seen_plain scope vs p = record { in_function = p.in_function; no_levels = p.no_levels; tables = p.tables }

  decls_resolved : (scope : Scope) → Plain schema scope → (ds : List Decl) → Every P (defaults ds) → (acc : Declared)
      → (Clean acc.note → Every (λ (d : Decl). All (if_there d.default)) acc.it)
      → Clean (fold (n.with_declared scope) acc ds).note → Every (λ (d : Decl). All (if_there d.default)) (fold (n.with_declared scope) acc ds).it
  decls_resolved scope p [] q acc t c = t c
  decls_resolved scope p (d ∷ ds) q acc t c =
      let here : Scope = n.seeing acc.variables scope in
      let x = n.declared d here in
      decls_resolved scope p ds (every_right P (if_there d.default) (defaults ds) q) (n.with_declared scope acc d)
      (λ c. let both = clean_parts acc.note x.note c in
      let rest = clean_parts _ _ (clean_parts _ _ both.1).1 in
      every_append (λ (d : Decl). All (if_there d.default)) acc.it (x.it ∷ []) (t both.0)
      (maybe_resolved d.default here (every_left P (if_there d.default) (defaults ds) q) (seen_plain scope acc.variables p) rest.1, tt)) c

  defaults_resolved : (ds : List Decl) → Every (λ (d : Decl). All (if_there d.default)) ds → All (defaults ds)
  defaults_resolved [] h = tt
  defaults_resolved (d ∷ ds) h = every_append (StandsFor P schema) (if_there d.default) (defaults ds) h.0 (defaults_resolved ds h.1)

  -- ---- statements, by their parts

  abbrev of_stmt : Stmt → Sources
  of_stmt x = stmt_of texts x

  abbrev of_arm : Arm → Sources
  of_arm x = branch_of texts x

  by_parts : (u v : Sources) → u ≡ v → All v → All u
  by_parts u v e h = subst All (sym e) h

  behind : (u v : Sources) → All u → All v → All (u ++ v)
  behind u v h k = every_append (StandsFor P schema) u v h k

  block_resolved : (label : Option Name) (decls : List Decl) (gs : List (By Stmt)) (closing : Option Name) → Every P (defaults decls)
      → Every (ResolvesBy of_stmt) gs → ResolvesBy of_stmt (n.statement (st.Block label decls gs closing))
  block_resolved label decls gs closing q h spot slots p c =
      let ds = n.declared_all decls spot.scope slots in
      let inner = n.within label false ds.variables spot in
      let xs = n.each_resolved gs inner ds.slots in
      let whole = clear_within _ _ xs.note c in
      let own = clean_parts _ ds.note whole.0 in
      by_parts _ _ (eq.of_block texts label ds.it xs.it closing)
      (behind (defaults ds.it) (in_turn (map of_stmt xs.it))
      (defaults_resolved ds.it (decls_resolved spot.scope p decls q (n.none_declared spot.scope slots) (λ c. tt) own.1))
      (each_resolved of_stmt gs h inner ds.slots (seen_plain spot.scope ds.variables p) whole.1))

  other_resolved : (o : Option (List (By Stmt))) → ((gs : List (By Stmt)) → o ≡ Some gs → Every (ResolvesBy of_stmt) gs) → (spot : Spot) (slots : Slots)
      → Plain schema spot.scope
      → Clear (n.maybe_resolved (n.other_by o) spot slots).note → All
      (of_else (option_map (λ body. map of_stmt body) (n.maybe_resolved (n.other_by o) spot slots).it))
  other_resolved None h spot slots p c = tt
  other_resolved (Some gs) h spot slots p c = each_resolved of_stmt gs (h gs refl) spot slots p (clear_within 1 _ (n.each_resolved gs spot slots).note c).1

  branched_resolved : (form : List Arm → Option (List Stmt) → Stmt)
      → ((arms : List Arm) (o : Option (List Stmt)) → of_stmt (form arms o) ≡ in_turn (map of_arm arms) ++ of_else (option_map (λ body. map of_stmt body) o))
      → (arms : List (By Arm)) (o : Option (List (By Stmt))) → Every (ResolvesBy of_arm) arms →
      ((gs : List (By Stmt)) → o ≡ Some gs → Every (ResolvesBy of_stmt) gs) → ResolvesBy of_stmt (n.branching form arms o)
  branched_resolved form is arms o h k spot slots p c =
      let xs = n.each_resolved arms spot slots in
      let y = n.maybe_resolved (n.other_by o) spot xs.slots in
      let both = clear_branches xs.note y.note c in
      by_parts _ _ (is xs.it y.it)
      (behind (in_turn (map of_arm xs.it)) (of_else (option_map (λ body. map of_stmt body) y.it)) (each_resolved of_arm arms h spot slots p both.0)
      (other_resolved o k spot xs.slots p both.1))

  arm_resolved : (test : Expr) (gs : List (By Stmt)) → P test → Every (ResolvesBy of_stmt) gs → ResolvesBy of_arm (n.arm (record { test = test; body = gs }))
  arm_resolved test gs q h spot slots p c =
      let xs = n.each_resolved gs spot slots in
      let x = named_expr test spot.scope in
      let both = clear_within 1 x.note xs.note c in
      behind (x.it ∷ []) (in_turn (map of_stmt xs.it)) (one_resolved test spot.scope q p both.0) (each_resolved of_stmt gs h spot slots p both.1)

  head_resolved : (k : LoopKind) (scope : Scope) (slots : Slots) → Every P (of_kind k) → Plain schema scope → Clean (n.headed k scope slots).note
      → All (of_kind (n.headed k scope slots).it)
  head_resolved kind.Plain scope slots q p c = tt
  head_resolved (kind.While e) scope slots q p c = one_resolved e scope q.0 p c
  head_resolved (kind.Count var reverse first last step) scope slots q p c =
      let bounds = clean_parts _ _ (clean_parts _ _ c).1 in
      let ends = clean_parts _ _ bounds.1 in
      ((one_resolved first scope q.0 p bounds.0).0, ((one_resolved last scope q.1.0 p ends.0).0, maybe_resolved step scope q.1.1 p ends.1))

  loop_resolved : (label : Option Name) (k : LoopKind) (gs : List (By Stmt)) (closing : Option Name) → Every P (of_kind k) → Every (ResolvesBy of_stmt) gs
      → ResolvesBy of_stmt (n.statement (st.Loop label k gs closing))
  loop_resolved label k gs closing q h spot slots p c =
      let head = n.headed k spot.scope slots in
      let inner = n.within label true head.variables spot in
      let xs = n.each_resolved gs inner head.slots in
      let whole = clear_within _ _ xs.note c in
      let own = clean_parts _ head.note whole.0 in
      by_parts _ _ (eq.of_loop texts label head.it xs.it closing)
      (behind (of_kind head.it) (in_turn (map of_stmt xs.it)) (head_resolved k spot.scope slots q p own.1)
      (each_resolved of_stmt gs h inner head.slots (seen_plain spot.scope head.variables p) whole.1))

  assign_resolved : (name : Name) (e : Expr) (spot : Spot) → P e → Plain schema spot.scope → (v : Option Variable)
      → Clean (assigned name v (named_expr e spot.scope)).note → All (of_stmt (assigned name v (named_expr e spot.scope)).it)
  unfolding assigned
  assign_resolved name e spot q p None c = one_resolved e spot.scope q p (clean_parts (breaks rule.Names true) (named_expr e spot.scope).note c).1
  assign_resolved name e spot q p (Some v) c = one_resolved e spot.scope q p (clean_parts (breaks rule.Constants v.constant) (named_expr e spot.scope).note c).1

  -- ---- SELECT INTO

  scalar_is : (q : Select) → expr_of naming (query_of q) ≡ term (ex.Scalar (whole (record { recursive = None; selects = select_of naming q ∷ [] })))
  scalar_is q = tree.of_scalar naming (roll-Query (record { recursive = None; selects = q ∷ [] })) ∙ ap (λ w. term (ex.Scalar w)) (tree.of_query naming (q ∷ []))

  into_resolved : (q : Select) (scope : Scope) → P (query_of q) → Plain schema scope → Clean (named_select q scope).note
      → All (query_of (named_select q scope).it.it ∷ [])
  unfolding named_expr named_select joined breaks clean lesser
  into_resolved q scope h p c = (
    record {
      written = query_of q;
      holds = h;
      scope = scope;
      plain = p;
      clean = ap (λ t. (t.judge scope).note.least) (scalar_is q) ∙ c;
      resolved = ap (λ t. (t.judge scope).it) (scalar_is q);
    },
    tt,
  )

  -- ---- all statements

  some_same : {A : Type 0} (x y : A) → Some x ≡ Some y → x ≡ y
  some_same x y e = cc

  mutual
    pub stmt_resolved : (x : Stmt) → Every P (stmt_of texts x) → ResolvesBy of_stmt (stmt_of resolving x)
    stmt_resolved (b.Block' label decls m body closing) q =
        let more : Sources = in_turn (stmts_of texts body) in
        block_resolved label decls (stmts_of resolving body) closing (every_left P (defaults decls) more q)
        (stmts_resolved body (every_right P (defaults decls) more q))
    stmt_resolved (b.Assign name slot e) q =
        λ spot slots p c. assign_resolved name e spot q.0 p (variable_named name spot.scope.variables) (clean_parts _ _ (clear_own 1 _ c)).1
    stmt_resolved (b.If' m arms o) q =
        let first : Sources = in_turn (branches_of texts arms) in
        let more : Sources = of_else (else_of texts o) in
        branched_resolved (λ arms o. stmt.If arms o) (λ arms o. eq.of_if texts arms o) (branches_of resolving arms) (else_of resolving o)
        (branches_resolved arms (every_left P first more q)) (else_resolved o (every_right P first more q))
    stmt_resolved (b.Cases' m arms o) q =
        let first : Sources = in_turn (branches_of texts arms) in
        let more : Sources = of_else (else_of texts o) in
        branched_resolved (λ arms o. stmt.Cases arms o) (λ arms o. eq.of_cases texts arms o) (branches_of resolving arms) (else_of resolving o)
        (branches_resolved arms (every_left P first more q)) (else_resolved o (every_right P first more q))
    stmt_resolved (b.Loop' label k m body closing) q =
        let more : Sources = in_turn (stmts_of texts body) in
        loop_resolved label k (stmts_of resolving body) closing (every_left P (of_kind k) more q) (stmts_resolved body (every_right P (of_kind k) more q))
    stmt_resolved (b.Exit label when) q = λ spot slots p c. maybe_resolved when spot.scope q p (clean_parts _ _ (clean_parts _ _ (clear_own 1 _ c)).1).1
    stmt_resolved (b.Continue label when) q = λ spot slots p c. maybe_resolved when spot.scope q p (clean_parts _ _ (clean_parts _ _ (clear_own 1 _ c)).1).1
    stmt_resolved (b.Return e) q = λ spot slots p c. one_resolved e spot.scope q.0 p (clear_own 1 _ c)
    stmt_resolved (b.Raise raised) q = λ spot slots p c. tt
    stmt_resolved (b.Into strict targets query) q = λ spot slots p c. into_resolved query spot.scope q.0 p (clean_parts _ _ (clean_parts _ _ (clear_own _ _ c)).1).1
    stmt_resolved b.Nothing q = λ spot slots p c. tt

    stmts_resolved : {m : _} (body : b.Row_of-Stmt m) → Every P (in_turn (stmts_of texts body)) → Every (ResolvesBy of_stmt) (stmts_of resolving body)
    stmts_resolved b.end_of-Stmt q = tt
    stmts_resolved (b.more_of-Stmt x rest) q =
        let more : Sources = in_turn (stmts_of texts rest) in
        (stmt_resolved x (every_left P (stmt_of texts x) more q), stmts_resolved rest (every_right P (stmt_of texts x) more q))

    branches_resolved : {m : _} (arms : b.Row_of-Arm m) → Every P (in_turn (branches_of texts arms))
        → Every (ResolvesBy of_arm) (branches_of resolving arms)
    branches_resolved b.end_of-Arm q = tt
    branches_resolved (b.more_of-Arm test m body rest) q =
        let here : Sources = test ∷ in_turn (stmts_of texts body) in
        let more : Sources = in_turn (branches_of texts rest) in
        let one = every_left P here more q in
        (arm_resolved test (stmts_of resolving body) one.0 (stmts_resolved body one.1), branches_resolved rest (every_right P here more q))

    else_resolved : (o : b.Held-Stmt-If-1) → Every P (of_else (else_of texts o)) → (gs : List (By Stmt)) → else_of resolving o ≡ Some gs
        → Every (ResolvesBy of_stmt) gs
    else_resolved b.None' q gs e = cc
    else_resolved (b.Some' m body) q gs e = subst (Every (ResolvesBy of_stmt)) (some_same (stmts_of resolving body) gs e) (stmts_resolved body q)

-- ---- a whole function

module _ (P : Expr → Type 0) where
  body_resolved : (schema : Schema) (f : Function) → Every P (sources whole_select f.body) → Clear (function_note schema f)
      → Every (StandsFor P schema) (sources whole_select (body_of schema f).it)
  unfolding resolved_stmt sources
  body_resolved schema f q c =
      let body = clear_bodies (length f.params) (head_note f) (body_of schema f).note (types_note schema f) c in
      stmt_resolved P schema f.body q (entry schema f.params) (start f.params).slots (record { in_function = refl; no_levels = refl; tables = refl }) body.0

  pub sources_stand : (schema : Schema) (written f : Function) (slots : List Slot) → IsChecked schema written f slots → Every P (sources whole_select written.body)
      → Every (StandsFor P schema) (sources whole_select (body_of schema written).it)
  sources_stand schema written f slots h q = body_resolved schema written q h.unbroken
