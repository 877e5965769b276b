-- Slots that are in sight where an expression stands are in sight of the run.
use Rattle.std.proofs.Common.{◌≡◌, ℕ, zero, suc, ◌+◌, ◌<◌, ◌^◌, Bool, true, false, ◌&&◌, ◌||◌, ◌==◌, nat_lt, List, [], ◌∷◌, ◌++◌, fold, length, Option, Some, None, refl, sym, ap, ◌∙◌, subst, arith}
use Rattle.std.specs.List.{list_all, range_with_len}
use Rattle.std.proofs.lemmas.Bool.{and_parts, false≢true}
use Rattle.std.proofs.lemmas.Bool.Decides.{nat_tests}
use Rattle.away_values.specs.declared.types.Ty.{Ty}
use Rattle.away_values.specs.declared.values.Value.{Value}
use Rattle.away_trees.specs.declared.queries.Expr.{Expr}
use Rattle.away_trees.specs.declared.schemas.Schema.{Schema}
use Rattle.away_trees.specs.declared.statements.Decl.{Decl}
use Rattle.away_trees.specs.declared.statements.Function.{Function}
use Rattle.away_trees.specs.declared.statements.LoopKind.TheVariants as kind
use Rattle.away_trees.specs.declared.statements.Stmt.{Stmt}
use Rattle.away_trees.specs.declared.statements.Stmt.TheBlock as b
use Rattle.away_trees.specs.StatementAlgebra.{stmt_of, stmts_of, branches_of, else_of}
use Rattle.away_types.specs.declared.slots.Slot.{Slot}
use Rattle.away_types.specs.CheckedFunctions.{IsChecked}
use Rattle.sql_meaning.specs.Reads as read
use Rattle.sql_meaning.specs.Reads.{Read, allows, reads, fits}
use Rattle.sql_meaning.specs.Context.{Rows}
use Rattle.plsql_meaning.specs.Functions.{answer_of, begun, over}
use Rattle.plsql_meaning.specs.Laws.{parameters_of}
use Rattle.plsql_meaning.specs.Outcomes.{Env}
use Rattle.plsql_meaning.specs.Sight as run
use Rattle.plsql_meaning.specs.Sight.{Sight, with_slot, with_slots, Agree, decls_see, kind_sees, maybe_sees, row_sees, arms_see, other_sees, of_expressions, reads_in_sight, seeing}
use Rattle.plsql_meaning.specs.Statements.{meaning}
use Rattle.plsql_meaning.proofs.InSight.{statement_alike}
use Rattle.plsql_meaning.proofs.Readers.{expressions_are_readers}
use Rattle.block_forms.specs.Expressions.{Sources, sources, whole_select, in_turn, if_there, defaults, of_else}
use Rattle.type_soundness.specs.Sorts.{Every}
use Rattle.type_soundness.proofs.Lists.{every_left, every_right}
use Rattle.function_facts.specs.InSight.{is_among, IsSeen, ReadsInSight}
use Rattle.function_facts.specs.Sight as walk
use Rattle.function_facts.specs.Sight.{Declared, Walked, walking}
use Rattle.function_facts.proofs.ParametersInSight.{checked_in_sight}
use Rattle.function_facts.proofs.Found.{whole}
use Rattle.function_facts.proofs.Taken.{every_more}
use Rattle.function_facts.specs.OverTables.{IsOverTables}
use Rattle.function_facts.proofs.Sources.{selects_over}

-- ---- truth values

both_true : (a b : Bool) → a ≡ true → b ≡ true → (a && b) ≡ true
both_true a b h k = λ i. h i && k i

-- ---- sights

-- each slot of the list is in sight
abbrev Wider : List ℕ → Sight → Type 0
Wider seen sight = (i : ℕ) → is_among i seen ≡ true → sight i ≡ true

any_push : (i : ℕ) (seen : List ℕ) (slot : ℕ) → is_among i (seen ++ slot ∷ []) ≡ true → (is_among i seen || (i == slot)) ≡ true
any_push i [] slot h = by (i == slot) h
  where
    by : (b : Bool) → (b || false) ≡ true → b ≡ true
    by true h = refl
    by false h = h
any_push i (x ∷ seen) slot h = by (i == x) (any_push i seen slot) h
  where
    by : (b : Bool) → (is_among i (seen ++ slot ∷ []) ≡ true → (is_among i seen || (i == slot)) ≡ true)
        → (b || is_among i (seen ++ slot ∷ [])) ≡ true → ((b || is_among i seen) || (i == slot)) ≡ true
    by true go h = refl
    by false go h = go h

wider_push : (seen : List ℕ) (slot : ℕ) (sight : Sight) → Wider seen sight → Wider (seen ++ slot ∷ []) (with_slot slot sight)
wider_push seen slot sight w i h = by (is_among i seen) (w i) (any_push i seen slot h)
  where
    by : (b : Bool) → (b ≡ true → sight i ≡ true) → (b || (i == slot)) ≡ true → (sight i || (i == slot)) ≡ true
    by true go h = ap (λ b. b || (i == slot)) (go refl)
    by false go h = at_slot (sight i)
      where
        at_slot : (b : Bool) → (b || (i == slot)) ≡ true
        at_slot true = refl
        at_slot false = h

below : (k a i : ℕ) → is_among i (range_with_len a k) ≡ true → nat_lt i (a + k) ≡ true
below zero a i h = absurd (false≢true h)
below (suc k) a i h = by (i == a) refl (below k (a + 1) i) h
  where
    by : (b : Bool) → (i == a) ≡ b → (is_among i (range_with_len (a + 1) k) ≡ true → nat_lt i ((a + 1) + k) ≡ true)
        → (b || is_among i (range_with_len (a + 1) k)) ≡ true → nat_lt i (a + suc k) ≡ true
    by true e go h = grind (arith, nat_tests)
    by false e go h = subst (λ j. nat_lt i j ≡ true) (omega arith) (go h)

wider_parameters : (k : ℕ) → Wider (range_with_len 0 k) (λ i. nat_lt i k)
wider_parameters k i h = subst (λ j. nat_lt i j ≡ true) (omega arith) (below k 0 i h)

-- ---- expressions

module _ (tables : ℕ) where
  abbrev readers : run.Readers
  readers = of_expressions tables

  abbrev IsOver : Expr → Type 0
  IsOver e = fits (λ i. true) 0 tables e ≡ true

  abbrev AreOver : Sources → Type 0
  AreOver = Every IsOver

  module _ (seen : List ℕ) (sight : Sight) (w : Wider seen sight) where
    all_seen : (rs : List Read) → Every (IsSeen seen) rs → list_all (allows (λ i. true) 0 tables) rs ≡ true → list_all (allows sight 0 tables) rs ≡ true
    all_seen [] h k = refl
    all_seen (read.Slot i ∷ rs) h k = both_true (sight i) (list_all (allows sight 0 tables) rs) (w i h.0) (all_seen rs h.1 k)
    all_seen (read.Param i ∷ rs) h k =
        let both = and_parts (nat_lt i 0) (list_all (allows (λ i. true) 0 tables) rs) k in
        both_true (nat_lt i 0) (list_all (allows sight 0 tables) rs) both.0 (all_seen rs h.1 both.1)
    all_seen (read.Table i ∷ rs) h k =
        let both = and_parts (nat_lt i tables) (list_all (allows (λ i. true) 0 tables) rs) k in
        both_true (nat_lt i tables) (list_all (allows sight 0 tables) rs) both.0 (all_seen rs h.1 both.1)
    all_seen (read.Outer c ∷ rs) h k = absurd (false≢true k)

    one_sees : (e : Expr) (next : ℕ) → Every ReadsInSight (walk.one_expr e next seen).exprs → IsOver e → fits sight 0 tables e ≡ true
    one_sees e next h k = all_seen (reads e) h.0 k

    maybe_is : (o : Option Expr) (next : ℕ) → Every ReadsInSight (walk.maybe_expr o next seen).exprs → AreOver (if_there o) → maybe_sees readers o sight ≡ true
    maybe_is None next h k = refl
    maybe_is (Some e) next h k = one_sees e next h k.0

  -- ---- declarations

  next_of : (ds : List Decl) (acc : Declared) → (fold walk.with_decl acc ds).walked.next ≡ acc.walked.next + length ds
  next_of [] acc = omega arith
  next_of (d ∷ ds) acc = next_of ds (walk.with_decl acc d) ∙ omega arith

  suc_is : (k : ℕ) → k + 1 ≡ suc k
  suc_is k = omega arith

  wider_slots : (ds : List Decl) (acc : Declared) (sight : Sight) → Wider acc.sight sight
      → Wider (fold walk.with_decl acc ds).sight (with_slots (length ds) acc.walked.next sight)
  wider_slots [] acc sight w = w
  wider_slots (d ∷ ds) acc sight w =
      subst (λ k. Wider (fold walk.with_decl (walk.with_decl acc d) ds).sight (with_slots (length ds) k (with_slot acc.walked.next sight)))
      (suc_is acc.walked.next)
      (wider_slots ds (walk.with_decl acc d) (with_slot acc.walked.next sight) (wider_push acc.sight acc.walked.next sight w))

  decls_are : (ds : List Decl) (acc : Declared) (sight : Sight) → Wider acc.sight sight → Every ReadsInSight (fold walk.with_decl acc ds).walked.exprs
      → AreOver (defaults ds) → Every ReadsInSight acc.walked.exprs × (decls_see readers ds acc.walked.next sight ≡ true)
  decls_are [] acc sight w h k = (h, refl)
  decls_are (d ∷ ds) acc sight w h k =
      let next = acc.walked.next in
      let here = (walk.maybe_expr d.default next acc.sight).exprs in
      let rest = decls_are ds (walk.with_decl acc d) (with_slot next sight) (wider_push acc.sight next sight w) h
      (every_right IsOver (if_there d.default) (defaults ds) k) in (
        every_left ReadsInSight acc.walked.exprs here rest.0,
        both_true (maybe_sees readers d.default sight) (decls_see readers ds (suc next) (with_slot next sight))
            (maybe_is acc.sight sight w d.default next (every_right ReadsInSight acc.walked.exprs here rest.0)
            (every_left IsOver (if_there d.default) (defaults ds) k))
            (subst (λ j. decls_see readers ds j (with_slot next sight) ≡ true) (suc_is next) rest.1),
      )

  -- ---- how far a statement's slots go

  maybe_next : (o : Option Expr) (next : ℕ) (seen : List ℕ) → (walk.maybe_expr o next seen).next ≡ next + 0
  maybe_next None next seen = omega arith
  maybe_next (Some e) next seen = omega arith

  mutual
    next_is : (x : Stmt) (next : ℕ) (seen : List ℕ) → (stmt_of walking x next seen).next ≡ next + (stmt_of (seeing readers) x).vars
    next_is (b.Block' label decls n body closing) next seen =
        let ds = walk.declared decls next seen in
        rows_next body (walk.no_expr ds.walked.next ds.sight) ds.sight
        ∙ (ap (λ k. k + run.row_slots (stmts_of (seeing readers) body)) (next_of decls (record { walked = walk.no_expr next seen; sight = seen })) ∙ omega arith)
    next_is (b.Assign name slot e) next seen = omega arith
    next_is (b.If' n arms other) next seen =
        else_next other (walk.all_walks (branches_of walking arms) next seen).next seen
        ∙ (ap (λ k. k + run.other_slots (else_of (seeing readers) other)) (branches_next arms (walk.no_expr next seen) seen) ∙ omega arith)
    next_is (b.Cases' n arms other) next seen =
        else_next other (walk.all_walks (branches_of walking arms) next seen).next seen
        ∙ (ap (λ k. k + run.other_slots (else_of (seeing readers) other)) (branches_next arms (walk.no_expr next seen) seen) ∙ omega arith)
    next_is (b.Loop' label kind.Plain n body closing) next seen = rows_next body (walk.no_expr next seen) seen ∙ omega arith
    next_is (b.Loop' label (kind.While e) n body closing) next seen = rows_next body (walk.no_expr next seen) seen ∙ omega arith
    next_is (b.Loop' label (kind.Count var reverse first last by) n body closing) next seen =
        rows_next body (walk.no_expr (next + 1) (seen ++ next ∷ [])) (seen ++ next ∷ []) ∙ omega arith
    next_is (b.Exit label when) next seen = maybe_next when next seen
    next_is (b.Continue label when) next seen = maybe_next when next seen
    next_is (b.Return e) next seen = omega arith
    next_is (b.Raise raised) next seen = omega arith
    next_is (b.Into strict targets query) next seen = omega arith
    next_is b.Nothing next seen = omega arith

    rows_next : {m : _} (r : b.Row_of-Stmt m) (acc : Walked) (seen : List ℕ)
        → (fold (λ a w. walk.behind a (w a.next seen)) acc (stmts_of walking r)).next ≡ acc.next + run.row_slots (stmts_of (seeing readers) r)
    rows_next b.end_of-Stmt acc seen = omega arith
    rows_next (b.more_of-Stmt x rest) acc seen =
        rows_next rest (walk.behind acc (stmt_of walking x acc.next seen)) seen
        ∙ (ap (λ k. k + run.row_slots (stmts_of (seeing readers) rest)) (next_is x acc.next seen) ∙ omega arith)

    branches_next : {m : _} (r : b.Row_of-Arm m) (acc : Walked) (seen : List ℕ)
        → (fold (λ a w. walk.behind a (w a.next seen)) acc (branches_of walking r)).next ≡ acc.next + run.row_slots (branches_of (seeing readers) r)
    branches_next b.end_of-Arm acc seen = omega arith
    branches_next (b.more_of-Arm test n body rest) acc seen =
        let arm = walk.and_walk (walk.one_expr test) (walk.all_walks (stmts_of walking body)) in
        branches_next rest (walk.behind acc (arm acc.next seen)) seen
        ∙ (ap (λ k. k + run.row_slots (branches_of (seeing readers) rest)) (rows_next body (walk.no_expr acc.next seen) seen) ∙ omega arith)

    else_next : (other : b.Held-Stmt-If-1) (next : ℕ) (seen : List ℕ)
        → (walk.maybe_walk (else_of walking other) next seen).next ≡ next + run.other_slots (else_of (seeing readers) other)
    else_next b.None' next seen = omega arith
    else_next (b.Some' n body) next seen = rows_next body (walk.no_expr next seen) seen

  -- ---- statements

  mutual
    stmt_sees : (x : Stmt) (next : ℕ) (seen : List ℕ) (sight : Sight) → Wider seen sight → Every ReadsInSight (stmt_of walking x next seen).exprs
        → AreOver (stmt_of whole x) → (stmt_of (seeing readers) x).sees next sight ≡ true
    stmt_sees (b.Block' label decls n body closing) next seen sight w h k =
        let first : Declared = record { walked = walk.no_expr next seen; sight = seen } in
        let ds = walk.declared decls next seen in
        let inner = walk.all_walks (stmts_of walking body) ds.walked.next ds.sight in
        let own = in_turn (stmts_of whole body) in
        let declared = decls_are decls first sight w (every_left ReadsInSight ds.walked.exprs inner.exprs h) (every_left IsOver (defaults decls) own k) in
        let rest = rows_see body (walk.no_expr ds.walked.next ds.sight) ds.sight (with_slots (length decls) next sight) (wider_slots decls first sight w)
        (every_right ReadsInSight ds.walked.exprs inner.exprs h) (every_right IsOver (defaults decls) own k) in
        both_true (decls_see readers decls next sight) (row_sees (stmts_of (seeing readers) body) (next + length decls) (with_slots (length decls) next sight))
        declared.1
        (subst (λ j. row_sees (stmts_of (seeing readers) body) j (with_slots (length decls) next sight) ≡ true) (next_of decls first) rest.1)
    stmt_sees (b.Assign name slot e) next seen sight w h k = one_sees seen sight w e next h k.0
    stmt_sees (b.If' n arms other) next seen sight w h k =
        let first = walk.all_walks (branches_of walking arms) next seen in
        let last = walk.maybe_walk (else_of walking other) first.next seen in
        let own = in_turn (branches_of whole arms) in
        let others = of_else (else_of whole other) in
        (branches_see arms (other_sees (else_of (seeing readers) other)) (walk.no_expr next seen) seen sight w (every_left ReadsInSight first.exprs last.exprs h)
        (every_left IsOver own others k) (else_sees other first.next seen sight w (every_right ReadsInSight first.exprs last.exprs h) (every_right IsOver own others k))).1
    stmt_sees (b.Cases' n arms other) next seen sight w h k =
        let first = walk.all_walks (branches_of walking arms) next seen in
        let last = walk.maybe_walk (else_of walking other) first.next seen in
        let own = in_turn (branches_of whole arms) in
        let others = of_else (else_of whole other) in
        (branches_see arms (other_sees (else_of (seeing readers) other)) (walk.no_expr next seen) seen sight w (every_left ReadsInSight first.exprs last.exprs h)
        (every_left IsOver own others k) (else_sees other first.next seen sight w (every_right ReadsInSight first.exprs last.exprs h) (every_right IsOver own others k))).1
    stmt_sees (b.Loop' label kind.Plain n body closing) next seen sight w h k =
        both_true true (row_sees (stmts_of (seeing readers) body) next sight) refl (rows_see body (walk.no_expr next seen) seen sight w h k).1
    stmt_sees (b.Loop' label (kind.While e) n body closing) next seen sight w h k =
        both_true (fits sight 0 tables e) (row_sees (stmts_of (seeing readers) body) next sight) (one_sees seen sight w e next (h.0, tt) k.0)
        (rows_see body (walk.no_expr next seen) seen sight w h.1 k.1).1
    stmt_sees (b.Loop' label (kind.Count var reverse first last by) n body closing) next seen sight w h k =
        let step = (walk.maybe_expr by next seen).exprs in
        let inner = (walk.all_walks (stmts_of walking body) (next + 1) (seen ++ next ∷ [])).exprs in
        let own = in_turn (stmts_of whole body) in
        let body_sees = rows_see body (walk.no_expr (next + 1) (seen ++ next ∷ [])) (seen ++ next ∷ []) (with_slot next sight) (wider_push seen next sight w)
        (every_right ReadsInSight step inner h.1.1) (every_right IsOver (if_there by) own k.1.1) in
        both_true (kind_sees readers (kind.Count var reverse first last by) sight) (row_sees (stmts_of (seeing readers) body) (next + 1) (with_slot next sight))
        (both_true (fits sight 0 tables first) (fits sight 0 tables last && maybe_sees readers by sight) (one_sees seen sight w first next (h.0, tt) k.0)
        (both_true (fits sight 0 tables last) (maybe_sees readers by sight) (one_sees seen sight w last next (h.1.0, tt) k.1.0)
        (maybe_is seen sight w by next (every_left ReadsInSight step inner h.1.1) (every_left IsOver (if_there by) own k.1.1))))
        body_sees.1
    stmt_sees (b.Exit label when) next seen sight w h k = maybe_is seen sight w when next h k
    stmt_sees (b.Continue label when) next seen sight w h k = maybe_is seen sight w when next h k
    stmt_sees (b.Return e) next seen sight w h k = one_sees seen sight w e next h k.0
    stmt_sees (b.Raise raised) next seen sight w h k = refl
    stmt_sees (b.Into strict targets query) next seen sight w h k = one_sees seen sight w (run.query_of query) next h k.0
    stmt_sees b.Nothing next seen sight w h k = refl

    rows_see : {m : _} (r : b.Row_of-Stmt m) (acc : Walked) (seen : List ℕ) (sight : Sight) → Wider seen sight
        → Every ReadsInSight (fold (λ a w. walk.behind a (w a.next seen)) acc (stmts_of walking r)).exprs → AreOver (in_turn (stmts_of whole r))
        → Every ReadsInSight acc.exprs × (row_sees (stmts_of (seeing readers) r) acc.next sight ≡ true)
    rows_see b.end_of-Stmt acc seen sight w h k = (h, refl)
    rows_see (b.more_of-Stmt x rest) acc seen sight w h k =
        let here = stmt_of walking x acc.next seen in
        let own = stmt_of whole x in
        let others = in_turn (stmts_of whole rest) in
        let more = rows_see rest (walk.behind acc here) seen sight w h (every_right IsOver own others k) in (
          every_left ReadsInSight acc.exprs here.exprs more.0,
          both_true ((stmt_of (seeing readers) x).sees acc.next sight) (row_sees (stmts_of (seeing readers) rest) (acc.next + (stmt_of (seeing readers) x).vars) sight)
              (stmt_sees x acc.next seen sight w (every_right ReadsInSight acc.exprs here.exprs more.0) (every_left IsOver own others k))
              (subst (λ j. row_sees (stmts_of (seeing readers) rest) j sight ≡ true) (next_is x acc.next seen) more.1),
        )

    -- the arms, behind which stands what sees its slots
    branches_see : {m : _} (r : b.Row_of-Arm m) (other : ℕ → Sight → Bool) (acc : Walked) (seen : List ℕ) (sight : Sight) → Wider seen sight
        → Every ReadsInSight (fold (λ a w. walk.behind a (w a.next seen)) acc (branches_of walking r)).exprs → AreOver (in_turn (branches_of whole r))
        → other (fold (λ a w. walk.behind a (w a.next seen)) acc (branches_of walking r)).next sight ≡ true
        → Every ReadsInSight acc.exprs × (arms_see (branches_of (seeing readers) r) other acc.next sight ≡ true)
    branches_see b.end_of-Arm other acc seen sight w h k last = (h, last)
    branches_see (b.more_of-Arm test n body rest) other acc seen sight w h k last =
        let arm = walk.and_walk (walk.one_expr test) (walk.all_walks (stmts_of walking body)) acc.next seen in
        let own = test ∷ in_turn (stmts_of whole body) in
        let others = in_turn (branches_of whole rest) in
        let more = branches_see rest other (walk.behind acc arm) seen sight w h (every_right IsOver own others k) last in
        let here = every_right ReadsInSight acc.exprs arm.exprs more.0 in
        let mine = every_left IsOver own others k in (
          every_left ReadsInSight acc.exprs arm.exprs more.0,
          both_true (fits sight 0 tables test && row_sees (stmts_of (seeing readers) body) acc.next sight)
              (arms_see (branches_of (seeing readers) rest) other (acc.next + run.row_slots (stmts_of (seeing readers) body)) sight)
              (both_true (fits sight 0 tables test) (row_sees (stmts_of (seeing readers) body) acc.next sight) (one_sees seen sight w test acc.next (here.0, tt) mine.0)
              (rows_see body (walk.no_expr acc.next seen) seen sight w here.1 mine.1).1)
              (subst (λ j. arms_see (branches_of (seeing readers) rest) other j sight ≡ true) (rows_next body (walk.no_expr acc.next seen) seen) more.1),
        )

    else_sees : (other : b.Held-Stmt-If-1) (next : ℕ) (seen : List ℕ) (sight : Sight) → Wider seen sight
        → Every ReadsInSight (walk.maybe_walk (else_of walking other) next seen).exprs → AreOver (of_else (else_of whole other)) → other_sees (else_of (seeing readers) other) next sight ≡ true
    else_sees b.None' next seen sight w h k = refl
    else_sees (b.Some' n body) next seen sight w h k = (rows_see body (walk.no_expr next seen) seen sight w h k).1

-- ---- a checked function

pub read_in_sight : (s : Schema) (written f : Function) (slots : List Slot) → IsChecked s written f slots → length s.tables < 2 ^ 64
    → reads_in_sight (of_expressions (length s.tables)) f.body (length f.params) (parameters_of f) ≡ true
unfolding sources
read_in_sight s written f slots c small =
    let tables = length s.tables in
    stmt_sees tables f.body (length f.params) (range_with_len 0 (length f.params)) (parameters_of f) (wider_parameters (length f.params))
    (checked_in_sight s written f slots c)
    (every_more (IsOverTables tables) (IsOver tables) (λ e h. h.reads_own) (sources whole_select f.body) (selects_over s written f slots c small))

pub answers_alike : (s : Schema) (written f : Function) (slots : List Slot) → IsChecked s written f slots → length s.tables < 2 ^ 64 → (T : List Rows)
    → length T ≡ length s.tables → (typed : List (Ty × Bool)) (args : List Value) (env : Env) (n : ℕ)
    → Agree (parameters_of f) (begun (over T typed) f args) env
    → answer_of ((meaning (over T typed) f.body).run (length f.params) env n).outcome
    ≡ answer_of ((meaning (over T typed) f.body).run (length f.params) (begun (over T typed) f args) n).outcome
answers_alike s written f slots c small T many typed args env n agree =
    let sees = subst (λ k. reads_in_sight (of_expressions k) f.body (length f.params) (parameters_of f) ≡ true) (sym many) (read_in_sight s written f slots c small) in
    ap answer_of
    (sym (statement_alike (over T typed) (of_expressions (length T)) (expressions_are_readers T typed) f.body (length f.params) (parameters_of f) sees
    (begun (over T typed) f args) env n agree).outcome)
