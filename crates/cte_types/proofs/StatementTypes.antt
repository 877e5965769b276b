-- The parts of each statement have the types that it asks of its expressions, where these stand in the table and its variables among the slots.
use Rattle.std.proofs.Common.{◌≡◌, refl, ℕ, suc, ◌+◌, ◌<◌, ◌≤◌, Bool, List, [], ◌∷◌, ◌++◌, fold, map, length, Option, Some, None, arith}
use Rattle.away_values.specs.declared.types.Ty.{Ty}
use Rattle.away_values.specs.declared.types.Ty.TheVariants as ty
use Rattle.away_values.specs.declared.values.Class.{Class}
use Rattle.away_trees.specs.declared.queries.Expr.{Expr}
use Rattle.away_trees.specs.declared.queries.Select.{Select}
use Rattle.away_trees.specs.declared.statements.Decl.{Decl}
use Rattle.away_trees.specs.declared.statements.LoopKind.{LoopKind}
use Rattle.away_trees.specs.declared.statements.LoopKind.TheVariants as kind
use Rattle.away_trees.specs.declared.statements.Stmt.{Stmt}
use Rattle.away_trees.specs.declared.statements.Stmt.TheBlock as b
use Rattle.away_trees.specs.StatementAlgebra.{StatementAlgebra, stmt_of, stmts_of, branches_of, else_of}
use Rattle.away_names.specs.declared.note.Note.{Note}
use Rattle.away_names.specs.Notes.{clean, joined}
use Rattle.away_types.specs.declared.finding.Report.{Report}
use Rattle.away_types.specs.Findings.{own, nothing, followed}
use Rattle.away_types.specs.declared.slots.Slot.{Slot}
use Rattle.away_types.specs.StatementTypes as checks
use Rattle.away_types.specs.StatementTypes.{Asked, asked, maybe_asked, asked_of_slot, head_asked}
use Rattle.elaboration.specs.Converting as C
use Rattle.plsql_meaning.specs.Outcomes.{Label, case_not_found}
use Rattle.select_into.specs.Entries.{Target, into_entries}
use Rattle.block_forms.specs.declared.forms.Term.{Term}
use Rattle.block_forms.specs.declared.places.Position.{Position}
use Rattle.block_forms.specs.Around.{Around, exit_to, again_to}
use Rattle.block_forms.specs.Expressions.{Sources, in_turn, if_there, defaults, of_kind, of_else, sourcing}
use Rattle.block_forms.specs.Intos.{Into, selecting, row_intos, else_intos}
use Rattle.block_forms.specs.Laid.{Setting, Laid, LaidArm, laying, place, after, nothing as no_size, a_node, with_expr, decl_size, decls_size, kind_size, into_size, row_size, arms_size, else_size, first_block, row_parts, decl_parts, decls_parts, arms_parts, lack, lack_parts, else_parts, branch_parts, inside_of, block_parts, again_of, kind_parts, loop_parts, one_if}
use Rattle.block_forms.specs.Patterns.{Part, node, no_of, source_term}
use Rattle.block_forms.specs.Slots as slot
use Rattle.block_forms.specs.Slots.{slot_of, joined as in_row, declaring}
use Rattle.away_types.proofs.ClearReports.{Clear, clear_own, clear_parts, clear_within, clear_branches}
use Rattle.type_soundness.proofs.CleanNotes.{Clean, clean_parts}
use Rattle.cte_types.proofs.FixedTypes.{FixedHave}
use Rattle.cte_types.proofs.IntoParts.{entries_many, into_has}
use Rattle.cte_types.proofs.PartTypes.{places, around, Has, AllHave, have_both, source_has}
use Rattle.cte_types.proofs.PieceTypes.{ForAt, leave_has, exit_has, decl_has, assigned_has, kind_has}
use Rattle.cte_types.proofs.Positions.{Counted, counted_both, Stand, stand_left, stand_right, stand_at, intos_same}
use Rattle.cte_types.proofs.Standing.{row_same, Entry, SlotAt}

module _ (tables : List (List Ty)) (table : List Expr) (result : Ty) (s : Setting) (shown : List Ty) (fors : ℕ)
    (fixed : FixedHave tables table s.slots result s.numbers.fixed)
    (hidden : (f : ℕ) → f < fors → ForAt s f) where
  abbrev Have : List Part → Type 0
  Have = AllHave tables table s.slots result

  abbrev HasIt : Ty → Term → Type 0
  HasIt = Has tables table s.slots result

  abbrev a : Asked
  a = places tables table s.slots result

  abbrev w : C.Around
  w = around tables table s.slots result

  abbrev Stands : Position → Position → Sources → List Slot → List Into → Type 0
  Stands = Stand table s w shown fors

  abbrev of_texts : StatementAlgebra
  of_texts = sourcing (into_entries shown)

  both : (ps qs : List Part) → Have ps → Have qs → Have (ps ++ qs)
  both = have_both tables table s.slots result

  source : (k : ℕ) (t : Ty) (e : Expr) → Entry table k e → Clean (asked a t e) → HasIt t (source_term k e)
  source = source_has tables table s.slots result

  -- ---- statements, rows, arms and ELSE

  pub record StatementHas (x : Laid) (es : Sources) (ds : List Slot) (is : List Into) : Type 0 where
    pub count : Counted x.size es ds is
    pub goes : (p : Position) (around : Around) (next : ℕ) → Stands p x.size es ds is → Have (x.parts s p around next)

  record RowHas (xs : List Laid) (ess : List Sources) (dss : List (List Slot)) (iss : List (List Into)) : Type 0 where
    count : Counted (row_size xs) (in_turn ess) (in_row dss) (row_intos iss)
    goes : (p : Position) (around : Around) (next : ℕ) → Stands p (row_size xs) (in_turn ess) (in_row dss) (row_intos iss) → Have (row_parts s xs p around next)

  record ArmsHave (xs : List LaidArm) (ess : List Sources) (dss : List (List Slot)) (iss : List (List Into)) : Type 0 where
    count : Counted (arms_size xs) (in_turn ess) (in_row dss) (row_intos iss)
    goes : (p : Position) (around : Around) (next c : ℕ) → Stands p (arms_size xs) (in_turn ess) (in_row dss) (row_intos iss) → Have (arms_parts s xs p around next c)

  record ElseHas (x : Option (List Laid)) (o : Option (List Sources)) (ds : Option (List (List Slot))) (is : Option (List (List Into))) : Type 0 where
    count : Counted (else_size x) (of_else o) (slot.of_else ds) (else_intos is)
    goes : (p : Position) (around : Around) (next c : ℕ) (without : Option Class) → Stands p (else_size x) (of_else o) (slot.of_else ds) (else_intos is)
        → Have (else_parts s x without p around next c)

  left : (p n m : Position) (es fs : Sources) (ds cs : List Slot) (is js : List Into) → Stands p (after n m) (es ++ fs) (ds ++ cs) (is ++ js) → Stands p n es ds is
  left = stand_left table s w shown fors

  right : (p n m : Position) (es fs : Sources) (ds cs : List Slot) (is js : List Into) → Counted n es ds is → Stands p (after n m) (es ++ fs) (ds ++ cs) (is ++ js)
      → Stands (after p n) m fs cs js
  right = stand_right table s w shown fors

  at : (p q n m : Position) (es : Sources) (ds : List Slot) (is : List Into) → p.expr ≡ q.expr → p.slot ≡ q.slot → q.fors + m.fors ≤ p.fors + n.fors
      → p.targets ≡ q.targets → Stands p n es ds is → Stands q m es ds is
  at = stand_at table s w shown fors

  no_count : Counted no_size [] [] []
  no_count = record { exprs = refl; slots = refl; targets = refl }

  no_row : RowHas [] [] [] []
  no_row = record { count = no_count; goes = λ p around next h. tt }

  more_row : (x : Laid) (es : Sources) (ds : List Slot) (is : List Into) (xs : List Laid) (ess : List Sources) (dss : List (List Slot)) (iss : List (List Into))
      → StatementHas x es ds is → RowHas xs ess dss iss → RowHas (x ∷ xs) (es ∷ ess) (ds ∷ dss) (is ∷ iss)
  more_row x es ds is xs ess dss iss f r = record {
    count = counted_both x.size (row_size xs) es (in_turn ess) ds (in_row dss) is (row_intos iss) f.count r.count;
    goes = λ p around next h.
        let middle = first_block s (length xs) (p.node + x.size.node) next in
        both (x.parts s p around middle) (row_parts s xs (after p x.size) around next)
        (f.goes p around middle (left p x.size (row_size xs) es (in_turn ess) ds (in_row dss) is (row_intos iss) h))
        (r.goes (after p x.size) around next (right p x.size (row_size xs) es (in_turn ess) ds (in_row dss) is (row_intos iss) f.count h));
  }

  no_arms : ArmsHave [] [] [] []
  no_arms = record { count = no_count; goes = λ p around next c h. tt }

  abbrev laid_arm : Expr → List Laid → LaidArm
  laid_arm test body = record { test = test; size = after with_expr (row_size body); body = body }

  arm_count : (n : Position) (test : Expr) (es : Sources) (ds : List Slot) (is : List Into) → Counted n es ds is → Counted (after with_expr n) (test ∷ es) ds is
  arm_count n test es ds is h = record { exprs = omega (arith, h.exprs); slots = omega (arith, h.slots); targets = omega (arith, h.targets) }

  more_arms : (test : Expr) (x : List Laid) (xes : List Sources) (xds : List (List Slot)) (xis : List (List Into)) (xs : List LaidArm) (ess : List Sources)
      (dss : List (List Slot)) (iss : List (List Into))
      → Clean (asked a ty.Boolean test) → RowHas x xes xds xis → ArmsHave xs ess dss iss
      → ArmsHave (laid_arm test x ∷ xs) ((test ∷ in_turn xes) ∷ ess) (in_row xds ∷ dss) (row_intos xis ∷ iss)
  more_arms test x xes xds xis xs ess dss iss n f r = record {
    count = counted_both whole (arms_size xs) es (in_turn ess) (in_row xds) (in_row dss) (row_intos xis) (row_intos iss) mine r.count;
    goes = λ p around next c h.
        let first = left p whole (arms_size xs) es (in_turn ess) (in_row xds) (in_row dss) (row_intos xis) (row_intos iss) h in
        let body : Stands (after p with_expr) (row_size x) (in_turn xes) (in_row xds) (row_intos xis) = record {
          exprs = row_same (Entry table) (suc p.expr) (after p with_expr).expr (in_turn xes) (omega arith) first.exprs.1;
          slots = row_same (SlotAt s.slots) p.slot (after p with_expr).slot (in_row xds) (omega arith) first.slots;
          room = omega (arith, first.room);
          intos = intos_same table s w shown fors p.targets (after p with_expr).targets (row_intos xis) (omega arith) first.intos;
        } in (
          tt,
          (
            (tt, source p.expr ty.Boolean test first.exprs.0 n),
            both (row_parts s x (after p with_expr) around next) (arms_parts s xs (after p whole) around next (no_of s.goto c))
                (f.goes (after p with_expr) around next body)
                (r.goes (after p whole) around next (no_of s.goto c)
                (right p whole (arms_size xs) es (in_turn ess) (in_row xds) (in_row dss) (row_intos xis) (row_intos iss) mine h)),
          ),
        );
  }
    where
      whole : Position
      whole = after with_expr (row_size x)

      es : Sources
      es = test ∷ in_turn xes

      mine : Counted (after with_expr (row_size x)) (test ∷ in_turn xes) (in_row xds) (row_intos xis)
      mine = arm_count (row_size x) test (in_turn xes) (in_row xds) (row_intos xis) f.count

  no_else : ElseHas None None None None
  no_else = record { count = no_count; goes = λ p around next c without h. lacks next c without }
    where
      lacks : (next c : ℕ) (without : Option Class) → Have (lack_parts s without c next)
      lacks next c None = (tt, tt)
      lacks next c (Some x) = ((tt, tt), tt)

  -- a node before other text
  node_count : (n : Position) (es : Sources) (ds : List Slot) (is : List Into) → Counted n es ds is → Counted (after a_node n) es ds is
  node_count n es ds is h = record { exprs = omega (arith, h.exprs); slots = omega (arith, h.slots); targets = omega (arith, h.targets) }

  behind_node : (p n : Position) (es : Sources) (ds : List Slot) (is : List Into) → Stands p (after a_node n) es ds is → Stands (after p a_node) n es ds is
  behind_node p n es ds is = at p (after p a_node) (after a_node n) n es ds is (omega arith) (omega arith) (omega arith) (omega arith)

  some_else : (x : List Laid) (xes : List Sources) (xds : List (List Slot)) (xis : List (List Into)) → RowHas x xes xds xis → ElseHas (Some x) (Some xes) (Some xds) (Some xis)
  some_else x xes xds xis f = record {
    count = node_count (row_size x) (in_turn xes) (in_row xds) (row_intos xis) f.count;
    goes = λ p around next c without h.
        (tt, (tt, f.goes (after p a_node) around next (behind_node p (row_size x) (in_turn xes) (in_row xds) (row_intos xis) h)));
  }

  branch_whole : (x : List LaidArm) (ess : List Sources) (dss : List (List Slot)) (iss : List (List Into)) (xo : Option (List Laid)) (o : Option (List Sources))
      (ds : Option (List (List Slot))) (is : Option (List (List Into)))
      → ArmsHave x ess dss iss → ElseHas xo o ds is → (without : Option Class)
      → StatementHas (record { size = after (after a_node (arms_size x)) (else_size xo); parts = λ s. branch_parts s x xo without })
      (in_turn ess ++ of_else o) (in_row dss ++ slot.of_else ds) (row_intos iss ++ else_intos is)
  branch_whole x ess dss iss xo o ds is f fo without = record {
    count = counted_both first (else_size xo) (in_turn ess) (of_else o) (in_row dss) (slot.of_else ds) (row_intos iss) (else_intos is) mine fo.count;
    goes = λ p around next h.
        let c = node s.goto p.node in
        let rest = after p first in
        both (arms_parts s x (after p a_node) around next c) (else_parts s xo without rest around next (lack s x c))
        (f.goes (after p a_node) around next c (behind_node p (arms_size x) (in_turn ess) (in_row dss) (row_intos iss)
        (left p first (else_size xo) (in_turn ess) (of_else o) (in_row dss) (slot.of_else ds) (row_intos iss) (else_intos is) h)))
        (fo.goes rest around next (lack s x c) without
        (right p first (else_size xo) (in_turn ess) (of_else o) (in_row dss) (slot.of_else ds) (row_intos iss) (else_intos is) mine h));
  }
    where
      first : Position
      first = after a_node (arms_size x)

      mine : Counted (after a_node (arms_size x)) (in_turn ess) (in_row dss) (row_intos iss)
      mine = node_count (arms_size x) (in_turn ess) (in_row dss) (row_intos iss) f.count

  -- ---- a block

  decl_count : (d : Decl) → Counted (decl_size d) (if_there d.default) (slot_of d ∷ []) []
  decl_count d = by d.default
    where
      by : (o : Option Expr) → Counted (place 1 (one_if o) 1 0 0) (if_there o) (slot_of d ∷ []) []
      by None = record { exprs = refl; slots = refl; targets = refl }
      by (Some e) = record { exprs = refl; slots = refl; targets = refl }

  decls_count : (ds : List Decl) → Counted (decls_size ds) (defaults ds) (map slot_of ds) []
  decls_count [] = no_count
  decls_count (d ∷ ds) = counted_both (decl_size d) (decls_size ds) (if_there d.default) (defaults ds) (slot_of d ∷ []) (map slot_of ds) [] [] (decl_count d) (decls_count ds)

  abbrev AreAsked : List Decl → Type 0
  AreAsked [] = Unit {0}
  AreAsked (d ∷ ds) = Clean (maybe_asked a d.ty d.default) × AreAsked ds

  are_asked : (ds : List Decl) (acc : Note) → Clean (fold (λ n (d : Decl). joined n (maybe_asked a d.ty d.default)) acc ds) → Clean acc × AreAsked ds
  are_asked [] acc c = (c, tt)
  are_asked (d ∷ ds) acc c =
      let rest = are_asked ds (joined acc (maybe_asked a d.ty d.default)) c in
      let two = clean_parts acc (maybe_asked a d.ty d.default) rest.0 in
      (two.0, (two.1, rest.1))

  decls_have : (ds : List Decl) (p : Position) (next : ℕ) → Stands p (decls_size ds) (defaults ds) (map slot_of ds) [] → AreAsked ds
      → Have (decls_parts s ds p next)
  decls_have [] p next h n = tt
  decls_have (x ∷ ds) p next h n =
      let middle = first_block s (length ds) (p.node + 1) next in
      let first = left p (decl_size x) (decls_size ds) (if_there x.default) (defaults ds) (slot_of x ∷ []) (map slot_of ds) [] [] h in
      both (decl_parts s x p middle) (decls_parts s ds (after p (decl_size x)) next)
      (decl_has tables table result s fors fixed hidden x p middle first.exprs first.slots.0 n.0)
      (decls_have ds (after p (decl_size x)) next
      (right p (decl_size x) (decls_size ds) (if_there x.default) (defaults ds) (slot_of x ∷ []) (map slot_of ds) [] [] (decl_count x) h) n.1)

  block_whole : (label : Label) (ds : List Decl) (x : List Laid) (xes : List Sources) (xds : List (List Slot)) (xis : List (List Into)) → AreAsked ds → RowHas x xes xds xis
      → StatementHas (record { size = after (after a_node (decls_size ds)) (row_size x); parts = λ s. block_parts s label ds x })
      (defaults ds ++ in_turn xes) (map slot_of ds ++ in_row xds) (row_intos xis)
  block_whole label ds x xes xds xis n f = record {
    count = counted_both first (row_size x) (defaults ds) (in_turn xes) (map slot_of ds) (in_row xds) [] (row_intos xis) mine f.count;
    goes = λ p around next h.
        let inside = inside_of s ds p in
        let inner : Around = record { label = label; exit = next; again = None } ∷ around in
        let middle = first_block s (length x) inside.node next in (
          tt,
          both (decls_parts s ds (after p a_node) middle) (row_parts s x inside inner next)
              (decls_have ds (after p a_node) middle (behind_node p (decls_size ds) (defaults ds) (map slot_of ds) []
              (left p first (row_size x) (defaults ds) (in_turn xes) (map slot_of ds) (in_row xds) [] (row_intos xis) h)) n)
              (f.goes inside inner next (at (after p first) inside (row_size x) (row_size x) (in_turn xes) (in_row xds) (row_intos xis)
              (omega arith) (omega arith) (omega arith) (omega arith)
              (right p first (row_size x) (defaults ds) (in_turn xes) (map slot_of ds) (in_row xds) [] (row_intos xis) mine h))),
        );
  }
    where
      first : Position
      first = after a_node (decls_size ds)

      mine : Counted (after a_node (decls_size ds)) (defaults ds) (map slot_of ds) []
      mine = node_count (decls_size ds) (defaults ds) (map slot_of ds) [] (decls_count ds)

  -- ---- loops

  kind_count : (k : LoopKind) → Counted (kind_size k) (of_kind k) (slot.of_kind k) []
  kind_count kind.Plain = record { exprs = refl; slots = refl; targets = refl }
  kind_count (kind.While e) = record { exprs = refl; slots = refl; targets = refl }
  kind_count (kind.Count name reverse first last None) = record { exprs = refl; slots = refl; targets = refl }
  kind_count (kind.Count name reverse first last (Some e)) = record { exprs = refl; slots = refl; targets = refl }

  loop_whole : (label : Label) (k : LoopKind) (x : List Laid) (xes : List Sources) (xds : List (List Slot)) (xis : List (List Into)) → Clean (head_asked k a)
      → RowHas x xes xds xis
      → StatementHas (record { size = after (kind_size k) (row_size x); parts = λ s. loop_parts s label k x }) (of_kind k ++ in_turn xes)
      (slot.of_kind k ++ in_row xds) (row_intos xis)
  loop_whole label k x xes xds xis n f = record {
    count = counted_both (kind_size k) (row_size x) (of_kind k) (in_turn xes) (slot.of_kind k) (in_row xds) [] (row_intos xis) (kind_count k) f.count;
    goes = λ p around next h.
        let again = again_of s k p in
        let inside = after p (kind_size k) in
        let inner : Around = record { label = label; exit = next; again = Some again } ∷ around in
        let body = first_block s (length x) (p.node + 1) again in
        let head = left p (kind_size k) (row_size x) (of_kind k) (in_turn xes) (slot.of_kind k) (in_row xds) [] (row_intos xis) h in
        both (kind_parts s k p body next) (row_parts s x inside inner again)
        (kind_has tables table result s fors fixed hidden k p body next n head.exprs head.slots head.room)
        (f.goes inside inner again (right p (kind_size k) (row_size x) (of_kind k) (in_turn xes) (slot.of_kind k) (in_row xds) [] (row_intos xis) (kind_count k) h));
  }

  -- ---- each statement

  -- a node with an expression, which takes no slot
  with_one : (e : Expr) → Counted with_expr (e ∷ []) [] []
  with_one e = record { exprs = refl; slots = refl; targets = refl }

  without : Counted a_node [] [] []
  without = record { exprs = refl; slots = refl; targets = refl }

  assign_has : (name : List ℕ) (x : Option ℕ) (e : Expr) → Clean (asked_of_slot a (checks.slot_of a x) e)
      → StatementHas (stmt_of laying (b.Assign name x e)) (e ∷ []) [] []
  assign_has name None e n = record { count = with_one e; goes = λ p around next h. ((tt, tt), tt) }
  assign_has name (Some x) e n = record {
    count = with_one e;
    goes = λ p around next h. assigned_has tables table result s fors fixed hidden x e p next h.exprs.0 n;
  }

  leave_count : (when : Option Expr) → Counted (place 1 (one_if when) 0 0 0) (if_there when) [] []
  leave_count None = record { exprs = refl; slots = refl; targets = refl }
  leave_count (Some e) = record { exprs = refl; slots = refl; targets = refl }

  into_count : (strict : Bool) (targets : List Target) (query : Select)
      → Counted (into_size strict targets) (into_entries shown strict targets query) [] (record { targets = targets; query = query } ∷ [])
  into_count strict targets query = record { exprs = entries_many shown strict targets query; slots = refl; targets = omega arith }

  mutual
    pub statement_has : (x : Stmt) → Clear (stmt_of checks.asking x a)
        → StatementHas (stmt_of laying x) (stmt_of of_texts x) (stmt_of declaring x) (stmt_of selecting x)
    statement_has (b.Block' label decls m body closing) n =
        let two = clear_within _ (checks.defaults decls a) (checks.all_by (stmts_of checks.asking body) a) n in
        block_whole label decls (stmts_of laying body) (stmts_of of_texts body) (stmts_of declaring body) (stmts_of selecting body) (are_asked decls clean two.0).1
        (row_has body nothing two.1).1
    statement_has (b.Assign name x e) n = assign_has name x e (clear_own 1 _ n)
    statement_has (b.If' m arms other) n =
        let two = clear_branches (checks.all_by (branches_of checks.asking arms) a) (checks.maybe_by (else_of checks.asking other) a) n in
        branch_whole (branches_of laying arms) (branches_of of_texts arms) (branches_of declaring arms) (branches_of selecting arms) (else_of laying other)
        (else_of of_texts other) (else_of declaring other) (else_of selecting other) (arms_have arms nothing two.0).1 (else_has other two.1) None
    statement_has (b.Cases' m arms other) n =
        let two = clear_branches (checks.all_by (branches_of checks.asking arms) a) (checks.maybe_by (else_of checks.asking other) a) n in
        branch_whole (branches_of laying arms) (branches_of of_texts arms) (branches_of declaring arms) (branches_of selecting arms) (else_of laying other)
        (else_of of_texts other) (else_of declaring other) (else_of selecting other) (arms_have arms nothing two.0).1 (else_has other two.1) (Some case_not_found)
    statement_has (b.Loop' label kind m body closing) n =
        let two = clear_within 1 (head_asked kind a) (checks.all_by (stmts_of checks.asking body) a) n in
        loop_whole label kind (stmts_of laying body) (stmts_of of_texts body) (stmts_of declaring body) (stmts_of selecting body) two.0 (row_has body nothing two.1).1
    statement_has (b.Exit label when) n = record {
      count = leave_count when;
      goes = λ p around next h. exit_has tables table result s fors fixed hidden when p.expr (node s.goto p.node)
          (exit_to s.goto.finish around label) next h.exprs (clear_own 1 _ n);
    }
    statement_has (b.Continue label when) n = record {
      count = leave_count when;
      goes = λ p around next h. leave_has tables table result s fors fixed hidden when p.expr (node s.goto p.node)
          (again_to s.goto.finish around label) next h.exprs (clear_own 1 _ n);
    }
    statement_has (b.Return e) n = record { count = with_one e; goes = λ p around next h. ((tt, source p.expr result e h.exprs.0 (clear_own 1 _ n)), tt) }
    statement_has (b.Raise raised) n = record { count = without; goes = λ p around next h. ((tt, tt), tt) }
    statement_has (b.Into strict targets query) n = record {
      count = into_count strict targets query;
      goes = λ p around next h. into_has tables table result s shown fors fixed hidden strict targets query (clear_own _ _ n) p next h.exprs h.intos.0.0 h.intos.0.1.0 h.intos.0.1.1;
    }
    statement_has b.Nothing n = record { count = without; goes = λ p around next h. ((tt, tt), tt) }

    row_has : {m : _} (r : b.Row_of-Stmt m) (acc : Report) → Clear (fold (λ r (f : checks.By). followed r (f a)) acc (stmts_of checks.asking r))
        → Clear acc × RowHas (stmts_of laying r) (stmts_of of_texts r) (stmts_of declaring r) (stmts_of selecting r)
    row_has b.end_of-Stmt acc c = (c, no_row)
    row_has (b.more_of-Stmt x rest) acc c =
        let more = row_has rest (followed acc (stmt_of checks.asking x a)) c in
        let two = clear_parts acc (stmt_of checks.asking x a) more.0 in (
          two.0,
          more_row (stmt_of laying x) (stmt_of of_texts x) (stmt_of declaring x) (stmt_of selecting x) (stmts_of laying rest) (stmts_of of_texts rest)
              (stmts_of declaring rest) (stmts_of selecting rest) (statement_has x two.1) more.1,
        )

    arms_have : {m : _} (r : b.Row_of-Arm m) (acc : Report) → Clear (fold (λ r (f : checks.By). followed r (f a)) acc (branches_of checks.asking r))
        → Clear acc × ArmsHave (branches_of laying r) (branches_of of_texts r) (branches_of declaring r) (branches_of selecting r)
    arms_have b.end_of-Arm acc c = (c, no_arms)
    arms_have (b.more_of-Arm test m body rest) acc c =
        let note = followed (own 1 (asked a ty.Boolean test)) (checks.all_by (stmts_of checks.asking body) a) in
        let more = arms_have rest (followed acc note) c in
        let two = clear_parts acc note more.0 in
        let arm = clear_within 1 (asked a ty.Boolean test) (checks.all_by (stmts_of checks.asking body) a) two.1 in (
          two.0,
          more_arms test (stmts_of laying body) (stmts_of of_texts body) (stmts_of declaring body) (stmts_of selecting body) (branches_of laying rest)
              (branches_of of_texts rest) (branches_of declaring rest) (branches_of selecting rest)
              arm.0 (row_has body nothing arm.1).1 more.1,
        )

    else_has : (r : b.Held-Stmt-If-1) → Clear (checks.maybe_by (else_of checks.asking r) a)
        → ElseHas (else_of laying r) (else_of of_texts r) (else_of declaring r) (else_of selecting r)
    else_has b.None' c = no_else
    else_has (b.Some' m body) c =
        some_else (stmts_of laying body) (stmts_of of_texts body) (stmts_of declaring body) (stmts_of selecting body)
        (row_has body nothing (clear_within 1 clean (checks.all_by (stmts_of checks.asking body) a) c).1).1
