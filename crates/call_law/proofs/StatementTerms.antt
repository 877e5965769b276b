-- The parts of each statement fit the expressions that it has in the table.
use Rattle.std.proofs.Common.{◌≡◌, refl, ap, sym, ◌∙◌, subst, ℕ, zero, suc, ◌+◌, Bool, true, false, List, [], ◌∷◌, ◌++◌, length, map, get_or, slice_get, length-append, Option, Some, None, arith}
use Rattle.std.proofs.lemmas.List.{length-map}
use Rattle.away_values.specs.Classes.{is_class}
use Rattle.away_values.specs.declared.types.Ty.{Ty}
use Rattle.away_values.specs.declared.types.Ty.TheVariants as ty
use Rattle.away_values.specs.declared.values.Class.{Class}
use Rattle.away_trees.specs.declared.queries.Expr.{Expr}
use Rattle.away_trees.specs.declared.queries.Expr.TheVariants as expr
use Rattle.away_trees.specs.declared.queries.Expr.TheViews.{out-Select}
use Rattle.away_trees.specs.declared.queries.Select.{Select}
use Rattle.away_trees.specs.declared.statements.Decl.{Decl}
use Rattle.away_trees.specs.declared.statements.LoopKind.{LoopKind}
use Rattle.away_trees.specs.declared.statements.LoopKind.TheVariants as kind
use Rattle.away_trees.specs.declared.statements.Stmt.{Stmt}
use Rattle.away_trees.specs.declared.statements.Stmt.TheBlock as b
use Rattle.away_trees.specs.StatementAlgebra.{StatementAlgebra, stmt_of, stmts_of, branches_of, else_of}
use Rattle.away_types.specs.declared.slots.Slot.{Slot}
use Rattle.sql_meaning.specs.Reads.{slots_of}
use Rattle.sql_meaning.specs.Template.{below, count_from}
use Rattle.plsql_meaning.specs.Outcomes.{Label, case_not_found, invalid_parameter}
use Rattle.select_into.specs.Entries.{Target, cast_at, checks, check_entries, into_entries, pick_entry, pick_entries, target_types, type_of, unmarked}
use Rattle.select_into.specs.Laws.{HasSlots}
use Rattle.select_into.specs.Wrapped.{no_row, more_rows}
use Rattle.select_into.proofs.SourceReads.{no_row_slots, more_rows_slots, pick_slots}
use Rattle.block_forms.specs.declared.forms.Term.{Term}
use Rattle.block_forms.specs.declared.places.Position.{Position}
use Rattle.block_forms.specs.Around.{Around, exit_to, again_to}
use Rattle.block_forms.specs.Expressions.{Sources, in_turn, if_there, defaults, of_kind, of_else, sourcing}
use Rattle.block_forms.specs.Laid.{Setting, Laid, LaidArm, laying, after, a_node, with_expr, decl_size, decls_size, kind_size, row_size, arms_size, else_size, into_size, first_block, row_parts, default_term, decl_parts, decls_parts, arms_parts, lack, lack_parts, else_parts, branch_parts, inside_of, block_parts, again_of, kind_parts, loop_parts, one_if}
use Rattle.block_forms.specs.Patterns.{Part, own, shared, branches, fails, not_positive, node, jump_of, yes_of, no_of, source_term, select_term, copy, check_parts, pick_parts, put_part, put_parts, puts_of, after_put, onward, into_parts, set_parts, slot_parts, leave_parts, exit_parts, bound_parts, step_parts, turn_parts, for_parts, cur_of, after_bound, for_head, for_test}
use Rattle.block_forms.proofs.Exits.{exit_either}
use Rattle.call_law.specs.Terms.{OneForEach}
use Rattle.call_law.proofs.PartTerms.{AllFit, fit_both, Sits, sits_left, sits_right, source_fits, FixedFits, is_class_of}

length_from : (n : ℕ) (k : ℕ) → length (count_from k n) ≡ n
length_from zero k = refl
length_from (suc n) k = let e : length (count_from (suc k) n) ≡ n = length_from n (suc k) in omega (arith, e)

module _ (types : List Ty) (table : List Expr) (s : Setting) (fixed : FixedFits table s.numbers.fixed) where
  abbrev Fit : List Part → Type 0
  Fit = AllFit table

  abbrev At : ℕ → List Expr → Type 0
  At = Sits table

  -- ---- setting a slot, and leaving

  set_fits : (strict : Bool) (t : Ty) (c slot next : ℕ) (e : Term) → OneForEach table e → Fit (set_parts s.goto s.numbers strict t c slot e next)
  set_fits false t c slot next e h = ((h, tt), tt)
  set_fits true t c slot next e h = ((h, tt), ((tt, fixed.null_tests t slot), ((tt, refl), tt)))

  slot_fits : (o : Option Slot) (c slot next : ℕ) (e : Term) → OneForEach table e → Fit (slot_parts s.goto s.numbers o c slot e next)
  slot_fits None c slot next e h = set_fits false ty.Bigint c slot next e h
  slot_fits (Some x) c slot next e h = set_fits x.not_null x.ty c slot next e h

  leave_fits : (when : Option Expr) (k c to next : ℕ) → At k (if_there when) → Fit (leave_parts s.goto s.numbers when k c to next)
  leave_fits None k c to next h = ((tt, tt), tt)
  leave_fits (Some e) k c to next h = ((tt, source_fits table k e h.0), tt)

  exit_fits : (when : Option Expr) (k c to next : ℕ) → At k (if_there when) → Fit (exit_parts s.goto s.numbers when k c to next)
  exit_fits when k c to next h = exit_either s.goto s.numbers when k c to next Fit (tt, tt) (leave_fits when k c to next h)

  -- ---- statements, rows, arms and ELSE

  pub record StatementFits (x : Laid) (es : Sources) : Type 0 where
    pub count : x.size.expr ≡ length es
    pub goes : (p : Position) (around : Around) (next : ℕ) → At p.expr es → Fit (x.parts s p around next)

  record RowFits (xs : List Laid) (ess : List Sources) : Type 0 where
    count : (row_size xs).expr ≡ length (in_turn ess)
    goes : (p : Position) (around : Around) (next : ℕ) → At p.expr (in_turn ess) → Fit (row_parts s xs p around next)

  record ArmsFit (xs : List LaidArm) (ess : List Sources) : Type 0 where
    count : (arms_size xs).expr ≡ length (in_turn ess)
    goes : (p : Position) (around : Around) (next c : ℕ) → At p.expr (in_turn ess) → Fit (arms_parts s xs p around next c)

  abbrev IsClass : Option Class → Type 0
  IsClass None = Unit {0}
  IsClass (Some c) = is_class c.code ≡ true

  record ElseFits (x : Option (List Laid)) (o : Option (List Sources)) : Type 0 where
    count : (else_size x).expr ≡ length (of_else o)
    goes : (p : Position) (around : Around) (next c : ℕ) (without : Option Class) → IsClass without → At p.expr (of_else o) → Fit (else_parts s x without p around next c)

  -- the expressions behind others
  behind : (k n : ℕ) (xs ys : List Expr) → n ≡ length xs → At k (xs ++ ys) → At (k + n) ys
  behind k n xs ys count h = subst (λ m. At (k + m) ys) (sym count) (sits_right table k xs ys h)

  at_same : (j k : ℕ) (es : List Expr) → j ≡ k → At j es → At k es
  at_same j k es e h = subst (λ n. At n es) e h

  no_rows : RowFits [] []
  no_rows = record { count = refl; goes = λ p around next h. tt }

  more_row : (x : Laid) (es : Sources) (xs : List Laid) (ess : List Sources) → StatementFits x es → RowFits xs ess → RowFits (x ∷ xs) (es ∷ ess)
  more_row x es xs ess f r = record {
    count = omega (arith, f.count, r.count, length-append es (in_turn ess));
    goes = λ p around next h.
        let middle = first_block s (length xs) (p.node + x.size.node) next in
        fit_both table (x.parts s p around middle) (row_parts s xs (after p x.size) around next)
        (f.goes p around middle (sits_left table p.expr es (in_turn ess) h))
        (r.goes (after p x.size) around next (behind p.expr x.size.expr es (in_turn ess) f.count h));
  }

  no_arms : ArmsFit [] []
  no_arms = record { count = refl; goes = λ p around next c h. tt }

  abbrev laid_arm : Expr → List Laid → LaidArm
  laid_arm test body = record { test = test; size = after with_expr (row_size body); body = body }

  more_arms : (test : Expr) (x : List Laid) (xes : List Sources) (xs : List LaidArm) (ess : List Sources) → RowFits x xes → ArmsFit xs ess
      → ArmsFit (laid_arm test x ∷ xs) ((test ∷ in_turn xes) ∷ ess)
  more_arms test x xes xs ess f r = record {
    count = omega (arith, f.count, r.count, length-append (test ∷ in_turn xes) (in_turn ess));
    goes = λ p around next c h.
        let mine = sits_left table p.expr (test ∷ in_turn xes) (in_turn ess) h in
        let size : (after with_expr (row_size x)).expr ≡ length (test ∷ in_turn xes) = omega (arith, f.count) in (
          tt,
          (
            (tt, source_fits table p.expr test mine.0),
            fit_both table (row_parts s x (after p with_expr) around next) (arms_parts s xs (after p (after with_expr (row_size x))) around next (no_of s.goto c))
                (f.goes (after p with_expr) around next (at_same (suc p.expr) (after p with_expr).expr (in_turn xes) (omega arith) mine.1))
                (r.goes (after p (after with_expr (row_size x))) around next (no_of s.goto c) (behind p.expr (after with_expr (row_size x)).expr (test ∷ in_turn xes) (in_turn ess) size h)),
          ),
        );
  }

  no_else : ElseFits None None
  no_else = record { count = refl; goes = λ p around next c without known h. lacks next c without known }
    where
      lacks : (next c : ℕ) (without : Option Class) → IsClass without → Fit (lack_parts s without c next)
      lacks next c None known = (tt, tt)
      lacks next c (Some x) known = ((tt, known), tt)

  some_else : (x : List Laid) (xes : List Sources) → RowFits x xes → ElseFits (Some x) (Some xes)
  some_else x xes f = record {
    count = omega (arith, f.count);
    goes = λ p around next c without known h. (tt, (tt, f.goes (after p a_node) around next (at_same p.expr (after p a_node).expr (in_turn xes) (omega arith) h)));
  }

  branch_fits : (x : List LaidArm) (ess : List Sources) (xo : Option (List Laid)) (o : Option (List Sources)) → ArmsFit x ess → ElseFits xo o → (without : Option Class)
      → IsClass without → (p : Position) (around : Around) (next : ℕ) → At p.expr (in_turn ess ++ of_else o) → Fit (branch_parts s x xo without p around next)
  branch_fits x ess xo o f fo without known p around next h =
      let c = node s.goto p.node in
      let rest = after p (after a_node (arms_size x)) in
      let count : (arms_size x).expr ≡ length (in_turn ess) = f.count in
      fit_both table (arms_parts s x (after p a_node) around next c) (else_parts s xo without rest around next (lack s x c))
      (f.goes (after p a_node) around next c (at_same p.expr (after p a_node).expr (in_turn ess) (omega arith) (sits_left table p.expr (in_turn ess) (of_else o) h)))
      (fo.goes rest around next (lack s x c) without known (at_same (p.expr + (arms_size x).expr) rest.expr (of_else o) (omega arith) (behind p.expr (arms_size x).expr (in_turn ess) (of_else o) count h)))

  -- ---- a block

  default_fits : (o : Option Expr) (t : Ty) (k : ℕ) → At k (if_there o) → OneForEach table (default_term s o t k)
  default_fits None t k h = fixed.nulls t
  default_fits (Some e) t k h = source_fits table k e h.0

  default_count : (d : Decl) → (decl_size d).expr ≡ length (if_there d.default)
  default_count d = by d.default
    where
      by : (o : Option Expr) → one_if o ≡ length (if_there o)
      by None = refl
      by (Some e) = refl

  decls_count : (ds : List Decl) → (decls_size ds).expr ≡ length (defaults ds)
  decls_count [] = refl
  decls_count (d ∷ ds) = omega (arith, default_count d, decls_count ds, length-append (if_there d.default) (defaults ds))

  decls_fit : (ds : List Decl) (p : Position) (next : ℕ) → At p.expr (defaults ds) → Fit (decls_parts s ds p next)
  decls_fit [] p next h = tt
  decls_fit (d ∷ ds) p next h =
      let middle = first_block s (length ds) (p.node + 1) next in
      fit_both table (decl_parts s d p middle) (decls_parts s ds (after p (decl_size d)) next)
      (slot_fits (slice_get s.slots p.slot) (node s.goto p.node) p.slot middle (default_term s d.default d.ty p.expr) (default_fits d.default d.ty p.expr (sits_left table p.expr (if_there d.default) (defaults ds) h)))
      (decls_fit ds (after p (decl_size d)) next (behind p.expr (decl_size d).expr (if_there d.default) (defaults ds) (default_count d) h))

  block_fits : (label : Label) (ds : List Decl) (x : List Laid) (xes : List Sources) → RowFits x xes → (p : Position) (around : Around) (next : ℕ)
      → At p.expr (defaults ds ++ in_turn xes) → Fit (block_parts s label ds x p around next)
  block_fits label ds x xes f p around next h =
      let inside = inside_of s ds p in
      let inner : Around = record { label = label; exit = next; again = None } ∷ around in
      let middle = first_block s (length x) inside.node next in
      let count : (decls_size ds).expr ≡ length (defaults ds) = decls_count ds in (
        tt,
        fit_both table (decls_parts s ds (after p a_node) middle) (row_parts s x inside inner next)
            (decls_fit ds (after p a_node) middle (at_same p.expr (after p a_node).expr (defaults ds) (omega arith) (sits_left table p.expr (defaults ds) (in_turn xes) h)))
            (f.goes inside inner next (at_same (p.expr + (decls_size ds).expr) inside.expr (in_turn xes) (omega arith) (behind p.expr (decls_size ds).expr (defaults ds) (in_turn xes) count h))),
      )

  -- ---- loops

  bound_fits : (c slot next : ℕ) (e : Term) → OneForEach table e → Fit (bound_parts s.goto s.numbers c slot e next)
  bound_fits c slot next e h = ((h, tt), ((tt, fixed.null_tests ty.Integer slot), ((tt, refl), tt)))

  step_fits : (by : Option Expr) (k c step head : ℕ) → At k (if_there by) → Fit (step_parts s.goto s.numbers by k c step head)
  step_fits None k c step head h = ((fixed.ones, tt), tt)
  step_fits (Some e) k c step head h =
      let test = no_of s.goto (jump_of s.goto c) in
      let rest : List Part = own test (branches false (not_positive s.numbers.fixed step) (yes_of s.goto test) head) ∷ shared (yes_of s.goto test) (fails invalid_parameter) ∷ [] in
      fit_both table (bound_parts s.goto s.numbers c step (source_term k e) test) rest
      (bound_fits c step (no_of s.goto (jump_of s.goto c)) (source_term k e) (source_fits table k e h.0)) ((tt, fixed.positives step), ((tt, refl), tt))

  turn_fits : (reverse : Bool) (var cur last step head test body next : ℕ) → Fit (turn_parts s.goto s.numbers reverse var cur last step head test body next)
  turn_fits reverse var cur last step head test body next =
      ((tt, fixed.ranges reverse cur last), ((fixed.copies cur, tt), ((tt, fixed.ends reverse step cur), ((fixed.moves reverse cur step, tt), tt))))

  for_fits : (reverse : Bool) (first last : Expr) (by : Option Expr) (p : Position) (body next : ℕ) → At p.expr (first ∷ last ∷ if_there by)
      → Fit (for_parts s.goto s.numbers reverse first last by p body next)
  for_fits reverse first last by p body next h =
      let b0 = node s.goto p.node in
      let b1 = after_bound s.goto b0 in
      let b2 = after_bound s.goto b1 in
      let cur = cur_of s.goto s.numbers p.fors in
      let head = for_head s.goto by b0 in
      let test = for_test s.goto s.numbers reverse p.fors in
      let second = at_same (suc p.expr) (p.expr + 1) (last ∷ if_there by) (omega arith) h.1 in
      let third = at_same (suc (suc p.expr)) (p.expr + 2) (if_there by) (omega arith) h.1.1 in
      let firsts = bound_parts s.goto s.numbers b0 cur (source_term p.expr first) b1 in
      let lasts = bound_parts s.goto s.numbers b1 (cur + 1) (source_term (p.expr + 1) last) b2 in
      let steps = step_parts s.goto s.numbers by (p.expr + 2) b2 (cur + 2) head in
      let turns = turn_parts s.goto s.numbers reverse p.slot cur (cur + 1) (cur + 2) head test body next in
      fit_both table firsts (lasts ++ (steps ++ turns)) (bound_fits b0 cur b1 (source_term p.expr first) (source_fits table p.expr first h.0))
      (fit_both table lasts (steps ++ turns) (bound_fits b1 (cur + 1) b2 (source_term (p.expr + 1) last) (source_fits table (p.expr + 1) last second.0))
      (fit_both table steps turns (step_fits by (p.expr + 2) b2 (cur + 2) head third) (turn_fits reverse p.slot cur (cur + 1) (cur + 2) head test body next)))

  kind_count : (k : LoopKind) → (kind_size k).expr ≡ length (of_kind k)
  kind_count kind.Plain = refl
  kind_count (kind.While e) = refl
  kind_count (kind.Count name reverse first last None) = refl
  kind_count (kind.Count name reverse first last (Some e)) = refl

  kind_fits : (k : LoopKind) (p : Position) (body next : ℕ) → At p.expr (of_kind k) → Fit (kind_parts s k p body next)
  kind_fits kind.Plain p body next h = ((tt, tt), tt)
  kind_fits (kind.While e) p body next h = ((tt, source_fits table p.expr e h.0), tt)
  kind_fits (kind.Count name reverse first last by) p body next h = for_fits reverse first last by p body next h

  loop_fits : (label : Label) (k : LoopKind) (x : List Laid) (xes : List Sources) → RowFits x xes → (p : Position) (around : Around) (next : ℕ)
      → At p.expr (of_kind k ++ in_turn xes) → Fit (loop_parts s label k x p around next)
  loop_fits label k x xes f p around next h =
      let again = again_of s k p in
      let inside = after p (kind_size k) in
      let inner : Around = record { label = label; exit = next; again = Some again } ∷ around in
      let body = first_block s (length x) (p.node + 1) again in
      fit_both table (kind_parts s k p body next) (row_parts s x inside inner again)
      (kind_fits k p body next (sits_left table p.expr (of_kind k) (in_turn xes) h))
      (f.goes inside inner again (behind p.expr (kind_size k).expr (of_kind k) (in_turn xes) (kind_count k) h))

  -- ---- each statement

  assign_fits : (name : List ℕ) (slot : Option ℕ) (e : Expr) → StatementFits (stmt_of laying (b.Assign name slot e)) (e ∷ [])
  assign_fits name None e = record { count = refl; goes = λ p around next h. ((tt, tt), tt) }
  assign_fits name (Some slot) e = record {
    count = refl;
    goes = λ p around next h. slot_fits (slice_get s.slots slot) (node s.goto p.node) slot next (source_term p.expr e) (source_fits table p.expr e h.0);
  }

  -- ---- SELECT INTO

  select_fits : (k : ℕ) (q : Select) (e : Expr) → HasSlots q e → get_or table k expr.Null ≡ e → OneForEach table (select_term k q)
  select_fits k q e h at = record { as_many = ap (λ ns. length ns) (sym h.same) ∙ ap (λ x. length (slots_of x)) (sym at) }

  checks_fit : (strict : Bool) (c k first : ℕ) (q : Select) → At k (check_entries strict (unmarked q)) → Fit (check_parts s.goto s.numbers strict c k q first)
  checks_fit false c k first q h = (tt, tt)
  checks_fit true c k first q h =
      let plain = unmarked q in
      let second : At (k + 1) (more_rows plain ∷ []) = at_same (suc k) (k + 1) (more_rows plain ∷ []) (omega arith) h.1 in
      ((tt, select_fits k q (no_row plain) (no_row_slots q) h.0), ((tt, refl), ((tt, select_fits (k + 1) q (more_rows plain) (more_rows_slots q) second.0), ((tt, refl), tt))))

  picks_fit : (kinds : List Ty) (q : Select) (ts : List Target) (places : List ℕ) (i k hidden puts : ℕ) → length places ≡ length ts
      → At k (map (pick_entry kinds q) places) → Fit (pick_parts s.goto s.numbers ts i k hidden q puts)
  picks_fit kinds q [] places i k hidden puts e h = tt
  picks_fit kinds q (t ∷ ts) [] i k hidden puts e h = absurd (omega (arith, e))
  picks_fit kinds q (t ∷ ts) (place ∷ places) i k hidden puts e h = (
    (select_fits k q (pick_entry kinds q place) (pick_slots kinds q (cast_at kinds (out-Select q).list place) place) h.0, tt),
    picks_fit kinds q ts places (i + 1) (k + 1) (hidden + 1) puts (omega (arith, e))
        (at_same (suc k) (k + 1) (map (pick_entry kinds q) places) (omega arith) h.1),
  )

  put_fits : (o : Option ℕ) (c hidden next : ℕ) → Fit (put_part s.goto s.numbers s.slots o c hidden next)
  put_fits None c hidden next = ((tt, tt), tt)
  put_fits (Some slot) c hidden next = slot_fits (slice_get s.slots slot) c slot next (copy s.numbers.fixed hidden) (fixed.copies hidden)

  puts_fit : (ts : List Target) (c hidden next : ℕ) → Fit (put_parts s.goto s.numbers s.slots ts c hidden next)
  puts_fit [] c hidden next = tt
  puts_fit (t ∷ ts) c hidden next =
      let after_it = after_put s.goto s.numbers s.slots t.1 c in
      fit_both table (put_part s.goto s.numbers s.slots t.1 c hidden (onward ts after_it next)) (put_parts s.goto s.numbers s.slots ts after_it (hidden + 1) next)
      (put_fits t.1 c hidden (onward ts after_it next)) (puts_fit ts after_it (hidden + 1) next)

  check_count : (strict : Bool) (q : Select) → checks strict ≡ length (check_entries strict q)
  check_count true q = refl
  check_count false q = refl

  kinds_count : (ts : List Target) → length (target_types types ts) ≡ length ts
  kinds_count ts = length-map ts (λ (t : Target). type_of types t.1)

  picks_count : (ts : List Target) (q : Select) → length (pick_entries (target_types types ts) q) ≡ length ts
  picks_count ts q = length-map (below (length (target_types types ts))) (pick_entry (target_types types ts) q) ∙ (length_from (length (target_types types ts)) 0 ∙ kinds_count ts)

  into_fits : (strict : Bool) (ts : List Target) (q : Select) (p : Position) (next : ℕ) → At p.expr (into_entries types strict ts q)
      → Fit (into_parts s.goto s.numbers s.slots strict ts q p next)
  into_fits strict ts q p next h =
      let first = onward ts (node s.goto (p.node + 1)) next in
      let puts = puts_of s.goto s.numbers ts p.node in
      let kinds = target_types types ts in
      let hidden = s.numbers.targets + p.targets in
      let tests = check_parts s.goto s.numbers strict (node s.goto p.node) p.expr q first in
      let picks = pick_parts s.goto s.numbers ts (p.node + 1) (p.expr + checks strict) hidden q puts in
      let sets = put_parts s.goto s.numbers s.slots ts puts hidden next in
      fit_both table tests (picks ++ sets) (checks_fit strict (node s.goto p.node) p.expr first q (sits_left table p.expr (check_entries strict (unmarked q)) (pick_entries kinds q) h))
      (fit_both table picks sets
      (picks_fit kinds q ts (below (length kinds)) (p.node + 1) (p.expr + checks strict) hidden puts (length_from (length kinds) 0 ∙ kinds_count ts)
      (behind p.expr (checks strict) (check_entries strict (unmarked q)) (pick_entries kinds q) (check_count strict (unmarked q)) h))
      (puts_fit ts puts hidden next))

  into_count : (strict : Bool) (ts : List Target) (q : Select) → (into_size strict ts).expr ≡ length (into_entries types strict ts q)
  into_count strict ts q = omega (arith, check_count strict (unmarked q), picks_count ts q, length-append (check_entries strict (unmarked q)) (pick_entries (target_types types ts) q))

  abbrev entries : StatementAlgebra
  entries = sourcing (into_entries types)

  leave_count : (when : Option Expr) → one_if when ≡ length (if_there when)
  leave_count None = refl
  leave_count (Some e) = refl

  mutual
    pub statement_fits : (x : Stmt) → StatementFits (stmt_of laying x) (stmt_of entries x)
    statement_fits (b.Block' label decls _ body closing) = record {
      count = omega (arith, decls_count decls, (row_fits body).count, length-append (defaults decls) (in_turn (stmts_of entries body)));
      goes = block_fits label decls (stmts_of laying body) (stmts_of entries body) (row_fits body);
    }
    statement_fits (b.Assign name slot e) = assign_fits name slot e
    statement_fits (b.If' _ arms other) = record {
      count = omega (arith, (arms_fit arms).count, (else_fits other).count, length-append (in_turn (branches_of entries arms)) (of_else (else_of entries other)));
      goes = branch_fits (branches_of laying arms) (branches_of entries arms) (else_of laying other) (else_of entries other) (arms_fit arms) (else_fits other) None tt;
    }
    statement_fits (b.Cases' _ arms other) = record {
      count = omega (arith, (arms_fit arms).count, (else_fits other).count, length-append (in_turn (branches_of entries arms)) (of_else (else_of entries other)));
      goes = branch_fits (branches_of laying arms) (branches_of entries arms) (else_of laying other) (else_of entries other) (arms_fit arms) (else_fits other) (Some case_not_found) refl;
    }
    statement_fits (b.Loop' label kind _ body closing) = record {
      count = omega (arith, kind_count kind, (row_fits body).count, length-append (of_kind kind) (in_turn (stmts_of entries body)));
      goes = loop_fits label kind (stmts_of laying body) (stmts_of entries body) (row_fits body);
    }
    statement_fits (b.Exit label when) = record {
      count = leave_count when;
      goes = λ p around next h. exit_fits when p.expr (node s.goto p.node) (exit_to s.goto.finish around label) next h;
    }
    statement_fits (b.Continue label when) = record {
      count = leave_count when;
      goes = λ p around next h. leave_fits when p.expr (node s.goto p.node) (again_to s.goto.finish around label) next h;
    }
    statement_fits (b.Return e) = record { count = refl; goes = λ p around next h. ((tt, source_fits table p.expr e h.0), tt) }
    statement_fits (b.Raise raised) = record { count = refl; goes = λ p around next h. ((tt, is_class_of raised), tt) }
    statement_fits (b.Into strict targets query) = record {
      count = into_count strict targets query;
      goes = λ p around next h. into_fits strict targets query p next h;
    }
    statement_fits b.Nothing = record { count = refl; goes = λ p around next h. ((tt, tt), tt) }

    row_fits : {m : _} → (r : b.Row_of-Stmt m) → RowFits (stmts_of laying r) (stmts_of entries r)
    row_fits b.end_of-Stmt = no_rows
    row_fits (b.more_of-Stmt x rest) = more_row (stmt_of laying x) (stmt_of entries x) (stmts_of laying rest) (stmts_of entries rest) (statement_fits x) (row_fits rest)

    arms_fit : {m : _} → (r : b.Row_of-Arm m) → ArmsFit (branches_of laying r) (branches_of entries r)
    arms_fit b.end_of-Arm = no_arms
    arms_fit (b.more_of-Arm test _ body rest) =
        more_arms test (stmts_of laying body) (stmts_of entries body) (branches_of laying rest) (branches_of entries rest) (row_fits body) (arms_fit rest)

    else_fits : (r : b.Held-Stmt-If-1) → ElseFits (else_of laying r) (else_of entries r)
    else_fits b.None' = no_else
    else_fits (b.Some' _ body) = some_else (stmts_of laying body) (stmts_of entries body) (row_fits body)
