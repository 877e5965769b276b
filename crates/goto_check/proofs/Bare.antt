-- Who has a block is told by where parts are, whatever stands there: not by what follows a statement, and not by what is around it.
use Rattle.std.proofs.Common.{◌≡◌, ℕ, ◌+◌, Bool, true, false, List, [], ◌∷◌, ◌++◌, length, slice_get, Option, Some, None, cond, nat_eq, refl, sym, ap, subst, ◌∙◌}
use Rattle.std.specs.Prelude.{if◌then◌else◌}
use Rattle.away_values.specs.declared.types.Ty.{Ty}
use Rattle.away_values.specs.declared.values.Class.{Class}
use Rattle.away_trees.specs.declared.queries.Expr.{Expr}
use Rattle.away_trees.specs.declared.queries.Select.{Select}
use Rattle.away_trees.specs.declared.statements.Decl.{Decl}
use Rattle.away_trees.specs.declared.statements.LoopKind.{LoopKind}
use Rattle.away_trees.specs.declared.statements.LoopKind.TheVariants as kind
use Rattle.away_trees.specs.declared.statements.Stmt.{Stmt}
use Rattle.away_trees.specs.declared.statements.Stmt.TheBlock as b
use Rattle.away_trees.specs.StatementAlgebra.{stmt_of, stmts_of, branches_of}
use Rattle.away_types.specs.declared.slots.Slot.{Slot}
use Rattle.plsql_meaning.specs.Outcomes.{case_not_found}
use Rattle.block_forms.specs.declared.places.Position.{Position}
use Rattle.block_forms.specs.declared.forms.Block.{Block}
use Rattle.block_forms.specs.declared.forms.Term.{Term}
use Rattle.select_into.specs.Entries.{Target, checks}
use Rattle.block_forms.specs.Around.{Around}
use Rattle.block_forms.specs.Patterns.{Part, own, shared, same, never, jumps, node, no_of, slot_parts, set_parts, leave_parts, exit_parts, onward, check_parts, pick_parts, put_part, put_parts, after_put, puts_of, into_parts}
use Rattle.block_forms.specs.Laid.{Setting, Laid, LaidArm, laying, laid, laid_row, after, a_node, with_expr, decl_size, kind_size, row_size, first_block, lack_parts, lack, inside_of, arms_size, else_parts, row_parts, arms_parts, decl_parts, decls_parts, assign_parts, kind_parts, again_of}
use Rattle.goto_check.specs.declared.asking.Asking.{Asking}
use Rattle.goto_check.specs.declared.asking.Question.{Question}
use Rattle.goto_check.specs.declared.asking.Question.TheVariants as question
use Rattle.goto_check.specs.Runs.{run_of}
use Rattle.goto_check.specs.AnswerRuns.{yes_numbers, answer_run}

-- ---- parts without what stands there

abbrev bare_part : Part → Part
bare_part (own b x) = own b (jumps false 0)
bare_part (shared b x) = shared b (jumps false 0)
bare_part (same b c) = same 0 0
bare_part never = never

abbrev pub bare : List Part → List Part
bare [] = []
bare (p ∷ ps) = bare_part p ∷ bare ps

bare_append : (xs ys : List Part) → bare (xs ++ ys) ≡ bare xs ++ bare ys
bare_append [] ys = refl
bare_append (x ∷ xs) ys = ap (λ z. bare_part x ∷ z) (bare_append xs ys)

bare_both : (xs ys xs' ys' : List Part) → bare xs ≡ bare xs' → bare ys ≡ bare ys' → bare (xs ++ ys) ≡ bare (xs' ++ ys')
bare_both xs ys xs' ys' e f = bare_append xs ys ∙ ((λ i. e i ++ f i) ∙ sym (bare_append xs' ys'))

owned_bare : (blocks : List Block) (c : ℕ) (ps : List Part) → yes_numbers blocks (question.Owns c) ps ≡ yes_numbers blocks (question.Owns c) (bare ps)
owned_bare blocks c [] = refl
owned_bare blocks c (own b x ∷ ps) = ap (λ l. cond (nat_eq b c) (b ∷ l) l) (owned_bare blocks c ps)
owned_bare blocks c (shared b x ∷ ps) = owned_bare blocks c ps
owned_bare blocks c (same a b ∷ ps) = owned_bare blocks c ps
owned_bare blocks c (never ∷ ps) = owned_bare blocks c ps

shared_bare : (blocks : List Block) (c : ℕ) (ps : List Part) → yes_numbers blocks (question.Shares c) ps ≡ yes_numbers blocks (question.Shares c) (bare ps)
shared_bare blocks c [] = refl
shared_bare blocks c (own b x ∷ ps) = shared_bare blocks c ps
shared_bare blocks c (shared b x ∷ ps) = ap (λ l. cond (nat_eq b c) (b ∷ l) l) (shared_bare blocks c ps)
shared_bare blocks c (same a b ∷ ps) = shared_bare blocks c ps
shared_bare blocks c (never ∷ ps) = shared_bare blocks c ps

which_bare : (blocks : List Block) (ps : List Part) → yes_numbers blocks question.Which ps ≡ yes_numbers blocks question.Which (bare ps)
which_bare blocks [] = refl
which_bare blocks (own b x ∷ ps) = ap (λ l. b ∷ l) (which_bare blocks ps)
which_bare blocks (shared b x ∷ ps) = ap (λ l. b ∷ l) (which_bare blocks ps)
which_bare blocks (same a b ∷ ps) = which_bare blocks ps
which_bare blocks (never ∷ ps) = which_bare blocks ps

-- what is told without what stands there
same_answer : (blocks : List Block) (q : Question) (xs ys : List Part) → ((ps : List Part) → yes_numbers blocks q ps ≡ yes_numbers blocks q (bare ps)) → bare xs ≡ bare ys → yes_numbers blocks q xs ≡ yes_numbers blocks q ys
same_answer blocks q xs ys answer_run e = answer_run xs ∙ (ap (λ ps. yes_numbers blocks q ps) e ∙ sym (answer_run ys))

-- parts that are the same where a part that fails is asked for, and are at the same blocks, answer the same
pub answer_bare : (a : Asking) (xs ys : List Part) → (a.question ≡ question.Fails → xs ≡ ys) → bare xs ≡ bare ys → answer_run a xs ≡ answer_run a ys
unfolding answer_run
answer_bare a xs ys equal e = ap run_of (by a.question refl)
  where
    by : (q : Question) → a.question ≡ q → yes_numbers a.goto.now.blocks a.question xs ≡ yes_numbers a.goto.now.blocks a.question ys
    by question.Fails is = ap (λ ps. yes_numbers a.goto.now.blocks a.question ps) (equal is)
    by (question.Owns c) is = subst (λ q. yes_numbers a.goto.now.blocks q xs ≡ yes_numbers a.goto.now.blocks q ys) (sym is) (same_answer a.goto.now.blocks (question.Owns c) xs ys (owned_bare a.goto.now.blocks c) e)
    by (question.Shares c) is = subst (λ q. yes_numbers a.goto.now.blocks q xs ≡ yes_numbers a.goto.now.blocks q ys) (sym is) (same_answer a.goto.now.blocks (question.Shares c) xs ys (shared_bare a.goto.now.blocks c) e)
    by question.Which is = subst (λ q. yes_numbers a.goto.now.blocks q xs ≡ yes_numbers a.goto.now.blocks q ys) (sym is) (same_answer a.goto.now.blocks question.Which xs ys (which_bare a.goto.now.blocks) e)

-- ---- the patterns

module _ (s : Setting) where
  bare_set : (not_null : Bool) (t : Ty) (b slot : ℕ) (e : Term) (n m : ℕ) → bare (set_parts s.goto s.numbers not_null t b slot e n) ≡ bare (set_parts s.goto s.numbers not_null t b slot e m)
  bare_set false t b slot e n m = refl
  bare_set true t b slot e n m = refl

  bare_slot : (o : Option Slot) (b slot : ℕ) (e : Term) (n m : ℕ) → bare (slot_parts s.goto s.numbers o b slot e n) ≡ bare (slot_parts s.goto s.numbers o b slot e m)
  bare_slot None b slot e n m = refl
  bare_slot (Some x) b slot e n m = bare_set x.not_null x.ty b slot e n m

  bare_assign : (slot : Option ℕ) (e : Expr) (p : Position) (n m : ℕ) → bare (assign_parts s slot e p n) ≡ bare (assign_parts s slot e p m)
  bare_assign None e p n m = refl
  bare_assign (Some slot) e p n m = bare_slot (slice_get s.slots slot) _ slot _ n m

  bare_leave : (when : Option Expr) (k b to next to' next' : ℕ) → bare (leave_parts s.goto s.numbers when k b to next) ≡ bare (leave_parts s.goto s.numbers when k b to' next')
  bare_leave None k b to next to' next' = refl
  bare_leave (Some e) k b to next to' next' = refl

  bare_exit : (when : Option Expr) (k b to next to' next' : ℕ) → bare (exit_parts s.goto s.numbers when k b to next) ≡ bare (exit_parts s.goto s.numbers when k b to' next')
  bare_exit when k b to next to' next' = by (nat_eq b s.goto.entry)
    where
      by : (v : Bool) → bare (if v then never ∷ [] else leave_parts s.goto s.numbers when k b to next) ≡ bare (if v then never ∷ [] else leave_parts s.goto s.numbers when k b to' next')
      by true = refl
      by false = bare_leave when k b to next to' next'

  bare_decls : (ds : List Decl) (p : Position) (n m : ℕ) → bare (decls_parts s ds p n) ≡ bare (decls_parts s ds p m)
  bare_decls [] p n m = refl
  bare_decls (d ∷ ds) p n m =
      bare_both (decl_parts s d p (first_block s (length ds) (p.node + 1) n)) (decls_parts s ds (after p (decl_size d)) n)
      (decl_parts s d p (first_block s (length ds) (p.node + 1) m)) (decls_parts s ds (after p (decl_size d)) m)
      (bare_slot (slice_get s.slots p.slot) _ p.slot _ _ _) (bare_decls ds (after p (decl_size d)) n m)

  bare_lack : (without : Option Class) (b n m : ℕ) → bare (lack_parts s without b n) ≡ bare (lack_parts s without b m)
  bare_lack None b n m = refl
  bare_lack (Some c) b n m = refl

  pub bare_kind : (k : LoopKind) (p : Position) (body next body' next' : ℕ) → bare (kind_parts s k p body next) ≡ bare (kind_parts s k p body' next')
  bare_kind kind.Plain p body next body' next' = refl
  bare_kind (kind.While e) p body next body' next' = refl
  bare_kind (kind.Count var reverse first last None) p body next body' next' = refl
  bare_kind (kind.Count var reverse first last (Some e)) p body next body' next' = refl

  bare_choice : (L : List LaidArm) (without : Option Class) (p : Position) (A B : Around) (n m : ℕ) →
      bare (arms_parts s L (after p a_node) A n (node s.goto p.node)) ≡ bare (arms_parts s L (after p a_node) B m (node s.goto p.node)) →
      bare (arms_parts s L (after p a_node) A n (node s.goto p.node) ++ lack_parts s without (lack s L (node s.goto p.node)) n)
      ≡ bare (arms_parts s L (after p a_node) B m (node s.goto p.node) ++ lack_parts s without (lack s L (node s.goto p.node)) m)
  bare_choice L without p A B n m e =
      bare_both (arms_parts s L (after p a_node) A n (node s.goto p.node)) (lack_parts s without (lack s L (node s.goto p.node)) n)
      (arms_parts s L (after p a_node) B m (node s.goto p.node)) (lack_parts s without (lack s L (node s.goto p.node)) m)
      e (bare_lack without _ n m)

  bare_other : (L : List LaidArm) (R : List Laid) (p : Position) (A B : Around) (n m : ℕ) →
      bare (arms_parts s L (after p a_node) A n (node s.goto p.node)) ≡ bare (arms_parts s L (after p a_node) B m (node s.goto p.node)) →
      bare (row_parts s R (after (after p (after a_node (arms_size L))) a_node) A n) ≡ bare (row_parts s R (after (after p (after a_node (arms_size L))) a_node) B m) →
      bare (arms_parts s L (after p a_node) A n (node s.goto p.node) ++ else_parts s (Some R) None (after p (after a_node (arms_size L))) A n (lack s L (node s.goto p.node)))
      ≡ bare (arms_parts s L (after p a_node) B m (node s.goto p.node) ++ else_parts s (Some R) None (after p (after a_node (arms_size L))) B m (lack s L (node s.goto p.node)))
  bare_other L R p A B n m e f =
      let z = after p (after a_node (arms_size L)) in
      let l = lack s L (node s.goto p.node) in
      bare_both (arms_parts s L (after p a_node) A n (node s.goto p.node)) (else_parts s (Some R) None z A n l)
      (arms_parts s L (after p a_node) B m (node s.goto p.node)) (else_parts s (Some R) None z B m l)
      e (ap (λ q. same 0 0 ∷ same 0 0 ∷ q) f)

  bare_checks : (strict : Bool) (b k : ℕ) (q : Select) (x y : ℕ) → bare (check_parts s.goto s.numbers strict b k q x) ≡ bare (check_parts s.goto s.numbers strict b k q y)
  bare_checks false b k q x y = refl
  bare_checks true b k q x y = refl

  bare_put : (t : Option ℕ) (b h n m : ℕ) → bare (put_part s.goto s.numbers s.slots t b h n) ≡ bare (put_part s.goto s.numbers s.slots t b h m)
  bare_put None b h n m = refl
  bare_put (Some slot) b h n m = bare_slot (slice_get s.slots slot) b slot _ n m

  bare_puts : (ts : List Target) (b h n m : ℕ) → bare (put_parts s.goto s.numbers s.slots ts b h n) ≡ bare (put_parts s.goto s.numbers s.slots ts b h m)
  bare_puts [] b h n m = refl
  bare_puts (t ∷ ts) b h n m =
      let behind = after_put s.goto s.numbers s.slots t.1 b in
      bare_both (put_part s.goto s.numbers s.slots t.1 b h (onward ts behind n)) (put_parts s.goto s.numbers s.slots ts behind (h + 1) n)
      (put_part s.goto s.numbers s.slots t.1 b h (onward ts behind m)) (put_parts s.goto s.numbers s.slots ts behind (h + 1) m)
      (bare_put t.1 b h _ _) (bare_puts ts behind (h + 1) n m)

  bare_into : (strict : Bool) (ts : List Target) (q : Select) (p : Position) (n m : ℕ) →
      bare (into_parts s.goto s.numbers s.slots strict ts q p n) ≡ bare (into_parts s.goto s.numbers s.slots strict ts q p m)
  bare_into strict ts q p n m =
      let b = node s.goto p.node in
      let puts = puts_of s.goto s.numbers ts p.node in
      let h = s.numbers.targets + p.targets in
      let picks = pick_parts s.goto s.numbers ts (p.node + 1) (p.expr + checks strict) h q puts in
      let first = onward ts (node s.goto (p.node + 1)) n in
      let other = onward ts (node s.goto (p.node + 1)) m in
      bare_both (check_parts s.goto s.numbers strict b p.expr q first) (picks ++ put_parts s.goto s.numbers s.slots ts puts h n)
      (check_parts s.goto s.numbers strict b p.expr q other) (picks ++ put_parts s.goto s.numbers s.slots ts puts h m)
      (bare_checks strict b p.expr q first other)
      (bare_both picks (put_parts s.goto s.numbers s.slots ts puts h n) picks (put_parts s.goto s.numbers s.slots ts puts h m) refl (bare_puts ts puts h n m))

  mutual
    bare_stmt : (x : Stmt) (p : Position) (A B : Around) (n m : ℕ) → bare ((stmt_of laying x).parts s p A n) ≡ bare ((stmt_of laying x).parts s p B m)
    bare_stmt (b.Block' label decls k body closing) p A B n m =
        let L = stmts_of laying body in
        ap (λ z. same 0 0 ∷ z) (bare_both (decls_parts s decls (after p a_node) (first_block s (length L) (inside_of s decls p).node n)) (row_parts s L (inside_of s decls p) (record { label = label; exit = n; again = None } ∷ A) n)
        (decls_parts s decls (after p a_node) (first_block s (length L) (inside_of s decls p).node m)) (row_parts s L (inside_of s decls p) (record { label = label; exit = m; again = None } ∷ B) m)
        (bare_decls decls (after p a_node) _ _) (bare_row body (inside_of s decls p) _ _ n m))
    bare_stmt (b.Assign name slot e) p A B n m = bare_assign slot e p n m
    bare_stmt (b.If' k arms b.None') p A B n m = bare_choice (branches_of laying arms) None p A B n m (bare_arms arms (after p a_node) A B n m _)
    bare_stmt (b.If' k arms (b.Some' j body)) p A B n m = bare_other (branches_of laying arms) (stmts_of laying body) p A B n m (bare_arms arms (after p a_node) A B n m _) (bare_row body _ A B n m)
    bare_stmt (b.Cases' k arms b.None') p A B n m = bare_choice (branches_of laying arms) (Some case_not_found) p A B n m (bare_arms arms (after p a_node) A B n m _)
    bare_stmt (b.Cases' k arms (b.Some' j body)) p A B n m = bare_other (branches_of laying arms) (stmts_of laying body) p A B n m (bare_arms arms (after p a_node) A B n m _) (bare_row body _ A B n m)
    bare_stmt (b.Loop' label k j body closing) p A B n m =
        let L = stmts_of laying body in
        bare_both (kind_parts s k p (first_block s (length L) (p.node + 1) (again_of s k p)) n) (row_parts s L (after p (kind_size k)) (record { label = label; exit = n; again = Some (again_of s k p) } ∷ A) (again_of s k p))
        (kind_parts s k p (first_block s (length L) (p.node + 1) (again_of s k p)) m) (row_parts s L (after p (kind_size k)) (record { label = label; exit = m; again = Some (again_of s k p) } ∷ B) (again_of s k p))
        (bare_kind k p _ n _ m) (bare_row body (after p (kind_size k)) _ _ _ _)
    bare_stmt (b.Exit label when) p A B n m = bare_exit when p.expr _ _ n _ m
    bare_stmt (b.Continue label when) p A B n m = bare_leave when p.expr _ _ n _ m
    bare_stmt (b.Return e) p A B n m = refl
    bare_stmt (b.Raise r) p A B n m = refl
    bare_stmt (b.Into strict targets query) p A B n m = bare_into strict targets query p n m
    bare_stmt b.Nothing p A B n m = refl

    bare_row : {k : _} → (r : b.Row_of-Stmt k) (p : Position) (A B : Around) (n m : ℕ) → bare (row_parts s (stmts_of laying r) p A n) ≡ bare (row_parts s (stmts_of laying r) p B m)
    bare_row b.end_of-Stmt p A B n m = refl
    bare_row (b.more_of-Stmt x rest) p A B n m =
        let L = stmts_of laying rest in
        let z = stmt_of laying x in
        bare_both (z.parts s p A (first_block s (length L) (p.node + z.size.node) n)) (row_parts s L (after p z.size) A n)
        (z.parts s p B (first_block s (length L) (p.node + z.size.node) m)) (row_parts s L (after p z.size) B m)
        (bare_stmt x p A B _ _) (bare_row rest (after p z.size) A B n m)

    bare_arms : {k : _} → (r : b.Row_of-Arm k) (p : Position) (A B : Around) (n m c : ℕ) → bare (arms_parts s (branches_of laying r) p A n c) ≡ bare (arms_parts s (branches_of laying r) p B m c)
    bare_arms b.end_of-Arm p A B n m c = refl
    bare_arms (b.more_of-Arm test k body rest) p A B n m c =
        let L = stmts_of laying body in
        let R = branches_of laying rest in
        let z = after p (after with_expr (row_size L)) in
        ap (λ q. same 0 0 ∷ own c (jumps false 0) ∷ q) (bare_both (row_parts s L (after p with_expr) A n) (arms_parts s R z A n (no_of s.goto c))
        (row_parts s L (after p with_expr) B m) (arms_parts s R z B m (no_of s.goto c))
        (bare_row body (after p with_expr) A B n m) (bare_arms rest z A B n m (no_of s.goto c)))

  pub bare_statement : (x : Stmt) (p : Position) (A B : Around) (n m : ℕ) → bare ((laid x).parts s p A n) ≡ bare ((laid x).parts s p B m)
  unfolding laid
  bare_statement x p A B n m = bare_stmt x p A B n m

  pub bare_body : (xs : List Stmt) (p : Position) (A B : Around) (n m : ℕ) → bare (row_parts s (laid_row xs) p A n) ≡ bare (row_parts s (laid_row xs) p B m)
  bare_body [] p A B n m = refl
  bare_body (x ∷ xs) p A B n m =
      let L = laid_row xs in
      let z = laid x in
      bare_both (z.parts s p A (first_block s (length L) (p.node + z.size.node) n)) (row_parts s L (after p z.size) A n)
      (z.parts s p B (first_block s (length L) (p.node + z.size.node) m)) (row_parts s L (after p z.size) B m)
      (bare_statement x p A B _ _) (bare_body xs (after p z.size) A B n m)
