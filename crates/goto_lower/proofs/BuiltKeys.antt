-- The blocks that are built for a statement test the counters of its FORs, each once, in the order of the text.
use Rattle.std.proofs.Common.{◌≡◌, ℕ, zero, suc, ◌+◌, ◌*◌, ◌≤◌, ◌<◌, Bool, true, false, List, [], ◌∷◌, ◌++◌, length, Option, Some, None, refl, sym, ap, ◌∙◌, arith}
use Rattle.std.specs.Prelude.{slice_get}
use Rattle.away_values.specs.declared.types.Ty.{Ty}
use Rattle.away_values.specs.declared.types.Ty.TheVariants as ty
use Rattle.away_values.specs.declared.values.Class.{Class}
use Rattle.away_trees.specs.declared.queries.Expr.{Expr}
use Rattle.away_trees.specs.declared.queries.Select.{Select}
use Rattle.away_trees.specs.declared.statements.Decl.{Decl}
use Rattle.away_trees.specs.declared.statements.LoopKind.TheVariants as kind
use Rattle.away_trees.specs.declared.statements.Stmt.{Stmt}
use Rattle.away_trees.specs.declared.statements.Stmt.TheBlock as b
use Rattle.away_trees.specs.StatementAlgebra.{stmt_of, stmts_of, branches_of}
use Rattle.away_types.specs.declared.slots.Slot.{Slot}
use Rattle.plsql_meaning.specs.Outcomes.{Label, case_not_found, invalid_parameter}
use Rattle.select_into.specs.Entries.{Target, checks}
use Rattle.select_into.specs.Wrapped.{select_slots}
use Rattle.block_forms.specs.declared.forms.Block.{Block}
use Rattle.block_forms.specs.declared.forms.Term.{Term}
use Rattle.block_forms.specs.declared.places.Position.{Position}
use Rattle.block_forms.specs.declared.places.Numbers.{Numbers}
use Rattle.block_forms.specs.declared.fixed_list.Fixed.{Fixed}
use Rattle.block_forms.specs.declared.fixed_list.Fixed.TheVariants as fix
use Rattle.block_forms.specs.FixedList.{position}
use Rattle.block_forms.specs.Around.{Around, exit_to, again_to}
use Rattle.block_forms.specs.Laid.{after, one_if, decl_size, with_expr, a_node, decls_size}
use Rattle.block_forms.specs.Patterns.{entry_term, source_term, select_term, is_null, copy, in_range, not_positive, branches, jumps, fails, onward}
use Rattle.block_forms.specs.declared.forms.End.TheVariants.{Branch}
use Rattle.goto_lower.specs.Building as spec
use Rattle.goto_lower.specs.Building.{Built, BuiltArm, building, row_size, row_many, row_first, row_blocks, set_many, set_blocks, slot_blocks, decls_many, decls_first, decls_blocks, decl_blocks, default_of, arm_size, arms_size, arms_many, arms_first, arms_blocks, branched, looped, leave_block, step_many, step_blocks, head_at, turn_blocks, for_blocks, bound_blocks, cur_at, count_size, into_built}
use Rattle.goto_lower.specs.IntoBlocks.{check_many, put_many, check_blocks, pick_blocks, put_block, put_blocks}
use Rattle.goto_lower.proofs.ForTests.{Rising, key, keys, keys_append, no_key, leaves_key}

module _ (n : Numbers) where
  abbrev S : ℕ
  S = n.fixed

  -- the counters of so many FORs
  abbrev pub curs : ℕ → ℕ → List ℕ
  curs f zero = []
  curs f (suc m) = (n.counters + 3 * f) ∷ curs (f + 1) m

  curs_append : (f a k : ℕ) → curs f (a + k) ≡ curs f a ++ curs (f + a) k
  curs_append f zero k = let e : 0 + k ≡ k = omega arith in let g : f ≡ f + 0 = omega arith in (λ i. curs (g i) (e i))
  curs_append f (suc a) k =
      let e : suc a + k ≡ suc (a + k) = omega arith in
      let g : f + 1 + a ≡ f + suc a = omega arith in
      ap (λ m. curs f m) e ∙ ap (λ xs. (n.counters + 3 * f) ∷ xs) (curs_append (f + 1) a k ∙ ap (λ h. curs (f + 1) a ++ curs h k) g)

  pub curs_rise : (f m low : ℕ) → low ≤ n.counters + 3 * f → Rising low (curs f m)
  curs_rise f zero low le = tt
  curs_rise f (suc m) low le = (le, curs_rise (f + 1) m (n.counters + 3 * f + 1) (omega arith))

  -- two parts in a row
  two : (xs ys : List Block) (f a k : ℕ) → keys S xs ≡ curs f a → keys S ys ≡ curs (f + a) k → keys S (xs ++ ys) ≡ curs f (a + k)
  two xs ys f a k p q = keys_append S xs ys ∙ (λ i. p i ++ q i) ∙ sym (curs_append f a k)

  -- ---- blocks that test no counter

  source_key : (k : ℕ) (e : Expr) (y m : ℕ) → k < S → key S (branches false (source_term k e) y m).end ≡ []
  source_key k e y m lt = no_key S k (source_term k e).names y m (λ h. omega arith) (λ h. omega arith)

  entry_key : (e : Fixed) (names : List ℕ) (y m : ℕ) → (position e ≡ position fix.PastGreatest → ⊥) → (position e ≡ position fix.PastLeast → ⊥)
      → key S (Branch (entry_term S e names) y m) ≡ []
  entry_key e names y m up down = no_key S (S + position e) names y m (λ h. up (omega arith)) (λ h. down (omega arith))

  pub null_key : (t : Ty) (slot y m : ℕ) → key S (Branch (is_null S t slot) y m) ≡ []
  null_key ty.Bigint slot y m = entry_key (fix.IsNull ty.Bigint) (slot ∷ []) y m (λ h. absurd (omega arith)) (λ h. absurd (omega arith))
  null_key ty.Boolean slot y m = entry_key (fix.IsNull ty.Boolean) (slot ∷ []) y m (λ h. absurd (omega arith)) (λ h. absurd (omega arith))
  null_key ty.Text slot y m = entry_key (fix.IsNull ty.Text) (slot ∷ []) y m (λ h. absurd (omega arith)) (λ h. absurd (omega arith))
  null_key ty.Integer slot y m = entry_key (fix.IsNull ty.Integer) (slot ∷ []) y m (λ h. absurd (omega arith)) (λ h. absurd (omega arith))

  set_keys : (strict : Bool) (t : Ty) (slot : ℕ) (e : Term) (next start : ℕ) → keys S (set_blocks n strict t slot e next start) ≡ []
  set_keys false t slot e next start = refl
  set_keys true t slot e next start = ap (λ ks. ks ++ []) (null_key t slot (start + 2) next)

  slot_keys : (o : Option Slot) (slot : ℕ) (e : Term) (next start : ℕ) → keys S (slot_blocks n o slot e next start) ≡ []
  slot_keys None slot e next start = refl
  slot_keys (Some s) slot e next start = set_keys s.not_null s.ty slot e next start

  decls_keys : (ds : List Decl) (p : Position) (next start : ℕ) → keys S (decls_blocks n ds p next start) ≡ []
  decls_keys [] p next start = refl
  decls_keys (d ∷ ds) p next start =
      let then = decls_first ds (start + set_many d.not_null) next in
      keys_append S (decl_blocks n d p then start) (decls_blocks n ds (after p (decl_size d)) next (start + set_many d.not_null))
      ∙ (λ i. set_keys d.not_null d.ty p.slot (default_of n d.default d.ty p.expr) then start i ++ decls_keys ds (after p (decl_size d)) next (start + set_many d.not_null) i)

  decls_fors : (ds : List Decl) → (decls_size ds).fors ≡ 0
  decls_fors [] = refl
  decls_fors (d ∷ ds) = omega (arith, decls_fors ds)

  leave_keys : (when : Option Expr) (k to next : ℕ) → k + one_if when ≤ S → keys S (leave_block when k to next ∷ []) ≡ []
  leave_keys None k to next le = refl
  leave_keys (Some e) k to next le = ap (λ ks. ks ++ []) (source_key k e to next (omega arith))

  -- ---- rows

  pub record Keyed (y : Built) : Type 0 where
    pub keys_are : (p : Position) (around : Around) (next start : ℕ) → p.expr + y.size.expr ≤ S → keys S (y.blocks p around next start) ≡ curs p.fors y.size.fors

  abbrev pub AllKeyed : List Built → Type 0
  AllKeyed [] = Unit {0}
  AllKeyed (y ∷ ys) = Keyed y × AllKeyed ys

  abbrev pub ArmsKeyed : List BuiltArm → Type 0
  ArmsKeyed [] = Unit {0}
  ArmsKeyed (y ∷ ys) = AllKeyed y.body × ArmsKeyed ys

  row_keys : (ys : List Built) → AllKeyed ys → (p : Position) (around : Around) (next start : ℕ) → p.expr + (row_size ys).expr ≤ S → keys S (row_blocks ys p around next start) ≡ curs p.fors (row_size ys).fors
  row_keys [] c p around next start le = refl
  row_keys (y ∷ ys) c p around next start le =
      two (y.blocks p around (row_first ys (start + y.many) next) start) (row_blocks ys (after p y.size) around next (start + y.many)) p.fors y.size.fors (row_size ys).fors
      (c.0.keys_are p around (row_first ys (start + y.many) next) start (omega arith))
      (row_keys ys c.1 (after p y.size) around next (start + y.many) (omega arith))

  -- blocks without a counter before a row, and at its end
  before : (xs : List Block) (ys : List Built) → AllKeyed ys → (p : Position) (around : Around) (next start : ℕ) → p.expr + (row_size ys).expr ≤ S → keys S xs ≡ [] → keys S (xs ++ row_blocks ys p around next start) ≡ curs p.fors (row_size ys).fors
  before xs ys c p around next start le none = keys_append S xs (row_blocks ys p around next start) ∙ (λ i. none i ++ row_keys ys c p around next start le i)

  arms_keys : (ys : List BuiltArm) → ArmsKeyed ys → (p : Position) (around : Around) (next lack start : ℕ) → p.expr + (arms_size ys).expr ≤ S → keys S (arms_blocks ys p around next lack start) ≡ curs p.fors (arms_size ys).fors
  arms_keys [] c p around next lack start le = refl
  arms_keys (y ∷ ys) c p around next lack start le =
      let test = branches false (source_term p.expr y.test) (row_first y.body (start + 1) next) (arms_first ys (start + (1 + row_many y.body)) lack) in
      let f1 : p.fors + 0 ≡ p.fors = omega arith in
      let f2 : 0 + (row_size y.body).fors ≡ (row_size y.body).fors = omega arith in
      two (test ∷ row_blocks y.body (after p with_expr) around next (start + 1)) (arms_blocks ys (after p (arm_size y)) around next lack (start + (1 + row_many y.body))) p.fors (arm_size y).fors (arms_size ys).fors
      (before (test ∷ []) y.body c.0 (after p with_expr) around next (start + 1) (omega arith) (ap (λ ks. ks ++ []) (source_key p.expr y.test (row_first y.body (start + 1) next) (arms_first ys (start + (1 + row_many y.body)) lack) (omega arith))) ∙ (λ i. curs (f1 i) (sym f2 i)))
      (arms_keys ys c.1 (after p (arm_size y)) around next lack (start + (1 + row_many y.body)) (omega arith))

  -- ---- statements

  branch_keyed : (ys : List BuiltArm) → ArmsKeyed ys → (without : Option Class) → Keyed (branched ys None without)
  branch_keyed ys c None = record {
    keys_are = λ p around next start le.
        let f1 : (after p a_node).fors ≡ p.fors = omega arith in
        let f2 : (arms_size ys).fors ≡ (branched ys None None).size.fors = omega arith in
        arms_keys ys c (after p a_node) around next next start (omega arith) ∙ (λ i. curs (f1 i) (f2 i));
  }
  branch_keyed ys c (Some x) = record {
    keys_are = λ p around next start le.
        let f1 : (after p a_node).fors ≡ p.fors = omega arith in
        let f2 : (arms_size ys).fors + 0 ≡ (branched ys None (Some x)).size.fors = omega arith in
        two (arms_blocks ys (after p a_node) around next (start + arms_many ys) start) (fails x ∷ []) (after p a_node).fors (arms_size ys).fors 0 (arms_keys ys c (after p a_node) around next (start + arms_many ys) start (omega arith)) refl
        ∙ (λ i. curs (f1 i) (f2 i));
  }

  else_keyed : (ys : List BuiltArm) → ArmsKeyed ys → (zs : List Built) → AllKeyed zs → (without : Option Class) → Keyed (branched ys (Some zs) without)
  else_keyed ys c zs r without = record {
    keys_are = λ p around next start le.
        let lack = row_first zs (start + arms_many ys) next in
        let q = after (after p (after a_node (arms_size ys))) a_node in
        let f1 : (after p a_node).fors ≡ p.fors = omega arith in
        let f2 : (arms_size ys).fors + (row_size zs).fors ≡ (branched ys (Some zs) without).size.fors = omega arith in
        let f3 : q.fors ≡ (after p a_node).fors + (arms_size ys).fors = omega arith in
        two (arms_blocks ys (after p a_node) around next lack start) (row_blocks zs q around next (start + arms_many ys)) (after p a_node).fors (arms_size ys).fors (row_size zs).fors
        (arms_keys ys c (after p a_node) around next lack start (omega arith))
        (row_keys zs r q around next (start + arms_many ys) (omega arith) ∙ ap (λ f. curs f (row_size zs).fors) f3)
        ∙ (λ i. curs (f1 i) (f2 i));
  }

  block_keyed : (label : Label) (ds : List Decl) (ys : List Built) → AllKeyed ys → Keyed (spec.grouped n label ds ys)
  block_keyed label ds ys c = record {
    keys_are = λ p around next start le.
        let f = row_first ys (start + decls_many ds) next in
        let q = after p (after a_node (decls_size ds)) in
        let inner = record { label = label; exit = next; again = None } ∷ around in
        let f1 : q.fors ≡ p.fors = omega (arith, decls_fors ds) in
        let f2 : (row_size ys).fors ≡ (spec.grouped n label ds ys).size.fors = omega (arith, decls_fors ds) in
        before (decls_blocks n ds (after p a_node) f start) ys c q inner next (start + decls_many ds) (omega arith) (decls_keys ds (after p a_node) f start)
        ∙ (λ i. curs (f1 i) (f2 i));
  }

  plain_keyed : (label : Label) (ys : List Built) → AllKeyed ys → Keyed (looped label a_node (λ p first next. jumps true first) ys)
  plain_keyed label ys c = record {
    keys_are = λ p around next start le.
        let inner = record { label = label; exit = next; again = Some start } ∷ around in
        let f1 : (after p a_node).fors ≡ p.fors = omega arith in
        let f2 : (row_size ys).fors ≡ (after a_node (row_size ys)).fors = omega arith in
        row_keys ys c (after p a_node) inner start (start + 1) (omega arith) ∙ (λ i. curs (f1 i) (f2 i));
  }

  while_keyed : (label : Label) (e : Expr) (ys : List Built) → AllKeyed ys → Keyed (looped label with_expr (λ p first next. branches true (source_term p.expr e) first next) ys)
  while_keyed label e ys c = record {
    keys_are = λ p around next start le.
        let inner = record { label = label; exit = next; again = Some start } ∷ around in
        let f1 : (after p with_expr).fors ≡ p.fors = omega arith in
        let f2 : (row_size ys).fors ≡ (after with_expr (row_size ys)).fors = omega arith in
        before (branches true (source_term p.expr e) (row_first ys (start + 1) start) next ∷ []) ys c (after p with_expr) inner start (start + 1) (omega arith) (ap (λ ks. ks ++ []) (source_key p.expr e (row_first ys (start + 1) start) next (omega arith)))
        ∙ (λ i. curs (f1 i) (f2 i));
  }

  -- ---- FOR

  step_keys : (by : Option Expr) (k slot head start : ℕ) → keys S (step_blocks n by k slot head start) ≡ []
  step_keys None k slot head start = refl
  step_keys (Some e) k slot head start =
      keys_append S (bound_blocks n slot (source_term k e) start) (branches false (not_positive S slot) (start + 3 + 1) head ∷ fails invalid_parameter ∷ [])
      ∙ (λ i. set_keys true ty.Integer slot (source_term k e) (start + 3) start i ++ (entry_key fix.NotPositive (slot ∷ []) (start + 3 + 1) head (λ h. absurd (omega arith)) (λ h. absurd (omega arith)) i ++ []))

  range_key : (reverse : Bool) (cur last y m : ℕ) → key S (Branch (in_range S reverse cur last) y m) ≡ []
  range_key false cur last y m = entry_key fix.AtMost (cur ∷ last ∷ []) y m (λ h. absurd (omega arith)) (λ h. absurd (omega arith))
  range_key true cur last y m = entry_key fix.AtLeast (cur ∷ last ∷ []) y m (λ h. absurd (omega arith)) (λ h. absurd (omega arith))

  turn_keys : (reverse : Bool) (p : Position) (body next head : ℕ) → keys S (turn_blocks n reverse p body next head) ≡ cur_at n p ∷ []
  turn_keys reverse p body next head = λ i. range_key reverse (cur_at n p) (cur_at n p + 1) (head + 1) next i ++ (leaves_key S reverse (cur_at n p + 2) (cur_at n p) next (head + 1 + 1 + 1) i ++ [])

  for_keys : (reverse : Bool) (e1 e2 : Expr) (by : Option Expr) (p : Position) (body next start : ℕ) → keys S (for_blocks n reverse e1 e2 by p body next start) ≡ cur_at n p ∷ []
  for_keys reverse e1 e2 by p body next start =
      let three = step_blocks n by (p.expr + 2) (cur_at n p + 2) (head_at by start) (start + 3 + 3) in
      let four = turn_blocks n reverse p body next (head_at by start) in
      let two_ = bound_blocks n (cur_at n p + 1) (source_term (p.expr + 1) e2) (start + 3) in
      keys_append S (bound_blocks n (cur_at n p) (source_term p.expr e1) start) (two_ ++ (three ++ four))
      ∙ (λ i. set_keys true ty.Integer (cur_at n p) (source_term p.expr e1) (start + 3) start i ++ keys_append S two_ (three ++ four) i)
      ∙ (λ i. set_keys true ty.Integer (cur_at n p + 1) (source_term (p.expr + 1) e2) (start + 3 + 3) (start + 3) i ++ keys_append S three four i)
      ∙ (λ i. step_keys by (p.expr + 2) (cur_at n p + 2) (head_at by start) (start + 3 + 3) i ++ turn_keys reverse p body next (head_at by start) i)

  count_keyed : (label : Label) (reverse : Bool) (e1 e2 : Expr) (by : Option Expr) (ys : List Built) → AllKeyed ys → Keyed (spec.counted n label reverse e1 e2 by ys)
  count_keyed label reverse e1 e2 by ys c = record {
    keys_are = λ p around next start le.
        let again = head_at by start + 1 + 1 in
        let own_blocks = for_blocks n reverse e1 e2 by p (row_first ys (head_at by start + 4) again) next start in
        let inner = record { label = label; exit = next; again = Some again } ∷ around in
        two own_blocks (row_blocks ys (after p (count_size by)) inner again (head_at by start + 4)) p.fors 1 (row_size ys).fors
        (for_keys reverse e1 e2 by p (row_first ys (head_at by start + 4) again) next start)
        (row_keys ys c (after p (count_size by)) inner again (head_at by start + 4) (omega arith));
  }

  -- ---- SELECT INTO

  select_key : (k : ℕ) (q : Select) (y m : ℕ) → k < S → key S (branches false (select_term k q) y m).end ≡ []
  select_key k q y m lt = no_key S k (select_slots q) y m (λ h. omega arith) (λ h. omega arith)

  check_keys : (strict : Bool) (k : ℕ) (q : Select) (first start : ℕ) → k + checks strict ≤ S → keys S (check_blocks strict k q first start) ≡ []
  check_keys false k q first start le = refl
  check_keys true k q first start le = λ i. select_key k q (start + 1) (start + 2) (omega arith) i ++ (select_key (k + 1) q (start + 3) first (omega arith) i ++ [])

  pick_keys : (ts : List Target) (k h : ℕ) (q : Select) (start : ℕ) → keys S (pick_blocks ts k h q start) ≡ []
  pick_keys [] k h q start = refl
  pick_keys (t ∷ ts) k h q start = pick_keys ts (k + 1) (h + 1) q (start + 1)

  put_keys : (slots : List Slot) (t : Option ℕ) (h next start : ℕ) → keys S (put_block n slots t h next start) ≡ []
  put_keys slots None h next start = refl
  put_keys slots (Some slot) h next start = slot_keys (slice_get slots slot) slot (copy S h) next start

  puts_keys : (slots : List Slot) (ts : List Target) (h next start : ℕ) → keys S (put_blocks n slots ts h next start) ≡ []
  puts_keys slots [] h next start = refl
  puts_keys slots (t ∷ ts) h next start =
      let then = start + put_many slots t.1 in
      keys_append S (put_block n slots t.1 h (onward ts then next) start) (put_blocks n slots ts (h + 1) next then)
      ∙ (λ i. put_keys slots t.1 h (onward ts then next) start i ++ puts_keys slots ts (h + 1) next then i)

  into_keyed : (slots : List Slot) (strict : Bool) (ts : List Target) (q : Select) → Keyed (into_built n slots strict ts q)
  into_keyed slots strict ts q = record {
    keys_are = λ p around next start le.
        let from = start + check_many strict in
        let first = onward ts from next in
        let cs = check_blocks strict p.expr q first start in
        let ps = pick_blocks ts (p.expr + checks strict) (n.targets + p.targets) q from in
        let us = put_blocks n slots ts (n.targets + p.targets) next (from + length ts) in
        keys_append S cs (ps ++ us)
        ∙ (λ i. check_keys strict p.expr q first start (omega arith) i ++ keys_append S ps us i)
        ∙ (λ i. pick_keys ts (p.expr + checks strict) (n.targets + p.targets) q from i ++ puts_keys slots ts (n.targets + p.targets) next (from + length ts) i);
  }

  -- ---- all statements

  module _ (slots : List Slot) (finish : ℕ) where
    mutual
      pub keyed : (x : Stmt) → Keyed (stmt_of (building n slots finish) x)
      keyed (b.Block' label decls m body closing) = block_keyed label decls (stmts_of (building n slots finish) body) (rows_keyed body)
      keyed (b.Assign name None e) = record { keys_are = λ p around next start le. refl }
      keyed (b.Assign name (Some slot) e) = record { keys_are = λ p around next start le. slot_keys (slice_get slots slot) slot (source_term p.expr e) next start }
      keyed (b.If' m arms b.None') = branch_keyed (branches_of (building n slots finish) arms) (arms_keyed arms) None
      keyed (b.If' m arms (b.Some' k body)) = else_keyed (branches_of (building n slots finish) arms) (arms_keyed arms) (stmts_of (building n slots finish) body) (rows_keyed body) None
      keyed (b.Cases' m arms b.None') = branch_keyed (branches_of (building n slots finish) arms) (arms_keyed arms) (Some case_not_found)
      keyed (b.Cases' m arms (b.Some' k body)) = else_keyed (branches_of (building n slots finish) arms) (arms_keyed arms) (stmts_of (building n slots finish) body) (rows_keyed body) (Some case_not_found)
      keyed (b.Loop' label kind.Plain m body closing) = plain_keyed label (stmts_of (building n slots finish) body) (rows_keyed body)
      keyed (b.Loop' label (kind.While e) m body closing) = while_keyed label e (stmts_of (building n slots finish) body) (rows_keyed body)
      keyed (b.Loop' label (kind.Count var reverse e1 e2 by) m body closing) = count_keyed label reverse e1 e2 by (stmts_of (building n slots finish) body) (rows_keyed body)
      keyed (b.Exit label when) = record { keys_are = λ p around next start le. leave_keys when p.expr (exit_to finish around label) next le }
      keyed (b.Continue label when) = record { keys_are = λ p around next start le. leave_keys when p.expr (again_to finish around label) next le }
      keyed (b.Return e) = record { keys_are = λ p around next start le. refl }
      keyed (b.Raise r) = record { keys_are = λ p around next start le. refl }
      keyed (b.Into strict targets query) = into_keyed slots strict targets query
      keyed b.Nothing = record { keys_are = λ p around next start le. refl }

      pub rows_keyed : {m : _} → (r : b.Row_of-Stmt m) → AllKeyed (stmts_of (building n slots finish) r)
      rows_keyed b.end_of-Stmt = tt
      rows_keyed (b.more_of-Stmt x rest) = (keyed x, rows_keyed rest)

      pub arms_keyed : {m : _} → (r : b.Row_of-Arm m) → ArmsKeyed (branches_of (building n slots finish) r)
      arms_keyed b.end_of-Arm = tt
      arms_keyed (b.more_of-Arm test m body rest) = (rows_keyed body, arms_keyed rest)
