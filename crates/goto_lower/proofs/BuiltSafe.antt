-- The blocks that are built for a statement lead to no entry, and read and set the function's slots alone.
use Rattle.std.proofs.Common.{◌≡◌, ℕ, zero, suc, ◌+◌, ◌*◌, ◌≤◌, ◌<◌, Bool, true, false, ◌||◌, List, [], ◌∷◌, ◌++◌, length, Option, Some, None, refl, sym, subst, arith}
use Rattle.std.specs.Prelude.{slice_get, nat_eq, if◌then◌else◌}
use Rattle.std.proofs.lemmas.Bool.{ne_eqb}
use Rattle.away_values.specs.declared.types.Ty.{Ty}
use Rattle.away_values.specs.declared.types.Ty.TheVariants as ty
use Rattle.away_values.specs.declared.values.Class.{Class}
use Rattle.away_trees.specs.declared.queries.Expr.{Expr}
use Rattle.away_trees.specs.declared.queries.Select.{Select}
use Rattle.away_trees.specs.declared.statements.Decl.{Decl}
use Rattle.away_types.specs.declared.slots.Slot.{Slot}
use Rattle.sql_meaning.specs.Reads.{slots_of}
use Rattle.plsql_meaning.specs.Outcomes.{Label, invalid_parameter, null_not_allowed, no_data_found, too_many_rows, names_loop}
use Rattle.select_into.specs.Entries.{Target, checks}
use Rattle.select_into.specs.Wrapped.{select_slots}
use Rattle.block_forms.specs.declared.forms.Block.{Block}
use Rattle.block_forms.specs.declared.forms.Term.{Term}
use Rattle.block_forms.specs.declared.places.Position.{Position}
use Rattle.block_forms.specs.declared.places.Numbers.{Numbers}
use Rattle.block_forms.specs.Around.{Around, exit_to, again_to, exits_at, again_at}
use Rattle.block_forms.specs.Expressions.{if_there, defaults}
use Rattle.block_forms.specs.Intos.{Into}
use Rattle.block_forms.specs.Laid.{after, decl_size, with_expr, a_node, decls_size}
use Rattle.block_forms.specs.Lowered.{TermBelow, BlockBelow, end_leads}
use Rattle.block_forms.specs.Patterns.{source_term, select_term, null_of, is_null, not_positive, one, copy, in_range, leaves_range, moved, sets, branches, jumps, returns, fails, onward}
use Rattle.block_forms.specs.Targets.{one_target, named_targets}
use Rattle.goto_lower.specs.Building as spec
use Rattle.goto_lower.specs.Building.{Built, BuiltArm, first_from, row_size, row_many, row_first, row_blocks, set_many, set_blocks, slot_blocks, decls_many, decls_first, decls_blocks, decl_blocks, default_of, arm_size, arms_size, arms_many, arms_first, arms_blocks, branched, looped, leave_block, step_many, step_blocks, head_at, turn_blocks, for_blocks, bound_blocks, cur_at, count_size, into_built}
use Rattle.goto_lower.specs.IntoBlocks.{check_many, put_many, check_blocks, pick_blocks, put_block, put_blocks}
use Rattle.goto_lower.specs.Whole.{Params, param_first, param_blocks}
use Rattle.goto_lower.proofs.Everywhere.{Every, each_of, every_left, every_right, every_join}
use Rattle.goto_lower.proofs.BuiltSizes.{AllCounted, ArmsCounted, row_from, decls_from}

-- ---- blocks

pub record Safe (limit : ℕ) (x : Block) : Type 0 where
  pub elsewhere : end_leads x.end 0 ≡ false
  pub below : BlockBelow limit x

not_zero : (k : ℕ) → 1 ≤ k → nat_eq k 0 ≡ false
not_zero k le = ne_eqb k 0 (λ e. omega arith)

neither_zero : (k m : ℕ) → 1 ≤ k → 1 ≤ m → (nat_eq k 0 || nat_eq m 0) ≡ false
neither_zero k m p q = λ i. not_zero k p i || not_zero m q i

pub from_first : (k start next : ℕ) → 1 ≤ start → 1 ≤ next → 1 ≤ first_from k start next
from_first zero start next p q = q
from_first (suc k) start next p q = p

module _ (n : Numbers) (limit : ℕ) (room : n.counters ≤ limit) where
  abbrev Below : ℕ → Type 0
  Below s = s < limit

  abbrev pub Own : ℕ → Type 0
  Own s = s < n.counters

  abbrev pub OwnReads : Expr → Type 0
  OwnReads e = Every Own (slots_of e)

  widened : (xs : List ℕ) → Every Own xs → Every Below xs
  widened [] h = tt
  widened (x ∷ xs) h = let lt : x < n.counters = h.0 in (omega arith, widened xs h.1)

  term_below : (t : Term) → Every Below t.names → TermBelow limit t
  term_below t h = record { names = each_of Below t.names h }

  pub source_below : (k : ℕ) (e : Expr) → OwnReads e → TermBelow limit (source_term k e)
  source_below k e h = term_below (source_term k e) (widened (slots_of e) h)

  safe_sets : (slot : ℕ) (t : Term) (next : ℕ) → slot < limit → TermBelow limit t → 1 ≤ next → Safe limit (sets slot t next)
  safe_sets slot t next lt tb p = record { elsewhere = not_zero next p; below = record { set = (lt, tb); end = tt } }

  safe_branch : (head : Bool) (t : Term) (y m : ℕ) → TermBelow limit t → 1 ≤ y → 1 ≤ m → Safe limit (branches head t y m)
  safe_branch head t y m tb p q = record { elsewhere = neither_zero y m p q; below = record { set = tt; end = tb } }

  pub safe_jump : (head : Bool) (next : ℕ) → 1 ≤ next → Safe limit (jumps head next)
  safe_jump head next p = record { elsewhere = not_zero next p; below = record { set = tt; end = tt } }

  pub safe_return : (t : Term) → TermBelow limit t → Safe limit (returns t)
  safe_return t tb = record { elsewhere = refl; below = record { set = tt; end = tb } }

  pub safe_fail : (c : Class) → Safe limit (fails c)
  safe_fail c = record { elsewhere = refl; below = record { set = tt; end = tt } }

  abbrev pub AllSafe : List Block → Type 0
  AllSafe xs = Every (Safe limit) xs

  safe_join : (xs ys : List Block) → AllSafe xs → AllSafe ys → AllSafe (xs ++ ys)
  safe_join xs ys h g = every_join (Safe limit) xs ys h g

  set_safe : (strict : Bool) (t : Ty) (slot : ℕ) (e : Term) (next start : ℕ) → slot < limit → TermBelow limit e → 1 ≤ next → AllSafe (set_blocks n strict t slot e next start)
  set_safe false t slot e next start lt eb p = (safe_sets slot e next lt eb p, tt)
  set_safe true t slot e next start lt eb p =
      (safe_sets slot e (start + 1) lt eb (omega arith), (safe_branch false (is_null n.fixed t slot) (start + 2) next (term_below (is_null n.fixed t slot) (lt, tt)) (omega arith) p, (safe_fail null_not_allowed, tt)))

  pub slot_safe : (o : Option Slot) (slot : ℕ) (e : Term) (next start : ℕ) → slot < limit → TermBelow limit e → 1 ≤ next → AllSafe (slot_blocks n o slot e next start)
  slot_safe None slot e next start lt eb p = set_safe false ty.Bigint slot e next start lt eb p
  slot_safe (Some s) slot e next start lt eb p = set_safe s.not_null s.ty slot e next start lt eb p

  default_below : (o : Option Expr) (t : Ty) (k : ℕ) → Every OwnReads (if_there o) → TermBelow limit (default_of n o t k)
  default_below None t k h = term_below (null_of n.fixed t) tt
  default_below (Some e) t k h = source_below k e h.0

  decls_safe : (ds : List Decl) (p : Position) (next start : ℕ) → Every OwnReads (defaults ds) → p.slot + (decls_size ds).slot ≤ n.counters → 1 ≤ next → 1 ≤ start → AllSafe (decls_blocks n ds p next start)
  decls_safe [] p next start reads slots q r = tt
  decls_safe (d ∷ ds) p next start reads slots q r =
      let to = decls_first ds (start + set_many d.not_null) next in
      let at : to ≡ first_from (decls_many ds) (start + set_many d.not_null) next = decls_from ds (start + set_many d.not_null) next in
      let le : 1 ≤ to = subst (λ k. 1 ≤ k) (sym at) (from_first (decls_many ds) (start + set_many d.not_null) next (omega arith) q) in
      safe_join (decl_blocks n d p to start) (decls_blocks n ds (after p (decl_size d)) next (start + set_many d.not_null))
      (set_safe d.not_null d.ty p.slot (default_of n d.default d.ty p.expr) to start (omega arith) (default_below d.default d.ty p.expr (every_left OwnReads (if_there d.default) (defaults ds) reads)) le)
      (decls_safe ds (after p (decl_size d)) next (start + set_many d.not_null) (every_right OwnReads (if_there d.default) (defaults ds) reads) (omega arith) q (omega arith))

  -- ---- what stands around

  abbrev GoodAgain : Option ℕ → Type 0
  GoodAgain None = Unit {0}
  GoodAgain (Some k) = 1 ≤ k

  abbrev GoodAround : Around → Type 0
  GoodAround [] = Unit {0}
  GoodAround (x ∷ around) = (1 ≤ x.exit) × (GoodAgain x.again × GoodAround around)

  choice : (v : Bool) (a c : ℕ) → 1 ≤ a → 1 ≤ c → 1 ≤ (if v then a else c)
  choice true a c p q = p
  choice false a c p q = q

  pub exit_good : (finish : ℕ) (around : Around) (l : Label) → 1 ≤ finish → GoodAround around → 1 ≤ exit_to finish around l
  exit_good finish [] l p g = p
  exit_good finish (x ∷ around) l p g = choice (exits_at l x.label x.again) x.exit (exit_to finish around l) g.0 (exit_good finish around l p g.1.1)

  again_one : (again : Option ℕ) (l own : Label) (outer : ℕ) → GoodAgain again → 1 ≤ outer → 1 ≤ again_at again l own outer
  again_one None l own outer g p = p
  again_one (Some k) l own outer g p = choice (names_loop l own) k outer g p

  pub again_good : (finish : ℕ) (around : Around) (l : Label) → 1 ≤ finish → GoodAround around → 1 ≤ again_to finish around l
  again_good finish [] l p g = p
  again_good finish (x ∷ around) l p g = again_one x.again l x.label (again_to finish around l) g.1.0 (again_good finish around l p g.1.1)

  pub leave_safe : (when : Option Expr) (k to next : ℕ) → Every OwnReads (if_there when) → 1 ≤ to → 1 ≤ next → Safe limit (leave_block when k to next)
  leave_safe None k to next h p q = safe_jump false to p
  leave_safe (Some e) k to next h p q = safe_branch false (source_term k e) to next (source_below k e h.0) p q

  -- ---- statements

  -- a place whose variables and hidden slots are the function's
  pub record Within (p size : Position) : Type 0 where
    pub slots : p.slot + size.slot ≤ n.counters
    pub hidden : n.counters + 3 * (p.fors + size.fors) ≤ limit
    pub targets : n.targets + (p.targets + size.targets) ≤ limit

  pub record Secure (y : Built) : Type 0 where
    pub secure : (p : Position) (around : Around) (next start : ℕ) → Within p y.size → GoodAround around → 1 ≤ next → 1 ≤ start → AllSafe (y.blocks p around next start)

  abbrev pub AllSecure : List Built → Type 0
  AllSecure ys = Every Secure ys

  abbrev pub ArmsSecure : List BuiltArm → Type 0
  ArmsSecure [] = Unit {0}
  ArmsSecure (y ∷ ys) = (OwnReads y.test × AllSecure y.body) × ArmsSecure ys

  row_good : (ys : List Built) → AllCounted ys → (start next : ℕ) → 1 ≤ start → 1 ≤ next → 1 ≤ row_first ys start next
  row_good ys c start next p q = subst (λ k. 1 ≤ k) (sym (row_from ys c start next)) (from_first (row_many ys) start next p q)

  row_safe : (ys : List Built) → AllCounted ys → AllSecure ys → (p : Position) (around : Around) (next start : ℕ) → Within p (row_size ys) → GoodAround around → 1 ≤ next → 1 ≤ start → AllSafe (row_blocks ys p around next start)
  row_safe [] c h p around next start w g q r = tt
  row_safe (y ∷ ys) c h p around next start w g q r =
      safe_join (y.blocks p around (row_first ys (start + y.many) next) start) (row_blocks ys (after p y.size) around next (start + y.many))
      (h.0.secure p around (row_first ys (start + y.many) next) start (record { slots = omega (arith, w.slots); hidden = omega (arith, w.hidden); targets = omega (arith, w.targets) }) g (row_good ys c.1 (start + y.many) next (omega arith) q) r)
      (row_safe ys c.1 h.1 (after p y.size) around next (start + y.many) (record { slots = omega (arith, w.slots); hidden = omega (arith, w.hidden); targets = omega (arith, w.targets) }) g q (omega arith))

  arms_good : (ys : List BuiltArm) (start next : ℕ) → 1 ≤ start → 1 ≤ next → 1 ≤ arms_first ys start next
  arms_good [] start next p q = q
  arms_good (y ∷ ys) start next p q = p

  arms_safe : (ys : List BuiltArm) → ArmsCounted ys → ArmsSecure ys → (p : Position) (around : Around) (next lack start : ℕ) → Within p (arms_size ys) → GoodAround around → 1 ≤ next → 1 ≤ lack → 1 ≤ start → AllSafe (arms_blocks ys p around next lack start)
  arms_safe [] c h p around next lack start w g q l r = tt
  arms_safe (y ∷ ys) c h p around next lack start w g q l r =
      let behind = start + (1 + row_many y.body) in (
        safe_branch false (source_term p.expr y.test) (row_first y.body (start + 1) next) (arms_first ys behind lack) (source_below p.expr y.test h.0.0) (row_good y.body c.0 (start + 1) next (omega arith) q) (arms_good ys behind lack (omega arith) l),
        safe_join (row_blocks y.body (after p with_expr) around next (start + 1)) (arms_blocks ys (after p (arm_size y)) around next lack behind)
            (row_safe y.body c.0 h.0.1 (after p with_expr) around next (start + 1) (record { slots = omega (arith, w.slots); hidden = omega (arith, w.hidden); targets = omega (arith, w.targets) }) g q (omega arith))
            (arms_safe ys c.1 h.1 (after p (arm_size y)) around next lack behind (record { slots = omega (arith, w.slots); hidden = omega (arith, w.hidden); targets = omega (arith, w.targets) }) g q l (omega arith)),
      )

  pub branch_secure : (ys : List BuiltArm) → ArmsCounted ys → ArmsSecure ys → (without : Option Class) → Secure (branched ys None without)
  branch_secure ys c h None = record {
    secure = λ p around next start w g q r. arms_safe ys c h (after p a_node) around next next start (record { slots = omega (arith, w.slots); hidden = omega (arith, w.hidden); targets = omega (arith, w.targets) }) g q q r;
  }
  branch_secure ys c h (Some x) = record {
    secure = λ p around next start w g q r.
        safe_join (arms_blocks ys (after p a_node) around next (start + arms_many ys) start) (fails x ∷ [])
        (arms_safe ys c h (after p a_node) around next (start + arms_many ys) start (record { slots = omega (arith, w.slots); hidden = omega (arith, w.hidden); targets = omega (arith, w.targets) }) g q (omega arith) r) (safe_fail x, tt);
  }

  pub else_secure : (ys : List BuiltArm) → ArmsCounted ys → ArmsSecure ys → (zs : List Built) → AllCounted zs → AllSecure zs → (without : Option Class) → Secure (branched ys (Some zs) without)
  else_secure ys c h zs d k without = record {
    secure = λ p around next start w g q r.
        let from = start + arms_many ys in
        let lack = row_first zs from next in
        let there = after (after p (after a_node (arms_size ys))) a_node in
        safe_join (arms_blocks ys (after p a_node) around next lack start) (row_blocks zs there around next from)
        (arms_safe ys c h (after p a_node) around next lack start (record { slots = omega (arith, w.slots); hidden = omega (arith, w.hidden); targets = omega (arith, w.targets) }) g q (row_good zs d from next (omega arith) q) r)
        (row_safe zs d k there around next from (record { slots = omega (arith, w.slots); hidden = omega (arith, w.hidden); targets = omega (arith, w.targets) }) g q (omega arith));
  }

  pub block_secure : (label : Label) (ds : List Decl) (ys : List Built) → AllCounted ys → AllSecure ys → Every OwnReads (defaults ds) → Secure (spec.grouped n label ds ys)
  block_secure label ds ys c h reads = record {
    secure = λ p around next start w g q r.
        let from = start + decls_many ds in
        let f = row_first ys from next in
        let there = after p (after a_node (decls_size ds)) in
        let inner = record { label = label; exit = next; again = None } ∷ around in
        safe_join (decls_blocks n ds (after p a_node) f start) (row_blocks ys there inner next from)
        (decls_safe ds (after p a_node) f start reads (omega (arith, w.slots)) (row_good ys c from next (omega arith) q) r)
        (row_safe ys c h there inner next from (record { slots = omega (arith, w.slots); hidden = omega (arith, w.hidden); targets = omega (arith, w.targets) }) (q, (tt, g)) q (omega arith));
  }

  pub plain_secure : (label : Label) (ys : List Built) → AllCounted ys → AllSecure ys → Secure (looped label a_node (λ p first next. jumps true first) ys)
  plain_secure label ys c h = record {
    secure = λ p around next start w g q r.
        let inner = record { label = label; exit = next; again = Some start } ∷ around in (
          safe_jump true (row_first ys (start + 1) start) (row_good ys c (start + 1) start (omega arith) r),
          row_safe ys c h (after p a_node) inner start (start + 1) (record { slots = omega (arith, w.slots); hidden = omega (arith, w.hidden); targets = omega (arith, w.targets) }) (q, (r, g)) r (omega arith),
        );
  }

  pub while_secure : (label : Label) (e : Expr) (ys : List Built) → AllCounted ys → AllSecure ys → OwnReads e → Secure (looped label with_expr (λ p first next. branches true (source_term p.expr e) first next) ys)
  while_secure label e ys c h reads = record {
    secure = λ p around next start w g q r.
        let inner = record { label = label; exit = next; again = Some start } ∷ around in (
          safe_branch true (source_term p.expr e) (row_first ys (start + 1) start) next (source_below p.expr e reads) (row_good ys c (start + 1) start (omega arith) r) q,
          row_safe ys c h (after p with_expr) inner start (start + 1) (record { slots = omega (arith, w.slots); hidden = omega (arith, w.hidden); targets = omega (arith, w.targets) }) (q, (r, g)) r (omega arith),
        );
  }

  -- ---- FOR

  step_safe : (by : Option Expr) (k slot head start : ℕ) → Every OwnReads (if_there by) → slot < limit → 1 ≤ head → AllSafe (step_blocks n by k slot head start)
  step_safe None k slot head start h lt p = (safe_sets slot (one n.fixed) head lt (term_below (one n.fixed) tt) p, tt)
  step_safe (Some e) k slot head start h lt p =
      safe_join (bound_blocks n slot (source_term k e) start) (branches false (not_positive n.fixed slot) (start + 3 + 1) head ∷ fails invalid_parameter ∷ [])
      (set_safe true ty.Integer slot (source_term k e) (start + 3) start lt (source_below k e h.0) (omega arith))
      (safe_branch false (not_positive n.fixed slot) (start + 3 + 1) head (term_below (not_positive n.fixed slot) (lt, tt)) (omega arith) p, (safe_fail invalid_parameter, tt))

  turn_safe : (reverse : Bool) (p : Position) (body next head : ℕ) → p.slot < n.counters → n.counters + 3 * (p.fors + 1) ≤ limit → 1 ≤ body → 1 ≤ next → 1 ≤ head → AllSafe (turn_blocks n reverse p body next head)
  turn_safe reverse p body next head lt h q r t =
      let c0 : cur_at n p < limit = omega arith in
      let c1 : cur_at n p + 1 < limit = omega arith in
      let c2 : cur_at n p + 2 < limit = omega arith in (
        safe_branch true (in_range n.fixed reverse (cur_at n p) (cur_at n p + 1)) (head + 1) next (term_below (in_range n.fixed reverse (cur_at n p) (cur_at n p + 1)) (c0, (c1, tt))) (omega arith) r,
        (
          safe_sets p.slot (copy n.fixed (cur_at n p)) body (omega arith) (term_below (copy n.fixed (cur_at n p)) (c0, tt)) q,
          (
            safe_branch false (leaves_range n.fixed reverse (cur_at n p + 2) (cur_at n p)) next (head + 1 + 1 + 1) (term_below (leaves_range n.fixed reverse (cur_at n p + 2) (cur_at n p)) (c2, (c0, tt))) r (omega arith),
            (safe_sets (cur_at n p) (moved n.fixed reverse (cur_at n p) (cur_at n p + 2)) head c0 (term_below (moved n.fixed reverse (cur_at n p) (cur_at n p + 2)) (c0, (c2, tt))) t, tt),
          ),
        ),
      )

  for_safe : (reverse : Bool) (e1 e2 : Expr) (by : Option Expr) (p : Position) (body next start : ℕ) → OwnReads e1 → OwnReads e2 → Every OwnReads (if_there by) → p.slot < n.counters → n.counters + 3 * (p.fors + 1) ≤ limit → 1 ≤ body → 1 ≤ next → 1 ≤ start → AllSafe (for_blocks n reverse e1 e2 by p body next start)
  for_safe reverse e1 e2 by p body next start r1 r2 r3 lt h q r t =
      let c0 : cur_at n p < limit = omega arith in
      let c1 : cur_at n p + 1 < limit = omega arith in
      let c2 : cur_at n p + 2 < limit = omega arith in
      let three = step_blocks n by (p.expr + 2) (cur_at n p + 2) (head_at by start) (start + 3 + 3) in
      let four = turn_blocks n reverse p body next (head_at by start) in
      let two = bound_blocks n (cur_at n p + 1) (source_term (p.expr + 1) e2) (start + 3) in
      safe_join (bound_blocks n (cur_at n p) (source_term p.expr e1) start) (two ++ (three ++ four)) (set_safe true ty.Integer (cur_at n p) (source_term p.expr e1) (start + 3) start c0 (source_below p.expr e1 r1) (omega arith))
      (safe_join two (three ++ four) (set_safe true ty.Integer (cur_at n p + 1) (source_term (p.expr + 1) e2) (start + 3 + 3) (start + 3) c1 (source_below (p.expr + 1) e2 r2) (omega arith))
      (safe_join three four (step_safe by (p.expr + 2) (cur_at n p + 2) (head_at by start) (start + 3 + 3) r3 c2 (omega arith)) (turn_safe reverse p body next (head_at by start) lt h q r (omega arith))))

  pub count_secure : (label : Label) (reverse : Bool) (e1 e2 : Expr) (by : Option Expr) (ys : List Built) → AllCounted ys → AllSecure ys → OwnReads e1 → OwnReads e2 → Every OwnReads (if_there by) → Secure (spec.counted n label reverse e1 e2 by ys)
  count_secure label reverse e1 e2 by ys c h r1 r2 r3 = record {
    secure = λ p around next start w g q r.
        let again = head_at by start + 1 + 1 in
        let begin = row_first ys (head_at by start + 4) again in
        let inner = record { label = label; exit = next; again = Some again } ∷ around in
        let first : 1 ≤ begin = row_good ys c (head_at by start + 4) again (omega arith) (omega arith) in
        let a : 1 ≤ again = omega arith in
        safe_join (for_blocks n reverse e1 e2 by p begin next start) (row_blocks ys (after p (count_size by)) inner again (head_at by start + 4))
        (for_safe reverse e1 e2 by p begin next start r1 r2 r3 (omega (arith, w.slots)) (omega (arith, w.hidden)) first q r)
        (row_safe ys c h (after p (count_size by)) inner again (head_at by start + 4) (record { slots = omega (arith, w.slots); hidden = omega (arith, w.hidden); targets = omega (arith, w.targets) }) (q, (a, g)) a (omega arith));
  }

  -- ---- SELECT INTO

  abbrev pub OwnInto : Into → Type 0
  OwnInto i = Every Own (select_slots i.query)

  select_below : (k : ℕ) (q : Select) → Every Own (select_slots q) → TermBelow limit (select_term k q)
  select_below k q h = term_below (select_term k q) (widened (select_slots q) h)

  onward_good : (ts : List Target) (rest behind : ℕ) → 1 ≤ rest → 1 ≤ behind → 1 ≤ onward ts rest behind
  onward_good [] rest behind p q = q
  onward_good (t ∷ ts) rest behind p q = p

  checks_safe : (strict : Bool) (k : ℕ) (q : Select) (first start : ℕ) → Every Own (select_slots q) → 1 ≤ first → AllSafe (check_blocks strict k q first start)
  checks_safe false k q first start h p = tt
  checks_safe true k q first start h p = (
    safe_branch false (select_term k q) (start + 1) (start + 2) (select_below k q h) (omega arith) (omega arith),
    (safe_fail no_data_found, (safe_branch false (select_term (k + 1) q) (start + 3) first (select_below (k + 1) q h) (omega arith) p, (safe_fail too_many_rows, tt))),
  )

  picks_safe : (ts : List Target) (k hidden : ℕ) (q : Select) (start : ℕ) → Every Own (select_slots q) → hidden + length ts ≤ limit → AllSafe (pick_blocks ts k hidden q start)
  picks_safe [] k hidden q start h le = tt
  picks_safe (t ∷ ts) k hidden q start h le = (safe_sets hidden (select_term k q) (start + 1) (omega arith) (select_below k q h) (omega arith), picks_safe ts (k + 1) (hidden + 1) q (start + 1) h (omega arith))

  module _ (slots : List Slot) where
    put_safe : (t : Option ℕ) (hidden next start : ℕ) → Every Own (one_target t) → hidden < limit → 1 ≤ next → AllSafe (put_block n slots t hidden next start)
    put_safe None hidden next start a lt p = (safe_jump false next p, tt)
    put_safe (Some slot) hidden next start a lt p = let own : slot < n.counters = a.0 in slot_safe (slice_get slots slot) slot (copy n.fixed hidden) next start (omega arith) (term_below (copy n.fixed hidden) (lt, tt)) p

    puts_safe : (ts : List Target) (hidden next start : ℕ) → Every Own (named_targets ts) → hidden + length ts ≤ limit → 1 ≤ next → 1 ≤ start → AllSafe (put_blocks n slots ts hidden next start)
    puts_safe [] hidden next start a le p r = tt
    puts_safe (t ∷ ts) hidden next start a le p r =
        let behind = start + put_many slots t.1 in
        safe_join (put_block n slots t.1 hidden (onward ts behind next) start) (put_blocks n slots ts (hidden + 1) next behind)
        (put_safe t.1 hidden (onward ts behind next) start (every_left Own (one_target t.1) (named_targets ts) a) (omega arith) (onward_good ts behind next (omega arith) p))
        (puts_safe ts (hidden + 1) next behind (every_right Own (one_target t.1) (named_targets ts) a) (omega arith) p (omega arith))

    pub into_secure : (strict : Bool) (ts : List Target) (q : Select) → Every Own (select_slots q) → Every Own (named_targets ts) → Secure (into_built n slots strict ts q)
    into_secure strict ts q h a = record {
      secure = λ p around next start w g e r.
          let from = start + check_many strict in
          let first = onward ts from next in
          let hidden = n.targets + p.targets in
          let ps = pick_blocks ts (p.expr + checks strict) hidden q from in
          let us = put_blocks n slots ts hidden next (from + length ts) in
          safe_join (check_blocks strict p.expr q first start) (ps ++ us) (checks_safe strict p.expr q first start h (onward_good ts from next (omega arith) e))
          (safe_join ps us (picks_safe ts (p.expr + checks strict) hidden q from h (omega (arith, w.targets))) (puts_safe ts hidden next (from + length ts) a (omega (arith, w.targets)) e (omega arith)));
    }

  -- ---- parameters

  pub params_first : (strict : Bool) (ps : Params) (start body : ℕ) → 1 ≤ start → 1 ≤ body → 1 ≤ param_first strict ps start body
  params_first strict [] start body p q = q
  params_first false (x ∷ ps) start body p q = params_first false ps start body p q
  params_first true (x ∷ ps) start body p q = p

  pub params_safe : (strict : Bool) (result : Ty) (k : ℕ) (ps : Params) (start body : ℕ) → k + length ps ≤ n.counters → 1 ≤ start → 1 ≤ body → AllSafe (param_blocks n.fixed strict result k ps start body)
  params_safe strict result k [] start body le p q = tt
  params_safe false result k (x ∷ ps) start body le p q = params_safe false result (k + 1) ps start body (omega arith) p q
  params_safe true result k (x ∷ ps) start body le p q =
      let next = param_first true ps (start + 2) body in
      let here : k < limit = omega arith in (
        safe_branch false (is_null n.fixed x.1 k) (start + 1) next (term_below (is_null n.fixed x.1 k) (here, tt)) (omega arith) (params_first true ps (start + 2) body (omega arith) q),
        (safe_return (null_of n.fixed result) (term_below (null_of n.fixed result) tt), params_safe true result (k + 1) ps (start + 2) body (omega arith) (omega arith) q),
      )
