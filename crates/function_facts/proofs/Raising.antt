-- In the patterns of all statements what a block raises is a class, and so it is in each goto form of a function.
use Rattle.std.proofs.Common.{◌≡◌, ℕ, ◌+◌, ◌≤◌, Bool, true, false, if◌then◌else◌, nat_eq, List, [], ◌∷◌, ◌++◌, length, Option, Some, None, refl, ap, sym, ◌∙◌, subst, arith}
use Rattle.std.specs.Prelude.{slice_get}
use Rattle.std.proofs.lemmas.Bool.{eqb-true}
use Rattle.std.proofs.lemmas.Option.{same_Some, slice_get_within}
use Rattle.away_trees.specs.declared.queries.Expr.{Expr}
use Rattle.away_trees.specs.declared.queries.Select.{Select}
use Rattle.away_trees.specs.declared.statements.Decl.{Decl}
use Rattle.away_trees.specs.declared.statements.Function.{Function}
use Rattle.away_trees.specs.declared.statements.LoopKind.{LoopKind}
use Rattle.away_trees.specs.declared.statements.LoopKind.TheVariants as kind
use Rattle.away_trees.specs.declared.statements.Raised.{Raised}
use Rattle.away_trees.specs.declared.statements.Raised.TheVariants as raised
use Rattle.away_trees.specs.declared.statements.Stmt.{Stmt}
use Rattle.away_trees.specs.declared.statements.Stmt.TheBlock as b
use Rattle.away_trees.specs.StatementAlgebra.{stmt_of, stmts_of, branches_of, else_of}
use Rattle.away_types.specs.declared.slots.Slot.{Slot}
use Rattle.away_values.specs.declared.types.Ty.{Ty}
use Rattle.away_values.specs.declared.values.Class.{Class}
use Rattle.away_values.specs.Classes.{is_class}
use Rattle.plsql_meaning.specs.Outcomes.{case_not_found, raised_message}
use Rattle.plsql_meaning.specs.Statements.{class_of}
use Rattle.select_into.specs.Entries.{Target, checks}
use Rattle.block_forms.specs.declared.forms.Block.{Block}
use Rattle.block_forms.specs.declared.forms.Goto.{Goto}
use Rattle.block_forms.specs.declared.forms.Term.{Term}
use Rattle.block_forms.specs.declared.places.Numbers.{Numbers}
use Rattle.block_forms.specs.declared.places.Position.{Position}
use Rattle.block_forms.specs.Around.{Around}
use Rattle.block_forms.specs.Laid.{Setting, Laid, LaidArm, laying, laid, first_block, row_parts, decls_parts, assign_parts, arms_parts, branch_parts, lack_parts, else_parts, kind_parts, again_of, default_term, after, with_expr, a_node, decl_size}
use Rattle.block_forms.specs.Lowered.{AllStand, owners, sharers, one_of, params_parts, all_parts, body_place, setting, Lowered}
use Rattle.block_forms.specs.Patterns.{Part, own, shared, same, never, set_parts, slot_parts, bound_parts, step_parts, for_parts, leave_parts, exit_parts, no_of, copy, check_parts, pick_parts, put_part, put_parts, into_parts}
use Rattle.block_forms.specs.Places.{Each}
use Rattle.block_forms.proofs.Exits.{exit_either}
use Rattle.function_facts.specs.Raising.{RaisesClass}

-- ---- parts

abbrev IsFair : Part → Type 0
IsFair (own c x) = RaisesClass x.end
IsFair (shared c x) = RaisesClass x.end
IsFair (same c d) = Unit {0}
IsFair never = Unit {0}

abbrev AreFair : List Part → Type 0
AreFair [] = Unit {0}
AreFair (p ∷ ps) = IsFair p × AreFair ps

fair_append : (ps qs : List Part) → AreFair ps → AreFair qs → AreFair (ps ++ qs)
fair_append [] qs h k = k
fair_append (p ∷ ps) qs h k = (h.0, fair_append ps qs h.1 k)

-- what RAISE raises is a class
class_is : (t : List ℕ) → is_class (class_of (raised.State t)).code ≡ true
class_is t = by (is_class t) refl
  where
    by : (q : Bool) → is_class t ≡ q → is_class (if q then record { code = t } else raised_message).code ≡ true
    by true h = h
    by false h = refl

raised_is : (r : Raised) → is_class (class_of r).code ≡ true
raised_is (raised.Message t) = refl
raised_is (raised.State t) = class_is t

-- ---- patterns

module _ (g : Goto) (n : Numbers) where
  set_fair : (strict : Bool) (t : Ty) (c slot : ℕ) (e : Term) (next : ℕ) → AreFair (set_parts g n strict t c slot e next)
  set_fair false t c slot e next = (tt, tt)
  set_fair true t c slot e next = (tt, (tt, (refl, tt)))

  slot_fair : (s : Option Slot) (c slot : ℕ) (e : Term) (next : ℕ) → AreFair (slot_parts g n s c slot e next)
  slot_fair None c slot e next = (tt, tt)
  slot_fair (Some s) c slot e next = set_fair s.not_null s.ty c slot e next

  leave_fair : (when : Option Expr) (k c to next : ℕ) → AreFair (leave_parts g n when k c to next)
  leave_fair None k c to next = (tt, tt)
  leave_fair (Some e) k c to next = (tt, tt)

  exit_fair : (when : Option Expr) (k c to next : ℕ) → AreFair (exit_parts g n when k c to next)
  exit_fair when k c to next = exit_either g n when k c to next AreFair (tt, tt) (leave_fair when k c to next)

  bound_fair : (c slot : ℕ) (e : Term) (next : ℕ) → AreFair (bound_parts g n c slot e next)
  bound_fair c slot e next = (tt, (tt, (refl, tt)))

  step_fair : (by_ : Option Expr) (k c step head : ℕ) → AreFair (step_parts g n by_ k c step head)
  step_fair None k c step head = (tt, tt)
  step_fair (Some e) k c step head = (tt, (tt, (refl, (tt, (refl, tt)))))

  for_fair : (reverse : Bool) (first last : Expr) (by_ : Option Expr) (p : Position) (body next : ℕ) → AreFair (for_parts g n reverse first last by_ p body next)
  for_fair reverse first last None p body next = (tt, (tt, (refl, (tt, (tt, (refl, (tt, (tt, (tt, (tt, (tt, tt)))))))))))
  for_fair reverse first last (Some e) p body next = (tt, (tt, (refl, (tt, (tt, (refl, (tt, (tt, (refl, (tt, (refl, (tt, (tt, (tt, (tt, tt)))))))))))))))

  check_fair : (strict : Bool) (c k : ℕ) (q : Select) (first : ℕ) → AreFair (check_parts g n strict c k q first)
  check_fair false c k q first = (tt, tt)
  check_fair true c k q first = (tt, (refl, (tt, (refl, tt))))

  picks_fair : (ts : List Target) (i k hidden : ℕ) (q : Select) (puts : ℕ) → AreFair (pick_parts g n ts i k hidden q puts)
  picks_fair [] i k hidden q puts = tt
  picks_fair (t ∷ ts) i k hidden q puts = (tt, picks_fair ts (i + 1) (k + 1) (hidden + 1) q puts)

  put_fair : (slots : List Slot) (o : Option ℕ) (c hidden next : ℕ) → AreFair (put_part g n slots o c hidden next)
  put_fair slots None c hidden next = (tt, tt)
  put_fair slots (Some s) c hidden next = slot_fair (slice_get slots s) c s (copy n.fixed hidden) next

  puts_fair : (slots : List Slot) (ts : List Target) (c hidden next : ℕ) → AreFair (put_parts g n slots ts c hidden next)
  puts_fair slots [] c hidden next = tt
  puts_fair slots (t ∷ ts) c hidden next =
      fair_append _ (put_parts g n slots ts _ (hidden + 1) next) (put_fair slots t.1 c hidden _) (puts_fair slots ts _ (hidden + 1) next)

  into_fair : (slots : List Slot) (strict : Bool) (ts : List Target) (q : Select) (p : Position) (next : ℕ) → AreFair (into_parts g n slots strict ts q p next)
  into_fair slots strict ts q p next =
      fair_append _ _ (check_fair strict _ p.expr q _)
      (fair_append _ _ (picks_fair ts (p.node + 1) (p.expr + checks strict) (n.targets + p.targets) q _) (puts_fair slots ts _ (n.targets + p.targets) next))

-- ---- statements

abbrev Quiet : Laid → Type 0
Quiet x = (s : Setting) (p : Position) (around : Around) (next : ℕ) → AreFair (x.parts s p around next)

abbrev AreQuiet : List Laid → Type 0
AreQuiet [] = Unit {0}
AreQuiet (x ∷ xs) = Quiet x × AreQuiet xs

abbrev ArmsQuiet : List LaidArm → Type 0
ArmsQuiet [] = Unit {0}
ArmsQuiet (a ∷ rest) = AreQuiet a.body × ArmsQuiet rest

abbrev ElseQuiet : Option (List Laid) → Type 0
ElseQuiet None = Unit {0}
ElseQuiet (Some body) = AreQuiet body

module _ (s : Setting) where
  row_fair : (xs : List Laid) → AreQuiet xs → (p : Position) (around : Around) (next : ℕ) → AreFair (row_parts s xs p around next)
  row_fair [] h p around next = tt
  row_fair (x ∷ xs) h p around next =
      fair_append (x.parts s p around (first_block s (length xs) (p.node + x.size.node) next)) (row_parts s xs (after p x.size) around next)
      (h.0 s p around (first_block s (length xs) (p.node + x.size.node) next)) (row_fair xs h.1 (after p x.size) around next)

  decls_fair : (ds : List Decl) (p : Position) (next : ℕ) → AreFair (decls_parts s ds p next)
  decls_fair [] p next = tt
  decls_fair (d ∷ ds) p next =
      fair_append _ (decls_parts s ds (after p (decl_size d)) next)
      (slot_fair s.goto s.numbers (slice_get s.slots p.slot) _ p.slot (default_term s d.default d.ty p.expr) (first_block s (length ds) (p.node + 1) next))
      (decls_fair ds (after p (decl_size d)) next)

  assign_fair : (slot : Option ℕ) (e : Expr) (p : Position) (next : ℕ) → AreFair (assign_parts s slot e p next)
  assign_fair None e p next = (tt, tt)
  assign_fair (Some i) e p next = slot_fair s.goto s.numbers (slice_get s.slots i) _ i _ next

  arms_fair : (xs : List LaidArm) → ArmsQuiet xs → (p : Position) (around : Around) (next c : ℕ) → AreFair (arms_parts s xs p around next c)
  arms_fair [] h p around next c = tt
  arms_fair (a ∷ rest) h p around next c = (
    tt,
    (
      tt,
      fair_append (row_parts s a.body (after p with_expr) around next) (arms_parts s rest (after p a.size) around next (no_of s.goto c))
          (row_fair a.body h.0 (after p with_expr) around next) (arms_fair rest h.1 (after p a.size) around next (no_of s.goto c)),
    ),
  )

  abbrev IsNoneOrClass : Option Class → Type 0
  IsNoneOrClass None = Unit {0}
  IsNoneOrClass (Some c) = is_class c.code ≡ true

  lack_fair : (without : Option Class) → IsNoneOrClass without → (c next : ℕ) → AreFair (lack_parts s without c next)
  lack_fair None h c next = (tt, tt)
  lack_fair (Some k) h c next = (h, tt)

  else_fair : (o : Option (List Laid)) → ElseQuiet o → (without : Option Class) → IsNoneOrClass without → (p : Position) (around : Around) (next c : ℕ)
      → AreFair (else_parts s o without p around next c)
  else_fair None q without h p around next c = lack_fair without h c next
  else_fair (Some body) q without h p around next c = (tt, (tt, row_fair body q (after p a_node) around next))

  kind_fair : (k : LoopKind) (p : Position) (body next : ℕ) → AreFair (kind_parts s k p body next)
  kind_fair kind.Plain p body next = (tt, tt)
  kind_fair (kind.While e) p body next = (tt, tt)
  kind_fair (kind.Count var reverse first last by_) p body next = for_fair s.goto s.numbers reverse first last by_ p body next

branched_fair : (arms : List LaidArm) (o : Option (List Laid)) (without : Option Class) → ArmsQuiet arms → ElseQuiet o
    → ((s : Setting) → IsNoneOrClass s without) → (s : Setting) (p : Position) (around : Around) (next : ℕ)
    → AreFair (branch_parts s arms o without p around next)
branched_fair arms o without h k w s p around next =
    fair_append (arms_parts s arms (after p a_node) around next _) _ (arms_fair s arms h (after p a_node) around next _)
    (else_fair s o k without (w s) _ around next _)

mutual
  stmt_quiet : (x : Stmt) → Quiet (stmt_of laying x)
  stmt_quiet (b.Block' label decls n body closing) = λ s p around next.
      (tt, fair_append (decls_parts s decls (after p a_node) _) _ (decls_fair s decls (after p a_node) _) (row_fair s (stmts_of laying body) (stmts_quiet body) _ _ next))
  stmt_quiet (b.Assign name slot e) = λ s p around next. assign_fair s slot e p next
  stmt_quiet (b.If' n arms o) = branched_fair (branches_of laying arms) (else_of laying o) None (branches_quiet arms) (else_quiet o) (λ s. tt)
  stmt_quiet (b.Cases' n arms o) =
      branched_fair (branches_of laying arms) (else_of laying o) (Some case_not_found) (branches_quiet arms) (else_quiet o) (λ s. refl)
  stmt_quiet (b.Loop' label k n body closing) = λ s p around next.
      fair_append (kind_parts s k p _ next) _ (kind_fair s k p _ next) (row_fair s (stmts_of laying body) (stmts_quiet body) _ _ (again_of s k p))
  stmt_quiet (b.Exit label when) = λ s p around next. exit_fair s.goto s.numbers when p.expr _ _ next
  stmt_quiet (b.Continue label when) = λ s p around next. leave_fair s.goto s.numbers when p.expr _ _ next
  stmt_quiet (b.Return e) = λ s p around next. (tt, tt)
  stmt_quiet (b.Raise r) = λ s p around next. (raised_is r, tt)
  stmt_quiet (b.Into strict targets query) = λ s p around next. into_fair s.goto s.numbers s.slots strict targets query p next
  stmt_quiet b.Nothing = λ s p around next. (tt, tt)

  stmts_quiet : {m : _} (body : b.Row_of-Stmt m) → AreQuiet (stmts_of laying body)
  stmts_quiet b.end_of-Stmt = tt
  stmts_quiet (b.more_of-Stmt x rest) = (stmt_quiet x, stmts_quiet rest)

  branches_quiet : {m : _} (arms : b.Row_of-Arm m) → ArmsQuiet (branches_of laying arms)
  branches_quiet b.end_of-Arm = tt
  branches_quiet (b.more_of-Arm test n body rest) = (stmts_quiet body, branches_quiet rest)

  else_quiet : (o : b.Held-Stmt-If-1) → ElseQuiet (else_of laying o)
  else_quiet b.None' = tt
  else_quiet (b.Some' n body) = stmts_quiet body

-- ---- the form

params_fair : (s : Setting) (strict : Bool) (result : Ty) (k : ℕ) (ps : List (List ℕ × Ty)) → AreFair (params_parts s strict result k ps)
params_fair s strict result k [] = tt
params_fair s false result k (p ∷ ps) = (tt, params_fair s false result (k + 1) ps)
params_fair s true result k (p ∷ ps) = (tt, (tt, params_fair s true result (k + 1) ps))

all_fair : (f : Function) (slots : List Slot) (g : Goto) → AreFair (all_parts f slots g)
unfolding laid
all_fair f slots g =
    let s = setting f slots g in (
      tt,
      (
        refl,
        fair_append (params_parts s f.strict f.result 0 f.params) ((laid f.body).parts s (body_place f) [] g.finish)
            (params_fair s f.strict f.result 0 f.params) (stmt_quiet f.body s (body_place f) [] g.finish),
      ),
    )

-- a block that belongs to a pattern, or to some, stands there
module _ (blocks : List Block) (i : ℕ) (x : Block) (at : slice_get blocks i ≡ Some x) where
  at_part : (c : ℕ) (y : Block) → nat_eq c i ≡ true → slice_get blocks c ≡ Some y → RaisesClass y.end → RaisesClass x.end
  at_part c y e there h =
      subst (λ (z : Block). RaisesClass z.end) (same_Some y x (sym there ∙ (ap (λ k. slice_get blocks k) (eqb-true c i e) ∙ at))) h

  one_part : (c : ℕ) (y : Block) (q : Bool) → nat_eq c i ≡ q → slice_get blocks c ≡ Some y → RaisesClass y.end → (rest : ℕ)
      → (1 ≤ rest → RaisesClass x.end) → 1 ≤ one_of q + rest → RaisesClass x.end
  one_part c y true e there h rest further p = at_part c y e there h
  one_part c y false e there h rest further p = further (omega (arith, p))

  of_parts : (ps : List Part) → AllStand blocks ps → AreFair ps → 1 ≤ owners i ps + sharers i ps → RaisesClass x.end
  of_parts [] stand fair p = absurd (omega (arith, p))
  of_parts (own c y ∷ ps) stand fair p =
      one_part c y (nat_eq c i) refl stand.0 fair.0 (owners i ps + sharers i ps) (λ q. of_parts ps stand.1 fair.1 q) (omega (arith, p))
  of_parts (shared c y ∷ ps) stand fair p =
      one_part c y (nat_eq c i) refl stand.0 fair.0 (owners i ps + sharers i ps) (λ q. of_parts ps stand.1 fair.1 q) (omega (arith, p))
  of_parts (same c d ∷ ps) stand fair p = of_parts ps stand.1 fair.1 p
  of_parts (never ∷ ps) stand fair p = absurd stand.0

pub raise_classes : (f : Function) (slots : List Slot) (g : Goto) → Lowered f slots g → Each (λ (x : Block). RaisesClass x.end) g.blocks
raise_classes f slots g lowered i x at =
    of_parts g.blocks i x at (all_parts f slots g) lowered.stand (all_fair f slots g)
    (lowered.each_once.covered i (slice_get_within g.blocks i x at))
