-- Only visible slots are live where a statement without parts begins.
use Rattle.std.proofs.Common.{◌≡◌, ℕ, ◌+◌, Bool, true, false, List, [], ◌∷◌, Option, Some, None, slice_get, refl, inl, inr, subst, arith}
use Rattle.away_values.specs.declared.types.Ty.{Ty}
use Rattle.away_values.specs.declared.types.Ty.TheVariants as ty
use Rattle.away_trees.specs.declared.queries.Expr.{Expr}
use Rattle.away_trees.specs.declared.statements.Raised.{Raised}
use Rattle.away_trees.specs.declared.statements.Stmt.TheOpen.{Stmt-F, Arm-F}
use Rattle.away_trees.specs.declared.statements.Stmt.TheOpen as st
use Rattle.away_types.specs.declared.slots.Slot.{Slot}
use Rattle.plsql_meaning.specs.Outcomes.{Label, null_not_allowed}
use Rattle.plsql_meaning.specs.Statements.{class_of}
use Rattle.function_facts.specs.Sight as sight
use Rattle.function_facts.specs.Sight.{Walk}
use Rattle.block_forms.specs.declared.forms.Term.{Term}
use Rattle.block_forms.specs.Around.{exit_to, again_to}
use Rattle.block_forms.specs.Laid.{Setting, Laid, LaidArm, laying}
use Rattle.block_forms.specs.Lowered.{AllStand}
use Rattle.block_forms.specs.Patterns.{node, jump_of, yes_of, is_null, source_term, set_parts, slot_parts, leave_parts}
use Rattle.block_forms.proofs.Exits.{exit_leaves}
use Rattle.goto_law.proofs.InSight.{Sees, source_reads}
use Rattle.goto_law.proofs.Rows.{InSight, SafeStatement}
use Rattle.goto_law.proofs.Ways.{Slots, with_slot, Reads, Safe, safe_wider, safe_jump, safe_branch, safe_set, safe_return, safe_fail}

pub reads_one : (V : Slots) (slot e : ℕ) → V slot → Reads V (record { expr = e; names = slot ∷ [] })
reads_one V slot e v s (inl q) = subst V q v
reads_one V slot e v s (inr i) = absurd i

module _ (s : Setting) where
  abbrev SafeAt : ℕ → ℕ → Slots → Type 0
  SafeAt k b V = Safe s.goto.blocks k b V

  -- ---- setting a slot

  pub set_safe : (strict : Bool) (t : Ty) (k b slot next : ℕ) (e : Term) (V : Slots)
      → AllStand s.goto.blocks (set_parts s.goto s.numbers strict t b slot e next) → Reads V e → SafeAt k next (with_slot V slot) → SafeAt k b V
  set_safe false t k b slot next e V stand r h = safe_set s.goto.blocks k b next slot e V stand.0 r h
  set_safe true t k b slot next e V stand r h =
      let test = jump_of s.goto b in
      let null = yes_of s.goto test in
      let S : Slots = with_slot V slot in
      let is : Term = is_null s.numbers.fixed t slot in
      safe_set s.goto.blocks k b test slot e V stand.0 r
      (safe_branch s.goto.blocks k test null next false is S stand.1.0 (reads_one S slot is.expr (inr refl))
      (safe_fail s.goto.blocks k null null_not_allowed S stand.1.1.0) h)

  pub slot_safe : (o : Option Slot) (k b slot next : ℕ) (e : Term) (V : Slots)
      → AllStand s.goto.blocks (slot_parts s.goto s.numbers o b slot e next) → Reads V e → SafeAt k next (with_slot V slot) → SafeAt k b V
  slot_safe None k b slot next e V stand r h = set_safe false ty.Bigint k b slot next e V stand r h
  slot_safe (Some x) k b slot next e V stand r h = set_safe x.not_null x.ty k b slot next e V stand r h

  -- ---- leaving by EXIT or CONTINUE

  leave_safe : (when : Option Expr) (j k b to next n : ℕ) (see : List ℕ) (V : Slots) → Sees V see → InSight (sight.maybe_expr when n see)
      → AllStand s.goto.blocks (leave_parts s.goto s.numbers when j b to next) → SafeAt k to V → SafeAt k next V → SafeAt k b V
  leave_safe None j k b to next n see V sees reads stand ht hn = safe_jump s.goto.blocks k b to false V stand.0 ht
  leave_safe (Some e) j k b to next n see V sees reads stand ht hn =
      safe_branch s.goto.blocks k b to next false (source_term j e) V stand.0 (source_reads V see j e sees reads.0) ht hn

  -- ---- the statements

  -- a statement by its layer is safe, where its parts have these
  abbrev pub LayerSafe : Stmt-F Laid LaidArm → Stmt-F Walk Walk → Type 1
  LayerSafe x w = SafeStatement s (laying.stmt x) (sight.statement w)

  pub nothing_safe : LayerSafe st.Nothing st.Nothing
  nothing_safe = record {
    slots = λ next see. omega arith;
    goes = λ p around next see V stood k on. safe_jump s.goto.blocks k (node s.goto p.node) next false V stood.stand.0 on.follows;
  }

  pub assign_safe : (name : List ℕ) (slot : Option ℕ) (e : Expr) → LayerSafe (st.Assign name slot e) (st.Assign name slot e)
  assign_safe name None e = record {
    slots = λ next see. omega arith;
    goes = λ p around next see V stood k on. safe_jump s.goto.blocks k (node s.goto p.node) next false V stood.stand.0 on.follows;
  }
  assign_safe name (Some slot) e = record {
    slots = λ next see. omega arith;
    goes = λ p around next see V stood k on.
        slot_safe (slice_get s.slots slot) k (node s.goto p.node) slot next (source_term p.expr e) V stood.stand
        (source_reads V see p.expr e stood.sees stood.reads.0) (safe_wider s.goto.blocks k next V (with_slot V slot) (λ i v. inl v) on.follows);
  }

  maybe_next : (when : Option Expr) (next : ℕ) (see : List ℕ) → (sight.maybe_expr when next see).next ≡ next + 0
  maybe_next None next see = omega arith
  maybe_next (Some e) next see = omega arith

  pub exit_safe : (label : Label) (when : Option Expr) → LayerSafe (st.Exit label when) (st.Exit label when)
  exit_safe label when = record {
    slots = maybe_next when;
    goes = λ p around next see V stood k on.
        let target = exit_to s.goto.finish around label in
        let here = node s.goto p.node in
        leave_safe when p.expr k here target next p.slot see V stood.sees stood.reads
        (subst (AllStand s.goto.blocks) (exit_leaves s.goto s.numbers when p.expr here target next stood.stand) stood.stand)
        (on.leaves label).0 on.follows;
  }

  pub continue_safe : (label : Label) (when : Option Expr) → LayerSafe (st.Continue label when) (st.Continue label when)
  continue_safe label when = record {
    slots = maybe_next when;
    goes = λ p around next see V stood k on.
        leave_safe when p.expr k (node s.goto p.node) (again_to s.goto.finish around label) next p.slot see V stood.sees stood.reads stood.stand
        (on.leaves label).1 on.follows;
  }

  pub return_safe : (e : Expr) → LayerSafe (st.Return e) (st.Return e)
  return_safe e = record {
    slots = λ next see. omega arith;
    goes = λ p around next see V stood k on.
        safe_return s.goto.blocks k (node s.goto p.node) (source_term p.expr e) V stood.stand.0
        (source_reads V see p.expr e stood.sees stood.reads.0);
  }

  pub raise_safe : (r : Raised) → LayerSafe (st.Raise r) (st.Raise r)
  raise_safe r = record {
    slots = λ next see. omega arith;
    goes = λ p around next see V stood k on. safe_fail s.goto.blocks k (node s.goto p.node) (class_of r) V stood.stand.0;
  }
