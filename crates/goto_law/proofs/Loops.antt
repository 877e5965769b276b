-- Only visible slots are live where LOOP, WHILE and FOR begin.
use Rattle.std.proofs.Common.{◌≡◌, ℕ, zero, suc, ◌+◌, Bool, true, false, List, [], ◌∷◌, ◌++◌, length, slice_get, Option, Some, None, refl, inl, inr, subst, arith}
use Rattle.away_values.specs.declared.types.Ty.TheVariants as ty
use Rattle.away_trees.specs.declared.queries.Expr.{Expr}
use Rattle.away_trees.specs.declared.statements.LoopKind.{LoopKind}
use Rattle.away_trees.specs.declared.statements.LoopKind.TheVariants as kind
use Rattle.away_trees.specs.declared.statements.Stmt.TheOpen as st
use Rattle.plsql_meaning.specs.Outcomes.{Label, invalid_parameter}
use Rattle.type_soundness.proofs.Lists.{every_left, every_right}
use Rattle.function_facts.specs.InSight.{ReadsInSight}
use Rattle.function_facts.specs.Sight as sight
use Rattle.function_facts.specs.Sight.{Walk}
use Rattle.block_forms.specs.declared.forms.Term.{Term}
use Rattle.block_forms.specs.declared.places.Position.{Position}
use Rattle.block_forms.specs.Around.{Around}
use Rattle.block_forms.specs.Laid.{Setting, Laid, after, kind_size, row_size, first_block, row_parts, loop_parts}
use Rattle.block_forms.specs.Lowered.{AllStand}
use Rattle.block_forms.specs.Patterns.{Part, node, jump_of, yes_of, no_of, source_term, one, copy, in_range, leaves_range, moved, not_positive, jumps, branches, bound_parts, step_parts, turn_parts, cur_of, after_bound, for_head, for_test, for_parts}
use Rattle.goto_law.proofs.InSight.{Sees, sees_push, source_reads}
use Rattle.goto_law.proofs.LiveLeaves.{LayerSafe, set_safe, reads_one}
use Rattle.goto_law.proofs.Parts.{left, right}
use Rattle.goto_law.proofs.Rows.{InSight, Stood, Onward, SafeRow}
use Rattle.goto_law.proofs.Ways.{Slots, with_slot, Within, Reads, reads_more, Safe, safe_less, safe_wider, step_jump, step_branch, safe_branch, safe_set, safe_fail, around_less, around_wider, in_loop}

reads_two : (V : Slots) (e a b : ℕ) → V a → V b → Reads V (record { expr = e; names = a ∷ b ∷ [] })
reads_two V e a b va vb s (inl q) = subst V q va
reads_two V e a b va vb s (inr (inl q)) = subst V q vb
reads_two V e a b va vb s (inr (inr i)) = absurd i

abbrev ReadsMaybe : Slots → ℕ → Option Expr → Type 0
ReadsMaybe V k None = Unit {0}
ReadsMaybe V k (Some e) = Reads V (source_term k e)

module _ (s : Setting) where
  abbrev SafeAt : ℕ → ℕ → Slots → Type 0
  SafeAt k b V = Safe s.goto.blocks k b V

  less : (k : ℕ) (around : Around) (next : ℕ) (V : Slots) → Onward s (suc k) around next V → Onward s k around next V
  less k around next V on = record {
    follows = safe_less s.goto.blocks k next V on.follows;
    leaves = around_less s.goto.blocks s.goto.finish k around V on.leaves;
  }

  -- ---- LOOP and WHILE, by the length of ways: what is safe at the head at one length is so at the body, and then at the head at the next length

  head_jumps : (head body next : ℕ) (V : Slots) (around : Around) → slice_get s.goto.blocks head ≡ Some (jumps true body)
      → ((k : ℕ) → SafeAt k head V → Onward s k around next V → SafeAt k body V) → (k : ℕ) → Onward s k around next V → SafeAt k head V
  head_jumps head body next V around e h zero on = λ i l. absurd l
  head_jumps head body next V around e h (suc k) on =
      let on' = less k around next V on in
      step_jump s.goto.blocks k head body true V e (h k (head_jumps head body next V around e h k on') on')

  head_tests : (head body next : ℕ) (t : Term) (V : Slots) (around : Around) → slice_get s.goto.blocks head ≡ Some (branches true t body next)
      → Reads V t → ((k : ℕ) → SafeAt k head V → Onward s k around next V → SafeAt k body V)
      → (k : ℕ) → Onward s k around next V → SafeAt k head V
  head_tests head body next t V around e r h zero on = λ i l. absurd l
  head_tests head body next t V around e r h (suc k) on =
      let on' = less k around next V on in
      step_branch s.goto.blocks k head body next true t V e r (h k (head_tests head body next t V around e r h k on') on') on'.follows

  -- ---- FOR

  step_safe : (by : Option Expr) (j k b step head : ℕ) (V : Slots) → AllStand s.goto.blocks (step_parts s.goto s.numbers by j b step head)
      → ReadsMaybe V j by → SafeAt k head (with_slot V step) → SafeAt k b V
  step_safe None j k b step head V stand r h = safe_set s.goto.blocks k b head step (one s.numbers.fixed) V stand.0 (λ i m. absurd m) h
  step_safe (Some e) j k b step head V stand r h =
      let test = no_of s.goto (jump_of s.goto b) in
      let bad = yes_of s.goto test in
      let S : Slots = with_slot V step in
      let positive : Term = not_positive s.numbers.fixed step in
      set_safe s true ty.Integer k b step test (source_term j e) V (stand.0, (stand.1.0, (stand.1.1.0, tt))) r
      (safe_branch s.goto.blocks k test bad head false positive S stand.1.1.1.0 (reads_one S step positive.expr (inr refl))
      (safe_fail s.goto.blocks k bad invalid_parameter S stand.1.1.1.1.0) h)

  -- the counter, the last value and the step are visible at the head, and in the body the variable too
  abbrev counting : Slots → ℕ → Slots
  counting V cur = with_slot (with_slot (with_slot V cur) (cur + 1)) (cur + 2)

  abbrev turning : Slots → ℕ → ℕ → Slots
  turning V cur var = with_slot (counting V cur) var

  counting_wider : (V : Slots) (cur : ℕ) → Within V (counting V cur)
  counting_wider V cur i v = inl (inl (inl v))

  turning_wider : (V : Slots) (cur var : ℕ) → Within V (turning V cur var)
  turning_wider V cur var i v = inl (inl (inl (inl v)))

  module _ (reverse : Bool) (var cur head test body next : ℕ)
      (stand : AllStand s.goto.blocks (turn_parts s.goto s.numbers reverse var cur (cur + 1) (cur + 2) head test body next)) (V : Slots) where
    abbrev C : Slots
    C = counting V cur

    has_cur : C cur
    has_cur = inl (inl (inr refl))

    has_last : C (cur + 1)
    has_last = inl (inr refl)

    has_step : C (cur + 2)
    has_step = inr refl

    test_safe : (k : ℕ) → SafeAt k head C → SafeAt k next V → SafeAt k test C
    test_safe k h hn =
        let move = no_of s.goto test in
        let leaves : Term = leaves_range s.numbers.fixed reverse (cur + 2) cur in
        let moves : Term = moved s.numbers.fixed reverse cur (cur + 2) in
        safe_branch s.goto.blocks k test next move false leaves C stand.1.1.0 (reads_two C leaves.expr (cur + 2) cur has_step has_cur)
        (safe_wider s.goto.blocks k next V C (counting_wider V cur) hn)
        (safe_set s.goto.blocks k move head cur moves C stand.1.1.1.0 (reads_two C moves.expr cur (cur + 2) has_cur has_step)
        (safe_wider s.goto.blocks k head C (with_slot C cur) (λ i v. inl v) h))

    head_counts : (around : Around) → ((k : ℕ) → SafeAt k test (turning V cur var) → Onward s k around next V → SafeAt k body (turning V cur var))
        → (k : ℕ) → Onward s k around next V → SafeAt k head C
    head_counts around h zero on = λ i l. absurd l
    head_counts around h (suc k) on =
        let on' = less k around next V on in
        let turn = yes_of s.goto head in
        let ranges : Term = in_range s.numbers.fixed reverse cur (cur + 1) in
        let copies : Term = copy s.numbers.fixed cur in
        let tested : SafeAt k test (turning V cur var) =
        safe_wider s.goto.blocks k test C (turning V cur var) (λ i v. inl v) (test_safe k (head_counts around h k on') on'.follows) in
        step_branch s.goto.blocks k head turn next true ranges C stand.0 (reads_two C ranges.expr cur (cur + 1) has_cur has_last)
        (safe_set s.goto.blocks k turn body var copies C stand.1.0 (reads_one C cur copies.expr has_cur) (h k tested on'))
        (safe_wider s.goto.blocks k next V C (counting_wider V cur) on'.follows)

  module _ (reverse : Bool) (first last : Expr) (by : Option Expr) (p : Position) (body next : ℕ)
      (stand : AllStand s.goto.blocks (for_parts s.goto s.numbers reverse first last by p body next)) (V : Slots) where
    abbrev b0 : ℕ
    b0 = node s.goto p.node

    abbrev b1 : ℕ
    b1 = after_bound s.goto b0

    abbrev b2 : ℕ
    b2 = after_bound s.goto b1

    abbrev head : ℕ
    head = for_head s.goto by b0

    abbrev test : ℕ
    test = for_test s.goto s.numbers reverse p.fors

    abbrev cur : ℕ
    cur = cur_of s.goto s.numbers p.fors

    abbrev first_parts : List Part
    first_parts = bound_parts s.goto s.numbers b0 cur (source_term p.expr first) b1

    abbrev last_parts : List Part
    last_parts = bound_parts s.goto s.numbers b1 (cur + 1) (source_term (p.expr + 1) last) b2

    abbrev by_parts : List Part
    by_parts = step_parts s.goto s.numbers by (p.expr + 2) b2 (cur + 2) head

    abbrev turning_parts : List Part
    turning_parts = turn_parts s.goto s.numbers reverse p.slot cur (cur + 1) (cur + 2) head test body next

    for_safe : Reads V (source_term p.expr first) → Reads V (source_term (p.expr + 1) last) → ReadsMaybe V (p.expr + 2) by → (around : Around)
        → ((k : ℕ) → SafeAt k test (turning V cur p.slot) → Onward s k around next V → SafeAt k body (turning V cur p.slot))
        → (k : ℕ) → Onward s k around next V → SafeAt k b0 V
    for_safe r1 r2 rb around h k on =
        set_safe s true ty.Integer k b0 cur b1 (source_term p.expr first) V
        (left s.goto.blocks first_parts (last_parts ++ (by_parts ++ turning_parts)) stand) r1
        (set_safe s true ty.Integer k b1 (cur + 1) b2 (source_term (p.expr + 1) last) A
        (left s.goto.blocks last_parts (by_parts ++ turning_parts) second) (reads_more V A (λ i v. inl v) (source_term (p.expr + 1) last) r2)
        (step_safe by (p.expr + 2) k b2 (cur + 2) head B (left s.goto.blocks by_parts turning_parts third) (by_more by rb)
        (head_counts reverse p.slot cur head test body next (right s.goto.blocks by_parts turning_parts third) V around h k on)))
      where
        A : Slots
        A = with_slot V cur

        B : Slots
        B = with_slot A (cur + 1)

        second : AllStand s.goto.blocks (last_parts ++ (by_parts ++ turning_parts))
        second = right s.goto.blocks first_parts (last_parts ++ (by_parts ++ turning_parts)) stand

        third : AllStand s.goto.blocks (by_parts ++ turning_parts)
        third = right s.goto.blocks last_parts (by_parts ++ turning_parts) second

        by_more : (e : Option Expr) → ReadsMaybe V (p.expr + 2) e → ReadsMaybe B (p.expr + 2) e
        by_more None r = tt
        by_more (Some e) r = reads_more V B (λ i v. inl (inl v)) (source_term (p.expr + 2) e) r

  -- ---- the statements

  maybe_reads : (V : Slots) (see : List ℕ) (n k : ℕ) (e : Option Expr) → Sees V see → InSight (sight.maybe_expr e n see) → ReadsMaybe V k e
  maybe_reads V see n k None sees reads = tt
  maybe_reads V see n k (Some e) sees reads = source_reads V see k e sees reads.0

  module _ (label : Label) (x : List Laid) (w : List Walk) (f : SafeRow s x w) where
    -- the body of a loop that hides nothing
    body_safe : (around : Around) (p : Position) (next again slot : ℕ) (see : List ℕ) (V : Slots) → slot ≡ p.slot
        → Stood s (sight.all_walks w slot see) see V (row_parts s x p (record { label = label; exit = next; again = Some again } ∷ around) again)
        → (k : ℕ) → SafeAt k again V → Onward s k around next V → SafeAt k (first_block s (length x) p.node again) V
    body_safe around p next again slot see V is stood k h on =
        f.goes (sight.no_expr slot see) p is (record { label = label; exit = next; again = Some again } ∷ around) again see V stood k (record {
          follows = h;
          leaves = in_loop s.goto.blocks s.goto.finish k around V label next again on.follows h on.leaves;
        })

    abbrev looped : LoopKind → Walk
    looped k = sight.of_loop k w

    loop_goes : (kd : LoopKind) (p : Position) (around : Around) (next : ℕ) (see : List ℕ) (V : Slots)
        → Stood s (looped kd p.slot see) see V (loop_parts s label kd x p around next)
        → (k : ℕ) → Onward s k around next V → SafeAt k (node s.goto p.node) V
    loop_goes kind.Plain p around next see V stood =
        head_jumps (node s.goto p.node) (first_block s (length x) (p.node + 1) (node s.goto p.node)) next V around stood.stand.0
        (body_safe around (after p (kind_size kind.Plain)) next (node s.goto p.node) p.slot see V (omega arith) (record {
          reads = stood.reads;
          sees = stood.sees;
          stand = stood.stand.1;
        }))
    loop_goes (kind.While e) p around next see V stood =
        head_tests (node s.goto p.node) (first_block s (length x) (p.node + 1) (node s.goto p.node)) next (source_term p.expr e) V around
        stood.stand.0 (source_reads V see p.expr e stood.sees stood.reads.0)
        (body_safe around (after p (kind_size (kind.While e))) next (node s.goto p.node) p.slot see V (omega arith) (record {
          reads = stood.reads.1;
          sees = stood.sees;
          stand = stood.stand.1;
        }))
    loop_goes (kind.Count name reverse first last by) p around next see V stood =
        for_safe reverse first last by p body next (left s.goto.blocks front_parts back_parts stood.stand) V
        (source_reads V see p.expr first stood.sees stood.reads.0)
        (source_reads V see (p.expr + 1) last stood.sees stood.reads.1.0)
        (maybe_reads V see p.slot (p.expr + 2) by stood.sees (every_left ReadsInSight by_walk.exprs body_walk.exprs stood.reads.1.1)) around
        (λ k h on. body_safe around (after p size) next again (p.slot + 1) (see ++ p.slot ∷ []) T refl (record {
          reads = every_right ReadsInSight by_walk.exprs body_walk.exprs stood.reads.1.1;
          sees = seen;
          stand = right s.goto.blocks front_parts back_parts stood.stand;
        }) k h (record {
          follows = safe_wider s.goto.blocks k next V T (turning_wider V hide p.slot) on.follows;
          leaves = around_wider s.goto.blocks s.goto.finish k around V T (turning_wider V hide p.slot) on.leaves;
        }))
      where
        hide : ℕ
        hide = cur_of s.goto s.numbers p.fors

        T : Slots
        T = turning V hide p.slot

        again : ℕ
        again = for_test s.goto s.numbers reverse p.fors

        body : ℕ
        body = first_block s (length x) (p.node + 1) again

        size : Position
        size = kind_size (kind.Count name reverse first last by)

        by_walk : sight.Walked
        by_walk = sight.maybe_expr by p.slot see

        body_walk : sight.Walked
        body_walk = sight.all_walks w (p.slot + 1) (see ++ p.slot ∷ [])

        front_parts : List Part
        front_parts = for_parts s.goto s.numbers reverse first last by p body next

        back_parts : List Part
        back_parts = row_parts s x (after p size) (record { label = label; exit = next; again = Some again } ∷ around) again

        seen : Sees T (see ++ p.slot ∷ [])
        seen = sees_push (counting V hide) p.slot see (λ i e. counting_wider V hide i (stood.sees i e))

    loop_slots : (kd : LoopKind) (next : ℕ) (see : List ℕ) → (looped kd next see).next ≡ next + ((kind_size kd).slot + (row_size x).slot)
    loop_slots kind.Plain next see = omega (arith, f.slots (sight.no_expr next see) see)
    loop_slots (kind.While e) next see = omega (arith, f.slots (sight.no_expr next see) see)
    loop_slots (kind.Count name reverse first last by) next see =
        omega (arith, f.slots (sight.no_expr (next + 1) (see ++ next ∷ [])) (see ++ next ∷ []))

    pub loop_safe : (kd : LoopKind) (closing : Label) → LayerSafe s (st.Loop label kd x closing) (st.Loop label kd w closing)
    loop_safe kd closing = record { slots = loop_slots kd; goes = loop_goes kd }
