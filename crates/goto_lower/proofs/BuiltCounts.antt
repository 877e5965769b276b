-- The blocks that are built for a FOR stand as its pattern asks, where its test is the first of its kind in the form.
use Rattle.std.proofs.Common.{◌≡◌, ℕ, ◌+◌, ◌*◌, Bool, true, false, List, [], ◌∷◌, ◌++◌, length, Option, Some, None, refl, sym, ap, ◌∙◌, subst, arith, length-append}
use Rattle.std.specs.Prelude.{slice_get}
use Rattle.away_values.specs.declared.types.Ty.TheVariants as ty
use Rattle.away_trees.specs.declared.queries.Expr.{Expr}
use Rattle.away_trees.specs.declared.statements.LoopKind.TheVariants as kind
use Rattle.away_trees.specs.declared.statements.Stmt.TheOpen as st
use Rattle.block_forms.specs.declared.forms.Term.{Term}
use Rattle.block_forms.specs.declared.forms.Block.{Block}
use Rattle.block_forms.specs.Patterns.{source_term, is_null, not_positive, one, copy, in_range, leaves_range, moved, sets, branches, fails, own, shared, node, yes_of, no_of, end_in, jump_in, yes_in, no_in, bound_parts, step_parts, turn_parts, for_parts, after_bound, head_after, for_head, for_test}
use Rattle.plsql_meaning.specs.Outcomes.{Label, null_not_allowed, invalid_parameter}
use Rattle.block_forms.specs.declared.places.Position.{Position}
use Rattle.block_forms.specs.Slots.{slot}
use Rattle.block_forms.specs.Laid.{Laid, Setting, after, place, first_block, row_parts, laying, one_if}
use Rattle.goto_lower.specs.Building.{Built, row_many, row_first, row_blocks, row_firsts, row_vars, set_blocks, step_blocks, step_many, turn_blocks, for_blocks, head_at, cur_at, built_step}
use Rattle.goto_lower.proofs.BuiltRows.{Good, GoodRow, row_size_same, row_many_is, row_nodes_are, row_vars_are, row_first_is, row_stands, node_is}
use Rattle.goto_lower.proofs.BuiltSteps.{set_stands}
use Rattle.goto_lower.proofs.Segments.{Seg, seg_left, seg_right, seg_head, seg_tail}
use Rattle.goto_lower.proofs.Covering.{Fine, fine_join, fine_many}

module _ (s : Setting) where
  abbrev B : List Block
  B = s.goto.blocks

  abbrev S : ℕ
  S = s.numbers.fixed

  -- the test of each FOR is found where it stands
  abbrev pub Found : Type 0
  Found = (reverse : Bool) (f b next back : ℕ) → slice_get B b ≡ Some (branches false (leaves_range S reverse (s.numbers.counters + 3 * f + 2) (s.numbers.counters + 3 * f)) next back) → for_test s.goto s.numbers reverse f ≡ b

  abbrev Bound : ℕ → Term → ℕ → List Block
  Bound slot e start = set_blocks s.numbers true ty.Integer slot e (start + 3) start

  -- what follows a bound
  second_is : (slot : ℕ) (e : Term) (b : ℕ) → Seg B b (Bound slot e b) → after_bound s.goto b ≡ b + 3
  second_is slot e b bs =
      let test = branches false (is_null S ty.Integer slot) (b + 2) (b + 3) in
      let h0 : slice_get B b ≡ Some (sets slot e (b + 1)) = seg_head B (test ∷ fails null_not_allowed ∷ []) (sets slot e (b + 1)) b bs in
      let h1 : slice_get B (b + 1) ≡ Some test = seg_head B (fails null_not_allowed ∷ []) test (b + 1) (seg_tail B (test ∷ fails null_not_allowed ∷ []) (sets slot e (b + 1)) b bs) in
      ap (no_of s.goto) (ap (end_in jump_in) h0) ∙ ap (end_in no_in) h1

  bound_stands : (slot : ℕ) (e : Term) (b : ℕ) → Seg B b (Bound slot e b) → Fine B b 3 (bound_parts s.goto s.numbers b slot e (after_bound s.goto b))
  bound_stands slot e b bs = subst (λ k. Fine B b 3 (bound_parts s.goto s.numbers b slot e k)) (sym (second_is slot e b bs)) (set_stands s true ty.Integer b slot e (b + 3) bs)

  -- the step, and where the head is
  steps_stand : (by : Option Expr) (k slot head start : ℕ) → Seg B start (step_blocks s.numbers by k slot head start) → Fine B start (step_many by) (step_parts s.goto s.numbers by k start slot head) × (head_after s.goto by start ≡ head)
  steps_stand None k slot head start bs = let h : slice_get B start ≡ Some (sets slot (one S) head) = seg_head B [] (sets slot (one S) head) start bs in (((h, tt), refl), ap (end_in jump_in) h)
  steps_stand (Some e) k slot head start bs =
      let bound = Bound slot (source_term k e) start in
      let test = branches false (not_positive S slot) (start + 3 + 1) head in
      let b1 : Seg B start bound = seg_left B bound (test ∷ fails invalid_parameter ∷ []) start bs in
      let b2 : Seg B (start + 3) (test ∷ fails invalid_parameter ∷ []) = seg_right B bound (test ∷ fails invalid_parameter ∷ []) start 3 refl bs in
      let h : slice_get B (start + 3) ≡ Some test = seg_head B (fails invalid_parameter ∷ []) test (start + 3) b2 in
      let f : slice_get B (start + 3 + 1) ≡ Some (fails invalid_parameter) = seg_head B [] (fails invalid_parameter) (start + 3 + 1) (seg_tail B (fails invalid_parameter ∷ []) test (start + 3) b2) in
      let second : after_bound s.goto start ≡ start + 3 = second_is slot (source_term k e) start b1 in
      let y : yes_of s.goto (after_bound s.goto start) ≡ start + 3 + 1 = ap (yes_of s.goto) second ∙ ap (end_in yes_in) h in (
        fine_join B (bound_parts s.goto s.numbers start slot (source_term k e) (after_bound s.goto start)) (own (after_bound s.goto start) (branches false (not_positive S slot) (yes_of s.goto (after_bound s.goto start)) head) ∷ shared (yes_of s.goto (after_bound s.goto start)) (fails invalid_parameter) ∷ []) start 3 2
            (bound_stands slot (source_term k e) start b1) (
              (
                ap (slice_get B) second ∙ h ∙ ap (λ k. Some (branches false (not_positive S slot) k head)) (sym y),
                (ap (slice_get B) y ∙ f, tt),
              ),
              (λ i. second i ∷ y i ∷ []),
            ),
        ap (no_of s.goto) second ∙ ap (end_in no_in) h,
      )

  turns_stand : (reverse : Bool) (p : Position) (body next head : ℕ) → Seg B head (turn_blocks s.numbers reverse p body next head) →
      Fine B head 4 (turn_parts s.goto s.numbers reverse p.slot (cur_at s.numbers p) (cur_at s.numbers p + 1) (cur_at s.numbers p + 2) head (head + 1 + 1) body next)
      × (slice_get B (head + 1 + 1) ≡ Some (branches false (leaves_range S reverse (cur_at s.numbers p + 2) (cur_at s.numbers p)) next (head + 1 + 1 + 1)))
  turns_stand reverse p body next head bs =
      let cur = cur_at s.numbers p in
      let x0 = branches true (in_range S reverse cur (cur + 1)) (head + 1) next in
      let x1 = sets p.slot (copy S cur) body in
      let x2 = branches false (leaves_range S reverse (cur + 2) cur) next (head + 1 + 1 + 1) in
      let x3 = sets cur (moved S reverse cur (cur + 2)) head in
      let s1 : Seg B (head + 1) (x1 ∷ x2 ∷ x3 ∷ []) = seg_tail B (x1 ∷ x2 ∷ x3 ∷ []) x0 head bs in
      let s2 : Seg B (head + 1 + 1) (x2 ∷ x3 ∷ []) = seg_tail B (x2 ∷ x3 ∷ []) x1 (head + 1) s1 in
      let s3 : Seg B (head + 1 + 1 + 1) (x3 ∷ []) = seg_tail B (x3 ∷ []) x2 (head + 1 + 1) s2 in
      let h0 : slice_get B head ≡ Some x0 = seg_head B (x1 ∷ x2 ∷ x3 ∷ []) x0 head bs in
      let h1 : slice_get B (head + 1) ≡ Some x1 = seg_head B (x2 ∷ x3 ∷ []) x1 (head + 1) s1 in
      let h2 : slice_get B (head + 1 + 1) ≡ Some x2 = seg_head B (x3 ∷ []) x2 (head + 1 + 1) s2 in
      let h3 : slice_get B (head + 1 + 1 + 1) ≡ Some x3 = seg_head B [] x3 (head + 1 + 1 + 1) s3 in
      let y : yes_of s.goto head ≡ head + 1 = ap (end_in yes_in) h0 in
      let n : no_of s.goto (head + 1 + 1) ≡ head + 1 + 1 + 1 = ap (end_in no_in) h2 in (
        (
          (
            h0 ∙ ap (λ k. Some (branches true (in_range S reverse cur (cur + 1)) k next)) (sym y),
            (
              ap (slice_get B) y ∙ h1,
              (
                h2 ∙ ap (λ k. Some (branches false (leaves_range S reverse (cur + 2) cur) next k)) (sym n),
                (ap (slice_get B) n ∙ h3, tt),
              ),
            ),
          ),
          (λ i. head ∷ y i ∷ (head + 1 + 1) ∷ n i ∷ []),
        ),
        h2,
      )

  step_length : (by : Option Expr) (k slot head start : ℕ) → length (step_blocks s.numbers by k slot head start) ≡ step_many by
  step_length None k slot head start = refl
  step_length (Some e) k slot head start = refl

  abbrev Head : Option Expr → ℕ → ℕ
  Head by start = head_at by start

  abbrev Cur : Position → ℕ
  Cur p = cur_at s.numbers p

  for_length : (reverse : Bool) (e1 e2 : Expr) (by : Option Expr) (p : Position) (body next start : ℕ) → length (for_blocks s.numbers reverse e1 e2 by p body next start) ≡ 3 + 3 + step_many by + 4
  for_length reverse e1 e2 by p body next start =
      omega (arith, step_length by (p.expr + 2) (Cur p + 2) (Head by start) (start + 3 + 3), length-append (step_blocks s.numbers by (p.expr + 2) (Cur p + 2) (Head by start) (start + 3 + 3)) (turn_blocks s.numbers reverse p body next (Head by start)))

  -- all blocks of a FOR but its body's, from its first one on
  module _ (found : Found) (reverse : Bool) (e1 e2 : Expr) (by : Option Expr) (p : Position) (body next start : ℕ) (bs : Seg B start (for_blocks s.numbers reverse e1 e2 by p body next start)) where
    pub for_stands : Fine B start (3 + (3 + (step_many by + 4))) (bound_parts s.goto s.numbers start (Cur p) (source_term p.expr e1) (after_bound s.goto start)
        ++ (bound_parts s.goto s.numbers (after_bound s.goto start) (Cur p + 1) (source_term (p.expr + 1) e2) (after_bound s.goto (after_bound s.goto start))
        ++ (step_parts s.goto s.numbers by (p.expr + 2) (after_bound s.goto (after_bound s.goto start)) (Cur p + 2) (for_head s.goto by start)
        ++ turn_parts s.goto s.numbers reverse p.slot (Cur p) (Cur p + 1) (Cur p + 2) (for_head s.goto by start) (for_test s.goto s.numbers reverse p.fors) body next)))
        × (for_test s.goto s.numbers reverse p.fors ≡ Head by start + 1 + 1)
    for_stands =
        let one = Bound (Cur p) (source_term p.expr e1) start in
        let two = Bound (Cur p + 1) (source_term (p.expr + 1) e2) (start + 3) in
        let three = step_blocks s.numbers by (p.expr + 2) (Cur p + 2) (Head by start) (start + 3 + 3) in
        let four = turn_blocks s.numbers reverse p body next (Head by start) in
        let r1 : Seg B (start + 3) (two ++ (three ++ four)) = seg_right B one (two ++ (three ++ four)) start 3 refl bs in
        let r2 : Seg B (start + 3 + 3) (three ++ four) = seg_right B two (three ++ four) (start + 3) 3 refl r1 in
        let r3 : Seg B (Head by start) four = seg_right B three four (start + 3 + 3) (step_many by) (step_length by (p.expr + 2) (Cur p + 2) (Head by start) (start + 3 + 3)) r2 in
        let b1 = seg_left B one (two ++ (three ++ four)) start bs in
        let b2 = seg_left B two (three ++ four) (start + 3) r1 in
        let b3 = seg_left B three four (start + 3 + 3) r2 in
        let at2 : after_bound s.goto start ≡ start + 3 = second_is (Cur p) (source_term p.expr e1) start b1 in
        let at3 : after_bound s.goto (after_bound s.goto start) ≡ start + 3 + 3 = ap (after_bound s.goto) at2 ∙ second_is (Cur p + 1) (source_term (p.expr + 1) e2) (start + 3) b2 in
        let steps = steps_stand by (p.expr + 2) (Cur p + 2) (Head by start) (start + 3 + 3) b3 in
        let head : for_head s.goto by start ≡ Head by start = ap (head_after s.goto by) at3 ∙ steps.1 in
        let turns = turns_stand reverse p body next (Head by start) r3 in
        let test : for_test s.goto s.numbers reverse p.fors ≡ Head by start + 1 + 1 = found reverse p.fors (Head by start + 1 + 1) next (Head by start + 1 + 1 + 1) turns.1 in
        let parts2 = bound_parts s.goto s.numbers (after_bound s.goto start) (Cur p + 1) (source_term (p.expr + 1) e2) (after_bound s.goto (after_bound s.goto start)) in
        let parts3 = step_parts s.goto s.numbers by (p.expr + 2) (after_bound s.goto (after_bound s.goto start)) (Cur p + 2) (for_head s.goto by start) in
        let parts4 = turn_parts s.goto s.numbers reverse p.slot (Cur p) (Cur p + 1) (Cur p + 2) (for_head s.goto by start) (for_test s.goto s.numbers reverse p.fors) body next in
        let s2 : Fine B (start + 3) 3 parts2 = subst (λ k. Fine B (start + 3) 3 (bound_parts s.goto s.numbers k (Cur p + 1) (source_term (p.expr + 1) e2) (after_bound s.goto k))) (sym at2) (bound_stands (Cur p + 1) (source_term (p.expr + 1) e2) (start + 3) b2) in
        let s3 : Fine B (start + 3 + 3) (step_many by) parts3 = subst (λ X. X) (λ i. Fine B (start + 3 + 3) (step_many by) (step_parts s.goto s.numbers by (p.expr + 2) (sym at3 i) (Cur p + 2) (sym head i))) steps.0 in
        let s4 : Fine B (Head by start) 4 parts4 = subst (λ X. X) (λ i. Fine B (Head by start) 4 (turn_parts s.goto s.numbers reverse p.slot (Cur p) (Cur p + 1) (Cur p + 2) (sym head i) (sym test i) body next)) turns.0 in (
          fine_join B (bound_parts s.goto s.numbers start (Cur p) (source_term p.expr e1) (after_bound s.goto start)) (parts2 ++ (parts3 ++ parts4)) start 3 (3 + (step_many by + 4)) (bound_stands (Cur p) (source_term p.expr e1) start b1)
              (fine_join B parts2 (parts3 ++ parts4) (start + 3) 3 (step_many by + 4) s2 (fine_join B parts3 parts4 (start + 3 + 3) (step_many by) 4 s3 s4)),
          test,
        )

  pub good_count : Found → (label closing : Label) (var : List ℕ) (reverse : Bool) (e1 e2 : Expr) (by : Option Expr) (xs : List Laid) (ys : List Built) → GoodRow s xs ys →
      Good s (laying.stmt (st.Loop label (kind.Count var reverse e1 e2 by) xs closing)) (built_step s.numbers s.slots s.goto.finish (st.Loop label (kind.Count var reverse e1 e2 by) ys closing))
  good_count found label closing var reverse e1 e2 by xs ys good = record {
    size_same = ap (λ z. after (place 1 (2 + one_if by) 1 1 0) z) (row_size_same s xs ys good);
    many_is = λ p around next start.
        let again = Head by start + 1 + 1 in
        let own_blocks = for_blocks s.numbers reverse e1 e2 by p (row_first ys (Head by start + 4) again) next start in
        let inside = row_blocks ys (after p (place 1 (2 + one_if by) 1 1 0)) (record { label = label; exit = next; again = Some again } ∷ around) again (Head by start + 4) in
        omega (arith, length-append own_blocks inside, for_length reverse e1 e2 by p (row_first ys (Head by start + 4) again) next start, row_many_is s xs ys good (after p (place 1 (2 + one_if by) 1 1 0)) (record { label = label; exit = next; again = Some again } ∷ around) again (Head by start + 4));
    nodes_are = λ start next. omega (arith, row_nodes_are s xs ys good (Head by start + 4) (Head by start + 1 + 1));
    vars_are = omega (arith, row_vars_are s xs ys good);
    first_is = λ start next. refl;
    stands = λ p around next start late bs ns vs.
        let again = Head by start + 1 + 1 in
        let begin = Head by start + 4 in
        let q = after p (place 1 (2 + one_if by) 1 1 0) in
        let first = row_first ys begin again in
        let own_blocks = for_blocks s.numbers reverse e1 e2 by p first next start in
        let inside = row_blocks ys q (record { label = label; exit = next; again = Some again } ∷ around) again begin in
        let firsts = row_firsts ys begin again in
        let b0 = seg_left B own_blocks inside start bs in
        let b1 : Seg B (start + (3 + 3 + step_many by + 4)) inside = seg_right B own_blocks inside start (3 + 3 + step_many by + 4) (for_length reverse e1 e2 by p first next start) bs in
        let at_begin : start + (3 + 3 + step_many by + 4) ≡ begin = omega arith in
        let b2 : Seg B begin inside = subst (λ k. Seg B k inside) at_begin b1 in
        let n1 : Seg s.goto.nodes (p.node + 1) firsts = seg_tail s.goto.nodes firsts start p.node ns in
        let v1 : Seg s.slots (p.slot + 1) (row_vars ys) = seg_tail s.slots (row_vars ys) (slot ty.Integer) p.slot vs in
        let fors = for_stands found reverse e1 e2 by p first next start b0 in
        let first_is : first_block s (length xs) (p.node + 1) again ≡ first = row_first_is s xs ys good (p.node + 1) begin again n1 in
        let rows = row_stands s xs ys good q (record { label = label; exit = next; again = Some again } ∷ around) again begin (omega (arith, late)) b2 n1 v1 in
        let here : node s.goto p.node ≡ start = node_is s p.node start (seg_head s.goto.nodes firsts start p.node ns) in
        let test = for_test s.goto s.numbers reverse p.fors in
        let body = first_block s (length xs) (p.node + 1) test in
        let body_is : body ≡ first = ap (λ k. first_block s (length xs) (p.node + 1) k) fors.1 ∙ first_is in
        let own_parts = for_parts s.goto s.numbers reverse e1 e2 by p body next in
        let rest_parts = row_parts s xs q (record { label = label; exit = next; again = Some test } ∷ around) test in
        let own_many = 3 + (3 + (step_many by + 4)) in
        let stand_own : Fine B start own_many own_parts = subst (λ X. X) (λ i. Fine B start own_many (
        bound_parts s.goto s.numbers (sym here i) (Cur p) (source_term p.expr e1) (after_bound s.goto (sym here i))
        ++ (bound_parts s.goto s.numbers (after_bound s.goto (sym here i)) (Cur p + 1) (source_term (p.expr + 1) e2) (after_bound s.goto (after_bound s.goto (sym here i)))
        ++ (step_parts s.goto s.numbers by (p.expr + 2) (after_bound s.goto (after_bound s.goto (sym here i))) (Cur p + 2) (for_head s.goto by (sym here i))
        ++ turn_parts s.goto s.numbers reverse p.slot (Cur p) (Cur p + 1) (Cur p + 2) (for_head s.goto by (sym here i)) test (sym body_is i) next)))) fors.0 in
        let stand_rest : Fine B begin (row_many ys) rest_parts = subst (λ k. Fine B begin (row_many ys) (row_parts s xs q (record { label = label; exit = next; again = Some k } ∷ around) k)) (sym fors.1) rows in
        let from : begin ≡ start + own_many = omega arith in
        let total : own_many + row_many ys ≡ 3 + 3 + step_many by + 4 + row_many ys = omega arith in
        fine_many B (own_parts ++ rest_parts) start (own_many + row_many ys) (3 + 3 + step_many by + 4 + row_many ys) total
        (fine_join B own_parts rest_parts start own_many (row_many ys) stand_own (subst (λ k. Fine B k (row_many ys) rest_parts) from stand_rest));
  }
