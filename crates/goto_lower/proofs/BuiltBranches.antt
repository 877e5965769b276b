-- The blocks that are built for IF and CASE stand as their patterns ask.
use Rattle.std.proofs.Common.{◌≡◌, ℕ, zero, suc, ◌+◌, ◌<◌, Bool, true, false, List, [], ◌∷◌, ◌++◌, length, Option, Some, None, refl, sym, ap, ◌∙◌, subst, arith, length-append, append-nil}
use Rattle.std.specs.Prelude.{slice_get}
use Rattle.away_values.specs.declared.values.Class.{Class}
use Rattle.away_trees.specs.declared.queries.Expr.{Expr}
use Rattle.away_types.specs.declared.slots.Slot.{Slot}
use Rattle.block_forms.specs.Around.{Around}
use Rattle.block_forms.specs.declared.forms.Block.{Block}
use Rattle.block_forms.specs.Patterns.{source_term, branches, fails, Part, own, same, node, no_of, end_in, no_in}
use Rattle.block_forms.specs.declared.places.Position.{Position}
use Rattle.block_forms.specs.Laid.{Laid, LaidArm, Setting, after, place, nothing, first_block, row_parts, arms_parts, else_parts, branch_parts, lack, a_node, with_expr}
use Rattle.block_forms.specs.Laid as l
use Rattle.goto_lower.specs.Building.{Built, BuiltArm, row_many, row_first, row_blocks, row_firsts, row_vars, arm_size, arms_vars, arms_many, arms_first, arms_blocks, arms_firsts, branched}
use Rattle.goto_lower.specs.Building as b
use Rattle.goto_lower.proofs.BuiltRows.{Good, GoodRow, row_size_same, row_many_is, row_nodes_are, row_vars_are, row_first_is, row_stands, node_is}
use Rattle.goto_lower.proofs.Segments.{Seg, seg_left, seg_right, seg_head, seg_tail}
use Rattle.goto_lower.proofs.Covering.{Fine, fine_join, fine_own, fine_same, fine_many}

module _ (s : Setting) where
  pub record GoodArm (x : LaidArm) (y : BuiltArm) : Type 0 where
    pub test_same : x.test ≡ y.test
    pub size_same : x.size ≡ arm_size y
    pub size_is : x.size ≡ after with_expr (l.row_size x.body)
    pub body : GoodRow s x.body y.body

  abbrev pub GoodArms : List LaidArm → List BuiltArm → Type 0
  GoodArms [] [] = Unit {0}
  GoodArms [] (y ∷ ys) = ⊥
  GoodArms (x ∷ xs) [] = ⊥
  GoodArms (x ∷ xs) (y ∷ ys) = GoodArm x y × GoodArms xs ys

  abbrev Blocks : List BuiltArm → Position → Around → ℕ → ℕ → ℕ → List Block
  Blocks ys p around next lck start = arms_blocks ys p around next lck start

  arms_size_same : (xs : List LaidArm) (ys : List BuiltArm) → GoodArms xs ys → l.arms_size xs ≡ b.arms_size ys
  arms_size_same [] [] good = refl
  arms_size_same [] (y ∷ ys) good = absurd good
  arms_size_same (x ∷ xs) [] good = absurd good
  arms_size_same (x ∷ xs) (y ∷ ys) good = λ i. after (good.0.size_same i) (arms_size_same xs ys good.1 i)

  abbrev many_of : List BuiltArm → ℕ
  many_of ys = arms_many ys

  abbrev first_of : List BuiltArm → ℕ → ℕ → ℕ
  first_of ys start lck = arms_first ys start lck

  abbrev firsts_of : List BuiltArm → ℕ → ℕ → List ℕ
  firsts_of ys next start = arms_firsts ys next start

  arms_many_is : (xs : List LaidArm) (ys : List BuiltArm) → GoodArms xs ys → (p : Position) (around : Around) (next lck start : ℕ) → length (Blocks ys p around next lck start) ≡ many_of ys
  arms_many_is [] [] good p around next lck start = refl
  arms_many_is [] (y ∷ ys) good p around next lck start = absurd good
  arms_many_is (x ∷ xs) [] good p around next lck start = absurd good
  arms_many_is (x ∷ xs) (y ∷ ys) good p around next lck start =
      omega (arith, length-append (row_blocks y.body (after p with_expr) around next (start + 1)) (Blocks ys (after p (arm_size y)) around next lck (start + (1 + row_many y.body))), row_many_is s x.body y.body good.0.body (after p with_expr) around next (start + 1), arms_many_is xs ys good.1 (after p (arm_size y)) around next lck (start + (1 + row_many y.body)))

  arms_nodes_are : (xs : List LaidArm) (ys : List BuiltArm) → GoodArms xs ys → (next start : ℕ) → length (firsts_of ys next start) ≡ (l.arms_size xs).node
  arms_nodes_are [] [] good next start = refl
  arms_nodes_are [] (y ∷ ys) good next start = absurd good
  arms_nodes_are (x ∷ xs) (y ∷ ys) good next start =
      omega (arith, length-append (row_firsts y.body (start + 1) next) (firsts_of ys next (start + (1 + row_many y.body))), row_nodes_are s x.body y.body good.0.body (start + 1) next, arms_nodes_are xs ys good.1 next (start + (1 + row_many y.body)), ap (λ (z : Position). z.node) good.0.size_is)
  arms_nodes_are (x ∷ xs) [] good next start = absurd good

  arms_vars_are : (xs : List LaidArm) (ys : List BuiltArm) → GoodArms xs ys → length (arms_vars ys) ≡ (l.arms_size xs).slot
  arms_vars_are [] [] good = refl
  arms_vars_are [] (y ∷ ys) good = absurd good
  arms_vars_are (x ∷ xs) [] good = absurd good
  arms_vars_are (x ∷ xs) (y ∷ ys) good =
      omega (arith, length-append (row_vars y.body) (arms_vars ys), row_vars_are s x.body y.body good.0.body, arms_vars_are xs ys good.1, ap (λ (z : Position). z.slot) good.0.size_is)

  arms_stand : (xs : List LaidArm) (ys : List BuiltArm) → GoodArms xs ys → (p : Position) (around : Around) (next lck start : ℕ) → s.goto.entry < start → Seg s.goto.blocks start (Blocks ys p around next lck start) → Seg s.goto.nodes p.node (firsts_of ys next start) → Seg s.slots p.slot (arms_vars ys) →
      Fine s.goto.blocks start (many_of ys) (arms_parts s xs p around next (first_of ys start lck)) × (lack s xs (first_of ys start lck) ≡ lck)
  arms_stand [] [] good p around next lck start late bs ns vs = ((tt, refl), refl)
  arms_stand [] (y ∷ ys) good p around next lck start late bs ns vs = absurd good
  arms_stand (x ∷ xs) [] good p around next lck start late bs ns vs = absurd good
  arms_stand (x ∷ xs) (y ∷ ys) good p around next lck start late bs ns vs =
      let B = s.goto.blocks in
      let N = s.goto.nodes in
      let then = start + (1 + row_many y.body) in
      let other = first_of ys then lck in
      let branch = branches false (source_term p.expr y.test) (row_first y.body (start + 1) next) other in
      let body_blocks = row_blocks y.body (after p with_expr) around next (start + 1) in
      let body_firsts = row_firsts y.body (start + 1) next in
      let rest_blocks = Blocks ys (after p (arm_size y)) around next lck then in
      let rest_firsts = firsts_of ys next then in
      let bs1 : Seg B (start + 1) (body_blocks ++ rest_blocks) = seg_tail B (body_blocks ++ rest_blocks) branch start bs in
      let ns1 : Seg N (p.node + 1) (body_firsts ++ rest_firsts) = seg_tail N (body_firsts ++ rest_firsts) start p.node ns in
      let ns2 : Seg N (p.node + 1) body_firsts = seg_left N body_firsts rest_firsts (p.node + 1) ns1 in
      let h0 : slice_get B start ≡ Some branch = seg_head B (body_blocks ++ rest_blocks) branch start bs in
      let no : no_of s.goto start ≡ other = ap (end_in no_in) h0 in
      let first_is : first_block s (length x.body) (p.node + 1) next ≡ row_first y.body (start + 1) next = row_first_is s x.body y.body good.0.body (p.node + 1) (start + 1) next ns2 in
      let at_then : (start + 1) + row_many y.body ≡ then = omega arith in
      let at_node : (p.node + 1) + (l.row_size x.body).node ≡ (after p x.size).node = omega (arith, ap (λ (z : Position). z.node) good.0.size_is) in
      let bs2 : Seg B then rest_blocks = subst (λ k. Seg B k rest_blocks) at_then (seg_right B body_blocks rest_blocks (start + 1) (row_many y.body) (row_many_is s x.body y.body good.0.body (after p with_expr) around next (start + 1)) bs1) in
      let ns3 : Seg N (after p x.size).node rest_firsts = subst (λ k. Seg N k rest_firsts) at_node (seg_right N body_firsts rest_firsts (p.node + 1) (l.row_size x.body).node (row_nodes_are s x.body y.body good.0.body (start + 1) next) ns1) in
      let V = s.slots in
      let at_body : p.slot ≡ (after p with_expr).slot = omega arith in
      let vs1 : Seg V (after p with_expr).slot (row_vars y.body) = subst (λ k. Seg V k (row_vars y.body)) at_body (seg_left V (row_vars y.body) (arms_vars ys) p.slot vs) in
      let at_rest : p.slot + (l.row_size x.body).slot ≡ (after p x.size).slot = omega (arith, ap (λ (z : Position). z.slot) good.0.size_is) in
      let vs2 : Seg V (after p x.size).slot (arms_vars ys) = subst (λ k. Seg V k (arms_vars ys)) at_rest (seg_right V (row_vars y.body) (arms_vars ys) p.slot (l.row_size x.body).slot (row_vars_are s x.body y.body good.0.body) vs) in
      let rec = arms_stand xs ys good.1 (after p x.size) around next lck then (omega (arith, late)) (subst (λ z. Seg B then (Blocks ys (after p z) around next lck then)) (sym good.0.size_same) bs2) ns3 vs2 in
      let own_body = row_stands s x.body y.body good.0.body (after p with_expr) around next (start + 1) (omega (arith, late)) (seg_left B body_blocks rest_blocks (start + 1) bs1) ns2 vs1 in
      let here : start ≡ node s.goto p.node = sym (node_is s p.node start (seg_head N (body_firsts ++ rest_firsts) start p.node ns)) in
      let parts_in = row_parts s x.body (after p with_expr) around next in
      let parts_behind = arms_parts s xs (after p x.size) around next (no_of s.goto start) in
      let others : Fine B then (many_of ys) parts_behind = subst (λ k. Fine B then (many_of ys) (arms_parts s xs (after p x.size) around next k)) (sym no) rec.0 in
      let from : then ≡ (start + 1) + row_many y.body = omega arith in
      let joined : Fine B (start + 1) (row_many y.body + many_of ys) (parts_in ++ parts_behind) =
      fine_join B parts_in parts_behind (start + 1) (row_many y.body) (many_of ys) own_body (subst (λ k. Fine B k (many_of ys) parts_behind) from others) in
      let test = branches false (source_term p.expr x.test) (first_block s (length x.body) (p.node + 1) next) (no_of s.goto start) in
      let stands : slice_get B start ≡ Some test = h0 ∙ (λ i. Some (branches false (source_term p.expr (sym good.0.test_same i)) (sym first_is i) (sym no i))) in
      let total : 1 + (row_many y.body + many_of ys) ≡ (1 + row_many y.body) + many_of ys = omega arith in (
        fine_same B start (node s.goto p.node) (own start test ∷ (parts_in ++ parts_behind)) start ((1 + row_many y.body) + many_of ys) here
            (fine_many B (own start test ∷ (parts_in ++ parts_behind)) start (1 + (row_many y.body + many_of ys)) ((1 + row_many y.body) + many_of ys) total
            (fine_own B start test (parts_in ++ parts_behind) start (row_many y.body + many_of ys) refl stands joined)),
        ap (λ k. lack s xs k) no ∙ rec.1,
      )

  -- ---- the whole branch

  abbrev Branch : List LaidArm → Option (List Laid) → Option Class → Laid
  Branch xs other without = record { size = after (after a_node (l.arms_size xs)) (l.else_size other); parts = λ s. branch_parts s xs other without }

  abbrev Made : List BuiltArm → Option (List Built) → Option Class → Built
  Made ys other without = branched ys other without

  -- the arms, where they begin at the first block of the node
  module _ (xs : List LaidArm) (ys : List BuiltArm) (good : GoodArms xs ys) (p : Position) (around : Around) (next lck start : ℕ) (late : s.goto.entry < start) (others : List ℕ)
      (bs : Seg s.goto.blocks start (Blocks ys (after p a_node) around next lck start))
      (ns : Seg s.goto.nodes p.node (first_of ys start lck ∷ (firsts_of ys next start ++ others))) (more : List Slot) (vs : Seg s.slots p.slot (arms_vars ys ++ more)) where
    first_is : node s.goto p.node ≡ first_of ys start lck
    first_is = node_is s p.node (first_of ys start lck) (seg_head s.goto.nodes (firsts_of ys next start ++ others) (first_of ys start lck) p.node ns)

    inner : Fine s.goto.blocks start (many_of ys) (arms_parts s xs (after p a_node) around next (first_of ys start lck)) × (lack s xs (first_of ys start lck) ≡ lck)
    inner = arms_stand xs ys good (after p a_node) around next lck start late bs (seg_left s.goto.nodes (firsts_of ys next start) others (p.node + 1) (seg_tail s.goto.nodes (firsts_of ys next start ++ others) (first_of ys start lck) p.node ns))
        (subst (λ k. Seg s.slots k (arms_vars ys)) (let z : p.slot ≡ p.slot + 0 = omega arith in z) (seg_left s.slots (arms_vars ys) more p.slot vs))

    arms_there : Fine s.goto.blocks start (many_of ys) (arms_parts s xs (after p a_node) around next (node s.goto p.node))
    arms_there = subst (λ k. Fine s.goto.blocks start (many_of ys) (arms_parts s xs (after p a_node) around next k)) (sym first_is) inner.0

    lack_is : lack s xs (node s.goto p.node) ≡ lck
    lack_is = ap (λ k. lack s xs k) first_is ∙ inner.1

    with_else : (other : Option (List Laid)) (without : Option Class) (m : ℕ) → Fine s.goto.blocks (start + many_of ys) m (else_parts s other without (after p (after a_node (l.arms_size xs))) around next (lack s xs (node s.goto p.node))) →
        Fine s.goto.blocks start (many_of ys + m) (branch_parts s xs other without p around next)
    with_else other without m rest =
        fine_join s.goto.blocks (arms_parts s xs (after p a_node) around next (node s.goto p.node)) (else_parts s other without (after p (after a_node (l.arms_size xs))) around next (lack s xs (node s.goto p.node))) start (many_of ys) m arms_there rest

  no_others : (xs : List ℕ) (i k : ℕ) → Seg s.goto.nodes i (k ∷ xs) → Seg s.goto.nodes i (k ∷ (xs ++ []))
  no_others xs i k ns = subst (λ z. Seg s.goto.nodes i (k ∷ z)) (sym (append-nil xs)) ns

  pub good_branch : (xs : List LaidArm) (ys : List BuiltArm) → GoodArms xs ys → (without : Option Class) → Good s (Branch xs None without) (Made ys None without)
  good_branch xs ys good None = record {
    size_same = ap (λ z. after (after a_node z) nothing) (arms_size_same xs ys good);
    many_is = λ p around next start. arms_many_is xs ys good (after p a_node) around next next start;
    nodes_are = λ start next. omega (arith, arms_nodes_are xs ys good next start);
    vars_are = omega (arith, length-append (arms_vars ys) [], arms_vars_are xs ys good);
    first_is = λ start next. refl;
    stands = λ p around next start late bs ns vs. let ns' = no_others (firsts_of ys next start) p.node (first_of ys start next) ns in
        fine_many s.goto.blocks (branch_parts s xs None None p around next) start (many_of ys + 0) (many_of ys) (let z : many_of ys + 0 ≡ many_of ys = omega arith in z) (with_else xs ys good p around next next start late [] bs ns' [] vs None None 0 ((lack_is xs ys good p around next next start late [] bs ns' [] vs, tt), refl));
  }
  good_branch xs ys good (Some c) = record {
    size_same = ap (λ z. after (after a_node z) nothing) (arms_size_same xs ys good);
    many_is = λ p around next start. omega (arith, length-append (Blocks ys (after p a_node) around next (start + many_of ys) start) (fails c ∷ []), arms_many_is xs ys good (after p a_node) around next (start + many_of ys) start);
    nodes_are = λ start next. omega (arith, arms_nodes_are xs ys good next start);
    vars_are = omega (arith, length-append (arms_vars ys) [], arms_vars_are xs ys good);
    first_is = λ start next. refl;
    stands = λ p around next start late bs ns vs.
        let lck = start + many_of ys in
        let own_blocks = Blocks ys (after p a_node) around next lck start in
        let bs' = seg_left s.goto.blocks own_blocks (fails c ∷ []) start bs in
        let ns' = no_others (firsts_of ys next start) p.node (first_of ys start lck) ns in
        let fault : slice_get s.goto.blocks lck ≡ Some (fails c) = seg_head s.goto.blocks [] (fails c) lck (seg_right s.goto.blocks own_blocks (fails c ∷ []) start (many_of ys) (arms_many_is xs ys good (after p a_node) around next lck start) bs) in
        let lacks = lack_is xs ys good p around next lck start late [] bs' ns' [] vs in
        with_else xs ys good p around next lck start late [] bs' ns' [] vs None (Some c) 1 ((ap (slice_get s.goto.blocks) lacks ∙ fault, tt), ap (λ k. k ∷ []) lacks);
  }

  pub good_else : (xs : List LaidArm) (ys : List BuiltArm) → GoodArms xs ys → (ds : List Laid) (cs : List Built) → GoodRow s ds cs → (without : Option Class) → Good s (Branch xs (Some ds) without) (Made ys (Some cs) without)
  good_else xs ys good ds cs row without = record {
    size_same = λ i. after (after a_node (arms_size_same xs ys good i)) (after a_node (row_size_same s ds cs row i));
    many_is = λ p around next start.
        let lck = row_first cs (start + many_of ys) next in
        omega (
          arith,
          length-append (Blocks ys (after p a_node) around next lck start) (row_blocks cs (after (made_at p) a_node) around next (start + many_of ys)),
          arms_many_is xs ys good (after p a_node) around next lck start,
          row_many_is s ds cs row (after (made_at p) a_node) around next (start + many_of ys),
        );
    nodes_are = λ start next.
        let f = row_first cs (start + many_of ys) next in
        omega (arith, length-append (firsts_of ys next start) (f ∷ row_firsts cs (start + many_of ys) next), arms_nodes_are xs ys good next start, row_nodes_are s ds cs row (start + many_of ys) next);
    vars_are = omega (arith, length-append (arms_vars ys) (row_vars cs), arms_vars_are xs ys good, row_vars_are s ds cs row);
    first_is = λ start next. refl;
    stands = λ p around next start late bs ns vs.
        let B = s.goto.blocks in
        let N = s.goto.nodes in
        let from = start + many_of ys in
        let f = row_first cs from next in
        let own_blocks = Blocks ys (after p a_node) around next f start in
        let body_blocks = row_blocks cs (after (made_at p) a_node) around next from in
        let body_firsts = row_firsts cs from next in
        let q = after p (after a_node (l.arms_size xs)) in
        let bs1 : Seg B start own_blocks = seg_left B own_blocks body_blocks start bs in
        let bs2 : Seg B from body_blocks = seg_right B own_blocks body_blocks start (many_of ys) (arms_many_is xs ys good (after p a_node) around next f start) bs in
        let bs3 : Seg B from (row_blocks cs (after q a_node) around next from) = subst (λ z. Seg B from (row_blocks cs (after (after p (after a_node z)) a_node) around next from)) (sym (arms_size_same xs ys good)) bs2 in
        let tail = seg_tail N (firsts_of ys next start ++ (f ∷ body_firsts)) (first_of ys start f) p.node ns in
        let at_else : (p.node + 1) + (l.arms_size xs).node ≡ q.node = omega arith in
        let ns1 : Seg N q.node (f ∷ body_firsts) = subst (λ k. Seg N k (f ∷ body_firsts)) at_else (seg_right N (firsts_of ys next start) (f ∷ body_firsts) (p.node + 1) (l.arms_size xs).node (arms_nodes_are xs ys good next start) tail) in
        let ns2 : Seg N (q.node + 1) body_firsts = seg_tail N body_firsts f q.node ns1 in
        let at_slot : p.slot + (l.arms_size xs).slot ≡ (after q a_node).slot = omega arith in
        let vs2 : Seg s.slots (after q a_node).slot (row_vars cs) = subst (λ k. Seg s.slots k (row_vars cs)) at_slot (seg_right s.slots (arms_vars ys) (row_vars cs) p.slot (l.arms_size xs).slot (arms_vars_are xs ys good) vs) in
        let lacks = lack_is xs ys good p around next f start late (f ∷ body_firsts) bs1 ns (row_vars cs) vs in
        let there = row_parts s ds (after q a_node) around next in
        let inside : Fine B from (row_many cs) there = row_stands s ds cs row (after q a_node) around next from (omega (arith, late)) bs3 ns2 vs2 in
        let none = lack s xs (node s.goto p.node) in
        with_else xs ys good p around next f start late (f ∷ body_firsts) bs1 ns (row_vars cs) vs (Some ds) without (row_many cs)
        (fine_same B none (node s.goto q.node) (same none (first_block s (length ds) (q.node + 1) next) ∷ there) from (row_many cs) (lacks ∙ sym (node_is s q.node f (seg_head N body_firsts f q.node ns1)))
        (fine_same B none (first_block s (length ds) (q.node + 1) next) there from (row_many cs) (lacks ∙ sym (row_first_is s ds cs row (q.node + 1) from next ns2)) inside));
  }
    where
      made_at : Position → Position
      made_at p = after p (after a_node (b.arms_size ys))
