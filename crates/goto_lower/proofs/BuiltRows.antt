-- The blocks that are built for a row of statements stand as its patterns ask.
use Rattle.std.proofs.Common.{◌≡◌, ℕ, zero, suc, ◌+◌, ◌<◌, List, [], ◌∷◌, ◌++◌, length, Option, Some, None, refl, sym, ap, ◌∙◌, subst, arith, length-append}
use Rattle.std.specs.Prelude.{slice_get}
use Rattle.block_forms.specs.Around.{Around}
use Rattle.block_forms.specs.declared.forms.Block.{Block}
use Rattle.block_forms.specs.Patterns.{node, or_zero}
use Rattle.block_forms.specs.declared.places.Position.{Position}
use Rattle.block_forms.specs.Laid.{Laid, Setting, after, first_block, row_parts}
use Rattle.block_forms.specs.Laid as l
use Rattle.goto_lower.specs.Building.{Built, row_many, row_first, row_blocks, row_firsts, row_vars}
use Rattle.goto_lower.specs.Building as b
use Rattle.goto_lower.proofs.Segments.{Seg, seg_left, seg_right, seg_first}
use Rattle.goto_lower.proofs.Covering.{Fine, fine_join}

module _ (s : Setting) where
  pub record Good (x : Laid) (y : Built) : Type 0 where
    pub size_same : x.size ≡ y.size
    pub many_is : (p : Position) (around : Around) (next start : ℕ) → length (y.blocks p around next start) ≡ y.many
    pub nodes_are : (start next : ℕ) → length (y.firsts start next) ≡ x.size.node
    pub vars_are : length y.vars ≡ x.size.slot
    pub first_is : (start next : ℕ) → slice_get (y.firsts start next) 0 ≡ Some (y.first start next)
    pub stands : (p : Position) (around : Around) (next start : ℕ) → s.goto.entry < start → Seg s.goto.blocks start (y.blocks p around next start) → Seg s.goto.nodes p.node (y.firsts start next) → Seg s.slots p.slot y.vars → Fine s.goto.blocks start y.many (x.parts s p around next)

  abbrev pub GoodRow : List Laid → List Built → Type 0
  GoodRow [] [] = Unit {0}
  GoodRow [] (y ∷ ys) = ⊥
  GoodRow (x ∷ xs) [] = ⊥
  GoodRow (x ∷ xs) (y ∷ ys) = Good x y × GoodRow xs ys

  pub row_size_same : (xs : List Laid) (ys : List Built) → GoodRow xs ys → l.row_size xs ≡ b.row_size ys
  row_size_same [] [] good = refl
  row_size_same [] (y ∷ ys) good = absurd good
  row_size_same (x ∷ xs) [] good = absurd good
  row_size_same (x ∷ xs) (y ∷ ys) good = λ i. after (good.0.size_same i) (row_size_same xs ys good.1 i)

  pub row_many_is : (xs : List Laid) (ys : List Built) → GoodRow xs ys → (p : Position) (around : Around) (next start : ℕ) → length (row_blocks ys p around next start) ≡ row_many ys
  row_many_is [] [] good p around next start = refl
  row_many_is [] (y ∷ ys) good p around next start = absurd good
  row_many_is (x ∷ xs) [] good p around next start = absurd good
  row_many_is (x ∷ xs) (y ∷ ys) good p around next start =
      omega (arith, length-append (y.blocks p around (row_first ys (start + y.many) next) start) (row_blocks ys (after p y.size) around next (start + y.many)), good.0.many_is p around (row_first ys (start + y.many) next) start, row_many_is xs ys good.1 (after p y.size) around next (start + y.many))

  pub row_nodes_are : (xs : List Laid) (ys : List Built) → GoodRow xs ys → (start next : ℕ) → length (row_firsts ys start next) ≡ (l.row_size xs).node
  row_nodes_are [] [] good start next = refl
  row_nodes_are [] (y ∷ ys) good start next = absurd good
  row_nodes_are (x ∷ xs) [] good start next = absurd good
  row_nodes_are (x ∷ xs) (y ∷ ys) good start next =
      omega (arith, length-append (y.firsts start (row_first ys (start + y.many) next)) (row_firsts ys (start + y.many) next), good.0.nodes_are start (row_first ys (start + y.many) next), row_nodes_are xs ys good.1 (start + y.many) next)

  pub row_vars_are : (xs : List Laid) (ys : List Built) → GoodRow xs ys → length (row_vars ys) ≡ (l.row_size xs).slot
  row_vars_are [] [] good = refl
  row_vars_are [] (y ∷ ys) good = absurd good
  row_vars_are (x ∷ xs) [] good = absurd good
  row_vars_are (x ∷ xs) (y ∷ ys) good = omega (arith, length-append y.vars (row_vars ys), good.0.vars_are, row_vars_are xs ys good.1)

  pub node_is : (i k : ℕ) → slice_get s.goto.nodes i ≡ Some k → node s.goto i ≡ k
  node_is i k e = ap or_zero e

  pub row_first_is : (xs : List Laid) (ys : List Built) → GoodRow xs ys → (i start next : ℕ) → Seg s.goto.nodes i (row_firsts ys start next) → first_block s (length xs) i next ≡ row_first ys start next
  row_first_is [] [] good i start next seg = refl
  row_first_is [] (y ∷ ys) good i start next seg = absurd good
  row_first_is (x ∷ xs) [] good i start next seg = absurd good
  row_first_is (x ∷ xs) (y ∷ ys) good i start next seg =
      node_is i _ (seg_first s.goto.nodes (y.firsts start (row_first ys (start + y.many) next)) _ i (good.0.first_is start (row_first ys (start + y.many) next)) (seg_left s.goto.nodes (y.firsts start (row_first ys (start + y.many) next)) (row_firsts ys (start + y.many) next) i seg))

  pub row_stands : (xs : List Laid) (ys : List Built) → GoodRow xs ys → (p : Position) (around : Around) (next start : ℕ) → s.goto.entry < start → Seg s.goto.blocks start (row_blocks ys p around next start) → Seg s.goto.nodes p.node (row_firsts ys start next) → Seg s.slots p.slot (row_vars ys) →
      Fine s.goto.blocks start (row_many ys) (row_parts s xs p around next)
  row_stands [] [] good p around next start late bs ns vs = (tt, refl)
  row_stands [] (y ∷ ys) good p around next start late bs ns vs = absurd good
  row_stands (x ∷ xs) [] good p around next start late bs ns vs = absurd good
  row_stands (x ∷ xs) (y ∷ ys) good p around next start late bs ns vs =
      let then = row_first ys (start + y.many) next in
      let rest_nodes : Seg s.goto.nodes (p.node + x.size.node) (row_firsts ys (start + y.many) next) = seg_right s.goto.nodes (y.firsts start then) (row_firsts ys (start + y.many) next) p.node x.size.node (good.0.nodes_are start then) ns in
      let then_is : first_block s (length xs) (p.node + x.size.node) next ≡ then = row_first_is xs ys good.1 (p.node + x.size.node) (start + y.many) next rest_nodes in
      let here : Fine s.goto.blocks start y.many (x.parts s p around then) = good.0.stands p around then start late
      (seg_left s.goto.blocks (y.blocks p around then start) (row_blocks ys (after p y.size) around next (start + y.many)) start bs)
      (seg_left s.goto.nodes (y.firsts start then) (row_firsts ys (start + y.many) next) p.node ns)
      (seg_left s.slots y.vars (row_vars ys) p.slot vs) in
      let others : Fine s.goto.blocks (start + y.many) (row_many ys) (row_parts s xs (after p x.size) around next) =
      row_stands xs ys good.1 (after p x.size) around next (start + y.many) (omega (arith, late))
      (subst (λ z. Seg s.goto.blocks (start + y.many) (row_blocks ys (after p z) around next (start + y.many))) (sym good.0.size_same)
      (seg_right s.goto.blocks (y.blocks p around then start) (row_blocks ys (after p y.size) around next (start + y.many)) start y.many (good.0.many_is p around then start) bs))
      rest_nodes
      (seg_right s.slots y.vars (row_vars ys) p.slot x.size.slot good.0.vars_are vs) in
      fine_join s.goto.blocks (x.parts s p around (first_block s (length xs) (p.node + x.size.node) next)) (row_parts s xs (after p x.size) around next) start y.many (row_many ys)
      (subst (λ k. Fine s.goto.blocks start y.many (x.parts s p around k)) (sym then_is) here) others
