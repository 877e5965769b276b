-- One block of a tree.
use Rattle.std.proofs.Common.{◌≡◌, ℕ, zero, suc, ◌-◌, ◌≤◌, Some, ap, ◌∙◌, arith}
use Rattle.std.specs.Prelude.{slice_get}
use Rattle.call_forms.specs.declared.forms.Anf.{Anf}
use Rattle.call_forms.specs.declared.forms.AnfBlock.{AnfBlock}
use Rattle.call_forms.specs.declared.forms.Tail.{Tail}
use Rattle.call_forms.specs.Bodies.{block_body, tree}

pub tree_at : (a : Anf) (t : Tail) (n b : ℕ) (x : AnfBlock) → 1 ≤ n → Some x ≡ slice_get a.blocks b
    → block_body a t (tree a t (n - 1)) (Some x) ≡ tree a t n b
tree_at a t zero b x le at = absurd (omega (arith, le))
tree_at a t (suc n) b x le at =
    ap (λ k. block_body a t (tree a t k) (Some x)) (let e : suc n - 1 ≡ n = omega arith in e) ∙ ap (block_body a t (tree a t n)) at
