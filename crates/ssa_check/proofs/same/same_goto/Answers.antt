use Rattle.std.proofs.Common.{◌≡◌, ℕ, List, ap, ◌∙◌}
use Rattle.block_forms.specs.declared.forms.Block.{Block}
use Rattle.block_forms.specs.declared.forms.Goto.{Goto}
use Rattle.block_forms.proofs.Verdicts.{decided, passed}
use Rattle.ssa_check.proofs.same.same_goto.Goals as goal

abbrev form : ℕ → ℕ → List ℕ → List Block → Goto
form entry finish nodes blocks = record { entry = entry; finish = finish; nodes = nodes; blocks = blocks }

same_fields : (x y : Goto) → x.entry ≡ y.entry → x.finish ≡ y.finish → x.nodes ≡ y.nodes → x.blocks ≡ y.blocks → x ≡ y
same_fields x y entry finish nodes blocks =
    ap (λ e. form e x.finish x.nodes x.blocks) entry
    ∙ ap (λ f. form y.entry f x.nodes x.blocks) finish
    ∙ ap (λ n. form y.entry y.finish n x.blocks) nodes
    ∙ ap (form y.entry y.finish y.nodes) blocks

pub returns : goal.returns
returns c =
    decided c.same_blocks.result (rw (c.as_slice-3.ensures, c.as_slice-4.ensures) at c.same_blocks.ensures)
    (λ blocks. same_fields c.args.x.now c.args.y.now c.if-x-y.false c.if-x-y-2.false (passed c.same_numbers.result c.if-not-same_numbers.false (rw (c.as_slice.ensures, c.as_slice-2.ensures) at c.same_numbers.ensures)) blocks)
    (λ e. ap (λ (g : Goto). g.blocks) e)
