use Rattle.std.proofs.Common.{◌≡◌, ◌<◌, ℕ, [], Bool, length, sym, ap, ◌∙◌, subst}
use Rattle.ssa_build.specs.FullForms.{live_in}
use Rattle.block_graph.specs.Tables.{live_by}
use Rattle.ssa_build.specs.Output.{new_before}
use Rattle.ssa_build.proofs.LoopLists.{built_more, built_same}
use Rattle.ssa_build.proofs.output.new_map.Goals as goal
use Rattle.ssa_build.proofs.output.new_map.Goals.{then-is_live+in_ok-push, else-is_live}

pub loop-slot-preserved : goal.loop-slot-preserved
loop-slot-preserved c =
    let full = c.args.renaming.now.full.now in
    let b = c.args.block in
    let s = c.loop-slot.slot in
    let f : ℕ → ℕ × ℕ = λ s. (s, new_before full c.args.renaming.now.blocks.now c.args.renaming.now.into.now c.args.renaming.now.numbers.now b s) in
    let p : ℕ → Bool = live_in full b in
    let live : p s ≡ c.is_live.result = sym (c.is_live.ensures.by_table ∙ ap (λ t. live_by t b s) c.deref.ensures.value) in
    elim c.if-is_live.branch [
      | then-is_live+in_ok-push w ↦ built_more f p [] c.loop-slot.names s c.loop-slot.invariant c.if-is_live.names _ (live ∙ w.if-is_live.true) (w.names-is ∙ w.in_ok-push.ensures.ok) (ap (λ (n : ℕ). (s, n)) w.new_before-name.ensures)
      | else-is_live w ↦ built_same f p [] c.loop-slot.names s c.loop-slot.invariant c.if-is_live.names (live ∙ w.if-is_live.false) w.names-is
    ]
