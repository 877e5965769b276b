use Rattle.std.proofs.Common.{◌≡◌, ◌<◌, ◌&&◌, ℕ, [], Bool, map, length, sym, ap, ◌∙◌, subst}
use Rattle.ssa_build.specs.FullForms.{live_in, phi_name}
use Rattle.block_graph.specs.Tables.{live_by}
use Rattle.ssa_build.specs.Merging.{is_end, new_name, replacing}
use Rattle.ssa_build.specs.Output.{new_after, new_phi}
use Rattle.ssa_build.proofs.LoopLists.{and_no, and_not, and_true, built_more, built_same, same_phi}
use Rattle.ssa_build.proofs.output.new_phis.Goals as goal
use Rattle.ssa_build.proofs.output.new_phis.Goals.{then-is_live+then-is_end+in_ok-new_operands+in_ok-push, then-is_live+else-is_end, else-is_live}

pub loop-slot-preserved : goal.loop-slot-preserved
loop-slot-preserved c =
    let full = c.args.renaming.now.full.now in
    let g = c.args.renaming.now.blocks.now in
    let b = c.args.block in
    let s = c.loop-slot.slot in
    let into = c.args.renaming.now.into.now in
    let numbers = c.args.renaming.now.numbers.now in
    let f = new_phi full g into numbers b in
    let live_here : ℕ → Bool = live_in full b in
    let stays : ℕ → Bool = λ s. is_end (replacing into) (phi_name full b s) in
    let p : ℕ → Bool = λ s. live_here s && stays s in
    let live : live_here s ≡ c.is_live.result = sym (c.is_live.ensures.by_table ∙ ap (λ t. live_by t b s) c.deref.ensures.value) in
    elim c.if-is_live.branch [
      | then-is_live+then-is_end+in_ok-new_operands+in_ok-push w ↦
          built_more f p [] c.loop-slot.phis s c.loop-slot.invariant c.if-is_live.phis _
          (and_true (live_here s) (stays s) (live ∙ w.if-is_live.true) (ap (is_end (replacing into)) (sym w.phi_name-name.ensures) ∙ sym w.is_end.ensures ∙ w.if-is_end.true))
          (w.phis-is ∙ w.in_ok-push.ensures.ok)
          (same_phi (w.new_name.ensures ∙ ap (new_name into numbers) w.phi_name-name.ensures) (w.in_ok-new_operands.ensures ∙ ap (map (λ q. (q, new_after full g into numbers q s))) c.requires.sources_are))
      | then-is_live+else-is_end w ↦ built_same f p [] c.loop-slot.phis s c.loop-slot.invariant c.if-is_live.phis (and_not (live_here s) (stays s) (live ∙ w.if-is_live.true) (ap (is_end (replacing into)) (sym w.phi_name-name.ensures) ∙ sym w.is_end.ensures ∙ w.if-is_end.false)) w.phis-is
      | else-is_live w ↦ built_same f p [] c.loop-slot.phis s c.loop-slot.invariant c.if-is_live.phis (and_no (live_here s) (stays s) (live ∙ w.if-is_live.false)) w.phis-is
    ]
