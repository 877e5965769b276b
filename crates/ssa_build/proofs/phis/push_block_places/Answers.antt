use Rattle.std.proofs.Common.{refl, ◌≡◌, ◌<◌, ℕ, Bool, Vec, Global, length, sym, ap, ◌∙◌, subst}
use Rattle.ssa_build.specs.declared.places.PhiPlace.{PhiPlace}
use Rattle.ssa_build.specs.FullForms.{live_in}
use Rattle.ssa_build.specs.FullJoins.{place}
use Rattle.block_graph.specs.Tables.{live_by}
use Rattle.ssa_build.proofs.LoopLists.{built_more, built_same}
use Rattle.ssa_build.proofs.phis.push_block_places.Goals as goal
use Rattle.ssa_build.proofs.phis.push_block_places.Goals.{then-is_live+in_ok-push, else-is_live}

pub loop-slot-preserved : goal.loop-slot-preserved
loop-slot-preserved c =
    let full = c.args.full.now in
    let b = c.args.block in
    let s = c.loop-slot.slot in
    let p : ℕ → Bool = live_in full b in
    let live : p s ≡ c.is_live.result = sym (c.is_live.ensures.by_table ∙ ap (λ t. live_by t b s) c.deref.ensures.value) in
    elim c.if-is_live.branch [
      | then-is_live+in_ok-push w ↦
          built_more (place b) p c.args.places.now.items c.loop-slot.places.items s c.loop-slot.invariant c.if-is_live.places.items _ (live ∙ w.if-is_live.true) (ap (λ (v : Vec PhiPlace Global). v.items) w.places-is ∙ w.in_ok-push.ensures.items) refl
      | else-is_live w ↦ built_same (place b) p c.args.places.now.items c.loop-slot.places.items s c.loop-slot.invariant c.if-is_live.places.items (live ∙ w.if-is_live.false) (ap (λ (v : Vec PhiPlace Global). v.items) w.places-is)
    ]
