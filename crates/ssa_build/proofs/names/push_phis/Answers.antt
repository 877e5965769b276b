use Rattle.std.proofs.Common.{◌≡◌, ℕ, Bool, Vec, Global, length, sym, ap, ◌∙◌, arith}
use Rattle.ssa_build.specs.Names.{has_phi}
use Rattle.block_graph.specs.Tables.{live_by}
use Rattle.ssa_build.proofs.AddedNames.{name_added, names_long, none_added, row_added}
use Rattle.ssa_build.proofs.Ordered.{passed_few}
use Rattle.ssa_build.proofs.names.push_phis.Goals as goal
use Rattle.ssa_build.proofs.names.push_phis.Goals.{then-has_phi+in_ok-push-2, else-has_phi}

pub overflow_cast-len : goal.overflow_cast-len
overflow_cast-len c =
    let p : ℕ → Bool = has_phi c.args.layout (live_by c.args.live.now) c.args.block in
    let e : c.len.result ≡ length c.loop-slot.names.items = c.len.ensures ∙ c.loop-slot.names.ok.0 in
    let long = names_long p c.args.names.now.items c.loop-slot.names.items c.loop-slot.slot c.loop-slot.invariant.0 in
    let few = passed_few p c.loop-slot.slot in
    let room = c.requires.room in
    let under = c.loop-slot-test.true in
    omega (arith, e, long, few, room, under)

pub loop-slot-preserved : goal.loop-slot-preserved
loop-slot-preserved c =
    let p : ℕ → Bool = has_phi c.args.layout (live_by c.args.live.now) c.args.block in
    let old = c.args.names.now.items in
    let names = c.loop-slot.names.items in
    let s = c.loop-slot.slot in
    let so = c.loop-slot.invariant.0 in
    let row = row_added p old names s so c.loop-slot.row c.push.new.self c.len.result (c.len.ensures ∙ c.loop-slot.names.ok.0) c.loop-slot.invariant.1 c.in_ok-push.ensures.ok in
    elim c.if-has_phi.branch [
      | then-has_phi+in_ok-push-2 w ↦ (name_added p old names s so c.if-has_phi.names.items (sym c.has_phi.ensures ∙ w.if-has_phi.true) (ap (λ (v : Vec ℕ Global). v.items) w.names-is ∙ w.in_ok-push-2.ensures.items), row)
      | else-has_phi w ↦ (none_added p old names s so c.if-has_phi.names.items (sym c.has_phi.ensures ∙ w.if-has_phi.false) (ap (λ (v : Vec ℕ Global). v.items) w.names-is), row)
    ]
