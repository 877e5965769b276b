use Rattle.std.proofs.Common.{◌≡◌, ◌+◌, ◌^◌, ◌<◌, Some, length, length-append, sym, ap, ◌∙◌, subst, arith}
use Rattle.std.proofs.lemmas.Option.{slice_get-get_or}
use Rattle.ssa_build.specs.Names.{has_phi, phi_slots}
use Rattle.block_graph.specs.Tables.{live_by}
use Rattle.ssa_build.proofs.AddedNames.{names_more}
use Rattle.ssa_build.proofs.NamesApart.{names_fit}
use Rattle.ssa_build.proofs.Ordered.{passed_few}
use Rattle.ssa_build.proofs.names.full_names.Goals as goal

pub push_phis-requires : goal.push_phis-requires
push_phis-requires c = record { room = subst (λ v. length v + c.args.layout.slots < 2 ^ 32) (sym c.loop-block.invariant.slots_are) (names_fit c.args.layout (live_by c.args.live.now) c.args.blocks.now c.requires.is_layout c.loop-block.block c.loop-block-test.true) }

pub overflow_cast-len : goal.overflow_cast-len
overflow_cast-len c =
    let live = live_by c.args.live.now in
    let n = c.loop-block.block in
    let slots = c.loop-block.slots.items in
    let e : c.len.result ≡ length c.push_phis.new.names.items = c.len.ensures ∙ c.push_phis.new.names.ok.0 in
    let long = ap length c.in_ok-push_phis.ensures.names ∙ length-append slots (phi_slots c.args.layout live n c.args.layout.slots) in
    let few = passed_few (has_phi c.args.layout live n) c.args.layout.slots in
    let fit = subst (λ v. length v + c.args.layout.slots < 2 ^ 32) (sym c.loop-block.invariant.slots_are) (names_fit c.args.layout live c.args.blocks.now c.requires.is_layout n c.loop-block-test.true) in
    omega (arith, e, long, few, fit)

pub loop-block-preserved : goal.loop-block-preserved
loop-block-preserved c =
    let live = live_by c.args.live.now in
    let g = c.args.blocks.now in
    let n = c.loop-block.block in
    let x = c.index-blocks-block.result in
    let lt : n < length g = subst (λ v. n < v) (sym c.requires.sized) c.loop-block-test.true in
    names_more c.args.layout live g n x c.loop-block.slots.items c.loop-block.phis.items c.loop-block.sets.items c.loop-block.invariant (slice_get-get_or g n x lt ∙ ap Some (sym c.index-blocks-block.is)) c.push_phis.new.names.items c.in_ok-push_phis.field-0 c.len.result c.in_ok-push_phis.ensures.names c.in_ok-push_phis.ensures.row (c.len.ensures ∙ c.push_phis.new.names.ok.0) c.push_set.new.names.items c.push.new.self.items c.push-in-loop-block.new.self.items c.in_ok-push_set.ensures c.in_ok-push.ensures.items c.in_ok-push-2.ensures.items
