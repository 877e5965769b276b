use Rattle.std.proofs.Common.{◌≤◌, length, drop, ◌+◌, ◌++◌, sym, ap, subst, arith}
use Rattle.call_forms.specs.Columned.{type_of_name}
use Rattle.tail_rec.specs.Columns.{placed, HasRoom}
use Rattle.tail_rec.proofs.PlacedLoop.{room_left, placed_on, placed_over}
use Rattle.tail_rec.proofs.Rooms.{room_for_one, room_after}
use Rattle.tail_rec.proofs.places.placed.Goals as goal

pub loop-name-init : goal.loop-name-init
loop-name-init c =
    let types = type_of_name c.args.slots.now c.args.names.now in
    (c.requires, ap (λ l. l ++ placed types c.args.starts c.args.params.now) c.new-places.ensures)

pub after_place-free-requires : goal.after_place-free-requires
after_place-free-requires c =
    let i = c.loop-name.name-index in
    room_for_one c.loop-name.free (length (drop (i + 1) c.args.params.now))
    (room_left c.loop-name.free c.args.params.now i c.loop-name-test.true c.loop-name.invariant.0)

pub loop-name-preserved : goal.loop-name-preserved
loop-name-preserved c =
    let types = type_of_name c.args.slots.now c.args.names.now in
    let params = c.args.params.now in
    let i = c.loop-name.name-index in
    let free = c.loop-name.free in
    let found = c.type_of-found.result in (
      subst (λ f. HasRoom f (length (drop (i + 1) params))) (sym c.after_place-free.ensures)
          (room_after free found (length (drop (i + 1) params)) (room_left free params i c.loop-name-test.true c.loop-name.invariant.0)),
      placed_on types params (placed types c.args.starts params) i free c.loop-name.places c.loop-name.invariant.1 c.push.new.self found
          c.place_for.result c.after_place-free.result c.loop-name-test.true c.type_of-found.ensures c.place_for.ensures c.in_ok-push.ensures.ok
          c.after_place-free.ensures,
    )

pub returns : goal.returns
returns c =
    let types = type_of_name c.args.slots.now c.args.names.now in
    let params = c.args.params.now in
    let i = c.loop-name.name-index in
    let over : length params ≤ i = omega (arith, c.loop-name-test.false) in
    placed_over types params (placed types c.args.starts params) i c.loop-name.free c.loop-name.places c.loop-name.invariant.1 over
