use Rattle.std.proofs.Common.{refl, ap}
use Rattle.turn_terms.specs.Choosing.{size}
use Rattle.turn_terms.proofs.SureRules.{arms_size, between_size, cases_size, cast_size, chain_size, compare_size, exprs_size, is_size, links_size, maybe_size, not_size, one_behind, one_of_size, three_behind, two_behind}
use Rattle.turn_terms.proofs.sureness.+weights.Goals as goal

pub room_behind-returns-in-Not : goal.room_behind-returns-in-Not
room_behind-returns-in-Not t c = one_behind c.args.room _ _ _ _ (not_size c.args.e.now c.in-Not.a c.in-Not.is) (ap size c.get.ensures) c.room_behind.ensures

pub room_behind-returns-in-Is : goal.room_behind-returns-in-Is
room_behind-returns-in-Is t c =
    one_behind c.args.room _ _ _ _ (is_size c.args.e.now c.in-Is.a c.in-Is.field-1 c.in-Is.field-2 c.in-Is.is)
    (ap size c.get-in-Is.ensures) c.room_behind-in-Is.ensures

pub room_behind-returns-in-Chain : goal.room_behind-returns-in-Chain
room_behind-returns-in-Chain t c =
    two_behind c.args.room _ _ _ _ _ _ _ (chain_size c.args.e.now c.in-Chain.a c.in-Chain.links c.in-Chain.is) (ap size c.get-in-Chain.ensures)
    (ap links_size c.as_slice.ensures) c.room_behind-behind.ensures c.links_room.ensures

pub room_behind-returns-in-Compare : goal.room_behind-returns-in-Compare
room_behind-returns-in-Compare t c =
    two_behind c.args.room _ _ _ _ _ _ _ (compare_size c.args.e.now c.in-Compare.a c.in-Compare.b c.in-Compare.field-0 c.in-Compare.is)
    (ap size c.get-in-Compare.ensures) (ap size c.get-in-Compare-2.ensures) c.room_behind-behind-in-Compare.ensures c.room_behind-in-Compare.ensures

pub room_behind-returns-in-Between : goal.room_behind-returns-in-Between
room_behind-returns-in-Between t c =
    three_behind c.args.room _ _ _ _ _ _ _ _ _ _ (between_size c.args.e.now c.in-Between.a c.in-Between.low c.in-Between.high c.in-Between.field-0
    c.in-Between.is)
    (ap size c.get-in-Between.ensures) (ap size c.get-in-Between-2.ensures) (ap size c.get-in-Between-3.ensures) c.room_behind-behind-in-Between.ensures
    c.room_behind-behind-in-Between-2.ensures c.room_behind-in-Between.ensures

pub room_behind-returns-in-OneOf : goal.room_behind-returns-in-OneOf
room_behind-returns-in-OneOf t c =
    two_behind c.args.room _ _ _ _ _ _ _ (one_of_size c.args.e.now c.in-OneOf.a c.in-OneOf.field-0 c.in-OneOf.list c.in-OneOf.is)
    (ap size c.get-in-OneOf.ensures)
    (ap exprs_size c.as_slice-in-OneOf.ensures) c.room_behind-behind-in-OneOf.ensures c.list_room.ensures

pub room_behind-returns-in-Cast : goal.room_behind-returns-in-Cast
room_behind-returns-in-Cast t c =
    one_behind c.args.room _ _ _ _ (cast_size c.args.e.now c.in-Cast.a c.in-Cast.field-1 c.in-Cast.is)
    (ap size c.get-in-Cast.ensures) c.room_behind-in-Cast.ensures

pub room_behind-returns-in-Cases : goal.room_behind-returns-in-Cases
room_behind-returns-in-Cases t c =
    two_behind c.args.room _ _ _ _ (maybe_size c.in-Cases.other) _ _ (cases_size c.args.e.now c.in-Cases.arms c.in-Cases.other c.in-Cases.is)
    (ap arms_size c.as_slice-in-Cases.ensures) refl c.arms_room-behind.ensures c.other_room.ensures
