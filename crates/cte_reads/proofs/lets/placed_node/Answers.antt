use Rattle.std.proofs.Common.{rules, ◌≡◌}
use Rattle.away_values.specs.Operators.{literal_type}
use Rattle.tree_events.specs.declared.events.Kind.TheVariants as kind
use Rattle.cte_reads.specs.Placing.{slot_column_in}
use Rattle.cte_reads.proofs.OneByOne.{as_reads}
use Rattle.cte_reads.proofs.PlacedInOrder.{stays, slot_stands, number_stands, truth_stands, text_stands}
use Rattle.cte_reads.proofs.lets.placed_node.Goals as goal

pub returns-in-Slot : goal.returns-in-Slot
returns-in-Slot c =
    as_reads (slot_stands c.args.depth c.args.slots.now c.args.refs.now c.args.kind c.in-Slot.slot c.slot_ref.result c.in-Slot.is c.slot_ref.ensures) c.open_ref.ensures

pub returns-in-Int : goal.returns-in-Int
returns-in-Int c =
    let cast : c.number_cast.result ≡ kind.Cast (literal_type c.in-Int.n) = search rules in
    as_reads (number_stands (slot_column_in c.args.depth c.args.slots.now c.args.refs.now) c.args.kind c.number_cast.result c.in-Int.n c.in-Int.is cast) c.whole_literal.ensures

pub returns-in-Bool : goal.returns-in-Bool
returns-in-Bool c =
    as_reads (truth_stands (slot_column_in c.args.depth c.args.slots.now c.args.refs.now) c.args.kind c.in-Bool.field-0 c.in-Bool.is)
    c.whole_literal-in-Bool.ensures

pub returns-in-Str : goal.returns-in-Str
returns-in-Str c = as_reads (text_stands (slot_column_in c.args.depth c.args.slots.now c.args.refs.now) c.args.kind c.in-Str.is) c.open_literal.ensures

pub returns-in_default : goal.returns-in_default
returns-in_default c =
    as_reads
    (stays (slot_column_in c.args.depth c.args.slots.now c.args.refs.now) 0 c.args.kind c.in_default.not-Slot c.in_default.not-Int c.in_default.not-Bool c.in_default.not-Str)
    c.open.ensures
