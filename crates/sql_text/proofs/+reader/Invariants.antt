use Rattle.std.proofs.Common.{◌≤◌, length, ◌+◌, ◌-◌, ◌*◌}
use Rattle.away_grammar.specs.Grammar.{rank}
use Rattle.sql_text.proofs.Loops.{LinksLead, ListLeads, ArmsLead, ItemsLead, FromLead, KeysLead, SelectsLead}
use Rattle.sql_text.proofs.+reader.Given as goal

abbrev pub decreases-expressions::expression : goal.decreases-expressions::expression
decreases-expressions::expression l = 256 * length l.tokens.now + (201 - 4 * rank l.level)

abbrev pub decreases-expressions::operand : goal.decreases-expressions::operand
decreases-expressions::operand l = 256 * length l.tokens.now + (202 - 4 * rank l.level)

abbrev pub decreases-expressions::chain : goal.decreases-expressions::chain
decreases-expressions::chain l = 256 * length l.tokens.now + (200 - 4 * rank l.level)

abbrev pub decreases-expressions::links_of : goal.decreases-expressions::links_of
decreases-expressions::links_of l = 256 * length l.tokens.now + 2

abbrev pub decreases-expressions::negation : goal.decreases-expressions::negation
decreases-expressions::negation l = 256 * length l.tokens.now + 108

abbrev pub decreases-expressions::tested : goal.decreases-expressions::tested
decreases-expressions::tested l = 256 * length l.tokens.now + 104

abbrev pub decreases-expressions::compared : goal.decreases-expressions::compared
decreases-expressions::compared l = 256 * length l.tokens.now + 100

abbrev pub decreases-expressions::ranged : goal.decreases-expressions::ranged
decreases-expressions::ranged l = 256 * length l.tokens.now + 96

abbrev pub decreases-expressions::within : goal.decreases-expressions::within
decreases-expressions::within l = 256 * length l.tokens.now + 95

abbrev pub decreases-expressions::between : goal.decreases-expressions::between
decreases-expressions::between l = 256 * length l.tokens.now + 96

abbrev pub decreases-expressions::signed : goal.decreases-expressions::signed
decreases-expressions::signed l = 256 * length l.tokens.now + 80

abbrev pub decreases-expressions::cast : goal.decreases-expressions::cast
decreases-expressions::cast l = 256 * length l.tokens.now + 76

abbrev pub decreases-primaries::primary : goal.decreases-primaries::primary
decreases-primaries::primary l = 256 * length l.tokens.now + 72

abbrev pub decreases-primaries::marked : goal.decreases-primaries::marked
decreases-primaries::marked l = 256 * length l.tokens.now + 125

abbrev pub decreases-primaries::word : goal.decreases-primaries::word
decreases-primaries::word l = 256 * length l.tokens.now + 3

abbrev pub decreases-primaries::inside : goal.decreases-primaries::inside
decreases-primaries::inside l = 256 * length l.tokens.now + 120

abbrev pub decreases-primaries::cast_call : goal.decreases-primaries::cast_call
decreases-primaries::cast_call l = 256 * length l.tokens.now + 1

abbrev pub decreases-primaries::case : goal.decreases-primaries::case
decreases-primaries::case l = 256 * length l.tokens.now + 122

abbrev pub decreases-primaries::arms_of : goal.decreases-primaries::arms_of
decreases-primaries::arms_of l = 256 * length l.tokens.now + 121

abbrev pub decreases-primaries::named : goal.decreases-primaries::named
decreases-primaries::named l = 256 * length l.tokens.now + 3

abbrev pub decreases-primaries::list_of : goal.decreases-primaries::list_of
decreases-primaries::list_of l = 256 * length l.tokens.now + 119

abbrev pub invariant-expressions::links_of-loop-op : goal.invariant-expressions::links_of-loop-op
invariant-expressions::links_of-loop-op l = record { begun : LinksLead l.level l.fn.tokens l.found l.tokens; shrinks : length l.tokens ≤ length l.fn.tokens }

abbrev pub decreases-expressions::links_of-loop-op : goal.decreases-expressions::links_of-loop-op
decreases-expressions::links_of-loop-op l = length l.tokens

abbrev pub invariant-primaries::list_of-loop-found : goal.invariant-primaries::list_of-loop-found
invariant-primaries::list_of-loop-found l = record { begun : ListLeads l.fn.tokens l.found l.tokens; shrinks : length l.tokens ≤ length l.fn.tokens }

abbrev pub decreases-primaries::list_of-loop-found : goal.decreases-primaries::list_of-loop-found
decreases-primaries::list_of-loop-found l = length l.tokens

abbrev pub invariant-primaries::arms_of-loop-alloc : goal.invariant-primaries::arms_of-loop-alloc
invariant-primaries::arms_of-loop-alloc l = record { begun : ArmsLead l.fn.tokens l.found l.tokens; shrinks : length l.tokens ≤ length l.fn.tokens }

abbrev pub decreases-primaries::arms_of-loop-alloc : goal.decreases-primaries::arms_of-loop-alloc
decreases-primaries::arms_of-loop-alloc l = length l.tokens

abbrev pub decreases-selects::query_of : goal.decreases-selects::query_of
decreases-selects::query_of l = 256 * length l.tokens.now + 112

abbrev pub decreases-selects::selects_of : goal.decreases-selects::selects_of
decreases-selects::selects_of l = 256 * length l.tokens.now + 111

abbrev pub decreases-selects::select_of : goal.decreases-selects::select_of
decreases-selects::select_of l = 256 * length l.tokens.now + 3

abbrev pub decreases-selects::items_of : goal.decreases-selects::items_of
decreases-selects::items_of l = 256 * length l.tokens.now + 121

abbrev pub decreases-selects::item_of : goal.decreases-selects::item_of
decreases-selects::item_of l = 256 * length l.tokens.now + 120

abbrev pub decreases-selects::from_of : goal.decreases-selects::from_of
decreases-selects::from_of l = 256 * length l.tokens.now + 130

abbrev pub decreases-selects::from_items_of : goal.decreases-selects::from_items_of
decreases-selects::from_items_of l = 256 * length l.tokens.now + 122

abbrev pub decreases-selects::from_item_of : goal.decreases-selects::from_item_of
decreases-selects::from_item_of l = 256 * length l.tokens.now + 121

abbrev pub decreases-selects::subquery : goal.decreases-selects::subquery
decreases-selects::subquery l = 256 * length l.tokens.now + 113

abbrev pub decreases-selects::where_of : goal.decreases-selects::where_of
decreases-selects::where_of l = 256 * length l.tokens.now + 130

abbrev pub decreases-selects::limit_of : goal.decreases-selects::limit_of
decreases-selects::limit_of l = 256 * length l.tokens.now + 130

abbrev pub decreases-selects::order_of : goal.decreases-selects::order_of
decreases-selects::order_of l = 256 * length l.tokens.now + 130

abbrev pub decreases-selects::keys_of : goal.decreases-selects::keys_of
decreases-selects::keys_of l = 256 * length l.tokens.now + 121

abbrev pub decreases-selects::key_of : goal.decreases-selects::key_of
decreases-selects::key_of l = 256 * length l.tokens.now + 120

abbrev pub decreases-primaries::exists : goal.decreases-primaries::exists
decreases-primaries::exists l = 256 * length l.tokens.now + 1

abbrev pub invariant-selects::selects_of-loop-found : goal.invariant-selects::selects_of-loop-found
invariant-selects::selects_of-loop-found l = record { begun : SelectsLead l.fn.tokens l.found l.tokens; shrinks : length l.tokens ≤ length l.fn.tokens }

abbrev pub decreases-selects::selects_of-loop-found : goal.decreases-selects::selects_of-loop-found
decreases-selects::selects_of-loop-found l = length l.tokens

abbrev pub invariant-selects::items_of-loop-found : goal.invariant-selects::items_of-loop-found
invariant-selects::items_of-loop-found l = record { begun : ItemsLead l.fn.tokens l.found l.tokens; shrinks : length l.tokens ≤ length l.fn.tokens }

abbrev pub decreases-selects::items_of-loop-found : goal.decreases-selects::items_of-loop-found
decreases-selects::items_of-loop-found l = length l.tokens

abbrev pub invariant-selects::from_items_of-loop-found : goal.invariant-selects::from_items_of-loop-found
invariant-selects::from_items_of-loop-found l = record { begun : FromLead l.fn.tokens l.found l.tokens; shrinks : length l.tokens ≤ length l.fn.tokens }

abbrev pub decreases-selects::from_items_of-loop-found : goal.decreases-selects::from_items_of-loop-found
decreases-selects::from_items_of-loop-found l = length l.tokens

abbrev pub invariant-selects::keys_of-loop-found : goal.invariant-selects::keys_of-loop-found
invariant-selects::keys_of-loop-found l = record { begun : KeysLead l.fn.tokens l.found l.tokens; shrinks : length l.tokens ≤ length l.fn.tokens }

abbrev pub decreases-selects::keys_of-loop-found : goal.decreases-selects::keys_of-loop-found
decreases-selects::keys_of-loop-found l = length l.tokens
