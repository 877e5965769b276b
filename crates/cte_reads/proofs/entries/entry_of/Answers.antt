use Rattle.std.proofs.Common.{ap, ◌∙◌}
use Rattle.tree_events.proofs.ReadSlots.{slots_are}
use Rattle.tree_events.specs.SlotsRead.{slots_in}
use Rattle.sql_meaning.specs.Reads.{first_occurrences}
use Rattle.cte_reads.proofs.entries.entry_of.Goals as goal

pub returns : goal.returns
returns c =
    record {
      events = c.in_ok-expr_events.ensures;
      slots = c.in_ok-slots.ensures ∙ (ap (λ s. first_occurrences (slots_in s)) (c.as_slice.ensures ∙ c.in_ok-read.ensures) ∙ slots_are c.args.e.now);
      null = c.is_null.ensures;
    }
