use Rattle.cte_prints.proofs.Again.{trees_read}
use Rattle.cte_prints.proofs.texts.trees_read_again.Goals as goal

pub returns : goal.returns
returns c =
    trees_read c.queries_break_no_rule_of_types.ensures.unbroken c.queries_break_no_rule_of_types.ensures.typed
    c.marks_are_found_again.ensures.whole c.marks_change_no_other_thing.ensures.names c.queries_can_be_written.ensures
