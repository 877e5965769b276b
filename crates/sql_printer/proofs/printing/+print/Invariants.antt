use Rattle.std.proofs.Common.{drop, map}
use Rattle.away_trees.specs.Algebra.{from_of, item_of, key_of, select_of}
use Rattle.away_grammar.specs.Printing.{arms_terminals, links_terminals, placed, printed, printing}
use Rattle.away_grammar.specs.declared.grammar.Level.TheVariants as level
use Rattle.sql_printer.specs.PrintedTerminals.{arm_printed, each_before, link_printed}
use Rattle.sql_printer.proofs.Adding.{CommasLead, Leads, UnionsLead, union}
use Rattle.sql_printer.proofs.printing.+print.Given as goal

abbrev pub invariant-add_terms-loop-select : goal.invariant-add_terms-loop-select
invariant-add_terms-loop-select l = Leads (each_before union (map (select_of printing) l.selects)) l.initial.terminals (each_before union (map (select_of printing) (drop l.select-index l.selects))) l.terminals

abbrev pub invariant-add_selects-loop-index : goal.invariant-add_selects-loop-index
invariant-add_selects-loop-index l = UnionsLead (select_of printing) l.selects l.initial.terminals l.index l.terminals

abbrev pub invariant-add_items-loop-index : goal.invariant-add_items-loop-index
invariant-add_items-loop-index l = CommasLead (item_of printing) l.items l.initial.terminals l.index l.terminals

abbrev pub invariant-add_from-loop-index : goal.invariant-add_from-loop-index
invariant-add_from-loop-index l = CommasLead (from_of printing) l.items l.initial.terminals l.index l.terminals

abbrev pub invariant-add_order-loop-index : goal.invariant-add_order-loop-index
invariant-add_order-loop-index l = CommasLead (key_of printing) l.keys l.initial.terminals l.index l.terminals

abbrev pub invariant-add_list-loop-index : goal.invariant-add_list-loop-index
invariant-add_list-loop-index l = CommasLead (λ x. placed level.Or (printed x)) l.list l.initial.terminals l.index l.terminals

abbrev pub invariant-add_links-loop-op : goal.invariant-add_links-loop-op
invariant-add_links-loop-op l = Leads (links_terminals l.level (map link_printed l.links)) l.initial.terminals (links_terminals l.level (map link_printed (drop l.op-index l.links))) l.terminals

abbrev pub invariant-add_arms-loop-condition : goal.invariant-add_arms-loop-condition
invariant-add_arms-loop-condition l = Leads (arms_terminals (map arm_printed l.arms)) l.initial.terminals (arms_terminals (map arm_printed (drop l.condition-index l.arms))) l.terminals
