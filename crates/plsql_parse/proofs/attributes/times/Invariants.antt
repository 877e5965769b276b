use Rattle.std.proofs.Common.{◌≡◌, ◌≤◌, take}
use Rattle.away_grammar.specs.FunctionGrammar as g
use Rattle.plsql_parse.specs.HeaderRead.{of_group}
use Rattle.plsql_parse.proofs.attributes.times.Given as goal

abbrev pub invariant-loop-attribute : goal.invariant-loop-attribute
invariant-loop-attribute l = record {
  few : l.count ≤ l.attribute-index;
  counted : l.count ≡ g.times (of_group l.group) (take l.attribute-index l.found);
}
