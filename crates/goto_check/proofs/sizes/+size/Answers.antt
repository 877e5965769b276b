use Rattle.std.proofs.Common.{rules, arith}
use Rattle.away_trees.specs.declared.statements.Stmt.{the_lemmas}
use Rattle.goto_check.proofs.Equations.{laid_rules}
use Rattle.goto_check.proofs.sizes.+size.Goals as goal

pub size_of-size_of_row-requires : goal.size_of-size_of_row-requires
size_of-size_of_row-requires t c = (search (rules, the_lemmas), grind (arith, laid_rules))

pub size_of-size_of_row-requires-in-Loop : goal.size_of-size_of_row-requires-in-Loop
size_of-size_of_row-requires-in-Loop t c = (search (rules, the_lemmas), grind (arith, laid_rules))

pub size_of-size_of_arms-requires : goal.size_of-size_of_arms-requires
size_of-size_of_arms-requires t c = (search (rules, the_lemmas), grind (arith, laid_rules))

pub size_of-size_of_row-requires-in-Some-other : goal.size_of-size_of_row-requires-in-Some-other
size_of-size_of_row-requires-in-Some-other t c = (search (rules, the_lemmas), grind (arith, laid_rules))

pub size_of_arm-size_of_row-requires : goal.size_of_arm-size_of_row-requires
size_of_arm-size_of_row-requires t c = (search (rules, the_lemmas), grind (arith, laid_rules))
