use Rattle.elaboration_law.proofs.Typed.{kind_is, kinds_are, shape_is}
use Rattle.elaboration_law.proofs.laws.marked_trees_have_the_types_found.Goals as goal

pub returns : goal.returns
returns c = record { expr = kind_is; select = kinds_are; query = shape_is }
