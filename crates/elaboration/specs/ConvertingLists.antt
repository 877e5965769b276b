-- Statements in a row, converted, and what the code's places are, for the contracts of loops.
use Rattle.std.specs.Prelude.{List, map, Option, option_map}
use Rattle.away_trees.specs.declared.statements.Arm.{Arm}
use Rattle.away_trees.specs.declared.statements.Stmt.{Stmt}
use Rattle.away_typing.specs.TypingLists.{places}
use Rattle.elaboration.specs.declared.converting.Around.{Around as Here}
use Rattle.elaboration.specs.Converting.{Around, converted, converted_arm}

abbrev pub around : Here → Around
around a = record { places = places a.places; result = a.result; counter = a.counter }

abbrev pub body_in : Around → List Stmt → List Stmt
body_in a = map (converted a)

abbrev pub arms_in : Around → List Arm → List Arm
arms_in a = map (converted_arm a)

abbrev pub other_in : Around → Option (List Stmt) → Option (List Stmt)
other_in a = option_map (body_in a)
