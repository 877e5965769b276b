use Rattle.std.proofs.Common.{arith}
use Rattle.away_trees.specs.Count.{weight}
use Rattle.away_trees.specs.Fits.{FitsSchema}
use Rattle.away_types.specs.CheckedQueries.{resolved_query}
use Rattle.away_types.specs.TypedSlots.{typed_slots}
use Rattle.plsql_meaning.specs.Equivalent.{answers, types_of}
use Rattle.sql_meaning.specs.Typed.{AreTyped}
use Rattle.unrolling.proofs.OneTurn.{in_one_turn}
use Rattle.unrolling.proofs.unroller.compiled.Goals as goal

pub returns-clause-equivalent : goal.returns-clause-equivalent
returns-clause-equivalent c = λ written checked.
    let s = c.args.s.now.schema in
    let f = c.args.f.now.function in
    let slots = c.args.f.now.slots in
    record {
      turns = 1;
      some = omega arith;
      few = omega arith;
      equivalent = in_one_turn (FitsSchema s) (AreTyped (types_of f)) (weight f) (answers f (typed_slots slots)) (resolved_query s c.in_ok-query.field-0.query)
          (c.in_ok-query.ensures.equivalent written checked);
    }
