use Rattle.std.proofs.Common.{rules, ◌≡◌, ◌∙◌, ap, ◌<◌, ◌^◌, length}
use Rattle.away_types.specs.CheckedQueries.{resolved_query}
use Rattle.sql_meaning.specs.Names.{bare}
use Rattle.unrolling.proofs.SameTrees.{same_forms}
use Rattle.unrolling.proofs.unroller.in_turns.Goals as goal

pub returns-clause-equivalent : goal.returns-clause-equivalent
returns-clause-equivalent c = λ written checked.
    let s = c.args.s.now.schema in
    let f = c.args.f.now.function in
    let slots = c.args.f.now.slots in
    let few : length s.tables < 2 ^ 64 = search rules in
    let x = c.requires in
    let t = x.stands in
    let q = resolved_query s c.in_ok-query.field-0.query in
    let same : bare q ≡ bare c.args.tree = c.in_ok-query.ensures.resolves.is_tree ∙ ap bare c.get.ensures in
    record {
      turns = t.choices.turns;
      some = t.some;
      few = t.few;
      equivalent = c.forms_in_turns_are_equivalent.ensures s written x.goto x.ssa x.anf x.tail t.choices q checked few t.some
          (same_forms s f slots x.goto x.ssa x.anf x.tail t.choices q c.args.tree same t.forms);
    }
