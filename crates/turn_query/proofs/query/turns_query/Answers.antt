use Rattle.std.proofs.Common.{false, refl, ◌∙◌, IfSome}
use Rattle.cte_parts.proofs.Results.{ok_by}
use Rattle.turn_terms.specs.declared.writer.Writer.{Writer}
use Rattle.turn_query.specs.FilledTurns.{IsFitting}
use Rattle.turn_query.specs.TurnsQuery.{IsTurnsQuery}
use Rattle.turn_query.proofs.Makings.{may_be_turns_query}
use Rattle.turn_query.proofs.query.turns_query.Goals as goal

pub returns : goal.returns
returns c =
    let f = c.args.f.now in
    let g = c.args.goto.now in
    let z = c.args.ssa.now in
    let a = c.args.anf.now in
    let x = c.args.x.now in
    let w : Writer = record {
      table = c.as_slice.result;
      slots = c.as_slice-2.result;
      names = c.as_slice-3.result;
      result = f.function.result;
      columns = c.as_slice-4.result;
      alone = false;
    } in
    ok_by c.fitting_query.result (λ found. IfSome found (IsFitting w a x g.entry c.args.tables c.args.turns))
    (λ found. IfSome found (IsTurnsQuery f.function f.slots g z a x c.args.tables c.args.turns))
    (λ found h. may_be_turns_query f.function f.slots g z a x c.args.tables c.args.turns w (c.as_slice.ensures ∙ c.requires.entries) c.as_slice-2.ensures
    c.as_slice-3.ensures refl c.as_slice-4.ensures found h) c.fitting_query.ensures
