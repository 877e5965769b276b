use Rattle.std.proofs.Common.{map, string_bytes, subst}
use Rattle.away_top.specs.Commands.{course}
use Rattle.away_top.specs.Runs.{ended, Runs}
use Rattle.away_top.specs.Steps.{halt_end}
use Rattle.away_top.proofs.Deliveries.{given_is}
use Rattle.away_top.proofs.top.run_and_deliver.Goals as goal

pub returns-in-Ok : goal.returns-in-Ok
returns-in-Ok g c = record {
  text = c.in-Ok.ensures.text;
  end = ended c.in-Ok.ending.status c.in-Ok.ending.output.items;
  ran = c.in-Ok.ensures.follows;
  delivered = given_is g.S.Sink c.args.out.now c.deliver.new.out c.deliver.result c.in-Ok.ending.status c.deref.result.now c.in-Ok.ending.output.items c.deref.ensures.value c.deliver.ensures;
}

pub returns-in-Err-Ended : goal.returns-in-Err-Ended
returns-in-Err-Ended g c =
    let run = subst (λ h. Runs g.F.Files c.args.files.now (course (map string_bytes c.args.words.now)) c.run.new.files (halt_end h)) c.in-Err-Ended.field-0-is c.in-Err-Ended.ensures in
    record {
      text = run.text;
      end = ended c.in-Err-Ended.ending.status c.in-Err-Ended.ending.output.items;
      ran = run.follows;
      delivered = given_is g.S.Sink c.args.out.now c.deliver-in-Err-Ended.new.out c.deliver-in-Err-Ended.result c.in-Err-Ended.ending.status c.deref-in-Err-Ended.result.now
          c.in-Err-Ended.ending.output.items c.deref-in-Err-Ended.ensures.value c.deliver-in-Err-Ended.ensures;
    }
