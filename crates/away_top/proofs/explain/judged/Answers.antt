use Rattle.std.proofs.Common.{[], subst, sym}
use Rattle.std.proofs.lemmas.Result.{err_from_is_err_and}
use Rattle.away_types.specs.FunctionChecks.{function_note}
use Rattle.away_types.specs.Refusals.{RefusesFunction}
use Rattle.away_top.specs.Refusals.{ReadsAsFunction}
use Rattle.away_top.specs.Steps.{run_end}
use Rattle.away_top.proofs.Explaining.{counted_so}
use Rattle.away_top.proofs.explain.judged.Goals as goal

pub counted-requires : goal.counted-requires
counted-requires c =
    let reads = c.requires.reads in
    record {
      texts = record {
        written = c.args.function;
        limits = c.requires.limits;
        checked = c.in-Ok.ensures.ok;
        function_text = c.args.bytes.now;
        function_fits = reads.may_be_read;
        reads_function = reads.reads;
      };
    }

pub returns-in_err-head : goal.returns-in_err-head
returns-in_err-head c =
    let p = err_from_is_err_and c.from_residual.result c.from_residual.ensures.1 in
    rw (p.1, p.2) ([], tt)

pub returns-in_err-written : goal.returns-in_err-written
returns-in_err-written c =
    let p = err_from_is_err_and c.from_residual-in_err-written.result c.from_residual-in_err-written.ensures.1 in
    rw (p.1, p.2) ([], tt)

pub returns-in-Ok : goal.returns-in-Ok
returns-in-Ok c =
    counted_so c.args.func.now c.args.tables.now.schema c.args.bytes.now c.args.function c.requires.reads c.in_ok-head.head c.in_ok-head.ensures c.in-Ok.checked (run_end c.counted.result) c.in-Ok.ensures.ok c.counted.ensures

pub refused_by-requires-clause-reads : goal.refused_by-requires-clause-reads
refused_by-requires-clause-reads c = subst (ReadsAsFunction c.args.bytes.now) (sym c.in_ok-written.ensures) c.requires.reads

pub refused_by-requires-clause-refuses : goal.refused_by-requires-clause-refuses
refused_by-requires-clause-refuses c =
    subst (λ f. RefusesFunction (function_note c.args.tables.now.schema f) c.in-Err.refusal) (sym c.in_ok-written.ensures) c.in-Err.ensures.err

pub returns : goal.returns
returns c = c.refused_by.ensures
