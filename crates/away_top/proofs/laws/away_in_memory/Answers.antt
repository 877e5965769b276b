use Rattle.std.proofs.Common.{map, string_bytes}
use Rattle.away_top.specs.Commands.{course}
use Rattle.away_top.proofs.BatchesInMemory.{batched}
use Rattle.away_top.proofs.ChecksInMemory as checks
use Rattle.away_top.proofs.DemosInMemory as demos
use Rattle.away_top.proofs.EndsInMemory.{absent_sure, each_sure, in_room, unread}
use Rattle.away_top.proofs.FormatsInMemory as formats
use Rattle.away_top.proofs.InMemory.{translated}
use Rattle.away_top.proofs.RunsInMemory.{run_told}
use Rattle.away_top.proofs.ExpandsInMemory as expands
use Rattle.away_top.proofs.ExplainsInMemory as explains
use Rattle.away_top.proofs.InlinesInMemory as inlines
use Rattle.away_top.proofs.UnrolledInMemory as unrolleds
use Rattle.away_top.proofs.UnrollsInMemory as unrolls
use Rattle.away_top.proofs.UntailsInMemory as untails
use Rattle.away_top.proofs.laws.away_in_memory.Goals as goal

pub returns-clause-every : goal.returns-clause-every
returns-clause-every c = λ no_failure none.
    let a = c.away.ensures.answer in (
      a.run.text,
      in_room c.args.out.now c.away.new.out c.away.result _ _ (λ status output whole. (whole.status_is, whole.written)) none
          (a.complete (each_sure c.args.files.now no_failure (course (map string_bytes c.args.words.now) a.run.text))),
    )

pub returns-clause-missing : goal.returns-clause-missing
returns-clause-missing c = λ name begins absent none.
    let a = c.away.ensures.answer in
    let path = course (map string_bytes c.args.words.now) a.run.text in
    unread c.args.files.now name absent path (begins a.run.text) c.args.out.now c.away.new.out c.away.result
    (in_room c.args.out.now c.away.new.out c.away.result _ _ (λ status output whole. (whole.status_is, whole.written)) none
    (a.complete (absent_sure c.args.files.now name absent path (begins a.run.text))))

pub returns-clause-compile : goal.returns-clause-compile
returns-clause-compile c = λ wanted tables function may none.
    let ended = returns-clause-every c may.no_failure none in
    translated c.args.files.now wanted c.args.out.now c.away.new.out (map string_bytes c.args.words.now) ended.0 tables function c.away.result may ended.1

pub returns-clause-batch : goal.returns-clause-batch
returns-clause-batch c = λ tables function table may none.
    let ended = returns-clause-every c may.no_failure none in
    batched c.args.files.now (map string_bytes c.args.words.now) tables function table may c.args.out.now c.away.new.out ended.0 c.away.result ended.1

pub returns-clause-check : goal.returns-clause-check
returns-clause-check c = λ schema func query cert tables function asked forms is may none.
    let ended = returns-clause-every c may.no_failure none in
    checks.judged c.args.files.now schema func query cert tables function asked forms may c.args.out.now c.away.new.out (map string_bytes c.args.words.now) ended.0 c.away.result is ended.1

pub returns-clause-format : goal.returns-clause-format
returns-clause-format c = λ func function is may none.
    let ended = returns-clause-every c may.no_failure none in
    formats.formatted c.args.files.now func function may c.args.out.now c.away.new.out (map string_bytes c.args.words.now) ended.0 c.away.result is ended.1

pub returns-clause-untail : goal.returns-clause-untail
returns-clause-untail c = λ schema func tables function is may none.
    let ended = returns-clause-every c may.no_failure none in
    untails.untailed c.args.files.now schema func tables function may c.args.out.now c.away.new.out (map string_bytes c.args.words.now) ended.0 c.away.result is ended.1

pub returns-clause-expand : goal.returns-clause-expand
returns-clause-expand c = λ schema main tables others functions is may none.
    let ended = returns-clause-every c may.no_failure none in
    expands.expanded c.args.files.now schema main tables others functions may c.args.out.now c.away.new.out (map string_bytes c.args.words.now) ended.0 c.away.result is ended.1

pub returns-clause-inline : goal.returns-clause-inline
returns-clause-inline c = λ schema query func tables calling function is may none.
    let ended = returns-clause-every c may.no_failure none in
    inlines.inlined c.args.files.now schema query func tables calling function may c.args.out.now c.away.new.out (map string_bytes c.args.words.now) ended.0 c.away.result is ended.1

pub returns-clause-unroll : goal.returns-clause-unroll
returns-clause-unroll c = λ turns schema func tables function is may none.
    let ended = returns-clause-every c may.no_failure none in
    unrolls.unrolled c.args.files.now turns schema func tables function may c.args.out.now c.away.new.out (map string_bytes c.args.words.now) ended.0 c.away.result is ended.1

pub returns-clause-unrolled : goal.returns-clause-unrolled
returns-clause-unrolled c = λ bound turns schema func dir args is may none.
    let ended = returns-clause-every c may.no_failure none in
    unrolleds.told c.args.files.now c.args.out.now c.away.new.out (map string_bytes c.args.words.now) ended.0 bound turns schema func dir args c.away.result is may ended.1

pub returns-clause-explain : goal.returns-clause-explain
returns-clause-explain c = λ schema func tables function is may none.
    let ended = returns-clause-every c may.no_failure none in
    explains.explained c.args.files.now schema func tables function may c.args.out.now c.away.new.out (map string_bytes c.args.words.now) ended.0 c.away.result is ended.1

pub returns-clause-demo : goal.returns-clause-demo
returns-clause-demo c = λ word is spells none.
    let a = c.away.ensures.answer in
    demos.shown c.args.files.now c.args.out.now c.away.new.out (map string_bytes c.args.words.now) a.run.text word c.away.result is spells
    (in_room c.args.out.now c.away.new.out c.away.result _ _ (λ status output whole. (whole.status_is, whole.written)) none
    (a.complete (demos.all_sure c.args.files.now (map string_bytes c.args.words.now) a.run.text word is)))

pub returns-clause-run : goal.returns-clause-run
returns-clause-run c = λ what bound schema file dir args is may none.
    let ended = returns-clause-every c may.no_failure none in
    run_told what c.args.files.now c.args.out.now c.away.new.out (map string_bytes c.args.words.now) ended.0 bound schema file dir args c.away.result is may ended.1
