use Rattle.std.proofs.Common.{map, rules, string_bytes}
use Rattle.std.proofs.lemmas.Result.{err_from_is_err_and}
use Rattle.away_top.proofs.FunctionSteps.{functions_end, functions_more, functions_stop, functions_want, grown_by, grown_first, main_read, main_stops, main_wants, named_at, no_word_past}
use Rattle.away_top.proofs.KeptLimits.{keep_first, keep_more}
use Rattle.away_top.proofs.expand.functions_of.Goals as goal

pub returns-in_err-function_read-clause-follows : goal.returns-in_err-function_read-clause-follows
returns-in_err-function_read-clause-follows g c =
    let p = err_from_is_err_and c.from_residual.result c.from_residual.ensures.1 in
    rw (p.1, p.2) (main_stops g.F.Files c.args.main.now (map string_bytes c.args.others.now) c.args.files.now c.function_read.new.files c.in_err-function_read.field-0.0 c.in_err-function_read.ensures.follows)

pub returns-in_err-push-clause-follows : goal.returns-in_err-push-clause-follows
returns-in_err-push-clause-follows g c =
    let p = err_from_is_err_and c.from_residual-in_err-push.result c.from_residual-in_err-push.ensures.1 in
    rw (p.1, p.2) (main_wants g.F.Files c.args.main.now (map string_bytes c.args.others.now) c.args.files.now c.function_read.new.files c.in_ok-function_read.field-0 c.in_ok-function_read.ensures.follows)

pub loop-i-init : goal.loop-i-init
loop-i-init g c =
    let f = c.in_ok-function_read.field-0 in
    let all = c.push.new.self in
    let one = grown_first all c.new-list.result c.into_inner.result f c.in_ok-push.ensures.ok c.new-list.ensures c.into_inner.ensures in (
      main_read g.F.Files c.args.main.now (map string_bytes c.args.others.now) c.args.files.now c.function_read.new.files f all one c.in_ok-function_read.ensures.follows,
      keep_first f all one c.in_ok-function_read.ensures.limits,
    )

pub returns-in_err-function_read-2-clause-follows : goal.returns-in_err-function_read-2-clause-follows
returns-in_err-function_read-2-clause-follows g c =
    let p = err_from_is_err_and c.from_residual-in_err-function_read-2.result c.from_residual-in_err-function_read-2.ensures.1 in
    let name = c.as_str.result.now in
    let at = named_at string_bytes c.args.others.now c.loop-i.i c.index-others-i.result name c.loop-i-test.true (search rules) c.as_str.ensures.value in
    rw (p.1, p.2) (functions_stop g.F.Files c.args.main.now (map string_bytes c.args.others.now) c.args.files.now c.loop-i.files c.loop-i.i c.loop-i.list c.loop-i.invariant.0 name at
    c.function_read-in-loop-i.new.files c.in_err-function_read-2.field-0.0 c.in_err-function_read-2.ensures.follows)

pub returns-in_err-push-2-clause-follows : goal.returns-in_err-push-2-clause-follows
returns-in_err-push-2-clause-follows g c =
    let p = err_from_is_err_and c.from_residual-in_err-push-2.result c.from_residual-in_err-push-2.ensures.1 in
    let name = c.as_str.result.now in
    let at = named_at string_bytes c.args.others.now c.loop-i.i c.index-others-i.result name c.loop-i-test.true (search rules) c.as_str.ensures.value in
    rw (p.1, p.2) (functions_want g.F.Files c.args.main.now (map string_bytes c.args.others.now) c.args.files.now c.loop-i.files c.loop-i.i c.loop-i.list c.loop-i.invariant.0 name at
    c.function_read-in-loop-i.new.files c.in_ok-function_read-2.field-0 c.in_ok-function_read-2.ensures.follows)

pub loop-i-preserved : goal.loop-i-preserved
loop-i-preserved g c =
    let f = c.in_ok-function_read-2.field-0 in
    let all = c.push-in-loop-i.new.self in
    let grown = grown_by all c.loop-i.list c.into_inner-in-loop-i.result f c.in_ok-push-2.ensures.ok c.into_inner-in-loop-i.ensures in
    let name = c.as_str.result.now in
    let at = named_at string_bytes c.args.others.now c.loop-i.i c.index-others-i.result name c.loop-i-test.true (search rules) c.as_str.ensures.value in (
      functions_more g.F.Files c.args.main.now (map string_bytes c.args.others.now) c.args.files.now c.loop-i.files c.loop-i.i c.loop-i.list c.loop-i.invariant.0 name at
          c.function_read-in-loop-i.new.files f c.in_ok-function_read-2.ensures.follows all grown,
      keep_more c.loop-i.list f all grown c.loop-i.invariant.1 c.in_ok-function_read-2.ensures.limits,
    )

pub returns-clause-follows : goal.returns-clause-follows
returns-clause-follows g c =
    functions_end g.F.Files c.args.main.now (map string_bytes c.args.others.now) c.args.files.now c.loop-i.files c.loop-i.i c.loop-i.list c.loop-i.invariant.0
    (no_word_past string_bytes c.args.others.now c.loop-i.i c.loop-i-test.false)
