use Rattle.std.proofs.Common.{ap, inl, refl, [], string_bytes, ◌<◌, ◌^◌, length, rules}
use Rattle.away_top.specs.Files.{as_callable}
use Rattle.away_top.specs.Steps.{run_end}
use Rattle.away_top.proofs.InlineRuns.{refused_so}
use Rattle.away_top.proofs.inline.written.Goals as goal

pub returns-in-Ok : goal.returns-in-Ok
returns-in-Ok c =
    let s = c.args.tables.now.schema in
    let f = c.args.function.now.function in
    let forms = c.in_ok-compiled.compiled.cert in
    let compiled = c.in_ok-compiled.ensures.compiled in
    let few : length s.tables < 2 ^ 64 = search rules in
    let text = c.requires.has_text in (
      string_bytes c.in-Ok.inlined.text,
      inl (
        record {
          forms = forms;
          are = record { one = c.in_ok-compiled.compiled.query; text = string_bytes c.in_ok-compiled.compiled.text; compiled = compiled };
          query = c.in-Ok.inlined.query;
          inlined = c.in-Ok.ensures.ok;
          answers = λ given checked.
              c.inlined_queries_answer.ensures s given forms _ c.args.calling.now c.in-Ok.inlined.query text.0 (string_bytes c.in-Ok.inlined.text) checked few
              compiled.accepted text.1 c.in-Ok.ensures.ok;
        },
        (refl, ap (λ v. v.items) c.into_bytes.ensures.value),
      ),
    )

pub returns : goal.returns
returns c =
    let forms = c.in_ok-compiled.compiled.cert in (
      [],
      refused_so c.args.query.now c.args.func.now c.args.tables.now.schema c.args.calling.now (as_callable c.args.function.now) [] c.in-Err.error (run_end c.refused_calls.result)
          (record {
            forms = forms;
            are = record { one = c.in_ok-compiled.compiled.query; text = string_bytes c.in_ok-compiled.compiled.text; compiled = c.in_ok-compiled.ensures.compiled };
            refuses = c.in-Err.ensures.err;
          })
          c.refused_calls.ensures,
    )
