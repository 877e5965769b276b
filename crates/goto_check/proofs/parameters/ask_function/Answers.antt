use Rattle.std.proofs.Common.{◌≡◌, false, [], ◌∷◌, ◌++◌, ap, ◌∙◌}
use Rattle.plsql_meaning.specs.Outcomes.{no_return}
use Rattle.block_forms.specs.Laid.{laid, place}
use Rattle.block_forms.specs.Lowered.{params_parts, body_place}
use Rattle.block_forms.specs.Patterns.{shared, jumps, fails}
use Rattle.goto_check.specs.Asking.{setting_in}
use Rattle.goto_check.specs.AnswerRuns.{answer_run}
use Rattle.goto_check.specs.Room.{here}
use Rattle.goto_check.proofs.AnswerRules.{two}
use Rattle.goto_check.proofs.parameters.ask_function.Goals as goal

pub returns : goal.returns
returns c =
    let s = setting_in c.args.a.now in
    let g = c.args.a.now.goto.now in
    let f = c.args.f.now in
    let at : here c.spot_of-body.result ≡ body_place f = c.spot_of-body.ensures ∙ ap (λ k. place k 0 k 0 0) c.len-many.ensures in
    let E = shared g.entry (jumps false c.node-start.result) in
    let F = shared g.finish (fails no_return) in
    let P = params_parts s f.strict f.result 0 c.as_slice.result.now in
    let B = (laid f.body).parts s (here c.spot_of-body.result) [] g.finish in
    two c.args.a.now (E ∷ []) (F ∷ (P ++ B)) _ _ _ c.ask_shared-entry.ensures
    (two c.args.a.now (F ∷ []) (P ++ B) _ _ _ c.ask_shared-end.ensures (two c.args.a.now P B _ _ _ c.ask_params-params.ensures c.ask_statement-inside.ensures.run c.join.ensures) c.join-2.ensures) c.join-3.ensures
    ∙ (λ i. answer_run c.args.a.now (shared g.entry (jumps false (c.node-start.ensures i)) ∷ F ∷ (params_parts s f.strict f.result 0 (c.as_slice.ensures i) ++ (laid f.body).parts s (at i) [] g.finish)))
