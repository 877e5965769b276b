use Rattle.std.proofs.Common.{sym, ap, ◌∙◌}
use Rattle.block_forms.specs.Lowered.{params_parts, param_parts}
use Rattle.goto_check.specs.Asking.{setting_in}
use Rattle.goto_check.specs.AnswerRuns.{answer_run}
use Rattle.goto_check.proofs.AnswerRules.{two, none}
use Rattle.goto_check.proofs.Lists.{first_rest, is_nil}
use Rattle.goto_check.proofs.parameters.+ask_params.Goals as goal

pub returns-in-empty : goal.returns-in-empty
returns-in-empty t c = sym (none c.args.a.now) ∙ ap (λ l. answer_run c.args.a.now (params_parts (setting_in c.args.a.now) c.args.strict c.args.result_type c.args.k l)) (sym (is_nil c.args.params.now c.in-empty.len_below))

pub returns-in-len1-up : goal.returns-in-len1-up
returns-in-len1-up t c =
    let e = first_rest c.args.params.now c.p-item.result c.in-len1-up.len_at_least c.p-item.is in
    two c.args.a.now (param_parts (setting_in c.args.a.now) c.args.strict c.args.result_type c.args.k c.p-item.result.1) _ _ _ _ c.ask_param.ensures c.ask_params.ensures c.join.ensures
    ∙ ap (λ l. answer_run c.args.a.now (params_parts (setting_in c.args.a.now) c.args.strict c.args.result_type c.args.k l)) (sym e)
