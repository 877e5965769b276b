use Rattle.std.proofs.Common.{◌≡◌, ◌-◌, ◌++◌, length, take, drop, sym, ap, ◌∙◌}
use Rattle.block_forms.specs.Laid.{after, decl_size, decls_parts, decl_parts}
use Rattle.goto_check.specs.Asking.{setting_in}
use Rattle.goto_check.specs.AnswerRuns.{answer_run}
use Rattle.goto_check.specs.Room.{here}
use Rattle.goto_check.proofs.AnswerRules.{two, none}
use Rattle.goto_check.proofs.Lists.{first_rest, is_nil}
use Rattle.goto_check.proofs.leaves.+ask_decls.Goals as goal

pub returns-in-empty : goal.returns-in-empty
returns-in-empty t c = sym (none c.args.a.now) ∙ ap (λ l. answer_run c.args.a.now (decls_parts (setting_in c.args.a.now) l (here c.args.p) c.args.next)) (sym (is_nil c.args.decls.now c.in-empty.len_below))

pub returns-in-len1-up : goal.returns-in-len1-up
returns-in-len1-up t c =
    let e = first_rest c.args.decls.now c.d-item.result c.in-len1-up.len_at_least c.d-item.is in
    let rest = take (length c.args.decls.now - 1) (drop 1 c.args.decls.now) in
    let at : here c.after.result ≡ after (here c.args.p) (decl_size c.d-item.result) = c.after.ensures ∙ ap (λ z. after (here c.args.p) z) c.decl_size.ensures in
    two c.args.a.now (decl_parts (setting_in c.args.a.now) c.d-item.result (here c.args.p) c.first_block.result) (decls_parts (setting_in c.args.a.now) rest (here c.after.result) c.args.next) _ _ _ c.ask_decl.ensures c.ask_decls.ensures c.join.ensures
    ∙ ((λ i. answer_run c.args.a.now (decl_parts (setting_in c.args.a.now) c.d-item.result (here c.args.p) (c.first_block.ensures i) ++ decls_parts (setting_in c.args.a.now) rest (at i) c.args.next)) ∙ ap (λ l. answer_run c.args.a.now (decls_parts (setting_in c.args.a.now) l (here c.args.p) c.args.next)) (sym e))
