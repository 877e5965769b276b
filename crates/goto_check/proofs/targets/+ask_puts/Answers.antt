use Rattle.std.proofs.Common.{◌≡◌, ◌+◌, ◌-◌, ◌++◌, length, take, drop, sym, ap, ◌∙◌}
use Rattle.block_forms.specs.Patterns.{onward, put_part, put_parts, after_put}
use Rattle.goto_check.specs.Asking.{numbers_in}
use Rattle.goto_check.specs.AnswerRuns.{answer_run}
use Rattle.goto_check.proofs.AnswerRules.{two, none}
use Rattle.goto_check.proofs.Lists.{first_rest, is_nil}
use Rattle.goto_check.proofs.targets.+ask_puts.Goals as goal

pub returns-in-empty : goal.returns-in-empty
returns-in-empty t c =
    let a = c.args.a.now in
    sym (none a) ∙ ap (λ l. answer_run a (put_parts a.goto.now (numbers_in a) a.slots.now l c.args.b c.args.hidden c.args.next)) (sym (is_nil c.args.targets.now c.in-empty.len_below))

pub returns-in-len1-up : goal.returns-in-len1-up
returns-in-len1-up t c =
    let a = c.args.a.now in
    let g = a.goto.now in
    let n = numbers_in a in
    let slots = a.slots.now in
    let ts = c.args.targets.now in
    let e = first_rest ts c.t-item.result c.in-len1-up.len_at_least c.t-item.is in
    let rest = take (length ts - 1) (drop 1 ts) in
    let target = c.t-item.result.1 in
    let then = c.after_put-then.result in
    let next : c.onward.result ≡ onward rest (after_put g n slots target c.args.b) c.args.next = c.onward.ensures ∙ ap (λ b. onward rest b c.args.next) c.after_put-then.ensures in
    two a (put_part g n slots target c.args.b c.args.hidden c.onward.result) (put_parts g n slots rest then (c.args.hidden + 1) c.args.next) _ _ _ c.ask_put.ensures c.ask_puts.ensures c.join.ensures
    ∙ ((λ i. answer_run a (put_part g n slots target c.args.b c.args.hidden (next i) ++ put_parts g n slots rest (c.after_put-then.ensures i) (c.args.hidden + 1) c.args.next))
    ∙ ap (λ l. answer_run a (put_parts g n slots l c.args.b c.args.hidden c.args.next)) (sym e))
