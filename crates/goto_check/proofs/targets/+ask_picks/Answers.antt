use Rattle.std.proofs.Common.{◌≡◌, ℕ, ◌+◌, ◌-◌, ◌≤◌, List, [], ◌∷◌, length, take, drop, sym, ap, ◌∙◌, arith}
use Rattle.std.proofs.lemmas.List.{take_rest}
use Rattle.away_trees.specs.declared.queries.Select.{Select}
use Rattle.select_into.specs.Entries.{Target}
use Rattle.block_forms.specs.declared.places.Numbers.{Numbers}
use Rattle.block_forms.specs.declared.forms.Goto.{Goto}
use Rattle.block_forms.specs.Patterns.{own, sets, node, onward, select_term, pick_parts}
use Rattle.goto_check.specs.Asking.{numbers_in}
use Rattle.goto_check.specs.AnswerRuns.{answer_run}
use Rattle.goto_check.specs.Wanted.{wanted}
use Rattle.goto_check.proofs.AnswerRules.{two, none}
use Rattle.goto_check.proofs.Lists.{is_nil}
use Rattle.goto_check.proofs.targets.+ask_picks.Goals as goal

first_pick : (g : Goto) (n : Numbers) (ts : List Target) (i k hidden : ℕ) (q : Select) (puts : ℕ) → 1 ≤ length ts →
    own (node g i) (sets hidden (select_term k q) (onward (take (length ts - 1) (drop 1 ts)) (node g (i + 1)) puts))
    ∷ pick_parts g n (take (length ts - 1) (drop 1 ts)) (i + 1) (k + 1) (hidden + 1) q puts
    ≡ pick_parts g n ts i k hidden q puts
first_pick g n [] i k hidden q puts h = absurd (omega arith)
first_pick g n (t ∷ ts) i k hidden q puts h =
    ap (λ rest. own (node g i) (sets hidden (select_term k q) (onward rest (node g (i + 1)) puts)) ∷ pick_parts g n rest (i + 1) (k + 1) (hidden + 1) q puts) (take_rest (t ∷ ts) 1)

pub returns-in-empty : goal.returns-in-empty
returns-in-empty t c =
    let a = c.args.a.now in
    sym (none a) ∙ ap (λ l. answer_run a (pick_parts a.goto.now (numbers_in a) l c.args.i c.args.expr c.args.hidden c.args.query.now c.args.puts)) (sym (is_nil c.args.targets.now c.in-empty.len_below))

pub returns-in-len1-up : goal.returns-in-len1-up
returns-in-len1-up t c =
    let a = c.args.a.now in
    let g = a.goto.now in
    let n = numbers_in a in
    let ts = c.args.targets.now in
    let rest = take (length ts - 1) (drop 1 ts) in
    let q = c.args.query.now in
    let next : c.onward-next.result ≡ onward rest (node g (c.args.i + 1)) c.args.puts = c.onward-next.ensures ∙ ap (λ b. onward rest b c.args.puts) c.node.ensures in
    two a (own c.node-in-len1-up.result (sets c.args.hidden (wanted c.select_term-pick.result) c.onward-next.result) ∷ []) (pick_parts g n rest (c.args.i + 1) (c.args.expr + 1) (c.args.hidden + 1) q c.args.puts) _ _ _ c.ask_own.ensures c.ask_picks.ensures c.join.ensures
    ∙ ((λ i. answer_run a (own (c.node-in-len1-up.ensures i) (sets c.args.hidden (c.select_term-pick.ensures i) (next i)) ∷ pick_parts g n rest (c.args.i + 1) (c.args.expr + 1) (c.args.hidden + 1) q c.args.puts))
    ∙ ap (λ ps. answer_run a ps) (first_pick g n ts c.args.i c.args.expr c.args.hidden q c.args.puts c.in-len1-up.len_at_least))
