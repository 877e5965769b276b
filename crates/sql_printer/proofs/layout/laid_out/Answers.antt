use Rattle.std.proofs.Common.{◌≡◌, ◌++◌, ◌∷◌, ◌+◌, [], None, Some, ap, sym, ◌∙◌, drop, map, option_map, string_bytes, if◌then◌else◌}
use Rattle.std.proofs.lemmas.List.{drop_all, drop_more}
use Rattle.away_grammar.specs.Printing.{spelled, terminals_text}
use Rattle.sql_printer.specs.PrintedTerminals.{terminal_of, is_spaced}
use Rattle.sql_printer.proofs.LaidOut.{left_text, text_assoc, text_more, no_more_text}
use Rattle.sql_printer.proofs.layout.laid_out.Goals as goal

pub loop-terminal-init : goal.loop-terminal-init
loop-terminal-init c = ap (λ z. z ++ left_text (option_map terminal_of None) (map terminal_of c.args.terminals.now)) c.new-text.ensures.bytes

pub loop-terminal-preserved : goal.loop-terminal-preserved
loop-terminal-preserved c =
    let i = c.loop-terminal.terminal-index in
    let x = c.terminal-item.result in
    let before = option_map terminal_of c.loop-terminal.before in
    let old = string_bytes c.loop-terminal.text in
    let rest = map terminal_of (drop (i + 1) c.args.terminals.now) in
    let space = (if is_spaced before (terminal_of x) then 32 ∷ [] else []) in
    let left = left_text (Some (terminal_of x)) rest in
    let written : string_bytes c.push_terminal.new.text ≡ (old ++ space) ++ (spelled (terminal_of x)).text =
    c.in_ok-push_terminal.ensures ∙ ap (λ z. z ++ (spelled (terminal_of x)).text) (c.in_ok-push_space.ensures ∙ ap (λ b. old ++ (if b then 32 ∷ [] else [])) c.is_spaced.ensures) in
    let split : map terminal_of (drop i c.args.terminals.now) ≡ terminal_of x ∷ rest =
    ap (map terminal_of) (drop_more c.args.terminals.now i x c.loop-terminal-test.true ∙ ap (λ y. y ∷ drop (i + 1) c.args.terminals.now) (sym c.terminal-item.is)) in
    ap (λ z. z ++ left) written
    ∙ text_assoc old space (spelled (terminal_of x)).text left
    ∙ ap (λ z. old ++ z) (sym (text_more before (terminal_of x) rest) ∙ ap (left_text before) (sym split))
    ∙ c.loop-terminal.invariant

pub returns : goal.returns
returns c =
    let whole : string_bytes c.loop-terminal.text ++ (10 ∷ []) ≡ terminals_text (map terminal_of c.args.terminals.now) =
    ap (λ z. string_bytes c.loop-terminal.text ++ z) (sym (ap (λ ps. left_text (option_map terminal_of c.loop-terminal.before) (map terminal_of ps)) (drop_all c.loop-terminal.terminal-index c.args.terminals.now c.loop-terminal-test.false) ∙ no_more_text (option_map terminal_of c.loop-terminal.before))) ∙ c.loop-terminal.invariant in
    c.in_ok-push_str.ensures.bytes ∙ whole
