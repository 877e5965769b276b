use Rattle.std.proofs.Common.{◌≡◌, ◌&&◌, ap, sym, ◌∙◌}
use Rattle.away_grammar.specs.Reserved.{calls}
use Rattle.away_grammar.specs.Spacing.{is_glued, is_one}
use Rattle.away_grammar.specs.Tokens.{is_word_kind}
use Rattle.away_grammar.specs.Printing.{spelled}
use Rattle.sql_printer.specs.PrintedTerminals.{terminal_of}
use Rattle.sql_printer.proofs.LaidOut.{glued_is}
use Rattle.sql_printer.proofs.layout.is_glued.Goals as goal
use Rattle.sql_printer.proofs.layout.is_glued.Goals.{After-calls, then-opens, else-opens}

glued_by : (c : After-calls) → is_glued calls (spelled (terminal_of c.args.before)) (spelled (terminal_of c.args.terminal)) ≡ (c.calls.result && is_one 40 (spelled (terminal_of c.args.terminal)))
glued_by c =
    let p = spelled (terminal_of c.args.before) in
    let q = spelled (terminal_of c.args.terminal) in
    elim c.if-opens.branch [
      | then-opens w ↦ absurd (cc (w.value-is, c.if-closes.false))
      | else-opens w ↦
          glued_is (is_one 40 p) (is_one 46 p) (is_one 41 q) (is_one 44 q) (is_one 46 q) (is_word_kind p.kind) (calls p.text) (is_one 40 q)
          (sym c.opens.ensures ∙ w.if-opens.false) (sym w.closes.ensures ∙ sym w.value-is ∙ c.if-closes.false)
          ∙ ap (λ b. b && is_one 40 q) (sym c.calls.ensures)
    ]

pub returns-then-calls : goal.returns-then-calls
returns-then-calls c = c.is_opening.ensures ∙ sym (glued_by (goal.at.returns-then-calls c).After-calls ∙ ap (λ b. b && is_one 40 (spelled (terminal_of c.args.terminal))) c.if-calls.true)

pub returns-else-calls : goal.returns-else-calls
returns-else-calls c = c.if-calls.false ∙ sym (glued_by (goal.at.returns-else-calls c).After-calls ∙ ap (λ b. b && is_one 40 (spelled (terminal_of c.args.terminal))) c.if-calls.false)
