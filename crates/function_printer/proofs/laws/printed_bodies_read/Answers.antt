use Rattle.std.proofs.Common.{[], append-nil, subst, sym, ◌∙◌}
use Rattle.away_grammar.specs.FunctionGrammar.{ReadsPart, body}
use Rattle.function_printer.proofs.PrintedBodies.{prints}
use Rattle.function_printer.proofs.Says.{text_says}
use Rattle.function_printer.proofs.laws.printed_bodies_read.Goals as goal

pub returns : goal.returns
returns c = λ ts x h d.
    let p = (prints c.a_condition_ends_with_no_end.ensures c.a_range_ends_with_no_end.ensures d h).0 in
    let found = text_says p.tells.says in
    (found.0, found.1, subst (λ ts. ReadsPart body ts x []) (append-nil p.said ∙ sym found.2) (p.reads []))
