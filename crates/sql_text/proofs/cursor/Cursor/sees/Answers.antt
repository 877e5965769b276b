use Rattle.std.proofs.Common.{◌≡◌, Some, ap, sym, subst, ◌∙◌}
use Rattle.std.proofs.lemmas.Bool.{OnTrue_from}
use denote.Enum.Bare.{same_true}
use Rattle.away_grammar.specs.contracts.grammar.Mark.{the_type}
use Rattle.away_grammar.specs.Terminals.{mark}
use Rattle.sql_text.specs.Plans.{first, Begins}
use Rattle.sql_text.specs.CodeTerminals.{next_meaning}
use Rattle.sql_text.proofs.Places.{begins_first}
use Rattle.sql_text.proofs.cursor.Cursor.sees.Goals as goal

pub returns-in-Some-Mark-clause-yes : goal.returns-in-Some-Mark-clause-yes
returns-in-Some-Mark-clause-yes c =
    let next : Some (mark c.in-Some-Mark.next) ≡ first c.args.self.now = ap next_meaning (sym (c.in-Some-Mark.is ∙ ap Some c.in-Some-Mark.field-0-is)) ∙ c.peek.ensures.value in
    OnTrue_from c.eq.result (Begins c.args.self.now c.args.sought) (λ yes.
    (let same : c.in-Some-Mark.next ≡ c.args.sought = same_true the_type tt c.in-Some-Mark.next c.args.sought (sym c.eq.ensures ∙ yes) in
    subst (Begins c.args.self.now) same (begins_first c.args.self.now c.in-Some-Mark.next next)))
