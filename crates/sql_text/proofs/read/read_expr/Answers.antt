use Rattle.std.proofs.Common.{◌≡◌, ◌≤◌, ℕ, List, All, ◌-◌, length, drop, take, arith, refl, map, subst, sym, ◌∙◌, ap}
use Rattle.std.proofs.lemmas.List.{drop-map, length-drop, length-map, take_all}
use Rattle.away_grammar.specs.Texts.{IsExpression}
use Rattle.away_grammar.specs.Terminals.{Terminal, token_terminals}
use Rattle.away_lex.specs.Lexed.{seen}
use Rattle.away_lex.specs.declared.slices.Token as token
use Rattle.sql_text.specs.CodeTerminals.{meaning_of, HasSpelling}
use Rattle.sql_text.specs.declared.terminals.Terminal as code
use Rattle.sql_text.proofs.Places.{spelled_from}
use Rattle.sql_text.proofs.OneTree.{expression_read, none_stops, none_begins, one_expression}
use Rattle.sql_text.proofs.Steps.{moved}
use Rattle.sql_text.proofs.read.read_expr.Goals as goal

-- the rest of a list, to its end
whole_rest : (at : ℕ) (list : List token.Token) → take (length list - at) (drop at list) ≡ drop at list
whole_rest at list = take_all (length list - at) (drop at list) (omega (arith, length-drop at list))

-- what the cursor stands over
read_from : (at : ℕ) (list : List token.Token) {rest : List token.Token} {slice terminals : List code.Terminal} {left : List Terminal} → left ≡ map meaning_of slice → slice ≡ terminals → map meaning_of terminals ≡ token_terminals (map seen rest) → rest ≡ drop at list
    → left ≡ token_terminals (drop at (map seen list))
read_from at list e f g h = e ∙ ap (map meaning_of) f ∙ g ∙ ap (λ l. token_terminals (map seen l)) h ∙ ap token_terminals (sym (drop-map seen at list))

pub terminals_of-requires : goal.terminals_of-requires
terminals_of-requires c = rw (whole_rest c.args.at c.args.list.now) (spelled_from c.args.list.now c.args.at c.requires.spelled)

pub new-left-requires-clause-spelled : goal.new-left-requires-clause-spelled
new-left-requires-clause-spelled c = subst (All HasSpelling) (sym c.as_slice.ensures) c.in-Ok.ensures.spelled

pub returns-then-continues-clause-err : goal.returns-then-continues-clause-err
returns-then-continues-clause-err c = none_stops (map seen c.args.list.now) c.args.at _ _ (moved (read_from c.args.at c.args.list.now c.new-left.ensures c.as_slice.ensures c.in-Ok.ensures.values (whole_rest c.args.at c.args.list.now)) c.in-Ok-operand.ensures.found) c.if-continues.ensures.yes

pub returns-in-Ok-operand-clause-ok : goal.returns-in-Ok-operand-clause-ok
returns-in-Ok-operand-clause-ok c = rw c.into_inner.ensures (subst (IsExpression (map seen c.args.list.now) c.args.at c.in-Ok-operand.found) (rw (length-map c.args.list.now seen, c.left.ensures) refl) (expression_read (map seen c.args.list.now) c.args.at _ _ (subst (λ n. c.args.at ≤ n) (sym (length-map c.args.list.now seen)) c.requires.within) (moved (read_from c.args.at c.args.list.now c.new-left.ensures c.as_slice.ensures c.in-Ok.ensures.values (whole_rest c.args.at c.args.list.now)) c.in-Ok-operand.ensures.found) c.if-continues.ensures.no))

pub returns-in-Ok-operand-clause-only : goal.returns-in-Ok-operand-clause-only
returns-in-Ok-operand-clause-only c = rw c.into_inner.ensures (λ x end other. one_expression other (subst (IsExpression (map seen c.args.list.now) c.args.at c.in-Ok-operand.found) (rw (length-map c.args.list.now seen, c.left.ensures) refl) (expression_read (map seen c.args.list.now) c.args.at _ _ (subst (λ n. c.args.at ≤ n) (sym (length-map c.args.list.now seen)) c.requires.within) (moved (read_from c.args.at c.args.list.now c.new-left.ensures c.as_slice.ensures c.in-Ok.ensures.values (whole_rest c.args.at c.args.list.now)) c.in-Ok-operand.ensures.found) c.if-continues.ensures.no)))

pub returns-in-Err-NoTree-clause-err : goal.returns-in-Err-NoTree-clause-err
returns-in-Err-NoTree-clause-err c = none_begins (map seen c.args.list.now) c.args.at _ (moved (read_from c.args.at c.args.list.now c.new-left.ensures c.as_slice.ensures c.in-Ok.ensures.values (whole_rest c.args.at c.args.list.now)) (rw c.in-Err-NoTree.field-0-is at c.in-Err-NoTree.ensures.found))
