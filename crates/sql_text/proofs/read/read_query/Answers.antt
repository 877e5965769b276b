use Rattle.std.proofs.Common.{◌≡◌, ℕ, [], List, All, map, subst, sym, ◌∙◌, ap, arith}
use Rattle.away_grammar.specs.Grammar.{file}
use Rattle.away_grammar.specs.Terminals.{Terminal, token_terminals}
use Rattle.sql_text.specs.CodeTerminals.{meaning_of, HasSpelling}
use Rattle.sql_text.specs.Refusals.{HasTerminals}
use Rattle.sql_text.specs.declared.terminals.Terminal as code
use Rattle.sql_text.proofs.OneTree.{all_read, not_all_read, none_read, no_tree_of}
use Rattle.sql_text.proofs.Steps.{moved}
use Rattle.sql_text.proofs.read.read_query.Goals as goal

-- what the cursor stands over
read_from : {bytes : List ℕ} {slice terminals : List code.Terminal} {left : List Terminal} (ts : HasTerminals bytes (map meaning_of terminals)) → left ≡ map meaning_of slice → slice ≡ terminals → left ≡ token_terminals ts.tokens
read_from ts e f = e ∙ ap (map meaning_of) f ∙ ts.of_tokens

pub new-left-requires-clause-spelled : goal.new-left-requires-clause-spelled
new-left-requires-clause-spelled c = subst (All HasSpelling) (sym c.as_slice.ensures) c.in_ok-terminals.ensures.spelled

pub returns-then-left-eq0-clause-ok : goal.returns-then-left-eq0-clause-ok
returns-then-left-eq0-clause-ok c =
    let ts = c.in_ok-terminals.ensures.ok in
    rw c.into_inner.ensures (((ts.tokens, ts.few), (ts.tokens, ts.few.1.tokens_are, all_read (moved (read_from ts c.new-left.ensures c.as_slice.ensures) c.in-Ok.ensures.found) (omega (arith, c.left.ensures, c.if-left-eq0.true)))))

pub returns-in-Ok-clause-err : goal.returns-in-Ok-clause-err
returns-in-Ok-clause-err c =
    let ts = c.in_ok-terminals.ensures.ok in
    ((ts.tokens, ts.few), no_tree_of {n = file} ts.few.1.tokens_are (not_all_read (moved (read_from ts c.new-left.ensures c.as_slice.ensures) c.in-Ok.ensures.found) (λ e. absurd (omega (arith, c.left.ensures, c.if-left-eq0.false, e)))))

pub returns-in-Err-NoTree-clause-err : goal.returns-in-Err-NoTree-clause-err
returns-in-Err-NoTree-clause-err c =
    let ts = c.in_ok-terminals.ensures.ok in
    ((ts.tokens, ts.few), no_tree_of {n = file} ts.few.1.tokens_are (λ tree. none_read (moved (read_from ts c.new-left.ensures c.as_slice.ensures) (rw c.in-Err-NoTree.field-0-is at c.in-Err-NoTree.ensures.found)) tree [] tt))
