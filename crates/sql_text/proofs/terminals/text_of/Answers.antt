use Rattle.std.proofs.Common.{arith, ◌≡◌, ◌<◌, ◌∙◌, get_or, length, ap, sym, subst, refl, chars}
use Rattle.std.proofs.lemmas.Option.{MatchOption-at_some, MatchOption-at_none}
use Rattle.std.proofs.lemmas.Str.{IsCharBoundary-after_ascii}
use Rattle.away_grammar.specs.Terminals.{undoubled, between_quotes}
use Rattle.away_values.specs.Words.{IsWord}
use Rattle.away_lex.proofs.Alone.{undoubled_quoted}
use Rattle.sql_text.proofs.Undoubled.{replaced_is, inside_is}
use Rattle.sql_text.proofs.terminals.text_of.Goals as goal
use Rattle.sql_text.proofs.terminals.text_of.Goals.{After-as_str}

text_is : (c : After-as_str) → c.as_str.result.now ≡ undoubled (between_quotes c.args.string.now)
text_is c =
    let h = c.in_ok-text.ensures.ok in
    c.as_str.ensures.value ∙ replaced_is _ _ (λ p. p.now) (λ p s r f. f) (λ p q e. e) h.0 _ refl _ _ h.1 ∙ ap undoubled (c.range-inside.ensures.value ∙ inside_is c.args.string.now)

pub range-inside-requires-clause-start_boundary : goal.range-inside-requires-clause-start_boundary
range-inside-requires-clause-start_boundary c _ =
    let z = c.args.string.now in
    let first : get_or z 0 0 ≡ 39 = ap (λ l. get_or l 0 0) c.requires.spelled in
    let some : 0 < length z = omega (arith, ap length c.requires.spelled) in
    IsCharBoundary-after_ascii z 0 c.utf8.string some (omega arith)

pub returns-in-Some : goal.returns-in-Some
returns-in-Some c =
    let text = c.as_str.result.now in
    let found = MatchOption-at_some (¬ (IsWord text)) (λ w. IsWord text × (w ≡ chars text)) c.in-Some.word c.in-Some.is c.in_ok-word.ensures in
    found.1 ∙ ap chars (text_is (goal.at.returns-in-Some c).After-as_str)

pub prove-unreachable-requires : goal.prove-unreachable-requires
prove-unreachable-requires c =
    let text = c.as_str.result.now in
    let whole : text ≡ c.requires.text =
    text_is (goal.at.prove-unreachable-requires c).After-as_str ∙ ap (λ z. undoubled (between_quotes z)) c.requires.spelled ∙ undoubled_quoted c.requires.text in
    let none = MatchOption-at_none (¬ (IsWord text)) (λ w. IsWord text × (w ≡ chars text)) c.in-None.is c.in_ok-word.ensures in
    none (subst IsWord (sym whole) c.requires.value)
