use Rattle.std.proofs.Common.{◌≡◌, MatchOption, subst, sym, ◌∙◌}
use Rattle.away_values.specs.Words.{IsName}
use Rattle.away_grammar.specs.Reserved.{folded}
use Rattle.away_lex.proofs.Folds.{folded_is_name}
use Rattle.away_lex.proofs.words.folded.Goals as goal

pub prove-unreachable-requires : goal.prove-unreachable-requires
prove-unreachable-requires c =
    let text = c.as_str.result.now in
    let is : text ≡ folded c.args.word.now = c.as_str.ensures.value ∙ c.in_ok-lower.ensures.ok in
    let none : ¬ (IsName text) = subst (λ o. MatchOption o (¬ (IsName text)) (λ n. IsName text × (n ≡ text))) c.in-None.is (c.in_ok-name.ensures) in
    none (subst IsName (sym is) (folded_is_name c.args.word.now c.requires))
