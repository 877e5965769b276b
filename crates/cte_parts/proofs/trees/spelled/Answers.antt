use Rattle.std.proofs.Common.{rules, ◌≡◌, chars, sym, ap, ◌∙◌, subst}
use Rattle.std.specs.Prelude.{IsUtf8, MatchOption, Option, Some, None}
use Rattle.away_values.specs.Words.{IsWord}
use Rattle.cte_parts.proofs.ClassTexts.{class_utf8, class_word, class_chars, no_word, the_word}
use Rattle.cte_parts.proofs.trees.spelled.Goals as goal

pub unreachable-requires : goal.unreachable-requires
unreachable-requires c =
    let same : c.in-Ok.text.now ≡ c.args.code.now = c.in-Ok.ensures.cases.0 in
    no_word c.args.code.now c.in-Ok.text.now same c.requires c.in_ok-word-in-Ok.field-0 c.in_ok-word-in-Ok.ensures c.in-None.is

pub unreachable-requires-in-Err : goal.unreachable-requires-in-Err
unreachable-requires-in-Err c = c.in-Err.ensures.cases.0 (class_utf8 c.args.code.now c.requires)

pub returns : goal.returns
returns c =
    let same : c.in-Ok.text.now ≡ c.args.code.now = c.in-Ok.ensures.cases.0 in
    the_word c.args.code.now c.in-Ok.text.now same c.requires c.in_ok-word-in-Ok.field-0 c.in-Some.word c.in_ok-word-in-Ok.ensures c.in-Some.is
