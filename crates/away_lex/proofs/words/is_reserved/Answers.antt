use Rattle.std.proofs.Common.{rules, Bor, ℕ, List}
use Rattle.std.proofs.lemmas.Iterator.{YieldsList-from_slice}
use Rattle.std.proofs.lemmas.Iterator.Search.{any_from_yields_List}
use Rattle.std.specs.Str.{str_eq_ignore_ascii_case}
use borrow.Author.Tests.{tests}
use Rattle.away_grammar.specs.Reserved.{is_reserved}
use Rattle.away_lex.proofs.words.is_reserved.Goals as goal

pub returns : goal.returns
unfolding is_reserved
returns c = any_from_yields_List (λ (r : Bor (List ℕ)). str_eq_ignore_ascii_case c.args.word.now r.now) _ _ _ c.any.ensures.ran (YieldsList-from_slice _ c.iter.ensures.rest) (λ x b q k. search (rules, tests))
