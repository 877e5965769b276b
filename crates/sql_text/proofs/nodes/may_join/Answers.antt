use Rattle.std.proofs.Common.{rules, ◌≡◌, ◌≤◌, List, [], ◌∷◌, length, refl, ◌∙◌, arith}
use Rattle.std.proofs.lemmas.Iterator.{YieldsList-from_slice}
use Rattle.std.proofs.lemmas.Iterator.Search.{all_from_yields_List}
use Rattle.std.specs.List.{list_all}
use borrow.Author.Tests.{tests}
use Rattle.away_trees.specs.declared.queries.Select.{Select}
use Rattle.away_grammar.specs.Grammar.{is_plain, may_join}
use Rattle.sql_text.proofs.nodes.may_join.Goals as goal

several : (ss : List Select) → 2 ≤ length ss → list_all is_plain ss ≡ may_join ss
several [] h = absurd (omega arith)
several (s ∷ []) h = absurd (omega arith)
several (s ∷ t ∷ ss) h = refl

pub returns : goal.returns
returns c = all_from_yields_List is_plain _ _ _ c.all.ensures.ran (YieldsList-from_slice _ c.iter.ensures.rest) (λ x b q k. search (rules, tests)) ∙ several c.args.selects.now c.if-selects-lt2.false
