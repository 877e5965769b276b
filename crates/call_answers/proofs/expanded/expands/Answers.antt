use Rattle.std.proofs.Common.{arith, refl, rules, subst}
use Rattle.away_types.specs.TypedSlots.{typed_slots}
use Rattle.call_meaning.specs.Expands.{IsExpanded}
use Rattle.call_meaning.specs.Renamed.{renaming}
use Rattle.call_answers.specs.Walking.{program}
use Rattle.call_answers.proofs.PartRules.{expanded_rule, if_ok}
use Rattle.call_answers.proofs.expanded.expands.Goals as goal

pub returns : goal.returns
returns c = if_ok _ _ c.main_body_stands.result (λ yes h so first. subst (λ z. IsExpanded (program c.args.parts.now) renaming c.args.c.now.function (typed_slots z)) c.as_slice-2.ensures
    (expanded_rule _ _ c.args.parts.now c.args.main.now c.args.c.now.function first refl refl (omega (arith, c.in-Some.ensures)) refl refl refl c.as_slice.ensures
    (search rules) (search rules) (h so))) c.main_body_stands.ensures
