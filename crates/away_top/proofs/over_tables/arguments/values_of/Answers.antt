use Rattle.std.proofs.Common.{◌≡◌, ◌∙◌, IfOk, None, ap, map, string_bytes, subst, sym}
use Rattle.std.specs.Prelude.{if◌then◌else◌}
use Rattle.away_top.specs.Arguments.{values_from}
use Rattle.away_top.proofs.ArgumentSteps.{values_are}
use Rattle.away_top.proofs.over_tables.arguments.values_of.Goals as goal

pub returns-then-are_enough : goal.returns-then-are_enough
returns-then-are_enough c =
    let all = values_from c.args.params.now 1 (map string_bytes c.args.words.now) in
    subst (λ o. IfOk c.spelled.result (λ values. values ≡ o)) (ap (λ b. if b then all else None) c.if-are_enough.ensures ∙ sym (values_are string_bytes c.args.params.now c.args.words.now)) c.spelled.ensures

pub returns-else-are_enough : goal.returns-else-are_enough
returns-else-are_enough c =
    let all = values_from c.args.params.now 1 (map string_bytes c.args.words.now) in
    ap (λ b. if b then all else None) c.if-are_enough.ensures ∙ sym (values_are string_bytes c.args.params.now c.args.words.now)
