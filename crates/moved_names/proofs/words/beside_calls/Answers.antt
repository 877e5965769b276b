use Rattle.std.proofs.Common.{rules, ◌≡◌, ap, sym, ◌∙◌, true}
use Rattle.std.specs.List.{list_any}
use Rattle.away_names.specs.Lookups.{is_among}
use Rattle.moved_names.specs.Finding.{in_expr}
use Rattle.moved_names.specs.Seeking.{sought}
use Rattle.moved_names.specs.Words.{beside}
use Rattle.moved_names.proofs.WordRules.{among_rule}
use Rattle.moved_names.proofs.words.beside_calls.Goals as goal

pub returns-then-is_among : goal.returns-then-is_among
returns-then-is_among c =
    let among : is_among c.in-Call.name c.args.names.now ≡ true = search rules in
    c.in_exprs.ensures
    ∙ (ap (λ es. list_any (in_expr (sought c.args.s)) es) c.as_slice.ensures
    ∙ sym (ap (λ e. beside (sought c.args.s) c.args.names.now e) c.in-Call.is ∙ among_rule (sought c.args.s) c.args.names.now _ _ among))
