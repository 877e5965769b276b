use Rattle.std.proofs.Common.{ap, sym, ◌∙◌, ◌+◌, ◌∷◌, List, drop}
use Rattle.std.proofs.lemmas.List.{drop_more}
use Rattle.away_trees.specs.declared.queries.Expr.{Expr}
use Rattle.inline_calls.specs.Parting.{Calls}
use Rattle.inline_calls.proofs.ResolvingRules.{split_more}
use Rattle.inline_calls.proofs.resolving.split.Goals as goal

pub loop-es-preserved : goal.loop-es-preserved
loop-es-preserved c =
    let es : List Expr = c.es-item.result in
    let rest : Calls = drop (c.loop-es.es-index + 1) c.args.calls.now in
    split_more c.args.calls.now c.loop-es.es-index c.len-many.result es c.in_ok-exprs_of.field-0
    c.args.list.now c.loop-es.left.now c.loop-es.all c.push.new.self
    (drop_more c.args.calls.now c.loop-es.es-index es c.loop-es-test.true ∙ ap (λ e. e ∷ rest) (sym c.es-item.is))
    c.len-many.ensures c.in_ok-exprs_of.ensures c.in_ok-push.ensures.ok c.loop-es.invariant
