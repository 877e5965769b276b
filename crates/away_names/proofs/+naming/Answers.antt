use Rattle.std.proofs.Common.{◌≡◌, ap, ◌∙◌, subst, map, IfOk}
use Rattle.away_trees.specs.declared.queries.Expr.TheViews.{out-Select}
use Rattle.away_names.specs.Lookups.{Scope}
use Rattle.away_names.specs.NamingLists as lists
use Rattle.away_names.specs.Places.{scope}
use Rattle.away_names.proofs.+naming.Goals as goal

pub naming_queries::named_over-returns : goal.naming_queries::named_over-returns
naming_queries::named_over-returns t c =
    let s = scope c.args.s.now in
    let levels = ap (map (λ l. l.now)) c.as_slice.ensures.value ∙ c.in_ok-levels.ensures in
    subst (λ (sc : Scope). IfOk c.named_inner.result (λ x. x ≡ lists.named_over (out-Select c.args.select.now) sc c.args.from))
    (ap (λ ls. record { table = s.table; levels = ls; variables = s.variables; in_function = s.in_function }) levels)
    c.named_inner.ensures
