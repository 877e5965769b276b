use Rattle.std.proofs.Common.{◌≡◌, length, get_or, Some, None, sym, ap, ◌∙◌, arith}
use Rattle.away_trees.specs.declared.queries.Expr.{Expr}
use Rattle.away_trees.specs.declared.queries.Expr.TheVariants as expr
use Rattle.cte_reads.specs.Puts.{from_put}
use Rattle.cte_reads.specs.References.{founds}
use Rattle.cte_reads.proofs.KnownNames.{founds_known, founds_unknown}
use Rattle.cte_reads.proofs.OneByOne.{as_reads}
use Rattle.cte_reads.proofs.OneByOneWhere.{where_holds, nowhere}
use Rattle.cte_reads.proofs.SlotColumns.{let_is}
use Rattle.cte_reads.proofs.lets.term.Goals as goal

pub returns-in-None : goal.returns-in-None
returns-in-None c table h =
    let s = c.args.scope.now in
    let none : founds s c.args.t.now.names ≡ None = ap (founds s) (sym c.as_slice.ensures) ∙ (sym c.in_ok-found.ensures ∙ c.in-None.is) in
    nowhere (λ p. founds_unknown s c.args.t.now.names c.requires none p.known)

pub returns-in-Some : goal.returns-in-Some
returns-in-Some c table h =
    let s = c.args.scope.now in
    let names = c.args.t.now.names in
    let refs = c.as_slice-in-Some.result.now in
    let e : Expr = get_or table c.args.t.now.expr expr.Null in
    let entry = c.at-entry.ensures table h in
    let found : founds s names ≡ Some refs = ap (founds s) (sym c.as_slice.ensures) ∙ (sym c.in_ok-found.ensures ∙ (c.in-Some.is ∙ ap Some (sym c.as_slice-in-Some.ensures))) in
    where_holds
    (record {
      known = founds_known s names refs found;
      as_many = let many = ap length entry.slots in omega (arith, many, c.if-len.false, c.len.ensures, c.len-2.ensures);
    })
    (as_reads (λ rest. ap (λ i. from_put i rest) (let_is s c.args.depth table c.args.ty c.args.t.now c.at-entry.result.now.slots refs entry.slots found)) (c.let_of.ensures e entry))
