use Rattle.std.proofs.Common.{◌≡◌, suc, ◌+◌, ◌-◌, ◌∷◌, ap, arith}
use Rattle.tree_events.specs.declared.events.Kind.TheVariants as kind
use Rattle.tree_events.specs.declared.events.TreeEvent.TheVariants as event
use Rattle.cte_reads.proofs.OneByOne.{then_reads, as_reads}
use Rattle.cte_reads.proofs.lets.reference.Goals as goal

pub returns : goal.returns
returns c =
    let r = c.args.found in
    as_reads
    (λ rest. ap (λ l. event.Open (kind.Column (record { level = l; item = r.item; column = r.column })) ∷ event.Close ∷ rest) (let q : (suc c.args.depth - r.from) + 0 ≡ suc c.args.depth - r.from = omega arith in q))
    (then_reads c.open_ref.ensures c.close.ensures)
