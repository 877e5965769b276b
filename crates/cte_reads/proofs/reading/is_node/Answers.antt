use Rattle.std.proofs.Common.{◌≡◌, sym, ap, ◌∙◌}
use Rattle.tree_events.specs.declared.events.Kind.TheVariants as kind
use Rattle.cte_reads.specs.Read.{kind_of}
use Rattle.cte_reads.proofs.SameKind.{same_kinds}
use Rattle.cte_reads.proofs.reading.is_node.Goals as goal

pub returns-in-Of : goal.returns-in-Of
returns-in-Of c =
    let same : kind_of c.args.want ≡ c.in-Of.kind = ap kind_of c.in-Of.is in
    let told = same_kinds c.args.here c.in-Of.kind in
    (λ y. told.0 (sym c.eq.ensures ∙ y) ∙ sym same, λ e. c.eq.ensures ∙ told.1 (e ∙ same))

pub returns-in-Column-here : goal.returns-in-Column-here
returns-in-Column-here c =
    let same : kind_of c.args.want ≡ kind.Column (record { level = c.in-Column.level; item = c.in-Column.item; column = c.in-Column.column }) = ap kind_of c.in-Column.is in (
      λ y. c.in-Column-here.is ∙ (ap kind.Column (c.is_column.ensures.0 y) ∙ sym same),
      λ e. c.is_column.ensures.1 (let q : kind.Column c.in-Column-here.c ≡ kind.Column (record { level = c.in-Column.level; item = c.in-Column.item; column = c.in-Column.column }) = sym c.in-Column-here.is ∙ (e ∙ same) in cc),
    )
