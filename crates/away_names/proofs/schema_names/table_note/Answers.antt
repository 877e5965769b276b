use Rattle.std.proofs.Common.{ap, ◌∙◌, map}
use Rattle.away_trees.specs.declared.schemas.ColumnSchema.{ColumnSchema}
use Rattle.away_names.specs.Lookups.{has_double}
use Rattle.away_names.specs.Notes.{all_notes, breaks, joined}
use Rattle.away_names.specs.declared.rule.Rule.TheVariants.{Duplicates}
use Rattle.away_names.specs.Schemas.{column_names, kept}
use Rattle.away_names.proofs.schema_names.table_note.Goals as goal

pub returns : goal.returns
returns c =
    let t = c.args.t.now in
    let columns = c.as_slice-columns.ensures in
    let own = c.joined.ensures ∙ ap (λ a. joined a c.breaks.result) c.kept.ensures
    ∙ ap (joined (kept t.name)) (c.breaks.ensures
    ∙ ap (breaks Duplicates) (c.in_ok-doubled.ensures ∙ ap (λ cs. has_double (map (λ (x : ColumnSchema). x.name) cs)) columns)) in
    c.joined-2.ensures
    ∙ ap (λ a. joined a c.columns_note.result) own
    ∙ ap (joined (joined (kept t.name) (breaks Duplicates (has_double (column_names t)))))
    (c.columns_note.ensures ∙ ap (λ cs. all_notes kept (map (λ (x : ColumnSchema). x.name) cs)) columns)
