use Rattle.std.proofs.Common.{ap, ◌∙◌, map}
use Rattle.away_trees.specs.declared.schemas.TableSchema.{TableSchema}
use Rattle.away_names.specs.Lookups.{has_double}
use Rattle.away_names.specs.Notes.{all_notes, breaks, joined}
use Rattle.away_names.specs.declared.rule.Rule.TheVariants.{Duplicates}
use Rattle.away_names.specs.Schemas.{table_names, table_note}
use Rattle.away_names.proofs.schema_names.schema_note.Goals as goal

pub returns : goal.returns
returns c =
    let tables = c.as_slice-tables.ensures in
    c.joined.ensures
    ∙ ap (λ a. joined a c.in_ok-tables_note.field-0)
    (c.breaks.ensures ∙ ap (breaks Duplicates) (c.in_ok-doubled.ensures ∙ ap (λ ts. has_double (map (λ (t : TableSchema). t.name) ts)) tables))
    ∙ ap (joined (breaks Duplicates (has_double (table_names c.args.s.now)))) (c.in_ok-tables_note.ensures ∙ ap (all_notes table_note) tables)
