use Rattle.std.proofs.Common.{rules, sym, ◌∙◌, map}
use Rattle.std.specs.String.{string_bytes}
use Rattle.away_trees.specs.declared.schemas.ColumnSchema.{ColumnSchema}
use Rattle.away_names.proofs.Doubles.{none_behind, none_left}
use Rattle.away_names.proofs.schema_names.columns_doubled.Goals as goal

pub returns : goal.returns
returns c =
    sym
    (none_behind (map (λ (x : ColumnSchema). x.name) c.args.columns.now)
    ∙ c.loop-rest.invariant
    ∙ none_left (λ (x : ColumnSchema). x.name) (map string_bytes c.loop-rest.seen.keys) c.loop-rest.rest.now (search rules))
