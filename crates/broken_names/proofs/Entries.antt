-- What a function's statements see.
use Rattle.std.proofs.Common.{◌≡◌, true, List, [], Option, ◌∙◌}
use Rattle.away_trees.specs.declared.schemas.Schema.{Schema}
use Rattle.away_trees.specs.declared.statements.Function.{Function}
use Rattle.away_names.specs.declared.scope.Listed.{Listed}
use Rattle.away_names.specs.declared.scope.Variable.{Variable}
use Rattle.away_names.specs.Lookups.{Name, Scope}
use Rattle.away_names.specs.Tables.{table_of}
use Rattle.broken_names.specs.StatementCulprits.{entry, with_params}

pub at_entry : (schema : Schema) (f : Function) (s : Scope) (t : Name → Option Listed) (vs : List Variable)
    → s ≡ record { table = t; levels = []; variables = vs; in_function = true } → t ≡ table_of schema → vs ≡ with_params [] f.params → s ≡ entry schema f
at_entry schema f s t vs e a b = e ∙ (λ i. record { table = a i; levels = []; variables = b i; in_function = true })
