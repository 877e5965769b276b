-- What a query breaks beside what it breaks where all of its rows are asked for: the rule on
-- answers.
use Rattle.std.specs.Prelude.{not, Option, Some, None, if◌then◌else◌}
use Rattle.away_names.specs.declared.rule.Rule.{Rule}
use Rattle.away_names.specs.declared.rule.Rule.TheVariants as rule
use Rattle.away_trees.specs.declared.queries.Expr.TheViews.{out-Query}
use Rattle.away_trees.specs.declared.queries.Query.{Query}
use Rattle.away_trees.specs.declared.schemas.Schema.{Schema}
use Rattle.away_typing.specs.Typing.{Shape}
use Rattle.away_typing.specs.Wholes.{final_shape, is_answer, recursion}
use Rattle.away_types.specs.CheckedQueries.{resolved_file}

-- the types of a query's columns, where it has such
abbrev pub shape_of_query : Schema → Query → Shape
shape_of_query s q = let f = resolved_file s q in final_shape f.query (recursion s f.first.refers f.second.refers (out-Query f.query).recursive)

-- the rule on answers, where the query breaks it
abbrev pub answer_broken : Schema → Query → Option Rule
answer_broken s q = if not (is_answer (shape_of_query s q)) then Some rule.Answer else None
