-- The plan of each sort.
use Rattle.std.specs.Prelude.{List, [], Some}
use Rattle.away_grammar.specs.FunctionGrammar.{
  Part,
  decl,
  decls,
  default,
  statement,
  statements,
  branch,
  elsifs,
  whens,
}
use Rattle.away_grammar.specs.FunctionGrammar.{
  otherwise,
  condition,
  block,
  repeated,
  kind,
  step,
  body,
  parameter,
  parameters,
  targets,
  into,
  clauses,
}
use Rattle.away_grammar.specs.FunctionGrammar.{signature, attribute_of, attributes, function}
use Rattle.away_trees.specs.declared.statements.Stmt.{Stmt}
use Rattle.away_trees.specs.declared.statements.Function.{Function}
use Rattle.away_grammar.specs.Terminals.{token_terminals}
use Rattle.away_grammar.specs.Tokens.{Lexeme}
use Rattle.sql_text.specs.Plans.{Plan, Runs}
use Rattle.sql_text.specs.Descent as descent
use Rattle.plsql_parse.specs.Sorts.{AnySort, sql, part, AnyTree, PartPlan, lifted}
use Rattle.plsql_parse.specs.Bodies.{
  default_plan,
  decl_plan,
  decls_plan,
  statement_plan,
  statements_plan,
  branch_plan,
}
use Rattle.plsql_parse.specs.Bodies.{
  elsifs_plan,
  whens_plan,
  otherwise_plan,
  condition_plan,
  block_plan,
  repeated_plan,
}
use Rattle.plsql_parse.specs.Bodies.{kind_plan, step_plan, body_plan}
use Rattle.plsql_parse.specs.Bodies.{targets_plan, into_plan, clauses_plan}
use Rattle.plsql_parse.specs.Headers.{
  parameter_plan,
  parameters_plan,
  signature_plan,
  attribute_plan,
  attributes_plan,
  function_plan,
}

abbrev pub part_plan : (p : Part) → PartPlan p
part_plan decl = decl_plan
part_plan decls = decls_plan
part_plan default = default_plan
part_plan statement = statement_plan
part_plan statements = statements_plan
part_plan branch = branch_plan
part_plan elsifs = elsifs_plan
part_plan whens = whens_plan
part_plan otherwise = otherwise_plan
part_plan condition = condition_plan
part_plan targets = targets_plan
part_plan into = into_plan
part_plan (clauses list) = clauses_plan list
part_plan (block label) = block_plan label
part_plan (repeated label) = repeated_plan label
part_plan kind = kind_plan
part_plan step = step_plan
part_plan body = body_plan
part_plan parameter = parameter_plan
part_plan parameters = parameters_plan
part_plan signature = signature_plan
part_plan attribute_of = attribute_plan
part_plan attributes = attributes_plan
part_plan (function inside) = function_plan inside

abbrev pub any_plan : (n : AnySort) → Plan AnyTree n
any_plan (sql n) = lifted (descent.plan n)
any_plan (part p) = part_plan p

-- what the plans give of a file's two lists, where nothing is left of either
abbrev pub FileGives : List Lexeme → List Lexeme → Function → Type 0
FileGives outer inner f =
    (inside : Stmt) × Runs AnyTree any_plan (part body) body_plan (token_terminals inner) (Some (inside, []))
    × Runs AnyTree any_plan (part (function inside)) (function_plan inside) (token_terminals outer) (Some (f, []))
