-- What the grammar reads and what ends it, the plan gives.
use Rattle.std.proofs.Common.{List}
use Rattle.away_grammar.specs.Terminals.{Terminal}
use Rattle.away_grammar.specs.FunctionGrammar as g
use Rattle.away_grammar.specs.FunctionGrammar.{Part, PartTree, ReadsPart}
use Rattle.plsql_parse.proofs.Beginnings.{beginning}
use Rattle.plsql_parse.proofs.RunSteps.{GivenPart}
use Rattle.plsql_parse.proofs.CompleteBodies as bodies
use Rattle.plsql_parse.proofs.CompleteHeaders as headers

pub complete : {p : Part} {ts : List Terminal} {x : PartTree p} {rest : List Terminal} → ReadsPart p ts x rest → GivenPart p ts x rest
complete g.no_default = bodies.given_no_default
complete (g.default_of terminal e d) = bodies.given_default_of terminal e d
complete (g.decl_of {constant = constant} {v = v} t e d) = bodies.given_decl_of constant v t e (beginning d) (complete d)
complete g.no_decl = bodies.given_no_decl
complete (g.another_decl d e) = bodies.given_another_decl (beginning d) (complete d) (complete e)
complete (g.plain_block closing d) = bodies.given_plain_block closing (complete d)
complete (g.declaring_block closing d e) = bodies.given_declaring_block closing (complete d) (complete e)
complete (g.block_statement label d) = bodies.given_block_statement label (beginning d) (complete d)
complete (g.assignment terminal e d) = bodies.given_assignment terminal e d
complete g.nothing = bodies.given_nothing
complete (g.return_of d) = bodies.given_return_of d
complete (g.branch_of d e) = bodies.given_branch_of d (complete e)
complete g.no_elsif = bodies.given_no_elsif
complete (g.elsif short d e) = bodies.given_elsif short (beginning e) (complete d) (complete e)
complete g.no_when = bodies.given_no_when
complete (g.when_of d e) = bodies.given_when_of (beginning e) (complete d) (complete e)
complete g.no_else = bodies.given_no_else
complete (g.else_of d) = bodies.given_else_of (complete d)
complete (g.if_of d e f) = bodies.given_if_of (beginning e) (beginning f) (complete d) (complete e) (complete f)
complete (g.cases_of d e f) = bodies.given_cases_of (beginning e) (beginning f) (complete d) (complete e) (complete f)
complete g.no_step = bodies.given_no_step
complete (g.step_of d) = bodies.given_step_of d
complete g.plain_loop = bodies.given_plain_loop
complete (g.while_loop e d) = bodies.given_while_loop e d
complete (g.for_loop {reverse = reverse} e c d f) = bodies.given_for_loop reverse e c d (beginning f) (complete f)
complete (g.loop_of closing d e) = bodies.given_loop_of closing (complete d) (complete e)
complete (g.loop_statement label d) = bodies.given_loop_statement label (beginning d) (complete d)
complete g.no_condition = bodies.given_no_condition
complete (g.condition_of d) = bodies.given_condition_of d
complete (g.exit_of label d) = bodies.given_exit_of label (beginning d) (complete d)
complete (g.continue_of label d) = bodies.given_continue_of label (beginning d) (complete d)
complete (g.raise_message w) = bodies.given_raise_message w
complete (g.raise_state w) = bodies.given_raise_state w
complete g.last_target = bodies.given_last_target
complete (g.another_target d) = bodies.given_another_target (complete d)
complete (g.into_of w d) = bodies.given_into_of w (beginning d) (complete d)
complete (g.clauses_of a b c d) = bodies.given_clauses_of a b c d
complete (g.select_into d e f) = bodies.given_select_into e (beginning f) (complete d) (complete f)
complete (g.list_into d e f) = bodies.given_list_into d (beginning f) (complete e) (complete f)
complete g.no_statement = bodies.given_no_statement
complete (g.another_statement d e) = bodies.given_another_statement (beginning d) (complete d) (complete e)
complete (g.body_of label w d) = bodies.given_body_of label w (beginning d) (complete d)
complete (g.parameter_of w t e) = headers.given_parameter_of w t e
complete (g.last_parameter d) = headers.given_last_parameter (complete d)
complete (g.another_parameter d e) = headers.given_another_parameter (complete d) (complete e)
complete g.no_parameter = headers.given_no_parameter
complete (g.signature_of d) = headers.given_signature_of (beginning d) (complete d)
complete g.language_name = headers.given_language_name
complete g.language_string = headers.given_language_string
complete g.as_quote = headers.given_as_quote
complete (g.word_attribute e) = headers.given_word_attribute e
complete g.strict = headers.given_strict
complete g.returns_null = headers.given_returns_null
complete g.called_on_null = headers.given_called_on_null
complete g.not_leakproof = headers.given_not_leakproof
complete (g.parallel e) = headers.given_parallel e
complete g.cost = headers.given_cost
complete g.no_attribute = headers.given_no_attribute
complete (g.another_attribute d e) = headers.given_another_attribute (beginning d) (complete d) (complete e)
complete (g.function_of o q w t e may d f) = headers.given_function_of o q w t e may (beginning d) (complete d) (complete f)
