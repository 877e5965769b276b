use Rattle.std.proofs.Common.{refl}
use Rattle.std.specs.Fmt.{digits}
use Rattle.away_trees.specs.declared.queries.Expr.TheBlock as b
use Rattle.away_trees.specs.declared.queries.Expr.TheViews as view
use Rattle.away_names.specs.Files as names_files
use Rattle.away_names.specs.Functions as names_functions
use Rattle.away_names.specs.Lookups as names_lookups
use Rattle.away_names.specs.Naming as names_naming
use Rattle.away_names.specs.Notes as names_notes
use Rattle.away_names.specs.Rules as names_rules
use Rattle.away_names.specs.Tables as names_tables
use Rattle.away_names.specs.Trees as names_trees
use Rattle.away_typing.specs.Aggregates as typing_aggregates
use Rattle.away_typing.specs.Kinds as typing_kinds
use Rattle.away_typing.specs.ParameterLists as typing_parameter_lists
use Rattle.away_typing.specs.Parameters as typing_parameters
use Rattle.away_typing.specs.Trees as typing_trees
use Rattle.away_typing.specs.Typing as typing_typing
use Rattle.away_typing.specs.TypingLists as typing_typing_lists
use Rattle.away_typing.specs.Wholes as typing_wholes
use Rattle.away_values.specs.Operators as values_operators
use Rattle.elaboration.specs.Marks as marks
use Rattle.elaboration.specs.Elaborating as elaborating
use Rattle.elaboration.specs.Whole as whole
use Rattle.elaboration.specs.Converting as converting
use Rattle.away_types.specs.Findings as types_findings
use Rattle.away_types.specs.ResolvedBodies as types_resolved_bodies
use Rattle.away_types.specs.StatementRules as types_statement_rules
use Rattle.away_types.specs.StatementTypes as types_statement_types
use Rattle.away_types.specs.Statements as types_statements
use Rattle.wider_recursion.specs.TakenRows as taken
use Rattle.wider_recursion.specs.Wider as wider
use Rattle.wider_recursion.specs.Worked.{WorkedRecursions}
use Rattle.wider_recursion.proofs.laws.worked_recursions_are_judged.Goals as goal

are : WorkedRecursions
unfolding b.hidden-the_row-Expr-0 b.hidden-the_row-Expr-Chain-1-2-1 b.hidden-the_row-Expr-2 b.hidden-the_row-Expr-Cases-0-2-3 b.hidden-the_row-Query-4 b.hidden-the_row-Select-5 b.hidden-the_row-Item-6 b.hidden-the_row-FromItem-7 b.hidden-the_row-Key-8 b.shown-the_row-Key-8 view.roll-Select view.roll-Recursive view.roll-Query view.out-Query view.out-Recursive view.out-Select denote.Hole.Carrier.hidden denote.Hole.Carrier.roll denote.Hole.Carrier.out denote.Hole.Carrier.shown digits names_files.file names_functions.function names_functions.is_aggregate names_lookups.place_of names_lookups.offers names_lookups.column_named names_lookups.column_qualified names_lookups.variable_named names_lookups.has_double names_lookups.is_kept names_naming.written names_naming.maybe_written names_naming.slot_or names_naming.named_by names_naming.named names_naming.qualified_by names_naming.qualified names_naming.unwritten names_naming.called names_naming.once_where names_naming.of_table names_naming.names_or names_naming.part_note names_naming.shown names_naming.named_as names_naming.is_alias names_naming.first_names names_rules.lesser names_rules.number names_notes.summed names_notes.clean names_notes.joined names_notes.breaks names_tables.table_of names_trees.named_expr names_trees.named_item names_trees.named_key names_trees.named_source names_trees.named_part names_trees.named_select names_trees.named_query names_trees.last_of names_trees.alone_of typing_aggregates.unused typing_aggregates.either typing_aggregates.of_slot typing_aggregates.of_column typing_aggregates.aggregated typing_aggregates.is_known_aggregate typing_aggregates.called typing_aggregates.of_query typing_aggregates.apart typing_aggregates.outside typing_aggregates.of_select typing_aggregates.or_ typing_kinds.same typing_kinds.only_if typing_kinds.meet typing_kinds.meet_types typing_kinds.is_number typing_kinds.is_integer typing_kinds.are_integers typing_kinds.sum_kind typing_typing.maybe_number values_operators.literal_type marks.marked_op elaborating.elaborated elaborating.elaborated_source elaborating.elaborated_from elaborating.elaborated_select elaborating.elaborated_query whole.marked_whole converting.converts converting.assignable converting.converted_to converting.first_mark converting.into_converted converting.converted converting.converted_arm typing_kinds.fits typing_kinds.is_right typing_kinds.settled typing_kinds.type_of typing_parameter_lists.with_expr typing_parameter_lists.with_source typing_parameter_lists.with_select typing_parameter_lists.with_query typing_parameters.taken typing_parameters.no_params typing_trees.uses_of typing_trees.uses_of_source typing_trees.uses_of_select typing_trees.uses_of_query typing_trees.names_at typing_trees.source_names_at typing_trees.select_names_at typing_trees.query_names_at typing_trees.kind_of typing_trees.shape_of_source typing_trees.shape_of_part typing_trees.kinds_of_select typing_trees.shape_of_query typing_typing.kind_at typing_typing.column typing_typing.pair typing_typing.passed typing_typing.castable typing_typing.cast_kind typing_typing.is_ordered typing_typing.call_kind typing_typing.called typing_typing.scalar_kind typing_typing.exists_kind typing_typing.listed typing_typing.table_shape typing_typing.maybe_fits typing_typing.select_kinds typing_typing.both typing_typing.further typing_typing.or_none typing_typing_lists.kinds_over typing_wholes.types_or_none typing_wholes.is_never typing_wholes.is_once typing_wholes.recursive_types typing_wholes.is_table typing_wholes.fits_shape typing_wholes.is_answer typing_wholes.first_type typing_wholes.judged types_findings.precedes types_findings.first_of types_findings.later types_findings.at_first types_findings.own types_findings.nothing types_findings.followed types_findings.both types_resolved_bodies.resolved_stmt types_resolved_bodies.resolved_arm types_statement_rules.may_exit types_statement_rules.may_continue types_statement_rules.closes types_statement_rules.lacks_default types_statement_rules.is_state types_statement_rules.may_raise types_statement_types.asked types_statement_types.asked_of_slot types_statement_types.asked_stmt types_statement_types.asked_arm types_statements.with_variable types_statements.with_slot types_statements.with_hidden types_statements.assigned types_statements.with_targets types_statements.target_by types_statement_types.takes types_statement_types.takes_list types_statement_types.asked_of_targets taken.of_alone taken.takes_rows wider.note_for_databases
are = record {
  own = (refl, refl);
  limited = (refl, refl);
  further = (refl, refl);
  furthest = (refl, refl);
  union = (refl, refl);
  condition = (refl, refl);
}

pub returns : goal.returns
returns c = are
