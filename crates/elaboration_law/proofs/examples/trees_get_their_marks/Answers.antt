use Rattle.std.proofs.Common.{refl}
use Rattle.away_trees.specs.declared.queries.Expr.TheBlock as b
use Rattle.away_trees.specs.declared.queries.Expr.TheViews as view
use Rattle.away_trees.specs.declared.statements.Stmt.TheBlock as s
use Rattle.away_names.specs.Functions.{function}
use Rattle.away_typing.specs.Kinds.{same, only_if, fits, is_right, settled, type_of}
use Rattle.away_typing.specs.Typing.{is_ordered, passed, scalar_kind, exists_kind, listed, table_shape, maybe_fits, or_none}
use Rattle.away_values.specs.Operators as o
use Rattle.away_typing.specs.Kinds as k
use Rattle.away_typing.specs.Typing as t
use Rattle.elaboration.specs.Marks as m
use Rattle.elaboration.specs.Elaborating as el
use Rattle.elaboration.specs.Converting as c
use Rattle.elaboration_law.proofs.examples.trees_get_their_marks.Goals as goal

pub returns-clause-over_and_null : goal.returns-clause-over_and_null
unfolding b.hidden-the_row-Expr-0 b.hidden-the_row-Expr-Chain-1-2-1 b.hidden-the_row-Expr-2 b.hidden-the_row-Expr-Cases-0-2-3 b.hidden-the_row-Query-4 b.hidden-the_row-Select-5 b.hidden-the_row-Item-6 b.hidden-the_row-FromItem-7 b.hidden-the_row-Key-8 view.roll-Select view.roll-Recursive view.roll-Query denote.Hole.Carrier.hidden denote.Hole.Carrier.roll s.hidden-the_row-Stmt-0 s.hidden-the_row-Arm-1 function same only_if fits is_right settled is_ordered passed scalar_kind exists_kind listed table_shape maybe_fits or_none k.meet k.meet_types o.literal_type k.is_number k.is_integer k.are_integers t.castable k.sum_kind t.kind_at t.column t.pair t.cast_kind t.call_kind t.called t.maybe_number t.select_kinds t.both t.further m.marked_op el.elaborated el.elaborated_select c.converts c.first_mark c.converted_to c.converted type_of
returns-clause-over_and_null c = record { marked = refl; kind = refl; value = refl }

pub returns-clause-null_and_null : goal.returns-clause-null_and_null
unfolding b.hidden-the_row-Expr-0 b.hidden-the_row-Expr-Chain-1-2-1 b.hidden-the_row-Expr-2 b.hidden-the_row-Expr-Cases-0-2-3 b.hidden-the_row-Query-4 b.hidden-the_row-Select-5 b.hidden-the_row-Item-6 b.hidden-the_row-FromItem-7 b.hidden-the_row-Key-8 view.roll-Select view.roll-Recursive view.roll-Query denote.Hole.Carrier.hidden denote.Hole.Carrier.roll s.hidden-the_row-Stmt-0 s.hidden-the_row-Arm-1 function same only_if fits is_right settled is_ordered passed scalar_kind exists_kind listed table_shape maybe_fits or_none k.meet k.meet_types o.literal_type k.is_number k.is_integer k.are_integers t.castable k.sum_kind t.kind_at t.column t.pair t.cast_kind t.call_kind t.called t.maybe_number t.select_kinds t.both t.further m.marked_op el.elaborated el.elaborated_select c.converts c.first_mark c.converted_to c.converted type_of
returns-clause-null_and_null c = record { marked = refl; kind = refl; value = refl }

pub returns-clause-of_nulls : goal.returns-clause-of_nulls
unfolding b.hidden-the_row-Expr-0 b.hidden-the_row-Expr-Chain-1-2-1 b.hidden-the_row-Expr-2 b.hidden-the_row-Expr-Cases-0-2-3 b.hidden-the_row-Query-4 b.hidden-the_row-Select-5 b.hidden-the_row-Item-6 b.hidden-the_row-FromItem-7 b.hidden-the_row-Key-8 view.roll-Select view.roll-Recursive view.roll-Query denote.Hole.Carrier.hidden denote.Hole.Carrier.roll s.hidden-the_row-Stmt-0 s.hidden-the_row-Arm-1 function same only_if fits is_right settled is_ordered passed scalar_kind exists_kind listed table_shape maybe_fits or_none k.meet k.meet_types o.literal_type k.is_number k.is_integer k.are_integers t.castable k.sum_kind t.kind_at t.column t.pair t.cast_kind t.call_kind t.called t.maybe_number t.select_kinds t.both t.further m.marked_op el.elaborated el.elaborated_select c.converts c.first_mark c.converted_to c.converted type_of
returns-clause-of_nulls c = record { marked = refl; kind = refl; value = refl }

pub returns-clause-from_bigint : goal.returns-clause-from_bigint
unfolding b.hidden-the_row-Expr-0 b.hidden-the_row-Expr-Chain-1-2-1 b.hidden-the_row-Expr-2 b.hidden-the_row-Expr-Cases-0-2-3 b.hidden-the_row-Query-4 b.hidden-the_row-Select-5 b.hidden-the_row-Item-6 b.hidden-the_row-FromItem-7 b.hidden-the_row-Key-8 view.roll-Select view.roll-Recursive view.roll-Query denote.Hole.Carrier.hidden denote.Hole.Carrier.roll s.hidden-the_row-Stmt-0 s.hidden-the_row-Arm-1 function same only_if fits is_right settled is_ordered passed scalar_kind exists_kind listed table_shape maybe_fits or_none k.meet k.meet_types o.literal_type k.is_number k.is_integer k.are_integers t.castable k.sum_kind t.kind_at t.column t.pair t.cast_kind t.call_kind t.called t.maybe_number t.select_kinds t.both t.further m.marked_op el.elaborated el.elaborated_select c.converts c.first_mark c.converted_to c.converted type_of
returns-clause-from_bigint c = record { marked = refl; kind = refl; value = refl }

pub returns-clause-late_bigint : goal.returns-clause-late_bigint
unfolding b.hidden-the_row-Expr-0 b.hidden-the_row-Expr-Chain-1-2-1 b.hidden-the_row-Expr-2 b.hidden-the_row-Expr-Cases-0-2-3 b.hidden-the_row-Query-4 b.hidden-the_row-Select-5 b.hidden-the_row-Item-6 b.hidden-the_row-FromItem-7 b.hidden-the_row-Key-8 view.roll-Select view.roll-Recursive view.roll-Query denote.Hole.Carrier.hidden denote.Hole.Carrier.roll s.hidden-the_row-Stmt-0 s.hidden-the_row-Arm-1 function same only_if fits is_right settled is_ordered passed scalar_kind exists_kind listed table_shape maybe_fits or_none k.meet k.meet_types o.literal_type k.is_number k.is_integer k.are_integers t.castable k.sum_kind t.kind_at t.column t.pair t.cast_kind t.call_kind t.called t.maybe_number t.select_kinds t.both t.further m.marked_op el.elaborated el.elaborated_select c.converts c.first_mark c.converted_to c.converted type_of
returns-clause-late_bigint c = record { marked = refl; kind = refl; value = refl }

pub returns-clause-either_type : goal.returns-clause-either_type
unfolding b.hidden-the_row-Expr-0 b.hidden-the_row-Expr-Chain-1-2-1 b.hidden-the_row-Expr-2 b.hidden-the_row-Expr-Cases-0-2-3 b.hidden-the_row-Query-4 b.hidden-the_row-Select-5 b.hidden-the_row-Item-6 b.hidden-the_row-FromItem-7 b.hidden-the_row-Key-8 view.roll-Select view.roll-Recursive view.roll-Query denote.Hole.Carrier.hidden denote.Hole.Carrier.roll s.hidden-the_row-Stmt-0 s.hidden-the_row-Arm-1 function same only_if fits is_right settled is_ordered passed scalar_kind exists_kind listed table_shape maybe_fits or_none k.meet k.meet_types o.literal_type k.is_number k.is_integer k.are_integers t.castable k.sum_kind t.kind_at t.column t.pair t.cast_kind t.call_kind t.called t.maybe_number t.select_kinds t.both t.further m.marked_op el.elaborated el.elaborated_select c.converts c.first_mark c.converted_to c.converted type_of
returns-clause-either_type c = record { marked = refl; kind = refl; value = refl }

pub returns-clause-known_integer : goal.returns-clause-known_integer
unfolding b.hidden-the_row-Expr-0 b.hidden-the_row-Expr-Chain-1-2-1 b.hidden-the_row-Expr-2 b.hidden-the_row-Expr-Cases-0-2-3 b.hidden-the_row-Query-4 b.hidden-the_row-Select-5 b.hidden-the_row-Item-6 b.hidden-the_row-FromItem-7 b.hidden-the_row-Key-8 view.roll-Select view.roll-Recursive view.roll-Query denote.Hole.Carrier.hidden denote.Hole.Carrier.roll s.hidden-the_row-Stmt-0 s.hidden-the_row-Arm-1 function same only_if fits is_right settled is_ordered passed scalar_kind exists_kind listed table_shape maybe_fits or_none k.meet k.meet_types o.literal_type k.is_number k.is_integer k.are_integers t.castable k.sum_kind t.kind_at t.column t.pair t.cast_kind t.call_kind t.called t.maybe_number t.select_kinds t.both t.further m.marked_op el.elaborated el.elaborated_select c.converts c.first_mark c.converted_to c.converted type_of
returns-clause-known_integer c = record { marked = refl; kind = refl; value = refl }

pub returns-clause-minus_of_cast : goal.returns-clause-minus_of_cast
unfolding b.hidden-the_row-Expr-0 b.hidden-the_row-Expr-Chain-1-2-1 b.hidden-the_row-Expr-2 b.hidden-the_row-Expr-Cases-0-2-3 b.hidden-the_row-Query-4 b.hidden-the_row-Select-5 b.hidden-the_row-Item-6 b.hidden-the_row-FromItem-7 b.hidden-the_row-Key-8 view.roll-Select view.roll-Recursive view.roll-Query denote.Hole.Carrier.hidden denote.Hole.Carrier.roll s.hidden-the_row-Stmt-0 s.hidden-the_row-Arm-1 function same only_if fits is_right settled is_ordered passed scalar_kind exists_kind listed table_shape maybe_fits or_none k.meet k.meet_types o.literal_type k.is_number k.is_integer k.are_integers t.castable k.sum_kind t.kind_at t.column t.pair t.cast_kind t.call_kind t.called t.maybe_number t.select_kinds t.both t.further m.marked_op el.elaborated el.elaborated_select c.converts c.first_mark c.converted_to c.converted type_of
returns-clause-minus_of_cast c = record { marked = refl; kind = refl; value = refl }

pub returns-clause-cast_of_minus : goal.returns-clause-cast_of_minus
unfolding b.hidden-the_row-Expr-0 b.hidden-the_row-Expr-Chain-1-2-1 b.hidden-the_row-Expr-2 b.hidden-the_row-Expr-Cases-0-2-3 b.hidden-the_row-Query-4 b.hidden-the_row-Select-5 b.hidden-the_row-Item-6 b.hidden-the_row-FromItem-7 b.hidden-the_row-Key-8 view.roll-Select view.roll-Recursive view.roll-Query denote.Hole.Carrier.hidden denote.Hole.Carrier.roll s.hidden-the_row-Stmt-0 s.hidden-the_row-Arm-1 function same only_if fits is_right settled is_ordered passed scalar_kind exists_kind listed table_shape maybe_fits or_none k.meet k.meet_types o.literal_type k.is_number k.is_integer k.are_integers t.castable k.sum_kind t.kind_at t.column t.pair t.cast_kind t.call_kind t.called t.maybe_number t.select_kinds t.both t.further m.marked_op el.elaborated el.elaborated_select c.converts c.first_mark c.converted_to c.converted type_of
returns-clause-cast_of_minus c = record { marked = refl; kind = refl; value = refl }

pub returns-clause-long_text : goal.returns-clause-long_text
unfolding b.hidden-the_row-Expr-0 b.hidden-the_row-Expr-Chain-1-2-1 b.hidden-the_row-Expr-2 b.hidden-the_row-Expr-Cases-0-2-3 b.hidden-the_row-Query-4 b.hidden-the_row-Select-5 b.hidden-the_row-Item-6 b.hidden-the_row-FromItem-7 b.hidden-the_row-Key-8 view.roll-Select view.roll-Recursive view.roll-Query denote.Hole.Carrier.hidden denote.Hole.Carrier.roll s.hidden-the_row-Stmt-0 s.hidden-the_row-Arm-1 function same only_if fits is_right settled is_ordered passed scalar_kind exists_kind listed table_shape maybe_fits or_none k.meet k.meet_types o.literal_type k.is_number k.is_integer k.are_integers t.castable k.sum_kind t.kind_at t.column t.pair t.cast_kind t.call_kind t.called t.maybe_number t.select_kinds t.both t.further m.marked_op el.elaborated el.elaborated_select c.converts c.first_mark c.converted_to c.converted type_of
returns-clause-long_text c = record { marked = refl; kind = refl; value = refl }

pub returns-clause-as_text : goal.returns-clause-as_text
unfolding b.hidden-the_row-Expr-0 b.hidden-the_row-Expr-Chain-1-2-1 b.hidden-the_row-Expr-2 b.hidden-the_row-Expr-Cases-0-2-3 b.hidden-the_row-Query-4 b.hidden-the_row-Select-5 b.hidden-the_row-Item-6 b.hidden-the_row-FromItem-7 b.hidden-the_row-Key-8 view.roll-Select view.roll-Recursive view.roll-Query denote.Hole.Carrier.hidden denote.Hole.Carrier.roll s.hidden-the_row-Stmt-0 s.hidden-the_row-Arm-1 function same only_if fits is_right settled is_ordered passed scalar_kind exists_kind listed table_shape maybe_fits or_none k.meet k.meet_types o.literal_type k.is_number k.is_integer k.are_integers t.castable k.sum_kind t.kind_at t.column t.pair t.cast_kind t.call_kind t.called t.maybe_number t.select_kinds t.both t.further m.marked_op el.elaborated el.elaborated_select c.converts c.first_mark c.converted_to c.converted type_of
returns-clause-as_text c = record { marked = refl; kind = refl; value = refl }

pub returns-clause-of_union : goal.returns-clause-of_union
unfolding b.hidden-the_row-Expr-0 b.hidden-the_row-Expr-Chain-1-2-1 b.hidden-the_row-Expr-2 b.hidden-the_row-Expr-Cases-0-2-3 b.hidden-the_row-Query-4 b.hidden-the_row-Select-5 b.hidden-the_row-Item-6 b.hidden-the_row-FromItem-7 b.hidden-the_row-Key-8 view.roll-Select view.roll-Recursive view.roll-Query denote.Hole.Carrier.hidden denote.Hole.Carrier.roll s.hidden-the_row-Stmt-0 s.hidden-the_row-Arm-1 function same only_if fits is_right settled is_ordered passed scalar_kind exists_kind listed table_shape maybe_fits or_none k.meet k.meet_types o.literal_type k.is_number k.is_integer k.are_integers t.castable k.sum_kind t.kind_at t.column t.pair t.cast_kind t.call_kind t.called t.maybe_number t.select_kinds t.both t.further m.marked_op el.elaborated el.elaborated_select c.converts c.first_mark c.converted_to c.converted type_of
returns-clause-of_union c = record { marked = refl; kind = refl; value = refl }

pub returns-clause-of_integers : goal.returns-clause-of_integers
unfolding b.hidden-the_row-Expr-0 b.hidden-the_row-Expr-Chain-1-2-1 b.hidden-the_row-Expr-2 b.hidden-the_row-Expr-Cases-0-2-3 b.hidden-the_row-Query-4 b.hidden-the_row-Select-5 b.hidden-the_row-Item-6 b.hidden-the_row-FromItem-7 b.hidden-the_row-Key-8 view.roll-Select view.roll-Recursive view.roll-Query denote.Hole.Carrier.hidden denote.Hole.Carrier.roll s.hidden-the_row-Stmt-0 s.hidden-the_row-Arm-1 function same only_if fits is_right settled is_ordered passed scalar_kind exists_kind listed table_shape maybe_fits or_none k.meet k.meet_types o.literal_type k.is_number k.is_integer k.are_integers t.castable k.sum_kind t.kind_at t.column t.pair t.cast_kind t.call_kind t.called t.maybe_number t.select_kinds t.both t.further m.marked_op el.elaborated el.elaborated_select c.converts c.first_mark c.converted_to c.converted type_of
returns-clause-of_integers c = refl

pub returns-clause-of_sums : goal.returns-clause-of_sums
unfolding b.hidden-the_row-Expr-0 b.hidden-the_row-Expr-Chain-1-2-1 b.hidden-the_row-Expr-2 b.hidden-the_row-Expr-Cases-0-2-3 b.hidden-the_row-Query-4 b.hidden-the_row-Select-5 b.hidden-the_row-Item-6 b.hidden-the_row-FromItem-7 b.hidden-the_row-Key-8 view.roll-Select view.roll-Recursive view.roll-Query denote.Hole.Carrier.hidden denote.Hole.Carrier.roll s.hidden-the_row-Stmt-0 s.hidden-the_row-Arm-1 function same only_if fits is_right settled is_ordered passed scalar_kind exists_kind listed table_shape maybe_fits or_none k.meet k.meet_types o.literal_type k.is_number k.is_integer k.are_integers t.castable k.sum_kind t.kind_at t.column t.pair t.cast_kind t.call_kind t.called t.maybe_number t.select_kinds t.both t.further m.marked_op el.elaborated el.elaborated_select c.converts c.first_mark c.converted_to c.converted type_of
returns-clause-of_sums c = refl
