use Rattle.std.proofs.Common.{refl}
use Rattle.away_trees.specs.declared.queries.Expr.TheBlock as b
use Rattle.away_trees.specs.declared.queries.Expr.TheViews as view
use Rattle.away_trees.specs.declared.statements.Stmt.TheBlock as s
use Rattle.away_names.specs.Functions.{function}
use Rattle.away_typing.specs.Kinds.{same, only_if, fits, is_right, settled, type_of}
use Rattle.away_typing.specs.Typing.{is_ordered, passed, scalar_kind, exists_kind, listed, table_shape, maybe_fits, or_none}
use Rattle.away_values.specs.Operators as o
use Rattle.away_typing.specs.Kinds as k
use Rattle.away_typing.specs.Typing as t
use Rattle.elaboration.specs.Marks as m
use Rattle.elaboration.specs.Elaborating as el
use Rattle.elaboration.specs.Converting as c
use Rattle.elaboration_law.proofs.examples.statements_get_their_casts.Goals as goal

pub returns-clause-to_bigint : goal.returns-clause-to_bigint
unfolding b.hidden-the_row-Expr-0 b.hidden-the_row-Expr-Chain-1-2-1 b.hidden-the_row-Expr-2 b.hidden-the_row-Expr-Cases-0-2-3 b.hidden-the_row-Query-4 b.hidden-the_row-Select-5 b.hidden-the_row-Item-6 b.hidden-the_row-FromItem-7 b.hidden-the_row-Key-8 view.roll-Select view.roll-Recursive view.roll-Query denote.Hole.Carrier.hidden denote.Hole.Carrier.roll s.hidden-the_row-Stmt-0 s.hidden-the_row-Arm-1 function same only_if fits is_right settled is_ordered passed scalar_kind exists_kind listed table_shape maybe_fits or_none k.meet k.meet_types o.literal_type k.is_number k.is_integer k.are_integers t.castable k.sum_kind t.kind_at t.column t.pair t.cast_kind t.call_kind t.called t.maybe_number t.select_kinds t.both t.further m.marked_op el.elaborated el.elaborated_select c.converts c.first_mark c.converted_to c.converted type_of
returns-clause-to_bigint c = refl

pub returns-clause-to_integer : goal.returns-clause-to_integer
unfolding b.hidden-the_row-Expr-0 b.hidden-the_row-Expr-Chain-1-2-1 b.hidden-the_row-Expr-2 b.hidden-the_row-Expr-Cases-0-2-3 b.hidden-the_row-Query-4 b.hidden-the_row-Select-5 b.hidden-the_row-Item-6 b.hidden-the_row-FromItem-7 b.hidden-the_row-Key-8 view.roll-Select view.roll-Recursive view.roll-Query denote.Hole.Carrier.hidden denote.Hole.Carrier.roll s.hidden-the_row-Stmt-0 s.hidden-the_row-Arm-1 function same only_if fits is_right settled is_ordered passed scalar_kind exists_kind listed table_shape maybe_fits or_none k.meet k.meet_types o.literal_type k.is_number k.is_integer k.are_integers t.castable k.sum_kind t.kind_at t.column t.pair t.cast_kind t.call_kind t.called t.maybe_number t.select_kinds t.both t.further m.marked_op el.elaborated el.elaborated_select c.converts c.first_mark c.converted_to c.converted type_of
returns-clause-to_integer c = refl

pub returns-clause-same_type : goal.returns-clause-same_type
unfolding b.hidden-the_row-Expr-0 b.hidden-the_row-Expr-Chain-1-2-1 b.hidden-the_row-Expr-2 b.hidden-the_row-Expr-Cases-0-2-3 b.hidden-the_row-Query-4 b.hidden-the_row-Select-5 b.hidden-the_row-Item-6 b.hidden-the_row-FromItem-7 b.hidden-the_row-Key-8 view.roll-Select view.roll-Recursive view.roll-Query denote.Hole.Carrier.hidden denote.Hole.Carrier.roll s.hidden-the_row-Stmt-0 s.hidden-the_row-Arm-1 function same only_if fits is_right settled is_ordered passed scalar_kind exists_kind listed table_shape maybe_fits or_none k.meet k.meet_types o.literal_type k.is_number k.is_integer k.are_integers t.castable k.sum_kind t.kind_at t.column t.pair t.cast_kind t.call_kind t.called t.maybe_number t.select_kinds t.both t.further m.marked_op el.elaborated el.elaborated_select c.converts c.first_mark c.converted_to c.converted type_of
returns-clause-same_type c = refl

pub returns-clause-null : goal.returns-clause-null
unfolding b.hidden-the_row-Expr-0 b.hidden-the_row-Expr-Chain-1-2-1 b.hidden-the_row-Expr-2 b.hidden-the_row-Expr-Cases-0-2-3 b.hidden-the_row-Query-4 b.hidden-the_row-Select-5 b.hidden-the_row-Item-6 b.hidden-the_row-FromItem-7 b.hidden-the_row-Key-8 view.roll-Select view.roll-Recursive view.roll-Query denote.Hole.Carrier.hidden denote.Hole.Carrier.roll s.hidden-the_row-Stmt-0 s.hidden-the_row-Arm-1 function same only_if fits is_right settled is_ordered passed scalar_kind exists_kind listed table_shape maybe_fits or_none k.meet k.meet_types o.literal_type k.is_number k.is_integer k.are_integers t.castable k.sum_kind t.kind_at t.column t.pair t.cast_kind t.call_kind t.called t.maybe_number t.select_kinds t.both t.further m.marked_op el.elaborated el.elaborated_select c.converts c.first_mark c.converted_to c.converted type_of
returns-clause-null c = refl

pub returns-clause-returned : goal.returns-clause-returned
unfolding b.hidden-the_row-Expr-0 b.hidden-the_row-Expr-Chain-1-2-1 b.hidden-the_row-Expr-2 b.hidden-the_row-Expr-Cases-0-2-3 b.hidden-the_row-Query-4 b.hidden-the_row-Select-5 b.hidden-the_row-Item-6 b.hidden-the_row-FromItem-7 b.hidden-the_row-Key-8 view.roll-Select view.roll-Recursive view.roll-Query denote.Hole.Carrier.hidden denote.Hole.Carrier.roll s.hidden-the_row-Stmt-0 s.hidden-the_row-Arm-1 function same only_if fits is_right settled is_ordered passed scalar_kind exists_kind listed table_shape maybe_fits or_none k.meet k.meet_types o.literal_type k.is_number k.is_integer k.are_integers t.castable k.sum_kind t.kind_at t.column t.pair t.cast_kind t.call_kind t.called t.maybe_number t.select_kinds t.both t.further m.marked_op el.elaborated el.elaborated_select c.converts c.first_mark c.converted_to c.converted type_of
returns-clause-returned c = refl

pub returns-clause-test : goal.returns-clause-test
unfolding b.hidden-the_row-Expr-0 b.hidden-the_row-Expr-Chain-1-2-1 b.hidden-the_row-Expr-2 b.hidden-the_row-Expr-Cases-0-2-3 b.hidden-the_row-Query-4 b.hidden-the_row-Select-5 b.hidden-the_row-Item-6 b.hidden-the_row-FromItem-7 b.hidden-the_row-Key-8 view.roll-Select view.roll-Recursive view.roll-Query denote.Hole.Carrier.hidden denote.Hole.Carrier.roll s.hidden-the_row-Stmt-0 s.hidden-the_row-Arm-1 function same only_if fits is_right settled is_ordered passed scalar_kind exists_kind listed table_shape maybe_fits or_none k.meet k.meet_types o.literal_type k.is_number k.is_integer k.are_integers t.castable k.sum_kind t.kind_at t.column t.pair t.cast_kind t.call_kind t.called t.maybe_number t.select_kinds t.both t.further m.marked_op el.elaborated el.elaborated_select c.converts c.first_mark c.converted_to c.converted type_of
returns-clause-test c = refl

pub returns-clause-bounds : goal.returns-clause-bounds
unfolding b.hidden-the_row-Expr-0 b.hidden-the_row-Expr-Chain-1-2-1 b.hidden-the_row-Expr-2 b.hidden-the_row-Expr-Cases-0-2-3 b.hidden-the_row-Query-4 b.hidden-the_row-Select-5 b.hidden-the_row-Item-6 b.hidden-the_row-FromItem-7 b.hidden-the_row-Key-8 view.roll-Select view.roll-Recursive view.roll-Query denote.Hole.Carrier.hidden denote.Hole.Carrier.roll s.hidden-the_row-Stmt-0 s.hidden-the_row-Arm-1 function same only_if fits is_right settled is_ordered passed scalar_kind exists_kind listed table_shape maybe_fits or_none k.meet k.meet_types o.literal_type k.is_number k.is_integer k.are_integers t.castable k.sum_kind t.kind_at t.column t.pair t.cast_kind t.call_kind t.called t.maybe_number t.select_kinds t.both t.further m.marked_op el.elaborated el.elaborated_select c.converts c.first_mark c.converted_to c.converted type_of
returns-clause-bounds c = refl

pub returns-clause-small_bounds : goal.returns-clause-small_bounds
unfolding b.hidden-the_row-Expr-0 b.hidden-the_row-Expr-Chain-1-2-1 b.hidden-the_row-Expr-2 b.hidden-the_row-Expr-Cases-0-2-3 b.hidden-the_row-Query-4 b.hidden-the_row-Select-5 b.hidden-the_row-Item-6 b.hidden-the_row-FromItem-7 b.hidden-the_row-Key-8 view.roll-Select view.roll-Recursive view.roll-Query denote.Hole.Carrier.hidden denote.Hole.Carrier.roll s.hidden-the_row-Stmt-0 s.hidden-the_row-Arm-1 function same only_if fits is_right settled is_ordered passed scalar_kind exists_kind listed table_shape maybe_fits or_none k.meet k.meet_types o.literal_type k.is_number k.is_integer k.are_integers t.castable k.sum_kind t.kind_at t.column t.pair t.cast_kind t.call_kind t.called t.maybe_number t.select_kinds t.both t.further m.marked_op el.elaborated el.elaborated_select c.converts c.first_mark c.converted_to c.converted type_of
returns-clause-small_bounds c = refl

pub returns-clause-into_kinds : goal.returns-clause-into_kinds
unfolding b.hidden-the_row-Expr-0 b.hidden-the_row-Expr-Chain-1-2-1 b.hidden-the_row-Expr-2 b.hidden-the_row-Expr-Cases-0-2-3 b.hidden-the_row-Query-4 b.hidden-the_row-Select-5 b.hidden-the_row-Item-6 b.hidden-the_row-FromItem-7 b.hidden-the_row-Key-8 view.roll-Select view.roll-Recursive view.roll-Query denote.Hole.Carrier.hidden denote.Hole.Carrier.roll s.hidden-the_row-Stmt-0 s.hidden-the_row-Arm-1 function same only_if fits is_right settled is_ordered passed scalar_kind exists_kind listed table_shape maybe_fits or_none k.meet k.meet_types o.literal_type k.is_number k.is_integer k.are_integers t.castable k.sum_kind t.kind_at t.column t.pair t.cast_kind t.call_kind t.called t.maybe_number t.select_kinds t.both t.further m.marked_op el.elaborated el.elaborated_select c.converts c.first_mark c.converted_to c.converted type_of
returns-clause-into_kinds c = refl

pub returns-clause-into_marks : goal.returns-clause-into_marks
unfolding b.hidden-the_row-Expr-0 b.hidden-the_row-Expr-Chain-1-2-1 b.hidden-the_row-Expr-2 b.hidden-the_row-Expr-Cases-0-2-3 b.hidden-the_row-Query-4 b.hidden-the_row-Select-5 b.hidden-the_row-Item-6 b.hidden-the_row-FromItem-7 b.hidden-the_row-Key-8 view.roll-Select view.roll-Recursive view.roll-Query denote.Hole.Carrier.hidden denote.Hole.Carrier.roll s.hidden-the_row-Stmt-0 s.hidden-the_row-Arm-1 function same only_if fits is_right settled is_ordered passed scalar_kind exists_kind listed table_shape maybe_fits or_none k.meet k.meet_types o.literal_type k.is_number k.is_integer k.are_integers t.castable k.sum_kind t.kind_at t.column t.pair t.cast_kind t.call_kind t.called t.maybe_number t.select_kinds t.both t.further m.marked_op el.elaborated el.elaborated_select c.converts c.first_mark c.converted_to c.converted type_of
returns-clause-into_marks c = refl

pub returns-clause-into_itself : goal.returns-clause-into_itself
unfolding b.hidden-the_row-Expr-0 b.hidden-the_row-Expr-Chain-1-2-1 b.hidden-the_row-Expr-2 b.hidden-the_row-Expr-Cases-0-2-3 b.hidden-the_row-Query-4 b.hidden-the_row-Select-5 b.hidden-the_row-Item-6 b.hidden-the_row-FromItem-7 b.hidden-the_row-Key-8 view.roll-Select view.roll-Recursive view.roll-Query denote.Hole.Carrier.hidden denote.Hole.Carrier.roll s.hidden-the_row-Stmt-0 s.hidden-the_row-Arm-1 function same only_if fits is_right settled is_ordered passed scalar_kind exists_kind listed table_shape maybe_fits or_none k.meet k.meet_types o.literal_type k.is_number k.is_integer k.are_integers t.castable k.sum_kind t.kind_at t.column t.pair t.cast_kind t.call_kind t.called t.maybe_number t.select_kinds t.both t.further m.marked_op el.elaborated el.elaborated_select c.converts c.first_mark c.converted_to c.converted type_of
returns-clause-into_itself c = refl
