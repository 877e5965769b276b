use Rattle.std.proofs.Common.{refl, true, [], ◌∷◌, Contains, arith}
use Rattle.away_trees.specs.declared.queries.Expr.TheBlock as b
use Rattle.away_trees.specs.declared.queries.Expr.TheViews as view
use Rattle.away_trees.specs.declared.queries.Expr.TheVariants as e
use Rattle.away_values.specs.declared.operators.CmpOp.TheVariants as cmp
use Rattle.away_names.specs.Lookups as l
use Rattle.away_names.specs.Naming as n
use Rattle.away_names.specs.Notes as m
use Rattle.away_names.specs.Rules as r
use Rattle.away_names.specs.Trees as t
use Rattle.std.specs.Prelude.{codes}
use Rattle.broken_names.specs.Holds as h
use Rattle.broken_names.proofs.Finding.{stands}
use Rattle.broken_names.proofs.worked.worked_expressions_have_culprits.Goals as goal

only : {A : Type 0} {x : A} → Contains (x ∷ []) x
only {x = x} = stands (x ∷ []) 0 x refl (omega arith)

pub returns : goal.returns
unfolding b.hidden-the_row-Expr-0 b.hidden-the_row-Query-4 b.hidden-the_row-Select-5 b.hidden-the_row-Item-6 b.hidden-the_row-FromItem-7 b.hidden-the_row-Key-8 view.roll-Select view.roll-Query view.out-Query view.out-Select b.shown-the_row-Select-5 b.shown-the_row-Item-6 b.shown-the_row-FromItem-7 b.shown-the_row-Key-8 denote.Hole.Carrier.hidden denote.Hole.Carrier.roll denote.Hole.Carrier.out denote.Hole.Carrier.shown n.named n.named_by n.slot_or n.written n.part_note n.of_table n.once_where n.qualified n.qualified_by l.column_named l.column_qualified l.variable_named l.place_of l.offers l.is_kept l.has_double m.breaks m.joined m.clean m.summed r.lesser r.number t.named_part
returns c = record {
  name = h.in_scalar (h.in_selects only (h.in_body (h.in_filter (h.in_some (h.in_left cmp.Eq (e.Named (codes "k")) (h.a_name refl))))));
  both = h.in_scalar (h.in_selects only (h.in_body (h.in_list _ only (h.a_name refl))));
  column = h.in_exists (h.in_selects only (h.in_from (h.later_item (h.this_item _ (h.in_subquery true (h.in_selects only (h.in_body (h.in_list _ only (h.a_column refl)))))))));
  table = h.in_exists (h.in_selects only (h.in_from (h.this_item _ (h.a_table refl refl))));
}
