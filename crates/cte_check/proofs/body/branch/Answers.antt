use Rattle.std.proofs.Common.{None, length, refl, sym, ap, ◌∙◌, subst, arith}
use Rattle.cte_reads.specs.declared.scope.Scope as names
use Rattle.cte_check.specs.Walks.{InSight}
use Rattle.cte_check.specs.declared.body.Walk as walk
use Rattle.cte_check.proofs.Standing.{as_many_columns, rows_in_sight}
use Rattle.cte_check.proofs.Walking as walking
use Rattle.cte_check.proofs.body.branch.Goals as goal

pub body-requires-clause-sound : goal.body-requires-clause-sound
body-requires-clause-sound c =
    let params = c.params_of-params.result.now in
    let places = c.places_of.result.now in
    record {
      as_many = ap length c.in_ok-label_refs.ensures ∙ as_many_columns params places;
      in_sight = subst (InSight 0 None) (sym c.in_ok-label_refs.ensures) (rows_in_sight params places);
      few_selects = omega arith;
      few_items = omega arith;
    }

pub returns : goal.returns
returns c = λ table given.
    let scope : names.Scope = record { set = None; names = c.params_of-params.result; refs = c.in_ok-label_refs.field-0 } in
    let start : walk.Walk =
    record { block = c.args.of; at = c.open_body.result; items = 1; depth = 0; fuel = length c.args.g.now.blocks.now; scope = scope } in
    walking.after_branch table c.args.g.now c.args.label c.args.of start c.places_of.result.now c.args.at c.end_of_body.result c.in_ok-at.at refl c.in_ok-label_refs.ensures
    c.params_of-params.ensures c.places_of.ensures refl refl refl refl c.open_body.ensures (c.in_ok-at.ensures table given) c.end_of_body.ensures
