use Rattle.std.proofs.Common.{◌≡◌, ◌∷◌, [], List, Some, ap, subst, ◌∙◌}
use Rattle.away_trees.specs.declared.queries.Expr.TheViews.{roll-Query}
use Rattle.away_values.specs.declared.types.Ty.{Ty}
use Rattle.cte_template.specs.CarriedNumbers as carrying
use Rattle.cte_template.specs.CarriedTree.{carried_table}
use Rattle.cte_template.specs.Making.{Making, making}
use Rattle.cte_template.proofs.template.tree.Goals as goal

pub returns-clause-is : goal.returns-clause-is
returns-clause-is c =
    let m : Making = making c.args.w.now in
    λ i. roll-Query (record {
      recursive = Some ((c.in_ok-recursive.ensures.is
          ∙ (λ j. carried_table m (c.requires.one j) ((c.in_ok-first.ensures ∙ ap (λ s. s ∷ []) c.in_ok-start.ensures) j) c.args.tables)) i);
      selects = (c.in_ok-selects.ensures ∙ ap (λ s. s ∷ []) c.in_ok-last.ensures) i;
    })

pub returns-clause-fits : goal.returns-clause-fits
returns-clause-fits c =
    let m : Making = making c.args.w.now in
    let fits : carrying.NumbersFit m [] = subst (λ (ts : List Ty). carrying.NumbersFit m ts) c.requires.one c.in_ok-recursive.ensures.fits in
    record { columns = fits.columns; aliases = fits.aliases }
