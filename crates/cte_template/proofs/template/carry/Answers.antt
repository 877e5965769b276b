use Rattle.std.proofs.Common.{◌≡◌, ap, ◌∙◌, List, length, IfOk}
use Rattle.away_trees.specs.declared.queries.Select.{Select}
use Rattle.away_values.specs.declared.types.Ty.{Ty}
use Rattle.block_forms.specs.Expressions.{expressions}
use Rattle.call_forms.specs.Carried.{Carried}
use Rattle.call_forms.specs.Carrying.{with_part}
use Rattle.sql_meaning.specs.Names.{bare}
use Rattle.cte_template.specs.CarriedNumbers.{NumbersFit}
use Rattle.cte_template.specs.CarriedTree.{carried_table}
use Rattle.cte_template.specs.Making.{Making, making_of}
use Rattle.call_law.proofs.FormTerms.{terms_fit, fails_fit}
use Rattle.call_law.proofs.HasTrees.{labels_have_trees}
use Rattle.cte_parts.proofs.Results.{ok_by}
use Rattle.cte_template.proofs.CarriedTemplate.{table_is_templates}
use Rattle.cte_template.proofs.Makings.{of_function}
use Rattle.cte_template.proofs.template.carry.Goals as goal

pub carried_table-requires : goal.carried_table-requires
carried_table-requires c =
    let f = c.args.f.now in
    record { classes = fails_fit f.function f.slots c.args.goto.now c.requires.lowered (length f.slots) (length f.function.params) c.args.ssa.now c.requires.named c.args.anf.now c.requires.called }

pub returns-clause-is : goal.returns-clause-is
returns-clause-is c =
    let f = c.args.f.now in
    let P : Making → Type 0 = λ (m : Making). IfOk c.carried_table.result (λ r. r ≡ carried_table m c.args.carried.now c.args.first c.args.tables) in
    of_function f.function f.slots c.args.ssa.now c.args.anf.now c.args.tail.now P c.as_slice.result.now c.as_slice-2.result.now c.as_slice-3.result.now
    (c.as_slice.ensures ∙ c.requires.entries) c.as_slice-2.ensures c.as_slice-3.ensures c.carried_table.ensures.is

pub returns-clause-fits : goal.returns-clause-fits
returns-clause-fits c =
    let f = c.args.f.now in
    let P : Making → Type 0 = λ (m : Making). IfOk c.carried_table.result (λ r. NumbersFit m c.args.carried.now) in
    of_function f.function f.slots c.args.ssa.now c.args.anf.now c.args.tail.now P c.as_slice.result.now c.as_slice-2.result.now c.as_slice-3.result.now
    (c.as_slice.ensures ∙ c.requires.entries) c.as_slice-2.ensures c.as_slice-3.ensures c.carried_table.ensures.fits

pub returns-clause-carried : goal.returns-clause-carried
returns-clause-carried c =
    let f = c.args.f.now in
    let g = c.args.goto.now in
    let z = c.args.ssa.now in
    let a = c.args.anf.now in
    let r = c.args.tail.now in
    let carried : List Ty = c.args.carried.now in
    let first : List Select = c.args.first in
    let made : Making = making_of f.function f.slots z a r in
    let terms = terms_fit f.function f.slots g c.requires.lowered (length f.slots) (length f.function.params) z c.requires.named a c.requires.called in
    let trees = labels_have_trees f.slots g z a r (expressions f.function) c.requires.called c.requires.columned terms c.requires.merged in
    let P : Making → Type 0 = λ (m : Making). IfOk c.carried_table.result (λ t. t ≡ carried_table m carried first c.args.tables) in
    let is : P made = of_function f.function f.slots z a r P c.as_slice.result.now c.as_slice-2.result.now c.as_slice-3.result.now
    (c.as_slice.ensures ∙ c.requires.entries) c.as_slice-2.ensures c.as_slice-3.ensures c.carried_table.ensures.is in
    ok_by c.carried_table.result (λ t. t ≡ carried_table made carried first c.args.tables)
    (λ t. (selects : List Select) → Carried f.function f.slots c.args.tables g z a r carried first selects (with_part t selects))
    (λ t h selects. record {
      entry = c.requires.merged.entry;
      trees = trees;
      query = ap (λ t. bare (with_part t selects)) h ∙ table_is_templates made carried first c.args.tables selects;
    }) is
