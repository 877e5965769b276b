use Rattle.std.proofs.Common.{rules, ◌≡◌, ap, ◌∙◌, length, IfOk}
use Rattle.block_forms.specs.Expressions.{expressions}
use Rattle.call_forms.specs.Templated.{Templated}
use Rattle.sql_meaning.specs.Names.{bare}
use Rattle.cte_template.specs.Making.{Making, making_of}
use Rattle.cte_template.specs.Numbers.{NumbersFit}
use Rattle.cte_template.specs.Tree.{tree}
use Rattle.call_law.proofs.FormTerms.{terms_fit, fails_fit}
use Rattle.call_law.proofs.HasTrees.{labels_have_trees}
use Rattle.cte_parts.proofs.Results.{ok_by}
use Rattle.cte_template.proofs.Makings.{of_function}
use Rattle.cte_template.proofs.TreeIsTemplate.{tree_is_template}
use Rattle.cte_template.proofs.template.template_tree.Goals as goal

pub tree-requires : goal.tree-requires
tree-requires c =
    let f = c.args.f.now in
    record {
      classes = fails_fit f.function f.slots c.args.goto.now c.requires.lowered (length f.slots) (length f.function.params) c.args.ssa.now c.requires.named c.args.anf.now c.requires.called;
      one = search rules;
    }

pub returns-clause-is : goal.returns-clause-is
returns-clause-is c =
    let f = c.args.f.now in
    let P : Making → Type 0 = λ (m : Making). IfOk c.tree.result (λ q. q ≡ tree m c.args.goto.now.entry c.args.tables) in
    of_function f.function f.slots c.args.ssa.now c.args.anf.now c.args.tail.now P c.as_slice.result.now c.as_slice-2.result.now c.as_slice-3.result.now
    (c.as_slice.ensures ∙ c.requires.entries) c.as_slice-2.ensures c.as_slice-3.ensures c.tree.ensures.is

pub returns-clause-fits : goal.returns-clause-fits
returns-clause-fits c =
    let f = c.args.f.now in
    let P : Making → Type 0 = λ (m : Making). IfOk c.tree.result (λ q. NumbersFit m) in
    of_function f.function f.slots c.args.ssa.now c.args.anf.now c.args.tail.now P c.as_slice.result.now c.as_slice-2.result.now c.as_slice-3.result.now
    (c.as_slice.ensures ∙ c.requires.entries) c.as_slice-2.ensures c.as_slice-3.ensures c.tree.ensures.fits

pub returns-clause-templated : goal.returns-clause-templated
returns-clause-templated c =
    let f = c.args.f.now in
    let g = c.args.goto.now in
    let z = c.args.ssa.now in
    let a = c.args.anf.now in
    let r = c.args.tail.now in
    let made : Making = making_of f.function f.slots z a r in
    let terms = terms_fit f.function f.slots g c.requires.lowered (length f.slots) (length f.function.params) z c.requires.named a c.requires.called in
    let trees = labels_have_trees f.slots g z a r (expressions f.function) c.requires.called c.requires.columned terms c.requires.merged in
    let P : Making → Type 0 = λ (m : Making). IfOk c.tree.result (λ q. q ≡ tree m g.entry c.args.tables) in
    let is : P made = of_function f.function f.slots z a r P c.as_slice.result.now c.as_slice-2.result.now c.as_slice-3.result.now
    (c.as_slice.ensures ∙ c.requires.entries) c.as_slice-2.ensures c.as_slice-3.ensures c.tree.ensures.is in
    ok_by c.tree.result (λ q. q ≡ tree made g.entry c.args.tables) (λ q. Templated f.function f.slots c.args.tables g z a r q)
    (λ q h. record { entry = c.requires.merged.entry; trees = trees; query = ap bare h ∙ tree_is_template made g.entry c.args.tables }) is
