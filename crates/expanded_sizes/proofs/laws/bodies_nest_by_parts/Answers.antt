use Rattle.std.proofs.Common.{◌∙◌, ap, length}
use Rattle.away_trees.specs.declared.statements.Function.{Function}
use Rattle.away_trees.specs.StatementAlgebra.{stmt_of}
use Rattle.call_expand.specs.declared.made.Back.TheVariants.{Whole}
use Rattle.call_expand.specs.Expanding.{function_at}
use Rattle.call_expand.specs.Moving.{seeing_params}
use Rattle.expanded_sizes.specs.Depths.{expr_depth, nesting}
use Rattle.expanded_sizes.proofs.ExpandedDepths.{body_nests}
use Rattle.expanded_sizes.proofs.laws.bodies_nest_by_parts.Goals as goal

pub returns : goal.returns
returns c = λ s fs f expands.
    let main = function_at fs 0 in
    ap (λ (g : Function). stmt_of (nesting expr_depth expr_depth) g.body) expands.is
    ∙ body_nests expands.names fs (length fs) 0 Whole (seeing_params 0 main.params) (length main.params)
