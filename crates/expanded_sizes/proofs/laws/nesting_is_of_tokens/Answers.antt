use Rattle.std.proofs.Common.{◌∙◌, ap, subst, length}
use Rattle.away_trees.specs.declared.statements.Function.{Function}
use Rattle.away_trees.specs.StatementAlgebra.{stmt_of}
use Rattle.away_grammar.specs.Nesting.{IsNesting}
use Rattle.call_expand.specs.declared.made.Back.TheVariants.{Whole}
use Rattle.call_expand.specs.Expanding.{function_at}
use Rattle.call_expand.specs.Moving.{seeing_params}
use Rattle.function_printer.specs.FunctionTerminals.{statement_terminals}
use Rattle.expanded_sizes.specs.Depths.{HeadsClose, expr_depth, loosening, nesting}
use Rattle.expanded_sizes.specs.PrintedTokens.{tokens_from}
use Rattle.expanded_sizes.proofs.ExpandedDepths.{body_nests}
use Rattle.expanded_sizes.proofs.HeadsClose.{body_closes}
use Rattle.expanded_sizes.proofs.PrintedDepths.{nests_depth, statement_nests}
use Rattle.expanded_sizes.proofs.TokensNest.{tokens_nest}
use Rattle.expanded_sizes.proofs.laws.nesting_is_of_tokens.Goals as goal

pub returns : goal.returns
returns c = λ s fs f expands each plain start.
    let main = function_at fs 0 in
    let seen = seeing_params 0 main.params in
    let closed : HeadsClose f.body =
    ap (λ (g : Function). stmt_of loosening g.body) expands.is ∙ body_closes expands.names fs each (length fs) 0 Whole seen (length main.params) in
    let parts = ap (λ (g : Function). stmt_of (nesting expr_depth expr_depth) g.body) expands.is
    ∙ body_nests expands.names fs (length fs) 0 Whole seen (length main.params) in
    subst (IsNesting (tokens_from start (statement_terminals f.body))) (nests_depth (statement_nests f.body closed)
    ∙ parts) (tokens_nest (statement_terminals f.body) start plain)
