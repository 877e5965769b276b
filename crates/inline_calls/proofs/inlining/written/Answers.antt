use Rattle.std.proofs.Common.{◌≡◌, ap, ◌∙◌, subst}
use Rattle.away_grammar.specs.Texts.{ReadsQuery}
use Rattle.inline_calls.proofs.InliningRules.{reads_inlined}
use Rattle.inline_calls.specs.Resolving.{resolved}
use Rattle.inline_calls.specs.Seen.{seen}
use Rattle.inline_calls.specs.Tree.{tree_of}
use Rattle.inline_calls.specs.Written.{tree}
use Rattle.sql_text.specs.Refusals.{MayBeRead}
use Rattle.written_queries.specs.Written.{ResolvesTo}
use Rattle.inline_calls.proofs.inlining.written.Goals as goal

pub returns-then-branch-clause-ok : goal.returns-then-branch-clause-ok
returns-then-branch-clause-ok c =
    let s = c.args.s.now.schema in
    let f = c.args.f.now in
    let x = c.args.forms.now in
    let calls = seen c.args.c.now in
    let built : c.get.result.now ≡ tree s f.function f.slots x.goto x.ssa x.anf x.tail calls =
    c.get.ensures ∙ (c.in_ok-tree.ensures ∙ (c.in_ok-tree_of.ensures
    ∙ ap (λ n. tree_of f.function f.slots n x.goto x.ssa x.anf x.tail calls) c.len-tables.ensures)) in
    let same : seen c.get-2.result.now ≡ resolved s f.function calls = ap seen c.get-2.ensures ∙ c.in_ok-calls.ensures in
    let wants : c.get-3.result.now ≡ tree s f.function f.slots x.goto x.ssa x.anf x.tail (resolved s f.function calls) =
    c.get-3.ensures ∙ (c.in_ok-wanted.ensures ∙ (c.in_ok-tree_of-2.ensures
    ∙ (λ j. tree_of f.function f.slots (c.len-tables.ensures j) x.goto x.ssa x.anf x.tail (same j)))) in
    let read = subst (λ z. MayBeRead z × ReadsQuery z c.in_ok-query.query) c.as_str.ensures.value c.in_ok-query.ensures.ok in
    let so : ResolvesTo s c.get-3.result.now c.in_ok-query.query =
    subst (λ q. ResolvesTo s c.get-3.result.now q) c.get-4.ensures (c.in_ok-is_tree.ensures c.if-branch.true) in
    reads_inlined s f.function f.slots x.goto x.ssa x.anf x.tail c.requires.lowered c.requires.named c.requires.called c.requires.merged c.requires.columned
    calls c.get.result.now c.get-3.result.now c.in_ok-query.query _ built c.in_ok-text.ensures read.0 read.1 wants so
