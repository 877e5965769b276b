use Rattle.std.proofs.Common.{◌≡◌, ap, sym, ◌∙◌, subst, IfOk}
use Rattle.away_trees.specs.declared.queries.Expr.TheViews.{out-Query}
use Rattle.away_names.specs.Files.{file, file_behind, file_of, with_working}
use Rattle.away_names.proofs.WholeScopes.{scope_behind}
use Rattle.away_names.proofs.files.named_file.Goals as goal

pub returns : goal.returns
unfolding file
returns c =
    let s = c.args.s.now in
    let q = c.args.q.now in
    let r = c.in-Some.r in
    let here = scope_behind s _ _ _ _ _ c.outermost-in-Some.ensures c.in_ok-table-in-Some.ensures c.len.ensures c.in_ok-tables.ensures in
    subst (λ x. IfOk c.file_behind.result (λ f. f ≡ x))
    (ap (λ sc. file_behind sc r c.as_slice-in-Some.result.now) here ∙ ap (file_behind (with_working s r) r) c.as_slice-in-Some.ensures
    ∙ ap (λ o. file_of s o (out-Query q).selects) (sym c.in-Some.is))
    c.file_behind.ensures
