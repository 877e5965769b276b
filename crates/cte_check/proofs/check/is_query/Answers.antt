use Rattle.std.proofs.Common.{◌≡◌, Some, None, sym, ◌∙◌}
use Rattle.std.proofs.lemmas.Bool.{leb-true, le-leb}
use Rattle.call_forms.specs.Forms.{label_of}
use Rattle.cte_check.proofs.IsTheQuery.{no_entry, nowhere_read, whole_read, read_whole, query_read}
use Rattle.cte_check.proofs.check.is_query.Goals as goal

pub returns-in_default : goal.returns-in_default
returns-in_default c table given =
    let none : label_of c.args.g.now.tail.now c.args.entry ≡ None = sym (c.label_of.ensures given.labels given.all_blocks given.of_form) ∙ c.in_default.is in
    (λ never. absurd (cc), λ t. absurd (no_entry table c.args.g.now c.args.entry c.args.tables none t))

pub returns-in-None : goal.returns-in-None
returns-in-None c table given =
    let entry : label_of c.args.g.now.tail.now c.args.entry ≡ Some c.in-Some.label = sym (c.label_of.ensures given.labels given.all_blocks given.of_form) ∙ c.in-Some.is in
    let read = query_read table c.args.g.now c.args.entry c.args.tables c.in-Some.label _ _ _ entry c.up_to_branches-at.ensures (c.in_ok-at.ensures table given) c.from_branches.ensures in
    (λ never. absurd (cc), λ t. absurd (nowhere_read table c.args.g.now c.args.entry c.args.tables c.from_branches.result c.in-None.is read t))

pub returns-in-Some-from_branches : goal.returns-in-Some-from_branches
returns-in-Some-from_branches c table given =
    let entry : label_of c.args.g.now.tail.now c.args.entry ≡ Some c.in-Some.label = sym (c.label_of.ensures given.labels given.all_blocks given.of_form) ∙ c.in-Some.is in
    let read = query_read table c.args.g.now c.args.entry c.args.tables c.in-Some.label _ _ _ entry c.up_to_branches-at.ensures (c.in_ok-at.ensures table given) c.from_branches.ensures in (
      λ e. whole_read table c.args.g.now c.args.entry c.args.tables c.in-Some.label c.from_branches.result c.in-Some-from_branches.end entry c.in-Some-from_branches.is read (leb-true _ _ e),
      λ t. le-leb _ _ (read_whole table c.args.g.now c.args.entry c.args.tables c.from_branches.result c.in-Some-from_branches.end c.in-Some-from_branches.is read t),
    )
