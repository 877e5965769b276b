use Rattle.std.proofs.Common.{sym, ◌∙◌}
use Rattle.block_forms.specs.Lowered.{owners, parts_in}
use Rattle.goto_check.specs.Asking.{setting_in}
use Rattle.goto_check.proofs.JoinedRuns.{repeated_none, repeated_one, repeated_more}
use Rattle.goto_check.proofs.Owned.{shared_once, owned_once, not_once}
use Rattle.goto_check.proofs.once.is_once.Goals as goal

pub returns-in-Empty : goal.returns-in-Empty
returns-in-Empty c =
    let ps = parts_in (setting_in c.args.a.now) c.args.f.now in
    shared_once ps c.args.b c.sharers.result c.is_empty.result ((repeated_none (owners c.args.b ps) c.args.b).0 (sym c.in-Empty.is ∙ c.owners.ensures)) c.sharers.ensures c.is_empty.ensures

pub returns-in-FromTo : goal.returns-in-FromTo
returns-in-FromTo c =
    let ps = parts_in (setting_in c.args.a.now) c.args.f.now in
    owned_once ps c.args.b (repeated_one (owners c.args.b ps) c.args.b _ _ (sym c.in-FromTo.is ∙ c.owners.ensures))

pub returns-in-Broken : goal.returns-in-Broken
returns-in-Broken c =
    let ps = parts_in (setting_in c.args.a.now) c.args.f.now in
    not_once ps c.args.b (repeated_more (owners c.args.b ps) c.args.b (sym c.in-Broken.is ∙ c.owners.ensures))
