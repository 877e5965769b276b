use Rattle.std.proofs.Common.{length, refl, subst}
use Rattle.std.proofs.lemmas.Option.{slice_get_read}
use Rattle.away_types.specs.TypedSlots.{typed_slots}
use Rattle.call_meaning.specs.Expands.{IsExpanded}
use Rattle.call_meaning.specs.Renamed.{renaming}
use Rattle.call_answers.specs.Walking.{program}
use Rattle.call_answers.proofs.PartRules.{if_ok, is_there}
use Rattle.call_answers.proofs.expanded.has_calls_expanded.Goals as goal

-- the list is the parts', whose first is read by its index
pub returns : goal.returns
returns c = if_ok _ _ c.expands.result (λ yes h so. subst (λ P. IsExpanded P renaming c.args.c.now.function (typed_slots c.args.c.now.slots)) c.in_ok-parts.ensures
    (subst (λ ps. IsExpanded (program ps) renaming c.args.c.now.function (typed_slots c.args.c.now.slots)) c.as_slice-list.ensures
    (h so (slice_get_read c.as_slice-list.result.now (length c.as_slice-list.result.now) 0 c.index-list-0.result refl (is_there (length c.as_slice-list.result.now) c.if-is_empty.ensures) c.index-list-0.is)))) c.expands.ensures
