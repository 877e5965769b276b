use Rattle.std.proofs.Common.{rules, get_or}
use Rattle.std.specs.Prelude.{slice_get}
use Rattle.call_forms.specs.Columned.{PlacesAt}
use Rattle.block_forms.proofs.Pairs.{pairs_more, pairs_all, pair_refutes}
use Rattle.block_forms.proofs.Verdicts.{passed}
use Rattle.call_check.proofs.Seeking.{own_default}
use Rattle.call_check.proofs.columns.all_places.Goals as goal

pub loop-i-preserved : goal.loop-i-preserved
loop-i-preserved c =
    pairs_more (λ i b ps. PlacesAt c.args.slots.now c.args.names.now c.args.columns.now (slice_get c.args.blocks.now b) ps) c.args.labels.now c.args.places.now c.loop-i.i (get_or c.args.labels.now c.loop-i.i 0) c.index-places-i.result (own_default c.args.labels.now c.loop-i.i 0 c.loop-i-test.true) c.index-places-i.is c.loop-i.invariant
    (passed c.places_at.result c.if-not-places_at.false (rw c.as_slice.ensures at c.places_at.ensures))

pub returns-then-not-places_at : goal.returns-then-not-places_at
returns-then-not-places_at c =
    pair_refutes (λ i b ps. PlacesAt c.args.slots.now c.args.names.now c.args.columns.now (slice_get c.args.blocks.now b) ps) c.args.labels.now c.args.places.now c.loop-i.i (get_or c.args.labels.now c.loop-i.i 0) c.index-places-i.result c.places_at.result c.loop-i-test.true c.requires
    (own_default c.args.labels.now c.loop-i.i 0 c.loop-i-test.true) c.index-places-i.is c.if-not-places_at.true (rw c.as_slice.ensures at c.places_at.ensures)

pub returns : goal.returns
returns c = (
  λ t. pairs_all (λ i b ps. PlacesAt c.args.slots.now c.args.names.now c.args.columns.now (slice_get c.args.blocks.now b) ps) c.args.labels.now c.args.places.now c.loop-i.i c.loop-i-test.false c.loop-i.invariant,
  λ each. search rules,
)
