use Rattle.std.proofs.Common.{◌≡◌, ◌+◌, ◌<◌, drop}
use Rattle.block_forms.specs.Named.{places_that_set}
use Rattle.ssa_check.proofs.names.places_that_set.Given as goal

abbrev pub invariant-loop-block : goal.invariant-loop-block
invariant-loop-block l = record {
  few : l.count < 2;
  so_far : places_that_set l.blocks l.name ≡ l.count + places_that_set (drop l.block-index l.blocks) l.name;
}
