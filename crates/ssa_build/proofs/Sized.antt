-- The tables of a full form are as long as what they tell of.
use Rattle.std.proofs.Common.{◌≡◌, ◌+◌, ◌*◌, ◌^◌, ◌<◌, List, length, ap, ◌∙◌, arith}
use Rattle.std.proofs.lemmas.List.{length-map}
use Rattle.ssa_build.specs.declared.full.FullForm.{FullForm}
use Rattle.ssa_build.specs.declared.layout.Layout.{Layout}
use Rattle.ssa_build.specs.Forms.{Block}
use Rattle.ssa_build.specs.FullForms.{IsSized, live_in}
use Rattle.ssa_build.specs.Layout.{IsLayout}
use Rattle.block_graph.specs.Ranges.{count_from}
use Rattle.ssa_build.specs.Names.{NamesBelow, next_name}
use Rattle.ssa_build.proofs.Ordered.{length_count}

pub blocks_fit : (l : Layout) → IsLayout l → l.blocks < 2 ^ 32
blocks_fit l is =
    let s = is.short in
    let q : l.blocks * (l.slots + 1) ≡ l.blocks * l.slots + l.blocks = grind arith in
    omega (arith, s, q)

pub slots_fit : (l : Layout) → IsLayout l → l.slots < 2 ^ 32
slots_fit l is = let s = is.short in omega (arith, s)

pub all_sized : (g : List Block) (f : FullForm) → IsLayout f.layout → length f.live.items ≡ f.layout.slots → NamesBelow f.layout (live_in f) g f.layout.blocks f.names.slots.items f.names.phis.items f.names.sets.items → IsSized f
all_sized g f is long names = record {
  few_blocks = blocks_fit f.layout is;
  few_slots = slots_fit f.layout is;
  live = long;
  phis = names.phis_long;
  rows = λ b lt. ap length (names.phis_are b lt) ∙ length-map (count_from 0 f.layout.slots) (next_name f.layout (live_in f) g b) ∙ length_count 0 f.layout.slots;
  sets = names.sets_long;
}
