-- Places and numbers in machine words, and where they have room.
use Rattle.std.specs.Prelude.{◌+◌, ◌*◌, ◌≤◌, ◌<◌, ◌^◌}
use Rattle.goto_check.specs.declared.spots.Spot.{Spot}
use Rattle.block_forms.specs.declared.places.Position.{Position}
use Rattle.block_forms.specs.declared.places.Numbers.{Numbers}
use Rattle.block_forms.specs.FixedList.{many}
use Rattle.block_forms.specs.Laid.{place}

-- a spot as a place
abbrev pub here : Spot → Position
here s = place s.node s.expr s.slot s.fors s.targets

pub record Small (p : Position) : Type 0 where
  pub node : p.node < 2 ^ 64
  pub expr : p.expr < 2 ^ 64
  pub slot : p.slot < 2 ^ 64
  pub fors : p.fors < 2 ^ 64
  pub targets : p.targets < 2 ^ 64

-- up to a place all numbers of nodes, expressions and slots are machine words
pub record Room (n : Numbers) (p : Position) : Type 0 where
  pub fixed : n.fixed + many ≤ 2 ^ 64
  pub node : p.node + 1 < 2 ^ 64
  pub expr : p.expr + 1 < 2 ^ 64
  pub slot : p.slot < 2 ^ 64
  pub fors : n.counters + 3 * p.fors + 3 < 2 ^ 64
  pub targets : n.targets + p.targets < 2 ^ 64
