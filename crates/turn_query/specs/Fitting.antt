-- How many turns an iteration has: as many as are asked for, or the most whose levels aren't more
-- than a query nests well. There is no such number where those of one turn are more.
use Rattle.std.specs.Prelude.{ℕ, suc, ◌*◌, ◌<◌, ◌≤◌}

-- the most selects that stand one over another in the second term
abbrev pub most_levels : ℕ
most_levels = 120

-- k turns of so many steps each, where so many turns are asked for: a turn has a level for each
-- step, and one more
pub record FittingTurns (steps asked k : ℕ) : Type 0 where
  pub some : 0 < k
  pub few : k ≤ asked
  pub levels : k * suc steps ≤ most_levels
  pub most : k < asked → most_levels < suc k * suc steps
