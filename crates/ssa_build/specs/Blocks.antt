-- Terms.
use Rattle.std.specs.Prelude.{ℕ, List}
use Rattle.ssa_build.specs.Forms.{Term}

abbrev pub term : ℕ → List ℕ → Term
term e ns = record { expr = e; names = ns }
