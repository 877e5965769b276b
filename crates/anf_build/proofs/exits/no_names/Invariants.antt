use Rattle.std.proofs.Common.{◌≡◌, ◌<◌, ℕ, length, get_or, None}
use Rattle.anf_build.proofs.exits.no_names.Given as goal

abbrev pub invariant-loop-slot : goal.invariant-loop-slot
invariant-loop-slot l = (length l.names.items ≡ l._slot) × ((s : ℕ) → s < l._slot → get_or l.names.items s None ≡ None)
