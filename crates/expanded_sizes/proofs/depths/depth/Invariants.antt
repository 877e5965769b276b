use Rattle.std.proofs.Common.{◌≡◌, ◌+◌, ◌≤◌, drop, length, map}
use Rattle.sql_printer.specs.PrintedTerminals.{terminal_of}
use Rattle.expanded_sizes.specs.Depths as d
use Rattle.expanded_sizes.proofs.depths.depth.Given as goal

abbrev pub invariant-loop-at : goal.invariant-loop-at
invariant-loop-at l = (l.greatest ≡ d.depth (map terminal_of (drop l.at l.list))) × (l.before ≡ d.begins (map terminal_of (drop l.at l.list))) ×
    (l.greatest + l.at ≤ length l.list) × (l.at ≤ length l.list)

abbrev pub decreases-loop-at : goal.decreases-loop-at
decreases-loop-at l = l.at
