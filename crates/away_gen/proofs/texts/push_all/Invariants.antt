use Rattle.std.proofs.Common.{◌≡◌, ◌++◌, Bor, List, ℕ, drop, string_bytes}
use Rattle.std.specs.List.{flat_map}
use Rattle.away_gen.proofs.texts.push_all.Given as goal

abbrev pub invariant-loop-piece : goal.invariant-loop-piece
invariant-loop-piece l =
    string_bytes l.text ++ flat_map (λ (p : Bor (List ℕ)). p.now) (drop l.piece-index l.pieces)
    ≡ string_bytes l.fn.text ++ flat_map (λ (p : Bor (List ℕ)). p.now) l.fn.pieces
