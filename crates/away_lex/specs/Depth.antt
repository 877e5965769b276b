-- The greatest count of a token list, from its end on.
use Rattle.std.specs.Prelude.{ℕ, ◌+◌, ◌-◌, Bool, false, ◌&&◌, if◌then◌else◌, List, [], ◌∷◌}
use Rattle.away_grammar.specs.Tokens.{Lexeme}
use Rattle.away_grammar.specs.Nesting.{is_end, is_closed, is_opening, is_closing}

-- what a token adds to the greatest count of what follows it
abbrev pub counted : Lexeme → ℕ → ℕ
counted t n = if is_opening t then n + 1 else (if is_closing t then n - 1 else n)

-- In front of a list whose greatest count is n, what takes one leaves n - 1, and no less than the
-- count 0 of the empty front.
abbrev pub greatest : List Lexeme → ℕ
greatest [] = 0
greatest (t ∷ []) = counted t 0
greatest (t ∷ u ∷ ts) = if is_end t && is_closed u then greatest ts - 1 else counted t (greatest (u ∷ ts))

abbrev pub begins_with_pair : List Lexeme → Bool
begins_with_pair [] = false
begins_with_pair (t ∷ []) = false
begins_with_pair (t ∷ u ∷ ts) = is_end t && is_closed u
