-- What the terminals from a place on are, and that each token of a list is spelled.
use Rattle.std.proofs.Common.{◌≡◌, ℕ, zero, suc, ◌+◌, ◌<◌, List, [], ◌∷◌, ◌++◌, length, get_or, drop, map, Some, refl, sym, ap, ◌∙◌, arith}
use Rattle.away_grammar.specs.declared.grammar.Mark.{Mark}
use Rattle.away_grammar.specs.Terminals.{Terminal, mark, token_terminal, token_terminals}
use Rattle.away_grammar.specs.Spellings.{Spells}
use Rattle.away_grammar.specs.Tokens.{AreSpelled}
use Rattle.away_lex.specs.Lexed.{seen}
use Rattle.away_lex.specs.declared.slices.Token as declared
use Rattle.sql_text.specs.Plans.{first, tail, Begins}
use Rattle.sql_text.specs.CodeTerminals.{meaning_of}
use Rattle.sql_text.specs.declared.terminals.Terminal as code

pub meanings_on : (l : List code.Terminal) (at : ℕ) → at < length l → map meaning_of (drop (at + 1) l) ≡ tail (map meaning_of (drop at l))
meanings_on [] at lt = absurd (omega arith)
meanings_on (t ∷ l) zero lt = refl
meanings_on (t ∷ l) (suc at) lt = let n : suc at + 1 ≡ suc (at + 1) = omega arith in rw n (meanings_on l at (omega arith))

pub first_meaning : (l : List code.Terminal) (at : ℕ) (none : code.Terminal) → at < length l → Some (meaning_of (get_or l at none)) ≡ first (map meaning_of (drop at l))
first_meaning [] at none lt = absurd (omega arith)
first_meaning (t ∷ l) zero none lt = refl
first_meaning (t ∷ l) (suc at) none lt = first_meaning l at none (omega arith)

pub spelled_at : (l : List declared.Token) (at : ℕ) (none : declared.Token) → AreSpelled (map seen l) → at < length l → Spells (get_or l at none).kind (get_or l at none).text.now
spelled_at [] at none are lt = absurd (omega arith)
spelled_at (t ∷ l) zero none are lt = are.0
spelled_at (t ∷ l) (suc at) none are lt = spelled_at l at none are.1 (omega arith)

pub spelled_from : (l : List declared.Token) (at : ℕ) → AreSpelled (map seen l) → AreSpelled (map seen (drop at l))
spelled_from l zero are = are
spelled_from [] (suc at) are = are
spelled_from (t ∷ l) (suc at) are = spelled_from l at are.1

-- ---- the terminal of one token more

terminal_at : (l : List declared.Token) (at : ℕ) (none : declared.Token) → at < length l → token_terminals (map seen (drop at l)) ≡ token_terminal (seen (get_or l at none)) ∷ token_terminals (map seen (drop (at + 1) l))
terminal_at [] at none lt = absurd (omega arith)
terminal_at (t ∷ l) zero none lt = refl
terminal_at (t ∷ l) (suc at) none lt = let n : suc at + 1 ≡ suc (at + 1) = omega arith in rw n (terminal_at l at none (omega arith))

meanings_behind : (terminals : List code.Terminal) (s : code.Terminal) (rest : List Terminal) → map meaning_of (terminals ++ s ∷ []) ++ rest ≡ map meaning_of terminals ++ meaning_of s ∷ rest
meanings_behind [] s rest = refl
meanings_behind (first ∷ terminals) s rest = ap (λ l. meaning_of first ∷ l) (meanings_behind terminals s rest)

pub terminals_more : (terminals : List code.Terminal) (s : code.Terminal) (l : List declared.Token) (at : ℕ) (none : declared.Token) (all : List Terminal) → at < length l → meaning_of s ≡ token_terminal (seen (get_or l at none))
    → map meaning_of terminals ++ token_terminals (map seen (drop at l)) ≡ all → map meaning_of (terminals ++ s ∷ []) ++ token_terminals (map seen (drop (at + 1) l)) ≡ all
terminals_more terminals s l at none all lt is h =
    meanings_behind terminals s (token_terminals (map seen (drop (at + 1) l)))
    ∙ ap (λ rest. map meaning_of terminals ++ rest) (ap (λ first. first ∷ token_terminals (map seen (drop (at + 1) l))) is ∙ sym (terminal_at l at none lt))
    ∙ h

pub begins_first : (ts : List Terminal) (m : Mark) → Some (mark m) ≡ first ts → Begins ts m
begins_first [] m e = absurd (cc)
begins_first (s ∷ ts) m e = (ts, cc)
