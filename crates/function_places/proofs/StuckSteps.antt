-- Where a reader is stuck among the tokens of a list.
use Rattle.std.proofs.Common.{◌≡◌, ◌<◌, ℕ, ◌+◌, ◌-◌, true, false, ◌⊎◌, List, [], ◌∷◌, ◌++◌, length, map, get_or, All, Option, Some, None, Result, Ok, Err, IfOk, IfSome, refl, arith}
use Rattle.std.proofs.lemmas.List.Elements.{All-append, All-cons, All-nil}
use Rattle.away_values.specs.declared.errors.NoMemory.{NoMemory}
use Rattle.away_grammar.specs.FunctionFile.{LexesFile}
use Rattle.away_grammar.specs.Tokens.{Lexeme}
use Rattle.away_lex.specs.Lexed.{seen}
use Rattle.away_lex.specs.declared.slices.Token.{Token}
use Rattle.sql_text.specs.CodeTerminals.{HasSpelling}
use Rattle.sql_text.specs.declared.terminals.Terminal as code
use Rattle.function_places.specs.declared.stuck_places.Stuck.{Stuck}
use Rattle.function_places.specs.StuckPlaces.{IsStuckPlace, StandsAt}
use Rattle.function_places.proofs.Starts.{starts}

-- the token of the number
pub stands : (tokens : List Token) (i : ℕ) (d : Token) → i < length tokens → StandsAt (map seen tokens) (record { offset = (get_or tokens i d).start; ended = false })
stands tokens i d lt =
    let s = starts tokens (length tokens - i) i d (λ e. absurd (omega (arith, lt, e))) (omega arith) (omega (arith, lt)) in
    record { before = s.before; here = s.here; after = s.after; whole = s.list_is; offset_is = s.offset_is; last = tt }

no_more : (l : List Lexeme) → 1 ≡ 1 + length l → l ≡ []
no_more [] e = refl
no_more (t ∷ ts) e = absurd (omega (arith, e))

-- the last token
pub stands_last : (tokens : List Token) (i : ℕ) (d : Token) → 0 < length tokens → i ≡ length tokens - 1 → StandsAt (map seen tokens) (record { offset = (get_or tokens i d).start; ended = true })
stands_last tokens i d some is =
    let s = starts tokens 1 i d (λ e. absurd (omega (arith, e))) (omega (arith, some)) is in
    record { before = s.before; here = s.here; after = s.after; whole = s.list_is; offset_is = s.offset_is; last = no_more s.after s.left_is }

-- one more terminal
pub spelled_on : (before : List code.Terminal) (next : code.Terminal) → All HasSpelling before → HasSpelling next → All HasSpelling (before ++ next ∷ [])
spelled_on before next h k = All-append HasSpelling before (next ∷ []) h (All-cons HasSpelling next [] k (All-nil HasSpelling))

pub stuck_placed : {bytes : List ℕ} {outer inner : List Lexeme} (r : Result (Option Stuck) NoMemory) → LexesFile bytes outer inner None
    → IfOk r (λ found. IfSome found (λ stuck. StandsAt outer stuck ⊎ StandsAt inner stuck)) → IfOk r (λ found. IfSome found (IsStuckPlace bytes))
stuck_placed {outer = outer} {inner = inner} (Ok (Some stuck)) l h = record { outer = outer; inner = inner; lexes = l; stands = h }
stuck_placed (Ok None) l h = tt
stuck_placed (Err e) l h = tt
