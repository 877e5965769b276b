-- What fits into the room of a bound nests no deeper than that.
use Rattle.std.proofs.Common.{◌≡◌, ◌≤◌, ℕ, zero, suc, Bool, true, false, ◌&&◌, if◌then◌else◌, List, [], ◌∷◌, refl, sym, subst, arith, append-nil}
use Rattle.away_grammar.specs.declared.grammar.Mark.{Mark}
use Rattle.away_grammar.specs.declared.grammar.Mark.TheVariants as m
use Rattle.away_grammar.specs.Nesting as tokens
use Rattle.away_grammar.specs.Nesting.{Change, opens, closes, stays, opened, closed, IsNesting}
use Rattle.away_grammar.specs.Terminals.{Terminal, mark, name, integer, string, parameter, quote, token_terminals}
use Rattle.away_grammar.specs.Tokens.{Lexeme}
use Rattle.away_lex.specs.Depth.{greatest}
use Rattle.away_lex.proofs.Nests.{nests}
use Rattle.cte_prints.specs.TerminalNesting.{closes_with_end, is_end_mark, change, changes, is_closed, is_end, NestWithin, TerminalsNestWithin}
use Rattle.cte_prints.proofs.Balanced.{Leaves, IsPlain, Fits, Nested}
use Rattle.cte_prints.proofs.TokenChanges.{changes_alike}

leaves_so : (c : Change) {A B : ℕ → Type 0} (r : ℕ) → ((k : ℕ) → A k → B k) → Leaves c A r → Leaves c B r
leaves_so opens zero f h = h
leaves_so opens (suc r) f h = f r h
leaves_so closes r f h = f (suc r) h
leaves_so stays r f h = f r h

leaves_more : (c : Change) {A : ℕ → Type 0} (r : ℕ) → ((k : ℕ) → A k → A (suc k)) → Leaves c A r → Leaves c A (suc r)
leaves_more opens zero f h = absurd h
leaves_more opens (suc r) f h = f r h
leaves_more closes r f h = f (suc r) h
leaves_more stays r f h = f r h

-- More room is room.
fits_more : (ts : List Terminal) (r : ℕ) → Fits ts r → Fits ts (suc r)
fits_more [] r f = f
fits_more (s ∷ ts) r f = (f.0, leaves_more (change s) r (fits_more ts) f.1)

-- ---- pairs

-- There is room for the changes.
abbrev Roomy : List Change → ℕ → Type 0
Roomy [] r = Unit {0}
Roomy (c ∷ cs) r = Leaves c (Roomy cs) r

end_closes : (terminal : Mark) → is_end_mark terminal ≡ true → change (mark terminal) ≡ closes
end_closes m.End h = refl
end_closes _ h = absurd (cc h)

closed_opens : (terminal : Mark) → closes_with_end terminal ≡ true → change (mark terminal) ≡ opens
closed_opens m.If h = refl
closed_opens m.Loop h = refl
closed_opens m.Case h = refl
closed_opens _ h = absurd (cc h)

an_end : (s : Terminal) → is_end s ≡ true → change s ≡ closes
an_end (mark terminal) h = end_closes terminal h
an_end (name n) h = absurd (cc h)
an_end (integer n) h = absurd (cc h)
an_end (string t) h = absurd (cc h)
an_end (parameter i) h = absurd (cc h)
an_end (quote z) h = absurd (cc h)

a_closed : (s : Terminal) → is_closed s ≡ true → change s ≡ opens
a_closed (mark terminal) h = closed_opens terminal h
a_closed (name n) h = absurd (cc h)
a_closed (integer n) h = absurd (cc h)
a_closed (string t) h = absurd (cc h)
a_closed (parameter i) h = absurd (cc h)
a_closed (quote z) h = absurd (cc h)

both_tests : (a b : Bool) → (a && b) ≡ true → (a ≡ true) × (b ≡ true)
both_tests true b h = (refl, h)
both_tests false b h = absurd (cc h)

-- what is behind a pair has the room that was in front of it
behind_pair : (s t : Terminal) (ts : List Terminal) (r : ℕ) → is_end s ≡ true → is_closed t ≡ true → Fits (s ∷ t ∷ ts) r → Fits ts r
behind_pair s t ts r e k f =
    let second : Fits (t ∷ ts) (suc r) = subst (λ c. Leaves c (Fits (t ∷ ts)) r) (an_end s e) f.1 in
    subst (λ c. Leaves c (Fits ts) (suc r)) (a_closed t k) second.1

paired : (b : Bool) (s t : Terminal) (ts : List Terminal) (r : ℕ) → (is_end s && is_closed t) ≡ b → Fits (s ∷ t ∷ ts) r
    → ((k : ℕ) → Fits ts k → Roomy (changes ts) k) → ((k : ℕ) → Fits (t ∷ ts) k → Roomy (changes (t ∷ ts)) k)
    → Roomy (if b then closes ∷ changes ts else change s ∷ changes (t ∷ ts)) r
paired true s t ts r e f behind rest =
    let tests = both_tests (is_end s) (is_closed t) e in
    behind (suc r) (fits_more ts r (behind_pair s t ts r tests.0 tests.1 f))
paired false s t ts r e f behind rest = leaves_so (change s) r rest f.1

has_room : (ts : List Terminal) (r : ℕ) → Fits ts r → Roomy (changes ts) r
has_room [] r f = tt
has_room (s ∷ []) r f = leaves_so (change s) r (λ k h. h) f.1
has_room (s ∷ t ∷ ts) r f = paired (is_end s && is_closed t) s t ts r refl f (has_room ts) (has_room (t ∷ ts))

-- ---- fronts

fronts : (cs : List Change) (r : ℕ) → Roomy cs r → NestWithin r cs
fronts cs r h zero = omega arith
fronts [] r h (suc at) = omega arith
fronts (opens ∷ cs) zero h (suc at) = absurd h
fronts (opens ∷ cs) (suc r) h (suc at) = omega (arith, fronts cs r h at)
fronts (closes ∷ cs) r h (suc at) = omega (arith, fronts cs (suc r) h at)
fronts (stays ∷ cs) r h (suc at) = omega (arith, fronts cs r h at)

pub terminals_within : {d : ℕ} (ts : List Terminal) → Nested d ts → TerminalsNestWithin d ts
terminals_within {d = d} ts h =
    let alone : Fits ts d = subst (λ l. Fits l d) (append-nil ts) (h.fits d [] (omega arith) tt) in
    fronts (changes ts) d (has_room ts d alone)

-- ---- tokens

-- tokens that are terminals of a nesting have one, and no greater
pub tokens_within : (d : ℕ) (ts : List Lexeme) → TerminalsNestWithin d (token_terminals ts) → IsNesting ts (greatest ts) × (greatest ts ≤ d)
tokens_within d ts h =
    let is = nests ts in
    let most : NestWithin d (tokens.changes ts) = subst (NestWithin d) (sym (changes_alike ts)) h in
    let bound = most is.reached.0 in
    (is, omega (arith, bound, is.reached.1))

-- ---- no dollar quotes

abbrev pub ArePlain : List Terminal → Type 0
ArePlain [] = Unit {0}
ArePlain (s ∷ ts) = IsPlain s × ArePlain ts

-- what is behind a change has some room
some_room : (c : Change) {A : ℕ → Type 0} (r : ℕ) → Leaves c A r → (k : ℕ) × A k
some_room opens zero h = absurd h
some_room opens (suc r) h = (r, h)
some_room closes r h = (suc r, h)
some_room stays r h = (r, h)

are_plain : (ts : List Terminal) (r : ℕ) → Fits ts r → ArePlain ts
are_plain [] r f = tt
are_plain (s ∷ ts) r f = let behind = some_room (change s) {A = Fits ts} r f.1 in (f.0, are_plain ts behind.0 behind.1)

pub terminals_plain : {d : ℕ} (ts : List Terminal) → Nested d ts → ArePlain ts
terminals_plain {d = d} ts h = are_plain ts d (subst (λ l. Fits l d) (append-nil ts) (h.fits d [] (omega arith) tt))
