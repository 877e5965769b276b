-- A line without its line feed, and what is printed into an empty list.
use Rattle.std.proofs.Common.{◌≡◌, ◌<◌, ◌≤◌, ◌+◌, ◌-◌, ℕ, refl, sym, ap, ◌∙◌, List, [], ◌∷◌, ◌++◌, length, take, get_or, Ok, arith}
use Rattle.std.specs.Str.{IsCharBoundary}
use Rattle.std.proofs.lemmas.List.{length-append}
use Rattle.std.proofs.lemmas.Str.{IsCharBoundary-before_ascii}
use Rattle.std.proofs.Math.Seq.{take-append_seam}
use Rattle.away_grammar.specs.Terminals.{Terminal}
use Rattle.sql_printer.specs.PrintedTerminals.{Adds}

-- ---- a line

last_place : (text line : List ℕ) → line ≡ text ++ 10 ∷ [] → length line ≡ length text + 1
last_place text line e = ap length e ∙ length-append text (10 ∷ [])

at_end : (a : List ℕ) → get_or (a ++ 10 ∷ []) (length a) 0 ≡ 10
at_end [] = refl
at_end (b ∷ a) = at_end a

pub some_byte : (text line : List ℕ) → line ≡ text ++ 10 ∷ [] → 1 ≤ length line
some_byte text line e = omega (arith, last_place text line e)

pub line_cut : (text line : List ℕ) → line ≡ text ++ 10 ∷ [] → IsCharBoundary line (length line - 1)
line_cut text line e =
    let place : length line - 1 ≡ length text = omega (arith, last_place text line e) in
    let within : length line - 1 < length line = omega (arith, last_place text line e) in
    let byte_is : get_or line (length line - 1) 0 ≡ 10 = ap (λ k. get_or line k 0) place ∙ ap (λ z. get_or z (length text) 0) e ∙ at_end text in
    let ascii : get_or line (length line - 1) 0 < 128 = omega (arith, byte_is) in
    IsCharBoundary-before_ascii line (length line - 1) within ascii

pub line_split : (text line : List ℕ) → line ≡ text ++ 10 ∷ [] → line ≡ take (length line - 1) line ++ 10 ∷ []
line_split text line e =
    let place : length line - 1 ≡ length text = omega (arith, last_place text line e) in
    e ∙ ap (λ z. z ++ 10 ∷ []) (sym (ap (λ l. take (length line - 1) l) e ∙ ap (λ k. take k (text ++ 10 ∷ [])) place ∙ take-append_seam text (10 ∷ [])))

-- ---- a list

-- what is added to an empty list is all of it
pub added_first : {ts before after : List Terminal} {u : Unit {0}} → before ≡ [] → Adds ts before (Ok u) after → after ≡ ts
added_first {ts = ts} e h = h.all ∙ ap (λ b. b ++ ts) e
