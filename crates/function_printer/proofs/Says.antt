-- What the tokens of a printed text say: the terminals that were printed, where the words of the language stand in upper case and are said in lower case.
use Rattle.std.proofs.Common.{◌≡◌, ℕ, true, false, List, [], ◌∷◌, ◌++◌, map, None, refl, sym, ◌∙◌, arith, codes}
use Rattle.away_grammar.specs.declared.grammar.Mark.{Mark}
use Rattle.away_grammar.specs.Reserved.{calls}
use Rattle.away_grammar.specs.Terminals.{Terminal, mark, name, integer, string, parameter, quote, word_mark, terminal_by_kind, token_terminals}
use Rattle.away_grammar.specs.Spellings.{byte, Spells}
use Rattle.away_grammar.specs.Tokens.{Lexeme, Lexes}
use Rattle.away_grammar.specs.Spacing.{Spelled, laid, laid_behind, lexemes_from, NoDots, AreLaid}
use Rattle.away_grammar.specs.Printing.{spelled, terminals_text}
use Rattle.away_lex.proofs.Printer.{printed_lexes}
use Rattle.sql_printer.specs.Writable.{Writable}
use Rattle.sql_printer.proofs.PrintClear.{Clear, is_dot, mark_is_dot, BeginsWithName}
use Rattle.sql_printer.proofs.PrintClear as c
use Rattle.sql_printer.proofs.PrintTokens.{spells, spelled_back}
use Rattle.sql_printer.proofs.PrintTexts.{one_dot, begins_dot, placed_terminals, terminal_of}

-- the first is printed as a token that says the second
pub record Shown (s t : Terminal) : Type 0 where
  pub spelled_so : Spells (spelled s).kind (spelled s).text
  pub says : terminal_by_kind (spelled s).kind (spelled s).text ≡ t
  pub begins : byte (spelled s).text 0 ≡ 46 → is_dot s ≡ true

-- there is a first terminal, which is no dot
abbrev pub NotDotNext : List Terminal → Type 0
NotDotNext [] = ⊥
NotDotNext (s ∷ ss) = is_dot s ≡ false

-- each is, and behind a dot stands no dot
pub data Says : List Terminal → List Terminal → Type 0 where
  nothing : Says [] []
  behind : {s t : Terminal} {ss ts : List Terminal} → Shown s t → (is_dot s ≡ true → NotDotNext ss) → Says ss ts → Says (s ∷ ss) (t ∷ ts)

-- ---- terminals

pub writable : (s : Terminal) → Writable s → Shown s s
writable s h = record { spelled_so = spells s h; says = spelled_back s h; begins = begins_dot s h }

no_dot : {P : Type 0} → false ≡ true → P
no_dot h = absurd (cc h)

pub a_mark : (terminal : Mark) → mark_is_dot terminal ≡ false → {ss ts : List Terminal} → Says ss ts → Says (mark terminal ∷ ss) (mark terminal ∷ ts)
a_mark terminal h d = behind (writable (mark terminal) tt) (λ e. no_dot (sym h ∙ e)) d

-- `.` or `..`
pub a_dot : (terminal : Mark) {ss ts : List Terminal} → NotDotNext ss → Says ss ts → Says (mark terminal ∷ ss) (mark terminal ∷ ts)
a_dot terminal h d = behind (writable (mark terminal) tt) (λ e. h) d

pub a_name : (n : List ℕ) → Writable (name n) → {ss ts : List Terminal} → Says ss ts → Says (name n ∷ ss) (name n ∷ ts)
a_name n h d = behind (writable (name n) h) (λ e. no_dot e) d

pub a_string : (z : List ℕ) → Writable (string z) → {ss ts : List Terminal} → Says ss ts → Says (string z ∷ ss) (string z ∷ ts)
a_string z h d = behind (writable (string z) h) (λ e. no_dot e) d

pub a_quote : (z : List ℕ) → Writable (quote z) → {ss ts : List Terminal} → Says ss ts → Says (quote z ∷ ss) (quote z ∷ ts)
a_quote z h d = behind (writable (quote z) h) (λ e. no_dot e) d

-- a word of the language
pub a_word : (upper lower : List ℕ) → Shown (name upper) (name lower) → {ss ts : List Terminal} → Says ss ts → Says (name upper ∷ ss) (name lower ∷ ts)
a_word upper lower h d = behind h (λ e. no_dot e) d

pub exception_shown : Shown (name (codes "EXCEPTION")) (name (codes "exception"))
unfolding word_mark
exception_shown = record { spelled_so = record { starts = refl; plain = refl; short = omega arith }; says = refl; begins = λ e. absurd (omega (arith, e)) }

pub sqlstate_shown : Shown (name (codes "SQLSTATE")) (name (codes "sqlstate"))
unfolding word_mark
sqlstate_shown = record { spelled_so = record { starts = refl; plain = refl; short = omega arith }; says = refl; begins = λ e. absurd (omega (arith, e)) }

pub function_shown : Shown (name (codes "FUNCTION")) (name (codes "function"))
unfolding word_mark
function_shown = record { spelled_so = record { starts = refl; plain = refl; short = omega arith }; says = refl; begins = λ e. absurd (omega (arith, e)) }

pub returns_shown : Shown (name (codes "RETURNS")) (name (codes "returns"))
unfolding word_mark
returns_shown = record { spelled_so = record { starts = refl; plain = refl; short = omega arith }; says = refl; begins = λ e. absurd (omega (arith, e)) }

pub language_shown : Shown (name (codes "LANGUAGE")) (name (codes "language"))
unfolding word_mark
language_shown = record { spelled_so = record { starts = refl; plain = refl; short = omega arith }; says = refl; begins = λ e. absurd (omega (arith, e)) }

pub public_shown : Shown (name (codes "public")) (name (codes "public"))
unfolding word_mark
public_shown = record { spelled_so = record { starts = refl; plain = refl; short = omega arith }; says = refl; begins = λ e. absurd (omega (arith, e)) }

pub plpgsql_shown : Shown (name (codes "plpgsql")) (name (codes "plpgsql"))
unfolding word_mark
plpgsql_shown = record { spelled_so = record { starts = refl; plain = refl; short = omega arith }; says = refl; begins = λ e. absurd (omega (arith, e)) }

-- ---- lists

still_next : (ss us : List Terminal) → NotDotNext ss → NotDotNext (ss ++ us)
still_next [] us h = absurd h
still_next (s ∷ ss) us h = h

name_next : (ss : List Terminal) → BeginsWithName ss → NotDotNext ss
name_next (name n ∷ ss) h = refl
name_next (mark n ∷ ss) h = absurd h
name_next (integer n ∷ ss) h = absurd h
name_next (string n ∷ ss) h = absurd h
name_next (parameter n ∷ ss) h = absurd h
name_next (quote n ∷ ss) h = absurd h
name_next [] h = absurd h

pub both : {a b c d : List Terminal} → Says a b → Says c d → Says (a ++ c) (b ++ d)
both nothing k = k
both {c = c} (behind {ss = ss} h j more) k = behind h (λ e. still_next ss c (j e)) (both more k)

pub clear_says : {ts : List Terminal} → Clear ts → Says ts ts
clear_says c.nothing = nothing
clear_says (c.behind {s = s} {ts = ts} h k d) = behind (writable s h) (λ e. name_next ts (k e)) (clear_says d)

-- ---- the text

not_both : (t : Terminal) → is_dot t ≡ false → is_dot t ≡ true → ⊥
not_both t h k = let wrong : false ≡ true = sym h ∙ k in cc wrong

no_dots : (s t : Terminal) (ss : List Terminal) {u v : Terminal} → Shown s u → Shown t v → (is_dot s ≡ true → NotDotNext (t ∷ ss))
    → NoDots (spelled s) (spelled t)
no_dots s t ss h j k = (
  λ one e. not_both t (k (one_dot s one)) (j.begins e),
  λ one e. not_both t (k (h.begins e)) (one_dot t one),
)

pub are_laid : {ss ts : List Terminal} → Says ss ts → AreLaid (map spelled ss)
are_laid nothing = tt
are_laid (behind h k nothing) = h.spelled_so
are_laid (behind {s = s} h k (behind {s = t} {ss = ss} j l d)) = (h.spelled_so, no_dots s t ss h j k, are_laid (behind {s = t} {ss = ss} j l d))

behind_says : (a : Spelled) {ss ts : List Terminal} → Says ss ts → map terminal_of (laid_behind calls a (map spelled ss)) ≡ ts
behind_says a nothing = refl
behind_says a (behind {s = s} h k d) = λ i. h.says i ∷ behind_says (spelled s) d i

pub laid_says : {ss ts : List Terminal} → Says ss ts → map terminal_of (laid calls (map spelled ss)) ≡ ts
laid_says nothing = refl
laid_says (behind {s = s} h k d) = λ i. h.says i ∷ behind_says (spelled s) d i

-- The text of the first lexes as tokens that say the second.
pub text_says : {ss ts : List Terminal} → Says ss ts → (tokens : List Lexeme) × Lexes 0 (terminals_text ss) tokens None × (token_terminals tokens ≡ ts)
text_says {ss = ss} d = (
  lexemes_from 0 (laid calls (map spelled ss)),
  printed_lexes calls (map spelled ss) (are_laid d),
  placed_terminals (laid calls (map spelled ss)) 0 ∙ laid_says d,
)
