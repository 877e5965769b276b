-- The tokens of a printed text are the terminals that it was made of.
use Rattle.std.proofs.Common.{◌≡◌, ℕ, ◌+◌, true, List, [], ◌∷◌, ◌++◌, length, map, None, refl, sym, ap, ◌∙◌, subst, arith, append-nil, if◌then◌else◌}
use Rattle.std.specs.Prelude.{decimal}
use Rattle.std.specs.Char.{is_ascii_digit}
use Rattle.away_grammar.specs.declared.grammar.Mark.{Mark}
use Rattle.away_grammar.specs.declared.grammar.Mark.TheVariants as m
use Rattle.away_trees.specs.declared.queries.Query.{Query}
use Rattle.away_grammar.specs.Reserved.{calls}
use Rattle.away_grammar.specs.Terminals.{Terminal, mark, name, integer, string, parameter, quote, terminal_by_kind, token_terminals}
use Rattle.away_grammar.specs.Spellings.{byte, is_start, IsNameText, IsInteger, IsDollarQuote}
use Rattle.away_grammar.specs.Tokens.{Lexeme, Lexes}
use Rattle.away_grammar.specs.Spacing.{Spelled, Written, is_one, laid, laid_behind, lexemes_from, NoDots, AreLaid}
use Rattle.away_grammar.specs.Grammar.{Reads, file}
use Rattle.away_grammar.specs.Printing.{mark_spelled, spelled, query_terminals, query_text, terminals_text}
use Rattle.away_lex.proofs.Alone.{digit_first}
use Rattle.away_lex.proofs.Printer.{printed_lexes}
use Rattle.sql_printer.specs.Writable.{Writable, AllWritable}
use Rattle.sql_printer.proofs.PrintBack.{prints_back}
use Rattle.sql_printer.proofs.PrintWritable.{prints_clear}
use Rattle.sql_printer.proofs.PrintClear.{Clear, nothing, behind, is_dot, BeginsWithName}
use Rattle.sql_printer.proofs.PrintTokens.{spells, spelled_back, integer_spells}

-- ---- no dot touches a dot

mark_dot : (terminal : Mark) → is_one 46 (mark_spelled terminal) ≡ true → is_dot (mark terminal) ≡ true
mark_dot m.Dot h = refl
mark_dot _ h = absurd (cc h)

pub one_dot : (s : Terminal) → is_one 46 (spelled s) ≡ true → is_dot s ≡ true
one_dot (mark terminal) h = mark_dot terminal h
one_dot (name n) h = absurd (cc h)
one_dot (integer n) h = absurd (cc h)
one_dot (string t) h = absurd (cc h)
one_dot (parameter i) h = absurd (cc h)
one_dot (quote z) h = absurd (cc h)

name_begins : (n : List ℕ) → IsNameText n → byte n 0 ≡ 46 → ⊥
name_begins n h e = let no : is_start 46 ≡ true = ap is_start (sym e) ∙ h.starts in cc no

digits_begin : (ds : List ℕ) → IsInteger ds → byte ds 0 ≡ 46 → ⊥
digits_begin ds h e = let no : is_ascii_digit 46 ≡ true = ap is_ascii_digit (sym e) ∙ digit_first ds h.some h.digits in cc no

quote_begins : (z : List ℕ) → IsDollarQuote z → byte z 0 ≡ 46 → ⊥
quote_begins z h e = let no : 36 ≡ 46 = sym (ap (λ y. byte y 0) h.spelled) ∙ e in omega (arith, no)

mark_begins : (terminal : Mark) → byte (mark_spelled terminal).text 0 ≡ 46 → is_dot (mark terminal) ≡ true
mark_begins m.Dot e = refl
mark_begins m.Dots e = refl
mark_begins _ e = absurd (omega (arith, e))

pub begins_dot : (s : Terminal) → Writable s → byte (spelled s).text 0 ≡ 46 → is_dot s ≡ true
begins_dot (mark terminal) h e = mark_begins terminal e
begins_dot (name n) h e = absurd (name_begins n h.0 e)
begins_dot (integer n) h e = absurd (digits_begin (decimal n) (integer_spells n h) e)
begins_dot (string t) h e = absurd (omega (arith, e))
begins_dot (parameter i) h e = absurd (omega (arith, e))
begins_dot (quote z) h e = absurd (quote_begins z h e)

pub dot_begins : (t : Terminal) (ts : List Terminal) → is_dot t ≡ true → BeginsWithName (t ∷ ts) → ⊥
dot_begins (mark terminal) ts h k = k
dot_begins (name n) ts h k = cc h
dot_begins (integer n) ts h k = k
dot_begins (string t) ts h k = k
dot_begins (parameter i) ts h k = k
dot_begins (quote z) ts h k = k

behind_dot : (t : Terminal) (ts : List Terminal) → Writable t → BeginsWithName (t ∷ ts) → byte (spelled t).text 0 ≡ 46 → ⊥
behind_dot t ts h k e = dot_begins t ts (begins_dot t h e) k

no_dots : (s t : Terminal) (ts : List Terminal) → Writable s → Writable t → (is_dot s ≡ true → BeginsWithName (t ∷ ts)) → NoDots (spelled s) (spelled t)
no_dots s t ts h j k = (λ one. behind_dot t ts j (k (one_dot s one)), λ one e. dot_begins t ts (one_dot t one) (k (begins_dot s h e)))

are_laid : {ts : List Terminal} → Clear ts → AreLaid (map spelled ts)
are_laid nothing = tt
are_laid (behind {s = s} h k nothing) = spells s h
are_laid (behind {s = s} h k (behind {s = t} {ts = ts} j l d)) = (spells s h, no_dots s t ts h j k, are_laid (behind {s = t} {ts = ts} j l d))

-- ---- what the tokens are

all_writable : {ts : List Terminal} → Clear ts → AllWritable ts
all_writable nothing = tt
all_writable (behind h k d) = (h, all_writable d)

abbrev pub terminal_of : Written → Terminal
terminal_of w = terminal_by_kind w.kind w.text

pub placed_terminals : (ws : List Written) (at : ℕ) → token_terminals (lexemes_from at ws) ≡ map terminal_of ws
placed_terminals [] at = refl
placed_terminals (w ∷ ws) at = ap (λ ts. terminal_of w ∷ ts) (placed_terminals ws ((if w.spaced then at + 1 else at) + length w.text))

behind_terminals : (ts : List Terminal) (a : Spelled) → AllWritable ts → map terminal_of (laid_behind calls a (map spelled ts)) ≡ ts
behind_terminals [] a h = refl
behind_terminals (t ∷ ts) a h = λ i. spelled_back t h.0 i ∷ behind_terminals ts (spelled t) h.1 i

laid_terminals : (ts : List Terminal) → AllWritable ts → map terminal_of (laid calls (map spelled ts)) ≡ ts
laid_terminals [] h = refl
laid_terminals (t ∷ ts) h = λ i. spelled_back t h.0 i ∷ behind_terminals ts (spelled t) h.1 i

pub terminals_lex : (ts : List Terminal) → Clear ts → (tokens : List Lexeme) × Lexes 0 (terminals_text ts) tokens None × (token_terminals tokens ≡ ts)
terminals_lex ts d = (lexemes_from 0 (laid calls (map spelled ts)), printed_lexes calls (map spelled ts) (are_laid d), placed_terminals (laid calls (map spelled ts)) 0 ∙ laid_terminals ts (all_writable d))

pub text_reads : (ts : List Terminal) (q : Query) → AllWritable ts → Reads file ts q []
    → (tokens : List Lexeme) × Lexes 0 (query_text q) tokens None × (token_terminals tokens ≡ query_terminals q) × Reads file (token_terminals tokens) q []
unfolding query_text
text_reads ts q h d =
    let lexed = terminals_lex (query_terminals q) (prints_clear d h).0 in
    let terminals : token_terminals lexed.0 ≡ query_terminals q ++ [] = lexed.2 ∙ sym (append-nil (query_terminals q)) in
    (lexed.0, lexed.1, lexed.2, subst (λ ts. Reads file ts q []) (sym terminals) (prints_back d []))
