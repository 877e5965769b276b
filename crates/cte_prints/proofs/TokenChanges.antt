-- What tokens do to the count is what the terminals that they are do.
use Rattle.std.proofs.Common.{◌≡◌, ◌⊎◌, ℕ, Bool, true, false, not, ◌||◌, ◌&&◌, if◌then◌else◌, List, [], ◌∷◌, Option, Some, None, refl, sym, ap, ◌∙◌, subst}
use Rattle.std.proofs.Common.{inl, inr, bytes_eq, codes}
use Rattle.std.specs.List.{list_all}
use Rattle.std.proofs.lemmas.Bool.{cases_Bool}
use Rattle.std.proofs.lemmas.Slice.Eq.{bytes_eq-Decides}
use Rattle.away_grammar.specs.declared.grammar.Mark.{Mark}
use Rattle.away_grammar.specs.declared.grammar.Mark.TheVariants as m
use Rattle.away_grammar.specs.declared.tokens.TokenKind.{TokenKind}
use Rattle.away_grammar.specs.declared.tokens.TokenKind.TheVariants.{Word, Integer, Str, Parameter, Dollar, Symbol}
use Rattle.away_grammar.specs.Marks.{Entry, reserved_words, spelled_symbols}
use Rattle.away_grammar.specs.Nesting as tokens
use Rattle.away_grammar.specs.Nesting.{Change, opens, closes, stays}
use Rattle.away_grammar.specs.Reserved.{folded}
use Rattle.away_grammar.specs.Terminals.{Terminal, name, quote, first_mark, word_mark, symbol_mark, mark_or, terminal_by_kind, token_terminal, token_terminals}
use Rattle.away_grammar.specs.Tokens.{Lexeme}
use Rattle.away_lex.proofs.Runs.{and_left, and_right}
use Rattle.cte_prints.specs.TerminalNesting.{change, changes, is_closed, is_end}

-- what something does to the count, whether it is END, and whether END makes a pair with it
abbrev Does : Type 0
Does = Change × (Bool × Bool)

abbrev token_does : Lexeme → Does
token_does t = (tokens.change t, (tokens.is_end t, tokens.is_closed t))

abbrev terminal_does : Terminal → Does
terminal_does s = (change s, (is_end s, is_closed s))

-- ---- texts that spell a mark

abbrev same_change : Change → Change → Bool
same_change opens opens = true
same_change closes closes = true
same_change stays stays = true
same_change _ _ = false

abbrev same_test : Bool → Bool → Bool
same_test true b = b
same_test false b = not b

abbrev same_does : Does → Does → Bool
same_does a b = same_change a.0 b.0 && (same_test a.1.0 b.1.0 && same_test a.1.1 b.1.1)

one_change : (c d : Change) → same_change c d ≡ true → c ≡ d
one_change opens opens h = refl
one_change closes closes h = refl
one_change stays stays h = refl
one_change _ _ h = absurd (cc h)

one_test : (a b : Bool) → same_test a b ≡ true → a ≡ b
one_test true true h = refl
one_test false false h = refl
one_test _ _ h = absurd (cc h)

one_does : (a b : Does) → same_does a b ≡ true → a ≡ b
one_does a b h =
    let tests = and_right (same_change a.0 b.0) (same_test a.1.0 b.1.0 && same_test a.1.1 b.1.1) h in
    let first = one_change a.0 b.0 (and_left (same_change a.0 b.0) (same_test a.1.0 b.1.0 && same_test a.1.1 b.1.1) h) in
    let second = one_test a.1.0 b.1.0 (and_left (same_test a.1.0 b.1.0) (same_test a.1.1 b.1.1) tests) in
    let third = one_test a.1.1 b.1.1 (and_right (same_test a.1.0 b.1.0) (same_test a.1.1 b.1.1) tests) in
    λ i. (first i, (second i, third i))

-- The text is that of an entry, of which the test holds, or has no mark.
found : {Q : Type 0} (test : Entry → Bool) (same : List ℕ → Bool) (es : List Entry) → list_all test es ≡ true
    → ((e : Entry) → same e.0 ≡ true → test e ≡ true → Q) → Q ⊎ (first_mark same es ≡ None)
found test same [] h give = inr refl
found test same (e ∷ es) h give = elim (cases_Bool (same e.0)) [
  | inl here ↦ inl (give e here (and_left (test e) (list_all test es) h))
  | inr other ↦ (elim (found test same es (and_right (test e) (list_all test es) h) give) [
    | inl q ↦ inl q
    | inr none ↦ inr (ap (λ b. if b then Some e.1 else first_mark same es) other ∙ none)
  ])
]

-- ---- words

-- the mark of a word in lower case
abbrev marked : List ℕ → Option Mark
marked n = first_mark (λ w. bytes_eq n (folded w)) reserved_words

-- what a word in lower case does
abbrev by_word : Bool → Bool → Bool → Bool → Bool → Does
by_word begin an_if a_loop a_case an_end =
    (if (begin || ((an_if || a_loop) || a_case)) then opens else (if an_end then closes else stays), (an_end, (an_if || a_loop) || a_case))

abbrev word_does : List ℕ → Does
word_does n = by_word (bytes_eq n (codes "begin")) (bytes_eq n (codes "if")) (bytes_eq n (codes "loop")) (bytes_eq n (codes "case")) (bytes_eq n (codes "end"))

abbrev WordIsTerminal : List ℕ → Type 0
WordIsTerminal n = word_does n ≡ terminal_does (mark_or (marked n) (name n))

-- the same by a test, of the text of an entry
abbrev folded_terminal : Entry → Bool
folded_terminal e = same_does (word_does (folded e.0)) (terminal_does (mark_or (marked (folded e.0)) (name (folded e.0))))

-- no word without a mark is the text of one
isnt : (n w : List ℕ) (terminal : Mark) → marked w ≡ Some terminal → marked n ≡ None → bytes_eq n w ≡ false
isnt n w terminal is none = elim (cases_Bool (bytes_eq n w)) [
  | inl here ↦ absurd (let no : Some terminal ≡ None = sym is ∙ ap marked (sym ((bytes_eq-Decides n w).0 here)) ∙ none in cc no)
  | inr other ↦ other
]

unmarked_terminal : (n : List ℕ) → marked n ≡ None → WordIsTerminal n
unmarked_terminal n none =
    (λ i.
    by_word (isnt n (codes "begin") m.Begin refl none i) (isnt n (codes "if") m.If refl none i) (isnt n (codes "loop") m.Loop refl none i)
    (isnt n (codes "case") m.Case refl none i) (isnt n (codes "end") m.End refl none i))
    ∙ ap (λ o. terminal_does (mark_or o (name n))) (sym none)

word_terminal : (n : List ℕ) → WordIsTerminal n
word_terminal n =
    let entry : (e : Entry) → bytes_eq n (folded e.0) ≡ true → folded_terminal e ≡ true → WordIsTerminal n =
    (λ e here derivable. subst WordIsTerminal (sym ((bytes_eq-Decides n (folded e.0)).0 here)) (one_does _ _ derivable)) in
    elim (found {Q = WordIsTerminal n} folded_terminal (λ w. bytes_eq n (folded w)) reserved_words refl entry) [ inl derivable ↦ derivable | inr none ↦ unmarked_terminal n none ]

-- ---- symbols

abbrev by_symbol : Bool → Bool → Does
by_symbol begins ends = (if ((begins || false) || false) then opens else (if (ends || false) then closes else stays), (false, false))

abbrev spelling : List ℕ → Option Mark
spelling z = first_mark (bytes_eq z) spelled_symbols

abbrev SymbolIsTerminal : List ℕ → Type 0
SymbolIsTerminal z = by_symbol (bytes_eq z (codes "(")) (bytes_eq z (codes ")")) ≡ terminal_does (mark_or (spelling z) (quote z))

abbrev symbol_is_terminal : Entry → Bool
symbol_is_terminal e = same_does (by_symbol (bytes_eq e.0 (codes "(")) (bytes_eq e.0 (codes ")"))) (terminal_does (mark_or (spelling e.0) (quote e.0)))

isnt_symbol : (z w : List ℕ) (terminal : Mark) → spelling w ≡ Some terminal → spelling z ≡ None → bytes_eq z w ≡ false
isnt_symbol z w terminal is none = elim (cases_Bool (bytes_eq z w)) [
  | inl here ↦ absurd (let no : Some terminal ≡ None = sym is ∙ ap spelling (sym ((bytes_eq-Decides z w).0 here)) ∙ none in cc no)
  | inr other ↦ other
]

unmarked_symbol : (z : List ℕ) → spelling z ≡ None → SymbolIsTerminal z
unmarked_symbol z none =
    (λ i. by_symbol (isnt_symbol z (codes "(") m.Open refl none i) (isnt_symbol z (codes ")") m.Close refl none i))
    ∙ ap (λ o. terminal_does (mark_or o (quote z))) (sym none)

symbol_terminal : (z : List ℕ) → SymbolIsTerminal z
symbol_terminal z =
    let entry : (e : Entry) → bytes_eq z e.0 ≡ true → symbol_is_terminal e ≡ true → SymbolIsTerminal z =
    (λ e here derivable. subst SymbolIsTerminal (sym ((bytes_eq-Decides z e.0).0 here)) (one_does _ _ derivable)) in
    elim (found {Q = SymbolIsTerminal z} symbol_is_terminal (bytes_eq z) spelled_symbols refl entry) [ inl derivable ↦ derivable | inr none ↦ unmarked_symbol z none ]

-- ---- all tokens

by_kind : (kind : TokenKind) (z : List ℕ) → token_does (record { kind = kind; text = z; start = 0 }) ≡ terminal_does (terminal_by_kind kind z)
unfolding word_mark symbol_mark
by_kind Word z = word_terminal (folded z)
by_kind Integer z = refl
by_kind Str z = refl
by_kind Parameter z = refl
by_kind Dollar z = refl
by_kind Symbol z = symbol_terminal z

token_does_so : (t : Lexeme) → token_does t ≡ terminal_does (token_terminal t)
token_does_so t = by_kind t.kind t.text

pub changes_alike : (ts : List Lexeme) → tokens.changes ts ≡ changes (token_terminals ts)
changes_alike [] = refl
changes_alike (t ∷ []) = λ i. (token_does_so t i).0 ∷ []
changes_alike (t ∷ u ∷ ts) = λ i.
    if ((token_does_so t i).1.0 && (token_does_so u i).1.1) then closes ∷ changes_alike ts i else (token_does_so t i).0 ∷ changes_alike (u ∷ ts) i
