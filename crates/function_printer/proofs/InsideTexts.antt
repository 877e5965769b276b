-- What stands between the marks of a dollar quote lexes to the tokens that were printed, none of which is a dollar quote.
use Rattle.std.proofs.Common.{◌≡◌, ℕ, ◌+◌, ◌<◌, true, false, Bool, if◌then◌else◌, List, [], ◌∷◌, ◌++◌, length, map, Some, None, refl, sym, ap, ◌∙◌, subst, arith, append_assoc}
use Rattle.away_grammar.specs.declared.grammar.Mark.{Mark}
use Rattle.away_grammar.specs.declared.grammar.Mark.TheVariants as m
use Rattle.away_grammar.specs.declared.tokens.TokenKind.{TokenKind}
use Rattle.away_grammar.specs.Reserved.{calls}
use Rattle.away_grammar.specs.Terminals.{Terminal, mark, name, integer, string, parameter, quote, token_terminals}
use Rattle.away_grammar.specs.Spellings.{byte, may_precede, Spells}
use Rattle.away_grammar.specs.Tokens.{Lexeme, Lexes, blank, ends, skips, token}
use Rattle.away_grammar.specs.FunctionFile.{is_dollar, up_to_dollar, bad_with_dollar, LexesPart}
use Rattle.away_grammar.specs.Spacing.{Spelled, Written, written, laid, laid_behind, lexemes_from, StandApart}
use Rattle.away_grammar.specs.Printing.{spelled, mark_spelled, terminals_text}
use Rattle.away_lex.proofs.Complete.{spelled_some}
use Rattle.away_lex.proofs.Printer.{laid_apart}
use Rattle.away_lex.proofs.ReadsBack.{before_space, before_end}
use Rattle.sql_printer.proofs.PrintTexts.{placed_terminals}
use Rattle.function_printer.specs.FunctionTexts.{written_alone, spaced_text}
use Rattle.function_printer.proofs.Plain.{Plain, plain_more, is_quote}
use Rattle.function_printer.proofs.Says.{Says, are_laid, laid_says}

-- what is written, with a space at the end
abbrev spaced : List Written → List ℕ
spaced ws = written_alone ws ++ 32 ∷ []

-- what is written has a line feed behind it
pub written_is : (ws : List Written) → written ws ≡ written_alone ws ++ 10 ∷ []
written_is [] = refl
written_is (w ∷ ws) =
    let first = (if w.spaced then 32 ∷ w.text else w.text) in
    ap (λ z. first ++ z) (written_is ws) ∙ sym (append_assoc first (written_alone ws) (10 ∷ []))

pub text_is : (ss : List Terminal) → terminals_text ss ≡ spaced_text ss ++ 10 ∷ []
text_is ss = written_is (laid calls (map spelled ss))

more_spaced : (w : Written) (ws : List Written) → spaced (w ∷ ws) ≡ (if w.spaced then 32 ∷ w.text else w.text) ++ spaced ws
more_spaced w ws = append_assoc (if w.spaced then 32 ∷ w.text else w.text) (written_alone ws) (32 ∷ [])

-- ---- each may stand before what is behind it

first_byte : (b : Bool) (text r s : List ℕ) → 0 < length text → byte ((if b then 32 ∷ text else text) ++ r) 0 ≡ byte ((if b then 32 ∷ text else text) ++ s) 0
first_byte true text r s some = refl
first_byte false [] r s some = absurd (omega arith)
first_byte false (c ∷ text) r s some = refl

apart_by : (w : Written) (ws : List Written) → StandApart (w ∷ ws) → may_precede w.kind w.text (byte (spaced ws) 0) ≡ true
apart_by w [] h = before_space w.kind w.text h.0
apart_by w (v ∷ ws) h =
    let same : byte (written (v ∷ ws)) 0 ≡ byte (spaced (v ∷ ws)) 0 =
    first_byte v.spaced v.text (written ws) (spaced ws) (spelled_some v.kind v.text h.2.0) ∙ ap (λ z. byte z 0) (sym (more_spaced v ws)) in
    ap (λ b. may_precede w.kind w.text b) (sym same) ∙ h.1

-- ---- the tokens

spaced_token : (b : Bool) (at : ℕ) (kind : TokenKind) (text rest : List ℕ) (ts : List Lexeme) → Spells kind text → may_precede kind text (byte rest 0) ≡ true
    → Lexes ((if b then at + 1 else at) + length text) rest ts None
    → Lexes at ((if b then 32 ∷ text else text) ++ rest) (record { kind = kind; text = text; start = (if b then at + 1 else at) } ∷ ts) None
spaced_token true at kind text rest ts s apart more =
    skips {piece = 32 ∷ []} {rest = text ++ rest} refl (blank refl) (token refl (record { spelled = s; apart = apart }) more)
spaced_token false at kind text rest ts s apart more = token refl (record { spelled = s; apart = apart }) more

spaced_lexes : (ws : List Written) (at : ℕ) → StandApart ws → Lexes at (spaced ws) (lexemes_from at ws) None
spaced_lexes [] at h = skips {piece = 32 ∷ []} {rest = []} refl (blank refl) ends
spaced_lexes (w ∷ ws) at h =
    subst (λ z. Lexes at z (lexemes_from at (w ∷ ws)) None) (sym (more_spaced w ws))
    (spaced_token w.spaced at w.kind w.text (spaced ws) (lexemes_from ((if w.spaced then at + 1 else at) + length w.text) ws) h.0 (apart_by w ws h)
    (spaced_lexes ws ((if w.spaced then at + 1 else at) + length w.text) h.2))

-- ---- no dollar quote is among them

abbrev NoDollars : List Written → Type 0
NoDollars [] = Unit {0}
NoDollars (w ∷ ws) = (is_dollar w.kind ≡ false) × NoDollars ws

of_mark : (terminal : Mark) → is_dollar (mark_spelled terminal).kind ≡ false
of_mark m.Assign = refl
of_mark _ = refl

pub mark_no_dollar : (s : Terminal) → is_quote s ≡ false → is_dollar (spelled s).kind ≡ false
mark_no_dollar (mark terminal) h = of_mark terminal
mark_no_dollar (name n) h = refl
mark_no_dollar (integer n) h = refl
mark_no_dollar (string z) h = refl
mark_no_dollar (parameter i) h = refl
mark_no_dollar (quote z) h = absurd (cc h)

behind_no_dollars : (a : Spelled) (ss : List Terminal) → Plain ss → NoDollars (laid_behind calls a (map spelled ss))
behind_no_dollars a [] h = tt
behind_no_dollars a (s ∷ ss) (plain_more h d) = (mark_no_dollar s h, behind_no_dollars (spelled s) ss d)

no_dollars : (ss : List Terminal) → Plain ss → NoDollars (laid calls (map spelled ss))
no_dollars [] h = tt
no_dollars (s ∷ ss) (plain_more h d) = (mark_no_dollar s h, behind_no_dollars (spelled s) ss d)

all_before : (ws : List Written) (at : ℕ) → NoDollars ws → lexemes_from at ws ≡ up_to_dollar (lexemes_from at ws)
all_before [] at h = refl
all_before (w ∷ ws) at h =
    let start = (if w.spaced then at + 1 else at) in
    let first : Lexeme = record { kind = w.kind; text = w.text; start = start } in
    ap (λ ts. first ∷ ts) (all_before ws (start + length w.text) h.1)
    ∙ ap (λ b. if b then [] else first ∷ up_to_dollar (lexemes_from (start + length w.text) ws)) (sym h.0)

none_bad : (ws : List Written) (at : ℕ) → NoDollars ws → None ≡ bad_with_dollar (lexemes_from at ws) None
none_bad [] at h = refl
none_bad (w ∷ ws) at h =
    let start = (if w.spaced then at + 1 else at) in
    none_bad ws (start + length w.text) h.1
    ∙ ap (λ b. if b then Some start else bad_with_dollar (lexemes_from (start + length w.text) ws) None) (sym h.0)

-- The text of terminals between two spaces lexes, from any offset on, as tokens that say them.
pub inside_says : {ss ts : List Terminal} → Says ss ts → Plain ss → (at : ℕ)
    → (tokens : List Lexeme) × LexesPart at (32 ∷ (spaced_text ss ++ 32 ∷ [])) tokens None × (token_terminals tokens ≡ ts)
inside_says {ss = ss} d plain at =
    let ws = laid calls (map spelled ss) in
    let found = lexemes_from (at + 1) ws in (
      found,
      record {
        all = found;
        all_bad = None;
        lexes = skips {piece = 32 ∷ []} {rest = spaced ws} refl (blank refl) (spaced_lexes ws (at + 1) (laid_apart calls (map spelled ss) (are_laid d)));
        tokens = all_before ws (at + 1) (no_dollars ss plain);
        first = none_bad ws (at + 1) (no_dollars ss plain);
      },
      placed_terminals ws (at + 1) ∙ laid_says d,
    )

-- ---- the text alone

alone_apart : (w : Written) (ws : List Written) → StandApart (w ∷ ws) → may_precede w.kind w.text (byte (written_alone ws) 0) ≡ true
alone_apart w [] h = before_end w.kind w.text h.0
alone_apart w (v ∷ ws) h =
    let same : byte (written (v ∷ ws)) 0 ≡ byte (written_alone (v ∷ ws)) 0 =
    first_byte v.spaced v.text (written ws) (written_alone ws) (spelled_some v.kind v.text h.2.0) in
    ap (λ b. may_precede w.kind w.text b) (sym same) ∙ h.1

alone_lexes : (ws : List Written) (at : ℕ) → StandApart ws → Lexes at (written_alone ws) (lexemes_from at ws) None
alone_lexes [] at h = ends
alone_lexes (w ∷ ws) at h =
    spaced_token w.spaced at w.kind w.text (written_alone ws) (lexemes_from ((if w.spaced then at + 1 else at) + length w.text) ws) h.0 (alone_apart w ws h)
    (alone_lexes ws ((if w.spaced then at + 1 else at) + length w.text) h.2)

-- The text of terminals lexes as tokens that say them.
pub alone_says : {ss ts : List Terminal} → Says ss ts → (tokens : List Lexeme) × Lexes 0 (spaced_text ss) tokens None × (token_terminals tokens ≡ ts)
alone_says {ss = ss} d =
    let ws = laid calls (map spelled ss) in
    (lexemes_from 0 ws, alone_lexes ws 0 (laid_apart calls (map spelled ss) (are_laid d)), placed_terminals ws 0 ∙ laid_says d)
