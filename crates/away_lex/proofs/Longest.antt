-- A token is the longest that fits: no longer front of the text is spelled as a token.
use Rattle.std.proofs.Common.{◌≡◌, ℕ, ◌+◌, ◌<◌, ◌≤◌, Bool, true, not, ◌&&◌, eqb, ltb, leb, List, [], ◌∷◌, ◌++◌, length, get_or, Some, refl, sym, ap, ◌∙◌, arith, append_assoc, length-append, inl, inr}
use Rattle.std.proofs.lemmas.Bool.{cases_Bool, eqb-false}
use Rattle.std.specs.List.{prefix_len, list_all}
use Rattle.std.specs.Char.{is_ascii_digit}
use Rattle.away_grammar.specs.declared.tokens.TokenKind.{TokenKind}
use Rattle.away_grammar.specs.declared.tokens.TokenKind.TheVariants.{Word, Integer, Str, Parameter, Dollar, Symbol}
use Rattle.away_grammar.specs.Spellings.{is_blank, is_start, goes_on, doubled, quoted, IsNameText, IsInteger, is_symbol_text, Spells}
use Rattle.away_grammar.specs.Tokens.{Stands}
use Rattle.away_lex.specs.declared.pieces.Piece.TheVariants.{Skipped, Token}
use Rattle.away_lex.specs.declared.pieces.Class.TheVariants as class
use Rattle.away_lex.specs.Pieces.{first_piece, run, word, closing, quote, is_number}
use Rattle.away_lex.proofs.Steps.{closing_doubled, closing_other}
use Rattle.away_lex.proofs.Runs.{and_left, and_right}
use Rattle.away_lex.proofs.Symbols.{three_is, three_opens}
use Rattle.away_lex.proofs.Apart.{plus_some, from_true, from_false, some_token, string_kind, parameter_kind}
use Rattle.away_lex.proofs.Alone.{start_is, digit_is, digit_first, number_some, below}
use Rattle.away_lex.proofs.Complete.{token_found}
use Rattle.away_lex.proofs.Reading.{has_byte}

run_ge : (p : ℕ → Bool) (y s : List ℕ) → list_all p y ≡ true → length y ≤ prefix_len p (y ++ s)
run_ge p [] s h = omega arith
run_ge p (b ∷ y) s h = let e = run_ge p y s (and_right (p b) (list_all p y) h) in rw (and_left (p b) (list_all p y) h) (omega (arith, e))

closing_some : (r : List ℕ) (j : ℕ) → closing (39 ∷ r) ≡ Some j → 1 ≤ j
closing_some [] j h = (let e : j ≡ 1 = cc in omega arith)
closing_some (c ∷ r) j h = elim (cases_Bool (eqb c 39)) [
  | inl y ↦ (let p = plus_some 2 j (closing r) (rw y at h) in omega (arith, p.2))
  | inr n ↦ (let e : j ≡ 1 = (let f = rw n at h in cc) in omega arith)
]

closing_ge : (t r : List ℕ) (j : ℕ) → closing (doubled t ++ (39 ∷ r)) ≡ Some j → length (doubled t) + 1 ≤ j
closing_ge [] r j h = omega (arith, closing_some r j h)
closing_ge (b ∷ t) r j h = elim (cases_Bool (eqb b 39)) [
  | inl y ↦ (let f = rw y at h in
      let p = plus_some 2 j (closing (doubled t ++ (39 ∷ r))) (sym (closing_doubled (39 ∷ (doubled t ++ (39 ∷ r))) refl) ∙ f) in
      let e = closing_ge t r p.0 p.1 in rw y (omega (arith, p.2, e)))
  | inr n ↦ (let f = rw n at h in
      let p = plus_some 1 j (closing (doubled t ++ (39 ∷ r))) (sym (closing_other b (doubled t ++ (39 ∷ r)) (eqb-false b 39 n)) ∙ f) in
      let e = closing_ge t r p.0 p.1 in rw n (omega (arith, p.2, e)))
]

word_ge : (b : ℕ) (y s : List ℕ) (k : TokenKind) (n : ℕ) → IsNameText (b ∷ y) → first_piece ((b ∷ y) ++ s) ≡ Some (Token k n) → length (b ∷ y) ≤ n
unfolding first_piece
word_ge b y s k n w h =
    let z = b ∷ (y ++ s) in
    let f = from_true (is_start b) _ w.starts (from_false (is_blank b) (Some (Skipped 1)) (start_is b w.starts).0 h) in
    let p = some_token (leb (run class.Name z) 63) Word k (run class.Name z) n f in
    omega (arith, p.1, run_ge goes_on (b ∷ y) s w.plain)

integer_ge : (b : ℕ) (y s : List ℕ) (k : TokenKind) (n : ℕ) → IsInteger (b ∷ y) → first_piece ((b ∷ y) ++ s) ≡ Some (Token k n) → length (b ∷ y) ≤ n
unfolding first_piece
integer_ge b y s k n w h =
    let z = b ∷ (y ++ s) in
    let digit = digit_first (b ∷ y) w.some w.digits in
    let off = digit_is b digit in
    let f = from_true (is_ascii_digit b) _ digit (from_false (is_start b) (word z) off.1 (from_false (is_blank b) (Some (Skipped 1)) off.0 h)) in
    let p = some_token (is_number 9223372036854775808 z) Integer k (run class.Digit z) n f in
    omega (arith, p.1, run_ge is_ascii_digit (b ∷ y) s w.digits)

string_ge : (t s : List ℕ) (k : TokenKind) (n : ℕ) → first_piece (quoted t ++ s) ≡ Some (Token k n) → length (quoted t) ≤ n
unfolding first_piece
string_ge t s k n h =
    let rest = (doubled t ++ 39 ∷ []) ++ s in
    let p = string_kind rest (closing rest) k n h in
    let join : rest ≡ doubled t ++ (39 ∷ s) = append_assoc (doubled t) (39 ∷ []) s in
    let e = closing_ge t s p.1.0 (ap closing (sym join) ∙ p.1.1) in
    omega (arith, p.1.2, e, length-append (doubled t) (39 ∷ []))

parameter_ge : (ds s : List ℕ) (k : TokenKind) (n : ℕ) → list_all is_ascii_digit ds ≡ true → 0 < length ds → first_piece ((36 ∷ ds) ++ s) ≡ Some (Token k n) → length (36 ∷ ds) ≤ n
unfolding first_piece
parameter_ge ds s k n plain some h =
    let z = ds ++ s in
    let ge = run_ge is_ascii_digit ds s plain in
    let f = from_true (ltb 0 (run class.Digit z)) (quote (36 ∷ z) (run class.Name z)) (below (run class.Digit z) (omega (arith, ge))) h in
    let p = parameter_kind 36 z k n f in
    omega (arith, p.1, ge)

exact : (l : TokenKind) (y s : List ℕ) (k : TokenKind) (n : ℕ) → Stands l y s → first_piece (y ++ s) ≡ Some (Token k n) → length y ≤ n
exact l y s k n st h = let e : n ≡ length y = (let f = token_found l y s st in cc) in omega arith

symbol_ge : (y s : List ℕ) (k : TokenKind) (n : ℕ) → is_symbol_text y ≡ true → first_piece (y ++ s) ≡ Some (Token k n) → length y ≤ n
symbol_ge [] s k n w h = absurd (cc)
symbol_ge (b ∷ []) s k n w h = has_byte (b ∷ s) (Token k n) h
symbol_ge (b ∷ c ∷ []) s k n w h =
    let d = get_or s 0 0 in
    exact Symbol (b ∷ c ∷ []) s k n (record { spelled = w; apart = λ i. not (three_is b c d [] i) && not (three_opens b c d [] i) }) h
symbol_ge (b ∷ c ∷ d ∷ y) s k n w h = absurd (let e = three_is b c d y in cc)

-- what is found at the front is no shorter than a token's spelling that stands there
spelled_ge : (l : TokenKind) (y s : List ℕ) (k : TokenKind) (n : ℕ) → Spells l y → first_piece (y ++ s) ≡ Some (Token k n) → length y ≤ n
spelled_ge Word [] s k n w h = omega arith
spelled_ge Word (b ∷ y) s k n w h = word_ge b y s k n w h
spelled_ge Integer [] s k n w h = omega arith
spelled_ge Integer (b ∷ y) s k n w h = integer_ge b y s k n w h
spelled_ge Str y s k n w h = rw w.spelled (string_ge w.text s k n (ap (λ l. first_piece (l ++ s)) (sym w.spelled) ∙ h))
spelled_ge Parameter y s k n w h =
    rw w.spelled (parameter_ge w.digits s k n w.plain (number_some w.digits w.from_one) (ap (λ l. first_piece (l ++ s)) (sym w.spelled) ∙ h))
spelled_ge Dollar y s k n w h = exact Dollar y s k n (record { spelled = w; apart = refl }) h
spelled_ge Symbol y s k n w h = symbol_ge y s k n w h

pub longest : (k l : TokenKind) (z rest y other : List ℕ) → Stands k z rest → Spells l y → z ++ rest ≡ y ++ other → length y ≤ length z
longest k l z rest y other st sp e = spelled_ge l y other k (length z) sp (ap first_piece (sym e) ∙ token_found k z rest st)
