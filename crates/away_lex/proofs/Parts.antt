-- The two lists of a function's file.
use Rattle.std.proofs.Common.{◌≡◌, ℕ, ◌+◌, ◌≤◌, true, false, List, [], ◌∷◌, ◌++◌, length, Option, Some, None, refl, sym, ap, ◌∙◌, subst, arith, inl, inr, append-nil, length-append}
use Rattle.std.proofs.lemmas.Bool.{cases_Bool}
use Rattle.away_grammar.specs.declared.tokens.TokenKind.{TokenKind}
use Rattle.away_grammar.specs.declared.tokens.TokenKind.TheVariants.{Word, Integer, Str, Parameter, Dollar, Symbol}
use Rattle.away_grammar.specs.Spellings.{mark_of, IsDollarQuote, Spells}
use Rattle.away_grammar.specs.Tokens.{Lexeme, Lexes, ends, skips, token, stops}
use Rattle.away_grammar.specs.FunctionFile.{is_dollar, first_dollar, up_to_dollar, bad_with_dollar, LexesPart, LexesBody}
use Rattle.away_lex.specs.declared.refusals.TokensRefusal.{TokensRefusal}
use Rattle.away_lex.specs.declared.refusals.TokensRefusal.TheVariants.{Bad, NoMemory}
use Rattle.away_lex.specs.Lexed.{RefusedAs, FileRefusedAs, Left, LexesFrom}
use Rattle.away_lex.proofs.Reading.{total}

-- ---- a list without a dollar quote, and what follows it

abbrev HasNone : List Lexeme → Type 0
HasNone ts = first_dollar ts ≡ None

none_cons : (t : Lexeme) (ts : List Lexeme) → HasNone (t ∷ ts) → (is_dollar t.kind ≡ false) × HasNone ts
none_cons t ts h = elim (cases_Bool (is_dollar t.kind)) [
  | inl y ↦ absurd (let e = rw y at h in cc)
  | inr n ↦ (n, rw n at h)
]

up_append : (xs ys : List Lexeme) → HasNone xs → up_to_dollar (xs ++ ys) ≡ xs ++ up_to_dollar ys
up_append [] ys h = refl
up_append (t ∷ xs) ys h = let p = none_cons t xs h in rw p.0 (ap (λ l. t ∷ l) (up_append xs ys p.1))

bad_append : (xs ys : List Lexeme) (bad : Option ℕ) → HasNone xs → bad_with_dollar (xs ++ ys) bad ≡ bad_with_dollar ys bad
bad_append [] ys bad h = refl
bad_append (t ∷ xs) ys bad h = let p = none_cons t xs h in rw p.0 (bad_append xs ys bad p.1)

pub none_more : (xs : List Lexeme) (t : Lexeme) → HasNone xs → is_dollar t.kind ≡ false → HasNone (xs ++ t ∷ [])
none_more [] t h n = rw n refl
none_more (u ∷ xs) t h n = let p = none_cons u xs h in rw p.0 (none_more xs t p.1 n)

-- ---- a part of a file

pub part_whole : (at : ℕ) (z : List ℕ) (xs : List Lexeme) (bad : Option ℕ) → HasNone xs → Lexes at z (xs ++ []) bad → LexesPart at z xs bad
part_whole at z xs bad h l = record {
  all = xs ++ [];
  all_bad = bad;
  lexes = l;
  tokens = sym (up_append xs [] h ∙ append-nil xs);
  first = sym (bad_append xs [] bad h);
}

pub part_cut : (at : ℕ) (z : List ℕ) (xs : List Lexeme) (t : Lexeme) (left : Left) → HasNone xs → is_dollar t.kind ≡ true
    → ((ts : List Lexeme) (bad : Option ℕ) → LexesFrom left ts bad → Lexes at z (xs ++ (t ∷ ts)) bad) → (ts : List Lexeme) × LexesPart at z ts (Some t.start)
part_cut at z xs t left h y reads =
    let more = total left.start left.rest in (
      xs,
      record {
        all = xs ++ (t ∷ more.0);
        all_bad = more.1.0;
        lexes = reads more.0 more.1.0 more.1.1;
        tokens = sym (up_append xs (t ∷ more.0) h ∙ (rw y (append-nil xs)));
        first = sym (bad_append xs (t ∷ more.0) more.1.0 h ∙ (rw y refl));
      },
    )

-- ---- the first dollar quote of a file

spelled_dollar : (k : TokenKind) (z : List ℕ) → is_dollar k ≡ true → Spells k z → IsDollarQuote z
spelled_dollar Dollar z h s = s
spelled_dollar Word z h s = absurd (cc)
spelled_dollar Integer z h s = absurd (cc)
spelled_dollar Str z h s = absurd (cc)
spelled_dollar Parameter z h s = absurd (cc)
spelled_dollar Symbol z h s = absurd (cc)

-- it is spelled as one, and stands in the text
abbrev pub IsQuoteIn : ℕ → List ℕ → Lexeme → Type 0
IsQuoteIn at z q = IsDollarQuote q.text × (q.start + length q.text ≤ at + length z)

pub dollar_in : {at : ℕ} {z : List ℕ} {ts : List Lexeme} {bad : Option ℕ} → Lexes at z ts bad → (q : Lexeme) → first_dollar ts ≡ Some q → IsQuoteIn at z q
dollar_in ends q h = absurd (cc)
dollar_in (skips {piece = p} {rest = r} e s more) q h = let i = dollar_in more q h in (i.0, omega (arith, i.1, ap length e, length-append p r))
dollar_in (token {at = at} {z = z} {piece = p} {rest = r} {kind = k} e s more) q h = elim (cases_Bool (is_dollar k)) [
  | inl y ↦ (let is : record { kind = k; text = p; start = at } ≡ q = (let f = rw y at h in cc) in
      subst (IsQuoteIn at z) is (spelled_dollar k p y s.spelled, omega (arith, ap length e, length-append p r)))
  | inr n ↦ (let i = dollar_in more q (rw n at h) in (i.0, omega (arith, i.1, ap length e, length-append p r)))
]
dollar_in (stops lt h) q e = absurd (cc)

body_of : (o : Option Lexeme) → ((q : Lexeme) → o ≡ Some q → IsDollarQuote q.text) → (body : List Lexeme) × ((bad : Option ℕ) × LexesBody o body bad)
body_of None h = ([], (None, (refl, refl)))
body_of (Some q) h =
    let d = h q refl in
    let mark = mark_of d.tag in
    let all = total (q.start + length mark) d.inside in (
      up_to_dollar all.0,
      (
        bad_with_dollar all.0 all.1.0,
        record {
          mark = mark;
          inside = d.inside;
          is_inside = record { tag = d.tag; is_tag = d.is_tag; is_mark = refl; spelled = d.spelled };
          part = record { all = all.0; all_bad = all.1.0; lexes = all.1.1; tokens = refl; first = refl };
        },
      ),
    )

pub file_refused : (z : List ℕ) (r : TokensRefusal) → RefusedAs z r → FileRefusedAs z r
file_refused z (Bad offset) h =
    let b = body_of (first_dollar h.0) (λ q e. (dollar_in h.1 q e).0) in
    (h.0, (b.0, record { outer_bad = Some offset; body_bad = b.1.0; outer_list = h.1; body_list = b.1.1; first = refl }))
file_refused z NoMemory h = tt
