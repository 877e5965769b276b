-- The terminals of the tokens of a function's body are writable.
use Rattle.std.proofs.Common.{◌≡◌, ◌<◌, ℕ, suc, ◌+◌, List, [], ◌∷◌, ◌++◌, length, drop, get_or, Option, Some, None, refl, sym}
use Rattle.std.proofs.Common.{ap, ◌∙◌, subst, arith, append_assoc, inl, inr}
use Rattle.std.specs.Prelude.{IsUtf8}
use Rattle.std.proofs.lemmas.Bool.{cases_Bool}
use Rattle.std.proofs.lemmas.List.{length-append}
use Rattle.std.proofs.lemmas.Str.{IsUtf8-drop, IsUtf8-take, IsCharBoundary-after_ascii, IsCharBoundary-before_ascii}
use Rattle.std.proofs.Math.Seq.{take-append_seam}
use Rattle.away_grammar.specs.FunctionFile.{IsInside, LexesInside, LexesBody, LexesFile, is_dollar, first_dollar, up_to_dollar}
use Rattle.away_grammar.specs.Terminals.{token_terminals}
use Rattle.away_grammar.specs.Tokens.{Lexeme, Lexes, ends, skips, token, stops}
use Rattle.sql_printer.specs.Writable.{AllWritable}
use Rattle.sql_printer.proofs.TextTerminals.{text_writable}

-- ---- UTF-8 round a dollar terminal

at_seam : (a r : List ℕ) → get_or (a ++ 36 ∷ r) (length a) 0 ≡ 36
at_seam [] r = refl
at_seam (b ∷ a) r = at_seam a r

drop_seam : (a r : List ℕ) → drop (length a + 1) (a ++ 36 ∷ r) ≡ r
drop_seam [] r = refl
drop_seam (b ∷ a) r = let n : length (b ∷ a) + 1 ≡ suc (length a + 1) = omega arith in rw n (drop_seam a r)

before_dollar : (a r : List ℕ) → IsUtf8 (a ++ 36 ∷ r) → IsUtf8 a
before_dollar a r u =
    let within : length a < length (a ++ 36 ∷ r) = omega (arith, length-append a (36 ∷ r)) in
    let ascii : get_or (a ++ 36 ∷ r) (length a) 0 < 128 = omega (arith, at_seam a r) in
    subst IsUtf8 (take-append_seam a (36 ∷ r)) (IsUtf8-take (a ++ 36 ∷ r) (length a) u (IsCharBoundary-before_ascii (a ++ 36 ∷ r) (length a) within ascii))

behind_dollar : (a r : List ℕ) → IsUtf8 (a ++ 36 ∷ r) → IsUtf8 r
behind_dollar a r u =
    let within : length a < length (a ++ 36 ∷ r) = omega (arith, length-append a (36 ∷ r)) in
    let ascii : get_or (a ++ 36 ∷ r) (length a) 0 < 128 = omega (arith, at_seam a r) in
    subst IsUtf8 (drop_seam a r) (IsUtf8-drop (a ++ 36 ∷ r) (length a + 1) u (IsCharBoundary-after_ascii (a ++ 36 ∷ r) (length a) u within ascii))

-- ---- the inside of a dollar quote

-- the text stands in the other one
record StandsIn (z whole : List ℕ) : Type 0 where
  pub before : List ℕ
  pub behind : List ℕ
  pub is : whole ≡ before ++ (z ++ behind)

quote_stands : {at : ℕ} {z : List ℕ} {ts : List Lexeme} {bad : Option ℕ} → Lexes at z ts bad → (q : Lexeme) → first_dollar ts ≡ Some q → StandsIn q.text z
quote_stands ends q h = absurd (cc)
quote_stands (skips {piece = p} {rest = r} e s more) q h =
    let i = quote_stands more q h in
    record { before = p ++ i.before; behind = i.behind; is = e ∙ ap (λ y. p ++ y) i.is ∙ sym (append_assoc p i.before (q.text ++ i.behind)) }
quote_stands (token {at = at} {z = z} {piece = p} {rest = r} {kind = k} e s more) q h = elim (cases_Bool (is_dollar k)) [
  | inl y ↦ (let is : record { kind = k; text = p; start = at } ≡ q = (let f = rw y at h in cc) in
      subst (λ q. StandsIn q.text z) is (record { before = []; behind = r; is = e }))
  | inr n ↦ (let i = quote_stands more q (rw n at h) in
      record { before = p ++ i.before; behind = i.behind; is = e ∙ ap (λ y. p ++ y) i.is ∙ sym (append_assoc p i.before (q.text ++ i.behind)) })
]
quote_stands (stops lt h) q e = absurd (cc)

inside_at : (z tag inside mark behind : List ℕ) → z ≡ mark ++ (inside ++ mark) → mark ≡ 36 ∷ (tag ++ 36 ∷ [])
    → z ++ behind ≡ 36 ∷ (tag ++ 36 ∷ (inside ++ (mark ++ behind)))
inside_at z tag inside mark behind e m =
    ap (λ y. y ++ behind) e ∙ append_assoc mark (inside ++ mark) behind ∙ ap (λ y. mark ++ y) (append_assoc inside mark behind)
    ∙ ap (λ k. k ++ (inside ++ (mark ++ behind))) m ∙ ap (λ y. 36 ∷ y) (append_assoc tag (36 ∷ []) (inside ++ (mark ++ behind)))

inside_utf8 : (whole z inside mark : List ℕ) → IsUtf8 whole → StandsIn z whole → IsInside z inside mark → IsUtf8 inside
inside_utf8 whole z inside mark u i q =
    let left = inside ++ (mark ++ i.behind) in
    let split : IsUtf8 (i.before ++ 36 ∷ (q.tag ++ 36 ∷ left)) =
    subst IsUtf8 (i.is ∙ ap (λ y. i.before ++ y) (inside_at z q.tag inside mark i.behind q.spelled q.is_mark)) u in
    let inner : IsUtf8 left = behind_dollar q.tag left (behind_dollar i.before (q.tag ++ 36 ∷ left) split) in
    let marked : mark ++ i.behind ≡ 36 ∷ ((q.tag ++ 36 ∷ []) ++ i.behind) = ap (λ m. m ++ i.behind) q.is_mark in
    before_dollar inside ((q.tag ++ 36 ∷ []) ++ i.behind) (subst (λ y. IsUtf8 (inside ++ y)) marked inner)

-- ---- the body's tokens

front_writable : (ts : List Lexeme) → AllWritable (token_terminals ts) → AllWritable (token_terminals (up_to_dollar ts))
front_writable [] h = h
front_writable (t ∷ ts) h = elim (cases_Bool (is_dollar t.kind)) [
  | inl y ↦ (rw y tt)
  | inr n ↦ (rw n (h.0, front_writable ts h.1))
]

quote_writable : (z : List ℕ) (quote : Lexeme) (ts : List Lexeme) (bad : Option ℕ) → IsUtf8 z → StandsIn quote.text z → LexesInside quote ts bad
    → AllWritable (token_terminals ts)
quote_writable z quote ts bad u i l =
    let inner : IsUtf8 l.inside = inside_utf8 z quote.text l.inside l.mark u i l.is_inside in
    subst (λ ts. AllWritable (token_terminals ts)) (sym l.part.tokens) (front_writable l.part.all (text_writable inner l.part.lexes))

body_writable : (z : List ℕ) (o : Option Lexeme) (ts : List Lexeme) (bad : Option ℕ) → IsUtf8 z → ((q : Lexeme) → o ≡ Some q → StandsIn q.text z)
    → LexesBody o ts bad → AllWritable (token_terminals ts)
body_writable z None ts bad u i l = subst (λ ts. AllWritable (token_terminals ts)) (sym l.0) tt
body_writable z (Some q) ts bad u i l = quote_writable z q ts bad u (i q refl) l

pub inner_writable : (z : List ℕ) (outer inner : List Lexeme) → IsUtf8 z → LexesFile z outer inner None → AllWritable (token_terminals inner)
inner_writable z outer inner u l = body_writable z (first_dollar outer) inner l.body_bad u (quote_stands l.outer_list) l.body_list
