-- A list of tokens nests in one way, and a function's file has one pair of lists.
use Rattle.std.proofs.Common.{◌≡◌, ◌∙◌, ℕ, ◌+◌, List, [], ◌∷◌, ◌++◌, length, take, drop, Option, Some, None, refl, sym, ap, subst, arith, append_assoc, length-append}
use Rattle.std.specs.List.{prefix_len}
use Rattle.std.proofs.lemmas.List.{append_cancel_left, append_cancel_right, take_at}
use Rattle.away_grammar.specs.FunctionFile.{IsInside, LexesBody, LexesFile, LexesInside, LexesPart, bad_with_dollar, first_bad, first_dollar, up_to_dollar}
use Rattle.away_grammar.specs.Nesting.{Change, IsGreatest}
use Rattle.away_grammar.specs.Spellings.{goes_on, mark_of}
use Rattle.away_grammar.specs.Tokens.{Lexeme}
use Rattle.away_lex.proofs.Alone.{tag_names}
use Rattle.away_lex.proofs.Apart.{run_append}
use Rattle.away_lex.proofs.Reading.{one_list}

pub one_nesting : {cs : List Change} {m n : ℕ} → IsGreatest cs m → IsGreatest cs n → m ≡ n
one_nesting g h = omega (arith, g.reached.1, h.most g.reached.0, h.reached.1, g.most h.reached.0)

-- ---- the inside of a dollar quote

mark_then : {z inside mark : List ℕ} (q : IsInside z inside mark) → z ≡ mark_of q.tag ++ (inside ++ mark)
mark_then {inside = inside} {mark = mark} q = q.spelled ∙ ap (λ m. m ++ (inside ++ mark)) q.is_mark

-- the tag is what goes on behind the first byte of the quote
tag_size : {z inside mark : List ℕ} (q : IsInside z inside mark) → prefix_len goes_on (drop 1 z) ≡ length q.tag
tag_size {inside = inside} {mark = mark} q =
    let rest : List ℕ = inside ++ mark in
    ap (λ z. prefix_len goes_on (drop 1 z)) (mark_then q) ∙ ap (prefix_len goes_on) (append_assoc q.tag (36 ∷ []) rest)
    ∙ run_append goes_on q.tag (36 ∷ rest) (tag_names q.tag q.is_tag) refl refl

mark_size : {z inside mark : List ℕ} (q : IsInside z inside mark) → length mark ≡ 2 + prefix_len goes_on (drop 1 z)
mark_size q = omega (arith, ap length q.is_mark, length-append q.tag (36 ∷ []), tag_size q)

mark_is : {z inside mark : List ℕ} (q : IsInside z inside mark) → take (2 + prefix_len goes_on (drop 1 z)) z ≡ mark
mark_is {z = z} {inside = inside} {mark = mark} q =
    ap (take (2 + prefix_len goes_on (drop 1 z))) q.spelled ∙ take_at mark (inside ++ mark) (2 + prefix_len goes_on (drop 1 z)) (mark_size q)

same_mark : {z a b m n : List ℕ} → IsInside z a m → IsInside z b n → m ≡ n
same_mark q r = sym (mark_is q) ∙ mark_is r

same_inside : {z a b m : List ℕ} → IsInside z a m → IsInside z b m → a ≡ b
same_inside {a = a} {b = b} {m = m} q r = append_cancel_right a b m (append_cancel_left m (a ++ m) (b ++ m) (sym q.spelled ∙ r.spelled))

-- ---- the tokens of a file

abbrev Same : List Lexeme → List Lexeme → Option ℕ → Option ℕ → Type 0
Same ts us bad other = (ts ≡ us) × (bad ≡ other)

same_part : {at : ℕ} {z : List ℕ} {ts us : List Lexeme} {bad other : Option ℕ} → LexesPart at z ts bad → LexesPart at z us other → Same ts us bad other
same_part p q =
    let same = one_list p.lexes q.lexes in (
      p.tokens ∙ ap up_to_dollar same.0 ∙ sym q.tokens,
      p.first ∙ ap (λ ts. bad_with_dollar ts p.all_bad) same.0 ∙ ap (bad_with_dollar q.all) same.1 ∙ sym q.first,
    )

same_quote : {quote : Lexeme} {ts us : List Lexeme} {bad other : Option ℕ} → LexesInside quote ts bad → LexesInside quote us other → Same ts us bad other
same_quote {quote = quote} {us = us} {other = other} p q =
    let marks : q.mark ≡ p.mark = same_mark q.is_inside p.is_inside in
    let insides : q.inside ≡ p.inside = same_inside (subst (IsInside quote.text q.inside) marks q.is_inside) p.is_inside in
    let marked : LexesPart (quote.start + length p.mark) q.inside us other = subst (λ m. LexesPart (quote.start + length m) q.inside us other) marks q.part in
    same_part p.part (subst (λ z. LexesPart (quote.start + length p.mark) z us other) insides marked)

same_body : {ts us : List Lexeme} {bad other : Option ℕ} (quote : Option Lexeme) → LexesBody quote ts bad → LexesBody quote us other → Same ts us bad other
same_body None p q = (p.0 ∙ sym q.0, p.1 ∙ sym q.1)
same_body (Some quote) p q = same_quote p q

pub one_file : {z : List ℕ} {outer outer' inner inner' : List Lexeme} {bad bad' : Option ℕ} → LexesFile z outer inner bad → LexesFile z outer' inner' bad'
    → (outer ≡ outer') × (inner ≡ inner') × (bad ≡ bad')
one_file {outer = outer} {inner' = inner'} f g =
    let outers = one_list g.outer_list f.outer_list in
    let placed : LexesBody (first_dollar outer) inner' g.body_bad = subst (λ ts. LexesBody (first_dollar ts) inner' g.body_bad) outers.0 g.body_list in
    let bodies = same_body (first_dollar outer) f.body_list placed in (
      sym outers.0,
      bodies.0,
      f.first ∙ ap (first_bad f.outer_bad) bodies.1 ∙ ap (λ bad. first_bad bad g.body_bad) (sym outers.1) ∙ sym g.first,
    )
