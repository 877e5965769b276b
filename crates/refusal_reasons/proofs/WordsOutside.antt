-- That each word outside the language has an entry in the table, by computing.
use Rattle.std.proofs.Common.{◌≡◌, ◌&&◌, inl, inr, ℕ, Bool, true, false, List, [], ◌∷◌, Some, None, refl, sym, subst, ◌∙◌, bytes_eq, codes}
use Rattle.std.specs.Prelude.{IsTrue, Option}
use Rattle.std.specs.List.{list_all, list_any}
use Rattle.std.specs.Str.{str_eq_ignore_ascii_case}
use Rattle.std.proofs.lemmas.Bool.{and_parts, or_cases}
use Rattle.std.proofs.lemmas.Slice.Eq.{bytes_eq-Decides}
use Rattle.away_grammar.specs.OutsideWords.{begins_with_word, first_outside, is_outside, or_else, outside_word, outside_words, spells_word, stands_outside}
use Rattle.away_grammar.specs.Reserved.{folded}
use Rattle.away_grammar.specs.Tokens.{Lexeme, is_word_kind}
use Rattle.refusal_reasons.specs.Instead.{has_entry}

-- a word in lower case that has an entry
abbrev is_told : List ℕ → Bool
is_told w = bytes_eq (folded w) w && has_entry w

same_bytes : (xs ys : List ℕ) → bytes_eq xs ys ≡ true → xs ≡ ys
same_bytes xs ys h = (bytes_eq-Decides xs ys).0 h

told : (text w : List ℕ) → is_told w ≡ true → str_eq_ignore_ascii_case text w ≡ true → has_entry (folded text) ≡ true
told text w is same =
    let p = and_parts (bytes_eq (folded w) w) (has_entry w) is in
    let e : folded text ≡ w = same_bytes (folded text) (folded w) same ∙ same_bytes (folded w) w p.0 in
    subst (λ z. has_entry z ≡ true) (sym e) p.1

told_among : (text : List ℕ) (ws : List (List ℕ)) → list_all is_told ws ≡ true → list_any (str_eq_ignore_ascii_case text) ws ≡ true → has_entry (folded text) ≡ true
told_among text [] all some = absurd (let wrong : false ≡ true = some in cc)
told_among text (w ∷ ws) all some =
    let p = and_parts (is_told w) (list_all is_told ws) all in
    elim (or_cases (str_eq_ignore_ascii_case text w) (list_any (str_eq_ignore_ascii_case text) ws) some) [
      | inl here ↦ told text w p.0 here
      | inr later ↦ told_among text ws p.1 later
    ]

told_outside : (text : List ℕ) → is_outside text ≡ true → has_entry (folded text) ≡ true
unfolding is_outside
told_outside text h = told_among text outside_words refl h

told_standing : (t : Lexeme) (ts : List Lexeme) → stands_outside t ts ≡ true → has_entry (folded t.text) ≡ true
told_standing t ts h = elim (or_cases (is_word_kind t.kind && is_outside t.text) (spells_word (codes "exception") t && begins_with_word (codes "when") ts) h) [
  | inl word ↦ told_outside t.text (and_parts (is_word_kind t.kind) (is_outside t.text) word).1
  | inr before ↦
      told t.text (codes "exception") refl
      (and_parts (is_word_kind t.kind) (str_eq_ignore_ascii_case t.text (codes "exception")) (and_parts (spells_word (codes "exception") t) (begins_with_word (codes "when") ts) before).0).1
]

chosen : (x : Lexeme) (ts : List Lexeme) (t : Lexeme) (b : Bool) → stands_outside x ts ≡ b → (first_outside ts ≡ Some t → has_entry (folded t.text) ≡ true) → first_outside (x ∷ ts) ≡ Some t → has_entry (folded t.text) ≡ true
chosen x ts t true is later h =
    let same : Some x ≡ Some t = sym (rw is refl) ∙ h in
    let e : x ≡ t = cc in
    subst (λ (y : Lexeme). has_entry (folded y.text) ≡ true) e (told_standing x ts is)
chosen x ts t false is later h = later (sym (rw is refl) ∙ h)

told_first : (ts : List Lexeme) (t : Lexeme) → first_outside ts ≡ Some t → has_entry (folded t.text) ≡ true
told_first [] t h = absurd (let wrong : None ≡ Some t = h in cc)
told_first (x ∷ ts) t h = chosen x ts t (stands_outside x ts) refl (told_first ts t) h

of_lists : (one other : Option Lexeme) (t : Lexeme) → ((u : Lexeme) → one ≡ Some u → has_entry (folded u.text) ≡ true) → ((u : Lexeme) → other ≡ Some u → has_entry (folded u.text) ≡ true)
    → or_else one other ≡ Some t → has_entry (folded t.text) ≡ true
of_lists None other t first second h = second t h
of_lists (Some u) other t first second h = first t h

pub has_its_entry : (outer inner : List Lexeme) (t : Lexeme) → outside_word outer inner ≡ Some t → IsTrue (has_entry (folded t.text))
has_its_entry outer inner t h = of_lists (first_outside outer) (first_outside inner) t (told_first outer) (told_first inner) h
