-- A culprit among the tokens of a function's file.
use Rattle.std.proofs.Common.{◌≡◌, ◌≤◌, ◌<◌, ℕ, suc, Bool, true, List, [], ◌∷◌, ◌++◌, length, map, take, drop, get_or, Result, Ok, Err, refl, sym, ap, ◌∙◌, subst, arith}
use Rattle.std.specs.Prelude.{is_ok}
use Rattle.std.specs.Bool.{OnTrue}
use Rattle.std.specs.Char.{to_ascii_lowercase}
use Rattle.std.specs.List.{list_all}
use Rattle.std.proofs.lemmas.Bool.{and_parts}
use Rattle.std.proofs.lemmas.Bool.Decides.{nat_tests}
use Rattle.std.proofs.lemmas.List.{drop-map, take-append-drop}
use Rattle.std.proofs.lemmas.Slice.Eq.{bytes_eq-Decides}
use Rattle.std.proofs.Math.Seq.{drop-cons}
use Rattle.away_values.specs.Words.{IsName, is_name_byte}
use Rattle.away_grammar.specs.Reserved.{folded}
use Rattle.away_grammar.specs.Terminals.{Terminal, mark, name, integer, string, parameter, quote, token_terminal, token_terminals}
use Rattle.away_lex.specs.Lexed.{seen}
use Rattle.away_lex.specs.declared.slices.Token.{Token}
use Rattle.sql_text.specs.CodeTerminals.{meaning_of}
use Rattle.sql_text.specs.Plans.{tail}
use Rattle.sql_text.specs.declared.refusal.Refusal.{Refusal}
use Rattle.sql_text.specs.declared.terminals.Terminal as code
use Rattle.plsql_parse.specs.HeaderRead.{WordExpected}
use Rattle.plsql_parse.specs.Sorts.{begins_word}
use Rattle.broken_names.specs.declared.culprit.Culprit.{Culprit}
use Rattle.broken_names.specs.NameTokens.{BeginsWith, StartsCulprit}

-- ---- names stand in lower case

lower_byte : (b : ℕ) → is_name_byte b ≡ true → to_ascii_lowercase b ≡ b
lower_byte b h = grind (arith, nat_tests, h)

lower : (z : List ℕ) → list_all is_name_byte z ≡ true → folded z ≡ z
lower [] h = refl
lower (b ∷ z) h =
    let p = and_parts (is_name_byte b) (list_all is_name_byte z) h in λ i. lower_byte b p.0 i ∷ lower z p.1 i

-- ---- a name that was taken

name_first : (w : List ℕ) (ts new : List Terminal) → begins_word w ts ≡ true → new ≡ tail ts → ts ≡ name w ∷ new
name_first w [] new h e = absurd (cc h)
name_first w (mark x ∷ ts) new h e = absurd (cc h)
name_first w (name n ∷ ts) new h e = let same : n ≡ w = (bytes_eq-Decides n w).0 h in λ i. name (same i) ∷ sym e i
name_first w (integer n ∷ ts) new h e = absurd (cc h)
name_first w (string z ∷ ts) new h e = absurd (cc h)
name_first w (parameter n ∷ ts) new h e = absurd (cc h)
name_first w (quote z ∷ ts) new h e = absurd (cc h)

pub name_taken : (n text : List ℕ) (old new : List Terminal) (r : Result (Unit {0}) Refusal) (b : Bool) → b ≡ is_ok r → WordExpected (folded text) old r new → IsName text → text ≡ n → OnTrue b (old ≡ name n ∷ new)
name_taken n text old new (Ok x) b e h is same =
    let spelled : folded text ≡ n = lower text is.plain ∙ same in
    subst (λ b. OnTrue b (old ≡ name n ∷ new)) (sym e) (name_first (folded text) old new h.0 h.1 ∙ ap (λ w. name w ∷ new) spelled)
name_taken n text old new (Err x) b e h is same = subst (λ b. OnTrue b (old ≡ name n ∷ new)) (sym e) tt

-- ---- where it stands

map_append : {A B : Type 0} (f : A → B) (xs ys : List A) → map f (xs ++ ys) ≡ map f xs ++ map f ys
map_append f [] ys = refl
map_append f (x ∷ xs) ys = ap (λ l. f x ∷ l) (map_append f xs ys)

-- the token of the number begins where the terminals from that number on do
pub starts : (tokens : List Token) (terminals : List code.Terminal) (from i : ℕ) (it : Culprit) (d : Token) → i < length tokens
    → map meaning_of terminals ≡ token_terminals (map seen tokens) → BeginsWith it (map meaning_of (drop i terminals))
    → from ≤ (get_or tokens i d).start → StartsCulprit (map seen tokens) from it (get_or tokens i d).start
starts tokens terminals from i it d small e stands late =
    let here : drop i tokens ≡ get_or tokens i d ∷ drop (suc i) tokens = drop-cons tokens i d small in
    let parts : take i tokens ++ (get_or tokens i d ∷ drop (suc i) tokens) ≡ tokens =
    ap (λ l. take i tokens ++ l) (sym here) ∙ take-append-drop i tokens in
    let same : map meaning_of (drop i terminals) ≡ token_terminals (map seen (get_or tokens i d ∷ drop (suc i) tokens)) =
    sym (drop-map meaning_of i terminals) ∙ ap (drop i) e ∙ drop-map token_terminal i (map seen tokens) ∙ ap (map token_terminal) (drop-map seen i tokens)
    ∙ ap (λ l. token_terminals (map seen l)) here in
    record {
      before = map seen (take i tokens);
      here = seen (get_or tokens i d);
      after = map seen (drop (suc i) tokens);
      whole = ap (map seen) (sym parts) ∙ map_append seen (take i tokens) (get_or tokens i d ∷ drop (suc i) tokens);
      stands = subst (BeginsWith it) same stands;
      offset_is = refl;
      behind = late;
    }
