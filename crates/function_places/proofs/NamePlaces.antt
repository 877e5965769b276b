-- The name of the function among the tokens of its file, and the first word outside the language.
use Rattle.std.proofs.Common.{◌≡◌, ℕ, ◌-◌, Bool, true, false, List, [], ◌∷◌, ◌++◌, length, map, take, drop, Option, Some, None, IfSome, Result, Ok, Err, refl, sym, ap, ◌∙◌, subst, arith, length-append, length-drop}
use Rattle.std.specs.Prelude.{codes, is_ok}
use Rattle.std.specs.Bool.{OnTrue}
use Rattle.std.proofs.lemmas.List.{drop-map, take-append-drop}
use Rattle.std.proofs.lemmas.Slice.Eq.{bytes_eq-Decides}
use Rattle.away_grammar.specs.declared.grammar.Mark.TheVariants as m
use Rattle.away_grammar.specs.FunctionGrammar.{or_replace}
use Rattle.away_grammar.specs.Grammar.{schema_qualified}
use Rattle.away_grammar.specs.OutsideWords.{outside_word}
use Rattle.away_grammar.specs.Terminals.{Terminal, mark, name, integer, string, parameter, quote, token_terminal, token_terminals}
use Rattle.away_grammar.specs.Tokens.{Lexeme}
use Rattle.away_lex.specs.Lexed.{seen}
use Rattle.away_lex.specs.declared.slices.Token.{Token}
use Rattle.sql_text.specs.CodeTerminals.{meaning_of}
use Rattle.sql_text.specs.Plans.{Begins, first, tail}
use Rattle.sql_text.specs.declared.refusal.Refusal.{Refusal}
use Rattle.sql_text.specs.declared.terminals.Terminal as code
use Rattle.plsql_parse.specs.HeaderRead.{WordExpected}
use Rattle.plsql_parse.specs.Sorts.{begins_word}
use Rattle.function_places.specs.NodePlaces.{IsStart}
use Rattle.function_places.specs.TokenPlaces.{BeginsWithName, HeadStands, NameStands, NameStandsAt, SchemaStands, StartsName, StartsWord}
use Rattle.function_places.proofs.Starts.{map_append, map_length, same_end}

-- ---- words

name_first : (w : List ℕ) (ts new : List Terminal) → begins_word w ts ≡ true → new ≡ tail ts → ts ≡ name w ∷ new
name_first w [] new h e = absurd (cc h)
name_first w (mark x ∷ ts) new h e = absurd (cc h)
name_first w (name n ∷ ts) new h e = let same : n ≡ w = (bytes_eq-Decides n w).0 h in λ i. name (same i) ∷ sym e i
name_first w (integer n ∷ ts) new h e = absurd (cc h)
name_first w (string z ∷ ts) new h e = absurd (cc h)
name_first w (parameter n ∷ ts) new h e = absurd (cc h)
name_first w (quote z ∷ ts) new h e = absurd (cc h)

pub word_taken : (w : List ℕ) (old new : List Terminal) (r : Result (Unit {0}) Refusal) (b : Bool) → b ≡ is_ok r → WordExpected w old r new → OnTrue b (old ≡ name w ∷ new)
word_taken w old new (Ok x) b e h = subst (λ b. OnTrue b (old ≡ name w ∷ new)) (sym e) (name_first w old new h.0 h.1)
word_taken w old new (Err x) b e h = subst (λ b. OnTrue b (old ≡ name w ∷ new)) (sym e) tt

-- ---- what stands before the name

pub plain_head : {ts a same : List Terminal} (b : Bool) (new : List Terminal) → ts ≡ mark m.Create ∷ a → same ≡ a → OnTrue b (same ≡ name (codes "function") ∷ new) → OnTrue b (HeadStands ts new)
plain_head true new e s h = record { replaces = false; head = e ∙ ap (λ l. mark m.Create ∷ l) (sym s ∙ h) }
plain_head false new e s h = tt

pub replaced_head : {ts a b c : List Terminal} (r : Bool) (new : List Terminal) → ts ≡ mark m.Create ∷ a → a ≡ mark m.Or ∷ b → b ≡ name (codes "replace") ∷ c → OnTrue r (c ≡ name (codes "function") ∷ new) → OnTrue r (HeadStands ts new)
replaced_head true new e f g h =
    record { replaces = true; head = e ∙ ap (λ l. mark m.Create ∷ l) (f ∙ ap (λ l. mark m.Or ∷ l) (g ∙ ap (λ l. name (codes "replace") ∷ l) h)) }
replaced_head false new e f g h = tt

pub no_schema : (ts : List Terminal) (n : ℕ) → n ≡ length ts → SchemaStands ts n
no_schema ts n e = record { qualifies = false; behind = ts; head = refl; left_is = e }

pub with_schema : {ts a b : List Terminal} (n : ℕ) → ts ≡ name (codes "public") ∷ a → a ≡ mark m.Dot ∷ b → n ≡ length b → SchemaStands ts n
with_schema {b = b} n e f h = record { qualifies = true; behind = b; head = e ∙ ap (λ l. name (codes "public") ∷ l) f; left_is = h }

pub called : (ts rest : List Terminal) (w : List ℕ) (b : Bool) → Some (name w) ≡ first ts → rest ≡ tail ts → OnTrue b (Begins rest m.Open) → OnTrue b (BeginsWithName ts)
called ts rest w false e f h = tt
called [] rest w true e f h = absurd (cc e)
called (s ∷ ts) rest w true e f h = let is : name w ≡ s = cc e in record { spelled = w; rest = h.0; begins = λ i. sym is i ∷ (sym f ∙ h.1) i }

-- ---- where it stands

abbrev front : Bool → Bool → List Terminal
front r q = mark m.Create ∷ or_replace r (name (codes "function") ∷ schema_qualified q [])

fronted : (r q : Bool) (behind : List Terminal) → mark m.Create ∷ or_replace r (name (codes "function") ∷ schema_qualified q behind) ≡ front r q ++ behind
fronted true true behind = refl
fronted true false behind = refl
fronted false true behind = refl
fronted false false behind = refl

-- the end of a list, by how long it is
end_is : (ts before behind : List Terminal) (k : ℕ) → ts ≡ before ++ behind → k ≡ length ts - length behind → drop k ts ≡ behind
end_is ts before behind k e h =
    let size : length ts ≡ length (before ++ behind) = ap length e in
    same_end (take k ts) before (drop k ts) behind (take-append-drop k ts ∙ e) (omega (arith, h, length-drop k ts, size, length-append before behind))

pub named_at : (terminals : List code.Terminal) (a : List Terminal) (left k : ℕ) → HeadStands (map meaning_of terminals) a → SchemaStands a left → k ≡ length terminals - left
    → BeginsWithName (map meaning_of (drop k terminals)) → NameStandsAt (map meaning_of terminals) left
named_at terminals a left k h s e b =
    let ts : List Terminal = map meaning_of terminals in
    let head : ts ≡ mark m.Create ∷ or_replace h.replaces (name (codes "function") ∷ schema_qualified s.qualifies s.behind) =
    h.head ∙ ap (λ l. mark m.Create ∷ or_replace h.replaces (name (codes "function") ∷ l)) s.head in
    let parts : ts ≡ front h.replaces s.qualifies ++ s.behind = head ∙ fronted h.replaces s.qualifies s.behind in
    let size : length ts ≡ length terminals = map_length meaning_of terminals in
    let number : k ≡ length ts - length s.behind = omega (arith, e, size, s.left_is) in
    let same : map meaning_of (drop k terminals) ≡ s.behind = sym (drop-map meaning_of k terminals) ∙ end_is ts (front h.replaces s.qualifies) s.behind k parts number in
    record {
      behind = s.behind;
      stands = record { replaces = h.replaces; qualifies = s.qualifies; head = head; begins = subst BeginsWithName same b };
      left_is = s.left_is;
    }

-- the token of the name, by how many terminals are left there
name_starts : {left offset : ℕ} (outer : List Lexeme) → NameStandsAt (token_terminals outer) left → IsStart outer left offset → StartsName outer offset
name_starts outer n s =
    let stands = n.stands in
    let parts : token_terminals outer ≡ front stands.replaces stands.qualifies ++ n.behind = stands.head ∙ fronted stands.replaces stands.qualifies n.behind in
    let e : token_terminals s.before ++ token_terminals (s.here ∷ s.after) ≡ front stands.replaces stands.qualifies ++ n.behind =
    sym (map_append token_terminal s.before (s.here ∷ s.after)) ∙ ap token_terminals (sym s.list_is) ∙ parts in
    let mapped : length (token_terminals (s.here ∷ s.after)) ≡ length (s.here ∷ s.after) = map_length token_terminal (s.here ∷ s.after) in
    let size : length (token_terminals (s.here ∷ s.after)) ≡ length n.behind = omega (arith, mapped, s.left_is, n.left_is) in
    let same : token_terminals (s.here ∷ s.after) ≡ n.behind =
    same_end (token_terminals s.before) (front stands.replaces stands.qualifies) (token_terminals (s.here ∷ s.after)) n.behind e size in
    record {
      before = s.before;
      here = s.here;
      after = s.after;
      whole = s.list_is;
      stands = subst (NameStands (token_terminals outer)) (sym same) stands;
      offset_is = s.offset_is;
    }

pub name_starts_by : {left : ℕ} (outer : List Lexeme) (ts : List Terminal) (o : Option ℕ) → ts ≡ token_terminals outer → NameStandsAt ts left → IfSome o (IsStart outer left)
    → IfSome o (StartsName outer)
name_starts_by outer ts None e n h = tt
name_starts_by {left = left} outer ts (Some offset) e n h = name_starts outer (subst (λ ts. NameStandsAt ts left) e n) h

-- ---- words outside the language

pub word_starts : (outer inner : List Lexeme) (word : Token) → Some (seen word) ≡ outside_word outer inner → StartsWord outer inner (Some word.start)
word_starts outer inner word e = (seen word, sym e, refl)
