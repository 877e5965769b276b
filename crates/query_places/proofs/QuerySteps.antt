-- Tokens of a query's file: from its list to its bytes.
use Rattle.std.proofs.Common.{◌≡◌, ◌<◌, ℕ, zero, suc, ◌+◌, ◌-◌, slice_get, Bool, true, false, inl, inr, List, [], ◌∷◌, ◌++◌, length, map, get_or, option_map, Option, Some, None, Result, Ok, Err, IfOk, IfSome, All, refl, sym, ap, ◌∙◌, subst, arith}
use Rattle.std.proofs.lemmas.List.Elements.{All-append, All-cons, All-nil}
use Rattle.std.proofs.lemmas.Option.{slice_get-map, slice_get-get_or}
use Rattle.away_values.specs.declared.errors.NoMemory.{NoMemory}
use Rattle.away_grammar.specs.Terminals.{token_terminals}
use Rattle.away_grammar.specs.Tokens.{AreSpelled, Lexeme}
use Rattle.away_lex.specs.Lexed.{seen}
use Rattle.away_lex.specs.declared.slices.Token.{Token}
use Rattle.away_lex.proofs.Reading.{are_spelled, one_list}
use Rattle.sql_text.specs.CodeTerminals.{HasSpelling}
use Rattle.sql_text.specs.Refusals.{most_nesting}
use Rattle.sql_text.specs.declared.terminals.Terminal as code
use Rattle.function_places.specs.LimitPlaces.{IsTooDeep}
use Rattle.function_places.specs.TokenPlaces.{BeginsIn}
use Rattle.function_places.proofs.Starts.{starts}
use Rattle.query_places.specs.declared.stops.Stop.{Stop}
use Rattle.query_places.specs.QueryPlaceLaws.{PlacesAreTokens}
use Rattle.query_places.specs.QueryPlaces.{BeginsQuery, HasList, HasNoList, IsFirstToken, IsQueryDeep, IsQueryStop, IsQueryToken, StandsAt, StandsFirst, StartsDeep, Tells, begins}

-- ---- the list

pub spelled_at : {bytes : List ℕ} (list held : List Token) → list ≡ held → HasList bytes (map seen held) → AreSpelled (map seen list)
spelled_at list held e h = subst (λ l. AreSpelled (map seen l)) (sym e) (are_spelled h.lexes)

-- the same list
pub list_at : {bytes : List ℕ} (list held : List Token) → list ≡ held → HasList bytes (map seen held) → HasList bytes (map seen list)
list_at {bytes = bytes} list held e h = subst (λ l. HasList bytes (map seen l)) (sym e) h

-- ---- what begins a query

tells_found : {bytes : List ℕ} (list : List Token) (found : Bool) → HasList bytes (map seen list) → begins (token_terminals (map seen list)) ≡ found → Tells bytes found
tells_found list true h e = record { list = map seen list; has = h; so = e }
tells_found list false h e = λ b.
    let same : b.list ≡ map seen list = (one_list b.has.lexes h.lexes).0 in
    let so : begins (token_terminals (map seen list)) ≡ true = subst (λ l. begins (token_terminals l) ≡ true) same b.so in
    cc

pub tells_so : {bytes : List ℕ} (list : List Token) (r : Result Bool NoMemory) → HasList bytes (map seen list) → IfOk r (λ found. begins (token_terminals (map seen list)) ≡ found) → IfOk r (Tells bytes)
tells_so list (Ok found) h e = tells_found list found h e
tells_so list (Err x) h e = tt

pub tells_none : {bytes : List ℕ} → HasNoList bytes → ¬ (BeginsQuery bytes)
tells_none (inl none) b = none b.has.text
tells_none (inr (offset, (before, lexes))) b = let same : None ≡ Some offset = (one_list b.has.lexes lexes).1 in cc

-- ---- from the list to the bytes

pub first_placed : {bytes : List ℕ} (list : List Token) (o : Option ℕ) → HasList bytes (map seen list) → IfSome o (StandsFirst (map seen list)) → IfSome o (IsFirstToken bytes)
first_placed list (Some offset) h s = record { list = map seen list; has = h; stands = s }
first_placed list None h s = tt

pub deep_placed : {bytes : List ℕ} (list : List Token) (o : Option ℕ) → HasList bytes (map seen list) → IfSome o (StartsDeep (map seen list)) → IfSome o (IsQueryDeep bytes)
deep_placed list (Some offset) h s = record { list = map seen list; has = h; starts = s }
deep_placed list None h s = tt

pub stop_placed : {bytes : List ℕ} (list : List Token) (r : Result (Option Stop) NoMemory) → HasList bytes (map seen list) → IfOk r (λ found. IfSome found (StandsAt (map seen list)))
    → IfOk r (λ found. IfSome found (IsQueryStop bytes))
stop_placed list (Ok (Some stop)) h s = record { list = map seen list; has = h; stands = s }
stop_placed list (Ok None) h s = tt
stop_placed list (Err e) h s = tt

-- ---- tokens of the list

pub stands_first : (tokens : List Token) (d : Token) → 0 < length tokens → StandsFirst (map seen tokens) (get_or tokens 0 d).start
stands_first [] d some = absurd (omega (arith, some))
stands_first (t ∷ ts) d some = record { here = seen t; after = map seen ts; whole = refl; offset_is = refl }

pub starts_deep : (tokens : List Token) (number : ℕ) (d : Token) → number < length tokens → IsTooDeep (map seen tokens) most_nesting number → StartsDeep (map seen tokens) (get_or tokens number d).start
starts_deep tokens number d lt deep = record {
  number = number;
  here = seen (get_or tokens number d);
  stands = slice_get-map seen tokens number ∙ ap (option_map seen) (slice_get-get_or tokens number d lt);
  too_deep = deep;
  offset_is = refl;
}

-- the token of the number
pub stands : (tokens : List Token) (i : ℕ) (d : Token) → i < length tokens → StandsAt (map seen tokens) (record { offset = (get_or tokens i d).start; ended = false })
stands tokens i d lt =
    let s = starts tokens (length tokens - i) i d (λ e. absurd (omega (arith, lt, e))) (omega arith) (omega (arith, lt)) in
    record { before = s.before; here = s.here; after = s.after; whole = s.list_is; offset_is = s.offset_is; last = tt }

no_more : (l : List Lexeme) → 1 ≡ 1 + length l → l ≡ []
no_more [] e = refl
no_more (t ∷ ts) e = absurd (omega (arith, e))

-- the last token
pub stands_last : (tokens : List Token) (i : ℕ) (d : Token) → 0 < length tokens → i ≡ length tokens - 1 → StandsAt (map seen tokens) (record { offset = (get_or tokens i d).start; ended = true })
stands_last tokens i d some is =
    let s = starts tokens 1 i d (λ e. absurd (omega (arith, e))) (omega (arith, some)) is in
    record { before = s.before; here = s.here; after = s.after; whole = s.list_is; offset_is = s.offset_is; last = no_more s.after s.left_is }

-- one more terminal
pub spelled_on : (before : List code.Terminal) (next : code.Terminal) → All HasSpelling before → HasSpelling next → All HasSpelling (before ++ next ∷ [])
spelled_on before next h k = All-append HasSpelling before (next ∷ []) h (All-cons HasSpelling next [] k (All-nil HasSpelling))

-- ---- each place is that of a token

first_is_token : (bytes : List ℕ) (offset : ℕ) → IsFirstToken bytes offset → IsQueryToken bytes offset
first_is_token bytes offset f =
    record { list = f.list; has = f.has; stands = record { before = []; here = f.stands.here; after = f.stands.after; whole = f.stands.whole; offset_is = f.stands.offset_is } }

number_begins : (list : List Lexeme) (number : ℕ) (here : Lexeme) → slice_get list number ≡ Some here → BeginsIn list here.start
number_begins [] number here e = absurd (cc e)
number_begins (t ∷ ts) zero here e = let same : t ≡ here = cc in record { before = []; here = t; after = ts; whole = refl; offset_is = ap (λ (x : Lexeme). x.start) (sym same) }
number_begins (t ∷ ts) (suc number) here e =
    let b = number_begins ts number here e in
    record { before = t ∷ b.before; here = b.here; after = b.after; whole = ap (λ l. t ∷ l) b.whole; offset_is = b.offset_is }

deep_is_token : (bytes : List ℕ) (offset : ℕ) → IsQueryDeep bytes offset → IsQueryToken bytes offset
deep_is_token bytes offset d =
    record { list = d.list; has = d.has; stands = subst (BeginsIn d.list) (sym d.starts.offset_is) (number_begins d.list d.starts.number d.starts.here d.starts.stands) }

stop_is_token : (bytes : List ℕ) (stop : Stop) → IsQueryStop bytes stop → IsQueryToken bytes stop.offset
stop_is_token bytes stop s =
    record { list = s.list; has = s.has; stands = record { before = s.stands.before; here = s.stands.here; after = s.stands.after; whole = s.stands.whole; offset_is = s.stands.offset_is } }

pub places_are_tokens : PlacesAreTokens
places_are_tokens = record { first = first_is_token; deep = deep_is_token; stopped = stop_is_token }
