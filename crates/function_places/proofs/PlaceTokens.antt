-- Each place is that of a token of the file.
use Rattle.std.proofs.Common.{◌≡◌, ℕ, zero, suc, ◌⊎◌, inl, inr, List, [], ◌∷◌, length, Option, Some, None, refl, sym, ap, ◌∙◌, subst}
use Rattle.std.specs.Prelude.{if◌then◌else◌, slice_get}
use Rattle.std.proofs.lemmas.Bool.{cases_Bool}
use Rattle.std.proofs.lemmas.Option.{same_Some}
use Rattle.away_grammar.specs.OutsideWords.{first_outside, or_else, stands_outside}
use Rattle.away_grammar.specs.Tokens.{Lexeme}
use Rattle.away_lex.specs.declared.refusals.LimitKind.{LimitKind}
use Rattle.away_lex.specs.declared.refusals.LimitKind.TheVariants as limit
use Rattle.function_places.specs.declared.stuck_places.Stuck.{Stuck}
use Rattle.function_places.specs.LimitPlaces.{IsElementPlace, IsLimitPlace, IsCountPlace, IsNestingPlace}
use Rattle.function_places.specs.NodePlaces.{IsNodePlace}
use Rattle.function_places.specs.PlaceLaws.{PlacesAreTokens}
use Rattle.function_places.specs.StuckPlaces.{IsStuckPlace, StandsAt}
use Rattle.function_places.specs.TokenPlaces.{BeginsIn, IsNamePlace, IsToken, IsWordPlace}

-- ---- words

-- one more token before them
later : (t : Lexeme) {list : List Lexeme} {offset : ℕ} → BeginsIn list offset → BeginsIn (t ∷ list) offset
later t b = record { before = t ∷ b.before; here = b.here; after = b.after; whole = ap (λ l. t ∷ l) b.whole; offset_is = b.offset_is }

first_begins : (list : List Lexeme) (t : Lexeme) → first_outside list ≡ Some t → BeginsIn list t.start
first_begins [] t e = absurd (cc e)
first_begins (u ∷ us) t e = elim (cases_Bool (stands_outside u us)) [
  | inl y ↦ (let same : u ≡ t = same_Some _ _ (sym (ap (λ b. if b then Some u else first_outside us) y) ∙ e) in
      record { before = []; here = u; after = us; whole = refl; offset_is = ap (λ t. t.start) (sym same) })
  | inr n ↦ later u (first_begins us t (sym (ap (λ b. if b then Some u else first_outside us) n) ∙ e))
]

word_begins : (outer inner : List Lexeme) (o : Option Lexeme) (t : Lexeme) → first_outside outer ≡ o → or_else o (first_outside inner) ≡ Some t
    → BeginsIn outer t.start ⊎ BeginsIn inner t.start
word_begins outer inner (Some u) t h e = inl (first_begins outer t (h ∙ e))
word_begins outer inner None t h e = inr (first_begins inner t e)

word_is_token : (bytes : List ℕ) (offset : ℕ) → IsWordPlace bytes offset → IsToken bytes offset
word_is_token bytes offset w =
    let t : Lexeme = w.starts.0 in
    let begins = word_begins w.outer w.inner (first_outside w.outer) t refl w.starts.1 in record {
      outer = w.outer;
      inner = w.inner;
      lexes = w.lexes;
      begins = subst (λ n. BeginsIn w.outer n ⊎ BeginsIn w.inner n) (sym w.starts.2) begins;
    }

-- ---- the name, and nodes

name_is_token : (bytes : List ℕ) (offset : ℕ) → IsNamePlace bytes offset → IsToken bytes offset
name_is_token bytes offset n =
    let s = n.starts in
    record { outer = n.outer; inner = n.inner; lexes = n.lexes; begins = inl (record { before = s.before; here = s.here; after = s.after; whole = s.whole; offset_is = s.offset_is }) }

node_is_token : (bytes : List ℕ) (node offset : ℕ) → IsNodePlace bytes node offset → IsToken bytes offset
node_is_token bytes node offset n =
    let s = n.place in
    record { outer = n.outer; inner = n.inner; lexes = n.lexes; begins = inr (record { before = s.before; here = s.here; after = s.after; whole = s.list_is; offset_is = s.offset_is }) }

-- ---- limits

number_begins : (list : List Lexeme) (number : ℕ) (here : Lexeme) → slice_get list number ≡ Some here → BeginsIn list here.start
number_begins [] number here e = absurd (cc e)
number_begins (t ∷ ts) zero here e = record { before = []; here = t; after = ts; whole = refl; offset_is = ap (λ t. t.start) (sym (same_Some _ _ e)) }
number_begins (t ∷ ts) (suc number) here e = later t (number_begins ts number here e)

element_is_token : (bytes : List ℕ) (params number offset : ℕ) → IsElementPlace bytes params number offset → IsToken bytes offset
element_is_token bytes params number offset (inl h) = name_is_token bytes offset h.1
element_is_token bytes params number offset (inr h) = node_is_token bytes h.0 offset h.2

count_is_token : (bytes : List ℕ) (which : LimitKind) (offset : ℕ) → IsCountPlace bytes which offset → IsToken bytes offset
count_is_token bytes which offset c = element_is_token bytes (length c.f.params) c.number offset c.place

nesting_is_token : (bytes : List ℕ) (offset : ℕ) → IsNestingPlace bytes offset → IsToken bytes offset
nesting_is_token bytes offset n =
    let s = n.starts in
    record { outer = n.outer; inner = n.inner; lexes = n.lexes; begins = inr (subst (BeginsIn n.inner) (sym s.offset_is) (number_begins n.inner s.number s.here s.stands)) }

limit_is_token : (bytes : List ℕ) (which : LimitKind) (offset : ℕ) → IsLimitPlace bytes which offset → IsToken bytes offset
limit_is_token bytes limit.Nesting offset h = nesting_is_token bytes offset h
limit_is_token bytes limit.Nodes offset h = count_is_token bytes limit.Nodes offset h
limit_is_token bytes limit.Variables offset h = count_is_token bytes limit.Variables offset h
limit_is_token bytes limit.Loops offset h = count_is_token bytes limit.Loops offset h

-- ---- where the reader stopped

stands_begins : {list : List Lexeme} {stuck : Stuck} → StandsAt list stuck → BeginsIn list stuck.offset
stands_begins s = record { before = s.before; here = s.here; after = s.after; whole = s.whole; offset_is = s.offset_is }

either_begins : {outer inner : List Lexeme} {stuck : Stuck} → StandsAt outer stuck ⊎ StandsAt inner stuck → BeginsIn outer stuck.offset ⊎ BeginsIn inner stuck.offset
either_begins (inl s) = inl (stands_begins s)
either_begins (inr s) = inr (stands_begins s)

stuck_is_token : (bytes : List ℕ) (stuck : Stuck) → IsStuckPlace bytes stuck → IsToken bytes stuck.offset
stuck_is_token bytes stuck s = record { outer = s.outer; inner = s.inner; lexes = s.lexes; begins = either_begins s.stands }

pub places_are_tokens : PlacesAreTokens
places_are_tokens = record { word = word_is_token; name = name_is_token; node = node_is_token; limit = limit_is_token; stuck = stuck_is_token }
