-- The tokens that terminals are written as nest as deep as the terminals.
use Rattle.std.proofs.Common.{◌≡◌, refl, sym, ◌∙◌, subst, ℕ, zero, suc, ◌+◌, ◌-◌, ◌≤◌, Bool, true, false, not, ◌&&◌, ◌||◌, if◌then◌else◌, List, [], ◌∷◌, length, map, take, codes, arith}
use Rattle.std.specs.Str.{str_eq_ignore_ascii_case}
use Rattle.away_grammar.specs.declared.grammar.Mark.{Mark}
use Rattle.away_grammar.specs.declared.grammar.Mark.TheVariants as m
use Rattle.away_grammar.specs.Nesting.{Change, opens, closes, stays, IsGreatest, IsNesting, change, changes, closed, is_closed, is_closing, is_end, is_opening, opened}
use Rattle.away_grammar.specs.Printing.{mark_spelled, spelled}
use Rattle.away_grammar.specs.Reserved.{calls}
use Rattle.away_grammar.specs.Spacing.{Spelled, is_glued, laid_behind, lexemes_from}
use Rattle.away_grammar.specs.Terminals.{Terminal, mark, name, integer, string, parameter, quote}
use Rattle.away_grammar.specs.Tokens.{Lexeme}
use Rattle.expanded_sizes.specs.Depths as d
use Rattle.expanded_sizes.specs.Depths.{begins, counted, depth, is_begin, role}
use Rattle.expanded_sizes.specs.PrintedTokens.{ArePlain, is_plain, nests, tokens_from}
use Rattle.expanded_sizes.specs.declared.depths.Role.{Role}
use Rattle.expanded_sizes.specs.declared.depths.Role.TheVariants.{Opens, Begins, Ends, Closes, Stays}

-- ---- one token

abbrev opening_of : Role → Bool
opening_of Opens = true
opening_of Begins = true
opening_of _ = false

abbrev closing_of : Role → Bool
closing_of Ends = true
closing_of Closes = true
closing_of _ = false

abbrev at : ℕ → Spelled → Lexeme
at start s = record { kind = s.kind; text = s.text; start = start }

record Fits (u : Lexeme) (r : Role) : Type 0 where
  pub opening : is_opening u ≡ opening_of r
  pub begin : is_closed u ≡ is_begin r
  pub end : is_end u ≡ d.is_end r
  pub closing : is_closing u ≡ closing_of r

mark_opening : (x : Mark) (start : ℕ) → is_opening (at start (mark_spelled x)) ≡ opening_of (role (mark x))
mark_opening m.Assign start = refl
mark_opening _ start = refl

mark_begin : (x : Mark) (start : ℕ) → is_closed (at start (mark_spelled x)) ≡ is_begin (role (mark x))
mark_begin m.Assign start = refl
mark_begin _ start = refl

mark_end : (x : Mark) (start : ℕ) → is_end (at start (mark_spelled x)) ≡ d.is_end (role (mark x))
mark_end m.Assign start = refl
mark_end _ start = refl

mark_closing : (x : Mark) (start : ℕ) → is_closing (at start (mark_spelled x)) ≡ closing_of (role (mark x))
mark_closing m.Assign start = refl
mark_closing _ start = refl

-- a name that is none of five words
by_words : (b i l c e : Bool) → not (b || (i || (l || (c || e)))) ≡ true → ((b || (i || l || c)) ≡ false) × ((i || l || c) ≡ false) × (e ≡ false)
by_words false false false false false h = (refl, refl, refl)
by_words true i l c e h = absurd (cc h)
by_words false true l c e h = absurd (cc h)
by_words false false true c e h = absurd (cc h)
by_words false false false true e h = absurd (cc h)
by_words false false false false true h = absurd (cc h)

name_fits : (n : List ℕ) (start : ℕ) → not (nests n) ≡ true → Fits (at start (spelled (name n))) Stays
name_fits n start h =
    let w = by_words (str_eq_ignore_ascii_case n (codes "BEGIN")) (str_eq_ignore_ascii_case n (codes "IF")) (str_eq_ignore_ascii_case n (codes "LOOP"))
    (str_eq_ignore_ascii_case n (codes "CASE")) (str_eq_ignore_ascii_case n (codes "END")) h in
    record { opening = w.0; begin = w.1; end = w.2; closing = w.2 }

fits : (t : Terminal) (start : ℕ) → is_plain t ≡ true → Fits (at start (spelled t)) (role t)
fits (mark x) start h = record { opening = mark_opening x start; begin = mark_begin x start; end = mark_end x start; closing = mark_closing x start }
fits (name n) start h = name_fits n start h
fits (integer n) start h = record { opening = refl; begin = refl; end = refl; closing = refl }
fits (string z) start h = record { opening = refl; begin = refl; end = refl; closing = refl }
fits (parameter i) start h = record { opening = refl; begin = refl; end = refl; closing = refl }
fits (quote z) start h = record { opening = refl; begin = refl; end = refl; closing = refl }

abbrev AllFit : List Lexeme → List Terminal → Type 0
AllFit [] [] = Unit {0}
AllFit (u ∷ us) (t ∷ ts) = Fits u (role t) × AllFit us ts
AllFit _ _ = ⊥

behind_fit : (a : Spelled) (ts : List Terminal) (start : ℕ) → ArePlain ts → AllFit (lexemes_from start (laid_behind calls a (map spelled ts))) ts
behind_fit a [] start h = tt
behind_fit a (t ∷ ts) start h =
    let here = if not (is_glued calls a (spelled t)) then start + 1 else start in
    (fits t here h.0, behind_fit (spelled t) ts (here + length (spelled t).text) h.1)

tokens_fit : (ts : List Terminal) (start : ℕ) → ArePlain ts → AllFit (tokens_from start ts) ts
tokens_fit [] start h = tt
tokens_fit (t ∷ ts) start h = (fits t start h.0, behind_fit (spelled t) ts (start + length (spelled t).text) h.1)

-- ---- the greatest count

abbrev change_of : Role → Change
change_of Opens = opens
change_of Begins = opens
change_of Ends = closes
change_of Closes = closes
change_of Stays = stays

by_parts : (r : Role) → (if opening_of r then opens else (if closing_of r then closes else stays)) ≡ change_of r
by_parts Opens = refl
by_parts Begins = refl
by_parts Ends = refl
by_parts Closes = refl
by_parts Stays = refl

change_is : (u : Lexeme) (r : Role) → Fits u r → change u ≡ change_of r
change_is u r h = (λ i. if h.opening i then opens else (if h.closing i then closes else stays)) ∙ by_parts r

abbrev taken : Change → ℕ → ℕ
taken opens n = n + 1
taken closes n = n - 1
taken stays n = n

most_in : (c : Change) (cs : List Change) (n : ℕ) → IsGreatest cs n → (i : ℕ) → opened (take i (c ∷ cs)) ≤ taken c n + closed (take i (c ∷ cs))
most_in c cs n g zero = omega arith
most_in opens cs n g (suc i) = omega (arith, g.most i)
most_in closes cs n g (suc i) = omega (arith, g.most i)
most_in stays cs n g (suc i) = omega (arith, g.most i)

reached_in : (c : Change) (cs : List Change) (n : ℕ) → IsGreatest cs n → (i : ℕ) × (opened (take i (c ∷ cs)) ≡ taken c n + closed (take i (c ∷ cs)))
reached_in opens cs n g = (suc g.reached.0, let e = g.reached.1 in omega arith)
reached_in closes cs zero g = (0, refl)
reached_in closes cs (suc n) g = (suc g.reached.0, let e = g.reached.1 in omega arith)
reached_in stays cs n g = (suc g.reached.0, let e = g.reached.1 in omega arith)

one_more : (c : Change) (cs : List Change) (n : ℕ) → IsGreatest cs n → IsGreatest (c ∷ cs) (taken c n)
one_more c cs n g = record { most = most_in c cs n g; reached = reached_in c cs n g }

none_most : (i : ℕ) → opened (take i []) ≤ 0 + closed (take i [])
none_most zero = omega arith
none_most (suc i) = omega arith

none_counts : IsGreatest [] 0
none_counts = record { most = none_most; reached = (0, refl) }

counted_is : (r : Role) (n : ℕ) → taken (change_of r) n ≡ counted false r n
counted_is Opens n = refl
counted_is Begins n = refl
counted_is Ends n = refl
counted_is Closes n = refl
counted_is Stays n = refl

-- a token before another, by what they are: a pair closes once
step : (r s : Role) (pair rest : List Change) (n k : ℕ) → IsGreatest pair n → IsGreatest rest k → (is_begin s ≡ true → k ≡ n + 1)
    → IsGreatest (if d.is_end r && is_begin s then closes ∷ pair else change_of r ∷ rest) (counted (is_begin s) r k)
step Opens s pair rest n k g h e = one_more opens rest k h
step Begins s pair rest n k g h e = one_more opens rest k h
step Ends Begins pair rest n k g h e = subst (IsGreatest (closes ∷ pair)) (let next = e refl in omega (arith, next)) (one_more closes pair n g)
step Ends Opens pair rest n k g h e = one_more closes rest k h
step Ends Ends pair rest n k g h e = one_more closes rest k h
step Ends Closes pair rest n k g h e = one_more closes rest k h
step Ends Stays pair rest n k g h e = one_more closes rest k h
step Closes s pair rest n k g h e = one_more closes rest k h
step Stays s pair rest n k g h e = one_more stays rest k h

begin_counts : (r : Role) (b : Bool) (n : ℕ) → is_begin r ≡ true → counted b r n ≡ n + 1
begin_counts Begins b n h = refl
begin_counts Opens b n h = absurd (cc h)
begin_counts Ends b n h = absurd (cc h)
begin_counts Closes b n h = absurd (cc h)
begin_counts Stays b n h = absurd (cc h)

all_nest : (us : List Lexeme) (ts : List Terminal) → AllFit us ts → IsGreatest (changes us) (depth ts)
all_nest [] [] h = none_counts
all_nest (u ∷ []) (t ∷ []) h = subst (λ c. IsGreatest (c ∷ []) (counted false (role t) 0)) (sym (change_is u (role t) h.0)) (subst (IsGreatest (change_of
    (role t) ∷ [])) (counted_is (role t) 0) (one_more (change_of (role t)) [] 0 none_counts))
all_nest (u ∷ v ∷ us) (t ∷ s ∷ ts) h =
    let here : (if d.is_end (role t) && is_begin (role s) then closes ∷ changes us else change_of (role t) ∷ changes (v ∷ us)) ≡ changes (u ∷ v ∷ us) =
    sym (λ i. if h.0.end i && h.1.0.begin i then closes ∷ changes us else change_is u (role t) h.0 i ∷ changes (v ∷ us)) in
    subst (λ cs. IsGreatest cs (depth (t ∷ s ∷ ts))) here
    (step (role t) (role s) (changes us) (changes (v ∷ us)) (depth ts) (depth (s ∷ ts)) (all_nest us ts h.1.1) (all_nest (v ∷ us) (s ∷ ts) h.1)
    (λ b. begin_counts (role s) (begins ts) (depth ts) b))
all_nest [] (t ∷ ts) h = absurd h
all_nest (u ∷ us) [] h = absurd h
all_nest (u ∷ []) (t ∷ s ∷ ts) h = absurd h.1
all_nest (u ∷ v ∷ us) (t ∷ []) h = absurd h.1

pub tokens_nest : (ts : List Terminal) (start : ℕ) → ArePlain ts → IsNesting (tokens_from start ts) (depth ts)
tokens_nest ts start h = all_nest (tokens_from start ts) ts (tokens_fit ts start h)
