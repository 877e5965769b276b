-- What the code finds at the front of a text is a piece of the definition.
use Rattle.std.proofs.Common.{◌≡◌, ℕ, zero, suc, ◌+◌, ◌-◌, ◌<◌, ◌≤◌, Bool, true, false, cond, not, ◌&&◌, ◌||◌, eqb, leb, ltb, List, [], ◌∷◌, ◌++◌, length, get_or, take, drop, Option, Some, None, refl, sym, ap, ◌∙◌, subst, arith, length-append, inl, inr, get_or-drop, take-append-drop}
use Rattle.std.proofs.lemmas.List.{get_or-take, length-take-le, take_at, take_more, get_or_past, drop-take, take-take}
use Rattle.std.proofs.Math.Seq.{take-add, take-append-add}
use Rattle.std.proofs.lemmas.List.Sums.{prefix_len-le-length, prefix_len_passes}
use Rattle.std.proofs.lemmas.Bool.{cases_Bool, cases_lt, eqb-true}
use Rattle.std.proofs.lemmas.Bool.Decides.{nat_tests}
use Rattle.std.specs.Char.{is_ascii_digit}
use Rattle.away_grammar.specs.declared.tokens.TokenKind.TheVariants.{Word, Integer, Str, Parameter, Dollar, Symbol}
use Rattle.away_values.specs.Words.{IsWord}
use Rattle.away_grammar.specs.Spellings.{byte, is_blank, is_start, goes_on, number, doubled, mark_of, IsTag, IsFirstBehind, is_symbol_text}
use Rattle.away_grammar.specs.Tokens.{is_line, EndsLine, Skips, blank, line, block, Stands}
use Rattle.away_lex.specs.declared.pieces.Piece.{Piece}
use Rattle.away_lex.specs.declared.pieces.Piece.TheVariants.{Skipped, Token}
use Rattle.away_lex.specs.declared.pieces.Class.{Class}
use Rattle.away_lex.specs.declared.pieces.Class.TheVariants as class
use Rattle.away_lex.specs.Pieces.{first_piece, is_in, run, is_number, string_of, closing, undoubled, has_no_zero, is_text, dollar, quote_of, place_of, begins_with, mark, comment_of, comment_len, is_pair, is_single}
use Rattle.away_lex.proofs.Apart.{plus_some, place_fits}
use Rattle.away_lex.proofs.Alone.{undoubled-doubled, begins_take, take_begins}
use Rattle.away_lex.proofs.Runs.{run_all, run_stops, and_left, and_right}
use Rattle.away_lex.proofs.Symbols.{pair_is, single_is, three_is, three_opens}
use Rattle.away_lex.proofs.Comments.{all_closed}

-- the piece is one of the definition, and ends in the text
abbrev pub Found : List ℕ → Piece → Type 0
Found z (Skipped n) = (n ≤ length z) × Skips (take n z) (drop n z)
Found z (Token k n) = (n ≤ length z) × Stands k (take n z) (drop n z)

pub cond_has : {A : Type 0} (P : Type 0) (t : Bool) {x y z : A} → cond t x y ≡ z → (t ≡ true → x ≡ z → P) → (t ≡ false → y ≡ z → P) → P
cond_has P true h f g = f refl h
cond_has P false h f g = g refl h

found_is : (z : List ℕ) (p q : Piece) → Some p ≡ Some q → Found z p → Found z q
found_is z p q h f = let e : p ≡ q = cc in subst (Found z) e f

drop_byte : (n : ℕ) (z : List ℕ) → get_or (drop n z) 0 0 ≡ get_or z n 0
drop_byte n z = get_or-drop n z 0 0 ∙ ap (λ k. get_or z k 0) (omega arith)

get_some : (z : List ℕ) (n : ℕ) (b : ℕ) → get_or z n 0 ≡ suc b → n < length z
get_some z n b h = elim (cases_lt n (length z)) [
  | inl lt ↦ lt
  | inr ge ↦ absurd (let e = get_or_past z n 0 ge in omega arith)
]

-- ---- words and numbers

start_on : (b : ℕ) → is_start b ≡ true → goes_on b ≡ true
start_on b h = grind (arith, nat_tests)

on_start : (b : ℕ) → goes_on b ≡ true → is_ascii_digit b ≡ false → is_start b ≡ true
on_start b h g = grind (arith, nat_tests)

not_on : (b : ℕ) → is_start b ≡ false → is_ascii_digit b ≡ false → goes_on b ≡ false
not_on b h g = grind (arith, nat_tests)

le_of : (a b : ℕ) → leb a b ≡ true → a ≤ b
le_of a b h = grind (arith, nat_tests)

not_true : (t : Bool) → not t ≡ true → t ≡ false
not_true true h = absurd (cc)
not_true false h = refl

not_zero : (n : ℕ) → eqb n 0 ≡ false → 1 ≤ n
not_zero n h = grind (arith, nat_tests)

and_true : (a : Bool) → (a && true) ≡ a
and_true true = refl
and_true false = refl

pair_zero : (b : ℕ) → is_pair b 0 ≡ true → ⊥
pair_zero b h = grind (arith, nat_tests)

run_some : (c : Class) (z : List ℕ) → is_in c (byte z 0) ≡ true → is_in c 0 ≡ false → 1 ≤ run c z
run_some c [] h g = absurd (cc)
run_some c (b ∷ z) h g = rw h (omega arith)

name_stands : (z : List ℕ) → is_start (byte z 0) ≡ true → leb (run class.Name z) 63 ≡ true → Found z (Token Word (run class.Name z))
name_stands z h few =
    let n = run class.Name z in
    let le : n ≤ length z = prefix_len-le-length goes_on z in
    let some : 1 ≤ n = run_some class.Name z (start_on (byte z 0) h) refl in (
      le,
      record {
        spelled = record {
          starts = ap is_start (get_or-take n z 0 0 some) ∙ h;
          plain = run_all goes_on z;
          short = omega (arith, length-take-le n z le, le_of n 63 few);
        };
        apart = ap (λ b. not (goes_on b)) (drop_byte n z) ∙ ap not (run_stops goes_on z refl);
      },
    )

number_parts : (limit : ℕ) (z : List ℕ) → is_number limit z ≡ true → (number (take (run class.Digit z) z) ≤ limit) × (goes_on (byte z (run class.Digit z)) ≡ false)
number_parts limit z h =
    let n = run class.Digit z in
    let off : is_start (byte z n) ≡ false = not_true (is_start (byte z n)) (and_left (not (is_start (byte z n))) (leb (number (take n z)) limit) h) in
    (le_of (number (take n z)) limit (and_right (not (is_start (byte z n))) (leb (number (take n z)) limit) h), not_on (byte z n) off (run_stops is_ascii_digit z refl))

integer_stands : (z : List ℕ) → is_ascii_digit (byte z 0) ≡ true → is_number 9223372036854775808 z ≡ true → Found z (Token Integer (run class.Digit z))
integer_stands z h good =
    let n = run class.Digit z in
    let le : n ≤ length z = prefix_len-le-length is_ascii_digit z in
    let some : 1 ≤ n = run_some class.Digit z h refl in
    let parts = number_parts 9223372036854775808 z good in (
      le,
      record {
        spelled = record { some = omega (arith, length-take-le n z le); digits = run_all is_ascii_digit z; fits = parts.0 };
        apart = ap (λ b. not (goes_on b)) (drop_byte n z) ∙ ap not parts.1;
      },
    )

one_more : (n : ℕ) → 1 + n ≡ suc n
one_more n = omega arith

parameter_stands : (z : List ℕ) → is_number 64 z ≡ true → eqb (number (take (run class.Digit z) z)) 0 ≡ false → Found (36 ∷ z) (Token Parameter (1 + run class.Digit z))
parameter_stands z good other =
    let n = run class.Digit z in
    let le : n ≤ length z = prefix_len-le-length is_ascii_digit z in
    let parts = number_parts 64 z good in
    subst (λ k. Found (36 ∷ z) (Token Parameter k)) (sym (one_more n)) (
      omega (arith, le),
      record {
        spelled = record { digits = take n z; spelled = refl; plain = run_all is_ascii_digit z; from_one = not_zero (number (take n z)) other; to_limit = parts.0 };
        apart = ap (λ b. not (goes_on b)) (drop_byte n z) ∙ ap not parts.1;
      },
    )

-- ---- strings

-- up to the closing quote stands a text with each quote doubled, and no quote behind it
abbrev IsClosed : List ℕ → ℕ → Type 0
IsClosed z j = (t : List ℕ) × (take j z ≡ doubled t ++ 39 ∷ []) × (j ≤ length z) × (eqb (get_or z j 0) 39 ≡ false)

closed_here : (b : ℕ) (z : List ℕ) → eqb b 39 ≡ true → eqb (get_or z 0 0) 39 ≡ false → IsClosed (b ∷ z) 1
closed_here b z y n = ([], ap (λ x. x ∷ []) (eqb-true b 39 y), omega arith, n)

closed_two : (b c : ℕ) (z : List ℕ) (k : ℕ) → eqb b 39 ≡ true → eqb c 39 ≡ true → IsClosed z k → IsClosed (b ∷ c ∷ z) (suc (suc k))
closed_two b c z k y u r = (39 ∷ r.0, (λ i. eqb-true b 39 y i ∷ eqb-true c 39 u i ∷ r.1 i), omega (arith, r.2), r.3)

closed_one : (b c : ℕ) (z : List ℕ) (k : ℕ) → eqb b 39 ≡ false → IsClosed (c ∷ z) k → IsClosed (b ∷ c ∷ z) (suc k)
closed_one b c z k n r =
    let d : b ∷ doubled r.0 ≡ doubled (b ∷ r.0) = rw n refl in
    (b ∷ r.0, ap (λ l. b ∷ l) r.1 ∙ ap (λ l. l ++ 39 ∷ []) d, omega (arith, r.2), r.3)

closing_is : (z : List ℕ) (j : ℕ) → closing z ≡ Some j → IsClosed z j
closing_is [] j h = absurd (cc)
closing_is (b ∷ []) j h = elim (cases_Bool (eqb b 39)) [
  | inl y ↦ (let one : j ≡ 1 = (let f = rw y at h in cc) in subst (IsClosed (b ∷ [])) (sym one) (closed_here b [] y refl))
  | inr n ↦ (let f = rw n at h in absurd (cc))
]
closing_is (b ∷ c ∷ z) j h = elim (cases_Bool (eqb b 39)) [
  | inl y ↦ elim (cases_Bool (eqb c 39)) [
    | inl u ↦ (let p = plus_some 2 j (closing z) (rw (y, u) at h) in
        let size : j ≡ suc (suc p.0) = omega (arith, p.2) in
        subst (IsClosed (b ∷ c ∷ z)) (sym size) (closed_two b c z p.0 y u (closing_is z p.0 p.1)))
    | inr v ↦ (let one : j ≡ 1 = (let f = rw (y, v) at h in cc) in subst (IsClosed (b ∷ c ∷ z)) (sym one) (closed_here b (c ∷ z) y v))
  ]
  | inr n ↦ (let p = plus_some 1 j (closing (c ∷ z)) (rw n at h) in
      let size : j ≡ suc p.0 = omega (arith, p.2) in
      subst (IsClosed (b ∷ c ∷ z)) (sym size) (closed_one b c z p.0 n (closing_is (c ∷ z) p.0 p.1)))
]

text_parts : (t : List ℕ) → is_text t ≡ true → IsWord t
text_parts t h = record { short = le_of (length t) 1048576 (and_right (has_no_zero t) (leb (length t) 1048576) h); no_zero = and_left (has_no_zero t) (leb (length t) 1048576) h }

string_stands : (z : List ℕ) (j : ℕ) → closing z ≡ Some j → is_text (undoubled (take (j - 1) z)) ≡ true → Found (39 ∷ z) (Token Str (1 + j))
string_stands z j h good =
    let r = closing_is z j h in
    let whole : length (doubled r.0) + 1 ≡ j = omega (arith, ap length r.1, length-append (doubled r.0) (39 ∷ []), length-take-le j z r.2) in
    let inside : take (j - 1) z ≡ doubled r.0 = sym (take-take (j - 1) j z (omega arith)) ∙ ap (take (j - 1)) r.1 ∙ take_at (doubled r.0) (39 ∷ []) (j - 1) (omega arith) in
    let text : is_text r.0 ≡ true = ap is_text (sym (undoubled-doubled r.0)) ∙ ap (λ l. is_text (undoubled l)) (sym inside) ∙ good in
    subst (λ k. Found (39 ∷ z) (Token Str k)) (sym (one_more j)) (
      omega (arith, r.2),
      record {
        spelled = record { text = r.0; value = text_parts r.0 text; spelled = ap (λ l. 39 ∷ l) r.1 };
        apart = ap (λ b. not (eqb b 39)) (drop_byte j z) ∙ ap not r.3;
      },
    )

-- ---- dollar quotes

later_least : (m : List ℕ) (b : ℕ) (z : List ℕ) (j at : ℕ) → begins_with m (b ∷ z) ≡ false → at < 1 + j → ((k : ℕ) → k < j → begins_with m (drop k z) ≡ false) → begins_with m (drop at (b ∷ z)) ≡ false
later_least m b z j zero n lt ih = n
later_least m b z j (suc at) n lt ih = ih at (omega arith)

place_least : (m z : List ℕ) (j at : ℕ) → place_of m z ≡ Some j → at < j → begins_with m (drop at z) ≡ false
place_least m [] j at h lt = absurd (cc)
place_least m (b ∷ z) j at h lt = elim (cases_Bool (begins_with m (b ∷ z))) [
  | inl y ↦ absurd (let e : j ≡ 0 = (let f = rw y at h in cc) in omega arith)
  | inr n ↦ (let p = plus_some 1 j (place_of m z) (rw n at h) in later_least m b z p.0 at n (omega (arith, p.2)) (λ k lt. place_least m z p.0 k p.1 lt))
]

place_here : (m z : List ℕ) (j : ℕ) → place_of m z ≡ Some j → begins_with m (drop j z) ≡ true
place_here m [] j h = absurd (cc)
place_here m (b ∷ z) j h = elim (cases_Bool (begins_with m (b ∷ z))) [
  | inl y ↦ (let e : j ≡ 0 = (let f = rw y at h in cc) in rw e y)
  | inr n ↦ (let p = plus_some 1 j (place_of m z) (rw n at h) in let e : j ≡ suc p.0 = omega (arith, p.2) in rw e (place_here m z p.0 p.1))
]

dollar_tag : (z : List ℕ) → ltb 0 (run class.Digit z) ≡ false → run class.Name z ≤ 63 → IsTag (take (run class.Name z) z)
dollar_tag z none few = elim (cases_lt 0 (run class.Name z)) [
  | inl some ↦ (let n = run class.Name z in
      let le : n ≤ length z = prefix_len-le-length goes_on z in
      let first : goes_on (byte z 0) ≡ true = prefix_len_passes goes_on z 0 0 some in
      let zero_run : run class.Digit z ≡ 0 = grind (arith, nat_tests) in
      let other : is_ascii_digit (byte z 0) ≡ false = ap (λ k. is_ascii_digit (get_or z k 0)) (sym zero_run) ∙ run_stops is_ascii_digit z refl in
      inr (record {
        starts = ap is_start (get_or-take n z 0 0 some) ∙ on_start (byte z 0) first other;
        plain = run_all goes_on z;
        short = omega (arith, length-take-le n z le);
      }))
  | inr ge ↦ (let e : run class.Name z ≡ 0 = omega arith in inl (ap (λ n. take n z) e))
]

dollar_mark : (z : List ℕ) → get_or z (run class.Name z) 0 ≡ 36 → (take (2 + run class.Name z) (36 ∷ z) ≡ mark_of (take (run class.Name z) z)) × (2 + run class.Name z ≤ length (36 ∷ z))
dollar_mark z h =
    let n = run class.Name z in
    let lt : n < length z = get_some z n 35 h in
    let two : 2 + n ≡ suc (n + 1) = omega arith in
    (ap (λ k. take k (36 ∷ z)) two ∙ ap (λ l. 36 ∷ l) (take_more z n 0 lt ∙ ap (λ b. take n z ++ b ∷ []) h), omega arith)

-- from a mark on: an inside without it, and the mark
quote_stands : (m z : List ℕ) (tag : List ℕ) (j : ℕ) → m ≡ mark_of tag → IsTag tag → place_of m z ≡ Some j → Found (m ++ z) (Token Dollar (length m + j + length m))
quote_stands m z tag j is is_tag place =
    let n = length m in
    let fits : j + n ≤ length z = place_fits m z j place in
    let here : take n (drop j z) ≡ m = begins_take m (drop j z) (place_here m z j place) in
    let front : take (j + n) z ≡ take j z ++ m = take-add j n z ∙ ap (λ l. take j z ++ l) here in
    let sum : n + j + n ≡ n + (j + n) = omega arith in
    let all : take (n + j + n) (m ++ z) ≡ m ++ (take j z ++ m) =
    ap (λ k. take k (m ++ z)) sum ∙ take-append-add m z (j + n) ∙ ap (λ l. m ++ l) front in
    let inside : length (take j z) ≡ j = length-take-le j z (omega arith) in
    let first : IsFirstBehind m (take j z) = λ at h.
    elim (cases_lt at j) [
      | inl lt ↦ absurd (
          let room : j + n ≡ at + (j + n - at) = omega arith in
          let cut : take n (drop at (take j z ++ m)) ≡ take n (drop at z) =
          ap (λ l. take n (drop at l)) (sym front ∙ ap (λ k. take k z) room) ∙ ap (take n) (drop-take at (j + n - at) z) ∙ take-take n (j + n - at) (drop at z) (omega arith) in
          let y : begins_with m (drop at z) ≡ true = take_begins m (drop at z) (sym cut ∙ h) in
          let off : begins_with m (drop at z) ≡ false = place_least m z j at place lt in
          cc
          )
      | inr ge ↦ omega arith
    ] in (
      omega (arith, length-append m z),
      record {
        spelled = record {
          tag = tag;
          inside = take j z;
          is_tag = is_tag;
          next = subst (λ l. IsFirstBehind l (take j z)) is first;
          spelled = all ∙ (λ i. is i ++ (take j z ++ is i));
        };
        apart = refl;
      },
    )

dollar_stands : (z : List ℕ) (j : ℕ) → ltb 0 (run class.Digit z) ≡ false → (eqb (byte (36 ∷ z) (1 + run class.Name z)) 36 && leb (run class.Name z) 63) ≡ true
    → place_of (take (2 + run class.Name z) (36 ∷ z)) (drop (2 + run class.Name z) (36 ∷ z)) ≡ Some j → Found (36 ∷ z) (Token Dollar (2 + run class.Name z + j + (2 + run class.Name z)))
dollar_stands z j none good place =
    let n = run class.Name z in
    let m = take (2 + n) (36 ∷ z) in
    let at : get_or z n 0 ≡ 36 = ap (λ k. get_or (36 ∷ z) k 0) (sym (one_more n)) ∙ eqb-true (byte (36 ∷ z) (1 + n)) 36 (and_left (eqb (byte (36 ∷ z) (1 + n)) 36) (leb n 63) good) in
    let is = dollar_mark z at in
    let few : n ≤ 63 = le_of n 63 (and_right (eqb (byte (36 ∷ z) (1 + n)) 36) (leb n 63) good) in
    let size : length m ≡ 2 + n = length-take-le (2 + n) (36 ∷ z) is.1 in
    let f : Found (m ++ drop (2 + n) (36 ∷ z)) (Token Dollar (length m + j + length m)) = quote_stands m (drop (2 + n) (36 ∷ z)) (take n z) j is.0 (dollar_tag z none few) place in
    subst (λ (p : List ℕ × ℕ). Found p.0 (Token Dollar (p.1 + j + p.1))) (λ i. (take-append-drop (2 + n) (36 ∷ z) i, size i)) f

-- ---- symbols and comments

symbol_one : (b : ℕ) (z : List ℕ) → is_single b ≡ true → is_pair b (get_or z 0 0) ≡ false → (eqb b 45 && eqb (get_or z 0 0) 45) ≡ false → (eqb b 47 && eqb (get_or z 0 0) 42) ≡ false → Found (b ∷ z) (Token Symbol 1)
symbol_one b z one off line_no block_no =
    let c = get_or z 0 0 in
    let a : is_symbol_text (b ∷ c ∷ []) ≡ false = pair_is b c ∙ off in
    let l : (eqb b 45 && (eqb c 45 && true)) ≡ false = ap (λ x. eqb b 45 && x) (and_true (eqb c 45)) ∙ line_no in
    let k : (eqb b 47 && (eqb c 42 && true)) ≡ false = ap (λ x. eqb b 47 && x) (and_true (eqb c 42)) ∙ block_no in
    (omega arith, record { spelled = single_is b ∙ one; apart = (λ i. not (a i) && not (l i || k i)) })

symbol_two : (b c : ℕ) (z : List ℕ) → is_pair b c ≡ true → Found (b ∷ c ∷ z) (Token Symbol 2)
symbol_two b c z two = (omega arith, record { spelled = pair_is b c ∙ two; apart = (λ i. not (three_is b c (get_or z 0 0) [] i) && not (three_opens b c (get_or z 0 0) [] i)) })

line_ends : (z : List ℕ) → EndsLine (drop (run class.Line z) z)
line_ends [] = tt
line_ends (b ∷ z) = elim (cases_Bool (is_line b)) [
  | inl y ↦ (let e : run class.Line (b ∷ z) ≡ suc (run class.Line z) = rw y (one_more (run class.Line z)) in subst (λ n. EndsLine (drop n (b ∷ z))) (sym e) (line_ends z))
  | inr n ↦ (let e : run class.Line (b ∷ z) ≡ 0 = rw n refl in subst (λ k. EndsLine (drop k (b ∷ z))) (sym e) n)
]

two_more : (n : ℕ) → 2 + n ≡ suc (suc n)
two_more n = omega arith

line_stands : (z : List ℕ) → Found (45 ∷ 45 ∷ z) (Skipped (2 + run class.Line z))
line_stands z =
    let n = run class.Line z in
    subst (λ k. Found (45 ∷ 45 ∷ z) (Skipped k)) (sym (two_more n)) (omega (arith, prefix_len-le-length is_line z), line (run_all is_line z) (line_ends z))

block_stands : (z : List ℕ) (n : ℕ) → comment_len 0 z ≡ Some n → Found (47 ∷ 42 ∷ z) (Skipped (2 + n))
block_stands z n h =
    let c = all_closed 0 z n h in
    subst (λ k. Found (47 ∷ 42 ∷ z) (Skipped k)) (sym (two_more n)) (omega (arith, c.0), block c.1)

-- ---- any piece

string_found : (z : List ℕ) (o : Option ℕ) (p : Piece) → closing z ≡ o → string_of z o ≡ Some p → Found (39 ∷ z) p
string_found z None p e h = absurd (cc)
string_found z (Some j) p e h = cond_has _ (is_text (undoubled (take (j - 1) z))) h (λ y f. found_is (39 ∷ z) (Token Str (1 + j)) p f (string_stands z j e y)) (λ _ f. absurd (cc))

quote_found : (z : List ℕ) (o : Option ℕ) (p : Piece) → ltb 0 (run class.Digit z) ≡ false → (eqb (byte (36 ∷ z) (1 + run class.Name z)) 36 && leb (run class.Name z) 63) ≡ true
    → place_of (take (2 + run class.Name z) (36 ∷ z)) (drop (2 + run class.Name z) (36 ∷ z)) ≡ o → quote_of (2 + run class.Name z) o ≡ Some p → Found (36 ∷ z) p
quote_found z None p none good e h = absurd (cc)
quote_found z (Some j) p none good e h = found_is (36 ∷ z) (Token Dollar (2 + run class.Name z + j + (2 + run class.Name z))) p h (dollar_stands z j none good e)

dollar_found : (z : List ℕ) (p : Piece) → dollar (36 ∷ z) ≡ Some p → Found (36 ∷ z) p
dollar_found z p h =
    let n = run class.Name z in
    cond_has _ (ltb 0 (run class.Digit z)) h
    (λ _ h1. cond_has _ (is_number 64 z) h1
    (λ good h2. cond_has _ (eqb (number (take (run class.Digit z) z)) 0) h2 (λ _ e. absurd (cc)) (λ other e. found_is (36 ∷ z) (Token Parameter (1 + run class.Digit z)) p e (parameter_stands z good other)))
    (λ _ e. absurd (cc)))
    (λ none h1. cond_has _ (eqb (byte (36 ∷ z) (1 + n)) 36 && leb n 63) h1
    (λ good h2. quote_found z (place_of (take (2 + n) (36 ∷ z)) (drop (2 + n) (36 ∷ z))) p none good refl h2)
    (λ _ e. absurd (cc)))

comment_found_at : (z : List ℕ) (o : Option ℕ) (p : Piece) → comment_len 0 z ≡ o → comment_of o ≡ Some p → Found (47 ∷ 42 ∷ z) p
comment_found_at z None p e h = absurd (cc)
comment_found_at z (Some n) p e h = found_is (47 ∷ 42 ∷ z) (Skipped (2 + n)) p h (block_stands z n e)

two_are : (b c x y : ℕ) → (eqb b x && eqb c y) ≡ true → (x ≡ b) × (y ≡ c)
two_are b c x y h = (sym (eqb-true b x (and_left (eqb b x) (eqb c y) h)), sym (eqb-true c y (and_right (eqb b x) (eqb c y) h)))

mark_found : (b : ℕ) (z : List ℕ) (p : Piece) → mark (b ∷ z) ≡ Some p → Found (b ∷ z) p
mark_found b [] p h =
    cond_has _ (eqb b 45 && eqb 0 45) h (λ y _. absurd (let e = and_right (eqb b 45) (eqb 0 45) y in cc)) (λ line_no h1.
    cond_has _ (eqb b 47 && eqb 0 42) h1 (λ y _. absurd (let e = and_right (eqb b 47) (eqb 0 42) y in cc)) (λ block_no h2.
    cond_has _ (is_pair b 0) h2 (λ y _. absurd (pair_zero b y)) (λ off h3.
    cond_has _ (is_single b) h3 (λ one e. found_is (b ∷ []) (Token Symbol 1) p e (symbol_one b [] one off line_no block_no)) (λ _ e. absurd (cc)))))
mark_found b (c ∷ z) p h =
    cond_has _ (eqb b 45 && eqb c 45) h (λ y e. let is = two_are b c 45 45 y in
    found_is (b ∷ c ∷ z) (Skipped (2 + run class.Line z)) p e (subst (λ (q : ℕ × ℕ). Found (q.0 ∷ q.1 ∷ z) (Skipped (2 + run class.Line z))) (λ i. (is.0 i, is.1 i)) (line_stands z))) (λ line_no h1.
    cond_has _ (eqb b 47 && eqb c 42) h1 (λ y e. let is = two_are b c 47 42 y in
    subst (λ (q : ℕ × ℕ). Found (q.0 ∷ q.1 ∷ z) p) (λ i. (is.0 i, is.1 i)) (comment_found_at z (comment_len 0 z) p refl e)) (λ block_no h2.
    cond_has _ (is_pair b c) h2 (λ y e. found_is (b ∷ c ∷ z) (Token Symbol 2) p e (symbol_two b c z y)) (λ off h3.
    cond_has _ (is_single b) h3 (λ one e. found_is (b ∷ c ∷ z) (Token Symbol 1) p e (symbol_one b (c ∷ z) one off line_no block_no)) (λ _ e. absurd (cc)))))

pub found : (z : List ℕ) (p : Piece) → first_piece z ≡ Some p → Found z p
unfolding first_piece
found [] p h = absurd (let e : mark [] ≡ Some p = h in cc)
found (b ∷ z) p h =
    cond_has _ (is_blank b) h (λ y e. found_is (b ∷ z) (Skipped 1) p e (omega arith, blank y)) (λ _ h1.
    cond_has _ (is_start b) h1 (λ y e. cond_has _ (leb (run class.Name (b ∷ z)) 63) e (λ few f. found_is (b ∷ z) (Token Word (run class.Name (b ∷ z))) p f (name_stands (b ∷ z) y few)) (λ _ f. absurd (cc))) (λ _ h2.
    cond_has _ (is_ascii_digit b) h2 (λ y e. cond_has _ (is_number 9223372036854775808 (b ∷ z)) e (λ good f. found_is (b ∷ z) (Token Integer (run class.Digit (b ∷ z))) p f (integer_stands (b ∷ z) y good)) (λ _ f. absurd (cc))) (λ _ h3.
    cond_has _ (eqb b 39) h3 (λ y e. subst (λ x. Found (x ∷ z) p) (sym (eqb-true b 39 y)) (string_found z (closing z) p refl e)) (λ _ h4.
    cond_has _ (eqb b 36) h4 (λ y e. subst (λ x. Found (x ∷ z) p) (sym (eqb-true b 36 y)) (dollar_found z p (subst (λ x. dollar (x ∷ z) ≡ Some p) (eqb-true b 36 y) e))) (λ _ h5.
    mark_found b z p h5)))))
