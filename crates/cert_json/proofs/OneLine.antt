-- The text of a JSON value, without spaces, is one line: in a string the end of a line is written as a backslash and a letter.
use Rattle.std.proofs.Common.{◌≢◌, ℕ, zero, suc, ◌/◌, ◌%◌, Bool, true, false, cond, ◌==◌, List, [], ◌∷◌, ◌++◌, arith}
use Rattle.std.proofs.lemmas.Bool.Decides.{nat_tests}
use Rattle.std.specs.Fmt.{decimal, digit_glyph, digits, digits_onto, signed_decimal}
use Rattle.std.specs.List.{AllByRecursion}
use Rattle.std.specs.Prelude.{ℤ, pos, negsuc}
use Rattle.json.specs.Print.{escape, escape_byte, quoted}
use Rattle.serde_json.specs.Data.{Num, unsigned, negative, float, Data, null, boolean, number, string, array, object, Items, no_items, item, Members, no_members, member}
use Rattle.serde_json.specs.Written.{comma_if, compact_text, items_text, members_text, number_text}
use Rattle.cert_json.specs.Lines.{IsLine}

-- no byte is the end of a line
abbrev HasNoEnd : List ℕ → Type 0
HasNoEnd = AllByRecursion (λ b. b ≢ 10)

joined : (s t : List ℕ) → HasNoEnd s → HasNoEnd t → HasNoEnd (s ++ t)
joined [] t h k = k
joined (b ∷ s) t h k = (h.0, joined s t h.1 k)

chosen : (b : Bool) (s t : List ℕ) → HasNoEnd s → HasNoEnd t → HasNoEnd (cond b s t)
chosen true s t h k = h
chosen false s t h k = k

line : (s : List ℕ) → HasNoEnd s → IsLine s
line [] h i x e = absurd (cc)
line (b ∷ s) h zero x e = grind (arith, h.0, e)
line (b ∷ s) h (suc i) x e = line s h.1 i x e

-- ---- numbers

digit : (n : ℕ) → digit_glyph false n ≢ 10
digit n = grind (arith, nat_tests)

digits_before : (k n : ℕ) (more : List ℕ) → HasNoEnd more → HasNoEnd (digits_onto k 10 false n more)
digits_before zero n more h = h
digits_before (suc k) n more h = chosen (n / 10 == 0) _ _ (digit (n % 10), h) (digits_before k (n / 10) _ (digit (n % 10), h))

in_decimal : (n : ℕ) → HasNoEnd (decimal n)
unfolding digits
in_decimal n = digits_before 64 n [] tt

in_signed : (z : ℤ) → HasNoEnd (signed_decimal z)
in_signed (pos n) = in_decimal n
in_signed (negsuc n) = (grind arith, in_decimal (suc n))

in_number : (n : Num) → HasNoEnd (number_text n)
in_number (unsigned n) = in_decimal n
in_number (negative z) = in_signed z
in_number (float x) = tt

-- ---- strings

in_byte : (b : ℕ) → HasNoEnd (escape_byte b)
unfolding escape_byte
in_byte b = grind (arith, nat_tests)

in_escape : (s : List ℕ) → HasNoEnd (escape s)
in_escape [] = tt
in_escape (b ∷ s) = joined (escape_byte b) (escape s) (in_byte b) (in_escape s)

in_quoted : (s : List ℕ) → HasNoEnd (quoted s)
in_quoted s = (grind arith, joined (escape s) (34 ∷ []) (in_escape s) (grind arith, tt))

-- ---- values

in_comma : (later : Bool) → HasNoEnd (comma_if later)
in_comma later = chosen later (44 ∷ []) [] (grind arith, tt) tt

mutual
  in_text : (d : Data) → HasNoEnd (compact_text d)
  in_text null = grind arith
  in_text (boolean true) = grind arith
  in_text (boolean false) = grind arith
  in_text (number n) = in_number n
  in_text (string s) = in_quoted s
  in_text (array ds) = (grind arith, in_items false ds)
  in_text (object ms) = (grind arith, in_members false ms)

  in_items : (later : Bool) (ds : Items) → HasNoEnd (items_text later ds)
  in_items later no_items = (grind arith, tt)
  in_items later (item d ds) = joined (comma_if later) _ (in_comma later) (joined (compact_text d) _ (in_text d) (in_items true ds))

  in_members : (later : Bool) (ms : Members) → HasNoEnd (members_text later ms)
  in_members later no_members = (grind arith, tt)
  in_members later (member k d ms) =
      joined (comma_if later) _ (in_comma later) (joined (quoted k) _ (in_quoted k) (grind arith, joined (compact_text d) _ (in_text d) (in_members true ms)))

pub compact_text_is_line : (d : Data) → IsLine (compact_text d)
compact_text_is_line d = line (compact_text d) (in_text d)
