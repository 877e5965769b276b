-- What a name and a text are, of their bytes.
use Rattle.std.specs.Prelude.{
  ◌≡◌,
  ℕ,
  Bool,
  true,
  ◌&&◌,
  ◌||◌,
  not,
  nat_le,
  eqb,
  List,
  length,
  ◌≤◌,
  ◌<◌,
}
use Rattle.std.specs.List.{list_all}

-- the characters of the longest name
abbrev pub longest_name : ℕ
longest_name = 63

-- the bytes of the longest text, in UTF-8; the limit is our own
abbrev pub longest_text : ℕ
longest_text = 1048576

abbrev pub is_name_byte : ℕ → Bool
is_name_byte b = (nat_le 97 b && nat_le b 122) || (nat_le 48 b && nat_le b 57) || eqb b 95

-- not empty and not too long, each character a lower-case letter, a digit or `_`
pub record IsName (bs : List ℕ) : Type 0 where
  pub some : 0 < length bs
  pub short : length bs ≤ longest_name
  pub plain : list_all is_name_byte bs ≡ true

abbrev pub HasNoZero : List ℕ → Type 0
HasNoZero bs = list_all (λ b. not (eqb b 0)) bs ≡ true

-- not too long, and no byte is 0
pub record IsWord (bs : List ℕ) : Type 0 where
  pub short : length bs ≤ longest_text
  pub no_zero : HasNoZero bs
