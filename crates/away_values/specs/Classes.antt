-- What a class of faults is (PostgreSQL manual, appendix PostgreSQL Error Codes).
use Rattle.std.specs.Prelude.{
  ◌≡◌,
  ℕ,
  Bool,
  true,
  not,
  ◌&&◌,
  ◌||◌,
  ◌==◌,
  nat_le,
  List,
  length,
  Ok,
  Err,
  codes,
  bytes_eq,
}
use Rattle.std.specs.List.{list_all}
use Rattle.away_values.specs.Results.{Or}

-- a digit, or an upper-case letter
abbrev pub is_class_char : ℕ → Bool
is_class_char c = (nat_le 48 c && nat_le c 57) || (nat_le 65 c && nat_le c 90)

-- five digits or upper-case letters, and not 00000
abbrev pub is_class : List ℕ → Bool
is_class t = length t == 5 && (list_all is_class_char t && not (bytes_eq t (codes "00000")))

-- a value, or a fault of a class
abbrev pub FaultsByClass : {A : Type 0} → Or A → Type 0
FaultsByClass (Ok a) = Unit {0}
FaultsByClass (Err c) = is_class c.code ≡ true
