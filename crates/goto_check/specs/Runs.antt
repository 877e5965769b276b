-- Numbers in a row, as far as each is the next one.
use Rattle.std.specs.Prelude.{
  ℕ,
  zero,
  suc,
  ◌+◌,
  Bool,
  true,
  false,
  ◌&&◌,
  List,
  [],
  ◌∷◌,
  length,
  if◌then◌else◌,
  nat_eq,
}
use Rattle.goto_check.specs.declared.runs.Run.{Run}
use Rattle.goto_check.specs.declared.runs.Run.TheVariants.{Empty, FromTo, Broken}

-- each is the next one, the first of them this one
abbrev pub in_turn : ℕ → List ℕ → Bool
in_turn a [] = true
in_turn a (x ∷ xs) = nat_eq x a && in_turn (a + 1) xs

-- what is known of a list
unfoldable pub run_of : List ℕ → Run
run_of [] = Empty
run_of (x ∷ xs) = if in_turn (x + 1) xs then FromTo x (x + length xs) else Broken

-- what is known of two lists, one behind the other
unfoldable pub join : Run → Run → Run
join Empty r = r
join (FromTo a b) Empty = FromTo a b
join (FromTo a b) (FromTo c d) = if nat_eq c (b + 1) then FromTo a d else Broken
join (FromTo a b) Broken = Broken
join Broken r = Broken

-- a number, if it is there
abbrev pub only : Bool → ℕ → Run
only true n = FromTo n n
only false n = Empty

-- of one number, so many times
abbrev pub repeated : ℕ → ℕ → Run
repeated zero n = Empty
repeated (suc zero) n = FromTo n n
repeated (suc (suc _)) n = Broken
