-- What may be written of a function's attributes.
use Rattle.std.specs.Prelude.{
  ℕ,
  ◌+◌,
  ◌==◌,
  nat_lt,
  Bool,
  true,
  false,
  ◌&&◌,
  if◌then◌else◌,
  List,
  [],
  ◌∷◌,
  Option,
  Some,
  None,
  codes,
  bytes_eq,
}
use Rattle.std.specs.List.{list_any}
use Rattle.away_grammar.specs.declared.grammar.Attribute.{Attribute}
use Rattle.away_grammar.specs.declared.grammar.Attribute.TheVariants as attribute

abbrev pub times : (Attribute → Bool) → List Attribute → ℕ
times of_group [] = 0
times of_group (a ∷ more) = if of_group a then 1 + times of_group more else times of_group more

abbrev pub is_language : Attribute → Bool
is_language attribute.Language = true
is_language _ = false

abbrev pub is_body : Attribute → Bool
is_body attribute.Body = true
is_body _ = false

abbrev pub is_volatility : Attribute → Bool
is_volatility attribute.Volatility = true
is_volatility _ = false

abbrev pub is_null_input : Attribute → Bool
is_null_input (attribute.NullInput strict) = true
is_null_input _ = false

abbrev pub is_leakproof : Attribute → Bool
is_leakproof attribute.Leakproof = true
is_leakproof _ = false

abbrev pub is_parallel : Attribute → Bool
is_parallel attribute.Parallel = true
is_parallel _ = false

abbrev pub is_cost : Attribute → Bool
is_cost attribute.Cost = true
is_cost _ = false

-- LANGUAGE and AS stand once each, and no group stands twice.
abbrev pub may_stand : List Attribute → Bool
may_stand found =
    times is_language found == 1 && times is_body found == 1
    && nat_lt (times is_volatility found) 2 && nat_lt (times is_null_input found) 2
    && nat_lt (times is_leakproof found) 2 && nat_lt (times is_parallel found) 2
    && nat_lt (times is_cost found) 2

abbrev pub makes_strict : Attribute → Bool
makes_strict (attribute.NullInput strict) = strict
makes_strict _ = false

-- the attributes of one word
abbrev pub one_word : List ℕ → Option Attribute
one_word z =
    if list_any (bytes_eq z) (codes "immutable" ∷ codes "stable" ∷ codes "volatile" ∷ [])
    then Some attribute.Volatility
    else (if bytes_eq z (codes "leakproof") then Some attribute.Leakproof else None)

-- what may stand behind PARALLEL
abbrev pub may_run : List ℕ → Bool
may_run z = list_any (bytes_eq z) (codes "safe" ∷ codes "restricted" ∷ codes "unsafe" ∷ [])
