-- The rules of names, scopes and types by the numbers that are printed, and the lesser of two.
use Rattle.std.specs.Prelude.{◌≡◌, ℕ, if◌then◌else◌, nat_le, Option, Some, None}
use Rattle.away_names.specs.declared.rule.Rule.{Rule}
use Rattle.away_names.specs.declared.rule.Rule.TheVariants.{
  Duplicates,
  Names,
  Ambiguity,
  Tables,
  Labels,
  Constants,
  Defaults,
  Types,
  Reserved,
}
use Rattle.away_names.specs.declared.rule.Rule.TheVariants.{Aggregates, Raises, Recursion, Answer}

unfoldable pub number : Rule → ℕ
number Duplicates = 6
number Names = 7
number Ambiguity = 8
number Tables = 9
number Labels = 10
number Constants = 11
number Defaults = 12
number Types = 13
number Reserved = 14
number Aggregates = 15
number Raises = 16
number Recursion = 17
number Answer = 18

-- no rule is greater than any
unfoldable pub lesser : Option Rule → Option Rule → Option Rule
lesser None b = b
lesser (Some a) None = Some a
lesser (Some a) (Some b) = if nat_le (number a) (number b) then Some a else Some b

-- computed: the number of each
pub record HaveNumbers : Type 0 where
  pub duplicates : number Duplicates ≡ 6
  pub names : number Names ≡ 7
  pub ambiguity : number Ambiguity ≡ 8
  pub tables : number Tables ≡ 9
  pub labels : number Labels ≡ 10
  pub constants : number Constants ≡ 11
  pub defaults : number Defaults ≡ 12
  pub types : number Types ≡ 13
  pub reserved : number Reserved ≡ 14
  pub aggregates : number Aggregates ≡ 15
  pub raises : number Raises ≡ 16
  pub recursion : number Recursion ≡ 17
  pub answer : number Answer ≡ 18
