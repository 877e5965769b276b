-- What stands next, by its kind.
use Rattle.std.specs.Prelude.{ℕ, ◌^◌, Bool, true, false, ◌==◌, List, ◌∷◌, Option, Some, None}
use Rattle.away_grammar.specs.declared.grammar.Mark.TheVariants as m
use Rattle.away_grammar.specs.declared.grammar.Level.{Level}
use Rattle.away_values.specs.declared.types.Ty.{Ty}
use Rattle.away_values.specs.declared.operators.ChainOp.{ChainOp}
use Rattle.away_values.specs.declared.operators.CmpOp.{CmpOp}
use Rattle.away_values.specs.declared.operators.IsTest.{IsTest}
use Rattle.away_grammar.specs.Terminals.{Terminal, mark, name, integer, parameter}
use Rattle.away_grammar.specs.Grammar.{operator_of, comparison_of, test_of, type_named}

abbrev pub operator_in : Level → Option Terminal → Option ChainOp
operator_in level (Some (mark terminal)) = operator_of level terminal
operator_in level _ = None

abbrev pub comparison_in : Option Terminal → Option CmpOp
comparison_in (Some (mark terminal)) = comparison_of terminal
comparison_in _ = None

abbrev pub test_in : Option Terminal → Option IsTest
test_in (Some (mark terminal)) = test_of terminal
test_in _ = None

abbrev pub name_in : Option Terminal → Option (List ℕ)
name_in (Some (name n)) = Some n
name_in _ = None

abbrev pub type_of : Option (List ℕ) → Option Ty
type_of None = None
type_of (Some n) = type_named n

abbrev pub type_in : Option Terminal → Option Ty
type_in s = type_of (name_in s)

abbrev pub parameter_in : Option Terminal → Option ℕ
parameter_in (Some (parameter i)) = Some i
parameter_in _ = None

-- the opposite of the least bigint
abbrev pub is_least : List Terminal → Bool
is_least (integer n ∷ ts) = n == 2 ^ 63
is_least _ = false

abbrev pub is_select : List Terminal → Bool
is_select (mark m.Select ∷ ts) = true
is_select _ = false

abbrev pub is_with : List Terminal → Bool
is_with (mark m.With ∷ ts) = true
is_with _ = false

-- a parameter and AS
abbrev pub is_as : List Terminal → Bool
is_as (mark m.As ∷ ts) = true
is_as _ = false

abbrev pub is_typed_parameter : List Terminal → Bool
is_typed_parameter (parameter i ∷ ts) = is_as ts
is_typed_parameter _ = false
