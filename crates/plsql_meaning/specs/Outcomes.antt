-- How a statement ends, and what it is to go on behind one.
use Rattle.std.specs.Prelude.{
  ℕ,
  Bool,
  true,
  false,
  if◌then◌else◌,
  List,
  Option,
  Some,
  None,
  bytes_eq,
  codes,
}
use Rattle.away_values.specs.declared.values.Value.{Value}
use Rattle.away_values.specs.declared.values.Class.{Class}
use Rattle.away_values.specs.Results.{class}

-- the values of all slots: parameters, then declarations and FOR variables in the order of the text
abbrev pub Env : Type 0
Env = List Value

abbrev pub Label : Type 0
Label = Option (List ℕ)

pub data Outcome : Type 0 where
  normal : Outcome
  exits : Label → Outcome
  continues : Label → Outcome
  returns : Value → Outcome
  faults : Class → Outcome
  more : Outcome

-- the outcome, the variables afterwards, and the turns that are left
pub record Done : Type 0 where
  pub outcome : Outcome
  pub env : Env
  pub left : ℕ

abbrev pub done : Outcome → Env → ℕ → Done
done o env n = record { outcome = o; env = env; left = n }

abbrev pub Step : Type 0
Step = Env → ℕ → Done

-- a step behind an outcome: it runs where the outcome is normal
abbrev pub after : Outcome → Env → ℕ → Step → Done
after normal env n s = s env n
after (exits l) env n s = done (exits l) env n
after (continues l) env n s = done (continues l) env n
after (returns v) env n s = done (returns v) env n
after (faults c) env n s = done (faults c) env n
after more env n s = done more env n

abbrev pub and_then : Done → Step → Done
and_then d s = after d.outcome d.env d.left s

-- whether an EXIT or CONTINUE with the label means the loop that has the label `own`
abbrev pub names_loop : Label → Label → Bool
names_loop None own = true
names_loop (Some l) None = false
names_loop (Some l) (Some own) = bytes_eq l own

-- the same of an EXIT and a block
abbrev pub names_block : Label → Label → Bool
names_block None own = false
names_block (Some l) None = false
names_block (Some l) (Some own) = bytes_eq l own

-- a block ends at an EXIT that names it
abbrev pub closed_as : Label → Outcome → Outcome
closed_as own normal = normal
closed_as own (exits l) = if names_block l own then normal else exits l
closed_as own (continues l) = continues l
closed_as own (returns v) = returns v
closed_as own (faults c) = faults c
closed_as own more = more

abbrev pub close : Label → Done → Done
close own d = done (closed_as own d.outcome) d.env d.left

-- ---- the classes that statements raise (PostgreSQL manual, appendix PostgreSQL Error Codes)

-- null_value_not_allowed
abbrev pub null_not_allowed : Class
null_not_allowed = class (codes "22004")

-- invalid_parameter_value
abbrev pub invalid_parameter : Class
invalid_parameter = class (codes "22023")

-- case_not_found
abbrev pub case_not_found : Class
case_not_found = class (codes "20000")

-- function_executed_no_return_statement
abbrev pub no_return : Class
no_return = class (codes "2F005")

-- raise_exception
abbrev pub raised_message : Class
raised_message = class (codes "P0001")

abbrev pub no_data_found : Class
no_data_found = class (codes "P0002")

abbrev pub too_many_rows : Class
too_many_rows = class (codes "P0003")
