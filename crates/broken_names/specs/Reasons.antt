-- Why a rule of names is broken, in words: one line, with the name that breaks it.
use Rattle.std.specs.Prelude.{ℕ, List, [], ◌++◌, codes, decimal}
use Rattle.away_names.specs.declared.rule.Rule.{Rule}
use Rattle.away_names.specs.declared.rule.Rule.TheVariants as rule
use Rattle.refusal_reasons.specs.Reasons.{rule_reason}
use Rattle.broken_names.specs.declared.culprit.Culprit.{Culprit}
use Rattle.broken_names.specs.declared.culprit.Culprit.TheVariants as culprit

abbrev pub parameter : ℕ → List ℕ
parameter number = codes "$" ++ decimal number

-- the culprit, as it is written
abbrev pub written : Culprit → List ℕ
written (culprit.Name n) = n
written (culprit.Column a n) = a ++ (codes "." ++ n)
written (culprit.Function n) = n
written (culprit.Parameter number) = parameter number
written (culprit.Table n) = n

abbrev pub told : List ℕ → Culprit → List ℕ → List ℕ
told before it behind = before ++ (written it ++ behind)

-- of what stands for nothing
abbrev pub unknown : Culprit → List ℕ
unknown (culprit.Name n) = told (codes "nothing is called ") (culprit.Name n) (codes " here")
unknown (culprit.Column a n) =
    told (codes "nothing is called ") (culprit.Column a n) (codes " here")
unknown (culprit.Function n) = told (codes "no function is called ") (culprit.Function n) []
unknown (culprit.Parameter number) =
    told [] (culprit.Parameter number) (codes " stands in no function")
unknown (culprit.Table n) = rule_reason rule.Names

abbrev pub unknown_table : Culprit → List ℕ
unknown_table (culprit.Table n) =
    told (codes "no table of the schema is called ") (culprit.Table n) []
unknown_table it = rule_reason rule.Tables

-- of a CONSTANT that is set
abbrev pub constant : Culprit → List ℕ
constant (culprit.Name n) = told [] (culprit.Name n) (codes " is a CONSTANT, and is set here")
constant it = rule_reason rule.Constants

unfoldable pub culprit_reason : Rule → Culprit → List ℕ
culprit_reason rule.Names it = unknown it
culprit_reason rule.Ambiguity it = told [] it (codes " stands for two things here")
culprit_reason rule.Tables it = unknown_table it
culprit_reason rule.Constants it = constant it
culprit_reason broken it = rule_reason broken
