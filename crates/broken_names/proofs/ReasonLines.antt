-- That each reason is one line.
use Rattle.std.proofs.Common.{◌≡◌, ◌==◌, ℕ, ◌+◌, ◌<◌, ◌%◌, ◌^◌, ◌≤◌, Bool, true, false, not, List, [], ◌∷◌, ◌++◌, refl, ap, sym, subst, ◌∙◌, arith, Result, Ok, Err, IfOk}
use Rattle.std.specs.List.{list_all}
use Rattle.std.specs.Prelude.{codes, decimal}
use Rattle.std.proofs.lemmas.Bool.{and_parts}
use Rattle.std.proofs.lemmas.Fmt.{decimal_by_steps}
use Rattle.std.proofs.lemmas.List.Elements.{All-nil, All-cons, All-append}
use Rattle.away_values.specs.Words.{IsName, is_name_byte}
use Rattle.away_names.specs.declared.rule.Rule.{Rule}
use Rattle.away_names.specs.declared.rule.Rule.TheVariants as rule
use Rattle.text_places.specs.Lines.{IsInLine}
use Rattle.refusal_reasons.specs.Reasons.{rule_reason}
use Rattle.broken_names.specs.declared.culprit.Culprit.{Culprit}
use Rattle.broken_names.specs.declared.culprit.Culprit.TheVariants as culprit
use Rattle.broken_names.specs.Reasons.{constant, culprit_reason, parameter, told, unknown, unknown_table, written}

abbrev is_line : List ℕ → Bool
is_line z = list_all (λ b. not (b == 10)) z

no_line_end : (b : ℕ) → not (b == 10) ≡ true → ¬ (b ≡ 10)
no_line_end b h is = absurd (let wrong : false ≡ true = sym (ap (λ n. not (n == 10)) is) ∙ h in cc)

in_line : (z : List ℕ) → is_line z ≡ true → IsInLine z
in_line [] h = All-nil (λ b. ¬ (b ≡ 10))
in_line (b ∷ z) h = let p = and_parts (not (b == 10)) (is_line z) h in All-cons (λ b. ¬ (b ≡ 10)) b z (no_line_end b p.0) (in_line z p.1)

both_lines : (x y : List ℕ) → IsInLine x → IsInLine y → IsInLine (x ++ y)
both_lines x y a b = All-append (λ b. ¬ (b ≡ 10)) x y a b

-- ---- names and numbers

name_byte : (b : ℕ) → is_name_byte b ≡ true → ¬ (b ≡ 10)
name_byte b h is = absurd (let wrong : is_name_byte 10 ≡ true = sym (ap is_name_byte is) ∙ h in cc)

plain_line : (z : List ℕ) → list_all is_name_byte z ≡ true → IsInLine z
plain_line [] h = All-nil (λ b. ¬ (b ≡ 10))
plain_line (b ∷ z) h = let p = and_parts (is_name_byte b) (list_all is_name_byte z) h in All-cons (λ b. ¬ (b ≡ 10)) b z (name_byte b p.0) (plain_line z p.1)

pub name_line : (z : List ℕ) → IsName z → IsInLine z
name_line z n = plain_line z n.plain

pub column_line : (a n : List ℕ) → IsName a → IsName n → IsInLine (a ++ (codes "." ++ n))
column_line a n h k = both_lines a (codes "." ++ n) (name_line a h) (both_lines (codes ".") n (in_line (codes ".") refl) (name_line n k))

one_digit : (n : ℕ) → n < 10 → IsInLine ((48 + n) ∷ [])
one_digit n h = All-cons (λ b. ¬ (b ≡ 10)) (48 + n) [] (λ is. omega (arith, is)) (All-nil (λ b. ¬ (b ≡ 10)))

one_more : (n : ℕ) (ds : List ℕ) → 10 ≤ n → IsInLine ds → IsInLine (ds ++ ((48 + n % 10) ∷ []))
one_more n ds big h =
    both_lines ds ((48 + n % 10) ∷ []) h
    (All-cons (λ b. ¬ (b ≡ 10)) (48 + n % 10) [] (λ is. omega (arith, is)) (All-nil (λ b. ¬ (b ≡ 10))))

number_line : (n : ℕ) → n < 2 ^ 64 → IsInLine (decimal n)
number_line = decimal_by_steps (λ n ds. IsInLine ds) one_digit one_more

pub parameter_line : (n : ℕ) → n < 2 ^ 64 → IsInLine (parameter n)
parameter_line n h = both_lines (codes "$") (decimal n) (in_line (codes "$") refl) (number_line n h)

-- ---- what is told

told_line : (before : List ℕ) (it : Culprit) (behind : List ℕ) → IsInLine before → IsInLine (written it) → IsInLine behind → IsInLine (told before it behind)
told_line before it behind a b c = both_lines before (written it ++ behind) a (both_lines (written it) behind b c)

rule_line : (r : Rule) → IsInLine (rule_reason r)
rule_line rule.Duplicates = in_line (rule_reason rule.Duplicates) refl
rule_line rule.Names = in_line (rule_reason rule.Names) refl
rule_line rule.Ambiguity = in_line (rule_reason rule.Ambiguity) refl
rule_line rule.Tables = in_line (rule_reason rule.Tables) refl
rule_line rule.Labels = in_line (rule_reason rule.Labels) refl
rule_line rule.Constants = in_line (rule_reason rule.Constants) refl
rule_line rule.Defaults = in_line (rule_reason rule.Defaults) refl
rule_line rule.Types = in_line (rule_reason rule.Types) refl
rule_line rule.Reserved = in_line (rule_reason rule.Reserved) refl
rule_line rule.Aggregates = in_line (rule_reason rule.Aggregates) refl
rule_line rule.Raises = in_line (rule_reason rule.Raises) refl
rule_line rule.Recursion = in_line (rule_reason rule.Recursion) refl
rule_line rule.Answer = in_line (rule_reason rule.Answer) refl

unknown_line : (it : Culprit) → IsInLine (written it) → IsInLine (unknown it)
unknown_line (culprit.Name n) h = told_line (codes "nothing is called ") (culprit.Name n) (codes " here") (in_line (codes "nothing is called ") refl) h (in_line (codes " here") refl)
unknown_line (culprit.Column a n) h = told_line (codes "nothing is called ") (culprit.Column a n) (codes " here") (in_line (codes "nothing is called ") refl) h (in_line (codes " here") refl)
unknown_line (culprit.Function n) h = told_line (codes "no function is called ") (culprit.Function n) [] (in_line (codes "no function is called ") refl) h (in_line [] refl)
unknown_line (culprit.Parameter i) h = told_line [] (culprit.Parameter i) (codes " stands in no function") (in_line [] refl) h (in_line (codes " stands in no function") refl)
unknown_line (culprit.Table n) h = rule_line rule.Names

table_line : (it : Culprit) → IsInLine (written it) → IsInLine (unknown_table it)
table_line (culprit.Table n) h = told_line (codes "no table of the schema is called ") (culprit.Table n) [] (in_line (codes "no table of the schema is called ") refl) h (in_line [] refl)
table_line (culprit.Name n) h = rule_line rule.Tables
table_line (culprit.Column a n) h = rule_line rule.Tables
table_line (culprit.Function n) h = rule_line rule.Tables
table_line (culprit.Parameter i) h = rule_line rule.Tables

constant_line : (it : Culprit) → IsInLine (written it) → IsInLine (constant it)
constant_line (culprit.Name n) h = told_line [] (culprit.Name n) (codes " is a CONSTANT, and is set here") (in_line [] refl) h (in_line (codes " is a CONSTANT, and is set here") refl)
constant_line (culprit.Column a n) h = rule_line rule.Constants
constant_line (culprit.Function n) h = rule_line rule.Constants
constant_line (culprit.Parameter i) h = rule_line rule.Constants
constant_line (culprit.Table n) h = rule_line rule.Constants

pub reason_line : (r : Rule) (it : Culprit) → IsInLine (written it) → IsInLine (culprit_reason r it)
unfolding culprit_reason
reason_line rule.Names it h = unknown_line it h
reason_line rule.Ambiguity it h = told_line [] it (codes " stands for two things here") (in_line [] refl) h (in_line (codes " stands for two things here") refl)
reason_line rule.Tables it h = table_line it h
reason_line rule.Constants it h = constant_line it h
reason_line rule.Duplicates it h = rule_line rule.Duplicates
reason_line rule.Labels it h = rule_line rule.Labels
reason_line rule.Defaults it h = rule_line rule.Defaults
reason_line rule.Types it h = rule_line rule.Types
reason_line rule.Reserved it h = rule_line rule.Reserved
reason_line rule.Aggregates it h = rule_line rule.Aggregates
reason_line rule.Raises it h = rule_line rule.Raises
reason_line rule.Recursion it h = rule_line rule.Recursion
reason_line rule.Answer it h = rule_line rule.Answer

pub text_line : {A B : Type 0} (f : A → List ℕ) (r : Result A B) (z : List ℕ) → IfOk r (λ t. f t ≡ z) → IsInLine z → IfOk r (λ t. IsInLine (f t))
text_line f (Ok t) z e h = subst IsInLine (sym e) h
text_line f (Err x) z e h = tt
