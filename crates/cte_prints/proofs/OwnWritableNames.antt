-- The query's own names can be written: they are short, in lower case, and not reserved.
use Rattle.std.proofs.Common.{◌≡◌, refl, ap, ◌∙◌, ℕ, zero, suc, ◌+◌, ◌<◌, ◌≤◌, ◌^◌, ◌&&◌, true, List, [], ◌∷◌, ◌++◌, map, length, codes, decimal, arith}
use Rattle.std.specs.Char.{to_ascii_lowercase}
use Rattle.std.specs.List.{list_all}
use Rattle.std.specs.Char.{digit_value}
use Rattle.std.specs.Str.Parse.{AllDigits}
use Rattle.std.proofs.lemmas.Fmt.{decimal_is_IsNumeral, length-decimal-le}
use Rattle.std.proofs.lemmas.Str.Parse.{digit_from_value}
use Rattle.std.specs.Int.{IsInRange}
use Rattle.std.proofs.lemmas.Bool.Decides.{nat_tests}
use Rattle.away_names.specs.Lookups.{Name}
use Rattle.away_grammar.specs.Reserved.{folded, is_reserved}
use Rattle.away_grammar.specs.Terminals.{name}
use Rattle.away_grammar.specs.Spellings.{goes_on}
use Rattle.qualified_names.proofs.Gives.{Every}
use Rattle.sql_meaning.specs.Template.{count_from}
use Rattle.sql_printer.specs.Writable.{Writable}
use Rattle.cte_parts.specs.Names.{table_name, step_name, only_name, go_name, label_name, result_name, fault_name, alias_name, column_name, value_names}
use Rattle.cte_parts.specs.Names.{row_names}
use Rattle.cte_names.proofs.Differences.{every_both}

abbrev pub NameIsWritable : Name → Type 0
NameIsWritable n = Writable (name n)

-- ---- digits

goes_on_digit : (c : ℕ) → digit_value c < 10 → goes_on c ≡ true
goes_on_digit c h = let r : IsInRange 48 57 c = digit_from_value c h in grind (arith, nat_tests, r)

low_digit : (c : ℕ) → digit_value c < 10 → to_ascii_lowercase c ≡ c
low_digit c h = let r : IsInRange 48 57 c = digit_from_value c h in grind (arith, nat_tests, r)

pub digits_go_on : (ds : List ℕ) → AllDigits 10 ds → list_all goes_on ds ≡ true
digits_go_on [] h = refl
digits_go_on (c ∷ cs) h = ap (λ b. b && list_all goes_on cs) (goes_on_digit c h.0) ∙ digits_go_on cs h.1

pub digits_folded : (ds : List ℕ) → AllDigits 10 ds → folded ds ≡ ds
digits_folded [] h = refl
digits_folded (c ∷ cs) h = λ i. low_digit c h.0 i ∷ digits_folded cs h.1 i

-- ---- numbered names

pub short_digits : (k : ℕ) → k < 2 ^ 64 → length (decimal k) ≤ 20
short_digits k fits = length-decimal-le 20 k (omega arith) (omega (arith, fits)) fits

pub alias_writable : (k : ℕ) → k < 2 ^ 64 → NameIsWritable (alias_name k)
unfolding is_reserved
alias_writable k fits =
    let digits = decimal_is_IsNumeral k fits in (
      record { starts = refl; plain = digits_go_on (decimal k) digits.0.1; short = omega (arith, short_digits k fits) },
      λ i. codes "away_k" ++ digits_folded (decimal k) digits.0.1 i,
      refl,
    )

pub column_derivable : (k : ℕ) → k < 2 ^ 64 → NameIsWritable (column_name k)
unfolding is_reserved
column_derivable k fits =
    let digits = decimal_is_IsNumeral k fits in (
      record { starts = refl; plain = digits_go_on (decimal k) digits.0.1; short = omega (arith, short_digits k fits) },
      λ i. codes "away_c" ++ digits_folded (decimal k) digits.0.1 i,
      refl,
    )

-- ---- fixed names

pub table_derivable : NameIsWritable table_name
unfolding is_reserved
table_derivable = (record { starts = refl; plain = refl; short = omega arith }, refl, refl)

pub step_derivable : NameIsWritable step_name
unfolding is_reserved
step_derivable = (record { starts = refl; plain = refl; short = omega arith }, refl, refl)

pub only_derivable : NameIsWritable only_name
unfolding is_reserved
only_derivable = (record { starts = refl; plain = refl; short = omega arith }, refl, refl)

go_derivable : NameIsWritable go_name
unfolding is_reserved
go_derivable = (record { starts = refl; plain = refl; short = omega arith }, refl, refl)

label_derivable : NameIsWritable label_name
unfolding is_reserved
label_derivable = (record { starts = refl; plain = refl; short = omega arith }, refl, refl)

result_derivable : NameIsWritable result_name
unfolding is_reserved
result_derivable = (record { starts = refl; plain = refl; short = omega arith }, refl, refl)

fault_derivable : NameIsWritable fault_name
unfolding is_reserved
fault_derivable = (record { starts = refl; plain = refl; short = omega arith }, refl, refl)

-- ---- the names of a row

values_derivable : (i n : ℕ) → i + n ≤ 2 ^ 64 → Every NameIsWritable (map column_name (count_from i n))
values_derivable i zero fits = tt
values_derivable i (suc n) fits = (column_derivable i (omega (arith, fits)), values_derivable (suc i) n (omega (arith, fits)))

pub row_derivable : (w : ℕ) → w < 2 ^ 64 → Every NameIsWritable (row_names w)
row_derivable w fits = (
  go_derivable,
  (
    label_derivable,
    every_both NameIsWritable (value_names w) (result_name ∷ fault_name ∷ []) (values_derivable 0 w (omega (arith, fits)))
        (result_derivable, (fault_derivable, tt)),
  ),
)
