-- A counter's end is no fault.
use Rattle.std.proofs.Common.{◌≡◌, ◌∙◌, ap, arith, ℕ, Bool, true, false, ℤ, pos, negsuc, ◌+ℤ◌, ◌-ℤ◌, ◌<ℤ◌, Some, inl, inr}
use Rattle.std.specs.Prelude.{Ok, Err, codes, if◌then◌else◌, int_lt}
use Rattle.std.proofs.lemmas.Bool.{cases_Bool}
use Rattle.std.proofs.lemmas.Bool.Decides.{nat_tests}
use Rattle.std.proofs.lemmas.Int.{ints}
use Rattle.away_values.specs.declared.operators.CmpOp.TheVariants as cmp
use Rattle.away_values.specs.declared.operators.IntOp.TheVariants as int
use Rattle.away_values.specs.declared.values.Value.{Value}
use Rattle.away_values.specs.declared.values.Value.TheVariants as val
use Rattle.away_values.specs.Operators.{compare, fits, fits_small, int_op, is_true, ranged, small}
use Rattle.away_values.specs.Results.{Or, and_then, class, mapped}
use Rattle.plsql_meaning.specs.Counters.{CountsTo, IsInteger}
use Rattle.plsql_meaning.specs.Loops.{advanced, counts, greatest, least, small_op, stepping}

abbrev top : ℤ
top = pos 2147483647

abbrev bottom : ℤ
bottom = negsuc 2147483647

fits_bigint : (n : ℤ) → IsInteger n → fits n ≡ true
fits_bigint (pos n) h = grind (arith, ints, nat_tests, h.to)
fits_bigint (negsuc n) h = grind (arith, ints, nat_tests, h.from)

fits_integer : (n : ℤ) → IsInteger n → fits_small n ≡ true
fits_integer (pos n) h = grind (arith, ints, nat_tests, h.to)
fits_integer (negsuc n) h = grind (arith, ints, nat_tests, h.from)

in_range : (n : ℤ) → IsInteger n → ranged n ≡ Ok (val.Int n)
in_range n h = ap (λ b. if b then Ok (val.Int n) else Err (class (codes "22003"))) (fits_bigint n h)

in_small_range : (n : ℤ) → IsInteger n → and_then (ranged n) small ≡ Ok (val.Int n)
in_small_range n h =
    ap (λ r. and_then r small) (in_range n h)
    ∙ ap (λ b. if b then Ok (val.Int n) else Err (class (codes "22003"))) (fits_integer n h)

to_end : (by : ℤ) → IsInteger by → pos 0 <ℤ by → small_op int.Sub greatest (val.Int by) ≡ Ok (val.Int (top -ℤ by))
to_end by b p = in_small_range (top -ℤ by) (record { from = omega (arith, ints, b.to, p); to = omega (arith, ints, p) })

from_end : (by : ℤ) → IsInteger by → pos 0 <ℤ by → int_op int.Add least (val.Int by) ≡ Ok (val.Int (bottom +ℤ by))
from_end by b p = in_range (bottom +ℤ by) (record { from = omega (arith, ints, p); to = omega (arith, ints, b.to, p) })

-- the loop ends, or goes on, by the comparison with the end
decided_up : (b : Bool) (c end : ℤ) (r : Or Value) (next : Or Value) → r ≡ Ok (val.Int end) → int_lt end c ≡ b → advanced (mapped (λ d. compare cmp.Lt d (val.Int c)) r) next ≡ stepping b next
decided_up true c end r next e h = ap (λ r. advanced (mapped (λ d. compare cmp.Lt d (val.Int c)) r) next) e ∙ ap (λ x. stepping (is_true (val.Bool x)) next) h
decided_up false c end r next e h = ap (λ r. advanced (mapped (λ d. compare cmp.Lt d (val.Int c)) r) next) e ∙ ap (λ x. stepping (is_true (val.Bool x)) next) h

decided_down : (b : Bool) (c end : ℤ) (r : Or Value) (next : Or Value) → r ≡ Ok (val.Int end) → int_lt c end ≡ b → advanced (mapped (λ d. compare cmp.Gt d (val.Int c)) r) next ≡ stepping b next
decided_down true c end r next e h = ap (λ r. advanced (mapped (λ d. compare cmp.Gt d (val.Int c)) r) next) e ∙ ap (λ x. stepping (is_true (val.Bool x)) next) h
decided_down false c end r next e h = ap (λ r. advanced (mapped (λ d. compare cmp.Gt d (val.Int c)) r) next) e ∙ ap (λ x. stepping (is_true (val.Bool x)) next) h

not_past : (c by : ℤ) → IsInteger (c +ℤ by) → int_lt (top -ℤ by) c ≡ false
not_past c by h = grind (arith, ints, h.to)

not_before : (c by : ℤ) → IsInteger (c -ℤ by) → int_lt c (bottom +ℤ by) ≡ false
not_before c by h = grind (arith, ints, h.from)

within_up : (c by : ℤ) → IsInteger c → pos 0 <ℤ by → int_lt (top -ℤ by) c ≡ false → IsInteger (c +ℤ by)
within_up c by h p e = record { from = omega (arith, ints, h.from, p); to = grind (arith, ints) }

within_down : (c by : ℤ) → IsInteger c → pos 0 <ℤ by → int_lt c (bottom +ℤ by) ≡ false → IsInteger (c -ℤ by)
within_down c by h p e = record { from = grind (arith, ints); to = omega (arith, ints, h.to, p) }

pub counts_up : (last : Value) (var : ℕ) (c by : ℤ) → IsInteger c → IsInteger by → pos 0 <ℤ by → CountsTo (c +ℤ by) ((counts false last (val.Int by) var).next (val.Int c))
counts_up last var c by hc hb p =
    let next = small_op int.Add (val.Int c) (val.Int by) in
    record {
      within = λ h. decided_up false c (top -ℤ by) (small_op int.Sub greatest (val.Int by)) next (to_end by hb p) (not_past c by h) ∙ ap (mapped Some) (in_small_range (c +ℤ by) h);
      beyond = λ h. elim (cases_Bool (int_lt (top -ℤ by) c)) [
        | inl e ↦ decided_up true c (top -ℤ by) (small_op int.Sub greatest (val.Int by)) next (to_end by hb p) e
        | inr e ↦ absurd (h (within_up c by hc p e))
      ];
    }

pub counts_down : (last : Value) (var : ℕ) (c by : ℤ) → IsInteger c → IsInteger by → pos 0 <ℤ by → CountsTo (c -ℤ by) ((counts true last (val.Int by) var).next (val.Int c))
counts_down last var c by hc hb p =
    let next = small_op int.Sub (val.Int c) (val.Int by) in
    record {
      within = λ h. decided_down false c (bottom +ℤ by) (int_op int.Add least (val.Int by)) next (from_end by hb p) (not_before c by h) ∙ ap (mapped Some) (in_small_range (c -ℤ by) h);
      beyond = λ h. elim (cases_Bool (int_lt c (bottom +ℤ by))) [
        | inl e ↦ decided_down true c (bottom +ℤ by) (int_op int.Add least (val.Int by)) next (from_end by hb p) e
        | inr e ↦ absurd (h (within_down c by hc p e))
      ];
    }
