-- What the plans of expressions give, the grammar reads.
use Rattle.std.proofs.Common.{◌≡◌, ℕ, ◌<◌, ◌^◌, ◌-◌, pos, negsuc, nat_lt, Bool, true, false, if◌then◌else◌, List, [], ◌∷◌, Option, Some, None, refl, sym, ap, subst, codes, bytes_eq, arith}
use Rattle.std.proofs.lemmas.Bool.{eqb-true}
use Rattle.std.proofs.lemmas.Bool.Decides.{nat_tests}
use Rattle.std.proofs.lemmas.Slice.Eq.{bytes_eq-Decides}
use Rattle.away_grammar.specs.declared.grammar.Mark.{Mark}
use Rattle.away_grammar.specs.declared.grammar.Mark.TheVariants as m
use Rattle.away_grammar.specs.declared.grammar.Level.{Level}
use Rattle.away_grammar.specs.declared.grammar.Level.TheVariants as l
use Rattle.away_trees.specs.declared.queries.Expr.{Expr}
use Rattle.away_trees.specs.declared.queries.Expr.TheVariants as e
use Rattle.away_grammar.specs.Terminals.{Terminal, mark, name, integer, string, parameter, quote}
use Rattle.away_grammar.specs.Grammar.{at, links, list, arms, IsChain, literal_of, called, perhaps, Reads, chain, no_link, link, affirmed, negated, untested, tested, uncompared, compared, unranged, between, one_of, unsigned, signed, least, uncast, cast_once, cast_twice, number, text, literal, named, qualified, typed_parameter, short_parameter, parentheses, scalar, cast, exists, cases, cases_else, call_word, count_rows, call_empty, call, last, another, no_arm, arm}
use Rattle.sql_text.specs.Plans.{done, fail}
use Rattle.sql_text.specs.TerminalKinds.{is_least}
use Rattle.sql_text.specs.Descent.{unranged_plan, chain_plan, links_plan, not_plan, is_plan, compare_plan, within_plan, range_plan, sign_plan, cast_plan, named_plan, inside_plan, cast_call_plan, exists_plan, case_plan, parameter_plan, primary_with, primary_by, primary_plan, list_plan, arms_plan}
use Rattle.sql_text.proofs.Holds.{Holds, Nothing, here, if_holds, name_taken, parameter_taken, type_taken, operator_taken, comparison_taken, test_taken}

pub chain_holds : (level : Level) → IsChain level → Holds Reads (at level) (chain_plan level) Nothing here
chain_holds level is x xs ts k = chain is k.1.2 k.2

pub links_hold : (level : Level) → Holds Reads (links level) (links_plan level) Nothing here
links_hold level = ((tt, operator_taken Reads _ _ level _ (λ m o is x xs ts k. link m is k.1.2 k.2)), λ ts k. no_link)

pub not_holds : Holds Reads (at l.Not) not_plan Nothing here
not_holds = (λ x ts k. negated k.2, λ x ts k. affirmed k.2)

pub is_holds : Holds Reads (at l.Is) is_plan Nothing here
is_holds x = (
  ((tt, test_taken Reads _ _ _ (λ m t is ts k. tested {n = true} m is k.2)), (tt, test_taken Reads _ _ _ (λ m t is ts k. tested {n = false} m is k.2))),
  λ ts k. untested k.2,
)

pub compare_holds : Holds Reads (at l.Compare) compare_plan Nothing here
compare_holds x = ((tt, comparison_taken Reads _ _ _ (λ m o is y ts k. compared m is k.1.1.2 k.2)), λ ts k. uncompared k.2)

-- ---- BETWEEN and IN

-- behind an operand, and NOT where it stands there
abbrev Ranged : Expr → Bool → List Terminal → Type 0
Ranged x n rest = (ts : List Terminal) × Unit {0} × Reads (at l.Concat) ts x (perhaps n (mark m.Not) rest)

abbrev begun_there : (x : Expr) (n : Bool) (rest : List Terminal) → Ranged x n rest → List Terminal
begun_there x n rest k = k.0

unranged_holds : (x : Expr) (n : Bool) → Holds Reads (at l.Range) (unranged_plan x n) (Ranged x n) (begun_there x n)
unranged_holds x true = tt
unranged_holds x false = λ ts k. unranged k.2

within_holds : (x : Expr) (n : Bool) → Holds Reads (at l.Range) (within_plan x n) (Ranged x n) (begun_there x n)
within_holds x n = (
  λ low. (λ high ts k. between {n = n} k.1.1.2 k.1.2 k.2, tt),
  ((λ xs. (λ ts k. one_of {n = n} k.1.2 k.2, tt), tt), unranged_holds x n),
)

pub range_holds : Holds Reads (at l.Range) range_plan Nothing here
range_holds x = (within_holds x true, within_holds x false)

-- ---- terminals and casts

least_taken : (s : Terminal) (ts : List Terminal) → is_least (s ∷ ts) ≡ true → Reads (at l.Sign) (mark m.Minus ∷ s ∷ ts) (e.Int (negsuc (2 ^ 63 - 1))) ts
least_taken (integer n) ts h =
    let same : n ≡ 2 ^ 63 = eqb-true n (2 ^ 63) h in
    subst (λ i. Reads (at l.Sign) (mark m.Minus ∷ integer i ∷ ts) (e.Int (negsuc (2 ^ 63 - 1))) ts) (sym same) least
least_taken _ ts h = absurd (cc h)

none_least : (ts : List Terminal) → ts ≡ [] → is_least ts ≡ true → ⊥
none_least ts e h = let other : is_least ts ≡ false = ap is_least e in cc (h, other)

pub sign_holds : Holds Reads (at l.Sign) sign_plan Nothing here
sign_holds = (((λ ts k. absurd (none_least ts k.0 k.1.0), λ s ts k. least_taken s ts k.0), λ x ts k. signed k.2), λ x ts k. unsigned k.2)

pub cast_holds : Holds Reads (at l.Cast) cast_plan Nothing here
cast_holds x = (
  (tt, type_taken Reads _ _ _ (λ t ty is. ((tt, type_taken Reads _ _ _ (λ u second also ts k. cast_twice t u is also k.2)), λ ts k. cast_once t is k.2))),
  λ ts k. uncast k.2,
)

-- ---- what stands alone

-- behind a terminal
abbrev behind : Terminal → (ts : List Terminal) → Nothing ts → List Terminal
behind s ts k = s ∷ ts

rows_counted : (n : List ℕ) (ts : List Terminal) → bytes_eq n (codes "count") ≡ true → Reads (at l.Primary) (name n ∷ mark m.Open ∷ mark m.Star ∷ mark m.Close ∷ ts) e.CountRows ts
rows_counted n ts h =
    let same : n ≡ codes "count" = (bytes_eq-Decides n (codes "count")).0 h in
    subst (λ z. Reads (at l.Primary) (name z ∷ mark m.Open ∷ mark m.Star ∷ mark m.Close ∷ ts) e.CountRows ts) (sym same) count_rows

named_holds : (n : List ℕ) → Holds Reads (at l.Primary) (named_plan n) Nothing (behind (name n))
named_holds n = (
  (tt, name_taken Reads _ _ _ (λ c ts k. qualified)),
  (
    (
      if_holds Reads _ _ (bytes_eq n (codes "count")) _ _ (λ h. (λ ts k. rows_counted n ts h, tt)) (λ h. tt),
      (λ ts k. call_empty, λ xs. (λ ts k. call k.2, tt)),
    ),
    λ ts k. named,
  ),
)

inside_holds : Holds Reads (at l.Primary) inside_plan Nothing (behind (mark m.Open))
inside_holds = (λ q. (λ ts k. scalar k.2, tt), λ x. (λ ts k. parentheses k.2, tt))

cast_call_holds : Holds Reads (at l.Primary) cast_call_plan Nothing (behind (mark m.Cast))
cast_call_holds = (
  (
    (tt, parameter_taken Reads _ _ _ (λ i. ((tt, type_taken Reads _ _ _ (λ t ty is. (λ ts k. typed_parameter t is, tt))), tt))),
    λ x. ((tt, type_taken Reads _ _ _ (λ t ty is. (λ ts k. cast t is k.2, tt))), tt),
  ),
  tt,
)

exists_holds : Holds Reads (at l.Primary) exists_plan Nothing (behind (mark m.Exists))
exists_holds = (λ q. (λ ts k. exists k.2, tt), tt)

case_holds : Holds Reads (at l.Primary) case_plan Nothing (behind (mark m.Case))
case_holds [] = tt
case_holds (a ∷ more) = (λ x. (λ ts k. cases_else k.1.2 k.2, tt), (λ ts k. cases k.2, tt))

parameter_holds : (i : ℕ) → Holds Reads (at l.Primary) (parameter_plan i) Nothing (behind (parameter i))
parameter_holds i = ((tt, type_taken Reads _ _ _ (λ t ty is ts k. short_parameter t is)), tt)

number_holds : (n : ℕ) → Holds Reads (at l.Primary) (if nat_lt n (2 ^ 63) then done (e.Int (pos n)) else fail) Nothing (behind (integer n))
number_holds n = if_holds Reads _ _ (nat_lt n (2 ^ 63)) _ _ (λ h ts k. number (let below : n < 2 ^ 63 = grind (arith, nat_tests) in below)) (λ h. tt)

word_holds : (terminal : Mark) (literally : Option Expr) (function : Option (List ℕ)) → literal_of terminal ≡ literally → called terminal ≡ function
    → Holds Reads (at l.Primary) (primary_with literally function) Nothing (behind (mark terminal))
word_holds terminal (Some x) function is calls = λ ts k. literal terminal is
word_holds terminal None (Some n) is calls = (λ xs. (λ ts k. call_word terminal calls k.2, tt), tt)
word_holds terminal None None is calls = tt

mark_holds : (terminal : Mark) → Holds Reads (at l.Primary) (primary_by (Some (mark terminal))) Nothing (behind (mark terminal))
mark_holds m.Open = inside_holds
mark_holds m.Cast = cast_call_holds
mark_holds m.Exists = exists_holds
mark_holds m.Case = case_holds
mark_holds terminal = word_holds terminal (literal_of terminal) (called terminal) refl refl

primary_taken : (s : Terminal) → Holds Reads (at l.Primary) (primary_by (Some s)) Nothing (behind s)
primary_taken (mark terminal) = mark_holds terminal
primary_taken (name n) = named_holds n
primary_taken (integer n) = number_holds n
primary_taken (string t) = λ ts k. text
primary_taken (parameter i) = parameter_holds i
primary_taken (quote z) = tt

pub primary_holds : Holds Reads (at l.Primary) primary_plan Nothing here
primary_holds = (tt, primary_taken)

-- ---- lists

pub list_holds : Holds Reads list list_plan Nothing here
list_holds x = (λ xs ts k. another k.1.2 k.2, λ ts k. last k.2)

pub arms_hold : Holds Reads arms arms_plan Nothing here
arms_hold = (λ test. (λ value more ts k. arm k.1.1.2 k.1.2 k.2, tt), λ ts k. no_arm)
