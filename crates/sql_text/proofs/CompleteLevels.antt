-- The levels of expressions: what the grammar reads, the plans give, step by step.
use Rattle.std.proofs.Common.{◌≡◌, ℕ, ◌≤◌, ◌<◌, Bool, true, false, List, [], ◌∷◌, Some, None, refl, ap, arith, lit≤, lit<, negsuc}
use Rattle.std.specs.Prelude.{◌^◌, ◌-◌, ◌==◌, nat_lt, if◌then◌else◌}
use Rattle.std.proofs.lemmas.Bool.Decides.{nat_tests}
use Rattle.away_grammar.specs.declared.grammar.Mark.{Mark}
use Rattle.away_grammar.specs.declared.grammar.Mark.TheVariants as m
use Rattle.away_grammar.specs.declared.grammar.Level.{Level}
use Rattle.away_grammar.specs.declared.grammar.Level.TheVariants as l
use Rattle.away_values.specs.declared.types.Ty.{Ty}
use Rattle.away_values.specs.declared.operators.ChainOp.{ChainOp}
use Rattle.away_values.specs.declared.operators.CmpOp.{CmpOp}
use Rattle.away_values.specs.declared.operators.IsTest.{IsTest}
use Rattle.away_trees.specs.declared.queries.Expr.{Expr}
use Rattle.away_trees.specs.declared.queries.Expr.TheVariants as e
use Rattle.away_grammar.specs.Terminals.{Terminal, mark, name, integer, string, parameter, quote}
use Rattle.away_grammar.specs.Grammar.{at, links, list, Tree, operands, operator_of, comparison_of, test_of, type_named, mark_binds, IsChain, chained, perhaps}
use Rattle.sql_text.specs.Plans.{Begins, Runs, ends, takes, eats, leaves, sees, misses, reads}
use Rattle.sql_text.specs.TerminalKinds.{operator_in, comparison_in, test_in, type_in, is_least}
use Rattle.sql_text.specs.Descent.{plan, chain_plan, within_plan, test_plan}
use Rattle.sql_text.proofs.Starts.{StartsAt, cannot_begin, begun}
use Rattle.sql_text.proofs.CompleteStops.{Following, looser, no_mark, no_operator, no_comparison, comparison_binds}
use Rattle.sql_text.proofs.CompleteSteps.{Given, wants, finds, overlooks, other_mark}

-- ---- chains

chained_run : {level : Level} {ts middle rest : List Terminal} {x : Expr} {more : List (ChainOp × Expr)}
    → Runs Tree plan (at (operands level)) (plan (at (operands level))) ts (Some (x, middle)) → Runs Tree plan (links level) (plan (links level)) middle (Some (more, rest))
    → Runs Tree plan (at level) (chain_plan level) ts (Some (chained x more, rest))
chained_run c d = reads c (reads d ends)

chain_run : (level : Level) {ts middle rest : List Terminal} {x : Expr} {more : List (ChainOp × Expr)} → IsChain level
    → Runs Tree plan (at (operands level)) (plan (at (operands level))) ts (Some (x, middle)) → Runs Tree plan (links level) (plan (links level)) middle (Some (more, rest))
    → Runs Tree plan (at level) (plan (at level)) ts (Some (chained x more, rest))
chain_run l.Or h c d = chained_run c d
chain_run l.And h c d = chained_run c d
chain_run l.Concat h c d = chained_run c d
chain_run l.Sum h c d = chained_run c d
chain_run l.Product h c d = chained_run c d
chain_run _ h c d = absurd h

pub given_chain : {level : Level} {ts middle rest : List Terminal} {x : Expr} {more : List (ChainOp × Expr)} → IsChain level → Following (links level) middle rest
    → Given (at (operands level)) ts x middle → Given (links level) middle more rest → Given (at level) ts (chained x more) rest
given_chain {level = level} h f c d stops = chain_run level h (c (f stops)) (d stops)

pub given_no_link : {level : Level} {ts : List Terminal} → Given (links level) ts [] ts
given_no_link {level = level} {ts = ts} stops = overlooks (operator_in level) _ (no_operator level ts stops) ends

pub given_link : {level : Level} {ts middle rest : List Terminal} {o : ChainOp} {x : Expr} {more : List (ChainOp × Expr)} (terminal : Mark)
    → operator_of level terminal ≡ Some o → Following (links level) middle rest → Given (at (operands level)) ts x middle → Given (links level) middle more rest
    → Given (links level) (mark terminal ∷ ts) ((o, x) ∷ more) rest
given_link {level = level} terminal e f c d stops = finds (operator_in level) _ e (reads (c (f stops)) (reads (d stops) ends))

-- ---- NOT, IS and comparisons

pub given_affirmed : {ts rest : List Terminal} {x : Expr} → StartsAt 24 ts → Given (at l.Is) ts x rest → Given (at l.Not) ts x rest
given_affirmed {rest = rest} b c stops = leaves (cannot_begin b (lit< tt)) (reads (c (looser 23 24 rest (lit≤ tt) stops)) ends)

pub given_negated : {ts rest : List Terminal} {x : Expr} → Given (at l.Is) ts x rest → Given (at l.Not) (mark m.Not ∷ ts) (e.Not x) rest
given_negated {rest = rest} c stops = eats (reads (c (looser 23 24 rest (lit≤ tt) stops)) ends)

pub given_untested : {ts rest : List Terminal} {x : Expr} → Given (at l.Compare) ts x rest → Given (at l.Is) ts x rest
given_untested {rest = rest} c stops = reads (c (looser 24 25 rest (lit≤ tt) stops)) (leaves (no_mark 24 rest m.Is (lit≤ tt) stops) ends)

not_test : {test : IsTest} {ts : List Terminal} (terminal : Mark) → test_of terminal ≡ Some test → ¬ (Begins (mark terminal ∷ ts) m.Not)
not_test terminal e b = let same : terminal ≡ m.Not = cc (b.1) in let none : test_of terminal ≡ None = ap test_of same in absurd (cc (e, none))

test_run : {rest : List Terminal} {test : IsTest} (x : Expr) (n : Bool) (terminal : Mark) → test_of terminal ≡ Some test
    → Runs Tree plan (at l.Is) (test_plan x n) (mark terminal ∷ rest) (Some (e.Is x test n, rest))
test_run x n terminal e = wants test_in _ e ends

pub given_tested : {ts rest : List Terminal} {x : Expr} {test : IsTest} (n : Bool) (terminal : Mark) → test_of terminal ≡ Some test
    → Given (at l.Compare) ts x (mark m.Is ∷ perhaps n (mark m.Not) (mark terminal ∷ rest)) → Given (at l.Is) ts (e.Is x test n) rest
given_tested true terminal e c stops = reads (c (lit< tt)) (eats (eats (test_run _ true terminal e)))
given_tested false terminal e c stops = reads (c (lit< tt)) (eats (leaves (not_test terminal e) (test_run _ false terminal e)))

pub given_uncompared : {ts rest : List Terminal} {x : Expr} → Given (at l.Range) ts x rest → Given (at l.Compare) ts x rest
given_uncompared {rest = rest} c stops = reads (c (looser 25 26 rest (lit≤ tt) stops)) (overlooks comparison_in _ (no_comparison rest stops) ends)

comparison_stops : {o : CmpOp} (terminal : Mark) → comparison_of terminal ≡ Some o → mark_binds terminal < 26
comparison_stops terminal e = let k = comparison_binds terminal e in omega (arith, k)

pub given_compared : {ts after rest : List Terminal} {x y : Expr} {o : CmpOp} (terminal : Mark) → comparison_of terminal ≡ Some o
    → Given (at l.Range) ts x (mark terminal ∷ after) → Given (at l.Range) after y rest → Given (at l.Compare) ts (e.Compare o x y) rest
given_compared {rest = rest} terminal e c d stops = reads (c (comparison_stops terminal e)) (finds comparison_in _ e (reads (d (looser 25 26 rest (lit≤ tt) stops)) ends))

-- ---- BETWEEN and IN

pub given_unranged : {ts rest : List Terminal} {x : Expr} → Given (at l.Concat) ts x rest → Given (at l.Range) ts x rest
given_unranged {rest = rest} c stops =
    reads (c (looser 26 27 rest (lit≤ tt) stops))
    (leaves (no_mark 26 rest m.Not (lit≤ tt) stops) (leaves (no_mark 26 rest m.Between (lit≤ tt) stops) (leaves (no_mark 26 rest m.In (lit≤ tt) stops) ends)))

-- NOT before BETWEEN or IN, where it is written
negation_run : {ts after rest : List Terminal} {x y : Expr} {word : Mark} (n : Bool) → ¬ (word ≡ m.Not) → mark_binds word ≡ 26 → Given (at l.Concat) ts x (perhaps n (mark m.Not) (mark word ∷ after))
    → Runs Tree plan (at l.Range) (within_plan x n) (mark word ∷ after) (Some (y, rest)) → Runs Tree plan (at l.Range) (plan (at l.Range)) ts (Some (y, rest))
negation_run true h e c d = reads (c (lit< tt)) (eats d)
negation_run false h e c d = reads (c (omega (arith, e))) (leaves (other_mark h) d)

pub given_between : {ts after middle rest : List Terminal} {x low high : Expr} {n : Bool}
    → Given (at l.Concat) ts x (perhaps n (mark m.Not) (mark m.Between ∷ after)) → Given (at l.Concat) after low (mark m.And ∷ middle) → Given (at l.Concat) middle high rest
    → Given (at l.Range) ts (e.Between n x low high) rest
given_between {rest = rest} {n = n} c d f stops =
    negation_run n (λ same. absurd (cc same)) refl c (eats (reads (d (lit< tt)) (eats (reads (f (looser 26 27 rest (lit≤ tt) stops)) ends))))

pub given_one_of : {ts after rest : List Terminal} {x : Expr} {xs : List Expr} {n : Bool}
    → Given (at l.Concat) ts x (perhaps n (mark m.Not) (mark m.In ∷ mark m.Open ∷ after)) → Given list after xs (mark m.Close ∷ rest) → Given (at l.Range) ts (e.OneOf n x xs) rest
given_one_of {n = n} c d stops =
    negation_run n (λ same. absurd (cc same)) refl c (leaves (other_mark (λ same. absurd (cc same))) (eats (eats (reads (d (lit< tt)) (eats ends)))))

-- ---- minus and casts

pub given_unsigned : {ts rest : List Terminal} {x : Expr} → StartsAt 31 ts → Given (at l.Cast) ts x rest → Given (at l.Sign) ts x rest
given_unsigned {rest = rest} b c stops = leaves (cannot_begin b (lit< tt)) (reads (c (looser 30 31 rest (lit≤ tt) stops)) ends)

small_number : (n : ℕ) (small : Bool) → nat_lt n (2 ^ 63) ≡ small → 31 ≤ (if small then 32 else 0) → (n == 2 ^ 63) ≡ false
small_number n true e h = grind (arith, nat_tests)
small_number n false e h = absurd (omega (arith, h))

-- the opposite of the least bigint begins no cast
not_least : {ts : List Terminal} → StartsAt 31 ts → is_least ts ≡ false
not_least (begun {s = mark m} h p) = refl
not_least (begun {s = name n} h p) = refl
not_least (begun {s = integer n} h p) = small_number n (nat_lt n (2 ^ 63)) refl h
not_least (begun {s = string t} h p) = refl
not_least (begun {s = parameter i} h p) = refl
not_least (begun {s = quote z} h p) = refl

pub given_signed : {ts rest : List Terminal} {x : Expr} → StartsAt 31 ts → Given (at l.Cast) ts x rest → Given (at l.Sign) (mark m.Minus ∷ ts) (e.Neg x) rest
given_signed {rest = rest} b c stops = eats (misses (not_least b) (reads (c (looser 30 31 rest (lit≤ tt) stops)) ends))

pub given_least : {rest : List Terminal} → Given (at l.Sign) (mark m.Minus ∷ integer (2 ^ 63) ∷ rest) (e.Int (negsuc (2 ^ 63 - 1))) rest
given_least stops = eats (sees refl (takes ends))

pub given_uncast : {ts rest : List Terminal} {x : Expr} → Given (at l.Primary) ts x rest → Given (at l.Cast) ts x rest
given_uncast {rest = rest} c stops = reads (c (looser 31 32 rest (lit≤ tt) stops)) (leaves (no_mark 31 rest m.Colons (lit≤ tt) stops) ends)

pub given_cast_once : {ts rest : List Terminal} {x : Expr} {ty : Ty} (t : List ℕ) → type_named t ≡ Some ty → Given (at l.Primary) ts x (mark m.Colons ∷ name t ∷ rest) → Given (at l.Cast) ts (e.Cast x ty) rest
given_cast_once {rest = rest} t e c stops = reads (c (lit< tt)) (eats (wants type_in _ e (leaves (no_mark 31 rest m.Colons (lit≤ tt) stops) ends)))

pub given_cast_twice : {ts rest : List Terminal} {x : Expr} {first second : Ty} (t u : List ℕ) → type_named t ≡ Some first → type_named u ≡ Some second
    → Given (at l.Primary) ts x (mark m.Colons ∷ name t ∷ mark m.Colons ∷ name u ∷ rest) → Given (at l.Cast) ts (e.Cast (e.Cast x first) second) rest
given_cast_twice t u e f c stops = reads (c (lit< tt)) (eats (wants type_in _ e (eats (wants type_in _ f ends))))
