-- What stands alone, and lists: what the grammar reads, the plans give, step by step.
use Rattle.std.proofs.Common.{◌≡◌, ℕ, ◌≤◌, ◌<◌, true, false, List, [], ◌∷◌, Some, None, refl, ap, arith, lit≤, lit<, pos}
use Rattle.std.specs.Prelude.{◌^◌, nat_lt, codes}
use Rattle.std.proofs.lemmas.Bool.Decides.{nat_tests}
use Rattle.away_grammar.specs.declared.grammar.Mark.{Mark}
use Rattle.away_grammar.specs.declared.grammar.Mark.TheVariants as m
use Rattle.away_grammar.specs.declared.grammar.Level.TheVariants as l
use Rattle.away_values.specs.declared.types.Ty.{Ty}
use Rattle.away_trees.specs.declared.queries.Expr.{Expr}
use Rattle.away_trees.specs.declared.queries.Expr.TheVariants as e
use Rattle.away_trees.specs.declared.queries.Query.{Query}
use Rattle.away_grammar.specs.Terminals.{Terminal, mark, name, integer, string, parameter, quote}
use Rattle.away_grammar.specs.Grammar.{Tree, at, list, arms, query, literal_of, called, type_named}
use Rattle.sql_text.specs.Plans.{Plan, done, Begins, ends, takes, eats, leaves, sees, misses, reads}
use Rattle.sql_text.specs.TerminalKinds.{name_in, type_in, parameter_in, is_select}
use Rattle.sql_text.specs.Descent.{primary_by, arguments_plan}
use Rattle.sql_text.proofs.Starts.{StartsAt, cannot_begin, not_typed, begun, begins}
use Rattle.sql_text.proofs.CompleteStops.{Following, looser, no_mark}
use Rattle.sql_text.proofs.CompleteSteps.{Given, wants, chosen, planned, other_mark}

-- ---- literals, names and parameters

pub given_number : {rest : List Terminal} {n : ℕ} → n < 2 ^ 63 → Given (at l.Primary) (integer n ∷ rest) (e.Int (pos n)) rest
given_number {n = n} h stops = takes (chosen _ (let fits : nat_lt n (2 ^ 63) ≡ true = grind (arith, nat_tests) in fits) ends)

pub given_text : {rest : List Terminal} {t : List ℕ} → Given (at l.Primary) (string t ∷ rest) (e.Str t) rest
given_text stops = takes ends

abbrev alone : Expr → Plan Tree (at l.Primary)
alone x = done x

some_done : {a b : Expr} → Some a ≡ Some b → alone a ≡ alone b
some_done {a = a} {b = b} h = let same : a ≡ b = cc h in ap alone same

literal_plan : {x : Expr} (terminal : Mark) → literal_of terminal ≡ Some x → primary_by (Some (mark terminal)) ≡ done x
literal_plan m.True h = some_done h
literal_plan m.False h = some_done h
literal_plan m.Null h = some_done h
literal_plan _ h = absurd (cc h)

pub given_literal : {rest : List Terminal} {x : Expr} (terminal : Mark) → literal_of terminal ≡ Some x → Given (at l.Primary) (mark terminal ∷ rest) x rest
given_literal terminal e stops = takes (planned (literal_plan terminal e) ends)

pub given_named : {rest : List Terminal} {n : List ℕ} → Given (at l.Primary) (name n ∷ rest) (e.Named n) rest
given_named {rest = rest} stops = takes (leaves (no_mark 32 rest m.Dot (lit≤ tt) stops) (leaves (no_mark 32 rest m.Open (lit≤ tt) stops) ends))

pub given_qualified : {rest : List Terminal} {n c : List ℕ} → Given (at l.Primary) (name n ∷ mark m.Dot ∷ name c ∷ rest) (e.Dotted n c) rest
given_qualified stops = takes (eats (wants name_in _ refl ends))

pub given_typed_parameter : {rest : List Terminal} {i : ℕ} {ty : Ty} (t : List ℕ) → type_named t ≡ Some ty
    → Given (at l.Primary) (mark m.Cast ∷ mark m.Open ∷ parameter i ∷ mark m.As ∷ name t ∷ mark m.Close ∷ rest) (e.Param i ty) rest
given_typed_parameter t e stops = takes (eats (sees refl (wants parameter_in _ refl (eats (wants type_in _ e (eats ends))))))

pub given_short_parameter : {rest : List Terminal} {i : ℕ} {ty : Ty} (t : List ℕ) → type_named t ≡ Some ty → Given (at l.Primary) (parameter i ∷ mark m.Colons ∷ name t ∷ rest) (e.Param i ty) rest
given_short_parameter t e stops = takes (eats (wants type_in _ e ends))

-- ---- parentheses and casts

not_select : (ts : List Terminal) (terminal : Mark) → 21 ≤ begins (mark terminal) → is_select (mark terminal ∷ ts) ≡ false
not_select ts m.Select h = absurd (omega (arith, h))
not_select ts _ h = refl

no_select : {ts : List Terminal} → StartsAt 21 ts → is_select ts ≡ false
no_select (begun {s = mark terminal} {ts = after} h p) = not_select after terminal h
no_select (begun {s = name n} h p) = refl
no_select (begun {s = integer n} h p) = refl
no_select (begun {s = string t} h p) = refl
no_select (begun {s = parameter i} h p) = refl
no_select (begun {s = quote z} h p) = refl

pub given_parentheses : {ts rest : List Terminal} {x : Expr} → StartsAt 21 ts → Given (at l.Or) ts x (mark m.Close ∷ rest) → Given (at l.Primary) (mark m.Open ∷ ts) x rest
given_parentheses b c stops = takes (misses (no_select b) (reads (c (lit< tt)) (eats ends)))

pub given_scalar : {ts rest : List Terminal} {q : Query} → Begins ts m.Select → Given query ts q (mark m.Close ∷ rest) → Given (at l.Primary) (mark m.Open ∷ ts) (e.Scalar q) rest
given_scalar b c stops = takes (sees (ap is_select b.1) (reads (c (lit< tt)) (eats ends)))

pub given_cast : {ts rest : List Terminal} {x : Expr} {ty : Ty} (t : List ℕ) → type_named t ≡ Some ty → StartsAt 21 ts → Given (at l.Or) ts x (mark m.As ∷ name t ∷ mark m.Close ∷ rest)
    → Given (at l.Primary) (mark m.Cast ∷ mark m.Open ∷ ts) (e.Cast x ty) rest
given_cast t e b c stops = takes (eats (misses (not_typed b) (reads (c (lit< tt)) (eats (wants type_in _ e (eats ends))))))

pub given_exists : {ts rest : List Terminal} {q : Query} → Given query ts q (mark m.Close ∷ rest) → Given (at l.Primary) (mark m.Exists ∷ mark m.Open ∷ ts) (e.Exists q) rest
given_exists c stops = takes (eats (reads (c (lit< tt)) (eats ends)))

-- ---- CASE

pub given_cases : {ts rest : List Terminal} {a : Expr × Expr} {more : List (Expr × Expr)} → Given arms ts (a ∷ more) (mark m.End ∷ rest) → Given (at l.Primary) (mark m.Case ∷ ts) (e.Cases (a ∷ more) None) rest
given_cases c stops = takes (reads (c (lit< tt)) (leaves (other_mark (λ same. absurd (cc same))) (eats ends)))

pub given_cases_else : {ts middle rest : List Terminal} {a : Expr × Expr} {more : List (Expr × Expr)} {x : Expr}
    → Given arms ts (a ∷ more) (mark m.Else ∷ middle) → Given (at l.Or) middle x (mark m.End ∷ rest) → Given (at l.Primary) (mark m.Case ∷ ts) (e.Cases (a ∷ more) (Some x)) rest
given_cases_else c d stops = takes (reads (c (lit< tt)) (eats (reads (d (lit< tt)) (eats ends))))

pub given_no_arm : {ts : List Terminal} → Given arms ts [] ts
given_no_arm {ts = ts} stops = leaves (no_mark 10 ts m.When (lit≤ tt) stops) ends

pub given_arm : {ts middle after rest : List Terminal} {test value : Expr} {more : List (Expr × Expr)} → Following arms after rest
    → Given (at l.Or) ts test (mark m.Then ∷ middle) → Given (at l.Or) middle value after → Given arms after more rest → Given arms (mark m.When ∷ ts) ((test, value) ∷ more) rest
given_arm f c d e stops = eats (reads (c (lit< tt)) (eats (reads (d (f stops)) (reads (e stops) ends))))

-- ---- calls and lists

some_called : {a b : List ℕ} → Some a ≡ Some b → arguments_plan a ≡ arguments_plan b
some_called {a = a} {b = b} h = let same : a ≡ b = cc h in ap arguments_plan same

called_plan : {n : List ℕ} (terminal : Mark) → called terminal ≡ Some n → primary_by (Some (mark terminal)) ≡ arguments_plan n
called_plan m.Coalesce h = some_called h
called_plan m.Greatest h = some_called h
called_plan m.Least h = some_called h
called_plan _ h = absurd (cc h)

pub given_call_word : {ts rest : List Terminal} {n : List ℕ} {xs : List Expr} (terminal : Mark) → called terminal ≡ Some n → Given list ts xs (mark m.Close ∷ rest)
    → Given (at l.Primary) (mark terminal ∷ mark m.Open ∷ ts) (e.Call n xs) rest
given_call_word terminal e c stops = takes (planned (called_plan terminal e) (eats (reads (c (lit< tt)) (eats ends))))

pub given_count_rows : {rest : List Terminal} → Given (at l.Primary) (name (codes "count") ∷ mark m.Open ∷ mark m.Star ∷ mark m.Close ∷ rest) e.CountRows rest
given_count_rows stops = takes (leaves (other_mark (λ same. absurd (cc same))) (eats (eats (eats ends))))

pub given_call_empty : {rest : List Terminal} {n : List ℕ} → Given (at l.Primary) (name n ∷ mark m.Open ∷ mark m.Close ∷ rest) (e.Call n []) rest
given_call_empty stops = takes (leaves (other_mark (λ same. absurd (cc same))) (eats (leaves (other_mark (λ same. absurd (cc same))) (eats ends))))

pub given_call : {ts rest : List Terminal} {n : List ℕ} {xs : List Expr} → StartsAt 21 ts → Given list ts xs (mark m.Close ∷ rest) → Given (at l.Primary) (name n ∷ mark m.Open ∷ ts) (e.Call n xs) rest
given_call b c stops =
    takes (leaves (other_mark (λ same. absurd (cc same)))
    (eats (leaves (cannot_begin b (lit< tt)) (leaves (cannot_begin b (lit< tt)) (reads (c (lit< tt)) (eats ends))))))

pub given_last : {ts rest : List Terminal} {x : Expr} → Given (at l.Or) ts x rest → Given list ts (x ∷ []) rest
given_last {rest = rest} c stops = reads (c (looser 10 21 rest (lit≤ tt) stops)) (leaves (no_mark 10 rest m.Comma (lit≤ tt) stops) ends)

pub given_another : {ts middle rest : List Terminal} {x : Expr} {xs : List Expr} → Given (at l.Or) ts x (mark m.Comma ∷ middle) → Given list middle xs rest → Given list ts (x ∷ xs) rest
given_another c d stops = reads (c (lit< tt)) (eats (reads (d stops) ends))
