-- What can't continue a sort.
use Rattle.std.proofs.Common.{◌≡◌, ℕ, ◌≤◌, ◌<◌, List, [], ◌∷◌, Option, Some, None, refl, subst, arith, lit≤, lit<}
use Rattle.away_grammar.specs.declared.grammar.Mark.{Mark}
use Rattle.away_grammar.specs.declared.grammar.Mark.TheVariants as m
use Rattle.away_grammar.specs.declared.grammar.Level.{Level}
use Rattle.away_grammar.specs.declared.grammar.Level.TheVariants as l
use Rattle.away_values.specs.declared.operators.ChainOp.{ChainOp}
use Rattle.away_values.specs.declared.operators.CmpOp.{CmpOp}
use Rattle.away_grammar.specs.Terminals.{Terminal, mark, name, integer, string, parameter, quote}
use Rattle.away_grammar.specs.Grammar as g
use Rattle.away_grammar.specs.Grammar.{Sort, at, links, arms, from_clause, where_clause, order_clause, limit_clause, Tree, Reads, operands, rank, operator_of, comparison_of, mark_binds, binds, StopsAt}
use Rattle.sql_text.specs.Plans.{Begins, first}
use Rattle.sql_text.specs.TerminalKinds.{operator_in, comparison_in, name_in}
use Rattle.sql_text.proofs.Starts.{rank_operands}

pub looser : (r t : ℕ) (ts : List Terminal) → r ≤ t → StopsAt r ts → StopsAt t ts
looser r t [] le h = tt
looser r t (s ∷ ts) le h = let k : binds s < t = omega (arith, le, h) in k

-- ---- what doesn't stand there

pub no_mark : (r : ℕ) (ts : List Terminal) (m : Mark) → r ≤ mark_binds m → StopsAt r ts → ¬ (Begins ts m)
no_mark r [] m le h b = absurd (cc (b.1))
no_mark r (s ∷ ts) m le h b =
    let e : s ≡ mark m = cc (b.1) in
    let k : mark_binds m < r = subst (λ s. binds s < r) e h in
    omega (arith, k, le)

pub no_name : (r : ℕ) (ts : List Terminal) → r ≤ 15 → StopsAt r ts → name_in (first ts) ≡ None
no_name r [] le h = refl
no_name r (name n ∷ ts) le h = absurd (omega (arith, le, h))
no_name r (mark m ∷ ts) le h = refl
no_name r (integer n ∷ ts) le h = refl
no_name r (string t ∷ ts) le h = refl
no_name r (parameter i ∷ ts) le h = refl
no_name r (quote z ∷ ts) le h = refl

-- an operator of a level binds as tight as the level is
operator_or : {o : ChainOp} (terminal : Mark) → operator_of l.Or terminal ≡ Some o → mark_binds terminal ≡ 21
operator_or m.Or e = refl
operator_or _ e = absurd (cc e)

operator_and : {o : ChainOp} (terminal : Mark) → operator_of l.And terminal ≡ Some o → mark_binds terminal ≡ 22
operator_and m.And e = refl
operator_and _ e = absurd (cc e)

operator_bars : {o : ChainOp} (terminal : Mark) → operator_of l.Concat terminal ≡ Some o → mark_binds terminal ≡ 27
operator_bars m.Bars e = refl
operator_bars _ e = absurd (cc e)

operator_sum : {o : ChainOp} (terminal : Mark) → operator_of l.Sum terminal ≡ Some o → mark_binds terminal ≡ 28
operator_sum m.Plus e = refl
operator_sum m.Minus e = refl
operator_sum _ e = absurd (cc e)

operator_product : {o : ChainOp} (terminal : Mark) → operator_of l.Product terminal ≡ Some o → mark_binds terminal ≡ 29
operator_product m.Star e = refl
operator_product m.Slash e = refl
operator_product m.Percent e = refl
operator_product _ e = absurd (cc e)

operator_binds : {o : ChainOp} (level : Level) (terminal : Mark) → operator_of level terminal ≡ Some o → mark_binds terminal ≡ rank level
operator_binds l.Or terminal e = operator_or terminal e
operator_binds l.And terminal e = operator_and terminal e
operator_binds l.Concat terminal e = operator_bars terminal e
operator_binds l.Sum terminal e = operator_sum terminal e
operator_binds l.Product terminal e = operator_product terminal e
operator_binds _ terminal e = absurd (cc e)

-- it can't continue an operand of the level
operator_stops : {o : ChainOp} (level : Level) (terminal : Mark) → operator_of level terminal ≡ Some o → mark_binds terminal < rank (operands level)
operator_stops l.Or terminal e = let k = operator_or terminal e in omega (arith, k)
operator_stops l.And terminal e = let k = operator_and terminal e in omega (arith, k)
operator_stops l.Concat terminal e = let k = operator_bars terminal e in omega (arith, k)
operator_stops l.Sum terminal e = let k = operator_sum terminal e in omega (arith, k)
operator_stops l.Product terminal e = let k = operator_product terminal e in omega (arith, k)
operator_stops _ terminal e = absurd (cc e)

no_operator_of : (level : Level) (terminal : Mark) (found : Option ChainOp) → operator_of level terminal ≡ found → mark_binds terminal < rank level → found ≡ None
no_operator_of level terminal None e h = refl
no_operator_of level terminal (Some o) e h = absurd (let k = operator_binds level terminal e in omega (arith, k, h))

pub no_operator : (level : Level) (ts : List Terminal) → StopsAt (rank level) ts → operator_in level (first ts) ≡ None
no_operator level [] h = refl
no_operator level (mark terminal ∷ ts) h = no_operator_of level terminal (operator_of level terminal) refl h
no_operator level (name n ∷ ts) h = refl
no_operator level (integer n ∷ ts) h = refl
no_operator level (string t ∷ ts) h = refl
no_operator level (parameter i ∷ ts) h = refl
no_operator level (quote z ∷ ts) h = refl

pub comparison_binds : {o : CmpOp} (terminal : Mark) → comparison_of terminal ≡ Some o → mark_binds terminal ≡ 25
comparison_binds m.Equal e = refl
comparison_binds m.Differ e = refl
comparison_binds m.Less e = refl
comparison_binds m.LessEqual e = refl
comparison_binds m.Greater e = refl
comparison_binds m.GreaterEqual e = refl
comparison_binds _ e = absurd (cc e)

no_comparison_of : (terminal : Mark) (found : Option CmpOp) → comparison_of terminal ≡ found → mark_binds terminal < 25 → found ≡ None
no_comparison_of terminal None e h = refl
no_comparison_of terminal (Some o) e h = absurd (let k = comparison_binds terminal e in omega (arith, k, h))

pub no_comparison : (ts : List Terminal) → StopsAt 25 ts → comparison_in (first ts) ≡ None
no_comparison [] h = refl
no_comparison (mark terminal ∷ ts) h = no_comparison_of terminal (comparison_of terminal) refl h
no_comparison (name n ∷ ts) h = refl
no_comparison (integer n ∷ ts) h = refl
no_comparison (string t ∷ ts) h = refl
no_comparison (parameter i ∷ ts) h = refl
no_comparison (quote z ∷ ts) h = refl

-- ---- what may be missing begins as what can't continue the sort before it

abbrev pub Following : Sort → List Terminal → List Terminal → Type 0
Following (links level) ts rest = StopsAt (rank level) rest → StopsAt (rank (operands level)) ts
Following arms ts rest = StopsAt 10 rest → StopsAt 21 ts
Following from_clause ts rest = StopsAt 9 rest → StopsAt 10 ts
Following where_clause ts rest = StopsAt 8 rest → StopsAt 9 ts
Following order_clause ts rest = StopsAt 7 rest → StopsAt 8 ts
Following limit_clause ts rest = StopsAt 6 rest → StopsAt 7 ts
Following _ ts rest = Unit {0}

pub followed : {n : Sort} {ts : List Terminal} {x : Tree n} {rest : List Terminal} → Reads n ts x rest → Following n ts rest
followed (g.no_link {level = level} {ts = ts}) = λ h. looser (rank level) (rank (operands level)) ts (rank_operands level) h
followed (g.link {level = level} terminal e c d) = λ h. operator_stops level terminal e
followed (g.no_arm {ts = ts}) = λ h. looser 10 21 ts (lit≤ tt) h
followed (g.arm c d e) = λ h. lit< tt
followed (g.no_from {ts = ts}) = λ h. looser 9 10 ts (lit≤ tt) h
followed (g.from d) = λ h. lit< tt
followed (g.no_where {ts = ts}) = λ h. looser 8 9 ts (lit≤ tt) h
followed (g.where_of d) = λ h. lit< tt
followed (g.no_order {ts = ts}) = λ h. looser 7 8 ts (lit≤ tt) h
followed (g.order_by d) = λ h. lit< tt
followed (g.no_limit {ts = ts}) = λ h. looser 6 7 ts (lit≤ tt) h
followed (g.limit_of d) = λ h. lit< tt
followed _ = tt
