-- A printed expression reads at its own level, at any looser one, and in parentheses at each place.
use Rattle.std.proofs.Common.{◌≡◌, ◌≤◌, Bool, true, false, if◌then◌else◌, nat_lt, List, [], ◌∷◌, ◌++◌, refl, sym, subst, arith, append_assoc}
use Rattle.std.proofs.lemmas.Bool.Decides.{nat_tests}
use Rattle.away_grammar.specs.declared.grammar.Mark.TheVariants as m
use Rattle.away_grammar.specs.declared.grammar.Level.{Level}
use Rattle.away_grammar.specs.declared.grammar.Level.TheVariants as l
use Rattle.away_trees.specs.declared.queries.Expr.{Expr}
use Rattle.away_grammar.specs.Terminals.{Terminal, mark}
use Rattle.away_grammar.specs.Grammar.{at, rank, Reads, chain, no_link, affirmed, untested, uncompared, unranged, unsigned, uncast, parentheses}
use Rattle.away_grammar.specs.Printing.{Printed, placed, printed}

-- ---- a tighter level reads at a looser place

cast_from : (from : Level) {ts rest : List Terminal} {x : Expr} → rank l.Cast ≤ rank from → Reads (at from) ts x rest → Reads (at l.Cast) ts x rest
cast_from l.Primary h d = uncast d
cast_from l.Cast h d = d
cast_from _ h d = absurd (omega arith)

sign_from : (from : Level) {ts rest : List Terminal} {x : Expr} → rank l.Sign ≤ rank from → Reads (at from) ts x rest → Reads (at l.Sign) ts x rest
sign_from l.Sign h d = d
sign_from from h d = unsigned (cast_from from (omega arith) d)

product_from : (from : Level) {ts rest : List Terminal} {x : Expr} → rank l.Product ≤ rank from → Reads (at from) ts x rest → Reads (at l.Product) ts x rest
product_from l.Product h d = d
product_from from h d = chain tt (sign_from from (omega arith) d) no_link

sum_from : (from : Level) {ts rest : List Terminal} {x : Expr} → rank l.Sum ≤ rank from → Reads (at from) ts x rest → Reads (at l.Sum) ts x rest
sum_from l.Sum h d = d
sum_from from h d = chain tt (product_from from (omega arith) d) no_link

concat_from : (from : Level) {ts rest : List Terminal} {x : Expr} → rank l.Concat ≤ rank from → Reads (at from) ts x rest → Reads (at l.Concat) ts x rest
concat_from l.Concat h d = d
concat_from from h d = chain tt (sum_from from (omega arith) d) no_link

range_from : (from : Level) {ts rest : List Terminal} {x : Expr} → rank l.Range ≤ rank from → Reads (at from) ts x rest → Reads (at l.Range) ts x rest
range_from l.Range h d = d
range_from from h d = unranged (concat_from from (omega arith) d)

compare_from : (from : Level) {ts rest : List Terminal} {x : Expr} → rank l.Compare ≤ rank from → Reads (at from) ts x rest → Reads (at l.Compare) ts x rest
compare_from l.Compare h d = d
compare_from from h d = uncompared (range_from from (omega arith) d)

is_from : (from : Level) {ts rest : List Terminal} {x : Expr} → rank l.Is ≤ rank from → Reads (at from) ts x rest → Reads (at l.Is) ts x rest
is_from l.Is h d = d
is_from from h d = untested (compare_from from (omega arith) d)

not_from : (from : Level) {ts rest : List Terminal} {x : Expr} → rank l.Not ≤ rank from → Reads (at from) ts x rest → Reads (at l.Not) ts x rest
not_from l.Not h d = d
not_from from h d = affirmed (is_from from (omega arith) d)

and_from : (from : Level) {ts rest : List Terminal} {x : Expr} → rank l.And ≤ rank from → Reads (at from) ts x rest → Reads (at l.And) ts x rest
and_from l.And h d = d
and_from from h d = chain tt (not_from from (omega arith) d) no_link

or_from : (from : Level) {ts rest : List Terminal} {x : Expr} → rank l.Or ≤ rank from → Reads (at from) ts x rest → Reads (at l.Or) ts x rest
or_from l.Or h d = d
or_from from h d = chain tt (and_from from (omega arith) d) no_link

primary_from : (from : Level) {ts rest : List Terminal} {x : Expr} → rank l.Primary ≤ rank from → Reads (at from) ts x rest → Reads (at l.Primary) ts x rest
primary_from l.Primary h d = d
primary_from _ h d = absurd (omega arith)

pub loosen : (place from : Level) {ts rest : List Terminal} {x : Expr} → rank place ≤ rank from → Reads (at from) ts x rest → Reads (at place) ts x rest
loosen l.Or from h d = or_from from h d
loosen l.And from h d = and_from from h d
loosen l.Not from h d = not_from from h d
loosen l.Is from h d = is_from from h d
loosen l.Compare from h d = compare_from from h d
loosen l.Range from h d = range_from from h d
loosen l.Concat from h d = concat_from from h d
loosen l.Sum from h d = sum_from from h d
loosen l.Product from h d = product_from from h d
loosen l.Sign from h d = sign_from from h d
loosen l.Cast from h d = cast_from from h d
loosen l.Primary from h d = primary_from from h d

pub least_rank : (level : Level) → rank l.Or ≤ rank level
least_rank l.Or = omega arith
least_rank _ = omega arith

pub greatest_rank : (level : Level) → rank level ≤ rank l.Primary
greatest_rank l.Or = omega arith
greatest_rank _ = omega arith

-- ---- an expression at any place

-- The terminals read as the expression at their level, whatever follows.
abbrev pub Whole : Printed → Expr → Type 0
Whole p x = (after : List Terminal) → Reads (at p.level) (p.terminals ++ after) x after

-- The printed expression does.
abbrev pub Back : Expr → Type 0
Back x = Whole (printed x) x

pub back_by : {p q : Printed} {x : Expr} → q ≡ p → Whole p x → Whole q x
back_by {x = x} e b = subst (λ p. Whole p x) (sym e) b

placed_by : (place : Level) (p : Printed) (x : Expr) (after : List Terminal) (b : Bool) → nat_lt (rank p.level) (rank place) ≡ b → Whole p x
    → Reads (at place) ((if b then mark m.Open ∷ (p.terminals ++ mark m.Close ∷ []) else p.terminals) ++ after) x after
placed_by place p x after false h back = loosen place p.level (let low : rank place ≤ rank p.level = grind (arith, nat_tests) in low) (back after)
placed_by place p x after true h back =
    let inside : Reads (at l.Or) (p.terminals ++ mark m.Close ∷ after) x (mark m.Close ∷ after) = loosen l.Or p.level (least_rank p.level) (back (mark m.Close ∷ after)) in
    loosen place l.Primary (greatest_rank place)
    (subst (λ ts. Reads (at l.Primary) (mark m.Open ∷ ts) x after) (sym (append_assoc p.terminals (mark m.Close ∷ []) after)) (parentheses inside))

pub place : (level : Level) (x : Expr) (after : List Terminal) → Back x → Reads (at level) (placed level (printed x) ++ after) x after
place level x after back = placed_by level (printed x) x after (nat_lt (rank (printed x).level) (rank level)) refl back
