-- What is derived at a tight level is derived at each looser one.
use Rattle.std.proofs.Common.{ℕ, ◌≤◌, arith}
use Rattle.away_grammar.specs.declared.grammar.Level.{Level}
use Rattle.away_grammar.specs.declared.grammar.Level.TheVariants as l
use Rattle.away_trees.specs.declared.queries.Expr.{Expr}
use Rattle.away_grammar.specs.Grammar.{at, rank}
use Rattle.cte_prints.specs.Derivable.{Derivable}
use Rattle.cte_prints.proofs.DeriveNodes.{derive_one, derive_affirmed, derive_untested, derive_uncompared, derive_unranged, derive_unsigned, derive_uncast}

primary_from : {d : ℕ} (from : Level) {x : Expr} → rank l.Primary ≤ rank from → Derivable d (at from) x → Derivable d (at l.Primary) x
primary_from l.Primary h c = c
primary_from _ h c = absurd (omega arith)

cast_from : {d : ℕ} (from : Level) {x : Expr} → rank l.Cast ≤ rank from → Derivable d (at from) x → Derivable d (at l.Cast) x
cast_from l.Cast h c = c
cast_from from h c = derive_uncast (primary_from from (omega arith) c)

sign_from : {d : ℕ} (from : Level) {x : Expr} → rank l.Sign ≤ rank from → Derivable d (at from) x → Derivable d (at l.Sign) x
sign_from l.Sign h c = c
sign_from from h c = derive_unsigned (cast_from from (omega arith) c)

product_from : {d : ℕ} (from : Level) {x : Expr} → rank l.Product ≤ rank from → Derivable d (at from) x → Derivable d (at l.Product) x
product_from l.Product h c = c
product_from from h c = derive_one tt (sign_from from (omega arith) c)

sum_from : {d : ℕ} (from : Level) {x : Expr} → rank l.Sum ≤ rank from → Derivable d (at from) x → Derivable d (at l.Sum) x
sum_from l.Sum h c = c
sum_from from h c = derive_one tt (product_from from (omega arith) c)

concat_from : {d : ℕ} (from : Level) {x : Expr} → rank l.Concat ≤ rank from → Derivable d (at from) x → Derivable d (at l.Concat) x
concat_from l.Concat h c = c
concat_from from h c = derive_one tt (sum_from from (omega arith) c)

range_from : {d : ℕ} (from : Level) {x : Expr} → rank l.Range ≤ rank from → Derivable d (at from) x → Derivable d (at l.Range) x
range_from l.Range h c = c
range_from from h c = derive_unranged (concat_from from (omega arith) c)

compare_from : {d : ℕ} (from : Level) {x : Expr} → rank l.Compare ≤ rank from → Derivable d (at from) x → Derivable d (at l.Compare) x
compare_from l.Compare h c = c
compare_from from h c = derive_uncompared (range_from from (omega arith) c)

is_from : {d : ℕ} (from : Level) {x : Expr} → rank l.Is ≤ rank from → Derivable d (at from) x → Derivable d (at l.Is) x
is_from l.Is h c = c
is_from from h c = derive_untested (compare_from from (omega arith) c)

not_from : {d : ℕ} (from : Level) {x : Expr} → rank l.Not ≤ rank from → Derivable d (at from) x → Derivable d (at l.Not) x
not_from l.Not h c = c
not_from from h c = derive_affirmed (is_from from (omega arith) c)

and_from : {d : ℕ} (from : Level) {x : Expr} → rank l.And ≤ rank from → Derivable d (at from) x → Derivable d (at l.And) x
and_from l.And h c = c
and_from from h c = derive_one tt (not_from from (omega arith) c)

or_from : {d : ℕ} (from : Level) {x : Expr} → rank l.Or ≤ rank from → Derivable d (at from) x → Derivable d (at l.Or) x
or_from l.Or h c = c
or_from from h c = derive_one tt (and_from from (omega arith) c)

pub loosen : {d : ℕ} (place from : Level) {x : Expr} → rank place ≤ rank from → Derivable d (at from) x → Derivable d (at place) x
loosen l.Or from h c = or_from from h c
loosen l.And from h c = and_from from h c
loosen l.Not from h c = not_from from h c
loosen l.Is from h c = is_from from h c
loosen l.Compare from h c = compare_from from h c
loosen l.Range from h c = range_from from h c
loosen l.Concat from h c = concat_from from h c
loosen l.Sum from h c = sum_from from h c
loosen l.Product from h c = product_from from h c
loosen l.Sign from h c = sign_from from h c
loosen l.Cast from h c = cast_from from h c
loosen l.Primary from h c = primary_from from h c

-- at the loosest level
pub at_or : {d : ℕ} (from : Level) {x : Expr} → Derivable d (at from) x → Derivable d (at l.Or) x
at_or l.Or c = c
at_or from c = or_from from (least_rank from) c
  where
    least_rank : (level : Level) → rank l.Or ≤ rank level
    least_rank l.Or = omega arith
    least_rank _ = omega arith
