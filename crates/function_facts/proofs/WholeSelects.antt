-- The select of a SELECT INTO as one expression.
use Rattle.std.proofs.Common.{◌≡◌, ℕ, false, [], ◌∷◌, ◌++◌, None, sym, ap, subst, ◌∙◌}
use Rattle.away_trees.specs.declared.queries.Query.{Query}
use Rattle.away_trees.specs.declared.queries.Select.{Select}
use Rattle.away_trees.specs.declared.queries.Expr.TheViews.{roll-Query}
use Rattle.away_trees.specs.Algebra.{expr_of, select_of}
use Rattle.away_trees.proofs.Equations as eq
use Rattle.sql_meaning.specs.Meaning.{meaning, has_aggregate}
use Rattle.sql_meaning.specs.Reads.{Read, reading}
use Rattle.plsql_meaning.specs.Sight.{query_of}
use Rattle.type_soundness.specs.Sorts.{Every}
use Rattle.type_soundness.proofs.Lists.{every_append}

abbrev only : Select → Query
only s = roll-Query (record { recursive = None; selects = s ∷ [] })

pub whole_reading : (s : Select) (d : ℕ) → expr_of reading (query_of s) d ≡ select_of reading s d ++ []
whole_reading s d = ap (λ r. r d) (eq.of_scalar reading (only s) ∙ eq.of_query reading (s ∷ []))

-- it reads what the select reads
pub whole_reads : (P : Read → Type 0) (s : Select) (d : ℕ) → Every P (select_of reading s d) → Every P (expr_of reading (query_of s) d)
whole_reads P s d h = subst (Every P) (sym (whole_reading s d)) (every_append P (select_of reading s d) [] h tt)

pub whole_single : (s : Select) → has_aggregate (query_of s) ≡ false
whole_single s = ap (λ m. m.aggregates) (eq.of_scalar meaning (only s))
