-- The expression of a term, by its entry in the table.
use Rattle.std.proofs.Common.{◌≡◌, refl, ap, sym, ◌∙◌, ℕ, zero, suc, ◌+◌, List, [], ◌∷◌, map, get_or, length, ◌≤◌, false, nat_lt, Option, Some, None, arith}
use Rattle.std.specs.Prelude.{slice_get}
use Rattle.std.proofs.lemmas.Bool.{ltb-false}
use Rattle.std.proofs.lemmas.Option.{get_or_from_slice_get}
use Rattle.away_trees.specs.declared.queries.Col.{Col}
use Rattle.away_trees.specs.declared.queries.Expr.{Expr}
use Rattle.away_trees.specs.declared.queries.Expr.TheVariants as expr
use Rattle.away_values.specs.declared.types.Ty.{Ty}
use Rattle.block_forms.specs.declared.forms.Term.{Term}
use Rattle.call_forms.specs.Scopes.{Scope}
use Rattle.sql_meaning.specs.Placed.{placed_at}
use Rattle.sql_meaning.specs.Reads.{slots_of}
use Rattle.sql_meaning.specs.Trees.{null_of}
use Rattle.cte_parts.specs.Columns.{column_beside}
use Rattle.cte_template.specs.Making.{Making}
use Rattle.cte_template.specs.Places.{nowhere, seen}
use Rattle.cte_template.specs.Written.{column_at, value_at}
use Rattle.cte_template.specs.declared.places.ItemColumn.{ItemColumn}

-- by the term's entry
abbrev value_of : ℕ → Scope ItemColumn → Ty → Term → Expr → Expr
value_of depth places t u e = placed_at t (column_beside (slots_of e) (map (column_at (suc depth) places) u.names) (seen (suc depth) nowhere)) e

missed_by : (table : List Expr) (k : ℕ) → length table ≤ k → get_or table k expr.Null ≡ expr.Null
missed_by [] k h = refl
missed_by (e ∷ table) zero h = absurd (omega (arith, h))
missed_by (e ∷ table) (suc k) h = missed_by table k (omega (arith, h))

pub value_missing : (m : Making) (depth : ℕ) (places : Scope ItemColumn) (t : Ty) (u : Term) → false ≡ nat_lt u.expr (length m.table) → null_of t ≡ value_at m depth places t u
value_missing m depth places t u h = ap (value_of depth places t u) (sym (missed_by m.table u.expr (ltb-false u.expr (length m.table) (sym h))))

pub value_some : (m : Making) (depth inside : ℕ) (places : Scope ItemColumn) (t : Ty) (u : Term) (e : Expr) (columns : List Col) (other : Col)
    → slice_get m.table u.expr ≡ Some e → inside ≡ depth + 1 → columns ≡ map (column_at inside places) u.names → other ≡ seen inside nowhere
    → placed_at t (column_beside (slots_of e) columns other) e ≡ value_at m depth places t u
value_some m depth inside places t u e columns other there deep are is =
    let next : inside ≡ suc depth = omega (arith, deep) in
    (λ i. placed_at t (column_beside (slots_of e) (are i) (is i)) e)
    ∙ ((λ i. placed_at t (column_beside (slots_of e) (map (column_at (next i) places) u.names) (seen (next i) nowhere)) e)
    ∙ ap (value_of depth places t u) (sym (get_or_from_slice_get m.table u.expr e expr.Null there)))
