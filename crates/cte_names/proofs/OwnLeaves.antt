-- A column of the query's own that stands for a slot is clear under any selects of the function.
use Rattle.std.proofs.Common.{◌≡◌, ap, sym, subst, ◌∙◌, ℕ, Bool, true, ◌++◌, length, None}
use Rattle.away_trees.specs.declared.queries.Col.{Col}
use Rattle.away_names.specs.Lookups.{Scope}
use Rattle.sql_meaning.specs.Placed.{column_of, further}
use Rattle.qualified_names.specs.Sight.{own_name}
use Rattle.qualified_names.specs.Unambiguous as c
use Rattle.qualified_names.proofs.QualifyingRules as d
use Rattle.cte_names.specs.Own.{IsOwn}
use Rattle.cte_names.proofs.Refined.{NameSo}
use Rattle.cte_names.proofs.Further.{found_further, called_further}
use Rattle.cte_names.proofs.Standing.{Leaves}

pub own_leaves : (q : Scope) (slots : ℕ → Bool) (ref : ℕ → Col) → ((i : ℕ) → slots i ≡ true → IsOwn q.levels (ref i)) → Leaves q slots (column_of ref)
own_leaves q slots ref own ls ms r i h =
    let o = own i h in
    let k : Col = further (length ms) (ref i) in
    let is = called_further ms q.levels (ref i) o.alias o.name o.is_reference in
    record {
      clear = c.column k o.alias o.name is (found_further o.alias o.name o.kept ls ms q.levels r (ref i) o.is_found);
      named = subst (NameSo None) (sym (ap own_name (d.column_is k (ms ++ q.levels) ∙ is))) o.named;
    }
