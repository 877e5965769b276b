use Rattle.std.proofs.Common.{◌≡◌, refl, suc, sym, ◌∙◌, ap, ℕ, ◌≤◌, ◌+◌, List, [], ◌∷◌, ◌++◌, map, length, Option, Some, None, arith, length-append, slice_index_or}
use Rattle.std.specs.Borrow.{Bor}
use Rattle.std.proofs.lemmas.List.{get_or_past}
use Rattle.away_values.specs.declared.values.Table.{Table}
use Rattle.sql_meaning.specs.Context.{Rows}
use Rattle.sql_eval.specs.Scopes.{tables_of}
use Rattle.sql_eval.proofs.scope.Outside.no_table.Goals as goal

counted : (tables : List Table) → length (map (λ (t : Table). t.rows) tables) ≡ length tables
counted [] = refl
counted (t ∷ ts) = ap (λ n. suc n) (counted ts)

past_end : (tables : List Table) (working : Option (Bor Rows)) (n : ℕ) → length tables + 1 ≤ n → slice_index_or (tables_of tables working) n [] ≡ []
past_end tables None n h = get_or_past (map (λ (t : Table). t.rows) tables) n [] (omega (arith, counted tables, h))
past_end tables (Some w) n h = get_or_past (map (λ (t : Table). t.rows) tables ++ w.now ∷ []) n [] (omega (arith, counted tables, length-append (map (λ (t : Table). t.rows) tables) (w.now ∷ [])))

pub returns-clause-past : goal.returns-clause-past
returns-clause-past c = λ n h. ap (λ s. slice_index_or s.tables n []) (sym c.self.view_is) ∙ past_end c.self.inside.tables.now c.self.inside.working n (omega arith)
