-- What is asked of the parts of a function's query, so that the query can be written.
use Rattle.std.specs.Prelude.{◌≡◌, ℕ, zero, suc, ◌<◌, ◌^◌, true, List, get_or}
use Rattle.away_values.specs.Classes.{is_class}
use Rattle.away_values.specs.declared.types.Ty.{Ty}
use Rattle.away_grammar.specs.declared.grammar.Level.TheVariants as l
use Rattle.away_grammar.specs.Grammar.{at}
use Rattle.away_names.specs.Lookups.{Scope}
use Rattle.away_trees.specs.declared.queries.Col.{Col}
use Rattle.away_trees.specs.declared.queries.Expr.{Expr}
use Rattle.away_trees.specs.declared.queries.Expr.TheVariants as expr
use Rattle.away_trees.specs.declared.schemas.Schema.{Schema}
use Rattle.block_forms.specs.Places.{Each}
use Rattle.call_forms.specs.Bodies.{Body, sets, enters, picks, returns, fails, calls, endless}
use Rattle.qualified_names.specs.Trees.{qualified_expr}
use Rattle.sql_meaning.specs.Placed.{placed_at}
use Rattle.sql_meaning.specs.Reads.{slots_of}
use Rattle.cte_names.specs.Own.{SeesTables, IsOwn}
use Rattle.cte_prints.specs.Derivable.{Derivable}
use Rattle.cte_prints.specs.InSight.{SightIsWritable}

-- Each expression of the table can be derived at a depth, where its slots are columns of the
-- query's own and the names in sight can be written.
abbrev pub TableIsDerivable : ℕ → Schema → List Expr → Type 0
TableIsDerivable d schema table =
    (i : ℕ) (t : Ty) (s : Scope) (ref : ℕ → Col) → SeesTables schema s
    → SightIsWritable s.levels → Each (λ k. IsOwn s.levels (ref k)) (slots_of (get_or table i expr.Null))
    → Derivable d (at l.Or) (qualified_expr (placed_at t ref (get_or table i expr.Null)) s.levels)

-- one test more, where there may be one
abbrev pub TestFits : ℕ → (ℕ → Type 0) → (ℕ → Type 0) → Type 0
TestFits zero first second = ⊥
TestFits (suc n) first second = first n × second n

-- At most so many tests stand one inside another, faults are of a class, and a label's number is a
-- bigint.
abbrev pub BodyFits : Body → ℕ → Type 0
BodyFits (sets name t x) n = BodyFits x n
BodyFits (enters params args x) n = BodyFits x n
BodyFits (picks t x y) n = TestFits n (BodyFits x) (BodyFits y)
BodyFits (returns t) n = Unit {0}
BodyFits (fails c) n = is_class c.code ≡ true
BodyFits (calls label places args) n = suc label < 2 ^ 63
BodyFits endless n = Unit {0}

-- so many tests further in
abbrev pub further_in : ℕ → ℕ → ℕ
further_in d zero = d
further_in d (suc n) = suc (further_in d n)
