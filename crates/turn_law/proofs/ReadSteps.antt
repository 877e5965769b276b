-- A cell behind the reading of columns is the cell.
use Rattle.std.proofs.Common.{◌≡◌, refl, ap, ◌∙◌, ℕ, Bool, true, false, ◌||◌, List, [], ◌∷◌, Ok}
use Rattle.away_trees.specs.declared.queries.Expr.{Expr}
use Rattle.away_trees.specs.declared.queries.Expr.TheVariants as expr
use Rattle.away_trees.proofs.Equations as eq
use Rattle.away_values.specs.declared.operators.IsTest.TheVariants as test
use Rattle.away_values.specs.declared.values.Value.{Value}
use Rattle.away_values.specs.declared.values.Value.TheVariants as val
use Rattle.away_values.specs.Operators.{negation_if, passes}
use Rattle.away_values.specs.Results.{Or, and_then, mapped}
use Rattle.sql_meaning.specs.Context.{Rows, Context, column, inside}
use Rattle.sql_meaning.specs.Expressions.{values, any_aggregates}
use Rattle.sql_meaning.specs.Meaning.{meaning, value, has_aggregate}
use Rattle.sql_meaning.specs.Trees.{col}
use Rattle.sql_meaning.proofs.SelectRows.{is_col}
use Rattle.turn_template.specs.TurnTemplate.{is_there, behind_reads, reads_first}
use Rattle.turn_law.proofs.Levels.{all, AtAll, or_first, or_second}
use Rattle.turn_law.proofs.Settled.{case_is, case_single}

is_null_is : (e : Expr) (negative : Bool) (cx : Context) (v : Value) → value e cx ≡ Ok v
    → value (expr.Is e test.Null negative) cx ≡ Ok (negation_if negative (val.Bool (passes test.Null v)))
is_null_is e negative cx v h =
    ap (λ x. x.value cx) (eq.of_is meaning e test.Null negative) ∙ ap (mapped (λ w. negation_if negative (val.Bool (passes test.Null w)))) h

is_null_single : (e : Expr) (negative : Bool) → has_aggregate e ≡ false → has_aggregate (expr.Is e test.Null negative) ≡ false
is_null_single e negative h = ap (λ x. x.aggregates) (eq.of_is meaning e test.Null negative) ∙ h

-- what a column has
abbrev held : Context → ℕ → Value
held cx j = column cx.frames (record { level = 0; item = 0; column = j })

there_is : (j : ℕ) (cx : Context) → value (is_there j) cx ≡ Ok (val.Bool true)
there_is j cx =
    is_null_is (expr.Is (col 0 0 j) test.Null false) true cx (val.Bool (passes test.Null (held cx j)))
    (is_null_is (col 0 0 j) false cx (held cx j) (is_col cx 0 0 j).gives)

any_context : Context
any_context = record { env = []; args = []; frames = []; tables = []; group = [] }

there_single : (j : ℕ) → has_aggregate (is_there j) ≡ false
there_single j = is_null_single (expr.Is (col 0 0 j) test.Null false) true (is_null_single (col 0 0 j) false (is_col any_context 0 0 j).single)

reads_is : (js : List ℕ) (e : Expr) (cx : Context) → value (behind_reads js e) cx ≡ value e cx
reads_is [] e cx = refl
reads_is (j ∷ js) e cx = case_is (is_there j) (behind_reads js e) cx (val.Bool true) (there_is j cx) ∙ reads_is js e cx

reads_single : (js : List ℕ) (e : Expr) → has_aggregate e ≡ false → has_aggregate (behind_reads js e) ≡ false
reads_single [] e h = h
reads_single (j ∷ js) e h = case_single (is_there j) (behind_reads js e) (there_single j) (reads_single js e h)

pub first_gives : (T : List Rows) (js : List ℕ) (es : List Expr) (y : List Value) (o : Or (List Value)) → AtAll T es y o → AtAll T (reads_first js es) y o
first_gives T js [] y o h = h
first_gives T js (e ∷ es) y o h = λ cx t.
    (λ i. and_then (reads_is js e (inside (y ∷ []) cx) i) (λ v. mapped (λ ys. v ∷ ys) (values (inside (y ∷ []) cx) (all es)))) ∙ h cx t

pub first_single : (js : List ℕ) (es : List Expr) → any_aggregates (all es) ≡ false → any_aggregates (all (reads_first js es)) ≡ false
first_single js [] h = h
first_single js (e ∷ es) h =
    let first = reads_single js e (or_first (has_aggregate e) (any_aggregates (all es)) h) in
    let rest = or_second (has_aggregate e) (any_aggregates (all es)) h in
    λ i. first i || rest i
