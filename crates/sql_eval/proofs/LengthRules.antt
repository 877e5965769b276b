-- The least bound at which a query has an answer.
use Rattle.std.proofs.Common.{◌≡◌, refl, ◌∙◌, ap, ℕ, zero, suc, ◌<◌, ◌+◌, ◌-◌, List, [], ◌∷◌, Option, Some, None, Ok, Err, arith}
use Rattle.away_values.specs.declared.values.Class.{Class}
use Rattle.away_values.specs.declared.values.Value.{Value}
use Rattle.away_values.specs.declared.errors.OpError.TheVariants as error
use Rattle.away_trees.specs.declared.queries.Recursive.{Recursive}
use Rattle.away_trees.specs.declared.queries.Expr.TheViews.{out-Recursive}
use Rattle.away_values.specs.Results.{Or}
use Rattle.sql_meaning.specs.Context.{Rows, outermost}
use Rattle.sql_meaning.specs.Equations.{recursive_part}
use Rattle.sql_meaning.specs.Working.{next_rows, with_table}
use Rattle.sql_meaning.specs.Gives.{Gives, joined_of}
use Rattle.sql_meaning.specs.Selected.{select_rows}
use Rattle.sql_meaning.proofs.Nodes as nodes
use Rattle.sql_eval.specs.Lengths.{ended_after, length_within}

-- ---- the loop

unfoldable pub ended_of : Recursive → List Rows → List Value → ℕ → ℕ → Rows → Option ℕ
ended_of r T args left used now = ended_after (next_rows (recursive_part r) T args) left used (Ok now)

pub length_starts : (r : Recursive) (T : List Rows) (args : List Value) (k : ℕ) (now : Rows) → Gives (joined_of (select_rows (outermost T args)) (out-Recursive r).first) (Ok now) → length_within r T args k ≡ ended_of r T args k 0 now
unfolding Gives joined_of select_rows length_within ended_of
length_starts r T args k now h = ap (ended_after (next_rows (recursive_part r) T args) k 0) (nodes.first_rows r (outermost T args) ∙ h)

pub length_fails : (r : Recursive) (T : List Rows) (args : List Value) (k : ℕ) (c : Class) → Gives (joined_of (select_rows (outermost T args)) (out-Recursive r).first) (Err (error.Class c)) → length_within r T args k ≡ Some 0
unfolding Gives joined_of select_rows length_within ended_after
length_fails r T args k c h = ap (ended_after (next_rows (recursive_part r) T args) k 0) (nodes.first_rows r (outermost T args) ∙ h)

pub ended_empty : (r : Recursive) (T : List Rows) (args : List Value) (left used : ℕ) → ended_of r T args left used [] ≡ Some used
unfolding ended_of ended_after
ended_empty r T args left used = refl

pub ended_short : (r : Recursive) (T : List Rows) (args : List Value) (left used : ℕ) (now : Rows) → (now ≡ [] → ⊥) → left ≡ 0 → ended_of r T args left used now ≡ None
unfolding ended_of ended_after
ended_short r T args zero used [] h l = absurd (h refl)
ended_short r T args zero used (row ∷ more) h l = refl
ended_short r T args (suc left) used now h l = absurd (omega (arith, l))

-- the second term over a working table, as it was evaluated
second_is : (r : Recursive) (T : List Rows) (args : List Value) (left used : ℕ) (now : Rows) (m : Or Rows) → (now ≡ [] → ⊥) → select_rows (outermost (with_table T now) args) (out-Recursive r).second ≡ m → ended_of r T args (suc left) used now ≡ ended_after (next_rows (recursive_part r) T args) left (suc used) m
unfolding select_rows ended_of ended_after
second_is r T args left used [] m h g = absurd (h refl)
second_is r T args left used (row ∷ more) m h g = ap (ended_after (next_rows (recursive_part r) T args) left (suc used)) (nodes.second_rows r (outermost (with_table T (row ∷ more)) args) ∙ g)

pub ended_more : (r : Recursive) (T : List Rows) (args : List Value) (bound used : ℕ) (now next : Rows) → (now ≡ [] → ⊥) → used < bound → Gives (select_rows (outermost (with_table T now) args) (out-Recursive r).second) (Ok next) → ended_of r T args (bound - used) used now ≡ ended_of r T args (bound - (used + 1)) (used + 1) next
unfolding Gives ended_of
ended_more r T args bound used now next h l g =
    let left : bound - used ≡ suc (bound - (used + 1)) = omega (arith, l) in
    let further : suc used ≡ used + 1 = omega arith in
    ap (λ n. ended_of r T args n used now) left
    ∙ second_is r T args (bound - (used + 1)) used now (Ok next) h g
    ∙ ap (λ n. ended_after (next_rows (recursive_part r) T args) (bound - (used + 1)) n (Ok next)) further

pub ended_fails : (r : Recursive) (T : List Rows) (args : List Value) (bound used : ℕ) (now : Rows) (c : Class) → (now ≡ [] → ⊥) → used < bound → Gives (select_rows (outermost (with_table T now) args) (out-Recursive r).second) (Err (error.Class c)) → ended_of r T args (bound - used) used now ≡ Some (used + 1)
unfolding Gives ended_of ended_after
ended_fails r T args bound used now c h l g =
    let left : bound - used ≡ suc (bound - (used + 1)) = omega (arith, l) in
    let further : suc used ≡ used + 1 = omega arith in
    ap (λ n. ended_of r T args n used now) left ∙ second_is r T args (bound - (used + 1)) used now (Err c) h g ∙ ap (λ n. Some n) further

pub ruleset step_rules = (length_starts, length_fails, ended_empty, ended_short, ended_more, ended_fails)
