-- The values of a row, one after the other.
use Rattle.std.proofs.Common.{◌≡◌, refl, sym, ◌<◌, length, slice_index_or, Option, Ok, ℕ, zero, suc, ◌+◌, List, [], ◌∷◌, drop, ap, ◌∙◌, arith}
use Rattle.away_values.specs.declared.values.Value.{Value}
use Rattle.plsql_meaning.specs.Outcomes.{Env, done, normal, and_then}
use Rattle.plsql_meaning.specs.Statements.{Setting, rest_of, head_or_null, assign, put_all}
use Rattle.plsql_run.proofs.Arms.{drop_at}

by_one : (i : ℕ) (row : List Value) → rest_of (drop i row) ≡ drop (suc i) row
by_one zero [] = refl
by_one zero (v ∷ vs) = refl
by_one (suc i) [] = refl
by_one (suc i) (v ∷ vs) = by_one i vs

suc_is : (i : ℕ) → suc i ≡ i + 1
suc_is i = omega arith

pub rest_of_drop : (i : ℕ) (row : List Value) → rest_of (drop i row) ≡ drop (i + 1) row
rest_of_drop i row = by_one i row ∙ ap (λ k. drop k row) (suc_is i)

pub target_put : (set : Setting) (targets : List (List ℕ × Option ℕ)) (row : List Value) (i : ℕ) (t : List ℕ × Option ℕ) → t ≡ slice_index_or targets i t → i < length targets →
    (old new : Env) (v : Value) → v ≡ head_or_null (drop i row) → ((n : ℕ) → assign set t.1 (Ok v) old n ≡ done normal new n) → (n : ℕ) →
    put_all set (drop (i + 1) targets) (drop (i + 1) row) new n ≡ put_all set (drop i targets) (drop i row) old n
target_put set targets row i t is lt old new v e h n = sym (
    ap (λ ts. put_all set ts (drop i row) old n) (drop_at targets i t is lt)
    ∙ ap (λ w. and_then (assign set t.1 (Ok w) old n) (put_all set (drop (i + 1) targets) (rest_of (drop i row)))) (sym e)
    ∙ ap (λ d. and_then d (put_all set (drop (i + 1) targets) (rest_of (drop i row)))) (h n)
    ∙ ap (λ r. put_all set (drop (i + 1) targets) r new n) (rest_of_drop i row))
