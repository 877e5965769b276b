-- The compiler theorem for one RETURN.
use Rattle.std.proofs.Common.{◌≡◌, ◌≢◌, refl, ap, sym, ◌∙◌, subst, ℕ, zero, suc, ◌+◌, ◌*◌, ◌<◌, ◌^◌, List, [], ◌∷◌, ◌++◌, length, decimal, Some, Ok, Err, arith}
use Rattle.away_values.specs.declared.types.Ty.{Ty}
use Rattle.away_values.specs.declared.values.Value.{Value}
use Rattle.away_values.specs.declared.values.Answer.{Answer}
use Rattle.away_values.specs.declared.values.Answer.TheVariants as answer
use Rattle.away_trees.specs.declared.queries.Expr.{Expr}
use Rattle.away_trees.specs.declared.queries.Expr.TheViews.{roll-Recursive}
use Rattle.away_values.specs.Results.{Or, and_then}
use Rattle.away_trees.proofs.Equations as eq
use Rattle.sql_meaning.specs.Context.{Rows}
use Rattle.sql_meaning.specs.Equivalent.{IsEquivalent}
use Rattle.sql_meaning.specs.Expressions.{RecursiveMeaning}
use Rattle.sql_meaning.specs.Meaning.{meaning, value, rows_of_select}
use Rattle.sql_meaning.specs.OneReturn.{body, returned, answer_of_return, IsSource, OneReturn}
use Rattle.sql_meaning.specs.Placed.{placed_at}
use Rattle.sql_meaning.specs.Selects.{union}
use Rattle.sql_meaning.specs.Template.{slot_at, start, step, last, query_of_return}
use Rattle.sql_meaning.specs.Typed.{AreTyped}
use Rattle.sql_meaning.specs.Working.{Bounded, worked, recursive_table, over_table, rows_with, answered, sql}
use Rattle.sql_meaning.proofs.Nameless.{same_sql}
use Rattle.sql_meaning.proofs.Returns.{start_row, done_row, both_rows, turned, rows_of_start, sees_tables, stepped, turn_value, turn_fault, turn_over, last_rows, branch_value, branch_fault}

-- what the query answers at bound 1
abbrev first_answer : Or Value → Answer
first_answer (Ok v) = answer.More
first_answer (Err c) = answer.Fault c

never_more : (o : Or Value) → returned o ≡ answer.More → ⊥
never_more (Ok v) h = cc
never_more (Err c) h = cc

long_as : (ts : List Ty) (vs : List Value) → AreTyped ts vs → length vs ≡ length ts
long_as [] [] h = refl
long_as (t ∷ ts) (v ∷ vs) h = ap suc (long_as ts vs h.1)
long_as [] (v ∷ vs) h = absurd h
long_as (t ∷ ts) [] h = absurd h

module _ (T : List Rows) (args : List Value) (small : length T < 2 ^ 64) (params : List Ty) (typed : AreTyped params args) (result : Ty) (e : Expr) where
  abbrev lowered : Expr
  lowered = placed_at result slot_at e

  abbrev digits : List ℕ
  digits = decimal (length T)

  abbrev f : Answer
  f = returned (value e (body T args))

  abbrev q : ℕ → Answer
  q k = sql (query_of_return (length T) params result e) T args k

  abbrev the_terms : RecursiveMeaning
  the_terms = record { first = union (rows_of_select (start params result) ∷ []); second = rows_of_select (step digits params lowered) }

  abbrev turn : Rows → Or Rows
  turn = stepped T args small params lowered

  abbrev by_table : Bounded Rows → Answer
  by_table o = answered (over_table (union (rows_of_select (last digits (length params)) ∷ [])) T args o)

  sql_is : (k : ℕ) → q k ≡ by_table (worked turn k [] (Ok (start_row args ∷ [])))
  sql_is k =
      ap (λ m. answered (rows_with m.recursive m.rows T args k)) (eq.of_with meaning (roll-Recursive (record { name = []; columns = []; first = start params result ∷ []; second = step digits params lowered })) (last digits (length params) ∷ []))
      ∙ (ap (λ r. by_table (recursive_table r T args k)) (eq.of_recursive meaning [] [] (start params result ∷ []) (step digits params lowered))
      ∙ ap (λ x. by_table (worked turn k [] (and_then x (λ ys. Ok (ys ++ []))))) (rows_of_start T params result args typed))

  at_zero : q 0 ≡ answer.More
  at_zero = sql_is 0

  module _ (ok : IsSource (length T) (length args) e) where
    done : (v : Value) → value e (body T args) ≡ Ok v → turn (start_row args ∷ []) ≡ Ok (done_row params v ∷ [])
    done v h = turn_value T args small params lowered v (branch_value T args params result e ok (turned T args (start_row args ∷ [])) (sees_tables T args (start_row args ∷ [])) v h)

    failed : (c : _) → value e (body T args) ≡ Err c → turn (start_row args ∷ []) ≡ Err c
    failed c h = turn_fault T args small params lowered c (branch_fault T args params result e ok (turned T args (start_row args ∷ [])) (sees_tables T args (start_row args ∷ [])) c h)

    -- a value needs two iterations, and a class one
    at_one : (o : Or Value) → value e (body T args) ≡ o → q 1 ≡ first_answer o
    at_one (Ok v) h = sql_is 1 ∙ ap (λ x. by_table (worked turn 0 (start_row args ∷ []) x)) (done v h)
    at_one (Err c) h = sql_is 1 ∙ ap (λ x. by_table (worked turn 0 (start_row args ∷ []) x)) (failed c h)

    from_two : (k : ℕ) (o : Or Value) → value e (body T args) ≡ o → q (suc (suc k)) ≡ returned o
    from_two k (Ok v) h =
        sql_is (suc (suc k))
        ∙ (ap (λ x. by_table (worked turn (suc k) (start_row args ∷ []) x)) (done v h)
        ∙ (ap (λ x. by_table (worked turn k (both_rows args params v) x)) (turn_over T args small params lowered v)
        ∙ ap (λ x. answered (Some (and_then x (λ ys. Ok (ys ++ []))))) (last_rows T args small params v)))
    from_two k (Err c) h = sql_is (suc (suc k)) ∙ ap (λ x. by_table (worked turn (suc k) (start_row args ∷ []) x)) (failed c h)

    ends : (n w : ℕ) → 0 < w → q ((n + 1) * w + 1) ≡ f
    ends n zero h = absurd (omega arith)
    ends n (suc w) h =
        let p : (n + 1) * suc w + 1 ≡ suc (suc ((n + 1) * w + n)) = omega arith in
        ap q p ∙ from_two ((n + 1) * w + n) (value e (body T args)) refl

    first : (o : Or Value) → q 1 ≡ first_answer o → q 1 ≢ answer.More → returned o ≡ q 1
    first (Ok v) h more = absurd (more h)
    first (Err c) h more = sym h

    only : (k : ℕ) → q k ≢ answer.More → f ≡ q k
    only zero more = absurd (more at_zero)
    only (suc zero) more = first (value e (body T args)) (at_one (value e (body T args)) refl) more
    only (suc (suc k)) more = sym (from_two k (value e (body T args)) refl)

one_query : (tables weight : ℕ) (params : List Ty) (result : Ty) (e : Expr) → tables < 2 ^ 64 → 0 < weight → IsSource tables (length params) e → IsEquivalent (λ T. length T ≡ tables) (λ args. AreTyped params args) weight (answer_of_return e) (query_of_return tables params result e)
one_query tables weight params result e small positive ok = record {
  ends = λ T args n long typed more.
      subst (λ t. sql (query_of_return t params result e) T args ((n + 1) * weight + 1) ≡ returned (value e (body T args))) long (ends T args (subst (λ t. t < 2 ^ 64) (sym long) small) params typed result e (source T args long typed) n weight positive);
  goes_on = λ T args n long typed more. absurd (never_more (value e (body T args)) more);
  only = λ T args k long typed more.
      subst (λ t. sql (query_of_return t params result e) T args k ≢ answer.More → returned (value e (body T args)) ≡ sql (query_of_return t params result e) T args k) long (only T args (subst (λ t. t < 2 ^ 64) (sym long) small) params typed result e (source T args long typed) k) more;
}
  where
    source : (T : List Rows) (args : List Value) → length T ≡ tables → AreTyped params args → IsSource (length T) (length args) e
    source T args long typed = subst (λ t. IsSource t (length args) e) (sym long) (subst (λ p. IsSource tables p e) (sym (long_as params args typed)) ok)

-- names mean nothing
pub one_return : OneReturn
one_return tables weight params result e small positive ok q same =
    let h = one_query tables weight params result e small positive ok in
    let as_is = same_sql q (query_of_return tables params result e) same in
    record {
      ends = λ T args n long typed more. as_is T args ((n + 1) * weight + 1) ∙ h.ends T args n long typed more;
      goes_on = λ T args n long typed more. as_is T args n ∙ h.goes_on T args n long typed more;
      only = λ T args k long typed more. h.only T args k long typed (λ z. more (as_is T args k ∙ z)) ∙ sym (as_is T args k);
    }
