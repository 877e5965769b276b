-- A worked example: collatz, whose labels are the entry and its one head, so that a turn is its
-- cells alone.
use Rattle.std.specs.Prelude.{◌≡◌, ℕ, Bool, false, List, [], ◌∷◌, codes, pos}
use Rattle.away_trees.specs.declared.queries.Expr.{Expr}
use Rattle.away_trees.specs.declared.queries.Query.{Query}
use Rattle.away_values.specs.declared.types.Ty.TheVariants as ty
use Rattle.away_values.specs.declared.values.Answer.{Answer}
use Rattle.away_values.specs.declared.values.Answer.TheVariants as answer
use Rattle.away_values.specs.declared.values.Value.{Value}
use Rattle.away_values.specs.declared.values.Value.TheVariants as val
use Rattle.sql_meaning.specs.Working.{sql}
use Rattle.block_forms.specs.Expressions.{expressions}
use Rattle.block_forms.specs.Worked.{collatz}
use Rattle.call_forms.specs.declared.forms.Tail.{Tail}
use Rattle.call_forms.specs.Bodies.{Ends, body_of}
use Rattle.call_forms.specs.Worked.{collatz_anf}
use Rattle.turn_template.specs.Totals.{total_term}
use Rattle.turn_template.specs.TurnTemplate.{Plan, plans, query_with, told_by}

-- the head, then the entry; block 7, which two calls reach, is unfolded twice
abbrev pub collatz_heads : Tail
collatz_heads = record { labels = 3 ∷ 0 ∷ []; columns = ty.Bigint ∷ ty.Bigint ∷ []; places = (0 ∷ 1 ∷ []) ∷ (0 ∷ []) ∷ [] }

abbrev none_same : Expr → Expr → Bool
none_same x y = false

abbrev pub collatz_plan : Plan
collatz_plan =
    plans (expressions collatz) (λ n. ty.Bigint) ty.Bigint (total_term (expressions collatz))
    (told_by none_same (3 ∷ [])) collatz_anf collatz_heads 0 6 0 (3 ∷ [])

-- with k turns in an iteration, over no table
abbrev pub collatz_query : ℕ → Query
collatz_query k =
    query_with (expressions collatz) (λ n. ty.Bigint) ty.Bigint (total_term (expressions collatz)) none_same collatz_anf collatz_heads 0 (codes "0") (3 ∷ []) k

abbrev two : List Value
two = val.Int (pos 2) ∷ []

abbrev one : Answer
one = answer.Value (val.Int (pos 1))

-- The bodies are finite. A turn needs no step. At 2 the head is visited twice: in two
-- iterations of one turn, and in one of two.
pub record WorkedTurns : Type 0 where
  pub head_ends : Ends (body_of collatz_anf collatz_heads 3)
  pub entry_ends : Ends (body_of collatz_anf collatz_heads 0)
  pub no_step : collatz_plan.steps ≡ []
  pub by_one : sql (collatz_query 1) [] two 3 ≡ one
  pub by_one_more : sql (collatz_query 1) [] two 2 ≡ answer.More
  pub by_two : sql (collatz_query 2) [] two 2 ≡ one
  pub by_two_more : sql (collatz_query 2) [] two 1 ≡ answer.More
  pub by_three : sql (collatz_query 3) [] two 2 ≡ one
