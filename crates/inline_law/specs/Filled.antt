-- A query in whose list calls of a function stand, and what its rows are where each call has a
-- value.
use Rattle.std.specs.Prelude.{List, [], ◌∷◌, map, option_map, Option, Some, None, Ok, Err}
use Rattle.away_trees.specs.Algebra.{expr_of, from_of, item_of, key_of}
use Rattle.away_trees.specs.declared.queries.Expr.{Expr}
use Rattle.away_trees.specs.declared.queries.Expr.TheViews.{out-Select}
use Rattle.away_trees.specs.declared.queries.Select.{Select}
use Rattle.away_values.specs.declared.values.Answer.{Answer}
use Rattle.away_values.specs.declared.values.Answer.TheVariants as answer
use Rattle.away_values.specs.declared.values.Value.{Value}
use Rattle.away_values.specs.Results.{Or, and_then, each}
use Rattle.sql_meaning.specs.Context.{Rows, Frame, Context, inside}
use Rattle.sql_meaning.specs.Expressions.{ExprMeaning, FromMeaning, KeyMeaning, values}
use Rattle.sql_meaning.specs.Meaning.{meaning}
use Rattle.sql_meaning.specs.Selects.{product, kept, ordered, cut}

-- A select with slot j in the place of the j-th call of its list, counted from 0, and the arguments
-- of each call as they stand in the list.
pub record CallingSelect : Type 0 where
  pub select : Select
  pub calls : List (List Expr)

-- ---- the parts of a select

abbrev pub froms_of : Select → List FromMeaning
froms_of s = map (λ f. from_of meaning f) (out-Select s).from

abbrev pub filter_of : Select → Option ExprMeaning
filter_of s = option_map (λ e. expr_of meaning e) (out-Select s).filter

abbrev pub list_of : Select → List ExprMeaning
list_of s = map (λ i. item_of meaning i) (out-Select s).list

abbrev pub keys_of : Select → List KeyMeaning
keys_of s = map (λ k. key_of meaning k) (out-Select s).order

abbrev pub limit_of : Select → Option ExprMeaning
limit_of s = option_map (λ e. expr_of meaning e) (out-Select s).limit

-- the rows that FROM gives and WHERE keeps
abbrev pub kept_rows : Select → Context → Or (List Frame)
kept_rows s cx = and_then (product cx (froms_of s) ([] ∷ [])) (kept cx (filter_of s))

abbrev pub with_slots : List Value → Context → Context
with_slots vs cx = record cx { env = vs }

-- the list at each of these rows, where slots have the values beside it, then ORDER BY and LIMIT
abbrev pub rest_of : Select → Context → List (Frame × List Value) → Or Rows
rest_of s cx found =
    and_then
    (and_then
    (each (λ (p : Frame × List Value). values (inside p.0 (with_slots p.1 cx)) (list_of s)) found)
    (ordered cx (keys_of s) (map (λ (p : Frame × List Value). p.0) found)))
    (cut cx (limit_of s))

-- ---- the values of calls

-- the values of a call's arguments
abbrev pub arguments_at : Context → List Expr → Or (List Value)
arguments_at cx es = values cx (map (λ e. expr_of meaning e) es)

abbrev pub value_in : Answer → Option Value
value_in (answer.Value v) = Some v
value_in a = None

abbrev pub value_at : (List Value → Answer) → Or (List Value) → Option Value
value_at answers (Ok vs) = value_in (answers vs)
value_at answers (Err c) = None

-- something for each, where there is something for each
abbrev pub beside : {A : Type 0} → Option A → Option (List A) → Option (List A)
beside (Some x) (Some xs) = Some (x ∷ xs)
beside x xs = None

abbrev pub every : {A B : Type 0} → (A → Option B) → List A → Option (List B)
every f [] = Some []
every f (x ∷ xs) = beside (f x) (every f xs)

module _ (q : CallingSelect) (answers : List Value → Answer) (cx : Context) where
  -- the value of each call at a row
  abbrev pub calls_at : Frame → Option (List Value)
  calls_at frame = every (λ es. value_at answers (arguments_at (inside frame cx) es)) q.calls

  abbrev pub with_calls : Frame → Option (Frame × List Value)
  with_calls frame = option_map (λ vs. (frame, vs)) (calls_at frame)

  abbrev pub filled_at : Or (List Frame) → Option (Or Rows)
  filled_at (Ok frames) = option_map (rest_of q.select cx) (every with_calls frames)
  filled_at (Err c) = None

  -- The rows of the select where each call's value is the function's. There are such only where
  -- FROM and WHERE give rows, and at each row that is kept each argument of each call has a value
  -- and the function's answer for these is a value.
  abbrev pub filled : Option (Or Rows)
  filled = filled_at (kept_rows q.select cx)
