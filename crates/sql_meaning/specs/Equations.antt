-- Words for the equations of the meaning: what stands in a struct of the trees, and the meanings of
-- its parts.
use Rattle.std.specs.Prelude.{ℕ, List, map, Option, option_map, not, filter}
use Rattle.away_values.specs.declared.values.Value.{Value}
use Rattle.away_trees.specs.declared.queries.Expr.{Expr}
use Rattle.away_trees.specs.declared.queries.Recursive.{Recursive}
use Rattle.away_trees.specs.declared.queries.Item.{Item}
use Rattle.away_trees.specs.declared.queries.Key.{Key}
use Rattle.away_trees.specs.declared.queries.Source.{Source}
use Rattle.away_values.specs.Operators.{is_null}
use Rattle.away_values.specs.Results.{Or, each}
use Rattle.away_trees.specs.Algebra.{expr_of, item_of, key_of, source_of, recursive_of}
use Rattle.sql_meaning.specs.Context.{Rows, Frame, Context}
use Rattle.sql_meaning.specs.Expressions.{ExprMeaning, KeyMeaning, RecursiveMeaning}
use Rattle.sql_meaning.specs.Meaning.{meaning, value}

-- the values of several expressions, from left to right
abbrev pub all_values : List Expr → Context → Or (List Value)
all_values es cx = each (λ e. value e cx) es

-- the values that aren't NULL
abbrev pub known : List Value → List Value
known = filter (λ v. not (is_null v))

-- the rows of a source, by its item's list of columns
abbrev pub rows_of_source : Source → List (List ℕ) → Context → Frame → Or Rows
rows_of_source s = source_of meaning s

-- the meanings of a select's condition or LIMIT
abbrev pub optional : Option Expr → Option ExprMeaning
optional = option_map (λ e. expr_of meaning e)

-- the meanings of its list, and of its keys
abbrev pub items : List Item → List ExprMeaning
items = map (λ i. item_of meaning i)

abbrev pub keys : List Key → List KeyMeaning
keys = map (λ k. key_of meaning k)

-- what a recursive part means
abbrev pub recursive_part : Recursive → RecursiveMeaning
recursive_part r = recursive_of meaning r
