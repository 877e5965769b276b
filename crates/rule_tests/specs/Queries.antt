-- Worked queries over the table t and worked schemas, and the least rule that each breaks.
use Rattle.std.specs.Prelude.{Bool, true, false, List, [], ◌∷◌, Option, Some, None, codes}
use Rattle.away_values.specs.declared.types.Ty.TheVariants as ty
use Rattle.away_trees.specs.declared.queries.Expr.{Expr}
use Rattle.away_trees.specs.declared.queries.Expr.TheVariants as expr
use Rattle.away_trees.specs.declared.queries.Expr.TheViews.{roll-Item}
use Rattle.away_trees.specs.declared.queries.FromItem.{FromItem}
use Rattle.away_trees.specs.declared.queries.Query.{Query}
use Rattle.away_trees.specs.declared.queries.Select.{Select}
use Rattle.away_trees.specs.declared.schemas.Schema.{Schema}
use Rattle.away_names.specs.Schemas.{schema_note}
use Rattle.away_names.specs.declared.rule.Rule.{Rule}
use Rattle.away_names.specs.declared.rule.Rule.TheVariants as rule
use Rattle.away_types.specs.CheckedQueries.{query_note}
use Rattle.rule_tests.specs.Pieces.{
  Name,
  Row,
  schema,
  column,
  t,
  n,
  named,
  k,
  count,
  sum_of,
  as_bigint,
  null_text,
  plus,
  concat,
}
use Rattle.rule_tests.specs.Pieces.{
  item,
  from,
  from_r,
  sub,
  select,
  query,
  one,
  from_t,
  ordered,
  with_recursive,
}

abbrev pub broken : Row Query → Option Rule
broken row = (query_note schema row.0).least

abbrev pub wanted : Row Query → Option Rule
wanted row = row.1

-- SELECT e, CAST(NULL AS text) FROM t
abbrev of_list : Expr → Query
of_list e = one (e ∷ null_text ∷ []) from_t

abbrev r_i : Expr
r_i = expr.Dotted (codes "r") (codes "i")

-- (SELECT t.v) AS u(a), LATERAL or not
abbrev beside_t : Bool → FromItem
beside_t lateral = sub lateral (codes "u") (codes "a" ∷ []) (one (expr.Dotted (codes "t") (codes "v") ∷ []) [])

-- ---- FROM, ORDER BY and LIMIT

abbrev pub selects : List (Row Query)
selects =
    -- SELECT 1
    (one (n 1 ∷ []) [], Some rule.Answer)
    ∷ (one (n 1 ∷ null_text ∷ []) [], None)
    ∷ (one (null_text ∷ n 1 ∷ []) [], Some rule.Answer)
    ∷ (of_list k, None)
    -- k || 1 has no text operand
    ∷ (of_list (concat k (n 1)), Some rule.Types)
    ∷ (of_list (concat expr.Null (n 1)), None)
    -- FROM t, t
    ∷ (one (n 1 ∷ null_text ∷ []) (from (codes "t") ∷ from (codes "t") ∷ []), Some rule.Duplicates)
    -- a subquery sees its neighbours where it is LATERAL
    ∷ (one (k ∷ expr.Dotted (codes "u") (codes "a") ∷ []) (from (codes "t") ∷ beside_t true ∷ []), None)
    ∷ (one (k ∷ expr.Dotted (codes "u") (codes "a") ∷ []) (from (codes "t") ∷ beside_t false ∷ []), Some rule.Names)
    -- lists of columns
    ∷ (one (n 1 ∷ null_text ∷ []) (sub false (codes "u") (codes "a" ∷ codes "a" ∷ []) (one (n 1 ∷ n 2 ∷ []) []) ∷ []), Some rule.Duplicates)
    ∷ (one (n 1 ∷ null_text ∷ []) (sub false (codes "u") (codes "a" ∷ []) (one (n 1 ∷ n 2 ∷ []) []) ∷ []), Some rule.Types)
    ∷ (one (n 1 ∷ null_text ∷ []) (sub false (codes "u") (codes "a" ∷ codes "b" ∷ []) (one (n 1 ∷ n 2 ∷ []) []) ∷ []), None)
    -- a key that is an alias of the list
    ∷ (
      query (ordered (roll-Item (record { expr = named (codes "v"); alias = Some (codes "k") }) ∷ item null_text ∷ []) (k ∷ []) None ∷ []),
      Some rule.Ambiguity,
    )
    ∷ (query (ordered (item k ∷ item null_text ∷ []) (k ∷ []) (Some (n 1)) ∷ []), None)
    ∷ (query (ordered (item k ∷ item null_text ∷ []) (named (codes "z") ∷ []) None ∷ []), Some rule.Names)
    -- LIMIT of its own select
    ∷ (query (ordered (item k ∷ item null_text ∷ []) [] (Some k) ∷ []), Some rule.Types)
    -- UNION ALL of other types, where NULL has each
    ∷ (query (select (n 1 ∷ null_text ∷ []) [] ∷ select (expr.Bool true ∷ null_text ∷ []) [] ∷ []), Some rule.Types)
    ∷ (query (select (n 1 ∷ null_text ∷ []) [] ∷ select (expr.Null ∷ expr.Null ∷ []) [] ∷ []), None)
    -- one parameter of two types
    ∷ (of_list (plus (expr.Param 1 ty.Bigint) (as_bigint (expr.Param 1 ty.Text))), Some rule.Types)
    ∷ (of_list (plus (expr.Param 1 ty.Bigint) (expr.Param 1 ty.Bigint)), None)
    -- names of the query's own may be written in a query
    ∷ (one (n 1 ∷ null_text ∷ []) (sub false (codes "away_u") [] (one (n 1 ∷ []) []) ∷ []), None)
    -- what no reader writes
    ∷ (of_list (expr.Slot 0), Some rule.Names)
    ∷ []

-- ---- WITH RECURSIVE

-- WITH RECURSIVE r(columns) AS (first UNION ALL second) SELECT 1, CAST(NULL AS text) FROM r
abbrev of_terms : List Name → Select → Select → Query
of_terms columns first second = with_recursive columns first second (n 1 ∷ null_text ∷ [])

-- SELECT 1
abbrev one_row : Select
one_row = select (n 1 ∷ []) []

-- SELECT e FROM r
abbrev of_r : Expr → Select
of_r e = select (e ∷ []) from_r

abbrev pub recursions : List (Row Query)
recursions =
    -- the second term doesn't name it
    (of_terms (codes "i" ∷ []) one_row (select (n 2 ∷ []) []), Some rule.Recursion)
    ∷ (with_recursive (codes "i" ∷ []) one_row (of_r (plus r_i (n 1))) (as_bigint (sum_of r_i) ∷ null_text ∷ []), None)
    -- the first term does
    ∷ (of_terms (codes "i" ∷ []) (of_r r_i) (of_r r_i), Some rule.Recursion)
    -- twice
    ∷ (
      of_terms (codes "i" ∷ []) one_row
          (select (r_i ∷ []) (from (codes "r") ∷ sub false (codes "u") [] (query (of_r (n 1) ∷ []))
          ∷ [])),
      Some rule.Recursion,
    )
    -- two names for one column, and one name twice
    ∷ (of_terms (codes "i" ∷ codes "j" ∷ []) one_row (of_r r_i), Some rule.Recursion)
    ∷ (of_terms (codes "i" ∷ codes "i" ∷ []) (select (n 1 ∷ n 2 ∷ []) []) (select (n 1 ∷ n 2 ∷ []) from_r), Some rule.Duplicates)
    -- an aggregate in the second term
    ∷ (of_terms (codes "i" ∷ []) one_row (of_r count), Some rule.Recursion)
    -- NULL has the type of the first term
    ∷ (of_terms (codes "i" ∷ []) one_row (of_r expr.Null), None)
    ∷ (of_terms (codes "i" ∷ []) one_row (of_r (expr.Bool true)), Some rule.Recursion)
    -- integer beside bigint
    ∷ (of_terms (codes "i" ∷ []) one_row (of_r (plus r_i (n 2147483648))), Some rule.Recursion)
    ∷ (of_terms (codes "i" ∷ []) (select (as_bigint (n 1) ∷ []) []) (of_r (n 7)), Some rule.Recursion)
    ∷ (of_terms (codes "i" ∷ []) (select (n 3000000000 ∷ []) []) (of_r (plus r_i (n 1))), None)
    ∷ []

-- ---- schemas

abbrev pub schemas : List (Row Schema)
schemas =
    (record { tables = t ∷ t ∷ [] }, Some rule.Duplicates)
    ∷ (schema, None)
    ∷ (
      record {
        tables = record {
          name = codes "t";
          columns = column (codes "k") ty.Bigint
              ∷ column (codes "k") ty.Text ∷ [];
        } ∷ [];
      },
      Some rule.Duplicates,
    )
    ∷ (record { tables = record { name = codes "away_t"; columns = column (codes "k") ty.Bigint ∷ [] } ∷ [] }, Some rule.Reserved)
    ∷ []

abbrev pub schema_broken : Row Schema → Option Rule
schema_broken row = (schema_note row.0).least

abbrev pub schema_wanted : Row Schema → Option Rule
schema_wanted row = row.1
