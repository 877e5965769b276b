-- Worked examples: what is asked of a function's expressions, which parameters stand in a query,
-- and which values are of a type where they stand.
use Rattle.std.specs.Prelude.{◌≡◌, ℕ, pos, true, false, List, [], ◌∷◌, codes, Some, None}
use Rattle.away_values.specs.declared.types.Ty.{Ty}
use Rattle.away_values.specs.declared.types.Ty.TheVariants as ty
use Rattle.away_values.specs.declared.values.Value.TheVariants as val
use Rattle.away_trees.specs.declared.queries.Expr.{Expr}
use Rattle.away_trees.specs.declared.queries.Expr.TheVariants as expr
use Rattle.away_trees.specs.declared.queries.Query.{Query}
use Rattle.away_trees.specs.declared.queries.Select.{Select}
use Rattle.away_trees.specs.declared.queries.Expr.TheViews.{
  roll-Item,
  roll-Recursive,
  roll-Query,
  roll-Select,
}
use Rattle.away_trees.specs.declared.statements.Function.{Function}
use Rattle.away_trees.specs.declared.statements.LoopKind.TheVariants as kind
use Rattle.away_trees.specs.declared.statements.Stmt.TheVariants as stmt
use Rattle.away_types.specs.declared.slots.Slot.{Slot}
use Rattle.sql_meaning.specs.Trees.{select}
use Rattle.select_into.specs.Wrapped.{no_row, more_rows, pick}
use Rattle.type_soundness.specs.Arguments.{params_in_query, Supplied}
use Rattle.type_soundness.specs.Sorts.{IsOf}
use Rattle.type_soundness.specs.Surroundings.{AreTables, IsSeen}
use Rattle.type_soundness.specs.AskedTypes.{Asked, asked_of, into}

-- ---- what is asked

abbrev n : ℕ → Expr
n k = expr.Int (pos k)

abbrev condition : Expr
condition = expr.Slot 0

abbrev a_text : Expr
a_text = expr.Str (codes "x")

-- f(a boolean) RETURNS text: DECLARE b text := 'x'; BEGIN IF a THEN a := TRUE; ELSE b := NULL; END
-- IF; FOR i IN 1 .. 2 BY 3 LOOP EXIT WHEN a; END LOOP; WHILE a LOOP CONTINUE WHEN a; END LOOP;
-- RETURN b; END;
abbrev pub asking_each : Function
asking_each = record {
  name = codes "f";
  strict = false;
  params = (codes "a", ty.Boolean) ∷ [];
  result = ty.Text;
  body = stmt.Block None (record { name = codes "b"; ty = ty.Text; constant = false; not_null = false; default = Some a_text } ∷ []) (
      stmt.If (record { test = condition; body = stmt.Assign (codes "a") (Some 0) (expr.Bool true) ∷ [] } ∷ [])
      (Some (stmt.Assign (codes "b") (Some 1) expr.Null ∷ []))
      ∷ stmt.Loop None (kind.Count (codes "i") false (n 1) (n 2) (Some (n 3))) (stmt.Exit None (Some condition) ∷ []) None
      ∷ stmt.Loop None (kind.While condition) (stmt.Continue None (Some condition) ∷ []) None
      ∷ stmt.Return (expr.Slot 1) ∷ [])
      None;
}

abbrev slot : Ty → Slot
slot t = record { ty = t; not_null = false }

abbrev pub its_slots : List Slot
its_slots =
    slot ty.Boolean
    ∷ slot ty.Text
    ∷ slot ty.Integer
    ∷ slot ty.Integer
    ∷ slot ty.Integer
    ∷ slot ty.Integer
    ∷ []

abbrev pub asked_of_each : Asked
asked_of_each =
    (Some ty.Text, a_text)
    ∷ (Some ty.Boolean, condition)
    ∷ (Some ty.Boolean, expr.Bool true)
    ∷ (Some ty.Text, expr.Null)
    ∷ (Some ty.Integer, n 1)
    ∷ (Some ty.Integer, n 2)
    ∷ (Some ty.Integer, n 3)
    ∷ (Some ty.Boolean, condition)
    ∷ (Some ty.Boolean, condition)
    ∷ (Some ty.Boolean, condition)
    ∷ (Some ty.Text, expr.Slot 1)
    ∷ []

-- SELECT 1, NULL, of which the NULL takes the type of its target
abbrev one_and_null : Select
one_and_null = select (n 1 ∷ expr.Null ∷ []) [] None

abbrev pub with_its_type : Select
with_its_type = select (n 1 ∷ expr.Cast expr.Null ty.Text ∷ []) [] None

-- SELECT 1, NULL INTO STRICT b, a, where a is slot 0 and b slot 1
abbrev pub asked_of_into : Asked
asked_of_into =
    into (ty.Text ∷ ty.Bigint ∷ []) true ((codes "b", Some 1) ∷ (codes "a", Some 0) ∷ [])
    one_and_null

-- SELECT 1 INTO d of a bigint, whose item is marked as one of the other type of numbers
abbrev one_marked : Select
one_marked =
    roll-Select (record {
      list = roll-Item (record { expr = n 1; alias = Some (codes "d") }) ∷ [];
      from = [];
      filter = None;
      order = [];
      limit = None;
    })

abbrev pub asked_of_marked : Asked
asked_of_marked = into (ty.Bigint ∷ []) false ((codes "d", Some 0) ∷ []) one_marked

-- ---- parameters

-- WITH RECURSIVE r AS (SELECT $1::bigint UNION ALL SELECT $2::bigint WHERE $3::boolean) SELECT
-- $4::text
abbrev pub with_parameters : Query
with_parameters =
    roll-Query (record {
      recursive = Some (roll-Recursive (record {
        name = codes "r";
        columns = [];
        first = select (expr.Param 1 ty.Bigint ∷ []) [] None ∷ [];
        second = select (expr.Param 2 ty.Bigint ∷ []) [] (Some (expr.Param 3 ty.Boolean));
      }));
      selects = select (expr.Param 4 ty.Text ∷ []) [] None ∷ [];
    })

-- ---- the whole

pub record WorkedTypes : Type 0 where
  pub asked : asked_of asking_each its_slots ≡ asked_of_each
  pub into_asks : asked_of_into
      ≡ (Some ty.Boolean, no_row one_and_null)
      ∷ (Some ty.Boolean, more_rows one_and_null)
      ∷ (Some ty.Bigint, pick with_its_type 0)
      ∷ (Some ty.Text, pick with_its_type 1)
      ∷ []
  pub marked_asks : asked_of_marked
      ≡ (Some ty.Bigint, expr.Cast (pick (select (n 1 ∷ []) [] None) 0) ty.Bigint) ∷ []
  pub parameters : params_in_query with_parameters ≡ (1, ty.Bigint) ∷ (2, ty.Bigint) ∷ (3, ty.Boolean) ∷ (4, ty.Text) ∷ []
  pub supplied : Supplied (val.Int (pos 7) ∷ []) ((1, ty.Bigint) ∷ [])
  pub not_supplied : Supplied (val.Int (pos 7) ∷ []) ((1, ty.Text) ∷ []) → ⊥
  pub greatest : IsOf ty.Integer (val.Int (pos 2147483647))
  pub too_great : IsOf ty.Integer (val.Int (pos 2147483648)) → ⊥
  pub other_sort : IsOf ty.Bigint (val.Bool true) → ⊥
  pub table : AreTables ((ty.Bigint ∷ ty.Text ∷ []) ∷ []) (((val.Int (pos 1) ∷ val.Null ∷ []) ∷ []) ∷ [])
  pub other_table : AreTables ((ty.Bigint ∷ []) ∷ (ty.Text ∷ []) ∷ []) ([] ∷ ((val.Int (pos 1) ∷ []) ∷ []) ∷ []) → ⊥
  pub no_row : IsSeen ((ty.Bigint ∷ []) ∷ []) []
  pub other_row : IsSeen ((ty.Bigint ∷ []) ∷ []) ((val.Bool true ∷ []) ∷ []) → ⊥
