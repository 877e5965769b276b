-- The texts of a case: a table of routes, a function whose loop runs the statements twenty times,
-- and the table's file.
use Rattle.std.specs.Prelude.{◌≡◌, ℕ, pos, List, [], ◌∷◌, ◌++◌, codes, flat_map}
use Rattle.std.specs.Fmt.{decimal}
use Rattle.std.specs.List.{concat}
use Rattle.away_values.specs.declared.values.Value.TheVariants.{Int}
use Rattle.away_gen.specs.declared.case.DemoCase.{DemoCase}
use Rattle.away_gen.specs.declared.parts.Kind.{Kind}
use Rattle.away_gen.specs.declared.parts.Kind.TheVariants.{Add, Multiply, Subtract, Loop, Query}
use Rattle.away_gen.specs.declared.parts.Row.{Row}
use Rattle.away_gen.specs.declared.parts.Statement.{Statement}
use Rattle.away_gen.specs.Parts.{parts_of}

-- a text and LF
abbrev pub line : List ℕ → List ℕ
line text = text ++ 10 ∷ []

-- ---- the schema

abbrev pub schema_text : List ℕ
schema_text = codes "CREATE TABLE route (src bigint, dst bigint, cost bigint);"

-- ---- the table's file

abbrev pub row_text : Row → List ℕ
row_text r = decimal r.src ++ codes "," ++ decimal r.dst ++ codes "," ++ decimal r.cost

abbrev pub table_text : List Row → List ℕ
table_text rows = line (codes "src,dst,cost") ++ flat_map (λ r. line (row_text r)) rows

-- ---- the function

abbrev pub variable : ℕ → List ℕ
variable number = codes "v" ++ decimal number

-- the statement of this kind over the variables x and y and the constant c
abbrev pub statement_over : Kind → List ℕ → List ℕ → List ℕ → List ℕ
statement_over Add x y c = concat (x ∷ codes " := " ∷ y ∷ codes " + " ∷ c ∷ codes ";" ∷ [])
statement_over Multiply x y c = concat (x ∷ codes " := " ∷ y ∷ codes " * " ∷ c ∷ codes " % 1000000;" ∷ [])
statement_over Subtract x y c =
    concat (codes "IF " ∷ x ∷ codes " > " ∷ y ∷ codes " THEN " ∷ x ∷ codes " := " ∷ x ∷ codes " - " ∷ y
    ∷ codes "; ELSE " ∷ y ∷ codes " := " ∷ y ∷ codes " + 1; END IF;" ∷ [])
statement_over Loop x y c =
    concat (codes "FOR k IN 1.." ∷ c ∷ codes " LOOP " ∷ x ∷ codes " := " ∷ x ∷ codes " + k; EXIT WHEN " ∷ x
    ∷ codes " % 7 = 3; END LOOP;" ∷ [])
statement_over Query x y c =
    concat (x ∷ codes " := COALESCE((SELECT max(r.cost) FROM route r WHERE r.src = " ∷ y ∷ codes " % 10), 0);" ∷ [])

abbrev pub statement_text : Statement → List ℕ
statement_text s = statement_over s.kind (variable s.target) (variable s.source) (decimal s.constant)

-- up to the loop
abbrev pub head : List ℕ
head =
    codes "CREATE FUNCTION public.demo(a bigint, b bigint) RETURNS bigint LANGUAGE plpgsql AS $$ DECLARE v0 bigint := a; v1 bigint := b; v2 bigint := 0; v3 bigint := 1; t bigint := 0; BEGIN WHILE t < 20 LOOP"

-- behind the statements that were drawn
abbrev pub tail : List ℕ
tail = codes "t := t + 1; END LOOP; RETURN v0 + v1 + v2 + v3; END; $$;"

abbrev pub function_text : List Statement → List ℕ
function_text statements = line head ++ flat_map (λ s. line (statement_text s)) statements ++ tail

-- ---- the case

-- The case of a number.
pub record IsCase (number : ℕ) (made : DemoCase) : Type 0 where
  pub schema : made.schema.items ≡ schema_text
  pub function : made.function.items ≡ function_text (parts_of number).statements
  pub table : made.table.items ≡ table_text (parts_of number).rows
  pub args : made.args ≡ Int (pos (parts_of number).first) ∷ Int (pos (parts_of number).second) ∷ []
