-- What a name stands for reads no table but those of the schema.
use Rattle.std.proofs.Common.{◌≡◌, ℕ, ◌+◌, ◌<◌, ◌≤◌, ◌^◌, Bool, true, false, if◌then◌else◌, nat_lt, List, [], ◌∷◌, length, Option, Some, None, sym, subst, arith}
use Rattle.std.specs.Prelude.{bytes_eq}
use Rattle.std.proofs.lemmas.Fmt.{decimal_is_IsNumeral}
use Rattle.away_trees.specs.declared.queries.Col.{Col}
use Rattle.away_trees.specs.declared.queries.Expr.{Expr}
use Rattle.away_trees.specs.declared.queries.Expr.TheVariants as expr
use Rattle.away_trees.specs.declared.schemas.Schema.{Schema}
use Rattle.away_trees.specs.declared.schemas.TableSchema.{TableSchema}
use Rattle.away_trees.specs.Algebra.{expr_of}
use Rattle.away_names.specs.declared.scope.Hit.{Hit}
use Rattle.away_names.specs.declared.scope.Listed.{Listed}
use Rattle.away_names.specs.declared.scope.Variable.{Variable}
use Rattle.away_names.specs.Lookups.{Name, Scope, column_named, column_qualified, variable_named}
use Rattle.away_names.specs.Naming as n
use Rattle.away_names.specs.Tables.{listed, found_from, table_of}
use Rattle.sql_meaning.specs.Reads.{Read, Slot, Param, Table, Outer, Reads, reading}
use Rattle.sql_meaning.specs.Selects.{place_of}
use Rattle.type_soundness.specs.Sorts.{Every}

-- ---- what may be read

-- a table is below a number; of what is no table nothing is said
abbrev pub IsBelow : ℕ → Read → Type 0
IsBelow tables (Slot i) = Unit {0}
IsBelow tables (Param i) = Unit {0}
IsBelow tables (Table k) = k < tables
IsBelow tables (Outer c) = Unit {0}

-- so many selects stand around the place
abbrev pub BelowAt : ℕ → ℕ → Reads → Type 0
BelowAt tables depth r = Every (IsBelow tables) (r depth)

abbrev pub ExprBelow : ℕ → ℕ → Expr → Type 0
ExprBelow tables depth e = BelowAt tables depth (expr_of reading e)

-- what a table's name stands for has a place below the number
abbrev pub ListedBelow : ℕ → Option Listed → Type 0
ListedBelow tables None = Unit {0}
ListedBelow tables (Some t) = place_of t.written < tables

-- a place from which the tables below the number are seen
abbrev pub Within : ℕ → Scope → Type 0
Within tables s = (x : Name) → ListedBelow tables (s.table x)

abbrev pub depth : Scope → ℕ
depth s = length s.levels

-- ---- tables

place_is : (place : ℕ) (t : TableSchema) → place < 2 ^ 64 → place_of (listed place t).written ≡ place
place_is place t small = (decimal_is_IsNumeral place small).1

chosen_below : (tables : ℕ) (b : Bool) (t : Listed) (o : Option Listed) → place_of t.written < tables → ListedBelow tables o
    → ListedBelow tables (if b then Some t else o)
chosen_below tables true t o h k = h
chosen_below tables false t o h k = k

from_below : (tables : ℕ) → tables < 2 ^ 64 → (x : Name) (place : ℕ) (ts : List TableSchema) → place + length ts ≤ tables → (before : Option Listed)
    → ListedBelow tables before → ListedBelow tables (found_from x place before ts)
from_below tables small x place [] l before h = h
from_below tables small x place (t ∷ ts) l before h =
    let here : place < tables = omega (arith, l) in
    from_below tables small x (place + 1) ts (omega (arith, l)) (if bytes_eq t.name x then Some (listed place t) else before)
    (chosen_below tables (bytes_eq t.name x) (listed place t) before (subst (λ k. k < tables) (sym (place_is place t (omega (arith, here, small)))) here) h)

pub tables_below : (s : Schema) → length s.tables < 2 ^ 64 → (x : Name) → ListedBelow (length s.tables) (table_of s x)
unfolding table_of
tables_below s small x = from_below (length s.tables) small x 0 s.tables (omega arith) None tt

-- ---- names

either_reads : (tables : ℕ) (b : Bool) (rs qs : List Read) → Every (IsBelow tables) rs → Every (IsBelow tables) qs → Every (IsBelow tables) (if b then rs else qs)
either_reads tables true rs qs h k = h
either_reads tables false rs qs h k = k

column_below : (tables levels : ℕ) (c : Col) → ExprBelow tables levels (expr.Column c)
column_below tables levels c = either_reads tables (nat_lt c.level levels) [] (Outer c ∷ []) tt (tt, tt)

slot_or_below : (tables levels : ℕ) (x : Name) (o : Option Variable) → ExprBelow tables levels (n.slot_or x o).it
unfolding n.slot_or
slot_or_below tables levels x None = tt
slot_or_below tables levels x (Some v) = (tt, tt)

named_by_below : (tables levels : ℕ) (x : Name) (hit : Option Hit) (o : Option Variable) → ExprBelow tables levels (n.named_by x hit o).it
unfolding n.named_by
named_by_below tables levels x (Some hit) o = column_below tables levels hit.column
named_by_below tables levels x None o = slot_or_below tables levels x o

pub name_below : (tables : ℕ) (x : Name) (s : Scope) → ExprBelow tables (depth s) (n.named x s).it
unfolding n.named
name_below tables x s = named_by_below tables (depth s) x (column_named x s.levels) (variable_named x s.variables)

qualified_by_below : (tables levels : ℕ) (a x : Name) (hit : Option Hit) → ExprBelow tables levels (n.qualified_by a x hit).it
unfolding n.qualified_by
qualified_by_below tables levels a x (Some hit) = column_below tables levels hit.column
qualified_by_below tables levels a x None = tt

pub qualified_below : (tables : ℕ) (a x : Name) (s : Scope) → ExprBelow tables (depth s) (n.qualified a x s).it
unfolding n.qualified
qualified_below tables a x s = qualified_by_below tables (depth s) a x (column_qualified a x s.levels)
