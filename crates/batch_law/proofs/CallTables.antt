-- Each row of a table of calls that fits has arguments that fit.
use Rattle.std.proofs.Common.{◌≡◌, ℕ, zero, suc, ◌<◌, List, [], ◌∷◌, map, length, Some, None, refl, ap, subst, arith}
use Rattle.std.specs.Prelude.{All, slice_get, slice_index_or}
use Rattle.std.specs.List.{AllByRecursion, AllZip}
use Rattle.away_trees.specs.declared.schemas.ColumnSchema.{ColumnSchema}
use Rattle.away_trees.specs.declared.schemas.Schema.{Schema}
use Rattle.away_trees.specs.declared.schemas.TableSchema.{TableSchema}
use Rattle.away_trees.specs.declared.statements.Function.{Function}
use Rattle.away_trees.specs.Fits.{FitsColumn, FitsTable, FitsSchema}
use Rattle.away_values.specs.declared.types.Ty.{Ty}
use Rattle.away_values.specs.declared.types.Ty.TheVariants as ty
use Rattle.away_values.specs.declared.values.Value.{Value}
use Rattle.sql_meaning.specs.Context.{Rows}
use Rattle.sql_meaning.specs.Typed.{AreTyped}
use Rattle.plsql_meaning.specs.Equivalent.{types_of}
use Rattle.batch_law.specs.Batches.{start_of}
use Rattle.batch_law.specs.CallTables.{IsCallTable}
use Rattle.batch_law.specs.Starts.{Start}

abbrev column_types : List ColumnSchema → List Ty
column_types = map (λ (c : ColumnSchema). c.ty)

-- the values of columns are of their types
are_typed : (cs : List ColumnSchema) (vs : List Value) → AllZip FitsColumn cs vs → AreTyped (column_types cs) vs
are_typed [] [] h = tt
are_typed (c ∷ cs) (v ∷ vs) h = (h.0.typed, are_typed cs vs h.1)
are_typed [] (v ∷ vs) h = absurd h
are_typed (c ∷ cs) [] h = absurd h

behind_first : (t : Ty) (ts : List Ty) (row : List Value) → AreTyped (t ∷ ts) row → AreTyped ts (start_of row).1
behind_first t ts [] h = absurd h
behind_first t ts (x ∷ vs) h = h.1

none_some : (t : TableSchema) → None ≡ Some t → ⊥
none_some t e = cc

same_some : (t u : TableSchema) → Some t ≡ Some u → t ≡ u
same_some t u e = cc

-- the table at a place fits
at_place : (ts : List TableSchema) (tables : List Rows) → AllZip FitsTable ts tables → (place : ℕ) (t : TableSchema) → slice_get ts place ≡ Some t
    → FitsTable t (slice_index_or tables place [])
at_place [] [] h zero t e = absurd (none_some t e)
at_place [] [] h (suc place) t e = absurd (none_some t e)
at_place (u ∷ us) (rows ∷ tables) h zero t e = subst (λ v. FitsTable v rows) (same_some u t e) h.0
at_place (u ∷ us) (rows ∷ tables) h (suc place) t e = at_place us tables h.1 place t e
at_place [] (rows ∷ tables) h place t e = absurd h
at_place (u ∷ us) [] h place t e = absurd h

pub as_many : (ts : List TableSchema) (tables : List Rows) → AllZip FitsTable ts tables → length tables ≡ length ts
as_many [] [] h = refl
as_many (t ∷ ts) (rows ∷ tables) h = ap suc (as_many ts tables h.1)
as_many [] (rows ∷ tables) h = absurd h
as_many (t ∷ ts) [] h = absurd h

pub is_there : (ts : List TableSchema) (place : ℕ) (t : TableSchema) → slice_get ts place ≡ Some t → place < length ts
is_there [] zero t e = absurd (none_some t e)
is_there [] (suc place) t e = absurd (none_some t e)
is_there (u ∷ us) zero t e = omega arith
is_there (u ∷ us) (suc place) t e = let less = is_there us place t e in omega (arith, less)

starts_typed : (ts : List Ty) (all : Rows) → AllByRecursion (λ (row : List Value). AreTyped (ty.Bigint ∷ ts) row) all
    → AllByRecursion (λ (s : Start). AreTyped ts s.1) (map start_of all)
starts_typed ts [] h = tt
starts_typed ts (row ∷ all) h = (behind_first ty.Bigint ts row h.0, starts_typed ts all h.1)

each_row : (cs : List ColumnSchema) (ts : List Ty) → column_types cs ≡ ts → (all : Rows) → All (λ row. AllZip FitsColumn cs row) all
    → AllByRecursion (λ (row : List Value). AreTyped ts row) all
each_row cs ts e [] h = tt
each_row cs ts e (row ∷ all) h = (
  subst (λ us. AreTyped us row) e (are_typed cs row (h zero row (omega arith))),
  each_row cs ts e all (λ k d less. h (suc k) d (omega (arith, less))),
)

pub calls_typed : (s : Schema) (place : ℕ) (f : Function) → IsCallTable s place f → (tables : List Rows) → FitsSchema s tables
    → AllByRecursion (λ (c : Start). AreTyped (types_of f) c.1) (map start_of (slice_index_or tables place []))
calls_typed s place f calls tables fits =
    starts_typed (types_of f) (slice_index_or tables place [])
    (each_row calls.table.columns (ty.Bigint ∷ types_of f) calls.types (slice_index_or tables place [])
    (at_place s.tables tables fits place calls.table calls.is))
