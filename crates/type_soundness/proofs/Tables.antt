-- Tables that fit a schema have the types of its columns, with a recursive table behind them and without.
use Rattle.std.proofs.Common.{suc, arith, List, [], ◌∷◌, ◌++◌, map}
use Rattle.std.specs.List.{AllZip}
use Rattle.away_values.specs.declared.types.Ty.{Ty}
use Rattle.away_values.specs.declared.values.Value.{Value}
use Rattle.away_trees.specs.Fits.{FitsColumn, FitsTable, FitsSchema}
use Rattle.away_trees.specs.declared.schemas.ColumnSchema.{ColumnSchema}
use Rattle.away_trees.specs.declared.schemas.TableSchema.{TableSchema}
use Rattle.away_trees.specs.declared.schemas.Schema.{Schema}
use Rattle.away_typing.specs.Wholes.{types_in, column_types, over_tables}
use Rattle.sql_meaning.specs.Context.{Rows, outermost}
use Rattle.type_soundness.specs.Surroundings.{IsRow, AreRows, AreTables, Fit}
use Rattle.type_soundness.proofs.KindRules.{sort_of}

row_typed : (columns : List ColumnSchema) (row : List Value) → AllZip FitsColumn columns row → IsRow (map (λ (c : ColumnSchema). c.ty) columns) row
row_typed [] [] h = tt
row_typed (c ∷ cs) (v ∷ vs) h = (sort_of c.ty v h.0.typed, row_typed cs vs h.1)
row_typed [] (v ∷ vs) h = absurd h
row_typed (c ∷ cs) [] h = absurd h

rows_typed : (t : TableSchema) (rows : Rows) → FitsTable t rows → AreRows (types_in t) rows
rows_typed t [] h = tt
rows_typed t (row ∷ rows) h = (row_typed t.columns row (h 0 row (omega arith)), rows_typed t rows (λ k d l. h (suc k) d (omega (arith, l))))

-- where one more type stands behind, or a table of it too
alone : (ss : List TableSchema) (tables : List Rows) (more : List (List Ty)) → AllZip FitsTable ss tables → AreTables (map types_in ss ++ more) tables
alone [] [] more h = tt
alone (t ∷ ts) (rows ∷ tables) more h = (rows_typed t rows h.0, alone ts tables more h.1)
alone [] (rows ∷ tables) more h = absurd h
alone (t ∷ ts) [] more h = absurd h

behind : (ss : List TableSchema) (tables : List Rows) (ts : List Ty) (rows : Rows) → AllZip FitsTable ss tables → AreRows ts rows → AreTables (map types_in ss ++ ts ∷ []) (tables ++ rows ∷ [])
behind [] [] ts rows h r = (r, tt)
behind (t ∷ ss) (x ∷ tables) ts rows h r = (rows_typed t x h.0, behind ss tables ts rows h.1 r)
behind [] (x ∷ tables) ts rows h r = absurd h
behind (t ∷ ss) [] ts rows h r = absurd h

plain : (ss : List TableSchema) (tables : List Rows) → AllZip FitsTable ss tables → AreTables (map types_in ss) tables
plain [] [] h = tt
plain (t ∷ ts) (rows ∷ tables) h = (rows_typed t rows h.0, plain ts tables h.1)
plain [] (rows ∷ tables) h = absurd h
plain (t ∷ ts) [] h = absurd h

pub fit_outermost : (types : List (List Ty)) (tables : List Rows) (args : List Value) → AreTables types tables → Fit (over_tables types) (outermost tables args)
fit_outermost types tables args h = record { variables = tt; frames = tt; tables = h; group = tt }

module _ (s : Schema) (tables : List Rows) (args : List Value) (fits : FitsSchema s tables) where
  pub fit_plain : Fit (over_tables (column_types s)) (outermost tables args)
  fit_plain = fit_outermost (column_types s) tables args (plain s.tables tables fits)

  -- while the recursive table isn't there yet
  pub fit_before : (ts : List Ty) → Fit (over_tables (column_types s ++ ts ∷ [])) (outermost tables args)
  fit_before ts = fit_outermost (column_types s ++ ts ∷ []) tables args (alone s.tables tables (ts ∷ []) fits)

  pub fit_with : (ts : List Ty) (rows : Rows) → AreRows ts rows → Fit (over_tables (column_types s ++ ts ∷ [])) (outermost (tables ++ rows ∷ []) args)
  fit_with ts rows r = fit_outermost (column_types s ++ ts ∷ []) (tables ++ rows ∷ []) args (behind s.tables tables ts rows fits r)
