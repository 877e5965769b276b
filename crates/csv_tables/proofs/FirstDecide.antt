-- That the first row and the first field that differ decide.
use Rattle.std.proofs.Common.{◌≡◌, sym, ◌∙◌, ap, ℕ, ◌+◌, List, [], ◌∷◌, ◌++◌, length, arith}
use Rattle.std.specs.Prelude.{Ok, Err}
use Rattle.away_values.specs.declared.values.Value.{Value}
use Rattle.away_trees.specs.declared.schemas.ColumnSchema.{ColumnSchema}
use Rattle.csv_tables.specs.declared.refusal.TableRefusal.{TableRefusal}
use Rattle.csv_tables.specs.Files.{Fields, and_then, mapped, cell_of, cells_of, row_of, rows_of}
use Rattle.csv_tables.specs.FirstLaws.{FirstDecides}
use Rattle.csv_tables.proofs.Fitting.{first_ok, rest_ok}

first_row : (n : ℕ) (columns : List ColumnSchema) (before after : List Fields) (fields : Fields) (rows : List (List Value)) (e : TableRefusal)
    → rows_of n columns before ≡ Ok rows → row_of (n + length before) columns fields ≡ Err e → rows_of n columns (before ++ (fields ∷ after)) ≡ Err e
unfolding rows_of
first_row n columns [] after fields rows e h r =
    let here : n + length {A = Fields} [] ≡ n = omega arith in
    ap (λ o. and_then o (λ r. mapped (λ rs. r ∷ rs) (rows_of (n + 1) columns after))) (sym (ap (λ k. row_of k columns fields) here) ∙ r)
first_row n columns (b ∷ bs) after fields rows e h r =
    let (v, one, rest) = first_ok (row_of n columns b) (λ r. mapped (λ rs. r ∷ rs) (rows_of (n + 1) columns bs)) rows h in
    let (more, read, same) = rest_ok v (rows_of (n + 1) columns bs) rows rest in
    let place : n + length (b ∷ bs) ≡ n + 1 + length bs = omega arith in
    ap (λ o. and_then o (λ r. mapped (λ rs. r ∷ rs) (rows_of (n + 1) columns (bs ++ (fields ∷ after))))) one
    ∙ ap (λ o. mapped (λ rs. v ∷ rs) o) (first_row (n + 1) columns bs after fields more e read (sym (ap (λ k. row_of k columns fields) place) ∙ r))

first_field : (row n : ℕ) (columns more : List ColumnSchema) (c : ColumnSchema) (before after : Fields) (f : List ℕ) (values : List Value) (e : TableRefusal)
    → length before ≡ length columns → cells_of row n columns before ≡ Ok values → cell_of row (n + length before) c f ≡ Err e
    → cells_of row n (columns ++ (c ∷ more)) (before ++ (f ∷ after)) ≡ Err e
unfolding cells_of
first_field row n [] more c [] after f values e long h r =
    let here : n + length {A = List ℕ} [] ≡ n = omega arith in
    ap (λ o. and_then o (λ v. mapped (λ vs. v ∷ vs) (cells_of row (n + 1) more after))) (sym (ap (λ k. cell_of row k c f) here) ∙ r)
first_field row n [] more c (g ∷ gs) after f values e long h r = absurd (omega (arith, long))
first_field row n (d ∷ ds) more c [] after f values e long h r = absurd (omega (arith, long))
first_field row n (d ∷ ds) more c (g ∷ gs) after f values e long h r =
    let (v, one, rest) = first_ok (cell_of row n d g) (λ v. mapped (λ vs. v ∷ vs) (cells_of row (n + 1) ds gs)) values h in
    let (vs, read, same) = rest_ok v (cells_of row (n + 1) ds gs) values rest in
    let place : n + length (g ∷ gs) ≡ n + 1 + length gs = omega arith in
    ap (λ o. and_then o (λ v. mapped (λ vs. v ∷ vs) (cells_of row (n + 1) (ds ++ (c ∷ more)) (gs ++ (f ∷ after))))) one
    ∙ ap (λ o. mapped (λ vs. v ∷ vs) o) (first_field row (n + 1) ds more c gs after f vs e (omega (arith, long)) read (sym (ap (λ k. cell_of row k c f) place) ∙ r))

pub the_first_decides : FirstDecides
the_first_decides = record {
  row = λ columns before after fields rows e h r. first_row 1 columns before after fields rows e h r;
  field = λ row columns more c before after f values e long h r. first_field row 1 columns more c before after f values e long h r;
}
