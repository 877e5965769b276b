-- That the rows which a file holds fit their table.
use Rattle.std.proofs.Common.{◌≡◌, ◌≢◌, refl, sym, ◌∙◌, ap, subst, ℕ, ◌+◌, Bool, true, false, ◌&&◌, List, [], ◌∷◌, length, arith, ℤ, pos, neg_ℤ}
use Rattle.std.specs.Prelude.{Option, Some, None, Ok, Err, if◌then◌else◌, option_map, chars, nat_eq, ◌==◌}
use Rattle.std.specs.List.{All, AllZip}
use Rattle.std.specs.Option.{ok_or, option_and_then}
use Rattle.std.proofs.lemmas.Bool.{eqb-true, and_from}
use Rattle.std.proofs.lemmas.List.Elements.{All-cons, All-nil}
use Rattle.away_values.specs.declared.values.Value.{Value}
use Rattle.away_values.specs.declared.values.Value.TheVariants as val
use Rattle.away_values.specs.declared.types.Ty.{Ty}
use Rattle.away_values.specs.declared.types.Ty.TheVariants as ty
use Rattle.away_trees.specs.declared.schemas.ColumnSchema.{ColumnSchema}
use Rattle.away_trees.specs.declared.schemas.TableSchema.{TableSchema}
use Rattle.away_values.specs.BigintSpellings.{bigint_of, in_range, number_of, signed}
use Rattle.away_trees.specs.Fits.{FitsColumn, FitsTable}
use Rattle.away_values.specs.Operators.{fits, fits_small}
use Rattle.away_values.specs.Values.{HasType}
use Rattle.away_values.proofs.Typing.{IsTextValue-chars}
use Rattle.csv_tables.specs.declared.refusal.TableRefusal.{TableRefusal}
use Rattle.csv_tables.specs.declared.refusal.TableRefusal.TheVariants as refusal
use Rattle.csv_tables.specs.Cells.{is_null_mark, is_text, there_of, truth_of, value_of}
use Rattle.csv_tables.specs.Files.{Fields, Or, and_then, mapped, below_header, cell_of, cells_of, is_header, records_of, row_of, rows_in, rows_of}
use Rattle.csv_tables.proofs.CellFacts.{null_value, there_value}
use Rattle.csv_tables.proofs.TextParses.{is_text-parts}

-- ---- a value of its type

ranged : (n m : ℤ) → in_range n ≡ Some m → fits m ≡ true
ranged n m e = go (fits n) refl e
  where
    go : (b : Bool) → fits n ≡ b → ◌≡◌ {A = Option ℤ} (if b then Some n else None) (Some m) → fits m ≡ true
    go true is e = let same : n ≡ m = cc in subst (λ k. fits k ≡ true) same is
    go false is e = cc e

signed_fits : (sign : ℕ → ℤ) (o : Option ℕ) (n : ℤ) → signed sign o ≡ Some n → fits n ≡ true
signed_fits sign None n e = cc e
signed_fits sign (Some k) n e = ranged (sign k) n e

choice : {A : Type 0} (P : A → Type 0) (b : Bool) (x y : A) → P x → P y → P (if b then x else y)
choice P true x y p q = p
choice P false x y p q = q

abbrev Fitting : Option ℤ → Type 0
Fitting o = (n : ℤ) → o ≡ Some n → fits n ≡ true

bigint_fits : (bs : List ℕ) → Fitting (bigint_of bs)
bigint_fits [] = λ n e. cc e
bigint_fits (c ∷ cs) =
    choice Fitting (nat_eq c 45) (signed (λ n. neg_ℤ (pos n)) (number_of cs)) (if nat_eq c 43 then signed pos (number_of cs) else signed pos (number_of (c ∷ cs)))
    (signed_fits (λ n. neg_ℤ (pos n)) (number_of cs))
    (choice Fitting (nat_eq c 43) (signed pos (number_of cs)) (signed pos (number_of (c ∷ cs))) (signed_fits pos (number_of cs)) (signed_fits pos (number_of (c ∷ cs))))

-- a value of the type, and not NULL
abbrev IsOf : Ty → Value → Type 0
IsOf t v = HasType v t × (v ≢ val.Null)

bigint_typed : (o : Option ℤ) (v : Value) → Fitting o → option_map val.Int o ≡ Some v → IsOf ty.Bigint v
bigint_typed None v f e = cc e
bigint_typed (Some n) v f e = let same : val.Int n ≡ v = cc in subst (IsOf ty.Bigint) same (f n refl, λ k. cc k)

small_typed : (n : ℤ) (b : Bool) (v : Value) → fits_small n ≡ b → ◌≡◌ {A = Option Value} (if b then Some (val.Int n) else None) (Some v) → IsOf ty.Integer v
small_typed n true v is e = let same : val.Int n ≡ v = cc in subst (IsOf ty.Integer) same (is, λ k. cc k)
small_typed n false v is e = cc e

integer_typed : (o : Option ℤ) (v : Value) → option_and_then (λ n. if fits_small n then Some (val.Int n) else None) o ≡ Some v → IsOf ty.Integer v
integer_typed None v e = cc e
integer_typed (Some n) v e = small_typed n (fits_small n) v refl e

boolean_typed : (o : Option Bool) (v : Value) → option_map val.Bool o ≡ Some v → IsOf ty.Boolean v
boolean_typed None v e = cc e
boolean_typed (Some b) v e = let same : val.Bool b ≡ v = cc in subst (IsOf ty.Boolean) same (tt, λ k. cc k)

text_typed : (bs : List ℕ) (b : Bool) (v : Value) → is_text bs ≡ b → option_map val.Text (if b then Some (chars bs) else None) ≡ Some v → IsOf ty.Text v
text_typed bs true v is e =
    let same : val.Text (chars bs) ≡ v = cc in
    let parts = is_text-parts bs is in
    subst (IsOf ty.Text) same (IsTextValue-chars bs parts.0 parts.1, λ k. cc k)
text_typed bs false v is e = cc e

there_typed : (t : Ty) (bs : List ℕ) (v : Value) → there_of t bs ≡ Some v → IsOf t v
unfolding there_of
there_typed ty.Bigint bs v e = bigint_typed (bigint_of bs) v (bigint_fits bs) e
there_typed ty.Integer bs v e = integer_typed (bigint_of bs) v e
there_typed ty.Boolean bs v e = boolean_typed (truth_of bs) v e
there_typed ty.Text bs v e = text_typed bs (is_text bs) v refl e

-- ---- a field

from_ok : (o : Option Value) (e : TableRefusal) (v : Value) → ◌≡◌ {A = Or Value} (ok_or o e) (Ok v) → o ≡ Some v
from_ok None e v h = cc h
from_ok (Some w) e v h = let same : w ≡ v = cc h in ap Some same

fits_cell : (row place : ℕ) (c : ColumnSchema) (f : List ℕ) (v : Value) (missing null : Bool) → (c.not_null && is_null_mark f) ≡ missing → is_null_mark f ≡ null → cell_of row place c f ≡ Ok v → FitsColumn c v
unfolding cell_of
fits_cell row place c f v true null is mark e =
    let bad : ◌≡◌ {A = Or Value} (Err (refusal.NullCell row place)) (Ok v) =
    sym (ap (λ b. if b then Err (refusal.NullCell row place) else ok_or (value_of c.ty f) (refusal.Cell row place)) is) ∙ e in
    cc bad
fits_cell row place c f v false true is mark e =
    let read : ◌≡◌ {A = Or Value} (ok_or (value_of c.ty f) (refusal.Cell row place)) (Ok v) =
    sym (ap (λ b. if b then Err (refusal.NullCell row place) else ok_or (value_of c.ty f) (refusal.Cell row place)) is) ∙ e in
    let none : ◌≡◌ {A = Or Value} (Ok val.Null) (Ok v) = sym (ap (λ o. ok_or o (refusal.Cell row place)) (null_value c.ty f mark)) ∙ read in
    let same : val.Null ≡ v = cc none in
    record {
      typed = subst (λ v. HasType v c.ty) same tt;
      there = λ needed gone. let both : false ≡ true = sym is ∙ and_from c.not_null (is_null_mark f) needed mark in cc both;
    }
fits_cell row place c f v false false is mark e =
    let read : ◌≡◌ {A = Or Value} (ok_or (value_of c.ty f) (refusal.Cell row place)) (Ok v) =
    sym (ap (λ b. if b then Err (refusal.NullCell row place) else ok_or (value_of c.ty f) (refusal.Cell row place)) is) ∙ e in
    let there : ◌≡◌ {A = Or Value} (ok_or (there_of c.ty f) (refusal.Cell row place)) (Ok v) = sym (ap (λ o. ok_or o (refusal.Cell row place)) (there_value c.ty f mark)) ∙ read in
    let typed = there_typed c.ty f v (from_ok (there_of c.ty f) (refusal.Cell row place) v there) in
    record { typed = typed.0; there = λ needed. typed.1 }

-- ---- rows

-- where both parts gave a value, and what they gave
pub first_ok : {A B : Type 0} (o : Or A) (go : A → Or B) (b : B) → and_then o go ≡ Ok b → (a : A) × (o ≡ Ok a) × (go a ≡ Ok b)
first_ok (Ok a) go b e = (a, refl, e)
first_ok (Err x) go b e = cc e

pub rest_ok : {A : Type 0} (a : A) (o : Or (List A)) (all : List A) → mapped (λ more. a ∷ more) o ≡ Ok all → (more : List A) × (o ≡ Ok more) × (a ∷ more ≡ all)
rest_ok a (Ok more) all e = (more, refl, cc e)
rest_ok a (Err x) all e = cc e

fits_cells : (row place : ℕ) (columns : List ColumnSchema) (fields : Fields) (all : List Value) → length fields ≡ length columns → cells_of row place columns fields ≡ Ok all → AllZip FitsColumn columns all
unfolding cells_of
fits_cells row place [] [] all long e = let same : [] ≡ all = cc e in subst (AllZip FitsColumn []) same tt
fits_cells row place [] (f ∷ fs) all long e = absurd (omega (arith, long))
fits_cells row place (c ∷ cs) [] all long e = absurd (omega (arith, long))
fits_cells row place (c ∷ cs) (f ∷ fs) all long e =
    let (v, one, after) = first_ok (cell_of row place c f) (λ v. mapped (λ vs. v ∷ vs) (cells_of row (place + 1) cs fs)) all e in
    let (more, rest, same) = rest_ok v (cells_of row (place + 1) cs fs) all after in
    subst (AllZip FitsColumn (c ∷ cs)) same
    (fits_cell row place c f v (c.not_null && is_null_mark f) (is_null_mark f) refl refl one, fits_cells row (place + 1) cs fs more (omega (arith, long)) rest)

fits_row : (row : ℕ) (columns : List ColumnSchema) (fields : Fields) (all : List Value) (b : Bool) → (length fields == length columns) ≡ b → row_of row columns fields ≡ Ok all → AllZip FitsColumn columns all
unfolding row_of
fits_row row columns fields all true is e =
    fits_cells row 1 columns fields all (eqb-true (length fields) (length columns) is) (sym (ap (λ b. if b then cells_of row 1 columns fields else Err (refusal.Count row)) is) ∙ e)
fits_row row columns fields all false is e =
    let bad : ◌≡◌ {A = Or (List Value)} (Err (refusal.Count row)) (Ok all) = sym (ap (λ b. if b then cells_of row 1 columns fields else Err (refusal.Count row)) is) ∙ e in cc bad

abbrev Rows : List ColumnSchema → List (List Value) → Type 0
Rows columns rows = All (λ row. AllZip FitsColumn columns row) rows

fits_rows : (row : ℕ) (columns : List ColumnSchema) (left : List Fields) (all : List (List Value)) → rows_of row columns left ≡ Ok all → Rows columns all
unfolding rows_of
fits_rows row columns [] all e = let same : [] ≡ all = cc e in subst (Rows columns) same (All-nil (λ row. AllZip FitsColumn columns row))
fits_rows row columns (fields ∷ more) all e =
    let (r, one, after) = first_ok (row_of row columns fields) (λ r. mapped (λ rs. r ∷ rs) (rows_of (row + 1) columns more)) all e in
    let (rs, rest, same) = rest_ok r (rows_of (row + 1) columns more) all after in
    subst (Rows columns) same
    (All-cons (λ row. AllZip FitsColumn columns row) r rs (fits_row row columns fields r (length fields == length columns) refl one) (fits_rows (row + 1) columns more rs rest))

-- ---- the file

fits_below : (columns : List ColumnSchema) (first : Fields) (more : List Fields) (rows : List (List Value)) (b : Bool) → ◌≡◌ {A = Or (List (List Value))} (if b then rows_of 1 columns more else Err refusal.Header) (Ok rows) → Rows columns rows
fits_below columns first more rows true e = fits_rows 1 columns more rows e
fits_below columns first more rows false e = cc e

fits_records : (columns : List ColumnSchema) (all : List Fields) (rows : List (List Value)) → below_header columns all ≡ Ok rows → Rows columns rows
fits_records columns [] rows e = cc e
fits_records columns (first ∷ more) rows e = fits_below columns first more rows (is_header columns first) e

pub fits_table : (t : TableSchema) (bytes : List ℕ) (rows : List (List Value)) → rows_in t bytes ≡ Ok rows → FitsTable t rows
unfolding rows_in
fits_table t bytes rows e = fits_records t.columns (records_of bytes) rows e
