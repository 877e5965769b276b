-- How the rows of a file grow by one field and by one record.
use Rattle.std.proofs.Common.{◌≡◌, refl, sym, ◌∙◌, ap, ℕ, zero, suc, ◌+◌, ◌≤◌, arith, drop, ◌≢◌, Bool, true, false, ◌&&◌, List, [], ◌∷◌, ◌++◌, length, append_assoc, eq-eqb}
use Rattle.std.proofs.lemmas.List.{append-nil}
use Rattle.csv.specs.Records.{field_at}
use Rattle.away_trees.specs.declared.schemas.TableSchema.{TableSchema}
use Rattle.std.specs.Prelude.{Option, Some, None, Ok, Err, get_or, ◌<◌, bytes_eq, if◌then◌else◌}
use Rattle.std.specs.Option.{ok_or}
use Rattle.std.proofs.lemmas.Bool.{ne_eqb}
use Rattle.csv_tables.specs.Cells.{is_null_mark, value_of}
use Rattle.csv_tables.specs.declared.refusal.TableRefusal.TheVariants as refusal
use Rattle.away_values.specs.declared.values.Value.{Value}
use Rattle.away_trees.specs.declared.schemas.ColumnSchema.{ColumnSchema}
use Rattle.csv_tables.specs.declared.refusal.TableRefusal.{TableRefusal}
use Rattle.csv_tables.specs.Files.{Fields, Or, and_then, mapped, Refuses, cell_of, below_header, cells_of, is_header, records_of, row_of, rows_in, rows_of}

-- one more at the end of what was read is one less at the front of what is left
mapped_more : {A : Type 0} (done : List A) (a : A) (o : Or (List A)) → mapped (λ more. done ++ more) (mapped (λ more. a ∷ more) o) ≡ mapped (λ more. (done ++ (a ∷ [])) ++ more) o
mapped_more done a (Ok more) = ap Ok (sym (append_assoc done (a ∷ []) more))
mapped_more done a (Err e) = refl

none_yet : {A : Type 0} (o : Or (List A)) → o ≡ mapped (λ more. [] ++ more) o
none_yet (Ok rows) = refl
none_yet (Err e) = refl

-- ---- a field

refuses : {A : Type 0} (meant : Or A) (e : TableRefusal) → meant ≡ Err e → Refuses meant e
refuses meant e h = record { meant_is = λ _. h }

pub null_cell : (row place : ℕ) (c : ColumnSchema) (f : List ℕ) → (c.not_null && is_null_mark f) ≡ true → Refuses (cell_of row place c f) (refusal.NullCell row place)
unfolding cell_of
null_cell row place c f h = refuses (cell_of row place c f) (refusal.NullCell row place) (ap (λ b. if b then Err (refusal.NullCell row place) else ok_or (value_of c.ty f) (refusal.Cell row place)) h)

pub some_cell : (row place : ℕ) (c : ColumnSchema) (f : List ℕ) (v : Value) → (c.not_null && is_null_mark f) ≡ false → Some v ≡ value_of c.ty f → cell_of row place c f ≡ Ok v
unfolding cell_of
some_cell row place c f v h e = ap (λ b. if b then Err (refusal.NullCell row place) else ok_or (value_of c.ty f) (refusal.Cell row place)) h ∙ ap (λ o. ok_or o (refusal.Cell row place)) (sym e)

pub no_cell : (row place : ℕ) (c : ColumnSchema) (f : List ℕ) → (c.not_null && is_null_mark f) ≡ false → ◌≡◌ {A = Option Value} None (value_of c.ty f) → Refuses (cell_of row place c f) (refusal.Cell row place)
unfolding cell_of
no_cell row place c f h e = refuses (cell_of row place c f) (refusal.Cell row place)
    (ap (λ b. if b then Err (refusal.NullCell row place) else ok_or (value_of c.ty f) (refusal.Cell row place)) h ∙ ap (λ o. ok_or o (refusal.Cell row place)) (sym e))

pub ruleset cell_cases = (null_cell, some_cell, no_cell)

-- ---- the number of fields

and_false : (b : Bool) → (b && false) ≡ false
and_false true = refl
and_false false = refl

pub other_header : (cs : List ColumnSchema) (fs : Fields) → length cs ≢ length fs → is_header cs fs ≡ false
other_header [] [] h = absurd (h refl)
other_header [] (f ∷ fs) h = refl
other_header (c ∷ cs) [] h = refl
other_header (c ∷ cs) (f ∷ fs) h = ap (λ b. bytes_eq f c.name && b) (other_header cs fs (λ e. h (ap suc e))) ∙ and_false (bytes_eq f c.name)

pub other_count : (row : ℕ) (columns : List ColumnSchema) (fields : Fields) → length fields ≢ length columns → Refuses (row_of row columns fields) (refusal.Count row)
unfolding row_of
other_count row columns fields h = refuses (row_of row columns fields) (refusal.Count row) (ap (λ b. if b then cells_of row 1 columns fields else Err (refusal.Count row)) (ne_eqb (length fields) (length columns) h))

pub same_count : (row : ℕ) (columns : List ColumnSchema) (fields : Fields) → length fields ≡ length columns → row_of row columns fields ≡ cells_of row 1 columns fields
unfolding row_of
same_count row columns fields h = ap (λ b. if b then cells_of row 1 columns fields else Err (refusal.Count row)) (eq-eqb (length fields) (length columns) h)

-- ---- fields

suc-add-one : (i : ℕ) → suc i + 1 ≡ suc (i + 1)
suc-add-one i = omega arith

drop_get : {A : Type 0} (xs : List A) (i : ℕ) (x : A) → i < length xs → x ≡ get_or xs i x → drop i xs ≡ x ∷ drop (i + 1) xs
drop_get [] i x h e = absurd (omega (arith, h))
drop_get (y ∷ ys) zero x h e = ap (λ z. z ∷ ys) (sym e)
drop_get (y ∷ ys) (suc i) x h e = drop_get ys i x (omega (arith, h)) e ∙ ap (λ n. x ∷ drop n (y ∷ ys)) (sym (suc-add-one i))

drop_field : (fs : Fields) (i : ℕ) (f : List ℕ) → field_at fs i ≡ Some f → drop i fs ≡ f ∷ drop (i + 1) fs
unfolding field_at
drop_field [] i f e = cc e
drop_field (g ∷ gs) zero f e = let same : g ≡ f = cc in ap (λ z. z ∷ gs) same
drop_field (g ∷ gs) (suc i) f e = drop_field gs i f e ∙ ap (λ n. f ∷ drop n (g ∷ gs)) (sym (suc-add-one i))

drop_past : {A : Type 0} (xs : List A) (i : ℕ) → length xs ≤ i → drop i xs ≡ []
drop_past [] zero h = refl
drop_past [] (suc i) h = refl
drop_past (x ∷ xs) zero h = absurd (omega arith)
drop_past (x ∷ xs) (suc i) h = drop_past xs i (omega arith)

header_at : (columns : List ColumnSchema) (fields : Fields) (i : ℕ) (c : ColumnSchema) (f : List ℕ) → i < length columns → c ≡ get_or columns i c → Some f ≡ field_at fields i
    → is_header (drop i columns) (drop i fields) ≡ (bytes_eq f c.name && is_header (drop (i + 1) columns) (drop (i + 1) fields))
header_at columns fields i c f in_c at_c at_f =
    ap (λ cs. is_header cs (drop i fields)) (drop_get columns i c in_c at_c) ∙ ap (λ fs. is_header (c ∷ drop (i + 1) columns) fs) (drop_field fields i f (sym at_f))

pub header_more : (whole : Bool) (columns : List ColumnSchema) (fields : Fields) (i : ℕ) (c : ColumnSchema) (f : List ℕ) → i < length columns → c ≡ get_or columns i c → Some f ≡ field_at fields i
    → whole ≡ is_header (drop i columns) (drop i fields) → bytes_eq f c.name ≡ true → whole ≡ is_header (drop (i + 1) columns) (drop (i + 1) fields)
header_more whole columns fields i c f in_c at_c at_f h e = h ∙ header_at columns fields i c f in_c at_c at_f ∙ ap (λ b. b && is_header (drop (i + 1) columns) (drop (i + 1) fields)) e

pub header_fails : (whole : Bool) (columns : List ColumnSchema) (fields : Fields) (i : ℕ) (c : ColumnSchema) (f : List ℕ) → i < length columns → c ≡ get_or columns i c → Some f ≡ field_at fields i
    → whole ≡ is_header (drop i columns) (drop i fields) → bytes_eq f c.name ≡ false → false ≡ whole
header_fails whole columns fields i c f in_c at_c at_f h e = sym (h ∙ header_at columns fields i c f in_c at_c at_f ∙ ap (λ b. b && is_header (drop (i + 1) columns) (drop (i + 1) fields)) e)

-- what the values of a row are, from those that were read and those of the fields from a place on
pub record ReadTo (row : ℕ) (columns : List ColumnSchema) (fields : Fields) (i : ℕ) (done : List Value) : Type 0 where
  pub long : length fields ≡ length columns
  pub rest : cells_of row 1 columns fields ≡ mapped (λ more. done ++ more) (cells_of row (i + 1) (drop i columns) (drop i fields))

pub values_begin : (row : ℕ) (columns : List ColumnSchema) (fields : Fields) → length fields ≡ length columns → ReadTo row columns fields 0 []
values_begin row columns fields h = record { long = h; rest = none_yet (cells_of row 1 columns fields) }

values_at : (row : ℕ) (columns : List ColumnSchema) (fields : Fields) (i : ℕ) (done : List Value) (c : ColumnSchema) (f : List ℕ) → i < length columns → c ≡ get_or columns i c → Some f ≡ field_at fields i
    → ReadTo row columns fields i done
    → cells_of row 1 columns fields ≡ mapped (λ more. done ++ more) (and_then (cell_of row (i + 1) c f) (λ v. mapped (λ vs. v ∷ vs) (cells_of row (i + 1 + 1) (drop (i + 1) columns) (drop (i + 1) fields))))
unfolding cells_of
values_at row columns fields i done c f in_c at_c at_f h =
    h.rest ∙ ap (λ cs. mapped (λ more. done ++ more) (cells_of row (i + 1) cs (drop i fields))) (drop_get columns i c in_c at_c)
    ∙ ap (λ fs. mapped (λ more. done ++ more) (cells_of row (i + 1) (c ∷ drop (i + 1) columns) fs)) (drop_field fields i f (sym at_f))

pub values_more : (row : ℕ) (columns : List ColumnSchema) (fields : Fields) (i : ℕ) (done all : List Value) (c : ColumnSchema) (f : List ℕ) (v : Value)
    → i < length columns → c ≡ get_or columns i c → Some f ≡ field_at fields i → ReadTo row columns fields i done → cell_of row (i + 1) c f ≡ Ok v → all ≡ done ++ (v ∷ []) → ReadTo row columns fields (i + 1) all
values_more row columns fields i done all c f v in_c at_c at_f h e grown =
    let left = cells_of row (i + 1 + 1) (drop (i + 1) columns) (drop (i + 1) fields) in
    record {
      long = h.long;
      rest = values_at row columns fields i done c f in_c at_c at_f h ∙ ap (λ o. mapped (λ more. done ++ more) (and_then o (λ v. mapped (λ vs. v ∷ vs) left))) e ∙ mapped_more done v left
          ∙ ap (λ vs. mapped (λ more. vs ++ more) left) (sym grown);
    }

pub values_refused : (row : ℕ) (columns : List ColumnSchema) (fields : Fields) (i : ℕ) (done : List Value) (c : ColumnSchema) (f : List ℕ) (e : TableRefusal)
    → i < length columns → c ≡ get_or columns i c → Some f ≡ field_at fields i → ReadTo row columns fields i done → Refuses (cell_of row (i + 1) c f) e → Refuses (row_of row columns fields) e
values_refused row columns fields i done c f e in_c at_c at_f h r =
    let left = cells_of row (i + 1 + 1) (drop (i + 1) columns) (drop (i + 1) fields) in
    record {
      meant_is = λ other. same_count row columns fields h.long ∙ values_at row columns fields i done c f in_c at_c at_f h
          ∙ ap (λ o. mapped (λ more. done ++ more) (and_then o (λ v. mapped (λ vs. v ∷ vs) left))) (r.meant_is other);
    }

pub values_end : (row : ℕ) (columns : List ColumnSchema) (fields : Fields) (i : ℕ) (done : List Value) → length columns ≤ i → ReadTo row columns fields i done → row_of row columns fields ≡ Ok done
unfolding cells_of
values_end row columns fields i done past h =
    same_count row columns fields h.long ∙ h.rest ∙ ap (λ cs. mapped (λ more. done ++ more) (cells_of row (i + 1) cs (drop i fields))) (drop_past columns i past) ∙ ap Ok (append-nil done)

-- ---- records

-- what the rows of a file are, from those that were read and those of the records that are left
pub record ReadRows (columns : List ColumnSchema) (all : List Fields) (row : ℕ) (done : List (List Value)) (left : List Fields) : Type 0 where
  pub rest : rows_of 1 columns all ≡ mapped (λ more. done ++ more) (rows_of row columns left)

pub rows_begin : (columns : List ColumnSchema) (all : List Fields) → ReadRows columns all 1 [] all
rows_begin columns all = record { rest = none_yet (rows_of 1 columns all) }

rows_at : (columns : List ColumnSchema) (all left more : List Fields) (row : ℕ) (done : List (List Value)) (fields : Fields) → ReadRows columns all row done left → left ≡ fields ∷ more
    → rows_of 1 columns all ≡ mapped (λ rs. done ++ rs) (and_then (row_of row columns fields) (λ r. mapped (λ rs. r ∷ rs) (rows_of (row + 1) columns more)))
unfolding rows_of
rows_at columns all left more row done fields h is = h.rest ∙ ap (λ l. mapped (λ rs. done ++ rs) (rows_of row columns l)) is

pub rows_more : (columns : List ColumnSchema) (all left more : List Fields) (row : ℕ) (done grown : List (List Value)) (fields : Fields) (r : List Value)
    → ReadRows columns all row done left → left ≡ fields ∷ more → row_of row columns fields ≡ Ok r → grown ≡ done ++ (r ∷ []) → ReadRows columns all (row + 1) grown more
rows_more columns all left more row done grown fields r h is e pushed = record {
  rest = rows_at columns all left more row done fields h is
      ∙ ap (λ o. mapped (λ rs. done ++ rs) (and_then o (λ r. mapped (λ rs. r ∷ rs) (rows_of (row + 1) columns more)))) e
      ∙ mapped_more done r (rows_of (row + 1) columns more) ∙ ap (λ rs. mapped (λ more. rs ++ more) (rows_of (row + 1) columns more)) (sym pushed);
}

pub rows_refused : (columns : List ColumnSchema) (all left more : List Fields) (row : ℕ) (done : List (List Value)) (fields : Fields) (e : TableRefusal)
    → ReadRows columns all row done left → left ≡ fields ∷ more → Refuses (row_of row columns fields) e → Refuses (rows_of 1 columns all) e
rows_refused columns all left more row done fields e h is r = record {
  meant_is = λ other. rows_at columns all left more row done fields h is
      ∙ ap (λ o. mapped (λ rs. done ++ rs) (and_then o (λ r. mapped (λ rs. r ∷ rs) (rows_of (row + 1) columns more)))) (r.meant_is other);
}

pub rows_end : (columns : List ColumnSchema) (all left : List Fields) (row : ℕ) (done : List (List Value)) → ReadRows columns all row done left → left ≡ [] → rows_of 1 columns all ≡ Ok done
unfolding rows_of
rows_end columns all left row done h is = h.rest ∙ ap (λ l. mapped (λ rs. done ++ rs) (rows_of row columns l)) is ∙ ap Ok (append-nil done)

-- ---- the file

pub no_header : (t : TableSchema) (bytes : List ℕ) → records_of bytes ≡ [] → Refuses (rows_in t bytes) refusal.Header
unfolding rows_in
no_header t bytes is = refuses (rows_in t bytes) refusal.Header (ap (below_header t.columns) is)

below : (t : TableSchema) (bytes : List ℕ) (first : Fields) (more : List Fields) (b : Bool) → records_of bytes ≡ first ∷ more → is_header t.columns first ≡ b
    → rows_in t bytes ≡ (if b then rows_of 1 t.columns more else Err refusal.Header)
unfolding rows_in
below t bytes first more b is e = ap (below_header t.columns) is ∙ ap (λ b. if b then rows_of 1 t.columns more else Err refusal.Header) e

pub wrong_header : (t : TableSchema) (bytes : List ℕ) (first : Fields) (more : List Fields) → records_of bytes ≡ first ∷ more → is_header t.columns first ≡ false → Refuses (rows_in t bytes) refusal.Header
wrong_header t bytes first more is e = refuses (rows_in t bytes) refusal.Header (below t bytes first more false is e)

pub below_refused : (t : TableSchema) (bytes : List ℕ) (first : Fields) (more : List Fields) (e : TableRefusal) → records_of bytes ≡ first ∷ more → is_header t.columns first ≡ true
    → Refuses (rows_of 1 t.columns more) e → Refuses (rows_in t bytes) e
below_refused t bytes first more e is named r = record { meant_is = λ other. below t bytes first more true is named ∙ r.meant_is other }

pub below_read : (t : TableSchema) (bytes : List ℕ) (first : Fields) (more : List Fields) (rows : List (List Value)) → records_of bytes ≡ first ∷ more → is_header t.columns first ≡ true
    → rows_of 1 t.columns more ≡ Ok rows → rows_in t bytes ≡ Ok rows
below_read t bytes first more rows is named r = below t bytes first more true is named ∙ r
