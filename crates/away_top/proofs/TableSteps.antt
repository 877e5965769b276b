-- How the tables of a folder grow by one file.
use Rattle.std.proofs.Common.{◌≡◌, ◌≢◌, refl, sym, ◌∙◌, ap, subst, ℕ, ◌+◌, ◌<◌, ◌≤◌, get_or, drop, List, [], ◌∷◌, ◌++◌, length}
use Rattle.std.specs.Prelude.{Ok}
use Rattle.away_values.specs.declared.values.Table.{Table}
use Rattle.away_trees.specs.declared.schemas.TableSchema.{TableSchema}
use Rattle.csv_tables.specs.Files.{Refuses, rows_in}
use Rattle.csv_tables.specs.declared.refusal.TableRefusal.{TableRefusal}
use Rattle.csv_tables.specs.declared.refusal.TableRefusal.TheVariants as refusal
use Rattle.sql_meaning.specs.AtBound.{rows_of_tables}
use Rattle.sql_meaning.specs.Context.{Rows}
use Rattle.away_top.specs.declared.host.Files.{Ghosts as Files}
use Rattle.away_top.specs.declared.ending.Ending.{Ending}
use Rattle.away_top.specs.declared.ending.Halt.{Halt}
use Rattle.away_top.specs.Course.{Course, RefusedBy}
use Rattle.away_top.specs.Runs.{End, wants_memory, ended, goes_on, Follows, Holds, IsRead, StopsAt}
use Rattle.away_top.specs.Steps.{IsHalt, halt_end}
use Rattle.away_top.specs.TableFiles.{IsTableRule, holding, table_course, table_file, tables_behind, tables_course}
use Rattle.away_top.proofs.ArgumentSteps.{drop_get, drop_past}
use Rattle.away_top.proofs.Stretches.{goes_further, goes_on_there, stops_early, stops_there, wants_at_once}

-- ---- one table

no_want : (e : TableRefusal) (rule : List ℕ) → IsTableRule e rule → e ≢ refusal.NoMemory
no_want refusal.Header rule is same = cc
no_want (refusal.Count row) rule is same = cc
no_want (refusal.Cell row column) rule is same = cc
no_want (refusal.NullCell row column) rule is same = cc
no_want refusal.NoMemory rule is same = is

module _ {D : Type 0} (F : Files D) (before middle : D) (dir file : List ℕ) (t : TableSchema) (bytes : List ℕ)
    (file_is : file ≡ table_file dir t.name) (read : IsRead F before file middle) (holds : Holds F before file 67108864 bytes) where
  there : (end : End Rows) → Follows F middle (holding file (rows_in t bytes)) middle end → Follows F before (table_course dir t) middle end
  there end h =
      subst (λ f. Follows F before (Course.reads f 67108864 (λ bytes. holding f (rows_in t bytes))) middle end) file_is
      (goes_on_there F before middle middle file 67108864 (λ bytes. holding file (rows_in t bytes)) bytes end read holds h)

  pub table_held : (rows : Rows) → rows_in t bytes ≡ Ok rows → Follows F before (table_course dir t) middle (goes_on rows)
  table_held rows is = there (goes_on rows) (subst (λ o. Follows F middle (holding file o) middle (goes_on rows)) (sym is) (record { same = refl; how = refl }))

  pub table_refused : (e : TableRefusal) (ending : Ending) → Refuses (rows_in t bytes) e → RefusedBy file (IsTableRule e) ending.status ending.output.items
      → Follows F before (table_course dir t) middle (ended ending.status ending.output.items)
  table_refused e ending refuses (rule, is, end) =
      there (ended ending.status ending.output.items) (
      subst (λ o. Follows F middle (holding file o) middle (ended ending.status ending.output.items)) (sym (refuses.meant_is (no_want e rule is)))
      (record { same = refl; how = (rule, is, end) })
      )

  pub table_wants : Follows F before (table_course dir t) middle wants_memory
  table_wants = there wants_memory (wants_at_once F middle (holding file (rows_in t bytes)))

-- the run ends at the file
pub table_stops : {D : Type 0} (F : Files D) (before after : D) (dir file : List ℕ) (t : TableSchema) (halt : Halt) → file ≡ table_file dir t.name → IsRead F before file after
    → IsHalt (StopsAt F before file 67108864 after) halt → Follows F before (table_course dir t) after (halt_end halt)
table_stops F before after dir file t halt file_is read stops =
    subst (λ f. Follows F before (Course.reads f 67108864 (λ bytes. holding f (rows_in t bytes))) after (halt_end halt)) file_is
    (stops_there F before after file 67108864 (λ bytes. holding file (rows_in t bytes)) halt read stops)

-- ---- all tables

rows_more : (list : List Table) (t : Table) → rows_of_tables (list ++ t ∷ []) ≡ rows_of_tables list ++ t.rows ∷ []
rows_more [] t = refl
rows_more (first ∷ list) t = ap (λ rows. first.rows ∷ rows) (rows_more list t)

-- the tables up to a place were read, and a run that goes on with the others is a run of all
pub record ReadTo {D : Type 0} (F : Files D) (dir : List ℕ) (tables : List TableSchema) (old now : D) (i : ℕ) (done : List Table) : Type 0 where
  pub rest : (after : D) (end : End (List Rows)) → Follows F now (tables_behind dir (rows_of_tables done) (drop i tables)) after end → Follows F old (tables_course dir tables) after end

pub tables_begin : {D : Type 0} (F : Files D) (dir : List ℕ) (tables : List TableSchema) (old : D) → ReadTo F dir tables old old 0 []
tables_begin F dir tables old = record { rest = λ after end h. h }

module _ {D : Type 0} (F : Files D) (dir : List ℕ) (tables : List TableSchema) (old now : D) (i : ℕ) (done : List Table) (h : ReadTo F dir tables old now i done) where
  pub tables_end : length tables ≤ i → Follows F old (tables_course dir tables) now (goes_on (rows_of_tables done))
  tables_end past =
      h.rest now (goes_on (rows_of_tables done)) (subst (λ left. Follows F now (tables_behind dir (rows_of_tables done) left) now (goes_on (rows_of_tables done))) (sym (drop_past tables i past)) (record { same = refl; how = refl }))

  module _ (t : TableSchema) (inside : i < length tables) (at : t ≡ get_or tables i t) where
    abbrev next : Rows → Course (List Rows)
    next rows = tables_behind dir (rows_of_tables done ++ rows ∷ []) (drop (i + 1) tables)

    whole : (after : D) (end : End (List Rows)) → Follows F now (tables_behind dir (rows_of_tables done) (t ∷ drop (i + 1) tables)) after end → Follows F old (tables_course dir tables) after end
    whole after end h2 = h.rest after end (subst (λ left. Follows F now (tables_behind dir (rows_of_tables done) left) after end) (sym (drop_get tables i t inside at)) h2)

    pub tables_stop : (after : D) (halt : Halt) → Follows F now (table_course dir t) after (halt_end halt) → Follows F old (tables_course dir tables) after (halt_end halt)
    tables_stop after halt first = whole after (halt_end halt) (stops_early F now after (table_course dir t) next halt first)

    module _ (middle : D) (found : Table) (first : Follows F now (table_course dir t) middle (goes_on found.rows)) where
      pub tables_more : (all : List Table) → all ≡ done ++ found ∷ [] → ReadTo F dir tables old middle (i + 1) all
      tables_more all grown = record {
        rest = λ after end rest.
            whole after end (goes_further F now middle after (table_course dir t) next found.rows end first
            (subst (λ rows. Follows F middle (tables_behind dir rows (drop (i + 1) tables)) after end) (ap rows_of_tables grown ∙ rows_more done found) rest));
      }

      pub tables_want : Follows F old (tables_course dir tables) middle wants_memory
      tables_want = whole middle wants_memory (goes_further F now middle middle (table_course dir t) next found.rows wants_memory first (wants_at_once F middle (next found.rows)))
