-- What the stretches of a run give has been read and judged.
use Rattle.std.proofs.Common.{◌≡◌, inl, inr, refl, sym, ◌∙◌, ap, subst, ℕ, List, [], ◌∷◌, ◌++◌, append_assoc, codes}
use Rattle.std.specs.Prelude.{Option, Some, None, Ok, Err, IfSome}
use Rattle.std.specs.List.{AllZip}
use Rattle.std.proofs.lemmas.List.{append-nil}
use Rattle.away_trees.specs.declared.schemas.Schema.{Schema}
use Rattle.away_trees.specs.declared.schemas.TableSchema.{TableSchema}
use Rattle.csv_tables.specs.Files.{Or, rows_in}
use Rattle.sql_meaning.specs.Context.{Rows}
use Rattle.away_top.specs.declared.host.Files.{Ghosts as Files}
use Rattle.away_top.specs.declared.over_tables.program.Runnable.{Runnable}
use Rattle.away_top.specs.declared.over_tables.program.Runnable.TheVariants as run
use Rattle.away_top.specs.Files.{Asked, Callable, asked_of, callable_of, function_course, query_course, schema_course}
use Rattle.away_top.specs.Lines.{line}
use Rattle.away_top.specs.Host.{Keeps}
use Rattle.away_top.specs.Programs.{IsProgram, Program, program_course, program_of}
use Rattle.away_top.specs.Refusals.{IsFunction, IsQuery, IsSchema, RefusesFunction, RefusesQuery, RefusesRowQuery, RefusesSchema}
use Rattle.away_top.specs.RunAnswers.{AreBytesOf, Held, HoldsRows}
use Rattle.away_top.specs.RunCourse.{spelled}
use Rattle.away_top.specs.Runs.{goes_on, Follows}
use Rattle.away_top.specs.TableFiles.{IsTableRule, holding, table_course, table_file, tables_behind}
use Rattle.away_top.proofs.Parts.{IsSilent, gone, keeps, silent_refusal, silent_then, silent_usage}

-- ---- bytes, as they were told before

bytes_before : (old now : Held) (name bytes : List ℕ) (told : Option (List ℕ)) → old name ≡ told → Keeps old now → AreBytesOf now name bytes → IfSome told (λ known. bytes ≡ known)
bytes_before old now name bytes None is keep are = tt
bytes_before old now name bytes (Some known) is keep are = subst (λ o. IfSome o (λ known. bytes ≡ known)) (keep name known is) are

pub before : (old now : Held) (name bytes : List ℕ) → Keeps old now → AreBytesOf now name bytes → AreBytesOf old name bytes
before old now name bytes keep are = bytes_before old now name bytes (old name) refl keep are

pub rows_before : (old now : Held) (dir : List ℕ) → Keeps old now → (ts : List TableSchema) (rs : List Rows) → AllZip (HoldsRows now dir) ts rs → AllZip (HoldsRows old dir) ts rs
rows_before old now dir keep [] [] all = tt
rows_before old now dir keep [] (r ∷ rs) all = all
rows_before old now dir keep (t ∷ ts) [] all = all
rows_before old now dir keep (t ∷ ts) (r ∷ rs) all = (
  record { bytes = all.0.bytes; are_its = before old now (table_file dir t.name) all.0.bytes keep all.0.are_its; rows_are = all.0.rows_are },
  rows_before old now dir keep ts rs all.1,
)

-- ---- stretches that give

pub silent_spelled : {A : Type 0} (o : Option A) → IsSilent (spelled o)
silent_spelled None = silent_usage (line (codes "usage"))
silent_spelled (Some a) = tt

pub silent_holding : (file : List ℕ) (o : Or Rows) → IsSilent (holding file o)
silent_holding file (Ok rows) = tt
silent_holding file (Err refusal) = silent_refusal file (IsTableRule refusal)

pub silent_tables : (dir : List ℕ) (done : List Rows) (left : List TableSchema) → IsSilent (tables_behind dir done left)
silent_tables dir done [] = tt
silent_tables dir done (t ∷ left) = silent_then (table_course dir t) (λ rows. tables_behind dir (done ++ rows ∷ []) left) (λ bytes. silent_holding (table_file dir t.name) (rows_in t bytes)) (λ rows. silent_tables dir (done ++ rows ∷ []) left)

pub record WasSpelled {D A : Type 0} (now after : D) (o : Option A) (a : A) : Type 0 where
  pub same : after ≡ now
  pub is : o ≡ Some a

pub record WereRead (held : Held) (dir : List ℕ) (done : List Rows) (left : List TableSchema) (all : List Rows) : Type 0 where
  pub more : List Rows
  pub are : all ≡ done ++ more
  pub hold : AllZip (HoldsRows held dir) left more

pub record SchemaRead (held : Held) (name : List ℕ) (s : Schema) : Type 0 where
  pub bytes : List ℕ
  pub are_its : AreBytesOf held name bytes
  pub tables : IsSchema bytes
  pub is : s ≡ tables.schema

pub record QueryRead (held : Held) (s : Schema) (name : List ℕ) (q : Asked) : Type 0 where
  pub bytes : List ℕ
  pub are_its : AreBytesOf held name bytes
  pub asked : IsQuery s bytes
  pub is : q ≡ asked_of s asked.written

pub record FunctionRead (held : Held) (s : Schema) (name : List ℕ) (f : Callable) : Type 0 where
  pub bytes : List ℕ
  pub are_its : AreBytesOf held name bytes
  pub called : IsFunction s bytes
  pub is : f ≡ callable_of s called.written

pub record ProgramRead (what : Runnable) (held : Held) (s : Schema) (name : List ℕ) (p : Program) : Type 0 where
  pub bytes : List ℕ
  pub are_its : AreBytesOf held name bytes
  pub program : IsProgram what s bytes
  pub is : p ≡ program_of what s bytes program

pub silent_schema : (name : List ℕ) → IsSilent (schema_course name)
silent_schema name = λ bytes. (silent_refusal name (RefusesSchema bytes), λ s. tt)

pub silent_query : (s : Schema) (name : List ℕ) → IsSilent (query_course s name)
silent_query s name = λ bytes. (silent_refusal name (RefusesQuery s bytes), λ q. tt)

pub silent_function : (s : Schema) (name : List ℕ) → IsSilent (function_course s name)
silent_function s name = λ bytes. (silent_refusal name (RefusesFunction s bytes), λ f. tt)

pub silent_program : (what : Runnable) (s : Schema) (name : List ℕ) → IsSilent (program_course what s name)
silent_program run.Query s name = λ bytes. (silent_refusal name (RefusesQuery s bytes), λ q. tt)
silent_program run.Rows s name = λ bytes. (silent_refusal name (RefusesRowQuery s bytes), λ q. tt)
silent_program run.Function s name = λ bytes. (silent_refusal name (RefusesFunction s bytes), λ f. tt)

module _ {D : Type 0} (F : Files D) where
  pub was_spelled : {A : Type 0} (now after : D) (o : Option A) (a : A) → Follows F now (spelled o) after (goes_on a) → WasSpelled now after o a
  was_spelled now after None a h = absurd h.how
  was_spelled now after (Some b) a h = record { same = h.same; is = ap Some (sym h.how) }

  was_held : (now after : D) (file : List ℕ) (o : Or Rows) (rows : Rows) → Follows F now (holding file o) after (goes_on rows) → (o ≡ Ok rows) × (after ≡ now)
  was_held now after file (Err e) rows h = absurd h.how
  was_held now after file (Ok found) rows h = (ap Ok (sym h.how), h.same)

  table_read : (now after : D) (dir : List ℕ) (t : TableSchema) (rows : Rows) → Follows F now (table_course dir t) after (goes_on rows) → HoldsRows (F.held now) dir t rows
  table_read now after dir t rows (inl h) = absurd h.how
  table_read now after dir t rows (inr (middle, read, inl h)) = absurd h.how
  table_read now after dir t rows (inr (middle, read, inr (bytes, holds, h))) = record { bytes = bytes; are_its = holds.same; rows_are = (was_held middle after (table_file dir t.name) (rows_in t bytes) rows h).0 }

  pub tables_read : (now after : D) (dir : List ℕ) (done : List Rows) (left : List TableSchema) (all : List Rows) → Follows F now (tables_behind dir done left) after (goes_on all) → WereRead (F.held now) dir done left all
  tables_read now after dir done [] all h = record { more = []; are = h.how ∙ sym (append-nil done); hold = tt }
  tables_read now after dir done (t ∷ left) all h =
      let g = gone F now after (table_course dir t) (λ rows. tables_behind dir (done ++ rows ∷ []) left) (goes_on all) tt (λ bytes. silent_holding (table_file dir t.name) (rows_in t bytes)) h in
      let rest = tables_read g.middle after dir (done ++ g.given ∷ []) left all g.rest in
      record {
        more = g.given ∷ rest.more;
        are = rest.are ∙ append_assoc done (g.given ∷ []) rest.more;
        hold = (table_read now g.middle dir t g.given g.first, rows_before (F.held now) (F.held g.middle) dir (keeps F now g.middle (table_course dir t) (goes_on g.given) g.first) left rest.more rest.hold);
      }

  pub schema_read : (now after : D) (name : List ℕ) (s : Schema) → Follows F now (schema_course name) after (goes_on s) → SchemaRead (F.held now) name s
  schema_read now after name s (inl h) = absurd h.how
  schema_read now after name s (inr (middle, read, inl h)) = absurd h.how
  schema_read now after name s (inr (middle, read, inr (bytes, holds, inl h))) = absurd h.how
  schema_read now after name s (inr (middle, read, inr (bytes, holds, inr (w, h)))) = record { bytes = bytes; are_its = holds.same; tables = w; is = h.how }

  pub query_read : (now after : D) (s : Schema) (name : List ℕ) (q : Asked) → Follows F now (query_course s name) after (goes_on q) → QueryRead (F.held now) s name q
  query_read now after s name q (inl h) = absurd h.how
  query_read now after s name q (inr (middle, read, inl h)) = absurd h.how
  query_read now after s name q (inr (middle, read, inr (bytes, holds, inl h))) = absurd h.how
  query_read now after s name q (inr (middle, read, inr (bytes, holds, inr (w, h)))) = record { bytes = bytes; are_its = holds.same; asked = w; is = h.how }

  pub function_read : (now after : D) (s : Schema) (name : List ℕ) (f : Callable) → Follows F now (function_course s name) after (goes_on f) → FunctionRead (F.held now) s name f
  function_read now after s name f (inl h) = absurd h.how
  function_read now after s name f (inr (middle, read, inl h)) = absurd h.how
  function_read now after s name f (inr (middle, read, inr (bytes, holds, inl h))) = absurd h.how
  function_read now after s name f (inr (middle, read, inr (bytes, holds, inr (w, h)))) = record { bytes = bytes; are_its = holds.same; called = w; is = h.how }

  pub program_read : (what : Runnable) (now after : D) (s : Schema) (name : List ℕ) (p : Program) → Follows F now (program_course what s name) after (goes_on p)
      → ProgramRead what (F.held now) s name p
  program_read run.Query now after s name p (inl h) = absurd h.how
  program_read run.Query now after s name p (inr (middle, read, inl h)) = absurd h.how
  program_read run.Query now after s name p (inr (middle, read, inr (bytes, holds, inl h))) = absurd h.how
  program_read run.Query now after s name p (inr (middle, read, inr (bytes, holds, inr (w, h)))) = record { bytes = bytes; are_its = holds.same; program = w; is = h.how }
  program_read run.Rows now after s name p (inl h) = absurd h.how
  program_read run.Rows now after s name p (inr (middle, read, inl h)) = absurd h.how
  program_read run.Rows now after s name p (inr (middle, read, inr (bytes, holds, inl h))) = absurd h.how
  program_read run.Rows now after s name p (inr (middle, read, inr (bytes, holds, inr (w, h)))) = record { bytes = bytes; are_its = holds.same; program = w; is = h.how }
  program_read run.Function now after s name p (inl h) = absurd h.how
  program_read run.Function now after s name p (inr (middle, read, inl h)) = absurd h.how
  program_read run.Function now after s name p (inr (middle, read, inr (bytes, holds, inl h))) = absurd h.how
  program_read run.Function now after s name p (inr (middle, read, inr (bytes, holds, inr (w, h)))) = record { bytes = bytes; are_its = holds.same; program = w; is = h.how }
