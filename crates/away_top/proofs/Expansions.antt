-- What a run of `expand` has written that is done.
use Rattle.std.proofs.Common.{◌≡◌, ◌∙◌, refl, inl, inr, ap, subst, sym, ℕ, List, [], ◌∷◌, ◌++◌, length, Bool, true, false, if◌then◌else◌, nat_lt}
use Rattle.std.specs.Prelude.{Option, Some, None}
use Rattle.away_trees.specs.declared.schemas.Schema.{Schema}
use Rattle.away_trees.specs.declared.statements.Function.{Function}
use Rattle.away_top.specs.declared.host.Files.{Ghosts as Files}
use Rattle.away_top.specs.declared.host.Sink.{Ghosts as Sink}
use Rattle.away_top.specs.declared.status.Status.{Status}
use Rattle.away_top.specs.declared.status.Status.TheVariants.{Done, NoMemory, Refused, Usage, WriteFault}
use Rattle.away_top.specs.Answer.{Delivers}
use Rattle.away_top.specs.Commands.{command_of, course, course_of}
use Rattle.away_top.specs.Course.{and_then}
use Rattle.away_top.specs.ExpandCourse.{AllHeld, AllRead, EndsWith, IsExpandedFor, IsExpandedOf, WritesExpanded, expand_course, functions_behind, with_functions, with_others}
use Rattle.away_top.specs.Refusals.{IsSchema, ReadsAsFunction}
use Rattle.away_top.specs.RunCourse.{spelled}
use Rattle.away_top.specs.Runs.{End, wants_memory, ended, goes_on, Follows}
use Rattle.away_top.proofs.Headlines.{no_refusal, no_stop, same_bytes}
use Rattle.away_top.proofs.Words.{asks_expand}
use Rattle.program_check.specs.Refusing.{IsProgram}

-- what the bytes of the files read as, and how the run over them ends
pub record EndsOver (main : List ℕ) (tables : List ℕ) (files : List (List ℕ)) (text : List ℕ) (status : Status) (output : List ℕ) : Type 0 where
  pub schema : IsSchema tables
  pub functions : List Function
  pub read : AllRead files functions
  pub program : IsProgram functions schema.schema
  pub ends_so : EndsWith main schema.schema functions text status output

-- what is read of one file more stands behind the others
all_read_more : (done : List (List ℕ)) (fs : List Function) (bytes : List ℕ) (f : Function) → AllRead done fs → AllRead (bytes ∷ []) (f ∷ []) → AllRead (done ++ bytes ∷ []) (fs ++ f ∷ [])
all_read_more [] [] bytes f h one = one
all_read_more [] (g ∷ fs) bytes f h one = absurd h
all_read_more (b ∷ done) [] bytes f h one = absurd h
all_read_more (b ∷ done) (g ∷ fs) bytes f h one = (h.0, all_read_more done fs bytes f h.1 one)

module _ {tables : List ℕ} {files : List (List ℕ)} (s : IsSchema tables) (fs : List Function) (read : AllRead files fs) (p : IsProgram fs s.schema) where
  pub expanded_for : (text output : List ℕ) → output ≡ text → IsExpandedOf s.schema fs text → IsExpandedFor tables files output
  expanded_for text output is x = record { tables = s; functions = fs; read = read; program = p; expanded = subst (λ t. IsExpandedOf s.schema fs t) (sym is) x }

  pub done_for : (main text output : List ℕ) (status : Status) → status ≡ Done → EndsWith main s.schema fs text status output → IsExpandedFor tables files output
  done_for main text output status done (inl (x, e)) = expanded_for text output e.1 x
  done_for main text output status done (inr (rule, is, e)) = absurd (let wrong : Refused ≡ Done = sym e.0 ∙ done in cc)

-- ---- lists of files

pub one_behind : {X : Type 0} (xs : List X) (y : X) (ys : List X) → xs ++ y ∷ ys ≡ (xs ++ y ∷ []) ++ ys
one_behind [] y ys = refl
one_behind (x ∷ xs) y ys = ap (λ zs. x ∷ zs) (one_behind xs y ys)

pub none_behind : {X : Type 0} (xs : List X) → xs ++ [] ≡ xs
none_behind [] = refl
none_behind (x ∷ xs) = ap (λ zs. x ∷ zs) (none_behind xs)

kept_all : (old new : List ℕ → Option (List ℕ)) → ((name bytes : List ℕ) → old name ≡ Some bytes → new name ≡ Some bytes) → (names files : List (List ℕ)) → AllHeld old names files → AllHeld new names files
kept_all old new keep [] [] h = tt
kept_all old new keep [] (bytes ∷ more) h = absurd h
kept_all old new keep (name ∷ names) [] h = absurd h
kept_all old new keep (name ∷ names) (bytes ∷ more) h = (keep name bytes h.0, kept_all old new keep names more h.1)

-- ---- the whole run

-- what the functions' files read as, and how the run over them ends
pub record EndsOverFunctions (s : Schema) (main : List ℕ) (files : List (List ℕ)) (text : List ℕ) (status : Status) (output : List ℕ) : Type 0 where
  pub functions : List Function
  pub read : AllRead files functions
  pub program : IsProgram functions s
  pub ends_so : EndsWith main s functions text status output

module _ {D : Type 0} (F : Files D) (new : D) (main : List ℕ) (others : List (List ℕ)) (text output : List ℕ) (status : Status) (done : status ≡ Done) where
  -- a run that is done has read and judged the functions of the files that are left
  of_functions : (now : D) (s : Schema) (left : List (List ℕ)) (fs : List Function) (known files whole : List (List ℕ)) → whole ≡ known ++ files → AllHeld (F.held now) left files → AllRead known fs
      → Follows F now (and_then (functions_behind fs left) (with_functions main others text s)) new (ended status output) → EndsOverFunctions s main whole text status output
  of_functions now s [] fs known [] whole is held read (inl h) = absurd (let wrong : Refused ≡ Done = sym h.how.1.2.0 ∙ done in cc)
  of_functions now s [] fs known [] whole is held read (inr (p, h)) = record {
    functions = fs;
    read = subst (λ files. AllRead files fs) (sym (is ∙ none_behind known)) read;
    program = p;
    ends_so = h.how;
  }
  of_functions now s [] fs known (bytes ∷ files) whole is held read h = absurd held
  of_functions now s (name ∷ left) fs known [] whole is held read h = absurd held
  of_functions now s (name ∷ left) fs known (bytes ∷ files) whole is held read (inl h) = absurd h.how
  of_functions now s (name ∷ left) fs known (bytes ∷ files) whole is held read (inr (middle, reads, inl h)) = absurd (no_stop F now middle name 1048576 status output done h.how)
  of_functions now s (name ∷ left) fs known (bytes ∷ files) whole is held read (inr (middle, reads, inr (more, holds, inl h))) = absurd (no_refusal F name _ status output done h.how)
  of_functions now s (name ∷ left) fs known (bytes ∷ files) whole is held read (inr (middle, reads, inr (more, holds, inr (f, rest)))) =
      let bytes_are = same_bytes F now name 1048576 more bytes held.0 holds in
      let one : ReadsAsFunction bytes f.written = subst (λ b. ReadsAsFunction b f.written) bytes_are f.reads_as in
      of_functions middle s left (fs ++ f.written ∷ []) (known ++ bytes ∷ []) files whole (is ∙ one_behind known bytes files) (kept_all (F.held now) (F.held middle) reads.kept left files held.1)
      (all_read_more known fs bytes f.written read (one, tt)) rest

  over_schema : (bytes tables : List ℕ) (files : List (List ℕ)) (s : IsSchema bytes) → bytes ≡ tables → EndsOverFunctions s.schema main files text status output → EndsOver main tables files text status output
  over_schema bytes tables files s is e = subst (λ b. EndsOver main b files text status output) is (record { schema = s; functions = e.functions; read = e.read; program = e.program; ends_so = e.ends_so })

  of_files : (old : D) (schema tables : List ℕ) (files : List (List ℕ)) → F.held old schema ≡ Some tables → AllHeld (F.held old) (main ∷ others) files
      → Follows F old (with_others schema main text others) new (ended status output) → EndsOver main tables files text status output
  of_files old schema tables files told held (inl h) = absurd h.how
  of_files old schema tables files told held (inr (middle, reads, inl h)) = absurd (no_stop F old middle schema 67108864 status output done h.how)
  of_files old schema tables files told held (inr (middle, reads, inr (bytes, holds, inl h))) = absurd (no_refusal F schema _ status output done h.how)
  of_files old schema tables files told held (inr (middle, reads, inr (bytes, holds, inr (s, rest)))) =
      over_schema bytes tables files s (same_bytes F old schema 67108864 bytes tables told holds)
      (of_functions middle s.schema (main ∷ others) [] [] files files refl (kept_all (F.held old) (F.held middle) reads.kept (main ∷ others) files held) tt rest)

  -- too many files are no form, whose run isn't done
  of_words : (old : D) (schema tables : List ℕ) (files : List (List ℕ)) → F.held old schema ≡ Some tables → AllHeld (F.held old) (main ∷ others) files
      → Follows F old (expand_course schema main others text) new (ended status output) → EndsOver main tables files text status output
  of_words old schema tables files told held h = by (nat_lt (length others) 4294967295) h
    where
      by : (b : Bool) → Follows F old (and_then (spelled (if b then Some others else None)) (with_others schema main text)) new (ended status output) → EndsOver main tables files text status output
      by true h = of_files old schema tables files told held h
      by false h = absurd (let wrong : Usage ≡ Done = sym h.how.0 ∙ done in cc)

module _ {D K : Type 0} (F : Files D) (S : Sink K) (old new : D) (before after : K) (result : Status) where
  pub expansion_written : (words : List (List ℕ)) (text : List ℕ) (end : End ⊥) → Follows F old (course words text) new end → Delivers S before after result end → result ≡ Done
      → WritesExpanded (F.held old) (S.written before) (S.written after) words
  expansion_written words text wants_memory h d done = absurd (let wrong : NoMemory ≡ Done = sym d.status_is ∙ done in cc)
  expansion_written words text (goes_on never) h d done = absurd never
  expansion_written words text (ended status output) h (inr broken) done = absurd (let wrong : WriteFault ≡ Done = sym broken.status_is ∙ done in cc)
  expansion_written words text (ended status output) h (inl whole) done = λ schema main tables others files is told held.
      let now_done = sym whole.status_is ∙ done in
      let e = of_words F new main others text output status now_done old schema tables files told held
      (subst (λ c. Follows F old (course_of c text) new (ended status output)) (ap command_of is ∙ asks_expand schema main others) h) in
      (output, done_for e.schema e.functions e.read e.program main text output status now_done e.ends_so, whole.written)
