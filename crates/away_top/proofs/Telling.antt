-- An end that files lead to is the end of a run over files that tell what they hold.
use Rattle.std.proofs.Common.{◌≡◌, inl, inr, refl, ◌^◌, ◌-◌, ℕ, List, arith}
use Rattle.std.specs.Prelude.{Option, Some, None}
use Rattle.away_top.specs.declared.host.Files.{Ghosts as Files}
use Rattle.away_top.specs.declared.status.Status.{Status}
use Rattle.away_top.specs.Course.{AtFile, Course, ends, gives, judges, reads, Outcome}
use Rattle.away_top.specs.RunAnswers.{Held}
use Rattle.away_top.specs.Runs.{ended, Follows, IsRead}

-- files that hold this, of which none is safe, and whose count of faults stands at its last value
abbrev pub telling : Held → Files (Unit {0})
telling held = record { held = λ files. held; is_safe = λ files name. ⊥; is_absent = λ files name. ⊥; faults = λ files. 2 ^ 64 - 1; read_leaves = λ old name new. Unit {0} }

is_read : (held : Held) (name : List ℕ) → IsRead (telling held) tt name tt
is_read held name = record { leaves = tt; kept = λ name bytes e. e; safe = λ name s. s; absent = λ name s. s; later = omega arith }

module _ (held : Held) where
  at_file : {A : Type 0} (name : List ℕ) (limit : ℕ) (next : List ℕ → Course A) (status : Status) (output : List ℕ) (told : Option (List ℕ)) → held name ≡ told
      → ((bytes : List ℕ) → Outcome held (next bytes) status output → Follows (telling held) tt (next bytes) tt (ended status output))
      → AtFile name limit (λ bytes. Outcome held (next bytes) status output) told status output → Follows (telling held) tt (reads name limit next) tt (ended status output)
  at_file name limit next status output None is go o = inr (tt, is_read held name, inl (record { same = refl; how = inl (record { count = omega arith; not_safe = λ s. s }, o) }))
  at_file name limit next status output (Some bytes) is go (inl (long, e)) = inr (tt, is_read held name, inl (record { same = refl; how = inr (record { more = rw is long; not_absent = λ s. s }, e) }))
  at_file name limit next status output (Some bytes) is go (inr (fits, o)) = inr (tt, is_read held name, inr (bytes, record { same = rw is refl; fits = fits; not_absent = λ s. s }, go bytes o))

  pub runs_so : {A : Type 0} (c : Course A) (status : Status) (output : List ℕ) → Outcome held c status output → Follows (telling held) tt c tt (ended status output)
  runs_so (gives a) status output o = absurd o
  runs_so (ends E) status output o = record { same = refl; how = o }
  runs_so (judges E W next) status output (inl e) = inl (record { same = refl; how = e })
  runs_so (judges E W next) status output (inr (w, o)) = inr (w, runs_so (next w) status output o)
  runs_so (reads name limit next) status output o = at_file name limit next status output (held name) refl (λ bytes more. runs_so (next bytes) status output more) o
