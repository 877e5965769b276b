-- What a reader of bytes has yet to give.
use Rattle.std.specs.Prelude.{◌≡◌, ℕ, ◌+◌, Bool, false, List, [], ◌∷◌, length, Option, Some}
use Rattle.std.specs.Option.{option_map_or}
use Rattle.std.specs.Bool.{MatchBool}
use denote.Ref.{Bor}
use Rattle.csv.specs.Machine.{ends_at_end}
use Rattle.csv.specs.Reading.{
  Ready,
  default_config,
  reader_config,
  reader_state,
  reader_trim,
  records_from,
  source_of,
}
use Rattle.csv.specs.declared.parser.State.{State}
use Rattle.csv.specs.declared.reader.Reader.{Reader}
use Rattle.csv.specs.declared.reader.Trim.TheVariants as trim
use Rattle.csv_tables.specs.Files.{Fields}

-- the records of the bytes that are left, from the state that the reader is in
unfoldable pub records_after : State → List ℕ → List Fields
records_after s bytes = records_from default_config (length bytes + 1) s bytes

-- the bytes that a reader of bytes has left, where it knows them
abbrev pub bytes_left : Reader (Bor (List ℕ)) → Option (List ℕ)
bytes_left r = source_of (λ (s : Bor (List ℕ)). Some s.now) r

unfoldable pub records_left : Reader (Bor (List ℕ)) → List Fields
records_left r = option_map_or (records_after (reader_state r)) (bytes_left r) []

-- It stands between two records, and reads on with commas and nothing trimmed.
pub record IsBetween (r : Reader (Bor (List ℕ))) : Type 0 where
  pub plain : reader_trim r ≡ trim.None
  pub ready : Ready r
  pub settings : reader_config r ≡ default_config
  pub state : ends_at_end (reader_state r) ≡ false
  pub bytes : List ℕ
  pub left : bytes_left r ≡ Some bytes

-- the read gave the next record, or there was none
pub record Took (old new : Reader (Bor (List ℕ))) (fields : Fields) : Type 0 where
  pub goes_on : IsBetween new
  pub next : records_left old ≡ fields ∷ records_left new

abbrev pub TakesNext : Bool → Reader (Bor (List ℕ)) → Reader (Bor (List ℕ)) → Fields → Type 0
TakesNext found old new fields = MatchBool found (Took old new fields) (records_left old ≡ [])
