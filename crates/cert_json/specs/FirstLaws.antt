-- Which fields of a certificate have their shape, each by itself, and that the first without its
-- shape is told.
use Rattle.std.specs.Prelude.{
  ◌≡◌,
  ℕ,
  Bool,
  true,
  false,
  List,
  [],
  ◌∷◌,
  take,
  slice_get,
  codes,
  is_some,
  Option,
  Some,
  option_and_then,
  Ok,
  Err,
}
use Rattle.std.specs.List.{AllByRecursion}
use Rattle.serde_json.specs.Data.{Data}
use Rattle.serde_json.specs.Find.{get}
use Rattle.cert_json.specs.declared.cert.CertField.{CertField}
use Rattle.cert_json.specs.declared.cert.CertField.TheVariants as field
use Rattle.cert_json.specs.Forms.{Cert}
use Rattle.cert_json.specs.Spellings.{many, number_in, type_in}
use Rattle.cert_json.specs.Blocks.{anf_block_in, block_in, ssa_block_in}
use Rattle.cert_json.specs.Certificates.{cert_in, within}

abbrev pub has : {A : Type 0} → (Data → Option A) → Option Data → Bool
has shape found = is_some (option_and_then shape found)

abbrev pub within_goto : List ℕ → Data → Option Data
within_goto name d = within name (get (codes "goto") d)

abbrev pub within_ssa : List ℕ → Data → Option Data
within_ssa name d = within name (get (codes "ssa") d)

-- for each field in order, whether it has its shape
abbrev pub shapes : Data → List Bool
shapes d =
    has number_in (within_goto (codes "entry") d) ∷ has number_in (within_goto (codes "end") d) ∷ has (many number_in)
    (within_goto (codes "nodes") d) ∷ has (many block_in) (within_goto (codes "blocks") d)
    ∷ has (many number_in) (within_ssa (codes "names") d) ∷ has (many ssa_block_in) (within_ssa (codes "blocks") d)
    ∷ has (many anf_block_in) (within (codes "blocks") (get (codes "anf") d))
    ∷ has (many number_in) (get (codes "labels") d) ∷ has (many type_in) (get (codes "columns") d)
    ∷ has (many (many number_in)) (get (codes "places") d) ∷ []

-- the place of a field in the order
abbrev pub place : CertField → ℕ
place field.GotoEntry = 0
place field.GotoEnd = 1
place field.GotoNodes = 2
place field.GotoBlocks = 3
place field.SsaNames = 4
place field.SsaBlocks = 5
place field.AnfBlocks = 6
place field.Labels = 7
place field.Columns = 8
place field.Places = 9

-- the field hasn't its shape, and each before it has
pub record IsFirst (shaped : List Bool) (f : CertField) : Type 0 where
  pub lacks : slice_get shaped (place f) ≡ Some false
  pub before : AllByRecursion (λ b. b ≡ true) (take (place f) shaped)

pub record FirstDecides : Type 0 where
  pub told : (d : Data) (f : CertField) → cert_in d ≡ Err f → IsFirst (shapes d) f
  pub all : (d : Data) (c : Cert) → cert_in d ≡ Ok c → AllByRecursion (λ b. b ≡ true) (shapes d)
