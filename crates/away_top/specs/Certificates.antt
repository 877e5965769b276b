-- What the file of a certificate reads as, and which rules it is refused by.
use Rattle.std.specs.Prelude.{◌≡◌, ℕ, List, ◌++◌, codes}
use Rattle.cert_json.specs.Forms.{Cert}
use Rattle.cert_json.specs.declared.cert.CertField.{CertField}
use Rattle.cert_json.specs.declared.cert.CertField.TheVariants.{
  GotoEntry,
  GotoEnd,
  GotoNodes,
  GotoBlocks,
  SsaNames,
  SsaBlocks,
  AnfBlocks,
  Labels,
  Columns,
  Places,
}
use Rattle.cert_json.specs.declared.cert.CertRefusal.{CertRefusal}
use Rattle.cert_json.specs.declared.cert.CertRefusal.TheVariants.{NotJson, Field, NoMemory}
use Rattle.cert_json.specs.Certificates.{Reads, Refuses}
use Rattle.away_top.specs.Course.{Course, gives, judges, reads, RefusedBy}

-- the field as the refusal names it
abbrev pub field_name : CertField → List ℕ
field_name GotoEntry = codes "goto.entry"
field_name GotoEnd = codes "goto.end"
field_name GotoNodes = codes "goto.nodes"
field_name GotoBlocks = codes "goto.blocks"
field_name SsaNames = codes "ssa.names"
field_name SsaBlocks = codes "ssa.blocks"
field_name AnfBlocks = codes "anf.blocks"
field_name Labels = codes "labels"
field_name Columns = codes "columns"
field_name Places = codes "places"

-- The rule that a refusal is printed as. Want of memory is no refusal of the file.
abbrev pub IsCertRule : CertRefusal → List ℕ → Type 0
IsCertRule NotJson rule = rule ≡ codes "C1"
IsCertRule (Field f) rule = rule ≡ codes "C2 " ++ field_name f
IsCertRule NoMemory rule = ⊥

-- the certificate that the bytes read as
pub record IsCert (bytes : List ℕ) : Type 0 where
  pub cert : Cert
  pub reads_as : Reads bytes cert

-- the bytes are no certificate
abbrev pub RefusesCert : List ℕ → List ℕ → Type 0
RefusesCert bytes rule = (refusal : CertRefusal) × Refuses bytes refusal × IsCertRule refusal rule

-- a certificate's file is read
abbrev pub cert_course : List ℕ → Course Cert
cert_course name = reads name 67108864 (λ bytes. judges (RefusedBy name (RefusesCert bytes)) (IsCert bytes) (λ c. gives c.cert))
