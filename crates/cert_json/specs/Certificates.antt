-- Which certificate a JSON value is, and which field is the first that hasn't its shape. A field
-- that is missing has no shape, and so have those of an object that is missing. Other fields are
-- ignored.
use Rattle.std.specs.Prelude.{
  ◌≡◌,
  ℕ,
  List,
  codes,
  Option,
  Some,
  option_and_then,
  Result,
  Ok,
  Err,
  IsUtf8,
}
use Rattle.std.specs.Option.{ok_or}
use Rattle.serde_json.specs.Data.{Data}
use Rattle.serde_json.specs.Find.{get}
use Rattle.serde_json.specs.Read.{read}
use Rattle.cert_json.specs.declared.cert.CertField.{CertField}
use Rattle.cert_json.specs.declared.cert.CertField.TheVariants as field
use Rattle.cert_json.specs.declared.cert.CertRefusal.{CertRefusal}
use Rattle.cert_json.specs.declared.cert.CertRefusal.TheVariants as refusal
use Rattle.cert_json.specs.Forms.{Goto, Ssa, Anf, Tail, Cert}
use Rattle.cert_json.specs.Spellings.{many, number_in, type_in}
use Rattle.cert_json.specs.Blocks.{anf_block_in, block_in, ssa_block_in}

abbrev pub Or : Type 0 → Type 0
Or A = Result A CertField

infixl 10 ◌>>=◌
abbrev pub ◌>>=◌ : {A B : Type 0} → Or A → (A → Or B) → Or B
(Ok x) >>= f = f x
(Err e) >>= f = Err e

-- the field's value, where it has its shape
abbrev pub shaped : {A : Type 0} → CertField → (Data → Option A) → Option Data → Or A
shaped f shape found = ok_or (option_and_then shape found) f

-- what stands under a name in an object, where there is one
abbrev pub within : List ℕ → Option Data → Option Data
within name parent = option_and_then (get name) parent

unfoldable pub goto_in : Option Data → Or Goto
goto_in d = do
  entry ← shaped field.GotoEntry number_in (within (codes "entry") d)
  finish ← shaped field.GotoEnd number_in (within (codes "end") d)
  nodes ← shaped field.GotoNodes (many number_in) (within (codes "nodes") d)
  blocks ← shaped field.GotoBlocks (many block_in) (within (codes "blocks") d)
  Ok (record { entry = entry; finish = finish; nodes = nodes; blocks = blocks })

unfoldable pub ssa_in : Option Data → Or Ssa
ssa_in d = do
  names ← shaped field.SsaNames (many number_in) (within (codes "names") d)
  blocks ← shaped field.SsaBlocks (many ssa_block_in) (within (codes "blocks") d)
  Ok (record { names = names; blocks = blocks })

unfoldable pub anf_in : Option Data → Or Anf
anf_in d = do
  blocks ← shaped field.AnfBlocks (many anf_block_in) (within (codes "blocks") d)
  Ok (record { blocks = blocks })

unfoldable pub tail_in : Data → Or Tail
tail_in d = do
  labels ← shaped field.Labels (many number_in) (get (codes "labels") d)
  columns ← shaped field.Columns (many type_in) (get (codes "columns") d)
  places ← shaped field.Places (many (many number_in)) (get (codes "places") d)
  Ok (record { labels = labels; columns = columns; places = places })

unfoldable pub cert_in : Data → Or Cert
cert_in d = do
  goto ← goto_in (get (codes "goto") d)
  ssa ← ssa_in (get (codes "ssa") d)
  anf ← anf_in (get (codes "anf") d)
  tail ← tail_in d
  Ok (record { goto = goto; ssa = ssa; anf = anf; tail = tail })

-- ---- bytes

-- the bytes are the text of the value, as serde_json reads it
abbrev pub IsJson : List ℕ → Data → Type 0
IsJson bytes d = IsUtf8 bytes × (read bytes ≡ Some d)

-- the bytes are the text of a value that is the certificate
abbrev pub Reads : List ℕ → Cert → Type 0
Reads bytes c = (d : Data) × IsJson bytes d × (cert_in d ≡ Ok c)

-- why the bytes are no certificate, where want of memory is the one free answer
abbrev pub Refuses : List ℕ → CertRefusal → Type 0
Refuses bytes refusal.NotJson = (d : Data) → IsJson bytes d → ⊥
Refuses bytes (refusal.Field f) = (d : Data) × IsJson bytes d × (cert_in d ≡ Err f)
Refuses bytes refusal.NoMemory = Unit {0}
