-- The JSON value of a certificate.
use Rattle.std.specs.Prelude.{ℕ, List, [], ◌∷◌, map, codes, Option, Some, None, if◌then◌else◌}
use Rattle.serde_json.specs.Data.{
  Data,
  null,
  boolean,
  number,
  string,
  array,
  object,
  unsigned,
  member,
  no_members,
}
use Rattle.serde_json.specs.View.{items_of}
use Rattle.away_values.specs.declared.types.Ty.TheVariants as ty
use Rattle.block_forms.specs.declared.forms.End.TheVariants.{Jump, Branch, Return, Fail}
use Rattle.call_forms.specs.declared.forms.CallEnd.TheVariants as calls
use Rattle.call_forms.specs.Writable.{is_code}
use Rattle.cert_json.specs.Forms.{
  Class,
  Ty,
  Term,
  End,
  Block,
  Goto,
  Phi,
  SsaBlock,
  Ssa,
  CallEnd,
  AnfBlock,
  Anf,
  Cert,
}

-- ---- numbers, lists and words

abbrev pub number_data : ℕ → Data
number_data n = number (unsigned n)

abbrev pub list_data : List Data → Data
list_data ds = array (items_of ds)

abbrev pub many_data : {A : Type 0} → (A → Data) → List A → Data
many_data f xs = list_data (map f xs)

abbrev pub pair_data : ℕ × ℕ → Data
pair_data p = list_data (number_data p.0 ∷ number_data p.1 ∷ [])

-- A class that isn't five digits or upper-case letters has no spelling, and null stands for it.
unfoldable pub class_data : Class → Data
class_data c = if is_code c.code then string c.code else null

abbrev pub type_name : Ty → List ℕ
type_name ty.Bigint = codes "bigint"
type_name ty.Boolean = codes "boolean"
type_name ty.Text = codes "text"
type_name ty.Integer = codes "integer"

abbrev pub type_data : Ty → Data
type_data t = string (type_name t)

-- ---- assignments and ends

-- a list that begins with a word
abbrev pub headed_data : List ℕ → List Data → Data
headed_data word rest = list_data (string word ∷ rest)

abbrev pub set_data : Option (ℕ × Term) → Data
set_data None = null
set_data (Some a) = list_data (number_data a.0 ∷ number_data a.1.expr ∷ many_data number_data a.1.names ∷ [])

abbrev pub return_data : Term → Data
return_data t = headed_data (codes "return") (number_data t.expr ∷ many_data number_data t.names ∷ [])

abbrev pub fail_data : Class → Data
fail_data c = headed_data (codes "fail") (class_data c ∷ [])

abbrev pub end_data : End → Data
end_data (Jump b) = headed_data (codes "jump") (number_data b ∷ [])
end_data (Branch t b c) = headed_data (codes "branch") (number_data t.expr ∷ many_data number_data t.names ∷ number_data b ∷ number_data c ∷ [])
end_data (Return t) = return_data t
end_data (Fail c) = fail_data c

abbrev pub call_end_data : CallEnd → Data
call_end_data (calls.Go c) = headed_data (codes "call") (number_data c.target ∷ many_data number_data c.args ∷ [])
call_end_data (calls.Pick t b c) =
    headed_data (codes "if") (number_data t.expr ∷ many_data number_data t.names ∷ number_data b.target
    ∷ many_data number_data b.args ∷ number_data c.target ∷ many_data number_data c.args ∷ [])
call_end_data (calls.Return t) = return_data t
call_end_data (calls.Fail c) = fail_data c

-- ---- blocks

abbrev pub block_data : Block → Data
block_data b = list_data (boolean b.head ∷ set_data b.set ∷ end_data b.end ∷ [])

abbrev pub phi_data : Phi → Data
phi_data p = list_data (number_data p.name ∷ many_data pair_data p.operands ∷ [])

abbrev pub ssa_block_data : SsaBlock → Data
ssa_block_data b = list_data (many_data pair_data b.map ∷ many_data phi_data b.phis ∷ set_data b.set ∷ end_data b.end ∷ [])

abbrev pub anf_block_data : AnfBlock → Data
anf_block_data b = list_data (many_data number_data b.params ∷ set_data b.set ∷ call_end_data b.end ∷ [])

-- ---- forms, with their members in the order of the names, as serde_json keeps them

unfoldable pub goto_data : Goto → Data
goto_data goto =
    object (member (codes "blocks") (many_data block_data goto.blocks)
    (member (codes "end") (number_data goto.finish)
    (member (codes "entry") (number_data goto.entry) (member (codes "nodes") (many_data number_data goto.nodes) no_members))))

unfoldable pub ssa_data : Ssa → Data
ssa_data ssa = object (member (codes "blocks") (many_data ssa_block_data ssa.blocks)
    (member (codes "names") (many_data number_data ssa.names) no_members))

unfoldable pub anf_data : Anf → Data
anf_data anf = object (member (codes "blocks") (many_data anf_block_data anf.blocks) no_members)

unfoldable pub cert_data : Cert → Data
cert_data c =
    object (member (codes "anf") (anf_data c.anf)
    (member (codes "columns") (many_data type_data c.tail.columns)
    (member (codes "goto") (goto_data c.goto) (member (codes "labels") (many_data number_data c.tail.labels)
    (member (codes "places") (many_data (many_data number_data) c.tail.places) (member (codes "ssa") (ssa_data c.ssa) no_members))))))
