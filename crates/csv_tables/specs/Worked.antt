-- What worked fields write and what worked files hold.
use Rattle.std.specs.Prelude.{
  ◌≡◌,
  Bool,
  true,
  false,
  [],
  ◌∷◌,
  Some,
  None,
  Ok,
  Err,
  codes,
  pos,
  negsuc,
}
use Rattle.away_values.specs.declared.values.Value.TheVariants as val
use Rattle.away_values.specs.declared.types.Ty.TheVariants as ty
use Rattle.away_trees.specs.declared.schemas.TableSchema.{TableSchema}
use Rattle.csv_tables.specs.declared.refusal.TableRefusal.TheVariants as refusal
use Rattle.csv_tables.specs.Cells.{value_of}
use Rattle.csv_tables.specs.Files.{rows_in}

pub record FieldsWrite : Type 0 where
  pub null : value_of ty.Bigint (codes "\\N") ≡ Some val.Null
  pub null_text : value_of ty.Text (codes "\\N") ≡ Some val.Null
  pub plus : value_of ty.Bigint (codes "+5") ≡ Some (val.Int (pos 5))
  pub minus : value_of ty.Bigint (codes "-5") ≡ Some (val.Int (negsuc 4))
  pub zeros : value_of ty.Bigint (codes "007") ≡ Some (val.Int (pos 7))
  pub least : value_of ty.Bigint (codes "-9223372036854775808") ≡ Some (val.Int (negsuc 9223372036854775807))
  pub too_large : value_of ty.Bigint (codes "9223372036854775808") ≡ None
  pub space : value_of ty.Bigint (codes " 5") ≡ None
  pub nothing : value_of ty.Bigint [] ≡ None
  pub letter : value_of ty.Bigint (codes "x") ≡ None
  pub greatest_small : value_of ty.Integer (codes "2147483647") ≡ Some (val.Int (pos 2147483647))
  pub too_large_small : value_of ty.Integer (codes "2147483648") ≡ None
  pub short_truth : value_of ty.Boolean (codes "t") ≡ Some (val.Bool true)
  pub long_truth : value_of ty.Boolean (codes "false") ≡ Some (val.Bool false)
  pub capitals : value_of ty.Boolean (codes "TRUE") ≡ None
  pub empty_text : value_of ty.Text [] ≡ Some (val.Text [])
  pub accent : value_of ty.Text (0xC3 ∷ 0xA9 ∷ []) ≡ Some (val.Text (0xE9 ∷ []))
  pub no_utf8 : value_of ty.Text (0xC3 ∷ 0x28 ∷ []) ≡ None
  pub zero_byte : value_of ty.Text (97 ∷ 0 ∷ []) ≡ None

-- k bigint, NOT NULL or not, and v text
abbrev pub pairs : Bool → TableSchema
pairs needed = record {
  name = codes "t";
  columns = record { name = codes "k"; ty = ty.Bigint; not_null = needed } ∷ record { name = codes "v"; ty = ty.Text; not_null = false } ∷ [];
}

pub record FilesHold : Type 0 where
  pub empty : rows_in (pairs false) [] ≡ Err refusal.Header
  pub blank : rows_in (pairs false) (codes "\n\n") ≡ Err refusal.Header
  pub one_name_more : rows_in (pairs false) (codes "k,v,w\n") ≡ Err refusal.Header
  pub other_order : rows_in (pairs false) (codes "v,k\n1,one\n") ≡ Err refusal.Header
  pub no_row : rows_in (pairs false) (codes "k,v\n") ≡ Ok []
  pub rows : rows_in (pairs false) (codes "k,v\n1,one\n2,two\n")
      ≡ Ok ((val.Int (pos 1) ∷ val.Text (codes "one") ∷ []) ∷ (val.Int (pos 2) ∷ val.Text (codes "two") ∷ []) ∷ [])
  pub no_number : rows_in (pairs false) (codes "k,v\n1,one\nx,two\n") ≡ Err (refusal.Cell 2 1)
  pub one_field : rows_in (pairs false) (codes "k,v\n1,one\n2\n") ≡ Err (refusal.Count 2)
  pub null_key : rows_in (pairs true) (codes "k,v\n\\N,one\n") ≡ Err (refusal.NullCell 1 1)
  pub quoted_null_key : rows_in (pairs true) (codes "k,v\n\"\\N\",one\n") ≡ Err (refusal.NullCell 1 1)
  pub nulls : rows_in (pairs false) (codes "k,v\n\\N,\"\\N\"\n") ≡ Ok ((val.Null ∷ val.Null ∷ []) ∷ [])
  pub empty_text : rows_in (pairs false) (codes "k,v\n1,\"\"\n") ≡ Ok ((val.Int (pos 1) ∷ val.Text [] ∷ []) ∷ [])
  pub first_field : rows_in (pairs false) (107 ∷ 44 ∷ 118 ∷ 10 ∷ 120 ∷ 44 ∷ 0 ∷ []) ≡ Err (refusal.Cell 1 1)
  pub quoted_comma : rows_in (pairs false) (codes "k,v\n1,\"a,b\"\n") ≡ Ok ((val.Int (pos 1) ∷ val.Text (codes "a,b") ∷ []) ∷ [])
