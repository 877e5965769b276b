-- What holds of an expression that is converted to the type that its place asks for.
use Rattle.std.specs.Prelude.{◌≡◌, true, false}
use Rattle.away_values.specs.declared.types.Ty.{Ty}
use Rattle.away_values.specs.declared.types.Ty.TheVariants.{Bigint, Integer}
use Rattle.away_values.specs.Operators.{small}
use Rattle.away_values.specs.Results.{and_then}
use Rattle.away_trees.specs.declared.queries.Expr.{Expr}
use Rattle.away_trees.specs.Algebra.{expr_of}
use Rattle.away_typing.specs.Kinds.{fits}
use Rattle.away_typing.specs.Typing.{Places, typing}
use Rattle.sql_meaning.specs.Context.{Context}
use Rattle.sql_meaning.specs.Meaning.{value}
use Rattle.sql_meaning.specs.Reads.{reads}
use Rattle.elaboration.specs.Elaborating.{elaborated}
use Rattle.elaboration.specs.Erasing.{erased}
use Rattle.elaboration.specs.Converting.{assignable, converts, converted_to, marked}

pub record Converted (t : Ty) (p : Places) (e : Expr) : Type 0 where
  -- it has the type, or is NULL
  pub has_type : assignable t (elaborated p e).kind ≡ true
      → fits t (expr_of typing (converted_to t p e) p) ≡ true
  -- the marks that stood before don't matter
  pub from_plain : converted_to t p (erased e) ≡ converted_to t p e
  -- it reads what the expression reads
  pub reads_are : reads (converted_to t p e) ≡ reads (marked p e)
  -- where nothing is to be converted it is the marked expression
  pub stays : converts t (elaborated p e).kind ≡ false → converted_to t p e ≡ marked p e

abbrev pub Conversions : Type 0
Conversions = (t : Ty) (p : Places) (e : Expr) → Converted t p e

-- to bigint nothing happens to a value; to integer its range is tested
pub record ConvertedValues (p : Places) (e : Expr) (cx : Context) : Type 0 where
  pub to_bigint : value (converted_to Bigint p e) cx ≡ value (marked p e) cx
  pub to_integer : converts Integer (elaborated p e).kind ≡ true
      → value (converted_to Integer p e) cx ≡ and_then (value (marked p e) cx) small

abbrev pub ConversionValues : Type 0
ConversionValues = (p : Places) (e : Expr) (cx : Context) → ConvertedValues p e cx
