-- The types that an expression may have. The literal NULL stands above the types, and what has no
-- type below them; `meet` is the common type of two operands, which of integer and bigint is bigint.
-- A sum of bigints stands apart: it is no operand, and only a cast to bigint takes it.
use Rattle.std.specs.Prelude.{Bool, true, false, not, ◌&&◌, ◌||◌, if◌then◌else◌, List, fold}
use Rattle.away_values.specs.declared.types.Ty.{Ty}
use Rattle.away_values.specs.declared.types.Ty.TheVariants.{Bigint, Boolean, Text, Integer}
use Rattle.away_typing.specs.declared.kind.Kind.{Kind}
use Rattle.away_typing.specs.declared.kind.Kind.TheVariants.{Null, Of, Sum, Wrong}

unfoldable pub same : Ty → Ty → Bool
same Bigint Bigint = true
same Boolean Boolean = true
same Text Text = true
same Integer Integer = true
same _ _ = false

unfoldable pub only_if : Bool → Kind → Kind
only_if test k = if test then k else Wrong

-- the common type of two types
unfoldable pub meet_types : Ty → Ty → Kind
meet_types Bigint Integer = Of Bigint
meet_types Integer Bigint = Of Bigint
meet_types t u = only_if (same t u) (Of t)

unfoldable pub meet : Kind → Kind → Kind
meet Null Sum = Wrong
meet Null k = k
meet Sum k = Wrong
meet Wrong k = Wrong
meet (Of t) Null = Of t
meet (Of t) Sum = Wrong
meet (Of t) Wrong = Wrong
meet (Of t) (Of u) = meet_types t u

-- the one type of several places
abbrev pub common : List Kind → Kind
common = fold meet Null

-- it may stand where the type is asked for
unfoldable pub fits : Ty → Kind → Bool
fits ty Null = true
fits ty (Of t) = same ty t
fits ty _ = false

-- bigint or integer
unfoldable pub is_number : Kind → Bool
is_number Null = true
is_number (Of Bigint) = true
is_number (Of Integer) = true
is_number _ = false

unfoldable pub is_integer : Kind → Bool
is_integer (Of Integer) = true
is_integer _ = false

-- integers alone: a literal NULL beside an integer counts as one, and NULLs alone don't
unfoldable pub are_integers : Kind → Kind → Bool
are_integers (Of Integer) (Of Integer) = true
are_integers (Of Integer) Null = true
are_integers Null (Of Integer) = true
are_integers _ _ = false

-- A sum of bigints asks for a cast to bigint, and any other is a bigint.
unfoldable pub sum_kind : Kind → Kind
sum_kind Null = Of Bigint
sum_kind (Of Integer) = Of Bigint
sum_kind (Of Bigint) = Sum
sum_kind _ = Wrong

unfoldable pub is_right : Kind → Bool
is_right Null = true
is_right (Of t) = true
is_right _ = false

-- NULL is text where nothing asks for a type
unfoldable pub settled : Kind → Kind
settled Null = Of Text
settled k = k

-- the type that a column has
unfoldable pub type_of : Kind → Ty
type_of (Of t) = t
type_of _ = Text
