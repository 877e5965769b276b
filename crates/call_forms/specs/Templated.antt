-- The relation between a tail form and the query of a function.
use Rattle.std.specs.Prelude.{◌≡◌, ℕ, List, ◌∷◌, length, get_or, slice_get, Option, Some, None}
use Rattle.away_trees.specs.declared.queries.Expr.{Expr}
use Rattle.away_trees.specs.declared.queries.Expr.TheVariants as expr
use Rattle.away_trees.specs.declared.queries.Query.{Query}
use Rattle.away_trees.specs.declared.statements.Function.{Function}
use Rattle.away_types.specs.declared.slots.Slot.{Slot}
use Rattle.away_values.specs.declared.types.Ty.{Ty}
use Rattle.away_values.specs.declared.types.Ty.TheVariants as ty
use Rattle.sql_meaning.specs.Names.{bare}
use Rattle.sql_meaning.specs.Reads.{slots_of}
use Rattle.block_forms.specs.declared.forms.Goto.{Goto}
use Rattle.block_forms.specs.declared.forms.Ssa.{Ssa}
use Rattle.block_forms.specs.declared.forms.Term.{Term}
use Rattle.block_forms.specs.Expressions.{expressions}
use Rattle.block_forms.specs.Places.{Each}
use Rattle.call_forms.specs.Bodies.{
  Body,
  sets,
  enters,
  picks,
  returns,
  fails,
  calls,
  endless,
  body_of,
}
use Rattle.call_forms.specs.Called.{Among}
use Rattle.call_forms.specs.Columned.{type_of_name}
use Rattle.call_forms.specs.Forms.{Anf, Tail, params_of}
use Rattle.call_forms.specs.Template.{query_of}

-- ---- bodies with a tree

-- the names stand for something, and there is one for each slot of the term's expression
pub record HasReferences (table : List Expr) (names : List ℕ) (t : Term) : Type 0 where
  pub known : Each (Among names) t.names
  pub as_many : length t.names ≡ length (slots_of (get_or table t.expr expr.Null))

-- one known name for each parameter or place
pub record PassesKnown (names params args : List ℕ) : Type 0 where
  pub known : Each (Among names) args
  pub as_many : length args ≡ length params

-- The body is finite, and each name that it reads or passes has a reference, where these names have
-- one as it begins.
abbrev pub HasTree : List Expr → List ℕ → Body → Type 0
HasTree table names (sets n t x) = HasReferences table names t × HasTree table (n ∷ names) x
HasTree table names (enters params args x) = PassesKnown names params args × HasTree table params x
HasTree table names (picks t x y) = HasReferences table names t × HasTree table names x × HasTree table names y
HasTree table names (returns t) = HasReferences table names t
HasTree table names (fails c) = Unit {0}
HasTree table names (calls label places args) = PassesKnown names places args
HasTree table names endless = ⊥

-- ---- the relation

abbrev pub type_or_bigint : Option Ty → Ty
type_or_bigint None = ty.Bigint
type_or_bigint (Some t) = t

-- the type of each name: that of its slot
abbrev pub types_of : List Slot → Ssa → ℕ → Ty
types_of slots ssa n = type_or_bigint (type_of_name slots ssa.names n)

-- The query is that of the tail form, over so many tables, with names of aliases and columns aside.
-- The entry is a label, and each label has a tree.
pub record Templated (f : Function) (slots : List Slot) (tables : ℕ) (goto : Goto) (ssa : Ssa) (anf : Anf) (tail : Tail) (q : Query) : Type 0 where
  pub entry : Among tail.labels goto.entry
  pub trees : Each (λ b. HasTree (expressions f) (params_of (slice_get anf.blocks b)) (body_of anf tail b)) tail.labels
  pub query : bare q ≡ bare (query_of (expressions f) (types_of slots ssa) f.result anf tail goto.entry tables)
