-- What holds of trees whose operations are marked, and of the marks.
use Rattle.std.specs.Prelude.{
  ◌≡◌,
  ◌⊎◌,
  ℤ,
  ◌+ℤ◌,
  ◌-ℤ◌,
  ◌*ℤ◌,
  neg_ℤ,
  Bool,
  true,
  false,
  int_div,
  int_rem,
  if◌then◌else◌,
  is_some,
  List,
  Ok,
  Err,
  codes,
}
use Rattle.away_values.specs.declared.types.Ty.TheVariants.{Integer}
use Rattle.away_values.specs.declared.operators.IntOp.{IntOp}
use Rattle.away_values.specs.declared.operators.IntOp.TheVariants as int
use Rattle.away_values.specs.declared.operators.ChainOp.TheVariants as chain
use Rattle.away_values.specs.declared.values.Value.{Value}
use Rattle.away_values.specs.declared.values.Value.TheVariants as val
use Rattle.away_values.specs.Operators.{fits_small, unless_zero}
use Rattle.away_values.specs.Results.{Or, class}
use Rattle.away_values.specs.Values.{HasType}
use Rattle.away_trees.specs.declared.queries.Expr.{Expr}
use Rattle.away_trees.specs.declared.queries.Expr.TheVariants as expr
use Rattle.away_trees.specs.declared.queries.Query.{Query}
use Rattle.away_trees.specs.declared.queries.Select.{Select}
use Rattle.away_trees.specs.Algebra.{expr_of, select_of, query_of}
use Rattle.away_grammar.specs.Printing.{printed, query_terminals}
use Rattle.away_typing.specs.ParameterLists.{with_expr}
use Rattle.away_typing.specs.declared.params.Params.{Params}
use Rattle.away_typing.specs.Trees.{uses_of}
use Rattle.away_typing.specs.Typing.{Places, typing}
use Rattle.sql_meaning.specs.Context.{Context}
use Rattle.sql_meaning.specs.Meaning.{value}
use Rattle.sql_meaning.specs.Functions.{Length, scalar}
use Rattle.sql_meaning.specs.Parts.{pair}
use Rattle.sql_meaning.specs.Reads.{reads, slots_of}
use Rattle.away_typing.specs.declared.kind.Kind.{Kind}
use Rattle.away_typing.specs.declared.kind.Kind.TheVariants.{Wrong}
use Rattle.away_names.specs.declared.note.Times.{Times}
use Rattle.away_trees.specs.declared.schemas.Schema.{Schema}
use Rattle.elaboration.specs.Whole.{marked_whole, typed_whole}
use Rattle.elaboration.specs.Elaborating.{made, elaborated, elaborated_select, elaborated_query}
use Rattle.elaboration.specs.Erasing.{erased, erased_query}

-- what has a type, or is NULL or a sum
abbrev pub is_kind : Kind → Bool
is_kind Wrong = false
is_kind _ = true

-- ---- without marks

pub record Unmarked (e : Expr) : Type 0 where
  pub reads_are : reads (erased e) ≡ reads e
  pub slots_are : slots_of (erased e) ≡ slots_of e
  pub uses_are : uses_of (erased e) ≡ uses_of e
  pub params_are : (p : Params) → with_expr p (erased e) ≡ with_expr p e
  pub printed_are : printed (erased e) ≡ printed e
  pub marks_are : (p : Places) → elaborated p (erased e) ≡ elaborated p e

-- marks alone are added: the marked tree without its marks is the tree without its marks, and it
-- reads what the tree reads
pub record MarksAlone (p : Places) (e : Expr) : Type 0 where
  pub erased_are : erased (elaborated p e).it ≡ erased e
  pub reads_are : reads (elaborated p e).it ≡ reads e
  pub slots_are : slots_of (elaborated p e).it ≡ slots_of e
  pub uses_are : uses_of (elaborated p e).it ≡ uses_of e
  pub printed_are : printed (elaborated p e).it ≡ printed e

-- a query's terminals are those of the query without marks
abbrev pub PrintedAlike : Type 0
PrintedAlike = (q : Query) → query_terminals (erased_query q) ≡ query_terminals q

-- ---- with marks

-- a type that was found, or NULL, or a sum
abbrev pub IsTyped : Places → Expr → Type 0
IsTyped p e = is_kind (expr_of typing e p) ≡ true

-- marked trees have the types that were found with the marks
pub record Found : Type 0 where
  pub expr : (p : Places) (e : Expr) → expr_of typing (elaborated p e).it p ≡ (elaborated p e).kind
  pub select : (p : Places) (s : Select)
      → select_of typing (elaborated_select p s).it p ≡ (elaborated_select p s).kinds
  pub query : (p : Places) (q : Query)
      → query_of typing (elaborated_query p q).it p ≡ (elaborated_query p q).shape

-- A tree that has a type is marked as it is to be: marked again, it stays; and so it does from the
-- tree without its marks.
pub record Marked (p : Places) (e : Expr) : Type 0 where
  pub again : elaborated p e ≡ made (expr_of typing e p) e
  pub from_plain : elaborated p (erased e) ≡ made (expr_of typing e p) e

abbrev pub TypedMarked : Type 0
TypedMarked = (p : Places) (e : Expr) → IsTyped p e → Marked p e

abbrev pub TypedQueries : Type 0
TypedQueries =
    (p : Places) (q : Query) → is_some (query_of typing q p) ≡ true
    → elaborated_query p (erased_query q) ≡ record { shape = query_of typing q p; it = q }

-- a whole query whose parts have types comes back from the query without marks
abbrev pub WholeMarked : Type 0
WholeMarked =
    (s : Schema) (first : Times) (q : Query) → typed_whole s first q ≡ true
    → marked_whole s first (erased_query q) ≡ q

-- ---- values

-- 22003, numeric_value_out_of_range, where 32 bits don't hold the number
abbrev pub small_ranged : ℤ → Or Value
small_ranged n = if fits_small n then Ok (val.Int n) else Err (class (codes "22003"))

abbrev pub small_result : IntOp → ℤ → ℤ → Or Value
small_result int.Add a b = small_ranged (a +ℤ b)
small_result int.Sub a b = small_ranged (a -ℤ b)
small_result int.Mul a b = small_ranged (a *ℤ b)
small_result int.Div a b = unless_zero b (small_ranged (int_div a b))
small_result int.Rem a b = unless_zero b (small_ranged (int_rem a b))

-- an integer, or 22003, or the class of a zero divisor
abbrev pub IsSmall : Or Value → Type 0
IsSmall (Ok v) = HasType v Integer
IsSmall (Err c) = (c ≡ class (codes "22003")) ⊎ (c ≡ class (codes "22012"))

-- An operation of 32 bits is the operation on whole numbers and then one test of its range, and so
-- is the minus; and a cast is the test. The length of a text is tested as well.
pub record SmallValues : Type 0 where
  pub exact : (op : IntOp) (a b : ℤ)
      → pair (chain.Small op) (val.Int a) (Ok (val.Int b)) ≡ small_result op a b
  pub minus : (a : ℤ) (e : Expr) (cx : Context) → value e cx ≡ Ok (val.Int a)
      → value (expr.NegSmall e) cx ≡ small_ranged (neg_ℤ a)
  pub ranged : (op : IntOp) (a b : Value) → IsSmall (pair (chain.Small op) a (Ok b))
  pub minus_ranged : (e : Expr) (cx : Context) (v : Value) → value e cx ≡ Ok v
      → IsSmall (value (expr.NegSmall e) cx)
  pub cast_ranged : (e : Expr) (cx : Context) (v : Value) → value e cx ≡ Ok v
      → IsSmall (value (expr.Cast e Integer) cx)
  pub length_ranged : (vs : List Value) → IsSmall (scalar Length vs)
