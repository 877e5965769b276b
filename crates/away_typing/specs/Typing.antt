-- The types of a tree whose names are resolved and whose operations are marked, by its slots, the
-- columns of the selects around it and the tables. An operation on integers alone is one of 32 bits,
-- and any other isn't; so a tree that has types is marked as it is to be.
use Rattle.std.specs.Prelude.{
  ℕ,
  zero,
  suc,
  ◌+◌,
  Bool,
  true,
  false,
  not,
  ◌&&◌,
  ◌||◌,
  if◌then◌else◌,
  ◌==◌,
  List,
  [],
  ◌∷◌,
  ◌++◌,
  map,
  fold,
  length,
  slice_get,
  slice_index_or,
  Option,
  Some,
  None,
  option_map,
  option_and_then,
  is_some,
}
use Rattle.std.specs.List.{list_all, list_any}
use Rattle.std.specs.Str.Parse.{digits_value}
use Rattle.away_values.specs.declared.types.Ty.{Ty}
use Rattle.away_values.specs.declared.types.Ty.TheVariants.{Bigint, Boolean, Text, Integer}
use Rattle.away_values.specs.Operators.{literal_type}
use Rattle.away_trees.specs.declared.queries.Col.{Col}
use Rattle.away_values.specs.declared.operators.ChainOp.{ChainOp}
use Rattle.away_values.specs.declared.operators.ChainOp.TheVariants as chain
use Rattle.away_values.specs.declared.operators.IsTest.{IsTest}
use Rattle.away_values.specs.declared.operators.IsTest.TheVariants as test
use Rattle.away_trees.specs.declared.queries.Expr.TheOpen.{
  Expr-F,
  Source-F,
  FromItem-F,
  Item-F,
  Key-F,
  Select-F,
  Recursive-F,
  Query-F,
}
use Rattle.away_trees.specs.declared.queries.Expr.TheOpen as ex
use Rattle.away_trees.specs.Algebra.{Algebra}
use Rattle.away_trees.specs.AlgebraEquations.{algebra}
use Rattle.away_typing.specs.declared.kind.Kind.{Kind}
use Rattle.away_typing.specs.declared.kind.Kind.TheVariants.{Null, Of, Sum, Wrong}
use Rattle.away_names.specs.declared.function.Known.{Known}
use Rattle.away_names.specs.declared.function.Known.TheVariants as known
use Rattle.away_typing.specs.Kinds.{
  same,
  only_if,
  meet,
  common,
  fits,
  is_right,
  is_number,
  is_integer,
  are_integers,
  sum_kind,
  settled,
  type_of,
}
use Rattle.away_names.specs.Functions.{function}

-- ---- where things stand

-- the types of the columns of each item of a FROM
abbrev pub Frame : Type 0
Frame = List (List Ty)

-- the innermost select's frame comes first
pub record Places : Type 0 where
  pub slots : List Ty
  pub frames : List Frame
  pub tables : List (List Ty)

abbrev pub inside : Frame → Places → Places
inside frame p = record p { frames = frame ∷ p.frames }

-- the types of a query's columns; None where it has none
abbrev pub Shape : Type 0
Shape = Option (List Ty)

-- ---- what stands for a tree

abbrev pub Term : Type 0
Term = Places → Kind

abbrev pub Listing : Type 0
Listing = Places → Option (List Kind)

abbrev pub Whole : Type 0
Whole = Places → Shape

-- by the column list
abbrev pub Origin : Type 0
Origin = List (List ℕ) → Places → Frame → Shape

abbrev pub Part : Type 0
Part = Places → Frame → Shape

pub record Terms : Type 0 where
  pub columns : List (List ℕ)
  pub first : Listing
  pub second : Listing

-- ---- an expression

unfoldable pub kind_at : Option Ty → Kind
kind_at None = Wrong
kind_at (Some t) = Of t

unfoldable pub column : List Frame → Col → Kind
column frames c = kind_at (option_and_then (λ item. slice_get item c.column)
    (option_and_then (λ frame. slice_get frame c.item) (slice_get frames c.level)))

unfoldable pub pair : ChainOp → Kind → Kind → Kind
pair chain.Or a b = only_if (fits Boolean a && fits Boolean b) (Of Boolean)
pair chain.And a b = only_if (fits Boolean a && fits Boolean b) (Of Boolean)
pair chain.Concat a b = only_if ((fits Text a || fits Text b) && (is_right a && is_right b)) (Of Text)
pair (chain.Int op) a b =
    only_if (is_number a && (is_number b && not (are_integers a b))) (Of Bigint)
pair (chain.Small op) a b = only_if (are_integers a b) (Of Integer)

abbrev pub chained : Places → List (ChainOp × Term) → Kind → Kind
chained p links first = fold (λ k l. pair l.0 k (l.1 p)) first links

unfoldable pub passed : IsTest → Kind → Bool
passed test.Null k = is_right k
passed _ k = fits Boolean k

-- between numbers, to text, and to the same type
unfoldable pub castable : Ty → Ty → Bool
castable from Text = true
castable Integer Bigint = true
castable Bigint Integer = true
castable from to = same from to

unfoldable pub cast_kind : Ty → Kind → Kind
cast_kind to Null = Of to
cast_kind Bigint Sum = Of Bigint
cast_kind to Sum = Wrong
cast_kind to Wrong = Wrong
cast_kind to (Of from) = only_if (castable from to) (Of to)

abbrev pub kinds : Places → List Term → List Kind
kinds p = map (λ t. t p)

-- what stands behind ELSE, or else NULL
abbrev pub kind_or_null : Option Kind → Kind
kind_or_null None = Null
kind_or_null (Some k) = k

abbrev pub other_kind : Places → Option Term → Kind
other_kind p o = kind_or_null (option_map (λ t. t p) o)

abbrev pub tested : Places → List (Term × Term) → Bool
tested p = fold (λ all arm. all && fits Boolean (arm.0 p)) true

abbrev pub chosen : Places → List (Term × Term) → Kind
chosen p arms = common (map (λ arm. arm.1 p) arms)

unfoldable pub is_ordered : Kind → Bool
is_ordered (Of Boolean) = false
is_ordered k = is_right k

unfoldable pub call_kind : Known → List Kind → Kind
call_kind known.Coalesce ks = settled (common ks)
call_kind known.Greatest ks = settled (common ks)
call_kind known.Least ks = settled (common ks)
call_kind known.Length (a ∷ []) = only_if (fits Text a) (Of Integer)
call_kind known.Substr (a ∷ b ∷ c ∷ []) = only_if (fits Text a && (is_number b && is_number c)) (Of Text)
call_kind known.Count (a ∷ []) = only_if (is_right a) (Of Bigint)
call_kind known.BoolAnd (a ∷ []) = only_if (fits Boolean a) (Of Boolean)
call_kind known.BoolOr (a ∷ []) = only_if (fits Boolean a) (Of Boolean)
call_kind known.Min (a ∷ []) = only_if (is_ordered a) (settled a)
call_kind known.Max (a ∷ []) = only_if (is_ordered a) (settled a)
call_kind known.Sum (a ∷ []) = sum_kind a
call_kind _ ks = Wrong

unfoldable pub called : Option Known → List Kind → Kind
called None ks = Wrong
called (Some f) ks = call_kind f ks

unfoldable pub scalar_kind : Shape → Kind
scalar_kind (Some (t ∷ [])) = Of t
scalar_kind _ = Wrong

unfoldable pub exists_kind : Shape → Kind
exists_kind s = only_if (is_some s) (Of Boolean)

abbrev pub Layer : Type 0
Layer = Expr-F Term Origin Part Term Term Whole Terms Listing

abbrev pub kind : Layer → Places → Kind
kind (ex.Int n) p = Of (literal_type n)
kind (ex.Str t) p = Of Text
kind (ex.Bool b) p = Of Boolean
kind ex.Null p = Null
kind (ex.Named name) p = Wrong
kind (ex.Dotted alias name) p = Wrong
kind (ex.Slot i) p = kind_at (slice_get p.slots i)
kind (ex.Column c) p = column p.frames c
kind (ex.Param i ty) p = Of ty
kind (ex.Neg e) p = only_if (is_number (e p) && not (is_integer (e p))) (Of Bigint)
kind (ex.NegSmall e) p = only_if (is_integer (e p)) (Of Integer)
kind (ex.Not e) p = only_if (fits Boolean (e p)) (Of Boolean)
kind (ex.Is e test negative) p = only_if (passed test (e p)) (Of Boolean)
kind (ex.Chain e links) p = chained p links (e p)
kind (ex.Compare op a b) p = only_if (is_right (meet (a p) (b p))) (Of Boolean)
kind (ex.Between negative e low high) p = only_if (is_right (meet (meet (e p) (low p)) (high p))) (Of Boolean)
kind (ex.OneOf negative e choices) p = only_if (is_right (meet (e p) (common (kinds p choices)))) (Of Boolean)
kind (ex.Cast e ty) p = cast_kind ty (e p)
kind (ex.Cases arms other) p = only_if (tested p arms) (settled (meet (chosen p arms) (other_kind p other)))
kind (ex.Call name es) p = called (function name) (kinds p es)
kind ex.CountRows p = Of Bigint
kind (ex.Scalar q) p = scalar_kind (q p)
kind (ex.Exists q) p = exists_kind (q p)

-- ---- FROM

-- a list of columns has the number of its query
unfoldable pub listed : List (List ℕ) → Shape → Shape
listed [] s = s
listed (c ∷ cs) s = option_and_then (λ ts. if length (c ∷ cs) == length ts then Some ts else None) s

-- the types of a table's columns, by the digits of its place
unfoldable pub table_shape : List (List Ty) → List (List ℕ) → Shape
table_shape tables columns = slice_get tables (digits_value 10 (slice_index_or columns 0 []))

abbrev pub before : Bool → Frame → Frame
before lateral frame = if lateral then frame else []

abbrev pub origin : Source-F Term Origin Part Term Term Whole Terms Listing → Origin
origin (ex.Table name) columns p frame = table_shape p.tables columns
origin (ex.Sub q lateral) columns p frame = listed columns (q (inside (before lateral frame) p))

abbrev pub part : FromItem-F Term Origin Part Term Term Whole Terms Listing → Part
part f = f.source f.columns

-- the frame after all items, each of which sees the ones before it
abbrev pub framed : Places → List Part → Frame → Option Frame
framed p [] frame = Some frame
framed p (part ∷ more) frame = option_and_then (λ ts. framed p more (frame ++ ts ∷ [])) (part p frame)

-- ---- a select

unfoldable pub maybe_fits : Ty → Option Kind → Bool
maybe_fits ty None = true
maybe_fits ty (Some k) = fits ty k

unfoldable pub maybe_number : Option Kind → Bool
maybe_number None = true
maybe_number (Some k) = is_number k

-- by the kinds of its list, its condition, its keys and its LIMIT
unfoldable pub select_kinds : List Kind → Option Kind → List Kind → Option Kind → Option (List Kind)
select_kinds list filter order limit =
    if maybe_fits Boolean filter && (list_all is_right list && (list_all is_right order && maybe_number limit)) then Some list else None

abbrev pub listing : Select-F Term Origin Part Term Term Whole Terms Listing → Listing
listing s p =
    option_and_then
    (λ frame. let q = inside frame p in select_kinds (kinds q s.list)
    (option_map (λ t. t q) s.filter) (kinds q s.order) (option_map (λ t. t q) s.limit))
    (framed p s.from [])

-- ---- UNION ALL, place by place

-- behind those that are done
abbrev pub both_from : List Kind → List Kind → List Kind → Option (List Kind)
both_from done [] [] = Some done
both_from done (a ∷ as_) (b ∷ bs) = if is_right (meet a b) then both_from (done ++ meet a b ∷ []) as_ bs else None
both_from done _ _ = None

unfoldable pub both : Option (List Kind) → Option (List Kind) → Option (List Kind)
both a b = option_and_then (λ x. option_and_then (λ y. both_from [] x y) b) a

-- the kinds so far, of no select yet or of some
unfoldable pub further : Option (Option (List Kind)) → Option (List Kind) → Option (Option (List Kind))
further None own = Some own
further (Some ks) own = Some (both ks own)

unfoldable pub or_none : Option (Option (List Kind)) → Option (List Kind)
or_none None = None
or_none (Some ks) = ks

abbrev pub union : List Listing → Places → Option (List Kind)
union ss p = or_none (fold (λ ks s. further ks (s p)) None ss)

-- a place with literal NULLs alone is text
abbrev pub types_of : List Kind → List Ty
types_of = map type_of

abbrev pub shape_of : Option (List Kind) → Shape
shape_of = option_map types_of

-- A query inside an expression or a FROM has no recursive part.
abbrev pub typing : Algebra
typing = algebra (record {
  no_expr = λ p. Wrong;
  no_query = λ p. None;
  expr = kind;
  source = origin;
  from = part;
  item = λ i. i.expr;
  key = λ k. k.expr;
  query = λ q p. if is_some q.recursive then None else shape_of (union q.selects p);
  recursive = λ r. record { columns = r.columns; first = union r.first; second = r.second };
  select = listing;
})
