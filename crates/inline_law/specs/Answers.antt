-- What the written query answers, by what the function answers at each call.
use Rattle.std.specs.Prelude.{
  ◌≡◌,
  ◌⊎◌,
  ℕ,
  ◌+◌,
  ◌*◌,
  true,
  false,
  nat_lt,
  Bool,
  List,
  [],
  ◌∷◌,
  length,
  Some,
  None,
  Ok,
  Err,
}
use Rattle.std.specs.List.{list_all}
use Rattle.away_trees.specs.Algebra.{select_of}
use Rattle.away_trees.specs.Fits.{FitsSchema}
use Rattle.away_trees.specs.declared.queries.Expr.{Expr}
use Rattle.away_trees.specs.declared.queries.Expr.TheViews.{out-Item, out-Select}
use Rattle.away_trees.specs.declared.queries.Item.{Item}
use Rattle.away_trees.specs.declared.queries.Query.{Query}
use Rattle.away_trees.specs.declared.schemas.Schema.{Schema}
use Rattle.away_trees.specs.declared.statements.Function.{Function}
use Rattle.away_values.specs.declared.types.Ty.{Ty}
use Rattle.away_values.specs.declared.values.Answer.{Answer}
use Rattle.away_values.specs.declared.values.Answer.TheVariants as answer
use Rattle.away_values.specs.declared.values.Class.{Class}
use Rattle.away_values.specs.declared.values.Value.{Value}
use Rattle.away_values.specs.Results.{Or}
use Rattle.sql_meaning.specs.Context.{Rows, Frame, Context, inside, outermost}
use Rattle.sql_meaning.specs.Reads.{Read, Slot, Table, reads, reading}
use Rattle.sql_meaning.specs.Meaning.{has_aggregate, value}
use Rattle.sql_meaning.specs.Working.{rows}
use Rattle.type_soundness.specs.Arguments.{Supplied}
use Rattle.type_soundness.specs.Sorts.{IsOf}
use Rattle.plsql_meaning.specs.Equivalent.{types_of}
use Rattle.inline_law.specs.Filled.{CallingSelect, arguments_at, filled, kept_rows}

-- what the function answers at arguments within so many turns
abbrev pub Within : Type 0
Within = List Value → ℕ → Answer

-- each member has the property
abbrev pub Every : {A : Type 0} → (A → Type 0) → List A → Type 0
Every P [] = Unit {0}
Every P (x ∷ xs) = P x × Every P xs

-- some member has the property
abbrev pub SomeOf : {A : Type 0} → (A → Type 0) → List A → Type 0
SomeOf P [] = ⊥
SomeOf P (x ∷ xs) = P x ⊎ SomeOf P xs

-- ---- the rows that are kept, and the arguments at them

-- the arguments of each call have values at this row
abbrev pub HaveArguments : CallingSelect → Context → Frame → Type 0
HaveArguments q cx frame =
    Every (λ (es : List Expr). (vs : List Value) × (arguments_at (inside frame cx) es ≡ Ok vs))
    q.calls

-- FROM and WHERE give rows, and at each row each argument of each call has a value
pub record HasCalls (q : CallingSelect) (cx : Context) : Type 0 where
  pub frames : List Frame
  pub kept : kept_rows q.select cx ≡ Ok frames
  pub have : Every (HaveArguments q cx) frames

-- at some row the arguments of some call come to this
abbrev pub SomeArguments : CallingSelect → Context → List Frame → Or (List Value) → Type 0
SomeArguments q cx frames o =
    SomeOf (λ (frame : Frame).
    SomeOf (λ (es : List Expr). arguments_at (inside frame cx) es ≡ o) q.calls) frames

-- FROM or WHERE gives this class, or an argument at a row that is kept
abbrev pub FaultsBefore : CallingSelect → Context → Class → Type 0
FaultsBefore q cx c =
    (kept_rows q.select cx ≡ Err c)
    ⊎ ((frames : List Frame) × (kept_rows q.select cx ≡ Ok frames)
    × SomeArguments q cx frames (Err c))

-- a call at a row that is kept has arguments with this property
abbrev pub SomeCall : CallingSelect → Context → (List Value → Type 0) → Type 0
SomeCall q cx P =
    (frames : List Frame) × (kept_rows q.select cx ≡ Ok frames)
    × (vs : List Value) × SomeArguments q cx frames (Ok vs) × P vs

-- ---- the law

-- Where each call has a value within n turns, the query's rows at `(n + 1) * weight + 1` iterations
-- are those of the select with these values, or the same class. Where all arguments have values, no
-- call ever faults and one needs more than n turns, the query has no answer at n iterations. A
-- class of the query is one that FROM, WHERE, an argument, a call or, where each call has a value,
-- the rest of the select gives. Where FROM, WHERE or an argument gives a class, the query is a
-- class at each bound, and where a call faults within n turns, it is one at
-- `(n + 1) * weight + 1` iterations.
pub record AnswersFilled (q : CallingSelect) (written : Query) (weight : ℕ)
    (tables : List Rows) (args : List Value) (answers : Within) : Type 0 where
  pub values : (n : ℕ) (found : Or Rows)
      → filled q (λ vs. answers vs n) (outermost tables args) ≡ Some found
      → rows written tables args ((n + 1) * weight + 1) ≡ Some found
  pub more : (n : ℕ) → HasCalls q (outermost tables args)
      → ((m : ℕ) (c : Class)
      → SomeCall q (outermost tables args) (λ vs. answers vs m ≡ answer.Fault c) → ⊥)
      → SomeCall q (outermost tables args) (λ vs. answers vs n ≡ answer.More)
      → rows written tables args n ≡ None
  pub class : (k : ℕ) (c : Class) → rows written tables args k ≡ Some (Err c)
      → FaultsBefore q (outermost tables args) c
      ⊎ (SomeCall q (outermost tables args) (λ vs. answers vs k ≡ answer.Fault c)
      ⊎ (filled q (λ vs. answers vs k) (outermost tables args) ≡ Some (Err c)))
  pub faults : (c : Class) → FaultsBefore q (outermost tables args) c
      → (k : ℕ) → (d : Class) × (rows written tables args k ≡ Some (Err d))
  pub calls : (n : ℕ) (c : Class) → HasCalls q (outermost tables args)
      → SomeCall q (outermost tables args) (λ vs. answers vs n ≡ answer.Fault c)
      → (d : Class) × (rows written tables args ((n + 1) * weight + 1) ≡ Some (Err d))

-- ---- the select

-- one of so many calls, a table among so many, or neither a slot nor a table
abbrev pub within : ℕ → ℕ → Read → Bool
within calls tables (Slot i) = nat_lt i calls
within calls tables (Table k) = nat_lt k tables
within calls tables r = true

-- an expression with so many calls over so many tables, in which no aggregate stands outside a
-- subquery
pub record IsOver (calls tables : ℕ) (e : Expr) : Type 0 where
  pub reads : list_all (within calls tables) (reads e) ≡ true
  pub single : has_aggregate e ≡ false

-- where an argument has a value, it is of the sort of its parameter's type
abbrev pub FitParameters : Context → List Ty → List Expr → Type 0
FitParameters cx [] [] = Unit {0}
FitParameters cx (t ∷ ts) (e ∷ es) =
    ((v : Value) → value e cx ≡ Ok v → IsOf t v) × FitParameters cx ts es
FitParameters cx ts es = ⊥

-- the same of each call at a row
abbrev pub FitCalls : Context → List Ty → List (List Expr) → Frame → Type 0
FitCalls cx ts calls frame = Every (FitParameters (inside frame cx) ts) calls

-- At each row that is kept each call has one argument for each parameter of the function, of its
-- type's sort: over all tables that fit the schema, with arguments of the query's parameters.
abbrev pub ArgumentsFit : Schema → Function → List (ℕ × Ty) → CallingSelect → Type 0
ArgumentsFit s f params q =
    (tables : List Rows) (args : List Value) → FitsSchema s tables → Supplied args params
    → (frames : List Frame) → kept_rows q.select (outermost tables args) ≡ Ok frames
    → Every (FitCalls (outermost tables args) (types_of f) q.calls) frames

-- The select, its list and the arguments of its calls are over the tables of the schema, and no
-- aggregate stands in them. There is a call. The arguments fit the function's parameters where the
-- query has these parameters.
pub record IsCalling (s : Schema) (f : Function) (params : List (ℕ × Ty))
    (q : CallingSelect) : Type 0 where
  pub select : list_all (within (length q.calls) (length s.tables)) (select_of reading q.select 0)
      ≡ true
  pub list : Every (λ (i : Item). IsOver (length q.calls) (length s.tables) (out-Item i).expr)
      (out-Select q.select).list
  pub arguments : Every (Every (IsOver 0 (length s.tables))) q.calls
  pub some : (es : List Expr) × (more : List (List Expr)) × (q.calls ≡ es ∷ more)
  pub typed : ArgumentsFit s f params q
