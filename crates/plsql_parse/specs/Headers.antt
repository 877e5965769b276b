-- How the reader of what stands around a function's body descends.
use Rattle.std.specs.Prelude.{
  ℕ,
  Bool,
  true,
  false,
  if◌then◌else◌,
  List,
  [],
  ◌∷◌,
  Option,
  Some,
  None,
  codes,
  bytes_eq,
}
use Rattle.std.specs.List.{list_any}
use Rattle.away_grammar.specs.declared.grammar.Mark.{Mark}
use Rattle.away_grammar.specs.declared.grammar.Mark.TheVariants as m
use Rattle.away_grammar.specs.declared.grammar.Attribute.{Attribute}
use Rattle.away_grammar.specs.declared.grammar.Attribute.TheVariants as attribute
use Rattle.away_values.specs.declared.types.Ty.{Ty}
use Rattle.away_trees.specs.declared.statements.Stmt.{Stmt}
use Rattle.away_trees.specs.declared.statements.Function.{Function}
use Rattle.away_grammar.specs.Terminals.{Terminal, mark, name}
use Rattle.away_grammar.specs.FunctionGrammar.{
  parameter,
  parameters,
  signature,
  attribute_of,
  attributes,
  function,
  may_stand,
  makes_strict,
  one_word,
  may_run,
}
use Rattle.sql_text.specs.Plans.{done, fail, take, eat, look, read, want, expect}
use Rattle.plsql_parse.specs.Sorts.{
  part,
  PartPlan,
  a_name,
  a_type,
  eat_word,
  expect_word,
  schema_qualified_name,
  string_in,
  quote_in,
  integer_in,
}

-- ---- parameters

abbrev pub typed_name_plan : PartPlan parameter
typed_name_plan = a_name (λ n. a_type (λ t. done (n, t)))

abbrev pub parameter_plan : PartPlan parameter
parameter_plan = eat m.In typed_name_plan typed_name_plan

abbrev pub parameters_plan : PartPlan parameters
parameters_plan = read (part parameter) (λ x. eat m.Comma (read (part parameters) (λ xs. done (x ∷ xs))) (done (x ∷ [])))

abbrev pub signature_plan : PartPlan signature
signature_plan = expect m.Open (eat m.Close (done []) (read (part parameters) (λ xs. expect m.Close (done xs))))

-- ---- attributes

abbrev pub language_string_plan : PartPlan attribute_of
language_string_plan = want string_in (λ z. if bytes_eq z (codes "plpgsql") then done attribute.Language else fail)

abbrev pub language_plan : PartPlan attribute_of
language_plan = eat_word (codes "plpgsql") (done attribute.Language) language_string_plan

abbrev pub null_input_plan : Bool → PartPlan attribute_of
null_input_plan strict = expect m.On (expect m.Null (expect_word (codes "input") (done (attribute.NullInput strict))))

abbrev pub parallel_plan : PartPlan attribute_of
parallel_plan = a_name (λ y. if may_run y then done attribute.Parallel else fail)

abbrev pub cost_plan : PartPlan attribute_of
cost_plan = want integer_in (λ n. done attribute.Cost)

-- behind a word that isn't the whole attribute
abbrev pub word_plan : List ℕ → PartPlan attribute_of
word_plan z =
    if bytes_eq z (codes "language") then language_plan
    else (if bytes_eq z (codes "returns") then expect m.Null (null_input_plan true)
    else (if bytes_eq z (codes "called") then null_input_plan false
    else (if bytes_eq z (codes "parallel") then parallel_plan
    else (if bytes_eq z (codes "cost") then cost_plan else fail))))

abbrev pub word_with : List ℕ → Option Attribute → PartPlan attribute_of
word_with z (Some a) = done a
word_with z None = word_plan z

-- behind a mark
abbrev pub attribute_mark_plan : Mark → PartPlan attribute_of
attribute_mark_plan m.As = want quote_in (λ z. done attribute.Body)
attribute_mark_plan m.Strict = done (attribute.NullInput true)
attribute_mark_plan m.Not = expect_word (codes "leakproof") (done attribute.Leakproof)
attribute_mark_plan _ = fail

abbrev pub attribute_by : Option Terminal → PartPlan attribute_of
attribute_by (Some (name z)) = word_with z (one_word z)
attribute_by (Some (mark terminal)) = attribute_mark_plan terminal
attribute_by _ = fail

abbrev pub attribute_plan : PartPlan attribute_of
attribute_plan = take attribute_by

-- no attribute stands next
abbrev pub is_over : List Terminal → Bool
is_over [] = true
is_over (mark m.Semicolon ∷ ts) = true
is_over _ = false

abbrev pub attributes_plan : PartPlan attributes
attributes_plan = look is_over (done []) (read (part attribute_of) (λ a. read (part attributes) (λ found. done (a ∷ found))))

-- ---- a whole file

abbrev pub function_with : Stmt → List ℕ → List (List ℕ × Ty) → Ty → List Attribute → Function
function_with inside n xs t found = record { name = n; strict = list_any makes_strict found; params = xs; result = t; body = inside }

-- a `;` may stand at the end
abbrev pub ended_plan : {inside : Stmt} → Function → PartPlan (function inside)
ended_plan f = eat m.Semicolon (done f) (done f)

-- behind RETURNS
abbrev pub returned_plan : (inside : Stmt) → List ℕ → List (List ℕ × Ty) → PartPlan (function inside)
returned_plan inside n xs =
    a_type (λ t. read (part attributes) (λ found. if may_stand found then ended_plan (function_with inside n xs t found) else fail))

-- behind the name
abbrev pub named_plan : (inside : Stmt) → List ℕ → PartPlan (function inside)
named_plan inside n = read (part signature) (λ xs. expect_word (codes "returns") (returned_plan inside n xs))

-- behind CREATE, and OR REPLACE where it is written
abbrev pub created_plan : (inside : Stmt) → PartPlan (function inside)
created_plan inside = expect_word (codes "function") (schema_qualified_name (named_plan inside))

abbrev pub function_plan : (inside : Stmt) → PartPlan (function inside)
function_plan inside = expect m.Create (eat m.Or (expect_word (codes "replace") (created_plan inside)) (created_plan inside))
