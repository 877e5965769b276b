-- Where a function exceeds a limit: the first token by which its body nests too deep, and the first
-- node that is one too many.
use Rattle.std.specs.Prelude.{
  ◌≡◌,
  ◌≤◌,
  ◌<◌,
  ◌+◌,
  ◌⊎◌,
  ℕ,
  Bool,
  true,
  false,
  List,
  [],
  ◌∷◌,
  ◌++◌,
  take,
  map,
  replicate,
  Result,
  OnOk,
  slice_get,
  length,
  Option,
  Some,
  None,
  flat_map,
  count_by,
}
use Rattle.away_values.specs.declared.errors.NoMemory.{NoMemory}
use Rattle.away_trees.specs.declared.statements.Arm.{Arm}
use Rattle.away_trees.specs.declared.statements.LoopKind.{LoopKind}
use Rattle.away_trees.specs.declared.statements.LoopKind.TheVariants as k
use Rattle.away_trees.specs.declared.statements.Stmt.{Stmt}
use Rattle.away_trees.specs.declared.statements.Function.{Function}
use Rattle.away_trees.specs.declared.statements.Stmt.TheOpen.{Stmt-F, Arm-F}
use Rattle.away_trees.specs.declared.statements.Stmt.TheOpen as st
use Rattle.away_trees.specs.Limits.{most_nodes, most_variables, most_loops}
use Rattle.away_trees.specs.StatementAlgebra.{StatementAlgebra, stmt_of, branch_of}
use Rattle.away_grammar.specs.FunctionFile.{LexesFile}
use Rattle.away_grammar.specs.FunctionGrammar.{ReadsFunction}
use Rattle.away_grammar.specs.Nesting.{IsNesting}
use Rattle.away_grammar.specs.Tokens.{Lexeme}
use Rattle.away_lex.specs.declared.refusals.LimitKind.{LimitKind}
use Rattle.away_lex.specs.declared.refusals.LimitKind.TheVariants as limit
use Rattle.plsql_parse.specs.Plans.{FileGives}
use Rattle.plsql_parse.specs.Refusals.{most_nesting}
use Rattle.function_places.specs.declared.node_kinds.Kind.{Kind}
use Rattle.function_places.specs.declared.node_kinds.Kind.TheVariants.{Variable, Counter, Other}
use Rattle.function_places.specs.declared.limit_places.Element.{Element}
use Rattle.function_places.specs.NodePlaces.{IsNodePlace}
use Rattle.function_places.specs.TokenPlaces.{IsNamePlace}

-- ---- nesting

-- The list nests no deeper than the limit before the token of this number, and deeper with it.
pub record IsTooDeep (list : List Lexeme) (limit number : ℕ) : Type 0 where
  pub before : ℕ
  pub with_it : ℕ
  pub nests_before : IsNesting (take number list) before
  pub nests_with_it : IsNesting (take (number + 1) list) with_it
  pub fits : before ≤ limit
  pub exceeds : limit < with_it

-- ---- nodes by what they count as

abbrev pub is_variable : Kind → Bool
is_variable Variable = true
is_variable _ = false

abbrev pub is_for : Kind → Bool
is_for Counter = true
is_for _ = false

-- one behind the other
abbrev pub in_order : List (List Kind) → List Kind
in_order lists = flat_map (λ list. list) lists

abbrev pub of_loop : LoopKind → Kind
of_loop (k.Count _ _ _ _ _) = Counter
of_loop _ = Other

abbrev of_else : Option (List (List Kind)) → List Kind
of_else None = []
of_else (Some body) = Other ∷ in_order body

-- a statement, and then the nodes of its parts in the order of the text
abbrev of_statement : Stmt-F (List Kind) (List Kind) → List Kind
of_statement (st.Block _ decls body _) = Other ∷ (replicate (length decls) Variable ++ in_order body)
of_statement (st.If arms otherwise) = Other ∷ (in_order arms ++ of_else otherwise)
of_statement (st.Cases arms otherwise) = Other ∷ (in_order arms ++ of_else otherwise)
of_statement (st.Loop _ how body _) = of_loop how ∷ in_order body
of_statement (st.Into _ targets _) = Other ∷ replicate (length targets) Other
of_statement _ = Other ∷ []

abbrev of_arm : Arm-F (List Kind) (List Kind) → List Kind
of_arm a = Other ∷ in_order a.body

abbrev pub listing : StatementAlgebra
listing = record { AStmt = List Kind; AnArm = List Kind; stmt = of_statement; arm = of_arm }

-- the nodes of a statement, by their numbers
unfoldable pub kinds_of : Stmt → List Kind
kinds_of x = stmt_of listing x

-- and of an arm
unfoldable pub kinds_of_arm : Arm → List Kind
kinds_of_arm a = branch_of listing a

-- and of ELSE with what stands behind it
abbrev pub kinds_behind_else : List Stmt → List Kind
kinds_behind_else body = Other ∷ in_order (map (λ s. kinds_of s) body)

-- the parameters, which are variables, and the nodes of the body
unfoldable pub kinds : Function → List Kind
kinds f = replicate (length f.params) Variable ++ kinds_of f.body

-- After a success the nodes stand behind those that were there.
pub record AddsKinds (nodes before : List Kind) (result : Result (Unit {0}) NoMemory) (after : List Kind) : Type 0 where
  pub all : OnOk result (after ≡ before ++ nodes)

-- ---- the first above a limit

-- what a limit is on, and how many of them are read
abbrev pub counts : LimitKind → Kind → Bool
counts limit.Nodes kind = true
counts limit.Variables kind = is_variable kind
counts limit.Loops kind = is_for kind
counts limit.Nesting kind = false

abbrev pub most : LimitKind → ℕ
most limit.Nodes = most_nodes
most limit.Variables = most_variables
most limit.Loops = most_loops
most limit.Nesting = most_nesting

-- The node of this number is one of them, and so many of them stand before it: it is the first
-- above that limit.
pub record IsAbove (of : Kind → Bool) (limit : ℕ) (nodes : List Kind) (number : ℕ) : Type 0 where
  pub kind : Kind
  pub stands : slice_get nodes number ≡ Some kind
  pub is_one : of kind ≡ true
  pub before : count_by of (take number nodes) ≡ limit

-- it stands there, or there are no more than are read
abbrev pub FirstAbove : (Kind → Bool) → ℕ → List Kind → Option ℕ → Type 0
FirstAbove of limit nodes (Some number) = IsAbove of limit nodes number
FirstAbove of limit nodes None = count_by of nodes ≤ limit

-- the element is the first of the function above the limit
pub record IsElementAbove (which : LimitKind) (f : Function) (found : Element) : Type 0 where
  pub params : found.params ≡ length f.params
  pub above : IsAbove (counts which) (most which) (kinds f) found.number

pub record IsAboveInLists (which : LimitKind) (outer inner : List Lexeme) (found : Element) : Type 0 where
  pub f : Function
  pub gives : FileGives outer inner f
  pub above : IsElementAbove which f found

pub record IsAboveInBytes (which : LimitKind) (bytes : List ℕ) (found : Element) : Type 0 where
  pub f : Function
  pub reads : ReadsFunction bytes f
  pub above : IsElementAbove which f found

-- ---- places

-- The node of the number among all begins at the byte. The first are the parameters, which are told
-- by the function's name.
abbrev pub IsElementPlace : List ℕ → ℕ → ℕ → ℕ → Type 0
IsElementPlace bytes params number offset =
    ((number < params) × IsNamePlace bytes offset)
    ⊎ ((node : ℕ) × (number ≡ params + node) × IsNodePlace bytes node offset)

-- the token by which the list nests too deep begins at the byte
pub record StartsDeep (inner : List Lexeme) (offset : ℕ) : Type 0 where
  pub number : ℕ
  pub here : Lexeme
  pub stands : slice_get inner number ≡ Some here
  pub too_deep : IsTooDeep inner most_nesting number
  pub offset_is : offset ≡ here.start

-- the token by which the body nests too deep begins at the byte
pub record IsNestingPlace (bytes : List ℕ) (offset : ℕ) : Type 0 where
  pub outer : List Lexeme
  pub inner : List Lexeme
  pub lexes : LexesFile bytes outer inner None
  pub starts : StartsDeep inner offset

-- the first node above the limit of the function that the bytes read as begins at the byte
pub record IsCountPlace (bytes : List ℕ) (which : LimitKind) (offset : ℕ) : Type 0 where
  pub f : Function
  pub reads : ReadsFunction bytes f
  pub number : ℕ
  pub above : IsAbove (counts which) (most which) (kinds f) number
  pub place : IsElementPlace bytes (length f.params) number offset

abbrev pub IsLimitPlace : List ℕ → LimitKind → ℕ → Type 0
IsLimitPlace bytes limit.Nesting offset = IsNestingPlace bytes offset
IsLimitPlace bytes which offset = IsCountPlace bytes which offset
