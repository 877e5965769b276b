-- Where a node of a function begins. Nodes are numbered in the order of the text, each statement
-- and each arm by its first token. What stands before a node reads as what comes before it.
use Rattle.std.specs.Prelude.{◌≡◌, ◌≤◌, ◌+◌, ℕ, Bool, List, ◌∷◌, ◌++◌, length, Option, None}
use Rattle.std.specs.Bool.{OnTrue}
use Rattle.away_trees.specs.declared.queries.Expr.{Expr}
use Rattle.away_trees.specs.declared.queries.Select.{Select}
use Rattle.away_trees.specs.declared.statements.Arm.{Arm}
use Rattle.away_trees.specs.declared.statements.Decl.{Decl}
use Rattle.away_trees.specs.declared.statements.LoopKind.{LoopKind}
use Rattle.away_trees.specs.declared.statements.Stmt.{Stmt}
use Rattle.away_trees.specs.declared.statements.Stmt.TheVariants as s
use Rattle.away_trees.specs.Count.{nodes_of, nodes_of_arm}
use Rattle.away_grammar.specs.declared.grammar.Mark.TheVariants as m
use Rattle.away_grammar.specs.declared.grammar.Level.TheVariants as l
use Rattle.away_grammar.specs.FunctionFile.{LexesFile}
use Rattle.away_grammar.specs.FunctionGrammar as g
use Rattle.away_grammar.specs.FunctionGrammar.{ReadsPart, Target, either, labelled}
use Rattle.away_grammar.specs.Grammar.{Reads, at}
use Rattle.away_grammar.specs.Terminals.{Terminal, mark, token_terminals}
use Rattle.away_grammar.specs.Tokens.{Lexeme}
use Rattle.function_places.specs.declared.node_places.Passed.{Passed}

-- ---- nodes among terminals

-- what a node is sought in
pub data Stretch : Type 0 where
  -- the declarations of a block behind DECLARE, BEGIN and the statements
  declarations : Stretch
  statement : Stretch
  statements : Stretch
  -- a condition, THEN and its statements
  arm : Stretch
  -- behind IF, or behind CASE WHEN: the arms, and ELSE with what stands behind it
  if_arms : Stretch
  case_arms : Stretch
  otherwise : Stretch
  -- a block behind its label, and a loop
  block : Stretch
  repeated : Stretch
  body : Stretch

-- In what is read of this stretch from the first terminals on, the node of the number begins where
-- the second are left.
pub data NodeAt : Stretch → ℕ → List Terminal → List Terminal → Type 0 where
  this_decl : {ts rest : List Terminal} {d : Decl} → ReadsPart g.decl ts d rest
      → NodeAt declarations 0 ts ts
  later_decl : {ts middle left : List Terminal} {d : Decl} {k : ℕ} → ReadsPart g.decl ts d middle
      → NodeAt declarations k middle left → NodeAt declarations (1 + k) ts left
  behind_decls : {ts left : List Terminal} {k : ℕ} → NodeAt statements k ts left
      → NodeAt declarations k (mark m.Begin ∷ ts) left
  first_statement : {ts left : List Terminal} {k : ℕ} → NodeAt statement k ts left
      → NodeAt statements k ts left
  later_statement : {ts middle left : List Terminal} {x : Stmt} {k : ℕ}
      → ReadsPart g.statement ts x middle → NodeAt statements k middle left
      → NodeAt statements (nodes_of x + k) ts left
  -- with its label, where it has one
  this_statement : {ts rest : List Terminal} {x : Stmt} → ReadsPart g.statement ts x rest
      → NodeAt statement 0 ts ts
  -- a target of INTO is told by its statement
  target_of : {ts rest : List Terminal} {w : Bool} {ns : List Target} {q : Select} {k : ℕ}
      → ReadsPart g.statement ts (s.Into w ns q) rest → k ≤ length ns → NodeAt statement k ts ts
  in_if : {ts left : List Terminal} {k : ℕ} → NodeAt if_arms k ts left
      → NodeAt statement (1 + k) (mark m.If ∷ ts) left
  in_case : {ts left : List Terminal} {k : ℕ} → NodeAt case_arms k ts left
      → NodeAt statement (1 + k) (mark m.Case ∷ mark m.When ∷ ts) left
  in_block : {ts left : List Terminal} {k : ℕ} (label : Option (List ℕ)) → NodeAt block k ts left
      → NodeAt statement (1 + k) (labelled label ts) left
  in_loop : {ts left : List Terminal} {k : ℕ} (label : Option (List ℕ)) → NodeAt repeated k ts left
      → NodeAt statement (1 + k) (labelled label ts) left
  -- an arm is where its condition is
  this_arm : {ts rest : List Terminal} {a : Arm} → ReadsPart g.branch ts a rest → NodeAt arm 0 ts ts
  behind_test : {ts middle left : List Terminal} {x : Expr} {k : ℕ}
      → Reads (at l.Or) ts x (mark m.Then ∷ middle) → NodeAt statements k middle left
      → NodeAt arm (1 + k) ts left
  first_if : {ts left : List Terminal} {k : ℕ} → NodeAt arm k ts left → NodeAt if_arms k ts left
  later_if : {ts middle left : List Terminal} {a : Arm} {k : ℕ} (short : Bool)
      → ReadsPart g.branch ts a (mark (either short m.Elsif m.Elseif) ∷ middle)
      → NodeAt if_arms k middle left → NodeAt if_arms (nodes_of_arm a + k) ts left
  else_if : {ts middle left : List Terminal} {a : Arm} {k : ℕ} → ReadsPart g.branch ts a middle
      → NodeAt otherwise k middle left → NodeAt if_arms (nodes_of_arm a + k) ts left
  first_case : {ts left : List Terminal} {k : ℕ} → NodeAt arm k ts left → NodeAt case_arms k ts left
  later_case : {ts middle left : List Terminal} {a : Arm} {k : ℕ}
      → ReadsPart g.branch ts a (mark m.When ∷ middle)
      → NodeAt case_arms k middle left → NodeAt case_arms (nodes_of_arm a + k) ts left
  else_case : {ts middle left : List Terminal} {a : Arm} {k : ℕ} → ReadsPart g.branch ts a middle
      → NodeAt otherwise k middle left → NodeAt case_arms (nodes_of_arm a + k) ts left
  this_else : {ts : List Terminal} → NodeAt otherwise 0 (mark m.Else ∷ ts) (mark m.Else ∷ ts)
  behind_else : {ts left : List Terminal} {k : ℕ} → NodeAt statements k ts left
      → NodeAt otherwise (1 + k) (mark m.Else ∷ ts) left
  plain : {ts left : List Terminal} {k : ℕ} → NodeAt statements k ts left
      → NodeAt block k (mark m.Begin ∷ ts) left
  declared : {ts left : List Terminal} {k : ℕ} → NodeAt declarations k ts left
      → NodeAt block k (mark m.Declare ∷ ts) left
  in_turns : {ts middle left : List Terminal} {how : LoopKind} {k : ℕ}
      → ReadsPart g.kind ts how (mark m.Loop ∷ middle) → NodeAt statements k middle left
      → NodeAt repeated k ts left
  this_body : {ts rest : List Terminal} {x : Stmt} → ReadsPart g.body ts x rest
      → NodeAt body 0 ts ts
  in_body : {ts left : List Terminal} {k : ℕ} (label : Option (List ℕ)) → NodeAt block k ts left
      → NodeAt body (1 + k) (labelled label ts) left

-- ---- the place in a file

-- The token of a list from which on so many are left begins at this byte.
pub record IsStart (list : List Lexeme) (left offset : ℕ) : Type 0 where
  pub before : List Lexeme
  pub here : Lexeme
  pub after : List Lexeme
  pub list_is : list ≡ before ++ here ∷ after
  pub left_is : left ≡ 1 + length after
  pub offset_is : offset ≡ here.start

-- The node of the number begins at the byte: there a token of the body's list stands, and the
-- tokens before it read as what comes before the node.
pub record IsPlaceIn (inner : List Lexeme) (node offset : ℕ) : Type 0 where
  pub before : List Lexeme
  pub here : Lexeme
  pub after : List Lexeme
  pub list_is : inner ≡ before ++ here ∷ after
  pub begins : NodeAt body node (token_terminals inner) (token_terminals (here ∷ after))
  pub offset_is : offset ≡ here.start

-- the same of the body in the bytes of a function's file
pub record IsNodePlace (bytes : List ℕ) (node offset : ℕ) : Type 0 where
  pub outer : List Lexeme
  pub inner : List Lexeme
  pub lexes : LexesFile bytes outer inner None
  pub place : IsPlaceIn inner node offset

-- ---- what the search finds

-- what is left of the terminals, where others stand before it
abbrev pub IsLeftOf : List Terminal → List Terminal → Type 0
IsLeftOf old rest = (before : List Terminal) × (old ≡ before ++ rest)

-- The node of the number begins where so many terminals are left.
pub record IsReached (p : Stretch) (node : ℕ) (old : List Terminal) (left : ℕ) : Type 0 where
  pub rest : List Terminal
  pub begins : NodeAt p node old rest
  pub behind : IsLeftOf old rest
  pub left_is : left ≡ length rest

abbrev pub IsInto : Stmt → Type 0
IsInto x = (w : Bool) × ((ns : List Target) × ((q : Select) × (x ≡ s.Into w ns q)))

-- so many nodes, and an INTO where this is told
pub record IsCounted (x : Stmt) (passed : Passed) : Type 0 where
  pub nodes : passed.nodes ≡ nodes_of x
  pub whole : OnTrue passed.whole (IsInto x)

-- A statement was passed, which was counted so.
pub record IsPassed (old new : List Terminal) (passed : Passed) : Type 0 where
  pub x : Stmt
  pub reads : ReadsPart g.statement old x new
  pub behind : IsLeftOf old new
  pub counted : IsCounted x passed

-- An arm was passed, which has so many nodes.
pub record IsArmPassed (old new : List Terminal) (nodes : ℕ) : Type 0 where
  pub a : Arm
  pub reads : ReadsPart g.branch old a new
  pub behind : IsLeftOf old new
  pub nodes_is : nodes ≡ nodes_of_arm a

-- a label was taken, where one stood there
abbrev pub IsLabelTaken : List Terminal → List Terminal → Type 0
IsLabelTaken old new = (label : Option (List ℕ)) × (old ≡ labelled label new)
