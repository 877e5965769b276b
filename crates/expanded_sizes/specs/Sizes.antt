-- How many nodes, variables and FOR loops an expanded function has, by those of its parts: nothing
-- is built. Each count gives a weight to each kind of node.
use Rattle.std.specs.Prelude.{
  ℕ,
  zero,
  suc,
  ◌+◌,
  ◌*◌,
  Bool,
  true,
  false,
  List,
  length,
  min,
  sum,
  Option,
  Some,
  None,
}
use Rattle.away_trees.specs.declared.queries.Expr.{Expr}
use Rattle.away_trees.specs.declared.statements.Function.{Function}
use Rattle.away_trees.specs.declared.statements.LoopKind.{LoopKind}
use Rattle.away_trees.specs.declared.statements.LoopKind.TheVariants as kind
use Rattle.away_trees.specs.declared.statements.Stmt.TheOpen.{Stmt-F, Arm-F}
use Rattle.away_trees.specs.declared.statements.Stmt.TheOpen as st
use Rattle.away_trees.specs.StatementAlgebra.{StatementAlgebra, stmt_of}
use Rattle.call_meaning.specs.Calls.{Called}
use Rattle.call_expand.specs.Expanding.{call_place, function_at, names_of}
use Rattle.expanded_sizes.specs.declared.weights.Weights.{Weights}

abbrev pub of_nodes : Weights
of_nodes = record { statement = 1; declaration = 1; arm = 1; target = 1; counter = 0 }

abbrev pub of_variables : Weights
of_variables = record { statement = 0; declaration = 1; arm = 0; target = 0; counter = 0 }

abbrev pub of_loops : Weights
of_loops = record { statement = 0; declaration = 0; arm = 0; target = 0; counter = 1 }

module _ (w : Weights) where
  -- an ELSE is an arm
  abbrev pub of_else : Option (List ℕ) → ℕ
  of_else None = 0
  of_else (Some body) = w.arm + sum body

  abbrev pub of_kind : LoopKind → ℕ
  of_kind kind.Plain = 0
  of_kind (kind.While e) = 0
  of_kind (kind.Count var reverse first last step) = w.counter

  -- by what an assignment and a RETURN weigh
  module _ (assigned returned : Expr → ℕ) where
    abbrev pub statement : Stmt-F ℕ ℕ → ℕ
    statement (st.Block label decls body closing) =
        w.statement + (length decls * w.declaration + sum body)
    statement (st.Assign name slot e) = assigned e
    statement (st.If arms other) = w.statement + (sum arms + of_else other)
    statement (st.Cases arms other) = w.statement + (sum arms + of_else other)
    statement (st.Loop label k body closing) = w.statement + (of_kind k + sum body)
    statement (st.Exit label when) = w.statement
    statement (st.Continue label when) = w.statement
    statement (st.Return e) = returned e
    statement (st.Raise raised) = w.statement
    statement (st.Into strict targets query) = w.statement + length targets * w.target
    statement st.Nothing = w.statement

    abbrev pub branch : Arm-F ℕ ℕ → ℕ
    branch a = w.arm + sum a.body

    abbrev pub weighing : StatementAlgebra
    weighing = record { AStmt = ℕ; AnArm = ℕ; stmt = statement; arm = branch }

  -- a block of an assignment and an EXIT, in the body of a callee
  abbrev pub of_return : Bool → ℕ
  of_return false = w.statement
  of_return true = w.statement + (w.statement + w.statement)

  -- IF with one condition and what ends there
  abbrev pub of_strict_test : Bool → ℕ → ℕ
  of_strict_test false n = 0
  of_strict_test true zero = 0
  of_strict_test true (suc n) = w.statement + (w.arm + w.statement)

  -- two blocks, the result, RAISE, so many parameters with arguments, and the test
  abbrev pub of_frame : Bool → ℕ → ℕ → ℕ
  of_frame strict n given = w.statement + w.declaration + w.statement + w.statement
      + given * w.declaration + of_strict_test strict n

  abbrev pub of_blocks : Function → List Expr → ℕ
  of_blocks g args = of_frame g.strict (length g.params) (min (length g.params) (length args))

  -- around the callee's body, with what goes on behind it
  abbrev pub of_call : Function → List Expr → ℕ → ℕ → ℕ
  of_call g args body tail = of_blocks g args + body + tail

  module _ (fs : List Function) where
    abbrev pub of_place : (ℕ → ℕ) → ℕ → Option Called → ℕ
    of_place deeper tail None = tail
    of_place deeper tail (Some c) =
        of_call (function_at fs c.part) c.args (deeper c.part) tail

    -- the body of function i, in which calls nest less than `depth` deep, of the main function or
    -- of a callee
    abbrev pub expanded_weight : ℕ → Bool → ℕ → ℕ
    expanded_weight zero inside i = w.statement
    expanded_weight (suc depth) inside i =
        stmt_of (weighing (λ e. of_place (expanded_weight depth true) w.statement
        (call_place (names_of fs) e))
        (λ e. of_place (expanded_weight depth true) (of_return inside)
        (call_place (names_of fs) e)))
        (function_at fs i).body
