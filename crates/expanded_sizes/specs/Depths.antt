-- How deep the printed tokens of a function nest in which calls are expanded, by its parts: nothing
-- is built. What `(`, BEGIN, IF, LOOP and CASE open, `)` and END close, and END with IF, LOOP or
-- CASE directly behind it closes once.
use Rattle.std.specs.Prelude.{
  ◌≡◌,
  ℕ,
  zero,
  suc,
  ◌+◌,
  ◌-◌,
  max,
  Bool,
  true,
  false,
  if◌then◌else◌,
  List,
  [],
  ◌∷◌,
  length,
  take,
  Option,
  Some,
  None,
}
use Rattle.away_grammar.specs.declared.grammar.Mark.{Mark}
use Rattle.away_grammar.specs.declared.grammar.Mark.TheVariants as m
use Rattle.away_grammar.specs.Terminals.{Terminal, mark}
use Rattle.away_trees.specs.declared.queries.Expr.{Expr}
use Rattle.away_trees.specs.declared.queries.Select.{Select}
use Rattle.away_trees.specs.declared.statements.Function.{Function}
use Rattle.away_trees.specs.declared.statements.LoopKind.{LoopKind}
use Rattle.away_trees.specs.declared.statements.Stmt.{Stmt}
use Rattle.away_trees.specs.declared.statements.Stmt.TheOpen.{Stmt-F, Arm-F}
use Rattle.away_trees.specs.declared.statements.Stmt.TheOpen as st
use Rattle.away_trees.specs.StatementAlgebra.{StatementAlgebra, stmt_of}
use Rattle.call_meaning.specs.Calls.{Called}
use Rattle.call_expand.specs.Expanding.{call_place, function_at, names_of}
use Rattle.function_printer.specs.FunctionTerminals.{
  clauses_of,
  condition_of,
  decls_of,
  kind_of,
  list_of,
  whole,
}
use Rattle.expanded_sizes.specs.declared.depths.Role.{Role}
use Rattle.expanded_sizes.specs.declared.depths.Role.TheVariants.{
  Opens,
  Begins,
  Ends,
  Closes,
  Stays,
}

-- ---- terminals

-- IF, LOOP and CASE begin what END with the same word ends
abbrev pub mark_role : Mark → Role
mark_role m.Open = Opens
mark_role m.Begin = Opens
mark_role m.If = Begins
mark_role m.Loop = Begins
mark_role m.Case = Begins
mark_role m.End = Ends
mark_role m.Close = Closes
mark_role _ = Stays

abbrev pub role : Terminal → Role
role (mark x) = mark_role x
role _ = Stays

abbrev pub is_begin : Role → Bool
is_begin Begins = true
is_begin _ = false

abbrev pub begins : List Terminal → Bool
begins [] = false
begins (t ∷ ts) = is_begin (role t)

-- what a terminal makes of the greatest depth of what follows it, where that begins with IF, LOOP
-- or CASE or doesn't
abbrev pub counted : Bool → Role → ℕ → ℕ
counted before Opens n = n + 1
counted before Begins n = n + 1
counted false Ends n = n - 1
counted true Ends n = n - 2
counted before Closes n = n - 1
counted before Stays n = n

-- how deep terminals nest: the greatest count, over their fronts, of what is open there
abbrev pub depth : List Terminal → ℕ
depth [] = 0
depth (t ∷ ts) = counted (begins ts) (role t) (depth ts)

-- ---- the greatest

abbrev pub most_by : {A : Type 0} → (A → ℕ) → List A → ℕ
most_by f [] = 0
most_by f (x ∷ xs) = max (f x) (most_by f xs)

abbrev pub most : List ℕ → ℕ
most = most_by (λ n. n)

-- ---- statements

abbrev pub expr_depth : Expr → ℕ
expr_depth e = depth (whole e)

abbrev pub select_depth : Select → ℕ
select_depth q = max (depth (list_of q)) (depth (clauses_of q))

abbrev pub else_depth : Option (List ℕ) → ℕ
else_depth None = 0
else_depth (Some body) = most body

-- by how deep an assignment and a RETURN nest
module _ (assigned returned : Expr → ℕ) where
  abbrev pub statement : Stmt-F ℕ ℕ → ℕ
  statement (st.Block label decls body closing) = max (depth (decls_of decls)) (most body + 1)
  statement (st.Assign name slot e) = assigned e
  statement (st.If arms other) = max (most arms) (else_depth other) + 1
  statement (st.Cases arms other) = max (most arms) (else_depth other) + 1
  statement (st.Loop label k body closing) = max (depth (kind_of k)) (most body + 1)
  statement (st.Exit label when) = depth (condition_of when)
  statement (st.Continue label when) = depth (condition_of when)
  statement (st.Return e) = returned e
  statement (st.Raise raised) = 0
  statement (st.Into strict targets query) = select_depth query
  statement st.Nothing = 0

  abbrev pub branch : Arm-F ℕ ℕ → ℕ
  branch a = max (expr_depth a.test) (most a.body)

  abbrev pub nesting : StatementAlgebra
  nesting = record { AStmt = ℕ; AnArm = ℕ; stmt = statement; arm = branch }

-- ---- calls

-- a RETURN in a called function's body stands in a block of its own
abbrev pub around_return : Bool → ℕ
around_return false = 0
around_return true = 1

abbrev pub strict_depth : Bool → ℕ → ℕ
strict_depth false n = 0
strict_depth true zero = 0
strict_depth true (suc n) = 1

-- the arguments of so many parameters
abbrev pub given_depth : ℕ → List Expr → ℕ
given_depth n args = most_by expr_depth (take n args)

-- two blocks around the callee's body; what goes on behind it stands in the outer one
abbrev pub call_depth : Function → List Expr → ℕ → ℕ → ℕ
call_depth g args body tail = max (max (given_depth (length g.params) args)
    (max (strict_depth g.strict (length g.params)) body + 1)) tail + 1

module _ (fs : List Function) where
  -- a place by how much deeper than its value stands what goes on with it
  abbrev pub place_depth : (ℕ → ℕ) → ℕ → Expr → Option Called → ℕ
  place_depth deeper tail e None = expr_depth e + tail
  place_depth deeper tail e (Some c) =
      call_depth (function_at fs c.part) c.args (deeper c.part) tail

  -- the body of function i, in which calls nest less than so deep, of the main function or of a
  -- callee
  abbrev pub expanded_depth : ℕ → Bool → ℕ → ℕ
  expanded_depth zero inside i = 0
  expanded_depth (suc calls) inside i =
      stmt_of (nesting (λ e. place_depth (expanded_depth calls true) 0 e
      (call_place (names_of fs) e))
      (λ e. place_depth (expanded_depth calls true) (around_return inside) e
      (call_place (names_of fs) e)))
      (function_at fs i).body

-- ---- loops whose head ends with END, which no text reads as

abbrev pub is_end : Role → Bool
is_end Ends = true
is_end _ = false

abbrev pub ends_open : List Terminal → Bool
ends_open [] = false
ends_open (t ∷ []) = is_end (role t)
ends_open (t ∷ u ∷ ts) = ends_open (u ∷ ts)

abbrev pub loose_head : LoopKind → ℕ
loose_head k = if ends_open (kind_of k) then 1 else 0

abbrev pub loose_statement : Stmt-F ℕ ℕ → ℕ
loose_statement (st.Block label decls body closing) = most body
loose_statement (st.If arms other) = max (most arms) (else_depth other)
loose_statement (st.Cases arms other) = max (most arms) (else_depth other)
loose_statement (st.Loop label k body closing) = max (loose_head k) (most body)
loose_statement _ = 0

abbrev pub loose_branch : Arm-F ℕ ℕ → ℕ
loose_branch a = most a.body

abbrev pub loosening : StatementAlgebra
loosening = record { AStmt = ℕ; AnArm = ℕ; stmt = loose_statement; arm = loose_branch }

-- none in a statement
abbrev pub HeadsClose : Stmt → Type 0
HeadsClose s = stmt_of loosening s ≡ 0
