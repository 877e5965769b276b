-- The terminals that a function prints as. A tree prints as terminals that read as it, of which
-- there is one choice: `:=` before values, ELSIF, EXCEPTION behind RAISE, INTO behind the list.
--
-- A word that the grammar asks for by its spelling is a name of the language; it stands here as it
-- is printed, in upper case.
use Rattle.std.specs.Prelude.{ℕ, List, [], ◌∷◌, ◌++◌, map, Option, Some, None, codes}
use Rattle.away_grammar.specs.declared.grammar.Mark.TheVariants as m
use Rattle.away_grammar.specs.declared.grammar.Level.TheVariants as l
use Rattle.away_values.specs.declared.types.Ty.{Ty}
use Rattle.away_trees.specs.declared.queries.Expr.{Expr}
use Rattle.away_trees.specs.declared.queries.Expr.TheViews.{out-Select}
use Rattle.away_trees.specs.declared.queries.Select.{Select}
use Rattle.away_trees.specs.declared.statements.Decl.{Decl}
use Rattle.away_trees.specs.declared.statements.LoopKind.{LoopKind}
use Rattle.away_trees.specs.declared.statements.LoopKind.TheVariants as k
use Rattle.away_trees.specs.declared.statements.Raised.{Raised}
use Rattle.away_trees.specs.declared.statements.Raised.TheVariants as r
use Rattle.away_trees.specs.declared.statements.Stmt.{Stmt}
use Rattle.away_trees.specs.declared.statements.Stmt.TheOpen.{Stmt-F, Arm-F}
use Rattle.away_trees.specs.declared.statements.Stmt.TheOpen as st
use Rattle.away_trees.specs.declared.statements.Function.{Function}
use Rattle.away_trees.specs.Algebra.{item_of, from_of, key_of}
use Rattle.away_trees.specs.StatementAlgebra.{StatementAlgebra, stmt_of}
use Rattle.away_grammar.specs.Terminals.{Terminal, mark, name, string, quote}
use Rattle.away_grammar.specs.Grammar.{perhaps, not_null}
use Rattle.away_grammar.specs.FunctionGrammar.{Target, labelled, perhaps_name}
use Rattle.away_grammar.specs.Printing.{
  placed,
  printed,
  printing,
  type_name,
  joined,
  with_commas,
  names_terminals,
  from_terminals,
  where_terminals,
  order_terminals,
  limit_terminals,
}
use Rattle.std.specs.Prelude.{option_map}
use Rattle.function_printer.specs.Closed.{closed}

-- one behind the other
abbrev pub in_order : List (List Terminal) → List Terminal
in_order [] = []
in_order (x ∷ xs) = x ++ in_order xs

abbrev pub semicolon : List Terminal
semicolon = mark m.Semicolon ∷ []

-- an expression at a place of its own
abbrev pub whole : Expr → List Terminal
whole e = placed l.Or (printed e)

-- ---- the parts of a select

abbrev pub list_of : Select → List Terminal
list_of q = with_commas (map (λ i. item_of printing i) (out-Select q).list)

-- what follows the list
abbrev pub clauses_of : Select → List Terminal
clauses_of q =
    from_terminals (map (λ f. from_of printing f) (out-Select q).from)
    ++ (where_terminals (option_map (λ e. printed e) (out-Select q).filter)
    ++ (order_terminals (map (λ key. key_of printing key) (out-Select q).order)
    ++ limit_terminals (option_map (λ e. printed e) (out-Select q).limit)))

-- ---- declarations

abbrev pub default_of : Option Expr → List Terminal
default_of None = []
default_of (Some e) = mark m.Assign ∷ whole e

abbrev pub decl_of : Decl → List Terminal
decl_of d =
    name d.name ∷ perhaps d.constant (mark m.Constant)
    (name (type_name d.ty) ∷ not_null d.not_null (default_of d.default ++ semicolon))

abbrev pub decls_of : List Decl → List Terminal
decls_of [] = []
decls_of (d ∷ ds) = mark m.Declare ∷ in_order (map (λ x. decl_of x) (d ∷ ds))

-- ---- the heads of loops

-- what stands before LOOP behind the second dot
abbrev pub range_of : Expr → Option Expr → List Terminal
range_of last None = closed last
range_of last (Some step) = whole last ++ mark m.By ∷ closed step

abbrev pub kind_of : LoopKind → List Terminal
kind_of k.Plain = []
kind_of (k.While e) = mark m.While ∷ closed e
kind_of (k.Count var reverse first last step) =
    mark m.For ∷ name var ∷ mark m.In ∷ perhaps reverse (mark m.Reverse)
    (whole first ++ mark m.Dots ∷ range_of last step)

-- ---- statements

abbrev pub label_of : Option (List ℕ) → List Terminal
label_of label = labelled label []

abbrev pub name_of : Option (List ℕ) → List Terminal
name_of n = perhaps_name n []

abbrev pub condition_of : Option Expr → List Terminal
condition_of None = []
condition_of (Some e) = mark m.When ∷ whole e

abbrev pub else_of : Option (List (List Terminal)) → List Terminal
else_of None = []
else_of (Some body) = mark m.Else ∷ in_order body

abbrev pub raised_of : Raised → List Terminal
raised_of (r.Message z) = string z ∷ []
raised_of (r.State z) = name (codes "SQLSTATE") ∷ string z ∷ []

abbrev pub target_names : List Target → List (List ℕ)
target_names targets = map (λ (t : Target). t.0) targets

abbrev pub print_stmt : Stmt-F (List Terminal) (List Terminal) → List Terminal
print_stmt (st.Block label decls body closing) =
    label_of label ++ (decls_of decls ++ mark m.Begin
    ∷ (in_order body ++ mark m.End ∷ (name_of closing ++ semicolon)))
print_stmt (st.Assign n slot e) = name n ∷ mark m.Assign ∷ (whole e ++ semicolon)
print_stmt (st.If arms other) =
    mark m.If ∷ (joined (mark m.Elsif ∷ []) arms
    ++ (else_of other ++ mark m.End ∷ mark m.If ∷ semicolon))
print_stmt (st.Cases arms other) =
    mark m.Case ∷ mark m.When ∷ (joined (mark m.When ∷ []) arms
    ++ (else_of other ++ mark m.End ∷ mark m.Case ∷ semicolon))
print_stmt (st.Loop label kind body closing) =
    label_of label ++ (kind_of kind ++ mark m.Loop
    ∷ (in_order body ++ mark m.End ∷ mark m.Loop ∷ (name_of closing ++ semicolon)))
print_stmt (st.Exit label when) =
    mark m.Exit ∷ (name_of label ++ (condition_of when ++ semicolon))
print_stmt (st.Continue label when) =
    mark m.Continue ∷ (name_of label ++ (condition_of when ++ semicolon))
print_stmt (st.Return e) = mark m.Return ∷ (whole e ++ semicolon)
print_stmt (st.Raise raised) =
    mark m.Raise ∷ name (codes "EXCEPTION") ∷ (raised_of raised ++ semicolon)
print_stmt (st.Into strict targets q) =
    mark m.Select ∷ (list_of q ++ mark m.Into ∷ perhaps strict (mark m.Strict)
    (names_terminals (target_names targets) ++ (clauses_of q ++ semicolon)))
print_stmt st.Nothing = mark m.Null ∷ semicolon

-- a condition, THEN and its statements
abbrev pub print_arm : Arm-F (List Terminal) (List Terminal) → List Terminal
print_arm a = whole a.test ++ mark m.Then ∷ in_order a.body

abbrev pub printing_statements : StatementAlgebra
printing_statements = record {
  AStmt = List Terminal;
  AnArm = List Terminal;
  stmt = print_stmt;
  arm = print_arm;
}

-- the terminals of a statement, with its `;`
abbrev pub statement_terminals : Stmt → List Terminal
statement_terminals = stmt_of printing_statements

-- ---- around a body

abbrev pub parameter_terminals : List ℕ × Ty → List Terminal
parameter_terminals p = name p.0 ∷ name (type_name p.1) ∷ []

-- A function's own terminals, where its body is written as this dollar quote.
abbrev pub function_terminals : Function → List ℕ → List Terminal
function_terminals f body =
    mark m.Create ∷ name (codes "FUNCTION") ∷ name (codes "public") ∷ mark m.Dot ∷ name f.name
    ∷ mark m.Open ∷ (with_commas (map (λ p. parameter_terminals p) f.params) ++ mark m.Close
    ∷ name (codes "RETURNS") ∷ name (type_name f.result) ∷ name (codes "LANGUAGE")
    ∷ name (codes "plpgsql") ∷ perhaps f.strict (mark m.Strict)
    (mark m.As ∷ quote body ∷ semicolon))
