-- How the reader of a function's body descends.
use Rattle.std.specs.Prelude.{ℕ, Bool, true, false, List, [], ◌∷◌, Option, Some, None, codes}
use Rattle.away_grammar.specs.declared.grammar.Mark.{Mark}
use Rattle.away_grammar.specs.declared.grammar.Mark.TheVariants as m
use Rattle.away_values.specs.declared.types.Ty.{Ty}
use Rattle.away_trees.specs.declared.queries.Expr.{Expr}
use Rattle.away_trees.specs.declared.queries.Item.{Item}
use Rattle.away_trees.specs.declared.statements.Decl.{Decl}
use Rattle.away_trees.specs.declared.statements.LoopKind.{LoopKind}
use Rattle.away_trees.specs.declared.statements.LoopKind.TheVariants as k
use Rattle.away_trees.specs.declared.statements.Raised.{Raised}
use Rattle.away_trees.specs.declared.statements.Raised.TheVariants as r
use Rattle.away_trees.specs.declared.statements.Stmt.{Stmt}
use Rattle.away_trees.specs.declared.statements.Stmt.TheVariants as s
use Rattle.away_grammar.specs.Terminals.{Terminal, mark, name}
use Rattle.away_grammar.specs.FunctionGrammar.{
  decl,
  decls,
  default,
  statement,
  statements,
  branch,
  elsifs,
  whens,
  otherwise,
}
use Rattle.away_grammar.specs.FunctionGrammar.{
  condition,
  block,
  repeated,
  kind,
  step,
  body,
  opens_loop,
  targets,
  into,
  clauses,
  Target,
}
use Rattle.away_grammar.specs.Grammar.{items, from_clause, where_clause, order_clause, limit_clause}
use Rattle.sql_text.specs.Descent.{select_with}
use Rattle.sql_text.specs.Plans.{done, fail, take, eat, look, read, want, expect}
use Rattle.plsql_parse.specs.Sorts.{
  sql,
  part,
  PartPlan,
  expression,
  a_name,
  a_type,
  maybe_name,
  eat_word,
  string_in,
  is_name,
}

-- ---- what stands next

-- by the mark that stands next
abbrev pub next : (Mark → Bool) → List Terminal → Bool
next test (mark terminal ∷ ts) = test terminal
next test _ = false

-- the marks that end a list of statements
abbrev pub closes : Mark → Bool
closes m.End = true
closes m.Else = true
closes m.Elsif = true
closes m.Elseif = true
closes m.When = true
closes _ = false

abbrev pub opens_block : Mark → Bool
opens_block m.Declare = true
opens_block m.Begin = true
opens_block _ = false

-- the marks that open a block or a loop
abbrev pub opens : Mark → Bool
opens m.Declare = true
opens m.Begin = true
opens m.Loop = true
opens m.While = true
opens m.For = true
opens _ = false

-- ---- declarations

abbrev pub default_value : PartPlan default
default_value = expression (λ x. done (Some x))

abbrev pub default_plan : PartPlan default
default_plan = eat m.Assign default_value (eat m.Equal default_value (eat m.Default default_value (done None)))

abbrev pub valued_plan : List ℕ → Bool → Ty → Bool → PartPlan decl
valued_plan n constant t not_null =
    read (part default) (λ x. expect m.Semicolon (done (record { name = n; ty = t; constant = constant; not_null = not_null; default = x })))

-- behind the name, and CONSTANT where it is written
abbrev pub typed_plan : List ℕ → Bool → PartPlan decl
typed_plan n constant = a_type (λ t. eat m.Not (expect m.Null (valued_plan n constant t true)) (valued_plan n constant t false))

abbrev pub decl_plan : PartPlan decl
decl_plan = a_name (λ n. eat m.Constant (typed_plan n true) (typed_plan n false))

abbrev pub decls_plan : PartPlan decls
decls_plan = look is_name (read (part decl) (λ d. read (part decls) (λ ds. done (d ∷ ds)))) (done [])

-- ---- blocks and loops

-- behind BEGIN
abbrev pub begun_plan : (label : Option (List ℕ)) → List Decl → PartPlan (block label)
begun_plan label ds = read (part statements) (λ ss. expect m.End (maybe_name (λ closing. done (s.Block label ds ss closing))))

abbrev pub block_plan : (label : Option (List ℕ)) → PartPlan (block label)
block_plan label = eat m.Declare (read (part decls) (λ ds. expect m.Begin (begun_plan label ds))) (expect m.Begin (begun_plan label []))

-- behind LOOP
abbrev pub repeating_plan : (label : Option (List ℕ)) → LoopKind → PartPlan (repeated label)
repeating_plan label how =
    read (part statements) (λ ss. expect m.End (expect m.Loop (maybe_name (λ closing. done (s.Loop label how ss closing)))))

abbrev pub repeated_plan : (label : Option (List ℕ)) → PartPlan (repeated label)
repeated_plan label = read (part kind) (λ how. expect m.Loop (repeating_plan label how))

-- behind IN, and REVERSE where it is written
abbrev pub counted_plan : List ℕ → Bool → PartPlan kind
counted_plan n reverse =
    look opens_loop
    (expression (λ first. expect m.Dots (expression (λ last. read (part step) (λ x. done (k.Count n reverse first last x))))))
    fail

-- behind WHILE
abbrev pub while_plan : PartPlan kind
while_plan = look opens_loop (expression (λ x. done (k.While x))) fail

abbrev pub kind_plan : PartPlan kind
kind_plan =
    eat m.While while_plan
    (eat m.For (a_name (λ n. expect m.In (eat m.Reverse (counted_plan n true) (counted_plan n false)))) (done k.Plain))

abbrev pub step_plan : PartPlan step
step_plan = eat m.By (expression (λ x. done (Some x))) (done None)

-- ---- statements

abbrev pub value_plan : List ℕ → PartPlan statement
value_plan n = expression (λ x. expect m.Semicolon (done (s.Assign n None x)))

-- behind the name that is assigned to
abbrev pub assigned_plan : List ℕ → PartPlan statement
assigned_plan n = eat m.Assign (value_plan n) (expect m.Equal (value_plan n))

abbrev pub branch_plan : PartPlan branch
branch_plan = expression (λ x. expect m.Then (read (part statements) (λ ss. done (record { test = x; body = ss }))))

-- behind ELSIF or ELSEIF
abbrev pub elsif_plan : PartPlan elsifs
elsif_plan = read (part branch) (λ a. read (part elsifs) (λ more. done (a ∷ more)))

abbrev pub elsifs_plan : PartPlan elsifs
elsifs_plan = eat m.Elsif elsif_plan (eat m.Elseif elsif_plan (done []))

-- behind WHEN
abbrev pub when_plan : PartPlan whens
when_plan = read (part branch) (λ a. read (part whens) (λ more. done (a ∷ more)))

abbrev pub whens_plan : PartPlan whens
whens_plan = eat m.When when_plan (done [])

abbrev pub otherwise_plan : PartPlan otherwise
otherwise_plan = eat m.Else (read (part statements) (λ ss. done (Some ss))) (done None)

abbrev pub condition_plan : PartPlan condition
condition_plan = eat m.When (expression (λ x. done (Some x))) (done None)

-- behind IF
abbrev pub if_plan : PartPlan statement
if_plan =
    read (part branch) (λ a. read (part elsifs) (λ more. read (part otherwise) (λ other.
    expect m.End (expect m.If (expect m.Semicolon (done (s.If (a ∷ more) other)))))))

-- behind CASE
abbrev pub cases_plan : PartPlan statement
cases_plan =
    expect m.When (read (part branch) (λ a. read (part whens) (λ more. read (part otherwise) (λ other.
    expect m.End (expect m.Case (expect m.Semicolon (done (s.Cases (a ∷ more) other))))))))

-- behind EXIT or CONTINUE, and the label where it is written
abbrev pub left_plan : (Option Expr → Stmt) → PartPlan statement
left_plan leave = read (part condition) (λ x. expect m.Semicolon (done (leave x)))

-- behind EXIT or CONTINUE
abbrev pub leaving_plan : (Option (List ℕ) → Option Expr → Stmt) → PartPlan statement
leaving_plan leave = maybe_name (λ label. left_plan (leave label))

abbrev pub text_plan : (List ℕ → Raised) → PartPlan statement
text_plan raised = want string_in (λ z. expect m.Semicolon (done (s.Raise (raised z))))

-- behind RAISE, and `exception` where it is written
abbrev pub raised_plan : PartPlan statement
raised_plan = eat_word (codes "sqlstate") (text_plan r.State) (text_plan r.Message)

abbrev pub raise_plan : PartPlan statement
raise_plan = eat_word (codes "exception") raised_plan raised_plan

-- ---- SELECT INTO

abbrev pub targets_plan : PartPlan targets
targets_plan =
    a_name (λ n. eat m.Comma
    (read (part targets) (λ ns. done ((n, None) ∷ ns)))
    (done ((n, None) ∷ [])))

-- behind INTO, and STRICT where it is written
abbrev pub strict_plan : Bool → PartPlan into
strict_plan strict = read (part targets) (λ ns. done (strict, ns))

abbrev pub into_plan : PartPlan into
into_plan = eat m.Strict (strict_plan true) (strict_plan false)

abbrev pub clauses_plan : (list : List Item) → PartPlan (clauses list)
clauses_plan list =
    read (sql from_clause) (λ fs. read (sql where_clause)
    (λ w. read (sql order_clause) (λ ks. read (sql limit_clause)
    (λ n. done (select_with list fs w ks n)))))

-- behind the list and the INTO of a select
abbrev pub selected_plan : Bool × List Target → List Item → PartPlan statement
selected_plan x list =
    read (part (clauses list)) (λ q. expect m.Semicolon (done (s.Into x.0 x.1 q)))

-- behind SELECT INTO
abbrev pub into_first_plan : PartPlan statement
into_first_plan = read (part into) (λ x. read (sql items) (λ list. selected_plan x list))

-- behind the list of a select
abbrev pub into_behind_plan : List Item → PartPlan statement
into_behind_plan list = expect m.Into (read (part into) (λ x. selected_plan x list))

-- behind SELECT
abbrev pub select_plan : PartPlan statement
select_plan = eat m.Into into_first_plan (read (sql items) into_behind_plan)

-- behind a mark
abbrev pub marked_plan : Mark → PartPlan statement
marked_plan m.Null = expect m.Semicolon (done s.Nothing)
marked_plan m.Return = expression (λ x. expect m.Semicolon (done (s.Return x)))
marked_plan m.If = if_plan
marked_plan m.Case = cases_plan
marked_plan m.Exit = leaving_plan s.Exit
marked_plan m.Continue = leaving_plan s.Continue
marked_plan m.Raise = raise_plan
marked_plan m.Select = select_plan
marked_plan _ = fail

abbrev pub statement_by : Option Terminal → PartPlan statement
statement_by (Some (name n)) = assigned_plan n
statement_by (Some (mark terminal)) = marked_plan terminal
statement_by _ = fail

-- a block or a loop behind its label
abbrev pub labelled_plan : Option (List ℕ) → PartPlan statement
labelled_plan label =
    look (next opens_block)
    (read (part (block label)) (λ x. expect m.Semicolon (done x)))
    (read (part (repeated label)) (λ x. expect m.Semicolon (done x)))

abbrev pub statement_plan : PartPlan statement
statement_plan =
    eat m.LabelOpen (a_name (λ n. expect m.LabelClose (labelled_plan (Some n))))
    (look (next opens) (labelled_plan None) (take statement_by))

abbrev pub statements_plan : PartPlan statements
statements_plan = look (next closes) (done []) (read (part statement) (λ x. read (part statements) (λ xs. done (x ∷ xs))))

-- ---- bodies

-- a body behind its label
abbrev pub outermost_plan : Option (List ℕ) → PartPlan body
outermost_plan label = read (part (block label)) (λ x. eat m.Semicolon (done x) (done x))

abbrev pub body_plan : PartPlan body
body_plan = eat m.LabelOpen (a_name (λ n. expect m.LabelClose (outermost_plan (Some n)))) (outermost_plan None)
