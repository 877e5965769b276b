-- What in a function's statements breaks a rule of names, by the numbers of its nodes. A statement,
-- an arm and an ELSE are nodes, counted from the first node of what is looked at; the declarations
-- of a block and the targets of INTO are told by their statement, whose further nodes they are.
use Rattle.std.specs.Prelude.{◌≡◌, ◌⊎◌, ℕ, ◌+◌, Bool, true, false, if◌then◌else◌, List, [], ◌∷◌, ◌++◌, fold, length, sum_by, Option, Some, None}
use Rattle.away_values.specs.declared.types.Ty.{Ty}
use Rattle.away_trees.specs.declared.queries.Expr.{Expr}
use Rattle.away_trees.specs.declared.queries.Select.{Select}
use Rattle.away_trees.specs.declared.schemas.Schema.{Schema}
use Rattle.away_trees.specs.declared.statements.Arm.{Arm}
use Rattle.away_trees.specs.declared.statements.Decl.{Decl}
use Rattle.away_trees.specs.declared.statements.Function.{Function}
use Rattle.away_trees.specs.declared.statements.LoopKind.{LoopKind}
use Rattle.away_trees.specs.declared.statements.LoopKind.TheVariants as kind
use Rattle.away_trees.specs.declared.statements.Stmt.{Stmt}
use Rattle.away_trees.specs.declared.statements.Stmt.TheVariants as stmt
use Rattle.away_trees.specs.Count.{nodes_of, nodes_of_arm}
use Rattle.away_names.specs.declared.rule.Rule.{Rule}
use Rattle.away_names.specs.declared.rule.Rule.TheVariants as rule
use Rattle.away_names.specs.declared.scope.Variable.{Variable}
use Rattle.away_names.specs.Lookups.{Name, Scope, variable_named}
use Rattle.away_names.specs.Tables.{outermost}
use Rattle.broken_names.specs.declared.culprit.Culprit.{Culprit}
use Rattle.broken_names.specs.declared.culprit.Culprit.TheVariants as culprit
use Rattle.broken_names.specs.Holds.{Holds, of_expr, of_maybe, of_select}

-- ---- variables in sight

-- The numbers of slots don't matter to which rule is broken.
abbrev pub variable : Name → Bool → Variable
variable name constant = record { name = name; slot = 0; constant = constant }

abbrev pub with_variable : List Variable → Name → Bool → List Variable
with_variable variables name constant = variables ++ variable name constant ∷ []

abbrev pub seeing : List Variable → Scope → Scope
seeing variables s = record s { variables = variables }

abbrev pub with_decl : List Variable → Decl → List Variable
with_decl variables d = with_variable variables d.name d.constant

-- behind all declarations of a block
abbrev pub with_decls : List Variable → List Decl → List Variable
with_decls variables decls = fold with_decl variables decls

-- the counter of a FOR
abbrev pub with_counter : List Variable → LoopKind → List Variable
with_counter variables kind.Plain = variables
with_counter variables (kind.While test) = variables
with_counter variables (kind.Count var reverse first last step) = with_variable variables var false

abbrev pub with_params : List Variable → List (Name × Ty) → List Variable
with_params variables params = fold (λ all p. with_variable all p.0 false) variables params

-- ---- what a statement breaks itself

-- which rule is broken where a name is set: it stands for no variable, or for a CONSTANT
abbrev pub broken_by_set : Option Variable → Option Rule
broken_by_set None = Some rule.Names
broken_by_set (Some v) = if v.constant then Some rule.Constants else None

-- what a culprit is sought in, told by the node of its statement
pub data Own : Type 0 where
  -- each default sees the declarations before it
  defaults : List Decl → Own
  target : Name → Own
  targets : List (Name × Option ℕ) → Own
  head : LoopKind → Own
  statement : Stmt → Own

pub data IsOwn (broken : Rule) : Scope → Own → Culprit → Type 0 where
  first_default : {s : Scope} {d : Decl} {ds : List Decl} {c : Culprit}
      → Holds broken s (of_maybe d.default) c → IsOwn broken s (defaults (d ∷ ds)) c
  later_default : {s : Scope} {d : Decl} {ds : List Decl} {c : Culprit}
      → IsOwn broken (seeing (with_decl s.variables d) s) (defaults ds) c
      → IsOwn broken s (defaults (d ∷ ds)) c
  is_set : {s : Scope} {n : Name} → broken_by_set (variable_named n s.variables) ≡ Some broken
      → IsOwn broken s (target n) (culprit.Name n)
  first_target : {s : Scope} {t : Name × Option ℕ} {ts : List (Name × Option ℕ)} {c : Culprit}
      → IsOwn broken s (target t.0) c → IsOwn broken s (targets (t ∷ ts)) c
  later_target : {s : Scope} {t : Name × Option ℕ} {ts : List (Name × Option ℕ)} {c : Culprit}
      → IsOwn broken s (targets ts) c → IsOwn broken s (targets (t ∷ ts)) c
  in_while : {s : Scope} {e : Expr} {c : Culprit} → Holds broken s (of_expr e) c
      → IsOwn broken s (head (kind.While e)) c
  in_first : {s : Scope} {var : Name} {reverse : Bool} {first last : Expr} {step : Option Expr}
      {c : Culprit} → Holds broken s (of_expr first) c
      → IsOwn broken s (head (kind.Count var reverse first last step)) c
  in_last : {s : Scope} {var : Name} {reverse : Bool} {first last : Expr} {step : Option Expr}
      {c : Culprit} → Holds broken s (of_expr last) c
      → IsOwn broken s (head (kind.Count var reverse first last step)) c
  in_step : {s : Scope} {var : Name} {reverse : Bool} {first last : Expr} {step : Option Expr}
      {c : Culprit} → Holds broken s (of_maybe step) c
      → IsOwn broken s (head (kind.Count var reverse first last step)) c
  in_defaults : {s : Scope} {label : Option Name} {decls : List Decl} (body : List Stmt)
      {closing : Option Name} {c : Culprit} → IsOwn broken s (defaults decls) c
      → IsOwn broken s (statement (stmt.Block label decls body closing)) c
  in_target : {s : Scope} {n : Name} {slot : Option ℕ} {e : Expr} {c : Culprit}
      → IsOwn broken s (target n) c → IsOwn broken s (statement (stmt.Assign n slot e)) c
  in_value : {s : Scope} {n : Name} {slot : Option ℕ} {e : Expr} {c : Culprit}
      → Holds broken s (of_expr e) c → IsOwn broken s (statement (stmt.Assign n slot e)) c
  in_head : {s : Scope} {label : Option Name} {how : LoopKind} (body : List Stmt)
      {closing : Option Name} {c : Culprit} → IsOwn broken s (head how) c
      → IsOwn broken s (statement (stmt.Loop label how body closing)) c
  in_exit : {s : Scope} {label : Option Name} {when : Option Expr} {c : Culprit}
      → Holds broken s (of_maybe when) c → IsOwn broken s (statement (stmt.Exit label when)) c
  in_continue : {s : Scope} {label : Option Name} {when : Option Expr} {c : Culprit}
      → Holds broken s (of_maybe when) c → IsOwn broken s (statement (stmt.Continue label when)) c
  in_return : {s : Scope} {e : Expr} {c : Culprit} → Holds broken s (of_expr e) c
      → IsOwn broken s (statement (stmt.Return e)) c
  in_targets : {s : Scope} {strict : Bool} {ts : List (Name × Option ℕ)} {q : Select}
      {c : Culprit} → IsOwn broken s (targets ts) c
      → IsOwn broken s (statement (stmt.Into strict ts q)) c
  in_query : {s : Scope} {strict : Bool} {ts : List (Name × Option ℕ)} {q : Select} {c : Culprit}
      → Holds broken s (of_select q) c → IsOwn broken s (statement (stmt.Into strict ts q)) c

-- ---- nodes

-- what a node is sought in
pub data Stretch : Type 0 where
  of_statement : Stmt → Stretch
  of_statements : List Stmt → Stretch
  -- a condition with its statements
  of_arm : Arm → Stretch
  of_arms : List Arm → Stretch

-- In what is in sight, the node of the number in the stretch has the culprit.
pub data IsAt (broken : Rule) : Scope → Stretch → ℕ → Culprit → Type 0 where
  this_statement : {s : Scope} {x : Stmt} {c : Culprit} → IsOwn broken s (statement x) c
      → IsAt broken s (of_statement x) 0 c
  in_block : {s : Scope} {label : Option Name} {decls : List Decl} (body : List Stmt)
      {closing : Option Name} {k : ℕ} {c : Culprit}
      → IsAt broken (seeing (with_decls s.variables decls) s) (of_statements body) k c
      → IsAt broken s (of_statement (stmt.Block label decls body closing)) (1 + length decls + k) c
  in_loop : {s : Scope} {label : Option Name} {how : LoopKind} (body : List Stmt)
      {closing : Option Name} {k : ℕ} {c : Culprit}
      → IsAt broken (seeing (with_counter s.variables how) s) (of_statements body) k c
      → IsAt broken s (of_statement (stmt.Loop label how body closing)) (1 + k) c
  in_if : {s : Scope} (arms : List Arm) (other : Option (List Stmt)) {k : ℕ} {c : Culprit}
      → IsAt broken s (of_arms arms) k c → IsAt broken s (of_statement (stmt.If arms other)) (1 + k) c
  in_cases : {s : Scope} (arms : List Arm) (other : Option (List Stmt)) {k : ℕ} {c : Culprit}
      → IsAt broken s (of_arms arms) k c
      → IsAt broken s (of_statement (stmt.Cases arms other)) (1 + k) c
  -- ELSE is a node behind the arms
  in_else_of_if : {s : Scope} (arms : List Arm) (body : List Stmt) {k : ℕ} {c : Culprit}
      → IsAt broken s (of_statements body) k c
      → IsAt broken s (of_statement (stmt.If arms (Some body)))
      (1 + (sum_by nodes_of_arm arms + (1 + k))) c
  in_else_of_cases : {s : Scope} (arms : List Arm) (body : List Stmt) {k : ℕ} {c : Culprit}
      → IsAt broken s (of_statements body) k c
      → IsAt broken s (of_statement (stmt.Cases arms (Some body)))
      (1 + (sum_by nodes_of_arm arms + (1 + k))) c
  first_statement : {s : Scope} {x : Stmt} {xs : List Stmt} {k : ℕ} {c : Culprit}
      → IsAt broken s (of_statement x) k c → IsAt broken s (of_statements (x ∷ xs)) k c
  later_statement : {s : Scope} {x : Stmt} {xs : List Stmt} {k : ℕ} {c : Culprit}
      → IsAt broken s (of_statements xs) k c
      → IsAt broken s (of_statements (x ∷ xs)) (nodes_of x + k) c
  this_test : {s : Scope} {a : Arm} {c : Culprit} → Holds broken s (of_expr a.test) c
      → IsAt broken s (of_arm a) 0 c
  behind_test : {s : Scope} {a : Arm} {k : ℕ} {c : Culprit}
      → IsAt broken s (of_statements a.body) k c → IsAt broken s (of_arm a) (1 + k) c
  first_arm : {s : Scope} {a : Arm} {more : List Arm} {k : ℕ} {c : Culprit}
      → IsAt broken s (of_arm a) k c → IsAt broken s (of_arms (a ∷ more)) k c
  later_arm : {s : Scope} {a : Arm} {more : List Arm} {k : ℕ} {c : Culprit}
      → IsAt broken s (of_arms more) k c → IsAt broken s (of_arms (a ∷ more)) (nodes_of_arm a + k) c

-- ---- what the search finds, by parts

abbrev pub IsInRange : Rule → Scope → Expr → Expr → Option Expr → Culprit → Type 0
IsInRange broken s first last step c =
    Holds broken s (of_expr first) c ⊎ (Holds broken s (of_expr last) c
    ⊎ Holds broken s (of_maybe step) c)

abbrev pub IsInAssignment : Rule → Scope → Name → Expr → Culprit → Type 0
IsInAssignment broken s n e c = IsOwn broken s (target n) c ⊎ Holds broken s (of_expr e) c

abbrev pub IsInInto : Rule → Scope → List (Name × Option ℕ) → Select → Culprit → Type 0
IsInInto broken s ts q c = IsOwn broken s (targets ts) c ⊎ Holds broken s (of_select q) c

-- the node is counted from the first declaration on
abbrev pub IsInBlock : Rule → Scope → List Decl → List Stmt → ℕ → Culprit → Type 0
IsInBlock broken s decls body node c =
    (k : ℕ) × (node ≡ length decls + k)
    × IsAt broken (seeing (with_decls s.variables decls) s) (of_statements body) k c

-- so many nodes behind ELSE, where the node is counted from the first arm on
abbrev pub IsBehindArms : List Arm → ℕ → ℕ → Type 0
IsBehindArms arms node left = node ≡ sum_by nodes_of_arm arms + (1 + left)

abbrev pub IsInTurns : Rule → Scope → LoopKind → List Stmt → ℕ → Culprit → Type 0
IsInTurns broken s how body node c =
    IsAt broken (seeing (with_counter s.variables how) s) (of_statements body) node c

-- ---- functions

-- what a function's statements see: its parameters and the tables
abbrev pub entry : Schema → Function → Scope
entry schema f =
    record (outermost schema) { variables = with_params [] f.params; in_function = true }

-- the node of this number in the body, without the parameters, has the culprit
abbrev pub IsCulpritOf : Schema → Function → Rule → ℕ → Culprit → Type 0
IsCulpritOf schema f broken node c = IsAt broken (entry schema f) (of_statement f.body) node c
