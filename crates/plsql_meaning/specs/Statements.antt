-- What a statement does, by what its parts do.
use Rattle.std.specs.Prelude.{
  ℕ,
  suc,
  ◌+◌,
  Bool,
  true,
  false,
  ◌&&◌,
  if◌then◌else◌,
  pos,
  List,
  [],
  ◌∷◌,
  length,
  map,
  get_or,
  slice_set,
  Option,
  Some,
  None,
  Ok,
  Err,
}
use Rattle.away_values.specs.declared.values.Value.{Value}
use Rattle.away_values.specs.declared.values.Value.TheVariants as val
use Rattle.away_values.specs.declared.values.Class.{Class}
use Rattle.away_values.specs.declared.types.Ty.{Ty}
use Rattle.away_values.specs.declared.operators.CmpOp.TheVariants as cmp
use Rattle.away_trees.specs.declared.queries.Expr.{Expr}
use Rattle.away_trees.specs.declared.queries.Select.{Select}
use Rattle.away_trees.specs.declared.queries.Expr.TheViews.{out-Select}
use Rattle.away_trees.specs.declared.statements.Decl.{Decl}
use Rattle.away_trees.specs.declared.statements.LoopKind.{LoopKind}
use Rattle.away_trees.specs.declared.statements.LoopKind.TheVariants as kind
use Rattle.away_trees.specs.declared.statements.Raised.{Raised}
use Rattle.away_trees.specs.declared.statements.Raised.TheVariants as raised
use Rattle.away_trees.specs.declared.statements.Stmt.{Stmt}
use Rattle.away_trees.specs.declared.statements.Stmt.TheOpen.{Stmt-F, Arm-F}
use Rattle.away_trees.specs.declared.statements.Stmt.TheOpen as st
use Rattle.away_trees.specs.StatementAlgebra.{StatementAlgebra, stmt_of}
use Rattle.away_values.specs.Operators.{compare, is_true, is_null}
use Rattle.away_values.specs.Results.{Or, class}
use Rattle.sql_meaning.specs.Context.{Rows}
use Rattle.away_values.specs.Classes.{is_class}
use Rattle.plsql_meaning.specs.Outcomes.{
  Env,
  Label,
  Outcome,
  normal,
  exits,
  continues,
  returns,
  faults,
  done,
  Step,
  and_then,
  close,
  null_not_allowed,
  invalid_parameter,
  case_not_found,
  raised_message,
  no_data_found,
  too_many_rows,
}
pub use Rattle.plsql_meaning.specs.Conversions.{head_or_null, rest_of}
use Rattle.plsql_meaning.specs.Conversions.{conversions, converted_row}
use Rattle.plsql_meaning.specs.Loops.{turning, always, while, counts}

-- What a statement stands in: the values of expressions, the rows of selects, the types of the
-- slots, and whether each is NOT NULL.
pub record Setting : Type 0 where
  pub value : Expr → Env → Or Value
  pub rows : Select → Env → Or Rows
  pub types : List Ty
  pub not_null : List Bool

-- How many slots a statement takes, and what it does from the first of them on.
pub record StatementMeaning : Type 0 where
  pub vars : ℕ
  pub run : ℕ → Step

-- the same of an arm, with its condition
pub record ArmMeaning : Type 0 where
  pub test : Expr
  pub vars : ℕ
  pub run : ℕ → Step

abbrev pub row_vars : List StatementMeaning → ℕ
row_vars [] = 0
row_vars (s ∷ ss) = s.vars + row_vars ss

abbrev pub in_row : List StatementMeaning → ℕ → Step
in_row [] at env n = done normal env n
in_row (s ∷ ss) at env n = and_then (s.run at env n) (in_row ss (at + s.vars))

abbrev pub arms_vars : List ArmMeaning → ℕ
arms_vars [] = 0
arms_vars (a ∷ as_) = a.vars + arms_vars as_

abbrev pub else_vars : Option (List StatementMeaning) → ℕ
else_vars None = 0
else_vars (Some body) = row_vars body

abbrev pub kind_vars : LoopKind → ℕ
kind_vars kind.Plain = 0
kind_vars (kind.While _) = 0
kind_vars (kind.Count _ _ _ _ _) = 1

-- the first slot that a loop's body may take: behind that of its own variable
abbrev pub body_at : LoopKind → ℕ → ℕ
body_at kind.Plain at = at
body_at (kind.While _) at = at
body_at (kind.Count _ _ _ _ _) at = at + 1

-- a text that is no SQLSTATE, which no reader gives, stands for the class of a message
abbrev pub class_of : Raised → Class
class_of (raised.Message _) = raised_message
class_of (raised.State code) = if is_class code then class code else raised_message

-- a value is put into a slot, unless it is NULL where it may not be
abbrev pub stored : Bool → ℕ → Value → Step
stored true slot v env n = done (faults null_not_allowed) env n
stored false slot v env n = done normal (slice_set env slot v) n

-- the default of a declaration
abbrev pub initial : (Expr → Env → Or Value) → Option Expr → Env → Or Value
initial value None env = Ok val.Null
initial value (Some e) env = value e env

-- a condition is taken only where it is true
abbrev pub pick : Bool → Step → Step → Step
pick true chosen other = chosen
pick false chosen other = other

abbrev pub choose : Or Value → Step → Step → Step
choose (Err c) chosen other env n = done (faults c) env n
choose (Ok v) chosen other env n = pick (is_true v) chosen other env n

abbrev pub give : Or Value → Step
give (Err c) env n = done (faults c) env n
give (Ok v) env n = done (returns v) env n

-- a bound or a step, which may not be NULL
abbrev pub bounded : Bool → Value → (Value → Step) → Step
bounded true v go env n = done (faults null_not_allowed) env n
bounded false v go env n = go v env n

abbrev pub with_bound : Or Value → (Value → Step) → Step
with_bound (Err c) go env n = done (faults c) env n
with_bound (Ok v) go env n = bounded (is_null v) v go env n

-- a step, which is positive
abbrev pub judged : Bool → Value → (Value → Step) → Step
judged true v go env n = done (faults invalid_parameter) env n
judged false v go env n = go v env n

module _ (set : Setting) where
  abbrev pub is_not_null : ℕ → Bool
  is_not_null slot = get_or set.not_null slot false

  abbrev pub put : ℕ → Or Value → Step
  put slot (Err c) env n = done (faults c) env n
  put slot (Ok v) env n = stored (is_not_null slot && is_null v) slot v env n

  -- before names are resolved an assignment has no slot, and does nothing
  abbrev pub assign : Option ℕ → Or Value → Step
  assign None v env n = done normal env n
  assign (Some slot) v env n = put slot v env n

  abbrev pub declare : List Decl → ℕ → Step
  declare [] at env n = done normal env n
  declare (d ∷ ds) at env n = and_then (put at (initial set.value d.default env) env n) (declare ds (suc at))

  abbrev pub jump : Option Expr → Outcome → Step
  jump None o env n = done o env n
  jump (Some e) o env n = choose (set.value e env) (done o) (done normal) env n

  abbrev pub in_arms : List ArmMeaning → (ℕ → Step) → ℕ → Step
  in_arms [] other at env n = other at env n
  in_arms (a ∷ as_) other at env n = choose (set.value a.test env) (a.run at) (in_arms as_ other (at + a.vars)) env n

  abbrev pub in_else : Option (List StatementMeaning) → Outcome → ℕ → Step
  in_else None o at env n = done o env n
  in_else (Some body) o at env n = in_row body at env n

  -- ---- FOR

  -- the step is 1 where none is written, and else positive
  abbrev pub with_step : Option Expr → (Value → Step) → Step
  with_step None go env n = go (val.Int (pos 1)) env n
  with_step (Some e) go env n = with_bound (set.value e env) (λ v. judged (is_true (compare cmp.Le v (val.Int (pos 0)))) v go) env n

  abbrev pub loop : LoopKind → Label → ℕ → Step → Step
  loop kind.Plain own at body env n = turning always own body tt env n
  loop (kind.While e) own at body env n = turning (while (set.value e)) own body tt env n
  loop (kind.Count _ reverse first last by) own at body env n =
      with_bound (set.value first env)
      (λ a env n. with_bound (set.value last env) (λ b. with_step by (λ c. turning (counts reverse b c at) own body a)) env n) env n

  -- ---- SELECT INTO

  -- from left to right; a target without a value is set to NULL
  abbrev pub put_all : List (List ℕ × Option ℕ) → List Value → Step
  put_all [] vs env n = done normal env n
  put_all (t ∷ ts) vs env n = and_then (assign t.1 (Ok (head_or_null vs)) env n) (put_all ts (rest_of vs))

  -- all values are converted before the first target is set
  abbrev pub put_converted : List (List ℕ × Option ℕ) → Or (List Value) → Step
  put_converted ts (Err c) env n = done (faults c) env n
  put_converted ts (Ok vs) env n = put_all ts vs env n

  abbrev pub put_row : List (Option Ty) → List (List ℕ × Option ℕ) → List Value → Step
  put_row cs ts vs = put_converted ts (converted_row cs vs)

  -- by the types that values are converted to
  abbrev pub into_as : Bool → List (Option Ty) → List (List ℕ × Option ℕ) → Or Rows → Step
  into_as strict cs ts (Err c) env n = done (faults c) env n
  into_as true cs ts (Ok []) env n = done (faults no_data_found) env n
  into_as false cs ts (Ok []) env n = put_row cs ts [] env n
  into_as true cs ts (Ok (r ∷ [])) env n = put_row cs ts r env n
  into_as true cs ts (Ok (r ∷ s ∷ rs)) env n = done (faults too_many_rows) env n
  into_as false cs ts (Ok (r ∷ rs)) env n = put_row cs ts r env n

  abbrev pub into : Bool → List (List ℕ × Option ℕ) → Select → Or Rows → Step
  into strict ts query = into_as strict (conversions set.types ts (out-Select query).list) ts

  -- ---- statements

  abbrev pub statement : Stmt-F StatementMeaning ArmMeaning → StatementMeaning
  statement (st.Block label decls body _) =
      record {
        vars = length decls + row_vars body;
        run = λ at env n. close label
            (and_then (declare decls at env n) (in_row body (at + length decls)));
      }
  statement (st.Assign _ slot e) = record { vars = 0; run = λ at env n. assign slot (set.value e env) env n }
  statement (st.If arms other) = record { vars = arms_vars arms + else_vars other; run = in_arms arms (in_else other normal) }
  statement (st.Cases arms other) = record { vars = arms_vars arms + else_vars other; run = in_arms arms (in_else other (faults case_not_found)) }
  statement (st.Loop label k body _) = record { vars = kind_vars k + row_vars body; run = λ at. loop k label at (in_row body (body_at k at)) }
  statement (st.Exit label when) = record { vars = 0; run = λ at. jump when (exits label) }
  statement (st.Continue label when) = record { vars = 0; run = λ at. jump when (continues label) }
  statement (st.Return e) = record { vars = 0; run = λ at env n. give (set.value e env) env n }
  statement (st.Raise r) = record { vars = 0; run = λ at env n. done (faults (class_of r)) env n }
  statement (st.Into strict targets query) = record {
    vars = 0;
    run = λ at env n. into strict targets query (set.rows query env) env n;
  }
  statement st.Nothing = record { vars = 0; run = λ at env n. done normal env n }

  abbrev pub arm : Arm-F StatementMeaning ArmMeaning → ArmMeaning
  arm a = record { test = a.test; vars = row_vars a.body; run = in_row a.body }

  abbrev pub running : StatementAlgebra
  running = record { AStmt = StatementMeaning; AnArm = ArmMeaning; stmt = statement; arm = arm }

  -- what a statement does, and what statements do one after the other
  abbrev pub meaning : Stmt → StatementMeaning
  meaning s = stmt_of running s

  abbrev pub meanings : List Stmt → List StatementMeaning
  meanings ss = map (λ s. stmt_of running s) ss
