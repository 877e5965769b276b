-- The slots in sight where a statement stands, and that only these matter.
use Rattle.std.specs.Prelude.{
  ◌≡◌,
  ℕ,
  zero,
  suc,
  ◌+◌,
  Bool,
  true,
  ◌&&◌,
  ◌||◌,
  ◌==◌,
  List,
  [],
  ◌∷◌,
  length,
  Option,
  Some,
  None,
}
use Rattle.away_trees.specs.declared.queries.Expr.{Expr}
use Rattle.away_trees.specs.declared.queries.Expr.TheVariants as expr
use Rattle.away_trees.specs.declared.queries.Expr.TheViews.{roll-Query}
use Rattle.away_trees.specs.declared.queries.Select.{Select}
use Rattle.away_trees.specs.declared.statements.Decl.{Decl}
use Rattle.away_trees.specs.declared.statements.LoopKind.{LoopKind}
use Rattle.away_trees.specs.declared.statements.LoopKind.TheVariants as kind
use Rattle.away_trees.specs.declared.statements.Stmt.{Stmt}
use Rattle.away_trees.specs.declared.statements.Stmt.TheOpen.{Stmt-F, Arm-F}
use Rattle.away_trees.specs.declared.statements.Stmt.TheOpen as st
use Rattle.away_trees.specs.StatementAlgebra.{StatementAlgebra, stmt_of}
use Rattle.sql_meaning.specs.Context.{at}
use Rattle.sql_meaning.specs.Reads.{fits}
use Rattle.plsql_meaning.specs.Outcomes.{Env, Done}
use Rattle.plsql_meaning.specs.Statements.{Setting, body_at, kind_vars}

abbrev pub Sight : Type 0
Sight = ℕ → Bool

-- the slot as well
abbrev pub with_slot : ℕ → Sight → Sight
with_slot slot sight = λ i. sight i || (i == slot)

-- so many slots from one on as well
abbrev pub with_slots : ℕ → ℕ → Sight → Sight
with_slots zero at sight = sight
with_slots (suc k) at sight = with_slots k (suc at) (with_slot at sight)

-- Whether an expression and a select read slots in sight alone.
pub record Readers : Type 0 where
  pub expr : Sight → Expr → Bool
  pub select : Sight → Select → Bool

-- how many slots a statement takes, and whether it reads slots in sight alone, from its first slot
-- on
pub record StatementSight : Type 0 where
  pub vars : ℕ
  pub sees : ℕ → Sight → Bool

abbrev pub row_slots : List StatementSight → ℕ
row_slots [] = 0
row_slots (s ∷ ss) = s.vars + row_slots ss

abbrev pub row_sees : List StatementSight → ℕ → Sight → Bool
row_sees [] at sight = true
row_sees (s ∷ ss) at sight = s.sees at sight && row_sees ss (at + s.vars) sight

abbrev pub other_slots : Option (List StatementSight) → ℕ
other_slots None = 0
other_slots (Some body) = row_slots body

-- arms one after the other, and ELSE behind them
abbrev pub arms_see : List StatementSight → (ℕ → Sight → Bool) → ℕ → Sight → Bool
arms_see [] other at sight = other at sight
arms_see (a ∷ as_) other at sight = a.sees at sight && arms_see as_ other (at + a.vars) sight

abbrev pub other_sees : Option (List StatementSight) → ℕ → Sight → Bool
other_sees None at sight = true
other_sees (Some body) at sight = row_sees body at sight

-- a loop's body sees its variable too
abbrev pub body_sight : LoopKind → ℕ → Sight → Sight
body_sight kind.Plain at sight = sight
body_sight (kind.While _) at sight = sight
body_sight (kind.Count _ _ _ _ _) at sight = with_slot at sight

module _ (r : Readers) where
  abbrev pub maybe_sees : Option Expr → Sight → Bool
  maybe_sees None sight = true
  maybe_sees (Some e) sight = r.expr sight e

  -- a default sees the declarations before it
  abbrev pub decls_see : List Decl → ℕ → Sight → Bool
  decls_see [] at sight = true
  decls_see (d ∷ ds) at sight = maybe_sees d.default sight && decls_see ds (suc at) (with_slot at sight)

  abbrev pub kind_sees : LoopKind → Sight → Bool
  kind_sees kind.Plain sight = true
  kind_sees (kind.While e) sight = r.expr sight e
  kind_sees (kind.Count _ _ first last by) sight = r.expr sight first && (r.expr sight last && maybe_sees by sight)

  abbrev pub statement_sight : Stmt-F StatementSight StatementSight → StatementSight
  statement_sight (st.Block _ decls body _) = record {
    vars = length decls + row_slots body;
    sees = λ at sight. decls_see decls at sight && row_sees body (at + length decls) (with_slots (length decls) at sight);
  }
  statement_sight (st.Assign _ _ e) = record { vars = 0; sees = λ at sight. r.expr sight e }
  statement_sight (st.If arms other) = record { vars = row_slots arms + other_slots other; sees = arms_see arms (other_sees other) }
  statement_sight (st.Cases arms other) = record { vars = row_slots arms + other_slots other; sees = arms_see arms (other_sees other) }
  statement_sight (st.Loop _ k body _) = record {
    vars = kind_vars k + row_slots body;
    sees = λ at sight. kind_sees k sight && row_sees body (body_at k at) (body_sight k at sight);
  }
  statement_sight (st.Exit _ when) = record { vars = 0; sees = λ at sight. maybe_sees when sight }
  statement_sight (st.Continue _ when) = record { vars = 0; sees = λ at sight. maybe_sees when sight }
  statement_sight (st.Return e) = record { vars = 0; sees = λ at sight. r.expr sight e }
  statement_sight (st.Raise _) = record { vars = 0; sees = λ at sight. true }
  statement_sight (st.Into _ _ query) = record { vars = 0; sees = λ at sight. r.select sight query }
  statement_sight st.Nothing = record { vars = 0; sees = λ at sight. true }

  abbrev pub arm_sight : Arm-F StatementSight StatementSight → StatementSight
  arm_sight a = record { vars = row_slots a.body; sees = λ at sight. r.expr sight a.test && row_sees a.body at sight }

  abbrev pub seeing : StatementAlgebra
  seeing = record { AStmt = StatementSight; AnArm = StatementSight; stmt = statement_sight; arm = arm_sight }

  -- a statement whose first slot is `at` reads slots in sight alone: those around it, the
  -- declarations before in its blocks, the variables of its FORs
  abbrev pub reads_in_sight : Stmt → ℕ → Sight → Bool
  reads_in_sight s = (stmt_of seeing s).sees

-- a select as the only one of a subquery
abbrev pub query_of : Select → Expr
query_of s = expr.Scalar (roll-Query (record { recursive = None; selects = s ∷ [] }))

-- Over so many tables an expression reads slots in sight, these tables and no parameter of a query.
-- So does the select of an INTO.
abbrev pub of_expressions : ℕ → Readers
of_expressions tables = record {
  expr = λ sight e. fits sight 0 tables e;
  select = λ sight s. fits sight 0 tables (query_of s);
}

-- ---- what it means

-- the same values in the slots in sight
pub record Agree (sight : Sight) (env other : Env) : Type 0 where
  pub long : length env ≡ length other
  pub values : (i : ℕ) → sight i ≡ true → at env i ≡ at other i

-- the value of an expression that reads slots in sight alone is by these alone; so are the rows of
-- such a select
pub record AreReaders (set : Setting) (r : Readers) : Type 0 where
  pub value : (sight : Sight) (e : Expr) → r.expr sight e ≡ true → (env other : Env) → Agree sight env other → set.value e env ≡ set.value e other
  pub rows : (sight : Sight) (s : Select) → r.select sight s ≡ true → (env other : Env) → Agree sight env other → set.rows s env ≡ set.rows s other

-- two ends are the same but for slots out of sight
pub record EndAlike (sight : Sight) (d e : Done) : Type 0 where
  pub outcome : d.outcome ≡ e.outcome
  pub left : d.left ≡ e.left
  pub env : Agree sight d.env e.env

-- A step reads slots in sight alone: from variables that agree in sight it ends alike.
abbrev pub Alike : Sight → (Env → ℕ → Done) → Type 0
Alike sight step = (env other : Env) (n : ℕ) → Agree sight env other → EndAlike sight (step env n) (step other n)
