-- The function in which calls are expanded. The first function of a list is the main one.
use Rattle.std.specs.Prelude.{
  ◌≡◌,
  ◌≤◌,
  ℕ,
  zero,
  suc,
  ◌+◌,
  Bool,
  true,
  false,
  List,
  [],
  ◌∷◌,
  ◌++◌,
  length,
  map,
  Option,
  Some,
  None,
  codes,
}
use Rattle.away_values.specs.declared.operators.ChainOp.{ChainOp}
use Rattle.away_values.specs.declared.operators.ChainOp.TheVariants as chain
use Rattle.away_values.specs.declared.operators.IsTest.TheVariants as test
use Rattle.away_values.specs.declared.types.Ty.{Ty}
use Rattle.away_values.specs.declared.types.Ty.TheVariants as ty
use Rattle.away_trees.specs.declared.queries.Expr.{Expr}
use Rattle.away_trees.specs.declared.queries.Expr.TheVariants as expr
use Rattle.away_trees.specs.declared.schemas.Schema.{Schema}
use Rattle.away_trees.specs.declared.statements.Decl.{Decl}
use Rattle.away_trees.specs.declared.statements.Function.{Function}
use Rattle.away_trees.specs.declared.statements.Raised.TheVariants as raised
use Rattle.away_trees.specs.declared.statements.Stmt.{Stmt}
use Rattle.away_trees.specs.declared.statements.Stmt.TheVariants as stmt
use Rattle.away_trees.specs.StatementAlgebra.{stmt_of}
use Rattle.away_names.specs.declared.scope.Variable.{Variable}
use Rattle.away_names.specs.Lookups.{Name}
use Rattle.call_meaning.specs.Calls.{Called, called_among, call_of}
use Rattle.moved_names.specs.Fresh.{AreFresh}
use Rattle.moved_names.specs.Renamed.{name_at, moved}
use Rattle.call_expand.specs.declared.made.Made.{Made}
use Rattle.call_expand.specs.declared.made.Back.{Back}
use Rattle.call_expand.specs.declared.made.Back.TheVariants.{Whole, Into}
use Rattle.call_expand.specs.Moving.{
  made,
  By,
  moved_expr,
  moving,
  moved_params,
  seeing_params,
}

-- ---- the functions of a program

abbrev pub no_function : Function
no_function = record {
  name = [];
  strict = false;
  params = [];
  result = ty.Bigint;
  body = stmt.Nothing;
}

abbrev pub function_at : List Function → ℕ → Function
function_at [] i = no_function
function_at (f ∷ fs) zero = f
function_at (f ∷ fs) (suc i) = function_at fs i

abbrev pub names_of : List Function → List Name
names_of fs = map (λ (f : Function). f.name) fs

-- what an expression calls, where it is as a whole a call of one of these functions
abbrev pub call_place : List Name → Expr → Option Called
call_place names e = called_among names None (call_of e)

-- a body that ends without a RETURN
abbrev pub falls_off : Stmt
falls_off = stmt.Raise (raised.State (codes "2F005"))

module _ (names : List Name) where
  abbrev pub variable : ℕ → Expr
  variable k = expr.Named (name_at names k)

  abbrev pub returned_by : Back → Expr → Stmt
  returned_by Whole e = stmt.Return e
  returned_by (Into r l) e = stmt.Block None []
      (stmt.Assign (name_at names r) None e ∷ stmt.Exit (Some (name_at names l)) None ∷ []) None

  -- ---- STRICT

  abbrev pub is_null : ℕ → Expr
  is_null k = expr.Is (variable k) test.Null false

  -- of so many variables more, from a place on
  abbrev pub further_nulls : ℕ → ℕ → List (ChainOp × Expr)
  further_nulls zero k = []
  further_nulls (suc n) k = (chain.Or, is_null k) ∷ further_nulls n (suc k)

  -- one of the variables from a place on is NULL, of which there is one more than so many
  abbrev pub null_among : ℕ → ℕ → Expr
  null_among zero k = is_null k
  null_among (suc n) k = expr.Chain (is_null k) (further_nulls (suc n) (suc k))

  -- a STRICT function with parameters ends so where one of them is NULL
  abbrev pub strict_test : Bool → ℕ → ℕ → Stmt → List Stmt
  strict_test false n k end = []
  strict_test true zero k end = []
  strict_test true (suc n) k end =
      stmt.If (record { test = null_among n k; body = end ∷ [] } ∷ []) None ∷ []

  -- ---- the block that a call becomes

  abbrev pub plain_decl : ℕ → Ty → Option Expr → Decl
  plain_decl k t default = record {
    name = name_at names k;
    ty = t;
    constant = false;
    not_null = false;
    default = default;
  }

  -- the parameters from a place on, with the arguments as defaults
  abbrev pub arguments : List Variable → ℕ → List (Name × Ty) → List Expr → List Decl
  arguments variables k [] args = []
  arguments variables k (p ∷ ps) [] = []
  arguments variables k (p ∷ ps) (a ∷ as_) =
      plain_decl k p.1 (Some (moved_expr names variables a)) ∷ arguments variables (suc k) ps as_

  -- behind the result, the label and the parameters
  abbrev pub behind_params : ℕ → Function → ℕ
  behind_params k g = suc (suc k) + length g.params

  -- the result is at the place k, the label behind it, and then the parameters
  abbrev pub call_block : Function → List Decl → ℕ → Made Stmt → Stmt → Made Stmt
  call_block g params k body tail = record {
    it = stmt.Block None (plain_decl k g.result None ∷ [])
        (stmt.Block (Some (name_at names (suc k))) params
        (strict_test g.strict (length g.params) (suc (suc k))
        (stmt.Exit (Some (name_at names (suc k))) None)
        ++ (body.it ∷ falls_off ∷ [])) None
        ∷ tail ∷ []) None;
    next = body.next;
  }

  module _ (fs : List Function) where
    -- a place by what it calls, and what goes on with its value
    abbrev pub placed : (ℕ → Back → By Stmt) → Option Called → Expr → (Expr → Stmt) → By Stmt
    placed deeper None e goes_on seen k = made (goes_on (moved_expr names seen.variables e)) k
    placed deeper (Some c) e goes_on seen k =
        let g = function_at fs c.part in
        call_block g (arguments seen.variables (suc (suc k)) g.params c.args) k
        (deeper c.part (Into k (suc k)) (seeing_params (suc (suc k)) g.params) (behind_params k g))
        (goes_on (variable k))

    abbrev pub place : (ℕ → Back → By Stmt) → Expr → (Expr → Stmt) → By Stmt
    place deeper e = placed deeper (call_place (names_of fs) e) e

    abbrev pub assigned : (ℕ → Back → By Stmt) → Name → Expr → By Stmt
    assigned deeper name e seen k =
        place deeper e (λ x. stmt.Assign (moved names seen.variables name) None x) seen k

    abbrev pub returned : (ℕ → Back → By Stmt) → Back → Expr → By Stmt
    returned deeper back e seen k = place deeper e (returned_by back) seen k

    -- the body of function i, in which calls nest less than `depth` deep
    abbrev pub expanded_body : ℕ → ℕ → Back → By Stmt
    expanded_body zero i back seen k = made stmt.Nothing k
    expanded_body (suc depth) i back seen k =
        stmt_of (moving names (assigned (expanded_body depth))
        (returned (expanded_body depth) back))
        (function_at fs i).body seen k

    -- ---- the whole

    -- None reaches itself, so that calls nest no deeper than there are functions.
    abbrev pub main_body : Made Stmt
    main_body =
        let f = function_at fs 0 in
        expanded_body (length fs) 0 Whole (seeing_params 0 f.params) (length f.params)

    abbrev pub expanded_with : Function
    expanded_with =
        let f = function_at fs 0 in
        record {
          name = f.name;
          strict = f.strict;
          params = moved_params names 0 f.params;
          result = f.result;
          body = main_body.it;
        }

-- The function with its calls expanded, whose names are the first that stand in no file.
pub record IsExpansion (s : Schema) (fs : List Function) (f : Function) : Type 0 where
  pub names : List Name
  pub fresh : AreFresh s fs names
  pub enough : (main_body names fs).next ≤ length names
  pub is : f ≡ expanded_with names fs
