-- The relation between a function that calls others and the one in which its calls are expanded.
use Rattle.std.specs.Prelude.{
  ◌≡◌,
  ℕ,
  zero,
  suc,
  ◌+◌,
  Bool,
  true,
  false,
  List,
  [],
  ◌∷◌,
  ◌++◌,
  length,
  map,
  Option,
  Some,
  None,
}
use Rattle.away_values.specs.declared.operators.ChainOp.TheVariants as chain
use Rattle.away_values.specs.declared.operators.IsTest.TheVariants as test
use Rattle.away_values.specs.declared.types.Ty.{Ty}
use Rattle.away_trees.specs.declared.queries.Expr.{Expr}
use Rattle.away_trees.specs.declared.queries.Expr.TheVariants as expr
use Rattle.away_trees.specs.declared.queries.Select.{Select}
use Rattle.away_trees.specs.declared.statements.Decl.{Decl}
use Rattle.away_trees.specs.declared.statements.Function.{Function}
use Rattle.away_trees.specs.declared.statements.Raised.{Raised}
use Rattle.away_trees.specs.declared.statements.Stmt.{Stmt}
use Rattle.away_trees.specs.declared.statements.Stmt.TheVariants as stmt
use Rattle.sql_meaning.specs.Context.{Rows, at}
use Rattle.plsql_meaning.specs.Functions.{over}
use Rattle.plsql_meaning.specs.Outcomes.{Env, Label, no_return}
use Rattle.plsql_meaning.specs.Statements.{class_of}
use Rattle.call_meaning.specs.TypedSlots.{no_null}
use Rattle.call_meaning.specs.Marks.{marks_of}
use Rattle.call_meaning.specs.Alike.{Slots, no_slots, put_from, no_labels}
use Rattle.call_meaning.specs.Becomes.{Place, Rules, becomes}
use Rattle.call_meaning.specs.Calls.{Part, part_at, names_of, Called, callee}

-- what expressions and selects become where their slots stand elsewhere
pub record Renaming : Type 1 where
  pub expr : Slots → Expr → Expr → Type 0
  pub select : Slots → Select → Select → Type 0

-- the same values in the slots in sight
abbrev pub Matches : Slots → Env → Env → Type 0
Matches m env env' = (i j : ℕ) → m i ≡ Some j → at env i ≡ at env' j

-- they mean the same, and the items of a select are marked alike
pub record Renames (T : List Rows) (n : Renaming) : Type 0 where
  pub value : (m : Slots) (e e' : Expr) → n.expr m e e' → (env env' : Env) → Matches m env env'
      → (over T []).value e env ≡ (over T []).value e' env'
  pub marks : (m : Slots) (s s' : Select) → n.select m s s' → marks_of s ≡ marks_of s'
  pub rows : (m : Slots) (s s' : Select) → n.select m s s' → (env env' : Env) → Matches m env env'
      → (over T []).rows s env ≡ (over T []).rows s' env'

-- how a body is left: by RETURN, or by an EXIT of a label with the result in a slot
pub data Back : Type 0 where
  whole : Back
  into_slot : ℕ → List ℕ → Back

abbrev pub way_of : Back → Label
way_of whole = None
way_of (into_slot i l) = Some l

-- what RETURN of an expression becomes
pub record ReturnsBy (i : ℕ) (l : List ℕ) (e : Expr) (x : Stmt) : Type 0 where
  pub name : List ℕ
  pub closing : Label
  pub is : x ≡ stmt.Block None []
      (stmt.Assign name (Some i) e ∷ stmt.Exit (Some l) None ∷ []) closing

abbrev pub returns_by : Back → Expr → Stmt → Type 0
returns_by whole e x = x ≡ stmt.Return e
returns_by (into_slot i l) e x = ReturnsBy i l e x

-- ---- the block that a call becomes

abbrev pub null_of : ℕ → Expr
null_of i = expr.Is (expr.Slot i) test.Null false

-- p1 IS NULL OR p2 IS NULL, over so many slots from one on; of no slot it is false
abbrev pub slots_from : ℕ → ℕ → List ℕ
slots_from zero i = []
slots_from (suc n) i = i ∷ slots_from n (suc i)

abbrev pub null_test : List ℕ → Expr
null_test [] = expr.Bool false
null_test (i ∷ []) = null_of i
null_test (i ∷ j ∷ js) = expr.Chain (null_of i) (map (λ x. (chain.Or, null_of x)) (j ∷ js))

-- STRICT leaves where a parameter is NULL
abbrev pub strict_tests : Bool → List ℕ → List ℕ → List Stmt
strict_tests false l slots = []
strict_tests true l [] = []
strict_tests true l (i ∷ is) = stmt.If
    (record { test = null_test (i ∷ is); body = stmt.Exit (Some l) None ∷ [] } ∷ []) None ∷ []

-- each parameter is declared with its argument as default, and may be NULL
abbrev pub arguments_become : Renaming → List (Ty × Bool) → Slots → ℕ → List Expr → List Decl
    → Type 0
arguments_become n typed m i [] [] = Unit {0}
arguments_become n typed m i [] (d ∷ ds) = ⊥
arguments_become n typed m i (a ∷ as_) [] = ⊥
arguments_become n typed m i (a ∷ as_) (d ∷ ds) =
    ((a' : Expr) × ((d.default ≡ Some a') × n.expr m a a')) × (no_null typed i ≡ false)
    × arguments_become n typed m (suc i) as_ ds

-- where a callee's body stands: behind its parameters
abbrev pub callee_place : ℕ → ℕ → Place
callee_place params i = record {
  at = params;
  at' = i
      + params;
  slots = put_from params 0 i no_slots;
  labels = no_labels;
}

-- A call of g with arguments at a place, and what goes on by its result: r; label L; parameters
-- with defaults; STRICT's test; the body; RAISE.
pub record CallBecomes (n : Renaming) (typed : List (Ty × Bool)) (g : Part)
    (deeper : Back → Place → Stmt → Type 0) (c : Place) (args : List Expr)
    (goes_on : Expr → Stmt → Type 0) (x : Stmt) : Type 0 where
  pub result : Decl
  pub label : List ℕ
  pub params : List Decl
  pub body : Stmt
  pub raised : Raised
  pub tail : Stmt
  pub is : x ≡ stmt.Block None (result ∷ [])
      (stmt.Block (Some label) params
      (strict_tests g.function.strict label (slots_from (length g.function.params) (suc c.at'))
      ++ (body ∷ stmt.Raise raised ∷ [])) None ∷ tail ∷ []) None
  pub no_default : result.default ≡ None
  pub nullable : no_null typed c.at' ≡ false
  pub as_many : length args ≡ length g.function.params
  pub arguments : arguments_become n typed c.slots (suc c.at') args params
  pub inner : deeper (into_slot c.at' label)
      (callee_place (length g.function.params) (suc c.at')) body
  pub raises : class_of raised ≡ no_return
  pub goes : goes_on (expr.Slot c.at') tail

-- ---- places

-- where names are resolved each assignment has a slot
abbrev pub same_slot : Slots → List (Ty × Bool) → List (Ty × Bool) → Option ℕ → Option ℕ → Type 0
same_slot m typed typed' None None = ⊥
same_slot m typed typed' None (Some j) = ⊥
same_slot m typed typed' (Some i) None = ⊥
same_slot m typed typed' (Some i) (Some j) = (m i ≡ Some j) × (no_null typed i ≡ no_null typed' j)

-- an assignment from an expression to a slot
pub record Assigns (r : Slots) (typed typed' : List (Ty × Bool)) (slot : Option ℕ) (e : Expr)
    (x : Stmt) : Type 0 where
  pub name : List ℕ
  pub slot' : Option ℕ
  pub is : x ≡ stmt.Assign name slot' e
  pub slots : same_slot r typed typed' slot slot'

-- the conversion of a place stands round the slot of its call's result
abbrev pub kept : Option Ty → Expr → Expr
kept None e = e
kept (Some t) e = expr.Cast e t

-- a place that calls nobody, and one that calls part g
pub data AtPlace (names : List (List ℕ)) (n : Renaming) (typed : List (Ty × Bool)) (P : List Part)
    (deeper : ℕ → Back → Place → Stmt → Type 0) (c : Place) (e : Expr)
    (goes_on : Expr → Stmt → Type 0) (x : Stmt) : Type 0 where
  calls_nobody : callee names e ≡ None → (e' : Expr) → n.expr c.slots e e' → goes_on e' x
      → AtPlace names n typed P deeper c e goes_on x
  calls_part : (g : Called) → callee names e ≡ Some g → CallBecomes n typed (part_at P g.part)
      (deeper g.part) c g.args (λ e' x. goes_on (kept g.conversion e') x) x
      → AtPlace names n typed P deeper c e goes_on x

module _ (P : List Part) (n : Renaming) (typed : List (Ty × Bool)) where
  abbrev pub rules : (ℕ → Back → Place → Stmt → Type 0) → Part → Back → Rules
  rules deeper p back = record {
    typed = p.slots;
    typed' = typed;
    way = way_of back;
    expr = n.expr;
    select = n.select;
    assigned = λ c slot e x. AtPlace (names_of P) n typed P deeper c e
        (λ e' x. Assigns c.slots p.slots typed slot e' x) x;
    returned = λ c e x. AtPlace (names_of P) n typed P deeper c e (returns_by back) x;
  }

  -- the body of part i, where calls nest less than k deep
  abbrev pub expands : ℕ → ℕ → Back → Place → Stmt → Type 0
  expands zero i back c x = ⊥
  expands (suc k) i back c x = becomes (rules (expands k) (part_at P i) back)
      (part_at P i).function.body c x

-- ---- the whole

-- where the main body stands: its parameters stand as they are
abbrev pub main_place : ℕ → Place
main_place params = record {
  at = params;
  at' = params;
  slots = put_from params 0 0 no_slots;
  labels = no_labels;
}

-- the function in which the calls of the first part are expanded
pub record IsExpanded (P : List Part) (n : Renaming) (f : Function) (typed : List (Ty × Bool))
    : Type 0 where
  pub strict : f.strict ≡ (part_at P 0).function.strict
  -- their names may differ
  pub params : length f.params ≡ length (part_at P 0).function.params
  pub body : expands P n typed (length P) 0 whole (main_place (length f.params)) f.body
