-- The relation between a function that calls itself at its ends and the one in which such a call is
-- the next turn of a loop.
use Rattle.std.specs.Prelude.{
  ◌≡◌,
  ℕ,
  zero,
  suc,
  ◌+◌,
  Bool,
  true,
  false,
  List,
  [],
  ◌∷◌,
  ◌++◌,
  length,
  Option,
  Some,
  None,
}
use Rattle.away_values.specs.declared.types.Ty.{Ty}
use Rattle.away_trees.specs.declared.queries.Expr.{Expr}
use Rattle.away_trees.specs.declared.queries.Expr.TheVariants as expr
use Rattle.away_trees.specs.declared.statements.Decl.{Decl}
use Rattle.away_trees.specs.declared.statements.Function.{Function}
use Rattle.away_trees.specs.declared.statements.LoopKind.TheVariants as kind
use Rattle.away_trees.specs.declared.statements.Raised.{Raised}
use Rattle.away_trees.specs.declared.statements.Stmt.{Stmt}
use Rattle.away_trees.specs.declared.statements.Stmt.TheVariants as stmt
use Rattle.plsql_meaning.specs.Outcomes.{Label, no_return}
use Rattle.plsql_meaning.specs.Statements.{class_of}
use Rattle.call_meaning.specs.TypedSlots.{no_null}
use Rattle.call_meaning.specs.Alike.{Slots, no_slots, put_from, no_labels}
use Rattle.call_meaning.specs.Becomes.{Place, Rules, becomes}
use Rattle.call_meaning.specs.Calls.{Part, names_of, callee}
use Rattle.call_meaning.specs.Expands.{Renaming, Assigns, null_test, slots_from}

-- assignments of the arguments to the slots from i on
abbrev pub sets_arguments : Renaming → List (Ty × Bool) → Slots → ℕ → List Expr → List Stmt → Type 0
sets_arguments n typed m i [] [] = Unit {0}
sets_arguments n typed m i [] (x ∷ xs) = ⊥
sets_arguments n typed m i (a ∷ as_) [] = ⊥
sets_arguments n typed m i (a ∷ as_) (x ∷ xs) =
    ((name : List ℕ) × (a' : Expr) × ((x ≡ stmt.Assign name (Some i) a') × n.expr m a a'))
    × (no_null typed i ≡ false) × sets_arguments n typed m (suc i) as_ xs

-- assignments of as many slots from j on to those from i on
abbrev pub moves_slots : List (Ty × Bool) → ℕ → ℕ → ℕ → List Stmt → Type 0
moves_slots typed zero i j [] = Unit {0}
moves_slots typed zero i j (x ∷ xs) = ⊥
moves_slots typed (suc k) i j [] = ⊥
moves_slots typed (suc k) i j (x ∷ xs) =
    ((name : List ℕ) × (x ≡ stmt.Assign name (Some i) (expr.Slot j))) × (no_null typed i ≡ false)
    × moves_slots typed k (suc i) (suc j) xs

-- STRICT ends with NULL where a parameter is NULL
abbrev pub null_ends : Bool → List ℕ → List Stmt
null_ends false slots = []
null_ends true [] = []
null_ends true (i ∷ is) = stmt.If
    (record { test = null_test (i ∷ is); body = stmt.Return expr.Null ∷ [] } ∷ []) None ∷ []

-- The block that a self tail call becomes, in a function with so many parameters: each q is set to
-- its argument, each parameter to its q, the test of STRICT, and the next turn.
pub record TailBecomes (n : Renaming) (typed : List (Ty × Bool)) (f : Function) (label : List ℕ)
    (c : Place) (args : List Expr) (x : Stmt) : Type 0 where
  pub qs : List Stmt
  pub ps : List Stmt
  pub closing : Label
  pub is : x ≡ stmt.Block None []
      (qs ++ (ps ++ (null_ends f.strict (slots_from (length f.params) 0)
      ++ (stmt.Continue (Some label) None ∷ [])))) closing
  pub as_many : length args ≡ length f.params
  pub sets : sets_arguments n typed c.slots (length f.params) args qs
  pub moves : moves_slots typed (length f.params) 0 (length f.params) ps

pub data AtReturn (names : List (List ℕ)) (n : Renaming) (typed : List (Ty × Bool)) (f : Function)
    (label : List ℕ) (c : Place) (e : Expr) (x : Stmt) : Type 0 where
  returns_value : callee names e ≡ None → (e' : Expr) → n.expr c.slots e e' → x ≡ stmt.Return e'
      → AtReturn names n typed f label c e x
  calls_itself : (args : List Expr) → callee names e
      ≡ Some (record { conversion = None; part = 0; args = args })
      → TailBecomes n typed f label c args x → AtReturn names n typed f label c e x

-- an assignment calls nobody
pub record AtAssignment (names : List (List ℕ)) (n : Renaming) (typed0 typed : List (Ty × Bool))
    (c : Place) (slot : Option ℕ) (e : Expr) (x : Stmt) : Type 0 where
  pub nobody : callee names e ≡ None
  pub value : Expr
  pub same : n.expr c.slots e value
  pub assigns : Assigns c.slots typed0 typed slot value x

abbrev pub tail_rules : Part → Renaming → List (Ty × Bool) → List ℕ → Rules
tail_rules p n typed label = record {
  typed = p.slots;
  typed' = typed;
  way = Some label;
  expr = n.expr;
  select = n.select;
  assigned = λ c slot e x. AtAssignment (names_of (p ∷ [])) n p.slots typed c slot e x;
  returned = λ c e x. AtReturn (names_of (p ∷ [])) n typed p.function label c e x;
}

-- the body stands behind the parameters and as many slots more
abbrev pub tail_place : ℕ → Place
tail_place params = record {
  at = params;
  at' = params
      + params;
  slots = put_from params 0 0 no_slots;
  labels = no_labels;
}

-- declarations without a default, of slots that may be NULL
abbrev pub plain_decls : List (Ty × Bool) → ℕ → List Decl → Type 0
plain_decls typed i [] = Unit {0}
plain_decls typed i (d ∷ ds) = (d.default ≡ None) × (no_null typed i ≡ false)
    × plain_decls typed (suc i) ds

-- the function in which self tail calls are turns of a loop
pub record IsUntailed (p : Part) (n : Renaming) (f : Function) (typed : List (Ty × Bool))
    : Type 0 where
  pub qs : List Decl
  pub label : List ℕ
  pub body : Stmt
  pub raised : Raised
  pub closing : Label
  pub end : Label
  pub strict : f.strict ≡ p.function.strict
  -- their names may differ
  pub params : length f.params ≡ length p.function.params
  pub is : f.body ≡ stmt.Block None qs
      (stmt.Loop (Some label) kind.Plain (body ∷ stmt.Raise raised ∷ []) closing ∷ []) end
  pub as_many : length qs ≡ length f.params
  pub plain : plain_decls typed (length f.params) qs
  pub raises : class_of raised ≡ no_return
  pub becomes : becomes (tail_rules p n typed label) p.function.body
      (tail_place (length p.function.params)) body
