-- The block that a call has become, part by part.
use Rattle.std.specs.Prelude.{
  ◌≡◌,
  ℕ,
  suc,
  ◌+◌,
  Bool,
  false,
  List,
  [],
  ◌∷◌,
  ◌++◌,
  length,
  slice_get,
  Option,
  Some,
  None,
}
use Rattle.away_values.specs.declared.types.Ty.{Ty}
use Rattle.away_names.specs.Lookups.{Name}
use Rattle.away_trees.specs.declared.queries.Expr.{Expr}
use Rattle.away_trees.specs.declared.queries.Expr.TheVariants as expr
use Rattle.away_trees.specs.declared.schemas.Schema.{Schema}
use Rattle.away_trees.specs.declared.statements.Arm.{Arm}
use Rattle.away_trees.specs.declared.statements.Decl.{Decl}
use Rattle.away_trees.specs.declared.statements.Function.{Function}
use Rattle.away_trees.specs.declared.statements.Raised.{Raised}
use Rattle.away_trees.specs.declared.statements.Stmt.{Stmt}
use Rattle.away_trees.specs.declared.statements.Stmt.TheVariants as stmt
use Rattle.away_types.specs.FunctionChecks.{slots_of}
use Rattle.away_types.specs.TypedSlots.{typed_slots}
use Rattle.call_meaning.specs.Alike.{Slots, no_labels, no_slots, put_from}
use Rattle.call_meaning.specs.Becomes.{Place, becomes, counted}
use Rattle.call_meaning.specs.Calls.{Called, Part, callee, names_of, part_at}
use Rattle.call_meaning.specs.Expands.{
  Assigns,
  arguments_become,
  callee_place,
  into_slot,
  kept,
  main_place,
  null_test,
  returns_by,
  slots_from,
  strict_tests,
}
use Rattle.call_meaning.specs.Renamed.{ExprRenamed, renaming}
use Rattle.call_meaning.specs.TypedSlots.{no_null}
use Rattle.plsql_meaning.specs.Outcomes.{no_return}
use Rattle.plsql_meaning.specs.Statements.{class_of}
use Rattle.call_expand.specs.Expanding.{names_of as names_of_functions}
use Rattle.call_expand.specs.Parts.{function_with_calls}
use Rattle.call_answers.specs.declared.walking.Callee.{Callee}
use Rattle.call_answers.specs.declared.walking.CalledPart.{CalledPart}
use Rattle.call_answers.specs.declared.walking.Calls.TheVariants as become
use Rattle.call_answers.specs.declared.walking.Expansion.{Expansion}
use Rattle.call_answers.specs.declared.walking.InSight.{InSight}
use Rattle.call_answers.specs.declared.walking.Left.{Left}
use Rattle.call_answers.specs.declared.walking.Placed.{Placed}
use Rattle.call_answers.specs.declared.walking.Spot.{Spot}
use Rattle.call_answers.specs.declared.walking.StandingPart.{StandingPart}
use Rattle.call_answers.specs.declared.walking.To.{To}
use Rattle.call_answers.specs.declared.walking.To.TheVariants as to
use Rattle.call_answers.specs.declared.walking.Walk.{Walk}
use Rattle.call_answers.specs.Walking.{
  StmtBecomes,
  back,
  expanded,
  labels,
  program,
  rules_of,
  typed,
}
use Rattle.moved_slots.specs.Moved.{slots_by}

-- ---- the part that is called

abbrev pub called : CalledPart → Called
called p = record { conversion = p.conversion; part = p.part; args = p.args.now }

abbrev pub maybe_called : Option CalledPart → Option Called
maybe_called None = None
maybe_called (Some p) = Some (called p)

abbrev pub names : List StandingPart → List Name
names ps = names_of (program ps)

-- an assignment to a slot of an expression, or its RETURN
abbrev pub IsAt : To → Expr → Stmt → Type 0
IsAt (to.Slot i) e s = (name : Name) × (s ≡ stmt.Assign name (Some i) e)
IsAt to.Result e s = s ≡ stmt.Return e

-- An expression calls a part of some.
pub record Places (by : Expansion) (t : To) (e : Expr) (g : Placed) : Type 0 where
  pub expansion : g.expansion ≡ by
  pub to : g.to ≡ t
  pub calls_part : callee (names by.parts.now) e ≡ Some (called g.called)

-- A statement calls a part.
pub record IsPlaced (w : Walk) (s : Stmt) (g : Placed) : Type 0 where
  pub expands : w.calls ≡ become.Expanded g.expansion
  pub value : Expr
  pub stands : IsAt g.to value s
  pub calls_part : callee (names g.expansion.parts.now) value ≡ Some (called g.called)

abbrev pub AssignsTo : Walk → Slots → ℕ → Expr → Stmt → Type 0
AssignsTo w m i v x = Assigns m (typed_slots w.own.now) (typed w) (Some i) v x

-- What goes on by a value: its assignment, or what RETURN has become.
abbrev pub GoesOn : Walk → Left → Slots → To → Expr → Stmt → Type 0
GoesOn w left m (to.Slot i) v x = AssignsTo w m i v x
GoesOn w left m to.Result v x = returns_by (back left) v x

-- a value that calls nobody, and what goes on by it
pub record ValueStands (w : Walk) (by : Expansion) (m : Slots) (to : To) (e : Expr) (x : Stmt)
    : Type 0 where
  pub nobody : callee (names by.parts.now) e ≡ None
  pub value : Expr
  pub same : ExprRenamed m e value
  pub goes : GoesOn w by.left m to value x

abbrev pub IsSet : ℕ → Expr → Stmt → Type 0
IsSet i v x = (name : Name) × (x ≡ stmt.Assign name (Some i) v)

abbrev pub SetsAndLeaves : ℕ → Name → Expr → List Stmt → Type 0
SetsAndLeaves i label v xs =
    (name : Name) × (xs ≡ stmt.Assign name (Some i) v ∷ stmt.Exit (Some label) None ∷ [])

-- ---- the slot of the result, and the parameters

abbrev pub IsResult : List (Ty × Bool) → ℕ → List Decl → Type 0
IsResult typed i ds =
    ((d : Decl) × ((ds ≡ d ∷ []) × (d.default ≡ None))) × (no_null typed i ≡ false)

abbrev pub ArgumentStands : List (Ty × Bool) → Slots → ℕ → Expr → Decl → Type 0
ArgumentStands typed m i a d =
    ((a' : Expr) × ((d.default ≡ Some a') × ExprRenamed m a a')) × (no_null typed i ≡ false)

-- ---- the callee's body

abbrev pub null_exit_arm : ℕ → ℕ → Name → Arm
null_exit_arm n i label = record {
  test = null_test (slots_from n i);
  body = stmt.Exit (Some label) None ∷ [];
}

-- STRICT leaves where one of so many slots from one on is NULL
abbrev pub null_exit : ℕ → ℕ → Name → Stmt
null_exit n i label = stmt.If (null_exit_arm n i label ∷ []) None

-- A body and the fault of one without a RETURN stand behind some statements; and the body's place.
pub record EndsWith (front xs : List Stmt) (k : ℕ) : Type 0 where
  pub body : Stmt
  pub raised : Raised
  pub is : xs ≡ front ++ (body ∷ stmt.Raise raised ∷ [])
  pub raises : class_of raised ≡ no_return
  pub there : slice_get xs k ≡ Some body

abbrev pub BodyStands : Bool → ℕ → ℕ → Name → List Stmt → ℕ → Type 0
BodyStands strict n i label xs k = EndsWith (strict_tests strict label (slots_from n i)) xs k

-- so many parameters from a slot on, and no label
pub record SeesFrom (n i : ℕ) (c : InSight) : Type 0 where
  pub slots : slots_by c.slots ≡ put_from n 0 i no_slots
  pub labels_are : labels c ≡ no_labels

-- a walk along the body of a called part, less deep by one, which is left with the result in a slot
abbrev pub part_called : Placed → Part
part_called g = part_at (program g.expansion.parts.now) g.called.part

abbrev pub WalksCallee : Walk → Placed → ℕ → Name → Walk → Type 0
WalksCallee w g i label v = (c : Place) (x : Stmt) → becomes (rules_of v) v.body.now c x
    → expanded (typed w) g.expansion g.expansion.depth g.called.part (into_slot i label) c x

pub record IsDeeper (w : Walk) (g : Placed) (i : ℕ) (label : Name) (v : Walk) : Type 0 where
  pub function : v.f.now ≡ (part_called g).function
  pub walks : WalksCallee w g i label v

-- all but the body, which stands at a place of the list
pub record IsEntered (w : Walk) (m : Slots) (i : ℕ) (g : Placed) (label : Name)
    (params : List Decl) (xs : List Stmt) (d : Callee) : Type 0 where
  pub from : d.from ≡ suc i
  pub many : d.params ≡ length (part_called g).function.params
  pub as_many : length g.called.args.now ≡ length (part_called g).function.params
  pub arguments : arguments_become renaming (typed w) m (suc i) g.called.args.now params
  pub stands : BodyStands (part_called g).function.strict
      (length (part_called g).function.params) (suc i) label xs d.place
  pub at : d.spot.at ≡ d.params
  pub new : d.spot.new ≡ suc i + d.params
  pub walks : WalksCallee w g i label d.walk

-- The statements of the block with the parameters, from a spot on at which the result has a slot.
pub record CalleeStands (w : Walk) (m : Slots) (p : Spot) (g : Placed) (label : Name)
    (params : List Decl) (xs : List Stmt) (q : Spot) : Type 0 where
  pub as_many : length g.called.args.now ≡ length (part_called g).function.params
  pub arguments : arguments_become renaming (typed w) m (suc p.new) g.called.args.now params
  pub body : Stmt
  pub raised : Raised
  pub is : xs ≡ strict_tests (part_called g).function.strict label
      (slots_from (length (part_called g).function.params) (suc p.new))
      ++ (body ∷ stmt.Raise raised ∷ [])
  pub raises : class_of raised ≡ no_return
  pub becomes : expanded (typed w) g.expansion g.expansion.depth g.called.part
      (into_slot p.new label)
      (callee_place (length (part_called g).function.params) (suc p.new)) body
  pub own : q.at ≡ p.at
  pub new : q.new ≡ suc p.new + length (part_called g).function.params + counted body

-- ---- the whole block

-- the slot of the result, and what goes on by it
pub record EndsCall (w : Walk) (m : Slots) (i : ℕ) (g : Placed) (decls : List Decl) (tail : Stmt)
    : Type 0 where
  pub result : IsResult (typed w) i decls
  pub goes : GoesOn w g.expansion.left m g.to (kept g.called.conversion (expr.Slot i)) tail

-- a statement that calls a part has become the block of these declarations and statements
abbrev pub CallStands : Walk → InSight → Spot → Placed → List Decl → List Stmt → Spot → Type 0
CallStands w c p g decls xs q = (s : Stmt) → IsPlaced w s g
    → StmtBecomes (rules_of w) c p s (stmt.Block None decls xs None) q

-- ---- the function

-- the main body, whose parameters stand as they are
pub record MainBodyStands (w : Walk) (x : Stmt) : Type 0 where
  pub stands : becomes (rules_of w) w.body.now (main_place (length w.f.now.params)) x

-- the first of the parts
abbrev pub FirstIs : StandingPart → List StandingPart → Type 0
FirstIs p ps = slice_get ps 0 ≡ Some p

-- a function of a program as its part stands
pub record IsStanding (s : Schema) (fs : List Function) (f : Function) (p : StandingPart)
    : Type 0 where
  pub function : p.function ≡ function_with_calls (names_of_functions fs) fs s f
  pub slots : p.slots ≡ slots_of s f
