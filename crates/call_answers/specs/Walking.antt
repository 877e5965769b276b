-- What the walk over two bodies stands for: where a statement stands in both, and by which rules
-- the one has become the other.
use Rattle.std.specs.Prelude.{
  ◌≡◌,
  ℕ,
  suc,
  ◌+◌,
  Bool,
  false,
  List,
  [],
  ◌∷◌,
  ◌++◌,
  length,
  map,
  Option,
  Some,
  None,
  is_some,
  if◌then◌else◌,
  bytes_eq,
}
use Rattle.away_values.specs.declared.types.Ty.{Ty}
use Rattle.away_values.specs.declared.operators.ChainOp.{ChainOp}
use Rattle.away_values.specs.declared.operators.ChainOp.TheVariants as chain
use Rattle.away_trees.specs.declared.queries.Expr.{Expr}
use Rattle.away_trees.specs.declared.queries.Expr.TheVariants as expr
use Rattle.away_trees.specs.declared.statements.Arm.{Arm}
use Rattle.away_trees.specs.declared.statements.Decl.{Decl}
use Rattle.away_trees.specs.declared.statements.Function.{Function}
use Rattle.away_trees.specs.declared.statements.LoopKind.{LoopKind}
use Rattle.away_trees.specs.declared.statements.LoopKind.TheVariants as kind
use Rattle.away_trees.specs.declared.statements.Raised.{Raised}
use Rattle.away_trees.specs.declared.statements.Stmt.{Stmt}
use Rattle.away_trees.specs.declared.statements.Stmt.TheVariants as stmt
use Rattle.away_types.specs.declared.slots.Slot.{Slot}
use Rattle.away_types.specs.TypedSlots.{typed_slots}
use Rattle.away_names.specs.Lookups.{Name}
use Rattle.call_meaning.specs.Alike.{Labels, Named, Slots, no_labels, no_slots, put_at, put_from}
use Rattle.call_meaning.specs.Becomes.{
  Place,
  Rules,
  SameNull,
  SameType,
  becomes,
  counted,
  maybe_becomes,
  slot_becomes,
}
use Rattle.call_meaning.specs.Calls.{Part, call_of, called_among, callee}
use Rattle.call_meaning.specs.Expands.{
  Back,
  expands,
  into_slot,
  null_of,
  null_test,
  rules,
  slots_from,
  whole,
}
use Rattle.call_meaning.specs.Renamed.{ExprRenamed, SelectRenamed, renaming}
use Rattle.call_meaning.specs.TypedSlots.{no_null}
use Rattle.call_meaning.specs.Untails.{
  TailBecomes,
  moves_slots,
  null_ends,
  sets_arguments,
  tail_place,
  tail_rules,
}
use Rattle.plsql_meaning.specs.Outcomes.{no_return}
use Rattle.plsql_meaning.specs.Statements.{class_of}
use Rattle.call_expand.specs.Parts.{own_name}
use Rattle.moved_slots.specs.Moved.{slots_by}
use Rattle.call_answers.specs.declared.walking.Calls.{Calls}
use Rattle.call_answers.specs.declared.walking.Calls.TheVariants as become
use Rattle.call_answers.specs.declared.walking.Expansion.{Expansion}
use Rattle.call_answers.specs.declared.walking.Found.{Found}
use Rattle.call_answers.specs.declared.walking.Found.TheVariants as found
use Rattle.call_answers.specs.declared.walking.InSight.{InSight}
use Rattle.call_answers.specs.declared.walking.Left.{Left}
use Rattle.call_answers.specs.declared.walking.Left.TheVariants as left
use Rattle.call_answers.specs.declared.walking.Spot.{Spot}
use Rattle.call_answers.specs.declared.walking.StandingPart.{StandingPart}
use Rattle.call_answers.specs.declared.walking.Walk.{Walk}

-- ---- labels, by a list of pairs of which the last counts

abbrev pub label_looked_up : List (Name × Name) → Name → Option Name → Option Name
label_looked_up [] l found = found
label_looked_up (p ∷ ps) l found = label_looked_up ps l (if bytes_eq l p.0 then Some p.1 else found)

abbrev pub labels_by : List (Name × Name) → Named
labels_by ps = λ l. label_looked_up ps l None

abbrev pub labels : InSight → Labels
labels c = record {
  exit = labels_by c.exits;
  continue = labels_by c.continues;
  looped = c.looped;
}

-- where a statement stands: its first slots in both bodies, and what it has in sight
abbrev pub place : InSight → Spot → Place
place c p = record {
  at = p.at;
  at' = p.new;
  slots = slots_by c.slots;
  labels = labels c;
}

-- ---- the function whose body is walked, and its rules

abbrev pub part : Walk → Part
part w = record {
  name = w.name.now;
  function = record w.f.now { body = w.body.now };
  slots = typed_slots w.own.now;
}

abbrev pub typed : Walk → List (Ty × Bool)
typed w = typed_slots w.slots.now

abbrev pub standing_part : StandingPart → Part
standing_part p = record {
  name = p.function.name;
  function = p.function;
  slots = typed_slots p.slots;
}

abbrev pub program : List StandingPart → List Part
program ps = map standing_part ps

abbrev pub back : Left → Back
back left.Whole = whole
back (left.Into i label) = into_slot i label.now

-- the body of a part, where calls nest less than so deep
abbrev pub expanded : List (Ty × Bool) → Expansion → ℕ → ℕ → Back → Place → Stmt → Type 0
expanded typed e depth = expands (program e.parts.now) renaming typed depth

-- where self calls are turns of the loop with a label
abbrev pub turn_rules : Walk → Name → Rules
turn_rules w label = tail_rules (part w) renaming (typed w) label

abbrev pub rules_by : Walk → Calls → Rules
rules_by w (become.Turns label) = turn_rules w label.now
rules_by w (become.Expanded e) =
    rules (program e.parts.now) renaming (typed w) (expanded (typed w) e e.depth) (part w)
    (back e.left)

-- Whatever calls have become, expressions and slots have become others by the same rules.
abbrev pub rules_with : Walk → Calls → Rules
rules_with w k = record {
  typed = typed_slots w.own.now;
  typed' = typed w;
  way = (rules_by w k).way;
  expr = ExprRenamed;
  select = SelectRenamed;
  assigned = (rules_by w k).assigned;
  returned = (rules_by w k).returned;
}

abbrev pub rules_of : Walk → Rules
rules_of w = rules_with w w.calls

-- ---- one behind the other, from the first slots of the first to those behind the last

abbrev pub Chain : {A : Type 0} → (Spot → A → A → Spot → Type 0) → Spot → List A → List A → Spot
    → Type 0
Chain R p [] [] q = p ≡ q
Chain R p [] (y ∷ ys) q = ⊥
Chain R p (x ∷ xs) [] q = ⊥
Chain R p (x ∷ xs) (y ∷ ys) q = (m : Spot) × (R p x y m × Chain R m xs ys q)

-- behind a slot more
abbrev pub next : Spot → Spot
next p = record { at = suc p.at; new = suc p.new }

-- ---- by rules, what a part has become

module _ (r : Rules) where
  -- the targets of a SELECT INTO, one by one
  pub record TargetBecomes (m : Slots) (t x : Name × Option ℕ) : Type 0 where
    pub slot : slot_becomes r m t.1 x.1
    pub type : SameType r t.1 x.1

  -- declarations from a spot on, the slots in sight behind them, and the spot there
  abbrev pub DeclsBecome : Slots → Spot → List Decl → List Decl → Slots → Spot → Type 0
  DeclsBecome m p [] [] wide q = (m ≡ wide) × (p ≡ q)
  DeclsBecome m p [] (y ∷ ys) wide q = ⊥
  DeclsBecome m p (d ∷ ds) [] wide q = ⊥
  DeclsBecome m p (d ∷ ds) (y ∷ ys) wide q = maybe_becomes r m d.default y.default
      × SameNull r p.at p.new × DeclsBecome (put_at p.at p.new m) (next p) ds ys wide q

  module _ (c : InSight) where
    -- a statement from a spot on, and the spot behind it
    pub record StmtBecomes (p : Spot) (s x : Stmt) (q : Spot) : Type 0 where
      pub it : becomes r s (place c p) x
      pub own : q.at ≡ p.at + counted s
      pub new : q.new ≡ p.new + counted x

    abbrev pub RowBecomes : Spot → List Stmt → List Stmt → Spot → Type 0
    RowBecomes = Chain StmtBecomes

    pub record ArmBecomes (p : Spot) (a x : Arm) (q : Spot) : Type 0 where
      pub test : r.expr (slots_by c.slots) a.test x.test
      pub body : RowBecomes p a.body x.body q

    abbrev pub ArmsBecome : Spot → List Arm → List Arm → Spot → Type 0
    ArmsBecome = Chain ArmBecomes

    -- what stands behind ELSE
    abbrev pub OtherBecomes : Spot → Option (List Stmt) → Option (List Stmt) → Spot → Type 0
    OtherBecomes p None None q = p ≡ q
    OtherBecomes p None (Some xs) q = ⊥
    OtherBecomes p (Some ss) None q = ⊥
    OtherBecomes p (Some ss) (Some xs) q = RowBecomes p ss xs q

    -- a statement that takes no slot has become another that takes none
    abbrev pub LeafBecomes : Stmt → Stmt → Type 0
    LeafBecomes s x = (p : Spot) → StmtBecomes p s x p

-- ---- parts of statements, by what expressions become

abbrev pub MaybeRenamed : Slots → Option Expr → Option Expr → Type 0
MaybeRenamed m None None = Unit {0}
MaybeRenamed m None (Some x) = ⊥
MaybeRenamed m (Some e) None = ⊥
MaybeRenamed m (Some e) (Some x) = ExprRenamed m e x

abbrev pub KindRenamed : Slots → LoopKind → LoopKind → Type 0
KindRenamed m kind.Plain kind.Plain = Unit {0}
KindRenamed m (kind.While e) (kind.While x) = ExprRenamed m e x
KindRenamed m (kind.Count _ reverse first last by) (kind.Count _ reverse' first' last' by') =
    (reverse ≡ reverse') × ExprRenamed m first first' × ExprRenamed m last last'
    × MaybeRenamed m by by'
KindRenamed m _ _ = ⊥

-- what is in sight behind the head of a loop
abbrev pub head_slots : LoopKind → Spot → Slots → Slots
head_slots kind.Plain p m = m
head_slots (kind.While _) p m = m
head_slots (kind.Count _ _ _ _ _) p m = put_at p.at p.new m

-- ---- what an expression calls, by the one name of a function

abbrev pub IsFound : Name → Expr → Found → Type 0
IsFound name e found.Nobody = callee (name ∷ []) e ≡ None
IsFound name e (found.Itself args) = callee (name ∷ []) e
    ≡ Some (record { conversion = None; part = 0; args = args.now })
IsFound name e found.Converted = Unit {0}

abbrev pub calls : Name → Expr → Bool
calls name e = is_some (called_among (name ∷ []) None (call_of e))

-- ---- the block of a self call

-- an assignment of an argument to a slot that may be NULL
abbrev pub SetsArgument : List (Ty × Bool) → Slots → ℕ → Expr → Stmt → Type 0
SetsArgument typed m i a x =
    ((name : List ℕ) × (a' : Expr) × ((x ≡ stmt.Assign name (Some i) a') × ExprRenamed m a a'))
    × (no_null typed i ≡ false)

-- an assignment of slot j to slot i, which may be NULL
abbrev pub MovesSlot : List (Ty × Bool) → ℕ → ℕ → Stmt → Type 0
MovesSlot typed i j x =
    ((name : List ℕ) × (x ≡ stmt.Assign name (Some i) (expr.Slot j))) × (no_null typed i ≡ false)

-- OR p IS NULL, for so many slots from one on
abbrev pub nulls_from : ℕ → ℕ → List (ChainOp × Expr)
nulls_from i n = map (λ k. (chain.Or, null_of k)) (slots_from n i)

abbrev pub null_returned : List Stmt
null_returned = stmt.Return expr.Null ∷ []

abbrev pub null_arm : ℕ → Arm
null_arm n = record { test = null_test (slots_from n 0); body = null_returned }

-- the statements of the block, with so many arguments, where the loop has a label
abbrev pub IsTurn : Walk → Name → Slots → ℕ → List Expr → List Stmt → Type 0
IsTurn w label m n args xs =
    (qs : List Stmt) × (ps : List Stmt)
    × ((xs ≡ qs ++ (ps ++ (null_ends w.f.now.strict (slots_from n 0)
    ++ (stmt.Continue (Some label) None ∷ []))))
    × sets_arguments renaming (typed w) m n args qs × moves_slots (typed w) n 0 n ps)

abbrev pub IsNextTurn : Walk → Name → Slots → List Expr → Stmt → Type 0
IsNextTurn w label m args x = (c : Place) → c.slots ≡ m
    → TailBecomes renaming (typed w) (part w).function label c args x

-- ---- the function

-- a block without a label
abbrev pub IsBlockOf : List Decl → List Stmt → Stmt → Type 0
IsBlockOf ds xs x = (closing : Option Name) × (x ≡ stmt.Block None ds xs closing)

-- a loop without a head
abbrev pub IsLoopOf : Name → List Stmt → Stmt → Type 0
IsLoopOf label xs x = (closing : Option Name) × (x ≡ stmt.Loop (Some label) kind.Plain xs closing)

abbrev pub FallsOff : Stmt → Type 0
FallsOff x = (raised : Raised) × ((x ≡ stmt.Raise raised) × (class_of raised ≡ no_return))

-- so many parameters as they are, and no label
pub record SeesParameters (n : ℕ) (c : InSight) : Type 0 where
  pub slots : slots_by c.slots ≡ put_from n 0 0 no_slots
  pub labels_are : labels c ≡ no_labels

abbrev pub OldBodyStands : Walk → Stmt → Type 0
OldBodyStands w x = becomes (rules_of w) w.body.now (tail_place (length w.f.now.params)) x

abbrev pub own_part : Function → Stmt → List Slot → Part
own_part f body own = record {
  name = own_name f;
  function = record f { body = body };
  slots = typed_slots own;
}
