-- A walk over the blocks of a label beside its branch: where it is, and what is read from there.
use Rattle.std.specs.Prelude.{
  ◌≡◌,
  ℕ,
  suc,
  ◌+◌,
  ◌-◌,
  ◌<◌,
  ◌≤◌,
  List,
  [],
  length,
  slice_get,
  get_or,
  Option,
  Some,
  None,
}
use Rattle.away_trees.specs.declared.queries.Expr.{Expr}
use Rattle.away_values.specs.declared.types.Ty.{Ty}
use Rattle.block_forms.specs.Places.{Each}
use Rattle.call_forms.specs.declared.forms.Anf.{Anf}
use Rattle.call_forms.specs.Bodies.{Body, enters, picks, calls, tree, goes, body_of}
use Rattle.call_forms.specs.declared.forms.Call.{Call}
use Rattle.block_forms.specs.declared.forms.Term.{Term}
use Rattle.call_forms.specs.Columned.{type_of_name}
use Rattle.call_forms.specs.Forms.{label_of, params_of}
use Rattle.call_forms.specs.Template.{Parts, parts, gated, outside, branch}
use Rattle.call_forms.specs.Templated.{HasTree, type_or_bigint}
use Rattle.tree_events.specs.Events.{Put}
use Rattle.cte_reads.specs.Entries.{EntriesOf}
use Rattle.cte_reads.specs.Puts.{body_put, select_put, condition}
use Rattle.cte_reads.specs.declared.parts.Gate.{Gate}
use Rattle.away_trees.specs.declared.queries.Select.{Select}
use Rattle.cte_reads.specs.Read.{ReadsWhere}
use Rattle.cte_reads.specs.References.{refs_of, names_of}
use Rattle.cte_reads.specs.declared.scope.Ref.{Ref}
use Rattle.cte_check.specs.declared.body.Given as code
use Rattle.cte_check.specs.declared.body.Walk as walk
use Rattle.cte_check.specs.declared.body.Step as walks
use Rattle.cte_check.specs.declared.body.Step.TheVariants as step

-- the normal form and the tail form, as plain lists
abbrev pub anf_of : code.Given → Anf
anf_of g = record { blocks = g.blocks.now }

-- the type of each name, bigint where it has none
abbrev pub types_in : code.Given → ℕ → Ty
types_in g n = type_or_bigint (type_of_name g.slots.now g.names.now n)

-- the label of each block
abbrev pub LabelsOf : code.Given → Type 0
LabelsOf g = (b : ℕ) (label : Option ℕ) → slice_get g.labels.now b ≡ Some label → label ≡ label_of g.tail.now b

-- what a walk reads is what the forms say
pub record GivenOf (table : List Expr) (g : code.Given) : Type 0 where
  pub entries : EntriesOf table g.entries.now
  pub labels : LabelsOf g
  pub all_blocks : length g.labels.now ≡ length g.blocks.now
  pub of_form : Each (λ b. suc b ≤ length g.blocks.now) g.tail.now.labels

-- the blocks that a walk may still enter
abbrev pub further_blocks : code.Given → walk.Walk → ℕ → Body
further_blocks g w = tree (anf_of g) g.tail.now w.fuel

-- each reference is of an item that is in sight
abbrev pub InSight : ℕ → Option (ℕ × Ref) → List Ref → Type 0
InSight depth None refs = Each (λ r. r.from ≤ suc depth) refs
InSight depth (Some s) refs = (s.1.from ≤ suc depth) × Each (λ r. r.from ≤ suc depth) refs

-- a walk has as many references as names, which are in sight, and what is counted stays below the
-- number of blocks
pub record Sound (g : code.Given) (w : walk.Walk) : Type 0 where
  pub as_many : length w.scope.refs ≡ length w.scope.names.now
  pub in_sight : InSight w.depth w.scope.set w.scope.refs
  pub few_selects : w.depth + w.fuel ≤ length g.blocks.now
  pub few_items : w.items + w.fuel ≤ suc (length g.blocks.now)

-- items and list of a body, as the template has them at the walk's place
abbrev pub parts_at : List Expr → code.Given → walk.Walk → Body → Parts
parts_at table g w x = parts table (types_in g) g.tail.now.columns g.result w.depth (refs_of w.depth w.scope) w.items x

abbrev pub parts_put : Parts → Put
parts_put p = body_put p.items p.list

-- Where the body has a tree, what is read from the walk's place on is its items and its list. Where
-- it has none, nothing is.
abbrev pub BodyRead : List Expr → code.Given → walk.Walk → Body → Option ℕ → Type 0
BodyRead table g w x to = ReadsWhere (HasTree table (names_of w.scope) x) (parts_put (parts_at table g w x)) g.events.now w.at to

-- the body from the walk's block on
abbrev pub WalkRead : List Expr → code.Given → walk.Walk → Option ℕ → Type 0
WalkRead table g w to = BodyRead table g w (further_blocks g w w.block) to

-- What a piece of a body comes to: it is over, or the walk goes on, and what is read from there on
-- ends the body.
abbrev pub StepRead : List Expr → code.Given → walk.Walk → Body → walks.Step → Type 0
StepRead table g w x (step.Ends to) = BodyRead table g w x to
StepRead table g w x (step.Goes next) = (to : Option ℕ) → WalkRead table g next to → BodyRead table g w x to

-- no name is assigned yet in the block
abbrev pub Fresh : walk.Walk → Type 0
Fresh w = w.scope.set ≡ None

-- a walk goes on with a block, and so many may follow
pub record Enters (g : code.Given) (fuel : ℕ) (w : walk.Walk) : Type 0 where
  pub sound : Sound g w
  pub fresh : Fresh w
  pub as_many : w.fuel ≡ fuel

-- if a walk goes on
abbrev pub GoesSoundly : code.Given → ℕ → walks.Step → Type 0
GoesSoundly g fuel (step.Ends to) = Unit {0}
GoesSoundly g fuel (step.Goes next) = Enters g fuel next

-- the same behind a block, which was one of those that may follow
abbrev pub GoesFurther : code.Given → ℕ → walks.Step → Type 0
GoesFurther g fuel (step.Ends to) = Unit {0}
GoesFurther g fuel (step.Goes next) = (0 < fuel) × Enters g (fuel - 1) next

-- what a call of a block that is no label has of its walk
abbrev pub entered_body : code.Given → walk.Walk → Call → Body
entered_body g w call = enters (params_of (slice_get g.blocks.now call.target)) call.args (further_blocks g w call.target)

-- the call of a label, counted from 0
abbrev pub called_body : code.Given → ℕ → Call → Body
called_body g label call = calls label (get_or g.tail.now.places label []) call.args

-- the same walk, one select further in, with no item to the left but the gate
abbrev pub inner_walk : walk.Walk → Option ℕ → walk.Walk
inner_walk w at = record w { at = at; items = 1; depth = w.depth + 1 }

-- a test and its two calls
abbrev pub pick_body : code.Given → walk.Walk → Term → Call → Call → Body
pick_body g w t first second =
    let next = goes (anf_of g) g.tail.now (further_blocks g w) in
    picks t (next first) (next second)

-- an arm of a test: the select of a call's body behind its gate, one select further in
abbrev pub arm_select : List Expr → code.Given → walk.Walk → Gate → Body → Select
arm_select table g w by x =
    gated (condition by) (parts table (types_in g) g.tail.now.columns g.result (suc w.depth) (outside (refs_of w.depth w.scope)) 1 x)

abbrev pub ArmRead : List Expr → code.Given → walk.Walk → Gate → Body → Option ℕ → Option ℕ → Type 0
ArmRead table g w by x from to = ReadsWhere (HasTree table (names_of w.scope) x) (select_put (arm_select table g w by x)) g.events.now from to

-- the branch of a label, counted from 0
abbrev pub branch_of : List Expr → code.Given → ℕ → ℕ → Select
branch_of table g label block =
    branch table (types_in g) g.tail.now.columns g.result (suc label) (params_of (slice_get g.blocks.now block)) (get_or g.tail.now.places label [])
    (body_of (anf_of g) g.tail.now block)

abbrev pub HasBranch : List Expr → code.Given → ℕ → Type 0
HasBranch table g block = HasTree table (params_of (slice_get g.blocks.now block)) (body_of (anf_of g) g.tail.now block)

abbrev pub BranchRead : List Expr → code.Given → ℕ → ℕ → Option ℕ → Option ℕ → Type 0
BranchRead table g label block from to = ReadsWhere (HasBranch table g block) (select_put (branch_of table g label block)) g.events.now from to
