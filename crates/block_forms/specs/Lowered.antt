-- The relation between a function and its goto form: each node's blocks have the node's pattern.
use Rattle.std.specs.Prelude.{
  ◌≡◌,
  ℕ,
  ◌+◌,
  ◌*◌,
  ◌<◌,
  ◌≤◌,
  Bool,
  true,
  false,
  ◌||◌,
  List,
  [],
  ◌∷◌,
  ◌++◌,
  length,
  slice_get,
  Some,
  None,
  nat_eq,
}
use Rattle.away_values.specs.declared.types.Ty.{Ty}
use Rattle.away_trees.specs.declared.statements.Function.{Function}
use Rattle.away_types.specs.declared.slots.Slot.{Slot}
use Rattle.plsql_meaning.specs.Outcomes.{no_return}
use Rattle.block_forms.specs.declared.places.Position.{Position}
use Rattle.block_forms.specs.declared.places.Numbers.{Numbers}
use Rattle.block_forms.specs.Forms.{Term, End, Jump, Branch, Return, Fail, Assignment, Block, Goto}
use Rattle.block_forms.specs.Places.{Each}
use Rattle.block_forms.specs.Patterns.{
  Part,
  own,
  shared,
  same,
  never,
  null_of,
  is_null,
  branches,
  jumps,
  returns,
  fails,
  node,
  yes_of,
}
use Rattle.block_forms.specs.Laid.{Setting, place, laid}

-- ---- parts

abbrev pub Stands : List Block → Part → Type 0
Stands blocks (own b x) = slice_get blocks b ≡ Some x
Stands blocks (shared b x) = slice_get blocks b ≡ Some x
Stands blocks (same a b) = a ≡ b
Stands blocks never = ⊥

abbrev pub AllStand : List Block → List Part → Type 0
AllStand blocks [] = Unit {0}
AllStand blocks (p ∷ ps) = Stands blocks p × AllStand blocks ps

abbrev pub one_of : Bool → ℕ
one_of true = 1
one_of false = 0

-- how many parts have the block as their own, and how many as one that they may share
abbrev pub owners : ℕ → List Part → ℕ
owners b [] = 0
owners b (own c x ∷ ps) = one_of (nat_eq c b) + owners b ps
owners b (shared c x ∷ ps) = owners b ps
owners b (same c d ∷ ps) = owners b ps
owners b (never ∷ ps) = owners b ps

abbrev pub sharers : ℕ → List Part → ℕ
sharers b [] = 0
sharers b (own c x ∷ ps) = sharers b ps
sharers b (shared c x ∷ ps) = one_of (nat_eq c b) + sharers b ps
sharers b (same c d ∷ ps) = sharers b ps
sharers b (never ∷ ps) = sharers b ps

-- ---- the whole

-- behind the slots of the text come those of FORs, and behind these those of targets
abbrev pub numbers_of : Function → Numbers
numbers_of f = record {
  fixed = (laid f.body).size.expr;
  counters = length f.params + (laid f.body).size.slot;
  targets = length f.params + (laid f.body).size.slot + 3 * (laid f.body).size.fors;
}

abbrev pub setting : Function → List Slot → Goto → Setting
setting f slots g = record { goto = g; slots = slots; numbers = numbers_of f }

-- a parameter, by its place and type; STRICT tests it
abbrev pub param_parts : Setting → Bool → Ty → ℕ → Ty → List Part
param_parts s false result k t = same (node s.goto k) (node s.goto (k + 1)) ∷ []
param_parts s true result k t =
    own (node s.goto k) (branches false (is_null s.numbers.fixed t k) (yes_of s.goto (node s.goto k)) (node s.goto (k + 1)))
    ∷ shared (yes_of s.goto (node s.goto k)) (returns (null_of s.numbers.fixed result))
    ∷ []

abbrev pub params_parts : Setting → Bool → Ty → ℕ → List (List ℕ × Ty) → List Part
params_parts s strict result k [] = []
params_parts s strict result k (p ∷ ps) = param_parts s strict result k p.1 ++ params_parts s strict result (k + 1) ps

-- where the body begins
abbrev pub body_place : Function → Position
body_place f = place (length f.params) 0 (length f.params) 0 0

abbrev pub parts_in : Setting → Function → List Part
parts_in s f =
    shared s.goto.entry (jumps false (node s.goto 0))
    ∷ shared s.goto.finish (fails no_return)
    ∷ (params_parts s f.strict f.result 0 f.params ++ (laid f.body).parts s (body_place f) [] s.goto.finish)

abbrev pub all_parts : Function → List Slot → Goto → List Part
all_parts f slots g = parts_in (setting f slots g) f

abbrev pub end_leads : End → ℕ → Bool
end_leads (Jump c) d = nat_eq c d
end_leads (Branch t y n) d = nat_eq y d || nat_eq n d
end_leads (Return t) d = false
end_leads (Fail c) d = false

-- no block leads to the entry
pub record NoWayTo (entry : ℕ) (x : Block) : Type 0 where
  pub elsewhere : end_leads x.end entry ≡ false

-- each block has one pattern, or is one that patterns may share
pub record EachOnce (ps : List Part) (blocks : List Block) : Type 0 where
  pub once : (b : ℕ) → b < length blocks → owners b ps ≤ 1
  pub covered : (b : ℕ) → b < length blocks → 1 ≤ owners b ps + sharers b ps

-- ---- slots are below their number

pub record TermBelow (slots : ℕ) (t : Term) : Type 0 where
  pub names : Each (λ s. s < slots) t.names

abbrev pub SetBelow : ℕ → Assignment → Type 0
SetBelow slots None = Unit {0}
SetBelow slots (Some a) = (a.0 < slots) × TermBelow slots a.1

abbrev pub EndBelow : ℕ → End → Type 0
EndBelow slots (Jump c) = Unit {0}
EndBelow slots (Branch t y n) = TermBelow slots t
EndBelow slots (Return t) = TermBelow slots t
EndBelow slots (Fail c) = Unit {0}

pub record BlockBelow (slots : ℕ) (x : Block) : Type 0 where
  pub set : SetBelow slots x.set
  pub end : EndBelow slots x.end

-- Each node's blocks have the node's pattern, each block belongs to one, no block leads to the
-- entry, and every slot that is read or set is one of the function's.
pub record Lowered (f : Function) (slots : List Slot) (g : Goto) : Type 0 where
  pub as_many : length g.nodes ≡ length f.params + (laid f.body).size.node
  pub stand : AllStand g.blocks (all_parts f slots g)
  pub each_once : EachOnce (all_parts f slots g) g.blocks
  pub no_way_in : Each (NoWayTo g.entry) g.blocks
  pub slots_below : Each (BlockBelow (length slots)) g.blocks
