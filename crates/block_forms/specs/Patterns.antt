-- What the patterns of statements ask of the blocks of a goto form. Numbers that `nodes` does not
-- tell are read from the form.
use Rattle.std.specs.Prelude.{
  ℕ,
  ◌+◌,
  ◌*◌,
  Bool,
  true,
  false,
  ◌&&◌,
  if◌then◌else◌,
  List,
  [],
  ◌∷◌,
  ◌++◌,
  length,
  slice_get,
  Option,
  Some,
  None,
  nat_eq,
}
use Rattle.away_values.specs.declared.types.Ty.{Ty}
use Rattle.away_values.specs.declared.types.Ty.TheVariants as ty
use Rattle.away_trees.specs.declared.queries.Expr.{Expr}
use Rattle.away_trees.specs.declared.queries.Select.{Select}
use Rattle.away_types.specs.declared.slots.Slot.{Slot}
use Rattle.sql_meaning.specs.Reads.{slots_of}
use Rattle.plsql_meaning.specs.Outcomes.{
  null_not_allowed,
  invalid_parameter,
  no_data_found,
  too_many_rows,
}
use Rattle.select_into.specs.Entries.{Target, checks}
use Rattle.select_into.specs.Wrapped.{select_slots}
use Rattle.block_forms.specs.declared.places.Position.{Position}
use Rattle.block_forms.specs.declared.places.Numbers.{Numbers}
use Rattle.block_forms.specs.declared.fixed_list.Fixed.{Fixed}
use Rattle.block_forms.specs.declared.fixed_list.Fixed.TheVariants as fix
use Rattle.block_forms.specs.FixedList.{position, in_range_entry, past_end_entry, next_entry}
use Rattle.block_forms.specs.Forms.{
  Class,
  Term,
  End,
  Jump,
  Branch,
  Return,
  Fail,
  Assignment,
  Block,
  Goto,
}

-- ---- terms: a source expression by its number, and the entries of the fixed list, which begins at
-- S

abbrev pub term : ℕ → List ℕ → Term
term k names = record { expr = k; names = names }

abbrev pub source_term : ℕ → Expr → Term
source_term k e = term k (slots_of e)

-- an entry of a SELECT INTO, which reads what its select reads
abbrev pub select_term : ℕ → Select → Term
select_term k q = term k (select_slots q)

abbrev pub entry_term : ℕ → Fixed → List ℕ → Term
entry_term S e names = term (S + position e) names

-- NULL of a type
abbrev pub null_of : ℕ → Ty → Term
null_of S t = entry_term S (fix.Null t) []

-- whether a slot of a type is NULL
abbrev pub is_null : ℕ → Ty → ℕ → Term
is_null S t slot = entry_term S (fix.IsNull t) (slot ∷ [])

abbrev pub not_positive : ℕ → ℕ → Term
not_positive S a = entry_term S fix.NotPositive (a ∷ [])

abbrev pub one : ℕ → Term
one S = entry_term S fix.One []

abbrev pub copy : ℕ → ℕ → Term
copy S a = entry_term S fix.Copy (a ∷ [])

abbrev pub in_range : ℕ → Bool → ℕ → ℕ → Term
in_range S reverse cur last = entry_term S (in_range_entry reverse) (cur ∷ last ∷ [])

abbrev pub leaves_range : ℕ → Bool → ℕ → ℕ → Term
leaves_range S reverse step cur = entry_term S (past_end_entry reverse) (step ∷ cur ∷ [])

abbrev pub moved : ℕ → Bool → ℕ → ℕ → Term
moved S reverse cur step = entry_term S (next_entry reverse) (cur ∷ step ∷ [])

-- ---- blocks

abbrev pub block : Bool → Assignment → End → Block
block h s e = record { head = h; set = s; end = e }

abbrev pub sets : ℕ → Term → ℕ → Block
sets slot t next = block false (Some (slot, t)) (Jump next)

abbrev pub branches : Bool → Term → ℕ → ℕ → Block
branches head t y n = block head None (Branch t y n)

abbrev pub jumps : Bool → ℕ → Block
jumps head next = block head None (Jump next)

abbrev pub returns : Term → Block
returns t = block false None (Return t)

abbrev pub fails : Class → Block
fails c = block false None (Fail c)

-- a block of a pattern's own, a block that patterns may share, one block for two, and what no form
-- has
pub data Part : Type 0 where
  own : ℕ → Block → Part
  shared : ℕ → Block → Part
  same : ℕ → ℕ → Part
  never : Part

-- ---- what is read from the form

abbrev pub jump_in : End → ℕ
jump_in (Jump t) = t
jump_in (Branch _ _ _) = 0
jump_in (Return _) = 0
jump_in (Fail _) = 0

abbrev pub yes_in : End → ℕ
yes_in (Jump _) = 0
yes_in (Branch _ y n) = y
yes_in (Return _) = 0
yes_in (Fail _) = 0

abbrev pub no_in : End → ℕ
no_in (Jump _) = 0
no_in (Branch _ y n) = n
no_in (Return _) = 0
no_in (Fail _) = 0

abbrev pub end_in : (End → ℕ) → Option Block → ℕ
end_in read None = 0
end_in read (Some x) = read x.end

abbrev pub is_pair : ℕ → ℕ → List ℕ → Bool
is_pair a b [] = false
is_pair a b (x ∷ []) = false
is_pair a b (x ∷ y ∷ []) = nat_eq x a && nat_eq y b
is_pair a b (x ∷ y ∷ z ∷ rest) = false

-- a branch on this entry of the fixed list over these two slots
abbrev pub tests : ℕ → ℕ → ℕ → End → Bool
tests k a b (Jump _) = false
tests k a b (Branch t y n) = nat_eq t.expr k && is_pair a b t.names
tests k a b (Return _) = false
tests k a b (Fail _) = false

-- the first block that branches so, or how many blocks there are
abbrev pub first_test : ℕ → ℕ → ℕ → List Block → ℕ
first_test k a b [] = 0
first_test k a b (x ∷ xs) = if tests k a b x.end then 0 else 1 + first_test k a b xs

abbrev pub or_zero : Option ℕ → ℕ
or_zero None = 0
or_zero (Some b) = b

module _ (g : Goto) where
  -- the first block of a node
  abbrev pub node : ℕ → ℕ
  node i = or_zero (slice_get g.nodes i)

  abbrev pub jump_of : ℕ → ℕ
  jump_of b = end_in jump_in (slice_get g.blocks b)

  abbrev pub yes_of : ℕ → ℕ
  yes_of b = end_in yes_in (slice_get g.blocks b)

  abbrev pub no_of : ℕ → ℕ
  no_of b = end_in no_in (slice_get g.blocks b)

  -- the head of a FOR, where its step is set in b
  abbrev pub head_after : Option Expr → ℕ → ℕ
  head_after None b = jump_of b
  head_after (Some e) b = no_of (no_of (jump_of b))

  -- the block after a bound that is set in b
  abbrev pub after_bound : ℕ → ℕ
  after_bound b = no_of (jump_of b)

  abbrev pub for_head : Option Expr → ℕ → ℕ
  for_head by b = head_after by (after_bound (after_bound b))

module _ (g : Goto) (n : Numbers) where
  -- ---- setting a slot: with NOT NULL a test follows

  abbrev pub set_parts : Bool → Ty → ℕ → ℕ → Term → ℕ → List Part
  set_parts false t b slot e next = own b (sets slot e next) ∷ []
  set_parts true t b slot e next =
      own b (sets slot e (jump_of g b))
      ∷ own (jump_of g b) (branches false (is_null n.fixed t slot) (yes_of g (jump_of g b)) next)
      ∷ shared (yes_of g (jump_of g b)) (fails null_not_allowed)
      ∷ []

  -- what is no slot of the function may be NULL
  abbrev pub slot_parts : Option Slot → ℕ → ℕ → Term → ℕ → List Part
  slot_parts None b slot e next = set_parts false ty.Bigint b slot e next
  slot_parts (Some s) b slot e next = set_parts s.not_null s.ty b slot e next

  -- ---- leaving by EXIT or CONTINUE

  abbrev pub leave_parts : Option Expr → ℕ → ℕ → ℕ → ℕ → List Part
  leave_parts None k b to next = own b (jumps false to) ∷ []
  leave_parts (Some e) k b to next = own b (branches false (source_term k e) to next) ∷ []

  -- no EXIT has the entry as its block, as a NULL or CONTINUE that nothing reaches may
  abbrev pub exit_parts : Option Expr → ℕ → ℕ → ℕ → ℕ → List Part
  exit_parts when k b to next = if nat_eq b g.entry then never ∷ [] else leave_parts when k b to next

  -- ---- FOR

  -- a bound is set in b and is not NULL; what follows begins at the next block
  abbrev pub bound_parts : ℕ → ℕ → Term → ℕ → List Part
  bound_parts b slot e next =
      own b (sets slot e (jump_of g b))
      ∷ own (jump_of g b)
      (branches false (is_null n.fixed ty.Integer slot) (yes_of g (jump_of g b)) next)
      ∷ shared (yes_of g (jump_of g b)) (fails null_not_allowed)
      ∷ []

  abbrev pub step_parts : Option Expr → ℕ → ℕ → ℕ → ℕ → List Part
  step_parts None k b step head = own b (sets step (one n.fixed) head) ∷ []
  step_parts (Some e) k b step head =
      bound_parts b step (source_term k e) (no_of g (jump_of g b))
      ++ (own (no_of g (jump_of g b)) (branches false (not_positive n.fixed step) (yes_of g (no_of g (jump_of g b))) head)
      ∷ shared (yes_of g (no_of g (jump_of g b))) (fails invalid_parameter)
      ∷ [])

  -- the head, the start of a turn, the test after a turn and the next counter
  abbrev pub turn_parts : Bool → ℕ → ℕ → ℕ → ℕ → ℕ → ℕ → ℕ → ℕ → List Part
  turn_parts reverse var cur last step head test body next =
      own head (branches true (in_range n.fixed reverse cur last) (yes_of g head) next)
      ∷ own (yes_of g head) (sets var (copy n.fixed cur) body)
      ∷ own test (branches false (leaves_range n.fixed reverse step cur) next (no_of g test))
      ∷ own (no_of g test) (sets cur (moved n.fixed reverse cur step) head)
      ∷ []

  -- the first hidden slot of the FOR with so many others before it
  abbrev pub cur_of : ℕ → ℕ
  cur_of f = n.counters + 3 * f

  abbrev pub for_test : Bool → ℕ → ℕ
  for_test reverse f = first_test (n.fixed + position (past_end_entry reverse)) (cur_of f + 2) (cur_of f) g.blocks

  abbrev pub for_parts : Bool → Expr → Expr → Option Expr → Position → ℕ → ℕ → List Part
  for_parts reverse first last by p body next =
      bound_parts (node g p.node) (cur_of p.fors) (source_term p.expr first) (after_bound g (node g p.node))
      ++ (bound_parts (after_bound g (node g p.node)) (cur_of p.fors + 1)
      (source_term (p.expr + 1) last) (after_bound g (after_bound g (node g p.node)))
      ++ (step_parts by (p.expr + 2) (after_bound g (after_bound g (node g p.node))) (cur_of p.fors + 2) (for_head g by (node g p.node))
      ++ turn_parts reverse p.slot (cur_of p.fors) (cur_of p.fors + 1) (cur_of p.fors + 2)
      (for_head g by (node g p.node)) (for_test reverse p.fors) body next))

-- where what comes before the rest leads: to the rest, or behind it
abbrev pub onward : {A : Type 0} → List A → ℕ → ℕ → ℕ
onward [] rest behind = behind
onward (_ ∷ _) rest behind = rest

module _ (g : Goto) (n : Numbers) where
  -- ---- SELECT INTO

  -- with STRICT no row is a fault, and so is a second one; what follows begins at the first target
  abbrev pub check_parts : Bool → ℕ → ℕ → Select → ℕ → List Part
  check_parts false b k q first = same b first ∷ []
  check_parts true b k q first =
      own b (branches false (select_term k q) (yes_of g b) (no_of g b))
      ∷ shared (yes_of g b) (fails no_data_found)
      ∷ own (no_of g b) (branches false (select_term (k + 1) q) (yes_of g (no_of g b)) first)
      ∷ shared (yes_of g (no_of g b)) (fails too_many_rows)
      ∷ []

  -- each target's hidden slot takes its pick, from a node, an entry and a hidden slot on; the last
  -- one leads to where the targets are set
  abbrev pub pick_parts : List Target → ℕ → ℕ → ℕ → Select → ℕ → List Part
  pick_parts [] i k hidden q puts = []
  pick_parts (_ ∷ ts) i k hidden q puts =
      own (node g i) (sets hidden (select_term k q) (onward ts (node g (i + 1)) puts))
      ∷ pick_parts ts (i + 1) (k + 1) (hidden + 1) q puts

  abbrev pub put_part : List Slot → Option ℕ → ℕ → ℕ → ℕ → List Part
  put_part slots None b hidden next = own b (jumps false next) ∷ []
  put_part slots (Some slot) b hidden next =
      slot_parts g n (slice_get slots slot) b slot (copy n.fixed hidden) next

  -- where the blocks lead that begin at b and set a slot
  abbrev pub after_set : Bool → ℕ → ℕ
  after_set false b = jump_of g b
  after_set true b = no_of g (jump_of g b)

  abbrev pub after_slot : Option Slot → ℕ → ℕ
  after_slot None b = after_set false b
  after_slot (Some s) b = after_set s.not_null b

  abbrev pub after_put : List Slot → Option ℕ → ℕ → ℕ
  after_put slots None b = after_set false b
  after_put slots (Some slot) b = after_slot (slice_get slots slot) b

  -- each target is set from its hidden slot
  abbrev pub put_parts : List Slot → List Target → ℕ → ℕ → ℕ → List Part
  put_parts slots [] b hidden next = []
  put_parts slots (t ∷ ts) b hidden next =
      put_part slots t.1 b hidden (onward ts (after_put slots t.1 b) next)
      ++ put_parts slots ts (after_put slots t.1 b) (hidden + 1) next

  -- the first block that sets a target: the last pick leads to it
  abbrev pub puts_of : List Target → ℕ → ℕ
  puts_of ts i = jump_of g (node g (i + length ts))

  abbrev pub into_parts : List Slot → Bool → List Target → Select → Position → ℕ → List Part
  into_parts slots strict ts q p next =
      check_parts strict (node g p.node) p.expr q (onward ts (node g (p.node + 1)) next)
      ++ (pick_parts ts (p.node + 1) (p.expr + checks strict) (n.targets + p.targets) q
      (puts_of ts p.node)
      ++ put_parts slots ts (puts_of ts p.node) (n.targets + p.targets) next)
