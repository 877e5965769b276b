-- The runs of the goto form and of the SSA form. They are total: what is no block has no answer at
-- any number of visits, and where there is no value, it is NULL.
use Rattle.std.specs.Prelude.{
  ℕ,
  ◌-◌,
  Bool,
  true,
  false,
  List,
  ◌++◌,
  map,
  get_or,
  replicate,
  slice_get,
  slice_set,
  Option,
  Some,
  None,
  Ok,
  Err,
  if◌then◌else◌,
  nat_eq,
}
use Rattle.away_values.specs.declared.values.Value.{Value}
use Rattle.away_values.specs.declared.values.Value.TheVariants as val
use Rattle.away_values.specs.Operators.{is_true}
use Rattle.away_values.specs.Results.{Or}
use Rattle.block_forms.specs.Forms.{
  Term,
  End,
  Jump,
  Branch,
  Return,
  Fail,
  Assignment,
  Block,
  Goto,
  SsaBlock,
  Ssa,
  source,
}
use Rattle.block_forms.specs.Machines.{Move, ends, moves, stuck, Machine, Ran, go}

-- What a form is read in: the expressions by number at the values that they read, how many slots
-- and parameters the function has, and the goto form, which tells the entry and the heads.
pub record Frame : Type 0 where
  pub apply : ℕ → List Value → Or Value
  pub slots : ℕ
  pub params : ℕ
  pub goto : Goto

-- a memory S: how a number (a slot, a name) is read and written
pub record Memory (S : Type 0) : Type 0 where
  pub read : S → ℕ → Value
  pub write : S → ℕ → Value → S

abbrev pub way : Bool → ℕ → ℕ → ℕ
way true y n = y
way false y n = n

-- a visit of a block, over any memory: it goes on at a block with a memory
module _ {S : Type 0} (frame : Frame) (memory : Memory S) where
  abbrev pub term_value : Term → S → Or Value
  term_value t s = frame.apply t.expr (map (memory.read s) t.names)

  abbrev pub branch : Or Value → ℕ → ℕ → S → Move (ℕ × S)
  branch (Err c) y n s = ends (Err c)
  branch (Ok v) y n s = moves (way (is_true v) y n, s)

  abbrev pub end_move : End → S → Move (ℕ × S)
  end_move (Jump c) s = moves (c, s)
  end_move (Branch t y n) s = branch (term_value t s) y n s
  end_move (Return t) s = ends (term_value t s)
  end_move (Fail c) s = ends (Err c)

  abbrev pub assigned : ℕ → Or Value → End → S → Move (ℕ × S)
  assigned place (Err c) e s = ends (Err c)
  assigned place (Ok v) e s = end_move e (memory.write s place v)

  abbrev pub block_move : Assignment → End → S → Move (ℕ × S)
  block_move None e s = end_move e s
  block_move (Some a) e s = assigned a.0 (term_value a.1 s) e s

abbrev pub is_head : Option Block → Bool
is_head None = false
is_head (Some x) = x.head

module _ (frame : Frame) where
  -- ---- the goto form: a value for each slot

  abbrev pub in_slots : Memory (List Value)
  in_slots = record { read = λ s i. get_or s i val.Null; write = slice_set }

  abbrev pub goto_visit : Option Block → List Value → Move (ℕ × List Value)
  goto_visit None s = stuck
  goto_visit (Some x) s = block_move frame in_slots x.set x.end s

  abbrev pub goto_machine : Goto → Machine (ℕ × List Value)
  goto_machine g = record { head = λ s. is_head (slice_get g.blocks s.0); visit = λ s. goto_visit (slice_get g.blocks s.0) s.1 }

  -- the arguments, and NULL in each other slot
  abbrev pub first_slots : List Value → List Value
  first_slots args = args ++ replicate (frame.slots - frame.params) val.Null

  abbrev pub goto_runs : Goto → List Value → ℕ → Ran
  goto_runs g args k = go (goto_machine g) k (frame.goto.entry, first_slots args) 0

  -- ---- the SSA form: the values of names

  abbrev pub in_names : Memory (ℕ → Value)
  in_names = record { read = λ s n. s n; write = λ s n v m. if nat_eq m n then v else s m }

  abbrev pub value_of : (ℕ → Value) → Option ℕ → Value
  value_of s None = val.Null
  value_of s (Some m) = s m

  -- the φs take their operands all at once
  abbrev pub entered : Option SsaBlock → ℕ → (ℕ → Value) → ℕ → Value
  entered None b s n = s n
  entered (Some y) b s n = value_of s (source y.phis b n)

  -- the φs of the block that a visit of block b goes on at
  abbrev pub entering : Ssa → ℕ → Move (ℕ × (ℕ → Value)) → Move (ℕ × (ℕ → Value))
  entering z b (ends r) = ends r
  entering z b (moves s) = moves (s.0, entered (slice_get z.blocks s.0) b s.1)
  entering z b stuck = stuck

  abbrev pub ssa_visit : Option SsaBlock → (ℕ → Value) → Move (ℕ × (ℕ → Value))
  ssa_visit None s = stuck
  ssa_visit (Some y) s = block_move frame in_names y.set y.end s

  -- a block whose φs have their values; the heads are those of the goto form
  abbrev pub ssa_machine : Ssa → Machine (ℕ × (ℕ → Value))
  ssa_machine z = record {
    head = λ s. is_head (slice_get frame.goto.blocks s.0);
    visit = λ s. entering z s.0 (ssa_visit (slice_get z.blocks s.0) s.1);
  }

  -- the first names are the parameters, and each other name is NULL
  abbrev pub first_values : List Value → ℕ → Value
  first_values args n = get_or args n val.Null

  abbrev pub ssa_runs : Ssa → List Value → ℕ → Ran
  ssa_runs z args k = go (ssa_machine z) k (frame.goto.entry, first_values args) 0
