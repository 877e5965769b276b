-- The run of the normal form. It is total: a call of what is no block has no answer at any number
-- of visits.
use Rattle.std.specs.Prelude.{ℕ, Bool, true, false, List, slice_get, Option, Some, None, Ok, Err}
use Rattle.away_values.specs.declared.values.Value.{Value}
use Rattle.away_values.specs.declared.values.Value.TheVariants as val
use Rattle.away_values.specs.Operators.{is_true}
use Rattle.away_values.specs.Results.{Or}
use Rattle.block_forms.specs.Forms.{Assignment}
use Rattle.block_forms.specs.Machines.{Move, ends, moves, stuck, Machine, Ran, go}
use Rattle.block_forms.specs.Runs.{Frame, term_value, in_names, is_head, first_values}
use Rattle.call_forms.specs.Forms.{Call, CallEnd, Go, Pick, Return, Fail, AnfBlock, Anf, params_of}
use Rattle.call_forms.specs.Scopes.{Scope, paired}

-- a block, and the values of the names
abbrev pub AtBlock : Type 0
AtBlock = ℕ × Scope Value

abbrev pub chosen : Bool → Call → Call → Call
chosen true x y = x
chosen false x y = y

module _ (frame : Frame) (anf : Anf) where
  -- A call passes values: each parameter takes its argument, and NULL where there is none. Every
  -- other name is NULL.
  abbrev pub called : Call → Scope Value → AtBlock
  called c s = (c.target, paired s val.Null (params_of (slice_get anf.blocks c.target)) c.args)

  abbrev pub picked : Or Value → Call → Call → Scope Value → Move AtBlock
  picked (Err c) x y s = ends (Err c)
  picked (Ok v) x y s = moves (called (chosen (is_true v) x y) s)

  abbrev pub call_move : CallEnd → Scope Value → Move AtBlock
  call_move (Go c) s = moves (called c s)
  call_move (Pick t x y) s = picked (term_value frame (in_names frame) t s) x y s
  call_move (Return t) s = ends (term_value frame (in_names frame) t s)
  call_move (Fail c) s = ends (Err c)

  abbrev pub assigned_call : ℕ → Or Value → CallEnd → Scope Value → Move AtBlock
  assigned_call n (Err c) e s = ends (Err c)
  assigned_call n (Ok v) e s = call_move e ((in_names frame).write s n v)

  abbrev pub anf_move : Assignment → CallEnd → Scope Value → Move AtBlock
  anf_move None e s = call_move e s
  anf_move (Some p) e s = assigned_call p.0 (term_value frame (in_names frame) p.1 s) e s

  abbrev pub anf_visit : Option AnfBlock → Scope Value → Move AtBlock
  anf_visit None s = stuck
  anf_visit (Some x) s = anf_move x.set x.end s

  -- the heads are those of the goto form
  abbrev pub anf_machine : Machine AtBlock
  anf_machine = record {
    head = λ s. is_head (slice_get frame.goto.blocks s.0);
    visit = λ s. anf_visit (slice_get anf.blocks s.0) s.1;
  }

  -- the entry's parameters are parameters of the function, by their numbers
  abbrev pub first_scope : List Value → Scope Value
  first_scope args =
      let params : List ℕ = params_of (slice_get anf.blocks frame.goto.entry) in paired (first_values frame args) val.Null params params

  abbrev pub anf_runs : List Value → ℕ → Ran
  anf_runs args k = go anf_machine k (frame.goto.entry, first_scope args) 0
