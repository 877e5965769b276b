-- The run of the tail form: a visit of a label is its block and all blocks that are merged into it.
use Rattle.std.specs.Prelude.{
  ℕ,
  suc,
  Bool,
  true,
  false,
  List,
  [],
  ◌∷◌,
  length,
  get_or,
  slice_get,
  Option,
  Some,
  None,
  Ok,
  Err,
}
use Rattle.away_values.specs.declared.types.Ty.{Ty}
use Rattle.away_values.specs.declared.values.Value.{Value}
use Rattle.away_values.specs.declared.values.Value.TheVariants as val
use Rattle.away_values.specs.Operators.{is_true}
use Rattle.away_values.specs.Results.{Or}
use Rattle.block_forms.specs.Machines.{Move, ends, moves, stuck, Machine, Ran, go}
use Rattle.block_forms.specs.Runs.{Frame, term_value, in_names, is_head, first_values}
use Rattle.call_forms.specs.Bodies.{
  Body,
  sets,
  enters,
  picks,
  returns,
  fails,
  calls,
  endless,
  body_of,
}
use Rattle.call_forms.specs.Forms.{Anf, Tail, params_of, label_of}
use Rattle.call_forms.specs.Scopes.{Scope, paired}

-- a label, counted from 0, and a value for each column
abbrev pub AtLabel : Type 0
AtLabel = ℕ × List Value

-- from column i on: the value of the argument whose place the column is, and NULL where it is no
-- place
abbrev pub row_from : ℕ → Scope Value → List ℕ → List ℕ → List Ty → List Value
row_from i s places args [] = []
row_from i s places args (t ∷ ts) = paired s val.Null places args i ∷ row_from (suc i) s places args ts

abbrev pub with_value : Or Value → (Value → Move AtLabel) → Move AtLabel
with_value (Err c) next = ends (Err c)
with_value (Ok v) next = next v

abbrev pub one_way : Bool → Move AtLabel → Move AtLabel → Move AtLabel
one_way true x y = x
one_way false x y = y

abbrev pub label_or : ℕ → Option ℕ → ℕ
label_or d None = d
label_or d (Some i) = i

module _ (frame : Frame) (columns : List Ty) where
  abbrev pub walk : Body → Scope Value → Move AtLabel
  walk (sets n t x) s = with_value (term_value frame (in_names frame) t s) (λ v. walk x ((in_names frame).write s n v))
  walk (enters params args x) s = walk x (paired s val.Null params args)
  walk (picks t x y) s = with_value (term_value frame (in_names frame) t s) (λ v. one_way (is_true v) (walk x s) (walk y s))
  walk (returns t) s = ends (term_value frame (in_names frame) t s)
  walk (fails c) s = ends (Err c)
  walk (calls label places args) s = moves (label, row_from 0 s places args columns)
  walk endless s = stuck

module _ (frame : Frame) (anf : Anf) (tail : Tail) where
  abbrev pub places_of : ℕ → List ℕ
  places_of label = get_or tail.places label []

  -- a block's parameters take the values at the label's places
  abbrev pub scope_of : ℕ → ℕ → List Value → Scope Value
  scope_of label b row = paired (λ place. get_or row place val.Null) val.Null (params_of (slice_get anf.blocks b)) (places_of label)

  abbrev pub label_visit : ℕ → Option ℕ → List Value → Move AtLabel
  label_visit label None row = stuck
  label_visit label (Some b) row = walk frame tail.columns (body_of anf tail b) (scope_of label b row)

  -- whether the label's own block is a head
  abbrev pub heads_label : Option ℕ → Bool
  heads_label None = false
  heads_label (Some b) = is_head (slice_get frame.goto.blocks b)

  abbrev pub tail_machine : Machine AtLabel
  tail_machine = record {
    head = λ s. heads_label (slice_get tail.labels s.0);
    visit = λ s. label_visit s.0 (slice_get tail.labels s.0) s.1;
  }

  -- an entry that is no label has a number that no label has
  abbrev pub entry_label : ℕ
  entry_label = label_or (length tail.labels) (label_of tail frame.goto.entry)

  -- the entry's parameters are parameters of the function, by their numbers
  abbrev pub first_row : List Value → List Value
  first_row args = row_from 0 (first_values frame args) (places_of entry_label) (params_of (slice_get anf.blocks frame.goto.entry)) tail.columns

  abbrev pub tail_runs : List Value → ℕ → Ran
  tail_runs args k = go tail_machine k (entry_label, first_row args) 0
