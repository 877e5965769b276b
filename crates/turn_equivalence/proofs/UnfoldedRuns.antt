-- A tail form whose blocks between labels are unfolded keeps the answers of its normal form, and visits as many heads. But for `Unfolded` this is the
-- law of merged tail forms.
use Rattle.std.proofs.Common.{◌≡◌, ℕ, zero, suc, ◌<◌, ◌≤◌, Bool, true, false, List, [], length, get_or, Option, Some, None, Ok, Err, refl, sym, subst, arith}
use Rattle.std.specs.Prelude.{slice_get}
use Rattle.std.proofs.lemmas.Option.{slice_get_within, get_or_from_slice_get}
use Rattle.away_types.specs.declared.slots.Slot.{Slot}
use Rattle.away_values.specs.declared.types.Ty.{Ty}
use Rattle.away_values.specs.declared.values.Answer.{Answer}
use Rattle.away_values.specs.declared.values.Answer.TheVariants as answer
use Rattle.away_values.specs.declared.values.Value.{Value}
use Rattle.away_values.specs.declared.values.Value.TheVariants as val
use Rattle.away_values.specs.Operators.{is_true}
use Rattle.away_values.specs.Results.{Or}
use Rattle.sql_meaning.specs.OneReturn.{returned}
use Rattle.block_forms.specs.declared.forms.Ssa.{Ssa}
use Rattle.block_forms.specs.Forms.{Assignment}
use Rattle.block_forms.specs.MachineLaws.{heads_from}
use Rattle.block_forms.specs.Machines.{Move, ends, moves, stuck, Ran, ran, counted, then_goes, go, IsOver, Bounds}
use Rattle.block_forms.specs.Places.{Each}
use Rattle.block_forms.specs.Runs.{Frame, term_value, in_names, is_head, first_values}
use Rattle.call_forms.specs.declared.forms.Call.{Call}
use Rattle.call_forms.specs.declared.forms.CallEnd.{CallEnd}
use Rattle.call_forms.specs.declared.forms.CallEnd.TheVariants.{Go, Pick, Return, Fail}
use Rattle.call_forms.specs.declared.forms.AnfBlock.{AnfBlock}
use Rattle.call_forms.specs.declared.forms.Anf.{Anf}
use Rattle.call_forms.specs.declared.forms.Tail.{Tail}
use Rattle.call_forms.specs.Bodies.{Body, Ends, goes_to, goes, end_body, sets_first, block_body, tree}
use Rattle.call_forms.specs.Columned.{type_of_name, HasType, PlacesOf, PlacesAt, Columned}
use Rattle.call_forms.specs.Forms.{params_of, label_of}
use Rattle.block_forms.specs.declared.forms.Goto.{Goto}
use Rattle.call_forms.specs.Merged.{AtCalls, Merged}
use Rattle.call_law.proofs.Ways.{label_ends}
use Rattle.turn_template.specs.Unfolded.{Unfolded}
use Rattle.call_forms.specs.NormalRuns.{chosen, called, picked, call_move, assigned_call, anf_move, anf_visit, anf_machine, anf_runs}
use Rattle.call_forms.specs.Scopes.{Scope, paired}
use Rattle.call_forms.specs.TailRuns.{AtLabel, row_from, with_value, one_way, label_or, walk, places_of, scope_of, label_visit, heads_label, tail_machine, tail_runs}
use Rattle.call_law.proofs.Labels.{element_there, place_found, placed}
use Rattle.call_law.proofs.Numbers.{differ_is, below_each}
use Rattle.call_law.proofs.RowPlaces.{recoded}

-- an answer is kept, and there are as many heads at least
record Covers (x y : Ran) : Type 0 where
  answer : (r : Answer) → IsOver r → x.answer ≡ r → y.answer ≡ r
  heads : x.heads ≤ y.heads

same_answer : (r : Answer) (h h' : ℕ) → h ≤ h' → Covers (ran r h) (ran r h')
same_answer r h h' p = record { answer = λ q over e. e; heads = p }

no_answer : (h : ℕ) (y : Ran) → h ≤ y.heads → Covers (ran answer.More h) y
no_answer h y p = record { answer = λ r over e. absurd (subst IsOver (sym e) over); heads = p }

counted_as_many : (b : Bool) (h h' : ℕ) → h ≤ h' → counted b h ≤ counted b h'
counted_as_many true h h' p = omega (arith, p)
counted_as_many false h h' p = p

at_most_as : (a b c : ℕ) → a ≤ b → b ≤ c → a ≤ c
at_most_as a b c p q = omega (arith, p, q)

-- ---- the places of a label

below_columns : (columns : List Ty) (t : Option Ty) (c : ℕ) → HasType t (slice_get columns c) → c < length columns
below_columns columns None c typed = absurd typed
below_columns columns (Some t) c typed = slice_get_within columns c t typed

places_below : (slots : List Slot) (names : List ℕ) (columns : List Ty) (params places : List ℕ) → PlacesOf slots names columns params places
    → Each (λ c. c < length columns) places
places_below slots names columns params places of i c e =
    let within = slice_get_within places i c e in
    let there = element_there params i (omega (arith, within, of.as_many)) in
    below_columns columns (type_of_name slots names there.0) c (of.typed i there.0 c there.1 e)

places_are : (slots : List Slot) (names : List ℕ) (columns : List Ty) (o : Option AnfBlock) (places : List ℕ)
    → PlacesAt slots names columns o places → PlacesOf slots names columns (params_of o) places
places_are slots names columns None places at = absurd at
places_are slots names columns (Some x) places at = at

-- ---- one visit

module _ (frame : Frame) (slots : List Slot) (z : Ssa) (a : Anf) (r : Tail) (unfolded : Unfolded frame.goto a r) (columned : Columned slots z a r) where
  abbrev one : ℕ → ℕ × Scope Value → ℕ → Ran
  one j = go (anf_machine frame a) j

  abbrev two : ℕ → AtLabel → ℕ → Ran
  two k = go (tail_machine frame a r) k

  abbrev IsBlock : ℕ → Type 0
  IsBlock b = b < length a.blocks

  abbrev walked : Body → Scope Value → Move AtLabel
  walked = walk frame r.columns

  label_places : (i b : ℕ) → slice_get r.labels i ≡ Some b
      → PlacesOf slots z.names r.columns (params_of (slice_get a.blocks b)) (places_of frame a r i)
  label_places i b e =
      let within = slice_get_within r.labels i b e in
      let there = element_there r.places i (omega (arith, within, columned.as_many)) in
      let at = columned.each i b there.0 e there.1 in
      let same : get_or r.places i [] ≡ there.0 = get_or_from_slice_get r.places i there.0 [] there.1 in
      subst (PlacesOf slots z.names r.columns (params_of (slice_get a.blocks b))) (sym same)
      (places_are slots z.names r.columns (slice_get a.blocks b) there.0 at)

  -- what is passed to a label is what its block's parameters take from the row
  passed_on : (i b : ℕ) (s : Scope Value) (args : List ℕ) → slice_get r.labels i ≡ Some b
      → scope_of frame a r i b (row_from 0 s (places_of frame a r i) args r.columns) ≡ paired s val.Null (params_of (slice_get a.blocks b)) args
  passed_on i b s args e =
      let of = label_places i b e in
      let places : List ℕ = places_of frame a r i in
      let below = below_each (length r.columns) places (places_below slots z.names r.columns (params_of (slice_get a.blocks b)) places of) in
      λ t n. recoded s r.columns (params_of (slice_get a.blocks b)) places args (differ_is places of.distinct) below of.as_many n t

  rises : (k : ℕ) (x : Move AtLabel) (h : ℕ) → h ≤ (then_goes x (two k) h).heads
  rises k (ends v) h = omega arith
  rises k (moves s) h = heads_from (tail_machine frame a r) k s h
  rises k stuck h = omega arith

  -- ---- so many visits

  abbrev Labels : ℕ → Type 0
  Labels j =
      (k i b : ℕ) (row : List Value) (h h' : ℕ) → j ≤ k → h ≤ h' → slice_get r.labels i ≡ Some b
      → Covers (one j (b, scope_of frame a r i b row) h) (two k (i, row) h')

  abbrev Others : ℕ → Type 0
  Others j =
      (k d b : ℕ) (s : Scope Value) (h h' : ℕ) → j ≤ k → h ≤ h' → IsBlock b → label_of r b ≡ None → Ends (tree a r d b)
      → Covers (one j (b, s) h) (then_goes (walked (tree a r d b) s) (two k) h')

  -- one block, after which the normal form has j visits and the tail form k
  module _ (j : ℕ) (labels : Labels j) (others : Others j) (k d h h' : ℕ) (fewer : j ≤ k) (as_many : h ≤ h') where
    call_covers : (c : Call) (s : Scope Value) → IsBlock c.target → Ends (goes a r (tree a r d) c)
        → Covers (one j (called frame a c s) h) (then_goes (walked (goes a r (tree a r d) c) s) (two k) h')
    call_covers c s inside finite = by (label_of r c.target) refl finite
      where
        by : (o : Option ℕ) → label_of r c.target ≡ o → Ends (goes_to a r (tree a r d) c o)
            → Covers (one j (called frame a c s) h) (then_goes (walked (goes_to a r (tree a r d) c o) s) (two k) h')
        by None missed finite =
            others k d c.target (paired s val.Null (params_of (slice_get a.blocks c.target)) c.args) h h' fewer as_many inside missed finite
        by (Some i) found finite =
            let there = place_found r.labels c.target i found in
            let row : List Value = row_from 0 s (places_of frame a r i) c.args r.columns in
            subst (λ s. Covers (one j (c.target, s) h) (two k (i, row) h')) (passed_on i c.target s c.args there)
            (labels k i c.target row h h' fewer as_many there)

    picked_covers : (q : Or Value) (x y : Call) (s : Scope Value) → IsBlock x.target → IsBlock y.target → Ends (goes a r (tree a r d) x)
        → Ends (goes a r (tree a r d) y)
        → Covers (then_goes (picked frame a q x y s) (one j) h)
        (then_goes (with_value q (λ v. one_way (is_true v) (walked (goes a r (tree a r d) x) s) (walked (goes a r (tree a r d) y) s))) (two k) h')
    picked_covers (Err c) x y s inside inside' finite finite' = same_answer (returned (Err c)) h h' as_many
    picked_covers (Ok v) x y s inside inside' finite finite' = taken (is_true v)
      where
        taken : (t : Bool) → Covers (one j (called frame a (chosen t x y) s) h)
            (then_goes (one_way t (walked (goes a r (tree a r d) x) s) (walked (goes a r (tree a r d) y) s)) (two k) h')
        taken true = call_covers x s inside finite
        taken false = call_covers y s inside' finite'

    end_covers : (e : CallEnd) (s : Scope Value) → AtCalls IsBlock e → Ends (end_body a r (tree a r d) e)
        → Covers (then_goes (call_move frame a e s) (one j) h) (then_goes (walked (end_body a r (tree a r d) e) s) (two k) h')
    end_covers (Go c) s inside finite = call_covers c s inside finite
    end_covers (Pick t x y) s inside finite = picked_covers (term_value frame (in_names frame) t s) x y s inside.0 inside.1 finite.0 finite.1
    end_covers (Return t) s inside finite = same_answer (returned (term_value frame (in_names frame) t s)) h h' as_many
    end_covers (Fail c) s inside finite = same_answer (returned (Err c)) h h' as_many

    assigned_covers : (n : ℕ) (q : Or Value) (e : CallEnd) (s : Scope Value) → AtCalls IsBlock e → Ends (end_body a r (tree a r d) e)
        → Covers (then_goes (assigned_call frame a n q e s) (one j) h)
        (then_goes (with_value q (λ v. walked (end_body a r (tree a r d) e) ((in_names frame).write s n v))) (two k) h')
    assigned_covers n (Err c) e s inside finite = same_answer (returned (Err c)) h h' as_many
    assigned_covers n (Ok v) e s inside finite = end_covers e ((in_names frame).write s n v) inside finite

    move_covers : (p : Assignment) (e : CallEnd) (s : Scope Value) → AtCalls IsBlock e
        → Ends (sets_first a r p (end_body a r (tree a r d) e))
        → Covers (then_goes (anf_move frame a p e s) (one j) h) (then_goes (walked (sets_first a r p (end_body a r (tree a r d) e)) s) (two k) h')
    move_covers None e s inside finite = end_covers e s inside finite
    move_covers (Some p) e s inside finite = assigned_covers p.0 (term_value frame (in_names frame) p.1 s) e s inside finite

    block_covers : (b : ℕ) (o : Option AnfBlock) (s : Scope Value) → slice_get a.blocks b ≡ o → Ends (block_body a r (tree a r d) o)
        → Covers (then_goes (anf_visit frame a o s) (one j) h) (then_goes (walked (block_body a r (tree a r d) o) s) (two k) h')
    block_covers b None s e finite = absurd finite
    block_covers b (Some x) s e finite = move_covers x.set x.end s (unfolded.calls b x e) finite

  others_next : (j : ℕ) → Labels j → Others j → Others (suc j)
  others_next j labels others k zero b s h h' p q inside missed finite = absurd finite
  others_next j labels others k (suc d) b s h h' p q inside missed finite =
      subst (λ t. Covers (then_goes (anf_visit frame a (slice_get a.blocks b) s) (one j) (counted t h))
      (then_goes (walked (tree a r (suc d) b) s) (two k) h'))
      (sym (unfolded.heads b inside missed))
      (block_covers j labels others k d h h' (omega (arith, p)) q b (slice_get a.blocks b) s refl finite)

  labels_next : (j : ℕ) → Labels j → Others j → Labels (suc j)
  labels_next j labels others zero i b row h h' p q e = absurd (omega (arith, p))
  labels_next j labels others (suc k) i b row h h' p q e =
      subst (λ o. Covers (one (suc j) (b, scope_of frame a r i b row) h)
      (then_goes (label_visit frame a r i o row) (two k) (counted (heads_label frame a r o) h')))
      (sym e) (by (length a.blocks) (unfolded.finite i b e))
    where
      by : (n : ℕ) → Ends (tree a r n b)
          → Covers (one (suc j) (b, scope_of frame a r i b row) h)
          (then_goes (walked (tree a r n b) (scope_of frame a r i b row)) (two k) (counted (is_head (slice_get frame.goto.blocks b)) h'))
      by zero finite = absurd finite
      by (suc d) finite =
          let head : Bool = is_head (slice_get frame.goto.blocks b) in
          block_covers j labels others k d (counted head h) (counted head h') (omega (arith, p)) (counted_as_many head h h' q) b
          (slice_get a.blocks b)
          (scope_of frame a r i b row) refl finite

  covers : (j : ℕ) → Labels j × Others j
  covers zero = (
    λ k i b row h h' p q e.
        no_answer h (two k (i, row) h')
        (at_most_as h h' (two k (i, row) h').heads q (heads_from (tail_machine frame a r) k (i, row) h')),
    λ k d b s h h' p q inside missed finite.
        no_answer h (then_goes (walked (tree a r d b) s) (two k) h')
        (at_most_as h h' (then_goes (walked (tree a r d b) s) (two k) h').heads q (rises k (walked (tree a r d b) s) h')),
  )
  covers (suc j) = let before = covers j in (labels_next j before.0 before.1, others_next j before.0 before.1)

  -- ---- the start

  starts : (args : List Value) (k : ℕ) → Covers (anf_runs frame a args k) (tail_runs frame a r args k)
  starts args k = by (label_of r frame.goto.entry) refl
    where
      by : (o : Option ℕ) → label_of r frame.goto.entry ≡ o
          → Covers (anf_runs frame a args k)
          (two k (
            label_or (length r.labels) o,
            row_from 0 (first_values frame args) (places_of frame a r (label_or (length r.labels) o)) (params_of (slice_get a.blocks frame.goto.entry)) r.columns,
          ) 0)
      by None missed = absurd (placed 0 r.labels frame.goto.entry unfolded.entry.place unfolded.entry.there missed)
      by (Some i) found =
          let entry : ℕ = frame.goto.entry in
          let there = place_found r.labels entry i found in
          let params : List ℕ = params_of (slice_get a.blocks entry) in
          let row : List Value = row_from 0 (first_values frame args) (places_of frame a r i) params r.columns in
          subst (λ s. Covers (one k (entry, s) 0) (two k (i, row) 0)) (passed_on i entry (first_values frame args) params there)
          ((covers k).0 k i entry row 0 0 (omega arith) (omega arith) there)

  pub unfolded_bounds : (args : List Value) → Bounds (anf_runs frame a args) (tail_runs frame a r args)
  unfolded_bounds args = record { answer = λ k. (starts args k).answer; heads = λ k. (starts args k).heads }

-- merged labels are a case of it
pub merged_unfolds : (g : Goto) (a : Anf) (r : Tail) → Merged g a r → Unfolded g a r
merged_unfolds g a r m = record {
  labels_differ = m.labels_differ;
  labels_are_blocks = m.labels_are_blocks;
  entry = m.entry;
  heads = λ b inside missed. (m.others b inside missed).no_head;
  calls = m.calls;
  finite = λ i b e. label_ends g a r m i b e;
}
