-- A named SSA form runs in lockstep with its goto form: the proof, which the law of the stage
-- cites.
use Rattle.std.proofs.Common.{
  ◌≡◌,
  ◌≢◌,
  ℕ,
  zero,
  suc,
  ◌-◌,
  ◌<◌,
  ◌≤◌,
  Bool,
  true,
  false,
  cond,
  List,
  [],
  ◌∷◌,
  map,
  length,
  replicate,
  get_or,
  Option,
  Some,
  None,
  Ok,
  Err,
  refl,
  sym,
  ap,
  ◌∙◌,
  subst,
  arith,
}
use Rattle.std.specs.Prelude.{slice_get, slice_set, nat_eq}
use Rattle.std.proofs.lemmas.Bool.{eqb-true, eq-eqb, eqb-false}
use Rattle.std.proofs.lemmas.List.{
  length-set,
  get_or-set_same,
  get_or-set_other,
  get_or_append_left,
  length-append,
  length-replicate,
}
use Rattle.std.proofs.lemmas.Option.{slice_get_within}
use Rattle.away_values.specs.declared.values.Value.{Value}
use Rattle.away_values.specs.declared.values.Value.TheVariants as val
use Rattle.away_values.specs.Operators.{is_true}
use Rattle.away_values.specs.Results.{Or}
use Rattle.block_forms.specs.declared.forms.Term.{Term}
use Rattle.block_forms.specs.declared.forms.End.{End}
use Rattle.block_forms.specs.declared.forms.Block.{Block}
use Rattle.block_forms.specs.declared.forms.SsaBlock.{SsaBlock}
use Rattle.block_forms.specs.declared.forms.Ssa.{Ssa}
use Rattle.block_forms.specs.declared.forms.End.TheVariants.{Jump, Branch, Return, Fail}
use Rattle.block_forms.specs.Forms.{Assignment, Pairs, at_key, source, AtTargets}
use Rattle.block_forms.specs.Machines.{Move, ends, moves, stuck}
use Rattle.block_forms.specs.Named.{
  MapOfSlots,
  MapOfParameters,
  EntryHas,
  Renamed,
  TermRenamed,
  AssignmentRenamed,
  EndRenamed,
  renewal,
  with_pair,
  exit_map,
  Gives,
  Feeds,
  Named,
}
use Rattle.block_forms.specs.Places.{Each}
use Rattle.block_forms.specs.Runs.{
  Frame,
  way,
  is_head,
  term_value,
  branch,
  end_move,
  assigned,
  block_move,
  in_slots,
  goto_visit,
  goto_machine,
  first_slots,
  goto_runs,
  in_names,
  value_of,
  entered,
  entering,
  ssa_visit,
  ssa_machine,
  first_values,
  ssa_runs,
}
use Rattle.block_forms.proofs.AlikeMachines.{AlikeMoves, AlikeMachines, runs_alike}
use Rattle.block_forms.proofs.Pairs.{no_element}
use Rattle.block_forms.proofs.Keys.{each_at_key}

module _ (frame : Frame) where
  -- each name in the map has its slot's value
  abbrev pub Agrees : Pairs → List Value → (ℕ → Value) → Type 0
  Agrees m s f = (i n : ℕ) → at_key m i ≡ Some n → f n ≡ get_or s i val.Null

  -- ---- terms

  values_agree : (m : Pairs) (s : List Value) (f : ℕ → Value) (slots names : List ℕ) → Agrees m s f → Renamed m slots names
      → map f names ≡ map (λ i. get_or s i val.Null) slots
  values_agree m s f [] [] a r = refl
  values_agree m s f [] (n ∷ ns) a r = absurd (let e = r.as_many in omega arith)
  values_agree m s f (i ∷ is) [] a r = absurd (let e = r.as_many in omega arith)
  values_agree m s f (i ∷ is) (n ∷ ns) a r =
      let head = a i n (r.each 0 i n refl refl) in
      let tail = values_agree m s f is ns a (record { as_many = let e = r.as_many in omega arith; each = λ j x y. r.each (suc j) x y }) in
      cc

  term_agrees : (m : Pairs) (s : List Value) (f : ℕ → Value) (t u : Term) → Agrees m s f → TermRenamed m t u
      → term_value frame (in_slots frame) t s ≡ term_value frame (in_names frame) u f
  term_agrees m s f t u a r =
      let e = values_agree m s f t.names u.names a r.names in
      sym (ap (λ i. frame.apply i (map f u.names)) (sym r.expr) ∙ ap (frame.apply t.expr) e)

  -- ---- assignments

  -- the assigned slot and name, renewed at once
  renewed_agrees : (names : List ℕ) (y : SsaBlock) (slot name : ℕ) (v : Value) (s : List Value) (f : ℕ → Value) → MapOfSlots names y
      → slot < length s → slice_get names name ≡ Some slot → Agrees y.map s f
      → Agrees ((slot, name) ∷ y.map) (slice_set s slot v) ((in_names frame).write f name v)
  renewed_agrees names y slot name v s f ok lt own a i n e = by_slot (nat_eq slot i) refl e
    where
      other : (b : Bool) → nat_eq n name ≡ b → slot ≢ i → at_key y.map i ≡ Some n → cond b v (f n) ≡ get_or (slice_set s slot v) i val.Null
      other true h ne e =
          let mine = each_at_key (λ i n. slice_get names n ≡ Some i) y.map i n ok.own_slots e in
          let same : n ≡ name = eqb-true n name h in
          let twice : slice_get names n ≡ Some slot = subst (λ n. slice_get names n ≡ Some slot) (sym same) own in
          absurd (ne (cc))
      other false h ne e =
          let ne' : i ≢ slot = λ q. ne (sym q) in
          a i n e ∙ sym (get_or-set_other s slot i v val.Null ne')

      by_slot : (b : Bool) → nat_eq slot i ≡ b → cond b (Some name) (at_key y.map i) ≡ Some n
          → cond (nat_eq n name) v (f n) ≡ get_or (slice_set s slot v) i val.Null
      by_slot true h e =
          let same : slot ≡ i = eqb-true slot i h in
          let named : n ≡ name = cc in
          ap (λ b. cond b v (f n)) (eq-eqb n name named) ∙
          (sym (get_or-set_same s slot v val.Null lt) ∙ ap (λ i. get_or (slice_set s slot v) i val.Null) same)
      by_slot false h e = other (nat_eq n name) refl (eqb-false slot i h) e

  module _ (z : Ssa) where
    -- ---- the states as a block is left, and as one begins

    -- the two runs leave block b for one block, which is fed from there
    record Left (b : ℕ) (exits : Pairs) (s : ℕ × List Value) (t : ℕ × (ℕ → Value)) : Type 0 where
      same : s.0 ≡ t.0
      wide : length s.1 ≡ frame.slots
      agrees : Agrees exits s.1 t.1
      fed : Feeds b exits (slice_get z.blocks t.0)

    abbrev pub AgreesAt : Option SsaBlock → List Value → (ℕ → Value) → Type 0
    AgreesAt None s f = Unit {0}
    AgreesAt (Some y) s f = Agrees y.map s f

    -- the two runs begin one block, and agree by its map
    pub record Meets (s : ℕ × List Value) (t : ℕ × (ℕ → Value)) : Type 0 where
      same : s.0 ≡ t.0
      wide : length s.1 ≡ frame.slots
      agrees : AgreesAt (slice_get z.blocks t.0) s.1 t.1

    -- ---- ends

    module _ (b : ℕ) (exits : Pairs) (s : List Value) (f : ℕ → Value) (wide : length s ≡ frame.slots) (a : Agrees exits s f) where
      abbrev FedBlock : ℕ → Type 0
      FedBlock c = Feeds b exits (slice_get z.blocks c)

      left_for : (c d : ℕ) → c ≡ d → FedBlock c → Left b exits (c, s) (d, f)
      left_for c d e fed = record { same = e; wide = wide; agrees = a; fed = subst FedBlock e fed }

      branch_alike : (r q : Or Value) (c d c' d' : ℕ) → r ≡ q → c ≡ c' → d ≡ d' → FedBlock c → FedBlock d
          → AlikeMoves (Left b exits) (branch frame (in_slots frame) r c d s) (branch frame (in_names frame) q c' d' f)
      branch_alike (Err x) (Err y) c d c' d' e p q fed fed' = e
      branch_alike (Err x) (Ok w) c d c' d' e p q fed fed' = absurd (cc)
      branch_alike (Ok v) (Err y) c d c' d' e p q fed fed' = absurd (cc)
      branch_alike (Ok v) (Ok w) c d c' d' e p q fed fed' =
          let same : v ≡ w = cc in
          taken (is_true v) (is_true w) (ap is_true same)
        where
          taken : (x y : Bool) → x ≡ y → Left b exits (way x c d, s) (way y c' d', f)
          taken true true e = left_for c c' p fed
          taken true false e = absurd (cc)
          taken false true e = absurd (cc)
          taken false false e = left_for d d' q fed'

      end_alike : (e e' : End) → EndRenamed exits e e' → AtTargets FedBlock e
          → AlikeMoves (Left b exits) (end_move frame (in_slots frame) e s) (end_move frame (in_names frame) e' f)
      end_alike (Jump c) (Jump d) r fed = left_for c d r fed
      end_alike (Branch t c d) (Branch u c' d') r fed =
          branch_alike (term_value frame (in_slots frame) t s) (term_value frame (in_names frame) u f) c d c' d' (term_agrees exits s f t u a r.0)
          r.1 r.2 fed.0 fed.1
      end_alike (Return t) (Return u) r fed = term_agrees exits s f t u a r
      end_alike (Fail c) (Fail d) r fed = ap (λ c. Err c) r
      end_alike (Jump c) (Branch u c' d') r fed = absurd r
      end_alike (Jump c) (Return u) r fed = absurd r
      end_alike (Jump c) (Fail d) r fed = absurd r
      end_alike (Branch t c d) (Jump c') r fed = absurd r
      end_alike (Branch t c d) (Return u) r fed = absurd r
      end_alike (Branch t c d) (Fail x) r fed = absurd r
      end_alike (Return t) (Jump c') r fed = absurd r
      end_alike (Return t) (Branch u c' d') r fed = absurd r
      end_alike (Return t) (Fail x) r fed = absurd r
      end_alike (Fail x) (Jump c') r fed = absurd r
      end_alike (Fail x) (Branch u c' d') r fed = absurd r
      end_alike (Fail x) (Return u) r fed = absurd r

    -- ---- blocks

    module _ (b : ℕ) (names : List ℕ) (x : Block) (y : SsaBlock) (below : Each (λ i. i < frame.slots) names) (ok : MapOfSlots names y)
        (s : List Value) (f : ℕ → Value) (wide : length s ≡ frame.slots) (a : Agrees y.map s f) where
      assigned_alike : (slot name : ℕ) (r q : Or Value) → r ≡ q → slice_get names name ≡ Some slot → EndRenamed ((slot, name) ∷ y.map) x.end y.end
          → AtTargets (λ c. Feeds b ((slot, name) ∷ y.map) (slice_get z.blocks c)) x.end
          → AlikeMoves (Left b ((slot, name) ∷ y.map))
          (assigned frame (in_slots frame) slot r x.end s)
          (assigned frame (in_names frame) name q y.end f)
      assigned_alike slot name (Err c) (Err d) e own r fed = e
      assigned_alike slot name (Err c) (Ok w) e own r fed = absurd (cc)
      assigned_alike slot name (Ok v) (Err d) e own r fed = absurd (cc)
      assigned_alike slot name (Ok v) (Ok w) e own r fed =
          let same : v ≡ w = cc in
          let lt : slot < length s = subst (λ n. slot < n) (sym wide) (below name slot own) in
          let f' : ℕ → Value = (in_names frame).write f name w in
          let agrees : Agrees ((slot, name) ∷ y.map)
          (slice_set s slot v) f' = subst (λ w. Agrees ((slot, name) ∷ y.map) (slice_set s slot v)
          ((in_names frame).write f name w)) same (renewed_agrees names y slot name v s f ok lt own a) in
          end_alike b ((slot, name) ∷ y.map) (slice_set s slot v) f' (length-set s slot v ∙ wide) agrees x.end y.end r fed

      move_alike : (p q : Assignment) → AssignmentRenamed names y.map p q → EndRenamed (with_pair (renewal p q) y.map) x.end y.end
          → AtTargets (λ c. Feeds b (with_pair (renewal p q) y.map) (slice_get z.blocks c)) x.end
          → AlikeMoves (Left b (with_pair (renewal p q) y.map))
          (block_move frame (in_slots frame) p x.end s)
          (block_move frame (in_names frame) q y.end f)
      move_alike None None r e fed = end_alike b y.map s f wide a x.end y.end e fed
      move_alike None (Some q) r e fed = absurd r
      move_alike (Some p) None r e fed = absurd r
      move_alike (Some p) (Some q) r e fed =
          assigned_alike p.0 q.0 (term_value frame (in_slots frame) p.1 s) (term_value frame (in_names frame) q.1 f)
          (term_agrees y.map s f p.1 q.1 a r.1) r.0 e fed

    -- ---- edges

    source_agrees : (exits : Pairs) (o : Option ℕ) (q : Option ℕ) (i : ℕ) (s : List Value) (f : ℕ → Value) → at_key exits i ≡ o → Gives o q
        → Agrees exits s f → value_of frame f q ≡ get_or s i val.Null
    source_agrees exits None q i s f e gives a = absurd gives
    source_agrees exits (Some m) q i s f e gives a = ap (value_of frame f) gives ∙ a i m e

    edge_agrees : (b : ℕ) (exits : Pairs) (o : Option SsaBlock) (s : List Value) (f : ℕ → Value) → Feeds b exits o → Agrees exits s f
        → AgreesAt o s (entered frame o b f)
    edge_agrees b exits None s f fed a = tt
    edge_agrees b exits (Some y) s f fed a =
        λ i n e. source_agrees exits (at_key exits i)
        (source y.phis b n) i s f refl (each_at_key (λ i n. Gives (at_key exits i) (source y.phis b n)) y.map i n fed e) a

    entering_alike : (b : ℕ) (exits : Pairs) (x : Move (ℕ × List Value)) (y : Move (ℕ × (ℕ → Value))) → AlikeMoves (Left b exits) x y
        → AlikeMoves Meets x (entering frame z b y)
    entering_alike b exits (ends r) (ends q) alike = alike
    entering_alike b exits (ends r) (moves t) alike = absurd alike
    entering_alike b exits (ends r) stuck alike = absurd alike
    entering_alike b exits (moves s) (ends q) alike = absurd alike
    entering_alike b exits (moves s) (moves t) alike =
        record { same = alike.same; wide = alike.wide; agrees = edge_agrees b exits (slice_get z.blocks t.0) s.1 t.1 alike.fed alike.agrees }
    entering_alike b exits (moves s) stuck alike = absurd alike
    entering_alike b exits stuck (ends q) alike = absurd alike
    entering_alike b exits stuck (moves t) alike = absurd alike
    entering_alike b exits stuck stuck alike = tt

    -- ---- runs

    module _ (named : Named frame.slots frame.params frame.goto z) where
      visit_alike : (b : ℕ) (s : List Value) (f : ℕ → Value) (o : Option Block) (p : Option SsaBlock) → slice_get frame.goto.blocks b ≡ o
          → slice_get z.blocks b ≡ p → length s ≡ frame.slots → AgreesAt p s f
          → AlikeMoves Meets (goto_visit frame o s) (entering frame z b (ssa_visit frame p f))
      visit_alike b s f None None d e wide a = tt
      visit_alike b s f None (Some y) d e wide a =
          absurd (omega (arith, no_element frame.goto.blocks b d, slice_get_within z.blocks b y e, named.as_many_blocks))
      visit_alike b s f (Some x) None d e wide a =
          absurd (omega (arith, no_element z.blocks b e, slice_get_within frame.goto.blocks b x d, named.as_many_blocks))
      visit_alike b s f (Some x) (Some y) d e wide a =
          let renamed = named.blocks b x y d e in
          entering_alike b (exit_map x y) (goto_visit frame (Some x) s) (ssa_visit frame (Some y) f)
          (move_alike b z.names x y named.names.of_slots
          (named.maps b y e) s f wide a x.set y.set renamed.set renamed.end
          (named.edges b x y d e).each)

      visits_alike : (s : ℕ × List Value) (t : ℕ × (ℕ → Value)) → Meets s t
          → AlikeMoves Meets ((goto_machine frame frame.goto).visit s) ((ssa_machine frame z).visit t)
      visits_alike s t meets =
          let here = visit_alike t.0 s.1 t.1 (slice_get frame.goto.blocks t.0) (slice_get z.blocks t.0) refl refl meets.wide meets.agrees in
          let after = entering frame z t.0 (ssa_visit frame (slice_get z.blocks t.0) t.1) in
          subst (λ b. AlikeMoves Meets (goto_visit frame (slice_get frame.goto.blocks b) s.1) after) (sym meets.same) here

      machines_alike : AlikeMachines Meets (goto_machine frame frame.goto) (ssa_machine frame z)
      machines_alike = record {
        heads = λ s t meets. ap (λ b. is_head (slice_get frame.goto.blocks b)) meets.same;
        visits = visits_alike;
      }

      -- ---- the start

      enough_slots : (n : ℕ) → frame.params ≡ n → frame.params ≤ frame.slots
      enough_slots zero e = omega arith
      enough_slots (suc n) e = let lt = named.names.of_slots n n (named.names.parameters n (omega arith)) in omega arith

      module _ (args : List Value) (typed : length args ≡ frame.params) where
        starts_wide : length (first_slots frame args) ≡ frame.slots
        starts_wide =
            let le = enough_slots frame.params refl in
            omega (
              arith,
              length-append args (replicate (frame.slots - frame.params) val.Null),
              length-replicate (frame.slots - frame.params) val.Null,
            )

        starts_agreed : (o : Option SsaBlock) → EntryHas (MapOfParameters frame.params) o
            → AgreesAt o (first_slots frame args) (first_values frame args)
        starts_agreed None e = absurd e
        starts_agreed (Some y) e = λ i n at.
            let p = each_at_key (λ i n. (i ≡ n) × (n < frame.params)) y.map i n e.parameters at in
            let lt : n < length args = omega (arith, p.1, typed) in
            let rest = replicate (frame.slots - frame.params) val.Null in
            sym (ap (λ i. get_or (first_slots frame args) i val.Null) p.0 ∙ get_or_append_left args rest val.Null n lt)

        pub in_lockstep : (k : ℕ) → goto_runs frame frame.goto args k ≡ ssa_runs frame z args k
        in_lockstep k =
            runs_alike Meets (goto_machine frame frame.goto) (ssa_machine frame z) machines_alike k (frame.goto.entry, first_slots frame args)
            (frame.goto.entry, first_values frame args) 0
            (record { same = refl; wide = starts_wide; agrees = starts_agreed (slice_get z.blocks frame.goto.entry) named.entry })
