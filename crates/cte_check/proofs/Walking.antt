-- What is read of a body, by what is read of its parts.
use Rattle.std.proofs.Common.{◌≡◌, ℕ, zero, suc, ◌+◌, ◌-◌, ◌<◌, ◌≤◌, List, [], ◌∷◌, map, length, slice_get, get_or, Option, Some, None, Result, Ok, Err, IfOk, is_some, false, refl, sym, ap, ◌∙◌, subst, arith}
use Rattle.away_trees.specs.declared.queries.Col.{Col}
use Rattle.away_trees.specs.declared.queries.Expr.{Expr}
use Rattle.away_values.specs.declared.types.Ty.{Ty}
use Rattle.away_values.specs.declared.types.Ty.TheVariants as ty
use Rattle.away_values.specs.declared.values.Class.{Class}
use Rattle.block_forms.specs.declared.forms.Term.{Term}
use Rattle.call_forms.specs.declared.forms.AnfBlock.{AnfBlock}
use Rattle.call_forms.specs.declared.forms.Call.{Call}
use Rattle.call_forms.specs.declared.forms.CallEnd.{CallEnd}
use Rattle.call_forms.specs.Bodies.{Body, sets, enters, picks, returns, fails, calls, goes_to, goes, end_body, sets_first, block_body, tree, body_of}
use Rattle.call_forms.specs.Forms.{params_of, label_of}
use Rattle.call_forms.specs.Scopes.{paired}
use Rattle.call_forms.specs.Template.{Parts, parts, gated, either, refers, here, outside, no_column, of_row}
use Rattle.call_forms.specs.Templated.{HasTree, HasReferences, PassesKnown}
use Rattle.tree_events.specs.declared.events.Kind.TheVariants as kind
use Rattle.tree_events.specs.declared.events.TreeEvent.TheVariants as event
use Rattle.tree_events.specs.Events.{Events}
use Rattle.sql_meaning.specs.Template.{below}
use Rattle.sql_meaning.specs.Trees.{col}
use Rattle.cte_reads.specs.declared.parts.Gate.{Gate}
use Rattle.cte_reads.specs.declared.parts.Gate.TheVariants as gate
use Rattle.cte_reads.specs.declared.scope.Ref.{Ref}
use Rattle.cte_reads.specs.declared.scope.Scope as names
use Rattle.cte_reads.specs.Entries.{let_at}
use Rattle.cte_reads.specs.Puts.{condition, exprs_put, from_put, select_put, open_put, no_filter_put, lateral_put, lateral_end_put}
use Rattle.cte_reads.specs.Read.{Reads, ReadsWhere}
use Rattle.cte_reads.specs.References.{lookup, refs_of, names_of, with_set, found_behind, founds, col_at, ref_or}
use Rattle.cte_reads.specs.Rows.{call_list, cells_at, value_list, fault_list}
use Rattle.cte_reads.proofs.KnownNames.{founds_known, founds_unknown}
use Rattle.cte_reads.proofs.TreeEvents.{gated_events, lateral_events}
use Rattle.cte_reads.proofs.OneByOne.{then_reads, as_reads, no_place}
use Rattle.cte_reads.proofs.OneByOneWhere.{then_where, reads_then_where, where_then_reads, where_holds, nowhere, no_place_where, as_where}
use Rattle.cte_check.specs.Labels.{label_refs}
use Rattle.cte_check.specs.Walks.{GivenOf, Sound, Fresh, BodyRead, WalkRead, StepRead, ArmRead, BranchRead, anf_of, types_in, further_blocks, parts_put, inner_walk, arm_select, entered_body, called_body}
use Rattle.cte_check.specs.declared.body.Given as code
use Rattle.cte_check.specs.declared.body.Walk as walk
use Rattle.cte_check.specs.declared.body.Step as walks
use Rattle.cte_check.specs.declared.body.Step.TheVariants as step
use Rattle.cte_check.proofs.Standing.{item_ref, assigned, passed, passed_cells, row_columns, seen_outside}

-- a body behind its gate
gated_at : (by : Gate) (p : Parts) (rest : Events) → open_put by (parts_put p (no_filter_put rest)) ≡ select_put (gated (condition by) p) rest
gated_at by p rest = gated_events by p.items p.list rest

plus_one : (n : ℕ) → n + 1 ≡ suc n
plus_one n = omega arith

-- the walk behind an assignment's item
abbrev pub assigned_walk : walk.Walk → ℕ → Option ℕ → walk.Walk
assigned_walk w n at =
    record w { at = at; items = w.items + 1; scope = record { set = Some (n, item_ref w.depth w.items); names = w.scope.names; refs = w.scope.refs } }

-- a walk that is on its way: what ends it from here ends it from its start
pub record WalksOn (g : code.Given) (start w : walk.Walk) : Type 0 where
  pub sound : Sound g w
  pub fresh : Fresh w
  pub fewer : w.fuel ≤ start.fuel
  pub read : (table : List Expr) → GivenOf table g → (to : Option ℕ) → WalkRead table g w to → WalkRead table g start to

module _ (table : List Expr) (g : code.Given) where
  -- the items and the list at a walk's place, whatever is seen from there
  abbrev at_place : ℕ → (ℕ → Col) → ℕ → Body → Parts
  at_place depth refs m x = parts table (types_in g) g.tail.now.columns g.result depth refs m x

  -- ---- an assignment

  assigned_refs : (w : walk.Walk) (n : ℕ) (at : Option ℕ) → Fresh w → (k : ℕ)
      → refs_of w.depth (assigned_walk w n at).scope k ≡ refers n (here w.items 0) (refs_of w.depth w.scope) k
  assigned_refs w n at fresh k =
      let found : Option Ref = lookup w.scope.names.now w.scope.refs k in
      assigned w.depth w.items n k found
      ∙ ap (λ set. refers n (here w.items 0) (λ k. col_at w.depth (ref_or (found_behind set found k))) k) (sym fresh)

  pub after_assigning : (w : walk.Walk) (n : ℕ) (t : Term) (type : Ty) (at : Option ℕ) → Fresh w → type ≡ types_in g n
      → ReadsWhere (HasReferences table (names_of w.scope) t) (from_put (let_at table w.depth (refs_of w.depth w.scope) type t)) g.events.now w.at at
      → (x : Body) (to : Option ℕ) → BodyRead table g (assigned_walk w n at) x to → BodyRead table g w (sets n t x) to
  after_assigning w n t type at fresh typed item x to rest =
      let names : w.scope.names.now ≡ names_of w.scope = sym (ap (λ s. with_set s w.scope.names.now) fresh) in
      as_where
      (λ h. (h.0, subst (λ l. HasTree table (n ∷ l) x) names h.1), λ h. (h.0, subst (λ l. HasTree table (n ∷ l) x) (sym names) h.1))
      (λ h r i. from_put (let_at table w.depth (refs_of w.depth w.scope) (typed i) t)
      (parts_put (at_place w.depth (λ k. assigned_refs w n at fresh k i) (plus_one w.items i) x) r))
      (then_where item rest)

  -- ---- calls

  entered_refs : (w : walk.Walk) (scope : names.Scope) (args : List ℕ) → scope.set ≡ None → founds w.scope args ≡ Some scope.refs → (k : ℕ)
      → refs_of w.depth scope k ≡ paired (refs_of w.depth w.scope) (no_column w.depth) scope.names.now args k
  entered_refs w scope args fresh found k =
      ap (λ set. col_at w.depth (ref_or (found_behind set (lookup scope.names.now scope.refs k) k))) fresh
      ∙ passed w.scope w.depth scope.names.now args scope.refs k found

  pub after_entering : (w : walk.Walk) (block : ℕ) (scope : names.Scope) (args : List ℕ) → scope.set ≡ None → founds w.scope args ≡ Some scope.refs
      → length args ≡ length scope.names.now
      → (x : Body) (to : Option ℕ) → BodyRead table g (record w { block = block; scope = scope }) x to → BodyRead table g w (enters scope.names.now args x) to
  after_entering w block scope args fresh found as_many x to rest =
      let own : names_of scope ≡ scope.names.now = ap (λ s. with_set s scope.names.now) fresh in
      let passes : PassesKnown (names_of w.scope) scope.names.now args = record { known = founds_known w.scope args scope.refs found; as_many = as_many } in
      as_where
      (λ h. (passes, subst (λ l. HasTree table l x) own h), λ h. subst (λ l. HasTree table l x) (sym own) h.1)
      (λ h r i. parts_put (at_place w.depth (λ k. entered_refs w scope args fresh found k i) w.items x) r)
      rest

  pub not_entered : (w : walk.Walk) (params args : List ℕ) (x : Body) → (length args ≡ length params → ⊥) → BodyRead table g w (enters params args x) None
  not_entered w params args x other = nowhere (λ h. other h.0.as_many)

  pub not_called : (w : walk.Walk) (label : ℕ) (places args : List ℕ) → (length args ≡ length places → ⊥) → BodyRead table g w (calls label places args) None
  not_called w label places args other = nowhere (λ h. other h.as_many)

  pub nothing_found : (w : walk.Walk) (next : ℕ → Body) (call : Call) → length w.scope.refs ≡ length w.scope.names.now → founds w.scope call.args ≡ None
      → BodyRead table g w (goes (anf_of g) g.tail.now next call) None
  nothing_found w next call as_many none = by (label_of g.tail.now call.target)
    where
      by : (label : Option ℕ) → BodyRead table g w (goes_to (anf_of g) g.tail.now next call label) None
      by None = nowhere (λ h. founds_unknown w.scope call.args as_many none h.0.known)
      by (Some label) = nowhere (λ h. founds_unknown w.scope call.args as_many none h.known)

  pub entering : (w : walk.Walk) (call : Call) (s : walks.Step) → label_of g.tail.now call.target ≡ None → StepRead table g w (entered_body g w call) s
      → StepRead table g w (goes (anf_of g) g.tail.now (further_blocks g w) call) s
  entering w call s none read = subst (λ l. StepRead table g w (goes_to (anf_of g) g.tail.now (further_blocks g w) call l) s) (sym none) read

  pub calling : (w : walk.Walk) (call : Call) (label : ℕ) (to : Option ℕ) → label_of g.tail.now call.target ≡ Some label → BodyRead table g w (called_body g label call) to
      → BodyRead table g w (goes (anf_of g) g.tail.now (further_blocks g w) call) to
  calling w call label to some read = subst (λ l. BodyRead table g w (goes_to (anf_of g) g.tail.now (further_blocks g w) call l) to) (sym some) read

  pub after_calling : (w : walk.Walk) (label : ℕ) (places args : List ℕ) (refs : List Ref) (j k to : Option ℕ) → founds w.scope args ≡ Some refs
      → length args ≡ length places
      → Reads (λ rest. event.Close ∷ event.Open kind.List ∷ rest) g.events.now w.at j
      → Reads (exprs_put (call_list label (cells_at w.depth 0 places refs g.tail.now.columns) g.result)) g.events.now j k
      → Reads (λ rest. event.Close ∷ rest) g.events.now k to
      → BodyRead table g w (calls label places args) to
  after_calling w label places args refs j k to found as_many list row close =
      where_holds (record { known = founds_known w.scope args refs found; as_many = as_many })
      (as_reads
      (λ r i. event.Close ∷ event.Open kind.List ∷ exprs_put (call_list label (passed_cells w.scope w.depth 0 places args refs g.tail.now.columns found i) g.result) (event.Close ∷ r))
      (then_reads list (then_reads row close)))

  -- ---- ends

  pub after_returning : (w : walk.Walk) (t : Term) (i j k to : Option ℕ)
      → ReadsWhere (HasReferences table (names_of w.scope) t) (from_put (let_at table w.depth (refs_of w.depth w.scope) g.result t)) g.events.now w.at i
      → Reads (λ rest. event.Close ∷ event.Open kind.List ∷ rest) g.events.now i j
      → Reads (exprs_put (value_list g.tail.now.columns w.items)) g.events.now j k
      → Reads (λ rest. event.Close ∷ rest) g.events.now k to
      → BodyRead table g w (returns t) to
  after_returning w t i j k to item list row close = where_then_reads item (then_reads list (then_reads row close))

  pub after_failing : (w : walk.Walk) (class : Class) (j k to : Option ℕ)
      → Reads (λ rest. event.Close ∷ event.Open kind.List ∷ rest) g.events.now w.at j
      → Reads (exprs_put (fault_list g.tail.now.columns g.result class)) g.events.now j k
      → Reads (λ rest. event.Close ∷ rest) g.events.now k to
      → BodyRead table g w (fails class) to
  after_failing w class j k to list row close = where_holds tt (then_reads list (then_reads row close))

  -- ---- a test

  pub after_arm : (w : walk.Walk) (by : Gate) (x : Body) (from start at to : Option ℕ) → Sound g w
      → Reads (open_put by) g.events.now from start → BodyRead table g (inner_walk w start) x at → Reads no_filter_put g.events.now at to
      → ArmRead table g w by x from to
  after_arm w by x from start at to sound begun body end =
      let refs : (k : ℕ) → refs_of (w.depth + 1) w.scope k ≡ outside (refs_of w.depth w.scope) k = seen_outside w.depth w.scope sound.in_sight in
      as_where (λ h. h, λ h. h)
      (λ h r.
      (λ i. open_put by (parts_put (at_place (plus_one w.depth i) (λ k. refs k i) 1 x) (no_filter_put r)))
      ∙ gated_at by (at_place (suc w.depth) (outside (refs_of w.depth w.scope)) 1 x) r)
      (reads_then_where begun (where_then_reads body end))

  pub after_picking : (w : walk.Walk) (t : Term) (x y : Body) (i j k l m n o to : Option ℕ)
      → ReadsWhere (HasReferences table (names_of w.scope) t) (from_put (let_at table w.depth (refs_of w.depth w.scope) ty.Boolean t)) g.events.now w.at i
      → Reads lateral_put g.events.now i j
      → ArmRead table g w (gate.Yes w.items) x j k
      → ArmRead table g w (gate.No w.items) y k l
      → Reads lateral_end_put g.events.now l m
      → Reads (λ rest. event.Close ∷ event.Open kind.List ∷ rest) g.events.now m n
      → Reads (exprs_put (map (col 0 (w.items + 1)) (below (length g.tail.now.columns + 4)))) g.events.now n o
      → Reads (λ rest. event.Close ∷ rest) g.events.now o to
      → BodyRead table g w (picks t x y) to
  after_picking w t x y i j k l m n o to item begun one other behind list row close =
      let width : length g.tail.now.columns + 4 ≡ suc (suc (suc (suc (length g.tail.now.columns)))) = omega arith in
      let first = arm_select table g w (gate.Yes w.items) x in
      let second = arm_select table g w (gate.No w.items) y in
      as_where (λ h. (h.0, h.1.0, h.1.1), λ h. (h.0, (h.1, h.2)))
      (λ h r.
      let test = let_at table w.depth (refs_of w.depth w.scope) ty.Boolean t in
      ap (from_put test) (lateral_events (first ∷ second ∷ []) (event.Close ∷ event.Open kind.List ∷ exprs_put (map (col 0 (w.items + 1)) (below (length g.tail.now.columns + 4))) (event.Close ∷ r)))
      ∙ (λ i. from_put test (from_put (either first second) (event.Close ∷ event.Open kind.List ∷ exprs_put (map (col 0 (plus_one w.items i)) (below (width i))) (event.Close ∷ r)))))
      (then_where item (reads_then_where begun (then_where one (where_then_reads other (then_reads behind (then_reads list (then_reads row close)))))))

  -- nothing is read behind a test that isn't there
  pub no_test : (w : walk.Walk) (t : Term) (x y : Body) (at : Option ℕ) → at ≡ None
      → ReadsWhere (HasReferences table (names_of w.scope) t) (from_put (let_at table w.depth (refs_of w.depth w.scope) ty.Boolean t)) g.events.now w.at at
      → BodyRead table g w (picks t x y) None
  no_test w t x y at none item =
      let nothing = subst (λ at. ReadsWhere (HasReferences table (names_of w.scope) t) (from_put (let_at table w.depth (refs_of w.depth w.scope) ty.Boolean t)) g.events.now w.at at) none item in
      after_picking w t x y None None None None None None None None nothing
      (no_place refl) (no_place_where refl) (no_place_where refl) (no_place refl) (no_place refl) (no_place refl) (no_place refl)

  -- ---- arms

  pub arm_ends : (w next : walk.Walk) (call : Call) (start at : Option ℕ) (s : walks.Step) → next ≡ inner_walk w start → s ≡ step.Ends at
      → StepRead table g next (goes (anf_of g) g.tail.now (further_blocks g next) call) s
      → BodyRead table g (inner_walk w start) (goes (anf_of g) g.tail.now (further_blocks g w) call) at
  arm_ends w next call start at s is ends read =
      subst (λ next. BodyRead table g next (goes (anf_of g) g.tail.now (further_blocks g next) call) at) is
      (subst (λ s. StepRead table g next (goes (anf_of g) g.tail.now (further_blocks g next) call) s) ends read)

  pub arm_goes : (w next further : walk.Walk) (call : Call) (start at : Option ℕ) (s : walks.Step) → next ≡ inner_walk w start → s ≡ step.Goes further
      → StepRead table g next (goes (anf_of g) g.tail.now (further_blocks g next) call) s → WalkRead table g further at
      → BodyRead table g (inner_walk w start) (goes (anf_of g) g.tail.now (further_blocks g w) call) at
  arm_goes w next further call start at s is goes_on read rest =
      subst (λ next. BodyRead table g next (goes (anf_of g) g.tail.now (further_blocks g next) call) at) is
      (subst (λ s. StepRead table g next (goes (anf_of g) g.tail.now (further_blocks g next) call) s) goes_on read at rest)

  -- ---- blocks

  -- what stands behind an item
  pub step_behind : (w next : walk.Walk) (x y : Body) → ((to : Option ℕ) → BodyRead table g next x to → BodyRead table g w y to) → (s : walks.Step)
      → StepRead table g next x s → StepRead table g w y s
  step_behind w next x y behind (step.Ends to) read = behind to read
  step_behind w next x y behind (step.Goes further) read = λ to rest. behind to (read to rest)

  pub behind_assignment : (w next : walk.Walk) (x : AnfBlock) (set : ℕ × Term) (s : walks.Step) → x.set ≡ Some set → next.fuel ≡ w.fuel
      → ((y : Body) (to : Option ℕ) → BodyRead table g next y to → BodyRead table g w (sets set.0 set.1 y) to)
      → StepRead table g next (end_body (anf_of g) g.tail.now (further_blocks g next) x.end) s
      → StepRead table g w (sets_first (anf_of g) g.tail.now x.set (end_body (anf_of g) g.tail.now (further_blocks g w) x.end)) s
  behind_assignment w next x set s is same assigned read =
      let rest = end_body (anf_of g) g.tail.now (further_blocks g w) x.end in
      subst (λ set. StepRead table g w (sets_first (anf_of g) g.tail.now set rest) s) (sym is)
      (step_behind w next rest (sets set.0 set.1 rest) (λ to. assigned rest to) s
      (subst (λ n. StepRead table g next (end_body (anf_of g) g.tail.now (tree (anf_of g) g.tail.now n) x.end) s) same read))

  pub ends_so : (w : walk.Walk) (e end : CallEnd) (s : walks.Step) → e ≡ end → StepRead table g w (end_body (anf_of g) g.tail.now (further_blocks g w) end) s
      → StepRead table g w (end_body (anf_of g) g.tail.now (further_blocks g w) e) s
  ends_so w e end s is read = subst (λ e. StepRead table g w (end_body (anf_of g) g.tail.now (further_blocks g w) e) s) (sym is) read

  pub endless_walk : (w : walk.Walk) → w.fuel ≡ 0 → WalkRead table g w None
  endless_walk w none = subst (λ n. BodyRead table g w (tree (anf_of g) g.tail.now n w.block) None) (sym none) (nowhere (λ h. h))

  pub no_block : (w : walk.Walk) → slice_get g.blocks.now w.block ≡ None → WalkRead table g w None
  no_block w none = by w.fuel
    where
      by : (n : ℕ) → BodyRead table g w (tree (anf_of g) g.tail.now n w.block) None
      by zero = nowhere (λ h. h)
      by (suc n) = subst (λ x. BodyRead table g w (block_body (anf_of g) g.tail.now (tree (anf_of g) g.tail.now n) x) None) (sym none) (nowhere (λ h. h))

  pub no_place_left : (w : walk.Walk) → w.at ≡ None → WalkRead table g w None
  no_place_left w none = no_place_where none

  pub through_block : (w : walk.Walk) (n : ℕ) (x : AnfBlock) (to : Option ℕ) → w.fuel ≡ suc n → slice_get g.blocks.now w.block ≡ Some x
      → BodyRead table g w (block_body (anf_of g) g.tail.now (tree (anf_of g) g.tail.now n) (Some x)) to → WalkRead table g w to
  through_block w n x to more there read =
      subst (λ n. BodyRead table g w (tree (anf_of g) g.tail.now n w.block) to) (sym more)
      (subst (λ x. BodyRead table g w (block_body (anf_of g) g.tail.now (tree (anf_of g) g.tail.now n) x) to) (sym there) read)

  pub through_step : (w next : walk.Walk) (x : AnfBlock) (s : walks.Step) → (w.fuel ≡ 0 → ⊥) → next ≡ record w { fuel = w.fuel - 1 }
      → slice_get g.blocks.now w.block ≡ Some x → StepRead table g next (block_body (anf_of g) g.tail.now (further_blocks g next) (Some x)) s
      → StepRead table g w (further_blocks g w w.block) s
  through_step w next x s some is there read =
      let left : w.fuel ≡ suc (w.fuel - 1) = omega (arith, some) in
      let here = block_body (anf_of g) g.tail.now (tree (anf_of g) g.tail.now (w.fuel - 1)) (Some x) in
      let inside : walk.Walk = record w { fuel = w.fuel - 1 } in
      step_behind w inside here (further_blocks g w w.block) (λ to. through_block w (w.fuel - 1) x to left there) s
      (subst (λ next. StepRead table g next (block_body (anf_of g) g.tail.now (further_blocks g next) (Some x)) s) is read)

  -- ---- the branch of a label

  pub after_branch : (label block : ℕ) (w : walk.Walk) (places : List ℕ) (from to end : Option ℕ) → w.scope.set ≡ None
      → w.scope.refs ≡ label_refs w.scope.names.now places
      → w.scope.names.now ≡ params_of (slice_get g.blocks.now block) → places ≡ get_or g.tail.now.places label []
      → w.items ≡ 1 → w.depth ≡ 0 → w.fuel ≡ length g.blocks.now → w.block ≡ block
      → Reads (open_put (gate.Label label)) g.events.now from w.at → WalkRead table g w end → Reads no_filter_put g.events.now end to
      → BranchRead table g label block from to
  after_branch label block w places from to end fresh refs params stand items depth fuel of begun read close =
      let own : names_of w.scope ≡ params_of (slice_get g.blocks.now block) = ap (λ s. with_set s w.scope.names.now) fresh ∙ params in
      let whole : further_blocks g w w.block ≡ body_of (anf_of g) g.tail.now block = λ i. tree (anf_of g) g.tail.now (fuel i) (of i) in
      let columns : (k : ℕ) → refs_of w.depth w.scope k ≡ paired of_row (no_column 0) (params_of (slice_get g.blocks.now block)) (get_or g.tail.now.places label []) k =
      λ k. (λ i. col_at (depth i) (ref_or (found_behind (fresh i) (lookup w.scope.names.now (refs i) k) k)))
      ∙ row_columns w.scope.names.now places k ∙ (λ i. paired of_row (no_column 0) (params i) (stand i) k) in
      as_where
      (λ h. subst (λ x. x) (λ i. HasTree table (own i) (whole i)) h, λ h. subst (λ x. x) (sym (λ i. HasTree table (own i) (whole i))) h)
      (λ h r.
      (λ i. open_put (gate.Label label) (parts_put (at_place (depth i) (λ k. columns k i) (items i) (whole i)) (no_filter_put r)))
      ∙ gated_at (gate.Label label) (at_place 0 (paired of_row (no_column 0) (params_of (slice_get g.blocks.now block)) (get_or g.tail.now.places label [])) 1 (body_of (anf_of g) g.tail.now block)) r)
      (reads_then_where begun (where_then_reads read close))

-- ---- places and answers

pub there_is : {X : Type 0} (xs : List X) (i : ℕ) (other : X) → i < length xs → slice_get xs i ≡ Some (get_or xs i other)
there_is [] i other lt = absurd (omega arith)
there_is (x ∷ xs) zero other lt = refl
there_is (x ∷ xs) (suc i) other lt = there_is xs i other (omega arith)

pub none_past : {X : Type 0} (xs : List X) (i : ℕ) → length xs ≤ i → slice_get xs i ≡ None
none_past [] i le = refl
none_past (x ∷ xs) zero le = absurd (omega arith)
none_past (x ∷ xs) (suc i) le = none_past xs i (omega arith)

pub not_some : {X : Type 0} (x : Option X) → is_some x ≡ false → x ≡ None
not_some None e = refl
not_some (Some x) e = absurd (cc)

pub when_ok : {X E : Type 0} (P Q : X → Type 0) (r : Result X E) → ((x : X) → P x → Q x) → IfOk r P → IfOk r Q
when_ok P Q (Ok x) further h = further x h
when_ok P Q (Err e) further h = tt
