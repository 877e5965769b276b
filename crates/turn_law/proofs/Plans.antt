-- Plans of bodies: behind a guard that is true a plan comes to the row of the visit or to its fault, and behind another it comes to a longer row.
use Rattle.std.proofs.Common.{◌≡◌, refl, ap, sym, ◌∙◌, ℕ, suc, ◌+◌, Bool, true, false, not, ◌&&◌, if◌then◌else◌, cond, nat_eq, nat_lt, List, [], ◌∷◌, length, slice_index_or, Option, Some, None, Ok, Err, arith}
use Rattle.away_trees.specs.declared.queries.Expr.{Expr}
use Rattle.away_values.specs.declared.types.Ty.{Ty}
use Rattle.away_values.specs.declared.types.Ty.TheVariants as ty
use Rattle.away_values.specs.declared.values.Value.{Value}
use Rattle.away_values.specs.declared.values.Value.TheVariants as val
use Rattle.away_values.specs.Operators.{is_true}
use Rattle.away_values.specs.Results.{Or}
use Rattle.sql_meaning.specs.Context.{Rows}
use Rattle.block_forms.specs.declared.forms.Term.{Term}
use Rattle.call_forms.specs.Bodies.{Body, sets, enters, picks, returns, fails, calls, endless}
use Rattle.call_forms.specs.Scopes.{Scope, paired}
use Rattle.call_forms.specs.Template.{is_not_true}
use Rattle.cte_law.proofs.ScopesAlike.{paired_relates}
use Rattle.cte_law.proofs.Visits.{with_term, chosen, renewed, walked}
use Rattle.cte_law.proofs.Worlds.{World, value_in, OverTables}
use Rattle.turn_template.specs.TurnTemplate as turns
use Rattle.turn_template.specs.TurnTemplate.{Ref, no_ref, names, both, Plan, Settled, settled, behind, plan, width, cells_alone, Style, unless, is_passed, passed, in_order, may_wait, waiting}
use Rattle.turn_law.proofs.Choices.{choices_long}
use Rattle.turn_law.proofs.RowCells.{work, row_of}
use Rattle.turn_law.proofs.EndCells.{waiting_long}
use Rattle.turn_law.proofs.Waits.{none_waits}
use Rattle.turn_law.proofs.Waiting.{wait_is}
use Rattle.turn_law.proofs.Terms.{Longer, as_long, longer_still, Holds, Hold, hold_on, holds_still, none_holds, IsTotal}
use Rattle.turn_law.proofs.Settled.{and_value, and_true, Guards, guards_still, ref_guards, both_guard, not_guards, Settles, settles, settle_faults, settle_idles, settle_single}
use Rattle.turn_law.proofs.PlannedRows.{On, Off, behind_on, behind_fault, behind_off, chosen_first, chosen_second, chosen_off, reaches}

module _ (w : World) (ok : OverTables w) (T : List Rows)
    (sees : (k : ℕ) → nat_lt k (length w.tables) ≡ true → slice_index_or T k [] ≡ slice_index_or w.tables k [])
    (total : Term → Bool) (totals : (u : Term) → total u ≡ true → IsTotal w u) (style : Style) (alike : (x y : Expr) → style.same x y ≡ true → x ≡ y) where
  abbrev pub made : ℕ → Expr → Scope Ref → Body → Plan
  made m g refs x = plan w.table w.types w.tail.columns w.result total style m g refs x

  abbrev pub wide : ℕ
  wide = width w.table w.types w.tail.columns w.result total style

  abbrev cells : Scope Ref → Body → List Expr
  cells refs x = waiting w.table w.types w.tail.columns w.result total style refs x

  abbrev may : List ℕ → Body → Bool
  may waits x = may_wait w.table w.types w.tail.columns w.result total style waits x

  abbrev set_of : ℕ → Expr → Scope Ref → Ty → Term → Settled
  set_of m g refs ty u = settled w.table w.types w.tail.columns w.result total style m g refs ty u

  -- ---- as many cells as columns

  unless_long : (b : Bool) (n : ℕ) (es : List Expr) (p : Plan) → length es ≡ n → length p.cells ≡ n → length (unless b es p).cells ≡ n
  unless_long true n es p h k = h
  unless_long false n es p h k = k

  pub cells_long : (x : Body) (m : ℕ) (g : Expr) (refs : Scope Ref) → length (made m g refs x).cells ≡ wide
  cells_long (sets n t x) m g refs =
      let s : Settled = set_of m g refs (w.types n) t in
      unless_long (may [] (sets n t x)) wide (cells refs (sets n t x)) (behind s (made (length s.steps + m) g (names n s.ref refs) x))
      (waiting_long w ok T sees total totals style alike (sets n t x) refs) (cells_long x (length s.steps + m) g (names n s.ref refs))
  cells_long (enters params args x) m g refs = cells_long x m g (paired refs no_ref params args)
  cells_long (picks t x y) m g refs =
      let s : Settled = set_of m g refs ty.Boolean t in
      let p : Plan = made (length s.steps + m) (both g (s.ref 0)) refs x in
      let q : Plan = made (length p.steps + (length s.steps + m)) (both g (is_not_true (s.ref 0))) refs y in
      unless_long (may [] (picks t x y)) wide (cells refs (picks t x y)) (behind s (turns.chosen style.same (s.ref 0) p q))
      (waiting_long w ok T sees total totals style alike (picks t x y) refs)
      (choices_long style.same alike (s.ref 0) wide p.cells q.cells (cells_long x (length s.steps + m) (both g (s.ref 0)) refs)
      (cells_long y (length p.steps + (length s.steps + m)) (both g (is_not_true (s.ref 0))) refs))
  cells_long (returns t) m g refs = waiting_long w ok T sees total totals style alike (returns t) refs
  cells_long (fails c) m g refs = waiting_long w ok T sees total totals style alike (fails c) refs
  cells_long (calls label places args) m g refs = waiting_long w ok T sees total totals style alike (calls label places args) refs
  cells_long endless m g refs = waiting_long w ok T sees total totals style alike endless refs

  -- ---- names

  by_name : (b : Bool) (x : Ref) (y : Ref) (r : List Value) (v z : Value) → Holds T x r v → Holds T y r z → Holds T (cond b x y) r (if b then v else z)
  by_name true x y r v z h k = h
  by_name false x y r v z h k = k

  names_hold : (n : ℕ) (x : Ref) (refs : Scope Ref) (r : List Value) (v : Value) (s : Scope Value) → Holds T x r v → Hold T refs r s
      → Hold T (names n x refs) r (renewed n v s)
  names_hold n x refs r v s h k m = by_name (nat_eq m n) x (refs m) r v (s m) h (k m)

  longer_hold : (refs : Scope Ref) (r y : List Value) (s : Scope Value) → Longer r y → Hold T refs r s → Hold T refs y s
  longer_hold refs r y s l h n = holds_still T (refs n) r y (s n) l (h n)

  paired_hold : (refs : Scope Ref) (r : List Value) (s : Scope Value) (params args : List ℕ) → Hold T refs r s
      → Hold T (paired refs no_ref params args) r (paired s val.Null params args)
  paired_hold refs r s params args h n = paired_relates (λ x v. Holds T x r v) refs s no_ref val.Null h (none_holds T r) params args n

  -- ---- cells alone

  alone_off : (x : Body) → may [] x ≡ true → (r : List Value) (refs : Scope Ref) (s : Scope Value) → Hold T refs r s → Off T (cells_alone (cells refs x)) r
  alone_off x m r refs s hold = record {
    row = r;
    longer = as_long r;
    long = omega arith;
    steps = refl;
    single_steps = refl;
    single_cells = (wait_is w ok T sees total totals style alike 0 [] r x [] m refs s (λ n. Ok (s n)) (none_waits T r refs s hold)).single;
  }

  none_passed : (c : Option ℕ) → is_passed [] c ≡ false
  none_passed None = refl
  none_passed (Some n) = refl

  may_call : (places args : List ℕ) (i : ℕ) (ts : List Ty) → in_order w.table w.types w.tail.columns w.result total style [] [] i places args ts ≡ true
  may_call places args i [] = refl
  may_call places args i (t ∷ ts) =
      ap (λ b. if b then false else in_order w.table w.types w.tail.columns w.result total style [] [] (suc i) places args ts)
      (none_passed (passed places args i))
      ∙ may_call places args (suc i) ts

  unless_off : (x : Body) (p : Plan) (r : List Value) (refs : Scope Ref) (s : Scope Value) → Hold T refs r s → (b : Bool) → may [] x ≡ b
      → Off T p r → Off T (unless b (cells refs x) p) r
  unless_off x p r refs s hold true m h = alone_off x m r refs s hold
  unless_off x p r refs s hold false m h = h

  -- ---- bodies behind a guard that isn't true

  abbrev pub IsOff : Body → Type 0
  IsOff x =
      (m : ℕ) (r : List Value) → length r ≡ m → (g : Expr) (u : Value) → Guards T g r u → is_true u ≡ false → (refs : Scope Ref) (s : Scope Value)
      → Hold T refs r s → Off T (made m g refs x) r

  long_still : (a m : ℕ) (r y : List Value) → length r ≡ m → length y ≡ a + length r → length y ≡ a + m
  long_still a m r y h k = omega (arith, h, k)

  and_false : (u v : Value) → is_true u ≡ false → is_true (and_value u v) ≡ false
  and_false u v h = and_true u v ∙ ap (λ b. b && is_true v) h

  and_on : (u v : Value) → is_true u ≡ true → is_true (and_value u v) ≡ is_true v
  and_on u v h = and_true u v ∙ ap (λ b. b && is_true v) h

  off_sets : (n : ℕ) (t : Term) (x : Body) → IsOff x → IsOff (sets n t x)
  off_sets n t x off m r long g u guards shut refs s hold =
      let idle = settle_idles w ok T sees total totals style alike r refs s (w.types n) t (hold_on T refs r s t.names hold) m long g u guards shut in
      let set : Settled = set_of m g refs (w.types n) t in
      let is = idle.1 in
      unless_off (sets n t x) (behind set (made (length set.steps + m) g (names n set.ref refs) x)) r refs s hold (may [] (sets n t x)) refl
      (behind_off T r set idle.0 is
      (settle_single w ok T sees total totals style alike r refs s (w.types n) t (hold_on T refs r s t.names hold) m long g u guards)
      (made (length set.steps + m) g (names n set.ref refs) x)
      (off (length set.steps + m) is.row (long_still (length set.steps) m r is.row long is.long) g u (guards_still T g r is.row u is.longer guards) shut
      (names n set.ref refs) (renewed n idle.0 s)
      (names_hold n set.ref refs is.row idle.0 s is.holds (longer_hold refs r is.row s is.longer hold))))

  off_picks : (t : Term) (x y : Body) → IsOff x → IsOff y → IsOff (picks t x y)
  off_picks t x y off_x off_y m r long g u guards shut refs s hold =
      let idle = settle_idles w ok T sees total totals style alike r refs s ty.Boolean t (hold_on T refs r s t.names hold) m long g u guards shut in
      let set : Settled = set_of m g refs ty.Boolean t in
      let v : Value = idle.0 in
      let is = idle.1 in
      let c : Expr = set.ref 0 in
      let guard_c = ref_guards T set.ref is.row v is.holds in
      let guard_g = guards_still T g r is.row u is.longer guards in
      let p : Plan = made (length set.steps + m) (both g c) refs x in
      let q : Plan = made (length p.steps + (length set.steps + m)) (both g (is_not_true c)) refs y in
      let long_p = long_still (length set.steps) m r is.row long is.long in
      let first =
      off_x (length set.steps + m) is.row long_p (both g c) (and_value u v) (both_guard T g c is.row u v guard_g guard_c) (and_false u v shut) refs s
      (longer_hold refs r is.row s is.longer hold) in
      let second =
      off_y (length p.steps + (length set.steps + m)) first.row (long_still (length p.steps) (length set.steps + m) is.row first.row long_p first.long)
      (both g (is_not_true c)) (and_value u (val.Bool (not (is_true v))))
      (guards_still T (both g (is_not_true c)) is.row first.row (and_value u (val.Bool (not (is_true v)))) first.longer
      (both_guard T g (is_not_true c) is.row u (val.Bool (not (is_true v))) guard_g (not_guards T c is.row v guard_c)))
      (and_false u (val.Bool (not (is_true v))) shut) refs s
      (longer_hold refs is.row first.row s first.longer (longer_hold refs r is.row s is.longer hold)) in
      unless_off (picks t x y) (behind set (turns.chosen style.same c p q)) r refs s hold (may [] (picks t x y)) refl
      (behind_off T r set v is (settle_single w ok T sees total totals style alike r refs s ty.Boolean t (hold_on T refs r s t.names hold) m long g u guards)
      (turns.chosen style.same c p q) (chosen_off style.same alike T c is.row guard_c.single p q first second))

  pub plan_off : (x : Body) → IsOff x
  plan_off (sets n t x) = off_sets n t x (plan_off x)
  plan_off (enters params args x) = λ m r long g u guards shut refs s hold.
      plan_off x m r long g u guards shut (paired refs no_ref params args) (paired s val.Null params args) (paired_hold refs r s params args hold)
  plan_off (picks t x y) = off_picks t x y (plan_off x) (plan_off y)
  plan_off (returns t) = λ m r long g u guards shut refs s hold. alone_off (returns t) refl r refs s hold
  plan_off (fails c) = λ m r long g u guards shut refs s hold. alone_off (fails c) refl r refs s hold
  plan_off (calls label places args) = λ m r long g u guards shut refs s hold.
      alone_off (calls label places args) (may_call places args 0 w.tail.columns) r refs s hold
  plan_off endless = λ m r long g u guards shut refs s hold. alone_off endless refl r refs s hold

  -- ---- bodies behind a guard that is true, over a row that begins with that of the turn

  module _ (a : ℕ) (row : List Value) (wide_row : length row ≡ length w.tail.columns) where
    abbrev Over : List Value → Type 0
    Over r = Longer (work true a row val.Null val.Null) r

    still : (r y : List Value) → Over r → Longer r y → Over y
    still r y over l = longer_still (work true a row val.Null val.Null) r y over l

    alone_on : (x : Body) → may [] x ≡ true → (r : List Value) → Over r → (refs : Scope Ref) (s : Scope Value) → Hold T refs r s
        → On T (cells_alone (cells refs x)) r (row_of style a row (walked w x s))
    alone_on x m r over refs s hold =
        reaches (record {
          row = r;
          longer = as_long r;
          long = omega arith;
          steps = refl;
          cells = λ y l.
              (wait_is w ok T sees total totals style alike a row y x [] m refs s (λ n. Ok (s n)) (none_waits T y refs s (longer_hold refs r y s l hold))).gives
              (record { long = wide_row; over = still r y over l });
        })

    unless_on : (x : Body) (p : Plan) (r : List Value) → Over r → (refs : Scope Ref) (s : Scope Value) → Hold T refs r s → (b : Bool) → may [] x ≡ b
        → On T p r (row_of style a row (walked w x s)) → On T (unless b (cells refs x) p) r (row_of style a row (walked w x s))
    unless_on x p r over refs s hold true m h = alone_on x m r over refs s hold
    unless_on x p r over refs s hold false m h = h

    abbrev pub IsOn : Body → Type 0
    IsOn x =
        (m : ℕ) (r : List Value) → length r ≡ m → Over r → (g : Expr) (u : Value) → Guards T g r u → is_true u ≡ true → (refs : Scope Ref) (s : Scope Value)
        → Hold T refs r s → On T (made m g refs x) r (row_of style a row (walked w x s))

    module _ (m : ℕ) (r : List Value) (long : length r ≡ m) (over : Over r) (g : Expr) (u : Value) (guards : Guards T g r u) (open_ : is_true u ≡ true)
        (refs : Scope Ref) (s : Scope Value) (hold : Hold T refs r s) where
      sets_by : (n : ℕ) (t : Term) (x : Body) → IsOn x → (o : Or Value) → value_in w t s ≡ o
          → On T (behind (set_of m g refs (w.types n) t) (made (length (set_of m g refs (w.types n) t).steps + m) g
          (names n (set_of m g refs (w.types n) t).ref refs) x)) r
          (row_of style a row (with_term o (λ v. walked w x (renewed n v s))))
      sets_by n t x on (Ok v) h =
          let set : Settled = set_of m g refs (w.types n) t in
          let is = settles w ok T sees total totals style alike r refs s (w.types n) t (hold_on T refs r s t.names hold) m long g u guards open_ v h in
          behind_on T r set v is (made (length set.steps + m) g (names n set.ref refs) x) (row_of style a row (walked w x (renewed n v s)))
          (on (length set.steps + m) is.row (long_still (length set.steps) m r is.row long is.long)
          (still r is.row over is.longer) g u (guards_still T g r is.row u is.longer guards) open_
          (names n set.ref refs) (renewed n v s) (names_hold n set.ref refs is.row v s is.holds (longer_hold refs r is.row s is.longer hold)))
      sets_by n t x on (Err c) h =
          let set : Settled = set_of m g refs (w.types n) t in
          behind_fault T r set c
          (settle_faults w ok T sees total totals style alike r refs s (w.types n) t (hold_on T refs r s t.names hold) m long g u guards open_ c h)
          (made (length set.steps + m) g (names n set.ref refs) x)

      module _ (t : Term) (x y : Body) where
        abbrev set : Settled
        set = set_of m g refs ty.Boolean t

        abbrev p : Plan
        p = made (length set.steps + m) (both g (set.ref 0)) refs x

        abbrev q : Plan
        q = made (length p.steps + (length set.steps + m)) (both g (is_not_true (set.ref 0))) refs y

        as_many : length p.cells ≡ length q.cells
        as_many =
            cells_long x (length set.steps + m) (both g (set.ref 0)) refs
            ∙ sym (cells_long y (length p.steps + (length set.steps + m)) (both g (is_not_true (set.ref 0))) refs)

        module _ (on_x : IsOn x) (on_y : IsOn y) (v : Value) (is : Settles T r set v) where
          abbrev other : Value
          other = val.Bool (not (is_true v))

          no_truth : (b : Bool) → is_true (val.Bool b) ≡ b
          no_truth true = refl
          no_truth false = refl

          guard_c : Guards T (set.ref 0) is.row v
          guard_c = ref_guards T set.ref is.row v is.holds

          guard_x : Guards T (both g (set.ref 0)) is.row (and_value u v)
          guard_x = both_guard T g (set.ref 0) is.row u v (guards_still T g r is.row u is.longer guards) guard_c

          guard_y : Guards T (both g (is_not_true (set.ref 0))) is.row (and_value u other)
          guard_y =
              both_guard T g (is_not_true (set.ref 0)) is.row u other (guards_still T g r is.row u is.longer guards) (not_guards T (set.ref 0) is.row v guard_c)

          long_x : length is.row ≡ length set.steps + m
          long_x = long_still (length set.steps) m r is.row long is.long

          over_x : Over is.row
          over_x = still r is.row over is.longer

          hold_x : Hold T refs is.row s
          hold_x = longer_hold refs r is.row s is.longer hold

          arms : (b : Bool) → is_true v ≡ b
              → On T (turns.chosen style.same (set.ref 0) p q) is.row (row_of style a row (chosen b (walked w x s) (walked w y s)))
          arms true h =
              chosen_first style.same alike T (set.ref 0) v is.row guard_c h p q (row_of style a row (walked w x s)) as_many
              (on_x (length set.steps + m) is.row long_x over_x (both g (set.ref 0)) (and_value u v) guard_x (and_on u v open_ ∙ h) refs s hold_x)
              (λ z l k. plan_off y (length p.steps + (length set.steps + m)) z (long_still (length p.steps) (length set.steps + m) is.row z long_x k)
              (both g (is_not_true (set.ref 0))) (and_value u other) (guards_still T (both g (is_not_true (set.ref 0))) is.row z (and_value u other) l guard_y)
              (and_on u other open_ ∙ (no_truth (not (is_true v)) ∙ ap not h)) refs s (longer_hold refs is.row z s l hold_x))
          arms false h =
              let idle = plan_off x (length set.steps + m) is.row long_x (both g (set.ref 0)) (and_value u v) guard_x (and_on u v open_ ∙ h) refs s hold_x in
              chosen_second style.same alike T (set.ref 0) v is.row guard_c h p q (row_of style a row (walked w y s)) as_many idle
              (on_y (length p.steps + (length set.steps + m)) idle.row (long_still (length p.steps) (length set.steps + m) is.row idle.row long_x idle.long)
              (still is.row idle.row over_x idle.longer)
              (both g (is_not_true (set.ref 0))) (and_value u other)
              (guards_still T (both g (is_not_true (set.ref 0))) is.row idle.row (and_value u other) idle.longer guard_y)
              (and_on u other open_ ∙ (no_truth (not (is_true v)) ∙ ap not h)) refs s (longer_hold refs is.row idle.row s idle.longer hold_x))

        picks_by : IsOn x → IsOn y → (o : Or Value) → value_in w t s ≡ o
            → On T (behind set (turns.chosen style.same (set.ref 0) p q)) r
            (row_of style a row (with_term o (λ v. chosen (is_true v) (walked w x s) (walked w y s))))
        picks_by on_x on_y (Ok v) h =
            let is = settles w ok T sees total totals style alike r refs s ty.Boolean t (hold_on T refs r s t.names hold) m long g u guards open_ v h in
            behind_on T r set v is (turns.chosen style.same (set.ref 0) p q) (row_of style a row (chosen (is_true v) (walked w x s) (walked w y s)))
            (arms on_x on_y v is (is_true v) refl)
        picks_by on_x on_y (Err c) h =
            behind_fault T r set c
            (settle_faults w ok T sees total totals style alike r refs s ty.Boolean t (hold_on T refs r s t.names hold) m long g u guards open_ c h)
            (turns.chosen style.same (set.ref 0) p q)

    pub plan_on : (x : Body) → IsOn x
    plan_on (sets n t x) m r long over g u guards open_ refs s hold =
        unless_on (sets n t x) _ r over refs s hold (may [] (sets n t x)) refl
        (sets_by m r long over g u guards open_ refs s hold n t x (plan_on x) (value_in w t s) refl)
    plan_on (enters params args x) m r long over g u guards open_ refs s hold =
        plan_on x m r long over g u guards open_ (paired refs no_ref params args) (paired s val.Null params args) (paired_hold refs r s params args hold)
    plan_on (picks t x y) m r long over g u guards open_ refs s hold =
        unless_on (picks t x y) _ r over refs s hold (may [] (picks t x y)) refl
        (picks_by m r long over g u guards open_ refs s hold t x y (plan_on x) (plan_on y) (value_in w t s) refl)
    plan_on (returns t) m r long over g u guards open_ refs s hold = alone_on (returns t) refl r over refs s hold
    plan_on (fails c) m r long over g u guards open_ refs s hold = alone_on (fails c) refl r over refs s hold
    plan_on (calls label places args) m r long over g u guards open_ refs s hold =
        alone_on (calls label places args) (may_call places args 0 w.tail.columns) r over refs s hold
    plan_on endless m r long over g u guards open_ refs s hold = alone_on endless refl r over refs s hold
