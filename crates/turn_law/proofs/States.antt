-- States: what visits come to, one after another, and which rows stand for them.
use Rattle.std.proofs.Common.{◌≡◌, refl, ap, sym, subst, ℕ, zero, suc, ◌<◌, Bool, true, false, if◌then◌else◌, List, [], ◌∷◌, length, Option, Some, None, Ok, Err, arith}
use Rattle.std.specs.Prelude.{slice_get}
use Rattle.away_trees.specs.declared.queries.Expr.{Expr}
use Rattle.away_values.specs.declared.types.Ty.{Ty}
use Rattle.away_values.specs.declared.values.Class.{Class}
use Rattle.away_values.specs.declared.values.Value.{Value}
use Rattle.away_values.specs.declared.values.Value.TheVariants as val
use Rattle.away_values.specs.Operators.{is_true}
use Rattle.away_values.specs.Results.{Or}
use Rattle.call_forms.specs.Bodies.{Body, sets, enters, picks, returns, fails, calls, endless, body_of}
use Rattle.call_forms.specs.Scopes.{Scope, paired}
use Rattle.call_forms.specs.TailRuns.{row_from}
use Rattle.cte_law.proofs.Branches.{scope_at, visit_at}
use Rattle.cte_law.proofs.Visits.{Visited, gives, raises, faults, goes_on, stays, with_term, chosen, renewed, walked}
use Rattle.cte_law.proofs.WorkingRows.{call_row}
use Rattle.cte_law.proofs.Worlds.{World, value_in}
use Rattle.turn_template.specs.TurnTemplate.{Style, numbered, is_single, told_by}
use Rattle.turn_template.specs.Unfolded.{CallsAmong}
use Rattle.turn_law.proofs.Levels.{good, bad}
use Rattle.turn_law.proofs.RowCells.{work, number_of, none_of, row_of}

module _ (w : World) where
  abbrev pub turn_at : ℕ → List Value → Option ℕ → Visited
  turn_at i row None = goes_on i row
  turn_at i row (Some b) = visit_at w i b row

  -- one visit more, and none where there is nothing to visit
  abbrev pub turned_once : Visited → Visited
  turned_once (goes_on i row) = turn_at i row (slice_get w.tail.labels i)
  turned_once (gives v) = gives v
  turned_once (raises c) = raises c
  turned_once (faults c) = faults c
  turned_once stays = stays

  abbrev pub turned : ℕ → Visited → Visited
  turned zero x = x
  turned (suc k) x = turned k (turned_once x)

  pub row_width : (i : ℕ) (s : Scope Value) (places args : List ℕ) (ts : List Ty) → length (row_from i s places args ts) ≡ length ts
  row_width i s places args [] = refl
  row_width i s places args (t ∷ ts) = ap suc (row_width (suc i) s places args ts)

  pub turned_fault : (k : ℕ) (c : Class) → turned k (faults c) ≡ faults c
  turned_fault zero c = refl
  turned_fault (suc k) c = turned_fault k c

-- where the labels that are called are the first ones
abbrev pub Inner : World → List ℕ → Type 0
Inner w heads = (i b : ℕ) → slice_get w.tail.labels i ≡ Some b → CallsAmong heads w.tail.labels (body_of w.anf w.tail b)

module _ (w : World) (heads : List ℕ) where
  -- a call has a value for each column, and its label is among the first
  abbrev pub IsWide : Visited → Type 0
  IsWide (goes_on i row) =
      (length row ≡ length w.tail.columns) × ((i < length heads) × (slice_get heads i ≡ slice_get w.tail.labels i))
  IsWide (gives v) = Unit {0}
  IsWide (raises c) = Unit {0}
  IsWide (faults c) = Unit {0}
  IsWide stays = Unit {0}

  wide_with : (o : Or Value) (next : Value → Visited) → ((v : Value) → IsWide (next v)) → IsWide (with_term o next)
  wide_with (Ok v) next h = h v
  wide_with (Err c) next h = tt

  wide_chosen : (b : Bool) (x y : Visited) → IsWide x → IsWide y → IsWide (chosen b x y)
  wide_chosen true x y h k = h
  wide_chosen false x y h k = k

  pub walked_wide : (x : Body) → CallsAmong heads w.tail.labels x → (s : Scope Value) → IsWide (walked w x s)
  walked_wide (sets n t x) h s = wide_with (value_in w t s) (λ v. walked w x (renewed n v s)) (λ v. walked_wide x h (renewed n v s))
  walked_wide (enters params args x) h s = walked_wide x h (paired s val.Null params args)
  walked_wide (picks t x y) h s =
      wide_with (value_in w t s) (λ v. chosen (is_true v) (walked w x s) (walked w y s))
      (λ v. wide_chosen (is_true v) (walked w x s) (walked w y s) (walked_wide x h.0 s) (walked_wide y h.1 s))
  walked_wide (returns t) h s = wide_with (value_in w t s) gives (λ v. tt)
  walked_wide (fails c) h s = tt
  walked_wide (calls label places args) h s = (row_width w 0 s places args w.tail.columns, h)
  walked_wide endless h s = tt

  module _ (inner : Inner w heads) where
    pub wide_at : (i : ℕ) (row : List Value) → IsWide (goes_on i row) → (o : Option ℕ) → slice_get w.tail.labels i ≡ o → IsWide (turn_at w i row o)
    wide_at i row h None found = h
    wide_at i row h (Some b) found = walked_wide (body_of w.anf w.tail b) (inner i b found) (scope_at w i b row)

    pub once_wide : (x : Visited) → IsWide x → IsWide (turned_once w x)
    once_wide (goes_on i row) h = wide_at i row h (slice_get w.tail.labels i) refl
    once_wide (gives v) h = tt
    once_wide (raises c) h = tt
    once_wide (faults c) h = tt
    once_wide stays h = tt

-- ---- the rows that stand for states

-- A finished row with this result and class. Its number is 0 where labels are told by their numbers.
pub record Finished (alone : Bool) (columns : List Ty) (o : Or (List Value)) (v c : Value) : Type 0 where
  pub number : ℕ
  pub row : List Value
  pub long : length row ≡ length columns
  pub none : alone ≡ false → number ≡ 0
  pub is : o ≡ good (work false number row v c)

never_row : {c : Class} {z : List Value} → bad c ≡ good z → ⊥
never_row h = cc

module _ (w : World) (alone : Bool) where
  abbrev pub Stands : Visited → Or (List Value) → Type 0
  Stands (goes_on i row) o = o ≡ good (call_row [] i row)
  Stands (gives v) o = Finished alone w.tail.columns o v val.Null
  Stands (raises c) o = Finished alone w.tail.columns o val.Null (val.Text c.code)
  Stands (faults c) o = o ≡ bad c
  Stands stays o = Finished alone w.tail.columns o val.Null val.Null

  -- a fault is one for ever
  pub fault_stands : (k : ℕ) (x : Visited) (c : Class) → Stands x (bad c) → Stands (turned w k x) (bad c)
  fault_stands k (goes_on i row) c h = absurd (never_row h)
  fault_stands k (gives v) c h = absurd (never_row h.is)
  fault_stands k (raises d) c h = absurd (never_row h.is)
  fault_stands k (faults d) c h = subst (λ z. Stands z (bad c)) (sym (turned_fault w k d)) h
  fault_stands k stays c h = absurd (never_row h.is)

  -- what a turn makes of a row
  module _ (style : Style) (a : ℕ) (row : List Value) (long : length row ≡ length w.tail.columns) (none : alone ≡ false → none_of style a ≡ 0)
      (heads : List ℕ) (number : (j : ℕ) → j < length heads → number_of style a j ≡ suc j) where
    pub stands_by : (x : Visited) → IsWide w heads x → Stands x (row_of style a row x)
    stands_by (goes_on j next) h = ap (λ n. good (work true n next val.Null val.Null)) (number j h.1.0)
    stands_by (gives v) h = record { number = none_of style a; row = row; long = long; none = none; is = refl }
    stands_by (raises c) h = record { number = none_of style a; row = row; long = long; none = none; is = refl }
    stands_by (faults c) h = refl
    stands_by stays h = record { number = none_of style a; row = row; long = long; none = none; is = refl }

single_one : (heads : List ℕ) → is_single heads ≡ true → length heads ≡ 1
single_one [] h = absurd (cc)
single_one (b ∷ []) h = refl
single_one (b ∷ c ∷ bs) h = absurd (cc)

-- what a turn makes of a call by the labels that are called
pub call_stands : (w : World) (same : Expr → Expr → Bool) (heads : List ℕ) (i : ℕ) (row : List Value) → length row ≡ length w.tail.columns → i < length heads
    → (x : Visited) → IsWide w heads x → Stands w (is_single heads) x (row_of (told_by same heads) (suc i) row x)
call_stands w same heads i row long less =
    stands_by w (is_single heads) (told_by same heads) (suc i) row long (λ h. ap (λ b. if b then suc i else 0) h) heads
    (λ j h. by (is_single heads) refl j h)
  where
    by : (b : Bool) → is_single heads ≡ b → (j : ℕ) → j < length heads → (if b then suc i else suc j) ≡ suc j
    by true one j h = omega (arith, less, h, single_one heads one)
    by false one j h = refl

-- and the first turn, by the entry
pub entry_stands : (w : World) (same : Expr → Expr → Bool) (heads : List ℕ) (a : ℕ) (row : List Value) → length row ≡ length w.tail.columns
    → (x : Visited) → IsWide w heads x → Stands w (is_single heads) x (row_of (numbered same) a row x)
entry_stands w same heads a row long = stands_by w (is_single heads) (numbered same) a row long (λ h. refl) heads (λ j h. refl)
