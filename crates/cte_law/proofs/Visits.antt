-- How a visit of a label ends: the query has a row for a class that a block raises, and none for a class that an expression raises.
use Rattle.std.proofs.Common.{◌≡◌, ℕ, Bool, true, false, if◌then◌else◌, nat_eq, List, [], ◌∷◌, Ok, Err, refl}
use Rattle.away_values.specs.declared.values.Class.{Class}
use Rattle.away_values.specs.declared.values.Value.{Value}
use Rattle.away_values.specs.declared.values.Value.TheVariants as val
use Rattle.away_values.specs.Classes.{is_class}
use Rattle.away_values.specs.Operators.{is_true}
use Rattle.away_values.specs.Results.{Or}
use Rattle.sql_meaning.specs.Context.{Rows}
use Rattle.block_forms.specs.Machines.{Move, ends, moves, stuck}
use Rattle.call_forms.specs.Bodies.{Body, sets, enters, picks, returns, fails, calls, endless}
use Rattle.call_forms.specs.Scopes.{Scope, paired}
use Rattle.call_forms.specs.TailRuns.{AtLabel, row_from, with_value, one_way, walk}
use Rattle.cte_law.proofs.WorkingRows.{call_row, end_row}
use Rattle.cte_law.proofs.Worlds.{World, frame_in, value_in}

pub data Visited : Type 0 where
  gives : Value → Visited
  raises : Class → Visited
  faults : Class → Visited
  goes_on : ℕ → List Value → Visited
  stays : Visited

abbrev pub with_term : Or Value → (Value → Visited) → Visited
with_term (Err c) next = faults c
with_term (Ok v) next = next v

abbrev pub chosen : Bool → Visited → Visited → Visited
chosen true x y = x
chosen false x y = y

-- name n has the value v from now on
abbrev pub renewed : ℕ → Value → Scope Value → Scope Value
renewed n v s m = if nat_eq m n then v else s m

abbrev pub walked : World → Body → Scope Value → Visited
walked w (sets n t x) s = with_term (value_in w t s) (λ v. walked w x (renewed n v s))
walked w (enters params args x) s = walked w x (paired s val.Null params args)
walked w (picks t x y) s = with_term (value_in w t s) (λ v. chosen (is_true v) (walked w x s) (walked w y s))
walked w (returns t) s = with_term (value_in w t s) gives
walked w (fails c) s = raises c
walked w (calls label places args) s = goes_on label (row_from 0 s places args w.tail.columns)
walked w endless s = stays

-- ---- in a run

abbrev pub move_of : Visited → Move AtLabel
move_of (gives v) = ends (Ok v)
move_of (raises c) = ends (Err c)
move_of (faults c) = ends (Err c)
move_of (goes_on label row) = moves (label, row)
move_of stays = stuck

module _ (w : World) where
  with_is : (o : Or Value) (f : Value → Visited) (g : Value → Move AtLabel) → ((v : Value) → move_of (f v) ≡ g v)
      → move_of (with_term o f) ≡ with_value o g
  with_is (Err c) f g h = refl
  with_is (Ok v) f g h = h v

  chosen_is : (b : Bool) (x y : Visited) (p q : Move AtLabel) → move_of x ≡ p → move_of y ≡ q → move_of (chosen b x y) ≡ one_way b p q
  chosen_is true x y p q h k = h
  chosen_is false x y p q h k = k

  returns_is : (o : Or Value) → move_of (with_term o gives) ≡ ends o
  returns_is (Err c) = refl
  returns_is (Ok v) = refl

  -- it is the run's visit
  pub walk_is : (b : Body) (s : Scope Value) → move_of (walked w b s) ≡ walk (frame_in w) w.tail.columns b s
  walk_is (sets n t x) s =
      with_is (value_in w t s) (λ v. walked w x (renewed n v s)) (λ v. walk (frame_in w) w.tail.columns x (renewed n v s)) (λ v. walk_is x (renewed n v s))
  walk_is (enters params args x) s = walk_is x (paired s val.Null params args)
  walk_is (picks t x y) s =
      with_is (value_in w t s) (λ v. chosen (is_true v) (walked w x s) (walked w y s))
      (λ v. one_way (is_true v) (walk (frame_in w) w.tail.columns x s) (walk (frame_in w) w.tail.columns y s))
      (λ v. chosen_is (is_true v) (walked w x s) (walked w y s) (walk (frame_in w) w.tail.columns x s) (walk (frame_in w) w.tail.columns y s) (walk_is x s) (walk_is y s))
  walk_is (returns t) s = returns_is (value_in w t s)
  walk_is (fails c) s = refl
  walk_is (calls label places args) s = refl
  walk_is endless s = refl

-- ---- in a working table

abbrev pub rows_of_visit : World → List Value → Visited → Or Rows
rows_of_visit w xs (gives v) = Ok (end_row xs w.tail.columns v val.Null ∷ [])
rows_of_visit w xs (raises c) = Ok (end_row xs w.tail.columns val.Null (val.Text c.code) ∷ [])
rows_of_visit w xs (faults c) = Err c
rows_of_visit w xs (goes_on i row) = Ok (call_row xs i row ∷ [])
rows_of_visit w xs stays = Ok (end_row xs w.tail.columns val.Null val.Null ∷ [])

-- ---- what is raised

-- what the body raises is a class
abbrev pub BodyRaisesClasses : Body → Type 0
BodyRaisesClasses (sets n t x) = BodyRaisesClasses x
BodyRaisesClasses (enters params args x) = BodyRaisesClasses x
BodyRaisesClasses (picks t x y) = BodyRaisesClasses x × BodyRaisesClasses y
BodyRaisesClasses (returns t) = Unit {0}
BodyRaisesClasses (fails c) = is_class c.code ≡ true
BodyRaisesClasses (calls label places args) = Unit {0}
BodyRaisesClasses endless = Unit {0}

abbrev pub IsFair : Visited → Type 0
IsFair (raises c) = is_class c.code ≡ true
IsFair (gives v) = Unit {0}
IsFair (faults c) = Unit {0}
IsFair (goes_on i row) = Unit {0}
IsFair stays = Unit {0}

fair_with : (o : Or Value) (next : Value → Visited) → ((v : Value) → IsFair (next v)) → IsFair (with_term o next)
fair_with (Ok v) next h = h v
fair_with (Err c) next h = tt

fair_chosen : (b : Bool) (x y : Visited) → IsFair x → IsFair y → IsFair (chosen b x y)
fair_chosen true x y h k = h
fair_chosen false x y h k = k

pub fair : (w : World) (b : Body) → BodyRaisesClasses b → (s : Scope Value) → IsFair (walked w b s)
fair w (sets n t x) ok s = fair_with (value_in w t s) (λ v. walked w x (renewed n v s)) (λ v. fair w x ok (renewed n v s))
fair w (enters params args x) ok s = fair w x ok (paired s val.Null params args)
fair w (picks t x y) ok s =
    fair_with (value_in w t s) (λ v. chosen (is_true v) (walked w x s) (walked w y s))
    (λ v. fair_chosen (is_true v) (walked w x s) (walked w y s) (fair w x ok.0 s) (fair w y ok.1 s))
fair w (returns t) ok s = fair_with (value_in w t s) gives (λ v. tt)
fair w (fails c) ok s = ok
fair w (calls label places args) ok s = tt
fair w endless ok s = tt
