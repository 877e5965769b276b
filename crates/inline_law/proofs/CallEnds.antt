-- The ends of the calls in the recursive table, and the value of a call's subquery there.
use Rattle.std.proofs.Common.{◌≡◌, inl, inr, refl, ap, sym, ◌∙◌, ℕ, suc, ◌+◌, Bool, true, false, ◌&&◌, if◌then◌else◌, pos, List, [], ◌∷◌, ◌++◌, map, filter, length, arith}
use Rattle.std.proofs.lemmas.Bool.{true≢false, false≢true}
use Rattle.std.proofs.lemmas.List.{get_or-append-add}
use Rattle.away_values.specs.declared.operators.CmpOp.TheVariants as cmp
use Rattle.away_values.specs.declared.types.Ty.{Ty}
use Rattle.away_values.specs.declared.values.Value.{Value}
use Rattle.away_values.specs.declared.values.Value.TheVariants as val
use Rattle.away_values.specs.Operators.{compare, is_true}
use Rattle.sql_meaning.specs.Context.{Rows, at}
use Rattle.type_soundness.specs.Surroundings.{IsRow}
use Rattle.sql_meaning.proofs.RowPlaces.{nulls_then, at_value}
use Rattle.together.specs.Steppers.{on, ended, answers}
use Rattle.cte_law.proofs.States.{State, Ended, row_of}
use Rattle.cte_law.proofs.Worlds.{World}
use Rattle.inline_law.specs.Answers.{Every, SomeOf}
use Rattle.inline_law.specs.Written.{result_place}
use Rattle.inline_law.proofs.CallFilter.{all_match, first_result, is_row_of}
use Rattle.inline_law.proofs.Equal.{matched, matches, matches_itself, number_itself, number_matched}

both : (a b : Bool) → (a && b) ≡ true → (a ≡ true) × (b ≡ true)
both true b h = (refl, h)
both false b h = absurd (false≢true h)

-- ---- values that match

match_behind : (y : Value) (row vs : List Value) (place : ℕ) → all_match (suc place) (y ∷ row) vs ≡ all_match place row vs
match_behind y row [] place = refl
match_behind y row (v ∷ vs) place = ap (λ b. is_true (matches (at row place) v) && b) (match_behind y row vs (suc place))

-- values of the parameters' types that match are the same
same_values : (ts : List Ty) (us vs rest : List Value) → IsRow ts us → IsRow ts vs → all_match 0 (us ++ rest) vs ≡ true → us ≡ vs
same_values [] [] [] rest h g e = refl
same_values (t ∷ ts) (u ∷ us) (v ∷ vs) rest h g e =
    let parts = both (is_true (matches u v)) (all_match 1 (u ∷ (us ++ rest)) vs) e in
    (λ i. matched t u v h.0 g.0 parts.0 i ∷ same_values ts us vs rest h.1 g.1 (sym (match_behind u (us ++ rest) vs 0) ∙ parts.1) i)
same_values [] (u ∷ us) vs rest h g e = absurd h
same_values [] [] (v ∷ vs) rest h g e = absurd g
same_values (t ∷ ts) [] vs rest h g e = absurd h
same_values (t ∷ ts) (u ∷ us) [] rest h g e = absurd g

match_themselves : (vs rest : List Value) → all_match 0 (vs ++ rest) vs ≡ true
match_themselves [] rest = refl
match_themselves (v ∷ vs) rest =
    (λ i. matches_itself v i && (match_behind v (vs ++ rest) vs 0 ∙ match_themselves vs rest) i)

at_skipped : (xs ys : List Value) (i : ℕ) → at (xs ++ ys) (length xs + i) ≡ at ys i
at_skipped xs ys i = get_or-append-add xs ys i val.Null

module _ (w : World) where
  abbrev pub End : Type 0
  End = List Value × Ended

  abbrev pub row_of_end : End → List Value
  row_of_end a = row_of w (ended a)

  -- an end of call m at these arguments
  abbrev pub end_of : ℕ → List Value → Ended → End
  end_of m us e = (val.Int (pos m) ∷ us, e)

  abbrev tail_of : Ended → List Value
  tail_of e = nulls_then w.tail.columns e.0 e.1

  numbers_match : (m n : ℕ) (us vs : List Value) (e : Ended) → is_row_of n vs (row_of_end (end_of m us e))
      ≡ (is_true (compare cmp.Eq (val.Int (pos m)) (val.Int (pos n))) && all_match 0 (us ++ tail_of e) vs)
  numbers_match m n us vs e =
      ap (λ b. is_true (compare cmp.Eq (val.Int (pos m)) (val.Int (pos n))) && b)
      (match_behind (val.Bool false) (val.Int (pos 0) ∷ val.Int (pos m) ∷ (us ++ tail_of e)) vs 2
      ∙ (match_behind (val.Int (pos 0)) (val.Int (pos m) ∷ (us ++ tail_of e)) vs 1
      ∙ match_behind (val.Int (pos m)) (us ++ tail_of e) vs 0))

  -- a row of an end that the subquery keeps is one of its own call at its own arguments
  pub row_is_own : (ts : List Ty) (m n : ℕ) (us vs : List Value) (e : Ended) → IsRow ts us → IsRow ts vs → is_row_of n vs (row_of_end (end_of m us e)) ≡ true
      → (pos m ≡ pos n) × (us ≡ vs)
  row_is_own ts m n us vs e h g k =
      let parts = both (is_true (compare cmp.Eq (val.Int (pos m)) (val.Int (pos n)))) (all_match 0 (us ++ tail_of e) vs) (sym (numbers_match m n us vs e) ∙ k) in
      (number_matched (pos m) (pos n) parts.0, same_values ts us vs (tail_of e) h g parts.1)

  -- and it keeps that of its own call
  pub own_row : (n : ℕ) (vs : List Value) (e : Ended) → is_row_of n vs (row_of_end (end_of n vs e)) ≡ true
  own_row n vs e = numbers_match n n vs vs e ∙ (λ i. number_itself (pos n) i && match_themselves vs (tail_of e) i)

  pub result_is : (m : ℕ) (us : List Value) (e : Ended) → at (row_of_end (end_of m us e)) (result_place (length us) (length w.tail.columns)) ≡ e.0
  result_is m us e =
      let place : 3 + (length us + length w.tail.columns) ≡ suc (suc (suc (length us + length w.tail.columns))) = omega arith in
      ap (λ k. at (row_of_end (end_of m us e)) k) place
      ∙ (at_skipped us (tail_of e) (length w.tail.columns) ∙ at_value w.tail.columns e.0 e.1)

  -- ---- the first row that is kept

  module _ (n place : ℕ) (vs : List Value) (v : Value) where
    abbrev Kept : End → Type 0
    Kept a = is_row_of n vs (row_of_end a) ≡ true

    -- what is kept has the result
    abbrev HasResult : End → Type 0
    HasResult a = Kept a → at (row_of_end a) place ≡ v

    abbrev result_of : Rows → Value
    result_of rows = first_result place rows

    abbrev kept_rows : List State → Rows
    kept_rows ss = filter (is_row_of n vs) (map (row_of w) ss)

    pub first_is : (ss : List State) → Every HasResult (answers ss) → SomeOf Kept (answers ss) → result_of (kept_rows ss) ≡ v
    first_is [] all some = absurd some
    first_is (on p ∷ ss) all some = first_is ss all some
    first_is (ended a ∷ ss) all some = by (is_row_of n vs (row_of_end a)) refl some (λ h. first_is ss all.1 h)
      where
        by : (b : Bool) → is_row_of n vs (row_of_end a) ≡ b → SomeOf Kept (a ∷ answers ss) → (SomeOf Kept (answers ss) → result_of (kept_rows ss) ≡ v)
            → result_of (if is_row_of n vs (row_of_end a) then row_of_end a ∷ kept_rows ss else kept_rows ss) ≡ v
        by true e h go = ap (λ (b : Bool). result_of (if b then row_of_end a ∷ kept_rows ss else kept_rows ss)) e ∙ all.0 e
        by false e (inl h) go = absurd (true≢false (sym h ∙ e))
        by false e (inr h) go = ap (λ (b : Bool). result_of (if b then row_of_end a ∷ kept_rows ss else kept_rows ss)) e ∙ go h
