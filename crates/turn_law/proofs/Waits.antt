-- Names that wait for their cells, over one row: what stands for each, and what it comes to.
use Rattle.std.proofs.Common.{◌≡◌, refl, ℕ, Bool, true, false, not, if◌then◌else◌, cond, nat_eq, List, [], ◌∷◌, ◌++◌, Ok}
use Rattle.away_values.specs.declared.values.Value.{Value}
use Rattle.away_values.specs.declared.values.Value.TheVariants as val
use Rattle.away_values.specs.Results.{Or}
use Rattle.sql_meaning.specs.Context.{Rows}
use Rattle.sql_meaning.specs.Meaning.{has_aggregate}
use Rattle.sql_meaning.proofs.Uses.{and_first, and_second}
use Rattle.call_forms.specs.Scopes.{Scope, paired}
use Rattle.cte_law.proofs.ScopesAlike.{paired_relates}
use Rattle.cte_law.proofs.Visits.{renewed}
use Rattle.turn_template.specs.TurnTemplate.{Ref, no_ref, names, is_in, reads_none, covers}
use Rattle.turn_law.proofs.Levels.{At}
use Rattle.turn_law.proofs.Terms.{as_long, Holds, Hold, HoldOn, none_holds, here_is}
use Rattle.turn_law.proofs.RowCells.{not_true, IsOr, answered, out_first, out_last, covered}

module _ (T : List Rows) (y : List Value) where
  -- What stands for names: a name that doesn't wait has its value, and one that waits has its answer.
  pub record Waits (waits : List ℕ) (refs : Scope Ref) (s : Scope Value) (ans : Scope (Or Value)) : Type 0 where
    pub known : (n : ℕ) → is_in waits n ≡ false → Holds T (refs n) y (s n)
    pub calm : (n : ℕ) → is_in waits n ≡ false → ans n ≡ Ok (s n)
    pub gives : (n : ℕ) → At T (refs n 0) y (ans n)
    pub single : (n : ℕ) → has_aggregate (refs n 0) ≡ false
    pub fits : (n : ℕ) → IsOr (ans n) (s n)

  -- nothing waits
  pub none_waits : (refs : Scope Ref) (s : Scope Value) → Hold T refs y s → Waits [] refs s (λ n. Ok (s n))
  none_waits refs s h = record {
    known = λ n out. h n;
    calm = λ n out. refl;
    gives = λ n. here_is T (refs n) y (s n) (h n);
    single = λ n. (h n y (as_long y)).single 0;
    fits = λ n. refl;
  }

  module _ (waits : List ℕ) (refs : Scope Ref) (s : Scope Value) (ans : Scope (Or Value)) (h : Waits waits refs s ans) where
    pub reads_known : (ns : List ℕ) → reads_none waits ns ≡ true → HoldOn T refs y s ns
    reads_known [] r = tt
    reads_known (n ∷ ns) r = (
      h.known n (not_true (is_in waits n) (and_first (not (is_in waits n)) (reads_none waits ns) r)),
      reads_known ns (and_second (not (is_in waits n)) (reads_none waits ns) r),
    )

    -- one name more, which has a value
    pub put_total : (n : ℕ) (x : Ref) (v : Value) → Holds T x y v → Waits waits (names n x refs) (renewed n v s) (answered n (Ok v) ans)
    put_total n x v is = record {
      known = λ m out. known_by (nat_eq m n) m out;
      calm = λ m out. calm_by (nat_eq m n) m out;
      gives = λ m. gives_by (nat_eq m n) m;
      single = λ m. single_by (nat_eq m n) m;
      fits = λ m. fits_by (nat_eq m n) m;
    }
      where
        known_by : (b : Bool) (m : ℕ) → is_in waits m ≡ false → Holds T (cond b x (refs m)) y (if b then v else s m)
        known_by true m out = is
        known_by false m out = h.known m out

        calm_by : (b : Bool) (m : ℕ) → is_in waits m ≡ false → (if b then Ok v else ans m) ≡ Ok (if b then v else s m)
        calm_by true m out = refl
        calm_by false m out = h.calm m out

        gives_by : (b : Bool) (m : ℕ) → At T (cond b x (refs m) 0) y (if b then Ok v else ans m)
        gives_by true m = here_is T x y v is
        gives_by false m = h.gives m

        single_by : (b : Bool) (m : ℕ) → has_aggregate (cond b x (refs m) 0) ≡ false
        single_by true m = (is y (as_long y)).single 0
        single_by false m = h.single m

        fits_by : (b : Bool) (m : ℕ) → IsOr (if b then Ok v else ans m) (if b then v else s m)
        fits_by true m = refl
        fits_by false m = h.fits m

    -- one name more, which waits
    pub put_waiting : (n : ℕ) (x : Ref) (o : Or Value) (v : Value) → At T (x 0) y o → has_aggregate (x 0) ≡ false → IsOr o v
        → Waits (waits ++ n ∷ []) (names n x refs) (renewed n v s) (answered n o ans)
    put_waiting n x o v is alone fit = record {
      known = λ m out. known_by (nat_eq m n) m (out_first waits n m out) (out_last waits n m out);
      calm = λ m out. calm_by (nat_eq m n) m (out_first waits n m out) (out_last waits n m out);
      gives = λ m. gives_by (nat_eq m n) m;
      single = λ m. single_by (nat_eq m n) m;
      fits = λ m. fits_by (nat_eq m n) m;
    }
      where
        known_by : (b : Bool) (m : ℕ) → is_in waits m ≡ false → b ≡ false → Holds T (cond b x (refs m)) y (if b then v else s m)
        known_by true m out e = absurd (cc)
        known_by false m out e = h.known m out

        calm_by : (b : Bool) (m : ℕ) → is_in waits m ≡ false → b ≡ false → (if b then o else ans m) ≡ Ok (if b then v else s m)
        calm_by true m out e = absurd (cc)
        calm_by false m out e = h.calm m out

        gives_by : (b : Bool) (m : ℕ) → At T (cond b x (refs m) 0) y (if b then o else ans m)
        gives_by true m = is
        gives_by false m = h.gives m

        single_by : (b : Bool) (m : ℕ) → has_aggregate (cond b x (refs m) 0) ≡ false
        single_by true m = alone
        single_by false m = h.single m

        fits_by : (b : Bool) (m : ℕ) → IsOr (if b then o else ans m) (if b then v else s m)
        fits_by true m = fit
        fits_by false m = h.fits m

    -- other names
    pub put_names : (after_ params args : List ℕ) → covers waits after_ params args ≡ true
        → Waits after_ (paired refs no_ref params args) (paired s val.Null params args) (paired ans (Ok val.Null) params args)
    put_names after_ params args c = record {
      known = λ n out. covered waits after_ Ref Value (λ x v. Holds T x y v) refs s no_ref val.Null (none_holds T y) h.known params args c n out;
      calm = λ n out. covered waits after_ (Or Value) Value (λ o v. o ≡ Ok v) ans s (Ok val.Null) val.Null refl h.calm params args c n out;
      gives = λ n. paired_relates (λ (x : Ref) o. At T (x 0) y o) refs ans no_ref (Ok val.Null) h.gives (λ cx t. refl) params args n;
      single = λ n.
          paired_relates (λ (x : Ref) (o : Or Value). has_aggregate (x 0) ≡ false) refs ans no_ref (Ok val.Null) h.single refl params args n;
      fits = λ n. paired_relates IsOr ans s (Ok val.Null) val.Null h.fits refl params args n;
    }
