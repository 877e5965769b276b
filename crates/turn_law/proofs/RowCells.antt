-- The row of a visit, and the names that wait for their cells.
use Rattle.std.proofs.Common.{◌≡◌, refl, ap, sym, ◌∙◌, ℕ, suc, Bool, true, false, not, ◌||◌, if◌then◌else◌, nat_eq, pos, List, [], ◌∷◌, ◌++◌, length, Option, Some, None, Ok, Err}
use Rattle.std.proofs.lemmas.Bool.{eqb-true, eqb-false, ne_eqb}
use Rattle.std.proofs.lemmas.Option.{same_Some}
use Rattle.away_trees.specs.declared.queries.Expr.{Expr}
use Rattle.away_values.specs.declared.types.Ty.{Ty}
use Rattle.away_values.specs.declared.values.Value.{Value}
use Rattle.away_values.specs.declared.values.Value.TheVariants as val
use Rattle.away_values.specs.Results.{Or, and_then, mapped}
use Rattle.sql_meaning.specs.Context.{Rows, Context}
use Rattle.sql_meaning.specs.Expressions.{any_aggregates}
use Rattle.sql_meaning.proofs.Uses.{and_first, and_second}
use Rattle.call_forms.specs.Scopes.{Scope, paired}
use Rattle.cte_law.proofs.Visits.{Visited, gives, raises, faults, goes_on, stays, with_term}
use Rattle.turn_template.specs.TurnTemplate.{Style, is_in, reads_none, passed, is_name, is_passed, covers, renames}
use Rattle.turn_law.proofs.Levels.{all, AtAll, or_first, or_second}
use Rattle.turn_law.proofs.Terms.{Longer}

pub not_true : (b : Bool) → not b ≡ true → b ≡ false
not_true false h = refl
not_true true h = absurd (cc)

-- ---- answers, which may be faults

abbrev pub IsOr : Or Value → Value → Type 0
IsOr (Ok v) z = v ≡ z
IsOr (Err c) z = Unit {0}

-- what waits is evaluated first
abbrev pub after_waits : List ℕ → Scope (Or Value) → Or (List Value) → Or (List Value)
after_waits [] ans o = o
after_waits (n ∷ ns) ans o = and_then (ans n) (λ v. after_waits ns ans o)

abbrev pub answered : ℕ → Or Value → Scope (Or Value) → Scope (Or Value)
answered n o ans m = if nat_eq m n then o else ans m

turned_round : (n m : ℕ) → nat_eq n m ≡ false → nat_eq m n ≡ false
turned_round n m h = ne_eqb m n (λ p. eqb-false n m h (sym p))

pub after_renew : (n : ℕ) (o : Or Value) (ans : Scope (Or Value)) (z : Or (List Value)) (ns : List ℕ) → is_in ns n ≡ false
    → after_waits ns (answered n o ans) z ≡ after_waits ns ans z
after_renew n o ans z [] h = refl
after_renew n o ans z (m ∷ ns) h =
    (λ i. and_then (if turned_round n m (or_first (nat_eq n m) (is_in ns n) h) i then o else ans m)
    (λ v. after_renew n o ans z ns (or_second (nat_eq n m) (is_in ns n) h) i))

pub after_end : (ns : List ℕ) (n : ℕ) (ans : Scope (Or Value)) (z : Or (List Value))
    → after_waits (ns ++ n ∷ []) ans z ≡ after_waits ns ans (and_then (ans n) (λ v. z))
after_end [] n ans z = refl
after_end (m ∷ ns) n ans z = ap (λ x. and_then (ans m) (λ v. x)) (after_end ns n ans z)

pub answered_here : (n : ℕ) (o : Or Value) (ans : Scope (Or Value)) → answered n o ans n ≡ o
answered_here n o ans = by (nat_eq n n) refl
  where
    by : (b : Bool) → nat_eq n n ≡ b → (if nat_eq n n then o else ans n) ≡ o
    by true h = ap (λ b. if b then o else ans n) h
    by false h = absurd (eqb-false n n h refl)

pub after_mapped : (f : List Value → List Value) (ns : List ℕ) (ans : Scope (Or Value)) (z : Or (List Value))
    → mapped f (after_waits ns ans z) ≡ after_waits ns ans (mapped f z)
after_mapped f [] ans z = refl
after_mapped f (n ∷ ns) ans z = by (ans n) (after_mapped f ns ans z)
  where
    by : (o : Or Value) → mapped f (after_waits ns ans z) ≡ after_waits ns ans (mapped f z)
        → mapped f (and_then o (λ v. after_waits ns ans z)) ≡ and_then o (λ v. after_waits ns ans (mapped f z))
    by (Ok v) h = h
    by (Err c) h = refl

-- a term that faults, where it is not the first to
after_fault : (ns : List ℕ) (ans : Scope (Or Value)) (o : Or Value) (z : Value → Or (List Value)) (x : Or (List Value)) (v : Value) → o ≡ Ok v → z v ≡ x
    → and_then o (λ u. x) ≡ and_then o z
after_fault ns ans o z x v h k = (λ i. and_then (h i) (λ u. x)) ∙ (sym k ∙ (λ i. and_then (sym h i) z))

-- ---- names

keys_apart : (x n : ℕ) → nat_eq x n ≡ false → nat_eq x n ≡ true → ⊥
keys_apart x n h k = never (sym h ∙ k)
  where
    never : false ≡ true → ⊥
    never e = cc

-- what a key stands for
pub paired_named : {A : Type 0} (f : ℕ → A) (d : A) (ks ns : List ℕ) (i n : ℕ) → passed ks ns i ≡ Some n → paired f d ks ns i ≡ f n
paired_named f d [] ns i n h = absurd (cc)
paired_named f d (k ∷ ks) [] i n h = absurd (cc)
paired_named f d (k ∷ ks) (m ∷ ns) i n h = by (nat_eq k i) h (paired_named f d ks ns i n)
  where
    by : (b : Bool) → (if b then Some m else passed ks ns i) ≡ Some n → (passed ks ns i ≡ Some n → paired f d ks ns i ≡ f n)
        → (if b then f m else paired f d ks ns i) ≡ f n
    by true e go = ap f (same_Some m n e)
    by false e go = go e

module _ (waits : List ℕ) (s : Scope Value) (ans : Scope (Or Value)) (calm : (n : ℕ) → is_in waits n ≡ false → ans n ≡ Ok (s n)) where
  pub calm_paired : (ks ns : List ℕ) (i : ℕ) → is_passed waits (passed ks ns i) ≡ false → paired ans (Ok val.Null) ks ns i ≡ Ok (paired s val.Null ks ns i)
  calm_paired [] ns i h = refl
  calm_paired (k ∷ ks) [] i h = refl
  calm_paired (k ∷ ks) (n ∷ ns) i h = by (nat_eq k i) h (calm_paired ks ns i)
    where
      by : (b : Bool) → is_passed waits (if b then Some n else passed ks ns i) ≡ false
          → (is_passed waits (passed ks ns i) ≡ false → paired ans (Ok val.Null) ks ns i ≡ Ok (paired s val.Null ks ns i))
          → (if b then ans n else paired ans (Ok val.Null) ks ns i) ≡ Ok (if b then s n else paired s val.Null ks ns i)
      by true e go = calm n e
      by false e go = go e

-- what waits, in other names
pub after_renamed : (ans : Scope (Or Value)) (z : Or (List Value)) (keys args : List ℕ) (after_ waits : List ℕ) → renames after_ waits keys args ≡ true
    → after_waits after_ (paired ans (Ok val.Null) keys args) z ≡ after_waits waits ans z
after_renamed ans z keys args [] [] h = refl
after_renamed ans z keys args [] (w ∷ ws) h = absurd (cc)
after_renamed ans z keys args (k ∷ ks) [] h = absurd (cc)
after_renamed ans z keys args (k ∷ ks) (w ∷ ws) h =
    let first = and_first (is_name (passed keys args k) w) (renames ks ws keys args) h in
    let rest = after_renamed ans z keys args ks ws (and_second (is_name (passed keys args k) w) (renames ks ws keys args) h) in
    λ i. and_then (named (passed keys args k) refl first i) (λ v. rest i)
  where
    named : (o : Option ℕ) → passed keys args k ≡ o → is_name o w ≡ true → paired ans (Ok val.Null) keys args k ≡ ans w
    named None p e = absurd (cc)
    named (Some m) p e = paired_named ans (Ok val.Null) keys args k m p ∙ ap ans (eqb-true m w e)

-- what doesn't wait, in other names
module _ (waits after_ : List ℕ) (A B : Type 0) (R : A → B → Type 0) (f : ℕ → A) (g : ℕ → B) (d : A) (e : B) (rest : R d e)
    (known : (n : ℕ) → is_in waits n ≡ false → R (f n) (g n)) where
  pub covered : (ks ns : List ℕ) → covers waits after_ ks ns ≡ true → (i : ℕ) → is_in after_ i ≡ false → R (paired f d ks ns i) (paired g e ks ns i)
  covered [] ns h i out = rest
  covered (k ∷ ks) [] h i out = rest
  covered (k ∷ ks) (n ∷ ns) h i out =
      by (nat_eq k i) refl (covered ks ns (and_second (not (is_in waits n) || is_in after_ k) (covers waits after_ ks ns) h) i out)
    where
      free : (a b : Bool) → (not a || b) ≡ true → b ≡ false → a ≡ false
      free false b p q = refl
      free true b p q = sym p ∙ q

      by : (b : Bool) → nat_eq k i ≡ b → R (paired f d ks ns i) (paired g e ks ns i)
          → R (if b then f n else paired f d ks ns i) (if b then g n else paired g e ks ns i)
      by true p go =
          known n (free (is_in waits n) (is_in after_ k) (and_first (not (is_in waits n) || is_in after_ k) (covers waits after_ ks ns) h)
          (ap (is_in after_) (eqb-true k i p) ∙ out))
      by false p go = go

-- ---- the row of a visit

-- of a working table: a flag, a number, the columns, and the result and the class
abbrev pub work : Bool → ℕ → List Value → Value → Value → List Value
work go a row v c = val.Bool go ∷ val.Int (pos a) ∷ (row ++ (v ∷ c ∷ []))

pub work_long : (go : Bool) (a : ℕ) (row : List Value) (v c : Value) (n : ℕ) → length row ≡ n → length (work go a row v c) ≡ suc (suc (suc (suc n)))
work_long go a row v c n h = ap (λ k. suc (suc k)) (long row) ∙ ap (λ k. suc (suc (suc (suc k)))) h
  where
    long : (row : List Value) → length (row ++ (v ∷ c ∷ [])) ≡ suc (suc (length row))
    long [] = refl
    long (x ∷ row) = ap suc (long row)

-- the number of a call's label, and that of a finished row
abbrev pub number_of : Style → ℕ → ℕ → ℕ
number_of style a i = if style.alone then a else suc i

abbrev pub none_of : Style → ℕ → ℕ
none_of style a = if style.alone then a else 0

-- what a visit makes of a row with the number a and these columns
abbrev pub row_of : Style → ℕ → List Value → Visited → Or (List Value)
row_of style a row (gives v) = Ok (work false (none_of style a) row v val.Null)
row_of style a row (raises c) = Ok (work false (none_of style a) row val.Null (val.Text c.code))
row_of style a row (faults c) = Err c
row_of style a row (goes_on i next) = Ok (work true (number_of style a i) next val.Null val.Null)
row_of style a row stays = Ok (work false (none_of style a) row val.Null val.Null)

-- ---- rows that begin with that of the turn

-- The row of the turn, which goes on, is the first part of this one.
pub record Begun (columns : List Ty) (a : ℕ) (row y : List Value) : Type 0 where
  pub long : length row ≡ length columns
  pub over : Longer (work true a row val.Null val.Null) y

-- What cells come to over a row that is begun so. No cell is an aggregate, over whatever row.
pub record Comes (T : List Rows) (columns : List Ty) (a : ℕ) (row : List Value) (es : List Expr) (y : List Value) (o : Or (List Value)) : Type 0 where
  pub gives : Begun columns a row y → AtAll T es y o
  pub single : any_aggregates (all es) ≡ false

pub comes_as : (T : List Rows) (columns : List Ty) (a : ℕ) (row y : List Value) (es : List Expr) (o o' : Or (List Value)) → Comes T columns a row es y o
    → o ≡ o' → Comes T columns a row es y o'
comes_as T columns a row y es o o' c e = record { gives = λ b cx t. c.gives b cx t ∙ e; single = c.single }

abbrev pub value_or : Or Value → Value
value_or (Ok v) = v
value_or (Err c) = val.Null

pub value_fits : (o : Or Value) → IsOr o (value_or o)
value_fits (Ok v) = refl
value_fits (Err c) = tt

-- a term that waits, where it faults and where it doesn't
pub then_term : (style : Style) (a : ℕ) (row : List Value) (next : Value → Visited) (o : Or Value)
    → and_then o (λ u. row_of style a row (next (value_or o))) ≡ row_of style a row (with_term o next)
then_term style a row next (Ok v) = refl
then_term style a row next (Err c) = refl

pub out_first : (ws : List ℕ) (n m : ℕ) → is_in (ws ++ n ∷ []) m ≡ false → is_in ws m ≡ false
out_first [] n m h = refl
out_first (x ∷ ws) n m h =
    let first = or_first (nat_eq m x) (is_in (ws ++ n ∷ []) m) h in
    let rest = out_first ws n m (or_second (nat_eq m x) (is_in (ws ++ n ∷ []) m) h) in
    λ i. first i || rest i

pub out_last : (ws : List ℕ) (n m : ℕ) → is_in (ws ++ n ∷ []) m ≡ false → nat_eq m n ≡ false
out_last [] n m h = or_first (nat_eq m n) false h
out_last (x ∷ ws) n m h = out_last ws n m (or_second (nat_eq m x) (is_in (ws ++ n ∷ []) m) h)

pub reads_nothing : (ns : List ℕ) → reads_none [] ns ≡ true
reads_nothing [] = refl
reads_nothing (n ∷ ns) = reads_nothing ns

pub any_context : List Rows → Context
any_context T = record { env = []; args = []; frames = []; tables = T; group = [] }

-- ---- appended values

pub mapped_none : (z : Or (List Value)) → mapped (λ ws. ws) z ≡ z
mapped_none (Ok x) = refl
mapped_none (Err c) = refl

pub mapped_twice : (v : Value) (vs : List Value) (z : Or (List Value)) → mapped (λ ws. v ∷ ws) (mapped (λ ws. vs ++ ws) z) ≡ mapped (λ ws. (v ∷ vs) ++ ws) z
mapped_twice v vs (Ok x) = refl
mapped_twice v vs (Err c) = refl
