-- Substitution, and that only the slots that are read matter.
use Rattle.std.proofs.Common.{◌≡◌, refl, ap, sym, ◌∙◌, ℕ, suc, ◌+◌, Bool, true, false, not, ◌||◌, ◌==◌, if◌then◌else◌, subst, nat_lt, length, List, [], ◌∷◌, ◌++◌, slice_index_or, filter, Ok, All, arith}
use Rattle.std.proofs.lemmas.Bool.{eqb-true, eq-eqb}
use Rattle.std.proofs.lemmas.List.{get_or-append-add}
use Rattle.std.specs.List.{list_all, list_any, filter_map}
use Rattle.away_values.specs.declared.types.Ty.{Ty}
use Rattle.away_values.specs.declared.values.Value.{Value}
use Rattle.away_values.specs.declared.values.Value.TheVariants as val
use Rattle.away_trees.specs.declared.queries.Col.{Col}
use Rattle.away_trees.specs.declared.queries.Expr.{Expr}
use Rattle.away_trees.specs.declared.queries.Expr.TheVariants as expr
use Rattle.away_trees.specs.declared.queries.Expr.TheBlock as b
use Rattle.away_trees.specs.declared.queries.Expr.TheOpen as ex
use Rattle.away_values.specs.Operators.{cast}
use Rattle.away_values.specs.Results.{and_then}
use Rattle.away_trees.specs.Algebra.{expr_of}
use Rattle.away_trees.proofs.Equations.{of_cast}
use Rattle.sql_meaning.specs.Context.{Context, at, column}
use Rattle.sql_meaning.specs.Expressions.{constant, expr_meaning}
use Rattle.sql_meaning.specs.Meaning.{meaning, value}
use Rattle.sql_meaning.specs.Placed.{column_of, with_cast, placed, placed_at}
use Rattle.sql_meaning.specs.Reads.{Read, Slot, Param, Table, Outer, reads, allows, fits, slot_of, first_occurrences, slots_of}
use Rattle.sql_meaning.specs.Substitution.{SeesAlike, Keeps, Substitution, OnlySlotsMatter}
use Rattle.sql_meaning.proofs.Replacing.{replaced_same}
use Rattle.sql_meaning.proofs.Reading.{reads_same}
use Rattle.sql_meaning.proofs.Same as same
use Rattle.sql_meaning.proofs.SelectRows.{null_cast}
use Rattle.sql_meaning.proofs.Uses.{and_first, and_second, both_true}

-- what stands outside an expression in a context
abbrev around : Context → same.Surroundings
around cx = record { env = cx.env; args = cx.args; outer = cx.frames; tables = cx.tables }

module _ (cx qx : Context) where
  -- where the expression stands
  keeps : cx.group ≡ [] → qx.group ≡ [] → (e e' : Expr) → same.Same (around cx) (around qx) 0 (expr_of meaning e) (expr_of meaning e') → Keeps cx qx e e'
  keeps p q e e' s = record {
    same = (λ i. value e' (record qx { group = q i })) ∙ (s.1 [] [] (record { size = refl; alone = λ z. refl }) ∙ (λ i. value e (record cx { group = sym p i })));
    single = s.0;
  }

  -- a literal under a cast that keeps its value
  cast_keeps : (e : Expr) (t : Ty) (v : Value) → expr_of meaning e ≡ constant v → cast t v ≡ Ok v → (d : ℕ) → same.Same (around cx) (around qx) d (constant v) (expr_of meaning (expr.Cast e t))
  cast_keeps e t v p q d =
      (ap (λ m. m.aggregates) (of_cast meaning e t) ∙ ap (λ m. m.aggregates) p, λ l g r. ap (λ m. m.value (same.there (around cx) (around qx) l g)) (of_cast meaning e t) ∙ (ap (λ m. and_then (m.value (same.there (around cx) (around qx) l g)) (cast t)) p ∙ q))

  -- a column further out
  outward : (ref : ℕ → Col) (slots : ℕ → Bool) → ((i : ℕ) → slots i ≡ true → column qx.frames (ref i) ≡ at cx.env i) → (d i : ℕ) → slots i ≡ true → same.Same (around cx) (around qx) d (expr_meaning (ex.Slot i)) (expr_of meaning (column_of ref d i))
  outward ref slots shows d i h = (
    refl,
    λ l g r.
        let place : (ref i).level + d ≡ length l + (ref i).level = omega (arith, r.size) in
        ap (λ k. Ok (at (slice_index_or (slice_index_or (l ++ qx.frames) k []) (ref i).item []) (ref i).column)) place
        ∙ (ap (λ f. Ok (at (slice_index_or f (ref i).item []) (ref i).column)) (get_or-append-add l qx.frames (ref i).level [])
        ∙ ap Ok (shows i h)),
  )

module _ (ref : ℕ → Col) (slots : ℕ → Bool) (params tables : ℕ) (cx qx : Context) (alike : SeesAlike params tables cx qx) (shows : (i : ℕ) → slots i ≡ true → column qx.frames (ref i) ≡ at cx.env i) where
  at_place : (e : Expr) → fits slots params tables e ≡ true → Keeps cx qx e (placed ref e)
  at_place e h =
      keeps cx qx alike.no_group alike.no_rows e (placed ref e) (replaced_same (around cx) (around qx) slots params tables (column_of ref) with_cast (outward cx qx ref slots shows) (cast_keeps cx qx) alike.params_are alike.tables_are e h)

  at_typed_place : (t : Ty) (e : Expr) → fits slots params tables e ≡ true → Keeps cx qx e (placed_at t ref e)
  at_typed_place t b.Null h = keeps cx qx alike.no_group alike.no_rows expr.Null (with_cast t expr.Null) (cast_keeps cx qx expr.Null t val.Null refl (null_cast t) 0)
  at_typed_place t e h = at_place e h

pub substitution : Substitution
substitution ref slots params tables cx qx alike shows e h =
    (at_place ref slots params tables cx qx alike shows e h, λ t. at_typed_place ref slots params tables cx qx alike shows t e h)

-- ---- only the slots that are read

-- whether a number is in a list
abbrev is_in : List ℕ → ℕ → Bool
is_in xs i = list_any (λ x. x == i) xs

or_true : (a b : Bool) → b ≡ true → (a || b) ≡ true
or_true true b h = refl
or_true false b h = h

or_else : (a b : Bool) → (a || b) ≡ true → a ≡ false → b ≡ true
or_else true b h k = cc
or_else false b h k = h

other_way : (x i : ℕ) → (x == i) ≡ false → (i == x) ≡ false
other_way x i p = by (i == x) refl
  where
    never : true ≡ false → ⊥
    never h = cc

    by : (e : Bool) → (i == x) ≡ e → (i == x) ≡ false
    by false q = q
    by true q = absurd (never (sym (eq-eqb x i (sym (eqb-true i x q))) ∙ p))

-- a test that holds of a number of a list keeps it
kept : (test : ℕ → Bool) (i : ℕ) (xs : List ℕ) → test i ≡ true → is_in xs i ≡ true → is_in (filter test xs) i ≡ true
kept test i [] t h = h
kept test i (x ∷ xs) t h = by (kept test i xs t) (x == i) refl (test x) refl
  where
    by : (is_in xs i ≡ true → is_in (filter test xs) i ≡ true) → (e : Bool) → (x == i) ≡ e → (k : Bool) → test x ≡ k → is_in (filter test (x ∷ xs)) i ≡ true
    by go true p true q = (λ j. is_in (if q j then x ∷ filter test xs else filter test xs) i) ∙ ap (λ b. b || is_in (filter test xs) i) p
    by go true p false q = absurd (false_true (sym q ∙ (ap test (eqb-true x i p) ∙ t)))
      where
        false_true : false ≡ true → ⊥
        false_true h = cc
    by go false p true q = (λ j. is_in (if q j then x ∷ filter test xs else filter test xs) i) ∙ or_true (x == i) _ (go (or_else (x == i) _ h p))
    by go false p false q = (λ j. is_in (if q j then x ∷ filter test xs else filter test xs) i) ∙ go (or_else (x == i) _ h p)

-- each number of a list is among its first occurrences
first_is_in : (i : ℕ) (xs : List ℕ) → is_in xs i ≡ true → is_in (first_occurrences xs) i ≡ true
first_is_in i [] h = h
first_is_in i (x ∷ xs) h = by (first_is_in i xs) (x == i) refl
  where
    by : (is_in xs i ≡ true → is_in (first_occurrences xs) i ≡ true) → (e : Bool) → (x == i) ≡ e → is_in (first_occurrences (x ∷ xs)) i ≡ true
    by go true p = ap (λ b. b || is_in (filter (λ y. not (y == x)) (first_occurrences xs)) i) p
    by go false p =
        let apart : not (i == x) ≡ true = ap not (other_way x i p) in
        or_true (x == i) _ (kept (λ y. not (y == x)) i (first_occurrences xs) apart (go (or_else (x == i) _ h p)))

-- contexts that agree at each number of a list agree at each that is in it
module _ (cx qx : Context) where
  agrees : (xs : List ℕ) → All (λ i. at qx.env i ≡ at cx.env i) xs → (i : ℕ) → is_in xs i ≡ true → at qx.env i ≡ at cx.env i
  agrees [] h i m = absurd (never m)
    where
      never : false ≡ true → ⊥
      never h = cc
  agrees (x ∷ xs) h i m = by (agrees xs (λ k d l. h (suc k) d (omega (arith, l))) i) (x == i) refl
    where
      by : (is_in xs i ≡ true → at qx.env i ≡ at cx.env i) → (e : Bool) → (x == i) ≡ e → at qx.env i ≡ at cx.env i
      by go true p = subst (λ j. at qx.env j ≡ at cx.env j) (eqb-true x i p) (h 0 0 (omega arith))
      by go false p = go (or_else (x == i) _ m p)

-- what fits still fits with any slots among which are those that are read
module _ (p q : ℕ → Bool) (params tables : ℕ) where
  fits_still : (rs : List Read) → list_all (allows p params tables) rs ≡ true → ((i : ℕ) → is_in (filter_map slot_of rs) i ≡ true → q i ≡ true) → list_all (allows q params tables) rs ≡ true
  fits_still [] h go = refl
  fits_still (Slot i ∷ rs) h go =
      both_true (q i) (list_all (allows q params tables) rs) (go i (ap (λ b. b || is_in (filter_map slot_of rs) i) (eq-eqb i i refl))) (fits_still rs (and_second (p i) _ h) (λ j m. go j (or_true (i == j) _ m)))
  fits_still (Param i ∷ rs) h go = both_true (nat_lt i params) (list_all (allows q params tables) rs) (and_first (nat_lt i params) _ h) (fits_still rs (and_second (nat_lt i params) _ h) go)
  fits_still (Table i ∷ rs) h go = both_true (nat_lt i tables) (list_all (allows q params tables) rs) (and_first (nat_lt i tables) _ h) (fits_still rs (and_second (nat_lt i tables) _ h) go)
  fits_still (Outer c ∷ rs) h go = h

pub only_slots_matter : OnlySlotsMatter
only_slots_matter slots params tables cx qx alike e h reads_are =
    let q : ℕ → Bool = is_in (slots_of e) in
    let h' = fits_still slots q params tables (reads e) h (λ i m. first_is_in i (filter_map slot_of (reads e)) m) in
    (keeps cx qx alike.no_group alike.no_rows e e (reads_same (around cx) (around qx) q params tables (λ i m. agrees cx qx (slots_of e) reads_are i m) alike.params_are alike.tables_are e h')).same
