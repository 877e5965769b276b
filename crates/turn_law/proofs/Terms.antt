-- References over a row, and the terms that are placed with them.
use Rattle.std.proofs.Common.{◌≡◌, refl, ap, sym, ◌∙◌, subst, ℕ, ◌+◌, Bool, true, false, if◌then◌else◌, nat_lt, nat_eq, List, [], ◌∷◌, ◌++◌, length, slice_index_or, Ok, append-nil, arith}
use Rattle.std.proofs.lemmas.Bool.{ltb-true}
use Rattle.std.proofs.lemmas.List.{append_assoc, get_or-append-add}
use Rattle.std.specs.List.{list_all}
use Rattle.away_trees.specs.declared.queries.Expr.{Expr}
use Rattle.away_trees.specs.declared.queries.Expr.TheVariants as expr
use Rattle.away_trees.specs.declared.queries.Expr.TheBlock as b
use Rattle.away_trees.specs.declared.queries.Expr.TheOpen as ex
use Rattle.away_trees.specs.Algebra.{expr_of}
use Rattle.away_trees.proofs.Equations.{of_cast}
use Rattle.away_values.specs.declared.types.Ty.{Ty}
use Rattle.away_values.specs.declared.values.Value.{Value}
use Rattle.away_values.specs.declared.values.Value.TheVariants as val
use Rattle.away_values.specs.Operators.{cast}
use Rattle.away_values.specs.Results.{and_then}
use Rattle.sql_meaning.specs.Context.{Rows, Frame, Context, at}
use Rattle.sql_meaning.specs.Expressions.{constant, expr_meaning}
use Rattle.sql_meaning.specs.Meaning.{meaning, value, has_aggregate}
use Rattle.sql_meaning.specs.Placed.{with_cast, replacing}
use Rattle.sql_meaning.specs.Reads.{allows, reading, slots_of}
use Rattle.sql_meaning.proofs.Replacing.{replaced_deep}
use Rattle.sql_meaning.proofs.Same as same
use Rattle.sql_meaning.proofs.SelectRows.{null_cast}
use Rattle.block_forms.specs.declared.forms.Term.{Term}
use Rattle.call_forms.specs.Scopes.{Scope, paired}
use Rattle.cte_law.proofs.ScopesAlike.{at_held}
use Rattle.cte_law.proofs.Worlds.{World, expr_in, held_in, OverTables}
use Rattle.turn_template.specs.TurnTemplate.{Ref, of_column, no_ref, placed_ref}
use Rattle.turn_law.proofs.Levels.{At}

-- ---- longer rows

pub record Longer (r x : List Value) : Type 0 where
  pub more : List Value
  pub is : x ≡ r ++ more

pub as_long : (r : List Value) → Longer r r
as_long r = record { more = []; is = sym (append-nil r) }

pub longer_still : (r x y : List Value) → Longer r x → Longer x y → Longer r y
longer_still r x y h k = record { more = h.more ++ k.more; is = k.is ∙ (ap (λ z. z ++ k.more) h.is ∙ append_assoc r h.more k.more) }

pub one_longer : (r : List Value) (v : Value) → Longer r (r ++ v ∷ [])
one_longer r v = record { more = v ∷ []; is = refl }

pub last_at : (r more : List Value) (v : Value) → at ((r ++ v ∷ []) ++ more) (length r) ≡ v
last_at [] more v = refl
last_at (x ∷ r) more v = last_at r more v

-- ---- references

-- the row of the one item of a select, seen from so many selects further in
abbrev pub deep_in : List Value → Context → List Frame → List Frame → Context
deep_in r cx l g = record { env = cx.env; args = cx.args; frames = l ++ (r ∷ []) ∷ cx.frames; tables = cx.tables; group = g }

module _ (T : List Rows) where
  -- the reference has the value over the row, at each depth
  pub record Shows (x : Ref) (r : List Value) (v : Value) : Type 0 where
    pub single : (d : ℕ) → has_aggregate (x d) ≡ false
    pub gives : (d : ℕ) (cx : Context) → cx.tables ≡ T → (l g : List Frame) → same.Ready d l g → value (x d) (deep_in r cx l g) ≡ Ok v

  -- and over each longer row
  abbrev pub Holds : Ref → List Value → Value → Type 0
  Holds x r v = (y : List Value) → Longer r y → Shows x y v

  abbrev pub Hold : Scope Ref → List Value → Scope Value → Type 0
  Hold refs r s = (n : ℕ) → Holds (refs n) r (s n)

  -- the same of some names
  abbrev pub HoldOn : Scope Ref → List Value → Scope Value → List ℕ → Type 0
  HoldOn refs r s [] = Unit {0}
  HoldOn refs r s (n ∷ ns) = Holds (refs n) r (s n) × HoldOn refs r s ns

  pub hold_on : (refs : Scope Ref) (r : List Value) (s : Scope Value) (ns : List ℕ) → Hold refs r s → HoldOn refs r s ns
  hold_on refs r s [] h = tt
  hold_on refs r s (n ∷ ns) h = (h n, hold_on refs r s ns h)

  pub holds_still : (x : Ref) (r y : List Value) (v : Value) → Longer r y → Holds x r v → Holds x y v
  holds_still x r y v h k = λ z l. k z (longer_still r y z h l)

  column_shows : (j : ℕ) (r : List Value) → Shows (of_column j) r (at r j)
  column_shows j r = record {
    single = λ d. refl;
    gives = λ d cx t l g ready.
        let place : d ≡ length l + 0 = omega (arith, ready.size) in
        ap (λ k. Ok (at (slice_index_or (slice_index_or (l ++ (r ∷ []) ∷ cx.frames) k []) 0 []) j)) place
        ∙ ap (λ f. Ok (at (slice_index_or f 0 []) j)) (get_or-append-add l ((r ∷ []) ∷ cx.frames) 0 []);
  }

  -- the column that a row has more
  pub new_holds : (r : List Value) (m : ℕ) (v : Value) → length r ≡ m → Holds (of_column m) (r ++ v ∷ []) v
  new_holds r m v long y h =
      subst (λ n. Shows (of_column n) y v) long
      (subst (λ z. Shows (of_column (length r)) y z) (ap (λ z. at z (length r)) h.is ∙ last_at r h.more v) (column_shows (length r) y))

  pub none_holds : (r : List Value) → Holds no_ref r val.Null
  none_holds r y h = record { single = λ d. refl; gives = λ d cx t l g ready. refl }

  pub on_still : (refs : Scope Ref) (r y : List Value) (s : Scope Value) (ns : List ℕ) → Longer r y → HoldOn refs r s ns → HoldOn refs y s ns
  on_still refs r y s [] l h = tt
  on_still refs r y s (n ∷ ns) l h = (holds_still (refs n) r y (s n) l h.0, on_still refs r y s ns l h.1)

  by_key : (b : Bool) (x z : Ref) (r : List Value) (v u : Value) → Holds x r v → Holds z r u → Holds (if b then x else z) r (if b then v else u)
  by_key true x z r v u h k = h
  by_key false x z r v u h k = k

  pub paired_on : (refs : Scope Ref) (r : List Value) (s : Scope Value) (ks ns : List ℕ) → HoldOn refs r s ns → (i : ℕ)
      → Holds (paired refs no_ref ks ns i) r (paired s val.Null ks ns i)
  paired_on refs r s [] ns h i = none_holds r
  paired_on refs r s (k ∷ ks) [] h i = none_holds r
  paired_on refs r s (k ∷ ks) (n ∷ ns) h i =
      by_key (nat_eq k i) (refs n) (paired refs no_ref ks ns i) r (s n) (paired s val.Null ks ns i) h.0 (paired_on refs r s ks ns h.1 i)

  -- a column of the row, where the row is at hand
  pub column_holds : (r : List Value) (j : ℕ) (v : Value) → ((more : List Value) → at (r ++ more) j ≡ v) → Holds (of_column j) r v
  column_holds r j v there y h = subst (λ z. Shows (of_column j) y z) (ap (λ z. at z j) h.is ∙ there h.more) (column_shows j y)

  -- a reference where it stands
  pub here_is : (x : Ref) (r : List Value) (v : Value) → Holds x r v → At T (x 0) r (Ok v)
  here_is x r v h cx t = (h r (as_long r)).gives 0 cx t [] [] (record { size = refl; alone = λ z. refl })

-- ---- terms

-- What may be put in place of its name: it has a value in every scope, and reads nothing from outside itself but slots and tables, however deep.
pub record IsTotal (w : World) (u : Term) : Type 0 where
  pub worth : Scope Value → Value
  pub gives : (s : Scope Value) (l g : List Frame)
      → value (expr_in w u) (record { env = held_in w u s; args = []; frames = l; tables = w.tables; group = g }) ≡ Ok (worth s)
  pub reads : (d : ℕ) → list_all (allows (λ i. true) 0 (length w.tables)) (expr_of reading (expr_in w u) d) ≡ true

module _ (w : World) (ok : OverTables w) (T : List Rows)
    (sees : (k : ℕ) → nat_lt k (length w.tables) ≡ true → slice_index_or T k [] ≡ slice_index_or w.tables k []) where
  abbrev own : Scope Value → Term → same.Surroundings
  own s u = record { env = held_in w u s; args = []; outer = []; tables = w.tables }

  abbrev outer : List Value → Context → same.Surroundings
  outer r cx = record { env = cx.env; args = cx.args; outer = (r ∷ []) ∷ cx.frames; tables = cx.tables }

  module _ (r : List Value) (refs : Scope Ref) (s : Scope Value) (u : Term) (hold : HoldOn T refs r s u.names) (cx : Context) (t : cx.tables ≡ T) where
    abbrev ref : ℕ → Ref
    ref = paired refs no_ref (slots_of (expr_in w u)) u.names

    ref_holds : (i : ℕ) → Holds T (ref i) r (at (held_in w u s) i)
    ref_holds i =
        subst (λ v. Holds T (ref i) r v) (sym (at_held s (slots_of (expr_in w u)) u.names i))
        (paired_on T refs r s (slots_of (expr_in w u)) u.names hold i)

    abbrev Same : ℕ → Expr → Expr → Type 0
    Same d e e' = same.Same (own s u) (outer r cx) d (expr_of meaning e) (expr_of meaning e')

    leaf_same : (d i : ℕ) → true ≡ true → same.Same (own s u) (outer r cx) d (expr_meaning (ex.Slot i)) (expr_of meaning (ref i d))
    leaf_same d i h =
        let shows = ref_holds i r (as_long r) in
        (shows.single d, λ l g ready. shows.gives d cx t l g ready)

    cast_same : (e : Expr) (t : Ty) (v : Value) → expr_of meaning e ≡ constant v → cast t v ≡ Ok v → (d : ℕ)
        → same.Same (own s u) (outer r cx) d (constant v) (expr_of meaning (with_cast t e))
    cast_same e t v p q d = (
      ap (λ m. m.aggregates) (of_cast meaning e t) ∙ ap (λ m. m.aggregates) p,
      λ l g ready. ap (λ m. m.value (same.there (own s u) (outer r cx) l g)) (of_cast meaning e t)
          ∙ (ap (λ m. and_then (m.value (same.there (own s u) (outer r cx) l g)) (cast t)) p ∙ q),
    )

    abbrev Reads : Expr → ℕ → Type 0
    Reads e d = list_all (allows (λ i. true) 0 (length w.tables)) (expr_of reading e d) ≡ true

    put_same : (e : Expr) (d : ℕ) → Reads e d → Same d e (expr_of (replacing (λ d i. ref i d) with_cast) e d)
    put_same e d h =
        replaced_deep (own s u) (outer r cx) (λ i. true) 0 (length w.tables) (λ d i. ref i d) with_cast leaf_same cast_same
        (λ i h. absurd (omega (arith, ltb-true i 0 h))) (λ k h. ap (λ z. slice_index_or z k []) t ∙ sees k h) e d h

    pub placed_same : (ty : Ty) (e : Expr) (d : ℕ) → Reads e d → Same d e (placed_ref ty ref e d)
    placed_same ty b.Null d h = cast_same expr.Null ty val.Null refl (null_cast ty) d
    placed_same ty e d h = put_same e d h
