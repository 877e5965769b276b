-- The term of a body has its type where it is placed.
use Rattle.std.proofs.Common.{◌≡◌, refl, ap, sym, ◌∙◌, ℕ, suc, ◌≤◌, Bool, true, false, ◌||◌, if◌then◌else◌, List, [], ◌∷◌, ◌++◌, map, length, Some, arith}
use Rattle.std.specs.Prelude.{slice_get, nat_eq}
use Rattle.std.proofs.lemmas.Bool.{eqb-true}
use Rattle.away_trees.specs.declared.queries.Col.{Col}
use Rattle.away_trees.specs.declared.queries.Expr.{Expr}
use Rattle.away_trees.specs.Algebra.{expr_of}
use Rattle.away_typing.specs.declared.uses.Uses.{Uses}
use Rattle.away_typing.specs.Aggregates.{using_, outside}
use Rattle.away_typing.specs.Parameters.{finding}
use Rattle.away_typing.specs.Trees.{kind_of, uses_of}
use Rattle.away_typing.specs.Typing.{Places, Frame, column, kind_at}
use Rattle.away_values.specs.declared.types.Ty.{Ty}
use Rattle.call_forms.specs.Called.{Among}
use Rattle.sql_meaning.specs.Placed.{placed_at}
use Rattle.sql_meaning.specs.Reads.{slots_of}
use Rattle.cte_parts.specs.Columns.{column_beside}
use Rattle.cte_types.specs.Typed.{HasTypeBy}
use Rattle.cte_types.specs.Linked.{IsLinked}
use Rattle.cte_types.proofs.PlacedKinds.{kind_at_place, uses_at_place, params_at_place}
use Rattle.cte_types.proofs.SlotsRead.{is_in}
use Rattle.cte_types.proofs.Fine.{Calm, calm_is, Quiet, quiet_is, Fine, at_type}

-- what holds of an entry of the function's table
pub record IsEntry (e : Expr) : Type 0 where
  pub linked : IsLinked e
  pub quiet : Quiet (expr_of finding e)

-- ---- the columns beside slots

record Found (at : ℕ → Col) (slots names : List ℕ) (other : Col) (i : ℕ) : Type 0 where
  place : ℕ
  name : ℕ
  is : column_beside slots (map at names) other i ≡ at name
  slot : slice_get slots place ≡ Some i
  there : slice_get names place ≡ Some name

or_second : (a b : Bool) → (a || b) ≡ true → a ≡ false → b ≡ true
or_second true b h k = cc
or_second false b h k = h

found : (at : ℕ → Col) (slots names : List ℕ) (other : Col) → length names ≡ length slots → (i : ℕ) → is_in slots i ≡ true → Found at slots names other i
unfolding column_beside
found at [] names other size i h = absurd (never h)
  where
    never : false ≡ true → ⊥
    never h = cc
found at (s ∷ slots) [] other size i h = absurd (omega (arith, size))
found at (s ∷ slots) (n ∷ names) other size i h = by (λ h. found at slots names other (omega (arith, size)) i h) (nat_eq s i) refl
  where
    by : (is_in slots i ≡ true → Found at slots names other i) → (t : Bool) → nat_eq s i ≡ t → Found at (s ∷ slots) (n ∷ names) other i
    by rest true e = record {
      place = 0;
      name = n;
      is = ap (λ t. if t then at n else column_beside slots (map at names) other i) e;
      slot = ap (λ k. Some k) (eqb-true s i e);
      there = refl;
    }
    by rest false e =
        let more = rest (or_second (nat_eq s i) (is_in slots i) h e) in
        record {
          place = suc more.place;
          name = more.name;
          is = ap (λ t. if t then at n else column_beside slots (map at names) other i) e ∙ more.is;
          slot = more.slot;
          there = more.there;
        }

outer_beside : (at : ℕ → Col) (other : Col) → ((n : ℕ) → 1 ≤ (at n).level) → 1 ≤ other.level → (slots names : List ℕ) (i : ℕ)
    → 1 ≤ (column_beside slots (map at names) other i).level
unfolding column_beside
outer_beside at other h k [] names i = k
outer_beside at other h k (s ∷ slots) [] i = k
outer_beside at other h k (s ∷ slots) (n ∷ names) i = by (nat_eq s i) (outer_beside at other h k slots names i)
  where
    by : (t : Bool) → 1 ≤ (column_beside slots (map at names) other i).level → 1 ≤ (if t then at n else column_beside slots (map at names) other i).level
    by true g = h n
    by false g = g

-- ---- a term where it is placed

calm_of : (u : Uses) → u.limited ≡ false → (outside u).misused ≡ false → Calm u
unfolding outside
calm_of u l o = record { aggregate = second u.misused u.aggregate o; misused = first u.misused u.aggregate o; limited = l }
  where
    first : (a b : Bool) → (a || b) ≡ false → a ≡ false
    first true b h = cc
    first false b h = refl

    second : (a b : Bool) → (a || b) ≡ false → b ≡ false
    second true b h = cc
    second false b h = h

module _ (tables more : List (List Ty)) (types : ℕ → Ty) (at : ℕ → Col) (other : Col) (outer : (n : ℕ) → 1 ≤ (at n).level) (beyond : 1 ≤ other.level)
    (frames : List Frame) where
  abbrev here : Places
  here = record { slots = []; frames = frames; tables = tables ++ more }

  pub value_fine : (e : Expr) (names : List ℕ) (t : Ty) → HasTypeBy tables types names t e → length names ≡ length (slots_of e)
      → ((n : ℕ) → Among names n → at_type frames (at n) ≡ Some (types n)) → IsEntry e → Fine here
      (placed_at t (column_beside (slots_of e) (map at names) other) e) t
  unfolding column kind_of uses_of
  value_fine e names t typed size sees entry = record {
    kind = kind_at_place e ref typed.slots frames tables more t slot_column entry.linked typed.kind;
    calm = calm_is _ _ (uses_at_place e ref t (λ i. outer_beside at other outer beyond (slots_of e) names i))
        (calm_of (expr_of using_ e).uses typed.limited typed.outside_list);
    quiet = quiet_is _ _ (params_at_place e ref t) entry.quiet;
  }
    where
      ref : ℕ → Col
      ref i = column_beside (slots_of e) (map at names) other i

      slot_column : (i : ℕ) → is_in (slots_of e) i ≡ true → column frames (ref i) ≡ kind_at (slice_get typed.slots i)
      slot_column i w =
          let f = found at (slots_of e) names other size i w in
          ap (λ c. kind_at (at_type frames c)) f.is
          ∙ (ap kind_at (sees f.name (record { place = f.place; there = f.there })) ∙ ap kind_at (sym (typed.beside f.place i f.name f.slot f.there)))
