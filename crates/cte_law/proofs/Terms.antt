-- References and the values that they have in the frames, and what the item of a term gives.
use Rattle.std.proofs.Common.{◌≡◌, ℕ, zero, suc, ◌<◌, true, false, ◌||◌, List, [], ◌∷◌, ◌++◌, map, length, None, Ok, Err, refl, ap, sym, ◌∙◌, subst, arith}
use Rattle.std.specs.Prelude.{slice_index_or}
use Rattle.std.proofs.lemmas.Bool.{ltb-true}
use Rattle.std.proofs.lemmas.List.{get_or_append_left}
use Rattle.away_trees.specs.declared.queries.Col.{Col}
use Rattle.away_trees.specs.declared.queries.Expr.{Expr}
use Rattle.away_trees.specs.Algebra.{expr_of}
use Rattle.away_values.specs.declared.types.Ty.{Ty}
use Rattle.away_values.specs.declared.values.Value.{Value}
use Rattle.away_values.specs.declared.values.Value.TheVariants as val
use Rattle.away_values.specs.Results.{Or, and_then}
use Rattle.sql_meaning.specs.Context.{Rows, Frame, Context, at, column, inside}
use Rattle.sql_meaning.specs.Expressions.{values}
use Rattle.sql_meaning.specs.Meaning.{meaning, has_aggregate, rows_of_item, rows_of_select}
use Rattle.sql_meaning.specs.OneReturn.{body}
use Rattle.sql_meaning.specs.Placed.{placed_at}
use Rattle.sql_meaning.specs.Reads.{slots_of}
use Rattle.sql_meaning.specs.Substitution.{Keeps}
use Rattle.sql_meaning.specs.Trees.{select}
use Rattle.sql_meaning.proofs.Returns.{Sees}
use Rattle.sql_meaning.proofs.SelectRows.{none, more, rows_of, one_row, each_one, lateral_is}
use Rattle.sql_meaning.proofs.Substitution.{substitution}
use Rattle.block_forms.specs.declared.forms.Term.{Term}
use Rattle.call_forms.specs.Scopes.{Scope, paired}
use Rattle.call_forms.specs.Template.{here, deeper, outside, no_column, let_of}
use Rattle.cte_law.proofs.ScopesAlike.{paired_relates, at_held}
use Rattle.cte_law.proofs.Sequences.{alone}
use Rattle.cte_law.proofs.Worlds.{World, expr_in, value_in, held_in, value_is, OverTables}

-- ---- references

-- The column at a level, an item and a place holds the value. Of the row so far the item is there.
abbrev pub HoldsAt : Frame → List Frame → ℕ → ℕ → ℕ → Value → Type 0
HoldsAt frame outer zero i j v = (i < length frame) × (at (slice_index_or frame i []) j ≡ v)
HoldsAt frame outer (suc l) i j v = column outer (record { level = l; item = i; column = j }) ≡ v

abbrev pub Holds : Frame → List Frame → Col → Value → Type 0
Holds frame outer c v = HoldsAt frame outer c.level c.item c.column v

-- each name's column holds its value
abbrev pub Hold : Frame → List Frame → Scope Col → Scope Value → Type 0
Hold frame outer refs s = (n : ℕ) → Holds frame outer (refs n) (s n)

seen_at : (frame : Frame) (outer : List Frame) (l i j : ℕ) (v : Value) → HoldsAt frame outer l i j v
    → column (frame ∷ outer) (record { level = l; item = i; column = j }) ≡ v
seen_at frame outer zero i j v h = h.1
seen_at frame outer (suc l) i j v h = h

pub seen : (frame : Frame) (outer : List Frame) (c : Col) (v : Value) → Holds frame outer c v → column (frame ∷ outer) c ≡ v
seen frame outer c v h = seen_at frame outer c.level c.item c.column v h

-- ---- an item more

grown : (frame : Frame) (row : List Value) → length (frame ++ row ∷ []) ≡ suc (length frame)
grown [] row = refl
grown (x ∷ frame) row = ap suc (grown frame row)

longer : (frame : Frame) (row : List Value) (i : ℕ) → i < length frame → i < length (frame ++ row ∷ [])
longer frame row i h = subst (λ n. i < n) (sym (grown frame row)) (omega (arith, h))

item_more : (frame : Frame) (outer : List Frame) (row : List Value) (l i j : ℕ) (v : Value) → HoldsAt frame outer l i j v
    → HoldsAt (frame ++ row ∷ []) outer l i j v
item_more frame outer row zero i j v h =
    (longer frame row i h.0, ap (λ (r : List Value). at r j) (get_or_append_left frame (row ∷ []) [] i h.0) ∙ h.1)
item_more frame outer row (suc l) i j v h = h

pub keeps : (frame : Frame) (outer : List Frame) (row : List Value) (c : Col) (v : Value) → Holds frame outer c v
    → Holds (frame ++ row ∷ []) outer c v
keeps frame outer row c v h = item_more frame outer row c.level c.item c.column v h

-- the new item
last_there : (frame : Frame) (row : List Value) → length frame < length (frame ++ row ∷ [])
last_there frame row = subst (λ n. length frame < n) (sym (grown frame row)) (omega arith)

pub last_is : (frame : Frame) (row : List Value) → slice_index_or (frame ++ row ∷ []) (length frame) [] ≡ row
last_is [] row = refl
last_is (x ∷ frame) row = last_is frame row

pub new_holds : (frame : Frame) (outer : List Frame) (row : List Value) (m j : ℕ) → m ≡ length frame
    → Holds (frame ++ row ∷ []) outer (here m j) (at row j)
new_holds frame outer row m j p =
    subst (λ m. Holds (frame ++ row ∷ []) outer (here m j) (at row j)) (sym p)
    (last_there frame row, ap (λ (r : List Value). at r j) (last_is frame row))

pub one_more : (frame : Frame) (row : List Value) (m : ℕ) → m ≡ length frame → suc m ≡ length (frame ++ row ∷ [])
one_more frame row m p = ap suc p ∙ sym (grown frame row)

-- one select further in
pub deeper_holds : (inner frame : Frame) (outer : List Frame) (c : Col) (v : Value) → Holds frame outer c v → Holds inner (frame ∷ outer) (deeper c) v
deeper_holds inner frame outer c v h = seen frame outer c v h

-- ---- the item of a term

abbrev pub let_part : Or Value → Or Rows
let_part (Ok v) = Ok ((v ∷ []) ∷ [])
let_part (Err c) = Err c

module _ (w : World) (ok : OverTables w) (cx : Context) (sees : Sees w.tables cx) (frame : Frame) (out : ℕ) (refs : Scope Col) (s : Scope Value)
    (nil : Holds frame cx.frames (no_column out) val.Null) (hold : Hold frame cx.frames refs s) (ty : Ty) (t : Term) where
  abbrev ref : ℕ → Col
  ref = paired (outside refs) (deeper (no_column out)) (slots_of (expr_in w t)) t.names

  abbrev lowered : Expr
  lowered = placed_at ty ref (expr_in w t)

  abbrev there : Context
  there = inside [] (inside frame cx)

  holds_slot : (i : ℕ) → column there.frames (ref i) ≡ at (held_in w t s) i
  holds_slot i =
      paired_relates (λ c v. column ([] ∷ frame ∷ cx.frames) c ≡ v) (outside refs) s (deeper (no_column out)) val.Null
      (λ n. seen frame cx.frames (refs n) (s n) (hold n)) (seen frame cx.frames (no_column out) val.Null nil) (slots_of (expr_in w t)) t.names i
      ∙ sym (at_held s (slots_of (expr_in w t)) t.names i)

  same : Keeps (body w.tables (held_in w t s)) there (expr_in w t) lowered
  same =
      (substitution ref (λ i. true) 0 (length w.tables) (body w.tables (held_in w t s)) there
      (record { params_are = λ i h. absurd (omega (arith, ltb-true i 0 h)); tables_are = sees; no_group = refl; no_rows = refl })
      (λ i h. holds_slot i) (expr_in w t) (ok t.expr).reads_own).1
      ty

  single : has_aggregate lowered ≡ false
  single = same.single ∙ (ok t.expr).single

  let_select : (o : Or Value) → value_in w t s ≡ o → rows_of_select (select (lowered ∷ []) [] None) (inside frame cx) ≡ let_part o
  let_select (Ok v) h =
      one_row (inside frame cx) (lowered ∷ []) [] None ([] ∷ []) [] (v ∷ []) refl refl
      (more there lowered [] v [] (record { gives = same.same ∙ (sym (value_is w t s) ∙ h); single = single }) (none there))
  let_select (Err c) h =
      rows_of (inside frame cx) (lowered ∷ []) [] None ([] ∷ []) ([] ∷ []) (Err c) refl refl (λ i. single i || false)
      (each_one (λ f. values (inside f (inside frame cx)) (map (λ e. expr_of meaning e) (lowered ∷ []))) [] (Err c)
      (ap (λ x. and_then x (λ y. Ok (y ∷ []))) (same.same ∙ (sym (value_is w t s) ∙ h))))

  -- it has one row of one column, the term's value
  pub let_rows : rows_of_item (let_of w.table w.types w.tail.columns w.result out refs ty t) cx frame ≡ let_part (value_in w t s)
  let_rows =
      lateral_is (select (lowered ∷ []) [] None) cx frame (let_part (value_in w t s)) (let_select (value_in w t s) refl) ∙ alone (let_part (value_in w t s))
