-- Several turns by the labels that are called, over a row that stands for a state.
use Rattle.std.proofs.Common.{◌≡◌, refl, ap, sym, subst, ℕ, zero, suc, ◌<◌, Bool, true, nat_lt, List, [], ◌∷◌, ◌++◌, length, slice_index_or, Option, Some, None, Ok, Err, arith}
use Rattle.std.specs.Prelude.{slice_get}
use Rattle.away_trees.specs.declared.queries.Expr.{Expr}
use Rattle.away_values.specs.declared.values.Class.{Class}
use Rattle.away_values.specs.declared.values.Value.{Value}
use Rattle.away_values.specs.declared.values.Value.TheVariants as val
use Rattle.away_values.specs.Results.{Or}
use Rattle.sql_meaning.specs.Context.{Rows}
use Rattle.block_forms.specs.declared.forms.Term.{Term}
use Rattle.cte_law.proofs.Branches.{visit_at}
use Rattle.cte_law.proofs.Visits.{Visited, gives, raises, faults, goes_on, stays}
use Rattle.cte_law.proofs.WorkingRows.{call_row}
use Rattle.cte_law.proofs.Worlds.{World, OverTables}
use Rattle.turn_template.specs.TurnTemplate as turn
use Rattle.turn_template.specs.TurnTemplate.{Style, is_single, told_by}
use Rattle.turn_law.proofs.Levels.{good, bad, Levels, AllSingle, levels_join, levels_fault, all_single}
use Rattle.turn_law.proofs.RowCells.{row_of}
use Rattle.turn_law.proofs.States.{turn_at, turned_once, turned, Inner, IsWide, wide_at, once_wide, Finished, Stands, fault_stands, call_stands}
use Rattle.turn_law.proofs.Terms.{IsTotal}
use Rattle.turn_law.proofs.Turns.{one_turn, over_turn, found_turn, turn_single}

pub same_row : {r z : List Value} → good r ≡ good z → r ≡ z
same_row {r} {z} h = ap get h
  where
    get : Or (List Value) → List Value
    get (Ok x) = x
    get (Err c) = r

never_row : {c : Class} {z : List Value} → good z ≡ bad c → ⊥
never_row h = cc

-- a place is there
there : (xs : List ℕ) (i : ℕ) → i < length xs → slice_get xs i ≡ None → ⊥
there [] i less e = omega (arith, less)
there (x ∷ xs) zero less e = cc
there (x ∷ xs) (suc i) less e = there xs i (omega (arith, less)) e

module _ (w : World) (ok : OverTables w) (T : List Rows)
    (sees : (k : ℕ) → nat_lt k (length w.tables) ≡ true → slice_index_or T k [] ≡ slice_index_or w.tables k [])
    (total : Term → Bool) (totals : (u : Term) → total u ≡ true → IsTotal w u) (same : Expr → Expr → Bool) (alike : (x y : Expr) → same x y ≡ true → x ≡ y)
    (heads : List ℕ) (inner : Inner w heads) where
  abbrev style : Style
  style = told_by same heads

  abbrev wide : Visited → Type 0
  wide x = IsWide w heads x

  abbrev stand : Visited → Or (List Value) → Type 0
  stand x o = Stands w (is_single heads) x o

  abbrev once : List (List Expr)
  once = one_turn w ok T sees total totals style alike 0 heads

  -- these levels make of the row what stands for the state
  pub record Turned (levels : List (List Expr)) (r : List Value) (x : Visited) : Type 0 where
    pub outcome : Or (List Value)
    pub comes : Levels T levels r outcome
    pub stands : stand x outcome

  call_turn : (i : ℕ) (row : List Value) → wide (goes_on i row) → (o : Option ℕ) → slice_get heads i ≡ o → slice_get w.tail.labels i ≡ o
      → Turned once (call_row [] i row) (turn_at w i row o)
  call_turn i row h None missed e = absurd (there heads i h.1.0 missed)
  call_turn i row h (Some b) found e = record {
    outcome = row_of style (suc i) row (visit_at w i b row);
    comes = found_turn w ok T sees total totals style alike 0 heads (λ p. p) i row h.0 i b (omega arith) found;
    stands = call_stands w same heads i row h.0 h.1.0 (visit_at w i b row) (wide_at w heads inner i row h (Some b) e);
  }

  end_turn : (x : Visited) (v c : Value) (r : List Value) → Finished (is_single heads) w.tail.columns (good r) v c
      → ((o : Or (List Value)) → Finished (is_single heads) w.tail.columns o v c → stand x o) → Turned once r x
  end_turn x v c r h as_ = record {
    outcome = good r;
    comes =
        subst (λ z. Levels T once z (good z)) (sym (same_row h.is))
        (over_turn w ok T sees total totals style alike 0 heads h.number h.row v c h.long h.none);
    stands = as_ (good r) h;
  }

  turn_rows : (x : Visited) → wide x → (r : List Value) → stand x (good r) → Turned once r (turned_once w x)
  turn_rows (goes_on i row) h r e =
      subst (λ z. Turned once z (turned_once w (goes_on i row))) (sym (same_row e))
      (call_turn i row h (slice_get w.tail.labels i) h.1.1 refl)
  turn_rows (gives v) h r e = end_turn (gives v) v val.Null r e (λ o f. f)
  turn_rows (raises c) h r e = end_turn (raises c) val.Null (val.Text c.code) r e (λ o f. f)
  turn_rows (faults c) h r e = absurd (never_row e)
  turn_rows stays h r e = end_turn stays val.Null val.Null r e (λ o f. f)

  abbrev pub all_turns : ℕ → List (List Expr)
  all_turns k = turn.turns w.table w.types w.result total same w.anf w.tail w.goto.entry heads k

  -- a turn more
  one_more : (k : ℕ) (r : List Value) (x : Visited) (o : Or (List Value)) → Levels T once r o → stand x o
      → ((z : List Value) → stand x (good z) → Turned (all_turns k) z (turned w k x)) → Turned (once ++ all_turns k) r (turned w k x)
  one_more k r x (Ok z) comes s go =
      let rest = go z s in
      record { outcome = rest.outcome; comes = levels_join T once (all_turns k) r z rest.outcome comes rest.comes; stands = rest.stands }
  one_more k r x (Err c) comes s go =
      record { outcome = bad c; comes = levels_fault T once (all_turns k) r c comes; stands = fault_stands w (is_single heads) k x c s }

  pub turns_rows : (k : ℕ) (x : Visited) → wide x → (r : List Value) → stand x (good r) → Turned (all_turns k) r (turned w k x)
  turns_rows zero x h r s = record { outcome = good r; comes = refl; stands = s }
  turns_rows (suc k) x h r s =
      let first = turn_rows x h r s in
      one_more k r (turned_once w x) first.outcome first.comes first.stands (λ z i. turns_rows k (turned_once w x) (once_wide w heads inner x h) z i)

  pub turns_single : (k : ℕ) → AllSingle (all_turns k)
  turns_single zero = tt
  turns_single (suc k) =
      all_single T once (all_turns k) (turn_single w ok T sees total totals style alike 0 heads) (turns_single k)
