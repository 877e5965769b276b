-- An argument has the same value where it stands further in.
use Rattle.std.proofs.Common.{◌≡◌, refl, ap, sym, ◌∙◌, ℕ, zero, suc, ◌+◌, ◌≤◌, ◌<◌, Bool, true, false, if◌then◌else◌, nat_lt, List, [], ◌∷◌, ◌++◌, length, slice_index_or, Ok, arith}
use Rattle.std.proofs.Math.ListN.{get_or-append}
use Rattle.std.proofs.lemmas.List.{get_or-append-add}
use Rattle.std.proofs.lemmas.Bool.{ltb-false, ltb-true}
use Rattle.std.specs.List.{list_all}
use Rattle.away_trees.specs.Algebra.{expr_of}
use Rattle.away_trees.specs.declared.queries.Col.{Col}
use Rattle.away_trees.specs.declared.queries.Expr.{Expr}
use Rattle.away_trees.specs.declared.queries.Expr.TheOpen as ex
use Rattle.away_values.specs.declared.values.Value.{Value}
use Rattle.sql_meaning.specs.Context.{Rows, Frame, at, column}
use Rattle.sql_meaning.specs.Expressions.{ExprMeaning, expr_meaning}
use Rattle.sql_meaning.specs.Meaning.{meaning}
use Rattle.sql_meaning.specs.Placed.{further}
use Rattle.sql_meaning.specs.Reads.{Read, Table, reads}
use Rattle.sql_meaning.proofs.Same as same
use Rattle.inline_law.specs.Moved.{same_slot, outward, deeper}
use Rattle.inline_law.proofs.Moving.{moved_same}

-- behind the rows of its own selects a column stands further out, past the rows between
past_rows : (own extra outer : List Frame) (k : ℕ) → length own ≤ k
    → slice_index_or (own ++ (extra ++ outer)) (k + length extra) [] ≡ slice_index_or (own ++ outer) k []
past_rows [] extra outer k h =
    let turned : k + length extra ≡ length extra + k = omega arith in
    ap (λ n. slice_index_or (extra ++ outer) n []) turned ∙ get_or-append-add extra outer k []
past_rows (x ∷ own) extra outer zero h = absurd (omega (arith, h))
past_rows (x ∷ own) extra outer (suc k) h =
    let next : suc k + length extra ≡ suc (k + length extra) = omega arith in
    ap (λ n. slice_index_or ((x ∷ own) ++ (extra ++ outer)) n []) next ∙ past_rows own extra outer k (omega (arith, h))

module _ (env args : List Value) (outer extra : List Frame) (T U : List Rows) where
  abbrev pub one : same.Surroundings
  one = record { env = env; args = args; outer = outer; tables = T }

  abbrev pub two : same.Surroundings
  two = record { env = env; args = args; outer = extra ++ outer; tables = U }

  abbrev Same : ℕ → ExprMeaning → ExprMeaning → Type 0
  Same = same.Same one two

  column_moved : (d : ℕ) (c : Col) (b : Bool) → nat_lt c.level d ≡ b → (l g : List Frame) → same.Ready d l g
      → column (l ++ two.outer) (if b then c else further (length extra) c) ≡ column (l ++ outer) c
  column_moved d c true p l g r =
      let below : c.level < length l = (let low = ltb-true c.level d p in omega (arith, low, r.size)) in
      ap (λ (f : Frame). at (slice_index_or f c.item []) c.column) (get_or-append l two.outer [] c.level below ∙ sym (get_or-append l outer [] c.level below))
  column_moved d c false p l g r =
      ap (λ (f : Frame). at (slice_index_or f c.item []) c.column)
      (past_rows l extra outer c.level (let low = ltb-false c.level d p in omega (arith, low, r.size)))

  outward_same : (d : ℕ) (c : Col) → Same d (expr_meaning (ex.Column c)) (expr_of meaning (outward (length extra) d c))
  outward_same d c = (
    refl,
    λ l g r.
        ap (λ (b : Bool). Ok (column (l ++ two.outer) (if b then c else further (length extra) c))) refl
        ∙ ap Ok (column_moved d c (nat_lt c.level d) refl l g r),
  )

  pub deeper_same : (ok : Read → Bool) → ((k : ℕ) → ok (Table k) ≡ true → slice_index_or U k [] ≡ slice_index_or T k []) → (e : Expr)
      → list_all ok (reads e) ≡ true
      → Same 0 (expr_of meaning e) (expr_of meaning (deeper (length extra) e))
  deeper_same ok stands e h =
      moved_same one two ok same_slot (outward (length extra)) (λ d i k. (refl, λ l g r. refl)) outward_same (λ i. refl) stands 0 e h
