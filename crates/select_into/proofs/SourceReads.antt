-- What the expressions over the subquery read: what the select reads.
use Rattle.std.proofs.Common.{◌≡◌, refl, ap, sym, ◌∙◌, ℕ, Bool, true, false, pos, List, [], ◌∷◌, ◌++◌, append-nil, length, Option, Some, None}
use Rattle.std.specs.List.{list_all, filter_map}
use Rattle.away_values.specs.declared.operators.CmpOp.{CmpOp}
use Rattle.away_values.specs.declared.operators.CmpOp.TheVariants as cmp
use Rattle.away_values.specs.declared.types.Ty.{Ty}
use Rattle.away_values.specs.declared.values.Value.{Value}
use Rattle.away_trees.specs.declared.queries.Expr.{Expr}
use Rattle.away_trees.specs.declared.queries.Expr.TheVariants as expr
use Rattle.away_trees.specs.declared.queries.Select.{Select}
use Rattle.away_trees.specs.declared.queries.Expr.TheViews.{out-Select}
use Rattle.away_trees.specs.Algebra.{expr_of, from_of, select_of}
use Rattle.away_trees.proofs.Equations as eq
use Rattle.sql_meaning.specs.Context.{Rows, inside}
use Rattle.sql_meaning.specs.Meaning.{rows_of_select}
use Rattle.sql_meaning.specs.OneReturn.{body}
use Rattle.sql_meaning.specs.Reads.{Read, Reads, reading, reads, allows, slots_of, slot_of, first_occurrences, of_list, select_reads}
use Rattle.sql_meaning.specs.Trees.{item, one, col}
use Rattle.sql_meaning.proofs.Reading.{select_same}
use Rattle.plsql_meaning.specs.Sight.{query_of}
use Rattle.plsql_meaning.proofs.Readers.{query_reads_are, select_fits}
use Rattle.select_into.specs.Wrapped.{as_source, over_source, scalar_over, count_compared, value_names, no_row, more_rows, pick, pick_as, picked, select_slots}
use Rattle.select_into.specs.Entries.{unmarked}
use Rattle.select_into.specs.Laws.{IsSource, HasSlots, ReadsAs}
use Rattle.select_into.proofs.Casts.{picked_reads}
use Rattle.select_into.proofs.Deeper.{select_deeper, slots_deeper}

-- ---- what stands over it, by what the select reads one select further in

source_reads_are : (s : Select) → from_of reading (as_source s) 1 ≡ select_of reading s 1
source_reads_are s =
    ap (λ o. o (value_names (length (out-Select s).list)) 1) (eq.of_sub reading (one s) false)
    ∙ ap (λ (u : Reads). u 1) (eq.of_query reading (s ∷ [])) ∙ append-nil (select_of reading s 1)

abbrev scalar_reads : Reads → Option Reads → List Read → List Read
scalar_reads u m rs = of_list 0 (select_reads (record { list = u ∷ []; from = (λ d. rs) ∷ []; filter = None; order = []; limit = m }) ∷ [])

scalar_is : (e : Expr) (s : Select) → reads (scalar_over e None s) ≡ scalar_reads (expr_of reading e) None (select_of reading s 1)
scalar_is e s =
    ap (λ (u : Reads). u 0) (eq.of_scalar reading (one (over_source e None s)))
    ∙ ap (λ (u : Reads). u 0) (eq.of_query reading (over_source e None s ∷ []))
    ∙ ap (λ (u : Reads). of_list 0 (u ∷ [])) (eq.of_select reading (item e ∷ []) (as_source s ∷ []) None [] None)
    ∙ ap (scalar_reads (expr_of reading e) None) (source_reads_are s)

limited_is : (e l : Expr) (s : Select) → reads (scalar_over e (Some l) s) ≡ scalar_reads (expr_of reading e) (Some (expr_of reading l)) (select_of reading s 1)
limited_is e l s =
    ap (λ (u : Reads). u 0) (eq.of_scalar reading (one (over_source e (Some l) s)))
    ∙ ap (λ (u : Reads). u 0) (eq.of_query reading (over_source e (Some l) s ∷ []))
    ∙ ap (λ (u : Reads). of_list 0 (u ∷ [])) (eq.of_select reading (item e ∷ []) (as_source s ∷ []) None [] (Some l))
    ∙ ap (scalar_reads (expr_of reading e) (Some (expr_of reading l))) (source_reads_are s)

-- nothing else is read
bare : (rs : List Read) → ((rs ++ []) ++ []) ++ [] ≡ rs
bare rs = append-nil ((rs ++ []) ++ []) ∙ append-nil (rs ++ []) ∙ append-nil rs

counted_reads : (s : Select) → reads (scalar_over expr.CountRows None s) ≡ select_of reading s 1
counted_reads s = scalar_is expr.CountRows s ∙ bare (select_of reading s 1)

compared_reads : (op : CmpOp) (k : ℕ) (s : Select) → reads (count_compared op s (pos k)) ≡ select_of reading s 1
compared_reads op k s = ap (λ (u : Reads). u 0) (eq.of_compare reading op (scalar_over expr.CountRows None s) (expr.Int (pos k))) ∙ append-nil (reads (scalar_over expr.CountRows None s)) ∙ counted_reads s

no_row_reads : (s : Select) → reads (no_row s) ≡ select_of reading s 1
no_row_reads = compared_reads cmp.Eq 0

more_rows_reads : (s : Select) → reads (more_rows s) ≡ select_of reading s 1
more_rows_reads = compared_reads cmp.Gt 1

pick_reads : (s : Select) (place : ℕ) → reads (pick s place) ≡ select_of reading s 1
pick_reads s place = limited_is (col 0 0 place) (expr.Int (pos 1)) s ∙ bare (select_of reading s 1)

-- ---- the slots

abbrev slots_in : List Read → List ℕ
slots_in rs = first_occurrences (filter_map slot_of rs)

-- of an expression that reads what the select reads one select further in
have_slots : (s : Select) (e : Expr) → reads e ≡ select_of reading s 1 → HasSlots s e
have_slots s e h = record { same = ap slots_in h ∙ ap first_occurrences (slots_deeper (λ i. false) 0 0 s) }

-- the same under a cast
cast_reads : (c : Option Ty) (s : Select) (place : ℕ) → reads (pick_as c s place) ≡ select_of reading s 1
cast_reads None s place = pick_reads s place
cast_reads (Some t) s place = ap (λ (u : Reads). u 0) (eq.of_cast reading (pick s place) t) ∙ pick_reads s place

-- of the select with types for its literal NULLs, and without its marks
picked_deeper : (types : List Ty) (s : Select) → select_of reading (picked types s) 1 ≡ select_of reading s 1
picked_deeper types s = ap (λ (u : Reads). u 1) (picked_reads types s)

pub no_row_slots : (s : Select) → HasSlots s (no_row (unmarked s))
no_row_slots s = have_slots s (no_row (unmarked s)) (no_row_reads (unmarked s) ∙ picked_deeper [] s)

pub more_rows_slots : (s : Select) → HasSlots s (more_rows (unmarked s))
more_rows_slots s = have_slots s (more_rows (unmarked s)) (more_rows_reads (unmarked s) ∙ picked_deeper [] s)

pub pick_slots : (types : List Ty) (s : Select) (c : Option Ty) (place : ℕ) → HasSlots s (pick_as c (picked types s) place)
pick_slots types s c place = have_slots s (pick_as c (picked types s) place) (cast_reads c (picked types s) place ∙ picked_deeper types s)

pub slots_are : (s : Select) → slots_of (query_of s) ≡ select_slots s
slots_are s = ap slots_in (query_reads_are s)

-- ---- where the select reads slots and tables alone

module _ (slots : ℕ → Bool) (tables : ℕ) (s : Select) (x : IsSource slots tables s) where
  own : list_all (allows slots 0 tables) (select_of reading s 0) ≡ true
  own = select_fits slots tables s x.alone

  inner : select_of reading s 1 ≡ reads (query_of s)
  inner = select_deeper slots 0 tables s own ∙ sym (query_reads_are s)

  pub no_row_as : ReadsAs s (no_row s)
  no_row_as = record { same = no_row_reads s ∙ inner }

  pub more_rows_as : ReadsAs s (more_rows s)
  more_rows_as = record { same = more_rows_reads s ∙ inner }

  pub pick_read : (c : Option Ty) (place : ℕ) → ReadsAs s (pick_as c s place)
  pick_read c place = record { same = cast_reads c s place ∙ inner }

  -- its rows are the same one select further in
  pub rows_inside : (T : List Rows) (env : List Value) → rows_of_select s (inside [] (body T env)) ≡ rows_of_select s (body T env)
  rows_inside T env =
      select_same (record { env = env; args = []; outer = []; tables = T }) (record { env = env; args = []; outer = [] ∷ []; tables = T }) slots 0 tables (λ i h. refl) (λ i h. refl) (λ k h. refl) s own [] [] (record { size = refl; alone = λ z. refl })
