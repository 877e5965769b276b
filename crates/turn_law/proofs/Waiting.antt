-- Cells alone: what waits is evaluated in its cell, and the first of the cells that faults is the first term that does.
use Rattle.std.proofs.Common.{◌≡◌, refl, ap, sym, ◌∙◌, subst, ℕ, suc, Bool, true, false, not, ◌&&◌, ◌||◌, if◌then◌else◌, cond, nat_lt, pos, List, [], ◌∷◌, ◌++◌, length, slice_index_or, Option, Some, None, Ok, Err}
use Rattle.std.proofs.lemmas.Bool.{eqb-true}
use Rattle.away_trees.specs.declared.queries.Expr.{Expr}
use Rattle.away_values.specs.declared.types.Ty.{Ty}
use Rattle.away_values.specs.declared.types.Ty.TheVariants as ty
use Rattle.away_values.specs.declared.values.Class.{Class}
use Rattle.away_values.specs.declared.values.Value.{Value}
use Rattle.away_values.specs.declared.values.Value.TheVariants as val
use Rattle.away_values.specs.Operators.{is_true}
use Rattle.away_values.specs.Results.{Or, and_then, mapped}
use Rattle.sql_meaning.specs.Context.{Rows, Context, inside}
use Rattle.sql_meaning.specs.Expressions.{values, any_aggregates}
use Rattle.sql_meaning.specs.Meaning.{value, has_aggregate}
use Rattle.sql_meaning.specs.Trees.{null_of}
use Rattle.sql_meaning.proofs.SelectRows.{Is, is_truth, is_null_of, none, more}
use Rattle.sql_meaning.proofs.Uses.{and_first, and_second}
use Rattle.block_forms.specs.declared.forms.Term.{Term}
use Rattle.call_forms.specs.Bodies.{Body, sets, enters, picks, returns, fails, calls, endless}
use Rattle.call_forms.specs.Scopes.{Scope, paired}
use Rattle.call_forms.specs.TailRuns.{row_from}
use Rattle.cte_law.proofs.ScopesAlike.{paired_relates}
use Rattle.cte_law.proofs.Visits.{gives, goes_on, with_term, chosen, renewed, walked}
use Rattle.cte_law.proofs.Worlds.{World, expr_in, value_in, OverTables}
use Rattle.turn_template.specs.TurnTemplate.{Style, Ref, no_ref, names, choices, kept_result, kept_class, end_cells, row_cells, call_cells, text_of, width, is_in, reads_none, passed, is_name, is_passed, next_name, covers, renames, renamed, in_order, may_wait, waiting}
use Rattle.turn_law.proofs.Levels.{all, At, AtAll}
use Rattle.turn_law.proofs.Terms.{IsTotal}
use Rattle.turn_law.proofs.Settled.{ref_of, term_is, term_single, term_holds, total_is}
use Rattle.turn_law.proofs.Choices.{choices_true, choices_false, choices_single}
use Rattle.turn_law.proofs.RowCells.{not_true, IsOr, after_waits, answered, after_renew, after_end, answered_here, after_mapped, Begun, Comes, paired_named, after_renamed, work, number_of, none_of, row_of, value_or, value_fits, reads_nothing, any_context, mapped_none, mapped_twice, comes_as, then_term, calm_paired}
use Rattle.turn_law.proofs.EndCells as ends
use Rattle.turn_law.proofs.EndCells.{result_is, class_is, label_is, label_single}
use Rattle.turn_law.proofs.NamedTerms.{IsNamed, is_named, named_ref, named_value}
use Rattle.turn_law.proofs.Waits.{Waits, reads_known, put_total, put_waiting, put_names}

module _ (w : World) (ok : OverTables w) (T : List Rows)
    (sees : (k : ℕ) → nat_lt k (length w.tables) ≡ true → slice_index_or T k [] ≡ slice_index_or w.tables k [])
    (total : Term → Bool) (totals : (u : Term) → total u ≡ true → IsTotal w u) (style : Style) (alike : (x y : Expr) → style.same x y ≡ true → x ≡ y) where
  abbrev cells : Scope Ref → Body → List Expr
  cells refs x = waiting w.table w.types w.tail.columns w.result total style refs x

  abbrev may : List ℕ → Body → Bool
  may waits x = may_wait w.table w.types w.tail.columns w.result total style waits x

  abbrev ends_with : Expr → Expr → List Expr
  ends_with x y = end_cells w.table w.types w.tail.columns w.result total style x y

  abbrev row_at : ℕ → Scope Ref → List ℕ → List ℕ → List Ty → List Expr
  row_at i refs places args ts = row_cells w.table w.types w.tail.columns w.result total style i refs places args ts

  abbrev result_cell : Expr
  result_cell = kept_result w.table w.types w.tail.columns w.result total style

  abbrev class_cell : Expr
  class_cell = kept_class w.table w.types w.tail.columns w.result total style

  waiting_long : (x : Body) (refs : Scope Ref) → length (cells refs x) ≡ width w.table w.types w.tail.columns w.result total style
  waiting_long = ends.waiting_long w ok T sees total totals style alike

  ended_single : (x y : Expr) → has_aggregate x ≡ false → has_aggregate y ≡ false → any_aggregates (all (ends_with x y)) ≡ false
  ended_single = ends.ended_single w ok T sees total totals style alike

  -- ---- over one row

  module _ (a : ℕ) (row y : List Value) where
    abbrev comes : List Expr → Or (List Value) → Type 0
    comes es o = Comes T w.tail.columns a row es y o

    module _ (waits : List ℕ) (refs : Scope Ref) (s : Scope Value) (ans : Scope (Or Value)) (h : Waits T y waits refs s ans) where
      -- ---- a call passes what waits in its order

      abbrev answer_at : List ℕ → List ℕ → ℕ → Or Value
      answer_at places args i = paired ans (Ok val.Null) places args i

      abbrev cell_at : List ℕ → List ℕ → ℕ → Ty → Expr
      cell_at places args i t = paired (λ n. refs n 0) (null_of t) places args i

      cell_gives : (cx : Context) → cx.tables ≡ T → (places args : List ℕ) (i : ℕ) (t : Ty)
          → value (cell_at places args i t) (inside (y ∷ []) cx) ≡ answer_at places args i
      cell_gives cx e places args i t =
          paired_relates (λ (x : Expr) o. value x (inside (y ∷ []) cx) ≡ o) (λ n. refs n 0) ans (null_of t) (Ok val.Null) (λ n. h.gives n cx e)
          (is_null_of (inside (y ∷ []) cx) t).gives places args i

      cell_single : (places args : List ℕ) (i : ℕ) (t : Ty) → has_aggregate (cell_at places args i t) ≡ false
      cell_single places args i t =
          paired_relates (λ (x : Expr) (o : Or Value). has_aggregate x ≡ false) (λ n. refs n 0) ans (null_of t) (Ok val.Null) h.single
          (is_null_of (any_context []) t).single places args i

      cell_fits : (places args : List ℕ) (i : ℕ) → IsOr (answer_at places args i) (paired s val.Null places args i)
      cell_fits places args i = paired_relates IsOr ans s (Ok val.Null) val.Null h.fits refl places args i

      row_single : (es : List Expr) → any_aggregates (all es) ≡ false → (places args : List ℕ) (i : ℕ) (ts : List Ty)
          → any_aggregates (all (row_at i refs places args ts ++ es)) ≡ false
      row_single es k places args i [] = k
      row_single es k places args i (t ∷ ts) = λ j. cell_single places args i t j || row_single es k places args (suc i) ts j

      -- a cell of a value, before what is left
      one_known : (a : Or Value) (v : Value) (left : List ℕ) (row : List Value) (z : Or (List Value)) → a ≡ Ok v
          → and_then a (λ u. mapped (λ ys. u ∷ ys) (after_waits left ans (mapped (λ ws. row ++ ws) z)))
          ≡ after_waits left ans (mapped (λ ws. (v ∷ row) ++ ws) z)
      one_known a v left row z e =
          ap (λ a. and_then a (λ u. mapped (λ ys. u ∷ ys) (after_waits left ans (mapped (λ ws. row ++ ws) z)))) e
          ∙ (after_mapped (λ ws. v ∷ ws) left ans (mapped (λ ws. row ++ ws) z) ∙ ap (after_waits left ans) (mapped_twice v row z))

      -- the cell of the next name that waits
      one_waits : (a : Or Value) (v : Value) → IsOr a v → (left : List ℕ) (row : List Value) (z : Or (List Value))
          → and_then a (λ u. mapped (λ ys. u ∷ ys) (after_waits left ans (mapped (λ ws. row ++ ws) z)))
          ≡ and_then a (λ u. after_waits left ans (mapped (λ ws. (v ∷ row) ++ ws) z))
      one_waits (Ok u) v fit left row z =
          subst (λ q. mapped (λ ys. u ∷ ys) (after_waits left ans (mapped (λ ws. row ++ ws) z)) ≡ after_waits left ans (mapped (λ ws. (q ∷ row) ++ ws) z)) fit
          (one_known (Ok u) u left row z refl)
      one_waits (Err c) v fit left row z = refl

      cells_in_order : (cx : Context) → cx.tables ≡ T → (es : List Expr) (z : Or (List Value)) → values (inside (y ∷ []) cx) (all es) ≡ z
          → (places args : List ℕ) (ts : List Ty) (left : List ℕ) (i : ℕ)
          → in_order w.table w.types w.tail.columns w.result total style waits left i places args ts ≡ true
          → values (inside (y ∷ []) cx) (all (row_at i refs places args ts ++ es)) ≡ after_waits left ans (mapped (λ ws. row_from i s places args ts ++ ws) z)
      cells_in_order cx e es z g places args [] [] i o = g ∙ sym (mapped_none z)
      cells_in_order cx e es z g places args [] (l ∷ left) i o = absurd (cc)
      cells_in_order cx e es z g places args (t ∷ ts) left i o =
          by (is_passed waits (passed places args i)) refl left o (λ l k. cells_in_order cx e es z g places args ts l (suc i) k)
        where
          there : Context
          there = inside (y ∷ []) cx

          follows : List ℕ → Bool
          follows l = in_order w.table w.types w.tail.columns w.result total style waits l (suc i) places args ts

          first_is : (rest : Or (List Value)) → values (inside (y ∷ []) cx) (all (row_at (suc i) refs places args ts ++ es)) ≡ rest
              → values (inside (y ∷ []) cx) (all (row_at i refs places args (t ∷ ts) ++ es))
              ≡ and_then (answer_at places args i) (λ u. mapped (λ ys. u ∷ ys) rest)
          first_is rest k = λ j. and_then (cell_gives cx e places args i t j) (λ u. mapped (λ ys. u ∷ ys) (k j))

          named : (c : Option ℕ) → passed places args i ≡ c → (l : ℕ) → is_name c l ≡ true → answer_at places args i ≡ ans l
          named None p l k = absurd (cc)
          named (Some n) p l k = paired_named ans (Ok val.Null) places args i n p ∙ ap ans (eqb-true n l k)

          by : (b : Bool) → is_passed waits (passed places args i) ≡ b → (left : List ℕ)
              → (if b then next_name left (passed places args i)
              (λ l. in_order w.table w.types w.tail.columns w.result total style waits l (suc i) places args ts)
              else in_order w.table w.types w.tail.columns w.result total style waits left (suc i) places args ts) ≡ true
              → ((l : List ℕ) → in_order w.table w.types w.tail.columns w.result total style waits l (suc i) places args ts ≡ true
              → values (inside (y ∷ []) cx) (all (row_at (suc i) refs places args ts ++ es))
              ≡ after_waits l ans (mapped (λ ws. row_from (suc i) s places args ts ++ ws) z))
              → values (inside (y ∷ []) cx) (all (row_at i refs places args (t ∷ ts) ++ es))
              ≡ after_waits left ans (mapped (λ ws. row_from i s places args (t ∷ ts) ++ ws) z)
          by false p left k go =
              first_is (after_waits left ans (mapped (λ ws. row_from (suc i) s places args ts ++ ws) z)) (go left k)
              ∙ one_known (answer_at places args i) (paired s val.Null places args i) left (row_from (suc i) s places args ts) z
              (calm_paired waits s ans h.calm places args i p)
          by true p [] k go = absurd (cc)
          by true p (l ∷ left) k go =
              let is_l = and_first (is_name (passed places args i) l)
              (in_order w.table w.types w.tail.columns w.result total style waits left (suc i) places args ts) k in
              let more_ = and_second (is_name (passed places args i) l)
              (in_order w.table w.types w.tail.columns w.result total style waits left (suc i) places args ts) k in
              first_is (after_waits left ans (mapped (λ ws. row_from (suc i) s places args ts ++ ws) z)) (go left more_)
              ∙ (one_waits (answer_at places args i) (paired s val.Null places args i) (cell_fits places args i) left (row_from (suc i) s places args ts) z
              ∙ ap (λ a. and_then a (λ u. after_waits left ans (mapped (λ ws. row_from i s places args (t ∷ ts) ++ ws) z)))
              (named (passed places args i) refl l is_l))

      call_comes : (label : ℕ) (places args : List ℕ)
          → in_order w.table w.types w.tail.columns w.result total style waits waits 0 places args w.tail.columns ≡ true
          → comes (call_cells w.table w.types w.tail.columns w.result total style label (row_at 0 refs places args w.tail.columns))
          (after_waits waits ans (row_of style a row (goes_on label (row_from 0 s places args w.tail.columns))))
      call_comes label places args o = record {
        gives = λ b cx t.
            let there : Context = inside (y ∷ []) cx in
            let n : ℕ = number_of style a label in
            let next : List Value = row_from 0 s places args w.tail.columns in
            let kept =
            more there result_cell _ val.Null _ (result_is w.tail.columns a row y b cx)
            (more there class_cell _ val.Null _ (class_is w.tail.columns a row y b cx) (none there)) in
            let filled = cells_in_order cx t (result_cell ∷ class_cell ∷ []) (Ok (val.Null ∷ val.Null ∷ [])) kept.gives places args w.tail.columns waits 0 o in
            (λ i. and_then ((is_truth there true).gives i) (λ v. mapped (λ ys. v ∷ ys)
            (and_then ((label_is w.tail.columns a row y b cx style.alone (suc label)).gives i) (λ v. mapped (λ ys. v ∷ ys) (filled i)))))
            ∙ (ap (mapped (λ ys. val.Bool true ∷ ys))
            (after_mapped (λ ys. val.Int (pos n) ∷ ys) waits ans (Ok (next ++ (val.Null ∷ val.Null ∷ []))))
            ∙ after_mapped (λ ys. val.Bool true ∷ ys) waits ans (Ok (val.Int (pos n) ∷ (next ++ (val.Null ∷ val.Null ∷ [])))));
        single =
            λ i. (is_truth (any_context []) true).single i
            || (label_single style.alone (suc label) i || row_single (result_cell ∷ class_cell ∷ []) refl places args 0 w.tail.columns i);
      }

    -- ---- bodies

    abbrev pub IsWaiting : Body → Type 0
    IsWaiting x =
        (waits : List ℕ) → may waits x ≡ true → (refs : Scope Ref) (s : Scope Value) (ans : Scope (Or Value)) → Waits T y waits refs s ans
        → comes (cells refs x) (after_waits waits ans (row_of style a row (walked w x s)))

    module _ (waits : List ℕ) (refs : Scope Ref) (s : Scope Value) (ans : Scope (Or Value)) (h : Waits T y waits refs s ans) where
      sets_by : (n : ℕ) (t : Term) (x : Body) → IsWaiting x → is_in waits n ≡ false → reads_none waits t.names ≡ true → (b : Bool) → total t ≡ b
          → cond b (may waits x) (may (waits ++ n ∷ []) x) ≡ true
          → comes (cells refs (sets n t x)) (after_waits waits ans (row_of style a row (walked w (sets n t x) s)))
      sets_by n t x go out reads true is m =
          let on = reads_known T y waits refs s ans h t.names reads in
          let the_total = totals t is in
          let v : Value = the_total.worth s in
          let ref : Ref = ref_of w ok T sees total totals style alike refs (w.types n) t in
          comes_as T w.tail.columns a row y (cells refs (sets n t x)) _ _
          (go waits m (names n ref refs) (renewed n v s) (answered n (Ok v) ans)
          (put_total T y waits refs s ans h n ref v (term_holds w ok T sees total totals style alike y refs s (w.types n) t on the_total)))
          (after_renew n (Ok v) ans (row_of style a row (walked w x (renewed n v s))) waits out
          ∙ ap (λ o. after_waits waits ans (row_of style a row (with_term o (λ v. walked w x (renewed n v s)))))
          (sym (total_is w ok T sees total totals style alike y refs s (w.types n) t on the_total)))
      sets_by n t x go out reads false is m =
          let on = reads_known T y waits refs s ans h t.names reads in
          let o : Or Value = value_in w t s in
          let ref : Ref = ref_of w ok T sees total totals style alike refs (w.types n) t in
          let left : Or (List Value) = row_of style a row (walked w x (renewed n (value_or o) s)) in
          comes_as T w.tail.columns a row y (cells refs (sets n t x)) _ _
          (go (waits ++ n ∷ []) m (names n ref refs) (renewed n (value_or o) s) (answered n o ans)
          (put_waiting T y waits refs s ans h n ref o (value_or o) (term_is w ok T sees total totals style alike y refs s (w.types n) t on)
          (term_single w ok T sees total totals style alike y refs s (w.types n) t on) (value_fits o)))
          (after_end waits n (answered n o ans) left
          ∙ (after_renew n o ans (and_then (answered n o ans n) (λ v. left)) waits out
          ∙ ap (after_waits waits ans)
          (ap (λ z. and_then z (λ v. left)) (answered_here n o ans) ∙ then_term style a row (λ v. walked w x (renewed n v s)) o)))

      arms_by : (c : Expr) (v : Value) → At T c y (Ok v) → has_aggregate c ≡ false → (x z : Body)
          → comes (cells refs x) (after_waits waits ans (row_of style a row (walked w x s)))
          → comes (cells refs z) (after_waits waits ans (row_of style a row (walked w z s))) → (b : Bool) → is_true v ≡ b
          → comes (choices style.same c (cells refs x) (cells refs z)) (after_waits waits ans (row_of style a row (chosen b (walked w x s) (walked w z s))))
      arms_by c v is alone x z first second true e = record {
        gives = λ b cx t.
            choices_true style.same alike (inside (y ∷ []) cx) c v (is cx t) e (cells refs x) (cells refs z)
            (waiting_long x refs ∙ sym (waiting_long z refs)) ∙ first.gives b cx t;
        single = choices_single style.same alike c (cells refs x) (cells refs z) alone first.single second.single;
      }
      arms_by c v is alone x z first second false e = record {
        gives = λ b cx t.
            choices_false style.same alike (inside (y ∷ []) cx) c v (is cx t) e (cells refs x) (cells refs z)
            (waiting_long x refs ∙ sym (waiting_long z refs)) ∙ second.gives b cx t;
        single = choices_single style.same alike c (cells refs x) (cells refs z) alone first.single second.single;
      }

      picks_by : (t : Term) (x z : Body) → IsWaiting x → IsWaiting z → total t ≡ true → reads_none waits t.names ≡ true → may waits x ≡ true
          → may waits z ≡ true
          → comes (cells refs (picks t x z)) (after_waits waits ans (row_of style a row (walked w (picks t x z) s)))
      picks_by t x z go_x go_z is reads m_x m_z =
          let on = reads_known T y waits refs s ans h t.names reads in
          let the_total = totals t is in
          let v : Value = the_total.worth s in
          let worth_is = total_is w ok T sees total totals style alike y refs s ty.Boolean t on the_total in
          comes_as T w.tail.columns a row y (cells refs (picks t x z)) _ _
          (arms_by (ref_of w ok T sees total totals style alike refs ty.Boolean t 0) v
          (λ cx e. term_is w ok T sees total totals style alike y refs s ty.Boolean t on cx e ∙ worth_is)
          (term_single w ok T sees total totals style alike y refs s ty.Boolean t on)
          x z (go_x waits m_x refs s ans h) (go_z waits m_z refs s ans h) (is_true v) refl)
          (ap (λ o. after_waits waits ans (row_of style a row (with_term o (λ v. chosen (is_true v) (walked w x s) (walked w z s))))) (sym worth_is))

    -- a term that is a name that waits
    module _ (refs : Scope Ref) (s : Scope Value) (t : Term) (n : ℕ) (is : IsNamed (expr_in w t) t.names n) (alone : has_aggregate (refs n 0) ≡ false) where
      abbrev e : Expr
      e = ref_of w ok T sees total totals style alike refs w.result t 0

      e_is : e ≡ refs n 0
      e_is = named_ref refs w.result (expr_in w t) t.names n is

      e_alone : has_aggregate e ≡ false
      e_alone = ap has_aggregate e_is ∙ alone

      name_by : Begun w.tail.columns a row y → (o : Or Value) → IsOr o (s n) → At T (refs n 0) y o
          → AtAll T (ends_with e class_cell) y (and_then o (λ u. row_of style a row (with_term (value_in w t s) gives)))
      name_by b (Ok v) f k =
          subst (λ z. AtAll T (ends_with e class_cell) y (row_of style a row (with_term z gives))) (ap Ok f ∙ sym (named_value w t s n is))
          (ends.ended_by w ok T sees total totals style alike a row y b e e_alone (Ok v) (λ cx q. ap (λ x. value x (inside (y ∷ []) cx)) e_is ∙ k cx q))
      name_by b (Err c) f k =
          ends.ended_by w ok T sees total totals style alike a row y b e e_alone (Err c) (λ cx q. ap (λ x. value x (inside (y ∷ []) cx)) e_is ∙ k cx q)

      returns_name : (o : Or Value) → IsOr o (s n) → At T (refs n 0) y o
          → comes (cells refs (returns t)) (and_then o (λ u. row_of style a row (walked w (returns t) s)))
      returns_name o fit g = record { gives = λ b. name_by b o fit g; single = ended_single e class_cell e_alone refl }

    end_comes : (e f : Expr) (v c : Value) → (Begun w.tail.columns a row y → (cx : Context) → Is (inside (y ∷ []) cx) e v)
        → (Begun w.tail.columns a row y → (cx : Context) → Is (inside (y ∷ []) cx) f c) → has_aggregate e ≡ false → has_aggregate f ≡ false
        → comes (ends_with e f) (Ok (work false (none_of style a) row v c))
    end_comes e f v c h k alone_e alone_f = record {
      gives = λ b cx t. (ends.are_ended w ok T sees total totals style alike a row y b cx e f v c (h b cx) (k b cx)).gives;
      single = ended_single e f alone_e alone_f;
    }

    wait_returns : (t : Term) → IsWaiting (returns t)
    wait_returns t [] m refs s ans h =
        let on = reads_known T y [] refs s ans h t.names (reads_nothing t.names) in
        let e : Expr = ref_of w ok T sees total totals style alike refs w.result t 0 in
        let alone = term_single w ok T sees total totals style alike y refs s w.result t on in
        record {
          gives = λ b.
              ends.ended_by w ok T sees total totals style alike a row y b e alone (value_in w t s)
              (term_is w ok T sees total totals style alike y refs s w.result t on);
          single = ended_single e class_cell alone refl;
        }
    wait_returns t (n ∷ []) m refs s ans h =
        returns_name refs s t n (is_named (expr_in w t) t.names n m) (h.single n) (ans n) (h.fits n) (h.gives n)
    wait_returns t (n ∷ l ∷ waits) m refs s ans h = absurd (cc)

    wait_fails : (c : Class) → IsWaiting (fails c)
    wait_fails c [] m refs s ans h =
        end_comes result_cell (text_of w.table w.types w.tail.columns w.result total style c) val.Null (val.Text c.code)
        (λ b cx. result_is w.tail.columns a row y b cx) (λ b cx. ends.is_text w ok T sees total totals style alike (inside (y ∷ []) cx) c) refl
        (ends.is_text w ok T sees total totals style alike (any_context []) c).single
    wait_fails c (n ∷ waits) m refs s ans h = absurd (cc)

    wait_endless : IsWaiting endless
    wait_endless [] m refs s ans h =
        end_comes result_cell class_cell val.Null val.Null (λ b cx. result_is w.tail.columns a row y b cx)
        (λ b cx. class_is w.tail.columns a row y b cx) refl refl
    wait_endless (n ∷ waits) m refs s ans h = absurd (cc)

    pub wait_is : (x : Body) → IsWaiting x
    wait_is (sets n t x) = λ waits m refs s ans h.
        sets_by waits refs s ans h n t x (wait_is x)
        (not_true (is_in waits n) (and_first (not (is_in waits n)) (reads_none waits t.names && cond (total t) (may waits x) (may (waits ++ n ∷ []) x)) m))
        (and_first (reads_none waits t.names) (cond (total t) (may waits x) (may (waits ++ n ∷ []) x))
        (and_second (not (is_in waits n)) (reads_none waits t.names && cond (total t) (may waits x) (may (waits ++ n ∷ []) x)) m))
        (total t) refl
        (and_second (reads_none waits t.names) (cond (total t) (may waits x) (may (waits ++ n ∷ []) x))
        (and_second (not (is_in waits n)) (reads_none waits t.names && cond (total t) (may waits x) (may (waits ++ n ∷ []) x)) m))
    wait_is (enters params args x) = λ waits m refs s ans h.
        let after_ : List ℕ = renamed waits params args in
        let c : Bool = covers waits after_ params args in
        let r : Bool = renames after_ waits params args in
        comes_as T w.tail.columns a row y (cells refs (enters params args x)) _ _
        (wait_is x after_ (and_second r (may after_ x) (and_second c (r && may after_ x) m)) (paired refs no_ref params args) (paired s val.Null params args)
        (paired ans (Ok val.Null) params args) (put_names T y waits refs s ans h after_ params args (and_first c (r && may after_ x) m)))
        (after_renamed ans (row_of style a row (walked w x (paired s val.Null params args))) params args after_ waits
        (and_first r (may after_ x) (and_second c (r && may after_ x) m)))
    wait_is (picks t x z) = λ waits m refs s ans h.
        let r : Bool = reads_none waits t.names in
        let both_ : Bool = may waits x && may waits z in
        let after_ = and_second (total t) (r && both_) m in
        picks_by waits refs s ans h t x z (wait_is x) (wait_is z) (and_first (total t) (r && both_) m) (and_first r both_ after_)
        (and_first (may waits x) (may waits z) (and_second r both_ after_)) (and_second (may waits x) (may waits z) (and_second r both_ after_))
    wait_is (returns t) = wait_returns t
    wait_is (fails c) = wait_fails c
    wait_is (calls label places args) = λ waits m refs s ans h. call_comes waits refs s ans h label places args m
    wait_is endless = wait_endless
