-- The blocks of a SELECT INTO do what the statement does.
use Rattle.std.proofs.Common.{◌≡◌, ◌≢◌, ℕ, zero, suc, ◌+◌, ◌*◌, ◌<◌, ◌≤◌, Bool, true, false, List, [], ◌∷◌, ◌++◌, map, length, Option, Some, None, Ok, Err, refl, sym, ap, ◌∙◌, subst, arith}
use Rattle.std.specs.Prelude.{slice_set}
use Rattle.std.proofs.lemmas.List.{length-set, get_or-set_same, get_or-set_other}
use Rattle.away_values.specs.declared.types.Ty.{Ty}
use Rattle.away_values.specs.declared.values.Class.{Class}
use Rattle.away_values.specs.declared.values.Value.{Value}
use Rattle.away_values.specs.declared.values.Value.TheVariants as val
use Rattle.away_values.specs.Results.{Or, and_then, mapped}
use Rattle.away_trees.specs.declared.queries.Expr.{Expr}
use Rattle.away_trees.specs.declared.queries.Expr.TheViews.{out-Select}
use Rattle.away_trees.specs.declared.queries.Select.{Select}
use Rattle.sql_meaning.specs.Context.{Rows}
use Rattle.sql_meaning.specs.Template.{count_from}
use Rattle.plsql_meaning.specs.Outcomes.{Env, Step, Done, done, faults, no_data_found, too_many_rows}
use Rattle.plsql_meaning.specs.Sight.{query_of}
use Rattle.plsql_meaning.specs.Conversions.{converted_value, converted_row}
use Rattle.plsql_meaning.specs.Statements.{assign, put_all, choose, head_or_null, rest_of, put_converted, into_as}
use Rattle.select_into.specs.Entries.{Target, checks, target_types, cast_at, pick_entry, pick_entries, into_entries, unmarked}
use Rattle.select_into.specs.Laws.{first_row, is_empty, has_two}
use Rattle.select_into.specs.Wrapped.{more_rows}
use Rattle.block_forms.specs.Around.{Around}
use Rattle.block_forms.specs.OwnSlots.{ReadsBelow}
use Rattle.block_forms.specs.Patterns.{Part, node, onward, check_parts, pick_parts, put_part, after_put, put_parts, puts_of}
use Rattle.block_forms.specs.Patterns as form
use Rattle.block_forms.specs.Targets.{one_target, named_targets}
use Rattle.goto_law.proofs.Assignments.{slot_set}
use Rattle.goto_law.proofs.Casts.{picked_casts}
use Rattle.goto_law.proofs.Entries.{entry_at, entries_at}
use Rattle.goto_law.proofs.Fits.{AllBelow, below_left, below_right}
use Rattle.goto_law.proofs.Known.{Sides, width, at, GoesIn, AllStandIn, Entries, Known, value_of}
use Rattle.goto_law.proofs.Parts.{left, right}
use Rattle.goto_law.proofs.SelectEntries.{types_long}
use Rattle.goto_law.proofs.Steps.{at_next, at_fault, heavier, after_path, at_choice, in_order_sparing}
use Rattle.goto_law.proofs.Stretches.{stays, jumps_on, fails_there}
use Rattle.goto_law.proofs.Variables.{back_get, spares_set, back}

-- ---- a row, value by value

head_is : (vs : List Value) → at vs 0 ≡ head_or_null vs
head_is [] = refl
head_is (v ∷ vs) = refl

rest_is : (vs : List Value) (m : ℕ) → at (rest_of vs) m ≡ at vs (suc m)
rest_is [] m = refl
rest_is (v ∷ vs) m = refl

-- ---- the hidden variables with so many values of a row, from one on; NULL where the row ends

abbrev filled : ℕ → ℕ → List Value → Env → Env
filled zero j vs hid = hid
filled (suc k) j vs hid = filled k (suc j) (rest_of vs) (slice_set hid j (head_or_null vs))

filled_below : (k j : ℕ) (vs : List Value) (hid : Env) (i : ℕ) → i < j → at (filled k j vs hid) i ≡ at hid i
filled_below zero j vs hid i lt = refl
filled_below (suc k) j vs hid i lt =
    let ne : i ≢ j = omega arith in
    filled_below k (suc j) (rest_of vs) (slice_set hid j (head_or_null vs)) i (omega arith)
    ∙ get_or-set_other hid j i (head_or_null vs) val.Null ne

filled_at : (k j : ℕ) (vs : List Value) (hid : Env) → j + k ≤ length hid → (m : ℕ) → m < k → at (filled k j vs hid) (j + m) ≡ at vs m
filled_at zero j vs hid le m lt = absurd (omega (arith, lt))
filled_at (suc k) j vs hid le zero lt =
    let hid' = slice_set hid j (head_or_null vs) in
    let same : j + 0 ≡ j = omega arith in
    ap (λ i. at (filled k (suc j) (rest_of vs) hid') i) same
    ∙ filled_below k (suc j) (rest_of vs) hid' j (omega arith)
    ∙ get_or-set_same hid j (head_or_null vs) val.Null (omega (arith, le))
    ∙ sym (head_is vs)
filled_at (suc k) j vs hid le (suc m) lt =
    let hid' = slice_set hid j (head_or_null vs) in
    let same : j + suc m ≡ suc j + m = omega arith in
    let many = length-set hid j (head_or_null vs) in
    ap (λ i. at (filled k (suc j) (rest_of vs) hid') i) same
    ∙ filled_at k (suc j) (rest_of vs) hid' (omega (arith, le, many)) m (omega (arith, lt))
    ∙ rest_is vs m

onward_some : (ts : List Target) (here a b : ℕ) → 0 < length ts → onward ts here a ≡ onward ts here b
onward_some [] here a b lt = absurd (omega (arith, lt))
onward_some (t ∷ ts) here a b lt = refl

onward_here : (ts : List Target) (here behind : ℕ) → 0 < length ts → onward ts here behind ≡ here
onward_here [] here behind lt = absurd (omega (arith, lt))
onward_here (t ∷ ts) here behind lt = refl

module _ (s : Sides) (known : Known s) (around : Around) (next : ℕ) where
  -- ---- puts

  -- a target takes what its hidden slot holds
  put_goes : (o : Option ℕ) → AllBelow (width s) (one_target o) → (v : Value) (env hid : Env) (b to h n hidden : ℕ) → length env ≡ width s
      → at (env ++ hid) hidden ≡ v → AllStandIn s (put_part s.form.goto s.form.numbers s.form.slots o b hidden to)
      → GoesIn s around to b env hid h n 3 (assign s.set o (Ok v) env n)
  put_goes None below v env hid b to h n hidden wide is stand = heavier (at_next refl (jumps_on false stand.0)) (omega arith)
  put_goes (Some slot) below v env hid b to h n hidden wide is stand =
      slot_set s known around to b slot (form.copy s.form.numbers.fixed hidden) env hid h n (subst (λ w. slot < w) (sym wide) below.0) (Ok v)
      (known.copies hidden (env ++ hid) ∙ ap (λ v. Ok v) is) stand

  puts_go : (ts : List Target) → AllBelow (width s) (named_targets ts) → (vs : List Value) (env hid : Env) (b h n j : ℕ) → length env ≡ width s
      → h ≤ j → ((m : ℕ) → m < length ts → at hid (j + m) ≡ at vs m)
      → AllStandIn s (put_parts s.form.goto s.form.numbers s.form.slots ts b (width s + j) next)
      → GoesIn s around next (onward ts b next) env hid h n (3 * length ts) (put_all s.set ts vs env n)
  puts_go [] below vs env hid b h n j wide le holds stand = at_next refl stays
  puts_go (t ∷ ts) below vs env hid b h n j wide le holds stand =
      let after = after_put s.form.goto s.form.numbers s.form.slots t.1 b in
      let to = onward ts after next in
      let here = put_part s.form.goto s.form.numbers s.form.slots t.1 b (width s + j) to in
      let behind = put_parts s.form.goto s.form.numbers s.form.slots ts after (width s + j + 1) next in
      let same : j ≡ j + 0 = omega arith in
      let held = back_get (width s) (width s + j) j env hid wide refl ∙ ap (at hid) same ∙ holds 0 (omega arith) ∙ head_is vs in
      let put = put_goes t.1 (below_left (width s) (one_target t.1) (named_targets ts) below) (head_or_null vs) env hid b to (j + suc (length ts)) n (width s + j) wide held
      (left s.form.goto.blocks here behind stand) in
      in_order_sparing {h1 = j + suc (length ts)} {h2 = h} {v = 3} {w = 3 * length ts} (put_all s.set ts (rest_of vs)) put (omega (arith, le)) (omega arith)
      (λ e i m spares.
      puts_go ts (below_right (width s) (one_target t.1) (named_targets ts) below) (rest_of vs) e i after h m (suc j) (spares.keeps ∙ wide) (omega (arith, le))
      (λ k lt. let at_k : suc j + k ≡ j + suc k = omega arith in ap (at i) at_k ∙ spares.kept (j + suc k) (omega (arith, lt)) ∙ holds (suc k) (omega (arith, lt)) ∙ sym (rest_is vs k))
      (moved after (right s.form.goto.blocks here behind stand))) (omega arith)
    where
      moved : (after : ℕ) → AllStandIn s (put_parts s.form.goto s.form.numbers s.form.slots ts after (width s + j + 1) next) → AllStandIn s (put_parts s.form.goto s.form.numbers s.form.slots ts after (width s + suc j) next)
      moved after x = let same : width s + j + 1 ≡ width s + suc j = omega arith in subst (λ k. AllStandIn s (put_parts s.form.goto s.form.numbers s.form.slots ts after k next)) same x

  -- ---- picks

  -- what the rest of the statement does with the values, or the fault of the first that isn't converted
  abbrev with_row : (List Value → Done) → Env → ℕ → Or (List Value) → Done
  with_row f env n (Err c) = done (faults c) env n
  with_row f env n (Ok ws) = f ws

  one_more : (f : List Value → Done) (env : Env) (n : ℕ) (v : Value) (o : Or (List Value))
      → with_row (λ ws. f (v ∷ ws)) env n o ≡ with_row f env n (mapped (λ ws. v ∷ ws) o)
  one_more f env n v (Err c) = refl
  one_more f env n v (Ok ws) = refl

  module _ (q : Select) (types : List Ty) (alone : ReadsBelow (width s) (query_of q)) (env : Env) (wide : length env ≡ width s) (puts h n w : ℕ) where
    abbrev casts : ℕ → Option Ty
    casts m = cast_at types (out-Select q).list m

    -- the casts of so many picks, from a place on
    abbrev casts_from : ℕ → ℕ → List (Option Ty)
    casts_from m many = map casts (count_from m many)

    abbrev pick_at : ℕ → Expr
    pick_at m = pick_entry types q m

    picks_go : (rs : Rows) → s.set.rows q env ≡ Ok rs → (ts : List Target) (i k m j : ℕ) (vs : List Value) (hid : Env) (f : List Value → Done)
        → ((x : ℕ) → at vs x ≡ at (first_row rs) (m + x)) → h ≤ j → Entries s k (map pick_at (count_from m (length ts)))
        → AllStandIn s (pick_parts s.form.goto s.form.numbers ts i k (width s + j) q puts)
        → ((ws : List Value) → converted_row (casts_from m (length ts)) vs ≡ Ok ws → GoesIn s around next puts env (filled (length ts) j ws hid) h n w (f ws))
        → GoesIn s around next (onward ts (node s.form.goto i) puts) env hid h n (length ts + w)
        (with_row f env n (converted_row (casts_from m (length ts)) vs))
    picks_go rs e [] i k m j vs hid f holds le entries stand rest = heavier (rest [] refl) (omega arith)
    picks_go rs e (t ∷ ts) i k m j vs hid f holds le entries stand rest =
        by (λ v is.
        picks_go rs e ts (i + 1) (k + 1) (suc m) (suc j) (rest_of vs) (slice_set hid j v) (λ ws. f (v ∷ ws))
        (λ x. let at_x : m + suc x ≡ suc m + x = omega arith in rest_is vs x ∙ holds (suc x) ∙ ap (at (first_row rs)) at_x) (omega (arith, le))
        (moved entries.1) (shifted stand.1)
        (λ ws row. rest (v ∷ ws) (ap (λ o. and_then o (λ v. mapped (λ ws. v ∷ ws) rest_row)) is ∙ ap (mapped (λ ws. v ∷ ws)) row)))
        (converted_value (casts m) (head_or_null vs)) refl
      where
        b : ℕ
        b = node s.form.goto i

        to : ℕ
        to = onward ts (node s.form.goto (i + 1)) puts

        rest_row : Or (List Value)
        rest_row = converted_row (casts_from (suc m) (length ts)) (rest_of vs)

        value_is : at (first_row rs) m ≡ head_or_null vs
        value_is = let here : m + 0 ≡ m = omega arith in sym (ap (at (first_row rs)) here) ∙ sym (holds 0) ∙ head_is vs

        -- what the pick gives
        given : (o : Or Value) → converted_value (casts m) (head_or_null vs) ≡ o → value_of s (form.select_term k q) (env ++ hid) ≡ o
        given o is =
            known.picks types m k q entries.0 alone env hid wide
            ∙ ap (λ o. and_then o (λ rows. converted_value (casts m) (at (first_row rows) m))) e
            ∙ ap (converted_value (casts m)) value_is ∙ is

        moved : Entries s (suc k) (map pick_at (count_from (suc m) (length ts))) → Entries s (k + 1) (map pick_at (count_from (suc m) (length ts)))
        moved x = let same : suc k ≡ k + 1 = omega arith in subst (λ k. Entries s k (map pick_at (count_from (suc m) (length ts)))) same x

        shifted : AllStandIn s (pick_parts s.form.goto s.form.numbers ts (i + 1) (k + 1) (width s + j + 1) q puts) → AllStandIn s (pick_parts s.form.goto s.form.numbers ts (i + 1) (k + 1) (width s + suc j) q puts)
        shifted x = let same : width s + j + 1 ≡ width s + suc j = omega arith in subst (λ slot. AllStandIn s (pick_parts s.form.goto s.form.numbers ts (i + 1) (k + 1) slot q puts)) same x

        by : ((v : Value) → converted_value (casts m) (head_or_null vs) ≡ Ok v
            → GoesIn s around next to env (slice_set hid j v) h n (length ts + w) (with_row (λ ws. f (v ∷ ws)) env n rest_row))
            → (o : Or Value) → converted_value (casts m) (head_or_null vs) ≡ o
            → GoesIn s around next b env hid h n (suc (length ts) + w) (with_row f env n (and_then o (λ v. mapped (λ ws. v ∷ ws) rest_row)))
        by others (Err c) is = heavier (at_fault (back s.frame s.form.goto (width s) b (width s + j) j to (form.select_term k q) env hid (Err c) wide refl (given (Err c) is) stand.0)) (omega arith)
        by others (Ok v) is =
            after_path (back s.frame s.form.goto (width s) b (width s + j) j to (form.select_term k q) env hid (Ok v) wide refl (given (Ok v) is) stand.0)
            (spares_set j env hid v le)
            (subst (λ d. GoesIn s around next to env (slice_set hid j v) h n (length ts + w) d) (one_more f env n v rest_row) (others v is))
            (omega arith) (omega arith)

    -- a class of the select ends the first pick
    picks_end : (c : Class) → s.set.rows q env ≡ Err c → (ts : List Target) (i k j : ℕ) (hid : Env) → 0 < length ts
        → Entries s k (map pick_at (count_from 0 (length ts)))
        → AllStandIn s (pick_parts s.form.goto s.form.numbers ts i k (width s + j) q puts)
        → GoesIn s around next (onward ts (node s.form.goto i) puts) env hid h n (length ts + w) (done (faults c) env n)
    picks_end c e [] i k j hid lt entries stand = absurd (omega (arith, lt))
    picks_end c e (t ∷ ts) i k j hid lt entries stand =
        heavier (at_fault (back s.frame s.form.goto (width s) (node s.form.goto i) (width s + j) j (onward ts (node s.form.goto (i + 1)) puts)
        (form.select_term k q) env hid (Err c) wide refl
        (known.picks types 0 k q entries.0 alone env hid wide ∙ ap (λ o. and_then o (λ rows. converted_value (casts 0) (at (first_row rows) 0))) e) stand.0)) (omega arith)

  -- ---- the whole

  -- from the first row on, by the casts of its values
  abbrev from_row : List (Option Ty) → List Target → Or Rows → Step
  from_row cs ts (Err c) env n = done (faults c) env n
  from_row cs ts (Ok rs) env n = with_row (λ ws. put_all s.set ts ws env n) env n (converted_row cs (first_row rs))

  row_is : (cs : List (Option Ty)) (ts : List Target) (vs : List Value) (env : Env) (n : ℕ)
      → with_row (λ ws. put_all s.set ts ws env n) env n (converted_row cs vs) ≡ put_converted s.set ts (converted_row cs vs) env n
  row_is cs ts vs env n = by (converted_row cs vs)
    where
      by : (o : Or (List Value)) → with_row (λ ws. put_all s.set ts ws env n) env n o ≡ put_converted s.set ts o env n
      by (Err c) = refl
      by (Ok ws) = refl

  plain_is : (cs : List (Option Ty)) (ts : List Target) (o : Or Rows) (env : Env) (n : ℕ) → from_row cs ts o env n ≡ into_as s.set false cs ts o env n
  plain_is cs ts (Err c) env n = refl
  plain_is cs ts (Ok []) env n = row_is cs ts [] env n
  plain_is cs ts (Ok (r ∷ rs)) env n = row_is cs ts r env n

  strict_is : (cs : List (Option Ty)) (ts : List Target) (o : Or Rows) (env : Env) (n : ℕ)
      → choose (mapped (λ rows. val.Bool (is_empty rows)) o) (done (faults no_data_found))
      (choose (mapped (λ rows. val.Bool (has_two rows)) o) (done (faults too_many_rows)) (from_row cs ts o)) env n ≡ into_as s.set true cs ts o env n
  strict_is cs ts (Err c) env n = refl
  strict_is cs ts (Ok []) env n = refl
  strict_is cs ts (Ok (r ∷ [])) env n = row_is cs ts r env n
  strict_is cs ts (Ok (r ∷ q ∷ rs)) env n = refl

  -- its parts by its node, its first entry and its first hidden slot
  abbrev pub parts_from : List Target → Select → ℕ → ℕ → Bool → ℕ → List Part
  parts_from ts q i k strict hidden =
      check_parts s.form.goto s.form.numbers strict (node s.form.goto i) k q (onward ts (node s.form.goto (i + 1)) next)
      ++ (pick_parts s.form.goto s.form.numbers ts (i + 1) (k + checks strict) hidden q (puts_of s.form.goto s.form.numbers ts i)
      ++ put_parts s.form.goto s.form.numbers s.form.slots ts (puts_of s.form.goto s.form.numbers ts i) hidden next)

  module _ (q : Select) (alone : ReadsBelow (width s) (query_of q)) (ts : List Target) (some : 0 < length ts) (sets : AllBelow (width s) (named_targets ts))
      (env hid : Env) (wide : length env ≡ width s) (i k j h n : ℕ) (le : h ≤ j) (room : j + length ts ≤ length hid) where
    abbrev types : List Ty
    types = target_types s.types ts

    -- the casts of the picks
    abbrev cs : List (Option Ty)
    cs = picked_casts s.types ts (out-Select q).list

    abbrev put : ℕ
    put = puts_of s.form.goto s.form.numbers ts i

    abbrev picks : ℕ → List Part
    picks k = pick_parts s.form.goto s.form.numbers ts (i + 1) k (width s + j) q put

    abbrev puts : List Part
    puts = put_parts s.form.goto s.form.numbers s.form.slots ts put (width s + j) next

    abbrev first : ℕ
    first = onward ts (node s.form.goto (i + 1)) next

    row_goes : (k : ℕ) → Entries s k (pick_entries types q) → AllStandIn s (picks k ++ puts)
        → GoesIn s around next first env hid h n (length ts + 3 * length ts) (from_row cs ts (s.set.rows q env) env n)
    row_goes k entries stand =
        subst (λ b. GoesIn s around next b env hid h n (length ts + 3 * length ts) (from_row cs ts (s.set.rows q env) env n))
        (onward_some ts (node s.form.goto (i + 1)) put next some) (by (s.set.rows q env) refl)
      where
        there : Entries s k (map (pick_entry types q) (count_from 0 (length ts)))
        there = subst (λ many. Entries s k (map (pick_entry types q) (count_from 0 many))) (types_long s.types ts) entries

        by : (o : Or Rows) → s.set.rows q env ≡ o
            → GoesIn s around next (onward ts (node s.form.goto (i + 1)) put) env hid h n (length ts + 3 * length ts) (from_row cs ts o env n)
        by (Err c) e = picks_end q types alone env wide put h n (3 * length ts) c e ts (i + 1) k j hid some there (left s.form.goto.blocks (picks k) puts stand)
        by (Ok rs) e =
            picks_go q types alone env wide put h n (3 * length ts) rs e ts (i + 1) k 0 j (first_row rs) hid (λ ws. put_all s.set ts ws env n)
            (λ x. let same : x ≡ 0 + x = omega arith in ap (at (first_row rs)) same) le there (left s.form.goto.blocks (picks k) puts stand)
            (λ ws row.
            subst (λ b. GoesIn s around next b env (filled (length ts) j ws hid) h n (3 * length ts) (put_all s.set ts ws env n))
            (onward_here ts put next some)
            (puts_go ts sets ws env (filled (length ts) j ws hid) put h n j wide le
            (λ m lt. filled_at (length ts) j ws hid room m lt) (right s.form.goto.blocks (picks k) puts stand)))

    pub into_goes : (strict : Bool) → Entries s k (into_entries s.types strict ts q)
        → AllStandIn s (parts_from ts q i k strict (width s + j))
        → GoesIn s around next (node s.form.goto i) env hid h n (2 + (length ts + 3 * length ts)) (into_as s.set strict cs ts (s.set.rows q env) env n)
    into_goes false entries stand =
        let same : k + 0 ≡ k = omega arith in
        subst (λ d. GoesIn s around next (node s.form.goto i) env hid h n (2 + (length ts + 3 * length ts)) d) (plain_is cs ts (s.set.rows q env) env n)
        (subst (λ b. GoesIn s around next b env hid h n (2 + (length ts + 3 * length ts)) (from_row cs ts (s.set.rows q env) env n)) (sym stand.0)
        (heavier (row_goes k entries (subst (λ k. AllStandIn s (picks k ++ puts)) same stand.1)) (omega arith)))
    into_goes true entries stand =
        let rows = s.set.rows q env in
        let row = row_goes (k + 2) (entries_at s (suc (suc k)) (k + 2) (pick_entries types q) entries.1.1 (omega arith)) stand.1.1.1.1 in
        let second = known.more_tests (k + 1) q (entry_at s (suc k) (k + 1) (more_rows (unmarked q)) entries.1.0 (omega arith)) alone env hid wide in
        subst (λ d. GoesIn s around next (node s.form.goto i) env hid h n (2 + (length ts + 3 * length ts)) d) (strict_is cs ts rows env n)
        (at_choice {v = 1} {w = 1 + (length ts + 3 * length ts)} (form.select_term k q) (mapped (λ rows. val.Bool (is_empty rows)) rows)
        (done (faults no_data_found)) (choose (mapped (λ rows. val.Bool (has_two rows)) rows) (done (faults too_many_rows)) (from_row cs ts rows))
        (known.row_tests k q entries.0 alone env hid wide) stand.0
        (at_fault (fails_there stand.1.0))
        (at_choice {v = 1} {w = length ts + 3 * length ts} (form.select_term (k + 1) q) (mapped (λ rows. val.Bool (has_two rows)) rows)
        (done (faults too_many_rows)) (from_row cs ts rows)
        second stand.1.1.0 (at_fault (fails_there stand.1.1.1.0)) row (omega (arith, some)) (omega arith))
        (omega (arith, some)) (omega arith))
