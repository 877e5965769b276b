-- The types of a compiled query: its terms have the columns of a row, and its last select the result and the fault.
use Rattle.std.proofs.Common.{◌≡◌, refl, ap, sym, ◌∙◌, subst, ℕ, zero, suc, ◌+◌, ◌<◌, ◌^◌, pos, Bool, true, false, if◌then◌else◌, List, [], ◌∷◌, ◌++◌, length, Some, arith}
use Rattle.std.specs.Prelude.{slice_get, nat_eq}
use Rattle.std.proofs.lemmas.Bool.{eqb-true, eq-eqb}
use Rattle.std.proofs.lemmas.Option.{same_Some}
use Rattle.std.proofs.lemmas.Fmt.{decimal_is_IsNumeral}
use Rattle.away_trees.specs.declared.queries.Expr.TheVariants as expr
use Rattle.away_typing.specs.Typing.{Places, Frame, table_shape}
use Rattle.away_values.specs.declared.operators.CmpOp.TheVariants as cmp
use Rattle.away_values.specs.declared.types.Ty.{Ty}
use Rattle.away_values.specs.declared.types.Ty.TheVariants as ty
use Rattle.block_forms.specs.Places.{EachPair}
use Rattle.call_forms.specs.Bodies.{body_of}
use Rattle.call_forms.specs.Called.{Among}
use Rattle.call_forms.specs.Forms.{params_of}
use Rattle.call_forms.specs.Scopes.{paired}
use Rattle.call_forms.specs.Templated.{HasTree}
use Rattle.sql_meaning.specs.Trees.{col, number}
use Rattle.cte_template.specs.Making.{Making}
use Rattle.cte_template.specs.Places.{nowhere, row_place, seen}
use Rattle.cte_template.specs.Tree as t
use Rattle.cte_template.specs.Walks.{Walked, walk, all_columns, keys_of}
use Rattle.cte_template.proofs.PlacesSeen.{row_shallow}
use Rattle.cte_parts.specs.Names.{step_name, row_names}
use Rattle.cte_parts.specs.Trees.{lateral_as, gate_as, working}
use Rattle.cte_types.proofs.BodyTypes.{IsTyped}
use Rattle.type_soundness.specs.Sorts.{Every}
use Rattle.cte_types.proofs.Fine.{Fine, at_type, unused_calm, column_fine, number_fine, not_fine, compare_fine}
use Rattle.cte_types.proofs.Rows.{united, Good, Brings, one_more, good_select, lateral_brings}
use Rattle.cte_types.proofs.Seen.{Sees, none_among}
use Rattle.cte_types.proofs.WalkTypes.{IsSound, row_types, here, row_names_size, columns_fine, walks, walk_good, gate_behind}

-- ---- a row

left_there : {A : Type 0} (xs ys : List A) (k : ℕ) (x : A) → slice_get xs k ≡ Some x → slice_get (xs ++ ys) k ≡ Some x
left_there [] ys k x h = absurd (cc)
left_there (y ∷ xs) ys zero x h = h
left_there (y ∷ xs) ys (suc k) x h = left_there xs ys k x h

behind_there : {A : Type 0} (xs ys : List A) (k : ℕ) → slice_get (xs ++ ys) (length xs + k) ≡ slice_get ys k
behind_there [] ys k = ap (slice_get ys) (same k)
  where
    same : (k : ℕ) → 0 + k ≡ k
    same k = omega arith
behind_there (x ∷ xs) ys k =
    let next : suc (length xs) + k ≡ suc (length xs + k) = omega arith in
    ap (slice_get (x ∷ (xs ++ ys))) next ∙ behind_there xs ys k

pub last_there : {A : Type 0} (xs : List A) (y : A) → slice_get (xs ++ y ∷ []) (length xs) ≡ Some y
last_there [] y = refl
last_there (x ∷ xs) y = last_there xs y

column_there : (columns : List Ty) (result : Ty) (c : ℕ) (t : Ty) → slice_get columns c ≡ Some t → slice_get (row_types columns result) (suc (suc c)) ≡ Some t
column_there columns result c t h = left_there columns (result ∷ ty.Text ∷ []) c t h

result_there : (columns : List Ty) (result : Ty) → slice_get (row_types columns result) (suc (suc (length columns))) ≡ Some result
result_there columns result =
    let same : length columns ≡ length columns + 0 = omega arith in
    ap (slice_get (columns ++ (result ∷ ty.Text ∷ []))) same ∙ behind_there columns (result ∷ ty.Text ∷ []) 0

fault_there : (columns : List Ty) (result : Ty) → slice_get (row_types columns result) (suc (suc (suc (length columns)))) ≡ Some ty.Text
fault_there columns result =
    let same : suc (length columns) ≡ length columns + 1 = omega arith in
    ap (slice_get (columns ++ (result ∷ ty.Text ∷ []))) same ∙ behind_there columns (result ∷ ty.Text ∷ []) 1

-- ---- the parameters of a label

module _ (columns : List Ty) (result : Ty) (types : ℕ → Ty) (gate : Frame) where
  abbrev row_frame : Frame
  row_frame = row_types columns result ∷ []

  param_there : (params keys : List ℕ) → EachPair (λ i p c. slice_get columns c ≡ Some (types p)) params keys → length keys ≡ length params → (n : ℕ)
      → Among params n
      → at_type (gate ∷ row_frame ∷ []) (seen 1 (paired row_place nowhere params keys n)) ≡ Some (types n)
  param_there [] keys h size n k = absurd (none_among n k)
  param_there (p ∷ params) [] h size n k = absurd (omega (arith, size))
  param_there (p ∷ params) (c ∷ keys) h size n k =
      by (λ k. param_there params keys (λ i q d f g. h (suc i) q d f g) (omega (arith, size)) n k) (nat_eq p n) refl
    where
      rest_of : nat_eq p n ≡ false → Among params n
      rest_of e = at k.place k.there
        where
          never : true ≡ false → ⊥
          never h = cc

          at : (j : ℕ) → slice_get (p ∷ params) j ≡ Some n → Among params n
          at zero g = absurd (never (sym (eq-eqb p n (same_Some p n g)) ∙ e))
          at (suc j) g = record { place = j; there = g }

      by : (Among params n → at_type (gate ∷ row_frame ∷ []) (seen 1 (paired row_place nowhere params keys n)) ≡ Some (types n)) → (b : Bool) → nat_eq p n ≡ b
          → at_type (gate ∷ row_frame ∷ []) (seen 1 (if b then row_place c else paired row_place nowhere params keys n)) ≡ Some (types n)
      by rest true e = column_there columns result c (types p) (h 0 p c refl refl) ∙ ap (λ n. Some (types n)) (eqb-true p n e)
      by rest false e = rest (rest_of e)

  pub label_sees : (params keys : List ℕ) → EachPair (λ i p c. slice_get columns c ≡ Some (types p)) params keys → length keys ≡ length params
      → Sees gate (row_frame ∷ []) 1 types (paired row_place nowhere params keys) params
  label_sees params keys h size = record { shallow = row_shallow params keys; typed = param_there params keys h size }

-- ---- the query

module _ (m : Making) (tables : List (List Ty)) (sound : IsSound m) where
  abbrev Rows : List Ty
  Rows = row_types m.tail.columns m.result

  abbrev Here : List Frame → Places
  Here = here m tables sound

  abbrev row_outer : List Frame
  row_outer = (Rows ∷ []) ∷ []

  -- a label with its places, its tree and its types
  pub record IsLabel (i b : ℕ) : Type 0 where
    pub size : length (keys_of m i) ≡ length (params_of (slice_get m.anf.blocks b))
    pub places : EachPair (λ k p c. slice_get m.tail.columns c ≡ Some (m.types p)) (params_of (slice_get m.anf.blocks b)) (keys_of m i)
    pub tree : HasTree m.table (params_of (slice_get m.anf.blocks b)) (body_of m.anf m.tail b)
    pub typed : IsTyped tables m.table m.types m.result m.tail.columns (body_of m.anf m.tail b)

  label_fine : (n : ℕ) → Fine (Here ([] ∷ [] ∷ row_outer)) (t.at_label m n) ty.Boolean
  label_fine n =
      let p : Places = Here ([] ∷ [] ∷ row_outer) in
      compare_fine p cmp.Eq (col 2 0 1) (number (pos n)) ty.Bigint (column_fine p (record { level = 2; item = 0; column = 1 }) ty.Bigint refl)
      (number_fine p (pos n))

  branch_good : (i b : ℕ) → IsLabel i b → Good (Here row_outer) Rows (t.branch m i b)
  branch_good i b h =
      let params = params_of (slice_get m.anf.blocks b) in
      let w : Walked = walk m 1 (paired row_place nowhere params (keys_of m i)) (gate_as 1 (t.at_label m (suc i)) ∷ []) 2 (body_of m.anf m.tail b) in
      walk_good m tables sound row_outer w
      (walks m tables sound 1 (paired row_place nowhere params (keys_of m i)) (gate_as 1 (t.at_label m (suc i)) ∷ []) 2 (body_of m.anf m.tail b) params
      ((ty.Boolean ∷ []) ∷ []) row_outer
      (gate_behind m tables sound row_outer 1 (t.at_label m (suc i)) (label_fine (suc i)))
      (label_sees m.tail.columns m.result m.types ((ty.Boolean ∷ []) ∷ []) params (keys_of m i) h.places h.size) h.tree h.typed)

  branches_good : (i : ℕ) (bs : List ℕ) → ((j b : ℕ) → slice_get bs j ≡ Some b → IsLabel (i + j) b) → Every (Good (Here row_outer) Rows) (t.branches m i bs)
  branches_good i [] h = tt
  branches_good i (b ∷ bs) h =
      let first : i + 0 ≡ i = omega arith in (
        branch_good i b (subst (λ k. IsLabel k b) first (h 0 b refl)),
        branches_good (suc i) bs (λ j c e. let next : i + suc j ≡ suc i + j = omega arith in subst (λ k. IsLabel k c) next (h (suc j) c e)),
      )

  module _ (labels : (j b : ℕ) → slice_get m.tail.labels j ≡ Some b → IsLabel j b) (entry : ℕ) (entered : Among m.tail.labels entry) where
    all_labels : (bs : List ℕ) → m.tail.labels ≡ bs → (j b : ℕ) → slice_get bs j ≡ Some b → IsLabel (0 + j) b
    all_labels bs e j b h = let same : j ≡ 0 + j = omega arith in subst (λ k. IsLabel k b) same (labels j b (ap (λ l. slice_get l j) e ∙ h))

    label_rows_bring : Brings (Here []) (Rows ∷ []) (t.label_rows m) Rows
    label_rows_bring = by m.tail.labels refl
      where
        by : (bs : List ℕ) → m.tail.labels ≡ bs → Brings (Here []) (Rows ∷ []) (t.label_rows m) Rows
        by [] e = absurd (none (ap (λ l. slice_get l entered.place) (sym e) ∙ entered.there))
          where
            none : slice_get [] entered.place ≡ Some entry → ⊥
            none h = cc
        by (b ∷ bs) e =
            subst (λ l. Brings (Here []) (Rows ∷ []) (lateral_as step_name (row_names (t.width m)) (united (t.branches m 0 l))) Rows) (sym e)
            (lateral_brings (Here []) (Rows ∷ []) step_name (row_names (t.width m)) (t.branch m 0 b) (t.branches m 1 bs) Rows
            (row_names_size m.tail.columns m.result)
            (branches_good 0 (b ∷ bs) (all_labels (b ∷ bs) e)))

    -- ---- the working table

    module _ (small : length tables < 2 ^ 64) where
      working_brings : (frame : Frame) → Brings (Here []) frame (working (length tables) (t.width m)) Rows
      unfolding table_shape
      working_brings frame = record {
        shape = ap (slice_get (tables ++ Rows ∷ [])) (decimal_is_IsNumeral (length tables) small).1 ∙ last_there tables Rows;
        item = record { calm = unused_calm; quiet = λ q. refl };
      }

      pub step_good : Good (Here []) Rows (t.step m (length tables))
      step_good =
          let p : Places = Here ((Rows ∷ Rows ∷ []) ∷ []) in
          let table = working (length tables) (t.width m) in
          let brings = working_brings [] in
          good_select (Here []) (Rows ∷ Rows ∷ []) (all_columns m 1) (table ∷ t.label_rows m ∷ []) (Some (col 0 0 0)) Rows
          (one_more (Here []) (table ∷ []) (t.label_rows m) (Rows ∷ []) Rows (one_more (Here []) [] table [] Rows refl brings) label_rows_bring)
          (column_fine p (record { level = 0; item = 0; column = 0 }) ty.Boolean refl)
          (columns_fine p (Rows ∷ Rows ∷ []) [] m.tail.columns m.result 1 refl refl) (brings.item, (label_rows_bring.item, tt))

      pub last_good : Good (Here []) (m.result ∷ ty.Text ∷ []) (t.last m (length tables))
      last_good =
          let p : Places = Here ((Rows ∷ []) ∷ []) in
          let table = working (length tables) (t.width m) in
          let brings = working_brings [] in
          good_select (Here []) (Rows ∷ []) (col 0 0 (suc (suc (t.width m))) ∷ col 0 0 (suc (suc (suc (t.width m)))) ∷ []) (table ∷ [])
          (Some (expr.Not (col 0 0 0))) (m.result ∷ ty.Text ∷ [])
          (one_more (Here []) [] table [] Rows refl brings)
          (not_fine p (col 0 0 0) (column_fine p (record { level = 0; item = 0; column = 0 }) ty.Boolean refl)) (
            column_fine p (record { level = 0; item = 0; column = suc (suc (t.width m)) }) m.result (result_there m.tail.columns m.result),
            (column_fine p (record { level = 0; item = 0; column = suc (suc (suc (t.width m))) }) ty.Text (fault_there m.tail.columns m.result), tt),
          ) (brings.item, tt)
