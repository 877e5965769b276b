-- The select of a label's body has the columns of a row, with their types, and no aggregate and no parameter.
use Rattle.std.proofs.Common.{◌≡◌, refl, ap, sym, ◌∙◌, subst, ℕ, zero, suc, ◌+◌, ◌≤◌, pos, true, false, List, [], ◌∷◌, ◌++◌, map, length, get_or, Option, Some, None, append_assoc, length-append, arith}
use Rattle.std.specs.Prelude.{slice_get, option_and_then}
use Rattle.away_trees.specs.declared.queries.Expr.{Expr}
use Rattle.away_trees.specs.declared.queries.Expr.TheVariants as expr
use Rattle.away_trees.specs.declared.queries.Expr.TheViews.{roll-Select}
use Rattle.away_trees.specs.declared.queries.FromItem.{FromItem}
use Rattle.away_typing.specs.Typing.{Places, Frame, framed}
use Rattle.away_values.specs.declared.types.Ty.{Ty}
use Rattle.away_values.specs.declared.types.Ty.TheVariants as ty
use Rattle.block_forms.specs.declared.forms.Term.{Term}
use Rattle.block_forms.specs.Places.{Each}
use Rattle.call_forms.specs.Bodies.{Body, sets, enters, picks, returns, fails, calls, endless}
use Rattle.call_forms.specs.Called.{Among}
use Rattle.call_forms.specs.Scopes.{Scope, paired}
use Rattle.call_forms.specs.Template.{is_not_true}
use Rattle.call_forms.specs.Templated.{HasReferences, HasTree}
use Rattle.sql_meaning.specs.Template.{below, count_from}
use Rattle.sql_meaning.specs.Trees.{col, truth, null_of, item}
use Rattle.sql_meaning.proofs.Lists.{Zipped}
use Rattle.cte_template.specs.Making.{Making}
use Rattle.cte_template.specs.Places.{nowhere, first_of, seen, stands, beside}
use Rattle.cte_template.specs.Walks.{Walked, selected, walk, value_at, let_at, all_columns, column_at, cell, cells_at, end_row, call_row, class_text}
use Rattle.cte_template.specs.Walks as written
use Rattle.cte_template.specs.declared.places.ItemColumn.{ItemColumn}
use Rattle.cte_parts.specs.Names.{alias_name, column_name, row_names, result_name, fault_name}
use Rattle.cte_parts.specs.Trees.{gate_as, either_as}
use Rattle.cte_types.specs.Typed.{TermHasType}
use Rattle.cte_types.proofs.BodyTypes.{IsTyped, FillsCells, stands_of}
use Rattle.type_soundness.specs.Sorts.{Every}
use Rattle.cte_types.proofs.Fine.{Fine, at_type, column_fine, number_fine, truth_fine, null_fine, text_fine, not_true_fine}
use Rattle.cte_types.proofs.Rows.{Good, IsCalmItem, Brings, parts, one_more, good_select, lateral_brings, only_brings}
use Rattle.cte_types.proofs.Seen.{Sees, sees_more, sees_inside, sees_new, sees_passed, seen_inside, new_seen, last_item}
use Rattle.cte_types.proofs.Values.{IsEntry, value_fine}

every_append : {A : Type 0} (P : A → Type 0) (xs ys : List A) → Every P xs → Every P ys → Every P (xs ++ ys)
every_append P [] ys h k = k
every_append P (x ∷ xs) ys h k = (h.0, every_append P xs ys h.1 k)

pub zipped_append : {A B : Type 0} (R : A → B → Type 0) (xs : List A) (ys : List B) (as_ : List A) (bs : List B) → Zipped R xs ys → Zipped R as_ bs
    → Zipped R (xs ++ as_) (ys ++ bs)
zipped_append R [] [] as_ bs h k = k
zipped_append R (x ∷ xs) (y ∷ ys) as_ bs h k = (h.0, zipped_append R xs ys as_ bs h.1 k)
zipped_append R [] (y ∷ ys) as_ bs h k = absurd h
zipped_append R (x ∷ xs) [] as_ bs h k = absurd h

grown : {A : Type 0} (xs : List A) (x : A) → length (xs ++ x ∷ []) ≡ suc (length xs)
grown [] x = refl
grown (y ∷ xs) x = ap suc (grown xs x)

both_grown : {A B : Type 0} (xs : List A) (ys : List B) (x : A) (y : B) → length xs ≡ length ys → length (xs ++ x ∷ []) ≡ length (ys ++ y ∷ [])
both_grown xs ys x y h = grown xs x ∙ (ap suc h ∙ sym (grown ys y))

-- ---- the types of a row

abbrev pub row_types : List Ty → Ty → List Ty
row_types columns result = ty.Boolean ∷ ty.Bigint ∷ (columns ++ (result ∷ ty.Text ∷ []))

pub row_size : (columns : List Ty) (result : Ty) → length (row_types columns result) ≡ suc (suc (suc (suc (length columns))))
row_size columns result = let s = length-append columns (result ∷ ty.Text ∷ []) in omega (arith, s)

names_size : (first n : ℕ) → length (map column_name (count_from first n)) ≡ n
names_size first zero = refl
names_size first (suc n) = ap suc (names_size (suc first) n)

pub row_names_size : (columns : List Ty) (result : Ty) → length (row_names (length columns)) ≡ length (row_types columns result)
row_names_size columns result =
    let a = length-append (map column_name (below (length columns))) (result_name ∷ fault_name ∷ []) in
    let b = names_size 0 (length columns) in
    let c = row_size columns result in
    omega (arith, a, b, c)

pub from_zero : {A : Type 0} (xs : List A) (j : ℕ) (x : A) → slice_get xs j ≡ Some x → slice_get xs (0 + j) ≡ Some x
from_zero xs j x h = let none : 0 + j ≡ j = omega arith in ap (slice_get xs) none ∙ h

-- all columns of an item
columns_from : (p : Places) (j first : ℕ) (ts : List Ty) → ((k : ℕ) (t : Ty) → slice_get ts k ≡ Some t
    → at_type p.frames (record { level = 0; item = j; column = first + k }) ≡ Some t)
    → Zipped (Fine p) (map (col 0 j) (count_from first (length ts))) ts
columns_from p j first [] h = tt
columns_from p j first (t ∷ ts) h =
    let here : first + 0 ≡ first = omega arith in (
      column_fine p (record { level = 0; item = j; column = first }) t (ap (λ c. at_type p.frames (record { level = 0; item = j; column = c })) (sym here)
          ∙ h 0 t refl),
      columns_from p j (suc first) ts
          (λ k u e. let next : suc first + k ≡ first + suc k = omega arith in ap (λ c. at_type p.frames (record { level = 0; item = j; column = c })) next
          ∙ h (suc k) u e),
    )

pub columns_fine : (p : Places) (frame : Frame) (outer : List Frame) (columns : List Ty) (result : Ty) (j : ℕ) → p.frames ≡ frame ∷ outer
    → slice_get frame j ≡ Some (row_types columns result) → Zipped (Fine p) (map (col 0 j) (below (suc (suc (suc (suc (length columns)))))))
    (row_types columns result)
columns_fine p frame outer columns result j same h =
    subst (λ n. Zipped (Fine p) (map (col 0 j) (below n)) (row_types columns result)) (row_size columns result)
    (columns_from p j 0 (row_types columns result)
    (λ k t e.
    let none : 0 + k ≡ k = omega arith in
    ap (λ c. at_type p.frames (record { level = 0; item = j; column = c })) none
    ∙ (ap (λ fs. at_type fs (record { level = 0; item = j; column = k })) same ∙ (ap (option_and_then (λ (ts : List Ty). slice_get ts k)) h ∙ e))))

-- ---- a making, over tables

pub record IsSound (m : Making) : Type 0 where
  pub entries : (i : ℕ) → IsEntry (get_or m.table i expr.Null)

module _ (m : Making) (tables : List (List Ty)) (sound : IsSound m) where
  abbrev pub rows : List Ty
  rows = row_types m.tail.columns m.result

  abbrev pub here : List Frame → Places
  here frames = record { slots = []; frames = frames; tables = tables ++ rows ∷ [] }

  -- ---- items

  term_fine : (frame : Frame) (outer : List Frame) (depth : ℕ) (places : Scope ItemColumn) (names : List ℕ) (t : Ty) (u : Term)
      → Sees frame outer depth m.types places names
      → HasReferences m.table names u → TermHasType tables m.table m.types t u → Fine (here ([] ∷ frame ∷ outer)) (value_at m depth places t u) t
  term_fine frame outer depth places names t u sees refs typed =
      value_fine tables (rows ∷ []) m.types (column_at (suc depth) places) (seen (suc depth) nowhere)
      (λ n. let le : (places n).depth ≤ depth = sees.shallow n in omega (arith, le)) (omega arith) ([] ∷ frame ∷ outer)
      (get_or m.table u.expr expr.Null) u.names t typed refs.as_many
      (λ n k. seen_inside [] frame outer depth (places n) (m.types n) (sees.shallow n) (sees.typed n (refs.known k.place n k.there))) (sound.entries u.expr)

  let_brings : (frame : Frame) (outer : List Frame) (depth : ℕ) (places : Scope ItemColumn) (names : List ℕ) (k : ℕ) (t : Ty) (u : Term)
      → Sees frame outer depth m.types places names
      → HasReferences m.table names u → TermHasType tables m.table m.types t u → Brings (here outer) frame (let_at m depth places k t u) (t ∷ [])
  let_brings frame outer depth places names k t u sees refs typed =
      only_brings (here outer) frame k (value_at m depth places t u) None t (term_fine frame outer depth places names t u sees refs typed) tt

  pub gate_brings : (frame : Frame) (outer : List Frame) (k : ℕ) (c : Expr) → Fine (here ([] ∷ frame ∷ outer)) c ty.Boolean
      → Brings (here outer) frame (gate_as k c) (ty.Boolean ∷ [])
  gate_brings frame outer k c h = only_brings (here outer) frame k (truth true) (Some c) ty.Boolean (truth_fine (here ([] ∷ frame ∷ outer)) true) h

  -- ---- lists

  nulls_fine : (p : Places) (ts : List Ty) → Zipped (Fine p) (map null_of ts) ts
  nulls_fine p [] = tt
  nulls_fine p (t ∷ ts) = (null_fine p t, nulls_fine p ts)

  end_fine : (p : Places) (value class : Expr) → Fine p value m.result → Fine p class ty.Text → Zipped (Fine p) (end_row m value class) rows
  end_fine p value class h k = (
    truth_fine p false,
    (
      number_fine p (pos 0),
      zipped_append (Fine p) (map null_of m.tail.columns) m.tail.columns (value ∷ class ∷ [])
          (m.result ∷ ty.Text ∷ []) (nulls_fine p m.tail.columns) (h, (k, tt)),
    ),
  )

  cell_fine : (frame : Frame) (outer : List Frame) (depth : ℕ) (places : Scope ItemColumn) (t : Ty) (o : Option ℕ)
      → ((n : ℕ) → o ≡ Some n → at_type (frame ∷ outer) (seen depth (places n)) ≡ Some t) → Fine (here (frame ∷ outer)) (cell depth places t o) t
  cell_fine frame outer depth places t None h = null_fine (here (frame ∷ outer)) t
  cell_fine frame outer depth places t (Some n) h = column_fine (here (frame ∷ outer)) (seen depth (places n)) t (h n refl)

  cells_fine : (frame : Frame) (outer : List Frame) (depth : ℕ) (places : Scope ItemColumn) (names keys args : List ℕ)
      → Sees frame outer depth m.types places names → Each (Among names) args
      → FillsCells tables m.table m.types m.result m.tail.columns keys args → (i : ℕ) (ts : List Ty)
      → ((j : ℕ) (t : Ty) → slice_get ts j ≡ Some t → slice_get m.tail.columns (i + j) ≡ Some t)
      → Zipped (Fine (here (frame ∷ outer))) (cells_at i depth places keys args ts) ts
  cells_fine frame outer depth places names keys args sees known fills i [] h = tt
  cells_fine frame outer depth places names keys args sees known fills i (t ∷ ts) h =
      let first : i + 0 ≡ i = omega arith in (
        cell_fine frame outer depth places t (beside keys args i)
            (λ n e.
            let at = stands_of keys args i n e in
            sees.typed n (known at.place n at.name) ∙ ap (λ t. Some t) (fills i t n (ap (slice_get m.tail.columns) (sym first) ∙ h 0 t refl) e)),
        cells_fine frame outer depth places names keys args sees known fills (suc i) ts
            (λ j u e. let next : suc i + j ≡ i + suc j = omega arith in ap (slice_get m.tail.columns) next ∙ h (suc j) u e),
      )

  -- ---- what is written of a body

  pub record Walks (outer : List Frame) (w : Walked) : Type 0 where
    pub frame : Frame
    pub from : framed (here outer) (parts w.items) [] ≡ Some frame
    pub items : Every IsCalmItem w.items
    pub exprs : List Expr
    pub list : w.list ≡ map item exprs
    pub fine : Zipped (Fine (here (frame ∷ outer))) exprs rows

  pub walk_good : (outer : List Frame) (w : Walked) → Walks outer w → Good (here outer) rows (selected w)
  walk_good outer w h =
      subst (Good (here outer) rows) (ap (λ l. roll-Select (record { list = l; from = w.items; filter = None; order = []; limit = None })) (sym h.list))
      (good_select (here outer) h.frame h.exprs w.items None rows h.from tt h.fine h.items)

  -- behind the items that a walk begins with
  pub record Behind (outer : List Frame) (frame : Frame) (items : List FromItem) : Type 0 where
    pub from : framed (here outer) (parts items) [] ≡ Some frame
    pub calm : Every IsCalmItem items
    pub size : length items ≡ length frame

  more_behind : (outer : List Frame) (frame : Frame) (items : List FromItem) (f : FromItem) (ts : List Ty) → Behind outer frame items
      → Brings (here outer) frame f ts
      → Behind outer (frame ++ ts ∷ []) (items ++ f ∷ [])
  more_behind outer frame items f ts h k = record {
    from = one_more (here outer) items f frame ts h.from k;
    calm = every_append IsCalmItem items (f ∷ []) h.calm (k.item, tt);
    size = both_grown items frame f ts h.size;
  }

  pub gate_behind : (outer : List Frame) (k : ℕ) (c : Expr) → Fine (here ([] ∷ [] ∷ outer)) c ty.Boolean
      → Behind outer ((ty.Boolean ∷ []) ∷ []) (gate_as k c ∷ [])
  gate_behind outer k c h = more_behind outer [] [] (gate_as k c) (ty.Boolean ∷ []) (record { from = refl; calm = tt; size = refl })
      (gate_brings [] outer k c h)

  ended : (outer : List Frame) (frame : Frame) (items : List FromItem) (list : List Expr) (next : ℕ) → Behind outer frame items
      → Zipped (Fine (here (frame ∷ outer))) list rows
      → Walks outer (written.ended items list next)
  ended outer frame items list next h k = record { frame = frame; from = h.from; items = h.calm; exprs = list; list = refl; fine = k }

  pub walks : (depth : ℕ) (places : Scope ItemColumn) (items : List FromItem) (k : ℕ) (body : Body) (names : List ℕ) (frame : Frame) (outer : List Frame)
      → Behind outer frame items
      → Sees frame outer depth m.types places names → HasTree m.table names body → IsTyped tables m.table m.types m.result m.tail.columns body
      → Walks outer (walk m depth places items k body)
  walks depth places items k (sets n u x) names frame outer b sees tree typed =
      let brings = let_brings frame outer depth places names k (m.types n) u sees tree.0 typed.0 in
      walks depth (stands n (first_of depth (length items)) places) (items ++ (let_at m depth places k (m.types n) u ∷ [])) (suc k) x (n ∷ names)
      (frame ++ (m.types n ∷ []) ∷ []) outer
      (more_behind outer frame items (let_at m depth places k (m.types n) u) (m.types n ∷ []) b brings)
      (sees_new frame outer depth m.types places names n (length items) b.size sees) tree.1 typed.1
  walks depth places items k (enters params args x) names frame outer b sees tree typed =
      walks depth (paired places nowhere params args) items k x params frame outer b
      (sees_passed frame outer depth m.types places names sees params args typed.0 tree.0.known tree.0.as_many) tree.1 typed.1
  walks depth places items k (picks u x y) names frame outer b sees tree typed =
      let c : Expr = col 2 (length items) 0 in
      let test = let_at m depth places k ty.Boolean u in
      let frame1 : Frame = frame ++ (ty.Boolean ∷ []) ∷ [] in
      let first : Walked = walk m (suc depth) places (gate_as (suc (suc k)) c ∷ []) (suc (suc (suc k))) x in
      let second : Walked = walk m (suc depth) places (gate_as first.next (is_not_true c) ∷ []) (suc first.next) y in
      let b1 = more_behind outer frame items test (ty.Boolean ∷ []) b (let_brings frame outer depth places names k ty.Boolean u sees tree.0 typed.0) in
      let column = column_fine (here ([] ∷ [] ∷ frame1 ∷ outer)) (record { level = 2; item = length items; column = 0 }) ty.Boolean
      (new_seen frame outer (ty.Boolean ∷ []) (length items) 0 b.size ty.Boolean refl) in
      let inner = sees_inside ((ty.Boolean ∷ []) ∷ []) frame1 outer depth m.types places names
      (sees_more frame outer (ty.Boolean ∷ []) depth m.types places names sees) in
      let yes = walks (suc depth) places (gate_as (suc (suc k)) c ∷ []) (suc (suc (suc k))) x names ((ty.Boolean ∷ []) ∷ []) (frame1 ∷ outer)
      (gate_behind (frame1 ∷ outer) (suc (suc k)) c column) inner tree.1 typed.1 in
      let no = walks (suc depth) places (gate_as first.next (is_not_true c) ∷ []) (suc first.next) y names ((ty.Boolean ∷ []) ∷ []) (frame1 ∷ outer)
      (gate_behind (frame1 ∷ outer) first.next (is_not_true c) (not_true_fine (here ([] ∷ [] ∷ frame1 ∷ outer)) c column)) inner tree.2 typed.2 in
      let either = either_as (suc k) (length m.tail.columns) (selected first) (selected second) in
      let brings = lateral_brings (here outer) frame1 (alias_name (suc k)) (row_names (length m.tail.columns)) (selected first) (selected second ∷ []) rows
      (row_names_size m.tail.columns m.result)
      (walk_good (frame1 ∷ outer) first yes, (walk_good (frame1 ∷ outer) second no, tt))
      in
      let b2 = more_behind outer frame1 (items ++ test ∷ []) either rows b1 brings in
      let b3 : Behind outer (frame1 ++ rows ∷ []) (items ++ (test ∷ either ∷ [])) = subst (Behind outer (frame1 ++ rows ∷ []))
      (append_assoc items (test ∷ []) (either ∷ [])) b2 in
      let there : suc (length items) ≡ length frame1 = ap suc b.size ∙ sym (grown frame (ty.Boolean ∷ [])) in
      ended outer (frame1 ++ rows ∷ []) (items ++ (test ∷ either ∷ [])) (all_columns m (suc (length items))) second.next b3
      (columns_fine (here ((frame1 ++ rows ∷ []) ∷ outer)) (frame1 ++ rows ∷ []) outer m.tail.columns m.result (suc (length items)) refl
      (ap (slice_get (frame1 ++ rows ∷ [])) there ∙ last_item frame1 rows))
  walks depth places items k (returns u) names frame outer b sees tree typed =
      let value = let_at m depth places k m.result u in
      let frame1 : Frame = frame ++ (m.result ∷ []) ∷ [] in
      let p : Places = here (frame1 ∷ outer) in
      ended outer frame1 (items ++ (value ∷ [])) (end_row m (col 0 (length items) 0) (null_of ty.Text)) (suc k)
      (more_behind outer frame items value (m.result ∷ []) b (let_brings frame outer depth places names k m.result u sees tree typed))
      (end_fine p (col 0 (length items) 0) (null_of ty.Text) (column_fine p (record { level = 0; item = length items; column = 0 }) m.result
      (new_seen frame outer (m.result ∷ []) (length items) 0 b.size m.result refl)) (null_fine p ty.Text))
  walks depth places items k (fails c) names frame outer b sees tree typed =
      let p : Places = here (frame ∷ outer) in
      ended outer frame items (end_row m (null_of m.result) (class_text m c)) k b (end_fine p (null_of m.result) (class_text m c) (null_fine p m.result)
      (text_fine p c.code))
  walks depth places items k (calls label keys args) names frame outer b sees tree typed =
      let p : Places = here (frame ∷ outer) in
      ended outer frame items (call_row m depth places label keys args) k b (
        truth_fine p true,
        (
          number_fine p (pos (suc label)),
          zipped_append (Fine p) (cells_at 0 depth places keys args m.tail.columns) m.tail.columns (null_of m.result ∷ null_of ty.Text ∷ [])
              (m.result ∷ ty.Text ∷ [])
              (cells_fine frame outer depth places names keys args sees tree.known typed 0 m.tail.columns (from_zero m.tail.columns))
              (null_fine p m.result, (null_fine p ty.Text, tt)),
        ),
      )
  walks depth places items k endless names frame outer b sees tree typed = absurd tree
