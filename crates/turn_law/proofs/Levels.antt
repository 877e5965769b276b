-- Selects one over another, over one row: each has the row of its expressions.
use Rattle.std.proofs.Common.{◌≡◌, refl, ap, sym, ◌∙◌, subst, ℕ, suc, Bool, true, false, ◌||◌, cond, List, [], ◌∷◌, ◌++◌, map, length, Some, None, Ok, Err, append-nil}
use Rattle.away_trees.specs.declared.queries.Expr.{Expr}
use Rattle.away_trees.specs.declared.queries.Expr.TheVariants as expr
use Rattle.away_trees.specs.declared.queries.FromItem.{FromItem}
use Rattle.away_trees.specs.declared.queries.Select.{Select}
use Rattle.away_trees.specs.Algebra.{expr_of, item_of}
use Rattle.away_trees.proofs.Equations as eq
use Rattle.away_values.specs.declared.values.Class.{Class}
use Rattle.away_values.specs.declared.values.Value.{Value}
use Rattle.away_values.specs.Results.{Or, and_then, mapped, each}
use Rattle.sql_meaning.specs.Context.{Rows, Frame, Context, at, inside, over}
use Rattle.sql_meaning.specs.Expressions.{ExprMeaning, values, any_aggregates}
use Rattle.sql_meaning.specs.Meaning.{meaning, value, has_aggregate, rows_of_item, rows_of_select}
use Rattle.sql_meaning.specs.Selects.{select_meaning, product, cut, ordered}
use Rattle.sql_meaning.specs.Template.{below}
use Rattle.sql_meaning.specs.Trees.{col, item, subquery, one}
use Rattle.sql_meaning.proofs.RowPlaces.{read_all}
use Rattle.sql_meaning.proofs.SelectRows.{Are, is_col, more, for_all, extended}
use Rattle.turn_template.specs.TurnTemplate.{fenced, stacked, levels_of}

abbrev pub all : List Expr → List ExprMeaning
all = map (λ e. expr_of meaning e)

pub or_first : (a b : Bool) → (a || b) ≡ false → a ≡ false
or_first false b h = refl
or_first true b h = h

pub or_second : (a b : Bool) → (a || b) ≡ false → b ≡ false
or_second false b h = h
or_second true b h = absurd (cc)

-- ---- one select

items : (es : List Expr) → map (λ i. item_of meaning i) (map item es) ≡ all es
items [] = refl
items (e ∷ es) = ap (λ ms. expr_of meaning e ∷ ms) (items es)

abbrev limited : Context → Or Rows → Or Rows
limited cx o = and_then o (cut cx (Some (expr_of meaning expr.Null)))

fence_is : (es : List Expr) (from : FromItem) (cx : Context) → any_aggregates (all es) ≡ false
    → rows_of_select (fenced es from) cx
    ≡ and_then (product cx (rows_of_item from ∷ []) ([] ∷ []))
    (λ frames. limited cx (and_then (each (λ frame. values (inside frame cx) (all es)) frames) (ordered cx [] frames)))
fence_is es from cx s =
    ap (λ l. l cx) (eq.of_select meaning (map item es) (from ∷ []) None [] (Some expr.Null))
    ∙ (ap (λ l. select_meaning (record { list = l; from = rows_of_item from ∷ []; filter = None; order = []; limit = Some (expr_of meaning expr.Null) }) cx)
    (items es)
    ∙ ap (λ b. and_then (product cx (rows_of_item from ∷ []) ([] ∷ []))
    (λ frames. limited cx (cond b (mapped (λ row. row ∷ []) (values (over frames cx) (all es)))
    (and_then (each (λ frame. values (inside frame cx) (all es)) frames) (ordered cx [] frames))))) s)

from_is : (from : FromItem) (cx : Context) (rows : Or Rows) → rows_of_item from cx [] ≡ rows
    → product cx (rows_of_item from ∷ []) ([] ∷ [])
    ≡ and_then (and_then (mapped (map (λ (r : List Value). r ∷ [])) rows) (λ ys. Ok (ys ++ []))) (λ frames. Ok frames)
from_is from cx rows h = ap (λ x. and_then x (λ frames. Ok frames)) (extended cx (rows_of_item from) [] rows h)

-- a row, or a class
abbrev pub one_row : Or (List Value) → Or Rows
one_row o = mapped (λ r. r ∷ []) o

one_limited : (cx : Context) (o : Or (List Value)) (frames : List Frame)
    → limited cx (and_then (and_then o (λ y. Ok (y ∷ []))) (ordered cx [] frames)) ≡ one_row o
one_limited cx (Ok r) frames = refl
one_limited cx (Err c) frames = refl

fence_one : (es : List Expr) (from : FromItem) (cx : Context) (r : List Value) (o : Or (List Value)) → any_aggregates (all es) ≡ false
    → rows_of_item from cx [] ≡ Ok (r ∷ []) → values (inside (r ∷ []) cx) (all es) ≡ o → rows_of_select (fenced es from) cx ≡ one_row o
fence_one es from cx r o s h v =
    fence_is es from cx s
    ∙ (ap (λ x. and_then x (λ frames. limited cx (and_then (each (λ frame. values (inside frame cx) (all es)) frames) (ordered cx [] frames))))
    (from_is from cx (Ok (r ∷ [])) h)
    ∙ (ap (λ x. limited cx (and_then (and_then x (λ y. Ok (y ∷ []))) (ordered cx [] ((r ∷ []) ∷ [])))) v ∙ one_limited cx o ((r ∷ []) ∷ [])))

fence_none : (es : List Expr) (from : FromItem) (cx : Context) → any_aggregates (all es) ≡ false → rows_of_item from cx [] ≡ Ok []
    → rows_of_select (fenced es from) cx ≡ Ok []
fence_none es from cx s h =
    fence_is es from cx s
    ∙ ap (λ x. and_then x (λ frames. limited cx (and_then (each (λ frame. values (inside frame cx) (all es)) frames) (ordered cx [] frames))))
    (from_is from cx (Ok []) h)

fence_fault : (es : List Expr) (from : FromItem) (cx : Context) (c : Class) → any_aggregates (all es) ≡ false → rows_of_item from cx [] ≡ Err c
    → rows_of_select (fenced es from) cx ≡ Err c
fence_fault es from cx c s h =
    fence_is es from cx s
    ∙ ap (λ x. and_then x (λ frames. limited cx (and_then (each (λ frame. values (inside frame cx) (all es)) frames) (ordered cx [] frames))))
    (from_is from cx (Err c) h)

pub alone : (o : Or Rows) → and_then o (λ ys. Ok (ys ++ [])) ≡ o
alone (Ok xs) = ap Ok (append-nil xs)
alone (Err c) = refl

-- a subquery that isn't LATERAL
pub sub_is : (s : Select) (cx : Context) (frame : Frame) (rows : Or Rows) → rows_of_select s (inside [] cx) ≡ rows
    → rows_of_item (subquery false (one s)) cx frame ≡ rows
sub_is s cx frame rows h =
    ap (λ o. o [] cx frame) (eq.of_sub meaning (one s) false)
    ∙ (ap (λ w. w.rows (inside [] cx)) (eq.of_query meaning (s ∷ []))
    ∙ (ap (λ x. and_then x (λ ys. Ok (ys ++ []))) h ∙ alone rows))

-- ---- what steps and levels come to

abbrev pub good : List Value → Or (List Value)
good r = Ok r

abbrev pub bad : Class → Or (List Value)
bad c = Err c

-- what follows a value, and what a class comes to
abbrev pub after : {A : Type 0} → Or A → (A → Type 0) → (Class → Type 0) → Type 0
after (Ok a) P Q = P a
after (Err c) P Q = Q c

pub record Next {A : Type 0} (Gives : Or A → Type 0) (More : A → Type 0) (o : Or (List Value)) : Type 0 where
  pub answer : Or A
  pub gives : Gives answer
  pub more : after answer More (λ c. o ≡ Err c)

abbrev pub AllSingle : List (List Expr) → Type 0
AllSingle [] = Unit {0}
AllSingle (es ∷ more) = (any_aggregates (all es) ≡ false) × AllSingle more

-- over these tables
module _ (T : List Rows) where
  -- the value of an expression over the columns of one row, wherever the select stands
  abbrev pub At : Expr → List Value → Or Value → Type 0
  At e r o = (cx : Context) → cx.tables ≡ T → value e (inside (r ∷ []) cx) ≡ o

  abbrev pub AtAll : List Expr → List Value → Or (List Value) → Type 0
  AtAll es r o = (cx : Context) → cx.tables ≡ T → values (inside (r ∷ []) cx) (all es) ≡ o

  -- each step is a column more
  abbrev pub Steps : List Expr → List Value → Or (List Value) → Type 0
  Steps [] r o = o ≡ Ok r
  Steps (e ∷ es) r o = Next (λ a. At e r a) (λ v. Steps es (r ++ v ∷ []) o) o

  -- each level is another row
  abbrev pub Levels : List (List Expr) → List Value → Or (List Value) → Type 0
  Levels [] r o = o ≡ Ok r
  Levels (es ∷ more) r o = Next (λ a. AtAll es r a) (λ x. Levels more x o) o

  -- at these arguments
  module _ (A : List Value) where
    abbrev pub Gives : FromItem → Or Rows → Type 0
    Gives from o = (cx : Context) → cx.tables ≡ T → cx.args ≡ A → (frame : Frame) → rows_of_item from cx frame ≡ o

    -- ---- stacks

    stack_fault : (levels : List (List Expr)) → AllSingle levels → (from : FromItem) (c : Class) → Gives from (Err c) → Gives (stacked from levels) (Err c)
    stack_fault [] s from c h = h
    stack_fault (es ∷ levels) s from c h =
        stack_fault levels s.1 (subquery false (one (fenced es from))) c
        (λ cx t q frame. sub_is (fenced es from) cx frame (Err c) (fence_fault es from (inside [] cx) c s.0 (h (inside [] cx) t q [])))

    pub stack_none : (levels : List (List Expr)) → AllSingle levels → (from : FromItem) → Gives from (Ok []) → Gives (stacked from levels) (Ok [])
    stack_none [] s from h = h
    stack_none (es ∷ levels) s from h =
        stack_none levels s.1 (subquery false (one (fenced es from)))
        (λ cx t q frame. sub_is (fenced es from) cx frame (Ok []) (fence_none es from (inside [] cx) s.0 (h (inside [] cx) t q [])))

    pub stack_one : (levels : List (List Expr)) → AllSingle levels → (from : FromItem) (r : List Value) (o : Or (List Value)) → Gives from (Ok (r ∷ []))
        → Levels levels r o → Gives (stacked from levels) (one_row o)
    stack_one [] s from r o h is = λ cx t q frame. h cx t q frame ∙ ap one_row (sym is)
    stack_one (es ∷ levels) s from r o h is =
        by (λ x. stack_one levels s.1 (subquery false (one (fenced es from))) x o) is.answer is.gives is.more
      where
        above : (a : Or (List Value)) → AtAll es r a → Gives (subquery false (one (fenced es from))) (one_row a)
        above a g cx t q frame =
            sub_is (fenced es from) cx frame (one_row a)
            (fence_one es from (inside [] cx) r a s.0 (h (inside [] cx) t q []) (g (inside [] cx) t))

        by : ((x : List Value) → Gives (subquery false (one (fenced es from))) (Ok (x ∷ [])) → Levels levels x o → Gives (stacked from (es ∷ levels)) (one_row o))
            → (a : Or (List Value)) → AtAll es r a → after a (λ x. Levels levels x o) (λ c. o ≡ Err c) → Gives (stacked from (es ∷ levels)) (one_row o)
        by go (Ok x) g k = go x (above (Ok x) g) k
        by go (Err c) g k =
            subst (λ z. Gives (stacked from (es ∷ levels)) (one_row z)) (sym k)
            (stack_fault levels s.1 (subquery false (one (fenced es from))) c (above (Err c) g))

  -- ---- one after the other

  pub levels_join : (xs ys : List (List Expr)) (r x : List Value) (o : Or (List Value)) → Levels xs r (Ok x) → Levels ys x o → Levels (xs ++ ys) r o
  levels_join [] ys r x o h k = subst (λ z. Levels ys z o) (same_ok h) k
    where
      get : Or (List Value) → List Value
      get (Ok z) = z
      get (Err c) = r

      same_ok : good x ≡ good r → x ≡ r
      same_ok e = ap get e
  levels_join (es ∷ xs) ys r x o h k = by (λ z i. levels_join xs ys z x o i k) h.answer h.gives h.more
    where
      by : ((z : List Value) → Levels xs z (Ok x) → Levels (xs ++ ys) z o) → (a : Or (List Value)) → AtAll es r a
          → after a (λ z. Levels xs z (Ok x)) (λ c. good x ≡ bad c) → Levels ((es ∷ xs) ++ ys) r o
      by go (Ok z) g i = record { answer = Ok z; gives = g; more = go z i }
      by go (Err c) g i = absurd (cc)

  pub levels_fault : (xs ys : List (List Expr)) (r : List Value) (c : Class) → Levels xs r (Err c) → Levels (xs ++ ys) r (Err c)
  levels_fault [] ys r c h = absurd (cc)
  levels_fault (es ∷ xs) ys r c h = by (λ z i. levels_fault xs ys z c i) h.answer h.gives h.more
    where
      by : ((z : List Value) → Levels xs z (Err c) → Levels (xs ++ ys) z (Err c)) → (a : Or (List Value)) → AtAll es r a
          → after a (λ z. Levels xs z (Err c)) (λ d. bad c ≡ bad d) → Levels ((es ∷ xs) ++ ys) r (Err c)
      by go (Ok z) g i = record { answer = Ok z; gives = g; more = go z i }
      by go (Err d) g i = record { answer = Err d; gives = g; more = i }

  pub steps_join : (xs ys : List Expr) (r x : List Value) (o : Or (List Value)) → Steps xs r (Ok x) → Steps ys x o → Steps (xs ++ ys) r o
  steps_join [] ys r x o h k = subst (λ z. Steps ys z o) (same_ok h) k
    where
      get : Or (List Value) → List Value
      get (Ok z) = z
      get (Err c) = r

      same_ok : good x ≡ good r → x ≡ r
      same_ok e = ap get e
  steps_join (e ∷ xs) ys r x o h k = by (λ v i. steps_join xs ys (r ++ v ∷ []) x o i k) h.answer h.gives h.more
    where
      by : ((v : Value) → Steps xs (r ++ v ∷ []) (Ok x) → Steps (xs ++ ys) (r ++ v ∷ []) o) → (a : Or Value) → At e r a
          → after a (λ v. Steps xs (r ++ v ∷ []) (Ok x)) (λ c. good x ≡ bad c) → Steps ((e ∷ xs) ++ ys) r o
      by go (Ok v) g i = record { answer = Ok v; gives = g; more = go v i }
      by go (Err c) g i = absurd (cc)

  pub steps_fault : (xs ys : List Expr) (r : List Value) (c : Class) → Steps xs r (Err c) → Steps (xs ++ ys) r (Err c)
  steps_fault [] ys r c h = absurd (cc)
  steps_fault (e ∷ xs) ys r c h = by (λ v i. steps_fault xs ys (r ++ v ∷ []) c i) h.answer h.gives h.more
    where
      by : ((v : Value) → Steps xs (r ++ v ∷ []) (Err c) → Steps (xs ++ ys) (r ++ v ∷ []) (Err c)) → (a : Or Value) → At e r a
          → after a (λ v. Steps xs (r ++ v ∷ []) (Err c)) (λ d. bad c ≡ bad d) → Steps ((e ∷ xs) ++ ys) r (Err c)
      by go (Ok v) g i = record { answer = Ok v; gives = g; more = go v i }
      by go (Err d) g i = record { answer = Err d; gives = g; more = i }

  -- ---- a level for each step

  grown : (r : List Value) (v : Value) → length (r ++ v ∷ []) ≡ suc (length r)
  grown [] v = refl
  grown (x ∷ r) v = ap suc (grown r v)

  pub copies : (r : List Value) (cx : Context) → Are (inside (r ∷ []) cx) (map (col 0 0) (below (length r))) r
  copies r cx =
      subst (λ vs. Are (inside (r ∷ []) cx) (map (col 0 0) (below (length r))) vs) (read_all r)
      (for_all (inside (r ∷ []) cx) (col 0 0) (λ i. at r i) (below (length r)) (λ i. is_col (inside (r ∷ []) cx) 0 0 i))

  ended : (a : Or Value) → and_then a (λ y. mapped (λ ys. y ∷ ys) (Ok [])) ≡ mapped (λ v. v ∷ []) a
  ended (Ok v) = refl
  ended (Err c) = refl

  put_before : (w : Value) (ws : List Value) (a : Or Value) → mapped (λ ys. w ∷ ys) (mapped (λ v. ws ++ v ∷ []) a) ≡ mapped (λ v. (w ∷ ws) ++ v ∷ []) a
  put_before w ws (Ok v) = refl
  put_before w ws (Err c) = refl

  -- columns, and one expression more
  copied : (cx : Context) (r : List Value) (e : Expr) (a : Or Value) → value e (inside (r ∷ []) cx) ≡ a → (is : List ℕ)
      → values (inside (r ∷ []) cx) (all (map (col 0 0) is ++ e ∷ [])) ≡ mapped (λ v. map (λ i. at r i) is ++ v ∷ []) a
  copied cx r e a g [] = ap (λ x. and_then x (λ y. mapped (λ ys. y ∷ ys) (Ok []))) g ∙ ended a
  copied cx r e a g (i ∷ is) = ap (mapped (λ ys. at r i ∷ ys)) (copied cx r e a g is) ∙ put_before (at r i) (map (λ i. at r i) is) a

  pub levels_are : (m : ℕ) (es : List Expr) (r : List Value) (o : Or (List Value)) → length r ≡ m → Steps es r o → Levels (levels_of m es) r o
  levels_are m [] r o long h = h
  levels_are m (e ∷ es) r o long h = by (λ v i. levels_are (suc m) es (r ++ v ∷ []) o (grown r v ∙ ap suc long) i) h.answer h.gives h.more
    where
      level : (a : Or Value) → At e r a → AtAll (map (col 0 0) (below m) ++ e ∷ []) r (mapped (λ v. r ++ v ∷ []) a)
      level a g cx t =
          subst (λ n. values (inside (r ∷ []) cx) (all (map (col 0 0) (below n) ++ e ∷ [])) ≡ mapped (λ v. r ++ v ∷ []) a) long
          (copied cx r e a (g cx t) (below (length r)) ∙ ap (λ vs. mapped (λ v. vs ++ v ∷ []) a) (read_all r))

      by : ((v : Value) → Steps es (r ++ v ∷ []) o → Levels (levels_of (suc m) es) (r ++ v ∷ []) o) → (a : Or Value) → At e r a
          → after a (λ v. Steps es (r ++ v ∷ []) o) (λ c. o ≡ Err c) → Levels (levels_of m (e ∷ es)) r o
      by go (Ok v) g i = record { answer = Ok (r ++ v ∷ []); gives = level (Ok v) g; more = go v i }
      by go (Err c) g i = record { answer = Err c; gives = level (Err c) g; more = i }

  single_columns : (is : List ℕ) (e : Expr) → has_aggregate e ≡ false → any_aggregates (all (map (col 0 0) is ++ e ∷ [])) ≡ false
  single_columns [] e k = λ i. k i || false
  single_columns (i ∷ is) e k = single_columns is e k

  pub levels_single : (m : ℕ) (es : List Expr) → any_aggregates (all es) ≡ false → AllSingle (levels_of m es)
  levels_single m [] h = tt
  levels_single m (e ∷ es) h = (
    single_columns (below m) e (or_first (has_aggregate e) (any_aggregates (all es)) h),
    levels_single (suc m) es (or_second (has_aggregate e) (any_aggregates (all es)) h),
  )

  pub all_single : (xs ys : List (List Expr)) → AllSingle xs → AllSingle ys → AllSingle (xs ++ ys)
  all_single [] ys h k = k
  all_single (es ∷ xs) ys h k = (h.0, all_single xs ys h.1 k)
