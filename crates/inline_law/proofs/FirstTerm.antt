-- The first term: a start for each call at each row that is kept, or the class of FROM, WHERE or an argument.
use Rattle.std.proofs.Common.{◌≡◌, refl, ap, sym, ◌∙◌, subst, ℕ, zero, suc, true, false, ◌||◌, cond, pos, List, [], ◌∷◌, ◌++◌, map, get_or, None, Ok, Err, if◌then◌else◌, codes}
use Rattle.std.specs.Prelude.{slice_get}
use Rattle.away_trees.specs.Algebra.{expr_of, item_of, select_of}
use Rattle.away_trees.specs.declared.queries.Expr.{Expr}
use Rattle.away_trees.specs.declared.queries.Expr.TheVariants as expr
use Rattle.away_trees.specs.declared.queries.Expr.TheViews.{out-Select}
use Rattle.away_trees.specs.declared.queries.Select.{Select}
use Rattle.away_trees.proofs.Equations as eq
use Rattle.away_values.specs.declared.types.Ty.{Ty}
use Rattle.away_values.specs.declared.types.Ty.TheVariants as ty
use Rattle.away_values.specs.declared.values.Class.{Class}
use Rattle.away_values.specs.declared.values.Value.{Value}
use Rattle.away_values.specs.declared.values.Value.TheVariants as val
use Rattle.away_values.specs.Operators.{cast}
use Rattle.away_values.specs.Results.{Or, and_then, mapped, each, class}
use Rattle.type_soundness.specs.Sorts.{IsOf}
use Rattle.sql_meaning.specs.Context.{Rows, Frame, Context, at, inside, over}
use Rattle.sql_meaning.specs.Expressions.{values, any_aggregates}
use Rattle.sql_meaning.specs.Meaning.{meaning, value, has_aggregate, rows_of_select}
use Rattle.sql_meaning.specs.Selects.{product, kept, listed, ordered, cut, select_meaning, union}
use Rattle.sql_meaning.specs.Trees.{cast_to, item, null_of, number, select, truth}
use Rattle.sql_meaning.proofs.SelectRows.{Is, Are, is_null_of, is_number, is_truth, more, none, null_cast}
use Rattle.call_forms.specs.Forms.{params_of}
use Rattle.call_forms.specs.TailRuns.{row_from}
use Rattle.cte_law.proofs.ScopesAlike.{paired_relates}
use Rattle.cte_law.proofs.Sequences.{unit}
use Rattle.cte_law.proofs.Works.{all}
use Rattle.cte_law.proofs.Worlds.{World, frame_in}
use Rattle.batch_law.specs.Batches.{entry_place}
use Rattle.batch_law.specs.Starts.{Start, start_row}
use Rattle.inline_law.specs.Answers.{Every, FitParameters}
use Rattle.inline_law.specs.Filled.{arguments_at, filter_of, froms_of, kept_rows}
use Rattle.inline_law.specs.Written.{argument_cells, cast_arguments, start_list, starts_of_calls}

-- ---- a select without ORDER BY and LIMIT

items : (es : List Expr) → map (λ i. item_of meaning i) (map item es) ≡ all es
items [] = refl
items (e ∷ es) = ap (λ ms. expr_of meaning e ∷ ms) (items es)

then_both : {A B C : Type 0} (x : Or A) (f : A → Or B) (g : B → Or C) → and_then x (λ a. and_then (f a) g) ≡ and_then (and_then x f) g
then_both (Ok a) f g = refl
then_both (Err c) f g = refl

abbrev list_at : Context → List Expr → List Frame → Or Rows
list_at cx es frames = each (λ frame. values (inside frame cx) (all es)) frames

list_alone : (cx : Context) (es : List Expr) (frames : List Frame) → any_aggregates (all es) ≡ false
    → and_then (listed cx (all es) [] frames) (cut cx None) ≡ list_at cx es frames
list_alone cx es frames s =
    ap (λ b. and_then (cond b (mapped (λ row. row ∷ []) (values (over frames cx) (all es))) (and_then (list_at cx es frames) (ordered cx [] frames))) (cut cx None)) s
    ∙ (ap (λ x. and_then x (cut cx None)) (unit (list_at cx es frames)) ∙ unit (list_at cx es frames))

rows_listed : (s : Select) (es : List Expr) (cx : Context) → any_aggregates (all es) ≡ false
    → rows_of_select (select es (out-Select s).from (out-Select s).filter) cx ≡ and_then (kept_rows s cx) (list_at cx es)
rows_listed s es cx h =
    ap (λ m. m cx) (eq.of_select meaning (map item es) (out-Select s).from (out-Select s).filter [] None)
    ∙ (ap (λ l. select_meaning (record { list = l; from = froms_of s; filter = filter_of s; order = []; limit = None }) cx) (items es)
    ∙ (then_both (product cx (froms_of s) ([] ∷ [])) (kept cx (filter_of s)) (λ frames. and_then (listed cx (all es) [] frames) (cut cx None))
    ∙ (λ i. and_then (kept_rows s cx) (λ frames. list_alone cx es frames h i))))

-- ---- the casts of arguments

cast_typed : (t : Ty) (v : Value) → IsOf t v → cast t v ≡ Ok v
cast_typed t val.Null h = null_cast t
cast_typed ty.Bigint (val.Int n) h = refl
cast_typed ty.Bigint (val.Bool n) h = absurd h
cast_typed ty.Bigint (val.Text n) h = absurd h
cast_typed ty.Boolean (val.Int n) h = absurd h
cast_typed ty.Boolean (val.Bool n) h = refl
cast_typed ty.Boolean (val.Text n) h = absurd h
cast_typed ty.Integer (val.Int n) h = ap (λ b. if b then Ok (val.Int n) else Err (class (codes "22003"))) h
cast_typed ty.Integer (val.Bool n) h = absurd h
cast_typed ty.Integer (val.Text n) h = absurd h
cast_typed ty.Text (val.Int n) h = absurd h
cast_typed ty.Text (val.Bool n) h = absurd h
cast_typed ty.Text (val.Text n) h = refl

cast_same : (cx : Context) (t : Ty) (e : Expr) → ((v : Value) → value e cx ≡ Ok v → IsOf t v) → value (cast_to t e) cx ≡ value e cx
cast_same cx t e h = ap (λ m. m.value cx) (eq.of_cast meaning e t) ∙ by (value e cx) refl
  where
    by : (o : Or Value) → value e cx ≡ o → and_then (value e cx) (cast t) ≡ value e cx
    by (Ok v) k = ap (λ o. and_then o (cast t)) k ∙ (cast_typed t v (h v k) ∙ sym k)
    by (Err c) k = ap (λ o. and_then o (cast t)) k ∙ sym k

casts_same : (cx : Context) (ts : List Ty) (es : List Expr) → FitParameters cx ts es → values cx (all (cast_arguments ts es)) ≡ values cx (all es)
casts_same cx [] [] h = refl
casts_same cx (t ∷ ts) (e ∷ es) h =
    (λ i. and_then (cast_same cx t e h.0 i) (λ v. mapped (λ vs. v ∷ vs) (casts_same cx ts es h.1 i)))
casts_same cx [] (e ∷ es) h = absurd h
casts_same cx (t ∷ ts) [] h = absurd h

-- ---- no aggregate

abbrev pub IsSingle : Expr → Type 0
IsSingle e = has_aggregate e ≡ false

abbrev pub AreSingle : List Expr → Type 0
AreSingle = Every IsSingle

none_aggregates : (es : List Expr) → AreSingle es → any_aggregates (all es) ≡ false
none_aggregates [] h = refl
none_aggregates (e ∷ es) h = (λ i. h.0 i || none_aggregates es h.1 i)

both_single : (xs ys : List Expr) → AreSingle xs → AreSingle ys → AreSingle (xs ++ ys)
both_single [] ys h k = k
both_single (x ∷ xs) ys h k = (h.0, both_single xs ys h.1 k)

cast_single : (t : Ty) (e : Expr) → IsSingle e → IsSingle (cast_to t e)
cast_single t e h = ap (λ m. m.aggregates) (eq.of_cast meaning e t) ∙ h

casts_single : (ts : List Ty) (es : List Expr) → AreSingle es → AreSingle (cast_arguments ts es)
casts_single [] [] h = tt
casts_single [] (e ∷ es) h = tt
casts_single (t ∷ ts) [] h = tt
casts_single (t ∷ ts) (e ∷ es) h = (cast_single t e h.0, casts_single ts es h.1)

single_at : (es : List Expr) → AreSingle es → (p : ℕ) → IsSingle (get_or es p expr.Null)
single_at [] h p = refl
single_at (e ∷ es) h zero = h.0
single_at (e ∷ es) h (suc p) = single_at es h.1 p

cells_single : (es : List Expr) → AreSingle es → (i : ℕ) (places params : List ℕ) (columns : List Ty) → AreSingle (argument_cells es i places params columns)
cells_single es h i places params [] = tt
cells_single es h i places params (t ∷ ts) = (
  paired_relates {B = Unit {0}} (λ e u. IsSingle e) (λ p. get_or es p expr.Null) (λ p. tt) (null_of t) tt (λ p. single_at es h p) (cast_single t expr.Null refl) places params i,
  cells_single es h (suc i) places params ts,
)

-- ---- the cells

-- each expression has the value beside it, and there are no others
abbrev Hold : Context → List Expr → List Value → Type 0
Hold cx [] [] = Unit {0}
Hold cx (e ∷ es) (v ∷ vs) = Is cx e v × Hold cx es vs
Hold cx _ _ = ⊥

held_at : (cx : Context) (es : List Expr) (vs : List Value) → Hold cx es vs → (p : ℕ) → Is cx (get_or es p expr.Null) (at vs p)
held_at cx [] [] h p = record { gives = refl; single = refl }
held_at cx (e ∷ es) (v ∷ vs) h zero = h.0
held_at cx (e ∷ es) (v ∷ vs) h (suc p) = held_at cx es vs h.1 p
held_at cx [] (v ∷ vs) h p = absurd h
held_at cx (e ∷ es) [] h p = absurd h

are_cells : (cx : Context) (es : List Expr) (vs : List Value) → Hold cx es vs → (places params : List ℕ) (rest : List Expr) (ws : List Value)
    → Are cx rest ws → (i : ℕ) (columns : List Ty)
    → Are cx (argument_cells es i places params columns ++ rest) (row_from i (λ p. at vs p) places params columns ++ ws)
are_cells cx es vs h places params rest ws k i [] = k
are_cells cx es vs h places params rest ws k i (t ∷ ts) =
    more cx _ _ _ _
    (paired_relates (Is cx) (λ p. get_or es p expr.Null) (λ p. at vs p) (null_of t) val.Null (λ p. held_at cx es vs h p) (is_null_of cx t) places params i)
    (are_cells cx es vs h places params rest ws k (suc i) ts)

pub record Parted (cx : Context) (e : Expr) (es : List Expr) (vs : List Value) : Type 0 where
  pub first : Value
  pub others : List Value
  pub is : vs ≡ first ∷ others
  pub gives : value e cx ≡ Ok first
  pub rest : values cx (all es) ≡ Ok others

abbrev the_values : Or (List Value) → List Value
the_values (Ok vs) = vs
the_values (Err c) = []

abbrev IsGiven : {A : Type 0} → Or A → Type 0
IsGiven (Ok a) = Unit {0}
IsGiven (Err c) = ⊥

pub parted : (cx : Context) (e : Expr) (es : List Expr) (vs : List Value) → values cx (all (e ∷ es)) ≡ Ok vs → Parted cx e es vs
parted cx e es vs h = by (value e cx) (values cx (all es)) refl refl
  where
    by : (a : Or Value) (b : Or (List Value)) → value e cx ≡ a → values cx (all es) ≡ b → Parted cx e es vs
    by (Ok v) (Ok ws) p k =
        record {
          first = v;
          others = ws;
          is = ap the_values (sym h ∙ (λ i. and_then (p i) (λ y. mapped (λ ys. y ∷ ys) (k i))));
          gives = p;
          rest = k;
        }
    by (Ok v) (Err c) p k = absurd (subst IsGiven (sym h ∙ (λ i. and_then (p i) (λ y. mapped (λ ys. y ∷ ys) (k i)))) tt)
    by (Err c) b p k = absurd (subst IsGiven (sym h ∙ (λ i. and_then (p i) (λ y. mapped (λ ys. y ∷ ys) (k i)))) tt)

hold_casts : (cx : Context) (ts : List Ty) (es : List Expr) (vs : List Value) → AreSingle es → FitParameters cx ts es → values cx (all es) ≡ Ok vs
    → Hold cx (cast_arguments ts es) vs
hold_casts cx [] [] vs s h k = subst (Hold cx []) (ap the_values k) tt
hold_casts cx (t ∷ ts) (e ∷ es) vs s h k =
    let p = parted cx e es vs k in
    subst (Hold cx (cast_arguments (t ∷ ts) (e ∷ es))) (sym p.is) (
      record { gives = cast_same cx t e h.0 ∙ p.gives; single = cast_single t e s.0 },
      hold_casts cx ts es p.others s.1 h.1 p.rest,
    )
hold_casts cx [] (e ∷ es) vs s h k = absurd h
hold_casts cx (t ∷ ts) [] vs s h k = absurd h

are_held : (cx : Context) (es : List Expr) (vs : List Value) → Hold cx es vs → (rest : List Expr) (ws : List Value) → Are cx rest ws
    → Are cx (es ++ rest) (vs ++ ws)
are_held cx [] [] h rest ws k = k
are_held cx (e ∷ es) (v ∷ vs) h rest ws k = more cx e _ v _ h.0 (are_held cx es vs h.1 rest ws k)
are_held cx [] (v ∷ vs) h rest ws k = absurd h
are_held cx (e ∷ es) [] h rest ws k = absurd h

-- ---- a start

then_list : (cx : Context) (es rest : List Expr) (c : Class) → values cx (all es) ≡ Err c → values cx (all (es ++ rest)) ≡ Err c
then_list cx [] rest c h = absurd (subst IsGiven h tt)
then_list cx (e ∷ es) rest c h = by (value e cx) (values cx (all es)) refl refl (λ d k. then_list cx es rest d k)
  where
    by : (a : Or Value) (b : Or (List Value)) → value e cx ≡ a → values cx (all es) ≡ b
        → ((d : Class) → values cx (all es) ≡ Err d → values cx (all (es ++ rest)) ≡ Err d)
        → values cx (all ((e ∷ es) ++ rest)) ≡ Err c
    by (Ok v) (Ok ws) p k go = absurd (subst IsGiven ((λ i. and_then (sym p i) (λ y. mapped (λ ys. y ∷ ys) (sym k i))) ∙ h) tt)
    by (Ok v) (Err d) p k go =
        (λ i. and_then (p i) (λ y. mapped (λ ys. y ∷ ys) (go d k i)))
        ∙ ((λ i. and_then (sym p i) (λ y. mapped (λ ys. y ∷ ys) (sym k i))) ∙ h)
    by (Err d) b p k go =
        (λ i. and_then (p i) (λ y. mapped (λ ys. y ∷ ys) (values cx (all (es ++ rest))))) ∙ ((λ i. and_then (sym p i) (λ y. mapped (λ ys. y ∷ ys) (sym k i))) ∙ h)

module _ (w : World) (params : List Ty) where
  abbrev pub start_of_values : ℕ → List Value → Start
  start_of_values n vs = (val.Int (pos n) ∷ vs, vs)

  abbrev pub row_of_start : Start → List Value
  row_of_start s = start_row (frame_in w) w.anf w.tail s

  abbrev label : ℕ
  label = entry_place w.result w.anf w.tail w.goto.entry

  abbrev places : List ℕ
  places = get_or w.tail.places label []

  abbrev names : List ℕ
  names = params_of (slice_get w.anf.blocks w.goto.entry)

  abbrev no_result : List Expr
  no_result = null_of w.result ∷ null_of ty.Text ∷ []

  abbrev behind_casts : List Expr → List Expr
  behind_casts es = argument_cells (cast_arguments params es) 0 places names w.tail.columns ++ no_result

  abbrev pub list : ℕ → List Expr → List Expr
  list n es = start_list params w.result w.anf w.tail w.goto.entry n es

  list_single : (n : ℕ) (es : List Expr) → AreSingle es → any_aggregates (all (list n es)) ≡ false
  list_single n es h =
      let casts = casts_single params es h in
      none_aggregates (list n es) (
        cast_single ty.Boolean (expr.Bool true) refl,
        (
          cast_single ty.Bigint (expr.Int (pos (suc label))) refl,
          (
            cast_single ty.Bigint (expr.Int (pos n)) refl,
            both_single (cast_arguments params es) (behind_casts es) casts
                (both_single (argument_cells (cast_arguments params es) 0 places names w.tail.columns) no_result
                (cells_single (cast_arguments params es) casts 0 places names w.tail.columns)
                (cast_single w.result expr.Null refl, (cast_single ty.Text expr.Null refl, tt))),
          ),
        ),
      )

  row_at : (cx : Context) (n : ℕ) (es : List Expr) → AreSingle es → FitParameters cx params es
      → values cx (all (list n es)) ≡ mapped (λ vs. row_of_start (start_of_values n vs)) (arguments_at cx es)
  row_at cx n es s h = by (arguments_at cx es) refl
    where
      by : (o : Or (List Value)) → arguments_at cx es ≡ o
          → values cx (all (list n es)) ≡ mapped (λ vs. row_of_start (start_of_values n vs)) (arguments_at cx es)
      by (Ok vs) k =
          let held = hold_casts cx params es vs s h k in
          let nulls = more cx (null_of w.result) _ val.Null _ (is_null_of cx w.result) (more cx (null_of ty.Text) _ val.Null _ (is_null_of cx ty.Text) (none cx)) in
          (more cx (truth true) _ _ _ (is_truth cx true)
          (more cx (number (pos (suc label))) _ _ _ (is_number cx (pos (suc label)))
          (more cx (number (pos n)) _ _ _ (is_number cx (pos n))
          (are_held cx (cast_arguments params es) vs held (behind_casts es) _
          (are_cells cx (cast_arguments params es) vs held places names no_result _ nulls 0 w.tail.columns))))).gives
          ∙ ap (mapped (λ vs. row_of_start (start_of_values n vs))) (sym k)
      by (Err c) k =
          let wrong = then_list cx (cast_arguments params es) (behind_casts es) c (casts_same cx params es h ∙ k) in
          (λ i. and_then ((is_truth cx true).gives i) (λ a. mapped (λ ys. a ∷ ys)
          (and_then ((is_number cx (pos (suc label))).gives i) (λ b. mapped (λ ys. b ∷ ys)
          (and_then ((is_number cx (pos n)).gives i) (λ d. mapped (λ ys. d ∷ ys) (wrong i)))))))
          ∙ ap (mapped (λ vs. row_of_start (start_of_values n vs))) (sym k)

  -- ---- all starts

  module _ (cx : Context) where
    abbrev pub start_at : ℕ → List Expr → Frame → Or Start
    start_at n es frame = mapped (start_of_values n) (arguments_at (inside frame cx) es)

    -- of the calls from this number on, call by call
    abbrev pub starts_at : List Frame → ℕ → List (List Expr) → Or (List Start)
    starts_at frames n [] = Ok []
    starts_at frames n (es ∷ calls) = and_then (each (start_at n es) frames) (λ xs. mapped (λ ys. xs ++ ys) (starts_at frames (suc n) calls))

    abbrev Fit : List Frame → List Expr → Type 0
    Fit frames es = Every (λ (frame : Frame). FitParameters (inside frame cx) params es) frames

    twice : {A B C : Type 0} (f : B → C) (g : A → B) (o : Or A) → mapped (λ x. f (g x)) o ≡ mapped f (mapped g o)
    twice f g (Ok x) = refl
    twice f g (Err c) = refl

    each_mapped : {B C : Type 0} (f : B → C) (x : Or B) (xs : Or (List B))
        → and_then (mapped f x) (λ y. mapped (λ ys. y ∷ ys) (mapped (map f) xs)) ≡ mapped (map f) (and_then x (λ y. mapped (λ ys. y ∷ ys) xs))
    each_mapped f (Ok x) (Ok xs) = refl
    each_mapped f (Ok x) (Err c) = refl
    each_mapped f (Err c) xs = refl

    listed_at : (n : ℕ) (es : List Expr) → AreSingle es → (frames : List Frame) → Fit frames es
        → list_at cx (list n es) frames ≡ mapped (map row_of_start) (each (start_at n es) frames)
    listed_at n es s [] h = refl
    listed_at n es s (frame ∷ frames) h =
        (λ i. and_then ((row_at (inside frame cx) n es s h.0 ∙ twice row_of_start (start_of_values n) (arguments_at (inside frame cx) es)) i)
        (λ y. mapped (λ ys. y ∷ ys) (listed_at n es s frames h.1 i)))
        ∙ each_mapped row_of_start (start_at n es frame) (each (start_at n es) frames)

    map_append : {A B : Type 0} (f : A → B) (xs ys : List A) → map f (xs ++ ys) ≡ map f xs ++ map f ys
    map_append f [] ys = refl
    map_append f (x ∷ xs) ys = ap (λ more. f x ∷ more) (map_append f xs ys)

    joined_mapped : {A B : Type 0} (f : A → B) (x y : Or (List A))
        → and_then (mapped (map f) x) (λ xs. mapped (λ ys. xs ++ ys) (mapped (map f) y)) ≡ mapped (map f) (and_then x (λ xs. mapped (λ ys. xs ++ ys) y))
    joined_mapped f (Err c) y = refl
    joined_mapped f (Ok xs) (Err c) = refl
    joined_mapped f (Ok xs) (Ok ys) = ap Ok (sym (map_append f xs ys))

    -- the first term where FROM and WHERE give rows
    pub first_starts : (s : Select) (frames : List Frame) → kept_rows s cx ≡ Ok frames → (n : ℕ) (calls : List (List Expr)) → Every AreSingle calls
        → Every (Fit frames) calls
        → union (map (λ x. select_of meaning x) (starts_of_calls params w.result w.anf w.tail w.goto.entry s n calls)) cx ≡ mapped (map row_of_start) (starts_at frames n calls)
    first_starts s frames kept n [] single fit = refl
    first_starts s frames kept n (es ∷ calls) single fit =
        (λ i. and_then ((rows_listed s (list n es) cx (list_single n es single.0) ∙ (ap (λ o. and_then o (list_at cx (list n es))) kept ∙ listed_at n es single.0 frames fit.0)) i)
        (λ xs. mapped (λ ys. xs ++ ys) (first_starts s frames kept (suc n) calls single.1 fit.1 i)))
        ∙ joined_mapped row_of_start (each (start_at n es) frames) (starts_at frames (suc n) calls)

    -- and where they give a class
    pub first_fails : (s : Select) (c : Class) → kept_rows s cx ≡ Err c → (n : ℕ) (es : List Expr) (calls : List (List Expr)) → AreSingle es
        → union (map (λ x. select_of meaning x) (starts_of_calls params w.result w.anf w.tail w.goto.entry s n (es ∷ calls))) cx ≡ Err c
    first_fails s c wrong n es calls single =
        ap (λ o. and_then o (λ xs. mapped (λ ys. xs ++ ys) (union (map (λ x. select_of meaning x) (starts_of_calls params w.result w.anf w.tail w.goto.entry s (suc n) calls)) cx)))
        (rows_listed s (list n es) cx (list_single n es single) ∙ ap (λ o. and_then o (list_at cx (list n es))) wrong)
