-- The query that runs several turns in one iteration. A turn is one visit of a label, whose body is
-- a finite tree. The tree is made straight: each
-- term that may fault is a column more of the row, in one select more, under the condition of its
-- way through the tree, and then the cells of the
-- next row are CASE expressions over the tests. What selects below give is fenced by LIMIT NULL, so
-- that faults come in the order of the tree.
--
-- WITH RECURSIVE r(go, fn, c0, .., res, err) AS (
--   SELECT TRUE, entry, arguments, NULL, NULL
--   UNION ALL
--   SELECT k.go, .., k.err FROM (SELECT cells FROM (SELECT .., CASE WHEN way THEN term END FROM
-- (SELECT .. FROM r WHERE r.go) AS k LIMIT NULL) AS k LIMIT NULL) AS k)
-- SELECT r.res, r.err FROM r WHERE NOT r.go
use Rattle.std.specs.Prelude.{
  ℕ,
  zero,
  suc,
  ◌+◌,
  Bool,
  true,
  false,
  not,
  ◌&&◌,
  ◌||◌,
  if◌then◌else◌,
  cond,
  pos,
  List,
  [],
  ◌∷◌,
  ◌++◌,
  map,
  length,
  get_or,
  slice_get,
  nat_eq,
  nat_lt,
  Option,
  Some,
  None,
  decimal,
}
use Rattle.away_trees.specs.declared.queries.Expr.{Expr}
use Rattle.away_trees.specs.declared.queries.Expr.TheVariants as expr
use Rattle.away_trees.specs.declared.queries.Expr.TheViews.{roll-Select, roll-Recursive, roll-Query}
use Rattle.away_trees.specs.declared.queries.FromItem.{FromItem}
use Rattle.away_trees.specs.declared.queries.Query.{Query}
use Rattle.away_trees.specs.declared.queries.Select.{Select}
use Rattle.away_trees.specs.Algebra.{expr_of}
use Rattle.away_values.specs.declared.operators.ChainOp.TheVariants as chain
use Rattle.away_values.specs.declared.operators.CmpOp.TheVariants as cmp
use Rattle.away_values.specs.declared.operators.IsTest.TheVariants as test
use Rattle.away_values.specs.declared.types.Ty.{Ty}
use Rattle.away_values.specs.declared.types.Ty.TheVariants as ty
use Rattle.away_values.specs.declared.values.Class.{Class}
use Rattle.sql_meaning.specs.Placed.{replacing, with_cast}
use Rattle.sql_meaning.specs.Reads.{slots_of}
use Rattle.sql_meaning.specs.Template.{below, count_from, last}
use Rattle.sql_meaning.specs.Trees.{
  col,
  cast_to,
  number,
  truth,
  null_of,
  item,
  subquery,
  table_by,
  select,
  one,
}
use Rattle.block_forms.specs.declared.forms.Term.{Term}
use Rattle.call_forms.specs.Bodies.{
  Body,
  sets,
  enters,
  picks,
  returns,
  fails,
  calls,
  endless,
  body_of,
}
use Rattle.call_forms.specs.declared.forms.Anf.{Anf}
use Rattle.call_forms.specs.declared.forms.Tail.{Tail}
use Rattle.call_forms.specs.Forms.{params_of}
use Rattle.call_forms.specs.Scopes.{Scope, paired}
use Rattle.call_forms.specs.Template.{is_not_true, entry_place, start}

-- ---- references: expressions over the columns of the row, by how many selects stand between

abbrev pub Ref : Type 0
Ref = ℕ → Expr

-- column j of the row
abbrev pub of_column : ℕ → Ref
of_column j d = col d 0 j

-- what is not there is NULL
abbrev pub no_ref : Ref
no_ref d = expr.Null

-- name n stands for x from now on
abbrev pub names : ℕ → Ref → Scope Ref → Scope Ref
names n x refs m = cond (nat_eq m n) x (refs m)

-- an expression with references in place of its slots; the literal NULL has the cast to the type
abbrev pub placed_ref : Ty → (ℕ → Ref) → Expr → Ref
placed_ref t refs expr.Null d = with_cast t expr.Null
placed_ref t refs e d = expr_of (replacing (λ d i. refs i d) with_cast) e d

-- ---- conditions

-- CASE WHEN g THEN e END
abbrev pub gated : Expr → Expr → Expr
gated g e = expr.Cases ((g, e) ∷ []) None

-- CASE WHEN c THEN a ELSE b END
abbrev pub either : Expr → Expr → Expr → Expr
either c a b = expr.Cases ((c, a) ∷ []) (Some b)

abbrev pub both : Expr → Expr → Expr
both g c = expr.Chain g ((chain.And, c) ∷ [])

-- the cell of both where they are the same
abbrev pub one_cell : Bool → Expr → Expr → Expr → Expr
one_cell true c a b = a
one_cell false c a b = either c a b

-- cell by cell, where `same` tells which expressions are the same
abbrev pub choices : (Expr → Expr → Bool) → Expr → List Expr → List Expr → List Expr
choices same c [] bs = []
choices same c (a ∷ as_) [] = []
choices same c (a ∷ as_) (b ∷ bs) = one_cell (same a b) c a b ∷ choices same c as_ bs

-- ---- plans

-- Each step is a column more behind those of the row; the cells are the next row, and see all of
-- them.
pub record Plan : Type 0 where
  pub steps : List Expr
  pub cells : List Expr

-- a term's reference, and the step that it takes, if any
pub record Settled : Type 0 where
  pub ref : Ref
  pub steps : List Expr

-- without a step, or with a column more, where m columns stand in the row and g is the condition of
-- the way here
abbrev pub settle : Bool → ℕ → Expr → Ref → Settled
settle true m g x = record { ref = x; steps = [] }
settle false m g x = record { ref = of_column m; steps = gated g (x 0) ∷ [] }

abbrev pub behind : Settled → Plan → Plan
behind s p = record { steps = s.steps ++ p.steps; cells = p.cells }

-- the steps of both plans, and each cell as the condition says
abbrev pub chosen : (Expr → Expr → Bool) → Expr → Plan → Plan → Plan
chosen same c p q = record { steps = p.steps ++ q.steps; cells = choices same c p.cells q.cells }

abbrev pub cells_alone : List Expr → Plan
cells_alone es = record { steps = []; cells = es }

abbrev pub unless : Bool → List Expr → Plan → Plan
unless true es p = cells_alone es
unless false es p = p

-- ---- names that wait

abbrev pub is_empty : List ℕ → Bool
is_empty [] = true
is_empty (x ∷ xs) = false

abbrev pub is_in : List ℕ → ℕ → Bool
is_in [] n = false
is_in (x ∷ xs) n = nat_eq n x || is_in xs n

abbrev pub reads_none : List ℕ → List ℕ → Bool
reads_none waits [] = true
reads_none waits (n ∷ ns) = not (is_in waits n) && reads_none waits ns

-- the name that a key stands for
abbrev pub passed : List ℕ → List ℕ → ℕ → Option ℕ
passed keys args i = paired (λ n. Some n) None keys args i

abbrev pub is_name : Option ℕ → ℕ → Bool
is_name None n = false
is_name (Some m) n = nat_eq m n

-- the keys that stand for a name
abbrev pub keys_of : ℕ → List ℕ → List ℕ → List ℕ
keys_of n [] args = []
keys_of n (k ∷ ks) [] = []
keys_of n (k ∷ ks) (a ∷ as_) = cond (nat_eq a n) (k ∷ keys_of n ks as_) (keys_of n ks as_)

-- the keys that stand for names that wait, in their order
abbrev pub renamed : List ℕ → List ℕ → List ℕ → List ℕ
renamed [] keys args = []
renamed (w ∷ ws) keys args = keys_of w keys args ++ renamed ws keys args

-- a key that stands for a name that waits is among the new ones
abbrev pub covers : List ℕ → List ℕ → List ℕ → List ℕ → Bool
covers waits after [] args = true
covers waits after (k ∷ ks) [] = true
covers waits after (k ∷ ks) (n ∷ ns) = (not (is_in waits n) || is_in after k) && covers waits after ks ns

-- the new ones stand for the old ones, one by one
abbrev pub renames : List ℕ → List ℕ → List ℕ → List ℕ → Bool
renames [] [] keys args = true
renames [] (w ∷ ws) keys args = false
renames (k ∷ ks) [] keys args = false
renames (k ∷ ks) (w ∷ ws) keys args = is_name (passed keys args k) w && renames ks ws keys args

-- whether a name that waits is passed
abbrev pub is_passed : List ℕ → Option ℕ → Bool
is_passed waits None = false
is_passed waits (Some n) = is_in waits n

-- a cell takes no name that waits, or the next of those that are left
abbrev pub next_name : List ℕ → Option ℕ → (List ℕ → Bool) → Bool
next_name [] c more = false
next_name (l ∷ left) c more = is_name c l && more left

abbrev pub next_cell : List ℕ → List ℕ → Option ℕ → (List ℕ → Bool) → Bool
next_cell waits left c more = if is_passed waits c then next_name left c more else more left

-- the row as it is
abbrev pub all_cells : ℕ → List Expr
all_cells n = map (col 0 0) (below n)

-- ---- names that a term stands for

abbrev pub slot_in : Expr → Option ℕ
slot_in (expr.Slot i) = Some i
slot_in _ = None

abbrev pub name_at : List ℕ → List ℕ → Option ℕ → Option ℕ
name_at slots args None = None
name_at slots args (Some i) = passed slots args i

-- nothing waits, or this name alone
abbrev pub waits_at_most : List ℕ → Option ℕ → Bool
waits_at_most [] name = true
waits_at_most (w ∷ []) name = is_name name w
waits_at_most (w ∷ v ∷ ws) name = false

-- ---- how cells are written

-- Which cells are the same; and whether one label alone is called, so that a row that goes on has
-- it, and no number has to tell it.
pub record Style : Type 0 where
  pub same : Expr → Expr → Bool
  pub alone : Bool

-- the expressions by number, the type of each name, the types of the columns, the type of the
-- result, which terms can't fault, and how cells are written
module _ (table : List Expr) (types : ℕ → Ty) (columns : List Ty) (result : Ty) (total : Term → Bool) (style : Style) where
  abbrev pub width : ℕ
  width = suc (suc (suc (suc (length columns))))

  -- a term where its slots are the references of its names
  abbrev pub term_ref : Scope Ref → Ty → Term → Ref
  term_ref refs t u =
      let e : Expr = get_or table u.expr expr.Null in
      placed_ref t (paired refs no_ref (slots_of e) u.names) e

  abbrev pub settled : ℕ → Expr → Scope Ref → Ty → Term → Settled
  settled m g refs t u = settle (total u) m g (term_ref refs t u)

  -- what the row has already: its columns, and its result and its class, which are NULL while it
  -- goes on
  abbrev pub kept_columns : List Expr
  kept_columns = map (col 0 0) (count_from 2 (length columns))

  abbrev pub kept_result : Expr
  kept_result = col 0 0 (suc (suc (length columns)))

  abbrev pub kept_class : Expr
  kept_class = col 0 0 (suc (suc (suc (length columns))))

  -- the number of a label, and none
  abbrev pub label_cell : ℕ → Expr
  label_cell label = if style.alone then col 0 0 1 else number (pos (suc label))

  abbrev pub no_label : Expr
  no_label = if style.alone then col 0 0 1 else number (pos 0)

  abbrev pub end_cells : Expr → Expr → List Expr
  end_cells value class = truth false ∷ no_label ∷ (kept_columns ++ (value ∷ class ∷ []))

  abbrev pub row_cells : ℕ → Scope Ref → List ℕ → List ℕ → List Ty → List Expr
  row_cells i refs places args [] = []
  row_cells i refs places args (t ∷ ts) = paired (λ n. refs n 0) (null_of t) places args i ∷ row_cells (suc i) refs places args ts

  abbrev pub call_cells : ℕ → List Expr → List Expr
  call_cells label row = truth true ∷ label_cell label ∷ (row ++ (kept_result ∷ kept_class ∷ []))

  abbrev pub text_of : Class → Expr
  text_of c = cast_to ty.Text (expr.Str c.code)

  -- ---- bodies that need no step: their cells alone are evaluated, and a term that may fault is one cell

  -- The names that still wait for their cells are passed to the columns in this order, each once: `rest` has those that are left.
  abbrev pub in_order : List ℕ → List ℕ → ℕ → List ℕ → List ℕ → List Ty → Bool
  in_order waits rest i places args [] = is_empty rest
  in_order waits rest i places args (t ∷ ts) = next_cell waits rest (passed places args i) (λ left. in_order waits left (suc i) places args ts)

  -- the name that is the whole term
  abbrev pub name_of : Term → Option ℕ
  name_of t =
      let e : Expr = get_or table t.expr expr.Null in
      name_at (slots_of e) t.names (slot_in e)

  -- Whether a body may be its cells alone, where these names wait: no term reads them, and each is passed on once and in order, or is what is returned. A test is total.
  abbrev pub may_wait : List ℕ → Body → Bool
  may_wait waits (sets n t x) =
      not (is_in waits n) && (reads_none waits t.names && cond (total t) (may_wait waits x) (may_wait (waits ++ n ∷ []) x))
  may_wait waits (enters params args x) =
      let after : List ℕ = renamed waits params args in
      covers waits after params args && (renames after waits params args && may_wait after x)
  may_wait waits (picks t x y) = total t && (reads_none waits t.names && (may_wait waits x && may_wait waits y))
  may_wait waits (returns t) = waits_at_most waits (name_of t)
  may_wait waits (fails c) = is_empty waits
  may_wait waits (calls label places args) = in_order waits waits 0 places args columns
  may_wait waits endless = is_empty waits

  abbrev pub waiting : Scope Ref → Body → List Expr
  waiting refs (sets n t x) = waiting (names n (term_ref refs (types n) t) refs) x
  waiting refs (enters params args x) = waiting (paired refs no_ref params args) x
  waiting refs (picks t x y) = choices style.same (term_ref refs ty.Boolean t 0) (waiting refs x) (waiting refs y)
  waiting refs (returns t) = end_cells (term_ref refs result t 0) kept_class
  waiting refs (fails c) = end_cells kept_result (text_of c)
  waiting refs (calls label places args) = call_cells label (row_cells 0 refs places args columns)
  waiting refs endless = end_cells kept_result kept_class

  -- ---- bodies: cells alone where they may be, and else a step for the first term that may fault

  abbrev pub plan : ℕ → Expr → Scope Ref → Body → Plan
  plan m g refs (sets n t x) =
      let s : Settled = settled m g refs (types n) t in
      unless (may_wait [] (sets n t x)) (waiting refs (sets n t x)) (behind s (plan (length s.steps + m) g (names n s.ref refs) x))
  plan m g refs (enters params args x) = plan m g (paired refs no_ref params args) x
  plan m g refs (picks t x y) =
      let s : Settled = settled m g refs ty.Boolean t in
      let p : Plan = plan (length s.steps + m) (both g (s.ref 0)) refs x in
      unless (may_wait [] (picks t x y)) (waiting refs (picks t x y))
      (behind s (chosen style.same (s.ref 0) p (plan (length p.steps + (length s.steps + m)) (both g (is_not_true (s.ref 0))) refs y)))
  plan m g refs (returns t) = cells_alone (waiting refs (returns t))
  plan m g refs (fails c) = cells_alone (waiting refs (fails c))
  plan m g refs (calls label places args) = cells_alone (waiting refs (calls label places args))
  plan m g refs endless = cells_alone (waiting refs endless)

  -- the row has the label with this number
  abbrev pub at_label : ℕ → Expr
  at_label n = if style.alone then col 0 0 0 else expr.Compare cmp.Eq (col 0 0 1) (number (pos n))

  -- a column of r at a place, behind `go` and `fn`; what is no place is NULL
  abbrev pub of_place : ℕ → Ref
  of_place place = cond (nat_lt place (length columns)) (of_column (suc (suc place))) no_ref

-- ---- levels: selects one over another, each with one row of expressions over the columns of the
-- one below

-- SELECT es FROM from LIMIT NULL
abbrev pub fenced : List Expr → FromItem → Select
fenced es from = roll-Select (record { list = map item es; from = from ∷ []; filter = None; order = []; limit = Some expr.Null })

abbrev pub stacked : FromItem → List (List Expr) → FromItem
stacked from [] = from
stacked from (es ∷ more) = stacked (subquery false (one (fenced es from))) more

-- a level for each step: the m columns so far, and the step
abbrev pub levels_of : ℕ → List Expr → List (List Expr)
levels_of m [] = []
levels_of m (e ∷ es) = (map (col 0 0) (below m) ++ e ∷ []) ∷ levels_of (suc m) es

-- Column j is NULL or isn't.
abbrev pub is_there : ℕ → Expr
is_there j = expr.Is (expr.Is (col 0 0 j) test.Null false) test.Null true

-- an expression behind the reading of columns
abbrev pub behind_reads : List ℕ → Expr → Expr
behind_reads [] e = e
behind_reads (j ∷ js) e = gated (is_there j) (behind_reads js e)

-- The first cell reads these columns. PostgreSQL leaves out a column that nothing reads, and its
-- fault with it.
abbrev pub reads_first : List ℕ → List Expr → List Expr
reads_first js [] = []
reads_first js (e ∷ es) = behind_reads js e ∷ es

-- the cells behind m columns of the row, which read all steps
abbrev pub last_level : ℕ → Plan → List Expr
last_level m p = reads_first (count_from m (length p.steps)) p.cells

-- ---- the query

module _ (table : List Expr) (types : ℕ → Ty) (result : Ty) (total : Term → Bool) (style : Style) (a : Anf) (r : Tail) (entry : ℕ) where
  abbrev pub plan_of : ℕ → ℕ → ℕ → Plan
  plan_of m n b =
      plan table types r.columns result total style m (at_label table types r.columns result total style (suc n))
      (paired (of_place table types r.columns result total style) no_ref (params_of (slice_get a.blocks b)) (get_or r.places n [])) (body_of a r b)

  -- The plans of labels, numbered from n + 1. A row with no label stays as it is.
  abbrev pub plans : ℕ → ℕ → List ℕ → Plan
  plans m n [] = record { steps = []; cells = all_cells (width table types r.columns result total style) }
  plans m n (b ∷ bs) =
      let p : Plan = plan_of m n b in
      chosen style.same (at_label table types r.columns result total style (suc n)) p (plans (length p.steps + m) (suc n) bs)

  -- one turn by the labels numbered from n + 1, and no turn where the row is finished
  abbrev pub turn_levels : ℕ → List ℕ → List (List Expr)
  turn_levels n bs =
      let p : Plan = plans (width table types r.columns result total style) n bs in
      levels_of (width table types r.columns result total style) p.steps ++ last_level (width table types r.columns result total style) p ∷ []

-- each label is told by its number
abbrev pub numbered : (Expr → Expr → Bool) → Style
numbered same = record { same = same; alone = false }

abbrev pub is_single : List ℕ → Bool
is_single [] = false
is_single (b ∷ []) = true
is_single (b ∷ c ∷ bs) = false

-- a label that is called alone is told by nothing
abbrev pub told_by : (Expr → Expr → Bool) → List ℕ → Style
told_by same heads = record { same = same; alone = is_single heads }

module _ (table : List Expr) (types : ℕ → Ty) (result : Ty) (total : Term → Bool) (same : Expr → Expr → Bool) (a : Anf) (r : Tail) (entry : ℕ) where
  abbrev row_width : ℕ
  row_width = width table types r.columns result total (numbered same)

  -- k turns by the first labels
  abbrev pub turns : List ℕ → ℕ → List (List Expr)
  turns heads zero = []
  turns heads (suc k) = turn_levels table types result total (told_by same heads) a r entry 0 heads ++ turns heads k

  -- the rows of r that go on
  abbrev pub going : List ℕ → FromItem
  going digits = subquery false (one (select (all_cells row_width) (table_by digits ∷ []) (Some (col 0 0 0))))

  -- the first term: the arguments in the entry's places, and its turn
  abbrev pub first : Select
  first =
      select (all_cells row_width)
      (stacked (subquery false (one (start table types result a r entry))) (turn_levels table types result total (numbered same) a r entry (entry_place table types result a r entry) (entry ∷ [])) ∷ []) None

  -- the second term, where the recursive table has the place with these digits
  abbrev pub step : List ℕ → List ℕ → ℕ → Select
  step digits heads k = select (all_cells row_width) (stacked (going digits) (turns heads k) ∷ []) None

  abbrev pub query_with : List ℕ → List ℕ → ℕ → Query
  query_with digits heads k =
      roll-Query (record {
        recursive = Some (roll-Recursive (record { name = []; columns = []; first = first ∷ []; second = step digits heads k }));
        selects = last digits (length r.columns) ∷ [];
      })

  -- over so many tables, with k turns in an iteration, of which the first labels are those that are called
  abbrev pub query_of : ℕ → List ℕ → ℕ → Query
  query_of tables heads k = query_with (decimal tables) heads k
