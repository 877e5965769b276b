-- The selects of a batch with their names are those of its law.
use Rattle.std.proofs.Common.{◌≡◌, refl, ap, sym, ◌∙◌, ℕ, suc, true, false, pos, List, [], ◌∷◌, ◌++◌, map, length, get_or, Option, Some, None, option_map, decimal, Bool, if◌then◌else◌}
use Rattle.std.specs.Prelude.{slice_get, nat_eq}
use Rattle.away_trees.specs.declared.queries.Expr.{Expr}
use Rattle.away_trees.specs.declared.queries.Expr.TheVariants as expr
use Rattle.away_trees.specs.declared.queries.Expr.TheViews.{roll-Select, roll-Recursive, roll-Query, roll-Key}
use Rattle.away_trees.specs.declared.queries.FromItem.{FromItem}
use Rattle.away_trees.specs.declared.queries.Item.{Item}
use Rattle.away_trees.specs.declared.queries.Key.{Key}
use Rattle.away_trees.specs.declared.queries.Query.{Query}
use Rattle.away_trees.specs.declared.queries.Recursive.{Recursive}
use Rattle.away_trees.specs.declared.queries.Select.{Select}
use Rattle.away_trees.specs.declared.schemas.TableSchema.{TableSchema}
use Rattle.away_trees.specs.declared.statements.Function.{Function}
use Rattle.away_trees.specs.Algebra.{expr_of, item_of, key_of}
use Rattle.away_trees.proofs.Equations as eq
use Rattle.away_types.specs.declared.slots.Slot.{Slot}
use Rattle.away_values.specs.declared.types.Ty.{Ty}
use Rattle.away_values.specs.declared.types.Ty.TheVariants as ty
use Rattle.batch_law.specs.Batches.{Batched, column_cells, final, first_of}
use Rattle.block_forms.specs.declared.forms.Goto.{Goto}
use Rattle.block_forms.specs.declared.forms.Ssa.{Ssa}
use Rattle.call_forms.specs.Carried.{Carried}
use Rattle.call_forms.specs.declared.forms.Anf.{Anf}
use Rattle.call_forms.specs.declared.forms.Tail.{Tail}
use Rattle.call_forms.specs.Forms.{params_of}
use Rattle.call_forms.specs.Scopes.{paired}
use Rattle.cte_template.proofs.Nameless.{from_bare, select_bare}
use Rattle.cte_template.specs.Places.{beside}
use Rattle.cte_template.specs.Starts.{calls_of_rows, ended_calls, from_table, parameter, parameters_at, place_of_entry}
use Rattle.sql_meaning.specs.Names.{nameless, bare, bare_query, bare_recursive, bare_select}
use Rattle.sql_meaning.specs.Trees.{col, item, null_of, number, select, table_by, truth}

-- ---- the cells

chosen : (t : Ty) (b : Bool) (p : ℕ) (x : Option ℕ) (y : Expr) → parameter t x ≡ y
    → parameter t (if b then Some p else x) ≡ (if b then col 0 0 (suc p) else y)
chosen t true p x y h = refl
chosen t false p x y h = h

-- the cell of a place, where what stands beside it is looked up first
cell_is : (t : Ty) (keys params : List ℕ) (i : ℕ)
    → parameter t (paired (λ k. Some k) None keys params i) ≡ paired (λ p. col 0 0 (suc p)) (null_of t) keys params i
cell_is t [] params i = refl
cell_is t (k ∷ keys) [] i = refl
cell_is t (k ∷ keys) (p ∷ params) i = chosen t (nat_eq k i) p _ _ (cell_is t keys params i)

cells_are : (i : ℕ) (keys params : List ℕ) (ts : List Ty) → parameters_at i keys params ts ≡ column_cells i keys params ts
unfolding beside
cells_are i keys params [] = refl
cells_are i keys params (t ∷ ts) = λ j. cell_is t keys params i j ∷ cells_are (suc i) keys params ts j

-- ---- the selects

select_is : (list : List Item) (fs : List FromItem) (filter : Option Expr) (order : List Key)
    → select_bare (roll-Select (record { list = list; from = fs; filter = filter; order = order; limit = None }))
    ≡ bare_select (record { list = map (λ i. item_of nameless i) list; from = map (λ f. from_bare f) fs; filter = option_map (λ e. expr_of nameless e) filter; order = map (λ k. key_of nameless k) order; limit = None })
select_is list fs filter order = eq.of_select nameless list fs filter order None

-- one select with other items of the same kind
same_froms : (list : List Item) (fs gs : List FromItem) (filter : Option Expr) (order : List Key) → map (λ f. from_bare f) fs ≡ map (λ f. from_bare f) gs
    → select_bare (roll-Select (record { list = list; from = fs; filter = filter; order = order; limit = None }))
    ≡ select_bare (roll-Select (record { list = list; from = gs; filter = filter; order = order; limit = None }))
same_froms list fs gs filter order h =
    select_is list fs filter order
    ∙ (ap (λ froms. bare_select (record { list = map (λ i. item_of nameless i) list; from = froms; filter = option_map (λ e. expr_of nameless e) filter; order = map (λ k. key_of nameless k) order; limit = None })) h
    ∙ sym (select_is list gs filter order))

table_is : (place : ℕ) (t : TableSchema) → from_bare (from_table place t) ≡ from_bare (table_by (decimal place))
table_is place t = refl

first_same : (result : Ty) (anf : Anf) (tail : Tail) (entry place : ℕ) (t : TableSchema)
    → select_bare (calls_of_rows result anf tail entry place t) ≡ select_bare (first_of result anf tail entry (decimal place))
first_same result anf tail entry place t =
    let at : ℕ = place_of_entry tail entry in
    let keys : List ℕ = get_or tail.places at [] in
    let params : List ℕ = params_of (slice_get anf.blocks entry) in
    let row : List Expr → List Expr = λ cells. truth true ∷ number (pos (suc at)) ∷ col 0 0 0 ∷ cells ++ (null_of result ∷ null_of ty.Text ∷ []) in
    same_froms (map item (row (parameters_at 0 keys params tail.columns))) (from_table place t ∷ []) (table_by (decimal place) ∷ []) None [] (λ i. table_is place t i ∷ [])
    ∙ ap (λ cells. select_bare (select (row cells) (table_by (decimal place) ∷ []) None)) (cells_are 0 keys params tail.columns)

last_same : (tables columns : ℕ) → select_bare (ended_calls tables columns) ≡ select_bare (final (decimal tables) columns)
last_same tables columns =
    same_froms
    (map item (col 0 0 2 ∷ col 0 0 (suc (suc (suc columns))) ∷ col 0 0 (suc (suc (suc (suc columns)))) ∷ []))
    _ (table_by (decimal tables) ∷ []) (Some (expr.Not (col 0 0 0))) (roll-Key (record { expr = col 0 0 2; descending = false }) ∷ []) refl

-- ---- the whole

-- a query over a recursive table, without the table's name and those of its columns
bare_of : Select → Select → Select → Query
bare_of x y z = bare_query (record { recursive = Some (bare_recursive (record { name = []; columns = []; first = x ∷ []; second = y })); selects = z ∷ [] })

whole : (first second s : Select)
    → bare (roll-Query (record { recursive = Some (roll-Recursive (record { name = []; columns = []; first = first ∷ []; second = second })); selects = s ∷ [] }))
    ≡ bare_of (select_bare first) (select_bare second) (select_bare s)
unfolding bare_of roll-Query
whole first second s =
    eq.of_with nameless (roll-Recursive (record { name = []; columns = []; first = first ∷ []; second = second })) (s ∷ [])
    ∙ ap (λ r. bare_query (record { recursive = Some r; selects = select_bare s ∷ [] })) (eq.of_recursive nameless [] [] (first ∷ []) second)

same_sides : (m a b x y : Select) → select_bare a ≡ select_bare b → select_bare x ≡ select_bare y
    → bare_of (select_bare a) m (select_bare x) ≡ bare_of (select_bare b) m (select_bare y)
same_sides m a b x y first last = λ i. bare_of (first i) m (last i)

-- the first term and the select of a query with carried values may be others of the same kind
carried_over : (f : Function) (slots : List Slot) (tables : ℕ) (goto : Goto) (ssa : Ssa) (anf : Anf) (tail : Tail) (carried : List Ty) (a b x y : Select) (q : Query)
    → select_bare a ≡ select_bare b → select_bare x ≡ select_bare y
    → Carried f slots tables goto ssa anf tail carried (a ∷ []) (x ∷ []) q → Carried f slots tables goto ssa anf tail carried (b ∷ []) (y ∷ []) q
carried_over f slots tables goto ssa anf tail carried a b x y q first last c = record {
  entry = c.entry;
  trees = c.trees;
  query = c.query ∙ (whole a _ x ∙ (same_sides _ a b x y first last ∙ sym (whole b _ y)));
}

pub is_batched : (f : Function) (slots : List Slot) (tables : ℕ) (goto : Goto) (ssa : Ssa) (anf : Anf) (tail : Tail) (place : ℕ) (t : TableSchema) (q : Query)
    → Carried f slots tables goto ssa anf tail (ty.Bigint ∷ []) (calls_of_rows f.result anf tail goto.entry place t ∷ []) (ended_calls tables (length tail.columns) ∷ []) q
    → Batched f slots tables goto ssa anf tail place q
is_batched f slots tables goto ssa anf tail place t q c =
    carried_over f slots tables goto ssa anf tail (ty.Bigint ∷ []) _ _ _ _ q (first_same f.result anf tail goto.entry place t) (last_same tables (length tail.columns)) c

-- what is the same tree is such a query
pub same_batched : (f : Function) (slots : List Slot) (tables : ℕ) (goto : Goto) (ssa : Ssa) (anf : Anf) (tail : Tail) (place : ℕ) (q r : Query)
    → bare r ≡ bare q → Batched f slots tables goto ssa anf tail place q → Batched f slots tables goto ssa anf tail place r
same_batched f slots tables goto ssa anf tail place q r h b = record { entry = b.entry; trees = b.trees; query = h ∙ b.query }
