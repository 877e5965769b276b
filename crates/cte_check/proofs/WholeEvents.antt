-- The events of the whole query, by those of what stands round its branches.
use Rattle.std.proofs.Common.{◌≡◌, ℕ, suc, ◌+◌, ◌<◌, ◌≤◌, true, pos, Bool, false, cond, nat_eq, decimal, List, [], ◌∷◌, length, get_or, drop, Option, Some, None, refl, sym, ap, ◌∙◌, subst, arith}
use Rattle.std.proofs.lemmas.List.{drop_more}
use Rattle.away_trees.specs.declared.queries.Expr.{Expr}
use Rattle.away_trees.specs.declared.queries.Expr.TheVariants as expr
use Rattle.away_trees.specs.declared.queries.Expr.TheViews.{roll-Query, roll-Recursive}
use Rattle.away_trees.specs.declared.queries.Query.{Query}
use Rattle.away_trees.specs.declared.queries.Recursive.{Recursive}
use Rattle.away_trees.specs.declared.queries.Select.{Select}
use Rattle.away_values.specs.declared.types.Ty.{Ty}
use Rattle.away_values.specs.declared.types.Ty.TheVariants as ty
use Rattle.sql_meaning.specs.Trees.{col, number, truth, null_of, table_by, select, lateral}
use Rattle.sql_meaning.specs.Template as small
use Rattle.call_forms.specs.Forms.{label_of}
use Rattle.call_forms.specs.Scopes.{paired}
use Rattle.call_forms.specs.TailRuns.{label_or}
use Rattle.call_forms.specs.Template as template
use Rattle.tree_events.specs.declared.events.Kind.TheVariants as kind
use Rattle.tree_events.specs.declared.events.Manner.TheVariants.{Whole}
use Rattle.tree_events.specs.declared.events.TreeEvent.TheVariants as event
use Rattle.tree_events.specs.Events.{Events, node, row}
use Rattle.tree_events.proofs.PutNodes.{rolled_query, rolled_recursive}
use Rattle.cte_reads.specs.Puts.{expr_put, exprs_put, from_put, select_put, query_put, no_filter_put, end_put, lateral_put}
use Rattle.cte_reads.specs.References.{lookup}
use Rattle.cte_reads.specs.Rows.{call_list}
use Rattle.cte_reads.proofs.RowEvents.{call_events}
use Rattle.cte_reads.proofs.RowsRead.{nothing_behind}
use Rattle.cte_reads.proofs.TreeEvents.{select_events, lateral_events}
use Rattle.cte_check.specs.Walks.{anf_of, types_in, branch_of}
use Rattle.cte_check.specs.Whole as spec
use Rattle.cte_check.specs.declared.body.Given as code

-- ---- the first term

pub argument_is : (g : code.Given) (places params : List ℕ) (i : ℕ) (t : Ty)
    → spec.argument g (lookup places params i) t ≡ paired (λ p. expr.Param (suc p) (types_in g p)) (null_of t) places params i
argument_is g [] params i t = refl
argument_is g (x ∷ places) [] i t = refl
argument_is g (x ∷ places) (p ∷ params) i t = by (nat_eq x i) (argument_is g places params i t)
  where
    by : (b : Bool) → spec.argument g (lookup places params i) t ≡ paired (λ p. expr.Param (suc p) (types_in g p)) (null_of t) places params i
        → spec.argument g (cond b (Some p) (lookup places params i)) t
        ≡ cond b (expr.Param (suc p) (types_in g p)) (paired (λ p. expr.Param (suc p) (types_in g p)) (null_of t) places params i)
    by true same = refl
    by false same = same

module _ (g : code.Given) (params places : List ℕ) where
  -- what is left of the arguments from column i on
  abbrev pub arguments_from : ℕ → List Expr
  arguments_from i = template.argument_cells (types_in g) i places params (drop i g.tail.now.columns)

  one_next : (i : ℕ) (d : Ty) (found : Option ℕ) → i < length g.tail.now.columns → found ≡ lookup places params i → (rest : Events)
      → expr_put (spec.argument g found (get_or g.tail.now.columns i d)) (exprs_put (arguments_from (i + 1)) rest) ≡ exprs_put (arguments_from i) rest
  one_next i d found lt e rest =
      let next : suc i ≡ i + 1 = omega arith in
      let t = get_or g.tail.now.columns i d in
      ap (λ f. expr_put (spec.argument g f t) (exprs_put (arguments_from (i + 1)) rest)) e
      ∙ (ap (λ x. expr_put x (exprs_put (arguments_from (i + 1)) rest)) (argument_is g places params i t)
      ∙ (ap (λ j. expr_put (paired (λ p. expr.Param (suc p) (types_in g p)) (null_of t) places params i) (exprs_put (template.argument_cells (types_in g) j places params (drop (i + 1) g.tail.now.columns)) rest)) (sym next)
      ∙ ap (λ l. exprs_put (template.argument_cells (types_in g) i places params l) rest) (sym (drop_more g.tail.now.columns i d lt))))

  pub arguments_next : (columns : List Ty) → columns ≡ g.tail.now.columns → (i : ℕ) (d : Ty) (found : Option ℕ) → i < length columns → found
      ≡ lookup places params i → (rest : Events)
      → expr_put (spec.argument g found (get_or columns i d)) (exprs_put (arguments_from (i + 1)) rest) ≡ exprs_put (arguments_from i) rest
  arguments_next columns same i d found lt e rest =
      ap (λ l. expr_put (spec.argument g found (get_or l i d)) (exprs_put (arguments_from (i + 1)) rest)) same
      ∙ one_next i d found (subst (λ l. i < length l) same lt) e rest

  pub arguments_over : (columns : List Ty) → columns ≡ g.tail.now.columns → (i : ℕ) → length columns ≤ i → (rest : Events) → rest
      ≡ exprs_put (arguments_from i) rest
  arguments_over columns same i le rest =
      ap (λ l. exprs_put (template.argument_cells (types_in g) i places params l) rest) (sym (nothing_behind g.tail.now.columns i (subst (λ l. length l ≤ i) same le)))

-- a select of a row without items
pub row_select_events : (label : ℕ) (cells : List Expr) (result : Ty) (rest : Events)
    → event.Enter ∷ event.Open kind.From ∷ event.Close ∷ event.Open kind.List
    ∷ expr_put (truth true) (expr_put (number (pos (suc label))) (exprs_put cells (expr_put (null_of result) (expr_put (null_of ty.Text) (event.Close ∷ no_filter_put rest)))))
    ≡ select_put (select (call_list label cells result) [] None) rest
row_select_events label cells result rest =
    ap (λ z. event.Enter ∷ event.Open kind.From ∷ event.Close ∷ event.Open kind.List ∷ z) (call_events label cells result (event.Close ∷ no_filter_put rest))
    ∙ select_events (call_list label cells result) [] None rest

-- ---- the second term

module _ (table : List Expr) (g : code.Given) (entry : ℕ) where
  pub branches_are : (n : ℕ) (bs : List ℕ) → spec.branches_from table g n bs
      ≡ template.branches table (types_in g) g.result (anf_of g) g.tail.now entry n bs
  branches_are n [] = refl
  branches_are n (b ∷ bs) = ap (λ l. branch_of table g n b ∷ l) (branches_are (suc n) bs)

  abbrev pub branches : List Select
  branches = template.branches table (types_in g) g.result (anf_of g) g.tail.now entry 0 g.tail.now.labels

  pub step_events : (digits : List ℕ) (rest : Events)
      → event.Enter ∷ event.Open kind.From ∷ from_put (table_by digits) (lateral_put (row select_put branches (spec.rest_of_step g rest)))
      ≡ select_put (template.step table (types_in g) g.result (anf_of g) g.tail.now entry digits) rest
  step_events digits rest =
      let list : List Expr = template.all_of table (types_in g) g.tail.now.columns g.result 1 in
      let q : Query = roll-Query (record { recursive = None; selects = branches }) in
      let behind : Events = event.Close ∷ node kind.List (exprs_put list) (node kind.Filter (expr_put (col 0 0 0)) (end_put rest)) in
      ap (λ z. event.Enter ∷ event.Open kind.From ∷ from_put (table_by digits) z) (lateral_events branches behind)
      ∙ select_events list (table_by digits ∷ lateral q ∷ []) (Some (col 0 0 0)) rest

  -- ---- the whole

  pub query_events : (label tables : ℕ) → label_of g.tail.now entry ≡ Some label → (rest : Events)
      → spec.before_put g entry label tables (row select_put (spec.branches_from table g 0 g.tail.now.labels) (spec.behind_put g tables rest))
      ≡ query_put (template.query_of table (types_in g) g.result (anf_of g) g.tail.now entry tables) rest
  query_events label tables e rest =
      let digits : List ℕ = decimal tables in
      let second : Select = template.step table (types_in g) g.result (anf_of g) g.tail.now entry digits in
      let place : label ≡ template.entry_place table (types_in g) g.result (anf_of g) g.tail.now entry = sym (ap (label_or (length g.tail.now.labels)) e) in
      let first : Select = template.start table (types_in g) g.result (anf_of g) g.tail.now entry in
      let last : Select = small.last digits (length g.tail.now.columns) in
      let r : Recursive = roll-Recursive (record { name = []; columns = []; first = first ∷ []; second = second }) in
      let behind : Events = event.Close ∷ select_put last (event.Close ∷ rest) in
      ap (λ l. spec.before_put g entry label tables (row select_put l (spec.behind_put g tables rest))) (branches_are 0 g.tail.now.labels)
      ∙ (ap (λ n. spec.before_put g entry n tables (row select_put branches (spec.behind_put g tables rest))) place
      ∙ (ap (λ z. event.Open kind.Query ∷ event.Open kind.With ∷ event.Open kind.Recursive ∷ event.Open kind.First ∷ select_put first (event.Close ∷ z)) (step_events digits (event.Close ∷ behind))
      ∙ (ap (λ z. event.Open kind.Query ∷ event.Open kind.With ∷ z) (rolled_recursive Whole [] [] (first ∷ []) second behind)
      ∙ rolled_query (Some r) (last ∷ []) rest)))
