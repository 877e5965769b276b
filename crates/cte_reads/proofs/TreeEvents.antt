-- The events of the template's trees, by those of their parts.
use Rattle.std.proofs.Common.{◌≡◌, ℕ, true, Bool, List, [], ◌∷◌, map, Option, None, refl, sym, ap, ◌∙◌}
use Rattle.away_values.specs.declared.types.Ty.{Ty}
use Rattle.away_values.specs.declared.operators.CmpOp.{CmpOp}
use Rattle.away_values.specs.declared.operators.IsTest.{IsTest}
use Rattle.away_trees.specs.declared.queries.Expr.{Expr}
use Rattle.away_trees.specs.declared.queries.Expr.TheVariants as expr
use Rattle.away_trees.specs.declared.queries.Expr.TheViews.{roll-Query, out-roll-Item, out-roll-FromItem}
use Rattle.away_trees.specs.declared.queries.FromItem.{FromItem}
use Rattle.away_trees.specs.declared.queries.Select.{Select}
use Rattle.away_trees.specs.declared.queries.Query.{Query}
use Rattle.away_trees.specs.declared.queries.Source.TheVariants as source
use Rattle.away_trees.specs.Algebra.{item_of, source_of}
use Rattle.away_trees.proofs.Equations as eq
use Rattle.tree_events.specs.declared.events.Kind.TheVariants as kind
use Rattle.tree_events.specs.declared.events.Manner.TheVariants.{Whole}
use Rattle.tree_events.specs.declared.events.TreeEvent.TheVariants as event
use Rattle.tree_events.specs.Events.{Events, node, row, option, shaping}
use Rattle.tree_events.proofs.PutNodes.{row_map, rolled_select, rolled_query}
use Rattle.sql_meaning.specs.Trees.{cast_to, item, lateral, table_by, select, one}
use Rattle.sql_meaning.specs.Template as template
use Rattle.cte_reads.specs.Puts.{expr_put, exprs_put, from_put, select_put, body_put, end_put, no_filter_put, lateral_put, lateral_end_put, open_put, condition}
use Rattle.cte_reads.specs.declared.parts.Gate.{Gate}

-- ---- expressions

pub cast_events : (t : Ty) (e : Expr) (rest : Events) → node (kind.Cast t) (expr_put e) rest ≡ expr_put (cast_to t e) rest
cast_events t e rest = ap (λ f. f rest) (sym (eq.of_cast (shaping Whole) e t))

pub compare_events : (op : CmpOp) (x y : Expr) (rest : Events) → event.Open (kind.Compare op) ∷ expr_put x (expr_put y (event.Close ∷ rest)) ≡ expr_put (expr.Compare op x y) rest
compare_events op x y rest = ap (λ f. f rest) (sym (eq.of_compare (shaping Whole) op x y))

pub is_events : (e : Expr) (test : IsTest) (negative : Bool) (rest : Events) → node (kind.Is test negative) (expr_put e) rest ≡ expr_put (expr.Is e test negative) rest
is_events e test negative rest = ap (λ f. f rest) (sym (eq.of_is (shaping Whole) e test negative))

pub not_events : (e : Expr) (rest : Events) → node kind.Not (expr_put e) rest ≡ expr_put (expr.Not e) rest
not_events e rest = ap (λ f. f rest) (sym (eq.of_not (shaping Whole) e))

-- ---- items, selects, queries

items_events : (list : List Expr) (rest : Events) → exprs_put list rest ≡ row (λ x. item_of (shaping Whole) x) (map item list) rest
items_events list rest = items list ∙ sym (row_map (λ x. item_of (shaping Whole) x) item list rest)
  where
    items : (list : List Expr) → exprs_put list rest ≡ row (λ e. item_of (shaping Whole) (item e)) list rest
    items [] = refl
    items (e ∷ es) = ap (expr_put e) (items es) ∙ ap (λ i. expr_put i.expr (row (λ e. item_of (shaping Whole) (item e)) es rest)) (sym (out-roll-Item (record { expr = e; alias = None })))

pub select_events : (list : List Expr) (from : List FromItem) (filter : Option Expr) (rest : Events)
    → event.Enter ∷ node kind.From (row from_put from) (node kind.List (exprs_put list) (node kind.Filter (option expr_put filter) (end_put rest)))
    ≡ select_put (select list from filter) rest
select_events list from filter rest =
    ap (λ z. event.Enter ∷ node kind.From (row from_put from) (event.Open kind.List ∷ z)) (items_events list (event.Close ∷ node kind.Filter (option expr_put filter) (end_put rest)))
    ∙ rolled_select Whole (map item list) from filter [] None rest

pub lateral_events : (selects : List Select) (rest : Events) → lateral_put (row select_put selects (lateral_end_put rest)) ≡ from_put (lateral (roll-Query (record { recursive = None; selects = selects }))) rest
lateral_events selects rest =
    let q : Query = roll-Query (record { recursive = None; selects = selects }) in
    ap (λ z. event.Open (kind.Sub true) ∷ z) (rolled_query None selects (event.Close ∷ rest))
    ∙ (ap (λ f. f [] rest) (sym (eq.of_sub (shaping Whole) q true))
    ∙ ap (λ r. source_of (shaping Whole) r.source r.columns rest) (sym (out-roll-FromItem (record { source = source.Sub q true; alias = []; columns = [] }))))

pub table_events : (digits : List ℕ) (rest : Events) → event.Open kind.Table ∷ event.Name digits ∷ event.Close ∷ rest ≡ from_put (table_by digits) rest
table_events digits rest =
    ap (λ f. f (digits ∷ []) rest) (sym (eq.of_table (shaping Whole) []))
    ∙ ap (λ r. source_of (shaping Whole) r.source r.columns rest) (sym (out-roll-FromItem (record { source = source.Table []; alias = []; columns = digits ∷ [] })))

-- a select in LATERAL
pub one_events : (s : Select) (rest : Events) → lateral_put (select_put s (lateral_end_put rest)) ≡ from_put (lateral (one s)) rest
one_events s = lateral_events (s ∷ [])

-- a body behind its gate
pub gated_events : (g : Gate) (items : List FromItem) (list : List Expr) (rest : Events)
    → open_put g (body_put items list (no_filter_put rest)) ≡ select_put (select list (template.gate (condition g) ∷ items) None) rest
gated_events g items list = select_events list (template.gate (condition g) ∷ items) None
