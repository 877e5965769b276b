-- What printed trees close is what they open: the depth of what stands behind them is as it was.
use Rattle.std.proofs.Common.{◌≡◌, refl, sym, ap, ◌∙◌, max, true, false, List, [], ◌∷◌, ◌++◌, arith}
use Rattle.std.proofs.lemmas.List.{append-nil}
use Rattle.away_grammar.specs.declared.grammar.Mark.TheVariants as m
use Rattle.away_grammar.specs.declared.grammar.Level.TheVariants as l
use Rattle.away_trees.specs.declared.queries.Expr.{Expr}
use Rattle.away_trees.specs.declared.queries.Source.{Source}
use Rattle.away_trees.specs.declared.queries.Select.{Select}
use Rattle.away_trees.specs.declared.queries.Recursive.{Recursive}
use Rattle.away_trees.specs.declared.queries.Query.{Query}
use Rattle.away_trees.specs.declared.queries.Expr.TheBlock as b
use Rattle.away_trees.specs.Algebra.{head_or, exprs_of, links_of, arms_of, other_of, filter_of, items_of, keys_of, source_of, froms_of, select_of, selects_of, recursive_of, with_of, query_of, queries_of}
use Rattle.away_grammar.specs.Terminals.{Terminal}
use Rattle.away_grammar.specs.Grammar.{operands}
use Rattle.away_grammar.specs.Printing.{placed, printed, printing, with_commas, names_terminals, list_terminals, arms_terminals, else_terminals, chain_level, selects_terminals}
use Rattle.expanded_sizes.specs.Depths.{begins, depth, is_begin}
-- what stands behind doesn't begin with IF, LOOP or CASE
pub use Rattle.expanded_sizes.proofs.BalancedParts.{Balanced, Closing, apart, nothing, joins, joins_closing, more, more_closing, opens, opens_case, closes, closes_before, ends, AllBalanced, comma_balanced, placed_by, placed_balanced, perhaps_balanced, perhaps_apart, int_stays, operator_stays, comparison_stays, test_stays, stays_apart, BalancedEach, BalancedLinks, BalancedArms, BalancedOption, BalancedList, head_balanced, first_balanced, list_balanced, links_apart, links_balanced, arms_apart, arms_balanced, else_apart, else_balanced, function_by, function_stays, call_balanced, names_balanced, int_balanced, with_commas_balanced, AllSelects, selects_balanced, selects_apart, from_balanced, order_balanced, where_balanced, limit_balanced, limit_apart, order_apart, where_apart, from_apart, clauses_balanced, clauses_apart, alias_balanced, as_by, as_apart, columns_balanced, from_item_by, from_item_balanced, and_last, query_by}

-- ---- all trees

mutual
  pub expr_balanced : (x : Expr) → Balanced (printed x).terminals
  expr_balanced (b.Int n) = int_balanced n
  expr_balanced (b.Str t) = more refl nothing
  expr_balanced (b.Bool true) = more refl nothing
  expr_balanced (b.Bool false) = more refl nothing
  expr_balanced b.Null = more refl nothing
  expr_balanced (b.Named n) = more refl nothing
  expr_balanced (b.Dotted n c) = more refl (more refl (more refl nothing))
  expr_balanced (b.Slot i) = nothing
  expr_balanced (b.Column c) = nothing
  expr_balanced (b.Param i ty) = more refl (opens (more_closing refl (more_closing refl (more_closing refl closes))))
  expr_balanced (b.Neg' _ x) = more refl (placed_balanced l.Cast _ (head_balanced (exprs_of printing x) (row_balanced x)))
  expr_balanced (b.NegSmall' _ x) = more refl (placed_balanced l.Cast _ (head_balanced (exprs_of printing x) (row_balanced x)))
  expr_balanced (b.Not' _ x) = more refl (placed_balanced l.Is _ (head_balanced (exprs_of printing x) (row_balanced x)))
  expr_balanced (b.Is' _ x test n) =
      joins (placed l.Compare (head_or printing.no_expr (exprs_of printing x))) (placed_balanced l.Compare _ (head_balanced (exprs_of printing x)
      (row_balanced x)))
      (more refl (perhaps_balanced n m.Not refl (more (test_stays test) nothing))) refl
  expr_balanced (b.Chain' _ x _ links) =
      let level = chain_level (links_of printing links) in
      joins (placed (operands level) (head_or printing.no_expr (exprs_of printing x)))
      (placed_balanced (operands level) _ (head_balanced (exprs_of printing x) (row_balanced x)))
      (links_balanced level (links_of printing links) (link_row_balanced links)) (links_apart level (links_of printing links))
  expr_balanced (b.Compare' o _ x _ y) =
      joins (placed l.Range (head_or printing.no_expr (exprs_of printing x))) (placed_balanced l.Range _ (head_balanced (exprs_of printing x) (row_balanced x)))
      (more (comparison_stays o) (placed_balanced l.Range _ (head_balanced (exprs_of printing y) (row_balanced y)))) (ap (λ r. is_begin r) (comparison_stays o))
  expr_balanced (b.Between' n _ x _ y _ z) =
      joins (placed l.Concat (head_or printing.no_expr (exprs_of printing x))) (placed_balanced l.Concat _ (head_balanced (exprs_of printing x)
      (row_balanced x)))
      (perhaps_balanced n m.Not refl (more refl
      (joins (placed l.Concat (head_or printing.no_expr (exprs_of printing y)))
      (placed_balanced l.Concat _ (head_balanced (exprs_of printing y) (row_balanced y)))
      (more refl (placed_balanced l.Concat _ (head_balanced (exprs_of printing z) (row_balanced z)))) refl)))
      (perhaps_apart n m.Not _ refl refl)
  expr_balanced (b.OneOf' n _ x _ xs) =
      joins (placed l.Concat (head_or printing.no_expr (exprs_of printing x))) (placed_balanced l.Concat _ (head_balanced (exprs_of printing x)
      (row_balanced x)))
      (perhaps_balanced n m.Not refl (more refl
      (opens (joins_closing (list_terminals (exprs_of printing xs)) (list_balanced (exprs_of printing xs) (row_balanced xs)) closes refl))))
      (perhaps_apart n m.Not _ refl refl)
  expr_balanced (b.Cast' _ x ty) =
      more refl (opens
      (joins_closing (placed l.Or (head_or printing.no_expr (exprs_of printing x))) (placed_balanced l.Or _ (head_balanced (exprs_of printing x)
      (row_balanced x)))
      (more_closing refl (more_closing refl closes)) refl))
  expr_balanced (b.Cases' _ arms other) =
      opens_case (joins_closing (arms_terminals (arms_of printing arms)) (arms_balanced (arms_of printing arms) (arm_row_balanced arms))
      (joins_closing (else_terminals (other_of printing other)) (else_balanced (other_of printing other) (other_balanced other)) ends refl)
      (else_apart (other_of printing other)))
  expr_balanced (b.Call' n _ xs) = call_balanced n (exprs_of printing xs) (row_balanced xs)
  expr_balanced b.CountRows = more refl (opens (more_closing refl closes))
  expr_balanced (b.Scalar' _ q) =
      opens (joins_closing (head_or printing.no_query (queries_of printing q)) (first_balanced (queries_of printing q) (query_row_balanced q)) closes refl)
  expr_balanced (b.Exists' _ q) =
      more refl (opens (joins_closing (head_or printing.no_query (queries_of printing q)) (first_balanced (queries_of printing q)
      (query_row_balanced q)) closes refl))

  row_balanced : {n : _} (xs : b.Row_of-Expr n) → BalancedEach (exprs_of printing xs)
  row_balanced b.end_of-Expr = tt
  row_balanced (b.more_of-Expr x rest) = (expr_balanced x, row_balanced rest)

  link_row_balanced : {n : _} (xs : b.Row_of-Expr-Chain-1-2 n) → BalancedLinks (links_of printing xs)
  link_row_balanced b.end_of-Expr-Chain-1-2 = tt
  link_row_balanced (b.more_of-Expr-Chain-1-2 o x rest) = (expr_balanced x, link_row_balanced rest)

  arm_row_balanced : {n : _} (xs : b.Row_of-Expr-Cases-0-2 n) → BalancedArms (arms_of printing xs)
  arm_row_balanced b.end_of-Expr-Cases-0-2 = tt
  arm_row_balanced (b.more_of-Expr-Cases-0-2 x y rest) = (expr_balanced x, expr_balanced y, arm_row_balanced rest)

  other_balanced : (o : b.Held-Expr-Cases-1) → BalancedOption (other_of printing o)
  other_balanced b.Expr-Cases-1-None' = tt
  other_balanced (b.Expr-Cases-1-Some' _ x) = head_balanced (exprs_of printing x) (row_balanced x)

  pub filter_balanced : (o : b.Held-Select-filter) → BalancedOption (filter_of printing o)
  filter_balanced b.Select-filter-None' = tt
  filter_balanced (b.Select-filter-Some' x) = expr_balanced x

  pub items_balanced : {n : _} (xs : b.Row_of-Item n) → AllBalanced (items_of printing xs)
  items_balanced b.end_of-Item = tt
  items_balanced (b.more_of-Item x alias rest) = (alias_balanced (printed x) alias (expr_balanced x), items_balanced rest)

  pub keys_balanced : {n : _} (xs : b.Row_of-Key n) → AllBalanced (keys_of printing xs)
  keys_balanced b.end_of-Key = tt
  keys_balanced (b.more_of-Key x descending rest) = (
    joins (placed l.Or (printed x)) (placed_balanced l.Or (printed x) (expr_balanced x)) (perhaps_balanced descending m.Desc refl nothing)
        (perhaps_apart descending m.Desc [] refl refl),
    keys_balanced rest,
  )

  pub source_balanced : (s : Source) → Balanced (source_of printing s).terminals
  source_balanced (b.Table n) = more refl nothing
  source_balanced (b.Sub' _ q lateral) =
      perhaps_balanced lateral m.Lateral refl
      (opens (joins_closing (head_or printing.no_query (queries_of printing q)) (first_balanced (queries_of printing q) (query_row_balanced q)) closes refl))

  pub froms_balanced : {n : _} (xs : b.Row_of-FromItem n) → AllBalanced (froms_of printing xs)
  froms_balanced b.end_of-FromItem = tt
  froms_balanced (b.more_of-FromItem source alias columns rest) =
      (from_item_balanced (source_of printing source) alias columns (source_balanced source), froms_balanced rest)

  select_balanced : (s : Select) → Balanced (select_of printing s) × (begins (select_of printing s) ≡ false)
  select_balanced (b.struct-Select _ list _ from filter _ order limit) = (
    more refl (joins (with_commas (items_of printing list)) (with_commas_balanced (items_of printing list) (items_balanced list))
        (clauses_balanced (froms_of printing from) (filter_of printing filter) (keys_of printing order) (filter_of printing limit)
        (froms_balanced from) (filter_balanced filter) (keys_balanced order) (filter_balanced limit))
        (clauses_apart (froms_of printing from) (filter_of printing filter) (keys_of printing order) (filter_of printing limit))),
    refl,
  )

  select_row_balanced : {n : _} (xs : b.Row_of-Select n) → AllSelects (selects_of printing xs)
  select_row_balanced b.end_of-Select = tt
  select_row_balanced (b.more_of-Select s rest) = let one = select_balanced s in (one.0, one.1, select_row_balanced rest)

  recursive_balanced : (r : Recursive) → Balanced (recursive_of printing r)
  recursive_balanced (b.struct-Recursive n columns _ first second) =
      let last = select_balanced second in
      let all = selects_of printing first ++ select_of printing second ∷ [] in
      more refl (more refl (more refl (opens (joins_closing (names_terminals columns) (names_balanced columns)
      (closes_before (more refl (opens (joins_closing (selects_terminals all) (selects_balanced all
      (and_last (selects_of printing first) (select_of printing second) (select_row_balanced first) last.0 last.1)) closes refl))) refl) refl))))

  with_balanced : (o : b.Held-Query-recursive) → BalancedList (with_of printing o)
  with_balanced b.Query-recursive-None' = tt
  with_balanced (b.Query-recursive-Some' r) = recursive_balanced r

  query_balanced : (q : Query) → Balanced (query_of printing q)
  query_balanced (b.struct-Query recursive _ selects) =
      query_by (with_of printing recursive) (selects_of printing selects) (with_balanced recursive) (select_row_balanced selects)

  query_row_balanced : {n : _} (xs : b.Row_of-Query n) → AllBalanced (queries_of printing xs)
  query_row_balanced b.end_of-Query = tt
  query_row_balanced (b.more_of-Query q rest) = (query_balanced q, query_row_balanced rest)

pub row_head_balanced : {n : _} (xs : b.Row_of-Expr n) → Balanced (head_or printing.no_expr (exprs_of printing xs)).terminals
row_head_balanced xs = head_balanced (exprs_of printing xs) (row_balanced xs)

-- ---- depths

pub depth_is : (xs : List Terminal) (h : Balanced xs) → depth xs ≡ h.most
depth_is xs h = ap (λ u. depth u) (sym (append-nil xs)) ∙ (h.is [] refl ∙ omega arith)

pub depth_joins : (xs rest : List Terminal) → Balanced xs → begins rest ≡ false → depth (xs ++ rest) ≡ max (depth xs) (depth rest)
depth_joins xs rest h free = h.is rest free ∙ ap (λ n. max n (depth rest)) (sym (depth_is xs h))

pub whole_balanced : (e : Expr) → Balanced (placed l.Or (printed e))
whole_balanced e = placed_balanced l.Or (printed e) (expr_balanced e)
