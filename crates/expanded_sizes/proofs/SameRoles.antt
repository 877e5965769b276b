-- A tree with other names prints as terminals of the same roles.
use Rattle.std.proofs.Common.{◌≡◌, ℕ, refl, sym, ap, subst, Bool, List, [], ◌∷◌, ◌++◌, map, Option, option_map}
use Rattle.away_grammar.specs.declared.grammar.Mark.TheVariants as m
use Rattle.away_grammar.specs.declared.grammar.Level.TheVariants as l
use Rattle.away_trees.specs.declared.queries.Expr.{Expr}
use Rattle.away_trees.specs.declared.queries.Expr.TheVariants as expr
use Rattle.away_trees.specs.declared.queries.Source.{Source}
use Rattle.away_trees.specs.declared.queries.Select.{Select}
use Rattle.away_trees.specs.declared.queries.Recursive.{Recursive}
use Rattle.away_trees.specs.declared.queries.Query.{Query}
use Rattle.away_trees.specs.declared.queries.Expr.TheBlock as b
use Rattle.away_trees.specs.declared.queries.Expr.TheViews.{roll-FromItem, roll-Item, roll-Key}
use Rattle.away_trees.specs.Algebra.{Algebra, head_or, expr_of, exprs_of, links_of, arms_of, other_of, filter_of, items_of, item_of, keys_of, key_of, source_of, froms_of, from_of, select_of, selects_of, recursive_of, with_of, query_of, queries_of}
use Rattle.away_trees.proofs.Equations as eq
use Rattle.away_grammar.specs.Terminals.{mark, name}
use Rattle.away_grammar.specs.Grammar.{operands, perhaps}
use Rattle.away_grammar.specs.Printing.{Printed, placed, printed, printing, with_commas, names_terminals, list_terminals, arms_terminals, else_terminals, chain_level, comparison_mark, selects_terminals, print_item, print_from}
use Rattle.away_names.specs.Lookups.{Name}
use Rattle.moved_names.specs.Renaming.{renaming}
pub use Rattle.expanded_sizes.proofs.AlikeParts.{roles, Same, here, equal, shown, both, next, Like, by, placed_roles, placed_both, placed_at, perhaps_same, LikeEach, LikeLinks, LikeArms, LikeOption, SameList, SameAll, list_same, level_same, links_same, arms_same, else_same, call_same, commas_same, selects_same, from_same, order_same, where_same, limit_same, clauses_same, item_same, LikeOrigin, part_same, step_same, and_last}

-- ---- what holds one tree holds one

abbrev pub There : {n : _} → b.Row_of-Expr n → Type 0
There b.end_of-Expr = ⊥
There (b.more_of-Expr e rest) = Unit {0}

abbrev ThereIs : {n : _} → b.Row_of-Query n → Type 0
ThereIs b.end_of-Query = ⊥
ThereIs (b.more_of-Query q rest) = Unit {0}

pub there : (p : (mathlib.Core.Former.this {0}).Shape) (es : b.Row_of-Expr (mathlib.Core.Former.arity (mathlib.Core.Former.this {0}) p)) → There es
there p (b.more_of-Expr e rest) = tt

there_is : (p : (mathlib.Core.Former.this {0}).Shape) (qs : b.Row_of-Query (mathlib.Core.Former.arity (mathlib.Core.Former.this {0}) p)) → ThereIs qs
there_is p (b.more_of-Query q rest) = tt

-- ---- all trees

item_is : (e : Expr) (alias : Option (List ℕ)) → item_of printing (roll-Item (record { expr = e; alias = alias })) ≡ print_item
    (record { expr = printed e; alias = alias })
item_is e alias = refl

key_is : (e : Expr) (descending : Bool) → key_of printing (roll-Key (record { expr = e; descending = descending })) ≡ placed l.Or
    (printed e) ++ perhaps descending (mark m.Desc) []
key_is e descending = refl

part_is : (s : Source) (alias : List ℕ) (columns : List (List ℕ))
    → from_of printing (roll-FromItem (record { source = s; alias = alias; columns = columns })) ≡ print_from
    (record { source = source_of printing s; alias = alias; columns = columns })
part_is s alias columns = refl

module _ (to : Name → Name) where
  abbrev R : Algebra
  R = renaming to

  abbrev Ps : List Expr → List Printed
  Ps xs = map (λ x. expr_of printing x) xs

  mutual
    pub expr_same : (x : Expr) → Like (printed (expr_of R x)) (printed x)
    expr_same (b.Int n) = record { level = refl; terminals = here }
    expr_same (b.Str t) = record { level = refl; terminals = here }
    expr_same (b.Bool v) = record { level = refl; terminals = here }
    expr_same b.Null = record { level = refl; terminals = here }
    expr_same (b.Named n) = record { level = refl; terminals = record { is = refl } }
    expr_same (b.Dotted n c) = record { level = refl; terminals = here }
    expr_same (b.Slot i) = record { level = refl; terminals = here }
    expr_same (b.Column c) = record { level = refl; terminals = here }
    expr_same (b.Param i ty) = record { level = refl; terminals = here }
    expr_same (b.Neg' p x) =
        by (eq.of_neg printing (head_or expr.Null (exprs_of R x))) (record {
          level = refl;
          terminals = next (mark m.Minus) (placed_at l.Cast _ _
              (head_same x (there p x)));
        })
    expr_same (b.NegSmall' p x) =
        by (eq.of_negsmall printing (head_or expr.Null (exprs_of R x))) (record {
          level = refl;
          terminals = next (mark m.Minus) (placed_at l.Cast _ _
              (head_same x (there p x)));
        })
    expr_same (b.Not' p x) =
        by (eq.of_not printing (head_or expr.Null (exprs_of R x))) (record {
          level = refl;
          terminals = next (mark m.Not) (placed_at l.Is _ _ (head_same x
              (there p x)));
        })
    expr_same (b.Is' p x test n) =
        let y = head_or expr.Null (exprs_of R x) in
        by (eq.of_is printing y test n) (record {
          level = refl;
          terminals = both (placed l.Compare (printed y)) (placed l.Compare
              (head_or printing.no_expr (exprs_of printing x))) (placed_at l.Compare _ _ (head_same x (there p x))) here;
        })
    expr_same (b.Chain' p x s links) =
        let y = head_or expr.Null (exprs_of R x) in
        let level = level_same _ _ (link_row_same links) in
        by (eq.of_chain printing y (links_of R links)) (record {
          level = level;
          terminals = both (placed (operands (chain_level (map (λ k. eq.link_of printing k) (links_of R links)))) (printed y)) (placed (operands
              (chain_level (links_of printing links))) (head_or printing.no_expr (exprs_of printing x)))
              (placed_both _ _ (ap (λ k. operands k) level) _ _ (head_same x (there p x))) (links_same level _ _ (link_row_same links));
        })
    expr_same (b.Compare' o p x q y) =
        let z = head_or expr.Null (exprs_of R x) in
        by (eq.of_compare printing o z (head_or expr.Null (exprs_of R y))) (record {
          level = refl;
          terminals = both (placed l.Range (printed z)) (placed l.Range (head_or printing.no_expr (exprs_of printing x))) (placed_at l.Range _ _
              (head_same x (there p x)))
              (next (mark (comparison_mark o)) (placed_at l.Range _ _ (head_same y (there q y))));
        })
    expr_same (b.Between' n p x q y s z) =
        let u = head_or expr.Null (exprs_of R x) in
        let v = head_or expr.Null (exprs_of R y) in
        by (eq.of_between printing n u v (head_or expr.Null (exprs_of R z))) (record {
          level = refl;
          terminals = both (placed l.Concat (printed u)) (placed l.Concat (head_or printing.no_expr (exprs_of printing x))) (placed_at l.Concat _ _
              (head_same x (there p x)))
              (perhaps_same n m.Not (next (mark m.Between) (both (placed l.Concat (printed v)) (placed l.Concat (head_or printing.no_expr
              (exprs_of printing y))) (placed_at l.Concat _ _ (head_same y (there q y)))
              (next (mark m.And) (placed_at l.Concat _ _ (head_same z (there s z)))))));
        })
    expr_same (b.OneOf' n p x s xs) =
        let u = head_or expr.Null (exprs_of R x) in
        by (eq.of_oneof printing n u (exprs_of R xs)) (record {
          level = refl;
          terminals = both (placed l.Concat (printed u)) (placed l.Concat (head_or printing.no_expr (exprs_of printing x))) (placed_at l.Concat _ _
              (head_same x (there p x)))
              (perhaps_same n m.Not (next (mark m.In) (next (mark m.Open) (both (list_terminals (Ps (exprs_of R xs))) (list_terminals
              (exprs_of printing xs)) (list_same _ _ (row_same xs)) here))));
        })
    expr_same (b.Cast' p x ty) =
        let u = head_or expr.Null (exprs_of R x) in
        by (eq.of_cast printing u ty) (record {
          level = refl;
          terminals = next (mark m.Cast) (next (mark m.Open) (both (placed l.Or (printed u)) (placed l.Or (head_or printing.no_expr
              (exprs_of printing x))) (placed_at l.Or _ _ (head_same x (there p x))) here));
        })
    expr_same (b.Cases' s arms other) =
        by (eq.of_cases printing (arms_of R arms) (other_of R other)) (record {
          level = refl;
          terminals = next (mark m.Case) (both (arms_terminals (map (λ k. eq.arm_of printing k) (arms_of R arms))) (arms_terminals
              (arms_of printing arms)) (arms_same _ _ (arm_row_same arms))
              (both (else_terminals (option_map (λ k. expr_of printing k) (other_of R other))) (else_terminals (other_of printing other)) (else_same _ _
              (other_same other)) here));
        })
    expr_same (b.Call' n s xs) = by (eq.of_call printing n (exprs_of R xs)) (record { level = refl; terminals = call_same n _ _ (row_same xs) })
    expr_same b.CountRows = record { level = refl; terminals = here }
    expr_same (b.Scalar' p q) =
        let u = head_or R.no_query (queries_of R q) in
        by (eq.of_scalar printing u) (record {
          level = refl;
          terminals = next (mark m.Open) (both (query_of printing u) (head_or printing.no_query
              (queries_of printing q)) (first_same q (there_is p q)) here);
        })
    expr_same (b.Exists' p q) =
        let u = head_or R.no_query (queries_of R q) in
        by (eq.of_exists printing u) (record {
          level = refl;
          terminals = next (mark m.Exists) (next (mark m.Open) (both (query_of printing u) (head_or printing.no_query (queries_of printing q))
              (first_same q (there_is p q)) here));
        })

    pub head_same : {n : _} (xs : b.Row_of-Expr n) → There xs → Like (printed (head_or expr.Null (exprs_of R xs))) (head_or printing.no_expr
        (exprs_of printing xs))
    head_same b.end_of-Expr h = absurd h
    head_same (b.more_of-Expr x rest) h = expr_same x

    row_same : {n : _} (xs : b.Row_of-Expr n) → LikeEach (Ps (exprs_of R xs)) (exprs_of printing xs)
    row_same b.end_of-Expr = tt
    row_same (b.more_of-Expr x rest) = (expr_same x, row_same rest)

    link_row_same : {n : _} (xs : b.Row_of-Expr-Chain-1-2 n) → LikeLinks (map (λ k. eq.link_of printing k) (links_of R xs)) (links_of printing xs)
    link_row_same b.end_of-Expr-Chain-1-2 = tt
    link_row_same (b.more_of-Expr-Chain-1-2 o x rest) = (refl, expr_same x, link_row_same rest)

    arm_row_same : {n : _} (xs : b.Row_of-Expr-Cases-0-2 n) → LikeArms (map (λ k. eq.arm_of printing k) (arms_of R xs)) (arms_of printing xs)
    arm_row_same b.end_of-Expr-Cases-0-2 = tt
    arm_row_same (b.more_of-Expr-Cases-0-2 x y rest) = (expr_same x, expr_same y, arm_row_same rest)

    other_same : (o : b.Held-Expr-Cases-1) → LikeOption (option_map (λ k. expr_of printing k) (other_of R o)) (other_of printing o)
    other_same b.Expr-Cases-1-None' = tt
    other_same (b.Expr-Cases-1-Some' p x) = head_same x (there p x)

    pub filter_same : (o : b.Held-Select-filter) → LikeOption (option_map (λ k. expr_of printing k) (filter_of R o)) (filter_of printing o)
    filter_same b.Select-filter-None' = tt
    filter_same (b.Select-filter-Some' x) = expr_same x

    pub items_same : {n : _} (xs : b.Row_of-Item n) → SameAll (map (λ k. item_of printing k) (items_of R xs)) (items_of printing xs)
    items_same b.end_of-Item = tt
    items_same (b.more_of-Item x alias rest) =
        (shown (item_is (expr_of R x) alias) (item_same (printed (expr_of R x)) (printed x) alias (expr_same x)), items_same rest)

    pub keys_same : {n : _} (xs : b.Row_of-Key n) → SameAll (map (λ k. key_of printing k) (keys_of R xs)) (keys_of printing xs)
    keys_same b.end_of-Key = tt
    keys_same (b.more_of-Key x descending rest) = (
      shown (key_is (expr_of R x) descending) (both (placed l.Or (printed (expr_of R x))) (placed l.Or (printed x)) (placed_at l.Or _ _
          (expr_same x)) here),
      keys_same rest,
    )

    pub source_same : (s : Source) → LikeOrigin (source_of printing (source_of R s)) (source_of printing s)
    source_same (b.Table n) = record { terminals = here; own_alias = refl }
    source_same (b.Sub' p q lateral) =
        let u = head_or R.no_query (queries_of R q) in
        subst (λ o. LikeOrigin o (source_of printing (b.Sub' p q lateral))) (sym (eq.of_sub printing u lateral)) (record {
          terminals = perhaps_same lateral m.Lateral (next (mark m.Open) (both (query_of printing u) (head_or printing.no_query (queries_of printing q))
              (first_same q (there_is p q)) here));
          own_alias = refl;
        })

    pub froms_same : {n : _} (xs : b.Row_of-FromItem n) → SameAll (map (λ k. from_of printing k) (froms_of R xs)) (froms_of printing xs)
    froms_same b.end_of-FromItem = tt
    froms_same (b.more_of-FromItem source alias columns rest) = (
      shown (part_is (source_of R source) alias columns) (part_same (source_of printing (source_of R source)) (source_of printing source) alias columns
          (source_same source)),
      froms_same rest,
    )

    select_same : (s : Select) → Same (select_of printing (select_of R s)) (select_of printing s)
    select_same (b.struct-Select s list t from filter u order limit) =
        shown (eq.of_select printing (items_of R list) (froms_of R from) (filter_of R filter) (keys_of R order) (filter_of R limit))
        (next (mark m.Select) (both (with_commas (map (λ k. item_of printing k) (items_of R list))) (with_commas (items_of printing list))
        (commas_same _ _ (items_same list))
        (clauses_same _ _ _ _ _ _ _ _ (froms_same from) (filter_same filter) (keys_same order) (filter_same limit))))

    select_row_same : {n : _} (xs : b.Row_of-Select n) → SameAll (map (λ k. select_of printing k) (selects_of R xs)) (selects_of printing xs)
    select_row_same b.end_of-Select = tt
    select_row_same (b.more_of-Select s rest) = (select_same s, select_row_same rest)

    recursive_same : (r : Recursive) → Same (recursive_of printing (recursive_of R r)) (recursive_of printing r)
    recursive_same (b.struct-Recursive n columns s first second) =
        let a = map (λ k. select_of printing k) (selects_of R first) ++ select_of printing (select_of R second) ∷ [] in
        let c = selects_of printing first ++ select_of printing second ∷ [] in
        shown (eq.of_recursive printing n columns (selects_of R first) (select_of R second))
        (next (mark m.With) (next (mark m.Recursive) (next (name n) (next (mark m.Open) (both (names_terminals columns) (names_terminals columns) here
        (next (mark m.Close) (next (mark m.As) (next (mark m.Open)
        (both (selects_terminals a) (selects_terminals c) (selects_same a c (and_last _ _ _ _ (select_row_same first) (select_same second))) here)))))))))

    with_same : (o : b.Held-Query-recursive) → SameList (option_map (λ k. recursive_of printing k) (with_of R o)) (with_of printing o)
    with_same b.Query-recursive-None' = tt
    with_same (b.Query-recursive-Some' r) = recursive_same r

    query_same : (q : Query) → Same (query_of printing (query_of R q)) (query_of printing q)
    query_same (b.struct-Query recursive s selects) =
        shown (eq.query_roll printing (with_of R recursive) (selects_of R selects)) (step_same _ _ _ _ (with_same recursive) (select_row_same selects))

    first_same : {n : _} (xs : b.Row_of-Query n) → ThereIs xs → Same (query_of printing (head_or R.no_query (queries_of R xs))) (head_or printing.no_query
        (queries_of printing xs))
    first_same b.end_of-Query h = absurd h
    first_same (b.more_of-Query q rest) h = query_same q
