-- The parts of statements with other names print as terminals of the same roles.
use Rattle.std.proofs.Common.{◌≡◌, refl, sym, ap, ◌∙◌, ℕ, max, Bool, true, false, List, [], ◌∷◌, ◌++◌, fold, map, Option, Some, None, append_assoc, option_map}
use Rattle.std.proofs.lemmas.List.{append-nil}
use Rattle.away_grammar.specs.declared.grammar.Mark.TheVariants as m
use Rattle.away_grammar.specs.declared.grammar.Level.TheVariants as l
use Rattle.away_trees.specs.declared.queries.Expr.{Expr}
use Rattle.away_trees.specs.declared.queries.FromItem.{FromItem}
use Rattle.away_trees.specs.declared.queries.Item.{Item}
use Rattle.away_trees.specs.declared.queries.Key.{Key}
use Rattle.away_trees.specs.declared.queries.Select.{Select}
use Rattle.away_trees.specs.declared.queries.Expr.TheViews.{out-FromItem, out-Item, out-Key, out-Select, out-roll-Select}
use Rattle.away_trees.specs.declared.statements.Decl.{Decl}
use Rattle.away_trees.specs.declared.statements.LoopKind.{LoopKind}
use Rattle.away_trees.specs.declared.statements.LoopKind.TheVariants as kind
use Rattle.away_trees.specs.Algebra.{expr_of, from_of, item_of, key_of, source_of}
use Rattle.away_trees.proofs.Equations as eq
use Rattle.away_grammar.specs.Terminals.{Terminal, mark, name}
use Rattle.away_grammar.specs.Grammar.{not_null}
use Rattle.away_grammar.specs.Printing.{placed, printed, printing, type_name, with_commas, from_terminals, limit_terminals, order_terminals, where_terminals}
use Rattle.away_names.specs.declared.scope.Variable.{Variable}
use Rattle.away_names.specs.Lookups.{Name}
use Rattle.call_expand.specs.declared.made.Declared.{Declared}
use Rattle.call_expand.specs.declared.made.Seen.{Seen}
use Rattle.call_expand.specs.Moving as mv
use Rattle.moved_names.specs.Renaming.{renaming}
use Rattle.moved_names.specs.Renamed.{moved, renamed_expr, renamed_select}
use Rattle.function_printer.specs.Closed.{closed}
use Rattle.function_printer.specs.FunctionTerminals.{clauses_of, condition_of, decl_of, decls_of, default_of, in_order, kind_of, list_of, range_of, whole}
use Rattle.expanded_sizes.specs.Depths.{depth, select_depth}
use Rattle.expanded_sizes.proofs.SameRoles.{Same, SameAll, LikeOption, both, next, here, equal, shown, placed_at, perhaps_same, commas_same, clauses_same, item_same, part_same, source_same, expr_same}
use Rattle.expanded_sizes.proofs.ClosedSame.{closed_same}
use Rattle.expanded_sizes.proofs.SameDepths.{same_depth}

pub and_so : {x y z : List Terminal} → Same x y → Same y z → Same x z
and_so h k = record { is = h.is ∙ k.is }

-- ---- expressions

module _ (to : Name → Name) where
  pub whole_same : (e : Expr) → Same (whole (renamed_expr to e)) (whole e)
  unfolding renamed_expr
  whole_same e = placed_at l.Or (printed (expr_of (renaming to) e)) (printed e) (expr_same to e)

  pub renamed_closed : (e : Expr) → Same (closed (renamed_expr to e)) (closed e)
  unfolding renamed_expr
  renamed_closed e = closed_same to e

  condition_same : (o : Option Expr) → Same (condition_of (option_map (renamed_expr to) o)) (condition_of o)
  condition_same None = here
  condition_same (Some e) = next (mark m.When) (whole_same e)

  default_same : (o : Option Expr) → Same (default_of (option_map (renamed_expr to) o)) (default_of o)
  default_same None = here
  default_same (Some e) = next (mark m.Assign) (whole_same e)

  range_same : (e : Expr) (o : Option Expr) → Same (range_of (renamed_expr to e) (option_map (renamed_expr to) o)) (range_of e o)
  range_same e None = renamed_closed e
  range_same e (Some step) = both (whole (renamed_expr to e)) (whole e) (whole_same e) (next (mark m.By) (renamed_closed step))

  -- ---- selects

  items_all : (xs : List Item) → SameAll (map (λ i. item_of printing i) (map (λ i. item_of (renaming to) i) xs)) (map (λ i. item_of printing i) xs)
  items_all [] = tt
  items_all (x ∷ xs) = (
    item_same (printed (expr_of (renaming to) (out-Item x).expr)) (printed (out-Item x).expr) (out-Item x).alias (expr_same to
        (out-Item x).expr),
    items_all xs,
  )

  froms_all : (xs : List FromItem) → SameAll (map (λ f. from_of printing f) (map (λ f. from_of (renaming to) f) xs)) (map (λ f. from_of printing f) xs)
  froms_all [] = tt
  froms_all (x ∷ xs) = (
    part_same (source_of printing (source_of (renaming to) (out-FromItem x).source)) (source_of printing (out-FromItem x).source) (out-FromItem x).alias
        (out-FromItem x).columns
        (source_same to (out-FromItem x).source),
    froms_all xs,
  )

  keys_all : (xs : List Key) → SameAll (map (λ k. key_of printing k) (map (λ k. key_of (renaming to) k) xs)) (map (λ k. key_of printing k) xs)
  keys_all [] = tt
  keys_all (x ∷ xs) = (
    both (placed l.Or (printed (expr_of (renaming to) (out-Key x).expr))) (placed l.Or (printed (out-Key x).expr)) (placed_at l.Or _ _ (expr_same to
        (out-Key x).expr)) here,
    keys_all xs,
  )

  maybe_all : (o : Option Expr) → LikeOption (option_map (λ e. printed e) (option_map (λ e. expr_of (renaming to) e) o)) (option_map (λ e. printed e) o)
  maybe_all None = tt
  maybe_all (Some e) = expr_same to e

  fields : (q : Select) → out-Select (renamed_select to q) ≡ record {
    list = map (λ i. item_of (renaming to) i) (out-Select q).list;
    from = map (λ f. from_of (renaming to) f) (out-Select q).from;
    filter = option_map (λ e. expr_of (renaming to) e) (out-Select q).filter;
    order = map (λ k. key_of (renaming to) k) (out-Select q).order;
    limit = option_map (λ e. expr_of (renaming to) e) (out-Select q).limit;
  }
  unfolding renamed_select
  fields q = ap (λ s. out-Select s) (eq.select_is (renaming to) q) ∙ out-roll-Select _

  list_same : (q : Select) → Same (list_of (renamed_select to q)) (list_of q)
  list_same q = shown (ap (λ f. with_commas (map (λ i. item_of printing i) f.list)) (fields q)) (commas_same _ _ (items_all (out-Select q).list))

  parts_same : (q : Select) → Same (clauses_of (renamed_select to q)) (clauses_of q)
  parts_same q =
      shown (ap (λ f. from_terminals (map (λ x. from_of printing x) f.from)
      ++ (where_terminals (option_map (λ e. printed e) f.filter) ++ (order_terminals (map (λ key. key_of printing key) f.order) ++ limit_terminals
      (option_map (λ e. printed e) f.limit)))) (fields q))
      (clauses_same _ _ _ _ _ _ _ _ (froms_all (out-Select q).from) (maybe_all (out-Select q).filter) (keys_all (out-Select q).order) (maybe_all
      (out-Select q).limit))

  pub select_same_depth : (q : Select) → select_depth (renamed_select to q) ≡ select_depth q
  select_same_depth q = λ i. max (same_depth _ _ (list_same q) i) (same_depth _ _ (parts_same q) i)

-- ---- parts of statements

module _ (names : List Name) where
  pub condition_depth : (variables : List Variable) (o : Option Expr) → depth (condition_of (mv.maybe_expr names variables o)) ≡ depth (condition_of o)
  condition_depth variables o = same_depth _ _ (condition_same (moved names variables) o)

  pub kind_same : (head : LoopKind) (seen : Seen) (k : ℕ) → Same (kind_of (mv.moved_head names head seen k)) (kind_of head)
  kind_same kind.Plain seen k = here
  kind_same (kind.While e) seen k = next (mark m.While) (renamed_closed (moved names seen.variables) e)
  kind_same (kind.Count var reverse low last step) seen k =
      let to = moved names seen.variables in
      next (mark m.For) (record {
        is = (next (name []) (next (mark m.In) (perhaps_same reverse m.Reverse
            (both (whole (renamed_expr to low)) (whole low) (whole_same to low) (next (mark m.Dots) (range_same to last step)))))).is;
      })

  pub kind_depth : (head : LoopKind) (seen : Seen) (k : ℕ) → depth (kind_of (mv.moved_head names head seen k)) ≡ depth (kind_of head)
  kind_depth head seen k = same_depth _ _ (kind_same head seen k)

  not_null_same : (b : Bool) {x y : List Terminal} → Same x y → Same (not_null b x) (not_null b y)
  not_null_same true h = next (mark m.Not) (next (mark m.Null) h)
  not_null_same false h = h

  decl_same : (variables : List Variable) (k : ℕ) (d : Decl) → Same (decl_of (mv.moved_decl names variables k d)) (decl_of d)
  decl_same variables k d = record {
    is = (next (name []) (perhaps_same d.constant m.Constant (next (name (type_name d.ty)) (not_null_same d.not_null
        (both (default_of (mv.maybe_expr names variables d.default)) (default_of d.default) (default_same (moved names variables) d.default) here))))).is;
  }

  in_order_last : (xs : List Decl) (x : Decl) → in_order (map (λ d. decl_of d) (xs ++ x ∷ [])) ≡ in_order (map (λ d. decl_of d) xs) ++ decl_of x
  in_order_last [] x = append-nil (decl_of x)
  in_order_last (y ∷ ys) x = ap (λ u. decl_of y ++ u) (in_order_last ys x) ∙ sym (append_assoc (decl_of y) (in_order (map (λ d. decl_of d) ys)) (decl_of x))

  decls_from : (ds : List Decl) (a : Declared) → Same (in_order (map (λ d. decl_of d) (fold (mv.with_decl names) a ds).it)) (in_order (map
      (λ d. decl_of d) a.it) ++ in_order (map (λ d. decl_of d) ds))
  decls_from [] a = equal (sym (append-nil (in_order (map (λ d. decl_of d) a.it))))
  decls_from (d ∷ ds) a =
      let x = mv.moved_decl names a.variables a.next d in
      let before = in_order (map (λ d. decl_of d) a.it) in
      let rest = in_order (map (λ d. decl_of d) ds) in
      and_so (decls_from ds (mv.with_decl names a d))
      (shown (ap (λ u. u ++ rest) (in_order_last a.it x) ∙ append_assoc before (decl_of x) rest)
      (both before before here (both (decl_of x) (decl_of d) (decl_same a.variables a.next d) here)))

  pub without_declare : (ds : List Decl) → depth (decls_of ds) ≡ depth (in_order (map (λ d. decl_of d) ds))
  without_declare [] = refl
  without_declare (d ∷ ds) = refl

  pub decls_depth : (ds : List Decl) (variables : List Variable) (k : ℕ) → depth (decls_of (mv.moved_decls names ds variables k).it) ≡ depth (decls_of ds)
  decls_depth ds variables k =
      without_declare (mv.moved_decls names ds variables k).it
      ∙ (same_depth _ _ (decls_from ds (record { it = []; variables = variables; next = k })) ∙ sym (without_declare ds))
