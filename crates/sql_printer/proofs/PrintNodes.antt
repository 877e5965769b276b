-- What the printer adds for a node, by what it adds for the parts.
use Rattle.std.proofs.Common.{◌≡◌, IsTrue, ℕ, Bool, true, false, not, if◌then◌else◌, List, [], ◌∷◌, ◌++◌, map, option_map, Option, Some, None, refl, sym, ap, ◌∙◌, append_assoc, append-nil}
use Rattle.away_grammar.specs.declared.grammar.Level.{Level}
use Rattle.away_grammar.specs.declared.grammar.Level.TheVariants as l
use Rattle.away_grammar.specs.declared.grammar.Mark.{Mark}
use Rattle.away_grammar.specs.declared.grammar.Mark.TheVariants as m
use Rattle.away_values.specs.declared.operators.ChainOp.{ChainOp}
use Rattle.away_values.specs.declared.operators.CmpOp.{CmpOp}
use Rattle.away_values.specs.declared.operators.IsTest.{IsTest}
use Rattle.away_values.specs.declared.types.Ty.{Ty}
use Rattle.away_trees.specs.declared.queries.Expr.{Expr}
use Rattle.away_trees.specs.declared.queries.Expr.TheVariants as e
use Rattle.away_trees.specs.declared.queries.Query.{Query}
use Rattle.away_trees.specs.declared.queries.FromItem.{FromItem}
use Rattle.away_trees.specs.declared.queries.Item.{Item}
use Rattle.away_trees.specs.declared.queries.Key.{Key}
use Rattle.away_trees.specs.declared.queries.Recursive.{Recursive}
use Rattle.away_trees.specs.declared.queries.Select.{Select}
use Rattle.away_trees.specs.declared.queries.Source.{Source}
use Rattle.away_trees.specs.declared.queries.Source.TheVariants as source
use Rattle.away_trees.specs.declared.queries.Expr.TheOpen as ex
use Rattle.away_trees.specs.declared.queries.Expr.TheViews as view
use Rattle.away_trees.specs.Algebra.{expr_of, from_of, item_of, key_of, recursive_of, select_of, source_of}
use Rattle.away_grammar.specs.Terminals.{Terminal, mark, name}
use Rattle.away_grammar.specs.Grammar.{operands, perhaps}
use Rattle.away_grammar.specs.Printing.{Printed, arms_terminals, chain_level, comparison_mark, else_terminals, from_terminals, function_terminal, joined, limit_terminals, links_terminals, list_terminals, names_terminals, order_terminals, placed, printed, printing, query_terminals, selects_terminals, test_mark, type_name, where_terminals, with_commas}
use Rattle.away_trees.proofs.Equations as eq
use Rattle.sql_printer.specs.PrintedTerminals.{arm_printed, each_before, link_printed}
use Rattle.sql_printer.proofs.Adding.{union}

abbrev terminals_of : Printed → List Terminal
terminals_of p = p.terminals

perhaps_join : (b : Bool) (s : Terminal) (ts : List Terminal) → perhaps b s [] ++ ts ≡ perhaps b s ts
perhaps_join true s ts = refl
perhaps_join false s ts = refl

-- ---- expressions

pub neg_terminals : {x y : Expr} (z : Expr) → z ≡ e.Neg x → y ≡ x → mark m.Minus ∷ placed l.Cast (printed y) ≡ (printed z).terminals
neg_terminals {x = x} z p q = ap (λ y. mark m.Minus ∷ placed l.Cast (printed y)) q ∙ sym (ap terminals_of (ap printed p ∙ eq.of_neg printing x))

pub neg_small_terminals : {x y : Expr} (z : Expr) → z ≡ e.NegSmall x → y ≡ x → mark m.Minus ∷ placed l.Cast (printed y) ≡ (printed z).terminals
neg_small_terminals {x = x} z p q = ap (λ y. mark m.Minus ∷ placed l.Cast (printed y)) q ∙ sym (ap terminals_of (ap printed p ∙ eq.of_negsmall printing x))

pub not_terminals : {x y : Expr} (z : Expr) → z ≡ e.Not x → y ≡ x → mark m.Not ∷ placed l.Is (printed y) ≡ (printed z).terminals
not_terminals {x = x} z p q = ap (λ y. mark m.Not ∷ placed l.Is (printed y)) q ∙ sym (ap terminals_of (ap printed p ∙ eq.of_not printing x))

pub is_terminals : {x y : Expr} {test : IsTest} {n : Bool} (z : Expr) → z ≡ e.Is x test n → y ≡ x
    → placed l.Compare (printed y) ++ mark m.Is ∷ perhaps n (mark m.Not) (mark (test_mark test) ∷ []) ≡ (printed z).terminals
is_terminals {x = x} {test = test} {n = n} z p q =
    ap (λ y. placed l.Compare (printed y) ++ mark m.Is ∷ perhaps n (mark m.Not) (mark (test_mark test) ∷ [])) q ∙ sym (ap terminals_of (ap printed p ∙ eq.of_is printing x test n))

level_printed : (links : List (ChainOp × Expr)) → chain_level (map link_printed links) ≡ chain_level links
level_printed [] = refl
level_printed (x ∷ more) = refl

pub chain_level_is : {links ls : List (ChainOp × Expr)} (z x : Expr) → z ≡ e.Chain x links → ls ≡ links → chain_level ls ≡ (printed z).level
chain_level_is {links = links} z x p q = ap chain_level q ∙ sym (level_printed links) ∙ sym (ap (λ y. y.level) (ap printed p ∙ eq.of_chain printing x links))

pub chain_terminals : {x y : Expr} {links ls ms : List (ChainOp × Expr)} (z : Expr) (level place : Level) → z ≡ e.Chain x links → y ≡ x → ls ≡ links → ms ≡ links → level ≡ chain_level ls → place ≡ operands level
    → placed place (printed y) ++ links_terminals level (map link_printed ms) ≡ (printed z).terminals
chain_terminals {x = x} {y = y} {links = links} {ms = ms} z level place p q r s h k =
    let is : level ≡ chain_level (map link_printed links) = h ∙ ap chain_level r ∙ sym (level_printed links) in
    ap (λ b. placed b (printed y) ++ links_terminals level (map link_printed ms)) k
    ∙ ap (λ b. placed (operands b) (printed y) ++ links_terminals b (map link_printed ms)) is
    ∙ ap (λ b. placed (operands (chain_level (map link_printed links))) (printed b) ++ links_terminals (chain_level (map link_printed links)) (map link_printed ms)) q
    ∙ ap (λ b. placed (operands (chain_level (map link_printed links))) (printed x) ++ links_terminals (chain_level (map link_printed links)) (map link_printed b)) s
    ∙ sym (ap terminals_of (ap printed p ∙ eq.of_chain printing x links))

pub compare_terminals : {x y v w : Expr} {op : CmpOp} (z : Expr) (terminal : Mark) → z ≡ e.Compare op x y → v ≡ x → w ≡ y → terminal ≡ comparison_mark op
    → placed l.Range (printed v) ++ mark terminal ∷ placed l.Range (printed w) ≡ (printed z).terminals
compare_terminals {x = x} {y = y} {w = w} {op = op} z terminal p q r s =
    ap (λ b. placed l.Range (printed b) ++ mark terminal ∷ placed l.Range (printed w)) q
    ∙ ap (λ b. placed l.Range (printed x) ++ mark terminal ∷ placed l.Range (printed b)) r
    ∙ ap (λ b. placed l.Range (printed x) ++ mark b ∷ placed l.Range (printed y)) s
    ∙ sym (ap terminals_of (ap printed p ∙ eq.of_compare printing op x y))

abbrev between : Bool → Expr → Expr → Expr → List Terminal
between n x low high = placed l.Concat (printed x) ++ (perhaps n (mark m.Not) [] ++ mark m.Between ∷ (placed l.Concat (printed low) ++ mark m.And ∷ placed l.Concat (printed high)))

pub between_terminals : {n : Bool} {x low high u v w : Expr} (z : Expr) → z ≡ e.Between n x low high → u ≡ x → v ≡ low → w ≡ high → between n u v w ≡ (printed z).terminals
between_terminals {n = n} {x = x} {low = low} {high = high} {v = v} {w = w} z p q r s =
    ap (λ b. between n b v w) q ∙ ap (λ b. between n x b w) r ∙ ap (λ b. between n x low b) s
    ∙ ap (λ b. placed l.Concat (printed x) ++ b) (perhaps_join n (mark m.Not) (mark m.Between ∷ (placed l.Concat (printed low) ++ mark m.And ∷ placed l.Concat (printed high))))
    ∙ sym (ap terminals_of (ap printed p ∙ eq.of_between printing n x low high))

abbrev one_of : Bool → Expr → List Expr → List Terminal
one_of n x xs = placed l.Concat (printed x) ++ (perhaps n (mark m.Not) [] ++ mark m.In ∷ mark m.Open ∷ (list_terminals (map printed xs) ++ mark m.Close ∷ []))

pub one_of_terminals : {n : Bool} {x u : Expr} {xs us : List Expr} (z : Expr) → z ≡ e.OneOf n x xs → u ≡ x → us ≡ xs → one_of n u us ≡ (printed z).terminals
one_of_terminals {n = n} {x = x} {xs = xs} {us = us} z p q r =
    ap (λ b. one_of n b us) q ∙ ap (one_of n x) r
    ∙ ap (λ b. placed l.Concat (printed x) ++ b) (perhaps_join n (mark m.Not) (mark m.In ∷ mark m.Open ∷ (list_terminals (map printed xs) ++ mark m.Close ∷ [])))
    ∙ sym (ap terminals_of (ap printed p ∙ eq.of_oneof printing n x xs))

pub cast_terminals : {x y : Expr} {ty : Ty} (z : Expr) → z ≡ e.Cast x ty → y ≡ x
    → mark m.Cast ∷ mark m.Open ∷ (placed l.Or (printed y) ++ mark m.As ∷ name (type_name ty) ∷ mark m.Close ∷ []) ≡ (printed z).terminals
cast_terminals {x = x} {ty = ty} z p q =
    ap (λ y. mark m.Cast ∷ mark m.Open ∷ (placed l.Or (printed y) ++ mark m.As ∷ name (type_name ty) ∷ mark m.Close ∷ [])) q ∙ sym (ap terminals_of (ap printed p ∙ eq.of_cast printing x ty))

pub cases_terminals : {arms some : List (Expr × Expr)} (z : Expr) (other : Option Expr) → z ≡ e.Cases arms other → some ≡ arms
    → mark m.Case ∷ (arms_terminals (map arm_printed some) ++ (else_terminals (option_map printed other) ++ mark m.End ∷ [])) ≡ (printed z).terminals
cases_terminals {arms = arms} z other p q =
    ap (λ b. mark m.Case ∷ (arms_terminals (map arm_printed b) ++ (else_terminals (option_map printed other) ++ mark m.End ∷ []))) q ∙ sym (ap terminals_of (ap printed p ∙ eq.of_cases printing arms other))

pub scalar_terminals : {q r : Query} (z : Expr) → z ≡ e.Scalar q → r ≡ q → mark m.Open ∷ (query_terminals r ++ mark m.Close ∷ []) ≡ (printed z).terminals
scalar_terminals {q = q} z p h = ap (λ b. mark m.Open ∷ (query_terminals b ++ mark m.Close ∷ [])) h ∙ sym (ap terminals_of (ap printed p ∙ eq.of_scalar printing q))

pub exists_terminals : {q r : Query} (z : Expr) → z ≡ e.Exists q → r ≡ q → mark m.Exists ∷ mark m.Open ∷ (query_terminals r ++ mark m.Close ∷ []) ≡ (printed z).terminals
exists_terminals {q = q} z p h = ap (λ b. mark m.Exists ∷ mark m.Open ∷ (query_terminals b ++ mark m.Close ∷ [])) h ∙ sym (ap terminals_of (ap printed p ∙ eq.of_exists printing q))

-- a function's name is a reserved word at most where it has arguments
call_is : (none : Bool) (n : List ℕ) (xs : List Expr) → (IsTrue none → xs ≡ []) → (xs ≡ [] → IsTrue none)
    → (if not none then function_terminal n else name n) ∷ mark m.Open ∷ (list_terminals (map printed xs) ++ mark m.Close ∷ []) ≡ (printing.expr (ex.Call n (map (λ x. expr_of printing x) xs))).terminals
call_is true n [] h g = refl
call_is true n (x ∷ xs) h g = absurd (cc (h refl))
call_is false n [] h g = absurd (cc (g refl))
call_is false n (x ∷ xs) h g = refl

pub call_terminals : {n : List ℕ} {xs us : List Expr} (z : Expr) (none : Bool) → z ≡ e.Call n xs → us ≡ xs → (IsTrue none → xs ≡ []) → (xs ≡ [] → IsTrue none)
    → (if not none then function_terminal n else name n) ∷ mark m.Open ∷ (list_terminals (map printed us) ++ mark m.Close ∷ []) ≡ (printed z).terminals
call_terminals {n = n} {xs = xs} z none p q h g =
    ap (λ b. (if not none then function_terminal n else name n) ∷ mark m.Open ∷ (list_terminals (map printed b) ++ mark m.Close ∷ [])) q
    ∙ call_is none n xs h g ∙ sym (ap terminals_of (ap printed p ∙ eq.of_call printing n xs))

-- ---- lists of expressions

abbrev pub expr_terminals : Expr → List Terminal
expr_terminals x = placed l.Or (printed x)

pub list_is : (xs : List Expr) → map expr_terminals xs ≡ map (placed l.Or) (map printed xs)
list_is [] = refl
list_is (x ∷ xs) = ap (λ b. expr_terminals x ∷ b) (list_is xs)

-- ---- queries

pub query_alone : {ss : List Select} (q : Query) → (view.out-Query q).recursive ≡ None → ss ≡ (view.out-Query q).selects
    → selects_terminals (map (select_of printing) ss) ≡ query_terminals q
query_alone q h k =
    ap (λ b. selects_terminals (map (select_of printing) b)) k
    ∙ sym (eq.query_is printing q ∙ ap (λ r. printing.query (record { recursive = option_map (λ r. recursive_of printing r) r; selects = map (λ x. select_of printing x) (view.out-Query q).selects })) h)

pub query_with : {r : Recursive} {ss : List Select} (q : Query) → (view.out-Query q).recursive ≡ Some r → ss ≡ (view.out-Query q).selects
    → recursive_of printing r ++ selects_terminals (map (select_of printing) ss) ≡ query_terminals q
query_with {r = r} q h k =
    ap (λ b. recursive_of printing r ++ selects_terminals (map (select_of printing) b)) k
    ∙ sym (eq.query_is printing q ∙ ap (λ r. printing.query (record { recursive = option_map (λ r. recursive_of printing r) r; selects = map (λ x. select_of printing x) (view.out-Query q).selects })) h)

terms_join : (between : List Terminal) (xs : List (List Terminal)) (y : List Terminal) → joined between (xs ++ y ∷ []) ≡ each_before between xs ++ y
terms_join between [] y = refl
terms_join between (x ∷ []) y = simp (append_assoc, append-nil)
terms_join between (x ∷ z ∷ zs) y = ap (λ b. x ++ (between ++ b)) (terms_join between (z ∷ zs) y) ∙ simp append_assoc

pub recursive_terminals : {ns : List (List ℕ)} {ss : List Select} (r : Recursive) → ns ≡ (view.out-Recursive r).columns → ss ≡ (view.out-Recursive r).first
    → mark m.With ∷ mark m.Recursive ∷ name (view.out-Recursive r).name ∷ mark m.Open ∷ (names_terminals ns ++ mark m.Close ∷ mark m.As ∷ mark m.Open ∷
    (each_before union (map (select_of printing) ss) ++ (select_of printing (view.out-Recursive r).second ++ mark m.Close ∷ [])))
    ≡ recursive_of printing r
recursive_terminals {ns = ns} {ss = ss} r h k =
    let o = view.out-Recursive r in
    let term = select_of printing o.second in
    let head : List Terminal → List (List ℕ) → List Terminal = λ b c. mark m.With ∷ mark m.Recursive ∷ name o.name ∷ mark m.Open ∷ (names_terminals c ++ mark m.Close ∷ mark m.As ∷ mark m.Open ∷ b) in
    let terms : each_before union (map (select_of printing) ss) ++ (term ++ mark m.Close ∷ []) ≡ selects_terminals (map (select_of printing) o.first ++ term ∷ []) ++ mark m.Close ∷ [] =
    sym (append_assoc (each_before union (map (select_of printing) ss)) term (mark m.Close ∷ []))
    ∙ ap (λ b. b ++ mark m.Close ∷ []) (ap (λ b. each_before union (map (select_of printing) b) ++ term) k ∙ sym (terms_join union (map (select_of printing) o.first) term)) in
    ap (λ b. head b ns) terms
    ∙ ap (head (selects_terminals (map (select_of printing) o.first ++ term ∷ []) ++ mark m.Close ∷ [])) h
    ∙ sym (ap (recursive_of printing) (sym (view.roll-out-Recursive r)) ∙ eq.of_recursive printing o.name o.columns o.first o.second)

pub select_terminals : {ls : List Item} {fs : List FromItem} {ks : List Key} (s : Select) → ls ≡ (view.out-Select s).list → fs ≡ (view.out-Select s).from → ks ≡ (view.out-Select s).order
    → mark m.Select ∷ (with_commas (map (item_of printing) ls) ++ (from_terminals (map (from_of printing) fs) ++ (where_terminals (option_map printed (view.out-Select s).filter)
    ++ (order_terminals (map (key_of printing) ks) ++ limit_terminals (option_map printed (view.out-Select s).limit)))))
    ≡ select_of printing s
select_terminals {ls = ls} {fs = fs} {ks = ks} s p q r =
    let o = view.out-Select s in
    let all : List Item → List FromItem → List Key → List Terminal = λ a b c. mark m.Select ∷ (with_commas (map (item_of printing) a) ++ (from_terminals (map (from_of printing) b)
    ++ (where_terminals (option_map printed o.filter) ++ (order_terminals (map (key_of printing) c) ++ limit_terminals (option_map printed o.limit))))) in
    ap (λ a. all a fs ks) p ∙ ap (λ b. all o.list b ks) q ∙ ap (all o.list o.from) r ∙ sym (eq.select_is printing s)

pub sub_terminals : {q r : Query} {lateral : Bool} (s : Source) → s ≡ source.Sub q lateral → r ≡ q
    → perhaps lateral (mark m.Lateral) [] ++ mark m.Open ∷ (query_terminals r ++ mark m.Close ∷ []) ≡ (source_of printing s).terminals
sub_terminals {q = q} {lateral = lateral} s h k =
    ap (λ b. perhaps lateral (mark m.Lateral) [] ++ mark m.Open ∷ (query_terminals b ++ mark m.Close ∷ [])) k
    ∙ perhaps_join lateral (mark m.Lateral) (mark m.Open ∷ (query_terminals q ++ mark m.Close ∷ []))
    ∙ sym (ap (λ o. o.terminals) (ap (source_of printing) h ∙ eq.of_sub printing q lateral))
