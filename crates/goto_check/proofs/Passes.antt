-- What a walk over an expression passes, by its parts.
use Rattle.std.proofs.Common.{◌≡◌, ℕ, suc, ◌+◌, Bool, true, false, List, [], ◌∷◌, ◌++◌, map, fold, drop, Option, Some, None, option_map, refl, sym, ap, ◌∙◌, if◌then◌else◌, nat_lt, filter_map, flat_map}
use Rattle.std.proofs.lemmas.List.Elements.{filter_map-append}
use Rattle.std.proofs.lemmas.List.Sums.{fold-append}
use Rattle.away_values.specs.declared.types.Ty.{Ty}
use Rattle.away_values.specs.declared.operators.ChainOp.{ChainOp}
use Rattle.away_values.specs.declared.operators.CmpOp.{CmpOp}
use Rattle.away_trees.specs.declared.queries.Col.{Col}
use Rattle.away_trees.specs.declared.queries.Expr.{Expr}
use Rattle.away_trees.specs.declared.queries.Expr.TheVariants as expr
use Rattle.away_trees.specs.declared.queries.FromItem.{FromItem}
use Rattle.away_trees.specs.declared.queries.Item.{Item}
use Rattle.away_trees.specs.declared.queries.Key.{Key}
use Rattle.away_trees.specs.declared.queries.Query.{Query}
use Rattle.away_trees.specs.declared.queries.Source.TheVariants as source
use Rattle.away_trees.specs.declared.queries.Expr.TheViews.{roll-Select, out-FromItem, out-Query, out-Select, roll-out-Query, roll-out-Select}
use Rattle.away_trees.specs.declared.queries.Select.{Select}
use Rattle.away_trees.specs.Algebra.{expr_of, item_of, from_of, key_of, source_of, select_of, query_of}
use Rattle.away_trees.proofs.Equations as eq
use Rattle.sql_meaning.specs.Reads.{Read, Reads, Slot, Outer, reading, slot_of, of_list, of_option}
use Rattle.goto_check.specs.Passing.{pass, passed, exprs_read, links_read, arms_read, option_reads, items_read, froms_read, keys_read, selects_read}

-- ---- lists of parts

flat : {X Y : Type 0} (g : Y → List Read) (f : X → Y) (xs : List X) → flat_map g (map f xs) ≡ flat_map (λ x. g (f x)) xs
flat g f [] = refl
flat g f (x ∷ xs) = ap (λ z. g (f x) ++ z) (flat g f xs)

option_flat : (d : ℕ) (o : Option Expr) → of_option d (option_map (λ x. expr_of reading x) o) ≡ option_reads d o
option_flat d None = refl
option_flat d (Some e) = refl

links_flat : (d : ℕ) (ls : List (ChainOp × Expr)) → flat_map (λ (l : ChainOp × Reads). l.1 d) (map (λ x. eq.link_of reading x) ls) ≡ links_read d ls
links_flat d ls = flat (λ (l : ChainOp × Reads). l.1 d) (λ x. eq.link_of reading x) ls

arms_flat : (d : ℕ) (arms : List (Expr × Expr)) → flat_map (λ (a : Reads × Reads). a.0 d ++ a.1 d) (map (λ x. eq.arm_of reading x) arms) ≡ arms_read d arms
arms_flat d arms = flat (λ (a : Reads × Reads). a.0 d ++ a.1 d) (λ x. eq.arm_of reading x) arms

exprs_flat : (d : ℕ) (es : List Expr) → of_list d (map (λ x. expr_of reading x) es) ≡ exprs_read d es
exprs_flat d es = flat (λ (r : Reads). r d) (λ x. expr_of reading x) es

items_flat : (d : ℕ) (xs : List Item) → of_list d (map (λ x. item_of reading x) xs) ≡ items_read d xs
items_flat d xs = flat (λ (r : Reads). r d) (λ x. item_of reading x) xs

froms_flat : (d : ℕ) (xs : List FromItem) → of_list d (map (λ x. from_of reading x) xs) ≡ froms_read d xs
froms_flat d xs = flat (λ (r : Reads). r d) (λ x. from_of reading x) xs

keys_flat : (d : ℕ) (xs : List Key) → of_list d (map (λ x. key_of reading x) xs) ≡ keys_read d xs
keys_flat d xs = flat (λ (r : Reads). r d) (λ x. key_of reading x) xs

selects_flat : (d : ℕ) (xs : List Select) → of_list d (map (λ x. select_of reading x) xs) ≡ selects_read d xs
selects_flat d xs = flat (λ (r : Reads). r d) (λ x. select_of reading x) xs

-- ---- the walk over one part after the other

module _ (names : List ℕ) (k : Option ℕ) where
  pub in_turn : (xs ys : List Read) → passed names k (xs ++ ys) ≡ passed names (passed names k xs) ys
  unfolding passed
  in_turn xs ys = ap (fold (pass names) k) (filter_map-append slot_of xs ys) ∙ fold-append (pass names) k (filter_map slot_of xs) (filter_map slot_of ys)

  pub pass_nothing : passed names k [] ≡ k
  unfolding passed
  pass_nothing = refl

  pub pass_slot : (i : ℕ) → passed names k (Slot i ∷ []) ≡ pass names k i
  unfolding passed
  pass_slot i = refl

  pub pass_param : (i d : ℕ) (t : Ty) → passed names k (expr_of reading (expr.Param i t) d) ≡ k
  unfolding passed
  pass_param i d t = refl

  pub pass_column : (c : Col) (d : ℕ) → passed names k (expr_of reading (expr.Column c) d) ≡ k
  unfolding passed
  pass_column c d = by (nat_lt c.level d)
    where
      by : (b : Bool) → passed names k (if b then [] else Outer c ∷ []) ≡ k
      by true = refl
      by false = refl

  pub pass_chain : (e : Expr) (links : List (ChainOp × Expr)) (d : ℕ) → passed names k (expr_of reading (expr.Chain e links) d) ≡ passed names (passed names k (expr_of reading e d)) (links_read d links)
  pass_chain e links d = ap (λ r. passed names k (r d)) (eq.of_chain reading e links) ∙ (ap (λ z. passed names k (expr_of reading e d ++ z)) (links_flat d links) ∙ in_turn (expr_of reading e d) (links_read d links))

  pub pass_compare : (op : CmpOp) (x y : Expr) (d : ℕ) → passed names k (expr_of reading (expr.Compare op x y) d) ≡ passed names (passed names k (expr_of reading x d)) (expr_of reading y d)
  pass_compare op x y d = ap (λ r. passed names k (r d)) (eq.of_compare reading op x y) ∙ in_turn (expr_of reading x d) (expr_of reading y d)

  pub pass_one_of : (v : Bool) (e : Expr) (es : List Expr) (d : ℕ) → passed names k (expr_of reading (expr.OneOf v e es) d) ≡ passed names (passed names k (expr_of reading e d)) (exprs_read d es)
  pass_one_of v e es d = ap (λ r. passed names k (r d)) (eq.of_oneof reading v e es) ∙ (ap (λ z. passed names k (expr_of reading e d ++ z)) (exprs_flat d es) ∙ in_turn (expr_of reading e d) (exprs_read d es))

  pub pass_call : (name : List ℕ) (es : List Expr) (d : ℕ) → passed names k (expr_of reading (expr.Call name es) d) ≡ passed names k (exprs_read d es)
  pass_call name es d = ap (λ r. passed names k (r d)) (eq.of_call reading name es) ∙ ap (λ z. passed names k z) (exprs_flat d es)

  pub pass_cases : (arms : List (Expr × Expr)) (other : Option Expr) (d : ℕ) → passed names k (expr_of reading (expr.Cases arms other) d) ≡ passed names (passed names k (arms_read d arms)) (option_reads d other)
  pass_cases arms other d = ap (λ r. passed names k (r d)) (eq.of_cases reading arms other) ∙ ((λ i. passed names k (arms_flat d arms i ++ option_flat d other i)) ∙ in_turn (arms_read d arms) (option_reads d other))

pub pass_between : (names : List ℕ) (k : Option ℕ) (v : Bool) (x y z : Expr) (d : ℕ) → passed names k (expr_of reading (expr.Between v x y z) d) ≡ passed names (passed names (passed names k (expr_of reading x d)) (expr_of reading y d)) (expr_of reading z d)
pass_between names k v x y z d =
    ap (λ r. passed names k (r d)) (eq.of_between reading v x y z) ∙ (in_turn names k (expr_of reading x d) (expr_of reading y d ++ expr_of reading z d) ∙ in_turn names (passed names k (expr_of reading x d)) (expr_of reading y d) (expr_of reading z d))

pub pass_query : (names : List ℕ) (k : Option ℕ) (q : Query) (d : ℕ) → passed names k (query_of reading q d) ≡ passed names k (selects_read d (out-Query q).selects)
pass_query names k q d =
    let v = out-Query q in
    ap (λ q. passed names k (query_of reading q d)) (sym (roll-out-Query q)) ∙ (ap (λ r. passed names k (r d)) (eq.query_roll reading v.recursive v.selects) ∙ ap (λ z. passed names k z) (selects_flat d v.selects))

pub pass_table : (names : List ℕ) (k : Option ℕ) (f : FromItem) (name : List ℕ) (d : ℕ) → (out-FromItem f).source ≡ source.Table name → passed names k (from_of reading f d) ≡ k
unfolding passed
pass_table names k f name d e = ap (λ s. passed names k (source_of reading s (out-FromItem f).columns d)) e

pub pass_sub : (names : List ℕ) (k : Option ℕ) (f : FromItem) (q : Query) (lateral : Bool) (d : ℕ) → (out-FromItem f).source ≡ source.Sub q lateral → passed names k (from_of reading f d) ≡ passed names k (query_of reading q d)
pass_sub names k f q lateral d e = ap (λ s. passed names k (source_of reading s (out-FromItem f).columns d)) e ∙ ap (λ s. passed names k (s (out-FromItem f).columns d)) (eq.of_sub reading q lateral)

pass_rolled : (names : List ℕ) (k : Option ℕ) (list : List Item) (from : List FromItem) (filter : Option Expr) (order : List Key) (limit : Option Expr) (d : ℕ) →
    passed names k (select_of reading (roll-Select (record { list = list; from = from; filter = filter; order = order; limit = limit })) d)
    ≡ passed names (passed names (passed names (passed names (passed names k (items_read (suc d) list)) (froms_read (suc d) from)) (option_reads (suc d) filter)) (keys_read (suc d) order)) (option_reads (suc d) limit)
pass_rolled names k list from filter order limit d =
    let l = items_read (suc d) list in
    let f = froms_read (suc d) from in
    let w = option_reads (suc d) filter in
    let o = keys_read (suc d) order in
    let m = option_reads (suc d) limit in
    ap (λ r. passed names k (r d)) (eq.of_select reading list from filter order limit)
    ∙ ((λ i. passed names k (items_flat (suc d) list i ++ (froms_flat (suc d) from i ++ (option_flat (suc d) filter i ++ (keys_flat (suc d) order i ++ option_flat (suc d) limit i)))))
    ∙ (in_turn names k l (f ++ (w ++ (o ++ m)))
    ∙ (in_turn names (passed names k l) f (w ++ (o ++ m))
    ∙ (in_turn names (passed names (passed names k l) f) w (o ++ m) ∙ in_turn names (passed names (passed names (passed names k l) f) w) o m))))

pub pass_select : (names : List ℕ) (k : Option ℕ) (s : Select) (d : ℕ) →
    passed names k (select_of reading s d)
    ≡ passed names (passed names (passed names (passed names (passed names k (items_read (suc d) (out-Select s).list)) (froms_read (suc d) (out-Select s).from)) (option_reads (suc d) (out-Select s).filter)) (keys_read (suc d) (out-Select s).order)) (option_reads (suc d) (out-Select s).limit)
pass_select names k s d =
    let v = out-Select s in
    ap (λ s. passed names k (select_of reading s d)) (sym (roll-out-Select s)) ∙ pass_rolled names k v.list v.from v.filter v.order v.limit d

-- one walk after another
pub and_then : (names : List ℕ) (k r q : Option ℕ) (xs ys : List Read) → r ≡ passed names k xs → q ≡ passed names r ys → q ≡ passed names (passed names k xs) ys
and_then names k r q xs ys e f = f ∙ ap (λ k. passed names k ys) e

-- ---- loops

module _ {X : Type 0} (R : X → List Read) (names : List ℕ) (xs : List X) (i : ℕ) (k : Option ℕ) (W : Option ℕ) (so_far : passed names k (flat_map R (drop i xs)) ≡ W) where
  pub passes_on : (x : X) (after : Option ℕ) → drop i xs ≡ x ∷ drop (i + 1) xs → after ≡ passed names k (R x) → passed names after (flat_map R (drop (i + 1) xs)) ≡ W
  passes_on x after here e = ap (λ k. passed names k (flat_map R (drop (i + 1) xs))) e ∙ (sym (in_turn names k (R x) (flat_map R (drop (i + 1) xs))) ∙ (ap (λ l. passed names k (flat_map R l)) (sym here) ∙ so_far))

  pub passes_end : drop i xs ≡ [] → k ≡ W
  unfolding passed
  passes_end e = ap (λ l. passed names k (flat_map R l)) (sym e) ∙ so_far

pub ruleset pass_rules = (pass_nothing, pass_slot, pass_column)
