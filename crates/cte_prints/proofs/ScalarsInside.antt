-- A query that was read in brackets was read with fewer brackets one inside another, from writable terminals.
use Rattle.std.proofs.Common.{◌≡◌, ℕ, suc, ◌≤◌, ◌^◌, ◌-◌, pos, negsuc, true, false, List, [], ◌∷◌, Some, None, sym, subst, arith}
use Rattle.away_grammar.specs.declared.grammar.Mark.{Mark}
use Rattle.away_grammar.specs.declared.grammar.Mark.TheVariants as m
use Rattle.away_trees.specs.declared.queries.Expr.{Expr}
use Rattle.away_trees.specs.declared.queries.Expr.TheVariants as e
use Rattle.away_trees.specs.declared.queries.Expr.TheOpen as ex
use Rattle.away_trees.specs.declared.queries.Expr.TheViews.{out-Expr}
use Rattle.away_trees.specs.declared.queries.Query.{Query}
use Rattle.away_grammar.specs.Terminals.{Terminal}
use Rattle.away_grammar.specs.Grammar.{Sort, Tree, at, query, literal_of}
use Rattle.sql_printer.specs.Writable.{AllWritable}
use Rattle.cte_prints.specs.Derivation.{IsReadWithin}
use Rattle.cte_prints.specs.ReadsIn as r
use Rattle.cte_prints.specs.ReadsIn.{ReadsIn}
use Rattle.cte_prints.proofs.Shapes as see
use Rattle.cte_prints.proofs.Shapes.{Node}

pub record ReadInside (d : ℕ) (q : Query) : Type 0 where
  pub depth : ℕ
  pub less : suc depth ≤ d
  pub terminals : List Terminal
  pub rest : List Terminal
  pub writable : AllWritable terminals
  pub reads : ReadsIn true depth query terminals q rest

-- if it is a query in brackets
abbrev pub Inside : ℕ → Node → Type 0
Inside d (ex.Scalar q) = ReadInside d q
Inside d _ = Unit {0}

abbrev TreeInside : ℕ → (n : Sort) → Tree n → Type 0
TreeInside d (at level) x = Inside d (out-Expr x)
TreeInside d _ x = Unit {0}

so : (d : ℕ) (x : Expr) (n : Node) → out-Expr x ≡ n → Inside d n → Inside d (out-Expr x)
so d x n h k = subst (Inside d) (sym h) k

further : (d : ℕ) (n : Node) → Inside d n → Inside (suc d) n
further d (ex.Scalar q) h =
    record { depth = h.depth; less = omega (arith, h.less); terminals = h.terminals; rest = h.rest; writable = h.writable; reads = h.reads }
further d _ h = tt

some_same : (x y : Expr) → Some x ≡ Some y → x ≡ y
some_same x y e = cc

literal_inside : (d : ℕ) (terminal : Mark) (x : Expr) → literal_of terminal ≡ Some x → Inside d (out-Expr x)
literal_inside d m.True x h = subst (λ x. Inside d (out-Expr x)) (some_same (e.Bool true) x h) (so d _ _ (see.see_bool true) tt)
literal_inside d m.False x h = subst (λ x. Inside d (out-Expr x)) (some_same (e.Bool false) x h) (so d _ _ (see.see_bool false) tt)
literal_inside d m.Null x h = subst (λ x. Inside d (out-Expr x)) (some_same e.Null x h) (so d _ _ see.see_null tt)
literal_inside d _ x h = absurd cc

tree_inside : {d : ℕ} {n : Sort} {ts : List Terminal} {t : Tree n} {rest : List Terminal} → ReadsIn true d n ts t rest → AllWritable ts → TreeInside d n t
tree_inside (r.chain {more = []} p a b) h = tree_inside a h
tree_inside (r.chain {d = d} {first = x} {more = y ∷ ys} p a b) h = so d _ _ (see.see_chain x (y ∷ ys)) tt
tree_inside (r.affirmed a) h = tree_inside a h
tree_inside (r.negated {d = d} {x = x} a) h = so d _ _ (see.see_not x) tt
tree_inside (r.untested a) h = tree_inside a h
tree_inside (r.tested {d = d} {x = x} {n = n} {test = test} terminal g a) h = so d _ _ (see.see_is x test n) tt
tree_inside (r.uncompared a) h = tree_inside a h
tree_inside (r.compared {d = d} {x = x} {y = y} {o = o} terminal g a b) h = so d _ _ (see.see_compare o x y) tt
tree_inside (r.unranged a) h = tree_inside a h
tree_inside (r.between {d = d} {x = x} {low = low} {high = high} {n = n} a b c) h = so d _ _ (see.see_between n x low high) tt
tree_inside (r.one_of {d = d} {x = x} {xs = xs} {n = n} a b) h = so (suc d) _ _ (see.see_one_of n x xs) tt
tree_inside (r.unsigned a) h = tree_inside a h
tree_inside (r.signed {d = d} {x = x} a) h = so d _ _ (see.see_neg x) tt
tree_inside (r.least {d = d}) h = so d _ _ (see.see_int (negsuc (2 ^ 63 - 1))) tt
tree_inside (r.uncast a) h = tree_inside a h
tree_inside (r.cast_once {d = d} {x = x} {ty = ty} t g a) h = so d _ _ (see.see_cast x ty) tt
tree_inside (r.cast_twice {d = d} {x = x} {first = first} {second = second} t u g i a) h = so d _ _ (see.see_cast (e.Cast x first) second) tt
tree_inside (r.number {d = d} {n = n} g) h = so d _ _ (see.see_int (pos n)) tt
tree_inside (r.text {d = d} {t = t}) h = so d _ _ (see.see_str t) tt
tree_inside (r.literal {d = d} {x = x} terminal g) h = literal_inside d terminal x g
tree_inside (r.named {d = d} {n = n}) h = so d _ _ (see.see_named n) tt
tree_inside (r.qualified {d = d} {n = n} {c = c}) h = so d _ _ (see.see_qualified n c) tt
tree_inside (r.typed_parameter {d = d} {i = i} {ty = ty} t g) h = so (suc d) _ _ (see.see_param i ty) tt
tree_inside (r.short_parameter {d = d} {i = i} {ty = ty} t g) h = so d _ _ (see.see_param i ty) tt
tree_inside (r.parentheses {d = d} {x = x} a) h = further d (out-Expr x) (tree_inside a h.1)
tree_inside (r.scalar {d = d} {ts = ts} {rest = rest} {q = q} a) h =
    so (suc d) _ _ (see.see_scalar q) (record { depth = d; less = omega arith; terminals = ts; rest = _; writable = h.1; reads = a })
tree_inside (r.cast {d = d} {x = x} {ty = ty} t g a) h = so (suc d) _ _ (see.see_cast x ty) tt
tree_inside (r.exists {d = d} {q = q} a) h = so (suc d) _ _ (see.see_exists q) tt
tree_inside (r.cases {d = d} {a = c} {more = more} a) h = so (suc d) _ _ (see.see_cases (c ∷ more) None) tt
tree_inside (r.cases_else {d = d} {a = c} {more = more} {x = x} a b) h = so (suc d) _ _ (see.see_cases (c ∷ more) (Some x)) tt
tree_inside (r.call_word {d = d} {n = n} {xs = xs} terminal g a) h = so (suc d) _ _ (see.see_call n xs) tt
tree_inside (r.count_rows {d = d}) h = so (suc d) _ _ see.see_count_rows tt
tree_inside (r.call_empty {d = d} {n = n}) h = so (suc d) _ _ (see.see_call n []) tt
tree_inside (r.call {d = d} {n = n} {xs = xs} a) h = so (suc d) _ _ (see.see_call n xs) tt
tree_inside _ h = tt

pub read_inside : (d : ℕ) (x : Expr) → IsReadWithin d x → Inside d (out-Expr x)
read_inside d x h = tree_inside h.reads h.writable
