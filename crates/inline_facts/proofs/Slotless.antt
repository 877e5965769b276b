-- What the grammar reads has no slot.
use Rattle.std.proofs.Common.{◌≡◌, refl, sym, ap, ◌∙◌, ◌^◌, ◌-◌, pos, negsuc, Bool, true, false, ◌||◌, List, [], ◌∷◌, ◌++◌, map, Option, Some, None, option_map}
use Rattle.std.specs.List.{list_any}
use Rattle.away_values.specs.declared.operators.ChainOp.{ChainOp}
use Rattle.away_grammar.specs.declared.grammar.Mark.{Mark}
use Rattle.away_grammar.specs.declared.grammar.Mark.TheVariants as m
use Rattle.away_trees.specs.declared.queries.Expr.{Expr}
use Rattle.away_trees.specs.declared.queries.Expr.TheVariants as e
use Rattle.away_trees.specs.declared.queries.Select.{Select}
use Rattle.away_trees.specs.Algebra.{expr_of, from_of, item_of, key_of, query_of, recursive_of, select_of}
use Rattle.away_trees.proofs.Equations as eq
use Rattle.away_grammar.specs.Terminals.{Terminal}
use Rattle.away_grammar.specs.Grammar.{Sort, Tree, Reads, literal_of}
use Rattle.away_grammar.specs.Grammar as g
use Rattle.inline_facts.specs.Slots.{any, maybe, slotting}
use Rattle.inline_facts.proofs.Stays.{left, right}

-- Schemas have no expressions.
abbrev pub Slotless : (n : Sort) → Tree n → Type 0
Slotless (g.at level) t = expr_of slotting t ≡ false
Slotless (g.links level) t = list_any (λ (l : ChainOp × Bool). l.1) (map (λ x. eq.link_of slotting x) t) ≡ false
Slotless g.list t = any (map (λ x. expr_of slotting x) t) ≡ false
Slotless g.arms t = list_any (λ (a : Bool × Bool). a.0 || a.1) (map (λ x. eq.arm_of slotting x) t) ≡ false
Slotless g.item t = item_of slotting t ≡ false
Slotless g.items t = any (map (λ x. item_of slotting x) t) ≡ false
Slotless g.from_item t = from_of slotting t ≡ false
Slotless g.from_items t = any (map (λ x. from_of slotting x) t) ≡ false
Slotless g.from_clause t = any (map (λ x. from_of slotting x) t) ≡ false
Slotless g.where_clause t = maybe (option_map (λ e. expr_of slotting e) t) ≡ false
Slotless g.key t = key_of slotting t ≡ false
Slotless g.keys t = any (map (λ x. key_of slotting x) t) ≡ false
Slotless g.order_clause t = any (map (λ x. key_of slotting x) t) ≡ false
Slotless g.limit_clause t = maybe (option_map (λ e. expr_of slotting e) t) ≡ false
Slotless g.select t = select_of slotting t ≡ false
Slotless g.selects t = any (map (λ x. select_of slotting x) t) ≡ false
Slotless g.query t = query_of slotting t ≡ false
Slotless g.names t = Unit {0}
Slotless g.recursive t = recursive_of slotting t ≡ false
Slotless g.file t = query_of slotting t ≡ false
Slotless g.column t = Unit {0}
Slotless g.columns t = Unit {0}
Slotless g.tables t = Unit {0}

join : (a c : Bool) → a ≡ false → c ≡ false → (a || c) ≡ false
join a c h k = (λ i. h i || c) ∙ k

-- of some booleans and one behind them
before : (xs : List Select) (y : Select) → any (map (λ x. select_of slotting x) (xs ++ y ∷ [])) ≡ false → any (map (λ x. select_of slotting x) xs) ≡ false
before [] y h = refl
before (x ∷ xs) y h =
    let rest = any (map (λ x. select_of slotting x) (xs ++ y ∷ [])) in
    join (select_of slotting x) _ (left (select_of slotting x) rest h) (before xs y (right (select_of slotting x) rest h))

behind : (xs : List Select) (y : Select) → any (map (λ x. select_of slotting x) (xs ++ y ∷ [])) ≡ false → select_of slotting y ≡ false
behind [] y h = left (select_of slotting y) false h
behind (x ∷ xs) y h = behind xs y (right (select_of slotting x) (any (map (λ x. select_of slotting x) (xs ++ y ∷ []))) h)

same_some : {A : Type 0} (x y : A) → Some x ≡ Some y → x ≡ y
same_some {A} x y h = ap or_first h
  where
    or_first : Option A → A
    or_first None = x
    or_first (Some z) = z

literal_slotless : (terminal : Mark) (x : Expr) → literal_of terminal ≡ Some x → expr_of slotting x ≡ false
literal_slotless m.True x h = ap (λ x. expr_of slotting x) (sym (same_some (e.Bool true) x h)) ∙ eq.of_bool slotting true
literal_slotless m.False x h = ap (λ x. expr_of slotting x) (sym (same_some (e.Bool false) x h)) ∙ eq.of_bool slotting false
literal_slotless m.Null x h = ap (λ x. expr_of slotting x) (sym (same_some e.Null x h)) ∙ eq.of_null slotting
literal_slotless _ x h = absurd (cc h)

pub slotless : {n : Sort} {ts : List Terminal} {t : Tree n} {rest : List Terminal} → Reads n ts t rest → Slotless n t
slotless (g.chain {more = []} p d c) = slotless d
slotless (g.chain {first = f} {more = y ∷ ys} p d c) = eq.of_chain slotting f (y ∷ ys) ∙ join _ _ (slotless d) (slotless c)
slotless g.no_link = refl
slotless (g.link {x = y} terminal k d c) = join (expr_of slotting y) _ (slotless d) (slotless c)
slotless (g.affirmed d) = slotless d
slotless (g.negated {x = y} d) = eq.of_not slotting y ∙ slotless d
slotless (g.untested d) = slotless d
slotless (g.tested {x = y} {n = n} {test = test} terminal k d) = eq.of_is slotting y test n ∙ slotless d
slotless (g.uncompared d) = slotless d
slotless (g.compared {x = y} {y = z} {o = o} terminal k d c) = eq.of_compare slotting o y z ∙ join _ _ (slotless d) (slotless c)
slotless (g.unranged d) = slotless d
slotless (g.between {x = y} {low = low} {high = high} {n = n} d b c) =
    eq.of_between slotting n y low high
    ∙ join (expr_of slotting y) _ (slotless d) (join (expr_of slotting low) (expr_of slotting high) (slotless b) (slotless c))
slotless (g.one_of {x = y} {xs = xs} {n = n} d b) = eq.of_oneof slotting n y xs ∙ join _ _ (slotless d) (slotless b)
slotless (g.unsigned d) = slotless d
slotless (g.signed {x = y} d) = eq.of_neg slotting y ∙ slotless d
slotless g.least = eq.of_int slotting (negsuc (2 ^ 63 - 1))
slotless (g.uncast d) = slotless d
slotless (g.cast_once {x = y} {ty = ty} t k d) = eq.of_cast slotting y ty ∙ slotless d
slotless (g.cast_twice {x = y} {first = first} {second = second} t u k j d) =
    eq.of_cast slotting (e.Cast y first) second ∙ (eq.of_cast slotting y first ∙ slotless d)
slotless (g.number {n = n} k) = eq.of_int slotting (pos n)
slotless (g.text {t = t}) = eq.of_str slotting t
slotless (g.literal {x = y} terminal k) = literal_slotless terminal y k
slotless (g.named {n = n}) = eq.of_named slotting n
slotless (g.qualified {n = n} {c = c}) = eq.of_qualified slotting n c
slotless (g.typed_parameter {i = i} {ty = ty} t k) = eq.of_param slotting i ty
slotless (g.short_parameter {i = i} {ty = ty} t k) = eq.of_param slotting i ty
slotless (g.parentheses d) = slotless d
slotless (g.scalar {q = q} d) = eq.of_scalar slotting q ∙ slotless d
slotless (g.cast {x = y} {ty = ty} t k d) = eq.of_cast slotting y ty ∙ slotless d
slotless (g.exists {q = q} d) = eq.of_exists slotting q ∙ slotless d
slotless (g.cases {a = a} {more = more} d) = eq.of_cases slotting (a ∷ more) None ∙ join _ false (slotless d) refl
slotless (g.cases_else {a = a} {more = more} {x = y} d b) = eq.of_cases slotting (a ∷ more) (Some y) ∙ join _ _ (slotless d) (slotless b)
slotless (g.call_word {n = n} {xs = xs} terminal k d) = eq.of_call slotting n xs ∙ slotless d
slotless g.count_rows = eq.of_countrows slotting
slotless (g.call_empty {n = n}) = eq.of_call slotting n []
slotless (g.call {n = n} {xs = xs} d) = eq.of_call slotting n xs ∙ slotless d
slotless (g.last {x = y} d) = join (expr_of slotting y) false (slotless d) refl
slotless (g.another {x = y} {xs = xs} d b) = join (expr_of slotting y) _ (slotless d) (slotless b)
slotless g.no_arm = refl
slotless (g.arm {test = test} {value = value} d b c) =
    join (expr_of slotting test || expr_of slotting value) _
    (join (expr_of slotting test) (expr_of slotting value) (slotless d) (slotless b)) (slotless c)
slotless (g.item_alone d) = slotless d
slotless (g.item_as d) = slotless d
slotless (g.last_item {x = y} d) = join (item_of slotting y) false (slotless d) refl
slotless (g.another_item {x = y} d b) = join (item_of slotting y) _ (slotless d) (slotless b)
slotless (g.table_alone {n = n} w) = eq.of_table slotting n
slotless (g.table_as {n = n} w v) = eq.of_table slotting n
slotless (g.sub_alone {q = q} {v = v} w d) = eq.of_sub slotting q v ∙ slotless d
slotless (g.sub_columns {q = q} {v = v} w d b) = eq.of_sub slotting q v ∙ slotless d
slotless (g.last_from {x = y} d) = join (from_of slotting y) false (slotless d) refl
slotless (g.another_from {x = y} d b) = join (from_of slotting y) _ (slotless d) (slotless b)
slotless g.last_name = tt
slotless (g.another_name d) = tt
slotless (g.key_alone k d) = slotless d
slotless (g.ascending k d) = slotless d
slotless (g.descending k d) = slotless d
slotless (g.last_key {x = y} d) = join (key_of slotting y) false (slotless d) refl
slotless (g.another_key {x = y} d b) = join (key_of slotting y) _ (slotless d) (slotless b)
slotless g.no_from = refl
slotless (g.from d) = slotless d
slotless g.no_where = refl
slotless (g.where_of d) = slotless d
slotless g.no_order = refl
slotless (g.order_by d) = slotless d
slotless g.no_limit = refl
slotless (g.limit_of d) = slotless d
slotless (g.select_of {xs = xs} {fs = fs} {w = w} {ks = ks} {n = n} d a b c f) =
    eq.of_select slotting xs fs w ks n ∙ join _ _ (slotless d) (join _ _ (slotless a) (join _ _ (slotless b) (join _ _ (slotless c) (slotless f))))
slotless (g.last_select {s = s} d) = join (select_of slotting s) false (slotless d) refl
slotless (g.another_select {s = s} d b) = join (select_of slotting s) _ (slotless d) (slotless b)
slotless (g.query_of {ss = ss} k d) = eq.of_query slotting ss ∙ slotless d
slotless (g.recursive_of {n = n} {ns = ns} {s = s} ss second d b) =
    eq.of_recursive slotting n ns (s ∷ ss) second
    ∙ join _ (select_of slotting second) (before (s ∷ ss) second (slotless b)) (behind (s ∷ ss) second (slotless b))
slotless (g.plain_file w d) = slotless d
slotless (g.with_file {r = r} {ss = ss} w k d b) = eq.of_with slotting r ss ∙ join (recursive_of slotting r) _ (slotless d) (slotless b)
slotless (g.column_of t k) = tt
slotless (g.last_column d) = tt
slotless (g.another_column d b) = tt
slotless g.no_table = tt
slotless (g.table w d b) = tt
