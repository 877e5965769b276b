-- Printed parts have the same roles where their own parts do.
use Rattle.std.proofs.Common.{◌≡◌, ℕ, refl, sym, ap, ◌∙◌, subst, Bool, true, false, if◌then◌else◌, nat_lt, List, [], ◌∷◌, ◌++◌, map, Option, Some, None}
use Rattle.std.proofs.lemmas.List.{map-append}
use Rattle.away_grammar.specs.declared.grammar.Mark.{Mark}
use Rattle.away_grammar.specs.declared.grammar.Mark.TheVariants as m
use Rattle.away_grammar.specs.declared.grammar.Level.{Level}
use Rattle.away_grammar.specs.declared.grammar.Level.TheVariants as l
use Rattle.away_values.specs.declared.operators.ChainOp.{ChainOp}
use Rattle.away_grammar.specs.Terminals.{Terminal, mark}
use Rattle.away_grammar.specs.Grammar.{operands, perhaps, rank}
use Rattle.away_grammar.specs.Printing.{Printed, Origin, placed, with_commas, function_terminal, links_terminals, list_terminals, arms_terminals, else_terminals, call_terminals, chain_level, operator_level, operator_mark, from_terminals, where_terminals, order_terminals, limit_terminals, selects_terminals, print_item, print_from, print_step}
use Rattle.expanded_sizes.specs.Depths.{role}
use Rattle.expanded_sizes.specs.declared.depths.Role.{Role}
use Rattle.expanded_sizes.specs.declared.depths.Role.TheVariants.{Opens, Closes}

abbrev pub roles : List Terminal → List Role
roles xs = map role xs

pub record Same (xs ys : List Terminal) : Type 0 where
  pub is : roles xs ≡ roles ys

pub here : {xs : List Terminal} → Same xs xs
here = record { is = refl }

pub equal : {xs ys : List Terminal} → xs ≡ ys → Same xs ys
equal e = record { is = ap (λ u. roles u) e }

pub shown : {xs ys zs : List Terminal} → xs ≡ ys → Same ys zs → Same xs zs
shown e h = record { is = ap (λ u. roles u) e ∙ h.is }

pub both : (a c : List Terminal) {x y : List Terminal} → Same a c → Same x y → Same (a ++ x) (c ++ y)
both a c {x} {y} h k = record { is = map-append role a x ∙ ((λ i. h.is i ++ k.is i) ∙ sym (map-append role c y)) }

pub next : (s : Terminal) {x y : List Terminal} → Same x y → Same (s ∷ x) (s ∷ y)
next s h = record { is = ap (λ u. role s ∷ u) h.is }

pub record Like (p q : Printed) : Type 0 where
  pub level : p.level ≡ q.level
  pub terminals : Same p.terminals q.terminals

pub by : {p q r : Printed} → p ≡ q → Like q r → Like p r
by {r = r} e h = subst (λ p. Like p r) (sym e) h

pub placed_roles : (c : Bool) (p : Printed)
    → roles (if c then mark m.Open ∷ (p.terminals ++ mark m.Close ∷ []) else p.terminals) ≡ (if c then Opens ∷
    (roles p.terminals ++ Closes ∷ []) else roles p.terminals)
placed_roles true p = ap (λ u. Opens ∷ u) (map-append role p.terminals (mark m.Close ∷ []))
placed_roles false p = refl

pub placed_both : (u v : Level) → u ≡ v → (p q : Printed) → Like p q → Same (placed u p) (placed v q)
placed_both u v e p q h = record {
  is = placed_roles (nat_lt (rank p.level) (rank u)) p
      ∙ ((λ i. if nat_lt (rank (h.level i)) (rank (e i)) then Opens ∷ (h.terminals.is i ++ Closes ∷ []) else h.terminals.is i)
      ∙ sym (placed_roles (nat_lt (rank q.level) (rank v)) q));
}

pub placed_at : (place : Level) (p q : Printed) → Like p q → Same (placed place p) (placed place q)
placed_at place p q h = placed_both place place refl p q h

pub perhaps_same : (n : Bool) (terminal : Mark) {x y : List Terminal} → Same x y → Same (perhaps n (mark terminal) x) (perhaps n (mark terminal) y)
perhaps_same true terminal h = next (mark terminal) h
perhaps_same false terminal h = h

-- ---- lists of parts

abbrev pub LikeEach : List Printed → List Printed → Type 0
LikeEach [] [] = Unit {0}
LikeEach (p ∷ ps) (q ∷ qs) = Like p q × LikeEach ps qs
LikeEach _ _ = ⊥

abbrev pub LikeLinks : List (ChainOp × Printed) → List (ChainOp × Printed) → Type 0
LikeLinks [] [] = Unit {0}
LikeLinks (x ∷ xs) (y ∷ ys) = (x.0 ≡ y.0) × Like x.1 y.1 × LikeLinks xs ys
LikeLinks _ _ = ⊥

abbrev pub LikeArms : List (Printed × Printed) → List (Printed × Printed) → Type 0
LikeArms [] [] = Unit {0}
LikeArms (x ∷ xs) (y ∷ ys) = Like x.0 y.0 × Like x.1 y.1 × LikeArms xs ys
LikeArms _ _ = ⊥

abbrev pub LikeOption : Option Printed → Option Printed → Type 0
LikeOption None None = Unit {0}
LikeOption (Some p) (Some q) = Like p q
LikeOption _ _ = ⊥

abbrev pub SameList : Option (List Terminal) → Option (List Terminal) → Type 0
SameList None None = Unit {0}
SameList (Some x) (Some y) = Same x y
SameList _ _ = ⊥

abbrev pub SameAll : List (List Terminal) → List (List Terminal) → Type 0
SameAll [] [] = Unit {0}
SameAll (x ∷ xs) (y ∷ ys) = Same x y × SameAll xs ys
SameAll _ _ = ⊥

pub list_same : (ps qs : List Printed) → LikeEach ps qs → Same (list_terminals ps) (list_terminals qs)
list_same [] [] h = here
list_same (p ∷ []) (q ∷ []) h = placed_at l.Or p q h.0
list_same (p ∷ p' ∷ ps) (q ∷ q' ∷ qs) h = both (placed l.Or p) (placed l.Or q) (placed_at l.Or p q h.0) (next (mark m.Comma) (list_same (p' ∷ ps)
    (q' ∷ qs) h.1))
list_same [] (q ∷ qs) h = absurd h
list_same (p ∷ ps) [] h = absurd h
list_same (p ∷ []) (q ∷ q' ∷ qs) h = absurd h.1
list_same (p ∷ p' ∷ ps) (q ∷ []) h = absurd h.1

pub level_same : (xs ys : List (ChainOp × Printed)) → LikeLinks xs ys → chain_level xs ≡ chain_level ys
level_same [] [] h = refl
level_same (x ∷ xs) (y ∷ ys) h = ap (λ o. operator_level o) h.0
level_same [] (y ∷ ys) h = absurd h
level_same (x ∷ xs) [] h = absurd h

pub links_same : {u v : Level} → u ≡ v → (xs ys : List (ChainOp × Printed)) → LikeLinks xs ys → Same (links_terminals u xs) (links_terminals v ys)
links_same e [] [] h = here
links_same {u} {v} e (x ∷ xs) (y ∷ ys) h =
    let rest = both (placed (operands u) x.1) (placed (operands v) y.1) (placed_both (operands u) (operands v) (ap (λ k. operands k) e) x.1 y.1 h.1)
    (links_same e xs ys h.2) in
    record { is = λ i. role (mark (operator_mark (h.0 i))) ∷ rest.is i }
links_same e [] (y ∷ ys) h = absurd h
links_same e (x ∷ xs) [] h = absurd h

pub arms_same : (xs ys : List (Printed × Printed)) → LikeArms xs ys → Same (arms_terminals xs) (arms_terminals ys)
arms_same [] [] h = here
arms_same (x ∷ xs) (y ∷ ys) h =
    next (mark m.When) (both (placed l.Or x.0) (placed l.Or y.0) (placed_at l.Or x.0 y.0 h.0)
    (next (mark m.Then) (both (placed l.Or x.1) (placed l.Or y.1) (placed_at l.Or x.1 y.1 h.1) (arms_same xs ys h.2))))
arms_same [] (y ∷ ys) h = absurd h
arms_same (x ∷ xs) [] h = absurd h

pub else_same : (o p : Option Printed) → LikeOption o p → Same (else_terminals o) (else_terminals p)
else_same None None h = here
else_same (Some p) (Some q) h = next (mark m.Else) (placed_at l.Or p q h)
else_same None (Some q) h = absurd h
else_same (Some p) None h = absurd h

pub call_same : (n : List ℕ) (ps qs : List Printed) → LikeEach ps qs → Same (call_terminals n ps) (call_terminals n qs)
call_same n [] [] h = here
call_same n (p ∷ ps) (q ∷ qs) h =
    next (function_terminal n) (next (mark m.Open) (both (list_terminals (p ∷ ps)) (list_terminals (q ∷ qs)) (list_same (p ∷ ps) (q ∷ qs) h) here))
call_same n [] (q ∷ qs) h = absurd h
call_same n (p ∷ ps) [] h = absurd h

pub commas_same : (xs ys : List (List Terminal)) → SameAll xs ys → Same (with_commas xs) (with_commas ys)
commas_same [] [] h = here
commas_same (x ∷ []) (y ∷ []) h = h.0
commas_same (x ∷ x' ∷ xs) (y ∷ y' ∷ ys) h = both x y h.0 (next (mark m.Comma) (commas_same (x' ∷ xs) (y' ∷ ys) h.1))
commas_same [] (y ∷ ys) h = absurd h
commas_same (x ∷ xs) [] h = absurd h
commas_same (x ∷ []) (y ∷ y' ∷ ys) h = absurd h.1
commas_same (x ∷ x' ∷ xs) (y ∷ []) h = absurd h.1

pub selects_same : (xs ys : List (List Terminal)) → SameAll xs ys → Same (selects_terminals xs) (selects_terminals ys)
selects_same [] [] h = here
selects_same (x ∷ []) (y ∷ []) h = h.0
selects_same (x ∷ x' ∷ xs) (y ∷ y' ∷ ys) h = both x y h.0 (next (mark m.Union) (next (mark m.All) (selects_same (x' ∷ xs) (y' ∷ ys) h.1)))
selects_same [] (y ∷ ys) h = absurd h
selects_same (x ∷ xs) [] h = absurd h
selects_same (x ∷ []) (y ∷ y' ∷ ys) h = absurd h.1
selects_same (x ∷ x' ∷ xs) (y ∷ []) h = absurd h.1

pub from_same : (xs ys : List (List Terminal)) → SameAll xs ys → Same (from_terminals xs) (from_terminals ys)
from_same [] [] h = here
from_same (x ∷ xs) (y ∷ ys) h = next (mark m.From) (commas_same (x ∷ xs) (y ∷ ys) h)
from_same [] (y ∷ ys) h = absurd h
from_same (x ∷ xs) [] h = absurd h

pub order_same : (xs ys : List (List Terminal)) → SameAll xs ys → Same (order_terminals xs) (order_terminals ys)
order_same [] [] h = here
order_same (x ∷ xs) (y ∷ ys) h = next (mark m.Order) (next (mark m.By) (commas_same (x ∷ xs) (y ∷ ys) h))
order_same [] (y ∷ ys) h = absurd h
order_same (x ∷ xs) [] h = absurd h

pub where_same : (o p : Option Printed) → LikeOption o p → Same (where_terminals o) (where_terminals p)
where_same None None h = here
where_same (Some p) (Some q) h = next (mark m.Where) (placed_at l.Or p q h)
where_same None (Some q) h = absurd h
where_same (Some p) None h = absurd h

pub limit_same : (o p : Option Printed) → LikeOption o p → Same (limit_terminals o) (limit_terminals p)
limit_same None None h = here
limit_same (Some p) (Some q) h = next (mark m.Limit) (placed_at l.Or p q h)
limit_same None (Some q) h = absurd h
limit_same (Some p) None h = absurd h

pub clauses_same : (f g : List (List Terminal)) (w x : Option Printed) (o p : List (List Terminal)) (c d : Option Printed)
    → SameAll f g → LikeOption w x → SameAll o p → LikeOption c d
    → Same (from_terminals f ++ (where_terminals w ++ (order_terminals o ++ limit_terminals c))) (from_terminals g ++ (where_terminals x ++
    (order_terminals p ++ limit_terminals d)))
clauses_same f g w x o p c d a e h k =
    both (from_terminals f) (from_terminals g) (from_same f g a)
    (both (where_terminals w) (where_terminals x) (where_same w x e) (both (order_terminals o) (order_terminals p) (order_same o p h) (limit_same c d k)))

pub item_same : (p q : Printed) (alias : Option (List ℕ)) → Like p q → Same (print_item (record { expr = p; alias = alias })) (print_item
    (record { expr = q; alias = alias }))
item_same p q alias h = both (placed l.Or p) (placed l.Or q) (placed_at l.Or p q h) here

pub record LikeOrigin (o p : Origin) : Type 0 where
  pub terminals : Same o.terminals p.terminals
  pub own_alias : o.own_alias ≡ p.own_alias

pub part_same : (o p : Origin) (alias : List ℕ) (columns : List (List ℕ)) → LikeOrigin o p
    → Same (print_from (record { source = o; alias = alias; columns = columns })) (print_from (record { source = p; alias = alias; columns = columns }))
part_same o p alias columns h =
    both o.terminals p.terminals h.terminals
    (equal (ap (λ (own : Option (List ℕ)). print_from
    (record { source = record { terminals = []; own_alias = own }; alias = alias; columns = columns })) h.own_alias))

pub step_same : (o p : Option (List Terminal)) (xs ys : List (List Terminal)) → SameList o p → SameAll xs ys
    → Same (print_step (record { recursive = o; selects = xs })) (print_step (record { recursive = p; selects = ys }))
step_same None None xs ys h k = selects_same xs ys k
step_same (Some u) (Some v) xs ys h k = both u v h (selects_same xs ys k)
step_same None (Some v) xs ys h k = absurd h
step_same (Some u) None xs ys h k = absurd h

pub and_last : (xs ys : List (List Terminal)) (x y : List Terminal) → SameAll xs ys → Same x y → SameAll (xs ++ x ∷ []) (ys ++ y ∷ [])
and_last [] [] x y h k = (k, tt)
and_last (z ∷ zs) (w ∷ ws) x y h k = (h.0, and_last zs ws x y h.1 k)
and_last [] (w ∷ ws) x y h k = absurd h
and_last (z ∷ zs) [] x y h k = absurd h
