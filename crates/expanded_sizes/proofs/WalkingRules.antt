-- The depth of a statement by its parts, and of a place by what it calls.
use Rattle.std.proofs.Common.{◌≡◌, refl, sym, ap, subst, ◌∙◌, ℕ, zero, suc, ◌+◌, ◌<◌, max, Bool, List, [], ◌∷◌, ◌++◌, length, get_or, map, take, Option, Some, None, arith}
use Rattle.away_trees.specs.declared.queries.Expr.{Expr}
use Rattle.away_trees.specs.declared.queries.Select.{Select}
use Rattle.away_trees.specs.declared.statements.Arm.{Arm}
use Rattle.away_trees.specs.declared.statements.Decl.{Decl}
use Rattle.away_trees.specs.declared.statements.Function.{Function}
use Rattle.away_trees.specs.declared.statements.LoopKind.{LoopKind}
use Rattle.away_trees.specs.declared.statements.Raised.{Raised}
use Rattle.away_trees.specs.declared.statements.Stmt.{Stmt}
use Rattle.away_trees.specs.declared.statements.Stmt.TheVariants as stmt
use Rattle.away_trees.specs.StatementAlgebra.{branch_of, stmt_of}
use Rattle.away_trees.proofs.StatementEquations.{of_block, of_cases, of_if, of_loop}
use Rattle.away_names.specs.Lookups.{Name}
use Rattle.call_expand.specs.CallPlaces.{called, maybe_called}
use Rattle.call_expand.specs.Expanding.{call_place, function_at, names_of}
use Rattle.call_expand.specs.declared.places.Place.{Place}
use Rattle.function_printer.specs.FunctionTerminals.{condition_of, decls_of, kind_of}
use Rattle.expanded_sizes.specs.Depths as d
use Rattle.expanded_sizes.specs.Depths.{around_return, depth, expanded_depth, expr_depth, most, most_by, nesting, place_depth, select_depth}
use Rattle.expanded_sizes.specs.Walking.{KnowsDepths, at_call, at_place, deeper, depth_of, depth_of_arm, depth_of_else, told, walked}
use Rattle.expanded_sizes.specs.declared.depths.Walk.{Walk}
use Rattle.expanded_sizes.proofs.WeighingRules.{function_is}

-- ---- the greatest

pub most_more : {A : Type 0} (f : A → ℕ) (xs : List A) (i : ℕ) (x : A) → i < length xs → most_by f (take (i + 1) xs) ≡ max (f (get_or xs i x)) (most_by f
    (take i xs))
most_more f [] i x lt = absurd (omega (arith, lt))
most_more f (y ∷ ys) zero x lt = refl
most_more f (y ∷ ys) (suc i) x lt =
    let next : suc i + 1 ≡ suc (i + 1) = omega arith in
    let more = most_more f ys i x (omega (arith, lt)) in
    ap (λ n. most_by f (take n (y ∷ ys))) next ∙ omega (arith, more)

pub told_max : (a b : ℕ) → told (max a b) ≡ max (told a) (told b)
told_max a b = omega arith

pub ruleset most_rules = (most_more)

most_map : {A : Type 0} (f : A → ℕ) (xs : List A) → most (map f xs) ≡ most_by f xs
most_map f [] = refl
most_map f (x ∷ xs) = ap (λ n. max (f x) n) (most_map f xs)

-- ---- statements

body_most : (g : Walk) (body : List Stmt) → most (map (λ s. stmt_of (walked g) s) body) ≡ most_by (depth_of g) body
unfolding depth_of
body_most g body = most_map (λ s. stmt_of (walked g) s) body

arms_most : (g : Walk) (arms : List Arm) → most (map (λ x. branch_of (walked g) x) arms) ≡ most_by (depth_of_arm g) arms
unfolding depth_of_arm
arms_most g arms = most_map (λ x. branch_of (walked g) x) arms

pub block_depth : (g : Walk) (label : Option Name) (decls : List Decl) (body : List Stmt) (closing : Option Name)
    → depth_of g (stmt.Block label decls body closing) ≡ max (depth (decls_of decls)) (most_by (depth_of g) body + 1)
unfolding depth_of
block_depth g label decls body closing = of_block (walked g) label decls body closing ∙ ap (λ n. max (depth (decls_of decls)) (n + 1)) (body_most g body)

pub loop_depth : (g : Walk) (label : Option Name) (kind : LoopKind) (body : List Stmt) (closing : Option Name)
    → depth_of g (stmt.Loop label kind body closing) ≡ max (depth (kind_of kind)) (most_by (depth_of g) body + 1)
unfolding depth_of
loop_depth g label kind body closing = of_loop (walked g) label kind body closing ∙ ap (λ n. max (depth (kind_of kind)) (n + 1)) (body_most g body)

pub if_depth : (g : Walk) (arms : List Arm) (other : Option (List Stmt)) → depth_of g (stmt.If arms other) ≡ max (most_by (depth_of_arm g) arms)
    (depth_of_else g other) + 1
unfolding depth_of
if_depth g arms None = of_if (walked g) arms None ∙ ap (λ n. max n 0 + 1) (arms_most g arms)
if_depth g arms (Some body) = of_if (walked g) arms (Some body) ∙ (λ i. max (arms_most g arms i) (body_most g body i) + 1)

pub cases_depth : (g : Walk) (arms : List Arm) (other : Option (List Stmt)) → depth_of g (stmt.Cases arms other) ≡ max (most_by (depth_of_arm g) arms)
    (depth_of_else g other) + 1
unfolding depth_of
cases_depth g arms None = of_cases (walked g) arms None ∙ ap (λ n. max n 0 + 1) (arms_most g arms)
cases_depth g arms (Some body) = of_cases (walked g) arms (Some body) ∙ (λ i. max (arms_most g arms i) (body_most g body i) + 1)

pub into_depth : (g : Walk) (strict : Bool) (targets : List (Name × Option ℕ)) (query : Select)
    → depth_of g (stmt.Into strict targets query) ≡ select_depth query
unfolding depth_of
into_depth g strict targets query = refl

pub assign_depth : (g : Walk) (name : Name) (slot : Option ℕ) (e : Expr) → depth_of g (stmt.Assign name slot e) ≡ at_place g 0 e
unfolding depth_of
assign_depth g name slot e = refl

pub return_depth : (g : Walk) (e : Expr) → depth_of g (stmt.Return e) ≡ at_place g (around_return g.inside) e
unfolding depth_of
return_depth g e = refl

pub exit_depth : (g : Walk) (label : Option Name) (when : Option Expr) → depth_of g (stmt.Exit label when) ≡ depth (condition_of when)
unfolding depth_of
exit_depth g label when = refl

pub continue_depth : (g : Walk) (label : Option Name) (when : Option Expr) → depth_of g (stmt.Continue label when) ≡ depth (condition_of when)
unfolding depth_of
continue_depth g label when = refl

pub raise_depth : (g : Walk) (raised : Raised) → depth_of g (stmt.Raise raised) ≡ 0
unfolding depth_of
raise_depth g raised = refl

pub nothing_depth : (g : Walk) → depth_of g stmt.Nothing ≡ 0
unfolding depth_of
nothing_depth g = refl

pub arm_depth : (g : Walk) (x : Arm) → depth_of_arm g x ≡ max (expr_depth x.test) (most_by (depth_of g) x.body)
unfolding depth_of_arm
arm_depth g x = ap (λ n. max (expr_depth x.test) n) (body_most g x.body)

pub ruleset depth_rules =
    (block_depth, loop_depth, if_depth, cases_depth, into_depth, assign_depth, return_depth, exit_depth, continue_depth, raise_depth, nothing_depth, arm_depth, most_more)

-- ---- places

place_as : (g : Walk) (tail : ℕ) (e : Expr) (o p : Option Place) → maybe_called o ≡ call_place (names_of g.fs.now) e → o ≡ p
    → at_place g tail e ≡ place_depth g.fs.now (deeper g) tail e (maybe_called p)
place_as g tail e o p found is = ap (λ c. place_depth g.fs.now (deeper g) tail e c) (sym found ∙ ap (λ q. maybe_called q) is)

pub plain_place : (g : Walk) (tail : ℕ) (e : Expr) (o : Option Place) → maybe_called o ≡ call_place (names_of g.fs.now) e → o ≡ None
    → at_place g tail e ≡ expr_depth e + tail
plain_place g tail e o found none = place_as g tail e o None found none

pub call_place_is : (g : Walk) (tail : ℕ) (e : Expr) (o : Option Place) (c : Place) → maybe_called o ≡ call_place (names_of g.fs.now) e → o ≡ Some c
    → at_place g tail e ≡ at_call g (called c) tail
call_place_is g tail e o c found some = place_as g tail e o (Some c) found some

-- what is told of a call's block is told by what is told of the body in it
told_body : (given strict body tail : ℕ) → told (max (max given (max strict (told body) + 1)) tail + 1) ≡ told (max (max given (max strict body + 1)) tail + 1)
told_body given strict body tail = omega arith

pub callee_inside : (g : Walk) (part : ℕ) → KnowsDepths g → part < length g.fs.now → part < length g.depths.now
callee_inside g part known lt = subst (λ n. part < n) (sym known.as_many) lt

-- the block of a call, by the function that is called and by what is told of its body
pub call_is : (g : Walk) (c : Place) (tail : ℕ) (f : Function) → KnowsDepths g → c.part < length g.fs.now → f ≡ get_or g.fs.now c.part f
    → told (d.call_depth f c.args.now (get_or g.depths.now c.part 0) tail) ≡ told (at_call g (called c) tail)
call_is g c tail f known lt is =
    ap (λ k. told (d.call_depth f c.args.now k tail)) (known.each c.part lt)
    ∙ (told_body (d.given_depth (length f.params) c.args.now) (d.strict_depth f.strict (length f.params)) (deeper g c.part) tail
    ∙ ap (λ (x : Function). told (d.call_depth x c.args.now (deeper g c.part) tail)) (sym (function_is g.fs.now c.part f lt is)))

-- ---- bodies

body_depth : (g : Walk) (i : ℕ) (f : Function) → f ≡ function_at g.fs.now i → depth_of g f.body ≡ expanded_depth g.fs.now (suc g.calls) g.inside i
unfolding depth_of
body_depth g i f at = λ j. stmt_of (walked g) (at j).body

-- the body of a function by its place
pub body_is : (g : Walk) (i : ℕ) (f : Function) → i < length g.fs.now → f ≡ get_or g.fs.now i f
    → depth_of g f.body ≡ expanded_depth g.fs.now (g.calls + 1) g.inside i
body_is g i f lt is =
    let deep : suc g.calls ≡ g.calls + 1 = omega arith in
    body_depth g i f (sym (function_is g.fs.now i f lt is)) ∙ ap (λ n. expanded_depth g.fs.now n g.inside i) deep

-- ---- tables

pub longer : (all : List ℕ) (n : ℕ) → length (all ++ n ∷ []) ≡ length all + 1
longer [] n = refl
longer (x ∷ xs) n = let more = longer xs n in omega (arith, more)

pub one_more : (P : ℕ → ℕ → Type 0) (all : List ℕ) (n : ℕ) → ((i : ℕ) → i < length all → P i (get_or all i 0)) → P (length all) n
    → (i : ℕ) → i < length (all ++ n ∷ []) → P i (get_or (all ++ n ∷ []) i 0)
one_more P [] n each last zero lt = last
one_more P [] n each last (suc i) lt = absurd (omega (arith, lt))
one_more P (x ∷ xs) n each last zero lt = each zero (omega arith)
one_more P (x ∷ xs) n each last (suc i) lt = one_more (λ j. P (suc j)) xs n (λ j l. each (suc j) (omega (arith, l))) last i (omega (arith, lt))
