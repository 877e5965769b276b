-- The weight of a statement by its parts, and of a place by what it calls.
use Rattle.std.proofs.Common.{◌≡◌, refl, sym, ap, subst, ◌∙◌, ℕ, zero, suc, ◌+◌, ◌*◌, ◌^◌, ◌<◌, ◌≤◌, Bool, true, false, List, [], ◌∷◌, ◌++◌, length, get_or, map, sum, sum_by, Option, Some, None, IfNone, IfSome, bytes_eq, if◌then◌else◌, arith}
use Rattle.std.proofs.lemmas.List.Sums.{sum-map, sum_by_more, sum_by_more_le}
use Rattle.away_trees.specs.declared.queries.Expr.{Expr}
use Rattle.away_trees.specs.declared.queries.Select.{Select}
use Rattle.away_trees.specs.declared.statements.Arm.{Arm}
use Rattle.away_trees.specs.declared.statements.Decl.{Decl}
use Rattle.away_trees.specs.declared.statements.LoopKind.{LoopKind}
use Rattle.away_trees.specs.declared.statements.Raised.{Raised}
use Rattle.away_trees.specs.declared.statements.Stmt.{Stmt}
use Rattle.away_trees.specs.declared.statements.Stmt.TheVariants as stmt
use Rattle.away_trees.specs.StatementAlgebra.{branch_of, stmt_of}
use Rattle.away_trees.proofs.StatementEquations.{of_block, of_cases, of_if, of_loop}
use Rattle.away_trees.specs.declared.statements.Function.{Function}
use Rattle.away_names.specs.Lookups.{Name}
use Rattle.call_meaning.specs.Calls.{Called, call_of, called_among, called_at, next_place, place_among}
use Rattle.call_meaning.proofs.Agreeing.{none_is_not_some, some_is}
use Rattle.call_expand.specs.CallPlaces.{called, maybe_called}
use Rattle.call_expand.specs.Expanding.{call_place, function_at, names_of}
use Rattle.expanded_sizes.specs.Sizes.{expanded_weight, of_call, of_blocks, of_kind, of_place, of_return, weighing}
use Rattle.expanded_sizes.specs.Weighing.{IsCount, KnowsCallees, at_call, at_place, deeper, weighed, weight_of, weight_of_arm, weight_of_else}
use Rattle.call_expand.specs.declared.places.Place.{Place}
use Rattle.expanded_sizes.specs.declared.weights.Weighing.{Weighing}
use Rattle.expanded_sizes.specs.declared.weights.Weights.{Weights}

body_sum : (g : Weighing) (body : List Stmt) → sum (map (λ s. stmt_of (weighed g) s) body) ≡ sum_by (weight_of g) body
unfolding weight_of
body_sum g body = sum-map (λ s. stmt_of (weighed g) s) body

arms_sum : (g : Weighing) (arms : List Arm) → sum (map (λ x. branch_of (weighed g) x) arms) ≡ sum_by (weight_of_arm g) arms
unfolding weight_of_arm
arms_sum g arms = sum-map (λ x. branch_of (weighed g) x) arms

pub block_weight : (g : Weighing) (label : Option Name) (decls : List Decl) (body : List Stmt) (closing : Option Name) →
    weight_of g (stmt.Block label decls body closing) ≡ g.weights.statement + (length decls * g.weights.declaration + sum_by (weight_of g) body)
unfolding weight_of
block_weight g label decls body closing =
    of_block (weighed g) label decls body closing ∙ ap (λ k. g.weights.statement + (length decls * g.weights.declaration + k)) (body_sum g body)

pub loop_weight : (g : Weighing) (label : Option Name) (kind : LoopKind) (body : List Stmt) (closing : Option Name) →
    weight_of g (stmt.Loop label kind body closing) ≡ g.weights.statement + (of_kind g.weights kind + sum_by (weight_of g) body)
unfolding weight_of
loop_weight g label kind body closing = of_loop (weighed g) label kind body closing ∙ ap (λ k. g.weights.statement + (of_kind g.weights kind + k))
    (body_sum g body)

pub if_weight : (g : Weighing) (arms : List Arm) (other : Option (List Stmt)) →
    weight_of g (stmt.If arms other) ≡ g.weights.statement + (sum_by (weight_of_arm g) arms + weight_of_else g other)
unfolding weight_of weight_of_else
if_weight g arms None = of_if (weighed g) arms None ∙ ap (λ k. g.weights.statement + (k + 0)) (arms_sum g arms)
if_weight g arms (Some body) = of_if (weighed g) arms (Some body) ∙ (λ i. g.weights.statement + (arms_sum g arms i + (g.weights.arm + body_sum g body i)))

pub cases_weight : (g : Weighing) (arms : List Arm) (other : Option (List Stmt)) →
    weight_of g (stmt.Cases arms other) ≡ g.weights.statement + (sum_by (weight_of_arm g) arms + weight_of_else g other)
unfolding weight_of weight_of_else
cases_weight g arms None = of_cases (weighed g) arms None ∙ ap (λ k. g.weights.statement + (k + 0)) (arms_sum g arms)
cases_weight g arms (Some body) = of_cases (weighed g) arms (Some body) ∙ (λ i. g.weights.statement + (arms_sum g arms i + (g.weights.arm + body_sum g body i)))

pub into_weight : (g : Weighing) (strict : Bool) (targets : List (Name × Option ℕ)) (query : Select)
    → weight_of g (stmt.Into strict targets query) ≡ g.weights.statement + length targets * g.weights.target
unfolding weight_of
into_weight g strict targets query = refl

pub assign_weight : (g : Weighing) (name : Name) (slot : Option ℕ) (e : Expr) → weight_of g (stmt.Assign name slot e) ≡ at_place g g.weights.statement e
unfolding weight_of
assign_weight g name slot e = refl

pub return_weight : (g : Weighing) (e : Expr) → weight_of g (stmt.Return e) ≡ at_place g (of_return g.weights g.inside) e
unfolding weight_of
return_weight g e = refl

pub exit_weight : (g : Weighing) (label : Option Name) (when : Option Expr) → weight_of g (stmt.Exit label when) ≡ g.weights.statement
unfolding weight_of
exit_weight g label when = refl

pub continue_weight : (g : Weighing) (label : Option Name) (when : Option Expr) → weight_of g (stmt.Continue label when) ≡ g.weights.statement
unfolding weight_of
continue_weight g label when = refl

pub raise_weight : (g : Weighing) (raised : Raised) → weight_of g (stmt.Raise raised) ≡ g.weights.statement
unfolding weight_of
raise_weight g raised = refl

pub nothing_weight : (g : Weighing) → weight_of g stmt.Nothing ≡ g.weights.statement
unfolding weight_of
nothing_weight g = refl

pub arm_weight : (g : Weighing) (x : Arm) → weight_of_arm g x ≡ g.weights.arm + sum_by (weight_of g) x.body
unfolding weight_of_arm
arm_weight g x = ap (λ k. g.weights.arm + k) (body_sum g x.body)

pub no_else : (g : Weighing) → weight_of_else g None ≡ 0
unfolding weight_of_else
no_else g = refl

pub else_weight : (g : Weighing) (body : List Stmt) → weight_of_else g (Some body) ≡ g.weights.arm + sum_by (weight_of g) body
unfolding weight_of_else
else_weight g body = refl

pub ruleset weight_rules =
    (block_weight, loop_weight, if_weight, cases_weight, into_weight, assign_weight, return_weight, exit_weight, continue_weight, raise_weight, nothing_weight, arm_weight, no_else, else_weight, sum_by_more, sum_by_more_le)

-- ---- places

-- what goes on behind a call weighs beside its block
pub behind_call : (w : Weights) (f : Function) (args : List Expr) (body tail : ℕ) → of_call w f args body tail ≡ of_call w f args body 0 + tail
behind_call w f args body tail = omega arith

place_as : (g : Weighing) (tail : ℕ) (e : Expr) (o p : Option Place) → maybe_called o ≡ call_place (names_of g.fs.now) e → o ≡ p
    → at_place g tail e ≡ of_place g.weights g.fs.now (deeper g) tail (maybe_called p)
place_as g tail e o p found is = ap (λ c. of_place g.weights g.fs.now (deeper g) tail c) (sym found ∙ ap (λ q. maybe_called q) is)

pub plain_place : (g : Weighing) (tail : ℕ) (e : Expr) (o : Option Place) → maybe_called o ≡ call_place (names_of g.fs.now) e → o ≡ None
    → at_place g tail e ≡ tail
plain_place g tail e o found none = place_as g tail e o None found none

pub call_weight : (g : Weighing) (tail : ℕ) (e : Expr) (o : Option Place) (c : Place) → maybe_called o ≡ call_place (names_of g.fs.now) e → o ≡ Some c
    → at_place g tail e ≡ at_call g (called c) + tail
call_weight g tail e o c found some = place_as g tail e o (Some c) found some ∙ behind_call g.weights (function_at g.fs.now c.part) c.args.now
    (deeper g c.part) tail

-- ---- a call calls one of the functions

next_inside : (b : Bool) (o : Option ℕ) (most i : ℕ) → ((j : ℕ) → o ≡ Some j → j < most) → (if b then Some 0 else next_place o) ≡ Some i → i < suc most
next_inside true o most i h e = subst (λ j. j < suc most) (some_is 0 i e) (omega arith)
next_inside false None most i h e = absurd (none_is_not_some i e)
next_inside false (Some j) most i h e = subst (λ k. k < suc most) (some_is (suc j) i e) (omega (arith, h j refl))

among_inside : (names : List Name) (name : Name) (i : ℕ) → place_among names name ≡ Some i → i < length names
among_inside [] name i e = absurd (none_is_not_some i e)
among_inside (n ∷ ns) name i e = next_inside (bytes_eq n name) (place_among ns name) (length ns) i (λ j h. among_inside ns name j h) e

at_inside : (most : ℕ) (args : List Expr) (o : Option ℕ) (c : Called) → ((j : ℕ) → o ≡ Some j → j < most) → called_at None args o ≡ Some c → c.part < most
at_inside most args None c h e = absurd (none_is_not_some c e)
at_inside most args (Some i) c h e = subst (λ d. d.part < most) (some_is _ c e) (h i refl)

called_inside : (names : List Name) (o : Option (Name × List Expr)) (c : Called) → called_among names None o ≡ Some c → c.part < length names
called_inside names None c e = absurd (none_is_not_some c e)
called_inside names (Some x) c e = at_inside (length names) x.1 (place_among names x.0) c (λ j h. among_inside names x.0 j h) e

names_as_many : (fs : List Function) → length (names_of fs) ≡ length fs
names_as_many [] = refl
names_as_many (f ∷ fs) = ap (λ n. suc n) (names_as_many fs)

pub place_inside : (fs : List Function) (e : Expr) (o : Option Place) (c : Place) → maybe_called o ≡ call_place (names_of fs) e → o ≡ Some c
    → c.part < length fs
place_inside fs e o c found some =
    subst (λ n. c.part < n) (names_as_many fs) (called_inside (names_of fs) (call_of e) (called c) (sym found ∙ ap (λ q. maybe_called q) some))

-- ---- tables of weights

-- a body as a called function's, or as the main one's, in which calls nest one deeper than is known
pub body_weight : (g : Weighing) (inside : Bool) (i : ℕ) (f : Function) → g.inside ≡ inside → f ≡ function_at g.fs.now i
    → weight_of g f.body ≡ expanded_weight g.weights g.fs.now (suc g.depth) inside i
unfolding weight_of
body_weight g inside i f is at = λ j. stmt_of (weighing g.weights (at_place g g.weights.statement) (at_place g (of_return g.weights (is j)))) (at j).body

pub count_is : (n : ℕ) (found : Option ℕ) → IfSome found (λ m. m ≡ 0 + n) → IfNone found (2 ^ 64 ≤ 0 + n) → IsCount n found
count_is n None some none = omega (arith, none)
count_is n (Some m) some none = omega (arith, some)

pub longer : (all : List (Option ℕ)) (o : Option ℕ) → length (all ++ o ∷ []) ≡ length all + 1
longer [] o = refl
longer (x ∷ xs) o = let more = longer xs o in omega (arith, more)

-- what holds of each place of a list and of the one behind it holds of each of the longer list
pub one_more : (P : ℕ → Option ℕ → Type 0) (all : List (Option ℕ)) (o : Option ℕ) → ((i : ℕ) → i < length all → P i (get_or all i None)) → P (length all) o
    → (i : ℕ) → i < length (all ++ o ∷ []) → P i (get_or (all ++ o ∷ []) i None)
one_more P [] o each last zero lt = last
one_more P [] o each last (suc i) lt = absurd (omega (arith, lt))
one_more P (x ∷ xs) o each last zero lt = each zero (omega arith)
one_more P (x ∷ xs) o each last (suc i) lt = one_more (λ j. P (suc j)) xs o (λ j l. each (suc j) (omega (arith, l))) last i (omega (arith, lt))

-- ---- what is known of a called function's body

get_same : (xs : List (Option ℕ)) (i : ℕ) (a b : Option ℕ) → i < length xs → get_or xs i a ≡ get_or xs i b
get_same [] i a b lt = absurd (omega (arith, lt))
get_same (x ∷ xs) zero a b lt = refl
get_same (x ∷ xs) (suc i) a b lt = get_same xs i a b (omega (arith, lt))

pub callee_inside : (g : Weighing) (part : ℕ) → KnowsCallees g → part < length g.fs.now → part < length g.callees.now
callee_inside g part known lt = subst (λ n. part < n) (sym known.as_many) lt

pub callee_count : (g : Weighing) (part : ℕ) (found : Option ℕ) → KnowsCallees g → part < length g.fs.now → found ≡ get_or g.callees.now part found
    → IsCount (deeper g part) found
callee_count g part found known lt is =
    subst (λ x. IsCount (deeper g part) x) (get_same g.callees.now part None found (callee_inside g part known lt) ∙ sym is) (known.each part lt)

-- where a called function's body has too many, the call has
pub call_exceeds : (g : Weighing) (c : Called) (before : ℕ) → 2 ^ 64 ≤ deeper g c.part → 2 ^ 64 ≤ before + at_call g c
call_exceeds g c before many = omega (arith, many)

-- ---- a function by its place

pub function_is : (fs : List Function) (i : ℕ) (g : Function) → i < length fs → g ≡ get_or fs i g → function_at fs i ≡ g
function_is [] i g lt e = absurd (omega (arith, lt))
function_is (f ∷ fs) zero g lt e = sym e
function_is (f ∷ fs) (suc i) g lt e = function_is fs i g (omega (arith, lt)) e

-- the block of a call, by the function that is called and by what is known of its body
pub call_is : (g : Weighing) (c : Place) (f : Function) → c.part < length g.fs.now → f ≡ get_or g.fs.now c.part f
    → at_call g (called c) ≡ of_blocks g.weights f c.args.now + deeper g c.part
call_is g c f lt is =
    ap (λ (x : Function). of_blocks g.weights x c.args.now + deeper g c.part + 0) (function_is g.fs.now c.part f lt is) ∙ omega arith

-- the body of a function by its place
pub body_is : (g : Weighing) (i : ℕ) (f : Function) (found : Option ℕ) → i < length g.fs.now → f ≡ get_or g.fs.now i f
    → IfSome found (λ m. m ≡ 0 + weight_of g f.body) → IfNone found (2 ^ 64 ≤ 0 + weight_of g f.body)
    → IsCount (expanded_weight g.weights g.fs.now (g.depth + 1) g.inside i) found
body_is g i f found lt is some none =
    let deep : suc g.depth ≡ g.depth + 1 = omega arith in
    let weight = body_weight g g.inside i f refl (sym (function_is g.fs.now i f lt is)) ∙ ap (λ d. expanded_weight g.weights g.fs.now d g.inside i) deep in
    subst (λ n. IsCount n found) weight (count_is (weight_of g f.body) found some none)
