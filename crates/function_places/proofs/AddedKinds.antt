-- Nodes that are added one behind the other, and what a loop over a list adds.
use Rattle.std.proofs.Common.{Bool, ◌≡◌, ◌<◌, ◌≤◌, ℕ, ◌+◌, List, [], ◌∷◌, ◌++◌, length, drop, get_or, map, replicate, Result, Ok, Err, Option, Some, None, refl, sym, ap, ◌∙◌, subst, append_assoc, append-nil}
use Rattle.std.proofs.lemmas.List.{drop_all, drop_more, replicate_more}
use Rattle.away_values.specs.declared.errors.NoMemory.{NoMemory}
use Rattle.away_trees.specs.declared.queries.Expr.{Expr}
use Rattle.away_trees.specs.declared.queries.Select.{Select}
use Rattle.away_trees.specs.declared.statements.Arm.{Arm}
use Rattle.away_trees.specs.declared.statements.Decl.{Decl}
use Rattle.away_trees.specs.declared.statements.LoopKind.{LoopKind}
use Rattle.away_trees.specs.declared.statements.Raised.{Raised}
use Rattle.away_trees.specs.declared.statements.Stmt.{Stmt}
use Rattle.away_trees.specs.declared.statements.Stmt.TheVariants as s
use Rattle.away_trees.proofs.StatementEquations as eq
use Rattle.function_places.specs.declared.node_kinds.Kind.{Kind}
use Rattle.function_places.specs.declared.node_kinds.Kind.TheVariants.{Variable, Other}
use Rattle.function_places.specs.LimitPlaces.{AddsKinds, in_order, of_loop, kinds_of, kinds_of_arm, listing}
use Rattle.function_places.specs.LimitPlaces as spec

-- ---- one behind the other

pub then_on : {s t a b c : List Kind} {u : Unit {0}} {r : Result (Unit {0}) NoMemory} → AddsKinds s a (Ok u) b → AddsKinds t b r c → AddsKinds (s ++ t) a r c
then_on {s = s} {t = t} {a = a} {r = Ok v} h k = record { all = k.all ∙ ap (λ x. x ++ t) h.all ∙ append_assoc a s t }
then_on {r = Err e} h k = record { all = tt }

-- the same nodes
pub as_kinds : {s t a c : List Kind} {r : Result (Unit {0}) NoMemory} → s ≡ t → AddsKinds s a r c → AddsKinds t a r c
as_kinds {a = a} {c = c} {r = r} e h = subst (λ s. AddsKinds s a r c) e h

-- ---- loops

-- what is there now, with what is left, is what was there before with all of it
pub record Leads (all before left now : List Kind) : Type 0 where
  pub whole : now ++ left ≡ before ++ all

pub begins : {all before : List Kind} → Leads all before all before
begins = record { whole = refl }

pub goes_on : {all before now next s left : List Kind} {u : Unit {0}} → Leads all before (s ++ left) now → AddsKinds s now (Ok u) next → Leads all before left next
goes_on {now = now} {s = s} {left = left} h k = record { whole = ap (λ x. x ++ left) k.all ∙ append_assoc now s left ∙ h.whole }

pub ends : {all before now : List Kind} {u : Unit {0}} → Leads all before [] now → AddsKinds all before (Ok u) now
ends {now = now} h = record { all = sym (append-nil now) ∙ h.whole }

-- what is left of a list from a place on
abbrev pub left_at : {A : Type 0} → (A → List Kind) → ℕ → List A → List Kind
left_at f i xs = in_order (map f (drop i xs))

-- a turn over the element at the place
pub turned : {A : Type 0} (f : A → List Kind) (xs : List A) (i : ℕ) (x : A) {all before now next : List Kind} {u : Unit {0}} → x ≡ get_or xs i x → i < length xs
    → Leads all before (left_at f i xs) now → AddsKinds (f x) now (Ok u) next → Leads all before (left_at f (i + 1) xs) next
turned f xs i x {all = all} {before = before} {now = now} is lt lead adds =
    let here : drop i xs ≡ x ∷ drop (i + 1) xs = drop_more xs i x lt ∙ ap (λ y. y ∷ drop (i + 1) xs) (sym is) in
    goes_on (subst (λ ys. Leads all before (in_order (map f ys)) now) here lead) adds

-- behind the last
pub over : {A : Type 0} (f : A → List Kind) (xs : List A) (i : ℕ) {all before now : List Kind} {u : Unit {0}} → length xs ≤ i → Leads all before (left_at f i xs) now → AddsKinds all before (Ok u) now
over f xs i {all = all} {before = before} {now = now} le lead = ends (subst (λ ys. Leads all before (in_order (map f ys)) now) (drop_all i xs le) lead)

-- one more of the same
pub one_more : (kind : Kind) (i : ℕ) (before now next : List Kind) → now ≡ before ++ replicate i kind → next ≡ now ++ kind ∷ [] → next ≡ before ++ replicate (i + 1) kind
one_more kind i before now next h k =
    k ∙ ap (λ l. l ++ kind ∷ []) h ∙ append_assoc before (replicate i kind) (kind ∷ []) ∙ ap (λ l. before ++ l) (replicate_more i kind)

-- ---- what a node adds, by what its parts add

pub of_a_block : {label closing : Option (List ℕ)} {decls : List Decl} {body statements : List Stmt} (n : ℕ) (x : Stmt) → x ≡ s.Block label decls body closing → n ≡ length decls → statements ≡ body
    → (Other ∷ []) ++ (replicate n Variable ++ in_order (map (λ s. kinds_of s) statements)) ≡ kinds_of x
unfolding kinds_of
of_a_block {label = label} {closing = closing} {decls = decls} {body = body} n x is d b =
    (λ i. Other ∷ (replicate (d i) Variable ++ in_order (map (λ s. kinds_of s) (b i)))) ∙ sym (ap kinds_of is ∙ eq.of_block listing label decls body closing)

pub of_an_if : {arms all : List Arm} (x : Stmt) → x ≡ s.If arms None → all ≡ arms → (Other ∷ []) ++ in_order (map (λ a. kinds_of_arm a) all) ≡ kinds_of x
unfolding kinds_of kinds_of_arm
of_an_if {arms = arms} x is a =
    ap (λ l. Other ∷ in_order (map (λ a. kinds_of_arm a) l)) a ∙ ap (λ l. Other ∷ l) (sym (append-nil (in_order (map (λ a. kinds_of_arm a) arms)))) ∙ sym (ap kinds_of is ∙ eq.of_if listing arms None)

pub of_if_with_else : {arms all : List Arm} {body statements : List Stmt} (x : Stmt) → x ≡ s.If arms (Some body) → all ≡ arms → statements ≡ body
    → (Other ∷ []) ++ (in_order (map (λ a. kinds_of_arm a) all) ++ spec.kinds_behind_else statements) ≡ kinds_of x
unfolding kinds_of kinds_of_arm
of_if_with_else {arms = arms} {body = body} x is a b =
    (λ i. Other ∷ (in_order (map (λ a. kinds_of_arm a) (a i)) ++ spec.kinds_behind_else (b i))) ∙ sym (ap kinds_of is ∙ eq.of_if listing arms (Some body))

pub of_a_case : {arms all : List Arm} (x : Stmt) → x ≡ s.Cases arms None → all ≡ arms → (Other ∷ []) ++ in_order (map (λ a. kinds_of_arm a) all) ≡ kinds_of x
unfolding kinds_of kinds_of_arm
of_a_case {arms = arms} x is a =
    ap (λ l. Other ∷ in_order (map (λ a. kinds_of_arm a) l)) a ∙ ap (λ l. Other ∷ l) (sym (append-nil (in_order (map (λ a. kinds_of_arm a) arms)))) ∙ sym (ap kinds_of is ∙ eq.of_cases listing arms None)

pub of_case_with_else : {arms all : List Arm} {body statements : List Stmt} (x : Stmt) → x ≡ s.Cases arms (Some body) → all ≡ arms → statements ≡ body
    → (Other ∷ []) ++ (in_order (map (λ a. kinds_of_arm a) all) ++ spec.kinds_behind_else statements) ≡ kinds_of x
unfolding kinds_of kinds_of_arm
of_case_with_else {arms = arms} {body = body} x is a b =
    (λ i. Other ∷ (in_order (map (λ a. kinds_of_arm a) (a i)) ++ spec.kinds_behind_else (b i))) ∙ sym (ap kinds_of is ∙ eq.of_cases listing arms (Some body))

pub of_a_loop : {label closing : Option (List ℕ)} {how : LoopKind} {body statements : List Stmt} (k : Kind) (x : Stmt) → x ≡ s.Loop label how body closing → k ≡ of_loop how → statements ≡ body
    → (k ∷ []) ++ in_order (map (λ s. kinds_of s) statements) ≡ kinds_of x
unfolding kinds_of
of_a_loop {label = label} {closing = closing} {how = how} {body = body} k x is e b =
    (λ i. e i ∷ in_order (map (λ s. kinds_of s) (b i))) ∙ sym (ap kinds_of is ∙ eq.of_loop listing label how body closing)

pub of_an_into : {strict : Bool} {targets : List (List ℕ × Option ℕ)} {query : Select} (n : ℕ) (x : Stmt) → x ≡ s.Into strict targets query → n ≡ length targets → (Other ∷ []) ++ replicate n Other ≡ kinds_of x
unfolding kinds_of
of_an_into n x is t = ap (λ n. Other ∷ replicate n Other) t ∙ sym (ap kinds_of is)

pub of_an_assignment : {name : List ℕ} {slot : Option ℕ} {e : Expr} (x : Stmt) → x ≡ s.Assign name slot e → Other ∷ [] ≡ kinds_of x
unfolding kinds_of
of_an_assignment x is = sym (ap kinds_of is)

pub of_an_exit : {label : Option (List ℕ)} {when : Option Expr} (x : Stmt) → x ≡ s.Exit label when → Other ∷ [] ≡ kinds_of x
unfolding kinds_of
of_an_exit x is = sym (ap kinds_of is)

pub of_a_continue : {label : Option (List ℕ)} {when : Option Expr} (x : Stmt) → x ≡ s.Continue label when → Other ∷ [] ≡ kinds_of x
unfolding kinds_of
of_a_continue x is = sym (ap kinds_of is)

pub of_a_return : {e : Expr} (x : Stmt) → x ≡ s.Return e → Other ∷ [] ≡ kinds_of x
unfolding kinds_of
of_a_return x is = sym (ap kinds_of is)

pub of_a_raise : {raised : Raised} (x : Stmt) → x ≡ s.Raise raised → Other ∷ [] ≡ kinds_of x
unfolding kinds_of
of_a_raise x is = sym (ap kinds_of is)

pub of_nothing : (x : Stmt) → x ≡ s.Nothing → Other ∷ [] ≡ kinds_of x
unfolding kinds_of
of_nothing x is = sym (ap kinds_of is)

pub of_an_arm : {statements : List Stmt} (x : Arm) → statements ≡ x.body → (Other ∷ []) ++ in_order (map (λ s. kinds_of s) statements) ≡ kinds_of_arm x
unfolding kinds_of kinds_of_arm
of_an_arm x b = ap (λ l. Other ∷ in_order (map (λ s. kinds_of s) l)) b
