-- The types of a statement's variables, by its parts.
use Rattle.std.proofs.Common.{◌≡◌, ℕ, Bool, List, [], ◌∷◌, ◌++◌, Option, Some, None, refl, ap, sym, ◌∙◌, map, flat_map}
use Rattle.std.proofs.lemmas.Grind.{flat_map-append}
use Rattle.std.proofs.lemmas.List.{map-append, append-nil, append_assoc}
use Rattle.away_values.specs.declared.types.Ty.{Ty}
use Rattle.away_trees.specs.declared.queries.Expr.{Expr}
use Rattle.away_trees.specs.declared.queries.Select.{Select}
use Rattle.away_trees.specs.declared.statements.Arm.{Arm}
use Rattle.away_trees.specs.declared.statements.Decl.{Decl}
use Rattle.away_trees.specs.declared.statements.LoopKind.{LoopKind}
use Rattle.away_trees.specs.declared.statements.Raised.{Raised}
use Rattle.away_trees.specs.declared.statements.Stmt.{Stmt}
use Rattle.away_trees.specs.declared.statements.Stmt.TheVariants as stmt
use Rattle.away_trees.specs.StatementAlgebra.{stmt_of, branch_of}
use Rattle.away_trees.proofs.StatementEquations.{of_block, of_loop, of_if, of_cases}
use Rattle.away_types.specs.declared.slots.Slot.{Slot}
use Rattle.block_forms.specs.Slots.{slot, slot_of, joined, declared_slots, of_kind, declaring, variables, variables_of_arm, param_slots, types_of}

-- ---- appended

types_of_both : (xs ys : List Slot) → types_of (xs ++ ys) ≡ types_of xs ++ types_of ys
types_of_both xs ys = map-append (λ (s : Slot). s.ty) xs ys

two_more : (old : List Ty) (xs ys : List Slot) → (old ++ types_of xs) ++ types_of ys ≡ old ++ types_of (xs ++ ys)
two_more old xs ys = append_assoc old (types_of xs) (types_of ys) ∙ ap (λ ts. old ++ ts) (sym (types_of_both xs ys))

pub declared_more : (old : List Ty) (ds : List Decl) (d : Decl) → (old ++ types_of (declared_slots ds)) ++ d.ty ∷ [] ≡ old ++ types_of (declared_slots (ds ++ d ∷ []))
declared_more old ds d = two_more old (declared_slots ds) (slot_of d ∷ []) ∙ ap (λ ss. old ++ types_of ss) (sym (map-append slot_of ds (d ∷ [])))

pub params_more : (old : List Ty) (ps : List (List ℕ × Ty)) (p : List ℕ × Ty) → (old ++ types_of (param_slots ps)) ++ p.1 ∷ [] ≡ old ++ types_of (param_slots (ps ++ p ∷ []))
params_more old ps p = two_more old (param_slots ps) (slot p.1 ∷ []) ∙ ap (λ ss. old ++ types_of ss) (sym (map-append (λ (q : List ℕ × Ty). slot q.1) ps (p ∷ [])))

one_flat : {X : Type 0} (f : X → List Slot) (x : X) → flat_map f (x ∷ []) ≡ f x
one_flat f x = append-nil (f x)

flat_more : {X : Type 0} (f : X → List Slot) (old : List Ty) (xs : List X) (x : X) → (old ++ types_of (flat_map f xs)) ++ types_of (f x) ≡ old ++ types_of (flat_map f (xs ++ x ∷ []))
flat_more f old xs x =
    two_more old (flat_map f xs) (f x) ∙ ap (λ ss. old ++ types_of ss) (sym (flat_map-append f xs (x ∷ []) ∙ ap (λ ss. flat_map f xs ++ ss) (one_flat f x)))

pub statements_more : (old : List Ty) (xs : List Stmt) (x : Stmt) → (old ++ types_of (flat_map variables xs)) ++ types_of (variables x) ≡ old ++ types_of (flat_map variables (xs ++ x ∷ []))
statements_more old xs x = flat_more variables old xs x

-- ---- by constructor

joined_map : {X : Type 0} (f : X → List Slot) (xs : List X) → joined (map f xs) ≡ flat_map f xs
joined_map f [] = refl
joined_map f (x ∷ xs) = ap (λ ys. f x ++ ys) (joined_map f xs)

body_variables : (body : List Stmt) → joined (map (λ s. stmt_of declaring s) body) ≡ flat_map variables body
unfolding variables
body_variables body = joined_map (λ s. stmt_of declaring s) body

arms_variables : (arms : List Arm) → joined (map (λ x. branch_of declaring x) arms) ≡ flat_map variables_of_arm arms
unfolding variables_of_arm
arms_variables arms = joined_map (λ x. branch_of declaring x) arms

arm_variables : (x : Arm) → variables_of_arm x ≡ flat_map variables x.body
unfolding variables_of_arm
arm_variables x = body_variables x.body

pub arms_more : (old : List Ty) (xs : List Arm) (x : Arm) →
    (old ++ types_of (flat_map variables_of_arm xs)) ++ types_of (flat_map variables x.body) ≡ old ++ types_of (flat_map variables_of_arm (xs ++ x ∷ []))
arms_more old xs x = ap (λ ss. (old ++ types_of (flat_map variables_of_arm xs)) ++ types_of ss) (sym (arm_variables x)) ∙ flat_more variables_of_arm old xs x

-- what stands behind an ELSE
unfoldable pub else_types : Option (List Stmt) → List Ty
else_types None = []
else_types (Some body) = types_of (flat_map variables body)

pub no_else : else_types None ≡ []
unfolding else_types
no_else = refl

pub else_is : (body : List Stmt) → else_types (Some body) ≡ types_of (flat_map variables body)
unfolding else_types
else_is body = refl

pub block_types : (label : Option (List ℕ)) (decls : List Decl) (body : List Stmt) (closing : Option (List ℕ)) →
    types_of (variables (stmt.Block label decls body closing)) ≡ types_of (declared_slots decls) ++ types_of (flat_map variables body)
unfolding variables
block_types label decls body closing =
    ap (λ ss. types_of ss) (of_block declaring label decls body closing ∙ ap (λ ss. declared_slots decls ++ ss) (body_variables body))
    ∙ types_of_both (declared_slots decls) (flat_map variables body)

pub loop_types : (label : Option (List ℕ)) (kind : LoopKind) (body : List Stmt) (closing : Option (List ℕ)) →
    types_of (variables (stmt.Loop label kind body closing)) ≡ types_of (of_kind kind) ++ types_of (flat_map variables body)
unfolding variables
loop_types label kind body closing =
    ap (λ ss. types_of ss) (of_loop declaring label kind body closing ∙ ap (λ ss. of_kind kind ++ ss) (body_variables body))
    ∙ types_of_both (of_kind kind) (flat_map variables body)

pub if_types : (arms : List Arm) (other : Option (List Stmt)) → types_of (variables (stmt.If arms other)) ≡ types_of (flat_map variables_of_arm arms) ++ else_types other
unfolding variables else_types
if_types arms None =
    ap (λ ss. types_of ss) (of_if declaring arms None ∙ ap (λ ss. ss ++ []) (arms_variables arms))
    ∙ types_of_both (flat_map variables_of_arm arms) []
if_types arms (Some body) =
    ap (λ ss. types_of ss) (of_if declaring arms (Some body) ∙ (λ i. arms_variables arms i ++ body_variables body i))
    ∙ types_of_both (flat_map variables_of_arm arms) (flat_map variables body)

pub cases_types : (arms : List Arm) (other : Option (List Stmt)) → types_of (variables (stmt.Cases arms other)) ≡ types_of (flat_map variables_of_arm arms) ++ else_types other
unfolding variables else_types
cases_types arms None =
    ap (λ ss. types_of ss) (of_cases declaring arms None ∙ ap (λ ss. ss ++ []) (arms_variables arms))
    ∙ types_of_both (flat_map variables_of_arm arms) []
cases_types arms (Some body) =
    ap (λ ss. types_of ss) (of_cases declaring arms (Some body) ∙ (λ i. arms_variables arms i ++ body_variables body i))
    ∙ types_of_both (flat_map variables_of_arm arms) (flat_map variables body)

pub assign_types : (name : List ℕ) (slot : Option ℕ) (e : Expr) → types_of (variables (stmt.Assign name slot e)) ≡ []
unfolding variables
assign_types name slot e = refl

pub exit_types : (label : Option (List ℕ)) (when : Option Expr) → types_of (variables (stmt.Exit label when)) ≡ []
unfolding variables
exit_types label when = refl

pub continue_types : (label : Option (List ℕ)) (when : Option Expr) → types_of (variables (stmt.Continue label when)) ≡ []
unfolding variables
continue_types label when = refl

pub return_types : (e : Expr) → types_of (variables (stmt.Return e)) ≡ []
unfolding variables
return_types e = refl

pub raise_types : (raised : Raised) → types_of (variables (stmt.Raise raised)) ≡ []
unfolding variables
raise_types raised = refl

pub into_types : (strict : Bool) (targets : List (List ℕ × Option ℕ)) (query : Select) → types_of (variables (stmt.Into strict targets query)) ≡ []
unfolding variables
into_types strict targets query = refl

pub nothing_types : types_of (variables stmt.Nothing) ≡ []
unfolding variables
nothing_types = refl

pub both_types : (xs ys : List Slot) → types_of xs ++ types_of ys ≡ types_of (xs ++ ys)
both_types xs ys = sym (types_of_both xs ys)

pub ruleset type_rules =
    (block_types, loop_types, if_types, cases_types, no_else, else_is, assign_types, exit_types, continue_types, return_types, raise_types, into_types, nothing_types, statements_more, arms_more, declared_more, params_more, both_types, append-nil, append_assoc)
