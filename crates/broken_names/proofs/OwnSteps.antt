-- What was found in a part of a statement is the statement's own.
use Rattle.std.proofs.Common.{◌≡◌, ◌<◌, inl, inr, ℕ, ◌+◌, zero, suc, Bool, List, [], ◌∷◌, length, drop, get_or, Option, Some, None, IfSome, sym, ap, ◌∙◌, subst, arith}
use Rattle.std.proofs.Math.Seq.{drop-cons}
use Rattle.away_trees.specs.declared.queries.Expr.{Expr}
use Rattle.away_trees.specs.declared.queries.Select.{Select}
use Rattle.away_trees.specs.declared.statements.Decl.{Decl}
use Rattle.away_trees.specs.declared.statements.LoopKind.{LoopKind}
use Rattle.away_trees.specs.declared.statements.LoopKind.TheVariants as kind
use Rattle.away_trees.specs.declared.statements.Stmt.{Stmt}
use Rattle.away_trees.specs.declared.statements.Stmt.TheVariants as stmt
use Rattle.away_names.specs.declared.rule.Rule.{Rule}
use Rattle.away_names.specs.declared.scope.Variable.{Variable}
use Rattle.away_names.specs.Lookups.{Name, Scope, variable_named}
use Rattle.broken_names.specs.declared.culprit.Culprit.{Culprit}
use Rattle.broken_names.specs.declared.culprit.Culprit.TheVariants as culprit
use Rattle.broken_names.specs.Holds.{Holds, of_expr, of_maybe}
use Rattle.broken_names.specs.StatementCulprits.{seeing, with_decl, broken_by_set, defaults, target, targets, head, statement, IsOwn, first_default, later_default, is_set, first_target, later_target, in_while, in_first, in_last, in_step, in_defaults, in_target, in_value, in_head, in_exit, in_continue, in_return, in_targets, in_query, IsInRange, IsInAssignment, IsInInto}

-- what an option holds, by what it is
pub some_so : {P Q : Culprit → Type 0} → ((c : Culprit) → P c → Q c) → (o : Option Culprit) → IfSome o P → IfSome o Q
some_so f (Some c) h = f c h
some_so f None h = tt

-- ---- targets

pub set_here : {broken : Rule} {s : Scope} {found : Option Rule} (n m : Name) → found ≡ broken_by_set (variable_named n s.variables) → found ≡ Some broken
    → m ≡ n → IsOwn broken s (target n) (culprit.Name m)
set_here {broken = broken} {s = s} n m e h same = subst (λ m. IsOwn broken s (target n) (culprit.Name m)) (sym same) (is_set (sym e ∙ h))

target_in : {broken : Rule} {s : Scope} {c : Culprit} (ts : List (Name × Option ℕ)) (i : ℕ) (d : Name × Option ℕ) → i < length ts
    → IsOwn broken s (target (get_or ts i d).0) c → IsOwn broken s (targets ts) c
target_in [] i d small h = absurd (omega (arith, small))
target_in (t ∷ ts) zero d small h = first_target h
target_in (t ∷ ts) (suc i) d small h = later_target (target_in ts i d (omega (arith, small)) h)

pub target_at : {broken : Rule} {s : Scope} (ts : List (Name × Option ℕ)) (i : ℕ) (d t : Name × Option ℕ) → i < length ts → t ≡ get_or ts i d
    → (c : Culprit) → IsOwn broken s (target t.0) c → IsOwn broken s (targets ts) c
target_at {broken = broken} {s = s} ts i d t small is c h = target_in ts i d small (subst (λ (t : Name × Option ℕ). IsOwn broken s (target t.0) c) is h)

-- ---- defaults

-- what is found in the declarations from here on is found in all
abbrev pub Leads : Rule → Scope → List Decl → List Variable → List Decl → Type 0
Leads broken s decls variables left =
    (c : Culprit) → IsOwn broken (seeing variables s) (defaults left) c → IsOwn broken s (defaults decls) c

pub begun : {broken : Rule} {s : Scope} {decls : List Decl} (variables : List Variable) → variables ≡ s.variables → Leads broken s decls variables decls
begun {broken = broken} {s = s} {decls = decls} variables e = λ c h. subst (λ vs. IsOwn broken (seeing vs s) (defaults decls) c) e h

pub default_here : {broken : Rule} {s : Scope} {decls : List Decl} {variables seen : List Variable} (ds : List Decl) (i : ℕ) (d x : Decl) → i < length ds
    → x ≡ get_or ds i d → seen ≡ variables → Leads broken s decls variables (drop i ds) → (c : Culprit) → Holds broken (seeing seen s) (of_maybe x.default) c
    → IsOwn broken s (defaults decls) c
default_here {broken = broken} {s = s} {variables = variables} ds i d x small is same leads c h =
    let there : Holds broken (seeing variables s) (of_maybe x.default) c = subst (λ vs. Holds broken (seeing vs s) (of_maybe x.default) c) same h in
    leads c (subst (λ l. IsOwn broken (seeing variables s) (defaults l) c) (sym (drop-cons ds i d small))
    (first_default (subst (λ (x : Decl). Holds broken (seeing variables s) (of_maybe x.default) c) is there)))

pub default_passed : {broken : Rule} {s : Scope} {decls : List Decl} {variables : List Variable} (ds : List Decl) (i : ℕ) (d x : Decl) → i < length ds
    → x ≡ get_or ds i d → Leads broken s decls variables (drop i ds) → (more : List Variable) → more ≡ with_decl variables x
    → Leads broken s decls more (drop (i + 1) ds)
default_passed {broken = broken} {s = s} {variables = variables} ds i d x small is leads more e = λ c h.
    let one : i + 1 ≡ suc i = omega arith in
    let seen : more ≡ with_decl variables (get_or ds i d) = e ∙ ap (with_decl variables) is in
    leads c (subst (λ l. IsOwn broken (seeing variables s) (defaults l) c) (sym (drop-cons ds i d small))
    (later_default (subst (λ vs. IsOwn broken (seeing vs s) (defaults (drop (suc i) ds)) c) seen
    (subst (λ n. IsOwn broken (seeing more s) (defaults (drop n ds)) c) one h))))

-- ---- heads

pub while_head : {broken : Rule} {s : Scope} {e : Expr} {k : LoopKind} → k ≡ kind.While e → (c : Culprit) → Holds broken s (of_expr e) c
    → IsOwn broken s (head k) c
while_head {broken = broken} {s = s} is c h = subst (λ k. IsOwn broken s (head k) c) (sym is) (in_while h)

in_range : {broken : Rule} {s : Scope} {var : Name} {reverse : Bool} {first last : Expr} {step : Option Expr} {c : Culprit} → IsInRange broken s first last step c
    → IsOwn broken s (head (kind.Count var reverse first last step)) c
in_range (inl h) = in_first h
in_range (inr (inl h)) = in_last h
in_range (inr (inr h)) = in_step h

pub for_head : {broken : Rule} {s : Scope} {var : Name} {reverse : Bool} {first last : Expr} {step : Option Expr} {k : LoopKind}
    → k ≡ kind.Count var reverse first last step → (c : Culprit) → IsInRange broken s first last step c → IsOwn broken s (head k) c
for_head {broken = broken} {s = s} is c h = subst (λ k. IsOwn broken s (head k) c) (sym is) (in_range h)

-- ---- statements

pub block_own : {broken : Rule} {s : Scope} {label : Option Name} {decls ds : List Decl} (body : List Stmt) {closing : Option Name} {x : Stmt}
    → x ≡ stmt.Block label decls body closing → ds ≡ decls → (c : Culprit) → IsOwn broken s (defaults ds) c → IsOwn broken s (statement x) c
block_own {broken = broken} {s = s} body is same c h =
    subst (λ x. IsOwn broken s (statement x) c) (sym is) (in_defaults body (subst (λ ds. IsOwn broken s (defaults ds) c) same h))

in_assignment : {broken : Rule} {s : Scope} {n : Name} (slot : Option ℕ) {e : Expr} {c : Culprit} → IsInAssignment broken s n e c
    → IsOwn broken s (statement (stmt.Assign n slot e)) c
in_assignment slot (inl h) = in_target h
in_assignment slot (inr h) = in_value h

pub assign_own : {broken : Rule} {s : Scope} {n : Name} {slot : Option ℕ} {e : Expr} {x : Stmt} → x ≡ stmt.Assign n slot e → (c : Culprit)
    → IsInAssignment broken s n e c → IsOwn broken s (statement x) c
assign_own {broken = broken} {s = s} {slot = slot} is c h = subst (λ x. IsOwn broken s (statement x) c) (sym is) (in_assignment slot h)

pub loop_own : {broken : Rule} {s : Scope} {label : Option Name} {how : LoopKind} (body : List Stmt) {closing : Option Name} {x : Stmt}
    → x ≡ stmt.Loop label how body closing → (c : Culprit) → IsOwn broken s (head how) c → IsOwn broken s (statement x) c
loop_own {broken = broken} {s = s} body is c h = subst (λ x. IsOwn broken s (statement x) c) (sym is) (in_head body h)

pub exit_own : {broken : Rule} {s : Scope} {label : Option Name} {when : Option Expr} {x : Stmt} → x ≡ stmt.Exit label when → (c : Culprit)
    → Holds broken s (of_maybe when) c → IsOwn broken s (statement x) c
exit_own {broken = broken} {s = s} is c h = subst (λ x. IsOwn broken s (statement x) c) (sym is) (in_exit h)

pub continue_own : {broken : Rule} {s : Scope} {label : Option Name} {when : Option Expr} {x : Stmt} → x ≡ stmt.Continue label when → (c : Culprit)
    → Holds broken s (of_maybe when) c → IsOwn broken s (statement x) c
continue_own {broken = broken} {s = s} is c h = subst (λ x. IsOwn broken s (statement x) c) (sym is) (in_continue h)

pub return_own : {broken : Rule} {s : Scope} {e : Expr} {x : Stmt} → x ≡ stmt.Return e → (c : Culprit) → Holds broken s (of_expr e) c
    → IsOwn broken s (statement x) c
return_own {broken = broken} {s = s} is c h = subst (λ x. IsOwn broken s (statement x) c) (sym is) (in_return h)

in_into : {broken : Rule} {s : Scope} (strict : Bool) {ts : List (Name × Option ℕ)} {q : Select} {c : Culprit} → IsInInto broken s ts q c
    → IsOwn broken s (statement (stmt.Into strict ts q)) c
in_into strict (inl h) = in_targets h
in_into strict (inr h) = in_query h

pub into_own : {broken : Rule} {s : Scope} {strict : Bool} {ts list : List (Name × Option ℕ)} {q : Select} {x : Stmt} → x ≡ stmt.Into strict ts q → list ≡ ts
    → (c : Culprit) → IsInInto broken s list q c → IsOwn broken s (statement x) c
into_own {broken = broken} {s = s} {strict = strict} {q = q} is same c h =
    subst (λ x. IsOwn broken s (statement x) c) (sym is) (in_into strict (subst (λ ts. IsInInto broken s ts q c) same h))
