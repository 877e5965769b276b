-- The search for a node among statements: what was passed, and the node from there on.
use Rattle.std.proofs.Common.{◌≡◌, ◌<◌, ◌≤◌, ℕ, ◌+◌, ◌-◌, suc, List, ◌∷◌, length, drop, get_or, Option, Some, IfSome, sum_by, sym, ap, ◌∙◌, subst, arith}
use Rattle.std.proofs.Math.Seq.{drop-cons}
use Rattle.away_trees.specs.declared.statements.Arm.{Arm}
use Rattle.away_trees.specs.declared.statements.Decl.{Decl}
use Rattle.away_trees.specs.declared.statements.LoopKind.{LoopKind}
use Rattle.away_trees.specs.declared.statements.Stmt.{Stmt}
use Rattle.away_trees.specs.declared.statements.Stmt.TheVariants as stmt
use Rattle.away_trees.specs.Count.{nodes_of, nodes_of_arm}
use Rattle.away_names.specs.declared.rule.Rule.{Rule}
use Rattle.away_names.specs.Lookups.{Name, Scope}
use Rattle.broken_names.specs.declared.culprit.Culprit.{Culprit}
use Rattle.broken_names.specs.Holds.{Holds, of_expr}
use Rattle.broken_names.specs.StatementCulprits.{statement, IsOwn, of_statement, of_statements, of_arm, of_arms, IsAt, this_statement, in_block, in_loop, in_if, in_cases, in_else_of_if, in_else_of_cases, first_statement, later_statement, this_test, behind_test, first_arm, later_arm, IsInBlock, IsInTurns, IsBehindArms}

-- ---- numbers

-- one step down
down : (k : ℕ) → ¬ (k ≡ 0) → 1 + (k - 1) ≡ k
down k h = omega (arith, h)

-- that many nodes were passed
counted_off : (nodes k : ℕ) → nodes ≤ k → nodes + (k - nodes) ≡ k
counted_off nodes k h = omega (arith, h)

next : (i : ℕ) → i + 1 ≡ suc i
next i = omega arith

-- ---- statements, one behind the other

-- a node of the second number among what is left is that of the first number among all
abbrev pub Leads : Rule → Scope → List Stmt → ℕ → List Stmt → ℕ → Type 0
Leads broken s all node list left = (c : Culprit) → IsAt broken s (of_statements list) left c → IsAt broken s (of_statements all) node c

pub begun : {broken : Rule} {s : Scope} (all : List Stmt) (node : ℕ) → Leads broken s all node all node
begun all node = λ c h. h

pub statement_here : {broken : Rule} {s : Scope} {all : List Stmt} {node left : ℕ} (xs : List Stmt) (i : ℕ) (d x : Stmt) → i < length xs → x ≡ get_or xs i d
    → Leads broken s all node (drop i xs) left → (c : Culprit) → IsAt broken s (of_statement x) left c → IsAt broken s (of_statements all) node c
statement_here {broken = broken} {s = s} {left = left} xs i d x small is leads c h =
    leads c (subst (λ l. IsAt broken s (of_statements l) left c) (sym (drop-cons xs i d small))
    (first_statement (subst (λ x. IsAt broken s (of_statement x) left c) is h)))

pub statement_passed : {broken : Rule} {s : Scope} {all : List Stmt} {node left : ℕ} (xs : List Stmt) (i : ℕ) (d x : Stmt) (nodes : ℕ) → i < length xs
    → x ≡ get_or xs i d → Leads broken s all node (drop i xs) left → nodes ≡ nodes_of x → nodes ≤ left
    → Leads broken s all node (drop (i + 1) xs) (left - nodes)
statement_passed {broken = broken} {s = s} {left = left} xs i d x nodes small is leads count few = λ c h.
    let same : nodes_of (get_or xs i d) + (left - nodes) ≡ left = ap (λ n. n + (left - nodes)) (sym (count ∙ ap nodes_of is)) ∙ counted_off nodes left few in
    leads c (subst (λ l. IsAt broken s (of_statements l) left c) (sym (drop-cons xs i d small))
    (subst (λ n. IsAt broken s (of_statements (get_or xs i d ∷ drop (suc i) xs)) n c) same
    (later_statement (subst (λ n. IsAt broken s (of_statements (drop n xs)) (left - nodes) c) (next i) h))))

-- ---- arms, one behind the other

abbrev pub LeadsArms : Rule → Scope → List Arm → ℕ → List Arm → ℕ → Type 0
LeadsArms broken s all node list left = (c : Culprit) → IsAt broken s (of_arms list) left c → IsAt broken s (of_arms all) node c

pub begun_arms : {broken : Rule} {s : Scope} (all : List Arm) (node : ℕ) → LeadsArms broken s all node all node
begun_arms all node = λ c h. h

pub arm_here : {broken : Rule} {s : Scope} {all : List Arm} {node left : ℕ} (xs : List Arm) (i : ℕ) (d x : Arm) → i < length xs → x ≡ get_or xs i d
    → LeadsArms broken s all node (drop i xs) left → (c : Culprit) → IsAt broken s (of_arm x) left c → IsAt broken s (of_arms all) node c
arm_here {broken = broken} {s = s} {left = left} xs i d x small is leads c h =
    leads c (subst (λ l. IsAt broken s (of_arms l) left c) (sym (drop-cons xs i d small))
    (first_arm (subst (λ x. IsAt broken s (of_arm x) left c) is h)))

pub arm_passed : {broken : Rule} {s : Scope} {all : List Arm} {node left : ℕ} (xs : List Arm) (i : ℕ) (d x : Arm) (nodes : ℕ) → i < length xs
    → x ≡ get_or xs i d → LeadsArms broken s all node (drop i xs) left → nodes ≡ nodes_of_arm x → nodes ≤ left
    → LeadsArms broken s all node (drop (i + 1) xs) (left - nodes)
arm_passed {broken = broken} {s = s} {left = left} xs i d x nodes small is leads count few = λ c h.
    let same : nodes_of_arm (get_or xs i d) + (left - nodes) ≡ left = ap (λ n. n + (left - nodes)) (sym (count ∙ ap nodes_of_arm is)) ∙ counted_off nodes left few in
    leads c (subst (λ l. IsAt broken s (of_arms l) left c) (sym (drop-cons xs i d small))
    (subst (λ n. IsAt broken s (of_arms (get_or xs i d ∷ drop (suc i) xs)) n c) same
    (later_arm (subst (λ n. IsAt broken s (of_arms (drop n xs)) (left - nodes) c) (next i) h))))

-- ---- an arm

pub test_here : {broken : Rule} {s : Scope} {a : Arm} {node : ℕ} → node ≡ 0 → (c : Culprit) → Holds broken s (of_expr a.test) c → IsAt broken s (of_arm a) node c
test_here {broken = broken} {s = s} {a = a} e c h = subst (λ n. IsAt broken s (of_arm a) n c) (sym e) (this_test h)

pub in_arm : {broken : Rule} {s : Scope} {a : Arm} {list : List Stmt} {node : ℕ} → ¬ (node ≡ 0) → list ≡ a.body → (c : Culprit)
    → IsAt broken s (of_statements list) (node - 1) c → IsAt broken s (of_arm a) node c
in_arm {broken = broken} {s = s} {a = a} {node = node} some same c h =
    subst (λ n. IsAt broken s (of_arm a) n c) (down node some)
    (behind_test (subst (λ l. IsAt broken s (of_statements l) (node - 1) c) same h))

-- ---- a statement

pub own_here : {broken : Rule} {s : Scope} {x : Stmt} {node : ℕ} → node ≡ 0 → (c : Culprit) → IsOwn broken s (statement x) c → IsAt broken s (of_statement x) node c
own_here {broken = broken} {s = s} {x = x} e c h = subst (λ n. IsAt broken s (of_statement x) n c) (sym e) (this_statement h)

behind_decls : (node many k : ℕ) → node ≡ many + k → 1 + many + k ≡ 1 + node
behind_decls node many k e = omega (arith, e)

pub block_at : {broken : Rule} {s : Scope} {label : Option Name} {decls ds : List Decl} (body bs : List Stmt) {closing : Option Name} {x : Stmt} {node : ℕ}
    → x ≡ stmt.Block label decls body closing → ds ≡ decls → bs ≡ body → (c : Culprit) → IsInBlock broken s ds bs node c
    → IsAt broken s (of_statement x) (1 + node) c
block_at {broken = broken} {s = s} {label = label} {decls = decls} {ds = ds} body bs {closing = closing} {node = node} is declared same c h =
    let there : IsInBlock broken s decls body node c =
    subst (λ bs. IsInBlock broken s decls bs node c) same (subst (λ ds. IsInBlock broken s ds bs node c) declared h) in
    subst (λ x. IsAt broken s (of_statement x) (1 + node) c) (sym is)
    (subst (λ n. IsAt broken s (of_statement (stmt.Block label decls body closing)) n c) (behind_decls node (length decls) there.0 there.1)
    (in_block body there.2))

pub loop_at : {broken : Rule} {s : Scope} {label : Option Name} {how : LoopKind} (body bs : List Stmt) {closing : Option Name} {x : Stmt} {node : ℕ}
    → x ≡ stmt.Loop label how body closing → bs ≡ body → (c : Culprit) → IsInTurns broken s how bs node c → IsAt broken s (of_statement x) (1 + node) c
loop_at {broken = broken} {s = s} {how = how} body bs {node = node} is same c h =
    subst (λ x. IsAt broken s (of_statement x) (1 + node) c) (sym is) (in_loop body (subst (λ bs. IsInTurns broken s how bs node c) same h))

pub if_at : {broken : Rule} {s : Scope} (arms list : List Arm) (other : Option (List Stmt)) {x : Stmt} {node : ℕ} → x ≡ stmt.If arms other → list ≡ arms
    → (c : Culprit) → IsAt broken s (of_arms list) node c → IsAt broken s (of_statement x) (1 + node) c
if_at {broken = broken} {s = s} arms list other {node = node} is same c h =
    subst (λ x. IsAt broken s (of_statement x) (1 + node) c) (sym is) (in_if arms other (subst (λ l. IsAt broken s (of_arms l) node c) same h))

pub cases_at : {broken : Rule} {s : Scope} (arms list : List Arm) (other : Option (List Stmt)) {x : Stmt} {node : ℕ} → x ≡ stmt.Cases arms other → list ≡ arms
    → (c : Culprit) → IsAt broken s (of_arms list) node c → IsAt broken s (of_statement x) (1 + node) c
cases_at {broken = broken} {s = s} arms list other {node = node} is same c h =
    subst (λ x. IsAt broken s (of_statement x) (1 + node) c) (sym is) (in_cases arms other (subst (λ l. IsAt broken s (of_arms l) node c) same h))

-- ---- behind ELSE

pub behind_here : (nodes node : ℕ) (list : List Arm) → nodes ≡ sum_by nodes_of_arm list → nodes < node → IsBehindArms list node (node - nodes - 1)
behind_here nodes node list count more =
    let e : node ≡ nodes + (1 + (node - nodes - 1)) = omega (arith, more) in e ∙ ap (λ n. n + (1 + (node - nodes - 1))) count

pub behind_at : (node left : ℕ) (list : List Arm) (o : Option ℕ) → IfSome o (IsBehindArms list node) → o ≡ Some left → IsBehindArms list node left
behind_at node left list o h is = subst (λ o. IfSome o (IsBehindArms list node)) is h

-- counted from the statement on
past : (node left : ℕ) (arms list : List Arm) → IsBehindArms list node left → list ≡ arms → 1 + (sum_by nodes_of_arm arms + (1 + left)) ≡ 1 + node
past node left arms list e same = ap (λ n. 1 + n) (sym (e ∙ ap (λ l. sum_by nodes_of_arm l + (1 + left)) same))

pub else_of_if_at : {broken : Rule} {s : Scope} (arms list : List Arm) (other : Option (List Stmt)) (body bs : List Stmt) {x : Stmt} {node left : ℕ}
    → x ≡ stmt.If arms other → other ≡ Some body → bs ≡ body → IsBehindArms list node left → list ≡ arms
    → (c : Culprit) → IsAt broken s (of_statements bs) left c → IsAt broken s (of_statement x) (1 + node) c
else_of_if_at {broken = broken} {s = s} arms list other body bs {node = node} {left = left} is has same behind all c h =
    subst (λ x. IsAt broken s (of_statement x) (1 + node) c) (sym (is ∙ ap (λ o. stmt.If arms o) has))
    (subst (λ n. IsAt broken s (of_statement (stmt.If arms (Some body))) n c) (past node left arms list behind all)
    (in_else_of_if arms body (subst (λ l. IsAt broken s (of_statements l) left c) same h)))

pub else_of_cases_at : {broken : Rule} {s : Scope} (arms list : List Arm) (other : Option (List Stmt)) (body bs : List Stmt) {x : Stmt} {node left : ℕ}
    → x ≡ stmt.Cases arms other → other ≡ Some body → bs ≡ body → IsBehindArms list node left → list ≡ arms
    → (c : Culprit) → IsAt broken s (of_statements bs) left c → IsAt broken s (of_statement x) (1 + node) c
else_of_cases_at {broken = broken} {s = s} arms list other body bs {node = node} {left = left} is has same behind all c h =
    subst (λ x. IsAt broken s (of_statement x) (1 + node) c) (sym (is ∙ ap (λ o. stmt.Cases arms o) has))
    (subst (λ n. IsAt broken s (of_statement (stmt.Cases arms (Some body))) n c) (past node left arms list behind all)
    (in_else_of_cases arms body (subst (λ l. IsAt broken s (of_statements l) left c) same h)))
