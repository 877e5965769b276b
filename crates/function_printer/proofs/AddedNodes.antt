-- What the printer adds for a node, by what it adds for the parts: for the code of `closed.rt` and of `statements.rt`.
use Rattle.std.proofs.Common.{◌≡◌, ◌<◌, ◌+◌, ℕ, suc, zero, sym, ap, subst, ◌∙◌, Bool, true, false, nat_lt, List, [], ◌∷◌, ◌++◌, length, drop, get_or, map, Option, Some, None, option_map, append-nil, arith}
use Rattle.std.proofs.lemmas.Bool.Decides.{nat_tests}
use Rattle.std.proofs.lemmas.List.{drop_more}
use Rattle.away_grammar.specs.declared.grammar.Mark.{Mark}
use Rattle.away_grammar.specs.declared.grammar.Mark.TheVariants as m
use Rattle.away_grammar.specs.declared.grammar.Level.{Level}
use Rattle.away_grammar.specs.declared.grammar.Level.TheVariants as l
use Rattle.away_values.specs.declared.operators.ChainOp.{ChainOp}
use Rattle.away_values.specs.declared.operators.CmpOp.{CmpOp}
use Rattle.away_trees.specs.declared.queries.Expr.{Expr}
use Rattle.away_trees.specs.declared.queries.Expr.TheVariants as e
use Rattle.away_trees.specs.declared.queries.Select.{Select}
use Rattle.away_trees.specs.declared.statements.Arm.{Arm}
use Rattle.away_trees.specs.declared.statements.Decl.{Decl}
use Rattle.away_trees.specs.declared.statements.LoopKind.{LoopKind}
use Rattle.away_trees.specs.declared.statements.Stmt.{Stmt}
use Rattle.away_trees.specs.declared.statements.Stmt.TheVariants as s
use Rattle.away_trees.specs.StatementAlgebra.{branch_of}
use Rattle.away_trees.proofs.StatementEquations.{of_block, of_loop, of_if, of_cases}
use Rattle.away_grammar.specs.Terminals.{Terminal, mark}
use Rattle.away_grammar.specs.Grammar.{operands, perhaps}
use Rattle.away_grammar.specs.FunctionGrammar.{Target}
use Rattle.away_grammar.specs.Printing.{placed, printed, comparison_mark, chain_level, joined}
use Rattle.sql_printer.proofs.PrintExpressions.{perhaps_behind}
use Rattle.function_printer.specs.Closed.{closed, closed_at, closed_chain, link_at}
use Rattle.function_printer.specs.FunctionTerminals as f
use Rattle.function_printer.specs.FunctionTerminals.{in_order, semicolon, printing_statements, statement_terminals, whole}
use Rattle.function_printer.proofs.ClosedNodes as node

-- ---- expressions before LOOP

pub neg_terminals : {x y : Expr} (z : Expr) → z ≡ e.Neg x → y ≡ x → mark m.Minus ∷ closed_at l.Cast y ≡ closed z
neg_terminals {x = x} z p q = ap (λ y. mark m.Minus ∷ closed_at l.Cast y) q ∙ sym (ap closed p ∙ node.of_neg x)

pub neg_small_terminals : {x y : Expr} (z : Expr) → z ≡ e.NegSmall x → y ≡ x → mark m.Minus ∷ closed_at l.Cast y ≡ closed z
neg_small_terminals {x = x} z p q = ap (λ y. mark m.Minus ∷ closed_at l.Cast y) q ∙ sym (ap closed p ∙ node.of_negsmall x)

pub not_terminals : {x y : Expr} (z : Expr) → z ≡ e.Not x → y ≡ x → mark m.Not ∷ closed_at l.Is y ≡ closed z
not_terminals {x = x} z p q = ap (λ y. mark m.Not ∷ closed_at l.Is y) q ∙ sym (ap closed p ∙ node.of_not x)

pub compare_terminals : {o : CmpOp} {x y u v : Expr} (z : Expr) (terminal : Mark) → z ≡ e.Compare o x y → u ≡ x → v ≡ y → terminal ≡ comparison_mark o
    → placed l.Range (printed u) ++ mark terminal ∷ closed_at l.Range v ≡ closed z
compare_terminals {o = o} {x = x} {y = y} {v = v} z terminal p h k j =
    ap (λ u. placed l.Range (printed u) ++ mark terminal ∷ closed_at l.Range v) h
    ∙ ap (λ v. placed l.Range (printed x) ++ mark terminal ∷ closed_at l.Range v) k
    ∙ ap (λ b. placed l.Range (printed x) ++ mark b ∷ closed_at l.Range y) j
    ∙ sym (ap closed p ∙ node.of_compare o x y)

abbrev between : Bool → Expr → Expr → Expr → List Terminal
between n x y w = placed l.Concat (printed x) ++ (perhaps n (mark m.Not) [] ++ mark m.Between ∷ (placed l.Concat (printed y) ++ mark m.And ∷ closed_at l.Concat w))

pub between_terminals : {n : Bool} {x y w u v t : Expr} (z : Expr) → z ≡ e.Between n x y w → u ≡ x → v ≡ y → t ≡ w → between n u v t ≡ closed z
between_terminals {n = n} {x = x} {y = y} {w = w} {v = v} {t = t} z p h k j =
    ap (λ u. between n u v t) h ∙ ap (λ v. between n x v t) k ∙ ap (λ t. between n x y t) j
    ∙ ap (λ b. placed l.Concat (printed x) ++ b) (perhaps_behind n (mark m.Not) [] (mark m.Between ∷ (placed l.Concat (printed y) ++ mark m.And ∷ closed_at l.Concat w)))
    ∙ sym (ap closed p ∙ node.of_between n x y w)

pub chain_terminals : {x u : Expr} {links ls ms : List (ChainOp × Expr)} (z : Expr) (level there : Level) → z ≡ e.Chain x links → u ≡ x → ls ≡ links → ms ≡ links → level ≡ chain_level ls → there ≡ operands level
    → placed there (printed u) ++ closed_chain level ms ≡ closed z
chain_terminals {x = x} {u = u} {links = links} {ms = ms} z level there p q r s h k =
    let is : level ≡ chain_level links = h ∙ ap chain_level r in
    ap (λ b. placed b (printed u) ++ closed_chain level ms) k
    ∙ ap (λ b. placed (operands b) (printed u) ++ closed_chain b ms) is
    ∙ ap (λ b. placed (operands (chain_level links)) (printed b) ++ closed_chain (chain_level links) ms) q
    ∙ ap (λ b. placed (operands (chain_level links)) (printed x) ++ closed_chain (chain_level links) b) s
    ∙ sym (ap closed p ∙ node.of_chain x links)

pub cases_in_parentheses : (arms : List (Expr × Expr)) (other : Option Expr) (z : Expr) → z ≡ e.Cases arms other → mark m.Open ∷ (placed l.Or (printed z) ++ mark m.Close ∷ []) ≡ closed z
cases_in_parentheses arms other z p =
    ap (λ y. mark m.Open ∷ (placed l.Or (printed y) ++ mark m.Close ∷ [])) p ∙ sym (ap closed p ∙ node.of_cases arms other)

-- what prints before LOOP as elsewhere
abbrev pub IsWhole : Expr → Type 0
IsWhole z = placed l.Or (printed z) ≡ closed z

pub whole_as : {z : Expr} (y : Expr) → z ≡ y → IsWhole y → IsWhole z
whole_as y p h = subst IsWhole (sym p) h

-- one more link of a chain, which others follow or which ends it
pub chain_more : (level : Level) (links : List (ChainOp × Expr)) (i : ℕ) (x : ChainOp × Expr) → x ≡ get_or links i x → i < length links
    → closed_chain level (drop i links) ≡ link_at level (nat_lt (i + 1) (length links)) x ++ closed_chain level (drop (i + 1) links)
chain_more level [] i x is lt = absurd (omega arith)
chain_more level (y ∷ []) zero x is lt = ap (λ z. link_at level false z) (sym is) ∙ sym (append-nil (link_at level false x))
chain_more level (y ∷ z ∷ more) zero x is lt =
    let followed : nat_lt (zero + 1) (length (y ∷ z ∷ more)) ≡ true = grind (arith, nat_tests) in
    rw followed (ap (λ w. link_at level true w ++ closed_chain level (z ∷ more)) (sym is))
chain_more level (y ∷ more) (suc i) x is lt =
    let n : suc i + 1 ≡ suc (i + 1) = omega arith in
    let same : nat_lt (suc i + 1) (length (y ∷ more)) ≡ nat_lt (i + 1) (length more) = grind (arith, nat_tests) in
    rw (same, n) (chain_more level more i x is (omega (arith, lt)))

-- ---- lists one behind the other

pub in_order_more : {A : Type 0} (g : A → List Terminal) (xs : List A) (i : ℕ) (x : A) → x ≡ get_or xs i x → i < length xs
    → in_order (map g (drop i xs)) ≡ g x ++ in_order (map g (drop (i + 1) xs))
in_order_more g xs i x is lt = ap (λ ys. in_order (map g ys)) (drop_more xs i x lt ∙ ap (λ y. y ∷ drop (i + 1) xs) (sym is))

-- ---- statements

pub block_terminals : {label : Option (List ℕ)} {ds us : List Decl} {ss vs : List Stmt} {closing : Option (List ℕ)} (z : Stmt) → z ≡ s.Block label ds ss closing → us ≡ ds → vs ≡ ss
    → f.label_of label ++ (f.decls_of us ++ mark m.Begin ∷ (in_order (map (λ x. statement_terminals x) vs) ++ mark m.End ∷ (f.name_of closing ++ semicolon))) ≡ statement_terminals z
block_terminals {label = label} {ds = ds} {ss = ss} {vs = vs} {closing = closing} z p h k =
    ap (λ us. f.label_of label ++ (f.decls_of us ++ mark m.Begin ∷ (in_order (map (λ x. statement_terminals x) vs) ++ mark m.End ∷ (f.name_of closing ++ semicolon)))) h
    ∙ ap (λ vs. f.label_of label ++ (f.decls_of ds ++ mark m.Begin ∷ (in_order (map (λ x. statement_terminals x) vs) ++ mark m.End ∷ (f.name_of closing ++ semicolon)))) k
    ∙ sym (ap statement_terminals p ∙ of_block printing_statements label ds ss closing)

pub loop_terminals : {label : Option (List ℕ)} {how : LoopKind} {ss vs : List Stmt} {closing : Option (List ℕ)} (z : Stmt) → z ≡ s.Loop label how ss closing → vs ≡ ss
    → f.label_of label ++ (f.kind_of how ++ mark m.Loop ∷ (in_order (map (λ x. statement_terminals x) vs) ++ mark m.End ∷ mark m.Loop ∷ (f.name_of closing ++ semicolon))) ≡ statement_terminals z
loop_terminals {label = label} {how = how} {ss = ss} {closing = closing} z p k =
    ap (λ vs. f.label_of label ++ (f.kind_of how ++ mark m.Loop ∷ (in_order (map (λ x. statement_terminals x) vs) ++ mark m.End ∷ mark m.Loop ∷ (f.name_of closing ++ semicolon)))) k
    ∙ sym (ap statement_terminals p ∙ of_loop printing_statements label how ss closing)

abbrev others : Option (List Stmt) → List Terminal
others o = f.else_of (option_map (λ body. map (λ x. statement_terminals x) body) o)

if_terminals : {arms us : List Arm} (other : Option (List Stmt)) (z : Stmt) → z ≡ s.If arms other → us ≡ arms
    → mark m.If ∷ (joined (mark m.Elsif ∷ []) (map (λ a. branch_of printing_statements a) us) ++ (others other ++ mark m.End ∷ mark m.If ∷ semicolon)) ≡ statement_terminals z
if_terminals {arms = arms} other z p h =
    ap (λ us. mark m.If ∷ (joined (mark m.Elsif ∷ []) (map (λ a. branch_of printing_statements a) us) ++ (others other ++ mark m.End ∷ mark m.If ∷ semicolon))) h
    ∙ sym (ap statement_terminals p ∙ of_if printing_statements arms other)

cases_terminals : {arms us : List Arm} (other : Option (List Stmt)) (z : Stmt) → z ≡ s.Cases arms other → us ≡ arms
    → mark m.Case ∷ mark m.When ∷ (joined (mark m.When ∷ []) (map (λ a. branch_of printing_statements a) us) ++ (others other ++ mark m.End ∷ mark m.Case ∷ semicolon)) ≡ statement_terminals z
cases_terminals {arms = arms} other z p h =
    ap (λ us. mark m.Case ∷ mark m.When ∷ (joined (mark m.When ∷ []) (map (λ a. branch_of printing_statements a) us) ++ (others other ++ mark m.End ∷ mark m.Case ∷ semicolon))) h
    ∙ sym (ap statement_terminals p ∙ of_cases printing_statements arms other)

pub into_is : {strict : Bool} {targets us : List Target} {q : Select} (z : Stmt) → z ≡ s.Into strict targets q → us ≡ targets → statement_terminals (s.Into strict us q) ≡ statement_terminals z
into_is {strict = strict} {q = q} z p h = ap (λ us. statement_terminals (s.Into strict us q)) h ∙ sym (ap statement_terminals p)

pub if_alone : {arms us : List Arm} {other : Option (List Stmt)} (z : Stmt) → z ≡ s.If arms other → other ≡ None → us ≡ arms
    → mark m.If ∷ (joined (mark m.Elsif ∷ []) (map (λ a. branch_of printing_statements a) us) ++ mark m.End ∷ mark m.If ∷ semicolon) ≡ statement_terminals z
if_alone {arms = arms} z p n h = if_terminals None z (p ∙ ap (λ o. s.If arms o) n) h

pub if_with_else : {arms us : List Arm} {other : Option (List Stmt)} {body ss : List Stmt} (z : Stmt) → z ≡ s.If arms other → other ≡ Some body → us ≡ arms → ss ≡ body
    → mark m.If ∷ (joined (mark m.Elsif ∷ []) (map (λ a. branch_of printing_statements a) us) ++ mark m.Else ∷ (in_order (map (λ x. statement_terminals x) ss) ++ mark m.End ∷ mark m.If ∷ semicolon)) ≡ statement_terminals z
if_with_else {arms = arms} {us = us} {body = body} z p n h k =
    ap (λ ss. mark m.If ∷ (joined (mark m.Elsif ∷ []) (map (λ a. branch_of printing_statements a) us) ++ mark m.Else ∷ (in_order (map (λ x. statement_terminals x) ss) ++ mark m.End ∷ mark m.If ∷ semicolon))) k
    ∙ if_terminals (Some body) z (p ∙ ap (λ o. s.If arms o) n) h

pub cases_alone : {arms us : List Arm} {other : Option (List Stmt)} (z : Stmt) → z ≡ s.Cases arms other → other ≡ None → us ≡ arms
    → mark m.Case ∷ mark m.When ∷ (joined (mark m.When ∷ []) (map (λ a. branch_of printing_statements a) us) ++ mark m.End ∷ mark m.Case ∷ semicolon) ≡ statement_terminals z
cases_alone {arms = arms} z p n h = cases_terminals None z (p ∙ ap (λ o. s.Cases arms o) n) h

pub cases_with_else : {arms us : List Arm} {other : Option (List Stmt)} {body ss : List Stmt} (z : Stmt) → z ≡ s.Cases arms other → other ≡ Some body → us ≡ arms → ss ≡ body
    → mark m.Case ∷ mark m.When ∷ (joined (mark m.When ∷ []) (map (λ a. branch_of printing_statements a) us) ++ mark m.Else ∷ (in_order (map (λ x. statement_terminals x) ss) ++ mark m.End ∷ mark m.Case ∷ semicolon)) ≡ statement_terminals z
cases_with_else {arms = arms} {us = us} {body = body} z p n h k =
    ap (λ ss. mark m.Case ∷ mark m.When ∷ (joined (mark m.When ∷ []) (map (λ a. branch_of printing_statements a) us) ++ mark m.Else ∷ (in_order (map (λ x. statement_terminals x) ss) ++ mark m.End ∷ mark m.Case ∷ semicolon))) k
    ∙ cases_terminals (Some body) z (p ∙ ap (λ o. s.Cases arms o) n) h

-- ---- arms

pub arm_terminals : {ss : List Stmt} (a : Arm) → ss ≡ a.body → whole a.test ++ mark m.Then ∷ in_order (map (λ x. statement_terminals x) ss) ≡ branch_of printing_statements a
arm_terminals a h = ap (λ ss. whole a.test ++ mark m.Then ∷ in_order (map (λ x. statement_terminals x) ss)) h
