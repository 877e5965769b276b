-- The layout of a statement, by its parts, tells the slots that it takes.
use Rattle.std.proofs.Common.{◌≡◌, refl, sym, ap, ◌∙◌, ℕ, ◌+◌, ◌<◌, zero, suc, Bool, List, [], ◌∷◌, length, sum, sum_by, slice_index_or, take, drop, ◌-◌, Option, Some, None, arith}
use Rattle.std.proofs.lemmas.List.{take_all}
use Rattle.std.proofs.lemmas.List.Sums.{sum_by-cons}
use Rattle.away_trees.specs.declared.queries.Expr.{Expr}
use Rattle.away_trees.specs.declared.queries.Select.{Select}
use Rattle.away_trees.specs.declared.statements.Arm.{Arm}
use Rattle.away_trees.specs.declared.statements.Decl.{Decl}
use Rattle.away_trees.specs.declared.statements.LoopKind.{LoopKind}
use Rattle.away_trees.specs.declared.statements.Raised.{Raised}
use Rattle.away_trees.specs.declared.statements.Stmt.{Stmt}
use Rattle.away_trees.specs.declared.statements.Stmt.TheBlock as b
use Rattle.away_trees.specs.declared.statements.Stmt.TheVariants as stmt
use Rattle.away_trees.specs.StatementAlgebra.{stmt_of, stmts_of, branches_of, else_of}
use Rattle.away_trees.proofs.StatementEquations.{of_block, of_loop, of_if, of_cases}
use Rattle.plsql_meaning.specs.Slots.{else_slots, slot_counting, slots_of}
use Rattle.plsql_meaning.specs.Statements.{kind_vars}
use Rattle.plsql_run.specs.declared.layout.Layout.{Layout}
use Rattle.plsql_run.specs.declared.layout.Layout.TheViews.{out-Layout, out-roll-Layout}
use Rattle.plsql_run.specs.Layouts.{arm_layout, arm_layouts, laid, laying, layout_of, layouts_of, layouts_of_else, or_none, slots}

pub slots_laid : (own : ℕ) (inside other : List Layout) → slots (laid own inside other) ≡ own + (sum_by slots inside + sum_by slots other)
slots_laid own inside other = ap (λ r. r.slots) (out-roll-Layout _)

pub inside_laid : (own : ℕ) (inside other : List Layout) → (out-Layout (laid own inside other)).inside ≡ inside
inside_laid own inside other = ap (λ r. r.inside) (out-roll-Layout _)

pub other_laid : (own : ℕ) (inside other : List Layout) → (out-Layout (laid own inside other)).other ≡ other
other_laid own inside other = ap (λ r. r.other) (out-roll-Layout _)

-- ---- by the parts

pub block_layout : (label : Option (List ℕ)) (decls : List Decl) (body : List Stmt) (closing : Option (List ℕ)) → layout_of (stmt.Block label decls body closing) ≡ laid (length decls) (layouts_of body) []
unfolding layout_of
block_layout label decls body closing = of_block laying label decls body closing

pub loop_layout : (label : Option (List ℕ)) (k : LoopKind) (body : List Stmt) (closing : Option (List ℕ)) → layout_of (stmt.Loop label k body closing) ≡ laid (kind_vars k) (layouts_of body) []
unfolding layout_of
loop_layout label k body closing = of_loop laying label k body closing

pub if_layout : (arms : List Arm) (other : Option (List Stmt)) → layout_of (stmt.If arms other) ≡ laid 0 (arm_layouts arms) (layouts_of_else other)
unfolding layout_of arm_layout
if_layout arms None = of_if laying arms None
if_layout arms (Some body) = of_if laying arms (Some body)

pub cases_layout : (arms : List Arm) (other : Option (List Stmt)) → layout_of (stmt.Cases arms other) ≡ laid 0 (arm_layouts arms) (layouts_of_else other)
unfolding layout_of arm_layout
cases_layout arms None = of_cases laying arms None
cases_layout arms (Some body) = of_cases laying arms (Some body)

pub assign_layout : (name : List ℕ) (slot : Option ℕ) (e : Expr) → layout_of (stmt.Assign name slot e) ≡ laid 0 [] []
unfolding layout_of
assign_layout name slot e = refl

pub exit_layout : (label : Option (List ℕ)) (when : Option Expr) → layout_of (stmt.Exit label when) ≡ laid 0 [] []
unfolding layout_of
exit_layout label when = refl

pub continue_layout : (label : Option (List ℕ)) (when : Option Expr) → layout_of (stmt.Continue label when) ≡ laid 0 [] []
unfolding layout_of
continue_layout label when = refl

pub return_layout : (e : Expr) → layout_of (stmt.Return e) ≡ laid 0 [] []
unfolding layout_of
return_layout e = refl

pub raise_layout : (raised : Raised) → layout_of (stmt.Raise raised) ≡ laid 0 [] []
unfolding layout_of
raise_layout raised = refl

pub into_layout : (strict : Bool) (targets : List (List ℕ × Option ℕ)) (query : Select) → layout_of (stmt.Into strict targets query) ≡ laid 0 [] []
unfolding layout_of
into_layout strict targets query = refl

pub nothing_layout : layout_of stmt.Nothing ≡ laid 0 [] []
unfolding layout_of
nothing_layout = refl

pub arm_layout_is : (x : Arm) → arm_layout x ≡ laid 0 (layouts_of x.body) []
unfolding layout_of arm_layout
arm_layout_is x = refl

pub ruleset layout_rules = (block_layout, loop_layout, if_layout, cases_layout, assign_layout, exit_layout, continue_layout, return_layout, raise_layout, into_layout, nothing_layout, arm_layout_is)

-- ---- the slots

sum_cons : (x : ℕ) (xs : List ℕ) → sum (x ∷ xs) ≡ x + sum xs
sum_cons x xs = sum_by-cons (λ k. k) x xs

plus_zero : (k : ℕ) → k + 0 ≡ k
plus_zero k = omega arith

zero_plus : (k : ℕ) → 0 + k ≡ k
zero_plus k = omega arith

mutual
  statement_lays : (s : Stmt) → slots (stmt_of laying s) ≡ stmt_of slot_counting s
  statement_lays (b.Block' label decls s body closing) = slots_laid (length decls) (stmts_of laying body) [] ∙ ap (λ k. length decls + k) (plus_zero (sum_by slots (stmts_of laying body)) ∙ row_lays body)
  statement_lays (b.Assign name slot e) = slots_laid 0 [] []
  statement_lays (b.If' s arms other) = slots_laid 0 (branches_of laying arms) (or_none (else_of laying other)) ∙ zero_plus (sum_by slots (branches_of laying arms) + sum_by slots (or_none (else_of laying other))) ∙ (λ i. arms_lay arms i + else_lays other i)
  statement_lays (b.Cases' s arms other) = slots_laid 0 (branches_of laying arms) (or_none (else_of laying other)) ∙ zero_plus (sum_by slots (branches_of laying arms) + sum_by slots (or_none (else_of laying other))) ∙ (λ i. arms_lay arms i + else_lays other i)
  statement_lays (b.Loop' label k s body closing) = slots_laid (kind_vars k) (stmts_of laying body) [] ∙ ap (λ n. kind_vars k + n) (plus_zero (sum_by slots (stmts_of laying body)) ∙ row_lays body)
  statement_lays (b.Exit label when) = slots_laid 0 [] []
  statement_lays (b.Continue label when) = slots_laid 0 [] []
  statement_lays (b.Return e) = slots_laid 0 [] []
  statement_lays (b.Raise raised) = slots_laid 0 [] []
  statement_lays (b.Into strict targets query) = slots_laid 0 [] []
  statement_lays b.Nothing = slots_laid 0 [] []

  row_lays : {m : _} → (r : b.Row_of-Stmt m) → sum_by slots (stmts_of laying r) ≡ sum (stmts_of slot_counting r)
  row_lays b.end_of-Stmt = refl
  row_lays (b.more_of-Stmt s rest) = sum_by-cons slots (stmt_of laying s) (stmts_of laying rest) ∙ (λ i. statement_lays s i + row_lays rest i) ∙ sym (sum_cons (stmt_of slot_counting s) (stmts_of slot_counting rest))

  arms_lay : {m : _} → (r : b.Row_of-Arm m) → sum_by slots (branches_of laying r) ≡ sum (branches_of slot_counting r)
  arms_lay b.end_of-Arm = refl
  arms_lay (b.more_of-Arm test s body rest) =
      sum_by-cons slots (laid 0 (stmts_of laying body) []) (branches_of laying rest)
      ∙ (λ i. (slots_laid 0 (stmts_of laying body) [] ∙ zero_plus (sum_by slots (stmts_of laying body) + 0) ∙ plus_zero (sum_by slots (stmts_of laying body)) ∙ row_lays body) i + arms_lay rest i)
      ∙ sym (sum_cons (sum (stmts_of slot_counting body)) (branches_of slot_counting rest))

  else_lays : (r : b.Held-Stmt-If-1) → sum_by slots (or_none (else_of laying r)) ≡ else_slots (else_of slot_counting r)
  else_lays b.None' = refl
  else_lays (b.Some' s body) = row_lays body

pub slots_are : (s : Stmt) → slots (layout_of s) ≡ slots_of s
unfolding layout_of slots_of
slots_are s = statement_lays s

pub list_slots_are : (ss : List Stmt) → sum_by slots (layouts_of ss) ≡ sum_by slots_of ss
list_slots_are [] = refl
list_slots_are (s ∷ ss) = sum_by-cons slots (layout_of s) (layouts_of ss) ∙ (λ i. slots_are s i + list_slots_are ss i) ∙ sym (sum_by-cons slots_of s ss)

-- ---- of one arm among others

pub arm_layout_at : (ls : List Layout) (arms : List Arm) (i : ℕ) (l : Layout) (a : Arm) → ls ≡ arm_layouts arms → l ≡ slice_index_or ls i l → a ≡ slice_index_or arms i a → i < length arms → l ≡ arm_layout a
arm_layout_at ls arms i l a same l_is a_is lt = l_is ∙ ap (λ xs. slice_index_or xs i l) same ∙ at arms i lt ∙ ap arm_layout (sym a_is)
  where
    at : (arms : List Arm) (i : ℕ) → i < length arms → slice_index_or (arm_layouts arms) i l ≡ arm_layout (slice_index_or arms i a)
    at [] i lt = absurd (omega (arith, lt))
    at (x ∷ xs) zero lt = refl
    at (x ∷ xs) (suc i) lt = at xs i (omega (arith, lt))

pub arm_slots_are : (l : Layout) (a : Arm) → l ≡ arm_layout a → slots l ≡ sum_by slots_of a.body
arm_slots_are l a is = ap slots (is ∙ arm_layout_is a) ∙ slots_laid 0 (layouts_of a.body) [] ∙ zero_plus (sum_by slots (layouts_of a.body) + 0) ∙ plus_zero (sum_by slots (layouts_of a.body)) ∙ list_slots_are a.body

-- ---- the parts of what is laid

pub inside_of : (l : Layout) (own : ℕ) (inside other : List Layout) → l ≡ laid own inside other → (out-Layout l).inside ≡ inside
inside_of l own inside other is = ap (λ x. (out-Layout x).inside) is ∙ inside_laid own inside other

pub other_of : (l : Layout) (own : ℕ) (inside other : List Layout) → l ≡ laid own inside other → (out-Layout l).other ≡ other
other_of l own inside other is = ap (λ x. (out-Layout x).other) is ∙ other_laid own inside other

-- ---- of the first statement, and of the others

pub first_laid : (ls : List Layout) (list : List Stmt) (l : Layout) (s : Stmt) (ss : List Stmt) → ls ≡ layouts_of list → list ≡ s ∷ ss → l ≡ slice_index_or ls 0 l → l ≡ layout_of s
first_laid ls list l s ss laid cons is = is ∙ ap (λ xs. slice_index_or xs 0 l) (laid ∙ ap layouts_of cons)

pub rest_laid : (ls : List Layout) (list : List Stmt) (s : Stmt) (ss : List Stmt) → ls ≡ layouts_of list → list ≡ s ∷ ss → take (length ls - 1) (drop 1 ls) ≡ layouts_of ss
rest_laid ls list s ss laid cons = ap (λ xs. take (length xs - 1) (drop 1 xs)) (laid ∙ ap layouts_of cons) ∙ take_all (length (layouts_of (s ∷ ss)) - 1) (layouts_of ss) (omega arith)
