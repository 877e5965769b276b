-- How much a statement has, by its nodes.
use Rattle.std.proofs.Common.{◌≡◌, ℕ, Bool, true, false, ◌+◌, ◌*◌, ◌<◌, ◌≤◌, ◌^◌, List, [], ◌∷◌, length, sum, Option, Some, None, refl, sym, arith}
use Rattle.std.proofs.lemmas.List.Sums.{sum_by-cons}
use Rattle.away_trees.specs.declared.statements.Decl.{Decl}
use Rattle.away_trees.specs.declared.statements.Function.{Function}
use Rattle.away_trees.specs.declared.statements.LoopKind.{LoopKind}
use Rattle.away_trees.specs.declared.statements.LoopKind.TheVariants as kind
use Rattle.away_trees.specs.declared.statements.Stmt.{Stmt}
use Rattle.away_trees.specs.declared.statements.Stmt.TheBlock as b
use Rattle.away_trees.specs.StatementAlgebra.{stmt_of, stmts_of, branches_of}
use Rattle.away_trees.specs.Count.{counting, nodes_of, nodes}
use Rattle.block_forms.specs.declared.places.Position.{Position}
use Rattle.block_forms.specs.Laid.{laying, laid, after, place, a_node, with_expr, nothing, one_if, decl_size, decls_size, kind_size, row_size, arms_size, into_size}
use Rattle.select_into.specs.Entries.{Target}
use Rattle.block_forms.specs.Lowered.{numbers_of, body_place}
use Rattle.goto_check.specs.Room.{Small, Room}

sum-cons : (x : ℕ) (xs : List ℕ) → sum (x ∷ xs) ≡ x + sum xs
sum-cons x xs = sum_by-cons (λ n. n) x xs

-- so many nodes, and in each at most three expressions, a variable, a FOR and a target
pub record Fits (p : Position) (k : ℕ) : Type 0 where
  pub node : p.node ≡ k
  pub expr : p.expr ≤ 3 * k
  pub slot : p.slot ≤ k
  pub fors : p.fors ≤ k
  pub targets : p.targets ≤ k

fits_after : (p q : Position) (k l : ℕ) → Fits p k → Fits q l → Fits (after p q) (k + l)
fits_after p q k l f h = record { node = omega (arith, f.node, h.node); expr = omega (arith, f.expr, h.expr); slot = omega (arith, f.slot, h.slot); fors = omega (arith, f.fors, h.fors); targets = omega (arith, f.targets, h.targets) }

fits_place : (n e s f t k : ℕ) → n ≡ k → e ≤ 3 * k → s ≤ k → f ≤ k → t ≤ k → Fits (place n e s f t) k
fits_place n e s f t k a b c d h = record { node = a; expr = b; slot = c; fors = d; targets = h }

fits_none : Fits nothing 0
fits_none = fits_place 0 0 0 0 0 0 refl (omega arith) (omega arith) (omega arith) (omega arith)

fits_node : Fits a_node 1
fits_node = fits_place 1 0 0 0 0 1 refl (omega arith) (omega arith) (omega arith) (omega arith)

fits_expr : Fits with_expr 1
fits_expr = fits_place 1 1 0 0 0 1 refl (omega arith) (omega arith) (omega arith) (omega arith)

fits_if : {X : Type 0} (o : Option X) → Fits (place 1 (one_if o) 0 0 0) 1
fits_if None = fits_place 1 0 0 0 0 1 refl (omega arith) (omega arith) (omega arith) (omega arith)
fits_if (Some x) = fits_place 1 1 0 0 0 1 refl (omega arith) (omega arith) (omega arith) (omega arith)

fits_decl : (d : Decl) → Fits (decl_size d) 1
fits_decl d = by d.default
  where
    by : {X : Type 0} (o : Option X) → Fits (place 1 (one_if o) 1 0 0) 1
    by None = fits_place 1 0 1 0 0 1 refl (omega arith) (omega arith) (omega arith) (omega arith)
    by (Some x) = fits_place 1 1 1 0 0 1 refl (omega arith) (omega arith) (omega arith) (omega arith)

resized : (p : Position) (k l : ℕ) → k ≡ l → Fits p k → Fits p l
resized p k l e f = record { node = omega (arith, e, f.node); expr = omega (arith, e, f.expr); slot = omega (arith, e, f.slot); fors = omega (arith, e, f.fors); targets = omega (arith, e, f.targets) }

fits_decls : (ds : List Decl) → Fits (decls_size ds) (length ds)
fits_decls [] = fits_none
fits_decls (d ∷ ds) = resized _ (1 + length ds) _ (omega arith) (fits_after (decl_size d) (decls_size ds) 1 (length ds) (fits_decl d) (fits_decls ds))

fits_kind : (k : LoopKind) → Fits (kind_size k) 1
fits_kind kind.Plain = fits_node
fits_kind (kind.While e) = fits_expr
fits_kind (kind.Count var reverse first last None) = fits_place 1 2 1 1 0 1 refl (omega arith) (omega arith) (omega arith) (omega arith)
fits_kind (kind.Count var reverse first last (Some e)) = fits_place 1 3 1 1 0 1 refl (omega arith) (omega arith) (omega arith) (omega arith)

fits_into : (strict : Bool) (ts : List Target) → Fits (into_size strict ts) (1 + length ts)
fits_into false ts = fits_place (1 + length ts) (0 + length ts) 0 0 (length ts) (1 + length ts) refl (omega arith) (omega arith) (omega arith) (omega arith)
fits_into true ts = fits_place (1 + length ts) (2 + length ts) 0 0 (length ts) (1 + length ts) refl (omega arith) (omega arith) (omega arith) (omega arith)

mutual
  fits : (x : Stmt) → Fits (stmt_of laying x).size (stmt_of counting x)
  fits (b.Block' label decls m body closing) = fits_after (after a_node (decls_size decls)) (row_size (stmts_of laying body)) (1 + length decls) (sum (stmts_of counting body)) (fits_after a_node (decls_size decls) 1 (length decls) fits_node (fits_decls decls)) (fits_row body)
  fits (b.Assign name slot e) = fits_expr
  fits (b.If' m arms b.None') = fits_after (after a_node (arms_size (branches_of laying arms))) nothing (1 + sum (branches_of counting arms)) 0 (fits_after a_node (arms_size (branches_of laying arms)) 1 (sum (branches_of counting arms)) fits_node (fits_arms arms)) fits_none
  fits (b.If' m arms (b.Some' k body)) = fits_after (after a_node (arms_size (branches_of laying arms))) (after a_node (row_size (stmts_of laying body))) (1 + sum (branches_of counting arms)) (1 + sum (stmts_of counting body)) (fits_after a_node (arms_size (branches_of laying arms)) 1 (sum (branches_of counting arms)) fits_node (fits_arms arms)) (fits_after a_node (row_size (stmts_of laying body)) 1 (sum (stmts_of counting body)) fits_node (fits_row body))
  fits (b.Cases' m arms b.None') = fits_after (after a_node (arms_size (branches_of laying arms))) nothing (1 + sum (branches_of counting arms)) 0 (fits_after a_node (arms_size (branches_of laying arms)) 1 (sum (branches_of counting arms)) fits_node (fits_arms arms)) fits_none
  fits (b.Cases' m arms (b.Some' k body)) = fits_after (after a_node (arms_size (branches_of laying arms))) (after a_node (row_size (stmts_of laying body))) (1 + sum (branches_of counting arms)) (1 + sum (stmts_of counting body)) (fits_after a_node (arms_size (branches_of laying arms)) 1 (sum (branches_of counting arms)) fits_node (fits_arms arms)) (fits_after a_node (row_size (stmts_of laying body)) 1 (sum (stmts_of counting body)) fits_node (fits_row body))
  fits (b.Loop' label k m body closing) = fits_after (kind_size k) (row_size (stmts_of laying body)) 1 (sum (stmts_of counting body)) (fits_kind k) (fits_row body)
  fits (b.Exit label when) = fits_if when
  fits (b.Continue label when) = fits_if when
  fits (b.Return e) = fits_expr
  fits (b.Raise r) = fits_node
  fits (b.Into strict targets query) = fits_into strict targets
  fits b.Nothing = fits_node

  fits_row : {m : _} → (r : b.Row_of-Stmt m) → Fits (row_size (stmts_of laying r)) (sum (stmts_of counting r))
  fits_row b.end_of-Stmt = fits_none
  fits_row (b.more_of-Stmt x rest) = resized _ (stmt_of counting x + sum (stmts_of counting rest)) _ (sym (sum-cons (stmt_of counting x) (stmts_of counting rest))) (fits_after (stmt_of laying x).size (row_size (stmts_of laying rest)) (stmt_of counting x) (sum (stmts_of counting rest)) (fits x) (fits_row rest))

  fits_arms : {m : _} → (r : b.Row_of-Arm m) → Fits (arms_size (branches_of laying r)) (sum (branches_of counting r))
  fits_arms b.end_of-Arm = fits_none
  fits_arms (b.more_of-Arm test m body rest) = resized _ (1 + sum (stmts_of counting body) + sum (branches_of counting rest)) _ (sym (sum-cons (1 + sum (stmts_of counting body)) (branches_of counting rest))) (fits_after (after with_expr (row_size (stmts_of laying body))) (arms_size (branches_of laying rest)) (1 + sum (stmts_of counting body)) (sum (branches_of counting rest)) (fits_after with_expr (row_size (stmts_of laying body)) 1 (sum (stmts_of counting body)) fits_expr (fits_row body)) (fits_arms rest))

body_fits : (x : Stmt) → Fits (laid x).size (nodes_of x)
unfolding laid nodes_of
body_fits x = fits x

pub nodes_are : (f : Function) → nodes f ≡ length f.params + (laid f.body).size.node
unfolding nodes
nodes_are f = let r = (body_fits f.body).node in omega (arith, r)

-- with so few nodes all numbers are machine words
pub whole_room : (f : Function) (many : ℕ) → many ≡ length f.params + (laid f.body).size.node → 4 * many < 2 ^ 63 → Room (numbers_of f) (after (body_place f) (laid f.body).size)
whole_room f many e few =
    let r = body_fits f.body in record {
      fixed = omega (arith, e, few, r.node, r.expr);
      node = omega (arith, e, few);
      expr = omega (arith, e, few, r.node, r.expr);
      slot = omega (arith, e, few, r.node, r.slot);
      fors = omega (arith, e, few, r.node, r.slot, r.fors);
      targets = omega (arith, e, few, r.node, r.slot, r.fors, r.targets);
    }

pub body_small : (f : Function) (many : ℕ) → many ≡ length f.params + (laid f.body).size.node → 4 * many < 2 ^ 63 → Small (laid f.body).size
body_small f many e few =
    let r = body_fits f.body in record {
      node = omega (arith, e, few);
      expr = omega (arith, e, few, r.node, r.expr);
      slot = omega (arith, e, few, r.node, r.slot);
      fors = omega (arith, e, few, r.node, r.fors);
      targets = omega (arith, e, few, r.node, r.targets);
    }
