-- A tree with other names nests as deep.
use Rattle.std.proofs.Common.{◌≡◌, refl, sym, ap, ◌∙◌, ℕ, Bool, false, List, [], ◌∷◌}
use Rattle.away_trees.specs.declared.queries.Expr.{Expr}
use Rattle.away_grammar.specs.declared.grammar.Level.TheVariants as l
use Rattle.away_grammar.specs.Terminals.{Terminal}
use Rattle.away_grammar.specs.Printing.{printed}
use Rattle.away_trees.specs.Algebra.{expr_of}
use Rattle.away_names.specs.Lookups.{Name}
use Rattle.moved_names.specs.Renaming.{renaming}
use Rattle.moved_names.specs.Renamed.{renamed_expr}
use Rattle.expanded_sizes.specs.Depths.{begins, counted, depth, expr_depth, is_begin, role}
use Rattle.expanded_sizes.specs.declared.depths.Role.{Role}
use Rattle.function_printer.specs.Closed.{closed}
use Rattle.expanded_sizes.proofs.ClosedSame.{closed_same}
use Rattle.expanded_sizes.proofs.SameRoles.{Same, roles, placed_at, expr_same}

-- the depth by the roles alone
begins_by : List Role → Bool
begins_by [] = false
begins_by (r ∷ rs) = is_begin r

depth_by : List Role → ℕ
depth_by [] = 0
depth_by (r ∷ rs) = counted (begins_by rs) r (depth_by rs)

begins_is : (xs : List Terminal) → begins xs ≡ begins_by (roles xs)
unfolding begins_by
begins_is [] = refl
begins_is (x ∷ xs) = refl

depth_is : (xs : List Terminal) → depth xs ≡ depth_by (roles xs)
unfolding depth_by
depth_is [] = refl
depth_is (x ∷ xs) = λ i. counted (begins_is xs i) (role x) (depth_is xs i)

pub same_depth : (xs ys : List Terminal) → Same xs ys → depth xs ≡ depth ys
same_depth xs ys h = depth_is xs ∙ (ap (λ rs. depth_by rs) h.is ∙ sym (depth_is ys))

pub renamed_depth : (to : Name → Name) (e : Expr) → expr_depth (renamed_expr to e) ≡ expr_depth e
unfolding renamed_expr
renamed_depth to e = same_depth _ _ (placed_at l.Or (printed (expr_of (renaming to) e)) (printed e) (expr_same to e))

pub closed_depth : (to : Name → Name) (e : Expr) → depth (closed (renamed_expr to e)) ≡ depth (closed e)
unfolding renamed_expr
closed_depth to e = same_depth _ _ (closed_same to e)
