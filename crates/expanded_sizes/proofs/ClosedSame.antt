-- What an expression prints as before LOOP is balanced, and has the same roles with other names.
use Rattle.std.proofs.Common.{◌≡◌, refl, ap, Bool, true, false, if◌then◌else◌, nat_lt, List, [], ◌∷◌, ◌++◌, Option}
use Rattle.away_grammar.specs.declared.grammar.Mark.TheVariants as m
use Rattle.away_grammar.specs.declared.grammar.Level.{Level}
use Rattle.away_grammar.specs.declared.grammar.Level.TheVariants as l
use Rattle.away_values.specs.declared.operators.ChainOp.{ChainOp}
use Rattle.away_values.specs.declared.operators.CmpOp.{CmpOp}
use Rattle.away_trees.specs.declared.queries.Expr.{Expr}
use Rattle.away_trees.specs.declared.queries.Expr.TheVariants as expr
use Rattle.away_trees.specs.declared.queries.Expr.TheBlock as b
use Rattle.away_trees.specs.Algebra.{Algebra, head_or, expr_of, exprs_of, links_of}
use Rattle.away_grammar.specs.Terminals.{Terminal, mark}
use Rattle.away_grammar.specs.Grammar.{operands, perhaps, rank}
use Rattle.away_grammar.specs.Printing.{placed, printed, printing, operator_mark, operator_level, comparison_mark, chain_level}
use Rattle.away_names.specs.Lookups.{Name}
use Rattle.moved_names.specs.Renaming.{renaming}
use Rattle.function_printer.specs.Closed.{closed, closed_at, closed_chain, closed_last, closed_links}
use Rattle.expanded_sizes.specs.Depths.{begins, is_begin}
use Rattle.expanded_sizes.proofs.Balanced as bal
use Rattle.expanded_sizes.proofs.Balanced.{Balanced, joins, more, nothing}
use Rattle.expanded_sizes.proofs.SameRoles as same
use Rattle.expanded_sizes.proofs.SameRoles.{Same, Like, There, both, next, shown, there, placed_at, placed_both, expr_same}

-- ---- balanced

last_by : (c : Bool) (place : Level) (x : Expr) → Balanced (closed x) → Balanced (if c then placed place (printed x) else closed x)
last_by true place x h = bal.placed_balanced place (printed x) (bal.expr_balanced x)
last_by false place x h = h

inner_balanced : {n : _} (place : Level) (x : b.Row_of-Expr n) → Balanced (placed place (head_or printing.no_expr (exprs_of printing x)))
inner_balanced place x = bal.placed_balanced place (head_or printing.no_expr (exprs_of printing x)) (bal.row_head_balanced x)

closed_apart : {n : _} (level : Level) (xs : b.Row_of-Expr-Chain-1-2 n) → begins (closed_links level xs) ≡ false
closed_apart level b.end_of-Expr-Chain-1-2 = refl
closed_apart level (b.more_of-Expr-Chain-1-2 o x b.end_of-Expr-Chain-1-2) = ap (λ r. is_begin r) (bal.operator_stays o)
closed_apart level (b.more_of-Expr-Chain-1-2 o x (b.more_of-Expr-Chain-1-2 p y rest)) = ap (λ r. is_begin r) (bal.operator_stays o)

mutual
  pub closed_balanced : (x : Expr) → Balanced (closed x)
  closed_balanced (b.Neg' _ x) = more refl (last_balanced l.Cast x)
  closed_balanced (b.NegSmall' _ x) = more refl (last_balanced l.Cast x)
  closed_balanced (b.Not' _ x) = more refl (last_balanced l.Is x)
  closed_balanced (b.Chain' _ x _ links) =
      joins (placed (operands (chain_level (links_of printing links))) (head_or printing.no_expr (exprs_of printing x)))
      (inner_balanced (operands (chain_level (links_of printing links))) x) (links_balanced (chain_level (links_of printing links)) links)
      (closed_apart (chain_level (links_of printing links)) links)
  closed_balanced (b.Compare' o _ x _ y) =
      joins (placed l.Range (head_or printing.no_expr (exprs_of printing x))) (inner_balanced l.Range x) (more (bal.comparison_stays o)
      (last_balanced l.Range y))
      (ap (λ r. is_begin r) (bal.comparison_stays o))
  closed_balanced (b.Between' n _ x _ y _ z) =
      joins (placed l.Concat (head_or printing.no_expr (exprs_of printing x))) (inner_balanced l.Concat x)
      (bal.perhaps_balanced n m.Not refl (more refl
      (joins (placed l.Concat (head_or printing.no_expr (exprs_of printing y))) (inner_balanced l.Concat y) (more refl (last_balanced l.Concat z)) refl)))
      (bal.perhaps_apart n m.Not _ refl refl)
  closed_balanced (b.Cases' s arms other) = bal.opens (bal.joins_closing (placed l.Or (printed (b.Cases' s arms other))) (bal.whole_balanced
      (b.Cases' s arms other)) bal.closes refl)
  closed_balanced (b.Int n) = bal.whole_balanced (b.Int n)
  closed_balanced (b.Str t) = bal.whole_balanced (b.Str t)
  closed_balanced (b.Bool v) = bal.whole_balanced (b.Bool v)
  closed_balanced b.Null = bal.whole_balanced b.Null
  closed_balanced (b.Named n) = bal.whole_balanced (b.Named n)
  closed_balanced (b.Dotted n c) = bal.whole_balanced (b.Dotted n c)
  closed_balanced (b.Slot i) = bal.whole_balanced (b.Slot i)
  closed_balanced (b.Column c) = bal.whole_balanced (b.Column c)
  closed_balanced (b.Param i ty) = bal.whole_balanced (b.Param i ty)
  closed_balanced (b.Is' p x test n) = bal.whole_balanced (b.Is' p x test n)
  closed_balanced (b.OneOf' n p x s xs) = bal.whole_balanced (b.OneOf' n p x s xs)
  closed_balanced (b.Cast' p x ty) = bal.whole_balanced (b.Cast' p x ty)
  closed_balanced (b.Call' n s xs) = bal.whole_balanced (b.Call' n s xs)
  closed_balanced b.CountRows = bal.whole_balanced b.CountRows
  closed_balanced (b.Scalar' p q) = bal.whole_balanced (b.Scalar' p q)
  closed_balanced (b.Exists' p q) = bal.whole_balanced (b.Exists' p q)

  last_balanced : {n : _} (place : Level) (x : b.Row_of-Expr n) → Balanced (closed_last place x)
  last_balanced place b.end_of-Expr = nothing
  last_balanced place (b.more_of-Expr x rest) = last_by (nat_lt (rank (printed x).level) (rank place)) place x (closed_balanced x)

  links_balanced : {n : _} (level : Level) (xs : b.Row_of-Expr-Chain-1-2 n) → Balanced (closed_links level xs)
  links_balanced level b.end_of-Expr-Chain-1-2 = nothing
  links_balanced level (b.more_of-Expr-Chain-1-2 o x b.end_of-Expr-Chain-1-2) =
      more (bal.operator_stays o) (last_by (nat_lt (rank (printed x).level) (rank (operands level))) (operands level) x (closed_balanced x))
  links_balanced level (b.more_of-Expr-Chain-1-2 o x (b.more_of-Expr-Chain-1-2 p y rest)) =
      more (bal.operator_stays o) (joins (placed (operands level) (printed x)) (bal.placed_balanced (operands level) (printed x) (bal.expr_balanced x))
      (links_balanced level (b.more_of-Expr-Chain-1-2 p y rest)) (closed_apart level (b.more_of-Expr-Chain-1-2 p y rest)))

-- ---- the same roles

of_neg : (x : Expr) → closed (expr.Neg x) ≡ mark m.Minus ∷ closed_at l.Cast x
unfolding b.hidden-the_row-Expr-0 denote.Hole.Carrier.hidden
of_neg x = refl

of_negsmall : (x : Expr) → closed (expr.NegSmall x) ≡ mark m.Minus ∷ closed_at l.Cast x
unfolding b.hidden-the_row-Expr-0 denote.Hole.Carrier.hidden
of_negsmall x = refl

of_not : (x : Expr) → closed (expr.Not x) ≡ mark m.Not ∷ closed_at l.Is x
unfolding b.hidden-the_row-Expr-0 denote.Hole.Carrier.hidden
of_not x = refl

of_compare : (o : CmpOp) (x y : Expr) → closed (expr.Compare o x y) ≡ placed l.Range (printed x) ++ mark (comparison_mark o) ∷ closed_at l.Range y
unfolding b.hidden-the_row-Expr-0 denote.Hole.Carrier.hidden
of_compare o x y = refl

of_between : (n : Bool) (x low high : Expr) → closed (expr.Between n x low high)
    ≡ placed l.Concat (printed x) ++ perhaps n (mark m.Not) (mark m.Between ∷ (placed l.Concat (printed low) ++ mark m.And ∷ closed_at l.Concat high))
unfolding b.hidden-the_row-Expr-0 denote.Hole.Carrier.hidden
of_between n x low high = refl

of_cases : (arms : List (Expr × Expr)) (other : Option Expr) → closed (expr.Cases arms other)
    ≡ mark m.Open ∷ (placed l.Or (printed (expr.Cases arms other)) ++ mark m.Close ∷ [])
of_cases arms other = refl

chain_links : (level : Level) (xs : List (ChainOp × Expr)) → closed_links level (b.hidden-the_row-Expr-Chain-1-2-1 xs) ≡ closed_chain level xs
unfolding b.hidden-the_row-Expr-Chain-1-2-1 denote.Hole.Carrier.hidden
chain_links level [] = refl
chain_links level (x ∷ []) = refl
chain_links level (x ∷ y ∷ others) = ap (λ ys. mark (operator_mark x.0) ∷ (placed (operands level) (printed x.1) ++ ys)) (chain_links level (y ∷ others))

of_chain : (x : Expr) (xs : List (ChainOp × Expr))
    → closed (expr.Chain x xs) ≡ placed (operands (chain_level xs)) (printed x) ++ closed_chain (chain_level xs) xs
unfolding b.hidden-the_row-Expr-0 b.hidden-the_row-Expr-Chain-1-2-1 denote.Hole.Carrier.hidden
of_chain first [] = refl
of_chain first (x ∷ xs) = ap (λ ys. placed (operands (operator_level x.0)) (printed first) ++ ys) (chain_links (operator_level x.0) (x ∷ xs))

choice : (c d : Bool) (x y u v : List Terminal) → c ≡ d → Same x u → Same y v → Same (if c then x else y) (if d then u else v)
choice true true x y u v e h k = h
choice false false x y u v e h k = k
choice true false x y u v e h k = absurd (cc e)
choice false true x y u v e h k = absurd (cc e)

module _ (to : Name → Name) where
  abbrev R : Algebra
  R = renaming to

  -- at a place that it ends
  ended : (u v : Level) → u ≡ v → (x : Expr) → Same (closed (expr_of R x)) (closed x)
      → Same (closed_at u (expr_of R x)) (if nat_lt (rank (printed x).level) (rank v) then placed v (printed x) else closed x)
  ended u v e x h =
      let like = expr_same to x in
      choice (nat_lt (rank (printed (expr_of R x)).level) (rank u)) (nat_lt (rank (printed x).level) (rank v)) _ _ _ _ (λ i. nat_lt (rank (like.level i))
      (rank (e i)))
      (placed_both u v e (printed (expr_of R x)) (printed x) like) h

  row_level : {n : _} (xs : b.Row_of-Expr-Chain-1-2 n) → chain_level (links_of R xs) ≡ chain_level (links_of printing xs)
  row_level b.end_of-Expr-Chain-1-2 = refl
  row_level (b.more_of-Expr-Chain-1-2 o x rest) = refl

  mutual
    pub closed_same : (x : Expr) → Same (closed (expr_of R x)) (closed x)
    closed_same (b.Neg' p x) = shown (of_neg (head_or expr.Null (exprs_of R x))) (next (mark m.Minus) (last_same l.Cast x (there p x)))
    closed_same (b.NegSmall' p x) = shown (of_negsmall (head_or expr.Null (exprs_of R x))) (next (mark m.Minus) (last_same l.Cast x (there p x)))
    closed_same (b.Not' p x) = shown (of_not (head_or expr.Null (exprs_of R x))) (next (mark m.Not) (last_same l.Is x (there p x)))
    closed_same (b.Chain' p x s links) =
        let y = head_or expr.Null (exprs_of R x) in
        let level = row_level links in
        shown (of_chain y (links_of R links))
        (both (placed (operands (chain_level (links_of R links))) (printed y)) (placed (operands (chain_level (links_of printing links)))
        (head_or printing.no_expr (exprs_of printing x)))
        (placed_both _ _ (ap (λ k. operands k) level) _ _ (same.head_same to x (there p x))) (links_same (chain_level (links_of R links)) (chain_level
        (links_of printing links)) level links))
    closed_same (b.Compare' o p x q y) =
        let u = head_or expr.Null (exprs_of R x) in
        shown (of_compare o u (head_or expr.Null (exprs_of R y)))
        (both (placed l.Range (printed u)) (placed l.Range (head_or printing.no_expr (exprs_of printing x))) (placed_at l.Range _ _ (same.head_same to x
        (there p x)))
        (next (mark (comparison_mark o)) (last_same l.Range y (there q y))))
    closed_same (b.Between' n p x q y s z) =
        let u = head_or expr.Null (exprs_of R x) in
        let v = head_or expr.Null (exprs_of R y) in
        shown (of_between n u v (head_or expr.Null (exprs_of R z)))
        (both (placed l.Concat (printed u)) (placed l.Concat (head_or printing.no_expr (exprs_of printing x))) (placed_at l.Concat _ _
        (same.head_same to x (there p x)))
        (same.perhaps_same n m.Not (next (mark m.Between)
        (both (placed l.Concat (printed v)) (placed l.Concat (head_or printing.no_expr (exprs_of printing y))) (placed_at l.Concat _ _
        (same.head_same to y (there q y)))
        (next (mark m.And) (last_same l.Concat z (there s z)))))))
    closed_same (b.Cases' s arms other) =
        next (mark m.Open) (both (placed l.Or (printed (expr_of R (b.Cases' s arms other)))) (placed l.Or (printed (b.Cases' s arms other)))
        (placed_at l.Or _ _ (expr_same to (b.Cases' s arms other))) same.here)
    closed_same (b.Int n) = placed_at l.Or _ _ (expr_same to (b.Int n))
    closed_same (b.Str t) = placed_at l.Or _ _ (expr_same to (b.Str t))
    closed_same (b.Bool v) = placed_at l.Or _ _ (expr_same to (b.Bool v))
    closed_same b.Null = placed_at l.Or _ _ (expr_same to b.Null)
    closed_same (b.Named n) = placed_at l.Or _ _ (expr_same to (b.Named n))
    closed_same (b.Dotted n c) = placed_at l.Or _ _ (expr_same to (b.Dotted n c))
    closed_same (b.Slot i) = placed_at l.Or _ _ (expr_same to (b.Slot i))
    closed_same (b.Column c) = placed_at l.Or _ _ (expr_same to (b.Column c))
    closed_same (b.Param i ty) = placed_at l.Or _ _ (expr_same to (b.Param i ty))
    closed_same (b.Is' p x test n) = placed_at l.Or _ _ (expr_same to (b.Is' p x test n))
    closed_same (b.OneOf' n p x s xs) = placed_at l.Or _ _ (expr_same to (b.OneOf' n p x s xs))
    closed_same (b.Cast' p x ty) = placed_at l.Or _ _ (expr_same to (b.Cast' p x ty))
    closed_same (b.Call' n s xs) = placed_at l.Or _ _ (expr_same to (b.Call' n s xs))
    closed_same b.CountRows = placed_at l.Or _ _ (expr_same to b.CountRows)
    closed_same (b.Scalar' p q) = placed_at l.Or _ _ (expr_same to (b.Scalar' p q))
    closed_same (b.Exists' p q) = placed_at l.Or _ _ (expr_same to (b.Exists' p q))

    last_same : {n : _} (place : Level) (xs : b.Row_of-Expr n) → There xs → Same (closed_at place (head_or expr.Null (exprs_of R xs))) (closed_last place xs)
    last_same place b.end_of-Expr h = absurd h
    last_same place (b.more_of-Expr x rest) h = ended place place refl x (closed_same x)

    links_same : {n : _} (u v : Level) → u ≡ v → (xs : b.Row_of-Expr-Chain-1-2 n) → Same (closed_chain u (links_of R xs)) (closed_links v xs)
    links_same u v e b.end_of-Expr-Chain-1-2 = same.here
    links_same u v e (b.more_of-Expr-Chain-1-2 o x b.end_of-Expr-Chain-1-2) =
        next (mark (operator_mark o)) (ended (operands u) (operands v) (ap (λ k. operands k) e) x (closed_same x))
    links_same u v e (b.more_of-Expr-Chain-1-2 o x (b.more_of-Expr-Chain-1-2 p y rest)) =
        next (mark (operator_mark o)) (both (placed (operands u) (printed (expr_of R x))) (placed (operands v) (printed x))
        (placed_both (operands u) (operands v) (ap (λ k. operands k) e) (printed (expr_of R x)) (printed x) (expr_same to x)) (links_same u v e
        (b.more_of-Expr-Chain-1-2 p y rest)))
