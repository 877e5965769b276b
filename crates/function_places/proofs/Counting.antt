-- The list of the nodes of a function has one entry for each node, and counts what the limits are on.
use Rattle.std.proofs.Common.{◌≡◌, ℕ, zero, suc, ◌+◌, Bool, true, false, List, [], ◌∷◌, ◌++◌, length, map, replicate, Some, None, option_map, refl, ap, ◌∙◌, arith, length-append}
use Rattle.std.specs.Prelude.{cond, sum, count_by}
use Rattle.std.proofs.lemmas.List.{length-replicate}
use Rattle.std.proofs.lemmas.List.Sums.{sum_by-append, sum_by-cons}
use Rattle.away_trees.specs.declared.statements.Function.{Function}
use Rattle.away_trees.specs.declared.statements.LoopKind.TheVariants as kind
use Rattle.away_trees.specs.declared.statements.Stmt.{Stmt}
use Rattle.away_trees.specs.declared.statements.Stmt.TheBlock as b
use Rattle.away_trees.specs.declared.statements.Stmt.TheOpen.{Stmt-F, Arm-F}
use Rattle.away_trees.specs.declared.statements.Stmt.TheOpen as st
use Rattle.away_trees.specs.Count.{counting, nodes, nodes_of}
use Rattle.away_trees.specs.Limits.{counting_loops, counting_variables, loops, loops_of, variables, variables_of}
use Rattle.away_trees.specs.StatementAlgebra.{StatementAlgebra, stmt_of, stmts_of, branches_of, else_of}
use Rattle.away_trees.specs.StatementEquations.{StatementSteps, statement_algebra}
use Rattle.function_places.specs.declared.node_kinds.Kind.{Kind}
use Rattle.function_places.specs.declared.node_kinds.Kind.TheVariants.{Variable, Counter, Other}
use Rattle.function_places.specs.LimitPlaces.{in_order, is_for, is_variable, kinds, kinds_of, listing}

-- ---- a count of the list as a recursion of its own

abbrev counted : (List Kind → ℕ) → Stmt-F (List Kind) (List Kind) → Stmt-F ℕ ℕ
counted h (st.Block label decls body closing) = st.Block label decls (map h body) closing
counted h (st.Assign name slot e) = st.Assign name slot e
counted h (st.If arms other) = st.If (map h arms) (option_map (map h) other)
counted h (st.Cases arms other) = st.Cases (map h arms) (option_map (map h) other)
counted h (st.Loop label how body closing) = st.Loop label how (map h body) closing
counted h (st.Exit label when) = st.Exit label when
counted h (st.Continue label when) = st.Continue label when
counted h (st.Return e) = st.Return e
counted h (st.Raise raised) = st.Raise raised
counted h (st.Into strict targets query) = st.Into strict targets query
counted h st.Nothing = st.Nothing

module _ (h : List Kind → ℕ) (p : StatementSteps ℕ ℕ) (step : (s : Stmt-F (List Kind) (List Kind)) → h (listing.stmt s) ≡ p.stmt (counted h s)) (arm_step : (x : Arm-F (List Kind) (List Kind)) → h (listing.arm x) ≡ p.arm (record { test = x.test; body = map h x.body })) where
  abbrev P : StatementAlgebra
  P = statement_algebra p

  mutual
    pub all_counted : (s : Stmt) → h (stmt_of listing s) ≡ stmt_of P s
    all_counted (b.Block' label decls s body closing) =
        step (st.Block label decls (stmts_of listing body) closing) ∙ ap (λ xs. p.stmt (st.Block label decls xs closing)) (rows_counted body)
    all_counted (b.Assign name slot x) = step (st.Assign name slot x)
    all_counted (b.If' s arms other) =
        step (st.If (branches_of listing arms) (else_of listing other)) ∙ (λ i. p.stmt (st.If (arms_counted arms i) (else_counted other i)))
    all_counted (b.Cases' s arms other) =
        step (st.Cases (branches_of listing arms) (else_of listing other)) ∙ (λ i. p.stmt (st.Cases (arms_counted arms i) (else_counted other i)))
    all_counted (b.Loop' label head s body closing) =
        step (st.Loop label head (stmts_of listing body) closing) ∙ ap (λ xs. p.stmt (st.Loop label head xs closing)) (rows_counted body)
    all_counted (b.Exit label when) = step (st.Exit label when)
    all_counted (b.Continue label when) = step (st.Continue label when)
    all_counted (b.Return x) = step (st.Return x)
    all_counted (b.Raise raised) = step (st.Raise raised)
    all_counted (b.Into strict targets query) = step (st.Into strict targets query)
    all_counted b.Nothing = step st.Nothing

    rows_counted : {n : _} → (r : b.Row_of-Stmt n) → map h (stmts_of listing r) ≡ stmts_of P r
    rows_counted b.end_of-Stmt = refl
    rows_counted (b.more_of-Stmt s rest) = λ i. all_counted s i ∷ rows_counted rest i

    arms_counted : {n : _} → (r : b.Row_of-Arm n) → map h (branches_of listing r) ≡ branches_of P r
    arms_counted b.end_of-Arm = refl
    arms_counted (b.more_of-Arm test s body rest) =
        λ i. (arm_step (record { test = test; body = stmts_of listing body }) ∙ ap (λ xs. p.arm (record { test = test; body = xs })) (rows_counted body)) i
        ∷ arms_counted rest i

    else_counted : (r : b.Held-Stmt-If-1) → option_map (map h) (else_of listing r) ≡ else_of P r
    else_counted b.None' = refl
    else_counted (b.Some' s body) = λ i. Some (rows_counted body i)

-- ---- counts of lists

sum_cons : (x : ℕ) (xs : List ℕ) → sum (x ∷ xs) ≡ x + sum xs
sum_cons x xs = sum_by-cons (λ k. k) x xs

-- all lists together
module _ (h : List Kind → ℕ) (none : h [] ≡ 0) (both : (xs ys : List Kind) → h (xs ++ ys) ≡ h xs + h ys) where
  total : (lists : List (List Kind)) → h (in_order lists) ≡ sum (map h lists)
  total [] = none
  total (l ∷ ls) = omega (arith, both l (in_order ls), total ls, sum_cons (h l) (map h ls))

module _ (of : Kind → Bool) where
  one_hit : (x : Kind) (xs : List Kind) → of x ≡ true → count_by of (x ∷ xs) ≡ suc (count_by of xs)
  one_hit x xs e =
      let more : count_by of (x ∷ xs) ≡ 1 + count_by of xs = sum_by-cons (λ x. cond (of x) 1 0) x xs ∙ ap (λ b. cond b 1 0 + count_by of xs) e in
      omega (arith, more)

  one_miss : (x : Kind) (xs : List Kind) → of x ≡ false → count_by of (x ∷ xs) ≡ count_by of xs
  one_miss x xs e =
      let more : count_by of (x ∷ xs) ≡ 0 + count_by of xs = sum_by-cons (λ x. cond (of x) 1 0) x xs ∙ ap (λ b. cond b 1 0 + count_by of xs) e in
      omega (arith, more)

  all_hit : (n : ℕ) (x : Kind) → of x ≡ true → count_by of (replicate n x) ≡ n
  all_hit zero x e = refl
  all_hit (suc n) x e = one_hit x (replicate n x) e ∙ ap (λ k. suc k) (all_hit n x e)

  all_miss : (n : ℕ) (x : Kind) → of x ≡ false → count_by of (replicate n x) ≡ 0
  all_miss zero x e = refl
  all_miss (suc n) x e = one_miss x (replicate n x) e ∙ all_miss n x e

  count_both : (xs ys : List Kind) → count_by of (xs ++ ys) ≡ count_by of xs + count_by of ys
  count_both xs ys = sum_by-append (λ x. cond (of x) 1 0) xs ys

  count_total : (lists : List (List Kind)) → count_by of (in_order lists) ≡ sum (map (count_by of) lists)
  count_total lists = total (count_by of) refl count_both lists

-- ---- nodes

abbrev node_steps : StatementSteps ℕ ℕ
node_steps = record { stmt = counting.stmt; arm = counting.arm }

node_step : (s : Stmt-F (List Kind) (List Kind)) → length (listing.stmt s) ≡ counting.stmt (counted length s)
node_step (st.Block label decls body closing) =
    omega (arith, length-append (replicate (length decls) Variable) (in_order body), length-replicate (length decls) Variable, total length refl length-append body)
node_step (st.Assign name slot e) = omega arith
node_step (st.If arms None) = omega (arith, length-append (in_order arms) ([]), total length refl length-append arms)
node_step (st.If arms (Some body)) =
    omega (arith, length-append (in_order arms) (Other ∷ in_order body), total length refl length-append arms, total length refl length-append body)
node_step (st.Cases arms None) = omega (arith, length-append (in_order arms) ([]), total length refl length-append arms)
node_step (st.Cases arms (Some body)) =
    omega (arith, length-append (in_order arms) (Other ∷ in_order body), total length refl length-append arms, total length refl length-append body)
node_step (st.Loop label kind.Plain body closing) = omega (arith, total length refl length-append body)
node_step (st.Loop label (kind.While x) body closing) = omega (arith, total length refl length-append body)
node_step (st.Loop label (kind.Count var reverse first last step) body closing) = omega (arith, total length refl length-append body)
node_step (st.Exit label when) = omega arith
node_step (st.Continue label when) = omega arith
node_step (st.Return e) = omega arith
node_step (st.Raise raised) = omega arith
node_step (st.Into strict targets query) = omega (arith, length-replicate (length targets) Other)
node_step st.Nothing = omega arith

node_arm : (x : Arm-F (List Kind) (List Kind)) → length (listing.arm x) ≡ counting.arm (record { test = x.test; body = map length x.body })
node_arm x = omega (arith, total length refl length-append x.body)

pub nodes_counted : (f : Function) → length (kinds f) ≡ nodes f
unfolding kinds kinds_of nodes nodes_of
nodes_counted f =
    omega (arith, length-append (replicate (length f.params) Variable) (stmt_of listing f.body), length-replicate (length f.params) Variable, all_counted length node_steps node_step node_arm f.body)

-- ---- variables

abbrev variable_steps : StatementSteps ℕ ℕ
variable_steps = record { stmt = counting_variables.stmt; arm = counting_variables.arm }

variable_step : (s : Stmt-F (List Kind) (List Kind)) → count_by is_variable (listing.stmt s) ≡ counting_variables.stmt (counted (count_by is_variable) s)
variable_step (st.Block label decls body closing) =
    omega (arith, one_miss is_variable Other (replicate (length decls) Variable ++ in_order body) refl, count_both is_variable (replicate (length decls) Variable) (in_order body), all_hit is_variable (length decls) Variable refl, count_total is_variable body)
variable_step (st.Assign name slot e) = omega (arith, one_miss is_variable Other ([]) refl)
variable_step (st.If arms None) = omega (arith, one_miss is_variable Other (in_order arms ++ []) refl, count_both is_variable (in_order arms) ([]), count_total is_variable arms)
variable_step (st.If arms (Some body)) =
    omega (arith, one_miss is_variable Other (in_order arms ++ Other ∷ in_order body) refl, count_both is_variable (in_order arms) (Other ∷ in_order body), one_miss is_variable Other (in_order body) refl, count_total is_variable arms, count_total is_variable body)
variable_step (st.Cases arms None) = omega (arith, one_miss is_variable Other (in_order arms ++ []) refl, count_both is_variable (in_order arms) ([]), count_total is_variable arms)
variable_step (st.Cases arms (Some body)) =
    omega (arith, one_miss is_variable Other (in_order arms ++ Other ∷ in_order body) refl, count_both is_variable (in_order arms) (Other ∷ in_order body), one_miss is_variable Other (in_order body) refl, count_total is_variable arms, count_total is_variable body)
variable_step (st.Loop label kind.Plain body closing) = omega (arith, one_miss is_variable Other (in_order body) refl, count_total is_variable body)
variable_step (st.Loop label (kind.While x) body closing) = omega (arith, one_miss is_variable Other (in_order body) refl, count_total is_variable body)
variable_step (st.Loop label (kind.Count var reverse first last step) body closing) = omega (arith, one_miss is_variable Counter (in_order body) refl, count_total is_variable body)
variable_step (st.Exit label when) = omega (arith, one_miss is_variable Other ([]) refl)
variable_step (st.Continue label when) = omega (arith, one_miss is_variable Other ([]) refl)
variable_step (st.Return e) = omega (arith, one_miss is_variable Other ([]) refl)
variable_step (st.Raise raised) = omega (arith, one_miss is_variable Other ([]) refl)
variable_step (st.Into strict targets query) = omega (arith, one_miss is_variable Other (replicate (length targets) Other) refl, all_miss is_variable (length targets) Other refl)
variable_step st.Nothing = omega (arith, one_miss is_variable Other ([]) refl)

variable_arm : (x : Arm-F (List Kind) (List Kind)) → count_by is_variable (listing.arm x) ≡ counting_variables.arm (record { test = x.test; body = map (count_by is_variable) x.body })
variable_arm x = omega (arith, one_miss is_variable Other (in_order x.body) refl, count_total is_variable x.body)

pub variables_counted : (f : Function) → count_by is_variable (kinds f) ≡ variables f
unfolding kinds kinds_of variables variables_of
variables_counted f =
    omega (arith, count_both is_variable (replicate (length f.params) Variable) (stmt_of listing f.body), all_hit is_variable (length f.params) Variable refl, all_counted (count_by is_variable) variable_steps variable_step variable_arm f.body)

-- ---- loops

abbrev loop_steps : StatementSteps ℕ ℕ
loop_steps = record { stmt = counting_loops.stmt; arm = counting_loops.arm }

loop_step : (s : Stmt-F (List Kind) (List Kind)) → count_by is_for (listing.stmt s) ≡ counting_loops.stmt (counted (count_by is_for) s)
loop_step (st.Block label decls body closing) =
    omega (arith, one_miss is_for Other (replicate (length decls) Variable ++ in_order body) refl, count_both is_for (replicate (length decls) Variable) (in_order body), all_miss is_for (length decls) Variable refl, count_total is_for body)
loop_step (st.Assign name slot e) = omega (arith, one_miss is_for Other ([]) refl)
loop_step (st.If arms None) = omega (arith, one_miss is_for Other (in_order arms ++ []) refl, count_both is_for (in_order arms) ([]), count_total is_for arms)
loop_step (st.If arms (Some body)) =
    omega (arith, one_miss is_for Other (in_order arms ++ Other ∷ in_order body) refl, count_both is_for (in_order arms) (Other ∷ in_order body), one_miss is_for Other (in_order body) refl, count_total is_for arms, count_total is_for body)
loop_step (st.Cases arms None) = omega (arith, one_miss is_for Other (in_order arms ++ []) refl, count_both is_for (in_order arms) ([]), count_total is_for arms)
loop_step (st.Cases arms (Some body)) =
    omega (arith, one_miss is_for Other (in_order arms ++ Other ∷ in_order body) refl, count_both is_for (in_order arms) (Other ∷ in_order body), one_miss is_for Other (in_order body) refl, count_total is_for arms, count_total is_for body)
loop_step (st.Loop label kind.Plain body closing) = omega (arith, one_miss is_for Other (in_order body) refl, count_total is_for body)
loop_step (st.Loop label (kind.While x) body closing) = omega (arith, one_miss is_for Other (in_order body) refl, count_total is_for body)
loop_step (st.Loop label (kind.Count var reverse first last step) body closing) = omega (arith, one_hit is_for Counter (in_order body) refl, count_total is_for body)
loop_step (st.Exit label when) = omega (arith, one_miss is_for Other ([]) refl)
loop_step (st.Continue label when) = omega (arith, one_miss is_for Other ([]) refl)
loop_step (st.Return e) = omega (arith, one_miss is_for Other ([]) refl)
loop_step (st.Raise raised) = omega (arith, one_miss is_for Other ([]) refl)
loop_step (st.Into strict targets query) = omega (arith, one_miss is_for Other (replicate (length targets) Other) refl, all_miss is_for (length targets) Other refl)
loop_step st.Nothing = omega (arith, one_miss is_for Other ([]) refl)

loop_arm : (x : Arm-F (List Kind) (List Kind)) → count_by is_for (listing.arm x) ≡ counting_loops.arm (record { test = x.test; body = map (count_by is_for) x.body })
loop_arm x = omega (arith, one_miss is_for Other (in_order x.body) refl, count_total is_for x.body)

pub loops_counted : (f : Function) → count_by is_for (kinds f) ≡ loops f
unfolding kinds kinds_of loops loops_of
loops_counted f =
    omega (arith, count_both is_for (replicate (length f.params) Variable) (stmt_of listing f.body), all_miss is_for (length f.params) Variable refl, all_counted (count_by is_for) loop_steps loop_step loop_arm f.body)
