-- The entries behind a function's source expressions can be derived where the query has them, but for NULL of the type integer.
use Rattle.std.proofs.Common.{◌≡◌, refl, ap, sym, subst, ◌∙◌, ℕ, ℤ, pos, arith, ◌==◌, false, List, [], ◌∷◌, map, slice_get}
use Rattle.std.proofs.lemmas.Bool.{eqb-true, eq-eqb}
use Rattle.std.specs.Prelude.{Some}
use Rattle.away_values.specs.declared.operators.ChainOp.{ChainOp}
use Rattle.away_values.specs.declared.operators.ChainOp.TheVariants as chain
use Rattle.away_values.specs.declared.operators.CmpOp.{CmpOp}
use Rattle.away_values.specs.declared.operators.CmpOp.TheVariants as cmp
use Rattle.away_values.specs.declared.operators.IntOp.TheVariants as int
use Rattle.away_values.specs.declared.operators.IsTest.TheVariants as is
use Rattle.away_values.specs.declared.types.Ty.{Ty}
use Rattle.away_values.specs.Operators.{literal_type}
use Rattle.away_grammar.specs.declared.grammar.Level.{Level}
use Rattle.away_grammar.specs.declared.grammar.Level.TheVariants as l
use Rattle.away_grammar.specs.declared.grammar.Mark.{Mark}
use Rattle.away_grammar.specs.declared.grammar.Mark.TheVariants as m
use Rattle.away_grammar.specs.Grammar.{at, operator_of, comparison_of}
use Rattle.away_trees.specs.declared.queries.Col.{Col}
use Rattle.away_trees.specs.declared.queries.Expr.{Expr}
use Rattle.away_trees.specs.declared.queries.Expr.TheVariants as expr
use Rattle.away_trees.specs.declared.queries.Expr.TheBlock as b
use Rattle.away_trees.specs.declared.schemas.Schema.{Schema}
use Rattle.away_trees.specs.Algebra.{Algebra}
use Rattle.away_trees.proofs.Equations as eq
use Rattle.elaboration.specs.Marks.{plain_op}
use Rattle.away_names.specs.Lookups.{Scope}
use Rattle.sql_meaning.specs.Placed.{column_of, placed, replacing, with_cast}
use Rattle.sql_meaning.specs.Reads.{slots_of}
use Rattle.block_forms.specs.declared.fixed_list.Fixed.{Fixed}
use Rattle.block_forms.specs.declared.fixed_list.Fixed.TheVariants as fix
use Rattle.block_forms.specs.FixedList.{a, b as second, null_as, a_is_null, of_two, compared, greatest, least, expression, entries, fixed_list}
use Rattle.type_soundness.specs.Sorts.{Every}
use Rattle.qualified_names.specs.Trees.{qualified_expr}
use Rattle.qualified_names.proofs.QualifyingRules as d
use Rattle.cte_names.specs.Own.{IsOwn}
use Rattle.cte_prints.specs.Derivable.{Derivable}
use Rattle.cte_prints.proofs.NodesAlike.{derive_cast_to}
use Rattle.cte_prints.proofs.DeriveNodes as derive
use Rattle.cte_prints.proofs.DeriveLevels.{loosen, at_or}
use Rattle.cte_prints.specs.InSight.{SightIsWritable}
use Rattle.cte_prints.proofs.WritableColumns.{derivable_leaves}
use Rattle.cte_prints.proofs.DerivableEntries.{IsWritableName, null_derivable, whole}

module _ (s : Scope) (ref : ℕ → Col) where
  abbrev P : Algebra
  P = replacing (column_of ref) with_cast

  abbrev At : Level → Expr → Type 0
  At level e = Derivable 196 (at level) (qualified_expr (placed ref e) s.levels)

  by : (level : Level) (v w : ℕ → Expr) (u : Expr) → v ≡ w → qualified_expr (w 0) s.levels ≡ u → Derivable 196 (at level) u
      → Derivable 196 (at level) (qualified_expr (v 0) s.levels)
  by level v w u e k h = subst (Derivable 196 (at level)) (sym (ap (λ (t : ℕ → Expr). qualified_expr (t 0) s.levels) e ∙ k)) h

  slot : (k : ℕ) → SightIsWritable s.levels → IsOwn s.levels (ref k) → At l.Primary (expr.Slot k)
  slot k derivable own =
      let c = derivable_leaves s (λ i. k == i) ref derivable (λ i e. subst (λ j. IsOwn s.levels (ref j)) (eqb-true k i e) own) [] k (eq-eqb k k refl) in
      subst (Derivable 196 (at l.Primary)) (sym c.is) (derive.derive_qualified c.alias_writable c.name_writable)

  -- a number has the cast to its type
  number : (n : ℤ) → Derivable 195 (at l.Or) (expr.Int n) → At l.Primary (expr.Int n)
  number n h =
      subst (Derivable 196 (at l.Primary)) (sym (d.cast_is (expr.Int n) (literal_type n) s.levels ∙ ap (λ v. expr.Cast v (literal_type n)) (d.int_is n s.levels)))
      (derive_cast_to {d = 195} (literal_type n) h)

  is_null : (e : Expr) → At l.Compare e → At l.Is (expr.Is e is.Null false)
  is_null e h = by l.Is _ _ _ (eq.of_is P e is.Null false) (d.is_is _ is.Null false s.levels) (derive.derive_is false m.Null refl h)

  minus : (e : Expr) → At l.Primary e → At l.Sign (expr.Neg e)
  minus e h = by l.Sign _ _ _ (eq.of_neg P e) (d.neg_is _ s.levels) (derive.derive_neg (derive.derive_uncast h))

  -- an operation is written without its mark
  two : (op : ChainOp) (terminal : Mark) → operator_of l.Sum terminal ≡ Some (plain_op op) → (x y : Expr) → At l.Product x → At l.Product y → At l.Sum (of_two op x y)
  two op terminal e x y h k =
      by l.Sum _ _ _ (eq.of_chain P x ((op, y) ∷ [])) (d.chain_is _ _ s.levels) (derive.derive_chain tt h (derive.derive_link terminal e k derive.derive_no_link))

  compare : (op : CmpOp) (terminal : Mark) → comparison_of terminal ≡ Some op → (x y : Expr) → At l.Range x → At l.Range y → At l.Compare (compared op x y)
  compare op terminal e x y h k = by l.Compare _ _ _ (eq.of_compare P op x y) (d.compare_is op _ _ s.levels) (derive.derive_compare terminal e h k)

  to_range : (e : Expr) → At l.Primary e → At l.Range e
  to_range e h = loosen l.Range l.Primary (omega arith) h

  to_product : (e : Expr) → At l.Primary e → At l.Product e
  to_product e h = loosen l.Product l.Primary (omega arith) h

module _ (schema : Schema) where
  null_entry : (u : Ty) → IsWritableName schema (null_as u)
  null_entry u t s ref tables derivable own =
      whole s t ref (null_as u) (by s ref l.Or _ _ _ (eq.of_cast (P s ref) expr.Null u) refl (null_derivable s u))

  first_entry : IsWritableName schema a
  first_entry t s ref tables derivable own = whole s t ref a (at_or l.Primary (slot s ref 0 derivable (own 0 0 refl)))

  test_entry : IsWritableName schema a_is_null
  unfolding b.hidden-the_row-Expr-0 denote.Hole.Carrier.hidden
  test_entry t s ref tables derivable own =
      whole s t ref a_is_null (at_or l.Is (is_null s ref a (loosen l.Compare l.Primary (omega arith) (slot s ref 0 derivable (own 0 0 refl)))))

  not_positive_entry : IsWritableName schema (compared cmp.Le a (expr.Int (pos 0)))
  unfolding b.hidden-the_row-Expr-0 denote.Hole.Carrier.hidden
  not_positive_entry t s ref tables derivable own =
      whole s t ref (compared cmp.Le a (expr.Int (pos 0)))
      (at_or l.Compare (compare s ref cmp.Le m.LessEqual refl a (expr.Int (pos 0)) (to_range s ref a (slot s ref 0 derivable (own 0 0 refl)))
      (to_range s ref (expr.Int (pos 0)) (number s ref (pos 0) (at_or l.Primary (derive.derive_number (omega arith)))))))

  both_entry : (op : CmpOp) (terminal : Mark) → comparison_of terminal ≡ Some op → IsWritableName schema (compared op a second)
  unfolding b.hidden-the_row-Expr-0 denote.Hole.Carrier.hidden
  both_entry op terminal e t s ref tables derivable own =
      whole s t ref (compared op a second)
      (at_or l.Compare (compare s ref op terminal e a second (to_range s ref a (slot s ref 0 derivable (own 0 0 refl)))
      (to_range s ref second (slot s ref 1 derivable (own 1 1 refl)))))

  limit_entry : (op : CmpOp) (terminal : Mark) → comparison_of terminal ≡ Some op → (step : ChainOp) (plus : Mark) → operator_of l.Sum plus ≡ Some (plain_op step)
      → (limit : Expr) → slots_of (compared op (of_two step limit a) second) ≡ 0 ∷ 1 ∷ [] → ((s : Scope) (ref : ℕ → Col) → At s ref l.Product limit)
      → IsWritableName schema (compared op (of_two step limit a) second)
  limit_entry op terminal e step plus k limit reads c t s ref tables derivable own =
      let first = slot s ref 0 derivable (own 0 0 (ap (λ ks. slice_get ks 0) reads)) in
      let other = slot s ref 1 derivable (own 1 1 (ap (λ ks. slice_get ks 1) reads)) in
      whole s t ref (compared op (of_two step limit a) second)
      (at_or l.Compare (compare s ref op terminal e (of_two step limit a) second
      (loosen l.Range l.Sum (omega arith) (two s ref step plus k limit a (c s ref) (to_product s ref a first)))
      (to_range s ref second other)))

  greatest_limit : (s : Scope) (ref : ℕ → Col) → At s ref l.Product greatest
  greatest_limit s ref =
      to_product s ref greatest (number s ref (pos 2147483647) (at_or l.Primary (derive.derive_number (omega arith))))

  -- the minus stands over a literal, which has its cast
  least_limit : (s : Scope) (ref : ℕ → Col) → At s ref l.Product least
  least_limit s ref =
      loosen l.Product l.Sign (omega arith)
      (minus s ref (expr.Int (pos 2147483648)) (number s ref (pos 2147483648) (at_or l.Primary (derive.derive_number (omega arith)))))

  step_entry : (op : ChainOp) (plus : Mark) → operator_of l.Sum plus ≡ Some (plain_op op) → IsWritableName schema (of_two op a second)
  unfolding b.hidden-the_row-Expr-0 b.hidden-the_row-Expr-Chain-1-2-1 denote.Hole.Carrier.hidden
  step_entry op plus k t s ref tables derivable own =
      whole s t ref (of_two op a second)
      (at_or l.Sum (two s ref op plus k a second (to_product s ref a (slot s ref 0 derivable (own 0 0 refl)))
      (to_product s ref second (slot s ref 1 derivable (own 1 1 refl)))))

  one_entry : IsWritableName schema (expr.Int (pos 1))
  one_entry t s ref tables derivable own =
      whole s t ref (expr.Int (pos 1)) (at_or l.Primary (number s ref (pos 1) (at_or l.Primary (derive.derive_number (omega arith)))))

  entry_derivable : (e : Fixed) → IsWritableName schema (expression e)
  unfolding b.hidden-the_row-Expr-0 b.hidden-the_row-Expr-Chain-1-2-1 denote.Hole.Carrier.hidden plain_op
  entry_derivable (fix.Null t) = null_entry t
  entry_derivable (fix.IsNull t) = test_entry
  entry_derivable fix.NotPositive = not_positive_entry
  entry_derivable fix.AtMost = both_entry cmp.Le m.LessEqual refl
  entry_derivable fix.AtLeast = both_entry cmp.Ge m.GreaterEqual refl
  entry_derivable fix.PastGreatest = limit_entry cmp.Lt m.Less refl (chain.Small int.Sub) m.Minus refl greatest refl greatest_limit
  entry_derivable fix.PastLeast = limit_entry cmp.Gt m.Greater refl (chain.Int int.Add) m.Plus refl least refl least_limit
  entry_derivable fix.Sum = step_entry (chain.Small int.Add) m.Plus refl
  entry_derivable fix.Difference = step_entry (chain.Small int.Sub) m.Minus refl
  entry_derivable fix.One = one_entry
  entry_derivable fix.Copy = first_entry

  all_derivable : (xs : List Fixed) → Every (IsWritableName schema) (map expression xs)
  all_derivable [] = tt
  all_derivable (x ∷ xs) = (entry_derivable x, all_derivable xs)

  pub fixed_derivable : Every (IsWritableName schema) fixed_list
  fixed_derivable = all_derivable entries
