-- The tests and the picks of a SELECT INTO can be derived where the query has them, if the select can be derived there.
use Rattle.std.proofs.Common.{◌≡◌, refl, ap, sym, subst, ◌∙◌, ℕ, zero, suc, ◌+◌, ◌<◌, ◌≤◌, ◌^◌, pos, arith, false, List, [], ◌∷◌, ◌++◌, map, length, Option, Some, None, option_map, codes, decimal}
use Rattle.std.proofs.lemmas.Fmt.{decimal_is_IsNumeral}
use Rattle.away_values.specs.declared.operators.CmpOp.{CmpOp}
use Rattle.away_values.specs.declared.types.Ty.{Ty}
use Rattle.away_values.specs.Operators.{literal_type}
use Rattle.away_grammar.specs.declared.grammar.Mark.{Mark}
use Rattle.away_grammar.specs.declared.grammar.Level.TheVariants as l
use Rattle.away_grammar.specs.Grammar.{at, from_item, from_clause, limit_clause, query, comparison_of}
use Rattle.away_grammar.specs.Reserved.{is_reserved}
use Rattle.away_names.specs.declared.note.Part.{Part}
use Rattle.away_names.specs.declared.note.Shown.{Shown}
use Rattle.away_names.specs.Lookups.{Name}
use Rattle.away_names.specs.Naming.{shaped, names_or, of_query, plain_names}
use Rattle.away_trees.specs.declared.queries.Expr.{Expr}
use Rattle.away_trees.specs.declared.queries.Expr.TheVariants as expr
use Rattle.away_trees.specs.declared.queries.Expr.TheViews.{out-Select, roll-FromItem}
use Rattle.away_trees.specs.declared.queries.FromItem.{FromItem}
use Rattle.away_trees.specs.declared.queries.Query.{Query}
use Rattle.away_trees.specs.declared.queries.Select.{Select}
use Rattle.away_trees.specs.declared.queries.Source.TheVariants as source
use Rattle.away_trees.specs.Algebra.{Algebra, expr_of, select_of}
use Rattle.away_trees.specs.Limits.{most_nodes}
use Rattle.away_trees.proofs.Equations as eq
use Rattle.sql_meaning.specs.Template.{count_from}
use Rattle.sql_meaning.specs.Trees.{col, item, one}
use Rattle.select_into.specs.Wrapped.{value_name, scalar_over, count_compared, pick, pick_as}
use Rattle.qualified_names.specs.Sight.{Sight, reference}
use Rattle.qualified_names.specs.Trees.{qualified_expr, qualified_in, qualified_part, qualified_from, qualified_shown}
use Rattle.qualified_names.proofs.Gives.{Every}
use Rattle.qualified_names.proofs.QualifyingRules as d
use Rattle.cte_names.proofs.IntoClear.{columns_of, names_given, source_at, over_at, over_placed}
use Rattle.cte_names.proofs.IntoNames.{alias, seen, place_at, there, called_so}
use Rattle.cte_names.proofs.Standing.{placing}
use Rattle.cte_prints.specs.Derivable.{Derivable}
use Rattle.cte_prints.proofs.DeriveLevels.{at_or}
use Rattle.cte_prints.proofs.DeriveNodes as node
use Rattle.cte_prints.proofs.DeriveQueries as part
use Rattle.cte_prints.proofs.Deriving.{names_writable, qualified_derivable, cast_alone, cast_derivable, int_derivable, stands_alone}
use Rattle.cte_prints.proofs.OwnWritableNames.{NameIsWritable, digits_go_on, digits_folded, short_digits}
use Rattle.cte_prints.proofs.QualifiedParts.{DerivableAt, MaybeDerivableAt, Fields, qualified_fields, query_is, item_is}

-- ---- its names

alias_writable : NameIsWritable alias
unfolding is_reserved
alias_writable = (record { starts = refl; plain = refl; short = omega arith }, refl, refl)

value_writable : (k : ℕ) → suc k < 2 ^ 64 → NameIsWritable (value_name k)
unfolding is_reserved
value_writable k fits =
    let digits = decimal_is_IsNumeral (suc k) fits in (
      record { starts = refl; plain = digits_go_on (decimal (suc k)) digits.0.1; short = omega (arith, short_digits (suc k) fits) },
      λ i. codes "away_v" ++ digits_folded (decimal (suc k)) digits.0.1 i,
      refl,
    )

values_writable : (i n : ℕ) → i + n ≤ most_nodes → Every NameIsWritable (map value_name (count_from i n))
values_writable i zero few = tt
values_writable i (suc n) few = (value_writable i (omega (arith, few)), values_writable (suc i) n (omega (arith, few)))

-- ---- its item of FROM

sub_derivable : (n : ℕ) (q : Query) (columns : List Name) → Every NameIsWritable columns → Derivable n query q
    → Derivable (suc n) from_item (roll-FromItem (record { source = source.Sub q false; alias = alias; columns = columns }))
sub_derivable n q [] h c = part.derive_sub false alias_writable c
sub_derivable n q (x ∷ xs) h c = part.derive_sub_columns false alias_writable c (names_writable n x xs h)

module _ (leaf : ℕ → ℕ → Expr) (n : ℕ) (s : Sight) (q x : Select) (few : length (out-Select q).list ≤ most_nodes) (inside : Derivable n query (qualified_shown (one x) ([] ∷ s)).it) where
  abbrev from : List FromItem
  from = source_at leaf q x ∷ []

  abbrev here : Sight
  here = (qualified_from s from).seen ∷ s

  part_is : qualified_part (source_at leaf q x) s [] ≡ shaped alias (of_query false (columns_of q) (qualified_shown (one x) ([] ∷ s)))
  part_is = d.part_rule (source_at leaf q x) s [] ∙ ap (shaped alias) (d.sub_is (one x) false (columns_of q) s [])

  -- its columns are seen by their names
  seen_is : (place : ℕ) → place < length (out-Select q).list → (qualified_from s from).seen ≡ seen (length (out-Select q).list) ∷ []
  seen_is place lt =
      let own = (qualified_shown (one x) ([] ∷ s)).names in
      let same : names_or (columns_of q) own ≡ plain_names (columns_of q) = names_given (columns_of q) own place (value_name place) (there (length (out-Select q).list) place lt) in
      ap (λ (p : Part). p.seen ∷ []) part_is ∙ ap (λ ns. record { alias = alias; columns = ns } ∷ []) same

  from_derives : Derivable (suc n) from_clause (qualified_from s from).items
  from_derives =
      part.derive_from
      (part.derive_last_from
      (subst (Derivable (suc n) from_item) (sym (ap (λ (p : Part). p.item) part_is))
      (sub_derivable n (qualified_shown (one x) ([] ∷ s)).it (columns_of q) (values_writable 0 (length (out-Select q).list) (omega (arith, few))) inside)))

  limit_derives : (o : Option Expr) → MaybeDerivableAt (suc n) here o → Derivable (suc n) limit_clause (option_map (qualified_in here) o)
  limit_derives None h = part.derive_no_limit
  limit_derives (Some e) h = part.derive_limit h

  -- ---- a query over it

  over_derives : (e : Expr) (limit : Option Expr) → DerivableAt (suc n) here e → MaybeDerivableAt (suc n) here limit
      → Derivable (suc n) query (qualified_shown (one (over_at leaf e limit q x)) s).it
  over_derives e limit h k =
      let own : Fields = record { list = item e ∷ []; from = from; filter = None; order = []; limit = limit } in
      subst (Derivable (suc n) query) (sym (query_is (over_at leaf e limit q x ∷ []) s ∙ ap (λ y. one y) (ap (λ (z : Shown Select). z.it) (qualified_fields own s))))
      (part.derive_query refl
      (part.derive_last_select
      (part.derive_select (part.derive_last_item (subst (Derivable (suc n) _) (sym (item_is e here)) (part.derive_item h))) from_derives part.derive_no_where part.derive_no_order
      (limit_derives limit k))))

  scalar_derives : (e : Expr) (limit : Option Expr) → DerivableAt (suc n) here e → MaybeDerivableAt (suc n) here limit
      → Derivable (suc (suc n)) (at l.Primary) (qualified_expr (expr.Scalar (one (over_at leaf e limit q x))) s)
  scalar_derives e limit h k =
      subst (Derivable (suc (suc n)) (at l.Primary)) (sym (d.scalar_is (one (over_at leaf e limit q x)) s)) (node.derive_scalar (over_derives e limit h k))

-- ---- comparisons and numbers

ranged : {n : ℕ} {x : Expr} → Derivable n (at l.Primary) x → Derivable n (at l.Range) x
ranged h =
    node.derive_unranged
    (node.derive_one {level = l.Concat} tt (node.derive_one {level = l.Sum} tt (node.derive_one {level = l.Product} tt (node.derive_unsigned (node.derive_uncast h)))))

number_alone : (n : ℕ) (i : ℕ) (t : Ty) (s : Sight) → i < 2 ^ 63 → Derivable (suc n) (at l.Primary) (qualified_expr (expr.Cast (expr.Int (pos i)) t) s)
number_alone n i t s low =
    subst (Derivable (suc n) (at l.Primary)) (sym (d.cast_is (expr.Int (pos i)) t s ∙ ap (λ x. expr.Cast x t) (d.int_is (pos i) s)))
    (cast_alone n t (expr.Int (pos i)) (int_derivable n i low))

-- ---- tests and picks, where this stands for slots

module _ (leaf : ℕ → ℕ → Expr) (n : ℕ) (s : Sight) (q : Select) (few : length (out-Select q).list ≤ most_nodes)
    (inside : Derivable n query (qualified_shown (one (select_of (placing leaf) q 1)) ([] ∷ s)).it) where
  abbrev P : Algebra
  P = placing leaf

  abbrev x : Select
  x = select_of P q 1

  pub test_derives : (op : CmpOp) (terminal : Mark) → comparison_of terminal ≡ Some op → (i : ℕ) → i < 2 ^ 63
      → Derivable (suc (suc n)) (at l.Or) (qualified_expr (expr_of P (count_compared op q (pos i)) 0) s)
  test_derives op terminal is i low =
      subst (λ (f : ℕ → Expr). Derivable (suc (suc n)) (at l.Or) (qualified_expr (f 0) s))
      (sym
      (eq.of_compare P op (scalar_over expr.CountRows None q) (expr.Int (pos i))
      ∙ ap (λ (f : ℕ → Expr). λ d. expr.Compare op (f d) (expr.Cast (expr.Int (pos i)) (literal_type (pos i)))) (over_placed leaf expr.CountRows None q)))
      (subst (Derivable (suc (suc n)) (at l.Or)) (sym (d.compare_is op (expr.Scalar (one (over_at leaf expr.CountRows None q x))) (expr.Cast (expr.Int (pos i)) (literal_type (pos i))) s))
      (at_or l.Compare
      (node.derive_compare terminal is
      (ranged (scalar_derives leaf n s q x few inside expr.CountRows None (subst (Derivable (suc n) (at l.Or)) (sym (d.countrows_is (here leaf n s q x few inside))) (at_or l.Primary node.derive_count_rows)) tt))
      (ranged (number_alone (suc n) i (literal_type (pos i)) s low)))))

  pub pick_derives : (place : ℕ) → place < length (out-Select q).list → Derivable (suc (suc n)) (at l.Or) (qualified_expr (expr_of P (pick q place) 0) s)
  pick_derives place lt =
      let many : ℕ = length (out-Select q).list in
      let sight : Sight = here leaf n s q x few inside in
      let named : qualified_expr (expr.Column (place_at place)) sight ≡ expr.Dotted alias (value_name place) =
      d.column_is (place_at place) sight
      ∙ (ap (λ level. reference (level ∷ s) (place_at place)) (seen_is leaf n s q x few inside place lt) ∙ called_so many place s lt) in
      subst (λ (f : ℕ → Expr). Derivable (suc (suc n)) (at l.Or) (qualified_expr (f 0) s)) (sym (over_placed leaf (col 0 0 place) (Some (expr.Int (pos 1))) q))
      (stands_alone (suc (suc n)) (qualified_expr (expr.Scalar (one (over_at leaf (expr.Column (place_at place)) (Some (expr.Cast (expr.Int (pos 1)) (literal_type (pos 1)))) q x))) s)
      (scalar_derives leaf n s q x few inside (expr.Column (place_at place)) (Some (expr.Cast (expr.Int (pos 1)) (literal_type (pos 1))))
      (subst (Derivable (suc n) (at l.Or)) (sym named) (qualified_derivable (suc n) alias (value_name place) alias_writable (value_writable place (omega (arith, lt, few)))))
      (at_or l.Primary (number_alone n 1 (literal_type (pos 1)) sight (omega arith)))))

  -- and under a cast
  pub pick_as_derives : (cast : Option Ty) (place : ℕ) → place < length (out-Select q).list
      → Derivable (suc (suc (suc n))) (at l.Or) (qualified_expr (expr_of P (pick_as cast q place) 0) s)
  pick_as_derives None place lt = node.deepened (suc (suc n)) (suc (suc (suc n))) (omega arith) (pick_derives place lt)
  pick_as_derives (Some t) place lt =
      subst (λ (f : ℕ → Expr). Derivable (suc (suc (suc n))) (at l.Or) (qualified_expr (f 0) s)) (sym (eq.of_cast P (pick q place) t))
      (subst (Derivable (suc (suc (suc n))) (at l.Or)) (sym (d.cast_is (expr_of P (pick q place) 0) t s))
      (cast_derivable (suc (suc n)) t (qualified_expr (expr_of P (pick q place) 0) s) (pick_derives place lt)))
