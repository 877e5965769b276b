-- Each source expression of a checked function can be derived where the query has it.
use Rattle.std.proofs.Common.{◌≡◌, refl, ap, sym, subst, ◌∙◌, ℕ, Bool, true, List, [], ◌++◌, length, arith}
use Rattle.away_values.specs.declared.types.Ty.{Ty}
use Rattle.away_grammar.specs.declared.grammar.Level.TheVariants as l
use Rattle.away_grammar.specs.declared.grammar.Mark.TheVariants as m
use Rattle.away_grammar.specs.Grammar.{at}
use Rattle.away_trees.specs.declared.queries.Col.{Col}
use Rattle.away_trees.specs.declared.queries.Expr.{Expr}
use Rattle.away_trees.specs.declared.queries.Expr.TheVariants as expr
use Rattle.away_trees.specs.declared.queries.Expr.TheBlock as b
use Rattle.away_trees.specs.declared.schemas.Schema.{Schema}
use Rattle.away_trees.specs.Algebra.{expr_of}
use Rattle.away_trees.proofs.Equations as eq
use Rattle.away_names.specs.Lookups.{Level, Scope}
use Rattle.away_typing.specs.Typing.{Places}
use Rattle.elaboration.specs.Converting.{marked}
use Rattle.sql_meaning.specs.Placed.{column_of, placed, placed_at, replacing, with_cast}
use Rattle.sql_meaning.specs.Reads.{Reads, reading, slots_of}
use Rattle.block_forms.specs.Places.{Each}
use Rattle.qualified_names.specs.Trees.{qualified_expr}
use Rattle.qualified_names.proofs.QualifyingRules as d
use Rattle.cte_names.specs.Own.{SeesTables, IsOwn}
use Rattle.cte_names.proofs.Refined.{LevelsSo}
use Rattle.cte_names.proofs.Standing.{Allowed, placing}
use Rattle.cte_names.proofs.OwnLeaves.{own_leaves}
use Rattle.cte_names.proofs.ReadSlots.{is_in, stands, reads_own}
use Rattle.cte_prints.specs.Derivable.{Derivable}
use Rattle.cte_prints.specs.Like.{IsLike, value}
use Rattle.cte_prints.proofs.ReadingDepth.{read_so}
use Rattle.cte_prints.proofs.LikeDerivable.{like_derivable}
use Rattle.cte_prints.proofs.NodesAlike.{derive_cast_to}
use Rattle.cte_prints.proofs.DeriveNodes as derive
use Rattle.cte_prints.proofs.DeriveNodes.{deepened}
use Rattle.cte_prints.proofs.DeriveLevels.{at_or}
use Rattle.cte_prints.specs.Derivation.{IsReadWithin}
use Rattle.cte_prints.specs.InSight.{SightIsWritable}
use Rattle.cte_prints.proofs.WritableColumns.{derivable_leaves}
use Rattle.cte_prints.proofs.WritableReadings.{names_writable}
use Rattle.cte_prints.proofs.LikeTrees.{expr_like}
use Rattle.cte_prints.proofs.WrittenSources.{StandsFor}
use Rattle.cte_prints.proofs.PlainPlaced.{marked_placed, marked_reads, plain_placed}

-- can be derived as a value of the query
abbrev pub IsDerivableAt : Scope → Expr → Type 0
IsDerivableAt s w = Derivable 196 (at l.Or) (qualified_expr w s.levels)

-- at each place that sees the schema's tables, where its slots are columns of the query's own with names that can be written
abbrev pub IsWritableName : Schema → Expr → Type 0
IsWritableName schema e =
    (t : Ty) (s : Scope) (ref : ℕ → Col) → SeesTables schema s → SightIsWritable s.levels → Each (λ k. IsOwn s.levels (ref k))
    (slots_of e) → IsDerivableAt s (placed_at t ref e)

module _ (s : Scope) where
  -- NULL with a type
  pub null_derivable : (t : Ty) → IsDerivableAt s (expr.Cast expr.Null t)
  null_derivable t =
      subst (Derivable 196 (at l.Or)) (sym (d.cast_is expr.Null t s.levels ∙ ap (λ v. expr.Cast v t) (d.null_is s.levels)))
      (at_or l.Primary (derive_cast_to {d = 195} t (at_or l.Primary (derive.derive_literal m.Null refl))))

  pub whole : (t : Ty) (ref : ℕ → Col) (e : Expr) → IsDerivableAt s (placed ref e) → IsDerivableAt s (placed_at t ref e)
  whole t ref b.Null k = null_derivable t
  whole t ref e k = k

-- ---- source expressions

-- an expression that a written one is like where a query has it, under selects of the query's own where nothing is in sight
pub record StandsLike (schema : Schema) (x : Expr) : Type 0 where
  pub written : Expr
  pub holds : IsReadWithin 64 written
  pub like : (s : Scope) (ref : ℕ → Col) → SeesTables schema s → SightIsWritable s.levels → (slots : ℕ → Bool) → ((i : ℕ) → slots i ≡ true → IsOwn s.levels (ref i))
      → (ms : List Level) → LevelsSo [] ms → Allowed slots (expr_of reading x (length ms))
      → IsLike value written (qualified_expr (expr_of (placing (column_of ref)) x (length ms)) (ms ++ s.levels))

module _ (schema : Schema) where
  pub named_like : (x : Expr) → StandsFor (IsReadWithin 64) schema x → StandsLike schema x
  named_like x r = record {
    written = r.written;
    holds = r.holds;
    like = λ s ref tables sight slots owned ms so h.
        let leaf = column_of ref in
        subst (λ x. IsLike value r.written (qualified_expr (expr_of (placing leaf) x (length ms)) (ms ++ s.levels))) r.resolved
        (expr_like s slots leaf (own_leaves s slots ref owned) (derivable_leaves s slots ref sight owned)
        r.written (names_writable (read_so r.holds.reads) r.holds.writable).names r.scope ms r.plain.in_function
        (λ x k. tables.tables x k ∙ ap (λ f. f x) (sym r.plain.tables)) r.plain.no_levels so r.clean
        (subst (λ x. Allowed slots (expr_of reading x (length ms))) (sym r.resolved) h));
  }

  pub marked_like : (p : Places) (x : Expr) → StandsFor (IsReadWithin 64) schema x → StandsLike schema (marked p x)
  marked_like p x r =
      let n = named_like x r in
      record {
        written = n.written;
        holds = n.holds;
        like = λ s ref tables sight slots owned ms so h.
            subst (λ (f : ℕ → Expr). IsLike value n.written (qualified_expr (f (length ms)) (ms ++ s.levels))) (sym (marked_placed (column_of ref) p x))
            (n.like s ref tables sight slots owned ms so (subst (λ (f : Reads). Allowed slots (f (length ms))) (marked_reads p x) h));
      }

-- what a written expression is like at a place
module _ (schema : Schema) (s : Scope) (ref : ℕ → Col) (tables : SeesTables schema s) (sight : SightIsWritable s.levels)
    (e : Expr) (own : Each (λ k. IsOwn s.levels (ref k)) (slots_of e)) where
  owned : (i : ℕ) → is_in (slots_of e) i ≡ true → IsOwn s.levels (ref i)
  owned i h = let p = stands (slots_of e) i h in own p.place i p.there

  pub written_like : (x : Expr) (r : StandsLike schema x) (ms : List Level) → LevelsSo [] ms → Allowed (is_in (slots_of e)) (expr_of reading x (length ms))
      → IsLike value r.written (qualified_expr (expr_of (placing (column_of ref)) x (length ms)) (ms ++ s.levels))
  written_like x r ms so h = r.like s ref tables sight (is_in (slots_of e)) owned ms so h

  -- with one level of brackets less than an entry may have
  like_stands : (x : Expr) → StandsLike schema x → Allowed (is_in (slots_of e)) (expr_of reading x 0) → Derivable 195 (at l.Or) (qualified_expr (placed ref x) s.levels)
  like_stands x r h =
      subst (Derivable 195 (at l.Or)) (sym (plain_placed ref 0 x s.levels))
      (like_derivable r.holds.reads r.holds.writable _ (written_like x r [] tt h))

-- marked alone, and under a cast
module _ (schema : Schema) (p : Places) where
  pub marked_derivable : (e : Expr) → StandsFor (IsReadWithin 64) schema e → IsWritableName schema (marked p e)
  marked_derivable e r t s ref tables sight own =
      let x : Expr = marked p e in
      whole s t ref x (deepened 195 196 (omega arith) (like_stands schema s ref tables sight x own x (marked_like schema p e r) (reads_own x)))

  pub cast_derivable : (u : Ty) (e : Expr) → StandsFor (IsReadWithin 64) schema e → IsWritableName schema (expr.Cast (marked p e) u)
  cast_derivable u e r t s ref tables sight own =
      let x : Expr = marked p e in
      whole s t ref (expr.Cast x u)
      (subst (λ (f : ℕ → Expr). IsDerivableAt s (f 0)) (sym (eq.of_cast (replacing (column_of ref) with_cast) x u))
      (subst (Derivable 196 (at l.Or)) (sym (d.cast_is (placed ref x) u s.levels))
      (at_or l.Primary (derive_cast_to {d = 195} u
      (like_stands schema s ref tables sight (expr.Cast x u) own x (marked_like schema p e r)
      (subst (λ (f : Reads). Allowed (is_in (slots_of (expr.Cast x u))) (f 0)) (eq.of_cast reading x u) (reads_own (expr.Cast x u))))))))
