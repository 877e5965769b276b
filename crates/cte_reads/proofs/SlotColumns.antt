-- The columns of an expression's slots are those of the term's names.
use Rattle.std.proofs.Common.{◌≡◌, ℕ, suc, ◌-◌, Bool, true, false, nat_eq, List, [], ◌∷◌, get_or, Option, Some, None, refl, sym, ap, ◌∙◌, arith}
use Rattle.std.specs.Prelude.{if◌then◌else◌}
use Rattle.std.proofs.lemmas.Option.{same_Some}
use Rattle.away_trees.specs.declared.queries.Expr.{Expr}
use Rattle.away_trees.specs.declared.queries.Expr.TheVariants as expr
use Rattle.away_values.specs.declared.types.Ty.{Ty}
use Rattle.sql_meaning.specs.Placed.{placed_at}
use Rattle.sql_meaning.specs.Reads.{slots_of}
use Rattle.sql_meaning.specs.Template.{let_item}
use Rattle.block_forms.specs.declared.forms.Term.{Term}
use Rattle.call_forms.specs.Scopes.{paired}
use Rattle.call_forms.specs.Template.{deeper, outside, no_column}
use Rattle.cte_reads.specs.declared.scope.Ref.{Ref}
use Rattle.cte_reads.specs.declared.scope.Scope as code
use Rattle.cte_reads.specs.Entries.{let_at}
use Rattle.cte_reads.specs.Placing.{slot_column}
use Rattle.cte_reads.specs.References.{lookup, col_at, no_ref, ref_or, found_in, one_more, founds, refs_of}

-- the columns of slots that have names are those of their references
nothing : (out : ℕ) → deeper (no_column out) ≡ deeper (col_at out no_ref)
nothing out = ap (λ l. deeper (record { level = l; item = 1; column = 0 })) (let q : suc out ≡ suc out - 0 = omega arith in q)

module _ (s : code.Scope) (out : ℕ) where
  paired_columns : (slots names : List ℕ) (refs : List Ref) → founds s names ≡ Some refs → (i : ℕ)
      → paired (outside (refs_of out s)) (deeper (no_column out)) slots names i ≡ slot_column out slots refs i
  paired_columns [] names refs e i = nothing out
  paired_columns (k ∷ slots) [] [] e i = nothing out
  paired_columns (k ∷ slots) [] (r ∷ refs) e i = absurd (let q : [] ≡ r ∷ refs = same_Some [] (r ∷ refs) e in cc)
  paired_columns (k ∷ slots) (n ∷ names) refs e i = by (λ rs q. paired_columns slots names rs q i) (found_in s n) refl (founds s names) refl e
    where
      here : (r : Ref) (rs : List Ref) → found_in s n ≡ Some r
          → paired (outside (refs_of out s)) (deeper (no_column out)) slots names i ≡ slot_column out slots rs i
          → (b : Bool)
          → (if b then outside (refs_of out s) n else paired (outside (refs_of out s)) (deeper (no_column out)) slots names i)
          ≡ deeper (col_at out (ref_or (if b then Some r else lookup slots rs i)))
      here r rs p next true = ap (λ o. deeper (col_at out (ref_or o))) p
      here r rs p next false = next

      by : ((rs : List Ref) → founds s names ≡ Some rs → paired (outside (refs_of out s)) (deeper (no_column out)) slots names i ≡ slot_column out slots rs i)
          → (o : Option Ref) → found_in s n ≡ o → (os : Option (List Ref)) → founds s names ≡ os → one_more o os ≡ Some refs
          → paired (outside (refs_of out s)) (deeper (no_column out)) (k ∷ slots) (n ∷ names) i ≡ slot_column out (k ∷ slots) refs i
      by next None p os q e = absurd (cc)
      by next (Some r) p None q e = absurd (cc)
      by next (Some r) p (Some rs) q e =
          here r rs p (next rs q) (nat_eq k i) ∙ ap (λ l. slot_column out (k ∷ slots) l i) (same_Some (r ∷ rs) refs e)

  pub let_is : (table : List Expr) (ty : Ty) (t : Term) (slots : List ℕ) (refs : List Ref) → slots ≡ slots_of (get_or table t.expr expr.Null)
      → founds s t.names ≡ Some refs
      → let_item (placed_at ty (slot_column out slots refs) (get_or table t.expr expr.Null)) ≡ let_at table out (refs_of out s) ty t
  let_is table ty t slots refs is found =
      ap (λ l. let_item (placed_at ty (slot_column out l refs) (get_or table t.expr expr.Null))) is
      ∙ (λ j. let_item (placed_at ty (λ i. sym (paired_columns (slots_of (get_or table t.expr expr.Null)) t.names refs found i) j) (get_or table t.expr expr.Null)))
