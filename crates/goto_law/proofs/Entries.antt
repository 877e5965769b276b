-- Expressions one after the other in the table: those in front and those behind.
use Rattle.std.proofs.Common.{◌≡◌, ℕ, suc, ◌+◌, [], ◌∷◌, ◌++◌, length, sym, subst, arith}
use Rattle.away_trees.specs.declared.queries.Expr.{Expr}
use Rattle.block_forms.specs.Expressions.{Sources}
use Rattle.goto_law.proofs.Known.{Sides, IsEntry, Entries}

module _ (s : Sides) where
  pub entry_at : (k j : ℕ) (e : Expr) → IsEntry s k e → j ≡ k → IsEntry s j e
  entry_at k j e x is = subst (λ k. IsEntry s k e) (sym is) x

  pub entries_at : (k j : ℕ) (es : Sources) → Entries s k es → j ≡ k → Entries s j es
  entries_at k j es x is = subst (λ k. Entries s k es) (sym is) x

  pub entries_left : (k : ℕ) (es fs : Sources) → Entries s k (es ++ fs) → Entries s k es
  entries_left k [] fs x = tt
  entries_left k (e ∷ es) fs x = (x.0, entries_left (suc k) es fs x.1)

  pub entries_right : (k j : ℕ) (es fs : Sources) → Entries s k (es ++ fs) → j ≡ k + length es → Entries s j fs
  entries_right k j [] fs x is = entries_at k j fs x (omega (arith, is))
  entries_right k j (e ∷ es) fs x is = entries_right (suc k) j es fs x.1 (omega (arith, is))
