-- The column beside a slot, along the loop that finds it.
use Rattle.std.proofs.Common.{◌≡◌, ℕ, zero, suc, ◌+◌, ◌<◌, ◌≤◌, if◌then◌else◌, List, [], ◌∷◌, length, drop, get_or, refl, ap, ◌∙◌, arith}
use Rattle.std.specs.Prelude.{nat_eq}
use Rattle.std.proofs.lemmas.List.{drop_more}
use Rattle.away_trees.specs.declared.queries.Col.{Col}
use Rattle.cte_parts.specs.Columns.{column_beside}

dropped : {X : Type 0} (xs : List X) (i : ℕ) → length xs ≤ i → drop i xs ≡ []
dropped [] zero h = refl
dropped [] (suc i) h = refl
dropped (x ∷ xs) zero h = absurd (omega (arith, h))
dropped (x ∷ xs) (suc i) h = dropped xs i (omega (arith, h))

no_slots : (cs : List Col) (d : Col) (n : ℕ) → column_beside [] cs d n ≡ d
unfolding column_beside
no_slots cs d n = refl

no_columns : (ss : List ℕ) (d : Col) (n : ℕ) → column_beside ss [] d n ≡ d
unfolding column_beside
no_columns [] d n = refl
no_columns (s ∷ ss) d n = refl

first_slot : (s : ℕ) (ss : List ℕ) (c : Col) (cs : List Col) (d : Col) (n : ℕ) → column_beside (s ∷ ss) (c ∷ cs) d n ≡ (if nat_eq s n then c else column_beside ss cs d n)
unfolding column_beside
first_slot s ss c cs d n = refl

pub beside_short : (ss : List ℕ) (cs : List Col) (d : Col) (n i : ℕ) → length cs ≤ i → column_beside (drop i ss) (drop i cs) d n ≡ d
beside_short ss cs d n i h = ap (λ zs. column_beside (drop i ss) zs d n) (dropped cs i h) ∙ no_columns (drop i ss) d n

pub beside_end : (ss : List ℕ) (cs : List Col) (d : Col) (n i : ℕ) → length ss ≤ i → column_beside (drop i ss) (drop i cs) d n ≡ d
beside_end ss cs d n i h = ap (λ zs. column_beside zs (drop i cs) d n) (dropped ss i h) ∙ no_slots (drop i cs) d n

abbrev zeros : Col
zeros = record { level = 0; item = 0; column = 0 }

pub beside_step : (ss : List ℕ) (cs : List Col) (d : Col) (n i : ℕ) → i < length ss → i < length cs
    → column_beside (drop i ss) (drop i cs) d n ≡ (if nat_eq (get_or ss i 0) n then get_or cs i zeros else column_beside (drop (i + 1) ss) (drop (i + 1) cs) d n)
beside_step ss cs d n i g h =
    (λ z. column_beside (drop_more ss i 0 g z) (drop_more cs i zeros h z) d n) ∙ first_slot (get_or ss i 0) (drop (i + 1) ss) (get_or cs i zeros) (drop (i + 1) cs) d n

pub ruleset beside_rules = (beside_short, beside_end, beside_step)
