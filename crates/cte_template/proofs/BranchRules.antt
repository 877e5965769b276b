-- The branches of labels.
use Rattle.std.proofs.Common.{◌≡◌, ap, sym, ◌∙◌, subst, ℕ, suc, ◌+◌, ◌<◌, ◌≤◌, ◌^◌, List, [], ◌∷◌, ◌++◌, length, get_or, append_assoc, append-nil, ⊎_elim, eq-or-lt_of_le, arith}
use Rattle.std.proofs.lemmas.Option.{get_or_from_slice_get}
use Rattle.std.specs.Prelude.{slice_get, Some, None}
use Rattle.away_trees.specs.declared.queries.Expr.TheViews.{roll-Select}
use Rattle.away_trees.specs.declared.queries.Item.{Item}
use Rattle.away_trees.specs.declared.queries.Select.{Select}
use Rattle.away_values.specs.declared.types.Ty.{Ty}
use Rattle.call_forms.specs.Bodies.{tree}
use Rattle.call_forms.specs.Forms.{params_of}
use Rattle.call_forms.specs.Scopes.{Scope, paired}
use Rattle.cte_template.specs.Making.{Making}
use Rattle.cte_template.specs.Places.{nowhere, carried_place}
use Rattle.cte_template.specs.CarriedNumbers.{AliasesFit}
use Rattle.cte_template.specs.CarriedTree.{at_label, branch, branches}
use Rattle.cte_parts.specs.Trees.{gate_as}
use Rattle.cte_template.specs.CarriedWalks.{walk, written, rest, from_block}
use Rattle.cte_template.specs.Written.{Walked, selected, keys_of}
use Rattle.cte_template.specs.declared.draft.Draft.{Draft}
use Rattle.cte_template.specs.declared.places.ItemColumn.{ItemColumn}

-- a branch whose gate stands in the draft, and whose list is written
pub branch_is : (m : Making) (carried : List Ty) (i b most : ℕ) (places : Scope ItemColumn) (d after : Draft) (list : List Item) (s : Select)
    → places ≡ paired (carried_place carried) nowhere (params_of (slice_get m.anf.blocks b)) (keys_of m i) → d.items ≡ gate_as 1 (at_label m (i + 1)) ∷ [] → d.next ≡ 2
    → most ≡ length m.anf.blocks → written after list ≡ rest m carried 1 places d (from_block m most b) → s ≡ selected (written after list) → s ≡ branch m carried i b
unfolding rest from_block
branch_is m carried i b most places d after list s here items next many h made =
    let more : i + 1 ≡ suc i = omega arith in
    made
    ∙ ap selected (h ∙ (λ j. walk m carried 1 (here j) ((items ∙ ap (λ n. gate_as 1 (at_label m n) ∷ []) more) j) (next j) (tree m.anf m.tail (many j) b)))

-- the numbers of its aliases fit where the last one does
pub branch_fits : (m : Making) (carried : List Ty) (i b most : ℕ) (places : Scope ItemColumn) (d after : Draft) (list : List Item)
    → places ≡ paired (carried_place carried) nowhere (params_of (slice_get m.anf.blocks b)) (keys_of m i) → d.items ≡ gate_as 1 (at_label m (i + 1)) ∷ [] → d.next ≡ 2
    → most ≡ length m.anf.blocks → written after list ≡ rest m carried 1 places d (from_block m most b) → after.next ≤ 2 ^ 64 → AliasesFit m carried i b
unfolding rest from_block
branch_fits m carried i b most places d after list here items next many h fits =
    let more : i + 1 ≡ suc i = omega arith in
    subst (λ (w : Walked). w.next ≤ 2 ^ 64)
    (h ∙ (λ j. walk m carried 1 (here j) ((items ∙ ap (λ n. gate_as 1 (at_label m n) ∷ []) more) j) (next j) (tree m.anf m.tail (many j) b))) fits

-- one more branch behind those that are there
pub one_branch : (m : Making) (carried : List Ty) (i b : ℕ) (xs left : List ℕ) (list now whole : List Select) (s : Select)
    → xs ≡ b ∷ left → s ≡ branch m carried i b → now ≡ list ++ (s ∷ []) → list ++ branches m carried i xs ≡ whole → now ++ branches m carried (i + 1) left ≡ whole
one_branch m carried i b xs left list now whole s here made pushed h =
    let more : i + 1 ≡ suc i = omega arith in
    (λ j. pushed j ++ branches m carried (more j) left)
    ∙ (append_assoc list (s ∷ []) (branches m carried (suc i) left)
    ∙ ((λ j. list ++ (made j ∷ branches m carried (suc i) left)) ∙ (ap (λ ys. list ++ branches m carried i ys) (sym here) ∙ h)))

pub all_branches : (m : Making) (carried : List Ty) (i : ℕ) (xs : List ℕ) (list whole : List Select) → xs ≡ [] → list ++ branches m carried i xs ≡ whole → list ≡ whole
all_branches m carried i xs list whole none h = sym (append-nil list) ∙ (ap (λ ys. list ++ branches m carried i ys) (sym none) ∙ h)

-- the aliases of one more label fit
pub one_fits : (m : Making) (carried : List Ty) (i : ℕ) (xs : List ℕ) → AliasesFit m carried i (get_or xs i 0) → ((j b : ℕ) → j < i → slice_get xs j ≡ Some b → AliasesFit m carried j b)
    → (j b : ℕ) → j < i + 1 → slice_get xs j ≡ Some b → AliasesFit m carried j b
one_fits m carried i xs new before j b lt there = ⊎_elim
    (λ same. subst (λ j. AliasesFit m carried j b) (sym same) (subst (λ b. AliasesFit m carried i b) (get_or_from_slice_get xs i b 0 (subst (λ j. slice_get xs j ≡ Some b) same there)) new))
    (λ less. before j b less there) (eq-or-lt_of_le (let le : j ≤ i = omega (arith, lt) in le))
