-- The arguments of the first row, along the loop that writes them.
use Rattle.std.proofs.Common.{◌≡◌, refl, ap, sym, ◌∙◌, ℕ, zero, suc, ◌+◌, ◌<◌, Bool, true, false, if◌then◌else◌, List, [], ◌∷◌, ◌++◌, map, length, take, Option, Some, None, arith, append_assoc}
use Rattle.std.specs.Prelude.{nat_eq}
use Rattle.std.proofs.lemmas.List.{map-append}
use Rattle.away_trees.specs.declared.queries.Expr.{Expr}
use Rattle.away_trees.specs.declared.queries.Expr.TheVariants as expr
use Rattle.away_trees.specs.declared.queries.Item.{Item}
use Rattle.away_values.specs.declared.types.Ty.{Ty}
use Rattle.sql_meaning.specs.Trees.{item, null_of}
use Rattle.call_forms.specs.Scopes.{paired}
use Rattle.call_forms.specs.Template.{argument_cells}
use Rattle.turn_template.specs.TurnTemplate.{passed}

module _ (types : ℕ → Ty) (t : Ty) where
  abbrev argument_at : List ℕ → List ℕ → ℕ → Expr
  argument_at places params i = paired (λ p. expr.Param (suc p) (types p)) (null_of t) places params i

  abbrev argument_of : Option ℕ → Expr
  argument_of None = null_of t
  argument_of (Some p) = expr.Param (suc p) (types p)

  argument_is : (places params : List ℕ) (i : ℕ) → argument_of (passed places params i) ≡ argument_at places params i
  argument_is [] params i = refl
  argument_is (k ∷ ks) [] i = refl
  argument_is (k ∷ ks) (n ∷ ns) i = by (nat_eq k i) (argument_is ks ns i)
    where
      by : (b : Bool)
          → argument_of (passed ks ns i) ≡ paired (λ p. expr.Param (suc p) (types p)) (null_of t) ks ns i
          → argument_of (if b then Some n else passed ks ns i)
          ≡ (if b then expr.Param (suc n) (types n) else paired (λ p. expr.Param (suc p) (types p)) (null_of t) ks ns i)
      by true rest = refl
      by false rest = rest

  -- the argument where no name stands beside the place, and where one does
  pub no_argument : (places params : List ℕ) (i : ℕ) → passed places params i ≡ None → null_of t ≡ argument_at places params i
  no_argument places params i missed = sym (ap argument_of missed) ∙ argument_is places params i

  pub an_argument : (places params : List ℕ) (i p : ℕ) → passed places params i ≡ Some p → expr.Param (suc p) (types p) ≡ argument_at places params i
  an_argument places params i p found = sym (ap argument_of found) ∙ argument_is places params i

module _ (types : ℕ → Ty) (places params : List ℕ) where
  arguments_end : (i : ℕ) (ts : List Ty) (t : Ty)
      → argument_cells types i places params (ts ++ (t ∷ []))
      ≡ argument_cells types i places params ts ++ (argument_at types t places params (i + length ts) ∷ [])
  arguments_end i [] t =
      let here : i ≡ i + 0 = omega arith in
      ap (λ k. argument_at types t places params k ∷ []) here
  arguments_end i (u ∷ ts) t =
      let next : suc i + length ts ≡ i + length (u ∷ ts) = omega arith in
      ap (λ xs. argument_at types u places params i ∷ xs)
      (arguments_end (suc i) ts t ∙ ap (λ k. argument_cells types (suc i) places params ts ++ (argument_at types t places params k ∷ [])) next)

  -- one more argument
  pub one_more_argument : (before list after : List Item) (i k : ℕ) (ts us : List Ty) (t : Ty) (e : Expr)
      → list ≡ before ++ map item (argument_cells types 0 places params ts) → us ≡ ts ++ (t ∷ []) → length ts ≡ i → k ≡ i
      → e ≡ argument_at types t places params k → after ≡ list ++ (item e ∷ []) → after ≡ before ++ map item (argument_cells types 0 places params us)
  one_more_argument before list after i k ts us t e h step long here is added =
      let counted : k ≡ 0 + length ts = omega (arith, long, here) in
      let cells : List Expr = argument_cells types 0 places params ts in
      let last : Expr = argument_at types t places params (0 + length ts) in
      added
      ∙ ((λ j. h j ++ (item ((is ∙ ap (λ n. argument_at types t places params n) counted) j) ∷ []))
      ∙ (append_assoc before (map item cells) (item last ∷ [])
      ∙ (ap (λ xs. before ++ xs) (sym (map-append item cells (last ∷ [])))
      ∙ ap (λ xs. before ++ map item xs) (sym (ap (λ xs. argument_cells types 0 places params xs) step ∙ arguments_end 0 ts t)))))

pub taken : {X : Type 0} (xs : List X) (i : ℕ) → i < length xs → length (take i xs) ≡ i
taken [] i h = absurd (let no : ⊥ = omega (arith, h) in no)
taken (x ∷ xs) zero h = refl
taken (x ∷ xs) (suc i) h = ap suc (taken xs i (omega (arith, h)))

-- the cells of a row in three parts
pub in_parts : (xs ys zs : List Expr) → (map item xs ++ map item ys) ++ map item zs ≡ map item (xs ++ (ys ++ zs))
in_parts xs ys zs =
    append_assoc (map item xs) (map item ys) (map item zs)
    ∙ (ap (λ l. map item xs ++ l) (sym (map-append item ys zs)) ∙ sym (map-append item xs (ys ++ zs)))
