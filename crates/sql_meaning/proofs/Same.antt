-- Parts with the same meaning in two contexts make a node with the same meaning there. The contexts differ in what stands outside the expression:
-- its variables, the arguments, the rows of enclosing selects and the tables.
use Rattle.std.proofs.Common.{◌≡◌, refl, ℕ, suc, ◌<◌, Bool, true, false, not, ◌&&◌, ◌||◌, if◌then◌else◌, nat_lt, map, length, List, [], ◌∷◌, ◌++◌, slice_index_or, zip, Option, Some, None, Ok, ap, sym, ◌∙◌, drop, filter, arith}
use Rattle.std.proofs.Math.ListN.{get_or-append}
use Rattle.std.proofs.lemmas.Bool.{ltb-true}
use Rattle.std.specs.List.{list_any}
use Rattle.away_values.specs.declared.types.Ty.{Ty}
use Rattle.away_values.specs.declared.values.Value.{Value}
use Rattle.away_values.specs.declared.values.Value.TheVariants as val
use Rattle.away_values.specs.declared.operators.ChainOp.{ChainOp}
use Rattle.away_values.specs.declared.operators.CmpOp.{CmpOp}
use Rattle.away_values.specs.declared.operators.IsTest.{IsTest}
use Rattle.away_trees.specs.declared.queries.Col.{Col}
use Rattle.away_trees.specs.declared.queries.Expr.TheOpen as ex
use Rattle.away_values.specs.Operators.{compare, is_null, negated, negation, negation_if, passes, cast, small}
use Rattle.away_values.specs.Results.{Or, and_then, mapped, each, each_joined}
use Rattle.sql_meaning.specs.Context.{Rows, Frame, Context, at_row}
use Rattle.sql_meaning.specs.Expressions.{ExprMeaning, FromMeaning, SelectMeaning, KeyMeaning, QueryMeaning, answers, link_answers, arm_answers, values, any_aggregates, other_value, other_aggregates, over_group, called, expr_meaning}
use Rattle.sql_meaning.specs.Functions.{Function, Coalesce, function, is_aggregate, aggregate, scalar}
use Rattle.sql_meaning.specs.Parts.{between, chained, among, chosen, first_known, only, has_row}
use Rattle.std.specs.Ordering.{is_lt}
use Rattle.sql_meaning.specs.KeyOrder.{keys_cmp}
use Rattle.sql_meaning.specs.Selects.{extend, product, keep, kept, comes_before, sorted, ordered, taken, cut, listed, select_meaning, union}
use Rattle.sql_meaning.proofs.Lists.{Zipped, ZippedOption, any_same}

-- so many frames of the expression's own selects, innermost first, and the rows of an aggregate, of which there are none outside its selects
pub record Ready (d : ℕ) (l g : List Frame) : Type 0 where
  pub size : length l ≡ d
  pub alone : d ≡ 0 → g ≡ []

pub into : (d : ℕ) (l g : List Frame) → Ready d l g → (frame : Frame) (rows : List Frame) → Ready (suc d) (frame ∷ l) rows
into d l g r frame rows = record { size = ap suc r.size; alone = λ z. absurd (omega arith) }

-- what stands outside the expression
pub record Surroundings : Type 0 where
  pub env : List Value
  pub args : List Value
  pub outer : List Frame
  pub tables : List Rows

module _ (one two : Surroundings) where
  -- the two contexts
  abbrev pub here : List Frame → List Frame → Context
  here l g = record { env = one.env; args = one.args; frames = l ++ one.outer; tables = one.tables; group = g }

  abbrev pub there : List Frame → List Frame → Context
  there l g = record { env = two.env; args = two.args; frames = l ++ two.outer; tables = two.tables; group = g }

  abbrev pub Gives : {A : Type 0} → ℕ → (Context → Or A) → (Context → Or A) → Type 0
  Gives d x y = (l g : List Frame) → Ready d l g → y (there l g) ≡ x (here l g)

  abbrev pub Same : ℕ → ExprMeaning → ExprMeaning → Type 0
  Same d x y = (y.aggregates ≡ x.aggregates) × Gives d x.value y.value

  abbrev pub SameLink : ℕ → ChainOp × ExprMeaning → ChainOp × ExprMeaning → Type 0
  SameLink d x y = (y.0 ≡ x.0) × Same d x.1 y.1

  abbrev pub SameArm : ℕ → ExprMeaning × ExprMeaning → ExprMeaning × ExprMeaning → Type 0
  SameArm d x y = Same d x.0 y.0 × Same d x.1 y.1

  abbrev pub SameKey : ℕ → KeyMeaning → KeyMeaning → Type 0
  SameKey d x y = (y.descending ≡ x.descending) × Gives d x.value y.value

  abbrev pub SameFrom : ℕ → FromMeaning → FromMeaning → Type 0
  SameFrom d x y = (frame : Frame) → Gives d (λ cx. x cx frame) (λ cx. y cx frame)

  abbrev pub SameQuery : ℕ → QueryMeaning → QueryMeaning → Type 0
  SameQuery d x y = Gives d x.rows y.rows

  -- ---- lists of expressions

  any_terms : (d : ℕ) (xs ys : List ExprMeaning) → Zipped (Same d) xs ys → any_aggregates ys ≡ any_aggregates xs
  any_terms d xs ys h = any_same (Same d) (λ t. t.aggregates) (λ t. t.aggregates) (λ x y s. s.0) xs ys h

  any_links : (d : ℕ) (xs ys : List (ChainOp × ExprMeaning)) → Zipped (SameLink d) xs ys → list_any (λ (l : ChainOp × ExprMeaning). l.1.aggregates) ys ≡ list_any (λ (l : ChainOp × ExprMeaning). l.1.aggregates) xs
  any_links d xs ys h = any_same (SameLink d) (λ l. l.1.aggregates) (λ l. l.1.aggregates) (λ x y s. s.1.0) xs ys h

  any_arms : (d : ℕ) (xs ys : List (ExprMeaning × ExprMeaning)) → Zipped (SameArm d) xs ys → list_any (λ (a : ExprMeaning × ExprMeaning). a.0.aggregates || a.1.aggregates) ys ≡ list_any (λ (a : ExprMeaning × ExprMeaning). a.0.aggregates || a.1.aggregates) xs
  any_arms d xs ys h = any_same (SameArm d) (λ a. a.0.aggregates || a.1.aggregates) (λ a. a.0.aggregates || a.1.aggregates) (λ x y s i. s.0.0 i || s.1.0 i) xs ys h

  answers_same : (d : ℕ) (xs ys : List ExprMeaning) → Zipped (Same d) xs ys → (l g : List Frame) → Ready d l g → answers (there l g) ys ≡ answers (here l g) xs
  answers_same d [] [] h l g r = refl
  answers_same d (x ∷ xs) (y ∷ ys) h l g r = λ i. h.0.1 l g r i ∷ answers_same d xs ys h.1 l g r i
  answers_same d _ _ h l g r = absurd h

  link_answers_same : (d : ℕ) (xs ys : List (ChainOp × ExprMeaning)) → Zipped (SameLink d) xs ys → (l g : List Frame) → Ready d l g → link_answers (there l g) ys ≡ link_answers (here l g) xs
  link_answers_same d [] [] h l g r = refl
  link_answers_same d (x ∷ xs) (y ∷ ys) h l g r = λ i. (h.0.0 i, h.0.1.1 l g r i) ∷ link_answers_same d xs ys h.1 l g r i
  link_answers_same d _ _ h l g r = absurd h

  arm_answers_same : (d : ℕ) (xs ys : List (ExprMeaning × ExprMeaning)) → Zipped (SameArm d) xs ys → (l g : List Frame) → Ready d l g → arm_answers (there l g) ys ≡ arm_answers (here l g) xs
  arm_answers_same d [] [] h l g r = refl
  arm_answers_same d (x ∷ xs) (y ∷ ys) h l g r = λ i. (h.0.0.1 l g r i, h.0.1.1 l g r i) ∷ arm_answers_same d xs ys h.1 l g r i
  arm_answers_same d _ _ h l g r = absurd h

  values_same : (d : ℕ) (xs ys : List ExprMeaning) → Zipped (Same d) xs ys → Gives d (λ cx. values cx xs) (λ cx. values cx ys)
  values_same d xs ys h l g r = ap (each (λ o. o)) (answers_same d xs ys h l g r)

  other_same : (d : ℕ) (x y : Option ExprMeaning) → ZippedOption (Same d) x y → Gives d (λ cx. other_value cx x) (λ cx. other_value cx y)
  other_same d None None h l g r = refl
  other_same d (Some x) (Some y) h l g r = h.1 l g r
  other_same d _ _ h l g r = absurd h

  other_single : (d : ℕ) (x y : Option ExprMeaning) → ZippedOption (Same d) x y → other_aggregates y ≡ other_aggregates x
  other_single d None None h = refl
  other_single d (Some x) (Some y) h = h.0
  other_single d _ _ h = absurd h

  -- an aggregate's argument stands at a row of the innermost select
  rows_same : (d : ℕ) (xs ys : List ExprMeaning) → Zipped (Same d) xs ys → Gives d (λ cx. each_joined (λ frame. values (at_row frame cx) xs) cx.group) (λ cx. each_joined (λ frame. values (at_row frame cx) ys) cx.group)
  rows_same d xs ys h [] g r =
      let none = r.alone (sym r.size) in
      ap (each_joined (λ frame. values (at_row frame (there [] [])) ys)) none ∙ sym (ap (each_joined (λ frame. values (at_row frame (here [] [])) xs)) none)
  rows_same d xs ys h (f ∷ fs) g r =
      λ i. each_joined (λ frame. values_same d xs ys h (frame ∷ fs) [] (record { size = r.size; alone = λ z. refl }) i) g

  over_group_same : (d : ℕ) (f : Function) (xs ys : List ExprMeaning) → Zipped (Same d) xs ys → Gives d (over_group f xs) (over_group f ys)
  over_group_same d f xs ys h l g r = λ i. and_then (rows_same d xs ys h l g r i) (λ vs. aggregate f (filter (λ v. not (is_null v)) vs))

  called_same : (d : ℕ) (f : Function) (xs ys : List ExprMeaning) → Zipped (Same d) xs ys → Gives d (called f xs) (called f ys)
  called_same d Coalesce xs ys h l g r = ap first_known (answers_same d xs ys h l g r)
  called_same d f xs ys h l g r = λ i. if is_aggregate f then over_group_same d f xs ys h l g r i else and_then (values_same d xs ys h l g r i) (scalar f)

  -- ---- expressions

  pub column_same : (d : ℕ) (c : Col) → nat_lt c.level d ≡ true → Same d (expr_meaning (ex.Column c)) (expr_meaning (ex.Column c))
  column_same d c h = (refl, λ l g r. inner l g r)
    where
      inner : Gives d (expr_meaning (ex.Column c)).value (expr_meaning (ex.Column c)).value
      inner l g r =
          let below : c.level < length l = omega (arith, ltb-true c.level d h, r.size) in
          ap (λ f. Ok (slice_index_or (slice_index_or f c.item []) c.column val.Null)) (get_or-append l two.outer [] c.level below ∙ sym (get_or-append l one.outer [] c.level below))

  pub neg_same : (d : ℕ) (x y : ExprMeaning) → Same d x y → Same d (expr_meaning (ex.Neg x)) (expr_meaning (ex.Neg y))
  neg_same d x y h = (h.0, λ l g r i. and_then (h.1 l g r i) negated)

  pub neg_small_same : (d : ℕ) (x y : ExprMeaning) → Same d x y → Same d (expr_meaning (ex.NegSmall x)) (expr_meaning (ex.NegSmall y))
  neg_small_same d x y h = (h.0, λ l g r i. and_then (h.1 l g r i) (λ v. and_then (negated v) small))

  pub not_same : (d : ℕ) (x y : ExprMeaning) → Same d x y → Same d (expr_meaning (ex.Not x)) (expr_meaning (ex.Not y))
  not_same d x y h = (h.0, λ l g r i. mapped negation (h.1 l g r i))

  pub is_same : (d : ℕ) (x y : ExprMeaning) (test : IsTest) (negative : Bool) → Same d x y → Same d (expr_meaning (ex.Is x test negative)) (expr_meaning (ex.Is y test negative))
  is_same d x y test negative h = (h.0, λ l g r i. mapped (λ v. negation_if negative (val.Bool (passes test v))) (h.1 l g r i))

  pub chain_same : (d : ℕ) (x y : ExprMeaning) (xs ys : List (ChainOp × ExprMeaning)) → Same d x y → Zipped (SameLink d) xs ys → Same d (expr_meaning (ex.Chain x xs)) (expr_meaning (ex.Chain y ys))
  chain_same d x y xs ys h k = (λ i. h.0 i || any_links d xs ys k i, λ l g r i. and_then (h.1 l g r i) (chained (link_answers_same d xs ys k l g r i)))

  pub compare_same : (d : ℕ) (op : CmpOp) (x₁ x₂ y₁ y₂ : ExprMeaning) → Same d x₁ y₁ → Same d x₂ y₂ → Same d (expr_meaning (ex.Compare op x₁ x₂)) (expr_meaning (ex.Compare op y₁ y₂))
  compare_same d op x₁ x₂ y₁ y₂ h k = (λ i. h.0 i || k.0 i, λ l g r i. and_then (h.1 l g r i) (λ v. mapped (compare op v) (k.1 l g r i)))

  pub between_same : (d : ℕ) (negative : Bool) (x₁ x₂ x₃ y₁ y₂ y₃ : ExprMeaning) → Same d x₁ y₁ → Same d x₂ y₂ → Same d x₃ y₃ → Same d (expr_meaning (ex.Between negative x₁ x₂ x₃)) (expr_meaning (ex.Between negative y₁ y₂ y₃))
  between_same d negative x₁ x₂ x₃ y₁ y₂ y₃ h k m =
      (λ i. h.0 i || (k.0 i || m.0 i), λ l g r i. mapped (negation_if negative) (and_then (h.1 l g r i) (λ v. and_then (k.1 l g r i) (λ w. between v w (m.1 l g r i)))))

  pub one_of_same : (d : ℕ) (negative : Bool) (x y : ExprMeaning) (xs ys : List ExprMeaning) → Same d x y → Zipped (Same d) xs ys → Same d (expr_meaning (ex.OneOf negative x xs)) (expr_meaning (ex.OneOf negative y ys))
  one_of_same d negative x y xs ys h k =
      (λ i. h.0 i || any_terms d xs ys k i, λ l g r i. mapped (negation_if negative) (and_then (h.1 l g r i) (λ v. among v (answers_same d xs ys k l g r i) (val.Bool false))))

  pub cast_same : (d : ℕ) (x y : ExprMeaning) (t : Ty) → Same d x y → Same d (expr_meaning (ex.Cast x t)) (expr_meaning (ex.Cast y t))
  cast_same d x y t h = (h.0, λ l g r i. and_then (h.1 l g r i) (cast t))

  pub cases_same : (d : ℕ) (xs ys : List (ExprMeaning × ExprMeaning)) (x y : Option ExprMeaning) → Zipped (SameArm d) xs ys → ZippedOption (Same d) x y → Same d (expr_meaning (ex.Cases xs x)) (expr_meaning (ex.Cases ys y))
  cases_same d xs ys x y h k =
      (λ i. any_arms d xs ys h i || other_single d x y k i, λ l g r i. chosen (other_same d x y k l g r i) (arm_answers_same d xs ys h l g r i))

  pub call_same : (d : ℕ) (name : List ℕ) (xs ys : List ExprMeaning) → Zipped (Same d) xs ys → Same d (expr_meaning (ex.Call name xs)) (expr_meaning (ex.Call name ys))
  call_same d name xs ys h = (λ i. is_aggregate (function name) || any_terms d xs ys h i, called_same d (function name) xs ys h)

  pub scalar_same : (d : ℕ) (x y : QueryMeaning) → SameQuery d x y → Same d (expr_meaning (ex.Scalar x)) (expr_meaning (ex.Scalar y))
  scalar_same d x y h = (refl, λ l g r i. and_then (h l g r i) only)

  pub exists_same : (d : ℕ) (x y : QueryMeaning) → SameQuery d x y → Same d (expr_meaning (ex.Exists x)) (expr_meaning (ex.Exists y))
  exists_same d x y h = (refl, λ l g r i. mapped (λ rows. val.Bool (has_row rows)) (h l g r i))

  -- ---- selects

  -- a subquery in FROM stands at the row so far, or at a row without columns
  pub sub_same : (d : ℕ) (x y : QueryMeaning) (lateral : Bool) → SameQuery (suc d) x y → (frame : Frame) (l g : List Frame) → Ready d l g → y.rows (there ((if lateral then frame else []) ∷ l) []) ≡ x.rows (here ((if lateral then frame else []) ∷ l) [])
  sub_same d x y lateral h frame l g r = h ((if lateral then frame else []) ∷ l) [] (into d l g r (if lateral then frame else []) [])

  extend_same : (d : ℕ) (x y : FromMeaning) → SameFrom d x y → (frames : List Frame) → Gives d (λ cx. extend cx x frames) (λ cx. extend cx y frames)
  extend_same d x y h frames l g r = λ i. each_joined (λ frame. mapped (map (λ row. frame ++ row ∷ [])) (h frame l g r i)) frames

  product_same : (d : ℕ) (xs ys : List FromMeaning) → Zipped (SameFrom d) xs ys → (frames : List Frame) → Gives d (λ cx. product cx xs frames) (λ cx. product cx ys frames)
  product_same d [] [] h frames l g r = refl
  product_same d (x ∷ xs) (y ∷ ys) h frames l g r = λ i. and_then (extend_same d x y h.0 frames l g r i) (λ more. product_same d xs ys h.1 more l g r i)
  product_same d _ _ h frames l g r = absurd h

  kept_same : (d : ℕ) (x y : Option ExprMeaning) → ZippedOption (Same (suc d)) x y → (frames : List Frame) → Gives d (λ cx. kept cx x frames) (λ cx. kept cx y frames)
  kept_same d None None h frames l g r = refl
  kept_same d (Some x) (Some y) h frames l g r = λ i. keep (λ frame. h.1 (frame ∷ l) [] (into d l g r frame []) i) frames
  kept_same d _ _ h frames l g r = absurd h

  falls_same : (d : ℕ) (xs ys : List KeyMeaning) → Zipped (SameKey d) xs ys → map (λ (k : KeyMeaning). k.descending) ys ≡ map (λ (k : KeyMeaning). k.descending) xs
  falls_same d [] [] h = refl
  falls_same d (x ∷ xs) (y ∷ ys) h = λ i. h.0.0 i ∷ falls_same d xs ys h.1 i
  falls_same d _ _ h = absurd h

  before_same : (d : ℕ) (xs ys : List KeyMeaning) → Zipped (SameKey d) xs ys → comes_before ys ≡ comes_before xs
  before_same d xs ys h = λ i as_ bs. is_lt (keys_cmp (falls_same d xs ys h i) as_ bs)

  keys_same : (d : ℕ) (xs ys : List KeyMeaning) → Zipped (SameKey d) xs ys → Gives d (λ cx. each (λ (s : KeyMeaning). s.value cx) xs) (λ cx. each (λ (s : KeyMeaning). s.value cx) ys)
  keys_same d [] [] h l g r = refl
  keys_same d (x ∷ xs) (y ∷ ys) h l g r = λ i. and_then (h.0.1 l g r i) (λ v. mapped (λ vs. v ∷ vs) (keys_same d xs ys h.1 l g r i))
  keys_same d _ _ h l g r = absurd h

  ordered_same : (d : ℕ) (xs ys : List KeyMeaning) → Zipped (SameKey (suc d)) xs ys → (frames : List Frame) (rows : Rows) → Gives d (λ cx. ordered cx xs frames rows) (λ cx. ordered cx ys frames rows)
  ordered_same d [] [] h frames rows l g r = refl
  ordered_same d (x ∷ xs) (y ∷ ys) h frames rows l g r =
      λ i. mapped (λ keyed. map (λ x. x.1) (sorted (before_same (suc d) (x ∷ xs) (y ∷ ys) h i) keyed)) (each (λ z. mapped (λ keys. (keys, z.1)) (keys_same (suc d) (x ∷ xs) (y ∷ ys) h (z.0 ∷ l) [] (into d l g r z.0 []) i)) (zip frames rows))
  ordered_same d _ _ h frames rows l g r = absurd h

  cut_same : (d : ℕ) (x y : Option ExprMeaning) → ZippedOption (Same (suc d)) x y → (rows : Rows) → Gives d (λ cx. cut cx x rows) (λ cx. cut cx y rows)
  cut_same d None None h rows l g r = refl
  cut_same d (Some x) (Some y) h rows l g r = λ i. and_then (h.1 ([] ∷ l) [] (into d l g r [] []) i) (λ v. taken v rows)
  cut_same d _ _ h rows l g r = absurd h

  listed_same : (d : ℕ) (xs ys : List ExprMeaning) → Zipped (Same (suc d)) xs ys → (ks js : List KeyMeaning) → Zipped (SameKey (suc d)) ks js → (frames : List Frame) → Gives d (λ cx. listed cx xs ks frames) (λ cx. listed cx ys js frames)
  listed_same d xs ys h ks js k frames l g r =
      λ i. if any_terms (suc d) xs ys h i then mapped (λ row. row ∷ []) (values_same (suc d) xs ys h ([] ∷ l) frames (into d l g r [] frames) i)
      else and_then (each (λ frame. values_same (suc d) xs ys h (frame ∷ l) [] (into d l g r frame []) i) frames) (λ rows. ordered_same d ks js k frames rows l g r i)

  pub select_same : (d : ℕ) (l₁ l₂ : List ExprMeaning) (f₁ f₂ : List FromMeaning) (w₁ w₂ : Option ExprMeaning) (o₁ o₂ : List KeyMeaning) (m₁ m₂ : Option ExprMeaning) → Zipped (Same (suc d)) l₁ l₂ → Zipped (SameFrom d) f₁ f₂ → ZippedOption (Same (suc d)) w₁ w₂ → Zipped (SameKey (suc d)) o₁ o₂ → ZippedOption (Same (suc d)) m₁ m₂ → Gives d (select_meaning (record { list = l₁; from = f₁; filter = w₁; order = o₁; limit = m₁ })) (select_meaning (record { list = l₂; from = f₂; filter = w₂; order = o₂; limit = m₂ }))
  select_same d l₁ l₂ f₁ f₂ w₁ w₂ o₁ o₂ m₁ m₂ a f c k m l g r =
      λ i. and_then (product_same d f₁ f₂ f ([] ∷ []) l g r i) (λ frames. and_then (kept_same d w₁ w₂ c frames l g r i) (λ rows. and_then (listed_same d l₁ l₂ a o₁ o₂ k rows l g r i) (λ all. cut_same d m₁ m₂ m all l g r i)))

  pub union_same : (d : ℕ) (xs ys : List SelectMeaning) → Zipped (Gives d) xs ys → Gives d (union xs) (union ys)
  union_same d [] [] h l g r = refl
  union_same d (x ∷ xs) (y ∷ ys) h l g r = λ i. and_then (h.0 l g r i) (λ rows. mapped (λ more. rows ++ more) (union_same d xs ys h.1 l g r i))
  union_same d _ _ h l g r = absurd h
