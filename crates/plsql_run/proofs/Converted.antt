-- The values of a row, converted one after the other.
use Rattle.std.proofs.Common.{◌≡◌, refl, sym, ◌<◌, length, slice_index_or, slice_get, Option, Some, None, Ok, Err, Bor, nat_lt, ℕ, zero, suc, ◌+◌, List, [], ◌∷◌, ◌++◌, drop, ap, ◌∙◌, arith}
use Rattle.std.specs.Option.{is_some, option_copied, IfSome}
use Rattle.std.proofs.lemmas.Bool.{ltb-true, ltb-false}
use Rattle.std.proofs.lemmas.Option.{slice_get_read, slice_get_past}
use Rattle.away_values.specs.declared.types.Ty.{Ty}
use Rattle.away_values.specs.declared.values.Value.{Value}
use Rattle.away_values.specs.Results.{Or, and_then, mapped}
use Rattle.away_trees.specs.declared.queries.Item.{Item}
use Rattle.plsql_meaning.specs.Conversions.{Target, conversion_by, conversions, converted_value, converted_row, head_or_null}
use Rattle.plsql_run.proofs.Arms.{drop_at}
use Rattle.plsql_run.proofs.Targets.{rest_of_drop}

first_behind : (i : ℕ) (items : List Item) → slice_get (drop i items) 0 ≡ slice_get items i
first_behind zero items = refl
first_behind (suc i) [] = refl
first_behind (suc i) (x ∷ xs) = first_behind i xs

by_one : (i : ℕ) (items : List Item) → drop 1 (drop i items) ≡ drop (suc i) items
by_one zero items = refl
by_one (suc i) [] = refl
by_one (suc i) (x ∷ xs) = by_one i xs

suc_is : (i : ℕ) → suc i ≡ i + 1
suc_is i = omega arith

one_behind : (i : ℕ) (items : List Item) → drop 1 (drop i items) ≡ drop (i + 1) items
one_behind i items = by_one i items ∙ ap (λ k. drop k items) (suc_is i)

append_one : (done : List Value) (w : Value) (vs : List Value) → (done ++ w ∷ []) ++ vs ≡ done ++ w ∷ vs
append_one [] w vs = refl
append_one (v ∷ done) w vs = ap (λ ws. v ∷ ws) (append_one done w vs)

one_more : (done : List Value) (w : Value) (r : Or (List Value)) → mapped (λ vs. (done ++ w ∷ []) ++ vs) r ≡ mapped (λ vs. done ++ vs) (mapped (λ vs. w ∷ vs) r)
one_more done w (Ok vs) = ap (λ ws. Ok ws) (append_one done w vs)
one_more done w (Err c) = refl

pub item_at : (items : List Item) (i : ℕ) (r : Option (Bor Item)) → is_some r ≡ nat_lt i (length items) → IfSome r (λ x. x.now ≡ slice_index_or items i x.now) → option_copied r ≡ slice_get items i
item_at items i None some at = sym (slice_get_past items i (ltb-false i (length items) (sym some)))
item_at items i (Some x) some at = sym (slice_get_read items (length items) i x.now refl (ltb-true i (length items) (sym some)) at)

module _ (types : List Ty) (targets : List Target) (items : List Item) (row : List Value) where
  -- what the targets from one on come to
  abbrev pub rest : ℕ → Or (List Value)
  rest i = converted_row (conversions types (drop i targets) (drop i items)) (drop i row)

  module _ (i : ℕ) (t : Target) (is : t ≡ slice_index_or targets i t) (lt : i < length targets) (v : Value) (e : v ≡ head_or_null (drop i row)) where
    abbrev then : Or Value → Or (List Value)
    then r = and_then r (λ w. mapped (λ ws. w ∷ ws) (rest (i + 1)))

    here : rest i ≡ then (converted_value (conversion_by types t.1 (slice_get items i)) v)
    here =
        ap (λ ts. converted_row (conversions types ts (drop i items)) (drop i row)) (drop_at targets i t is lt)
        ∙ (λ j. and_then (converted_value (conversion_by types t.1 (first_behind i items j)) (sym e j))
        (λ w. mapped (λ ws. w ∷ ws) (converted_row (conversions types (drop (i + 1) targets) (one_behind i items j)) (rest_of_drop i row j))))

    pub value_converted : (done : List Value) (w : Value) → converted_value (conversion_by types t.1 (slice_get items i)) v ≡ Ok w → mapped (λ vs. (done ++ w ∷ []) ++ vs) (rest (i + 1)) ≡ mapped (λ vs. done ++ vs) (rest i)
    value_converted done w h = one_more done w (rest (i + 1)) ∙ ap (mapped (λ vs. done ++ vs)) (sym (here ∙ ap then h))
