-- The items that stand for arguments in the judged list have their parameters' types, and the arguments are found again behind the list.
use Rattle.std.proofs.Common.{◌≡◌, refl, ap, ◌∙◌, Bool, true, false, ◌&&◌, ℕ, suc, List, [], ◌∷◌, ◌++◌, map, length, take, drop}
use Rattle.std.specs.Prelude.{flat_map}
use Rattle.std.specs.List.{list_all}
use Rattle.std.proofs.lemmas.Bool.{eqb-true}
use Rattle.away_values.specs.declared.types.Ty.{Ty}
use Rattle.away_values.specs.declared.values.Value.{Value}
use Rattle.away_trees.specs.Algebra.{item_of}
use Rattle.away_trees.specs.declared.queries.Expr.{Expr}
use Rattle.away_trees.specs.declared.queries.Item.{Item}
use Rattle.away_trees.specs.declared.queries.Select.{Select}
use Rattle.away_names.specs.Lookups.{Scope}
use Rattle.away_typing.specs.declared.kind.Kind.{Kind}
use Rattle.away_typing.specs.Kinds.{is_right, same, type_of}
use Rattle.away_typing.specs.Typing as typing
use Rattle.away_typing.specs.Typing.{Places}
use Rattle.sql_meaning.specs.Trees.{item}
use Rattle.type_soundness.specs.Arguments.{Params, Supplied, standing, all}
use Rattle.type_soundness.specs.Sorts.{Every}
use Rattle.type_soundness.proofs.KindRules.{same_is}
use Rattle.type_soundness.proofs.Trees.{left, right}
use Rattle.inline_calls.specs.Judged.{are_types, asked, asked_items, beside_null, has_many}
use Rattle.inline_calls.specs.Parting.{Calls}
use Rattle.inline_calls.specs.Resolving.{expr_of_item, split}
use Rattle.inline_facts.proofs.Resolved.{made_at, resolved_expr}

both_true : (a b : Bool) → (a && b) ≡ true → (a ≡ true) × (b ≡ true)
both_true true b h = (refl, h)
both_true false b h = cc

module _ (o : Scope) (y : Select) (p here : Places) (args : List Value) where
  abbrev pub made_item : Item → Item
  made_item = made_at o y p

  abbrev pub kind_at : Item → Kind
  kind_at i = item_of typing.typing (made_item i) here

  abbrev pub type_at : Item → Ty
  type_at i = type_of (kind_at i)

  abbrev pub params_at : Item → Params
  params_at i = item_of standing (made_item i)

  -- ---- what the check found, item by item

  pub record Found (is : List Item) (ts : List Ty) : Type 0 where
    pub all_right : list_all is_right (map kind_at is) ≡ true
    pub typed : are_types (map type_at is) ts ≡ true
    pub supplied : Supplied args (all (map params_at is))

  pub record IsAsked (t : Ty) (e : Expr) : Type 0 where
    pub right_kind : is_right (kind_at (item (beside_null t e))) ≡ true
    pub of_type : type_at (item (beside_null t e)) ≡ t
    pub given : Supplied args (params_at (item (beside_null t e)))

  abbrev pub AreAsked : List Ty → List Expr → Type 0
  AreAsked [] [] = Unit {0}
  AreAsked (t ∷ ts) (e ∷ es) = IsAsked t e × AreAsked ts es
  AreAsked ts es = ⊥

  one_call : (ts : List Ty) (es : List Expr) → length es ≡ length ts → (rest : List Item) (more : List Ty) → Found (map item (asked ts es) ++ rest) (ts ++ more)
      → AreAsked ts es × Found rest more
  one_call [] [] e rest more h = (tt, h)
  one_call [] (x ∷ es) e rest more h = cc
  one_call (t ∷ ts) [] e rest more h = cc
  one_call (t ∷ ts) (x ∷ es) e rest more h =
      let first = item (beside_null t x) in
      let behind = map item (asked ts es) ++ rest in
      let rights = both_true (is_right (kind_at first)) (list_all is_right (map kind_at behind)) h.all_right in
      let types = both_true (same (type_at first) t) (are_types (map type_at behind) (ts ++ more)) h.typed in
      let others = one_call ts es (same_length e) rest more (record {
        all_right = rights.1;
        typed = types.1;
        supplied = right args (params_at first) (all (map params_at behind)) h.supplied;
      }) in (
        (
          record {
            right_kind = rights.0;
            of_type = same_is (type_at first) t types.0;
            given = left args (params_at first) (all (map params_at behind)) h.supplied;
          },
          others.0,
        ),
        others.1,
      )
    where
      same_length : {m n : ℕ} → suc m ≡ suc n → m ≡ n
      same_length e = cc

  pub all_calls : (ts : List Ty) (calls : Calls) → list_all (has_many (length ts)) calls ≡ true → Found (asked_items ts calls) (flat_map (λ (es : List Expr). ts) calls) → Every (AreAsked ts) calls
  all_calls ts [] many h = tt
  all_calls ts (es ∷ calls) many h =
      let m = both_true (has_many (length ts) es) (list_all (has_many (length ts)) calls) many in
      let parts = one_call ts es (eqb-true (length es) (length ts) m.0) (asked_items ts calls) (flat_map (λ (es : List Expr). ts) calls) h in
      (parts.0, all_calls ts calls m.1 parts.1)

  -- ---- behind the list

  pub rights_behind : {A : Type 0} (h : A → Item) (xs : List A) (ys : List Item) → list_all is_right (map kind_at (map h xs ++ ys)) ≡ true → list_all is_right (map kind_at ys) ≡ true
  rights_behind h [] ys r = r
  rights_behind h (x ∷ xs) ys r = rights_behind h xs ys (both_true (is_right (kind_at (h x))) (list_all is_right (map kind_at (map h xs ++ ys))) r).1

  pub supplied_behind : {A : Type 0} (h : A → Item) (xs : List A) (ys : List Item) → Supplied args (all (map params_at (map h xs ++ ys))) → Supplied args (all (map params_at ys))
  supplied_behind h [] ys s = s
  supplied_behind h (x ∷ xs) ys s = supplied_behind h xs ys (right args (params_at (h x)) (all (map params_at (map h xs ++ ys))) s)

  pub types_behind : {A : Type 0} (h : A → Item) (xs : List A) (ys : List Item) → drop (length xs) (map type_at (map h xs ++ ys)) ≡ map type_at ys
  types_behind h [] ys = refl
  types_behind h (x ∷ xs) ys = types_behind h xs ys

  pub kinds_fused : (is : List Item) → typing.kinds here (map (λ i. item_of typing.typing i) (map made_item is)) ≡ map kind_at is
  kinds_fused [] = refl
  kinds_fused (i ∷ is) = ap (λ ks. kind_at i ∷ ks) (kinds_fused is)

  pub types_fused : (is : List Item) → typing.types_of (map kind_at is) ≡ map type_at is
  types_fused [] = refl
  types_fused (i ∷ is) = ap (λ ts. type_at i ∷ ts) (types_fused is)

  pub params_fused : (is : List Item) → map (λ i. item_of standing i) (map made_item is) ≡ map params_at is
  params_fused [] = refl
  params_fused (i ∷ is) = ap (λ ps. params_at i ∷ ps) (params_fused is)

-- ---- the arguments again

module _ (o : Scope) (y : Select) (p : Places) where
  abbrev made : Item → Item
  made = made_at o y p

  abbrev again : List Item → List Expr
  again is = map expr_of_item (map made is)

  taken : (es : List Expr) (rest : List Item) → take (length es) (again (map item es ++ rest)) ≡ map (resolved_expr o y p) es
  taken [] rest = refl
  taken (e ∷ es) rest = ap (λ xs. resolved_expr o y p e ∷ xs) (taken es rest)

  left_over : (es : List Expr) (rest : List Item) → drop (length es) (again (map item es ++ rest)) ≡ again rest
  left_over [] rest = refl
  left_over (e ∷ es) rest = left_over es rest

  pub split_is : (calls : Calls) → split calls (again (flat_map (map item) calls)) ≡ map (map (resolved_expr o y p)) calls
  split_is [] = refl
  split_is (es ∷ calls) = λ i. taken es (flat_map (map item) calls) i ∷ (ap (split calls) (left_over es (flat_map (map item) calls)) ∙ split_is calls) i

  pub own_behind : (xs ys : List Item) → drop (length xs) (map made (xs ++ ys)) ≡ map made ys
  own_behind [] ys = refl
  own_behind (x ∷ xs) ys = own_behind xs ys

  pub own_taken : (xs ys : List Item) → take (length xs) (map made (xs ++ ys)) ≡ map made xs
  own_taken [] ys = refl
  own_taken (x ∷ xs) ys = ap (λ l. made x ∷ l) (own_taken xs ys)
