-- How the values of arguments grow by one word.
use Rattle.std.proofs.Common.{◌≡◌, refl, sym, ◌∙◌, ap, ℕ, zero, suc, ◌+◌, ◌<◌, ◌≤◌, arith, get_or, drop, List, [], ◌∷◌, ◌++◌, length, map, append_assoc}
use Rattle.std.specs.Prelude.{Option, Some, None, option_map, if◌then◌else◌}
use Rattle.std.specs.Option.{option_and_then}
use Rattle.std.proofs.lemmas.List.{append-nil, length-map}
use Rattle.away_values.specs.declared.types.Ty.{Ty}
use Rattle.away_values.specs.declared.values.Value.{Value}
use Rattle.away_top.specs.Arguments.{are_enough, argument_of, type_of, values_from, values_of}

suc-add-one : (i : ℕ) → suc i + 1 ≡ suc (i + 1)
suc-add-one i = omega arith

-- what is left from a place on, of the list and of its image
pub drop_get : {A : Type 0} (xs : List A) (i : ℕ) (x : A) → i < length xs → x ≡ get_or xs i x → drop i xs ≡ x ∷ drop (i + 1) xs
drop_get [] i x h e = absurd (omega (arith, h))
drop_get (y ∷ ys) zero x h e = ap (λ z. z ∷ ys) (sym e)
drop_get (y ∷ ys) (suc i) x h e = drop_get ys i x (omega (arith, h)) e ∙ ap (λ n. x ∷ drop n (y ∷ ys)) (sym (suc-add-one i))

pub drop_image : {A B : Type 0} (f : A → B) (xs : List A) (i : ℕ) (x : A) → i < length xs → x ≡ get_or xs i x → drop i (map f xs) ≡ f x ∷ drop (i + 1) (map f xs)
drop_image f [] i x h e = absurd (omega (arith, h))
drop_image f (y ∷ ys) zero x h e = ap (λ z. f z ∷ map f ys) (sym e)
drop_image f (y ∷ ys) (suc i) x h e = drop_image f ys i x (omega (arith, h)) e ∙ ap (λ n. f x ∷ drop n (f y ∷ map f ys)) (sym (suc-add-one i))

pub drop_past : {A : Type 0} (xs : List A) (i : ℕ) → length xs ≤ i → drop i xs ≡ []
drop_past [] zero h = refl
drop_past [] (suc i) h = refl
drop_past (x ∷ xs) zero h = absurd (omega arith)
drop_past (x ∷ xs) (suc i) h = drop_past xs i (omega arith)

pub drop_past_image : {A B : Type 0} (f : A → B) (xs : List A) (i : ℕ) → length xs ≤ i → drop i (map f xs) ≡ []
drop_past_image f [] zero h = refl
drop_past_image f [] (suc i) h = refl
drop_past_image f (x ∷ xs) zero h = absurd (omega arith)
drop_past_image f (x ∷ xs) (suc i) h = drop_past_image f xs i (omega arith)

abbrev pub behind : List Value → Option (List Value) → Option (List Value)
behind done o = option_map (λ more. done ++ more) o

pub none_yet : (o : Option (List Value)) → o ≡ behind [] o
none_yet (Some values) = refl
none_yet None = refl

pub one_more : (done : List Value) (v : Value) (o : Option (List Value)) → behind done (option_map (λ more. v ∷ more) o) ≡ behind (done ++ v ∷ []) o
one_more done v (Some more) = ap Some (sym (append_assoc done (v ∷ []) more))
one_more done v None = refl

-- the values of all words, from those that are there and those of the words from a place on
pub record SpelledTo (params : List (ℕ × Ty)) (words : List (List ℕ)) (i : ℕ) (done : List Value) : Type 0 where
  pub rest : values_from params 1 words ≡ behind done (values_from params (i + 1) (drop i words))

pub values_begin : (params : List (ℕ × Ty)) (words : List (List ℕ)) → SpelledTo params words 0 []
values_begin params words = record { rest = none_yet (values_from params 1 words) }

module _ {A : Type 0} (f : A → List ℕ) (params : List (ℕ × Ty)) (words : List A) (i : ℕ) (done : List Value) (word : A) (inside : i < length words) (at : word ≡ get_or words i word)
    (h : SpelledTo params (map f words) i done) where
  values_at : values_from params 1 (map f words)
      ≡ behind done (option_and_then (λ v. option_map (λ vs. v ∷ vs) (values_from params (i + 1 + 1) (drop (i + 1) (map f words)))) (argument_of (type_of params (i + 1)) (f word)))
  unfolding values_from
  values_at = h.rest ∙ ap (λ ws. behind done (values_from params (i + 1) ws)) (drop_image f words i word inside at)

  pub values_more : (v : Value) (all : List Value) → argument_of (type_of params (i + 1)) (f word) ≡ Some v → all ≡ done ++ v ∷ [] → SpelledTo params (map f words) (i + 1) all
  values_more v all is grown =
      let left = values_from params (i + 1 + 1) (drop (i + 1) (map f words)) in
      record {
        rest = values_at ∙ ap (λ o. behind done (option_and_then (λ v. option_map (λ vs. v ∷ vs) left) o)) is ∙ one_more done v left ∙ ap (λ vs. behind vs left) (sym grown);
      }

  pub values_none : argument_of (type_of params (i + 1)) (f word) ≡ None → values_from params 1 (map f words) ≡ None
  values_none is =
      let left = values_from params (i + 1 + 1) (drop (i + 1) (map f words)) in
      values_at ∙ ap (λ o. behind done (option_and_then (λ v. option_map (λ vs. v ∷ vs) left) o)) is

pub values_end : {A : Type 0} (f : A → List ℕ) (params : List (ℕ × Ty)) (words : List A) (i : ℕ) (done : List Value) → length words ≤ i → SpelledTo params (map f words) i done
    → values_from params 1 (map f words) ≡ Some done
unfolding values_from
values_end f params words i done past h =
    h.rest ∙ ap (λ ws. behind done (values_from params (i + 1) ws)) (drop_past_image f words i past) ∙ ap Some (append-nil done)

-- a query's arguments are judged by their number first
pub values_are : {A : Type 0} (f : A → List ℕ) (params : List (ℕ × Ty)) (words : List A)
    → values_of params (map f words) ≡ (if are_enough params (length words) then values_from params 1 (map f words) else None)
unfolding values_of
values_are f params words = ap (λ n. if are_enough params n then values_from params 1 (map f words) else None) (length-map words f)
