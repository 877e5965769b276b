-- How the values of a function's arguments grow by one word.
use Rattle.std.proofs.Common.{◌≡◌, refl, sym, ◌∙◌, ap, ℕ, suc, ◌+◌, ◌<◌, ◌≤◌, get_or, drop, List, [], ◌∷◌, ◌++◌, length, map}
use Rattle.std.specs.Prelude.{Option, Some, None, option_map}
use Rattle.std.specs.Option.{option_and_then}
use Rattle.std.proofs.lemmas.List.{append-nil}
use Rattle.away_values.specs.declared.types.Ty.{Ty}
use Rattle.away_values.specs.declared.values.Value.{Value}
use Rattle.csv_tables.specs.Cells.{value_of}
use Rattle.away_top.specs.Arguments.{values_for}
use Rattle.away_top.proofs.ArgumentSteps.{behind, drop_get, drop_image, drop_past, drop_past_image, none_yet, one_more}

abbrev pub Params : Type 0
Params = List (List ℕ × Ty)

-- the values of all words, from those that are there and those of the parameters and words from a place on
pub record MatchedTo (params : Params) (words : List (List ℕ)) (i : ℕ) (done : List Value) : Type 0 where
  pub rest : values_for params words ≡ behind done (values_for (drop i params) (drop i words))

pub match_begins : (params : Params) (words : List (List ℕ)) → MatchedTo params words 0 []
match_begins params words = record { rest = none_yet (values_for params words) }

none_behind : {A B : Type 0} (o : Option A) (g : A → B → B) (left : Option B) → left ≡ None → option_and_then (λ v. option_map (g v) left) o ≡ None
none_behind None g left e = refl
none_behind (Some a) g left e = ap (option_map (g a)) e

-- there is a word for each parameter, or none fits
pub other_count : {A : Type 0} (f : A → List ℕ) (params : Params) (words : List A) → ¬ (length params ≡ length words) → values_for params (map f words) ≡ None
unfolding values_for
other_count f [] [] other = absurd (other refl)
other_count f [] (w ∷ ws) other = refl
other_count f (p ∷ ps) [] other = refl
other_count f (p ∷ ps) (w ∷ ws) other = none_behind (value_of p.1 (f w)) (λ v vs. v ∷ vs) (values_for ps (map f ws)) (other_count f ps ws (λ same. other (ap suc same)))

module _ {A : Type 0} (f : A → List ℕ) (params : Params) (words : List A) (i : ℕ) (done : List Value) (p : List ℕ × Ty) (word : A)
    (param_inside : i < length params) (param_at : p ≡ get_or params i p) (inside : i < length words) (at : word ≡ get_or words i word) (h : MatchedTo params (map f words) i done) where
  matched_at : values_for params (map f words)
      ≡ behind done (option_and_then (λ v. option_map (λ vs. v ∷ vs) (values_for (drop (i + 1) params) (drop (i + 1) (map f words)))) (value_of p.1 (f word)))
  unfolding values_for
  matched_at = h.rest ∙ ap (λ ws. behind done (values_for (drop i params) ws)) (drop_image f words i word inside at)
      ∙ ap (λ ps. behind done (values_for ps (f word ∷ drop (i + 1) (map f words)))) (drop_get params i p param_inside param_at)

  pub match_more : (v : Value) (all : List Value) → value_of p.1 (f word) ≡ Some v → all ≡ done ++ v ∷ [] → MatchedTo params (map f words) (i + 1) all
  match_more v all is grown =
      let left = values_for (drop (i + 1) params) (drop (i + 1) (map f words)) in
      record {
        rest = matched_at ∙ ap (λ o. behind done (option_and_then (λ v. option_map (λ vs. v ∷ vs) left) o)) is ∙ one_more done v left ∙ ap (λ vs. behind vs left) (sym grown);
      }

  pub match_none : value_of p.1 (f word) ≡ None → values_for params (map f words) ≡ None
  match_none is =
      let left = values_for (drop (i + 1) params) (drop (i + 1) (map f words)) in
      matched_at ∙ ap (λ o. behind done (option_and_then (λ v. option_map (λ vs. v ∷ vs) left) o)) is

pub match_ends : {A : Type 0} (f : A → List ℕ) (params : Params) (words : List A) (i : ℕ) (done : List Value) → length params ≤ i → length words ≤ i → MatchedTo params (map f words) i done
    → values_for params (map f words) ≡ Some done
unfolding values_for
match_ends f params words i done params_past past h =
    h.rest ∙ ap (λ ps. behind done (values_for ps (drop i (map f words)))) (drop_past params i params_past)
    ∙ ap (λ ws. behind done (values_for [] ws)) (drop_past_image f words i past) ∙ ap Some (append-nil done)
