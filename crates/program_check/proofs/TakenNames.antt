-- A name that is told to be taken is one.
use Rattle.std.proofs.Common.{◌≡◌, refl, sym, ap, ◌∙◌, ℕ, zero, suc, ◌<◌, Bool, true, false, get_or, List, [], ◌∷◌, length, take, is_some, arith, inl, inr}
use Rattle.std.specs.Str.{bytes_eq}
use Rattle.std.proofs.lemmas.Bool.{false≢true, or_cases, or_left, or_right}
use Rattle.std.proofs.lemmas.List.{get_or-take, get_or_default, length-take-le}
use Rattle.std.proofs.lemmas.List.Folds.{list_any_at}
use Rattle.std.proofs.lemmas.Slice.Eq.{bytes_eq-Decides}
use Rattle.away_trees.specs.declared.statements.Function.{Function}
use Rattle.away_names.specs.Functions.{function}
use Rattle.away_names.specs.Lookups.{Name, is_among}
use Rattle.call_expand.specs.Expanding.{function_at, names_of}
use Rattle.program_check.specs.Refusing.{Taken, is_taken, of_earlier, of_operator}

-- where a name stands
record StandsAt (name : Name) (names : List Name) : Type 0 where
  pub at : ℕ
  pub inside : at < length names
  pub same : get_or names at [] ≡ name

stands_at : (name : Name) (names : List Name) → is_among name names ≡ true → StandsAt name names
stands_at name [] e = absurd (false≢true e)
stands_at name (n ∷ ns) e = elim (or_cases (bytes_eq n name) (is_among name ns) e) [
  | inl q ↦ record { at = 0; inside = omega arith; same = (bytes_eq-Decides n name).0 q }
  | inr q ↦ (let p = stands_at name ns q in record { at = suc p.at; inside = (let lt = p.inside in omega (arith, lt)); same = p.same })
]

-- ---- names by the functions' numbers

as_many : (fs : List Function) → length (names_of fs) ≡ length fs
as_many [] = refl
as_many (f ∷ fs) = ap suc (as_many fs)

name_at : (fs : List Function) (k : ℕ) → get_or (names_of fs) k [] ≡ (function_at fs k).name
name_at [] k = refl
name_at (f ∷ fs) zero = refl
name_at (f ∷ fs) (suc k) = name_at fs k

module _ (fs : List Function) (k : ℕ) (lt : k < length fs) where
  abbrev own : Name
  own = (function_at fs k).name

  abbrev earlier : List Name
  earlier = take k (names_of fs)

  many : length earlier ≡ k
  many = length-take-le k (names_of fs) (let all = as_many fs in omega (arith, lt, all))

  earlier_at : (j : ℕ) → j < k → get_or earlier j [] ≡ (function_at fs j).name
  earlier_at j before = get_or-take k (names_of fs) j [] before ∙ name_at fs j

  taken : is_taken own earlier ≡ true → Taken fs k
  taken e = elim (or_cases (is_some (function own)) (is_among own earlier) e) [
    | inl q ↦ of_operator q
    | inr q ↦ (let p = stands_at own earlier q in
        let before : p.at < k = (let inside = p.inside in omega (arith, inside, many)) in
        of_earlier before (sym (earlier_at p.at before) ∙ p.same))
  ]

  told : Taken fs k → is_taken own earlier ≡ true
  told (of_operator q) = or_left (is_some (function own)) (is_among own earlier) q
  told (of_earlier {j = j} before same) =
      let inside : j < length earlier = omega (arith, before, many) in
      or_right (is_some (function own)) (is_among own earlier)
      (list_any_at (λ m. bytes_eq m own) earlier j [] inside ((bytes_eq-Decides (get_or earlier j []) own).1 (earlier_at j before ∙ same)))

-- a name that is told to be taken or not
module _ (fs : List Function) (names : List Name) (k : ℕ) (name : Name) (others : List Name) (r : Bool) (lt : k < length fs) (names_are : names ≡ names_of fs) (here : name ≡ get_or names k name)
    (before : others ≡ take k names) (is : r ≡ is_taken name others) where
  pub inside : k < length names
  inside = let all = as_many fs in let many_names = ap length names_are in omega (arith, lt, all, many_names)

  named : name ≡ (function_at fs k).name
  named = here ∙ get_or_default names k name [] inside ∙ ap (λ ns. get_or ns k []) names_are ∙ name_at fs k

  own_test : r ≡ is_taken (function_at fs k).name (take k (names_of fs))
  own_test = is ∙ ap (λ n. is_taken n others) named ∙ ap (is_taken (function_at fs k).name) (before ∙ ap (take k) names_are)

  pub taken_so : r ≡ true → Taken fs k
  taken_so e = taken fs k lt (sym own_test ∙ e)

  pub not_taken : r ≡ false → Taken fs k → ⊥
  not_taken e t = false≢true (sym e ∙ own_test ∙ told fs k lt t)
