-- What is named from left to right, as lists: the members, and that each breaks no rule.
use Rattle.std.proofs.Common.{◌≡◌, refl, sym, ◌∙◌, List, [], ◌∷◌, ◌++◌, map, fold, Option}
use Rattle.std.proofs.lemmas.List.{append_assoc, append-nil}
use Rattle.away_trees.specs.declared.queries.Item.{Item}
use Rattle.away_trees.specs.declared.queries.Select.{Select}
use Rattle.away_names.specs.declared.note.Column.{Column}
use Rattle.away_names.specs.declared.note.Noted.{Noted}
use Rattle.away_names.specs.declared.note.Shown.{Shown}
use Rattle.away_names.specs.Lookups.{Name}
use Rattle.away_names.specs.Naming as n
use Rattle.away_names.specs.Notes.{pure, added, each}
use Rattle.qualified_names.proofs.FirstNames.{first_stay}
use Rattle.type_soundness.specs.Sorts.{Every}
use Rattle.type_soundness.proofs.CleanNotes.{Clean, clean_parts}

-- one behind the others
pushed : {A : Type 0} (xs : List A) (x : A) (ys : List A) → (xs ++ x ∷ []) ++ ys ≡ xs ++ x ∷ ys
pushed xs x ys = append_assoc xs (x ∷ []) ys

-- ---- results

module _ {A B : Type 0} (f : A → Noted B) where
  each_more : (acc : Noted (List B)) (xs : List A) → (fold (λ a x. added a (f x)) acc xs).it ≡ acc.it ++ map (λ x. (f x).it) xs
  each_more acc [] = sym (append-nil acc.it)
  each_more acc (x ∷ xs) = each_more (added acc (f x)) xs ∙ pushed acc.it (f x).it (map (λ x. (f x).it) xs)

  pub each_is : (xs : List A) → (each f xs).it ≡ map (λ x. (f x).it) xs
  each_is xs = each_more (pure []) xs

  each_clean_from : (acc : Noted (List B)) (xs : List A) → Clean (fold (λ a x. added a (f x)) acc xs).note → Clean acc.note × Every (λ x. Clean (f x).note) xs
  each_clean_from acc [] c = (c, tt)
  each_clean_from acc (x ∷ xs) c =
      let rest = each_clean_from (added acc (f x)) xs c in
      let both = clean_parts acc.note (f x).note rest.0 in
      (both.0, (both.1, rest.1))

  pub each_clean : (xs : List A) → Clean (each f xs).note → Every (λ x. Clean (f x).note) xs
  each_clean xs c = (each_clean_from (pure []) xs c).1

-- ---- the items of a list

module _ {A : Type 0} (f : A → Noted Column) where
  abbrev items_so : Noted (Shown (List Item)) → List A → Noted (Shown (List Item))
  items_so acc xs = fold (λ a x. n.with_item a (f x)) acc xs

  items_more : (acc : Noted (Shown (List Item))) (xs : List A) → (items_so acc xs).it.it ≡ acc.it.it ++ map (λ x. (f x).it.it) xs
  items_more acc [] = sym (append-nil acc.it.it)
  items_more acc (x ∷ xs) = items_more (n.with_item acc (f x)) xs ∙ pushed acc.it.it (f x).it.it (map (λ x. (f x).it.it) xs)

  names_more : (acc : Noted (Shown (List Item))) (xs : List A) → (items_so acc xs).it.names ≡ acc.it.names ++ map (λ x. (f x).it.name) xs
  names_more acc [] = sym (append-nil acc.it.names)
  names_more acc (x ∷ xs) = names_more (n.with_item acc (f x)) xs ∙ pushed acc.it.names (f x).it.name (map (λ x. (f x).it.name) xs)

  items_clean_from : (acc : Noted (Shown (List Item))) (xs : List A) → Clean (items_so acc xs).note → Clean acc.note × Every (λ x. Clean (f x).note) xs
  items_clean_from acc [] c = (c, tt)
  items_clean_from acc (x ∷ xs) c =
      let rest = items_clean_from (n.with_item acc (f x)) xs c in
      let both = clean_parts acc.note (f x).note rest.0 in
      (both.0, (both.1, rest.1))

  pub items_are : (xs : List A) → (items_so n.no_item xs).it.it ≡ map (λ x. (f x).it.it) xs
  items_are xs = items_more n.no_item xs

  pub item_names : (xs : List A) → (items_so n.no_item xs).it.names ≡ map (λ x. (f x).it.name) xs
  item_names xs = names_more n.no_item xs

  pub items_clean : (xs : List A) → Clean (items_so n.no_item xs).note → Every (λ x. Clean (f x).note) xs
  items_clean xs c = (items_clean_from n.no_item xs c).1

-- ---- the selects of a query

-- the names of the first of them
abbrev pub first_names_of : List (Shown Select) → List (Option Name)
first_names_of [] = []
first_names_of (x ∷ xs) = x.names

module _ {A : Type 0} (f : A → Noted (Shown Select)) where
  abbrev selects_so : Noted (Shown (List Select)) → List A → Noted (Shown (List Select))
  selects_so acc xs = fold (λ a x. n.with_select a (f x)) acc xs

  selects_more : (acc : Noted (Shown (List Select))) (xs : List A) → (selects_so acc xs).it.it ≡ acc.it.it ++ map (λ x. (f x).it.it) xs
  selects_more acc [] = sym (append-nil acc.it.it)
  selects_more acc (x ∷ xs) = selects_more (n.with_select acc (f x)) xs ∙ pushed acc.it.it (f x).it.it (map (λ x. (f x).it.it) xs)

  -- behind the first one the names stay
  names_stay : (acc : Noted (Shown (List Select))) (xs : List A) → n.first_names acc.it.it acc.it.names [] ≡ acc.it.names
      → (selects_so acc xs).it.names ≡ n.first_names acc.it.it acc.it.names (first_names_of (map (λ x. (f x).it) xs))
  names_stay acc [] h = sym h
  names_stay acc (x ∷ xs) h =
      let names : List (Option Name) = n.first_names acc.it.it acc.it.names (f x).it.names in
      names_stay (n.with_select acc (f x)) xs (first_stay acc.it.it (f x).it.it names []) ∙ first_stay acc.it.it (f x).it.it names (first_names_of (map (λ x. (f x).it) xs))

  selects_clean_from : (acc : Noted (Shown (List Select))) (xs : List A) → Clean (selects_so acc xs).note → Clean acc.note × Every (λ x. Clean (f x).note) xs
  selects_clean_from acc [] c = (c, tt)
  selects_clean_from acc (x ∷ xs) c =
      let rest = selects_clean_from (n.with_select acc (f x)) xs c in
      let both = clean_parts acc.note (f x).note rest.0 in
      (both.0, (both.1, rest.1))

  pub selects_are : (xs : List A) → (selects_so n.no_select xs).it.it ≡ map (λ x. (f x).it.it) xs
  selects_are xs = selects_more n.no_select xs

  pub select_names : (xs : List A) → (selects_so n.no_select xs).it.names ≡ first_names_of (map (λ x. (f x).it) xs)
  unfolding n.first_names
  select_names xs = names_stay n.no_select xs refl

  pub selects_clean : (xs : List A) → Clean (selects_so n.no_select xs).note → Every (λ x. Clean (f x).note) xs
  selects_clean xs c = (selects_clean_from n.no_select xs c).1
