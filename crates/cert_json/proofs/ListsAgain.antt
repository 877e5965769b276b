-- Lists that are written item by item, and what is written spells the list again.
use Rattle.std.proofs.Common.{◌≡◌, ℕ, zero, suc, ◌+◌, ◌<◌, ◌≤◌, List, [], ◌∷◌, ◌++◌, length, map, take, get_or, Option, Some, refl, sym, ap, ◌∙◌, subst, arith}
use Rattle.std.proofs.lemmas.List.{take_all}
use Rattle.std.specs.List.{AllByRecursion}
use Rattle.serde_json.specs.Data.{Data}
use Rattle.serde_json.specs.View.{view}
use Rattle.serde_json.specs.declared.value.Value.{Value}
use Rattle.cert_json.specs.Spellings.{each, list_in, many}
use Rattle.cert_json.specs.Written.{list_data, many_data}
use Rattle.cert_json.proofs.Lists.{listed_items}

suc-add-one : (i : ℕ) → suc i + 1 ≡ suc (i + 1)
suc-add-one i = omega arith

take_next : {A : Type 0} (xs : List A) (i : ℕ) (x : A) → i < length xs → x ≡ get_or xs i x → take (i + 1) xs ≡ take i xs ++ x ∷ []
take_next [] i x h e = absurd (omega (arith, h))
take_next (y ∷ ys) zero x h e = ap (λ z. z ∷ []) (sym e)
take_next (y ∷ ys) (suc i) x h e = ap (λ n. take n (y ∷ ys)) (suc-add-one i) ∙ ap (λ zs. y ∷ zs) (take_next ys i x (omega (arith, h)) e)

map_end : {A B : Type 0} (f : A → B) (xs : List A) (x : A) → map f (xs ++ x ∷ []) ≡ map f xs ++ f x ∷ []
map_end f [] x = refl
map_end f (y ∷ ys) x = ap (λ zs. f y ∷ zs) (map_end f ys x)

all_end : {A : Type 0} (P : A → Type 0) (xs : List A) (x : A) → AllByRecursion P xs → P x → AllByRecursion P (xs ++ x ∷ [])
all_end P [] x h p = (p, tt)
all_end P (y ∷ ys) x h p = (h.0, all_end P ys x h.1 p)

-- writing has come to a place in a list
pub record WrittenTo {A : Type 0} (json : A → Data) (Again : A → Type 0) (xs : List A) (i : ℕ) (done : List Value) : Type 0 where
  pub values : map view done ≡ map json (take i xs)
  pub again : AllByRecursion Again (take i xs)

pub written_more : {A : Type 0} (json : A → Data) (Again : A → Type 0) (xs : List A) (i : ℕ) (done all : List Value) (x : A) (v : Value) → i < length xs → x ≡ get_or xs i x
    → WrittenTo json Again xs i done → view v ≡ json x → Again x → all ≡ done ++ v ∷ [] → WrittenTo json Again xs (i + 1) all
written_more json Again xs i done all x v within at h is back grown =
    let next = take_next xs i x within at in
    record {
      values = ap (map view) grown ∙ map_end view done v ∙ ap (λ ds. ds ++ view v ∷ []) h.values ∙ ap (λ d. map json (take i xs) ++ d ∷ []) is ∙ sym (map_end json (take i xs) x) ∙ ap (map json) (sym next);
      again = subst (AllByRecursion Again) (sym next) (all_end Again (take i xs) x h.again back);
    }

pub written_values : {A : Type 0} (json : A → Data) (Again : A → Type 0) (xs : List A) (i : ℕ) (done : List Value) → length xs ≤ i → WrittenTo json Again xs i done
    → list_data (map view done) ≡ many_data json xs
written_values json Again xs i done past h = ap list_data (h.values ∙ ap (map json) (take_all i xs past))

pub written_again : {A : Type 0} (json : A → Data) (Again : A → Type 0) (xs : List A) (i : ℕ) (done : List Value) → length xs ≤ i → WrittenTo json Again xs i done → AllByRecursion Again xs
written_again json Again xs i done past h = subst (AllByRecursion Again) (take_all i xs past) h.again

-- ---- what is written for a list spells the list

each_again : {A : Type 0} (f : Data → Option A) (json : A → Data) (S : A → Type 0) (xs : List A) → AllByRecursion (λ x. S x → f (json x) ≡ Some x) xs → AllByRecursion S xs → each f (map json xs) ≡ Some xs
unfolding each
each_again f json S [] h s = refl
each_again f json S (x ∷ xs) h s = rw (h.0 s.0, each_again f json S xs h.1 s.1) refl

pub many_again : {A : Type 0} (f : Data → Option A) (json : A → Data) (S : A → Type 0) (xs : List A) → AllByRecursion (λ x. S x → f (json x) ≡ Some x) xs → AllByRecursion S xs
    → many f (many_data json xs) ≡ Some xs
unfolding many list_in
many_again f json S xs h s = ap (each f) (listed_items (map json xs)) ∙ each_again f json S xs h s

-- of items that each spell something
pub all_free : {A : Type 0} (xs : List A) → AllByRecursion (λ x. Unit {0}) xs
all_free [] = tt
all_free (x ∷ xs) = (tt, all_free xs)
