-- The steps of walks that copy or turn a list.
use Rattle.std.proofs.Common.{◌≡◌, sym, ◌∙◌, ap, ℕ, ◌<◌, ◌≤◌, ◌+◌, List, [], ◌∷◌, ◌++◌, length, drop, get_or, reverse, append_assoc, rules}
use Rattle.std.proofs.lemmas.List.{drop_more, drop_all, reverse-append}
use Rattle.sql_meaning.proofs.WalkRules.{next_item, none_left}

pub next_copied : {A : Type 0} (xs done : List A) (i : ℕ) (x : A) → i < length xs → (done ++ get_or xs i x ∷ []) ++ drop (i + 1) xs ≡ done ++ drop i xs
next_copied xs done i x h = append_assoc done (get_or xs i x ∷ []) (drop (i + 1) xs) ∙ ap (λ l. done ++ l) (sym (drop_more xs i x h))

pub all_copied : {A : Type 0} (xs done : List A) (i : ℕ) → length xs ≤ i → done ++ drop i xs ≡ done
all_copied xs done i h = ap (λ l. done ++ l) (drop_all i xs h) ∙ search rules

pub turned_one : {A : Type 0} (rows done : List A) (x : A) → rows ++ reverse (done ++ x ∷ []) ≡ (rows ++ x ∷ []) ++ reverse done
turned_one rows done x = ap (λ l. rows ++ l) (reverse-append done (x ∷ [])) ∙ sym (append_assoc rows (x ∷ []) (reverse done))

pub moved : {A : Type 0} (done rest : List A) (x : A) → done ++ x ∷ rest ≡ (done ++ x ∷ []) ++ rest
moved done rest x = sym (append_assoc done (x ∷ []) rest)

pub ruleset copy_rules = (next_copied, all_copied)

pub ruleset turn_rules = (turned_one)

pub ruleset falls_rules = (next_item, none_left, moved)
