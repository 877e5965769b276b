-- Selects with names again from left to right, and the names of a query, which are those of its first select.
use Rattle.std.proofs.Common.{◌≡◌, refl, sym, ◌∙◌, List, [], ◌∷◌, ◌++◌, map, fold, Option}
use Rattle.std.proofs.lemmas.List.{append_assoc, append-nil}
use Rattle.away_trees.specs.declared.queries.Select.{Select}
use Rattle.away_names.specs.declared.note.Shown.{Shown}
use Rattle.away_names.specs.Lookups.{Name}
use Rattle.away_names.specs.Naming.{first_names}
use Rattle.qualified_names.specs.Sight.{Sight}
use Rattle.qualified_names.specs.Qualifying.{first_of}
use Rattle.qualified_names.specs.Trees.{qualified_select, qualified_selects}

-- one select more behind some
abbrev pub next : Sight → Shown (List Select) → Select → Shown (List Select)
next s a x = record { it = a.it ++ (qualified_select x s).it ∷ []; names = first_names a.it a.names (qualified_select x s).names }

abbrev behind : Shown (List Select) → List (Shown Select) → Shown (List Select)
behind a xs = record { it = a.it ++ map (λ x. x.it) xs; names = first_names a.it a.names (first_of xs) }

pub first_stay : (xs : List Select) (x : Select) (names more : List (Option Name)) → first_names (xs ++ x ∷ []) names more ≡ names
unfolding first_names
first_stay [] x names more = refl
first_stay (y ∷ ys) x names more = refl

-- so far nothing but the names of the first select
all_behind : (s : Sight) (a : Shown (List Select)) (xs : List Select) → first_names a.it a.names [] ≡ a.names → fold (next s) a xs ≡ behind a (map (λ x. qualified_select x s) xs)
all_behind s a [] h = λ i. record { it = sym (append-nil a.it) i; names = sym h i }
all_behind s a (x ∷ xs) h =
    let y : Shown Select = qualified_select x s in
    all_behind s (next s a x) xs (first_stay a.it y.it (first_names a.it a.names y.names) [])
    ∙ (λ i. record {
      it = append_assoc a.it (y.it ∷ []) (map (λ x. x.it) (map (λ x. qualified_select x s) xs)) i;
      names = first_stay a.it y.it (first_names a.it a.names y.names) (first_of (map (λ x. qualified_select x s) xs)) i;
    })

pub one_by_one : (s : Sight) (xs : List Select) → qualified_selects s xs ≡ fold (next s) (record { it = []; names = [] }) xs
unfolding first_names
one_by_one s xs = sym (all_behind s (record { it = []; names = [] }) xs refl)
