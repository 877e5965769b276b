-- That what could stand at a place is told within a line, and that no label stands twice in the table, by computing.
use Rattle.std.proofs.Common.{◌≡◌, ◌==◌, ◌&&◌, ℕ, Bool, true, false, not, List, [], ◌∷◌, ◌++◌, codes, refl, ap, sym, ◌∙◌, inl, inr, subst, bytes_eq}
use Rattle.std.specs.List.{AllByRecursion, IsDistinct, list_all}
use Rattle.std.proofs.lemmas.Bool.{and_parts}
use Rattle.std.proofs.lemmas.List.Elements.{All-append, All-cons, All-nil}
use Rattle.text_places.specs.Lines.{IsInLine}
use Rattle.function_places.specs.Hints.{Among, AreDistinct, AreInLine, hint, joined, labels, opening}

-- ---- lines

abbrev is_line : List ℕ → Bool
is_line z = list_all (λ b. not (b == 10)) z

no_line_end : (b : ℕ) → not (b == 10) ≡ true → ¬ (b ≡ 10)
no_line_end b h is = absurd (let wrong : false ≡ true = sym (ap (λ n. not (n == 10)) is) ∙ h in cc)

in_line : (z : List ℕ) → is_line z ≡ true → IsInLine z
in_line [] h = All-nil (λ b. ¬ (b ≡ 10))
in_line (b ∷ z) h = let p = and_parts (not (b == 10)) (is_line z) h in All-cons (λ b. ¬ (b ≡ 10)) b z (no_line_end b p.0) (in_line z p.1)

both : (z y : List ℕ) → IsInLine z → IsInLine y → IsInLine (z ++ y)
both z y h k = All-append (λ b. ¬ (b ≡ 10)) z y h k

abbrev are_lines : List (List ℕ) → Bool
are_lines all = list_all is_line all

-- labels among those of a table in which each is in a line are so too
told_lines : (all told : List (List ℕ)) → are_lines all ≡ true → Among all told → are_lines told ≡ true
told_lines [] told h is = ap are_lines is
told_lines (label ∷ all) told h (inl later) = told_lines all told (and_parts (is_line label) (are_lines all) h).1 later
told_lines (label ∷ all) told h (inr (rest, is, later)) =
    let p = and_parts (is_line label) (are_lines all) h in
    ap are_lines is ∙ ap (λ b. b && are_lines rest) p.0 ∙ told_lines all rest p.1 later

or_line : IsInLine (codes " or ")
or_line = in_line (codes " or ") refl

joined_line : (told : List (List ℕ)) → are_lines told ≡ true → IsInLine (joined told)
joined_line [] h = All-nil (λ b. ¬ (b ≡ 10))
joined_line (label ∷ told) h =
    let p = and_parts (is_line label) (are_lines told) h in
    both (codes " or ") (label ++ joined told) or_line (both label (joined told) (in_line label p.0) (joined_line told p.1))

opening_line : (ended : Bool) → IsInLine (opening ended)
opening_line true = in_line (opening true) refl
opening_line false = in_line (opening false) refl

hint_line : (ended : Bool) (told : List (List ℕ)) → are_lines told ≡ true → IsInLine (hint ended told)
hint_line ended [] h = All-nil (λ b. ¬ (b ≡ 10))
hint_line ended (label ∷ told) h =
    let p = and_parts (is_line label) (are_lines told) h in
    both (opening ended) (label ++ joined told) (opening_line ended) (both label (joined told) (in_line label p.0) (joined_line told p.1))

labels_are_lines : are_lines labels ≡ true
unfolding labels
labels_are_lines = refl

pub hints_in_line : AreInLine
hints_in_line ended text h = subst IsInLine (sym h.text_is) (hint_line ended h.told (told_lines labels h.told labels_are_lines h.among))

-- ---- labels

abbrev differs : List ℕ → List (List ℕ) → Bool
differs label all = list_all (λ other. not (bytes_eq label other)) all

abbrev distinct : List (List ℕ) → Bool
distinct [] = true
distinct (label ∷ all) = differs label all && distinct all

not_true : (b : Bool) → not b ≡ true → b ≡ false
not_true true h = absurd (let wrong : false ≡ true = h in cc)
not_true false h = refl

differs_so : (label : List ℕ) (all : List (List ℕ)) → differs label all ≡ true → AllByRecursion (λ other. bytes_eq label other ≡ false) all
differs_so label [] h = tt
differs_so label (other ∷ all) h =
    let p = and_parts (not (bytes_eq label other)) (differs label all) h in
    (not_true (bytes_eq label other) p.0, differs_so label all p.1)

distinct_so : (all : List (List ℕ)) → distinct all ≡ true → IsDistinct bytes_eq all
unfolding IsDistinct
distinct_so [] h = tt
distinct_so (label ∷ all) h = let p = and_parts (differs label all) (distinct all) h in (differs_so label all p.0, distinct_so all p.1)

labels_differ : distinct labels ≡ true
unfolding labels
labels_differ = refl

pub labels_are_distinct : AreDistinct
labels_are_distinct = distinct_so labels labels_differ
