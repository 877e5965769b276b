-- What is told of a table, one label after the other.
use Rattle.std.proofs.Common.{◌≡◌, ◌≤◌, ◌<◌, ◌+◌, ◌-◌, ◌==◌, ◌⊎◌, inl, inr, ℕ, zero, suc, Bool, true, false, List, [], ◌∷◌, ◌++◌, length, get_or, take, map, refl, sym, ap, ◌∙◌, subst, arith, append-nil, append_assoc, length-append, codes}
use Rattle.std.proofs.lemmas.Bool.{eqb-false, eqb-true}
use Rattle.function_places.specs.HintEntries.{Entry, label_of}
use Rattle.function_places.specs.Hints.{Among, IsHint, IsHintOf, before_label, hint, joined, labels, opening}

-- ---- labels among those of a table

none_among : (all : List (List ℕ)) → Among all []
none_among [] = refl
none_among (label ∷ all) = inl (none_among all)

among_more : (es : List Entry) (i : ℕ) (told : List (List ℕ)) → Among (map label_of (take i es)) told → Among (map label_of es) told
among_more [] zero told h = h
among_more [] (suc i) told h = h
among_more (e ∷ es) zero told h = rw h (none_among (map label_of (e ∷ es)))
among_more (e ∷ es) (suc i) told (inl h) = inl (among_more es i told h)
among_more (e ∷ es) (suc i) told (inr (rest, is, h)) = inr (rest, is, among_more es i rest h)

-- one entry more, which isn't told
among_next : (es : List Entry) (i : ℕ) (told : List (List ℕ)) → i < length es → Among (map label_of (take i es)) told → Among (map label_of (take (i + 1) es)) told
among_next [] i told lt h = absurd (omega arith)
among_next (e ∷ es) zero told lt h = inl h
among_next (e ∷ es) (suc i) told lt (inl h) = let n : suc i + 1 ≡ suc (i + 1) = omega arith in rw n (inl (among_next es i told (omega arith) h))
among_next (e ∷ es) (suc i) told lt (inr (rest, is, h)) = let n : suc i + 1 ≡ suc (i + 1) = omega arith in rw n (inr (rest, is, among_next es i rest (omega arith) h))

-- one that is
among_told : (es : List Entry) (i : ℕ) (d : Entry) (told : List (List ℕ)) → i < length es → Among (map label_of (take i es)) told
    → Among (map label_of (take (i + 1) es)) (told ++ label_of (get_or es i d) ∷ [])
among_told [] i d told lt h = absurd (omega arith)
among_told (e ∷ es) zero d told lt h = rw h (inr ([], refl, refl))
among_told (e ∷ es) (suc i) d told lt (inl h) = let n : suc i + 1 ≡ suc (i + 1) = omega arith in rw n (inl (among_told es i d told (omega arith) h))
among_told (e ∷ es) (suc i) d told lt (inr (rest, is, h)) =
    let n : suc i + 1 ≡ suc (i + 1) = omega arith in
    rw n (inr (rest ++ label_of (get_or es i d) ∷ [], ap (λ l. l ++ label_of (get_or es i d) ∷ []) is, among_told es i d rest (omega arith) h))

-- ---- their text

joined_on : (told : List (List ℕ)) (label : List ℕ) → joined (told ++ label ∷ []) ≡ joined told ++ (codes " or " ++ label)
joined_on [] label = ap (λ z. codes " or " ++ z) (append-nil label)
joined_on (t ∷ told) label =
    ap (λ z. codes " or " ++ (t ++ z)) (joined_on told label)
    ∙ ap (λ z. codes " or " ++ z) (sym (append_assoc t (joined told) (codes " or " ++ label)))
    ∙ sym (append_assoc (codes " or ") (t ++ joined told) (codes " or " ++ label))

-- one label more, the first one or another
hint_on : (ended first : Bool) (left : ℕ) (told : List (List ℕ)) (label : List ℕ) → left + length told ≡ 5 → first ≡ (left == 5)
    → hint ended (told ++ label ∷ []) ≡ hint ended told ++ (before_label first ended ++ label)
hint_on ended true left [] label number is = ap (λ z. opening ended ++ z) (append-nil label)
hint_on ended false left [] label number is = absurd (eqb-false left 5 (sym is) (omega (arith, number)))
hint_on ended true left (t ∷ told) label number is = absurd (let five = eqb-true left 5 (sym is) in omega (arith, number, five))
hint_on ended false left (t ∷ told) label number is =
    ap (λ z. opening ended ++ (t ++ z)) (joined_on told label)
    ∙ ap (λ z. opening ended ++ z) (sym (append_assoc t (joined told) (codes " or " ++ label)))
    ∙ sym (append_assoc (opening ended) (t ++ joined told) (codes " or " ++ label))

-- what is told of the first entries, with so many labels left
pub record IsToldOf (es : List Entry) (i : ℕ) (ended : Bool) (left : ℕ) (text : List ℕ) : Type 0 where
  pub told : List (List ℕ)
  pub number : left + length told ≡ 5
  pub among : Among (map label_of (take i es)) told
  pub text_is : text ≡ hint ended told

pub nothing_told : (es : List Entry) (ended : Bool) → IsToldOf es 0 ended 5 []
nothing_told es ended = record { told = []; number = refl; among = refl; text_is = refl }

pub all_told : (es : List Entry) (i : ℕ) (ended : Bool) (left : ℕ) (text : List ℕ) → IsToldOf es i ended left text → IsHintOf (map label_of es) ended text
all_told es i ended left text t = record { told = t.told; few = (let n = t.number in omega arith); among = among_more es i t.told t.among; text_is = t.text_is }

pub next_kept : (es : List Entry) (i : ℕ) (ended : Bool) (left : ℕ) (text : List ℕ) → i < length es → IsToldOf es i ended left text → IsToldOf es (i + 1) ended left text
next_kept es i ended left text lt t = record { told = t.told; number = t.number; among = among_next es i t.told lt t.among; text_is = t.text_is }

pub next_told : (es : List Entry) (i : ℕ) (d : Entry) (ended first : Bool) (left : ℕ) (text more : List ℕ) → i < length es → ¬ (left ≡ 0) → first ≡ (left == 5) → IsToldOf es i ended left text
    → more ≡ text ++ (before_label first ended ++ label_of (get_or es i d)) → IsToldOf es (i + 1) ended (left - 1) more
next_told es i d ended first left text more lt some is t more_is =
    let label = label_of (get_or es i d) in
    record {
      told = t.told ++ label ∷ [];
      number = (let n = t.number in let l = length-append t.told (label ∷ []) in omega (arith, n, l, some));
      among = among_told es i d t.told lt t.among;
      text_is = more_is ∙ ap (λ z. z ++ (before_label first ended ++ label)) t.text_is ∙ sym (hint_on ended first left t.told label t.number is);
    }

pub no_hint : (ended : Bool) (text : List ℕ) → text ≡ [] → IsHint ended text
no_hint ended text is = record { told = []; few = omega arith; among = none_among labels; text_is = is }
