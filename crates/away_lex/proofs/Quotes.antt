-- Where the marks of a dollar quote stand.
use Rattle.std.proofs.Common.{◌≡◌, ℕ, ◌+◌, ◌-◌, List, [], ◌∷◌, ◌++◌, length, take, drop, refl, sym, ap, ◌∙◌, subst, arith, length-append, append_assoc}
use Rattle.std.proofs.lemmas.List.{take_at, drop_at, get_or_at}
use Rattle.away_grammar.specs.Spellings.{IsTag, mark_of, byte, IsDollarQuote}
use Rattle.away_grammar.specs.FunctionFile.{IsInside}
use Rattle.away_lex.specs.declared.pieces.Class.TheVariants as class
use Rattle.away_lex.specs.Pieces.{run, is_in, CanCut}
use Rattle.away_lex.specs.Lexed.{IsMarkLen}
use Rattle.away_lex.proofs.Apart.{run_append}
use Rattle.away_lex.proofs.Alone.{tag_names}

mark_run : (tag rest : List ℕ) → IsTag tag → run class.Name (drop 1 (mark_of tag ++ rest)) ≡ length tag
mark_run tag rest is = ap (run class.Name) (append_assoc tag (36 ∷ []) rest) ∙ run_append (is_in class.Name) tag (36 ∷ rest) (tag_names tag is) refl refl

pub mark_len_is : (z : List ℕ) (n : ℕ) → IsDollarQuote z → n ≡ run class.Name (drop 1 z) → IsMarkLen z (2 + n)
mark_len_is z n q e =
    let size : n ≡ length q.tag = e ∙ ap (λ l. run class.Name (drop 1 l)) q.spelled ∙ mark_run q.tag (q.inside ++ mark_of q.tag) q.is_tag in
    record { tag = q.tag; inside = q.inside; is_tag = q.is_tag; spelled = q.spelled; size = omega (arith, size, length-append q.tag (36 ∷ [])) }

abbrev front_of : {z : List ℕ} {n : ℕ} → IsMarkLen z n → List ℕ
front_of m = mark_of m.tag ++ m.inside

two_parts : (z : List ℕ) (n : ℕ) (m : IsMarkLen z n) → (z ≡ front_of m ++ mark_of m.tag) × (length (front_of m) ≡ length z - n)
two_parts z n m =
    let e : z ≡ front_of m ++ mark_of m.tag = m.spelled ∙ sym (append_assoc (mark_of m.tag) m.inside (mark_of m.tag)) in
    (e, omega (arith, ap length e, length-append (front_of m) (mark_of m.tag), m.size))

last_byte : (front rest : List ℕ) (b at : ℕ) → length front ≡ at → byte (front ++ b ∷ rest) at ≡ b
last_byte front rest b at e = get_or_at front b rest 0 at e

pub last_cut : (z : List ℕ) (n : ℕ) → IsMarkLen z n → CanCut z (length z - n)
last_cut z n m =
    let p = two_parts z n m in
    let b : byte z (length z - n) ≡ 36 = ap (λ l. byte l (length z - n)) p.0 ∙ last_byte (front_of m) (m.tag ++ 36 ∷ []) 36 (length z - n) p.1 in
    (omega (arith, p.1, length-append (mark_of m.tag) m.inside), omega arith, λ _ big. absurd (omega (arith, b, big)))

pub front_is : (z : List ℕ) (n : ℕ) (m : IsMarkLen z n) → take (length z - n) z ≡ front_of m
front_is z n m = let p = two_parts z n m in ap (take (length z - n)) p.0 ∙ take_at (front_of m) (mark_of m.tag) (length z - n) p.1

first_of : (tag inside : List ℕ) (n : ℕ) → n ≡ length (mark_of tag) → CanCut (mark_of tag ++ inside) n
first_of tag inside n e =
    let size : length (36 ∷ tag) ≡ n - 1 = omega (arith, e, length-append tag (36 ∷ [])) in
    let join : mark_of tag ++ inside ≡ (36 ∷ tag) ++ (36 ∷ inside) = append_assoc (36 ∷ tag) (36 ∷ []) inside in
    let b : byte (mark_of tag ++ inside) (n - 1) ≡ 36 = ap (λ l. byte l (n - 1)) join ∙ last_byte (36 ∷ tag) inside 36 (n - 1) size in
    (omega (arith, size), omega (arith, e, length-append (mark_of tag) inside), λ _ _. omega (arith, b))

pub first_cut : (z : List ℕ) (n : ℕ) → IsMarkLen z n → (front : List ℕ) → front ≡ take (length z - n) z → CanCut front n
first_cut z n m front e = subst (λ l. CanCut l n) (sym (e ∙ front_is z n m)) (first_of m.tag m.inside n m.size)

pub inside_is : (z : List ℕ) (n : ℕ) → IsMarkLen z n → (front inside : List ℕ) → front ≡ take (length z - n) z → inside ≡ drop n front → (mark : List ℕ) × IsInside z inside mark
inside_is z n m front inside e f =
    let is : inside ≡ m.inside = f ∙ ap (drop n) (e ∙ front_is z n m) ∙ drop_at (mark_of m.tag) m.inside n (sym m.size) in
    (mark_of m.tag, record { tag = m.tag; is_tag = m.is_tag; is_mark = refl; spelled = m.spelled ∙ ap (λ l. mark_of m.tag ++ (l ++ mark_of m.tag)) (sym is) })
