-- The text around a byte, from where its line begins and where it ends.
use Rattle.std.proofs.Common.{◌≡◌, ◌==◌, ◌≤◌, ◌<◌, ◌+◌, ◌-◌, ◌∷◌, ◌++◌, [], ℕ, List, IsTrue, zero, suc, refl, ap, sym, ◌∙◌, get_or, slice_range, map, filter, length, slice_index, take, drop, inl, inr, arith}
use Rattle.std.proofs.Math.Seq.{drop-cons, take-append-add, take-suc}
use Rattle.std.proofs.lemmas.Bool.{cases_lt, eqb-true, or_cases}
use Rattle.std.proofs.lemmas.List.{drop_all, get_or-drop, get_or-take, length-drop, length-take, take-append-drop}
use Rattle.std.proofs.lemmas.List.Elements.{All-from_get_or}
use Rattle.std.proofs.lemmas.List.Folds.{drop_split}
use Rattle.text_places.specs.Lines.{AreEnds, Around, AreLines, EndsLine, IsInLine, begins, blank_under, display, ends_line, is_end, starts_line}

same : (n : ℕ) → n ≡ suc n - 1
same n = omega arith

pub lines_before : (text : List ℕ) (start : ℕ) → start ≤ length text
    → IsTrue (starts_line text start) → AreLines (take start text)
lines_before text zero within starts = inl refl
lines_before text (suc n) within starts = elim (or_cases (suc n == 0) (is_end (slice_index text (suc n - 1))) starts) [
  | inl none ↦ absurd (omega (arith, eqb-true (suc n) 0 none))
  | inr last ↦
      inr (take n text, take-suc text n 0 (omega arith) ∙ ap (λ b. take n text ++ b ∷ []) (ap (λ k. get_or text k 0) (same n) ∙ eqb-true (get_or text (suc n - 1) 0) 10 last))
]

pub rest_behind : (text : List ℕ) (end : ℕ) → end ≤ length text → IsTrue (ends_line text end)
    → EndsLine (drop end text)
rest_behind text end within ends = elim (or_cases (end == length text) (is_end (slice_index text end)) ends) [
  | inl whole ↦ inl (drop_all end text (omega (arith, eqb-true end (length text) whole)))
  | inr at ↦ elim (cases_lt end (length text)) [
    | inl h ↦ inr (drop (suc end) text, drop-cons text end 0 h ∙ ap (λ b. b ∷ drop (suc end) text) (eqb-true (get_or text end 0) 10 at))
    | inr h ↦ inl (drop_all end text h)
  ]
]

pub in_line : (text : List ℕ) (i j : ℕ)
    → ((k : ℕ) → i ≤ k → k < j → ¬ (slice_index text k ≡ 10)) → IsInLine (take (j - i) (drop i text))
in_line text i j none = All-from_get_or (λ b. ¬ (b ≡ 10)) (take (j - i) (drop i text)) 0 (λ k h e.
    let below : k < j - i = omega (arith, h, length-take (j - i) (drop i text)) in
    none (i + k) (omega arith) (omega arith)
    (sym (get_or-drop i text k 0) ∙ sym (get_or-take (j - i) (drop i text) k 0 below) ∙ e))

pub parted : (text : List ℕ) (i j k : ℕ) → i ≤ j → j ≤ k
    → text ≡ take i text ++ (take (j - i) (drop i text) ++ (take (k - j) (drop j text) ++ drop k text))
parted text i j k ij jk = sym (take-append-drop i text)
    ∙ ap (λ z. take i text ++ z) (drop_split text i j ij)
    ∙ ap (λ z. take i text ++ (take (j - i) (drop i text) ++ z)) (drop_split text j k jk)

pub measured : (text : List ℕ) (i j : ℕ) → i ≤ j → j ≤ length text
    → j ≡ length (take i text) + length (take (j - i) (drop i text))
measured text i j ij within = omega (
  arith,
  length-take i text,
  length-take (j - i) (drop i text),
  length-drop i text,
)

abbrev pub around : (text : List ℕ) (offset start end : ℕ) → AreEnds text offset start end
    → Around text offset
around text offset start end a = record {
  lines = take start text;
  before = take (offset - start) (drop start text);
  after = take (end - offset) (drop offset text);
  rest = drop end text;
  text_is = parted text start offset end a.forward a.behind;
  offset_is = measured text start offset a.forward (omega arith);
  whole = lines_before text start (omega arith) a.starts;
  earlier = in_line text start offset a.earlier;
  later = in_line text offset end a.later;
  ends = rest_behind text end a.within a.ends;
}

pub line_is : (text : List ℕ) (i j k : ℕ) → i ≤ j → j ≤ k → k ≤ length text
    → slice_range text i k ≡ take (j - i) (drop i text) ++ take (k - j) (drop j text)
line_is text i j k ij jk within =
    let first = take (j - i) (drop i text) in
    let long : k - i ≡ length first + (k - j) =
    omega (arith, length-take (j - i) (drop i text), length-drop i text) in
    ap (λ n. take n (drop i text)) long ∙ ap (λ z. take (length first + (k - j)) z) (drop_split text i j ij)
    ∙ take-append-add first (drop j text) (k - j)

-- what is put behind one another is the display
pub displayed : (text : List ℕ) (offset start end : ℕ) (a : AreEnds text offset start end)
    → (lines : List ℕ)
    → lines
    ≡ (slice_range text start end ++ 10 ∷ [])
    ++ ((map blank_under (filter begins (slice_range text start offset)) ++ 94 ∷ []) ++ 10 ∷ [])
    → lines ≡ display (around text offset start end a)
displayed text offset start end a lines e =
    let under = (map blank_under (filter begins (slice_range text start offset)) ++ 94 ∷ []) ++ 10 ∷ [] in
    e ∙ ap (λ z. (z ++ 10 ∷ []) ++ under) (line_is text start offset end a.forward a.behind a.within)
