-- The line of the SQLSTATEs of faults.
use Rattle.std.proofs.Common.{◌≡◌, ◌∙◌, ◌<◌, ◌≤◌, ◌+◌, ◌++◌, ap, sym, ℕ, suc, List, drop, get_or, length, arith}
use Rattle.std.specs.Prelude.{flat_map}
use Rattle.std.proofs.Math.Seq.{drop-cons}
use Rattle.std.proofs.lemmas.List.{append-nil, append_assoc, drop_all}
use Rattle.away_values.specs.declared.values.Class.{Class}
use Rattle.away_top.specs.ExplainCourse.{with_blank}

-- one more
pub code_next : (done : List ℕ) (cs : List Class) (i : ℕ) (d : Class) (all : List ℕ) → i < length cs → done ++ flat_map with_blank (drop i cs) ≡ all
    → (done ++ with_blank (get_or cs i d)) ++ flat_map with_blank (drop (i + 1) cs) ≡ all
code_next done cs i d all lt h =
    let n : i + 1 ≡ suc i = omega arith in
    let here : List ℕ = with_blank (get_or cs i d) in
    let step : here ++ flat_map with_blank (drop (i + 1) cs) ≡ flat_map with_blank (drop i cs) =
    ap (λ k. here ++ flat_map with_blank (drop k cs)) n ∙ sym (ap (λ l. flat_map with_blank l) (drop-cons cs i d lt)) in
    append_assoc done here (flat_map with_blank (drop (i + 1) cs)) ∙ ap (λ z. done ++ z) step ∙ h

-- all of them
pub code_end : (done : List ℕ) (cs : List Class) (i : ℕ) (all : List ℕ) → length cs ≤ i → done ++ flat_map with_blank (drop i cs) ≡ all → done ≡ all
code_end done cs i all le h = sym (append-nil done) ∙ ap (λ l. done ++ flat_map with_blank l) (sym (drop_all i cs le)) ∙ h
