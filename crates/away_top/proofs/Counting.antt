-- The lines of counts.
use Rattle.std.proofs.Common.{◌≡◌, ◌∙◌, ◌<◌, ◌≤◌, ◌+◌, ◌++◌, ap, sym, ℕ, suc, List, [], ◌∷◌, Bor, codes, drop, get_or, length, map, arith}
use Rattle.std.specs.Fmt.{decimal}
use Rattle.std.proofs.Math.Seq.{drop-cons}
use Rattle.std.proofs.lemmas.List.{append-nil, append_assoc, drop_all}
use Rattle.cert_json.specs.Forms.{Cert}
use Rattle.away_top.specs.ExplainCourse.{Count, OwnCounts, count, count_lines, counts}
use Rattle.away_top.specs.Explaining.{as_count}
use Rattle.away_top.specs.Lines.{line}

-- ---- lines

-- one more
pub count_next : (done : List ℕ) (cs : List (Bor (List ℕ) × ℕ)) (i : ℕ) (d : Bor (List ℕ) × ℕ) (all : List ℕ) → i < length cs → done ++ count_lines (map as_count (drop i cs)) ≡ all
    → (done ++ line ((get_or cs i d).0.now ++ (codes " " ++ decimal (get_or cs i d).1))) ++ count_lines (map as_count (drop (i + 1) cs)) ≡ all
count_next done cs i d all lt h =
    let n : i + 1 ≡ suc i = omega arith in
    let here : List ℕ = line ((get_or cs i d).0.now ++ (codes " " ++ decimal (get_or cs i d).1)) in
    let step : here ++ count_lines (map as_count (drop (i + 1) cs)) ≡ count_lines (map as_count (drop i cs)) =
    ap (λ k. here ++ count_lines (map as_count (drop k cs))) n ∙ sym (ap (λ l. count_lines (map as_count l)) (drop-cons cs i d lt)) in
    append_assoc done here (count_lines (map as_count (drop (i + 1) cs))) ∙ ap (λ z. done ++ z) step ∙ h

-- all of them
pub count_end : (done : List ℕ) (cs : List (Bor (List ℕ) × ℕ)) (i : ℕ) (all : List ℕ) → length cs ≤ i → done ++ count_lines (map as_count (drop i cs)) ≡ all → done ≡ all
count_end done cs i all le h = sym (append-nil done) ∙ ap (λ l. done ++ count_lines (map as_count l)) (sym (drop_all i cs le)) ∙ h

-- ---- what is counted

-- the counts of a function and of its query
abbrev with_counts : OwnCounts → ℕ → ℕ → ℕ → List Count
with_counts own labels columns bytes =
    count (codes "nodes") own.nodes
    ∷ count (codes "variables") own.variables
    ∷ count (codes "loops") own.loops
    ∷ count (codes "parameters") own.params
    ∷ count (codes "labels") labels
    ∷ count (codes "columns") columns
    ∷ count (codes "bytes") bytes
    ∷ []

pub same_counts : (own : OwnCounts) (forms : Cert) (bytes labels columns found : ℕ) → labels ≡ length forms.tail.labels → columns ≡ length forms.tail.columns → found ≡ bytes
    → with_counts own labels columns found ≡ counts own forms bytes
same_counts own forms bytes labels columns found labels_are columns_are bytes_are =
    ap (λ n. with_counts own n columns found) labels_are ∙ ap (λ n. with_counts own (length forms.tail.labels) n found) columns_are
    ∙ ap (λ n. with_counts own (length forms.tail.labels) (length forms.tail.columns) n) bytes_are

pub same_own : (nodes variables loops params n v l p : ℕ) → nodes ≡ n → variables ≡ v → loops ≡ l → params ≡ p
    → ◌≡◌ {A = OwnCounts} (record { nodes = nodes; variables = variables; loops = loops; params = params }) (record { nodes = n; variables = v; loops = l; params = p })
same_own nodes variables loops params n v l p nodes_are variables_are loops_are params_are = cc
