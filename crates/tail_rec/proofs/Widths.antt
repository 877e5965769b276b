-- The most of the counts of labels, and the columns of each type.
use Rattle.std.proofs.Common.{◌≡◌, ◌⊎◌, ℕ, zero, suc, ◌+◌, ◌*◌, ◌<◌, ◌≤◌, Bool, true, false, cond, List, [], ◌∷◌, ◌++◌, length, replicate, ◌^◌, Some, refl, sym, ap, ◌∙◌, subst, inl, inr, arith}
use Rattle.std.specs.Prelude.{slice_get, nat_lt}
use Rattle.std.specs.List.{count_by}
use Rattle.std.proofs.lemmas.Bool.{ltb-true, ltb-false}
use Rattle.std.proofs.lemmas.List.{length-append, length-replicate}
use Rattle.std.proofs.lemmas.List.Sums.{sum_by-cons, sum_by-append}
use Rattle.std.proofs.lemmas.List.Folds.{sum_by-replicate}
use Rattle.away_typing.specs.Kinds.{same}
use Rattle.away_values.specs.declared.types.Ty.{Ty}
use Rattle.away_values.specs.declared.types.Ty.TheVariants as ty
use Rattle.block_forms.specs.Places.{In}
use Rattle.tail_rec.specs.declared.columns.PerType.{PerType}
use Rattle.tail_rec.specs.Columns.{greater, most_of, of_type, columns_of, starts_of, AreFew}

-- ---- the most

greater_cases : (P : ℕ → Type 0) (m n : ℕ) → (m < n → P n) → (n ≤ m → P m) → P (greater m n)
greater_cases P m n f h = by (nat_lt m n) refl
  where
    by : (t : Bool) → nat_lt m n ≡ t → P (cond t n m)
    by true e = f (ltb-true m n e)
    by false e = h (ltb-false m n e)

module _ (count : ℕ → ℕ) where
  pub most_from : (m : ℕ) (bs : List ℕ) → m ≤ most_of count m bs
  most_from m [] = omega arith
  most_from m (b ∷ bs) =
      let rest = most_from (greater m (count b)) bs in
      let here = greater_cases (λ k. m ≤ k) m (count b) (λ lt. omega (arith, lt)) (λ le. omega arith) in
      omega (arith, rest, here)

  pub most_each : (m : ℕ) (bs : List ℕ) (b : ℕ) → In bs b → count b ≤ most_of count m bs
  most_each m [] b i = absurd i
  most_each m (c ∷ bs) b (inl e) =
      let rest = most_from (greater m (count c)) bs in
      let here = greater_cases (λ k. count c ≤ k) m (count c) (λ lt. omega arith) (λ le. le) in
      subst (λ c'. count c' ≤ most_of count (greater m (count c)) bs) e (omega (arith, rest, here))
  most_each m (c ∷ bs) b (inr i) = most_each (greater m (count c)) bs b i

  -- the most is the first number, or the count of one of the list
  pub most_is : (m : ℕ) (bs : List ℕ) → (most_of count m bs ≡ m) ⊎ ((b : ℕ) × In bs b × (count b ≡ most_of count m bs))
  most_is m [] = inl refl
  most_is m (b ∷ bs) = elim (most_is (greater m (count b)) bs) [
    | inl e ↦ greater_cases (λ k. most_of count k bs ≡ k → (most_of count k bs ≡ m) ⊎ ((c : ℕ) × In (b ∷ bs) c × (count c ≡ most_of count k bs))) m (count b)
        (λ lt q. inr (b, inl refl, sym q)) (λ le q. inl q) e
    | inr r ↦ inr (r.0, inr r.1, r.2)
  ]

-- ---- how many columns of a type there are

pub count-cons : {X : Type 0} (p : X → Bool) (x : X) (xs : List X) → count_by p (x ∷ xs) ≡ cond (p x) 1 0 + count_by p xs
count-cons p x xs = sum_by-cons (λ x. cond (p x) 1 0) x xs

count-append : {X : Type 0} (p : X → Bool) (xs ys : List X) → count_by p (xs ++ ys) ≡ count_by p xs + count_by p ys
count-append p xs ys = sum_by-append (λ x. cond (p x) 1 0) xs ys

count_replicate : (t u : Ty) (n : ℕ) → count_by (same t) (replicate n u) ≡ n * cond (same t u) 1 0
count_replicate t u n = sum_by-replicate (λ u. cond (same t u) 1 0) n u

parts : (n : PerType) (t : Ty) → count_by (same t) (columns_of n) ≡ n.bigint * cond (same t ty.Bigint) 1 0 + (n.boolean * cond (same t ty.Boolean) 1 0
    + (n.text * cond (same t ty.Text) 1 0 + n.integer * cond (same t ty.Integer) 1 0))
parts n t =
    let text = count-append (same t) (replicate n.text ty.Text) (replicate n.integer ty.Integer) in
    let boolean = count-append (same t) (replicate n.boolean ty.Boolean) (replicate n.text ty.Text ++ replicate n.integer ty.Integer) in
    let bigint = count-append (same t) (replicate n.bigint ty.Bigint) (replicate n.boolean ty.Boolean ++ (replicate n.text ty.Text ++ replicate n.integer ty.Integer)) in
    bigint ∙ sums (count_replicate t ty.Bigint n.bigint) (boolean ∙ sums (count_replicate t ty.Boolean n.boolean) (text ∙ sums (count_replicate t ty.Text n.text)
    (count_replicate t ty.Integer n.integer)))
  where
    sums : {a b c d : ℕ} → a ≡ b → c ≡ d → a + c ≡ b + d
    sums {a} {b} {c} {d} p q = ap (λ x. x + c) p ∙ ap (λ x. b + x) q

pub columns_count : (n : PerType) (t : Ty) → count_by (same t) (columns_of n) ≡ of_type n t
unfolding same
columns_count n ty.Bigint = parts n ty.Bigint ∙ (let e : n.bigint * 1 + (n.boolean * 0 + (n.text * 0 + n.integer * 0)) ≡ n.bigint = omega arith in e)
columns_count n ty.Boolean = parts n ty.Boolean ∙ (let e : n.bigint * 0 + (n.boolean * 1 + (n.text * 0 + n.integer * 0)) ≡ n.boolean = omega arith in e)
columns_count n ty.Text = parts n ty.Text ∙ (let e : n.bigint * 0 + (n.boolean * 0 + (n.text * 1 + n.integer * 0)) ≡ n.text = omega arith in e)
columns_count n ty.Integer = parts n ty.Integer ∙ (let e : n.bigint * 0 + (n.boolean * 0 + (n.text * 0 + n.integer * 1)) ≡ n.integer = omega arith in e)

pub few_columns : (n : PerType) → AreFew n → length (columns_of n) < 2 ^ 30
few_columns n few =
    let a = few.bigint in
    let b = few.boolean in
    let c = few.text in
    let d = few.integer in
    let whole : length (columns_of n) ≡ n.bigint + (n.boolean + (n.text + n.integer)) =
    longer n.bigint ty.Bigint (replicate n.boolean ty.Boolean ++ (replicate n.text ty.Text ++ replicate n.integer ty.Integer))
    (longer n.boolean ty.Boolean (replicate n.text ty.Text ++ replicate n.integer ty.Integer)
    (longer n.text ty.Text (replicate n.integer ty.Integer) (length-replicate n.integer ty.Integer))) in
    omega (arith, a, b, c, d, whole)
  where
    longer : (m : ℕ) (t : Ty) (rest : List Ty) {k : ℕ} → length rest ≡ k → length (replicate m t ++ rest) ≡ m + k
    longer m t rest {k} e = length-append (replicate m t) rest ∙ (ap (λ l. l + length rest) (length-replicate m t) ∙ ap (λ l. m + l) e)

-- ---- which columns have a type

within_repeated : (m : ℕ) (t : Ty) (rest : List Ty) (c : ℕ) → c < m → slice_get (replicate m t ++ rest) c ≡ Some t
within_repeated zero t rest c lt = absurd (let no : ⊥ = omega (arith, lt) in no)
within_repeated (suc m) t rest zero lt = refl
within_repeated (suc m) t rest (suc c) lt = within_repeated m t rest c (omega (arith, lt))

behind_repeated : (m : ℕ) (t : Ty) (rest : List Ty) (c : ℕ) → slice_get (replicate m t ++ rest) (m + c) ≡ slice_get rest c
behind_repeated zero t rest c = ap (slice_get rest) (let e : 0 + c ≡ c = omega arith in e)
behind_repeated (suc m) t rest c =
    ap (slice_get (t ∷ (replicate m t ++ rest))) (let e : suc m + c ≡ suc (m + c) = omega arith in e) ∙ behind_repeated m t rest c

-- a number at or above another is that and a rest
rest_of : (m c : ℕ) → m ≤ c → (d : ℕ) × (c ≡ m + d)
rest_of zero c le = (c, omega arith)
rest_of (suc m) zero le = absurd (let no : ⊥ = omega (arith, le) in no)
rest_of (suc m) (suc c) le = let r = rest_of m c (omega (arith, le)) in let e = r.1 in (r.0, omega (arith, e))

-- where the columns behind the first m have a type from k on, these columns have it from m + k on
behind : (m : ℕ) (u : Ty) (rest : List Ty) (t : Ty) (c k w : ℕ) → ((d : ℕ) → k ≤ d → d < k + w → slice_get rest d ≡ Some t) → m + k ≤ c → c < (m + k) + w
    → slice_get (replicate m u ++ rest) c ≡ Some t
behind m u rest t c k w h le lt =
    let r = rest_of m c (omega (arith, le)) in
    let e : c ≡ m + r.0 = r.1 in
    ap (slice_get (replicate m u ++ rest)) e ∙ (behind_repeated m u rest r.0 ∙ h r.0 (omega (arith, le, e)) (omega (arith, lt, e)))

pub column_type : (n : PerType) (t : Ty) (c : ℕ) → of_type (starts_of n) t ≤ c → c < of_type (starts_of n) t + of_type n t
    → slice_get (columns_of n) c ≡ Some t
column_type n ty.Bigint c le lt =
    within_repeated n.bigint ty.Bigint (replicate n.boolean ty.Boolean ++ (replicate n.text ty.Text ++ replicate n.integer ty.Integer)) c (omega (arith, lt))
column_type n ty.Boolean c le lt =
    behind n.bigint ty.Bigint (replicate n.boolean ty.Boolean ++ (replicate n.text ty.Text ++ replicate n.integer ty.Integer)) ty.Boolean c 0 n.boolean
    (λ d k less. within_repeated n.boolean ty.Boolean (replicate n.text ty.Text ++ replicate n.integer ty.Integer) d (omega (arith, less)))
    (omega (arith, le)) (omega (arith, lt))
column_type n ty.Text c le lt =
    behind n.bigint ty.Bigint (replicate n.boolean ty.Boolean ++ (replicate n.text ty.Text ++ replicate n.integer ty.Integer)) ty.Text c n.boolean n.text
    (λ d k less. behind n.boolean ty.Boolean (replicate n.text ty.Text ++ replicate n.integer ty.Integer) ty.Text d 0 n.text
    (λ f l small. within_repeated n.text ty.Text (replicate n.integer ty.Integer) f (omega (arith, small)))
    (omega (arith, k)) (omega (arith, less)))
    le lt
column_type n ty.Integer c le lt =
    behind n.bigint ty.Bigint (replicate n.boolean ty.Boolean ++ (replicate n.text ty.Text ++ replicate n.integer ty.Integer)) ty.Integer c
    (n.boolean + n.text) n.integer
    (λ d k less. behind n.boolean ty.Boolean (replicate n.text ty.Text ++ replicate n.integer ty.Integer) ty.Integer d n.text n.integer
    (λ f l small. behind n.text ty.Text (replicate n.integer ty.Integer) ty.Integer f 0 n.integer
    (λ h i tiny. repeated n.integer h (omega (arith, tiny)))
    (omega (arith, l)) (omega (arith, small)))
    (omega (arith, k)) (omega (arith, less)))
    (omega (arith, le)) (omega (arith, lt))
  where
    repeated : (m h : ℕ) → h < m → slice_get (replicate m ty.Integer) h ≡ Some ty.Integer
    repeated zero h lt = absurd (let no : ⊥ = omega (arith, lt) in no)
    repeated (suc m) zero lt = refl
    repeated (suc m) (suc h) lt = repeated m h (omega (arith, lt))
