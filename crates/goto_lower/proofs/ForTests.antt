-- In a form whose FORs have rising counters the test of a FOR is the first of its kind.
use Rattle.std.proofs.Common.{◌≡◌, ℕ, zero, suc, ◌+◌, ◌*◌, ◌≤◌, ◌<◌, Bool, true, false, ◌&&◌, ◌||◌, List, [], ◌∷◌, ◌++◌, length, Option, Some, None, refl, sym, ap, ◌∙◌, subst, arith, append_assoc}
use Rattle.std.specs.Prelude.{slice_get, nat_eq, if◌then◌else◌}
use Rattle.std.proofs.lemmas.Bool.{eqb-true, eq-eqb, ne_eqb}
use Rattle.block_forms.specs.declared.forms.Block.{Block}
use Rattle.block_forms.specs.declared.forms.End.{End}
use Rattle.block_forms.specs.declared.forms.End.TheVariants.{Jump, Branch, Return, Fail}
use Rattle.block_forms.specs.declared.fixed_list.Fixed.TheVariants as fix
use Rattle.block_forms.specs.FixedList.{position, past_end_entry}
use Rattle.block_forms.specs.Patterns.{term, is_pair, tests, first_test, leaves_range}

-- ---- rising lists

abbrev pub Rising : ℕ → List ℕ → Type 0
Rising low [] = Unit {0}
Rising low (x ∷ xs) = (low ≤ x) × Rising (x + 1) xs

rising_weak : (low more : ℕ) (xs : List ℕ) → low ≤ more → Rising more xs → Rising low xs
rising_weak low more [] le r = tt
rising_weak low more (x ∷ xs) le r = let h : more ≤ x = r.0 in (omega arith, r.1)

rising_later : (ks xs : List ℕ) (low : ℕ) → Rising low (ks ++ xs) → Rising low xs
rising_later [] xs low r = r
rising_later (k ∷ ks) xs low r = let h : low ≤ k = r.0 in rising_weak low (k + 1) xs (omega arith) (rising_later ks xs (k + 1) r.1)

-- ---- the counters that blocks test

abbrev pub second : List ℕ → List ℕ
second [] = []
second (x ∷ []) = []
second (x ∷ y ∷ []) = y ∷ []
second (x ∷ y ∷ z ∷ rest) = []

abbrev if_tested : Bool → List ℕ → List ℕ
if_tested true names = second names
if_tested false names = []

pair_second : (a c : ℕ) (names : List ℕ) → is_pair a c names ≡ true → second names ≡ c ∷ []
pair_second a c [] t = absurd (cc)
pair_second a c (x ∷ []) t = absurd (cc)
pair_second a c (x ∷ y ∷ []) t = by (nat_eq x a) (nat_eq y c) refl t
  where
    by : (v w : Bool) → nat_eq y c ≡ w → v && w ≡ true → y ∷ [] ≡ c ∷ []
    by true true e h = ap (λ z. z ∷ []) (eqb-true y c e)
    by true false e h = absurd (cc)
    by false w e h = absurd (cc)
pair_second a c (x ∷ y ∷ z ∷ rest) t = absurd (cc)

module _ (S : ℕ) where
  abbrev pub key : End → List ℕ
  key (Jump t) = []
  key (Branch t y n) = if_tested (nat_eq t.expr (S + position fix.PastGreatest) || nat_eq t.expr (S + position fix.PastLeast)) t.names
  key (Return t) = []
  key (Fail c) = []

  abbrev pub keys : List Block → List ℕ
  keys [] = []
  keys (x ∷ xs) = key x.end ++ keys xs

  pub keys_append : (xs ys : List Block) → keys (xs ++ ys) ≡ keys xs ++ keys ys
  keys_append [] ys = refl
  keys_append (x ∷ xs) ys = ap (λ ks. key x.end ++ ks) (keys_append xs ys) ∙ sym (append_assoc (key x.end) (keys xs) (keys ys))

  -- a branch on another entry tests no counter
  pub no_key : (k : ℕ) (names : List ℕ) (y n : ℕ) → (k ≡ S + position fix.PastGreatest → ⊥) → (k ≡ S + position fix.PastLeast → ⊥) → key (Branch (term k names) y n) ≡ []
  no_key k names y n up down = λ i. if_tested (ne_eqb k (S + position fix.PastGreatest) up i || ne_eqb k (S + position fix.PastLeast) down i) names

  tested_by : (reverse : Bool) (k : ℕ) → nat_eq k (S + position (past_end_entry reverse)) ≡ true → (nat_eq k (S + position fix.PastGreatest) || nat_eq k (S + position fix.PastLeast)) ≡ true
  tested_by false k t = ap (λ v. v || nat_eq k (S + position fix.PastLeast)) t
  tested_by true k t = by (nat_eq k (S + position fix.PastGreatest)) (nat_eq k (S + position fix.PastLeast)) t
    where
      by : (v w : Bool) → w ≡ true → (v || w) ≡ true
      by true w e = refl
      by false w e = e

  key_of : (reverse : Bool) (a c : ℕ) (e : End) → tests (S + position (past_end_entry reverse)) a c e ≡ true → key e ≡ c ∷ []
  key_of reverse a c (Jump t) h = absurd (cc)
  key_of reverse a c (Branch t y n) h = by (nat_eq t.expr (S + position (past_end_entry reverse))) (is_pair a c t.names) refl refl h
    where
      by : (v w : Bool) → nat_eq t.expr (S + position (past_end_entry reverse)) ≡ v → is_pair a c t.names ≡ w → v && w ≡ true → key (Branch t y n) ≡ c ∷ []
      by true true p q r = ap (λ v. if_tested v t.names) (tested_by reverse t.expr p) ∙ pair_second a c t.names q
      by true false p q r = absurd (cc)
      by false w p q r = absurd (cc)
  key_of reverse a c (Return t) h = absurd (cc)
  key_of reverse a c (Fail x) h = absurd (cc)

  leaves_test : (reverse : Bool) (step cur y n : ℕ) → tests (S + position (past_end_entry reverse)) step cur (Branch (leaves_range S reverse step cur) y n) ≡ true
  leaves_test reverse step cur y n = λ i. eq-eqb (S + position (past_end_entry reverse)) (S + position (past_end_entry reverse)) refl i && (eq-eqb step step refl i && eq-eqb cur cur refl i)

  pub leaves_key : (reverse : Bool) (step cur y n : ℕ) → key (Branch (leaves_range S reverse step cur) y n) ≡ cur ∷ []
  leaves_key reverse step cur y n = key_of reverse step cur (Branch (leaves_range S reverse step cur) y n) (leaves_test reverse step cur y n)

  -- ---- the first test

  low_of : (ys : List Block) (low : ℕ) → Rising low (keys ys) → (b : ℕ) (x : Block) (c : ℕ) → slice_get ys b ≡ Some x → key x.end ≡ c ∷ [] → low ≤ c
  low_of [] low r b x c e k = absurd (cc)
  low_of (y ∷ ys) low r zero x c e k =
      let here : key y.end ≡ c ∷ [] = (let same : y ≡ x = cc in ap (λ (z : Block). key z.end) same ∙ k) in
      let s : Rising low (c ∷ keys ys) = subst (λ ks. Rising low (ks ++ keys ys)) here r in s.0
  low_of (y ∷ ys) low r (suc b) x c e k = low_of ys low (rising_later (key y.end) (keys ys) low r) b x c e k

  module _ (reverse : Bool) (a c : ℕ) where
    abbrev Tests : Block → Bool
    Tests y = tests (S + position (past_end_entry reverse)) a c y.end

    abbrev First : List Block → ℕ
    First ys = first_test (S + position (past_end_entry reverse)) a c ys

    first_is : (ys : List Block) (low : ℕ) → Rising low (keys ys) → (b : ℕ) (x : Block) → slice_get ys b ≡ Some x → Tests x ≡ true → First ys ≡ b
    first_is [] low r b x e t = absurd (cc)
    first_is (y ∷ ys) low r zero x e t =
        let same : y ≡ x = cc in
        ap (λ v. if v then 0 else 1 + First ys) (ap (λ z. Tests z) same ∙ t)
    first_is (y ∷ ys) low r (suc b) x e t = by (Tests y) refl (first_is ys low (rising_later (key y.end) (keys ys) low r) b x e t)
      where
        by : (v : Bool) → Tests y ≡ v → First ys ≡ b → (if v then 0 else 1 + First ys) ≡ suc b
        by true h same =
            let s : Rising low (c ∷ keys ys) = subst (λ ks. Rising low (ks ++ keys ys)) (key_of reverse a c y.end h) r in
            let less : c + 1 ≤ c = low_of ys (c + 1) s.1 b x c e (key_of reverse a c x.end t) in
            absurd (omega arith)
        by false h same = omega arith

  pub test_found : (ys : List Block) → Rising 0 (keys ys) → (reverse : Bool) (step cur b y n : ℕ) (x : Block) → slice_get ys b ≡ Some x → x.end ≡ Branch (leaves_range S reverse step cur) y n →
      first_test (S + position (past_end_entry reverse)) step cur ys ≡ b
  test_found ys r reverse step cur b y n x e end =
      first_is reverse step cur ys 0 r b x e (ap (λ z. tests (S + position (past_end_entry reverse)) step cur z) end ∙ leaves_test reverse step cur y n)
