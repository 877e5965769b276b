-- The laws of every run: it stays as it is once it is over, and has at most one head a visit.
use Rattle.std.proofs.Common.{◌≡◌, ℕ, zero, suc, ◌+◌, ◌≤◌, Bool, true, false, refl, arith}
use Rattle.block_forms.specs.Machines.{
  Move,
  ends,
  moves,
  stuck,
  Machine,
  counted,
  then_goes,
  go,
  IsOver,
  Stays,
  HeadsFew,
}

module _ {S : Type 0} (m : Machine S) where
  then_stays : (j k : ℕ) → ((s : S) (h : ℕ) → IsOver (go m j s h).answer → go m k s h ≡ go m j s h) → (x : Move S)
      (h : ℕ) → IsOver (then_goes x (go m j) h).answer → then_goes x (go m k) h ≡ then_goes x (go m j) h
  then_stays j k further (ends r) h over = refl
  then_stays j k further (moves s) h over = further s h over
  then_stays j k further stuck h over = refl

  pub stays_from : (j k : ℕ) (s : S) (h : ℕ) → j ≤ k → IsOver (go m j s h).answer → go m k s h ≡ go m j s h
  stays_from zero k s h le over = absurd over
  stays_from (suc j) zero s h le over = absurd (omega arith)
  stays_from (suc j) (suc k) s h le over = then_stays j k (λ s h. stays_from j k s h (omega arith)) (m.visit s) (counted (m.head s) h) over

  counted_few : (b : Bool) (h : ℕ) → counted b h ≤ suc h
  counted_few true h = omega arith
  counted_few false h = omega arith

  counted_more : (b : Bool) (h : ℕ) → h ≤ counted b h
  counted_more true h = omega arith
  counted_more false h = omega arith

  then_few : (k : ℕ) → ((s : S) (h : ℕ) → (go m k s h).heads ≤ h + k) → (x : Move S) (h h' : ℕ)
      → h' ≤ suc h → (then_goes x (go m k) h').heads ≤ h + suc k
  then_few k further (ends r) h h' p = omega (arith, p)
  then_few k further (moves s) h h' p = within (go m k s h').heads h h' k p (further s h')
    where
      within : (n h h' k : ℕ) → h' ≤ suc h → n ≤ h' + k → n ≤ h + suc k
      within n h h' k p q = omega (arith, p, q)
  then_few k further stuck h h' p = omega (arith, p)

  -- at most one for each visit
  pub few_from : (k : ℕ) (s : S) (h : ℕ) → (go m k s h).heads ≤ h + k
  few_from zero s h = omega arith
  few_from (suc k) s h = then_few k (few_from k) (m.visit s) h (counted (m.head s) h) (counted_few (m.head s) h)

  then_more : (k : ℕ) → ((s : S) (h : ℕ) → h ≤ (go m k s h).heads) → (x : Move S) (h h' : ℕ) → h ≤ h' → h ≤ (then_goes x (go m k) h').heads
  then_more k further (ends r) h h' p = p
  then_more k further (moves s) h h' p = within (go m k s h').heads h h' p (further s h')
    where
      within : (n h h' : ℕ) → h ≤ h' → h' ≤ n → h ≤ n
      within n h h' p q = omega (arith, p, q)
  then_more k further stuck h h' p = p

  -- heads are only added
  pub heads_from : (k : ℕ) (s : S) (h : ℕ) → h ≤ (go m k s h).heads
  heads_from zero s h = omega arith
  heads_from (suc k) s h = then_more k (heads_from k) (m.visit s) h (counted (m.head s) h) (counted_more (m.head s) h)

  pub run_stays : (s : S) → Stays (λ k. go m k s 0)
  run_stays s j k le over = stays_from j k s 0 le over

  pub run_heads_few : (s : S) → HeadsFew (λ k. go m k s 0)
  run_heads_few s k = omega (arith, few_from k s 0)
