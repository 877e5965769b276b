-- The test of liveness by a table, and what a table tells.
use Rattle.std.proofs.Common.{◌≡◌, ◌⊎◌, ℕ, zero, suc, ◌+◌, ◌<◌, Bool, true, false, not, ◌||◌, ◌&&◌, List, [], ◌∷◌, length, get_or, set, drop, slice_get, Option, Some, None, nat_eq, refl, sym, ap, ◌∙◌, subst, inl, inr, arith, get_or-set_other}
use Rattle.block_forms.specs.declared.forms.Block.{Block}
use Rattle.block_forms.specs.declared.forms.End.{End}
use Rattle.block_forms.specs.declared.forms.End.TheVariants.{Jump, Branch, Return, Fail}
use Rattle.block_forms.specs.declared.forms.Term.{Term}
use Rattle.block_forms.specs.Lowered.{end_leads}
use Rattle.block_forms.specs.Places.{In}
use Rattle.block_forms.specs.Live.{Live, LiveEnd, LiveIn, LiveSet}
use Rattle.block_graph.specs.Liveness.{IsClosed, OnlyLive, has, lives, lives_end, lives_set, marked, one_unless, unmarked}
use Rattle.block_graph.proofs.Lists.{compared, other_number, same_number, tests_other, tests_same}

pub has_from : (xs : List ℕ) (i s : ℕ) → i < length xs → has (drop i xs) s ≡ (nat_eq (get_or xs i 0) s || has (drop (i + 1) xs) s)
has_from [] i s lt = absurd (let no : ⊥ = omega arith in no)
has_from (x ∷ xs) zero s lt = refl
has_from (x ∷ xs) (suc i) s lt = has_from xs i s (omega arith) ∙ ap (λ v. nat_eq (get_or xs i 0) s || has (drop v (x ∷ xs)) s) (let e : suc (i + 1) ≡ suc i + 1 = omega arith in e)

or_cases : (a b : Bool) → (a || b) ≡ true → (a ≡ true) ⊎ (b ≡ true)
or_cases true b e = inl refl
or_cases false b e = inr e

or_first : (a b : Bool) → a ≡ true → (a || b) ≡ true
or_first a b e = ap (λ c. c || b) e

or_second : (a b : Bool) → b ≡ true → (a || b) ≡ true
or_second true b e = refl
or_second false b e = e

and_both : (a b : Bool) → (a && b) ≡ true → (a ≡ true) × (b ≡ true)
and_both true b e = (refl, e)
and_both false b e = absurd (let no : ⊥ = cc in no)

not_true : (a : Bool) → not a ≡ true → a ≡ false
not_true true e = absurd (let no : ⊥ = cc in no)
not_true false e = refl

pub has_in : (xs : List ℕ) (s : ℕ) → has xs s ≡ true → In xs s
has_in [] s h = let no : ⊥ = cc in no
has_in (x ∷ xs) s h = elim (or_cases (nat_eq x s) (has xs s) h) [ inl e ↦ inl (same_number x s e) | inr e ↦ inr (has_in xs s e) ]

pub in_has : (xs : List ℕ) (s : ℕ) → In xs s → has xs s ≡ true
in_has [] s i = absurd i
in_has (x ∷ xs) s (inl e) = or_first (nat_eq x s) (has xs s) (tests_same x s e)
in_has (x ∷ xs) s (inr i) = or_second (nat_eq x s) (has xs s) (in_has xs s i)

module _ (table : List Bool) (s : ℕ) where
  abbrev M : ℕ → Type 0
  M c = marked table c ≡ true

  live_end : (e : End) → lives_end e table s ≡ true → LiveEnd e M s
  live_end (Jump c) h = h
  live_end (Branch t y n) h = elim (or_cases (has t.names s) (marked table y || marked table n) h) [ inl q ↦ inl (has_in t.names s q) | inr q ↦ inr (or_cases (marked table y) (marked table n) q) ]
  live_end (Return t) h = has_in t.names s h
  live_end (Fail k) h = let no : ⊥ = cc in no

  end_live : (e : End) → LiveEnd e M s → lives_end e table s ≡ true
  end_live (Jump c) h = h
  end_live (Branch t y n) (inl i) = or_first (has t.names s) (marked table y || marked table n) (in_has t.names s i)
  end_live (Branch t y n) (inr (inl h)) = or_second (has t.names s) (marked table y || marked table n) (or_first (marked table y) (marked table n) h)
  end_live (Branch t y n) (inr (inr h)) = or_second (has t.names s) (marked table y || marked table n) (or_second (marked table y) (marked table n) h)
  end_live (Return t) h = in_has t.names s h
  end_live (Fail k) h = absurd h

  live_set : (a : Option (ℕ × Term)) (later : Bool) (L : Type 0) → (later ≡ true → L) → lives_set a later s ≡ true → LiveSet a L s
  live_set None later L f h = f h
  live_set (Some a) later L f h = elim (or_cases (has a.1.names s) (not (nat_eq a.0 s) && later) h) [
    | inl q ↦ inl (has_in a.1.names s q)
    | inr q ↦ let r = and_both (not (nat_eq a.0 s)) later q in inr (other_number a.0 s (not_true (nat_eq a.0 s) r.0), f r.1)
  ]

  set_live : (a : Option (ℕ × Term)) (later : Bool) (L : Type 0) → (L → later ≡ true) → LiveSet a L s → lives_set a later s ≡ true
  set_live None later L f h = f h
  set_live (Some a) later L f (inl i) = or_first (has a.1.names s) (not (nat_eq a.0 s) && later) (in_has a.1.names s i)
  set_live (Some a) later L f (inr h) = or_second (has a.1.names s) (not (nat_eq a.0 s) && later) (ap (λ c. not c && later) (tests_other a.0 s h.0) ∙ f h.1)

  pub lives_live : (x : Block) → lives x table s ≡ true → LiveIn (Some x) M s
  lives_live x h = live_set x.set (lives_end x.end table s) (LiveEnd x.end M s) (live_end x.end) h

  pub live_lives : (x : Block) → LiveIn (Some x) M s → lives x table s ≡ true
  live_lives x h = set_live x.set (lives_end x.end table s) (LiveEnd x.end M s) (end_live x.end) h

module _ (g : List Block) (next : ℕ → Type 0) (s : ℕ) (known : (c : ℕ) → next c → (k : ℕ) × Live g k c s) where
  ways_end : (e : End) → LiveEnd e next s → (k : ℕ) × LiveEnd e (λ c. Live g k c s) s
  ways_end (Jump c) h = known c h
  ways_end (Branch t y n) (inl i) = (0, inl i)
  ways_end (Branch t y n) (inr (inl h)) = let r = known y h in (r.0, inr (inl r.1))
  ways_end (Branch t y n) (inr (inr h)) = let r = known n h in (r.0, inr (inr r.1))
  ways_end (Return t) h = (0, h)
  ways_end (Fail k) h = absurd h

  ways_set : (a : Option (ℕ × Term)) (e : End) → LiveSet a (LiveEnd e next s) s → (k : ℕ) × LiveSet a (LiveEnd e (λ c. Live g k c s) s) s
  ways_set None e h = ways_end e h
  ways_set (Some a) e (inl i) = (0, inl i)
  ways_set (Some a) e (inr h) = let r = ways_end e h.1 in (r.0, inr (h.0, r.1))

  pub ways : (b : ℕ) (x : Block) → slice_get g b ≡ Some x → LiveIn (Some x) next s → (k : ℕ) × Live g k b s
  ways b x at h = let r = ways_set x.set x.end h in (suc r.0, subst (λ o. LiveIn o (λ c. Live g r.0 c s) s) (sym at) r.1)

-- what is live next may be more
module _ (P Q : ℕ → Type 0) (s : ℕ) (more : (c : ℕ) → P c → Q c) where
  more_end : (e : End) → LiveEnd e P s → LiveEnd e Q s
  more_end (Jump c) h = more c h
  more_end (Branch t y n) (inl i) = inl i
  more_end (Branch t y n) (inr (inl h)) = inr (inl (more y h))
  more_end (Branch t y n) (inr (inr h)) = inr (inr (more n h))
  more_end (Return t) h = h
  more_end (Fail k) h = h

  pub more_set : (x : Block) → LiveIn (Some x) P s → LiveIn (Some x) Q s
  more_set x h = go x.set h
    where
      go : (a : Option (ℕ × Term)) → LiveSet a (LiveEnd x.end P s) s → LiveSet a (LiveEnd x.end Q s) s
      go None h = more_end x.end h
      go (Some a) (inl i) = inl i
      go (Some a) (inr h) = inr (h.0, more_end x.end h.1)

-- a table that is closed marks each block at which the slot is live
pub live_marked : (g : List Block) (s : ℕ) (table : List Bool) → IsClosed g s table → (k b : ℕ) → Live g k b s → marked table b ≡ true
live_marked g s table closed zero b h = absurd h
live_marked g s table closed (suc k) b h = go (slice_get g b) refl h (live_marked g s table closed k)
  where
    go : (o : Option Block) → slice_get g b ≡ o → LiveIn o (λ c. Live g k c s) s → ((c : ℕ) → Live g k c s → marked table c ≡ true) → marked table b ≡ true
    go None e i rest = absurd i
    go (Some x) e i rest = closed b x e (more_set (λ c. Live g k c s) (λ c. marked table c ≡ true) s rest x i)

-- ---- where a live slot is read

read_end : (e : End) (next : ℕ → Type 0) (s : ℕ) → LiveEnd e next s → LiveEnd e (λ c. ⊥) s ⊎ ((c : ℕ) × next c × LiveEnd e (λ d. d ≡ c) s)
read_end (Jump c) next s h = inr (c, h, refl)
read_end (Branch t y n) next s (inl i) = inl (inl i)
read_end (Branch t y n) next s (inr (inl h)) = inr (y, h, inr (inl refl))
read_end (Branch t y n) next s (inr (inr h)) = inr (n, h, inr (inr refl))
read_end (Return t) next s h = inl h
read_end (Fail k) next s h = absurd h

-- the block reads it, or it is live at one of those that come next
pub read_or_next : (x : Block) (next : ℕ → Type 0) (s : ℕ) → LiveIn (Some x) next s → LiveIn (Some x) (λ c. ⊥) s ⊎ ((c : ℕ) × next c × LiveIn (Some x) (λ d. d ≡ c) s)
read_or_next x next s h = go x.set h
  where
    go : (a : Option (ℕ × Term)) → LiveSet a (LiveEnd x.end next s) s → LiveSet a (LiveEnd x.end (λ c. ⊥) s) s ⊎ ((c : ℕ) × next c × LiveSet a (LiveEnd x.end (λ d. d ≡ c) s) s)
    go None h = read_end x.end next s h
    go (Some a) (inl i) = inl (inl i)
    go (Some a) (inr h) = elim (read_end x.end next s h.1) [ inl r ↦ inl (inr (h.0, r)) | inr r ↦ inr (r.0, r.1, inr (h.0, r.2)) ]

leads_end : (e : End) (c s : ℕ) → LiveEnd e (λ d. d ≡ c) s → LiveEnd e (λ d. ⊥) s ⊎ (end_leads e c ≡ true)
leads_end (Jump d) c s q = inr (tests_same d c q)
leads_end (Branch t y n) c s (inl i) = inl (inl i)
leads_end (Branch t y n) c s (inr (inl q)) = inr (or_first (nat_eq y c) (nat_eq n c) (tests_same y c q))
leads_end (Branch t y n) c s (inr (inr q)) = inr (or_second (nat_eq y c) (nat_eq n c) (tests_same n c q))
leads_end (Return t) c s h = inl h
leads_end (Fail k) c s h = absurd h

-- the block reads it, or leads where it is live
pub read_or_leads : (x : Block) (c s : ℕ) → LiveIn (Some x) (λ d. d ≡ c) s → LiveIn (Some x) (λ d. ⊥) s ⊎ (end_leads x.end c ≡ true)
read_or_leads x c s h = go x.set h
  where
    go : (a : Option (ℕ × Term)) → LiveSet a (LiveEnd x.end (λ d. d ≡ c) s) s → LiveSet a (LiveEnd x.end (λ d. ⊥) s) s ⊎ (end_leads x.end c ≡ true)
    go None h = leads_end x.end c s h
    go (Some a) (inl i) = inl (inl i)
    go (Some a) (inr h) = elim (leads_end x.end c s h.1) [ inl r ↦ inl (inr (h.0, r)) | inr e ↦ inr e ]

-- ---- one more block marked

pub unmarked_set : (table : List Bool) (b : ℕ) → b < length table → marked table b ≡ false → suc (unmarked (set table b true)) ≡ unmarked table
unmarked_set [] b lt e = absurd (let no : ⊥ = omega arith in no)
unmarked_set (m ∷ ms) zero lt e = (let q : suc (0 + unmarked ms) ≡ 1 + unmarked ms = omega arith in q) ∙ ap (λ v. one_unless v + unmarked ms) (sym e)
unmarked_set (m ∷ ms) (suc b) lt e =
    let rest : suc (unmarked (set ms b true)) ≡ unmarked ms = unmarked_set ms b (omega arith) e in
    omega arith

module _ (g : List Block) (s : ℕ) (table : List Bool) (only : OnlyLive g s table) where
  pub mark_more : (b : ℕ) (x : Block) → slice_get g b ≡ Some x → lives x table s ≡ true → b < length table → OnlyLive g s (set table b true)
  mark_more b x at h lt c m = go (compared c b)
    where
      go : (c ≡ b) ⊎ (c ≡ b → ⊥) → (k : ℕ) × Live g k c s
      go (inl e) = subst (λ v. (k : ℕ) × Live g k v s) (sym e) (ways g (λ c. marked table c ≡ true) s only b x at (lives_live table s x h))
      go (inr differ) = only c (sym (get_or-set_other table b c true false differ) ∙ m)
