-- Which slots may be live at a block: one block at a time, and where the ways around a block lead.
use Rattle.std.proofs.Common.{◌≡◌, ℕ, zero, suc, Bool, true, false, List, ◌∷◌, slice_get, Option, Some, None, subst, if◌then◌else◌, inl, inr}
use Rattle.std.specs.Prelude.{◌⊎◌}
use Rattle.away_values.specs.declared.values.Class.{Class}
use Rattle.plsql_meaning.specs.Outcomes.{Label, names_loop, names_block}
use Rattle.block_forms.specs.Around.{Around, exit_to, again_to}
use Rattle.block_forms.specs.declared.forms.Block.{Block}
use Rattle.block_forms.specs.declared.forms.End.{End}
use Rattle.block_forms.specs.declared.forms.End.TheVariants.{Jump, Branch, Return, Fail}
use Rattle.block_forms.specs.declared.forms.Term.{Term}
use Rattle.block_forms.specs.Forms.{Assignment}
use Rattle.block_forms.specs.Patterns.{sets, branches, jumps, returns, fails}
use Rattle.block_forms.specs.Places.{In}
use Rattle.block_forms.specs.Live.{Live, LiveIn, LiveEnd, LiveSet}

-- slots that may be live
abbrev pub Slots : Type 1
Slots = ℕ → Type 0

abbrev pub with_slot : Slots → ℕ → Slots
with_slot V slot s = V s ⊎ (slot ≡ s)

abbrev pub Within : Slots → Slots → Type 0
Within V W = (s : ℕ) → V s → W s

abbrev pub Reads : Slots → Term → Type 0
Reads V t = (s : ℕ) → In t.names s → V s

pub reads_more : (V W : Slots) → Within V W → (t : Term) → Reads V t → Reads W t
reads_more V W sub t r s i = sub s (r s i)

module _ (blocks : List Block) where
  -- what is live at a block by a way of so many blocks at most is among the slots
  abbrev pub Safe : ℕ → ℕ → Slots → Type 0
  Safe k b V = (s : ℕ) → Live blocks k b s → V s

  -- ---- shorter ways

  more_end : (e : End) (p q : Slots) (s : ℕ) → ((c : ℕ) → p c → q c) → LiveEnd e p s → LiveEnd e q s
  more_end (Jump c) p q s h l = h c l
  more_end (Branch t y n) p q s h (inl i) = inl i
  more_end (Branch t y n) p q s h (inr (inl l)) = inr (inl (h y l))
  more_end (Branch t y n) p q s h (inr (inr l)) = inr (inr (h n l))
  more_end (Return t) p q s h l = l
  more_end (Fail c) p q s h l = l

  more_set : (a : Assignment) (p q : Type 0) (s : ℕ) → (p → q) → LiveSet a p s → LiveSet a q s
  more_set None p q s h l = h l
  more_set (Some a) p q s h (inl i) = inl i
  more_set (Some a) p q s h (inr l) = inr (l.0, h l.1)

  more_in : (x : Option Block) (p q : Slots) (s : ℕ) → ((c : ℕ) → p c → q c) → LiveIn x p s → LiveIn x q s
  more_in None p q s h l = l
  more_in (Some x) p q s h l = more_set x.set (LiveEnd x.end p s) (LiveEnd x.end q s) s (more_end x.end p q s h) l

  live_more : (k b s : ℕ) → Live blocks k b s → Live blocks (suc k) b s
  live_more zero b s l = absurd l
  live_more (suc k) b s l =
      more_in (slice_get blocks b) (λ c. Live blocks k c s) (λ c. Live blocks (suc k) c s) s (λ c. live_more k c s) l

  pub safe_less : (k b : ℕ) (V : Slots) → Safe (suc k) b V → Safe k b V
  safe_less k b V h s l = h s (live_more k b s l)

  pub safe_wider : (k b : ℕ) (V W : Slots) → Within V W → Safe k b V → Safe k b W
  safe_wider k b V W sub h s l = sub s (h s l)

  -- ---- one block

  opened : (k b s : ℕ) (x : Block) → slice_get blocks b ≡ Some x → Live blocks (suc k) b s → LiveIn (Some x) (λ c. Live blocks k c s) s
  opened k b s x e l = subst (λ o. LiveIn o (λ c. Live blocks k c s) s) e l

  -- the step to the blocks behind takes one from the length of the way
  pub step_jump : (k b c : ℕ) (head : Bool) (V : Slots) → slice_get blocks b ≡ Some (jumps head c) → Safe k c V → Safe (suc k) b V
  step_jump k b c head V e h s l = h s (opened k b s (jumps head c) e l)

  pub step_branch : (k b y n : ℕ) (head : Bool) (t : Term) (V : Slots) → slice_get blocks b ≡ Some (branches head t y n) → Reads V t
      → Safe k y V → Safe k n V → Safe (suc k) b V
  step_branch k b y n head t V e r hy hn s l =
      elim (opened k b s (branches head t y n) e l) [ inl i ↦ r s i | inr (inl m) ↦ hy s m | inr (inr m) ↦ hn s m ]

  step_set : (k b c slot : ℕ) (t : Term) (V : Slots) → slice_get blocks b ≡ Some (sets slot t c) → Reads V t → Safe k c (with_slot V slot)
      → Safe (suc k) b V
  step_set k b c slot t V e r h s l =
      elim (opened k b s (sets slot t c) e l) [ inl i ↦ r s i | inr m ↦ elim (h s m.1) [ inl v ↦ v | inr q ↦ absurd (m.0 q) ] ]

  pub safe_jump : (k b c : ℕ) (head : Bool) (V : Slots) → slice_get blocks b ≡ Some (jumps head c) → Safe k c V → Safe k b V
  safe_jump zero b c head V e h = λ s l. absurd l
  safe_jump (suc k) b c head V e h = step_jump k b c head V e (safe_less k c V h)

  pub safe_branch : (k b y n : ℕ) (head : Bool) (t : Term) (V : Slots) → slice_get blocks b ≡ Some (branches head t y n) → Reads V t
      → Safe k y V → Safe k n V → Safe k b V
  safe_branch zero b y n head t V e r hy hn = λ s l. absurd l
  safe_branch (suc k) b y n head t V e r hy hn = step_branch k b y n head t V e r (safe_less k y V hy) (safe_less k n V hn)

  -- a slot is not live where it is set
  pub safe_set : (k b c slot : ℕ) (t : Term) (V : Slots) → slice_get blocks b ≡ Some (sets slot t c) → Reads V t
      → Safe k c (with_slot V slot) → Safe k b V
  safe_set zero b c slot t V e r h = λ s l. absurd l
  safe_set (suc k) b c slot t V e r h = step_set k b c slot t V e r (safe_less k c (with_slot V slot) h)

  pub safe_return : (k b : ℕ) (t : Term) (V : Slots) → slice_get blocks b ≡ Some (returns t) → Reads V t → Safe k b V
  safe_return zero b t V e r = λ s l. absurd l
  safe_return (suc k) b t V e r = λ s l. r s (opened k b s (returns t) e l)

  pub safe_fail : (k b : ℕ) (c : Class) (V : Slots) → slice_get blocks b ≡ Some (fails c) → Safe k b V
  safe_fail zero b c V e = λ s l. absurd l
  safe_fail (suc k) b c V e = λ s l. absurd (opened k b s (fails c) e l)

  -- ---- what stands around

  module _ (finish : ℕ) where
    abbrev pub SafeAround : ℕ → Around → Slots → Type 0
    SafeAround k around V = (l : Label) → Safe k (exit_to finish around l) V × Safe k (again_to finish around l) V

    pub around_less : (k : ℕ) (around : Around) (V : Slots) → SafeAround (suc k) around V → SafeAround k around V
    around_less k around V h l =
        (safe_less k (exit_to finish around l) V (h l).0, safe_less k (again_to finish around l) V (h l).1)

    pub around_wider : (k : ℕ) (around : Around) (V W : Slots) → Within V W → SafeAround k around V → SafeAround k around W
    around_wider k around V W sub h l =
        (safe_wider k (exit_to finish around l) V W sub (h l).0, safe_wider k (again_to finish around l) V W sub (h l).1)

    pub in_loop : (k : ℕ) (around : Around) (V : Slots) (own : Label) (x a : ℕ) → Safe k x V → Safe k a V → SafeAround k around V
        → SafeAround k (record { label = own; exit = x; again = Some a } ∷ around) V
    in_loop k around V own x a hx ha h l = go (names_loop l own)
      where
        go : (b : Bool) → Safe k (if b then x else exit_to finish around l) V × Safe k (if b then a else again_to finish around l) V
        go true = (hx, ha)
        go false = h l

    pub in_block : (k : ℕ) (around : Around) (V : Slots) (own : Label) (x : ℕ) → Safe k x V → SafeAround k around V
        → SafeAround k (record { label = own; exit = x; again = None } ∷ around) V
    in_block k around V own x hx h l = (go (names_block l own), (h l).1)
      where
        go : (b : Bool) → Safe k (if b then x else exit_to finish around l) V
        go true = hx
        go false = (h l).0
