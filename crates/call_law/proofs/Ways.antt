-- Where a block that is no label has at most one call, the body of each label is a finite tree.
use Rattle.std.proofs.Common.{◌≡◌, ℕ, zero, suc, ◌+◌, ◌<◌, ◌≤◌, Bool, true, false, nat_eq, List, [], ◌∷◌, length, Option, Some, None, refl, ap, sym, subst, arith}
use Rattle.std.specs.Prelude.{slice_get}
use Rattle.std.proofs.lemmas.Bool.{eq-eqb, eqb-true}
use Rattle.block_forms.specs.declared.forms.Goto.{Goto}
use Rattle.block_forms.specs.Forms.{Assignment}
use Rattle.block_forms.specs.Lowered.{one_of}
use Rattle.call_forms.specs.declared.forms.Call.{Call}
use Rattle.call_forms.specs.declared.forms.CallEnd.{CallEnd}
use Rattle.call_forms.specs.declared.forms.CallEnd.TheVariants.{Go, Pick, Return, Fail}
use Rattle.call_forms.specs.declared.forms.AnfBlock.{AnfBlock}
use Rattle.call_forms.specs.declared.forms.Anf.{Anf}
use Rattle.call_forms.specs.declared.forms.Tail.{Tail}
use Rattle.call_forms.specs.Bodies.{Body, Ends, goes_to, goes, end_body, sets_first, block_body, tree, body_of}
use Rattle.call_forms.specs.Forms.{label_of}
use Rattle.call_forms.specs.Merged.{end_calls, calls_to, AtCalls, Merged}
use Rattle.call_law.proofs.Labels.{element_there, placed}
use Rattle.call_law.proofs.Numbers.{Differ, Misses, Below, at_most}

-- ---- callers

-- how many calls of a block go to b
abbrev calls_of : Option AnfBlock → ℕ → ℕ
calls_of None b = 0
calls_of (Some x) b = end_calls b x.end

some_call : (xs : List AnfBlock) (b i : ℕ) → calls_of (slice_get xs i) b ≤ calls_to b xs
some_call [] b i = omega arith
some_call (x ∷ xs) b zero = first (end_calls b x.end) (calls_to b xs)
  where
    first : (m n : ℕ) → m ≤ m + n
    first m n = omega arith
some_call (x ∷ xs) b (suc i) = later (calls_of (slice_get xs i) b) (end_calls b x.end) (calls_to b xs) (some_call xs b i)
  where
    later : (c m n : ℕ) → c ≤ n → c ≤ m + n
    later c m n q = omega (arith, q)

two_calls : (m n c : ℕ) → 0 < m → 0 < c → c ≤ n → m + n ≤ 1 → ⊥
two_calls m n c a b d e = omega (arith, a, b, d, e)

one_caller : (xs : List AnfBlock) (b i j : ℕ) → 0 < calls_of (slice_get xs i) b → 0 < calls_of (slice_get xs j) b → calls_to b xs ≤ 1 → i ≡ j
one_caller [] b i j h k few = absurd (omega (arith, h))
one_caller (x ∷ xs) b zero zero h k few = refl
one_caller (x ∷ xs) b zero (suc j) h k few =
    absurd (two_calls (end_calls b x.end) (calls_to b xs) (calls_of (slice_get xs j) b) h k (some_call xs b j) few)
one_caller (x ∷ xs) b (suc i) zero h k few =
    absurd (two_calls (end_calls b x.end) (calls_to b xs) (calls_of (slice_get xs i) b) k h (some_call xs b i) few)
one_caller (x ∷ xs) b (suc i) (suc j) h k few = ap suc (one_caller xs b i j h k (fewer (end_calls b x.end) (calls_to b xs) few))
  where
    fewer : (m n : ℕ) → m + n ≤ 1 → n ≤ 1
    fewer m n p = omega (arith, p)

-- a call to a number is there for that number
is_called : (b : ℕ) → 0 < one_of (nat_eq b b)
is_called b = subst (λ t. 0 < one_of t) (sym (eq-eqb b b refl)) (let lt : 0 < 1 = omega arith in lt)

called_is : (P : ℕ → Type 0) (c b : ℕ) → P c → 0 < one_of (nat_eq c b) → P b
called_is P c b here there = by (nat_eq c b) refl there
  where
    by : (t : Bool) → nat_eq c b ≡ t → 0 < one_of t → P b
    by true h there = subst P (eqb-true c b h) here
    by false h there = absurd (omega (arith, there))

-- what holds of each block that an end calls holds of one to which a call goes
target_is : (P : ℕ → Type 0) (b : ℕ) (e : CallEnd) → AtCalls P e → 0 < end_calls b e → P b
target_is P b (Go c) all there = called_is P c.target b all there
target_is P b (Pick t x y) all there = by (nat_eq x.target b) refl there
  where
    by : (q : Bool) → nat_eq x.target b ≡ q → 0 < one_of q + one_of (nat_eq y.target b) → P b
    by true h there = subst P (eqb-true x.target b h) all.0
    by false h there = called_is P y.target b all.1 (second (one_of (nat_eq y.target b)) there)
      where
        second : (n : ℕ) → 0 < 0 + n → 0 < n
        second n lt = omega (arith, lt)
target_is P b (Return t) all there = absurd (omega (arith, there))
target_is P b (Fail c) all there = absurd (omega (arith, there))

module _ (g : Goto) (a : Anf) (r : Tail) (m : Merged g a r) where
  abbrev IsOther : ℕ → Type 0
  IsOther b = label_of r b ≡ None

  -- blocks that were gone through, the last one first: each was called by the one before, and the first is a label
  abbrev IsWay : List ℕ → Type 0
  IsWay [] = ⊥
  IsWay (b ∷ []) = IsOther b → ⊥
  IsWay (b ∷ c ∷ before) = (0 < calls_of (slice_get a.blocks c) b) × IsWay (c ∷ before)

  called_there : (b i : ℕ) → 0 < calls_of (slice_get a.blocks i) b → b < length a.blocks
  called_there b i lt = by (slice_get a.blocks i) refl lt
    where
      by : (o : Option AnfBlock) → slice_get a.blocks i ≡ o → 0 < calls_of o b → b < length a.blocks
      by None e lt = absurd (omega (arith, lt))
      by (Some x) e lt = target_is (λ b. b < length a.blocks) b x.end (m.calls i x e) lt

  fresh : (b next : ℕ) → 0 < calls_of (slice_get a.blocks b) next → IsOther next → (x : ℕ) (xs : List ℕ) → IsWay (x ∷ xs) → Misses b xs
      → Misses next (x ∷ xs)
  fresh b next c o x [] way misses = (λ p. way (subst IsOther p o), tt)
  fresh b next c o x (y ∷ ys) way misses = (
    λ p.
        misses.0 (one_caller a.blocks next b y c (subst (λ x. 0 < calls_of (slice_get a.blocks y) x) (sym p) way.0)
        (m.others next (called_there next b c) o).one_call),
    fresh b next c o y ys way.1 misses.1,
  )

  -- ---- a block, where the trees of its calls are finite

  abbrev EachEnds : (ℕ → Body) → CallEnd → Type 0
  EachEnds trees e = (b : ℕ) → 0 < end_calls b e → IsOther b → Ends (trees b)

  call_ends : (trees : ℕ → Body) (c : Call) → (IsOther c.target → Ends (trees c.target)) → Ends (goes a r trees c)
  call_ends trees c h = by (label_of r c.target) refl
    where
      by : (o : Option ℕ) → label_of r c.target ≡ o → Ends (goes_to a r trees c o)
      by None missed = h missed
      by (Some i) found = tt

  end_ends : (trees : ℕ → Body) (e : CallEnd) → EachEnds trees e → Ends (end_body a r trees e)
  end_ends trees (Go c) h = call_ends trees c (h c.target (is_called c.target))
  end_ends trees (Pick t x y) h = (
    call_ends trees x (h x.target (first (one_of (nat_eq x.target x.target)) (one_of (nat_eq y.target x.target)) (is_called x.target))),
    call_ends trees y (h y.target (second (one_of (nat_eq x.target y.target)) (one_of (nat_eq y.target y.target)) (is_called y.target))),
  )
    where
      first : (m n : ℕ) → 0 < m → 0 < m + n
      first m n lt = omega (arith, lt)

      second : (m n : ℕ) → 0 < n → 0 < m + n
      second m n lt = omega (arith, lt)
  end_ends trees (Return t) h = tt
  end_ends trees (Fail c) h = tt

  set_ends : (p : Assignment) (x : Body) → Ends x → Ends (sets_first a r p x)
  set_ends None x h = h
  set_ends (Some p) x h = h

  -- d blocks more are enough, where the way so far and they are as many as there are
  tree_ends : (d b : ℕ) (before : List ℕ) → IsWay (b ∷ before) → Differ (b ∷ before) → Below (length a.blocks) (b ∷ before)
      → length a.blocks ≤ d + length before → Ends (tree a r d b)
  tree_ends zero b before way differ below long =
      let short = at_most (length a.blocks) (b ∷ before) differ below in absurd (too_long (length before) (length a.blocks) short long)
    where
      too_long : (l n : ℕ) → suc l ≤ n → n ≤ 0 + l → ⊥
      too_long l n p q = omega (arith, p, q)
  tree_ends (suc d) b before way differ below long =
      let there = element_there a.blocks b below.0 in
      subst (λ o. Ends (block_body a r (tree a r d) o)) (sym there.1)
      (set_ends there.0.set (end_body a r (tree a r d) there.0.end) (end_ends (tree a r d) there.0.end (λ next called other.
      let calls_next : 0 < calls_of (slice_get a.blocks b) next = subst (λ o. 0 < calls_of o next) (sym there.1) called in
      tree_ends d next (b ∷ before) (calls_next, way) (fresh b next calls_next other b before way differ.0, differ)
      (called_there next b calls_next, below) (further d (length before) (length a.blocks) long))))
    where
      further : (d l n : ℕ) → n ≤ suc d + l → n ≤ d + suc l
      further d l n p = omega (arith, p)

  pub label_ends : (i b : ℕ) → slice_get r.labels i ≡ Some b → Ends (body_of a r b)
  label_ends i b e =
      tree_ends (length a.blocks) b [] (placed 0 r.labels b i e) (tt, tt) (m.labels_are_blocks i b e, tt)
      (let enough : length a.blocks ≤ length a.blocks + 0 = omega arith in enough)
