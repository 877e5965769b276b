-- Marks that spread along the ends of blocks: what is marked is reached, and where none is left, what is reached is marked.
use Rattle.std.proofs.Common.{◌≡◌, ◌⊎◌, refl, sym, ap, ◌∙◌, subst, ℕ, zero, suc, ◌+◌, ◌<◌, Bool, true, false, get_or, set, List, [], ◌∷◌, ◌++◌, length, Some, None, arith, inl, inr, get_or-set_same, get_or-set_other, if◌then◌else◌}
use Rattle.std.specs.Prelude.{slice_get}
use Rattle.std.proofs.Math.Nat.{eq-or-lt_of_le}
use Rattle.std.proofs.lemmas.Bool.{false≢true}
use Rattle.std.proofs.lemmas.Bool.Decides.{eqb_tells}
use Rattle.std.proofs.lemmas.Option.{slice_get-get_or}
use Rattle.std.proofs.lemmas.List.{length-append, length-set}
use Rattle.block_forms.specs.declared.forms.Block.{Block}
use Rattle.block_forms.specs.declared.forms.End.{End}
use Rattle.block_forms.specs.declared.forms.End.TheVariants.{Jump, Branch, Return, Fail}
use Rattle.inline_law.specs.Fails.{Leads}
use Rattle.inline_calls.specs.Marks.{Follows, AreUnmarked, IsClosed, IsNext, IsSpread, MarkedLeads, is_new, led, marked, new_target, or_new, was}

compared : (a b : ℕ) → (a ≡ b) ⊎ (a ≡ b → ⊥)
compared a b = elim (eqb_tells a b) [ inl h ↦ inl h.1 | inr h ↦ inr h.1 ]

-- ---- how many aren't marked

abbrev pub one_unless : Bool → ℕ
one_unless true = 0
one_unless false = 1

abbrev pub unmarked : List Bool → ℕ
unmarked [] = 0
unmarked (m ∷ ms) = one_unless m + unmarked ms

unmarked_set : (ms : List Bool) (g : ℕ) → g < length ms → marked ms g ≡ false → suc (unmarked (set ms g true)) ≡ unmarked ms
unmarked_set [] g lt e = absurd (let no : ⊥ = omega (arith, lt) in no)
unmarked_set (m ∷ ms) zero lt e = (let q : suc (0 + unmarked ms) ≡ 1 + unmarked ms = omega arith in q) ∙ ap (λ v. one_unless v + unmarked ms) (sym e)
unmarked_set (m ∷ ms) (suc g) lt e =
    let rest : suc (unmarked (set ms g true)) ≡ unmarked ms = unmarked_set ms g (omega (arith, lt)) e in
    omega (arith, rest)

-- ---- none is marked

false_behind : (ms : List Bool) (b : ℕ) → get_or ms b false ≡ false → marked (ms ++ false ∷ []) b ≡ false
false_behind [] zero e = refl
false_behind [] (suc b) e = refl
false_behind (m ∷ ms) zero e = e
false_behind (m ∷ ms) (suc b) e = false_behind ms b e

pub none_yet : (ms : List Bool) → ms ≡ [] → AreUnmarked 0 ms
none_yet ms is = subst (AreUnmarked 0) (sym is) (record { as_many = refl; none = λ b. refl })

pub one_behind : (n : ℕ) (ms new : List Bool) → AreUnmarked n ms → new ≡ ms ++ false ∷ [] → AreUnmarked (n + 1) new
one_behind n ms new un is = subst (AreUnmarked (n + 1)) (sym is) (record {
  as_many = length-append ms (false ∷ []) ∙ ap (λ l. l + 1) un.as_many;
  none = λ b. false_behind ms b (un.none b);
})

-- ---- new blocks

pub record New (marks : List Bool) (b : ℕ) : Type 0 where
  pub inside : b < length marks
  pub new : marked marks b ≡ false

new_parts : (marks : List Bool) (b : ℕ) → is_new marks b ≡ true → New marks b
new_parts [] b e = absurd (false≢true e)
new_parts (true ∷ ms) zero e = absurd (false≢true e)
new_parts (false ∷ ms) zero e = record { inside = omega arith; new = refl }
new_parts (m ∷ ms) (suc b) e =
    let n = new_parts ms b e in
    record { inside = let lt = n.inside in omega (arith, lt); new = n.new }

not_new : (marks : List Bool) (b : ℕ) → is_new marks b ≡ false → b < length marks → marked marks b ≡ true
not_new [] b e lt = absurd (let no : ⊥ = omega (arith, lt) in no)
not_new (true ∷ ms) zero e lt = refl
not_new (false ∷ ms) zero e lt = absurd (false≢true (sym e))
not_new (m ∷ ms) (suc b) e lt = not_new ms b e (omega (arith, lt))

-- a target that isn't marked
pub record NewTarget (marks : List Bool) (end : End) (c : ℕ) : Type 0 where
  pub leads : Leads end c
  pub target : New marks c

some_is : {A : Type 0} {x y : A} → Some x ≡ Some y → x ≡ y
some_is e = cc

no_some : {x : ℕ} → None ≡ Some x → ⊥
no_some e = cc

module _ (marks : List Bool) where
  jump_target : (c d : ℕ) → or_new marks c None ≡ Some d → (d ≡ c) × New marks d
  jump_target c d e = by (is_new marks c) refl e
    where
      by : (b : Bool) → is_new marks c ≡ b → (if b then Some c else None) ≡ Some d → (d ≡ c) × New marks d
      by true is q = (sym (some_is q), subst (New marks) (some_is q) (new_parts marks c is))
      by false is q = absurd (no_some q)

  pub told_target : (end : End) (d : ℕ) → new_target marks end ≡ Some d → NewTarget marks end d
  told_target (Jump c) d e = let j = jump_target c d e in record { leads = j.0; target = j.1 }
  told_target (Branch t a b) d e = by (is_new marks a) refl e
    where
      by : (x : Bool) → is_new marks a ≡ x → (if x then Some a else or_new marks b None) ≡ Some d → NewTarget marks (Branch t a b) d
      by true is q = record { leads = inl (sym (some_is q)); target = subst (New marks) (some_is q) (new_parts marks a is) }
      by false is q = let j = jump_target b d q in record { leads = inr j.0; target = j.1 }
  told_target (Return t) d e = absurd (no_some e)
  told_target (Fail c) d e = absurd (no_some e)

  jump_none : (c : ℕ) → or_new marks c None ≡ None → is_new marks c ≡ false
  jump_none c e = by (is_new marks c) refl e
    where
      by : (b : Bool) → is_new marks c ≡ b → (if b then Some c else None) ≡ None → is_new marks c ≡ false
      by true is q = absurd (no_some (sym q))
      by false is q = is

  pub no_target : (end : End) → new_target marks end ≡ None → (d : ℕ) → Leads end d → d < length marks → marked marks d ≡ true
  no_target (Jump c) e d l lt = not_new marks d (ap (is_new marks) l ∙ jump_none c e) lt
  no_target (Branch t a b) e d l lt = by (is_new marks a) refl e
    where
      by : (x : Bool) → is_new marks a ≡ x → (if x then Some a else or_new marks b None) ≡ None → marked marks d ≡ true
      by true is q = absurd (no_some (sym q))
      by false is q = elim l [
        | inl at ↦ not_new marks d (ap (is_new marks) at ∙ is) lt
        | inr at ↦ not_new marks d (ap (is_new marks) at ∙ jump_none b q) lt
      ]
  no_target (Return t) e d l lt = absurd l
  no_target (Fail c) e d l lt = absurd l

-- ---- marks that spread

module _ (blocks : List Block) where
  -- each block below n to which ends lead from marked ones is marked
  abbrev pub ClosedBelow : List Bool → ℕ → Type 0
  ClosedBelow marks n = (c : ℕ) (m : MarkedLeads blocks marks c) → m.number < n → c < length marks → marked marks c ≡ true

  pub closed_more : (marks : List Bool) (b : ℕ) → ClosedBelow marks b
      → (marked marks b ≡ true → (x : Block) → slice_get blocks b ≡ Some x → new_target marks x.end ≡ None) → ClosedBelow marks (b + 1)
  closed_more marks b closed here c m lt inside = elim (eq-or-lt_of_le {n = m.number} {m = b} (omega (arith, lt))) [
    | inl q ↦ no_target marks m.block.end (here (subst (λ v. marked marks v ≡ true) q m.is_marked) m.block (subst (λ v. slice_get blocks v ≡ Some m.block) q m.is)) c m.leads inside
    | inr less ↦ closed c m less inside
  ]

  pub none_at : (marks : List Bool) (b : ℕ) (y : Block) → b < length blocks → new_target marks (get_or blocks b y).end ≡ None
      → (x : Block) → slice_get blocks b ≡ Some x → new_target marks x.end ≡ None
  none_at marks b y lt e x is = ap (λ z. new_target marks z.end) (some_is (sym is ∙ slice_get-get_or blocks b y lt)) ∙ e

  pub next_of : (marks : List Bool) (b c : ℕ) (x : Block) → slice_get blocks b ≡ Some x → marked marks b ≡ true → new_target marks x.end ≡ Some c → IsNext blocks marks c
  next_of marks b c x is m e =
      let t = told_target marks x.end c e in
      record {
        leads = record { number = b; block = x; is_marked = m; is = is; leads = t.leads };
        inside = t.target.inside;
        new = t.target.new;
      }

  pub record Spreading (old new : List Bool) : Type 0 where
    pub as_many : length new ≡ length old
    pub kept : (b : ℕ) → marked old b ≡ true → marked new b ≡ true
    pub only : (b : ℕ) → marked new b ≡ true → Follows blocks old b

  pub spread_begins : (old : List Bool) → Spreading old old
  spread_begins old = record { as_many = refl; kept = λ b m. m; only = λ b m. was m }

  pub spread_ends : (old new : List Bool) → Spreading old new → IsClosed blocks new → IsSpread blocks old new
  spread_ends old new so closed = record { as_many = so.as_many; kept = so.kept; only = so.only; closed = closed }

  module _ (old now : List Bool) (so : Spreading old now) (g : ℕ) (next : IsNext blocks now g) where
    marked_here : marked (set now g true) g ≡ true
    marked_here = get_or-set_same now g true false next.inside

    follows : Follows blocks old g
    follows = led next.leads.block (so.only next.leads.number next.leads.is_marked) next.leads.is next.leads.leads

    one_more : Spreading old (set now g true)
    one_more = record {
      as_many = length-set now g true ∙ so.as_many;
      kept = λ h m. elim (compared h g) [
        | inl q ↦ subst (λ v. marked (set now g true) v ≡ true) (sym q) marked_here
        | inr other ↦ get_or-set_other now g h true false other ∙ so.kept h m
      ];
      only = λ h m. elim (compared h g) [
        | inl q ↦ subst (Follows blocks old) (sym q) follows
        | inr other ↦ so.only h (sym (get_or-set_other now g h true false other) ∙ m)
      ];
    }

    pub spread_more : (new : List Bool) → new ≡ set now g true → Spreading old new
    spread_more new is = subst (Spreading old) (sym is) one_more

    pub fewer : (new : List Bool) → new ≡ set now g true → unmarked new < unmarked now
    fewer new is =
        let q = unmarked_set now g next.inside next.new in
        subst (λ ms. unmarked ms < unmarked now) (sym is) (omega (arith, q))
