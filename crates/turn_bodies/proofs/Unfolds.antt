-- What passes is a tail form for a query of turns.
use Rattle.std.proofs.Common.{◌≡◌, ℕ, zero, suc, ◌-◌, ◌<◌, Bool, true, false, ◌&&◌, List, [], ◌∷◌, ◌++◌, length, take, Some, refl, sym, ap, ◌∙◌, subst, arith}
use Rattle.std.specs.Prelude.{slice_get}
use Rattle.std.proofs.lemmas.Bool.{ltb-true}
use Rattle.std.proofs.lemmas.List.{length-append}
use Rattle.std.proofs.Math.Seq.{take-append_seam}
use Rattle.away_types.specs.declared.slots.Slot.{Slot}
use Rattle.block_forms.specs.declared.forms.Goto.{Goto}
use Rattle.block_forms.specs.declared.forms.Ssa.{Ssa}
use Rattle.block_forms.specs.Places.{Each}
use Rattle.call_forms.specs.Bodies.{Body, sets, enters, picks, returns, fails, calls, endless, Ends, body_of}
use Rattle.call_forms.specs.Called.{Among}
use Rattle.call_forms.specs.Columned.{Columned}
use Rattle.call_forms.specs.declared.forms.Anf.{Anf}
use Rattle.turn_template.specs.Unfolded.{Unfolded, CallsAmong}
use Rattle.turn_bodies.specs.declared.unfolding.Unfolded.{Unfolded as Made}
use Rattle.turn_bodies.specs.Testing.{closed, EndsIn, Passes}
use Rattle.turn_bodies.specs.Unfolding.{IsUnfolded}

both : (x y : Bool) → (x && y) ≡ true → (x ≡ true) × (y ≡ true)
both true y e = (refl, e)
both false y e = absurd (cc)

closed_ends : (bound : ℕ) (x : Body) → closed bound x ≡ true → Ends x
closed_ends bound (sets n t x) e = closed_ends bound x e
closed_ends bound (enters params args x) e = closed_ends bound x e
closed_ends bound (picks t x y) e = let b = both (closed bound x) (closed bound y) e in (closed_ends bound x b.0, closed_ends bound y b.1)
closed_ends bound (returns t) e = tt
closed_ends bound (fails c) e = tt
closed_ends bound (calls label places args) e = tt
closed_ends bound endless e = absurd (cc)

in_front : (xs ys : List ℕ) (i : ℕ) → i < length xs → slice_get xs i ≡ slice_get (xs ++ ys) i
in_front [] ys i lt = absurd (let no : ⊥ = omega (arith, lt) in no)
in_front (x ∷ xs) ys zero lt = refl
in_front (x ∷ xs) ys (suc i) lt = in_front xs ys i (omega (arith, lt))

behind : (xs : List ℕ) (y : ℕ) → slice_get (xs ++ y ∷ []) (length xs) ≡ Some y
behind [] y = refl
behind (x ∷ xs) y = behind xs y

closed_among : (first rest : List ℕ) (x : Body) → closed (length first) x ≡ true → CallsAmong first (first ++ rest) x
closed_among first rest (sets n t x) e = closed_among first rest x e
closed_among first rest (enters params args x) e = closed_among first rest x e
closed_among first rest (picks t x y) e =
    let b = both (closed (length first) x) (closed (length first) y) e in (closed_among first rest x b.0, closed_among first rest y b.1)
closed_among first rest (returns t) e = tt
closed_among first rest (fails c) e = tt
closed_among first rest (calls label places args) e =
    let less = ltb-true label (length first) e in (less, in_front first rest label less)
closed_among first rest endless e = tt

one_more : (xs : List ℕ) (y n : ℕ) → n ≡ length (xs ++ y ∷ []) - 1 → length xs ≡ n
one_more xs y n e = let whole = length-append xs (y ∷ []) in omega (arith, whole, e)

module _ (slots : List Slot) (g : Goto) (z : Ssa) (a : Anf) (x : Made) (chosen : List ℕ) (ends : EndsIn g.entry chosen)
    (same : x.tail.labels ≡ chosen) (as_many : x.heads ≡ length chosen - 1)
    (blocks : Each (λ b. b < length a.blocks) chosen)
    (pass : Passes g a x.tail x.heads) (columned : Columned slots z a x.tail) where
  whole : x.tail.labels ≡ ends.before ++ g.entry ∷ []
  whole = same ∙ ends.whole

  count : length ends.before ≡ x.heads
  count = one_more ends.before g.entry x.heads (as_many ∙ ap (λ l. length l - 1) ends.whole)

  entry_there : Among x.tail.labels g.entry
  entry_there = record { place = length ends.before; there = ap (λ l. slice_get l (length ends.before)) whole ∙ behind ends.before g.entry }

  unfolded : Unfolded g a x.tail
  unfolded = record {
    labels_differ = pass.labels_differ;
    labels_are_blocks = subst (λ l. Each (λ b. b < length a.blocks) l) (sym same) blocks;
    entry = entry_there;
    heads = pass.heads.each;
    calls = pass.calls;
    finite = λ i b at. closed_ends x.heads (body_of a x.tail b) (pass.bodies i b at);
  }

  pub unfolds : IsUnfolded slots g z a x
  unfolds = record {
    called = ends.before;
    as_many = count;
    first_labels = sym (take-append_seam ends.before (g.entry ∷ [])) ∙ (ap (λ n. take n (ends.before ++ g.entry ∷ [])) count ∙ ap (take x.heads) (sym whole));
    labels = whole;
    unfolded = unfolded;
    columned = columned;
    inner = λ i b at.
        subst (λ l. CallsAmong ends.before l (body_of a x.tail b)) (sym whole)
        (closed_among ends.before (g.entry ∷ []) (body_of a x.tail b) (ap (λ n. closed n (body_of a x.tail b)) count ∙ pass.bodies i b at));
    entry_no_head = pass.entry_no_head;
  }
