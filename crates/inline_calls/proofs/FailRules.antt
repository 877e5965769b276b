-- What marks that spread from the entry tell of faults.
use Rattle.std.proofs.Common.{◌≡◌, sym, ◌∙◌, subst, ℕ, zero, suc, ◌<◌, Bool, true, false, set, List, [], ◌∷◌, length, Some, arith, inl, inr, get_or-set_same, get_or-set_other}
use Rattle.std.specs.Prelude.{slice_get}
use Rattle.std.proofs.lemmas.Bool.{false≢true}
use Rattle.std.proofs.lemmas.Bool.Decides.{eqb_tells}
use Rattle.std.proofs.lemmas.List.{length-set}
use Rattle.block_forms.specs.declared.forms.Block.{Block}
use Rattle.block_forms.specs.declared.forms.Goto.{Goto}
use Rattle.inline_law.specs.Fails.{Reached, at_entry, by_end}
use Rattle.inline_calls.specs.Marks.{AreReached, AreUnmarked, Follows, IsSpread, MarkedFails, led, marked, was}

pub got_inside : {A : Type 0} (xs : List A) (n : ℕ) (x : A) → slice_get xs n ≡ Some x → n < length xs
got_inside [] n x e = absurd (cc)
got_inside (y ∷ ys) zero x e = omega arith
got_inside (y ∷ ys) (suc n) x e = let lt = got_inside ys n x e in omega (arith, lt)

-- The entry alone is marked, where it is a block of the form.
pub record AtEntry (blocks : List Block) (entry : ℕ) (marks : List Bool) : Type 0 where
  pub as_many : length marks ≡ length blocks
  pub only : (b : ℕ) → marked marks b ≡ true → b ≡ entry
  pub there : entry < length blocks → marked marks entry ≡ true

pub entry_marked : (blocks : List Block) (entry : ℕ) (none marks : List Bool) → AreUnmarked (length blocks) none → entry < length none → marks ≡ set none entry true → AtEntry blocks entry marks
entry_marked blocks entry none marks un lt is = subst (AtEntry blocks entry) (sym is) (record {
  as_many = length-set none entry true ∙ un.as_many;
  only = λ b m. elim (eqb_tells b entry) [
    | inl h ↦ h.1
    | inr other ↦ absurd (false≢true (sym (un.none b) ∙ (sym (get_or-set_other none entry b true false other.1) ∙ m)))
  ];
  there = λ inside. get_or-set_same none entry true false lt;
})

pub entry_outside : (blocks : List Block) (entry : ℕ) (none : List Bool) → AreUnmarked (length blocks) none → (entry < length none → ⊥) → AtEntry blocks entry none
entry_outside blocks entry none un out = record {
  as_many = un.as_many;
  only = λ b m. absurd (false≢true (sym (un.none b) ∙ m));
  there = λ inside. absurd (out (let e = un.as_many in omega (arith, e, inside)));
}

module _ (goto : Goto) (start new : List Bool) (at : AtEntry goto.blocks goto.entry start) (spread : IsSpread goto.blocks start new) where
  reached_by : (b : ℕ) → Follows goto.blocks start b → Reached goto.blocks goto.entry b
  reached_by b (was m) = subst (Reached goto.blocks goto.entry) (sym (at.only b m)) at_entry
  reached_by b (led x f is leads) = by_end x (reached_by _ f) is leads

  within : (b : ℕ) → b < length goto.blocks → b < length new
  within b lt = let e = at.as_many in let q = spread.as_many in omega (arith, e, q, lt)

  marked_by : (b : ℕ) → Reached goto.blocks goto.entry b → b < length goto.blocks → marked new b ≡ true
  marked_by b at_entry lt = spread.kept b (at.there lt)
  marked_by b (by_end {b = a} x r is leads) lt =
      spread.closed b (record { number = a; block = x; is_marked = marked_by a r (got_inside goto.blocks a x is); is = is; leads = leads }) (within b lt)

  pub are_reached : AreReached goto new
  are_reached = record { as_many = spread.as_many ∙ at.as_many; only = λ b m. reached_by b (spread.only b m); all = marked_by }

-- no marked block below n fails
abbrev pub NoneFailsBelow : List Block → List Bool → ℕ → Type 0
NoneFailsBelow blocks marks n = (m : MarkedFails blocks marks) → m.number < n → ⊥
