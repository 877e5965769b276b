-- Where each block of a normal form raises classes, so does each body.
use Rattle.std.proofs.Common.{◌≡◌, ℕ, zero, suc, true, length, Option, Some, None, refl}
use Rattle.std.specs.Prelude.{slice_get}
use Rattle.away_values.specs.Classes.{is_class}
use Rattle.block_forms.specs.Forms.{Assignment}
use Rattle.block_forms.specs.Places.{Each}
use Rattle.call_forms.specs.declared.forms.Call.{Call}
use Rattle.call_forms.specs.declared.forms.CallEnd.{CallEnd}
use Rattle.call_forms.specs.declared.forms.CallEnd.TheVariants.{Go, Pick, Return, Fail}
use Rattle.call_forms.specs.declared.forms.AnfBlock.{AnfBlock}
use Rattle.call_forms.specs.declared.forms.Anf.{Anf}
use Rattle.call_forms.specs.declared.forms.Tail.{Tail}
use Rattle.call_forms.specs.Bodies.{Body, goes_to, end_body, sets_first, block_body, tree, body_of}
use Rattle.call_forms.specs.Forms.{label_of}
use Rattle.cte_law.proofs.Visits.{BodyRaisesClasses}

-- what an end raises is a class
abbrev pub RaisesClass : CallEnd → Type 0
RaisesClass (Go c) = Unit {0}
RaisesClass (Pick t x y) = Unit {0}
RaisesClass (Return t) = Unit {0}
RaisesClass (Fail c) = is_class c.code ≡ true

abbrev pub RaisesClasses : Anf → Type 0
RaisesClasses a = Each (λ (x : AnfBlock). RaisesClass x.end) a.blocks

module _ (a : Anf) (r : Tail) (classes : RaisesClasses a) where
  abbrev AllRaise : (ℕ → Body) → Type 0
  AllRaise next = (b : ℕ) → BodyRaisesClasses (next b)

  call_raises : (next : ℕ → Body) → AllRaise next → (c : Call) (o : Option ℕ) → BodyRaisesClasses (goes_to a r next c o)
  call_raises next all c None = all c.target
  call_raises next all c (Some label) = tt

  end_raises : (next : ℕ → Body) → AllRaise next → (e : CallEnd) → RaisesClass e → BodyRaisesClasses (end_body a r next e)
  end_raises next all (Go c) h = call_raises next all c (label_of r c.target)
  end_raises next all (Pick t x y) h = (call_raises next all x (label_of r x.target), call_raises next all y (label_of r y.target))
  end_raises next all (Return t) h = tt
  end_raises next all (Fail c) h = h

  first_raises : (s : Assignment) (x : Body) → BodyRaisesClasses x → BodyRaisesClasses (sets_first a r s x)
  first_raises None x h = h
  first_raises (Some p) x h = h

  block_raises : (next : ℕ → Body) → AllRaise next → (b : ℕ) (o : Option AnfBlock) → slice_get a.blocks b ≡ o → BodyRaisesClasses (block_body a r next o)
  block_raises next all b None e = tt
  block_raises next all b (Some x) e = first_raises x.set (end_body a r next x.end) (end_raises next all x.end (classes b x e))

  tree_raises : (n : ℕ) → AllRaise (tree a r n)
  tree_raises zero b = tt
  tree_raises (suc n) b = block_raises (tree a r n) (tree_raises n) b (slice_get a.blocks b) refl

  pub bodies_raise_classes : (b : ℕ) → BodyRaisesClasses (body_of a r b)
  bodies_raise_classes b = tree_raises (length a.blocks) b
