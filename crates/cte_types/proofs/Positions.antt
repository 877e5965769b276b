-- What stands at the position of a statement: its expressions in the table, its variables among the slots, and the hidden slots of its FORs and targets.
use Rattle.std.proofs.Common.{◌≡◌, refl, subst, ℕ, ◌+◌, ◌≤◌, List, [], ◌∷◌, ◌++◌, length, length-append, Option, Some, None, arith}
use Rattle.away_values.specs.declared.types.Ty.{Ty}
use Rattle.away_trees.specs.declared.queries.Expr.{Expr}
use Rattle.away_trees.specs.declared.queries.Expr.TheViews.{out-Item, out-Select}
use Rattle.away_trees.specs.declared.queries.Item.{Item}
use Rattle.away_types.specs.declared.slots.Slot.{Slot}
use Rattle.elaboration.specs.Converting.{Around}
use Rattle.select_into.specs.Entries.{Target, type_of}
use Rattle.block_forms.specs.declared.places.Position.{Position}
use Rattle.block_forms.specs.Expressions.{Sources}
use Rattle.block_forms.specs.Intos.{Into}
use Rattle.block_forms.specs.Laid.{Setting, after}
use Rattle.type_soundness.specs.Sorts.{Every}
use Rattle.cte_types.specs.Linked.{IsLinked}
use Rattle.cte_types.proofs.IntoMarks.{IsMarked}
use Rattle.cte_types.proofs.Standing.{Row, row_left, row_right, row_same, Entry, SlotAt, type_at}

-- ---- how many there are

abbrev pub targets_in : List Into → ℕ
targets_in [] = 0
targets_in (i ∷ is) = length i.targets + targets_in is

targets_both : (is js : List Into) → targets_in (is ++ js) ≡ targets_in is + targets_in js
targets_both [] js = omega arith
targets_both (i ∷ is) js = omega (arith, targets_both is js)

pub record Counted (n : Position) (es : Sources) (ds : List Slot) (is : List Into) : Type 0 where
  pub exprs : n.expr ≡ length es
  pub slots : n.slot ≡ length ds
  pub targets : n.targets ≡ targets_in is

pub counted_both : (n m : Position) (es fs : Sources) (ds cs : List Slot) (is js : List Into) → Counted n es ds is → Counted m fs cs js
    → Counted (after n m) (es ++ fs) (ds ++ cs) (is ++ js)
counted_both n m es fs ds cs is js h k = record {
  exprs = omega (arith, h.exprs, k.exprs, length-append es fs);
  slots = omega (arith, h.slots, k.slots, length-append ds cs);
  targets = omega (arith, h.targets, k.targets, targets_both is js);
}

abbrev pub ItemLinked : Item → Type 0
ItemLinked i = IsLinked (out-Item i).expr

module _ (table : List Expr) (s : Setting) (w : Around) (shown : List Ty) (fors : ℕ) where
  -- ---- targets

  -- the variable of a target has the type
  abbrev pub VariableAt : Option ℕ → Ty → Type 0
  VariableAt None t = Unit {0}
  VariableAt (Some x) t = type_at s.slots x ≡ t

  -- its hidden slot and its variable have its type
  abbrev pub TargetAt : ℕ → Target → Type 0
  TargetAt k t = (type_at s.slots (s.numbers.targets + k) ≡ type_of shown t.1) × VariableAt t.1 (type_of shown t.1)

  abbrev pub IntosAt : ℕ → List Into → Type 0
  IntosAt k [] = Unit {0}
  IntosAt k (i ∷ is) = (Row TargetAt k i.targets × (Every ItemLinked (out-Select i.query).list × IsMarked w i)) × IntosAt (k + length i.targets) is

  pub intos_same : (j k : ℕ) (is : List Into) → j ≡ k → IntosAt j is → IntosAt k is
  intos_same j k is e h = subst (λ n. IntosAt n is) e h

  intos_left : (k : ℕ) (is js : List Into) → IntosAt k (is ++ js) → IntosAt k is
  intos_left k [] js h = tt
  intos_left k (i ∷ is) js h = (h.0, intos_left (k + length i.targets) is js h.1)

  intos_right : (k n : ℕ) (is js : List Into) → n ≡ targets_in is → IntosAt k (is ++ js) → IntosAt (k + n) js
  intos_right k n [] js e h = intos_same k (k + n) js (omega (arith, e)) h
  intos_right k n (i ∷ is) js e h =
      intos_same (k + length i.targets + targets_in is) (k + n) js (omega (arith, e)) (intos_right (k + length i.targets) (targets_in is) is js refl h.1)

  -- ---- all of it, where a piece of text has a size

  pub record Stand (p n : Position) (es : Sources) (ds : List Slot) (is : List Into) : Type 0 where
    pub exprs : Row (Entry table) p.expr es
    pub slots : Row (SlotAt s.slots) p.slot ds
    pub room : p.fors + n.fors ≤ fors
    pub intos : IntosAt p.targets is

  pub stand_left : (p n m : Position) (es fs : Sources) (ds cs : List Slot) (is js : List Into) → Stand p (after n m) (es ++ fs) (ds ++ cs) (is ++ js) → Stand p n es ds is
  stand_left p n m es fs ds cs is js h = record {
    exprs = row_left (Entry table) p.expr es fs h.exprs;
    slots = row_left (SlotAt s.slots) p.slot ds cs h.slots;
    room = omega (arith, h.room);
    intos = intos_left p.targets is js h.intos;
  }

  pub stand_right : (p n m : Position) (es fs : Sources) (ds cs : List Slot) (is js : List Into) → Counted n es ds is → Stand p (after n m) (es ++ fs) (ds ++ cs) (is ++ js)
      → Stand (after p n) m fs cs js
  stand_right p n m es fs ds cs is js c h = record {
    exprs = row_right (Entry table) p.expr n.expr es fs c.exprs h.exprs;
    slots = row_right (SlotAt s.slots) p.slot n.slot ds cs c.slots h.slots;
    room = omega (arith, h.room);
    intos = intos_right p.targets n.targets is js c.targets h.intos;
  }

  -- from another position that has the same numbers
  pub stand_at : (p q n m : Position) (es : Sources) (ds : List Slot) (is : List Into) → p.expr ≡ q.expr → p.slot ≡ q.slot → q.fors + m.fors ≤ p.fors + n.fors
      → p.targets ≡ q.targets → Stand p n es ds is → Stand q m es ds is
  stand_at p q n m es ds is e d f t h = record {
    exprs = row_same (Entry table) p.expr q.expr es e h.exprs;
    slots = row_same (SlotAt s.slots) p.slot q.slot ds d h.slots;
    room = omega (arith, h.room, f);
    intos = intos_same p.targets q.targets is t h.intos;
  }
