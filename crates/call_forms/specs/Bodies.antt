-- The body of a label: its block and all blocks that are merged into it, as one finite tree.
use Rattle.std.specs.Prelude.{ℕ, zero, suc, List, [], length, get_or, slice_get, Option, Some, None}
use Rattle.away_values.specs.declared.values.Class.{Class}
use Rattle.block_forms.specs.declared.forms.Term.{Term}
use Rattle.block_forms.specs.Forms.{Assignment}
use Rattle.call_forms.specs.Forms.{
  Call,
  CallEnd,
  Go,
  Pick,
  Return,
  Fail,
  AnfBlock,
  Anf,
  Tail,
  params_of,
  label_of,
}

-- What a label does from its first block on. `enters` goes on with a block that is no label: its
-- parameters, what is passed, and the block. `calls` has a label, counted from 0, its places and
-- what is passed. `endless` stands where more blocks would follow than there are, or where no block
-- has the number.
pub data Body : Type 0 where
  sets : ℕ → Term → Body → Body
  enters : List ℕ → List ℕ → Body → Body
  picks : Term → Body → Body → Body
  returns : Term → Body
  fails : Class → Body
  calls : ℕ → List ℕ → List ℕ → Body
  endless : Body

module _ (anf : Anf) (tail : Tail) where
  abbrev pub goes_to : (ℕ → Body) → Call → Option ℕ → Body
  goes_to next c (Some label) = calls label (get_or tail.places label []) c.args
  goes_to next c None = enters (params_of (slice_get anf.blocks c.target)) c.args (next c.target)

  abbrev pub goes : (ℕ → Body) → Call → Body
  goes next c = goes_to next c (label_of tail c.target)

  abbrev pub end_body : (ℕ → Body) → CallEnd → Body
  end_body next (Go c) = goes next c
  end_body next (Pick t x y) = picks t (goes next x) (goes next y)
  end_body next (Return t) = returns t
  end_body next (Fail c) = fails c

  abbrev pub sets_first : Assignment → Body → Body
  sets_first None body = body
  sets_first (Some p) body = sets p.0 p.1 body

  abbrev pub block_body : (ℕ → Body) → Option AnfBlock → Body
  block_body next None = endless
  block_body next (Some x) = sets_first x.set (end_body next x.end)

  -- the tree from a block on, through so many blocks at most
  abbrev pub tree : ℕ → ℕ → Body
  tree zero b = endless
  tree (suc n) b = block_body (tree n) (slice_get anf.blocks b)

  -- the label's own block counts among as many blocks as there are
  abbrev pub body_of : ℕ → Body
  body_of b = tree (length anf.blocks) b

-- whether the tree is finite
abbrev pub Ends : Body → Type 0
Ends (sets n t x) = Ends x
Ends (enters params args x) = Ends x
Ends (picks t x y) = Ends x × Ends y
Ends (returns t) = Unit {0}
Ends (fails c) = Unit {0}
Ends (calls label places args) = Unit {0}
Ends endless = ⊥
