-- The walk from labels along calls. It begins with the labels that are firm, and goes on behind
-- each block that it has reached, in turn. A block that would have a depth of sixteen is a label.
use Rattle.std.specs.Prelude.{
  ℕ,
  zero,
  suc,
  Bool,
  true,
  false,
  if◌then◌else◌,
  List,
  [],
  ◌∷◌,
  ◌++◌,
  length,
  slice_get,
  Option,
  Some,
  None,
  nat_lt,
}
use Rattle.block_forms.specs.declared.forms.Goto.{Goto}
use Rattle.call_forms.specs.declared.forms.CallEnd.{CallEnd}
use Rattle.call_forms.specs.declared.forms.AnfBlock.{AnfBlock}
use Rattle.call_forms.specs.declared.forms.CallEnd.TheVariants.{Go, Pick, Return, Fail}
use Rattle.tail_rec.specs.declared.walk.Reached.{Reached}
use Rattle.tail_rec.specs.Callers.{callers_of, is_firm}

abbrev pub reached : ℕ → ℕ → Bool → Reached
reached b d l = record { block = b; depth = d; is_label = l }

abbrev pub behind_test : ℕ → ℕ → Reached
behind_test b d = if nat_lt d 15 then reached b (suc d) false else reached b 0 true

module _ (firm : ℕ → Bool) where
  -- a block behind a jump of a block with this depth, and one behind a test
  abbrev pub followed : ℕ → ℕ → List Reached
  followed d b = if firm b then [] else reached b d false ∷ []

  abbrev pub picked : ℕ → ℕ → List Reached
  picked d b = if firm b then [] else behind_test b d ∷ []

  abbrev pub after_end : ℕ → CallEnd → List Reached
  after_end d (Go c) = followed d c.target
  after_end d (Pick t x y) = picked d x.target ++ picked d y.target
  after_end d (Return t) = []
  after_end d (Fail c) = []

  abbrev pub after_block : ℕ → Option AnfBlock → List Reached
  after_block d None = []
  after_block d (Some x) = after_end d x.end

  abbrev pub after : List AnfBlock → Reached → List Reached
  after xs r = after_block r.depth (slice_get xs r.block)

  abbrev pub after_some : List AnfBlock → Option Reached → List Reached
  after_some xs None = []
  after_some xs (Some r) = after xs r

  -- the firm labels among the first blocks
  abbrev pub firm_labels : ℕ → List Reached
  firm_labels zero = []
  firm_labels (suc b) = firm_labels b ++ (if firm b then reached b 0 true ∷ [] else [])

  -- what is reached when the walk has gone on behind so many blocks
  abbrev pub walked : List AnfBlock → ℕ → List Reached
  walked xs zero = firm_labels (length xs)
  walked xs (suc i) = walked xs i ++ after_some xs (slice_get (walked xs i) i)

-- the blocks of those that are labels
abbrev pub labels_among : List Reached → List ℕ
labels_among [] = []
labels_among (r ∷ rs) = if r.is_label then r.block ∷ labels_among rs else labels_among rs

-- the labels of a form: the entry, heads, blocks with several calls to them, and what would have a
-- depth of sixteen
abbrev pub labels_of : Goto → List AnfBlock → List ℕ
labels_of goto xs = labels_among (walked (is_firm goto (callers_of xs)) xs (length xs))
