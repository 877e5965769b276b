-- The blocks at which a slot is live, as a table.
use Rattle.std.specs.Prelude.{
  ◌≡◌,
  ℕ,
  ◌+◌,
  Bool,
  true,
  false,
  not,
  ◌||◌,
  ◌&&◌,
  List,
  [],
  ◌∷◌,
  length,
  get_or,
  slice_get,
  Option,
  Some,
  None,
  nat_eq,
}
use Rattle.block_forms.specs.declared.forms.Block.{Block}
use Rattle.block_forms.specs.declared.forms.End.{End}
use Rattle.block_forms.specs.declared.forms.End.TheVariants.{Jump, Branch, Return, Fail}
use Rattle.block_forms.specs.declared.forms.Term.{Term}
use Rattle.block_forms.specs.Live.{Live, LiveIn}

abbrev pub has : List ℕ → ℕ → Bool
has [] s = false
has (x ∷ xs) s = nat_eq x s || has xs s

abbrev pub marked : List Bool → ℕ → Bool
marked table c = get_or table c false

abbrev pub lives_end : End → List Bool → ℕ → Bool
lives_end (Jump c) table s = marked table c
lives_end (Branch t y n) table s = has t.names s || (marked table y || marked table n)
lives_end (Return t) table s = has t.names s
lives_end (Fail k) table s = false

abbrev pub lives_set : Option (ℕ × Term) → Bool → ℕ → Bool
lives_set None later s = later
lives_set (Some a) later s = has a.1.names s || (not (nat_eq a.0 s) && later)

abbrev pub lives : Block → List Bool → ℕ → Bool
lives x table s = lives_set x.set (lives_end x.end table s) s

-- whether the block isn't marked, though the slot is live there by what is marked
abbrev pub due_block : Option Block → List Bool → ℕ → Bool → Bool
due_block None table s m = false
due_block (Some x) table s m = not m && lives x table s

abbrev pub due : List Block → List Bool → ℕ → ℕ → Bool
due g table s b = due_block (slice_get g b) table s (marked table b)

-- how many blocks are not marked
abbrev pub one_unless : Bool → ℕ
one_unless true = 0
one_unless false = 1

abbrev pub unmarked : List Bool → ℕ
unmarked [] = 0
unmarked (m ∷ ms) = one_unless m + unmarked ms

-- each marked block is one at which the slot is live
abbrev pub OnlyLive : List Block → ℕ → List Bool → Type 0
OnlyLive g s table = (b : ℕ) → marked table b ≡ true → (k : ℕ) × Live g k b s

-- each block at which the slot is live next is marked
abbrev pub IsClosed : List Block → ℕ → List Bool → Type 0
IsClosed g s table = (b : ℕ) (x : Block) → slice_get g b ≡ Some x → LiveIn (Some x) (λ c. marked table c ≡ true) s → marked table b ≡ true

pub record LiveTable (g : List Block) (s : ℕ) (table : List Bool) : Type 0 where
  pub sized : length table ≡ length g
  pub only : OnlyLive g s table
  pub closed : IsClosed g s table
