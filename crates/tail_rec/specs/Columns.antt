-- The columns of labels: for each type as many as the most parameters of it that one label has. A
-- label's parameters of a type take its columns in order.
use Rattle.std.specs.Prelude.{
  ℕ,
  suc,
  ◌+◌,
  ◌<◌,
  ◌^◌,
  if◌then◌else◌,
  List,
  [],
  ◌∷◌,
  ◌++◌,
  length,
  map,
  replicate,
  slice_get,
  Option,
  Some,
  None,
  nat_lt,
}
use Rattle.std.specs.List.{count_by}
use Rattle.away_values.specs.declared.types.Ty.{Ty}
use Rattle.away_values.specs.declared.types.Ty.TheVariants as ty
use Rattle.call_forms.specs.declared.forms.AnfBlock.{AnfBlock}
use Rattle.call_forms.specs.Forms.{params_of}
use Rattle.call_forms.specs.Tight.{is_type}
use Rattle.tail_rec.specs.declared.columns.PerType.{PerType}

pub record HasFewParameters (x : AnfBlock) : Type 0 where
  pub few : length x.params < 2 ^ 28

pub record AreFew (n : PerType) : Type 0 where
  pub bigint : n.bigint < 2 ^ 28
  pub boolean : n.boolean < 2 ^ 28
  pub text : n.text < 2 ^ 28
  pub integer : n.integer < 2 ^ 28

abbrev pub of_type : PerType → Ty → ℕ
of_type n ty.Bigint = n.bigint
of_type n ty.Boolean = n.boolean
of_type n ty.Text = n.text
of_type n ty.Integer = n.integer

abbrev pub greater : ℕ → ℕ → ℕ
greater m n = if nat_lt m n then n else m

-- the greatest of the counts, and of m
abbrev pub most_of : (ℕ → ℕ) → ℕ → List ℕ → ℕ
most_of count m [] = m
most_of count m (b ∷ bs) = most_of count (greater m (count b)) bs

-- types: the type of each name
module _ (types : ℕ → Option Ty) where
  abbrev pub count_of : Ty → List ℕ → ℕ
  count_of t params = count_by (λ p. is_type t (types p)) params

  abbrev pub needed : List AnfBlock → Ty → ℕ → ℕ
  needed xs t b = count_of t (params_of (slice_get xs b))

  abbrev pub widths_of : List AnfBlock → List ℕ → PerType
  widths_of xs labels = record {
    bigint = most_of (needed xs ty.Bigint) 0 labels;
    boolean = most_of (needed xs ty.Boolean) 0 labels;
    text = most_of (needed xs ty.Text) 0 labels;
    integer = most_of (needed xs ty.Integer) 0 labels;
  }

abbrev pub columns_of : PerType → List Ty
columns_of n = replicate n.bigint ty.Bigint ++ (replicate n.boolean ty.Boolean ++ (replicate n.text ty.Text ++ replicate n.integer ty.Integer))

-- ---- places

-- the first column of each type
abbrev pub starts_of : PerType → PerType
starts_of n = record { bigint = 0; boolean = n.bigint; text = n.bigint + n.boolean; integer = (n.bigint + n.boolean) + n.text }

-- after one more column of a type
abbrev pub after_one : PerType → Ty → PerType
after_one n ty.Bigint = record { bigint = suc n.bigint; boolean = n.boolean; text = n.text; integer = n.integer }
after_one n ty.Boolean = record { bigint = n.bigint; boolean = suc n.boolean; text = n.text; integer = n.integer }
after_one n ty.Text = record { bigint = n.bigint; boolean = n.boolean; text = suc n.text; integer = n.integer }
after_one n ty.Integer = record { bigint = n.bigint; boolean = n.boolean; text = n.text; integer = suc n.integer }

-- what has no type takes no column
abbrev pub place_for : PerType → Option Ty → ℕ
place_for free None = 0
place_for free (Some t) = of_type free t

abbrev pub after_place : PerType → Option Ty → PerType
after_place free None = free
after_place free (Some t) = after_one free t

module _ (types : ℕ → Option Ty) where
  -- each name takes the next free column of its type
  abbrev pub placed : PerType → List ℕ → List ℕ
  placed free [] = []
  placed free (p ∷ ps) = place_for free (types p) ∷ placed (after_place free (types p)) ps

  abbrev pub places_at : List AnfBlock → PerType → ℕ → List ℕ
  places_at xs starts b = placed starts (params_of (slice_get xs b))

  -- the columns of each label's parameters
  abbrev pub places_of : List AnfBlock → PerType → List ℕ → List (List ℕ)
  places_of xs starts labels = map (places_at xs starts) labels

-- so many columns may still be taken
pub record HasRoom (free : PerType) (more : ℕ) : Type 0 where
  pub bigint : free.bigint + more < 2 ^ 32
  pub boolean : free.boolean + more < 2 ^ 32
  pub text : free.text + more < 2 ^ 32
  pub integer : free.integer + more < 2 ^ 32
