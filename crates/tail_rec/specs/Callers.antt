-- How many calls go to each block, and the blocks that are labels whatever their depth.
use Rattle.std.specs.Prelude.{
  ℕ,
  Bool,
  true,
  false,
  ◌||◌,
  List,
  [],
  ◌∷◌,
  length,
  get_or,
  replicate,
  slice_get,
  slice_set,
  Option,
  Some,
  None,
  nat_eq,
}
use Rattle.block_forms.specs.declared.forms.Goto.{Goto}
use Rattle.block_forms.specs.Runs.{is_head}
use Rattle.call_forms.specs.declared.forms.CallEnd.{CallEnd}
use Rattle.call_forms.specs.declared.forms.AnfBlock.{AnfBlock}
use Rattle.call_forms.specs.declared.forms.CallEnd.TheVariants.{Go, Pick, Return, Fail}
use Rattle.tail_rec.specs.declared.callers.Callers.{Callers}
use Rattle.tail_rec.specs.declared.callers.Callers.TheVariants.{No, One, Several}

abbrev pub one_more : Callers → Callers
one_more No = One
one_more One = Several
one_more Several = Several

-- a table by block, with one call more to a block
abbrev pub with_call : ℕ → List Callers → List Callers
with_call b table = slice_set table b (one_more (get_or table b No))

abbrev pub with_end : CallEnd → List Callers → List Callers
with_end (Go c) table = with_call c.target table
with_end (Pick t x y) table = with_call y.target (with_call x.target table)
with_end (Return t) table = table
with_end (Fail c) table = table

abbrev pub with_ends : List AnfBlock → List Callers → List Callers
with_ends [] table = table
with_ends (x ∷ xs) table = with_ends xs (with_end x.end table)

abbrev pub callers_of : List AnfBlock → List Callers
callers_of xs = with_ends xs (replicate (length xs) No)

abbrev pub is_several : Callers → Bool
is_several No = false
is_several One = false
is_several Several = true

abbrev pub several_there : Option Callers → Bool
several_there None = false
several_there (Some c) = is_several c

abbrev pub has_several : List Callers → ℕ → Bool
has_several callers b = several_there (slice_get callers b)

abbrev pub is_head_of : Goto → ℕ → Bool
is_head_of goto b = is_head (slice_get goto.blocks b)

abbrev pub is_firm : Goto → List Callers → ℕ → Bool
is_firm goto callers b = nat_eq b goto.entry || (is_head_of goto b || has_several callers b)
