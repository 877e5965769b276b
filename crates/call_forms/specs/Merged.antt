-- The relation between a normal form and the labels of its tail form.
use Rattle.std.specs.Prelude.{
  ◌≡◌,
  ℕ,
  ◌+◌,
  ◌<◌,
  ◌≤◌,
  false,
  List,
  [],
  ◌∷◌,
  length,
  slice_get,
  None,
  nat_eq,
}
use Rattle.block_forms.specs.declared.forms.Goto.{Goto}
use Rattle.block_forms.specs.Lowered.{one_of}
use Rattle.block_forms.specs.Places.{Each, Distinct}
use Rattle.block_forms.specs.Runs.{is_head}
use Rattle.call_forms.specs.Called.{itself, Among}
use Rattle.call_forms.specs.Forms.{CallEnd, Go, Pick, Return, Fail, AnfBlock, Anf, Tail, label_of}

-- how many calls of a block go to b; a pick with both calls to it has two
abbrev pub end_calls : ℕ → CallEnd → ℕ
end_calls b (Go c) = one_of (nat_eq c.target b)
end_calls b (Pick t x y) = one_of (nat_eq x.target b) + one_of (nat_eq y.target b)
end_calls b (Return t) = 0
end_calls b (Fail c) = 0

abbrev pub calls_to : ℕ → List AnfBlock → ℕ
calls_to b [] = 0
calls_to b (x ∷ xs) = end_calls b x.end + calls_to b xs

-- what holds of each block that an end calls
abbrev pub AtCalls : (ℕ → Type 0) → CallEnd → Type 0
AtCalls P (Go c) = P c.target
AtCalls P (Pick t x y) = P x.target × P y.target
AtCalls P (Return t) = Unit {0}
AtCalls P (Fail c) = Unit {0}

-- a block that may be merged into the one that calls it
pub record MayMerge (goto : Goto) (anf : Anf) (b : ℕ) : Type 0 where
  pub no_head : is_head (slice_get goto.blocks b) ≡ false
  pub one_call : calls_to b anf.blocks ≤ 1

-- The labels are distinct blocks, and the entry is one. Every other block may be merged. Each call
-- is of a block.
pub record Merged (goto : Goto) (anf : Anf) (tail : Tail) : Type 0 where
  pub labels_differ : Distinct itself tail.labels
  pub labels_are_blocks : Each (λ b. b < length anf.blocks) tail.labels
  pub entry : Among tail.labels goto.entry
  pub others : (b : ℕ) → b < length anf.blocks → label_of tail b ≡ None → MayMerge goto anf b
  pub calls : Each (λ x. AtCalls (λ b. b < length anf.blocks) x.end) anf.blocks
