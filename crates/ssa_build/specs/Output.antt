-- The form that is written.
use Rattle.std.specs.Prelude.{
  Bool,
  ℕ,
  ◌&&◌,
  List,
  [],
  map,
  nat_eq,
  if◌then◌else◌,
  Option,
  Some,
  None,
}
use Rattle.std.specs.List.{filter}
use Rattle.ssa_build.specs.declared.full.FullForm.{FullForm}
use Rattle.ssa_build.specs.Blocks.{term}
use Rattle.ssa_build.specs.Forms.{Block, Branch, End, Fail, Jump, Phi, Return, SsaBlock, Term}
use Rattle.ssa_build.specs.FullForms.{after, before, live_in, phi_name, set_name}
use Rattle.block_graph.specs.Ranges.{count_from}
use Rattle.ssa_build.specs.Merging.{is_end, new_name, replacing}
use Rattle.block_graph.specs.Predecessors.{predecessors_of}

abbrev pub phi : ℕ → List (ℕ × ℕ) → Phi
phi n os = record { name = n; operands = os }

-- into leads to the names that others are merged into, numbers has their new numbers
module _ (f : FullForm) (g : List Block) (into numbers : List ℕ) where
  abbrev pub new_before : ℕ → ℕ → ℕ
  new_before b s = new_name into numbers (before f b s)

  abbrev pub new_after : ℕ → ℕ → ℕ
  new_after b s = new_name into numbers (after f g b s)

  -- the φ of a slot, as it is written
  abbrev pub new_phi : ℕ → ℕ → Phi
  new_phi b s = phi (new_name into numbers (phi_name f b s)) (map (λ p. (p, new_after p s)) (predecessors_of g b))

  abbrev pub term_before : ℕ → Term → Term
  term_before b t = term t.expr (map (new_before b) t.names)

  abbrev pub term_after : ℕ → Term → Term
  term_after b t = term t.expr (map (new_after b) t.names)

  abbrev pub new_set : ℕ → Option (ℕ × Term) → Option (ℕ × Term)
  new_set b None = None
  new_set b (Some a) = Some (new_name into numbers (set_name f b), term_before b a.1)

  abbrev pub new_end : ℕ → End → End
  new_end b (Jump c) = Jump c
  new_end b (Branch t y n) = Branch (term_after b t) y n
  new_end b (Return t) = Return (term_after b t)
  new_end b (Fail k) = Fail k

  abbrev pub new_map : ℕ → List (ℕ × ℕ)
  new_map b = map (λ s. (s, new_before b s)) (filter (live_in f b) (count_from 0 f.layout.slots))

  -- a slot with a φ that is merged into no other name
  abbrev pub keeps_phi : ℕ → ℕ → Bool
  keeps_phi b s = live_in f b s && is_end (replacing into) (phi_name f b s)

  abbrev pub slot_phis : ℕ → List Phi
  slot_phis b = map (new_phi b) (filter (keeps_phi b) (count_from 0 f.layout.slots))

  abbrev pub new_phis : ℕ → List Phi
  new_phis b = if nat_eq b f.layout.entry then [] else slot_phis b

  abbrev pub new_block : ℕ → Block → SsaBlock
  new_block b x = record { map = new_map b; phis = new_phis b; set = new_set b x.set; end = new_end b x.end }
