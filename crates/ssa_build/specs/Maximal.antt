-- The form with a φ for each live slot of each block but the entry.
use Rattle.std.specs.Prelude.{
  ℕ,
  suc,
  Bool,
  true,
  false,
  if◌then◌else◌,
  List,
  [],
  ◌∷◌,
  map,
  length,
  slice_get,
  Option,
  Some,
  None,
  nat_eq,
}
use Rattle.std.specs.List.{filter}
use Rattle.block_forms.specs.Named.{leads}
use Rattle.ssa_build.specs.Blocks.{term}
use Rattle.ssa_build.specs.Forms.{Block, Branch, End, Fail, Jump, Phi, Return, Ssa, SsaBlock, Term}
use Rattle.block_graph.specs.Ranges.{count_from}

-- each element by its place, from i on
abbrev pub numbered : {X Y : Type 0} → (ℕ → X → Y) → ℕ → List X → List Y
numbered f i [] = []
numbered f i (x ∷ xs) = f i x ∷ numbered f (suc i) xs

module _ (slots entry : ℕ) (g : List Block) (live : ℕ → ℕ → Bool) (phi_name : ℕ → ℕ → ℕ) (set_name : ℕ → ℕ) where
  abbrev pub live_slots : ℕ → List ℕ
  live_slots b = filter (live b) (count_from 0 slots)

  abbrev pub sources : ℕ → List ℕ
  sources c = filter (λ b. leads (slice_get g b) c) (count_from 0 (length g))

  abbrev pub entry_name : ℕ → ℕ → ℕ
  entry_name b s = if nat_eq b entry then s else phi_name b s

  abbrev pub after_set : Option (ℕ × Term) → ℕ → ℕ → ℕ
  after_set None b s = entry_name b s
  after_set (Some a) b s = if nat_eq a.0 s then set_name b else entry_name b s

  abbrev pub after_block : Option Block → ℕ → ℕ → ℕ
  after_block None b s = 0
  after_block (Some x) b s = after_set x.set b s

  -- the name of a slot where the block ends
  abbrev pub name_after : ℕ → ℕ → ℕ
  name_after b s = after_block (slice_get g b) b s

  abbrev pub named_term : (ℕ → ℕ) → Term → Term
  named_term name t = term t.expr (map name t.names)

  abbrev pub named_end : (ℕ → ℕ) → End → End
  named_end name (Jump c) = Jump c
  named_end name (Branch t y n) = Branch (named_term name t) y n
  named_end name (Return t) = Return (named_term name t)
  named_end name (Fail k) = Fail k

  abbrev pub named_set : ℕ → Option (ℕ × Term) → Option (ℕ × Term)
  named_set b None = None
  named_set b (Some a) = Some (set_name b, named_term (entry_name b) a.1)

  abbrev pub full_phi : ℕ → ℕ → Phi
  full_phi b s = record { name = phi_name b s; operands = map (λ p. (p, name_after p s)) (sources b) }

  abbrev pub full_phis : Bool → ℕ → List Phi
  full_phis true b = []
  full_phis false b = map (full_phi b) (live_slots b)

  abbrev pub full_block : ℕ → Block → SsaBlock
  full_block b x = record {
    map = map (λ s. (s, entry_name b s)) (live_slots b);
    phis = full_phis (nat_eq b entry) b;
    set = named_set b x.set;
    end = named_end (after_set x.set b) x.end;
  }

  abbrev pub full : List ℕ → Ssa
  full names = record { names = names; blocks = numbered full_block 0 g }
