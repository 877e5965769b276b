-- The blocks of the normal form, from tables of live slots: a block has the names of its live slots
-- as parameters, and a call passes for each of them the name that its slot has where the calling
-- block ends.
use Rattle.std.specs.Prelude.{
  ◌≡◌,
  ℕ,
  ◌<◌,
  Bool,
  List,
  [],
  map,
  length,
  get_or,
  slice_get,
  Option,
  Some,
  None,
}
use Rattle.std.specs.List.{filter}
use Rattle.block_forms.specs.declared.forms.Block.{Block}
use Rattle.block_forms.specs.declared.forms.End.{End}
use Rattle.block_forms.specs.declared.forms.End.TheVariants as jump
use Rattle.block_forms.specs.declared.forms.SsaBlock.{SsaBlock}
use Rattle.block_forms.specs.Forms.{Pairs, at_key}
use Rattle.block_forms.specs.Named.{exit_map}
use Rattle.call_forms.specs.declared.forms.Call.{Call}
use Rattle.call_forms.specs.declared.forms.CallEnd.{CallEnd}
use Rattle.call_forms.specs.declared.forms.AnfBlock.{AnfBlock}
use Rattle.call_forms.specs.declared.forms.CallEnd.TheVariants.{Go, Pick, Return, Fail}
use Rattle.block_graph.specs.Tables.{live_by}

-- ---- names by slot

-- a list that gives each slot the name that it has in a map
pub record AreNames (slots : ℕ) (m : Pairs) (names : List (Option ℕ)) : Type 0 where
  pub sized : length names ≡ slots
  pub each : (s : ℕ) → s < slots → get_or names s None ≡ at_key m s

abbrev pub name_or : Option ℕ → ℕ → ℕ
name_or None other = other
name_or (Some n) other = n

abbrev pub named_or : List (Option ℕ) → ℕ → ℕ → ℕ
named_or names s other = name_or (get_or names s None) other

-- ---- blocks

module _ (tables : List (List Bool)) where
  -- the pairs of a block's map with slots that are live there
  abbrev pub live_pairs : ℕ → Pairs → Pairs
  live_pairs b m = filter (λ (p : ℕ × ℕ). live_by tables b p.0) m

  abbrev pub parameters : ℕ → Pairs → List ℕ
  parameters b m = map (λ (p : ℕ × ℕ). p.1) (live_pairs b m)

  module _ (names : List (Option ℕ)) where
    abbrev pub arguments : ℕ → Pairs → List ℕ
    arguments b m = map (λ (p : ℕ × ℕ). named_or names p.0 p.1) (live_pairs b m)

    abbrev pub arguments_of : ℕ → Option SsaBlock → List ℕ
    arguments_of b None = []
    arguments_of b (Some y) = arguments b y.map

  module _ (blocks : List SsaBlock) where
    module _ (names : List (Option ℕ)) where
      abbrev pub call_of : ℕ → Call
      call_of c = record { target = c; args = arguments_of names c (slice_get blocks c) }

      abbrev pub end_of : End → CallEnd
      end_of (jump.Jump c) = Go (call_of c)
      end_of (jump.Branch t c d) = Pick t (call_of c) (call_of d)
      end_of (jump.Return t) = Return t
      end_of (jump.Fail c) = Fail c

    -- the block that stands for block b, by the names that slots have at its end
    pub record IsBlockOf (b : ℕ) (x : Block) (y : SsaBlock) (w : AnfBlock) : Type 0 where
      pub names : List (Option ℕ)
      pub are_names : AreNames (length tables) (exit_map x y) names
      pub params : w.params ≡ parameters b y.map
      pub set : w.set ≡ y.set
      pub end : w.end ≡ end_of names y.end

  -- one block for each
  pub record AreBlocksOf (from : List Block) (blocks : List SsaBlock) (made : List AnfBlock) : Type 0 where
    pub as_many : length made ≡ length blocks
    pub each : (b : ℕ) (x : Block) (y : SsaBlock) (w : AnfBlock) → slice_get from b ≡ Some x → slice_get blocks b ≡ Some y → slice_get made b ≡ Some w
        → IsBlockOf blocks b x y w
