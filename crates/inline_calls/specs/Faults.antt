-- With which SQLSTATEs a run of a goto form may come to a fault: those with which blocks fail that
-- jumps and branches reach from the entry.
use Rattle.std.specs.Prelude.{◌≡◌, ◌⊎◌, ◌↔◌, ℕ, List, [], ◌∷◌, slice_get, Some}
use Rattle.std.specs.declared.cmp.Ordering.{Ordering}
use Rattle.std.specs.declared.cmp.Ordering.TheVariants.{Less}
use Rattle.std.specs.Cmp.Lexicographic.{slice_cmp}
use Rattle.std.specs.Ordering.{nat_cmp}
use Rattle.away_trees.specs.declared.queries.Query.{Query}
use Rattle.away_trees.specs.declared.schemas.Schema.{Schema}
use Rattle.away_trees.specs.declared.statements.Function.{Function}
use Rattle.away_values.specs.declared.values.Class.{Class}
use Rattle.block_forms.specs.declared.forms.Block.{Block}
use Rattle.block_forms.specs.declared.forms.End.TheVariants.{Fail}
use Rattle.block_forms.specs.declared.forms.Goto.{Goto}
use Rattle.inline_law.specs.Filled.{CallingSelect}
use Rattle.inline_law.specs.Fails.{Fails, Reached}
use Rattle.inline_calls.specs.Refusing.{AreCalls, RefusesFaults}

-- a block that is reached fails with the class
pub record FailsBy (goto : Goto) (class : Class) : Type 0 where
  pub number : ℕ
  pub block : Block
  pub reached : Reached goto.blocks goto.entry number
  pub is : slice_get goto.blocks number ≡ Some block
  pub fails : block.end ≡ Fail class

-- ---- classes in the order of their codes

abbrev pub compared : Class → Class → Ordering
compared c d = slice_cmp nat_cmp c.code d.code

abbrev pub Among : Class → List Class → Type 0
Among c [] = ⊥
Among c (d ∷ ds) = (c ≡ d) ⊎ Among c ds

-- the class comes before all of them
abbrev pub IsBefore : Class → List Class → Type 0
IsBefore c [] = Unit {0}
IsBefore c (d ∷ ds) = (compared c d ≡ Less) × IsBefore c ds

abbrev pub Ascend : List Class → Type 0
Ascend [] = Unit {0}
Ascend (c ∷ cs) = IsBefore c cs × Ascend cs

-- Exactly these are the classes of such faults. Their codes ascend, so that each stands once.
pub record AreFaults (goto : Goto) (classes : List Class) : Type 0 where
  pub each : (c : Class) → Among c classes ↔ FailsBy goto c
  pub ascend : Ascend classes

-- ---- laws

-- no class stands twice
abbrev pub StandOnce : Type 0
StandOnce = (goto : Goto) (classes : List Class) → AreFaults goto classes
    → (i j : ℕ) (c : Class) → slice_get classes i ≡ Some c → slice_get classes j ≡ Some c → i ≡ j

abbrev pub AreNoneWithoutFails : Type 0
AreNoneWithoutFails = (goto : Goto) (classes : List Class) → AreFaults goto classes
    → (classes ≡ []) ↔ (Fails goto → ⊥)

-- where calls aren't replaced since the function may come to a fault of its own, there is one
abbrev pub AreSomeOfRefused : Type 0
AreSomeOfRefused = (s : Schema) (f : Function) (goto : Goto) (q : Query) (classes : List Class)
    → AreFaults goto classes → RefusesFaults s f goto q → classes ≡ [] → ⊥

-- and none where they are replaced
abbrev pub AreNoneOfReplaced : Type 0
AreNoneOfReplaced = (s : Schema) (f : Function) (goto : Goto) (q : Query) (c : CallingSelect)
    (classes : List Class) → AreFaults goto classes → AreCalls s f goto q c → classes ≡ []
