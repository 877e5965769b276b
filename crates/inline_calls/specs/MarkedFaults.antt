-- How the classes of marked blocks are listed.
use Rattle.std.specs.Prelude.{
  ◌≡◌,
  ◌↔◌,
  ℕ,
  suc,
  ◌<◌,
  Bool,
  true,
  List,
  [],
  ◌∷◌,
  slice_get,
  Option,
  Some,
  None,
}
use Rattle.std.specs.declared.cmp.Ordering.{Ordering}
use Rattle.std.specs.declared.cmp.Ordering.TheVariants.{Less, Equal, Greater}
use Rattle.std.specs.List.{insert}
use Rattle.std.specs.Option.{option_map}
use Rattle.away_values.specs.declared.values.Class.{Class}
use Rattle.block_forms.specs.declared.forms.Block.{Block}
use Rattle.block_forms.specs.declared.forms.End.{End}
use Rattle.block_forms.specs.declared.forms.End.TheVariants.{Jump, Branch, Return, Fail}
use Rattle.inline_calls.specs.Faults.{Among, Ascend, compared}
use Rattle.inline_calls.specs.Marks.{marked}

abbrev pub class_of : End → Option Class
class_of (Fail c) = Some c
class_of (Jump b) = None
class_of (Branch t b d) = None
class_of (Return t) = None

-- behind a class that compares so
abbrev pub behind : Ordering → Option ℕ → Option ℕ
behind Less place = option_map (λ n. suc n) place
behind Equal place = None
behind Greater place = Some 0

-- how many of the classes come before the class, where it isn't one of them
abbrev pub place : Class → List Class → Option ℕ
place c [] = Some 0
place c (d ∷ ds) = behind (compared d c) (place c ds)

abbrev pub put_at : Class → List Class → Option ℕ → List Class
put_at c cs None = cs
put_at c cs (Some i) = insert cs i c

abbrev pub with_class : Class → List Class → List Class
with_class c cs = put_at c cs (place c cs)

module _ (blocks : List Block) (marks : List Bool) where
  -- a marked block fails with the class, one of the first n
  pub record MarkedFailsBy (n : ℕ) (class : Class) : Type 0 where
    pub number : ℕ
    pub block : Block
    pub below : number < n
    pub is_marked : marked marks number ≡ true
    pub is : slice_get blocks number ≡ Some block
    pub fails : block.end ≡ Fail class

  -- exactly the classes of the first n blocks, in the order of their codes
  pub record AreMarkedBelow (n : ℕ) (classes : List Class) : Type 0 where
    pub each : (c : Class) → Among c classes ↔ MarkedFailsBy n c
    pub ascend : Ascend classes
