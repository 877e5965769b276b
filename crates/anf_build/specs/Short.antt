-- Forms whose lists are short.
use Rattle.std.specs.Prelude.{ℕ, ◌<◌, length, Some, None}
use Rattle.block_forms.specs.declared.forms.End.{End}
use Rattle.block_forms.specs.declared.forms.End.TheVariants as jump
use Rattle.block_forms.specs.declared.forms.Ssa.{Ssa}
use Rattle.block_forms.specs.declared.forms.SsaBlock.{SsaBlock}
use Rattle.block_forms.specs.declared.forms.Term.{Term}
use Rattle.block_forms.specs.Forms.{Assignment}
use Rattle.block_forms.specs.Places.{Each}
use Rattle.call_forms.specs.declared.forms.Call.{Call}
use Rattle.call_forms.specs.declared.forms.CallEnd.{CallEnd}
use Rattle.call_forms.specs.declared.forms.AnfBlock.{AnfBlock}
use Rattle.call_forms.specs.declared.forms.Anf.{Anf}
use Rattle.call_forms.specs.declared.forms.CallEnd.TheVariants.{Go, Pick, Return, Fail}

module _ (n : ℕ) where
  abbrev pub TermWithin : Term → Type 0
  TermWithin t = length t.names < n

  abbrev pub SetWithin : Assignment → Type 0
  SetWithin None = Unit {0}
  SetWithin (Some a) = TermWithin a.1

  abbrev pub EndWithin : End → Type 0
  EndWithin (jump.Jump c) = Unit {0}
  EndWithin (jump.Branch t c d) = TermWithin t
  EndWithin (jump.Return t) = TermWithin t
  EndWithin (jump.Fail c) = Unit {0}

  pub record SsaBlockWithin (y : SsaBlock) : Type 0 where
    pub map : length y.map < n
    pub set : SetWithin y.set
    pub end : EndWithin y.end

  -- the lists that the normal form is made from have less than n elements
  pub record SsaWithin (ssa : Ssa) : Type 0 where
    pub blocks : length ssa.blocks < n
    pub each : Each SsaBlockWithin ssa.blocks

  abbrev pub CallWithin : Call → Type 0
  CallWithin c = length c.args < n

  abbrev pub CallEndWithin : CallEnd → Type 0
  CallEndWithin (Go c) = CallWithin c
  CallEndWithin (Pick t x y) = TermWithin t × CallWithin x × CallWithin y
  CallEndWithin (Return t) = TermWithin t
  CallEndWithin (Fail c) = Unit {0}

  pub record AnfBlockWithin (x : AnfBlock) : Type 0 where
    pub params : length x.params < n
    pub set : SetWithin x.set
    pub end : CallEndWithin x.end

  -- each list of the form has less than n elements
  pub record AnfWithin (anf : Anf) : Type 0 where
    pub blocks : length anf.blocks < n
    pub each : Each AnfBlockWithin anf.blocks
