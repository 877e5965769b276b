-- Forms that a certificate can spell: their classes are five digits or upper-case letters.
use Rattle.std.specs.Prelude.{◌≡◌, ℕ, Bool, true, ◌&&◌, ◌==◌, List, length}
use Rattle.std.specs.List.{AllByRecursion, list_all}
use Rattle.away_values.specs.Classes.{is_class_char}
use Rattle.away_values.specs.declared.values.Class.{Class}
use Rattle.block_forms.specs.declared.forms.End.{End}
use Rattle.block_forms.specs.declared.forms.End.TheVariants as jump
use Rattle.call_forms.specs.declared.forms.Forms.{Forms}
use Rattle.call_forms.specs.Forms.{CallEnd, Go, Pick, Return, Fail}

-- five digits or upper-case letters
abbrev pub is_code : List ℕ → Bool
is_code t = length t == 5 && list_all is_class_char t

abbrev pub HasCode : Class → Type 0
HasCode c = is_code c.code ≡ true

abbrev pub EndHasCode : End → Type 0
EndHasCode (jump.Jump b) = Unit {0}
EndHasCode (jump.Branch t b c) = Unit {0}
EndHasCode (jump.Return t) = Unit {0}
EndHasCode (jump.Fail c) = HasCode c

abbrev pub CallEndHasCode : CallEnd → Type 0
CallEndHasCode (Go c) = Unit {0}
CallEndHasCode (Pick t b c) = Unit {0}
CallEndHasCode (Return t) = Unit {0}
CallEndHasCode (Fail c) = HasCode c

pub record HasSpelling (forms : Forms) : Type 0 where
  pub goto : AllByRecursion (λ b. EndHasCode b.end) forms.goto.blocks
  pub ssa : AllByRecursion (λ b. EndHasCode b.end) forms.ssa.blocks
  pub anf : AllByRecursion (λ b. CallEndHasCode b.end) forms.anf.blocks
