-- A block that is reached and fails is the same by both definitions.
use Rattle.std.proofs.Common.{ℕ, List}
use Rattle.block_forms.specs.declared.forms.Block.{Block}
use Rattle.block_forms.specs.declared.forms.End.{End}
use Rattle.block_forms.specs.declared.forms.End.TheVariants.{Jump, Branch, Return, Fail}
use Rattle.block_forms.specs.declared.forms.Goto.{Goto}
use Rattle.inline_calls.specs.Fails as calls
use Rattle.inline_law.specs.Fails as law

leads : (e : End) (c : ℕ) → law.Leads e c → calls.Leads e c
leads (Jump b) c h = h
leads (Branch t a b) c h = h
leads (Return t) c h = h
leads (Fail b) c h = h

is_fail : (e : End) → law.IsFail e → calls.IsFail e
is_fail (Jump b) h = h
is_fail (Branch t a b) h = h
is_fail (Return t) h = h
is_fail (Fail b) h = h

reached : (blocks : List Block) (entry : ℕ) {n : ℕ} → law.Reached blocks entry n → calls.Reached blocks entry n
reached blocks entry law.at_entry = calls.at_entry
reached blocks entry (law.by_end x before is to) = calls.by_end x (reached blocks entry before) is (leads x.end _ to)

pub fails : (goto : Goto) → law.Fails goto → calls.Fails goto
fails goto h = record { number = h.number; block = h.block; reached = reached goto.blocks goto.entry h.reached; is = h.is; fails = is_fail h.block.end h.fails }
