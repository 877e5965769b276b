-- The term, and the block, that a pattern asks for.
use Rattle.std.specs.Prelude.{ℕ, List, [], ◌∷◌}
use Rattle.select_into.specs.Wrapped.{select_slots}
use Rattle.sql_meaning.specs.Reads.{slots_of}
use Rattle.goto_check.specs.declared.shapes.Reads.{Reads}
use Rattle.goto_check.specs.declared.shapes.Reads.TheVariants as reads
use Rattle.goto_check.specs.declared.shapes.Wanted.{Wanted}
use Rattle.goto_check.specs.declared.shapes.Shape.{Shape}
use Rattle.goto_check.specs.declared.shapes.Shape.TheVariants as sh
use Rattle.block_forms.specs.declared.forms.Term.{Term}
use Rattle.block_forms.specs.declared.forms.Block.{Block}
use Rattle.block_forms.specs.Patterns.{term, sets, branches, jumps, returns, fails}

abbrev pub wanted_slots : Reads → List ℕ
wanted_slots reads.Nothing = []
wanted_slots (reads.One a) = a ∷ []
wanted_slots (reads.Two a b) = a ∷ b ∷ []
wanted_slots (reads.Expr e) = slots_of e.now
wanted_slots (reads.Select s) = select_slots s.now

abbrev pub wanted : Wanted → Term
wanted w = term w.expr (wanted_slots w.reads)

abbrev pub shape : Shape → Block
shape (sh.Sets slot want next) = sets slot (wanted want.now) next
shape (sh.Branch head want y n) = branches head (wanted want.now) y n
shape (sh.Jump head next) = jumps head next
shape (sh.Return want) = returns (wanted want.now)
shape (sh.Fail c) = fails c
