use Rattle.std.proofs.Common.{◌≡◌, Some, length, sym, subst, arith}
use Rattle.std.specs.Prelude.{slice_get}
use Rattle.std.proofs.lemmas.Grind.{common_steps}
use Rattle.std.proofs.lemmas.Option.{gets}
use Rattle.tail_rec.specs.Columns.{HasRoom}
use Rattle.tail_rec.proofs.places.places_at.Goals as goal

pub placed-requires : goal.placed-requires
placed-requires c =
    let there : slice_get c.args.blocks.now c.args.block ≡ Some c.in-Some.found.now = grind (arith, common_steps, gets) in
    subst (λ l. HasRoom c.args.starts (length l)) (sym c.as_slice.ensures)
    (c.requires.room (length c.in-Some.found.now.params) (c.requires.few c.args.block c.in-Some.found.now there).few)
