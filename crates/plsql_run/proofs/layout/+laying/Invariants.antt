use Rattle.std.proofs.Common.{◌≡◌, take, map}
use Rattle.plsql_run.specs.Layouts.{arm_layout, layout_of}
use Rattle.plsql_run.proofs.layout.+laying.Given as goal

abbrev pub invariant-layouts_of-loop-s : goal.invariant-layouts_of-loop-s
invariant-layouts_of-loop-s l = l.all ≡ map layout_of (take l.s-index l.list)

abbrev pub invariant-arm_layouts-loop-arm : goal.invariant-arm_layouts-loop-arm
invariant-arm_layouts-loop-arm l = l.all ≡ map arm_layout (take l.arm-index l.arms)
