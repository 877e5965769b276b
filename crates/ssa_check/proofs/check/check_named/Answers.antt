use Rattle.ssa_check.specs.Naming.{setting_of}
use Rattle.ssa_check.specs.NamingBounds.{naming_bounds}
use Rattle.ssa_check.proofs.check.check_named.Goals as goal

pub returns-clause-bounds : goal.returns-clause-bounds
returns-clause-bounds c =
    λ yes. naming_bounds (setting_of c.args.f.now.function c.args.f.now.slots c.args.g.now) c.args.s.now ((rw (c.len.ensures, c.len-2.ensures) at c.is_named.ensures).0 yes)
