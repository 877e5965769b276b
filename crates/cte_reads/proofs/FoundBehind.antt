-- References that are found, behind others.
use Rattle.std.proofs.Common.{List, ◌++◌, Option, Some, None}
use Rattle.cte_reads.specs.declared.scope.Ref.{Ref}

abbrev pub behind : List Ref → Option (List Ref) → Option (List Ref)
behind done None = None
behind done (Some rs) = Some (done ++ rs)
