use Rattle.std.proofs.Common.{◌≡◌, drop, fold}
use Rattle.call_expand.specs.Moving.{moved_decls, with_decl}
use Rattle.call_expand.proofs.heads.moved_decls.Given as goal

abbrev pub invariant-loop-d : goal.invariant-loop-d
invariant-loop-d l = fold (with_decl l.names) (record { it = l.it; variables = l.variables; next = l.at }) (drop l.d-index l.decls) ≡ moved_decls l.names l.decls l.seen l.k
