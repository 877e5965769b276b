use Rattle.std.proofs.Common.{◌≡◌, drop}
use Rattle.std.specs.List.{list_any}
use Rattle.moved_names.specs.Seeking.{sought}
use Rattle.moved_names.specs.Words.{in_decl}
use Rattle.moved_names.proofs.words.in_decls.Given as goal

abbrev pub invariant-loop-d : goal.invariant-loop-d
invariant-loop-d l = list_any (in_decl (sought l.s)) l.decls ≡ list_any (in_decl (sought l.s)) (drop l.d-index l.decls)
