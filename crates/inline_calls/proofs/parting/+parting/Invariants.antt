use Rattle.std.proofs.Common.{◌≡◌, ◌++◌, drop}
use Rattle.inline_calls.specs.Parting.{over, parted_all, parted_arms, parted_links}
use Rattle.inline_calls.proofs.parting.+parting.Given as goal

abbrev pub invariant-parted_all-loop-e : goal.invariant-parted_all-loop-e
invariant-parted_all-loop-e l = over (λ xs. l.done ++ xs) (parted_all l.f (drop l.e-index l.es) l.calls) ≡ parted_all l.f l.es l.initial.calls

abbrev pub invariant-parted_links-loop-link : goal.invariant-parted_links-loop-link
invariant-parted_links-loop-link l = over (λ xs. l.done ++ xs) (parted_links l.f (drop l.link-index l.links) l.calls) ≡ parted_links l.f l.links l.initial.calls

abbrev pub invariant-parted_arms-loop-arm : goal.invariant-parted_arms-loop-arm
invariant-parted_arms-loop-arm l = over (λ xs. l.done ++ xs) (parted_arms l.f (drop l.arm-index l.arms) l.calls) ≡ parted_arms l.f l.arms l.initial.calls
