use Rattle.std.proofs.Common.{◌≡◌, ◌++◌, length, take, drop, refl, sym, ap, ◌∙◌, arith}
use Rattle.std.proofs.Math.Seq.{take-append_seam}
use Rattle.ssa_build.specs.JoinPlaces.{joins_of, names_of}
use Rattle.ssa_build.specs.Joins.{walk}
use Rattle.ssa_build.proofs.Merge.{merged_whole}
use Rattle.ssa_build.proofs.Sweep.{roots_most}
use Rattle.ssa_build.proofs.joins.merge_joins.Goals as goal

pub merge_all-merges-requires-clause-room : goal.merge_all-merges-requires-clause-room
merge_all-merges-requires-clause-room c = roots_most c.deref_mut.result.now 0

pub returns : goal.returns
returns c =
    let x = c.args.joins.now in
    let new = c.merge_all-merges.new.into in
    let rest = drop (length new) c.in_ok-into.into.items in
    let long : c.in_ok-into.into.len ≡ length new = sym (c.merge_all-merges.auto.into ∙ c.deref_mut.ensures.len) in
    let same : take c.in_ok-into.into.len (new ++ rest) ≡ new = ap (λ n. take n (new ++ rest)) long ∙ take-append_seam new rest in
    let h : length c.loop-name.whole.items ≡ length (names_of x) = omega (arith, c.loop-name.invariant.0, c.loop-name-test.false, c.loop-name.auto.name-end, c.len-count.ensures) in
    merged_whole (names_of x) (joins_of x) new c.loop-name.whole.items c.merge_all-merges.result c.requires.are.formed c.merge_all-merges.ensures.merging (c.merge_all-merges.ensures.reduced refl) h
    (λ n lt. c.loop-name.invariant.1 n (omega (arith, lt, h, c.loop-name.invariant.0)) ∙ ap (λ xs. walk xs c.merge_all-merges.result n) same)
