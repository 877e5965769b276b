use Rattle.std.proofs.Common.{◌≡◌, ◌<◌, ℕ, true, set, length, get_or, refl, sym, ap, ◌∙◌, subst}
use Rattle.ssa_build.specs.JoinPlaces.{joins_of, names_of}
use Rattle.ssa_build.specs.Joins.{Join, JoinsAtMost, Settled}
use Rattle.ssa_build.proofs.JoinPlaces.{join_here, join_of, place_here}
use Rattle.block_graph.proofs.Lists.{some_same}
use Rattle.ssa_build.proofs.Settle.{settled_itself, settled_one}
use Rattle.ssa_build.proofs.joins.settle.Goals as goal

pub bounds-into-name : goal.bounds-into-name
bounds-into-name c =
    let x = c.args.joins.now in
    let at = c.args.at in
    let into = c.args.into.now in
    subst (λ v. v < length into) (sym c.phi_name-name.ensures) (subst (λ v. (join_of x at).name < v) (sym c.requires.merging.sized) (c.requires.are.formed.name at (join_of x at) (join_here x at c.requires.here)))

pub bounds-into-name-in-Itself : goal.bounds-into-name-in-Itself
bounds-into-name-in-Itself c =
    let x = c.args.joins.now in
    let at = c.args.at in
    let into = c.args.into.now in
    subst (λ v. v < length into) (sym c.phi_name-name.ensures) (subst (λ v. (join_of x at).name < v) (sym c.requires.merging.sized) (c.requires.are.formed.name at (join_of x at) (join_here x at c.requires.here)))

pub joined_names-requires-clause-place_in : goal.joined_names-requires-clause-place_in
joined_names-requires-clause-place_in c = place_here c.args.joins.now c.args.at c.requires.here c.requires.are

pub joined_names-requires-clause-operands : goal.joined_names-requires-clause-operands
joined_names-requires-clause-operands c =
    let x = c.args.joins.now in
    let at = c.args.at in
    λ k lt. subst (λ v. get_or (join_of x at).operands k 0 < v) (sym c.requires.merging.sized) (c.requires.are.formed.operand at (join_of x at) k (join_here x at c.requires.here) lt).0

pub returns-then-into-name : goal.returns-then-into-name
returns-then-into-name c =
    let x = c.args.joins.now in
    let at = c.args.at in
    let n = c.phi_name-name.result in (
      refl,
      λ j h root m all.
          let e : n ≡ j.name = c.phi_name-name.ensures ∙ ap (λ (v : Join). v.name) (some_same (sym (join_here x at c.requires.here) ∙ h)) in
          c.if-into-name.true (subst (λ v. get_or c.args.into.now v 0 ≡ v) (sym e) root),
    )

pub returns-in-Several : goal.returns-in-Several
returns-in-Several c =
    let x = c.args.joins.now in
    let at = c.args.at in
    (refl, λ j h root. subst (λ (v : Join). (m : ℕ) → JoinsAtMost c.args.into.now c.args.merges v m → ⊥) (some_same (sym (join_here x at c.requires.here) ∙ h)) c.in-Several.ensures)

pub returns-in-One : goal.returns-in-One
returns-in-One c =
    let x = c.args.joins.now in
    let at = c.args.at in
    let into = c.args.into.now in
    let e = c.phi_name-name.ensures in
    subst (λ v. Settled (names_of x) (joins_of x) at into (set into v c.in-One.m) c.args.merges true) (sym e)
    (settled_one (names_of x) (joins_of x) into c.args.merges c.requires.are.formed c.requires.merging at (join_of x at) (join_here x at c.requires.here) (subst (λ v. get_or into v 0 ≡ v) e c.if-into-name.false) c.in-One.m c.in-One.ensures)

pub returns-in-Itself : goal.returns-in-Itself
returns-in-Itself c =
    let x = c.args.joins.now in
    let at = c.args.at in
    let into = c.args.into.now in
    let e = c.phi_name-name.ensures in
    subst (λ v. Settled (names_of x) (joins_of x) at into (set into v (join_of x at).spare) c.args.merges true) (sym e)
    (settled_itself (names_of x) (joins_of x) into c.args.merges c.requires.are.formed c.requires.merging at (join_of x at) (join_here x at c.requires.here) (subst (λ v. get_or into v 0 ≡ v) e c.if-into-name.false) c.in-Itself.ensures)
