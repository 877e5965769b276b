use Rattle.std.proofs.Common.{◌≡◌, ◌<◌, ◌+◌, length, get_or, sym, ap, ◌∙◌, subst}
use Rattle.ssa_build.specs.FullJoins.{join_at}
use Rattle.ssa_build.specs.Joins.{IsRoot, Join, walk}
use Rattle.ssa_build.proofs.Found.{SoFar, next_none, next_same, next_some, two}
use Rattle.ssa_build.proofs.JoinPlaces.{as_many, operand_from, source_in}
use Rattle.ssa_build.proofs.Walks.{walk_within}
use Rattle.ssa_build.proofs.joins.joined_names.Goals as goal
use Rattle.ssa_build.proofs.joins.joined_names.Goals.{then-name-joined+in-None, then-name-joined+in-Some+else-m-name, else-name-joined}

pub name_after-operand-requires-clause-block_in : goal.name_after-operand-requires-clause-block_in
name_after-operand-requires-clause-block_in c =
    source_in c.args.joins.now c.requires.are c.args.place c.requires.place_in c.index.result.now c.as_slice-source-items.result.now c.index.ensures c.as_slice-source-items.ensures c.loop-source.source-index c.loop-source-test.true

pub root-name-requires-clause-here : goal.root-name-requires-clause-here
root-name-requires-clause-here c =
    let x = c.args.joins.now in
    let p = c.args.place in
    let j : Join = join_at x.full.now x.blocks.now p in
    let sources = c.as_slice-source-items.result.now in
    let i = c.loop-source.source-index in
    let lt : i < length j.operands = subst (λ v. i < v) (sym (as_many x c.requires.are p c.requires.place_in c.index.result.now sources c.index.ensures c.as_slice-source-items.ensures)) c.loop-source-test.true in
    subst (λ v. v < length c.args.into.now) (operand_from x c.requires.are p c.requires.place_in c.index.result.now sources c.index.ensures c.as_slice-source-items.ensures i c.loop-source-test.true ∙ sym c.name_after-operand.ensures) (c.requires.operands i lt)

pub returns-then-m-name : goal.returns-then-m-name
returns-then-m-name c =
    let x = c.args.joins.now in
    let p = c.args.place in
    let into = c.args.into.now in
    let merges = c.args.merges in
    let j : Join = join_at x.full.now x.blocks.now p in
    let sources = c.as_slice-source-items.result.now in
    let i = c.loop-source.source-index in
    let r = c.root-name.result in
    let lt : i < length j.operands = subst (λ v. i < v) (sym (as_many x c.requires.are p c.requires.place_in c.index.result.now sources c.index.ensures c.as_slice-source-items.ensures)) c.loop-source-test.true in
    let from = operand_from x c.requires.are p c.requires.place_in c.index.result.now sources c.index.ensures c.as_slice-source-items.ensures i c.loop-source-test.true ∙ sym c.name_after-operand.ensures in
    let is : walk into merges (get_or j.operands i 0) ≡ r = ap (λ v. walk into merges v) from ∙ sym c.root-name.ensures in
    two into merges j i r is c.loop-source.only c.in-Some.m c.in-Some.is c.loop-source.invariant lt (λ e. c.if-name-joined.true (e ∙ sym c.phi_name-joined.ensures)) c.if-m-name.true

pub loop-source-preserved : goal.loop-source-preserved
loop-source-preserved c =
    let x = c.args.joins.now in
    let p = c.args.place in
    let into = c.args.into.now in
    let merges = c.args.merges in
    let j : Join = join_at x.full.now x.blocks.now p in
    let sources = c.as_slice-source-items.result.now in
    let i = c.loop-source.source-index in
    let r = c.root-name.result in
    let so = c.loop-source.invariant in
    let lt : i < length j.operands = subst (λ v. i < v) (sym (as_many x c.requires.are p c.requires.place_in c.index.result.now sources c.index.ensures c.as_slice-source-items.ensures)) c.loop-source-test.true in
    let from = operand_from x c.requires.are p c.requires.place_in c.index.result.now sources c.index.ensures c.as_slice-source-items.ensures i c.loop-source-test.true ∙ sym c.name_after-operand.ensures in
    let is : walk into merges (get_or j.operands i 0) ≡ r = ap (λ v. walk into merges v) from ∙ sym c.root-name.ensures in
    let in' : get_or j.operands i 0 < length into = c.requires.operands i lt in
    let r_in : r < length into = subst (λ v. v < length into) is (walk_within into merges (get_or j.operands i 0) c.requires.within in') in
    let r_root : IsRoot into r = subst (λ v. IsRoot into v) is (c.requires.rooted (get_or j.operands i 0) in') in
    let name : c.phi_name-joined.result ≡ j.name = c.phi_name-joined.ensures in
    elim c.if-name-joined.branch [
      | then-name-joined+in-None w ↦ subst (λ o. SoFar into merges j (i + 1) o) (sym w.only-is) (next_none into merges j i r is c.loop-source.only w.in-None.is so (λ e. w.if-name-joined.true (e ∙ sym name)) r_in r_root)
      | then-name-joined+in-Some+else-m-name w ↦ subst (λ o. SoFar into merges j (i + 1) o) (sym w.only-is) (next_some into merges j i r is c.loop-source.only w.in-Some.m w.in-Some.is so (sym w.if-m-name.false))
      | else-name-joined w ↦ subst (λ o. SoFar into merges j (i + 1) o) (sym w.only-is) (next_same into merges j i r is c.loop-source.only so (w.if-name-joined.false ∙ name))
    ]
