use Rattle.std.proofs.Common.{◌≡◌, ◌<◌, ◌^◌, List, length, refl, sym, ap, ◌∙◌, subst}
use Rattle.block_forms.specs.Named.{Named}
use Rattle.ssa_build.specs.FullJoins.{joins_at, joins_below}
use Rattle.ssa_build.specs.Joins.{Join, Merged}
use Rattle.ssa_build.specs.Numbers.{Numbers}
use Rattle.ssa_build.specs.SetNames.{NamesAreSet}
use Rattle.ssa_build.proofs.JoinPlaces.{are_joins, joins_at_places}
use Rattle.ssa_build.proofs.Whole.{Held, held, joins_formed, names_short, new_blocks_held, ssa, whole_named, whole_neat, whole_set}
use Rattle.ssa_build.proofs.build.build_form.Goals as goal

pub merge_joins-requires-clause-are : goal.merge_joins-requires-clause-are
merge_joins-requires-clause-are c =
    let g = c.args.g.now in
    let r = c.requires in
    let full = c.in_ok-full.full in
    let blocks = c.as_slice-goto_blocks.result.now in
    let joins : List Join = joins_below full blocks full.layout.blocks in
    let h : Held g full joins = held g full joins c.args.layout blocks c.in_ok-full.ensures.layout c.as_slice-goto_blocks.ensures c.in_ok-full.ensures.tables r.entered r.entry r.targets r.below r.no_way_in r.entry_live refl in
    are_joins _ c.in_ok-full.ensures.tables (c.deref.ensures.value ∙ c.in_ok-places.ensures) (joins_formed g full joins h)

pub merge_joins-requires-clause-short : goal.merge_joins-requires-clause-short
merge_joins-requires-clause-short c =
    let g = c.args.g.now in
    let r = c.requires in
    let full = c.in_ok-full.full in
    let blocks = c.as_slice-goto_blocks.result.now in
    let joins : List Join = joins_below full blocks full.layout.blocks in
    let h : Held g full joins = held g full joins c.args.layout blocks c.in_ok-full.ensures.layout c.as_slice-goto_blocks.ensures c.in_ok-full.ensures.tables r.entered r.entry r.targets r.below r.no_way_in r.entry_live refl in
    names_short g full joins h

pub number_roots-requires-clause-short : goal.number_roots-requires-clause-short
number_roots-requires-clause-short c =
    let g = c.args.g.now in
    let r = c.requires in
    let full = c.in_ok-full.full in
    let blocks = c.as_slice-goto_blocks.result.now in
    let joins : List Join = joins_below full blocks full.layout.blocks in
    let h : Held g full joins = held g full joins c.args.layout blocks c.in_ok-full.ensures.layout c.as_slice-goto_blocks.ensures c.in_ok-full.ensures.tables r.entered r.entry r.targets r.below r.no_way_in r.entry_live refl in
    subst (λ v. length v < 2 ^ 32) (sym c.deref-2.ensures.value) (names_short g full joins h)

pub returns : goal.returns
returns c =
    let g = c.args.g.now in
    let r = c.requires in
    let full = c.in_ok-full.full in
    let blocks = c.as_slice-goto_blocks.result.now in
    let joins : List Join = joins_below full blocks full.layout.blocks in
    let into = c.in_ok-into.into.items in
    let numbers = c.in_ok-numbering.numbering.numbers.items in
    let names = c.in_ok-numbering.numbering.names in
    let ys = c.in_ok-written.written in
    let e = c.in_ok-full.ensures.layout in
    let h : Held g full joins = held g full joins c.args.layout blocks e c.as_slice-goto_blocks.ensures c.in_ok-full.ensures.tables r.entered r.entry r.targets r.below r.no_way_in r.entry_live refl in
    let placed : joins_at full blocks c.deref.result.now ≡ joins = ap (joins_at full blocks) (c.deref.ensures.value ∙ c.in_ok-places.ensures) ∙ joins_at_places full blocks full.layout.blocks in
    let merged : Merged full.names.slots.items joins into = subst (λ v. Merged full.names.slots.items v into) placed c.in_ok-into.ensures in
    let numbered : Numbers full.names.slots.items into numbers names = subst (λ v. Numbers v into numbers names) c.deref-2.ensures.value (subst (λ v. Numbers c.deref-2.result.now v numbers names) c.deref-3.ensures.value c.in_ok-numbering.ensures) in
    let written = new_blocks_held g full ys c.as_slice-goto_blocks.ensures c.deref-4.ensures.value c.deref-5.ensures.value c.in_ok-written.ensures in
    record {
      named = subst (λ v. Named v.slots v.params g (ssa names ys)) e (whole_named g full joins h into numbers names ys merged numbered written);
      neat = whole_neat g full joins h into numbers names ys merged numbered written;
      used = subst (λ v. NamesAreSet v.slots (ssa names ys)) e (whole_set g full joins h into numbers names ys merged numbered written);
    }
