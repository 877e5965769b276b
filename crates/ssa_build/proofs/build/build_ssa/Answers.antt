use Rattle.std.proofs.Common.{sym, subst}
use Rattle.block_forms.specs.Live.{OnlyParametersLive}
use Rattle.block_forms.specs.Lowered.{BlockBelow}
use Rattle.block_forms.specs.Places.{Each}
use Rattle.ssa_build.proofs.build.build_ssa.Goals as goal

pub build_form-requires-clause-entry : goal.build_form-requires-clause-entry
build_form-requires-clause-entry c =
    let f = c.args.f.now in
    c.forms_lead_to_their_blocks.ensures.entry f.function f.slots c.args.g.now c.requires.lowered

pub build_form-requires-clause-targets : goal.build_form-requires-clause-targets
build_form-requires-clause-targets c =
    let f = c.args.f.now in
    c.forms_lead_to_their_blocks.ensures.targets f.function f.slots c.args.g.now c.requires.lowered

pub build_form-requires-clause-below : goal.build_form-requires-clause-below
build_form-requires-clause-below c =
    subst (λ slots. Each (BlockBelow slots) c.args.g.now.blocks) (sym c.len-2.ensures) c.requires.lowered.slots_below

pub build_form-requires-clause-no_way_in : goal.build_form-requires-clause-no_way_in
build_form-requires-clause-no_way_in c = c.requires.lowered.no_way_in

pub build_form-requires-clause-entry_live : goal.build_form-requires-clause-entry_live
build_form-requires-clause-entry_live c =
    subst (λ params. OnlyParametersLive params c.args.g.now) (sym c.len.ensures)
    (c.only_parameters_are_live_at_the_entry.ensures c.args.g.now c.requires.lowered)
