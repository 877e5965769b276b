use Rattle.std.proofs.Common.{subst}
use Rattle.ssa_build.specs.declared.full.FullForm.{FullForm}
use Rattle.ssa_build.specs.Names.{NamesBelow}
use Rattle.block_graph.specs.Tables.{live_by}
use Rattle.ssa_build.proofs.Sized.{all_sized}
use Rattle.ssa_build.proofs.full.full_form.Goals as goal

pub returns-clause-tables : goal.returns-clause-tables
returns-clause-tables c =
    let l = c.args.layout in
    let g = c.args.blocks.now in
    let n = c.in_ok-names.names in
    let f : FullForm = record { layout = l; live = c.in_ok-live.live; names = n; sources = c.in_ok-sources.sources } in
    let names = subst (λ v. NamesBelow l (live_by v) g l.blocks n.slots.items n.phis.items n.sets.items) c.deref.ensures.value c.in_ok-names.ensures in
    record {
      is_layout = c.requires.is_layout;
      sized = c.requires.sized;
      tables = all_sized g f c.requires.is_layout c.in_ok-live.ensures.0 names;
      live = c.in_ok-live.ensures.1;
      names = names;
      sources = c.in_ok-sources.ensures;
    }
