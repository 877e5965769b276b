-- The full form of the names that are given, and the form that is written.
use Rattle.std.specs.Prelude.{ℕ, List}
use Rattle.ssa_build.specs.declared.full.FullForm.{FullForm}
use Rattle.ssa_build.specs.Forms.{Block, Ssa}
use Rattle.ssa_build.specs.FullForms.{live_in, phi_name, set_name}
use Rattle.ssa_build.specs.Maximal.{full}
use Rattle.ssa_build.specs.Merging.{is_end, new_name, replacing}
use Rattle.ssa_build.proofs.Merges.{replaced}

abbrev pub full_form : FullForm → List Block → Ssa
full_form f g = full f.layout.slots f.layout.entry g (live_in f) (phi_name f) (set_name f) f.names.slots.items

abbrev pub built_form : FullForm → List Block → List ℕ → List ℕ → List ℕ → Ssa
built_form f g into numbers names = replaced (new_name into numbers) (is_end (replacing into)) names (full_form f g)
