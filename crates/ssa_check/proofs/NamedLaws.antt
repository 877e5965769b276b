-- What Named says of definitions and uses.
use Rattle.std.proofs.Common.{◌≡◌, ℕ, ◌<◌, ◌≤◌, Bool, true, false, length, slice_get, Option, Some, None, nat_lt, option_map, refl, arith}
use Rattle.std.proofs.lemmas.Bool.{ltb-true, ltb-false}
use Rattle.std.proofs.lemmas.Option.{slice_get_within}
use Rattle.block_forms.specs.declared.forms.Term.{Term}
use Rattle.block_forms.specs.declared.forms.Goto.{Goto}
use Rattle.block_forms.specs.declared.forms.Phi.{Phi}
use Rattle.block_forms.specs.declared.forms.SsaBlock.{SsaBlock}
use Rattle.block_forms.specs.declared.forms.Ssa.{Ssa}
use Rattle.block_forms.specs.Forms.{Assignment, Pairs}
use Rattle.block_forms.specs.Named.{AssignmentRenamed, EntryHas, Maps, MapOfParameters, Named}
use Rattle.ssa_check.specs.Definitions.{Part, phi, assignment, Definition, set_by, Sets, HasOneDefinition, HasNoPhi}
use Rattle.ssa_check.proofs.OneDefinition.{definition_counts, one_definition}
use Rattle.ssa_check.proofs.InSight.{block_beside}

module _ (slots params : ℕ) (g : Goto) (z : Ssa) (named : Named slots params g z) where
  -- ---- a name that is set is a name of the form

  mapped_within : (m : Pairs) (o : Option ℕ) (n : ℕ) → slice_get z.names n ≡ o → Maps m o n → n < length z.names
  mapped_within m None n e maps = absurd maps
  mapped_within m (Some s) n e maps = slice_get_within z.names n s e

  phi_within : (y : SsaBlock) (b : ℕ) → slice_get z.blocks b ≡ Some y → (i n : ℕ) (o : Option Phi) → slice_get y.phis i ≡ o
      → option_map (λ (f : Phi). f.name) o ≡ Some n → n < length z.names
  phi_within y b there i n None at e = absurd (cc)
  phi_within y b there i n (Some f) at e =
      let less = mapped_within y.map (slice_get z.names f.name) f.name refl ((named.maps b y there).phis_mapped i f at) in
      let name : f.name ≡ n = cc in
      omega (arith, less, name)

  assigned_within : (m : Pairs) (p q : Assignment) (n : ℕ) → AssignmentRenamed z.names m p q → option_map (λ (a : ℕ × Term). a.0) q ≡ Some n
      → n < length z.names
  assigned_within m None None n r e = absurd (cc)
  assigned_within m None (Some q) n r e = absurd r
  assigned_within m (Some p) None n r e = absurd r
  assigned_within m (Some p) (Some q) n r e =
      let less = slice_get_within z.names q.0 p.0 r.0 in
      let name : q.0 ≡ n = cc in
      omega (arith, less, name)

  part_within : (b : ℕ) (o : Option SsaBlock) → slice_get z.blocks b ≡ o → (p : Part) (n : ℕ) → set_by o p ≡ Some n → n < length z.names
  part_within b None there p n e = absurd (cc)
  part_within b (Some y) there (phi i) n e = phi_within y b there i n (slice_get y.phis i) refl e
  part_within b (Some y) there assignment n e =
      let x = block_beside slots params g z named b y there in assigned_within y.map x.0.set y.set n (named.blocks b x.0 y x.1 there).set e

  -- ---- definitions

  pub has_one : (n : ℕ) → HasOneDefinition z n
  has_one n d e sets sets' =
      one_definition z.blocks d.block e.block d.part e.part n
      (named.names.set_once n (part_within d.block (slice_get z.blocks d.block) refl d.part n sets)) sets sets'

  pub parameters_unset : (d : Definition) (n : ℕ) → Sets z.blocks d n → params ≤ n
  parameters_unset d n sets = by_order (nat_lt n params) refl
    where
      by_order : (t : Bool) → nat_lt n params ≡ t → params ≤ n
      by_order true e =
          absurd (omega (arith, named.names.parameters_unset n (ltb-true n params e), definition_counts z.blocks d.block d.part n sets))
      by_order false e = ltb-false n params e

  -- ---- the entry

  pub no_phi : (o : Option SsaBlock) → EntryHas (MapOfParameters params) o → HasNoPhi o
  no_phi None has = has
  no_phi (Some y) has = has.no_phi
