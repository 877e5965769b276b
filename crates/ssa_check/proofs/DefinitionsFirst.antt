-- Along every path from the entry a name has its value before it is read.
use Rattle.std.proofs.Common.{◌≡◌, ◌≢◌, ℕ, zero, suc, ◌<◌, Bool, true, false, ◌||◌, cond, List, [], ◌∷◌, slice_get, Option, Some, None, nat_eq, option_map, refl, sym, ap, ◌∙◌, subst}
use Rattle.std.proofs.lemmas.Bool.{eqb-true, eqb-false}
use Rattle.block_forms.specs.declared.forms.End.{End}
use Rattle.block_forms.specs.declared.forms.End.TheVariants.{Jump, Branch, Return, Fail}
use Rattle.block_forms.specs.declared.forms.Block.{Block}
use Rattle.block_forms.specs.declared.forms.Goto.{Goto}
use Rattle.block_forms.specs.declared.forms.Phi.{Phi}
use Rattle.block_forms.specs.declared.forms.SsaBlock.{SsaBlock}
use Rattle.block_forms.specs.declared.forms.Ssa.{Ssa}
use Rattle.block_forms.specs.Forms.{at_key, phi_named, taken_from, source, AtTargets}
use Rattle.block_forms.specs.Lowered.{end_leads}
use Rattle.block_forms.specs.Named.{Maps, MapOfParameters, EntryHas, exit_map, Gives, Feeds, Named}
use Rattle.block_forms.proofs.Keys.{each_at_key}
use Rattle.ssa_check.specs.Definitions.{phi, assignment, definition, Sets, HasOneDefinition, set_by, IsMapped, IsInSight, mapped, assigned, goes_to, IsPath, IsSetAfter, parameter, set_on, IsSetIn, earlier, by_phi, ReadsWhatIsSet}
use Rattle.ssa_check.proofs.InSight.{block_beside, assignment_mapped, end_mapped, exit_in_sight}
use Rattle.ssa_check.proofs.Predecessors.{end_leads_same}

-- ---- the first φ with a name

record NamedPhi (fs : List Phi) (n : ℕ) (f : Phi) : Type 0 where
  place : ℕ
  there : slice_get fs place ≡ Some f
  name : f.name ≡ n

phi_found : (fs : List Phi) (n : ℕ) (f : Phi) → phi_named fs n ≡ Some f → NamedPhi fs n f
phi_found [] n f e = absurd (cc)
phi_found (p ∷ ps) n f e = by_name (nat_eq p.name n) refl e (phi_found ps n f)
  where
    by_name : (t : Bool) → nat_eq p.name n ≡ t → cond t (Some p) (phi_named ps n) ≡ Some f → (phi_named ps n ≡ Some f → NamedPhi ps n f)
        → NamedPhi (p ∷ ps) n f
    by_name true q e further =
        let same : p ≡ f = cc in record { place = 0; there = ap (λ f. Some f) same; name = ap (λ (f : Phi). f.name) (sym same) ∙ eqb-true p.name n q }
    by_name false q e further = let rest = further e in record { place = suc rest.place; there = rest.there; name = rest.name }

no_phi_named : (fs : List Phi) (n i : ℕ) (f : Phi) → phi_named fs n ≡ None → slice_get fs i ≡ Some f → f.name ≢ n
no_phi_named [] n i f e there = absurd (cc)
no_phi_named (p ∷ ps) n i f e there = by_name (nat_eq p.name n) refl e (λ j e there. no_phi_named ps n j f e there)
  where
    at : (j : ℕ) → p.name ≢ n → ((k : ℕ) → slice_get ps k ≡ Some f → f.name ≢ n) → slice_get (p ∷ ps) j ≡ Some f → f.name ≢ n
    at zero other further there = λ same. let one : p ≡ f = cc in other (ap (λ (f : Phi). f.name) one ∙ same)
    at (suc j) other further there = further j there

    by_name : (t : Bool) → nat_eq p.name n ≡ t → cond t (Some p) (phi_named ps n) ≡ None
        → ((k : ℕ) → phi_named ps n ≡ None → slice_get ps k ≡ Some f → f.name ≢ n) → f.name ≢ n
    by_name true q e further = absurd (cc)
    by_name false q e further = at i (eqb-false p.name n q) (λ k there. further k e there) there

-- ---- edges

at_target : (P : ℕ → Type 0) (e : End) (c : ℕ) → AtTargets P e → end_leads e c ≡ true → P c
at_target P (Jump a) c p e = subst P (eqb-true a c e) p
at_target P (Branch t a b) c p e = either (nat_eq a c) (nat_eq b c) refl refl e
  where
    either : (x y : Bool) → nat_eq a c ≡ x → nat_eq b c ≡ y → (x || y) ≡ true → P c
    either true y q r e = subst P (eqb-true a c q) p.0
    either false true q r e = subst P (eqb-true b c r) p.1
    either false false q r e = absurd (cc)
at_target P (Return t) c p e = absurd (cc)
at_target P (Fail x) c p e = absurd (cc)

given : (o : Option ℕ) (n : ℕ) → Gives o (Some n) → o ≡ Some n
given None n gives = absurd gives
given (Some m) n gives = sym gives

going : (o : Option SsaBlock) (c : ℕ) → goes_to o c ≡ true → (y : SsaBlock) × (o ≡ Some y) × (end_leads y.end c ≡ true)
going None c e = absurd (cc)
going (Some y) c e = (y, refl, e)

module _ (slots params : ℕ) (g : Goto) (z : Ssa) (named : Named slots params g z) where
  -- what the edge from block b, whose blocks are x and y, gives to block c
  fed : (b c : ℕ) (x : Block) (y w : SsaBlock) → slice_get g.blocks b ≡ Some x → slice_get z.blocks b ≡ Some y → slice_get z.blocks c ≡ Some w
      → end_leads y.end c ≡ true → Feeds b (exit_map x y) (Some w)
  fed b c x y w at_x at_y at_w leads =
      let leads_too = end_leads_same (exit_map x y) x.end y.end c (named.blocks b x y at_x at_y).end ∙ leads in
      subst (Feeds b (exit_map x y)) at_w
      (at_target (λ c. Feeds b (exit_map x y) (slice_get z.blocks c)) x.end c (named.edges b x y at_x at_y).each leads_too)

  -- ---- along a path

  after : (before : List ℕ) (b n : ℕ) → IsSetIn params z before b n → IsSetAfter params z (b ∷ before) n
  after before b n (earlier (parameter less)) = parameter less
  after before b n (earlier (set_on s)) = set_on (record { definition = s.definition; sets = s.sets; place = suc s.place; on_path = s.on_path })
  after before b n (by_phi i sets) = set_on (record { definition = definition b (phi i); sets = sets; place = 0; on_path = refl })

  seen_after : (before : List ℕ) (b : ℕ) (y : SsaBlock) → slice_get z.blocks b ≡ Some y → ((n : ℕ) → IsMapped y.map n → IsSetIn params z before b n)
      → (n : ℕ) → IsInSight y n → IsSetAfter params z (b ∷ before) n
  seen_after before b y there further n (mapped m) = after before b n (further n m)
  seen_after before b y there further n (assigned e) =
      set_on (record { definition = definition b assignment; sets = ap (λ o. set_by o assignment) there ∙ e; place = 0; on_path = refl })

  entry_set : (o : Option SsaBlock) (y : SsaBlock) → o ≡ Some y → EntryHas (MapOfParameters params) o → (n : ℕ) → IsMapped y.map n → n < params
  entry_set None y e has n m = absurd has
  entry_set (Some w) y e has n m =
      let same : w ≡ y = cc in
      let own = each_at_key (λ i n. (i ≡ n) × (n < params)) w.map m.slot n has.parameters (ap (λ (w : SsaBlock). at_key w.map m.slot) same ∙ m.named) in
      own.1

  taken : (before : List ℕ) (b c : ℕ) (w : SsaBlock) (x : Block) (y : SsaBlock) → slice_get z.blocks c ≡ Some w
      → ((n : ℕ) → IsInSight y n → IsSetAfter params z (b ∷ before) n) → (n slot : ℕ) (o : Option Phi) → phi_named w.phis n ≡ o
      → Gives (at_key (exit_map x y) slot) (taken_from o b n) → IsSetIn params z (b ∷ before) c n
  taken before b c w x y there further n slot None e gives =
      earlier (further n (exit_in_sight x y slot n (given (at_key (exit_map x y) slot) n gives)))
  taken before b c w x y there further n slot (Some f) e gives =
      let p = phi_found w.phis n f e in
      by_phi p.place (ap (λ o. set_by o (phi p.place)) there ∙ (ap (option_map (λ (f : Phi). f.name)) p.there ∙ ap (λ n. Some n) p.name))

  -- each name of a block's map has its value as the block begins
  map_set : (before : List ℕ) (c : ℕ) (w : SsaBlock) → IsPath z g.entry before c → slice_get z.blocks c ≡ Some w → (n : ℕ) → IsMapped w.map n
      → IsSetIn params z before c n
  map_set [] c w path there n m =
      earlier (parameter (entry_set (slice_get z.blocks g.entry) w (ap (slice_get z.blocks) (sym path) ∙ there) named.entry n m))
  map_set (b ∷ before) c w path there n m =
      let y = going (slice_get z.blocks b) c path.0 in
      let x = block_beside slots params g z named b y.0 y.1 in
      let gives = each_at_key (λ i n. Gives (at_key (exit_map x.0 y.0) i) (source w.phis b n)) w.map m.slot n (fed b c x.0 y.0 w x.1 y.1 there y.2) m.named in
      let further = seen_after before b y.0 y.1 (λ n m. map_set before b y.0 path.1 y.1 n m) in
      taken before b c w x.0 y.0 there further n m.slot (phi_named w.phis n) refl gives

  -- ---- what the φs of a block take

  module _ (one : (n : ℕ) → HasOneDefinition z n) where
    -- a φ is the first with its name
    is_first : (c : ℕ) (w : SsaBlock) (i : ℕ) (f : Phi) → slice_get z.blocks c ≡ Some w → slice_get w.phis i ≡ Some f → (o : Option Phi)
        → phi_named w.phis f.name ≡ o → o ≡ Some f
    is_first c w i f there at None e = absurd (no_phi_named w.phis f.name i f e at refl)
    is_first c w i f there at (Some h) e =
        let p = phi_found w.phis f.name h e in
        let mine : Sets z.blocks (definition c (phi i)) f.name = ap (λ o. set_by o (phi i)) there ∙ ap (option_map (λ (f : Phi). f.name)) at in
        let its : Sets z.blocks (definition c (phi p.place)) f.name = ap (λ o. set_by o (phi p.place)) there ∙ (ap (option_map (λ (f : Phi). f.name)) p.there ∙ ap (λ n. Some n) p.name) in
        let same = one f.name (definition c (phi p.place)) (definition c (phi i)) its mine in
        let place : p.place ≡ i = cc in
        sym p.there ∙ (ap (slice_get w.phis) place ∙ at)

    slot_of_phi : (o : Option ℕ) (w : SsaBlock) (n : ℕ) → Maps w.map o n → IsMapped w.map n
    slot_of_phi None w n maps = absurd maps
    slot_of_phi (Some s) w n maps = record { slot = s; named = maps }

    operand_set : (before : List ℕ) (b c : ℕ) (x : Block) (y w : SsaBlock) → IsPath z g.entry before b → slice_get g.blocks b ≡ Some x
        → slice_get z.blocks b ≡ Some y → slice_get z.blocks c ≡ Some w → end_leads y.end c ≡ true → (i : ℕ) (f : Phi) → slice_get w.phis i ≡ Some f
        → (m : ℕ) → at_key f.operands b ≡ Some m → IsSetAfter params z (b ∷ before) m
    operand_set before b c x y w path at_x at_y at_w leads i f at m operand =
        let s = slot_of_phi (slice_get z.names f.name) w f.name ((named.maps c w at_w).phis_mapped i f at) in
        let gives = each_at_key (λ i n. Gives (at_key (exit_map x y) i) (source w.phis b n)) w.map s.slot f.name (fed b c x y w at_x at_y at_w leads) s.named in
        let first = is_first c w i f at_w at (phi_named w.phis f.name) refl in
        let takes : source w.phis b f.name ≡ Some m = ap (λ o. taken_from o b f.name) first ∙ operand in
        let exits = given (at_key (exit_map x y) s.slot) m (subst (Gives (at_key (exit_map x y) s.slot)) takes gives) in
        seen_after before b y at_y (λ n m. map_set before b y path at_y n m) m (exit_in_sight x y s.slot m exits)

    pub reads_what_is_set : (before : List ℕ) (b : ℕ) (y : SsaBlock) → IsPath z g.entry before b → slice_get z.blocks b ≡ Some y
        → ReadsWhatIsSet params z before b y
    reads_what_is_set before b y path there =
        let x = block_beside slots params g z named b y there in
        let renamed = named.blocks b x.0 y x.1 there in
        record {
          assignment = λ i n e. map_set before b y path there n (assignment_mapped z.names y.map x.0.set y.set renamed.set i n e);
          end = λ i n e. let m = end_mapped (exit_map x.0 y) x.0.end y.end renamed.end i n e in seen_after before b y there (λ n m. map_set before b y path there n m) n (exit_in_sight x.0 y m.slot n m.named);
          phis = λ c w at_w i f at m operand leads. operand_set before b c x.0 y w path x.1 there at_w leads i f at m operand;
        }
