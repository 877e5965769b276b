-- What a block reads is in its map, or is what it assigns.
use Rattle.std.proofs.Common.{◌≡◌, ℕ, zero, suc, ◌<◌, Bool, true, false, cond, List, [], ◌∷◌, length, slice_get, Some, None, nat_eq, option_map, refl, ap, ◌∙◌, arith}
use Rattle.std.proofs.lemmas.Option.{slice_get_within}
use Rattle.block_forms.specs.declared.forms.Term.{Term}
use Rattle.block_forms.specs.declared.forms.End.{End}
use Rattle.block_forms.specs.declared.forms.End.TheVariants.{Jump, Branch, Return, Fail}
use Rattle.block_forms.specs.declared.forms.Block.{Block}
use Rattle.block_forms.specs.declared.forms.Goto.{Goto}
use Rattle.block_forms.specs.declared.forms.SsaBlock.{SsaBlock}
use Rattle.block_forms.specs.declared.forms.Ssa.{Ssa}
use Rattle.block_forms.specs.Forms.{Assignment, Pairs, at_key}
use Rattle.block_forms.specs.Named.{Renamed, AssignmentRenamed, EndRenamed, renewal, with_pair, exit_map, BlockRenamed, Named}
use Rattle.block_forms.specs.Places.{Each}
use Rattle.ssa_check.specs.Definitions.{read_by, read_at_end, IsMapped, IsInSight, mapped, assigned, ReadsInSight}

at_place : {X : Type 0} (xs : List X) (i : ℕ) → i < length xs → (x : X) × (slice_get xs i ≡ Some x)
at_place [] i lt = absurd (omega arith)
at_place (x ∷ xs) zero lt = (x, refl)
at_place (x ∷ xs) (suc i) lt = at_place xs i (omega arith)

-- the block of the goto form beside one of the SSA form
pub block_beside : (slots params : ℕ) (g : Goto) (z : Ssa) → Named slots params g z → (b : ℕ) (y : SsaBlock) → slice_get z.blocks b ≡ Some y
    → (x : Block) × (slice_get g.blocks b ≡ Some x)
block_beside slots params g z named b y e = at_place g.blocks b (omega (arith, slice_get_within z.blocks b y e, named.as_many_blocks))

-- ---- each name of a renamed term is in the map

names_mapped : (m : Pairs) (slots names : List ℕ) → Renamed m slots names → Each (IsMapped m) names
names_mapped m slots names r i n e =
    let s = at_place slots i (omega (arith, slice_get_within names i n e, r.as_many)) in
    record { slot = s.0; named = r.each i s.0 n s.1 e }

none_read : (m : Pairs) → Each (IsMapped m) []
none_read m i n e = absurd (cc)

pub assignment_mapped : (names : List ℕ) (m : Pairs) (p q : Assignment) → AssignmentRenamed names m p q → Each (IsMapped m) (read_by q)
assignment_mapped names m None None r = none_read m
assignment_mapped names m None (Some q) r = absurd r
assignment_mapped names m (Some p) None r = absurd r
assignment_mapped names m (Some p) (Some q) r = names_mapped m p.1.names q.1.names r.1.names

pub end_mapped : (m : Pairs) (e e' : End) → EndRenamed m e e' → Each (IsMapped m) (read_at_end e')
end_mapped m (Jump c) (Jump d) r = none_read m
end_mapped m (Branch t c d) (Branch u c' d') r = names_mapped m t.names u.names r.0.names
end_mapped m (Return t) (Return u) r = names_mapped m t.names u.names r.names
end_mapped m (Fail c) (Fail d) r = none_read m
end_mapped m (Jump c) (Branch u c' d') r = absurd r
end_mapped m (Jump c) (Return u) r = absurd r
end_mapped m (Jump c) (Fail d) r = absurd r
end_mapped m (Branch t c d) (Jump c') r = absurd r
end_mapped m (Branch t c d) (Return u) r = absurd r
end_mapped m (Branch t c d) (Fail x) r = absurd r
end_mapped m (Return t) (Jump c') r = absurd r
end_mapped m (Return t) (Branch u c' d') r = absurd r
end_mapped m (Return t) (Fail x) r = absurd r
end_mapped m (Fail x) (Jump c') r = absurd r
end_mapped m (Fail x) (Branch u c' d') r = absurd r
end_mapped m (Fail x) (Return u) r = absurd r

-- ---- each name of the exit map is in sight

exit_seen : (y : SsaBlock) (p q : Assignment) → y.set ≡ q → (slot n : ℕ) → at_key (with_pair (renewal p q) y.map) slot ≡ Some n → IsInSight y n
exit_seen y None q same slot n e = mapped (record { slot = slot; named = e })
exit_seen y (Some p) None same slot n e = mapped (record { slot = slot; named = e })
exit_seen y (Some p) (Some q) same slot n e = by_slot (nat_eq p.0 slot) e
  where
    by_slot : (b : Bool) → cond b (Some q.0) (at_key y.map slot) ≡ Some n → IsInSight y n
    by_slot true e = assigned (ap (option_map (λ (a : ℕ × Term). a.0)) same ∙ e)
    by_slot false e = mapped (record { slot = slot; named = e })

pub exit_in_sight : (x : Block) (y : SsaBlock) (slot n : ℕ) → at_key (exit_map x y) slot ≡ Some n → IsInSight y n
exit_in_sight x y slot n e = exit_seen y x.set y.set refl slot n e

pub reads_in_sight : (names : List ℕ) (x : Block) (y : SsaBlock) → BlockRenamed names x y → ReadsInSight y
reads_in_sight names x y r = record {
  assignment = assignment_mapped names y.map x.set y.set r.set;
  end = λ i n e. let m = end_mapped (exit_map x y) x.end y.end r.end i n e in exit_in_sight x y m.slot n m.named;
}
