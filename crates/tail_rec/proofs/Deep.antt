-- The depths of what is reached are those of the relation, and a label that is not firm would have a depth of sixteen.
use Rattle.std.proofs.Common.{◌≡◌, ◌≢◌, ℕ, zero, suc, ◌<◌, Bool, true, false, List, length, Some, refl, sym, ap, ◌∙◌, subst, inl, inr, arith}
use Rattle.std.specs.Prelude.{slice_get}
use Rattle.std.proofs.lemmas.Option.{same_Some}
use Rattle.block_forms.specs.Places.{In}
use Rattle.call_forms.specs.Called.{Among}
use Rattle.call_forms.specs.declared.forms.AnfBlock.{AnfBlock}
use Rattle.call_forms.specs.declared.forms.Anf.{Anf}
use Rattle.call_forms.specs.Tight.{DepthAfter, DepthWithin, CalledAtDepth, HasDepth, without}
use Rattle.tail_rec.specs.declared.walk.Reached.{Reached}
use Rattle.tail_rec.specs.Walk.{reached, after_end, after_block, after, walked, labels_among}
use Rattle.tail_rec.proofs.Lists.{in_place, place_in, same_place}
use Rattle.tail_rec.proofs.Labelled.{among_in, in_among, in_without, from_without, label_from, label_in}
use Rattle.tail_rec.proofs.OneCaller.{depth_target}
use Rattle.tail_rec.proofs.Steps.{block_of, How, goes_on, stops, has}
use Rattle.tail_rec.proofs.Walks.{Setting, Follows, Parent, origin, walk_differs, closed, firm_reached, all_shallow}

false_true : {b : Bool} → b ≡ false → b ≡ true → ⊥
false_true p q = cc

module _ (a : Anf) (firm : ℕ → Bool) (s : Setting firm a.blocks) where
  abbrev W : List Reached
  W = walked firm a.blocks (length a.blocks)

  abbrev L : List ℕ
  L = labels_among (walked firm a.blocks (length a.blocks))

  same_reached : (r u : Reached) → In W r → In W u → r.block ≡ u.block → r ≡ u
  same_reached r u i j e =
      let p = place_in W r i in
      let q = place_in W u j in
      let place = same_place block_of W p.0 q.0 r u (walk_differs firm a.blocks s (length a.blocks)) p.1 q.1 e in
      same_Some r u (sym p.1 ∙ (ap (slice_get W) place ∙ q.1))

  -- ---- what has a depth is reached with it

  record AtDepth (b d : ℕ) : Type 0 where
    entry : Reached
    there : In W entry
    block : entry.block ≡ b
    depth : entry.depth ≡ d

  after_is : (q : Reached) (c above : ℕ) (x : AnfBlock) → q.block ≡ c → q.depth ≡ above → slice_get a.blocks c ≡ Some x
      → after firm a.blocks q ≡ after_end firm above x.end
  after_is q c above x p d e =
      ap (λ c. after_block firm q.depth (slice_get a.blocks c)) p ∙ (ap (after_block firm q.depth) e ∙ ap (λ d. after_end firm d x.end) d)

  called : (b d : ℕ) (h : CalledAtDepth (λ c e. AtDepth c e) a L b d) → (t : Bool) → firm b ≡ t → AtDepth b d
  called b d h true e =
      let lt = depth_target (λ b. b < length a.blocks) h.block.end b h.above d (s.targets h.caller h.block h.there) h.after in
      absurd (h.no_label (in_among L b (label_in W (reached b 0 true) (firm_reached firm a.blocks s b lt e) refl)))
  called b d h false e =
      let q = h.of_caller in
      let step : after firm a.blocks q.entry ≡ after_end firm h.above h.block.end = after_is q.entry h.caller h.above h.block q.block q.depth h.there in
      elim (has firm h.block.end h.above b d e h.after) [
        | inl i ↦
            record {
              entry = reached b d false;
              there = closed firm a.blocks s q.entry (reached b d false) q.there (subst (λ rs. In rs (reached b d false)) (sym step) i);
              block = refl;
              depth = refl;
            }
        | inr i ↦
            absurd (h.no_label (in_among L b (label_in W (reached b 0 true)
            (closed firm a.blocks s q.entry (reached b 0 true) q.there (subst (λ rs. In rs (reached b 0 true)) (sym step) i)) refl)))
      ]

  at_depth : (k b d : ℕ) → DepthWithin a L k b d → AtDepth b d
  at_depth zero b d h =
      let f = label_from W b (among_in L b h.0) in
      record {
        entry = f.entry;
        there = f.there;
        block = f.same;
        depth = (all_shallow firm a.blocks s (length a.blocks) f.entry f.there).of_label f.label ∙ sym h.1;
      }
  at_depth (suc k) b d h =
      called b d (record {
        no_label = h.no_label;
        caller = h.caller;
        block = h.block;
        there = h.there;
        above = h.above;
        of_caller = at_depth k h.caller h.above h.of_caller;
        after = h.after;
      }) (firm b) refl

  pub depth_small : (b d : ℕ) → HasDepth a (labels_among (walked firm a.blocks (length a.blocks))) b d → d < 16
  depth_small b d h =
      let r = at_depth h.calls b d h.within in
      subst (λ d. d < 16) r.depth (all_shallow firm a.blocks s (length a.blocks) r.entry r.there).shallow

  -- ---- the way to a label, where that is none

  module _ (b : ℕ) (last : ℕ) (label : Reached) (at : slice_get W last ≡ Some label) (same : label.block ≡ b) where
    abbrev Deep : ℕ → ℕ → Type 0
    Deep c d = HasDepth a (without b L) c d

    earlier : (p : ℕ) (r : Reached) → slice_get W p ≡ Some r → p < last → r.block ≢ b
    earlier p r e lt q =
        let place = same_place block_of W p last r label (walk_differs firm a.blocks s (length a.blocks)) e at (q ∙ sym same) in
        omega (arith, place, lt)

    no_label : (r : Reached) → In W r → r.is_label ≡ false → Among (without b L) r.block → ⊥
    no_label r i e among =
        let f = label_from W r.block (from_without b L r.block (among_in (without b L) r.block among)).0 in
        let is = same_reached f.entry r f.there i f.same in
        false_true e (sym (ap (λ (x : Reached). x.is_label) is) ∙ f.label)

    lower : (q r : Reached) → In W r → r.is_label ≡ false → Follows firm a.blocks s q r → Deep q.block q.depth → Deep r.block r.depth
    lower q r i e f up = by f.how
      where
        by : How f.block.end q.depth r → Deep r.block r.depth
        by (goes_on l shallow h) = record {
          calls = suc up.calls;
          within = record {
            no_label = no_label r i e;
            caller = q.block;
            block = f.block;
            there = f.there;
            above = q.depth;
            of_caller = up.within;
            after = h;
          };
        }
        by (stops l z le h) = absurd (false_true e l)

    way : (k p : ℕ) (r : Reached) → p < k → p < last → slice_get W p ≡ Some r → Deep r.block r.depth
    way zero p r lt less e = absurd (let no : ⊥ = omega (arith, lt) in no)
    way (suc k) p r lt less e = by r.is_label refl (way k)
      where
        by : (t : Bool) → r.is_label ≡ t → ((p : ℕ) (r : Reached) → p < k → p < last → slice_get W p ≡ Some r → Deep r.block r.depth)
            → Deep r.block r.depth
        by true h further =
            let i = in_place W p r e in
            record {
              calls = 0;
              within = (
                in_among (without b L) r.block (in_without b L r.block (label_in W r i h) (earlier p r e less)),
                (all_shallow firm a.blocks s (length a.blocks) r i).of_label h,
              );
            }
        by false h further = elim (origin firm a.blocks s (length a.blocks) p r e) [
          | inl root ↦ absurd (false_true h root.label)
          | inr parent ↦
              let before = parent.before in
              lower parent.from r (in_place W p r e) h parent.follows
              (further parent.at parent.from (omega (arith, before, lt)) (omega (arith, before, less)) parent.there)
        ]

    -- the label itself would have a depth of sixteen
    pub would_be_deep : (parent : Parent firm a.blocks s W (length a.blocks) last label) → label.is_label ≡ true → HasDepth a (without b L) b 16
    would_be_deep parent l = by f.how
      where
        f : Follows firm a.blocks s parent.from label
        f = parent.follows

        up : Deep parent.from.block parent.from.depth
        up = way last parent.at parent.from parent.before parent.before parent.there

        by : How f.block.end parent.from.depth label → HasDepth a (without b L) b 16
        by (goes_on e shallow h) = absurd (false_true e l)
        by (stops e z le h) =
            let lt = (all_shallow firm a.blocks s (length a.blocks) parent.from (in_place W parent.at parent.from parent.there)).shallow in
            let sixteen : suc parent.from.depth ≡ 16 = omega (arith, le, lt) in
            record {
              calls = suc up.calls;
              within = record {
                no_label = λ among. (from_without b L b (among_in (without b L) b among)).1 refl;
                caller = parent.from.block;
                block = f.block;
                there = f.there;
                above = parent.from.depth;
                of_caller = up.within;
                after = subst (λ d. DepthAfter f.block.end b parent.from.depth d) sixteen
                    (subst (λ c. DepthAfter f.block.end c parent.from.depth (suc parent.from.depth)) same h);
              };
            }
