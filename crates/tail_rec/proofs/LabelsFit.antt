-- The labels are those of a tail form with merged blocks, each with a reason, and no block is deep.
use Rattle.std.proofs.Common.{◌≡◌, ℕ, ◌<◌, ◌≤◌, Bool, true, false, List, length, Option, Some, None, refl, sym, subst, inl, inr, arith}
use Rattle.std.specs.Prelude.{slice_get}
use Rattle.block_forms.specs.declared.forms.End.{End}
use Rattle.block_forms.specs.declared.forms.End.TheVariants as jump
use Rattle.block_forms.specs.declared.forms.Goto.{Goto}
use Rattle.block_forms.specs.declared.forms.Ssa.{Ssa}
use Rattle.block_forms.specs.declared.forms.SsaBlock.{SsaBlock}
use Rattle.std.proofs.lemmas.Option.{slice_get_within}
use Rattle.block_forms.specs.Places.{In, Each, Distinct}
use Rattle.call_forms.specs.declared.forms.Call.{Call}
use Rattle.call_forms.specs.Called.{itself, Among, Passes, CallOf, EndCalled, EntryParameters, Called}
use Rattle.call_forms.specs.declared.forms.CallEnd.{CallEnd}
use Rattle.call_forms.specs.declared.forms.AnfBlock.{AnfBlock}
use Rattle.call_forms.specs.declared.forms.Anf.{Anf}
use Rattle.call_forms.specs.declared.forms.Tail.{Tail}
use Rattle.call_forms.specs.declared.forms.CallEnd.TheVariants.{Go, Pick, Return, Fail}
use Rattle.call_forms.specs.Forms.{label_of}
use Rattle.call_forms.specs.Merged.{AtCalls, MayMerge, Merged}
use Rattle.call_forms.specs.Tight.{HasDepth, without, Reason, entry, head, calls, deep}
use Rattle.tail_rec.specs.declared.walk.Reached.{Reached}
use Rattle.tail_rec.specs.Callers.{callers_of, is_firm}
use Rattle.tail_rec.specs.Walk.{reached, walked, labels_of}
use Rattle.tail_rec.proofs.Counts.{FirmReason, is_entry, has_head, has_calls, firm_reason, no_head, few_calls, entry_firm}
use Rattle.tail_rec.proofs.Deep.{depth_small, would_be_deep}
use Rattle.tail_rec.proofs.Labelled.{in_among, distinct_from, placed, LabelAt, label_from, label_in, labels_differ}
use Rattle.tail_rec.proofs.Lists.{in_place, place_in, some_at, at_most}
use Rattle.tail_rec.proofs.Walks.{Setting, origin, reached_below, walk_differs, firm_reached}

-- ---- calls go to blocks

module _ (z : Ssa) (a : Anf) where
  passes_within : (b : ℕ) (o : Option SsaBlock) (c : ℕ) (args : List ℕ) → Passes b o (slice_get a.blocks c) args → (p : Option AnfBlock)
      → slice_get a.blocks c ≡ p → c < length a.blocks
  passes_within b None c args h p e = absurd h
  passes_within b (Some y) c args h None e = absurd (subst (λ o. Passes b (Some y) o args) e h)
  passes_within b (Some y) c args h (Some x) e = slice_get_within a.blocks c x e

  call_within : (b c : ℕ) (call : Call) → CallOf z a b c call → call.target < length a.blocks
  call_within b c call h =
      subst (λ c. c < length a.blocks) (sym h.target) (passes_within b (slice_get z.blocks c) c call.args h.passes (slice_get a.blocks c) refl)

  end_within : (b : ℕ) (e : End) (x : CallEnd) → EndCalled z a b e x → AtCalls (λ c. c < length a.blocks) x
  end_within b (jump.Jump c) (Go x) h = call_within b c x h
  end_within b (jump.Branch t c d) (Go x) h = absurd h
  end_within b (jump.Return t) (Go x) h = absurd h
  end_within b (jump.Fail k) (Go x) h = absurd h
  end_within b (jump.Jump c) (Pick u x y) h = absurd h
  end_within b (jump.Branch t c d) (Pick u x y) h = (call_within b c x h.1, call_within b d y h.2)
  end_within b (jump.Return t) (Pick u x y) h = absurd h
  end_within b (jump.Fail k) (Pick u x y) h = absurd h
  end_within b e (Return t) h = tt
  end_within b e (Fail k) h = tt

  entry_within : (y : Option SsaBlock) (c : ℕ) (x : Option AnfBlock) → slice_get a.blocks c ≡ x → EntryParameters y x → c < length a.blocks
  entry_within None c x e h = absurd h
  entry_within (Some y) c None e h = absurd h
  entry_within (Some y) c (Some x) e h = slice_get_within a.blocks c x e

module _ (g : Goto) (z : Ssa) (a : Anf) (called : Called g z a) where
  pub targets : Each (λ x. AtCalls (λ c. c < length a.blocks) x.end) a.blocks
  targets i x e =
      let lt = slice_get_within a.blocks i x e in
      let many = called.as_many_blocks in
      let y = some_at z.blocks i (omega (arith, lt, many)) in
      end_within z a i y.0.end x.end (called.blocks i y.0 x y.1 e).end

  pub entry_below : g.entry < length a.blocks
  entry_below = entry_within z a (slice_get z.blocks g.entry) g.entry (slice_get a.blocks g.entry) refl called.entry

  abbrev firm : ℕ → Bool
  firm = is_firm g (callers_of a.blocks)

  setting : Setting (is_firm g (callers_of a.blocks)) a.blocks
  setting = record { few = λ b lt e. few_calls g a.blocks b lt e; targets = targets }

  abbrev W : List Reached
  W = walked (is_firm g (callers_of a.blocks)) a.blocks (length a.blocks)

  firm_label : (b : ℕ) → b < length a.blocks → firm b ≡ true → In (labels_of g a.blocks) b
  firm_label b lt e = label_in W (reached b 0 true) (firm_reached firm a.blocks setting b lt e) refl

  label_below : (b : ℕ) → In (labels_of g a.blocks) b → b < length a.blocks
  label_below b i = let f = label_from W b i in subst (λ b. b < length a.blocks) f.same (reached_below firm a.blocks setting (length a.blocks) f.entry f.there)

  module _ (r : Tail) (is : r.labels ≡ labels_of g a.blocks) where
    may_merge : (b : ℕ) → b < length a.blocks → label_of r b ≡ None → MayMerge g a b
    may_merge b lt none = by (firm b) refl
      where
        by : (t : Bool) → firm b ≡ t → MayMerge g a b
        by true e =
            let p = place_in r.labels b (subst (λ l. In l b) (sym is) (firm_label b lt e)) in
            absurd (placed 0 r.labels b p.0 p.1 none)
        by false e = record { no_head = no_head g a.blocks b lt e; one_call = few_calls g a.blocks b lt e }

    pub merged : Merged g a r
    merged = record {
      labels_differ = subst (Distinct itself) (sym is) (distinct_from (labels_of g a.blocks) (labels_differ W (walk_differs firm a.blocks setting (length a.blocks))));
      labels_are_blocks = λ i b e. label_below b (subst (λ l. In l b) is (in_place r.labels i b e));
      entry = subst (λ l. Among l g.entry) (sym is) (in_among (labels_of g a.blocks) g.entry (firm_label g.entry entry_below (entry_firm g (callers_of a.blocks))));
      others = may_merge;
      calls = targets;
    }

    pub few_labels : length r.labels ≤ length a.blocks
    few_labels = subst (λ l. length l ≤ length a.blocks) (sym is)
        (at_most itself (length a.blocks) (labels_of g a.blocks) (labels_differ W (walk_differs firm a.blocks setting (length a.blocks))) label_below)

    pub depths : (b d : ℕ) → HasDepth a r.labels b d → d < 16
    depths b d h = depth_small a firm setting b d (subst (λ l. HasDepth a l b d) is h)

    firm_reason_is : (b : ℕ) → FirmReason g a.blocks b → Reason g a r b
    firm_reason_is b (is_entry e) = entry e
    firm_reason_is b (has_head e) = head e
    firm_reason_is b (has_calls le) = calls le

    reason : (b : ℕ) → LabelAt W b → Reason g a r b
    reason b f =
        let p = place_in W f.entry f.there in
        elim (origin firm a.blocks setting (length a.blocks) p.0 f.entry p.1) [
          | inl root ↦ subst (Reason g a r) f.same (firm_reason_is f.entry.block (firm_reason g a.blocks f.entry.block root.block root.is_firm))
          | inr parent ↦
              deep (subst (λ l. HasDepth a (without b l) b 16) (sym is)
              (would_be_deep a firm setting b p.0 f.entry p.1 f.same parent f.label))
        ]

    pub reasons : Each (Reason g a r) r.labels
    reasons i b e = reason b (label_from W b (subst (λ l. In l b) is (in_place r.labels i b e)))
