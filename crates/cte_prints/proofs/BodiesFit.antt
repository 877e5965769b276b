-- In a tight form the bodies of labels have few tests one inside another, faults of a class, and labels with small numbers.
use Rattle.std.proofs.Common.{◌≡◌, refl, sym, subst, ℕ, zero, suc, ◌+◌, ◌<◌, ◌^◌, inl, inr, length, Option, Some, None, arith}
use Rattle.std.specs.Prelude.{slice_get}
use Rattle.std.proofs.lemmas.Option.{slice_get_within}
use Rattle.block_forms.specs.Forms.{Assignment}
use Rattle.block_forms.specs.Places.{Each}
use Rattle.call_forms.specs.declared.forms.Call.{Call}
use Rattle.call_forms.specs.declared.forms.CallEnd.{CallEnd}
use Rattle.call_forms.specs.declared.forms.CallEnd.TheVariants.{Go, Pick, Return, Fail}
use Rattle.call_forms.specs.declared.forms.AnfBlock.{AnfBlock}
use Rattle.call_forms.specs.declared.forms.Anf.{Anf}
use Rattle.call_forms.specs.declared.forms.Tail.{Tail}
use Rattle.call_forms.specs.Bodies.{Body, goes_to, end_body, sets_first, block_body, tree, body_of}
use Rattle.call_forms.specs.Forms.{label_of}
use Rattle.call_forms.specs.Tight.{HasDepth, DepthAfter}
use Rattle.call_law.proofs.Labels.{place_found, placed}
use Rattle.call_law.specs.Terms.{EndHasClass, FailsByClass}
use Rattle.cte_prints.specs.DerivableParts.{BodyFits}

module _ (a : Anf) (r : Tail) (few : length r.labels < 2 ^ 63) (depths : (b d : ℕ) → HasDepth a r.labels b d → d < 16) (fails : Each FailsByClass a.blocks) where
  -- a block that is entered from one with a depth
  entered : (b : ℕ) (x : AnfBlock) (c d e : ℕ) → slice_get a.blocks b ≡ Some x → HasDepth a r.labels b d → label_of r c ≡ None → DepthAfter x.end c d e
      → HasDepth a r.labels c e
  entered b x c d e there deep none after = record {
    calls = suc deep.calls;
    within = record {
      no_label = λ among. placed 0 r.labels c among.place among.there none;
      caller = b;
      block = x;
      there = there;
      above = d;
      of_caller = deep.within;
      after = after;
    };
  }

  goes_fit : (next : ℕ → Body) (c : Call) (n : ℕ) (o : Option ℕ) → label_of r c.target ≡ o → (label_of r c.target ≡ None → BodyFits (next c.target) n)
      → BodyFits (goes_to a r next c o) n
  goes_fit next c n (Some label) e h =
      let lt : label < length r.labels = slice_get_within r.labels label c.target (place_found r.labels c.target label e) in
      omega (arith, lt, few)
  goes_fit next c n None e h = h e

  set_fits : (set : Assignment) (body : Body) (n : ℕ) → BodyFits body n → BodyFits (sets_first a r set body) n
  set_fits None body n h = h
  set_fits (Some p) body n h = h

  -- an end, where what it enters fits
  end_fits : (next : ℕ → Body) → ((c n d : ℕ) → n + d ≡ 16 → HasDepth a r.labels c d → BodyFits (next c) n) → (b : ℕ) (x : AnfBlock) (n d : ℕ)
      → slice_get a.blocks b ≡ Some x
      → n + d ≡ 16 → HasDepth a r.labels b d → (e : CallEnd) → x.end ≡ e → BodyFits (end_body a r next e) n
  end_fits next fit b x n d there whole deep (Go c) e =
      goes_fit next c n (label_of r c.target) refl
      (λ none. fit c.target n d whole (entered b x c.target d d there deep none (subst (λ f. DepthAfter f c.target d d) (sym e) (refl, refl))))
  end_fits next fit b x zero d there whole deep (Pick t y z) e = absurd (omega (arith, whole, depths b d deep))
  end_fits next fit b x (suc n) d there whole deep (Pick t y z) e =
      let further : n + suc d ≡ 16 = omega (arith, whole) in (
        goes_fit next y n (label_of r y.target) refl
            (λ none. fit y.target n (suc d) further
            (entered b x y.target d (suc d) there deep none (subst (λ f. DepthAfter f y.target d (suc d)) (sym e) (inl refl, refl)))),
        goes_fit next z n (label_of r z.target) refl
            (λ none. fit z.target n (suc d) further
            (entered b x z.target d (suc d) there deep none (subst (λ f. DepthAfter f z.target d (suc d)) (sym e) (inr refl, refl)))),
      )
  end_fits next fit b x n d there whole deep (Return t) e = tt
  end_fits next fit b x n d there whole deep (Fail c) e = subst EndHasClass e (fails b x there).end

  body_fits : (left b n d : ℕ) → n + d ≡ 16 → HasDepth a r.labels b d → BodyFits (tree a r left b) n
  body_fits zero b n d whole deep = tt
  body_fits (suc left) b n d whole deep = by (slice_get a.blocks b) refl (λ c k e sum further. body_fits left c k e sum further)
    where
      by : (o : Option AnfBlock) → slice_get a.blocks b ≡ o → ((c k e : ℕ) → k + e ≡ 16 → HasDepth a r.labels c e → BodyFits (tree a r left c) k)
          → BodyFits (block_body a r (tree a r left) o) n
      by None e inner = tt
      by (Some x) e inner = set_fits x.set (end_body a r (tree a r left) x.end) n
          (end_fits (tree a r left) inner b x n d e whole deep x.end refl)

  pub labels_fit : Each (λ b. BodyFits (body_of a r b) 16) r.labels
  labels_fit i b there = body_fits (length a.blocks) b 16 0 refl (record { calls = 0; within = (record { place = i; there = there }, refl) })
