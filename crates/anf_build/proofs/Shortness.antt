-- The lists of the normal form are no longer than those of the SSA form.
use Rattle.std.proofs.Common.{◌≡◌, ℕ, ◌<◌, Bool, List, map, length, slice_get, Option, Some, None, refl, sym, subst, arith}
use Rattle.block_forms.specs.declared.forms.End.{End}
use Rattle.block_forms.specs.declared.forms.End.TheVariants.{Jump, Branch, Return, Fail}
use Rattle.block_forms.specs.declared.forms.Goto.{Goto}
use Rattle.block_forms.specs.declared.forms.Ssa.{Ssa}
use Rattle.block_forms.specs.declared.forms.SsaBlock.{SsaBlock}
use Rattle.block_forms.specs.Forms.{Pairs}
use Rattle.block_forms.specs.Named.{Named}
use Rattle.call_forms.specs.declared.forms.Anf.{Anf}
use Rattle.anf_build.specs.NormalForm.{IsNormalForm}
use Rattle.anf_build.specs.Passing.{arguments_of, call_of, end_of, live_pairs, named_or}
use Rattle.anf_build.specs.Short.{AnfWithin, CallEndWithin, CallWithin, EndWithin, SetWithin, SsaWithin}
use Rattle.block_graph.specs.Tables.{live_by}
use Rattle.anf_build.proofs.Lists.{fewer}
use Rattle.anf_build.proofs.Blocks.{made_of, map_length, standing_made}

module _ (n : ℕ) (tables : List (List Bool)) (z : Ssa) (short : SsaWithin n z) where
  live_within : {Y : Type 0} (f : ℕ × ℕ → Y) (b : ℕ) (m : Pairs) → length m < n → length (map f (live_pairs tables b m)) < n
  live_within f b m lt = subst (λ k. k < n) (sym (map_length f (live_pairs tables b m))) (let le = fewer (λ (p : ℕ × ℕ). live_by tables b p.0) m in omega (arith, le, lt))

  module _ (names : List (Option ℕ)) where
    call_within : (c : ℕ) → CallWithin n (call_of tables z.blocks names c)
    call_within c = go (slice_get z.blocks c) refl
      where
        go : (o : Option SsaBlock) → slice_get z.blocks c ≡ o → length (arguments_of tables names c o) < n
        go None e = omega (arith, short.blocks)
        go (Some y) e = live_within (λ (p : ℕ × ℕ). named_or names p.0 p.1) c y.map (short.each c y e).map

    end_within : (e : End) → EndWithin n e → CallEndWithin n (end_of tables z.blocks names e)
    end_within (Jump c) h = call_within c
    end_within (Branch t c d) h = (h, call_within c, call_within d)
    end_within (Return t) h = h
    end_within (Fail k) h = tt

pub all_within : (slots params : ℕ) (g : Goto) (z : Ssa) (a : Anf) → Named slots params g z → IsNormalForm g z a → (n : ℕ) → SsaWithin n z → AnfWithin n a
all_within slots params g z a named normal n short = record {
  blocks = subst (λ k. k < n) (sym normal.blocks.as_many) short.blocks;
  each = λ b w at.
      let st = standing_made slots params g z a named normal b w at in
      let y = st.1 in
      let made = made_of slots params g z a named normal b st.0 y w st.2 in
      let h = short.each b y st.2.named in
      record {
        params = subst (λ ps. length ps < n) (sym made.params) (live_within n normal.tables z short (λ (p : ℕ × ℕ). p.1) b y.map h.map);
        set = subst (SetWithin n) (sym made.set) h.set;
        end = subst (CallEndWithin n) (sym made.end) (end_within n normal.tables z short made.names y.end h.end);
      };
}
