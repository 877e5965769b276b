-- Forms of a function that was read can be spelled: each block that fails does so by a class.
use Rattle.std.proofs.Common.{◌≡◌, refl, sym, subst, ℕ, suc, ◌<◌, Bool, true, false, not, ◌&&◌, ◌==◌, List, [], ◌∷◌, length}
use Rattle.std.specs.List.{AllByRecursion, list_all}
use Rattle.std.specs.Prelude.{bytes_eq, codes}
use Rattle.std.proofs.lemmas.Option.{slice_get_within}
use Rattle.away_trees.specs.declared.queries.Query.{Query}
use Rattle.away_trees.specs.declared.schemas.Schema.{Schema}
use Rattle.away_trees.specs.declared.statements.Function.{Function}
use Rattle.away_types.specs.declared.slots.Slot.{Slot}
use Rattle.away_values.specs.Classes.{is_class, is_class_char}
use Rattle.block_forms.specs.declared.forms.Block.{Block}
use Rattle.block_forms.specs.declared.forms.End.{End}
use Rattle.block_forms.specs.declared.forms.End.TheVariants.{Jump, Branch, Return, Fail}
use Rattle.block_forms.specs.declared.forms.Ssa.{Ssa}
use Rattle.block_forms.specs.declared.forms.SsaBlock.{SsaBlock}
use Rattle.block_forms.specs.Forms.{Pairs}
use Rattle.block_forms.specs.Named.{BlockRenamed, EndRenamed, exit_map}
use Rattle.block_forms.specs.Places.{Each, EachPair}
use Rattle.call_forms.specs.declared.forms.Anf.{Anf}
use Rattle.call_forms.specs.declared.forms.AnfBlock.{AnfBlock}
use Rattle.call_forms.specs.declared.forms.CallEnd.{CallEnd}
use Rattle.call_forms.specs.declared.forms.CallEnd.TheVariants as calls
use Rattle.call_forms.specs.declared.forms.Forms.{Forms}
use Rattle.call_forms.specs.Called.{BlockCalled, EndCalled}
use Rattle.call_forms.specs.Writable.{is_code, CallEndHasCode, EndHasCode, HasCode, HasSpelling}
use Rattle.call_law.proofs.Labels.{element_there}
use Rattle.equivalence.specs.Accepted.{AcceptedForms}
use Rattle.function_facts.specs.Raising.{RaisesClass}
use Rattle.function_facts.proofs.Raising.{raise_classes}

-- ---- ends

code_of : (t : List ℕ) → is_class t ≡ true → is_code t ≡ true
code_of t h = by (length t == 5) (list_all is_class_char t) (not (bytes_eq t (codes "00000"))) h
  where
    by : (five chars other : Bool) → (five && (chars && other)) ≡ true → (five && chars) ≡ true
    by true true other h = refl
    by true false other h = h
    by false chars other h = h

end_code : (d : End) → RaisesClass d → EndHasCode d
end_code (Jump c) h = tt
end_code (Branch t c d) h = tt
end_code (Return t) h = tt
end_code (Fail c) h = code_of c.code h

renamed_code : (m : Pairs) (d e : End) → EndRenamed m d e → EndHasCode d → EndHasCode e
renamed_code m d (Jump c) h k = tt
renamed_code m d (Branch t b c) h k = tt
renamed_code m d (Return t) h k = tt
renamed_code m (Jump c) (Fail x) h k = absurd h
renamed_code m (Branch t b c) (Fail x) h k = absurd h
renamed_code m (Return t) (Fail x) h k = absurd h
renamed_code m (Fail c) (Fail x) h k = subst HasCode h k

called_code : (z : Ssa) (a : Anf) (i : ℕ) (d : End) (e : CallEnd) → EndCalled z a i d e → EndHasCode d → CallEndHasCode e
called_code z a i d (calls.Go x) h k = tt
called_code z a i d (calls.Pick t x y) h k = tt
called_code z a i d (calls.Return t) h k = tt
called_code z a i (Jump c) (calls.Fail x) h k = absurd h
called_code z a i (Branch t b c) (calls.Fail x) h k = absurd h
called_code z a i (Return t) (calls.Fail x) h k = absurd h
called_code z a i (Fail c) (calls.Fail x) h k = subst HasCode (sym h) k

-- ---- whole forms

-- what passes from each element of a list to that at the same place of another
each_passes : {X Y : Type 0} (P : X → Type 0) (Q : Y → Type 0) (R : ℕ → X → Y → Type 0) → ((i : ℕ) (x : X) (y : Y) → R i x y → P x → Q y)
    → (xs : List X) (ys : List Y) → length ys ≡ length xs → EachPair R xs ys → Each P xs → Each Q ys
each_passes P Q R step xs ys same pairs each i y at =
    let there = element_there xs i (subst (λ n. i < n) same (slice_get_within ys i y at)) in
    step i there.0 y (pairs i there.0 y there.1 at) (each i there.0 there.1)

all_of : {X : Type 0} (P : X → Type 0) (xs : List X) → Each P xs → AllByRecursion P xs
all_of P [] h = tt
all_of P (x ∷ xs) h = (h 0 x refl, all_of P xs (λ i y e. h (suc i) y e))

module _ (s : Schema) (f : Function) (slots : List Slot) (forms : Forms) (q : Query) (accepted : AcceptedForms s f slots forms q) where
  goto_codes : Each (λ (x : Block). EndHasCode x.end) forms.goto.blocks
  goto_codes i x at = end_code x.end (raise_classes f slots forms.goto accepted.lowered i x at)

  ssa_codes : Each (λ (y : SsaBlock). EndHasCode y.end) forms.ssa.blocks
  ssa_codes =
      each_passes (λ (x : Block). EndHasCode x.end) (λ (y : SsaBlock). EndHasCode y.end) (λ i. BlockRenamed forms.ssa.names)
      (λ i x y h. renamed_code (exit_map x y) x.end y.end h.end) forms.goto.blocks forms.ssa.blocks accepted.named.as_many_blocks accepted.named.blocks goto_codes

  anf_codes : Each (λ (x : AnfBlock). CallEndHasCode x.end) forms.anf.blocks
  anf_codes =
      each_passes (λ (y : SsaBlock). EndHasCode y.end) (λ (x : AnfBlock). CallEndHasCode x.end) (BlockCalled forms.ssa forms.anf)
      (λ i y x h. called_code forms.ssa forms.anf i y.end x.end h.end) forms.ssa.blocks forms.anf.blocks accepted.called.as_many_blocks accepted.called.blocks ssa_codes

  pub spelling : HasSpelling forms
  spelling = record {
    goto = all_of (λ (x : Block). EndHasCode x.end) forms.goto.blocks goto_codes;
    ssa = all_of (λ (y : SsaBlock). EndHasCode y.end) forms.ssa.blocks ssa_codes;
    anf = all_of (λ (x : AnfBlock). CallEndHasCode x.end) forms.anf.blocks anf_codes;
  }
