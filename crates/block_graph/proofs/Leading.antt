-- The predecessors among one block more, and that each is there.
use Rattle.std.proofs.Common.{◌≡◌, ℕ, ◌+◌, ◌<◌, Bool, true, false, if◌then◌else◌, List, [], ◌∷◌, ◌++◌, length, get_or, slice_get, Some, sym, ap, ◌∙◌, subst, refl, arith}
use Rattle.std.proofs.lemmas.Option.{slice_get_within}
use Rattle.block_forms.specs.Lowered.{end_leads}
use Rattle.block_forms.specs.Named.{leads}
use Rattle.block_forms.specs.Places.{In}
use Rattle.block_forms.specs.declared.forms.Block.{Block}
use Rattle.block_graph.specs.Predecessors.{AddsTargets, ArePredecessors, predecessors_below}
use Rattle.block_graph.specs.Ranges.{count_from}
use Rattle.block_graph.proofs.Lists.{in_filter}
use Rattle.block_graph.proofs.Ranges.{filter_no, filter_yes, in_count}

module _ (g : List Block) (n : ℕ) (x : Block) (old new : List (List ℕ)) (so : ArePredecessors g n old) (at : slice_get g n ≡ Some x) (adds : AddsTargets x.end n old new) where
  here : (c : ℕ) → leads (slice_get g n) c ≡ end_leads x.end c
  here c = ap (λ o. leads o c) at

  each : (c : ℕ) → c < length g → get_or new c [] ≡ predecessors_below g (n + 1) c
  each c lt = adds.each c (subst (λ v. c < v) (sym so.long) lt) ∙ go (end_leads x.end c) refl
    where
      go : (v : Bool) → end_leads x.end c ≡ v → (if v then get_or old c [] ++ n ∷ [] else get_or old c []) ≡ predecessors_below g (n + 1) c
      go true e = ap (λ l. l ++ n ∷ []) (so.each c lt) ∙ sym (filter_yes (λ b. leads (slice_get g b) c) n (here c ∙ e))
      go false e = so.each c lt ∙ sym (filter_no (λ b. leads (slice_get g b) c) n (here c ∙ e))

  pub one_more : ArePredecessors g (n + 1) new
  one_more = record { long = adds.long ∙ so.long; each = each }

-- a block that leads to c is among the predecessors of c
pub leads_among : (g : List Block) (lists : List (List ℕ)) → ArePredecessors g (length g) lists → (b c : ℕ) (x : Block) → slice_get g b ≡ Some x → end_leads x.end c ≡ true → c < length g → In (get_or lists c []) b
leads_among g lists are b c x at leads_there lt =
    let b_in : b < length g = slice_get_within g b x at in
    let numbered : In (count_from 0 (length g)) b = in_count 0 (length g) b (omega arith) (omega (arith, b_in)) in
    subst (λ l. In l b) (sym (are.each c lt)) (in_filter (λ v. leads (slice_get g v) c) (count_from 0 (length g)) b numbered (ap (λ o. leads o c) at ∙ leads_there))
