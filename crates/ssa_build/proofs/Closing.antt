-- Tables of live blocks are closed.
use Rattle.std.proofs.Common.{◌≡◌, ℕ, ◌<◌, ◌≤◌, Bool, true, false, List, [], length, slice_get, Option, Some, None, sym, ap, ◌∙◌, subst, inl, inr, arith}
use Rattle.std.proofs.lemmas.Option.{slice_get-get_or}
use Rattle.std.proofs.lemmas.List.{get_or_past}
use Rattle.block_forms.specs.Lowered.{BlockBelow, EndBelow, SetBelow, TermBelow}
use Rattle.block_forms.specs.Places.{Each}
use Rattle.ssa_build.specs.Forms.{Block, Branch, End, Fail, Jump, Return, Term}
use Rattle.block_forms.specs.Places.{In}
use Rattle.block_forms.specs.Live.{Live, LiveEnd, LiveIn, LiveSet}
use Rattle.block_graph.specs.Liveness.{marked}
use Rattle.block_graph.specs.Tables.{AreLiveTables, live_by}
use Rattle.block_graph.proofs.Lists.{within_or_past}
use Rattle.ssa_build.proofs.Lists.{place_of}
use Rattle.ssa_build.proofs.Naming.{Edge}
use Rattle.ssa_build.proofs.Premises.{Closed, SetsBelow}

-- each slot that a block reads is one of so many
abbrev pub ReadsBelow : ℕ → List Block → Type 0
ReadsBelow slots g = (b : ℕ) (x : Block) (s : ℕ) → slice_get g b ≡ Some x → LiveIn (Some x) (λ c. ⊥) s → s < slots

-- with nothing live next, what is live is read
reads_end : (e : End) (next : ℕ → Type 0) (s : ℕ) → ((c : ℕ) → next c → ⊥) → LiveEnd e next s → LiveEnd e (λ c. ⊥) s
reads_end (Jump c) next s none h = none c h
reads_end (Branch t y n) next s none (inl i) = inl i
reads_end (Branch t y n) next s none (inr (inl h)) = absurd (none y h)
reads_end (Branch t y n) next s none (inr (inr h)) = absurd (none n h)
reads_end (Return t) next s none h = h
reads_end (Fail k) next s none h = h

reads_set : (a : Option (ℕ × Term)) (e : End) (next : ℕ → Type 0) (s : ℕ) → ((c : ℕ) → next c → ⊥) → LiveSet a (LiveEnd e next s) s → LiveSet a (LiveEnd e (λ c. ⊥) s) s
reads_set None e next s none h = reads_end e next s none h
reads_set (Some a) e next s none (inl i) = inl i
reads_set (Some a) e next s none (inr h) = inr (h.0, reads_end e next s none h.1)

module _ (g : List Block) (tables : List (List Bool)) (params entry : ℕ) (entry_live : (k s : ℕ) → Live g k entry s → s < params) (no_way : (b : ℕ) → Edge g b entry → ⊥) (below : ReadsBelow (length tables) g) (of : AreLiveTables g tables) where
  past : (b s : ℕ) → length tables ≤ s → live_by tables b s ≡ false
  past b s le = ap (λ l. marked l b) (get_or_past tables s [] le)

  bounded : (b s : ℕ) → live_by tables b s ≡ true → s < length tables
  bounded b s h = elim (within_or_past s (length tables)) [ inl lt ↦ lt | inr le ↦ absurd (let e = past b s le in let f : ⊥ = cc (sym h ∙ e) in f) ]

  step : (b : ℕ) (x : Block) (s : ℕ) → slice_get g b ≡ Some x → LiveIn (Some x) (λ c. live_by tables c s ≡ true) s → live_by tables b s ≡ true
  step b x s at h = elim (within_or_past s (length tables)) [
    | inl lt ↦ (of s lt).closed b x at h
    | inr le ↦ absurd (let lt = below b x s at (reads_set x.set x.end (λ c. live_by tables c s ≡ true) s (λ c m. let l = bounded c s m in omega (arith, l, le)) h) in let f : ⊥ = omega (arith, lt, le) in f)
  ]

  pub closed : Closed (length tables) params entry g (live_by tables)
  closed = record {
    bounded = bounded;
    step = step;
    entry_only = λ s h. let r = (of s (bounded entry s h)).only entry h in entry_live r.0 s r.1;
    no_way_back = no_way;
  }

-- ---- what blocks read and set is below

all_below : (slots : ℕ) (t : Term) → TermBelow slots t → (s : ℕ) → In t.names s → s < slots
all_below slots t h s i = let r = place_of t.names s 0 i in h.names r.0 s (slice_get-get_or t.names r.0 0 r.1 ∙ ap Some r.2)

end_below : (slots : ℕ) (e : End) → EndBelow slots e → (s : ℕ) → LiveEnd e (λ c. ⊥) s → s < slots
end_below slots (Jump c) h s i = absurd i
end_below slots (Branch t y n) h s (inl i) = all_below slots t h s i
end_below slots (Branch t y n) h s (inr (inl i)) = absurd i
end_below slots (Branch t y n) h s (inr (inr i)) = absurd i
end_below slots (Return t) h s i = all_below slots t h s i
end_below slots (Fail k) h s i = absurd i

set_below : (slots : ℕ) (a : Option (ℕ × Term)) (e : End) → SetBelow slots a → EndBelow slots e → (s : ℕ) → LiveSet a (LiveEnd e (λ c. ⊥) s) s → s < slots
set_below slots None e h k s i = end_below slots e k s i
set_below slots (Some a) e h k s (inl i) = all_below slots a.1 h.1 s i
set_below slots (Some a) e h k s (inr i) = end_below slots e k s i.1

pub reads_below : (slots : ℕ) (g : List Block) → Each (BlockBelow slots) g → ReadsBelow slots g
reads_below slots g h b x s at i = let q = h b x at in set_below slots x.set x.end q.set q.end s i

pub sets_below : (slots : ℕ) (g : List Block) → Each (BlockBelow slots) g → SetsBelow slots g
sets_below slots g h b x a at e = (subst (SetBelow slots) e (h b x at).set).0
