-- The blocks that are written are those of the full form with names replaced.
use Rattle.std.proofs.Common.{◌≡◌, ℕ, ◌+◌, ◌<◌, Bool, true, false, cond, ◌&&◌, if◌then◌else◌, List, [], ◌∷◌, map, length, slice_get, nat_eq, Option, Some, None, refl, sym, ap, ◌∙◌, subst, arith}
use Rattle.std.proofs.lemmas.Option.{slice_get_within}
use Rattle.std.proofs.lemmas.List.{length-map}
use Rattle.std.specs.List.{filter}
use Rattle.ssa_build.specs.declared.full.FullForm.{FullForm}
use Rattle.ssa_build.specs.declared.layout.Layout.{Layout}
use Rattle.ssa_build.specs.Blocks.{term}
use Rattle.ssa_build.specs.Forms.{Block, Branch, End, Fail, Jump, Phi, Return, SsaBlock, Term}
use Rattle.ssa_build.specs.FullForms.{after, before, live_in, phi_name, set_name}
use Rattle.block_graph.specs.Ranges.{count_from}
use Rattle.ssa_build.specs.Maximal.{after_set, full_block, full_phi, full_phis, named_end, named_set, numbered}
use Rattle.ssa_build.specs.Merging.{is_end, new_name, replacing}
use Rattle.ssa_build.specs.Output.{new_after, new_block, new_end, new_phi, new_phis, new_set, phi}
use Rattle.block_graph.specs.Predecessors.{predecessors_of}
use Rattle.ssa_build.specs.Writing.{AreNewBlocks}
use Rattle.ssa_build.proofs.BuiltForm.{built_form}
use Rattle.ssa_build.proofs.Counting.{length_numbered, numbered_at}
use Rattle.block_graph.proofs.Lists.{at_map, some_at}
use Rattle.ssa_build.proofs.Lists.{same_map}
use Rattle.ssa_build.proofs.Merges.{replaced_block, replaced_end, replaced_in, replaced_phi, replaced_set}
use Rattle.ssa_build.proofs.Placing.{same_block, same_list}

map_map : {X Y W : Type 0} (f : Y → W) (h : X → Y) (xs : List X) → map f (map h xs) ≡ map (λ x. f (h x)) xs
map_map f h [] = refl
map_map f h (x ∷ xs) = ap (λ l. f (h x) ∷ l) (map_map f h xs)

filter_map : {X Y : Type 0} (p : Y → Bool) (f : X → Y) (xs : List X) → filter p (map f xs) ≡ map f (filter (λ x. p (f x)) xs)
filter_map p f [] = refl
filter_map p f (x ∷ xs) = go (p (f x)) (filter_map p f xs)
  where
    go : (c : Bool) → filter p (map f xs) ≡ map f (filter (λ x. p (f x)) xs) → cond c (f x ∷ filter p (map f xs)) (filter p (map f xs)) ≡ map f (cond c (x ∷ filter (λ x. p (f x)) xs) (filter (λ x. p (f x)) xs))
    go true e = ap (λ l. f x ∷ l) e
    go false e = e

filter_filter : {X : Type 0} (p q : X → Bool) (xs : List X) → filter q (filter p xs) ≡ filter (λ x. p x && q x) xs
filter_filter p q [] = refl
filter_filter p q (x ∷ xs) = go (p x) (q x) refl (filter_filter p q xs)
  where
    go : (c d : Bool) → q x ≡ d → filter q (filter p xs) ≡ filter (λ x. p x && q x) xs → filter q (cond c (x ∷ filter p xs) (filter p xs)) ≡ cond (c && d) (x ∷ filter (λ x. p x && q x) xs) (filter (λ x. p x && q x) xs)
    go false d e h = h
    go true true e h = ap (λ v. cond v (x ∷ filter q (filter p xs)) (filter q (filter p xs))) e ∙ ap (λ l. x ∷ l) h
    go true false e h = ap (λ v. cond v (x ∷ filter q (filter p xs)) (filter q (filter p xs))) e ∙ h

module _ (f : FullForm) (g : List Block) (into numbers : List ℕ) where
  abbrev l : Layout
  l = f.layout

  abbrev live : ℕ → ℕ → Bool
  live = live_in f

  abbrev τ : ℕ → ℕ
  τ = new_name into numbers

  abbrev stays : ℕ → Bool
  stays = is_end (replacing into)

  abbrev F : ℕ → Block → SsaBlock
  F = full_block l.slots l.entry g live (phi_name f) (set_name f)

  abbrev φ_of : ℕ → ℕ → Phi
  φ_of b s = full_phi l.slots l.entry g live (phi_name f) (set_name f) b s

  abbrev here : ℕ → List ℕ
  here b = filter (live b) (count_from 0 l.slots)

  phis_same : (b : ℕ) → new_phis f g into numbers b ≡ map (replaced_phi τ stays) (filter (λ φ. stays φ.name) (full_phis l.slots l.entry g live (phi_name f) (set_name f) (nat_eq b l.entry) b))
  phis_same b = go (nat_eq b l.entry)
    where
      one : (s : ℕ) → new_phi f g into numbers b s ≡ replaced_phi τ stays (φ_of b s)
      one s = ap (phi (τ (phi_name f b s))) (sym (map_map (replaced_in τ stays) (λ p. (p, after f g p s)) (predecessors_of g b)))

      go : (c : Bool) → (if c then [] else map (new_phi f g into numbers b) (filter (λ s. live b s && stays (phi_name f b s)) (count_from 0 l.slots))) ≡ map (replaced_phi τ stays) (filter (λ φ. stays φ.name) (full_phis l.slots l.entry g live (phi_name f) (set_name f) c b))
      go true = refl
      go false =
          same_map (new_phi f g into numbers b) (λ s. replaced_phi τ stays (φ_of b s)) (filter (λ s. live b s && stays (phi_name f b s)) (count_from 0 l.slots)) (λ s i. one s)
          ∙ ap (map (λ s. replaced_phi τ stays (φ_of b s))) (sym (filter_filter (live b) (λ s. stays (phi_name f b s)) (count_from 0 l.slots)))
          ∙ sym (map_map (replaced_phi τ stays) (φ_of b) (filter (λ s. stays (phi_name f b s)) (here b)))
          ∙ ap (map (replaced_phi τ stays)) (sym (filter_map (λ (φ : Phi). stays φ.name) (φ_of b) (here b)))

  set_same : (b : ℕ) (a : Option (ℕ × Term)) → new_set f g into numbers b a ≡ replaced_set τ stays (named_set l.slots l.entry g live (phi_name f) (set_name f) b a)
  set_same b None = refl
  set_same b (Some a) = ap (λ ns. Some (τ (set_name f b), term a.1.expr ns)) (sym (map_map τ (before f b) a.1.names))

  end_same : (b : ℕ) (now : ℕ → ℕ) (e : End) → ((s : ℕ) → after f g b s ≡ now s) → new_end f g into numbers b e ≡ replaced_end τ stays (named_end l.slots l.entry g live (phi_name f) (set_name f) now e)
  end_same b now (Jump c) h = refl
  end_same b now (Branch t y n) h = ap (λ ns. Branch (term t.expr ns) y n) (same_map (new_after f g into numbers b) (λ s. τ (now s)) t.names (λ s i. ap τ (h s)) ∙ sym (map_map τ now t.names))
  end_same b now (Return t) h = ap (λ ns. Return (term t.expr ns)) (same_map (new_after f g into numbers b) (λ s. τ (now s)) t.names (λ s i. ap τ (h s)) ∙ sym (map_map τ now t.names))
  end_same b now (Fail k) h = refl

  block_same : (b : ℕ) (x : Block) → slice_get g b ≡ Some x → new_block f g into numbers b x ≡ replaced_block τ stays (F b x)
  block_same b x at =
      same_block (sym (map_map (replaced_in τ stays) (λ s. (s, before f b s)) (here b))) (phis_same b) (set_same b x.set)
      (end_same b (after_set l.slots l.entry g live (phi_name f) (set_name f) x.set b) x.end (λ s. ap (λ o. Rattle.ssa_build.specs.Maximal.after_block l.slots l.entry g live (phi_name f) (set_name f) o b s) at))

-- all of them
module _ (f : FullForm) (g : List Block) (into numbers : List ℕ) (ys : List SsaBlock) (sized : length g ≡ f.layout.blocks) (new : AreNewBlocks f g into numbers f.layout.blocks ys) where
  abbrev R : SsaBlock → SsaBlock
  R = replaced_block (new_name into numbers) (is_end (replacing into))

  abbrev full_one : ℕ → Block → SsaBlock
  full_one = full_block f.layout.slots f.layout.entry g (live_in f) (phi_name f) (set_name f)

  abbrev full_blocks : List SsaBlock
  full_blocks = numbered full_one 0 g

  lengths : length ys ≡ length (map R full_blocks)
  lengths = new.0 ∙ sym sized ∙ sym (length_numbered full_one 0 g) ∙ sym (length-map full_blocks R)

  each : (b : ℕ) (y : SsaBlock) → slice_get ys b ≡ Some y → slice_get (map R full_blocks) b ≡ Some y
  each b y at =
      let x = some_at g b (subst (λ v. b < v) (new.0 ∙ sym sized) (slice_get_within ys b y at)) in
      let placed : slice_get full_blocks b ≡ Some (full_one b x.0) = numbered_at full_one 0 b g x.0 x.1 ∙ ap (λ v. Some (full_one v x.0)) (let q : 0 + b ≡ b = omega arith in q) in
      at_map R full_blocks b (full_one b x.0) placed ∙ ap Some (sym (block_same f g into numbers b x.0 x.1) ∙ sym (new.1 b y at x.0 x.1))

  pub written_same : (names : List ℕ) → ys ≡ (built_form f g into numbers names).blocks
  written_same names = same_list ys (map R full_blocks) lengths each
