-- Lists that loops build.
use Rattle.std.proofs.Common.{◌≡◌, ◌&&◌, ℕ, ◌+◌, ◌<◌, Bool, true, false, cond, List, [], ◌∷◌, ◌++◌, map, length, get_or, slice_get, Some, refl, sym, ap, ◌∙◌, subst, arith, append_assoc}
use Rattle.std.proofs.lemmas.List.{get_or_default}
use Rattle.std.proofs.lemmas.Option.{get_or_from_slice_get}
use Rattle.std.specs.List.{filter}
use Rattle.block_forms.specs.Named.{leads}
use Rattle.block_graph.proofs.Ranges.{filter_no, filter_yes}
use Rattle.ssa_build.specs.Forms.{Block}
use Rattle.ssa_build.specs.FullJoins.{join}
use Rattle.block_graph.specs.Ranges.{count_from}
use Rattle.ssa_build.specs.Output.{phi}
use Rattle.block_graph.specs.Predecessors.{ArePredecessors, predecessors_of}
use Rattle.block_graph.proofs.Ranges.{from_count}
use Rattle.block_graph.proofs.Lists.{from_filter}
use Rattle.ssa_build.proofs.Lists.{in_get_or}

pub map_push : {X Y : Type 0} (f : X → Y) (xs : List X) (x : X) → map f (xs ++ x ∷ []) ≡ map f xs ++ f x ∷ []
map_push f [] x = refl
map_push f (y ∷ ys) x = ap (λ l. f y ∷ l) (map_push f ys x)

-- a loop that adds what a number gives, where the number passes
module _ {Y : Type 0} (f : ℕ → Y) (p : ℕ → Bool) (old xs : List Y) (n : ℕ) (so : xs ≡ old ++ map f (filter p (count_from 0 n))) where
  pub built_more : (ys : List Y) (y : Y) → p n ≡ true → ys ≡ xs ++ y ∷ [] → y ≡ f n → ys ≡ old ++ map f (filter p (count_from 0 (n + 1)))
  built_more ys y e is same =
      is ∙ ap (λ v. xs ++ v ∷ []) same ∙ ap (λ l. l ++ f n ∷ []) so ∙ append_assoc old (map f (filter p (count_from 0 n))) (f n ∷ []) ∙ ap (λ l. old ++ l) (sym (map_push f (filter p (count_from 0 n)) n)) ∙ ap (λ l. old ++ map f l) (sym (filter_yes p n e))

  pub built_same : (ys : List Y) → p n ≡ false → ys ≡ xs → ys ≡ old ++ map f (filter p (count_from 0 (n + 1)))
  built_same ys e is = is ∙ so ∙ ap (λ l. old ++ map f l) (sym (filter_no p n e))

-- ---- blocks and tables by place

pub sources_in : (g : List Block) (c k : ℕ) → k < length (predecessors_of g c) → get_or (predecessors_of g c) k 0 < length g
sources_in g c k lt =
    let i = from_filter (λ b. leads (slice_get g b) c) (count_from 0 (length g)) _ (in_get_or (predecessors_of g c) k 0 lt) in
    let r = from_count 0 (length g) _ i.0 in
    subst (λ v. get_or (predecessors_of g c) k 0 < v) (let e : 0 + length g ≡ length g = omega arith in e) r.1

pub same_join : {a a' b b' : ℕ} {c c' : List ℕ} → a ≡ a' → b ≡ b' → c ≡ c' → join a b c ≡ join a' b' c'
same_join {a} {a'} {b} {b'} {c} {c'} p q r = ap (λ v. join v b c) p ∙ ap (λ v. join a' v c) q ∙ ap (λ v. join a' b' v) r

pub held_at : (g : List Block) (b : ℕ) (x y : Block) → x ≡ get_or g b x → slice_get g b ≡ Some y → x ≡ y
held_at g b x y is at = is ∙ get_or_from_slice_get g b y x at

-- the list that is held for a block
pub sources_held : (g : List Block) (lists : List (List ℕ)) (b : ℕ) (r held : List ℕ) → ArePredecessors g (length g) lists → b < length g → r ≡ get_or lists b r → held ≡ r → held ≡ predecessors_of g b
sources_held g lists b r held of lt is same = same ∙ is ∙ get_or_default lists b r [] (subst (λ v. b < v) (sym of.long) lt) ∙ of.each b lt

pub sources_within : (g : List Block) (b n : ℕ) (held : List ℕ) → held ≡ predecessors_of g b → length g ≡ n → (k : ℕ) → k < length held → get_or held k 0 < n
sources_within g b n held is sized = subst (λ v. (k : ℕ) → k < length v → get_or v k 0 < n) (sym is) (λ k lt. subst (λ v. get_or (predecessors_of g b) k 0 < v) sized (sources_in g b k lt))

pub and_true : (a b : Bool) → a ≡ true → b ≡ true → (a && b) ≡ true
and_true a b e f = ap (λ c. c && b) e ∙ f

pub and_no : (a b : Bool) → a ≡ false → (a && b) ≡ false
and_no a b e = ap (λ c. c && b) e

pub and_not : (a b : Bool) → a ≡ true → b ≡ false → (a && b) ≡ false
and_not a b e f = ap (λ c. c && b) e ∙ f

pub same_phi : {a a' : ℕ} {o o' : List (ℕ × ℕ)} → a ≡ a' → o ≡ o' → phi a o ≡ phi a' o'
same_phi {a} {a'} {o} {o'} p q = ap (λ v. phi v o) p ∙ ap (λ v. phi a' v) q
