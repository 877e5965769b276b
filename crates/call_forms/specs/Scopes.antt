-- What names stand for once others are passed on.
use Rattle.std.specs.Prelude.{ℕ, List, [], ◌∷◌, if◌then◌else◌, nat_eq}

-- what each name stands for, where every name stands for something
abbrev pub Scope : Type 0 → Type 0
Scope A = ℕ → A

-- The keys stand for what the names stand for in f, one by one. A key without a name, and what is
-- no key, stand for d; names without a key are dropped. The first of equal keys counts.
abbrev pub paired : {A : Type 0} → Scope A → A → List ℕ → List ℕ → Scope A
paired f d [] names i = d
paired f d (k ∷ ks) [] i = d
paired f d (k ∷ ks) (n ∷ ns) i = if nat_eq k i then f n else paired f d ks ns i
