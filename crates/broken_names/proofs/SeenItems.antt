-- What is in sight over a FROM, item by item.
use Rattle.std.proofs.Common.{◌≡◌, refl, List, [], ◌∷◌, ◌++◌, fold}
use Rattle.away_trees.specs.declared.queries.FromItem.{FromItem}
use Rattle.away_names.specs.declared.note.Noted.{Noted}
use Rattle.away_names.specs.declared.note.Framed.{Framed}
use Rattle.away_names.specs.Lookups.{Level, Scope}
use Rattle.away_names.specs.Naming.{with_part, no_part}
use Rattle.away_names.specs.NamingLists.{named_from}
use Rattle.away_names.specs.Trees.{named_part}
use Rattle.broken_names.specs.Holds.{seen_of}

-- items of FROM behind those that are in sight
abbrev pub seen_behind : Scope → Level → List FromItem → Level
seen_behind s = fold (λ level f. level ++ seen_of s level f ∷ [])

behind_is : (s : Scope) (a : Noted Framed) (fs : List FromItem)
    → seen_behind s a.it.seen fs ≡ (fold (λ a f. with_part a (named_part f s a.it.seen)) a fs).it.seen
behind_is s a [] = refl
behind_is s a (f ∷ fs) = behind_is s (with_part a (named_part f s a.it.seen)) fs

pub from_is : (s : Scope) (fs : List FromItem) → seen_behind s [] fs ≡ (named_from s fs).it.seen
from_is s fs = behind_is s no_part fs
