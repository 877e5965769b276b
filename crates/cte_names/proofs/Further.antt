-- A column of the query's own is found from inside a function's own selects, so many levels further out.
use Rattle.std.proofs.Common.{◌≡◌, refl, ap, sym, ◌∙◌, ℕ, ◌+◌, arith, Bool, true, false, if◌then◌else◌, List, [], ◌∷◌, ◌++◌, length, Option, Some, None, option_map}
use Rattle.std.specs.Prelude.{slice_get, bytes_eq}
use Rattle.away_trees.specs.declared.queries.Col.{Col}
use Rattle.away_trees.specs.declared.queries.Expr.TheVariants as expr
use Rattle.away_names.specs.declared.scope.Hit.{Hit}
use Rattle.away_names.specs.Lookups.{Name, Level, or_else, is_kept, place_of, hit_at, in_item, nearest, column_qualified}
use Rattle.sql_meaning.specs.Placed.{further}
use Rattle.qualified_names.specs.Sight.{reference}
use Rattle.cte_names.proofs.Refined.{LevelsSo, by_alias, not_here, behind_there, called_by, is_called}

-- a hit that is so many selects further out
abbrev shifted : ℕ → Hit → Hit
shifted d hit = record { column = further d hit.column; many = hit.many }

over_either : (d : ℕ) (x y : Option Hit) → option_map (shifted d) (or_else x y) ≡ or_else (option_map (shifted d) x) (option_map (shifted d) y)
over_either d (Some h) y = refl
over_either d None y = refl

over_choice : (d k i : ℕ) (b : Bool) (p : Option ℕ) →
    (if b then option_map (hit_at (k + d) i false) p else None) ≡ option_map (shifted d) (if b then option_map (hit_at k i false) p else None)
over_choice d k i true (Some c) = refl
over_choice d k i true None = refl
over_choice d k i false p = refl

item_further : (a n : Name) (d k i : ℕ) (level : Level) → in_item a n (k + d) i level ≡ option_map (shifted d) (in_item a n k i level)
item_further a n d k i [] = refl
item_further a n d k i (o ∷ os) =
    (λ j. or_else (over_choice d k i (bytes_eq o.alias a) (place_of n o.columns) j) (item_further a n d k (i + 1) os j))
    ∙ sym (over_either d (if bytes_eq o.alias a then option_map (hit_at k i false) (place_of n o.columns) else None) (in_item a n k (i + 1) os))

nearest_further : (a n : Name) (d k : ℕ) (levels : List Level) → nearest (by_alias a n) (k + d) levels ≡ option_map (shifted d) (nearest (by_alias a n) k levels)
nearest_further a n d k [] = refl
nearest_further a n d k (l ∷ ls) =
    let step : k + d + 1 ≡ k + 1 + d = omega arith in
    (λ j. or_else (item_further a n d k 0 l j) (nearest (by_alias a n) (step j) ls))
    ∙ (ap (or_else (option_map (shifted d) (in_item a n k 0 l))) (nearest_further a n d (k + 1) ls)
    ∙ sym (over_either d (in_item a n k 0 l) (nearest (by_alias a n) (k + 1) ls)))

-- nothing of the function's own has the alias
past_own : (a n : Name) → is_kept a ≡ true → (k : ℕ) (ls ms more : List Level) → LevelsSo ls ms → nearest (by_alias a n) k (ms ++ more) ≡ nearest (by_alias a n) (k + length ms) more
past_own a n h k [] [] more r = ap (λ j. nearest (by_alias a n) j more) (let z : k ≡ k + 0 = omega arith in z)
past_own a n h k [] (m ∷ ms) more r =
    ap (λ o. or_else o (nearest (by_alias a n) (k + 1) (ms ++ more))) (ap (in_item a n k 0) r.0)
    ∙ (past_own a n h (k + 1) [] ms more r.1 ∙ ap (λ j. nearest (by_alias a n) j more) (let z : k + 1 + length ms ≡ k + length (m ∷ ms) = omega arith in z))
past_own a n h k (l ∷ ls) [] more r = absurd r
past_own a n h k (l ∷ ls) (m ∷ ms) more r =
    ap (λ o. or_else o (nearest (by_alias a n) (k + 1) (ms ++ more))) (not_here a n h k 0 l m r.0)
    ∙ (past_own a n h (k + 1) ls ms more r.1 ∙ ap (λ j. nearest (by_alias a n) j more) (let z : k + 1 + length ms ≡ k + length (m ∷ ms) = omega arith in z))

pub found_further : (a n : Name) → is_kept a ≡ true → (ls ms more : List Level) → LevelsSo ls ms → (c : Col) → column_qualified a n more ≡ Some (record { column = c; many = false })
    → column_qualified a n (ms ++ more) ≡ Some (record { column = further (length ms) c; many = false })
unfolding column_qualified
found_further a n h ls ms more r c e =
    past_own a n h 0 ls ms more r ∙ (nearest_further a n (length ms) 0 more ∙ ap (option_map (shifted (length ms))) e)

pub called_further : (ms more : List Level) (c : Col) (a n : Name) → reference more c ≡ expr.Dotted a n → reference (ms ++ more) (further (length ms) c) ≡ expr.Dotted a n
called_further ms more c a n e =
    let h = called_by more c a n e in
    is_called (ms ++ more) (further (length ms) c) a n (record {
      level = h.level;
      item = h.item;
      level_there = ap (slice_get (ms ++ more)) (let z : c.level + length ms ≡ length ms + c.level = omega arith in z) ∙ (behind_there ms more c.level ∙ h.level_there);
      item_there = h.item_there;
      name_there = h.name_there;
      alias = h.alias;
    })
