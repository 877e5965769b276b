-- A column that a name stands for is called by the alias of its item and its name, and is found by them again.
use Rattle.std.proofs.Common.{◌≡◌, refl, ap, sym, ◌∙◌, ℕ, suc, ◌+◌, arith, Bool, true, false, if◌then◌else◌, List, [], ◌∷◌, Option, Some, None, option_map}
use Rattle.std.specs.Prelude.{slice_get, cond, bytes_eq}
use Rattle.std.specs.List.{list_any, position_from}
use Rattle.std.specs.Option.{option_and_then}
use Rattle.std.proofs.lemmas.Slice.Eq.{bytes_eq-Decides}
use Rattle.away_trees.specs.declared.queries.Col.{Col}
use Rattle.away_trees.specs.declared.queries.Expr.TheVariants as expr
use Rattle.away_names.specs.declared.scope.Hit.{Hit}
use Rattle.away_names.specs.declared.scope.Seen.{Seen}
use Rattle.away_names.specs.Lookups.{Name, Level, or_else, is_named, place_of, offers, hit_at, in_level, in_item, nearest, column_named, column_qualified}
use Rattle.qualified_names.specs.Sight.{Sight, called, called_in, reference}

from_zero : (n : ℕ) → 0 + n ≡ n
from_zero n = omega arith

-- ---- names in an item

pub record IsThere (n : Name) (k : ℕ) (cs : List (Option Name)) (c : ℕ) : Type 0 where
  pub d : ℕ
  pub place : c ≡ k + d
  pub there : slice_get cs d ≡ Some (Some n)

there_from : (n : Name) (k : ℕ) (cs : List (Option Name)) (c : ℕ) → position_from (is_named n) k cs ≡ Some c → IsThere n k cs c
there_from n k [] c e = absurd cc
there_from n k (None ∷ cs) c e =
    let r = there_from n (k + 1) cs c e in
    record { d = suc r.d; place = r.place ∙ omega arith; there = r.there }
there_from n k (Some m ∷ cs) c e = by (there_from n (k + 1) cs c) (bytes_eq m n) refl e
  where
    by : (position_from (is_named n) (k + 1) cs ≡ Some c → IsThere n (k + 1) cs c) → (b : Bool) → bytes_eq m n ≡ b → cond b (Some k) (position_from (is_named n) (k + 1) cs) ≡ Some c → IsThere n k (Some m ∷ cs) c
    by more true is e = record { d = 0; place = (let s : k ≡ c = cc in sym s) ∙ omega arith; there = ap (λ m. Some (Some m)) ((bytes_eq-Decides m n).0 is) }
    by more false is e =
        let r = more e in
        record { d = suc r.d; place = r.place ∙ omega arith; there = r.there }

pub name_there : (n : Name) (cs : List (Option Name)) (c : ℕ) → place_of n cs ≡ Some c → slice_get cs c ≡ Some (Some n)
unfolding place_of
name_there n cs c e = let r = there_from n 0 cs c e in ap (slice_get cs) (r.place ∙ from_zero r.d) ∙ r.there

-- ---- items of a select

-- the item of a hit, from the i-th on
pub record Holds (n : Name) (depth i : ℕ) (level : Level) (hit : Hit) : Type 0 where
  pub j : ℕ
  pub item : Seen
  pub place : ℕ
  pub there : slice_get level j ≡ Some item
  pub named : place_of n item.columns ≡ Some place
  pub column : hit.column ≡ record { level = depth; item = i + j; column = place }

abbrev first_held : (n : Name) (depth i : ℕ) (o : Seen) (os : Level) (hit : Hit) (many : Bool) (c : ℕ) → place_of n o.columns ≡ Some c → hit_at depth i many c ≡ hit → Holds n depth i (o ∷ os) hit
first_held n depth i o os hit many c is e = record {
  j = 0;
  item = o;
  place = c;
  there = refl;
  named = is;
  column = ap (λ (h : Hit). h.column) (sym e) ∙ ap (λ k. record { level = depth; item = k; column = c }) (let z : i ≡ i + 0 = omega arith in z);
}

abbrev later_held : (n : Name) (depth i : ℕ) (o : Seen) (os : Level) (hit : Hit) → Holds n depth (i + 1) os hit → Holds n depth i (o ∷ os) hit
later_held n depth i o os hit r = record {
  j = suc r.j;
  item = r.item;
  place = r.place;
  there = r.there;
  named = r.named;
  column = r.column ∙ ap (λ k. record { level = depth; item = k; column = r.place }) (let z : i + 1 + r.j ≡ i + suc r.j = omega arith in z);
}

some_is : {A : Type 0} (x y : A) → Some x ≡ Some y → x ≡ y
some_is x y e = cc

pub record HoldsAs (a n : Name) (depth i : ℕ) (level : Level) (hit : Hit) : Type 0 where
  pub held : Holds n depth i level hit
  pub alias : held.item.alias ≡ a
  pub many : hit.many ≡ false

pub qualified_held : (a n : Name) (depth i : ℕ) (level : Level) (hit : Hit) → in_item a n depth i level ≡ Some hit → HoldsAs a n depth i level hit
qualified_held a n depth i [] hit e = absurd cc
qualified_held a n depth i (o ∷ os) hit e = by (qualified_held a n depth (i + 1) os hit) (bytes_eq o.alias a) refl (place_of n o.columns) refl e
  where
    later : HoldsAs a n depth (i + 1) os hit → HoldsAs a n depth i (o ∷ os) hit
    later r = record { held = later_held n depth i o os hit r.held; alias = r.alias; many = r.many }

    by : (in_item a n depth (i + 1) os ≡ Some hit → HoldsAs a n depth (i + 1) os hit) → (b : Bool) → bytes_eq o.alias a ≡ b → (p : Option ℕ) → place_of n o.columns ≡ p
        → or_else (if b then option_map (hit_at depth i false) p else None) (in_item a n depth (i + 1) os) ≡ Some hit → HoldsAs a n depth i (o ∷ os) hit
    by more true same (Some c) is e =
        let h : hit_at depth i false c ≡ hit = some_is _ _ e in
        record { held = first_held n depth i o os hit false c is h; alias = (bytes_eq-Decides o.alias a).0 same; many = ap (λ (h : Hit). h.many) (sym h) }
    by more true same None is e = later (more e)
    by more false same p is e = later (more e)

pub record HoldsBoth (n : Name) (depth i : ℕ) (level : Level) (hit : Hit) : Type 0 where
  pub held : Holds n depth i level hit
  pub qualified : in_item held.item.alias n depth i level ≡ Some (record { column = hit.column; many = false })

none_chosen : {A : Type 0} (b : Bool) → (if b then None else None) ≡ (let o : Option A = None in o)
none_chosen true = refl
none_chosen false = refl

skipped : (a n : Name) (depth i : ℕ) (o : Seen) (os : Level) → place_of n o.columns ≡ None → in_item a n depth i (o ∷ os) ≡ in_item a n depth (i + 1) os
skipped a n depth i o os is =
    ap (λ p. or_else (if bytes_eq o.alias a then option_map (hit_at depth i false) p else None) (in_item a n depth (i + 1) os)) is
    ∙ ap (λ p. or_else p (in_item a n depth (i + 1) os)) (none_chosen (bytes_eq o.alias a))

pub named_held : (n : Name) (depth i : ℕ) (level : Level) (hit : Hit) → in_level n depth i level ≡ Some hit → HoldsBoth n depth i level hit
named_held n depth i [] hit e = absurd cc
named_held n depth i (o ∷ os) hit e = by (named_held n depth (i + 1) os hit) (place_of n o.columns) refl e
  where
    by : (in_level n depth (i + 1) os ≡ Some hit → HoldsBoth n depth (i + 1) os hit) → (p : Option ℕ) → place_of n o.columns ≡ p
        → or_else (option_map (hit_at depth i (list_any (offers n) os)) p) (in_level n depth (i + 1) os) ≡ Some hit → HoldsBoth n depth i (o ∷ os) hit
    by more (Some c) is e =
        let h : hit_at depth i (list_any (offers n) os) c ≡ hit = some_is _ _ e in
        record {
          held = first_held n depth i o os hit (list_any (offers n) os) c is h;
          qualified = (λ k. or_else (if (bytes_eq-Decides o.alias o.alias).1 refl k then option_map (hit_at depth i false) (is k) else None) (in_item o.alias n depth (i + 1) os))
              ∙ ap (λ (h : Hit). Some (record { column = h.column; many = false })) h;
        }
    by more None is e =
        let r = more e in
        record { held = later_held n depth i o os hit r.held; qualified = skipped r.held.item.alias n depth i o os is ∙ r.qualified }

none_held : (a n : Name) (depth i : ℕ) (level : Level) → in_level n depth i level ≡ None → in_item a n depth i level ≡ None
none_held a n depth i [] e = refl
none_held a n depth i (o ∷ os) e = by (none_held a n depth (i + 1) os) (place_of n o.columns) refl e
  where
    by : (in_level n depth (i + 1) os ≡ None → in_item a n depth (i + 1) os ≡ None) → (p : Option ℕ) → place_of n o.columns ≡ p
        → or_else (option_map (hit_at depth i (list_any (offers n) os)) p) (in_level n depth (i + 1) os) ≡ None → in_item a n depth i (o ∷ os) ≡ None
    by more (Some c) is e = absurd cc
    by more None is e = skipped a n depth i o os is ∙ more e

-- ---- selects

reference_so : (levels : Sight) (level : Level) (o : Seen) (n : Name) (d j c : ℕ) → slice_get levels d ≡ Some level → slice_get level j ≡ Some o → slice_get o.columns c ≡ Some (Some n)
    → reference levels (record { level = d; item = j; column = c }) ≡ expr.Dotted o.alias n
unfolding reference
reference_so levels level o n d j c h k l =
    let col : Col = record { level = d; item = j; column = c } in
    ap (λ x. called_in col (option_and_then (λ (level : Level). slice_get level j) x)) h ∙ (ap (called_in col) k ∙ ap (λ x. called o.alias col (option_and_then (λ (n : Option Name). n) x)) l)

-- the select of a hit, from the k-th on
pub record Near (has : ℕ → Level → Option Hit) (k : ℕ) (ls : Sight) (hit : Hit) : Type 0 where
  pub d : ℕ
  pub level : Level
  pub there : slice_get ls d ≡ Some level
  pub hits : has (k + d) level ≡ Some hit

near : (has : ℕ → Level → Option Hit) (k : ℕ) (ls : Sight) (hit : Hit) → nearest has k ls ≡ Some hit → Near has k ls hit
near has k [] hit e = absurd cc
near has k (l ∷ ls) hit e = by (near has (k + 1) ls hit) (has k l) refl e
  where
    by : (nearest has (k + 1) ls ≡ Some hit → Near has (k + 1) ls hit) → (o : Option Hit) → has k l ≡ o → or_else o (nearest has (k + 1) ls) ≡ Some hit → Near has k (l ∷ ls) hit
    by more (Some h) is e = record { d = 0; level = l; there = refl; hits = ap (λ j. has j l) (let z : k + 0 ≡ k = omega arith in z) ∙ (is ∙ e) }
    by more None is e =
        let r = more e in
        record { d = suc r.d; level = r.level; there = r.there; hits = ap (λ j. has j r.level) (let z : k + suc r.d ≡ k + 1 + r.d = omega arith in z) ∙ r.hits }

abbrev by_name : Name → ℕ → Level → Option Hit
by_name n depth level = in_level n depth 0 level

abbrev by_alias : Name → Name → ℕ → Level → Option Hit
by_alias a n depth level = in_item a n depth 0 level

-- what an alias with a name stands for is called so
pub qualified_read : (a n : Name) (levels : Sight) (hit : Hit) → column_qualified a n levels ≡ Some hit → (reference levels hit.column ≡ expr.Dotted a n) × (hit.many ≡ false)
unfolding column_qualified
qualified_read a n levels hit e =
    let r = near (by_alias a n) 0 levels hit e in
    let h = qualified_held a n (0 + r.d) 0 r.level hit r.hits in (
      ap (reference levels) (h.held.column ∙ (λ i. record { level = from_zero r.d i; item = from_zero h.held.j i; column = h.held.place }))
          ∙ (reference_so levels r.level h.held.item n r.d h.held.j h.held.place r.there h.held.there (name_there n h.held.item.columns h.held.place h.held.named)
          ∙ ap (λ a. expr.Dotted a n) h.alias),
      h.many,
    )

pub record IsRead (n : Name) (levels : Sight) (c : Col) : Type 0 where
  pub alias : Name
  pub is : reference levels c ≡ expr.Dotted alias n
  pub found : column_qualified alias n levels ≡ Some (record { column = c; many = false })

-- the item of a hit and its select, from the k-th on
pub record NearBoth (n : Name) (k : ℕ) (ls : Sight) (hit : Hit) : Type 0 where
  pub d : ℕ
  pub j : ℕ
  pub place : ℕ
  pub level : Level
  pub item : Seen
  pub there : slice_get ls d ≡ Some level
  pub item_there : slice_get level j ≡ Some item
  pub named : place_of n item.columns ≡ Some place
  pub column : hit.column ≡ record { level = k + d; item = j; column = place }
  pub qualified : nearest (by_alias item.alias n) k ls ≡ Some (record { column = hit.column; many = false })

near_both : (n : Name) (k : ℕ) (ls : Sight) (hit : Hit) → nearest (by_name n) k ls ≡ Some hit → NearBoth n k ls hit
near_both n k [] hit e = absurd cc
near_both n k (l ∷ ls) hit e = by (near_both n (k + 1) ls hit) (in_level n k 0 l) refl e
  where
    by : (nearest (by_name n) (k + 1) ls ≡ Some hit → NearBoth n (k + 1) ls hit) → (o : Option Hit) → in_level n k 0 l ≡ o → or_else o (nearest (by_name n) (k + 1) ls) ≡ Some hit → NearBoth n k (l ∷ ls) hit
    by more (Some h) is e =
        let b = named_held n k 0 l hit (is ∙ e) in
        record {
          d = 0;
          j = b.held.j;
          place = b.held.place;
          level = l;
          item = b.held.item;
          there = refl;
          item_there = b.held.there;
          named = b.held.named;
          column = b.held.column ∙ (let z : k ≡ k + 0 = omega arith in λ i. record { level = z i; item = from_zero b.held.j i; column = b.held.place });
          qualified = ap (λ o. or_else o (nearest (by_alias b.held.item.alias n) (k + 1) ls)) b.qualified;
        }
    by more None is e =
        let r = more e in
        record {
          d = suc r.d;
          j = r.j;
          place = r.place;
          level = r.level;
          item = r.item;
          there = r.there;
          item_there = r.item_there;
          named = r.named;
          column = r.column ∙ ap (λ x. record { level = x; item = r.j; column = r.place }) (let z : k + 1 + r.d ≡ k + suc r.d = omega arith in z);
          qualified = ap (λ o. or_else o (nearest (by_alias r.item.alias n) (k + 1) ls)) (none_held r.item.alias n k 0 l is) ∙ r.qualified;
        }

-- what a name stands for is called by the alias of its item and the name, and is found by them
pub named_read : (n : Name) (levels : Sight) (hit : Hit) → column_named n levels ≡ Some hit → IsRead n levels hit.column
unfolding column_named column_qualified
named_read n levels hit e =
    let r = near_both n 0 levels hit e in
    record {
      alias = r.item.alias;
      is = ap (reference levels) (r.column ∙ ap (λ x. record { level = x; item = r.j; column = r.place }) (from_zero r.d)) ∙ reference_so levels r.level r.item n r.d r.j r.place r.there r.item_there (name_there n r.item.columns r.place r.named);
      found = r.qualified;
    }
