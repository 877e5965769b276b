-- Columns of the query's own: each is found by the alias of its item and its name, while more items and selects come into sight.
use Rattle.std.proofs.Common.{◌≡◌, refl, ap, ◌∙◌, ℕ, zero, suc, ◌+◌, ◌<◌, ◌≤◌, ◌^◌, Bool, true, false, if◌then◌else◌}
use Rattle.std.proofs.Common.{List, [], ◌∷◌, ◌++◌, length, Option, Some, None, option_map, arith}
use Rattle.std.specs.Prelude.{slice_get, bytes_eq}
use Rattle.std.specs.Option.{option_and_then}
use Rattle.std.proofs.lemmas.Option.{slice_get_within}
use Rattle.away_trees.specs.declared.queries.Col.{Col}
use Rattle.away_trees.specs.declared.queries.Expr.TheVariants as expr
use Rattle.away_names.specs.declared.scope.Hit.{Hit}
use Rattle.away_names.specs.declared.scope.Seen.{Seen}
use Rattle.away_names.specs.Lookups.{Name, Level, Scope, or_else, place_of, hit_at, in_item, nearest, column_qualified, is_kept}
use Rattle.call_forms.specs.Template.{deeper}
use Rattle.qualified_names.specs.Sight.{holder, name_at, called, called_in, reference}
use Rattle.qualified_names.specs.Unambiguous as c
use Rattle.qualified_names.specs.Unambiguous.{IsClear, value}
use Rattle.qualified_names.proofs.Gives.{Every}
use Rattle.cte_parts.specs.Names.{alias_name}
use Rattle.cte_names.specs.Own.{IsOwn}
use Rattle.cte_names.proofs.Differences.{Apart, apart_false, same_true}

nth_left : {X : Type 0} (xs ys : List X) (k : ℕ) → k < length xs → slice_get (xs ++ ys) k ≡ slice_get xs k
nth_left [] ys k l = absurd (omega arith)
nth_left (x ∷ xs) ys zero l = refl
nth_left (x ∷ xs) ys (suc k) l = nth_left xs ys k (omega (arith, l))

pub nth_seam : {X : Type 0} (xs : List X) (x : X) → slice_get (xs ++ (x ∷ [])) (length xs) ≡ Some x
nth_seam [] x = refl
nth_seam (y ∷ xs) x = nth_seam xs x

-- none of the aliases from number k on
abbrev pub Older : ℕ → Name → Type 0
Older k a = (j : ℕ) → k ≤ j → j < 2 ^ 64 → Apart a (alias_name j)

-- a column of an item in sight, where no item of the same alias comes before it, and none from number k on will
pub record Own (k : ℕ) (levels : List Level) (col : Col) : Type 0 where
  pub item : Seen
  pub name : Name
  pub kept : is_kept item.alias ≡ true
  pub own_name : is_kept name ≡ true
  pub older : Older k item.alias
  pub held : holder levels col ≡ Some item
  pub named : name_at item col.column ≡ Some name
  pub found : column_qualified item.alias name levels ≡ Some (record { column = col; many = false })

pub reference_is : (k : ℕ) (levels : List Level) (col : Col) → (h : Own k levels col) → reference levels col ≡ expr.Dotted h.item.alias h.name
unfolding reference
reference_is k levels col h = ap (called_in col) h.held ∙ ap (called h.item.alias col) h.named

pub is_own : (k : ℕ) (levels : List Level) (col : Col) → Own k levels col → IsOwn levels col
is_own k levels col h =
    record { alias = h.item.alias; name = h.name; kept = h.kept; named = h.own_name; is_reference = reference_is k levels col h; is_found = h.found }

pub column_clear : (k : ℕ) (s : Scope) (col : Col) → Own k s.levels col → IsClear value s (expr.Column col)
column_clear k s col h = c.column col h.item.alias h.name (reference_is k s.levels col h) h.found

pub older_later : (k j : ℕ) (a : Name) → k ≤ j → Older k a → Older j a
older_later k j a le h i more fits = h i (omega (arith, le, more)) fits

pub own_later : (k j : ℕ) (levels : List Level) (col : Col) → k ≤ j → Own k levels col → Own j levels col
own_later k j levels col le h =
    record {
      item = h.item;
      name = h.name;
      kept = h.kept;
      own_name = h.own_name;
      older = older_later k j h.item.alias le h.older;
      held = h.held;
      named = h.named;
      found = h.found;
    }

-- ---- a select further in, where nothing is in sight yet

abbrev deep : Hit → Hit
deep h = record { column = deeper h.column; many = h.many }

both_deep : (x y : Option Hit) → or_else (option_map deep x) (option_map deep y) ≡ option_map deep (or_else x y)
both_deep None y = refl
both_deep (Some h) y = refl

module _ (a n : Name) where
  abbrev here : ℕ → Level → Option Hit
  here depth level = in_item a n depth 0 level

  item_deep : (d i : ℕ) (l : Level) → in_item a n (suc d) i l ≡ option_map deep (in_item a n d i l)
  item_deep d i [] = refl
  item_deep d i (o ∷ os) =
      (λ z. or_else (by (bytes_eq o.alias a) (place_of n o.columns) z) (item_deep d (i + 1) os z))
      ∙ both_deep (if bytes_eq o.alias a then option_map (hit_at d i false) (place_of n o.columns) else None) (in_item a n d (i + 1) os)
    where
      by : (b : Bool) (p : Option ℕ)
          → (if b then option_map (hit_at (suc d) i false) p else None) ≡ option_map deep (if b then option_map (hit_at d i false) p else None)
      by true None = refl
      by true (Some x) = refl
      by false p = refl

  near_deep : (k : ℕ) (ls : List Level) → nearest here (suc k) ls ≡ option_map deep (nearest here k ls)
  near_deep k [] = refl
  near_deep k (l ∷ ls) =
      let more : suc k + 1 ≡ suc (k + 1) = omega arith in
      (λ z. or_else (item_deep k 0 l z) ((ap (λ j. nearest here j ls) more ∙ near_deep (k + 1) ls) z)) ∙ both_deep (here k l) (nearest here (k + 1) ls)

  found_deeper : (ls : List Level) → column_qualified a n ([] ∷ ls) ≡ option_map deep (column_qualified a n ls)
  unfolding column_qualified
  found_deeper ls = let one : 0 + 1 ≡ suc 0 = omega arith in ap (λ j. nearest here j ls) one ∙ near_deep 0 ls

  -- ---- an item at the end, which has another alias

  item_more : (d i : ℕ) (l : Level) (o : Seen) → bytes_eq o.alias a ≡ false → in_item a n d i (l ++ o ∷ []) ≡ in_item a n d i l
  item_more d i [] o h = ap (λ b. or_else (if b then option_map (hit_at d i false) (place_of n o.columns) else None) None) h
  item_more d i (x ∷ l) o h =
      ap (λ r. or_else (if bytes_eq x.alias a then option_map (hit_at d i false) (place_of n x.columns) else None) r) (item_more d (i + 1) l o h)

  found_more : (l : Level) (ls : List Level) (o : Seen) → bytes_eq o.alias a ≡ false → column_qualified a n ((l ++ o ∷ []) ∷ ls) ≡ column_qualified a n (l ∷ ls)
  unfolding column_qualified
  found_more l ls o h = ap (λ r. or_else r (nearest here (0 + 1) ls)) (item_more 0 0 l o h)

pub own_deeper : (k : ℕ) (ls : List Level) (col : Col) → Own k ls col → Own k ([] ∷ ls) (deeper col)
own_deeper k ls col h = record {
  item = h.item;
  name = h.name;
  kept = h.kept;
  own_name = h.own_name;
  older = h.older;
  held = h.held;
  named = h.named;
  found = found_deeper h.item.alias h.name ls ∙ ap (λ o. option_map deep o) h.found;
}

still_held : (l : Level) (ls : List Level) (o x : Seen) (level item : ℕ)
    → option_and_then (λ (l : Level). slice_get l item) (slice_get (l ∷ ls) level) ≡ Some x
    → option_and_then (λ (l : Level). slice_get l item) (slice_get ((l ++ o ∷ []) ∷ ls) level) ≡ Some x
still_held l ls o x zero item h = nth_left l (o ∷ []) item (slice_get_within l item x h) ∙ h
still_held l ls o x (suc level) item h = h

pub own_beside : (k : ℕ) (l : Level) (ls : List Level) (o : Seen) (col : Col) → (h : Own k (l ∷ ls) col) → Apart h.item.alias o.alias
    → Own k ((l ++ o ∷ []) ∷ ls) col
own_beside k l ls o col h other = record {
  item = h.item;
  name = h.name;
  kept = h.kept;
  own_name = h.own_name;
  older = h.older;
  held = still_held l ls o h.item col.level col.item h.held;
  named = h.named;
  found = found_more h.item.alias h.name l ls o (apart_false o.alias h.item.alias other) ∙ h.found;
}

-- ---- the item at the end itself

item_last : (a n : Name) (d i : ℕ) (l : Level) (o : Seen) (j : ℕ) → o.alias ≡ a → Every (λ x. Apart a x.alias) l → place_of n o.columns ≡ Some j
    → in_item a n d i (l ++ o ∷ []) ≡ Some (hit_at d (i + length l) false j)
item_last a n d i [] o j same h p =
    let here : i ≡ i + 0 = omega arith in
    (λ z. or_else (if (ap (λ x. bytes_eq x a) same ∙ same_true a) z then option_map (hit_at d i false) (p z) else None) None)
    ∙ ap (λ i. Some (hit_at d i false j)) here
item_last a n d i (x ∷ l) o j same h p =
    let further : i + 1 + length l ≡ i + suc (length l) = omega arith in
    ap (λ b. or_else (if b then option_map (hit_at d i false) (place_of n x.columns) else None) (in_item a n d (i + 1) (l ++ o ∷ [])))
    (apart_false x.alias a h.0)
    ∙ (item_last a n d (i + 1) l o j same h.1 p ∙ ap (λ i. Some (hit_at d i false j)) further)

pub found_last : (l : Level) (ls : List Level) (o : Seen) (n : Name) (j : ℕ) → Every (λ x. Apart o.alias x.alias) l → place_of n o.columns ≡ Some j
    → column_qualified o.alias n ((l ++ o ∷ []) ∷ ls) ≡ Some (hit_at 0 (length l) false j)
unfolding column_qualified
found_last l ls o n j h p =
    let here : 0 + length l ≡ length l = omega arith in
    ap (λ r. or_else r (nearest (λ depth level. in_item o.alias n depth 0 level) (0 + 1) ls)) (item_last o.alias n 0 0 l o j refl h p)
    ∙ ap (λ i. Some (hit_at 0 i false j)) here

unfoldable pub own_last : (k : ℕ) (l : Level) (ls : List Level) (o : Seen) (n : Name) (j : ℕ) → is_kept o.alias ≡ true → is_kept n ≡ true → Older k o.alias
    → Every (λ x. Apart o.alias x.alias) l
    → slice_get o.columns j ≡ Some (Some n) → place_of n o.columns ≡ Some j → Own k ((l ++ o ∷ []) ∷ ls) (record { level = 0; item = length l; column = j })
own_last k l ls o n j kept own_name older h there p = record {
  item = o;
  name = n;
  kept = kept;
  own_name = own_name;
  older = older;
  held = nth_seam l o;
  named = ap (λ x. option_and_then (λ (n : Option Name). n) x) there;
  found = found_last l ls o n j h p;
}
