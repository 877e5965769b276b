-- A select and a query that have types are marked as they are to be, where their parts are.
use Rattle.std.proofs.Common.{◌≡◌, refl, ap, sym, ◌∙◌, ℕ, Bool, true, false, ◌&&◌, if◌then◌else◌, List, [], ◌∷◌, ◌++◌, map, fold, Option, Some, None, option_map}
use Rattle.std.specs.Prelude.{is_some, option_and_then}
use Rattle.std.specs.List.{list_all}
use Rattle.std.proofs.lemmas.Bool.{false≢true}
use Rattle.away_values.specs.declared.types.Ty.{Ty}
use Rattle.away_values.specs.declared.types.Ty.TheVariants.{Boolean}
use Rattle.away_trees.specs.declared.queries.Expr.{Expr}
use Rattle.away_trees.specs.declared.queries.FromItem.{FromItem}
use Rattle.away_trees.specs.declared.queries.Item.{Item}
use Rattle.away_trees.specs.declared.queries.Key.{Key}
use Rattle.away_trees.specs.declared.queries.Select.{Select}
use Rattle.away_trees.specs.declared.queries.Recursive.{Recursive}
use Rattle.away_trees.specs.declared.queries.Expr.TheViews.{roll-Select, roll-Query}
use Rattle.away_typing.specs.declared.kind.Kind.{Kind}
use Rattle.away_typing.specs.declared.kind.Kind.TheVariants.{Of}
use Rattle.away_typing.specs.Kinds.{is_right}
use Rattle.away_typing.specs.Typing.{Frame, Places, inside, Shape, Term, Origin, Part, Listing, Whole, Terms, kind_or_null, passed, scalar_kind, exists_kind, listed, before, framed, maybe_fits, or_none, shape_of, typing, pair}
use Rattle.sql_meaning.proofs.Related.{Alike, AlikeOption}
use Rattle.away_typing.specs.Typing as t
use Rattle.elaboration_law.specs.Rebuilding.{rebuilding}
use Rattle.elaboration.specs.Elaborating.{MadeFrom, MadeItem, MadeKey, MadeSelect, Making, Parting, Itemizing, Sorting, Selecting, Recursing, parts_made, frame_made, frame_or_none, columns_or_none, selected, elaborating}
use Rattle.elaboration_law.proofs.Rights.{right, and_left, and_right, only_true, fits_right, is_right_right, number_right, all_right}
use Rattle.elaboration_law.proofs.MarkedExpressions.{Exprs, Froms, Items, Keys, Queries, Selects, option_marked, right_option}

-- ---- FROM

some_behind : {A B : Type 0} (f : A → Option B) (o : Option A) → is_some (option_and_then f o) ≡ true → is_some o ≡ true
some_behind f None h = h
some_behind f (Some a) h = refl

pub listed_some : (columns : List (List ℕ)) (s : Shape) → is_some (listed columns s) ≡ true → is_some s ≡ true
unfolding listed
listed_some [] s h = h
listed_some (c ∷ cs) s h = some_behind _ s h

pub scalar_some : (s : Shape) → right (scalar_kind s) ≡ true → is_some s ≡ true
unfolding scalar_kind
scalar_some None h = h
scalar_some (Some ts) h = refl

pub exists_some : (s : Shape) → right (exists_kind s) ≡ true → is_some s ≡ true
unfolding exists_kind
exists_some s h = only_true (is_some s) (Of Boolean) h

abbrev from_it : MadeFrom → FromItem
from_it m = m.it

abbrev PartsMarked : Places → List Part → List FromItem → List Parting → Frame → Type 0
PartsMarked p xs zs ms frame = (frame_made (parts_made p ms frame) frame ≡ framed p xs frame) × (map from_it (parts_made p ms frame) ≡ zs)

parts_marked : (p : Places) (xs : List Part) (zs : List FromItem) (ms : List Parting) → Alike Froms xs zs ms → (frame : Frame) → is_some (framed p xs frame) ≡ true → PartsMarked p xs zs ms frame
parts_marked p [] [] [] r frame h = (refl, refl)
parts_marked p (x ∷ xs) (z ∷ zs) (m ∷ ms) r frame h = go (x p frame) refl (λ ts k. parts_marked p xs zs ms r.1 (frame ++ ts ∷ []) k)
  where
    go : (s : Shape) → x p frame ≡ s → ((ts : List Ty) → is_some (framed p xs (frame ++ ts ∷ [])) ≡ true → PartsMarked p xs zs ms (frame ++ ts ∷ [])) → PartsMarked p (x ∷ xs) (z ∷ zs) (m ∷ ms) frame
    go None e ih = absurd (false≢true (sym (ap (λ s. is_some (option_and_then (λ ts. framed p xs (frame ++ ts ∷ [])) s)) e) ∙ h))
    go (Some ts) e ih =
        let is : m p frame ≡ record { shape = Some ts; it = z } = r.0 p frame (ap is_some e) ∙ (λ i. record { shape = e i; it = z }) in
        let rest = ih ts (sym (ap (λ s. is_some (option_and_then (λ ts. framed p xs (frame ++ ts ∷ [])) s)) e) ∙ h) in (
          (λ i. option_and_then (λ ts. frame_made (parts_made p ms (frame ++ columns_or_none (is i).shape ∷ [])) (frame ++ ts ∷ [])) (is i).shape)
              ∙ rest.0 ∙ sym (ap (option_and_then (λ ts. framed p xs (frame ++ ts ∷ []))) e),
          (λ i. (is i).it ∷ map from_it (parts_made p ms (frame ++ columns_or_none (is i).shape ∷ []))) ∙ (λ i. z ∷ rest.1 i),
        )
parts_marked p _ _ _ r frame h = absurd r

-- ---- a select

items_marked : (p : Places) (xs : List Term) (zs : List Item) (ms : List Itemizing) → Alike Items xs zs ms → all_right (map (λ k. k p) xs) ≡ true
    → (map (λ (m : MadeItem). m.kind) (map (λ m. m p) ms) ≡ map (λ k. k p) xs) × (map (λ (m : MadeItem). m.it) (map (λ m. m p) ms) ≡ zs)
items_marked p [] [] [] r h = (refl, refl)
items_marked p (x ∷ xs) (z ∷ zs) (m ∷ ms) r h =
    let is = r.0 p (and_left (right (x p)) _ h) in
    let rest = items_marked p xs zs ms r.1 (and_right (right (x p)) _ h) in
    ((λ i. (is i).kind ∷ rest.0 i), (λ i. (is i).it ∷ rest.1 i))
items_marked p _ _ _ r h = absurd r

keys_marked : (p : Places) (xs : List Term) (zs : List Key) (ms : List Sorting) → Alike Keys xs zs ms → all_right (map (λ k. k p) xs) ≡ true
    → (map (λ (m : MadeKey). m.kind) (map (λ m. m p) ms) ≡ map (λ k. k p) xs) × (map (λ (m : MadeKey). m.it) (map (λ m. m p) ms) ≡ zs)
keys_marked p [] [] [] r h = (refl, refl)
keys_marked p (x ∷ xs) (z ∷ zs) (m ∷ ms) r h =
    let is = r.0 p (and_left (right (x p)) _ h) in
    let rest = keys_marked p xs zs ms r.1 (and_right (right (x p)) _ h) in
    ((λ i. (is i).kind ∷ rest.0 i), (λ i. (is i).it ∷ rest.1 i))
keys_marked p _ _ _ r h = absurd r

all_is_right : (ks : List Kind) → list_all is_right ks ≡ true → all_right ks ≡ true
all_is_right [] h = refl
all_is_right (k ∷ ks) h = λ i. is_right_right k (and_left (is_right k) _ h) i && all_is_right ks (and_right (is_right k) _ h) i

fits_option : (t : Ty) (o : Option Kind) → maybe_fits t o ≡ true → right_option o ≡ true
unfolding maybe_fits
fits_option t None h = refl
fits_option t (Some k) h = fits_right t k h

number_option : (o : Option Kind) → t.maybe_number o ≡ true → right_option o ≡ true
unfolding t.maybe_number
number_option None h = refl
number_option (Some k) h = number_right k h

record AllRight (ls : List Kind) (w : Option Kind) (os : List Kind) (m : Option Kind) : Type 0 where
  list : all_right ls ≡ true
  filter : right_option w ≡ true
  order : all_right os ≡ true
  limit : right_option m ≡ true

some_if : {A : Type 0} (b : Bool) (a : A) → is_some (if b then Some a else None) ≡ true → b ≡ true
some_if true a h = refl
some_if false a h = h

kinds_right : (list : List Kind) (filter : Option Kind) (order : List Kind) (limit : Option Kind) → is_some (t.select_kinds list filter order limit) ≡ true → AllRight list filter order limit
unfolding t.select_kinds
kinds_right list filter order limit h =
    let b = some_if (maybe_fits Boolean filter && (list_all is_right list && (list_all is_right order && t.maybe_number limit))) list h in
    let c = and_right (maybe_fits Boolean filter) _ b in
    let d = and_right (list_all is_right list) _ c in
    record {
      list = all_is_right list (and_left (list_all is_right list) _ c);
      filter = fits_option Boolean filter (and_left (maybe_fits Boolean filter) _ b);
      order = all_is_right order (and_left (list_all is_right order) _ d);
      limit = number_option limit (and_right (list_all is_right order) _ d);
    }

abbrev listing_at : List Term → Option Term → List Term → Option Term → Places → Option (List Kind)
listing_at l w o m q = t.select_kinds (map (λ k. k q) l) (option_map (λ k. k q) w) (map (λ k. k q) o) (option_map (λ k. k q) m)

pub select_marked : (p : Places) (l₁ : List Term) (l₂ : List Item) (l₃ : List Itemizing) (f₁ : List Part) (f₂ : List FromItem) (f₃ : List Parting) (w₁ : Option Term) (w₂ : Option Expr) (w₃ : Option Making) (o₁ : List Term) (o₂ : List Key) (o₃ : List Sorting) (m₁ : Option Term) (m₂ : Option Expr) (m₃ : Option Making)
    → Alike Items l₁ l₂ l₃ → Alike Froms f₁ f₂ f₃ → AlikeOption Exprs w₁ w₂ w₃ → Alike Keys o₁ o₂ o₃ → AlikeOption Exprs m₁ m₂ m₃
    → is_some (option_and_then (λ frame. listing_at l₁ w₁ o₁ m₁ (inside frame p)) (framed p f₁ [])) ≡ true
    → elaborating.select (record { list = l₃; from = f₃; filter = w₃; order = o₃; limit = m₃ }) p
    ≡ record { kinds = option_and_then (λ frame. listing_at l₁ w₁ o₁ m₁ (inside frame p)) (framed p f₁ []); it = roll-Select (record { list = l₂; from = f₂; filter = w₂; order = o₂; limit = m₂ }) }
select_marked p l₁ l₂ l₃ f₁ f₂ f₃ w₁ w₂ w₃ o₁ o₂ o₃ m₁ m₂ m₃ lr fr wr kr mr h =
    go (framed p f₁ []) refl
  where
    go : (o : Option Frame) → framed p f₁ [] ≡ o → elaborating.select (record { list = l₃; from = f₃; filter = w₃; order = o₃; limit = m₃ }) p
        ≡ record { kinds = option_and_then (λ frame. listing_at l₁ w₁ o₁ m₁ (inside frame p)) (framed p f₁ []); it = roll-Select (record { list = l₂; from = f₂; filter = w₂; order = o₂; limit = m₂ }) }
    go None e = absurd (false≢true (sym (ap (λ o. is_some (option_and_then (λ frame. listing_at l₁ w₁ o₁ m₁ (inside frame p)) o)) e) ∙ h))
    go (Some frame) e =
        let q = inside frame p in
        let parts = parts_marked p f₁ f₂ f₃ fr [] (ap is_some e) in
        let found : frame_made (parts_made p f₃ []) [] ≡ Some frame = parts.0 ∙ e in
        let rights = kinds_right (map (λ k. k q) l₁) (option_map (λ k. k q) w₁) (map (λ k. k q) o₁) (option_map (λ k. k q) m₁) (sym (ap (λ o. is_some (option_and_then (λ frame. listing_at l₁ w₁ o₁ m₁ (inside frame p)) o)) e) ∙ h) in
        let l = items_marked q l₁ l₂ l₃ lr rights.list in
        let w = option_marked q w₁ w₂ w₃ wr rights.filter in
        let o = keys_marked q o₁ o₂ o₃ kr rights.order in
        let m = option_marked q m₁ m₂ m₃ mr rights.limit in
        (λ i. let q = inside (frame_or_none (found i)) p in selected (parts_made p f₃ []) (found i) (map (λ x. x q) l₃) (option_map (λ (x : Making). x q) w₃) (map (λ x. x q) o₃) (option_map (λ (x : Making). x q) m₃))
        ∙ (λ i. record { kinds = t.select_kinds (l.0 i) (w.0 i) (o.0 i) (m.0 i); it = roll-Select (record { list = l.1 i; from = parts.1 i; filter = w.1 i; order = o.1 i; limit = m.1 i }) })
        ∙ sym (λ i. record { kinds = option_and_then (λ frame. listing_at l₁ w₁ o₁ m₁ (inside frame p)) (e i); it = roll-Select (record { list = l₂; from = f₂; filter = w₂; order = o₂; limit = m₂ }) })

-- ---- UNION ALL

abbrev no_fault : Option (Option (List Kind)) → Bool
no_fault None = true
no_fault (Some ks) = is_some ks

no_fault_if : (o : Option (Option (List Kind))) → is_some (or_none o) ≡ true → no_fault o ≡ true
unfolding or_none
no_fault_if None h = refl
no_fault_if (Some ks) h = h

both_some : (a b : Option (List Kind)) → is_some (t.both a b) ≡ true → (is_some a ≡ true) × (is_some b ≡ true)
unfolding t.both
both_some None b h = absurd (false≢true h)
both_some (Some x) None h = absurd (false≢true h)
both_some (Some x) (Some y) h = (refl, refl)

further_right : (k : Option (Option (List Kind))) (own : Option (List Kind)) → no_fault (t.further k own) ≡ true → (no_fault k ≡ true) × (is_some own ≡ true)
unfolding t.further
further_right None own h = (refl, h)
further_right (Some ks) own h = both_some ks own h

union_right : (p : Places) (xs : List Listing) (k : Option (Option (List Kind))) → no_fault (fold (λ ks s. t.further ks (s p)) k xs) ≡ true → (no_fault k ≡ true) × (list_all (λ (s : Listing). is_some (s p)) xs ≡ true)
union_right p [] k h = (h, refl)
union_right p (x ∷ xs) k h =
    let rest = union_right p xs (t.further k (x p)) h in
    let here = further_right k (x p) rest.0 in
    (here.0, (λ i. here.1 i && rest.1 i))

abbrev select_it : MadeSelect → Select
select_it m = m.it

selects_marked : (p : Places) (xs : List Listing) (zs : List Select) (ms : List Selecting) → Alike Selects xs zs ms → list_all (λ (s : Listing). is_some (s p)) xs ≡ true → (k : Option (Option (List Kind)))
    → (fold (λ ks (s : MadeSelect). t.further ks s.kinds) k (map (λ s. s p) ms) ≡ fold (λ ks s. t.further ks (s p)) k xs) × (map select_it (map (λ s. s p) ms) ≡ zs)
selects_marked p [] [] [] r h k = (refl, refl)
selects_marked p (x ∷ xs) (z ∷ zs) (m ∷ ms) r h k =
    let is = r.0 p (and_left (is_some (x p)) _ h) in
    let rest = selects_marked p xs zs ms r.1 (and_right (is_some (x p)) _ h) (t.further k (x p)) in
    ((λ i. fold (λ ks (s : MadeSelect). t.further ks s.kinds) (t.further k (is i).kinds) (map (λ s. s p) ms)) ∙ rest.0, (λ i. (is i).it ∷ rest.1 i))
selects_marked p _ _ _ r h k = absurd r

shape_some : (o : Option (List Kind)) → is_some (shape_of o) ≡ true → is_some o ≡ true
shape_some None h = h
shape_some (Some ks) h = refl

pub query_marked : (x : Option Terms) (z : Option Recursive) (m : Option Recursing) (xs : List Listing) (zs : List Select) (ms : List Selecting) → AlikeOption (λ x y z. Unit {0}) x z m → Alike Selects xs zs ms
    → Queries (typing.query (record { recursive = x; selects = xs })) (rebuilding.query (record { recursive = z; selects = zs })) (elaborating.query (record { recursive = m; selects = ms }))
query_marked None None None xs zs ms k r p h =
    let found = no_fault_if (fold (λ ks s. t.further ks (s p)) None xs) (shape_some (t.union xs p) h) in
    let is = selects_marked p xs zs ms r (union_right p xs None found).1 None in
    λ i. record { shape = shape_of (or_none (is.0 i)); it = roll-Query (record { recursive = None; selects = is.1 i }) }
query_marked (Some x) (Some z) (Some m) xs zs ms k r p h = absurd (false≢true h)
query_marked _ _ _ xs zs ms k r p h = absurd k
