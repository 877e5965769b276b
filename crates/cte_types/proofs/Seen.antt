-- Where names stand along a body: each name that is known stands at a column of its type.
use Rattle.std.proofs.Common.{◌≡◌, refl, ap, sym, ◌∙◌, ℕ, zero, suc, ◌-◌, ◌≤◌, Bool, true, false, cond, if◌then◌else◌, List, [], ◌∷◌, ◌++◌, length, Some, arith}
use Rattle.std.specs.Prelude.{slice_get, nat_eq, option_and_then}
use Rattle.std.proofs.lemmas.Bool.{eqb-true, eq-eqb}
use Rattle.std.proofs.lemmas.Option.{same_Some}
use Rattle.away_trees.specs.declared.queries.Col.{Col}
use Rattle.away_typing.specs.Typing.{Frame}
use Rattle.away_values.specs.declared.types.Ty.{Ty}
use Rattle.block_forms.specs.Places.{Each, EachPair}
use Rattle.call_forms.specs.Called.{Among}
use Rattle.call_forms.specs.Scopes.{Scope, paired}
use Rattle.cte_template.specs.Places.{nowhere, first_of, seen, stands}
use Rattle.cte_template.specs.declared.places.ItemColumn.{ItemColumn}
use Rattle.cte_template.proofs.PlacesSeen.{Shallow, shallow_inside, shallow_stands, shallow_paired}
use Rattle.cte_types.proofs.Fine.{at_type}

-- ---- an item more

item_more : (frame : Frame) (ts : List Ty) (i j : ℕ) (t : Ty) → option_and_then (λ item. slice_get item j) (slice_get frame i) ≡ Some t
    → option_and_then (λ item. slice_get item j) (slice_get (frame ++ ts ∷ []) i) ≡ Some t
item_more [] ts i j t h = absurd (cc)
item_more (x ∷ frame) ts zero j t h = h
item_more (x ∷ frame) ts (suc i) j t h = item_more frame ts i j t h

level_more : (frame : Frame) (outer : List Frame) (ts : List Ty) (l i j : ℕ) (t : Ty) → at_type (frame ∷ outer) (record { level = l; item = i; column = j }) ≡
    Some t
    → at_type ((frame ++ ts ∷ []) ∷ outer) (record { level = l; item = i; column = j }) ≡ Some t
level_more frame outer ts zero i j t h = item_more frame ts i j t h
level_more frame outer ts (suc l) i j t h = h

pub more_seen : (frame : Frame) (outer : List Frame) (ts : List Ty) (c : Col) (t : Ty) → at_type (frame ∷ outer) c ≡ Some t
    → at_type ((frame ++ ts ∷ []) ∷ outer) c ≡ Some t
more_seen frame outer ts c t h = level_more frame outer ts c.level c.item c.column t h

pub last_item : (frame : Frame) (ts : List Ty) → slice_get (frame ++ ts ∷ []) (length frame) ≡ Some ts
last_item [] ts = refl
last_item (x ∷ frame) ts = last_item frame ts

pub new_seen : (frame : Frame) (outer : List Frame) (ts : List Ty) (size j : ℕ) → size ≡ length frame → (t : Ty) → slice_get ts j ≡ Some t
    → at_type ((frame ++ ts ∷ []) ∷ outer) (record { level = 0; item = size; column = j }) ≡ Some t
new_seen frame outer ts size j e t h =
    ap (λ n. option_and_then (λ (item : List Ty). slice_get item j) (slice_get (frame ++ ts ∷ []) n)) e
    ∙ (ap (option_and_then (λ (item : List Ty). slice_get item j)) (last_item frame ts) ∙ h)

-- ---- names that are known

pub record Sees (frame : Frame) (outer : List Frame) (depth : ℕ) (types : ℕ → Ty) (places : Scope ItemColumn) (names : List ℕ) : Type 0 where
  pub shallow : Shallow depth places
  pub typed : (n : ℕ) → Among names n → at_type (frame ∷ outer) (seen depth (places n)) ≡ Some (types n)

pub sees_more : (frame : Frame) (outer : List Frame) (ts : List Ty) (depth : ℕ) (types : ℕ → Ty) (places : Scope ItemColumn) (names : List ℕ)
    → Sees frame outer depth types places names
    → Sees (frame ++ ts ∷ []) outer depth types places names
sees_more frame outer ts depth types places names h = record {
  shallow = h.shallow;
  typed = λ n k. more_seen frame outer ts (seen depth (places n)) (types n) (h.typed n k);
}

pub deeper_level : (depth : ℕ) (p : ItemColumn) → p.depth ≤ depth → suc depth - p.depth ≡ suc (depth - p.depth)
deeper_level depth p h = omega (arith, h)

pub seen_inside : (inner frame : Frame) (outer : List Frame) (depth : ℕ) (p : ItemColumn) (t : Ty) → p.depth ≤ depth
    → at_type (frame ∷ outer) (seen depth p) ≡ Some t
    → at_type (inner ∷ frame ∷ outer) (seen (suc depth) p) ≡ Some t
seen_inside inner frame outer depth p t le h =
    ap (λ l. at_type (inner ∷ frame ∷ outer) (record { level = l; item = p.item; column = p.column })) (deeper_level depth p le) ∙ h

pub sees_inside : (inner frame : Frame) (outer : List Frame) (depth : ℕ) (types : ℕ → Ty) (places : Scope ItemColumn) (names : List ℕ)
    → Sees frame outer depth types places names
    → Sees inner (frame ∷ outer) (suc depth) types places names
sees_inside inner frame outer depth types places names h = record {
  shallow = shallow_inside depth places h.shallow;
  typed = λ n k. seen_inside inner frame outer depth (places n) (types n) (h.shallow n) (h.typed n k);
}

pub none_among : (m : ℕ) → Among [] m → ⊥
none_among m k = by k.there
  where
    by : slice_get [] k.place ≡ Some m → ⊥
    by h = cc

-- a name of the list or the new one
pub among_rest : (n m : ℕ) (names : List ℕ) → Among (n ∷ names) m → nat_eq m n ≡ false → Among names m
among_rest n m names h e = by h.place h.there
  where
    never : true ≡ false → ⊥
    never h = cc

    by : (k : ℕ) → slice_get (n ∷ names) k ≡ Some m → Among names m
    by zero g = absurd (never (sym (eq-eqb m n (sym (same_Some n m g))) ∙ e))
    by (suc k) g = record { place = k; there = g }

-- a name that stands at the first column of a new item
pub sees_new : (frame : Frame) (outer : List Frame) (depth : ℕ) (types : ℕ → Ty) (places : Scope ItemColumn) (names : List ℕ) (n size : ℕ) → size ≡ length frame
    → Sees frame outer depth types places names → Sees (frame ++ (types n ∷ []) ∷ []) outer depth types (stands n (first_of depth size) places) (n ∷ names)
unfolding stands
sees_new frame outer depth types places names n size same h = record {
  shallow = shallow_stands depth n size places h.shallow;
  typed = λ m k. by m k (nat_eq m n) refl;
}
  where
    here : depth - depth ≡ 0
    here = omega arith

    by : (m : ℕ) → Among (n ∷ names) m → (t : Bool) → nat_eq m n ≡ t → at_type ((frame ++ (types n ∷ []) ∷ []) ∷ outer)
        (seen depth (cond t (first_of depth size) (places m))) ≡ Some (types m)
    by m k true e =
        ap (λ l. at_type ((frame ++ (types n ∷ []) ∷ []) ∷ outer) (record { level = l; item = size; column = 0 })) here
        ∙ (new_seen frame outer (types n ∷ []) size 0 same (types n) refl ∙ ap (λ x. Some (types x)) (sym (eqb-true m n e)))
    by m k false e = more_seen frame outer (types n ∷ []) (seen depth (places m)) (types m) (h.typed m (among_rest n m names k e))

-- names that are passed
passed : (frame : Frame) (outer : List Frame) (depth : ℕ) (types : ℕ → Ty) (places : Scope ItemColumn) (names : List ℕ) → Sees frame outer depth types places names
    → (params args : List ℕ) → EachPair (λ i p n. types n ≡ types p) params args → Each (Among names) args → length args ≡ length params → (m : ℕ)
    → Among params m
    → at_type (frame ∷ outer) (seen depth (paired places nowhere params args m)) ≡ Some (types m)
passed frame outer depth types places names h [] args typed known size m k = absurd (none_among m k)
passed frame outer depth types places names h (p ∷ params) [] typed known size m k = absurd (omega (arith, size))
passed frame outer depth types places names h (p ∷ params) (a ∷ args) typed known size m k =
    by
    (λ k. passed frame outer depth types places names h params args (λ i q n f g. typed (suc i) q n f g) (λ i n g. known (suc i) n g) (omega (arith, size)) m k)
    (nat_eq p m) refl
  where
    same_way : nat_eq p m ≡ false → nat_eq m p ≡ false
    same_way e = other (nat_eq m p) refl
      where
        never : true ≡ false → ⊥
        never h = cc

        other : (t : Bool) → nat_eq m p ≡ t → nat_eq m p ≡ false
        other true q = absurd (never (sym (eq-eqb p m (sym (eqb-true m p q))) ∙ e))
        other false q = q

    by : (Among params m → at_type (frame ∷ outer) (seen depth (paired places nowhere params args m)) ≡ Some (types m)) → (t : Bool) → nat_eq p m ≡ t
        → at_type (frame ∷ outer) (seen depth (if t then places a else paired places nowhere params args m)) ≡ Some (types m)
    by rest true e = h.typed a (known 0 a refl) ∙ (ap (λ t. Some t) (typed 0 p a refl refl) ∙ ap (λ x. Some (types x)) (eqb-true p m e))
    by rest false e = rest (among_rest p m params k (same_way e))

pub sees_passed : (frame : Frame) (outer : List Frame) (depth : ℕ) (types : ℕ → Ty) (places : Scope ItemColumn) (names : List ℕ)
    → Sees frame outer depth types places names
    → (params args : List ℕ) → EachPair (λ i p n. types n ≡ types p) params args → Each (Among names) args → length args ≡ length params
    → Sees frame outer depth types (paired places nowhere params args) params
sees_passed frame outer depth types places names h params args typed known size = record {
  shallow = shallow_paired depth places params args h.shallow;
  typed = λ m k. passed frame outer depth types places names h params args typed known size m k;
}
