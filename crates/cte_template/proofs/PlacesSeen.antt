-- Columns by their places are the columns that the template refers to.
use Rattle.std.proofs.Common.{◌≡◌, refl, ap, sym, ◌∙◌, subst, ℕ, zero, suc, ◌+◌, ◌≤◌, ◌-◌, Bool, true, false, cond, if◌then◌else◌, List, [], ◌∷◌, map, Option, Some, None, arith}
use Rattle.std.specs.Prelude.{nat_eq}
use Rattle.away_trees.specs.declared.queries.Col.{Col}
use Rattle.away_trees.specs.declared.queries.Expr.{Expr}
use Rattle.away_trees.specs.declared.queries.Expr.TheVariants as expr
use Rattle.away_values.specs.declared.types.Ty.{Ty}
use Rattle.call_forms.specs.Scopes.{Scope, paired}
use Rattle.call_forms.specs.Carrying.{carried_from, of_row}
use Rattle.call_forms.specs.References.{refers, here, deeper, outside, no_column, cells}
use Rattle.call_forms.specs.Template.{argument_cells}
use Rattle.sql_meaning.specs.Trees.{col, null_of}
use Rattle.cte_parts.specs.Columns.{column_beside}
use Rattle.cte_template.specs.Making.{Making}
use Rattle.cte_template.specs.CarriedWalks.{carried_at}
use Rattle.cte_template.specs.Places.{nowhere, first_of, carried_place, row_place, seen, stands, beside}
use Rattle.cte_template.specs.Written.{column_at, cell, cells_at, argument, arguments_at}
use Rattle.cte_template.specs.declared.places.ItemColumn.{ItemColumn}

-- no name stands deeper than the list
abbrev pub Shallow : ℕ → Scope ItemColumn → Type 0
Shallow depth places = (n : ℕ) → (places n).depth ≤ depth

-- the references of a list at a depth
abbrev pub refs_of : ℕ → Scope ItemColumn → Scope Col
refs_of depth places n = seen depth (places n)

abbrev at_level : ℕ → ℕ → ℕ → Col
at_level item column level = record { level = level; item = item; column = column }

-- ---- one select further in

pub deeper_is : (depth : ℕ) (p : ItemColumn) → p.depth ≤ depth → seen (suc depth) p ≡ deeper (seen depth p)
deeper_is depth p h =
    let same : suc depth - p.depth ≡ suc (depth - p.depth) = omega (arith, h) in
    ap (at_level p.item p.column) same

pub outside_is : (depth : ℕ) (places : Scope ItemColumn) → Shallow depth places → refs_of (suc depth) places ≡ outside (refs_of depth places)
outside_is depth places h = λ i n. deeper_is depth (places n) (h n) i

pub shallow_inside : (depth : ℕ) (places : Scope ItemColumn) → Shallow depth places → Shallow (suc depth) places
shallow_inside depth places h n = let le : (places n).depth ≤ depth = h n in omega (arith, le)

-- ---- a name that stands at an item

pub nowhere_is : (out : ℕ) → seen (suc out) nowhere ≡ no_column out
nowhere_is out =
    let same : suc out - 0 ≡ suc out = omega arith in
    ap (at_level 1 0) same

first_is : (depth item : ℕ) → seen depth (first_of depth item) ≡ here item 0
first_is depth item =
    let same : depth - depth ≡ 0 = omega arith in
    ap (at_level item 0) same

pub refers_is : (depth n item : ℕ) (places : Scope ItemColumn) → refs_of depth (stands n (first_of depth item) places) ≡ refers n (here item 0) (refs_of depth places)
unfolding stands
refers_is depth n item places = λ i m. by m (nat_eq m n) i
  where
    by : (m : ℕ) (b : Bool) → seen depth (cond b (first_of depth item) (places m)) ≡ cond b (here item 0) (seen depth (places m))
    by m true = first_is depth item
    by m false = refl

pub shallow_stands : (depth n item : ℕ) (places : Scope ItemColumn) → Shallow depth places → Shallow depth (stands n (first_of depth item) places)
unfolding stands
shallow_stands depth n item places h m = by (nat_eq m n)
  where
    by : (b : Bool) → (cond b (first_of depth item) (places m)).depth ≤ depth
    by true = omega arith
    by false = h m

-- ---- names that are passed

-- what is passed, and then changed
pub paired_maps : {A B : Type 0} (g : A → B) (f : Scope A) (d : A) (ks ns : List ℕ) (i : ℕ) → g (paired f d ks ns i) ≡ paired (λ n. g (f n)) (g d) ks ns i
paired_maps g f d [] ns i = refl
paired_maps g f d (k ∷ ks) [] i = refl
paired_maps g f d (k ∷ ks) (n ∷ ns) i = by (nat_eq k i) (paired_maps g f d ks ns i)
  where
    by : (b : Bool) → g (paired f d ks ns i) ≡ paired (λ n. g (f n)) (g d) ks ns i
        → g (if b then f n else paired f d ks ns i) ≡ (if b then g (f n) else paired (λ n. g (f n)) (g d) ks ns i)
    by true h = refl
    by false h = h

pub entered_is : (out : ℕ) (places : Scope ItemColumn) (params args : List ℕ) → refs_of (suc out) (paired places nowhere params args) ≡ paired (refs_of (suc out) places) (no_column out) params args
entered_is out places params args =
    λ i n. (paired_maps (seen (suc out)) places nowhere params args n ∙ ap (λ c. paired (refs_of (suc out) places) c params args n) (nowhere_is out)) i

pub shallow_paired : (depth : ℕ) (places : Scope ItemColumn) (params args : List ℕ) → Shallow depth places → Shallow depth (paired places nowhere params args)
shallow_paired depth places [] args h n = omega arith
shallow_paired depth places (k ∷ ks) [] h n = omega arith
shallow_paired depth places (k ∷ ks) (m ∷ ns) h n = by (nat_eq k n) (shallow_paired depth places ks ns h n)
  where
    by : (b : Bool) → (paired places nowhere ks ns n).depth ≤ depth → (if b then places m else paired places nowhere ks ns n).depth ≤ depth
    by true le = h m
    by false le = le

-- the columns of the row, from the list of a branch
pub row_is : (carried : List Ty) (params places : List ℕ) → refs_of 1 (paired (carried_place carried) nowhere params places) ≡ paired (of_row carried) (no_column 0) params places
row_is carried params places = λ i n. (paired_maps (seen 1) (carried_place carried) nowhere params places n ∙ (λ j. paired (λ p. row p j) (nowhere_is 0 j) params places n)) i
  where
    row : (p : ℕ) → seen 1 (carried_place carried p) ≡ of_row carried p
    row p = refl

pub carried_shallow : (carried : List Ty) (params places : List ℕ) → Shallow 1 (paired (carried_place carried) nowhere params places)
carried_shallow carried [] places n = omega arith
carried_shallow carried (k ∷ ks) [] n = omega arith
carried_shallow carried (k ∷ ks) (m ∷ ns) n = by (nat_eq k n) (carried_shallow carried ks ns n)
  where
    by : (b : Bool) → (paired (carried_place carried) nowhere ks ns n).depth ≤ 1 → (if b then carried_place carried m else paired (carried_place carried) nowhere ks ns n).depth ≤ 1
    by true le = omega arith
    by false le = le

pub row_shallow : (params places : List ℕ) → Shallow 1 (paired row_place nowhere params places)
row_shallow = carried_shallow []

-- what is carried, from the list of a select
pub carried_is : (out place : ℕ) (ts : List Ty) → carried_at (suc out) place ts ≡ carried_from out place ts
carried_is out place [] = refl
carried_is out place (t ∷ ts) = ap (λ xs. col (suc out) 0 place ∷ xs) (carried_is out (suc place) ts)

-- ---- slots, cells and arguments

-- the columns of names beside slots
beside_is : (f : Scope Col) (d : Col) (slots names : List ℕ) (i : ℕ) → column_beside slots (map f names) d i ≡ paired f d slots names i
unfolding column_beside
beside_is f d [] names i = refl
beside_is f d (s ∷ slots) [] i = refl
beside_is f d (s ∷ slots) (n ∷ names) i = ap (λ c. if nat_eq s i then f n else c) (beside_is f d slots names i)

pub slots_are : (out : ℕ) (places : Scope ItemColumn) (slots names : List ℕ) → Shallow (suc out) places
    → column_beside slots (map (column_at (suc (suc out)) places) names) (seen (suc (suc out)) nowhere) ≡ paired (outside (refs_of (suc out) places)) (deeper (no_column out)) slots names
slots_are out places slots names h =
    λ i slot. (beside_is (column_at (suc (suc out)) places) (seen (suc (suc out)) nowhere) slots names slot
    ∙ (λ j. paired (λ n. deeper_is (suc out) (places n) (h n) j) ((nowhere_is (suc out) ∙ refl) j) slots names slot)) i

pub cells_are : (i depth : ℕ) (places : Scope ItemColumn) (keys args : List ℕ) (ts : List Ty) → cells_at i depth places keys args ts ≡ cells i (refs_of depth places) keys args ts
unfolding beside
cells_are i depth places keys args [] = refl
cells_are i depth places keys args (t ∷ ts) =
    λ j. paired_maps (λ o. cell depth places t o) (λ k. Some k) None keys args i j ∷ cells_are (suc i) depth places keys args ts j

pub arguments_are : (m : Making) (i : ℕ) (keys params : List ℕ) (ts : List Ty) → arguments_at m i keys params ts ≡ argument_cells m.types i keys params ts
unfolding beside
arguments_are m i keys params [] = refl
arguments_are m i keys params (t ∷ ts) =
    λ j. paired_maps (λ o. argument m t o) (λ k. Some k) None keys params i j ∷ arguments_are m (suc i) keys params ts j
