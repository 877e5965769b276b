-- The entries of a table, one after the other.
use Rattle.std.proofs.Common.{◌≡◌, ℕ, zero, suc, ◌+◌, ◌<◌, ◌≤◌, List, [], ◌∷◌, ◌++◌, length, get_or, Some, None, refl, sym, ap, ◌∙◌, subst, arith}
use Rattle.std.specs.Prelude.{slice_get}
use Rattle.std.proofs.lemmas.Option.{same_Some, slice_get-get_or, get_or_from_slice_get}
use Rattle.away_trees.specs.declared.queries.Expr.{Expr}
use Rattle.away_trees.specs.declared.queries.Expr.TheVariants as expr
use Rattle.block_forms.specs.Places.{EachPair}
use Rattle.cte_reads.specs.Entries.{EntryOf, EntriesOf}
use Rattle.cte_reads.specs.declared.entries.Entry.{Entry}
use Rattle.cte_reads.specs.declared.entries.Entries as code

-- the entries of so many expressions
pub record ListedTo (table : List Expr) (i : ℕ) (list : List Entry) : Type 0 where
  pub as_many : length list ≡ i
  pub each : EachPair (λ i e y. EntryOf e y) table list

length_more : (list : List Entry) (y : Entry) → length (list ++ y ∷ []) ≡ length list + 1
length_more [] y = let e : 1 ≡ 0 + 1 = omega arith in e
length_more (z ∷ list) y = ap suc (length_more list y) ∙ (let e : suc (length list + 1) ≡ suc (length list) + 1 = omega arith in e)

-- an element of the longer list: the last, or one of those before
each_more : (P : ℕ → Entry → Type 0) (ys : List Entry) (y : Entry) → ((j : ℕ) (w : Entry) → slice_get ys j ≡ Some w → P j w) → P (length ys) y
    → (j : ℕ) (w : Entry) → slice_get (ys ++ y ∷ []) j ≡ Some w → P j w
each_more P [] y h last zero w t = subst (P 0) (same_Some y w t) last
each_more P [] y h last (suc j) w t = absurd (let q : None ≡ Some w = t in cc)
each_more P (v ∷ ys) y h last zero w t = h 0 w t
each_more P (v ∷ ys) y h last (suc j) w t = each_more (λ j w. P (suc j) w) ys y (λ j w t. h (suc j) w t) last j w t

pub none_listed : (table : List Expr) → ListedTo table 0 []
none_listed table = record { as_many = refl; each = λ j e y t u. absurd (none_there j y u) }
  where
    none_there : (j : ℕ) (y : Entry) → slice_get {X = Entry} [] j ≡ Some y → ⊥
    none_there zero y u = cc
    none_there (suc j) y u = cc

pub one_listed : (table : List Expr) (i : ℕ) (list : List Entry) (e : Expr) (y : Entry) → e ≡ get_or table i e → ListedTo table i list → EntryOf e y
    → ListedTo table (i + 1) (list ++ y ∷ [])
one_listed table i list e y is h one =
    record {
      as_many = length_more list y ∙ ap (λ n. n + 1) h.as_many;
      each = λ j x z t u. each_more (λ j z. slice_get table j ≡ Some x → EntryOf x z) list y (λ j z u t. h.each j x z t u) last j z u t;
    }
  where
    last : {x : Expr} → slice_get table (length list) ≡ Some x → EntryOf x y
    last {x} t = subst (λ e. EntryOf e y) (is ∙ (ap (λ j. get_or table j e) (sym h.as_many) ∙ get_or_from_slice_get table (length list) x e t)) one

pub all_listed : (table : List Expr) (i : ℕ) (x : code.Entries) → length table ≤ i → i ≤ length table → ListedTo table i x.list → EntryOf expr.Null x.null → EntriesOf table x
all_listed table i x past within h null = record { as_many = h.as_many ∙ (let q : i ≡ length table = omega arith in q); each = h.each; null = null }

-- ---- the entry with a number

pub entry_at : (table : List Expr) (x : code.Entries) (n : ℕ) (y : Entry) → EntriesOf table x → n < length x.list → y ≡ get_or x.list n y → EntryOf (get_or table n expr.Null) y
entry_at table x n y h lt is =
    h.each n (get_or table n expr.Null) y (slice_get-get_or table n expr.Null (omega (arith, lt, h.as_many))) (slice_get-get_or x.list n y lt ∙ ap Some (sym is))

get_past : (table : List Expr) (n : ℕ) → length table ≤ n → get_or table n expr.Null ≡ expr.Null
get_past [] zero le = refl
get_past [] (suc n) le = refl
get_past (e ∷ table) zero le = absurd (omega arith)
get_past (e ∷ table) (suc n) le = get_past table n (omega arith)

pub entry_past : (table : List Expr) (x : code.Entries) (n : ℕ) → EntriesOf table x → length x.list ≤ n → EntryOf (get_or table n expr.Null) x.null
entry_past table x n h le = subst (λ e. EntryOf e x.null) (sym (get_past table n (omega (arith, le, h.as_many)))) h.null
