-- A tree that is clear over tables none of which is recursive is clear over more tables too, and names no recursive one there.
use Rattle.std.proofs.Common.{◌≡◌, false, Option, Some}
use Rattle.away_names.specs.declared.scope.Listed.{Listed}
use Rattle.away_names.specs.Lookups.{Name, Scope}
use Rattle.qualified_names.specs.Unambiguous as c
use Rattle.qualified_names.specs.Unambiguous.{Sort, value, values, links, arms, maybe, items, keys, from_item, from_items, select, selects, query, Tree, IsClear}
use Rattle.qualified_names.proofs.ClearBack.{back}
use Rattle.qualified_names.proofs.Gives.{Every, EveryOption}
use Rattle.cte_names.proofs.SilentExpressions as e
use Rattle.cte_names.proofs.SilentExpressions.{Silent, SilentQuery}
use Rattle.cte_names.proofs.SilentQueries as q
use Rattle.cte_names.proofs.SilentQueries.{SilentItem, SilentKey, SilentPart, SilentFrom, SilentSelect}

abbrev pub Tables : Type 0
Tables = Name → Option Listed

-- the same place, where these tables may be named
abbrev pub wide : Tables → Scope → Scope
wide tables s = record s { table = tables }

-- what is a table for the one is the same for the other, and not recursive
pub record Extends (few many : Tables) : Type 0 where
  pub same : (n : Name) (x : Listed) → few n ≡ Some x → many n ≡ Some x
  pub plain : (n : Name) (x : Listed) → few n ≡ Some x → x.recursive ≡ false

pub widened : {n : Sort} {s : Scope} {t : Tree n} → (tables : Tables) → Extends s.table tables → IsClear n s t → IsClear n (wide tables s) t
widened ts h (c.int x) = c.int x
widened ts h (c.str x) = c.str x
widened ts h (c.bool x) = c.bool x
widened ts h c.null = c.null
widened ts h (c.column k a x is found) = c.column k a x is found
widened ts h (c.param i t) = c.param i t
widened ts h (c.neg k) = c.neg (widened ts h k)
widened ts h (c.not k) = c.not (widened ts h k)
widened ts h (c.is t v k) = c.is t v (widened ts h k)
widened ts h (c.chain k l) = c.chain (widened ts h k) (widened ts h l)
widened ts h (c.compare op k l) = c.compare op (widened ts h k) (widened ts h l)
widened ts h (c.between v k l m) = c.between v (widened ts h k) (widened ts h l) (widened ts h m)
widened ts h (c.one_of v k l) = c.one_of v (widened ts h k) (widened ts h l)
widened ts h (c.cast t k) = c.cast t (widened ts h k)
widened ts h (c.cases k l) = c.cases (widened ts h k) (widened ts h l)
widened ts h (c.call name known k) = c.call name known (widened ts h k)
widened ts h c.count_rows = c.count_rows
widened ts h (c.scalar k) = c.scalar (widened ts h k)
widened ts h (c.exists k) = c.exists (widened ts h k)
widened ts h c.no_value = c.no_value
widened ts h (c.one_value k l) = c.one_value (widened ts h k) (widened ts h l)
widened ts h c.no_link = c.no_link
widened ts h (c.one_link op p k l) = c.one_link op p (widened ts h k) (widened ts h l)
widened ts h c.no_arm = c.no_arm
widened ts h (c.one_arm k l m) = c.one_arm (widened ts h k) (widened ts h l) (widened ts h m)
widened ts h c.nothing = c.nothing
widened ts h (c.something k) = c.something (widened ts h k)
widened ts h c.no_item = c.no_item
widened ts h (c.one_item alias k l) = c.one_item alias (widened ts h k) (widened ts h l)
widened ts h c.no_key = c.no_key
widened ts h (c.one_key descending k l) = c.one_key descending (widened ts h k) (widened ts h l)
widened ts h (c.table name alias columns recursive found) = c.table name alias columns recursive (h.same name _ found)
widened ts h (c.subquery alias columns lateral differ k) = c.subquery alias columns lateral differ (widened ts h k)
widened ts h c.no_from = c.no_from
widened ts h (c.one_from k l) = c.one_from (widened ts h k) (widened ts h l)
widened ts h (c.whole differ f l w o m) = c.whole differ (widened ts h f) (widened ts h l) (widened ts h w) (widened ts h o) (widened ts h m)
widened ts h c.no_select = c.no_select
widened ts h (c.one_select k l) = c.one_select (widened ts h k) (widened ts h l)
widened ts h (c.union k) = c.union (widened ts h k)

abbrev pub NamesNone : (n : Sort) → Scope → Tree n → Type 0
NamesNone value s x = Silent s x
NamesNone values s xs = Every (Silent s) xs
NamesNone links s ls = Every (λ l. Silent s l.1) ls
NamesNone arms s as_ = Every (λ a. Silent s a.0 × Silent s a.1) as_
NamesNone maybe s o = EveryOption (Silent s) o
NamesNone items s list = Every (SilentItem s) list
NamesNone keys s ks = Every (SilentKey s) ks
NamesNone (from_item level) s f = SilentPart s level f
NamesNone (from_items level) s fs = SilentFrom s level fs
NamesNone select s x = SilentSelect s x
NamesNone selects s xs = Every (SilentSelect s) xs
NamesNone query s q = SilentQuery s q

-- outside a function
pub none_named : {n : Sort} {s : Scope} {t : Tree n} → (tables : Tables) → Extends s.table tables → s.in_function ≡ false → IsClear n s t
    → NamesNone n (wide tables s) t
none_named ts h out (c.int x) = e.int_silent _ x
none_named ts h out (c.str x) = e.str_silent _ x
none_named ts h out (c.bool x) = e.bool_silent _ x
none_named ts h out c.null = e.null_silent _
none_named ts h out (c.column k a x is found) = e.column_silent _ k a x is found
none_named ts h out (c.param i t) = e.param_silent _ i t
none_named ts h out (c.neg k) = e.neg_silent _ _ (none_named ts h out k)
none_named ts h out (c.not k) = e.not_silent _ _ (none_named ts h out k)
none_named ts h out (c.is t v k) = e.is_silent _ _ t v (none_named ts h out k)
none_named ts h out (c.chain k l) = e.chain_silent _ _ _ (none_named ts h out k) (none_named ts h out l)
none_named ts h out (c.compare op k l) = e.compare_silent _ op _ _ (none_named ts h out k) (none_named ts h out l)
none_named ts h out (c.between v k l m) = e.between_silent _ v _ _ _ (none_named ts h out k) (none_named ts h out l) (none_named ts h out m)
none_named ts h out (c.one_of v k l) = e.oneof_silent _ v _ _ (none_named ts h out k) (none_named ts h out l)
none_named ts h out (c.cast t k) = e.cast_silent _ _ t (none_named ts h out k)
none_named ts h out (c.cases k l) = e.cases_silent _ _ _ (none_named ts h out k) (none_named ts h out l)
none_named ts h out (c.call name known k) = e.call_silent _ name _ (none_named ts h out k)
none_named ts h out c.count_rows = e.rows_silent _
none_named ts h out (c.scalar k) = e.scalar_silent _ _ (none_named ts h out k)
none_named ts h out (c.exists k) = e.exists_silent _ _ (none_named ts h out k)
none_named ts h out c.no_value = tt
none_named ts h out (c.one_value k l) = (none_named ts h out k, none_named ts h out l)
none_named ts h out c.no_link = tt
none_named ts h out (c.one_link op p k l) = (none_named ts h out k, none_named ts h out l)
none_named ts h out c.no_arm = tt
none_named ts h out (c.one_arm k l m) = ((none_named ts h out k, none_named ts h out l), none_named ts h out m)
none_named ts h out c.nothing = tt
none_named ts h out (c.something k) = none_named ts h out k
none_named ts h out c.no_item = tt
none_named ts h out (c.one_item alias k l) = (q.item_silent _ _ alias (none_named ts h out k), none_named ts h out l)
none_named ts h out c.no_key = tt
none_named ts h out (c.one_key descending k l) = (q.key_silent _ _ descending (none_named ts h out k), none_named ts h out l)
none_named ts h out (c.table name alias columns recursive found) =
    q.table_part_silent _ _ name alias columns recursive (h.same name _ found) (h.plain name _ found)
none_named ts h out (c.subquery alias columns lateral differ k) = q.sub_silent _ _ _ alias columns lateral (none_named ts h out k)
none_named ts h out c.no_from = λ before note silent. silent
none_named ts h out (c.one_from {level = level} {f = f} {fs = fs} k l) =
    q.one_from_silent _ level f fs (back out (widened ts h k)) (none_named ts h out k) (none_named ts h out l)
none_named ts h out (c.whole differ f l w o m) =
    q.select_silent _ _ _ _ _ _ (back out (widened ts h f)) (none_named ts h out f)
    (record { list_is = none_named ts h out l; filter_is = none_named ts h out w; order_is = none_named ts h out o; limit_is = none_named ts h out m })
none_named ts h out c.no_select = tt
none_named ts h out (c.one_select k l) = (none_named ts h out k, none_named ts h out l)
none_named ts h out (c.union k) = q.query_silent _ _ (none_named ts h out k)
