-- Where names are unambiguous, a tree with names again is read back as it was.
use Rattle.std.proofs.Common.{◌≡◌, false}
use Rattle.away_names.specs.Lookups.{Scope}
use Rattle.qualified_names.specs.Unambiguous as c
use Rattle.qualified_names.specs.Unambiguous.{Sort, value, values, links, arms, maybe, items, keys, from_item, from_items, select, selects, query, Tree, IsClear}
use Rattle.qualified_names.proofs.Gives.{Every, EveryOption}
use Rattle.qualified_names.proofs.BackExpressions as e
use Rattle.qualified_names.proofs.BackExpressions.{Back, BackQuery}
use Rattle.qualified_names.proofs.BackQueries as q
use Rattle.qualified_names.proofs.BackQueries.{BackItem, BackKey, BackPart, BackFrom}
use Rattle.qualified_names.proofs.BackSelects.{BackSelect, select_back, query_back}

abbrev pub IsBack : (n : Sort) → Scope → Tree n → Type 0
IsBack value s x = Back s x
IsBack values s xs = Every (Back s) xs
IsBack links s ls = Every (e.LinkBack s) ls
IsBack arms s as_ = Every (λ a. Back s a.0 × Back s a.1) as_
IsBack maybe s o = EveryOption (Back s) o
IsBack items s list = Every (BackItem s) list
IsBack keys s ks = Every (BackKey s) ks
IsBack (from_item level) s f = BackPart s level f
IsBack (from_items level) s fs = BackFrom s level fs
IsBack select s x = BackSelect s x
IsBack selects s xs = Every (BackSelect s) xs
IsBack query s q = BackQuery s q

-- outside a function
pub back : {n : Sort} {s : Scope} {t : Tree n} → s.in_function ≡ false → IsClear n s t → IsBack n s t
back h (c.int x) = e.int_back _ x
back h (c.str x) = e.str_back _ x
back h (c.bool x) = e.bool_back _ x
back h c.null = e.null_back _
back h (c.column k a x is found) = e.column_back _ k a x h is found
back h (c.param i t) = e.param_back _ i t h
back h (c.neg k) = e.neg_back _ _ (back h k)
back h (c.not k) = e.not_back _ _ (back h k)
back h (c.is t v k) = e.is_back _ _ t v (back h k)
back h (c.chain k l) = e.chain_back _ _ _ (back h k) (back h l)
back h (c.compare op k l) = e.compare_back _ op _ _ (back h k) (back h l)
back h (c.between v k l m) = e.between_back _ v _ _ _ (back h k) (back h l) (back h m)
back h (c.one_of v k l) = e.oneof_back _ v _ _ (back h k) (back h l)
back h (c.cast t k) = e.cast_back _ _ t (back h k)
back h (c.cases k l) = e.cases_back _ _ _ (back h k) (back h l)
back h (c.call name known k) = e.call_back _ name _ h known (back h k)
back h c.count_rows = e.rows_back _
back h (c.scalar k) = e.scalar_back _ _ (back h k)
back h (c.exists k) = e.exists_back _ _ (back h k)
back h c.no_value = tt
back h (c.one_value k l) = (back h k, back h l)
back h c.no_link = tt
back h (c.one_link op p k l) = ((p, back h k), back h l)
back h c.no_arm = tt
back h (c.one_arm k l m) = ((back h k, back h l), back h m)
back h c.nothing = tt
back h (c.something k) = back h k
back h c.no_item = tt
back h (c.one_item alias k l) = (q.item_back _ _ alias h (back h k), back h l)
back h c.no_key = tt
back h (c.one_key descending k l) = (λ aliases. q.key_back _ _ descending aliases (back h k), back h l)
back h (c.table name alias columns recursive found) = q.table_back _ _ name alias columns recursive h found
back h (c.subquery alias columns lateral differ k) = q.sub_back _ _ _ alias columns lateral h differ (back h k)
back h c.no_from = q.no_from_back _ _
back h (c.one_from k l) = q.one_from_back _ _ _ _ (back h k) (back h l)
back h (c.whole differ f l w o m) = select_back _ _ _ _ _ _ differ (back h f) (back h l) (back h w) (back h o) (back h m)
back h c.no_select = tt
back h (c.one_select k l) = (back h k, back h l)
back h (c.union k) = query_back _ _ (back h k)
