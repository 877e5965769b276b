-- The items of a select while it is written: each is clear behind those before it, their aliases differ, and each name in use stands at a column in sight.
use Rattle.std.proofs.Common.{◌≡◌, refl, ap, sym, ◌∙◌, subst, ℕ, suc, ◌+◌, ◌<◌, ◌≤◌, ◌^◌, true, List, [], ◌∷◌}
use Rattle.std.proofs.Common.{◌++◌, map, length, Some, option_map, length-append, append_assoc, append-nil, arith}
use Rattle.std.specs.Prelude.{slice_get}
use Rattle.std.proofs.lemmas.List.{map-append}
use Rattle.std.proofs.lemmas.Option.{slice_get-map}
use Rattle.away_trees.specs.declared.queries.Expr.{Expr}
use Rattle.away_trees.specs.declared.queries.Expr.TheViews.{out-FromItem}
use Rattle.away_trees.specs.declared.queries.FromItem.{FromItem}
use Rattle.away_trees.specs.declared.queries.Query.{Query}
use Rattle.away_names.specs.declared.scope.Seen.{Seen}
use Rattle.away_names.specs.Lookups.{Name, Level, Scope, inside, has_double, is_kept}
use Rattle.call_forms.specs.Called.{Among}
use Rattle.call_forms.specs.Scopes as scopes
use Rattle.qualified_names.specs.Trees.{qualified_from}
use Rattle.qualified_names.specs.Unambiguous as c
use Rattle.qualified_names.specs.Unambiguous.{IsClear, items, from_items, select, query}
use Rattle.qualified_names.proofs.Gives.{Every}
use Rattle.cte_parts.specs.Names.{alias_name}
use Rattle.cte_parts.specs.Trees.{lateral_as}
use Rattle.sql_meaning.specs.Trees.{item}
use Rattle.cte_template.specs.Places.{seen}
use Rattle.cte_template.specs.Walks.{ended, selected}
use Rattle.cte_template.specs.declared.places.ItemColumn.{ItemColumn}
use Rattle.cte_template.proofs.PlacesSeen.{Shallow, deeper_is, shallow_inside}
use Rattle.cte_names.proofs.Differences.{Apart, AllApart, every_both, every_map, apart_more, no_double, own_place}
use Rattle.cte_names.proofs.OwnNames.{alias_kept, aliases_apart}
use Rattle.cte_names.proofs.OwnColumns.{Older, Own, older_later, own_later, own_deeper, own_beside, own_last}
use Rattle.cte_names.proofs.SmallParts.{Clears, list_clear}
use Rattle.cte_names.proofs.ItemsSeen.{seen_as, lateral_seen, seen_more}

abbrev aliases : List FromItem → List Name
aliases fs = map (λ f. (out-FromItem f).alias) fs

abbrev aliases_of : Level → List Name
aliases_of level = map (λ o. o.alias) level

-- aliases from number k on are free; the select's list stands at the depth
pub record Sighted (k depth : ℕ) (s : Scope) (fs : List FromItem) (names : List ℕ) (places : scopes.Scope ItemColumn) : Type 0 where
  pub level : Level
  pub seen_is : (qualified_from s.levels fs).seen ≡ level
  pub as_many : length level ≡ length fs
  pub aliases_are : aliases fs ≡ aliases_of level
  pub apart : AllApart (aliases_of level)
  pub older : Every (λ (o : Seen). Older k o.alias) level
  pub clear : (gs : List FromItem) → IsClear (from_items level) s gs → IsClear (from_items []) s (fs ++ gs)
  pub own : (n : ℕ) → Among names n → Own k (level ∷ s.levels) (seen depth (places n))
  pub shallow : Shallow depth places

-- ---- the select as a whole

pub list_over : (k depth : ℕ) (s : Scope) (fs : List FromItem) (names : List ℕ) (places : scopes.Scope ItemColumn) (list : List Expr) (next : ℕ)
    → (h : Sighted k depth s fs names places) → Clears (inside h.level s) list → IsClear select s (selected (ended fs list next))
list_over k depth s fs names places list next h clears =
    c.whole (ap has_double h.aliases_are ∙ no_double (aliases_of h.level) h.apart)
    (subst (λ gs. IsClear (from_items []) s gs) (append-nil fs) (h.clear [] c.no_from))
    (subst (λ l. IsClear items (inside l s) (map (λ e. item e) list)) (sym h.seen_is) (list_clear (inside h.level s) list clears)) c.nothing c.no_key c.nothing

-- ---- other names in use

pub renamed : (k depth : ℕ) (s : Scope) (fs : List FromItem) (names : List ℕ) (places : scopes.Scope ItemColumn) → (h : Sighted k depth s fs names places)
    → (others : List ℕ) (stand : scopes.Scope ItemColumn) → Shallow depth stand → ((n : ℕ) → Among others n → Own k (h.level ∷ s.levels) (seen depth (stand n)))
    → Sighted k depth s fs others stand
renamed k depth s fs names places h others stand shallow own = record {
  level = h.level;
  seen_is = h.seen_is;
  as_many = h.as_many;
  aliases_are = h.aliases_are;
  apart = h.apart;
  older = h.older;
  clear = h.clear;
  own = own;
  shallow = shallow;
}

-- ---- a select further in

pub every_later : (k j : ℕ) (level : Level) → k ≤ j → Every (λ (o : Seen). Older k o.alias) level → Every (λ (o : Seen). Older j o.alias) level
every_later k j [] le h = tt
every_later k j (o ∷ level) le h = (older_later k j o.alias le h.0, every_later k j level le h.1)

unfoldable pub begun : (k j depth : ℕ) (s : Scope) (fs : List FromItem) (names : List ℕ) (places : scopes.Scope ItemColumn) → k ≤ j
    → (h : Sighted k depth s fs names places)
    → Sighted j (suc depth) (inside h.level s) [] names places
begun k j depth s fs names places le h = record {
  level = [];
  seen_is = refl;
  as_many = refl;
  aliases_are = refl;
  apart = tt;
  older = tt;
  clear = λ gs clear. clear;
  own = λ n among.
      subst (λ col. Own j ([] ∷ h.level ∷ s.levels) col) (sym (deeper_is depth (places n) (h.shallow n)))
      (own_later k j _ _ le (own_deeper k (h.level ∷ s.levels) (seen depth (places n)) (h.own n among)));
  shallow = shallow_inside depth places h.shallow;
}

-- ---- one more item

module _ (k depth : ℕ) (s : Scope) (fs : List FromItem) (names : List ℕ) (places : scopes.Scope ItemColumn) (fits : k < 2 ^ 64)
    (h : Sighted k depth s fs names places)
    (x : Name) (xs : List Name) (q : Query) where
  abbrev new : FromItem
  new = lateral_as (alias_name k) (x ∷ xs) q

  abbrev as_seen : Seen
  as_seen = seen_as (alias_name k) (x ∷ xs)

  abbrev pub more_level : Level
  more_level = h.level ++ as_seen ∷ []

  pub apart_from : (o : Seen) → Older k o.alias → Apart o.alias (alias_name k)
  apart_from o older = older k (omega arith) fits

  pub new_older : Older (suc k) (alias_name k)
  new_older j le low = aliases_apart k j (omega (arith, le)) low

  unfoldable pub added : AllApart (x ∷ xs) → IsClear query (inside h.level s) q → Sighted (suc k) depth s (fs ++ new ∷ []) names places
  added differ clear = record {
    level = more_level;
    seen_is = seen_more s.levels fs new ∙ (λ i. h.seen_is i ++ lateral_seen (alias_name k) x xs q s.levels (qualified_from s.levels fs).seen i ∷ []);
    as_many = length-append h.level (as_seen ∷ []) ∙ (ap (λ n. n + 1) h.as_many ∙ sym (length-append fs (new ∷ [])));
    aliases_are =
        map-append (λ f. (out-FromItem f).alias) fs (new ∷ [])
        ∙ (ap (λ ns. ns ++ alias_name k ∷ []) h.aliases_are ∙ sym (map-append (λ o. o.alias) h.level (as_seen ∷ [])));
    apart = subst AllApart (sym (map-append (λ o. o.alias) h.level (as_seen ∷ [])))
        (apart_more (aliases_of h.level) (alias_name k) h.apart
        (every_map (λ (o : Seen). Older k o.alias) (λ m. Apart m (alias_name k)) (λ o. o.alias) h.level apart_from h.older));
    older = every_both (λ (o : Seen). Older (suc k) o.alias) h.level (as_seen ∷ []) (every_later k (suc k) h.level (omega arith) h.older) (new_older, tt);
    clear = λ gs rest.
        subst (λ zs. IsClear (from_items []) s zs) (sym (append_assoc fs (new ∷ []) gs))
        (h.clear (new ∷ gs) (c.one_from (c.subquery (alias_name k) (x ∷ xs) true (no_double (x ∷ xs) differ) clear)
        (subst (λ o. IsClear (from_items (h.level ++ o ∷ [])) s gs) (sym (lateral_seen (alias_name k) x xs q s.levels h.level)) rest)));
    own = λ n among.
        let own : Own k (h.level ∷ s.levels) (seen depth (places n)) = h.own n among in
        own_later k (suc k) _ _ (omega arith) (own_beside k h.level s.levels as_seen (seen depth (places n)) own (own.older k (omega arith) fits));
    shallow = h.shallow;
  }

  -- its columns are in sight from then on
  pub column_of : (j : ℕ) (n : Name) → AllApart (x ∷ xs) → is_kept n ≡ true → slice_get (x ∷ xs) j ≡ Some n
      → Own (suc k) (more_level ∷ s.levels) (record { level = 0; item = length fs; column = j })
  column_of j n differ kept there =
      subst (λ i. Own (suc k) (more_level ∷ s.levels) (record { level = 0; item = i; column = j })) h.as_many
      (own_last (suc k) h.level s.levels as_seen n j (alias_kept k) kept new_older (every_behind h.level h.older)
      (slice_get-map (λ n. Some n) (x ∷ xs) j ∙ ap (λ o. option_map (λ n. Some n) o) there) (own_place (x ∷ xs) j n differ there))
    where
      every_behind : (level : Level) → Every (λ (o : Seen). Older k o.alias) level → Every (λ (o : Seen). Apart (alias_name k) o.alias) level
      every_behind [] older = tt
      every_behind (o ∷ level) older = (λ e. apart_from o older.0 (sym e), every_behind level older.1)
