-- Where the names in sight can be written, so can columns of the query's own, and items that are added bring their names in turn.
use Rattle.std.proofs.Common.{◌≡◌, ap, sym, ◌∙◌, subst, ℕ, zero, suc, ◌+◌, ◌<◌, ◌≤◌, ◌^◌, true, List, [], ◌∷◌, ◌++◌, map, Option, Some, arith}
use Rattle.std.specs.Prelude.{slice_get}
use Rattle.std.specs.Option.{option_and_then}
use Rattle.std.proofs.lemmas.List.Sums.{fold-append}
use Rattle.away_grammar.specs.declared.grammar.Level.TheVariants as l
use Rattle.away_grammar.specs.Grammar.{at, from_item, query}
use Rattle.away_names.specs.declared.note.Framed.{Framed}
use Rattle.away_names.specs.declared.scope.Seen.{Seen}
use Rattle.away_names.specs.Lookups.{Name, Level}
use Rattle.away_trees.specs.declared.queries.Col.{Col}
use Rattle.away_trees.specs.declared.queries.Expr.{Expr}
use Rattle.away_trees.specs.declared.queries.Expr.TheVariants as expr
use Rattle.away_trees.specs.declared.queries.FromItem.{FromItem}
use Rattle.away_trees.specs.declared.queries.Query.{Query}
use Rattle.qualified_names.specs.Qualifying.{with_part, no_part}
use Rattle.qualified_names.specs.Sight.{Sight}
use Rattle.qualified_names.specs.Trees.{qualified_expr, qualified_from, qualified_part, qualified_shown}
use Rattle.qualified_names.proofs.QualifyingRules.{column_is}
use Rattle.qualified_names.proofs.Gives.{Every}
use Rattle.sql_meaning.specs.Template.{count_from}
use Rattle.sql_meaning.specs.Trees.{col, truth, one}
use Rattle.sql_meaning.specs.Trees as tree
use Rattle.cte_parts.specs.Names.{only_name, alias_name}
use Rattle.cte_parts.specs.Trees.{lateral_as, gate_as}
use Rattle.cte_names.proofs.Differences.{every_at, every_both}
use Rattle.cte_names.proofs.ItemsSeen.{seen_as, lateral_seen, seen_more}
use Rattle.cte_names.proofs.OwnColumns.{Own, reference_is}
use Rattle.cte_prints.specs.Derivable.{Derivable}
use Rattle.cte_prints.specs.InSight.{ColumnIsWritable, ItemIsWritable, LevelIsWritable, SightIsWritable}
use Rattle.cte_prints.proofs.QualifiedParts.{DerivableAt, gate_derives, lateral_derives}
use Rattle.cte_prints.proofs.Deriving.{qualified_alone, stands_alone}
use Rattle.cte_prints.proofs.SmallDerivable.{truth_derives}
use Rattle.cte_prints.proofs.OwnWritableNames.{NameIsWritable, alias_writable, only_derivable}

-- ---- columns

held_derivable : (ls : List Level) (level item : ℕ) (o : Seen) → SightIsWritable ls → option_and_then (λ (l : Level). slice_get l item) (slice_get ls level) ≡ Some o
    → ItemIsWritable o
held_derivable [] level item o h e = absurd (cc)
held_derivable (l ∷ ls) zero item o h e = every_at ItemIsWritable l item o h.0 e
held_derivable (l ∷ ls) (suc level) item o h e = held_derivable ls level item o h.1 e

named_derivable : (ns : List (Option Name)) (i : ℕ) (n : Name) → Every ColumnIsWritable ns → option_and_then (λ (o : Option Name). o) (slice_get ns i) ≡ Some n
    → NameIsWritable n
named_derivable [] i n h e = absurd (cc)
named_derivable (x ∷ ns) zero n h e = subst ColumnIsWritable e h.0
named_derivable (x ∷ ns) (suc i) n h e = named_derivable ns i n h.1 e

module _ (k : ℕ) (levels : List Level) (col : Col) (own : Own k levels col) (sight : SightIsWritable levels) (d : ℕ) where
  pub column_alone : Derivable d (at l.Primary) (qualified_expr (expr.Column col) levels)
  column_alone =
      let item : ItemIsWritable own.item = held_derivable levels col.level col.item own.item sight own.held in
      subst (Derivable d (at l.Primary)) (sym (column_is col levels ∙ reference_is k levels col own))
      (qualified_alone d own.item.alias own.name item.alias (named_derivable own.item.columns col.column own.name item.columns own.named))

  pub column_derives : Derivable d (at l.Or) (qualified_expr (expr.Column col) levels)
  column_derives = stands_alone d (qualified_expr (expr.Column col) levels) column_alone

-- ---- items

names_seen : (ns : List Name) → Every NameIsWritable ns → Every ColumnIsWritable (map (λ n. Some n) ns)
names_seen [] h = tt
names_seen (n ∷ ns) h = (h.0, names_seen ns h.1)

pub seen_writable : (alias : Name) (ns : List Name) → NameIsWritable alias → Every NameIsWritable ns → ItemIsWritable (seen_as alias ns)
seen_writable alias ns h k = record { alias = h; columns = names_seen ns k }

-- the items so far can be derived, and the names that they bring into sight can be written
pub record FromDerivable (n : ℕ) (s : Sight) (fs : List FromItem) : Type 0 where
  pub items : Every (Derivable n from_item) (qualified_from s fs).items
  pub level : LevelIsWritable (qualified_from s fs).seen

pub no_items : (n : ℕ) (s : Sight) → FromDerivable n s []
no_items n s = record { items = tt; level = tt }

items_more : (s : Sight) (fs : List FromItem) (f : FromItem) → (qualified_from s (fs ++ f ∷ [])).items ≡ (qualified_from s fs).items ++
    (qualified_part f s (qualified_from s fs).seen).item ∷ []
items_more s fs f = ap (λ (a : Framed). a.items) (fold-append (λ a f. with_part a (qualified_part f s a.seen)) no_part fs (f ∷ []))

-- one more subquery
pub more_items : (n : ℕ) (s : Sight) (fs : List FromItem) (alias x : Name) (xs : List Name) (q : Query) → NameIsWritable alias → Every NameIsWritable (x ∷ xs)
    → Derivable n query (qualified_shown q ((qualified_from s fs).seen ∷ s)).it → FromDerivable (suc n) s fs → FromDerivable (suc n) s (fs ++ lateral_as alias (x ∷ xs) q ∷ [])
more_items n s fs alias x xs q k h c f =
    let new : FromItem = lateral_as alias (x ∷ xs) q in
    let level : Level = (qualified_from s fs).seen in
    record {
      items = subst (Every (Derivable (suc n) from_item)) (sym (items_more s fs new))
          (every_both (Derivable (suc n) from_item) (qualified_from s fs).items ((qualified_part new s level).item ∷ []) f.items
          (lateral_derives n alias x xs q s level k h c, tt));
      level = subst LevelIsWritable (sym (seen_more s fs new))
          (every_both ItemIsWritable level ((qualified_part new s level).seen ∷ []) f.level
          (subst ItemIsWritable (sym (lateral_seen alias x xs q s level)) (seen_writable alias (x ∷ xs) k h), tt));
    }

-- a gate alone, where its test can be derived
pub gated : (n j : ℕ) (ls : List Level) (c : Expr) → j < 2 ^ 64 → DerivableAt (suc n) ([] ∷ [] ∷ ls) c → FromDerivable (suc (suc n)) ls (gate_as j c ∷ [])
gated n j ls c fits test =
    more_items (suc n) ls [] (alias_name j) only_name [] (one (tree.select (truth true ∷ []) [] (Some c))) (alias_writable j fits) (only_derivable, tt)
    (gate_derives (suc n) ([] ∷ ls) (truth true) c (truth_derives n ([] ∷ [] ∷ ls) true) test) (no_items (suc (suc n)) ls)

-- the columns of an item of rows, from the i-th on
pub columns_derive : (w n k item : ℕ) (ls : List Level) → SightIsWritable ls →
    ((i : ℕ) → i < suc (suc (suc (suc w))) → Own k ls (record { level = 0; item = item; column = i }))
    → (i more : ℕ) → i + more ≤ suc (suc (suc (suc w))) → Every (DerivableAt n ls) (map (col 0 item) (count_from i more))
columns_derive w n k item ls sight own i zero le = tt
columns_derive w n k item ls sight own i (suc more) le = (
  column_derives k ls (record { level = 0; item = item; column = i }) (own i (omega (arith, le))) sight n,
  columns_derive w n k item ls sight own (suc i) more (omega (arith, le)),
)
