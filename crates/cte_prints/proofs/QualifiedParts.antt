-- The parts of a query with their names again, as they are derived.
use Rattle.std.proofs.Common.{◌≡◌, refl, ap, sym, ◌∙◌, subst, ℕ, suc, Bool, true, ◌&&◌, List, [], ◌∷◌, map, decimal, Option, Some, None, option_map}
use Rattle.std.specs.List.{list_all}
use Rattle.away_grammar.specs.declared.grammar.Level.TheVariants as l
use Rattle.away_grammar.specs.Grammar.{at, item, from_item, select, query, is_plain, may_join, is_empty, is_none}
use Rattle.away_names.specs.declared.note.Part.{Part}
use Rattle.away_names.specs.declared.note.Column.{Column}
use Rattle.away_names.specs.declared.note.Shown.{Shown}
use Rattle.away_names.specs.Lookups.{Name, Level}
use Rattle.away_names.specs.Naming.{shaped}
use Rattle.away_trees.specs.declared.queries.Expr.{Expr}
use Rattle.away_trees.specs.declared.queries.Source.{Source}
use Rattle.away_trees.specs.declared.queries.Source.TheVariants as source
use Rattle.away_trees.specs.declared.queries.FromItem.{FromItem}
use Rattle.away_trees.specs.declared.queries.Item.{Item}
use Rattle.away_trees.specs.declared.queries.Key.{Key}
use Rattle.away_trees.specs.declared.queries.Query.{Query}
use Rattle.away_trees.specs.declared.queries.Recursive.{Recursive}
use Rattle.away_trees.specs.declared.queries.Select.{Select}
use Rattle.away_trees.specs.declared.queries.Expr.TheOpen.{Select-F, Query-F}
use Rattle.away_trees.specs.declared.queries.Expr.TheViews.{roll-FromItem, roll-Item, roll-Query, roll-Select, out-roll-Select, out-roll-Query}
use Rattle.qualified_names.specs.Qualifying as dot
use Rattle.qualified_names.specs.Sight.{Sight}
use Rattle.qualified_names.specs.Trees.{qualified_expr, qualified_in, qualified_item, qualified_items, qualified_from, qualified_over, qualified_part, qualified_recursive, qualified_select}
use Rattle.qualified_names.specs.Trees.{qualified_selects, qualified_shown}
use Rattle.qualified_names.proofs.QualifyingRules as d
use Rattle.qualified_names.proofs.Gives.{Every}
use Rattle.sql_meaning.specs.Trees as tree
use Rattle.sql_meaning.specs.Trees.{one}
use Rattle.cte_parts.specs.Trees.{lateral_as, working}
use Rattle.cte_prints.specs.Derivable.{Derivable}
use Rattle.cte_parts.specs.Names.{table_name, row_names}
use Rattle.cte_prints.proofs.Deriving.{MaybeWritable, item_derivable, select_derivable, query_derivable, table_derivable as item_of_table, lateral_derivable}
use Rattle.cte_prints.proofs.OwnWritableNames.{NameIsWritable, table_derivable}

-- ---- expressions and lists of them

abbrev pub DerivableAt : ℕ → Sight → Expr → Type 0
DerivableAt n s e = Derivable n (at l.Or) (qualified_expr e s)

abbrev pub MaybeDerivableAt : ℕ → Sight → Option Expr → Type 0
MaybeDerivableAt n s None = Unit {0}
MaybeDerivableAt n s (Some e) = DerivableAt n s e

pub item_is : (e : Expr) (s : Sight) → (qualified_item (tree.item e) s).it ≡ roll-Item (record { expr = qualified_expr e s; alias = None })
item_is e s = ap (λ (c : Column). c.it) (d.item_rule (tree.item e) s)

list_derives : (n : ℕ) (s : Sight) (es : List Expr) → Every (DerivableAt n s) es → Every (Derivable n item) (qualified_items s (map tree.item es)).it
list_derives n s [] h = tt
list_derives n s (e ∷ es) h = (subst (Derivable n item) (sym (item_is e s)) (item_derivable n (qualified_expr e s) h.0), list_derives n s es h.1)

maybe_derives : (n : ℕ) (s : Sight) (o : Option Expr) → MaybeDerivableAt n s o → MaybeWritable n (option_map (qualified_in s) o)
maybe_derives n s None h = tt
maybe_derives n s (Some e) h = h

-- ---- selects

abbrev pub Fields : Type 0
Fields = Select-F Expr Source FromItem Item Key Query Recursive Select

pub qualified_fields : (x : Fields) (s : Sight) → qualified_select (roll-Select x) s ≡ qualified_over x ((qualified_from s x.from).seen ∷ s) (qualified_from s x.from).items
qualified_fields x s = d.select_rule (roll-Select x) s ∙ ap (λ (x : Fields). qualified_over x ((qualified_from s x.from).seen ∷ s) (qualified_from s x.from).items)
    (out-roll-Select x)

abbrev plain_fields : Fields → Bool
plain_fields x = is_empty x.order && is_none x.limit

-- a select that can be derived, and may stand in a union
pub record SelectDerivable (n : ℕ) (s : Sight) (x : Select) : Type 0 where
  pub derives : Derivable n select (qualified_select x s).it
  pub plain : is_plain (qualified_select x s).it ≡ true

select_derives : (n : ℕ) (s : Sight) (e : Expr) (es : List Expr) (fs : List FromItem) (o : Option Expr) → Every (Derivable n from_item) (qualified_from s fs).items
    → Every (DerivableAt n ((qualified_from s fs).seen ∷ s)) (e ∷ es) → MaybeDerivableAt n ((qualified_from s fs).seen ∷ s) o → SelectDerivable n s (tree.select (e ∷ es) fs o)
select_derives n s e es fs o f h w =
    let here : Sight = (qualified_from s fs).seen ∷ s in
    let x : Fields = record { list = map tree.item (e ∷ es); from = fs; filter = o; order = []; limit = None } in
    let y : Fields =
    record {
      list = (qualified_items here (map tree.item (e ∷ es))).it;
      from = (qualified_from s fs).items;
      filter = option_map (qualified_in here) o;
      order = [];
      limit = None;
    } in
    let same : (qualified_select (roll-Select x) s).it ≡ roll-Select y = ap (λ (z : Shown Select). z.it) (qualified_fields x s) in
    record {
      derives = subst (Derivable n select) (sym same)
          (select_derivable n (qualified_item (tree.item e) here).it (qualified_items here (map tree.item es)).it (qualified_from s fs).items (option_map (qualified_in here) o)
          (list_derives n here (e ∷ es) h) f (maybe_derives n here o w));
      plain = ap is_plain same ∙ ap plain_fields (out-roll-Select y);
    }

-- a list with an element
abbrev pub IsSome : List Expr → Type 0
IsSome [] = ⊥
IsSome (e ∷ es) = Unit {0}

pub select_over : (n : ℕ) (s : Sight) (list : List Expr) (fs : List FromItem) (o : Option Expr) → IsSome list → Every (Derivable n from_item)
    (qualified_from s fs).items
    → Every (DerivableAt n ((qualified_from s fs).seen ∷ s)) list → MaybeDerivableAt n ((qualified_from s fs).seen ∷ s) o → SelectDerivable n s (tree.select list fs o)
select_over n s [] fs o some f h w = absurd some
select_over n s (e ∷ es) fs o some f h w = select_derives n s e es fs o f h w

-- ---- queries

abbrev QueryFields : Type 0
QueryFields = Query-F Expr Source FromItem Item Key Query Recursive Select

pub query_is : (xs : List Select) (s : Sight) → (qualified_shown (roll-Query (record { recursive = None; selects = xs })) s).it ≡ roll-Query
    (record { recursive = None; selects = (qualified_selects s xs).it })
query_is xs s =
    let x : QueryFields = record { recursive = None; selects = xs } in
    ap (λ (z : Shown Query). z.it)
    (d.query_rule (roll-Query x) s ∙ ap (λ (x : QueryFields). dot.query_of (option_map (λ r. qualified_recursive r s) x.recursive) (qualified_selects s x.selects))
    (out-roll-Query x))

-- selects without ORDER BY and LIMIT make a union
joined : (x : Select) (xs : List Select) → Every (λ x. is_plain x ≡ true) (x ∷ xs) → may_join (x ∷ xs) ≡ true
joined x [] h = refl
joined x (y ∷ xs) h = all (x ∷ y ∷ xs) h
  where
    all : (xs : List Select) → Every (λ x. is_plain x ≡ true) xs → list_all is_plain xs ≡ true
    all [] h = refl
    all (x ∷ xs) h = λ i. h.0 i && all xs h.1 i

all_plain : (n : ℕ) (s : Sight) (xs : List Select) → Every (SelectDerivable n s) xs → Every (λ x. is_plain x ≡ true) (qualified_selects s xs).it
all_plain n s [] h = tt
all_plain n s (x ∷ xs) h = (h.0.plain, all_plain n s xs h.1)

token_terminals : (n : ℕ) (s : Sight) (xs : List Select) → Every (SelectDerivable n s) xs → Every (Derivable n select) (qualified_selects s xs).it
token_terminals n s [] h = tt
token_terminals n s (x ∷ xs) h = (h.0.derives, token_terminals n s xs h.1)

pub union_derives : (n : ℕ) (s : Sight) (x : Select) (xs : List Select) → Every (SelectDerivable n s) (x ∷ xs)
    → Derivable n query (qualified_shown (roll-Query (record { recursive = None; selects = x ∷ xs })) s).it
union_derives n s x xs h =
    subst (Derivable n query) (sym (query_is (x ∷ xs) s))
    (query_derivable n (qualified_select x s).it (qualified_selects s xs).it (joined (qualified_select x s).it (qualified_selects s xs).it (all_plain n s (x ∷ xs) h))
    (token_terminals n s (x ∷ xs) h))

pub one_derives : (n : ℕ) (s : Sight) (x : Select) → SelectDerivable n s x → Derivable n query (qualified_shown (one x) s).it
one_derives n s x h = union_derives n s x [] (h, tt)

-- one row with a value, and one row where a condition holds
pub let_derives : (n : ℕ) (s : Sight) (e : Expr) → DerivableAt n ([] ∷ s) e → Derivable n query (qualified_shown (one (tree.select (e ∷ []) [] None)) s).it
let_derives n s e h = one_derives n s (tree.select (e ∷ []) [] None) (select_derives n s e [] [] None tt (h, tt) tt)

pub gate_derives : (n : ℕ) (s : Sight) (e c : Expr) → DerivableAt n ([] ∷ s) e → DerivableAt n ([] ∷ s) c → Derivable n query
    (qualified_shown (one (tree.select (e ∷ []) [] (Some c))) s).it
gate_derives n s e c h k = one_derives n s (tree.select (e ∷ []) [] (Some c)) (select_derives n s e [] [] (Some c) tt (h, tt) k)

-- ---- FROM

pub lateral_is : (alias : Name) (ns : List Name) (q : Query) (s : Sight) (level : Level)
    → (qualified_part (lateral_as alias ns q) s level).item ≡ roll-FromItem
    (record { source = source.Sub (qualified_shown q (level ∷ s)).it true; alias = alias; columns = ns })
lateral_is alias ns q s level = ap (λ (p : Part). p.item) (d.part_rule (lateral_as alias ns q) s level ∙ ap (shaped alias) (d.sub_is q true ns s level))

pub lateral_derives : (n : ℕ) (alias x : Name) (xs : List Name) (q : Query) (s : Sight) (level : Level) → NameIsWritable alias → Every NameIsWritable (x ∷ xs)
    → Derivable n query (qualified_shown q (level ∷ s)).it → Derivable (suc n) from_item (qualified_part (lateral_as alias (x ∷ xs) q) s level).item
lateral_derives n alias x xs q s level k h c =
    subst (Derivable (suc n) from_item) (sym (lateral_is alias (x ∷ xs) q s level)) (lateral_derivable n (qualified_shown q (level ∷ s)).it alias x xs k h c)

pub working_derives : (n tables w : ℕ) (s : Sight) (level : Level) → Derivable n from_item (qualified_part (working tables w) s level).item
working_derives n tables w s level =
    subst (Derivable n from_item)
    (sym (ap (λ (p : Part). p.item) (d.part_rule (working tables w) s level ∙ ap (shaped table_name)
    (d.table_is table_name (decimal tables ∷ row_names w) s level))))
    (item_of_table n table_name table_derivable)
