-- Lists, FROM, selects and queries with names again that don't name the recursive table, by their parts.
use Rattle.std.proofs.Common.{◌≡◌, refl, ap, sym, subst, ◌∙◌, Bool, false, List, [], ◌∷◌, ◌++◌, map, fold, Option, Some, None, option_map}
use Rattle.std.specs.Prelude.{is_some}
use Rattle.away_trees.specs.declared.queries.Expr.{Expr}
use Rattle.away_trees.specs.declared.queries.Source.{Source}
use Rattle.away_trees.specs.declared.queries.Source.TheVariants as source
use Rattle.away_trees.specs.declared.queries.FromItem.{FromItem}
use Rattle.away_trees.specs.declared.queries.Item.{Item}
use Rattle.away_trees.specs.declared.queries.Key.{Key}
use Rattle.away_trees.specs.declared.queries.Select.{Select}
use Rattle.away_trees.specs.declared.queries.Recursive.{Recursive}
use Rattle.away_trees.specs.declared.queries.Query.{Query}
use Rattle.away_trees.specs.declared.queries.Expr.TheOpen.{Select-F, Query-F}
use Rattle.away_trees.specs.declared.queries.Expr.TheViews.{out-Item, out-FromItem, roll-Item, roll-FromItem, roll-Key}
use Rattle.away_trees.specs.declared.queries.Expr.TheViews.{roll-Select, roll-Query, out-roll-Select, out-roll-Query}
use Rattle.away_names.specs.declared.rule.Rule.TheVariants as rule
use Rattle.away_names.specs.declared.note.Note.{Note}
use Rattle.away_names.specs.declared.note.Noted.{Noted}
use Rattle.away_names.specs.declared.note.Shown.{Shown}
use Rattle.away_names.specs.declared.note.Column.{Column}
use Rattle.away_names.specs.declared.note.Framed.{Framed}
use Rattle.away_names.specs.declared.note.Part.{Part}
use Rattle.away_names.specs.declared.note.Origin.{Origin}
use Rattle.away_names.specs.declared.note.Times.{Times}
use Rattle.away_names.specs.declared.note.Times.TheVariants.{Never, Once, Often}
use Rattle.away_names.specs.declared.scope.Listed.{Listed}
use Rattle.away_names.specs.Lookups.{Name, Level, Scope, inside, has_double}
use Rattle.away_names.specs.Naming as n
use Rattle.away_names.specs.Notes.{clean, joined, summed, breaks, mapped, also, each, held}
use Rattle.away_names.specs.Trees.{named_expr, named_item, named_key, named_part, named_select, named_query, alone_of}
use Rattle.away_names.specs.NamingLists.{named_in, named_items, named_key_in, named_from, named_selects, named_over}
use Rattle.away_names.proofs.NamingRules as r
use Rattle.qualified_names.specs.Sight.{Sight}
use Rattle.qualified_names.specs.Qualifying as dot
use Rattle.qualified_names.specs.Trees.{qualified_expr, qualified_in, qualified_item, qualified_items, qualified_key, qualified_keys, qualified_part}
use Rattle.qualified_names.specs.Trees.{qualified_from, qualified_over, qualified_select, qualified_selects, qualified_shown, qualified_recursive}
use Rattle.qualified_names.proofs.QualifyingRules as d
use Rattle.qualified_names.proofs.Gives.{Every, EveryOption, clean_quiet}
use Rattle.qualified_names.proofs.BackQueries.{BackPart, BackFrom, ReadsFrom, from_is, framed_so, parts, all_items}
use Rattle.cte_names.proofs.Silence.{IsSilent, clean_silent, both_silent, breaks_silent, written_silent}
use Rattle.cte_names.proofs.Silence.{maybe_silent, part_silent, table_silent, each_silent, held_silent}
use Rattle.cte_names.proofs.SilentExpressions.{Silent, SilentQuery}

-- ---- items of a list and keys

abbrev pub SilentItem : Scope → Item → Type 0
SilentItem s i = IsSilent (named_item (qualified_item i s.levels).it s).note

pub item_silent : (s : Scope) (x : Expr) (alias : Option Name) → Silent s x → SilentItem s (roll-Item (record { expr = x; alias = alias }))
item_silent s x alias h =
    let w : Expr = qualified_expr x s.levels in
    let i : Item = roll-Item (record { expr = x; alias = alias }) in
    ap (λ (c : Column). (named_item c.it s).note.refers) (d.item_rule i s.levels)
    ∙ (ap (λ (z : Noted Column). z.note.refers) (r.item_rule (roll-Item (record { expr = w; alias = alias })) s)
    ∙ both_silent (n.maybe_written s alias) (named_expr w s).note (maybe_silent s alias) h)

more_items : (s : Scope) (a : Noted (Shown (List Item))) (list : List Item) → IsSilent a.note → Every (SilentItem s) list
    → IsSilent (fold (λ a i. n.with_item a (named_item i s)) a (map (λ c. c.it) (map (λ i. qualified_item i s.levels) list))).note
more_items s a [] h e = h
more_items s a (i ∷ list) h e =
    let b : Noted Column = named_item (qualified_item i s.levels).it s in
    more_items s (n.with_item a b) list (both_silent a.note b.note h e.0) e.1

items_silent : (s : Scope) (list : List Item) → Every (SilentItem s) list → IsSilent (named_items s (qualified_items s.levels list).it).note
items_silent s list e = more_items s n.no_item list clean_silent e

abbrev pub SilentKey : Scope → Key → Type 0
SilentKey s k = (aliases : List (Option Name)) → IsSilent (named_key (qualified_key k s.levels) aliases s).note

pub key_silent : (s : Scope) (x : Expr) (descending : Bool) → Silent s x → SilentKey s (roll-Key (record { expr = x; descending = descending }))
key_silent s x descending h aliases =
    let w : Expr = qualified_expr x s.levels in
    ap (λ k. (named_key k aliases s).note.refers) (d.key_rule (roll-Key (record { expr = x; descending = descending })) s.levels)
    ∙ (ap (λ (z : Noted Key). z.note.refers) (r.key_rule (roll-Key (record { expr = w; descending = descending })) aliases s)
    ∙ both_silent (breaks rule.Ambiguity (n.is_alias aliases (alone_of w))) (named_expr w s).note (breaks_silent rule.Ambiguity _) h)

keys_silent : (s : Scope) (aliases : List (Option Name)) (ks : List Key) → Every (SilentKey s) ks
    → IsSilent (each (named_key_in aliases s) (qualified_keys s.levels ks)).note
keys_silent s aliases ks e = each_silent (named_key_in aliases s) (λ k. qualified_key k s.levels) ks (every ks e)
  where
    every : (ks : List Key) → Every (SilentKey s) ks → Every (λ k. IsSilent (named_key (qualified_key k s.levels) aliases s).note) ks
    every [] e = tt
    every (k ∷ ks) e = (e.0 aliases, every ks e.1)

-- ---- FROM

abbrev pub SilentPart : Scope → Level → FromItem → Type 0
SilentPart s level f = IsSilent (named_part (qualified_part f s.levels level).item s level).note

pub table_part_silent : (s : Scope) (level : Level) (name alias : Name) (columns : List Name) (recursive : Bool)
    → s.table name ≡ Some (record { written = columns; recursive = recursive }) → recursive ≡ false
    → SilentPart s level (roll-FromItem (record { source = source.Table name; alias = alias; columns = columns }))
unfolding n.of_table
table_part_silent s level name alias columns recursive found plain =
    let f : FromItem = roll-FromItem (record { source = source.Table name; alias = alias; columns = columns }) in
    let w : FromItem = roll-FromItem (record { source = source.Table name; alias = alias; columns = [] }) in
    ap (λ (p : Part). (named_part p.item s level).note.refers) (d.part_rule f s.levels level ∙ ap (n.shaped alias) (d.table_is name columns s.levels level))
    ∙ (ap (λ (z : Noted Part). z.note.refers)
    (r.part_rule w s level
    ∙ ap (λ (o : Noted Origin). also (n.part_note s alias []) (mapped (n.shaped alias) o))
    (r.table_is name [] s level
    ∙ (ap (λ (o : Option Listed). also (n.written s name) (n.of_table name o)) found
    ∙ ap (λ v. also (n.written s name) (n.of_table name (Some (record { written = columns; recursive = v })))) plain)))
    ∙ both_silent (n.part_note s alias []) (joined (n.written s name) (n.once_where false)) (part_silent s alias [])
    (both_silent (n.written s name) (n.once_where false) (written_silent s name) table_silent))

pub sub_silent : (s : Scope) (level : Level) (q : Query) (alias : Name) (columns : List Name) (lateral : Bool)
    → SilentQuery (inside (n.before lateral level) s) q
    → SilentPart s level (roll-FromItem (record { source = source.Sub q lateral; alias = alias; columns = columns }))
sub_silent s level q alias columns lateral h =
    let f : FromItem = roll-FromItem (record { source = source.Sub q lateral; alias = alias; columns = columns }) in
    let x : Shown Query = qualified_shown q (n.before lateral level ∷ s.levels) in
    let y : Noted (Shown Query) = named_query x.it (inside (n.before lateral level) s) in
    ap (λ (p : Part). (named_part p.item s level).note.refers) (d.part_rule f s.levels level ∙ ap (n.shaped alias) (d.sub_is q lateral columns s.levels level))
    ∙ (ap (λ (z : Noted Part). z.note.refers)
    (r.part_rule (n.shaped alias (n.of_query lateral columns x)).item s level
    ∙ ap (λ (o : Noted Origin). also (n.part_note s alias columns) (mapped (n.shaped alias) o)) (r.sub_is x.it lateral columns s level))
    ∙ both_silent (n.part_note s alias columns) y.note (part_silent s alias columns) h)

-- the rest of FROM behind items that are seen so
abbrev pub SilentFrom : Scope → Level → List FromItem → Type 0
SilentFrom s level fs =
    (before : List FromItem) (note : Note) → IsSilent note
    → IsSilent (fold (λ a f. n.with_part a (named_part f s a.it.seen)) (framed_so before level note) (all_items (parts s.levels level fs))).note

pub one_from_silent : (s : Scope) (level : Level) (f : FromItem) (fs : List FromItem) → BackPart s level f → SilentPart s level f
    → SilentFrom s (level ++ (qualified_part f s.levels level).seen ∷ []) fs → SilentFrom s level (f ∷ fs)
one_from_silent s level f fs one silent more before note h =
    let p : Part = qualified_part f s.levels level in
    let q : Noted Part = named_part p.item s level in
    let rest : List Part = parts s.levels (level ++ p.seen ∷ []) fs in
    let next : n.with_part (framed_so before level note) q ≡ framed_so (before ++ f ∷ []) (level ++ p.seen ∷ []) (joined note q.note) =
    λ i. framed_so (before ++ one.item i ∷ []) (level ++ one.seen i ∷ []) (joined note q.note) in
    ap (λ (a : Noted Framed). (fold (λ a f. n.with_part a (named_part f s a.it.seen)) a (all_items rest)).note.refers) next
    ∙ more (before ++ f ∷ []) (joined note q.note) (both_silent note q.note h silent)

-- ---- selects

abbrev Fields : Type 0
Fields = Select-F Expr Source FromItem Item Key Query Recursive Select

abbrev aliases : List FromItem → List Name
aliases from = map (λ f. (out-FromItem f).alias) from

-- a select by its parts
abbrev pub read_so : Fields → Scope → Noted (Shown Select)
read_so x s =
    also (joined (breaks rule.Duplicates (has_double (aliases x.from))) (named_from s x.from).note)
    (named_over x (inside (named_from s x.from).it.seen s) (named_from s x.from).it.items)

pub named_fields : (x : Fields) (s : Scope) → named_select (roll-Select x) s ≡ read_so x s
named_fields x s = r.select_rule (roll-Select x) s ∙ ap (λ (x : Fields). read_so x s) (out-roll-Select x)

pub qualified_fields : (x : Fields) (s : Sight) → qualified_select (roll-Select x) s ≡ qualified_over x ((qualified_from s x.from).seen ∷ s) (qualified_from s x.from).items
qualified_fields x s =
    d.select_rule (roll-Select x) s ∙ ap (λ (x : Fields). qualified_over x ((qualified_from s x.from).seen ∷ s) (qualified_from s x.from).items) (out-roll-Select x)

pub from_read : (s : Scope) (from : List FromItem) → BackFrom s [] from
    → ReadsFrom (named_from s (qualified_from s.levels from).items) from (qualified_from s.levels from).seen
from_read s from h = subst (λ (a : Framed). ReadsFrom (named_from s a.items) from a.seen) (sym (from_is s.levels from)) (h.reads [] clean clean_quiet)

abbrev pub SilentSelect : Scope → Select → Type 0
SilentSelect s x = IsSilent (named_select (qualified_select x s.levels).it s).note

-- what stands over FROM names nothing, where FROM's items are read as they were
pub record SilentOver (s : Scope) (list : List Item) (filter limit : Option Expr) (order : List Key) : Type 0 where
  pub list_is : Every (SilentItem s) list
  pub filter_is : EveryOption (Silent s) filter
  pub order_is : Every (SilentKey s) order
  pub limit_is : EveryOption (Silent s) limit

pub over_silent : (s : Scope) (list : List Item) (from items : List FromItem) (filter limit : Option Expr) (order : List Key)
    → SilentOver s list filter limit order
    → IsSilent (named_over (record {
      list = (qualified_items s.levels list).it;
      from = items;
      filter = option_map (qualified_in s.levels) filter;
      order = qualified_keys s.levels order;
      limit = option_map (qualified_in s.levels) limit;
    }) s from).note
over_silent s list from items filter limit order h =
    both_silent (joined (named_items s (qualified_items s.levels list).it).note (held (named_in s) (option_map (qualified_in s.levels) filter)).note) _
    (both_silent (named_items s (qualified_items s.levels list).it).note _ (items_silent s list h.list_is)
    (held_silent (named_in s) (qualified_in s.levels) filter h.filter_is))
    (both_silent (each (named_key_in (map (λ i. (out-Item i).alias) (qualified_items s.levels list).it) s) (qualified_keys s.levels order)).note _
    (keys_silent s (map (λ i. (out-Item i).alias) (qualified_items s.levels list).it) order h.order_is)
    (held_silent (named_in s) (qualified_in s.levels) limit h.limit_is))

-- the note of a select: that of its FROM, and that of what stands over it
pub select_refers : (s : Scope) (list : List Item) (from : List FromItem) (filter limit : Option Expr) (order : List Key) → BackFrom s [] from
    → SilentOver (inside (qualified_from s.levels from).seen s) list filter limit order
    → (named_select
    (qualified_select (roll-Select (record { list = list; from = from; filter = filter; order = order; limit = limit })) s.levels).it s).note.refers
    ≡ (named_from s (qualified_from s.levels from).items).note.refers
unfolding joined summed breaks
select_refers s list from filter limit order f over =
    let fr : Framed = qualified_from s.levels from in
    let here : Scope = inside fr.seen s in
    let x : Fields = record { list = list; from = from; filter = filter; order = order; limit = limit } in
    let y : Fields = record {
      list = (qualified_items here.levels list).it;
      from = fr.items;
      filter = option_map (qualified_in here.levels) filter;
      order = qualified_keys here.levels order;
      limit = option_map (qualified_in here.levels) limit;
    } in
    let found : Noted Framed = named_from s fr.items in
    let head : Note = joined (breaks rule.Duplicates (has_double (aliases fr.items))) found.note in
    let is : ReadsFrom found from fr.seen = from_read s from f in
    let there : named_over y (inside found.it.seen s) found.it.items ≡ named_over y here from = λ i. named_over y (inside (is.seen_is i) s) (is.items_are i) in
    let read : named_select (qualified_select (roll-Select x) s.levels).it s ≡ also head (named_over y here from) =
    ap (λ (z : Shown Select). named_select z.it s) (qualified_fields x s.levels) ∙ (named_fields y s ∙ ap (also head) there) in
    ap (λ (z : Noted (Shown Select)). z.note.refers) read
    ∙ (ap (λ r. summed found.note.refers r) (over_silent here list from fr.items filter limit order over) ∙ none_more found.note.refers)
  where
    none_more : (t : Times) → summed t Never ≡ t
    none_more Never = refl
    none_more Once = refl
    none_more Often = refl

pub select_silent : (s : Scope) (list : List Item) (from : List FromItem) (filter limit : Option Expr) (order : List Key) → BackFrom s [] from
    → SilentFrom s [] from
    → SilentOver (inside (qualified_from s.levels from).seen s) list filter limit order
    → SilentSelect s (roll-Select (record { list = list; from = from; filter = filter; order = order; limit = limit }))
select_silent s list from filter limit order f silent over =
    select_refers s list from filter limit order f over
    ∙ (ap (λ (a : Framed). (named_from s a.items).note.refers) (from_is s.levels from) ∙ silent [] clean clean_silent)

-- ---- queries

more_selects : (s : Scope) (a : Noted (Shown (List Select))) (xs : List Select) → IsSilent a.note → Every (SilentSelect s) xs
    → IsSilent (fold (λ a x. n.with_select a (named_select x s)) a (map (λ x. x.it) (map (λ x. qualified_select x s.levels) xs))).note
more_selects s a [] h e = h
more_selects s a (x ∷ xs) h e =
    let b : Noted (Shown Select) = named_select (qualified_select x s.levels).it s in
    more_selects s (n.with_select a b) xs (both_silent a.note b.note h e.0) e.1

pub selects_silent : (s : Scope) (xs : List Select) → Every (SilentSelect s) xs → IsSilent (named_selects s (qualified_selects s.levels xs).it).note
selects_silent s xs e = more_selects s n.no_select xs clean_silent e

abbrev QueryFields : Type 0
QueryFields = Query-F Expr Source FromItem Item Key Query Recursive Select

pub query_silent : (s : Scope) (xs : List Select) → Every (SilentSelect s) xs → SilentQuery s (roll-Query (record { recursive = None; selects = xs }))
query_silent s xs e =
    let q : Query = roll-Query (record { recursive = None; selects = xs }) in
    let ys : Shown (List Select) = qualified_selects s.levels xs in
    let w : Query = roll-Query (record { recursive = None; selects = ys.it }) in
    let qualified : qualified_shown q s.levels ≡ record { it = w; names = ys.names } =
    d.query_rule q s.levels
    ∙ ap (λ (x : QueryFields). dot.query_of (option_map (λ r. qualified_recursive r s.levels) x.recursive) (qualified_selects s.levels x.selects))
    (out-roll-Query (record { recursive = None; selects = xs })) in
    let read : named_query (qualified_shown q s.levels).it s ≡ also (breaks rule.Types false) (mapped n.query_with (named_selects s ys.it)) =
    ap (λ (x : Shown Query). named_query x.it s) qualified
    ∙ (r.query_rule w s ∙ ap (λ (x : QueryFields). also (breaks rule.Types (is_some x.recursive)) (mapped n.query_with (named_selects s x.selects)))
    (out-roll-Query (record { recursive = None; selects = ys.it }))) in
    ap (λ (z : Noted (Shown Query)). z.note.refers) read
    ∙ both_silent (breaks rule.Types false) (named_selects s ys.it).note (breaks_silent rule.Types false) (selects_silent s xs e)
