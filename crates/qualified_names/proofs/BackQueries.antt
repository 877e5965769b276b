-- Lists of items, FROM, selects and queries that are read back, by their parts.
use Rattle.std.proofs.Common.{◌≡◌, refl, ap, sym, ◌∙◌, Bool, false, List, [], ◌∷◌, ◌++◌, map, fold, drop, Option, Some, None}
use Rattle.std.proofs.lemmas.List.{append_assoc, append-nil}
use Rattle.away_trees.specs.declared.queries.Expr.{Expr}
use Rattle.away_trees.specs.declared.queries.Source.TheVariants as source
use Rattle.away_trees.specs.declared.queries.FromItem.{FromItem}
use Rattle.away_trees.specs.declared.queries.Item.{Item}
use Rattle.away_trees.specs.declared.queries.Key.{Key}
use Rattle.away_trees.specs.declared.queries.Query.{Query}
use Rattle.away_trees.specs.declared.queries.Expr.TheViews.{out-FromItem, roll-Item, roll-FromItem, roll-Key}
use Rattle.away_names.specs.declared.rule.Rule.TheVariants as rule
use Rattle.away_names.specs.declared.note.Note.{Note}
use Rattle.away_names.specs.declared.note.Noted.{Noted}
use Rattle.away_names.specs.declared.note.Shown.{Shown}
use Rattle.away_names.specs.declared.note.Column.{Column}
use Rattle.away_names.specs.declared.note.Framed.{Framed}
use Rattle.away_names.specs.declared.note.Part.{Part}
use Rattle.away_names.specs.declared.note.Origin.{Origin}
use Rattle.away_names.specs.declared.scope.Listed.{Listed}
use Rattle.away_names.specs.Lookups.{Name, Level, Scope, inside, has_double}
use Rattle.away_names.specs.Naming as n
use Rattle.away_names.specs.Notes.{joined, breaks, mapped, also, each}
use Rattle.away_names.specs.Trees.{named_expr, named_item, named_key, named_part, named_query, last_of, alone_of}
use Rattle.away_names.specs.NamingLists.{named_items, named_key_in}
use Rattle.away_names.proofs.NamingRules as r
use Rattle.qualified_names.specs.Sight.{Sight, column_name, own_name}
use Rattle.qualified_names.specs.Qualifying as dot
use Rattle.qualified_names.specs.Trees.{qualified_expr, qualified_item, qualified_key, qualified_part, qualified_shown, qualified_items, qualified_keys, qualified_from}
use Rattle.qualified_names.proofs.QualifyingRules as d
use Rattle.qualified_names.proofs.Gives.{IsQuiet, Gives, Every, clean_quiet, both_quiet, unbroken, written_quiet, all_quiet, maybe_quiet, same_gives, mapped_gives, also_gives, each_gives}
use Rattle.qualified_names.proofs.BackExpressions.{Back, BackQuery}

-- ---- lists of items

pub record BackItem (s : Scope) (i : Item) : Type 0 where
  pub it : (named_item (qualified_item i s.levels).it s).it.it ≡ i
  pub name : (named_item (qualified_item i s.levels).it s).it.name ≡ (qualified_item i s.levels).name
  pub quiet : IsQuiet (named_item (qualified_item i s.levels).it s).note

own_as : (alias : Option Name) (e w : Expr) → n.shown e (last_of w) ≡ own_name w → n.named_as alias e (last_of w) ≡ column_name alias w
unfolding n.named_as column_name
own_as None e w h = h
own_as (Some x) e w h = refl

pub item_back : (s : Scope) (x : Expr) (alias : Option Name) → s.in_function ≡ false → Back s x → BackItem s (roll-Item (record { expr = x; alias = alias }))
item_back s x alias h k =
    let w : Expr = qualified_expr x s.levels in
    let i : Item = roll-Item (record { expr = x; alias = alias }) in
    let is : qualified_item i s.levels ≡ dot.entry_of alias w = d.item_rule i s.levels in
    let read : named_item (qualified_item i s.levels).it s ≡ also (n.maybe_written s alias) (mapped (n.item_of alias (last_of w)) (named_expr w s)) =
    ap (λ (c : Column). named_item c.it s) is ∙ r.item_rule (roll-Item (record { expr = w; alias = alias })) s in
    record {
      it = ap (λ (c : Noted Column). c.it.it) read ∙ ap (λ (e : Expr). roll-Item (record { expr = e; alias = alias })) k.gives.0;
      name = ap (λ (c : Noted Column). c.it.name) read ∙ (ap (λ (e : Expr). n.named_as alias e (last_of w)) k.gives.0 ∙ (own_as alias x w k.called ∙ ap (λ (c : Column). c.name) (sym is)));
      quiet = ap (λ (c : Noted Column). c.note.least) read ∙ both_quiet (n.maybe_written s alias) (named_expr w s).note (maybe_quiet s alias h) k.gives.1;
    }

pub record ReadsItems (a : Noted (Shown (List Item))) (list : List Item) (names : List (Option Name)) : Type 0 where
  pub it : a.it.it ≡ list
  pub names_are : a.it.names ≡ names
  pub quiet : IsQuiet a.note

module _ (s : Scope) where
  shown_items : List Item → List Column
  shown_items list = map (λ i. qualified_item i s.levels) list

  more_items : (a : Noted (Shown (List Item))) (list : List Item) → IsQuiet a.note → Every (BackItem s) list
      → ReadsItems (fold (λ a i. n.with_item a (named_item i s)) a (map (λ c. c.it) (map (λ i. qualified_item i s.levels) list))) (a.it.it ++ list) (a.it.names ++ map (λ c. c.name) (map (λ i. qualified_item i s.levels) list))
  more_items a [] h e = record { it = sym (append-nil a.it.it); names_are = sym (append-nil a.it.names); quiet = h }
  more_items a (i ∷ list) h e =
      let c : Column = qualified_item i s.levels in
      let b : Noted Column = named_item c.it s in
      let rest = more_items (n.with_item a b) list (both_quiet a.note b.note h e.0.quiet) e.1 in
      record {
        it = rest.it ∙ (ap (λ z. (a.it.it ++ z ∷ []) ++ list) e.0.it ∙ append_assoc a.it.it (i ∷ []) list);
        names_are = rest.names_are
            ∙ (ap (λ z. (a.it.names ++ z ∷ []) ++ map (λ c. c.name) (map (λ i. qualified_item i s.levels) list)) e.0.name ∙ append_assoc a.it.names (c.name ∷ []) (map (λ c. c.name) (map (λ i. qualified_item i s.levels) list)));
        quiet = rest.quiet;
      }

  pub items_back : (list : List Item) → Every (BackItem s) list → ReadsItems (named_items s (qualified_items s.levels list).it) list (qualified_items s.levels list).names
  items_back list e = more_items n.no_item list clean_quiet e

-- ---- keys

pub key_back : (s : Scope) (x : Expr) (descending : Bool) (aliases : List (Option Name)) → Back s x
    → Gives (named_key (qualified_key (roll-Key (record { expr = x; descending = descending })) s.levels) aliases s) (roll-Key (record { expr = x; descending = descending }))
unfolding n.is_alias
key_back s x descending aliases k =
    let w : Expr = qualified_expr x s.levels in
    let key : Key = roll-Key (record { expr = x; descending = descending }) in
    same_gives (named_key (qualified_key key s.levels) aliases s)
    (also (breaks rule.Ambiguity (n.is_alias aliases (alone_of w))) (mapped (λ e. roll-Key (record { expr = e; descending = descending })) (named_expr w s))) key
    (ap (λ k. named_key k aliases s) (d.key_rule key s.levels) ∙ r.key_rule (roll-Key (record { expr = w; descending = descending })) aliases s)
    (also_gives _ (mapped (λ e. roll-Key (record { expr = e; descending = descending })) (named_expr w s)) key (ap (λ o. (breaks rule.Ambiguity (n.is_alias aliases o)).least) k.alone ∙ unbroken rule.Ambiguity)
    (mapped_gives (λ e. roll-Key (record { expr = e; descending = descending })) (named_expr w s) x k.gives))

abbrev pub BackKey : Scope → Key → Type 0
BackKey s k = (aliases : List (Option Name)) → Gives (named_key (qualified_key k s.levels) aliases s) k

pub keys_back : (s : Scope) (aliases : List (Option Name)) (ks : List Key) → Every (BackKey s) ks → Gives (each (named_key_in aliases s) (qualified_keys s.levels ks)) ks
keys_back s aliases ks e = each_gives (named_key_in aliases s) (λ k. qualified_key k s.levels) ks (every ks e)
  where
    every : (ks : List Key) → Every (BackKey s) ks → Every (λ k. Gives (named_key (qualified_key k s.levels) aliases s) k) ks
    every [] e = tt
    every (k ∷ ks) e = (e.0 aliases, every ks e.1)

-- ---- FROM

pub record BackPart (s : Scope) (level : Level) (f : FromItem) : Type 0 where
  pub item : (named_part (qualified_part f s.levels level).item s level).it.item ≡ f
  pub seen : (named_part (qualified_part f s.levels level).item s level).it.seen ≡ (qualified_part f s.levels level).seen
  pub quiet : IsQuiet (named_part (qualified_part f s.levels level).item s level).note
  pub alias : (out-FromItem (qualified_part f s.levels level).item).alias ≡ (out-FromItem f).alias

part_quiet : (s : Scope) (alias : Name) (columns : List Name) → s.in_function ≡ false → has_double columns ≡ false → IsQuiet (n.part_note s alias columns)
unfolding n.part_note
part_quiet s alias columns h differ =
    both_quiet _ _ (written_quiet s alias h) (both_quiet _ _ (all_quiet s columns h) (ap (λ b. (breaks rule.Duplicates b).least) differ ∙ unbroken rule.Duplicates))

none_doubled : has_double [] ≡ false
unfolding has_double
none_doubled = refl

once_quiet : (v : Bool) → IsQuiet (n.once_where v)
unfolding n.once_where
once_quiet v = refl

-- by the part with names, and by what it stands for
by_parts : (s : Scope) (level : Level) (f : FromItem) (p : Part) (q : Noted Part) → qualified_part f s.levels level ≡ p → named_part p.item s level ≡ q
    → q.it.item ≡ f → q.it.seen ≡ p.seen → IsQuiet q.note → (out-FromItem p.item).alias ≡ (out-FromItem f).alias → BackPart s level f
by_parts s level f p q is stands item seen quiet alias =
    let whole : named_part (qualified_part f s.levels level).item s level ≡ q = ap (λ (p : Part). named_part p.item s level) is ∙ stands in
    record {
      item = ap (λ (q : Noted Part). q.it.item) whole ∙ item;
      seen = ap (λ (q : Noted Part). q.it.seen) whole ∙ (seen ∙ ap (λ (p : Part). p.seen) (sym is));
      quiet = ap (λ (q : Noted Part). q.note.least) whole ∙ quiet;
      alias = ap (λ (p : Part). (out-FromItem p.item).alias) is ∙ alias;
    }

pub table_back : (s : Scope) (level : Level) (name alias : Name) (columns : List Name) (recursive : Bool) → s.in_function ≡ false
    → s.table name ≡ Some (record { written = columns; recursive = recursive })
    → BackPart s level (roll-FromItem (record { source = source.Table name; alias = alias; columns = columns }))
unfolding n.of_table
table_back s level name alias columns recursive h found =
    let f : FromItem = roll-FromItem (record { source = source.Table name; alias = alias; columns = columns }) in
    let w : FromItem = roll-FromItem (record { source = source.Table name; alias = alias; columns = [] }) in
    let names : List (Option Name) = n.plain_names (drop 1 columns) in
    let listed : Listed = record { written = columns; recursive = recursive } in
    by_parts s level f (record { item = w; seen = record { alias = alias; columns = names } })
    (also (n.part_note s alias []) (mapped (n.shaped alias) (also (n.written s name) (n.of_table name (Some listed)))))
    (d.part_rule f s.levels level ∙ ap (n.shaped alias) (d.table_is name columns s.levels level))
    (r.part_rule w s level
    ∙ ap (λ (o : Noted Origin). also (n.part_note s alias []) (mapped (n.shaped alias) o))
    (r.table_is name [] s level ∙ ap (λ (o : Option Listed). also (n.written s name) (n.of_table name o)) found))
    refl refl
    (both_quiet (n.part_note s alias []) (joined (n.written s name) (n.once_where recursive)) (part_quiet s alias [] h none_doubled)
    (both_quiet (n.written s name) (n.once_where recursive) (written_quiet s name h) (once_quiet recursive)))
    refl

pub sub_back : (s : Scope) (level : Level) (q : Query) (alias : Name) (columns : List Name) (lateral : Bool) → s.in_function ≡ false → has_double columns ≡ false
    → BackQuery (inside (n.before lateral level) s) q → BackPart s level (roll-FromItem (record { source = source.Sub q lateral; alias = alias; columns = columns }))
sub_back s level q alias columns lateral h differ k =
    let f : FromItem = roll-FromItem (record { source = source.Sub q lateral; alias = alias; columns = columns }) in
    let x : Shown Query = qualified_shown q (n.before lateral level ∷ s.levels) in
    let y : Noted (Shown Query) = named_query x.it (inside (n.before lateral level) s) in
    by_parts s level f (n.shaped alias (n.of_query lateral columns x))
    (also (n.part_note s alias columns) (mapped (n.shaped alias) (mapped (n.of_query lateral columns) y)))
    (d.part_rule f s.levels level ∙ ap (n.shaped alias) (d.sub_is q lateral columns s.levels level))
    (r.part_rule (n.shaped alias (n.of_query lateral columns x)).item s level
    ∙ ap (λ (o : Noted Origin). also (n.part_note s alias columns) (mapped (n.shaped alias) o)) (r.sub_is x.it lateral columns s level))
    (ap (λ (q : Query). roll-FromItem (record { source = source.Sub q lateral; alias = alias; columns = columns })) k.0)
    (ap (λ names. record { alias = alias; columns = n.names_or columns names }) k.1)
    (both_quiet (n.part_note s alias columns) y.note (part_quiet s alias columns h differ) k.2)
    refl

-- the items with names, each of which sees those before it
abbrev pub parts : Sight → Level → List FromItem → List Part
parts s level [] = []
parts s level (f ∷ fs) = qualified_part f s level ∷ parts s (level ++ (qualified_part f s level).seen ∷ []) fs

abbrev pub all_items : List Part → List FromItem
all_items ps = map (λ p. p.item) ps

abbrev pub all_seen : List Part → Level
all_seen ps = map (λ p. p.seen) ps

more_parts : (s : Sight) (a : Framed) (fs : List FromItem) →
    fold (λ a f. dot.with_part a (qualified_part f s a.seen)) a fs ≡ record { items = a.items ++ all_items (parts s a.seen fs); seen = a.seen ++ all_seen (parts s a.seen fs) }
more_parts s a [] = λ i. record { items = sym (append-nil a.items) i; seen = sym (append-nil a.seen) i }
more_parts s a (f ∷ fs) =
    let p : Part = qualified_part f s a.seen in
    let rest : List Part = parts s (a.seen ++ p.seen ∷ []) fs in
    more_parts s (dot.with_part a p) fs
    ∙ (λ i. record { items = append_assoc a.items (p.item ∷ []) (all_items rest) i; seen = append_assoc a.seen (p.seen ∷ []) (all_seen rest) i })

pub from_is : (s : Sight) (fs : List FromItem) → qualified_from s fs ≡ record { items = all_items (parts s [] fs); seen = all_seen (parts s [] fs) }
from_is s fs = more_parts s dot.no_part fs

pub record ReadsFrom (x : Noted Framed) (items : List FromItem) (seen : Level) : Type 0 where
  pub items_are : x.it.items ≡ items
  pub seen_is : x.it.seen ≡ seen
  pub quiet : IsQuiet x.note

abbrev pub framed_so : List FromItem → Level → Note → Noted Framed
framed_so items seen note = record { it = record { items = items; seen = seen }; note = note }

-- the rest of FROM behind items that are seen so
pub record BackFrom (s : Scope) (level : Level) (fs : List FromItem) : Type 0 where
  pub reads : (items : List FromItem) (note : Note) → IsQuiet note
      → ReadsFrom (fold (λ a f. n.with_part a (named_part f s a.it.seen)) (framed_so items level note) (all_items (parts s.levels level fs))) (items ++ fs) (level ++ all_seen (parts s.levels level fs))
  pub aliases : map (λ f. (out-FromItem f).alias) (all_items (parts s.levels level fs)) ≡ map (λ f. (out-FromItem f).alias) fs

pub no_from_back : (s : Scope) (level : Level) → BackFrom s level []
no_from_back s level = record {
  reads = λ items note h. record { items_are = sym (append-nil items); seen_is = sym (append-nil level); quiet = h };
  aliases = refl;
}

pub one_from_back : (s : Scope) (level : Level) (f : FromItem) (fs : List FromItem) → BackPart s level f → BackFrom s (level ++ (qualified_part f s.levels level).seen ∷ []) fs → BackFrom s level (f ∷ fs)
one_from_back s level f fs one more = record {
  reads = λ items note h.
      let p : Part = qualified_part f s.levels level in
      let q : Noted Part = named_part p.item s level in
      let rest : List Part = parts s.levels (level ++ p.seen ∷ []) fs in
      let next : n.with_part (framed_so items level note) q ≡ framed_so (items ++ f ∷ []) (level ++ p.seen ∷ []) (joined note q.note) =
      λ i. framed_so (items ++ one.item i ∷ []) (level ++ one.seen i ∷ []) (joined note q.note) in
      let all = more.reads (items ++ f ∷ []) (joined note q.note) (both_quiet note q.note h one.quiet) in
      let same = ap (λ (a : Noted Framed). fold (λ a f. n.with_part a (named_part f s a.it.seen)) a (all_items rest)) next in
      record {
        items_are = ap (λ (x : Noted Framed). x.it.items) same ∙ (all.items_are ∙ append_assoc items (f ∷ []) fs);
        seen_is = ap (λ (x : Noted Framed). x.it.seen) same ∙ (all.seen_is ∙ append_assoc level (p.seen ∷ []) (all_seen rest));
        quiet = ap (λ (x : Noted Framed). x.note.least) same ∙ all.quiet;
      };
  aliases = λ i. one.alias i ∷ more.aliases i;
}
