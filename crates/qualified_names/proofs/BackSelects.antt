-- Selects and queries that are read back, by their parts.
use Rattle.std.proofs.Common.{◌≡◌, refl, ap, sym, subst, ◌∙◌, false, List, [], ◌∷◌, ◌++◌, map, fold, Option, None, option_map}
use Rattle.std.specs.Prelude.{is_some}
use Rattle.std.proofs.lemmas.List.{append_assoc, append-nil}
use Rattle.away_trees.specs.declared.queries.Expr.{Expr}
use Rattle.away_trees.specs.declared.queries.Source.{Source}
use Rattle.away_trees.specs.declared.queries.FromItem.{FromItem}
use Rattle.away_trees.specs.declared.queries.Item.{Item}
use Rattle.away_trees.specs.declared.queries.Key.{Key}
use Rattle.away_trees.specs.declared.queries.Select.{Select}
use Rattle.away_trees.specs.declared.queries.Recursive.{Recursive}
use Rattle.away_trees.specs.declared.queries.Query.{Query}
use Rattle.away_trees.specs.declared.queries.Expr.TheOpen.{Select-F, Query-F}
use Rattle.away_trees.specs.declared.queries.Expr.TheViews.{out-Item, out-FromItem, roll-Select, roll-Query, out-roll-Select, out-roll-Query}
use Rattle.away_names.specs.declared.rule.Rule.TheVariants as rule
use Rattle.away_names.specs.declared.note.Note.{Note}
use Rattle.away_names.specs.declared.note.Noted.{Noted}
use Rattle.away_names.specs.declared.note.Shown.{Shown}
use Rattle.away_names.specs.declared.note.Framed.{Framed}
use Rattle.away_names.specs.Lookups.{Name, Scope, inside, has_double}
use Rattle.away_names.specs.Naming as n
use Rattle.away_names.specs.Notes.{clean, joined, breaks, mapped, also}
use Rattle.away_names.specs.Trees.{named_select, named_query}
use Rattle.away_names.specs.NamingLists.{named_selects, named_from, named_over}
use Rattle.away_names.proofs.NamingRules as r
use Rattle.qualified_names.specs.Sight.{Sight}
use Rattle.qualified_names.specs.Qualifying as dot
use Rattle.qualified_names.specs.Trees.{qualified_in, qualified_items, qualified_keys, qualified_select, qualified_selects, qualified_from, qualified_over, qualified_shown, qualified_recursive}
use Rattle.qualified_names.proofs.QualifyingRules as d
use Rattle.qualified_names.proofs.FirstNames.{first_stay}
use Rattle.qualified_names.proofs.Gives.{IsQuiet, Every, EveryOption, clean_quiet, both_quiet, unbroken}
use Rattle.qualified_names.proofs.BackExpressions.{Back, BackQuery, maybe_back}
use Rattle.qualified_names.proofs.BackQueries.{BackItem, BackKey, BackFrom, ReadsFrom, from_is, items_back, keys_back}

abbrev Fields : Type 0
Fields = Select-F Expr Source FromItem Item Key Query Recursive Select

abbrev aliases : List FromItem → List Name
aliases from = map (λ f. (out-FromItem f).alias) from

-- a select by its parts
abbrev read_so : Fields → Scope → Noted (Shown Select)
read_so x s = also (joined (breaks rule.Duplicates (has_double (aliases x.from))) (named_from s x.from).note) (named_over x (inside (named_from s x.from).it.seen s) (named_from s x.from).it.items)

named_fields : (x : Fields) (s : Scope) → named_select (roll-Select x) s ≡ read_so x s
named_fields x s = r.select_rule (roll-Select x) s ∙ ap (λ (x : Fields). read_so x s) (out-roll-Select x)

qualified_fields : (x : Fields) (s : Sight) → qualified_select (roll-Select x) s ≡ qualified_over x ((qualified_from s x.from).seen ∷ s) (qualified_from s x.from).items
qualified_fields x s = d.select_rule (roll-Select x) s ∙ ap (λ (x : Fields). qualified_over x ((qualified_from s x.from).seen ∷ s) (qualified_from s x.from).items) (out-roll-Select x)

pub record BackSelect (s : Scope) (x : Select) : Type 0 where
  pub it : (named_select (qualified_select x s.levels).it s).it.it ≡ x
  pub names : (named_select (qualified_select x s.levels).it s).it.names ≡ (qualified_select x s.levels).names
  pub quiet : IsQuiet (named_select (qualified_select x s.levels).it s).note

-- what is read from the items with names
from_read : (s : Scope) (from : List FromItem) → BackFrom s [] from → ReadsFrom (named_from s (qualified_from s.levels from).items) from (qualified_from s.levels from).seen
from_read s from h = subst (λ (a : Framed). ReadsFrom (named_from s a.items) from a.seen) (sym (from_is s.levels from)) (h.reads [] clean clean_quiet)

same_aliases : (s : Scope) (from : List FromItem) → BackFrom s [] from → aliases (qualified_from s.levels from).items ≡ aliases from
same_aliases s from h = ap (λ (a : Framed). aliases a.items) (from_is s.levels from) ∙ h.aliases

pub select_back : (s : Scope) (list : List Item) (from : List FromItem) (filter limit : Option Expr) (order : List Key) → has_double (map (λ f. (out-FromItem f).alias) from) ≡ false
    → BackFrom s [] from → Every (BackItem (inside (qualified_from s.levels from).seen s)) list → EveryOption (Back (inside (qualified_from s.levels from).seen s)) filter
    → Every (BackKey (inside (qualified_from s.levels from).seen s)) order → EveryOption (Back (inside (qualified_from s.levels from).seen s)) limit
    → BackSelect s (roll-Select (record { list = list; from = from; filter = filter; order = order; limit = limit }))
select_back s list from filter limit order differ f l w o m =
    let fr : Framed = qualified_from s.levels from in
    let here : Scope = inside fr.seen s in
    let x : Fields = record { list = list; from = from; filter = filter; order = order; limit = limit } in
    let y : Fields = record { list = (qualified_items here.levels list).it; from = fr.items; filter = option_map (qualified_in here.levels) filter; order = qualified_keys here.levels order; limit = option_map (qualified_in here.levels) limit } in
    let found : Noted Framed = named_from s fr.items in
    let head : Note = joined (breaks rule.Duplicates (has_double (aliases fr.items))) found.note in
    let is : ReadsFrom found from fr.seen = from_read s from f in
    let over : named_over y (inside found.it.seen s) found.it.items ≡ named_over y here from = λ i. named_over y (inside (is.seen_is i) s) (is.items_are i) in
    let read : named_select (qualified_select (roll-Select x) s.levels).it s ≡ also head (named_over y here from) =
    ap (λ (z : Shown Select). named_select z.it s) (qualified_fields x s.levels) ∙ (named_fields y s ∙ ap (also head) over) in
    let is_list = items_back here list l in
    let is_filter = maybe_back here filter w in
    let is_order = keys_back here (map (λ i. (out-Item i).alias) y.list) order o in
    let is_limit = maybe_back here limit m in
    record {
      it = ap (λ (z : Noted (Shown Select)). z.it.it) read ∙ (λ i. roll-Select (record { list = is_list.it i; from = from; filter = is_filter.0 i; order = is_order.0 i; limit = is_limit.0 i }));
      names = ap (λ (z : Noted (Shown Select)). z.it.names) read ∙ (is_list.names_are ∙ ap (λ (z : Shown Select). z.names) (sym (qualified_fields x s.levels)));
      quiet = ap (λ (z : Noted (Shown Select)). z.note.least) read
          ∙ both_quiet head _ (both_quiet _ found.note (ap (λ b. (breaks rule.Duplicates b).least) (ap has_double (same_aliases s from f) ∙ differ) ∙ unbroken rule.Duplicates) is.quiet)
          (both_quiet _ _ (both_quiet _ _ is_list.quiet is_filter.1) (both_quiet _ _ is_order.1 is_limit.1));
    }

-- ---- queries

pub record ReadsSelects (a : Noted (Shown (List Select))) (xs : List Select) (names : List (Option Name)) : Type 0 where
  pub it : a.it.it ≡ xs
  pub names_are : a.it.names ≡ names
  pub quiet : IsQuiet a.note

more_selects : (s : Scope) (a : Noted (Shown (List Select))) (xs : List Select) → IsQuiet a.note → n.first_names a.it.it a.it.names [] ≡ a.it.names → Every (BackSelect s) xs
    → ReadsSelects (fold (λ a x. n.with_select a (named_select x s)) a (map (λ x. x.it) (map (λ x. qualified_select x s.levels) xs))) (a.it.it ++ xs)
    (n.first_names a.it.it a.it.names (dot.first_of (map (λ x. qualified_select x s.levels) xs)))
more_selects s a [] h k e = record { it = sym (append-nil a.it.it); names_are = sym k; quiet = h }
more_selects s a (x ∷ xs) h k e =
    let w : Shown Select = qualified_select x s.levels in
    let b : Noted (Shown Select) = named_select w.it s in
    let names : List (Option Name) = n.first_names a.it.it a.it.names b.it.names in
    let rest = more_selects s (n.with_select a b) xs (both_quiet a.note b.note h e.0.quiet) (first_stay a.it.it b.it.it names []) e.1 in
    record {
      it = rest.it ∙ (ap (λ z. (a.it.it ++ z ∷ []) ++ xs) e.0.it ∙ append_assoc a.it.it (x ∷ []) xs);
      names_are = rest.names_are ∙ (first_stay a.it.it b.it.it names (dot.first_of (map (λ x. qualified_select x s.levels) xs)) ∙ ap (n.first_names a.it.it a.it.names) e.0.names);
      quiet = rest.quiet;
    }

pub selects_back : (s : Scope) (xs : List Select) → Every (BackSelect s) xs → ReadsSelects (named_selects s (qualified_selects s.levels xs).it) xs (qualified_selects s.levels xs).names
unfolding n.first_names
selects_back s xs e = more_selects s n.no_select xs clean_quiet refl e

abbrev QueryFields : Type 0
QueryFields = Query-F Expr Source FromItem Item Key Query Recursive Select

pub query_back : (s : Scope) (xs : List Select) → Every (BackSelect s) xs → BackQuery s (roll-Query (record { recursive = None; selects = xs }))
query_back s xs e =
    let q : Query = roll-Query (record { recursive = None; selects = xs }) in
    let ys : Shown (List Select) = qualified_selects s.levels xs in
    let w : Query = roll-Query (record { recursive = None; selects = ys.it }) in
    let found : Noted (Shown (List Select)) = named_selects s ys.it in
    let is = selects_back s xs e in
    let qualified : qualified_shown q s.levels ≡ record { it = w; names = ys.names } =
    d.query_rule q s.levels ∙ ap (λ (x : QueryFields). dot.query_of (option_map (λ r. qualified_recursive r s.levels) x.recursive) (qualified_selects s.levels x.selects)) (out-roll-Query (record { recursive = None; selects = xs })) in
    let read : named_query (qualified_shown q s.levels).it s ≡ also (breaks rule.Types false) (mapped n.query_with found) =
    ap (λ (x : Shown Query). named_query x.it s) qualified
    ∙ (r.query_rule w s ∙ ap (λ (x : QueryFields). also (breaks rule.Types (is_some x.recursive)) (mapped n.query_with (named_selects s x.selects))) (out-roll-Query (record { recursive = None; selects = ys.it }))) in (
      ap (λ (z : Noted (Shown Query)). z.it.it) read ∙ ap (λ xs. roll-Query (record { recursive = None; selects = xs })) is.it,
      ap (λ (z : Noted (Shown Query)). z.it.names) read ∙ (is.names_are ∙ ap (λ (x : Shown Query). x.names) (sym qualified)),
      ap (λ (z : Noted (Shown Query)). z.note.least) read ∙ both_quiet (breaks rule.Types false) found.note (unbroken rule.Types) is.quiet,
    )
