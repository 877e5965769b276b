-- Items of FROM, selects and queries of a function are clear as a query has them, where their parts are and no rule of names is broken.
use Rattle.std.proofs.Common.{◌≡◌, refl, ap, sym, subst, ◌∙◌, ℕ, suc, Bool, true, false, List, [], ◌∷◌, ◌++◌, map, drop, length, Option, Some, None, option_map}
use Rattle.away_trees.specs.declared.queries.Expr.{Expr}
use Rattle.away_trees.specs.declared.queries.Source.{Source}
use Rattle.away_trees.specs.declared.queries.Source.TheVariants as source
use Rattle.away_trees.specs.declared.queries.FromItem.{FromItem}
use Rattle.away_trees.specs.declared.queries.Item.{Item}
use Rattle.away_trees.specs.declared.queries.Key.{Key}
use Rattle.away_trees.specs.declared.queries.Select.{Select}
use Rattle.away_trees.specs.declared.queries.Query.{Query}
use Rattle.away_trees.specs.declared.queries.Recursive.{Recursive}
use Rattle.away_trees.specs.declared.queries.Expr.TheOpen as ex
use Rattle.away_trees.specs.declared.queries.Expr.TheOpen.{Select-F, Query-F}
use Rattle.away_trees.specs.declared.queries.Expr.TheViews.{out-FromItem, roll-FromItem, roll-Select, roll-Query, out-roll-Select, out-roll-Query}
use Rattle.away_trees.specs.Algebra.{Algebra, expr_of, source_of, from_of, item_of, key_of, select_of, query_of}
use Rattle.away_trees.proofs.Equations as eq
use Rattle.away_names.specs.declared.rule.Rule.TheVariants as rule
use Rattle.away_names.specs.declared.note.Framed.{Framed}
use Rattle.away_names.specs.declared.note.Noted.{Noted}
use Rattle.away_names.specs.declared.note.Part.{Part}
use Rattle.away_names.specs.declared.note.Shown.{Shown}
use Rattle.away_names.specs.declared.scope.Listed.{Listed}
use Rattle.away_names.specs.declared.scope.Seen.{Seen}
use Rattle.away_names.specs.Lookups.{Name, Level, Scope, inside, is_kept, has_double}
use Rattle.away_names.specs.Naming as n
use Rattle.away_names.specs.Naming.{naming}
use Rattle.away_names.specs.Notes.{joined, breaks, each, held}
use Rattle.sql_meaning.specs.Reads.{Read, Reads, SourceReads, reading, of_list, of_option}
use Rattle.sql_meaning.proofs.Lists.{Zipped}
use Rattle.sql_meaning.proofs.Uses.{left, right}
use Rattle.type_soundness.specs.Sorts.{Every}
use Rattle.type_soundness.proofs.CleanNotes.{Clean, clean_parts, not_broken, test_fails}
use Rattle.qualified_names.specs.Sight.{Sight}
use Rattle.qualified_names.specs.Qualifying as dot
use Rattle.qualified_names.specs.Trees.{qualified_item, qualified_part, qualified_select, qualified_shown, qualified_from, qualified_over, qualified_selects, qualified_recursive}
use Rattle.qualified_names.specs.Unambiguous.{value, values, links, arms, maybe, items, keys, from_items, IsClear}
use Rattle.qualified_names.specs.Unambiguous as c
use Rattle.qualified_names.proofs.QualifyingRules as d
use Rattle.qualified_names.proofs.BackQueries.{from_is}
use Rattle.cte_names.proofs.Refined.{NameSo, SeenSo, LevelSo}
use Rattle.cte_names.proofs.Folded.{each_is, each_clean, items_are, item_names, items_clean, selects_are, select_names, selects_clean, first_names_of}
use Rattle.cte_names.proofs.Standing.{under, ClearPart, ClearSelect, ClearQuery, Fits, Allowed, one_of_these, placing, may_write}
use Rattle.cte_names.proofs.PlacedParts as part

-- ---- names in order

plain_so : (ns : List Name) → Zipped NameSo (n.plain_names ns) (n.plain_names ns)
plain_so [] = tt
plain_so (x ∷ ns) = (refl, plain_so ns)

names_or_so : (columns : List Name) (xs ys : List (Option Name)) → Zipped NameSo xs ys → Zipped NameSo (n.names_or columns xs) (n.names_or columns ys)
unfolding n.names_or
names_or_so [] xs ys r = r
names_or_so (x ∷ ns) xs ys r = plain_so (x ∷ ns)

before_so : (lateral : Bool) (level seen : Level) → LevelSo level seen → LevelSo (n.before lateral level) (n.before lateral seen)
before_so true level seen r = r
before_so false level seen r = tt

-- the alias and the list of columns of an item that breaks no rule
pub record MayStand (alias : Name) (columns : List Name) : Type 0 where
  pub written : is_kept alias ≡ false
  pub differ : has_double columns ≡ false

pub may_stand : (s : Scope) (alias : Name) (columns : List Name) → s.in_function ≡ true → Clean (n.part_note s alias columns) → MayStand alias columns
unfolding n.part_note
may_stand s alias columns h k =
    let both = clean_parts (n.written s alias) (joined (n.all_written s columns) (breaks rule.Duplicates (has_double columns))) k in
    record {
      written = may_write s alias h both.0;
      differ = test_fails rule.Duplicates (has_double columns) (clean_parts (n.all_written s columns) (breaks rule.Duplicates (has_double columns)) both.1).1;
    }

module _ (q : Scope) (slots : ℕ → Bool) (leaf : ℕ → ℕ → Expr) where
  abbrev P : Algebra
  P = placing leaf

  abbrev May : List Read → Type 0
  May = Allowed slots

  abbrev pub Queries : n.Whole → Type 0
  Queries w =
      (s : Scope) (ms : List Level) → Fits q s ms → Clean (w s).note → May (query_of reading (w s).it.it (length ms))
      → ClearQuery (under ms q) (w s).it.names (query_of P (w s).it.it (length ms))

  -- with the alias of its item
  abbrev pub Sources : n.Rows → Type 0
  Sources r =
      (columns : List Name) (alias : Name) (s : Scope) (level seen : Level) (ms : List Level) → LevelSo level seen → Fits q s ms → MayStand alias columns → Clean (r columns s level).note
      → May (source_of reading (r columns s level).it.source (r columns s level).it.columns (suc (length ms)))
      → ClearPart (under ms q) seen (record { alias = alias; columns = (r columns s level).it.names })
      (roll-FromItem (record { source = source_of P (r columns s level).it.source (suc (length ms)); alias = alias; columns = (r columns s level).it.columns }))

  -- what a node reads, by what its parts do
  pub reads_so : (d : ℕ) (v w : Reads) → v ≡ w → May (v d) → May (w d)
  reads_so d v w e h = subst (λ (x : Reads). May (x d)) e h

  pub one : (u v : List Read) → May (u ++ v) → May u
  one u v h = left (one_of_these slots) u v h

  pub two : (u v : List Read) → May (u ++ v) → May v
  two u v h = right (one_of_these slots) u v h

  -- ---- FROM

  pub table_clear : (x alias : Name) (columns : List Name) (s : Scope) (seen : Level) (ms : List Level) → Fits q s ms → MayStand alias columns → is_kept x ≡ false
      → (t : Option Listed) → s.table x ≡ t → Clean (n.of_table x t).note
      → ClearPart (under ms q) seen (record { alias = alias; columns = (n.of_table x t).it.names })
      (roll-FromItem (record { source = source_of P (n.of_table x t).it.source (suc (length ms)); alias = alias; columns = (n.of_table x t).it.columns }))
  unfolding n.of_table
  table_clear x alias columns s seen ms f m h None is g = absurd (not_broken rule.Tables g)
  table_clear x alias columns s seen ms f m h (Some t) is g =
      let w : FromItem = roll-FromItem (record { source = source.Table x; alias = alias; columns = t.written }) in
      let names : List (Option Name) = n.plain_names (drop 1 t.written) in
      let seen_is : (qualified_part w (ms ++ q.levels) seen).seen ≡ record { alias = alias; columns = names } =
      ap (λ (p : Part). p.seen) (d.part_rule w (ms ++ q.levels) seen ∙ ap (n.shaped alias) (d.table_is x t.written (ms ++ q.levels) seen)) in
      record {
        clear = c.table x alias t.written t.recursive (f.tables x h ∙ is);
        seen_so = subst (SeenSo (record { alias = alias; columns = names })) (sym seen_is) (record { alias = refl; written = m.written; columns = plain_so (drop 1 t.written) });
        alias = refl;
      }

  pub sub_clear : (x : n.Whole) (lateral : Bool) → Queries x → Sources (n.origin (ex.Sub x lateral))
  sub_clear x lateral k columns alias s level seen ms r f m g a =
      let d' : ℕ = suc (length ms) in
      let found : Noted (Shown Query) = x (inside (n.before lateral level) s) in
      let inner = k (inside (n.before lateral level) s) (n.before lateral seen ∷ ms) (record { in_function = f.in_function; tables = f.tables; so = (before_so lateral level seen r, f.so) }) g
      (subst (λ (t : SourceReads). May (t columns d')) (eq.of_sub reading found.it.it lateral) a) in
      let y : Query = query_of P found.it.it d' in
      let w : FromItem = roll-FromItem (record { source = source.Sub y lateral; alias = alias; columns = columns }) in
      let own : Seen = record { alias = alias; columns = n.names_or columns found.it.names } in
      let seen_is : (qualified_part w (ms ++ q.levels) seen).seen ≡ record { alias = alias; columns = n.names_or columns (qualified_shown y (n.before lateral seen ∷ (ms ++ q.levels))).names } =
      ap (λ (p : Part). p.seen) (d.part_rule w (ms ++ q.levels) seen ∙ ap (n.shaped alias) (d.sub_is y lateral columns (ms ++ q.levels) seen)) in
      subst (λ (z : Source). ClearPart (under ms q) seen own (roll-FromItem (record { source = z; alias = alias; columns = columns })))
      (sym (ap (λ (t : ℕ → Source). t d') (eq.of_sub P found.it.it lateral)))
      (record {
        clear = c.subquery alias columns lateral m.differ inner.clear;
        seen_so = subst (SeenSo own) (sym seen_is) (record { alias = refl; written = m.written; columns = names_or_so columns found.it.names _ inner.names_so });
        alias = refl;
      })

  -- ---- selects

  abbrev pub at : {A : Type 0} → ℕ → List (ℕ → A) → List A
  at d xs = map (λ x. x d) xs

  abbrev pub maybe_at : ℕ → Option Expr → Option Expr
  maybe_at d o = option_map (λ x. x d) (option_map (λ e. expr_of P e) o)

  abbrev pub Fields : Type 0
  Fields = Select-F Expr Source FromItem Item Key Query Recursive Select

  pub qualified_fields : (x : Fields) (l : Sight) → qualified_select (roll-Select x) l ≡ qualified_over x ((qualified_from l x.from).seen ∷ l) (qualified_from l x.from).items
  qualified_fields x l = d.select_rule (roll-Select x) l ∙ ap (λ (x : Fields). qualified_over x ((qualified_from l x.from).seen ∷ l) (qualified_from l x.from).items) (out-roll-Select x)

  -- the items of FROM, as the query sees them
  pub record FromClear (ms : List Level) (aliases : List Name) (seen : Level) (fs : List FromItem) : Type 0 where
    pub clear : IsClear (from_items []) (under ms q) (at (suc (length ms)) (map (λ x. from_of P x) fs))
    pub seen_so : LevelSo seen (qualified_from (ms ++ q.levels) (at (suc (length ms)) (map (λ x. from_of P x) fs))).seen
    pub aliases_are : map (λ f. (out-FromItem f).alias) (at (suc (length ms)) (map (λ x. from_of P x) fs)) ≡ aliases

  pub from_clear : (s : Scope) (ms : List Level) → Fits q s ms → (fs : List n.Piece) → Every (part.Froms q slots leaf) fs → Clean (n.framed s fs).note
      → May (of_list (suc (length ms)) (map (λ x. from_of reading x) (n.framed s fs).it.items)) → FromClear ms (map (λ f. f.alias) fs) (n.framed s fs).it.seen (n.framed s fs).it.items
  from_clear s ms f fs h g a =
      let ps : List Part = part.pieces s [] fs in
      let so = part.from_clear q slots leaf s ms f fs h [] [] tt (part.framed_clean s fs g) (subst (λ xs. May (of_list (suc (length ms)) (map (λ x. from_of reading x) xs))) (part.framed_items s fs) a) in
      let placed : List FromItem = at (suc (length ms)) (map (λ x. from_of P x) (map (λ p. p.item) ps)) in
      subst (λ xs. FromClear ms (map (λ f. f.alias) fs) (n.framed s fs).it.seen xs) (sym (part.framed_items s fs))
      (subst (λ seen. FromClear ms (map (λ f. f.alias) fs) seen (map (λ p. p.item) ps)) (sym (part.framed_seen s fs))
      (record {
        clear = so.clear;
        seen_so = subst (λ (a : Framed). LevelSo (map (λ p. p.seen) ps) a.seen) (sym (from_is (ms ++ q.levels) placed)) so.seen_so;
        aliases_are = so.aliases_are;
      }))

  abbrev pub inner_levels : List Level → List FromItem → List Level
  inner_levels ms from = (qualified_from (ms ++ q.levels) (at (suc (length ms)) (map (λ x. from_of P x) from))).seen ∷ ms

  select_clear : (ms : List Level) (names : List (Option Name)) (aliases : List Name) (seen : Level) (list : List Item) (from : List FromItem) (filter : Option Expr) (order : List Key) (limit : Option Expr)
      → has_double aliases ≡ false → FromClear ms aliases seen from
      → IsClear items (under (inner_levels ms from) q) (at (suc (length ms)) (map (λ x. item_of P x) list))
      → Zipped NameSo names (map (λ c. c.name) (map (λ i. qualified_item i (inner_levels ms from ++ q.levels)) (at (suc (length ms)) (map (λ x. item_of P x) list))))
      → IsClear maybe (under (inner_levels ms from) q) (maybe_at (suc (length ms)) filter)
      → IsClear keys (under (inner_levels ms from) q) (at (suc (length ms)) (map (λ x. key_of P x) order))
      → IsClear maybe (under (inner_levels ms from) q) (maybe_at (suc (length ms)) limit)
      → ClearSelect (under ms q) names (select_of P (roll-Select (record { list = list; from = from; filter = filter; order = order; limit = limit })) (length ms))
  select_clear ms names aliases seen list from filter order limit differ f l r w o m =
      let d' : ℕ = suc (length ms) in
      let x : Fields = record { list = at d' (map (λ x. item_of P x) list); from = at d' (map (λ x. from_of P x) from); filter = maybe_at d' filter; order = at d' (map (λ x. key_of P x) order); limit = maybe_at d' limit } in
      subst (λ (t : ℕ → Select). ClearSelect (under ms q) names (t (length ms))) (sym (eq.of_select P list from filter order limit))
      (record {
        clear = c.whole (ap has_double f.aliases_are ∙ differ) f.clear l w o m;
        names_so = subst (λ (t : Shown Select). Zipped NameSo names t.names) (sym (qualified_fields x (ms ++ q.levels))) r;
      })

  abbrev pub MaybeExprs : Option n.Term → Type 0
  MaybeExprs None = Unit {0}
  MaybeExprs (Some t) = part.Exprs q slots leaf t

  -- what a select reads: its list, FROM, the condition, the keys and LIMIT
  pub record MayParts (d : ℕ) (is : List Item) (fs : List FromItem) (w : Option Expr) (ks : List Key) (m : Option Expr) : Type 0 where
    pub list : May (of_list d (map (λ x. item_of reading x) is))
    pub from : May (of_list d (map (λ x. from_of reading x) fs))
    pub filter : May (of_option d (option_map (λ e. expr_of reading e) w))
    pub order : May (of_list d (map (λ x. key_of reading x) ks))
    pub limit : May (of_option d (option_map (λ e. expr_of reading e) m))

  pub may_parts : (d : ℕ) (list : List Item) (from : List FromItem) (filter : Option Expr) (order : List Key) (limit : Option Expr)
      → May (select_of reading (roll-Select (record { list = list; from = from; filter = filter; order = order; limit = limit })) d) → MayParts (suc d) list from filter order limit
  may_parts d list from filter order limit a =
      let e : ℕ = suc d in
      let all = reads_so d _ _ (eq.of_select reading list from filter order limit) a in
      let h₁ = two (of_list e (map (λ x. item_of reading x) list)) _ all in
      let h₂ = two (of_list e (map (λ x. from_of reading x) from)) _ h₁ in
      let h₃ = two (of_option e (option_map (λ e. expr_of reading e) filter)) _ h₂ in
      record {
        list = one (of_list e (map (λ x. item_of reading x) list)) _ all;
        from = one (of_list e (map (λ x. from_of reading x) from)) _ h₁;
        filter = one (of_option e (option_map (λ e. expr_of reading e) filter)) _ h₂;
        order = one (of_list e (map (λ x. key_of reading x) order)) _ h₃;
        limit = two (of_list e (map (λ x. key_of reading x) order)) _ h₃;
      }

  pub maybe_clear : (t : Option n.Term) → MaybeExprs t → (s : Scope) (ms : List Level) → Fits q s ms → Clean (held (λ t. t.judge s) t).note
      → May (of_option (length ms) (option_map (λ e. expr_of reading e) (held (λ t. t.judge s) t).it)) → IsClear maybe (under ms q) (maybe_at (length ms) (held (λ t. t.judge s) t).it)
  maybe_clear None h s ms f g a = c.nothing
  maybe_clear (Some t) h s ms f g a = c.something (h s ms f g a).clear

  items_clear : (l : List n.Entry) → Every (part.Items q slots leaf) l → (s : Scope) (ms : List Level) → Fits q s ms → Clean (n.items s l).note → May (of_list (length ms) (map (λ x. item_of reading x) (n.items s l).it.it))
      → IsClear items (under ms q) (at (length ms) (map (λ x. item_of P x) (n.items s l).it.it))
      × Zipped NameSo (n.items s l).it.names (map (λ c. c.name) (map (λ i. qualified_item i (ms ++ q.levels)) (at (length ms) (map (λ x. item_of P x) (n.items s l).it.it))))
  items_clear l h s ms f g a =
      let clean_all = items_clean (λ i. i.judge s) l g in
      let may = subst (λ xs. May (of_list (length ms) (map (λ x. item_of reading x) xs))) (items_are (λ i. i.judge s) l) a in
      let names = part.names_so q slots leaf s ms f l h clean_all may in (
        subst (λ xs. IsClear items (under ms q) (at (length ms) (map (λ x. item_of P x) xs))) (sym (items_are (λ i. i.judge s) l)) (part.list_clear q slots leaf s ms f l h clean_all may),
        subst (λ xs. Zipped NameSo (n.items s l).it.names (map (λ c. c.name) (map (λ i. qualified_item i (ms ++ q.levels)) (at (length ms) (map (λ x. item_of P x) xs))))) (sym (items_are (λ i. i.judge s) l))
            (subst (λ ns. Zipped NameSo ns (map (λ c. c.name) (map (λ i. qualified_item i (ms ++ q.levels)) (at (length ms) (map (λ x. item_of P x) (map (λ i. (i.judge s).it.it) l))))))
            (sym (item_names (λ i. i.judge s) l)) names),
      )

  keys_clear : (aliases : List (Option Name)) (o : List n.Sort) → Every (part.Keys q slots leaf) o → (s : Scope) (ms : List Level) → Fits q s ms → Clean (each (λ k. k aliases s) o).note
      → May (of_list (length ms) (map (λ x. key_of reading x) (each (λ k. k aliases s) o).it)) → IsClear keys (under ms q) (at (length ms) (map (λ x. key_of P x) (each (λ k. k aliases s) o).it))
  keys_clear aliases o h s ms f g a =
      subst (λ xs. IsClear keys (under ms q) (at (length ms) (map (λ x. key_of P x) xs))) (sym (each_is (λ k. k aliases s) o))
      (part.keys_clear q slots leaf s ms f aliases o h (each_clean (λ k. k aliases s) o g) (subst (λ xs. May (of_list (length ms) (map (λ x. key_of reading x) xs))) (each_is (λ k. k aliases s) o) a))

  pub listing_clear : (l : List n.Entry) (f : List n.Piece) (w : Option n.Term) (o : List n.Sort) (m : Option n.Term) → Every (part.Items q slots leaf) l → Every (part.Froms q slots leaf) f
      → MaybeExprs w → Every (part.Keys q slots leaf) o → MaybeExprs m → part.Selects q slots leaf (n.listing (record { list = l; from = f; filter = w; order = o; limit = m }))
  listing_clear l f w o m lh fh wh oh mh s ms fits g a =
      let from : Noted Framed = n.framed s f in
      let inner : Scope = inside from.it.seen s in
      let aliases : List (Option Name) = map (λ i. i.alias) l in
      let two_notes = clean_parts _ _ g in
      let heads = clean_parts (breaks rule.Duplicates (has_double (map (λ f. f.alias) f))) from.note two_notes.0 in
      let over = clean_parts _ _ two_notes.1 in
      let first = clean_parts (n.items inner l).note (held (λ t. t.judge inner) w).note over.0 in
      let second = clean_parts (each (λ k. k aliases inner) o).note (held (λ t. t.judge inner) m).note over.1 in
      let may = may_parts (length ms) (n.items inner l).it.it from.it.items (held (λ t. t.judge inner) w).it (each (λ k. k aliases inner) o).it (held (λ t. t.judge inner) m).it a in
      let so = from_clear s ms fits f fh heads.1 may.from in
      let ns : List Level = inner_levels ms from.it.items in
      let here : Fits q inner ns = record { in_function = fits.in_function; tables = fits.tables; so = (so.seen_so, fits.so) } in
      let list = items_clear l lh inner ns here first.0 may.list in
      select_clear ms (n.items inner l).it.names (map (λ f. f.alias) f) from.it.seen (n.items inner l).it.it from.it.items (held (λ t. t.judge inner) w).it (each (λ k. k aliases inner) o).it (held (λ t. t.judge inner) m).it
      (test_fails rule.Duplicates (has_double (map (λ f. f.alias) f)) heads.0) so list.0 list.1 (maybe_clear w wh inner ns here first.1 may.filter) (keys_clear aliases o oh inner ns here second.0 may.order)
      (maybe_clear m mh inner ns here second.1 may.limit)

  -- ---- queries

  abbrev pub QueryFields : Type 0
  QueryFields = Query-F Expr Source FromItem Item Key Query Recursive Select

  first_so : (s : Scope) (ms : List Level) → Fits q s ms → (ls : List n.Listing) → Every (part.Selects q slots leaf) ls → Every (λ l. Clean (l s).note) ls
      → May (of_list (length ms) (map (λ x. select_of reading x) (map (λ l. (l s).it.it) ls)))
      → Zipped NameSo (first_names_of (map (λ l. (l s).it) ls)) (dot.first_of (map (λ x. qualified_select x (ms ++ q.levels)) (at (length ms) (map (λ x. select_of P x) (map (λ l. (l s).it.it) ls)))))
  first_so s ms f [] h g a = tt
  first_so s ms f (l ∷ ls) h g a = (h.0 s ms f g.0 (one (select_of reading (l s).it.it (length ms)) _ a)).names_so

  pub query_clear : (s : Scope) (ms : List Level) → Fits q s ms → (ls : List n.Listing) → Every (part.Selects q slots leaf) ls → Clean (n.united ls s).note → May (query_of reading (n.query_with (n.united ls s).it).it (length ms))
      → ClearQuery (under ms q) (n.united ls s).it.names (query_of P (n.query_with (n.united ls s).it).it (length ms))
  query_clear s ms f ls h g a =
      let l : Sight = ms ++ q.levels in
      let clean_all = selects_clean (λ l. l s) ls g in
      let xs : List Select = map (λ l. (l s).it.it) ls in
      let may = subst (λ zs. May (of_list (length ms) (map (λ x. select_of reading x) zs))) (selects_are (λ l. l s) ls) (reads_so (length ms) _ _ (eq.of_query reading (n.united ls s).it.it) a) in
      let ys : List Select = at (length ms) (map (λ x. select_of P x) xs) in
      let x : QueryFields = record { recursive = None; selects = ys } in
      let qualified : qualified_shown (roll-Query x) l ≡ dot.query_of None (qualified_selects l ys) =
      d.query_rule (roll-Query x) l ∙ ap (λ (x : QueryFields). dot.query_of (option_map (λ r. qualified_recursive r l) x.recursive) (qualified_selects l x.selects)) (out-roll-Query x) in
      let made : ClearQuery (under ms q) (first_names_of (map (λ l. (l s).it) ls)) (query_of P (roll-Query (record { recursive = None; selects = xs })) (length ms)) =
      subst (λ (t : ℕ → Query). ClearQuery (under ms q) (first_names_of (map (λ l. (l s).it) ls)) (t (length ms))) (sym (eq.of_query P xs))
      (record {
        clear = c.union (part.selects_clear q slots leaf s ms f ls h clean_all may);
        names_so = subst (λ (t : Shown Query). Zipped NameSo (first_names_of (map (λ l. (l s).it) ls)) t.names) (sym qualified) (first_so s ms f ls h clean_all may);
      }) in
      subst (λ (zs : List Select). ClearQuery (under ms q) (n.united ls s).it.names (query_of P (roll-Query (record { recursive = None; selects = zs })) (length ms))) (sym (selects_are (λ l. l s) ls))
      (subst (λ names. ClearQuery (under ms q) names (query_of P (roll-Query (record { recursive = None; selects = xs })) (length ms))) (sym (select_names (λ l. l s) ls)) made)
