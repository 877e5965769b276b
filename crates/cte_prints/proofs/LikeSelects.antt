-- Selects and queries of a function are like what stands for them in a query, where their parts are.
use Rattle.std.proofs.Common.{◌≡◌, ap, sym, subst, ◌∙◌, ℕ, suc, Bool, false, List, ◌∷◌, ◌++◌, map, length, Option, None, option_map}
use Rattle.away_trees.specs.declared.queries.Expr.{Expr}
use Rattle.away_trees.specs.declared.queries.FromItem.{FromItem}
use Rattle.away_trees.specs.declared.queries.Item.{Item}
use Rattle.away_trees.specs.declared.queries.Key.{Key}
use Rattle.away_trees.specs.declared.queries.Select.{Select}
use Rattle.away_trees.specs.declared.queries.Query.{Query}
use Rattle.away_trees.specs.declared.queries.Expr.TheViews.{roll-Item, roll-Key, roll-Select, roll-Query, out-roll-Query}
use Rattle.away_trees.specs.Algebra.{Algebra, from_of, item_of, key_of, select_of, query_of}
use Rattle.away_trees.proofs.Equations as eq
use Rattle.away_names.specs.declared.rule.Rule.TheVariants as rule
use Rattle.away_names.specs.declared.note.Column.{Column}
use Rattle.away_names.specs.declared.note.Framed.{Framed}
use Rattle.away_names.specs.declared.note.Noted.{Noted}
use Rattle.away_names.specs.declared.note.Shown.{Shown}
use Rattle.away_names.specs.Lookups.{Name, Level, Scope, inside, has_double}
use Rattle.away_names.specs.Naming as n
use Rattle.away_names.specs.Notes.{breaks, each, held}
use Rattle.sql_meaning.specs.Reads.{Read, Reads, reading, of_list}
use Rattle.type_soundness.specs.Sorts.{Every}
use Rattle.type_soundness.proofs.CleanNotes.{Clean, clean_parts}
use Rattle.qualified_names.specs.Qualifying as dot
use Rattle.qualified_names.specs.Trees.{qualified_item, qualified_key, qualified_select, qualified_shown, qualified_in, qualified_from, qualified_selects, qualified_recursive}
use Rattle.qualified_names.proofs.QualifyingRules as d
use Rattle.cte_names.proofs.Folded.{each_is, each_clean, items_are, items_clean, selects_are, selects_clean}
use Rattle.cte_names.proofs.Standing.{Allowed, placing}
use Rattle.cte_names.proofs.PlacedParts as part
use Rattle.cte_names.proofs.PlacedSelects as sel
use Rattle.cte_prints.specs.Like.{item, items, key, keys, from_items, maybe, select, selects, query, IsLike}
use Rattle.cte_prints.specs.Like as like
use Rattle.cte_prints.proofs.WritableColumns.{Stands, DerivableLeaves}
use Rattle.cte_prints.proofs.ExpressionsAlike as nodes
use Rattle.cte_prints.proofs.LikeFrom as from_

module _ (q : Scope) (slots : ℕ → Bool) (leaf : ℕ → ℕ → Expr) (derivable : DerivableLeaves q slots leaf) where
  abbrev P : Algebra
  P = placing leaf

  abbrev May : List Read → Type 0
  May = Allowed slots

  abbrev at : {A : Type 0} → ℕ → List (ℕ → A) → List A
  at d xs = map (λ x. x d) xs

  reads_so : (d : ℕ) (v w : Reads) → v ≡ w → May (v d) → May (w d)
  reads_so d v w e h = subst (λ (x : Reads). May (x d)) e h

  -- ---- items

  abbrev pub LikeEntry : Item → n.Entry → Type 0
  LikeEntry w t =
      (s : Scope) (ms : List Level) → Stands q s ms → Clean (t.judge s).note → May (item_of reading (t.judge s).it.it (length ms))
      → IsLike item w (qualified_item (item_of P (t.judge s).it.it (length ms)) (ms ++ q.levels)).it

  pub an_item : (alias : Option Name) (w : Expr) (t : n.Term) → nodes.LikeTerm q slots leaf derivable w t
      → LikeEntry (roll-Item (record { expr = w; alias = alias })) (n.item (record { expr = t; alias = alias }))
  an_item alias w t h s ms st k a =
      subst (λ (c : Column). IsLike item (roll-Item (record { expr = w; alias = alias })) c.it) (sym (d.item_rule _ (ms ++ q.levels)))
      (like.an_item alias (h s ms st (clean_parts (n.maybe_written s alias) (t.judge s).note k).1 a))

  abbrev pub LikeItems : List Item → List n.Entry → Type 0
  LikeItems ws ts =
      (s : Scope) (ms : List Level) → Stands q s ms → Every (λ i. Clean (i.judge s).note) ts → May
      (of_list (length ms) (map (λ i. item_of reading i) (map (λ i. (i.judge s).it.it) ts)))
      → IsLike items ws (map (λ c. c.it)
      (map (λ i. qualified_item i (ms ++ q.levels)) (at (length ms) (map (λ i. item_of P i) (map (λ i. (i.judge s).it.it) ts)))))

  pub one_item : (w : Item) (t : n.Entry) (ws : List Item) (ts : List n.Entry) → LikeEntry w t → LikeItems ws ts → LikeItems (w ∷ ws) (t ∷ ts)
  one_item w t ws ts h r s ms st k a =
      let here : List Read = item_of reading (t.judge s).it.it (length ms) in
      like.one_item (h s ms st k.0 (nodes.one q slots leaf derivable here _ a)) (r s ms st k.1 (nodes.two q slots leaf derivable here _ a))

  all_items : (ws : List Item) (ts : List n.Entry) → LikeItems ws ts → (s : Scope) (ms : List Level) → Stands q s ms → Clean (n.items s ts).note
      → May (of_list (length ms) (map (λ x. item_of reading x) (n.items s ts).it.it))
      → IsLike items ws (map (λ c. c.it) (map (λ i. qualified_item i (ms ++ q.levels)) (at (length ms) (map (λ x. item_of P x) (n.items s ts).it.it))))
  all_items ws ts h s ms st k a =
      subst (λ xs. IsLike items ws (map (λ c. c.it) (map (λ i. qualified_item i (ms ++ q.levels)) (at (length ms) (map (λ x. item_of P x) xs)))))
      (sym (items_are (λ i. i.judge s) ts))
      (h s ms st (items_clean (λ i. i.judge s) ts k)
      (subst (λ xs. May (of_list (length ms) (map (λ x. item_of reading x) xs))) (items_are (λ i. i.judge s) ts) a))

  -- ---- keys

  abbrev pub LikeSort : Key → n.Sort → Type 0
  LikeSort w t =
      (aliases : List (Option Name)) (s : Scope) (ms : List Level) → Stands q s ms → Clean (t aliases s).note → May
      (key_of reading (t aliases s).it (length ms))
      → IsLike key w (qualified_key (key_of P (t aliases s).it (length ms)) (ms ++ q.levels))

  pub a_key : (descending : Bool) (w : Expr) (t : n.Term) → nodes.LikeTerm q slots leaf derivable w t
      → LikeSort (roll-Key (record { expr = w; descending = descending })) (n.sort (record { expr = t; descending = descending }))
  a_key descending w t h aliases s ms st k a =
      subst (IsLike key (roll-Key (record { expr = w; descending = descending }))) (sym (d.key_rule _ (ms ++ q.levels)))
      (like.a_key descending (h s ms st (clean_parts (breaks rule.Ambiguity (n.is_alias aliases t.alone)) (t.judge s).note k).1 a))

  abbrev pub LikeKeys : List Key → List n.Sort → Type 0
  LikeKeys ws ts =
      (aliases : List (Option Name)) (s : Scope) (ms : List Level) → Stands q s ms → Every (λ k. Clean (k aliases s).note) ts
      → May (of_list (length ms) (map (λ k. key_of reading k) (map (λ k. (k aliases s).it) ts)))
      → IsLike keys ws (map (λ k. qualified_key k (ms ++ q.levels)) (at (length ms) (map (λ k. key_of P k) (map (λ k. (k aliases s).it) ts))))

  pub one_key : (w : Key) (t : n.Sort) (ws : List Key) (ts : List n.Sort) → LikeSort w t → LikeKeys ws ts → LikeKeys (w ∷ ws) (t ∷ ts)
  one_key w t ws ts h r aliases s ms st k a =
      let here : List Read = key_of reading (t aliases s).it (length ms) in
      like.one_key (h aliases s ms st k.0 (nodes.one q slots leaf derivable here _ a)) (r aliases s ms st k.1 (nodes.two q slots leaf derivable here _ a))

  all_keys : (ws : List Key) (ts : List n.Sort) → LikeKeys ws ts → (aliases : List (Option Name)) (s : Scope) (ms : List Level) → Stands q s ms
      → Clean (each (λ k. k aliases s) ts).note
      → May (of_list (length ms) (map (λ x. key_of reading x) (each (λ k. k aliases s) ts).it))
      → IsLike keys ws (map (λ k. qualified_key k (ms ++ q.levels)) (at (length ms) (map (λ x. key_of P x) (each (λ k. k aliases s) ts).it)))
  all_keys ws ts h aliases s ms st k a =
      subst (λ xs. IsLike keys ws (map (λ k. qualified_key k (ms ++ q.levels)) (at (length ms) (map (λ x. key_of P x) xs))))
      (sym (each_is (λ k. k aliases s) ts))
      (h aliases s ms st (each_clean (λ k. k aliases s) ts k)
      (subst (λ xs. May (of_list (length ms) (map (λ x. key_of reading x) xs))) (each_is (λ k. k aliases s) ts) a))

  -- ---- selects

  abbrev pub LikeSelect : Select → n.Listing → Type 0
  LikeSelect w t =
      (s : Scope) (ms : List Level) → Stands q s ms → Clean (t s).note → May (select_of reading (t s).it.it (length ms))
      → IsLike select w (qualified_select (select_of P (t s).it.it (length ms)) (ms ++ q.levels)).it

  abbrev inner_levels : List Level → List FromItem → List Level
  inner_levels ms from = sel.inner_levels q slots leaf ms from

  -- a select by its parts, which see its FROM
  select_like : (list : List Item) (from : List FromItem) (filter : Option Expr) (order : List Key) (limit : Option Expr) (ms : List Level)
      (items' : List Item) (from' : List FromItem) (filter' : Option Expr) (order' : List Key) (limit' : Option Expr)
      → IsLike items list (map (λ c. c.it)
      (map (λ i. qualified_item i (inner_levels ms from' ++ q.levels)) (at (suc (length ms)) (map (λ x. item_of P x) items'))))
      → IsLike from_items from (qualified_from (ms ++ q.levels) (at (suc (length ms)) (map (λ x. from_of P x) from'))).items
      → IsLike maybe filter (option_map (qualified_in (inner_levels ms from' ++ q.levels)) (sel.maybe_at q slots leaf (suc (length ms)) filter'))
      → IsLike keys order (map (λ k. qualified_key k (inner_levels ms from' ++ q.levels)) (at (suc (length ms)) (map (λ x. key_of P x) order')))
      → IsLike maybe limit (option_map (qualified_in (inner_levels ms from' ++ q.levels)) (sel.maybe_at q slots leaf (suc (length ms)) limit'))
      → IsLike select (roll-Select (record { list = list; from = from; filter = filter; order = order; limit = limit }))
      (qualified_select (select_of P (roll-Select (record { list = items'; from = from'; filter = filter'; order = order'; limit = limit' })) (length ms))
      (ms ++ q.levels)).it
  select_like list from filter order limit ms items' from' filter' order' limit' l f w o m =
      let e : ℕ = suc (length ms) in
      let written : Select = roll-Select (record { list = list; from = from; filter = filter; order = order; limit = limit }) in
      let x : sel.Fields q slots leaf =
      record {
        list = at e (map (λ x. item_of P x) items');
        from = at e
            (map (λ x. from_of P x) from');
        filter = sel.maybe_at q slots leaf e filter';
        order = at e
            (map (λ x. key_of P x) order');
        limit = sel.maybe_at q slots leaf e limit';
      } in
      subst (λ (t : ℕ → Select). IsLike select written (qualified_select (t (length ms)) (ms ++ q.levels)).it)
      (sym (eq.of_select P items' from' filter' order' limit'))
      (subst (λ (t : Shown Select). IsLike select written t.it) (sym (sel.qualified_fields q slots leaf x (ms ++ q.levels))) (like.whole l f w o m))

  pub whole : (list : List Item) (from : List FromItem) (filter : Option Expr) (order : List Key) (limit : Option Expr)
      (ls : List n.Entry) (fs : List n.Piece) (w : Option n.Term) (os : List n.Sort) (m : Option n.Term)
      → LikeItems list ls → from_.LikeFrom q slots leaf derivable from fs → Every
      (part.Froms q slots leaf) fs → nodes.LikeMaybe q slots leaf derivable filter w → LikeKeys order os → nodes.LikeMaybe q slots leaf derivable limit m
      → LikeSelect (roll-Select (record { list = list; from = from; filter = filter; order = order; limit = limit }))
      (n.listing (record { list = ls; from = fs; filter = w; order = os; limit = m }))
  whole list from filter order limit ls fs w os m hl hf cf hw ho hm s ms st g a =
      let framed : Noted Framed = n.framed s fs in
      let inner : Scope = inside framed.it.seen s in
      let aliases : List (Option Name) = map (λ i. i.alias) ls in
      let two_notes = clean_parts _ _ g in
      let heads = clean_parts (breaks rule.Duplicates (has_double (map (λ f. f.alias) fs))) framed.note two_notes.0 in
      let over = clean_parts _ _ two_notes.1 in
      let first = clean_parts (n.items inner ls).note (held (λ t. t.judge inner) w).note over.0 in
      let second = clean_parts (each (λ k. k aliases inner) os).note (held (λ t. t.judge inner) m).note over.1 in
      let may = sel.may_parts q slots leaf (length ms) (n.items inner ls).it.it framed.it.items (held (λ t. t.judge inner) w).it
      (each (λ k. k aliases inner) os).it (held (λ t. t.judge inner) m).it a in
      let clear = sel.from_clear q slots leaf s ms st.fits fs cf heads.1 may.from in
      let all = from_.all_from q slots leaf derivable from fs hf s ms st heads.1 may.from in
      let ns : List Level = inner_levels ms framed.it.items in
      let here : Stands q inner ns =
      record {
        fits = record { in_function = st.fits.in_function; tables = st.fits.tables; so = (clear.seen_so, st.fits.so) };
        aliases =
            (all.aliases, st.aliases);
      } in
      select_like list from filter order limit ms (n.items inner ls).it.it framed.it.items (held (λ t. t.judge inner) w).it
      (each (λ k. k aliases inner) os).it (held (λ t. t.judge inner) m).it
      (all_items list ls hl inner ns here first.0 may.list) all.like (hw inner ns here first.1 may.filter)
      (all_keys order os ho aliases inner ns here second.0 may.order)
      (hm inner ns here second.1 may.limit)

  -- ---- queries

  abbrev pub LikeSelects : List Select → List n.Listing → Type 0
  LikeSelects ws ts =
      (s : Scope) (ms : List Level) → Stands q s ms → Every (λ l. Clean (l s).note) ts → May
      (of_list (length ms) (map (λ x. select_of reading x) (map (λ l. (l s).it.it) ts)))
      → IsLike selects ws (map (λ x. x.it)
      (map (λ x. qualified_select x (ms ++ q.levels)) (at (length ms) (map (λ x. select_of P x) (map (λ l. (l s).it.it) ts)))))

  pub one_select : (w : Select) (t : n.Listing) (ws : List Select) (ts : List n.Listing) → LikeSelect w t → LikeSelects ws ts → LikeSelects (w ∷ ws) (t ∷ ts)
  one_select w t ws ts h r s ms st k a =
      let here : List Read = select_of reading (t s).it.it (length ms) in
      like.one_select (h s ms st k.0 (nodes.one q slots leaf derivable here _ a)) (r s ms st k.1 (nodes.two q slots leaf derivable here _ a))

  abbrev QueryFields : Type 0
  QueryFields = sel.QueryFields q slots leaf

  pub union : (ws : List Select) (ts : List n.Listing) → LikeSelects ws ts
      → nodes.LikeQuery q slots leaf derivable (roll-Query (record { recursive = None; selects = ws })) (n.whole (record { recursive = None; selects = ts }))
  union ws ts h s ms st g a =
      let l : List Level = ms ++ q.levels in
      let written : Query = roll-Query (record { recursive = None; selects = ws }) in
      let clean = (clean_parts (breaks rule.Types false) (n.united ts s).note g).1 in
      let xs : List Select = map (λ l. (l s).it.it) ts in
      let all = reads_so (length ms) _ _ (eq.of_query reading (n.united ts s).it.it) a in
      let may = subst (λ zs. May (of_list (length ms) (map (λ x. select_of reading x) zs))) (selects_are (λ l. l s) ts) all in
      let ys : List Select = at (length ms) (map (λ x. select_of P x) xs) in
      let x : QueryFields = record { recursive = None; selects = ys } in
      let qualified : qualified_shown (roll-Query x) l ≡ dot.query_of None (qualified_selects l ys) =
      d.query_rule (roll-Query x) l ∙ ap (λ (x : QueryFields). dot.query_of (option_map (λ r. qualified_recursive r l) x.recursive) (qualified_selects l x.selects))
      (out-roll-Query x) in
      let it : IsLike query written (qualified_shown (roll-Query x) l).it =
      subst (λ (t : Shown Query). IsLike query written t.it) (sym qualified) (like.union (h s ms st (selects_clean (λ l. l s) ts clean) may)) in
      subst (λ (zs : List Select). IsLike query written (qualified_shown (query_of P (roll-Query (record { recursive = None; selects = zs })) (length ms)) l).it)
      (sym (selects_are (λ l. l s) ts))
      (subst (λ (t : ℕ → Query). IsLike query written (qualified_shown (t (length ms)) l).it) (sym (eq.of_query P xs)) it)
