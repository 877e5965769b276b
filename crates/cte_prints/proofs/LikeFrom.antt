-- FROM of a function is like what stands for it in a query, where its subqueries are.
use Rattle.std.proofs.Common.{◌≡◌, ap, sym, subst, ◌∙◌, ℕ, suc, Bool, true, false, List, [], ◌∷◌, ◌++◌, map, length, Option, Some, None}
use Rattle.away_trees.specs.declared.queries.Expr.{Expr}
use Rattle.away_trees.specs.declared.queries.Source.{Source}
use Rattle.away_trees.specs.declared.queries.Source.TheVariants as source
use Rattle.away_trees.specs.declared.queries.FromItem.{FromItem}
use Rattle.away_trees.specs.declared.queries.Query.{Query}
use Rattle.away_trees.specs.declared.queries.Expr.TheOpen as ex
use Rattle.away_trees.specs.declared.queries.Expr.TheViews.{roll-FromItem}
use Rattle.away_trees.specs.Algebra.{Algebra, from_of, query_of}
use Rattle.away_trees.proofs.Equations as eq
use Rattle.away_names.specs.declared.rule.Rule.TheVariants as rule
use Rattle.away_names.specs.declared.note.Framed.{Framed}
use Rattle.away_names.specs.declared.note.Noted.{Noted}
use Rattle.away_names.specs.declared.note.Part.{Part}
use Rattle.away_names.specs.declared.note.Shown.{Shown}
use Rattle.away_names.specs.declared.scope.Listed.{Listed}
use Rattle.away_names.specs.declared.scope.Seen.{Seen}
use Rattle.away_names.specs.Lookups.{Name, Level, Scope, inside}
use Rattle.away_names.specs.Naming as n
use Rattle.sql_meaning.specs.Reads.{Read, SourceReads, reading, of_list}
use Rattle.sql_meaning.proofs.Lists.{Zipped}
use Rattle.type_soundness.specs.Sorts.{Every}
use Rattle.type_soundness.proofs.Lists.{every_append}
use Rattle.type_soundness.proofs.CleanNotes.{Clean, clean_parts, not_broken}
use Rattle.qualified_names.specs.Trees.{qualified_part, qualified_shown, qualified_from}
use Rattle.qualified_names.proofs.QualifyingRules as d
use Rattle.qualified_names.proofs.BackQueries.{parts, all_items, from_is}
use Rattle.cte_names.proofs.Refined.{SeenSo, LevelSo}
use Rattle.cte_names.proofs.Standing.{Allowed, placing}
use Rattle.cte_names.proofs.PlacedParts as part
use Rattle.cte_prints.specs.Like.{from_item, from_items, query, IsLike}
use Rattle.cte_prints.specs.Like as like
use Rattle.cte_prints.specs.WritableNames.{IsWritableName}
use Rattle.cte_prints.proofs.WritableColumns.{Aliased, Stands, DerivableLeaves}
use Rattle.cte_prints.proofs.ExpressionsAlike as nodes

before_aliased : (lateral : Bool) (level : Level) → Every Aliased level → Every Aliased (n.before lateral level)
before_aliased true level h = h
before_aliased false level h = tt

before_so : (lateral : Bool) (level seen : Level) → LevelSo level seen → LevelSo (n.before lateral level) (n.before lateral seen)
before_so true level seen r = r
before_so false level seen r = tt

zipped_append : {A B : Type 0} (R : A → B → Type 0) (xs : List A) (ys : List B) (x : A) (y : B) → Zipped R xs ys → R x y
    → Zipped R (xs ++ x ∷ []) (ys ++ y ∷ [])
zipped_append R [] [] x y r h = (h, tt)
zipped_append R (a ∷ xs) (b ∷ ys) x y r h = (r.0, zipped_append R xs ys x y r.1 h)
zipped_append R _ _ x y r h = absurd r

module _ (q : Scope) (slots : ℕ → Bool) (leaf : ℕ → ℕ → Expr) (derivable : DerivableLeaves q slots leaf) where
  abbrev P : Algebra
  P = placing leaf

  abbrev May : List Read → Type 0
  May = Allowed slots

  -- an item of FROM behind some that the query sees so, and its alias
  pub record LikePart (w : FromItem) (ms : List Level) (seen : Level) (p : Part) : Type 0 where
    pub like : IsLike from_item w (qualified_part (from_of P p.item (suc (length ms))) (ms ++ q.levels) seen).item
    pub alias : IsWritableName p.seen.alias

  abbrev pub LikePiece : FromItem → n.Piece → Type 0
  LikePiece w f =
      (s : Scope) (level seen : Level) (ms : List Level) → LevelSo level seen → Every Aliased level → Stands q s ms → Clean (f.judge s level).note
      → May (from_of reading (f.judge s level).it.item (suc (length ms))) → LikePart w ms seen (f.judge s level).it

  -- ---- a table

  abbrev table_item : Name → Name → List Name → FromItem
  table_item x alias columns = roll-FromItem (record { source = source.Table x; alias = alias; columns = columns })

  table_part : (x alias : Name) (columns : List Name) (l : List Level) (seen : Level)
      → (qualified_part (table_item x alias columns) l seen).item ≡ table_item x alias []
  table_part x alias columns l seen =
      ap (λ (p : Part). p.item) (d.part_rule (table_item x alias columns) l seen ∙ ap (n.shaped alias) (d.table_is x columns l seen))

  listed_like : (x alias : Name) → IsWritableName alias → (ms : List Level) (seen : Level) (t : Option Listed) → Clean (n.of_table x t).note
      → LikePart (table_item x alias []) ms seen (n.shaped alias (n.of_table x t).it)
  unfolding n.of_table
  listed_like x alias h ms seen None k = absurd (not_broken rule.Tables k)
  listed_like x alias h ms seen (Some t) k =
      record {
        like = subst (IsLike from_item (table_item x alias [])) (sym (table_part x alias t.written (ms ++ q.levels) seen))
            (like.table x alias);
        alias = h;
      }

  pub table : (x alias : Name) → IsWritableName alias
      → LikePiece (table_item x alias []) (n.part (record { source = n.origin (ex.Table x); alias = alias; columns = [] }))
  table x alias h s level seen ms r al st k a =
      listed_like x alias h ms seen (s.table x) (clean_parts (n.written s x) (n.of_table x (s.table x)).note (clean_parts (n.part_note s alias []) _ k).1).1

  -- ---- a subquery

  pub subquery : (w : Query) (t : n.Whole) (alias : Name) (columns : List Name) (lateral : Bool) → IsWritableName alias → nodes.LikeQuery q slots leaf derivable w t
      → LikePiece (roll-FromItem (record { source = source.Sub w lateral; alias = alias; columns = columns }))
      (n.part (record { source = n.origin (ex.Sub t lateral); alias = alias; columns = columns }))
  subquery w t alias columns lateral h k s level seen ms r al st g a =
      let e : ℕ = suc (length ms) in
      let inner : Scope = inside (n.before lateral level) s in
      let found : Noted (Shown Query) = t inner in
      let note = (clean_parts (n.part_note s alias columns) found.note g).1 in
      let may = subst (λ (u : SourceReads). May (u columns e)) (eq.of_sub reading found.it.it lateral) a in
      let here : Stands q inner (n.before lateral seen ∷ ms) =
      record {
        fits = record { in_function = st.fits.in_function; tables = st.fits.tables; so = (before_so lateral level seen r, st.fits.so) };
        aliases = (before_aliased lateral level al, st.aliases);
      } in
      let it = k inner (n.before lateral seen ∷ ms) here note may in
      let y : Query = query_of P found.it.it e in
      let item : FromItem = roll-FromItem (record { source = source.Sub y lateral; alias = alias; columns = columns }) in
      let is : (qualified_part item (ms ++ q.levels) seen).item ≡ roll-FromItem
      (record { source = source.Sub (qualified_shown y (n.before lateral seen ∷ (ms ++ q.levels))).it lateral; alias = alias; columns = columns }) =
      ap (λ (p : Part). p.item) (d.part_rule item (ms ++ q.levels) seen ∙ ap (n.shaped alias) (d.sub_is y lateral columns (ms ++ q.levels) seen)) in
      let whole : IsLike from_item (roll-FromItem (record { source = source.Sub w lateral; alias = alias; columns = columns }))
      (qualified_part item (ms ++ q.levels) seen).item =
      subst (IsLike from_item (roll-FromItem (record { source = source.Sub w lateral; alias = alias; columns = columns }))) (sym is)
      (like.subquery alias columns lateral it) in
      record {
        like = subst (λ (z : Source). IsLike from_item (roll-FromItem (record { source = source.Sub w lateral; alias = alias; columns = columns }))
            (qualified_part (roll-FromItem (record { source = z; alias = alias; columns = columns })) (ms ++ q.levels) seen).item)
            (sym (ap (λ (u : ℕ → Source). u e) (eq.of_sub P found.it.it lateral))) whole;
        alias = h;
      }

  -- ---- FROM

  abbrev pub placed_from : List Level → List FromItem → List FromItem
  placed_from ms fs = map (λ x. x (suc (length ms))) (map (λ x. from_of P x) fs)

  -- the items of FROM behind some that the query sees so
  pub record LikeFromSo (ws : List FromItem) (ms : List Level) (seen : Level) (ps : List Part) : Type 0 where
    pub like : IsLike from_items ws (all_items (parts (ms ++ q.levels) seen (placed_from ms (map (λ p. p.item) ps))))
    pub aliases : Every Aliased (map (λ p. p.seen) ps)

  abbrev pub LikeFrom : List FromItem → List n.Piece → Type 0
  LikeFrom ws fs =
      (s : Scope) (level seen : Level) (ms : List Level) → LevelSo level seen → Every Aliased level → Stands q s ms → part.CleanPieces s level fs
      → May (of_list (suc (length ms)) (map (λ x. from_of reading x) (map (λ p. p.item) (part.pieces s level fs)))) → LikeFromSo ws ms seen
      (part.pieces s level fs)

  pub no_from : LikeFrom [] []
  no_from s level seen ms r al st k a = record { like = like.no_from; aliases = tt }

  pub one_from : (w : FromItem) (f : n.Piece) (ws : List FromItem) (fs : List n.Piece) → LikePiece w f → part.Froms q slots leaf f → LikeFrom ws fs
      → LikeFrom (w ∷ ws) (f ∷ fs)
  one_from w f ws fs h c rest s level seen ms r al st k a =
      let x : Part = (f.judge s level).it in
      let o : Seen = (qualified_part (from_of P x.item (suc (length ms))) (ms ++ q.levels) seen).seen in
      let here : List Read = from_of reading x.item (suc (length ms)) in
      let it = h s level seen ms r al st k.0 (nodes.one q slots leaf derivable here _ a) in
      let so = (c s level seen ms r st.fits k.0 (nodes.one q slots leaf derivable here _ a)).1.seen_so in
      let more = rest s (level ++ x.seen ∷ []) (seen ++ o ∷ []) ms (zipped_append SeenSo level seen x.seen o r so)
      (every_append Aliased level (x.seen ∷ []) al (it.alias, tt)) st k.1
      (nodes.two q slots leaf derivable here _ a) in
      record { like = like.one_from it.like more.like; aliases = (it.alias, more.aliases) }

  -- all of FROM
  pub record LikeFromAll (ws : List FromItem) (ms : List Level) (seen : Level) (fs : List FromItem) : Type 0 where
    pub like : IsLike from_items ws (qualified_from (ms ++ q.levels) (placed_from ms fs)).items
    pub aliases : Every Aliased seen

  pub all_from : (ws : List FromItem) (fs : List n.Piece) → LikeFrom ws fs → (s : Scope) (ms : List Level) → Stands q s ms → Clean (n.framed s fs).note
      → May (of_list (suc (length ms)) (map (λ x. from_of reading x) (n.framed s fs).it.items)) → LikeFromAll ws ms (n.framed s fs).it.seen
      (n.framed s fs).it.items
  all_from ws fs h s ms st k a =
      let ps : List Part = part.pieces s [] fs in
      let so = h s [] [] ms tt tt st (part.framed_clean s fs k)
      (subst (λ xs. May (of_list (suc (length ms)) (map (λ x. from_of reading x) xs))) (part.framed_items s fs) a) in
      subst (λ xs. LikeFromAll ws ms (n.framed s fs).it.seen xs) (sym (part.framed_items s fs))
      (subst (λ seen. LikeFromAll ws ms seen (map (λ p. p.item) ps)) (sym (part.framed_seen s fs))
      (record {
        like = subst (λ (a : Framed). IsLike from_items ws a.items) (sym (from_is (ms ++ q.levels) (placed_from ms (map (λ p. p.item) ps)))) so.like;
        aliases = so.aliases;
      }))
