-- A tree whose names are resolved and break no rule reads tables that are seen there alone.
use Rattle.std.proofs.Common.{◌≡◌, sym, ap, subst, ℕ, suc, Bool, List, [], ◌∷◌, ◌++◌, map, fold, length, Option, Some, None, option_map}
use Rattle.std.specs.Prelude.{is_some}
use Rattle.std.specs.List.{flat_map}
use Rattle.away_values.specs.declared.operators.ChainOp.{ChainOp}
use Rattle.away_trees.specs.declared.queries.Expr.{Expr}
use Rattle.away_trees.specs.declared.queries.Expr.TheVariants as expr
use Rattle.away_trees.specs.declared.queries.Item.{Item}
use Rattle.away_trees.specs.declared.queries.FromItem.{FromItem}
use Rattle.away_trees.specs.declared.queries.Key.{Key}
use Rattle.away_trees.specs.declared.queries.Select.{Select}
use Rattle.away_trees.specs.Algebra.{expr_of, source_of, from_of, item_of, key_of, select_of, query_of}
use Rattle.away_trees.proofs.Equations as eq
use Rattle.away_names.specs.declared.rule.Rule.TheVariants as rule
use Rattle.away_names.specs.declared.note.Noted.{Noted}
use Rattle.away_names.specs.declared.note.Shown.{Shown}
use Rattle.away_names.specs.declared.note.Framed.{Framed}
use Rattle.away_names.specs.declared.scope.Listed.{Listed}
use Rattle.away_names.specs.Notes.{pure, joined, breaks, each, held}
use Rattle.away_names.specs.Lookups.{Name, Level, Scope, inside}
use Rattle.away_names.specs.Naming as n
use Rattle.away_names.specs.Naming.{naming}
use Rattle.away_names.specs.Trees.{named_expr, named_select}
use Rattle.sql_meaning.specs.Reads.{reading, Reads, of_list, of_option, reads}
use Rattle.sql_meaning.proofs.Related.{AlikeOption, AlikeLink, AlikeArm, Relation, IsKept, expr_related, select_related}
use Rattle.plsql_meaning.specs.Sight as into
use Rattle.type_soundness.specs.Sorts.{Every}
use Rattle.type_soundness.proofs.CleanNotes.{Clean, clean_parts, not_broken}
use Rattle.type_soundness.proofs.Lists.{every_append}
use Rattle.function_facts.proofs.Names.{every_flat, every_each}
use Rattle.function_facts.proofs.TreesInSight.{firsts}
use Rattle.function_facts.proofs.WholeSelects.{whole_reads}
use Rattle.function_facts.proofs.TableLookups.{IsBelow, BelowAt, ExprBelow, ListedBelow, Within, depth, name_below, qualified_below}

module _ (tables : ℕ) where
  -- ---- what holds of each kind of node

  abbrev Exprs : n.Term → Type 0
  Exprs t = (s : Scope) → Within tables s → Clean (t.judge s).note → ExprBelow tables (depth s) (t.judge s).it

  -- what stands in FROM is one select further in
  abbrev Sources : n.Rows → Type 0
  Sources r = (columns : List Name) (s : Scope) (level : Level) → Within tables s → Clean (r columns s level).note → BelowAt tables (suc (depth s)) (source_of reading (r columns s level).it.source (r columns s level).it.columns)

  abbrev Froms : n.Piece → Type 0
  Froms f = (s : Scope) (level : Level) → Within tables s → Clean (f.judge s level).note → BelowAt tables (suc (depth s)) (from_of reading (f.judge s level).it.item)

  abbrev Items : n.Entry → Type 0
  Items i = (s : Scope) → Within tables s → Clean (i.judge s).note → BelowAt tables (depth s) (item_of reading (i.judge s).it.it)

  abbrev Keys : n.Sort → Type 0
  Keys k = (aliases : List (Option Name)) (s : Scope) → Within tables s → Clean (k aliases s).note → BelowAt tables (depth s) (key_of reading (k aliases s).it)

  abbrev Queries : n.Whole → Type 0
  Queries w = (s : Scope) → Within tables s → Clean (w s).note → BelowAt tables (depth s) (query_of reading (w s).it.it)

  abbrev Selects : n.Listing → Type 0
  Selects l = (s : Scope) → Within tables s → Clean (l s).note → BelowAt tables (depth s) (select_of reading (l s).it.it)

  abbrev relation : Relation naming naming naming
  relation = record {
    Exprs = λ x y z. Exprs x;
    Sources = λ x y z. Sources x;
    Froms = λ x y z. Froms x;
    Items = λ x y z. Items x;
    Keys = λ x y z. Keys x;
    Queries = λ x y z. Queries x;
    Recursives = λ x y z. Unit {0};
    Selects = λ x y z. Selects x;
  }

  -- ---- expressions

  by_reads : (d : ℕ) (r q : Reads) → r ≡ q → BelowAt tables d q → BelowAt tables d r
  by_reads d r q e h = subst (BelowAt tables d) (sym e) h

  two : (d : ℕ) (a b : Reads) → BelowAt tables d a → BelowAt tables d b → BelowAt tables d (λ d. a d ++ b d)
  two d a b h k = every_append (IsBelow tables) (a d) (b d) h k

  flat : {A : Type 0} (d : ℕ) (part : A → Reads) (xs : List A) → Every (λ x. BelowAt tables d (part x)) xs → BelowAt tables d (λ d. flat_map (λ r. r d) (map part xs))
  flat d part xs h = every_flat (IsBelow tables) (λ (r : Reads). r d) part xs h

  module _ (s : Scope) (w : Within tables s) where
    abbrev ExprsBelow : List Expr → Type 0
    ExprsBelow = Every (λ e. ExprBelow tables (depth s) e)

    abbrev LinksBelow : List (ChainOp × Expr) → Type 0
    LinksBelow = Every (λ (l : ChainOp × Expr). ExprBelow tables (depth s) l.1)

    abbrev ArmsBelow : List (Expr × Expr) → Type 0
    ArmsBelow = Every (λ (a : Expr × Expr). ExprBelow tables (depth s) a.0 × ExprBelow tables (depth s) a.1)

    each_of : {A B : Type 0} (P : A → Type 0) (Q : B → Type 0) (f : A → Noted B) → ((x : A) → P x → Clean (f x).note → Q (f x).it) → (xs : List A) → Every P xs → Clean (each f xs).note → Every Q (each f xs).it
    each_of {A} P Q f go xs h c = every_each Q f xs (all xs h) (pure []) (λ c. tt) c
      where
        all : (xs : List A) → Every P xs → Every (λ x. Clean (f x).note → Q (f x).it) xs
        all [] h = tt
        all (x ∷ xs) h = (λ c. go x h.0 c, all xs h.1)

    all_below : (ts : List n.Term) → Every Exprs ts → Clean (each (λ t. t.judge s) ts).note → ExprsBelow (each (λ t. t.judge s) ts).it
    all_below ts h c = each_of Exprs (λ e. ExprBelow tables (depth s) e) (λ t. t.judge s) (λ t g c. g s w c) ts h c

    links_below : (ls : List (ChainOp × n.Term)) → Every (λ (l : ChainOp × n.Term). Exprs l.1) ls → Clean (each (n.linked s) ls).note → LinksBelow (each (n.linked s) ls).it
    links_below ls h c = each_of (λ (l : ChainOp × n.Term). Exprs l.1) (λ (l : ChainOp × Expr). ExprBelow tables (depth s) l.1) (n.linked s) (λ l g c. g s w c) ls h c

    arms_below : (as_ : List (n.Term × n.Term)) → Every (λ (a : n.Term × n.Term). Exprs a.0 × Exprs a.1) as_ → Clean (each (n.armed s) as_).note → ArmsBelow (each (n.armed s) as_).it
    arms_below as_ h c =
        each_of (λ (a : n.Term × n.Term). Exprs a.0 × Exprs a.1) (λ (a : Expr × Expr). ExprBelow tables (depth s) a.0 × ExprBelow tables (depth s) a.1) (n.armed s)
        (λ a g c. let both = clean_parts (a.0.judge s).note (a.1.judge s).note c in (g.0 s w both.0, g.1 s w both.1)) as_ h c

    abbrev MaybeBelow : Option Expr → Type 0
    MaybeBelow None = Unit {0}
    MaybeBelow (Some e) = ExprBelow tables (depth s) e

    abbrev MaybeExprs : Option n.Term → Type 0
    MaybeExprs None = Unit {0}
    MaybeExprs (Some t) = Exprs t

    held_below : (o : Option n.Term) → MaybeExprs o → Clean (held (λ t. t.judge s) o).note → MaybeBelow (held (λ t. t.judge s) o).it
    held_below None h c = tt
    held_below (Some t) h c = h s w c

    maybe_reads : (o : Option Expr) → MaybeBelow o → BelowAt tables (depth s) (λ d. of_option d (option_map (λ e. expr_of reading e) o))
    maybe_reads None h = tt
    maybe_reads (Some e) h = h

    -- ---- nodes

    chain_below : (e : Expr) (ls : List (ChainOp × Expr)) → ExprBelow tables (depth s) e → LinksBelow ls → ExprBelow tables (depth s) (expr.Chain e ls)
    chain_below e ls h k =
        by_reads (depth s) (expr_of reading (expr.Chain e ls)) _ (eq.of_chain reading e ls)
        (every_append (IsBelow tables) (expr_of reading e (depth s)) _ h
        (every_flat (IsBelow tables) (λ (l : ChainOp × Reads). l.1 (depth s)) (λ l. eq.link_of reading l) ls k))

    cases_below : (as_ : List (Expr × Expr)) (o : Option Expr) → ArmsBelow as_ → MaybeBelow o → ExprBelow tables (depth s) (expr.Cases as_ o)
    cases_below as_ o h k =
        by_reads (depth s) (expr_of reading (expr.Cases as_ o)) _ (eq.of_cases reading as_ o)
        (every_append (IsBelow tables) _ (of_option (depth s) (option_map (λ e. expr_of reading e) o))
        (every_flat (IsBelow tables) (λ (a : Reads × Reads). a.0 (depth s) ++ a.1 (depth s)) (λ a. eq.arm_of reading a) as_ (at as_ h)) (maybe_reads o k))
      where
        at : (as_ : List (Expr × Expr)) → ArmsBelow as_ → Every (λ (a : Expr × Expr). Every (IsBelow tables) (expr_of reading a.0 (depth s) ++ expr_of reading a.1 (depth s))) as_
        at [] h = tt
        at (a ∷ as_) h = (every_append (IsBelow tables) (expr_of reading a.0 (depth s)) (expr_of reading a.1 (depth s)) h.0.0 h.0.1, at as_ h.1)

    one_of_below : (v : Bool) (e : Expr) (es : List Expr) → ExprBelow tables (depth s) e → ExprsBelow es → ExprBelow tables (depth s) (expr.OneOf v e es)
    one_of_below v e es h k =
        by_reads (depth s) (expr_of reading (expr.OneOf v e es)) _ (eq.of_oneof reading v e es)
        (two (depth s) (expr_of reading e) (λ d. of_list d (map (λ x. expr_of reading x) es)) h (flat (depth s) (λ x. expr_of reading x) es k))

    call_below : (name : Name) (es : List Expr) → ExprsBelow es → ExprBelow tables (depth s) (expr.Call name es)
    call_below name es k =
        by_reads (depth s) (expr_of reading (expr.Call name es)) _ (eq.of_call reading name es) (flat (depth s) (λ x. expr_of reading x) es k)

  -- ---- FROM

  module _ (s : Scope) (w : Within tables s) where
    table_below : (x : Name) (t : Option Listed) → ListedBelow tables t → Clean (n.of_table x t).note
        → BelowAt tables (suc (depth s)) (source_of reading (n.of_table x t).it.source (n.of_table x t).it.columns)
    unfolding n.of_table
    table_below x None h c = absurd (not_broken rule.Tables c)
    table_below x (Some t) h c = (h, tt)

    abbrev FromBelow : FromItem → Type 0
    FromBelow f = BelowAt tables (suc (depth s)) (from_of reading f)

    framed_below : (fs : List n.Piece) → Every Froms fs → (acc : Noted Framed) → (Clean acc.note → Every FromBelow acc.it.items) → Clean (fold (λ a f. n.with_part a (f.judge s a.it.seen)) acc fs).note → Every FromBelow (fold (λ a f. n.with_part a (f.judge s a.it.seen)) acc fs).it.items
    framed_below [] h acc g c = g c
    framed_below (f ∷ fs) h acc g c =
        framed_below fs h.1 (n.with_part acc (f.judge s acc.it.seen))
        (λ c. let both = clean_parts acc.note (f.judge s acc.it.seen).note c in every_append FromBelow acc.it.items ((f.judge s acc.it.seen).it.item ∷ []) (g both.0) (h.0 s acc.it.seen w both.1, tt)) c

    -- ---- lists

    abbrev ItemBelow : Item → Type 0
    ItemBelow i = BelowAt tables (depth s) (item_of reading i)

    items_below : (is : List n.Entry) → Every Items is → (acc : Noted (Shown (List Item))) → (Clean acc.note → Every ItemBelow acc.it.it) → Clean (fold (λ a i. n.with_item a (i.judge s)) acc is).note → Every ItemBelow (fold (λ a i. n.with_item a (i.judge s)) acc is).it.it
    items_below [] h acc g c = g c
    items_below (i ∷ is) h acc g c =
        items_below is h.1 (n.with_item acc (i.judge s))
        (λ c. let both = clean_parts acc.note (i.judge s).note c in every_append ItemBelow acc.it.it ((i.judge s).it.it ∷ []) (g both.0) (h.0 s w both.1, tt)) c

    abbrev KeyBelow : Key → Type 0
    KeyBelow k = BelowAt tables (depth s) (key_of reading k)

    keys_below : (aliases : List (Option Name)) (ks : List n.Sort) → Every Keys ks → Clean (each (λ k. k aliases s) ks).note → Every KeyBelow (each (λ k. k aliases s) ks).it
    keys_below aliases ks h c = each_of s w Keys KeyBelow (λ k. k aliases s) (λ k g c. g aliases s w c) ks h c

    abbrev SelectBelow : Select → Type 0
    SelectBelow x = BelowAt tables (depth s) (select_of reading x)

    selects_below : (ls : List n.Listing) → Every Selects ls → (acc : Noted (Shown (List Select))) → (Clean acc.note → Every SelectBelow acc.it.it) → Clean (fold (λ a l. n.with_select a (l s)) acc ls).note → Every SelectBelow (fold (λ a l. n.with_select a (l s)) acc ls).it.it
    selects_below [] h acc g c = g c
    selects_below (l ∷ ls) h acc g c =
        selects_below ls h.1 (n.with_select acc (l s))
        (λ c. let both = clean_parts acc.note (l s).note c in every_append SelectBelow acc.it.it ((l s).it.it ∷ []) (g both.0) (h.0 s w both.1, tt)) c

  -- the parts of a select stand one select further in
  select_below : (s : Scope) (w : Within tables s) (level : Level) (list : List Item) (from : List FromItem) (filter : Option Expr) (order : List Key) (limit : Option Expr) →
      Every (ItemBelow (inside level s) w) list → Every (FromBelow s w) from → MaybeBelow (inside level s) w filter → Every (KeyBelow (inside level s) w) order → MaybeBelow (inside level s) w limit →
      BelowAt tables (depth s) (select_of reading (n.select_of from (pure (record { it = list; names = [] })) (pure filter) (pure order) (pure limit)).it.it)
  select_below s w level list from filter order limit a b c k m =
      let d = depth s in
      let inner = inside level s in
      by_reads d _ _ (eq.of_select reading list from filter order limit)
      (every_append (IsBelow tables) _ _ (flat (suc d) (λ x. item_of reading x) list a)
      (every_append (IsBelow tables) _ _ (flat (suc d) (λ x. from_of reading x) from b)
      (every_append (IsBelow tables) _ _ (maybe_reads inner w filter c)
      (every_append (IsBelow tables) _ _ (flat (suc d) (λ x. key_of reading x) order k) (maybe_reads inner w limit m)))))

  -- ---- all steps

  unwritten_below : (d : ℕ) (e : Expr) → Clean (n.unwritten e).note → ExprBelow tables d (n.unwritten e).it
  unfolding n.unwritten
  unwritten_below d e c = absurd (not_broken rule.Names c)

  whole_below : (q : List n.Listing) → Every Selects q → (with_ : Bool) (s : Scope) → Within tables s → Clean (joined (breaks rule.Types with_) (n.united q s).note) → BelowAt tables (depth s) (query_of reading (n.query_with (n.united q s).it).it)
  whole_below q h with_ s w c =
      by_reads (depth s) _ _ (eq.of_query reading (n.united q s).it.it)
      (flat (depth s) (λ x. select_of reading x) (n.united q s).it.it (selects_below s w q h n.no_select (λ c. tt) (clean_parts (breaks rule.Types with_) (n.united q s).note c).1))

  abbrev MaybeAnywhere : Option n.Term → Type 0
  MaybeAnywhere o = (s : Scope) (w : Within tables s) → MaybeExprs s w o

  listing_below : (l : List n.Entry) (f : List n.Piece) (t : Option n.Term) (o : List n.Sort) (m : Option n.Term) → Every Items l → Every Froms f → MaybeAnywhere t → Every Keys o → MaybeAnywhere m → Selects (n.listing (record { list = l; from = f; filter = t; order = o; limit = m }))
  listing_below l f t o m lh fh th oh mh s w c =
      let from = n.framed s f in
      let inner = inside from.it.seen s in
      let two_notes = clean_parts _ _ c in
      let from_note = clean_parts _ _ two_notes.0 in
      let over_note = clean_parts _ _ two_notes.1 in
      let first = clean_parts _ _ over_note.0 in
      let second = clean_parts _ _ over_note.1 in
      select_below s w from.it.seen _ _ _ _ _ (items_below inner w l lh n.no_item (λ c. tt) first.0) (framed_below s w f fh n.no_part (λ c. tt) from_note.1) (held_below inner w t (th inner w) first.1) (keys_below inner w _ o oh second.0) (held_below inner w m (mh inner w) second.1)

  steps : IsKept naming naming naming relation
  steps = record {
    no_expr = λ s w c. tt;
    no_query = λ s w c. by_reads (depth s) _ _ (eq.of_query reading []) tt;
    int = λ x s w c. tt;
    str = λ t s w c. tt;
    bool = λ b s w c. tt;
    null = λ s w c. tt;
    named = λ t s w c. name_below tables t s;
    qualified = λ t u s w c. qualified_below tables t u s;
    slot = λ i s w c. unwritten_below (depth s) (expr.Slot i) c;
    column = λ x s w c. unwritten_below (depth s) (expr.Column x) c;
    param = λ i t s w c. (tt, tt);
    neg = λ x y z k s w c. by_reads (depth s) _ _ (eq.of_neg reading (x.judge s).it) (k s w c);
    neg_small = λ x y z k s w c. by_reads (depth s) _ _ (eq.of_negsmall reading (x.judge s).it) (k s w c);
    not = λ x y z k s w c. by_reads (depth s) _ _ (eq.of_not reading (x.judge s).it) (k s w c);
    is = λ x y z test negative k s w c. by_reads (depth s) _ _ (eq.of_is reading (x.judge s).it test negative) (k s w c);
    chain = λ x y z xs ys zs k r s w c.
        let both = clean_parts (x.judge s).note (each (n.linked s) xs).note c in
        chain_below s w (x.judge s).it (each (n.linked s) xs).it (k s w both.0) (links_below s w xs (firsts (AlikeLink (λ x y z. Exprs x)) (λ (l : ChainOp × n.Term). Exprs l.1) (λ x y z r. r.2) xs ys zs r) both.1);
    compare = λ op x₁ x₂ y₁ y₂ z₁ z₂ k₁ k₂ s w c.
        let both = clean_parts (x₁.judge s).note (x₂.judge s).note c in
        by_reads (depth s) _ _ (eq.of_compare reading op (x₁.judge s).it (x₂.judge s).it) (two (depth s) (expr_of reading (x₁.judge s).it) (expr_of reading (x₂.judge s).it) (k₁ s w both.0) (k₂ s w both.1));
    between = λ v x₁ x₂ x₃ y₁ y₂ y₃ z₁ z₂ z₃ k₁ k₂ k₃ s w c.
        let both = clean_parts (x₁.judge s).note (joined (x₂.judge s).note (x₃.judge s).note) c in
        let more = clean_parts (x₂.judge s).note (x₃.judge s).note both.1 in
        by_reads (depth s) _ _ (eq.of_between reading v (x₁.judge s).it (x₂.judge s).it (x₃.judge s).it)
        (two (depth s) (expr_of reading (x₁.judge s).it) (λ d. expr_of reading (x₂.judge s).it d ++ expr_of reading (x₃.judge s).it d) (k₁ s w both.0)
        (two (depth s) (expr_of reading (x₂.judge s).it) (expr_of reading (x₃.judge s).it) (k₂ s w more.0) (k₃ s w more.1)));
    one_of = λ v x y z xs ys zs k r s w c.
        let both = clean_parts (x.judge s).note (each (λ t. t.judge s) xs).note c in
        one_of_below s w v (x.judge s).it (each (λ t. t.judge s) xs).it (k s w both.0) (all_below s w xs (firsts (λ x y z. Exprs x) Exprs (λ x y z r. r) xs ys zs r) both.1);
    cast = λ x y z t k s w c. by_reads (depth s) _ _ (eq.of_cast reading (x.judge s).it t) (k s w c);
    cases = λ xs ys zs x y z r k s w c.
        let both = clean_parts (each (n.armed s) xs).note (held (λ t. t.judge s) x).note c in
        cases_below s w (each (n.armed s) xs).it (held (λ t. t.judge s) x).it
        (arms_below s w xs (firsts (AlikeArm (λ x y z. Exprs x)) (λ (a : n.Term × n.Term). Exprs a.0 × Exprs a.1) (λ x y z r. r) xs ys zs r) both.0)
        (held_below s w x (option s w x y z k) both.1);
    call = λ name xs ys zs r s w c.
        let both = clean_parts (n.called s name) (each (λ t. t.judge s) xs).note c in
        call_below s w name (each (λ t. t.judge s) xs).it (all_below s w xs (firsts (λ x y z. Exprs x) Exprs (λ x y z r. r) xs ys zs r) both.1);
    count_rows = λ s w c. tt;
    scalar = λ x y z k s w c. by_reads (depth s) _ _ (eq.of_scalar reading (x s).it.it) (k s w c);
    exists = λ x y z k s w c. by_reads (depth s) _ _ (eq.of_exists reading (x s).it.it) (k s w c);
    table = λ name columns s level w c. table_below s w name (s.table name) (w name) (clean_parts (n.written s name) (n.of_table name (s.table name)).note c).1;
    sub = λ x y z lateral k columns s level w c. by_reads (suc (depth s)) _ _ (ap (λ r. r columns) (eq.of_sub reading (x (inside (n.before lateral level) s)).it.it lateral)) (k (inside (n.before lateral level) s) w c);
    from = λ x y z alias columns k s level w c.
        let both = clean_parts (n.part_note s alias columns) (x columns s level).note c in
        k columns s level w both.1;
    item = λ x y z alias k s w c. k s w (clean_parts (n.maybe_written s alias) (x.judge s).note c).1;
    key = λ x y z descending k aliases s w c. k s w (clean_parts (breaks rule.Ambiguity (n.is_alias aliases x.alone)) (x.judge s).note c).1;
    select = λ l₁ l₂ l₃ f₁ f₂ f₃ w₁ w₂ w₃ o₁ o₂ o₃ m₁ m₂ m₃ lr fr wr kr mr.
        listing_below l₁ f₁ w₁ o₁ m₁ (firsts (λ x y z. Items x) Items (λ x y z r. r) l₁ l₂ l₃ lr) (firsts (λ x y z. Froms x) Froms (λ x y z r. r) f₁ f₂ f₃ fr) (λ s w. option s w w₁ w₂ w₃ wr) (firsts (λ x y z. Keys x) Keys (λ x y z r. r) o₁ o₂ o₃ kr) (λ s w. option s w m₁ m₂ m₃ mr);
    recursive = λ name columns xs ys zs x y z r k. tt;
    query = λ x y z xs ys zs h r s w c. whole_below xs (firsts (λ x y z. Selects x) Selects (λ x y z r. r) xs ys zs r) (is_some x) s w c;
  }
    where
      option : (s : Scope) (w : Within tables s) (x y z : Option n.Term) → AlikeOption (λ x y z. Exprs x) x y z → MaybeExprs s w x
      option s w None None None r = tt
      option s w (Some x) (Some y) (Some z) r = r
      option s w _ _ _ r = absurd r

  -- an expression, where it stands
  pub expr_below : (e : Expr) (s : Scope) → Within tables s → s.levels ≡ [] → Clean (named_expr e s).note → Every (IsBelow tables) (reads (named_expr e s).it)
  unfolding named_expr
  expr_below e s w l c = subst (λ (ls : List Level). Every (IsBelow tables) (expr_of reading (named_expr e s).it (length ls))) l (expr_related naming naming naming relation steps e s w c)

  -- the select of a SELECT INTO, under no other
  pub into_below : (x : Select) (s : Scope) → Within tables s → s.levels ≡ [] → Clean (named_select x s).note → Every (IsBelow tables) (reads (into.query_of (named_select x s).it.it))
  unfolding named_select
  into_below x s w l c =
      whole_reads (IsBelow tables) (named_select x s).it.it 0
      (subst (λ (ls : List Level). Every (IsBelow tables) (select_of reading (named_select x s).it.it (length ls))) l (select_related naming naming naming relation steps x s w c))
