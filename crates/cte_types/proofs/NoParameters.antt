-- The expressions of a checked function have no parameters.
use Rattle.std.proofs.Common.{◌≡◌, refl, ◌∙◌, ℕ, Bool, true, false, List, [], ◌∷◌, map, fold, Option, Some, None, option_map}
use Rattle.std.specs.Prelude.{is_some}
use Rattle.away_values.specs.declared.types.Ty.{Ty}
use Rattle.away_values.specs.declared.operators.ChainOp.{ChainOp}
use Rattle.away_trees.specs.declared.queries.Expr.{Expr}
use Rattle.away_trees.specs.declared.queries.Expr.TheVariants as expr
use Rattle.away_trees.specs.declared.queries.Item.{Item}
use Rattle.away_trees.specs.declared.queries.FromItem.{FromItem}
use Rattle.away_trees.specs.declared.queries.Key.{Key}
use Rattle.away_trees.specs.declared.queries.Select.{Select}
use Rattle.away_trees.specs.Algebra.{expr_of, source_of, from_of, item_of, key_of, select_of, query_of as found_query}
use Rattle.away_trees.proofs.Equations as eq
use Rattle.away_names.specs.declared.rule.Rule.TheVariants as rule
use Rattle.away_names.specs.declared.note.Noted.{Noted}
use Rattle.away_names.specs.declared.note.Shown.{Shown}
use Rattle.away_names.specs.declared.note.Framed.{Framed}
use Rattle.away_names.specs.declared.scope.Hit.{Hit}
use Rattle.away_names.specs.declared.scope.Listed.{Listed}
use Rattle.away_names.specs.declared.scope.Variable.{Variable}
use Rattle.away_names.specs.Notes.{pure, joined, breaks, each, held}
use Rattle.away_names.specs.Lookups.{Name, Level, Scope, inside, column_named, column_qualified, variable_named}
use Rattle.away_names.specs.Naming as n
use Rattle.away_names.specs.Naming.{naming}
use Rattle.away_names.specs.Trees.{named_expr}
use Rattle.away_typing.specs.Parameters.{Found, finding}
use Rattle.away_typing.specs.Parameters as params
use Rattle.sql_meaning.proofs.Related.{AlikeOption, AlikeLink, AlikeArm, Relation, IsKept, expr_related}
use Rattle.type_soundness.proofs.CleanNotes.{Clean, clean_parts, not_broken}
use Rattle.function_facts.proofs.Names.{every_each}
use Rattle.function_facts.proofs.TreesInSight.{firsts}
use Rattle.type_soundness.specs.Sorts.{Every}
use Rattle.type_soundness.proofs.Lists.{every_append}
use Rattle.cte_types.proofs.EntryUses.{IsQuiet}
use Rattle.cte_types.proofs.Fine.{Quiet, quiet_is, quiet_all}

-- ---- what holds of each kind of node

abbrev Exprs : n.Term → Type 0
Exprs t = (s : Scope) → s.in_function ≡ true → Clean (t.judge s).note → IsQuiet (t.judge s).it

abbrev Origins : n.Rows → Type 0
Origins r = (columns : List Name) (s : Scope) (level : Level) → s.in_function ≡ true → Clean (r columns s level).note
    → Quiet (source_of finding (r columns s level).it.source)

abbrev Froms : n.Piece → Type 0
Froms f = (s : Scope) (level : Level) → s.in_function ≡ true → Clean (f.judge s level).note → Quiet (from_of finding (f.judge s level).it.item)

abbrev Items : n.Entry → Type 0
Items i = (s : Scope) → s.in_function ≡ true → Clean (i.judge s).note → Quiet (item_of finding (i.judge s).it.it)

abbrev Keys : n.Sort → Type 0
Keys k = (aliases : List (Option Name)) (s : Scope) → s.in_function ≡ true → Clean (k aliases s).note → Quiet (key_of finding (k aliases s).it)

abbrev Queries : n.Whole → Type 0
Queries w = (s : Scope) → s.in_function ≡ true → Clean (w s).note → Quiet (found_query finding (w s).it.it)

abbrev Selects : n.Listing → Type 0
Selects l = (s : Scope) → s.in_function ≡ true → Clean (l s).note → Quiet (select_of finding (l s).it.it)

abbrev relation : Relation naming naming naming
relation = record {
  Exprs = λ x y z. Exprs x;
  Sources = λ x y z. Origins x;
  Froms = λ x y z. Froms x;
  Items = λ x y z. Items x;
  Keys = λ x y z. Keys x;
  Queries = λ x y z. Queries x;
  Recursives = λ x y z. Unit {0};
  Selects = λ x y z. Selects x;
}

-- ---- lists of parts

quiet_of : {A : Type 0} (part : A → Found) (xs : List A) → Every (λ x. Quiet (part x)) xs → Every Quiet (map part xs)
quiet_of part [] h = tt
quiet_of part (x ∷ xs) h = (h.0, quiet_of part xs h.1)

-- one after the other
quiet_each : {A : Type 0} (part : A → Found) (xs : List A) → Every (λ x. Quiet (part x)) xs → Quiet (params.each (map part xs))
quiet_each part xs h p = quiet_all (map part xs) (quiet_of part xs h) p

abbrev AreQuiet : List Expr → Type 0
AreQuiet = Every IsQuiet

abbrev QuietLinks : List (ChainOp × Expr) → Type 0
QuietLinks = Every (λ (l : ChainOp × Expr). IsQuiet l.1)

abbrev QuietArms : List (Expr × Expr) → Type 0
QuietArms = Every (λ (a : Expr × Expr). IsQuiet a.0 × IsQuiet a.1)

abbrev MaybeQuiet : Option Expr → Type 0
MaybeQuiet None = Unit {0}
MaybeQuiet (Some e) = IsQuiet e

maybe_quiet : (o : Option Expr) → MaybeQuiet o → Quiet (params.maybe (option_map (λ e. expr_of finding e) o))
maybe_quiet None h p = refl
maybe_quiet (Some e) h p = h p

links_quiet : (ls : List (ChainOp × Expr)) → QuietLinks ls → (p : _) → fold (λ p (l : ChainOp × Found). l.1 p) p (map (λ l. eq.link_of finding l) ls) ≡ p
links_quiet [] h p = refl
links_quiet (l ∷ ls) h p = links_quiet ls h.1 (expr_of finding l.1 p) ∙ h.0 p

arms_quiet : (as_ : List (Expr × Expr)) → QuietArms as_ → (p : _) → fold (λ p (a : Found × Found). a.1 (a.0 p)) p (map (λ a. eq.arm_of finding a) as_) ≡ p
arms_quiet [] h p = refl
arms_quiet (a ∷ as_) h p = arms_quiet as_ h.1 (expr_of finding a.1 (expr_of finding a.0 p)) ∙ (h.0.1 (expr_of finding a.0 p) ∙ h.0.0 p)

module _ (s : Scope) (w : s.in_function ≡ true) where
  each_of : {A B : Type 0} (P : A → Type 0) (Q : B → Type 0) (f : A → Noted B) → ((x : A) → P x → Clean (f x).note → Q (f x).it) → (xs : List A) → Every P xs
      → Clean (each f xs).note → Every Q (each f xs).it
  each_of {A} P Q f go xs h c = every_each Q f xs (all xs h) (pure []) (λ c. tt) c
    where
      all : (xs : List A) → Every P xs → Every (λ x. Clean (f x).note → Q (f x).it) xs
      all [] h = tt
      all (x ∷ xs) h = (λ c. go x h.0 c, all xs h.1)

  all_quiet : (ts : List n.Term) → Every Exprs ts → Clean (each (λ t. t.judge s) ts).note → AreQuiet (each (λ t. t.judge s) ts).it
  all_quiet ts h c = each_of Exprs IsQuiet (λ t. t.judge s) (λ t g c. g s w c) ts h c

  all_links : (ls : List (ChainOp × n.Term)) → Every (λ (l : ChainOp × n.Term). Exprs l.1) ls → Clean (each (n.linked s) ls).note
      → QuietLinks (each (n.linked s) ls).it
  all_links ls h c = each_of (λ (l : ChainOp × n.Term). Exprs l.1) (λ (l : ChainOp × Expr). IsQuiet l.1) (n.linked s) (λ l g c. g s w c) ls h c

  all_arms : (as_ : List (n.Term × n.Term)) → Every (λ (a : n.Term × n.Term). Exprs a.0 × Exprs a.1) as_ → Clean (each (n.armed s) as_).note
      → QuietArms (each (n.armed s) as_).it
  all_arms as_ h c =
      each_of (λ (a : n.Term × n.Term). Exprs a.0 × Exprs a.1) (λ (a : Expr × Expr). IsQuiet a.0 × IsQuiet a.1) (n.armed s)
      (λ a g c. let both = clean_parts (a.0.judge s).note (a.1.judge s).note c in (g.0 s w both.0, g.1 s w both.1)) as_ h c

  abbrev MaybeExprs : Option n.Term → Type 0
  MaybeExprs None = Unit {0}
  MaybeExprs (Some t) = Exprs t

  held_quiet : (o : Option n.Term) → MaybeExprs o → Clean (held (λ t. t.judge s) o).note → MaybeQuiet (held (λ t. t.judge s) o).it
  held_quiet None h c = tt
  held_quiet (Some t) h c = h s w c

  -- ---- FROM and lists

  table_quiet : (x : Name) (t : Option Listed) → Quiet (source_of finding (n.of_table x t).it.source)
  unfolding n.of_table
  table_quiet x None p = refl
  table_quiet x (Some t) p = refl

  abbrev FromQuiet : FromItem → Type 0
  FromQuiet f = Quiet (from_of finding f)

  framed_quiet : (fs : List n.Piece) → Every Froms fs → (acc : Noted Framed) → (Clean acc.note → Every FromQuiet acc.it.items)
      → Clean (fold (λ a f. n.with_part a (f.judge s a.it.seen)) acc fs).note
      → Every FromQuiet (fold (λ a f. n.with_part a (f.judge s a.it.seen)) acc fs).it.items
  framed_quiet [] h acc g c = g c
  framed_quiet (f ∷ fs) h acc g c =
      framed_quiet fs h.1 (n.with_part acc (f.judge s acc.it.seen))
      (λ c. let both = clean_parts acc.note (f.judge s acc.it.seen).note c in every_append FromQuiet acc.it.items ((f.judge s acc.it.seen).it.item ∷ [])
      (g both.0) (h.0 s acc.it.seen w both.1, tt)) c

  abbrev ItemQuiet : Item → Type 0
  ItemQuiet i = Quiet (item_of finding i)

  items_quiet : (is : List n.Entry) → Every Items is → (acc : Noted (Shown (List Item))) → (Clean acc.note → Every ItemQuiet acc.it.it)
      → Clean (fold (λ a i. n.with_item a (i.judge s)) acc is).note
      → Every ItemQuiet (fold (λ a i. n.with_item a (i.judge s)) acc is).it.it
  items_quiet [] h acc g c = g c
  items_quiet (i ∷ is) h acc g c =
      items_quiet is h.1 (n.with_item acc (i.judge s))
      (λ c. let both = clean_parts acc.note (i.judge s).note c in every_append ItemQuiet acc.it.it ((i.judge s).it.it ∷ []) (g both.0) (h.0 s w both.1, tt)) c

  abbrev KeyQuiet : Key → Type 0
  KeyQuiet k = Quiet (key_of finding k)

  keys_quiet : (aliases : List (Option Name)) (ks : List n.Sort) → Every Keys ks → Clean (each (λ k. k aliases s) ks).note
      → Every KeyQuiet (each (λ k. k aliases s) ks).it
  keys_quiet aliases ks h c = each_of Keys KeyQuiet (λ k. k aliases s) (λ k g c. g aliases s w c) ks h c

  abbrev SelectQuiet : Select → Type 0
  SelectQuiet x = Quiet (select_of finding x)

  selects_quiet : (ls : List n.Listing) → Every Selects ls → (acc : Noted (Shown (List Select))) → (Clean acc.note → Every SelectQuiet acc.it.it)
      → Clean (fold (λ a l. n.with_select a (l s)) acc ls).note
      → Every SelectQuiet (fold (λ a l. n.with_select a (l s)) acc ls).it.it
  selects_quiet [] h acc g c = g c
  selects_quiet (l ∷ ls) h acc g c =
      selects_quiet ls h.1 (n.with_select acc (l s))
      (λ c. let both = clean_parts acc.note (l s).note c in every_append SelectQuiet acc.it.it ((l s).it.it ∷ []) (g both.0) (h.0 s w both.1, tt)) c

-- ---- nodes

chain_quiet : (e : Expr) (ls : List (ChainOp × Expr)) → IsQuiet e → QuietLinks ls → IsQuiet (expr.Chain e ls)
chain_quiet e ls h k = quiet_is _ _ (eq.of_chain finding e ls) (λ p. links_quiet ls k (expr_of finding e p) ∙ h p)

cases_quiet : (as_ : List (Expr × Expr)) (o : Option Expr) → QuietArms as_ → MaybeQuiet o → IsQuiet (expr.Cases as_ o)
cases_quiet as_ o h k = quiet_is _ _ (eq.of_cases finding as_ o) (λ p. maybe_quiet o k _ ∙ arms_quiet as_ h p)

one_of_quiet : (v : Bool) (e : Expr) (es : List Expr) → IsQuiet e → AreQuiet es → IsQuiet (expr.OneOf v e es)
one_of_quiet v e es h k = quiet_is _ _ (eq.of_oneof finding v e es) (λ p. quiet_each (λ x. expr_of finding x) es k (expr_of finding e p) ∙ h p)

call_quiet : (name : Name) (es : List Expr) → AreQuiet es → IsQuiet (expr.Call name es)
call_quiet name es k = quiet_is _ _ (eq.of_call finding name es) (λ p. quiet_each (λ x. expr_of finding x) es k p)

select_quiet : (list : List Item) (from : List FromItem) (filter : Option Expr) (order : List Key) (limit : Option Expr)
    → Every (λ i. Quiet (item_of finding i)) list
    → Every (λ f. Quiet (from_of finding f)) from → MaybeQuiet filter → Every (λ k. Quiet (key_of finding k)) order → MaybeQuiet limit
    → Quiet (select_of finding (n.select_of from (pure (record { it = list; names = [] })) (pure filter) (pure order) (pure limit)).it.it)
select_quiet list from filter order limit a b c k m =
    quiet_is _ _ (eq.of_select finding list from filter order limit)
    (λ p. maybe_quiet limit m _
    ∙ (quiet_each (λ x. key_of finding x) order k _
    ∙ (maybe_quiet filter c _ ∙ (quiet_each (λ x. from_of finding x) from b _ ∙ quiet_each (λ x. item_of finding x) list a p))))

slot_or_quiet : (x : Name) (o : Option Variable) → IsQuiet (n.slot_or x o).it
unfolding n.slot_or
slot_or_quiet x None p = refl
slot_or_quiet x (Some v) p = refl

named_by_quiet : (x : Name) (hit : Option Hit) (o : Option Variable) → IsQuiet (n.named_by x hit o).it
unfolding n.named_by
named_by_quiet x (Some hit) o p = refl
named_by_quiet x None o p = slot_or_quiet x o p

name_quiet : (x : Name) (s : Scope) → IsQuiet (n.named x s).it
unfolding n.named
name_quiet x s = named_by_quiet x (column_named x s.levels) (variable_named x s.variables)

qualified_by_quiet : (a x : Name) (hit : Option Hit) → IsQuiet (n.qualified_by a x hit).it
unfolding n.qualified_by
qualified_by_quiet a x (Some hit) p = refl
qualified_by_quiet a x None p = refl

qualified_quiet : (a x : Name) (s : Scope) → IsQuiet (n.qualified a x s).it
unfolding n.qualified
qualified_quiet a x s = qualified_by_quiet a x (column_qualified a x s.levels)

unwritten_quiet : (e : Expr) → Clean (n.unwritten e).note → IsQuiet (n.unwritten e).it
unfolding n.unwritten
unwritten_quiet e c = absurd (not_broken rule.Names c)

param_quiet : (i : ℕ) (t : Ty) (b : Bool) → b ≡ true → Clean (breaks rule.Names b) → IsQuiet (expr.Param i t)
param_quiet i t true h c = absurd (not_broken rule.Names c)
param_quiet i t false h c = cc

whole_quiet : (q : List n.Listing) → Every Selects q → (with_ : Bool) (s : Scope) → s.in_function ≡ true → Clean (joined (breaks rule.Types with_) (n.united q s).note)
    → Quiet (found_query finding (n.query_with (n.united q s).it).it)
whole_quiet q h with_ s w c =
    quiet_is _ _ (eq.of_query finding (n.united q s).it.it)
    (quiet_each (λ x. select_of finding x) (n.united q s).it.it (selects_quiet s w q h n.no_select (λ c. tt)
    (clean_parts (breaks rule.Types with_) (n.united q s).note c).1))

abbrev MaybeAnywhere : Option n.Term → Type 0
MaybeAnywhere o = (s : Scope) (w : s.in_function ≡ true) → MaybeExprs s w o

listing_quiet : (l : List n.Entry) (f : List n.Piece) (t : Option n.Term) (o : List n.Sort) (m : Option n.Term) → Every Items l → Every Froms f
    → MaybeAnywhere t → Every Keys o → MaybeAnywhere m
    → Selects (n.listing (record { list = l; from = f; filter = t; order = o; limit = m }))
listing_quiet l f t o m lh fh th oh mh s w c =
    let from = n.framed s f in
    let inner = inside from.it.seen s in
    let two_notes = clean_parts _ _ c in
    let from_note = clean_parts _ _ two_notes.0 in
    let over_note = clean_parts _ _ two_notes.1 in
    let first = clean_parts _ _ over_note.0 in
    let second = clean_parts _ _ over_note.1 in
    select_quiet _ _ _ _ _ (items_quiet inner w l lh n.no_item (λ c. tt) first.0) (framed_quiet s w f fh n.no_part (λ c. tt) from_note.1)
    (held_quiet inner w t (th inner w) first.1)
    (keys_quiet inner w _ o oh second.0) (held_quiet inner w m (mh inner w) second.1)

-- ---- all steps

steps : IsKept naming naming naming relation
steps = record {
  no_expr = λ s w c p. refl;
  no_query = λ s w c. quiet_is _ _ (eq.of_query finding []) (λ p. refl);
  int = λ x s w c p. refl;
  str = λ t s w c p. refl;
  bool = λ b s w c p. refl;
  null = λ s w c p. refl;
  named = λ t s w c. name_quiet t s;
  qualified = λ t u s w c. qualified_quiet t u s;
  slot = λ i s w c. unwritten_quiet (expr.Slot i) c;
  column = λ x s w c. unwritten_quiet (expr.Column x) c;
  param = λ i t s w c. param_quiet i t s.in_function w c;
  neg = λ x y z k s w c. quiet_is _ _ (eq.of_neg finding (x.judge s).it) (k s w c);
  neg_small = λ x y z k s w c. quiet_is _ _ (eq.of_negsmall finding (x.judge s).it) (k s w c);
  not = λ x y z k s w c. quiet_is _ _ (eq.of_not finding (x.judge s).it) (k s w c);
  is = λ x y z test negative k s w c. quiet_is _ _ (eq.of_is finding (x.judge s).it test negative) (k s w c);
  chain = λ x y z xs ys zs k r s w c.
      let both = clean_parts (x.judge s).note (each (n.linked s) xs).note c in
      chain_quiet (x.judge s).it (each (n.linked s) xs).it (k s w both.0)
      (all_links s w xs (firsts (AlikeLink (λ x y z. Exprs x)) (λ (l : ChainOp × n.Term). Exprs l.1) (λ x y z r. r.2) xs ys zs r) both.1);
  compare = λ op x₁ x₂ y₁ y₂ z₁ z₂ k₁ k₂ s w c.
      let both = clean_parts (x₁.judge s).note (x₂.judge s).note c in
      quiet_is _ _ (eq.of_compare finding op (x₁.judge s).it (x₂.judge s).it) (λ p. k₂ s w both.1 (expr_of finding (x₁.judge s).it p) ∙ k₁ s w both.0 p);
  between = λ v x₁ x₂ x₃ y₁ y₂ y₃ z₁ z₂ z₃ k₁ k₂ k₃ s w c.
      let both = clean_parts (x₁.judge s).note (joined (x₂.judge s).note (x₃.judge s).note) c in
      let more = clean_parts (x₂.judge s).note (x₃.judge s).note both.1 in
      quiet_is _ _ (eq.of_between finding v (x₁.judge s).it (x₂.judge s).it (x₃.judge s).it) (λ p. k₃ s w more.1 _ ∙ (k₂ s w more.0 _ ∙ k₁ s w both.0 p));
  one_of = λ v x y z xs ys zs k r s w c.
      let both = clean_parts (x.judge s).note (each (λ t. t.judge s) xs).note c in
      one_of_quiet v (x.judge s).it (each (λ t. t.judge s) xs).it (k s w both.0) (all_quiet s w xs (firsts (λ x y z. Exprs x) Exprs (λ x y z r. r) xs ys zs r)
      both.1);
  cast = λ x y z t k s w c. quiet_is _ _ (eq.of_cast finding (x.judge s).it t) (k s w c);
  cases = λ xs ys zs x y z r k s w c.
      let both = clean_parts (each (n.armed s) xs).note (held (λ t. t.judge s) x).note c in
      cases_quiet (each (n.armed s) xs).it (held (λ t. t.judge s) x).it
      (all_arms s w xs (firsts (AlikeArm (λ x y z. Exprs x)) (λ (a : n.Term × n.Term). Exprs a.0 × Exprs a.1) (λ x y z r. r) xs ys zs r) both.0)
      (held_quiet s w x (option s w x y z k) both.1);
  call = λ name xs ys zs r s w c.
      let both = clean_parts (n.called s name) (each (λ t. t.judge s) xs).note c in
      call_quiet name (each (λ t. t.judge s) xs).it (all_quiet s w xs (firsts (λ x y z. Exprs x) Exprs (λ x y z r. r) xs ys zs r) both.1);
  count_rows = λ s w c p. refl;
  scalar = λ x y z k s w c. quiet_is _ _ (eq.of_scalar finding (x s).it.it) (k s w c);
  exists = λ x y z k s w c. quiet_is _ _ (eq.of_exists finding (x s).it.it) (k s w c);
  table = λ name columns s level w c. table_quiet s w name (s.table name);
  sub = λ x y z lateral k columns s level w c. quiet_is _ _ (eq.of_sub finding (x (inside (n.before lateral level) s)).it.it lateral)
      (k (inside (n.before lateral level) s) w c);
  from = λ x y z alias columns k s level w c.
      let both = clean_parts (n.part_note s alias columns) (x columns s level).note c in
      k columns s level w both.1;
  item = λ x y z alias k s w c. k s w (clean_parts (n.maybe_written s alias) (x.judge s).note c).1;
  key = λ x y z descending k aliases s w c. k s w (clean_parts (breaks rule.Ambiguity (n.is_alias aliases x.alone)) (x.judge s).note c).1;
  select = λ l₁ l₂ l₃ f₁ f₂ f₃ w₁ w₂ w₃ o₁ o₂ o₃ m₁ m₂ m₃ lr fr wr kr mr.
      listing_quiet l₁ f₁ w₁ o₁ m₁ (firsts (λ x y z. Items x) Items (λ x y z r. r) l₁ l₂ l₃ lr) (firsts (λ x y z. Froms x) Froms (λ x y z r. r) f₁ f₂ f₃ fr)
      (λ s w. option s w w₁ w₂ w₃ wr) (firsts (λ x y z. Keys x) Keys (λ x y z r. r) o₁ o₂ o₃ kr) (λ s w. option s w m₁ m₂ m₃ mr);
  recursive = λ name columns xs ys zs x y z r k. tt;
  query = λ x y z xs ys zs h r s w c. whole_quiet xs (firsts (λ x y z. Selects x) Selects (λ x y z r. r) xs ys zs r) (is_some x) s w c;
}
  where
    option : (s : Scope) (w : s.in_function ≡ true) (x y z : Option n.Term) → AlikeOption (λ x y z. Exprs x) x y z → MaybeExprs s w x
    option s w None None None r = tt
    option s w (Some x) (Some y) (Some z) r = r
    option s w _ _ _ r = absurd r

pub named_quiet : (e : Expr) (s : Scope) → s.in_function ≡ true → Clean (named_expr e s).note → IsQuiet (named_expr e s).it
unfolding named_expr
named_quiet e s w c = expr_related naming naming naming relation steps e s w c
