-- In every tree whose names are resolved and break no rule, the slots are those of the scope's variables.
use Rattle.std.proofs.Common.{◌≡◌, sym, ap, subst, ℕ, suc, Bool, List, [], ◌∷◌, ◌++◌, map, fold, Option, Some, None, option_map}
use Rattle.std.specs.Prelude.{is_some}
use Rattle.std.specs.List.{flat_map}
use Rattle.away_values.specs.declared.operators.ChainOp.{ChainOp}
use Rattle.away_trees.specs.declared.queries.Expr.{Expr}
use Rattle.away_trees.specs.declared.queries.Expr.TheVariants as expr
use Rattle.away_trees.specs.declared.queries.Item.{Item}
use Rattle.away_trees.specs.declared.queries.FromItem.{FromItem}
use Rattle.away_trees.specs.declared.queries.Key.{Key}
use Rattle.away_trees.specs.declared.queries.Select.{Select}
use Rattle.away_trees.specs.Algebra.{expr_of, from_of, item_of, key_of, select_of, query_of}
use Rattle.away_trees.proofs.Equations as eq
use Rattle.away_names.specs.declared.rule.Rule.TheVariants as rule
use Rattle.away_names.specs.declared.note.Noted.{Noted}
use Rattle.away_names.specs.declared.note.Shown.{Shown}
use Rattle.away_names.specs.declared.note.Framed.{Framed}
use Rattle.away_names.specs.declared.scope.Listed.{Listed}
use Rattle.away_names.specs.declared.scope.Variable.{Variable}
use Rattle.away_names.specs.Notes.{pure, joined, breaks, each, held}
use Rattle.away_names.specs.Lookups.{Name, Level, Scope, inside}
use Rattle.away_names.specs.Naming as n
use Rattle.away_names.specs.Naming.{naming}
use Rattle.sql_meaning.specs.Reads.{reading, Reads, of_list, of_option}
use Rattle.sql_meaning.proofs.Related.{Alike, AlikeOption, AlikeLink, AlikeArm, Relation, IsKept, expr_related, select_related}
use Rattle.plsql_meaning.specs.Sight as into
use Rattle.type_soundness.specs.Sorts.{Every}
use Rattle.type_soundness.proofs.CleanNotes.{Clean, clean_parts, not_broken}
use Rattle.type_soundness.proofs.Lists.{every_append}
use Rattle.function_facts.specs.InSight.{IsSeen}
use Rattle.function_facts.proofs.Names.{every_flat, slots_of, Sees, SeesAt, SeesExpr, SeesSource, named_seen, qualified_seen, every_each}
use Rattle.function_facts.proofs.WholeSelects.{whole_reads}

-- ---- what holds of each kind of node

abbrev Exprs : n.Term → Type 0
Exprs t = (s : Scope) → Clean (t.judge s).note → SeesExpr s.variables (t.judge s).it

abbrev Sources : n.Rows → Type 0
Sources r = (columns : List Name) (s : Scope) (level : Level) → Clean (r columns s level).note → SeesSource s.variables (r columns s level).it.source

abbrev Froms : n.Piece → Type 0
Froms f = (s : Scope) (level : Level) → Clean (f.judge s level).note → SeesAt s.variables (from_of reading (f.judge s level).it.item)

abbrev Items : n.Entry → Type 0
Items i = (s : Scope) → Clean (i.judge s).note → SeesAt s.variables (item_of reading (i.judge s).it.it)

abbrev Keys : n.Sort → Type 0
Keys k = (aliases : List (Option Name)) (s : Scope) → Clean (k aliases s).note → SeesAt s.variables (key_of reading (k aliases s).it)

abbrev Queries : n.Whole → Type 0
Queries w = (s : Scope) → Clean (w s).note → SeesAt s.variables (query_of reading (w s).it.it)

abbrev Selects : n.Listing → Type 0
Selects l = (s : Scope) → Clean (l s).note → SeesAt s.variables (select_of reading (l s).it.it)

abbrev relation : Relation naming naming naming
relation = record {
  Exprs = λ x y z. Exprs x;
  Sources = λ x y z. Sources x;
  Froms = λ x y z. Froms x;
  Items = λ x y z. Items x;
  Keys = λ x y z. Keys x;
  Queries = λ x y z. Queries x;
  Recursives = λ x y z. Unit {0};
  Selects = λ x y z. Selects x;
}

pub firsts : {X Y Z : Type 0} (R : X → Y → Z → Type 0) (P : X → Type 0) → ((x : X) (y : Y) (z : Z) → R x y z → P x) → (xs : List X) (ys : List Y) (zs : List Z) → Alike R xs ys zs → Every P xs
firsts R P go [] [] [] r = tt
firsts R P go (x ∷ xs) (y ∷ ys) (z ∷ zs) r = (go x y z r.0, firsts R P go xs ys zs r.1)
firsts R P go _ _ _ r = absurd r

-- ---- expressions

by_reads : (vs : List Variable) (r q : Reads) → r ≡ q → SeesAt vs q → SeesAt vs r
by_reads vs r q e h d = subst (λ x. Sees vs (x d)) (sym e) (h d)

two : (vs : List Variable) (a b : Reads) → SeesAt vs a → SeesAt vs b → SeesAt vs (λ d. a d ++ b d)
two vs a b h k d = every_append (IsSeen (slots_of vs)) (a d) (b d) (h d) (k d)

-- of lists whose members see at each place
flat : {A : Type 0} (vs : List Variable) (part : A → Reads) (xs : List A) → Every (λ x. SeesAt vs (part x)) xs → SeesAt vs (λ d. flat_map (λ r. r d) (map part xs))
flat {A} vs part xs h d = every_flat (IsSeen (slots_of vs)) (λ (r : Reads). r d) part xs (at xs h)
  where
    at : (xs : List A) → Every (λ x. SeesAt vs (part x)) xs → Every (λ x. Sees vs (part x d)) xs
    at [] h = tt
    at (x ∷ xs) h = (h.0 d, at xs h.1)

module _ (s : Scope) where
  abbrev ExprsSeen : List Expr → Type 0
  ExprsSeen = Every (λ e. SeesExpr s.variables e)

  abbrev LinksSeen : List (ChainOp × Expr) → Type 0
  LinksSeen = Every (λ (l : ChainOp × Expr). SeesExpr s.variables l.1)

  abbrev ArmsSeen : List (Expr × Expr) → Type 0
  ArmsSeen = Every (λ (a : Expr × Expr). SeesExpr s.variables a.0 × SeesExpr s.variables a.1)

  each_of : {A B : Type 0} (P : A → Type 0) (Q : B → Type 0) (f : A → Noted B) → ((x : A) → P x → Clean (f x).note → Q (f x).it) → (xs : List A) → Every P xs → Clean (each f xs).note → Every Q (each f xs).it
  each_of {A} P Q f go xs h c = every_each Q f xs (all xs h) (pure []) (λ c. tt) c
    where
      all : (xs : List A) → Every P xs → Every (λ x. Clean (f x).note → Q (f x).it) xs
      all [] h = tt
      all (x ∷ xs) h = (λ c. go x h.0 c, all xs h.1)

  all_seen : (ts : List n.Term) → Every Exprs ts → Clean (each (λ t. t.judge s) ts).note → ExprsSeen (each (λ t. t.judge s) ts).it
  all_seen ts h c = each_of Exprs (λ e. SeesExpr s.variables e) (λ t. t.judge s) (λ t g c. g s c) ts h c

  links_seen : (ls : List (ChainOp × n.Term)) → Every (λ (l : ChainOp × n.Term). Exprs l.1) ls → Clean (each (n.linked s) ls).note → LinksSeen (each (n.linked s) ls).it
  links_seen ls h c = each_of (λ (l : ChainOp × n.Term). Exprs l.1) (λ (l : ChainOp × Expr). SeesExpr s.variables l.1) (n.linked s) (λ l g c. g s c) ls h c

  arms_seen : (as_ : List (n.Term × n.Term)) → Every (λ (a : n.Term × n.Term). Exprs a.0 × Exprs a.1) as_ → Clean (each (n.armed s) as_).note → ArmsSeen (each (n.armed s) as_).it
  arms_seen as_ h c =
      each_of (λ (a : n.Term × n.Term). Exprs a.0 × Exprs a.1) (λ (a : Expr × Expr). SeesExpr s.variables a.0 × SeesExpr s.variables a.1) (n.armed s)
      (λ a g c. let both = clean_parts (a.0.judge s).note (a.1.judge s).note c in (g.0 s both.0, g.1 s both.1)) as_ h c

  abbrev MaybeSeen : Option Expr → Type 0
  MaybeSeen None = Unit {0}
  MaybeSeen (Some e) = SeesExpr s.variables e

  abbrev MaybeExprs : Option n.Term → Type 0
  MaybeExprs None = Unit {0}
  MaybeExprs (Some t) = Exprs t

  held_seen : (o : Option n.Term) → MaybeExprs o → Clean (held (λ t. t.judge s) o).note → MaybeSeen (held (λ t. t.judge s) o).it
  held_seen None h c = tt
  held_seen (Some t) h c = h s c

  maybe_reads : (o : Option Expr) → MaybeSeen o → SeesAt s.variables (λ d. of_option d (option_map (λ e. expr_of reading e) o))
  maybe_reads None h d = tt
  maybe_reads (Some e) h d = h d

  -- ---- nodes

  chain_seen : (e : Expr) (ls : List (ChainOp × Expr)) → SeesExpr s.variables e → LinksSeen ls → SeesExpr s.variables (expr.Chain e ls)
  chain_seen e ls h k =
      by_reads s.variables (expr_of reading (expr.Chain e ls)) _ (eq.of_chain reading e ls)
      (λ d. every_append (IsSeen (slots_of s.variables)) (expr_of reading e d) _ (h d)
      (every_flat (IsSeen (slots_of s.variables)) (λ (l : ChainOp × Reads). l.1 d) (λ l. eq.link_of reading l) ls (at ls k d)))
    where
      at : (ls : List (ChainOp × Expr)) → LinksSeen ls → (d : ℕ) → Every (λ (l : ChainOp × Expr). Sees s.variables (expr_of reading l.1 d)) ls
      at [] k d = tt
      at (l ∷ ls) k d = (k.0 d, at ls k.1 d)

  cases_seen : (as_ : List (Expr × Expr)) (o : Option Expr) → ArmsSeen as_ → MaybeSeen o → SeesExpr s.variables (expr.Cases as_ o)
  cases_seen as_ o h k =
      by_reads s.variables (expr_of reading (expr.Cases as_ o)) _ (eq.of_cases reading as_ o)
      (λ d. every_append (IsSeen (slots_of s.variables)) _ (of_option d (option_map (λ e. expr_of reading e) o))
      (every_flat (IsSeen (slots_of s.variables)) (λ (a : Reads × Reads). a.0 d ++ a.1 d) (λ a. eq.arm_of reading a) as_ (at as_ h d)) (maybe_reads o k d))
    where
      at : (as_ : List (Expr × Expr)) → ArmsSeen as_ → (d : ℕ) → Every (λ (a : Expr × Expr). Sees s.variables (expr_of reading a.0 d ++ expr_of reading a.1 d)) as_
      at [] h d = tt
      at (a ∷ as_) h d = (every_append (IsSeen (slots_of s.variables)) (expr_of reading a.0 d) (expr_of reading a.1 d) (h.0.0 d) (h.0.1 d), at as_ h.1 d)

  one_of_seen : (v : Bool) (e : Expr) (es : List Expr) → SeesExpr s.variables e → ExprsSeen es → SeesExpr s.variables (expr.OneOf v e es)
  one_of_seen v e es h k =
      by_reads s.variables (expr_of reading (expr.OneOf v e es)) _ (eq.of_oneof reading v e es)
      (two s.variables (expr_of reading e) (λ d. of_list d (map (λ x. expr_of reading x) es)) h (flat s.variables (λ x. expr_of reading x) es k))

  call_seen : (name : Name) (es : List Expr) → ExprsSeen es → SeesExpr s.variables (expr.Call name es)
  call_seen name es k =
      by_reads s.variables (expr_of reading (expr.Call name es)) _ (eq.of_call reading name es) (flat s.variables (λ x. expr_of reading x) es k)

-- ---- FROM

module _ (s : Scope) where
  table_seen : (x : Name) (t : Option Listed) → SeesSource s.variables (n.of_table x t).it.source
  unfolding n.of_table
  table_seen x None columns d = (tt, tt)
  table_seen x (Some t) columns d = (tt, tt)

  abbrev FromSeen : FromItem → Type 0
  FromSeen f = SeesAt s.variables (from_of reading f)

  framed_seen : (fs : List n.Piece) → Every Froms fs → (acc : Noted Framed) → (Clean acc.note → Every FromSeen acc.it.items) → Clean (fold (λ a f. n.with_part a (f.judge s a.it.seen)) acc fs).note → Every FromSeen (fold (λ a f. n.with_part a (f.judge s a.it.seen)) acc fs).it.items
  framed_seen [] h acc g c = g c
  framed_seen (f ∷ fs) h acc g c =
      framed_seen fs h.1 (n.with_part acc (f.judge s acc.it.seen))
      (λ c. let both = clean_parts acc.note (f.judge s acc.it.seen).note c in every_append FromSeen acc.it.items ((f.judge s acc.it.seen).it.item ∷ []) (g both.0) (h.0 s acc.it.seen both.1, tt)) c

  -- ---- lists

  abbrev ItemSeen : Item → Type 0
  ItemSeen i = SeesAt s.variables (item_of reading i)

  items_seen : (is : List n.Entry) → Every Items is → (acc : Noted (Shown (List Item))) → (Clean acc.note → Every ItemSeen acc.it.it) → Clean (fold (λ a i. n.with_item a (i.judge s)) acc is).note → Every ItemSeen (fold (λ a i. n.with_item a (i.judge s)) acc is).it.it
  items_seen [] h acc g c = g c
  items_seen (i ∷ is) h acc g c =
      items_seen is h.1 (n.with_item acc (i.judge s))
      (λ c. let both = clean_parts acc.note (i.judge s).note c in every_append ItemSeen acc.it.it ((i.judge s).it.it ∷ []) (g both.0) (h.0 s both.1, tt)) c

  abbrev KeySeen : Key → Type 0
  KeySeen k = SeesAt s.variables (key_of reading k)

  keys_seen : (aliases : List (Option Name)) (ks : List n.Sort) → Every Keys ks → Clean (each (λ k. k aliases s) ks).note → Every KeySeen (each (λ k. k aliases s) ks).it
  keys_seen aliases ks h c = each_of s Keys KeySeen (λ k. k aliases s) (λ k g c. g aliases s c) ks h c

  abbrev SelectSeen : Select → Type 0
  SelectSeen x = SeesAt s.variables (select_of reading x)

  selects_seen : (ls : List n.Listing) → Every Selects ls → (acc : Noted (Shown (List Select))) → (Clean acc.note → Every SelectSeen acc.it.it) → Clean (fold (λ a l. n.with_select a (l s)) acc ls).note → Every SelectSeen (fold (λ a l. n.with_select a (l s)) acc ls).it.it
  selects_seen [] h acc g c = g c
  selects_seen (l ∷ ls) h acc g c =
      selects_seen ls h.1 (n.with_select acc (l s))
      (λ c. let both = clean_parts acc.note (l s).note c in every_append SelectSeen acc.it.it ((l s).it.it ∷ []) (g both.0) (h.0 s both.1, tt)) c

  -- the parts of a select stand one select further in
  select_seen : (list : List Item) (from : List FromItem) (filter : Option Expr) (order : List Key) (limit : Option Expr) → Every ItemSeen list → Every FromSeen from → MaybeSeen s filter → Every KeySeen order → MaybeSeen s limit → SeesAt s.variables (select_of reading (n.select_of from (pure (record { it = list; names = [] })) (pure filter) (pure order) (pure limit)).it.it)
  select_seen list from filter order limit a b c k m =
      by_reads s.variables _ _ (eq.of_select reading list from filter order limit)
      (λ d. let P = IsSeen (slots_of s.variables) in
      every_append P _ _ (flat s.variables (λ x. item_of reading x) list a (suc d))
      (every_append P _ _ (flat s.variables (λ x. from_of reading x) from b (suc d))
      (every_append P _ _ (maybe_reads s filter c (suc d))
      (every_append P _ _ (flat s.variables (λ x. key_of reading x) order k (suc d)) (maybe_reads s limit m (suc d))))))

-- ---- all steps

unwritten_seen : (vs : List Variable) (e : Expr) → Clean (n.unwritten e).note → SeesExpr vs (n.unwritten e).it
unfolding n.unwritten
unwritten_seen vs e c = absurd (not_broken rule.Names c)

whole_seen : (q : List n.Listing) → Every Selects q → (with_ : Bool) (s : Scope) → Clean (joined (breaks rule.Types with_) (n.united q s).note) → SeesAt s.variables (query_of reading (n.query_with (n.united q s).it).it)
whole_seen q h with_ s c =
    by_reads s.variables _ _ (eq.of_query reading (n.united q s).it.it)
    (flat s.variables (λ x. select_of reading x) (n.united q s).it.it (selects_seen s q h n.no_select (λ c. tt) (clean_parts (breaks rule.Types with_) (n.united q s).note c).1))

listing_seen : (l : List n.Entry) (f : List n.Piece) (w : Option n.Term) (o : List n.Sort) (m : Option n.Term) → Every Items l → Every Froms f → ((s : Scope) → MaybeExprs s w) → Every Keys o → ((s : Scope) → MaybeExprs s m) → Selects (n.listing (record { list = l; from = f; filter = w; order = o; limit = m }))
listing_seen l f w o m lh fh wh oh mh s c =
    let from = n.framed s f in
    let inner = inside from.it.seen s in
    let two_notes = clean_parts _ _ c in
    let from_note = clean_parts _ _ two_notes.0 in
    let over_note = clean_parts _ _ two_notes.1 in
    let first = clean_parts _ _ over_note.0 in
    let second = clean_parts _ _ over_note.1 in
    select_seen inner _ _ _ _ _ (items_seen inner l lh n.no_item (λ c. tt) first.0) (framed_seen s f fh n.no_part (λ c. tt) from_note.1) (held_seen inner w (wh inner) first.1) (keys_seen inner _ o oh second.0) (held_seen inner m (mh inner) second.1)

steps : IsKept naming naming naming relation
steps = record {
  no_expr = λ s c d. tt;
  no_query = λ s c. by_reads s.variables _ _ (eq.of_query reading []) (λ d. tt);
  int = λ x s c d. tt;
  str = λ t s c d. tt;
  bool = λ b s c d. tt;
  null = λ s c d. tt;
  named = λ t s c. named_seen t s c;
  qualified = λ t u s c. qualified_seen t u s;
  slot = λ i s c. unwritten_seen s.variables (expr.Slot i) c;
  column = λ x s c. unwritten_seen s.variables (expr.Column x) c;
  param = λ i t s c d. (tt, tt);
  neg = λ x y z k s c. by_reads s.variables _ _ (eq.of_neg reading (x.judge s).it) (k s c);
  neg_small = λ x y z k s c. by_reads s.variables _ _ (eq.of_negsmall reading (x.judge s).it) (k s c);
  not = λ x y z k s c. by_reads s.variables _ _ (eq.of_not reading (x.judge s).it) (k s c);
  is = λ x y z test negative k s c. by_reads s.variables _ _ (eq.of_is reading (x.judge s).it test negative) (k s c);
  chain = λ x y z xs ys zs k r s c.
      let both = clean_parts (x.judge s).note (each (n.linked s) xs).note c in
      chain_seen s (x.judge s).it (each (n.linked s) xs).it (k s both.0) (links_seen s xs (firsts (AlikeLink (λ x y z. Exprs x)) (λ (l : ChainOp × n.Term). Exprs l.1) (λ x y z r. r.2) xs ys zs r) both.1);
  compare = λ op x₁ x₂ y₁ y₂ z₁ z₂ k₁ k₂ s c.
      let both = clean_parts (x₁.judge s).note (x₂.judge s).note c in
      by_reads s.variables _ _ (eq.of_compare reading op (x₁.judge s).it (x₂.judge s).it) (two s.variables (expr_of reading (x₁.judge s).it) (expr_of reading (x₂.judge s).it) (k₁ s both.0) (k₂ s both.1));
  between = λ v x₁ x₂ x₃ y₁ y₂ y₃ z₁ z₂ z₃ k₁ k₂ k₃ s c.
      let both = clean_parts (x₁.judge s).note (joined (x₂.judge s).note (x₃.judge s).note) c in
      let more = clean_parts (x₂.judge s).note (x₃.judge s).note both.1 in
      by_reads s.variables _ _ (eq.of_between reading v (x₁.judge s).it (x₂.judge s).it (x₃.judge s).it)
      (two s.variables (expr_of reading (x₁.judge s).it) (λ d. expr_of reading (x₂.judge s).it d ++ expr_of reading (x₃.judge s).it d) (k₁ s both.0)
      (two s.variables (expr_of reading (x₂.judge s).it) (expr_of reading (x₃.judge s).it) (k₂ s more.0) (k₃ s more.1)));
  one_of = λ v x y z xs ys zs k r s c.
      let both = clean_parts (x.judge s).note (each (λ t. t.judge s) xs).note c in
      one_of_seen s v (x.judge s).it (each (λ t. t.judge s) xs).it (k s both.0) (all_seen s xs (firsts (λ x y z. Exprs x) Exprs (λ x y z r. r) xs ys zs r) both.1);
  cast = λ x y z t k s c. by_reads s.variables _ _ (eq.of_cast reading (x.judge s).it t) (k s c);
  cases = λ xs ys zs x y z r k s c.
      let both = clean_parts (each (n.armed s) xs).note (held (λ t. t.judge s) x).note c in
      cases_seen s (each (n.armed s) xs).it (held (λ t. t.judge s) x).it
      (arms_seen s xs (firsts (AlikeArm (λ x y z. Exprs x)) (λ (a : n.Term × n.Term). Exprs a.0 × Exprs a.1) (λ x y z r. r) xs ys zs r) both.0)
      (held_seen s x (option s x y z k) both.1);
  call = λ name xs ys zs r s c.
      let both = clean_parts (n.called s name) (each (λ t. t.judge s) xs).note c in
      call_seen s name (each (λ t. t.judge s) xs).it (all_seen s xs (firsts (λ x y z. Exprs x) Exprs (λ x y z r. r) xs ys zs r) both.1);
  count_rows = λ s c d. tt;
  scalar = λ x y z k s c. by_reads s.variables _ _ (eq.of_scalar reading (x s).it.it) (k s c);
  exists = λ x y z k s c. by_reads s.variables _ _ (eq.of_exists reading (x s).it.it) (k s c);
  table = λ name columns s level c. table_seen s name (s.table name);
  sub = λ x y z lateral k columns s level c cs. by_reads s.variables _ _ (ap (λ r. r cs) (eq.of_sub reading (x (inside (n.before lateral level) s)).it.it lateral)) (k (inside (n.before lateral level) s) c);
  from = λ x y z alias columns k s level c d.
      let both = clean_parts (n.part_note s alias columns) (x columns s level).note c in
      k columns s level both.1 (x columns s level).it.columns d;
  item = λ x y z alias k s c. k s (clean_parts (n.maybe_written s alias) (x.judge s).note c).1;
  key = λ x y z descending k aliases s c. k s (clean_parts (breaks rule.Ambiguity (n.is_alias aliases x.alone)) (x.judge s).note c).1;
  select = λ l₁ l₂ l₃ f₁ f₂ f₃ w₁ w₂ w₃ o₁ o₂ o₃ m₁ m₂ m₃ lr fr wr kr mr.
      listing_seen l₁ f₁ w₁ o₁ m₁ (firsts (λ x y z. Items x) Items (λ x y z r. r) l₁ l₂ l₃ lr) (firsts (λ x y z. Froms x) Froms (λ x y z r. r) f₁ f₂ f₃ fr) (λ s. option s w₁ w₂ w₃ wr) (firsts (λ x y z. Keys x) Keys (λ x y z r. r) o₁ o₂ o₃ kr) (λ s. option s m₁ m₂ m₃ mr);
  recursive = λ name columns xs ys zs x y z r k. tt;
  query = λ x y z xs ys zs h r s c. whole_seen xs (firsts (λ x y z. Selects x) Selects (λ x y z r. r) xs ys zs r) (is_some x) s c;
}
  where
    option : (s : Scope) (x y z : Option n.Term) → AlikeOption (λ x y z. Exprs x) x y z → MaybeExprs s x
    option s None None None r = tt
    option s (Some x) (Some y) (Some z) r = r
    option s _ _ _ r = absurd r

pub expr_seen : (e : Expr) (s : Scope) → Clean ((expr_of naming e).judge s).note → SeesExpr s.variables ((expr_of naming e).judge s).it
expr_seen e = expr_related naming naming naming relation steps e

-- the select of a SELECT INTO
pub into_seen : (x : Select) (s : Scope) → Clean (select_of naming x s).note → SeesExpr s.variables (into.query_of (select_of naming x s).it.it)
into_seen x s c = λ d. whole_reads (IsSeen (slots_of s.variables)) (select_of naming x s).it.it d (select_related naming naming naming relation steps x s c d)
