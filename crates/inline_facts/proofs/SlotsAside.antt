-- A tree whose names are resolved where no variable is in sight, and break no rule, is marked the same whatever types the slots have.
use Rattle.std.proofs.Common.{◌≡◌, refl, sym, ap, ◌∙◌, Bool, ℕ, List, [], ◌∷◌, ◌++◌, map, fold, Option, Some, None, option_map}
use Rattle.std.specs.Prelude.{is_some}
use Rattle.away_values.specs.declared.types.Ty.{Ty}
use Rattle.away_values.specs.declared.types.Ty.TheVariants.{Boolean}
use Rattle.away_values.specs.declared.operators.ChainOp.{ChainOp}
use Rattle.away_trees.specs.declared.queries.Expr.{Expr}
use Rattle.away_trees.specs.declared.queries.Expr.TheVariants as expr
use Rattle.away_trees.specs.declared.queries.Expr.TheViews.{roll-FromItem, roll-Item, roll-Key, roll-Query}
use Rattle.away_trees.specs.declared.queries.Item.{Item}
use Rattle.away_trees.specs.declared.queries.FromItem.{FromItem}
use Rattle.away_trees.specs.declared.queries.Key.{Key}
use Rattle.away_trees.specs.declared.queries.Source.{Source}
use Rattle.away_trees.specs.declared.queries.Source.TheVariants as source
use Rattle.away_trees.specs.declared.queries.Query.{Query}
use Rattle.away_trees.specs.declared.queries.Select.{Select}
use Rattle.away_trees.specs.Algebra.{expr_of, source_of, from_of, item_of, key_of, select_of, query_of}
use Rattle.away_trees.proofs.Equations as eq
use Rattle.away_names.specs.declared.rule.Rule.TheVariants as rule
use Rattle.away_names.specs.declared.note.Noted.{Noted}
use Rattle.away_names.specs.declared.note.Shown.{Shown}
use Rattle.away_names.specs.declared.note.Framed.{Framed}
use Rattle.away_names.specs.declared.scope.Hit.{Hit}
use Rattle.away_names.specs.declared.scope.Listed.{Listed}
use Rattle.away_names.specs.declared.scope.Variable.{Variable}
use Rattle.away_names.specs.Notes.{pure, joined, breaks, each, held}
use Rattle.away_names.specs.Lookups.{Name, Level, Scope, inside, column_named, column_qualified, variable_named}
use Rattle.away_names.specs.Naming as n
use Rattle.away_names.specs.Naming.{naming}
use Rattle.away_names.specs.Trees.{named_select}
use Rattle.away_names.specs.Functions.{function}
use Rattle.away_typing.specs.Kinds.{common, fits, is_right, meet, only_if, settled}
use Rattle.away_typing.specs.Typing as t
use Rattle.away_typing.specs.Typing.{Frame, Places, shape_of}
use Rattle.elaboration.specs.Elaborating.{MadeExpr, MadeFrom, MadeSelect, columns_or_none, elaborating, frame_made, frame_or_none, made, negated, chain_made, parts_made, select_trees, selected, selected_in, union_made}
use Rattle.elaboration.specs.Elaborating as el
use Rattle.sql_meaning.proofs.Related.{AlikeOption, AlikeLink, AlikeArm, Relation, IsKept, select_related}
use Rattle.type_soundness.specs.Sorts.{Every}
use Rattle.type_soundness.proofs.CleanNotes.{Clean, clean_parts, not_broken}
use Rattle.type_soundness.proofs.Lists.{every_append}
use Rattle.function_facts.proofs.Names.{every_each}
use Rattle.function_facts.proofs.TreesInSight.{firsts}

-- ---- what is the same

abbrev pub at : List Ty → List Frame → List (List Ty) → Places
at slots frames tables = record { slots = slots; frames = frames; tables = tables }

-- by any types of the slots
abbrev pub Same : {M : Type 0} → (Places → M) → Type 0
Same m = (a b : List Ty) (frames : List Frame) (tables : List (List Ty)) → m (at a frames tables) ≡ m (at b frames tables)

abbrev pub SameExpr : Expr → Type 0
SameExpr e = Same (expr_of elaborating e)

abbrev SameSource : Source → Type 0
SameSource x = (columns : List (List ℕ)) (frame : Frame) → Same (λ p. source_of elaborating x columns p frame)

abbrev SameFrom : FromItem → Type 0
SameFrom f = (frame : Frame) → Same (λ p. from_of elaborating f p frame)

abbrev SameItem : Item → Type 0
SameItem i = Same (item_of elaborating i)

abbrev SameKey : Key → Type 0
SameKey k = Same (key_of elaborating k)

abbrev SameQuery : Query → Type 0
SameQuery q = Same (query_of elaborating q)

abbrev pub SameSelect : Select → Type 0
SameSelect x = Same (select_of elaborating x)

by_steps : {M : Type 0} (m k : Places → M) → m ≡ k → Same k → Same m
by_steps {M} m k e h a b frames tables = ap (λ (f : Places → M). f (at a frames tables)) e ∙ (h a b frames tables ∙ sym (ap (λ (f : Places → M). f (at b frames tables)) e))

-- ---- lists of parts

all_same : {A M : Type 0} (part : A → Places → M) (xs : List A) → Every (λ x. Same (part x)) xs → Same (λ p. map (λ m. m p) (map part xs))
all_same part [] h a b frames tables = refl
all_same part (x ∷ xs) h a b frames tables = λ i. h.0 a b frames tables i ∷ all_same part xs h.1 a b frames tables i

abbrev LinksSame : List (ChainOp × Expr) → Type 0
LinksSame = Every (λ (l : ChainOp × Expr). SameExpr l.1)

links_same : (ls : List (ChainOp × Expr)) → LinksSame ls → Same (λ p. map {B = ChainOp × MadeExpr} (λ (l : ChainOp × el.Making). (l.0, l.1 p)) (map (λ l. eq.link_of elaborating l) ls))
links_same [] h a b frames tables = refl
links_same (l ∷ ls) h a b frames tables = λ i. (l.0, h.0 a b frames tables i) ∷ links_same ls h.1 a b frames tables i

abbrev ArmsSame : List (Expr × Expr) → Type 0
ArmsSame = Every (λ (a : Expr × Expr). SameExpr a.0 × SameExpr a.1)

arms_same : (as_ : List (Expr × Expr)) → ArmsSame as_ → Same (λ p. map {B = MadeExpr × MadeExpr} (λ (arm : el.Making × el.Making). (arm.0 p, arm.1 p)) (map (λ a. eq.arm_of elaborating a) as_))
arms_same [] h a b frames tables = refl
arms_same (arm ∷ more) h a b frames tables = λ i. (h.0.0 a b frames tables i, h.0.1 a b frames tables i) ∷ arms_same more h.1 a b frames tables i

abbrev MaybeSame : Option Expr → Type 0
MaybeSame None = Unit {0}
MaybeSame (Some e) = SameExpr e

maybe_same : (o : Option Expr) → MaybeSame o → Same (λ p. option_map (λ (m : el.Making). m p) (option_map (λ e. expr_of elaborating e) o))
maybe_same None h a b frames tables = refl
maybe_same (Some e) h a b frames tables = ap Some (h a b frames tables)

-- each item of FROM sees those before it
parts_same : (fs : List FromItem) → Every SameFrom fs → (frame : Frame) → Same (λ p. parts_made p (map (λ f. from_of elaborating f) fs) frame)
parts_same [] h frame a b frames tables = refl
parts_same (f ∷ fs) h frame a b frames tables =
    ap (λ (x : MadeFrom). x ∷ parts_made (at a frames tables) (map (λ f. from_of elaborating f) fs) (frame ++ columns_or_none x.shape ∷ [])) (h.0 frame a b frames tables)
    ∙ ap (λ (xs : List MadeFrom). from_of elaborating f (at b frames tables) frame ∷ xs)
    (parts_same fs h.1 (frame ++ columns_or_none (from_of elaborating f (at b frames tables) frame).shape ∷ []) a b frames tables)

-- ---- nodes

one_of_same : (v : Bool) (e : Expr) (es : List Expr) → SameExpr e → Every SameExpr es → SameExpr (expr.OneOf v e es)
one_of_same v e es h k = by_steps _ _ (eq.of_oneof elaborating v e es)
    (λ a b frames tables i.
    let xs = all_same (λ e. expr_of elaborating e) es k a b frames tables i in
    let x = h a b frames tables i in
    el.truth (is_right (meet x.kind (common (el.kinds_of xs)))) (expr.OneOf v x.it (el.trees_of xs)))

cases_same : (as_ : List (Expr × Expr)) (o : Option Expr) → ArmsSame as_ → MaybeSame o → SameExpr (expr.Cases as_ o)
cases_same as_ o h k = by_steps _ _ (eq.of_cases elaborating as_ o)
    (λ a b frames tables i.
    let xs = arms_same as_ h a b frames tables i in
    let y = maybe_same o k a b frames tables i in
    made (only_if (el.tested xs) (settled (meet (el.chosen xs) (el.other_kind y)))) (expr.Cases (el.arm_trees xs) (el.option_tree y)))

call_same : (name : Name) (es : List Expr) → Every SameExpr es → SameExpr (expr.Call name es)
call_same name es k = by_steps _ _ (eq.of_call elaborating name es)
    (λ a b frames tables i.
    let xs = all_same (λ e. expr_of elaborating e) es k a b frames tables i in
    made (t.called (function name) (el.kinds_of xs)) (expr.Call name (el.trees_of xs)))

chain_same : (e : Expr) (ls : List (ChainOp × Expr)) → SameExpr e → LinksSame ls → SameExpr (expr.Chain e ls)
chain_same e ls h k = by_steps _ _ (eq.of_chain elaborating e ls)
    (λ a b frames tables i. chain_made (h a b frames tables i) (links_same ls k a b frames tables i))

query_same : (ss : List Select) → Every SameSelect ss → SameQuery (roll-Query (record { recursive = None; selects = ss }))
query_same ss h = by_steps _ _ (eq.of_query elaborating ss)
    (λ a b frames tables i.
    let xs = all_same (λ x. select_of elaborating x) ss h a b frames tables i in
    record { shape = shape_of (union_made xs); it = roll-Query (record { recursive = None; selects = select_trees xs }) })

select_same : (list : List Item) (from : List FromItem) (filter : Option Expr) (order : List Key) (limit : Option Expr)
    → Every SameItem list → Every SameFrom from → MaybeSame filter → Every SameKey order → MaybeSame limit
    → SameSelect (n.select_of from (pure (record { it = list; names = [] })) (pure filter) (pure order) (pure limit)).it.it
select_same list from filter order limit lh fh wh oh mh = by_steps _ _ (eq.of_select elaborating list from filter order limit)
    (λ a b frames tables.
    let parts : List el.Parting = map (λ f. from_of elaborating f) from in
    let xs = parts_made (at b frames tables) parts [] in
    let frame = frame_made xs [] in
    let inner = frame_or_none frame ∷ frames in
    ap (λ (xs : List MadeFrom). selected_in (t.inside (frame_or_none (frame_made xs [])) (at a frames tables)) xs (frame_made xs [])
    (record {
      list = map (λ x. item_of elaborating x) list;
      from = parts;
      filter = option_map (λ e. expr_of elaborating e) filter;
      order = map (λ x. key_of elaborating x) order;
      limit = option_map (λ e. expr_of elaborating e) limit;
    })) (parts_same from fh [] a b frames tables)
    ∙ (λ i. selected xs frame (all_same (λ x. item_of elaborating x) list lh a b inner tables i) (maybe_same filter wh a b inner tables i)
    (all_same (λ x. key_of elaborating x) order oh a b inner tables i) (maybe_same limit mh a b inner tables i)))

-- ---- names

abbrev Bare : Scope → Type 0
Bare s = s.variables ≡ []

no_variable : (x : Name) (vs : List Variable) → vs ≡ [] → variable_named x vs ≡ None
unfolding variable_named
no_variable x [] e = refl
no_variable x (v ∷ vs) e = cc

slot_or_same : (x : Name) (o : Option Variable) → o ≡ None → SameExpr (n.slot_or x o).it
unfolding n.slot_or
slot_or_same x None e = λ a b frames tables. refl
slot_or_same x (Some v) e = cc

named_by_same : (x : Name) (hit : Option Hit) (o : Option Variable) → o ≡ None → SameExpr (n.named_by x hit o).it
unfolding n.named_by
named_by_same x (Some hit) o e = λ a b frames tables. refl
named_by_same x None o e = slot_or_same x o e

name_same : (x : Name) (s : Scope) → Bare s → SameExpr (n.named x s).it
unfolding n.named
name_same x s w = named_by_same x (column_named x s.levels) (variable_named x s.variables) (no_variable x s.variables w)

qualified_by_same : (a x : Name) (hit : Option Hit) → SameExpr (n.qualified_by a x hit).it
unfolding n.qualified_by
qualified_by_same y x (Some hit) a b frames tables = refl
qualified_by_same y x None a b frames tables = refl

qualified_same : (a x : Name) (s : Scope) → SameExpr (n.qualified a x s).it
unfolding n.qualified
qualified_same a x s = qualified_by_same a x (column_qualified a x s.levels)

unwritten_same : (e : Expr) → Clean (n.unwritten e).note → SameExpr (n.unwritten e).it
unfolding n.unwritten
unwritten_same e c = absurd (not_broken rule.Names c)

table_same : (x : Name) (o : Option Listed) → SameSource (n.of_table x o).it.source
unfolding n.of_table
table_same x None columns frame a b frames tables = refl
table_same x (Some l) columns frame a b frames tables = refl

-- ---- what holds of each kind of node

abbrev Exprs : n.Term → Type 0
Exprs t = (s : Scope) → Bare s → Clean (t.judge s).note → SameExpr (t.judge s).it

abbrev Sources : n.Rows → Type 0
Sources r = (columns : List Name) (s : Scope) (level : Level) → Bare s → Clean (r columns s level).note → SameSource (r columns s level).it.source

abbrev Froms : n.Piece → Type 0
Froms f = (s : Scope) (level : Level) → Bare s → Clean (f.judge s level).note → SameFrom (f.judge s level).it.item

abbrev Items : n.Entry → Type 0
Items i = (s : Scope) → Bare s → Clean (i.judge s).note → SameItem (i.judge s).it.it

abbrev Keys : n.Sort → Type 0
Keys k = (aliases : List (Option Name)) (s : Scope) → Bare s → Clean (k aliases s).note → SameKey (k aliases s).it

abbrev Queries : n.Whole → Type 0
Queries w = (s : Scope) → Bare s → Clean (w s).note → SameQuery (w s).it.it

abbrev Selects : n.Listing → Type 0
Selects l = (s : Scope) → Bare s → Clean (l s).note → SameSelect (l s).it.it

abbrev relation : Relation naming naming naming
relation = record {
  Exprs = λ x y z. Exprs x;
  Sources = λ x y z. Sources x;
  Froms = λ x y z. Froms x;
  Items = λ x y z. Items x;
  Keys = λ x y z. Keys x;
  Queries = λ x y z. Queries x;
  Recursives = λ x y z. Unit {0};
  Selects = λ x y z. Selects x;
}

module _ (s : Scope) (w : Bare s) where
  each_of : {A B : Type 0} (P : A → Type 0) (Q : B → Type 0) (f : A → Noted B) → ((x : A) → P x → Clean (f x).note → Q (f x).it) → (xs : List A) → Every P xs → Clean (each f xs).note → Every Q (each f xs).it
  each_of {A} P Q f go xs h c = every_each Q f xs (all xs h) (pure []) (λ c. tt) c
    where
      all : (xs : List A) → Every P xs → Every (λ x. Clean (f x).note → Q (f x).it) xs
      all [] h = tt
      all (x ∷ xs) h = (λ c. go x h.0 c, all xs h.1)

  exprs_named : (ts : List n.Term) → Every Exprs ts → Clean (each (λ t. t.judge s) ts).note → Every SameExpr (each (λ t. t.judge s) ts).it
  exprs_named ts h c = each_of Exprs SameExpr (λ t. t.judge s) (λ t g c. g s w c) ts h c

  links_named : (ls : List (ChainOp × n.Term)) → Every (λ (l : ChainOp × n.Term). Exprs l.1) ls → Clean (each (n.linked s) ls).note → LinksSame (each (n.linked s) ls).it
  links_named ls h c = each_of (λ (l : ChainOp × n.Term). Exprs l.1) (λ (l : ChainOp × Expr). SameExpr l.1) (n.linked s) (λ l g c. g s w c) ls h c

  arms_named : (as_ : List (n.Term × n.Term)) → Every (λ (a : n.Term × n.Term). Exprs a.0 × Exprs a.1) as_ → Clean (each (n.armed s) as_).note → ArmsSame (each (n.armed s) as_).it
  arms_named as_ h c =
      each_of (λ (a : n.Term × n.Term). Exprs a.0 × Exprs a.1) (λ (a : Expr × Expr). SameExpr a.0 × SameExpr a.1) (n.armed s)
      (λ a g c. let both = clean_parts (a.0.judge s).note (a.1.judge s).note c in (g.0 s w both.0, g.1 s w both.1)) as_ h c

  abbrev MaybeExprs : Option n.Term → Type 0
  MaybeExprs None = Unit {0}
  MaybeExprs (Some t) = Exprs t

  held_named : (o : Option n.Term) → MaybeExprs o → Clean (held (λ t. t.judge s) o).note → MaybeSame (held (λ t. t.judge s) o).it
  held_named None h c = tt
  held_named (Some t) h c = h s w c

  framed_named : (fs : List n.Piece) → Every Froms fs → (acc : Noted Framed) → (Clean acc.note → Every SameFrom acc.it.items) → Clean (fold (λ a f. n.with_part a (f.judge s a.it.seen)) acc fs).note → Every SameFrom (fold (λ a f. n.with_part a (f.judge s a.it.seen)) acc fs).it.items
  framed_named [] h acc g c = g c
  framed_named (f ∷ fs) h acc g c =
      framed_named fs h.1 (n.with_part acc (f.judge s acc.it.seen))
      (λ c. let both = clean_parts acc.note (f.judge s acc.it.seen).note c in every_append SameFrom acc.it.items ((f.judge s acc.it.seen).it.item ∷ []) (g both.0) (h.0 s acc.it.seen w both.1, tt)) c

  items_named : (is : List n.Entry) → Every Items is → (acc : Noted (Shown (List Item))) → (Clean acc.note → Every SameItem acc.it.it) → Clean (fold (λ a i. n.with_item a (i.judge s)) acc is).note → Every SameItem (fold (λ a i. n.with_item a (i.judge s)) acc is).it.it
  items_named [] h acc g c = g c
  items_named (i ∷ is) h acc g c =
      items_named is h.1 (n.with_item acc (i.judge s))
      (λ c. let both = clean_parts acc.note (i.judge s).note c in every_append SameItem acc.it.it ((i.judge s).it.it ∷ []) (g both.0) (h.0 s w both.1, tt)) c

  keys_named : (aliases : List (Option Name)) (ks : List n.Sort) → Every Keys ks → Clean (each (λ k. k aliases s) ks).note → Every SameKey (each (λ k. k aliases s) ks).it
  keys_named aliases ks h c = each_of Keys SameKey (λ k. k aliases s) (λ k g c. g aliases s w c) ks h c

  selects_named : (ls : List n.Listing) → Every Selects ls → (acc : Noted (Shown (List Select))) → (Clean acc.note → Every SameSelect acc.it.it) → Clean (fold (λ a l. n.with_select a (l s)) acc ls).note → Every SameSelect (fold (λ a l. n.with_select a (l s)) acc ls).it.it
  selects_named [] h acc g c = g c
  selects_named (l ∷ ls) h acc g c =
      selects_named ls h.1 (n.with_select acc (l s))
      (λ c. let both = clean_parts acc.note (l s).note c in every_append SameSelect acc.it.it ((l s).it.it ∷ []) (g both.0) (h.0 s w both.1, tt)) c

-- ---- all steps

whole_named : (q : List n.Listing) → Every Selects q → (with_ : Bool) (s : Scope) → Bare s → Clean (joined (breaks rule.Types with_) (n.united q s).note) → SameQuery (n.query_with (n.united q s).it).it
whole_named q h with_ s w c = query_same (n.united q s).it.it (selects_named s w q h n.no_select (λ c. tt) (clean_parts (breaks rule.Types with_) (n.united q s).note c).1)

abbrev MaybeAnywhere : Option n.Term → Type 0
MaybeAnywhere o = (s : Scope) (w : Bare s) → MaybeExprs s w o

listing_named : (l : List n.Entry) (f : List n.Piece) (t : Option n.Term) (o : List n.Sort) (m : Option n.Term) → Every Items l → Every Froms f → MaybeAnywhere t → Every Keys o → MaybeAnywhere m → Selects (n.listing (record { list = l; from = f; filter = t; order = o; limit = m }))
listing_named l f t o m lh fh th oh mh s w c =
    let from = n.framed s f in
    let inner = inside from.it.seen s in
    let two_notes = clean_parts _ _ c in
    let from_note = clean_parts _ _ two_notes.0 in
    let over_note = clean_parts _ _ two_notes.1 in
    let first = clean_parts _ _ over_note.0 in
    let second = clean_parts _ _ over_note.1 in
    select_same _ _ _ _ _ (items_named inner w l lh n.no_item (λ c. tt) first.0) (framed_named s w f fh n.no_part (λ c. tt) from_note.1) (held_named inner w t (th inner w) first.1) (keys_named inner w _ o oh second.0) (held_named inner w m (mh inner w) second.1)

steps : IsKept naming naming naming relation
steps = record {
  no_expr = λ s w c a b frames tables. refl;
  no_query = λ s w c. query_same [] tt;
  int = λ x s w c a b frames tables. refl;
  str = λ t s w c a b frames tables. refl;
  bool = λ v s w c a b frames tables. refl;
  null = λ s w c a b frames tables. refl;
  named = λ t s w c. name_same t s w;
  qualified = λ t u s w c. qualified_same t u s;
  slot = λ i s w c. unwritten_same (expr.Slot i) c;
  column = λ x s w c. unwritten_same (expr.Column x) c;
  param = λ i t s w c a b frames tables. refl;
  neg = λ x y z k s w c. by_steps _ _ (eq.of_neg elaborating (x.judge s).it) (λ a b frames tables. ap negated (k s w c a b frames tables));
  neg_small = λ x y z k s w c. by_steps _ _ (eq.of_negsmall elaborating (x.judge s).it) (λ a b frames tables. ap negated (k s w c a b frames tables));
  not = λ x y z k s w c. by_steps _ _ (eq.of_not elaborating (x.judge s).it) (λ a b frames tables. ap (λ (m : MadeExpr). el.truth (fits Boolean m.kind) (expr.Not m.it)) (k s w c a b frames tables));
  is = λ x y z test negative k s w c. by_steps _ _ (eq.of_is elaborating (x.judge s).it test negative) (λ a b frames tables. ap (λ (m : MadeExpr). el.truth (t.passed test m.kind) (expr.Is m.it test negative)) (k s w c a b frames tables));
  chain = λ x y z xs ys zs k r s w c.
      let both = clean_parts (x.judge s).note (each (n.linked s) xs).note c in
      chain_same (x.judge s).it (each (n.linked s) xs).it (k s w both.0) (links_named s w xs (firsts (AlikeLink (λ x y z. Exprs x)) (λ (l : ChainOp × n.Term). Exprs l.1) (λ x y z r. r.2) xs ys zs r) both.1);
  compare = λ op x₁ x₂ y₁ y₂ z₁ z₂ k₁ k₂ s w c.
      let both = clean_parts (x₁.judge s).note (x₂.judge s).note c in
      by_steps _ _ (eq.of_compare elaborating op (x₁.judge s).it (x₂.judge s).it)
      (λ a b frames tables i. let x = k₁ s w both.0 a b frames tables i in let y = k₂ s w both.1 a b frames tables i in el.truth (is_right (meet x.kind y.kind)) (expr.Compare op x.it y.it));
  between = λ v x₁ x₂ x₃ y₁ y₂ y₃ z₁ z₂ z₃ k₁ k₂ k₃ s w c.
      let both = clean_parts (x₁.judge s).note (joined (x₂.judge s).note (x₃.judge s).note) c in
      let more = clean_parts (x₂.judge s).note (x₃.judge s).note both.1 in
      by_steps _ _ (eq.of_between elaborating v (x₁.judge s).it (x₂.judge s).it (x₃.judge s).it)
      (λ a b frames tables i.
      let x = k₁ s w both.0 a b frames tables i in
      let y = k₂ s w more.0 a b frames tables i in
      let z = k₃ s w more.1 a b frames tables i in
      el.truth (is_right (meet (meet x.kind y.kind) z.kind)) (expr.Between v x.it y.it z.it));
  one_of = λ v x y z xs ys zs k r s w c.
      let both = clean_parts (x.judge s).note (each (λ t. t.judge s) xs).note c in
      one_of_same v (x.judge s).it (each (λ t. t.judge s) xs).it (k s w both.0) (exprs_named s w xs (firsts (λ x y z. Exprs x) Exprs (λ x y z r. r) xs ys zs r) both.1);
  cast = λ x y z ty k s w c. by_steps _ _ (eq.of_cast elaborating (x.judge s).it ty) (λ a b frames tables. ap (λ (m : MadeExpr). made (t.cast_kind ty m.kind) (expr.Cast m.it ty)) (k s w c a b frames tables));
  cases = λ xs ys zs x y z r k s w c.
      let both = clean_parts (each (n.armed s) xs).note (held (λ t. t.judge s) x).note c in
      cases_same (each (n.armed s) xs).it (held (λ t. t.judge s) x).it
      (arms_named s w xs (firsts (AlikeArm (λ x y z. Exprs x)) (λ (a : n.Term × n.Term). Exprs a.0 × Exprs a.1) (λ x y z r. r) xs ys zs r) both.0)
      (held_named s w x (option s w x y z k) both.1);
  call = λ name xs ys zs r s w c.
      let both = clean_parts (n.called s name) (each (λ t. t.judge s) xs).note c in
      call_same name (each (λ t. t.judge s) xs).it (exprs_named s w xs (firsts (λ x y z. Exprs x) Exprs (λ x y z r. r) xs ys zs r) both.1);
  count_rows = λ s w c a b frames tables. refl;
  scalar = λ x y z k s w c. by_steps _ _ (eq.of_scalar elaborating (x s).it.it) (λ a b frames tables. ap (λ (m : el.MadeQuery). made (t.scalar_kind m.shape) (expr.Scalar m.it)) (k s w c a b frames tables));
  exists = λ x y z k s w c. by_steps _ _ (eq.of_exists elaborating (x s).it.it) (λ a b frames tables. ap (λ (m : el.MadeQuery). made (t.exists_kind m.shape) (expr.Exists m.it)) (k s w c a b frames tables));
  table = λ name columns s level w c. table_same name (s.table name);
  sub = λ x y z lateral k columns s level w c written frame a b frames tables.
      let q = (x (inside (n.before lateral level) s)).it.it in
      ap (λ (f : el.Sourcing). f written (at a frames tables) frame) (eq.of_sub elaborating q lateral)
      ∙ (ap (λ (m : el.MadeQuery). record { shape = t.listed written m.shape; it = source.Sub m.it lateral }) (k (inside (n.before lateral level) s) w c a b (t.before lateral frame ∷ frames) tables)
      ∙ sym (ap (λ (f : el.Sourcing). f written (at b frames tables) frame) (eq.of_sub elaborating q lateral)));
  from = λ x y z alias columns k s level w c frame a b frames tables.
      let both = clean_parts (n.part_note s alias columns) (x columns s level).note c in
      ap (λ (m : el.MadeSource). record { shape = m.shape; it = roll-FromItem (record { source = m.it; alias = alias; columns = (x columns s level).it.columns }) }) (k columns s level w both.1 (x columns s level).it.columns frame a b frames tables);
  item = λ x y z alias k s w c a b frames tables.
      ap (λ (m : MadeExpr). record { kind = m.kind; it = roll-Item (record { expr = m.it; alias = alias }) }) (k s w (clean_parts (n.maybe_written s alias) (x.judge s).note c).1 a b frames tables);
  key = λ x y z descending k aliases s w c a b frames tables.
      ap (λ (m : MadeExpr). record { kind = m.kind; it = roll-Key (record { expr = m.it; descending = descending }) }) (k s w (clean_parts (breaks rule.Ambiguity (n.is_alias aliases x.alone)) (x.judge s).note c).1 a b frames tables);
  select = λ l₁ l₂ l₃ f₁ f₂ f₃ w₁ w₂ w₃ o₁ o₂ o₃ m₁ m₂ m₃ lr fr wr kr mr.
      listing_named l₁ f₁ w₁ o₁ m₁ (firsts (λ x y z. Items x) Items (λ x y z r. r) l₁ l₂ l₃ lr) (firsts (λ x y z. Froms x) Froms (λ x y z r. r) f₁ f₂ f₃ fr) (λ s w. option s w w₁ w₂ w₃ wr) (firsts (λ x y z. Keys x) Keys (λ x y z r. r) o₁ o₂ o₃ kr) (λ s w. option s w m₁ m₂ m₃ mr);
  recursive = λ name columns xs ys zs x y z r k. tt;
  query = λ x y z xs ys zs h r s w c. whole_named xs (firsts (λ x y z. Selects x) Selects (λ x y z r. r) xs ys zs r) (is_some x) s w c;
}
  where
    option : (s : Scope) (w : Bare s) (x y z : Option n.Term) → AlikeOption (λ x y z. Exprs x) x y z → MaybeExprs s w x
    option s w None None None r = tt
    option s w (Some x) (Some y) (Some z) r = r
    option s w _ _ _ r = absurd r

-- the marks and types of a select are the same whatever types the slots have
pub select_aside : (x : Select) (s : Scope) → s.variables ≡ [] → Clean (named_select x s).note → SameSelect (named_select x s).it.it
unfolding named_select
select_aside x s w c = select_related naming naming naming relation steps x s w c
