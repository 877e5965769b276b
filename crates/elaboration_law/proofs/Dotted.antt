-- A tree with names in place of columns is that of the tree without marks, and has no marks.
use Rattle.std.proofs.Common.{◌≡◌, refl, ap, ◌∙◌, List, [], ◌∷◌, ◌++◌, map, fold, Option, Some, None, option_map}
use Rattle.away_values.specs.declared.operators.ChainOp.{ChainOp}
use Rattle.away_values.specs.declared.operators.ChainOp.TheVariants as chain
use Rattle.away_trees.specs.declared.queries.Col.{Col}
use Rattle.away_trees.specs.declared.queries.Expr.{Expr}
use Rattle.away_trees.specs.declared.queries.Expr.TheVariants as expr
use Rattle.away_trees.specs.declared.queries.Source.TheVariants as source
use Rattle.away_trees.specs.declared.queries.FromItem.{FromItem}
use Rattle.away_trees.specs.declared.queries.Select.{Select}
use Rattle.away_trees.specs.declared.queries.Query.{Query}
use Rattle.away_trees.specs.declared.queries.Expr.TheViews.{roll-Item, roll-FromItem, roll-Key, roll-Select, roll-Recursive, roll-Query}
use Rattle.away_trees.specs.Algebra.{expr_of, item_of, key_of, source_of, from_of, select_of, recursive_of, query_of}
use Rattle.away_trees.proofs.Equations as eq
use Rattle.away_names.specs.declared.note.Shown.{Shown}
use Rattle.away_names.specs.declared.note.Column.{Column}
use Rattle.away_names.specs.declared.note.Framed.{Framed}
use Rattle.away_names.specs.declared.scope.Seen.{Seen}
use Rattle.away_names.specs.Lookups.{Name, Level}
use Rattle.away_names.specs.Naming.{before}
use Rattle.qualified_names.specs.Qualifying as d
use Rattle.qualified_names.specs.Qualifying.{qualifying}
use Rattle.qualified_names.specs.Sight.{Sight, reference, called, called_in, holder, name_at}
use Rattle.qualified_names.specs.Trees.{qualified_shown}
use Rattle.sql_meaning.proofs.Related.{Alike, AlikeOption, AlikeLink, AlikeArm, Relation}
use Rattle.elaboration.specs.Erasing.{erasing, erased_query, plain_link}
use Rattle.elaboration.specs.Marks.{plain_op}
use Rattle.elaboration_law.specs.Blind.{IsBlind}
use Rattle.elaboration_law.specs.Dots.{NamesWithoutMarks}
use Rattle.elaboration_law.proofs.Joint.{Keeps, query_related}
use Rattle.elaboration_law.proofs.Plain.{same_query}

-- ---- the marks that a tree has don't matter

plain_again : (op : ChainOp) → plain_op (plain_op op) ≡ plain_op op
unfolding plain_op
plain_again chain.Or = refl
plain_again chain.And = refl
plain_again chain.Concat = refl
plain_again (chain.Int op) = refl
plain_again (chain.Small op) = refl

abbrev link_at : Sight → ChainOp × d.Term → ChainOp × Expr
link_at s l = (plain_op l.0, l.1 s)

links_again : (s : Sight) (links : List (ChainOp × d.Term)) → map (link_at s) (map plain_link links) ≡ map (link_at s) links
links_again s [] = refl
links_again s (l ∷ links) = λ i. (plain_again l.0 i, l.1 s) ∷ links_again s links i

pub qualifying_blind : IsBlind qualifying
qualifying_blind = record { neg = λ x. refl; chain = λ x links i s. expr.Chain (x s) (links_again s links i) }

pub same_shown : (q : Query) → qualified_shown (erased_query q) ≡ qualified_shown q
unfolding qualified_shown
same_shown q = same_query qualifying qualifying_blind q

-- ---- what has no marks

abbrev plain : Expr → Expr
plain e = expr_of erasing e

abbrev Exprs : d.Term → d.Term → d.Term → Type 0
Exprs x y z = (s : Sight) → plain (x s) ≡ x s

abbrev Sources : d.Rows → d.Rows → d.Rows → Type 0
Sources x y z = (columns : List Name) (s : Sight) (level : Level) → source_of erasing (x columns s level).source ≡ (x columns s level).source

abbrev Froms : d.Piece → d.Piece → d.Piece → Type 0
Froms x y z = (s : Sight) (level : Level) → from_of erasing (x s level).item ≡ (x s level).item

abbrev Items : d.Entry → d.Entry → d.Entry → Type 0
Items x y z = (s : Sight) → item_of erasing (x s).it ≡ (x s).it

abbrev Keys : d.Sort → d.Sort → d.Sort → Type 0
Keys x y z = (s : Sight) → key_of erasing (x s) ≡ x s

abbrev Selects : d.Listing → d.Listing → d.Listing → Type 0
Selects x y z = (s : Sight) → select_of erasing (x s).it ≡ (x s).it

abbrev Queries : d.Whole → d.Whole → d.Whole → Type 0
Queries x y z = (s : Sight) → query_of erasing (x s).it ≡ (x s).it

abbrev Recursives : d.Terms → d.Terms → d.Terms → Type 0
Recursives x y z = (s : Sight) → recursive_of erasing (x s) ≡ x s

abbrev relation : Relation qualifying qualifying qualifying
relation = record {
  Exprs = Exprs;
  Sources = Sources;
  Froms = Froms;
  Items = Items;
  Keys = Keys;
  Queries = Queries;
  Recursives = Recursives;
  Selects = Selects;
}

-- ---- lists

module _ {X A : Type 0} (R : X → X → X → Type 0) (g : X → A) (h : A → A) (go : (x y z : X) → R x y z → h (g x) ≡ g x) where
  all_stay : (xs ys zs : List X) → Alike R xs ys zs → map h (map g xs) ≡ map g xs
  all_stay [] [] [] r = refl
  all_stay (x ∷ xs) (y ∷ ys) (z ∷ zs) r = λ i. go x y z r.0 i ∷ all_stay xs ys zs r.1 i
  all_stay _ _ _ r = absurd r

  maybe_stays : (x y z : Option X) → AlikeOption R x y z → option_map h (option_map g x) ≡ option_map g x
  maybe_stays None None None r = refl
  maybe_stays (Some x) (Some y) (Some z) r = ap Some (go x y z r)
  maybe_stays _ _ _ r = absurd r

exprs_stay : (s : Sight) (xs ys zs : List d.Term) → Alike Exprs xs ys zs → map plain (map (λ (t : d.Term). t s) xs) ≡ map (λ (t : d.Term). t s) xs
exprs_stay s = all_stay Exprs (λ (t : d.Term). t s) plain (λ x y z r. r s)

option_stays : (s : Sight) (x y z : Option d.Term) → AlikeOption Exprs x y z → option_map plain (option_map (λ (t : d.Term). t s) x) ≡ option_map (λ (t : d.Term). t s) x
option_stays s = maybe_stays Exprs (λ (t : d.Term). t s) plain (λ x y z r. r s)

links_stay : (s : Sight) (xs ys zs : List (ChainOp × d.Term)) → Alike (AlikeLink Exprs) xs ys zs → map plain_link (map (λ l. eq.link_of erasing l) (map (link_at s) xs)) ≡ map (link_at s) xs
links_stay s [] [] [] r = refl
links_stay s (x ∷ xs) (y ∷ ys) (z ∷ zs) r = λ i. (plain_again x.0 i, r.0.2 s i) ∷ links_stay s xs ys zs r.1 i
links_stay s _ _ _ r = absurd r

abbrev arm_at : Sight → d.Term × d.Term → Expr × Expr
arm_at s a = (a.0 s, a.1 s)

arms_stay : (s : Sight) (xs ys zs : List (d.Term × d.Term)) → Alike (AlikeArm Exprs) xs ys zs → map (λ a. eq.arm_of erasing a) (map (arm_at s) xs) ≡ map (arm_at s) xs
arms_stay s = all_stay (AlikeArm Exprs) (arm_at s) (λ a. eq.arm_of erasing a) (λ x y z r i. (r.0 s i, r.1 s i))

-- ---- columns

called_plain : (alias : Name) (c : Col) (n : Option Name) → plain (called alias c n) ≡ called alias c n
called_plain alias c None = refl
called_plain alias c (Some n) = refl

called_in_plain : (c : Col) (o : Option Seen) → plain (called_in c o) ≡ called_in c o
called_in_plain c None = refl
called_in_plain c (Some o) = called_plain o.alias c (name_at o c.column)

reference_plain : (s : Sight) (c : Col) → plain (reference s c) ≡ reference s c
unfolding reference
reference_plain s c = called_in_plain c (holder s c)

-- ---- FROM

map_append : {A B : Type 0} (f : A → B) (xs ys : List A) → map f (xs ++ ys) ≡ map f xs ++ map f ys
map_append f [] ys = refl
map_append f (x ∷ xs) ys = ap (λ zs. f x ∷ zs) (map_append f xs ys)

abbrev plain_from : FromItem → FromItem
plain_from f = from_of erasing f

framed_stays : (s : Sight) (xs ys zs : List d.Piece) → Alike Froms xs ys zs → (a : Framed) → map plain_from a.items ≡ a.items
    → map plain_from (fold (λ a (f : d.Piece). d.with_part a (f s a.seen)) a xs).items ≡ (fold (λ a (f : d.Piece). d.with_part a (f s a.seen)) a xs).items
framed_stays s [] [] [] r a e = e
framed_stays s (x ∷ xs) (y ∷ ys) (z ∷ zs) r a e =
    framed_stays s xs ys zs r.1 (d.with_part a (x s a.seen))
    (map_append plain_from a.items ((x s a.seen).item ∷ []) ∙ (λ i. e i ++ r.0 s a.seen i ∷ []))
framed_stays s _ _ _ r a e = absurd r

-- ---- selects and queries

items_stay : (s : Sight) (xs ys zs : List d.Entry) → Alike Items xs ys zs → map (λ x. item_of erasing x) (map (λ (c : Column). c.it) (map (λ (t : d.Entry). t s) xs)) ≡ map (λ (c : Column). c.it) (map (λ (t : d.Entry). t s) xs)
items_stay s [] [] [] r = refl
items_stay s (x ∷ xs) (y ∷ ys) (z ∷ zs) r = λ i. r.0 s i ∷ items_stay s xs ys zs r.1 i
items_stay s _ _ _ r = absurd r

keys_stay : (s : Sight) (xs ys zs : List d.Sort) → Alike Keys xs ys zs → map (λ k. key_of erasing k) (map (λ (t : d.Sort). t s) xs) ≡ map (λ (t : d.Sort). t s) xs
keys_stay s = all_stay Keys (λ (t : d.Sort). t s) (λ k. key_of erasing k) (λ x y z r. r s)

selects_stay : (s : Sight) (xs ys zs : List d.Listing) → Alike Selects xs ys zs → map (λ x. select_of erasing x) (map (λ (x : Shown Select). x.it) (map (λ (t : d.Listing). t s) xs)) ≡ map (λ (x : Shown Select). x.it) (map (λ (t : d.Listing). t s) xs)
selects_stay s [] [] [] r = refl
selects_stay s (x ∷ xs) (y ∷ ys) (z ∷ zs) r = λ i. r.0 s i ∷ selects_stay s xs ys zs r.1 i
selects_stay s _ _ _ r = absurd r

select_stays : (s : Sight) (l₁ l₂ l₃ : List d.Entry) (f₁ f₂ f₃ : List d.Piece) (w₁ w₂ w₃ : Option d.Term) (o₁ o₂ o₃ : List d.Sort) (m₁ m₂ m₃ : Option d.Term)
    → Alike Items l₁ l₂ l₃ → Alike Froms f₁ f₂ f₃ → AlikeOption Exprs w₁ w₂ w₃ → Alike Keys o₁ o₂ o₃ → AlikeOption Exprs m₁ m₂ m₃
    → select_of erasing (d.listing (record { list = l₁; from = f₁; filter = w₁; order = o₁; limit = m₁ }) s).it ≡ (d.listing (record { list = l₁; from = f₁; filter = w₁; order = o₁; limit = m₁ }) s).it
select_stays s l₁ l₂ l₃ f₁ f₂ f₃ w₁ w₂ w₃ o₁ o₂ o₃ m₁ m₂ m₃ lr fr wr kr mr =
    let found = d.framed s f₁ in
    let q = found.seen ∷ s in
    eq.of_select erasing (map (λ (c : Column). c.it) (map (λ (i : d.Entry). i q) l₁)) found.items (option_map (λ (e : d.Term). e q) w₁) (map (λ (k : d.Sort). k q) o₁) (option_map (λ (e : d.Term). e q) m₁)
    ∙ (λ i. roll-Select (record { list = items_stay q l₁ l₂ l₃ lr i; from = framed_stays s f₁ f₂ f₃ fr d.no_part refl i; filter = option_stays q w₁ w₂ w₃ wr i; order = keys_stay q o₁ o₂ o₃ kr i; limit = option_stays q m₁ m₂ m₃ mr i }))

query_stays : (s : Sight) (x y z : Option d.Terms) (xs ys zs : List d.Listing) → AlikeOption Recursives x y z → Alike Selects xs ys zs
    → query_of erasing (d.whole (record { recursive = x; selects = xs }) s).it ≡ (d.whole (record { recursive = x; selects = xs }) s).it
query_stays s x y z xs ys zs k r =
    eq.query_roll erasing (option_map (λ (t : d.Terms). t s) x) (map (λ (x : Shown Select). x.it) (map (λ (t : d.Listing). t s) xs))
    ∙ (λ i. roll-Query (record { recursive = maybe_stays Recursives (λ (t : d.Terms). t s) (λ r. recursive_of erasing r) (λ x y z r. r s) x y z k i; selects = selects_stay s xs ys zs r i }))

-- ---- all steps

steps : Keeps qualifying qualifying qualifying relation
steps =
    record {
      int = λ n s. refl;
      str = λ t s. refl;
      bool = λ v s. refl;
      null = λ s. refl;
      named = λ t s. refl;
      dotted = λ t u s. refl;
      slot = λ i s. refl;
      column = λ c s. reference_plain s c;
      param = λ i t s. refl;
      neg = λ x y z k s. eq.of_neg erasing (x s) ∙ ap (λ e. expr.Neg e) (k s);
      neg_small = λ x y z k s. eq.of_neg erasing (x s) ∙ ap (λ e. expr.Neg e) (k s);
      not = λ x y z k s. eq.of_not erasing (x s) ∙ ap (λ e. expr.Not e) (k s);
      is = λ x y z test negative k s. eq.of_is erasing (x s) test negative ∙ ap (λ e. expr.Is e test negative) (k s);
      chain = λ x y z xs ys zs k r s. eq.of_chain erasing (x s) (map (link_at s) xs) ∙ (λ i. expr.Chain (k s i) (links_stay s xs ys zs r i));
      compare = λ op x₁ x₂ y₁ y₂ z₁ z₂ k₁ k₂ s. eq.of_compare erasing op (x₁ s) (x₂ s) ∙ (λ i. expr.Compare op (k₁ s i) (k₂ s i));
      between = λ v x₁ x₂ x₃ y₁ y₂ y₃ z₁ z₂ z₃ k₁ k₂ k₃ s. eq.of_between erasing v (x₁ s) (x₂ s) (x₃ s) ∙ (λ i. expr.Between v (k₁ s i) (k₂ s i) (k₃ s i));
      one_of = λ v x y z xs ys zs k r s. eq.of_oneof erasing v (x s) (map (λ (t : d.Term). t s) xs) ∙ (λ i. expr.OneOf v (k s i) (exprs_stay s xs ys zs r i));
      cast = λ x y z t k s. eq.of_cast erasing (x s) t ∙ ap (λ e. expr.Cast e t) (k s);
      cases = λ xs ys zs x y z r k s. eq.of_cases erasing (map (arm_at s) xs) (option_map (λ (t : d.Term). t s) x) ∙ (λ i. expr.Cases (arms_stay s xs ys zs r i) (option_stays s x y z k i));
      call = λ name xs ys zs r s. eq.of_call erasing name (map (λ (t : d.Term). t s) xs) ∙ (λ i. expr.Call name (exprs_stay s xs ys zs r i));
      count_rows = λ s. refl;
      scalar = λ x y z k s. eq.of_scalar erasing (x s).it ∙ ap (λ q. expr.Scalar q) (k s);
      exists = λ x y z k s. eq.of_exists erasing (x s).it ∙ ap (λ q. expr.Exists q) (k s);
      table = λ name columns s level. refl;
      sub = λ x y z lateral k columns s level. let q = before lateral level ∷ s in eq.of_sub erasing (x q).it lateral ∙ ap (λ q. source.Sub q lateral) (k q);
      from = λ x y z alias columns k s level. ap (λ src. roll-FromItem (record { source = src; alias = alias; columns = (x columns s level).columns })) (k columns s level);
      item = λ x y z alias k s. ap (λ e. roll-Item (record { expr = e; alias = alias })) (k s);
      key = λ x y z descending k s. ap (λ e. roll-Key (record { expr = e; descending = descending })) (k s);
      select = λ l₁ l₂ l₃ f₁ f₂ f₃ w₁ w₂ w₃ o₁ o₂ o₃ m₁ m₂ m₃ lr fr wr kr mr s. select_stays s l₁ l₂ l₃ f₁ f₂ f₃ w₁ w₂ w₃ o₁ o₂ o₃ m₁ m₂ m₃ lr fr wr kr mr;
      recursive = λ name columns xs ys zs x y z r k s.
          eq.of_recursive erasing name columns (map (λ (x : d.Listing). (x s).it) xs) (x s).it
          ∙ (λ i. roll-Recursive (record { name = name; columns = columns; first = all_stay Selects (λ (x : d.Listing). (x s).it) (λ x. select_of erasing x) (λ x y z r. r s) xs ys zs r i; second = k s i }));
      query = λ x y z xs ys zs k r s. query_stays s x y z xs ys zs k r;
    }

pub names_without_marks : NamesWithoutMarks
unfolding erased_query qualified_shown
names_without_marks = record {
  blind = λ q. ap (λ (f : d.Whole). (f []).it) (same_shown q);
  plain = λ q. query_related qualifying qualifying qualifying relation steps q [];
}
