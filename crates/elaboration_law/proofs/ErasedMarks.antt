-- Marks alone are added: without them a marked tree is the tree without its marks.
use Rattle.std.proofs.Common.{◌≡◌, refl, ap, sym, ◌∙◌, ℕ, Bool, true, false, if◌then◌else◌, List, [], ◌∷◌, ◌++◌, map, Option, Some, None, option_map}
use Rattle.away_values.specs.declared.operators.ChainOp.{ChainOp}
use Rattle.away_values.specs.declared.operators.ChainOp.TheVariants as chain
use Rattle.away_values.specs.declared.operators.IntOp.{IntOp}
use Rattle.away_trees.specs.declared.queries.Expr.{Expr}
use Rattle.away_trees.specs.declared.queries.Expr.TheVariants as expr
use Rattle.away_trees.specs.declared.queries.Source.{Source}
use Rattle.away_trees.specs.declared.queries.Source.TheVariants as source
use Rattle.away_trees.specs.declared.queries.FromItem.{FromItem}
use Rattle.away_trees.specs.declared.queries.Item.{Item}
use Rattle.away_trees.specs.declared.queries.Key.{Key}
use Rattle.away_trees.specs.declared.queries.Select.{Select}
use Rattle.away_trees.specs.declared.queries.Recursive.{Recursive}
use Rattle.away_trees.specs.declared.queries.Query.{Query}
use Rattle.away_trees.specs.declared.queries.Expr.TheViews.{roll-Item, roll-FromItem, roll-Key, roll-Select, roll-Recursive, roll-Query}
use Rattle.away_trees.specs.Algebra.{Algebra, expr_of, item_of, key_of, source_of, from_of, select_of, recursive_of, query_of}
use Rattle.away_trees.proofs.Equations as eq
use Rattle.away_typing.specs.declared.kind.Kind.{Kind}
use Rattle.away_typing.specs.Typing.{Frame, Places, inside, before}
use Rattle.sql_meaning.proofs.Related.{Alike, AlikeOption, AlikeLink, AlikeArm, Relation}
use Rattle.elaboration_law.specs.Blind.{IsBlind}
use Rattle.elaboration.specs.Elaborating.{MadeExpr, MadeFrom, MadeItem, MadeKey, MadeSelect, Making, Sourcing, Parting, Itemizing, Sorting, Selecting, Asking, Recursing, marked_links, link_trees, trees_of, all_made, parts_made, frame_made, frame_or_none, columns_or_none, elaborating, elaborated, elaborated_select, elaborated_query}
use Rattle.elaboration.specs.Erasing.{erasing, erased, erased_select, erased_query, plain_link}
use Rattle.away_typing.specs.Kinds.{is_integer, are_integers}
use Rattle.elaboration.specs.Marks.{plain_op, marked_op, number_op, next_kind}
use Rattle.elaboration_law.proofs.Joint.{Keeps, expr_related, select_related, query_related}
use Rattle.elaboration_law.proofs.Plain.{same_expr, same_select, same_query}

abbrev plain : Expr → Expr
plain e = expr_of erasing e

abbrev Exprs : Making → Expr → Expr → Type 0
Exprs m z w = (p : Places) → plain (m p).it ≡ z

abbrev Sources : Sourcing → Source → Source → Type 0
Sources m z w = (columns : List (List ℕ)) (p : Places) (frame : Frame) → source_of erasing (m columns p frame).it ≡ z

abbrev Froms : Parting → FromItem → FromItem → Type 0
Froms m z w = (p : Places) (frame : Frame) → from_of erasing (m p frame).it ≡ z

abbrev Items : Itemizing → Item → Item → Type 0
Items m z w = (p : Places) → item_of erasing (m p).it ≡ z

abbrev Keys : Sorting → Key → Key → Type 0
Keys m z w = (p : Places) → key_of erasing (m p).it ≡ z

abbrev Selects : Selecting → Select → Select → Type 0
Selects m z w = (p : Places) → select_of erasing (m p).it ≡ z

abbrev Queries : Asking → Query → Query → Type 0
Queries m z w = (p : Places) → query_of erasing (m p).it ≡ z

abbrev Recursives : Recursing → Recursive → Recursive → Type 0
Recursives m z w = (p : Places) → recursive_of erasing (m p) ≡ z

abbrev relation : Relation elaborating erasing erasing
relation = record {
  Exprs = Exprs;
  Sources = Sources;
  Froms = Froms;
  Items = Items;
  Keys = Keys;
  Queries = Queries;
  Recursives = Recursives;
  Selects = Selects;
}

-- ---- lists

module _ {X Z W B : Type 0} (R : X → Z → W → Type 0) (f : B → Z) (g : X → B) (go : (x : X) (z : Z) (w : W) → R x z w → f (g x) ≡ z) where
  maps : (xs : List X) (zs : List Z) (ws : List W) → Alike R xs zs ws → map f (map g xs) ≡ zs
  maps [] [] [] r = refl
  maps (x ∷ xs) (z ∷ zs) (w ∷ ws) r = λ i. go x z w r.0 i ∷ maps xs zs ws r.1 i
  maps _ _ _ r = absurd r

  maybe : (x : Option X) (z : Option Z) (w : Option W) → AlikeOption R x z w → option_map f (option_map g x) ≡ z
  maybe None None None r = refl
  maybe (Some x) (Some z) (Some w) r = ap Some (go x z w r)
  maybe _ _ _ r = absurd r

map_again : {A B C : Type 0} (f : B → C) (g : A → B) (xs : List A) → map f (map g xs) ≡ map (λ x. f (g x)) xs
map_again f g [] = refl
map_again f g (x ∷ xs) = ap (λ ys. f (g x) ∷ ys) (map_again f g xs)

option_again : {A B C : Type 0} (f : B → C) (g : A → B) (o : Option A) → option_map f (option_map g o) ≡ option_map (λ x. f (g x)) o
option_again f g None = refl
option_again f g (Some x) = refl

exprs_plain : (p : Places) (xs : List Making) (zs ws : List Expr) → Alike Exprs xs zs ws → map (λ e. plain e) (trees_of (all_made p xs)) ≡ zs
exprs_plain p xs zs ws r = ap (map (λ e. plain e)) (map_again (λ (m : MadeExpr). m.it) (λ (m : Making). m p) xs) ∙ maps Exprs (λ e. plain e) (λ (m : Making). (m p).it) (λ x z w r. r p) xs zs ws r

option_plain : (p : Places) (x : Option Making) (z w : Option Expr) → AlikeOption Exprs x z w → option_map (λ e. plain e) (option_map (λ (m : MadeExpr). m.it) (option_map (λ (m : Making). m p) x)) ≡ z
option_plain p x z w r = ap (option_map (λ e. plain e)) (option_again (λ (m : MadeExpr). m.it) (λ (m : Making). m p) x) ∙ maybe Exprs (λ e. plain e) (λ (m : Making). (m p).it) (λ x z w r. r p) x z w r

-- ---- operations

plain_number : (b : Bool) (op : IntOp) → plain_op (number_op b op) ≡ chain.Int op
unfolding plain_op
plain_number true op = refl
plain_number false op = refl

plain_marked : (op : ChainOp) (a b : Kind) → plain_op (marked_op op a b) ≡ plain_op op
unfolding plain_op marked_op
plain_marked chain.Or a b = refl
plain_marked chain.And a b = refl
plain_marked chain.Concat a b = refl
plain_marked (chain.Int op) a b = plain_number (are_integers a b) op
plain_marked (chain.Small op) a b = plain_number (are_integers a b) op

links_plain : (p : Places) (xs : List (ChainOp × Making)) (zs ws : List (ChainOp × Expr)) → Alike (AlikeLink Exprs) xs zs ws → (k : Kind)
    → map plain_link (map (λ l. eq.link_of erasing l) (link_trees (marked_links k (map (λ (l : ChainOp × Making). (l.0, l.1 p)) xs)))) ≡ map plain_link zs
links_plain p [] [] [] r k = refl
links_plain p (x ∷ xs) (z ∷ zs) (w ∷ ws) r k =
    λ i. ((plain_marked x.0 k (x.1 p).kind ∙ ap plain_op (sym r.0.0)) i, r.0.2 p i) ∷ links_plain p xs zs ws r.1 (next_kind x.0 k (x.1 p).kind) i
links_plain p _ _ _ r k = absurd r

minus_plain : (b : Bool) (e z : Expr) → plain e ≡ z → plain (if b then expr.NegSmall e else expr.Neg e) ≡ expr.Neg z
minus_plain true e z h = eq.of_negsmall erasing e ∙ ap (λ e. expr.Neg e) h
minus_plain false e z h = eq.of_neg erasing e ∙ ap (λ e. expr.Neg e) h

abbrev arm_at : Places → Making × Making → MadeExpr × MadeExpr
arm_at p a = (a.0 p, a.1 p)

abbrev arm_tree : MadeExpr × MadeExpr → Expr × Expr
arm_tree a = (a.0.it, a.1.it)

arms_plain : (p : Places) (xs : List (Making × Making)) (zs ws : List (Expr × Expr)) → Alike (AlikeArm Exprs) xs zs ws → map (λ x. eq.arm_of erasing x) (map arm_tree (map (arm_at p) xs)) ≡ zs
arms_plain p [] [] [] r = refl
arms_plain p (x ∷ xs) (z ∷ zs) (w ∷ ws) r = λ i. (r.0.0 p i, r.0.1 p i) ∷ arms_plain p xs zs ws r.1 i
arms_plain p _ _ _ r = absurd r

-- ---- selects

parts_plain : (p : Places) (xs : List Parting) (zs ws : List FromItem) → Alike Froms xs zs ws → (frame : Frame) → map (λ f. from_of erasing f) (map (λ (m : MadeFrom). m.it) (parts_made p xs frame)) ≡ zs
parts_plain p [] [] [] r frame = refl
parts_plain p (x ∷ xs) (z ∷ zs) (w ∷ ws) r frame = λ i. r.0 p frame i ∷ parts_plain p xs zs ws r.1 (frame ++ columns_or_none (x p frame).shape ∷ []) i
parts_plain p _ _ _ r frame = absurd r

items_plain : (p : Places) (xs : List Itemizing) (zs ws : List Item) → Alike Items xs zs ws → map (λ e. item_of erasing e) (map (λ (m : MadeItem). m.it) (map (λ (m : Itemizing). m p) xs)) ≡ zs
items_plain p xs zs ws r = ap (map (λ e. item_of erasing e)) (map_again (λ (m : MadeItem). m.it) (λ (m : Itemizing). m p) xs) ∙ maps Items (λ e. item_of erasing e) (λ (m : Itemizing). (m p).it) (λ x z w r. r p) xs zs ws r

keys_plain : (p : Places) (xs : List Sorting) (zs ws : List Key) → Alike Keys xs zs ws → map (λ e. key_of erasing e) (map (λ (m : MadeKey). m.it) (map (λ (m : Sorting). m p) xs)) ≡ zs
keys_plain p xs zs ws r = ap (map (λ e. key_of erasing e)) (map_again (λ (m : MadeKey). m.it) (λ (m : Sorting). m p) xs) ∙ maps Keys (λ e. key_of erasing e) (λ (m : Sorting). (m p).it) (λ x z w r. r p) xs zs ws r

selects_plain : (p : Places) (xs : List Selecting) (zs ws : List Select) → Alike Selects xs zs ws → map (λ e. select_of erasing e) (map (λ (m : Selecting). (m p).it) xs) ≡ zs
selects_plain p xs zs ws r = maps Selects (λ e. select_of erasing e) (λ (m : Selecting). (m p).it) (λ x z w r. r p) xs zs ws r

select_plain : (p : Places) (l₁ : List Itemizing) (l₂ l₃ : List Item) (f₁ : List Parting) (f₂ f₃ : List FromItem) (w₁ : Option Making) (w₂ w₃ : Option Expr) (o₁ : List Sorting) (o₂ o₃ : List Key) (m₁ : Option Making) (m₂ m₃ : Option Expr)
    → Alike Items l₁ l₂ l₃ → Alike Froms f₁ f₂ f₃ → AlikeOption Exprs w₁ w₂ w₃ → Alike Keys o₁ o₂ o₃ → AlikeOption Exprs m₁ m₂ m₃
    → select_of erasing (elaborating.select (record { list = l₁; from = f₁; filter = w₁; order = o₁; limit = m₁ }) p).it ≡ roll-Select (record { list = l₂; from = f₂; filter = w₂; order = o₂; limit = m₂ })
select_plain p l₁ l₂ l₃ f₁ f₂ f₃ w₁ w₂ w₃ o₁ o₂ o₃ m₁ m₂ m₃ lr fr wr kr mr =
    let from = parts_made p f₁ [] in
    let q = inside (frame_or_none (frame_made from [])) p in
    eq.of_select erasing (map (λ (m : MadeItem). m.it) (map (λ (m : Itemizing). m q) l₁)) (map (λ (m : MadeFrom). m.it) from) (option_map (λ (m : MadeExpr). m.it) (option_map (λ (m : Making). m q) w₁)) (map (λ (m : MadeKey). m.it) (map (λ (m : Sorting). m q) o₁)) (option_map (λ (m : MadeExpr). m.it) (option_map (λ (m : Making). m q) m₁))
    ∙ (λ i. roll-Select (record { list = items_plain q l₁ l₂ l₃ lr i; from = parts_plain p f₁ f₂ f₃ fr [] i; filter = option_plain q w₁ w₂ w₃ wr i; order = keys_plain q o₁ o₂ o₃ kr i; limit = option_plain q m₁ m₂ m₃ mr i }))

-- ---- all steps

steps : Keeps elaborating erasing erasing relation
steps =
    record {
      int = λ n p. refl;
      str = λ t p. refl;
      bool = λ v p. refl;
      null = λ p. refl;
      named = λ t p. refl;
      dotted = λ t u p. refl;
      slot = λ i p. refl;
      column = λ c p. refl;
      param = λ i t p. refl;
      neg = λ x z w k p. minus_plain (is_integer (x p).kind) (x p).it z (k p);
      neg_small = λ x z w k p. minus_plain (is_integer (x p).kind) (x p).it z (k p);
      not = λ x z w k p. eq.of_not erasing (x p).it ∙ ap (λ e. expr.Not e) (k p);
      is = λ x z w test negative k p. eq.of_is erasing (x p).it test negative ∙ ap (λ e. expr.Is e test negative) (k p);
      chain = λ x z w xs zs ws k r p. eq.of_chain erasing (x p).it (link_trees (marked_links (x p).kind (map (λ (l : ChainOp × Making). (l.0, l.1 p)) xs))) ∙ (λ i. expr.Chain (k p i) (links_plain p xs zs ws r (x p).kind i));
      compare = λ op x₁ x₂ z₁ z₂ w₁ w₂ k₁ k₂ p. eq.of_compare erasing op (x₁ p).it (x₂ p).it ∙ (λ i. expr.Compare op (k₁ p i) (k₂ p i));
      between = λ v x₁ x₂ x₃ z₁ z₂ z₃ w₁ w₂ w₃ k₁ k₂ k₃ p. eq.of_between erasing v (x₁ p).it (x₂ p).it (x₃ p).it ∙ (λ i. expr.Between v (k₁ p i) (k₂ p i) (k₃ p i));
      one_of = λ v x z w xs zs ws k r p. eq.of_oneof erasing v (x p).it (trees_of (all_made p xs)) ∙ (λ i. expr.OneOf v (k p i) (exprs_plain p xs zs ws r i));
      cast = λ x z w t k p. eq.of_cast erasing (x p).it t ∙ ap (λ e. expr.Cast e t) (k p);
      cases = λ xs zs ws x z w r k p. eq.of_cases erasing (map arm_tree (map (arm_at p) xs)) (option_map (λ (m : MadeExpr). m.it) (option_map (λ (m : Making). m p) x)) ∙ (λ i. expr.Cases (arms_plain p xs zs ws r i) (option_plain p x z w k i));
      call = λ name xs zs ws r p. eq.of_call erasing name (trees_of (all_made p xs)) ∙ ap (λ es. expr.Call name es) (exprs_plain p xs zs ws r);
      count_rows = λ p. refl;
      scalar = λ x z w k p. eq.of_scalar erasing (x p).it ∙ ap (λ q. expr.Scalar q) (k p);
      exists = λ x z w k p. eq.of_exists erasing (x p).it ∙ ap (λ q. expr.Exists q) (k p);
      table = λ name columns p frame. refl;
      sub = λ x z w lateral k columns p frame. let q = inside (before lateral frame) p in eq.of_sub erasing (x q).it lateral ∙ ap (λ q. source.Sub q lateral) (k q);
      from = λ x z w alias columns k p frame. ap (λ s. roll-FromItem (record { source = s; alias = alias; columns = columns })) (k columns p frame);
      item = λ x z w alias k p. ap (λ e. roll-Item (record { expr = e; alias = alias })) (k p);
      key = λ x z w descending k p. ap (λ e. roll-Key (record { expr = e; descending = descending })) (k p);
      select = λ l₁ l₂ l₃ f₁ f₂ f₃ w₁ w₂ w₃ o₁ o₂ o₃ m₁ m₂ m₃ lr fr wr kr mr p. select_plain p l₁ l₂ l₃ f₁ f₂ f₃ w₁ w₂ w₃ o₁ o₂ o₃ m₁ m₂ m₃ lr fr wr kr mr;
      recursive = λ name columns xs zs ws x z w r k p.
          eq.of_recursive erasing name columns (map (λ (m : Selecting). (m p).it) xs) (x p).it
          ∙ (λ i. roll-Recursive (record { name = name; columns = columns; first = selects_plain p xs zs ws r i; second = k p i }));
      query = λ x z w xs zs ws k r p.
          eq.query_roll erasing (option_map (λ (m : Recursing). m p) x) (map (λ (m : MadeSelect). m.it) (map (λ (m : Selecting). m p) xs))
          ∙ (λ i. roll-Query (record {
            recursive = maybe Recursives (λ r. recursive_of erasing r) (λ (m : Recursing). m p) (λ x z w r. r p) x z w k i;
            selects = (ap (map (λ e. select_of erasing e)) (map_again (λ (m : MadeSelect). m.it) (λ (m : Selecting). m p) xs) ∙ selects_plain p xs zs ws r) i;
          }));
    }

pub marks_alone : (e : Expr) (p : Places) → erased (elaborated p e).it ≡ erased e
unfolding erased elaborated
marks_alone e p = expr_related elaborating erasing erasing relation steps e p

pub select_marks_alone : (s : Select) (p : Places) → erased_select (elaborated_select p s).it ≡ erased_select s
unfolding erased_select elaborated_select
select_marks_alone s p = select_related elaborating erasing erasing relation steps s p

pub query_marks_alone : (q : Query) (p : Places) → erased_query (elaborated_query p q).it ≡ erased_query q
unfolding erased_query elaborated_query
query_marks_alone q p = query_related elaborating erasing erasing relation steps q p

-- and so whatever makes no difference between operations of 32 bits and of 64 gives the same for a marked tree
module _ (a : Algebra) (blind : IsBlind a) where
  pub marked_same : (e : Expr) (p : Places) → expr_of a (elaborated p e).it ≡ expr_of a e
  marked_same e p = sym (same_expr a blind (elaborated p e).it) ∙ ap (λ e. expr_of a e) (marks_alone e p) ∙ same_expr a blind e

  pub marked_select_same : (s : Select) (p : Places) → select_of a (elaborated_select p s).it ≡ select_of a s
  marked_select_same s p = sym (same_select a blind (elaborated_select p s).it) ∙ ap (λ s. select_of a s) (select_marks_alone s p) ∙ same_select a blind s

  pub marked_query_same : (q : Query) (p : Places) → query_of a (elaborated_query p q).it ≡ query_of a q
  marked_query_same q p = sym (same_query a blind (elaborated_query p q).it) ∙ ap (λ q. query_of a q) (query_marks_alone q p) ∙ same_query a blind q
