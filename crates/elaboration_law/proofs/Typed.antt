-- A tree whose operations are marked has the type that was found with the marks.
use Rattle.std.proofs.Common.{◌≡◌, refl, ap, sym, ◌∙◌, ℕ, Bool, true, not, ◌&&◌, if◌then◌else◌, List, [], ◌∷◌, ◌++◌, map, fold, Option, Some, None, option_map}
use Rattle.std.specs.Prelude.{option_and_then, is_some}
use Rattle.away_values.specs.declared.types.Ty.{Ty}
use Rattle.away_values.specs.declared.types.Ty.TheVariants.{Bigint, Boolean, Text, Integer}
use Rattle.away_values.specs.declared.operators.ChainOp.{ChainOp}
use Rattle.away_trees.specs.declared.queries.Expr.{Expr}
use Rattle.away_trees.specs.declared.queries.Expr.TheVariants as expr
use Rattle.away_trees.specs.declared.queries.Select.{Select}
use Rattle.away_trees.specs.declared.queries.Query.{Query}
use Rattle.away_trees.specs.Algebra.{expr_of, item_of, key_of, source_of, from_of, select_of, recursive_of, query_of}
use Rattle.away_trees.proofs.Equations as eq
use Rattle.away_names.specs.Functions.{function}
use Rattle.away_typing.specs.declared.kind.Kind.{Kind}
use Rattle.away_typing.specs.declared.kind.Kind.TheVariants.{Null, Of, Sum, Wrong}
use Rattle.away_typing.specs.Kinds.{only_if, fits, is_right, settled, meet, common, is_number, is_integer}
use Rattle.away_typing.specs.Typing.{Frame, Places, inside, Shape, Term, kind_or_null, passed, scalar_kind, exists_kind, listed, before, framed, or_none, shape_of, typing}
use Rattle.sql_meaning.proofs.Related.{Alike, AlikeOption, AlikeLink, AlikeArm, Relation}
use Rattle.away_typing.specs.Typing as t
use Rattle.elaboration.specs.Marks.{next_kind}
use Rattle.elaboration.specs.Elaborating.{MadeExpr, MadeFrom, MadeItem, MadeKey, MadeSelect, Making, Sourcing, Parting, Itemizing, Sorting, Selecting, Asking, Recursing, negated, marked_links, chain_kind, link_trees, tested, chosen, other_kind, kinds_of, trees_of, all_made, parts_made, frame_made, frame_or_none, columns_or_none, selected_in, elaborating, elaborated, elaborated_select, elaborated_query}
use Rattle.elaboration_law.proofs.Joint.{Keeps, expr_related, select_related, query_related}

-- ---- lists whose members have a property

abbrev pub Every : {A : Type 0} → (A → Type 0) → List A → Type 0
Every P [] = Unit {0}
Every P (x ∷ xs) = P x × Every P xs

pub every : {X A : Type 0} (R : X → X → X → Type 0) (P : A → Type 0) (f : X → A) → ((x y z : X) → R x y z → P (f x)) → (xs ys zs : List X) → Alike R xs ys zs → Every P (map f xs)
every R P f go [] [] [] r = tt
every R P f go (x ∷ xs) (y ∷ ys) (z ∷ zs) r = (go x y z r.0, every R P f go xs ys zs r.1)
every R P f go _ _ _ r = absurd r

pub same_maps : {A B : Type 0} (P : A → Type 0) (f g : A → B) → ((a : A) → P a → f a ≡ g a) → (xs : List A) → Every P xs → map f xs ≡ map g xs
same_maps P f g go [] h = refl
same_maps P f g go (x ∷ xs) h = λ i. go x h.0 i ∷ same_maps P f g go xs h.1 i

pub map_again : {A B C : Type 0} (f : B → C) (g : A → B) (xs : List A) → map f (map g xs) ≡ map (λ x. f (g x)) xs
map_again f g [] = refl
map_again f g (x ∷ xs) = ap (λ ys. f (g x) ∷ ys) (map_again f g xs)

-- ---- what has the type that was found

abbrev Typed : Places → MadeExpr → Type 0
Typed p m = expr_of typing m.it p ≡ m.kind

abbrev TypedItem : Places → MadeItem → Type 0
TypedItem p m = item_of typing m.it p ≡ m.kind

abbrev TypedKey : Places → MadeKey → Type 0
TypedKey p m = key_of typing m.it p ≡ m.kind

abbrev TypedSelect : Places → MadeSelect → Type 0
TypedSelect p m = select_of typing m.it p ≡ m.kinds

abbrev Exprs : Making → Making → Making → Type 0
Exprs x y z = (p : Places) → Typed p (x p)

abbrev Sources : Sourcing → Sourcing → Sourcing → Type 0
Sources x y z = (columns : List (List ℕ)) (p : Places) (frame : Frame) → source_of typing (x columns p frame).it columns p frame ≡ (x columns p frame).shape

abbrev Froms : Parting → Parting → Parting → Type 0
Froms x y z = (p : Places) (frame : Frame) → from_of typing (x p frame).it p frame ≡ (x p frame).shape

abbrev Items : Itemizing → Itemizing → Itemizing → Type 0
Items x y z = (p : Places) → TypedItem p (x p)

abbrev Keys : Sorting → Sorting → Sorting → Type 0
Keys x y z = (p : Places) → TypedKey p (x p)

abbrev Selects : Selecting → Selecting → Selecting → Type 0
Selects x y z = (p : Places) → TypedSelect p (x p)

abbrev Queries : Asking → Asking → Asking → Type 0
Queries x y z = (p : Places) → query_of typing (x p).it p ≡ (x p).shape

abbrev relation : Relation elaborating elaborating elaborating
relation = record {
  Exprs = Exprs;
  Sources = Sources;
  Froms = Froms;
  Items = Items;
  Keys = Keys;
  Queries = Queries;
  Recursives = λ x y z. Unit {0};
  Selects = Selects;
}

-- ---- expressions

-- a minus
minus_typed : (p : Places) (m : MadeExpr) → Typed p m → Typed p (negated m)
unfolding is_integer only_if is_number
minus_typed p m h = go m.kind h
  where
    go : (k : Kind) → expr_of typing m.it p ≡ k → Typed p (negated (record { kind = k; it = m.it }))
    go (Of Integer) h = ap (λ f. f p) (eq.of_negsmall typing m.it) ∙ ap (λ k. only_if (is_integer k) (Of Integer)) h
    go (Of Bigint) h = ap (λ f. f p) (eq.of_neg typing m.it) ∙ ap (λ k. only_if (is_number k && not (is_integer k)) (Of Bigint)) h
    go (Of Boolean) h = ap (λ f. f p) (eq.of_neg typing m.it) ∙ ap (λ k. only_if (is_number k && not (is_integer k)) (Of Bigint)) h
    go (Of Text) h = ap (λ f. f p) (eq.of_neg typing m.it) ∙ ap (λ k. only_if (is_number k && not (is_integer k)) (Of Bigint)) h
    go Null h = ap (λ f. f p) (eq.of_neg typing m.it) ∙ ap (λ k. only_if (is_number k && not (is_integer k)) (Of Bigint)) h
    go Sum h = ap (λ f. f p) (eq.of_neg typing m.it) ∙ ap (λ k. only_if (is_number k && not (is_integer k)) (Of Bigint)) h
    go Wrong h = ap (λ f. f p) (eq.of_neg typing m.it) ∙ ap (λ k. only_if (is_number k && not (is_integer k)) (Of Bigint)) h

-- links with their operands
abbrev TypedLink : Places → ChainOp × MadeExpr → Type 0
TypedLink p l = Typed p l.1

marked_typed : (p : Places) (k : Kind) (ls : List (ChainOp × MadeExpr)) → Every (TypedLink p) ls → Every (TypedLink p) (marked_links k ls)
marked_typed p k [] h = tt
marked_typed p k (l ∷ ls) h = (h.0, marked_typed p (next_kind l.0 k l.1.kind) ls h.1)

links_typed : (p : Places) (ls : List (ChainOp × MadeExpr)) → Every (TypedLink p) ls → (k m : Kind) → k ≡ m → t.chained p (map (λ l. eq.link_of typing l) (link_trees ls)) k ≡ chain_kind ls m
links_typed p [] h k m e = e
links_typed p (l ∷ ls) h k m e = links_typed p ls h.1 _ _ (λ i. t.pair l.0 (e i) (h.0 i))

chain_typed : (p : Places) (x : MadeExpr) (ls : List (ChainOp × MadeExpr)) → Typed p x → Every (TypedLink p) ls → expr_of typing (expr.Chain x.it (link_trees ls)) p ≡ chain_kind ls x.kind
chain_typed p x ls h k = ap (λ f. f p) (eq.of_chain typing x.it (link_trees ls)) ∙ links_typed p ls k _ _ h

all_typed : (p : Places) (ms : List MadeExpr) → Every (Typed p) ms → map (λ f. f p) (map (λ e. expr_of typing e) (trees_of ms)) ≡ kinds_of ms
all_typed p [] h = refl
all_typed p (m ∷ ms) h = λ i. h.0 i ∷ all_typed p ms h.1 i

abbrev TypedOption : Places → Option MadeExpr → Type 0
TypedOption p None = Unit {0}
TypedOption p (Some m) = Typed p m

at_place : (p : Places) (x y z : Option Making) → AlikeOption Exprs x y z → TypedOption p (option_map (λ (m : Making). m p) x)
at_place p None None None r = tt
at_place p (Some x) (Some y) (Some z) r = r p
at_place p _ _ _ r = absurd r

option_typed : (p : Places) (o : Option MadeExpr) → TypedOption p o → option_map (λ f. f p) (option_map (λ e. expr_of typing e) (option_map (λ (m : MadeExpr). m.it) o)) ≡ option_map (λ (m : MadeExpr). m.kind) o
option_typed p None h = refl
option_typed p (Some m) h = ap Some h

abbrev TypedArm : Places → MadeExpr × MadeExpr → Type 0
TypedArm p a = Typed p a.0 × Typed p a.1

abbrev arm_tree : MadeExpr × MadeExpr → Expr × Expr
arm_tree a = (a.0.it, a.1.it)

tests_typed : (p : Places) (as_ : List (MadeExpr × MadeExpr)) → Every (TypedArm p) as_ → (b c : Bool) → b ≡ c →
    fold (λ all (arm : Term × Term). all && fits Boolean (arm.0 p)) b (map (λ x. eq.arm_of typing x) (map arm_tree as_)) ≡ fold (λ all (arm : MadeExpr × MadeExpr). all && fits Boolean arm.0.kind) c as_
tests_typed p [] h b c e = e
tests_typed p (a ∷ as_) h b c e = tests_typed p as_ h.1 _ _ (λ i. e i && fits Boolean (h.0.0 i))

values_typed : (p : Places) (as_ : List (MadeExpr × MadeExpr)) → Every (TypedArm p) as_ →
    map (λ (arm : Term × Term). arm.1 p) (map (λ x. eq.arm_of typing x) (map arm_tree as_)) ≡ map (λ (arm : MadeExpr × MadeExpr). arm.1.kind) as_
values_typed p [] h = refl
values_typed p (a ∷ as_) h = λ i. h.0.1 i ∷ values_typed p as_ h.1 i

cases_typed : (p : Places) (as_ : List (MadeExpr × MadeExpr)) (o : Option MadeExpr) → Every (TypedArm p) as_ → TypedOption p o →
    expr_of typing (expr.Cases (map arm_tree as_) (option_map (λ (m : MadeExpr). m.it) o)) p ≡ only_if (tested as_) (settled (meet (chosen as_) (other_kind o)))
cases_typed p as_ o h k =
    ap (λ f. f p) (eq.of_cases typing (map arm_tree as_) (option_map (λ (m : MadeExpr). m.it) o))
    ∙ (λ i. only_if (tests_typed p as_ h true true refl i) (settled (meet (common (values_typed p as_ h i)) (kind_or_null (option_typed p o k i)))))

-- ---- FROM

parts_typed : (p : Places) (fs gs hs : List Parting) → Alike Froms fs gs hs → (frame : Frame) → framed p (map (λ f. from_of typing f) (map (λ (m : MadeFrom). m.it) (parts_made p fs frame))) frame ≡ frame_made (parts_made p fs frame) frame
parts_typed p [] [] [] r frame = refl
parts_typed p (f ∷ fs) (g ∷ gs) (h ∷ hs) r frame =
    go (f p frame).shape refl (λ ts. parts_typed p fs gs hs r.1 (frame ++ ts ∷ []))
  where
    go : (s : Shape) → (f p frame).shape ≡ s → ((ts : List Ty) → framed p (map (λ f. from_of typing f) (map (λ (m : MadeFrom). m.it) (parts_made p fs (frame ++ ts ∷ [])))) (frame ++ ts ∷ []) ≡ frame_made (parts_made p fs (frame ++ ts ∷ [])) (frame ++ ts ∷ [])) →
        option_and_then (λ ts. framed p (map (λ f. from_of typing f) (map (λ (m : MadeFrom). m.it) (parts_made p fs (frame ++ columns_or_none (f p frame).shape ∷ [])))) (frame ++ ts ∷ [])) (from_of typing (f p frame).it p frame)
        ≡ option_and_then (λ ts. frame_made (parts_made p fs (frame ++ columns_or_none (f p frame).shape ∷ [])) (frame ++ ts ∷ [])) (f p frame).shape
    go s e ih =
        (λ i. option_and_then (λ ts. framed p (map (λ f. from_of typing f) (map (λ (m : MadeFrom). m.it) (parts_made p fs (frame ++ columns_or_none (e i) ∷ [])))) (frame ++ ts ∷ [])) ((r.0 p frame ∙ e) i))
        ∙ by s ih
        ∙ (λ i. option_and_then (λ ts. frame_made (parts_made p fs (frame ++ columns_or_none (sym e i) ∷ [])) (frame ++ ts ∷ [])) (sym e i))
      where
        by : (s : Shape) → ((ts : List Ty) → framed p (map (λ f. from_of typing f) (map (λ (m : MadeFrom). m.it) (parts_made p fs (frame ++ ts ∷ [])))) (frame ++ ts ∷ []) ≡ frame_made (parts_made p fs (frame ++ ts ∷ [])) (frame ++ ts ∷ [])) →
            option_and_then (λ ts. framed p (map (λ f. from_of typing f) (map (λ (m : MadeFrom). m.it) (parts_made p fs (frame ++ columns_or_none s ∷ [])))) (frame ++ ts ∷ [])) s
            ≡ option_and_then (λ ts. frame_made (parts_made p fs (frame ++ columns_or_none s ∷ [])) (frame ++ ts ∷ [])) s
        by None ih = refl
        by (Some ts) ih = ih ts
parts_typed p _ _ _ r frame = absurd r

-- ---- a select

items_typed : (p : Places) (ms : List MadeItem) → Every (TypedItem p) ms → map (λ f. f p) (map (λ x. item_of typing x) (map (λ (m : MadeItem). m.it) ms)) ≡ map (λ (m : MadeItem). m.kind) ms
items_typed p [] h = refl
items_typed p (m ∷ ms) h = λ i. h.0 i ∷ items_typed p ms h.1 i

keys_typed : (p : Places) (ms : List MadeKey) → Every (TypedKey p) ms → map (λ f. f p) (map (λ x. key_of typing x) (map (λ (m : MadeKey). m.it) ms)) ≡ map (λ (m : MadeKey). m.kind) ms
keys_typed p [] h = refl
keys_typed p (m ∷ ms) h = λ i. h.0 i ∷ keys_typed p ms h.1 i

-- by a frame that is there, or by none
by_frame : {A : Type 0} (o : Option Frame) (F : Frame → Option A) (G : Frame → Option A) → ((frame : Frame) → o ≡ Some frame → F frame ≡ G frame) → option_and_then F o ≡ option_and_then G o
by_frame None F G h = refl
by_frame (Some frame) F G h = h frame refl

select_typed : (p : Places) (l₁ l₂ l₃ : List Itemizing) (f₁ f₂ f₃ : List Parting) (w₁ w₂ w₃ : Option Making) (o₁ o₂ o₃ : List Sorting) (m₁ m₂ m₃ : Option Making)
    → Alike Items l₁ l₂ l₃ → Alike Froms f₁ f₂ f₃ → AlikeOption Exprs w₁ w₂ w₃ → Alike Keys o₁ o₂ o₃ → AlikeOption Exprs m₁ m₂ m₃
    → TypedSelect p (selected_in (inside (frame_or_none (frame_made (parts_made p f₁ []) [])) p) (parts_made p f₁ []) (frame_made (parts_made p f₁ []) []) (record { list = l₁; from = f₁; filter = w₁; order = o₁; limit = m₁ }))
select_typed p l₁ l₂ l₃ f₁ f₂ f₃ w₁ w₂ w₃ o₁ o₂ o₃ m₁ m₂ m₃ lr fr wr kr mr =
    let from = parts_made p f₁ [] in
    let found = frame_made from [] in
    let q = inside (frame_or_none found) p in
    let list = map (λ x. x q) l₁ in
    let filter = option_map (λ (x : Making). x q) w₁ in
    let order = map (λ x. x q) o₁ in
    let limit = option_map (λ (x : Making). x q) m₁ in
    let its = map (λ (m : MadeItem). m.it) list in
    let sorts = map (λ (m : MadeKey). m.it) order in
    let test = option_map (λ (m : MadeExpr). m.it) filter in
    let bound = option_map (λ (m : MadeExpr). m.it) limit in
    let here = inside (frame_or_none found) p in
    ap (λ f. f p) (eq.of_select typing its (map (λ (m : MadeFrom). m.it) from) test sorts bound)
    ∙ ap (option_and_then (λ frame. t.select_kinds (map (λ f. f (inside frame p)) (map (λ x. item_of typing x) its)) (option_map (λ f. f (inside frame p)) (option_map (λ e. expr_of typing e) test)) (map (λ f. f (inside frame p)) (map (λ x. key_of typing x) sorts)) (option_map (λ f. f (inside frame p)) (option_map (λ e. expr_of typing e) bound)))) (parts_typed p f₁ f₂ f₃ fr [])
    ∙ by_frame found _ (λ frame. t.select_kinds (map (λ (m : MadeItem). m.kind) list) (option_map (λ (m : MadeExpr). m.kind) filter) (map (λ (m : MadeKey). m.kind) order) (option_map (λ (m : MadeExpr). m.kind) limit))
    (λ frame e.
    let at : inside frame p ≡ here = ap (λ o. inside (frame_or_none o) p) (sym e) in
    ap (λ q. t.select_kinds (map (λ f. f q) (map (λ x. item_of typing x) its)) (option_map (λ f. f q) (option_map (λ e. expr_of typing e) test)) (map (λ f. f q) (map (λ x. key_of typing x) sorts)) (option_map (λ f. f q) (option_map (λ e. expr_of typing e) bound))) at
    ∙ (λ i. t.select_kinds (items_typed q list (every Items (TypedItem q) (λ (x : Itemizing). x q) (λ x y z r. r q) l₁ l₂ l₃ lr) i) (option_typed q filter (at_place q w₁ w₂ w₃ wr) i) (keys_typed q order (every Keys (TypedKey q) (λ (x : Sorting). x q) (λ x y z r. r q) o₁ o₂ o₃ kr) i) (option_typed q limit (at_place q m₁ m₂ m₃ mr) i)))

-- ---- UNION ALL

selects_typed : (p : Places) (ms : List MadeSelect) → Every (TypedSelect p) ms → (k m : Option (Option (List Kind))) → k ≡ m →
    fold (λ ks s. t.further ks (s p)) k (map (λ x. select_of typing x) (map (λ (m : MadeSelect). m.it) ms)) ≡ fold (λ ks (s : MadeSelect). t.further ks s.kinds) m ms
selects_typed p [] h k m e = e
selects_typed p (x ∷ ms) h k m e = selects_typed p ms h.1 _ _ (λ i. t.further (e i) (h.0 i))

still_some : {A B C : Type 0} (f : B → C) (g : A → B) (o : Option A) → is_some (option_map f (option_map g o)) ≡ is_some o
still_some f g None = refl
still_some f g (Some x) = refl

-- ---- all steps

links_at : (p : Places) (xs ys zs : List (ChainOp × Making)) → Alike (AlikeLink Exprs) xs ys zs → Every (TypedLink p) (map (λ (l : ChainOp × Making). (l.0, l.1 p)) xs)
links_at p xs ys zs r = every (AlikeLink Exprs) (TypedLink p) (λ (l : ChainOp × Making). (l.0, l.1 p)) (λ x y z r. r.2 p) xs ys zs r

arms_at : (p : Places) (xs ys zs : List (Making × Making)) → Alike (AlikeArm Exprs) xs ys zs → Every (TypedArm p) (map (λ (arm : Making × Making). (arm.0 p, arm.1 p)) xs)
arms_at p xs ys zs r = every (AlikeArm Exprs) (TypedArm p) (λ (arm : Making × Making). (arm.0 p, arm.1 p)) (λ x y z r. (r.0 p, r.1 p)) xs ys zs r

exprs_at : (p : Places) (xs ys zs : List Making) → Alike Exprs xs ys zs → Every (Typed p) (all_made p xs)
exprs_at p xs ys zs r = every Exprs (Typed p) (λ (x : Making). x p) (λ x y z r. r p) xs ys zs r

steps : Keeps elaborating elaborating elaborating relation
steps =
    record {
      int = λ n p. refl;
      str = λ t p. refl;
      bool = λ v p. refl;
      null = λ p. refl;
      named = λ t p. refl;
      dotted = λ t s p. refl;
      slot = λ i p. refl;
      column = λ c p. refl;
      param = λ i t p. refl;
      neg = λ x y z k p. minus_typed p (x p) (k p);
      neg_small = λ x y z k p. minus_typed p (x p) (k p);
      not = λ x y z k p. ap (λ f. f p) (eq.of_not typing (x p).it) ∙ (λ i. only_if (fits Boolean (k p i)) (Of Boolean));
      is = λ x y z test negative k p. ap (λ f. f p) (eq.of_is typing (x p).it test negative) ∙ (λ i. only_if (passed test (k p i)) (Of Boolean));
      chain = λ x y z xs ys zs k r p. chain_typed p (x p) (marked_links (x p).kind (map (λ (l : ChainOp × Making). (l.0, l.1 p)) xs)) (k p) (marked_typed p (x p).kind (map (λ (l : ChainOp × Making). (l.0, l.1 p)) xs) (links_at p xs ys zs r));
      compare = λ op x₁ x₂ y₁ y₂ z₁ z₂ k₁ k₂ p. ap (λ f. f p) (eq.of_compare typing op (x₁ p).it (x₂ p).it) ∙ (λ i. only_if (is_right (meet (k₁ p i) (k₂ p i))) (Of Boolean));
      between = λ v x₁ x₂ x₃ y₁ y₂ y₃ z₁ z₂ z₃ k₁ k₂ k₃ p. ap (λ f. f p) (eq.of_between typing v (x₁ p).it (x₂ p).it (x₃ p).it) ∙ (λ i. only_if (is_right (meet (meet (k₁ p i) (k₂ p i)) (k₃ p i))) (Of Boolean));
      one_of = λ v x y z xs ys zs k r p. ap (λ f. f p) (eq.of_oneof typing v (x p).it (trees_of (all_made p xs))) ∙ (λ i. only_if (is_right (meet (k p i) (common (all_typed p (all_made p xs) (exprs_at p xs ys zs r) i)))) (Of Boolean));
      cast = λ x y z t₁ k p. ap (λ f. f p) (eq.of_cast typing (x p).it t₁) ∙ (λ i. t.cast_kind t₁ (k p i));
      cases = λ xs ys zs x y z r k p. cases_typed p (map (λ (arm : Making × Making). (arm.0 p, arm.1 p)) xs) (option_map (λ (m : Making). m p) x) (arms_at p xs ys zs r) (at_place p x y z k);
      call = λ name xs ys zs r p. ap (λ f. f p) (eq.of_call typing name (trees_of (all_made p xs))) ∙ (λ i. t.called (function name) (all_typed p (all_made p xs) (exprs_at p xs ys zs r) i));
      count_rows = λ p. refl;
      scalar = λ x y z k p. ap (λ f. f p) (eq.of_scalar typing (x p).it) ∙ (λ i. scalar_kind (k p i));
      exists = λ x y z k p. ap (λ f. f p) (eq.of_exists typing (x p).it) ∙ (λ i. exists_kind (k p i));
      table = λ name columns p frame. refl;
      sub = λ x y z lateral k columns p frame.
          let q = inside (before lateral frame) p in
          ap (λ f. f columns p frame) (eq.of_sub typing (x q).it lateral) ∙ (λ i. listed columns (k q i));
      from = λ x y z alias columns k p frame. k columns p frame;
      item = λ x y z alias k p. k p;
      key = λ x y z descending k p. k p;
      select = λ l₁ l₂ l₃ f₁ f₂ f₃ w₁ w₂ w₃ o₁ o₂ o₃ m₁ m₂ m₃ lr fr wr kr mr p. select_typed p l₁ l₂ l₃ f₁ f₂ f₃ w₁ w₂ w₃ o₁ o₂ o₃ m₁ m₂ m₃ lr fr wr kr mr;
      recursive = λ name columns xs ys zs x y z r k. tt;
      query = λ x y z xs ys zs k r p.
          let ss = map (λ (s : Selecting). s p) xs in
          ap (λ f. f p) (eq.query_roll typing (option_map (λ (r : Recursing). r p) x) (map (λ (m : MadeSelect). m.it) ss))
          ∙ ap (λ b. if b then None else shape_of (or_none (fold (λ ks s. t.further ks (s p)) None (map (λ x. select_of typing x) (map (λ (m : MadeSelect). m.it) ss))))) (still_some (λ r. recursive_of typing r) (λ (r : Recursing). r p) x)
          ∙ ap (λ o. if is_some x then None else shape_of (or_none o)) (selects_typed p ss (every Selects (TypedSelect p) (λ (s : Selecting). s p) (λ x y z r. r p) xs ys zs r) None None refl);
    }

pub kind_is : (p : Places) (e : Expr) → expr_of typing (elaborated p e).it p ≡ (elaborated p e).kind
unfolding elaborated
kind_is p e = expr_related elaborating elaborating elaborating relation steps e p

pub kinds_are : (p : Places) (s : Select) → select_of typing (elaborated_select p s).it p ≡ (elaborated_select p s).kinds
unfolding elaborated_select
kinds_are p s = select_related elaborating elaborating elaborating relation steps s p

pub shape_is : (p : Places) (q : Query) → query_of typing (elaborated_query p q).it p ≡ (elaborated_query p q).shape
unfolding elaborated_query
shape_is p q = query_related elaborating elaborating elaborating relation steps q p
