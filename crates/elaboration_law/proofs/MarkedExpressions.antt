-- An expression that has a type is marked as it is to be, where its parts are.
use Rattle.std.proofs.Common.{◌≡◌, refl, ap, sym, ◌∙◌, ℕ, Bool, true, not, ◌&&◌, if◌then◌else◌, List, [], ◌∷◌, map, fold, Option, Some, None, option_map}
use Rattle.std.specs.Prelude.{is_some}
use Rattle.std.specs.List.{list_all}
use Rattle.away_values.specs.declared.types.Ty.TheVariants.{Bigint, Boolean, Integer}
use Rattle.away_values.specs.declared.operators.ChainOp.{ChainOp}
use Rattle.away_trees.specs.declared.queries.Expr.{Expr}
use Rattle.away_trees.specs.declared.queries.Expr.TheVariants as expr
use Rattle.away_trees.specs.declared.queries.Expr.TheOpen as ex
use Rattle.away_trees.specs.declared.queries.Source.{Source}
use Rattle.away_trees.specs.declared.queries.FromItem.{FromItem}
use Rattle.away_trees.specs.declared.queries.Item.{Item}
use Rattle.away_trees.specs.declared.queries.Key.{Key}
use Rattle.away_trees.specs.declared.queries.Select.{Select}
use Rattle.away_trees.specs.declared.queries.Query.{Query}
use Rattle.away_typing.specs.declared.kind.Kind.{Kind}
use Rattle.away_typing.specs.declared.kind.Kind.TheVariants.{Of}
use Rattle.away_typing.specs.Kinds.{only_if, fits, settled, meet, common, is_number, is_integer}
use Rattle.away_typing.specs.Typing.{Frame, Places, inside, Shape, Term, Origin, Part, Listing, Whole, Terms, kind_or_null, passed, scalar_kind, exists_kind, listed, before, framed, maybe_fits, or_none, shape_of, typing, pair}
use Rattle.sql_meaning.proofs.Related.{Alike, AlikeOption, AlikeLink, AlikeArm, Relation}
use Rattle.away_typing.specs.Typing as t
use Rattle.elaboration.specs.Marks.{marked_op, next_kind}
use Rattle.elaboration_law.specs.Rebuilding.{rebuilding}
use Rattle.elaboration.specs.Elaborating.{MadeExpr, Making, Sourcing, Parting, Itemizing, Sorting, Selecting, Asking, made, negated, marked_links, chain_kind, link_trees, kinds_of, trees_of, all_made, elaborating}
use Rattle.elaboration_law.proofs.Rights.{right, and_left, and_right, not_false, only_true, only_right, fits_right, number_right, integer_right, meet_right, settled_right, pair_right, mark_right, all_right, common_right}

-- ---- what is as it is to be

abbrev pub Exprs : Term → Expr → Making → Type 0
Exprs k e m = (p : Places) → right (k p) ≡ true → m p ≡ made (k p) e

abbrev pub Sources : Origin → Source → Sourcing → Type 0
Sources k e m = (columns : List (List ℕ)) (p : Places) (frame : Frame) → is_some (k columns p frame) ≡ true → m columns p frame ≡ record { shape = k columns p frame; it = e }

abbrev pub Froms : Part → FromItem → Parting → Type 0
Froms k e m = (p : Places) (frame : Frame) → is_some (k p frame) ≡ true → m p frame ≡ record { shape = k p frame; it = e }

abbrev pub Items : Term → Item → Itemizing → Type 0
Items k e m = (p : Places) → right (k p) ≡ true → m p ≡ record { kind = k p; it = e }

abbrev pub Keys : Term → Key → Sorting → Type 0
Keys k e m = (p : Places) → right (k p) ≡ true → m p ≡ record { kind = k p; it = e }

abbrev pub Selects : Listing → Select → Selecting → Type 0
Selects k e m = (p : Places) → is_some (k p) ≡ true → m p ≡ record { kinds = k p; it = e }

abbrev pub Queries : Whole → Query → Asking → Type 0
Queries k e m = (p : Places) → is_some (k p) ≡ true → m p ≡ record { shape = k p; it = e }

abbrev pub relation : Relation typing rebuilding elaborating
relation = record {
  Exprs = Exprs;
  Sources = Sources;
  Froms = Froms;
  Items = Items;
  Keys = Keys;
  Queries = Queries;
  Recursives = λ x y z. Unit {0};
  Selects = Selects;
}

-- ---- a minus

pub minus_plain : (p : Places) (k : Term) (e : Expr) (m : Making) → Exprs k e m → right (only_if (is_number (k p) && not (is_integer (k p))) (Of Bigint)) ≡ true
    → negated (m p) ≡ made (only_if (is_number (k p) && not (is_integer (k p))) (Of Bigint)) (expr.Neg e)
minus_plain p k e m h r =
    let b = only_true (is_number (k p) && not (is_integer (k p))) (Of Bigint) r in
    let number = and_left (is_number (k p)) _ b in
    let plain = not_false (is_integer (k p)) (and_right (is_number (k p)) _ b) in
    ap negated (h p (number_right (k p) number))
    ∙ (λ i. made (if plain i then Of Integer else only_if (is_number (k p)) (Of Bigint)) (if plain i then expr.NegSmall e else expr.Neg e))
    ∙ (λ i. made (only_if (number i) (Of Bigint)) (expr.Neg e))
    ∙ sym (λ i. made (only_if (number i && not (plain i)) (Of Bigint)) (expr.Neg e))

pub minus_small : (p : Places) (k : Term) (e : Expr) (m : Making) → Exprs k e m → right (only_if (is_integer (k p)) (Of Integer)) ≡ true
    → negated (m p) ≡ made (only_if (is_integer (k p)) (Of Integer)) (expr.NegSmall e)
unfolding only_if
minus_small p k e m h r =
    let small = only_true (is_integer (k p)) (Of Integer) r in
    ap negated (h p (integer_right (k p) small))
    ∙ (λ i. made (if small i then Of Integer else only_if (is_number (k p)) (Of Bigint)) (if small i then expr.NegSmall e else expr.Neg e))
    ∙ sym (λ i. made (only_if (small i) (Of Integer)) (expr.NegSmall e))

-- ---- a chain

-- the whole has a type only where its beginning has one
pub begun : (p : Places) (ls : List (ChainOp × Term)) (k : Kind) → right (t.chained p ls k) ≡ true → right k ≡ true
begun p [] k h = h
begun p (l ∷ ls) k h = (pair_right l.0 k (l.1 p) (begun p ls (pair l.0 k (l.1 p)) h)).0

abbrev pub link_at : Places → ChainOp × Making → ChainOp × MadeExpr
link_at p l = (l.0, l.1 p)

pub links_marked : (p : Places) (xs : List (ChainOp × Term)) (zs : List (ChainOp × Expr)) (ms : List (ChainOp × Making)) → Alike (AlikeLink Exprs) xs zs ms → (k : Kind) → right (t.chained p xs k) ≡ true
    → (chain_kind (marked_links k (map (link_at p) ms)) k ≡ t.chained p xs k) × (link_trees (marked_links k (map (link_at p) ms)) ≡ zs)
links_marked p [] [] [] r k h = (refl, refl)
links_marked p (x ∷ xs) (z ∷ zs) (m ∷ ms) r k h =
    let here = begun p xs (pair x.0 k (x.1 p)) h in
    let both = pair_right x.0 k (x.1 p) here in
    let is : m.1 p ≡ made (x.1 p) z.1 = r.0.2 p both.1 in
    let op : marked_op m.0 k (m.1 p).kind ≡ x.0 = (λ i. marked_op (r.0.1 i) k (is i).kind) ∙ mark_right x.0 k (x.1 p) here in
    let next : next_kind m.0 k (m.1 p).kind ≡ pair x.0 k (x.1 p) = λ i. pair (op i) k (is i).kind in
    let rest = links_marked p xs zs ms r.1 (pair x.0 k (x.1 p)) h in (
      (λ i. chain_kind (marked_links (next i) (map (link_at p) ms)) (next i)) ∙ rest.0,
      (λ i. ((op ∙ sym r.0.0) i, (is i).it) ∷ ((λ j. link_trees (marked_links (next j) (map (link_at p) ms))) ∙ rest.1) i),
    )
links_marked p _ _ _ r k h = absurd r

-- ---- lists

pub exprs_marked : (p : Places) (xs : List Term) (zs : List Expr) (ms : List Making) → Alike Exprs xs zs ms → all_right (map (λ k. k p) xs) ≡ true
    → (kinds_of (all_made p ms) ≡ map (λ k. k p) xs) × (trees_of (all_made p ms) ≡ zs)
exprs_marked p [] [] [] r h = (refl, refl)
exprs_marked p (x ∷ xs) (z ∷ zs) (m ∷ ms) r h =
    let is = r.0 p (and_left (right (x p)) _ h) in
    let rest = exprs_marked p xs zs ms r.1 (and_right (right (x p)) _ h) in
    ((λ i. (is i).kind ∷ rest.0 i), (λ i. (is i).it ∷ rest.1 i))
exprs_marked p _ _ _ r h = absurd r

abbrev pub right_option : Option Kind → Bool
right_option None = true
right_option (Some k) = right k

pub option_marked : (p : Places) (x : Option Term) (z : Option Expr) (m : Option Making) → AlikeOption Exprs x z m → right_option (option_map (λ k. k p) x) ≡ true
    → (option_map (λ (m : MadeExpr). m.kind) (option_map (λ (m : Making). m p) m) ≡ option_map (λ k. k p) x) × (option_map (λ (m : MadeExpr). m.it) (option_map (λ (m : Making). m p) m) ≡ z)
option_marked p None None None r h = (refl, refl)
option_marked p (Some x) (Some z) (Some m) r h = let is = r p h in (ap (λ (m : MadeExpr). Some m.kind) is, ap (λ (m : MadeExpr). Some m.it) is)
option_marked p _ _ _ r h = absurd r

other_right : (o : Option Kind) → right (kind_or_null o) ≡ true → right_option o ≡ true
other_right None h = refl
other_right (Some k) h = h

-- ---- CASE

abbrev arm_at : Places → Making × Making → MadeExpr × MadeExpr
arm_at p a = (a.0 p, a.1 p)

abbrev arm_tree : MadeExpr × MadeExpr → Expr × Expr
arm_tree a = (a.0.it, a.1.it)

all_tested : (p : Places) (xs : List (Term × Term)) (b : Bool) → fold (λ all (arm : Term × Term). all && fits Boolean (arm.0 p)) b xs ≡ true → (b ≡ true) × (list_all (λ (arm : Term × Term). fits Boolean (arm.0 p)) xs ≡ true)
all_tested p [] b h = (h, refl)
all_tested p (x ∷ xs) b h =
    let rest = all_tested p xs (b && fits Boolean (x.0 p)) h in
    (and_left b _ rest.0, (λ i. and_right b _ rest.0 i && rest.1 i))

arms_marked : (p : Places) (xs : List (Term × Term)) (zs : List (Expr × Expr)) (ms : List (Making × Making)) → Alike (AlikeArm Exprs) xs zs ms
    → list_all (λ (arm : Term × Term). fits Boolean (arm.0 p)) xs ≡ true → all_right (map (λ (arm : Term × Term). arm.1 p) xs) ≡ true → (b : Bool)
    → (fold (λ all (arm : MadeExpr × MadeExpr). all && fits Boolean arm.0.kind) b (map (arm_at p) ms) ≡ fold (λ all (arm : Term × Term). all && fits Boolean (arm.0 p)) b xs)
    × (map (λ (arm : MadeExpr × MadeExpr). arm.1.kind) (map (arm_at p) ms) ≡ map (λ (arm : Term × Term). arm.1 p) xs)
    × (map arm_tree (map (arm_at p) ms) ≡ zs)
arms_marked p [] [] [] r h k b = (refl, refl, refl)
arms_marked p (x ∷ xs) (z ∷ zs) (m ∷ ms) r h k b =
    let is = r.0.0 p (fits_right Boolean (x.0 p) (and_left (fits Boolean (x.0 p)) _ h)) in
    let behind = r.0.1 p (and_left (right (x.1 p)) _ k) in
    let rest = arms_marked p xs zs ms r.1 (and_right (fits Boolean (x.0 p)) _ h) (and_right (right (x.1 p)) _ k) (b && fits Boolean (x.0 p)) in (
      (λ i. fold (λ all (arm : MadeExpr × MadeExpr). all && fits Boolean arm.0.kind) (b && fits Boolean (is i).kind) (map (arm_at p) ms)) ∙ rest.0,
      (λ i. (behind i).kind ∷ rest.1 i),
      (λ i. ((is i).it, (behind i).it) ∷ rest.2 i),
    )
arms_marked p _ _ _ r h k b = absurd r

pub cases_marked : (p : Places) (xs : List (Term × Term)) (zs : List (Expr × Expr)) (ms : List (Making × Making)) (x : Option Term) (z : Option Expr) (m : Option Making) → Alike (AlikeArm Exprs) xs zs ms → AlikeOption Exprs x z m
    → right (only_if (t.tested p xs) (settled (meet (t.chosen p xs) (kind_or_null (option_map (λ k. k p) x))))) ≡ true
    → elaborating.expr (ex.Cases ms m) p ≡ made (only_if (t.tested p xs) (settled (meet (t.chosen p xs) (kind_or_null (option_map (λ k. k p) x))))) (expr.Cases zs z)
cases_marked p xs zs ms x z m r s h =
    let values = meet (t.chosen p xs) (kind_or_null (option_map (λ k. k p) x)) in
    let tests = only_true (t.tested p xs) (settled values) h in
    let both = meet_right (t.chosen p xs) (kind_or_null (option_map (λ k. k p) x)) (settled_right values (only_right (t.tested p xs) (settled values) h)) in
    let arms = arms_marked p xs zs ms r (all_tested p xs true tests).1 (common_right (map (λ (arm : Term × Term). arm.1 p) xs) both.0) true in
    let other = option_marked p x z m s (other_right (option_map (λ k. k p) x) both.1) in
    λ i. made (only_if (arms.0 i) (settled (meet (common (arms.1 i)) (kind_or_null (other.0 i))))) (expr.Cases (arms.2 i) (other.1 i))
