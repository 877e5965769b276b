-- Lists of tables that agree before a place give the same meaning to what reads only tables before it.
use Rattle.std.proofs.Common.{◌≡◌, refl, ap, ℕ, suc, Bool, true, ◌&&◌, nat_lt, List, [], ◌∷◌, slice_index_or, Option, Some, None, Ok}
use Rattle.std.specs.List.{list_all}
use Rattle.away_values.specs.declared.values.Value.{Value}
use Rattle.away_values.specs.declared.operators.ChainOp.{ChainOp}
use Rattle.away_trees.specs.declared.queries.Expr.{Expr}
use Rattle.away_values.specs.Results.{Or}
use Rattle.away_trees.specs.Algebra.{expr_of}
use Rattle.sql_meaning.specs.Context.{Rows, Context}
use Rattle.sql_meaning.specs.Expressions.{ExprMeaning, SourceMeaning, FromMeaning, SelectMeaning, KeyMeaning, QueryMeaning}
use Rattle.sql_meaning.specs.Meaning.{meaning}
use Rattle.sql_meaning.specs.Selects.{place_of}
use Rattle.sql_meaning.proofs.Related.{Alike, AlikeOption, AlikeLink, AlikeArm, Relation, IsKept, expr_related}
use Rattle.sql_meaning.proofs.Lists.{Zipped, ZippedOption}
use Rattle.sql_meaning.proofs.Uses.{and_first, and_second}
use Rattle.sql_meaning.proofs.Same as same
use Rattle.sql_eval.specs.Places.{AtColumns, placing, all_true, true_or_none, expr_within}

-- ---- related lists, where all that the second one says is true

pub zipped : {X U Z : Type 0} (R : X → U → Z → Type 0) (S : X → Z → Type 0) (part : U → Bool) → ((x : X) (u : U) (z : Z) → R x u z → part u ≡ true → S x z) → (xs : List X) (us : List U) (zs : List Z) → Alike R xs us zs → list_all part us ≡ true → Zipped S xs zs
zipped R S part go [] [] [] r h = tt
zipped R S part go (x ∷ xs) (u ∷ us) (z ∷ zs) r h = (go x u z r.0 (and_first (part u) _ h), zipped R S part go xs us zs r.1 (and_second (part u) _ h))
zipped R S part go _ _ _ r h = absurd r

pub zipped_option : {X Z : Type 0} (R : X → Bool → Z → Type 0) (S : X → Z → Type 0) → ((x : X) (u : Bool) (z : Z) → R x u z → u ≡ true → S x z) → (x : Option X) (u : Option Bool) (z : Option Z) → AlikeOption R x u z → true_or_none u ≡ true → ZippedOption S x z
zipped_option R S go None None None r h = tt
zipped_option R S go (Some x) (Some u) (Some z) r h = go x u z r h
zipped_option R S go _ _ _ r h = absurd r

-- what stands outside a query
abbrev pub around : List Rows → List Value → same.Surroundings
around tables args = record { env = []; args = args; outer = []; tables = tables }

module _ (T U : List Rows) (args : List Value) (n : ℕ) where
  abbrev one : same.Surroundings
  one = around T args

  abbrev two : same.Surroundings
  two = around U args

  abbrev Gives : {A : Type 0} → ℕ → (Context → Or A) → (Context → Or A) → Type 0
  Gives {A} = same.Gives one two {A = A}

  abbrev pub Same : ℕ → ExprMeaning → ExprMeaning → Type 0
  Same = same.Same one two

  abbrev pub SameKey : ℕ → KeyMeaning → KeyMeaning → Type 0
  SameKey = same.SameKey one two

  abbrev SameFrom : ℕ → FromMeaning → FromMeaning → Type 0
  SameFrom = same.SameFrom one two

  -- where it reads only tables before the place, its meaning is the same over both
  abbrev Exprs : ExprMeaning → Bool → ExprMeaning → Type 0
  Exprs x u z = u ≡ true → (d : ℕ) → Same d x z

  abbrev Keys : KeyMeaning → Bool → KeyMeaning → Type 0
  Keys x u z = u ≡ true → (d : ℕ) → SameKey d x z

  abbrev Sources : SourceMeaning → AtColumns → SourceMeaning → Type 0
  Sources x u z = (columns : List (List ℕ)) → u columns ≡ true → (d : ℕ) → SameFrom d (x columns) (z columns)

  abbrev Froms : FromMeaning → Bool → FromMeaning → Type 0
  Froms x u z = u ≡ true → (d : ℕ) → SameFrom d x z

  abbrev Selects : SelectMeaning → Bool → SelectMeaning → Type 0
  Selects x u z = u ≡ true → (d : ℕ) → Gives d x z

  abbrev Queries : QueryMeaning → Bool → QueryMeaning → Type 0
  Queries x u z = u ≡ true → (d : ℕ) → Gives d x.rows z.rows

  abbrev relation : Relation meaning (placing n) meaning
  relation =
      record {
        Exprs = Exprs;
        Sources = Sources;
        Froms = Froms;
        Items = Exprs;
        Keys = Keys;
        Queries = Queries;
        Recursives = λ x u z. Unit {0};
        Selects = Selects;
      }

  -- ---- lists of parts

  exprs : (d : ℕ) (xs : List ExprMeaning) (us : List Bool) (zs : List ExprMeaning) → Alike Exprs xs us zs → all_true us ≡ true → Zipped (Same d) xs zs
  exprs d xs us zs r h = zipped Exprs (λ x z. Same d x z) (λ u. u) (λ x u z r h. r h d) xs us zs r h

  option : (d : ℕ) (x : Option ExprMeaning) (u : Option Bool) (z : Option ExprMeaning) → AlikeOption Exprs x u z → true_or_none u ≡ true → ZippedOption (Same d) x z
  option d x u z r h = zipped_option Exprs (λ x z. Same d x z) (λ x u z r h. r h d) x u z r h

  links : (d : ℕ) (xs : List (ChainOp × ExprMeaning)) (us : List (ChainOp × Bool)) (zs : List (ChainOp × ExprMeaning)) → Alike (AlikeLink Exprs) xs us zs → list_all (λ (l : ChainOp × Bool). l.1) us ≡ true → Zipped (same.SameLink one two d) xs zs
  links d xs us zs r h = zipped (AlikeLink Exprs) (λ x z. same.SameLink one two d x z) (λ (l : ChainOp × Bool). l.1) (λ x u z r h. (r.1, r.2 h d)) xs us zs r h

  arms : (d : ℕ) (xs : List (ExprMeaning × ExprMeaning)) (us : List (Bool × Bool)) (zs : List (ExprMeaning × ExprMeaning)) → Alike (AlikeArm Exprs) xs us zs → list_all (λ (a : Bool × Bool). a.0 && a.1) us ≡ true → Zipped (same.SameArm one two d) xs zs
  arms d xs us zs r h =
      zipped (AlikeArm Exprs) (λ x z. same.SameArm one two d x z) (λ (a : Bool × Bool). a.0 && a.1) (λ x u z r h. (r.0 (and_first u.0 u.1 h) d, r.1 (and_second u.0 u.1 h) d)) xs us zs r h

  keys : (d : ℕ) (xs : List KeyMeaning) (us : List Bool) (zs : List KeyMeaning) → Alike Keys xs us zs → all_true us ≡ true → Zipped (SameKey d) xs zs
  keys d xs us zs r h = zipped Keys (λ x z. SameKey d x z) (λ u. u) (λ x u z r h. r h d) xs us zs r h

  froms : (d : ℕ) (xs : List FromMeaning) (us : List Bool) (zs : List FromMeaning) → Alike Froms xs us zs → all_true us ≡ true → Zipped (SameFrom d) xs zs
  froms d xs us zs r h = zipped Froms (λ x z. SameFrom d x z) (λ u. u) (λ x u z r h. r h d) xs us zs r h

  selects : (d : ℕ) (xs : List SelectMeaning) (us : List Bool) (zs : List SelectMeaning) → Alike Selects xs us zs → all_true us ≡ true → Zipped (Gives d) xs zs
  selects d xs us zs r h = zipped Selects (λ x z. Gives d x z) (λ u. u) (λ x u z r h. r h d) xs us zs r h

  -- ---- all steps

  module _ (agree : (k : ℕ) → nat_lt k n ≡ true → slice_index_or U k [] ≡ slice_index_or T k []) where
    steps : IsKept meaning (placing n) meaning relation
    steps =
        record {
          no_expr = λ h d. (refl, λ l g r. refl);
          no_query = λ h d l g r. refl;
          int = λ m h d. (refl, λ l g r. refl);
          str = λ t h d. (refl, λ l g r. refl);
          bool = λ v h d. (refl, λ l g r. refl);
          null = λ h d. (refl, λ l g r. refl);
          named = λ t h d. (refl, λ l g r. refl);
          qualified = λ t s h d. (refl, λ l g r. refl);
          slot = λ i h d. (refl, λ l g r. refl);
          column = λ c h d. (refl, λ l g r. refl);
          param = λ i t h d. (refl, λ l g r. refl);
          neg = λ x u z k h d. same.neg_same one two d x z (k h d);
          neg_small = λ x u z k h d. same.neg_small_same one two d x z (k h d);
          not = λ x u z k h d. same.not_same one two d x z (k h d);
          is = λ x u z test negative k h d. same.is_same one two d x z test negative (k h d);
          chain = λ x u z xs us zs k r h d. same.chain_same one two d x z xs zs (k (and_first u _ h) d) (links d xs us zs r (and_second u _ h));
          compare = λ op x₁ x₂ u₁ u₂ z₁ z₂ k₁ k₂ h d. same.compare_same one two d op x₁ x₂ z₁ z₂ (k₁ (and_first u₁ u₂ h) d) (k₂ (and_second u₁ u₂ h) d);
          between = λ v x₁ x₂ x₃ u₁ u₂ u₃ z₁ z₂ z₃ k₁ k₂ k₃ h d.
              let rest = and_second u₁ (u₂ && u₃) h in
              same.between_same one two d v x₁ x₂ x₃ z₁ z₂ z₃ (k₁ (and_first u₁ (u₂ && u₃) h) d) (k₂ (and_first u₂ u₃ rest) d) (k₃ (and_second u₂ u₃ rest) d);
          one_of = λ v x u z xs us zs k r h d. same.one_of_same one two d v x z xs zs (k (and_first u _ h) d) (exprs d xs us zs r (and_second u _ h));
          cast = λ x u z t k h d. same.cast_same one two d x z t (k h d);
          cases = λ xs us zs x u z r k h d. same.cases_same one two d xs zs x z (arms d xs us zs r (and_first (list_all (λ (a : Bool × Bool). a.0 && a.1) us) _ h)) (option d x u z k (and_second (list_all (λ (a : Bool × Bool). a.0 && a.1) us) _ h));
          call = λ name xs us zs r h d. same.call_same one two d name xs zs (exprs d xs us zs r h);
          count_rows = λ h d. (refl, λ l g r. refl);
          scalar = λ x u z k h d. same.scalar_same one two d x z (k h d);
          exists = λ x u z k h d. same.exists_same one two d x z (k h d);
          table = λ name columns h d frame l g r. ap Ok (agree (place_of columns) h);
          sub = λ x u z lateral k columns h d frame l g r. same.sub_same one two d x z lateral (k h (suc d)) frame l g r;
          from = λ x u z alias columns k h d. k columns h d;
          item = λ x u z alias k. k;
          key = λ x u z descending k h d. (refl, (k h d).1);
          select = λ l₁ l₂ l₃ f₁ f₂ f₃ w₁ w₂ w₃ o₁ o₂ o₃ m₁ m₂ m₃ lr fr wr kr mr h d.
              let h₁ = and_second (all_true l₂) _ h in
              let h₂ = and_second (all_true f₂) _ h₁ in
              let h₃ = and_second (true_or_none w₂) _ h₂ in
              same.select_same one two d l₁ l₃ f₁ f₃ w₁ w₃ o₁ o₃ m₁ m₃ (exprs (suc d) l₁ l₂ l₃ lr (and_first (all_true l₂) _ h)) (froms d f₁ f₂ f₃ fr (and_first (all_true f₂) _ h₁)) (option (suc d) w₁ w₂ w₃ wr (and_first (true_or_none w₂) _ h₂)) (keys (suc d) o₁ o₂ o₃ kr (and_first (all_true o₂) _ h₃)) (option (suc d) m₁ m₂ m₃ mr (and_second (all_true o₂) _ h₃));
          recursive = λ name columns xs us zs x u z r k. tt;
          query = λ x u z xs us zs h r p d l g ready. same.union_same one two d xs zs (selects d xs us zs r p) l g ready;
        }

    pub expr_same : (e : Expr) → expr_within n e ≡ true → (d : ℕ) → Same d (expr_of meaning e) (expr_of meaning e)
    unfolding expr_within
    expr_same e h d = expr_related meaning (placing n) meaning relation steps e h d
