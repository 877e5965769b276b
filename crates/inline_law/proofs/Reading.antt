-- An expression has the same value in two contexts that see the same columns and agree on what else it reads.
use Rattle.std.proofs.Common.{◌≡◌, refl, ap, ℕ, suc, Bool, true, List, [], ◌++◌, slice_index_or, Option, Ok}
use Rattle.std.specs.List.{list_all, flat_map}
use Rattle.away_values.specs.declared.operators.ChainOp.{ChainOp}
use Rattle.away_trees.specs.declared.queries.Expr.{Expr}
use Rattle.away_trees.specs.declared.queries.Query.{Query}
use Rattle.away_values.specs.Results.{Or}
use Rattle.away_trees.specs.Algebra.{expr_of, query_of}
use Rattle.sql_meaning.specs.Context.{Context, argument, at, column}
use Rattle.sql_meaning.specs.Expressions.{ExprMeaning, SourceMeaning, FromMeaning, SelectMeaning, KeyMeaning, QueryMeaning}
use Rattle.sql_meaning.specs.Meaning.{meaning}
use Rattle.sql_meaning.specs.Reads.{Read, Table, Reads, SourceReads, reading, of_list, of_option}
use Rattle.sql_meaning.specs.Selects.{place_of}
use Rattle.sql_meaning.proofs.Related.{Alike, AlikeOption, AlikeLink, AlikeArm, Relation, IsKept, expr_related, query_related}
use Rattle.sql_meaning.proofs.Lists.{Zipped, ZippedOption}
use Rattle.sql_meaning.proofs.Uses.{and_first, left, right, zipped, zipped_option}
use Rattle.sql_meaning.proofs.Same as same

module _ (one two : same.Surroundings) (ok : Read → Bool) where
  abbrev Gives : {A : Type 0} → ℕ → (Context → Or A) → (Context → Or A) → Type 0
  Gives {A} = same.Gives one two {A = A}

  abbrev Same : ℕ → ExprMeaning → ExprMeaning → Type 0
  Same = same.Same one two

  abbrev SameKey : ℕ → KeyMeaning → KeyMeaning → Type 0
  SameKey = same.SameKey one two

  abbrev SameFrom : ℕ → FromMeaning → FromMeaning → Type 0
  SameFrom = same.SameFrom one two

  -- where what it reads is allowed, its meaning is the same in both
  abbrev Exprs : ExprMeaning → Reads → ExprMeaning → Type 0
  Exprs x u z = (d : ℕ) → list_all ok (u d) ≡ true → Same d x z

  abbrev Keys : KeyMeaning → Reads → KeyMeaning → Type 0
  Keys x u z = (d : ℕ) → list_all ok (u d) ≡ true → SameKey d x z

  abbrev Sources : SourceMeaning → SourceReads → SourceMeaning → Type 0
  Sources x u z = (d : ℕ) (columns : List (List ℕ)) → list_all ok (u columns (suc d)) ≡ true → SameFrom d (x columns) (z columns)

  abbrev Froms : FromMeaning → Reads → FromMeaning → Type 0
  Froms x u z = (d : ℕ) → list_all ok (u (suc d)) ≡ true → SameFrom d x z

  abbrev Selects : SelectMeaning → Reads → SelectMeaning → Type 0
  Selects x u z = (d : ℕ) → list_all ok (u d) ≡ true → Gives d x z

  abbrev Queries : QueryMeaning → Reads → QueryMeaning → Type 0
  Queries x u z = (d : ℕ) → list_all ok (u d) ≡ true → Gives d x.rows z.rows

  abbrev relation : Relation meaning reading meaning
  relation =
      record {
        Exprs = Exprs;
        Sources = Sources;
        Froms = Froms;
        Items = Exprs;
        Keys = Keys;
        Queries = Queries;
        Recursives = λ x u z. Unit {0};
        Selects = Selects;
      }

  -- ---- lists of parts

  exprs : (d : ℕ) (xs : List ExprMeaning) (us : List Reads) (zs : List ExprMeaning) → Alike Exprs xs us zs → list_all ok (of_list d us) ≡ true
      → Zipped (Same d) xs zs
  exprs d xs us zs r h = zipped ok Exprs (λ x z. Same d x z) (λ u. u d) (λ x u z r h. r d h) xs us zs r h

  option : (d : ℕ) (x : Option ExprMeaning) (u : Option Reads) (z : Option ExprMeaning) → AlikeOption Exprs x u z → list_all ok (of_option d u) ≡ true
      → ZippedOption (Same d) x z
  option d x u z r h = zipped_option ok Exprs (λ x z. Same d x z) d (λ x u z r h. r d h) x u z r h

  links : (d : ℕ) (xs : List (ChainOp × ExprMeaning)) (us : List (ChainOp × Reads)) (zs : List (ChainOp × ExprMeaning))
      → Alike (AlikeLink Exprs) xs us zs → list_all ok (flat_map (λ (l : ChainOp × Reads). l.1 d) us) ≡ true → Zipped (same.SameLink one two d) xs zs
  links d xs us zs r h =
      zipped ok (AlikeLink Exprs) (λ x z. same.SameLink one two d x z) (λ (l : ChainOp × Reads). l.1 d) (λ x u z r h. (r.1, r.2 d h)) xs us zs r h

  abbrev arm_reads : ℕ → Reads × Reads → List Read
  arm_reads d a = a.0 d ++ a.1 d

  arms : (d : ℕ) (xs : List (ExprMeaning × ExprMeaning)) (us : List (Reads × Reads)) (zs : List (ExprMeaning × ExprMeaning))
      → Alike (AlikeArm Exprs) xs us zs → list_all ok (flat_map (λ a. arm_reads d a) us) ≡ true → Zipped (same.SameArm one two d) xs zs
  arms d xs us zs r h =
      zipped ok (AlikeArm Exprs) (λ x z. same.SameArm one two d x z) (λ a. arm_reads d a) (λ x u z r h. (r.0 d (left ok (u.0 d) (u.1 d) h), r.1 d (right ok (u.0 d) (u.1 d) h))) xs us zs r h

  keys : (d : ℕ) (xs : List KeyMeaning) (us : List Reads) (zs : List KeyMeaning) → Alike Keys xs us zs → list_all ok (of_list d us) ≡ true
      → Zipped (SameKey d) xs zs
  keys d xs us zs r h = zipped ok Keys (λ x z. SameKey d x z) (λ u. u d) (λ x u z r h. r d h) xs us zs r h

  froms : (d : ℕ) (xs : List FromMeaning) (us : List Reads) (zs : List FromMeaning) → Alike Froms xs us zs → list_all ok (of_list (suc d) us) ≡ true
      → Zipped (SameFrom d) xs zs
  froms d xs us zs r h = zipped ok Froms (λ x z. SameFrom d x z) (λ u. u (suc d)) (λ x u z r h. r d h) xs us zs r h

  selects : (d : ℕ) (xs : List SelectMeaning) (us : List Reads) (zs : List SelectMeaning) → Alike Selects xs us zs → list_all ok (of_list d us) ≡ true
      → Zipped (Gives d) xs zs
  selects d xs us zs r h = zipped ok Selects (λ x z. Gives d x z) (λ u. u d) (λ x u z r h. r d h) xs us zs r h

  -- ---- all steps

  module _ (agree : (i : ℕ) → at two.env i ≡ at one.env i) (given : (i : ℕ) → argument two.args i ≡ argument one.args i) (sees : two.outer ≡ one.outer)
      (stands : (k : ℕ) → ok (Table k) ≡ true → slice_index_or two.tables k [] ≡ slice_index_or one.tables k []) where
    steps : IsKept meaning reading meaning relation
    steps =
        record {
          no_expr = λ d h. (refl, λ l g r. refl);
          no_query = λ d h l g r. refl;
          int = λ n d h. (refl, λ l g r. refl);
          str = λ t d h. (refl, λ l g r. refl);
          bool = λ v d h. (refl, λ l g r. refl);
          null = λ d h. (refl, λ l g r. refl);
          named = λ t d h. (refl, λ l g r. refl);
          qualified = λ t s d h. (refl, λ l g r. refl);
          slot = λ i d h. (refl, λ l g r. ap Ok (agree i));
          column = λ c d h. (refl, λ l g r. ap (λ outer. Ok (column (l ++ outer) c)) sees);
          param = λ i t d h. (refl, λ l g r. ap Ok (given i));
          neg = λ x u z k d h. same.neg_same one two d x z (k d h);
          neg_small = λ x u z k d h. same.neg_small_same one two d x z (k d h);
          not = λ x u z k d h. same.not_same one two d x z (k d h);
          is = λ x u z test negative k d h. same.is_same one two d x z test negative (k d h);
          chain = λ x u z xs us zs k r d h. same.chain_same one two d x z xs zs (k d (left ok (u d) _ h)) (links d xs us zs r (right ok (u d) _ h));
          compare = λ op x₁ x₂ u₁ u₂ z₁ z₂ k₁ k₂ d h. same.compare_same one two d op x₁ x₂ z₁ z₂ (k₁ d (left ok (u₁ d) _ h)) (k₂ d (right ok (u₁ d) _ h));
          between = λ v x₁ x₂ x₃ u₁ u₂ u₃ z₁ z₂ z₃ k₁ k₂ k₃ d h. same.between_same one two d v x₁ x₂ x₃ z₁ z₂ z₃ (k₁ d (left ok (u₁ d) _ h)) (k₂ d (left ok (u₂ d) _ (right ok (u₁ d) _ h))) (k₃ d (right ok (u₂ d) _ (right ok (u₁ d) _ h)));
          one_of = λ v x u z xs us zs k r d h. same.one_of_same one two d v x z xs zs (k d (left ok (u d) _ h)) (exprs d xs us zs r (right ok (u d) _ h));
          cast = λ x u z t k d h. same.cast_same one two d x z t (k d h);
          cases = λ xs us zs x u z r k d h. same.cases_same one two d xs zs x z (arms d xs us zs r (left ok (flat_map (λ a. arm_reads d a) us) _ h)) (option d x u z k (right ok (flat_map (λ a. arm_reads d a) us) _ h));
          call = λ name xs us zs r d h. same.call_same one two d name xs zs (exprs d xs us zs r h);
          count_rows = λ d h. (refl, λ l g r. refl);
          scalar = λ x u z k d h. same.scalar_same one two d x z (k d h);
          exists = λ x u z k d h. same.exists_same one two d x z (k d h);
          table = λ name d columns h frame l g r. ap Ok (stands (place_of columns) (and_first (ok (Table (place_of columns))) true h));
          sub = λ x u z lateral k d columns h frame l g r. same.sub_same one two d x z lateral (k (suc d) h) frame l g r;
          from = λ x u z alias columns k d h. k d columns h;
          item = λ x u z alias k. k;
          key = λ x u z descending k d h. (refl, (k d h).1);
          select = λ l₁ l₂ l₃ f₁ f₂ f₃ w₁ w₂ w₃ o₁ o₂ o₃ m₁ m₂ m₃ lr fr wr kr mr d h.
              let h₁ = right ok (of_list (suc d) l₂) _ h in
              let h₂ = right ok (of_list (suc d) f₂) _ h₁ in
              let h₃ = right ok (of_option (suc d) w₂) _ h₂ in
              same.select_same one two d l₁ l₃ f₁ f₃ w₁ w₃ o₁ o₃ m₁ m₃ (exprs (suc d) l₁ l₂ l₃ lr (left ok (of_list (suc d) l₂) _ h)) (froms d f₁ f₂ f₃ fr (left ok (of_list (suc d) f₂) _ h₁)) (option (suc d) w₁ w₂ w₃ wr (left ok (of_option (suc d) w₂) _ h₂)) (keys (suc d) o₁ o₂ o₃ kr (left ok (of_list (suc d) o₂) _ h₃)) (option (suc d) m₁ m₂ m₃ mr (right ok (of_list (suc d) o₂) _ h₃));
          recursive = λ name columns xs us zs x u z r k. tt;
          query = λ x u z xs us zs h r d p l g ready. same.union_same one two d xs zs (selects d xs us zs r p) l g ready;
        }

    pub reads_same : (d : ℕ) (e : Expr) → list_all ok (expr_of reading e d) ≡ true → Same d (expr_of meaning e) (expr_of meaning e)
    reads_same d e h = expr_related meaning reading meaning relation steps e d h

    pub query_same : (d : ℕ) (q : Query) → list_all ok (query_of reading q d) ≡ true → Gives d (query_of meaning q).rows (query_of meaning q).rows
    query_same d q h = query_related meaning reading meaning relation steps q d h
