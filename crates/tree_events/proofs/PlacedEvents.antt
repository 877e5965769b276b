-- The events of a placed expression are those of the expression, placed.
use Rattle.std.proofs.Common.{◌≡◌, refl, ap, sym, ◌∙◌, ℕ, suc, List, [], ◌∷◌, map, Option, Some, None, option_map}
use Rattle.away_values.specs.declared.types.Ty.TheVariants as ty
use Rattle.away_values.specs.Operators.{literal_type}
use Rattle.away_values.specs.declared.operators.ChainOp.{ChainOp}
use Rattle.away_trees.specs.declared.queries.Col.{Col}
use Rattle.away_trees.specs.declared.queries.Expr.{Expr}
use Rattle.away_trees.specs.declared.queries.Expr.TheVariants as expr
use Rattle.away_trees.specs.declared.queries.Expr.TheOpen as ex
use Rattle.away_trees.specs.declared.queries.Source.{Source}
use Rattle.away_trees.specs.declared.queries.FromItem.{FromItem}
use Rattle.away_trees.specs.declared.queries.Item.{Item}
use Rattle.away_trees.specs.declared.queries.Key.{Key}
use Rattle.away_trees.specs.declared.queries.Select.{Select}
use Rattle.away_trees.specs.declared.queries.Recursive.{Recursive}
use Rattle.away_trees.specs.declared.queries.Query.{Query}
use Rattle.away_trees.specs.Algebra.{expr_of, item_of, key_of, source_of, from_of, select_of, recursive_of, query_of}
use Rattle.away_trees.proofs.Equations as eq
use Rattle.sql_meaning.specs.Placed.{Deep, replacing, column_of, with_cast, placed}
use Rattle.sql_meaning.proofs.Related.{Alike, AlikeOption, AlikeLink, AlikeArm, Relation, IsKept, expr_related}
use Rattle.tree_events.specs.declared.events.Kind.{Kind}
use Rattle.tree_events.specs.declared.events.Kind.TheVariants as kind
use Rattle.tree_events.specs.declared.events.Manner.TheVariants.{Whole}
use Rattle.tree_events.specs.declared.events.TreeEvent.TheVariants as event
use Rattle.tree_events.specs.Events.{Events, Put, SourcePut, node, row, option, itself, link_node, arm_node, else_node, kept_with, shaping, link_put, arm_put, events_of_expr}
use Rattle.tree_events.specs.Placing.{placed_events}
use Rattle.tree_events.proofs.PutNodes as n
use Rattle.tree_events.proofs.PutNodes.{row_map, option_put}

module _ (ref : ℕ → Col) where
  abbrev P : ℕ → Events → Events
  P = placed_events ref

  abbrev E : Expr → Put
  E e = expr_of (shaping Whole) e

  -- ---- the relation of events and of the replaced tree; the third algebra doesn't matter

  abbrev Exprs : Put → Deep Expr → Put → Type 0
  Exprs x z w = (d : ℕ) (rest : Events) → P d (x rest) ≡ E (z d) (P d rest)

  abbrev Sources : SourcePut → Deep Source → SourcePut → Type 0
  Sources x z w = (columns : List (List ℕ)) (d : ℕ) (rest : Events) → P d (x columns rest) ≡ source_of (shaping Whole) (z d) columns (P d rest)

  abbrev Froms : Put → Deep FromItem → Put → Type 0
  Froms x z w = (d : ℕ) (rest : Events) → P d (x rest) ≡ from_of (shaping Whole) (z d) (P d rest)

  abbrev Items : Put → Deep Item → Put → Type 0
  Items x z w = (d : ℕ) (rest : Events) → P d (x rest) ≡ item_of (shaping Whole) (z d) (P d rest)

  abbrev Keys : Put → Deep Key → Put → Type 0
  Keys x z w = (d : ℕ) (rest : Events) → P d (x rest) ≡ key_of (shaping Whole) (z d) (P d rest)

  abbrev Queries : Put → Deep Query → Put → Type 0
  Queries x z w = (d : ℕ) (rest : Events) → P d (x rest) ≡ query_of (shaping Whole) (z d) (P d rest)

  abbrev Recursives : Put → Deep Recursive → Put → Type 0
  Recursives x z w = (d : ℕ) (rest : Events) → P d (x rest) ≡ recursive_of (shaping Whole) (z d) (P d rest)

  abbrev Selects : Put → Deep Select → Put → Type 0
  Selects x z w = (d : ℕ) (rest : Events) → P d (x rest) ≡ select_of (shaping Whole) (z d) (P d rest)

  abbrev relation : Relation (shaping Whole) (replacing (column_of ref) with_cast) (shaping Whole)
  relation =
      record {
        Exprs = Exprs;
        Sources = Sources;
        Froms = Froms;
        Items = Items;
        Keys = Keys;
        Queries = Queries;
        Recursives = Recursives;
        Selects = Selects;
      }

  -- ---- rows of parts

  module _ {X Z Y W : Type 0} (R : X → Z → W → Type 0) (f : X → Put) (d : ℕ) (at : Z → Y) (g : Y → Put) (go : (x : X) (z : Z) (w : W) → R x z w → (rest : Events) → P d (f x rest) ≡ g (at z) (P d rest)) where
    row_placed : (xs : List X) (zs : List Z) (ws : List W) → Alike R xs zs ws → (rest : Events) → P d (row f xs rest) ≡ row g (map at zs) (P d rest)
    row_placed [] [] [] r rest = refl
    row_placed (x ∷ xs) (z ∷ zs) (w ∷ ws) r rest =
        go x z w r.0 (row f xs rest) ∙ ap (g (at z)) (row_placed xs zs ws r.1 rest)
    row_placed _ _ _ r rest = absurd r

    option_placed : (x : Option X) (z : Option Z) (w : Option W) → AlikeOption R x z w → (rest : Events) → P d (option f x rest) ≡ option g (option_map at z) (P d rest)
    option_placed None None None r rest = refl
    option_placed (Some x) (Some z) (Some w) r rest = go x z w r rest
    option_placed _ _ _ r rest = absurd r

  exprs_placed : (d : ℕ) (xs : List Put) (zs : List (Deep Expr)) (ws : List Put) → Alike Exprs xs zs ws → (rest : Events)
      → P d (row itself xs rest) ≡ row (λ x. E x) (map (λ z. z d) zs) (P d rest)
  exprs_placed d = row_placed Exprs itself d (λ z. z d) (λ x. E x) (λ x z w r rest. r d rest)

  optional_placed : (d : ℕ) (x : Option Put) (z : Option (Deep Expr)) (w : Option Put) → AlikeOption Exprs x z w → (rest : Events)
      → P d (option itself x rest) ≡ option (λ x. E x) (option_map (λ z. z d) z) (P d rest)
  optional_placed d = option_placed Exprs itself d (λ z. z d) (λ x. E x) (λ x z w r rest. r d rest)

  abbrev link_at : ℕ → ChainOp × Deep Expr → ChainOp × Expr
  link_at d l = (l.0, l.1 d)

  abbrev arm_at : ℕ → Deep Expr × Deep Expr → Expr × Expr
  arm_at d a = (a.0 d, a.1 d)

  link_placed : (d : ℕ) (x : ChainOp × Put) (z : ChainOp × Deep Expr) (w : ChainOp × Put) → AlikeLink Exprs x z w → (rest : Events)
      → P d (link_node x rest) ≡ link_put Whole (link_at d z) (P d rest)
  link_placed d x z w r rest = (λ i. event.Open (kind.Link (sym r.0 i)) ∷ r.2 d (event.Close ∷ rest) i)

  links_placed : (d : ℕ) (xs : List (ChainOp × Put)) (zs : List (ChainOp × Deep Expr)) (ws : List (ChainOp × Put)) → Alike (AlikeLink Exprs) xs zs ws
      → (rest : Events) → P d (row link_node xs rest) ≡ row (link_put Whole) (map (link_at d) zs) (P d rest)
  links_placed d = row_placed (AlikeLink Exprs) link_node d (link_at d) (link_put Whole) (link_placed d)

  arm_placed : (d : ℕ) (x : Put × Put) (z : Deep Expr × Deep Expr) (w : Put × Put) → AlikeArm Exprs x z w → (rest : Events)
      → P d (arm_node x rest) ≡ arm_put Whole (arm_at d z) (P d rest)
  arm_placed d x z w r rest =
      ap (λ ss. event.Open kind.Arm ∷ ss) (r.0 d (x.1 (event.Close ∷ rest)) ∙ ap (E (z.0 d)) (r.1 d (event.Close ∷ rest)))

  arms_placed : (d : ℕ) (xs : List (Put × Put)) (zs : List (Deep Expr × Deep Expr)) (ws : List (Put × Put)) → Alike (AlikeArm Exprs) xs zs ws
      → (rest : Events) → P d (row arm_node xs rest) ≡ row (arm_put Whole) (map (arm_at d) zs) (P d rest)
  arms_placed d = row_placed (AlikeArm Exprs) arm_node d (arm_at d) (arm_put Whole) (arm_placed d)

  else_placed : (d : ℕ) (x : Option Put) (z : Option (Deep Expr)) (w : Option Put) → AlikeOption Exprs x z w → (rest : Events)
      → P d (option else_node x rest) ≡ option (λ x. node kind.Else (E x)) (option_map (λ z. z d) z) (P d rest)
  else_placed d = option_placed Exprs else_node d (λ z. z d) (λ x. node kind.Else (E x)) (λ x z w r rest. ap (λ ss. event.Open kind.Else ∷ ss) (r d (event.Close ∷ rest)))

  -- ---- nodes

  one : (k : Kind) (x : Put) (z : Deep Expr) (w : Put) (e : Expr) (d : ℕ) (rest : Events) → Exprs x z w → E e ≡ node k (E (z d))
      → event.Open k ∷ P d (x (event.Close ∷ rest)) ≡ E e (P d rest)
  one k x z w e d rest r is = ap (λ ss. event.Open k ∷ ss) (r d (event.Close ∷ rest)) ∙ ap (λ f. f (P d rest)) (sym is)

  query : (k : Kind) (x : Put) (z : Deep Query) (w : Put) (f : Put) (d : ℕ) (rest : Events) → Queries x z w → f ≡ node k (query_of (shaping Whole) (z d))
      → event.Open k ∷ P d (x (event.Close ∷ rest)) ≡ f (P d rest)
  query k x z w f d rest r is = ap (λ ss. event.Open k ∷ ss) (r d (event.Close ∷ rest)) ∙ ap (λ f. f (P d rest)) (sym is)

  group : (k : Kind) (parts other : Put) (d : ℕ) (rest : Events) → ((rest : Events) → P d (parts rest) ≡ other (P d rest))
      → event.Open k ∷ P d (parts (event.Close ∷ rest)) ≡ node k other (P d rest)
  group k parts other d rest go = ap (λ ss. event.Open k ∷ ss) (go (event.Close ∷ rest))

  select : (l₁ : List Put) (l₂ : List (Deep Item)) (l₃ : List Put) (f₁ : List Put) (f₂ : List (Deep FromItem)) (f₃ : List Put) (w₁ : Option Put) (w₂ : Option (Deep Expr)) (w₃ : Option Put)
      (o₁ : List Put) (o₂ : List (Deep Key)) (o₃ : List Put) (m₁ : Option Put) (m₂ : Option (Deep Expr)) (m₃ : Option Put)
      → Alike Items l₁ l₂ l₃ → Alike Froms f₁ f₂ f₃ → AlikeOption Exprs w₁ w₂ w₃ → Alike Keys o₁ o₂ o₃ → AlikeOption Exprs m₁ m₂ m₃
      → Selects ((shaping Whole).select (record { list = l₁; from = f₁; filter = w₁; order = o₁; limit = m₁ })) ((replacing (column_of ref) with_cast).select (record { list = l₂; from = f₂; filter = w₂; order = o₂; limit = m₂ })) ((shaping Whole).select (record { list = l₃; from = f₃; filter = w₃; order = o₃; limit = m₃ }))
  select l₁ l₂ l₃ f₁ f₂ f₃ w₁ w₂ w₃ o₁ o₂ o₃ m₁ m₂ m₃ lr fr wr kr mr d rest =
      let limit = node kind.Limit (option itself m₁) (event.Leave ∷ rest) in
      let order = node kind.Order (row itself o₁) limit in
      let filter = node kind.Filter (option itself w₁) order in
      let list = node kind.List (row itself l₁) filter in
      let L = map (λ (x : Deep Item). x (suc d)) l₂ in
      let F = map (λ (x : Deep FromItem). x (suc d)) f₂ in
      let W = option_map (λ (x : Deep Expr). x (suc d)) w₂ in
      let O = map (λ (x : Deep Key). x (suc d)) o₂ in
      let M = option_map (λ (x : Deep Expr). x (suc d)) m₂ in
      let e1 = group kind.From (row itself f₁) (row (λ x. from_of (shaping Whole) x) F) (suc d) list (row_placed Froms itself (suc d) (λ z. z (suc d)) (λ x. from_of (shaping Whole) x) (λ x z w r rest. r (suc d) rest) f₁ f₂ f₃ fr) in
      let e2 = group kind.List (row itself l₁) (row (λ x. item_of (shaping Whole) x) L) (suc d) filter (row_placed Items itself (suc d) (λ z. z (suc d)) (λ x. item_of (shaping Whole) x) (λ x z w r rest. r (suc d) rest) l₁ l₂ l₃ lr) in
      let e3 = group kind.Filter (option itself w₁) (option (λ x. E x) W) (suc d) order (optional_placed (suc d) w₁ w₂ w₃ wr) in
      let e4 = group kind.Order (row itself o₁) (row (λ x. key_of (shaping Whole) x) O) (suc d) limit (row_placed Keys itself (suc d) (λ z. z (suc d)) (λ x. key_of (shaping Whole) x) (λ x z w r rest. r (suc d) rest) o₁ o₂ o₃ kr) in
      let e5 = group kind.Limit (option itself m₁) (option (λ x. E x) M) (suc d) (event.Leave ∷ rest) (optional_placed (suc d) m₁ m₂ m₃ mr) in
      ap (λ ss. event.Enter ∷ ss) (e1 ∙ ap (n.F Whole F) (e2 ∙ ap (n.L Whole L) (e3 ∙ ap (n.O Whole kind.Filter W) (e4 ∙ ap (n.K Whole O) e5))))
      ∙ n.rolled_select Whole L F W O M (P d rest)

  -- ---- all steps

  steps : IsKept (shaping Whole) (replacing (column_of ref) with_cast) (shaping Whole) relation
  steps =
      record {
        no_expr = λ d rest. refl;
        no_query = λ d rest. ap (λ f. f (P d rest)) (sym (eq.of_query (shaping Whole) []));
        int = λ n d rest. ap (λ f. f (P d rest)) (sym (eq.of_cast (shaping Whole) (expr.Int n) (literal_type n)));
        str = λ t d rest. ap (λ f. f (P d rest)) (sym (eq.of_cast (shaping Whole) (expr.Str t) ty.Text));
        bool = λ v d rest. ap (λ f. f (P d rest)) (sym (eq.of_cast (shaping Whole) (expr.Bool v) ty.Boolean));
        null = λ d rest. refl;
        named = λ t d rest. refl;
        qualified = λ t s d rest. refl;
        slot = λ i d rest. refl;
        column = λ c d rest. refl;
        param = λ i t d rest. refl;
        neg = λ x z w k d rest. one kind.Neg x z w (expr.Neg (z d)) d rest k (eq.of_neg (shaping Whole) (z d));
        neg_small = λ x z w k d rest. one kind.NegSmall x z w (expr.NegSmall (z d)) d rest k (eq.of_negsmall (shaping Whole) (z d));
        not = λ x z w k d rest. one kind.Not x z w (expr.Not (z d)) d rest k (eq.of_not (shaping Whole) (z d));
        is = λ x z w test v k d rest. one (kind.Is test v) x z w (expr.Is (z d) test v) d rest k (eq.of_is (shaping Whole) (z d) test v);
        chain = λ x z w xs zs ws k r d rest.
            ap (λ ss. event.Open kind.Chain ∷ ss) (k d (row link_node xs (event.Close ∷ rest)) ∙ ap (E (z d)) (links_placed d xs zs ws r (event.Close ∷ rest)))
            ∙ n.chain_is Whole (expr.Chain (z d) (map (link_at d) zs)) (z d) (z d) (map (link_at d) zs) (map (link_at d) zs) refl refl refl (P d rest);
        compare = λ op x₁ x₂ z₁ z₂ w₁ w₂ k₁ k₂ d rest.
            ap (λ ss. event.Open (kind.Compare op) ∷ ss) (k₁ d (x₂ (event.Close ∷ rest)) ∙ ap (E (z₁ d)) (k₂ d (event.Close ∷ rest)))
            ∙ ap (λ f. f (P d rest)) (sym (eq.of_compare (shaping Whole) op (z₁ d) (z₂ d)));
        between = λ v x₁ x₂ x₃ z₁ z₂ z₃ w₁ w₂ w₃ k₁ k₂ k₃ d rest.
            ap (λ ss. event.Open (kind.Between v) ∷ ss) (k₁ d (x₂ (x₃ (event.Close ∷ rest))) ∙ ap (E (z₁ d)) (k₂ d (x₃ (event.Close ∷ rest)) ∙ ap (E (z₂ d)) (k₃ d (event.Close ∷ rest))))
            ∙ ap (λ f. f (P d rest)) (sym (eq.of_between (shaping Whole) v (z₁ d) (z₂ d) (z₃ d)));
        one_of = λ v x z w xs zs ws k r d rest.
            ap (λ ss. event.Open (kind.OneOf v) ∷ ss) (k d (row itself xs (event.Close ∷ rest)) ∙ ap (E (z d)) (exprs_placed d xs zs ws r (event.Close ∷ rest)))
            ∙ n.one_of_is Whole v (expr.OneOf v (z d) (map (λ (c : Deep Expr). c d) zs)) (z d) (z d) (map (λ (c : Deep Expr). c d) zs) (map (λ (c : Deep Expr). c d) zs) refl refl refl (P d rest);
        cast = λ x z w t k d rest. one (kind.Cast t) x z w (expr.Cast (z d) t) d rest k (eq.of_cast (shaping Whole) (z d) t);
        cases = λ xs zs ws x z w r k d rest.
            ap (λ ss. event.Open kind.Cases ∷ ss) (arms_placed d xs zs ws r (option else_node x (event.Close ∷ rest)) ∙ ap (row (arm_put Whole) (map (arm_at d) zs)) (else_placed d x z w k (event.Close ∷ rest)))
            ∙ n.cases_is Whole (expr.Cases (map (arm_at d) zs) (option_map (λ (e : Deep Expr). e d) z)) (map (arm_at d) zs) (map (arm_at d) zs) (option_map (λ (e : Deep Expr). e d) z) refl refl (P d rest);
        call = λ name xs zs ws r d rest.
            ap (λ ss. event.Open kind.Call ∷ event.Name name ∷ ss) (exprs_placed d xs zs ws r (event.Close ∷ rest))
            ∙ n.call_is Whole (expr.Call name (map (λ (e : Deep Expr). e d) zs)) name (map (λ (e : Deep Expr). e d) zs) (map (λ (e : Deep Expr). e d) zs) refl refl (P d rest);
        count_rows = λ d rest. refl;
        scalar = λ x z w k d rest. query kind.Scalar x z w (E (expr.Scalar (z d))) d rest k (eq.of_scalar (shaping Whole) (z d));
        exists = λ x z w k d rest. query kind.Exists x z w (E (expr.Exists (z d))) d rest k (eq.of_exists (shaping Whole) (z d));
        table = λ name columns d rest. table columns d rest;
        sub = λ x z w v k columns d rest. query (kind.Sub v) x z w (node (kind.Sub v) (query_of (shaping Whole) (z d))) d rest k refl ∙ sym (ap (λ f. f columns (P d rest)) (eq.of_sub (shaping Whole) (z d) v));
        from = λ x z w alias columns k d rest. k columns d rest;
        item = λ x z w alias k d rest. k d rest;
        key = λ x z w v k d rest. ap (λ ss. event.Open (kind.Key v) ∷ ss) (k d (event.Close ∷ rest));
        select = λ l₁ l₂ l₃ f₁ f₂ f₃ w₁ w₂ w₃ o₁ o₂ o₃ m₁ m₂ m₃ lr fr wr kr mr. select l₁ l₂ l₃ f₁ f₂ f₃ w₁ w₂ w₃ o₁ o₂ o₃ m₁ m₂ m₃ lr fr wr kr mr;
        recursive = λ name columns xs zs ws x z w r k d rest.
            ap (λ ss. event.Open kind.Recursive ∷ ss) (group kind.First (row itself xs) (row (λ s. select_of (shaping Whole) s) (map (λ (s : Deep Select). s d) zs)) d (x (event.Close ∷ rest)) (row_placed Selects itself d (λ z. z d) (λ s. select_of (shaping Whole) s) (λ x z w r rest. r d rest) xs zs ws r) ∙ ap (node kind.First (row (λ s. select_of (shaping Whole) s) (map (λ (s : Deep Select). s d) zs))) (k d (event.Close ∷ rest)))
            ∙ n.rolled_recursive Whole name columns (map (λ (s : Deep Select). s d) zs) (z d) (P d rest);
        query = λ x z w xs zs ws k r d rest.
            ap (λ ss. event.Open kind.Query ∷ ss) (group kind.With (kept_with Whole x) (n.with_puts (option_map (λ (r : Deep Recursive). r d) z)) d (row itself xs (event.Close ∷ rest)) (with_placed d x z w k) ∙ ap (node kind.With (n.with_puts (option_map (λ (r : Deep Recursive). r d) z))) (row_placed Selects itself d (λ z. z d) (λ s. select_of (shaping Whole) s) (λ x z w r rest. r d rest) xs zs ws r (event.Close ∷ rest)))
            ∙ n.rolled_query (option_map (λ (r : Deep Recursive). r d) z) (map (λ (s : Deep Select). s d) zs) (P d rest);
      }
    where
      table : (columns : List (List ℕ)) (d : ℕ) (rest : Events) → P d ((shaping Whole).source (ex.Table []) columns rest) ≡ (shaping Whole).source (ex.Table []) columns (P d rest)
      table [] d rest = refl
      table (c ∷ cs) d rest = refl

      with_placed : (d : ℕ) (x : Option Put) (z : Option (Deep Recursive)) (w : Option Put) → AlikeOption Recursives x z w → (rest : Events)
          → P d (kept_with Whole x rest) ≡ n.with_puts (option_map (λ (r : Deep Recursive). r d) z) (P d rest)
      with_placed d None None None r rest = refl
      with_placed d (Some x) (Some z) (Some w) r rest = r d rest
      with_placed d _ _ _ r rest = absurd r

  pub placed_has : (e : Expr) → events_of_expr Whole (placed ref e) ≡ placed_events ref 0 (events_of_expr Whole e)
  placed_has e = sym (expr_related (shaping Whole) (replacing (column_of ref) with_cast) (shaping Whole) relation steps e 0 [])
