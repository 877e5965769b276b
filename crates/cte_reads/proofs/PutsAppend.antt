-- The events of an expression stand before what is put behind them.
use Rattle.std.proofs.Common.{◌≡◌, refl, ap, ◌∙◌, ℕ, List, [], ◌∷◌, ◌++◌, Option, Some, None}
use Rattle.away_values.specs.declared.operators.ChainOp.{ChainOp}
use Rattle.away_trees.specs.declared.queries.Expr.{Expr}
use Rattle.away_trees.specs.Algebra.{expr_of}
use Rattle.sql_meaning.proofs.Related.{Alike, AlikeOption, AlikeLink, AlikeArm, Relation, IsKept, expr_related}
use Rattle.tree_events.specs.declared.events.Kind.{Kind}
use Rattle.tree_events.specs.declared.events.Kind.TheVariants as kind
use Rattle.tree_events.specs.declared.events.Manner.TheVariants.{Whole}
use Rattle.tree_events.specs.declared.events.TreeEvent.TheVariants as event
use Rattle.tree_events.specs.Events.{Events, Put, SourcePut, node, row, option, itself, link_node, arm_node, else_node, table_node, kept_with, shaping}

abbrev Appends : Put → Type 0
Appends x = (rest more : Events) → x (rest ++ more) ≡ x rest ++ more

both : (x y : Put) → Appends x → Appends y → Appends (λ rest. x (y rest))
both x y h k rest more = ap x (k rest more) ∙ h (y rest) more

noded : (k : Kind) (x : Put) → Appends x → Appends (node k x)
noded k x h rest more = ap (λ ss. event.Open k ∷ ss) (h (event.Close ∷ rest) more)

-- ---- the relation; the second and the third algebra don't matter

abbrev Exprs : Put → Put → Put → Type 0
Exprs x u w = Appends x

abbrev Sources : SourcePut → SourcePut → SourcePut → Type 0
Sources x u w = (columns : List (List ℕ)) → Appends (x columns)

abbrev relation : Relation (shaping Whole) (shaping Whole) (shaping Whole)
relation =
    record {
      Exprs = Exprs;
      Sources = Sources;
      Froms = Exprs;
      Items = Exprs;
      Keys = Exprs;
      Queries = Exprs;
      Recursives = Exprs;
      Selects = Exprs;
    }

module _ {X Z W : Type 0} (R : X → Z → W → Type 0) (f : X → Put) (go : (x : X) (z : Z) (w : W) → R x z w → Appends (f x)) where
  row_appends : (xs : List X) (zs : List Z) (ws : List W) → Alike R xs zs ws → Appends (row f xs)
  row_appends [] [] [] r rest more = refl
  row_appends (x ∷ xs) (z ∷ zs) (w ∷ ws) r rest more = both (f x) (row f xs) (go x z w r.0) (row_appends xs zs ws r.1) rest more
  row_appends _ _ _ r rest more = absurd r

  option_appends : (x : Option X) (z : Option Z) (w : Option W) → AlikeOption R x z w → Appends (option f x)
  option_appends None None None r rest more = refl
  option_appends (Some x) (Some z) (Some w) r rest more = go x z w r rest more
  option_appends _ _ _ r rest more = absurd r

exprs_append : (xs us ws : List Put) → Alike Exprs xs us ws → Appends (row itself xs)
exprs_append = row_appends Exprs itself (λ x u w r. r)

optional_appends : (x u w : Option Put) → AlikeOption Exprs x u w → Appends (option itself x)
optional_appends = option_appends Exprs itself (λ x u w r. r)

else_appends : (x u w : Option Put) → AlikeOption Exprs x u w → Appends (option else_node x)
else_appends = option_appends Exprs else_node (λ x u w r. noded kind.Else x r)

links_append : (xs us ws : List (ChainOp × Put)) → Alike (AlikeLink Exprs) xs us ws → Appends (row link_node xs)
links_append = row_appends (AlikeLink Exprs) link_node (λ x u w r. noded (kind.Link x.0) x.1 r.2)

arms_append : (xs us ws : List (Put × Put)) → Alike (AlikeArm Exprs) xs us ws → Appends (row arm_node xs)
arms_append = row_appends (AlikeArm Exprs) arm_node (λ x u w r. noded kind.Arm (λ rest. x.0 (x.1 rest)) (both x.0 x.1 r.0 r.1))

table : (columns : List (List ℕ)) → Appends (table_node columns)
table [] rest more = refl
table (c ∷ cs) rest more = refl

with_appends : (x u w : Option Put) → AlikeOption Exprs x u w → Appends (kept_with Whole x)
with_appends None None None r rest more = refl
with_appends (Some x) (Some u) (Some w) r rest more = r rest more
with_appends _ _ _ r rest more = absurd r

parts : (l l' l'' f f' f'' : List Put) (w w' w'' : Option Put) (o o' o'' : List Put) (m m' m'' : Option Put) → Alike Exprs l l' l'' → Alike Exprs f f' f''
    → AlikeOption Exprs w w' w'' → Alike Exprs o o' o'' → AlikeOption Exprs m m' m''
    → Appends (λ rest. event.Enter ∷ node kind.From (row itself f) (node kind.List (row itself l) (node kind.Filter (option itself w) (node kind.Order (row itself o) (node kind.Limit (option itself m) (event.Leave ∷ rest))))))
parts l l' l'' f f' f'' w w' w'' o o' o'' m m' m'' lr fr wr or mr rest more =
    let L : Put = node kind.List (row itself l) in
    let F : Put = node kind.From (row itself f) in
    let W : Put = node kind.Filter (option itself w) in
    let O : Put = node kind.Order (row itself o) in
    let M : Put = node kind.Limit (option itself m) in
    let lh = noded kind.List (row itself l) (exprs_append l l' l'' lr) in
    let fh = noded kind.From (row itself f) (exprs_append f f' f'' fr) in
    let wh = noded kind.Filter (option itself w) (optional_appends w w' w'' wr) in
    let oh = noded kind.Order (row itself o) (exprs_append o o' o'' or) in
    let mh = noded kind.Limit (option itself m) (optional_appends m m' m'' mr) in
    let om = both O M oh mh in
    let wom = both W (λ rest. O (M rest)) wh om in
    let lwom = both L (λ rest. W (O (M rest))) lh wom in
    ap (λ ss. event.Enter ∷ ss) (both F (λ rest. L (W (O (M rest)))) fh lwom (event.Leave ∷ rest) more)

steps : IsKept (shaping Whole) (shaping Whole) (shaping Whole) relation
steps =
    record {
      no_expr = λ rest more. refl;
      no_query = λ rest more. refl;
      int = λ n rest more. refl;
      str = λ t rest more. refl;
      bool = λ v rest more. refl;
      null = λ rest more. refl;
      named = λ t rest more. refl;
      qualified = λ t s rest more. refl;
      slot = λ i rest more. refl;
      column = λ c rest more. refl;
      param = λ i t rest more. refl;
      neg = λ x u w k. noded kind.Neg x k;
      neg_small = λ x u w k. noded kind.NegSmall x k;
      not = λ x u w k. noded kind.Not x k;
      is = λ x u w test v k. noded (kind.Is test v) x k;
      chain = λ x u w xs us ws k r. noded kind.Chain (λ rest. x (row link_node xs rest)) (both x (row link_node xs) k (links_append xs us ws r));
      compare = λ op x₁ x₂ u₁ u₂ w₁ w₂ k₁ k₂. noded (kind.Compare op) (λ rest. x₁ (x₂ rest)) (both x₁ x₂ k₁ k₂);
      between = λ v x₁ x₂ x₃ u₁ u₂ u₃ w₁ w₂ w₃ k₁ k₂ k₃.
          noded (kind.Between v) (λ rest. x₁ (x₂ (x₃ rest))) (both x₁ (λ rest. x₂ (x₃ rest)) k₁ (both x₂ x₃ k₂ k₃));
      one_of = λ v x u w xs us ws k r. noded (kind.OneOf v) (λ rest. x (row itself xs rest)) (both x (row itself xs) k (exprs_append xs us ws r));
      cast = λ x u w t k. noded (kind.Cast t) x k;
      cases = λ xs us ws x u w r k.
          noded kind.Cases (λ rest. row arm_node xs (option else_node x rest)) (both (row arm_node xs) (option else_node x) (arms_append xs us ws r) (else_appends x u w k));
      call = λ name xs us ws r.
          noded kind.Call (λ rest. event.Name name ∷ row itself xs rest) (both (λ rest. event.Name name ∷ rest) (row itself xs) (λ rest more. refl) (exprs_append xs us ws r));
      count_rows = λ rest more. refl;
      scalar = λ x u w k. noded kind.Scalar x k;
      exists = λ x u w k. noded kind.Exists x k;
      table = λ name columns. table columns;
      sub = λ x u w v k columns. noded (kind.Sub v) x k;
      from = λ x u w alias columns k. k columns;
      item = λ x u w alias k. k;
      key = λ x u w v k. noded (kind.Key v) x k;
      select = λ l l' l'' f f' f'' w w' w'' o o' o'' m m' m'' lr fr wr or mr. parts l l' l'' f f' f'' w w' w'' o o' o'' m m' m'' lr fr wr or mr;
      recursive = λ name columns xs us ws x u w r k.
          noded kind.Recursive (λ rest. node kind.First (row itself xs) (x rest)) (both (node kind.First (row itself xs)) x (noded kind.First (row itself xs) (exprs_append xs us ws r)) k);
      query = λ x u w xs us ws k r.
          noded kind.Query (λ rest. node kind.With (kept_with Whole x) (row itself xs rest)) (both (node kind.With (kept_with Whole x)) (row itself xs) (noded kind.With (kept_with Whole x) (with_appends x u w k)) (exprs_append xs us ws r));
    }

pub puts_append : (e : Expr) (rest more : Events) → expr_of (shaping Whole) e (rest ++ more) ≡ expr_of (shaping Whole) e rest ++ more
puts_append e = expr_related (shaping Whole) (shaping Whole) (shaping Whole) relation steps e
