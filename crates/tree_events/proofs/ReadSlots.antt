-- The slots in the events of an expression, in the order of reading, are those that it reads.
use Rattle.std.proofs.Common.{◌≡◌, refl, ap, sym, ◌∙◌, ℕ, suc, Bool, true, false, nat_lt, if◌then◌else◌, List, [], ◌∷◌, ◌++◌, Option, Some, None, append_assoc, append-nil, filter_map, flat_map}
use Rattle.std.proofs.lemmas.List.Elements.{filter_map-append}
use Rattle.away_values.specs.declared.operators.ChainOp.{ChainOp}
use Rattle.away_trees.specs.declared.queries.Col.{Col}
use Rattle.away_trees.specs.declared.queries.Expr.{Expr}
use Rattle.away_trees.specs.declared.queries.Expr.TheOpen as ex
use Rattle.away_trees.specs.Algebra.{expr_of}
use Rattle.sql_meaning.specs.Reads.{Read, Reads, SourceReads, Outer, reading, slot_of, of_list, of_option, first_occurrences, slots_of}
use Rattle.sql_meaning.proofs.Related.{Alike, AlikeOption, AlikeLink, AlikeArm, Relation, IsKept, expr_related}
use Rattle.tree_events.specs.declared.events.Kind.{Kind}
use Rattle.tree_events.specs.declared.events.Kind.TheVariants as kind
use Rattle.tree_events.specs.declared.events.Manner.TheVariants.{Reading}
use Rattle.tree_events.specs.declared.events.TreeEvent.TheVariants as event
use Rattle.tree_events.specs.Events.{Events, Put, SourcePut, node, row, option, itself, link_node, arm_node, else_node, kept_with, shaping, events_of_expr}
use Rattle.tree_events.specs.SlotsRead.{slot_of_kind, before, slots_in}

abbrev Has : Put → List Read → Type 0
Has x u = (rest : Events) → slots_in (x rest) ≡ filter_map slot_of u ++ slots_in rest

join : (u v : List Read) (rest : List ℕ) → filter_map slot_of u ++ (filter_map slot_of v ++ rest) ≡ filter_map slot_of (u ++ v) ++ rest
join u v rest = sym (ap (λ z. z ++ rest) (filter_map-append slot_of u v) ∙ append_assoc (filter_map slot_of u) (filter_map slot_of v) rest)

both : (x y : Put) (u v : List Read) → Has x u → Has y v → Has (λ rest. x (y rest)) (u ++ v)
both x y u v h k rest = h (y rest) ∙ (ap (λ z. filter_map slot_of u ++ z) (k rest) ∙ join u v (slots_in rest))

-- ---- the relation; the third algebra doesn't matter

abbrev Exprs : Put → Reads → Put → Type 0
Exprs x u w = (d : ℕ) → Has x (u d)

abbrev Sources : SourcePut → SourceReads → SourcePut → Type 0
Sources x u w = (columns : List (List ℕ)) (d : ℕ) → Has (x columns) (u columns d)

abbrev relation : Relation (shaping Reading) reading (shaping Reading)
relation =
    record {
      Exprs = Exprs;
      Sources = Sources;
      Froms = Exprs;
      Items = Exprs;
      Keys = Exprs;
      Queries = Exprs;
      Recursives = λ x u w. Unit {0};
      Selects = Exprs;
    }

module _ {X Z W : Type 0} (R : X → Z → W → Type 0) (f : X → Put) (g : Z → List Read) (go : (x : X) (z : Z) (w : W) → R x z w → Has (f x) (g z)) where
  row_has : (xs : List X) (zs : List Z) (ws : List W) → Alike R xs zs ws → Has (row f xs) (flat_map g zs)
  row_has [] [] [] r rest = refl
  row_has (x ∷ xs) (z ∷ zs) (w ∷ ws) r rest = both (f x) (row f xs) (g z) (flat_map g zs) (go x z w r.0) (row_has xs zs ws r.1) rest
  row_has _ _ _ r rest = absurd r

exprs_have : (d : ℕ) (xs : List Put) (us : List Reads) (ws : List Put) → Alike Exprs xs us ws → Has (row itself xs) (of_list d us)
exprs_have d = row_has Exprs itself (λ u. u d) (λ x u w r. r d)

option_has : (d : ℕ) (x : Option Put) (u : Option Reads) (w : Option Put) → AlikeOption Exprs x u w → Has (option itself x) (of_option d u)
option_has d None None None r rest = refl
option_has d (Some x) (Some u) (Some w) r rest = r d rest
option_has d _ _ _ r rest = absurd r

else_has : (d : ℕ) (x : Option Put) (u : Option Reads) (w : Option Put) → AlikeOption Exprs x u w → Has (option else_node x) (of_option d u)
else_has d None None None r rest = refl
else_has d (Some x) (Some u) (Some w) r rest = r d (event.Close ∷ rest)
else_has d _ _ _ r rest = absurd r

links_have : (d : ℕ) (xs : List (ChainOp × Put)) (us : List (ChainOp × Reads)) (ws : List (ChainOp × Put)) → Alike (AlikeLink Exprs) xs us ws
    → Has (row link_node xs) (flat_map (λ (l : ChainOp × Reads). l.1 d) us)
links_have d = row_has (AlikeLink Exprs) link_node (λ l. l.1 d) (λ x u w r rest. r.2 d (event.Close ∷ rest))

arms_have : (d : ℕ) (xs : List (Put × Put)) (us : List (Reads × Reads)) (ws : List (Put × Put)) → Alike (AlikeArm Exprs) xs us ws
    → Has (row arm_node xs) (flat_map (λ (a : Reads × Reads). a.0 d ++ a.1 d) us)
arms_have d = row_has (AlikeArm Exprs) arm_node (λ a. a.0 d ++ a.1 d) (λ x u w r rest. both x.0 x.1 (u.0 d) (u.1 d) (r.0 d) (r.1 d) (event.Close ∷ rest))

column : (c : Col) (d : ℕ) (rest : List ℕ) → rest ≡ filter_map slot_of (if nat_lt c.level d then [] else Outer c ∷ []) ++ rest
column c d rest = by (nat_lt c.level d)
  where
    by : (b : Bool) → rest ≡ filter_map slot_of (if b then [] else Outer c ∷ []) ++ rest
    by true = refl
    by false = refl

table : (columns : List (List ℕ)) (rest : Events) → slots_in ((shaping Reading).source (ex.Table []) columns rest) ≡ slots_in rest
table [] rest = refl
table (c ∷ cs) rest = refl

kept : (x : Option Put) (rest : Events) → slots_in (kept_with Reading x rest) ≡ slots_in rest
kept None rest = refl
kept (Some x) rest = refl

-- a group of parts
grouped : (k : Kind) (x : Put) (u : List Read) → slot_of_kind k ≡ None → Has x u → Has (node k x) u
grouped k x u none h rest = ap (λ o. before o (slots_in (x (event.Close ∷ rest)))) none ∙ h (event.Close ∷ rest)

parts : (l₁ : List Put) (l₂ : List Reads) (l₃ f₁ : List Put) (f₂ : List Reads) (f₃ : List Put) (w₁ : Option Put) (w₂ : Option Reads) (w₃ : Option Put) (o₁ : List Put) (o₂ : List Reads) (o₃ : List Put)
    (m₁ : Option Put) (m₂ : Option Reads) (m₃ : Option Put) → Alike Exprs l₁ l₂ l₃ → Alike Exprs f₁ f₂ f₃ → AlikeOption Exprs w₁ w₂ w₃ → Alike Exprs o₁ o₂ o₃ → AlikeOption Exprs m₁ m₂ m₃
    → (d : ℕ) (rest : Events)
    → slots_in (node kind.List (row itself l₁) (node kind.From (row itself f₁) (node kind.Filter (option itself w₁) (node kind.Order (row itself o₁) (node kind.Limit (option itself m₁) (event.Leave ∷ rest))))))
    ≡ filter_map slot_of (of_list (suc d) l₂ ++ (of_list (suc d) f₂ ++ (of_option (suc d) w₂ ++ (of_list (suc d) o₂ ++ of_option (suc d) m₂)))) ++ slots_in rest
parts l₁ l₂ l₃ f₁ f₂ f₃ w₁ w₂ w₃ o₁ o₂ o₃ m₁ m₂ m₃ lr fr wr kr mr d rest =
    let l = grouped kind.List (row itself l₁) (of_list (suc d) l₂) refl (exprs_have (suc d) l₁ l₂ l₃ lr) in
    let f = grouped kind.From (row itself f₁) (of_list (suc d) f₂) refl (exprs_have (suc d) f₁ f₂ f₃ fr) in
    let w = grouped kind.Filter (option itself w₁) (of_option (suc d) w₂) refl (option_has (suc d) w₁ w₂ w₃ wr) in
    let o = grouped kind.Order (row itself o₁) (of_list (suc d) o₂) refl (exprs_have (suc d) o₁ o₂ o₃ kr) in
    let m = grouped kind.Limit (option itself m₁) (of_option (suc d) m₂) refl (option_has (suc d) m₁ m₂ m₃ mr) in
    let L : Put = node kind.List (row itself l₁) in
    let F : Put = node kind.From (row itself f₁) in
    let W : Put = node kind.Filter (option itself w₁) in
    let O : Put = node kind.Order (row itself o₁) in
    let M : Put = node kind.Limit (option itself m₁) in
    let om = both O M (of_list (suc d) o₂) (of_option (suc d) m₂) o m in
    let wom = both W (λ rest. O (M rest)) (of_option (suc d) w₂) (of_list (suc d) o₂ ++ of_option (suc d) m₂) w om in
    let fwom = both F (λ rest. W (O (M rest))) (of_list (suc d) f₂) (of_option (suc d) w₂ ++ (of_list (suc d) o₂ ++ of_option (suc d) m₂)) f wom in
    both L (λ rest. F (W (O (M rest)))) (of_list (suc d) l₂) (of_list (suc d) f₂ ++ (of_option (suc d) w₂ ++ (of_list (suc d) o₂ ++ of_option (suc d) m₂))) l fwom (event.Leave ∷ rest)

steps : IsKept (shaping Reading) reading (shaping Reading) relation
steps =
    record {
      no_expr = λ d rest. refl;
      no_query = λ d rest. refl;
      int = λ n d rest. refl;
      str = λ t d rest. refl;
      bool = λ v d rest. refl;
      null = λ d rest. refl;
      named = λ t d rest. refl;
      qualified = λ t s d rest. refl;
      slot = λ i d rest. refl;
      column = λ c d rest. column c d (slots_in rest);
      param = λ i t d rest. refl;
      neg = λ x u w k d rest. k d (event.Close ∷ rest);
      neg_small = λ x u w k d rest. k d (event.Close ∷ rest);
      not = λ x u w k d rest. k d (event.Close ∷ rest);
      is = λ x u w test v k d rest. k d (event.Close ∷ rest);
      chain = λ x u w xs us ws k r d rest.
          both x (row link_node xs) (u d) (flat_map (λ (l : ChainOp × Reads). l.1 d) us) (k d) (links_have d xs us ws r) (event.Close ∷ rest);
      compare = λ op x₁ x₂ u₁ u₂ w₁ w₂ k₁ k₂ d rest. both x₁ x₂ (u₁ d) (u₂ d) (k₁ d) (k₂ d) (event.Close ∷ rest);
      between = λ v x₁ x₂ x₃ u₁ u₂ u₃ w₁ w₂ w₃ k₁ k₂ k₃ d rest.
          both x₁ (λ rest. x₂ (x₃ rest)) (u₁ d) (u₂ d ++ u₃ d) (k₁ d) (both x₂ x₃ (u₂ d) (u₃ d) (k₂ d) (k₃ d)) (event.Close ∷ rest);
      one_of = λ v x u w xs us ws k r d rest. both x (row itself xs) (u d) (of_list d us) (k d) (exprs_have d xs us ws r) (event.Close ∷ rest);
      cast = λ x u w t k d rest. k d (event.Close ∷ rest);
      cases = λ xs us ws x u w r k d rest.
          both (row arm_node xs) (option else_node x) (flat_map (λ (a : Reads × Reads). a.0 d ++ a.1 d) us) (of_option d u) (arms_have d xs us ws r) (else_has d x u w k) (event.Close ∷ rest);
      call = λ name xs us ws r d rest. exprs_have d xs us ws r (event.Close ∷ rest);
      count_rows = λ d rest. refl;
      scalar = λ x u w k d rest. k d (event.Close ∷ rest);
      exists = λ x u w k d rest. k d (event.Close ∷ rest);
      table = λ name columns d rest. table columns rest;
      sub = λ x u w v k columns d rest. k d (event.Close ∷ rest);
      from = λ x u w alias columns k d. k columns d;
      item = λ x u w alias k d. k d;
      key = λ x u w v k d rest. k d (event.Close ∷ rest);
      select = λ l₁ l₂ l₃ f₁ f₂ f₃ w₁ w₂ w₃ o₁ o₂ o₃ m₁ m₂ m₃ lr fr wr kr mr d rest.
          parts l₁ l₂ l₃ f₁ f₂ f₃ w₁ w₂ w₃ o₁ o₂ o₃ m₁ m₂ m₃ lr fr wr kr mr d rest;
      recursive = λ name columns xs us ws x u w r k. tt;
      query = λ x u w xs us ws k r d rest. kept x (event.Close ∷ row itself xs (event.Close ∷ rest)) ∙ exprs_have d xs us ws r (event.Close ∷ rest);
    }

pub slots_are : (e : Expr) → first_occurrences (slots_in (events_of_expr Reading e)) ≡ slots_of e
slots_are e = ap first_occurrences (expr_related (shaping Reading) reading (shaping Reading) relation steps e 0 [] ∙ append-nil (filter_map slot_of (expr_of reading e 0)))
