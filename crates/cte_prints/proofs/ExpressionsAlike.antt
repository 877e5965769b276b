-- An expression of a function is like what stands for it in a query, where its parts are.
use Rattle.std.proofs.Common.{◌≡◌, ap, sym, subst, ◌∙◌, ℕ, Bool, List, ◌∷◌, ◌++◌, map, length, Option, Some, option_map}
use Rattle.std.specs.List.{flat_map}
use Rattle.away_values.specs.declared.types.Ty.{Ty}
use Rattle.away_values.specs.declared.operators.ChainOp.{ChainOp}
use Rattle.away_values.specs.declared.operators.CmpOp.{CmpOp}
use Rattle.away_values.specs.declared.operators.IsTest.{IsTest}
use Rattle.away_trees.specs.declared.queries.Expr.{Expr}
use Rattle.away_trees.specs.declared.queries.Expr.TheVariants as expr
use Rattle.away_trees.specs.declared.queries.Expr.TheOpen as ex
use Rattle.away_trees.specs.declared.queries.Query.{Query}
use Rattle.away_trees.specs.Algebra.{Algebra, expr_of, query_of}
use Rattle.away_trees.proofs.Equations as eq
use Rattle.away_names.specs.Lookups.{Name, Level, Scope}
use Rattle.away_names.specs.Naming as n
use Rattle.away_names.specs.Notes.{joined, each, held}
use Rattle.elaboration.specs.Marks.{plain_op}
use Rattle.sql_meaning.specs.Reads.{Read, Reads, reading, of_list, of_option}
use Rattle.sql_meaning.proofs.Uses.{left, right}
use Rattle.type_soundness.specs.Sorts.{Every}
use Rattle.type_soundness.proofs.CleanNotes.{Clean, clean_parts}
use Rattle.qualified_names.specs.Trees.{qualified_expr, qualified_shown, qualified_in, qualified_link, qualified_arm}
use Rattle.qualified_names.proofs.QualifyingRules as d
use Rattle.cte_names.proofs.Folded.{each_is, each_clean}
use Rattle.cte_names.proofs.Standing.{Allowed, one_of_these, placing}
use Rattle.cte_prints.specs.Like.{value, values, links, arms, maybe, query, IsLike}
use Rattle.cte_prints.specs.Like as like
use Rattle.cte_prints.proofs.WritableColumns.{Stands, DerivableLeaves}
use Rattle.cte_prints.proofs.WritableColumns as names

module _ (q : Scope) (slots : ℕ → Bool) (leaf : ℕ → ℕ → Expr) (derivable : DerivableLeaves q slots leaf) where
  abbrev P : Algebra
  P = placing leaf

  abbrev May : List Read → Type 0
  May = Allowed slots

  abbrev pub LikeTerm : Expr → n.Term → Type 0
  LikeTerm = names.LikeTerm q slots leaf derivable

  abbrev pub LikeQuery : Query → n.Whole → Type 0
  LikeQuery w t =
      (s : Scope) (ms : List Level) → Stands q s ms → Clean (t s).note → May (query_of reading (t s).it.it (length ms))
      → IsLike query w (qualified_shown (query_of P (t s).it.it (length ms)) (ms ++ q.levels)).it

  pub one : (u v : List Read) → May (u ++ v) → May u
  one u v h = left (one_of_these slots) u v h

  pub two : (u v : List Read) → May (u ++ v) → May v
  two u v h = right (one_of_these slots) u v h

  reads_so : (d : ℕ) (v w : Reads) → v ≡ w → May (v d) → May (w d)
  reads_so d v w e h = subst (λ (x : Reads). May (x d)) e h

  -- a node, by what it is placed and with names again
  by : (w : Expr) (ms : List Level) (placed u : ℕ → Expr) (v : Expr) → placed ≡ u → qualified_expr (u (length ms)) (ms ++ q.levels) ≡ v → IsLike value w v
      → IsLike value w (qualified_expr (placed (length ms)) (ms ++ q.levels))
  by w ms placed u v h k l = subst (IsLike value w) (sym (ap (λ (t : ℕ → Expr). qualified_expr (t (length ms)) (ms ++ q.levels)) h ∙ k)) l

  -- ---- lists

  abbrev pub LikeValues : List Expr → List n.Term → Type 0
  LikeValues ws ts =
      (s : Scope) (ms : List Level) → Stands q s ms → Every (λ t. Clean (t.judge s).note) ts → May
      (of_list (length ms) (map (λ e. expr_of reading e) (map (λ t. (t.judge s).it) ts)))
      → IsLike values ws (map (qualified_in (ms ++ q.levels)) (map (λ x. x (length ms)) (map (λ e. expr_of P e) (map (λ t. (t.judge s).it) ts))))

  pub one_value : (w : Expr) (t : n.Term) (ws : List Expr) (ts : List n.Term) → LikeTerm w t → LikeValues ws ts → LikeValues (w ∷ ws) (t ∷ ts)
  one_value w t ws ts h r s ms st k a =
      let here : List Read = expr_of reading (t.judge s).it (length ms) in
      like.one_value (h s ms st k.0 (one here _ a)) (r s ms st k.1 (two here _ a))

  abbrev pub LikeLinks : List (ChainOp × Expr) → List (ChainOp × n.Term) → Type 0
  LikeLinks ws ls =
      (s : Scope) (ms : List Level) → Stands q s ms → Every (λ l. Clean (n.linked s l).note) ls
      → May (flat_map (λ (l : ChainOp × Reads). l.1 (length ms)) (map (λ l. eq.link_of reading l) (map (λ l. (n.linked s l).it) ls)))
      → IsLike links ws (map (qualified_link (ms ++ q.levels))
      (map (λ (l : ChainOp × (ℕ → Expr)). (plain_op l.0, l.1 (length ms))) (map (λ l. eq.link_of P l) (map (λ l. (n.linked s l).it) ls))))

  -- the operation is written without a mark
  pub one_link : (o : ChainOp) → plain_op o ≡ o → (w : Expr) (t : n.Term) (ws : List (ChainOp × Expr)) (ls : List (ChainOp × n.Term)) → LikeTerm w t → LikeLinks ws ls
      → LikeLinks ((o, w) ∷ ws) ((o, t) ∷ ls)
  one_link o p w t ws ls h r s ms st k a =
      let here : List Read = expr_of reading (t.judge s).it (length ms) in
      let l : List Level = ms ++ q.levels in
      subst (λ o2. IsLike links ((o, w) ∷ ws)
      ((o2, qualified_expr (expr_of P (t.judge s).it (length ms)) l)
      ∷ map (qualified_link l) (map (λ (l : ChainOp × (ℕ → Expr)). (plain_op l.0, l.1 (length ms))) (map (λ l. eq.link_of P l) (map (λ l. (n.linked s l).it) ls)))))
      (sym (ap plain_op p ∙ p))
      (like.one_link o (h s ms st k.0 (one here _ a)) (r s ms st k.1 (two here _ a)))

  abbrev pub LikeArms : List (Expr × Expr) → List (n.Term × n.Term) → Type 0
  LikeArms ws as_ =
      (s : Scope) (ms : List Level) → Stands q s ms → Every (λ a. Clean (n.armed s a).note) as_
      → May (flat_map (λ (a : Reads × Reads). a.0 (length ms) ++ a.1 (length ms)) (map (λ a. eq.arm_of reading a) (map (λ a. (n.armed s a).it) as_)))
      → IsLike arms ws (map (qualified_arm (ms ++ q.levels))
      (map (λ (a : (ℕ → Expr) × (ℕ → Expr)). (a.0 (length ms), a.1 (length ms))) (map (λ a. eq.arm_of P a) (map (λ a. (n.armed s a).it) as_))))

  pub one_arm : (w v : Expr) (t u : n.Term) (ws : List (Expr × Expr)) (as_ : List (n.Term × n.Term)) → LikeTerm w t → LikeTerm v u → LikeArms ws as_
      → LikeArms ((w, v) ∷ ws) ((t, u) ∷ as_)
  one_arm w v t u ws as_ h i r s ms st k a =
      let both = clean_parts (t.judge s).note (u.judge s).note k.0 in
      let test : List Read = expr_of reading (t.judge s).it (length ms) in
      let then : List Read = expr_of reading (u.judge s).it (length ms) in
      let here = one (test ++ then) _ a in
      like.one_arm (h s ms st both.0 (one test then here)) (i s ms st both.1 (two test then here)) (r s ms st k.1 (two (test ++ then) _ a))

  abbrev pub LikeMaybe : Option Expr → Option n.Term → Type 0
  LikeMaybe o t =
      (s : Scope) (ms : List Level) → Stands q s ms → Clean (held (λ t. t.judge s) t).note → May
      (of_option (length ms) (option_map (λ e. expr_of reading e) (held (λ t. t.judge s) t).it))
      → IsLike maybe o (option_map (qualified_in (ms ++ q.levels))
      (option_map (λ x. x (length ms)) (option_map (λ e. expr_of P e) (held (λ t. t.judge s) t).it)))

  pub something : (w : Expr) (t : n.Term) → LikeTerm w t → LikeMaybe (Some w) (Some t)
  something w t h s ms st k a = like.something (h s ms st k a)

  all_values : (ws : List Expr) (ts : List n.Term) → LikeValues ws ts → (s : Scope) (ms : List Level) → Stands q s ms → Clean (each (λ t. t.judge s) ts).note
      → May (of_list (length ms) (map (λ e. expr_of reading e) (each (λ t. t.judge s) ts).it))
      → IsLike values ws (map (qualified_in (ms ++ q.levels)) (map (λ x. x (length ms)) (map (λ e. expr_of P e) (each (λ t. t.judge s) ts).it)))
  all_values ws ts h s ms st k a =
      subst (λ xs. IsLike values ws (map (qualified_in (ms ++ q.levels)) (map (λ x. x (length ms)) (map (λ e. expr_of P e) xs))))
      (sym (each_is (λ t. t.judge s) ts))
      (h s ms st (each_clean (λ t. t.judge s) ts k)
      (subst (λ xs. May (of_list (length ms) (map (λ e. expr_of reading e) xs))) (each_is (λ t. t.judge s) ts) a))

  all_links : (ws : List (ChainOp × Expr)) (ls : List (ChainOp × n.Term)) → LikeLinks ws ls → (s : Scope) (ms : List Level) → Stands q s ms
      → Clean (each (n.linked s) ls).note
      → May (flat_map (λ (l : ChainOp × Reads). l.1 (length ms)) (map (λ l. eq.link_of reading l) (each (n.linked s) ls).it))
      → IsLike links ws (map (qualified_link (ms ++ q.levels))
      (map (λ (l : ChainOp × (ℕ → Expr)). (plain_op l.0, l.1 (length ms))) (map (λ l. eq.link_of P l) (each (n.linked s) ls).it)))
  all_links ws ls h s ms st k a =
      subst (λ xs. IsLike links ws
      (map (qualified_link (ms ++ q.levels)) (map (λ (l : ChainOp × (ℕ → Expr)). (plain_op l.0, l.1 (length ms))) (map (λ l. eq.link_of P l) xs))))
      (sym (each_is (n.linked s) ls))
      (h s ms st (each_clean (n.linked s) ls k)
      (subst (λ xs. May (flat_map (λ (l : ChainOp × Reads). l.1 (length ms)) (map (λ l. eq.link_of reading l) xs))) (each_is (n.linked s) ls) a))

  all_arms : (ws : List (Expr × Expr)) (as_ : List (n.Term × n.Term)) → LikeArms ws as_ → (s : Scope) (ms : List Level) → Stands q s ms
      → Clean (each (n.armed s) as_).note
      → May (flat_map (λ (a : Reads × Reads). a.0 (length ms) ++ a.1 (length ms)) (map (λ a. eq.arm_of reading a) (each (n.armed s) as_).it))
      → IsLike arms ws (map (qualified_arm (ms ++ q.levels))
      (map (λ (a : (ℕ → Expr) × (ℕ → Expr)). (a.0 (length ms), a.1 (length ms))) (map (λ a. eq.arm_of P a) (each (n.armed s) as_).it)))
  all_arms ws as_ h s ms st k a =
      subst (λ xs. IsLike arms ws
      (map (qualified_arm (ms ++ q.levels)) (map (λ (a : (ℕ → Expr) × (ℕ → Expr)). (a.0 (length ms), a.1 (length ms))) (map (λ a. eq.arm_of P a) xs))))
      (sym (each_is (n.armed s) as_))
      (h s ms st (each_clean (n.armed s) as_ k)
      (subst (λ xs. May (flat_map (λ (a : Reads × Reads). a.0 (length ms) ++ a.1 (length ms)) (map (λ a. eq.arm_of reading a) xs)))
      (each_is (n.armed s) as_) a))

  -- ---- nodes

  pub neg : (w : Expr) (t : n.Term) → LikeTerm w t → LikeTerm (expr.Neg w) (n.term (ex.Neg t))
  neg w t h s ms st k a =
      by _ ms _ _ _ (eq.of_neg P (t.judge s).it) (d.neg_is _ _) (like.neg (h s ms st k (reads_so (length ms) _ _ (eq.of_neg reading (t.judge s).it) a)))

  pub not : (w : Expr) (t : n.Term) → LikeTerm w t → LikeTerm (expr.Not w) (n.term (ex.Not t))
  not w t h s ms st k a =
      by _ ms _ _ _ (eq.of_not P (t.judge s).it) (d.not_is _ _) (like.not (h s ms st k (reads_so (length ms) _ _ (eq.of_not reading (t.judge s).it) a)))

  pub is : (test : IsTest) (v : Bool) (w : Expr) (t : n.Term) → LikeTerm w t → LikeTerm (expr.Is w test v) (n.term (ex.Is t test v))
  is test v w t h s ms st k a =
      by _ ms _ _ _ (eq.of_is P (t.judge s).it test v) (d.is_is _ _ _ _)
      (like.is test v (h s ms st k (reads_so (length ms) _ _ (eq.of_is reading (t.judge s).it test v) a)))

  pub cast : (ty : Ty) (w : Expr) (t : n.Term) → LikeTerm w t → LikeTerm (expr.Cast w ty) (n.term (ex.Cast t ty))
  cast ty w t h s ms st k a =
      by _ ms _ _ _ (eq.of_cast P (t.judge s).it ty) (d.cast_is _ _ _)
      (like.cast ty (h s ms st k (reads_so (length ms) _ _ (eq.of_cast reading (t.judge s).it ty) a)))

  pub compare : (o : CmpOp) (w v : Expr) (t u : n.Term) → LikeTerm w t → LikeTerm v u → LikeTerm (expr.Compare o w v) (n.term (ex.Compare o t u))
  compare o w v t u h i s ms st k a =
      let both = clean_parts (t.judge s).note (u.judge s).note k in
      let may = reads_so (length ms) _ _ (eq.of_compare reading o (t.judge s).it (u.judge s).it) a in
      let x : List Read = expr_of reading (t.judge s).it (length ms) in
      by _ ms _ _ _ (eq.of_compare P o (t.judge s).it (u.judge s).it) (d.compare_is _ _ _ _)
      (like.compare o (h s ms st both.0 (one x _ may)) (i s ms st both.1 (two x _ may)))

  pub between : (b : Bool) (w v z : Expr) (t u r : n.Term) → LikeTerm w t → LikeTerm v u → LikeTerm z r
      → LikeTerm (expr.Between b w v z) (n.term (ex.Between b t u r))
  between b w v z t u r h i j s ms st k a =
      let both = clean_parts (t.judge s).note (joined (u.judge s).note (r.judge s).note) k in
      let more = clean_parts (u.judge s).note (r.judge s).note both.1 in
      let may = reads_so (length ms) _ _ (eq.of_between reading b (t.judge s).it (u.judge s).it (r.judge s).it) a in
      let x : List Read = expr_of reading (t.judge s).it (length ms) in
      let y : List Read = expr_of reading (u.judge s).it (length ms) in
      by _ ms _ _ _ (eq.of_between P b (t.judge s).it (u.judge s).it (r.judge s).it) (d.between_is _ _ _ _ _)
      (like.between b (h s ms st both.0 (one x _ may)) (i s ms st more.0 (one y _ (two x _ may))) (j s ms st more.1 (two y _ (two x _ may))))

  pub chain : (w : Expr) (ws : List (ChainOp × Expr)) (t : n.Term) (ls : List (ChainOp × n.Term)) → LikeTerm w t → LikeLinks ws ls
      → LikeTerm (expr.Chain w ws) (n.term (ex.Chain t ls))
  chain w ws t ls h i s ms st k a =
      let both = clean_parts (t.judge s).note (each (n.linked s) ls).note k in
      let may = reads_so (length ms) _ _ (eq.of_chain reading (t.judge s).it (each (n.linked s) ls).it) a in
      let x : List Read = expr_of reading (t.judge s).it (length ms) in
      by _ ms _ _ _ (eq.of_chain P (t.judge s).it (each (n.linked s) ls).it) (d.chain_is _ _ _)
      (like.chain (h s ms st both.0 (one x _ may)) (all_links ws ls i s ms st both.1 (two x _ may)))

  pub one_of : (v : Bool) (w : Expr) (ws : List Expr) (t : n.Term) (ts : List n.Term) → LikeTerm w t → LikeValues ws ts
      → LikeTerm (expr.OneOf v w ws) (n.term (ex.OneOf v t ts))
  one_of v w ws t ts h i s ms st k a =
      let both = clean_parts (t.judge s).note (each (λ t. t.judge s) ts).note k in
      let may = reads_so (length ms) _ _ (eq.of_oneof reading v (t.judge s).it (each (λ t. t.judge s) ts).it) a in
      let x : List Read = expr_of reading (t.judge s).it (length ms) in
      by _ ms _ _ _ (eq.of_oneof P v (t.judge s).it (each (λ t. t.judge s) ts).it) (d.oneof_is _ _ _ _)
      (like.one_of v (h s ms st both.0 (one x _ may)) (all_values ws ts i s ms st both.1 (two x _ may)))

  pub cases : (ws : List (Expr × Expr)) (o : Option Expr) (as_ : List (n.Term × n.Term)) (t : Option n.Term) → LikeArms ws as_ → LikeMaybe o t
      → LikeTerm (expr.Cases ws o) (n.term (ex.Cases as_ t))
  cases ws o as_ t h i s ms st k a =
      let both = clean_parts (each (n.armed s) as_).note (held (λ t. t.judge s) t).note k in
      let may = reads_so (length ms) _ _ (eq.of_cases reading (each (n.armed s) as_).it (held (λ t. t.judge s) t).it) a in
      let x : List Read = flat_map (λ (a : Reads × Reads). a.0 (length ms) ++ a.1 (length ms)) (map (λ a. eq.arm_of reading a) (each (n.armed s) as_).it) in
      by _ ms _ _ _ (eq.of_cases P (each (n.armed s) as_).it (held (λ t. t.judge s) t).it) (d.cases_is _ _ _)
      (like.cases (all_arms ws as_ h s ms st both.0 (one x _ may)) (i s ms st both.1 (two x _ may)))

  pub call : (name : Name) (ws : List Expr) (ts : List n.Term) → LikeValues ws ts → LikeTerm (expr.Call name ws) (n.term (ex.Call name ts))
  call name ws ts h s ms st k a =
      let both = clean_parts (n.called s name) (each (λ t. t.judge s) ts).note k in
      by _ ms _ _ _ (eq.of_call P name (each (λ t. t.judge s) ts).it) (d.call_is _ _ _)
      (like.call name (all_values ws ts h s ms st both.1 (reads_so (length ms) _ _ (eq.of_call reading name (each (λ t. t.judge s) ts).it) a)))

  pub scalar : (w : Query) (t : n.Whole) → LikeQuery w t → LikeTerm (expr.Scalar w) (n.term (ex.Scalar t))
  scalar w t h s ms st k a =
      by _ ms _ _ _ (eq.of_scalar P (t s).it.it) (d.scalar_is _ _) (like.scalar (h s ms st k (reads_so (length ms) _ _ (eq.of_scalar reading (t s).it.it) a)))

  pub exists : (w : Query) (t : n.Whole) → LikeQuery w t → LikeTerm (expr.Exists w) (n.term (ex.Exists t))
  exists w t h s ms st k a =
      by _ ms _ _ _ (eq.of_exists P (t s).it.it) (d.exists_is _ _) (like.exists (h s ms st k (reads_so (length ms) _ _ (eq.of_exists reading (t s).it.it) a)))
