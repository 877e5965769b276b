-- What stands one behind the other, and how many slots it takes.
use Rattle.std.proofs.Common.{◌≡◌, refl, sym, ap, ◌∙◌, subst, ℕ, zero, suc, ◌+◌, ◌≤◌, List, [], ◌∷◌, length, map, sum, sum_by, drop, slice_get, Option, Some, None, arith}
use Rattle.std.proofs.lemmas.List.Sums.{sum-map, sum_by-cons}
use Rattle.away_trees.specs.declared.statements.Arm.{Arm}
use Rattle.away_trees.specs.declared.statements.Decl.{Decl}
use Rattle.away_trees.specs.declared.statements.LoopKind.{LoopKind}
use Rattle.away_trees.specs.declared.statements.Stmt.{Stmt}
use Rattle.away_trees.specs.declared.statements.Stmt.TheVariants as stmt
use Rattle.away_trees.specs.StatementAlgebra.{branch_of}
use Rattle.away_trees.proofs.StatementEquations as eq
use Rattle.plsql_meaning.specs.Outcomes.{Label}
use Rattle.plsql_meaning.specs.Slots.{slot_counting}
use Rattle.plsql_meaning.specs.Statements.{kind_vars}
use Rattle.call_meaning.proofs.Agreeing.{none_is_not_some, some_is}
use Rattle.call_meaning.specs.Alike.{Slots, put_at, put_from}
use Rattle.call_meaning.specs.Becomes.{Rules, counted, decls_become}
use Rattle.call_answers.specs.declared.walking.InSight.{InSight}
use Rattle.call_answers.specs.declared.walking.Spot.{Spot}
use Rattle.call_answers.specs.Walking.{ArmBecomes, Chain, DeclsBecome, RowBecomes, StmtBecomes, next}

pub nothing_more : (n k : ℕ) → k ≡ 0 → n ≡ n + k
nothing_more n k e = omega (arith, e)

-- ---- chains

module _ {A : Type 0} (R : Spot → A → A → Spot → Type 0) where
  -- one pair more
  pub chain_step : (xs ys : List A) (i : ℕ) (x y : A) (p m q : Spot) → slice_get xs i ≡ Some x → slice_get ys i ≡ Some y → R p x y m → Chain R m (drop (suc i) xs) (drop (suc i) ys) q → Chain R p (drop i xs) (drop i ys) q
  chain_step [] ys i x y p m q e f r rest = absurd (none_is_not_some x e)
  chain_step (a ∷ xs) [] i x y p m q e f r rest = absurd (none_is_not_some y f)
  chain_step (a ∷ xs) (b ∷ ys) zero x y p m q e f r rest = (m, (subst (λ a. R p a b m) (sym (some_is a x e)) (subst (λ b. R p x b m) (sym (some_is b y f)) r), rest))
  chain_step (a ∷ xs) (b ∷ ys) (suc i) x y p m q e f r rest = chain_step xs ys i x y p m q e f r rest

  -- none behind the ends
  pub chain_end : (xs ys : List A) (i : ℕ) (p : Spot) → length xs ≤ i → length xs ≡ length ys → Chain R p (drop i xs) (drop i ys) p
  chain_end [] [] zero p le e = refl
  chain_end [] [] (suc i) p le e = refl
  chain_end [] (y ∷ ys) i p le e = absurd (omega (arith, e))
  chain_end (x ∷ xs) [] i p le e = absurd (omega (arith, e))
  chain_end (x ∷ xs) (y ∷ ys) zero p le e = absurd (omega (arith, le))
  chain_end (x ∷ xs) (y ∷ ys) (suc i) p le e = chain_end xs ys i p (omega (arith, le)) (omega (arith, e))

  -- how many slots they take
  pub chain_counts : (f g : A → ℕ) → ((p : Spot) (x y : A) (m : Spot) → R p x y m → (m.at ≡ p.at + f x) × (m.new ≡ p.new + g y))
      → (p : Spot) (xs ys : List A) (q : Spot) → Chain R p xs ys q → (q.at ≡ p.at + sum_by f xs) × (q.new ≡ p.new + sum_by g ys)
  chain_counts f g each p [] [] q h = (ap (λ (z : Spot). z.at) (sym h) ∙ nothing_more p.at 0 refl, ap (λ (z : Spot). z.new) (sym h) ∙ nothing_more p.new 0 refl)
  chain_counts f g each p [] (y ∷ ys) q h = absurd h
  chain_counts f g each p (x ∷ xs) [] q h = absurd h
  chain_counts f g each p (x ∷ xs) (y ∷ ys) q h =
      let one = each p x y h.0 h.1.0 in
      let more = chain_counts f g each h.0 xs ys q h.1.1 in
      let a = sum_by-cons f x xs in
      let b = sum_by-cons g y ys in
      (omega (arith, one.0, more.0, a), omega (arith, one.1, more.1, b))

-- ---- how many slots statements take

pub block_counted : (label : Label) (decls : List Decl) (body : List Stmt) (closing : Label) → counted (stmt.Block label decls body closing) ≡ length decls + sum_by counted body
block_counted label decls body closing = eq.of_block slot_counting label decls body closing ∙ ap (λ k. length decls + k) (sum-map counted body)

pub loop_counted : (label : Label) (kind : LoopKind) (body : List Stmt) (closing : Label) → counted (stmt.Loop label kind body closing) ≡ kind_vars kind + sum_by counted body
loop_counted label kind body closing = eq.of_loop slot_counting label kind body closing ∙ ap (λ k. kind_vars kind + k) (sum-map counted body)

abbrev pub arm_counted : Arm → ℕ
arm_counted a = branch_of slot_counting a

abbrev pub other_counted : Option (List Stmt) → ℕ
other_counted None = 0
other_counted (Some body) = sum_by counted body

pub arm_counts : (a : Arm) → arm_counted a ≡ sum_by counted a.body
arm_counts a = (eq.statement_equations slot_counting).arm a.test a.body ∙ sum-map counted a.body

arms_counted : (arms : List Arm) → sum (map (λ x. branch_of slot_counting x) arms) ≡ sum_by arm_counted arms
arms_counted arms = sum-map arm_counted arms

pub if_counted : (arms : List Arm) (other : Option (List Stmt)) → counted (stmt.If arms other) ≡ sum_by arm_counted arms + other_counted other
if_counted arms None = eq.of_if slot_counting arms None ∙ ap (λ k. k + 0) (arms_counted arms)
if_counted arms (Some body) = eq.of_if slot_counting arms (Some body) ∙ (λ i. arms_counted arms i + sum-map counted body i)

pub cases_counted : (arms : List Arm) (other : Option (List Stmt)) → counted (stmt.Cases arms other) ≡ sum_by arm_counted arms + other_counted other
cases_counted arms None = eq.of_cases slot_counting arms None ∙ ap (λ k. k + 0) (arms_counted arms)
cases_counted arms (Some body) = eq.of_cases slot_counting arms (Some body) ∙ (λ i. arms_counted arms i + sum-map counted body i)

module _ (r : Rules) (c : InSight) where
  pub row_counts : (p : Spot) (ss xs : List Stmt) (q : Spot) → RowBecomes r c p ss xs q → (q.at ≡ p.at + sum_by counted ss) × (q.new ≡ p.new + sum_by counted xs)
  row_counts = chain_counts (StmtBecomes r c) counted counted (λ p s x m h. (h.own, h.new))

  pub arm_ends : (p : Spot) (a x : Arm) (m : Spot) → ArmBecomes r c p a x m → (m.at ≡ p.at + arm_counted a) × (m.new ≡ p.new + arm_counted x)
  arm_ends p a x m h =
      let k = row_counts p a.body x.body m h.body in
      (k.0 ∙ ap (λ n. p.at + n) (sym (arm_counts a)), k.1 ∙ ap (λ n. p.new + n) (sym (arm_counts x)))

  pub arms_count : (p : Spot) (as_ xs : List Arm) (q : Spot) → Chain (ArmBecomes r c) p as_ xs q → (q.at ≡ p.at + sum_by arm_counted as_) × (q.new ≡ p.new + sum_by arm_counted xs)
  arms_count = chain_counts (ArmBecomes r c) arm_counted arm_counted arm_ends

-- ---- declarations

pub record DeclsAre (r : Rules) (m : Slots) (p : Spot) (ds ys : List Decl) (wide : Slots) (q : Spot) : Type 0 where
  pub become : decls_become r m p.at p.new ds ys
  pub slots : wide ≡ put_from (length ds) p.at p.new m
  pub own : q.at ≡ p.at + length ds
  pub new : q.new ≡ p.new + length ds
  pub as_many : length ys ≡ length ds

pub decls_are : (r : Rules) (ds ys : List Decl) (m : Slots) (p : Spot) (wide : Slots) (q : Spot) → DeclsBecome r m p ds ys wide q → DeclsAre r m p ds ys wide q
decls_are r [] [] m p wide q h = record {
  become = tt;
  slots = sym h.0;
  own = ap (λ (z : Spot). z.at) (sym h.1) ∙ nothing_more p.at 0 refl;
  new = ap (λ (z : Spot). z.new) (sym h.1) ∙ nothing_more p.new 0 refl;
  as_many = refl;
}
decls_are r [] (y ∷ ys) m p wide q h = absurd h
decls_are r (d ∷ ds) [] m p wide q h = absurd h
decls_are r (d ∷ ds) (y ∷ ys) m p wide q h =
    let more = decls_are r ds ys (put_at p.at p.new m) (next p) wide q h.2 in
    let a = more.own in let b = more.new in
    record {
      become = (h.0, h.1, more.become);
      slots = more.slots;
      own = omega (arith, a);
      new = omega (arith, b);
      as_many = ap suc more.as_many;
    }
