-- IF and CASE, arm by arm.
use Rattle.std.proofs.Common.{◌≡◌, sym, ap, ◌∙◌, ℕ, suc, ◌+◌, ◌<◌, ◌≤◌, true, false, List, ◌∷◌, map, length, drop, sum_by, slice_index_or, Result, Ok, Err, arith}
use Rattle.std.proofs.Math.Seq.{drop-cons}
use Rattle.std.proofs.lemmas.List.{drop_all}
use Rattle.std.proofs.lemmas.List.Sums.{sum_by-cons, sum_by-take-drop}
use Rattle.away_values.specs.declared.values.Value.{Value}
use Rattle.away_values.specs.declared.values.Class.{Class}
use Rattle.away_values.specs.declared.errors.OpError.{OpError}
use Rattle.away_trees.specs.declared.statements.Arm.{Arm}
use Rattle.away_trees.specs.StatementAlgebra.{branch_of}
use Rattle.away_values.specs.Operators.{is_true}
use Rattle.away_trees.specs.Count.{nodes_of, nodes_of_arm}
use Rattle.away_trees.proofs.CountLemmas.{arm_nodes}
use Rattle.plsql_meaning.specs.Outcomes.{Env, faults, Step}
use Rattle.plsql_meaning.specs.Statements.{Setting, in_arms, in_row, meanings, running, choose, pick, row_vars}
use Rattle.plsql_meaning.specs.Slots.{slots_of, slots_of_arm}
use Rattle.plsql_meaning.proofs.Slots.{all_take, arm_slots}
use Rattle.plsql_run.specs.declared.frames.Signal.{Signal}
use Rattle.plsql_run.specs.declared.frames.Signal.TheVariants as signal
use Rattle.plsql_run.specs.Continues.{IfEnds}

suc_is : (i : ℕ) → suc i ≡ i + 1
suc_is i = omega arith

pub drop_at : {A : Type 0} (arms : List A) (i : ℕ) (a : A) → a ≡ slice_index_or arms i a → i < length arms → drop i arms ≡ a ∷ drop (i + 1) arms
drop_at arms i a is lt = drop-cons arms i a lt ∙ (λ j. sym is j ∷ drop (suc_is i j) arms)

module _ (set : Setting) (other : ℕ → Step) where
  abbrev pub arms_at : List Arm → ℕ → Step
  arms_at arms at env n = in_arms set (map (λ x. branch_of (running set) x) arms) other at env n

  module _ (arms : List Arm) (i : ℕ) (a : Arm) (is : a ≡ slice_index_or arms i a) (lt : i < length arms) (at : ℕ) (env : Env) where
    at_arm : (n : ℕ) → arms_at (drop i arms) at env n ≡ choose (set.value a.test env) (in_row (meanings set a.body) at) (arms_at (drop (i + 1) arms) (at + row_vars (meanings set a.body))) env n
    at_arm n = ap (λ xs. arms_at xs at env n) (drop_at arms i a is lt)

    pub arm_fails : (c : Class) → set.value a.test env ≡ Err c → (n : ℕ) → (arms_at (drop i arms) at env n).outcome ≡ faults c
    arm_fails c e n = ap (λ x. x.outcome) (at_arm n ∙ ap (λ r. choose r (in_row (meanings set a.body) at) (arms_at (drop (i + 1) arms) (at + row_vars (meanings set a.body))) env n) e)

    pub arm_taken : (v : Value) → set.value a.test env ≡ Ok v → is_true v ≡ true → (n : ℕ) → arms_at (drop i arms) at env n ≡ in_row (meanings set a.body) at env n
    arm_taken v e holds n =
        at_arm n
        ∙ ap (λ r. choose r (in_row (meanings set a.body) at) (arms_at (drop (i + 1) arms) (at + row_vars (meanings set a.body))) env n) e
        ∙ ap (λ b. pick b (in_row (meanings set a.body) at) (arms_at (drop (i + 1) arms) (at + row_vars (meanings set a.body))) env n) holds

    pub arm_passed : (v : Value) (next : ℕ) → set.value a.test env ≡ Ok v → is_true v ≡ false → next ≡ at + sum_by slots_of a.body → (n : ℕ) → arms_at (drop (i + 1) arms) next env n ≡ arms_at (drop i arms) at env n
    arm_passed v next e fails same n = sym (
        at_arm n
        ∙ ap (λ r. choose r (in_row (meanings set a.body) at) (arms_at (drop (i + 1) arms) (at + row_vars (meanings set a.body))) env n) e
        ∙ ap (λ b. pick b (in_row (meanings set a.body) at) (arms_at (drop (i + 1) arms) (at + row_vars (meanings set a.body))) env n) fails
        ∙ ap (λ k. arms_at (drop (i + 1) arms) k env n) (ap (λ k. at + k) (all_take set a.body) ∙ sym same))

  pub no_arm_left : (arms : List Arm) (i : ℕ) → length arms ≤ i → (at : ℕ) (env : Env) (n : ℕ) → arms_at (drop i arms) at env n ≡ other at env n
  no_arm_left arms i le at env n = ap (λ xs. arms_at xs at env n) (drop_all i arms le)

-- the slots and the nodes of an arm within those of all
pub slots_within : (arms : List Arm) (i : ℕ) (a : Arm) → a ≡ slice_index_or arms i a → i < length arms → sum_by slots_of_arm (drop i arms) ≡ sum_by slots_of a.body + sum_by slots_of_arm (drop (i + 1) arms)
slots_within arms i a is lt = ap (sum_by slots_of_arm) (drop_at arms i a is lt) ∙ sum_by-cons slots_of_arm a (drop (i + 1) arms) ∙ ap (λ k. k + sum_by slots_of_arm (drop (i + 1) arms)) (arm_slots a)

pub nodes_within : (arms : List Arm) (i : ℕ) (a : Arm) → a ≡ slice_index_or arms i a → i < length arms → 1 + sum_by nodes_of a.body ≤ sum_by nodes_of_arm arms
nodes_within arms i a is lt = omega (arith, sum_by-take-drop nodes_of_arm arms i, ap (sum_by nodes_of_arm) (drop_at arms i a is lt), sum_by-cons nodes_of_arm a (drop (i + 1) arms), arm_nodes a)

pub if_ends : {P Q : Type 0} (r : Result Signal OpError) → (P → Q) → IfEnds r P → IfEnds r Q
if_ends (Ok (signal.Ends w)) f p = f p
if_ends (Ok (signal.Returns v)) f p = tt
if_ends (Ok signal.Turn) f p = tt
if_ends (Err e) f p = tt

pub ends_anyway : {P : Type 0} (r : Result Signal OpError) → P → IfEnds r P
ends_anyway (Ok (signal.Ends w)) p = p
ends_anyway (Ok (signal.Returns v)) p = tt
ends_anyway (Ok signal.Turn) p = tt
ends_anyway (Err e) p = tt
