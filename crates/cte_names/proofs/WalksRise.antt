-- The numbers of aliases rise along a body.
use Rattle.std.proofs.Common.{ℕ, suc, ◌≤◌, List, [], ◌∷◌, ◌++◌, length, arith}
use Rattle.away_trees.specs.declared.queries.Expr.{Expr}
use Rattle.away_trees.specs.declared.queries.FromItem.{FromItem}
use Rattle.call_forms.specs.Bodies.{Body, sets, enters, picks, returns, fails, calls, endless}
use Rattle.call_forms.specs.Scopes.{Scope, paired}
use Rattle.call_forms.specs.Template.{is_not_true}
use Rattle.sql_meaning.specs.Trees.{col}
use Rattle.cte_parts.specs.Trees.{gate_as}
use Rattle.cte_template.specs.Making.{Making}
use Rattle.cte_template.specs.Places.{nowhere, first_of, stands}
use Rattle.cte_template.specs.Walks.{Walked, walk, let_at}
use Rattle.cte_template.specs.declared.places.ItemColumn.{ItemColumn}

pub rises : (m : Making) (x : Body) (depth : ℕ) (places : Scope ItemColumn) (fs : List FromItem) (k : ℕ) → k ≤ (walk m depth places fs k x).next
rises m (sets n t x) depth places fs k =
    omega (arith, rises m x depth (stands n (first_of depth (length fs)) places) (fs ++ (let_at m depth places k (m.types n) t ∷ [])) (suc k))
rises m (enters params args x) depth places fs k = rises m x depth (paired places nowhere params args) fs k
rises m (picks t x y) depth places fs k =
    let e : Expr = col 2 (length fs) 0 in
    let first : Walked = walk m (suc depth) places (gate_as (suc (suc k)) e ∷ []) (suc (suc (suc k))) x in
    omega (
      arith,
      rises m x (suc depth) places (gate_as (suc (suc k)) e ∷ []) (suc (suc (suc k))),
      rises m y (suc depth) places (gate_as first.next (is_not_true e) ∷ []) (suc first.next),
    )
rises m (returns t) depth places fs k = omega arith
rises m (fails c) depth places fs k = omega arith
rises m (calls label keys args) depth places fs k = omega arith
rises m endless depth places fs k = omega arith
