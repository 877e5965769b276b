-- The plan of a body by its first block, from the plans of what follows.
use Rattle.std.proofs.Common.{◌≡◌, refl, ap, sym, ◌∙◌, ℕ, ◌+◌, Bool, false, List, [], length}
use Rattle.away_trees.specs.declared.queries.Expr.{Expr}
use Rattle.away_values.specs.declared.types.Ty.TheVariants as ty
use Rattle.block_forms.specs.declared.forms.Term.{Term}
use Rattle.call_forms.specs.Bodies.{Body, sets, enters, picks}
use Rattle.call_forms.specs.References.{is_not_true}
use Rattle.call_forms.specs.Scopes.{Scope, paired}
use Rattle.turn_template.specs.TurnTemplate.{Ref, Plan, Settled, no_ref, names, both, behind, chosen, unless}
use Rattle.turn_terms.specs.Sameness.{same}
use Rattle.turn_terms.specs.Writing.{types_in}
use Rattle.turn_terms.specs.declared.writer.Writer.{Writer}
use Rattle.turn_query.specs.Filled.{plan, settled, waiting, may_wait}

module _ (w : Writer) (m : ℕ) (g : Expr) (refs : Scope Ref) (y : Body) where
  -- a body whose first block takes its term
  settled_at : (z : Body) (p rest : Plan) → y ≡ z → plan w m g refs z ≡ unless (may_wait w [] z) (waiting w refs z) rest
      → (b : Bool) → b ≡ may_wait w [] y → b ≡ false → p ≡ rest → p ≡ plan w m g refs y
  settled_at z p rest is step b told fails made =
      let steps : may_wait w [] z ≡ false = ap (may_wait w []) (sym is) ∙ (sym told ∙ fails) in
      made ∙ (ap (λ b. unless b (waiting w refs z) rest) (sym steps) ∙ (sym step ∙ ap (plan w m g refs) (sym is)))

  -- an assignment
  module _ (n : ℕ) (t : Term) (x : Body) (is : y ≡ sets n t x) (b : Bool) (told : b ≡ may_wait w [] y) where
    abbrev after_set : Settled → Plan
    after_set s = behind s (plan w (length s.steps + m) g (names n s.ref refs) x)

    abbrev set_rest : Plan
    set_rest = after_set (settled w m g refs (types_in w n) t)

    pub set_settles : (p q : Plan) (s : Settled) → b ≡ false → s ≡ settled w m g refs (types_in w n) t
        → q ≡ plan w (length s.steps + m) g (names n s.ref refs) x → p ≡ behind s q → p ≡ plan w m g refs y
    set_settles p q s takes is_settled then made =
        settled_at (sets n t x) p set_rest is refl b told takes (made ∙ (ap (behind s) then ∙ ap after_set is_settled))

  -- a test
  module _ (t : Term) (x z : Body) (is : y ≡ picks t x z) (b : Bool) (told : b ≡ may_wait w [] y) where
    abbrev yes_at : Settled → Plan
    yes_at s = plan w (length s.steps + m) (both g (s.ref 0)) refs x

    abbrev no_at : ℕ → Settled → Plan
    no_at k s = plan w (k + (length s.steps + m)) (both g (is_not_true (s.ref 0))) refs z

    abbrev after_test : Settled → Plan
    after_test s = behind s (chosen same (s.ref 0) (yes_at s) (no_at (length (yes_at s).steps) s))

    abbrev test_rest : Plan
    test_rest = after_test (settled w m g refs ty.Boolean t)

    pub test_settles : (p q r : Plan) (s : Settled) (k : ℕ) → b ≡ false → s ≡ settled w m g refs ty.Boolean t → q ≡ yes_at s → k ≡ length q.steps
        → r ≡ no_at k s → p ≡ behind s (chosen same (s.ref 0) q r) → p ≡ plan w m g refs y
    test_settles p q r s k takes is_settled first count second made =
        let others : r ≡ no_at (length (yes_at s).steps) s = second ∙ ap (λ k. no_at k s) (count ∙ ap (λ (q : Plan). length q.steps) first) in
        settled_at (picks t x z) p test_rest is refl b told takes
        (made ∙ ((λ i. behind s (chosen same (s.ref 0) (first i) (others i))) ∙ ap after_test is_settled))

  -- a block that is entered
  pub enters_plan : (params args : List ℕ) (x : Body) (p : Plan) → y ≡ enters params args x → p ≡ plan w m g (paired refs no_ref params args) x
      → p ≡ plan w m g refs y
  enters_plan params args x p is made = made ∙ ap (plan w m g refs) (sym is)
