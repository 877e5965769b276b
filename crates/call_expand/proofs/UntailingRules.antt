-- The function that is made, by its parts.
use Rattle.std.proofs.Common.{◌≡◌, ap, subst, ℕ, suc, ◌≤◌, List, [], ◌∷◌, length}
use Rattle.away_trees.specs.declared.schemas.Schema.{Schema}
use Rattle.away_trees.specs.declared.statements.Function.{Function}
use Rattle.away_trees.specs.declared.statements.Stmt.{Stmt}
use Rattle.away_trees.specs.StatementAlgebra.{stmt_of}
use Rattle.away_names.specs.Lookups.{Name}
use Rattle.moved_names.specs.Fresh.{AreFresh}
use Rattle.call_expand.specs.declared.made.Made.{Made}
use Rattle.call_expand.specs.declared.made.Seen.{Seen}
use Rattle.call_expand.specs.declared.made.Work.{Work}
use Rattle.call_expand.specs.Moving.{moved_params, moving, seeing_params}
use Rattle.call_expand.specs.Plans.{planned_assignment, planned_return, planned_stmt}
use Rattle.call_expand.specs.Untailing.{IsUntailing, assigned, label, old_body, returned, turning_body}

-- the old body is what a walk makes of it whose places are those of self calls
pub old_body_is : (w : Work) (f : Function) (seen : Seen) (k : ℕ) → planned_assignment w ≡ assigned w.names.now f → planned_return w ≡ returned w.names.now f → seen ≡ seeing_params 0 f.params → k ≡ suc (label f)
    → planned_stmt w f.body seen k ≡ old_body w.names.now f
unfolding planned_stmt
old_body_is w f seen k sets ends see at = λ i. stmt_of (moving w.names.now (sets i) (ends i)) f.body (see i) (at i)

pub is_untailing : (s : Schema) (f : Function) (names : List Name) (old : Made Stmt) → AreFresh s (f ∷ []) names → old ≡ old_body names f → old.next ≤ length names
    → IsUntailing s f (record { name = f.name; strict = f.strict; params = moved_params names 0 f.params; result = f.result; body = turning_body names f old.it })
is_untailing s f names old fresh is few = record {
  names = names;
  fresh = fresh;
  enough = subst (λ x. x.next ≤ length names) is few;
  is = ap (λ x. record { name = f.name; strict = f.strict; params = moved_params names 0 f.params; result = f.result; body = turning_body names f x.it }) is;
}
